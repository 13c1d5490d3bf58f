-- What `list` says, as one number.
-- Assumes nothing.
use Rattle.units.proofs.Common.{sym, ◌∙◌, ◌≡◌, refl, ap, cond, List, ℕ, leb, length}
use Rattle.listing.specs.Listing.{listing, longest_listing}
use Rattle.nightrun.specs.Walk.{Lists}
use Rattle.nightrun.specs.declared.Listed.{Listed}
use Rattle.rashdumof.proofs.Numbers.{by_test}
use Rattle.rashdumof.proofs.rashdumof_night.Goals as goal

number : Listed → ℕ
number (Listed.Written n) = n
number Listed.TooShort = 18446744073709551615

number_is : (file old new : List ℕ) {r : Listed} → Lists file old new r
    → number r ≡ cond (leb longest_listing (length old)) (length (listing file)) 18446744073709551615
unfolding number
number_is file old new l = ap number l.says ∙ by_test number Listed.Written Listed.TooShort (λ n. refl) (leb longest_listing (length old))
    (length (listing file))

pub returns-in-Written : goal.returns-in-Written
unfolding number
returns-in-Written c =
    let l = c.list in
    record {
      value = ap number (sym c.in-Written.is) ∙ number_is c.args.file.now c.args.out.now l.new.out l.ensures;
      out_after = l.ensures.writes;
      file_in_bounds = l.ensures.fits;
    }

pub returns-in-TooShort : goal.returns-in-TooShort
unfolding number
returns-in-TooShort c =
    let l = c.list in
    record {
      value = ap number (sym c.in-TooShort.is) ∙ number_is c.args.file.now c.args.out.now l.new.out l.ensures;
      out_after = l.ensures.writes;
      file_in_bounds = l.ensures.fits;
    }
