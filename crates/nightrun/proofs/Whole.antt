-- The whole night: from a blank gateway the lines of a file that was opened, joined, are the listing.
-- Assumes nothing.
use Rattle.units.proofs.Common.{sym, ◌∙◌, ◌≡◌, refl, ap, true, false, Bool, true≢false, List, [], ◌∷◌, ◌++◌, append-nil, ℕ, ◌≤◌, ◌<◌, ◌^◌}
use Rattle.units.proofs.Common.{zero-add, arith, leb, length, sets, le-leb, lt-leb, yes_cond, no_cond}
use lib.Seq.{length-sets}
use Rattle.meaning.proofs.Terms.{full, Gateway}
use Rattle.machine.proofs.Terms.{Machine, meaning}
use Rattle.text.specs.Text.{Put}
use Rattle.text.proofs.Writing.{put_as, put_then, put_length}
use Rattle.listing.specs.Lines.{commands_line, broken_line, flat}
use Rattle.listing.specs.Listing.{file_lines, blank, listing, longest_listing}
use Rattle.listingout.proofs.Rooms.{commands_room}
use Rattle.hearing.specs.Opened.{to_come, Opens}
use Rattle.hearing.specs.declared.opening.Opened.{Opened}
use Rattle.hearing.proofs.Standing.{opened_broken, opened_fine}
use Rattle.nightrun.specs.Walk.{Ready, Plays, Lists}
use Rattle.nightrun.specs.declared.Listed.{Listed}

-- ---- written, or not
pub listed : (file old new : List ℕ) (r : ℕ) → longest_listing ≤ length old → Put old 0 (listing file) new r → r ≤ length old
    → Lists file old new (Listed.Written r)
listed file old new r h p room = record {
  says =
      ap Listed.Written (p.next ∙ zero-add (length (listing file)))
      ∙ sym (yes_cond Listed.TooShort (le-leb longest_listing (length old) h));
  writes = p.wrote ∙ sym (yes_cond old (le-leb longest_listing (length old) h));
  fits = λ q. omega (arith, p.next, room);
}

pub not_listed : (file old : List ℕ) → length old < longest_listing → Lists file old old Listed.TooShort
not_listed file old h = record {
  says = sym (no_cond (Listed.Written (length (listing file))) (lt-leb longest_listing (length old) h));
  writes = sym (no_cond (sets old 0 (listing file)) (lt-leb longest_listing (length old) h));
  fits = λ q. absurd (true≢false (sym q ∙ lt-leb longest_listing (length old) h));
}

-- what is written stands inside the output
pub listed_inside : {file old new : List ℕ} {r : Listed} {n : ℕ} → r ≡ Listed.Written n → Lists file old new r → n ≤ length new
listed_inside {file} {old} {new} {r} {n} w l = by_room (leb longest_listing (length old)) refl
  where
    by_room : (t : Bool) → leb longest_listing (length old) ≡ t → n ≤ length new
    by_room true e =
        let q = l.says ∙ yes_cond Listed.TooShort e in
        let z : n ≡ length (listing file) = cc in
        let s : length new ≡ length old = ap length (l.writes ∙ yes_cond old e) ∙ simp length-sets in
        omega (arith, l.fits e)
    by_room false e =
        let q = l.says ∙ no_cond (Listed.Written (length (listing file))) e in
        let z : ◌≡◌ {A = ℕ} 0 1 = cc in
        omega arith

-- ---- the listing of a file that was opened
module _ {file : List ℕ} {g : Gateway} {o : Opened} {m : Machine} (from : g ≡ blank full) (opens : Opens full file g o m) where
  listing_is : (ls : List (List ℕ)) → file_lines full g file ≡ ls → flat ls ≡ listing file
  unfolding listing
  listing_is ls e = ap flat (sym e) ∙ ap (λ (g : Gateway). flat (file_lines full g file)) from

  pub listing_broken : o.fine ≡ false → broken_line ≡ listing file
  unfolding flat
  listing_broken e = sym (append-nil broken_line) ∙ listing_is (broken_line ∷ []) (opened_broken opens e)

  -- the line of the command count, then the commands
  module _ (fine : o.fine ≡ true) {old out : List ℕ} {to : ℕ} (head : Put old 0 (commands_line o.walk.left) out to)
      (long : longest_listing ≤ length old) where
    listing_fine : commands_line o.walk.left ++ flat (to_come full file o.walk (meaning full m)) ≡ listing file
    unfolding flat
    listing_fine = listing_is (commands_line o.walk.left ∷ to_come full file o.walk (meaning full m)) (opened_fine opens fine)

    pub ready_fine : o.walk.left < 10 ^ 5 → Ready (length file) o.walk (length out) to
    ready_fine few = record {
      inside = opens.inside fine;
      short = opens.short fine;
      long = omega (arith, put_length head, long);
      room = omega (arith, commands_room o.walk.left head few);
    }

    pub listed_fine : {new : List ℕ} {r : ℕ} → Plays full file o.walk (meaning full m) out to new r
        → Lists file old new (Listed.Written r)
    listed_fine {new} {r} p =
        listed file old new r long (put_as listing_fine (put_then head p.text)) (omega (arith, p.fits, put_length head))
