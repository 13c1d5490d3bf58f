-- What `converse` says, as one number.
-- Assumes nothing.
use Rattle.units.proofs.Common.{sym, ◌∙◌, ◌≡◌, refl, ap, cond, List, ℕ, ◌*◌, leb, length}
use Rattle.dialog.specs.Dialog.{lines_of, conversation, longest_answer}
use Rattle.conversation.specs.Conversation.{Converses}
use Rattle.conversation.specs.declared.Text.{Text}
use Rattle.rashdumof.proofs.Numbers.{by_test}
use Rattle.rashdumof.proofs.rashdumof_console.Goals as goal

number : Text → ℕ
number (Text.Written n) = n
number Text.TooShort = 18446744073709551615

number_is : (input old new : List ℕ) {r : Text} → Converses input old new r
    → number r ≡ cond (leb (length (lines_of input) * longest_answer) (length old)) (length (conversation input)) 18446744073709551615
unfolding number
number_is input old new w = ap number w.says ∙ by_test number Text.Written Text.TooShort (λ n. refl)
    (leb (length (lines_of input) * longest_answer) (length old)) (length (conversation input))

pub returns-in-Written : goal.returns-in-Written
unfolding number
returns-in-Written c =
    let l = c.converse in
    record {
      value = ap number (sym c.in-Written.is) ∙ number_is c.args.input.now c.args.out.now l.new.out l.ensures;
      out_after = l.ensures.writes;
      input_in_bounds = l.ensures.fits;
    }

pub returns-in-TooShort : goal.returns-in-TooShort
unfolding number
returns-in-TooShort c =
    let l = c.converse in
    record {
      value = ap number (sym c.in-TooShort.is) ∙ number_is c.args.input.now c.args.out.now l.new.out l.ensures;
      out_after = l.ensures.writes;
      input_in_bounds = l.ensures.fits;
    }
