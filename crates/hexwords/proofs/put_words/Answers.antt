-- What is left, stored from where the loop stands, gives what the whole gives, stored from the front.
-- Assumes nothing.
use Rattle.units.proofs.Common.{sym, ◌∙◌, ◌≡◌, ap, ◌+◌, ◌-◌, List, map, ℕ, add-one, arith, length-set, sets, set-get_or}
use Rattle.dialog.proofs.FieldLaws.{every_split}
use Rattle.fields.proofs.Places.{from_past}
use Rattle.hexwords.proofs.Words.{first_word}
use Rattle.hexwords.specs.WordsAt.{words_from}
use Rattle.dialog.specs.Fields.{word_ok, word_of}
use Rattle.dialog.proofs.HexLaws.{word_length, word_digits}
use Rattle.units.proofs.PackingLaws.{sets_past}
use Rattle.hexwords.proofs.put_words.Goals as goal

pub returns-then-line-from : goal.returns-then-line-from
returns-then-line-from c =
    let a = c.args in
    set-get_or _ _ _ ∙ sym (ap (sets _ c.loop-word.word-index) (ap (map word_of) (from_past a.line.now c.loop-word.from
    c.if-line-from.true))) ∙ c.loop-word.invariant.1

pub slice_bounds-word_of-end : goal.slice_bounds-word_of-end
slice_bounds-word_of-end c =
    let w = first_word c.args.line.now c.loop-word.from c.if-line-from.false c.loop-word.invariant.2 in
    omega (arith, w.inside)

pub word_of-requires : goal.word_of-requires
word_of-requires c =
    let w = first_word c.args.line.now c.loop-word.from c.if-line-from.false c.loop-word.invariant.2 in
    let four : c.loop-word.from + 4 - c.loop-word.from ≡ 4 = omega arith in
    rw four (word_length _ w.ok, word_digits _ w.ok)

pub loop-word-preserved : goal.loop-word-preserved
loop-word-preserved c =
    let w = first_word c.args.line.now c.loop-word.from c.if-line-from.false c.loop-word.invariant.2 in
    let four : c.loop-word.from + 4 - c.loop-word.from ≡ 4 = omega arith in (
      simp length-set c.loop-word.invariant.0,
      rw (add-one c.loop-word.word-index, c.word_of.ensures, four)
          (sym (ap (λ (z : List (List ℕ)). sets c.loop-word.out c.loop-word.word-index (map word_of z)) w.first) ∙ c.loop-word.invariant.1),
      (every_split word_ok w.first c.loop-word.invariant.2).1,
    )

pub returns : goal.returns
returns c =
    sym (sets_past c.loop-word.out c.loop-word.word-index (words_from c.args.line.now c.loop-word.from) (omega arith)) ∙
    c.loop-word.invariant.1
