-- What is left, stored from where the loop stands, gives what the whole gives, stored from the front.
-- Assumes nothing.
use Rattle.units.proofs.Common.{◌≡◌, true, length, sets, every}
use Rattle.fields.specs.FieldsAt.{fields_from}
use Rattle.hexwords.specs.WordsAt.{words_from}
use Rattle.dialog.specs.Fields.{word_ok}
use Rattle.hexwords.proofs.put_words.Given as goal

abbrev pub invariant-loop-word : goal.invariant-loop-word
invariant-loop-word l = (length l.out ≡ length l.initial.out)
    × (sets l.out l.word-index (words_from l.line l.from) ≡ sets l.initial.out 0 (words_from l.line l.at))
    × (every word_ok (fields_from l.line l.from) ≡ true)
