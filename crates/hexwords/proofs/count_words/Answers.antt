-- All pieces of the rest are words just where all fields are.
-- Assumes nothing.
use Rattle.units.proofs.Common.{◌∙◌, ◌≡◌, ap, ℕ, ◌-◌, List, length, drop, take, arith, take_all, length-drop, rules}
use borrow.Author.Tests.{tests}
use Rattle.std.specs.List.{list_all}
use Rattle.std.proofs.lemmas.Iterator.Search.{all_from_yields_List}
use Rattle.hexwords.specs.WordsAt.{is_piece, words_at}
use Rattle.hexwords.proofs.Words.{yields_pieces, pieces, counted}
use Rattle.hexwords.proofs.count_words.Goals as goal

whole : (line : List ℕ) (at : ℕ) → take (length line - at) (drop at line) ≡ drop at line
whole line at = take_all (length line - at) (drop at line) (omega (arith, length-drop at line))

pub returns : goal.returns
returns c =
    let line = c.args.line.now in
    let at = c.args.at in
    let r = all_from_yields_List is_piece _ _ _ c.all.ensures.ran (yields_pieces c.chunks.result c.chunks.ensures.size)
    (λ x b q k. search (rules, tests)) in
    let e : c.then_some.result ≡ words_at line at =
    c.then_some.ensures ∙ counted line at _ _ c.if-line-at.false (ap length (whole line at) ∙ length-drop at line) c.if-words-ne4.false
    (r ∙ ap (λ (xs : List ℕ). list_all is_piece (pieces xs)) (c.chunks.ensures.rest ∙ whole line at)) in
    search (rules, tests)
