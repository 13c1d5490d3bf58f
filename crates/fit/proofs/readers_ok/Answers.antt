-- The loop's invariant: all readers are in order exactly where those from here on are.
use Rattle.units.proofs.Common.{sym, ◌∙◌, ◌≡◌, ap, true, false, List, arith, length, get_or, rules}
use Rattle.units.proofs.Common.{yes_and, no_and}
use Rattle.meaning.proofs.Terms.{full}
use Rattle.machine.proofs.Terms.{reader_ok, fresh_reader}
use Rattle.state.specs.declared.reader.Reader.{Reader}
use Rattle.state.proofs.Lists.{length_mapped, every_at, every_end}
use Rattle.fit.proofs.readers_ok.Goals as goal

pub returns-then-not-reader_ok : goal.returns-then-not-reader_ok
returns-then-not-reader_ok c =
    let a = c.args in
    let l : List Reader = a.readers in
    let n : length l ≡ full.readers = search (rules, length_mapped) in
    let i = c.loop-i.i in
    let e : reader_ok full (get_or l i fresh_reader) ≡ false = ap (reader_ok full) (sym c.reader_of.ensures) ∙ sym
    c.reader_ok.ensures ∙ c.if-not-reader_ok.true in
    sym (c.loop-i.invariant.1 ∙ every_at (reader_ok full) l i fresh_reader (omega arith) ∙ no_and _ e)

pub loop-i-preserved : goal.loop-i-preserved
loop-i-preserved c =
    let a = c.args in
    let l : List Reader = a.readers in
    let n : length l ≡ full.readers = search (rules, length_mapped) in
    let i = c.loop-i.i in
    let e : reader_ok full (get_or l i fresh_reader) ≡ true = ap (reader_ok full) (sym c.reader_of.ensures) ∙ sym
    c.reader_ok.ensures ∙ c.if-not-reader_ok.false in
    (omega arith, c.loop-i.invariant.1 ∙ every_at (reader_ok full) l i fresh_reader (omega arith) ∙ yes_and e)

pub returns : goal.returns
returns c =
    let l : List Reader = c.args.readers in
    let n : length l ≡ full.readers = search (rules, length_mapped) in
    sym (c.loop-i.invariant.1 ∙ every_end (reader_ok full) l c.loop-i.i (omega arith))
