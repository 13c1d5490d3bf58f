-- An answer inside the store is in order exactly if the reader of responses accepts its words and they name the node.
-- Assumes nothing.
use Rattle.units.proofs.Common.{sym, arith}
use Rattle.meaning.proofs.Terms.{full}
use Rattle.lists.proofs.WordsRead.{ok_none, ok_past, ok_read, ok_refused}
use Rattle.lists.proofs.line.answer_ok.Goals as goal

pub returns-then-store-place : goal.returns-then-store-place
returns-then-store-place c = let a = c.args in sym (ok_none full a.store.now a.i a.place c.if-store-place.true)

pub returns-then-store-place-2 : goal.returns-then-store-place-2
returns-then-store-place-2 c =
    let a = c.args in
    sym (ok_past full a.store.now a.i a.place (omega arith))

pub returns-in-Accepted : goal.returns-in-Accepted
returns-in-Accepted c =
    let a = c.args in
    rw c.node_at.ensures (sym (ok_read full a.store.now a.i a.place _ _ (sym c.in-Accepted.ensures)))

pub returns-in-Refused : goal.returns-in-Refused
returns-in-Refused c =
    let a = c.args in
    sym (ok_refused full a.store.now a.i a.place _ (sym c.in-Refused.ensures))
