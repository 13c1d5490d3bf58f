-- The whole walk is the rest of it: at each node, and at each of its answers.
-- Assumes nothing.
use Rattle.units.proofs.Common.{sym, ◌∙◌, ◌≡◌, ap, true, true≢false, arith, length, drop, rules}
use Rattle.meaning.specs.Bench.{node_count}
use Rattle.meaning.proofs.Terms.{full}
use Rattle.machine.proofs.Terms.{counts, zeros}
use Rattle.state.proofs.Lists.{length_mapped}
use Rattle.lists.specs.Line.{ok_answer}
use Rattle.lists.proofs.WordsRead.{Lies, lies}
use Rattle.lists.proofs.Charges.{count_at, length_words}
use Rattle.lists.proofs.Walk.{go_in, go_end, go_on, go_bad, go_out, go_off}
use Rattle.lists.proofs.line.in_line.Goals as goal
use Rattle.lists.proofs.line.in_line.Goals.{else-nodes-test, then-nodes-test+then-loop-k-test+then-not-answer_ok}
use Rattle.lists.proofs.line.in_line.Goals.{then-nodes-test+else-loop-k-test+then-h-place}

pub loop-k-init : goal.loop-k-init
loop-k-init c =
    let n : length c.args.nodes ≡ node_count full = search (rules, length_mapped) in
    let k : length c.args.held ≡ node_count full = search rules in
    let m : length (counts c.args.held) ≡ node_count full = length_words c.args.held ∙ k in
    let l = c.nodes in (
      omega arith,
      omega arith,
      l.invariant.1,
      go_in full _ c.args.store.now l.i l.place _ _ l.invariant.2 _ (omega arith) (omega arith),
    )

pub offset_bounds-store-place : goal.offset_bounds-store-place
offset_bounds-store-place c =
    let in_order : ok_answer full c.nodes.i (drop c.loop-k.place c.args.store.now) ≡ true = sym c.answer_ok.ensures ∙ c.if-not-answer_ok.false in
    let inside : Lies c.args.store.now c.loop-k.place = lies full _ _ _ in_order in
    search (rules, inside)

pub bounds-store-place : goal.bounds-store-place
bounds-store-place c =
    let in_order : ok_answer full c.nodes.i (drop c.loop-k.place c.args.store.now) ≡ true = sym c.answer_ok.ensures ∙ c.if-not-answer_ok.false in
    let inside : Lies c.args.store.now c.loop-k.place = lies full _ _ _ in_order in
    omega arith

pub loop-k-preserved : goal.loop-k-preserved
loop-k-preserved c =
    let in_order : ok_answer full c.nodes.i (drop c.loop-k.place c.args.store.now) ≡ true = sym c.answer_ok.ensures ∙ c.if-not-answer_ok.false in
    let v = c.loop-k.invariant in
    let t = c.loop-k-test.true in
    (omega arith, omega arith, v.2, go_on full _ c.args.store.now c.nodes.i c.loop-k.place _ c.loop-k.k _ _ _ _ v.3 t v.1 in_order)

pub nodes-preserved : goal.nodes-preserved
nodes-preserved c =
    let v = c.loop-k.invariant in
    let q = count_at c.args.held c.nodes.i ∙ c.if-h-place.false in
    let t = c.loop-k-test.false in
    (omega arith, v.2, go_out full _ c.args.store.now c.nodes.i c.loop-k.place _ c.loop-k.k _ _ _ _ v.3 t q)

pub returns-then-not-fine : goal.returns-then-not-fine
returns-then-not-fine c =
    let m = c.nodes in
    let f = c.if-not-fine.true in
    elim c.nodes-test.branch [
      | else-nodes-test w ↦ absurd (true≢false (sym m.invariant.1 ∙ sym w.fine-is ∙ f))
      | then-nodes-test+then-loop-k-test+then-not-answer_ok w ↦
          sym (go_bad full _ _ _ _ _ _ _ _ _ _ w.loop-k.invariant.3 w.loop-k-test.true (sym w.answer_ok.ensures ∙ w.if-not-answer_ok.true))
      | then-nodes-test+else-loop-k-test+then-h-place w ↦
          sym
          (go_off full _ _ _ _ _ _ _ _ _ _ w.loop-k.invariant.3 w.loop-k-test.false
          (λ e. w.if-h-place.true (sym (count_at c.args.held m.i) ∙ e)))
    ]

pub returns : goal.returns
returns c =
    let n : length c.args.nodes ≡ node_count full = search (rules, length_mapped) in
    let k : length c.args.held ≡ node_count full = search rules in
    let h : length (counts c.args.held) ≡ node_count full = length_words c.args.held ∙ k in
    let f = c.if-not-fine.false in
    let store = c.args.store.now in
    let m = c.nodes in
    elim c.nodes-test.branch [
      | else-nodes-test w ↦
          let t = w.nodes-test.false in
          c.all_zero.ensures ∙ ap (λ p. zeros (drop p store)) w.place-is
          ∙ sym (go_end full _ store m.i m.place _ _ m.invariant.2 (omega arith) (omega arith))
      | then-nodes-test+then-loop-k-test+then-not-answer_ok w ↦ absurd (true≢false (sym f ∙ w.fine-is))
      | then-nodes-test+else-loop-k-test+then-h-place w ↦ absurd (true≢false (sym f ∙ w.fine-is))
    ]
