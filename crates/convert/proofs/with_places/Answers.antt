-- After so many steps the place to come is where the words of the nodes passed end, as `old_nodes` counts it.
use Rattle.units.proofs.Common.{sym, ◌∙◌, ◌≡◌, refl, ap, cond, List, ℕ, ◌+◌, ◌<◌, arith, eqb, length, get_or, take}
use Rattle.units.proofs.Common.{length-set, length-map, get_or-map, take_all, eq-eqb, ne_eqb, rules, yes_cond, no_cond}
use Rattle.units.specs.declared.Words.{Words}
use Rattle.machine.proofs.Terms.{nothing, counts}
use Rattle.state.proofs.Lists.{length_mapped}
use Rattle.state.specs.declared.node.Node.{Node}
use Rattle.machine.proofs.Read.{blank}
use Rattle.lists.specs.Room.{sum, place_of}
use Rattle.lists.proofs.Places.{place_suc, place_in}
use Rattle.convert.specs.Convert.{old_nodes}
use Rattle.convert.proofs.Loops.{old_filled}
use Rattle.convert.proofs.with_places.Goals as goal
use Rattle.convert.proofs.with_places.Goals.{then-n-ne0, else-n-ne0}

pub loop-k-init : goal.loop-k-init
unfolding old_nodes sum
loop-k-init c = (omega arith, ap length c.silent_placed-ns.ensures, refl, refl)

pub overflow_add-to : goal.overflow_add-to
overflow_add-to c =
    let held_each : length c.args.held ≡ 17 = search (rules, length_mapped) in
    -- the words of one node more
    let more : (k : ℕ) → k < 17 → place_of (counts c.args.held) (k + 1) ≡ place_of (counts c.args.held) k + (get_or
    c.args.held k nothing).0 = λ k h. let hs : List Words = c.args.held in
    let l : length (counts hs) ≡ 17 = length-map hs (λ (w : Words). w.0) ∙ held_each in
    place_suc (counts hs) k (omega arith) ∙ ap (λ (x : ℕ). place_of (counts hs) k + x) (get_or-map (λ (w : Words). w.0) hs k nothing) in
    let l = c.loop-k in
    record { fits = omega (arith, more l.k (omega arith), place_in (counts c.args.held) (l.k + 1), c.requires, l.invariant.2) }

pub loop-k-preserved : goal.loop-k-preserved
unfolding old_nodes
loop-k-preserved c =
    let held_each : length c.args.held ≡ 17 = search (rules, length_mapped) in
    -- the words of one node more
    let more : (k : ℕ) → k < 17 → place_of (counts c.args.held) (k + 1) ≡ place_of (counts c.args.held) k + (get_or
    c.args.held k nothing).0 = λ k h. let hs : List Words = c.args.held in
    let l : length (counts hs) ≡ 17 = length-map hs (λ (w : Words). w.0) ∙ held_each in
    place_suc (counts hs) k (omega arith) ∙ ap (λ (x : ℕ). place_of (counts hs) k + x) (get_or-map (λ (w : Words). w.0) hs k nothing) in
    let nodes_each : length c.args.nodes ≡ 17 = search (rules, length_mapped) in
    let l = c.loop-k in
    let ns = c.args.nodes in
    let hs = c.args.held in
    let m : ℕ = (get_or ns l.k blank).answers in
    let i = c.if-n-ne0 in
    let p : i.place ≡ cond (eqb m 0) 0 l.to =
    elim i.branch [
      | then-n-ne0 w ↦ w.place-is ∙ sym (no_cond 0 (ne_eqb m 0 w.if-n-ne0.true))
      | else-n-ne0 w ↦ w.place-is ∙ sym (yes_cond l.to (eq-eqb m 0 w.if-n-ne0.false))
    ] in (
      omega arith,
      simp length-set l.invariant.1,
      omega (arith, more l.k (omega arith), l.invariant.2),
      old_filled ns hs l.ns l.k l.to blank nothing _ (omega (arith, nodes_each)) (held_each ∙ sym (nodes_each))
          (omega (arith, l.invariant.1)) l.invariant.2 l.invariant.3 (rw p),
    )

pub returns : goal.returns
returns c =
    let nodes_each : length c.args.nodes ≡ 17 = search (rules, length_mapped) in
    let held_each : length c.args.held ≡ 17 = search (rules, length_mapped) in
    let l = c.loop-k in
    let n = nodes_each in
    let h = held_each in
    sym (take_all l.k l.ns (omega (arith, l.invariant.1))) ∙ l.invariant.3
    ∙ ap (λ (x : List Node). old_nodes 0 x (take l.k c.args.held)) (take_all l.k c.args.nodes (omega arith))
    ∙ ap (old_nodes 0 c.args.nodes) (take_all l.k c.args.held (omega arith))
