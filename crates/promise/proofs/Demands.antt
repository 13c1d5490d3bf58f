-- Demand 3, and the counts of demand 2, of the code's own machines: "From a fresh state, over any calls with state and lent memory handed
-- back unaltered". What demands proves of the meaning's runs holds of every chain of calls from a fresh machine. (Strike-out call by
-- call is `struck_chain`.)
-- Assumes nothing.
use Rattle.units.proofs.Common.{sym, ◌∙◌, ◌≡◌, ap, List, [], ◌∷◌, ℕ, ◌≤◌, ◌+◌, ◌<◌, suc, ◌*◌, zero, ◌%◌, ℕ_discrete, arith, length, drop}
use Rattle.units.proofs.Common.{take, ne_eqb, no_cond}
use Rattle.units.specs.declared.Form.{Form}
use Rattle.units.specs.declared.stamp.Stamp.{Stamp}
use Rattle.meaning.proofs.Terms.{Bench, full, word_no, Gateway, fresh, added, held, charges, command, Try, Said, refused, queued, Outcome}
use Rattle.meaning.proofs.Terms.{judged, tried, step, run}
use Rattle.demands.specs.Sound.{Sound, full_sound}
use Rattle.demands.specs.Demand.{Line, struck, Same, Ease}
use Rattle.demands.specs.Counts.{Sweeps, tally, past, unmade, Tells}
use Rattle.demands.proofs.Room.{bounds_run}
use Rattle.demands.proofs.Third.{never_over, never_refused}
use Rattle.demands.proofs.Alone.{strike_out_state}
use Rattle.demands.proofs.Counted.{counted}
use Rattle.demands.proofs.Swept.{sweep_queued, sweep_room}
use Rattle.demands.proofs.History.{history}
use Rattle.machine.proofs.Terms.{Machine, meaning, region_of, unfit}
use Rattle.promise.specs.Obeyed.{expected, Obeyed}
use Rattle.promise.specs.Runs.{Exchange, Chain, ended, calls, lines, fresh_machine, reached}
use Rattle.promise.proofs.Parts.{unfit_low}
use Rattle.promise.proofs.Rooms.{fit_bounds}
use Rattle.promise.proofs.Chains.{stepped, chain_ends, chain_fit, fresh_fit, fresh_means, fresh_lines}

-- the first k calls of a chain are a chain
pub chain_front : (b : Bench) (k : ℕ) (m : Machine) (hs : List Exchange) → Chain b m hs → Chain b m (take k hs)
unfolding Chain
chain_front b zero m hs c = tt
chain_front b (suc k) m [] c = tt
chain_front b (suc k) m (h ∷ hs) c = (c.0, chain_front b k h.after hs c.1)

module _ (memory : List ℕ) (bytes : length memory ≡ full.readers * full.region) (hs : List Exchange)
    (chain : Chain full (fresh_machine memory) hs) where
  -- after a chain, the code's machine means what the run of its calls comes to
  pub fresh_ends : reached memory hs ≡ run full (fresh (region_of full memory)) (calls hs)
  fresh_ends =
      chain_ends full (fresh_machine memory) hs (fresh_fit memory bytes) chain
      ∙ ap (λ (g : Gateway). run full g (calls hs)) (fresh_means full memory)

  -- "none is refused for room while its held words plus the new answer are at most 134"
  pub code_never_refused : (h : Exchange) → Obeyed full h.call (ended (fresh_machine memory) hs) h.said h.after
      → h.said ≡ refused 13 → (n : ℕ) × (g : Gateway) × (w : List ℕ) × (tried full (reached memory hs) h.call ≡ Try.due n g w) ×
      (134 < held (g.nodes n) + word_no 1 w)
  code_never_refused h o e =
      let u = chain_fit full (fresh_machine memory) hs (fresh_fit memory bytes) chain in
      let s = stepped full h.call (ended (fresh_machine memory) hs) h.said h.after u o in
      rw fresh_ends
      (never_refused (region_of full memory) (calls hs) h.call
      (ap (λ (g : Gateway). (step full g h.call).said) (sym fresh_ends) ∙ sym s.says ∙ e))

  -- instance counts are counted from the calls and what they said
  pub code_counted : (n i : ℕ) → ((reached memory hs).nodes n).count ≡ tally full n 0 (lines full i hs) % 256
  code_counted n i =
      ap (λ (g : Gateway). (g.nodes n).count) fresh_ends ∙ counted full n i (region_of full memory) (calls hs)
      ∙ ap (λ (ls : List Line). tally full n 0 ls % 256) (sym (fresh_lines i memory bytes hs chain))

  -- a node's pending answers are those made at it, in order, without those acknowledged or cleared ..
  pub code_history : (n : ℕ) → Tells (past full n (fresh (region_of full memory)) (calls hs) unmade) ((reached memory hs).nodes n).pending
  code_history n = rw fresh_ends (history full n (region_of full memory) (calls hs))

  -- .. and its held words are those of these answers
  pub code_held : (n : ℕ) → let p = past full n (fresh (region_of full memory)) (calls hs) unmade in
      held ((reached memory hs).nodes n) ≡ added (drop p.gone p.made)
  code_held n = ap added (code_history n).pending

-- "no node holds over 804 words of pending answers", nor do the charges pass the store: after every k calls of a chain
pub code_never_over : (memory : List ℕ) → length memory ≡ full.readers * full.region
    → (hs : List Exchange) → Chain full (fresh_machine memory) hs → (k : ℕ)
    → ((n : ℕ) → held ((reached memory (take k hs)).nodes n) ≤ 804) × (charges full (reached memory (take k hs)) ≤ 4096)
code_never_over memory bytes hs chain k =
    let c = chain_front full k (fresh_machine memory) hs chain in
    let e = fresh_ends memory bytes (take k hs) c in
    rw e (
      never_over (region_of full memory) (calls (take k hs)),
      (bounds_run full full_sound (region_of full memory)
          (calls (take k hs))).stored,
    )

-- "For 61 and 79 room is judged after emptying, so it is always there": on a consistent machine, as every machine of a chain is by
-- `chain_fit`, a 61 or a 79 in which nothing is wrong is obeyed; and on no machine at all is one refused for room
module _ (b : Bench) (ok : Sound b) (m : Machine) (t : Stamp) (f : Form) (ws : List ℕ) (sweeps : Sweeps f ws) where
  pub code_sweep_queued : unfit b m ≡ 0 → judged b (command t f ws) ≡ 0
      → (said : Said) (m' : Machine) → Obeyed b (command t f ws) m said m' → said ≡ queued
  code_sweep_queued u e said m' o =
      (stepped b (command t f ws) m said m' u o).says ∙ sweep_queued b t f ws ok (meaning b m) (fit_bounds b ok m u) sweeps e

  pub code_sweep_room : (said : Said) (m' : Machine) → Obeyed b (command t f ws) m said m' → said ≡ refused 13 → ⊥
  unfolding expected
  code_sweep_room said m' o r = elim (ℕ_discrete (unfit b m) 0) [
    | yes u ↦ sweep_room b t f ws ok (meaning b m) (fit_bounds b ok m u) sweeps (sym (stepped b (command t f ws) m said m' u o).says ∙ r)
    | no d ↦
        let q : (expected b (command t f ws) m).said ≡ refused (unfit b m) =
        ap (λ (x : Outcome). x.said) (no_cond _ (ne_eqb (unfit b m) 0 d)) in
        let p = o.says in
        let z : unfit b m ≡ 13 = cc in omega (arith, unfit_low b m)
  ]

-- strike_out at the end: after both chains reader i's node, its reader with the region, the gateway's own node and the name are the same.
-- As the first calls of a chain are a chain, so they are at every point of them
pub struck_end : (i : ℕ) (memory : List ℕ) → length memory ≡ full.readers * full.region
    → (hs js : List Exchange) → Chain full (fresh_machine memory) hs → Chain full (fresh_machine memory) js
    → calls js ≡ struck full i (calls hs) → Ease full i (fresh (region_of full memory)) (calls hs)
    → Same i (reached memory hs) (reached memory js)
struck_end i memory bytes hs js c d e z =
    let g : Gateway = fresh (region_of full memory) in
    let there : reached memory js ≡ run full g (struck full i (calls hs)) =
    fresh_ends memory bytes js d ∙ ap (run full g) e in
    rw (fresh_ends memory bytes hs c, there) (strike_out_state full full_sound i (region_of full memory) (calls hs) z)
