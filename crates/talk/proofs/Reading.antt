-- A call for a reader that is not refused by what it says: what its own function makes of the parts is the meaning's step of the call.
-- Assumes nothing.
use Rattle.units.proofs.Common.{sym, ◌∙◌, ◌≡◌, refl, ap, subst, true, not, true≢false, List, ℕ, ◌≤◌, ◌-◌, length, take, not-false, is_stamp}
use Rattle.units.specs.declared.Words.{Words}
use Rattle.units.specs.declared.Bytes.{Bytes}
use Rattle.units.specs.declared.stamp.Stamp.{Stamp}
use Rattle.meaning.proofs.Terms.{◌when◌, full, is_reader, hub, command_data, command, check, arrive, judged, step}
use Rattle.meaning.specs.Call as M
use Rattle.meaning.proofs.Chain.{accepts, fine}
use Rattle.machine.proofs.Terms.{machine, meaning}
use Rattle.state.specs.declared.node.Node.{Node}
use Rattle.state.specs.declared.reader.Reader.{Reader}
use Rattle.answers.specs.Ordered.{load_of, Ready, ordered, looking, heeding}
use Rattle.settle.specs.Settled.{Seatable, Seats, Houseable, Houses}
use Rattle.settle.specs.declared.Seated.{Seated}
use Rattle.settle.specs.declared.Housed.{Housed}
use Rattle.state.specs.declared.Name.{Name}
use Rattle.demands.specs.Sound.{full_sound}
use Rattle.desk.specs.Ruled.{LimitedOf}
use Rattle.obey.proofs.Packets.{orderly, step_reader_is, instead, heeded, step_hub_is}
use Rattle.obey.proofs.Taking.{checks_here}
use Rattle.aiming.specs.declared.Order.{Order}
use Rattle.aiming.specs.declared.Ask.{Ask}
use Rattle.talk.specs.Parts.{asked, Orders, Asks}

-- ---- what the call says, by its case
module _ (n : ℕ) (ask : Ask) (ws id bytes : List ℕ) (q : Asks full n ask ws id bytes) where
  pub asks_command : {o : Order} → ask ≡ Ask.Command o → Orders full ws o × (o.what.node ≡ n)
  unfolding Asks
  asks_command e = subst (λ (a : Ask). Asks full n a ws id bytes) e q

  pub asks_check : {t : Stamp} {clock : ℕ} → ask ≡ Ask.Check t clock → is_stamp t ≡ true
  unfolding Asks judged M.asked
  asks_check {t} {clock} e =
      let j : judged full (check n t clock) ≡ 0 = subst (λ (a : Ask). Asks full n a ws id bytes) e q in
      not-false _ (fine 3 (not (is_stamp t)) refl (accepts (3 when not (is_stamp t)) _ j).0)

  pub asks_arrive : {i k : Bytes} → ask ≡ Ask.Arrive i k
      → (i.0 ≤ length id) × (k.0 ≤ length bytes) × (judged full (arrive n (take i.0 id) (take k.0 bytes)) ≡ 0)
  unfolding Asks
  asks_arrive e = subst (λ (a : Ask). Asks full n a ws id bytes) e q

-- ---- what is made of the parts
module _ {n : ℕ} {own : Node} {x : Reader} {held : List Words} {store memory : List ℕ} (a : Seatable full n own x held store memory) where
  abbrev Steps : M.Call → Seated → List ℕ → List ℕ → Type 0
  Steps c r store' memory' = Seats full (λ g. step full g c) n own x held store memory r store' memory'

  -- the call by its case
  pub so : (ws id bytes : List ℕ) {ask k : Ask} (r : Seated) {store' memory' : List ℕ} → ask ≡ k
      → Steps (asked n k ws id bytes) r store' memory' → Steps (asked n ask ws id bytes) r store' memory'
  so ws id bytes r {store' = store'} {memory' = memory'} e d = subst (λ (k : Ask). Steps (asked n k ws id bytes) r store' memory') (sym e) d

  -- a field check
  pub check_seats : (t : Stamp) (clock : ℕ) → is_stamp t ≡ true → (r : Seated) {store' memory' : List ℕ}
      → Seats full (λ g. looking full g n t clock) n own x held store memory r store' memory' → Steps (check n t clock) r store' memory'
  check_seats t clock good r d s at fit = checks_here (machine s store memory) fit n (n - 1) a.is refl t clock good (d s at fit)

  -- an accepted command
  module _ {ws : List ℕ} {o : Order} (q : Orders full ws o) (at : o.what.node ≡ n) {words : List ℕ}
      (load : words ≡ command_data o.form (take o.words.0 ws)) where
    pub order_needs : Seatable full o.what.node own x held store memory × (is_stamp o.stamp ≡ true)
        × Ready full o.kind o.what words
    order_needs =
        let p = orderly full o.stamp o.form (take o.words.0 ws) q.fine q.kind q.what load
        (λ h. true≢false (sym a.is ∙ ap (is_reader full) (sym at ∙ h))) (machine a.state store memory) a.fit in
        (subst (λ (k : ℕ). Seatable full k own x held store memory) (sym at) a, p.stamp, p.ready)

    pub order_seats : (r : Seated) {store' memory' : List ℕ}
        → Seats full (λ g. ordered full g o.stamp o.kind o.what (load_of full o.what words)) o.what.node
        own x held store memory r store' memory'
        → Steps (command o.stamp o.form (take o.words.0 ws)) r store' memory'
    order_seats r {store'} {memory'} d =
        let c : M.Call = command o.stamp o.form (take o.words.0 ws) in
        subst (λ (k : ℕ). Seats full (λ g. step full g c) k own x held store memory r store' memory') at
        (λ s seat fit. instead (step_reader_is full o.stamp o.form (take o.words.0 ws) q.fine q.kind q.what load
        (meaning full (machine s store memory)) (ap (is_reader full) at ∙ a.is)) (d s seat fit))

-- ---- the gateway's own command
module _ {nodes : List Node} {held : List Words} {name : Name} {store : List ℕ} (a : Houseable full nodes held name store) {ws : List ℕ}
    {o : Order}
    (q : Orders full ws o) {words : List ℕ} (load : words ≡ command_data o.form (take o.words.0 ws)) where
  pub hub_needs : (is_stamp o.stamp ≡ true) × LimitedOf full o.kind o.what words
  hub_needs =
      let p = heeded full o.stamp o.form (take o.words.0 ws) q.fine q.kind q.what load
      (machine a.state store a.memory) a.fit in
      (p.stamp, p.told)

  pub hub_houses : o.what.node ≡ hub → (r : Housed) {store' : List ℕ}
      → Houses full (λ g. heeding full g o.stamp o.kind (load_of full o.what words)) nodes held name store r store'
      → Houses full (λ g. step full g (command o.stamp o.form (take o.words.0 ws))) nodes held name store r store'
  hub_houses own r d s memory at fit =
      instead (step_hub_is full o.stamp o.form (take o.words.0 ws) q.fine q.kind q.what load
      (meaning full (machine s store memory)) full_sound own) (d s memory at fit)
