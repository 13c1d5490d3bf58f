-- A command packet that is accepted: what its limits give the code, and what the meaning's step makes of it.
-- Assumes nothing.
use Rattle.units.proofs.Common.{sym, ◌∙◌, ◌≡◌, refl, ap, subst, true, not, List, ℕ, arith, length, eq-eqb, ne_eqb, not-false, is_stamp}
use Rattle.units.proofs.Common.{yes_cond}
use Rattle.units.specs.declared.Form.{Form}
use Rattle.units.specs.declared.stamp.Stamp.{Stamp}
use Rattle.meaning.proofs.Terms.{◌when◌, refusal, Bench, hub, is_reader, is_node, Gateway, ◌to◌, carries, carried, command_of, command_doubts}
use Rattle.meaning.proofs.Terms.{command_result, read_command, command_data, Said, Outcome, command, asked, judged, command_in, kind_in, bytes_in}
use Rattle.meaning.proofs.Terms.{at_reader, at_hub, named, serves, step}
use Rattle.meaning.specs.declared.table.OnPlaque.TheVariants.{Fill, Read, Write, ReadId, Search}
use Rattle.meaning.specs.declared.table.OfGateway.TheVariants.{GetName, SetName, Initialise, ResetGateway, Clear}
use Rattle.meaning.specs.declared.table.Kind.{Kind}
use Rattle.meaning.specs.declared.table.Kind.TheVariants as K
use Rattle.meaning.specs.declared.table.Row.{Row}
use Rattle.meaning.specs.declared.packet.Command.{Command}
use Rattle.meaning.specs.declared.packet.CommandRead.TheVariants as C
use Rattle.meaning.proofs.Chain.{accepts, fine}
use Rattle.meaning.proofs.CommandLaws.{read_is, data_length_lem}
use Rattle.demands.specs.Sound.{Sound}
use Rattle.machine.proofs.Terms.{Machine, unfit}
use Rattle.answers.specs.Ordered.{load_of, Ready, ordered, heeding}
use Rattle.promise.specs.Obeyed.{Does}
use Rattle.promise.proofs.Tables.{hub_apart}
use Rattle.promise.proofs.Steps.{step_reader, step_hub}
use Rattle.promise.proofs.Accepted.{row_for, row_regular, Accepted, accepted, used, reader_suited, reads}
use Rattle.desk.specs.Ruled.{Limited, LimitedOf}
use Rattle.obey.specs.Taken.{Orderly, Heeded}

module _ (b : Bench) (t : Stamp) (f : Form) (ws : List ℕ) (e : judged b (command t f ws) ≡ 0) where
  abbrev m : Command
  m = command_in f ws

  both : (refusal (3 when not (is_stamp t)) ≡ 0) × (refusal (command_doubts b f ws) ≡ 0)
  unfolding judged asked
  both = accepts _ _ e

  pub stamped : is_stamp t ≡ true
  stamped = not-false _ (fine 3 (not (is_stamp t)) refl both.0)

  read : read_command b f ws ≡ C.Accepted m
  unfolding read_command command_result command_in
  read = yes_cond _ (eq-eqb _ _ both.1)

  -- ---- its limits, by its kind
  within_limits : (k : Kind) → kind_in b f ws ≡ k → Accepted b k m
  unfolding kind_in
  within_limits k q = accepted b m (read_is b f ws m read).1.kept k q

  loaded : (k : Kind) → kind_in b f ws ≡ k → length (load_of b m (command_data f ws)) ≡ carried (row_for b k) m
  unfolding load_of kind_in
  loaded k q =
      data_length_lem b f ws m read
      ∙ ap (λ (r : Row). carried r m) (row_regular b m.command m.node (within_limits (kind_in b f ws) refl).suits ∙ ap (row_for b) q)

  ready_for : (k : Kind) → kind_in b f ws ≡ k → Ready b k m (command_data f ws)
  unfolding Ready carried carries
  ready_for (K.Plaque Fill) q = let l = loaded (K.Plaque Fill) q in omega arith
  ready_for (K.Plaque Read) q = (used (1 to 255) m.size refl (within_limits (K.Plaque Read) q).size).1
  ready_for (K.Plaque Write) q = (
    (used (1 to 255) m.size refl (within_limits (K.Plaque Write) q).size).1,
    sym
        (loaded (K.Plaque Write) q),
  )
  ready_for (K.Plaque ReadId) q = tt
  ready_for (K.Plaque Search) q = tt
  ready_for K.Continuous q = let r = reads b m (within_limits K.Continuous q) in (r.size, r.delay, r.range, r.stops)
  ready_for K.ResetReader q = tt
  ready_for (K.Gateway k) q = tt
  ready_for K.Unknown q = tt

  told_for : (k : Kind) → kind_in b f ws ≡ k → LimitedOf b k m (command_data f ws)
  unfolding LimitedOf Limited carried carries
  told_for (K.Plaque k) q = tt
  told_for K.Continuous q = tt
  told_for K.ResetReader q = tt
  told_for (K.Gateway GetName) q = tt
  told_for (K.Gateway SetName) q =
      ((used (1 to 64) m.size refl (within_limits (K.Gateway SetName) q).size).1, sym (loaded (K.Gateway SetName) q))
  told_for (K.Gateway Initialise) q = tt
  told_for (K.Gateway ResetGateway) q = tt
  told_for (K.Gateway Clear) q = tt
  told_for K.Unknown q = tt

  pub ready : Ready b (kind_in b f ws) m (command_data f ws)
  ready = ready_for (kind_in b f ws) refl

  pub told : LimitedOf b (kind_in b f ws) m (command_data f ws)
  told = told_for (kind_in b f ws) refl

  pub for_node : is_node b m.node ≡ true
  for_node = (within_limits (kind_in b f ws) refl).node

  pub for_reader : (m.node ≡ hub → ⊥) → is_reader b m.node ≡ true
  for_reader d = reader_suited b m.node for_node (ap not (ne_eqb _ _ d))

  -- ---- the meaning's step
  pub step_ordered : (g : Gateway) → is_reader b m.node ≡ true → step b g (command t f ws) ≡ ordered b g t (kind_in b f ws) m
      (load_of b m (command_data f ws))
  unfolding named command_in command_of at_reader ordered bytes_in load_of
  step_ordered g r = step_reader b g (command t f ws) m.node e refl r

  pub step_heeding : (g : Gateway) → Sound b → m.node ≡ hub → step b g (command t f ws) ≡ heeding b g t (kind_in b f ws)
      (load_of b m (command_data f ws))
  unfolding named command_in command_of at_hub serves heeding bytes_in load_of
  step_heeding g ok h = step_hub b g (command t f ws) e h (hub_apart b ok) refl

  -- ---- as code hands its parts on
  module _ {k : Kind} {c : Command} {words : List ℕ} (kind : k ≡ kind_in b f ws) (what : c ≡ command_in f ws)
      (load : words ≡ command_data f ws) where
    pub orderly : (c.node ≡ hub → ⊥) → (x : Machine) → unfit b x ≡ 0 → Orderly b t k c words x
    orderly d x fit =
        let q : (command_in f ws).node ≡ c.node = ap (λ (c : Command). c.node) (sym what) in
        rw (kind, what, load) (record { fit = fit; reader = for_reader (λ h. d (sym q ∙ h)); stamp = stamped; ready = ready })

    pub heeded : (x : Machine) → unfit b x ≡ 0 → Heeded b t k c words x
    heeded x fit = rw (kind, what, load) (record { fit = fit; stamp = stamped; told = told })

    pub step_reader_is : (g : Gateway) → is_reader b c.node ≡ true → step b g (command t f ws) ≡ ordered b g t k c (load_of b c words)
    step_reader_is g = rw (kind, what, load) (step_ordered g)

    pub step_hub_is : (g : Gateway) → Sound b → c.node ≡ hub → step b g (command t f ws) ≡ heeding b g t k (load_of b c words)
    step_hub_is g ok = rw (kind, what, load) (step_heeding g ok)

-- ---- the same outcome, said otherwise
pub instead : {b : Bench} {o p : Outcome} {m m' : Machine} {said : Said} → p ≡ o → Does b o m said m' → Does b p m said m'
instead {b} {o} {p} {m} {m'} {said} e d = subst (λ (o : Outcome). Does b o m said m') (sym e) d
