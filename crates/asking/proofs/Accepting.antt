-- A packet that is accepted: it keeps the limits that the code rests on, and what its own node promises of it, a reader's or the gateway's,
-- is promised of the meaning's step.
-- Assumes nothing.
use Rattle.units.proofs.Common.{◌≡◌, ap, true, List, ℕ, arith}
use Rattle.units.specs.declared.Words.{Words}
use Rattle.units.specs.declared.Form.TheVariants.{Register}
use Rattle.units.specs.declared.stamp.Stamp.{Stamp}
use Rattle.meaning.proofs.Terms.{full, hub, is_reader, Gateway, command_of, command_data, command, command_in, named, step}
use Rattle.meaning.specs.declared.table.Kind.{Kind}
use Rattle.meaning.specs.declared.packet.Command.{Command}
use Rattle.demands.specs.Sound.{full_sound}
use Rattle.machine.proofs.Terms.{Machine, machine, meaning, unfit}
use Rattle.state.specs.declared.node.Node.{Node}
use Rattle.state.specs.declared.reader.Reader.{Reader}
use Rattle.state.specs.declared.Name.{Name}
use Rattle.promise.proofs.Tables.{reader_range}
use Rattle.answers.specs.Ordered.{load_of, ordered, heeding}
use Rattle.settle.specs.Settled.{Seats, Houses}
use Rattle.settle.specs.declared.Seated.{Seated}
use Rattle.settle.specs.declared.Housed.{Housed}
use Rattle.obey.specs.Taken.{Orderly, Heeded}
use Rattle.obey.proofs.Packets as P
use Rattle.asking.specs.Ask.{Accepts}

module _ {t : Stamp} {ws : List ℕ} {k : Kind} {m : Command} (a : Accepts full t ws k m) where
  pub names : m.node ≡ named (command t Register ws)
  unfolding named command_in command_of
  names = ap (λ (m : Command). m.node) a.what

  module _ {words : List ℕ} (w : words ≡ command_data Register ws) where
    module _ (x : Machine) (fit : unfit full x ≡ 0) where
      pub orderly : is_reader full m.node ≡ true → Orderly full t k m words x
      orderly is =
          P.orderly full t Register ws a.fine a.kind a.what w (λ e. omega (arith, e, reader_range full m.node is)) x fit

      pub heeded : Heeded full t k m words x
      heeded = P.heeded full t Register ws a.fine a.kind a.what w x fit

    -- ---- the meaning's step
    pub steps_reader : is_reader full m.node ≡ true → {own : Node} {x : Reader} {held : List Words} {store memory : List ℕ} (r : Seated)
        {store' memory' : List ℕ}
        → Seats full (λ g. ordered full g t k m (load_of full m words)) m.node own x held store memory r store' memory'
        → Seats full (λ g. step full g (command t Register ws)) m.node own x held store memory r store' memory'
    steps_reader is {own} {x} {held} {store} {memory} r d s q fit =
        let g : Gateway = meaning full (machine s store memory) in
        P.instead (P.step_reader_is full t Register ws a.fine a.kind a.what w g is) (d s q fit)

    pub steps_hub : m.node ≡ hub → {nodes : List Node} {held : List Words} {name : Name} {store : List ℕ} (r : Housed) {store' : List ℕ}
        → Houses full (λ g. heeding full g t k (load_of full m words)) nodes held name store r store'
        → Houses full (λ g. step full g (command t Register ws)) nodes held name store r store'
    steps_hub is {nodes} {held} {name} {store} r d s memory q fit =
        let g : Gateway = meaning full (machine s store memory) in
        P.instead (P.step_hub_is full t Register ws a.fine a.kind a.what w g full_sound is) (d s memory q fit)
