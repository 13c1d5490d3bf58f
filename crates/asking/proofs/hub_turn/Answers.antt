-- `asking::hub_turn` meets its contract: what `governed` promises of the gateway's parts is the meaning's step, and the line is that of
-- what was said: a refusal's number, or the words of the answer that waits.now at the gateway's own node.
-- Assumes nothing.
use Rattle.units.proofs.Common.{◌≡◌, refl, ap, List, ℕ, arith, eq-eqb, yes_cond}
use Rattle.meaning.proofs.Terms.{full, hub, done, quiet}
use Rattle.demands.specs.Sound.{full_sound}
use Rattle.machine.proofs.Terms.{Machine, machine, node_slot}
use Rattle.state.specs.declared.State.{State}
use Rattle.promise.specs.Obeyed.{said_of}
use Rattle.asking.proofs.Accepting.{heeded, names, steps_hub}
use Rattle.asking.proofs.Asking.{took, plays_refused, plays_answered, waits_there, plays_handed, slot_at}
use Rattle.asking.proofs.hub_turn.Goals as goal

hub_slot : (n : ℕ) → n ≡ hub → node_slot full n ≡ full.readers
hub_slot n e = yes_cond _ (eq-eqb n hub e)

pub governed-house-requires : goal.governed-house-requires
governed-house-requires c =
    -- the machine of a state and plaque memory
    let on : State → List ℕ → Machine = λ x memory. machine x c.args.store.now memory in
    let o = heeded c.requires.accepts.0 c.command_data-data.ensures (on c.requires.accepts.2.state c.requires.accepts.2.memory)
    c.requires.accepts.2.fit in
    (c.requires.accepts.2, o.stamp, o.told)

pub hand_over-h-requires : goal.hand_over-h-requires
hand_over-h-requires c =
    -- the machine of a state and plaque memory
    let on : State → List ℕ → Machine = λ x memory. machine x c.args.store.now memory in
    let a = c.args in
    let p = c.requires.accepts.2 in
    let q = steps_hub c.requires.accepts.0 c.command_data-data.ensures c.requires.accepts.1 c.governed-house.result c.governed-house.ensures in
    let z = q p.state p.memory p.house p.fit in (
      waits_there full (on p.state p.memory) _ a.t a.words.now p.fit c.governed-house.result.reply z
          c.in-Queued.is a.m.node full.readers (names c.requires.accepts.0) (hub_slot a.m.node c.requires.accepts.1)
          (slot_at _ (took p.fit z).fit full.readers (omega arith)),
      c.requires.longest_line_in_bounds,
    )

pub returns-in-Refused : goal.returns-in-Refused
returns-in-Refused c x memory w fit =
    -- the machine of a state and plaque memory
    let on : State → List ℕ → Machine = λ x memory. machine x c.args.store.now memory in
    let a = c.args in
    let q = steps_hub c.requires.accepts.0 c.command_data-data.ensures c.requires.accepts.1 c.governed-house.result c.governed-house.ensures in
    plays_refused full (on x memory) _ a.t a.words.now fit c.governed-house.result.reply (q x memory w fit) full_sound _
    c.in-Refused.is c.put_refused-at.ensures

pub returns-in-Queued : goal.returns-in-Queued
returns-in-Queued c x memory w fit =
    -- the machine of a state and plaque memory
    let on : State → List ℕ → Machine = λ x memory. machine x c.args.store.now memory in
    let a = c.args in
    let q = steps_hub c.requires.accepts.0 c.command_data-data.ensures c.requires.accepts.1 c.governed-house.result c.governed-house.ensures in
    let z = q x memory w fit in
    plays_handed full (on x memory) _ a.t a.words.now fit c.governed-house.result.reply z
    c.in-Queued.is a.m.node full.readers (names c.requires.accepts.0) (hub_slot a.m.node c.requires.accepts.1)
    (slot_at _ (took fit z).fit full.readers (omega arith)) c.hand_over-h.result c.hand_over-h.ensures _ refl

pub returns-in-Done : goal.returns-in-Done
unfolding said_of
returns-in-Done c x memory w fit =
    -- the machine of a state and plaque memory
    let on : State → List ℕ → Machine = λ x memory. machine x c.args.store.now memory in
    let a = c.args in
    let q = steps_hub c.requires.accepts.0 c.command_data-data.ensures c.requires.accepts.1 c.governed-house.result c.governed-house.ensures in
    plays_answered full (on x memory) _ a.t a.words.now fit c.governed-house.result.reply (q x memory w fit) done
    (ap said_of c.in-Done.is) a.out.now a.to

pub returns-in-Quiet : goal.returns-in-Quiet
unfolding said_of
returns-in-Quiet c x memory w fit =
    -- the machine of a state and plaque memory
    let on : State → List ℕ → Machine = λ x memory. machine x c.args.store.now memory in
    let a = c.args in
    let q = steps_hub c.requires.accepts.0 c.command_data-data.ensures c.requires.accepts.1 c.governed-house.result c.governed-house.ensures in
    plays_answered full (on x memory) _ a.t a.words.now fit c.governed-house.result.reply (q x memory w fit) quiet
    (ap said_of c.in-Quiet.is) a.out.now a.to
