-- `asking::reader_turn` meets its contract: what `obeyed` promises of the reader's parts is the meaning's step, and the line is that of
-- what was said: a refusal's number, or the words of the answer that waits.now there.
-- Assumes nothing.
use Rattle.units.proofs.Common.{ap}
use Rattle.meaning.proofs.Terms.{full, done, quiet}
use Rattle.demands.specs.Sound.{full_sound}
use Rattle.machine.proofs.Terms.{Machine, machine}
use Rattle.state.specs.declared.State.{State}
use Rattle.promise.specs.Obeyed.{said_of}
use Rattle.promise.proofs.Tables.{reader_slot}
use Rattle.asking.proofs.Accepting.{orderly, names, steps_reader}
use Rattle.asking.proofs.Asking.{plays_refused, plays_answered, waits_there, plays_handed, slot_seated, seated_again}
use Rattle.asking.proofs.reader_turn.Goals as goal

pub obeyed-seat-requires : goal.obeyed-seat-requires
obeyed-seat-requires c =
    -- the machine of a state
    let on : State → Machine = λ x. machine x c.args.store.now c.args.plaques.now in
    let o = orderly c.requires.accepts.0 c.command_data-data.ensures (on c.requires.accepts.1.state) c.requires.accepts.1.fit
    c.requires.accepts.1.is in
    (c.requires.accepts.1, o.stamp, o.ready)

pub hand_over-h-requires : goal.hand_over-h-requires
hand_over-h-requires c =
    -- the machine of a state
    let on : State → Machine = λ x. machine x c.args.store.now c.args.plaques.now in
    let a = c.args in
    let p = c.requires.accepts.1 in
    let q = steps_reader c.requires.accepts.0 c.command_data-data.ensures p.is c.obeyed-seat.result c.obeyed-seat.ensures in (
      waits_there full (on p.state) _ a.t a.words.now p.fit c.obeyed-seat.result.reply (q p.state p.seat p.fit)
          c.in-Queued.is a.m.node _ (names c.requires.accepts.0) (reader_slot full full_sound a.m.node p.is)
          (slot_seated p.state a.m.node c.obeyed-seat.result _ _ p.fit p.is),
      c.requires.longest_line_in_bounds,
    )

pub returns-in-Refused : goal.returns-in-Refused
returns-in-Refused c x w fit =
    -- the machine of a state
    let on : State → Machine = λ x. machine x c.args.store.now c.args.plaques.now in
    let a = c.args in
    let q = steps_reader c.requires.accepts.0 c.command_data-data.ensures c.requires.accepts.1.is c.obeyed-seat.result c.obeyed-seat.ensures in
    plays_refused full (on x) _ a.t a.words.now fit c.obeyed-seat.result.reply (q x w fit) full_sound _
    c.in-Refused.is c.put_refused-at.ensures

pub returns-in-Queued : goal.returns-in-Queued
returns-in-Queued c x w fit =
    -- the machine of a state
    let on : State → Machine = λ x. machine x c.args.store.now c.args.plaques.now in
    let a = c.args in
    let p = c.requires.accepts.1 in
    let q = steps_reader c.requires.accepts.0 c.command_data-data.ensures p.is c.obeyed-seat.result c.obeyed-seat.ensures in
    plays_handed full (on x) _ a.t a.words.now fit c.obeyed-seat.result.reply (q x w fit)
    c.in-Queued.is a.m.node _ (names c.requires.accepts.0) (reader_slot full full_sound a.m.node p.is)
    (slot_seated x a.m.node c.obeyed-seat.result _ _ fit p.is) c.hand_over-h.result c.hand_over-h.ensures _
    (seated_again x a.m.node c.obeyed-seat.result _ _)

pub returns-in-Done : goal.returns-in-Done
unfolding said_of
returns-in-Done c x w fit =
    -- the machine of a state
    let on : State → Machine = λ x. machine x c.args.store.now c.args.plaques.now in
    let a = c.args in
    let q = steps_reader c.requires.accepts.0 c.command_data-data.ensures c.requires.accepts.1.is c.obeyed-seat.result c.obeyed-seat.ensures in
    plays_answered full (on x) _ a.t a.words.now fit c.obeyed-seat.result.reply (q x w fit) done
    (ap said_of c.in-Done.is) a.out.now a.to

pub returns-in-Quiet : goal.returns-in-Quiet
unfolding said_of
returns-in-Quiet c x w fit =
    -- the machine of a state
    let on : State → Machine = λ x. machine x c.args.store.now c.args.plaques.now in
    let a = c.args in
    let q = steps_reader c.requires.accepts.0 c.command_data-data.ensures c.requires.accepts.1.is c.obeyed-seat.result c.obeyed-seat.ensures in
    plays_answered full (on x) _ a.t a.words.now fit c.obeyed-seat.result.reply (q x w fit) quiet
    (ap said_of c.in-Quiet.is) a.out.now a.to
