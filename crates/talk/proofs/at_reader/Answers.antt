-- `at_reader` goes by what is asked: each function's promise is the meaning's step of the call (laws of `Reading`).
-- Assumes nothing.
use Rattle.units.proofs.Common.{sym, length-take-le}
use Rattle.settle.proofs.Seating.{memory_long}
use Rattle.talk.specs.Parts.{asked}
use Rattle.talk.proofs.Reading.{asks_command, asks_check, asks_arrive, so, check_seats, order_needs, order_seats}
use Rattle.talk.proofs.at_reader.Goals as goal

pub slice_bounds-command_data-end : goal.slice_bounds-command_data-end
slice_bounds-command_data-end c =
    let a = c.args in
    let q = asks_command a.node a.ask a.packet.now a.id.now a.content.now c.requires.0 c.in-Command.is in
    sym (length-take-le _ _ q.0.long)

pub obeyed-requires : goal.obeyed-requires
obeyed-requires c =
    let a = c.args in
    let q = asks_command a.node a.ask a.packet.now a.id.now a.content.now c.requires.0 c.in-Command.is in
    order_needs c.requires.1 q.0 q.1 c.command_data-data.ensures

pub looked-requires : goal.looked-requires
looked-requires c =
    let a = c.args in
    (c.requires.1, asks_check a.node a.ask a.packet.now a.id.now a.content.now c.requires.0 c.in-Check.is)

pub slice_bounds-brought-end : goal.slice_bounds-brought-end
slice_bounds-brought-end c =
    let a = c.args in
    let q = asks_arrive a.node a.ask a.packet.now a.id.now a.content.now c.requires.0 c.in-Arrive.is in
    sym (length-take-le _ _ q.0)

pub slice_bounds-brought-end-in-Arrive : goal.slice_bounds-brought-end-in-Arrive
slice_bounds-brought-end-in-Arrive c =
    let a = c.args in
    let q = asks_arrive a.node a.ask a.packet.now a.id.now a.content.now c.requires.0 c.in-Arrive.is in
    sym (length-take-le _ _ q.1)

pub brought-requires : goal.brought-requires
brought-requires c =
    let a = c.args in
    let q = asks_arrive a.node a.ask a.packet.now a.id.now a.content.now c.requires.0 c.in-Arrive.is in
    (q.2, memory_long c.requires.1)

pub returns-in-Command : goal.returns-in-Command
unfolding asked
returns-in-Command c =
    let a = c.args in
    let q = asks_command a.node a.ask a.packet.now a.id.now a.content.now c.requires.0 c.in-Command.is in
    so c.requires.1 a.packet.now a.id.now a.content.now c.obeyed.result c.in-Command.is
    (order_seats c.requires.1 q.0 q.1 c.command_data-data.ensures c.obeyed.result c.obeyed.ensures)

pub returns-in-Check : goal.returns-in-Check
unfolding asked
returns-in-Check c =
    let a = c.args in
    let q = asks_check a.node a.ask a.packet.now a.id.now a.content.now c.requires.0 c.in-Check.is in
    so c.requires.1 a.packet.now a.id.now a.content.now c.looked.result c.in-Check.is
    (check_seats c.requires.1 c.in-Check.stamp c.in-Check.clock q c.looked.result c.looked.ensures)

pub returns-in-Arrive : goal.returns-in-Arrive
unfolding asked
returns-in-Arrive c =
    let a = c.args in
    so c.requires.1 a.packet.now a.id.now a.content.now c.brought.result c.in-Arrive.is
    (c.brought.ensures a.store.now)

pub returns-in-Leave : goal.returns-in-Leave
unfolding asked
returns-in-Leave c =
    let a = c.args in
    so c.requires.1 a.packet.now a.id.now a.content.now c.left.result c.in-Leave.is
    (c.left.ensures a.node a.store.now a.plaques.now c.requires.1.is)
