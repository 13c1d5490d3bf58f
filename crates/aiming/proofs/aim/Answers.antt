-- `aim` goes by what was heard: each arm is the definition's line for it (laws of `Aimed`).
-- Assumes nothing.
use Rattle.units.proofs.Common.{◌∙◌, subst, length}
use Rattle.meaning.proofs.Chain.{flag}
use Rattle.lines.specs.declared.Heard.{Heard}
use Rattle.aiming.specs.Aim.{Fits, aimed}
use Rattle.aiming.proofs.Aimed.{leave_7, leave_0, collect_7, collect_0, acknowledge_7, acknowledge_0}
use Rattle.aiming.proofs.aim.Goals as goal

pub aim_command-requires : goal.aim_command-requires
unfolding Fits
aim_command-requires c = subst (λ (h : Heard). Fits h (length c.args.packet.now)) c.in-Command.is c.requires

pub returns-then-not-is_reader : goal.returns-then-not-is_reader
returns-then-not-is_reader c =
    rw c.in-Leave.is
    (c.refused.ensures ∙ leave_7 _ _ (flag c.is_reader.ensures c.if-not-is_reader.true))

pub returns-then-not-is_node : goal.returns-then-not-is_node
returns-then-not-is_node c =
    rw c.in-Collect.is
    (c.refused-then-not-is_node.ensures ∙ collect_7 _ _ _ (flag c.is_node.ensures c.if-not-is_node.true))

pub returns-then-not-is_node-2 : goal.returns-then-not-is_node-2
returns-then-not-is_node-2 c =
    rw c.in-Acknowledge.is
    (c.refused-then-not-is_node-2.ensures ∙ acknowledge_7 _ _ _ (flag c.is_node-in-Acknowledge.ensures c.if-not-is_node-2.true))

pub returns-in-Passed : goal.returns-in-Passed
unfolding aimed
returns-in-Passed c = rw c.in-Passed.is

pub returns-in-Unreadable : goal.returns-in-Unreadable
unfolding aimed
returns-in-Unreadable c = rw c.in-Unreadable.is

pub returns-in-Store : goal.returns-in-Store
unfolding aimed
returns-in-Store c = rw c.in-Store.is

pub returns-else-not-is_reader : goal.returns-else-not-is_reader
returns-else-not-is_reader c = rw c.in-Leave.is (leave_0 _ _ (flag c.is_reader.ensures c.if-not-is_reader.false))

pub returns-else-not-is_node : goal.returns-else-not-is_node
returns-else-not-is_node c = rw c.in-Collect.is (collect_0 _ _ _ (flag c.is_node.ensures c.if-not-is_node.false))

pub returns-else-not-is_node-2 : goal.returns-else-not-is_node-2
returns-else-not-is_node-2 c =
    rw c.in-Acknowledge.is (acknowledge_0 _ _ _ (flag c.is_node-in-Acknowledge.ensures c.if-not-is_node-2.false))
