-- `aim_command` aims a command as `judge_command` judges it (laws of `Aimed`).
-- Assumes nothing.
use Rattle.units.proofs.Common.{sym, ◌∙◌, take}
use Rattle.meaning.proofs.Terms.{full}
use Rattle.command.proofs.Judging.{its_refusal, its_kind, its_command}
use Rattle.aiming.proofs.Aimed.{command_stops, command_gateway, command_reader}
use Rattle.aiming.proofs.aim_command.Goals as goal

pub returns-then-j-ne0 : goal.returns-then-j-ne0
returns-then-j-ne0 c =
    let a = c.args in
    let ws = take a.words.0 a.packet.now in
    c.refused.ensures
    ∙ command_stops a.stamp a.form a.words a.packet.now (its_refusal full a.stamp a.form ws c.judge_command-j.ensures)
    c.if-j-ne0.true

pub returns-then-what-eq32 : goal.returns-then-what-eq32
returns-then-what-eq32 c =
    let a = c.args in
    let ws = take a.words.0 a.packet.now in
    let e = c.judge_command-j.ensures in
    command_gateway a.stamp a.form a.words a.packet.now
    (sym (its_refusal full a.stamp a.form ws e) ∙ c.if-j-ne0.false) (its_kind full a.stamp a.form ws e)
    (its_command full a.stamp a.form ws e) c.if-what-eq32.true

pub returns : goal.returns
returns c =
    let a = c.args in
    let ws = take a.words.0 a.packet.now in
    let e = c.judge_command-j.ensures in
    command_reader a.stamp a.form a.words a.packet.now
    (sym (its_refusal full a.stamp a.form ws e) ∙ c.if-j-ne0.false) (its_kind full a.stamp a.form ws e)
    (its_command full a.stamp a.form ws e) c.if-what-eq32.false
