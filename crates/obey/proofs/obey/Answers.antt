-- A packet that is refused by what it says is refused so; one that is accepted goes to its own node, which makes of it what the step says.
use Rattle.units.proofs.Common.{sym, ◌∙◌}
use Rattle.meaning.proofs.Terms.{full}
use Rattle.meaning.specs.Call as S
use Rattle.demands.specs.Sound.{full_sound}
use Rattle.machine.proofs.Terms.{machine, meaning}
use Rattle.promise.specs.Obeyed.{said_of}
use Rattle.promise.proofs.Promises.{turning}
use Rattle.promise.proofs.Steps.{step_refused}
use Rattle.answers.proofs.Replies.{stepped, called}
use Rattle.command.proofs.Judging.{its_refusal, its_kind, its_command}
use Rattle.obey.proofs.Packets.{orderly, heeded, step_reader_is, step_hub_is, instead}
use Rattle.obey.proofs.obey.Goals as goal

pub returns-then-j-ne0 : goal.returns-then-j-ne0
unfolding said_of
returns-then-j-ne0 c =
    let e = its_refusal full _ _ _ c.judge_command-j.ensures in let k = S.command _ _ _ in
    called c.refused.ensures (stepped k c.requires (turning full (machine c.args.s c.args.store.now c.args.plaques.now) k c.requires _
    (step_refused full _ k _ (sym e) c.if-j-ne0.true)))

pub rule-requires : goal.rule-requires
unfolding said_of
rule-requires c =
    let e = sym (its_refusal full _ _ _ c.judge_command-j.ensures) ∙ c.if-j-ne0.false in
    heeded full _ _ _ e (its_kind full _ _ _ c.judge_command-j.ensures) (its_command full _ _ _ c.judge_command-j.ensures)
    c.command_data-data.ensures (machine c.args.s c.args.store.now c.args.plaques.now) c.requires

pub returns-then-m-eq-HUB : goal.returns-then-m-eq-HUB
returns-then-m-eq-HUB c =
    let a = c.args in
    let p = c.judge_command-j.ensures in
    let e = sym (its_refusal full a.t a.form a.words.now p) ∙ c.if-j-ne0.false in
    instead (step_hub_is full a.t a.form a.words.now e (its_kind full a.t a.form a.words.now p)
    (its_command full a.t a.form a.words.now p) c.command_data-data.ensures (meaning full (machine c.args.s c.args.store.now c.args.plaques.now)) full_sound c.if-m-eq-HUB.true)
    c.rule.ensures

pub order-requires : goal.order-requires
order-requires c =
    let a = c.args in
    let p = c.judge_command-j.ensures in
    let e = sym (its_refusal full a.t a.form a.words.now p) ∙ c.if-j-ne0.false in
    orderly full a.t a.form a.words.now e (its_kind full a.t a.form a.words.now p)
    (its_command full a.t a.form a.words.now p) c.command_data-data.ensures c.if-m-eq-HUB.false (machine c.args.s c.args.store.now c.args.plaques.now) c.requires

pub returns : goal.returns
returns c =
    let a = c.args in
    let p = c.judge_command-j.ensures in
    let e = sym (its_refusal full a.t a.form a.words.now p) ∙ c.if-j-ne0.false in
    let k = its_kind full a.t a.form a.words.now p in
    let w = its_command full a.t a.form a.words.now p in
    let l = c.command_data-data.ensures in
    let r = (orderly full a.t a.form a.words.now e k w l c.if-m-eq-HUB.false (machine c.args.s c.args.store.now c.args.plaques.now) c.requires).reader in
    instead (step_reader_is full a.t a.form a.words.now e k w l (meaning full (machine c.args.s c.args.store.now c.args.plaques.now)) r) c.order.ensures
