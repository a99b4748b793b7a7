use Rattle.std.proofs.Common.{◌∙◌, [], inl, refl, ap}
use Rattle.rodin_cli.specs.Demo.{discharged_in}
use Rattle.rodin_cli.proofs.Rounds.{counted_round, full_round, front_round, asked_front}
use Rattle.rodin_cli.proofs.Sessions.{unchanged}
use Rattle.rodin_cli.proofs.demo.count.Goals as goal

pub returns-in-Err-clause-front : goal.returns-in-Err-clause-front
returns-in-Err-clause-front g c = ([], inl tt, unchanged c.args.session.now c.args.session.now (refl, refl))

pub returns-in-Ok-None-clause-whole : goal.returns-in-Ok-None-clause-whole
returns-in-Ok-None-clause-whole g c =
    let full = rw c.in-Ok-None.field-0-is at c.in-Ok-None.ensures.whole in
    full_round c.args.round c.in-Ok.parts.items c.in-Ok.ensures c.args.session.now c.work.new.session full

pub returns-in-Err-work-clause-front : goal.returns-in-Err-work-clause-front
returns-in-Err-work-clause-front g c =
    front_round (g.P.Prover.answers c.args.prover.now) (g.P.Prover.sure c.args.prover.now) c.args.round c.in-Ok.parts.items c.in-Ok.ensures c.args.session.now c.work.new.session
    c.in-Err-work.ensures.front

pub returns-in-Ok-statuses-clause-whole : goal.returns-in-Ok-statuses-clause-whole
returns-in-Ok-statuses-clause-whole g c =
    let worked = rw c.in-Ok-Some.field-0-is at c.in-Ok-Some.ensures.whole in
    counted_round (g.P.Prover.answers c.args.prover.now) (g.P.Prover.sure c.args.prover.now) c.args.round c.in-Ok.parts.items c.in-Ok.ensures c.args.session.now c.work.new.session c.statuses.new.session
    c.in-Ok-Some.numbers worked c.in-Ok-statuses.shown _ refl refl (c.discharged_in.ensures ∙ ap discharged_in c.items.ensures) c.in-Ok-statuses.ensures.asked

pub returns-in-Err-statuses-clause-front : goal.returns-in-Err-statuses-clause-front
returns-in-Err-statuses-clause-front g c =
    let worked = rw c.in-Ok-Some.field-0-is at c.in-Ok-Some.ensures.whole in
    asked_front (g.P.Prover.answers c.args.prover.now) (g.P.Prover.sure c.args.prover.now) c.args.round c.in-Ok.parts.items c.in-Ok.ensures c.args.session.now c.work.new.session c.statuses.new.session
    c.in-Ok-Some.numbers worked c.in-Err-statuses.ensures.same
