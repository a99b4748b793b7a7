use Rattle.std.proofs.Common.{refl, ap, arith}
use Rattle.rodin_cli.proofs.Legal.{front_of_working, front_of_asking, whole_of_asking}
use Rattle.rodin_cli.proofs.check.play.Goals as goal

pub work-requires-clause-out : goal.work-requires-clause-out
work-requires-clause-out g c = rw c.requires refl

pub work-requires-clause-number : goal.work-requires-clause-number
work-requires-clause-number g c = let start = c.requires in omega (arith, ap (λ s. s.next) start)

pub returns-in-Err-clause-front : goal.returns-in-Err-clause-front
returns-in-Err-clause-front g c =
    let f = c.in-Err.ensures.front in
    front_of_working (g.P.Prover.answers c.args.prover.now) (g.P.Prover.sure c.args.prover.now) c.args.parts.items c.args.session.now c.requires c.work.new.session f.0 f.1 f.2

pub returns-in-Ok-clause-whole : goal.returns-in-Ok-clause-whole
returns-in-Ok-clause-whole g c =
    let w = rw c.in-Ok-Some.field-0-is at c.in-Ok-Some.ensures.whole in
    let a = c.in-Ok.ensures.whole in
    let shown = c.in-Ok.shown in
    whole_of_asking (g.P.Prover.answers c.args.prover.now) (g.P.Prover.sure c.args.prover.now) c.args.parts.items c.args.session.now c.requires
    c.work.new.session c.ask.new.session c.in-Ok-Some._numbers w.0 w.1 w.2 c.decides_sequents.ensures
    shown.faults shown.warnings shown.statuses a.0 a.1 a.2 a.3 a.4 a.5 a.6

pub returns-in-Err-ask-clause-front : goal.returns-in-Err-ask-clause-front
returns-in-Err-ask-clause-front g c =
    let w = rw c.in-Ok-Some.field-0-is at c.in-Ok-Some.ensures.whole in
    front_of_asking (g.P.Prover.answers c.args.prover.now) (g.P.Prover.sure c.args.prover.now) c.args.parts.items c.args.session.now c.requires
    c.work.new.session c.ask.new.session c.in-Ok-Some._numbers w.0 w.1 w.2 c.in-Err-ask.ensures.front
