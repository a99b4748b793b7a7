use Rattle.std.proofs.Common.{◌∙◌, [], ◌∷◌, ◌++◌, inl, arith}
use Rattle.rodin_cli.proofs.Sessions.{both, worked_front, worked_round}
use Rattle.rodin_cli.proofs.Legal.{begun_stays}
use Rattle.rodin_cli.proofs.round.work.Goals as goal

pub returns-in-Err-clause-front : goal.returns-in-Err-clause-front
returns-in-Err-clause-front g c =
    let f = c.in-Err.ensures.front in
    (f.0, inl f.1, f.2)

pub turns-requires-clause-out : goal.turns-requires-clause-out
turns-requires-clause-out g c =
    let b = rw c.in-Ok-Some.field-0-is at c.in-Ok-Some.ensures.whole in
    (begun_stays c.args.parts.items b.0 b.1 c.args.session.now.core c.begin.new.session.core b.2 b.3 b.5.0).out ∙ c.requires.out

pub turns-requires-clause-number : goal.turns-requires-clause-number
turns-requires-clause-number g c =
    let b = rw c.in-Ok-Some.field-0-is at c.in-Ok-Some.ensures.whole in
    let next = (begun_stays c.args.parts.items b.0 b.1 c.args.session.now.core c.begin.new.session.core b.2 b.3 b.5.0).next in
    let start = c.requires.number in
    omega (arith, next, start)

pub returns-in-Ok-clause-whole : goal.returns-in-Ok-clause-whole
returns-in-Ok-clause-whole g c =
    let b = rw c.in-Ok-Some.field-0-is at c.in-Ok-Some.ensures.whole in
    let t = c.in-Ok.ensures.whole in (
      (b.0 ++ b.1 ∷ []) ++ (t.0 ++ t.1 ∷ []),
      worked_round (g.P.Prover.answers c.args.prover.now) (g.P.Prover.sure c.args.prover.now) c.args.parts.items c.in-Ok-Some.numbers b.0 b.1 t.0 t.1 b.2 b.3 b.4 t.2 t.3 t.4,
      both c.args.session.now c.begin.new.session c.turns.new.session (b.0 ++ b.1 ∷ []) (t.0 ++ t.1 ∷ []) b.5 t.5,
    )

pub returns-in-Err-turns-clause-front : goal.returns-in-Err-turns-clause-front
returns-in-Err-turns-clause-front g c =
    let b = rw c.in-Ok-Some.field-0-is at c.in-Ok-Some.ensures.whole in
    let t = c.in-Err-turns.ensures.front in (
      (b.0 ++ b.1 ∷ []) ++ (t.0 ++ t.1),
      worked_front (g.P.Prover.answers c.args.prover.now) (g.P.Prover.sure c.args.prover.now) c.args.parts.items c.in-Ok-Some.numbers b.0 b.1 t.0 t.1 b.2 b.3 b.4 t.2 t.3,
      both c.args.session.now c.begin.new.session c.turns.new.session (b.0 ++ b.1 ∷ []) (t.0 ++ t.1) b.5 t.4,
    )
