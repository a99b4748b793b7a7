use Rattle.std.proofs.Common.{[], ◌∷◌, ◌++◌, map, subst, arith}
use Rattle.std.proofs.lemmas.List.{length-append, length-map}
use Rattle.std.specs.Arc.{arc_value}
use Rattle.std.proofs.lemmas.Result.{err_from_is_err_and}
use Rattle.build_core.specs.Tables.{IsTableOf}
use Rattle.rodin_cli.proofs.Sessions.{both, AreTurns-both}
use Rattle.rodin_cli.proofs.Sizes.{table_within}
use Rattle.rodin_cli.proofs.Completing.{turns_bound}
use Rattle.rodin_cli.proofs.round.turns.Goals as goal

pub turn-requires : goal.turn-requires
turn-requires g c =
    let before = c.loop-turn.invariant in
    let table = map arc_value c.table-obligations.result.now in
    let is = subst (λ p. IsTableOf p table) c.builder.ensures.builder c.table-obligations.ensures.table in
    let bound = turns_bound (g.P.Prover.answers c.args.prover.now) (g.P.Prover.sure c.args.prover.now) before.0 table c.args.session.now.core c.loop-turn.session.core c.loop-turn._turn
    c.requires.out is before.1 before.2.0 before.3 in
    let start = c.requires.number in
    omega (arith, start, bound.0, bound.1, table_within table c.table-obligations.ensures.fits)

pub returns-in_err-turn-clause-front : goal.returns-in_err-turn-clause-front
returns-in_err-turn-clause-front g c =
    let p = err_from_is_err_and c.from_residual.result c.from_residual.ensures.1 in
    let before = c.loop-turn.invariant in
    let end = c.in_err-turn.ensures.front in
    rw p.1 (before.0, end.0, before.1, end.1, both c.args.session.now c.loop-turn.session c.turn.new.session before.0 end.0 before.2 end.2)

pub returns-then-not-branch-clause-whole : goal.returns-then-not-branch-clause-whole
returns-then-not-branch-clause-whole g c =
    let before = c.loop-turn.invariant in
    let last = rw c.if-not-branch.true at c.in_ok-turn.ensures.turned in
    (before.0, last.0, before.1, last.1, last.2, both c.args.session.now c.loop-turn.session c.turn.new.session before.0 (last.0 ∷ []) before.2 last.3)

pub loop-turn-preserved : goal.loop-turn-preserved
loop-turn-preserved g c =
    let before = c.loop-turn.invariant in
    let more = rw c.if-not-branch.false at c.in_ok-turn.ensures.turned in (
      before.0 ++ more.0 ∷ more.1 ∷ [],
      AreTurns-both _ _ before.0 (more.0 ∷ more.1 ∷ []) before.1 (more.2, tt),
      both c.args.session.now c.loop-turn.session c.turn.new.session before.0 (more.0 ∷ more.1 ∷ []) before.2 more.3,
      omega (arith, before.3, length-append before.0 (more.0 ∷ more.1 ∷ [])),
    )

pub unreachable-requires : goal.unreachable-requires
unreachable-requires g c =
    let before = c.loop-turn.invariant in
    let table = map arc_value c.table-obligations.result.now in
    let is = subst (λ p. IsTableOf p table) c.builder.ensures.builder c.table-obligations.ensures.table in
    let bound = turns_bound (g.P.Prover.answers c.args.prover.now) (g.P.Prover.sure c.args.prover.now) before.0 table c.args.session.now.core c.loop-turn.session.core c.loop-turn._turn
    c.requires.out is before.1 before.2.0 before.3 in
    omega (arith, bound.0, length-map c.table-obligations.result.now arc_value, c.loop-turn-test.false)
