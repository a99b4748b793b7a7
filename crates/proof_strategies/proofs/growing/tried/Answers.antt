use Rattle.std.proofs.Common.{arith}
use Rattle.proof_strategies.proofs.Grown.{none_left, was_placed, was_refused}
use Rattle.proof_strategies.proofs.growing.tried.Goals as goal

pub returns-then-room-eq0 : goal.returns-then-room-eq0
returns-then-room-eq0 g c = none_left (g.S.Strategy.gives c.args.strategy.now) c.args.sequent.now c.args.room.now c.if-room-eq0.true

pub returns-in-Found : goal.returns-in-Found
returns-in-Found g c =
    was_placed (g.S.Strategy.gives c.args.strategy.now) c.args.sequent.now c.args.room.now c.in-Found.tree c.placed.new.room (omega (arith, c.if-room-eq0.false))
    c.in-Found.ensures.gives c.placed.result c.in-Found.ensures.applies c.in-Found.ensures.rules c.in-Found.ensures.nodes c.placed.ensures

pub returns-in-NoProof : goal.returns-in-NoProof
returns-in-NoProof g c =
    was_refused (g.S.Strategy.gives c.args.strategy.now) c.args.sequent.now c.args.room.now (omega (arith, c.if-room-eq0.false)) c.in-NoProof.ensures.gives
