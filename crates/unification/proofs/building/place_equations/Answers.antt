use Rattle.std.proofs.Common.{arith}
use Rattle.unification.proofs.Steps.{popped}
use Rattle.unification.proofs.Places.{last_room, placing_step}
use Rattle.unification.proofs.building.place_equations.Goals as goal

pub place_term-requires-clause-room : goal.place_term-requires-clause-room
place_term-requires-clause-room c =
    let last = popped _ _ _ c.in-Some.ensures.items in
    let rooms = last_room _ _ _ _ _ c.loop-equation.invariant.room last.items in
    omega (arith, rooms.0, c.loop-equation.nodes.ok.0)

pub place_term-requires-in-Some-clause-room : goal.place_term-requires-in-Some-clause-room
place_term-requires-in-Some-clause-room c =
    let last = popped _ _ _ c.in-Some.ensures.items in
    let rooms = last_room _ _ _ _ _ c.loop-equation.invariant.room last.items in
    omega (arith, rooms.1, c.in_ok-left.ensures.grown.long, c.place_term.new.nodes.ok.0)

pub loop-equation-preserved : goal.loop-equation-preserved
loop-equation-preserved c =
    let last = popped _ _ _ c.in-Some.ensures.items in
    placing_step _ _ _ _ _ _ _ _ _ _ _ _ _ c.loop-equation.invariant last.items c.in_ok-left.ensures.grown c.in_ok-left.ensures.stands c.in_ok-right.ensures.grown c.in_ok-right.ensures.stands c.in_ok-push.ensures.items
