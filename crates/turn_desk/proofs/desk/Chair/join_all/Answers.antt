use Rattle.std.proofs.Common.{rules, ◌≡◌, ◌+◌, ◌++◌, ◌∷◌, [], length, refl, sym, ap, ◌∙◌, arith, length-append}
use Rattle.turn_desk.proofs.Logs.{begins_all, seen_then}
use Rattle.turn_desk.proofs.TakenIn.{whole, left_over, still_taken, all_taken}
use Rattle.turn_desk.proofs.desk.Chair.join_all.Goals as goal

pub loop-chair-preserved : goal.loop-chair-preserved
loop-chair-preserved g c =
    let i = c.loop-chair.invariant in
    let popped : c.pop.new.self.items ++ c.in-Some.chair ∷ [] ≡ c.loop-chair.chairs.items = sym c.in-Some.ensures.items in
    let count : length c.pop.new.self.items + 1 ≡ length c.loop-chair.chairs.items = omega (arith, ap length popped, length-append c.pop.new.self.items (c.in-Some.chair ∷ [])) in (
      search rules,
      omega (arith, i.1, count),
      left_over g.V.Kept.chair_of c.loop-chair.self c.join.new.self _ _ c.in-Some.chair _ count (popped ∙ i.2),
      still_taken g.V.Kept.chair_of c.loop-chair.self c.join.new.self _ _ c.in-Some.chair _ count (popped ∙ i.2) c.join.ensures.joined c.join.ensures.seen.0.0 c.join.ensures.seen.1.0 i.3,
      seen_then g.V.Kept.chair_of 0 _ _ _ i.4 c.join.ensures.seen.0,
    )

pub loop-chair-init : goal.loop-chair-init
loop-chair-init g c = (search rules, omega arith, whole c.args.chairs.items, λ i d low high. absurd (omega (arith, low, high)), (begins_all c.args.self.now.seen, refl))

pub returns-clause-each : goal.returns-clause-each
returns-clause-each g c i d low high = let none : length c.loop-chair.chairs.items ≡ 0 = search rules in c.loop-chair.invariant.3 i d (omega (arith, none)) high

pub returns-clause-all : goal.returns-clause-all
returns-clause-all g c numbers = let none : length c.loop-chair.chairs.items ≡ 0 = search rules in
    all_taken g.V.Kept.chair_of c.loop-chair.self c.args.chairs.items (λ i d low high. c.loop-chair.invariant.3 i d (omega (arith, none)) high) numbers
