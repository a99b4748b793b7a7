use Rattle.std.proofs.Common.{◌≡◌, ◌+◌, length, vec_capacity, All}
use Rattle.turn_desk.specs.Log.{NoneFrom}
use Rattle.turn_desk.specs.Chairs.{AreNew}
use Rattle.turn_desk.proofs.desk.Chair.split_all.Given as goal

abbrev pub invariant-loop : goal.invariant-loop
invariant-loop g l = (l.self ≡ record l.initial.self { made = l.initial.self.made + l.counter }) × (length l.chairs.items ≡ l.counter) × AreNew l.initial.self l.initial.self.made l.chairs.items × All (λ chair. NoneFrom g.V.Kept.chair_of chair.number chair.seen) l.chairs.items × (vec_capacity l.chairs ≡ vec_capacity l.fn.chairs)
