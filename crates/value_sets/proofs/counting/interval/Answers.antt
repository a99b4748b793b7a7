use Rattle.std.proofs.lemmas.Int.{to_z-of_z}
use Rattle.std.specs.Int.{w128}
use Rattle.value_sets.proofs.Counted.{told_interval_as}
use Rattle.value_sets.proofs.counting.interval.Goals as goal

pub returns-in_ok-found-in-Some : goal.returns-in_ok-found-in-Some
returns-in_ok-found-in-Some c =
    told_interval_as c.args.m c.args.n _ _ c.in-Some.k c.in_ok-found-in-Some.found (to_z-of_z w128 c.args.m c.ranges.m) (to_z-of_z w128 c.args.n c.ranges.n)
    c.in-Some.ensures.exact c.in_ok-found-in-Some.ensures
