use Rattle.std.proofs.Common.{◌≡◌, ◌≤◌, ◌-◌, length, take, drop}
use Rattle.std.specs.List.{AllByRecursion}
use Rattle.std.specs.declared.cmp.Ordering.TheVariants.{Less, Greater}
use Rattle.core_steps.proofs.entries.place_of.Given as goal

abbrev pub invariant-loop-from : goal.invariant-loop-from
invariant-loop-from g l =
    (l.from ≤ l.to) × (l.to ≤ length l.entries)
    × AllByRecursion (λ e. g.K.Ord.cmp l.key e.0 ≡ Greater) (take l.from l.entries)
    × AllByRecursion (λ e. g.K.Ord.cmp l.key e.0 ≡ Less) (drop l.to l.entries)

abbrev pub decreases-loop-from : goal.decreases-loop-from
decreases-loop-from g l = l.to - l.from
