-- What only private contracts cite.
use Rattle.std.specs.Prelude.{ℕ, List, Option}
use Rattle.std.specs.Borrow.{Bor}
use Rattle.std.specs.BTreeMap.{BTreeMap}
use Rattle.std.specs.BTreeMap as tree
use Rattle.std.specs.Cmp.Lexicographic.{slice_cmp}
use Rattle.std.specs.List.{slice_get}
use Rattle.std.specs.Option.{option_and_then}
use Rattle.std.specs.Ordering.{nat_cmp}
use Rattle.model_core.specs.declared.checked.CheckedEvent.{CheckedEvent}

-- the event at the place that a name has
abbrev pub event_placed : List CheckedEvent → BTreeMap (Bor (List ℕ)) ℕ → List ℕ → Option CheckedEvent
event_placed m places name = option_and_then (slice_get m) (tree.get_by (λ k. slice_cmp nat_cmp name k.now) places)
