use Rattle.std.proofs.Common.{◌≡◌, ℕ, List, drop}
use Rattle.check_rules.specs.Events.{event_named}
use Rattle.check_rules.specs.Private.{event_placed}
use Rattle.check_rules.proofs.abstraction.places_of.Given as goal

abbrev pub invariant-loop-place : goal.invariant-loop-place
invariant-loop-place l = (name : List ℕ) → event_placed l.list l.places name ≡ event_named (drop l.place l.list) name
