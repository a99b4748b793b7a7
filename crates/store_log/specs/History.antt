-- The one history of several chairs: exchanges, each with the number of its chair.
use Rattle.std.specs.Prelude.{ℕ, ◌==◌, List, map}
use Rattle.std.specs.List.{filter}
use Rattle.core_steps.specs.declared.events.Event.{Event}
use Rattle.core_steps.specs.Run.{Exchange}

-- the exchanges of all chairs, in their order
abbrev pub exchanges_of : List (ℕ × Exchange) → List Exchange
exchanges_of = map (λ x. x.1)

-- the exchanges of one chair, in their order, with the replies that they had at their places
abbrev pub own : ℕ → List (ℕ × Exchange) → List Exchange
own k xs = exchanges_of (filter (λ x. x.0 == k) xs)

-- the events, each with its chair
abbrev pub events_of : List (ℕ × Exchange) → List (ℕ × Event)
events_of = map (λ x. (x.0, x.1.event))
