-- A core with the history of what it did.
use Rattle.std.specs.Prelude.{◌≡◌, List, [], ◌∷◌, ◌++◌}
use Rattle.core_steps.specs.declared.Event.{Event}
use Rattle.core_steps.specs.declared.Reply.{Reply}
use Rattle.core_steps.specs.Step.{Replies}
use Rattle.core_steps.specs.Run.{Exchange, Runs, history_of}
use Rattle.rodin_cli.specs.declared.session.Session.{Session}

-- the event was answered so, and is the last of the history
abbrev pub PerformsInSession : Session → Event → Reply → Session → Type 0
PerformsInSession old event reply new = Replies old.core event reply new.core × (new.history.items ≡ old.history.items ++ (0, event) ∷ [])

-- nothing was done
abbrev pub IsUnchanged : Session → Session → Type 0
IsUnchanged old new = (new.core ≡ old.core) × (new.history.items ≡ old.history.items)

-- these exchanges of chair 0 lead from the one to the other, and are added to the history
abbrev pub Extends : Session → List Exchange → Session → Type 0
Extends old exchanges new = Runs old.core exchanges new.core × (new.history.items ≡ old.history.items ++ history_of 0 exchanges)
