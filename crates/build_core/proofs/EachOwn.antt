-- What each component has of its own.
use Rattle.std.specs.Prelude.{◌≡◌, ℕ, true, List, [], ◌∷◌, ◌++◌, Some}
use Rattle.model_core.specs.declared.component.RawComponent.{RawComponent}
use Rattle.sequent_core.specs.declared.sequent.Obligation.{Obligation}
use Rattle.build_core.specs.Projects.{Project, has_text}
use Rattle.build_core.specs.declared.owns.Own.{Own}
use Rattle.build_core.specs.Private.{found, Outcomes, IsOwn, OwnsOf}

-- the own obligations of these components, one component after another
abbrev pub AreOwn : List RawComponent → Outcomes → Project → List Obligation → Type 0
AreOwn components outcomes [] table = table ≡ []
AreOwn components outcomes (entry ∷ entries) table =
    (own : List Obligation) × (others : List Obligation) × IsOwn components outcomes entry.0 own × AreOwn components outcomes entries others
    × (table ≡ own ++ others)

-- each list of them is of a component of the project
abbrev pub HaveOwns : List RawComponent → Outcomes → Project → List (List ℕ × Own) → Type 0
HaveOwns components outcomes project owns = (name : List ℕ) (own : Own) → found owns name ≡ Some own → (has_text project name ≡ true) × OwnsOf components outcomes name own
