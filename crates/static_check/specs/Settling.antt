-- Settled components: each reference is absent, or is settled in an earlier round.
use Rattle.std.specs.Prelude.{◌≡◌, ◌↔◌, ◌⊎◌, ℕ, zero, suc, Bool, true, false, List, [], ◌∷◌, ◌++◌, map, bytes_eq, ⊤}
use Rattle.std.specs.List.{AllByRecursion, Contains, IsDistinct, list_any}
use Rattle.formula_core.specs.declared.raw.Ref.{Ref}
use Rattle.model_core.specs.declared.component.RawComponent.{RawComponent}
use Rattle.model_core.specs.declared.component.RawComponent.TheVariants.{Context, Machine}
use Rattle.std.specs.Option.{option_to_list}
use Rattle.model_core.specs.Components.{heading}
use Rattle.model_core.specs.Each.{is_among}
use Rattle.static_check.specs.declared.settled.Order.{Order}

abbrev pub own_name : RawComponent → List ℕ
own_name c = (heading c).name

-- the references, in order
abbrev pub references : RawComponent → List Ref
references (Context name extends sets constants axioms) = extends
references (Machine name refines sees variables invariants variant events) = option_to_list refines ++ sees

-- whether some component has the name
abbrev pub has_component : List RawComponent → List ℕ → Bool
has_component components name = list_any (λ c. bytes_eq name (own_name c)) components

-- P holds of the reference, or no component has its name
abbrev pub IfPresent : List RawComponent → (List ℕ → Type 0) → Ref → Type 0
IfPresent components P reference = P reference.name ⊎ (has_component components reference.name ≡ false)

-- settled in one of the first k rounds
abbrev pub IsSettledAmong : List RawComponent → ℕ → List ℕ → Type 0
IsSettledAmong components zero name = ⊥
IsSettledAmong components (suc k) name =
    (c : RawComponent) × Contains components c × (own_name c ≡ name) × AllByRecursion (IfPresent components (IsSettledAmong components k)) (references c)

abbrev pub IsSettled : List RawComponent → List ℕ → Type 0
IsSettled components name = (k : ℕ) × IsSettledAmong components k name

-- each of these names is that of a component whose references are absent or stand before it
abbrev pub ReferencesFirst : List RawComponent → List (List ℕ) → List (List ℕ) → Type 0
ReferencesFirst components before [] = ⊤
ReferencesFirst components before (name ∷ names) =
    ((c : RawComponent) × Contains components c × (own_name c ≡ name) × AllByRecursion (IfPresent components (λ n. is_among before n ≡ true)) (references c))
    × ReferencesFirst components (before ++ name ∷ []) names

pub record IsComponentOrder (components : List RawComponent) (order : Order) : Type 0 where
  pub references_first : ReferencesFirst components [] order.sorted
  pub once : IsDistinct bytes_eq order.sorted
  pub sorted : (name : List ℕ) → (is_among order.sorted name ≡ true) ↔ IsSettled components name
  pub cyclic : (name : List ℕ) → (is_among order.cyclic name ≡ true) ↔ ((has_component components name ≡ true) × ¬ IsSettled components name)
  pub cyclic_once : IsDistinct bytes_eq (map own_name components) → IsDistinct bytes_eq order.cyclic
