-- What private contracts cite of sorting: which names are open, and what one turn does.
use Rattle.std.specs.Prelude.{◌≡◌, ◌⊎◌, ℕ, Bool, true, false, if◌then◌else◌, List, [], ◌∷◌, ◌++◌, map, Option, Some, None, is_some, bytes_eq, Vec}
use Rattle.std.specs.Borrow.{Bor}
use Rattle.std.specs.BTreeMap.{BTreeMap, get_by}
use Rattle.std.specs.Cmp.Lexicographic.{slice_cmp}
use Rattle.std.specs.List.{AllByRecursion, filter, slice_get}
use Rattle.std.specs.Option.{option_and_then, option_map, option_map_or}
use Rattle.std.specs.Ordering.{nat_cmp}
use Rattle.std.specs.declared.alloc.Global.{Global}
use Rattle.formula_core.specs.declared.raw.Ref.{Ref}
use Rattle.model_core.specs.declared.component.RawComponent.{RawComponent}
use Rattle.model_core.specs.Each.{IsIn}
use Rattle.static_check.specs.declared.sorting.Waiting.{Waiting}
use Rattle.static_check.specs.Settling.{own_name, references, has_component}

abbrev pub component_of : Waiting → RawComponent
component_of w = w.component.now

-- the components that wait for a name that is open, and none where it isn't open
abbrev pub Waiters : Type 0
Waiters = List ℕ → Option (List RawComponent)

abbrev pub waiting_for : BTreeMap (Bor (List ℕ)) (Vec Waiting Global) → Waiters
waiting_for names name = option_map (λ v. map component_of v.items) (get_by (λ k. slice_cmp nat_cmp name k.now) names)

abbrev pub is_open : Waiters → List ℕ → Bool
is_open w name = is_some (w name)

abbrev pub waiters : Waiters → List ℕ → List RawComponent
waiters w name = option_map_or (λ cs. cs) (w name) []

-- one component more waits for the name
abbrev pub and_waits : Waiters → List ℕ → RawComponent → Waiters
and_waits w n c name = option_map (λ cs. if bytes_eq name n then cs ++ c ∷ [] else cs) (w name)

-- the name isn't open any more
abbrev pub without_waiters : Waiters → List ℕ → Waiters
without_waiters w n name = if bytes_eq name n then None else w name

-- each name of a component is open, and none waits
abbrev pub all_open : List RawComponent → Waiters
all_open components name = if has_component components name then Some [] else None

-- none of the references is open
abbrev pub AreNoneOpen : Waiters → List Ref → Type 0
AreNoneOpen w refs = AllByRecursion (λ r. is_open w r.name ≡ false) refs

abbrev pub IsOpenReference : Waiters → List Ref → Ref → Type 0
IsOpenReference w refs r = IsIn r refs × (is_open w r.name ≡ true)

-- the components that aren't sorted
abbrev pub left_open : List RawComponent → Waiters → List (List ℕ)
left_open components w = filter (is_open w) (map own_name components)

-- the reference at the place, if it is open
abbrev pub open_at : Waiters → List Ref → ℕ → Option Ref
open_at w refs index = option_and_then (λ r. if is_open w r.name then Some r else None) (slice_get refs index)

-- the component waits for one of its references that is open
abbrev pub Waits : RawComponent → Waiters → Waiters → Type 0
Waits c w later = (r : Ref) × IsOpenReference w (references c) r × ((x : List ℕ) → later x ≡ and_waits w r.name c x)

-- the component is sorted, and what waited for it is pending; or its name is sorted already
abbrev pub Sorts : RawComponent → Waiters → List RawComponent → List (List ℕ) → Waiters → List RawComponent → List (List ℕ) → Type 0
Sorts c w pending sorted later more longer =
    ((is_open w (own_name c) ≡ true) × ((x : List ℕ) → later x ≡ without_waiters w (own_name c) x) × (more ≡ pending ++ waiters w (own_name c))
    × (longer ≡ sorted ++ own_name c ∷ []))
    ⊎ ((is_open w (own_name c) ≡ false) × ((x : List ℕ) → later x ≡ w x) × (more ≡ pending) × (longer ≡ sorted))

-- the component waits, or none of its references is open and it is sorted
abbrev pub WaitsOrSorts : RawComponent → Waiters → List RawComponent → List (List ℕ) → Waiters → List RawComponent → List (List ℕ) → Type 0
WaitsOrSorts c w pending sorted later more longer =
    (Waits c w later × (more ≡ pending) × (longer ≡ sorted)) ⊎ (AreNoneOpen w (references c) × Sorts c w pending sorted later more longer)
