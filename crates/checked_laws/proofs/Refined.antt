-- The abstract events of an event, and what it inherits.
use Rattle.std.proofs.Common.{◌≡◌, inl, inr, sym, subst, refl, ℕ, Bool, true, false, cond, ◌&&◌, ◌==◌, List, [], ◌∷◌, ◌++◌, map, length, Option, Some, None, IfSome, IsTrue, bytes_eq, option_to_list, slice_get}
use Rattle.std.specs.List.{AllByRecursion, IsDistinct, filter, filter_map, cons_option}
use Rattle.std.specs.Option.{option_map, option_map_or}
use Rattle.formula_core.specs.declared.raw.Ref.{Ref}
use Rattle.formula_core.specs.Env.{HasDistinctNames}
use Rattle.formula_core.specs.Formulas.{joined}
use Rattle.formula_core.specs.Laws.{IsWithin}
use Rattle.formula_core.specs.Types.{is_value_type}
use Rattle.type_formula.proofs.Named.{all_append, all_back, all_each}
use Rattle.model_core.specs.declared.component.RawEvent.{RawEvent}
use Rattle.model_core.specs.declared.checked.CheckedEvent.{CheckedEvent}
use Rattle.model_core.specs.Each.{at_each, is_among}
use Rattle.check_rules.specs.Events.{initialisation, is_initialisation, event_named, RefinedAt, with_event, refined_at, implied_events, refined, inherited, inherited_params, param_clash_row, param_clashes}
use Rattle.check_rules.specs.Typed.{Entries}
use Rattle.check_rules.specs.Visible.{names}
use Rattle.checked_laws.specs.Sound.{HasIdentifiers, HasCarriersAmong, ArePredicatesIn, AreActionsIn, IsSoundEvent, StartsPlainly}
use Rattle.checked_laws.proofs.Actions.{actions_more}
use Rattle.checked_laws.proofs.Declared.{AreOther}
use Rattle.checked_laws.proofs.Names.{AllStand, found_in, distinct_back, within_all}
use Rattle.checked_laws.proofs.Parts.{all_map, filter_none, map_none, first_none, second_none}
use Rattle.checked_laws.proofs.Typing.{predicates_within}

pub cons_all : {X : Type 0} → (P : X → Type 0) (o : Option X) (xs : List X) → IfSome o P → AllByRecursion P xs → AllByRecursion P (cons_option o xs)
cons_all P None xs h k = k
cons_all P (Some x) xs h k = (h, k)

pub joined_all : {X Y : Type 0} → (P : Y → Type 0) (f : X → List Y) (xs : List X) → AllByRecursion (λ x. AllByRecursion P (f x)) xs → AllByRecursion P (joined (map f xs))
joined_all P f [] h = tt
joined_all P f (x ∷ xs) h = all_append P (f x) (joined (map f xs)) h.0 (joined_all P f xs h.1)

-- an event of that name, if there is one
pub event_found : (P : CheckedEvent → Type 0) (m : List CheckedEvent) (name : List ℕ) → AllByRecursion P m → IfSome (event_named m name) (λ a. P a × (bytes_eq name a.name ≡ true))
event_found P [] name h = tt
event_found P (a ∷ m) name h = go (bytes_eq name a.name) refl (event_found P m name h.1)
  where
    go : (b : Bool) → bytes_eq name a.name ≡ b → IfSome (event_named m name) (λ x. P x × (bytes_eq name x.name ≡ true))
        → IfSome (cond b (Some a) (event_named m name)) (λ x. P x × (bytes_eq name x.name ≡ true))
    go true is more = (h.0, is)
    go false is more = more

with_ref : (P : CheckedEvent → Type 0) (r : Ref) (o : Option CheckedEvent) → IfSome o (λ a. P a × (bytes_eq r.name a.name ≡ true)) → IfSome {T = RefinedAt} (option_map (λ a. (r, a)) o) (λ x. P x.1)
with_ref P r None h = tt
with_ref P r (Some a) h = h.0

refs_each : (P : CheckedEvent → Type 0) (m : List CheckedEvent) (refs : List Ref) → AllByRecursion P m → AllByRecursion (λ x. P x.1) (filter_map (with_event m) refs)
refs_each P m [] h = tt
refs_each P m (r ∷ refs) h = cons_all (λ x. P x.1) (with_event m r) (filter_map (with_event m) refs) (with_ref P r (event_named m r.name) (event_found P m r.name h)) (refs_each P m refs h)

clear_at : (component : List ℕ) (known : List (List ℕ)) (before refs : List RefinedAt) → at_each (param_clash_row component known) before refs ≡ []
    → AllByRecursion (λ x. AreOther known (names x.1.params)) refs
clear_at component known before [] e = tt
clear_at component known before (x ∷ refs) e = (
  filter_none (is_among known) (names x.1.params) (map_none _ (filter (is_among known) (names x.1.params)) (first_none (param_clash_row component known before x) _ e)),
  clear_at component known (before ++ x ∷ []) refs (second_none (param_clash_row component known before x) _ e),
)

pub listed : (P : CheckedEvent → Type 0) (o : Option CheckedEvent) → IfSome o P → AllByRecursion P (option_to_list o)
listed P None h = tt
listed P (Some a) h = (h, tt)

pub if_all : (P : CheckedEvent → Type 0) (b : Bool) (xs : List CheckedEvent) → (b ≡ true → AllByRecursion P xs) → AllByRecursion P (cond b xs [])
if_all P true xs h = h refl
if_all P false xs h = tt

pub if_some_each : {X : Type 0} → (P Q : X → Type 0) (o : Option X) → ((x : X) → P x → Q x) → IfSome o P → IfSome o Q
if_some_each P Q None f h = tt
if_some_each P Q (Some x) f h = f x h

both_at : (P Q : RefinedAt → Type 0) (xs : List RefinedAt) → AllByRecursion P xs → AllByRecursion Q xs → AllByRecursion (λ x. P x × Q x) xs
both_at P Q [] h k = tt
both_at P Q (x ∷ xs) h k = ((h.0, k.0), both_at P Q xs h.1 k.1)

-- a sound event whose parameters aren't known here
abbrev pub IsUsable : Entries → Entries → List (List ℕ) → CheckedEvent → Type 0
IsUsable constants env known a = IsSoundEvent constants env a × AreOther known (names a.params)

pub refined_usable : (constants env : Entries) (component : List ℕ) (known : List (List ℕ)) (m : List CheckedEvent) (e : RawEvent) →
    AllByRecursion (λ a. IsSoundEvent constants env a × StartsPlainly a) m → param_clashes component known (refined_at m e) ≡ [] → AllByRecursion (IsUsable constants env known) (refined m e)
refined_usable constants env component known m e sound clear =
    let P : CheckedEvent → Type 0 = λ a. IsSoundEvent constants env a × StartsPlainly a in
    let written : AllByRecursion (λ x. P x.1) (refined_at m e) = refs_each P m e.refines sound in
    let apart = clear_at component known [] (refined_at m e) clear in
    let start : IfSome (event_named m initialisation) (IsUsable constants env known) =
    if_some_each (λ a. P a × (bytes_eq initialisation a.name ≡ true)) (IsUsable constants env known) (event_named m initialisation)
    (λ a h. (h.0.0, subst (λ ps. AreOther known (names ps)) (sym (h.0.1 h.1).0) tt)) (event_found P m initialisation sound) in
    all_append (IsUsable constants env known) (map (λ x. x.1) (refined_at m e)) (implied_events m e)
    (all_map (IsUsable constants env known) (λ x. x.1) (refined_at m e)
    (all_each (λ x. P x.1 × AreOther known (names x.1.params)) (λ x. IsUsable constants env known x.1) (refined_at m e) (λ x h. (h.0.0, h.1))
    (both_at (λ x. P x.1) (λ x. AreOther known (names x.1.params)) (refined_at m e) written apart)))
    (if_all (IsUsable constants env known) (is_initialisation e && length e.refines == 0) (option_to_list (event_named m initialisation))
    (λ t. listed (IsUsable constants env known) (event_named m initialisation) start))

first_of : (P : CheckedEvent → Type 0) (xs : List CheckedEvent) → AllByRecursion P xs → IfSome (slice_get xs 0) P
first_of P [] h = tt
first_of P (x ∷ xs) h = h.0

if_some : (P : CheckedEvent → Type 0) (b : Bool) (o : Option CheckedEvent) → IfSome o P → IfSome (cond b o None) P
if_some P true o h = h
if_some P false o h = tt

pub inherited_usable : (P : CheckedEvent → Type 0) (m : List CheckedEvent) (e : RawEvent) → AllByRecursion P (refined m e) → IfSome (inherited m e) P
inherited_usable P m e h = if_some P e.extended (slice_get (refined m e) 0) (first_of P (refined m e) h)

-- What is known of inherited parameters and guards.
pub record IsInherited (constants env : Entries) (known : List (List ℕ)) (params : Entries) (o : Option CheckedEvent) : Type 0 where
  pub distinct : HasDistinctNames params
  pub other : AreOther known (names params)
  pub types : AllByRecursion (λ x. IsTrue (is_value_type x.1)) params
  pub sets : HasCarriersAmong constants params
  pub names_are : HasIdentifiers params
  pub guards : (target : Entries) → IsWithin env target → AllStand target params → ArePredicatesIn target (option_map_or (λ a. a.guards) o [])
  pub actions : (target : Entries) → IsWithin env target → AllStand target params → HasIdentifiers target → AreActionsIn target (option_map_or (λ a. a.actions) o [])

-- what stands in the environment or is a parameter stands in the larger one
pub params_into : (env params target : Entries) → IsWithin env target → AllStand target params → IsWithin (env ++ params) target
params_into env params target w h x e = elim (found_in env params x.0 x.1 e) [
  | inl k ↦ w x k
  | inr k ↦ within_all target params h x k
]

inherited_from : (constants env : Entries) (known : List (List ℕ)) (o : Option CheckedEvent) → IfSome o (IsUsable constants env known)
    → IsInherited constants env known (option_map_or (λ a. a.params) o []) o
unfolding IsDistinct
inherited_from constants env known None h = record { distinct = tt; other = tt; types = tt; sets = tt; names_are = tt; guards = λ target w s. tt; actions = λ target w s ids. tt }
inherited_from constants env known (Some a) h = record {
  distinct = distinct_back env a.params h.0.good.names;
  other = h.1;
  types = all_back (λ x. IsTrue (is_value_type x.1)) env a.params h.0.good.types;
  sets = h.0.sets;
  names_are = h.0.names;
  guards = λ target w s. predicates_within (env ++ a.params) target a.guards (params_into env a.params target w s) h.0.guards;
  actions = λ target w s ids. actions_more (env ++ a.params) target (params_into env a.params target w s) ids a.actions h.0.actions;
}

pub inherited_is : (constants env : Entries) (known : List (List ℕ)) (m : List CheckedEvent) (e : RawEvent) → AllByRecursion (IsUsable constants env known) (refined m e)
    → IsInherited constants env known (inherited_params m e) (inherited m e)
inherited_is constants env known m e h = inherited_from constants env known (inherited m e) (inherited_usable (IsUsable constants env known) m e h)
