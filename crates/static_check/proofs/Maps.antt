-- The names that are open, where one of them changes.
use Rattle.std.proofs.Common.{◌≡◌, ◌∙◌, sym, ap, subst, refl, inl, inr, ℕ, ◌+◌, ◌<◌, Bool, true, false, ◌||◌, cond, List, [], ◌∷◌, ◌++◌, map, take, length, get_or, Option, Some, None}
use Rattle.std.specs.Prelude.{bytes_eq, is_some, Vec}
use Rattle.std.specs.declared.alloc.Global.{Global}
use Rattle.std.specs.Borrow.{Bor}
use Rattle.std.specs.BTreeMap.{BTreeMap, IsUnchanged, UpdatesBy, get_by, is_at}
use Rattle.std.specs.Cmp.Lexicographic.{slice_cmp}
use Rattle.std.specs.Map.{lookup}
use Rattle.std.specs.Option.{option_map, option_map_or}
use Rattle.std.specs.Ordering.{nat_cmp}
use Rattle.std.proofs.lemmas.Cmp.{nat_list_eq_equiv}
use Rattle.std.proofs.lemmas.List.{map-append}
use Rattle.std.proofs.lemmas.List.Folds.{list_any-append}
use Rattle.std.proofs.lemmas.Map.Text.{btree_map_updates_str}
use Rattle.std.proofs.lemmas.Slice.Eq.{bytes_eq-Decides}
use Rattle.model_core.specs.declared.component.RawComponent.{RawComponent}
use Rattle.model_core.proofs.Firsts.{taken_more}
use Rattle.static_check.specs.declared.sorting.Waiting.{Waiting}
use Rattle.static_check.specs.Settling.{own_name, has_component}
use Rattle.static_check.specs.PrivateSorting.{Waiters, Sorts, component_of, waiting_for, waiters, is_open, and_waits, all_open}

abbrev Open : Type 0
Open = BTreeMap (Bor (List ℕ)) (Vec Waiting Global)

abbrev pub components_of : Vec Waiting Global → List RawComponent
components_of v = map component_of v.items

map_cond : {X Y : Type 0} (f : X → Y) (b : Bool) (o p : Option X) → option_map f (cond b o p) ≡ cond b (option_map f o) (option_map f p)
map_cond f true o p = refl
map_cond f false o p = refl

-- with another list at one name
pub changed : (name : List ℕ) (m n : Open) (o : Option (Vec Waiting Global)) →
    UpdatesBy (λ x y. slice_cmp nat_cmp x.now y.now) (λ k. slice_cmp nat_cmp name k.now) m n o → (x : List ℕ) →
    waiting_for n x ≡ cond (bytes_eq x name) (option_map components_of o) (waiting_for m x)
changed name m n o h x =
    ap (option_map components_of) (btree_map_updates_str name m n o h x)
    ∙ map_cond components_of (bytes_eq name x) o (get_by (λ k. slice_cmp nat_cmp x k.now) m)
    ∙ ap (λ b. cond b (option_map components_of o) (waiting_for m x)) (nat_list_eq_equiv.symm name x)

abbrev none_waits : Option (List RawComponent)
none_waits = Some []

open_more : (a b : Bool) → cond b none_waits (cond a none_waits None) ≡ cond (a || (b || false)) none_waits None
open_more true true = refl
open_more true false = refl
open_more false true = refl
open_more false false = refl

opened : (before : List RawComponent) (c : RawComponent) (w v : Waiters) (name : List ℕ) → name ≡ own_name c → ((x : List ℕ) → w x ≡ all_open before x) →
    ((x : List ℕ) → v x ≡ cond (bytes_eq x name) none_waits (w x)) → (x : List ℕ) → v x ≡ all_open (before ++ c ∷ []) x
opened before c w v name is there after x =
    after x ∙ (λ j. cond (bytes_eq x (is j)) none_waits (there x j))
    ∙ open_more (has_component before x) (bytes_eq x (own_name c))
    ∙ ap (λ b. cond b none_waits None) (sym (list_any-append (λ d. bytes_eq x (own_name d)) before (c ∷ [])))

-- one name of a component more is open
pub one_more_open : (components : List (Bor RawComponent)) (i : ℕ) (c : Bor RawComponent) (w v : Waiters) (name : List ℕ) → i < length components → c ≡ get_or components i c →
    name ≡ own_name c.now → ((x : List ℕ) → w x ≡ all_open (map (λ x. x.now) (take i components)) x) → ((x : List ℕ) → v x ≡ cond (bytes_eq x name) none_waits (w x)) →
    (x : List ℕ) → v x ≡ all_open (map (λ x. x.now) (take (i + 1) components)) x
one_more_open components i c w v name lt at is before after x =
    opened (map (λ x. x.now) (take i components)) c.now w v name is before after x
    ∙ ap (λ cs. all_open cs x) (sym (ap (map (λ x. x.now)) (taken_more components i c lt at) ∙ map-append (λ (x : Bor RawComponent). x.now) (take i components) (c ∷ [])))

-- it is sorted, and those that waited for it are pending
pub sorted_now : (c : RawComponent) (m n : Open) (v : Vec Waiting Global) (name : List ℕ) (pending more : List RawComponent) (sorted longer : List (List ℕ)) → name ≡ own_name c →
    Some v ≡ get_by (λ k. slice_cmp nat_cmp name k.now) m → UpdatesBy (λ x y. slice_cmp nat_cmp x.now y.now) (λ k. slice_cmp nat_cmp name k.now) m n None →
    more ≡ pending ++ components_of v → longer ≡ sorted ++ own_name c ∷ [] → Sorts c (waiting_for m) pending sorted (waiting_for n) more longer
sorted_now c m n v name pending more sorted longer is got updates e f = inl (
  subst (λ x. is_open (waiting_for m) x ≡ true) is (ap (λ o. is_some (option_map components_of o)) (sym got)),
  λ x. changed name m n None updates x ∙ ap (λ y. cond (bytes_eq x y) None (waiting_for m x)) is,
  e ∙ ap (λ cs. pending ++ cs) (subst (λ x. components_of v ≡ waiters (waiting_for m) x) is (ap (λ o. option_map_or (λ cs. cs) (option_map components_of o) []) got)),
  f,
)

-- its name was sorted already
pub sorted_before : (c : RawComponent) (m n : Open) (name : List ℕ) (pending : List RawComponent) (sorted : List (List ℕ)) → name ≡ own_name c →
    None ≡ get_by (λ k. slice_cmp nat_cmp name k.now) m → IsUnchanged m n → Sorts c (waiting_for m) pending sorted (waiting_for n) pending sorted
sorted_before c m n name pending sorted is got unchanged = inr (
  subst (λ x. is_open (waiting_for m) x ≡ false) is (ap (λ o. is_some (option_map components_of o)) (sym got)),
  λ x. ap (λ es. option_map components_of (lookup (is_at (λ k. slice_cmp nat_cmp x k.now)) es)) unchanged,
  refl,
  refl,
)

wait_at : (b : Bool) (o : Option (List RawComponent)) (cs more : List RawComponent) (c : RawComponent) → (b ≡ true → o ≡ Some cs) → more ≡ cs ++ c ∷ [] →
    cond b (Some more) o ≡ option_map (λ ds. cond b (ds ++ c ∷ []) ds) o
wait_at true o cs more c h e = ap (λ ds. Some ds) e ∙ sym (ap (option_map (λ ds. ds ++ c ∷ [])) (h refl))
wait_at false None cs more c h e = refl
wait_at false (Some ds) cs more c h e = refl

-- one component more waits for a name
pub waits_now : (c : RawComponent) (m n : Open) (v more : Vec Waiting Global) (name : List ℕ) → Some v ≡ get_by (λ k. slice_cmp nat_cmp name k.now) m →
    UpdatesBy (λ x y. slice_cmp nat_cmp x.now y.now) (λ k. slice_cmp nat_cmp name k.now) m n (Some more) → components_of more ≡ components_of v ++ c ∷ [] → (x : List ℕ) →
    waiting_for n x ≡ and_waits (waiting_for m) name c x
waits_now c m n v more name got updates e x =
    changed name m n (Some more) updates x
    ∙ wait_at (bytes_eq x name) (waiting_for m x) (components_of v) (components_of more) c
    (λ f. ap (waiting_for m) ((bytes_eq-Decides x name).0 f) ∙ ap (option_map components_of) (sym got)) e

pub with_no_items : (name : List ℕ) (m n : Open) (v : Vec Waiting Global) → v.items ≡ [] →
    UpdatesBy (λ x y. slice_cmp nat_cmp x.now y.now) (λ k. slice_cmp nat_cmp name k.now) m n (Some v) → (x : List ℕ) →
    waiting_for n x ≡ cond (bytes_eq x name) none_waits (waiting_for m x)
with_no_items name m n v e updates x =
    changed name m n (Some v) updates x ∙ ap (λ ws. cond (bytes_eq x name) (Some (map component_of ws)) (waiting_for m x)) e
