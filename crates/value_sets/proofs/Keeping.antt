-- Which values are in the lists that tests keep, and parts of members.
use Rattle.std.proofs.Common.{◌≡◌, ◌∙◌, ◌⊎◌, ◌↔◌, inl, inr, ap, sym, subst, refl, ℕ, zero, suc, ◌<◌, length, slice_index_or, Bool, true, false, cond, ◌||◌, List, [], ◌∷◌, Option, Some, None, arith}
use Rattle.std.specs.Prelude.{not, IsTrue, ⊤}
use Rattle.std.specs.Option.{option_map_or}
use Rattle.std.specs.List.{Contains, filter, filter_map, cons_option}
use Rattle.std.specs.Ordering.{is_eq}
use Rattle.std.specs.declared.cmp.Ordering.{Ordering}
use Rattle.std.specs.declared.cmp.Ordering.TheVariants.{Less, Equal, Greater}
use Rattle.std.proofs.lemmas.Cmp.{tied_itself}
use Rattle.std.proofs.lemmas.List.Elements.{filter_more, filter_map-append}
use Rattle.formula_core.proofs.Weakening.{first_true, second_true, both_true}
use Rattle.event_values.specs.declared.value.Value.{Value, out-Value, roll-Value}
use Rattle.event_values.specs.declared.value.Value.TheOpen.{Value-F, Int, Truth, Elem, Pair, Set}
use Rattle.event_values.specs.declared.value.Value.TheVariants as value
use Rattle.event_values.specs.declared.value.Value.TheViews.{roll-out-Value, rolls-Pair, outs-Pair}
use Rattle.event_values.specs.Order.{value_cmp}
use Rattle.event_values.proofs.Orders.{equal_is_same}
use Rattle.event_values.proofs.Total.{order_total}
use Rattle.value_sets.specs.declared.lists.Side.{Side}
use Rattle.value_sets.specs.declared.lists.Side.TheVariants as side
use Rattle.value_sets.specs.Sets.{set_members, In, Within}
use Rattle.value_sets.specs.Private.{side_at, part_of, converse_at, converse_of, among, agrees, is_chosen, all_among}

pub no_true : false ≡ true → ⊥
no_true e = subst is_false e tt
  where
    is_false : Bool → Type 0
    is_false true = ⊥
    is_false false = ⊤

pub contains_none : (x : Value) → Contains [] x → ⊥
contains_none x d = omega (arith, d.1)

pub contained_first : (y : Value) (ys : List Value) → Contains (y ∷ ys) y
contained_first y ys = (zero, omega arith, refl)

pub contained_later : (y : Value) (ys : List Value) (x : Value) → Contains ys x → Contains (y ∷ ys) x
contained_later y ys x c = (suc c.0, omega (arith, c.1), c.2)

pub contained_cases : (y : Value) (ys : List Value) (x : Value) → Contains (y ∷ ys) x → (y ≡ x) ⊎ Contains ys x
contained_cases y ys x c = go c.0 c.1 c.2
  where
    go : (k : ℕ) → k < length (y ∷ ys) → slice_index_or (y ∷ ys) k x ≡ x → (y ≡ x) ⊎ Contains ys x
    go zero less is = inl is
    go (suc k) less is = inr (k, omega (arith, less), is)

-- A VALUE AMONG OTHERS

among_first : (y x : Value) (ys : List Value) (o : Ordering) → value_cmp y x ≡ o → (among ys x ≡ true → Contains ys x) → (is_eq o || among ys x) ≡ true → Contains (y ∷ ys) x
among_first y x ys Less e more h = contained_later y ys x (more h)
among_first y x ys Equal e more h = subst (λ z. Contains (y ∷ ys) z) (equal_is_same y x e) (contained_first y ys)
among_first y x ys Greater e more h = contained_later y ys x (more h)

pub among_only : (ys : List Value) (x : Value) → among ys x ≡ true → Contains ys x
among_only [] x h = absurd (no_true h)
among_only (y ∷ ys) x h = among_first y x ys (value_cmp y x) refl (λ g. among_only ys x g) h

or_second : (a b : Bool) → b ≡ true → (a || b) ≡ true
or_second true b h = refl
or_second false b h = h

among_one : (y : Value) (ys : List Value) (x : Value) → (y ≡ x) ⊎ Contains ys x → (Contains ys x → among ys x ≡ true) → (is_eq (value_cmp y x) || among ys x) ≡ true
among_one y ys x (inl is) more = ap (λ b. b || among ys x) (ap is_eq (ap (value_cmp y) (sym is) ∙ tied_itself order_total y))
among_one y ys x (inr d) more = or_second (is_eq (value_cmp y x)) (among ys x) (more d)

pub among_all : (ys : List Value) (x : Value) → Contains ys x → among ys x ≡ true
among_all [] x c = absurd (contains_none x c)
among_all (y ∷ ys) x c = among_one y ys x (contained_cases y ys x c) (λ d. among_all ys x d)

-- as it is wanted
abbrev pub Wanted : Bool → List Value → Value → Type 0
Wanted true ys x = Contains ys x
Wanted false ys x = Contains ys x → ⊥

not_among : (ys : List Value) (x : Value) → not (among ys x) ≡ true → Contains ys x → ⊥
not_among ys x h c = no_true (sym (ap not (among_all ys x c)) ∙ h)

among_not : (ys : List Value) (x : Value) (b : Bool) → among ys x ≡ b → (Contains ys x → ⊥) → not b ≡ true
among_not ys x true e n = absurd (n (among_only ys x e))
among_not ys x false e n = refl

pub wanted_only : (w : Bool) (ys : List Value) (x : Value) → agrees w (among ys x) ≡ true → Wanted w ys x
wanted_only true ys x h = among_only ys x h
wanted_only false ys x h = not_among ys x h

pub wanted_all : (w : Bool) (ys : List Value) (x : Value) → Wanted w ys x → agrees w (among ys x) ≡ true
wanted_all true ys x h = among_all ys x h
wanted_all false ys x h = among_not ys x (among ys x) refl h

pub in_told : (b : Bool) (vs : List Value) (x s : Value) → vs ≡ set_members s → b ≡ among vs x → IsTrue b ↔ In x s
in_told b vs x s from is =
    let e : b ≡ among (set_members s) x = is ∙ ap (λ us. among us x) from in
    ((λ h. among_only (set_members s) x (sym e ∙ h)), (λ c. e ∙ among_all (set_members s) x c))

all_only : (ys xs : List Value) → all_among ys xs ≡ true → (x : Value) → Contains xs x → Contains ys x
all_only ys [] h x c = absurd (contains_none x c)
all_only ys (v ∷ vs) h x c = go (contained_cases v vs x c) (λ d. all_only ys vs (second_true (among ys v) (all_among ys vs) h) x d)
  where
    go : (v ≡ x) ⊎ Contains vs x → (Contains vs x → Contains ys x) → Contains ys x
    go (inl is) more = subst (Contains ys) is (among_only ys v (first_true (among ys v) (all_among ys vs) h))
    go (inr d) more = more d

all_each : (ys xs : List Value) → ((x : Value) → Contains xs x → Contains ys x) → all_among ys xs ≡ true
all_each ys [] f = refl
all_each ys (v ∷ vs) f = both_true (among ys v) (all_among ys vs) (among_all ys v (f v (contained_first v vs))) (all_each ys vs (λ x c. f x (contained_later v vs x c)))

pub within_told : (b : Bool) (ss ts : List Value) (s t : Value) → ss ≡ set_members s → ts ≡ set_members t → b ≡ all_among ts ss → IsTrue b ↔ Within s t
within_told b ss ts s t from of is =
    let e : b ≡ all_among (set_members t) (set_members s) = is ∙ (λ i. all_among (of i) (from i)) in
    ((λ h. all_only (set_members t) (set_members s) (sym e ∙ h)), (λ f. e ∙ all_each (set_members t) (set_members s) f))

pub ruleset tests = (in_told, within_told)

-- WHAT A FILTER KEEPS

module _ (p : Value → Bool) where
  only_kept : (y : Value) (ys : List Value) (x : Value) (b : Bool) → p y ≡ b → (Contains (filter p ys) x → Contains ys x × (p x ≡ true))
      → Contains (cond b (y ∷ filter p ys) (filter p ys)) x → Contains (y ∷ ys) x × (p x ≡ true)
  only_kept y ys x true e more c = go (contained_cases y (filter p ys) x c)
    where
      go : (y ≡ x) ⊎ Contains (filter p ys) x → Contains (y ∷ ys) x × (p x ≡ true)
      go (inl is) = (subst (λ z. Contains (y ∷ ys) z) is (contained_first y ys), ap p (sym is) ∙ e)
      go (inr d) = (contained_later y ys x (more d).0, (more d).1)
  only_kept y ys x false e more c = (contained_later y ys x (more c).0, (more c).1)

  pub kept_only : (xs : List Value) (x : Value) → Contains (filter p xs) x → Contains xs x × (p x ≡ true)
  kept_only [] x c = absurd (contains_none x c)
  kept_only (y ∷ ys) x c = only_kept y ys x (p y) refl (λ d. kept_only ys x d) c

  all_kept : (y : Value) (ys : List Value) (x : Value) (b : Bool) → p y ≡ b → p x ≡ true → (Contains ys x → Contains (filter p ys) x)
      → (y ≡ x) ⊎ Contains ys x → Contains (cond b (y ∷ filter p ys) (filter p ys)) x
  all_kept y ys x true e h more (inl is) = subst (λ z. Contains (y ∷ filter p ys) z) is (contained_first y (filter p ys))
  all_kept y ys x true e h more (inr d) = contained_later y (filter p ys) x (more d)
  all_kept y ys x false e h more (inl is) = absurd (no_true (sym e ∙ ap p is ∙ h))
  all_kept y ys x false e h more (inr d) = more d

  pub kept_all : (xs : List Value) (x : Value) → p x ≡ true → Contains xs x → Contains (filter p xs) x
  kept_all [] x h c = c
  kept_all (y ∷ ys) x h c = all_kept y ys x (p y) refl h (λ d. kept_all ys x h d) (contained_cases y ys x c)

module _ (h : Value → Option Value) where
  -- the values that are mapped to this one
  abbrev pub IsMapped : List Value → Value → Type 0
  IsMapped xs y = (x : Value) × Contains xs x × (h x ≡ Some y)

  later_mapped : (x : Value) (xs : List Value) (y : Value) → IsMapped xs y → IsMapped (x ∷ xs) y
  later_mapped x xs y m = (m.0, contained_later x xs m.0 m.1, m.2)

  only_mapped : (x : Value) (xs : List Value) (y : Value) (o : Option Value) → h x ≡ o → (Contains (filter_map h xs) y → IsMapped xs y)
      → Contains (cons_option o (filter_map h xs)) y → IsMapped (x ∷ xs) y
  only_mapped x xs y None e more c = later_mapped x xs y (more c)
  only_mapped x xs y (Some z) e more c = go (contained_cases z (filter_map h xs) y c)
    where
      go : (z ≡ y) ⊎ Contains (filter_map h xs) y → IsMapped (x ∷ xs) y
      go (inl is) = (x, contained_first x xs, e ∙ ap Some is)
      go (inr d) = later_mapped x xs y (more d)

  pub mapped_only : (xs : List Value) (y : Value) → Contains (filter_map h xs) y → IsMapped xs y
  mapped_only [] y c = absurd (contains_none y c)
  mapped_only (x ∷ xs) y c = only_mapped x xs y (h x) refl (λ d. mapped_only xs y d) c

  behind_mapped : (o : Option Value) (us : List Value) (y : Value) → Contains us y → Contains (cons_option o us) y
  behind_mapped None us y c = c
  behind_mapped (Some z) us y c = contained_later z us y c

  all_mapped : (x : Value) (xs : List Value) (z y : Value) → h z ≡ Some y → (Contains xs z → Contains (filter_map h xs) y)
      → (x ≡ z) ⊎ Contains xs z → Contains (cons_option (h x) (filter_map h xs)) y
  all_mapped x xs z y e more (inl is) =
      subst (λ o. Contains (cons_option o (filter_map h xs)) y) (sym (ap h is ∙ e)) (contained_first y (filter_map h xs))
  all_mapped x xs z y e more (inr d) = behind_mapped (h x) (filter_map h xs) y (more d)

  pub mapped_all : (xs : List Value) (z y : Value) → Contains xs z → h z ≡ Some y → Contains (filter_map h xs) y
  mapped_all [] z y c e = absurd (contains_none z c)
  mapped_all (x ∷ xs) z y c e = all_mapped x xs z y e (λ d. mapped_all xs z y d e) (contained_cases x xs z c)

-- PARTS

abbrev value_in : Value → Option Value → Value
value_in d None = d
value_in d (Some x) = x

pub some_same : (a b : Value) → Some a ≡ Some b → a ≡ b
some_same a b e = ap (value_in a) e

none_some : (a : Value) → ◌≡◌ {A = Option Value} None (Some a) → ⊥
none_some a e = subst is_none e tt
  where
    is_none : Option Value → Type 0
    is_none None = ⊤
    is_none (Some x) = ⊥

pub the_pair : (x a b : Value) → out-Value x ≡ Pair a b → x ≡ value.Pair a b
the_pair x a b e = sym (roll-out-Value x) ∙ ap roll-Value e ∙ rolls-Pair a b

pub left_is : (x a b : Value) → x ≡ value.Pair a b → part_of side.Left x ≡ Some a
left_is x a b e = ap (part_of side.Left) e ∙ ap (side_at side.Left (value.Pair a b)) (outs-Pair a b)

pub right_is : (x a b : Value) → x ≡ value.Pair a b → part_of side.Right x ≡ Some b
right_is x a b e = ap (part_of side.Right) e ∙ ap (side_at side.Right (value.Pair a b)) (outs-Pair a b)

pub left_pair : (x a : Value) → part_of side.Left x ≡ Some a → (b : Value) × (x ≡ value.Pair a b)
left_pair x a h = go (out-Value x) refl h
  where
    go : (y : Value-F Value) → out-Value x ≡ y → side_at side.Left x y ≡ Some a → (b : Value) × (x ≡ value.Pair a b)
    go (Int n) e f = absurd (none_some a f)
    go (Truth b) e f = absurd (none_some a f)
    go (Elem s k) e f = absurd (none_some a f)
    go (Pair c d) e f = (d, the_pair x c d e ∙ ap (λ z. value.Pair z d) (some_same c a f))
    go (Set vs) e f = absurd (none_some a f)

pub right_pair : (x b : Value) → part_of side.Right x ≡ Some b → (a : Value) × (x ≡ value.Pair a b)
right_pair x b h = go (out-Value x) refl h
  where
    go : (y : Value-F Value) → out-Value x ≡ y → side_at side.Right x y ≡ Some b → (a : Value) × (x ≡ value.Pair a b)
    go (Int n) e f = absurd (none_some b f)
    go (Truth c) e f = absurd (none_some b f)
    go (Elem s k) e f = absurd (none_some b f)
    go (Pair c d) e f = (c, the_pair x c d e ∙ ap (λ z. value.Pair c z) (some_same d b f))
    go (Set vs) e f = absurd (none_some b f)

pub converse_is : (a b : Value) → converse_of (value.Pair a b) ≡ Some (value.Pair b a)
converse_is a b = ap converse_at (outs-Pair a b)

pub converse_pair : (x y : Value) → converse_of x ≡ Some y → (a b : Value) × (y ≡ value.Pair a b) × (x ≡ value.Pair b a)
converse_pair x y h = go (out-Value x) refl h
  where
    go : (z : Value-F Value) → out-Value x ≡ z → converse_at z ≡ Some y → (a b : Value) × (y ≡ value.Pair a b) × (x ≡ value.Pair b a)
    go (Int n) e f = absurd (none_some y f)
    go (Truth c) e f = absurd (none_some y f)
    go (Elem s k) e f = absurd (none_some y f)
    go (Pair c d) e f = (d, c, sym (some_same (value.Pair d c) y f), the_pair x c d e)
    go (Set vs) e f = absurd (none_some y f)

-- MEMBERS THAT ARE KEPT FOR A PART

-- a part, as it is wanted
abbrev pub HasPart : Side → Bool → List Value → Value → Type 0
HasPart s w others x = (p : Value) × (part_of s x ≡ Some p) × Wanted w others p

kept_part : (s : Side) (w : Bool) (others : List Value) (x : Value) (o : Option Value) → part_of s x ≡ o
    → option_map_or (λ p. agrees w (among others p)) o false ≡ true → HasPart s w others x
kept_part s w others x None e h = absurd (no_true h)
kept_part s w others x (Some p) e h = (p, e, wanted_only w others p h)

part_kept : (s : Side) (w : Bool) (others : List Value) (x : Value) → HasPart s w others x → is_chosen s w others x ≡ true
part_kept s w others x h = ap (λ o. option_map_or (λ p. agrees w (among others p)) o false) h.1 ∙ wanted_all w others h.0 h.2

pub kept_is : (s : Side) (w : Bool) (others xs : List Value) (x : Value) → Contains (filter (is_chosen s w others) xs) x ↔ (Contains xs x × HasPart s w others x)
kept_is s w others xs x = (
  (λ c. let k = kept_only (is_chosen s w others) xs x c in (k.0, kept_part s w others x (part_of s x) refl k.1)),
  (λ h. kept_all (is_chosen s w others) xs x (part_kept s w others x h.1) h.0),
)

-- LOOPS

pub ruleset steps = (filter_more, filter_map-append)
