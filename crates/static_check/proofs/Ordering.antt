-- Sorting adds one component at a time whose references are sorted or absent, until there is none.
use Rattle.std.proofs.Common.{◌≡◌, ◌⊎◌, inl, inr, ℕ, zero, suc, ◌+◌, ◌<◌, ◌≤◌, Bool, true, false, not, ◌&&◌, ◌||◌, cond, List, [], ◌∷◌, ◌++◌, length, map, get_or, refl, sym, ap, subst, ◌∙◌, arith, append_assoc}
use Rattle.std.specs.Prelude.{bytes_eq}
use Rattle.std.specs.List.{AllByRecursion, Contains, IsDistinct, list_all, filter}
use Rattle.std.proofs.lemmas.Map.Keys.{IsDistinct-push}
use Rattle.std.proofs.lemmas.Cmp.{nat_list_eq_equiv}
use Rattle.std.proofs.lemmas.Slice.Eq.{bytes_eq-Decides}
use Rattle.std.proofs.lemmas.List.Folds.{list_any-append}
use Rattle.formula_core.specs.declared.raw.Ref.{Ref}
use Rattle.model_core.specs.declared.component.RawComponent.{RawComponent}
use Rattle.model_core.specs.Each.{is_among}
use Rattle.static_check.specs.declared.settled.Order.{Order}
use Rattle.static_check.specs.Settling.{own_name, references, has_component, IfPresent, IsSettledAmong, IsSettled, ReferencesFirst, IsComponentOrder}

-- each of these references is among the sorted names or absent
abbrev pub are_ready : List RawComponent → List (List ℕ) → List Ref → Bool
are_ready components sorted refs = list_all (λ r. is_among sorted r.name || not (has_component components r.name)) refs

abbrev pub is_ready : List RawComponent → List (List ℕ) → RawComponent → Bool
is_ready components sorted c = are_ready components sorted (references c)

abbrev pub is_next : List RawComponent → List (List ℕ) → RawComponent → Bool
is_next components sorted c = not (is_among sorted (own_name c)) && is_ready components sorted c

-- the names that aren't among the sorted ones
abbrev pub left_out : List RawComponent → List (List ℕ) → List (List ℕ)
left_out components sorted = filter (λ n. not (is_among sorted n)) (map own_name components)

-- what sorting keeps
pub record IsPartOfOrder (components : List RawComponent) (sorted : List (List ℕ)) : Type 0 where
  pub first : ReferencesFirst components [] sorted
  pub once : IsDistinct bytes_eq sorted
  pub settled : (name : List ℕ) → is_among sorted name ≡ true → IsSettledAmong components (length sorted) name

pub nothing_sorted : (components : List RawComponent) → IsPartOfOrder components []
unfolding IsDistinct
nothing_sorted components = record { first = tt; once = tt; settled = λ name e. absurd (no_false e) }
  where
    no_false : false ≡ true → ⊥
    no_false e = cc

-- how many components aren't sorted
abbrev pub remaining : List RawComponent → List (List ℕ) → ℕ
remaining [] sorted = 0
remaining (c ∷ cs) sorted = cond (is_among sorted (own_name c)) 0 1 + remaining cs sorted

pub or_cases : (a b : Bool) → (a || b) ≡ true → (a ≡ true) ⊎ (b ≡ true)
or_cases true b e = inl refl
or_cases false b e = inr e

pub or_first : (a b : Bool) → a ≡ true → (a || b) ≡ true
or_first true b e = refl
or_first false b e = absurd (true_not_false e)
  where
    true_not_false : false ≡ true → ⊥
    true_not_false e = cc

pub or_second : (a b : Bool) → b ≡ true → (a || b) ≡ true
or_second true b e = refl
or_second false b e = e

pub and_both : (a b : Bool) → (a && b) ≡ true → (a ≡ true) × (b ≡ true)
and_both true b e = (refl, e)
and_both false b e = absurd (unequal e)
  where
    unequal : false ≡ true → ⊥
    unequal e = cc

pub and_of : (a b : Bool) → a ≡ true → b ≡ true → (a && b) ≡ true
and_of true b e f = f
and_of false b e f = e

pub not_true : (a : Bool) → not a ≡ true → a ≡ false
not_true true e = sym e
not_true false e = refl

pub not_false : (a : Bool) → a ≡ false → not a ≡ true
not_false true e = sym e
not_false false e = refl

pub same : (a b : List ℕ) → bytes_eq a b ≡ true → a ≡ b
same a b e = (bytes_eq-Decides a b).0 e

pub same_self : (a : List ℕ) → bytes_eq a a ≡ true
same_self a = (bytes_eq-Decides a a).1 refl

pub among_more : (sorted : List (List ℕ)) (n name : List ℕ) → is_among (sorted ++ n ∷ []) name ≡ (is_among sorted name || (bytes_eq name n || false))
among_more sorted n name = list_any-append (bytes_eq name) sorted (n ∷ [])

among_before : (sorted : List (List ℕ)) (n name : List ℕ) → is_among sorted name ≡ true → is_among (sorted ++ n ∷ []) name ≡ true
among_before sorted n name e = among_more sorted n name ∙ or_first (is_among sorted name) _ e

among_new : (sorted : List (List ℕ)) (n : List ℕ) → is_among (sorted ++ n ∷ []) n ≡ true
among_new sorted n = among_more sorted n n ∙ or_second (is_among sorted n) _ (or_first (bytes_eq n n) false (same_self n))

among_either : (sorted : List (List ℕ)) (n name : List ℕ) → is_among (sorted ++ n ∷ []) name ≡ true → (is_among sorted name ≡ true) ⊎ (name ≡ n)
among_either sorted n name e = elim (or_cases (is_among sorted name) _ (sym (among_more sorted n name) ∙ e)) [
  | inl a ↦ inl a
  | inr b ↦ elim (or_cases (bytes_eq name n) false b) [ inl s ↦ inr (same name n s) | inr f ↦ inr (same name n (absurd (unequal f))) ]
]
  where
    unequal : false ≡ true → ⊥
    unequal e = cc

weight_falls : (a b : Bool) → (a ≡ true → b ≡ true) → cond b 0 1 ≤ cond a 0 1
weight_falls true true h = omega arith
weight_falls true false h = absurd (unequal (h refl))
  where
    unequal : false ≡ true → ⊥
    unequal e = cc
weight_falls false true h = omega arith
weight_falls false false h = omega arith

weight_less : (a b : Bool) → a ≡ false → b ≡ true → cond b 0 1 < cond a 0 1
weight_less a b e f = rw (e, f) (omega arith)

remaining_falls : (cs : List RawComponent) (sorted : List (List ℕ)) (n : List ℕ) → remaining cs (sorted ++ n ∷ []) ≤ remaining cs sorted
remaining_falls [] sorted n = omega arith
remaining_falls (c ∷ cs) sorted n =
    omega (arith, remaining_falls cs sorted n, weight_falls (is_among sorted (own_name c)) (is_among (sorted ++ n ∷ []) (own_name c)) (among_before sorted n (own_name c)))

pub remaining_less : (cs : List RawComponent) (sorted : List (List ℕ)) (c : RawComponent) (k : ℕ) → k < length cs → get_or cs k c ≡ c →
    is_among sorted (own_name c) ≡ false → remaining cs (sorted ++ own_name c ∷ []) < remaining cs sorted
remaining_less [] sorted c k lt is e = absurd (omega arith)
remaining_less (d ∷ cs) sorted c zero lt is e =
    omega (arith, remaining_falls cs sorted (own_name c), weight_less (is_among sorted (own_name d)) (is_among (sorted ++ own_name c ∷ []) (own_name d)) (ap (λ x. is_among sorted (own_name x)) is ∙ e) (ap (λ x. is_among (sorted ++ own_name c ∷ []) (own_name x)) is ∙ among_new sorted (own_name c)))
remaining_less (d ∷ cs) sorted c (suc k) lt is e =
    omega (arith, remaining_less cs sorted c k (omega arith) is e, weight_falls (is_among sorted (own_name d)) (is_among (sorted ++ own_name c ∷ []) (own_name d)) (among_before sorted (own_name c) (own_name d)))

all_present : (components : List RawComponent) (P Q : List ℕ → Type 0) → ((n : List ℕ) → P n → Q n) → (refs : List Ref) →
    AllByRecursion (IfPresent components P) refs → AllByRecursion (IfPresent components Q) refs
all_present components P Q f [] all = tt
all_present components P Q f (r ∷ refs) all = (elim all.0 [ inl p ↦ inl (f r.name p) | inr absent ↦ inr absent ], all_present components P Q f refs all.1)

settled_more : (components : List RawComponent) (k : ℕ) (name : List ℕ) → IsSettledAmong components k name → IsSettledAmong components (suc k) name
settled_more components zero name s = absurd s
settled_more components (suc k) name s = (s.0, s.1, s.2, all_present components (IsSettledAmong components k) (IsSettledAmong components (suc k)) (settled_more components k) _ s.3)

ready_all : (components : List RawComponent) (sorted : List (List ℕ)) (refs : List Ref) → are_ready components sorted refs ≡ true →
    AllByRecursion (IfPresent components (λ n. is_among sorted n ≡ true)) refs
ready_all components sorted [] e = tt
ready_all components sorted (r ∷ refs) e =
    let both = and_both (is_among sorted r.name || not (has_component components r.name)) _ e in
    (elim (or_cases (is_among sorted r.name) _ both.0) [ inl a ↦ inl a | inr n ↦ inr (not_true _ n) ], ready_all components sorted refs both.1)

all_ready : (components : List RawComponent) (sorted : List (List ℕ)) (refs : List Ref) →
    AllByRecursion (IfPresent components (λ n. is_among sorted n ≡ true)) refs → are_ready components sorted refs ≡ true
all_ready components sorted [] all = refl
all_ready components sorted (r ∷ refs) all =
    and_of (is_among sorted r.name || not (has_component components r.name)) _
    (elim all.0 [ inl a ↦ or_first (is_among sorted r.name) _ a | inr n ↦ or_second (is_among sorted r.name) _ (not_false _ n) ])
    (all_ready components sorted refs all.1)

first_more : (components : List RawComponent) (before names : List (List ℕ)) (n : List ℕ) → ReferencesFirst components before names →
    ((c : RawComponent) × Contains components c × (own_name c ≡ n) × AllByRecursion (IfPresent components (λ m. is_among (before ++ names) m ≡ true)) (references c)) →
    ReferencesFirst components before (names ++ n ∷ [])
first_more components before [] n f it = (subst (λ b. (c : RawComponent) × Contains components c × (own_name c ≡ n) × AllByRecursion (IfPresent components (λ m. is_among b m ≡ true)) (references c)) (append_nil before) it, tt)
  where
    append_nil : (xs : List (List ℕ)) → xs ++ [] ≡ xs
    append_nil [] = refl
    append_nil (x ∷ xs) = ap (λ ys. x ∷ ys) (append_nil xs)
first_more components before (name ∷ names) n f it = (
  f.0,
  first_more components (before ++ name ∷ []) names n f.1
      (subst (λ b. (c : RawComponent) × Contains components c × (own_name c ≡ n) × AllByRecursion (IfPresent components (λ m. is_among b m ≡ true)) (references c)) (sym (append_assoc before (name ∷ []) names)) it),
)

pub part_more : (components : List RawComponent) (sorted : List (List ℕ)) (c : RawComponent) → IsPartOfOrder components sorted → Contains components c →
    is_next components sorted c ≡ true → IsPartOfOrder components (sorted ++ own_name c ∷ [])
part_more components sorted c part in' next =
    let both = and_both (not (is_among sorted (own_name c))) _ next in
    let ready = ready_all components sorted (references c) both.1 in
    record {
      first = first_more components [] sorted (own_name c) part.first (c, in', refl, ready);
      once = IsDistinct-push nat_list_eq_equiv sorted (own_name c) part.once (not_true _ both.0);
      settled = λ name among. subst (λ k. IsSettledAmong components k name) (length_more sorted (own_name c))
          (elim (among_either sorted (own_name c) name among) [
            | inl old ↦ settled_more components (length sorted) name (part.settled name old)
            | inr new ↦ (c, in', sym new, all_present components _ (IsSettledAmong components (length sorted)) part.settled (references c) ready)
          ]);
    }
  where
    length_more : (xs : List (List ℕ)) (x : List ℕ) → suc (length xs) ≡ length (xs ++ x ∷ [])
    length_more [] x = refl
    length_more (y ∷ xs) x = ap suc (length_more xs x)

at : {X : Type 0} (P : X → Type 0) (xs : List X) (x : X) (k : ℕ) → AllByRecursion P xs → k < length xs → get_or xs k x ≡ x → P x
at P [] x k all lt is = absurd (omega arith)
at P (y ∷ xs) x zero all lt is = subst P is all.0
at P (y ∷ xs) x (suc k) all lt is = at P xs x k all.1 (omega arith) is

not_next : (a b : Bool) → (not a && b) ≡ false → b ≡ true → a ≡ true
not_next true b e f = refl
not_next false b e f = sym e ∙ f

pub all_sorted : (components : List RawComponent) (sorted : List (List ℕ)) → AllByRecursion (λ c. is_next components sorted c ≡ false) components →
    (k : ℕ) (name : List ℕ) → IsSettledAmong components k name → is_among sorted name ≡ true
all_sorted components sorted done zero name s = absurd s
all_sorted components sorted done (suc k) name s =
    let in' = s.1 in
    let ready = all_ready components sorted (references s.0) (all_present components (IsSettledAmong components k) _ (all_sorted components sorted done k) _ s.3) in
    ap (is_among sorted) (sym s.2) ∙ not_next _ _ (at (λ c. is_next components sorted c ≡ false) components s.0 in'.0 done in'.1 in'.2) ready

one_left : (sorted : List (List ℕ)) (n name : List ℕ) (rest here : Bool) → (bytes_eq name n ≡ true → is_among sorted n ≡ is_among sorted name) → (a : Bool) → is_among sorted n ≡ a →
    (b : Bool) → bytes_eq name n ≡ b → rest ≡ (here && not (is_among sorted name)) →
    cond (not a) (b || rest) rest ≡ ((b || here) && not (is_among sorted name))
one_left sorted n name rest here f true e true g h = h ∙ ap (λ a. here && not a) (sym (f g) ∙ e) ∙ no_one here ∙ ap not (sym (sym (f g) ∙ e))
  where
    no_one : (x : Bool) → (x && false) ≡ false
    no_one true = refl
    no_one false = refl
one_left sorted n name rest here f true e false g h = h
one_left sorted n name rest here f false e true g h = ap not (sym (sym (f g) ∙ e))
one_left sorted n name rest here f false e false g h = h

among_left_out : (components : List RawComponent) (sorted : List (List ℕ)) (name : List ℕ) →
    is_among (left_out components sorted) name ≡ (has_component components name && not (is_among sorted name))
among_left_out [] sorted name = refl
among_left_out (c ∷ components) sorted name =
    split (is_among sorted (own_name c)) ∙ one_left sorted (own_name c) name _ (has_component components name) (λ e. ap (is_among sorted) (sym (same name (own_name c) e))) (is_among sorted (own_name c)) refl (bytes_eq name (own_name c)) refl (among_left_out components sorted name)
  where
    split : (a : Bool) → is_among (cond (not a) (own_name c ∷ left_out components sorted) (left_out components sorted)) name
        ≡ cond (not a) (bytes_eq name (own_name c) || is_among (left_out components sorted) name) (is_among (left_out components sorted) name)
    split true = refl
    split false = refl

all_passing : {X : Type 0} (P : X → Type 0) (test : X → Bool) (xs : List X) → AllByRecursion P xs → AllByRecursion P (filter test xs)
all_passing P test [] all = tt
all_passing P test (x ∷ xs) all = kept (test x) (all_passing P test xs all.1)
  where
    kept : (b : Bool) → AllByRecursion P (filter test xs) → AllByRecursion P (cond b (x ∷ filter test xs) (filter test xs))
    kept true rest = (all.0, rest)
    kept false rest = rest

-- of distinct names those that pass a test are distinct
distinct_passing : (test : List ℕ → Bool) (names : List (List ℕ)) → IsDistinct bytes_eq names → IsDistinct bytes_eq (filter test names)
unfolding IsDistinct
distinct_passing test [] distinct = tt
distinct_passing test (name ∷ names) distinct = kept (test name) (distinct_passing test names distinct.1)
  where
    kept : (b : Bool) → IsDistinct bytes_eq (filter test names) → IsDistinct bytes_eq (cond b (name ∷ filter test names) (filter test names))
    kept true rest = (all_passing (λ n. bytes_eq name n ≡ false) test names distinct.0, rest)
    kept false rest = rest

true_false : (a : Bool) → a ≡ true → a ≡ false → ⊥
true_false a e f = cc

pub whole_order : (components : List RawComponent) (order : Order) → IsPartOfOrder components order.sorted → order.cyclic ≡ left_out components order.sorted →
    AllByRecursion (λ c. is_next components order.sorted c ≡ false) components → IsComponentOrder components order
whole_order components order part left done = record {
  references_first = part.first;
  once = part.once;
  sorted = λ name. (λ among. (length order.sorted, part.settled name among), λ s. all_sorted components order.sorted done s.0 name s.1);
  cyclic = λ name. (
    λ among.
        let both = and_both (has_component components name) _ (sym (ap (λ names. is_among names name) left ∙ among_left_out components order.sorted name) ∙ among) in
        (both.0, λ s. true_false _ (all_sorted components order.sorted done s.0 name s.1) (not_true _ both.1)),
    λ h. ap (λ names. is_among names name) left ∙ among_left_out components order.sorted name
        ∙ and_of (has_component components name) _ h.0 (not_false _ (unsorted name h.1 (is_among order.sorted name) refl)),
  );
  cyclic_once = λ distinct. subst (IsDistinct bytes_eq) (sym left)
      (distinct_passing (λ n. not (is_among order.sorted n)) (map own_name components) distinct);
}
  where
    unsorted : (name : List ℕ) → ¬ IsSettled components name → (a : Bool) → is_among order.sorted name ≡ a → is_among order.sorted name ≡ false
    unsorted name never true e = absurd (never (length order.sorted, part.settled name e))
    unsorted name never false e = e

pub ordered : (components : List RawComponent) (items sorted cyclic : List (List ℕ)) → sorted ≡ items → cyclic ≡ left_out components items → IsPartOfOrder components items →
    AllByRecursion (λ c. is_next components items c ≡ false) components → IsComponentOrder components (record { sorted = sorted; cyclic = cyclic })
ordered components items sorted cyclic is left part done =
    subst (λ s. IsComponentOrder components (record { sorted = s; cyclic = cyclic })) (sym is) (whole_order components (record { sorted = items; cyclic = cyclic }) part left done)
