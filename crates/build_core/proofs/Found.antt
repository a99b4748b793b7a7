-- What is set at a name, and where it is found.
use Rattle.std.proofs.Common.{◌≡◌, ◌∙◌, ◌⊎◌, inl, inr, sym, ap, refl, ℕ, zero, suc, ◌<◌, Bool, true, false, ◌||◌, cond, List, [], ◌∷◌, ◌++◌, Option, Some, None, is_some, bytes_eq, length, get_or, arith}
use Rattle.std.specs.Prelude.{IsSome}
use Rattle.std.specs.List.{Contains, AllByRecursion, IsDistinct}
use Rattle.std.specs.List.Sorted.{IsStrictlySortedBy}
use Rattle.std.specs.Map.{keys_of}
use Rattle.std.specs.BTreeMap.{is_at}
use Rattle.std.specs.Ordering.{nat_cmp, eq_by_cmp}
use Rattle.std.specs.Cmp.Lexicographic.{slice_cmp, texts_ties}
use Rattle.std.proofs.lemmas.Map.Keys.{IsDistinct-from_sorted}
use Rattle.std.proofs.lemmas.Slice.Eq.{bytes_eq-Decides}
use Rattle.model_core.specs.declared.component.RawComponent.{RawComponent}
use Rattle.model_core.specs.Each.{is_among}
use Rattle.static_check.specs.Settling.{own_name, has_component}
use Rattle.build_core.specs.Projects.{Project, has_text}
use Rattle.build_core.specs.Private.{found, Sets}

-- NAMES

pub tied : (x y : List ℕ) → is_at (slice_cmp nat_cmp x) y ≡ bytes_eq x y
tied x y = sym (texts_ties x y)

pub same : (x y : List ℕ) → bytes_eq x y ≡ true → x ≡ y
same x y e = (bytes_eq-Decides x y).0 e

pub itself : (x : List ℕ) → bytes_eq x x ≡ true
itself x = (bytes_eq-Decides x x).1 refl

-- SETTING

module _ {X : Type 0} (before : List (List ℕ × X)) (name : List ℕ) (x : X) (behind : List (List ℕ × X)) (sets : Sets before name x behind) where
  pub set_there : found behind name ≡ Some x
  set_there = sets name ∙ ap (λ b. cond b (Some x) (found before name)) (tied name name ∙ itself name)

  pub set_keeps : (q : List ℕ) → IsSome (found before q) → IsSome (found behind q)
  set_keeps q there = ap is_some (sets q) ∙ by (is_at (slice_cmp nat_cmp name) q)
    where
      by : (b : Bool) → is_some (cond b (Some x) (found before q)) ≡ true
      by true = refl
      by false = there

  pub set_cases : (q : List ℕ) (y : X) → found behind q ≡ Some y → ((name ≡ q) × (x ≡ y)) ⊎ (found before q ≡ Some y)
  set_cases q y e = by (is_at (slice_cmp nat_cmp name) q) refl (sym (sets q) ∙ e)
    where
      some_same : Some x ≡ Some y → x ≡ y
      some_same f = cc

      by : (b : Bool) → is_at (slice_cmp nat_cmp name) q ≡ b → cond b (Some x) (found before q) ≡ Some y → ((name ≡ q) × (x ≡ y)) ⊎ (found before q ≡ Some y)
      by true f g = inl (same name q (sym (tied name q) ∙ f), some_same g)
      by false f g = inr g

-- a value that is found
pub its_value : {X : Type 0} (o : Option X) → IsSome o → (x : X) × (o ≡ Some x)
its_value None e = absurd (never e)
  where
    never : false ≡ true → ⊥
    never h = cc
its_value (Some x) e = (x, refl)

pub is_found : {X : Type 0} (o : Option X) (x : X) → o ≡ Some x → IsSome o
is_found o x e = ap is_some e

pub not_found : {A X : Type 0} (o : Option X) → IsSome o → o ≡ None → A
not_found o e f = absurd (never (sym e ∙ ap is_some f))
  where
    never : true ≡ false → ⊥
    never h = cc

-- LISTS OF NAMES

pub or_first : (a b : Bool) → a ≡ true → (a || b) ≡ true
or_first true b e = refl
or_first false b e = absurd (never e)
  where
    never : false ≡ true → ⊥
    never h = cc

pub or_second : (a b : Bool) → b ≡ true → (a || b) ≡ true
or_second true b e = refl
or_second false b e = e

or_cases : (a b : Bool) → (a || b) ≡ true → (a ≡ true) ⊎ (b ≡ true)
or_cases true b e = inl refl
or_cases false b e = inr e

pub among_before : (names more : List (List ℕ)) (n : List ℕ) → is_among names n ≡ true → is_among (names ++ more) n ≡ true
among_before [] more n e = absurd (never e)
  where
    never : false ≡ true → ⊥
    never h = cc
among_before (x ∷ names) more n e = elim (or_cases (bytes_eq n x) (is_among names n) e) [
  | inl a ↦ or_first (bytes_eq n x) _ a
  | inr b ↦ or_second (bytes_eq n x) _ (among_before names more n b)
]

pub among_last : (names : List (List ℕ)) (x n : List ℕ) → is_among (names ++ x ∷ []) n ≡ true → (is_among names n ≡ true) ⊎ (x ≡ n)
among_last [] x n e = elim (or_cases (bytes_eq n x) false e) [
  | inl a ↦ inr (sym (same n x a))
  | inr b ↦ absurd (never b)
]
  where
    never : false ≡ true → ⊥
    never h = cc
among_last (y ∷ names) x n e = elim (or_cases (bytes_eq n y) _ e) [
  | inl a ↦ inl (or_first (bytes_eq n y) _ a)
  | inr b ↦ elim (among_last names x n b) [
    | inl c ↦ inl (or_second (bytes_eq n y) _ c)
    | inr d ↦ inr d
  ]
]

pub among_first : (names : List (List ℕ)) (x n : List ℕ) → is_among (x ∷ names) n ≡ true → (x ≡ n) ⊎ (is_among names n ≡ true)
among_first names x n e = elim (or_cases (bytes_eq n x) _ e) [ inl a ↦ inl (sym (same n x a)) | inr b ↦ inr b ]

pub among_here : (names : List (List ℕ)) (x : List ℕ) → is_among (x ∷ names) x ≡ true
among_here names x = or_first (bytes_eq x x) _ (itself x)

-- COMPONENTS AND TEXTS

pub later : {A : Type 0} (xs : List A) (y x : A) → Contains xs x → Contains (y ∷ xs) x
later xs y x h = (suc h.0, omega (arith, h.1), h.2)

-- a component has its name
pub has_own : (components : List RawComponent) (c : RawComponent) → Contains components c → has_component components (own_name c) ≡ true
has_own components c h = by components h.0 h.1 h.2
  where
    by : (cs : List RawComponent) (k : ℕ) → k < length cs → get_or cs k c ≡ c → has_component cs (own_name c) ≡ true
    by [] k lt is = absurd (omega (arith, lt))
    by (d ∷ cs) zero lt is = or_first (bytes_eq (own_name c) (own_name d)) _ (ap (λ e. bytes_eq (own_name c) (own_name e)) is ∙ itself (own_name c))
    by (d ∷ cs) (suc k) lt is = or_second (bytes_eq (own_name c) (own_name d)) _ (by cs k (omega (arith, lt)) is)

-- and a name that one has is that of a component
pub named_one : (components : List RawComponent) (name : List ℕ) → has_component components name ≡ true → (c : RawComponent) × Contains components c × (own_name c ≡ name)
named_one [] name e = absurd (never e)
  where
    never : false ≡ true → ⊥
    never h = cc
named_one (d ∷ components) name e = elim (or_cases (bytes_eq name (own_name d)) _ e) [
  | inl a ↦ (d, (zero, omega arith, refl), sym (same name (own_name d) a))
  | inr b ↦ let more = named_one components name b in (more.0, later components d more.0 more.1, more.2)
]

pub its_text : (project : Project) (name : List ℕ) → has_text project name ≡ true → (text : List ℕ) × Contains project (name, text)
its_text [] name e = absurd (never e)
  where
    never : false ≡ true → ⊥
    never h = cc
its_text (d ∷ project) name e = elim (or_cases (bytes_eq name d.0) _ e) [
  | inl a ↦ (d.1, (zero, omega arith, ap (λ n. (n, d.1)) (sym (same name d.0 a))))
  | inr b ↦ let more = its_text project name b in (more.0, later project d (name, more.0) more.1)
]

-- keys that ascend are distinct
distinct_by : (e f : List ℕ → List ℕ → Bool) → ((x y : List ℕ) → e x y ≡ f x y) → (ks : List (List ℕ)) → IsDistinct e ks → IsDistinct f ks
unfolding IsDistinct
distinct_by e f agree [] d = tt
distinct_by e f agree (k ∷ ks) d = (by ks d.0, distinct_by e f agree ks d.1)
  where
    by : (ys : List (List ℕ)) → AllByRecursion (λ y. e k y ≡ false) ys → AllByRecursion (λ y. f k y ≡ false) ys
    by [] all = tt
    by (y ∷ ys) all = (sym (agree k y) ∙ all.0, by ys all.1)

pub distinct_keys : {X : Type 0} (es : List (List ℕ × X)) → IsStrictlySortedBy (slice_cmp nat_cmp) (keys_of es) → IsDistinct bytes_eq (keys_of es)
distinct_keys es s = distinct_by (eq_by_cmp (slice_cmp nat_cmp)) bytes_eq tied (keys_of es) (IsDistinct-from_sorted (slice_cmp nat_cmp) (keys_of es) s)
