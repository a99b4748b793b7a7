-- The environment of an event's witnesses.
use Rattle.std.proofs.Common.{◌≡◌, ◌∙◌, ◌⊎◌, inl, inr, sym, ap, subst, refl, ℕ, Bool, true, false, cond, ◌&&◌, ◌||◌, ◌==◌, List, [], ◌∷◌, ◌++◌, map, Some, None, IsTrue, bytes_eq}
use Rattle.std.specs.List.{AllByRecursion, IsDistinct, filter}
use Rattle.std.specs.Map.{keys_of}
use Rattle.formula_core.specs.declared.ty.Ty.{Ty}
use Rattle.formula_core.specs.Env.{HasDistinctNames, type_in}
use Rattle.formula_core.specs.Identifiers.{carriers}
use Rattle.formula_core.specs.Laws.{IsWithin}
use Rattle.formula_core.specs.Names.{is_identifier, prime, with_prime}
use Rattle.formula_core.specs.Typed.{Stands, HasCarriers, IsGoodEnv}
use Rattle.formula_core.specs.Types.{is_value_type}
use Rattle.type_formula.proofs.Named.{all_append, all_front, all_each, sooner, found_has}
use Rattle.type_action.specs.CoreActions.{primed, with_all}
use Rattle.model_core.specs.declared.component.RawLabelled.{RawLabelled}
use Rattle.model_core.specs.declared.checked.Labelled.{Labelled}
use Rattle.model_core.specs.Each.{is_among}
use Rattle.check_rules.specs.Events.{primed_variables, primed_env}
use Rattle.check_rules.specs.Typed.{Entries, AreTyped}
use Rattle.checked_laws.specs.Sound.{HasIdentifiers, HasCarriersAmong, ArePredicatesIn, IsNamedIn}
use Rattle.checked_laws.proofs.Names.{AllStand, AreNew, here_or, some_or, apart, met, missed, same_name, distinct_append, distinct_front, new_turned, stands_later, parts_stand, stand_there, stand_sooner}
use Rattle.checked_laws.proofs.Parts.{all_map, filter_all}
use Rattle.checked_laws.proofs.Growing.{within_with, with_all_each, with_all_or}
use Rattle.checked_laws.proofs.Actions.{and_false, primed_name, with_all_new}
use Rattle.checked_laws.proofs.Typing.{predicates_within, Stood, typed_stand, last_from}

-- Names with a prime.

nothing_primed : (x : List ℕ) → bytes_eq [] (primed x) ≡ false
nothing_primed [] = refl
nothing_primed (c ∷ cs) = refl

primed_nothing : (x : List ℕ) → bytes_eq (primed x) [] ≡ false
primed_nothing [] = refl
primed_nothing (c ∷ cs) = refl

pub primed_same : (x y : List ℕ) → bytes_eq (primed x) (primed y) ≡ bytes_eq x y
primed_same [] [] = refl
primed_same [] (d ∷ ds) = and_false (prime == d) (bytes_eq [] (primed ds)) (nothing_primed ds)
primed_same (c ∷ cs) [] = and_false (c == prime) (bytes_eq (primed cs) []) (primed_nothing cs)
primed_same (c ∷ cs) (d ∷ ds) = ap (λ b. (c == d) && b) (primed_same cs ds)

no_primed : (n x : List ℕ) → is_identifier n ≡ true → bytes_eq n (primed x) ≡ false
no_primed n x i = elim (here_or (bytes_eq n (primed x))) [
  | inl b ↦ apart (is_identifier n) i (ap is_identifier (same_name n (primed x) b) ∙ primed_name x)
  | inr b ↦ b
]

pub primed_lacks : (xs : Entries) (n : List ℕ) → is_identifier n ≡ true → type_in (map with_prime xs) n ≡ None
primed_lacks [] n i = refl
primed_lacks (x ∷ xs) n i = missed (bytes_eq n (primed x.0)) x.1 (type_in (map with_prime xs) n) (no_primed n x.0 i) ∙ primed_lacks xs n i

primed_stands : (xs : Entries) (n : List ℕ) → type_in (map with_prime xs) (primed n) ≡ type_in xs n
primed_stands [] n = refl
primed_stands (x ∷ xs) n = elim (here_or (bytes_eq n x.0)) [
  | inl b ↦ met (bytes_eq (primed n) (primed x.0)) x.1 (type_in (map with_prime xs) (primed n)) (primed_same n x.0 ∙ b) ∙ sym (met (bytes_eq n x.0) x.1 (type_in xs n) b)
  | inr b ↦ missed (bytes_eq (primed n) (primed x.0)) x.1 (type_in (map with_prime xs) (primed n)) (primed_same n x.0 ∙ b) ∙ primed_stands xs n ∙ sym (missed (bytes_eq n x.0) x.1 (type_in xs n) b)
]

primed_apart : (n : List ℕ) (xs : Entries) → AllByRecursion (λ y. bytes_eq n y ≡ false) (keys_of xs) → AllByRecursion (λ y. bytes_eq (primed n) y ≡ false) (keys_of (map with_prime xs))
primed_apart n [] h = tt
primed_apart n (x ∷ xs) h = (primed_same n x.0 ∙ h.0, primed_apart n xs h.1)

primed_distinct : (xs : Entries) → HasDistinctNames xs → HasDistinctNames (map with_prime xs)
unfolding IsDistinct
primed_distinct [] d = tt
primed_distinct (x ∷ xs) d = (primed_apart x.0 xs d.0, primed_distinct xs d.1)

-- Entries whose names pass a test.

abbrev pub entries_with : (List ℕ → Bool) → Entries → Entries
entries_with p xs = filter (λ x. p x.0) xs

key_cond : (P : List ℕ → Type 0) (b : Bool) (x : List ℕ × Ty) (xs : Entries) → P x.0 → AllByRecursion P (keys_of xs) → AllByRecursion P (keys_of (cond b (x ∷ xs) xs))
key_cond P true x xs h k = (h, k)
key_cond P false x xs h k = k

keys_with : (P : List ℕ → Type 0) (p : List ℕ → Bool) (xs : Entries) → AllByRecursion P (keys_of xs) → AllByRecursion P (keys_of (entries_with p xs))
keys_with P p [] h = tt
keys_with P p (x ∷ xs) h = key_cond P (p x.0) x (entries_with p xs) h.0 (keys_with P p xs h.1)

distinct_cond : (b : Bool) (x : List ℕ × Ty) (xs : Entries) → AllByRecursion (λ y. bytes_eq x.0 y ≡ false) (keys_of xs) → HasDistinctNames xs → HasDistinctNames (cond b (x ∷ xs) xs)
unfolding IsDistinct
distinct_cond true x xs h d = (h, d)
distinct_cond false x xs h d = d

pub distinct_with : (p : List ℕ → Bool) (xs : Entries) → HasDistinctNames xs → HasDistinctNames (entries_with p xs)
unfolding IsDistinct
distinct_with p [] d = tt
distinct_with p (x ∷ xs) d = distinct_cond (p x.0) x (entries_with p xs) (keys_with (λ y. bytes_eq x.0 y ≡ false) p xs d.0) (distinct_with p xs d.1)

type_cond : (b : Bool) (x : List ℕ × Ty) (xs : Entries) (n : List ℕ) → bytes_eq n x.0 ≡ false → type_in (cond b (x ∷ xs) xs) n ≡ type_in xs n
type_cond true x xs n e = missed (bytes_eq n x.0) x.1 (type_in xs n) e
type_cond false x xs n e = refl

type_kept : (b : Bool) (x : List ℕ × Ty) (xs : Entries) (n : List ℕ) → b ≡ true → bytes_eq n x.0 ≡ true → type_in (cond b (x ∷ xs) xs) n ≡ Some x.1
type_kept true x xs n e k = met (bytes_eq n x.0) x.1 (type_in xs n) k
type_kept false x xs n e k = cc

-- a name that passes the test has its type
pub type_with : (p : List ℕ → Bool) (xs : Entries) (n : List ℕ) → p n ≡ true → type_in (entries_with p xs) n ≡ type_in xs n
type_with p [] n h = refl
type_with p (x ∷ xs) n h = elim (here_or (bytes_eq n x.0)) [
  | inl b ↦ type_kept (p x.0) x (entries_with p xs) n (ap p (sym (same_name n x.0 b)) ∙ h) b ∙ sym (met (bytes_eq n x.0) x.1 (type_in xs n) b)
  | inr b ↦ type_cond (p x.0) x (entries_with p xs) n b ∙ type_with p xs n h ∙ sym (missed (bytes_eq n x.0) x.1 (type_in xs n) b)
]

-- A name with a prime that stands among the primed ones stands without it among the others, and passes the test.
abbrev IsPrimedOf : (List ℕ → Bool) → Entries → List ℕ × Ty → Type 0
IsPrimedOf p env x = (n : List ℕ) × (x.0 ≡ primed n) × Stands env (n, x.1) × (p n ≡ true)

further : (p : List ℕ → Bool) (e : List ℕ × Ty) (env : Entries) (x : List ℕ × Ty) → ((n : List ℕ) → x.0 ≡ primed n → p n ≡ true → bytes_eq n e.0 ≡ false) → IsPrimedOf p env x → IsPrimedOf p (e ∷ env) x
further p e env x other h = (h.0, h.1, missed (bytes_eq h.0 e.0) e.1 (type_in env h.0) (other h.0 h.1 h.3) ∙ h.2, h.3)

pub some_is : (t u : Ty) → Some t ≡ Some u → t ≡ u
some_is t u e = cc

primed_here : (p : List ℕ → Bool) (b : Bool) (e : List ℕ × Ty) (env : Entries) (x : List ℕ × Ty) → p e.0 ≡ b → (Stands (map with_prime (entries_with p env)) x → IsPrimedOf p env x)
    → Stands (map with_prime (cond b (e ∷ entries_with p env) (entries_with p env))) x → IsPrimedOf p (e ∷ env) x
primed_here p true e env x is more h = elim (here_or (bytes_eq x.0 (primed e.0))) [
  | inl k ↦ (
    e.0,
    same_name x.0 (primed e.0) k,
    met (bytes_eq e.0 e.0) e.1 (type_in env e.0) (sym (primed_same e.0 e.0) ∙ sym (ap (λ n. bytes_eq n (primed e.0)) (same_name x.0 (primed e.0) k)) ∙ k)
        ∙ sym (met (bytes_eq x.0 (primed e.0)) e.1 (type_in (map with_prime (entries_with p env)) x.0) k) ∙ h,
    is,
  )
  | inr k ↦ further p e env x (λ n i j. sym (primed_same n e.0) ∙ ap (λ m. bytes_eq m (primed e.0)) (sym i) ∙ k)
      (more (sym (missed (bytes_eq x.0 (primed e.0)) e.1 (type_in (map with_prime (entries_with p env)) x.0) k) ∙ h))
]
primed_here p false e env x is more h = further p e env x
    (λ n i j. elim (here_or (bytes_eq n e.0)) [
      | inl k ↦ apart (p n) j (ap p (same_name n e.0 k) ∙ is)
      | inr k ↦ k
    ])
    (more h)

primed_from : (p : List ℕ → Bool) (env : Entries) (x : List ℕ × Ty) → Stands (map with_prime (entries_with p env)) x → IsPrimedOf p env x
primed_from p [] x h = let no : ⊥ = cc in absurd no
primed_from p (e ∷ env) x h = primed_here p (p e.0) e env x refl (primed_from p env x) h

both_second : (a b : Bool) → (a && b) ≡ true → b ≡ true
both_second true b e = e
both_second false b e = cc

-- what stands in the larger one stands in the first, or is one of those that are added
with_all_split : (env xs : Entries) (x : List ℕ × Ty) → Stands (with_all env xs) x → Stands env x ⊎ Stands xs x
with_all_split env xs x e = elim (some_or (type_in env x.0)) [
  | inl h ↦ inl (h.1 ∙ sym (within_with env xs (x.0, h.0) h.1) ∙ e)
  | inr h ↦ inr (sym (with_all_new env xs x.0 h) ∙ e)
]

pub named_among : (env : Entries) (ns : List (List ℕ)) (n : List ℕ) → AllByRecursion (IsNamedIn env) ns → is_among ns n ≡ true → IsNamedIn env n
named_among env [] n h e = let no : ⊥ = cc in absurd no
named_among env (m ∷ ns) n h e = go (bytes_eq n m) refl (named_among env ns n h.1) e
  where
    go : (b : Bool) → bytes_eq n m ≡ b → (is_among ns n ≡ true → IsNamedIn env n) → (b || is_among ns n) ≡ true → IsNamedIn env n
    go true is more k = subst (IsNamedIn env) (sym (same_name n m is)) h.0
    go false is more k = more k

nothing_wanted : {A : Type 0} → (n : List ℕ) → is_among [] n ≡ true → A
nothing_wanted n e = let no : ⊥ = cc in absurd no

-- What is known of the environment `base` with the primed variables in `whole`, where witnesses were typed in `first`.
pub record HoldsWitnesses (env left base whole first : Entries) (variables : List (List ℕ)) : Type 0 where
  pub good : IsGoodEnv whole
  pub some : (xs : Entries) → HasDistinctNames xs → AllStand env xs → IsGoodEnv (base ++ map with_prime xs)
  pub left_stand : AllStand whole left
  pub variable_stands : (n : List ℕ) (t : Ty) → is_among variables n ≡ true → Stands env (n, t) → Stands whole (primed n, t)
  pub typed : (component : List ℕ) (written : List RawLabelled) (typed : List Labelled) (same : Entries) → AreTyped component first [] written typed [] same → ArePredicatesIn whole typed

-- The machine's environment, the event's parameters, those that it lacks, the environment in which the event is typed, and the one behind its guards.
module _ (constants env params left last after : Entries) (variables : List (List ℕ)) (good : IsGoodEnv (env ++ params)) (names_are : HasIdentifiers (env ++ params))
    (constants_stand : IsWithin constants (env ++ params)) (left_distinct : HasDistinctNames left) (left_new : AreNew (env ++ params) (keys_of left))
    (left_types : AllByRecursion (λ x. IsTrue (is_value_type x.1)) left) (left_sets : HasCarriersAmong constants left) (left_names : HasIdentifiers left)
    (last_within : IsWithin last env) (last_sets : HasCarriersAmong constants last) (constants_last : IsWithin constants last)
    (after_within : IsWithin after (env ++ params)) (after_sets : HasCarriersAmong constants after) where
  abbrev target : Entries
  target = env ++ params

  abbrev base : Entries
  base = target ++ left

  abbrev own : Entries
  own = entries_with (is_among variables) env

  abbrev primes : Entries
  primes = map with_prime own

  abbrev pub whole : Entries
  whole = base ++ primes

  abbrev first : Entries
  first = with_all (with_all (primed_env last variables) after) left

  base_distinct : HasDistinctNames base
  base_distinct = distinct_append target left good.names left_distinct (new_turned left target left_new)

  base_names : HasIdentifiers base
  base_names = all_append (λ x. IsTrue (is_identifier x.0)) target left names_are left_names

  apart_from : (xs : Entries) → AreNew (map with_prime xs) (keys_of base)
  apart_from xs = all_map (λ n. type_in (map with_prime xs) n ≡ None) (λ x. x.0) base
      (all_each (λ x. IsTrue (is_identifier x.0)) (λ x. type_in (map with_prime xs) x.0 ≡ None) base (λ x i. primed_lacks xs x.0 i) base_names)

  from_env : (P : Ty → Type 0) (xs : Entries) → AllByRecursion (Stands env) xs → AllByRecursion (λ x. P x.1) env → AllByRecursion (λ x. P x.1) (map with_prime xs)
  from_env P xs stand h = all_map (λ x. P x.1) with_prime xs (all_each (Stands env) (λ x. P x.1) xs (λ x k. found_has (λ y. P y.1) env x.0 x.1 h k) stand)

  constants_base : IsWithin constants base
  constants_base x h = sooner target left x.0 x.1 (constants_stand x h)

  target_sets : AllByRecursion (λ x. AllStand base (carriers x.1)) target
  target_sets = all_each (λ x. AllStand target (carriers x.1)) (λ x. AllStand base (carriers x.1)) target (λ x h. stand_sooner target left (carriers x.1) h) good.carriers

  base_sets : AllByRecursion (λ x. AllStand base (carriers x.1)) base
  base_sets = all_append (λ x. AllStand base (carriers x.1)) target left target_sets
      (all_each (λ x. AllStand constants (carriers x.1)) (λ x. AllStand base (carriers x.1)) left (λ x h. all_each (Stands constants) (Stands base) (carriers x.1) constants_base h) left_sets)

  -- with a prime, each name of the machine's environment is new
  primed_good : (xs : Entries) → HasDistinctNames xs → AllByRecursion (Stands env) xs → IsGoodEnv (base ++ map with_prime xs)
  primed_good xs distinct stand =
      let primes = map with_prime xs in
      let front : AllByRecursion (λ x. AllStand base (carriers x.1)) env = all_front (λ x. AllStand base (carriers x.1)) env params target_sets in
      let sets : AllByRecursion (λ x. AllStand base (carriers x.1)) (base ++ primes) =
      all_append (λ x. AllStand base (carriers x.1)) base primes base_sets (from_env (λ t. AllStand base (carriers t)) xs stand front) in
      record {
        names = distinct_append base primes base_distinct (primed_distinct xs distinct) (apart_from xs);
        types = all_append (λ x. IsTrue (is_value_type x.1)) base primes (all_append (λ x. IsTrue (is_value_type x.1)) target left good.types left_types)
            (from_env (λ t. IsTrue (is_value_type t)) xs stand (all_front (λ x. IsTrue (is_value_type x.1)) env params good.types));
        carriers = all_each (λ x. AllStand base (carriers x.1)) (λ x. AllStand (base ++ primes) (carriers x.1)) (base ++ primes) (λ x h. stand_sooner base primes (carriers x.1) h) sets;
      }

  target_whole : IsWithin target whole
  target_whole x h = sooner base primes x.0 x.1 (sooner target left x.0 x.1 h)

  left_stand : AllStand whole left
  left_stand = all_each (Stands base) (Stands whole) left (λ x h. sooner base primes x.0 x.1 h) (parts_stand target left base_distinct).1

  variable_stands : (n : List ℕ) (t : Ty) → is_among variables n ≡ true → Stands env (n, t) → Stands whole (primed n, t)
  variable_stands n t among h = stands_later base primes (apart_from own) (primed n, t) (primed_stands own n ∙ type_with (is_among variables) env n among ∙ h)

  primed_whole : (x : List ℕ × Ty) → Stands (primed_variables last variables) x → Stands whole x
  primed_whole x h =
      let from = primed_from (λ n. is_identifier n && is_among variables n) last x h in
      let among = both_second (is_identifier from.0) (is_among variables from.0) from.3 in
      subst (λ n. Stands whole (n, x.1)) (sym from.1) (variable_stands from.0 x.1 among (last_within (from.0, x.1) from.2))

  first_whole : IsWithin first whole
  first_whole x h = elim (with_all_or (Stands whole) (with_all (primed_env last variables) after) left left_stand x h) [
    | inl k ↦ elim (with_all_split (primed_env last variables) after x k) [
      | inl l ↦ elim (with_all_split last (primed_variables last variables) x l) [
        | inl i ↦ target_whole x (sooner env params x.0 x.1 (last_within x i))
        | inr i ↦ primed_whole x i
      ]
      | inr l ↦ target_whole x (after_within x l)
    ]
    | inr k ↦ k
  ]

  constants_first : IsWithin constants first
  constants_first x h = within_with (with_all (primed_env last variables) after) left x
      (within_with (primed_env last variables) after x (within_with last (primed_variables last variables) x (constants_last x h)))

  sets_first : (xs : Entries) → HasCarriersAmong constants xs → AllByRecursion (λ x. AllStand first (carriers x.1)) xs
  sets_first xs h = all_each (λ x. AllStand constants (carriers x.1)) (λ x. AllStand first (carriers x.1)) xs
      (λ x k. all_each (Stands constants) (Stands first) (carriers x.1) constants_first k) h

  primes_first : AllByRecursion (λ x. AllStand first (carriers x.1)) (primed_variables last variables)
  primes_first = all_map (λ x. AllStand first (carriers x.1)) with_prime (entries_with (λ n. is_identifier n && is_among variables n) last)
      (filter_all (λ x. is_identifier x.0 && is_among variables x.0) (λ x. AllStand first (carriers x.1)) last (sets_first last last_sets))

  first_carriers : HasCarriers first
  first_carriers = with_all_each (λ x. AllStand first (carriers x.1)) (with_all (primed_env last variables) after) left
      (with_all_each (λ x. AllStand first (carriers x.1)) (primed_env last variables) after
      (with_all_each (λ x. AllStand first (carriers x.1)) last (primed_variables last variables) (sets_first last last_sets) primes_first)
      (sets_first after after_sets))
      (sets_first left left_sets)

  witnesses_typed : (component : List ℕ) (written : List RawLabelled) (typed : List Labelled) (same : Entries) → AreTyped component first [] written typed [] same → ArePredicatesIn whole typed
  witnesses_typed component written typed same checks =
      let stood : Stood first same typed = typed_stand component first [] written typed [] same first_carriers checks in
      predicates_within same whole typed
      (λ x h. elim (last_from component first [] written typed [] same x.0 x.1 checks h) [
        | inl k ↦ first_whole x k
        | inr k ↦ nothing_wanted x.0 k
      ])
      stood.typed

  own_stand : AllStand env own
  own_stand = filter_all (λ x. is_among variables x.0) (Stands env) env (stand_there env (distinct_front env params good.names))

  pub holds_witnesses : HoldsWitnesses env left base whole first variables
  holds_witnesses = record {
    good = primed_good own (distinct_with (is_among variables) env (distinct_front env params good.names)) own_stand;
    some = primed_good;
    left_stand = left_stand;
    variable_stands = variable_stands;
    typed = witnesses_typed;
  }
