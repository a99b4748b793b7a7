-- Names that stand in lists one behind the other.
use Rattle.std.proofs.Common.{◌≡◌, ◌∙◌, ◌⊎◌, inl, inr, sym, ap, subst, refl, ℕ, Bool, true, false, cond, List, [], ◌∷◌, ◌++◌, map, Some, None, Option}
use Rattle.std.specs.Prelude.{bytes_eq}
use Rattle.std.specs.List.{AllByRecursion, IsDistinct, filter}
use Rattle.std.specs.Map.{keys_of}
use Rattle.std.specs.Cmp.Lexicographic.{same_text}
use Rattle.std.proofs.lemmas.Cmp.{nat_list_eq_equiv}
use Rattle.formula_core.specs.declared.ty.Ty.{Ty}
use Rattle.formula_core.specs.Env.{HasDistinctNames, type_in}
use Rattle.formula_core.specs.Laws.{IsWithin}
use Rattle.formula_core.specs.Typed.{Stands}
use Rattle.formula_core.specs.Identifiers.{carriers}
use Rattle.formula_core.specs.Names.{prime, with_prime}
use Rattle.formula_core.specs.declared.ty.Ty.TheVariants as ty
use Rattle.formula_core.proofs.Equations.{carriers-Given, carriers-Pow, carriers-Pair}
use Rattle.formula_core.proofs.Types.{type_induction}
use Rattle.formula_core.proofs.Keeping.{front, back, both, carriers-Int, carriers-Bool, carriers-Truth}
use Rattle.formula_core.proofs.TypedIn.{stands_more}
use Rattle.model_core.specs.Each.{for_each}
use Rattle.sequent_laws.specs.Sound.{Environment}
use Rattle.sequent_laws.proofs.Primes.{name_is, same_unprimed}

pub turned : (x y : List ℕ) (b : Bool) → bytes_eq x y ≡ b → bytes_eq y x ≡ b
turned x y b e = nat_list_eq_equiv.symm y x ∙ e

-- what stands in two lists stands in one of them
pub found_in : (xs ys : Environment) (x : List ℕ × Ty) → Stands (xs ++ ys) x → Stands xs x ⊎ Stands ys x
found_in [] ys x h = inr h
found_in (z ∷ xs) ys x h =
    let go : (b : Bool) → cond b (Some z.1) (type_in (xs ++ ys) x.0) ≡ Some x.1 → (cond b (Some z.1) (type_in xs x.0) ≡ Some x.1) ⊎ Stands ys x = elim [
      | true ↦ λ k. inl k
      | false ↦ λ k. found_in xs ys x k
    ] in
    go (bytes_eq x.0 z.0) h

-- in two lists that stand in an environment
pub within_both : (xs ys env : Environment) → IsWithin xs env → IsWithin ys env → IsWithin (xs ++ ys) env
within_both xs ys env f g x h = elim (found_in xs ys x h) [ inl a ↦ f x a | inr b ↦ g x b ]

-- each name of a list whose members stand in an environment
pub list_within : (xs env : Environment) → AllByRecursion (Stands env) xs → IsWithin xs env
list_within [] env all x h = cc
list_within (z ∷ xs) env all x h =
    let go : (b : Bool) → bytes_eq x.0 z.0 ≡ b → cond b (Some z.1) (type_in xs x.0) ≡ Some x.1 → Stands env x = elim [
      | true ↦ λ e k. let same : z.1 ≡ x.1 = cc in ap (type_in env) (same_text _ _ (sym e)) ∙ all.0 ∙ ap Some same
      | false ↦ λ e k. list_within xs env all.1 x k
    ] in
    go (bytes_eq x.0 z.0) refl h

pub of_keys : (P : List ℕ → Type 0) (xs : Environment) → AllByRecursion P (keys_of xs) → AllByRecursion (λ x. P x.0) xs
of_keys P [] h = tt
of_keys P (x ∷ xs) h = (h.0, of_keys P xs h.1)

each_later : (x : List ℕ × Ty) (env ys : Environment) → AllByRecursion (λ y. bytes_eq x.0 y.0 ≡ false) ys → AllByRecursion (Stands env) ys → AllByRecursion (Stands (x ∷ env)) ys
each_later x env [] d h = tt
each_later x env (y ∷ ys) d h = (ap (λ b. cond b (Some x.1) (type_in env y.0)) (turned x.0 y.0 false d.0) ∙ h.0, each_later x env ys d.1 h.1)

-- where names are distinct each entry stands
pub entries_stand : (env : Environment) → HasDistinctNames env → AllByRecursion (Stands env) env
unfolding IsDistinct
entries_stand [] d = tt
entries_stand (x ∷ env) d = (
  ap (λ b. cond b (Some x.1) (type_in env x.0)) (name_is x.0),
  each_later x env env (of_keys (λ y. bytes_eq x.0 y ≡ false) env d.0) (entries_stand env d.1),
)

none_here : (ys : Environment) → AllByRecursion (λ y. type_in [] y.0 ≡ None) ys
none_here [] = tt
none_here (y ∷ ys) = (refl, none_here ys)

none_more : (x : List ℕ × Ty) (xs ys : Environment) → AllByRecursion (λ y. bytes_eq x.0 y.0 ≡ false) ys → AllByRecursion (λ y. type_in xs y.0 ≡ None) ys → AllByRecursion (λ y. type_in (x ∷ xs) y.0 ≡ None) ys
none_more x xs [] d h = tt
none_more x xs (y ∷ ys) d h = (ap (λ b. cond b (Some x.1) (type_in xs y.0)) (turned x.0 y.0 false d.0) ∙ h.0, none_more x xs ys d.1 h.1)

-- and none of the second list stands in the first one
pub absent : (xs ys : Environment) → HasDistinctNames (xs ++ ys) → AllByRecursion (λ y. type_in xs y.0 ≡ None) ys
unfolding IsDistinct
absent [] ys d = none_here ys
absent (x ∷ xs) ys d =
    none_more x xs ys (back (λ y. bytes_eq x.0 y.0 ≡ false) xs ys (of_keys (λ y. bytes_eq x.0 y ≡ false) (xs ++ ys) d.0)) (absent xs ys d.1)

-- What stands behind absent names, in an environment that has them in front.
pub stands_behind : (old env : Environment) (x : List ℕ × Ty) → Stands old x → Stands env x → (ys : Environment) → AllByRecursion (λ y. type_in old y.0 ≡ None) ys → Stands (ys ++ env) x
stands_behind old env x o h [] none = h
stands_behind old env x o h (y ∷ ys) none =
    let go : (b : Bool) → bytes_eq x.0 y.0 ≡ b → cond b (Some y.1) (type_in (ys ++ env) x.0) ≡ Some x.1 = elim [
      | true ↦ λ e. let no : None ≡ Some x.1 = sym none.0 ∙ ap (type_in old) (sym (same_text _ _ (sym e))) ∙ o in absurd cc
      | false ↦ λ e. stands_behind old env x o h ys none.1
    ] in
    go (bytes_eq x.0 y.0) refl

pub front_within : (old env ys : Environment) → IsWithin old env → AllByRecursion (λ y. type_in old y.0 ≡ None) ys → IsWithin (old ++ ys) (ys ++ env)
front_within old env ys within none x h = elim (found_in old ys x h) [
  | inl a ↦ stands_behind old env x a (within x a) ys none
  | inr b ↦ stands_more ys env x b
]

-- what holds of all names with a prime holds of one that stands there
pub named_has : (P : List ℕ → Type 0) (vs : Environment) (x : List ℕ × Ty) → AllByRecursion (λ v. P v.0) (map with_prime vs) → Stands vs x → P (with_prime x).0
named_has P [] x h s = cc
named_has P (v ∷ vs) x h s =
    let go : (b : Bool) → bytes_eq x.0 v.0 ≡ b → cond b (Some v.1) (type_in vs x.0) ≡ Some x.1 → P (with_prime x).0 = elim [
      | true ↦ λ e k. subst (λ n. P (with_prime (n, v.1)).0) (sym (same_text _ _ (sym e))) h.0
      | false ↦ λ e k. named_has P vs x h.1 k
    ] in
    go (bytes_eq x.0 v.0) refl s

pub each_given : {X Y : Type 0} (P : Y → Type 0) (f : X → List Y) (xs : List X) → AllByRecursion P (for_each f xs) → AllByRecursion (λ x. AllByRecursion P (f x)) xs
each_given P f [] h = tt
each_given P f (x ∷ xs) h = (front P (f x) (for_each f xs) h, each_given P f xs (back P (f x) (for_each f xs) h))

pub mapped_front : {X : Type 0} (P : X → Type 0) (g : X → X) (xs ys : List X) → AllByRecursion P (map g (xs ++ ys)) → AllByRecursion P (map g xs) × AllByRecursion P (map g ys)
mapped_front P g [] ys h = (tt, h)
mapped_front P g (x ∷ xs) ys h = let k = mapped_front P g xs ys h.1 in ((h.0, k.0), k.1)

pub filter_append : {X : Type 0} (keep : X → Bool) (xs ys : List X) → filter keep (xs ++ ys) ≡ filter keep xs ++ filter keep ys
filter_append keep [] ys = refl
filter_append keep (x ∷ xs) ys =
    let go : (b : Bool) → cond b (x ∷ filter keep (xs ++ ys)) (filter keep (xs ++ ys)) ≡ cond b (x ∷ filter keep xs) (filter keep xs) ++ filter keep ys = elim [
      | true ↦ ap (λ zs. x ∷ zs) (filter_append keep xs ys)
      | false ↦ filter_append keep xs ys
    ] in
    go (keep x)

pub both_hold : {X : Type 0} (P Q : X → Type 0) (xs : List X) → AllByRecursion P xs → AllByRecursion Q xs → AllByRecursion (λ x. P x × Q x) xs
both_hold P Q [] h k = tt
both_hold P Q (x ∷ xs) h k = ((h.0, k.0), both_hold P Q xs h.1 k.1)

pub to_keys : (P : List ℕ → Type 0) (xs : Environment) → AllByRecursion (λ x. P x.0) xs → AllByRecursion P (keys_of xs)
to_keys P [] h = tt
to_keys P (x ∷ xs) h = (h.0, to_keys P xs h.1)

none_first : (b : Bool) (u : Ty) (rest : Option Ty) → cond b (Some u) rest ≡ None → b ≡ false
none_first true u rest e = cc
none_first false u rest e = refl

none_rest : (b : Bool) (u : Ty) (rest : Option Ty) → cond b (Some u) rest ≡ None → rest ≡ None
none_rest true u rest e = cc
none_rest false u rest e = e

none_heads : (x : List ℕ × Ty) (xs ys : Environment) → AllByRecursion (λ y. type_in (x ∷ xs) y.0 ≡ None) ys → AllByRecursion (λ y. bytes_eq x.0 y.0 ≡ false) ys
none_heads x xs [] n = tt
none_heads x xs (y ∷ ys) n = (turned y.0 x.0 false (none_first (bytes_eq y.0 x.0) x.1 (type_in xs y.0) n.0), none_heads x xs ys n.1)

none_tails : (x : List ℕ × Ty) (xs ys : Environment) → AllByRecursion (λ y. type_in (x ∷ xs) y.0 ≡ None) ys → AllByRecursion (λ y. type_in xs y.0 ≡ None) ys
none_tails x xs [] n = tt
none_tails x xs (y ∷ ys) n = (none_rest (bytes_eq y.0 x.0) x.1 (type_in xs y.0) n.0, none_tails x xs ys n.1)

-- distinct names behind others that lack them
pub distinct_append : (xs ys : Environment) → HasDistinctNames xs → HasDistinctNames ys → AllByRecursion (λ y. type_in xs y.0 ≡ None) ys → HasDistinctNames (xs ++ ys)
unfolding IsDistinct
distinct_append [] ys d e n = e
distinct_append (x ∷ xs) ys d e n = (
  to_keys (λ y. bytes_eq x.0 y ≡ false) (xs ++ ys) (both (λ y. bytes_eq x.0 y.0 ≡ false) xs ys (of_keys (λ y. bytes_eq x.0 y ≡ false) xs d.0) (none_heads x xs ys n)),
  distinct_append xs ys d.1 e (none_tails x xs ys n),
)

pub distinct_front : (xs ys : Environment) → HasDistinctNames (xs ++ ys) → HasDistinctNames xs
unfolding IsDistinct
distinct_front [] ys d = tt
distinct_front (x ∷ xs) ys d = (
  to_keys (λ y. bytes_eq x.0 y ≡ false) xs (front (λ y. bytes_eq x.0 y.0 ≡ false) xs ys (of_keys (λ y. bytes_eq x.0 y ≡ false) (xs ++ ys) d.0)),
  distinct_front xs ys d.1,
)

still_differ : (x y : List ℕ) → bytes_eq x y ≡ false → bytes_eq (x ++ prime ∷ []) (y ++ prime ∷ []) ≡ false
still_differ x y e =
    let go : (b : Bool) → bytes_eq (x ++ prime ∷ []) (y ++ prime ∷ []) ≡ b → b ≡ false = elim [
      | true ↦ λ k. sym (name_is x) ∙ ap (bytes_eq x) (same_unprimed x y k) ∙ e
      | false ↦ λ k. refl
    ] in
    go (bytes_eq (x ++ prime ∷ []) (y ++ prime ∷ [])) refl

differ_primed : (x : List ℕ × Ty) (ys : Environment) → AllByRecursion (λ y. bytes_eq x.0 y.0 ≡ false) ys → AllByRecursion (λ y. bytes_eq (with_prime x).0 y.0 ≡ false) (map with_prime ys)
differ_primed x [] h = tt
differ_primed x (y ∷ ys) h = (still_differ x.0 y.0 h.0, differ_primed x ys h.1)

-- names with primes are distinct where they are without
pub distinct_primed : (xs : Environment) → HasDistinctNames xs → HasDistinctNames (map with_prime xs)
unfolding IsDistinct
distinct_primed [] d = tt
distinct_primed (x ∷ xs) d = (
  to_keys (λ y. bytes_eq (with_prime x).0 y ≡ false) (map with_prime xs) (differ_primed x xs (of_keys (λ y. bytes_eq x.0 y ≡ false) xs d.0)),
  distinct_primed xs d.1,
)

-- what goes from one property of carrier sets to another goes so for all of a type
pub sets_keep : (R P : List ℕ × Ty → Type 0) → ((name : List ℕ) → R (name, ty.Pow (ty.Given name)) → P (name, ty.Pow (ty.Given name))) → (t : Ty) → AllByRecursion R (carriers t) → AllByRecursion P (carriers t)
sets_keep R P sets = type_induction (λ t. AllByRecursion R (carriers t) → AllByRecursion P (carriers t))
    (λ h. subst (AllByRecursion P) (sym carriers-Int) tt)
    (λ h. subst (AllByRecursion P) (sym carriers-Bool) tt)
    (λ name h. subst (AllByRecursion P) (sym (carriers-Given name)) (sets name (subst (AllByRecursion R) (carriers-Given name) h).0, tt))
    (λ t f h. subst (AllByRecursion P) (sym (carriers-Pow t)) (f (subst (AllByRecursion R) (carriers-Pow t) h)))
    (λ t u f g h. let k = subst (AllByRecursion R) (carriers-Pair t u) h in
    subst (AllByRecursion P) (sym (carriers-Pair t u)) (both P (carriers t) (carriers u) (f (front R (carriers t) (carriers u) k)) (g (back R (carriers t) (carriers u) k))))
    (λ h. subst (AllByRecursion P) (sym carriers-Truth) tt)
