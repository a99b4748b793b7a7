-- What stands in environments.
use Rattle.std.proofs.Common.{◌≡◌, ◌∙◌, ◌⊎◌, inl, inr, sym, ap, subst, refl, ℕ, zero, Bool, true, false, ◌||◌, cond, List, [], ◌∷◌, Option, Some, None, arith}
use Rattle.std.specs.Prelude.{bytes_eq, filter, Contains}
use Rattle.std.specs.List.{AllByRecursion, list_any}
use Rattle.std.specs.Cmp.Lexicographic.{same_text}
use Rattle.std.proofs.lemmas.List.Elements.{All-filter, All-from_recursion, recursion_from_All, Contains-append_right}
use Rattle.formula_core.specs.declared.Ty.{Ty}
use Rattle.formula_core.specs.Env.{type_in}
use Rattle.formula_core.specs.Types.{same_type}
use Rattle.formula_core.specs.Typed.{Stands}
use Rattle.formula_core.proofs.Keeping.{all_more}
use Rattle.formula_core.proofs.Types.{same_type_exact}
use Rattle.formula_core.proofs.WholeSets.{same_type_refl}
use Rattle.proof_deps.proofs.Carried.{Names}

-- what a test keeps of a list
module _ {X : Type 0} (p : X → Bool) where
  pub kept : (xs : List X) → AllByRecursion (λ y. p y ≡ true → Contains (filter p xs) y) xs
  kept [] = tt
  kept (x ∷ xs) =
      let rest : List X = filter p xs in
      let go : (b : Bool) → p x ≡ b → AllByRecursion (λ y. p y ≡ true → Contains (cond b (x ∷ rest) rest) y) (x ∷ xs) = elim [
        | true ↦ λ e. (λ h. (zero, omega arith, refl), all_more (λ y. p y ≡ true → Contains rest y) (λ y. p y ≡ true → Contains (x ∷ rest) y) (λ y f h. Contains-append_right (x ∷ []) rest y (f h)) xs (kept xs))
        | false ↦ λ e. (λ h. cc, kept xs)
      ] in
      go (p x) refl

  pub filtered : (P : X → Type 0) (xs : List X) → AllByRecursion P xs → AllByRecursion P (filter p xs)
  filtered P xs h = recursion_from_All P (filter p xs) (All-filter p P xs (All-from_recursion P xs h))

pub some_is : (t u : Ty) → Some t ≡ Some u → t ≡ u
some_is t u e = cc

first_or : (b : Bool) (v u : Ty) (q : Option Ty) (C : Type 0) → (true ≡ b → v ≡ u → C) → (q ≡ Some u → C) → cond b (Some v) q ≡ Some u → C
first_or true v u q C f g e = f refl (some_is v u e)
first_or false v u q C f g e = g e

-- what stands in names that all stand in an environment stands there
pub stands_there : (env used : Names) → AllByRecursion (Stands env) used → (x : List ℕ × Ty) → Stands used x → Stands env x
stands_there env [] h x e = cc
stands_there env (y ∷ used) h x e =
    first_or (bytes_eq x.0 y.0) y.1 x.1 (type_in used x.0) (Stands env x)
    (λ t v. ap (type_in env) (same_text x.0 y.0 t) ∙ h.0 ∙ ap Some v)
    (λ g. stands_there env used h.1 x g) e

-- the type of a name is one of the types
pub type_there : (Q : Ty → Type 0) (env : Names) → AllByRecursion (λ y. Q y.1) env → (x : List ℕ × Ty) → Stands env x → Q x.1
type_there Q [] h x e = cc
type_there Q (y ∷ env) h x e = first_or (bytes_eq x.0 y.0) y.1 x.1 (type_in env x.0) (Q x.1) (λ t v. subst Q v h.0) (λ g. type_there Q env h.1 x g) e

-- a name that isn't in an environment isn't among names that all stand there
pub apart : (env used : Names) → AllByRecursion (Stands env) used → (n : List ℕ) → type_in env n ≡ None → type_in used n ≡ None
apart env used h n e =
    let go : (o : Option Ty) → type_in used n ≡ o → o ≡ None = elim [
      | None ↦ λ i. refl
      | Some u ↦ λ i. let other : type_in env n ≡ Some u = stands_there env used h (n, u) i in cc
    ] in
    go (type_in used n) refl

-- whether a name stands in an environment with its type
pub stands_or : (env : Names) (x : List ℕ × Ty) → Stands env x ⊎ (Stands env x → ⊥)
stands_or env x =
    let same : (t : Ty) (b : Bool) → same_type t x.1 ≡ b → type_in env x.0 ≡ Some t → Stands env x ⊎ (Stands env x → ⊥) = λ t. elim [
      | true ↦ λ e i. inl (i ∙ ap Some (same_type_exact t x.1 e))
      | false ↦ λ e i. inr (λ h. let one : t ≡ x.1 = some_is t x.1 (sym i ∙ h) in let yes : same_type t x.1 ≡ true = ap (λ u. same_type u x.1) one ∙ same_type_refl x.1 in cc)
    ] in
    let go : (o : Option Ty) → type_in env x.0 ≡ o → Stands env x ⊎ (Stands env x → ⊥) = elim [
      | None ↦ λ i. inr (λ h. cc)
      | Some t ↦ λ i. same t (same_type t x.1) refl i
    ] in
    go (type_in env x.0) refl

-- where some names are left out by their types
module _ (p : List ℕ × Ty → Bool) (by_type : (y z : List ℕ × Ty) → y.1 ≡ z.1 → p y ≡ p z) where
  pub still_stands : (env : Names) (x : List ℕ × Ty) → p x ≡ true → Stands env x → Stands (filter p env) x
  still_stands [] x h e = cc
  still_stands (y ∷ env) x h e =
      let rest : Names = filter p env in
      let go : (b c : Bool) → p y ≡ b → bytes_eq x.0 y.0 ≡ c → cond c (Some y.1) (type_in env x.0) ≡ Some x.1 → type_in (cond b (y ∷ rest) rest) x.0 ≡ Some x.1 = elim [
        | true ↦ elim [
          | true ↦ λ i j k. ap (λ c. cond c (Some y.1) (type_in rest x.0)) j ∙ k
          | false ↦ λ i j k. ap (λ c. cond c (Some y.1) (type_in rest x.0)) j ∙ still_stands env x h k
        ]
        | false ↦ elim [
          | true ↦ λ i j k. let same : p y ≡ p x = by_type y x (some_is y.1 x.1 k) in cc
          | false ↦ λ i j k. still_stands env x h k
        ]
      ] in
      go (p y) (bytes_eq x.0 y.0) refl refl e

  pub still_missing : (env : Names) (n : List ℕ) → type_in env n ≡ None → type_in (filter p env) n ≡ None
  still_missing [] n e = refl
  still_missing (y ∷ env) n e =
      let rest : Names = filter p env in
      let go : (b c : Bool) → bytes_eq n y.0 ≡ c → cond c (Some y.1) (type_in env n) ≡ None → type_in (cond b (y ∷ rest) rest) n ≡ None = elim [
        | true ↦ elim [
          | true ↦ λ j k. cc
          | false ↦ λ j k. ap (λ c. cond c (Some y.1) (type_in rest n)) j ∙ still_missing env n k
        ]
        | false ↦ elim [
          | true ↦ λ j k. cc
          | false ↦ λ j k. still_missing env n k
        ]
      ] in
      go (p y) (bytes_eq n y.0) refl e

-- names of which none is in an environment
pub named_apart : (env added : Names) (n : List ℕ) → AllByRecursion (λ z. type_in env z.0 ≡ None) added → list_any (λ z. bytes_eq z.0 n) added ≡ true → type_in env n ≡ None
named_apart env [] n h e = cc
named_apart env (z ∷ added) n h e =
    let go : (b : Bool) → bytes_eq z.0 n ≡ b → (b || list_any (λ y. bytes_eq y.0 n) added) ≡ true → type_in env n ≡ None = elim [
      | true ↦ λ i k. ap (type_in env) (sym (same_text z.0 n (sym i))) ∙ h.0
      | false ↦ λ i k. named_apart env added n h.1 k
    ] in
    go (bytes_eq z.0 n) refl e
