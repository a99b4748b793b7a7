-- Variables with primes, in front of an environment, and their values after an event in their place.
use Rattle.std.proofs.Common.{◌≡◌, ◌∙◌, inl, inr, sym, ap, subst, refl, ℕ, Bool, true, false, cond, List, [], ◌∷◌, ◌++◌, map, Some, None}
use Rattle.std.specs.Prelude.{bytes_eq}
use Rattle.std.specs.List.{AllByRecursion}
use Rattle.std.specs.Map.{lookup}
use Rattle.std.specs.Cmp.Lexicographic.{same_text}
use Rattle.std.proofs.lemmas.Cmp.{nat_list_eq_equiv}
use Rattle.std.proofs.lemmas.List.{append_cancel_right}
use Rattle.formula_core.specs.declared.ty.Ty.{Ty}
use Rattle.formula_core.specs.declared.ty.Ty.TheVariants as ty
use Rattle.formula_core.specs.declared.formula.Formula.{Formula}
use Rattle.formula_core.specs.Env.{type_in}
use Rattle.formula_core.specs.Formulas.{substituted}
use Rattle.formula_core.specs.Identifiers.{carriers}
use Rattle.formula_core.specs.Laws.{IsNewValue, Replaces}
use Rattle.formula_core.specs.Names.{prime, with_prime}
use Rattle.formula_core.specs.Typed.{Stands, IsTypedIn, IsPredicateIn, IsGoodEnv}
use Rattle.formula_core.specs.Wellness.{type_of}
use Rattle.formula_core.proofs.Equations.{carriers-Given, carriers-Pow}
use Rattle.formula_core.proofs.TypedIn.{replaced_predicate}
use Rattle.model_core.specs.Each.{IsIn}
use Rattle.sequent_laws.specs.Sound.{Environment}
use Rattle.sequent_laws.proofs.Formulas.{carriers_at}

pub name_is : (x : List ℕ) → bytes_eq x x ≡ true
name_is x = nat_list_eq_equiv.refl x

-- what holds of each member holds of all
pub each_in : {X : Type 0} (P : X → Type 0) (xs : List X) → ((x : X) → IsIn x xs → P x) → AllByRecursion P xs
each_in P [] f = tt
each_in P (x ∷ xs) f = (f x (inl refl), each_in P xs (λ y i. f y (inr i)))

pub of_each : {X : Type 0} (P : X → Type 0) (xs : List X) → AllByRecursion P xs → (x : X) → IsIn x xs → P x
of_each P [] h x i = absurd i
of_each P (y ∷ xs) h x i = elim i [
  | inl e ↦ subst P (sym e) h.0
  | inr j ↦ of_each P xs h.1 x j
]

-- names are the same without their primes
pub same_unprimed : (x y : List ℕ) → bytes_eq (x ++ prime ∷ []) (y ++ prime ∷ []) ≡ true → x ≡ y
same_unprimed x y e = append_cancel_right x y (prime ∷ []) (same_text _ _ (sym e))

module _ (env : Environment) where
  abbrev Stand : Environment → Type 0
  Stand = AllByRecursion (Stands env)

  abbrev with_primes : Environment → Environment
  with_primes us = map with_prime us ++ env

  -- two with one name have one type
  one_type : (x u : List ℕ × Ty) → Stands env x → Stands env u → x.0 ≡ u.0 → u.1 ≡ x.1
  one_type x u h k e = let same : Some u.1 ≡ Some x.1 = sym k ∙ ap (type_in env) (sym e) ∙ h in cc

  -- a target stands with its prime
  primed_stands : (us : Environment) (x : List ℕ × Ty) → Stand us → Stands env x → IsIn x us → Stands (with_primes us) (with_prime x)
  primed_stands [] x all h i = absurd i
  primed_stands (u ∷ us) x all h i =
      let rest : bytes_eq (with_prime x).0 (with_prime u).0 ≡ false → Stands (with_primes us) (with_prime x) = λ e. elim i [
        | inl same ↦ let no : true ≡ false = sym (name_is (with_prime x).0) ∙ ap (λ y. bytes_eq (with_prime x).0 (with_prime y).0) same ∙ e in absurd cc
        | inr j ↦ primed_stands us x all.1 h j
      ] in
      let go : (b : Bool) → bytes_eq (with_prime x).0 (with_prime u).0 ≡ b → cond b (Some u.1) (type_in (with_primes us) (with_prime x).0) ≡ Some x.1 = elim [
        | true ↦ λ e. ap Some (one_type x u h all.0 (same_unprimed x.0 u.0 e))
        | false ↦ rest
      ] in
      go (bytes_eq (with_prime x).0 (with_prime u).0) refl

  module _ (good : IsGoodEnv env) where
    own_set : (set : List ℕ) (u : List ℕ × Ty) → Stands env u → u.1 ≡ ty.Pow (ty.Given set) → Stands env (set, ty.Pow (ty.Given set))
    own_set set u h e =
        let all : Stand (carriers (ty.Pow (ty.Given set))) = subst (λ t. Stand (carriers t)) e (carriers_at env good u.0 u.1 h) in
        (subst Stand (carriers-Pow (ty.Given set) ∙ carriers-Given set) all).0

    -- a carrier set is no variable with a prime, or it stands in the environment too
    pub sets_stand : (us : Environment) → Stand us → (set : List ℕ) → Stands (with_primes us) (set, ty.Pow (ty.Given set)) → Stands env (set, ty.Pow (ty.Given set))
    sets_stand [] all set h = h
    sets_stand (u ∷ us) all set h =
        let go : (b : Bool) → cond b (Some u.1) (type_in (with_primes us) set) ≡ Some (ty.Pow (ty.Given set)) → Stands env (set, ty.Pow (ty.Given set)) = elim [
          | true ↦ λ k. let same : u.1 ≡ ty.Pow (ty.Given set) = cc in own_set set u all.0 same
          | false ↦ λ k. sets_stand us all.1 set k
        ] in
        go (bytes_eq set (with_prime u).0) h

    module _ (value : List ℕ × Ty → Formula) where
      abbrev pairs_of : Environment → List (List ℕ × Formula)
      pairs_of us = map (λ x. ((with_prime x).0, value x)) us

      pub others_stand : (us : Environment) (x : List ℕ × Ty) → Stands (with_primes us) x → lookup (bytes_eq x.0) (pairs_of us) ≡ None → Stands env x
      others_stand [] x h e = h
      others_stand (u ∷ us) x h e =
          let go : (b : Bool) → cond b (Some u.1) (type_in (with_primes us) x.0) ≡ Some x.1 → cond b (Some (value u)) (lookup (bytes_eq x.0) (pairs_of us)) ≡ None → Stands env x = elim [
            | true ↦ λ k l. let no : ⊥ = cc in absurd no
            | false ↦ λ k l. others_stand us x k l
          ] in
          go (bytes_eq x.0 (with_prime u).0) h e

      module _ (typed : (x : List ℕ × Ty) → Stands env x → IsTypedIn env (value x)) (type : (x : List ℕ × Ty) → Stands env x → type_of (value x) ≡ x.1) (us : Environment) (all : Stand us) where
        new_values : (vs : Environment) → ((x : List ℕ × Ty) → IsIn x vs → IsIn x us) → AllByRecursion (IsNewValue (with_primes us) env) (pairs_of vs)
        new_values [] within = tt
        new_values (x ∷ vs) within =
            let h = of_each (Stands env) us all x (within x (inl refl)) in (
              (typed x h, primed_stands us x all h (within x (inl refl)) ∙ ap Some (sym (type x h))),
              new_values vs (λ y i. within y (inr i)),
            )

        pub primes_replaced : Replaces (with_primes us) env (pairs_of us)
        primes_replaced = record {
          terms = new_values us (λ x i. i);
          sets = sets_stand us all;
          others = others_stand us;
        }

        -- a predicate of targets with primes, with values in their place
        pub unprimed : (f : Formula) → IsPredicateIn (with_primes us) f → IsPredicateIn env (substituted (pairs_of us) f)
        unprimed = replaced_predicate (with_primes us) env (pairs_of us) primes_replaced
