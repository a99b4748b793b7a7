-- From the types of the places to those of the variables.
use Rattle.std.proofs.Common.{◌≡◌, ℕ, ◌<◌, ◌≤◌, true, List, [], ◌∷◌, ◌⊎◌, inl, inr, length, replicate, Option, refl, sym, ap, ◌∙◌, subst, arith}
use Rattle.std.proofs.lemmas.Bool.{cases_lt}
use Rattle.std.proofs.lemmas.List.{get_or-replicate, length-replicate}
use Rattle.formula_core.specs.declared.ty.Ty.{Ty}
use Rattle.formula_core.specs.declared.ty.Ty.TheVariants as ty
use Rattle.formula_core.specs.Types.{is_value_type}
use Rattle.unification.specs.declared.graph.Node.{Node}
use Rattle.unification.specs.declared.graph.Node.TheVariants.{Free}
use Rattle.unification.specs.Terms.{Open, integers, booleans, predicates, carrier, variable, powerset, product, value}
use Rattle.unification.specs.Solutions.{Equality, IsAssignment, Solves, HasNoSolution}
use Rattle.unification.specs.Known.{type_at, AreKnown}
use Rattle.unification.specs.PrivateGraph.{node_at, form_of, Holds, FitsInGraph, IsGraph, AllSame, variable_count, variables_in, Extension, BuildsGraph, Merges}
use Rattle.unification.specs.PrivateOrder.{HasNoModel, HasModels, HasSorts, HasWrongSort, TypeFits}
use Rattle.unification.proofs.Terms.{value-Int, value-Bool}
use Rattle.unification.proofs.KnownTypes.{type_at-past}
use Rattle.unification.proofs.Places.{past}

value_agrees : (u v : ℕ → Ty) (n : ℕ) → ((k : ℕ) → k < n → u k ≡ v k) → (t : Open) → variable_count t ≤ n → value u t ≡ value v t
value_agrees u v n a integers h = refl
value_agrees u v n a booleans h = refl
value_agrees u v n a predicates h = refl
value_agrees u v n a (carrier name) h = refl
value_agrees u v n a (variable i) h = a i (omega arith)
value_agrees u v n a (powerset s) h = ap ty.Pow (value_agrees u v n a s h)
value_agrees u v n a (product s t) h =
    let l = value_agrees u v n a s (omega arith) in
    let r = value_agrees u v n a t (omega arith) in
    λ i. ty.Pair (l i) (r i)

solves_agrees : (u v : ℕ → Ty) (n : ℕ) → ((k : ℕ) → k < n → u k ≡ v k) → (es : List Equality) → variables_in es ≤ n → Solves u es → Solves v es
solves_agrees u v n a [] h s = tt
solves_agrees u v n a (e ∷ es) h s =
    (sym (value_agrees u v n a e.0 (omega arith)) ∙ s.0 ∙ value_agrees u v n a e.1 (omega arith), solves_agrees u v n a es (omega arith) s.1)

all_free : (n k : ℕ) → node_at (replicate n Free) k ≡ Free
all_free n k =
    elim (cases_lt k n) [
      | inl lt ↦ get_or-replicate n k Free Free lt
      | inr le ↦ let l = length-replicate n Free in past (replicate n Free) k (omega arith)
    ]

pub free_graph : (n : ℕ) → IsGraph (replicate n Free)
free_graph n k = subst (FitsInGraph (length (replicate n Free)) k) (sym (all_free n k)) tt

free_extension : (v : ℕ → Ty) (n : ℕ) → Extension v (replicate n Free)
free_extension v n = record {
  types = v;
  holds = λ k. subst (λ m. v k ≡ value v (form_of k m)) (sym (all_free n k)) refl;
  same = λ k e. refl;
}

-- one type below `n`, and another from there on
abbrev choose : {P Q : Type 0} → P ⊎ Q → Ty → Ty → Ty
choose (inl p) s t = s
choose (inr q) s t = t

choose_below : (i n : ℕ) (c : (i < n) ⊎ (n ≤ i)) (s t : Ty) → i < n → choose c s t ≡ s
choose_below i n (inl p) s t h = refl
choose_below i n (inr q) s t h = absurd (omega arith)

choose_above : (i n : ℕ) (c : (i < n) ⊎ (n ≤ i)) (s t : Ty) → n ≤ i → choose c s t ≡ t
choose_above i n (inl p) s t h = absurd (omega arith)
choose_above i n (inr q) s t h = refl

module _ (es : List Equality) (n : ℕ) (room : variables_in es ≤ n) (start placed : List Node) (pairs : List (ℕ × ℕ)) (start_is : start ≡ replicate n Free) (built : BuildsGraph es start placed pairs) where
  frees : (k : ℕ) → k < n → node_at placed k ≡ Free
  frees k h =
      let l = ap length start_is in
      let m = length-replicate n Free in
      built.grown.before k (omega arith) ∙ ap (λ ns. node_at ns k) start_is ∙ all_free n k

  pub places_inside : n ≤ length placed
  places_inside =
      let l = ap length start_is in
      let m = length-replicate n Free in
      let g = built.grown.long in
      omega arith

  extended : (v : ℕ → Ty) → Extension v placed
  extended v = built.grown.extends v (subst (Extension v) (sym start_is) (free_extension v n))

  same_below : (v : ℕ → Ty) (k : ℕ) → k < n → v k ≡ (extended v).types k
  same_below v k h = sym ((extended v).same k (frees k h))

  all_same : (v : ℕ → Ty) → Solves v es → AllSame (extended v).types pairs
  all_same v s = (built.same (extended v).types (extended v).holds).1 (solves_agrees v (extended v).types n (same_below v) es room s)

  pub none_merged : ((u : ℕ → Ty) → Holds u placed → AllSame u pairs → ⊥) → HasNoSolution es
  none_merged none v h s = none (extended v).types (extended v).holds (all_same v s)

  module _ (merged : List Node) (merges : Merges placed pairs merged) where
    held : (v : ℕ → Ty) → Solves v es → Holds (extended v).types merged
    held v s = merges.kept (extended v).types (extended v).holds (all_same v s)

    pub none_ordered : HasNoModel merged → HasNoSolution es
    none_ordered none v h s = none (extended v).types (held v s)

    pub none_sorted : HasWrongSort merged n → HasNoSolution es
    none_sorted wrong v h s =
        wrong (extended v).types (record { holds = held v s; free = λ k e. ap is_value_type ((extended v).same k (merges.free k e)) ∙ h k })
        (λ k less. ap is_value_type (sym (same_below v k less)) ∙ h k)

    module _ (models : HasModels merged) (sorts : HasSorts merged n) where
      abbrev solution : Ty → ℕ → Ty
      solution d i = choose (cases_lt i n) ((models d).types i) d

      below : (d : Ty) (i : ℕ) → i < n → solution d i ≡ (models d).types i
      below d i h = choose_below i n (cases_lt i n) ((models d).types i) d h

      above : (d : Ty) (i : ℕ) → n ≤ i → solution d i ≡ d
      above d i h = choose_above i n (cases_lt i n) ((models d).types i) d h

      assigns : (d : Ty) → is_value_type d ≡ true → IsAssignment (solution d)
      assigns d p i =
          elim (cases_lt i n) [
            | inl lt ↦ ap is_value_type (below d i lt) ∙ sorts (models d).types (record { holds = (models d).holds; free = λ k e. ap is_value_type ((models d).free k e) ∙ p }) i lt
            | inr le ↦ ap is_value_type (above d i le) ∙ p
          ]

      solves : (d : Ty) → Solves (solution d) es
      solves d =
          let a = merges.added (models d).types (models d).holds in
          solves_agrees (models d).types (solution d) n (λ k h. sym (below d k h)) es room ((built.same (models d).types a.0).0 a.1)

      pub known : (ts : List (Option Ty)) → length ts ≡ n → ((k : ℕ) → k < n → TypeFits merged k (type_at ts k)) → AreKnown es ts
      known ts long fits =
          record {
            given = λ v h s i t e. elim (cases_lt i n) [
              | inl lt ↦
                  let fit = subst (TypeFits merged i) e (fits i lt) in
                  same_below v i lt ∙ fit (extended v).types (held v s)
              | inr le ↦ let none = type_at-past ts i (omega arith) in cc
            ];
            solutions = record {
              one = solution ty.Int;
              two = solution ty.Bool;
              one_assigns = assigns ty.Int value-Int;
              two_assigns = assigns ty.Bool value-Bool;
              one_solves = solves ty.Int;
              two_solves = solves ty.Bool;
            };
            differ = λ i e q. elim (cases_lt i n) [
              | inl lt ↦
                  let fit = subst (TypeFits merged i) e (fits i lt) in
                  fit (models ty.Int).types (models ty.Bool).types (models ty.Int).holds (models ty.Bool).holds
                  (λ k free same. let a = (models ty.Int).free k free in let b = (models ty.Bool).free k free in cc)
                  (sym (below ty.Int i lt) ∙ q ∙ below ty.Bool i lt)
              | inr le ↦ let a = above ty.Int i le in let b = above ty.Bool i le in cc
            ];
          }
