-- The law of computing.
use Rattle.std.proofs.Common.{Bool, List, None, Some, [], ap, false, int_div, neg_ℤ, negsuc, pos, refl, subst, sym, true, unsigned_abs, ℕ, ℤ, ◌%◌, ◌&&◌, ◌∙◌, ◌∷◌, ◌==◌, ◌≡◌}
use Rattle.std.proofs.lemmas.Bool.Decides.{Decides-int_eq}
use Rattle.std.specs.Option.{option_and_then, option_map}
use Rattle.std.specs.Ordering.{int_eq}
use Rattle.std.specs.Prelude.{if◌then◌else◌}
use lib.IntN.{neg_ℤ-neg_ℤ}
use Rattle.formula_core.proofs.Weakening.{second_true}
use Rattle.formula_core.specs.Rows.{row_of}
use Rattle.formula_core.specs.TypeTable.{row_fits}
use Rattle.formula_core.specs.Types.{is_integer}
use Rattle.formula_core.specs.Wellness.{type_of}
use Rattle.formula_core.specs.declared.Formula.{Formula, out-Formula}
use Rattle.formula_core.specs.declared.Formula.TheOpen.{Formula-F, Int as IntF, Node as NodeF}
use Rattle.formula_core.specs.declared.Formula.TheVariants.{Int, Node}
use Rattle.formula_core.specs.declared.Op.{Op}
use Rattle.formula_core.specs.declared.Op.TheVariants as op
use Rattle.formula_core.specs.declared.Ty.{Ty}
use Rattle.formula_core.specs.declared.Ty.TheVariants as ty
use Rattle.formula_core.specs.declared.formula.Formula.TheViews.{roll-Formula, roll-out-Formula, rolls-Int, rolls-Node}
use Rattle.rule_table.specs.ArithmeticLaws as arithmetic
use Rattle.rule_table.specs.ArithmeticLaws.{computed_value, is_numeral_value, numerals, numerals_at}
use Rattle.rule_table.specs.Shapes.{as_numeral, literal, literal_at, numeral, numeral_at, two_of}
use Rattle.rule_table.specs.declared.law.Law.TheVariants as law
use Rattle.meanings.specs.Denotations.{Assignment, denotation}
use Rattle.meanings.specs.Operations.{of_list, quotient, remainder, raised_to}
use Rattle.meanings.specs.Universes.{Valuation, Universe, arbitrary}
use Rattle.meanings.specs.Values.{Denotation, integer_sort}
use Rattle.meanings.proofs.Denotations.{denotation-Int}
use Rattle.meanings.proofs.Fitting.{IsWellIn, row_of_well, well_parts}
use Rattle.meanings.proofs.Types.{integer_is}
use Rattle.true_laws.proofs.Words.{of_integer, same_values, words}
use Rattle.true_laws.proofs.Forms.{if_tells, made_of, mapped_of, two_is}
use Rattle.true_laws.proofs.Places.{LawKeeps}

-- what a literal is, and two numerals under an operator
literal_is : (f : Formula) (n : ℤ) → literal f ≡ Some n → f ≡ Int n
literal_is f n h = sym (roll-out-Formula f) ∙ at (out-Formula f) h
  where
    at : (x : Formula-F Formula) → literal_at x ≡ Some n → roll-Formula x ≡ Int n
    at (IntF (pos m)) k = let e : pos m ≡ n = cc in rolls-Int (pos m) ∙ ap Int e
    at _ k = absurd cc

numerals_are : (f : Formula) (x : Op × ℤ × ℤ) → numerals f ≡ Some x
    → (p q : Formula) × (t : Ty) × (f ≡ Node x.0 (p ∷ q ∷ []) t) × (numeral p ≡ Some x.1) × (numeral q ≡ Some x.2)
numerals_are f x h = let (p, q, t, is, m, n) = at (out-Formula f) h in (p, q, t, sym (roll-out-Formula f) ∙ is, m, n)
  where
    at : (y : Formula-F Formula) → numerals_at y ≡ Some x
        → (p q : Formula) × (t : Ty) × (roll-Formula y ≡ Node x.0 (p ∷ q ∷ []) t) × (numeral p ≡ Some x.1)
        × (numeral q ≡ Some x.2)
    at (NodeF o parts t) k =
        let (pq, two, k) = made_of
        (λ (y : Formula × Formula).
        option_and_then (λ m. option_map (λ n. (o, m, n)) (numeral y.1)) (numeral y.0)) (two_of parts) x k in
        let (m, p_is, k) = made_of (λ m. option_map (λ n. (o, m, n)) (numeral pq.1)) (numeral pq.0) x k in
        let (n, q_is, e) = mapped_of (λ n. (o, m, n)) (numeral pq.1) x k in (
          pq.0,
          pq.1,
          t,
          rolls-Node o parts t ∙ (λ i. Node (e i).0 (two_is parts pq two i) t),
          p_is ∙ (λ i. Some (e i).1),
          q_is ∙ (λ i. Some (e i).2),
        )
    at _ k = absurd cc

module _ {carrier : List ℕ → Type 0} (U : Universe carrier) where
  division : (m n v : ℤ) → (if unsigned_abs n == 0 then None else Some (int_div m n)) ≡ Some v → quotient U m n ≡ v
  division m n v h = go (unsigned_abs n == 0) refl h
    where
      not_zero : (unsigned_abs n == 0) ≡ false → (c : Bool) → int_eq n (pos 0) ≡ c
          → (if c then arbitrary U integer_sort else int_div m n) ≡ int_div m n
      not_zero e true i =
          let k : true ≡ false = ap (λ z. unsigned_abs z == 0) (sym ((Decides-int_eq n (pos 0)).0 i)) ∙ e in absurd cc
      not_zero e false i = refl

      go : (c : Bool) → (unsigned_abs n == 0) ≡ c → (if c then None else Some (int_div m n)) ≡ Some v
          → quotient U m n ≡ v
      go true e k = absurd cc
      go false e k = let is : int_div m n ≡ v = cc in not_zero e (int_eq n (pos 0)) refl ∙ is

  left_over : (m n v : ℤ) → arithmetic.modulo m n ≡ Some v → remainder U m n ≡ v
  left_over (pos m) (pos n) v h = go (n == 0) h
    where
      go : (c : Bool) → (if c then None else Some (pos (m % n))) ≡ Some v
          → (if c then arbitrary U integer_sort else pos (m % n)) ≡ v
      go true k = absurd cc
      go false k = cc
  left_over (pos m) (negsuc n) v h = absurd cc
  left_over (negsuc m) n v h = absurd cc

  to_the_power : (m n v : ℤ) → arithmetic.power m n ≡ Some v → raised_to U m n ≡ v
  to_the_power (pos m) (pos n) v h = cc
  to_the_power (pos m) (negsuc n) v h = absurd cc
  to_the_power (negsuc m) n v h = absurd cc

  integer : (a b t : Ty) → (is_integer a && is_integer b && is_integer t) ≡ true → t ≡ ty.Int
  integer a b t k = integer_is t (second_true (is_integer a && is_integer b) _ k)

  -- what an operator makes of two numbers, and of which type, where the law computes it
  value_is : (o : Op) (m n v : ℤ) (a b t : Ty) → computed_value o m n ≡ Some v
      → row_fits (row_of o) (a ∷ b ∷ []) t ≡ true
      → (t ≡ ty.Int) × (of_list U o integer_sort ((integer_sort, m) ∷ (integer_sort, n) ∷ []) ≡ v)
  value_is op.Plus m n v a b t h k = (integer a b t k, cc)
  value_is op.Minus m n v a b t h k = (integer a b t k, cc)
  value_is op.Times m n v a b t h k = (integer a b t k, cc)
  value_is op.Divide m n v a b t h k = (integer a b t k, division m n v h)
  value_is op.Modulo m n v a b t h k = (integer a b t k, left_over m n v h)
  value_is op.Power m n v a b t h k = (integer a b t k, to_the_power m n v h)
  value_is o m n v a b t h k = absurd cc

module _ {carrier : List ℕ → Type 0} (U : Universe carrier) (names : Valuation carrier) (P : List ℕ × Ty → Type 0) where
  abbrev M : Formula → Assignment U → Denotation carrier
  M = denotation U names

  -- a numeral means its number
  numeral_means : (f : Formula) (n : ℤ) → numeral f ≡ Some n → (types : List Ty) → IsWellIn f types
      → (σ : Assignment U) → M f σ ≡ (integer_sort, n)
  numeral_means f n h types well σ =
      ap (λ f. M f σ) (sym (roll-out-Formula f))
      ∙ at (out-Formula f) h (subst (λ f. IsWellIn f types) (sym (roll-out-Formula f)) well)
    where
      at : (x : Formula-F Formula) → numeral_at x ≡ Some n → IsWellIn (roll-Formula x) types
          → M (roll-Formula x) σ ≡ (integer_sort, n)
      at (IntF (pos m)) k w =
          let e : pos m ≡ n = cc in ap (λ f. M f σ) (rolls-Int (pos m)) ∙ denotation-Int U names (pos m) σ
          ∙ (λ i. (integer_sort, e i))
      at (NodeF op.Negate (p ∷ []) t) k w =
          let (m, p_is, e) = mapped_of neg_ℤ (literal p) n k in
          let roll = rolls-Node op.Negate (p ∷ []) t in
          let row : (is_integer (type_of p) && is_integer t) ≡ true =
          row_of_well op.Negate (p ∷ []) t types (subst (λ f. IsWellIn f types) roll w) in
          let t_is = integer_is t (second_true (is_integer (type_of p)) _ row) in
          ap (λ f. M f σ) (roll ∙ (λ i. Node op.Negate (literal_is p m p_is i ∷ []) (t_is i))) ∙ simp (words, e)
      at _ k w = absurd cc

  as_numeral_means : (n : ℤ) (σ : Assignment U) → M (as_numeral n) σ ≡ (integer_sort, n)
  as_numeral_means (pos m) σ = denotation-Int U names (pos m) σ
  as_numeral_means (negsuc m) σ = simp words (ap (λ n. (integer_sort, n)) (neg_ℤ-neg_ℤ (negsuc m)))

  pub computed_law : LawKeeps U names P law.Computed
  computed_law h g types ready k =
      let (x, found, k) = made_of
      (λ (x : Op × ℤ × ℤ).
      option_and_then (λ v. if is_numeral_value v then Some (as_numeral v) else None)
      (computed_value x.0 x.1 x.2)) (numerals h) g k in
      let (v, value, k) = made_of (λ v. if is_numeral_value v then Some (as_numeral v) else None)
      (computed_value x.0 x.1 x.2) g k in
      let (p, q, t, is, m, n) = numerals_are h x found in
      let well = subst (λ f. IsWellIn f types) is ready.0 in
      let wells = well_parts x.0 (p ∷ q ∷ []) t types well in
      let known = value_is U x.0 x.1 x.2 v (type_of p) (type_of q) t value
      (row_of_well x.0 (p ∷ q ∷ []) t types well) in
      same_values U names (is ∙ ap (Node x.0 (p ∷ q ∷ [])) known.0)
      (if_tells (is_numeral_value v) (Some (as_numeral v)) g k).1 (λ σ.
      as_numeral_means v σ ∙ (λ i. (integer_sort, sym known.1 i))
      ∙ (λ i. (
        integer_sort,
        of_list U x.0 integer_sort
            (sym (numeral_means p x.1 m types wells.0 σ) i ∷ sym (numeral_means q x.2 n types wells.1.0 σ) i ∷ []),
      ))
      ∙ sym (of_integer U names x.0 (p ∷ q ∷ []) σ))
