-- Laws of finite sets.
use Rattle.std.proofs.Common.{Bool, List, Some, [], ap, arith, false, map, pos, refl, subst, sym, true, ℕ, ℤ, ◌&&◌, ◌+ℤ◌, ◌-ℤ◌, ◌||◌, ◌∙◌, ◌∷◌, ◌≡◌}
use Rattle.std.proofs.lemmas.Bool.Decides.{Decides-int_eq}
use Rattle.std.proofs.lemmas.Int.{ints}
use Rattle.std.specs.Ordering.{int_eq}
use Rattle.std.specs.Prelude.{int_le}
use lib.IntN.{+ℤ-neg_ℤ_cancel, -ℤ-+ℤ_cancel}
use Rattle.formula_core.proofs.Types.{same_type_exact}
use Rattle.formula_core.proofs.Weakening.{both_true, first_true, second_true}
use Rattle.formula_core.specs.Types.{if_set, is_integer, is_value_type, same_type}
use Rattle.formula_core.specs.Wellness.{type_of}
use Rattle.formula_core.specs.declared.Formula.{Formula}
use Rattle.formula_core.specs.declared.Formula.TheVariants.{Node}
use Rattle.formula_core.specs.declared.Op.{Op}
use Rattle.formula_core.specs.declared.Op.TheVariants as op
use Rattle.formula_core.specs.declared.Ty.{Ty}
use Rattle.formula_core.specs.declared.Ty.TheVariants as ty
use Rattle.well_defined.specs.Predicates.{conjunction, finite, top}
use Rattle.rule_table.specs.Shapes.{operands}
use Rattle.rule_table.specs.declared.law.Law.TheVariants as law
use Rattle.meanings.specs.Denotations.{Assignment, denotation}
use Rattle.meanings.specs.Operations.{contains, is_finite, member_sort, of_list, whole_number}
use Rattle.meanings.specs.Universes.{Valuation, Universe, cast}
use Rattle.meanings.specs.Values.{Sort, Denotation, Value, integer_sort, power_sort, sort}
use Rattle.meanings.proofs.Bools.{both_ways, or_left, or_right}
use Rattle.meanings.proofs.Casts.{cast_own}
use Rattle.meanings.proofs.Denotations.{sort-Int, sort-Pow}
use Rattle.meanings.proofs.FiniteSets.{Numbered, list_numbered, none_numbered, numbered_holds, numbered_tells, part_numbered, union_numbered}
use Rattle.meanings.proofs.Fitting.{IsWellIn, row_of_well}
use Rattle.meanings.proofs.Types.{if_set_tells, integer_is, type-Node}
use Rattle.true_laws.proofs.Words.{and_value, of_predicate, of_set, same_values, truth, with_value}
use Rattle.true_laws.proofs.LeftSides.{on_one_of}
use Rattle.true_laws.proofs.Forms.{is_on_none, is_on_two, mapped_of, node_is}
use Rattle.true_laws.proofs.Places.{LawKeeps}

module _ {carrier : List ℕ → Type 0} (U : Universe carrier) where
  interval_numbered : (p q : ℤ) → Numbered U integer_sort (λ v. int_le p v && int_le v q)
  interval_numbered p q = go (int_le p q) refl
    where
      long : int_le p q ≡ true → int_le (pos 0) ((q -ℤ p) +ℤ pos 1) ≡ true
      long h = grind (arith, ints, h)

      from_one : (v : ℤ) → int_le p v ≡ true → int_le (pos 1) ((v -ℤ p) +ℤ pos 1) ≡ true
      from_one v h = grind (arith, ints, h)

      to_last : (v : ℤ) → int_le v q ≡ true → int_le ((v -ℤ p) +ℤ pos 1) ((q -ℤ p) +ℤ pos 1) ≡ true
      to_last v h = grind (arith, ints, h)

      back : (v : ℤ) → (((v -ℤ p) +ℤ pos 1) -ℤ pos 1) +ℤ p ≡ v
      back v = ap (λ z. z +ℤ p) (+ℤ-neg_ℤ_cancel (v -ℤ p) (pos 1)) ∙ -ℤ-+ℤ_cancel v p

      same_number : (v w i : ℤ) → int_eq i ((v -ℤ p) +ℤ pos 1) ≡ true → int_eq i ((w -ℤ p) +ℤ pos 1) ≡ true → v ≡ w
      same_number v w i k l =
          let at = λ (v : ℤ). Decides-int_eq i ((v -ℤ p) +ℤ pos 1) in
          sym (back v) ∙ ap (λ z. (z -ℤ pos 1) +ℤ p) (sym ((at v).0 k) ∙ (at w).0 l) ∙ back w

      through : (v : ℤ) → int_le p v ≡ true → int_le v q ≡ true → int_le p q ≡ true
      through v k l = grind (arith, ints, k, l)

      none : int_le p q ≡ false → (v : ℤ) (x y : Bool) → int_le p v ≡ x → int_le v q ≡ y → (x && y) ≡ false
      none h v true true k l = sym (through v k l) ∙ h
      none h v true false k l = refl
      none h v false y k l = refl

      go : (c : Bool) → int_le p q ≡ c → Numbered U integer_sort (λ v. int_le p v && int_le v q)
      go false h = none_numbered U integer_sort (λ v. int_le p v && int_le v q)
          (λ v. none h v (int_le p v) (int_le v q) refl refl)
      go true h = record {
        n = (q -ℤ p) +ℤ pos 1;
        numbers = λ x. int_eq x.0 ((x.1 -ℤ p) +ℤ pos 1);
        natural = long h;
        each = λ v m. (
          (v -ℤ p) +ℤ pos 1,
          from_one v (first_true _ _ m),
          to_last v (second_true (int_le p v) _ m),
          (Decides-int_eq ((v -ℤ p) +ℤ pos 1) ((v -ℤ p) +ℤ pos 1)).1 refl,
        );
        one = λ i v w k l. same_number v w i k l;
      }

module _ {carrier : List ℕ → Type 0} (U : Universe carrier) (names : Valuation carrier) (P : List ℕ × Ty → Type 0) where
  abbrev M : Formula → Assignment U → Denotation carrier
  M = denotation U names

  finite_value : (s : Formula) (σ : Assignment U) (a : Sort) (A : Value carrier a → Bool) → M s σ ≡ (power_sort a, A)
      → M (finite s) σ ≡ truth U (is_finite U a A)
  finite_value s σ a A is =
      of_predicate U names op.Finite (s ∷ []) σ
      ∙ (λ i. truth U (let b = member_sort (is i).0 in is_finite U b (contains U (is i) b)))
      ∙ (λ i. truth U (is_finite U a (cast_own U (power_sort a) A i)))

  always : (s : Formula) (σ : Assignment U) (a : Sort) (A : Value carrier a → Bool) → M s σ ≡ (power_sort a, A)
      → Numbered U a A
      → M top σ ≡ M (finite s) σ
  always s σ a A is w =
      of_predicate U names op.Top [] σ ∙ ap (truth U) (sym (numbered_holds U a A w)) ∙ sym (finite_value s σ a A is)

  -- the value of a set that an operator makes
  set_value : (o : Op) (ps : List Formula) (u α : Ty) (s : Formula) → s ≡ Node o ps u → type_of s ≡ ty.Pow α
      → (σ : Assignment U)
      → M s σ ≡ (power_sort (sort α), of_list U o (power_sort (sort α)) (map (λ f. M f σ) ps))
  set_value o ps u α s is s_type σ =
      ap (λ f. M f σ) (is ∙ ap (Node o ps) (sym (type-Node o ps u) ∙ ap type_of (sym is) ∙ s_type))
      ∙ of_set U names o ps α σ

  abbrev IsSet : Ty → Bool
  IsSet a = if_set a is_value_type

  pub finite_empty_law : LawKeeps U names P law.FiniteEmpty
  finite_empty_law h g types ready k =
      let (s, n, there) = on_one_of types op.Finite IsSet (λ a t. refl) h ready.0 _ g k in
      let (u, is, made) = is_on_none g op.EmptySet s _ there in
      let (α, s_type, value) = if_set_tells (type_of s) is_value_type n.fits in
      same_values U names n.is made (λ σ.
      always s σ (sort α) (λ v. false) (set_value op.EmptySet [] u α s is s_type σ)
      (none_numbered U (sort α) (λ v. false) (λ v. refl)))

  pub finite_extension_law : LawKeeps U names P law.FiniteExtension
  finite_extension_law h g types ready k =
      let (s, n, there) = on_one_of types op.Finite IsSet (λ a t. refl) h ready.0 _ g k in
      let (ps, found, made) = mapped_of (λ parts. top) (operands op.SetExtension s) g there in
      let (u, is) = node_is op.SetExtension s ps found in
      let (α, s_type, value) = if_set_tells (type_of s) is_value_type n.fits in
      same_values U names n.is (ap Some made) (λ σ.
      always s σ (sort α) _ (set_value op.SetExtension ps u α s is s_type σ)
      (list_numbered U (sort α) (cast U (sort α)) (map (λ f. M f σ) ps)))

  pub finite_interval_law : LawKeeps U names P law.FiniteInterval
  finite_interval_law h g types ready k =
      let (s, n, there) = on_one_of types op.Finite IsSet (λ a t. refl) h ready.0 _ g k in
      let (p, q, u, is, made) = is_on_two g op.Interval s _ there in
      let row : (is_integer (type_of p) && is_integer (type_of q) && if_set u is_integer) ≡ true =
      row_of_well op.Interval (p ∷ q ∷ []) u types (subst (λ f. IsWellIn f types) is n.well) in
      let (β, u_is, integer) =
      if_set_tells u is_integer (second_true (is_integer (type_of p) && is_integer (type_of q)) _ row) in
      let s_type = ap type_of is ∙ type-Node op.Interval (p ∷ q ∷ []) u ∙ u_is ∙ ap ty.Pow (integer_is β integer) in
      same_values U names n.is made (λ σ.
      always s σ integer_sort _ (set_value op.Interval (p ∷ q ∷ []) u ty.Int s is s_type σ
      ∙ (λ i. (power_sort (sort-Int i), of_list U op.Interval (power_sort (sort-Int i)) (M p σ ∷ M q σ ∷ []))))
      (interval_numbered U (whole_number U (M p σ)) (whole_number U (M q σ))))

  pub finite_union_law : LawKeeps U names P law.FiniteUnion
  finite_union_law h g types ready k =
      let (u, n, there) = on_one_of types op.Finite IsSet (λ a t. refl) h ready.0 _ g k in
      let (s, t, w, is, made) = is_on_two g op.Union u _ there in
      let (α, u_type, value) = if_set_tells (type_of u) is_value_type n.fits in
      let first = if_set (type_of s) is_value_type in let front = first && same_type (type_of t) (type_of s) in
      let row : (front && same_type w (type_of s)) ≡ true =
      row_of_well op.Union (s ∷ t ∷ []) w types (subst (λ f. IsWellIn f types) is n.well) in
      let w_is = sym (type-Node op.Union (s ∷ t ∷ []) w) ∙ ap type_of (sym is) ∙ u_type in
      let s_type = sym (same_type_exact w (type_of s) (second_true front _ row)) ∙ w_is in
      let t_type = same_type_exact (type_of t) (type_of s) (second_true first _ (first_true front _ row)) ∙ s_type in
      same_values U names n.is made (λ σ.
      with_value U names s (power_sort (sort α)) (ap sort s_type ∙ sort-Pow α) σ (λ A s_is.
      with_value U names t (power_sort (sort α)) (ap sort t_type ∙ sort-Pow α) σ (λ B t_is.
      joined s t u σ (sort α) A B s_is t_is (set_value op.Union (s ∷ t ∷ []) w α u is u_type σ))))
    where
      joined : (s t u : Formula) (σ : Assignment U) (a : Sort) (A B : Value carrier a → Bool)
          → M s σ ≡ (power_sort a, A) → M t σ ≡ (power_sort a, B)
          → M u σ ≡ (power_sort a, of_list U op.Union (power_sort a) (M s σ ∷ M t σ ∷ []))
          → M (conjunction (finite s) (finite t)) σ ≡ M (finite u) σ
      joined s t u σ a A B s_is t_is u_is =
          let C : Value carrier a → Bool = λ v. A v || B v in
          and_value U names (finite s) (finite t) σ (finite_value s σ a A s_is) (finite_value t σ a B t_is)
          ∙ ap (truth U) (both_ways (is_finite U a A && is_finite U a B) (is_finite U a C)
          (λ h. numbered_holds U a C
          (union_numbered U a A B (numbered_tells U a A (first_true _ _ h))
          (numbered_tells U a B (second_true (is_finite U a A) _ h))))
          (λ h. let w = numbered_tells U a C h in
          both_true _ _ (numbered_holds U a A (part_numbered U a A C (λ v p. or_left (A v) (B v) p) w))
          (numbered_holds U a B (part_numbered U a B C (λ v p. or_right (A v) (B v) p) w))))
          ∙ sym (finite_value u σ a C
          (u_is ∙ (λ i. (power_sort a, λ v. contains U (s_is i) a v || contains U (t_is i) a v))
          ∙ (λ i. (power_sort a, λ v. cast_own U (power_sort a) A i v || cast_own U (power_sort a) B i v))))
