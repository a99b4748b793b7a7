-- What is the same in a reading stays so at a place that readings see into.
use Rattle.std.proofs.Common.{◌≡◌, ◌∙◌, sym, ap, subst, refl, ℕ, zero, suc, ℤ, Bool, true, false, ◌&&◌, ◌||◌, List, [], ◌∷◌, Option, Some, None}
use Rattle.std.specs.Option.{option_map, option_map_or}
use Rattle.formula_core.specs.declared.Op.{Op}
use Rattle.formula_core.specs.declared.Op.TheVariants as op
use Rattle.formula_core.specs.declared.Ty.{Ty}
use Rattle.formula_core.specs.declared.Formula.{Formula}
use Rattle.formula_core.specs.declared.Formula.TheOpen.{Formula-F, Node as NodeF}
use Rattle.formula_core.specs.declared.Formula.TheVariants as formula
use Rattle.formula_core.specs.declared.Formula.TheViews.{out-Formula, roll-Formula, roll-out-Formula, rolls-Node}
use Rattle.formula_core.specs.Types.{is_integer}
use Rattle.formula_core.specs.Wellness.{type_of}
use Rattle.formula_core.proofs.Weakening.{first_true, second_true}
use Rattle.well_defined.proofs.Types.{type-Node}
use Rattle.rule_table.specs.declared.law.Law.{Law}
use Rattle.rule_table.specs.Rewriting.{part_at, part, with_part_at, with_part, rewritten, right_side}
use Rattle.formula_readings.specs.Forms.{are_integers, compares, negates, joins_two, adds_up, turns_sign, is_connected_at, is_comparison_at, is_arithmetic_at}
use Rattle.formula_readings.specs.Readings.{AtomValues, unary_truth, binary_truth, unary_number, binary_number, compared, truth_in, number_by, comparison}
use Rattle.formula_readings.proofs.Truths.{truth-one, truth-two, truth_in-two, number-one, number-two}
use Rattle.plain_logic.specs.Plain.{keeps_truth, keeps_number, keeps_truth_at, keeps_number_at}
use Rattle.plain_logic.proofs.Found.{some, found}

-- a connective, a comparison and an operator of arithmetic don't ask the atom
negated_alone : (o : Op) (a b p : Bool) → negates o ≡ true → unary_truth o a p ≡ unary_truth o b p
negated_alone op.Not a b p h = refl
negated_alone _ a b p h = absurd (cc)

connected_alone : (o : Op) (a b p q : Bool) → joins_two o ≡ true → binary_truth o a p q ≡ binary_truth o b p q
connected_alone op.And a b p q h = refl
connected_alone op.Or a b p q h = refl
connected_alone op.Implies a b p q h = refl
connected_alone op.Equivalent a b p q h = refl
connected_alone _ a b p q h = absurd (cc)

negative_alone : (o : Op) (a b m : ℤ) → turns_sign o ≡ true → unary_number o a m ≡ unary_number o b m
negative_alone op.Negate a b m h = refl
negative_alone _ a b m h = absurd (cc)

computed_alone : (o : Op) (a b m n : ℤ) → adds_up o ≡ true → binary_number o a m n ≡ binary_number o b m n
computed_alone op.Plus a b m n h = refl
computed_alone op.Minus a b m n h = refl
computed_alone op.Times a b m n h = refl
computed_alone _ a b m n h = absurd (cc)

compared_alone : (o : Op) (i j a b p q r s : Bool) (m n : ℤ) → compares o i ≡ true → compares o j ≡ true
    → binary_truth o (compared o i a m n) p q ≡ binary_truth o (compared o j b m n) r s
compared_alone op.Equal true true a b p q r s m n h k = refl
compared_alone op.Equal true false a b p q r s m n h k = absurd (cc)
compared_alone op.Equal false j a b p q r s m n h k = absurd (cc)
compared_alone op.Less i j a b p q r s m n h k = refl
compared_alone op.LessOrEqual i j a b p q r s m n h k = refl
compared_alone _ i j a b p q r s m n h k = absurd (cc)

compares_still : (o : Op) (i j : Bool) → compares o i ≡ true → (i ≡ true → j ≡ true) → compares o j ≡ true
compares_still op.Equal i j h k = k h
compares_still op.Less i j h k = refl
compares_still op.LessOrEqual i j h k = refl
compares_still _ i j h k = absurd (cc)

either_still : (a b c d : Bool) → (a || b) ≡ true → (a ≡ true → c ≡ true) → (b ≡ true → d ≡ true) → (c || d) ≡ true
either_still true b c d h f g = ap (λ x. x || d) (f refl)
either_still false b true d h f g = refl
either_still false b false d h f g = g h

module _ (v : AtomValues) where
  abbrev truth : Formula → Bool
  truth = truth_in v

  abbrev number : Formula → ℤ
  number = number_by v.number

  abbrev pub IsSameTruth : Formula → Formula → Type 0
  IsSameTruth f g = truth f ≡ truth g

  -- the same number, and an integer expression still
  pub record IsSameNumber (e f : Formula) : Type 0 where
    pub number : number_by v.number e ≡ number_by v.number f
    pub integer : is_integer (type_of e) ≡ true → is_integer (type_of f) ≡ true

  same : (e : Formula) → IsSameNumber e e
  same e = record { number = refl; integer = λ h. h }

  at_node : (f : Formula) (o : Op) (parts : List Formula) (t : Ty) → out-Formula f ≡ NodeF o parts t → f ≡ formula.Node o parts t
  at_node f o parts t k = sym (roll-out-Formula f) ∙ ap roll-Formula k ∙ rolls-Node o parts t

  one_connected : (o : Op) (t : Ty) (p q : Formula) → negates o ≡ true → IsSameTruth p q → truth (formula.Node o (p ∷ []) t) ≡ truth (formula.Node o (q ∷ []) t)
  one_connected o t p q h e =
      let a = comparison v in
      truth-one a o p t ∙ ap (unary_truth o (a (formula.Node o (p ∷ []) t))) e ∙ negated_alone o (a (formula.Node o (p ∷ []) t)) (a (formula.Node o (q ∷ []) t)) (truth q) h
      ∙ sym (truth-one a o q t)

  two_connected : (o : Op) (t : Ty) (p q r s : Formula) → joins_two o ≡ true → IsSameTruth p r → IsSameTruth q s → truth (formula.Node o (p ∷ q ∷ []) t) ≡ truth (formula.Node o (r ∷ s ∷ []) t)
  two_connected o t p q r s h e d =
      let a = comparison v in
      truth-two a o p q t ∙ (λ i. binary_truth o (a (formula.Node o (p ∷ q ∷ []) t)) (e i) (d i))
      ∙ connected_alone o (a (formula.Node o (p ∷ q ∷ []) t)) (a (formula.Node o (r ∷ s ∷ []) t)) (truth r) (truth s) h
      ∙ sym (truth-two a o r s t)

  two_compared : (o : Op) (t : Ty) (e f g h : Formula) → compares o (are_integers e f) ≡ true → IsSameNumber e g → IsSameNumber f h
      → truth (formula.Node o (e ∷ f ∷ []) t) ≡ truth (formula.Node o (g ∷ h ∷ []) t)
  two_compared o t e f g h c d k =
      let still : compares o (are_integers g h) ≡ true = compares_still o (are_integers e f) (are_integers g h) c
      (λ i. either_still (is_integer (type_of e)) (is_integer (type_of f)) (is_integer (type_of g)) (is_integer (type_of h)) i d.integer k.integer) in
      truth_in-two v o e f t
      ∙ (λ i. binary_truth o (compared o (are_integers e f) (v.truth (formula.Node o (e ∷ f ∷ []) t)) (d.number i) (k.number i)) (truth e) (truth f))
      ∙ compared_alone o (are_integers e f) (are_integers g h) (v.truth (formula.Node o (e ∷ f ∷ []) t)) (v.truth (formula.Node o (g ∷ h ∷ []) t)) (truth e) (truth f) (truth g) (truth h) (number g) (number h) c still
      ∙ sym (truth_in-two v o g h t)

  one_number : (o : Op) (t : Ty) (e f : Formula) → turns_sign o ≡ true → IsSameNumber e f → IsSameNumber (formula.Node o (e ∷ []) t) (formula.Node o (f ∷ []) t)
  one_number o t e f h d = record {
    number = number-one v.number o e t ∙ ap (unary_number o (v.number (formula.Node o (e ∷ []) t))) d.number
        ∙ negative_alone o (v.number (formula.Node o (e ∷ []) t)) (v.number (formula.Node o (f ∷ []) t)) (number f) h ∙ sym (number-one v.number o f t);
    integer = λ i. ap is_integer (type-Node o (f ∷ []) t) ∙ sym (ap is_integer (type-Node o (e ∷ []) t)) ∙ i;
  }

  two_numbers : (o : Op) (t : Ty) (e f g h : Formula) → adds_up o ≡ true → IsSameNumber e g → IsSameNumber f h → IsSameNumber (formula.Node o (e ∷ f ∷ []) t) (formula.Node o (g ∷ h ∷ []) t)
  two_numbers o t e f g h c d k = record {
    number = number-two v.number o e f t ∙ (λ i. binary_number o (v.number (formula.Node o (e ∷ f ∷ []) t)) (d.number i) (k.number i))
        ∙ computed_alone o (v.number (formula.Node o (e ∷ f ∷ []) t)) (v.number (formula.Node o (g ∷ h ∷ []) t)) (number g) (number h) c ∙ sym (number-two v.number o g h t);
    integer = λ i. ap is_integer (type-Node o (g ∷ h ∷ []) t) ∙ sym (ap is_integer (type-Node o (e ∷ f ∷ []) t)) ∙ i;
  }

  -- one part changed
  module _ (f : Formula) (p q : Formula) where
    pub connected_keeps : (i : ℕ) → is_connected_at (out-Formula f) ≡ true → part f i ≡ Some p → IsSameTruth p q → IsSameTruth f (with_part f i q)
    connected_keeps i h e d = go (out-Formula f) i refl h e
      where
        go : (x : Formula-F Formula) (i : ℕ) → out-Formula f ≡ x → is_connected_at x ≡ true → part_at x i ≡ Some p → IsSameTruth f (with_part_at x i q)
        go (NodeF o (r ∷ []) t) zero k h e = ap truth (at_node f o (r ∷ []) t k) ∙ one_connected o t r q h (ap truth (some r p e) ∙ d)
        go (NodeF o (r ∷ []) t) (suc i) k h e = absurd (cc)
        go (NodeF o (r ∷ s ∷ []) t) zero k h e = ap truth (at_node f o (r ∷ s ∷ []) t k) ∙ two_connected o t r s q s h (ap truth (some r p e) ∙ d) refl
        go (NodeF o (r ∷ s ∷ []) t) (suc zero) k h e = ap truth (at_node f o (r ∷ s ∷ []) t k) ∙ two_connected o t r s r q h refl (ap truth (some s p e) ∙ d)
        go (NodeF o (r ∷ s ∷ []) t) (suc (suc i)) k h e = absurd (cc)
        go _ i k h e = absurd (cc)

    pub comparison_keeps : (i : ℕ) → is_comparison_at (out-Formula f) ≡ true → part f i ≡ Some p → IsSameNumber p q → IsSameTruth f (with_part f i q)
    comparison_keeps i h e d = go (out-Formula f) i refl h e
      where
        moved : (r : Formula) → r ≡ p → IsSameNumber r q
        moved r k = subst (λ x. IsSameNumber x q) (sym k) d

        go : (x : Formula-F Formula) (i : ℕ) → out-Formula f ≡ x → is_comparison_at x ≡ true → part_at x i ≡ Some p → IsSameTruth f (with_part_at x i q)
        go (NodeF o (r ∷ s ∷ []) t) zero k h e = ap truth (at_node f o (r ∷ s ∷ []) t k) ∙ two_compared o t r s q s h (moved r (some r p e)) (same s)
        go (NodeF o (r ∷ s ∷ []) t) (suc zero) k h e = ap truth (at_node f o (r ∷ s ∷ []) t k) ∙ two_compared o t r s r q h (same r) (moved s (some s p e))
        go (NodeF o (r ∷ s ∷ []) t) (suc (suc i)) k h e = absurd (cc)
        go _ i k h e = absurd (cc)

    pub arithmetic_keeps : (i : ℕ) → is_arithmetic_at (out-Formula f) ≡ true → part f i ≡ Some p → IsSameNumber p q → IsSameNumber f (with_part f i q)
    arithmetic_keeps i h e d = go (out-Formula f) i refl h e
      where
        moved : (r : Formula) → r ≡ p → IsSameNumber r q
        moved r k = subst (λ x. IsSameNumber x q) (sym k) d

        from : (o : Op) (parts : List Formula) (t : Ty) (g : Formula) → out-Formula f ≡ NodeF o parts t → IsSameNumber (formula.Node o parts t) g → IsSameNumber f g
        from o parts t g k h = subst (λ x. IsSameNumber x g) (sym (at_node f o parts t k)) h

        go : (x : Formula-F Formula) (i : ℕ) → out-Formula f ≡ x → is_arithmetic_at x ≡ true → part_at x i ≡ Some p → IsSameNumber f (with_part_at x i q)
        go (NodeF o (r ∷ []) t) zero k h e = from o (r ∷ []) t _ k (one_number o t r q h (moved r (some r p e)))
        go (NodeF o (r ∷ []) t) (suc i) k h e = absurd (cc)
        go (NodeF o (r ∷ s ∷ []) t) zero k h e = from o (r ∷ s ∷ []) t _ k (two_numbers o t r s q s h (moved r (some r p e)) (same s))
        go (NodeF o (r ∷ s ∷ []) t) (suc zero) k h e = from o (r ∷ s ∷ []) t _ k (two_numbers o t r s r q h (same r) (moved s (some s p e)))
        go (NodeF o (r ∷ s ∷ []) t) (suc (suc i)) k h e = absurd (cc)
        go _ i k h e = absurd (cc)

  -- a law at a place, where it keeps what stands there
  module _ (law : Law)
      (keeps : (f g : Formula) → keeps_truth law f ≡ true → right_side law f ≡ Some g → IsSameTruth f g)
      (keeps_values : (f g : Formula) → keeps_number law f ≡ true → right_side law f ≡ Some g → IsSameNumber f g) where
    part_found : (o : Option Formula) (test : Formula → Bool) → option_map_or test o false ≡ true → (p : Formula) → o ≡ Some p → test p ≡ true
    part_found o test h p e = sym (ap (λ x. option_map_or test x false) e) ∙ h

    pub number_at : (place : List ℕ) (f g : Formula) → keeps_number_at law place f ≡ true → rewritten law place f ≡ Some g → IsSameNumber f g
    number_at [] f g h e = keeps_values f g h e
    number_at (i ∷ place) f g h e =
        let x = found (part f i) (λ p. option_map (with_part f i) (rewritten law place p)) g e in
        below x.0 x.1 (rewritten law place x.0) refl x.2 (λ p q inner r. number_at place p q inner r)
      where
        below : (p : Formula) → part f i ≡ Some p → (o : Option Formula) → rewritten law place p ≡ o → option_map (with_part f i) o ≡ Some g
            → ((p q : Formula) → keeps_number_at law place p ≡ true → rewritten law place p ≡ Some q → IsSameNumber p q) → IsSameNumber f g
        below p k None r m each = absurd (cc)
        below p k (Some q) r m each =
            let inner : keeps_number_at law place p ≡ true = part_found (part f i) (keeps_number_at law place) (second_true (is_arithmetic_at (out-Formula f)) _ h) p k in
            subst (IsSameNumber f) (some (with_part f i q) g m) (arithmetic_keeps f p q i (first_true _ _ h) k (each p q inner r))

    pub truth_at : (place : List ℕ) (f g : Formula) → keeps_truth_at law place f ≡ true → rewritten law place f ≡ Some g → IsSameTruth f g
    truth_at [] f g h e = keeps f g h e
    truth_at (i ∷ place) f g h e =
        let x = found (part f i) (λ p. option_map (with_part f i) (rewritten law place p)) g e in
        below x.0 x.1 (rewritten law place x.0) refl x.2 (λ p q inner r. truth_at place p q inner r)
      where
        below : (p : Formula) → part f i ≡ Some p → (o : Option Formula) → rewritten law place p ≡ o → option_map (with_part f i) o ≡ Some g
            → ((p q : Formula) → keeps_truth_at law place p ≡ true → rewritten law place p ≡ Some q → IsSameTruth p q) → IsSameTruth f g
        below p k None r m each = absurd (cc)
        below p k (Some q) r m each = ways (is_connected_at (out-Formula f) && option_map_or (keeps_truth_at law place) (part f i) false) refl
          where
            ways : (b : Bool) → (is_connected_at (out-Formula f) && option_map_or (keeps_truth_at law place) (part f i) false) ≡ b → IsSameTruth f g
            ways true c =
                let inner : keeps_truth_at law place p ≡ true = part_found (part f i) (keeps_truth_at law place) (second_true (is_connected_at (out-Formula f)) _ c) p k in
                subst (IsSameTruth f) (some (with_part f i q) g m) (connected_keeps f p q i (first_true _ _ c) k (each p q inner r))
            ways false c =
                let other : (is_comparison_at (out-Formula f) && option_map_or (keeps_number_at law place) (part f i) false) ≡ true =
                ap (λ b. b || (is_comparison_at (out-Formula f) && option_map_or (keeps_number_at law place) (part f i) false)) (sym c) ∙ h in
                let inner : keeps_number_at law place p ≡ true = part_found (part f i) (keeps_number_at law place) (second_true (is_comparison_at (out-Formula f)) _ other) p k in
                subst (IsSameTruth f) (some (with_part f i q) g m) (comparison_keeps f p q i (first_true _ _ other) k (number_at place p q inner r))
