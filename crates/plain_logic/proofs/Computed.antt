-- The law that computes keeps the number of a sum, a difference or a product.
use Rattle.std.proofs.Common.{◌≡◌, ◌∙◌, sym, ap, subst, refl, ℤ, pos, negsuc, ◌+ℤ◌, ◌-ℤ◌, ◌*ℤ◌, neg_ℤ, Bool, true, false, List, [], ◌∷◌, Option, Some, None, if◌then◌else◌, arith}
use Rattle.std.specs.Option.{option_map, option_and_then}
use Rattle.std.proofs.lemmas.Int.{ints}
use Rattle.formula_core.specs.declared.Op.{Op}
use Rattle.formula_core.specs.declared.Op.TheVariants as op
use Rattle.formula_core.specs.declared.Ty.{Ty}
use Rattle.formula_core.specs.declared.Ty.TheVariants as ty
use Rattle.formula_core.specs.declared.Formula.{Formula}
use Rattle.formula_core.specs.declared.Formula.TheOpen.{Formula-F, Int as IntF, Free as FreeF, Bound as BoundF, Node as NodeF, Bind as BindF}
use Rattle.formula_core.specs.declared.Formula.TheVariants as formula
use Rattle.formula_core.specs.declared.Formula.TheViews.{out-Formula, roll-Formula, roll-out-Formula, rolls-Int, rolls-Node}
use Rattle.formula_core.specs.Types.{is_integer}
use Rattle.formula_core.specs.Wellness.{type_of}
use Rattle.well_defined.proofs.Types.{type-Node, type-Int, integer}
use Rattle.rule_table.specs.Shapes.{two_of, not_negative, literal_at, literal, numeral_at, numeral, as_numeral}
use Rattle.rule_table.specs.ArithmeticLaws.{computed_value, is_numeral_value, numerals_at, numerals, computed}
use Rattle.formula_readings.specs.Readings.{AtomValues, number_by}
use Rattle.formula_readings.proofs.Truths.{number-Int, number-one, number-two}
use Rattle.formula_readings.specs.Forms.{adds_up}
use Rattle.plain_logic.specs.Plain.{is_sum_at}
use Rattle.plain_logic.proofs.Found.{some, found}
use Rattle.plain_logic.proofs.Places.{IsSameNumber}

mapped : {X Y : Type 0} (f : X → Y) (o : Option X) (y : Y) → option_map f o ≡ Some y → (x : X) × (o ≡ Some x) × (f x ≡ y)
mapped f None y e = absurd (cc)
mapped f (Some x) y e = (x, refl, some (f x) y e)

twice_negated : (z : ℤ) → neg_ℤ (neg_ℤ z) ≡ z
twice_negated z = omega (arith, ints)

no_more : (n m : ℤ) → not_negative n ≡ Some m → n ≡ m
no_more (pos n) m e = some (pos n) m e
no_more (negsuc n) m e = absurd (cc)

two_list : (ps : List Formula) (x : Formula × Formula) → two_of ps ≡ Some x → ps ≡ x.0 ∷ x.1 ∷ []
two_list [] x e = absurd (cc)
two_list (q ∷ []) x e = absurd (cc)
two_list (q ∷ r ∷ []) x e = let d : (q, r) ≡ x = some (q, r) x e in λ i. (d i).0 ∷ (d i).1 ∷ []
two_list (q ∷ r ∷ s ∷ ps) x e = absurd (cc)

abbrev three : Op → ℤ → ℤ → Op × ℤ × ℤ
three o m n = (o, m, n)

module _ (v : AtomValues) where
  abbrev number : Formula → ℤ
  number = number_by v.number

  literal_is : (f : Formula) (m : ℤ) → literal f ≡ Some m → number f ≡ m
  literal_is f m e = go (out-Formula f) refl e
    where
      go : (x : Formula-F Formula) → out-Formula f ≡ x → literal_at x ≡ Some m → number f ≡ m
      go (IntF n) k e = ap number (sym (roll-out-Formula f) ∙ ap roll-Formula k ∙ rolls-Int n) ∙ number-Int v.number n ∙ no_more n m e
      go _ k e = absurd (cc)

  numeral_is : (f : Formula) (m : ℤ) → numeral f ≡ Some m → number f ≡ m
  numeral_is f m e = go (out-Formula f) refl e
    where
      at_node : (o : Op) (parts : List Formula) (t : Ty) → out-Formula f ≡ NodeF o parts t → numeral_at (NodeF o parts t) ≡ Some m → number f ≡ m
      at_node op.Negate [] t k e = absurd (cc)
      at_node op.Negate (p ∷ []) t k e =
          let x = mapped neg_ℤ (literal p) m e in
          ap number (sym (roll-out-Formula f) ∙ ap roll-Formula k ∙ rolls-Node op.Negate (p ∷ []) t) ∙ number-one v.number op.Negate p t ∙ ap neg_ℤ (literal_is p x.0 x.1) ∙ x.2
      at_node op.Negate (p ∷ q ∷ parts) t k e = absurd (cc)
      at_node _ parts t k e = absurd (cc)

      go : (x : Formula-F Formula) → out-Formula f ≡ x → numeral_at x ≡ Some m → number f ≡ m
      go (IntF n) k e = ap number (sym (roll-out-Formula f) ∙ ap roll-Formula k ∙ rolls-Int n) ∙ number-Int v.number n ∙ no_more n m e
      go (FreeF n t) k e = absurd (cc)
      go (BoundF n t) k e = absurd (cc)
      go (NodeF o parts t) k e = at_node o parts t k e
      go (BindF b ts ps t) k e = absurd (cc)

  as_numeral_is : (z : ℤ) → number (as_numeral z) ≡ z
  as_numeral_is (pos n) = number-Int v.number (pos n)
  as_numeral_is (negsuc n) =
      number-one v.number op.Negate (formula.Int (neg_ℤ (negsuc n))) ty.Int ∙ ap neg_ℤ (number-Int v.number (neg_ℤ (negsuc n))) ∙ twice_negated (negsuc n)

  as_numeral_type : (z : ℤ) → is_integer (type_of (as_numeral z)) ≡ true
  as_numeral_type (pos n) = ap is_integer (type-Int (pos n)) ∙ integer
  as_numeral_type (negsuc n) = ap is_integer (type-Node op.Negate (formula.Int (neg_ℤ (negsuc n)) ∷ []) ty.Int) ∙ integer

  -- the value of a sum is its number
  sum_is : (o : Op) (e f : Formula) (t : Ty) (m n w : ℤ) → adds_up o ≡ true → number e ≡ m → number f ≡ n → computed_value o m n ≡ Some w → number (formula.Node o (e ∷ f ∷ []) t) ≡ w
  sum_is op.Plus e f t m n w h p q k = number-two v.number op.Plus e f t ∙ (λ i. p i +ℤ q i) ∙ some (m +ℤ n) w k
  sum_is op.Minus e f t m n w h p q k = number-two v.number op.Minus e f t ∙ (λ i. p i -ℤ q i) ∙ some (m -ℤ n) w k
  sum_is op.Times e f t m n w h p q k = number-two v.number op.Times e f t ∙ (λ i. p i *ℤ q i) ∙ some (m *ℤ n) w k
  sum_is _ e f t m n w h p q k = absurd (cc)

  if_narrow : (b : Bool) (f g : Formula) → (if b then Some f else None) ≡ Some g → f ≡ g
  if_narrow true f g e = some f g e
  if_narrow false f g e = absurd (cc)

  pub computed_keeps : (h g : Formula) → is_sum_at (out-Formula h) ≡ true → computed h ≡ Some g → IsSameNumber v h g
  computed_keeps h g s e =
      let x = found (numerals h) (λ x. option_and_then (λ v. if is_numeral_value v then Some (as_numeral v) else None) (computed_value x.0 x.1 x.2)) g e in
      let w = found (computed_value x.0.0 x.0.1 x.0.2) (λ v. if is_numeral_value v then Some (as_numeral v) else None) g x.2 in
      let made : as_numeral w.0 ≡ g = if_narrow (is_numeral_value w.0) (as_numeral w.0) g w.2 in
      subst (IsSameNumber v h) made (record { number = go (out-Formula h) refl s x.0 x.1 w.0 w.1 ∙ sym (as_numeral_is w.0); integer = λ k. as_numeral_type w.0 })
    where
      go : (y : Formula-F Formula) → out-Formula h ≡ y → is_sum_at y ≡ true → (x : Op × ℤ × ℤ) → numerals_at y ≡ Some x → (w : ℤ) → computed_value x.0 x.1 x.2 ≡ Some w → number h ≡ w
      go (NodeF o parts t) k s x e w c =
          let p = found (two_of parts) (λ x. option_and_then (λ m. option_map (λ n. three o m n) (numeral x.1)) (numeral x.0)) x e in
          let m = found (numeral p.0.0) (λ m. option_map (λ n. three o m n) (numeral p.0.1)) x p.2 in
          let n = mapped (λ n. three o m.0 n) (numeral p.0.1) x m.2 in
          let there : computed_value o m.0 n.0 ≡ Some w = ap (λ (y : Op × ℤ × ℤ). computed_value y.0 y.1 y.2) n.2 ∙ c in
          ap number (sym (roll-out-Formula h) ∙ ap roll-Formula k ∙ rolls-Node o parts t ∙ ap (λ ps. formula.Node o ps t) (two_list parts p.0 p.1))
          ∙ sum_is o p.0.0 p.0.1 t m.0 n.0 w s (numeral_is p.0.0 m.0 m.1) (numeral_is p.0.1 n.0 n.1) there
      go _ k s x e w c = absurd (cc)
