-- What the number of an expression is at each variant, as far as i128 goes.
use Rattle.std.proofs.Common.{◌≡◌, ◌∙◌, sym, ap, refl, ℕ, ℤ, pos, ◌-ℤ◌, neg_ℤ, true, List, [], ◌∷◌, ◌++◌, map, Result, Ok, Err, if◌then◌else◌, arith}
use Rattle.std.proofs.lemmas.Int.{ints}
use Rattle.formula_core.specs.declared.Op.{Op}
use Rattle.formula_core.specs.declared.Op.TheVariants as op
use Rattle.formula_core.specs.declared.Binder.{Binder}
use Rattle.formula_core.specs.declared.Ty.{Ty}
use Rattle.formula_core.specs.declared.Formula.{Formula}
use Rattle.formula_core.specs.declared.Formula.TheOpen.{Formula-F, Int as IntF, Free as FreeF, Bound as BoundF, Node as NodeF, Bind as BindF}
use Rattle.formula_core.specs.declared.Formula.TheVariants.{Int, Free, Bound, Node, Bind}
use Rattle.formula_core.specs.declared.Formula.TheViews.{out-Formula, roll-Formula, roll-out-Formula, rolls-Int, rolls-Free, rolls-Bound, rolls-Node, rolls-Bind}
use Rattle.formula_core.specs.declared.Formula.TheFolds.{map-Formula}
use Rattle.formula_core.proofs.Equations.{formula_para}
use Rattle.formula_core.proofs.Lists.{map-beside}
use Rattle.formula_readings.specs.Forms.{turns_sign, adds_up}
use Rattle.formula_readings.specs.Readings.{number_step, number_by, unary_number, binary_number}
use Rattle.readings_core.specs.declared.values.ValueFault.{ValueFault}
use Rattle.readings_core.specs.Private.{checked_number, operated, opposite, node_number}
use Rattle.readings_core.specs.Values.{unless_wide}
use Rattle.readings_core.specs.Widths.{unless_fitting, wide_of_one, wide_of_two, wide_number_step, wide_in_number}
use Rattle.readings_core.proofs.Wide.{Operands, none_wide, still_wide}

pub alone : {X : Type 0} (xs : List X) → map (λ x. x) xs ≡ xs
alone [] = refl
alone (x ∷ xs) = ap (λ ys. x ∷ ys) (alone xs)

negation_is : (m : ℤ) → neg_ℤ m ≡ pos 0 -ℤ m
negation_is m = omega (arith, ints)

module _ (number : Formula → ℤ) where
  abbrev checked : Formula → Result ℤ ValueFault
  checked = checked_number number

  at : (x : Formula-F Formula) (f : Formula) → roll-Formula x ≡ f
      → checked f
      ≡ unless_wide (wide_number_step number (map-Formula Formula (Formula × Operands) (λ y. (y, wide_in_number number y)) x))
      (number_step number (map-Formula Formula (Formula × ℤ) (λ y. (y, number_by number y)) x))
  at x f e = λ i. unless_wide (formula_para (wide_number_step number) x f e i) (formula_para (number_step number) x f e i)

  pub checked-Int : (n : ℤ) → checked (Int n) ≡ Ok n
  checked-Int n = at (IntF n) (Int n) (rolls-Int n)

  pub checked-Free : (name : List ℕ) (t : Ty) → checked (Free name t) ≡ Ok (number (Free name t))
  checked-Free name t = at (FreeF name t) (Free name t) (rolls-Free name t)

  pub checked-Bound : (i : ℕ) (t : Ty) → checked (Bound i t) ≡ Ok (number (Bound i t))
  checked-Bound i t = at (BoundF i t) (Bound i t) (rolls-Bound i t)

  pub checked-Bind : (b : Binder) (types : List Ty) (parts : List Formula) (t : Ty) → checked (Bind b types parts t) ≡ Ok (number (Bind b types parts t))
  checked-Bind b types parts t = at (BindF b types parts t) (Bind b types parts t) (rolls-Bind b types parts t)
      ∙ ap (λ ps. Ok (number (Bind b types ps t))) (map-beside (number_by number) (λ x. x) parts ∙ alone parts)

  -- an operator on one expression
  module _ (e : Formula) (a : ℤ) where
    one : (o : Op) → unless_wide (if turns_sign o then wide_in_number number e ++ wide_of_one o (number_by number e) else []) (unary_number o a (number_by number e)) ≡ (if turns_sign o then opposite (checked e) else Ok a)
    one op.Negate = go (checked e) refl
      where
        go : (r : Result ℤ ValueFault) → checked e ≡ r → unless_wide (wide_in_number number e ++ wide_of_one op.Negate (number_by number e)) (neg_ℤ (number_by number e)) ≡ opposite r
        go (Ok m) is =
            let found = none_wide (wide_in_number number e) (number_by number e) m is in
            (λ i. unless_wide (found.0 i ++ wide_of_one op.Negate (found.1 i)) (neg_ℤ (found.1 i))) ∙ ap (unless_wide (unless_fitting (pos 0 -ℤ m) (pos 0) m)) (negation_is m)
        go (Err fault) is = still_wide ℤ ℤ (wide_in_number number e) (wide_of_one op.Negate (number_by number e)) (number_by number e) (neg_ℤ (number_by number e)) fault is
    one _ = refl

  -- an operator on two
  module _ (e f : Formula) (a : ℤ) where
    -- where the operator is one of arithmetic
    seen : (o : Op) (r s : Result ℤ ValueFault) → checked e ≡ r → checked f ≡ s
        → unless_wide (wide_in_number number e ++ wide_in_number number f ++ wide_of_two o (number_by number e) (number_by number f)) (binary_number o (pos 0) (number_by number e) (number_by number f)) ≡ operated o r s
    seen o (Ok m) (Ok n) is at =
        let left = none_wide (wide_in_number number e) (number_by number e) m is in
        let right = none_wide (wide_in_number number f) (number_by number f) n at in
        λ i. unless_wide (left.0 i ++ right.0 i ++ wide_of_two o (left.1 i) (right.1 i)) (binary_number o (pos 0) (left.1 i) (right.1 i))
    seen o (Ok m) (Err fault) is at =
        let whole = binary_number o (pos 0) (number_by number e) (number_by number f) in
        let left = none_wide (wide_in_number number e) (number_by number e) m is in
        ap (λ ws. unless_wide (ws ++ wide_in_number number f ++ wide_of_two o (number_by number e) (number_by number f)) whole) left.0
        ∙ still_wide ℤ ℤ (wide_in_number number f) (wide_of_two o (number_by number e) (number_by number f)) (number_by number f) whole fault at
    seen o (Err fault) s is at =
        let whole = binary_number o (pos 0) (number_by number e) (number_by number f) in
        still_wide ℤ ℤ (wide_in_number number e ++ wide_in_number number f) (wide_of_two o (number_by number e) (number_by number f)) whole whole fault
        (still_wide ℤ ℤ (wide_in_number number e) (wide_in_number number f) (number_by number e) whole fault is)

    two : (o : Op)
        → unless_wide (if adds_up o then wide_in_number number e ++ wide_in_number number f ++ wide_of_two o (number_by number e) (number_by number f) else [])
        (binary_number o a (number_by number e) (number_by number f))
        ≡ (if adds_up o then operated o (checked e) (checked f) else Ok a)
    two op.Plus = seen op.Plus (checked e) (checked f) refl refl
    two op.Minus = seen op.Minus (checked e) (checked f) refl refl
    two op.Times = seen op.Times (checked e) (checked f) refl refl
    two _ = refl

  pub checked-Node : (o : Op) (parts : List Formula) (t : Ty) → checked (Node o parts t) ≡ node_number number o (Node o parts t) parts
  checked-Node o [] t = at (NodeF o [] t) (Node o [] t) (rolls-Node o [] t)
  checked-Node o (e ∷ []) t = at (NodeF o (e ∷ []) t) (Node o (e ∷ []) t) (rolls-Node o (e ∷ []) t) ∙ one e (number (Node o (e ∷ []) t)) o
  checked-Node o (e ∷ f ∷ []) t = at (NodeF o (e ∷ f ∷ []) t) (Node o (e ∷ f ∷ []) t) (rolls-Node o (e ∷ f ∷ []) t) ∙ two e f (number (Node o (e ∷ f ∷ []) t)) o
  checked-Node o (e ∷ f ∷ g ∷ parts) t = at (NodeF o (e ∷ f ∷ g ∷ parts) t) (Node o (e ∷ f ∷ g ∷ parts) t) (rolls-Node o (e ∷ f ∷ g ∷ parts) t)
      ∙ ap (λ ps. Ok (number (Node o ps t))) (map-beside (number_by number) (λ x. x) (e ∷ f ∷ g ∷ parts) ∙ alone (e ∷ f ∷ g ∷ parts))

-- the same as the code has its facts
module _ (number : Formula → ℤ) (f : Formula) where
  pub node_is : (o : Op) (parts items : List Formula) (t : Ty) → f ≡ Node o parts t → items ≡ parts → node_number number o f items ≡ checked_number number f
  node_is o parts items t is same =
      ap (node_number number o f) same ∙ ap (λ g. node_number number o g parts) is ∙ sym (ap (checked_number number) is ∙ checked-Node number o parts t)

  pub other_is : ((n : ℤ) → f ≡ Int n → ⊥) → ((o : Op) (parts : List Formula) (t : Ty) → f ≡ Node o parts t → ⊥) → checked_number number f ≡ Ok (number f)
  other_is no_number no_node = go (out-Formula f) refl
    where
      is : (x : Formula-F Formula) (g : Formula) → out-Formula f ≡ x → roll-Formula x ≡ g → f ≡ g
      is x g k r = sym (roll-out-Formula f) ∙ ap roll-Formula k ∙ r

      go : (x : Formula-F Formula) → out-Formula f ≡ x → checked_number number f ≡ Ok (number f)
      go (IntF n) k = absurd (no_number n (is (IntF n) (Int n) k (rolls-Int n)))
      go (FreeF name t) k = let d = is (FreeF name t) (Free name t) k (rolls-Free name t) in ap (checked_number number) d ∙ checked-Free number name t ∙ ap (λ g. Ok (number g)) (sym d)
      go (BoundF i t) k = let d = is (BoundF i t) (Bound i t) k (rolls-Bound i t) in ap (checked_number number) d ∙ checked-Bound number i t ∙ ap (λ g. Ok (number g)) (sym d)
      go (NodeF o parts t) k = absurd (no_node o parts t (is (NodeF o parts t) (Node o parts t) k (rolls-Node o parts t)))
      go (BindF b types parts t) k =
          let d = is (BindF b types parts t) (Bind b types parts t) k (rolls-Bind b types parts t) in
          ap (checked_number number) d ∙ checked-Bind number b types parts t ∙ ap (λ g. Ok (number g)) (sym d)

  pub one_is : (o : Op) (parts : List Formula) (e : Formula) → parts ≡ e ∷ [] → turns_sign o ≡ true → opposite (checked_number number e) ≡ node_number number o f parts
  one_is o parts e one h = sym (ap (node_number number o f) one ∙ ap (λ b. if b then opposite (checked_number number e) else Ok (number f)) h)

  pub two_is : (o : Op) (parts : List Formula) (e g : Formula) → parts ≡ e ∷ g ∷ [] → adds_up o ≡ true → operated o (checked_number number e) (checked_number number g) ≡ node_number number o f parts
  two_is o parts e g two h = sym (ap (node_number number o f) two ∙ ap (λ b. if b then operated o (checked_number number e) (checked_number number g) else Ok (number f)) h)
