-- What the truth of a predicate is at each variant, as far as i128 goes.
use Rattle.std.proofs.Common.{◌≡◌, ◌∙◌, sym, ap, refl, ℕ, ℤ, Bool, true, false, not, List, [], ◌∷◌, ◌++◌, Result, Ok, Err, if◌then◌else◌}
use Rattle.formula_core.specs.declared.Op.{Op}
use Rattle.formula_core.specs.declared.Op.TheVariants as op
use Rattle.formula_core.specs.declared.Binder.{Binder}
use Rattle.formula_core.specs.declared.Ty.{Ty}
use Rattle.formula_core.specs.declared.Formula.{Formula}
use Rattle.formula_core.specs.declared.Formula.TheOpen.{Formula-F, Int as IntF, Free as FreeF, Bound as BoundF, Node as NodeF, Bind as BindF}
use Rattle.formula_core.specs.declared.Formula.TheVariants.{Int, Free, Bound, Node, Bind}
use Rattle.formula_core.specs.declared.Formula.TheViews.{out-Formula, roll-Formula, roll-out-Formula, rolls-Int, rolls-Free, rolls-Bound, rolls-Node, rolls-Bind, outs-Int, outs-Free, outs-Bound, outs-Node, outs-Bind}
use Rattle.formula_core.specs.declared.Formula.TheFolds.{map-Formula}
use Rattle.formula_core.proofs.Equations.{formula_para}
use Rattle.formula_core.proofs.Lists.{map-beside}
use Rattle.formula_readings.specs.Forms.{negates, joins_two, compares, are_integers}
use Rattle.formula_readings.specs.Readings.{AtomValues, nullary_truth, unary_truth, binary_truth, truth_step, truth_in, number_by, compared, comparison, comparison_at}
use Rattle.formula_readings.proofs.Truths.{compared-two}
use Rattle.readings_core.specs.declared.values.ValueFault.{ValueFault}
use Rattle.readings_core.specs.Private.{checked_number, checked_truth, checked_comparison, truth_negated, truths_joined, node_truth, numbers_compared}
use Rattle.readings_core.specs.Values.{unless_wide}
use Rattle.readings_core.specs.Widths.{wide_in_number, wide_compared, wide_truth_step, wide_in_truth}
use Rattle.readings_core.proofs.Wide.{Operands, none_wide, still_wide, wide_still}
use Rattle.readings_core.proofs.NumberSteps.{alone}

module _ (v : AtomValues) where
  abbrev checked : Formula → Result Bool ValueFault
  checked = checked_truth v

  abbrev number : Formula → Result ℤ ValueFault
  number = checked_number v.number

  abbrev wide : Formula → Operands
  wide = wide_in_truth v.number

  at : (x : Formula-F Formula) (f : Formula) → roll-Formula x ≡ f
      → checked f
      ≡ unless_wide (wide_truth_step v.number (map-Formula Formula (Formula × Operands) (λ y. (y, wide y)) x))
      (truth_step (comparison v) (map-Formula Formula (Formula × Bool) (λ y. (y, truth_in v y)) x))
  at x f e = λ i. unless_wide (formula_para (wide_truth_step v.number) x f e i) (formula_para (truth_step (comparison v)) x f e i)

  pub checked-Int : (n : ℤ) → checked (Int n) ≡ Ok (v.truth (Int n))
  checked-Int n = at (IntF n) (Int n) (rolls-Int n) ∙ ap (λ x. Ok (comparison_at v (v.truth (Int n)) x)) (outs-Int n)

  pub checked-Free : (name : List ℕ) (t : Ty) → checked (Free name t) ≡ Ok (v.truth (Free name t))
  checked-Free name t = at (FreeF name t) (Free name t) (rolls-Free name t) ∙ ap (λ x. Ok (comparison_at v (v.truth (Free name t)) x)) (outs-Free name t)

  pub checked-Bound : (i : ℕ) (t : Ty) → checked (Bound i t) ≡ Ok (v.truth (Bound i t))
  checked-Bound i t = at (BoundF i t) (Bound i t) (rolls-Bound i t) ∙ ap (λ x. Ok (comparison_at v (v.truth (Bound i t)) x)) (outs-Bound i t)

  pub checked-Bind : (b : Binder) (types : List Ty) (parts : List Formula) (t : Ty) → checked (Bind b types parts t) ≡ Ok (v.truth (Bind b types parts t))
  checked-Bind b types parts t = at (BindF b types parts t) (Bind b types parts t) (rolls-Bind b types parts t)
      ∙ ap (λ ps. Ok (comparison v (Bind b types ps t))) (map-beside (truth_in v) (λ x. x) parts ∙ alone parts)
      ∙ ap (λ x. Ok (comparison_at v (v.truth (Bind b types parts t)) x)) (outs-Bind b types parts t)

  -- ¬, or an atom
  module _ (p : Formula) (a : Bool) where
    one : (o : Op) → unless_wide (if negates o then wide p else []) (unary_truth o a (truth_in v p)) ≡ (if negates o then truth_negated (checked p) else Ok a)
    one op.Not = go (checked p) refl
      where
        go : (r : Result Bool ValueFault) → checked p ≡ r → unless_wide (wide p) (not (truth_in v p)) ≡ truth_negated r
        go (Ok b) is = let found = none_wide (wide p) (truth_in v p) b is in λ i. unless_wide (found.0 i) (not (found.1 i))
        go (Err fault) is = wide_still Bool Bool (wide p) (truth_in v p) (not (truth_in v p)) fault is
    one _ = refl

  -- a comparison, or an atom
  module _ (f e g : Formula) where
    abbrev whole : Op → Bool
    whole o = compared o (are_integers e g) (v.truth f) (number_by v.number e) (number_by v.number g)

    seen : (o : Op) (t : Bool) → ((m n : ℤ) → number_by v.number e ≡ m → number_by v.number g ≡ n → t ≡ compared o true false m n) → (r s : Result ℤ ValueFault) → number e ≡ r → number g ≡ s
        → unless_wide (wide_in_number v.number e ++ wide_in_number v.number g) t ≡ numbers_compared o r s
    seen o t so (Ok m) (Ok n) is at =
        let left = none_wide (wide_in_number v.number e) (number_by v.number e) m is in
        let right = none_wide (wide_in_number v.number g) (number_by v.number g) n at in
        λ i. unless_wide (left.0 i ++ right.0 i) (so m n left.1 right.1 i)
    seen o t so (Ok m) (Err fault) is at =
        let left = none_wide (wide_in_number v.number e) (number_by v.number e) m is in
        ap (λ ws. unless_wide (ws ++ wide_in_number v.number g) t) left.0 ∙ wide_still ℤ Bool (wide_in_number v.number g) (number_by v.number g) t fault at
    seen o t so (Err fault) s is at = still_wide ℤ Bool (wide_in_number v.number e) (wide_in_number v.number g) (number_by v.number e) t fault is

    compares_two : (o : Op) (integers a : Bool) → unless_wide (if compares o integers then wide_in_number v.number e ++ wide_in_number v.number g else []) (compared o integers a (number_by v.number e) (number_by v.number g))
        ≡ (if compares o integers then numbers_compared o (number e) (number g) else Ok a)
    compares_two op.Equal true a = seen op.Equal (compared op.Equal true a (number_by v.number e) (number_by v.number g)) (λ m n is at i. compared op.Equal true false (is i) (at i)) (number e) (number g) refl refl
    compares_two op.Equal false a = refl
    compares_two op.Less integers a = seen op.Less (compared op.Less integers a (number_by v.number e) (number_by v.number g)) (λ m n is at i. compared op.Less true false (is i) (at i)) (number e) (number g) refl refl
    compares_two op.LessOrEqual integers a =
        seen op.LessOrEqual (compared op.LessOrEqual integers a (number_by v.number e) (number_by v.number g)) (λ m n is at i. compared op.LessOrEqual true false (is i) (at i)) (number e) (number g) refl refl
    compares_two _ integers a = refl

    pub comparison_is : (o : Op) → unless_wide (wide_compared v.number o e g) (whole o) ≡ checked_comparison v o f e g
    comparison_is o = compares_two o (are_integers e g) (v.truth f)

  -- a connective on two
  module _ (p q : Formula) where
    connects : (o : Op) (r s : Result Bool ValueFault) → checked p ≡ r → checked q ≡ s → unless_wide (wide p ++ wide q) (binary_truth o false (truth_in v p) (truth_in v q)) ≡ truths_joined o r s
    connects o (Ok b) (Ok c) is at =
        let left = none_wide (wide p) (truth_in v p) b is in
        let right = none_wide (wide q) (truth_in v q) c at in
        λ i. unless_wide (left.0 i ++ right.0 i) (binary_truth o false (left.1 i) (right.1 i))
    connects o (Ok b) (Err fault) is at =
        let whole = binary_truth o false (truth_in v p) (truth_in v q) in
        let left = none_wide (wide p) (truth_in v p) b is in
        ap (λ ws. unless_wide (ws ++ wide q) whole) left.0 ∙ wide_still Bool Bool (wide q) (truth_in v q) whole fault at
    connects o (Err fault) s is at = still_wide Bool Bool (wide p) (wide q) (truth_in v p) (binary_truth o false (truth_in v p) (truth_in v q)) fault is

    two : (o : Op) (a : Bool) (ws : Operands) (r : Result Bool ValueFault) → unless_wide ws a ≡ r
        → unless_wide (if joins_two o then wide p ++ wide q else ws) (binary_truth o a (truth_in v p) (truth_in v q)) ≡ (if joins_two o then truths_joined o (checked p) (checked q) else r)
    two op.And a ws r is = connects op.And (checked p) (checked q) refl refl
    two op.Or a ws r is = connects op.Or (checked p) (checked q) refl refl
    two op.Implies a ws r is = connects op.Implies (checked p) (checked q) refl refl
    two op.Equivalent a ws r is = connects op.Equivalent (checked p) (checked q) refl refl
    two _ a ws r is = is

  pub checked-Node : (o : Op) (parts : List Formula) (t : Ty) → checked (Node o parts t) ≡ node_truth v o (Node o parts t) parts
  checked-Node o [] t = at (NodeF o [] t) (Node o [] t) (rolls-Node o [] t) ∙ ap (λ x. Ok (nullary_truth o (comparison_at v (v.truth (Node o [] t)) x))) (outs-Node o [] t)
  checked-Node o (p ∷ []) t = at (NodeF o (p ∷ []) t) (Node o (p ∷ []) t) (rolls-Node o (p ∷ []) t)
      ∙ ap (λ x. unless_wide (if negates o then wide p else []) (unary_truth o (comparison_at v (v.truth (Node o (p ∷ []) t)) x) (truth_in v p))) (outs-Node o (p ∷ []) t)
      ∙ one p (v.truth (Node o (p ∷ []) t)) o
  checked-Node o (p ∷ q ∷ []) t = at (NodeF o (p ∷ q ∷ []) t) (Node o (p ∷ q ∷ []) t) (rolls-Node o (p ∷ q ∷ []) t)
      ∙ ap (λ a. unless_wide (if joins_two o then wide p ++ wide q else wide_compared v.number o p q) (binary_truth o a (truth_in v p) (truth_in v q))) (compared-two v o p q t)
      ∙ two p q o (whole (Node o (p ∷ q ∷ []) t) p q o) (wide_compared v.number o p q) (checked_comparison v o (Node o (p ∷ q ∷ []) t) p q) (comparison_is (Node o (p ∷ q ∷ []) t) p q o)
  checked-Node o (p ∷ q ∷ r ∷ parts) t = at (NodeF o (p ∷ q ∷ r ∷ parts) t) (Node o (p ∷ q ∷ r ∷ parts) t) (rolls-Node o (p ∷ q ∷ r ∷ parts) t)
      ∙ ap (λ ps. Ok (comparison v (Node o ps t))) (map-beside (truth_in v) (λ x. x) (p ∷ q ∷ r ∷ parts) ∙ alone (p ∷ q ∷ r ∷ parts))
      ∙ ap (λ x. Ok (comparison_at v (v.truth (Node o (p ∷ q ∷ r ∷ parts) t)) x)) (outs-Node o (p ∷ q ∷ r ∷ parts) t)

-- the same as the code has its facts
module _ (v : AtomValues) (f : Formula) where
  pub node_is : (o : Op) (parts items : List Formula) (t : Ty) → f ≡ Node o parts t → items ≡ parts → node_truth v o f items ≡ checked_truth v f
  node_is o parts items t is same = ap (node_truth v o f) same ∙ ap (λ g. node_truth v o g parts) is ∙ sym (ap (checked_truth v) is ∙ checked-Node v o parts t)

  pub other_is : ((o : Op) (parts : List Formula) (t : Ty) → f ≡ Node o parts t → ⊥) → checked_truth v f ≡ Ok (v.truth f)
  other_is no_node = go (out-Formula f) refl
    where
      is : (x : Formula-F Formula) (g : Formula) → out-Formula f ≡ x → roll-Formula x ≡ g → f ≡ g
      is x g k r = sym (roll-out-Formula f) ∙ ap roll-Formula k ∙ r

      go : (x : Formula-F Formula) → out-Formula f ≡ x → checked_truth v f ≡ Ok (v.truth f)
      go (IntF n) k = let d = is (IntF n) (Int n) k (rolls-Int n) in ap (checked_truth v) d ∙ checked-Int v n ∙ ap (λ g. Ok (v.truth g)) (sym d)
      go (FreeF name t) k = let d = is (FreeF name t) (Free name t) k (rolls-Free name t) in ap (checked_truth v) d ∙ checked-Free v name t ∙ ap (λ g. Ok (v.truth g)) (sym d)
      go (BoundF i t) k = let d = is (BoundF i t) (Bound i t) k (rolls-Bound i t) in ap (checked_truth v) d ∙ checked-Bound v i t ∙ ap (λ g. Ok (v.truth g)) (sym d)
      go (NodeF o parts t) k = absurd (no_node o parts t (is (NodeF o parts t) (Node o parts t) k (rolls-Node o parts t)))
      go (BindF b types parts t) k =
          let d = is (BindF b types parts t) (Bind b types parts t) k (rolls-Bind b types parts t) in
          ap (checked_truth v) d ∙ checked-Bind v b types parts t ∙ ap (λ g. Ok (v.truth g)) (sym d)

  pub one_is : (o : Op) (parts : List Formula) (p : Formula) → parts ≡ p ∷ [] → negates o ≡ true → truth_negated (checked_truth v p) ≡ node_truth v o f parts
  one_is o parts p one h = sym (ap (node_truth v o f) one ∙ ap (λ b. if b then truth_negated (checked_truth v p) else Ok (v.truth f)) h)

  pub two_is : (o : Op) (parts : List Formula) (p q : Formula) → parts ≡ p ∷ q ∷ [] → joins_two o ≡ true → truths_joined o (checked_truth v p) (checked_truth v q) ≡ node_truth v o f parts
  two_is o parts p q two h = sym (ap (node_truth v o f) two ∙ ap (λ b. if b then truths_joined o (checked_truth v p) (checked_truth v q) else checked_comparison v o f p q) h)

  pub compared_is : (o : Op) (parts : List Formula) (p q : Formula) → parts ≡ p ∷ q ∷ [] → joins_two o ≡ false → checked_comparison v o f p q ≡ node_truth v o f parts
  compared_is o parts p q two h = sym (ap (node_truth v o f) two ∙ ap (λ b. if b then truths_joined o (checked_truth v p) (checked_truth v q) else checked_comparison v o f p q) h)
