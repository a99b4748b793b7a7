-- The atoms of a predicate, and its value where a reading gives them the truth that is wanted.
use Rattle.std.proofs.Common.{◌≡◌, ◌∙◌, sym, ap, subst, ℕ, ℤ, Bool, true, false, not, ◌&&◌, List, [], ◌∷◌, ◌++◌, map, Ok, if◌then◌else◌}
use Rattle.std.specs.List.{AllByRecursion}
use Rattle.formula_core.specs.declared.Op.{Op}
use Rattle.formula_core.specs.declared.Op.TheVariants as op
use Rattle.formula_core.specs.declared.Binder.{Binder}
use Rattle.formula_core.specs.declared.Ty.{Ty}
use Rattle.formula_core.specs.declared.Formula.{Formula}
use Rattle.formula_core.specs.declared.Formula.TheOpen.{Formula-F, Int as IntF, Free as FreeF, Bound as BoundF, Node as NodeF, Bind as BindF}
use Rattle.formula_core.specs.declared.Formula.TheVariants.{Int, Free, Bound, Node, Bind}
use Rattle.formula_core.specs.declared.Formula.TheViews.{rolls-Int, rolls-Free, rolls-Bound, rolls-Node, rolls-Bind}
use Rattle.formula_core.specs.declared.Formula.TheFolds.{para-Formula}
use Rattle.formula_core.proofs.Equations.{formula_para}
use Rattle.formula_core.proofs.Induction.{formula_induction}
use Rattle.formula_core.proofs.Lists.{map-beside}
use Rattle.formula_readings.specs.Forms.{negates, joins_two, compares, are_integers}
use Rattle.formula_readings.specs.Readings.{AtomValues, nullary_truth, unary_truth, binary_truth, truth_step, truth_by}
use Rattle.formula_readings.proofs.Truths.{truth-none, truth-one, truth-two}
use Rattle.readings_core.specs.Private.{checked_truth, checked_comparison, numbers_compared, checked_number, truth_negated, truths_joined}
use Rattle.readings_core.proofs.NumberSteps.{alone}
use Rattle.readings_core.proofs.TruthSteps.{checked-Int, checked-Free, checked-Bound, checked-Node, checked-Bind}
use Rattle.refuting_readings.specs.Refutations.{compares_none_step, compares_none}

abbrev atoms_on : Op → Formula → List (Formula × List Formula) → List Formula
atoms_on o f (p ∷ []) = if negates o then p.1 else f ∷ []
atoms_on o f (p ∷ q ∷ []) = if joins_two o then p.1 ++ q.1 else f ∷ []
atoms_on o f _ = f ∷ []

abbrev atoms_step : Formula-F (Formula × List Formula) → List Formula
atoms_step (IntF n) = Int n ∷ []
atoms_step (FreeF name t) = Free name t ∷ []
atoms_step (BoundF i t) = Bound i t ∷ []
atoms_step (NodeF o parts t) = atoms_on o (Node o (map (λ p. p.0) parts) t) parts
atoms_step (BindF b types parts t) = Bind b types (map (λ p. p.0) parts) t ∷ []

-- what a propositional reading is asked about
abbrev pub atoms : Formula → List Formula
atoms = para-Formula (List Formula) atoms_step

as_they_were : {A : Type 0} (g : Formula → A) (parts : List Formula) → map (λ (p : Formula × A). p.0) (map (λ f. (f, g f)) parts) ≡ parts
as_they_were g parts = map-beside g (λ f. f) parts ∙ alone parts

pub all_first : (P : Formula → Type 0) (xs ys : List Formula) → AllByRecursion P (xs ++ ys) → AllByRecursion P xs
all_first P [] ys h = tt
all_first P (x ∷ xs) ys h = (h.0, all_first P xs ys h.1)

pub all_last : (P : Formula → Type 0) (xs ys : List Formula) → AllByRecursion P (xs ++ ys) → AllByRecursion P ys
all_last P [] ys h = h
all_last P (x ∷ xs) ys h = all_last P xs ys h.1

both_true : (a b : Bool) → a && b ≡ true → (a ≡ true) × (b ≡ true)
both_true true b e = (λ i. true, e)
both_true false b e = absurd (cc)

not_true : (b : Bool) → not b ≡ true → b ≡ false
not_true true e = absurd (cc)
not_true false e = λ i. false

module _ (v : AtomValues) (atom : Formula → Bool) where
  -- the reading gives these the truth that is wanted
  abbrev pub Agree : List Formula → Type 0
  Agree fs = AllByRecursion (λ a. v.truth a ≡ atom a) fs

  abbrev HasValue : Formula → Type 0
  HasValue f = compares_none f ≡ true → Agree (atoms f) → checked_truth v f ≡ Ok (truth_by atom f)

  at_int : (n : ℤ) → HasValue (Int n)
  at_int n none agree =
      let a : Agree (Int n ∷ []) = subst Agree (formula_para atoms_step (IntF n) (Int n) (rolls-Int n)) agree in
      checked-Int v n ∙ ap (λ b. Ok b) (a.0 ∙ sym (formula_para (truth_step atom) (IntF n) (Int n) (rolls-Int n)))

  at_free : (name : List ℕ) (t : Ty) → HasValue (Free name t)
  at_free name t none agree =
      let a : Agree (Free name t ∷ []) = subst Agree (formula_para atoms_step (FreeF name t) (Free name t) (rolls-Free name t)) agree in
      checked-Free v name t ∙ ap (λ b. Ok b) (a.0 ∙ sym (formula_para (truth_step atom) (FreeF name t) (Free name t) (rolls-Free name t)))

  at_bound : (i : ℕ) (t : Ty) → HasValue (Bound i t)
  at_bound i t none agree =
      let a : Agree (Bound i t ∷ []) = subst Agree (formula_para atoms_step (BoundF i t) (Bound i t) (rolls-Bound i t)) agree in
      checked-Bound v i t ∙ ap (λ b. Ok b) (a.0 ∙ sym (formula_para (truth_step atom) (BoundF i t) (Bound i t) (rolls-Bound i t)))

  at_bind : (b : Binder) (types : List Ty) (parts : List Formula) (t : Ty) → HasValue (Bind b types parts t)
  at_bind b types parts t none agree =
      let whole = Bind b types parts t in
      let is : atoms whole ≡ whole ∷ [] = formula_para atoms_step (BindF b types parts t) whole (rolls-Bind b types parts t) ∙ ap (λ ps. Bind b types ps t ∷ []) (as_they_were atoms parts) in
      let a : Agree (whole ∷ []) = subst Agree is agree in
      let truth : truth_by atom whole ≡ atom whole =
      formula_para (truth_step atom) (BindF b types parts t) whole (rolls-Bind b types parts t) ∙ ap (λ ps. atom (Bind b types ps t)) (as_they_were (truth_by atom) parts) in
      checked-Bind v b types parts t ∙ ap (λ c. Ok c) (a.0 ∙ sym truth)

  -- ¬, or an atom
  one : (o : Op) (whole p : Formula) → HasValue p → (if negates o then compares_none p else true) ≡ true → Agree (if negates o then atoms p else whole ∷ []) →
      (if negates o then truth_negated (checked_truth v p) else Ok (v.truth whole)) ≡ Ok (unary_truth o (atom whole) (truth_by atom p))
  one op.Not whole p known none agree = ap truth_negated (known none agree)
  one _ whole p known none agree = ap (λ b. Ok b) agree.0

  -- what joins two
  joined : (o : Op) (p q : Formula) → HasValue p → HasValue q → compares_none p && compares_none q ≡ true → Agree (atoms p ++ atoms q) →
      truths_joined o (checked_truth v p) (checked_truth v q) ≡ Ok (binary_truth o false (truth_by atom p) (truth_by atom q))
  joined o p q left right none agree =
      let c = both_true (compares_none p) (compares_none q) none in
      let x = left c.0 (all_first (λ a. v.truth a ≡ atom a) (atoms p) (atoms q) agree) in
      let y = right c.1 (all_last (λ a. v.truth a ≡ atom a) (atoms p) (atoms q) agree) in
      λ i. truths_joined o (x i) (y i)

  -- or an atom, which is no comparison
  two : (o : Op) (whole p q : Formula) → HasValue p → HasValue q →
      (if joins_two o then compares_none p && compares_none q else not (compares o (are_integers p q))) ≡ true → Agree (if joins_two o then atoms p ++ atoms q else whole ∷ []) →
      (if joins_two o then truths_joined o (checked_truth v p) (checked_truth v q) else checked_comparison v o whole p q)
      ≡ Ok (binary_truth o (atom whole) (truth_by atom p) (truth_by atom q))
  two op.And whole p q left right none agree = joined op.And p q left right none agree
  two op.Or whole p q left right none agree = joined op.Or p q left right none agree
  two op.Implies whole p q left right none agree = joined op.Implies p q left right none agree
  two op.Equivalent whole p q left right none agree = joined op.Equivalent p q left right none agree
  two o whole p q left right none agree =
      ap (λ b. if b then numbers_compared o (checked_number v.number p) (checked_number v.number q) else Ok (v.truth whole)) (not_true (compares o (are_integers p q)) none)
      ∙ ap (λ b. Ok b) agree.0

  at_node : (o : Op) (parts : List Formula) (t : Ty) → AllByRecursion HasValue parts → HasValue (Node o parts t)
  at_node o [] t known none agree =
      let whole = Node o [] t in
      let a : Agree (whole ∷ []) = subst Agree (formula_para atoms_step (NodeF o [] t) whole (rolls-Node o [] t)) agree in
      checked-Node v o [] t ∙ ap (λ b. Ok (nullary_truth o b)) a.0 ∙ ap (λ b. Ok b) (sym (truth-none atom o t))
  at_node o (p ∷ []) t known none agree =
      let whole = Node o (p ∷ []) t in
      let c : (if negates o then compares_none p else true) ≡ true = sym (formula_para compares_none_step (NodeF o (p ∷ []) t) whole (rolls-Node o (p ∷ []) t)) ∙ none in
      let a : Agree (if negates o then atoms p else whole ∷ []) = subst Agree (formula_para atoms_step (NodeF o (p ∷ []) t) whole (rolls-Node o (p ∷ []) t)) agree in
      checked-Node v o (p ∷ []) t ∙ one o whole p known.0 c a ∙ ap (λ b. Ok b) (sym (truth-one atom o p t))
  at_node o (p ∷ q ∷ []) t known none agree =
      let whole = Node o (p ∷ q ∷ []) t in
      let c : (if joins_two o then compares_none p && compares_none q else not (compares o (are_integers p q))) ≡ true =
      sym (formula_para compares_none_step (NodeF o (p ∷ q ∷ []) t) whole (rolls-Node o (p ∷ q ∷ []) t)) ∙ none in
      let a : Agree (if joins_two o then atoms p ++ atoms q else whole ∷ []) = subst Agree (formula_para atoms_step (NodeF o (p ∷ q ∷ []) t) whole (rolls-Node o (p ∷ q ∷ []) t)) agree in
      checked-Node v o (p ∷ q ∷ []) t ∙ two o whole p q known.0 known.1.0 c a ∙ ap (λ b. Ok b) (sym (truth-two atom o p q t))
  at_node o (p ∷ q ∷ r ∷ parts) t known none agree =
      let all : List Formula = p ∷ q ∷ r ∷ parts in
      let whole = Node o all t in
      let is : atoms whole ≡ whole ∷ [] = formula_para atoms_step (NodeF o all t) whole (rolls-Node o all t) ∙ ap (λ ps. Node o ps t ∷ []) (as_they_were atoms all) in
      let a : Agree (whole ∷ []) = subst Agree is agree in
      let truth : truth_by atom whole ≡ atom whole =
      formula_para (truth_step atom) (NodeF o all t) whole (rolls-Node o all t) ∙ ap (λ ps. atom (Node o ps t)) (as_they_were (truth_by atom) all) in
      checked-Node v o all t ∙ ap (λ b. Ok b) (a.0 ∙ sym truth)

  pub has_value : (f : Formula) → HasValue f
  has_value = formula_induction HasValue at_int at_free at_bound at_node at_bind_known where
    at_bind_known : (b : Binder) (types : List Ty) (parts : List Formula) (t : Ty) → AllByRecursion HasValue parts → HasValue (Bind b types parts t)
    at_bind_known b types parts t known = at_bind b types parts t
