-- Each identifier of L is one of the formula.
use Rattle.std.proofs.Common.{◌≡◌, ◌∙◌, sym, ap, refl, subst, ℕ, ℤ, ◌+◌, Bool, true, false, List, [], ◌∷◌, ◌++◌, map, length, Option, Some, None, if◌then◌else◌}
use Rattle.std.specs.Prelude.{Contains}
use Rattle.std.specs.List.{AllByRecursion}
use Rattle.std.specs.Option.{option_map_or}
use Rattle.std.proofs.lemmas.List.Elements.{All-contains_itself, recursion_from_All}
use Rattle.formula_core.specs.declared.op.Op.{Op}
use Rattle.formula_core.specs.declared.op.Op.TheVariants as op
use Rattle.formula_core.specs.declared.op.Binder.{Binder}
use Rattle.formula_core.specs.declared.op.Binder.TheVariants as binder
use Rattle.formula_core.specs.declared.row.Row.TheVariants.{Binary}
use Rattle.formula_core.specs.declared.row.BinaryRow.TheVariants.{Connective}
use Rattle.formula_core.specs.declared.ty.Ty.{Ty}
use Rattle.formula_core.specs.declared.ty.Ty.TheOpen.{Int as IntF, Bool as BoolF, Truth as TruthF}
use Rattle.formula_core.specs.declared.ty.Ty.TheVariants as ty
use Rattle.formula_core.specs.declared.ty.Ty.TheViews.{rolls-Int, rolls-Bool, rolls-Truth}
use Rattle.formula_core.specs.declared.formula.Formula.{Formula}
use Rattle.formula_core.specs.declared.formula.Formula.TheOpen.{Int as NumberF}
use Rattle.formula_core.specs.declared.formula.Formula.TheVariants.{Int, Bound, Node}
use Rattle.formula_core.specs.declared.formula.Formula.TheViews as view
use Rattle.formula_core.specs.Formulas.{joined}
use Rattle.formula_core.specs.Identifiers.{carriers_step, carriers, identifiers_step, identifiers}
use Rattle.formula_core.specs.Shifting.{raised, shifted}
use Rattle.formula_core.specs.Rows.{row_of}
use Rattle.formula_core.specs.Types.{relation}
use Rattle.formula_core.specs.Wellness.{type_of}
use Rattle.formula_core.specs.WholeSets.{whole_set}
use Rattle.formula_core.proofs.Depths.{shifted-Int, shifted-Free, shifted-Bound, shifted-Node, shifted-Bind}
use Rattle.formula_core.proofs.Equations.{formula_fold, type_fold, carriers-Given, carriers-Pow, carriers-Pair, identifiers-Free, identifiers-Bound, identifiers-Node, identifiers-Bind}
use Rattle.formula_core.proofs.Induction.{formula_induction}
use Rattle.formula_core.proofs.Types.{type_induction}
use Rattle.formula_core.proofs.WholeSets.{whole_set-Int, whole_set-Bool, whole_set-Given, whole_set-Pow, whole_set-Pair, whole_set-Truth}
use Rattle.well_defined.specs.Predicates.{predicate, quantified, top, conjunction, unequal, at_most, less, member, zero, not_empty, bound_b, bound_x, bounded, domain, partial_functions, implication}
use Rattle.well_defined.specs.Connectives.{conjoined, implied, for_every, is_top}
use Rattle.well_defined.specs.Conditions.{unary_condition, binary_condition, own_condition, operands_condition, quantified_condition, binder_condition, wd_of}
use Rattle.well_defined.proofs.Equations.{wd-Int, wd-Free, wd-Bound, wd-Node, wd-Bind}
use Rattle.well_defined.proofs.Connectives.{conjoined_keeps, implied_keeps, operands_keep}
use Rattle.well_defined.proofs.Types.{type-Int, type-Free, type-Bound, type-Node, type-Bind, relation_is}

identifiers-Int : (n : ℤ) → identifiers (Int n) ≡ []
identifiers-Int n = formula_fold identifiers_step (NumberF n) (Int n) (view.rolls-Int n)

carriers-Int : carriers ty.Int ≡ []
carriers-Int = type_fold carriers_step IntF ty.Int rolls-Int

carriers-Bool : carriers ty.Bool ≡ []
carriers-Bool = type_fold carriers_step BoolF ty.Bool rolls-Bool

carriers-Truth : carriers ty.Truth ≡ []
carriers-Truth = type_fold carriers_step TruthF ty.Truth rolls-Truth

-- a formula that is moved below more bound identifiers has the same identifiers
abbrev IsKept : ℕ → Formula → Type 0
IsKept by f = (d : ℕ) → identifiers (shifted by d f) ≡ identifiers f

parts_kept : (by d : ℕ) (parts : List Formula) → AllByRecursion (IsKept by) parts → joined (map identifiers (map (shifted by d) parts)) ≡ joined (map identifiers parts)
parts_kept by d [] each = refl
parts_kept by d (p ∷ parts) each = λ i. each.0 d i ++ parts_kept by d parts each.1 i

identifiers-shifted : (by : ℕ) (f : Formula) → IsKept by f
identifiers-shifted by = formula_induction (IsKept by)
    (λ n d. ap identifiers (shifted-Int by d n))
    (λ name t d. ap identifiers (shifted-Free by d name t))
    (λ i t d. ap identifiers (shifted-Bound by d i t ∙ view.rolls-Bound (raised by d i) t) ∙ identifiers-Bound (raised by d i) t ∙ sym (identifiers-Bound i t))
    (λ o parts t each d.
    ap identifiers (shifted-Node by d o parts t) ∙ identifiers-Node o (map (shifted by d) parts) t ∙ ap (λ ids. ids ++ carriers t) (parts_kept by d parts each) ∙ sym (identifiers-Node o parts t))
    (λ b types parts t each d.
    ap identifiers (shifted-Bind by d b types parts t) ∙ identifiers-Bind b types (map (shifted by (d + length types)) parts) t
    ∙ ap (λ ids. joined (map carriers types) ++ ids ++ carriers t) (parts_kept by (d + length types) parts each) ∙ sym (identifiers-Bind b types parts t))

module _ (P : List ℕ × Ty → Type 0) where
  abbrev All : List (List ℕ × Ty) → Type 0
  All ids = AllByRecursion P ids

  -- all identifiers of a formula, and all carrier sets of a type
  abbrev Of : Formula → Type 0
  Of f = All (identifiers f)

  abbrev OfType : Ty → Type 0
  OfType t = All (carriers t)

  all_both : (xs ys : List (List ℕ × Ty)) → All xs → All ys → All (xs ++ ys)
  all_both [] ys a b = b
  all_both (x ∷ xs) ys a b = (a.0, all_both xs ys a.1 b)

  all_first : (xs ys : List (List ℕ × Ty)) → All (xs ++ ys) → All xs
  all_first [] ys a = tt
  all_first (x ∷ xs) ys a = (a.0, all_first xs ys a.1)

  all_last : (xs ys : List (List ℕ × Ty)) → All (xs ++ ys) → All ys
  all_last [] ys a = a
  all_last (x ∷ xs) ys a = all_last xs ys a.1

  all_joined : (parts : List Formula) → AllByRecursion Of parts → All (joined (map identifiers parts))
  all_joined [] each = tt
  all_joined (p ∷ parts) each = all_both (identifiers p) (joined (map identifiers parts)) each.0 (all_joined parts each.1)

  each_joined : (parts : List Formula) → All (joined (map identifiers parts)) → AllByRecursion Of parts
  each_joined [] a = tt
  each_joined (p ∷ parts) a = (all_first (identifiers p) (joined (map identifiers parts)) a, each_joined parts (all_last (identifiers p) (joined (map identifiers parts)) a))

  of_no_carriers : (t : Ty) → carriers t ≡ [] → OfType t
  of_no_carriers t e = subst All (sym e) tt

  of_truth : OfType ty.Truth
  of_truth = of_no_carriers ty.Truth carriers-Truth

  of_integer : OfType ty.Int
  of_integer = of_no_carriers ty.Int carriers-Int

  of_set : (t : Ty) → OfType t → OfType (ty.Pow t)
  of_set t = subst All (sym (carriers-Pow t))

  of_members : (t : Ty) → OfType (ty.Pow t) → OfType t
  of_members t = subst All (carriers-Pow t)

  of_pair : (t u : Ty) → OfType t → OfType u → OfType (ty.Pair t u)
  of_pair t u a b = subst All (sym (carriers-Pair t u)) (all_both (carriers t) (carriers u) a b)

  of_components : (t u : Ty) → OfType (ty.Pair t u) → OfType t × OfType u
  of_components t u a = let both : All (carriers t ++ carriers u) = subst All (carriers-Pair t u) a in (all_first (carriers t) (carriers u) both, all_last (carriers t) (carriers u) both)

  node : (o : Op) (parts : List Formula) (t : Ty) → AllByRecursion Of parts → OfType t → Of (Node o parts t)
  node o parts t each a = subst All (sym (identifiers-Node o parts t)) (all_both (joined (map identifiers parts)) (carriers t) (all_joined parts each) a)

  of_predicate : (o : Op) (parts : List Formula) → AllByRecursion Of parts → Of (predicate o parts)
  of_predicate o parts each = node o parts ty.Truth each of_truth

  two : (o : Op) (p q : Formula) → Of p → Of q → Of (predicate o (p ∷ q ∷ []))
  two o p q a b = of_predicate o (p ∷ q ∷ []) (a, (b, tt))

  one : (o : Op) (p : Formula) → Of p → Of (predicate o (p ∷ []))
  one o p a = of_predicate o (p ∷ []) (a, tt)

  at_top : Of top
  at_top = of_predicate op.Top [] tt

  connected : (o : Op) → row_of o ≡ Binary Connective → (p q : Formula) → Of p → Of q → Of (predicate o (p ∷ q ∷ []))
  connected o e = two o

  over : (b : Binder) (types : List Ty) (p : Formula) → All (joined (map carriers types)) → Of p → Of (quantified b types p)
  over b types p a h =
      subst All (sym (identifiers-Bind b types (p ∷ []) ty.Truth))
      (all_both (joined (map carriers types) ++ joined (map identifiers (p ∷ []))) (carriers ty.Truth)
      (all_both (joined (map carriers types)) (joined (map identifiers (p ∷ []))) a (all_joined (p ∷ []) (h, tt))) of_truth)

  for_every_at : (types : List Ty) (p : Formula) (b : Bool) → All (joined (map carriers types)) → Of p → Of (if b then top else quantified binder.ForAll types p)
  for_every_at types p true a h = at_top
  for_every_at types p false a h = over binder.ForAll types p a h

  at_zero : Of zero
  at_zero = subst All (sym (identifiers-Int _)) tt

  of_index : (i : ℕ) → Of (Bound i ty.Int)
  of_index i = subst All (sym (identifiers-Bound i ty.Int)) of_integer

  differ : (e f : Formula) → Of e → Of f → Of (unequal e f)
  differ e f a b = one op.Not (predicate op.Equal (e ∷ f ∷ [])) (two op.Equal e f a b)

  -- the carrier sets of the type of a formula are among its identifiers
  of_type : (f : Formula) → Of f → OfType (type_of f)
  of_type = formula_induction (λ f. Of f → OfType (type_of f))
      (λ n h. subst OfType (sym (type-Int n)) of_integer)
      (λ name t h. let all : All ((name, t) ∷ carriers t) = subst All (identifiers-Free name t) h in subst OfType (sym (type-Free name t)) all.1)
      (λ i t h. subst OfType (sym (type-Bound i t)) (subst All (identifiers-Bound i t) h))
      (λ o parts t each h. subst OfType (sym (type-Node o parts t)) (all_last (joined (map identifiers parts)) (carriers t) (subst All (identifiers-Node o parts t) h)))
      (λ b types parts t each h.
      subst OfType (sym (type-Bind b types parts t))
      (all_last (joined (map carriers types) ++ joined (map identifiers parts)) (carriers t) (subst All (identifiers-Bind b types parts t) h)))

  -- the identifiers of the whole set of a type are its carrier sets
  of_whole_set : (t : Ty) → OfType t → Of (whole_set t)
  of_whole_set = type_induction (λ t. OfType t → Of (whole_set t))
      (λ a. subst Of (sym whole_set-Int) (node op.Integers [] (ty.Pow ty.Int) tt (of_set ty.Int a)))
      (λ a. subst Of (sym whole_set-Bool) (node op.Booleans [] (ty.Pow ty.Bool) tt (of_set ty.Bool a)))
      (λ name a.
      let set : All ((name, ty.Pow (ty.Given name)) ∷ []) = subst All (carriers-Given name) a in
      subst Of (sym (whole_set-Given name)) (subst All (sym (identifiers-Free name (ty.Pow (ty.Given name)))) (set.0, of_set (ty.Given name) a)))
      (λ t h a.
      let part : OfType t = of_members t a in subst Of (sym (whole_set-Pow t)) (node op.PowerSet (whole_set t ∷ []) (ty.Pow (ty.Pow t)) (h part, tt) (of_set (ty.Pow t) a)))
      (λ t u h k a.
      let parts = of_components t u a in
      subst Of (sym (whole_set-Pair t u)) (node op.Product (whole_set t ∷ whole_set u ∷ []) (ty.Pow (ty.Pair t u)) (h parts.0, (k parts.1, tt)) (of_set (ty.Pair t u) a)))
      (λ a. subst Of (sym whole_set-Truth) (node op.EmptySet [] (ty.Pow ty.Truth) tt (of_set ty.Truth a)))

  has_member : (s : Formula) → Of s → Of (not_empty s)
  has_member s h = differ s (Node op.EmptySet [] (type_of s)) h (node op.EmptySet [] (type_of s) tt (of_type s h))

  an_integer : All (joined (map carriers (ty.Int ∷ [])))
  an_integer = all_both (carriers ty.Int) [] of_integer tt

  is_bounded : (s p : Formula) → Of s → Of p → Of (bounded s p)
  is_bounded s p h a =
      let moved : Of (shifted 2 0 s) = subst All (sym (identifiers-shifted 2 s 0)) h in
      over binder.Exists (ty.Int ∷ []) (quantified binder.ForAll (ty.Int ∷ []) (implication (member bound_x (shifted 2 0 s)) p)) an_integer
      (over binder.ForAll (ty.Int ∷ []) (implication (member bound_x (shifted 2 0 s)) p) an_integer
      (two op.Implies (member bound_x (shifted 2 0 s)) p (two op.Member bound_x (shifted 2 0 s) (of_index 0) moved) a))

  applies : (f e : Formula) (α β : Ty) → Of f → Of e → OfType α → OfType β → Of (conjunction (member e (domain f α)) (member f (partial_functions α β)))
  applies f e α β h k a b =
      two op.And (member e (domain f α)) (member f (partial_functions α β))
      (two op.Member e (domain f α) k (node op.Domain (f ∷ []) (ty.Pow α) (h, tt) (of_set α a)))
      (two op.Member f (partial_functions α β) h
      (node op.PartialFunctions (whole_set α ∷ whole_set β ∷ []) (ty.Pow (ty.Pow (ty.Pair α β))) (of_whole_set α a, (of_whole_set β b, tt)) (of_set (ty.Pow (ty.Pair α β)) (of_set (ty.Pair α β) (of_pair α β a b)))))

  applicable_at : (f e : Formula) (o : Option (Ty × Ty)) → relation (type_of f) ≡ o → Of f → Of e
      → Of (option_map_or (λ r. conjunction (member e (domain f r.0)) (member f (partial_functions r.0 r.1))) o top)
  applicable_at f e None is h k = at_top
  applicable_at f e (Some r) is h k =
      let set : OfType (ty.Pow (ty.Pair r.0 r.1)) = subst OfType (relation_is (type_of f) r is) (of_type f h) in
      let parts = of_components r.0 r.1 (of_members (ty.Pair r.0 r.1) set) in
      applies f e r.0 r.1 h k parts.0 parts.1

  unary_is : (o : Op) (s : Formula) → Of s → Of (unary_condition o s)
  unary_is op.Cardinality s h = one op.Finite s h
  unary_is op.Minimum s h =
      two op.And (not_empty s) (bounded s (at_most bound_b bound_x)) (has_member s h) (is_bounded s (at_most bound_b bound_x) h (two op.LessOrEqual bound_b bound_x (of_index 1) (of_index 0)))
  unary_is op.Maximum s h =
      two op.And (not_empty s) (bounded s (at_most bound_x bound_b)) (has_member s h) (is_bounded s (at_most bound_x bound_b) h (two op.LessOrEqual bound_x bound_b (of_index 0) (of_index 1)))
  unary_is op.GeneralIntersection s h = has_member s h
  unary_is _ s h = at_top

  binary_is : (o : Op) (e f : Formula) → Of e → Of f → Of (binary_condition o e f)
  binary_is op.Divide e f h k = differ f zero k at_zero
  binary_is op.Modulo e f h k = two op.And (at_most zero e) (less zero f) (two op.LessOrEqual zero e at_zero h) (two op.Less zero f at_zero k)
  binary_is op.Power e f h k = two op.And (at_most zero e) (at_most zero f) (two op.LessOrEqual zero e at_zero h) (two op.LessOrEqual zero f at_zero k)
  binary_is op.Apply f e h k = applicable_at f e (relation (type_of f)) refl h k
  binary_is _ e f h k = at_top

  own_is : (o : Op) (parts : List Formula) → AllByRecursion Of parts → Of (own_condition o parts)
  own_is o [] each = at_top
  own_is o (s ∷ []) each = unary_is o s each.0
  own_is o (e ∷ f ∷ []) each = binary_is o e f each.0 each.1.0
  own_is o (p ∷ q ∷ r ∷ parts) each = at_top

  exists_one : (b : Binder) (types : List Ty) (p : Formula) → All (joined (map carriers types)) → Of p → Of (quantified_condition b types p)
  exists_one binder.QuantifiedIntersection types p a h = over binder.Exists types p a h
  exists_one _ types p a h = at_top

  binder_is : (b : Binder) (types : List Ty) (parts conditions : List Formula) → All (joined (map carriers types)) → AllByRecursion Of parts → AllByRecursion Of conditions → Of (binder_condition b types parts conditions)
  binder_is b types (p ∷ []) (l ∷ []) a h each = for_every_at types l (is_top l) a each.0
  binder_is b types (p ∷ e ∷ []) (l ∷ m ∷ []) a h each =
      let inside : Formula = conjoined l (implied p m) in
      conjoined_keeps Of at_top connected (for_every types inside) (quantified_condition b types p)
      (for_every_at types inside (is_top inside) a (conjoined_keeps Of at_top connected l (implied p m) each.0 (implied_keeps Of at_top connected p m h.0 each.1.0)))
      (exists_one b types p a h.0)
  binder_is b types parts conditions a h each = at_top

  abbrev Keeps : Formula → Type 0
  Keeps f = Of f → Of (wd_of f)

  conditions_are : (parts : List Formula) → AllByRecursion Keeps parts → AllByRecursion Of parts → AllByRecursion Of (map wd_of parts)
  conditions_are [] each h = tt
  conditions_are (p ∷ parts) each h = (each.0 h.0, conditions_are parts each.1 h.1)

  -- what holds of all identifiers of a formula holds of all of its L
  pub condition_keeps : (f : Formula) → Keeps f
  condition_keeps = formula_induction Keeps
      (λ n h. subst Of (sym (wd-Int n)) at_top)
      (λ name t h. subst Of (sym (wd-Free name t)) at_top)
      (λ i t h. subst Of (sym (wd-Bound i t)) at_top)
      (λ o parts t each h.
      let of_parts : AllByRecursion Of parts = each_joined parts (all_first (joined (map identifiers parts)) (carriers t) (subst All (identifiers-Node o parts t) h)) in
      subst Of (sym (wd-Node o parts t))
      (conjoined_keeps Of at_top connected (operands_condition o parts (map wd_of parts)) (own_condition o parts)
      (operands_keep Of at_top connected o parts (map wd_of parts) (λ e. of_parts) (conditions_are parts each of_parts)) (own_is o parts of_parts)))
      (λ b types parts t each h.
      let all : All (joined (map carriers types) ++ joined (map identifiers parts) ++ carriers t) = subst All (identifiers-Bind b types parts t) h in
      let inner : All (joined (map carriers types) ++ joined (map identifiers parts)) = all_first (joined (map carriers types) ++ joined (map identifiers parts)) (carriers t) all in
      let of_parts : AllByRecursion Of parts = each_joined parts (all_last (joined (map carriers types)) (joined (map identifiers parts)) inner) in
      subst Of (sym (wd-Bind b types parts t))
      (binder_is b types parts (map wd_of parts) (all_first (joined (map carriers types)) (joined (map identifiers parts)) inner) of_parts (conditions_are parts each of_parts)))

-- each identifier of L is one of the formula
pub wd_has_identifiers : (f : Formula) → AllByRecursion (Contains (identifiers f)) (identifiers (wd_of f))
wd_has_identifiers f = condition_keeps (Contains (identifiers f)) f (recursion_from_All (Contains (identifiers f)) (identifiers f) (All-contains_itself (identifiers f)))

pub ruleset laws = (wd_has_identifiers)
