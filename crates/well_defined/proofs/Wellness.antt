-- L of a well formula is a well predicate.
use Rattle.std.proofs.Common.{◌≡◌, ◌∙◌, sym, ap, refl, pos, Bool, true, false, ◌&&◌, List, [], ◌∷◌, ◌++◌, map, reverse, Option, Some, None, IsTrue, if◌then◌else◌}
use Rattle.std.specs.List.{AllByRecursion, list_all}
use Rattle.std.specs.Option.{option_map_or}
use Rattle.formula_core.specs.declared.op.Op.{Op}
use Rattle.formula_core.specs.declared.op.Op.TheVariants as op
use Rattle.formula_core.specs.declared.op.Binder.{Binder}
use Rattle.formula_core.specs.declared.op.Binder.TheVariants as binder
use Rattle.formula_core.specs.declared.row.Row.TheVariants.{Binary}
use Rattle.formula_core.specs.declared.row.BinaryRow.TheVariants.{Connective, Comparison}
use Rattle.formula_core.specs.declared.ty.Ty.{Ty}
use Rattle.formula_core.specs.declared.ty.Ty.TheVariants as ty
use Rattle.formula_core.specs.declared.formula.Formula.{Formula}
use Rattle.formula_core.specs.declared.formula.Formula.TheVariants.{Int, Free, Bound, Node, Bind}
use Rattle.formula_core.specs.Types.{same_type, is_value_type, is_truth, is_integer, relation, if_set, if_relation, is_set_of, is_relation_of}
use Rattle.formula_core.specs.Rows.{row_of}
use Rattle.formula_core.specs.TypeTable.{row_fits, binder_fits}
use Rattle.formula_core.specs.Shifting.{shifted}
use Rattle.formula_core.specs.Wellness.{type_of, may_be_bound, is_well_in, is_well}
use Rattle.formula_core.specs.WholeSets.{whole_set}
use Rattle.formula_core.proofs.Induction.{formula_induction}
use Rattle.formula_core.proofs.RenumberedWell.{shifted_is_well}
use Rattle.formula_core.proofs.Types.{same_type_exact}
use Rattle.formula_core.proofs.Weakening.{first_true, second_true, both_true, well_further}
use Rattle.formula_core.proofs.Wellness.{well-Int, well-Bound, well-Node, well-Bind}
use Rattle.formula_core.proofs.WholeSets.{same_type_refl, whole_set_type, whole_set_is_well}
use Rattle.well_defined.specs.Predicates.{predicate, quantified, top, conjunction, unequal, at_most, less, member, finite, zero, not_empty, bound_b, bound_x, bounded, domain, partial_functions, implication}
use Rattle.well_defined.specs.Connectives.{conjoined, implied, for_every, is_top}
use Rattle.well_defined.specs.Conditions.{unary_condition, binary_condition, own_condition, operands_condition, quantified_condition, binder_condition, wd_of}
use Rattle.well_defined.proofs.Equations.{wd-Int, wd-Free, wd-Bound, wd-Node, wd-Bind}
use Rattle.well_defined.proofs.Connectives.{conjoined_keeps, implied_keeps, operands_keep}
use Rattle.well_defined.proofs.Types.{type-Int, type-Bound, type-Node, type-Bind, truth, integer, truth_exact, integer_exact, if_set_is, at_set, set_of, relation_is, at_if_relation, relation_of, value-Int, value-Pow, value-Pair}

-- a predicate that is well below bound identifiers of these types
abbrev IsPredicate : List Ty → Formula → Type 0
IsPredicate bound f = (is_truth (type_of f) ≡ true) × (is_well_in f bound ≡ true)

same_predicate : (bound : List Ty) (f g : Formula) → f ≡ g → IsPredicate bound g → IsPredicate bound f
same_predicate bound f g e h = (ap (λ f. is_truth (type_of f)) e ∙ h.0, ap (λ f. is_well_in f bound) e ∙ h.1)

module _ (bound : List Ty) where
  one_is : (o : Op) (a : Formula) → is_well_in a bound ≡ true → row_fits (row_of o) (type_of a ∷ []) ty.Truth ≡ true → IsPredicate bound (predicate o (a ∷ []))
  one_is o a w h = (
    ap is_truth (type-Node o (a ∷ []) ty.Truth) ∙ truth,
    well-Node o (a ∷ []) ty.Truth bound ∙ both_true _ _ (both_true _ _ w refl) h,
  )

  two_are : (o : Op) (a b : Formula) → is_well_in a bound ≡ true → is_well_in b bound ≡ true → row_fits (row_of o) (type_of a ∷ type_of b ∷ []) ty.Truth ≡ true
      → IsPredicate bound (predicate o (a ∷ b ∷ []))
  two_are o a b v w h = (
    ap is_truth (type-Node o (a ∷ b ∷ []) ty.Truth) ∙ truth,
    well-Node o (a ∷ b ∷ []) ty.Truth bound ∙ both_true _ _ (both_true _ _ v (both_true _ _ w refl)) h,
  )

  top_is : IsPredicate bound top
  top_is = (ap is_truth (type-Node op.Top [] ty.Truth) ∙ truth, well-Node op.Top [] ty.Truth bound ∙ truth)

  connected : (o : Op) → row_of o ≡ Binary Connective → (p q : Formula) → IsPredicate bound p → IsPredicate bound q → IsPredicate bound (predicate o (p ∷ q ∷ []))
  connected o e p q g h =
      two_are o p q g.1 h.1 (ap (λ r. row_fits r (type_of p ∷ type_of q ∷ []) ty.Truth) e ∙ both_true _ _ (both_true _ _ g.0 h.0) truth)

  compared : (o : Op) → row_of o ≡ Binary Comparison → (e f : Formula) → is_well_in e bound ≡ true → is_integer (type_of e) ≡ true → is_well_in f bound ≡ true → is_integer (type_of f) ≡ true
      → IsPredicate bound (predicate o (e ∷ f ∷ []))
  compared o r e f v i w j = two_are o e f v w (ap (λ r. row_fits r (type_of e ∷ type_of f ∷ []) ty.Truth) r ∙ both_true _ _ (both_true _ _ i j) truth)

  differ : (e f : Formula) → is_well_in e bound ≡ true → is_well_in f bound ≡ true → is_value_type (type_of e) ≡ true → same_type (type_of f) (type_of e) ≡ true → IsPredicate bound (unequal e f)
  differ e f v w value same =
      let equal : IsPredicate bound (predicate op.Equal (e ∷ f ∷ [])) = two_are op.Equal e f v w (both_true _ _ (both_true _ _ value same) truth) in
      one_is op.Not (predicate op.Equal (e ∷ f ∷ [])) equal.1 (both_true _ _ equal.0 truth)

  belongs : (e s : Formula) → is_well_in e bound ≡ true → is_well_in s bound ≡ true → is_value_type (type_of e) ≡ true → is_set_of (type_of s) (type_of e) ≡ true → IsPredicate bound (member e s)
  belongs e s v w value set = two_are op.Member e s v w (both_true _ _ (both_true _ _ value set) truth)

  both : (p q : Formula) → IsPredicate bound p → IsPredicate bound q → IsPredicate bound (conjunction p q)
  both = connected op.And refl

  zero_well : is_well_in zero bound ≡ true
  zero_well = well-Int (pos 0) bound

  zero_integer : is_integer (type_of zero) ≡ true
  zero_integer = ap is_integer (type-Int (pos 0)) ∙ integer

  from_zero : (e : Formula) → is_well_in e bound ≡ true → is_integer (type_of e) ≡ true → IsPredicate bound (at_most zero e)
  from_zero e w i = compared op.LessOrEqual refl zero e zero_well zero_integer w i

  not_zero : (f : Formula) → is_well_in f bound ≡ true → is_integer (type_of f) ≡ true → IsPredicate bound (unequal f zero)
  not_zero f w i =
      let is : type_of f ≡ ty.Int = integer_exact (type_of f) i in
      differ f zero w zero_well (ap is_value_type is ∙ value-Int)
      (ap (λ t. same_type t (type_of f)) (type-Int (pos 0)) ∙ ap (same_type ty.Int) is ∙ same_type_refl ty.Int)

  -- a set of values
  module _ (s : Formula) (α : Ty) (is : type_of s ≡ ty.Pow α) (value : is_value_type α ≡ true) (w : is_well_in s bound ≡ true) where
    of_values : if_set (type_of s) is_value_type ≡ true
    of_values = ap (λ t. if_set t is_value_type) is ∙ at_set α is_value_type ∙ value

    has_member : IsPredicate bound (not_empty s)
    has_member =
        differ s (Node op.EmptySet [] (type_of s)) w (well-Node op.EmptySet [] (type_of s) bound ∙ of_values) (ap is_value_type is ∙ value-Pow α ∙ value)
        (ap (λ t. same_type t (type_of s)) (type-Node op.EmptySet [] (type_of s)) ∙ same_type_refl (type_of s))

    is_finite : IsPredicate bound (finite s)
    is_finite = one_is op.Finite s w (both_true _ _ of_values truth)

  over : (b : Binder) (types : List Ty) (p : Formula) → may_be_bound types ≡ true → binder_fits b (type_of p ∷ []) ty.Truth ≡ true → is_well_in p (reverse types ++ bound) ≡ true
      → IsPredicate bound (quantified b types p)
  over b types p may h w = (
    ap is_truth (type-Bind b types (p ∷ []) ty.Truth) ∙ truth,
    well-Bind b types (p ∷ []) ty.Truth bound ∙ both_true _ _ (both_true _ _ may h) (both_true _ _ w refl),
  )

quantifies : (b : Binder) → binder_fits b (ty.Truth ∷ []) ty.Truth ≡ true → (p : Formula) → is_truth (type_of p) ≡ true → binder_fits b (type_of p ∷ []) ty.Truth ≡ true
quantifies b h p t = ap (λ a. binder_fits b (a ∷ []) ty.Truth) (truth_exact (type_of p) t) ∙ h

for_all_fits : binder_fits binder.ForAll (ty.Truth ∷ []) ty.Truth ≡ true
for_all_fits = both_true _ _ truth truth

exists_fits : binder_fits binder.Exists (ty.Truth ∷ []) ty.Truth ≡ true
exists_fits = both_true _ _ truth truth

an_integer_may : may_be_bound (ty.Int ∷ []) ≡ true
an_integer_may = both_true _ _ value-Int refl

for_every_at : (bound types : List Ty) (p : Formula) (a : Bool) → may_be_bound types ≡ true → IsPredicate (reverse types ++ bound) p → IsPredicate bound (if a then top else quantified binder.ForAll types p)
for_every_at bound types p true may h = top_is bound
for_every_at bound types p false may h = over bound binder.ForAll types p may (quantifies binder.ForAll for_all_fits p h.0) h.1

for_every_is : (bound types : List Ty) (p : Formula) → may_be_bound types ≡ true → IsPredicate (reverse types ++ bound) p → IsPredicate bound (for_every types p)
for_every_is bound types p = for_every_at bound types p (is_top p)

-- min and max
module _ (bound : List Ty) (s : Formula) (is : type_of s ≡ ty.Pow ty.Int) (w : is_well_in s bound ≡ true) where
  abbrev inside : List Ty
  inside = ty.Int ∷ ty.Int ∷ bound

  b_well : is_well_in bound_b inside ≡ true
  b_well = well-Bound 1 ty.Int inside ∙ same_type_refl ty.Int

  x_well : is_well_in bound_x inside ≡ true
  x_well = well-Bound 0 ty.Int inside ∙ same_type_refl ty.Int

  b_integer : is_integer (type_of bound_b) ≡ true
  b_integer = ap is_integer (type-Bound 1 ty.Int) ∙ integer

  x_integer : is_integer (type_of bound_x) ≡ true
  x_integer = ap is_integer (type-Bound 0 ty.Int) ∙ integer

  x_belongs : IsPredicate inside (member bound_x (shifted 2 0 s))
  x_belongs =
      let moved = shifted_is_well (ty.Int ∷ ty.Int ∷ []) s [] bound w in
      belongs inside bound_x (shifted 2 0 s) x_well moved.1 (ap is_value_type (type-Bound 0 ty.Int) ∙ value-Int)
      (ap (λ t. is_set_of t (type_of bound_x)) (moved.0 ∙ is) ∙ ap (is_set_of (ty.Pow ty.Int)) (type-Bound 0 ty.Int) ∙ set_of ty.Int)

  is_bounded : (p : Formula) → IsPredicate inside p → IsPredicate bound (bounded s p)
  is_bounded p h =
      let body : IsPredicate inside (implication (member bound_x (shifted 2 0 s)) p) = connected inside op.Implies refl (member bound_x (shifted 2 0 s)) p x_belongs h in
      let each : IsPredicate (ty.Int ∷ bound) (quantified binder.ForAll (ty.Int ∷ []) (implication (member bound_x (shifted 2 0 s)) p)) =
      over (ty.Int ∷ bound) binder.ForAll (ty.Int ∷ []) (implication (member bound_x (shifted 2 0 s)) p) an_integer_may (quantifies binder.ForAll for_all_fits _ body.0) body.1 in
      over bound binder.Exists (ty.Int ∷ []) (quantified binder.ForAll (ty.Int ∷ []) (implication (member bound_x (shifted 2 0 s)) p)) an_integer_may (quantifies binder.Exists exists_fits _ each.0) each.1

  has_least : IsPredicate bound (conjunction (not_empty s) (bounded s (at_most bound_b bound_x)))
  has_least =
      both bound (not_empty s) (bounded s (at_most bound_b bound_x)) (has_member bound s ty.Int is value-Int w)
      (is_bounded (at_most bound_b bound_x) (compared inside op.LessOrEqual refl bound_b bound_x b_well b_integer x_well x_integer))

  has_greatest : IsPredicate bound (conjunction (not_empty s) (bounded s (at_most bound_x bound_b)))
  has_greatest =
      both bound (not_empty s) (bounded s (at_most bound_x bound_b)) (has_member bound s ty.Int is value-Int w)
      (is_bounded (at_most bound_x bound_b) (compared inside op.LessOrEqual refl bound_x bound_b x_well x_integer b_well b_integer))

-- application
module _ (bound : List Ty) (f e : Formula) (α β : Ty) (is : type_of f ≡ ty.Pow (ty.Pair α β)) (same : type_of e ≡ α) (value : is_value_type (type_of f) ≡ true)
    (v : is_well_in f bound ≡ true) (w : is_well_in e bound ≡ true) where
  values : (is_value_type α && is_value_type β) ≡ true
  values = sym (value-Pair α β) ∙ sym (value-Pow (ty.Pair α β)) ∙ sym (ap is_value_type is) ∙ value

  from_values : is_value_type α ≡ true
  from_values = first_true _ _ values

  to_values : is_value_type β ≡ true
  to_values = second_true (is_value_type α) _ values

  domain_well : is_well_in (domain f α) bound ≡ true
  domain_well =
      well-Node op.Domain (f ∷ []) (ty.Pow α) bound
      ∙ both_true _ _ (both_true _ _ v refl)
      (both_true _ _ value (ap (λ t. if_relation t (λ a b. is_set_of (ty.Pow α) a)) is ∙ at_if_relation α β (λ a b. is_set_of (ty.Pow α) a) ∙ set_of α))

  in_domain : IsPredicate bound (member e (domain f α))
  in_domain =
      belongs bound e (domain f α) w domain_well (ap is_value_type same ∙ from_values)
      (ap (λ t. is_set_of t (type_of e)) (type-Node op.Domain (f ∷ []) (ty.Pow α)) ∙ ap (is_set_of (ty.Pow α)) same ∙ set_of α)

  relations_fit : (a b : Ty) → a ≡ ty.Pow α → b ≡ ty.Pow β
      → if_set a (λ s. is_value_type s && if_set b (λ t. is_value_type t && if_set (ty.Pow (ty.Pow (ty.Pair α β))) (λ r. is_relation_of r s t))) ≡ true
  relations_fit a b first second =
      ap (λ a. if_set a (λ s. is_value_type s && if_set b (λ t. is_value_type t && if_set (ty.Pow (ty.Pow (ty.Pair α β))) (λ r. is_relation_of r s t)))) first
      ∙ at_set α (λ s. is_value_type s && if_set b (λ t. is_value_type t && if_set (ty.Pow (ty.Pow (ty.Pair α β))) (λ r. is_relation_of r s t)))
      ∙ both_true _ _ from_values
      (ap (λ b. if_set b (λ t. is_value_type t && if_set (ty.Pow (ty.Pow (ty.Pair α β))) (λ r. is_relation_of r α t))) second
      ∙ at_set β (λ t. is_value_type t && if_set (ty.Pow (ty.Pow (ty.Pair α β))) (λ r. is_relation_of r α t))
      ∙ both_true _ _ to_values (at_set (ty.Pow (ty.Pair α β)) (λ r. is_relation_of r α β) ∙ relation_of α β))

  functions_well : is_well_in (partial_functions α β) bound ≡ true
  functions_well =
      well-Node op.PartialFunctions (whole_set α ∷ whole_set β ∷ []) (ty.Pow (ty.Pow (ty.Pair α β))) bound
      ∙ both_true _ _
      (both_true _ _ (well_further (whole_set α) [] bound (whole_set_is_well α from_values)) (both_true _ _ (well_further (whole_set β) [] bound (whole_set_is_well β to_values)) refl))
      (relations_fit (type_of (whole_set α)) (type_of (whole_set β)) (whole_set_type α) (whole_set_type β))

  is_function : IsPredicate bound (member f (partial_functions α β))
  is_function =
      belongs bound f (partial_functions α β) v functions_well value
      (ap (λ t. is_set_of t (type_of f)) (type-Node op.PartialFunctions (whole_set α ∷ whole_set β ∷ []) (ty.Pow (ty.Pow (ty.Pair α β))))
      ∙ ap (is_set_of (ty.Pow (ty.Pow (ty.Pair α β)))) is ∙ set_of (ty.Pow (ty.Pair α β)))

  applies : IsPredicate bound (conjunction (member e (domain f α)) (member f (partial_functions α β)))
  applies = both bound (member e (domain f α)) (member f (partial_functions α β)) in_domain is_function

abbrev application : Formula → Formula → Option (Ty × Ty) → Formula
application f e o = option_map_or (λ r. conjunction (member e (domain f r.0)) (member f (partial_functions r.0 r.1))) o top

applicable_at : (bound : List Ty) (f e : Formula) (t : Ty) (o : Option (Ty × Ty)) → relation (type_of f) ≡ o → is_value_type (type_of f) ≡ true
    → option_map_or (λ r. same_type (type_of e) r.0 && same_type t r.1) o false ≡ true → is_well_in f bound ≡ true → is_well_in e bound ≡ true → IsPredicate bound (application f e o)
applicable_at bound f e t None is value h v w = top_is bound
applicable_at bound f e t (Some r) is value h v w = applies bound f e r.0 r.1 (relation_is (type_of f) r is) (same_type_exact (type_of e) r.0 (first_true _ _ h)) value v w

-- the condition of an operator itself
module _ (bound : List Ty) where
  unary_is : (o : Op) (s : Formula) (t : Ty) → is_well_in s bound ≡ true → row_fits (row_of o) (type_of s ∷ []) t ≡ true → IsPredicate bound (unary_condition o s)
  unary_is op.Cardinality s t w h = let set = if_set_is (type_of s) is_value_type (first_true _ _ h) in is_finite bound s set.0 set.1 set.2 w
  unary_is op.Minimum s t w h =
      let set = if_set_is (type_of s) is_integer (first_true _ _ h) in has_least bound s (set.1 ∙ ap ty.Pow (integer_exact set.0 set.2)) w
  unary_is op.Maximum s t w h =
      let set = if_set_is (type_of s) is_integer (first_true _ _ h) in has_greatest bound s (set.1 ∙ ap ty.Pow (integer_exact set.0 set.2)) w
  unary_is op.GeneralIntersection s t w h =
      let set = if_set_is (type_of s) (λ s. if_set s (λ α. same_type t s)) (second_true (is_value_type (type_of s)) _ h) in
      has_member bound s set.0 set.1 (sym (value-Pow set.0) ∙ sym (ap is_value_type set.1) ∙ first_true _ _ h) w
  unary_is _ s t w h = top_is bound

  binary_is : (o : Op) (e f : Formula) (t : Ty) → is_well_in e bound ≡ true → is_well_in f bound ≡ true → row_fits (row_of o) (type_of e ∷ type_of f ∷ []) t ≡ true
      → IsPredicate bound (binary_condition o e f)
  binary_is op.Divide e f t v w h = not_zero bound f w (second_true (is_integer (type_of e)) _ (first_true _ _ h))
  binary_is op.Modulo e f t v w h =
      let integers : (is_integer (type_of e) && is_integer (type_of f)) ≡ true = first_true _ _ h in
      both bound (at_most zero e) (less zero f) (from_zero bound e v (first_true _ _ integers))
      (compared bound op.Less refl zero f (zero_well bound) (zero_integer bound) w (second_true (is_integer (type_of e)) _ integers))
  binary_is op.Power e f t v w h =
      let integers : (is_integer (type_of e) && is_integer (type_of f)) ≡ true = first_true _ _ h in
      both bound (at_most zero e) (at_most zero f) (from_zero bound e v (first_true _ _ integers)) (from_zero bound f w (second_true (is_integer (type_of e)) _ integers))
  binary_is op.Apply f e t v w h = applicable_at bound f e t (relation (type_of f)) refl (first_true _ _ h) (second_true (is_value_type (type_of f)) _ h) v w
  binary_is _ e f t v w h = top_is bound

  own_is : (o : Op) (parts : List Formula) (t : Ty) → list_all (λ f. is_well_in f bound) parts ≡ true → row_fits (row_of o) (map type_of parts) t ≡ true → IsPredicate bound (own_condition o parts)
  own_is o [] t w h = top_is bound
  own_is o (s ∷ []) t w h = unary_is o s t (first_true _ _ w) h
  own_is o (e ∷ f ∷ []) t w h = binary_is o e f t (first_true _ _ w) (first_true _ _ (second_true (is_well_in e bound) _ w)) h
  own_is o (p ∷ q ∷ r ∷ parts) t w h = top_is bound

  -- the operands of a connective are predicates
  operands_are : (o : Op) (parts : List Formula) (t : Ty) → list_all (λ f. is_well_in f bound) parts ≡ true → row_fits (row_of o) (map type_of parts) t ≡ true → row_of o ≡ Binary Connective
      → AllByRecursion (IsPredicate bound) parts
  operands_are o (p ∷ q ∷ []) t w h e =
      let k : (is_truth (type_of p) && is_truth (type_of q) && is_truth t) ≡ true = ap (λ r. row_fits r (type_of p ∷ type_of q ∷ []) t) (sym e) ∙ h in
      let l : (is_truth (type_of p) && is_truth (type_of q)) ≡ true = first_true _ _ k in (
        (first_true _ _ l, first_true _ _ w),
        ((second_true (is_truth (type_of p)) _ l, first_true _ _ (second_true (is_well_in p bound) _ w)), tt),
      )
  operands_are o [] t w h e = tt
  operands_are o (p ∷ []) t w h e = let never : false ≡ true = ap (λ r. row_fits r (type_of p ∷ []) t) (sym e) ∙ h in cc
  operands_are o (p ∷ q ∷ r ∷ parts) t w h e = let never : false ≡ true = ap (λ row. row_fits row (map type_of (p ∷ q ∷ r ∷ parts)) t) (sym e) ∙ h in cc

-- the condition of a binder
first_part : (b : Binder) (p e t : Ty) → binder_fits b (p ∷ e ∷ []) t ≡ true → is_truth p ≡ true
first_part binder.ForAll p e t h = cc
first_part binder.Exists p e t h = cc
first_part binder.Comprehension p e t h = first_true _ _ (first_true _ _ h)
first_part binder.QuantifiedUnion p e t h = first_true _ _ (first_true _ _ h)
first_part binder.QuantifiedIntersection p e t h = first_true _ _ (first_true _ _ h)

module _ (bound types : List Ty) (may : may_be_bound types ≡ true) where
  abbrev below : List Ty
  below = reverse types ++ bound

  exists_one : (b : Binder) (p : Formula) → IsPredicate below p → IsPredicate bound (quantified_condition b types p)
  exists_one binder.QuantifiedIntersection p h = over bound binder.Exists types p may (quantifies binder.Exists exists_fits p h.0) h.1
  exists_one _ p h = top_is bound

  guarded : (b : Binder) (p l m : Formula) → IsPredicate below p → IsPredicate below l → IsPredicate below m
      → IsPredicate bound (conjoined (for_every types (conjoined l (implied p m))) (quantified_condition b types p))
  guarded b p l m g h k =
      conjoined_keeps (IsPredicate bound) (top_is bound) (connected bound) (for_every types (conjoined l (implied p m))) (quantified_condition b types p)
      (for_every_is bound types (conjoined l (implied p m)) may
      (conjoined_keeps (IsPredicate below) (top_is below) (connected below) l (implied p m) h (implied_keeps (IsPredicate below) (top_is below) (connected below) p m g k)))
      (exists_one b p g)

  binder_is : (b : Binder) (parts conditions : List Formula) (t : Ty) → list_all (λ f. is_well_in f below) parts ≡ true → binder_fits b (map type_of parts) t ≡ true → AllByRecursion (IsPredicate below) conditions
      → IsPredicate bound (binder_condition b types parts conditions)
  binder_is b (p ∷ []) (l ∷ []) t w h each = for_every_is bound types l may each.0
  binder_is b (p ∷ e ∷ []) (l ∷ m ∷ []) t w h each = guarded b p l m (first_part b (type_of p) (type_of e) t h, first_true _ _ w) each.0 each.1.0
  binder_is b parts conditions t w h each = top_is bound

abbrev HasWellCondition : Formula → Type 0
HasWellCondition f = (bound : List Ty) → is_well_in f bound ≡ true → IsPredicate bound (wd_of f)

conditions_are : (bound : List Ty) (parts : List Formula) → AllByRecursion HasWellCondition parts → list_all (λ f. is_well_in f bound) parts ≡ true → AllByRecursion (IsPredicate bound) (map wd_of parts)
conditions_are bound [] each w = tt
conditions_are bound (p ∷ parts) each w = (each.0 bound (first_true _ _ w), conditions_are bound parts each.1 (second_true (is_well_in p bound) _ w))

at_node : (o : Op) (parts : List Formula) (t : Ty) → AllByRecursion HasWellCondition parts → HasWellCondition (Node o parts t)
at_node o parts t each bound h =
    let k : (list_all (λ f. is_well_in f bound) parts && row_fits (row_of o) (map type_of parts) t) ≡ true = sym (well-Node o parts t bound) ∙ h in
    let w : list_all (λ f. is_well_in f bound) parts ≡ true = first_true _ _ k in
    let fit : row_fits (row_of o) (map type_of parts) t ≡ true = second_true (list_all (λ f. is_well_in f bound) parts) _ k in
    same_predicate bound (wd_of (Node o parts t)) (conjoined (operands_condition o parts (map wd_of parts)) (own_condition o parts)) (wd-Node o parts t)
    (conjoined_keeps (IsPredicate bound) (top_is bound) (connected bound) (operands_condition o parts (map wd_of parts)) (own_condition o parts)
    (operands_keep (IsPredicate bound) (top_is bound) (connected bound) o parts (map wd_of parts) (operands_are bound o parts t w fit) (conditions_are bound parts each w))
    (own_is bound o parts t w fit))

at_binder : (b : Binder) (types : List Ty) (parts : List Formula) (t : Ty) → AllByRecursion HasWellCondition parts → HasWellCondition (Bind b types parts t)
at_binder b types parts t each bound h =
    let below : List Ty = reverse types ++ bound in
    let k : (may_be_bound types && binder_fits b (map type_of parts) t && list_all (λ f. is_well_in f below) parts) ≡ true = sym (well-Bind b types parts t bound) ∙ h in
    let a : (may_be_bound types && binder_fits b (map type_of parts) t) ≡ true = first_true _ _ k in
    let w : list_all (λ f. is_well_in f below) parts ≡ true = second_true (may_be_bound types && binder_fits b (map type_of parts) t) _ k in
    same_predicate bound (wd_of (Bind b types parts t)) (binder_condition b types parts (map wd_of parts)) (wd-Bind b types parts t)
    (binder_is bound types (first_true _ _ a) b parts (map wd_of parts) t w (second_true (may_be_bound types) _ a) (conditions_are below parts each w))

condition_is_well : (f : Formula) → HasWellCondition f
condition_is_well = formula_induction HasWellCondition
    (λ n bound h. same_predicate bound (wd_of (Int n)) top (wd-Int n) (top_is bound))
    (λ name t bound h. same_predicate bound (wd_of (Free name t)) top (wd-Free name t) (top_is bound))
    (λ i t bound h. same_predicate bound (wd_of (Bound i t)) top (wd-Bound i t) (top_is bound))
    at_node
    at_binder

-- L of a well formula is well ..
pub wd_is_well : (f : Formula) → IsTrue (is_well f) → IsTrue (is_well (wd_of f))
wd_is_well f h = (condition_is_well f [] h).1

-- .. and a predicate
pub wd_is_predicate : (f : Formula) → IsTrue (is_well f) → type_of (wd_of f) ≡ ty.Truth
wd_is_predicate f h = truth_exact (type_of (wd_of f)) (condition_is_well f [] h).0

pub ruleset laws = (wd_is_well, wd_is_predicate)
