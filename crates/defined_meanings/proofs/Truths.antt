-- The truth of what a condition is made of.
use Rattle.std.proofs.Common.{Bool, List, None, Option, Some, [], ap, false, fold, map, refl, reverse, subst, sym, true, ℕ, ◌++◌, ◌∙◌, ◌∷◌, ◌≡◌}
use Rattle.std.specs.List.{AllByRecursion}
use Rattle.std.specs.Option.{option_map_or}
use Rattle.std.specs.Prelude.{if◌then◌else◌}
use Rattle.formula_core.proofs.Induction.{formula_induction}
use Rattle.formula_core.proofs.Weakening.{first_true, second_true}
use Rattle.formula_core.specs.Rows.{row_of}
use Rattle.formula_core.specs.Types.{relation}
use Rattle.formula_core.specs.Wellness.{type_of}
use Rattle.formula_core.specs.declared.Binder.{Binder}
use Rattle.formula_core.specs.declared.Binder.TheVariants as binder
use Rattle.formula_core.specs.declared.Formula.{Formula, out-Formula}
use Rattle.formula_core.specs.declared.Formula.TheOpen.{Formula-F, Node as NodeF}
use Rattle.formula_core.specs.declared.Formula.TheVariants.{Bind, Node}
use Rattle.formula_core.specs.declared.Op.{Op}
use Rattle.formula_core.specs.declared.Op.TheVariants as op
use Rattle.formula_core.specs.declared.Ty.{Ty}
use Rattle.formula_core.specs.declared.Ty.TheVariants as ty
use Rattle.formula_core.specs.declared.formula.Formula.TheViews.{outs-Bind, outs-Node, roll-Formula, roll-out-Formula, rolls-Node}
use Rattle.formula_core.specs.declared.row.BinaryRow.TheVariants.{Connective}
use Rattle.formula_core.specs.declared.row.Row.TheVariants.{Binary}
use Rattle.well_defined.proofs.Connectives.{alternative_keeps, conjoined_keeps, implied_keeps, operands_keep}
use Rattle.well_defined.proofs.Equations.{wd-Bind, wd-Bound, wd-Free, wd-Int, wd-Node}
use Rattle.well_defined.specs.Conditions.{binary_condition, binder_condition, operands_condition, own_condition, quantified_condition, unary_condition, wd_of}
use Rattle.well_defined.specs.Connectives.{alternative, conjoined, for_every, implied, is_top, is_top_at}
use Rattle.well_defined.specs.Predicates.{conjunction, disjunction, domain, implication, member, partial_functions, predicate, quantified, top}
use Rattle.meanings.specs.Denotations.{Assignment}
use Rattle.meanings.specs.Universes.{Universe, Valuation}
use Rattle.meanings.specs.Values.{sort}
use Rattle.meanings.proofs.Bools.{implied_to, or_cases}
use Rattle.meanings.proofs.Fitting.{IsWellIn, row_of_well, well_parts}
use Rattle.meanings.proofs.Quantifiers.{every_of_tells, sorts_are}
use Rattle.meanings.proofs.Truths.{true-And, true-ForAll, true-Implies, true-Or, true-Top, true_in}
use Rattle.meanings.proofs.Types.{truth_is}

-- what the test of ⊤ passes is ⊤
abbrev pub IsPlain : Formula → Type 0
IsPlain p = is_top p ≡ true → p ≡ top

plain_node : (o : Op) (parts : List Formula) (t : Ty) → is_top_at (NodeF o parts t) ≡ false → IsPlain (Node o parts t)
plain_node o parts t other h = let k : false ≡ true = sym (ap is_top_at (outs-Node o parts t) ∙ other) ∙ h in absurd cc

plain_bind : (b : Binder) (own : List Ty) (parts : List Formula) (t : Ty) → IsPlain (Bind b own parts t)
plain_bind b own parts t h = let k : false ≡ true = sym (ap is_top_at (outs-Bind b own parts t)) ∙ h in absurd cc

pub plain_top : IsPlain top
plain_top h = refl

top_of_row : (parts : List Formula) (t : Ty) (types : List Ty) → IsWellIn (Node op.Top parts t) types → Node op.Top parts t ≡ top
top_of_row [] t types w = ap (Node op.Top []) (truth_is t (row_of_well op.Top [] t types w))
top_of_row (p ∷ parts) t types w = let k : false ≡ true = row_of_well op.Top (p ∷ parts) t types w in absurd cc

plain_at : (types : List Ty) (x : Formula-F Formula) → IsWellIn (roll-Formula x) types → is_top_at x ≡ true → roll-Formula x ≡ top
plain_at types (NodeF op.Top parts t) w h = rolls-Node op.Top parts t ∙ top_of_row parts t types (subst (λ f. IsWellIn f types) (rolls-Node op.Top parts t) w)
plain_at types x w h = absurd cc

pub well_is_plain : (f : Formula) (types : List Ty) → IsWellIn f types → IsPlain f
well_is_plain f types w h =
    sym (roll-out-Formula f) ∙ plain_at types (out-Formula f) (subst (λ f. IsWellIn f types) (sym (roll-out-Formula f)) w) h

plain_connective : (o : Op) → row_of o ≡ Binary Connective → (p q : Formula) → IsPlain p → IsPlain q → IsPlain (predicate o (p ∷ q ∷ []))
plain_connective op.Top e p q g h = absurd cc
plain_connective op.And e p q g h = plain_node op.And (p ∷ q ∷ []) ty.Truth refl
plain_connective op.Or e p q g h = plain_node op.Or (p ∷ q ∷ []) ty.Truth refl
plain_connective op.Implies e p q g h = plain_node op.Implies (p ∷ q ∷ []) ty.Truth refl
plain_connective op.Equivalent e p q g h = plain_node op.Equivalent (p ∷ q ∷ []) ty.Truth refl
plain_connective _ e p q g h = absurd cc

pub plain_conjoined : (p q : Formula) → IsPlain p → IsPlain q → IsPlain (conjoined p q)
plain_conjoined = conjoined_keeps IsPlain plain_top plain_connective

pub plain_implied : (p q : Formula) → IsPlain p → IsPlain q → IsPlain (implied p q)
plain_implied = implied_keeps IsPlain plain_top plain_connective

pub plain_alternative : (p q : Formula) → IsPlain p → IsPlain q → IsPlain (alternative p q)
plain_alternative = alternative_keeps IsPlain plain_top plain_connective

plain_unary : (o : Op) (s : Formula) → IsPlain (unary_condition o s)
plain_unary op.Cardinality s = plain_node op.Finite (s ∷ []) ty.Truth refl
plain_unary op.Minimum s = plain_node op.And _ ty.Truth refl
plain_unary op.Maximum s = plain_node op.And _ ty.Truth refl
plain_unary op.GeneralIntersection s = plain_node op.Not _ ty.Truth refl
plain_unary _ s = plain_top

plain_application : (f e : Formula) (o : Option (Ty × Ty)) → IsPlain (option_map_or (λ r. conjunction (member e (domain f r.0)) (member f (partial_functions r.0 r.1))) o top)
plain_application f e None = plain_top
plain_application f e (Some r) = plain_node op.And (member e (domain f r.0) ∷ member f (partial_functions r.0 r.1) ∷ []) ty.Truth refl

plain_binary : (o : Op) (e f : Formula) → IsPlain (binary_condition o e f)
plain_binary op.Divide e f = plain_node op.Not _ ty.Truth refl
plain_binary op.Modulo e f = plain_node op.And _ ty.Truth refl
plain_binary op.Power e f = plain_node op.And _ ty.Truth refl
plain_binary op.Apply f e = plain_application f e (relation (type_of f))
plain_binary _ e f = plain_top

pub plain_own : (o : Op) (parts : List Formula) → IsPlain (own_condition o parts)
plain_own o [] = plain_top
plain_own o (s ∷ []) = plain_unary o s
plain_own o (e ∷ f ∷ []) = plain_binary o e f
plain_own o (p ∷ q ∷ r ∷ parts) = plain_top

pub plain_for_every : (own : List Ty) (p : Formula) → IsPlain (for_every own p)
plain_for_every own p = go (is_top p)
  where
    go : (b : Bool) → IsPlain (if b then top else quantified binder.ForAll own p)
    go true = plain_top
    go false = plain_bind binder.ForAll own (p ∷ []) ty.Truth

pub plain_quantified : (b : Binder) (own : List Ty) (p : Formula) → IsPlain (quantified_condition b own p)
plain_quantified binder.QuantifiedIntersection own p = plain_bind binder.Exists own (p ∷ []) ty.Truth
plain_quantified _ own p = plain_top

plain_binder : (b : Binder) (own : List Ty) (parts conditions : List Formula) → IsPlain (binder_condition b own parts conditions)
plain_binder b own (p ∷ []) (l ∷ []) = plain_for_every own l
plain_binder b own (p ∷ e ∷ []) (l ∷ m ∷ []) =
    plain_conjoined (for_every own (conjoined l (implied p m))) (quantified_condition b own p) (plain_for_every own (conjoined l (implied p m))) (plain_quantified b own p)
plain_binder b own _ _ = plain_top

abbrev HasPlainCondition : Formula → Type 0
HasPlainCondition f = (types : List Ty) → IsWellIn f types → IsPlain (wd_of f)

parts_plain : (types : List Ty) (parts : List Formula) → AllByRecursion (λ p. IsWellIn p types) parts → AllByRecursion IsPlain parts
parts_plain types [] w = tt
parts_plain types (p ∷ parts) w = (well_is_plain p types w.0, parts_plain types parts w.1)

conditions_plain : (types : List Ty) (parts : List Formula) → AllByRecursion HasPlainCondition parts → AllByRecursion (λ p. IsWellIn p types) parts → AllByRecursion IsPlain (map wd_of parts)
conditions_plain types [] each w = tt
conditions_plain types (p ∷ parts) each w = (each.0 types w.0, conditions_plain types parts each.1 w.1)

plain_operands : (o : Op) (parts : List Formula) (types : List Ty) → AllByRecursion HasPlainCondition parts → AllByRecursion (λ p. IsWellIn p types) parts
    → IsPlain (operands_condition o parts (map wd_of parts))
plain_operands o parts types each w =
    operands_keep IsPlain plain_top plain_connective o parts (map wd_of parts) (λ e. parts_plain types parts w) (conditions_plain types parts each w)

pub condition_is_plain : (f : Formula) → HasPlainCondition f
condition_is_plain = formula_induction HasPlainCondition
    (λ n types w. subst IsPlain (sym (wd-Int n)) plain_top)
    (λ name t types w. subst IsPlain (sym (wd-Free name t)) plain_top)
    (λ k t types w. subst IsPlain (sym (wd-Bound k t)) plain_top)
    (λ o parts t each types w.
    subst IsPlain (sym (wd-Node o parts t))
    (plain_conjoined (operands_condition o parts (map wd_of parts)) (own_condition o parts) (plain_operands o parts types each (well_parts o parts t types w)) (plain_own o parts)))
    (λ b own parts t each types w. subst IsPlain (sym (wd-Bind b own parts t)) (plain_binder b own parts (map wd_of parts)))

each_plain : (parts : List Formula) → AllByRecursion HasPlainCondition parts
each_plain [] = tt
each_plain (p ∷ parts) = (condition_is_plain p, each_plain parts)

pub conditions_are_plain : (types : List Ty) (parts : List Formula) → AllByRecursion (λ p. IsWellIn p types) parts → AllByRecursion IsPlain (map wd_of parts)
conditions_are_plain types parts w = conditions_plain types parts (each_plain parts) w

pub operands_are_plain : (o : Op) (parts : List Formula) (types : List Ty) → AllByRecursion (λ p. IsWellIn p types) parts → IsPlain (operands_condition o parts (map wd_of parts))
operands_are_plain o parts types w = plain_operands o parts types (each_plain parts) w

module _ {carrier : List ℕ → Type 0} (U : Universe carrier) (names : Valuation carrier) (σ : Assignment U) where
  abbrev T : Formula → Bool
  T f = true_in U names f σ

  plain_true : (p : Formula) → IsPlain p → is_top p ≡ true → T p ≡ true
  plain_true p plain e = ap T (plain e) ∙ true-Top U names ty.Truth refl σ

  pub conjoined_tells : (p q : Formula) → IsPlain p → IsPlain q → T (conjoined p q) ≡ true → (T p ≡ true) × (T q ≡ true)
  conjoined_tells p q p_plain q_plain h = go (is_top p) (is_top q) refl refl h
    where
      go : (a b : Bool) → is_top p ≡ a → is_top q ≡ b → T (if a then q else (if b then p else conjunction p q)) ≡ true → (T p ≡ true) × (T q ≡ true)
      go true b e f h = (plain_true p p_plain e, h)
      go false true e f h = (h, plain_true q q_plain f)
      go false false e f h = let k = sym (true-And U names ty.Truth refl σ p q) ∙ h in (first_true _ _ k, second_true (T p) _ k)

  -- the conjunction of several
  pub all_tell : (conditions : List Formula) (first : Formula) → IsPlain first → AllByRecursion IsPlain conditions → T (fold conjoined first conditions) ≡ true
      → (T first ≡ true) × AllByRecursion (λ l. T l ≡ true) conditions
  all_tell [] first plain each h = (h, tt)
  all_tell (l ∷ conditions) first plain each h =
      let k = all_tell conditions (conjoined first l) (plain_conjoined first l plain each.0) each.1 h in
      let m = conjoined_tells first l plain each.0 k.0 in (m.0, (m.1, k.1))

  pub implied_tells : (p q : Formula) → IsPlain q → T (implied p q) ≡ true → T p ≡ true → T q ≡ true
  implied_tells p q q_plain h t = go (is_top q) (is_top p) refl h
    where
      go : (a b : Bool) → is_top q ≡ a → T (if a then top else (if b then q else implication p q)) ≡ true → T q ≡ true
      go true b e h = plain_true q q_plain e
      go false true e h = h
      go false false e h = implied_to (T p) (T q) (sym (true-Implies U names ty.Truth refl σ p q) ∙ h) t

  pub alternative_tells : (p q : Formula) → IsPlain p → IsPlain q → T (alternative p q) ≡ true → T p ≡ false → T q ≡ true
  alternative_tells p q p_plain q_plain h t = go (is_top p) (is_top q) refl refl h
    where
      go : (a b : Bool) → is_top p ≡ a → is_top q ≡ b → T (if a then top else (if b then top else disjunction p q)) ≡ true → T q ≡ true
      go true b e f h = let k : true ≡ false = sym (plain_true p p_plain e) ∙ t in absurd cc
      go false true e f h = plain_true q q_plain f
      go false false e f h =
          or_cases (T p) (T q) (T q ≡ true) (sym (true-Or U names ty.Truth refl σ p q) ∙ h) (λ k. let m : true ≡ false = sym k ∙ t in absurd cc) (λ k. k)

  pub for_every_tells : (own : List Ty) (p : Formula) → IsPlain p → T (for_every own p) ≡ true
      → (es : Assignment U) → sorts_are U es ≡ map sort own → true_in U names p (reverse es ++ σ) ≡ true
  for_every_tells own p p_plain h es e = go (is_top p) refl h
    where
      go : (a : Bool) → is_top p ≡ a → T (if a then top else quantified binder.ForAll own p) ≡ true → true_in U names p (reverse es ++ σ) ≡ true
      go true f h = ap (λ p. true_in U names p (reverse es ++ σ)) (p_plain f) ∙ true-Top U names ty.Truth refl (reverse es ++ σ)
      go false f h = every_of_tells U (map sort own) σ (true_in U names p) (sym (true-ForAll U names ty.Truth refl σ own p) ∙ h) es e
