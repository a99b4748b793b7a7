-- A body that is typed is that of a rule which fits.
use Rattle.std.proofs.Common.{◌≡◌, refl, ℕ, ◌≤◌, Bool, true, false, cond, List, [], ◌∷◌, ◌++◌, map, None}
use Rattle.std.specs.Prelude.{filter, not}
use Rattle.std.specs.List.{AllByRecursion}
use Rattle.formula_core.specs.declared.Formula.{Formula}
use Rattle.formula_core.specs.declared.Ty.{Ty}
use Rattle.formula_core.specs.declared.Ty.TheVariants.{Truth}
use Rattle.formula_core.specs.Env.{HasDistinctNames, type_in}
use Rattle.formula_core.specs.Formulas.{joined}
use Rattle.formula_core.specs.Identifiers.{identifiers}
use Rattle.formula_core.specs.Laws.{IsWithin}
use Rattle.formula_core.specs.Sizes.{IsWithinLimits, type_nodes}
use Rattle.formula_core.specs.Typed.{Stands, IsTypedIn, IsPredicateIn}
use Rattle.formula_core.specs.Wellness.{type_of}
use Rattle.formula_core.proofs.Keeping.{both, all_more}
use Rattle.formula_core.proofs.TypedIn.{typed_more}
use Rattle.rule_table.specs.declared.kind.RuleKind.{RuleKind}
use Rattle.rule_table.specs.declared.rule.Antecedent.{Antecedent}
use Rattle.rule_table.specs.declared.rule.Body.{Body}
use Rattle.rule_table.specs.Rules.{added_by, antecedent_formulas, formulas_of, is_named, names_in, needed_formulas, terms_of, used_of, IsAllowed, IsSound}
use Rattle.rule_table.proofs.InOrder.{all_in_order, each_in_order}
use Rattle.made_rules.proofs.Typed.{Env}

-- What a rule leaves is typed in an environment with the names that it adds, which are new and distinct.
pub record IsLeftIn (env : Env) (b : Body) : Type 0 where
  pub wide : Env
  pub within : IsWithin env wide
  pub outside : (x : List ℕ × Ty) → Stands wide x → is_named (added_by b) x.0 ≡ false → Stands env x
  pub formulas : AllByRecursion (λ a. AllByRecursion (IsTypedIn wide) (antecedent_formulas a)) b.antecedents
  pub distinct : AllByRecursion (λ a. HasDistinctNames a.idents) b.antecedents
  pub fresh : AllByRecursion (λ a. AllByRecursion (λ x. type_in env x.0 ≡ None) a.idents) b.antecedents

module _ (P : Formula → Type 0) where
  all_joined : (left : List Antecedent) → AllByRecursion (λ a. AllByRecursion P (antecedent_formulas a)) left → AllByRecursion P (joined (map antecedent_formulas left))
  all_joined [] h = tt
  all_joined (a ∷ left) h = both P (antecedent_formulas a) _ h.0 (all_joined left h.1)

module _ (env : Env) (k : RuleKind) (b : Body) (left : IsLeftIn env b) (needed : AllByRecursion (IsPredicateIn env) (needed_formulas b)) (terms : AllByRecursion (IsTypedIn env) (terms_of k))
    (sizes : AllByRecursion IsWithinLimits (formulas_of k b)) (types : AllByRecursion (λ x. type_nodes x.1 ≤ 4096) (added_by b)) where
  abbrev wide : Env
  wide = left.wide

  typed : AllByRecursion (IsTypedIn wide) (formulas_of k b)
  typed =
      both (IsTypedIn wide) (needed_formulas b ++ joined (map antecedent_formulas b.antecedents)) (terms_of k)
      (both (IsTypedIn wide) (needed_formulas b) (joined (map antecedent_formulas b.antecedents))
      (all_more (IsPredicateIn env) (IsTypedIn wide) (λ f h. typed_more env wide left.within f h.0) (needed_formulas b) needed)
      (all_joined (IsTypedIn wide) b.antecedents left.formulas))
      (all_more (IsTypedIn env) (IsTypedIn wide) (typed_more env wide left.within) (terms_of k) terms)

  allowed : (fs : List Formula) → AllByRecursion (IsTypedIn wide) fs → AllByRecursion IsWithinLimits fs → AllByRecursion IsAllowed fs
  allowed [] h l = tt
  allowed (f ∷ fs) h l = (record { well = h.0.well; within = l.0 }, allowed fs h.1 l.1)

  stand : (fs : List Formula) → AllByRecursion (IsTypedIn wide) fs → AllByRecursion (Stands wide) (names_in fs)
  stand [] h = tt
  stand (f ∷ fs) h = both (Stands wide) (identifiers f) (names_in fs) h.0.names (stand fs h.1)

  abbrev names : Env
  names = names_in (formulas_of k b)

  pub sound : IsSound k b
  sound = record {
    formulas = allowed (formulas_of k b) typed sizes;
    predicates = all_more (IsPredicateIn env) (λ f. type_of f ≡ Truth) (λ f h. h.1) (needed_formulas b) needed;
    added = types;
    distinct = left.distinct;
    one_type = each_in_order wide names (stand (formulas_of k b) typed);
  }

  abbrev without_added : Env → Env
  without_added xs = filter (λ x. not (is_named (added_by b) x.0)) xs

  one_other : (x : List ℕ × Ty) → Stands wide x → (rest : Env) → AllByRecursion (Stands env) rest → (c : Bool) → is_named (added_by b) x.0 ≡ c
      → AllByRecursion (Stands env) (cond (not c) (x ∷ rest) rest)
  one_other x h rest k true e = k
  one_other x h rest k false e = (left.outside x h e, k)

  others : (xs : Env) → AllByRecursion (Stands wide) xs → AllByRecursion (Stands env) (without_added xs)
  others [] h = tt
  others (x ∷ xs) h = one_other x h.0 (without_added xs) (others xs h.1) (is_named (added_by b) x.0) refl

  pub used_stand : AllByRecursion (Stands env) (used_of k b)
  used_stand = all_in_order (Stands env) (without_added names) (others names (stand (formulas_of k b) typed))
