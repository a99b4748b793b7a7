-- The rules of quantifiers keep truth.
use Rattle.std.proofs.Common.{Contains, IfSome, List, Some, [], ap, length, map, refl, reverse, subst, sym, true, zip, ℕ, ◌++◌, ◌==◌, ◌∙◌, ◌∷◌, ◌≡◌}
use Rattle.std.proofs.lemmas.Bool.{eqb-true}
use Rattle.std.proofs.lemmas.Slice.Zip.{seconds-zip}
use Rattle.std.specs.List.{AllByRecursion}
use Rattle.formula_core.proofs.Equations.{identifiers-Bind}
use Rattle.formula_core.proofs.Keeping.{all_more, back, both, front}
use Rattle.formula_core.proofs.Types.{same_type_exact}
use Rattle.formula_core.proofs.Weakening.{first_true, second_true}
use Rattle.formula_core.specs.Env.{HasDistinctNames}
use Rattle.formula_core.specs.Formulas.{instantiated, joined}
use Rattle.formula_core.specs.Identifiers.{carriers, identifiers}
use Rattle.formula_core.specs.Shifting.{as_terms}
use Rattle.formula_core.specs.Typed.{Stands}
use Rattle.formula_core.specs.Types.{same_type}
use Rattle.formula_core.specs.Wellness.{type_of}
use Rattle.formula_core.specs.declared.Binder.{Binder}
use Rattle.formula_core.specs.declared.Binder.TheVariants as binder
use Rattle.formula_core.specs.declared.Formula.{Formula}
use Rattle.formula_core.specs.declared.Formula.TheVariants.{Bind}
use Rattle.formula_core.specs.declared.Ty.{Ty}
use Rattle.rule_table.specs.Rows.{all_l, all_r, ex_l, ex_r, have_types, named, new_goal, new_hyp, wd_of_all}
use Rattle.rule_table.specs.Rules.{IsSound}
use Rattle.rule_table.specs.declared.kind.RuleKind.{RuleKind}
use Rattle.rule_table.specs.declared.kind.RuleKind.TheVariants as kind
use Rattle.rule_table.specs.declared.rule.Body.{Body}
use Rattle.sequent_core.specs.declared.sequent.Sequent.{Sequent}
use Rattle.meanings.specs.Denotations.{AreTrue, Assignment, holds}
use Rattle.meanings.specs.Interpretations.{NamesCarriers}
use Rattle.meanings.specs.Operations.{truth_value}
use Rattle.meanings.specs.Universes.{Valuation, Universe}
use Rattle.meanings.specs.Values.{sort}
use Rattle.meanings.proofs.Closed.{denotation-closed}
use Rattle.meanings.proofs.Fitting.{IsWellIn, OfEach, named_below, well_below}
use Rattle.meanings.proofs.Lists.{all_contained}
use Rattle.meanings.proofs.Quantifiers.{every_of_holds, every_of_tells, some_of_holds, some_of_tells, sorts_are}
use Rattle.meanings.proofs.Truths.{true-Exists, true-ForAll, true_in}
use Rattle.meanings.proofs.Types.{type-Bind}
use Rattle.true_rules.proofs.Derivation.{IsLeftGood}
use Rattle.true_rules.proofs.Instances.{IsClosed, have_sorts, instance_true, value_of}
use Rattle.true_rules.proofs.NewNames.{AreNew, Identifiers, IsNamed, at_new, instance_named, left_named, renewed, same_meaning, still_sets, still_true}
use Rattle.true_rules.proofs.Rows.{IsLeft, IsWellPredicate, Row, True, after, at_binder, each_made, if_so, keeping, none_after, terms_well, told}
use Rattle.true_rules.specs.Validity.{Satisfies}

types_are : (terms : List Formula) (own : List Ty) → have_types terms own ≡ true → map type_of terms ≡ own
types_are [] [] h = refl
types_are [] (t ∷ own) h = absurd cc
types_are (e ∷ terms) [] h = absurd cc
types_are (e ∷ terms) (t ∷ own) h =
    let rest = types_are terms own (second_true (same_type (type_of e) t) _ h) in
    λ i. same_type_exact (type_of e) t (first_true _ _ h) i ∷ rest i

-- with terms
module _ {carrier : List ℕ → Type 0} (U : Universe carrier) (env : Identifiers) (names : Valuation carrier) where
  -- the terms' values have the sorts of a binder's identifiers, and at them its body is the instance
  at_terms : (terms : List Formula) → AllByRecursion (λ e. IsWellIn e []) terms → (own : List Ty)
      → have_types terms own ≡ true
      → (b : Binder) (p : Formula) (t : Ty) → IsWellPredicate (Bind b own (p ∷ []) t)
      → (sorts_are U (map (value_of U names) terms) ≡ map sort own)
      × (holds U names (instantiated terms 0 p) ≡ true_in U names p (reverse (map (value_of U names) terms) ++ []))
  at_terms terms well own have b p t is =
      let types = types_are terms own have in
      let closed = all_more (λ e. IsWellIn e []) (IsClosed U names)
      (λ e h σ. denotation-closed U names e σ h) terms well in
      let here = instance_true U names terms closed own types p (well_below b own (p ∷ []) t [] is.0).0 in
      (have_sorts U names terms ∙ ap (map sort) types, here)

  pub row-all_l : (terms : List Formula) (h : Formula) → IfSome (all_l terms h) (Row U names env (kind.AllL terms))
  row-all_l terms h = at_binder _ binder.ForAll h _ (λ own p t is. if_so _ (have_types terms own) _ (λ have.
      keeping U names (none_after (wd_of_all terms) _ refl) (λ sound named g goal hyps left.
      let all : IsWellPredicate (Bind binder.ForAll own (p ∷ []) t) =
      subst IsWellPredicate is (sound.formulas.0.well, sound.predicates.0) in
      let at = at_terms terms (terms_well (kind.AllL terms) _ sound) own have binder.ForAll p t all in
      let held = sym (true-ForAll U names t (sym (type-Bind binder.ForAll own (p ∷ []) t) ∙ all.1) [] own p)
      ∙ subst (True U names) is hyps.0 in
      let here = every_of_tells U (map sort own) [] (true_in U names p) held (map (value_of U names) terms) at.0 in
      let rest = after (IsLeft U names g) (wd_of_all terms) _ left in rest.0 (at.1 ∙ here, tt))))

  pub row-ex_r : (terms : List Formula) (g : Formula) → IfSome (ex_r terms g) (Row U names env (kind.ExR terms))
  row-ex_r terms g = at_binder _ binder.Exists g _ (λ own p t is. if_so _ (have_types terms own) _ (λ have.
      keeping U names (none_after (wd_of_all terms) _ refl) (λ sound named goal same hyps left.
      let some : IsWellPredicate (Bind binder.Exists own (p ∷ []) t) =
      subst IsWellPredicate is (sound.formulas.0.well, sound.predicates.0) in
      let at = at_terms terms (terms_well (kind.ExR terms) _ sound) own have binder.Exists p t some in
      let rest = after (IsLeft U names goal) (wd_of_all terms) _ left in let held = sym at.1 ∙ rest.0 tt in
      subst (True U names) (sym is ∙ same)
      (true-Exists U names t (sym (type-Bind binder.Exists own (p ∷ []) t) ∙ some.1) [] own p
      ∙ some_of_holds U (map sort own) [] (true_in U names p) (map (value_of U names) terms) at.0 held))))

-- with new identifiers: a sequent is good where it is satisfied, if its formulas speak of the names of its environment
abbrev pub Good : {carrier : List ℕ → Type 0} → Universe carrier → Sequent → Type 0
Good U s = IsNamed s → Satisfies U s

named_types : (names : List (List ℕ)) (types : List Ty) → IfSome (named names types) (λ ids. map (λ x. x.1) ids ≡ types)
unfolding named
named_types names types = if_so _ (length names == length types) (Some (zip names types))
    (λ e. seconds-zip names types (sym (eqb-true (length names) (length types) e)))

carriers_each : (P : List ℕ × Ty → Type 0) (ids : Identifiers)
    → AllByRecursion P (joined (map carriers (map (λ x. x.1) ids)))
    → AllByRecursion (λ x. AllByRecursion P (carriers x.1)) ids
carriers_each P [] h = tt
carriers_each P (x ∷ ids) h =
    let others = joined (map carriers (map (λ x. x.1) ids)) in
    (front P (carriers x.1) others h, carriers_each P ids (back P (carriers x.1) others h))

-- a well binder, whose identifiers are named by new ones
pub record IsNewlyNamed (s : Sequent) (b : Binder) (own : List Ty) (p : Formula) (t : Ty) (ids : Identifiers)
    : Type 0 where
  pub types : map (λ x. x.1) ids ≡ own
  pub distinct : HasDistinctNames ids
  pub new : AreNew s.env ids
  pub well : IsWellIn (Bind b own (p ∷ []) t) []
  pub named : OfEach (Stands s.env) (Bind b own (p ∷ []) t)

module _ {carrier : List ℕ → Type 0} (U : Universe carrier) (s : Sequent) (named_s : IsNamed s) where
  -- what a kind keeps that adds names
  abbrev pub NewRow : RuleKind → Body → Type 0
  NewRow k b = IfSome b.goal (λ g. g ≡ s.goal) → AllByRecursion (Contains s.hyps) b.hyps → IsSound k b
      → AllByRecursion (IsLeftGood (Good U) s) b.antecedents → Satisfies U s

  module _ (b : Binder) (own : List Ty) (p : Formula) (t : Ty) (ids : Identifiers)
      (at : IsNewlyNamed s b own p t ids) where
    sets_stand : AllByRecursion (λ x. AllByRecursion (Stands s.env) (carriers x.1)) ids
    sets_stand =
        let types = joined (map carriers own) in let inner = joined (map identifiers (p ∷ [])) in
        let all = subst (AllByRecursion (Stands s.env)) (identifiers-Bind b own (p ∷ []) t) at.named in
        carriers_each (Stands s.env) ids
        (subst (λ ts. AllByRecursion (Stands s.env) (joined (map carriers ts))) (sym at.types)
        (front (Stands s.env) types inner (front (Stands s.env) (types ++ inner) (carriers t) all)))

    body_named : OfEach (Stands s.env) p
    body_named = (named_below (Stands s.env) b own (p ∷ []) t at.named).0

    instance : OfEach (Stands (s.env ++ ids)) (instantiated (as_terms ids) 0 p)
    instance = instance_named s.env ids at.distinct at.new sets_stand p body_named

    module _ (names : Valuation carrier) (es : Assignment U) where
      abbrev now : Valuation carrier
      now = renewed U s.env ids names es

      at_values : sorts_are U es ≡ map sort own
          → holds U now (instantiated (as_terms ids) 0 p) ≡ true_in U names p (reverse es ++ [])
      at_values e = at_new U s.env ids names es at.distinct at.new own at.types e p body_named
          (well_below b own (p ∷ []) t [] at.well).0

      -- what the new values leave true in a sequent with these identifiers
      goal_now : (more : List Formula) (goal : Formula) → NamesCarriers U s.env names → AreTrue U names s.hyps
          → Satisfies U (record { env = s.env ++ ids; hyps = s.hyps ++ more; goal = goal }) → AreTrue U now more
          → True U now goal
      goal_now more goal sets hyps satisfied are =
          satisfied now (still_sets U s.env ids names es sets_stand sets)
          (both (True U now) s.hyps more (still_true U s.env ids names es s.hyps named_s.hyps hyps) are)

  pub row-all_r : (new_names : List (List ℕ)) (g : Formula) → IfSome (all_r new_names g) (NewRow kind.AllR)
  row-all_r new_names g = at_binder _ binder.ForAll g _
      (λ own p t is. each_made _ (named new_names own) _ (λ ids have goal hyps sound left names sets held.
      let types = told (λ ids. map (λ x. x.1) ids ≡ own) (named new_names own) ids (named_types new_names own) have in
      let all : IsWellPredicate (Bind binder.ForAll own (p ∷ []) t) =
      subst IsWellPredicate is (sound.formulas.0.well, sound.predicates.0) in
      let here = subst (OfEach (Stands s.env)) (sym goal ∙ is) named_s.goal in
      let at : IsNewlyNamed s binder.ForAll own p t ids =
      record { types = types; distinct = sound.distinct.0; new = left.0.0; well = all.0; named = here } in
      let left_is = left.0.1 (left_named s named_s (new_goal ids p) (instance binder.ForAll own p t ids at, tt)) in
      subst (True U names) (sym is ∙ goal)
      (true-ForAll U names t (sym (type-Bind binder.ForAll own (p ∷ []) t) ∙ all.1) [] own p
      ∙ every_of_holds U (map sort own) [] (true_in U names p)
      (λ es e. sym (at_values binder.ForAll own p t ids at names es e)
      ∙ goal_now binder.ForAll own p t ids at names es [] (instantiated (as_terms ids) 0 p) sets held left_is tt))))

  pub row-ex_l : (new_names : List (List ℕ)) (h : Formula) → IfSome (ex_l new_names h) (NewRow kind.ExL)
  row-ex_l new_names h = at_binder _ binder.Exists h _
      (λ own p t is. each_made _ (named new_names own) _ (λ ids have goal hyps sound left names sets held.
      let types = told (λ ids. map (λ x. x.1) ids ≡ own) (named new_names own) ids (named_types new_names own) have in
      let some : IsWellPredicate (Bind binder.Exists own (p ∷ []) t) =
      subst IsWellPredicate is (sound.formulas.0.well, sound.predicates.0) in
      let here = subst (OfEach (Stands s.env)) is
      (all_contained (OfEach (Stands s.env)) s.hyps h named_s.hyps hyps.0) in
      let at : IsNewlyNamed s binder.Exists own p t ids =
      record { types = types; distinct = sound.distinct.0; new = left.0.0; well = some.0; named = here } in
      let left_is = left.0.1 (left_named s named_s (new_hyp ids p) (instance binder.Exists own p t ids at, tt)) in
      let found = some_of_tells U (map sort own) [] (true_in U names p)
      (sym (true-Exists U names t (sym (type-Bind binder.Exists own (p ∷ []) t) ∙ some.1) [] own p)
      ∙ subst (True U names) is (all_contained (True U names) s.hyps h held hyps.0)) in
      let there = at_values binder.Exists own p t ids at names found.0 found.1 ∙ found.2 in
      sym (ap (truth_value U) (same_meaning U s.env ids names found.0 s.goal [] named_s.goal))
      ∙ goal_now binder.Exists own p t ids at names found.0
      (instantiated (as_terms ids) 0 p ∷ []) s.goal sets held left_is (there, tt)))
