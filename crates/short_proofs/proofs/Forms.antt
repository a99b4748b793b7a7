-- The sequents that are surely proved by logic: the rule of each form fits.
use Rattle.std.proofs.Common.{◌≡◌, ◌∙◌, sym, ap, subst, refl, ℕ, zero, suc, ◌+◌, ◌≤◌, ◌<◌, Bool, true, false, ◌||◌, List, [], ◌∷◌, ◌++◌, length, Option, Some, None, arith, append-nil}
use Rattle.std.specs.List.{AllByRecursion}
use Rattle.std.specs.Option.{option_map_or, option_and_then, option_map}
use Rattle.std.specs.Prelude.{slice_index_or, Contains, IsTrue, is_some, nat_le, ◌&&◌, if◌then◌else◌}
use Rattle.std.proofs.lemmas.Map.Views.{Contains-from_any}
use Rattle.formula_core.specs.declared.Formula.{Formula}
use Rattle.formula_core.specs.declared.Formula.TheViews.{outs-Node}
use Rattle.formula_core.specs.declared.Op.{Op}
use Rattle.formula_core.specs.declared.Op.TheVariants as op
use Rattle.formula_core.specs.declared.Ty.{Ty}
use Rattle.formula_core.specs.declared.Ty.TheOpen.{Truth as TruthF}
use Rattle.formula_core.specs.declared.Ty.TheVariants as ty
use Rattle.formula_core.specs.declared.Ty.TheViews.{rolls-Truth}
use Rattle.formula_core.specs.Identifiers.{identifiers}
use Rattle.formula_core.specs.Rows.{row_of}
use Rattle.formula_core.specs.Same.{same_formula}
use Rattle.formula_core.specs.Sizes.{IsWithinLimits, formula_nodes, formula_height, has_types_within, is_type_within, type_nodes, type_nodes_step}
use Rattle.formula_core.specs.TypeTable.{row_fits}
use Rattle.formula_core.specs.Typed.{Stands, IsPredicateIn}
use Rattle.formula_core.specs.WholeSets.{whole_set}
use Rattle.formula_core.specs.Wellness.{type_of}
use Rattle.formula_core.proofs.Equations.{type_fold, identifiers-Node, formula_nodes-Node, formula_height-Node, has_types_within-Node}
use Rattle.formula_core.proofs.Keeping.{carriers-Truth}
use Rattle.formula_core.proofs.SameFormulas.{same_formula_exact}
use Rattle.formula_core.proofs.Wellness.{well-Node}
use Rattle.well_defined.specs.Predicates.{predicate, top}
use Rattle.well_defined.proofs.Types.{type-Node, truth}
use Rattle.rule_table.specs.declared.kind.RuleKind.TheVariants as kind
use Rattle.rule_table.specs.declared.rule.Antecedent.{Antecedent}
use Rattle.rule_table.specs.declared.rule.Body.{Body}
use Rattle.rule_table.specs.Linear.{is_formula_among}
use Rattle.rule_table.specs.Rows.{backward, forward, both, proves, adds, eq_refl, IsInstance}
use Rattle.rule_table.specs.Rules.{IsSound, rule_of}
use Rattle.rule_table.specs.SetLaws.{member_of_whole}
use Rattle.rule_table.specs.Shapes.{bottom, equal, operands_at, two_of, two_operands}
use Rattle.sequent_core.specs.declared.sequent.Sequent.{Sequent}
use Rattle.sequent_core.specs.declared.tree.Tree.TheVariants.{Node}
use Rattle.sequent_core.specs.Sequents.{IsSequent}
use Rattle.sequent_core.specs.Trees.{extended}
use Rattle.short_proofs.specs.Sure.{IsSmallSequent, is_reflexive}
use Rattle.short_proofs.proofs.Plain.{IsFit, is_sound, is_rule_of, meets, no_names}
use Rattle.short_proofs.proofs.Trees.{FitsPlainly, IsProofOf, proof_alone, proof_above, extended_env}

-- a formula among others is one of them
pub among : (fs : List Formula) (f : Formula) → is_formula_among fs f ≡ true → Contains fs f
among fs f h = Contains-from_any {eq = λ q g. same_formula g q} (λ x y e. sym (same_formula_exact y x e)) f fs h

module _ {X : Type 0} (P : X → Type 0) where
  at_index : (xs : List X) (k : ℕ) (x : X) → AllByRecursion P xs → k < length xs → slice_index_or xs k x ≡ x → P x
  at_index [] k x all lt e = absurd (omega (arith, lt))
  at_index (y ∷ xs) zero x all lt e = subst P e all.0
  at_index (y ∷ xs) (suc k) x all lt e = at_index xs k x all.1 (omega (arith, lt)) e

  pub of_all : (xs : List X) (x : X) → AllByRecursion P xs → Contains xs x → P x
  of_all xs x all h = at_index xs h.0 x all h.1 h.2

type_nodes-Truth : type_nodes ty.Truth ≡ 1
type_nodes-Truth = type_fold type_nodes_step TruthF ty.Truth rolls-Truth

-- ⊤ and ⊥ are predicates everywhere
pub constant_fits : (env : List (List ℕ × Ty)) (o : Op) → row_fits (row_of o) [] ty.Truth ≡ true → IsFit env (predicate o [])
constant_fits env o fit = (
  (
    record {
      well = well-Node o [] ty.Truth [] ∙ fit;
      names = subst (AllByRecursion (Stands env)) (sym (identifiers-Node o [] ty.Truth ∙ carriers-Truth)) tt;
    },
    type-Node o [] ty.Truth,
  ),
  (
    subst (λ n. n ≤ 65536) (sym (formula_nodes-Node o [] ty.Truth)) (omega arith),
    subst (λ n. n ≤ 4096) (sym (formula_height-Node o [] ty.Truth)) (omega arith),
    has_types_within-Node 4096 o [] ty.Truth ∙ ap (λ n. nat_le n 4096 && true) type_nodes-Truth,
  ),
)

pub top_fits : (env : List (List ℕ × Ty)) → IsFit env top
top_fits env = constant_fits env op.Top truth

pub bottom_fits : (env : List (List ℕ × Ty)) → IsFit env bottom
bottom_fits env = constant_fits env op.Bottom truth

-- what an instance of `E = E` is
equal_operands : (e : Formula) → two_operands op.Equal (equal e e) ≡ Some (e, e)
equal_operands e = ap (λ x. option_and_then two_of (operands_at op.Equal x)) (outs-Node op.Equal (e ∷ e ∷ []) ty.Truth)

pub reflexive_instance : (g : Formula) → is_reflexive g ≡ true → IsInstance kind.EqRefl (backward g [])
reflexive_instance g h = go (two_operands op.Equal g) h
  where
    made : (e : Formula) → IsInstance kind.EqRefl (backward (equal e e) [])
    made e = ap (option_and_then (λ x. Some (backward (equal x.0 x.0) []))) (equal_operands e)

    go : (o : Option (Formula × Formula)) → option_map_or (λ p. same_formula g (equal p.0 p.0)) o false ≡ true → IsInstance kind.EqRefl (backward g [])
    go None k = cc
    go (Some p) k = subst (λ f. IsInstance kind.EqRefl (backward f [])) (sym (same_formula_exact g (equal p.0 p.0) k)) (made p.0)

-- a law's right side that can only be ⊤
pub whole_is_top : (g : Formula) → is_some (member_of_whole g) ≡ true → member_of_whole g ≡ Some top
whole_is_top g h = go (two_operands op.Member g) h
  where
    chosen : (b : Bool) → is_some (if b then Some top else None) ≡ true → (if b then Some top else None) ≡ Some top
    chosen true k = refl
    chosen false k = cc

    go : (o : Option (Formula × Formula)) → is_some (option_and_then (λ x. if same_formula x.1 (whole_set (type_of x.0)) then Some top else None) o) ≡ true
        → option_and_then (λ x. if same_formula x.1 (whole_set (type_of x.0)) then Some top else None) o ≡ Some top
    go None k = cc
    go (Some p) k = chosen (same_formula p.1 (whole_set (type_of p.0))) k

module _ (s : Sequent) (is : IsSequent s) (small : IsSmallSequent s) where
  pub goal_fits : IsFit s.env s.goal
  goal_fits = (is.goal, small.goal)

  each_fits : (hs : List Formula) → AllByRecursion (IsPredicateIn s.env) hs → AllByRecursion IsWithinLimits hs → AllByRecursion (IsFit s.env) hs
  each_fits [] a b = tt
  each_fits (h ∷ hs) a b = ((a.0, b.0), each_fits hs a.1 b.1)

  pub hyps_fit : AllByRecursion (IsFit s.env) s.hyps
  hyps_fit = each_fits s.hyps is.hyps small.hyps

  pub hyp_fits : (h : Formula) → Contains s.hyps h → IsFit s.env h
  hyp_fits h c = of_all (IsFit s.env) s.hyps h hyps_fit c

  -- the goal is ⊤
  module _ (h : same_formula s.goal top ≡ true) where
    pub top_sound : IsSound kind.Top (backward s.goal [])
    top_sound = is_sound s kind.Top (backward s.goal []) (goal_fits, tt) (goal_fits, tt) refl tt

    pub top_proof : IsProofOf 1 (Node (rule_of kind.Top (backward s.goal [])) []) s
    top_proof =
        let instance : IsInstance kind.Top (backward s.goal []) = ap (λ g. Some (backward g [])) (sym (same_formula_exact s.goal top h)) in
        proof_alone (rule_of kind.Top (backward s.goal [])) s
        (record {
          rule = is_rule_of s kind.Top (backward s.goal []) (goal_fits, tt) (goal_fits, tt) refl tt instance;
          meets = meets s kind.Top (backward s.goal []) (goal_fits, tt) (goal_fits, tt) refl tt refl tt;
          unreviewed = refl;
          plain = refl;
        }) refl

  -- ⊥ is a hypothesis
  pub bottom_sound : IsSound kind.Bot (forward (bottom ∷ []) [])
  bottom_sound = is_sound s kind.Bot (forward (bottom ∷ []) []) (bottom_fits s.env, tt) (bottom_fits s.env, tt) refl tt

  pub bottom_proof : is_formula_among s.hyps bottom ≡ true → IsProofOf 1 (Node (rule_of kind.Bot (forward (bottom ∷ []) [])) []) s
  bottom_proof h =
      let fit : AllByRecursion (IsFit s.env) (bottom ∷ []) = (bottom_fits s.env, tt) in
      proof_alone (rule_of kind.Bot (forward (bottom ∷ []) [])) s
      (record {
        rule = is_rule_of s kind.Bot (forward (bottom ∷ []) []) fit fit refl tt refl;
        meets = meets s kind.Bot (forward (bottom ∷ []) []) fit fit refl tt tt (among s.hyps bottom h, tt);
        unreviewed = refl;
        plain = refl;
      }) refl

  -- the goal is a hypothesis
  pub hyp_sound : IsSound kind.Hyp (both s.goal (s.goal ∷ []) [])
  hyp_sound = is_sound s kind.Hyp (both s.goal (s.goal ∷ []) []) (goal_fits, (goal_fits, tt)) (goal_fits, (goal_fits, tt)) refl tt

  pub hyp_proof : is_formula_among s.hyps s.goal ≡ true → IsProofOf 1 (Node (rule_of kind.Hyp (both s.goal (s.goal ∷ []) [])) []) s
  hyp_proof h =
      let fit : AllByRecursion (IsFit s.env) (s.goal ∷ s.goal ∷ []) = (goal_fits, (goal_fits, tt)) in
      proof_alone (rule_of kind.Hyp (both s.goal (s.goal ∷ []) [])) s
      (record {
        rule = is_rule_of s kind.Hyp (both s.goal (s.goal ∷ []) []) fit fit refl tt refl;
        meets = meets s kind.Hyp (both s.goal (s.goal ∷ []) []) fit fit refl tt refl (among s.hyps s.goal h, tt);
        unreviewed = refl;
        plain = refl;
      }) refl

  -- the goal is E = E
  pub reflexive_sound : IsSound kind.EqRefl (backward s.goal [])
  reflexive_sound = is_sound s kind.EqRefl (backward s.goal []) (goal_fits, tt) (goal_fits, tt) refl tt

  pub reflexive_proof : is_reflexive s.goal ≡ true → IsProofOf 1 (Node (rule_of kind.EqRefl (backward s.goal [])) []) s
  reflexive_proof h =
      proof_alone (rule_of kind.EqRefl (backward s.goal [])) s
      (record {
        rule = is_rule_of s kind.EqRefl (backward s.goal []) (goal_fits, tt) (goal_fits, tt) refl tt (reflexive_instance s.goal h);
        meets = meets s kind.EqRefl (backward s.goal []) (goal_fits, tt) (goal_fits, tt) refl tt refl tt;
        unreviewed = refl;
        plain = refl;
      }) refl

  -- the goal is a member of the whole set of its type
  module _ (h : is_some (member_of_whole s.goal) ≡ true) where
    abbrev whole_body : Body
    whole_body = backward s.goal (proves top ∷ [])

    abbrev below_whole : Sequent
    below_whole = extended s (proves top)

    top_below : IsFit below_whole.env top
    top_below = top_fits below_whole.env

    pub truth_sound : IsSound kind.Top (backward top [])
    truth_sound = is_sound below_whole kind.Top (backward top []) (top_below, tt) (top_below, tt) refl tt

    pub whole_sound : IsSound (kind.RwGoal 55 []) (backward s.goal (proves top ∷ []))
    whole_sound = is_sound s (kind.RwGoal 55 []) whole_body (goal_fits, (top_fits s.env, tt)) (goal_fits, tt) refl (no_names, tt)

    truth_proof : IsProofOf 1 (Node (rule_of kind.Top (backward top [])) []) below_whole
    truth_proof =
        proof_alone (rule_of kind.Top (backward top [])) below_whole
        (record {
          rule = is_rule_of below_whole kind.Top (backward top []) (top_below, tt) (top_below, tt) refl tt refl;
          meets = meets below_whole kind.Top (backward top []) (top_below, tt) (top_below, tt) refl tt refl tt;
          unreviewed = refl;
          plain = refl;
        }) refl

    pub whole_proof : IsProofOf 2 (Node (rule_of (kind.RwGoal 55 []) (backward s.goal (proves top ∷ []))) (Node (rule_of kind.Top (backward top [])) [] ∷ [])) s
    whole_proof =
        let instance : IsInstance (kind.RwGoal 55 []) whole_body = ap (option_map (λ new. backward s.goal (proves new ∷ []))) (whole_is_top s.goal h) in
        proof_above (rule_of (kind.RwGoal 55 []) whole_body) (proves top) (Node (rule_of kind.Top (backward top [])) []) s 1
        (record {
          rule = is_rule_of s (kind.RwGoal 55 []) whole_body (goal_fits, (top_fits s.env, tt)) (goal_fits, tt) refl (no_names, tt) instance;
          meets = meets s (kind.RwGoal 55 []) whole_body (goal_fits, (top_fits s.env, tt)) (goal_fits, tt) refl (no_names, tt) refl tt;
          unreviewed = refl;
          plain = refl;
        }) refl refl truth_proof
