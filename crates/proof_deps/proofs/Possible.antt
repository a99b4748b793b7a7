-- When a sequent can have what was found of a tree.
use Rattle.std.proofs.Common.{◌≡◌, ◌∙◌, ◌↔◌, ⊎_elim, sym, ap, subst, refl, ℕ, Bool, true, List, [], Option, Some, None, IsTrue, IfSome, is_some}
use Rattle.std.specs.Prelude.{Contains, Result, Ok, Err, IfOk, MatchOption, if◌then◌else◌}
use Rattle.std.specs.List.{AllByRecursion}
use Rattle.std.proofs.lemmas.Cmp.{nat_list_eq_equiv}
use Rattle.std.proofs.lemmas.Map.Views.{lookup-from_Contains}
use Rattle.formula_core.specs.declared.Ty.{Ty}
use Rattle.formula_core.specs.declared.Ty.TheVariants.{Truth}
use Rattle.formula_core.specs.declared.Ty.TheViews.{outs-Truth}
use Rattle.formula_core.specs.declared.Op.TheVariants as op
use Rattle.formula_core.specs.declared.Formula.{Formula}
use Rattle.formula_core.specs.declared.memory.OutOfMemory.{OutOfMemory}
use Rattle.formula_core.specs.declared.Formula.TheViews.{outs-Node}
use Rattle.formula_core.specs.Env.{HasDistinctNames, type_in}
use Rattle.formula_core.specs.Identifiers.{carriers, identifiers}
use Rattle.formula_core.specs.Typed.{Stands, IsPredicateIn}
use Rattle.formula_core.specs.Types.{is_value_type, is_truth_at}
use Rattle.formula_core.specs.Wellness.{type_of_step, type_of, is_well}
use Rattle.formula_core.proofs.Equations.{identifiers-Node}
use Rattle.formula_core.proofs.Keeping.{all_more, carriers-Truth}
use Rattle.formula_core.proofs.Wellness.{well-Node}
use Rattle.well_defined.specs.Predicates.{top}
use Rattle.sequent_core.specs.declared.sequent.Sequent.{Sequent}
use Rattle.sequent_core.specs.declared.tree.Tree.{Tree}
use Rattle.sequent_core.specs.Sequents.{IsSequent}
use Rattle.sequent_core.specs.Trees.{goal_or, Applies}
use Rattle.proof_deps.specs.declared.deps.Deps.{Deps}
use Rattle.proof_deps.specs.declared.found.Found.{Found}
use Rattle.proof_deps.specs.Deps.{FitsIn}
use Rattle.proof_deps.specs.Private.{Allows, least_sequent, IsPossible}
use Rattle.proof_deps.proofs.Carried.{Names, at, itself}
use Rattle.proof_deps.proofs.Envs.{type_there, stands_or, apart}
use Rattle.proof_deps.proofs.RuleNames.{Avoids}
use Rattle.proof_deps.proofs.Typed.{part, part_hyps, part_goal, part_used, offers_part, still_applies}

-- where names are distinct each entry stands
entries_stand : (env : Names) → HasDistinctNames env → AllByRecursion (Stands env) env
entries_stand env distinct = all_more (Contains env) (Stands env) (λ y c. lookup-from_Contains nat_list_eq_equiv y.0 y.1 env distinct c) env (itself env)

goal_is : (o : Option Formula) (other : Formula) → IfSome o (λ g. g ≡ goal_or o other)
goal_is None other = tt
goal_is (Some g) other = refl

-- the least sequent has what was found, unless that was impossible
least_allowed : (d : Found) → HasDistinctNames d.used → IsTrue d.possible → AllByRecursion (λ n. type_in d.used n ≡ None) d.fresh.items → Allows d (least_sequent d)
least_allowed d distinct possible fresh = record { possible = possible; goal = goal_is d.goal top; hyps = itself d.hyps.items; used = entries_stand d.used distinct; fresh = fresh }

apart_each : (d : Found) (s : Sequent) → Allows d s → AllByRecursion (λ n. type_in d.used n ≡ None) d.fresh.items
apart_each d s h = all_more (λ n. type_in s.env n ≡ None) (λ n. type_in d.used n ≡ None) (apart s.env d.used h.used) d.fresh.items h.fresh

top_names : identifiers top ≡ []
top_names = identifiers-Node op.Top [] Truth ∙ carriers-Truth

top_type : type_of top ≡ Truth
top_type = ap type_of_step (outs-Node op.Top [] Truth)

top_well : is_well top ≡ true
top_well = well-Node op.Top [] Truth [] ∙ ap is_truth_at outs-Truth

-- Where a tree applies to a sequent, and what was found of it says to which it applies, the least sequent is one.
module _ (d : Found) (tree : Tree) (law : (s : Sequent) → (Allows d s → Applies tree s) × (Applies tree s → Allows d s)) (distinct : HasDistinctNames d.used)
    (s : Sequent) (is : IsSequent s) (applies : Applies tree s) where
  allowed : Allows d s
  allowed = (law s).1 applies

  abbrev w : Sequent
  w = least_sequent d

  w_applies : Applies tree w
  w_applies = (law w).0 (least_allowed d distinct allowed.possible (apart_each d s allowed))

  -- a name that doesn't stand in the least sequent is named nowhere there
  module _ (x : List ℕ × Ty) (there : Stands s.env x) (away : Stands d.used x → ⊥) where
    of_part : Allows d (part x w)
    of_part = (law (part x w)).1 (still_applies x tree s w (part x w) there away (offers_part x w) applies w_applies)

    avoid_hyps : AllByRecursion (Avoids x) d.hyps.items
    avoid_hyps = part_hyps x w d.hyps.items of_part.hyps

    avoid_goal : IfSome d.goal (Avoids x)
    avoid_goal = part_goal x w d.goal of_part.goal

    avoid_used : AllByRecursion (λ y. Contains (carriers y.1) x → ⊥) d.used
    avoid_used = part_used x w d.used of_part.used

  -- what stands in the sequent stands in the least one, unless it is named nowhere there
  stands : (x : List ℕ × Ty) → Stands s.env x → ((Stands d.used x → ⊥) → ⊥) → Stands d.used x
  stands x there named = ⊎_elim (λ h. h) (λ away. absurd (named away)) (stands_or d.used x)

  each_stands : (xs : Names) → AllByRecursion (Stands s.env) xs → ((x : List ℕ × Ty) → Contains xs x → Stands s.env x → (Stands d.used x → ⊥) → ⊥) → AllByRecursion (Stands d.used) xs
  each_stands xs h named = all_more (Contains xs) (Stands d.used) (λ x c. let there = at (Stands s.env) xs x h c in stands x there (named x c there)) xs (itself xs)

  hyp_typed : (f : Formula) → Contains d.hyps.items f → IsPredicateIn d.used f
  hyp_typed f c =
      let p : IsPredicateIn s.env f = at (IsPredicateIn s.env) s.hyps f is.hyps (at (Contains s.hyps) d.hyps.items f allowed.hyps c) in
      (record { well = p.0.well; names = each_stands (identifiers f) p.0.names (λ x named there away. at (Avoids x) d.hyps.items f (avoid_hyps x there away) c named) }, p.1)

  goal_typed : (o : Option Formula) → IfSome o (λ g. g ≡ s.goal) → ((x : List ℕ × Ty) → Stands s.env x → (Stands d.used x → ⊥) → IfSome o (Avoids x)) → IsPredicateIn d.used (goal_or o top)
  goal_typed None e avoid = (record { well = top_well; names = subst (AllByRecursion (Stands d.used)) (sym top_names) tt }, top_type)
  goal_typed (Some g) e avoid =
      let p : IsPredicateIn s.env g = subst (IsPredicateIn s.env) (sym e) is.goal in
      (record { well = p.0.well; names = each_stands (identifiers g) p.0.names (λ x named there away. avoid x there away named) }, p.1)

  name_typed : (y : List ℕ × Ty) → Contains d.used y → AllByRecursion (Stands d.used) (carriers y.1)
  name_typed y c =
      let there : Stands s.env y = at (Stands s.env) d.used y allowed.used c in
      let carried : AllByRecursion (Stands s.env) (carriers y.1) = type_there (λ t. AllByRecursion (Stands s.env) (carriers t)) s.env is.env.carriers y there in
      each_stands (carriers y.1) carried (λ x named stand away. at (λ z. Contains (carriers z.1) x → ⊥) d.used y (avoid_used x stand away) c named)

  least_typed : IsSequent w
  least_typed = record {
    env = record {
      names = distinct;
      types = all_more (Stands s.env) (λ y. IsTrue (is_value_type y.1)) (type_there (λ t. IsTrue (is_value_type t)) s.env is.env.types) d.used allowed.used;
      carriers = all_more (Contains d.used) (λ y. AllByRecursion (Stands d.used) (carriers y.1)) name_typed d.used (itself d.used);
    };
    hyps = all_more (Contains d.hyps.items) (IsPredicateIn d.used) hyp_typed d.hyps.items (itself d.hyps.items);
    goal = goal_typed d.goal allowed.goal avoid_goal;
  }

  pub possible_of : IsPossible d
  possible_of = record { possible = allowed.possible; apart = apart_each d s allowed; typed = least_typed }

-- where it is possible, the tree applies to the least sequent
pub least_applies : (d : Found) (tree : Tree) → ((s : Sequent) → (Allows d s → Applies tree s) × (Applies tree s → Allows d s)) → HasDistinctNames d.used → IsPossible d → Applies tree (least_sequent d)
least_applies d tree law distinct p = (law (least_sequent d)).0 (least_allowed d distinct p.possible p.apart)

-- dependencies with the parts of what was found
pub same_parts : (d : Found) (deps : Deps) → IsTrue d.possible → deps.goal ≡ d.goal → deps.hyps ≡ d.hyps.items → deps.used ≡ d.used → deps.fresh ≡ d.fresh.items → (s : Sequent) → Allows d s ↔ FitsIn deps s
same_parts d deps p g h u f s = (
  λ a. record {
    goal = subst (λ o. IfSome o (λ x. x ≡ s.goal)) (sym g) a.goal;
    hyps = subst (AllByRecursion (Contains s.hyps)) (sym h) a.hyps;
    used = subst (AllByRecursion (Stands s.env)) (sym u) a.used;
    fresh = subst (AllByRecursion (λ n. type_in s.env n ≡ None)) (sym f) a.fresh;
  },
  λ a. record {
    possible = p;
    goal = subst (λ o. IfSome o (λ x. x ≡ s.goal)) g a.goal;
    hyps = subst (AllByRecursion (Contains s.hyps)) h a.hyps;
    used = subst (AllByRecursion (Stands s.env)) u a.used;
    fresh = subst (AllByRecursion (λ n. type_in s.env n ≡ None)) f a.fresh;
  },
)

pub if_some_map : {X : Type 0} (o : Option X) (P Q : X → Type 0) → ((x : X) → P x → Q x) → IfSome o P → IfSome o Q
if_some_map None P Q f h = h
if_some_map (Some x) P Q f h = f x h

-- the needed goal again, from that of the least sequent
pub same_goal : (o r : Option Formula) (b : Bool) (g other : Formula) → b ≡ is_some o → g ≡ goal_or o other → r ≡ (if b then Some g else None) → r ≡ o
same_goal None r b g other e h k = k ∙ ap (λ x. if x then Some g else None) e
same_goal (Some f) r b g other e h k = k ∙ ap (λ x. if x then Some g else None) e ∙ ap Some h

-- what a result that was settled says of the tree
pub deps_from : (r : Result (Option Deps) OutOfMemory) (A : Type 0) (B C : Deps → Type 0) → ((d : Deps) → B d → C d) → IfOk r (λ o. MatchOption o A B) → IfOk r (λ o. IfSome o C)
deps_from (Err e) A B C f h = tt
deps_from (Ok None) A B C f h = tt
deps_from (Ok (Some d)) A B C f h = f d h

pub none_from : (r : Result (Option Deps) OutOfMemory) (A N : Type 0) (B : Deps → Type 0) → (A → N) → ((d : Deps) → B d → N → ⊥) → IfOk r (λ o. MatchOption o A B) → IfOk r (λ o. (o ≡ None) ↔ N)
none_from (Err e) A N B f g h = tt
none_from (Ok None) A N B f g h = (λ e. f h, λ n. refl)
none_from (Ok (Some d)) A N B f g h = (λ e. cc, λ n. absurd (g d h n))
