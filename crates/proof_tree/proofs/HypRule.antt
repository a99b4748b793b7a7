-- The rule `hyp` for a goal, and what it derives.
use Rattle.std.proofs.Common.{◌≡◌, sym, ap, subst, refl, [], ◌∷◌, ◌++◌, Some, append-nil}
use Rattle.std.specs.Prelude.{Contains}
use Rattle.std.specs.List.{AllByRecursion}
use Rattle.formula_core.specs.declared.Formula.{Formula}
use Rattle.formula_core.specs.Identifiers.{identifiers}
use Rattle.formula_core.specs.Sizes.{IsWithinLimits}
use Rattle.formula_core.specs.Typed.{Stands}
use Rattle.rule_table.specs.declared.kind.RuleKind.TheVariants as kind
use Rattle.rule_table.specs.declared.rule.Body.{Body}
use Rattle.rule_table.specs.declared.rule.Rule.{Rule}
use Rattle.rule_table.specs.Rows.{both}
use Rattle.rule_table.specs.Rules.{names_in, sorted_by_name, used_of, IsAllowed, IsRule}
use Rattle.rule_table.proofs.InOrder.{all_in_order, each_in_order, filter_added}
use Rattle.sequent_core.specs.declared.sequent.Sequent.{Sequent}
use Rattle.sequent_core.specs.declared.tree.Tree.TheVariants.{Node}
use Rattle.sequent_core.specs.Sequents.{IsSequent}
use Rattle.sequent_core.specs.Trees.{Meets, Derives, node_count, rule_count}
use Rattle.sequent_core.proofs.Nodes.{all_both, node_applies, closed-Node, reviewed-Node, node_count-Node, rule_count-Node}

-- what `hyp` needs
abbrev pub needs : Formula → Body
needs g = both g (g ∷ []) []

-- its names are those of its two needed formulas
pub used_by_two : (g : Formula) → used_of kind.Hyp (needs g) ≡ sorted_by_name (names_in (g ∷ g ∷ []))
used_by_two g = ap sorted_by_name (filter_added (names_in (g ∷ g ∷ [])))

pub names_twice : (g : Formula) → identifiers g ++ identifiers g ≡ names_in (g ∷ g ∷ [])
names_twice g = ap (λ n. identifiers g ++ n) (sym (append-nil (identifiers g)))

-- the rule for a goal
abbrev pub rule_for : Formula → Rule
rule_for g = record { kind = kind.Hyp; needed_goal = Some g; needed_hyps = g ∷ []; used = used_of kind.Hyp (needs g); antecedents = [] }

module _ (s : Sequent) (sequent : IsSequent s) (within : IsWithinLimits s.goal) (among : Contains s.hyps s.goal) where
  in_env : AllByRecursion (Stands s.env) (names_in (s.goal ∷ s.goal ∷ []))
  in_env =
      let once : AllByRecursion (Stands s.env) (identifiers s.goal) = sequent.goal.0.names in
      all_both (Stands s.env) (identifiers s.goal) (identifiers s.goal ++ []) once (all_both (Stands s.env) (identifiers s.goal) [] once tt)

  is_rule : IsRule (rule_for s.goal)
  is_rule =
      let allowed : IsAllowed s.goal = record { well = sequent.goal.0.well; within = within } in
      record {
        instance = refl;
        sound = record {
          formulas = (allowed, (allowed, tt));
          predicates = (sequent.goal.1, (sequent.goal.1, tt));
          added = tt;
          distinct = tt;
          one_type = each_in_order s.env (names_in (s.goal ∷ s.goal ∷ [])) in_env;
        };
        used = refl;
      }

  meets : Meets (rule_for s.goal) s
  meets =
      record {
        goal = refl;
        hyps = (among, tt);
        used = subst (AllByRecursion (Stands s.env)) (sym (used_by_two s.goal)) (all_in_order (Stands s.env) (names_in (s.goal ∷ s.goal ∷ [])) in_env);
      }

  pub hypothesis_derives : Derives (Node (rule_for s.goal) []) s × (node_count (Node (rule_for s.goal) []) ≡ 1) × (rule_count (Node (rule_for s.goal) []) ≡ 1)
  hypothesis_derives = (
    record {
      applies = node_applies (rule_for s.goal) [] s is_rule meets tt;
      closed = closed-Node (rule_for s.goal) [];
      unreviewed = reviewed-Node (rule_for s.goal) [];
    },
    node_count-Node (rule_for s.goal) [],
    rule_count-Node (rule_for s.goal) [],
  )
