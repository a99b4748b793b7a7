-- Obligations as they are gathered: until their sequents have more formula nodes than a table may have.
use Rattle.std.specs.Prelude.{ℕ, nat_lt, if◌then◌else◌, ◌+◌, ◌^◌, ◌-◌, List, [], ◌∷◌, ◌++◌, map, sum, min}
use Rattle.formula_core.specs.Sizes.{formula_nodes}
use Rattle.sequent_core.specs.declared.sequent.Obligation.{Obligation}

-- the formula nodes of hypotheses and goal, repeats counted
abbrev pub nodes_of : Obligation → ℕ
nodes_of o = sum (map formula_nodes o.sequent.hyps) + formula_nodes o.sequent.goal

abbrev pub table_nodes : List Obligation → ℕ
table_nodes table = sum (map nodes_of table)

abbrev pub table_limit : ℕ
table_limit = 8388608

-- `nodes` are those counted so far, at most 2 ^ 64 - 1
pub record Gathered : Type 0 where
  pub obligations : List Obligation
  pub nodes : ℕ

-- With one obligation more. One that passes the limit is counted and left out, and those after it aren't looked at.
abbrev pub with_one : Gathered → Obligation → Gathered
with_one g o =
    if nat_lt table_limit g.nodes then g
    else record {
      obligations = if nat_lt table_limit (g.nodes + nodes_of o) then g.obligations else (g.obligations ++ o ∷ []);
      nodes = min (g.nodes + nodes_of o) (2 ^ 64 - 1);
    }

abbrev pub gathered : Gathered → List Obligation → Gathered
gathered g [] = g
gathered g (o ∷ obligations) = gathered (with_one g o) obligations
