-- A table whose nodes are counted past the limit is too large.
use Rattle.std.proofs.Common.{◌≡◌, ◌∙◌, sym, ap, subst, refl, ℕ, ◌+◌, ◌-◌, ◌^◌, ◌<◌, ◌≤◌, Bool, true, false, List, [], ◌∷◌, ◌++◌, map, sum, min, arith}
use Rattle.std.specs.Prelude.{nat_lt, if◌then◌else◌}
use Rattle.std.proofs.Math.Nat.{min-le_left}
use Rattle.std.proofs.lemmas.List.Sums.{sum_by-cons}
use Rattle.sequent_core.specs.declared.Obligation.{Obligation}
use Rattle.po_rules.specs.Gathering.{nodes_of, table_nodes, table_limit, Gathered, with_one, gathered}
use Rattle.build_core.specs.Tables.{counted_nodes}

within_one : (g : Gathered) (o : Obligation) → (with_one g o).nodes ≤ g.nodes + nodes_of o
within_one g o =
    elim (nat_lt table_limit g.nodes) as (λ b. (if b then g else record {
      obligations = if nat_lt table_limit (g.nodes + nodes_of o) then g.obligations else (g.obligations ++ o ∷ []);
      nodes = min (g.nodes + nodes_of o) (2 ^ 64 - 1);
    }).nodes ≤ g.nodes + nodes_of o) [ true ↦ omega arith | false ↦ min-le_left (g.nodes + nodes_of o) (2 ^ 64 - 1) ]

within_all : (g : Gathered) (table : List Obligation) → (gathered g table).nodes ≤ g.nodes + table_nodes table
within_all g [] = omega arith
within_all g (o ∷ table) =
    let more : table_nodes (o ∷ table) ≡ nodes_of o + table_nodes table = sum_by-cons (λ n. n) (nodes_of o) (map nodes_of table) in
    omega (arith, within_one g o, within_all (with_one g o) table, more)

pub too_large : (table : List Obligation) → table_limit < counted_nodes table → table_nodes table ≤ table_limit → ⊥
too_large table counted within = omega (arith, within_all (record { obligations = []; nodes = 0 }) table, counted, within)
