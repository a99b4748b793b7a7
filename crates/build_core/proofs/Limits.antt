-- What is gathered of a table, within the limit and beyond it.
use Rattle.std.proofs.Common.{◌≡◌, ◌∙◌, sym, ap, refl, ◌<◌, ◌≤◌, ◌+◌, ◌-◌, ◌^◌, Bool, true, false, cond, List, [], ◌∷◌, ◌++◌, map, min, append_assoc, arith, nat_lt}
use Rattle.std.proofs.lemmas.List.{append-nil}
use Rattle.std.proofs.lemmas.List.Sums.{sum_by-cons}
use Rattle.std.proofs.lemmas.Bool.Decides.{Decides-ltb}
use Rattle.sequent_core.specs.declared.sequent.Obligation.{Obligation}
use Rattle.po_rules.specs.Gathering.{Gathered, nodes_of, table_nodes, table_limit, with_one, gathered}

-- with the comparisons laid out
abbrev one_by : Bool → Bool → Gathered → Obligation → Gathered
one_by a b g o =
    cond a g (record { obligations = cond b g.obligations (g.obligations ++ o ∷ []); nodes = min (g.nodes + nodes_of o) (2 ^ 64 - 1) })

one_is : (g : Gathered) (o : Obligation) → with_one g o ≡ one_by (nat_lt table_limit g.nodes) (nat_lt table_limit (g.nodes + nodes_of o)) g o
one_is g o = refl

one_at_most : (g : Gathered) (o : Obligation) → (with_one g o).nodes ≤ g.nodes + nodes_of o
one_at_most g o = by (nat_lt table_limit g.nodes)
  where
    by : (a : Bool) → (one_by a (nat_lt table_limit (g.nodes + nodes_of o)) g o).nodes ≤ g.nodes + nodes_of o
    by true = omega arith
    by false = omega arith

pub table_cons : (o : Obligation) (os : List Obligation) → table_nodes (o ∷ os) ≡ nodes_of o + table_nodes os
table_cons o os = sum_by-cons (λ x. x) (nodes_of o) (map nodes_of os)

-- never more than there are
pub at_most : (g : Gathered) (xs : List Obligation) → (gathered g xs).nodes ≤ g.nodes + table_nodes xs
at_most g [] = omega arith
at_most g (x ∷ xs) = omega (arith, at_most (with_one g x) xs, one_at_most g x, table_cons x xs)

grows : (g : Gathered) (o : Obligation) → g.nodes < 2 ^ 64 → (with_one g o).nodes < 2 ^ 64 × (g.nodes ≤ (with_one g o).nodes)
grows g o small = by (nat_lt table_limit g.nodes)
  where
    by : (a : Bool) → (one_by a (nat_lt table_limit (g.nodes + nodes_of o)) g o).nodes < 2 ^ 64 × (g.nodes ≤ (one_by a (nat_lt table_limit (g.nodes + nodes_of o)) g o).nodes)
    by true = (small, omega arith)
    by false = (omega arith, omega arith)

at_least : (g : Gathered) (xs : List Obligation) → g.nodes < 2 ^ 64 → g.nodes ≤ (gathered g xs).nodes
at_least g [] small = omega arith
at_least g (x ∷ xs) small = let one = grows g x small in omega (arith, one.1, at_least (with_one g x) xs one.0)

one_fits : (g : Gathered) (o : Obligation) → g.nodes ≤ table_limit → (with_one g o).nodes ≤ table_limit →
    ((with_one g o).obligations ≡ g.obligations ++ o ∷ []) × ((with_one g o).nodes ≡ g.nodes + nodes_of o)
one_fits g o few fits = by (nat_lt table_limit g.nodes) (nat_lt table_limit (g.nodes + nodes_of o)) refl refl fits
  where
    by : (a b : Bool) → nat_lt table_limit g.nodes ≡ a → nat_lt table_limit (g.nodes + nodes_of o) ≡ b → (one_by a b g o).nodes ≤ table_limit →
        ((one_by a b g o).obligations ≡ g.obligations ++ o ∷ []) × ((one_by a b g o).nodes ≡ g.nodes + nodes_of o)
    by true b e f h = let more = (Decides-ltb table_limit g.nodes).0 e in absurd (omega (arith, more, few))
    by false true e f h = let more = (Decides-ltb table_limit (g.nodes + nodes_of o)).0 f in absurd (omega (arith, more, h))
    by false false e f h = (refl, omega (arith, h))

-- all of them, where they fit
pub all_fit : (g : Gathered) (xs : List Obligation) → g.nodes ≤ table_limit → (gathered g xs).nodes ≤ table_limit →
    ((gathered g xs).obligations ≡ g.obligations ++ xs) × ((gathered g xs).nodes ≡ g.nodes + table_nodes xs)
all_fit g [] few fits = (sym (append-nil g.obligations), omega arith)
all_fit g (x ∷ xs) few fits =
    let small : g.nodes < 2 ^ 64 = omega (arith, few) in
    let one = grows g x small in
    let within : (with_one g x).nodes ≤ table_limit = omega (arith, at_least (with_one g x) xs one.0, fits) in
    let here = one_fits g x few within in
    let rest = all_fit (with_one g x) xs within fits in (
      rest.0 ∙ ap (λ os. os ++ xs) here.0 ∙ append_assoc g.obligations (x ∷ []) xs,
      omega (arith, rest.1, here.1, table_cons x xs),
    )
