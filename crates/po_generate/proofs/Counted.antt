-- How many formula nodes are counted.
use Rattle.std.proofs.Common.{◌≡◌, ◌∙◌, sym, ap, refl, ℕ, ◌+◌, ◌-◌, ◌^◌, ◌<◌, ◌≤◌, ◌⊎◌, inl, inr, true, false, List, [], ◌∷◌, ◌++◌, append_assoc, arith, min, nat_lt, map, subst}
use Rattle.std.proofs.lemmas.List.{append-nil}
use Rattle.std.proofs.lemmas.List.Sums.{sum_by-cons}
use Rattle.std.proofs.lemmas.Bool.Decides.{Decides-ltb}
use Rattle.sequent_core.specs.declared.sequent.Obligation.{Obligation}
use Rattle.po_rules.specs.Gathering.{Gathered, nodes_of, table_nodes, table_limit, with_one, gathered}
use Rattle.po_machine.proofs.Gathering.{full}
use Rattle.po_generate.specs.Laws.{begun_at}

same_counted : (os ps : List Obligation) (n m : ℕ) → os ≡ ps → n ≡ m → (let g : Gathered = record { obligations = os; nodes = n } in g) ≡ record { obligations = ps; nodes = m }
same_counted os ps n m e f = λ i. record { obligations = e i; nodes = f i }

is_less : (a b : ℕ) → a < b → nat_lt a b ≡ true
is_less a b h = (Decides-ltb a b).1 h

not_less : (a b : ℕ) → b ≤ a → nat_lt a b ≡ false
not_less a b h = grind arith

within : (n : ℕ) → n ≤ table_limit → min n (2 ^ 64 - 1) ≡ n
within n h = omega arith

-- one obligation more, where it fits
one_fits : (g : Gathered) (o : Obligation) → g.nodes + nodes_of o ≤ table_limit
    → with_one g o ≡ record { obligations = g.obligations ++ o ∷ []; nodes = g.nodes + nodes_of o }
one_fits g o h =
    let open_yet : nat_lt table_limit g.nodes ≡ false = not_less table_limit g.nodes (omega arith) in
    let fits : nat_lt table_limit (g.nodes + nodes_of o) ≡ false = not_less table_limit (g.nodes + nodes_of o) h in
    rw open_yet (same_counted _ _ _ _ (rw fits refl) (within (g.nodes + nodes_of o) h))

-- and where it does not
one_passes : (g : Gathered) (o : Obligation) → g.nodes ≤ table_limit → table_limit < g.nodes + nodes_of o
    → with_one g o ≡ record { obligations = g.obligations; nodes = min (g.nodes + nodes_of o) (2 ^ 64 - 1) }
one_passes g o open_yet h =
    let first : nat_lt table_limit g.nodes ≡ false = not_less table_limit g.nodes open_yet in
    let passes : nat_lt table_limit (g.nodes + nodes_of o) ≡ true = is_less table_limit (g.nodes + nodes_of o) h in
    rw first (same_counted _ _ _ _ (rw passes refl) refl)

-- nothing is looked at once the limit is passed
pub stopped : (g : Gathered) (rows : List Obligation) → table_limit < g.nodes → g ≡ gathered g rows
stopped g rows h = full g rows (is_less table_limit g.nodes h)

table_more : (o : Obligation) (rows : List Obligation) → table_nodes (o ∷ rows) ≡ nodes_of o + table_nodes rows
table_more o rows = sum_by-cons (λ n. n) (nodes_of o) (map nodes_of rows)

table_none : table_nodes [] ≡ 0
table_none = refl

all_from : (g : Gathered) (rows : List Obligation) → g.nodes + table_nodes rows ≤ table_limit
    → gathered g rows ≡ record { obligations = g.obligations ++ rows; nodes = g.nodes + table_nodes rows }
all_from g [] h = same_counted _ _ _ _ (sym (append-nil g.obligations)) (omega (arith, table_none))
all_from g (o ∷ rows) h =
    let next : Gathered = record { obligations = g.obligations ++ o ∷ []; nodes = g.nodes + nodes_of o } in
    let fits : g.nodes + nodes_of o ≤ table_limit = omega (arith, h, table_more o rows) in
    let rest : next.nodes + table_nodes rows ≤ table_limit = omega (arith, h, table_more o rows) in
    let count : next.nodes + table_nodes rows ≡ g.nodes + table_nodes (o ∷ rows) = omega (arith, table_more o rows) in
    ap (λ k. gathered k rows) (one_fits g o fits) ∙ all_from next rows rest
    ∙ same_counted _ _ _ _ (append_assoc g.obligations (o ∷ []) rows) count

less_or : (a b : ℕ) → (a < b) ⊎ (b ≤ a)
less_or a b = grind arith

too_many_from : (g : Gathered) (rows : List Obligation) → g.nodes ≤ table_limit → table_limit < g.nodes + table_nodes rows
    → (table_limit < (gathered g rows).nodes) × ((gathered g rows).nodes ≤ g.nodes + table_nodes rows)
too_many_from g [] h over = absurd (omega (arith, table_none))
too_many_from g (o ∷ rows) h over = elim (less_or table_limit (g.nodes + nodes_of o)) [
  | inl passes ↦
      let next : Gathered = record { obligations = g.obligations; nodes = min (g.nodes + nodes_of o) (2 ^ 64 - 1) } in
      let more : table_limit < next.nodes = omega (arith, passes) in
      let all : next.nodes ≤ g.nodes + table_nodes (o ∷ rows) = omega (arith, table_more o rows) in
      let same : next ≡ gathered g (o ∷ rows) = stopped next rows more ∙ ap (λ k. gathered k rows) (sym (one_passes g o h passes)) in
      (subst (λ k. table_limit < k.nodes) same more, subst (λ k. k.nodes ≤ g.nodes + table_nodes (o ∷ rows)) same all)
  | inr fits ↦
      let next : Gathered = record { obligations = g.obligations ++ o ∷ []; nodes = g.nodes + nodes_of o } in
      let left : table_limit < next.nodes + table_nodes rows = omega (arith, over, table_more o rows) in
      let more = too_many_from next rows fits left in
      let all : (gathered next rows).nodes ≤ g.nodes + table_nodes (o ∷ rows) = omega (arith, more.1, table_more o rows) in
      let same : gathered next rows ≡ gathered g (o ∷ rows) = ap (λ k. gathered k rows) (sym (one_fits g o fits)) in
      (subst (λ k. table_limit < k.nodes) same more.0, subst (λ k. k.nodes ≤ g.nodes + table_nodes (o ∷ rows)) same all)
]

pub all_gathered : (n : ℕ) (rows : List Obligation) → n + table_nodes rows ≤ table_limit
    → gathered (begun_at n) rows ≡ record { obligations = rows; nodes = n + table_nodes rows }
all_gathered n rows h = all_from (begun_at n) rows h

pub too_many : (n : ℕ) (rows : List Obligation) → n ≤ table_limit → table_limit < n + table_nodes rows
    → (table_limit < (gathered (begun_at n) rows).nodes) × ((gathered (begun_at n) rows).nodes ≤ n + table_nodes rows)
too_many n rows h over = too_many_from (begun_at n) rows h over
