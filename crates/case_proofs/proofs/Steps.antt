-- One step of the search: from refutations of the ways to one of all.
use Rattle.std.proofs.Common.{◌≡◌, ◌∙◌, sym, ap, subst, ℕ, zero, suc, ◌+◌, ◌*◌, ◌^◌, ◌≤◌, ◌<◌, List, [], ◌∷◌, ◌++◌, length, get_or, take, drop, map, arith}
use Rattle.std.specs.List.{AllByRecursion}
use Rattle.std.specs.Prelude.{Contains}
use Rattle.formula_core.specs.declared.Formula.{Formula, out-Formula}
use Rattle.formula_core.specs.declared.Ty.{Ty}
use Rattle.sequent_core.specs.declared.tree.Tree.{Tree}
use Rattle.sequent_core.proofs.Nodes.{all_both, all_first, all_last}
use Rattle.rule_table.specs.Shapes.{bottom}
use Rattle.case_trees.specs.PrivateProofs.{Refutes}
use Rattle.case_trees.proofs.Fits.{Half}
use Rattle.case_trees.proofs.Refuting.{proves_more}
use Rattle.case_proofs.specs.PrivateRows.{one_tree, two_tree}
use Rattle.case_proofs.specs.PrivateSearch.{formula_of, AreHalfSize, AreHalfSizeSomewhere, IsRefutation}
use Rattle.case_proofs.specs.PrivateWays.{Signed, ways, with_way}
use Rattle.case_proofs.proofs.RowTrees.{ways_fit, Extra, RowFits, row_fits}
use Rattle.case_proofs.proofs.Signs.{drop_more}

pub some_power : (k : ℕ) → 1 ≤ 2 ^ k
some_power zero = omega arith
some_power (suc k) = let h = some_power k in omega (arith, h)

doubled : (k n : ℕ) → k + 1 ≡ n → 2 ^ n ≡ 2 * 2 ^ k
doubled k n e = let s : suc k ≡ n = omega (arith, e) in sym (ap (λ m. 2 ^ m) s) ∙ twice
  where
    twice : 2 ^ suc k ≡ 2 * 2 ^ k
    twice = omega arith

abbrev others : List Signed → ℕ → List Signed
others hyps at = take at hyps ++ drop (at + 1) hyps

module _ (P : Signed → Type 0) where
  -- one of them, and the others
  pub parted : (hyps : List Signed) (at : ℕ) (d : Signed) → at < length hyps → AllByRecursion P hyps → P (get_or hyps at d) × AllByRecursion P (others hyps at)
  parted [] at d lt h = absurd (omega (arith, lt))
  parted (x ∷ hyps) zero d lt h = (h.0, h.1)
  parted (x ∷ hyps) (suc at) d lt h =
      let rest = parted hyps at d (omega (arith, lt)) h.1 in
      (rest.0, subst (λ ys. AllByRecursion P (x ∷ take at hyps ++ ys)) (sym (drop_more x hyps at)) (h.0, rest.1))

  all_with_way : (hyps : List Signed) (at : ℕ) (way : List Signed) → AllByRecursion P (others hyps at) → AllByRecursion P way → AllByRecursion P (with_way hyps at way)
  all_with_way hyps at way h w = all_both P (others hyps at) way h w

module _ (xs : List Formula) where
  abbrev pub Says : Signed → Type 0
  Says y = Contains xs (formula_of y)

  pub there : (ys : List Signed) → AllByRecursion Says ys → AllByRecursion (Contains xs) (map formula_of ys)
  there [] h = tt
  there (y ∷ ys) h = (h.0, there ys h.1)

  pub back : (ys : List Signed) → AllByRecursion (Contains xs) (map formula_of ys) → AllByRecursion Says ys
  back [] h = tt
  back (y ∷ ys) h = (h.0, back ys h.1)

  way_first : (hyps : List Signed) (at : ℕ) (way : List Signed) → AllByRecursion (Contains xs) (map formula_of way ++ map formula_of (others hyps at))
      → AllByRecursion (Contains xs) (map formula_of (with_way hyps at way))
  way_first hyps at way h =
      there (with_way hyps at way) (all_with_way Says hyps at way (back (others hyps at) (all_last (Contains xs) (map formula_of way) (map formula_of (others hyps at)) h)) (back way (all_first (Contains xs) (map formula_of way) (map formula_of (others hyps at)) h)))

  one_first : (hyps : List Signed) (at : ℕ) (x : Signed) → at < length hyps → x ≡ get_or hyps at x → AllByRecursion (Contains xs) (map formula_of hyps)
      → AllByRecursion (Contains xs) (formula_of x ∷ map formula_of (others hyps at))
  one_first hyps at x lt is h = let p = parted Says hyps at x lt (back hyps h) in (subst Says (sym is) p.0, there (others hyps at) p.1)

abbrev pub Closes : List Signed → ℕ → Tree → Type 0
Closes ys n t = (env : List (List ℕ × Ty)) → AreHalfSize env ys → IsRefutation env ys n t

module _ (hyps : List Signed) (at : ℕ) (x : Signed) (lt : at < length hyps) (is : x ≡ get_or hyps at x) where
  module _ (env : List (List ℕ × Ty)) (fit : AreHalfSize env hyps) where
    half : Half env x.0
    half = subst (λ y. Half env y.0) (sym is) (parted (λ y. Half env y.0) hyps at x lt fit).0

    with_fit : (way : List Signed) → AreHalfSize env way → AreHalfSize env (with_way hyps at way)
    with_fit way w = all_with_way (λ y. Half env y.0) hyps at way (parted (λ y. Half env y.0) hyps at x lt fit).1 w

    only_fit : (way : List Signed) → ways x ≡ way ∷ [] → AreHalfSize env (with_way hyps at way)
    only_fit way e = with_fit way (subst (AllByRecursion (AreHalfSize env)) e (ways_fit env x half)).0

    left_fit : (way other : List Signed) → ways x ≡ way ∷ other ∷ [] → AreHalfSize env (with_way hyps at way)
    left_fit way other e = with_fit way (subst (AllByRecursion (AreHalfSize env)) e (ways_fit env x half)).0

    right_fit : (way other : List Signed) → ways x ≡ way ∷ other ∷ [] → AreHalfSize env (with_way hyps at other)
    right_fit way other e = with_fit other (subst (AllByRecursion (AreHalfSize env)) e (ways_fit env x half)).1.0

    moved : (way : List Signed) (n : ℕ) (t : Tree) → Refutes env (map formula_of (with_way hyps at way)) n t → Refutes env (map formula_of way ++ map formula_of (others hyps at)) n t
    moved way n t r = proves_more env (map formula_of (with_way hyps at way)) (map formula_of way ++ map formula_of (others hyps at)) n t bottom (λ xs a. way_first xs hyps at way a) r

    all_of : (m : ℕ) (t : Tree) → Refutes env (formula_of x ∷ map formula_of (others hyps at)) m t → Refutes env (map formula_of hyps) m t
    all_of m t r = proves_more env (formula_of x ∷ map formula_of (others hyps at)) (map formula_of hyps) m t bottom (λ xs a. one_first xs hyps at x lt is a) r

  pub only_fit_somewhere : (way : List Signed) → ways x ≡ way ∷ [] → AreHalfSizeSomewhere hyps → AreHalfSizeSomewhere (with_way hyps at way)
  only_fit_somewhere way e f = (f.0, only_fit f.0 f.1 way e)

  pub left_fit_somewhere : (way other : List Signed) → ways x ≡ way ∷ other ∷ [] → AreHalfSizeSomewhere hyps → AreHalfSizeSomewhere (with_way hyps at way)
  left_fit_somewhere way other e f = (f.0, left_fit f.0 f.1 way other e)

  pub right_fit_somewhere : (way other : List Signed) → ways x ≡ way ∷ other ∷ [] → AreHalfSizeSomewhere hyps → AreHalfSizeSomewhere (with_way hyps at other)
  right_fit_somewhere way other e f = (f.0, right_fit f.0 f.1 way other e)

  pub one_closes : (way : List Signed) (less fuel : ℕ) (t : Tree) → ways x ≡ way ∷ [] → less + 1 ≡ fuel → Closes (with_way hyps at way) less t → Closes hyps fuel (one_tree x t)
  one_closes way less fuel t e f below env fit =
      let r = below env (only_fit env fit way e) in
      let row : RowFits env (out-Formula x.0) x (way ∷ []) = subst (RowFits env (out-Formula x.0) x) e (row_fits env x.0 x.1 (half env fit)) in
      let extra : Extra env (formula_of x) (map formula_of (others hyps at)) r.size (one_tree x t) = row (map formula_of (others hyps at)) r.size t (moved env fit way r.size t r.refutes) in
      let few = r.few in
      let more = extra.1 in
      let power = doubled less fuel f in
      record { size = extra.0; few = omega (arith, few, more, power); refutes = all_of env fit extra.0 (one_tree x t) extra.2 }

  pub two_close : (way other : List Signed) (less fuel : ℕ) (t u : Tree) → ways x ≡ way ∷ other ∷ [] → less + 1 ≡ fuel → Closes (with_way hyps at way) less t → Closes (with_way hyps at other) less u
      → Closes hyps fuel (two_tree x t u)
  two_close way other less fuel t u e f below beside env fit =
      let r = below env (left_fit env fit way other e) in
      let w = beside env (right_fit env fit way other e) in
      let row : RowFits env (out-Formula x.0) x (way ∷ other ∷ []) = subst (RowFits env (out-Formula x.0) x) e (row_fits env x.0 x.1 (half env fit)) in
      let extra : Extra env (formula_of x) (map formula_of (others hyps at)) (r.size + w.size) (two_tree x t u) =
      row (map formula_of (others hyps at)) r.size w.size t u (moved env fit way r.size t r.refutes) (moved env fit other w.size u w.refutes) in
      let few = r.few in
      let little = w.few in
      let more = extra.1 in
      let power = doubled less fuel f in
      record { size = extra.0; few = omega (arith, few, little, more, power); refutes = all_of env fit extra.0 (two_tree x t u) extra.2 }
