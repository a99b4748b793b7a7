-- From the sequent to the formulas that are said of it, and back.
use Rattle.std.proofs.Common.{◌≡◌, refl, ℕ, ◌+◌, ◌*◌, ◌^◌, ◌≤◌, Bool, true, false, List, [], ◌∷◌, ◌++◌, map, arith}
use Rattle.std.specs.List.{AllByRecursion}
use Rattle.std.specs.Prelude.{Contains, IsTrue}
use Rattle.std.proofs.lemmas.List.Sums.{sum_by-cons}
use Rattle.std.proofs.lemmas.List.Elements.{Contains-append_right}
use Rattle.formula_core.specs.declared.Formula.{Formula}
use Rattle.formula_core.specs.declared.Ty.{Ty}
use Rattle.formula_core.specs.Typed.{IsPredicateIn}
use Rattle.rule_table.specs.Shapes.{negation, bottom}
use Rattle.sequent_core.specs.declared.sequent.Sequent.{Sequent}
use Rattle.sequent_core.specs.declared.tree.Tree.{Tree}
use Rattle.sequent_core.specs.Provers.{IsGoodTree}
use Rattle.sequent_core.specs.Sequents.{IsSequent}
use Rattle.sequent_core.specs.Trees.{rule_count}
use Rattle.sequent_core.proofs.Nodes.{all_both, all_first, all_last}
use Rattle.formula_readings.specs.Readings.{truth_by}
use Rattle.case_trees.specs.PrivateProofs.{IsProofOf, Refutes}
use Rattle.case_trees.specs.Trees.{ContraIsSound, contra_tree}
use Rattle.case_trees.proofs.Fits.{Half, fit, fit_negation, fit_bottom}
use Rattle.case_trees.proofs.Refuting.{HasAll, proves_more, contra_proves}
use Rattle.case_trees.proofs.Sound.{contra_sound}
use Rattle.case_proofs.specs.Cases.{connectives, connectives_of, IsHalfSize, FollowsByCases}
use Rattle.case_proofs.specs.PrivateSearch.{formula_of, AreHalfSize}
use Rattle.case_proofs.specs.PrivateWays.{Signed, signed, to_break, HoldsAs, IsSatisfiable}
use Rattle.case_proofs.proofs.Signs.{break_both}
use Rattle.case_proofs.proofs.Steps.{Says, there, Closes}

abbrev pub hypotheses : List Formula → List Signed
hypotheses hs = map (λ h. signed h true) hs

-- the hypotheses are said to be true, and the goal to be false
abbrev pub root : Sequent → List Signed
root s = hypotheses s.hyps ++ signed s.goal false ∷ []

hypotheses_break : (hs : List Formula) → to_break (hypotheses hs) ≡ connectives_of hs
hypotheses_break [] = refl
hypotheses_break (h ∷ hs) = let rest = hypotheses_break hs in let whole = sum_by-cons (λ n. n) (connectives h) (map connectives hs) in omega (arith, rest, whole)

pub root_break : (s : Sequent) → to_break (root s) ≡ connectives_of s.hyps + connectives s.goal
root_break s =
    let both = break_both (hypotheses s.hyps) (signed s.goal false ∷ []) in
    let left = hypotheses_break s.hyps in
    omega (arith, both, left)

-- they are of half the size in the sequent's environment
half : (env : List (List ℕ × Ty)) (f : Formula) → IsPredicateIn env f → IsHalfSize f → Half env f
half env f p h = record { predicate = p; nodes = h.nodes; height = h.height; types = h.types }

hypotheses_half : (env : List (List ℕ × Ty)) (hs : List Formula) → AllByRecursion (IsPredicateIn env) hs → AllByRecursion IsHalfSize hs → AreHalfSize env (hypotheses hs)
hypotheses_half env [] p h = tt
hypotheses_half env (f ∷ hs) p h = (half env f p.0 h.0, hypotheses_half env hs p.1 h.1)

pub root_half : (s : Sequent) → IsSequent s → AllByRecursion IsHalfSize s.hyps → IsHalfSize s.goal → AreHalfSize s.env (root s)
root_half s is hyps goal =
    all_both (λ x. Half s.env x.0) (hypotheses s.hyps) (signed s.goal false ∷ []) (hypotheses_half s.env s.hyps is.hyps hyps) (half s.env s.goal is.goal goal, tt)

-- a reading that makes them all so refutes the sequent
true_in : (atom : Formula → Bool) (hs : List Formula) → AllByRecursion (HoldsAs atom) (hypotheses hs) → AllByRecursion (λ h. IsTrue (truth_by atom h)) hs
true_in atom [] a = tt
true_in atom (h ∷ hs) a = (a.0, true_in atom hs a.1)

pub root_open : (s : Sequent) → IsSatisfiable (root s) → FollowsByCases s → ⊥
root_open s sat follows =
    let hyps = true_in sat.0 s.hyps (all_first (HoldsAs sat.0) (hypotheses s.hyps) (signed s.goal false ∷ []) sat.1) in
    let denied : truth_by sat.0 s.goal ≡ false = (all_last (HoldsAs sat.0) (hypotheses s.hyps) (signed s.goal false ∷ []) sat.1).0 in
    let shown : truth_by sat.0 s.goal ≡ true = follows sat.0 hyps in
    absurd (cc)

pub root_sound : (s : Sequent) → IsSequent s → IsHalfSize s.goal → ContraIsSound s.goal
root_sound s is goal =
    let h = half s.env s.goal is.goal goal in
    contra_sound s.env s.goal (fit s.env s.goal h) (fit_negation s.env s.goal h) (fit_bottom s.env)

-- a list has what it has
own : (xs : List Formula) → HasAll xs xs
own [] = tt
own (x ∷ xs) = ((0, omega arith, refl), later xs (own xs))
  where
    later : (ys : List Formula) → HasAll xs ys → HasAll (x ∷ xs) ys
    later [] h = tt
    later (y ∷ ys) h = (Contains-append_right (x ∷ []) xs y h.0, later ys h.1)

said_hypotheses : (xs hs : List Formula) → HasAll xs hs → AllByRecursion (Says xs) (hypotheses hs)
said_hypotheses xs [] h = tt
said_hypotheses xs (f ∷ hs) h = (h.0, said_hypotheses xs hs h.1)

denied_first : (s : Sequent) (xs : List Formula) → HasAll xs (negation s.goal ∷ s.hyps) → AllByRecursion (Contains xs) (map formula_of (root s))
denied_first s xs h = there xs (root s) (all_both (Says xs) (hypotheses s.hyps) (signed s.goal false ∷ []) (said_hypotheses xs s.hyps h.1) (h.0, tt))

-- what refutes them proves the sequent by one rule more, by at most 10 · 2^fuel − 7 rules together
module _ (s : Sequent) (fuel : ℕ) (t : Tree) (is : IsSequent s) (hyps : AllByRecursion IsHalfSize s.hyps) (goal : IsHalfSize s.goal) (closes : Closes (root s) fuel t) where
  root_proof : (n : ℕ) × (n + 7 ≤ 10 * 2 ^ fuel) × IsProofOf n (contra_tree s.goal t) s
  root_proof =
      let r = closes s.env (root_half s is hyps goal) in
      let h = half s.env s.goal is.goal goal in
      let turned : Refutes s.env (negation s.goal ∷ s.hyps) r.size t = proves_more s.env (map formula_of (root s)) (negation s.goal ∷ s.hyps) r.size t bottom (λ xs a. denied_first s xs a) r.refutes in
      let proof : IsProofOf (r.size + 1) (contra_tree s.goal t) s =
      contra_proves s.env s.goal s.hyps r.size t (fit s.env s.goal h) (fit_negation s.env s.goal h) (fit_bottom s.env) turned s refl (own s.hyps) refl in
      let few = r.few in
      (r.size + 1, omega (arith, few), proof)

  pub root_few : rule_count (contra_tree s.goal t) ≤ 16 * 2 ^ fuel
  root_few = let p = root_proof in let few = p.1 in let rules = p.2.rules in omega (arith, few, rules)

  pub root_good : (budget : ℕ) → 16 * 2 ^ fuel ≤ budget → budget ≤ 2000 → IsGoodTree (contra_tree s.goal t) s
  root_good budget enough most =
      let p = root_proof in
      let few = p.1 in
      let nodes = p.2.nodes in
      record { small = omega (arith, few, nodes, enough, most); derives = p.2.derives }
