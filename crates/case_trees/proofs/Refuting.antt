-- Each tree proves ⊥, or its goal, of the sequents that have its hypotheses, from what the trees in it prove.
use Rattle.std.proofs.Common.{◌≡◌, ◌∙◌, sym, ap, subst, refl, ℕ, ◌+◌, List, [], ◌∷◌, ◌++◌, Option, Some, None, arith}
use Rattle.std.specs.List.{AllByRecursion}
use Rattle.std.specs.Option.{option_and_then, option_map}
use Rattle.std.specs.Prelude.{Contains}
use Rattle.std.proofs.lemmas.List.Elements.{Contains-append_left, Contains-append_right}
use Rattle.formula_core.specs.declared.Formula.{Formula}
use Rattle.formula_core.specs.declared.Formula.TheViews.{outs-Node}
use Rattle.formula_core.specs.declared.Op.TheVariants as op
use Rattle.formula_core.specs.declared.Ty.{Ty}
use Rattle.formula_core.specs.declared.Ty.TheVariants as ty
use Rattle.well_defined.specs.Predicates.{top, implication, predicate}
use Rattle.rule_table.specs.declared.kind.RuleKind.TheVariants as kind
use Rattle.rule_table.specs.declared.law.Law.{Law}
use Rattle.rule_table.specs.declared.rule.Body.{Body}
use Rattle.rule_table.specs.Shapes.{one_of, two_of, operands_at, operand, two_operands, negation, bottom}
use Rattle.rule_table.specs.Rewriting.{law_of, right_side, rewritten}
use Rattle.rule_table.specs.Rows.{IsInstance, proves, adds, assumes, backward, forward}
use Rattle.rule_table.specs.Rules.{rule_of}
use Rattle.sequent_core.specs.declared.sequent.Sequent.{Sequent}
use Rattle.sequent_core.specs.declared.tree.Tree.{Tree}
use Rattle.sequent_core.specs.declared.tree.Tree.TheVariants.{Node}
use Rattle.sequent_core.specs.Trees.{extended}
use Rattle.case_trees.proofs.Plain.{IsFit, is_rule_of, meets, no_names}
use Rattle.case_trees.specs.PrivateProofs.{Proves, Refutes}
use Rattle.case_trees.specs.Trees.{and_tree, or_tree, imp_tree, iff_tree, mp_tree, law_tree, contra_tree, not_tree, contr_tree, bottom_tree, top_tree, neither_tree, both_ways_tree}
use Rattle.case_trees.proofs.ProofTrees.{proof_alone, proof_above, proof_split, extended_env}

-- the operand of a made ¬, and those of a made connective on two
pub negated_operand : (p : Formula) → operand op.Not (negation p) ≡ Some p
negated_operand p = ap (λ x. option_and_then one_of (operands_at op.Not x)) (outs-Node op.Not (p ∷ []) ty.Truth)

made_implication : (p q : Formula) → two_operands op.Implies (implication p q) ≡ Some (p, q)
made_implication p q = ap (λ x. option_and_then two_of (operands_at op.Implies x)) (outs-Node op.Implies (p ∷ q ∷ []) ty.Truth)

pub made_conjunction : (p q : Formula) → two_operands op.And (predicate op.And (p ∷ q ∷ [])) ≡ Some (p, q)
made_conjunction p q = ap (λ x. option_and_then two_of (operands_at op.And x)) (outs-Node op.And (p ∷ q ∷ []) ty.Truth)

pub made_disjunction : (p q : Formula) → two_operands op.Or (predicate op.Or (p ∷ q ∷ [])) ≡ Some (p, q)
made_disjunction p q = ap (λ x. option_and_then two_of (operands_at op.Or x)) (outs-Node op.Or (p ∷ q ∷ []) ty.Truth)

pub made_equivalence : (p q : Formula) → two_operands op.Equivalent (predicate op.Equivalent (p ∷ q ∷ [])) ≡ Some (p, q)
made_equivalence p q = ap (λ x. option_and_then two_of (operands_at op.Equivalent x)) (outs-Node op.Equivalent (p ∷ q ∷ []) ty.Truth)

-- what is added is there, and what was there still is
abbrev pub HasAll : List Formula → List Formula → Type 0
HasAll xs ys = AllByRecursion (Contains xs) ys

still : (xs ys zs : List Formula) → HasAll xs zs → HasAll (xs ++ ys) zs
still xs ys [] h = tt
still xs ys (z ∷ zs) h = (Contains-append_left xs ys z h.0, still xs ys zs h.1)

one_more : (xs zs : List Formula) (p : Formula) → HasAll xs zs → HasAll (xs ++ p ∷ []) (p ∷ zs)
one_more xs zs p h = (Contains-append_right xs (p ∷ []) p (0, omega arith, refl), still xs (p ∷ []) zs h)

two_more : (xs zs : List Formula) (p q : Formula) → HasAll xs zs → HasAll (xs ++ p ∷ q ∷ []) (p ∷ q ∷ zs)
two_more xs zs p q h =
    (Contains-append_right xs (p ∷ q ∷ []) p (0, omega arith, refl), (Contains-append_right xs (p ∷ q ∷ []) q (1, omega arith, refl), still xs (p ∷ q ∷ []) zs h))

module _ (env : List (List ℕ × Ty)) where
  abbrev pub Fit : Formula → Type 0
  Fit = IsFit env

  at : (s : Sequent) → s.env ≡ env → (f : Formula) → Fit f → IsFit s.env f
  at s e f h = subst (λ x. IsFit x f) (sym e) h

  -- the hypotheses in another order, or more of them
  pub proves_more : (hs more : List Formula) (n : ℕ) (t : Tree) (goal : Formula) → ((xs : List Formula) → HasAll xs more → HasAll xs hs) → Proves env hs n t goal → Proves env more n t goal
  proves_more hs more n t goal h r s e a g = r s e (h s.hyps a) g

  pub and_refutes : (h p q : Formula) (rest : List Formula) (n : ℕ) (t : Tree) → two_operands op.And h ≡ Some (p, q) → Fit h → Fit p → Fit q
      → Refutes env (p ∷ q ∷ rest) n t → Refutes env (h ∷ rest) (n + 1) (and_tree h p q t)
  and_refutes h p q rest n t is fh fp fq r s e has goal =
      let b : Body = forward (h ∷ []) (adds (p ∷ q ∷ []) ∷ []) in
      let fits : AllByRecursion (IsFit s.env) (h ∷ p ∷ q ∷ []) = (at s e h fh, (at s e p fp, (at s e q fq, tt))) in
      let instance : IsInstance kind.AndL b = ap (option_and_then (λ x. Some (forward (h ∷ []) (adds (x.0 ∷ x.1 ∷ []) ∷ [])))) is in
      proof_above (rule_of kind.AndL b) (adds (p ∷ q ∷ [])) t s n
      (record { rule = is_rule_of s kind.AndL b fits (at s e h fh, tt) refl (no_names, tt) instance; meets = meets s kind.AndL b fits (at s e h fh, tt) refl (no_names, tt) tt (has.0, tt); unreviewed = refl }) refl refl
      (r (extended s (adds (p ∷ q ∷ []))) (extended_env s (adds (p ∷ q ∷ [])) refl ∙ e) (two_more s.hyps rest p q has.1) goal)

  pub or_refutes : (h p q : Formula) (rest : List Formula) (n m : ℕ) (t u : Tree) → two_operands op.Or h ≡ Some (p, q) → Fit h → Fit p → Fit q
      → Refutes env (p ∷ rest) n t → Refutes env (q ∷ rest) m u → Refutes env (h ∷ rest) (n + m + 1) (or_tree h p q t u)
  or_refutes h p q rest n m t u is fh fp fq r w s e has goal =
      let b : Body = forward (h ∷ []) (adds (p ∷ []) ∷ adds (q ∷ []) ∷ []) in
      let fits : AllByRecursion (IsFit s.env) (h ∷ p ∷ q ∷ []) = (at s e h fh, (at s e p fp, (at s e q fq, tt))) in
      let instance : IsInstance kind.OrL b = ap (option_and_then (λ x. Some (forward (h ∷ []) (adds (x.0 ∷ []) ∷ adds (x.1 ∷ []) ∷ [])))) is in
      proof_split (rule_of kind.OrL b) (adds (p ∷ [])) (adds (q ∷ [])) t u s n m
      (record { rule = is_rule_of s kind.OrL b fits (at s e h fh, tt) refl (no_names, (no_names, tt)) instance; meets = meets s kind.OrL b fits (at s e h fh, tt) refl (no_names, (no_names, tt)) tt (has.0, tt); unreviewed = refl }) refl refl refl
      (r (extended s (adds (p ∷ []))) (extended_env s (adds (p ∷ [])) refl ∙ e) (one_more s.hyps rest p has.1) goal)
      (w (extended s (adds (q ∷ []))) (extended_env s (adds (q ∷ [])) refl ∙ e) (one_more s.hyps rest q has.1) goal)

  -- a goal P: its negation is refuted
  pub contra_proves : (p : Formula) (rest : List Formula) (n : ℕ) (t : Tree) → Fit p → Fit (negation p) → Fit bottom → Refutes env (negation p ∷ rest) n t → Proves env rest (n + 1) (contra_tree p t) p
  contra_proves p rest n t fp fn fb r s e has goal =
      let a = assumes (negation p) bottom in
      let b : Body = backward p (a ∷ []) in
      let fits : AllByRecursion (IsFit s.env) (p ∷ negation p ∷ bottom ∷ []) = (at s e p fp, (at s e (negation p) fn, (at s e bottom fb, tt))) in
      proof_above (rule_of kind.Contra b) a t s n
      (record { rule = is_rule_of s kind.Contra b fits (at s e p fp, tt) refl (no_names, tt) refl; meets = meets s kind.Contra b fits (at s e p fp, tt) refl (no_names, tt) (sym goal) tt; unreviewed = refl }) refl refl
      (r (extended s a) (extended_env s a refl ∙ e) (one_more s.hyps rest (negation p) has) refl)

  -- a goal ¬P: P is refuted
  pub not_proves : (p : Formula) (rest : List Formula) (n : ℕ) (t : Tree) → Fit p → Fit (negation p) → Fit bottom → Refutes env (p ∷ rest) n t → Proves env rest (n + 1) (not_tree p t) (negation p)
  not_proves p rest n t fp fn fb r s e has goal =
      let a = assumes p bottom in
      let b : Body = backward (negation p) (a ∷ []) in
      let fits : AllByRecursion (IsFit s.env) (negation p ∷ p ∷ bottom ∷ []) = (at s e (negation p) fn, (at s e p fp, (at s e bottom fb, tt))) in
      let instance : IsInstance kind.NotR b = ap (option_and_then (λ x. Some (backward (negation p) (assumes x bottom ∷ [])))) (negated_operand p) in
      proof_above (rule_of kind.NotR b) a t s n
      (record { rule = is_rule_of s kind.NotR b fits (at s e (negation p) fn, tt) refl (no_names, tt) instance; meets = meets s kind.NotR b fits (at s e (negation p) fn, tt) refl (no_names, tt) (sym goal) tt; unreviewed = refl }) refl refl
      (r (extended s a) (extended_env s a refl ∙ e) (one_more s.hyps rest p has) refl)

  pub imp_refutes : (h p q : Formula) (rest : List Formula) (n m : ℕ) (t u : Tree) → two_operands op.Implies h ≡ Some (p, q) → Fit h → Fit p → Fit q
      → Proves env rest n t p → Refutes env (q ∷ rest) m u → Refutes env (h ∷ rest) (n + m + 1) (imp_tree h p q t u)
  imp_refutes h p q rest n m t u is fh fp fq r w s e has goal =
      let b : Body = forward (h ∷ []) (proves p ∷ adds (q ∷ []) ∷ []) in
      let fits : AllByRecursion (IsFit s.env) (h ∷ p ∷ q ∷ []) = (at s e h fh, (at s e p fp, (at s e q fq, tt))) in
      let instance : IsInstance kind.ImpL b = ap (option_and_then (λ x. Some (forward (h ∷ []) (proves x.0 ∷ adds (x.1 ∷ []) ∷ [])))) is in
      proof_split (rule_of kind.ImpL b) (proves p) (adds (q ∷ [])) t u s n m
      (record { rule = is_rule_of s kind.ImpL b fits (at s e h fh, tt) refl (no_names, (no_names, tt)) instance; meets = meets s kind.ImpL b fits (at s e h fh, tt) refl (no_names, (no_names, tt)) tt (has.0, tt); unreviewed = refl }) refl refl refl
      (r (extended s (proves p)) (extended_env s (proves p) refl ∙ e) (still s.hyps [] rest has.1) refl)
      (w (extended s (adds (q ∷ []))) (extended_env s (adds (q ∷ [])) refl ∙ e) (one_more s.hyps rest q has.1) goal)

  -- a law at a hypothesis
  pub law_refutes : (law : ℕ) (h d : Formula) (rest : List Formula) (n : ℕ) (t : Tree) → option_and_then (λ l. right_side l h) (law_of law) ≡ Some d → Fit h → Fit d
      → Refutes env (d ∷ rest) n t → Refutes env (h ∷ rest) (n + 1) (law_tree law h d t)
  law_refutes law h d rest n t is fh fd r s e has goal =
      let b : Body = forward (h ∷ []) (adds (d ∷ []) ∷ []) in
      let fits : AllByRecursion (IsFit s.env) (h ∷ d ∷ []) = (at s e h fh, (at s e d fd, tt)) in
      let instance : IsInstance (kind.RwHyp law []) b = moved (law_of law) ∙ ap (option_map (λ new. forward (h ∷ []) (adds (new ∷ []) ∷ []))) is in
      proof_above (rule_of (kind.RwHyp law []) b) (adds (d ∷ [])) t s n
      (record { rule = is_rule_of s (kind.RwHyp law []) b fits (at s e h fh, tt) refl (no_names, tt) instance; meets = meets s (kind.RwHyp law []) b fits (at s e h fh, tt) refl (no_names, tt) tt (has.0, tt); unreviewed = refl }) refl refl
      (r (extended s (adds (d ∷ []))) (extended_env s (adds (d ∷ [])) refl ∙ e) (one_more s.hyps rest d has.1) goal)
    where
      moved : (o : Option Law) → option_and_then (λ l. option_map (λ new. forward (h ∷ []) (adds (new ∷ []) ∷ [])) (rewritten l [] h)) o
          ≡ option_map (λ new. forward (h ∷ []) (adds (new ∷ []) ∷ [])) (option_and_then (λ l. right_side l h) o)
      moved None = refl
      moved (Some l) = refl

  iff_refutes : (h p q : Formula) (rest : List Formula) (n : ℕ) (t : Tree) → two_operands op.Equivalent h ≡ Some (p, q) → Fit h → Fit (implication p q) → Fit (implication q p)
      → Refutes env (implication p q ∷ implication q p ∷ rest) n t → Refutes env (h ∷ rest) (n + 1) (iff_tree h p q t)
  iff_refutes h p q rest n t is fh fp fq r s e has goal =
      let a = adds (implication p q ∷ implication q p ∷ []) in
      let b : Body = forward (h ∷ []) (a ∷ []) in
      let fits : AllByRecursion (IsFit s.env) (h ∷ implication p q ∷ implication q p ∷ []) = (at s e h fh, (at s e (implication p q) fp, (at s e (implication q p) fq, tt))) in
      let instance : IsInstance kind.IffL b = ap (option_and_then (λ x. Some (forward (h ∷ []) (adds (implication x.0 x.1 ∷ implication x.1 x.0 ∷ []) ∷ [])))) is in
      proof_above (rule_of kind.IffL b) a t s n
      (record { rule = is_rule_of s kind.IffL b fits (at s e h fh, tt) refl (no_names, tt) instance; meets = meets s kind.IffL b fits (at s e h fh, tt) refl (no_names, tt) tt (has.0, tt); unreviewed = refl }) refl refl
      (r (extended s a) (extended_env s a refl ∙ e) (two_more s.hyps rest (implication p q) (implication q p) has.1) goal)

  mp_refutes : (h p q : Formula) (rest : List Formula) (n : ℕ) (t : Tree) → two_operands op.Implies h ≡ Some (p, q) → Fit h → Fit p → Fit q
      → Refutes env (q ∷ p ∷ rest) n t → Refutes env (h ∷ p ∷ rest) (n + 1) (mp_tree h p q t)
  mp_refutes h p q rest n t is fh fp fq r s e has goal =
      let b : Body = forward (h ∷ p ∷ []) (adds (q ∷ []) ∷ []) in
      let fits : AllByRecursion (IsFit s.env) (h ∷ p ∷ q ∷ []) = (at s e h fh, (at s e p fp, (at s e q fq, tt))) in
      let needed : AllByRecursion (IsFit s.env) (h ∷ p ∷ []) = (at s e h fh, (at s e p fp, tt)) in
      let instance : IsInstance kind.Mp b = ap (option_and_then (λ x. Some (forward (h ∷ x.0 ∷ []) (adds (x.1 ∷ []) ∷ [])))) is in
      proof_above (rule_of kind.Mp b) (adds (q ∷ [])) t s n
      (record { rule = is_rule_of s kind.Mp b fits needed refl (no_names, tt) instance; meets = meets s kind.Mp b fits needed refl (no_names, tt) tt (has.0, (has.1.0, tt)); unreviewed = refl }) refl refl
      (r (extended s (adds (q ∷ []))) (extended_env s (adds (q ∷ [])) refl ∙ e) (one_more s.hyps (p ∷ rest) q has.1) goal)

  -- the ends
  pub contr_refutes : (p : Formula) (rest : List Formula) → Fit p → Fit (negation p) → Refutes env (p ∷ negation p ∷ rest) 1 (contr_tree p)
  contr_refutes p rest fp fn s e has goal =
      let b : Body = forward (p ∷ negation p ∷ []) [] in
      let fits : AllByRecursion (IsFit s.env) (p ∷ negation p ∷ []) = (at s e p fp, (at s e (negation p) fn, tt)) in
      proof_alone (rule_of kind.Contr b) s (record { rule = is_rule_of s kind.Contr b fits fits refl tt refl; meets = meets s kind.Contr b fits fits refl tt tt (has.0, (has.1.0, tt)); unreviewed = refl }) refl

  pub bottom_refutes : (rest : List Formula) → Fit bottom → Refutes env (bottom ∷ rest) 1 bottom_tree
  bottom_refutes rest fb s e has goal =
      let b : Body = forward (bottom ∷ []) [] in
      let fits : AllByRecursion (IsFit s.env) (bottom ∷ []) = (at s e bottom fb, tt) in
      proof_alone (rule_of kind.Bot b) s (record { rule = is_rule_of s kind.Bot b fits fits refl tt refl; meets = meets s kind.Bot b fits fits refl tt tt (has.0, tt); unreviewed = refl }) refl

  top_proves : Fit top → Proves env [] 1 (Node (rule_of kind.Top (backward top [])) []) top
  top_proves ft s e has goal =
      let b : Body = backward top [] in
      let fits : AllByRecursion (IsFit s.env) (top ∷ []) = (at s e top ft, tt) in
      proof_alone (rule_of kind.Top b) s (record { rule = is_rule_of s kind.Top b fits fits refl tt refl; meets = meets s kind.Top b fits fits refl tt (sym goal) tt; unreviewed = refl }) refl

  pub top_refutes : (rest : List Formula) → Fit top → Fit (negation top) → Refutes env (negation top ∷ rest) 2 top_tree
  top_refutes rest ft fn s e has goal =
      let b : Body = forward (negation top ∷ []) (proves top ∷ []) in
      let fits : AllByRecursion (IsFit s.env) (negation top ∷ top ∷ []) = (at s e (negation top) fn, (at s e top ft, tt)) in
      let instance : IsInstance kind.NotL b = ap (option_and_then (λ x. Some (forward (negation top ∷ []) (proves x ∷ [])))) (negated_operand top) in
      proof_above (rule_of kind.NotL b) (proves top) (Node (rule_of kind.Top (backward top [])) []) s 1
      (record { rule = is_rule_of s kind.NotL b fits (at s e (negation top) fn, tt) refl (no_names, tt) instance; meets = meets s kind.NotL b fits (at s e (negation top) fn, tt) refl (no_names, tt) tt (has.0, tt); unreviewed = refl }) refl refl
      (top_proves ft (extended s (proves top)) (extended_env s (proves top) refl ∙ e) tt refl)

  -- P ⇔ Q, where a tree proves Q from ¬P: six rules more
  pub both_ways_refute : (h p q : Formula) (rest : List Formula) (n m : ℕ) (t u : Tree) → two_operands op.Equivalent h ≡ Some (p, q)
      → Fit h → Fit p → Fit q → Fit (negation p) → Fit (implication p q) → Fit (implication q p) → Fit bottom
      → Proves env (negation p ∷ rest) n t q → Refutes env (p ∷ q ∷ rest) m u → Refutes env (h ∷ rest) (n + m + 6) (both_ways_tree h p q t u)
  both_ways_refute h p q rest n m t u is fh fp fq fnp fpq fqp fb r w =
      let pq = implication p q in
      let qp = implication q p in
      let neither : Refutes env (qp ∷ negation p ∷ rest) (n + 1 + 1) (imp_tree qp q p t (contr_tree p)) =
      imp_refutes qp q p (negation p ∷ rest) n 1 t (contr_tree p) (made_implication q p) fqp fq fp r (contr_refutes p rest fp fnp) in
      let turned : Refutes env (negation p ∷ qp ∷ rest) (n + 1 + 1) (imp_tree qp q p t (contr_tree p)) =
      proves_more (qp ∷ negation p ∷ rest) (negation p ∷ qp ∷ rest) (n + 1 + 1) _ bottom (λ xs a. (a.1.0, (a.0, a.1.1))) neither in
      let left : Proves env (qp ∷ rest) (n + 1 + 1 + 1) (neither_tree p q t) p = contra_proves p (qp ∷ rest) (n + 1 + 1) _ fp fnp fb turned in
      let right : Refutes env (q ∷ qp ∷ rest) (m + 1) (mp_tree qp q p u) =
      proves_more (qp ∷ q ∷ rest) (q ∷ qp ∷ rest) (m + 1) _ bottom (λ xs a. (a.1.0, (a.0, a.1.1))) (mp_refutes qp q p rest m u (made_implication q p) fqp fq fp w) in
      let count : n + 1 + 1 + 1 + (m + 1) + 1 + 1 ≡ n + m + 6 = omega arith in
      subst (λ k. Refutes env (h ∷ rest) k (both_ways_tree h p q t u)) count
      (iff_refutes h p q rest (n + 1 + 1 + 1 + (m + 1) + 1) _ is fh fpq fqp
      (imp_refutes pq p q (qp ∷ rest) (n + 1 + 1 + 1) (m + 1) _ _ (made_implication p q) fpq fp fq left right))
