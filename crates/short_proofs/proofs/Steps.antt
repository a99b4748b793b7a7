-- Linear steps, as the code finds them.
use Rattle.std.proofs.Common.{◌≡◌, ◌∙◌, sym, ap, subst, refl, ℕ, ℤ, pos, negsuc, Bool, true, false, not, ◌&&◌, ◌||◌, List, [], ◌∷◌, Option, Some, None, ◌≢◌, ◌⊎◌, inl, inr}
use Rattle.std.specs.List.{list_any}
use Rattle.std.specs.Prelude.{if◌then◌else◌, Contains}
use Rattle.formula_core.specs.declared.Formula.{Formula}
use Rattle.rule_table.specs.declared.kind.RuleKind.TheVariants as kind
use Rattle.rule_table.specs.declared.rule.Body.{Body}
use Rattle.rule_table.specs.declared.rule.Rule.{Rule}
use Rattle.rule_table.specs.Linear.{are_multiplied, has_linear_form, is_formula_among, is_positive_constant, linear_sum, may_be_goal, may_be_multiplied, shape}
use Rattle.rule_table.specs.Rows.{adds, backward, both, forward, linear_step_of, proves}
use Rattle.rule_table.specs.Rules.{IsSound, rule_of}
use Rattle.sequent_core.specs.declared.sequent.Sequent.{Sequent}
use Rattle.sequent_core.specs.declared.tree.Tree.{Tree}
use Rattle.sequent_core.specs.declared.tree.Tree.TheVariants.{Node}
use Rattle.sequent_core.specs.Sequents.{IsSequent}
use Rattle.short_proofs.specs.Private.{below_goal, below_hyp, either_tree_if, law_of_reading, linear_tree, linear_tree_if}
use Rattle.short_proofs.specs.Short.{IsShortProof}
use Rattle.short_proofs.specs.Sure.{as_comparison, follows_from, is_linear_step, IsSmallSequent}
use Rattle.short_proofs.proofs.Built.{tree_alone}
use Rattle.short_proofs.proofs.Forms.{goal_fits, hyp_fits}
use Rattle.short_proofs.proofs.Sums.{fits_read, goal_sound, hyp_sound, nothing_short, one_short, read_fits_goal, sum_sound}

module _ (ks : List ℤ) (hs : List Formula) (g : Formula) where
  none_if : (b : Bool) → (if b then Some (both g hs []) else None) ≡ None → (if b then Some (linear_tree ks hs g) else None) ≡ None
  none_if true e = cc
  none_if false e = refl

  some_if : (b : Bool) (body : Body) → (if b then Some (both g hs []) else None) ≡ Some body → (body ≡ both g hs []) × ((if b then Some (linear_tree ks hs g) else None) ≡ Some (linear_tree ks hs g))
  some_if true body e = (cc, refl)
  some_if false body e = cc

  pub step_none : linear_step_of ks hs g ≡ None → linear_tree_if ks hs g ≡ None
  unfolding is_linear_step
  step_none e = none_if (has_linear_form g hs ks && is_positive_constant (linear_sum g hs ks)) e

  pub step_some : (body : Body) → linear_step_of ks hs g ≡ Some body → (body ≡ both g hs []) × (linear_tree_if ks hs g ≡ Some (linear_tree ks hs g))
  unfolding is_linear_step
  step_some body e = some_if (has_linear_form g hs ks && is_positive_constant (linear_sum g hs ks)) body e

  -- the tree of a step that was found
  pub step_tree : (body : Body) (r : Rule) (t : Tree) → linear_step_of ks hs g ≡ Some body → r ≡ rule_of (kind.Linear ks) body → t ≡ Node r [] → Some t ≡ linear_tree_if ks hs g
  step_tree body r t e er et =
      let found = step_some body e in
      ap Some (tree_alone (kind.Linear ks) (both g hs []) body r t found.0 er et) ∙ sym found.1

  pub step_sound : (body : Body) → linear_step_of ks hs g ≡ Some body → IsSound (kind.Linear ks) (both g hs []) → IsSound (kind.Linear ks) body
  step_sound body e h = subst (IsSound (kind.Linear ks)) (sym (step_some body e).0) h

-- a tree is there exactly where the step is one
is_there : (b : Bool) (t : Tree) (o : Option Tree) → o ≡ (if b then Some t else None) → (o ≡ None → b ≡ false) × ((u : Tree) → o ≡ Some u → (b ≡ true) × (u ≡ t))
is_there true t o e = (λ n. cc, λ u s. (refl, cc))
is_there false t o e = (λ n. refl, λ u s. cc)

pub no_step : (ks : List ℤ) (hs : List Formula) (g : Formula) (o : Option Tree) → o ≡ linear_tree_if ks hs g → o ≡ None → is_linear_step ks hs g ≡ false
no_step ks hs g o e n = (is_there (is_linear_step ks hs g) (linear_tree ks hs g) o e).0 n

pub a_step : (ks : List ℤ) (hs : List Formula) (g : Formula) (o : Option Tree) (u : Tree) → o ≡ linear_tree_if ks hs g → o ≡ Some u → (is_linear_step ks hs g ≡ true) × (u ≡ linear_tree ks hs g)
a_step ks hs g o u e s = (is_there (is_linear_step ks hs g) (linear_tree ks hs g) o e).1 u s

-- any multipliers are right where some are
pub any_multipliers : (ks ns : List ℤ) (b : Body) → IsSound (kind.Linear ks) b → IsSound (kind.Linear ns) b
any_multipliers ks ns b h = record { formulas = h.formulas; predicates = h.predicates; added = h.added; distinct = h.distinct; one_type = h.one_type }

pub listed_sound : (ks ns : List ℤ) (hs : List Formula) (f g : Formula) → hs ≡ f ∷ [] → IsSound (kind.Linear ks) (both g (f ∷ []) []) → IsSound (kind.Linear ns) (both g hs [])
listed_sound ks ns hs f g e k = subst (λ x. IsSound (kind.Linear ns) (both g x [])) (sym e) (any_multipliers ks ns (both g (f ∷ []) []) k)

-- what is no goal of a linear step, and what is no hypothesis of one with a multiplier
and_false : (b : Bool) → (b && false) ≡ false
and_false true = refl
and_false false = refl

pub no_goal : (ks : List ℤ) (hs : List Formula) (g : Formula) → may_be_goal (shape g) ≡ false → is_linear_step ks hs g ≡ false
unfolding is_linear_step
no_goal ks hs g e = ap (λ b. (b && are_multiplied hs ks) && is_positive_constant (linear_sum g hs ks)) e

pub no_hyp : (k : ℤ) (h g : Formula) → may_be_multiplied (shape h) k ≡ false → is_linear_step (k ∷ []) (h ∷ []) g ≡ false
unfolding is_linear_step
no_hyp k h g e =
    ap (λ b. (may_be_goal (shape g) && (b && not (is_formula_among [] h) && are_multiplied [] [])) && is_positive_constant (linear_sum g (h ∷ []) (k ∷ []))) e
    ∙ ap (λ b. b && is_positive_constant (linear_sum g (h ∷ []) (k ∷ []))) (and_false (may_be_goal (shape g)))

pub no_tree : (k : ℤ) (h g : Formula) → may_be_multiplied (shape h) k ≡ false → None ≡ linear_tree_if (k ∷ []) (h ∷ []) g
no_tree k h g e = sym (ap (λ b. if b then Some (linear_tree (k ∷ []) (h ∷ []) g) else None) (no_hyp k h g e))

-- no formula is one from which a goal follows that is none of a linear step
pub follows_nowhere : (g : Formula) → may_be_goal (shape g) ≡ false → (hs : List Formula) → list_any (λ h. follows_from g (as_comparison h)) hs ≡ false
follows_nowhere g e [] = refl
follows_nowhere g e (h ∷ hs) =
    (λ i. (no_goal (pos 1 ∷ []) (as_comparison h ∷ []) g e i || is_linear_step (negsuc 0 ∷ []) (as_comparison h ∷ []) g) || list_any (λ h. follows_from g (as_comparison h)) hs)
    ∙ (λ i. no_goal (negsuc 0 ∷ []) (as_comparison h ∷ []) g e i || list_any (λ h. follows_from g (as_comparison h)) hs)
    ∙ follows_nowhere g e hs

-- the tree of either step, as it is found
module _ (f g : Formula) where
  abbrev first : Bool
  first = is_linear_step (pos 1 ∷ []) (f ∷ []) g

  abbrev second : Bool
  second = is_linear_step (negsuc 0 ∷ []) (f ∷ []) g

  abbrev tree_of : ℤ → Tree
  tree_of k = linear_tree (k ∷ []) (f ∷ []) g

  pub by_first : (o : Option Tree) (u : Tree) → o ≡ linear_tree_if (pos 1 ∷ []) (f ∷ []) g → o ≡ Some u → Some u ≡ either_tree_if f g
  by_first o u e s =
      let step = a_step (pos 1 ∷ []) (f ∷ []) g o u e s in
      ap Some step.1 ∙ sym (ap (λ b. if b then Some (tree_of (pos 1)) else linear_tree_if (negsuc 0 ∷ []) (f ∷ []) g) step.0)

  pub by_second : (o p : Option Tree) → o ≡ linear_tree_if (pos 1 ∷ []) (f ∷ []) g → o ≡ None → p ≡ linear_tree_if (negsuc 0 ∷ []) (f ∷ []) g → p ≡ either_tree_if f g
  by_second o p e n h =
      h ∙ sym (ap (λ b. if b then Some (tree_of (pos 1)) else linear_tree_if (negsuc 0 ∷ []) (f ∷ []) g) (no_step (pos 1 ∷ []) (f ∷ []) g o e n))

  pub neither_step : (o : Option Tree) → o ≡ either_tree_if f g → o ≡ None → follows_from g f ≡ false
  neither_step o e n = go first second e
    where
      go : (b c : Bool) → o ≡ (if b then Some (tree_of (pos 1)) else (if c then Some (tree_of (negsuc 0)) else None)) → (b || c) ≡ false
      go true c e = cc
      go false true e = cc
      go false false e = refl

  pub either_step : (o : Option Tree) (u : Tree) → o ≡ either_tree_if f g → o ≡ Some u
      → ((first ≡ true) × (u ≡ tree_of (pos 1))) ⊎ ((second ≡ true) × (u ≡ tree_of (negsuc 0)))
  either_step o u e s = go first second e
    where
      go : (b c : Bool) → o ≡ (if b then Some (tree_of (pos 1)) else (if c then Some (tree_of (negsuc 0)) else None)) → ((b ≡ true) × (u ≡ tree_of (pos 1))) ⊎ ((c ≡ true) × (u ≡ tree_of (negsuc 0)))
      go true c e = inl (refl, cc)
      go false true e = inr (refl, cc)
      go false false e = absurd cc

  pub one_follows : (o : Option Tree) (u : Tree) → o ≡ either_tree_if f g → o ≡ Some u → follows_from g f ≡ true
  one_follows o u e s = go first second (either_step o u e s)
    where
      go : (b c : Bool) → ((b ≡ true) × (u ≡ tree_of (pos 1))) ⊎ ((c ≡ true) × (u ≡ tree_of (negsuc 0))) → (b || c) ≡ true
      go true c h = refl
      go false c (inl h) = absurd cc
      go false c (inr h) = h.0

-- what the code builds without a hypothesis, and with one
module _ (s : Sequent) (is : IsSequent s) (small : IsSmallSequent s) where
  pub nothing_sound : (ks : List ℤ) (g : Formula) → g ≡ as_comparison s.goal → IsSound (kind.Linear ks) (both g [] [])
  nothing_sound ks g e =
      let fit = read_fits_goal s is small in
      subst (λ x. IsSound (kind.Linear ks) (both x [] [])) (sym e) (sum_sound s ks [] (as_comparison s.goal) (fit, tt) (fit, tt))

  pub used_sound : (ks : List ℤ) (h f g : Formula) → Contains s.hyps h → f ≡ as_comparison h → g ≡ as_comparison s.goal → IsSound (kind.Linear ks) (both g (f ∷ []) [])
  used_sound ks h f g among ef eg =
      let fit = read_fits_goal s is small in
      let used = fits_read s.env h (hyp_fits s is small h among) in
      subst (λ x. IsSound (kind.Linear ks) (both x (f ∷ []) [])) (sym eg)
      (subst (λ x. IsSound (kind.Linear ks) (both (as_comparison s.goal) (x ∷ []) [])) (sym ef) (sum_sound s ks (as_comparison h ∷ []) (as_comparison s.goal) (fit, (used, tt)) (fit, (used, tt))))

  pub law_sound : (law : ℕ) (g : Formula) → g ≡ as_comparison s.goal → IsSound (kind.RwGoal law []) (backward s.goal (proves g ∷ []))
  law_sound law g e =
      subst (λ x. IsSound (kind.RwGoal law []) (backward s.goal (proves x ∷ []))) (sym e) (goal_sound s law (as_comparison s.goal) (goal_fits s is small) (read_fits_goal s is small))

  pub read_sound : (law : ℕ) (h f : Formula) → Contains s.hyps h → f ≡ as_comparison h → IsSound (kind.RwHyp law []) (forward (h ∷ []) (adds (f ∷ []) ∷ []))
  read_sound law h f among e =
      let fit = hyp_fits s is small h among in
      subst (λ x. IsSound (kind.RwHyp law []) (forward (h ∷ []) (adds (x ∷ []) ∷ []))) (sym e) (hyp_sound s law h (as_comparison h) fit (fits_read s.env h fit))

  pub nothing_as : (law : ℕ) (g : Formula) (ks : List ℤ) (o : Option Tree) (tree t : Tree) → law ≡ law_of_reading s.goal → g ≡ as_comparison s.goal → ks ≡ []
      → o ≡ linear_tree_if ks [] g → o ≡ Some tree → t ≡ below_goal law s.goal g tree → IsShortProof t s
  nothing_as law g ks o tree t el eg ek eo es et =
      let step = a_step [] [] (as_comparison s.goal) o tree (eo ∙ (λ i. linear_tree_if (ek i) [] (eg i))) es in
      subst (λ u. IsShortProof u s) (sym (et ∙ (λ i. below_goal (el i) s.goal (eg i) (step.1 i)))) (nothing_short s is small step.0)

  pub one_as : (h : Formula) (read_law law : ℕ) (used g : Formula) (o : Option Tree) (tree below t : Tree) → Contains s.hyps h
      → read_law ≡ law_of_reading h → used ≡ as_comparison h → law ≡ law_of_reading s.goal → g ≡ as_comparison s.goal
      → o ≡ either_tree_if used g → o ≡ Some tree → below ≡ below_hyp read_law h used tree → t ≡ below_goal law s.goal g below → IsShortProof t s
  one_as h read_law law used g o tree below t among er eu el eg eo es eb et = go (either_step (as_comparison h) (as_comparison s.goal) o tree (eo ∙ (λ i. either_tree_if (eu i) (eg i))) es)
    where
      by : (k : ℤ) → is_linear_step (k ∷ []) (as_comparison h ∷ []) (as_comparison s.goal) ≡ true → tree ≡ linear_tree (k ∷ []) (as_comparison h ∷ []) (as_comparison s.goal) → IsShortProof t s
      by k step is_tree =
          subst (λ u. IsShortProof u s) (sym (et ∙ (λ i. below_goal (el i) s.goal (eg i) (eb i)) ∙ (λ i. below_goal (law_of_reading s.goal) s.goal (as_comparison s.goal) (below_hyp (er i) h (eu i) (is_tree i)))))
          (one_short s is small h k among step)

      go : ((first (as_comparison h) (as_comparison s.goal) ≡ true) × (tree ≡ tree_of (as_comparison h) (as_comparison s.goal) (pos 1))) ⊎ ((second (as_comparison h) (as_comparison s.goal) ≡ true) × (tree ≡ tree_of (as_comparison h) (as_comparison s.goal) (negsuc 0))) → IsShortProof t s
      go (inl p) = by (pos 1) p.0 p.1
      go (inr p) = by (negsuc 0) p.0 p.1
