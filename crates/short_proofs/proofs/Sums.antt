-- Proofs by one linear step.
use Rattle.std.proofs.Common.{◌≡◌, ◌∙◌, sym, ap, subst, refl, ℕ, zero, suc, ◌+◌, ◌≤◌, ◌<◌, ℤ, Bool, true, false, List, [], ◌∷◌, ◌++◌, Option, Some, None, ◌⊎◌, inl, inr, ◌≢◌, append-nil, arith}
use Rattle.std.specs.List.{AllByRecursion}
use Rattle.std.specs.Prelude.{Contains, if◌then◌else◌, ◌==◌}
use Rattle.std.proofs.lemmas.Bool.{eq-eqb, ne_eqb}
use Rattle.std.proofs.lemmas.List.Elements.{Contains-push}
use Rattle.formula_core.specs.declared.Formula.{Formula}
use Rattle.formula_core.specs.declared.Ty.{Ty}
use Rattle.rule_table.specs.declared.kind.RuleKind.TheVariants as kind
use Rattle.rule_table.specs.declared.rule.Body.{Body}
use Rattle.rule_table.specs.Rows.{adds, backward, both, forward, proves, IsInstance}
use Rattle.rule_table.specs.Rules.{formulas_of, needed_formulas, IsSound, rule_of}
use Rattle.sequent_core.specs.declared.sequent.Sequent.{Sequent}
use Rattle.sequent_core.specs.declared.tree.Tree.{Tree}
use Rattle.sequent_core.specs.declared.tree.Tree.TheVariants.{Node}
use Rattle.sequent_core.specs.Sequents.{IsSequent}
use Rattle.sequent_core.specs.Trees.{extended}
use Rattle.short_proofs.specs.Private.{below_goal, below_hyp, law_of_reading, linear_tree}
use Rattle.short_proofs.specs.Short.{IsShortProof}
use Rattle.short_proofs.specs.Sure.{as_comparison, is_linear_step, IsSmallSequent}
use Rattle.short_proofs.proofs.Comparisons.{Reading, ReadsBy, reading}
use Rattle.short_proofs.proofs.Forms.{goal_fits, hyp_fits}
use Rattle.short_proofs.proofs.Plain.{IsFit, is_sound, is_rule_of, meets, no_names}
use Rattle.short_proofs.proofs.Trees.{FitsPlainly, IsProofOf, proof_alone, proof_above, is_short}

at_zero : (law : ℕ) → law ≡ 0 → (law == 0) ≡ true
at_zero law e = eq-eqb law 0 e

past_zero : (law : ℕ) → law ≢ 0 → (law == 0) ≡ false
past_zero law n = ne_eqb law 0 n

-- the laws and the step are right
pub goal_sound : (s : Sequent) (law : ℕ) (g : Formula) → IsFit s.env s.goal → IsFit s.env g → IsSound (kind.RwGoal law []) (backward s.goal (proves g ∷ []))
goal_sound s law g f h = is_sound s (kind.RwGoal law []) (backward s.goal (proves g ∷ [])) (f, (h, tt)) (f, tt) refl (no_names, tt)

pub hyp_sound : (s : Sequent) (law : ℕ) (h g : Formula) → IsFit s.env h → IsFit s.env g → IsSound (kind.RwHyp law []) (forward (h ∷ []) (adds (g ∷ []) ∷ []))
hyp_sound s law h g f k = is_sound s (kind.RwHyp law []) (forward (h ∷ []) (adds (g ∷ []) ∷ [])) (f, (k, tt)) (f, tt) refl (no_names, tt)

pub sum_sound : (s : Sequent) (ks : List ℤ) (hs : List Formula) (g : Formula) → AllByRecursion (IsFit s.env) (formulas_of (kind.Linear ks) (both g hs [])) → AllByRecursion (IsFit s.env) (g ∷ hs)
    → IsSound (kind.Linear ks) (both g hs [])
sum_sound s ks hs g f h = is_sound s (kind.Linear ks) (both g hs []) f h refl tt

-- a proof of at most so many rules
pub record ProofUpTo (n : ℕ) (tree : Tree) (s : Sequent) : Type 0 where
  pub count : ℕ
  pub few : count ≤ n
  pub proof : IsProofOf count tree s

pub is_short_of : (n : ℕ) (tree : Tree) (s : Sequent) → n ≤ 8 → ProofUpTo n tree s → IsShortProof tree s
is_short_of n tree s le p = is_short p.count tree s (omega (arith, le, p.few)) p.proof

pub sum_proof : (s : Sequent) (ks : List ℤ) (hs : List Formula) (g : Formula) → g ≡ s.goal → AllByRecursion (IsFit s.env) (formulas_of (kind.Linear ks) (both g hs [])) → AllByRecursion (IsFit s.env) (g ∷ hs)
    → AllByRecursion (Contains s.hyps) hs → is_linear_step ks hs g ≡ true → IsProofOf 1 (linear_tree ks hs g) s
unfolding is_linear_step
sum_proof s ks hs g same f h c step =
    let instance : IsInstance (kind.Linear ks) (both g hs []) = ap (λ b. if b then Some (both g hs []) else None) step in
    proof_alone (rule_of (kind.Linear ks) (both g hs [])) s
    (record {
      rule = is_rule_of s (kind.Linear ks) (both g hs []) f h refl tt instance;
      meets = meets s (kind.Linear ks) (both g hs []) f h refl tt same c;
      unreviewed = refl;
      plain = refl;
    }) refl

fit_below : (env : List (List ℕ × Ty)) (f : Formula) → IsFit env f → IsFit (env ++ []) f
fit_below env f h = subst (λ e. IsFit e f) (sym (append-nil env)) h

-- with one hypothesis, as it is read
pub hyp_proof : (s : Sequent) (h g : Formula) (k : ℤ) → IsFit s.env h → Contains s.hyps h → g ≡ s.goal → IsFit s.env g
    → is_linear_step (k ∷ []) (as_comparison h ∷ []) g ≡ true
    → ProofUpTo 2 (below_hyp (law_of_reading h) h (as_comparison h) (linear_tree (k ∷ []) (as_comparison h ∷ []) g)) s
hyp_proof s h g k fit among same gfit step = go (law_of_reading h) (as_comparison h) (reading s.env h fit) step
  where
    go : (law : ℕ) (r : Formula) → Reading s.env law h r → is_linear_step (k ∷ []) (r ∷ []) g ≡ true → ProofUpTo 2 (below_hyp law h r (linear_tree (k ∷ []) (r ∷ []) g)) s
    go law r (inl e) step =
        let tree : Tree = linear_tree (k ∷ []) (r ∷ []) g in
        let rfit : IsFit s.env r = subst (IsFit s.env) (sym e.1) fit in
        let rin : Contains s.hyps r = subst (Contains s.hyps) (sym e.1) among in
        let proof : IsProofOf 1 tree s = sum_proof s (k ∷ []) (r ∷ []) g same (gfit, (rfit, tt)) (gfit, (rfit, tt)) (rin, tt) step in
        record {
          count = 1;
          few = omega arith;
          proof = subst (λ b. IsProofOf 1 (if b then tree else Node (rule_of (kind.RwHyp law []) (forward (h ∷ []) (adds (r ∷ []) ∷ []))) (tree ∷ [])) s) (sym (at_zero law e.0)) proof;
        }
    go law r (inr e) step =
        let tree : Tree = linear_tree (k ∷ []) (r ∷ []) g in
        let t : Sequent = extended s (adds (r ∷ [])) in
        let rfit : IsFit t.env r = fit_below s.env r e.1.fits in
        let gbelow : IsFit t.env g = fit_below s.env g gfit in
        let rin : Contains t.hyps r = Contains-push s.hyps r in
        let proof : IsProofOf 1 tree t = sum_proof t (k ∷ []) (r ∷ []) g same (gbelow, (rfit, tt)) (gbelow, (rfit, tt)) (rin, tt) step in
        let body : Body = forward (h ∷ []) (adds (r ∷ []) ∷ []) in
        let plainly : FitsPlainly (rule_of (kind.RwHyp law []) body) s = record {
          rule = is_rule_of s (kind.RwHyp law []) body (fit, (e.1.fits, tt)) (fit, tt) refl (no_names, tt) e.1.hyp;
          meets = meets s (kind.RwHyp law []) body (fit, (e.1.fits, tt)) (fit, tt) refl (no_names, tt) tt (among, tt);
          unreviewed = refl;
          plain = refl;
        } in
        record {
          count = 2;
          few = omega arith;
          proof = subst (λ b. IsProofOf 2 (if b then tree else Node (rule_of (kind.RwHyp law []) body) (tree ∷ [])) s) (sym (past_zero law e.0))
              (proof_above (rule_of (kind.RwHyp law []) body) (adds (r ∷ [])) tree s 1 plainly refl refl proof);
        }

-- the sequent with another goal
abbrev pub with_goal : Sequent → Formula → Sequent
with_goal s g = record { env = s.env; hyps = s.hyps; goal = g }

below_proves : (s : Sequent) (g : Formula) → with_goal s g ≡ extended s (proves g)
below_proves s g = λ i. record { env = sym (append-nil s.env) i; hyps = sym (append-nil s.hyps) i; goal = g }

-- below the law by which the goal is read
pub goal_proof : (s : Sequent) (tree : Tree) (n : ℕ) → IsFit s.env s.goal → ProofUpTo n tree (with_goal s (as_comparison s.goal))
    → ProofUpTo (n + 1) (below_goal (law_of_reading s.goal) s.goal (as_comparison s.goal) tree) s
goal_proof s tree n fit p = go (law_of_reading s.goal) (as_comparison s.goal) (reading s.env s.goal fit) p
  where
    go : (law : ℕ) (r : Formula) → Reading s.env law s.goal r → ProofUpTo n tree (with_goal s r) → ProofUpTo (n + 1) (below_goal law s.goal r tree) s
    go law r (inl e) p = record {
      count = p.count;
      few = omega (arith, p.few);
      proof = subst (λ b. IsProofOf p.count (if b then tree else Node (rule_of (kind.RwGoal law []) (backward s.goal (proves r ∷ []))) (tree ∷ [])) s) (sym (at_zero law e.0))
          (subst (λ g. IsProofOf p.count tree (with_goal s g)) e.1 p.proof);
    }
    go law r (inr e) p =
        let body : Body = backward s.goal (proves r ∷ []) in
        let plainly : FitsPlainly (rule_of (kind.RwGoal law []) body) s = record {
          rule = is_rule_of s (kind.RwGoal law []) body (fit, (e.1.fits, tt)) (fit, tt) refl (no_names, tt) e.1.goal;
          meets = meets s (kind.RwGoal law []) body (fit, (e.1.fits, tt)) (fit, tt) refl (no_names, tt) refl tt;
          unreviewed = refl;
          plain = refl;
        } in
        record {
          count = p.count + 1;
          few = omega (arith, p.few);
          proof = subst (λ b. IsProofOf (p.count + 1) (if b then tree else Node (rule_of (kind.RwGoal law []) body) (tree ∷ [])) s) (sym (past_zero law e.0))
              (proof_above (rule_of (kind.RwGoal law []) body) (proves r) tree s p.count plainly refl refl (subst (IsProofOf p.count tree) (below_proves s r) p.proof));
        }

-- a formula as it is read fits where the formula does
pub fits_read : (env : List (List ℕ × Ty)) (f : Formula) → IsFit env f → IsFit env (as_comparison f)
fits_read env f h = go (law_of_reading f) (as_comparison f) (reading env f h)
  where
    go : (law : ℕ) (r : Formula) → Reading env law f r → IsFit env r
    go law r (inl e) = subst (IsFit env) (sym e.1) h
    go law r (inr e) = e.1.fits

-- the whole trees
module _ (s : Sequent) (is : IsSequent s) (small : IsSmallSequent s) where
  abbrev read : Formula
  read = as_comparison s.goal

  pub read_fits_goal : IsFit s.env read
  read_fits_goal = fits_read s.env s.goal (goal_fits s is small)

  pub nothing_short : is_linear_step [] [] read ≡ true → IsShortProof (below_goal (law_of_reading s.goal) s.goal read (linear_tree [] [] read)) s
  nothing_short step =
      is_short_of 2 _ s (omega arith)
      (goal_proof s (linear_tree [] [] read) 1 (goal_fits s is small)
      (record { count = 1; few = omega arith; proof = sum_proof (with_goal s read) [] [] read refl (read_fits_goal, tt) (read_fits_goal, tt) tt step }))

  pub one_short : (h : Formula) (k : ℤ) → Contains s.hyps h → is_linear_step (k ∷ []) (as_comparison h ∷ []) read ≡ true
      → IsShortProof (below_goal (law_of_reading s.goal) s.goal read (below_hyp (law_of_reading h) h (as_comparison h) (linear_tree (k ∷ []) (as_comparison h ∷ []) read))) s
  one_short h k among step =
      is_short_of 3 _ s (omega arith)
      (goal_proof s _ 2 (goal_fits s is small) (hyp_proof (with_goal s read) h read k (hyp_fits s is small h among) among refl read_fits_goal step))
