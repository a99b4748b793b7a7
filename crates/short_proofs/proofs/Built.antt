-- Rules and trees as the code builds them.
use Rattle.std.proofs.Common.{◌≡◌, ◌∙◌, sym, ap, subst, refl, ℕ, ◌≤◌, Bool, true, false, ◌||◌, List, [], ◌∷◌, arith}
use Rattle.std.specs.Prelude.{is_some, Result, Ok, Err, IfOk}
use Rattle.formula_core.specs.declared.Formula.{Formula}
use Rattle.formula_core.specs.Same.{same_formula}
use Rattle.well_defined.specs.Predicates.{top}
use Rattle.rule_table.specs.declared.kind.RuleKind.{RuleKind}
use Rattle.rule_table.specs.declared.kind.RuleKind.TheVariants as kind
use Rattle.rule_table.specs.declared.rule.Antecedent.{Antecedent}
use Rattle.rule_table.specs.declared.rule.Body.{Body}
use Rattle.rule_table.specs.declared.rule.Rule.{Rule}
use Rattle.rule_table.specs.Linear.{is_formula_among}
use Rattle.rule_table.specs.Rows.{adds, backward, both, forward, proves}
use Rattle.rule_table.specs.Rules.{IsSound, rule_of}
use Rattle.rule_table.specs.SetLaws.{member_of_whole}
use Rattle.rule_table.specs.Shapes.{bottom}
use Rattle.sequent_core.specs.declared.sequent.Sequent.{Sequent}
use Rattle.sequent_core.specs.declared.tree.Tree.{Tree}
use Rattle.sequent_core.specs.declared.tree.Tree.TheVariants.{Node}
use Rattle.sequent_core.specs.Sequents.{IsSequent}
use Rattle.short_proofs.specs.Private.{truth}
use Rattle.short_proofs.specs.Short.{IsShortProof}
use Rattle.short_proofs.specs.Sure.{is_reflexive, IsSmallSequent, IsSureByLogic}
use Rattle.short_proofs.proofs.Forms.{top_fits, whole_proof}
use Rattle.short_proofs.proofs.Plain.{is_sound}
use Rattle.short_proofs.proofs.Trees.{IsProofOf, is_short}

pub sound_as : (k : RuleKind) (d b : Body) → IsSound k d → b ≡ d → IsSound k b
sound_as k d b h e = subst (IsSound k) (sym e) h

pub sound_law : (k : List ℕ → RuleKind) (place : List ℕ) (d b : Body) → IsSound (k []) d → place ≡ [] → b ≡ d → IsSound (k place) b
sound_law k place d b h p e = subst (λ q. IsSound (k q) b) (sym p) (subst (IsSound (k [])) (sym e) h)

pub law_rule : (k : List ℕ → RuleKind) (place : List ℕ) (d b : Body) (r : Rule) → place ≡ [] → b ≡ d → r ≡ rule_of (k place) b → r ≡ rule_of (k []) d
law_rule k place d b r p e h = h ∙ (λ i. rule_of (k (p i)) (e i))

pub tree_alone : (k : RuleKind) (d b : Body) (r : Rule) (t : Tree) → b ≡ d → r ≡ rule_of k b → t ≡ Node r [] → t ≡ Node (rule_of k d) []
tree_alone k d b r t e er et = et ∙ (λ i. Node (er i) []) ∙ (λ i. Node (rule_of k (e i)) [])

-- a proof of one rule, as it is built
pub short_as : (s : Sequent) (k : RuleKind) (d b : Body) (r : Rule) (t : Tree) → IsProofOf 1 (Node (rule_of k d) []) s → b ≡ d → r ≡ rule_of k b → t ≡ Node r [] → IsShortProof t s
short_as s k d b r t p e er et = subst (λ u. IsShortProof u s) (sym (tree_alone k d b r t e er et)) (is_short 1 _ s (omega arith) p)

abbrev nowhere : Sequent
nowhere = record { env = []; hyps = []; goal = top }

pub truth_is_sound : IsSound kind.Top (backward top [])
truth_is_sound = is_sound nowhere kind.Top (backward top []) (top_fits [], tt) (top_fits [], tt) refl tt

pub whole_as : (s : Sequent) (is : IsSequent s) (small : IsSmallSequent s) → is_some (member_of_whole s.goal) ≡ true → (r : Rule) (below t : Tree)
    → r ≡ rule_of (kind.RwGoal 55 []) (backward s.goal (proves top ∷ [])) → below ≡ truth → t ≡ Node r (below ∷ []) → IsShortProof t s
whole_as s is small h r below t er el et =
    subst (λ u. IsShortProof u s) (sym (et ∙ (λ i. Node (er i) (el i ∷ [])))) (is_short 2 _ s (omega arith) (whole_proof s is small h))

-- a stronger claim on what is there
pub weaker : {T E : Type 0} {P Q : T → Type 0} (r : Result T E) → ((t : T) → P t → Q t) → IfOk r P → IfOk r Q
weaker (Ok t) f h = f t h
weaker (Err e) f h = tt

-- which sequents are sure by logic
left : (p q : Bool) → p ≡ true → (p || q) ≡ true
left p q h = ap (λ x. x || q) h

right : (p q : Bool) → q ≡ true → (p || q) ≡ true
right true q h = refl
right false q h = h

neither : (p q : Bool) → p ≡ false → q ≡ false → (p || q) ≡ false
neither p q h k = ap (λ x. x || q) h ∙ k

module _ (s : Sequent) (small : IsSmallSequent s) where
  abbrev is_top : Bool
  is_top = same_formula s.goal top

  abbrev is_bottom : Bool
  is_bottom = is_formula_among s.hyps bottom

  abbrev is_hyp : Bool
  is_hyp = is_formula_among s.hyps s.goal

  abbrev is_equal : Bool
  is_equal = is_reflexive s.goal

  abbrev is_whole : Bool
  is_whole = is_some (member_of_whole s.goal)

  pub sure_top : same_formula s.goal top ≡ true → IsSureByLogic s
  sure_top h = record { small = small; follows = left (is_top || is_bottom || is_hyp || is_equal) is_whole (left (is_top || is_bottom || is_hyp) is_equal (left (is_top || is_bottom) is_hyp (left is_top is_bottom h))) }

  pub sure_bottom : is_formula_among s.hyps bottom ≡ true → IsSureByLogic s
  sure_bottom h = record { small = small; follows = left (is_top || is_bottom || is_hyp || is_equal) is_whole (left (is_top || is_bottom || is_hyp) is_equal (left (is_top || is_bottom) is_hyp (right is_top is_bottom h))) }

  pub sure_hyp : is_formula_among s.hyps s.goal ≡ true → IsSureByLogic s
  sure_hyp h = record { small = small; follows = left (is_top || is_bottom || is_hyp || is_equal) is_whole (left (is_top || is_bottom || is_hyp) is_equal (right (is_top || is_bottom) is_hyp h)) }

  pub sure_equal : is_reflexive s.goal ≡ true → IsSureByLogic s
  sure_equal h = record { small = small; follows = left (is_top || is_bottom || is_hyp || is_equal) is_whole (right (is_top || is_bottom || is_hyp) is_equal h) }

  pub sure_whole : is_some (member_of_whole s.goal) ≡ true → IsSureByLogic s
  sure_whole h = record { small = small; follows = right (is_top || is_bottom || is_hyp || is_equal) is_whole h }

  pub unsure : same_formula s.goal top ≡ false → is_formula_among s.hyps bottom ≡ false → is_formula_among s.hyps s.goal ≡ false → is_reflexive s.goal ≡ false → is_some (member_of_whole s.goal) ≡ false → IsSureByLogic s → ⊥
  unsure a b c d e h =
      let no = neither (is_top || is_bottom || is_hyp || is_equal) is_whole (neither (is_top || is_bottom || is_hyp) is_equal (neither (is_top || is_bottom) is_hyp (neither is_top is_bottom a b) c) d) e in
      let yes = h.follows in
      cc
