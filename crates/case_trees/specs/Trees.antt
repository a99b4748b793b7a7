-- Trees of the rules on connectives, over trees of what these leave, and the rules in them that have to be right.
use Rattle.std.specs.Prelude.{ℕ, [], ◌∷◌}
use Rattle.formula_core.specs.declared.Formula.{Formula}
use Rattle.well_defined.specs.Predicates.{top, conjunction, disjunction, implication}
use Rattle.rule_table.specs.declared.kind.RuleKind.TheVariants as kind
use Rattle.rule_table.specs.Shapes.{negation, equivalence, bottom}
use Rattle.rule_table.specs.Rows.{proves, adds, assumes, backward, forward}
use Rattle.rule_table.specs.Rules.{IsSound, rule_of}
use Rattle.sequent_core.specs.declared.tree.Tree.{Tree}
use Rattle.sequent_core.specs.declared.tree.Tree.TheVariants.{Node}

-- a hypothesis h that is P ∧ Q, P ∨ Q or P ⇒ Q; of P ⇒ Q the first tree proves P
abbrev pub AndIsSound : Formula → Formula → Formula → Type 0
AndIsSound h p q = IsSound kind.AndL (forward (h ∷ []) (adds (p ∷ q ∷ []) ∷ []))

abbrev pub and_tree : Formula → Formula → Formula → Tree → Tree
and_tree h p q t = Node (rule_of kind.AndL (forward (h ∷ []) (adds (p ∷ q ∷ []) ∷ []))) (t ∷ [])

abbrev pub OrIsSound : Formula → Formula → Formula → Type 0
OrIsSound h p q = IsSound kind.OrL (forward (h ∷ []) (adds (p ∷ []) ∷ adds (q ∷ []) ∷ []))

abbrev pub or_tree : Formula → Formula → Formula → Tree → Tree → Tree
or_tree h p q t u =
    Node (rule_of kind.OrL (forward (h ∷ []) (adds (p ∷ []) ∷ adds (q ∷ []) ∷ []))) (t ∷ u ∷ [])

abbrev pub ImpIsSound : Formula → Formula → Formula → Type 0
ImpIsSound h p q = IsSound kind.ImpL (forward (h ∷ []) (proves p ∷ adds (q ∷ []) ∷ []))

abbrev pub imp_tree : Formula → Formula → Formula → Tree → Tree → Tree
imp_tree h p q t u = Node (rule_of kind.ImpL (forward (h ∷ []) (proves p ∷ adds (q ∷ []) ∷ []))) (t ∷ u ∷ [])

-- P ⇔ Q, as the two implications, and P ⇒ Q beside P
abbrev pub IffIsSound : Formula → Formula → Formula → Type 0
IffIsSound h p q = IsSound kind.IffL (forward (h ∷ []) (adds (implication p q ∷ implication q p ∷ []) ∷ []))

abbrev pub iff_tree : Formula → Formula → Formula → Tree → Tree
iff_tree h p q t =
    Node (rule_of kind.IffL (forward (h ∷ []) (adds (implication p q ∷ implication q p ∷ []) ∷ []))) (t ∷ [])

abbrev pub MpIsSound : Formula → Formula → Formula → Type 0
MpIsSound h p q = IsSound kind.Mp (forward (h ∷ p ∷ []) (adds (q ∷ []) ∷ []))

abbrev pub mp_tree : Formula → Formula → Formula → Tree → Tree
mp_tree h p q t = Node (rule_of kind.Mp (forward (h ∷ p ∷ []) (adds (q ∷ []) ∷ []))) (t ∷ [])

-- a hypothesis that a law rewrites
abbrev pub LawIsSound : ℕ → Formula → Formula → Type 0
LawIsSound law h d = IsSound (kind.RwHyp law []) (forward (h ∷ []) (adds (d ∷ []) ∷ []))

abbrev pub law_tree : ℕ → Formula → Formula → Tree → Tree
law_tree law h d t = Node (rule_of (kind.RwHyp law []) (forward (h ∷ []) (adds (d ∷ []) ∷ []))) (t ∷ [])

-- a goal P whose negation is refuted, and a goal ¬P where P is
abbrev pub ContraIsSound : Formula → Type 0
ContraIsSound p = IsSound kind.Contra (backward p (assumes (negation p) bottom ∷ []))

abbrev pub contra_tree : Formula → Tree → Tree
contra_tree p t = Node (rule_of kind.Contra (backward p (assumes (negation p) bottom ∷ []))) (t ∷ [])

abbrev pub NotIsSound : Formula → Type 0
NotIsSound p = IsSound kind.NotR (backward (negation p) (assumes p bottom ∷ []))

abbrev pub not_tree : Formula → Tree → Tree
not_tree p t = Node (rule_of kind.NotR (backward (negation p) (assumes p bottom ∷ []))) (t ∷ [])

-- the ends: P beside ¬P, ⊥, and ¬⊤
abbrev pub ContrIsSound : Formula → Type 0
ContrIsSound p = IsSound kind.Contr (forward (p ∷ negation p ∷ []) [])

abbrev pub contr_tree : Formula → Tree
contr_tree p = Node (rule_of kind.Contr (forward (p ∷ negation p ∷ []) [])) []

abbrev pub BottomIsSound : Type 0
BottomIsSound = IsSound kind.Bot (forward (bottom ∷ []) [])

abbrev pub bottom_tree : Tree
bottom_tree = Node (rule_of kind.Bot (forward (bottom ∷ []) [])) []

abbrev pub TopIsSound : Type 0
TopIsSound = IsSound kind.NotL (forward (negation top ∷ []) (proves top ∷ [])) × IsSound kind.Top (backward top [])

abbrev pub top_tree : Tree
top_tree =
    Node (rule_of kind.NotL (forward (negation top ∷ []) (proves top ∷ [])))
    (Node (rule_of kind.Top (backward top [])) [] ∷ [])

-- f, which is P ∧ Q, P ∨ Q or P ⇒ Q, is denied
abbrev pub DeniedAndIsSound : Formula → Formula → Formula → Type 0
DeniedAndIsSound f p q =
    LawIsSound 2 (negation f) (disjunction (negation p) (negation q))
    × OrIsSound (disjunction (negation p) (negation q)) (negation p) (negation q)

abbrev pub denied_and_tree : Formula → Formula → Formula → Tree → Tree → Tree
denied_and_tree f p q t u =
    law_tree 2 (negation f) (disjunction (negation p) (negation q))
    (or_tree (disjunction (negation p) (negation q)) (negation p) (negation q) t u)

abbrev pub DeniedOrIsSound : Formula → Formula → Formula → Type 0
DeniedOrIsSound f p q =
    LawIsSound 3 (negation f) (conjunction (negation p) (negation q))
    × AndIsSound (conjunction (negation p) (negation q)) (negation p) (negation q)

abbrev pub denied_or_tree : Formula → Formula → Formula → Tree → Tree
denied_or_tree f p q t =
    law_tree 3 (negation f) (conjunction (negation p) (negation q))
    (and_tree (conjunction (negation p) (negation q)) (negation p) (negation q) t)

abbrev pub DeniedImpIsSound : Formula → Formula → Formula → Type 0
DeniedImpIsSound f p q =
    LawIsSound 4 (negation f) (conjunction p (negation q)) × AndIsSound (conjunction p (negation q)) p (negation q)

abbrev pub denied_imp_tree : Formula → Formula → Formula → Tree → Tree
denied_imp_tree f p q t =
    law_tree 4 (negation f) (conjunction p (negation q)) (and_tree (conjunction p (negation q)) p (negation q) t)

-- a hypothesis P ⇔ Q: either both are false, where the first tree proves Q from ¬P, or both are true
abbrev pub BothWaysAreSound : Formula → Formula → Formula → Type 0
BothWaysAreSound h p q =
    IffIsSound h p q × ImpIsSound (implication p q) p q × ImpIsSound (implication q p) q p
    × ContraIsSound p × ContrIsSound p × MpIsSound (implication q p) q p

abbrev pub neither_tree : Formula → Formula → Tree → Tree
neither_tree p q t = contra_tree p (imp_tree (implication q p) q p t (contr_tree p))

abbrev pub both_ways_tree : Formula → Formula → Formula → Tree → Tree → Tree
both_ways_tree h p q t u =
    iff_tree h p q (imp_tree (implication p q) p q (neither_tree p q t) (mp_tree (implication q p) q p u))

-- P ⇔ Q, over trees that refute ¬P and ¬Q, and P and Q
abbrev pub SameIsSound : Formula → Formula → Formula → Type 0
SameIsSound h p q = BothWaysAreSound h p q × ContraIsSound q

abbrev pub same_tree : Formula → Formula → Formula → Tree → Tree → Tree
same_tree h p q t u = both_ways_tree h p q (contra_tree q t) u

-- f, which is P ⇔ Q, is denied, over trees that refute ¬P and Q, and P and ¬Q
abbrev pub DifferIsSound : Formula → Formula → Formula → Type 0
DifferIsSound f p q =
    LawIsSound 5 (negation f) (equivalence p (negation q))
    × BothWaysAreSound (equivalence p (negation q)) p (negation q) × NotIsSound q

abbrev pub differ_tree : Formula → Formula → Formula → Tree → Tree → Tree
differ_tree f p q t u =
    law_tree 5 (negation f) (equivalence p (negation q))
    (both_ways_tree (equivalence p (negation q)) p (negation q) (not_tree q t) u)
