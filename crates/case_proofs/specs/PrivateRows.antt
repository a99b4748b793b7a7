-- The tree of a formula over those of its ways, and the rules that it takes.
use Rattle.std.specs.Prelude.{Bool, true, false, List, [], ◌∷◌, if◌then◌else◌}
use Rattle.formula_core.specs.declared.Formula.{Formula, out-Formula}
use Rattle.formula_core.specs.declared.Formula.TheOpen.{Formula-F, Node}
use Rattle.formula_core.specs.declared.Op.{Op}
use Rattle.formula_core.specs.declared.Op.TheVariants as op
use Rattle.rule_table.specs.Shapes.{negation}
use Rattle.sequent_core.specs.declared.tree.Tree.{Tree}
use Rattle.case_trees.specs.Trees.{AndIsSound, OrIsSound, ImpIsSound, ContraIsSound, LawIsSound, DeniedAndIsSound, DeniedOrIsSound, DeniedImpIsSound, SameIsSound, DifferIsSound, ContrIsSound, BottomIsSound, TopIsSound}
use Rattle.case_trees.specs.Trees.{and_tree, or_tree, imp_tree, contra_tree, law_tree, denied_and_tree, denied_or_tree, denied_imp_tree, same_tree, differ_tree, contr_tree, bottom_tree, top_tree}
use Rattle.case_proofs.specs.PrivateWays.{Signed, is_absurd}

abbrev pub OneIsSound : Op → Bool → Formula → Formula → Type 0
OneIsSound op.Not false f p = LawIsSound 1 (negation f) p
OneIsSound _ s f p = Unit {0}

abbrev pub TwoIsSound : Op → Bool → Formula → Formula → Formula → Type 0
TwoIsSound op.And true f p q = AndIsSound f p q
TwoIsSound op.And false f p q = DeniedAndIsSound f p q
TwoIsSound op.Or true f p q = OrIsSound f p q
TwoIsSound op.Or false f p q = DeniedOrIsSound f p q
TwoIsSound op.Implies true f p q = ImpIsSound f p q × ContraIsSound p
TwoIsSound op.Implies false f p q = DeniedImpIsSound f p q
TwoIsSound op.Equivalent true f p q = SameIsSound f p q
TwoIsSound op.Equivalent false f p q = DifferIsSound f p q
TwoIsSound _ s f p q = Unit {0}

abbrev pub PartsAreSound : Op → Bool → Formula → List Formula → Type 0
PartsAreSound o s f (p ∷ []) = OneIsSound o s f p
PartsAreSound o s f (p ∷ q ∷ []) = TwoIsSound o s f p q
PartsAreSound o s f _ = Unit {0}

abbrev pub SoundAt : Formula-F Formula → Bool → Formula → Type 0
SoundAt (Node o parts t) s f = PartsAreSound o s f parts
SoundAt _ s f = Unit {0}

-- the rules for it are right
abbrev pub AreSound : Signed → Type 0
AreSound x = SoundAt (out-Formula x.0) x.1 x.0

-- ¬P said to be true is P said to be false: no rule
abbrev pub one_of_one : Op → Bool → Formula → Formula → Tree → Tree
one_of_one op.Not false f p t = law_tree 1 (negation f) p t
one_of_one _ s f p t = t

abbrev pub one_of_two : Op → Bool → Formula → Formula → Formula → Tree → Tree
one_of_two op.And true f p q t = and_tree f p q t
one_of_two op.Or false f p q t = denied_or_tree f p q t
one_of_two op.Implies false f p q t = denied_imp_tree f p q t
one_of_two _ s f p q t = t

abbrev pub one_of_parts : Op → Bool → Formula → List Formula → Tree → Tree
one_of_parts o s f (p ∷ []) t = one_of_one o s f p t
one_of_parts o s f (p ∷ q ∷ []) t = one_of_two o s f p q t
one_of_parts o s f _ t = t

abbrev pub one_at : Formula-F Formula → Bool → Formula → Tree → Tree
one_at (Node o parts y) s f t = one_of_parts o s f parts t
one_at _ s f t = t

-- over the tree of its only way
abbrev pub one_tree : Signed → Tree → Tree
one_tree x t = one_at (out-Formula x.0) x.1 x.0 t

abbrev pub two_of_two : Op → Bool → Formula → Formula → Formula → Tree → Tree → Tree
two_of_two op.And false f p q t u = denied_and_tree f p q t u
two_of_two op.Or true f p q t u = or_tree f p q t u
two_of_two op.Implies true f p q t u = imp_tree f p q (contra_tree p t) u
two_of_two op.Equivalent true f p q t u = same_tree f p q t u
two_of_two op.Equivalent false f p q t u = differ_tree f p q t u
two_of_two _ s f p q t u = t

abbrev pub two_of_parts : Op → Bool → Formula → List Formula → Tree → Tree → Tree
two_of_parts o s f (p ∷ q ∷ []) t u = two_of_two o s f p q t u
two_of_parts o s f _ t u = t

abbrev pub two_at : Formula-F Formula → Bool → Formula → Tree → Tree → Tree
two_at (Node o parts y) s f t u = two_of_parts o s f parts t u
two_at _ s f t u = t

-- over the trees of its two ways
abbrev pub two_tree : Signed → Tree → Tree → Tree
two_tree x t u = two_at (out-Formula x.0) x.1 x.0 t u

-- what contradicts itself, or else is said to be true and to be false
abbrev pub EndIsSound : Signed → Type 0
EndIsSound x = BottomIsSound × TopIsSound × ContrIsSound x.0

abbrev pub end_tree : Signed → Tree
end_tree x = if is_absurd x then (if x.1 then bottom_tree else top_tree) else contr_tree x.0
