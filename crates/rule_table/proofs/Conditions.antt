-- Antecedents after that of a condition.
use Rattle.std.proofs.Common.{◌≡◌, refl, Bool, true, false, [], ◌∷◌, ◌++◌, if◌then◌else◌}
use Rattle.formula_core.specs.declared.Formula.{Formula}
use Rattle.well_defined.specs.Connectives.{is_top}
use Rattle.rule_table.specs.declared.rule.Antecedent.{Antecedent}
use Rattle.rule_table.specs.Rows.{proves, after_condition}

one_at : (b : Bool) (l a : Antecedent) → (if b then [] else l ∷ []) ++ a ∷ [] ≡ (if b then a ∷ [] else l ∷ a ∷ [])
one_at true l a = refl
one_at false l a = refl

pub one_more : (f : Formula) (a : Antecedent) → after_condition f [] ++ a ∷ [] ≡ after_condition f (a ∷ [])
one_more f a = one_at (is_top f) (proves f) a

two_at : (b : Bool) (l a c : Antecedent) → ((if b then [] else l ∷ []) ++ a ∷ []) ++ c ∷ [] ≡ (if b then a ∷ c ∷ [] else l ∷ a ∷ c ∷ [])
two_at true l a c = refl
two_at false l a c = refl

pub two_more : (f : Formula) (a c : Antecedent) → (after_condition f [] ++ a ∷ []) ++ c ∷ [] ≡ after_condition f (a ∷ c ∷ [])
two_more f a c = two_at (is_top f) (proves f) a c
