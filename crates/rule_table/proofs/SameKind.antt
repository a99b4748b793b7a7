-- A kind of rule is known by its number and by what it has of its own.
use Rattle.std.proofs.Common.{◌≡◌, ◌∙◌, sym, ap, refl, ℕ, ℤ, Bool, true, false, List, [], ◌∷◌, Option, Some, slice_get}
use Rattle.std.specs.Prelude.{not, bytes_eq}
use Rattle.std.specs.Cmp.Lexicographic.{pointwise}
use Rattle.std.specs.Cmp.Rules.{signed_items}
use Rattle.std.specs.Ordering.{int_eq}
use Rattle.std.proofs.lemmas.Slice.Eq.{bytes_eq-Decides}
use Rattle.formula_core.specs.declared.Formula.{Formula}
use Rattle.rule_table.specs.declared.kind.RuleKind.{RuleKind}
use Rattle.rule_table.specs.declared.kind.RuleKind.TheVariants as kind
use Rattle.rule_table.specs.Kinds.{kind_number}
use Rattle.rule_table.specs.Parts.{law_in, place_in, multipliers_in}
use Rattle.rule_table.specs.Rules.{terms_of}

-- the kinds in order, from a place before the first
abbrev kinds : ℕ → List ℕ → List ℤ → List Formula → List RuleKind
kinds law place multipliers terms =
    kind.Hyp ∷ kind.Hyp ∷ kind.Top ∷ kind.Bot ∷ kind.Contr ∷ kind.AndR ∷ kind.AndL ∷ kind.OrR ∷ kind.OrL
    ∷ kind.ImpR ∷ kind.ImpL ∷ kind.Mp ∷ kind.IffR ∷ kind.IffL ∷ kind.NotR ∷ kind.NotL ∷ kind.Contra
    ∷ kind.AllR ∷ kind.AllL terms ∷ kind.ExR terms ∷ kind.ExL ∷ kind.Cut ∷ kind.Cases ∷ kind.Review
    ∷ kind.EqRefl ∷ kind.EqGoal ∷ kind.EqHyp ∷ kind.BoolCases ∷ kind.BoolDiff ∷ kind.RwGoal law place
    ∷ kind.RwHyp law place ∷ kind.Linear multipliers ∷ kind.CardNat ∷ kind.FunIn ∷ kind.FunEq
    ∷ kind.OverOther ∷ []

abbrev made : ℕ → ℕ → List ℕ → List ℤ → List Formula → Option RuleKind
made n law place multipliers terms = slice_get (kinds law place multipliers terms) n

made_of : (k : RuleKind) → made (kind_number k) (law_in k) (place_in k) (multipliers_in k) (terms_of k) ≡ Some k
made_of kind.Hyp = refl
made_of _ = refl

some_same : (a b : RuleKind) → Some a ≡ Some b → a ≡ b
some_same a b e = cc e

pub same_kind : (a b : RuleKind) → kind_number a ≡ kind_number b → law_in a ≡ law_in b → place_in a ≡ place_in b
    → multipliers_in a ≡ multipliers_in b → terms_of a ≡ terms_of b → a ≡ b
same_kind a b n l p m t = some_same a b (sym (made_of a) ∙ (λ i. made (n i) (l i) (p i) (m i) (t i)) ∙ made_of b)

-- what a test of two lists has told
told_same : (b c : Bool) → c ≡ not b → c ≡ false → b ≡ true
told_same true c e f = refl
told_same false c e f = sym f ∙ e

told_other : (b c : Bool) → c ≡ not b → c ≡ true → b ≡ true → ⊥
told_other b c e f g = let h : not b ≡ false = ap not g in cc

pub same_places : (xs ys : List ℕ) (c : Bool) → c ≡ not (bytes_eq xs ys) → c ≡ false → xs ≡ ys
same_places xs ys c e f = (bytes_eq-Decides xs ys).0 (told_same (bytes_eq xs ys) c e f)

pub same_numbers : (xs ys : List ℤ) (c : Bool) → c ≡ not (pointwise int_eq xs ys) → c ≡ false → xs ≡ ys
same_numbers xs ys c e f = (signed_items xs ys).0 (told_same (pointwise int_eq xs ys) c e f)

pub other_numbers : (xs ys : List ℤ) (c : Bool) → c ≡ not (pointwise int_eq xs ys) → c ≡ true → xs ≡ ys → ⊥
other_numbers xs ys c e f same = told_other (pointwise int_eq xs ys) c e f ((signed_items xs ys).1 same)
