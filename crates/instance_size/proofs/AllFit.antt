-- There is room for each formula that was looked at.
use Rattle.std.proofs.Common.{◌≡◌, ◌∙◌, sym, ap, refl, ℕ, ◌+◌, ◌≤◌, ◌<◌, ◌++◌, append_assoc, get_or, length, map, max, take, List, [], ◌∷◌, Option, Some, None, arith}
use Rattle.std.proofs.lemmas.List.{take_more, append-nil}
use Rattle.std.specs.List.{AllByRecursion}
use Rattle.std.specs.Option.{option_to_list}
use Rattle.formula_core.specs.declared.Formula.{Formula}
use Rattle.formula_core.specs.Formulas.{joined}
use Rattle.formula_core.specs.Sizes.{formula_height, formula_nodes, greatest}
use Rattle.rule_table.specs.declared.rule.Antecedent.{Antecedent}
use Rattle.rule_table.specs.Rules.{antecedent_formulas}
use Rattle.condition_size.specs.Sizes.{clamped}
use Rattle.instance_size.specs.declared.extent.Extent.{Extent}
use Rattle.instance_size.specs.Extents.{HasRoom, room_for}
use Rattle.instance_size.specs.Private.{no_parts, room_over, widened}

wider : (n a b : ℕ) → n ≤ a → n ≤ max a b
wider n a b h = omega arith

last : (a b : ℕ) → b ≤ max a b
last a b = omega arith

kept : (r : Extent) (f g : Formula) → HasRoom r g → HasRoom (widened r f) g
kept r f g h = record { nodes = wider _ _ _ h.nodes; height = wider _ _ _ h.height }

all_kept : (r : Extent) (fs : List Formula) (g : Formula) → HasRoom r g → HasRoom (room_over r fs) g
all_kept r [] g h = h
all_kept r (f ∷ fs) g h = all_kept (widened r f) fs g (kept r f g h)

pub all_fit : (r : Extent) (fs : List Formula) → AllByRecursion (HasRoom (room_over r fs)) fs
all_fit r [] = tt
all_fit r (f ∷ fs) = (all_kept (widened r f) fs f (record { nodes = last r.nodes (clamped (formula_nodes f)); height = last r.height (clamped (formula_height f)) }), all_fit (widened r f) fs)

pub room_over_append : (r : Extent) (fs gs : List Formula) → room_over r (fs ++ gs) ≡ room_over (room_over r fs) gs
room_over_append r [] gs = refl
room_over_append r (f ∷ fs) gs = room_over_append (widened r f) fs gs

-- one more formula, and one more antecedent

take-one_more : {X : Type 0} (xs : List X) (i : ℕ) (x : X) → i < length xs → x ≡ get_or xs i x → take (i + 1) xs ≡ take i xs ++ x ∷ []
take-one_more xs i x h e = take_more xs i x h ∙ ap (λ y. take i xs ++ y ∷ []) (sym e)

pub over_more : (r : Extent) (fs : List Formula) (i : ℕ) (f : Formula) → i < length fs → f ≡ get_or fs i f → widened (room_over r (take i fs)) f ≡ room_over r (take (i + 1) fs)
over_more r fs i f h e = sym (ap (room_over r) (take-one_more fs i f h e) ∙ room_over_append r (take i fs) (f ∷ []))

abbrev left : List Antecedent → List Formula
left antecedents = joined (map antecedent_formulas antecedents)

left-more : (bs : List Antecedent) (a : Antecedent) → left (bs ++ a ∷ []) ≡ left bs ++ antecedent_formulas a
left-more [] a = append-nil (antecedent_formulas a)
left-more (b ∷ bs) a = ap (λ fs. antecedent_formulas b ++ fs) (left-more bs a) ∙ sym (append_assoc (antecedent_formulas b) (left bs) (antecedent_formulas a))

pub left_over_more : (r : Extent) (bs : List Antecedent) (i : ℕ) (a : Antecedent) → i < length bs → a ≡ get_or bs i a
    → room_over (room_over r (left (take i bs))) (antecedent_formulas a) ≡ room_over r (left (take (i + 1) bs))
left_over_more r bs i a h e = sym (
    ap (λ bs. room_over r (left bs)) (take-one_more bs i a h e) ∙ ap (room_over r) (left-more (take i bs) a) ∙ room_over_append r (left (take i bs)) (antecedent_formulas a)
    )

pub over_goal : (r : Extent) (a : Antecedent) (g : Formula) → a.goal ≡ Some g → widened (room_over r a.hyps) g ≡ room_over r (antecedent_formulas a)
over_goal r a g e = sym (ap (λ o. room_over r (a.hyps ++ option_to_list o)) e ∙ room_over_append r a.hyps (g ∷ []))

pub over_no_goal : (r : Extent) (a : Antecedent) → a.goal ≡ None → room_over r a.hyps ≡ room_over r (antecedent_formulas a)
over_no_goal r a e = sym (ap (λ o. room_over r (a.hyps ++ option_to_list o)) e ∙ ap (room_over r) (append-nil a.hyps))

-- the room is the least

abbrev made : ℕ → ℕ → Extent
made n h = record { nodes = n; height = h }

made_of : (n m h k : ℕ) → n ≡ m → h ≡ k → made n h ≡ made m k
made_of n m h k e f = λ i. made (e i) (f i)

abbrev least_over : Extent → List Formula → Extent
least_over r fs = record { nodes = max r.nodes (clamped (greatest (map formula_nodes fs))); height = max r.height (clamped (greatest (map formula_height fs))) }

no_more : (a : ℕ) → a ≡ max a (clamped 0)
no_more a = omega arith

more : (a b c : ℕ) → max (max a (clamped b)) (clamped c) ≡ max a (clamped (max b c))
more a b c = omega arith

over_least : (r : Extent) (fs : List Formula) → room_over r fs ≡ least_over r fs
over_least r [] = made_of _ _ _ _ (no_more r.nodes) (no_more r.height)
over_least r (f ∷ fs) = over_least (widened r f) fs ∙ made_of _ _ _ _
    (more r.nodes (formula_nodes f) (greatest (map formula_nodes fs))) (more r.height (formula_height f) (greatest (map formula_height fs)))

above_none : (a : ℕ) → max 0 a ≡ a
above_none a = omega arith

pub least : (fs : List Formula) → room_over no_parts fs ≡ room_for fs
least fs = over_least no_parts fs ∙ made_of _ _ _ _ (above_none (clamped (greatest (map formula_nodes fs)))) (above_none (clamped (greatest (map formula_height fs))))
