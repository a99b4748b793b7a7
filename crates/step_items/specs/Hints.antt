-- The hint that the items of a step give.
use Rattle.std.specs.Prelude.{◌≡◌, ℕ, ℤ, List, [], ◌∷◌, Option, Some, None}
use Rattle.std.specs.List.{AllZip, flat_map}
use Rattle.formula_core.specs.declared.raw.Raw.{Raw}
use Rattle.math_grammar.specs.declared.holes.Hole.{Hole}
use Rattle.math_grammar.specs.declared.holes.Hole.TheVariants as hole
use Rattle.sequent_core.specs.declared.hint.Hint.{Hint}
use Rattle.step_items.specs.declared.item.Item.{Item}
use Rattle.step_items.specs.declared.item.Item.TheVariants as item
use Rattle.step_items.specs.Terms.{IsTermText}

abbrev pub hyps_of : Item → List ℕ
hyps_of (item.Hyp number) = number ∷ []
hyps_of (item.Multiplied number multiplier) = number ∷ []
hyps_of _ = []

abbrev pub multipliers_of : Item → List ℤ
multipliers_of (item.Multiplied number multiplier) = multiplier ∷ []
multipliers_of _ = []

abbrev pub names_in_item : Item → List (List ℕ)
names_in_item (item.Fresh name) = name ∷ []
names_in_item _ = []

abbrev pub terms_in_item : Item → List (Hole × List ℕ)
terms_in_item (item.Expression bytes) = (hole.Expression, bytes) ∷ []
terms_in_item (item.Predicate bytes) = (hole.Predicate, bytes) ∷ []
terms_in_item _ = []

abbrev pub laws_of : Item → List (ℕ × List ℕ)
laws_of (item.Law law place) = (law, place) ∷ []
laws_of _ = []

-- the only law with its place; 0 at the root where there is none
abbrev pub only_law : List (ℕ × List ℕ) → Option (ℕ × List ℕ)
only_law [] = Some (0, [])
only_law (law ∷ []) = Some law
only_law _ = None

-- The items give the hint: each list in the order of the items, the formulas as they are spelled, and at most one law.
pub record IsHint (items : List Item) (hint : Hint) : Type 0 where
  pub hyps : hint.hyps ≡ flat_map hyps_of items
  pub multipliers : hint.multipliers ≡ flat_map multipliers_of items
  pub names : hint.names ≡ flat_map names_in_item items
  pub terms : AllZip (λ written t. IsTermText written.0 written.1 t) (flat_map terms_in_item items) hint.terms
  pub law : only_law (flat_map laws_of items) ≡ Some (hint.law, hint.place)
