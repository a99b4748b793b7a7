-- Where the parts of a line end, and the parts of a hint.
use Rattle.std.specs.Prelude.{◌≡◌, ℕ, ◌+◌, ◌==◌, ◌&&◌, Bool, false, List, [], ◌∷◌, ◌++◌, if◌then◌else◌}
use Rattle.std.specs.List.{AllZip, flat_map}
use Rattle.formula_core.specs.declared.raw.Raw.{Raw}
use Rattle.math_grammar.specs.declared.holes.Hole.{Hole}
use Rattle.math_grammar.specs.declared.holes.Hole.TheVariants as hole
use Rattle.step_items.specs.declared.item.Item.{Item}
use Rattle.step_items.specs.declared.item.Item.TheVariants as item
use Rattle.step_items.specs.declared.hints.Parts.{Parts}
use Rattle.step_items.specs.Hints.{hyps_of, multipliers_of, names_in_item, terms_in_item, laws_of}
use Rattle.step_items.specs.Terms.{IsTermText}

-- a double semicolon stands in front
abbrev pub is_marked : List ℕ → Bool
is_marked (c ∷ d ∷ rest) = c == 59 && d == 59
is_marked _ = false

-- how many bytes stand before the first double semicolon
abbrev pub before_mark : List ℕ → ℕ
before_mark [] = 0
before_mark (c ∷ rest) = if is_marked (c ∷ rest) then 0 else 1 + before_mark rest

-- the formulas are spelled so
abbrev pub AreTermTexts : List (Hole × List ℕ) → List Raw → Type 0
AreTermTexts written terms = AllZip (λ one t. IsTermText one.0 one.1 t) written terms

-- the item is added to the parts
pub record AddsItem (it : Item) (old new : Parts) : Type 0 where
  pub hyps : new.hyps.items ≡ old.hyps.items ++ hyps_of it
  pub multipliers : new.multipliers.items ≡ old.multipliers.items ++ multipliers_of it
  pub names : new.names.items ≡ old.names.items ++ names_in_item it
  pub laws : new.laws.items ≡ old.laws.items ++ laws_of it
  pub read : List Raw
  pub terms : new.terms.items ≡ old.terms.items ++ read
  pub spelled : AreTermTexts (terms_in_item it) read

-- it has a formula, which can't be read
abbrev pub IsUnreadable : Item → Type 0
IsUnreadable (item.Expression bytes) = (t : Raw) → IsTermText hole.Expression bytes t → ⊥
IsUnreadable (item.Predicate bytes) = (t : Raw) → IsTermText hole.Predicate bytes t → ⊥
IsUnreadable _ = ⊥

-- the parts that the items have together
pub record AreParts (items : List Item) (parts : Parts) : Type 0 where
  pub hyps : parts.hyps.items ≡ flat_map hyps_of items
  pub multipliers : parts.multipliers.items ≡ flat_map multipliers_of items
  pub names : parts.names.items ≡ flat_map names_in_item items
  pub laws : parts.laws.items ≡ flat_map laws_of items
  pub terms : AreTermTexts (flat_map terms_in_item items) parts.terms.items
