-- The printed text of a formula reads back as the formula.
use Rattle.std.proofs.Common.{◌≡◌, ◌∙◌, sym, ap, subst, refl, ℕ, zero, suc, ◌+◌, ◌<◌, ◌≤◌, Bool, true, false, cond, nat_lt, List, [], ◌∷◌, length, map, take, drop, arith, Option, Some, None, Result, Ok, Err, inl, inr}
use Rattle.std.specs.Prelude.{◌^◌}
use Rattle.std.specs.Map.{keys_of}
use Rattle.std.proofs.lemmas.List.{length-map, take-append-drop}
use Rattle.std.proofs.lemmas.Bool.Decides.{nat_tests}
use Rattle.formula_core.specs.declared.ty.Ty.{Ty}
use Rattle.formula_core.specs.declared.formula.Formula.{Formula}
use Rattle.formula_core.specs.declared.raw.Raw.{Raw}
use Rattle.formula_core.specs.Identifiers.{identifiers}
use Rattle.formula_core.specs.Wellness.{type_of, is_well}
use Rattle.math_grammar.specs.declared.holes.Hole.{Hole}
use Rattle.math_grammar.specs.declared.symbols.Symbol.{Symbol}
use Rattle.math_grammar.specs.Tokens.{Item, items_of}
use Rattle.math_grammar.specs.Grammar.{Spells}
use Rattle.formula_parse.specs.Limits.{most_parts, passes, open_after, first_large_from}
use Rattle.formula_parse.specs.Faults.{BeginsOne, IsUnexpected}
use Rattle.formula_parse.specs.declared.fault.ParseFault.{ParseFault}
use Rattle.formula_parse.specs.declared.fault.ParseFault.TheVariants as fault
use Rattle.formula_parse.proofs.Place.{one_tree}
use Rattle.math_tokens.proofs.OneWay.{cut_is_one}
use Rattle.formula_print.specs.Depths.{deepest}
use Rattle.formula_print.specs.Printing.{formula_text}
use Rattle.formula_print.specs.Written.{raw_of, IsTypedBack}
use Rattle.formula_print.proofs.FreshNames.{fresh}
use Rattle.formula_print.proofs.TypedBack.{typed_back}
use Rattle.math_places.specs.Places.{unplaced_item, unplaced, AlikeTokens}
use Rattle.math_places.proofs.Spelled.{spelled_again}
use Rattle.math_print.proofs.OtherPlaces.{formula_again}
use Rattle.token_text.specs.Spacing.{without_place, IsCutInto}
use Rattle.math_print.specs.Grades.{items_of_formula, place_for}
use Rattle.formula_print.specs.Held.{HasNames, HasFewNames}
use Rattle.formula_print.specs.Held.{HasNarrowNumbers}
use Rattle.math_print.specs.Back.{IsTypedAgain, IsAnswer, IsTreeOrLarge, ReadsBack}
use Rattle.math_print.proofs.AnyLimit.{is_limited, AreUnlimited, spelled_within}
use Rattle.math_print.proofs.Unlimited.{unlimited}
use Rattle.math_print.proofs.Placeless.{raw_placeless}
use Rattle.math_print.proofs.Known.{nothing_unknown}
use Rattle.math_print.proofs.Back.{spelled}
use Rattle.math_print.proofs.CutBack.{text_cut}

-- Tokens that are alike.

abbrev placed : Symbol × List ℕ → Item
placed x = record { symbol = x.0; from = 0; text = x.1 }

placed_all : (s : List Item) → map placed (map without_place s) ≡ map unplaced_item s
placed_all [] = refl
placed_all (x ∷ s) = ap (λ (l : List Item). unplaced_item x ∷ l) (placed_all s)

alike : (s others : List Item) → map without_place others ≡ map without_place s → AlikeTokens s others
alike s others e = sym (placed_all s) ∙ ap (map placed) (sym e) ∙ placed_all others

still_unlimited : (s others : List Item) → map without_place others ≡ map without_place s → AreUnlimited s → AreUnlimited others
still_unlimited [] [] e all = tt
still_unlimited [] (y ∷ others) e all = cc
still_unlimited (x ∷ s) [] e all = cc
still_unlimited (x ∷ s) (y ∷ others) e all =
    let first : without_place y ≡ without_place x = cc in
    let rest : map without_place others ≡ map without_place s = cc in
    (ap (λ (z : Symbol × List ℕ). is_limited z.0) first ∙ all.0, still_unlimited s others rest all.1)

-- What the parser answers.

large_here : (here : Bool) (i j : ℕ) (o p : Option ℕ) → (o ≡ Some j → p ≡ Some j) → cond here (Some i) o ≡ Some j → cond here (Some i) p ≡ Some j
large_here true i j o p further e = e
large_here false i j o p further e = further e

large_in_front : (k i n : ℕ) (s : List Item) (j : ℕ) → first_large_from i n (take k s) ≡ Some j → first_large_from i n s ≡ Some j
large_in_front zero i n s j e = cc
large_in_front (suc k) i n [] j e = e
large_in_front (suc k) i n (x ∷ s) j e =
    large_here (passes i n x.symbol) i j (first_large_from (i + 1) (open_after n x.symbol) (take k s)) (first_large_from (i + 1) (open_after n x.symbol) s) (large_in_front k (i + 1) (open_after n x.symbol) s j) e

module _ (h : Hole) (tokens : List Item) (tree : Raw) (spells : (limit : Option ℕ) → Spells limit h tokens tree) where
  goes_on : (limit : Option ℕ) (k : ℕ) → BeginsOne (Spells limit h) (take k tokens)
  goes_on limit k = (drop k tokens, tree, subst (λ (s : List Item). Spells limit h s tree) (sym (take-append-drop k tokens)) (spells limit))

  never : (i : ℕ) → i ≤ length tokens → IsUnexpected None h tokens i → ⊥
  never i within u = go (nat_lt i (length tokens)) refl
    where
      go : (inside : Bool) → nat_lt i (length tokens) ≡ inside → ⊥
      go true e = u.there (grind (arith, nat_tests)) (goes_on None (i + 1))
      go false e = let last : i ≡ length tokens = grind (arith, nat_tests) in u.at_end last tree (spells None)

  tree_or_large : (answer : Result Raw ParseFault) → IsAnswer h tokens answer → IsTreeOrLarge tokens tree answer
  tree_or_large (Ok t) a = (a.0.1, one_tree most_parts h tokens t tree a.0.0 (spells most_parts))
  tree_or_large (Err fault.OutOfMemory) a = tt
  tree_or_large (Err (fault.TooLarge i)) a = elim a.1.3 [ inl large ↦ large_in_front (i + 1) 0 0 tokens i large | inr no_more ↦ absurd (no_more.1 (goes_on most_parts (i + 1))) ]
  tree_or_large (Err (fault.Unexpected i)) a = never i a.1.0 a.1.2

-- The law.

typed_again : (f : Formula) → is_well f ≡ true → HasFewNames f → IsTypedBack f
typed_again f well counted =
    let same : length (keys_of (identifiers f)) ≡ length (identifiers f) = length-map (identifiers f) (λ (e : List ℕ × Ty). e.0) in
    let small : deepest f + length (keys_of (identifiers f)) < 2 ^ 64 = omega (arith, counted, same) in
    typed_back f well (fresh (keys_of (identifiers f)) (deepest f) small)

pub reads_back : (f : Formula) (text : List ℕ) → text ≡ formula_text f → is_well f ≡ true → HasNames f → HasFewNames f → HasNarrowNumbers f → ReadsBack f text
reads_back f text exact well names counted narrow =
    let P : List ℕ → Type 0 = λ bytes. IsCutInto bytes (items_of_formula f) in
    let cut : IsCutInto text (items_of_formula f) = subst P (sym exact) (text_cut f well names counted narrow) in
    let tokens : List Item = items_of text cut.0 in
    let plain = spelled_again None (place_for f) (items_of_formula f) tokens (raw_of f) (alike (items_of_formula f) tokens cut.2) (spelled f well names counted) in
    let all : AreUnlimited tokens = still_unlimited (items_of_formula f) tokens cut.2 (unlimited f) in
    let spells : (limit : Option ℕ) → Spells limit (place_for f) tokens plain.0 = λ limit. spelled_within limit (place_for f) tokens plain.0 all plain.1 in
    let placeless : unplaced plain.0 ≡ raw_of f = plain.2 ∙ raw_placeless f in
    let typed : IsTypedAgain f plain.0 = λ env types expected is. formula_again (raw_of f) plain.0 (raw_placeless f ∙ sym placeless) env [] expected f (typed_again f well counted env types expected is) in
    record {
      tokens = cut.0;
      cut = cut.1;
      cut_only = λ other o. cut_is_one text other (Ok cut.0) o cut.1;
      tree = plain.0;
      spelled = spells;
      only = λ limit t other. one_tree limit (place_for f) tokens t plain.0 other (spells limit);
      written = placeless;
      typed = typed;
      known = λ env types. nothing_unknown env [] plain.0 (Some (type_of f)) f (typed env types (Some (type_of f)) refl).typed;
      found = tree_or_large (place_for f) tokens plain.0 spells;
    }

pub read_back : (f : Formula) → is_well f ≡ true → HasNames f → HasFewNames f → HasNarrowNumbers f → ReadsBack f (formula_text f)
read_back f well names counted narrow = reads_back f (formula_text f) refl well names counted narrow
