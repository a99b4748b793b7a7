-- Tables with the same names: their places are the same.
use Rattle.std.proofs.Common.{◌≡◌, ◌≢◌, ◌∙◌, sym, ap, subst, ℕ, ◌<◌, ◌+◌, List, [], ◌∷◌, ◌++◌, Option, Some, None, map, length, take, get_or, arith}
use Rattle.std.specs.List.{AllByRecursion}
use Rattle.std.proofs.lemmas.List.{length-map, map-append, take-map}
use Rattle.sequent_core.specs.declared.sequent.Obligation.{Obligation}
use Rattle.name_laws.proofs.Lists.{all_map, all_unmap}
use Rattle.build_core.specs.Tables.{IsPlaceInTable}
use Rattle.build_core.specs.Private.{found, IndexesTable, obligation_names}
use Rattle.build_core.proofs.Listed.{at_mapped}
use Rattle.build_core.proofs.Placing.{mapped_at, taken_mapped}

-- PLACES

apart : (xs ys : List Obligation) (name : List ℕ) → obligation_names xs ≡ obligation_names ys → AllByRecursion (λ o. o.name ≢ name) xs → AllByRecursion (λ o. o.name ≢ name) ys
apart xs ys name e all = all_unmap (λ n. n ≢ name) (λ (o : Obligation). o.name) ys (subst (AllByRecursion (λ n. n ≢ name)) e (all_map (λ n. n ≢ name) (λ (o : Obligation). o.name) xs all))

same_place : (one other : List Obligation) (name : List ℕ) → obligation_names one ≡ obligation_names other → (place : Option ℕ) → IsPlaceInTable one name place → IsPlaceInTable other name place
same_place one other name e None is = apart one other name e is
same_place one other name e (Some i) is = (
  omega (arith, is.0, length-map one (λ (o : Obligation). o.name), length-map other (λ (o : Obligation). o.name), ap length e),
  apart (take i one) (take i other) name (sym (take-map (λ (o : Obligation). o.name) i one) ∙ ap (take i) e ∙ take-map (λ (o : Obligation). o.name) i other) is.1,
  λ d. sym (mapped_at (λ (o : Obligation). o.name) other i d) ∙ ap (λ ns. get_or ns i d.name) (sym e) ∙ mapped_at (λ (o : Obligation). o.name) one i d ∙ is.2 d,
)

-- the places in a table are those in another one of the same names
pub same_places : (one other : List Obligation) (places : List (List ℕ × ℕ)) → obligation_names one ≡ obligation_names other → IndexesTable one places → IndexesTable other places
same_places one other places e has name = same_place one other name e (found places name) (has name)

-- NAMES ONE BY ONE

module _ {X : Type 0} (f : X → Obligation) (xs ys : List X) (i : ℕ) (x y : X) (ltx : i < length xs) (lty : i < length ys) (isx : x ≡ get_or xs i x) (isy : y ≡ get_or ys i y) where
  named_more : (zs : List X) (z : X) → i < length zs → z ≡ get_or zs i z → obligation_names (map f (take (i + 1) zs)) ≡ obligation_names (map f (take i zs)) ++ (f z).name ∷ []
  named_more zs z lt is = ap obligation_names (taken_mapped f zs i z lt is) ∙ map-append (λ (o : Obligation). o.name) (map f (take i zs)) (f z ∷ [])

  named_at : (zs : List X) (z : X) → i < length zs → z ≡ get_or zs i z → get_or (obligation_names (map f zs)) i [] ≡ (f z).name
  named_at zs z lt is = at_mapped (λ (o : Obligation). o.name) (map f zs) i (f z) (omega (arith, lt, length-map zs f)) (sym (at_mapped f zs i z lt is (f z))) []

  -- one name more is the same
  pub one_more_name : (f x).name ≡ (f y).name → obligation_names (map f (take i xs)) ≡ obligation_names (map f (take i ys)) →
      obligation_names (map f (take (i + 1) xs)) ≡ obligation_names (map f (take (i + 1) ys))
  one_more_name name before =
      named_more xs x ltx isx ∙ ap (λ ns. ns ++ (f x).name ∷ []) before ∙ ap (λ n. obligation_names (map f (take i ys)) ++ n ∷ []) name ∙ sym (named_more ys y lty isy)

  -- one name differs
  pub other_name : (f x).name ≢ (f y).name → obligation_names (map f xs) ≢ obligation_names (map f ys)
  other_name name e = name (sym (named_at xs x ltx isx) ∙ ap (λ ns. get_or ns i []) e ∙ named_at ys y lty isy)
