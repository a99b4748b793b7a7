-- The same tokens at other places spell the same action, but for its places.
use Rattle.std.proofs.Common.{◌≡◌, ◌∙◌, sym, ap, refl, ℕ, suc, List, [], ◌∷◌, ◌++◌, map, length, Option}
use Rattle.std.proofs.lemmas.List.{map-append}
use Rattle.formula_core.specs.declared.raw.Raw.{Raw}
use Rattle.formula_core.specs.declared.raw.Ref.{Ref}
use Rattle.formula_core.specs.declared.raw.RawAction.{RawAction}
use Rattle.formula_core.specs.declared.raw.RawAction.TheVariants.{Assign, Apply, ChooseIn, ChooseSuch}
use Rattle.math_grammar.specs.declared.holes.Hole.{Hole}
use Rattle.math_grammar.specs.Tokens.{Item}
use Rattle.math_grammar.specs.Grammar.{Spells}
use Rattle.math_grammar.specs.Actions.{ref, Targets, last_target, next_target, Values, last_value, next_value, SpellsAction, assigns, applies, chooses_in, chooses_such}
use Rattle.math_places.specs.Places.{unplaced, unplaced_ref, unplaced_action, AlikeTokens}
use Rattle.math_places.proofs.Tokens.{Alike, next, one_by_one, at_once}
use Rattle.math_places.proofs.Spelled.{AllSame, append_same, same_size, Again, up_to, with_token, reads_again, spelled_again}

abbrev SameTargets : List Ref → List Ref → Type 0
SameTargets xs ys = map unplaced_ref xs ≡ map unplaced_ref ys

append_targets : (xs ys : List Ref) (n : List ℕ) (p q : ℕ) → SameTargets xs ys → SameTargets (xs ++ ref n p ∷ []) (ys ++ ref n q ∷ [])
append_targets xs ys n p q e = map-append unplaced_ref xs (ref n p ∷ []) ∙ ap (λ zs. zs ++ ref n 0 ∷ []) e ∙ sym (map-append unplaced_ref ys (ref n q ∷ []))

same_count : (xs ys : List Ref) → SameTargets xs ys → length xs ≡ length ys
same_count [] [] e = refl
same_count [] (y ∷ ys) e = cc
same_count (x ∷ xs) [] e = cc
same_count (x ∷ xs) (y ∷ ys) e = let rest : SameTargets xs ys = cc in ap suc (same_count xs ys rest)

targets_again : {before targets : List Ref} {s rest others : List Item} (front : List Ref) → Targets before s targets rest → SameTargets front before → Alike s others → Again (Targets front others) (λ u. SameTargets u targets) rest
targets_again front (last_target {before = before} {n = n} {p = p} is) e (next {q = at} a) =
    record { tree = front ++ ref n at ∷ []; after = _; reads = last_target is; same = append_targets front before n at p e; alike = a }
targets_again front (next_target {before = before} {n = n} {p = p} is r) e (next {q = at} (next a)) =
    let u = targets_again (front ++ ref n at ∷ []) r (append_targets front before n at p e) a in
    record { tree = u.tree; after = u.after; reads = next_target is u.reads; same = u.same; alike = u.alike }

module _ (limit : Option ℕ) where
  whole_again : {h : Hole} {s others : List Item} {t : Raw} → Spells limit h s t → Alike s others → (u : Raw) × Spells limit h others u × (unplaced u ≡ unplaced t)
  whole_again {h} {s} {others} {t} r a = spelled_again limit h s others t (at_once a) r

  values_again : {before values : List Raw} {s others : List Item} (front : List Raw) → Values limit before s values → AllSame front before → Alike s others → (us : List Raw) × Values limit front others us × AllSame us values
  values_again front (last_value {before = before} {e = value} r) e a =
      let u = whole_again r a in
      (front ++ u.0 ∷ [], last_value u.1, append_same front before u.0 value e u.2)
  values_again front (next_value {before = before} {e = value} r fit r') e a =
      let u = up_to (reads_again limit r a) in
      let v = values_again (front ++ u.tree ∷ []) r' (append_same front before u.tree value e u.same) u.alike in
      (v.0, next_value u.reads fit v.1, v.2)

  abbrev ActionAgain : List Item → RawAction → Type 0
  ActionAgain others a = (b : RawAction) × SpellsAction limit others b × (unplaced_action b ≡ unplaced_action a)

  action_again : {s others : List Item} {a : RawAction} → SpellsAction limit s a → Alike s others → ActionAgain others a
  action_again (assigns {targets = targets} {values = values} r r' size) a =
      let u = up_to (targets_again [] r refl a) in
      let v = values_again [] r' refl u.alike in
      (Assign u.tree v.0, assigns u.reads v.1 (same_count u.tree targets u.same ∙ size ∙ sym (same_size v.0 values v.2)), λ i. Assign (u.same i) (v.2 i))
  action_again (applies {n = n} is r fit r') (next {q = at} (next a)) =
      let u = up_to (with_token (up_to (reads_again limit r a))) in
      let v = whole_again r' u.alike in
      (Apply (ref n at) u.tree v.0, applies is u.reads fit v.1, λ i. Apply (ref n 0) (u.same i) (v.2 i))
  action_again (chooses_in {n = n} is r) (next {q = at} (next a)) =
      let u = whole_again r a in
      (ChooseIn (ref n at) u.0, chooses_in is u.1, λ i. ChooseIn (ref n 0) (u.2 i))
  action_again (chooses_such r r') a =
      let u = up_to (targets_again [] r refl a) in
      let v = whole_again r' u.alike in
      (ChooseSuch u.tree v.0, chooses_such u.reads v.1, λ i. ChooseSuch (u.same i) (v.2 i))

pub action_spelled_again : (limit : Option ℕ) (s others : List Item) (a : RawAction) → AlikeTokens s others → SpellsAction limit s a → (b : RawAction) × SpellsAction limit others b × (unplaced_action b ≡ unplaced_action a)
action_spelled_again limit s others a alike r = action_again limit r (one_by_one s others alike)
