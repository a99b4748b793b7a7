-- The places of names in a list of identifiers, as it grows.
use Rattle.std.proofs.Common.{◌≡◌, ◌∙◌, sym, ap, subst, refl, ℕ, zero, suc, Bool, true, false, ◌||◌, cond, List, [], ◌∷◌, ◌++◌, length, Option, Some, None}
use Rattle.std.specs.Prelude.{bytes_eq}
use Rattle.std.specs.List.{list_any, slice_get}
use Rattle.std.specs.Option.{option_map_or}
use Rattle.std.specs.Map.{lookup}
use Rattle.std.specs.BTreeMap.{is_at}
use Rattle.std.specs.Ordering.{nat_cmp}
use Rattle.std.specs.Cmp.Lexicographic.{slice_cmp, same_text}
use Rattle.std.proofs.lemmas.Map.Text.{is_eq-slice_cmp}
use Rattle.formula_core.specs.declared.ty.Ty.{Ty}
use Rattle.formula_core.specs.Types.{same_type}
use Rattle.formula_core.specs.Formulas.{same_identifier}
use Rattle.formula_core.specs.PrivatePlaces.{IsPlaceOf, HasPlaces}

abbrev pub Identifiers : Type 0
Identifiers = List (List ℕ × Ty)

either_true : (b c : Bool) → c ≡ true → (b || c) ≡ true
either_true true c e = refl
either_true false c e = e

-- where no identifier has the name, this one isn't there
pub none_known : (found : Identifiers) (name : List ℕ) (ty : Ty) → IsPlaceOf found name None → list_any (λ x. same_identifier x (name, ty)) found ≡ false
none_known [] name ty none = refl
none_known (x ∷ found) name ty none = rw none.0 (none_known found name ty none.1)

-- an identifier that stands somewhere is there
pub one_known : (found : Identifiers) (at : ℕ) (x y : List ℕ × Ty) → slice_get found at ≡ Some x → same_identifier x y ≡ true → list_any (λ z. same_identifier z y) found ≡ true
one_known [] at x y is same = cc
one_known (z ∷ found) zero x y is same =
    let e : z ≡ x = cc is in
    subst (λ w. list_any (λ v. same_identifier v y) (w ∷ found) ≡ true) (sym e) (rw same refl)
one_known (z ∷ found) (suc at) x y is same = either_true (same_identifier z y) (list_any (λ v. same_identifier v y) found) (one_known found at x y is same)

-- at the place of its name, an identifier with this type is the one
pub known : (found : Identifiers) (at : ℕ) (name : List ℕ) (ty : Ty) → IsPlaceOf found name (Some at)
    → option_map_or (λ (x : List ℕ × Ty). same_type x.1 ty) (slice_get found at) false ≡ true → list_any (λ x. same_identifier x (name, ty)) found ≡ true
known found at name ty place same =
    one_known found at place.0 (name, ty) place.1 (rw place.2 (ap (λ o. option_map_or (λ (x : List ℕ × Ty). same_type x.1 ty) o false) (sym place.1) ∙ same))

get_before : (found : Identifiers) (x y : List ℕ × Ty) (at : ℕ) → slice_get found at ≡ Some y → slice_get (found ++ x ∷ []) at ≡ Some y
get_before [] x y at is = cc
get_before (z ∷ found) x y zero is = is
get_before (z ∷ found) x y (suc at) is = get_before found x y at is

get_last : (found : Identifiers) (x : List ℕ × Ty) → slice_get (found ++ x ∷ []) (length found) ≡ Some x
get_last [] x = refl
get_last (z ∷ found) x = get_last found x

none_after : (found : Identifiers) (x : List ℕ × Ty) (name : List ℕ) → bytes_eq x.0 name ≡ false → IsPlaceOf found name None → IsPlaceOf (found ++ x ∷ []) name None
none_after [] x name differs none = (differs, tt)
none_after (z ∷ found) x name differs none = (none.0, none_after found x name differs none.1)

-- a place stays one where an identifier with another name is added
stays : (found : Identifiers) (x : List ℕ × Ty) (name : List ℕ) (place : Option ℕ) → bytes_eq x.0 name ≡ false → IsPlaceOf found name place → IsPlaceOf (found ++ x ∷ []) name place
stays found x name None differs is = none_after found x name differs is
stays found x name (Some at) differs is = (is.0, get_before found x is.0 at is.1, is.2)

-- and where its name had a place
extends : (found : Identifiers) (x : List ℕ × Ty) (name : List ℕ) (at : ℕ) → IsPlaceOf found name (Some at) → IsPlaceOf (found ++ x ∷ []) name (Some at)
extends found x name at is = (is.0, get_before found x is.0 at is.1, is.2)

abbrev pub Places : Type 0
Places = List (List ℕ × ℕ)

abbrev pub place : List ℕ → Places → Option ℕ
place name places = lookup (is_at (slice_cmp nat_cmp name)) places

module _ (found : Identifiers) (x : List ℕ × Ty) (places : Places) (has : HasPlaces found places) where
  -- the name had a place
  known_name : (at : ℕ) → place x.0 places ≡ Some at → (name : List ℕ) (b : Bool) → bytes_eq x.0 name ≡ b → IsPlaceOf (found ++ x ∷ []) name (place name places)
  known_name at is name true same =
      let e : x.0 ≡ name = same_text x.0 name (sym same) in
      let there : place name places ≡ Some at = subst (λ n. place n places ≡ Some at) e is in
      subst (IsPlaceOf (found ++ x ∷ []) name) (sym there) (extends found x name at (subst (IsPlaceOf found name) there (has name)))
  known_name at is name false same = stays found x name (place name places) same (has name)

  pub places_known : (at : ℕ) → place x.0 places ≡ Some at → HasPlaces (found ++ x ∷ []) places
  places_known at is name = known_name at is name (bytes_eq x.0 name) refl

  -- the name gets one
  new_name : (now : Places) → ((name : List ℕ) → place name now ≡ cond (is_at (slice_cmp nat_cmp x.0) name) (Some (length found)) (place name places))
      → (name : List ℕ) (b : Bool) → bytes_eq x.0 name ≡ b → IsPlaceOf (found ++ x ∷ []) name (place name now)
  new_name now is name true same =
      let there : place name now ≡ Some (length found) = is name ∙ ap (λ b. cond b (Some (length found)) (place name places)) (is_eq-slice_cmp x.0 name ∙ same) in
      subst (IsPlaceOf (found ++ x ∷ []) name) (sym there) (x, get_last found x, same)
  new_name now is name false same =
      let there : place name now ≡ place name places = is name ∙ ap (λ b. cond b (Some (length found)) (place name places)) (is_eq-slice_cmp x.0 name ∙ same) in
      subst (IsPlaceOf (found ++ x ∷ []) name) (sym there) (stays found x name (place name places) same (has name))

  pub places_new : (now : Places) → ((name : List ℕ) → place name now ≡ cond (is_at (slice_cmp nat_cmp x.0) name) (Some (length found)) (place name places)) → HasPlaces (found ++ x ∷ []) now
  places_new now is name = new_name now is name (bytes_eq x.0 name) refl

-- without identifiers there are no places
pub no_places : HasPlaces [] []
no_places name = tt
