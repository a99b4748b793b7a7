-- The places of names in an environment, as it grows and is cut.
use Rattle.std.proofs.Common.{◌≡◌, ◌∙◌, sym, ap, subst, refl, ℕ, zero, suc, Bool, true, false, cond, List, [], ◌∷◌, ◌++◌, length, take, Option, Some, None, ◌⊎◌, inl, inr, is_some, true≢false, get_or, ◌<◌, ◌+◌, arith}
use Rattle.std.specs.Prelude.{bytes_eq, if◌then◌else◌}
use Rattle.std.specs.Bool.{OnTrue}
use Rattle.std.specs.List.{AllByRecursion, IsDistinct, slice_get}
use Rattle.std.specs.Map.{keys_of}
use Rattle.std.specs.Cmp.Lexicographic.{same_text}
use Rattle.std.proofs.lemmas.List.{take_more, length-take-le}
use Rattle.std.proofs.lemmas.Cmp.{nat_list_eq_equiv}
use Rattle.std.proofs.lemmas.Map.Text.{is_eq-slice_cmp}
use Rattle.std.proofs.lemmas.Map.Entries.{place_from_lookup, lookup_from_place}
use Rattle.formula_core.specs.declared.ty.Ty.{Ty}
use Rattle.formula_core.specs.Env.{HasDistinctNames, type_in}
use Rattle.formula_core.specs.PrivatePlaces.{AreAtPlaces, IsNoted, type_of_name, type_there}
use Rattle.formula_core.proofs.Places.{Identifiers, Places, place}

none_from_is_some : {X : Type 0} → (o : Option X) → is_some o ≡ false → o ≡ None
none_from_is_some None e = refl
none_from_is_some (Some x) e = absurd (true≢false e)

-- no entry has the name
abbrev pub Lacks : Identifiers → List ℕ → Type 0
Lacks es name = (at : ℕ) (x : List ℕ × Ty) → slice_get es at ≡ Some x → bytes_eq name x.0 ≡ false

module _ (es : Identifiers) (distinct : HasDistinctNames es) (name : List ℕ) where
  typed : (at : ℕ) (x : List ℕ × Ty) → slice_get es at ≡ Some x → bytes_eq name x.0 ≡ true → type_in es name ≡ Some x.1
  typed at x is same =
      subst (λ n. type_in es n ≡ Some x.1) (sym (same_text name x.0 (sym same))) (lookup_from_place nat_list_eq_equiv es at x.0 x.1 distinct is)

  lacks_at : type_in es name ≡ None → (at : ℕ) (x : List ℕ × Ty) (b : Bool) → slice_get es at ≡ Some x → bytes_eq name x.0 ≡ b → b ≡ false
  lacks_at none at x false is same = refl
  lacks_at none at x true is same = cc (none, typed at x is same)

  -- the type of an entry that isn't there
  pub lacks_untyped : type_in es name ≡ None → Lacks es name
  lacks_untyped none at x is = lacks_at none at x (bytes_eq name x.0) is refl

  none_of : Lacks es name → (at : ℕ) (o : Option (List ℕ × Ty)) → slice_get es at ≡ o → type_of_name name o ≡ None
  none_of lacks at None is = refl
  none_of lacks at (Some x) is = ap (λ b. if b then Some x.1 else None) (lacks at x is)

  none_there : Lacks es name → (at : Option ℕ) → type_there es name at ≡ None
  none_there lacks None = refl
  none_there lacks (Some at) = none_of lacks at (slice_get es at) refl

  there : (places : Places) → AreAtPlaces es places → (o : Option Ty) → type_in es name ≡ o → type_there es name (place name places) ≡ o
  there places has None is = none_there (lacks_untyped is) (place name places)
  there places has (Some t) is =
      let p = place_from_lookup (bytes_eq name) es t is in
      let at : place name places ≡ Some p.0 = ap (λ n. place n places) (same_text name p.1 (sym p.3)) ∙ has p.0 (p.1, t) p.2 in
      ap (type_there es name) at ∙ ap (type_of_name name) p.2 ∙ ap (λ b. if b then Some t else None) p.3

  -- the type of a name is that at its place
  pub type_by_place : (places : Places) → AreAtPlaces es places → type_there es name (place name places) ≡ type_in es name
  type_by_place places has = there places has (type_in es name) refl

module _ (es : Identifiers) (name : List ℕ) (places : Places) (has : AreAtPlaces es places) where
  unplaced_at : place name places ≡ None → (at : ℕ) (x : List ℕ × Ty) (b : Bool) → slice_get es at ≡ Some x → bytes_eq name x.0 ≡ b → b ≡ false
  unplaced_at none at x false is same = refl
  unplaced_at none at x true is same = cc (none, ap (λ n. place n places) (same_text name x.0 (sym same)), has at x is)

  -- nor has one the name where it has no place
  pub lacks_unplaced : place name places ≡ None → Lacks es name
  lacks_unplaced none at x is = unplaced_at none at x (bytes_eq name x.0) is refl

  module _ (at : ℕ) (now : Places) (is : IsNoted places now name at) where
    -- the other names keep their places
    pub noted : Lacks es name → AreAtPlaces es now
    noted lacks i x there = is x.0 ∙ ap (λ b. cond b (Some at) (place x.0 places)) (is_eq-slice_cmp name x.0 ∙ lacks i x there) ∙ has i x there

    pub noted_name : place name now ≡ Some at
    noted_name = is name ∙ ap (λ b. cond b (Some at) (place name places)) (is_eq-slice_cmp name name ∙ nat_list_eq_equiv.refl name)

pushed_at : (es : Identifiers) (x y : List ℕ × Ty) (i : ℕ) → slice_get (es ++ x ∷ []) i ≡ Some y → (slice_get es i ≡ Some y) ⊎ ((i ≡ length es) × (x ≡ y))
pushed_at [] x y zero is = inr (refl, cc is)
pushed_at [] x y (suc i) is = inl is
pushed_at (z ∷ es) x y zero is = inl is
pushed_at (z ∷ es) x y (suc i) is = later (pushed_at es x y i is) where
  later : (slice_get es i ≡ Some y) ⊎ ((i ≡ length es) × (x ≡ y)) → (slice_get es i ≡ Some y) ⊎ ((suc i ≡ suc (length es)) × (x ≡ y))
  later (inl e) = inl e
  later (inr e) = inr (ap suc e.0, e.1)

-- an entry is added whose place was noted
pub pushed : (es : Identifiers) (x : List ℕ × Ty) (places : Places) → AreAtPlaces es places → place x.0 places ≡ Some (length es) → AreAtPlaces (es ++ x ∷ []) places
pushed es x places has noted i y is = by (pushed_at es x y i is) where
  by : (slice_get es i ≡ Some y) ⊎ ((i ≡ length es) × (x ≡ y)) → place y.0 places ≡ Some i
  by (inl e) = has i y e
  by (inr e) = ap (λ z. place z.0 places) (sym e.1) ∙ noted ∙ ap Some (sym e.0)

-- ---- the first entries alone

taken_at : (es : Identifiers) (n i : ℕ) (x : List ℕ × Ty) → slice_get (take n es) i ≡ Some x → slice_get es i ≡ Some x
taken_at es zero i x is = cc is
taken_at [] (suc n) i x is = is
taken_at (y ∷ es) (suc n) zero x is = is
taken_at (y ∷ es) (suc n) (suc i) x is = taken_at es n i x is

pub taken : (es : Identifiers) (places : Places) (n : ℕ) → AreAtPlaces es places → AreAtPlaces (take n es) places
taken es places n has i x is = has i x (taken_at es n i x is)

pub on_taken : (b : Bool) (es : Identifiers) (places : Places) (n : ℕ) → OnTrue b (AreAtPlaces es places) → OnTrue b (AreAtPlaces (take n es) places)
on_taken true es places n has = taken es places n has
on_taken false es places n has = tt

all_taken : (P : List ℕ → Type 0) (es : Identifiers) (n : ℕ) → AllByRecursion P (keys_of es) → AllByRecursion P (keys_of (take n es))
all_taken P es zero all = tt
all_taken P [] (suc n) all = tt
all_taken P (x ∷ es) (suc n) all = (all.0, all_taken P es n all.1)

pub distinct_taken : (es : Identifiers) (n : ℕ) → HasDistinctNames es → HasDistinctNames (take n es)
unfolding IsDistinct
distinct_taken es zero d = tt
distinct_taken [] (suc n) d = tt
distinct_taken (x ∷ es) (suc n) d = (all_taken (λ y. bytes_eq x.0 y ≡ false) es n d.0, distinct_taken es n d.1)

pub nothing_at : (places : Places) → AreAtPlaces [] places
nothing_at places i x is = cc is

-- ---- the places of a whole list

pub next_noted : (es : Identifiers) (i : ℕ) (x : List ℕ × Ty) → i < length es → x ≡ get_or es i x → (places now : Places)
    → AreAtPlaces (take i es) places → is_some (place x.0 places) ≡ false → IsNoted places now x.0 i → AreAtPlaces (take (i + 1) es) now
next_noted es i x within is places now has absent note =
    let more : take (i + 1) es ≡ take i es ++ x ∷ [] = take_more es i x within ∙ ap (λ y. take i es ++ y ∷ []) (sym is) in
    let all : i ≡ length (take i es) = sym (length-take-le i es (omega (arith, within))) in
    let lacks : Lacks (take i es) x.0 = lacks_unplaced (take i es) x.0 places has (none_from_is_some (place x.0 places) absent) in
    subst (λ ys. AreAtPlaces ys now) (sym more)
    (pushed (take i es) x now (noted (take i es) x.0 places has i now note lacks) (noted_name (take i es) x.0 places has i now note ∙ ap Some all))

pub on_noted : (b : Bool) (es : Identifiers) (x : List ℕ × Ty) (places now : Places) → HasDistinctNames es → is_some (type_in es x.0) ≡ false
    → IsNoted places now x.0 (length es) → OnTrue b (AreAtPlaces es places) → OnTrue b (AreAtPlaces es now)
on_noted true es x places now distinct absent note has = noted es x.0 places has (length es) now note (lacks_untyped es distinct x.0 (none_from_is_some (type_in es x.0) absent))
on_noted false es x places now distinct absent note has = tt

pub on_pushed : (b : Bool) (es : Identifiers) (x : List ℕ × Ty) (places now : Places) → HasDistinctNames es → is_some (type_in es x.0) ≡ false
    → IsNoted places now x.0 (length es) → OnTrue b (AreAtPlaces es places) → OnTrue b (AreAtPlaces (es ++ x ∷ []) now)
on_pushed true es x places now distinct absent note has =
    pushed es x now (on_noted true es x places now distinct absent note has) (noted_name es x.0 places has (length es) now note)
on_pushed false es x places now distinct absent note has = tt
