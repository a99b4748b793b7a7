-- Identifiers that were bound and then taken as terms give the formula back.
use Rattle.std.proofs.Common.{◌≡◌, ◌∙◌, sym, ap, refl, ℕ, ◌+◌, ◌-◌, ◌<◌, ◌≤◌, Bool, true, false, List, [], ◌∷◌, ◌++◌, length, map, reverse, slice_get, Option, Some, None, arith}
use Rattle.std.specs.Prelude.{nat_lt, unwrap_or, if◌then◌else◌}
use Rattle.std.specs.List.{AllByRecursion}
use Rattle.std.specs.Option.{option_map, option_map_or, option_or}
use Rattle.std.specs.Cmp.Lexicographic.{same_text}
use Rattle.std.proofs.lemmas.Bool.{ltb-false, le-ltb}
use Rattle.std.proofs.lemmas.List.{length-reverse, length-map, reverse-append}
use Rattle.std.proofs.lemmas.Option.{slice_get_past, slice_get-map}
use Rattle.formula_core.specs.declared.ty.Ty.{Ty}
use Rattle.formula_core.specs.declared.formula.Formula.{Formula}
use Rattle.formula_core.specs.declared.formula.Formula.TheOpen.{Formula-F, Int as IntF, Free as FreeF, Bound as BoundF}
use Rattle.formula_core.specs.declared.formula.Formula.TheVariants.{Free, Bound, Node, Bind}
use Rattle.formula_core.specs.declared.formula.Formula.TheViews.{roll-Formula, rolls-Int, rolls-Free, rolls-Bound}
use Rattle.formula_core.specs.declared.formula.Formula.TheFolds.{map-Formula, fold-Formula, fold-roll-Formula}
use Rattle.formula_core.specs.Formulas.{same_identifier, instantiated_step, instantiated}
use Rattle.formula_core.specs.Shifting.{place_from_last, abstracted, as_terms}
use Rattle.formula_core.proofs.Depths.{abstracted-Int, abstracted-Free, abstracted-Bound, abstracted-Node, abstracted-Bind}
use Rattle.formula_core.proofs.Induction.{formula_induction}
use Rattle.formula_core.proofs.Instantiation.{instantiated-Node, instantiated-Bind}
use Rattle.formula_core.proofs.Lists.{slice_get-append_left, slice_get-append_right}
use Rattle.formula_core.proofs.SubstitutionLaws.{map-append}
use Rattle.formula_core.proofs.Types.{same_type_exact}
use Rattle.formula_core.proofs.Weakening.{first_true, second_true}

pub reverse-map : {X Y : Type 0} → (g : X → Y) (xs : List X) → reverse (map g xs) ≡ map g (reverse xs)
reverse-map g [] = refl
reverse-map g (x ∷ xs) =
    reverse-append (g x ∷ []) (map g xs) ∙ ap (λ zs. zs ++ g x ∷ []) (reverse-map g xs)
    ∙ sym (map-append g (reverse xs) (x ∷ [])) ∙ ap (map g) (sym (reverse-append (x ∷ []) xs))

same_identifier_exact : (y x : List ℕ × Ty) → same_identifier y x ≡ true → y ≡ x
same_identifier_exact y x h = λ i. (same_text y.0 x.0 (sym (first_true _ _ h)) i, same_type_exact y.1 x.1 (second_true _ _ h) i)

abbrev pub IsAt : List (List ℕ × Ty) → List ℕ × Ty → ℕ → Type 0
IsAt ids x i = (i < length ids) × (slice_get (reverse ids) i ≡ Some x)

last_is : (ids : List (List ℕ × Ty)) (y : List ℕ × Ty) → slice_get (reverse ids ++ y ∷ []) (length ids) ≡ Some y
last_is ids y =
    slice_get-append_right (reverse ids) (y ∷ []) (length ids) (omega (arith, length-reverse ids))
    ∙ ap (slice_get (y ∷ [])) (let none : length ids - length (reverse ids) ≡ 0 = omega (arith, length-reverse ids) in none)

at_last : (ids : List (List ℕ × Ty)) (x y : List ℕ × Ty) (i : ℕ) (b : Bool) → same_identifier y x ≡ b → (if b then Some (length ids) else None) ≡ Some i → IsAt (y ∷ ids) x i
at_last ids x y i true h e =
    let here : length ids ≡ i = cc in
    (omega (arith, here), ap (λ l. slice_get l i) (reverse-append (y ∷ []) ids) ∙ ap (slice_get (reverse ids ++ y ∷ [])) (sym here) ∙ last_is ids y ∙ ap Some (same_identifier_exact y x h))
at_last ids x y i false h e = absurd cc

at_earlier : (ids : List (List ℕ × Ty)) (x y : List ℕ × Ty) (i : ℕ) → IsAt ids x i → IsAt (y ∷ ids) x i
at_earlier ids x y i h = (
  omega (arith, h.0),
  ap (λ l. slice_get l i) (reverse-append (y ∷ []) ids) ∙ slice_get-append_left (reverse ids) (y ∷ []) i (omega (arith, length-reverse ids, h.0)) ∙ h.1,
)

either : (ids : List (List ℕ × Ty)) (x y : List ℕ × Ty) (i : ℕ) (o : Option ℕ) → ((k : ℕ) → o ≡ Some k → IsAt ids x k)
    → option_or o (if same_identifier y x then Some (length ids) else None) ≡ Some i → IsAt (y ∷ ids) x i
either ids x y i None found e = at_last ids x y i (same_identifier y x) refl e
either ids x y i (Some k) found e = at_earlier ids x y i (found i e)

pub found_at : (ids : List (List ℕ × Ty)) (x : List ℕ × Ty) (i : ℕ) → place_from_last ids x ≡ Some i → IsAt ids x i
found_at [] x i e = absurd cc
found_at (y ∷ ids) x i e = either ids x y i (place_from_last ids x) (found_at ids x) e

module _ (ids : List (List ℕ × Ty)) where
  abbrev terms : List Formula
  terms = as_terms ids

  abbrev GivesBack : Formula → Type 0
  GivesBack f = (d : ℕ) → instantiated terms d (abstracted ids d f) ≡ f

  at_leaf : (x : Formula-F Formula) (d : ℕ) → instantiated terms d (roll-Formula x) ≡ instantiated_step terms (map-Formula Formula (ℕ → Formula) (fold-Formula (ℕ → Formula) (instantiated_step terms)) x) d
  at_leaf x d = ap (λ g. g d) (fold-roll-Formula (ℕ → Formula) (instantiated_step terms) x)

  as_many : length terms ≡ length ids
  as_many = length-map ids (λ x. Free x.0 x.1)

  at_term : (x : List ℕ × Ty) (i : ℕ) → IsAt ids x i → slice_get (reverse terms) i ≡ Some (Free x.0 x.1)
  at_term x i h =
      ap (λ l. slice_get l i) (reverse-map (λ x. Free x.0 x.1) ids) ∙ slice_get-map (λ x. Free x.0 x.1) (reverse ids) i
      ∙ ap (option_map (λ x. Free x.0 x.1)) h.1

  name_back : (name : List ℕ) (t : Ty) (d : ℕ) (o : Option ℕ) → place_from_last ids (name, t) ≡ o
      → instantiated terms d (option_map_or (λ i. roll-Formula (BoundF (d + i) t)) o (roll-Formula (FreeF name t))) ≡ Free name t
  name_back name t d None e = at_leaf (FreeF name t) d ∙ rolls-Free name t
  name_back name t d (Some i) e =
      let below : nat_lt (d + i) d ≡ false = le-ltb (d + i) d (omega arith) in
      let place : d + i - d ≡ i = omega arith in
      let is : slice_get (reverse terms) (d + i - d) ≡ Some (Free name t) = ap (slice_get (reverse terms)) place ∙ at_term (name, t) i (found_at ids (name, t) i e) in
      at_leaf (BoundF (d + i) t) d
      ∙ ap (λ b. if b then roll-Formula (BoundF (d + i) t) else (unwrap_or (slice_get (reverse terms) (d + i - d)) (roll-Formula (BoundF (d + i - length terms) t)))) below
      ∙ ap (λ o. unwrap_or o (roll-Formula (BoundF (d + i - length terms) t))) is

  index_back : (i : ℕ) (t : Ty) (d : ℕ) (b : Bool) → nat_lt i d ≡ b → instantiated terms d (roll-Formula (BoundF (if b then i else (i + length ids)) t)) ≡ Bound i t
  index_back i t d true e =
      at_leaf (BoundF i t) d
      ∙ ap (λ b. if b then roll-Formula (BoundF i t) else (unwrap_or (slice_get (reverse terms) (i - d)) (roll-Formula (BoundF (i - length terms) t)))) e
      ∙ rolls-Bound i t
  index_back i t d false e =
      let n : ℕ = length ids in
      let outside : d ≤ i = ltb-false i d e in
      let below : nat_lt (i + length ids) d ≡ false = le-ltb (i + length ids) d (omega (arith, outside)) in
      let past : slice_get (reverse terms) (i + length ids - d) ≡ None = slice_get_past (reverse terms) (i + length ids - d) (omega (arith, outside, length-reverse terms, as_many)) in
      let same : i + length ids - length terms ≡ i = omega (arith, as_many) in
      at_leaf (BoundF (i + length ids) t) d
      ∙ ap (λ b. if b then roll-Formula (BoundF (i + length ids) t) else (unwrap_or (slice_get (reverse terms) (i + length ids - d)) (roll-Formula (BoundF (i + length ids - length terms) t)))) below
      ∙ ap (λ o. unwrap_or o (roll-Formula (BoundF (i + length ids - length terms) t))) past
      ∙ ap (λ j. roll-Formula (BoundF j t)) same ∙ rolls-Bound i t

  parts_back : (fs : List Formula) (d : ℕ) → AllByRecursion GivesBack fs → map (instantiated terms d) (map (abstracted ids d) fs) ≡ fs
  parts_back [] d each = refl
  parts_back (f ∷ fs) d each = λ i. each.0 d i ∷ parts_back fs d each.1 i

  pub given_back : (f : Formula) → (d : ℕ) → instantiated terms d (abstracted ids d f) ≡ f
  given_back = formula_induction GivesBack
      (λ n d. ap (instantiated terms d) (abstracted-Int ids d n) ∙ at_leaf (IntF n) d ∙ rolls-Int n)
      (λ name t d. ap (instantiated terms d) (abstracted-Free ids d name t) ∙ name_back name t d (place_from_last ids (name, t)) refl)
      (λ i t d. ap (instantiated terms d) (abstracted-Bound ids d i t) ∙ index_back i t d (nat_lt i d) refl)
      (λ op parts t each d.
      ap (instantiated terms d) (abstracted-Node ids d op parts t) ∙ instantiated-Node terms d op (map (abstracted ids d) parts) t
      ∙ ap (λ ps. Node op ps t) (parts_back parts d each))
      (λ binder types parts t each d.
      ap (instantiated terms d) (abstracted-Bind ids d binder types parts t) ∙ instantiated-Bind terms d binder types (map (abstracted ids (d + length types)) parts) t
      ∙ ap (λ ps. Bind binder types ps t) (parts_back parts (d + length types) each))
