-- The parts of what is well are well, and those of what speaks of some names speak of these.
use Rattle.std.proofs.Common.{Bool, List, None, [], ap, false, length, map, refl, reverse, slice_get, subst, sym, true, ℕ, ◌&&◌, ◌++◌, ◌<◌, ◌∙◌, ◌∷◌, ◌≡◌}
use Rattle.std.proofs.lemmas.Bool.{ltb-false, ltb-true}
use Rattle.std.proofs.lemmas.Option.{slice_get_past}
use Rattle.std.specs.List.{AllByRecursion, list_all}
use Rattle.std.specs.Option.{option_map_or}
use Rattle.std.specs.Prelude.{nat_lt}
use Rattle.formula_core.proofs.Equations.{identifiers-Bind, identifiers-Node}
use Rattle.formula_core.proofs.Keeping.{front, back}
use Rattle.formula_core.proofs.Weakening.{first_true, second_true}
use Rattle.formula_core.proofs.Wellness.{well-Bind, well-Bound, well-Node}
use Rattle.formula_core.specs.Formulas.{joined}
use Rattle.formula_core.specs.Identifiers.{carriers, identifiers}
use Rattle.formula_core.specs.Rows.{row_of}
use Rattle.formula_core.specs.TypeTable.{binder_fits, row_fits}
use Rattle.formula_core.specs.Types.{same_type}
use Rattle.formula_core.specs.Wellness.{is_well_in, may_be_bound, type_of}
use Rattle.formula_core.specs.declared.Binder.{Binder}
use Rattle.formula_core.specs.declared.Formula.{Formula}
use Rattle.formula_core.specs.declared.Formula.TheVariants.{Bind, Bound, Node}
use Rattle.formula_core.specs.declared.Op.{Op}
use Rattle.formula_core.specs.declared.Ty.{Ty}

abbrev pub IsWellIn : Formula → List Ty → Type 0
IsWellIn f types = is_well_in f types ≡ true

pub each_passes : (types : List Ty) (fs : List Formula) → list_all (λ f. is_well_in f types) fs ≡ true → AllByRecursion (λ f. IsWellIn f types) fs
each_passes types [] h = tt
each_passes types (f ∷ fs) h = (first_true _ _ h, each_passes types fs (second_true (is_well_in f types) _ h))

pub well_parts : (op : Op) (parts : List Formula) (t : Ty) (types : List Ty) → IsWellIn (Node op parts t) types → AllByRecursion (λ p. IsWellIn p types) parts
well_parts op parts t types h = each_passes types parts (first_true _ _ (sym (well-Node op parts t types) ∙ h))

pub row_of_well : (op : Op) (parts : List Formula) (t : Ty) (types : List Ty) → IsWellIn (Node op parts t) types → row_fits (row_of op) (map type_of parts) t ≡ true
row_of_well op parts t types h = second_true (list_all (λ f. is_well_in f types) parts) _ (sym (well-Node op parts t types) ∙ h)

pub well_below : (b : Binder) (own : List Ty) (parts : List Formula) (t : Ty) (types : List Ty) → IsWellIn (Bind b own parts t) types → AllByRecursion (λ p. IsWellIn p (reverse own ++ types)) parts
well_below b own parts t types h =
    each_passes (reverse own ++ types) parts (second_true (may_be_bound own && binder_fits b (map type_of parts) t) _ (sym (well-Bind b own parts t types) ∙ h))

-- the index of what is well has its binder, of this type
pub index_within : (k : ℕ) (t : Ty) (types : List Ty) → IsWellIn (Bound k t) types → k < length types
index_within k t types h = go (nat_lt k (length types)) refl
  where
    go : (b : Bool) → nat_lt k (length types) ≡ b → k < length types
    go true e = ltb-true k (length types) e
    go false e =
        let none : slice_get types k ≡ None = slice_get_past types k (ltb-false k (length types) e) in
        let l : option_map_or (λ u. same_type u t) (slice_get types k) false ≡ true = sym (well-Bound k t types) ∙ h in
        let m : false ≡ true = sym (ap (λ o. option_map_or (λ u. same_type u t) o false) none) ∙ l in absurd cc

-- a property of each identifier
module _ (P : List ℕ × Ty → Type 0) where
  abbrev pub OfEach : Formula → Type 0
  OfEach f = AllByRecursion P (identifiers f)

  pub of_joined : (fs : List Formula) → AllByRecursion P (joined (map identifiers fs)) → AllByRecursion OfEach fs
  of_joined [] h = tt
  of_joined (f ∷ fs) h = (front P (identifiers f) (joined (map identifiers fs)) h, of_joined fs (back P (identifiers f) (joined (map identifiers fs)) h))

  pub named_parts : (op : Op) (parts : List Formula) (t : Ty) → OfEach (Node op parts t) → AllByRecursion OfEach parts
  named_parts op parts t h = of_joined parts (front P (joined (map identifiers parts)) (carriers t) (subst (AllByRecursion P) (identifiers-Node op parts t) h))

  pub named_below : (b : Binder) (own : List Ty) (parts : List Formula) (t : Ty) → OfEach (Bind b own parts t) → AllByRecursion OfEach parts
  named_below b own parts t h =
      let all = subst (AllByRecursion P) (identifiers-Bind b own parts t) h in
      let types = joined (map carriers own) in let inner = joined (map identifiers parts) in
      of_joined parts (back P types inner (front P (types ++ inner) (carriers t) all))
