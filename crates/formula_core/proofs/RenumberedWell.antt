-- What is well stays so where its indices are raised for further bound identifiers, and where free identifiers become bound.
use Rattle.std.proofs.Common.{◌≡◌, ◌∙◌, sym, ap, refl, ℕ, ℤ, ◌+◌, ◌-◌, ◌<◌, ◌≤◌, Bool, true, false, ◌&&◌, List, [], ◌∷◌, ◌++◌, append_assoc, length, length-append, map, reverse, slice_get, Option, Some, None, IsTrue, arith}
use Rattle.std.specs.Prelude.{nat_lt, if◌then◌else◌}
use Rattle.std.specs.List.{AllByRecursion, list_all}
use Rattle.std.specs.Option.{option_map, option_map_or}
use Rattle.std.proofs.lemmas.Bool.{ltb-true, ltb-false}
use Rattle.std.proofs.lemmas.List.{append-nil, length-reverse, length-map}
use Rattle.std.proofs.lemmas.Option.{slice_get-map}
use Rattle.formula_core.specs.declared.op.Op.{Op}
use Rattle.formula_core.specs.declared.op.Binder.{Binder}
use Rattle.formula_core.specs.declared.ty.Ty.{Ty}
use Rattle.formula_core.specs.declared.formula.Formula.{Formula}
use Rattle.formula_core.specs.declared.formula.Formula.TheOpen.{Free as FreeF, Bound as BoundF}
use Rattle.formula_core.specs.declared.formula.Formula.TheVariants.{Int, Free, Bound, Node, Bind}
use Rattle.formula_core.specs.declared.formula.Formula.TheViews.{roll-Formula, rolls-Free, rolls-Bound, rolls-Int, outs-Free, outs-Bound, outs-Node, outs-Bind}
use Rattle.formula_core.specs.Types.{same_type, is_value_type}
use Rattle.formula_core.specs.Rows.{row_of}
use Rattle.formula_core.specs.TypeTable.{row_fits, binder_fits}
use Rattle.formula_core.specs.Shifting.{raised, shifted, place_from_last, abstracted, scope_types}
use Rattle.formula_core.specs.Wellness.{type_of_step, type_of, may_be_bound, is_well_in, is_well}
use Rattle.formula_core.proofs.BindingLaw.{found_at, reverse-map}
use Rattle.formula_core.proofs.Depths.{shifted-Int, shifted-Free, shifted-Bound, shifted-Node, shifted-Bind, abstracted-Int, abstracted-Free, abstracted-Bound, abstracted-Node, abstracted-Bind}
use Rattle.formula_core.proofs.Induction.{formula_induction}
use Rattle.formula_core.proofs.Lists.{slice_get-append_left, slice_get-append_right}
use Rattle.formula_core.proofs.Weakening.{first_true, second_true, both_true}
use Rattle.formula_core.proofs.Wellness.{well-Int, well-Free, well-Bound, well-Node, well-Bind}
use Rattle.formula_core.proofs.WholeSets.{same_type_refl}

abbrev IsWellOf : Ty → List Ty → Formula → Type 0
IsWellOf t scope f = (type_of f ≡ t) × (is_well_in f scope ≡ true)

module _ (new : List Ty) (go : ℕ → Formula → Formula)
    (int_is : (d : ℕ) (n : ℤ) → go d (Int n) ≡ Int n)
    (index_is : (d i : ℕ) (t : Ty) → go d (Bound i t) ≡ Bound (raised (length new) d i) t)
    (node_is : (d : ℕ) (op : Op) (parts : List Formula) (t : Ty) → go d (Node op parts t) ≡ Node op (map (go d) parts) t)
    (binder_is : (d : ℕ) (binder : Binder) (types : List Ty) (parts : List Formula) (t : Ty) → go d (Bind binder types parts t) ≡ Bind binder types (map (go (d + length types)) parts) t)
    (free_kept : (name : List ℕ) (t : Ty) (inner bound : List Ty) → is_value_type t ≡ true → IsWellOf t (inner ++ (new ++ bound)) (go (length inner) (Free name t))) where
  abbrev Keeps : Formula → Type 0
  Keeps f = (inner bound : List Ty) → is_well_in f (inner ++ bound) ≡ true → IsWellOf (type_of f) (inner ++ (new ++ bound)) (go (length inner) f)

  abbrev has : Ty → Option Ty → Bool
  has t o = option_map_or (λ u. same_type u t) o false

  at_index : (i : ℕ) (t : Ty) (inner bound : List Ty) (b : Bool) → nat_lt i (length inner) ≡ b → has t (slice_get (inner ++ bound) i) ≡ true
      → has t (slice_get (inner ++ (new ++ bound)) (if b then i else (i + length new))) ≡ true
  at_index i t inner bound true e h =
      let lt : i < length inner = ltb-true i (length inner) e in
      ap (has t) (slice_get-append_left inner (new ++ bound) i lt ∙ sym (slice_get-append_left inner bound i lt)) ∙ h
  at_index i t inner bound false e h =
      let ge : length inner ≤ i = ltb-false i (length inner) e in
      let here : slice_get (inner ++ (new ++ bound)) (i + length new) ≡ slice_get (inner ++ bound) i =
      slice_get-append_right inner (new ++ bound) (i + length new) (omega (arith, ge))
      ∙ slice_get-append_right new bound (i + length new - length inner) (omega (arith, ge))
      ∙ ap (slice_get bound) (omega (arith, ge))
      ∙ sym (slice_get-append_right inner bound i ge) in
      ap (has t) here ∙ h

  kept_index : (i : ℕ) (t : Ty) → Keeps (Bound i t)
  kept_index i t inner bound h =
      let j : ℕ = raised (length new) (length inner) i in (
        ap type_of (index_is (length inner) i t) ∙ ap type_of_step (outs-Bound j t) ∙ sym (ap type_of_step (outs-Bound i t)),
        ap (λ f. is_well_in f (inner ++ (new ++ bound))) (index_is (length inner) i t) ∙ well-Bound j t (inner ++ (new ++ bound))
            ∙ at_index i t inner bound (nat_lt i (length inner)) refl (sym (well-Bound i t (inner ++ bound)) ∙ h),
      )

  kept_parts : (inner bound : List Ty) (fs : List Formula) → AllByRecursion Keeps fs → list_all (λ f. is_well_in f (inner ++ bound)) fs ≡ true
      → (map type_of (map (go (length inner)) fs) ≡ map type_of fs) × (list_all (λ f. is_well_in f (inner ++ (new ++ bound))) (map (go (length inner)) fs) ≡ true)
  kept_parts inner bound [] each h = (refl, refl)
  kept_parts inner bound (f ∷ fs) each h =
      let here = each.0 inner bound (first_true _ _ h) in
      let rest = kept_parts inner bound fs each.1 (second_true (is_well_in f (inner ++ bound)) _ h) in
      (λ i. here.0 i ∷ rest.0 i, both_true _ _ here.1 rest.1)

  kept_node : (op : Op) (parts : List Formula) (t : Ty) → AllByRecursion Keeps parts → Keeps (Node op parts t)
  kept_node op parts t each inner bound h =
      let now : List Formula = map (go (length inner)) parts in
      let k : (list_all (λ f. is_well_in f (inner ++ bound)) parts && row_fits (row_of op) (map type_of parts) t) ≡ true = sym (well-Node op parts t (inner ++ bound)) ∙ h in
      let kept = kept_parts inner bound parts each (first_true _ _ k) in
      let is = node_is (length inner) op parts t in (
        ap type_of is ∙ ap type_of_step (outs-Node op now t) ∙ sym (ap type_of_step (outs-Node op parts t)),
        ap (λ f. is_well_in f (inner ++ (new ++ bound))) is ∙ well-Node op now t (inner ++ (new ++ bound))
            ∙ both_true _ _ kept.1 (ap (λ ts. row_fits (row_of op) ts t) kept.0 ∙ second_true (list_all (λ f. is_well_in f (inner ++ bound)) parts) _ k),
      )

  kept_binder : (binder : Binder) (own : List Ty) (parts : List Formula) (t : Ty) → AllByRecursion Keeps parts → Keeps (Bind binder own parts t)
  kept_binder binder own parts t each inner bound h =
      let deeper : List Ty = reverse own ++ inner in
      let depth : length deeper ≡ length inner + length own = omega (arith, length-append (reverse own) inner, length-reverse own) in
      let now : List Formula = map (go (length inner + length own)) parts in
      let k : (may_be_bound own && binder_fits binder (map type_of parts) t && list_all (λ f. is_well_in f (reverse own ++ (inner ++ bound))) parts) ≡ true =
      sym (well-Bind binder own parts t (inner ++ bound)) ∙ h in
      let a : (may_be_bound own && binder_fits binder (map type_of parts) t) ≡ true = first_true _ _ k in
      let inside : list_all (λ f. is_well_in f (deeper ++ bound)) parts ≡ true =
      ap (λ s. list_all (λ f. is_well_in f s) parts) (append_assoc (reverse own) inner bound) ∙ second_true (may_be_bound own && binder_fits binder (map type_of parts) t) _ k in
      let kept = kept_parts deeper bound parts each inside in
      let same : map type_of now ≡ map type_of parts = ap (λ d. map type_of (map (go d) parts)) (sym depth) ∙ kept.0 in
      let there : list_all (λ f. is_well_in f (reverse own ++ (inner ++ (new ++ bound)))) now ≡ true =
      ap (λ d. list_all (λ f. is_well_in f (reverse own ++ (inner ++ (new ++ bound)))) (map (go d) parts)) (sym depth)
      ∙ ap (λ s. list_all (λ f. is_well_in f s) (map (go (length deeper)) parts)) (sym (append_assoc (reverse own) inner (new ++ bound))) ∙ kept.1 in
      let is = binder_is (length inner) binder own parts t in (
        ap type_of is ∙ ap type_of_step (outs-Bind binder own now t) ∙ sym (ap type_of_step (outs-Bind binder own parts t)),
        ap (λ f. is_well_in f (inner ++ (new ++ bound))) is ∙ well-Bind binder own now t (inner ++ (new ++ bound))
            ∙ both_true _ _ (both_true _ _ (first_true _ _ a) (ap (λ ts. binder_fits binder ts t) same ∙ second_true (may_be_bound own) _ a)) there,
      )

  kept_name : (name : List ℕ) (t : Ty) → Keeps (Free name t)
  kept_name name t inner bound h =
      let k = free_kept name t inner bound (sym (well-Free name t (inner ++ bound)) ∙ h) in
      (k.0 ∙ sym (ap type_of_step (outs-Free name t)), k.1)

  kept : (f : Formula) → Keeps f
  kept = formula_induction Keeps
      (λ n inner bound h. (
        ap type_of (int_is (length inner) n),
        ap (λ f. is_well_in f (inner ++ (new ++ bound))) (int_is (length inner) n) ∙ well-Int n (inner ++ (new ++ bound)) ∙ sym (well-Int n (inner ++ bound)) ∙ h,
      ))
      kept_name
      kept_index
      kept_node
      kept_binder

free_shifted : (by : ℕ) (name : List ℕ) (t : Ty) (d : ℕ) (scope : List Ty) → is_value_type t ≡ true → IsWellOf t scope (shifted by d (Free name t))
free_shifted by name t d scope v = (
  ap type_of (shifted-Free by d name t) ∙ ap type_of_step (outs-Free name t),
  ap (λ f. is_well_in f scope) (shifted-Free by d name t) ∙ well-Free name t scope ∙ v,
)

-- a formula below further identifiers of the types `new`
pub shifted_is_well : (new : List Ty) (f : Formula) (inner bound : List Ty) → is_well_in f (inner ++ bound) ≡ true → IsWellOf (type_of f) (inner ++ (new ++ bound)) (shifted (length new) (length inner) f)
shifted_is_well new = kept new (shifted (length new))
    (λ d n. shifted-Int (length new) d n)
    (λ d i t. shifted-Bound (length new) d i t ∙ rolls-Bound (raised (length new) d i) t)
    (λ d op parts t. shifted-Node (length new) d op parts t)
    (λ d binder types parts t. shifted-Bind (length new) d binder types parts t)
    (λ name t inner bound v. free_shifted (length new) name t (length inner) (inner ++ (new ++ bound)) v)

scope_length : (ids : List (List ℕ × Ty)) → length (scope_types ids) ≡ length ids
scope_length ids = length-reverse (map (λ x. x.1) ids) ∙ length-map ids (λ x. x.1)

bound_well : (ids : List (List ℕ × Ty)) (name : List ℕ) (t : Ty) (inner bound : List Ty) (o : Option ℕ) → place_from_last ids (name, t) ≡ o → is_value_type t ≡ true
    → IsWellOf t (inner ++ (scope_types ids ++ bound)) (option_map_or (λ i. roll-Formula (BoundF (length inner + i) t)) o (roll-Formula (FreeF name t)))
bound_well ids name t inner bound None e v = (
  ap type_of (rolls-Free name t) ∙ ap type_of_step (outs-Free name t),
  ap (λ f. is_well_in f (inner ++ (scope_types ids ++ bound))) (rolls-Free name t) ∙ well-Free name t (inner ++ (scope_types ids ++ bound)) ∙ v,
)
bound_well ids name t inner bound (Some i) e v =
    let scope : List Ty = inner ++ (scope_types ids ++ bound) in
    let found = found_at ids (name, t) i e in
    let within : i < length (scope_types ids) = omega (arith, found.0, scope_length ids) in
    let here : slice_get scope (length inner + i) ≡ Some t =
    slice_get-append_right inner (scope_types ids ++ bound) (length inner + i) (omega arith)
    ∙ ap (slice_get (scope_types ids ++ bound)) (let same : length inner + i - length inner ≡ i = omega arith in same)
    ∙ slice_get-append_left (scope_types ids) bound i within
    ∙ ap (λ ts. slice_get ts i) (reverse-map (λ x. x.1) ids) ∙ slice_get-map (λ x. x.1) (reverse ids) i ∙ ap (option_map (λ x. x.1)) found.1 in (
      ap type_of (rolls-Bound (length inner + i) t) ∙ ap type_of_step (outs-Bound (length inner + i) t),
      ap (λ f. is_well_in f scope) (rolls-Bound (length inner + i) t) ∙ well-Bound (length inner + i) t scope
          ∙ ap (λ o. option_map_or (λ u. same_type u t) o false) here ∙ same_type_refl t,
    )

free_bound : (ids : List (List ℕ × Ty)) (name : List ℕ) (t : Ty) (inner bound : List Ty) → is_value_type t ≡ true → IsWellOf t (inner ++ (scope_types ids ++ bound)) (abstracted ids (length inner) (Free name t))
free_bound ids name t inner bound v =
    let is = abstracted-Free ids (length inner) name t in
    let k = bound_well ids name t inner bound (place_from_last ids (name, t)) refl v in
    (ap type_of is ∙ k.0, ap (λ f. is_well_in f (inner ++ (scope_types ids ++ bound))) is ∙ k.1)

abstracted_in : (ids : List (List ℕ × Ty)) (f : Formula) (inner bound : List Ty) → is_well_in f (inner ++ bound) ≡ true → IsWellOf (type_of f) (inner ++ (scope_types ids ++ bound)) (abstracted ids (length inner) f)
abstracted_in ids = kept (scope_types ids) (abstracted ids)
    (λ d n. abstracted-Int ids d n ∙ rolls-Int n)
    (λ d i t. abstracted-Bound ids d i t ∙ rolls-Bound (raised (length ids) d i) t ∙ ap (λ n. Bound (raised n d i) t) (sym (scope_length ids)))
    (λ d op parts t. abstracted-Node ids d op parts t)
    (λ d binder types parts t. abstracted-Bind ids d binder types parts t)
    (free_bound ids)

-- a well formula as the body of a binder of identifiers
pub abstracted_is_well : (ids : List (List ℕ × Ty)) (f : Formula) → IsTrue (is_well f) → IsTrue (is_well_in (abstracted ids 0 f) (scope_types ids))
abstracted_is_well ids f h = ap (is_well_in (abstracted ids 0 f)) (sym (append-nil (scope_types ids))) ∙ (abstracted_in ids f [] [] h).1

pub shifted_keeps_well : (new : List Ty) (f : Formula) (inner bound : List Ty) → IsTrue (is_well_in f (inner ++ bound)) → IsTrue (is_well_in (shifted (length new) (length inner) f) (inner ++ (new ++ bound)))
shifted_keeps_well new f inner bound h = (shifted_is_well new f inner bound h).1
