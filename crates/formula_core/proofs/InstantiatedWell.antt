-- A body with well terms in the place of its identifiers is well.
use Rattle.std.proofs.Common.{◌≡◌, ◌∙◌, sym, ap, refl, ℕ, suc, zero, ◌+◌, ◌-◌, ◌<◌, ◌≤◌, Bool, true, false, ◌&&◌, List, [], ◌∷◌, ◌++◌, append_assoc, length, length-append, map, subst, ℤ, reverse, slice_get, Option, Some, None, IsTrue, IfSome, arith}
use Rattle.std.specs.Prelude.{nat_lt, unwrap_or, if◌then◌else◌}
use Rattle.std.specs.List.{AllByRecursion, list_all}
use Rattle.std.specs.Option.{option_map, option_map_or}
use Rattle.std.proofs.lemmas.Bool.{ltb-true, ltb-false}
use Rattle.std.proofs.lemmas.List.{append-nil, get_or-reverse, length-reverse}
use Rattle.std.proofs.lemmas.Option.{slice_get_past, slice_get-get_or, slice_get-map}
use Rattle.formula_core.specs.declared.op.Op.{Op}
use Rattle.formula_core.specs.declared.op.Binder.{Binder}
use Rattle.formula_core.specs.declared.ty.Ty.{Ty}
use Rattle.formula_core.specs.declared.formula.Formula.{Formula}
use Rattle.formula_core.specs.declared.formula.Formula.TheOpen.{Formula-F, Int as IntF, Free as FreeF, Bound as BoundF, Node as NodeF, Bind as BindF}
use Rattle.formula_core.specs.declared.formula.Formula.TheVariants.{Int, Free, Bound, Node, Bind}
use Rattle.formula_core.specs.declared.formula.Formula.TheViews.{out-Formula, roll-Formula, roll-out-Formula, rolls-Bind, rolls-Int, rolls-Free, rolls-Bound, outs-Bound, outs-Node, outs-Bind}
use Rattle.formula_core.specs.declared.formula.Formula.TheFolds.{fold-roll-Formula}
use Rattle.formula_core.specs.Types.{same_type}
use Rattle.formula_core.specs.Rows.{row_of}
use Rattle.formula_core.specs.TypeTable.{row_fits, binder_fits}
use Rattle.formula_core.specs.declared.op.Binder.TheVariants.{ForAll, Exists, Comprehension, QuantifiedUnion, QuantifiedIntersection}
use Rattle.formula_core.specs.Formulas.{instantiated_step, instantiated, body_at, body}
use Rattle.formula_core.specs.Substitution.{AreWell, bound_types_at, bound_types}
use Rattle.formula_core.specs.Wellness.{type_of_step, type_of, may_be_bound, is_well_in, is_well}
use Rattle.formula_core.proofs.Induction.{formula_induction}
use Rattle.formula_core.proofs.Instantiation.{instantiated-Node, instantiated-Bind}
use Rattle.formula_core.proofs.Lists.{slice_get-append_left, slice_get-append_right}
use Rattle.formula_core.proofs.Types.{same_type_exact}
use Rattle.formula_core.proofs.Weakening.{first_true, second_true, both_true, well_further}
use Rattle.formula_core.proofs.Wellness.{well-Int, well-Free, well-Bound, well-Node, well-Bind}

mirrored : {X : Type 0} → (xs : List X) (k : ℕ) → k < length xs → slice_get (reverse xs) k ≡ slice_get xs (length xs - 1 - k)
mirrored [] k h = absurd (omega arith)
mirrored (x ∷ xs) k h =
    slice_get-get_or (reverse (x ∷ xs)) k x (omega (arith, length-reverse (x ∷ xs))) ∙ ap Some (get_or-reverse (x ∷ xs) k x h)
    ∙ sym (slice_get-get_or (x ∷ xs) (length (x ∷ xs) - 1 - k) x (omega arith))

each_found : {X : Type 0} → (P : X → Type 0) (xs : List X) (k : ℕ) (x : X) → AllByRecursion P xs → slice_get xs k ≡ Some x → P x
each_found P [] k x h e = cc
each_found P (y ∷ xs) zero x h e = let same : y ≡ x = cc in subst P same h.0
each_found P (y ∷ xs) (suc k) x h e = each_found P xs k x h.1 e

length_types : (fs : List Formula) → length (map type_of fs) ≡ length fs
length_types [] = refl
length_types (f ∷ fs) = ap suc (length_types fs)

module _ (terms : List Formula) (well : AllByRecursion (λ f. IsTrue (is_well f)) terms) where
  abbrev types : List Ty
  types = map type_of terms

  abbrev IsWellOf : Ty → List Ty → Formula → Type 0
  IsWellOf t scope f = (type_of f ≡ t) × (is_well_in f scope ≡ true)

  abbrev Keeps : Formula → Type 0
  Keeps f = (inner bound : List Ty) → is_well_in f (inner ++ (reverse types ++ bound)) ≡ true → IsWellOf (type_of f) (inner ++ bound) (instantiated terms (length inner) f)

  index_is : (i : ℕ) (t : Ty) (d : ℕ) → instantiated terms d (Bound i t) ≡ instantiated_step terms (BoundF i t) d
  index_is i t d = ap (instantiated terms d) (sym (rolls-Bound i t)) ∙ ap (λ g. g d) (fold-roll-Formula (ℕ → Formula) (instantiated_step terms) (BoundF i t))

  as_index : (j : ℕ) (t : Ty) (scope : List Ty) → option_map_or (λ u. same_type u t) (slice_get scope j) false ≡ true → IsWellOf t scope (roll-Formula (BoundF j t))
  as_index j t scope h = (
    ap type_of (rolls-Bound j t) ∙ ap type_of_step (outs-Bound j t),
    ap (λ f. is_well_in f scope) (rolls-Bound j t) ∙ well-Bound j t scope ∙ h,
  )

  as_term : (j : ℕ) (t : Ty) (scope : List Ty) (k : ℕ) (o : Option Formula) → slice_get terms k ≡ o
      → option_map_or (λ u. same_type u t) (option_map type_of o) false ≡ true → IsWellOf t scope (unwrap_or o (roll-Formula (BoundF j t)))
  as_term j t scope k None e h = cc
  as_term j t scope k (Some f) e h = (same_type_exact (type_of f) t h, well_further f [] scope (each_found (λ f. IsTrue (is_well f)) terms k f well e))

  -- an index of the binder's own
  among : (j : ℕ) (t : Ty) (scope bound : List Ty) (k : ℕ) → k < length terms → option_map_or (λ u. same_type u t) (slice_get (reverse types ++ bound) k) false ≡ true
      → IsWellOf t scope (unwrap_or (slice_get (reverse terms) k) (roll-Formula (BoundF j t)))
  among j t scope bound k lt h =
      let lt' : k < length types = omega (arith, length_types terms) in
      let m : ℕ = length terms - 1 - k in
      let here : slice_get (reverse types ++ bound) k ≡ option_map type_of (slice_get terms m) =
      slice_get-append_left (reverse types) bound k (omega (arith, length-reverse types, length_types terms)) ∙ mirrored types k lt'
      ∙ ap (λ n. slice_get types (n - 1 - k)) (length_types terms) ∙ slice_get-map type_of terms m in
      let P : Option Formula → Type 0 = λ o. IsWellOf t scope (unwrap_or o (roll-Formula (BoundF j t))) in
      subst P (sym (mirrored terms k lt))
      (as_term j t scope m (slice_get terms m) refl (ap (λ o. option_map_or (λ u. same_type u t) o false) (sym here) ∙ h))

  -- an index of a binder outside
  past : (i : ℕ) (t : Ty) (inner bound : List Ty) → length inner ≤ i → length terms ≤ i - length inner
      → option_map_or (λ u. same_type u t) (slice_get (reverse types ++ bound) (i - length inner)) false ≡ true
      → IsWellOf t (inner ++ bound) (unwrap_or (slice_get (reverse terms) (i - length inner)) (roll-Formula (BoundF (i - length terms) t)))
  past i t inner bound ge le h =
      let none : slice_get (reverse terms) (i - length inner) ≡ None = slice_get_past (reverse terms) (i - length inner) (omega (arith, length-reverse terms)) in
      let here : slice_get (inner ++ bound) (i - length terms) ≡ slice_get (reverse types ++ bound) (i - length inner) =
      slice_get-append_right inner bound (i - length terms) (omega arith)
      ∙ ap (slice_get bound) (omega (arith, length-reverse types, length_types terms))
      ∙ sym (slice_get-append_right (reverse types) bound (i - length inner) (omega (arith, length-reverse types, length_types terms))) in
      let P : Option Formula → Type 0 = λ o. IsWellOf t (inner ++ bound) (unwrap_or o (roll-Formula (BoundF (i - length terms) t))) in
      subst P (sym none) (as_index (i - length terms) t (inner ++ bound) (ap (λ o. option_map_or (λ u. same_type u t) o false) here ∙ h))

  at_outer : (i : ℕ) (t : Ty) (inner bound : List Ty) → length inner ≤ i
      → option_map_or (λ u. same_type u t) (slice_get (reverse types ++ bound) (i - length inner)) false ≡ true
      → (b : Bool) → nat_lt (i - length inner) (length terms) ≡ b
      → IsWellOf t (inner ++ bound) (unwrap_or (slice_get (reverse terms) (i - length inner)) (roll-Formula (BoundF (i - length terms) t)))
  at_outer i t inner bound ge h true e = among (i - length terms) t (inner ++ bound) bound (i - length inner) (ltb-true (i - length inner) (length terms) e) h
  at_outer i t inner bound ge h false e = past i t inner bound ge (ltb-false (i - length inner) (length terms) e) h

  at_index : (i : ℕ) (t : Ty) (inner bound : List Ty) → option_map_or (λ u. same_type u t) (slice_get (inner ++ (reverse types ++ bound)) i) false ≡ true
      → (b : Bool) → nat_lt i (length inner) ≡ b
      → IsWellOf t (inner ++ bound)
      (if b then roll-Formula (BoundF i t) else (unwrap_or (slice_get (reverse terms) (i - length inner)) (roll-Formula (BoundF (i - length terms) t))))
  at_index i t inner bound h true e =
      let lt : i < length inner = ltb-true i (length inner) e in
      as_index i t (inner ++ bound)
      (ap (λ o. option_map_or (λ u. same_type u t) o false) (slice_get-append_left inner bound i lt ∙ sym (slice_get-append_left inner (reverse types ++ bound) i lt)) ∙ h)
  at_index i t inner bound h false e =
      let ge : length inner ≤ i = ltb-false i (length inner) e in
      at_outer i t inner bound ge
      (ap (λ o. option_map_or (λ u. same_type u t) o false) (sym (slice_get-append_right inner (reverse types ++ bound) i ge)) ∙ h)
      (nat_lt (i - length inner) (length terms)) refl

  kept_index : (i : ℕ) (t : Ty) → Keeps (Bound i t)
  kept_index i t inner bound h =
      let k = at_index i t inner bound (sym (well-Bound i t (inner ++ (reverse types ++ bound))) ∙ h) (nat_lt i (length inner)) refl in (
        ap type_of (index_is i t (length inner)) ∙ k.0 ∙ sym (ap type_of_step (outs-Bound i t)),
        ap (λ f. is_well_in f (inner ++ bound)) (index_is i t (length inner)) ∙ k.1,
      )

  kept_parts : (inner bound : List Ty) (fs : List Formula) → AllByRecursion Keeps fs → list_all (λ f. is_well_in f (inner ++ (reverse types ++ bound))) fs ≡ true
      → (map type_of (map (instantiated terms (length inner)) fs) ≡ map type_of fs)
      × (list_all (λ f. is_well_in f (inner ++ bound)) (map (instantiated terms (length inner)) fs) ≡ true)
  kept_parts inner bound [] each h = (refl, refl)
  kept_parts inner bound (f ∷ fs) each h =
      let here = each.0 inner bound (first_true _ _ h) in
      let rest = kept_parts inner bound fs each.1 (second_true (is_well_in f (inner ++ (reverse types ++ bound))) _ h) in
      (λ i. here.0 i ∷ rest.0 i, both_true _ _ here.1 rest.1)

  kept_node : (op : Op) (parts : List Formula) (t : Ty) → AllByRecursion Keeps parts → Keeps (Node op parts t)
  kept_node op parts t each inner bound h =
      let scope : List Ty = inner ++ (reverse types ++ bound) in
      let new : List Formula = map (instantiated terms (length inner)) parts in
      let k : (list_all (λ f. is_well_in f scope) parts && row_fits (row_of op) (map type_of parts) t) ≡ true = sym (well-Node op parts t scope) ∙ h in
      let kept = kept_parts inner bound parts each (first_true _ _ k) in
      let is = instantiated-Node terms (length inner) op parts t in (
        ap type_of is ∙ ap type_of_step (outs-Node op new t) ∙ sym (ap type_of_step (outs-Node op parts t)),
        ap (λ f. is_well_in f (inner ++ bound)) is ∙ well-Node op new t (inner ++ bound)
            ∙ both_true _ _ kept.1 (ap (λ ts. row_fits (row_of op) ts t) kept.0 ∙ second_true (list_all (λ f. is_well_in f scope) parts) _ k),
      )

  kept_binder : (binder : Binder) (own : List Ty) (parts : List Formula) (t : Ty) → AllByRecursion Keeps parts → Keeps (Bind binder own parts t)
  kept_binder binder own parts t each inner bound h =
      let scope : List Ty = inner ++ (reverse types ++ bound) in
      let deeper : List Ty = reverse own ++ inner in
      let depth : length deeper ≡ length inner + length own = omega (arith, length-append (reverse own) inner, length-reverse own) in
      let new : List Formula = map (instantiated terms (length inner + length own)) parts in
      let k : (may_be_bound own && binder_fits binder (map type_of parts) t && list_all (λ f. is_well_in f (reverse own ++ scope)) parts) ≡ true =
      sym (well-Bind binder own parts t scope) ∙ h in
      let a : (may_be_bound own && binder_fits binder (map type_of parts) t) ≡ true = first_true _ _ k in
      let inside : list_all (λ f. is_well_in f (deeper ++ (reverse types ++ bound))) parts ≡ true =
      ap (λ s. list_all (λ f. is_well_in f s) parts) (append_assoc (reverse own) inner (reverse types ++ bound))
      ∙ second_true (may_be_bound own && binder_fits binder (map type_of parts) t) _ k in
      let kept = kept_parts deeper bound parts each inside in
      let same : map type_of new ≡ map type_of parts = ap (λ d. map type_of (map (instantiated terms d) parts)) (sym depth) ∙ kept.0 in
      let there : list_all (λ f. is_well_in f (reverse own ++ (inner ++ bound))) new ≡ true =
      ap (λ d. list_all (λ f. is_well_in f (reverse own ++ (inner ++ bound))) (map (instantiated terms d) parts)) (sym depth)
      ∙ ap (λ s. list_all (λ f. is_well_in f s) (map (instantiated terms (length deeper)) parts)) (sym (append_assoc (reverse own) inner bound)) ∙ kept.1 in
      let is = instantiated-Bind terms (length inner) binder own parts t in (
        ap type_of is ∙ ap type_of_step (outs-Bind binder own new t) ∙ sym (ap type_of_step (outs-Bind binder own parts t)),
        ap (λ f. is_well_in f (inner ++ bound)) is ∙ well-Bind binder own new t (inner ++ bound)
            ∙ both_true _ _ (both_true _ _ (first_true _ _ a) (ap (λ ts. binder_fits binder ts t) same ∙ second_true (may_be_bound own) _ a)) there,
      )

  int_is : (n : ℤ) (d : ℕ) → instantiated terms d (Int n) ≡ Int n
  int_is n d = ap (instantiated terms d) (sym (rolls-Int n)) ∙ ap (λ g. g d) (fold-roll-Formula (ℕ → Formula) (instantiated_step terms) (IntF n)) ∙ rolls-Int n

  free_is : (name : List ℕ) (t : Ty) (d : ℕ) → instantiated terms d (Free name t) ≡ Free name t
  free_is name t d = ap (instantiated terms d) (sym (rolls-Free name t)) ∙ ap (λ g. g d) (fold-roll-Formula (ℕ → Formula) (instantiated_step terms) (FreeF name t)) ∙ rolls-Free name t

  kept : (f : Formula) → Keeps f
  kept = formula_induction Keeps
      (λ n inner bound h. (
        ap type_of (int_is n (length inner)),
        ap (λ f. is_well_in f (inner ++ bound)) (int_is n (length inner)) ∙ well-Int n (inner ++ bound) ∙ sym (well-Int n (inner ++ (reverse types ++ bound))) ∙ h,
      ))
      (λ name t inner bound h. (
        ap type_of (free_is name t (length inner)),
        ap (λ f. is_well_in f (inner ++ bound)) (free_is name t (length inner)) ∙ well-Free name t (inner ++ bound)
            ∙ sym (well-Free name t (inner ++ (reverse types ++ bound))) ∙ h,
      ))
      kept_index
      kept_node
      kept_binder

-- the body of a binder over the terms' types, with the terms in the place of its identifiers
pub instantiated_is_well : (terms : List Formula) (f : Formula) → AllByRecursion (λ f. IsTrue (is_well f)) terms
    → is_well_in f (reverse (map type_of terms)) ≡ true → is_well (instantiated terms 0 f) ≡ true
instantiated_is_well terms f well h =
    (kept terms well f [] [] (ap (is_well_in f) (append-nil (reverse (map type_of terms))) ∙ h)).1

-- it has the type of the body
pub instantiated_type : (terms : List Formula) (f : Formula) → AllByRecursion (λ f. IsTrue (is_well f)) terms
    → is_well_in f (reverse (map type_of terms)) ≡ true → type_of (instantiated terms 0 f) ≡ type_of f
instantiated_type terms f well h =
    (kept terms well f [] [] (ap (is_well_in f) (append-nil (reverse (map type_of terms))) ∙ h)).0

only_part : (binder : Binder) (own : List Ty) (p : Formula) (t : Ty) (b : Formula) → p ≡ b → is_well (roll-Formula (BindF binder own (p ∷ []) t)) ≡ true → is_well_in b (reverse own) ≡ true
only_part binder own p t b e h =
    let k : (may_be_bound own && binder_fits binder (map type_of (p ∷ [])) t && list_all (λ f. is_well_in f (reverse own ++ [])) (p ∷ [])) ≡ true =
    sym (well-Bind binder own (p ∷ []) t []) ∙ ap is_well (sym (rolls-Bind binder own (p ∷ []) t)) ∙ h in
    let one : is_well_in p (reverse own ++ []) ≡ true =
    first_true (is_well_in p (reverse own ++ [])) true (second_true (may_be_bound own && binder_fits binder (map type_of (p ∷ [])) t) _ k) in
    ap (λ f. is_well_in f (reverse own)) (sym e) ∙ ap (is_well_in p) (sym (append-nil (reverse own))) ∙ one

-- the body of a quantifier that is well, below its identifiers
pub body_is_well : (x : Formula-F Formula) (b : Formula) → body_at x ≡ Some b → is_well (roll-Formula x) ≡ true → is_well_in b (reverse (bound_types_at x)) ≡ true
body_is_well (IntF n) b e h = cc
body_is_well (FreeF name t) b e h = cc
body_is_well (BoundF i t) b e h = cc
body_is_well (NodeF op parts t) b e h = cc
body_is_well (BindF ForAll own [] t) b e h = cc
body_is_well (BindF ForAll own (p ∷ []) t) b e h = only_part ForAll own p t b (cc) h
body_is_well (BindF ForAll own (p ∷ q ∷ parts) t) b e h = cc
body_is_well (BindF Exists own [] t) b e h = cc
body_is_well (BindF Exists own (p ∷ []) t) b e h = only_part Exists own p t b (cc) h
body_is_well (BindF Exists own (p ∷ q ∷ parts) t) b e h = cc
body_is_well (BindF Comprehension own parts t) b e h = cc
body_is_well (BindF QuantifiedUnion own parts t) b e h = cc
body_is_well (BindF QuantifiedIntersection own parts t) b e h = cc

pub quantifier_instantiated_is_well : (f : Formula) (terms : List Formula) → AreWell terms → bound_types f ≡ map type_of terms → IsTrue (is_well f)
    → IfSome (body f) (λ b. IsTrue (is_well (instantiated terms 0 b)))
quantifier_instantiated_is_well f terms well types h =
    let go : (o : Option Formula) → body f ≡ o → IfSome o (λ b. IsTrue (is_well (instantiated terms 0 b))) = elim [
      | None ↦ λ e. tt
      | Some b ↦ λ e. instantiated_is_well terms b well
          (ap (λ ts. is_well_in b (reverse ts)) (sym types) ∙ body_is_well (out-Formula f) b e (ap is_well (roll-out-Formula f) ∙ h))
    ] in
    go (body f) refl
