-- What holds of all identifiers of a formula holds of those of the formula that a substitution, an instantiation, a
-- shift or binding makes of it, where it holds of those of the terms.
use Rattle.std.proofs.Common.{◌≡◌, ◌∙◌, sym, subst, refl, ℕ, zero, suc, ◌+◌, ℤ, Bool, true, false, cond, List, [], ◌∷◌, ◌++◌, length, map, reverse, Option, Some, None}
use Rattle.std.specs.Prelude.{bytes_eq, nat_lt, ◌-◌, if◌then◌else◌}
use Rattle.std.specs.List.{AllByRecursion, slice_get}
use Rattle.std.specs.Map.{lookup}
use Rattle.std.specs.Option.{unwrap_or, option_map_or}
use Rattle.std.proofs.lemmas.List.{reverse-append}
use Rattle.formula_core.specs.declared.op.Op.{Op}
use Rattle.formula_core.specs.declared.op.Binder.{Binder}
use Rattle.formula_core.specs.declared.ty.Ty.{Ty}
use Rattle.formula_core.specs.declared.ty.Ty.TheVariants as ty
use Rattle.formula_core.specs.declared.ty.Ty.TheOpen.{Int as IntegerF, Bool as BooleanF, Truth as TruthF}
use Rattle.formula_core.specs.declared.ty.Ty.TheViews as of_type
use Rattle.formula_core.specs.declared.formula.Formula.{Formula}
use Rattle.formula_core.specs.declared.formula.Formula.TheOpen.{Int as IntF, Free as FreeF, Bound as BoundF}
use Rattle.formula_core.specs.declared.formula.Formula.TheVariants.{Int, Free, Bound, Node, Bind}
use Rattle.formula_core.specs.declared.formula.Formula.TheViews.{roll-Formula, rolls-Int, rolls-Free, rolls-Bound}
use Rattle.formula_core.specs.Formulas.{joined, substituted, instantiated}
use Rattle.formula_core.specs.Identifiers.{carriers_step, carriers, identifiers_step, identifiers}
use Rattle.formula_core.specs.Shifting.{raised, place_from_last, shifted, abstracted}
use Rattle.formula_core.proofs.Depths.{shifted-Int, shifted-Free, shifted-Bound, shifted-Node, shifted-Bind, abstracted-Int, abstracted-Free, abstracted-Bound, abstracted-Node, abstracted-Bind}
use Rattle.formula_core.proofs.Equations.{formula_fold, type_fold, carriers-Given, carriers-Pow, carriers-Pair, identifiers-Free, identifiers-Bound, identifiers-Node, identifiers-Bind, substituted-Int, substituted-Free, substituted-Bound, substituted-Node, substituted-Bind}
use Rattle.formula_core.proofs.Induction.{formula_induction}
use Rattle.formula_core.proofs.Instantiation.{instantiated-Int, instantiated-Free, instantiated-Bound, instantiated-Node, instantiated-Bind}
use Rattle.formula_core.proofs.Types.{type_induction}

module _ {X : Type 0} (P : X → Type 0) where
  pub front : (xs ys : List X) → AllByRecursion P (xs ++ ys) → AllByRecursion P xs
  front [] ys h = tt
  front (x ∷ xs) ys h = (h.0, front xs ys h.1)

  pub back : (xs ys : List X) → AllByRecursion P (xs ++ ys) → AllByRecursion P ys
  back [] ys h = h
  back (x ∷ xs) ys h = back xs ys h.1

  pub both : (xs ys : List X) → AllByRecursion P xs → AllByRecursion P ys → AllByRecursion P (xs ++ ys)
  both [] ys h k = k
  both (x ∷ xs) ys h k = (h.0, both xs ys h.1 k)

pub all_more : {X : Type 0} (P Q : X → Type 0) → ((x : X) → P x → Q x) → (xs : List X) → AllByRecursion P xs → AllByRecursion Q xs
all_more P Q f [] h = tt
all_more P Q f (x ∷ xs) h = (f x h.0, all_more P Q f xs h.1)

pub carriers-Int : carriers ty.Int ≡ []
carriers-Int = type_fold carriers_step IntegerF ty.Int of_type.rolls-Int

pub carriers-Bool : carriers ty.Bool ≡ []
carriers-Bool = type_fold carriers_step BooleanF ty.Bool of_type.rolls-Bool

pub carriers-Truth : carriers ty.Truth ≡ []
carriers-Truth = type_fold carriers_step TruthF ty.Truth of_type.rolls-Truth

pub identifiers-Int : (n : ℤ) → identifiers (Int n) ≡ []
identifiers-Int n = formula_fold identifiers_step (IntF n) (Int n) (rolls-Int n)

-- From R of all identifiers before to P of all identifiers after, where R of a carrier set gives P of it.
module _ (R P : List ℕ × Ty → Type 0) (sets : (name : List ℕ) → R (name, ty.Pow (ty.Given name)) → P (name, ty.Pow (ty.Given name))) where
  abbrev AllR : List (List ℕ × Ty) → Type 0
  AllR = AllByRecursion R

  abbrev AllP : List (List ℕ × Ty) → Type 0
  AllP = AllByRecursion P

  abbrev Of : Formula → Type 0
  Of f = AllP (identifiers f)

  type_keeps : (t : Ty) → AllR (carriers t) → AllP (carriers t)
  type_keeps = type_induction (λ t. AllR (carriers t) → AllP (carriers t))
      (λ h. subst AllP (sym carriers-Int) tt)
      (λ h. subst AllP (sym carriers-Bool) tt)
      (λ name h. subst AllP (sym (carriers-Given name)) (sets name (subst AllR (carriers-Given name) h).0, tt))
      (λ t f h. subst AllP (sym (carriers-Pow t)) (f (subst AllR (carriers-Pow t) h)))
      (λ t u f g h. let k = subst AllR (carriers-Pair t u) h in
      subst AllP (sym (carriers-Pair t u)) (both P (carriers t) (carriers u) (f (front R (carriers t) (carriers u) k)) (g (back R (carriers t) (carriers u) k))))
      (λ h. subst AllP (sym carriers-Truth) tt)

  types_keep : (ts : List Ty) → AllR (joined (map carriers ts)) → AllP (joined (map carriers ts))
  types_keep [] h = tt
  types_keep (t ∷ ts) h = both P (carriers t) _ (type_keeps t (front R (carriers t) (joined (map carriers ts)) h)) (types_keep ts (back R (carriers t) (joined (map carriers ts)) h))

  index_keeps : (i : ℕ) (t : Ty) → AllR (carriers t) → Of (Bound i t)
  index_keeps i t h = subst AllP (sym (identifiers-Bound i t)) (type_keeps t h)

  name_keeps : (name : List ℕ) (t : Ty) → P (name, t) → AllR (carriers t) → Of (Free name t)
  name_keeps name t p h = subst AllP (sym (identifiers-Free name t)) (p, type_keeps t h)

  -- a change of formulas that goes into operations and binders, and counts the identifiers that are bound inside
  module _ (g : ℕ → Formula → Formula)
      (int : (d : ℕ) (n : ℤ) → g d (Int n) ≡ Int n)
      (free : (d : ℕ) (name : List ℕ) (t : Ty) → R (name, t) → AllR (carriers t) → Of (g d (Free name t)))
      (bound : (d i : ℕ) (t : Ty) → AllR (carriers t) → Of (g d (Bound i t)))
      (node : (d : ℕ) (op : Op) (parts : List Formula) (t : Ty) → g d (Node op parts t) ≡ Node op (map (g d) parts) t)
      (bind : (d : ℕ) (binder : Binder) (types : List Ty) (parts : List Formula) (t : Ty) → g d (Bind binder types parts t) ≡ Bind binder types (map (g (d + length types)) parts) t) where
    abbrev Keeps : Formula → Type 0
    Keeps f = (d : ℕ) → AllR (identifiers f) → Of (g d f)

    parts_keep : (d : ℕ) (fs : List Formula) → AllByRecursion Keeps fs → AllR (joined (map identifiers fs)) → AllP (joined (map identifiers (map (g d) fs)))
    parts_keep d [] each h = tt
    parts_keep d (f ∷ fs) each h =
        both P (identifiers (g d f)) _ (each.0 d (front R (identifiers f) (joined (map identifiers fs)) h)) (parts_keep d fs each.1 (back R (identifiers f) (joined (map identifiers fs)) h))

    formula_keeps : (f : Formula) → Keeps f
    formula_keeps = formula_induction Keeps
        (λ n d h. subst Of (sym (int d n)) (subst AllP (sym (identifiers-Int n)) tt))
        (λ name t d h. let k = subst AllR (identifiers-Free name t) h in free d name t k.0 k.1)
        (λ i t d h. bound d i t (subst AllR (identifiers-Bound i t) h))
        (λ op parts t each d h.
        let k = subst AllR (identifiers-Node op parts t) h in
        subst Of (sym (node d op parts t)) (subst AllP (sym (identifiers-Node op (map (g d) parts) t))
        (both P _ (carriers t) (parts_keep d parts each (front R (joined (map identifiers parts)) (carriers t) k)) (type_keeps t (back R (joined (map identifiers parts)) (carriers t) k)))))
        (λ binder types parts t each d h.
        let k = subst AllR (identifiers-Bind binder types parts t) h in
        let own = joined (map carriers types) in
        let inner = front R (own ++ joined (map identifiers parts)) (carriers t) k in
        let e = d + length types in
        subst Of (sym (bind d binder types parts t)) (subst AllP (sym (identifiers-Bind binder types (map (g e) parts) t))
        (both P (own ++ joined (map identifiers (map (g e) parts))) (carriers t)
        (both P own _ (types_keep types (front R own (joined (map identifiers parts)) inner)) (parts_keep e parts each (back R own (joined (map identifiers parts)) inner)))
        (type_keeps t (back R (own ++ joined (map identifiers parts)) (carriers t) k)))))

  found : (name : List ℕ) (pairs : List (List ℕ × Formula)) (term : Formula) → AllByRecursion (λ q. Of q.1) pairs → lookup (bytes_eq name) pairs ≡ Some term → Of term
  found name [] term all e = cc
  found name (q ∷ pairs) term all e =
      let go : (b : Bool) → cond b (Some q.1) (lookup (bytes_eq name) pairs) ≡ Some term → Of term = elim [
        | true ↦ λ k. let same : q.1 ≡ term = cc in subst Of same all.0
        | false ↦ λ k. found name pairs term all.1 k
      ] in
      go (bytes_eq name q.0) e

  module _ (pairs : List (List ℕ × Formula)) (terms : AllByRecursion (λ q. Of q.1) pairs) (left : (x : List ℕ × Ty) → R x → lookup (bytes_eq x.0) pairs ≡ None → P x) where
    at_name : (name : List ℕ) (t : Ty) (o : Option Formula) → lookup (bytes_eq name) pairs ≡ o → R (name, t) → AllR (carriers t) → Of (unwrap_or o (Free name t))
    at_name name t None e r h = name_keeps name t (left (name, t) r e) h
    at_name name t (Some term) e r h = found name pairs term terms e

    -- what holds of all identifiers becomes what holds of those of the result, where it does of each one that is not replaced, of carrier sets, and of the terms
    pub replaced_keeps : (f : Formula) → AllR (identifiers f) → Of (substituted pairs f)
    replaced_keeps f = formula_keeps (λ d. substituted pairs)
        (λ d. substituted-Int pairs)
        (λ d name t r h. subst Of (sym (substituted-Free pairs name t)) (at_name name t (lookup (bytes_eq name) pairs) refl r h))
        (λ d i t h. subst Of (sym (substituted-Bound pairs i t)) (index_keeps i t h))
        (λ d. substituted-Node pairs)
        (λ d. substituted-Bind pairs) f 0

  module _ (ids : List (List ℕ × Ty)) (left : (x : List ℕ × Ty) → R x → place_from_last ids x ≡ None → P x) where
    at_place : (name : List ℕ) (t : Ty) (d : ℕ) (o : Option ℕ) → place_from_last ids (name, t) ≡ o → R (name, t) → AllR (carriers t)
        → Of (option_map_or (λ i. roll-Formula (BoundF (d + i) t)) o (roll-Formula (FreeF name t)))
    at_place name t d None e r h = subst Of (sym (rolls-Free name t)) (name_keeps name t (left (name, t) r e) h)
    at_place name t d (Some i) e r h = subst Of (sym (rolls-Bound (d + i) t)) (index_keeps (d + i) t h)

    -- the same of binding, where it does of each one that is not bound, and of carrier sets
    pub bound_keeps : (f : Formula) (d : ℕ) → AllR (identifiers f) → Of (abstracted ids d f)
    bound_keeps = formula_keeps (abstracted ids)
        (λ d n. abstracted-Int ids d n ∙ rolls-Int n)
        (λ d name t r h. subst Of (sym (abstracted-Free ids d name t)) (at_place name t d (place_from_last ids (name, t)) refl r h))
        (λ d i t h. subst Of (sym (abstracted-Bound ids d i t ∙ rolls-Bound (raised (length ids) d i) t)) (index_keeps (raised (length ids) d i) t h))
        (abstracted-Node ids)
        (abstracted-Bind ids)

  module _ (terms : List Formula) (all : AllByRecursion Of terms) (left : (x : List ℕ × Ty) → R x → P x) where
    term_at : (fs : List Formula) → AllByRecursion Of fs → (i : ℕ) (f : Formula) → Of f → Of (unwrap_or (slice_get fs i) f)
    term_at [] each i f h = h
    term_at (g ∷ fs) each zero f h = each.0
    term_at (g ∷ fs) each (suc i) f h = term_at fs each.1 i f h

    turned : (fs : List Formula) → AllByRecursion Of fs → AllByRecursion Of (reverse fs)
    turned [] each = tt
    turned (f ∷ fs) each = subst (AllByRecursion Of) (sym (reverse-append (f ∷ []) fs)) (both Of (reverse fs) (f ∷ []) (turned fs each.1) (each.0, tt))

    at_index : (b : Bool) (d i : ℕ) (t : Ty) → AllR (carriers t)
        → Of (if b then roll-Formula (BoundF i t) else (unwrap_or (slice_get (reverse terms) (i - d)) (roll-Formula (BoundF (i - length terms) t))))
    at_index true d i t h = subst Of (sym (rolls-Bound i t)) (index_keeps i t h)
    at_index false d i t h = term_at (reverse terms) (turned terms all) (i - d) _ (subst Of (sym (rolls-Bound (i - length terms) t)) (index_keeps (i - length terms) t h))

    -- the same of an instantiation
    pub filled_keeps : (f : Formula) (d : ℕ) → AllR (identifiers f) → Of (instantiated terms d f)
    filled_keeps = formula_keeps (instantiated terms)
        (instantiated-Int terms)
        (λ d name t r h. subst Of (sym (instantiated-Free terms d name t)) (name_keeps name t (left (name, t) r) h))
        (λ d i t h. subst Of (sym (instantiated-Bound terms d i t)) (at_index (nat_lt i d) d i t h))
        (instantiated-Node terms)
        (instantiated-Bind terms)

-- one property of identifiers, before and after
module _ (P : List ℕ × Ty → Type 0) where
  abbrev Has : Formula → Type 0
  Has f = AllByRecursion P (identifiers f)

  pub substituted_keeps : (pairs : List (List ℕ × Formula)) → AllByRecursion (λ q. Has q.1) pairs → (f : Formula) → Has f → Has (substituted pairs f)
  substituted_keeps pairs terms = replaced_keeps P P (λ name h. h) pairs terms (λ x h e. h)

  pub abstracted_keeps : (ids : List (List ℕ × Ty)) (f : Formula) (d : ℕ) → Has f → Has (abstracted ids d f)
  abstracted_keeps ids = bound_keeps P P (λ name h. h) ids (λ x h e. h)

  pub instantiated_keeps : (terms : List Formula) → AllByRecursion Has terms → (f : Formula) (d : ℕ) → Has f → Has (instantiated terms d f)
  instantiated_keeps terms all = filled_keeps P P (λ name h. h) terms all (λ x h. h)

  pub shifted_keeps : (by : ℕ) (f : Formula) (d : ℕ) → Has f → Has (shifted by d f)
  shifted_keeps by = formula_keeps P P (λ name h. h) (shifted by)
      (shifted-Int by)
      (λ d name t r h. subst Has (sym (shifted-Free by d name t)) (name_keeps P P (λ name h. h) name t r h))
      (λ d i t h. subst Has (sym (shifted-Bound by d i t ∙ rolls-Bound (raised by d i) t)) (index_keeps P P (λ name h. h) (raised by d i) t h))
      (shifted-Node by)
      (shifted-Bind by)
