-- The free identifiers after a substitution, and two substitutions one after the other.
use Rattle.std.proofs.Common.{◌≡◌, ◌∙◌, sym, ap, refl, ℕ, ℤ, Bool, true, false, cond, List, [], ◌∷◌, ◌++◌, append_assoc, map, Option, Some, None}
use Rattle.std.specs.Prelude.{bytes_eq, unwrap_or}
use Rattle.std.specs.List.{AllByRecursion}
use Rattle.std.specs.Map.{lookup}
use Rattle.std.specs.Option.{option_map_or}
use Rattle.std.proofs.lemmas.List.{append-nil}
use Rattle.formula_core.specs.declared.ty.Ty.{Ty}
use Rattle.formula_core.specs.declared.formula.Formula.{Formula}
use Rattle.formula_core.specs.declared.formula.Formula.TheOpen.{Int as IntF, Bound as BoundF}
use Rattle.formula_core.specs.declared.formula.Formula.TheVariants.{Int, Free, Bound, Node, Bind}
use Rattle.formula_core.specs.declared.formula.Formula.TheViews.{rolls-Int, rolls-Bound}
use Rattle.formula_core.specs.Formulas.{joined, occurrences_step, occurrences, substituted}
use Rattle.formula_core.specs.Laws.{occurrences_at, first_then}
use Rattle.formula_core.proofs.Induction.{formula_induction}
use Rattle.formula_core.proofs.Equations.{formula_fold, occurrences-Free, occurrences-Node, occurrences-Bind, substituted-Int, substituted-Free, substituted-Bound, substituted-Node, substituted-Bind}

joined-append : {X : Type 0} → (xs ys : List (List X)) → joined (xs ++ ys) ≡ joined xs ++ joined ys
joined-append [] ys = refl
joined-append (x ∷ xs) ys = ap (λ zs. x ++ zs) (joined-append xs ys) ∙ sym (append_assoc x (joined xs) (joined ys))

pub map-append : {X Y : Type 0} → (g : X → Y) (xs ys : List X) → map g (xs ++ ys) ≡ map g xs ++ map g ys
map-append g [] ys = refl
map-append g (x ∷ xs) ys = ap (λ zs. g x ∷ zs) (map-append g xs ys)

occurrences-Int : (n : ℤ) → occurrences (Int n) ≡ []
occurrences-Int n = formula_fold occurrences_step (IntF n) _ (rolls-Int n)

occurrences-Bound : (i : ℕ) (t : Ty) → occurrences (Bound i t) ≡ []
occurrences-Bound i t = formula_fold occurrences_step (BoundF i t) _ (rolls-Bound i t)

module _ (pairs : List (List ℕ × Formula)) where
  abbrev at : List (List ℕ × Ty) → List (List ℕ × Ty)
  at xs = joined (map (occurrences_at pairs) xs)

  abbrev Tells : Formula → Type 0
  Tells f = occurrences (substituted pairs f) ≡ at (occurrences f)

  at-append : (xs ys : List (List ℕ × Ty)) → at (xs ++ ys) ≡ at xs ++ at ys
  at-append xs ys = ap joined (map-append (occurrences_at pairs) xs ys) ∙ joined-append (map (occurrences_at pairs) xs) (map (occurrences_at pairs) ys)

  of_parts : (fs : List Formula) → AllByRecursion Tells fs → joined (map occurrences (map (substituted pairs) fs)) ≡ at (joined (map occurrences fs))
  of_parts [] each = refl
  of_parts (f ∷ fs) each = (λ i. each.0 i ++ of_parts fs each.1 i) ∙ sym (at-append (occurrences f) (joined (map occurrences fs)))

  of_name : (name : List ℕ) (t : Ty) (o : Option Formula) → occurrences (unwrap_or o (Free name t)) ≡ option_map_or occurrences o ((name, t) ∷ []) ++ []
  of_name name t None = occurrences-Free name t
  of_name name t (Some term) = sym (append-nil (occurrences term))

  pub occurrences_after : (f : Formula) → occurrences (substituted pairs f) ≡ joined (map (occurrences_at pairs) (occurrences f))
  occurrences_after = formula_induction Tells
      (λ n. ap occurrences (substituted-Int pairs n) ∙ occurrences-Int n ∙ sym (ap at (occurrences-Int n)))
      (λ name t. ap occurrences (substituted-Free pairs name t) ∙ of_name name t (lookup (bytes_eq name) pairs) ∙ sym (ap at (occurrences-Free name t)))
      (λ i t. ap occurrences (substituted-Bound pairs i t) ∙ occurrences-Bound i t ∙ sym (ap at (occurrences-Bound i t)))
      (λ op parts t each.
      ap occurrences (substituted-Node pairs op parts t) ∙ occurrences-Node op (map (substituted pairs) parts) t ∙ of_parts parts each ∙ sym (ap at (occurrences-Node op parts t)))
      (λ binder types parts t each.
      ap occurrences (substituted-Bind pairs binder types parts t) ∙ occurrences-Bind binder types (map (substituted pairs) parts) t ∙ of_parts parts each
      ∙ sym (ap at (occurrences-Bind binder types parts t)))

module _ (first second : List (List ℕ × Formula)) where
  abbrev Joins : Formula → Type 0
  Joins f = substituted second (substituted first f) ≡ substituted (first_then first second) f

  join_parts : (fs : List Formula) → AllByRecursion Joins fs → map (substituted second) (map (substituted first) fs) ≡ map (substituted (first_then first second)) fs
  join_parts [] each = refl
  join_parts (f ∷ fs) each = λ i. each.0 i ∷ join_parts fs each.1 i

  at_entry : (b : Bool) (term : Formula) (name : List ℕ) (t : Ty) (o o' : Option Formula) → substituted second (unwrap_or o (Free name t)) ≡ unwrap_or o' (Free name t)
      → substituted second (unwrap_or (cond b (Some term) o) (Free name t)) ≡ unwrap_or (cond b (Some (substituted second term)) o') (Free name t)
  at_entry true term name t o o' e = refl
  at_entry false term name t o o' e = e

  join_name : (pairs : List (List ℕ × Formula)) (name : List ℕ) (t : Ty)
      → substituted second (unwrap_or (lookup (bytes_eq name) pairs) (Free name t))
      ≡ unwrap_or (lookup (bytes_eq name) (map (λ p. (p.0, substituted second p.1)) pairs ++ second)) (Free name t)
  join_name [] name t = substituted-Free second name t
  join_name (p ∷ pairs) name t = at_entry (bytes_eq name p.0) p.1 name t _ _ (join_name pairs name t)

  pub one_after_another : (f : Formula) → substituted second (substituted first f) ≡ substituted (first_then first second) f
  one_after_another = formula_induction Joins
      (λ n. ap (substituted second) (substituted-Int first n) ∙ substituted-Int second n ∙ sym (substituted-Int (first_then first second) n))
      (λ name t. ap (substituted second) (substituted-Free first name t) ∙ join_name first name t ∙ sym (substituted-Free (first_then first second) name t))
      (λ i t. ap (substituted second) (substituted-Bound first i t) ∙ substituted-Bound second i t ∙ sym (substituted-Bound (first_then first second) i t))
      (λ op parts t each.
      ap (substituted second) (substituted-Node first op parts t) ∙ substituted-Node second op (map (substituted first) parts) t
      ∙ ap (λ ps. Node op ps t) (join_parts parts each) ∙ sym (substituted-Node (first_then first second) op parts t))
      (λ binder types parts t each.
      ap (substituted second) (substituted-Bind first binder types parts t) ∙ substituted-Bind second binder types (map (substituted first) parts) t
      ∙ ap (λ ps. Bind binder types ps t) (join_parts parts each) ∙ sym (substituted-Bind (first_then first second) binder types parts t))
