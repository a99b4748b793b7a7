-- The core form of a written formula without its places is its core form without them.
use Rattle.std.proofs.Common.{◌≡◌, ◌∙◌, sym, ap, refl, ℕ, Bool, true, false, cond, List, [], ◌∷◌, map, Option, Some, None}
use Rattle.std.specs.List.{AllByRecursion}
use Rattle.formula_core.specs.declared.op.Binder.{Binder}
use Rattle.formula_core.specs.declared.op.Op.TheVariants as op
use Rattle.formula_core.specs.declared.raw.RawOp.{RawOp}
use Rattle.formula_core.specs.declared.raw.RawOp.TheVariants as rawop
use Rattle.formula_core.specs.declared.raw.RawBinder.{RawBinder}
use Rattle.formula_core.specs.declared.raw.RawBinder.TheVariants as rawbinder
use Rattle.formula_core.specs.declared.raw.RawBound.{RawBound}
use Rattle.formula_core.specs.declared.raw.Raw.{Raw}
use Rattle.type_formula.specs.Bare.{Bares, BareBounds, Form, Binding, Broken, nothing, more, plain, typed, has_names}
use Rattle.type_formula.specs.CoreForms.{free_in_form, free_in_binder, free_names, PartWithForm, bares, bound_before, bounds, plain_names, turned, ascribed, once, core_of_form, core_of_lambda, core_of_unnamed, core_of_binder, core_form}
use Rattle.type_formula.specs.PrivateViews.{with_core, bound_part}
use Rattle.type_formula.proofs.CoreEquations.{core_form-Int, core_form-Name, core_form-Node, core_form-Bind, free_names-Int, free_names-Name, free_names-Node, free_names-Bind}
use Rattle.math_places.specs.Places.{unplaced}
use Rattle.math_places.proofs.Equations.{unplaced-Int, unplaced-Name, unplaced-Node, unplaced-Bind, unplaced_bound}
use Rattle.math_print.proofs.BarePlaces.{unplaced_bare, unplaced_bares, unplaced_bounds}
use Rattle.math_places.proofs.Induction.{OfType, raw_induction}
use Rattle.math_print.proofs.Typings.{same_has}

-- The free names.

abbrev IsFreeSame : Raw → Type 0
IsFreeSame r = free_names (unplaced r) ≡ free_names r

all_free : (rs : List Raw) → AllByRecursion IsFreeSame rs → map free_names (map unplaced rs) ≡ map free_names rs
all_free [] h = refl
all_free (r ∷ rs) h = λ i. h.0 i ∷ all_free rs h.1 i

bound_names : (names : List RawBound) → map (λ b. b.name) (map unplaced_bound names) ≡ map (λ b. b.name) names
bound_names [] = refl
bound_names (b ∷ names) = ap (λ xs. b.name ∷ xs) (bound_names names)

pub same_free : (r : Raw) → IsFreeSame r
same_free = raw_induction IsFreeSame
    (λ n place. ap free_names (unplaced-Int n place) ∙ free_names-Int n 0 ∙ sym (free_names-Int n place))
    (λ x place. ap free_names (unplaced-Name x place) ∙ free_names-Name x 0 ∙ sym (free_names-Name x place))
    (λ o parts place h. ap free_names (unplaced-Node o parts place) ∙ free_names-Node o (map unplaced parts) 0 ∙ ap (free_in_form o) (all_free parts h) ∙ sym (free_names-Node o parts place))
    (λ b names parts place _ h.
    ap free_names (unplaced-Bind b names parts place) ∙ free_names-Bind b (map unplaced_bound names) (map unplaced parts) 0
    ∙ (λ i. free_in_binder b (bound_names names i) (all_free parts h i)) ∙ sym (free_names-Bind b names parts place))

-- Core forms of parts that are in core form.

turned_same : (bs : Bares) → turned (unplaced_bares bs) ≡ unplaced_bares (turned bs)
turned_same nothing = refl
turned_same (more a nothing) = refl
turned_same (more a (more b nothing)) = refl
turned_same (more a (more b (more c bs))) = refl

ascribed_same : (bs : Bares) → ascribed (unplaced_bares bs) ≡ unplaced_bare (ascribed bs)
ascribed_same nothing = refl
ascribed_same (more a nothing) = refl
ascribed_same (more a (more b nothing)) = refl
ascribed_same (more a (more b (more c bs))) = refl

form_same : (o : RawOp) (bs : Bares) → core_of_form o (unplaced_bares bs) ≡ unplaced_bare (core_of_form o bs)
form_same (rawop.Plain o) bs = refl
form_same rawop.NotEqual bs = refl
form_same rawop.NotMember bs = refl
form_same rawop.NotProperSubset bs = refl
form_same rawop.NotSubset bs = refl
form_same rawop.Greater bs = ap (Form op.Less) (turned_same bs)
form_same rawop.GreaterOrEqual bs = ap (Form op.LessOrEqual) (turned_same bs)
form_same rawop.BackwardComposition bs = ap (Form op.Composition) (turned_same bs)
form_same rawop.Partition bs = refl
form_same rawop.OfType bs = ascribed_same bs

lambda_same : (names : BareBounds) (bs : Bares) → core_of_lambda (unplaced_bounds names) (unplaced_bares bs) ≡ unplaced_bare (core_of_lambda names bs)
lambda_same names nothing = refl
lambda_same names (more a nothing) = refl
lambda_same names (more a (more b nothing)) = refl
lambda_same names (more a (more b (more c nothing))) = refl
lambda_same names (more a (more b (more c (more d bs)))) = refl

abbrev unplaced_part : PartWithForm → PartWithForm
unplaced_part p = (unplaced p.0, unplaced_bare p.1)

bares_same : (ps : List PartWithForm) → bares (map unplaced_part ps) ≡ unplaced_bares (bares ps)
bares_same [] = refl
bares_same (p ∷ ps) = ap (more (unplaced_bare p.1)) (bares_same ps)

plain_same : (xs : List (List ℕ)) → plain_names xs ≡ unplaced_bounds (plain_names xs)
plain_same [] = refl
plain_same (x ∷ xs) = ap (plain x) (plain_same xs)

unnamed_same : (b : Binder) (ps : List PartWithForm) → core_of_unnamed b (map unplaced_part ps) ≡ unplaced_bare (core_of_unnamed b ps)
unnamed_same b [] = refl
unnamed_same b (e ∷ []) = refl
unnamed_same b (e ∷ p ∷ []) =
    ap (λ names. Binding b names (more (unplaced_bare p.1) (more (unplaced_bare e.1) nothing))) (ap (λ xs. plain_names (once xs)) (same_free e.0) ∙ plain_same (once (free_names e.0)))
unnamed_same b (e ∷ p ∷ q ∷ ps) = ap Broken (bares_same (e ∷ p ∷ q ∷ ps))

implicit_same : (b : Binder) (has : Bool) (ps : List PartWithForm) → cond has (Broken (bares (map unplaced_part ps))) (core_of_unnamed b (map unplaced_part ps)) ≡ unplaced_bare (cond has (Broken (bares ps)) (core_of_unnamed b ps))
implicit_same b true ps = ap Broken (bares_same ps)
implicit_same b false ps = unnamed_same b ps

binder_same : (b : RawBinder) (names : BareBounds) (ps : List PartWithForm) → core_of_binder b (unplaced_bounds names) (map unplaced_part ps) ≡ unplaced_bare (core_of_binder b names ps)
binder_same (rawbinder.Plain b) names ps = ap (Binding b (unplaced_bounds names)) (bares_same ps)
binder_same rawbinder.Lambda names ps = ap (core_of_lambda (unplaced_bounds names)) (bares_same ps) ∙ lambda_same names (bares ps)
binder_same (rawbinder.Implicit b) names ps =
    ap (λ has. cond has (Broken (bares (map unplaced_part ps))) (core_of_unnamed b (map unplaced_part ps))) (same_has names) ∙ implicit_same b (has_names names) ps

-- The core form of each variant.

abbrev IsCoreSame : Raw → Type 0
IsCoreSame r = core_form (unplaced r) ≡ unplaced_bare (core_form r)

all_core : (rs : List Raw) → AllByRecursion IsCoreSame rs → map with_core (map unplaced rs) ≡ map unplaced_part (map with_core rs)
all_core [] h = refl
all_core (r ∷ rs) h = λ i. (unplaced r, h.0 i) ∷ all_core rs h.1 i

bound_core : (x : List ℕ) (t : Option Raw) (place : ℕ) (names : BareBounds) → OfType IsCoreSame t → bound_before (bound_part (unplaced_bound (record { name = x; ty = t; place = place }))) (unplaced_bounds names) ≡ unplaced_bounds (bound_before (bound_part (record { name = x; ty = t; place = place })) names)
bound_core x None place names h = refl
bound_core x (Some t) place names h = ap (λ u. typed x u (unplaced_bounds names)) h

bounds_core : (names : List RawBound) → AllByRecursion (λ b. OfType IsCoreSame b.ty) names → bounds (map bound_part (map unplaced_bound names)) ≡ unplaced_bounds (bounds (map bound_part names))
bounds_core [] h = refl
bounds_core (b ∷ names) h =
    ap (bound_before (bound_part (unplaced_bound b))) (bounds_core names h.1) ∙ bound_core b.name b.ty b.place (bounds (map bound_part names)) h.0

pub same_core : (r : Raw) → IsCoreSame r
same_core = raw_induction IsCoreSame
    (λ n place. ap core_form (unplaced-Int n place) ∙ core_form-Int n 0 ∙ sym (ap unplaced_bare (core_form-Int n place)))
    (λ x place. ap core_form (unplaced-Name x place) ∙ core_form-Name x 0 ∙ sym (ap unplaced_bare (core_form-Name x place)))
    (λ o parts place h.
    ap core_form (unplaced-Node o parts place) ∙ core_form-Node o (map unplaced parts) 0 ∙ ap (λ ps. core_of_form o (bares ps)) (all_core parts h)
    ∙ ap (core_of_form o) (bares_same (map with_core parts)) ∙ form_same o (bares (map with_core parts)) ∙ sym (ap unplaced_bare (core_form-Node o parts place)))
    (λ b names parts place k h.
    ap core_form (unplaced-Bind b names parts place) ∙ core_form-Bind b (map unplaced_bound names) (map unplaced parts) 0
    ∙ (λ i. core_of_binder b (bounds_core names k i) (all_core parts h i)) ∙ binder_same b (bounds (map bound_part names)) (map with_core parts)
    ∙ sym (ap unplaced_bare (core_form-Bind b names parts place)))
