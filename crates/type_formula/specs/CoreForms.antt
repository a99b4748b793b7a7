-- The core form of a written formula.
use Rattle.std.specs.Prelude.{ℕ, if◌then◌else◌, List, [], ◌∷◌, ◌++◌, map, fold, Option, Some, None, bytes_eq}
use Rattle.std.specs.List.{list_any}
use Rattle.std.specs.Option.{option_map}
use Rattle.formula_core.specs.Formulas.{joined}
use Rattle.formula_core.specs.declared.op.Op.{Op}
use Rattle.formula_core.specs.declared.op.Op.TheVariants as op
use Rattle.formula_core.specs.declared.op.Binder.{Binder}
use Rattle.formula_core.specs.declared.op.Binder.TheVariants as binder
use Rattle.formula_core.specs.declared.raw.RawOp.{RawOp}
use Rattle.formula_core.specs.declared.raw.RawOp.TheVariants as rawop
use Rattle.formula_core.specs.declared.raw.RawBinder.{RawBinder}
use Rattle.formula_core.specs.declared.raw.RawBinder.TheVariants as rawbinder
use Rattle.formula_core.specs.declared.raw.Raw.{Raw}
use Rattle.formula_core.specs.declared.raw.Raw.TheOpen.{Raw-F, RawBound-F, Int, Name, Node, Bind}
use Rattle.formula_core.specs.declared.raw.Raw.TheFolds.{fold-Raw, para-Raw}
use Rattle.type_formula.specs.Bare.{Bare, Bares, BareBounds, Number, Identifier, Form, Partition, Binding, Ascribed, Broken, nothing, more, unbound, plain, typed, has_names}

-- the names that are none of these
abbrev pub without : List (List ℕ) → List (List ℕ) → List (List ℕ)
without bound [] = []
without bound (x ∷ xs) = if list_any (bytes_eq x) bound then without bound xs else (x ∷ without bound xs)

-- a list with one more name at its end, if it was not there yet
abbrev pub with_new_name : List (List ℕ) → List ℕ → List (List ℕ)
with_new_name xs x = if list_any (bytes_eq x) xs then xs else (xs ++ x ∷ [])

-- each name once, by first place
abbrev pub once : List (List ℕ) → List (List ℕ)
once xs = fold with_new_name [] xs

abbrev pub free_in_form : RawOp → List (List (List ℕ)) → List (List ℕ)
free_in_form rawop.OfType (e ∷ t ∷ []) = e
free_in_form _ parts = joined parts

-- `{E∣P}`, `⋃E∣P` and `⋂E∣P` bind all free names of E
abbrev pub free_in_binder : RawBinder → List (List ℕ) → List (List (List ℕ)) → List (List ℕ)
free_in_binder (rawbinder.Implicit b) bound (e ∷ p ∷ []) = without e p
free_in_binder _ bound parts = without bound (joined parts)

abbrev pub free_step : Raw-F (List (List ℕ)) (List ℕ) → List (List ℕ)
free_step (Int n place) = []
free_step (Name x place) = x ∷ []
free_step (Node op parts place) = free_in_form op parts
free_step (Bind binder bound parts place) = free_in_binder binder bound parts

-- The free names of a written formula, at each of their places, from left to right. Those of the types behind `⦂` don't count.
abbrev pub free_names : Raw → List (List ℕ)
free_names = fold-Raw (List (List ℕ)) (List ℕ) free_step (λ b. b.name)

-- a name that is bound, with the type that is written
abbrev pub BareBound : Type 0
BareBound = List ℕ × Option Bare

-- a part beside its core form
abbrev pub PartWithForm : Type 0
PartWithForm = Raw × Bare

abbrev pub bares : List PartWithForm → Bares
bares [] = nothing
bares (p ∷ ps) = more p.1 (bares ps)

abbrev pub bound_before : BareBound → BareBounds → BareBounds
bound_before (x, None) names = plain x names
bound_before (x, Some t) names = typed x t names

abbrev pub bounds : List BareBound → BareBounds
bounds [] = unbound
bounds (b ∷ bs) = bound_before b (bounds bs)

abbrev pub plain_names : List (List ℕ) → BareBounds
plain_names [] = unbound
plain_names (x ∷ xs) = plain x (plain_names xs)

abbrev pub single_part : Bare → Bares
single_part a = more a nothing

abbrev pub two : Bare → Bare → Bares
two a b = more a (more b nothing)

-- the two sides of a comparison, turned
abbrev pub turned : Bares → Bares
turned (more a (more b nothing)) = two b a
turned parts = parts

abbrev pub negated_operation : Op → Bares → Bare
negated_operation o parts = Form op.Not (single_part (Form o parts))

-- `E ⦂ T`
abbrev pub ascribed : Bares → Bare
ascribed (more e (more t nothing)) = Ascribed e t
ascribed parts = Broken parts

abbrev pub core_of_form : RawOp → Bares → Bare
core_of_form (rawop.Plain o) parts = Form o parts
core_of_form rawop.NotEqual parts = negated_operation op.Equal parts
core_of_form rawop.NotMember parts = negated_operation op.Member parts
core_of_form rawop.NotProperSubset parts = negated_operation op.ProperSubset parts
core_of_form rawop.NotSubset parts = negated_operation op.Subset parts
core_of_form rawop.Greater parts = Form op.Less (turned parts)
core_of_form rawop.GreaterOrEqual parts = Form op.LessOrEqual (turned parts)
core_of_form rawop.BackwardComposition parts = Form op.Composition (turned parts)
core_of_form rawop.Partition parts = Partition parts
core_of_form rawop.OfType parts = ascribed parts

-- `λp·P∣E` is `{names·P∣p ↦ E}`
abbrev pub core_of_lambda : BareBounds → Bares → Bare
core_of_lambda names (more pattern (more p (more e nothing))) = Binding binder.Comprehension names (two p (Form op.Maplet (two pattern e)))
core_of_lambda names parts = Broken parts

-- the binder of the free names of E, which is written before P
abbrev pub core_of_unnamed : Binder → List PartWithForm → Bare
core_of_unnamed b (e ∷ p ∷ []) = Binding b (plain_names (once (free_names e.0))) (two p.1 e.1)
core_of_unnamed b parts = Broken (bares parts)

abbrev pub core_of_implicit : Binder → BareBounds → List PartWithForm → Bare
core_of_implicit b names parts = if has_names names then Broken (bares parts) else core_of_unnamed b parts

abbrev pub core_of_binder : RawBinder → BareBounds → List PartWithForm → Bare
core_of_binder (rawbinder.Plain b) names parts = Binding b names (bares parts)
core_of_binder rawbinder.Lambda names parts = core_of_lambda names (bares parts)
core_of_binder (rawbinder.Implicit b) names parts = core_of_implicit b names parts

abbrev pub core_step : Raw-F PartWithForm (RawBound-F Raw (Unit {0}) × BareBound) → Bare
core_step (Int n place) = Number n
core_step (Name x place) = Identifier x place
core_step (Node op parts place) = core_of_form op (bares parts)
core_step (Bind binder bound parts place) = core_of_binder binder (bounds (map (λ b. b.1) bound)) parts

abbrev pub bound_step : RawBound-F PartWithForm (RawBound-F Raw (Unit {0}) × BareBound) → BareBound
bound_step b = (b.name, option_map (λ p. p.1) b.ty)

-- the core form of a written formula
abbrev pub core_form : Raw → Bare
core_form = para-Raw Bare BareBound core_step bound_step
