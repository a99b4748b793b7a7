-- A tree without places has none to lose.
use Rattle.std.proofs.Common.{◌≡◌, ◌∙◌, sym, ap, refl, ℕ, List, [], ◌∷◌, map, Option, Some, None}
use Rattle.std.specs.List.{AllByRecursion}
use Rattle.std.specs.Option.{option_map}
use Rattle.formula_core.specs.declared.raw.RawBound.{RawBound}
use Rattle.formula_core.specs.declared.raw.Raw.{Raw}
use Rattle.formula_core.specs.declared.raw.Raw.TheVariants as raw
use Rattle.formula_core.specs.declared.raw.Ref.{Ref}
use Rattle.formula_core.specs.declared.raw.RawAction.{RawAction}
use Rattle.formula_core.specs.declared.raw.RawAction.TheVariants.{Assign, Apply, ChooseIn, ChooseSuch}
use Rattle.math_places.specs.Places.{unplaced, unplaced_ref, unplaced_action}
use Rattle.math_places.proofs.Equations.{unplaced-Int, unplaced-Name, unplaced-Node, unplaced-Bind, unplaced_bound}
use Rattle.math_places.proofs.Induction.{OfType, raw_induction}

abbrev IsKept : Raw → Type 0
IsKept r = unplaced (unplaced r) ≡ unplaced r

all_kept : (rs : List Raw) → AllByRecursion IsKept rs → map unplaced (map unplaced rs) ≡ map unplaced rs
all_kept [] h = refl
all_kept (r ∷ rs) h = λ i. h.0 i ∷ all_kept rs h.1 i

type_kept : (t : Option Raw) → OfType IsKept t → option_map unplaced (option_map unplaced t) ≡ option_map unplaced t
type_kept None h = refl
type_kept (Some t) h = ap Some h

names_kept : (names : List RawBound) → AllByRecursion (λ b. OfType IsKept b.ty) names → map unplaced_bound (map unplaced_bound names) ≡ map unplaced_bound names
names_kept [] h = refl
names_kept (b ∷ names) h = λ i. record { name = b.name; ty = type_kept b.ty h.0 i; place = 0 } ∷ names_kept names h.1 i

pub unplaced_twice : (r : Raw) → unplaced (unplaced r) ≡ unplaced r
unplaced_twice = raw_induction IsKept
    (λ n place. ap unplaced (unplaced-Int n place) ∙ unplaced-Int n 0 ∙ sym (unplaced-Int n place))
    (λ x place. ap unplaced (unplaced-Name x place) ∙ unplaced-Name x 0 ∙ sym (unplaced-Name x place))
    (λ o parts place h. ap unplaced (unplaced-Node o parts place) ∙ unplaced-Node o (map unplaced parts) 0 ∙ ap (λ ps. raw.Node o ps 0) (all_kept parts h) ∙ sym (unplaced-Node o parts place))
    (λ b names parts place n h.
    ap unplaced (unplaced-Bind b names parts place) ∙ unplaced-Bind b (map unplaced_bound names) (map unplaced parts) 0
    ∙ (λ i. raw.Bind b (names_kept names n i) (all_kept parts h i) 0) ∙ sym (unplaced-Bind b names parts place))

values_twice : (rs : List Raw) → map unplaced (map unplaced rs) ≡ map unplaced rs
values_twice [] = refl
values_twice (r ∷ rs) = λ i. unplaced_twice r i ∷ values_twice rs i

refs_twice : (rs : List Ref) → map unplaced_ref (map unplaced_ref rs) ≡ map unplaced_ref rs
refs_twice [] = refl
refs_twice (r ∷ rs) = ap (λ us. unplaced_ref r ∷ us) (refs_twice rs)

pub action_twice : (a : RawAction) → unplaced_action (unplaced_action a) ≡ unplaced_action a
action_twice (Assign targets values) = λ i. Assign (refs_twice targets i) (values_twice values i)
action_twice (Apply target argument value) = λ i. Apply (unplaced_ref target) (unplaced_twice argument i) (unplaced_twice value i)
action_twice (ChooseIn target set) = λ i. ChooseIn (unplaced_ref target) (unplaced_twice set i)
action_twice (ChooseSuch targets condition) = λ i. ChooseSuch (refs_twice targets i) (unplaced_twice condition i)
