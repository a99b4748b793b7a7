-- Components that are kept, and read no more.
use Rattle.std.proofs.Common.{◌≡◌, sym, ap, subst, ◌∙◌, ℕ, zero, suc, ◌<◌, true, List, [], ◌∷◌, Some, map, length, get_or, arith}
use Rattle.std.specs.Prelude.{Ok}
use Rattle.std.specs.List.{Contains, HoldsAt}
use Rattle.model_core.specs.declared.component.RawComponent.{RawComponent}
use Rattle.component_text.specs.Spelled.{IsRead}
use Rattle.static_check.specs.Settling.{own_name}
use Rattle.build_core.specs.Projects.{Project}
use Rattle.build_core.specs.Private.{found, are_same, AreListed}
use Rattle.build_core.proofs.Found.{same}
use Rattle.build_core.proofs.Taken.{found_text}

-- what stands at a place of a list is what is made of it
pub at_mapped : {X Y : Type 0} (f : X → Y) (xs : List X) (i : ℕ) (x : X) → i < length xs → x ≡ get_or xs i x → HoldsAt (λ y. y ≡ f x) (map f xs) i
at_mapped f [] i x lt is d = absurd (omega (arith, lt))
at_mapped f (y ∷ xs) zero x lt is d = ap f (sym is)
at_mapped f (y ∷ xs) (suc i) x lt is d = at_mapped f xs i x (omega (arith, lt)) is d

-- the component of a text that is the same
pub read_again : (project : Project) (components : List RawComponent) (index : List (List ℕ × ℕ)) → AreListed project components index → (name text : List ℕ) (place : ℕ) (c : RawComponent) →
    are_same (found project name) (Some text) ≡ true → found index name ≡ Some place → HoldsAt (λ d. d ≡ c) components place → IsRead name text (Ok c)
read_again project components index listed name text place c unchanged there at =
    subst (λ n. IsRead n text (Ok c)) named (subst (λ t. IsRead (own_name c) t (Ok c)) is before.2)
  where
    placed : (place < length components) × HoldsAt (λ d. own_name d ≡ name) components place
    placed = listed.indexed.place name place there

    named : own_name c ≡ name
    named = ap own_name (sym (at c)) ∙ placed.1 c

    before : (t : List ℕ) × Contains project (own_name c, t) × IsRead (own_name c) t (Ok c)
    before = listed.read c (place, placed.0, at c)

    known : found project (own_name c) ≡ Some before.0
    known = found_text project listed.once (own_name c) before.0 before.1

    is : before.0 ≡ text
    is = same before.0 text (ap (λ o. are_same o (Some text)) (sym known ∙ ap (found project) named) ∙ unchanged)
