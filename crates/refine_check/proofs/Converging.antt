-- When an event converges badly, by references to the events that it refines.
use Rattle.std.proofs.Common.{◌≡◌, ◌∙◌, ap, refl, sym, suc, Bool, not, ◌&&◌, ◌||◌, List, [], ◌∷◌, map, length}
use Rattle.std.specs.Prelude.{nat_le}
use Rattle.std.specs.Borrow.{Bor}
use Rattle.std.specs.List.{list_all, list_any}
use Rattle.model_core.specs.declared.component.RawEvent.{RawEvent}
use Rattle.model_core.specs.declared.checked.CheckedEvent.{CheckedEvent}
use Rattle.model_core.proofs.Lists.{any_map}
use Rattle.check_rules.specs.Events.{is_initialisation}
use Rattle.model_core.specs.Components.{is_ordinary, is_convergent, is_anticipated}
use Rattle.check_rules.specs.Refinements.{converges_badly}

pub all_map : {X Y : Type 0} (test : Y → Bool) (f : X → Y) (xs : List X) → list_all test (map f xs) ≡ list_all (λ x. test (f x)) xs
all_map test f [] = refl
all_map test f (x ∷ xs) = ap (λ b. test (f x) && b) (all_map test f xs)

length_map : {X Y : Type 0} (f : X → Y) (xs : List X) → length (map f xs) ≡ length xs
length_map f [] = refl
length_map f (x ∷ xs) = ap suc (length_map f xs)

pub bad_is : (has_variant : Bool) (found : List (Bor CheckedEvent)) (e : RawEvent) (lacks convergent some all ordinary of_ordinary of_anticipated starts : Bool) →
    convergent ≡ is_convergent e.convergence → some ≡ nat_le 1 (length found) → all ≡ list_all (λ a. is_convergent a.now.convergence) found →
    lacks ≡ (convergent && not has_variant && not (some && all)) → ordinary ≡ is_ordinary e.convergence → of_ordinary ≡ list_any (λ a. is_ordinary a.now.convergence) found →
    of_anticipated ≡ list_any (λ a. is_anticipated a.now.convergence) found → starts ≡ is_initialisation e →
    (lacks || not ordinary && of_ordinary || ordinary && of_anticipated || starts && not ordinary) ≡ converges_badly has_variant (map (λ x. x.now) found) e
bad_is has_variant found e lacks convergent some all ordinary of_ordinary of_anticipated starts c s a l o oo oa st =
    let s' : some ≡ nat_le 1 (length (map (λ x. x.now) found)) = s ∙ ap (nat_le 1) (sym (length_map (λ x. x.now) found)) in
    let a' : all ≡ list_all (λ x. is_convergent x.convergence) (map (λ x. x.now) found) = a ∙ sym (all_map (λ x. is_convergent x.convergence) (λ x. x.now) found) in
    let oo' : of_ordinary ≡ list_any (λ x. is_ordinary x.convergence) (map (λ x. x.now) found) = oo ∙ sym (any_map (λ x. is_ordinary x.convergence) (λ x. x.now) found) in
    let oa' : of_anticipated ≡ list_any (λ x. is_anticipated x.convergence) (map (λ x. x.now) found) = oa ∙ sym (any_map (λ x. is_anticipated x.convergence) (λ x. x.now) found) in
    ap (λ b. b || not ordinary && of_ordinary || ordinary && of_anticipated || starts && not ordinary) l
    ∙ (λ i. c i && not has_variant && not (s' i && a' i) || not (o i) && oo' i || o i && oa' i || st i && not (o i))
