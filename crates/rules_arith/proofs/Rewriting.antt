-- A formula rewritten at a place, from what stands there.
use Rattle.std.proofs.Common.{◌≡◌, ◌∙◌, ap, refl, ℕ, zero, suc, ◌≤◌, List, [], ◌∷◌, length, slice_set, Option, Some, None, arith}
use Rattle.std.specs.Option.{option_map, option_and_then}
use Rattle.formula_core.specs.declared.Formula.{Formula}
use Rattle.rule_table.specs.declared.law.Law.{Law}
use Rattle.rule_table.specs.Rewriting.{part, with_part, at_place, right_side, rewritten}
use Rattle.rules_arith.specs.Places.{with_at}

-- the law at what stands at the place, put there
abbrev pub by_parts : Law → List ℕ → Formula → Option Formula
by_parts law place f = option_and_then (λ p. option_and_then (with_at place f) (right_side law p)) (at_place place f)

whole : (o : Option Formula) → o ≡ option_and_then Some o
whole None = refl
whole (Some f) = refl

moved : {X Y Z : Type 0} (g : Y → Z) (k : X → Option Y) (o : Option X) → option_map g (option_and_then k o) ≡ option_and_then (λ x. option_map g (k x)) o
moved g k None = refl
moved g k (Some x) = refl

alike : {X Y : Type 0} (k l : X → Option Y) (o : Option X) → ((x : X) → k x ≡ l x) → option_and_then k o ≡ option_and_then l o
alike k l None e = refl
alike k l (Some x) e = e x

abbrev below : Law → ℕ → List ℕ → Formula → Option Formula → Option Formula
below law i place f o = option_and_then (λ q. option_and_then (λ new. option_and_then (λ p. option_map (with_part f i) (with_at place p new)) o) (right_side law q)) (option_and_then (at_place place) o)

at : (law : Law) (i : ℕ) (place : List ℕ) (f : Formula) (o : Option Formula) → ((p : Formula) → rewritten law place p ≡ by_parts law place p)
    → option_and_then (λ p. option_map (with_part f i) (rewritten law place p)) o ≡ below law i place f o
at law i place f None each = refl
at law i place f (Some p) each = ap (option_map (with_part f i)) (each p)
    ∙ moved (with_part f i) (λ q. option_and_then (with_at place p) (right_side law q)) (at_place place p)
    ∙ alike (λ q. option_map (with_part f i) (option_and_then (with_at place p) (right_side law q))) (λ q. option_and_then (λ new. option_map (with_part f i) (with_at place p new)) (right_side law q))
    (at_place place p) (λ q. moved (with_part f i) (with_at place p) (right_side law q))

pub rewritten_by_parts : (law : Law) (place : List ℕ) (f : Formula) → rewritten law place f ≡ by_parts law place f
rewritten_by_parts law [] f = whole (right_side law f)
rewritten_by_parts law (i ∷ place) f = at law i place f (part f i) (λ p. rewritten_by_parts law place p)

-- an element put past a list's end
pub set_past : {X : Type 0} (xs : List X) (i : ℕ) (y : X) → length xs ≤ i → slice_set xs i y ≡ xs
set_past [] i y h = refl
set_past (x ∷ xs) zero y h = absurd (omega (arith, h))
set_past (x ∷ xs) (suc i) y h = ap (λ z. x ∷ z) (set_past xs i y (omega (arith, h)))
