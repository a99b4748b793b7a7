-- What an event inherits.
use Rattle.std.proofs.Common.{◌≡◌, ◌∙◌, ◌+◌, ◌<◌, ap, refl, sym, ℕ, zero, suc, List, [], ◌∷◌, ◌++◌, map, take, length, get_or, append_assoc, arith}
use Rattle.std.specs.Prelude.{min}
use Rattle.formula_core.specs.declared.formula.Formula.{Formula}
use Rattle.formula_core.specs.Formulas.{joined}
use Rattle.model_core.proofs.Firsts.{taken_more}
use Rattle.check_rules.specs.Assignments.{free_names_of}
use Rattle.refine_check.proofs.Faults.{map_joined}

pub taken_least : {X : Type 0} (n : ℕ) (xs : List X) (k : ℕ) → k ≡ min n (length xs) → take k xs ≡ take n xs
taken_least zero [] k e = let z : k ≡ 0 = omega arith in rw z refl
taken_least (suc n) [] k e = let z : k ≡ 0 = omega arith in rw z refl
taken_least zero (x ∷ xs) k e = let z : k ≡ 0 = omega arith in rw z refl
taken_least (suc n) (x ∷ xs) k e =
    let s : k ≡ suc (min n (length xs)) = omega arith in
    rw s (ap (λ ys. x ∷ ys) (taken_least n xs (min n (length xs)) refl))

-- one more element
pub joined_on : {X Y : Type 0} (f : X → List Y) (old new xs : List Y) (items : List X) (i : ℕ) (x : X) → i < length items → x ≡ get_or items i x →
    xs ≡ old ++ joined (map f (take i items)) → new ≡ xs ++ f x → new ≡ old ++ joined (map f (take (i + 1) items))
joined_on f old new xs items i x lt is e n =
    n ∙ ap (λ ys. ys ++ f x) e ∙ append_assoc old (joined (map f (take i items))) (f x)
    ∙ ap (λ ys. old ++ ys) (sym (map_joined f (take i items) x) ∙ ap (λ ys. joined (map f ys)) (sym (taken_more items i x lt is)))

pub values_are : (ps : List (List ℕ × Formula)) → joined (map (λ p. free_names_of p.1) ps) ≡ joined (map free_names_of (map (λ p. p.1) ps))
values_are [] = refl
values_are (p ∷ ps) = ap (λ ys. free_names_of p.1 ++ ys) (values_are ps)
