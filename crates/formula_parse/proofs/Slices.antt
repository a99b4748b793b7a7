-- A part of a list, whose ends are brought into it.
use Rattle.std.proofs.Common.{◌≡◌, ℕ, ◌-◌, ◌<◌, ◌≤◌, List, [], Bool, true, false, length, take, drop, min, refl, ap, sym, ◌∙◌, arith, nat_le, length-drop}
use Rattle.std.proofs.lemmas.Bool.Decides.{nat_tests}
use Rattle.std.proofs.lemmas.List.{take_all, drop_all}

pub part_within : (f t : ℕ) (xs : List ℕ) → take (min t (length xs) - min f (min t (length xs))) (drop (min f (min t (length xs))) xs) ≡ take (t - f) (drop f xs)
part_within f t xs = go (nat_le f t) refl (nat_le t (length xs)) refl (nat_le f (length xs)) refl
  where
    go : (a : Bool) → nat_le f t ≡ a → (b : Bool) → nat_le t (length xs) ≡ b → (d : Bool) → nat_le f (length xs) ≡ d →
        take (min t (length xs) - min f (min t (length xs))) (drop (min f (min t (length xs))) xs) ≡ take (t - f) (drop f xs)
    go false a b e d g =
        let low : t < f = grind (arith, nat_tests) in
        let none : min t (length xs) - min f (min t (length xs)) ≡ 0 = omega (arith, low) in
        let empty : t - f ≡ 0 = omega (arith, low) in
        rw (none, empty) refl
    go true a true e d g =
        let order : f ≤ t = grind (arith, nat_tests) in
        let inside : t ≤ length xs = grind (arith, nat_tests) in
        let to : min t (length xs) ≡ t = omega (arith, inside) in
        let from : min f t ≡ f = omega (arith, order) in
        rw (to, from) refl
    go true a false e true g =
        let order : f ≤ length xs = grind (arith, nat_tests) in
        let past : length xs < t = grind (arith, nat_tests) in
        let to : min t (length xs) ≡ length xs = omega (arith, past) in
        let from : min f (length xs) ≡ f = omega (arith, order) in
        let size : length (drop f xs) ≡ length xs - f = length-drop f xs in
        rw (to, from) (take_all (length xs - f) (drop f xs) (omega (arith, size)) ∙ sym (take_all (t - f) (drop f xs) (omega (arith, size, past))))
    go true a false e false g =
        let outside : length xs < f = grind (arith, nat_tests) in
        let past : length xs < t = grind (arith, nat_tests) in
        let to : min t (length xs) ≡ length xs = omega (arith, past) in
        let from : min f (length xs) ≡ length xs = omega (arith, outside) in
        let none : length xs - length xs ≡ 0 = omega arith in
        let empty : drop f xs ≡ [] = drop_all f xs (omega (arith, outside)) in
        rw (to, from, none) (sym (ap (take (t - f)) empty ∙ take_all (t - f) [] (omega arith)))
