-- Lists that are mapped, filtered and found.
use Rattle.std.proofs.Common.{◌≡◌, ◌∙◌, sym, ap, refl, ℕ, ◌+◌, ◌<◌, true, List, [], ◌∷◌, ◌++◌, map, drop, get_or, length, append_assoc}
use Rattle.std.specs.Prelude.{Option, Some, None}
use Rattle.std.specs.Option.{option_to_list}
use Rattle.std.specs.List.{cons_option, filter, filter_map}
use Rattle.model_core.proofs.Lists.{at_index}

pub map_append : {X Y : Type 0} (f : X → Y) (xs ys : List X) → map f (xs ++ ys) ≡ map f xs ++ map f ys
map_append f [] ys = refl
map_append f (x ∷ xs) ys = ap (λ zs. f x ∷ zs) (map_append f xs ys)

pub filter_all : {X : Type 0} (xs : List X) → filter (λ x. true) xs ≡ xs
filter_all [] = refl
filter_all (x ∷ xs) = ap (λ ys. x ∷ ys) (filter_all xs)

consed : {X : Type 0} (o : Option X) (xs : List X) → cons_option o xs ≡ option_to_list o ++ xs
consed None xs = refl
consed (Some x) xs = refl

-- what is found for one element more
pub found_next : {X Y : Type 0} (f : X → Option Y) (xs : List X) (i : ℕ) (x : X) (now more whole : List Y) → i < length xs → x ≡ get_or xs i x
    → now ++ filter_map f (drop i xs) ≡ whole → more ≡ now ++ option_to_list (f x) → more ++ filter_map f (drop (i + 1) xs) ≡ whole
found_next f xs i x now more whole lt is e add =
    ap (λ ys. ys ++ filter_map f (drop (i + 1) xs)) add ∙ append_assoc now (option_to_list (f x)) (filter_map f (drop (i + 1) xs))
    ∙ ap (λ ys. now ++ ys) (sym (consed (f x) (filter_map f (drop (i + 1) xs))) ∙ ap (filter_map f) (sym (at_index xs i x lt is))) ∙ e
