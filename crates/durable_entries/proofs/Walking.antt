-- Lists that grow by one element.
use Rattle.std.proofs.Common.{◌≡◌, ◌∙◌, refl, sym, ap, ℕ, ◌+◌, ◌<◌, List, [], ◌∷◌, ◌++◌, map, take, get_or, length, cond}
use Rattle.std.proofs.lemmas.List.{take_more, append-nil}
use Rattle.std.proofs.lemmas.List.Concat.{flat_map-cons}
use Rattle.std.proofs.lemmas.Grind.{flat_map-append}
use Rattle.std.specs.Prelude.{Some}
use Rattle.std.specs.List.{flat_map}
use Rattle.std.specs.Map.{lookup}
use Rattle.std.specs.BTreeMap.{is_at}
use Rattle.std.specs.Ordering.{eq_by_cmp}
use Rattle.std.specs.FinMap.{insert, find}
use Rattle.core_steps.specs.Durable.{text_cmp, ProjectMap}
use Rattle.core_steps.specs.StateEntries.{with_names_of}

pub with_one_more : (m : ProjectMap) (es : List (List ℕ × List ℕ)) (e : List ℕ × List ℕ) → with_names_of m (es ++ e ∷ []) ≡ insert (with_names_of m es) e.0 []
with_one_more m [] e = refl
with_one_more m (d ∷ es) e = with_one_more (insert m d.0 []) es e

pub map_one_more : {X Y : Type 0} (f : X → Y) (xs : List X) (x : X) → map f (xs ++ x ∷ []) ≡ map f xs ++ f x ∷ []
map_one_more f [] x = refl
map_one_more f (y ∷ xs) x = ap (λ l. f y ∷ l) (map_one_more f xs x)

pub take_one_more : {X : Type 0} (xs : List X) (i : ℕ) (x : X) → i < length xs → x ≡ get_or xs i x → take (i + 1) xs ≡ take i xs ++ x ∷ []
take_one_more xs i x h is = take_more xs i x h ∙ ap (λ y. take i xs ++ y ∷ []) (sym is)

pub flat_one_more : {X Y : Type 0} (f : X → List Y) (xs : List X) (x : X) → flat_map f (xs ++ x ∷ []) ≡ flat_map f xs ++ f x
flat_one_more f xs x = flat_map-append f xs (x ∷ []) ∙ ap (λ l. flat_map f xs ++ l) (flat_map-cons f x [] ∙ append-nil (f x))

-- what a tree has at a name is what is found in its entries
pub lookup_find : {X : Type 0} (q : List ℕ) (es : List (List ℕ × X)) → lookup (is_at (text_cmp q)) es ≡ find text_cmp q es
lookup_find q [] = refl
lookup_find q (e ∷ es) = ap (λ rest. cond (eq_by_cmp text_cmp q e.0) (Some e.1) rest) (lookup_find q es)
