-- Sets of texts that grow by one text at a time.
use Rattle.std.proofs.Common.{◌≡◌, ◌∙◌, ap, refl, sym, ℕ, ◌+◌, ◌<◌, Bool, true, false, ◌||◌, cond, List, [], ◌∷◌, ◌++◌, map, take, length, get_or, bytes_eq}
use Rattle.std.specs.Borrow.{Bor}
use Rattle.std.specs.BTreeSet.{BTreeSet, Updates}
use Rattle.std.specs.Cmp.Lexicographic.{slice_cmp}
use Rattle.std.specs.Ordering.{nat_cmp, is_eq}
use Rattle.std.specs.List.{list_any}
use Rattle.std.proofs.lemmas.Cmp.{nat_list_eq_equiv}
use Rattle.std.proofs.lemmas.List.{take_more}
use Rattle.std.proofs.lemmas.Map.Text.{is_eq-slice_cmp}
use Rattle.model_core.specs.Each.{is_among}
use Rattle.model_core.specs.Borrowed.{texts, has}

pub at_empty : (s : BTreeSet (Bor (List ℕ))) → s.keys ≡ [] → (text : List ℕ) → has s text ≡ false
at_empty s e text = ap (λ ks. list_any (λ k. is_eq (slice_cmp nat_cmp text k.now)) ks) e

at_more : (key : Bor (List ℕ)) (s n : BTreeSet (Bor (List ℕ))) → Updates (λ x y. slice_cmp nat_cmp x.now y.now) s n key true → (text : List ℕ) →
    has n text ≡ cond (bytes_eq key.now text) true (has s text)
at_more key s n h text = h.0 (record { ref_ptr = (0, 0); now = text }) ∙ ap (λ b. cond b true (has s text)) (is_eq-slice_cmp key.now text)

swap_or : (a b c : Bool) → (a || cond b true c) ≡ cond b true (a || c)
swap_or true true c = refl
swap_or true false c = refl
swap_or false b c = refl

or_false : (a : Bool) → (a || false) ≡ cond a true false
or_false true = refl
or_false false = refl

among_more : (xs : List (List ℕ)) (x text : List ℕ) → is_among (xs ++ x ∷ []) text ≡ cond (bytes_eq x text) true (is_among xs text)
among_more [] x text = ap (λ b. b || false) (nat_list_eq_equiv.symm text x) ∙ or_false (bytes_eq x text)
among_more (y ∷ xs) x text = ap (λ b. bytes_eq text y || b) (among_more xs x text) ∙ swap_or (bytes_eq text y) (bytes_eq x text) (is_among xs text)

map-push : {X Y : Type 0} (f : X → Y) (xs : List X) (x : X) → map f (xs ++ x ∷ []) ≡ map f xs ++ f x ∷ []
map-push f [] x = refl
map-push f (y ∷ xs) x = ap (λ ys. f y ∷ ys) (map-push f xs x)

next_texts : (names : List (Bor (List ℕ))) (i : ℕ) (d : Bor (List ℕ)) → i < length names → texts (take (i + 1) names) ≡ texts (take i names) ++ (get_or names i d).now ∷ []
next_texts names i d inside = ap texts (take_more names i d inside) ∙ map-push (λ n. n.now) (take i names) (get_or names i d)

-- one name more
pub seen_more : (names : List (Bor (List ℕ))) (i : ℕ) (d : Bor (List ℕ)) → i < length names → (s n : BTreeSet (Bor (List ℕ))) →
    Updates (λ x y. slice_cmp nat_cmp x.now y.now) s n (get_or names i d) true →
    ((text : List ℕ) → has s text ≡ is_among (texts (take i names)) text) → (text : List ℕ) → has n text ≡ is_among (texts (take (i + 1) names)) text
seen_more names i d inside s n u h text =
    at_more (get_or names i d) s n u text
    ∙ (ap (λ b. cond (bytes_eq (get_or names i d).now text) true b) (h text)
    ∙ (sym (among_more (texts (take i names)) (get_or names i d).now text) ∙ ap (λ xs. is_among xs text) (sym (next_texts names i d inside))))
