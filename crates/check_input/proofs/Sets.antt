-- Sets of names that grow by one name at a time.
use Rattle.std.proofs.Common.{◌≡◌, ◌∙◌, ap, refl, sym, ℕ, Bool, true, false, ◌||◌, cond, List, [], ◌∷◌, ◌++◌, map, bytes_eq}
use Rattle.std.specs.Borrow.{Bor}
use Rattle.std.specs.BTreeSet.{BTreeSet, Updates}
use Rattle.std.specs.Cmp.Lexicographic.{slice_cmp}
use Rattle.std.specs.Ordering.{nat_cmp}
use Rattle.std.proofs.lemmas.Cmp.{nat_list_eq_equiv}
use Rattle.std.proofs.lemmas.Map.Text.{is_eq-slice_cmp}
use Rattle.model_core.specs.Each.{is_among}
use Rattle.check_input.specs.Inputs.{Component}
use Rattle.check_input.specs.PrivateParts.{AreNames, component_names}
use Rattle.model_core.specs.Borrowed.{has}

at_more : (key : Bor (List ℕ)) (s n : BTreeSet (Bor (List ℕ))) → Updates (λ x y. slice_cmp nat_cmp x.now y.now) s n key true → (text : List ℕ) →
    has n text ≡ cond (bytes_eq key.now text) true (has s text)
at_more key s n h text = h.0 (record { ref_ptr = (0, 0); now = text }) ∙ ap (λ b. cond b true (has s text)) (is_eq-slice_cmp key.now text)

swap_or : (a b c : Bool) → (a || cond b true c) ≡ cond b true (a || c)
swap_or true true c = refl
swap_or true false c = refl
swap_or false b c = refl

or_false : (a : Bool) → (a || false) ≡ cond a true false
or_false true = refl
or_false false = refl

among_more : (xs : List (List ℕ)) (x text : List ℕ) → is_among (xs ++ x ∷ []) text ≡ cond (bytes_eq x text) true (is_among xs text)
among_more [] x text = ap (λ b. b || false) (nat_list_eq_equiv.symm text x) ∙ or_false (bytes_eq x text)
among_more (y ∷ xs) x text = ap (λ b. bytes_eq text y || b) (among_more xs x text) ∙ swap_or (bytes_eq text y) (bytes_eq x text) (is_among xs text)

pub map-push : {X Y : Type 0} (f : X → Y) (xs : List X) (x : X) → map f (xs ++ x ∷ []) ≡ map f xs ++ f x ∷ []
map-push f [] x = refl
map-push f (y ∷ xs) x = ap (λ ys. f y ∷ ys) (map-push f xs x)

-- one component more
pub one_more : (key : Bor (List ℕ)) (s n : BTreeSet (Bor (List ℕ))) → Updates (λ x y. slice_cmp nat_cmp x.now y.now) s n key true →
    (parts : List Component) (text : List ℕ) → AreNames s parts → AreNames n (parts ++ (key.now, text) ∷ [])
one_more key s n u parts text h name =
    at_more key s n u name
    ∙ (ap (λ b. cond (bytes_eq key.now name) true b) (h name)
    ∙ (sym (among_more (component_names parts) key.now name) ∙ ap (λ xs. is_among xs name) (sym (map-push (λ (p : Component). p.0) parts (key.now, text)))))
