-- The first fault of lists that are made element by element.
use Rattle.std.proofs.Common.{◌≡◌, ◌∙◌, ◌+◌, ◌<◌, ap, refl, sym, ℕ, List, [], ◌∷◌, ◌++◌, map, take, length, get_or, append_assoc}
use Rattle.std.specs.Prelude.{Option}
use Rattle.std.specs.List.{filter}
use Rattle.std.proofs.lemmas.List.{take_more}
use Rattle.formula_core.specs.Formulas.{joined}
use Rattle.model_core.specs.declared.fault.Fault.{Fault}
use Rattle.model_core.specs.Each.{is_among}
use Rattle.model_core.specs.Faults.{earlier, first_by_place}
use Rattle.model_core.proofs.Firsts.{first_append, taken_more}
use Rattle.model_core.proofs.Lists.{filter_append}
use Rattle.check_rules.specs.Refinements.{lost_among}

pub map-append : {X Y : Type 0} (f : X → Y) (xs ys : List X) → map f (xs ++ ys) ≡ map f xs ++ map f ys
map-append f [] ys = refl
map-append f (x ∷ xs) ys = ap (λ zs. f x ∷ zs) (map-append f xs ys)

-- two lists, one after the other
pub both : (xs ys : List Fault) (first second : Option Fault) → first ≡ first_by_place xs → second ≡ first_by_place ys → earlier first second ≡ first_by_place (xs ++ ys)
both xs ys first second e f = ap (λ a. earlier a second) e ∙ ap (earlier (first_by_place xs)) f ∙ sym (first_append xs ys)

pub lost_append : (component : List ℕ) (lost : List (List ℕ)) (xs ys : List (List ℕ × ℕ)) → lost_among component lost (xs ++ ys) ≡ lost_among component lost xs ++ lost_among component lost ys
lost_append component lost xs ys = ap (map _) (filter_append (λ u. is_among lost u.0) xs ys) ∙ map-append _ (filter (λ u. is_among lost u.0) xs) (filter (λ u. is_among lost u.0) ys)

-- the names of one list and then of the other
pub lost_both : (component : List ℕ) (lost : List (List ℕ)) (xs ys : List (List ℕ × ℕ)) (first second : Option Fault) →
    first ≡ first_by_place (lost_among component lost xs) → second ≡ first_by_place (lost_among component lost ys) →
    earlier first second ≡ first_by_place (lost_among component lost (xs ++ ys))
lost_both component lost xs ys first second e f =
    both (lost_among component lost xs) (lost_among component lost ys) first second e f ∙ ap first_by_place (sym (lost_append component lost xs ys))

pub lost_split : (component : List ℕ) (lost : List (List ℕ)) (xs ys : List (List ℕ × ℕ)) →
    first_by_place (lost_among component lost (xs ++ ys)) ≡ earlier (first_by_place (lost_among component lost xs)) (first_by_place (lost_among component lost ys))
lost_split component lost xs ys = ap first_by_place (lost_append component lost xs ys) ∙ first_append (lost_among component lost xs) (lost_among component lost ys)

pub map_joined : {X Y : Type 0} (f : X → List Y) (xs : List X) (x : X) → joined (map f (xs ++ x ∷ [])) ≡ joined (map f xs) ++ f x
map_joined f [] x = append_nil (f x)
  where
    append_nil : {A : Type 0} (xs : List A) → xs ++ [] ≡ xs
    append_nil [] = refl
    append_nil (x ∷ xs) = ap (λ ys. x ∷ ys) (append_nil xs)
map_joined f (y ∷ xs) x = ap (λ zs. f y ++ zs) (map_joined f xs x) ∙ sym (append_assoc (f y) (joined (map f xs)) (f x))

-- the first fault at one more element
pub joined_more : {X : Type 0} (rows : X → List Fault) (xs : List X) (x : X) (first here : Option Fault) →
    first ≡ first_by_place (joined (map rows xs)) → here ≡ first_by_place (rows x) → earlier first here ≡ first_by_place (joined (map rows (xs ++ x ∷ [])))
joined_more rows xs x first here e f = both (joined (map rows xs)) (rows x) first here e f ∙ ap first_by_place (sym (map_joined rows xs x))

pub joined_next : {X : Type 0} (rows : X → List Fault) (xs : List X) (i : ℕ) (x : X) (first here : Option Fault) → i < length xs → x ≡ get_or xs i x →
    first ≡ first_by_place (joined (map rows (take i xs))) → here ≡ first_by_place (rows x) → earlier first here ≡ first_by_place (joined (map rows (take (i + 1) xs)))
joined_next rows xs i x first here lt is e f = joined_more rows (take i xs) x first here e f ∙ ap (λ ys. first_by_place (joined (map rows ys))) (sym (taken_more xs i x lt is))

-- the same, where elements are copied
pub joined_at : {X : Type 0} (rows : X → List Fault) (xs : List X) (i : ℕ) (d : X) (first here : Option Fault) → i < length xs →
    first ≡ first_by_place (joined (map rows (take i xs))) → here ≡ first_by_place (rows (get_or xs i d)) → earlier first here ≡ first_by_place (joined (map rows (take (i + 1) xs)))
joined_at rows xs i d first here lt e f = joined_more rows (take i xs) (get_or xs i d) first here e f ∙ ap (λ ys. first_by_place (joined (map rows ys))) (sym (take_more xs i d lt))

-- six lists, one after the other
pub six : (ks bs cs ds es fs : List Fault) (a b c d e f two three four five all : Option Fault) →
    a ≡ first_by_place ks → b ≡ first_by_place bs → c ≡ first_by_place cs → d ≡ first_by_place ds → e ≡ first_by_place es → f ≡ first_by_place fs →
    two ≡ earlier a b → three ≡ earlier two c → four ≡ earlier three d → five ≡ earlier four e → all ≡ earlier five f →
    all ≡ first_by_place (ks ++ bs ++ cs ++ ds ++ es ++ fs)
six ks bs cs ds es fs a b c d e f two three four five all pa pb pc pd pe pf h2 h3 h4 h5 h =
    h ∙ both (ks ++ bs ++ cs ++ ds ++ es) fs five f
    (h5 ∙ both (ks ++ bs ++ cs ++ ds) es four e (h4 ∙ both (ks ++ bs ++ cs) ds three d (h3 ∙ both (ks ++ bs) cs two c (h2 ∙ both ks bs a b pa pb) pc) pd) pe) pf
