-- Values in an ascending list, one at a time.
use Rattle.std.proofs.Common.{◌≡◌, ◌∙◌, ap, sym, refl, true, ℕ, ◌+◌, ◌<◌, ◌≤◌, List, [], ◌∷◌, ◌++◌, length, take, drop, get_or, append_assoc}
use Rattle.std.proofs.lemmas.List.{take_more, drop_more, take-append-drop}
use Rattle.std.proofs.Math.ListN.{drop_of_length-le}
use Rattle.std.specs.Ordering.{is_lt}
use Rattle.std.specs.declared.cmp.Ordering.{Ordering}
use Rattle.std.specs.declared.cmp.Ordering.TheVariants.{Less, Equal, Greater}
use Rattle.formula_core.proofs.Weakening.{first_true, second_true}
use Rattle.event_values.specs.declared.value.Value.{Value}
use Rattle.event_values.specs.Order.{value_cmp, ascends_behind, ascends, insert_by, insert_value, ascending}

-- the list up to a place is passed
abbrev pub IsPassed : Value → List Value → ℕ → Type 0
IsPassed v set i = insert_value v set ≡ take i set ++ insert_value v (drop i set)

item_at : (set : List Value) (i : ℕ) (w : Value) → i < length set → w ≡ get_or set i w → drop i set ≡ w ∷ drop (i + 1) set
item_at set i w below is = drop_more set i w below ∙ ap (λ x. x ∷ drop (i + 1) set) (sym is)

taken : (set : List Value) (i : ℕ) (w : Value) → i < length set → w ≡ get_or set i w → take (i + 1) set ≡ take i set ++ w ∷ []
taken set i w below is = take_more set i w below ∙ ap (λ x. take i set ++ x ∷ []) (sym is)

less_there : (v w : Value) (ws : List Value) → value_cmp v w ≡ Less → insert_value v (w ∷ ws) ≡ v ∷ w ∷ ws
less_there v w ws e = ap (λ o. insert_by o v w ws (insert_value v ws)) e

equal_there : (v w : Value) (ws : List Value) → value_cmp v w ≡ Equal → insert_value v (w ∷ ws) ≡ w ∷ ws
equal_there v w ws e = ap (λ o. insert_by o v w ws (insert_value v ws)) e

greater_there : (v w : Value) (ws : List Value) → value_cmp v w ≡ Greater → insert_value v (w ∷ ws) ≡ w ∷ insert_value v ws
greater_there v w ws e = ap (λ o. insert_by o v w ws (insert_value v ws)) e

pub passed_none : (v : Value) (set : List Value) → IsPassed v set 0
passed_none v set = refl

pub passed_less : (v w : Value) (set : List Value) (i : ℕ) → IsPassed v set i → i < length set → w ≡ get_or set i w → value_cmp v w ≡ Less
    → insert_value v set ≡ take i set ++ v ∷ drop i set
passed_less v w set i p below is e =
    let there : drop i set ≡ w ∷ drop (i + 1) set = item_at set i w below is in
    p ∙ ap (λ xs. take i set ++ xs) (ap (insert_value v) there ∙ less_there v w (drop (i + 1) set) e ∙ ap (λ xs. v ∷ xs) (sym there))

pub passed_equal : (v w : Value) (set : List Value) (i : ℕ) → IsPassed v set i → i < length set → w ≡ get_or set i w → value_cmp v w ≡ Equal
    → insert_value v set ≡ set
passed_equal v w set i p below is e =
    let there : drop i set ≡ w ∷ drop (i + 1) set = item_at set i w below is in
    p ∙ ap (λ xs. take i set ++ xs) (ap (insert_value v) there ∙ equal_there v w (drop (i + 1) set) e ∙ sym there) ∙ take-append-drop i set

pub passed_greater : (v w : Value) (set : List Value) (i : ℕ) → IsPassed v set i → i < length set → w ≡ get_or set i w → value_cmp v w ≡ Greater
    → IsPassed v set (i + 1)
passed_greater v w set i p below is e =
    let there : drop i set ≡ w ∷ drop (i + 1) set = item_at set i w below is in
    p ∙ ap (λ xs. take i set ++ xs) (ap (insert_value v) there ∙ greater_there v w (drop (i + 1) set) e)
    ∙ sym (ap (λ xs. xs ++ insert_value v (drop (i + 1) set)) (taken set i w below is) ∙ append_assoc (take i set) (w ∷ []) (insert_value v (drop (i + 1) set)))

pub passed_all : (v : Value) (set : List Value) (i : ℕ) → IsPassed v set i → length set ≤ i → insert_value v set ≡ take i set ++ v ∷ drop i set
passed_all v set i p past =
    let none : drop i set ≡ [] = drop_of_length-le set past in
    p ∙ ap (λ xs. take i set ++ xs) (ap (insert_value v) none ∙ ap (λ xs. v ∷ xs) (sym none))

pub ruleset places = (passed_none, passed_less, passed_equal, passed_greater, passed_all)

-- the values, from the last to the first, put into a list
abbrev pub put_all : List Value → List Value → List Value
put_all [] set = set
put_all (v ∷ vs) set = insert_value v (put_all vs set)

pub put_into_none : (vs set : List Value) → set ≡ [] → put_all vs set ≡ ascending vs
put_into_none [] set e = e
put_into_none (v ∷ vs) set e = ap (insert_value v) (put_into_none vs set e)

pub put_last : (vs set : List Value) (v : Value) → put_all (vs ++ v ∷ []) set ≡ put_all vs (insert_value v set)
put_last [] set v = refl
put_last (u ∷ us) set v = ap (insert_value u) (put_last us set v)

-- a list that ascends stays as it is

less_is : (o : Ordering) → is_lt o ≡ true → o ≡ Less
less_is Less h = refl
less_is Equal h = cc
less_is Greater h = cc

tail_ascends : (v : Value) (vs : List Value) → ascends_behind v vs ≡ true → ascends vs ≡ true
tail_ascends v [] h = refl
tail_ascends v (w ∷ ws) h = second_true (is_lt (value_cmp v w)) (ascends_behind w ws) h

goes_first : (v : Value) (vs : List Value) → ascends_behind v vs ≡ true → insert_value v vs ≡ v ∷ vs
goes_first v [] h = refl
goes_first v (w ∷ ws) h =
    ap (λ o. insert_by o v w ws (insert_value v ws)) (less_is (value_cmp v w) (first_true (is_lt (value_cmp v w)) (ascends_behind w ws) h))

pub ascending_same : (vs : List Value) → ascends vs ≡ true → ascending vs ≡ vs
ascending_same [] h = refl
ascending_same (v ∷ vs) h = ap (insert_value v) (ascending_same vs (tail_ascends v vs h)) ∙ goes_first v vs h

pub ruleset insertions = (put_into_none, put_last, ascending_same)
