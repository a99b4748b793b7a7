-- The names that want a witness, and the faults of witnesses.
use Rattle.std.proofs.Common.{◌≡◌, ◌∙◌, ◌+◌, ◌<◌, ap, refl, sym, ℕ, Bool, true, false, not, ◌||◌, ◌&&◌, cond, List, [], ◌∷◌, ◌++◌, map, take, length, get_or, append_assoc, bytes_eq}
use Rattle.std.specs.Prelude.{Option}
use Rattle.std.specs.Borrow.{Bor}
use Rattle.std.specs.List.{filter, list_any}
use Rattle.std.proofs.lemmas.Cmp.{nat_list_eq_equiv}
use Rattle.std.proofs.lemmas.Slice.Eq.{bytes_eq-Decides}
use Rattle.formula_core.specs.Formulas.{joined}
use Rattle.type_action.specs.CoreActions.{primed}
use Rattle.model_core.specs.declared.fault.Fault.{Fault}
use Rattle.model_core.specs.declared.component.RawEvent.{RawEvent}
use Rattle.model_core.specs.declared.component.RawLabelled.{RawLabelled}
use Rattle.model_core.specs.declared.checked.CheckedEvent.{CheckedEvent}
use Rattle.model_core.specs.Each.{at_each, is_among}
use Rattle.model_core.specs.declared.fault.FaultKind.TheVariants as kind
use Rattle.model_core.specs.Faults.{earlier, first_by_place, fault_at}
use Rattle.model_core.proofs.Firsts.{taken_more}
use Rattle.model_core.proofs.Lists.{filter_append, any_append, any_map}
use Rattle.check_rules.specs.Visible.{names}
use Rattle.check_rules.specs.Typed.{Entries, LabelledAction}
use Rattle.check_rules.specs.Refinements.{chosen, all_chosen, without_labels, missing_witness_row, superfluous_witness_row}
use Rattle.refine_check.specs.Private.{lost_param_names, bad_witnesses_of}
use Rattle.refine_check.proofs.Faults.{both, map_joined, map-append}

-- one more event
pub params_more : (kept : List (List ℕ)) (found : List (Bor CheckedEvent)) (i : ℕ) (x : Bor CheckedEvent) (params : Entries) → i < length found → x ≡ get_or found i x →
    params ≡ x.now.params →
    lost_param_names kept (map (λ e. e.now) (take i found)) ++ filter (λ p. not (is_among kept p)) (names params) ≡ lost_param_names kept (map (λ e. e.now) (take (i + 1) found))
params_more kept found i x params lt is e =
    let xs : List CheckedEvent = map (λ e. e.now) (take i found) in
    let test : List ℕ → Bool = λ p. not (is_among kept p) in
    ap (λ ps. lost_param_names kept xs ++ filter test (names ps)) e
    ∙ sym (filter_append test (names (joined (map (λ a. a.params) xs))) (names x.now.params))
    ∙ ap (filter test) (sym (map-append (λ p. p.0) (joined (map (λ a. a.params) xs)) x.now.params))
    ∙ ap (λ ps. filter test (names ps)) (sym (map_joined (λ a. a.params) xs x.now))
    ∙ ap (lost_param_names kept) (sym (ap (map (λ e. e.now)) (taken_more found i x lt is) ∙ map-append (λ e. e.now) (take i found) (x ∷ [])))

-- one more action
pub chosen_more : (actions : List LabelledAction) (i : ℕ) (x : LabelledAction) → i < length actions → x ≡ get_or actions i x →
    all_chosen (without_labels (take i actions)) ++ chosen x.1 ≡ all_chosen (without_labels (take (i + 1) actions))
chosen_more actions i x lt is =
    sym (map_joined chosen (without_labels (take i actions)) x.1)
    ∙ ap all_chosen (sym (ap without_labels (taken_more actions i x lt is) ∙ map-append (λ a. a.1) (take i actions) (x ∷ [])))

pub each_joined : {X Y : Type 0} (row : X → List Y) (before xs : List X) → at_each (λ b x. row x) before xs ≡ joined (map row xs)
each_joined row before [] = refl
each_joined row before (x ∷ xs) = ap (λ ys. row x ++ ys) (each_joined row (before ++ x ∷ []) xs)

joined_both : {X Y : Type 0} (row : X → List Y) (xs ys : List X) → joined (map row (xs ++ ys)) ≡ joined (map row xs) ++ joined (map row ys)
joined_both row [] ys = refl
joined_both row (x ∷ xs) ys = ap (λ zs. row x ++ zs) (joined_both row xs ys) ∙ sym (append_assoc (row x) (joined (map row xs)) (joined (map row ys)))

among_kept : (test : List ℕ → Bool) (xs : List (List ℕ)) (n : List ℕ) → is_among (filter test xs) n ≡ (is_among xs n && test n)
among_kept test [] n = refl
among_kept test (x ∷ xs) n = at (bytes_eq n x) (test x) refl refl (among_kept test xs n)
  where
    and_false : (b c : Bool) → c ≡ false → (b && c) ≡ false
    and_false true c e = e
    and_false false c e = refl

    at : (p q : Bool) → bytes_eq n x ≡ p → test x ≡ q → is_among (filter test xs) n ≡ (is_among xs n && test n) →
        is_among (cond q (x ∷ filter test xs) (filter test xs)) n ≡ ((p || is_among xs n) && test n)
    at true true e f h = ap (λ b. b || is_among (filter test xs) n) e ∙ sym f ∙ ap test (sym ((bytes_eq-Decides n x).0 e))
    at true false e f h =
        let t : test n ≡ false = ap test ((bytes_eq-Decides n x).0 e) ∙ f in
        h ∙ and_false (is_among xs n) (test n) t ∙ sym t
    at false true e f h = ap (λ b. b || is_among (filter test xs) n) e ∙ h
    at false false e f h = h

-- which of the chosen variables lack a witness, and which of the lost ones are among those
pub lacking_are : {F : Type 0} (fault : List ℕ → F) (labels chosen lost : List (List ℕ)) →
    joined (map (λ n. cond (is_among labels n) [] (fault n ∷ [])) (map primed (filter (is_among chosen) lost)))
    ≡ map (λ n. fault (primed n)) (filter (is_among (filter (λ n. not (is_among labels (primed n))) chosen)) lost)
lacking_are fault labels chosen [] = refl
lacking_are {F} fault labels chosen (x ∷ lost) =
    split (is_among chosen x)
    ∙ at (is_among chosen x) (is_among labels (primed x)) _ _ (lacking_are fault labels chosen lost)
    ∙ ap (λ b. map (λ n. fault (primed n)) (cond b (x ∷ those) those)) (sym (among_kept (λ n. not (is_among labels (primed n))) chosen x))
  where
    row : List ℕ → List F
    row n = cond (is_among labels n) [] (fault n ∷ [])

    those : List (List ℕ)
    those = filter (is_among (filter (λ n. not (is_among labels (primed n))) chosen)) lost

    split : (b : Bool) → joined (map row (map primed (cond b (x ∷ filter (is_among chosen) lost) (filter (is_among chosen) lost))))
        ≡ cond b (row (primed x) ++ joined (map row (map primed (filter (is_among chosen) lost)))) (joined (map row (map primed (filter (is_among chosen) lost))))
    split true = refl
    split false = refl

    at : (b d : Bool) (rest : List F) (ys : List (List ℕ)) → rest ≡ map (λ n. fault (primed n)) ys →
        cond b (cond d [] (fault (primed x) ∷ []) ++ rest) rest ≡ map (λ n. fault (primed n)) (cond (b && not d) (x ∷ ys) ys)
    at true true rest ys e = e
    at true false rest ys e = ap (λ r. fault (primed x) ∷ r) e
    at false d rest ys e = e

any_kept : {X : Type 0} (p test : X → Bool) (xs : List X) → list_any p (filter test xs) ≡ list_any (λ n. test n && p n) xs
any_kept p test [] = refl
any_kept p test (x ∷ xs) = at (test x) ∙ ap (λ b. (test x && p x) || b) (any_kept p test xs)
  where
    at : (b : Bool) → list_any p (cond b (x ∷ filter test xs) (filter test xs)) ≡ ((b && p x) || list_any p (filter test xs))
    at true = refl
    at false = refl

and_either : (a b c : Bool) → ((a && c) || (b && c)) ≡ ((a || b) && c)
and_either true true true = refl
and_either true true false = refl
and_either true false true = refl
and_either true false false = refl
and_either false b c = refl

any_both : {X : Type 0} (test : X → Bool) (c : Bool) (xs : List X) → list_any (λ n. test n && c) xs ≡ (list_any test xs && c)
any_both test c [] = refl
any_both test c (x ∷ xs) = ap (λ b. (test x && c) || b) (any_both test c xs) ∙ and_either (test x) (list_any test xs) c

any_none : {X : Type 0} (xs : List X) → false ≡ list_any (λ x. false) xs
any_none [] = refl
any_none (x ∷ xs) = any_none xs

or_middle : (a b c d : Bool) → ((a || b) || (c || d)) ≡ ((a || c) || (b || d))
or_middle true b c d = refl
or_middle false true true d = refl
or_middle false true false d = refl
or_middle false false c d = refl

any_either : {X : Type 0} (p q : X → Bool) (xs : List X) → (list_any p xs || list_any q xs) ≡ list_any (λ x. p x || q x) xs
any_either p q [] = refl
any_either p q (x ∷ xs) = or_middle (p x) (list_any p xs) (q x) (list_any q xs) ∙ ap (λ b. (p x || q x) || b) (any_either p q xs)

any_swap : {X Y : Type 0} (r : X → Y → Bool) (xs : List X) (ys : List Y) → list_any (λ x. list_any (r x) ys) xs ≡ list_any (λ y. list_any (λ x. r x y) xs) ys
any_swap r [] ys = any_none ys
any_swap r (x ∷ xs) ys = ap (λ b. list_any (r x) ys || b) (any_swap r xs ys) ∙ any_either (r x) (λ y. list_any (λ z. r z y) xs) ys

any_same : {X : Type 0} (t u : X → Bool) → ((x : X) → t x ≡ u x) → (xs : List X) → list_any t xs ≡ list_any u xs
any_same t u h [] = refl
any_same t u h (x ∷ xs) = λ i. h x i || any_same t u h xs i

-- what holds of a name holds of one that is the same
at_same : (p : List ℕ → Bool) (n a : List ℕ) → (bytes_eq n a && p n) ≡ (bytes_eq a n && p a)
at_same p n a = at (bytes_eq n a) refl
  where
    at : (b : Bool) → bytes_eq n a ≡ b → (bytes_eq n a && p n) ≡ (bytes_eq a n && p a)
    at true e =
        let same : n ≡ a = (bytes_eq-Decides n a).0 e in
        ap (λ x. bytes_eq n a && p x) same ∙ ap (λ b. b && p a) (nat_list_eq_equiv.symm n a)
    at false e = ap (λ b. b && p n) e ∙ ap (λ b. b && p a) (sym (sym (nat_list_eq_equiv.symm n a) ∙ e))

-- one that is in both of two lists and passes
any_common : (p : List ℕ → Bool) (xs ys : List (List ℕ)) → list_any (λ n. is_among xs n && p n) ys ≡ list_any (λ n. is_among ys n && p n) xs
any_common p xs ys =
    any_same _ _ (λ n. sym (any_both (bytes_eq n) (p n) xs) ∙ any_same _ _ (at_same p n) xs) ys
    ∙ any_swap (λ n a. bytes_eq a n && p a) ys xs
    ∙ any_same _ _ (λ a. any_both (bytes_eq a) (p a) ys) xs

among_common : (f : List ℕ → List ℕ) (xs ys : List (List ℕ)) (x : List ℕ) → is_among (map f (filter (is_among xs) ys)) x ≡ is_among (map f (filter (is_among ys) xs)) x
among_common f xs ys x =
    any_map (bytes_eq x) f (filter (is_among xs) ys) ∙ any_kept (λ n. bytes_eq x (f n)) (is_among xs) ys
    ∙ any_common (λ n. bytes_eq x (f n)) xs ys
    ∙ sym (any_map (bytes_eq x) f (filter (is_among ys) xs) ∙ any_kept (λ n. bytes_eq x (f n)) (is_among ys) xs)

superfluous_same : (component : List ℕ) (index wanted : List (List ℕ)) → ((x : List ℕ) → is_among index x ≡ is_among wanted x) → (witnesses : List RawLabelled) →
    joined (map (superfluous_witness_row component index []) witnesses) ≡ joined (map (superfluous_witness_row component wanted []) witnesses)
superfluous_same component index wanted h witnesses = λ i. joined (map (λ w. cond (h w.label i) [] (fault_at component kind.BadWitness w.place w.label ∷ [])) witnesses)

pub bad_is : (component : List ℕ) (params lost chosen : List (List ℕ)) (e : RawEvent) (labels index : List (List ℕ)) (witnesses : List RawLabelled) (param variable superfluous : Option Fault) →
    witnesses ≡ e.witnesses → labels ≡ map (λ w. w.label) witnesses → index ≡ params ++ map primed (filter (is_among lost) chosen) →
    param ≡ first_by_place (joined (map (missing_witness_row component e.name.place labels []) params)) →
    variable ≡ first_by_place (joined (map (missing_witness_row component e.name.place labels []) (map primed (filter (is_among chosen) lost)))) →
    superfluous ≡ first_by_place (joined (map (superfluous_witness_row component index []) witnesses)) →
    earlier (earlier param variable) superfluous ≡ first_by_place (bad_witnesses_of component (params ++ map primed (filter (is_among chosen) lost)) e)
bad_is component params lost chosen e labels index witnesses param variable superfluous w l is p v s =
    let wanted : List (List ℕ) = params ++ map primed (filter (is_among chosen) lost) in
    let row : List ℕ → List Fault = missing_witness_row component e.name.place labels [] in
    let rows : List RawLabelled → List Fault = λ ws. joined (map (superfluous_witness_row component wanted []) ws) in
    let among : (x : List ℕ) → is_among index x ≡ is_among wanted x = λ x.
    ap (λ xs. is_among xs x) is ∙ any_append (bytes_eq x) params (map primed (filter (is_among lost) chosen))
    ∙ ap (λ b. is_among params x || b) (among_common primed lost chosen x) ∙ sym (any_append (bytes_eq x) params (map primed (filter (is_among chosen) lost))) in
    let missing : earlier param variable ≡ first_by_place (joined (map row wanted)) =
    both (joined (map row params)) (joined (map row (map primed (filter (is_among chosen) lost)))) param variable p v
    ∙ ap first_by_place (sym (joined_both row params (map primed (filter (is_among chosen) lost)))) in
    both (joined (map row wanted)) (rows witnesses) (earlier param variable) superfluous missing (s ∙ ap first_by_place (superfluous_same component index wanted among witnesses))
    ∙ (λ i. first_by_place (joined (map (missing_witness_row component e.name.place ((l ∙ ap (map (λ x. x.label)) w) i) []) wanted) ++ rows (w i)))
    ∙ (λ i. first_by_place (sym (each_joined (missing_witness_row component e.name.place (map (λ x. x.label) e.witnesses) []) [] wanted) i
    ++ sym (each_joined (superfluous_witness_row component wanted []) [] e.witnesses) i))
