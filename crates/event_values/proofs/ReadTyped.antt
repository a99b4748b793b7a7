-- What is read at a type is a value of it.
use Rattle.std.proofs.Common.{◌≡◌, ◌∙◌, ap, sym, subst, refl, ℕ, ℤ, zero, suc, ◌+◌, ◌<◌, ◌≤◌, ◌^◌, Bool, true, false, ◌&&◌, ◌==◌, List, [], ◌∷◌, take, drop, length, Option, Some, None, nat_lt, cond, arith}
use Rattle.std.specs.Prelude.{pos, neg_ℤ, nat_le, bytes_eq, codes, if◌then◌else◌}
use Rattle.std.specs.List.{AllByRecursion, list_all}
use Rattle.std.specs.Map.{lookup}
use Rattle.std.specs.Option.{option_map, option_and_then, option_map_or}
use Rattle.std.specs.declared.cmp.Ordering.{Ordering}
use Rattle.std.specs.declared.cmp.Ordering.TheVariants.{Less, Equal, Greater}
use Rattle.std.proofs.lemmas.Bool.{ltb-true, lt-ltb}
use Rattle.std.proofs.lemmas.Cmp.{nat_list_eq_equiv}
use Rattle.formula_core.specs.declared.ty.Ty.{Ty}
use Rattle.formula_core.specs.declared.ty.Ty.TheOpen.{Int as IntF, Bool as BoolF, Given as GivenF, Pow as PowF, Pair as PairF, Truth as TruthF}
use Rattle.formula_core.specs.declared.ty.Ty.TheVariants.{Int as IntT, Bool as BoolT, Given as GivenT, Pow as PowT, Pair as PairT, Truth as TruthT}
use Rattle.formula_core.specs.declared.ty.Ty.TheViews.{rolls-Int, rolls-Bool, rolls-Given, rolls-Pow, rolls-Pair, rolls-Truth}
use Rattle.formula_core.proofs.Types.{type_induction}
use Rattle.event_values.specs.declared.value.Value.{Value, out-Value}
use Rattle.event_values.specs.declared.value.Value.TheVariants as value
use Rattle.event_values.specs.declared.value.Value.TheViews.{outs-Int, outs-Truth, outs-Elem, outs-Pair, outs-Set}
use Rattle.event_values.specs.Order.{value_nodes, value_cmp, ascends, insert_by, insert_value, ascending}
use Rattle.event_values.specs.Typed.{has_128_bits, is_number_at, is_truth_value_at, is_element_at, is_set_at, is_pair_at, is_value_of}
use Rattle.event_values.specs.Reading.{text_digits, number_below, minus, text_number, text_behind, between_signs, comma_pieces, piece_end, text_element_number, text_values, text_members, text_set, text_pair, text_value, most_nodes, unless_large, read_as}
use Rattle.formula_core.proofs.Weakening.{first_true, second_true, both_true}
use Rattle.event_values.proofs.Orders.{ascending_ascends}
use Rattle.event_values.proofs.TypeSteps.{text_at, of_at}

-- OPTIONS

some_same : {A : Type 0} (a b : A) → ◌≡◌ {A = Option A} (Some a) (Some b) → a ≡ b
some_same a b e = cc

module _ {A B : Type 0} where
  abbrev Comes : (A → B) → Option A → B → Type 0
  Comes f o b = (a : A) × (o ≡ Some a) × (f a ≡ b)

  mapped_from : (f : A → B) (o : Option A) (b : B) → option_map f o ≡ Some b → Comes f o b
  mapped_from f None b e = cc
  mapped_from f (Some a) b e = (a, refl, cc)

  led_from : (f : A → Option B) (o : Option A) (b : B) → option_and_then f o ≡ Some b → (a : A) × (o ≡ Some a) × (f a ≡ Some b)
  led_from f None b e = cc
  led_from f (Some a) b e = (a, refl, e)

-- NUMBERS

below_less : (bound : ℕ) (o : Option ℕ) (n : ℕ) → number_below bound o ≡ Some n → n < bound
below_less bound None n e = cc
below_less bound (Some m) n e = go (nat_lt m bound) refl e
  where
    go : (b : Bool) → nat_lt m bound ≡ b → (if b then Some m else None) ≡ Some n → n < bound
    go true t f = let same : m ≡ n = cc in subst (λ k. k < bound) same (ltb-true m bound t)
    go false t f = cc

negated_fits : (n : ℕ) → n < 2 ^ 127 + 1 → has_128_bits (neg_ℤ (pos n)) ≡ true
negated_fits zero less = lt-ltb 0 (2 ^ 127) (omega arith)
negated_fits (suc n) less = lt-ltb n (2 ^ 127) (omega (arith, less))

number_fits : (text : List ℕ) (n : ℤ) → text_number text ≡ Some n → has_128_bits n ≡ true
number_fits [] n e = cc
number_fits (c ∷ cs) n e = go (c == minus) e
  where
    go : (b : Bool) → (if b then option_map (λ k. neg_ℤ (pos k)) (number_below (2 ^ 127 + 1) (text_digits cs)) else option_map pos (number_below (2 ^ 127) (text_digits (c ∷ cs)))) ≡ Some n → has_128_bits n ≡ true
    go true f =
        let from = mapped_from (λ k. neg_ℤ (pos k)) (number_below (2 ^ 127 + 1) (text_digits cs)) n f in
        subst (λ z. has_128_bits z ≡ true) from.2 (negated_fits from.0 (below_less (2 ^ 127 + 1) (text_digits cs) from.0 from.1))
    go false f =
        let from = mapped_from pos (number_below (2 ^ 127) (text_digits (c ∷ cs))) n f in
        subst (λ z. has_128_bits z ≡ true) from.2 (lt-ltb from.0 (2 ^ 127) (below_less (2 ^ 127) (text_digits (c ∷ cs)) from.0 from.1))

-- TRUTH VALUES

truth_by : (a b : Bool) (v : Value) → (if a then Some (value.Truth true) else if b then Some (value.Truth false) else None) ≡ Some v → is_truth_value_at (out-Value v) ≡ true
truth_by true b v e = ap is_truth_value_at (ap out-Value (sym (some_same {A = Value} (value.Truth true) v e)) ∙ outs-Truth true)
truth_by false true v e = ap is_truth_value_at (ap out-Value (sym (some_same {A = Value} (value.Truth false) v e)) ∙ outs-Truth false)
truth_by false false v e = cc

-- SETS

module _ (p : Value → Bool) where
  all_by : (v w : Value) (ws : List Value) (o : Ordering) → p v ≡ true → list_all p (w ∷ ws) ≡ true → list_all p (insert_value v ws) ≡ true
      → list_all p (insert_by o v w ws (insert_value v ws)) ≡ true
  all_by v w ws Less one all more = both_true (p v) (list_all p (w ∷ ws)) one all
  all_by v w ws Equal one all more = all
  all_by v w ws Greater one all more = both_true (p w) (list_all p (insert_value v ws)) (first_true (p w) (list_all p ws) all) more

  all_inserted : (v : Value) (ws : List Value) → p v ≡ true → list_all p ws ≡ true → list_all p (insert_value v ws) ≡ true
  all_inserted v [] one all = both_true (p v) true one refl
  all_inserted v (w ∷ ws) one all = all_by v w ws (value_cmp v w) one all (all_inserted v ws one (second_true (p w) (list_all p ws) all))

  all_ascending : (vs : List Value) → list_all p vs ≡ true → list_all p (ascending vs) ≡ true
  all_ascending [] all = refl
  all_ascending (v ∷ vs) all = all_inserted v (ascending vs) (first_true (p v) (list_all p vs) all) (all_ascending vs (second_true (p v) (list_all p vs) all))

module _ (sizes : List (List ℕ × ℕ)) (narrow : AllByRecursion (λ s. s.1 ≤ 2 ^ 32) sizes) where
  size_narrow : (test : List ℕ → Bool) (es : List (List ℕ × ℕ)) (size : ℕ) → AllByRecursion (λ s. s.1 ≤ 2 ^ 32) es → lookup test es ≡ Some size → size ≤ 2 ^ 32
  size_narrow test [] size all e = cc
  size_narrow test (s ∷ es) size all e = go (test s.0) e (size_narrow test es size all.1)
    where
      go : (b : Bool) → cond b (Some s.1) (lookup test es) ≡ Some size → (lookup test es ≡ Some size → size ≤ 2 ^ 32) → size ≤ 2 ^ 32
      go true f more = let same : s.1 ≡ size = cc in subst (λ k. k ≤ 2 ^ 32) same all.0
      go false f more = more f

  abbrev Goal : Ty → Type 0
  Goal t = (text : List ℕ) (v : Value) → text_value sizes t text ≡ Some v → is_value_of sizes t v ≡ true

  int_typed : Goal IntT
  int_typed text v e =
      let from = mapped_from value.Int (text_number text) v (sym (text_at sizes IntF IntT rolls-Int text) ∙ e) in
      of_at sizes IntF IntT rolls-Int v ∙ ap is_number_at (ap out-Value (sym from.2) ∙ outs-Int from.0) ∙ number_fits text from.0 from.1

  given_typed : (name : List ℕ) → Goal (GivenT name)
  given_typed name text v e =
      let sized = led_from (λ size. option_map (value.Elem name) (text_element_number name size text)) (lookup (bytes_eq name) sizes) v
      (sym (text_at sizes (GivenF name) (GivenT name) (rolls-Given name) text) ∙ e) in
      let from = mapped_from (value.Elem name) (text_element_number name sized.0 text) v sized.2 in
      let ends = led_from (λ digits. number_below sized.0 (text_digits digits)) (option_and_then (text_behind (codes "#")) (text_behind name text)) from.0 from.1 in
      let less : from.0 < sized.0 = below_less sized.0 (text_digits ends.0) from.0 ends.2 in
      let small : sized.0 ≤ 2 ^ 32 = size_narrow (bytes_eq name) sizes sized.0 narrow sized.1 in
      of_at sizes (GivenF name) (GivenT name) (rolls-Given name) v ∙ ap (is_element_at sizes name) (ap out-Value (sym from.2) ∙ outs-Elem name from.0)
      ∙ both_true (bytes_eq name name && nat_lt from.0 (2 ^ 32)) (option_map_or (λ size. nat_lt from.0 size) (lookup (bytes_eq name) sizes) false)
      (both_true (bytes_eq name name) (nat_lt from.0 (2 ^ 32)) (nat_list_eq_equiv.refl name) (lt-ltb from.0 (2 ^ 32) (omega (arith, less, small))))
      (ap (λ o. option_map_or (λ size. nat_lt from.0 size) o false) sized.1 ∙ lt-ltb from.0 sized.0 less)

  pair_typed : (t u : Ty) → Goal t → Goal u → Goal (PairT t u)
  pair_typed t u left right text v e =
      let opened = led_from (text_pair (text_value sizes t) (text_value sizes u)) (between_signs (codes "(") (codes ")") text) v
      (sym (text_at sizes (PairF t u) (PairT t u) (rolls-Pair t u) text) ∙ e) in
      of_at sizes (PairF t u) (PairT t u) (rolls-Pair t u) v ∙ go opened.0 (nat_lt (piece_end 0 opened.0) (length opened.0)) opened.2
    where
      go : (inner : List ℕ) (b : Bool)
          → (if b then option_and_then (λ w. option_map (value.Pair w) (text_value sizes u (drop (piece_end 0 inner + 1) inner))) (text_value sizes t (take (piece_end 0 inner) inner)) else None) ≡ Some v
          → is_pair_at (is_value_of sizes t) (is_value_of sizes u) (out-Value v) ≡ true
      go inner true f =
          let first = led_from (λ w. option_map (value.Pair w) (text_value sizes u (drop (piece_end 0 inner + 1) inner))) (text_value sizes t (take (piece_end 0 inner) inner)) v f in
          let second = mapped_from (value.Pair first.0) (text_value sizes u (drop (piece_end 0 inner + 1) inner)) v first.2 in
          ap (is_pair_at (is_value_of sizes t) (is_value_of sizes u)) (ap out-Value (sym second.2) ∙ outs-Pair first.0 second.0)
          ∙ both_true (is_value_of sizes t first.0) (is_value_of sizes u second.0) (left (take (piece_end 0 inner) inner) first.0 first.1)
          (right (drop (piece_end 0 inner + 1) inner) second.0 second.1)
      go inner false f = cc

  module _ (t : Ty) (member : Goal t) where
    all_typed : (xs : List (List ℕ)) (vs : List Value) → text_values (text_value sizes t) xs ≡ Some vs → list_all (is_value_of sizes t) vs ≡ true
    all_typed [] vs e = subst (λ us. list_all (is_value_of sizes t) us ≡ true) (some_same {A = List Value} [] vs e) refl
    all_typed (x ∷ xs) vs e =
        let one = led_from (λ v. option_map (λ us. v ∷ us) (text_values (text_value sizes t) xs)) (text_value sizes t x) vs e in
        let more = mapped_from (λ us. one.0 ∷ us) (text_values (text_value sizes t) xs) vs one.2 in
        subst (λ us. list_all (is_value_of sizes t) us ≡ true) more.2
        (both_true (is_value_of sizes t one.0) (list_all (is_value_of sizes t) more.0) (member x one.0 one.1) (all_typed xs more.0 more.1))

    members_typed : (text : List ℕ) (vs : List Value) → text_members (text_value sizes t) text ≡ Some vs → list_all (is_value_of sizes t) vs ≡ true
    members_typed [] vs e = all_typed [] vs e
    members_typed (c ∷ cs) vs e = all_typed (comma_pieces 0 (c ∷ cs)) vs e

  pow_typed : (t : Ty) → Goal t → Goal (PowT t)
  pow_typed t member text v e =
      let opened = led_from (text_set (text_value sizes t)) (between_signs (codes "{") (codes "}") text) v (sym (text_at sizes (PowF t) (PowT t) (rolls-Pow t) text) ∙ e) in
      let from = mapped_from (λ vs. value.Set (ascending vs)) (text_members (text_value sizes t) opened.0) v opened.2 in
      of_at sizes (PowF t) (PowT t) (rolls-Pow t) v ∙ ap (is_set_at (is_value_of sizes t)) (ap out-Value (sym from.2) ∙ outs-Set (ascending from.0))
      ∙ both_true (list_all (is_value_of sizes t) (ascending from.0)) (ascends (ascending from.0))
      (all_ascending (is_value_of sizes t) from.0 (members_typed t member opened.0 from.0 from.1)) (ascending_ascends from.0)

  every_typed : (t : Ty) → Goal t
  every_typed = type_induction Goal int_typed
      (λ text v e. of_at sizes BoolF BoolT rolls-Bool v
      ∙ truth_by (bytes_eq text (codes "TRUE")) (bytes_eq text (codes "FALSE")) v (sym (text_at sizes BoolF BoolT rolls-Bool text) ∙ e))
      given_typed pow_typed pair_typed
      (λ text v e. of_at sizes TruthF TruthT rolls-Truth v
      ∙ truth_by (bytes_eq text (codes "TRUE")) (bytes_eq text (codes "FALSE")) v (sym (text_at sizes TruthF TruthT rolls-Truth text) ∙ e))

not_large : (o : Option Value) (v : Value) → unless_large o ≡ Some v → o ≡ Some v
not_large None v e = cc
not_large (Some w) v e = go (nat_le (value_nodes w) most_nodes) e
  where
    go : (b : Bool) → (if b then Some w else None) ≡ Some v → Some w ≡ Some v
    go true f = f
    go false f = cc

pub read_is_typed : (sizes : List (List ℕ × ℕ)) (t : Ty) (text : List ℕ) (v : Value) → AllByRecursion (λ s. s.1 ≤ 2 ^ 32) sizes → read_as sizes t text ≡ Some v
    → is_value_of sizes t v ≡ true
read_is_typed sizes t text v narrow e = every_typed sizes narrow t text v (not_large (text_value sizes t text) v e)
