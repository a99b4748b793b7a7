-- What is printed of a value is read as it.
use Rattle.std.proofs.Common.{◌≡◌, ◌∙◌, ap, sym, subst, refl, ℕ, ℤ, suc, ◌+◌, ◌-◌, ◌*◌, ◌/◌, ◌%◌, ◌<◌, ◌≤◌, ◌^◌, Bool, true, false, ◌&&◌, ◌==◌, List, [], ◌∷◌, ◌++◌, map, length, take, drop, Option, Some, None, nat_lt, append_assoc, append-nil, arith, length-append}
use Rattle.std.specs.Prelude.{pos, negsuc, neg_ℤ, bytes_eq, codes, if◌then◌else◌, ⊤}
use Rattle.std.specs.Fmt.{decimal, signed_decimal}
use Rattle.std.specs.Str.{all_ascii_digits}
use Rattle.std.specs.Char.{is_ascii_digit}
use Rattle.std.specs.List.{AllByRecursion, list_all}
use Rattle.std.specs.Map.{lookup}
use Rattle.std.specs.Option.{option_map, option_and_then, option_map_or}
use Rattle.std.specs.Cmp.Lexicographic.{same_text}
use Rattle.std.proofs.lemmas.Bool.{ltb-true, lt-ltb, le-leb}
use Rattle.std.proofs.lemmas.Bool.Decides.{nat_tests}
use Rattle.std.proofs.lemmas.Cmp.{nat_list_eq_equiv}
use Rattle.std.proofs.lemmas.Fmt.{decimal_by_steps_wide}
use Rattle.std.proofs.lemmas.List.{take_at, drop_at}
use Rattle.formula_core.specs.Names.{is_identifier, is_word, is_in_word, starts_word}
use Rattle.formula_core.specs.declared.ty.Ty.{Ty, roll-Ty}
use Rattle.formula_core.specs.declared.ty.Ty.TheOpen.{Ty-F, Int as IntF, Bool as BoolF, Given as GivenF, Pow as PowF, Pair as PairF, Truth as TruthF}
use Rattle.formula_core.specs.declared.ty.Ty.TheVariants.{Int as IntT, Bool as BoolT, Given as GivenT, Pow as PowT, Pair as PairT, Truth as TruthT}
use Rattle.formula_core.specs.declared.ty.Ty.TheViews.{rolls-Int, rolls-Bool, rolls-Given, rolls-Pow, rolls-Pair, rolls-Truth}
use Rattle.formula_core.specs.declared.ty.Ty.TheFolds.{map-Ty, fold-roll-Ty}
use Rattle.formula_core.proofs.Types.{type_induction}
use Rattle.formula_core.proofs.Weakening.{first_true, second_true}
use Rattle.event_values.proofs.Digits.{value_more}
use Rattle.event_values.proofs.Insertion.{ascending_same}
use Rattle.event_values.proofs.TypeSteps.{text_at, of_at}
use Rattle.event_values.specs.declared.value.Value.{Value, out-Value, roll-Value}
use Rattle.event_values.specs.declared.value.Value.TheOpen.{Value-F, Int, Truth, Elem, Pair, Set}
use Rattle.event_values.specs.declared.value.Value.TheVariants as value
use Rattle.event_values.specs.declared.value.Value.TheViews as view
use Rattle.event_values.specs.declared.value.Value.TheFolds.{map-Value, fold-roll-Value}
use Rattle.event_values.specs.Order.{value_nodes, ascends, ascending}
use Rattle.event_values.specs.Text.{truth_text, element_text, with_commas, value_text_step, value_text}
use Rattle.event_values.specs.Typed.{has_128_bits, is_number_at, is_truth_value_at, is_element_at, is_set_at, is_pair_at, is_value_of, has_identifiers_step, has_identifiers}
use Rattle.event_values.specs.Reading.{number_after, text_digits, number_below, text_number, text_behind, text_before, between_signs, depth_after, is_cut_at, in_front, comma_pieces, piece_end, text_truth, text_element_number, text_values, text_members, text_set, text_pair, text_value, most_nodes, unless_large, read_as}

no_false : true ≡ false → ⊥
no_false e = cc

-- TEXTS THAT STAY IN THEIR BRACKETS

-- no comma stands in none of the brackets that are open before the text, and so many are open behind it
abbrev Stays : ℕ → List ℕ → ℕ → Type 0
Stays depth [] end = depth ≡ end
Stays depth (c ∷ cs) end = (is_cut_at depth c ≡ false) × Stays (depth_after depth c) cs end

abbrev IsClosed : List ℕ → Type 0
IsClosed text = (depth : ℕ) → Stays depth text depth

abbrev Filled : List ℕ → Type 0
Filled [] = ⊥
Filled (c ∷ cs) = ⊤

stays_on : (xs ys : List ℕ) (d m e : ℕ) → Stays d xs m → Stays m ys e → Stays d (xs ++ ys) e
stays_on [] ys d m e p q = subst (λ n. Stays n ys e) (sym p) q
stays_on (x ∷ xs) ys d m e p q = (p.0, stays_on xs ys (depth_after d x) m e p.1 q)

filled_on : (xs ys : List ℕ) → Filled xs → Filled (xs ++ ys)
filled_on [] ys f = absurd f
filled_on (x ∷ xs) ys f = tt

abbrev in_front_of : List ℕ → List (List ℕ) → List (List ℕ)
in_front_of [] ps = ps
in_front_of (c ∷ cs) ps = in_front c (in_front_of cs ps)

front_of_first : (xs p : List ℕ) (ps : List (List ℕ)) → in_front_of xs (p ∷ ps) ≡ (xs ++ p) ∷ ps
front_of_first [] p ps = refl
front_of_first (x ∷ xs) p ps = ap (in_front x) (front_of_first xs p ps)

pieces_pass : (xs rest : List ℕ) (d e : ℕ) → Stays d xs e → comma_pieces d (xs ++ rest) ≡ in_front_of xs (comma_pieces e rest)
pieces_pass [] rest d e p = ap (λ n. comma_pieces n rest) p
pieces_pass (x ∷ xs) rest d e p = rw p.0 (ap (in_front x) (pieces_pass xs rest (depth_after d x) e p.1))

none_before : (b : ℕ) → b ≡ 0 + b
none_before b = omega arith

none_behind : (a : ℕ) → a + 0 ≡ a
none_behind a = omega arith

more : (a b : ℕ) → a < a + suc b
more a b = omega arith

one_before : (a b : ℕ) → suc (a + b) ≡ suc a + b
one_before a b = omega arith

end_passes : (xs rest : List ℕ) (d e : ℕ) → Stays d xs e → piece_end d (xs ++ rest) ≡ length xs + piece_end e rest
end_passes [] rest d e p = ap (λ n. piece_end n rest) p ∙ none_before (piece_end e rest)
end_passes (x ∷ xs) rest d e p = rw p.0 (ap suc (end_passes xs rest (depth_after d x) e p.1) ∙ one_before (length xs) (piece_end e rest))

one_piece : (xs : List ℕ) → IsClosed xs → comma_pieces 0 xs ≡ xs ∷ []
one_piece xs closed =
    ap (comma_pieces 0) (sym (append-nil xs)) ∙ pieces_pass xs [] 0 0 (closed 0) ∙ front_of_first xs [] [] ∙ ap (λ ys. ys ∷ []) (append-nil xs)

piece_more : (xs rest : List ℕ) → IsClosed xs → comma_pieces 0 (xs ++ 44 ∷ rest) ≡ xs ∷ comma_pieces 0 rest
piece_more xs rest closed = pieces_pass xs (44 ∷ rest) 0 0 (closed 0) ∙ front_of_first xs [] (comma_pieces 0 rest) ∙ ap (λ ys. ys ∷ comma_pieces 0 rest) (append-nil xs)

joined_pieces : (x : List ℕ) (xs : List (List ℕ)) → IsClosed x → AllByRecursion IsClosed xs → comma_pieces 0 (x ++ with_commas true xs) ≡ x ∷ xs
joined_pieces x [] c cs = ap (comma_pieces 0) (append-nil x) ∙ one_piece x c
joined_pieces x (y ∷ ys) c cs = piece_more x (y ++ with_commas true ys) c ∙ ap (λ ps. x ∷ ps) (joined_pieces y ys cs.0 cs.1)

-- SIGNS THAT ARE NO BRACKETS AND NO COMMAS

abbrev IsPlain : ℕ → Type 0
IsPlain c = (d : ℕ) → (is_cut_at d c ≡ false) × (depth_after d c ≡ d)

other_than : (c k : ℕ) → (c ≡ k → ⊥) → (c == k) ≡ false
other_than c k n = grind (arith, nat_tests)

plain_unless : (c : ℕ) → (c == 40) ≡ false → (c == 123) ≡ false → (c == 41) ≡ false → (c == 125) ≡ false → (c == 44) ≡ false → IsPlain c
plain_unless c a b e f g d = (rw g refl, rw (a, b, e, f) refl)

-- what passes a test that those don't pass
module _ (test : ℕ → Bool) where
  never : (k : ℕ) → test k ≡ false → (c : ℕ) → test c ≡ true → (c == k) ≡ false
  never k fails c passes = other_than c k (λ same. no_false (sym passes ∙ ap test same ∙ fails))

  plain_by : test 40 ≡ false → test 123 ≡ false → test 41 ≡ false → test 125 ≡ false → test 44 ≡ false → (c : ℕ) → test c ≡ true → IsPlain c
  plain_by a b e f g c passes = plain_unless c (never 40 a c passes) (never 123 b c passes) (never 41 e c passes) (never 125 f c passes) (never 44 g c passes)

  all_plain : ((c : ℕ) → test c ≡ true → IsPlain c) → (cs : List ℕ) → list_all test cs ≡ true → AllByRecursion IsPlain cs
  all_plain one [] h = tt
  all_plain one (c ∷ cs) h = (one c (first_true (test c) (list_all test cs) h), all_plain one cs (second_true (test c) (list_all test cs) h))

stays_plain : (cs : List ℕ) → AllByRecursion IsPlain cs → IsClosed cs
stays_plain [] all d = refl
stays_plain (c ∷ cs) all d = ((all.0 d).0, subst (λ m. Stays m cs d) (sym (all.0 d).1) (stays_plain cs all.1 d))

-- NUMBERS

digit_plain : (c : ℕ) → is_ascii_digit c ≡ true → IsPlain c
digit_plain = plain_by is_ascii_digit refl refl refl refl refl

digits_plain : (cs : List ℕ) → all_ascii_digits cs ≡ true → AllByRecursion IsPlain cs
digits_plain [] h = tt
digits_plain (c ∷ cs) h =
    (digit_plain c (first_true (is_ascii_digit c) (all_ascii_digits cs) h), digits_plain cs (second_true (is_ascii_digit c) (all_ascii_digits cs) h))

-- digits of this value
record Writes (n : ℕ) (ds : List ℕ) : Type 0 where
  digits : all_ascii_digits ds ≡ true
  value : number_after 0 ds ≡ n
  some : Filled ds

one_digit : (n : ℕ) → n < 10 → is_ascii_digit (48 + n) ≡ true
one_digit n h = grind (arith, nat_tests)

digits_more : (ds : List ℕ) (c : ℕ) → all_ascii_digits ds ≡ true → is_ascii_digit c ≡ true → all_ascii_digits (ds ++ c ∷ []) ≡ true
digits_more [] c h k = rw k refl
digits_more (d ∷ ds) c h k =
    λ i. first_true (is_ascii_digit d) (all_ascii_digits ds) h i && digits_more ds c (second_true (is_ascii_digit d) (all_ascii_digits ds) h) k i

first : (n : ℕ) → n < 10 → Writes n ((48 + n) ∷ [])
first n small = record { digits = rw (one_digit n small) refl; value = omega arith; some = tt }

next : (n : ℕ) (ds : List ℕ) → 10 ≤ n → Writes (n / 10) ds → Writes n (ds ++ (48 + n % 10) ∷ [])
next n ds big w = record {
  digits = digits_more ds (48 + n % 10) w.digits (one_digit (n % 10) (omega arith));
  value = value_more 0 ds (48 + n % 10) ∙ ap (λ m. 10 * m + (48 + n % 10 - 48)) w.value ∙ omega arith;
  some = filled_on ds ((48 + n % 10) ∷ []) w.some;
}

decimal_writes : (n : ℕ) → n < 2 ^ 128 → Writes n (decimal n)
decimal_writes n small = decimal_by_steps_wide Writes first next n (omega (arith, small))

value_of_digits : (n : ℕ) (ds : List ℕ) → Writes n ds → text_digits ds ≡ Some n
value_of_digits n [] w = absurd w.some
value_of_digits n (d ∷ ds) w = rw w.digits (ap Some w.value)

below_bound : (bound n : ℕ) → n < bound → number_below bound (Some n) ≡ Some n
below_bound bound n less = rw (lt-ltb n bound less) refl

natural_value : (n : ℕ) (ds : List ℕ) → Writes n ds → n < 2 ^ 127 → text_number ds ≡ Some (pos n)
natural_value n [] w small = absurd w.some
natural_value n (d ∷ ds) w small =
    rw (never is_ascii_digit 45 refl d (first_true (is_ascii_digit d) (all_ascii_digits ds) w.digits))
    (ap (option_map pos) (ap (number_below (2 ^ 127)) (value_of_digits n (d ∷ ds) w) ∙ below_bound (2 ^ 127) n small))

negative_value : (n : ℕ) (ds : List ℕ) → Writes (suc n) ds → n < 2 ^ 127 → text_number (45 ∷ ds) ≡ Some (negsuc n)
negative_value n ds w small =
    ap (option_map (λ k. neg_ℤ (pos k))) (ap (number_below (2 ^ 127 + 1)) (value_of_digits (suc n) ds w) ∙ below_bound (2 ^ 127 + 1) (suc n) (omega (arith, small)))

number_back : (n : ℤ) → has_128_bits n ≡ true → text_number (signed_decimal n) ≡ Some n
number_back (pos n) h = let small : n < 2 ^ 127 = ltb-true n (2 ^ 127) h in natural_value n (decimal n) (decimal_writes n (omega (arith, small))) small
number_back (negsuc n) h =
    let small : n < 2 ^ 127 = ltb-true n (2 ^ 127) h in negative_value n (decimal (suc n)) (decimal_writes (suc n) (omega (arith, small))) small

decimal_closed : (n : ℕ) → n < 2 ^ 128 → IsClosed (decimal n)
decimal_closed n small = stays_plain (decimal n) (digits_plain (decimal n) (decimal_writes n small).digits)

number_closed : (n : ℤ) → has_128_bits n ≡ true → IsClosed (signed_decimal n)
number_closed (pos n) h = let small : n < 2 ^ 127 = ltb-true n (2 ^ 127) h in decimal_closed n (omega (arith, small))
number_closed (negsuc n) h =
    let small : n < 2 ^ 127 = ltb-true n (2 ^ 127) h in (λ d. (refl, decimal_closed (suc n) (omega (arith, small)) d))

number_filled : (n : ℤ) → has_128_bits n ≡ true → Filled (signed_decimal n)
number_filled (pos n) h = let small : n < 2 ^ 127 = ltb-true n (2 ^ 127) h in (decimal_writes n (omega (arith, small))).some
number_filled (negsuc n) h = tt

-- BRACKETS AND COMMAS

same_bytes : (xs : List ℕ) → bytes_eq xs xs ≡ true
same_bytes xs = nat_list_eq_equiv.refl xs

behind_front : (front rest text : List ℕ) → text ≡ front ++ rest → text_behind front text ≡ Some rest
behind_front front rest text e =
    subst (λ t. text_behind front t ≡ Some rest) (sym e)
    (rw (take_at front rest (length front) refl, same_bytes front) (ap Some (drop_at front rest (length front) refl)))

before_at : (n : ℕ) (text rest : List ℕ) (c : ℕ) → n ≡ length rest → text ≡ rest ++ c ∷ []
    → (if bytes_eq (drop n text) (c ∷ []) then Some (take n text) else None) ≡ Some rest
before_at n text rest c size is =
    let front : take n text ≡ rest = ap (take n) is ∙ take_at rest (c ∷ []) n (sym size) in
    let end : drop n text ≡ c ∷ [] = ap (drop n) is ∙ drop_at rest (c ∷ []) n (sym size) in
    rw (end, same_bytes (c ∷ [])) (ap Some front)

before_end : (rest : List ℕ) (c : ℕ) → text_before (c ∷ []) (rest ++ c ∷ []) ≡ Some rest
before_end rest c = before_at (length (rest ++ c ∷ []) - 1) (rest ++ c ∷ []) rest c (omega (arith, length-append rest (c ∷ []))) refl

inside_of : (o c : ℕ) (inner : List ℕ) → between_signs (o ∷ []) (c ∷ []) (o ∷ (inner ++ c ∷ [])) ≡ Some inner
inside_of o c inner = ap (option_and_then (text_before (c ∷ []))) (behind_front (o ∷ []) (inner ++ c ∷ []) (o ∷ (inner ++ c ∷ [])) refl) ∙ before_end inner c

in_brackets : (o c : ℕ) (inner : List ℕ) → ((d : ℕ) → (is_cut_at d o ≡ false) × (depth_after d o ≡ suc d)) → ((d : ℕ) → (is_cut_at (suc d) c ≡ false) × (depth_after (suc d) c ≡ d))
    → ((d : ℕ) → Stays (suc d) inner (suc d)) → IsClosed (o ∷ (inner ++ c ∷ []))
in_brackets o c inner opening closing stays d =
    ((opening d).0, subst (λ m. Stays m (inner ++ c ∷ []) d) (sym (opening d).1) (stays_on inner (c ∷ []) (suc d) (suc d) d (stays d) ((closing d).0, (closing d).1)))

less_one : (d : ℕ) → suc d - 1 ≡ d
less_one d = omega arith

not_none : (d : ℕ) → (suc d == 0) ≡ false
not_none d = grind (arith, nat_tests)

comma_stays : (d : ℕ) → Stays (suc d) (44 ∷ []) (suc d)
comma_stays d = (not_none d, refl)

joined_stays : (d : ℕ) (begun : Bool) (xs : List (List ℕ)) → AllByRecursion IsClosed xs → Stays (suc d) (with_commas begun xs) (suc d)
joined_stays d begun [] cs = refl
joined_stays d true (x ∷ xs) cs =
    stays_on (44 ∷ x) (with_commas true xs) (suc d) (suc d) (suc d) (stays_on (44 ∷ []) x (suc d) (suc d) (suc d) (comma_stays d) (cs.0 (suc d))) (joined_stays d true xs cs.1)
joined_stays d false (x ∷ xs) cs = stays_on x (with_commas true xs) (suc d) (suc d) (suc d) (cs.0 (suc d)) (joined_stays d true xs cs.1)

pair_back : (left right : List ℕ → Option Value) (x y : List ℕ) (v w : Value) → IsClosed x → left x ≡ Some v → right y ≡ Some w
    → text_pair left right ((x ++ 44 ∷ []) ++ y) ≡ Some (value.Pair v w)
pair_back left right x y v w closed l r = subst (λ t. text_pair left right t ≡ Some (value.Pair v w)) (sym (append_assoc x (44 ∷ []) y)) whole
  where
    size : piece_end 0 (x ++ 44 ∷ y) ≡ length x
    size = end_passes x (44 ∷ y) 0 0 (closed 0) ∙ none_behind (length x)

    longer : length x < length (x ++ 44 ∷ y)
    longer = subst (λ n. length x < n) (sym (length-append x (44 ∷ y))) (more (length x) (length y))

    later : drop (length x + 1) (x ++ 44 ∷ y) ≡ y
    later = ap (λ t. drop (length x + 1) t) (sym (append_assoc x (44 ∷ []) y)) ∙ drop_at (x ++ 44 ∷ []) y (length x + 1) (length-append x (44 ∷ []))

    whole : text_pair left right (x ++ 44 ∷ y) ≡ Some (value.Pair v w)
    whole = rw (size, lt-ltb (length x) (length (x ++ 44 ∷ y)) longer, take_at x (44 ∷ y) (length x) refl, l, later, r) refl

-- SETS

members_filled : (read : List ℕ → Option Value) (text : List ℕ) → Filled text → text_members read text ≡ text_values read (comma_pieces 0 text)
members_filled read [] f = absurd f
members_filled read (c ∷ cs) f = refl

-- EVERY TYPE

module _ (sizes : List (List ℕ × ℕ)) where
  record IsBack (t : Ty) (v : Value) : Type 0 where
    reads : text_value sizes t (value_text v) ≡ Some v
    closed : IsClosed (value_text v)
    some : Filled (value_text v)

  named_at : (x : Ty-F Ty) (t : Ty) → roll-Ty x ≡ t → has_identifiers t ≡ has_identifiers_step (map-Ty Ty Bool has_identifiers x)
  named_at x t e = ap has_identifiers (sym e) ∙ fold-roll-Ty Bool has_identifiers_step x

  written_at : (y : Value-F Value) (v : Value) → roll-Value y ≡ v → value_text v ≡ value_text_step (map-Value Value (List ℕ) value_text y)
  written_at y v e = ap value_text (sym e) ∙ fold-roll-Value (List ℕ) value_text_step y

  -- from the text of the value, and what is read of it
  back_by : (t : Ty) (v : Value) (text : List ℕ) → value_text v ≡ text → text_value sizes t text ≡ Some v → IsClosed text → Filled text → IsBack t v
  back_by t v text e r c f = record {
    reads = ap (text_value sizes t) e ∙ r;
    closed = subst IsClosed (sym e) c;
    some = subst Filled (sym e) f;
  }

  abbrev Goal : Ty → Type 0
  Goal t = has_identifiers t ≡ true → (v : Value) → is_value_of sizes t v ≡ true → IsBack t v

  -- a value by its shape
  shaped : (v : Value) (y : Value-F Value) → out-Value v ≡ y → roll-Value y ≡ v
  shaped v y e = ap roll-Value (sym e) ∙ view.roll-out-Value v

  int_back : Goal IntT
  int_back n v h = go (out-Value v) refl (sym (of_at sizes IntF IntT rolls-Int v) ∙ h)
    where
      go : (y : Value-F Value) → out-Value v ≡ y → is_number_at y ≡ true → IsBack IntT v
      go (Int k) e f =
          let is : value.Int k ≡ v = sym (view.rolls-Int k) ∙ shaped v (Int k) e in
          back_by IntT v (signed_decimal k) (written_at (Int k) v (shaped v (Int k) e))
          (text_at sizes IntF IntT rolls-Int (signed_decimal k) ∙ ap (option_map value.Int) (number_back k f) ∙ ap Some is) (number_closed k f) (number_filled k f)
      go (Truth b) e f = cc
      go (Elem s k) e f = cc
      go (Pair a b) e f = cc
      go (Set vs) e f = cc

  truth_text_back : (b : Bool) → text_truth (truth_text b) ≡ Some (value.Truth b)
  truth_text_back true = refl
  truth_text_back false = refl

  letter_plain : (c : ℕ) → is_in_word c ≡ true → IsPlain c
  letter_plain = plain_by is_in_word refl refl refl refl refl

  truth_closed : (b : Bool) → IsClosed (truth_text b)
  truth_closed true = stays_plain (codes "TRUE") (all_plain is_in_word letter_plain (codes "TRUE") refl)
  truth_closed false = stays_plain (codes "FALSE") (all_plain is_in_word letter_plain (codes "FALSE") refl)

  truth_filled : (b : Bool) → Filled (truth_text b)
  truth_filled true = tt
  truth_filled false = tt

  truth_back : (t : Ty) → ((text : List ℕ) → text_value sizes t text ≡ text_truth text) → (v : Value) → is_truth_value_at (out-Value v) ≡ true → IsBack t v
  truth_back t reads v h = go (out-Value v) refl h
    where
      go : (y : Value-F Value) → out-Value v ≡ y → is_truth_value_at y ≡ true → IsBack t v
      go (Int k) e f = cc
      go (Truth b) e f =
          let is : value.Truth b ≡ v = sym (view.rolls-Truth b) ∙ shaped v (Truth b) e in
          back_by t v (truth_text b) (written_at (Truth b) v (shaped v (Truth b) e)) (reads (truth_text b) ∙ truth_text_back b ∙ ap Some is) (truth_closed b) (truth_filled b)
      go (Elem s k) e f = cc
      go (Pair a b) e f = cc
      go (Set vs) e f = cc

  word_plain : (set : List ℕ) → is_identifier set ≡ true → AllByRecursion IsPlain set
  word_plain [] h = cc
  word_plain (c ∷ cs) h =
      let word : is_word (c ∷ cs) ≡ true = first_true (is_word (c ∷ cs)) _ h in
      let letters : (starts_word c && list_all is_in_word cs) ≡ true = first_true (starts_word c && list_all is_in_word cs) _ word in (
        plain_by starts_word refl refl refl refl refl c (first_true (starts_word c) (list_all is_in_word cs) letters),
        all_plain is_in_word letter_plain cs (second_true (starts_word c) (list_all is_in_word cs) letters),
      )

  word_filled : (set : List ℕ) → is_identifier set ≡ true → Filled set
  word_filled [] h = cc
  word_filled (c ∷ cs) h = tt

  number_back_in : (set : List ℕ) (size k : ℕ) → k < 2 ^ 32 → k < size → text_element_number set size (element_text set k) ≡ Some k
  number_back_in set size k narrow less =
      ap (λ o. option_and_then (λ ds. number_below size (text_digits ds)) (option_and_then (text_behind (codes "#")) o))
      (behind_front set (35 ∷ decimal k) (element_text set k) (append_assoc set (35 ∷ []) (decimal k)))
      ∙ ap (option_and_then (λ ds. number_below size (text_digits ds))) (behind_front (35 ∷ []) (decimal k) (35 ∷ decimal k) refl)
      ∙ ap (number_below size) (value_of_digits k (decimal k) (decimal_writes k (omega (arith, narrow)))) ∙ below_bound size k less

  element_closed : (set : List ℕ) (k : ℕ) → is_identifier set ≡ true → k < 2 ^ 32 → IsClosed (element_text set k)
  element_closed set k name narrow d =
      stays_on (set ++ 35 ∷ []) (decimal k) d d d
      (stays_on set (35 ∷ []) d d d (stays_plain set (word_plain set name) d) (stays_plain (35 ∷ []) (plain_unless 35 refl refl refl refl refl, tt) d))
      (decimal_closed k (omega (arith, narrow)) d)

  given_back : (name : List ℕ) → Goal (GivenT name)
  given_back name n v h = go (out-Value v) refl (sym (of_at sizes (GivenF name) (GivenT name) (rolls-Given name) v) ∙ h)
    where
      is_named : is_identifier name ≡ true
      is_named = sym (named_at (GivenF name) (GivenT name) (rolls-Given name)) ∙ n

      by_size : (set : List ℕ) (k : ℕ) → (v ≡ value.Elem name k) → value_text v ≡ element_text name k → k < 2 ^ 32 → (o : Option ℕ)
          → lookup (bytes_eq name) sizes ≡ o → option_map_or (λ size. nat_lt k size) o false ≡ true → IsBack (GivenT name) v
      by_size set k is text narrow None e f = cc
      by_size set k is text narrow (Some size) e f =
          back_by (GivenT name) v (element_text name k) text
          (text_at sizes (GivenF name) (GivenT name) (rolls-Given name) (element_text name k)
          ∙ ap (option_and_then (λ s. option_map (value.Elem name) (text_element_number name s (element_text name k)))) e
          ∙ ap (option_map (value.Elem name)) (number_back_in name size k narrow (ltb-true k size f)) ∙ ap Some (sym is))
          (element_closed name k is_named narrow)
          (filled_on (name ++ 35 ∷ []) (decimal k) (filled_on name (35 ∷ []) (word_filled name is_named)))

      go : (y : Value-F Value) → out-Value v ≡ y → is_element_at sizes name y ≡ true → IsBack (GivenT name) v
      go (Int k) e f = cc
      go (Truth b) e f = cc
      go (Elem s k) e f =
          let both : (bytes_eq s name && nat_lt k (2 ^ 32)) ≡ true = first_true (bytes_eq s name && nat_lt k (2 ^ 32)) _ f in
          let same : s ≡ name = same_text s name (sym (first_true (bytes_eq s name) (nat_lt k (2 ^ 32)) both)) in
          let is : v ≡ value.Elem s k = sym (shaped v (Elem s k) e) ∙ view.rolls-Elem s k in
          by_size s k (is ∙ ap (λ z. value.Elem z k) same) (written_at (Elem s k) v (shaped v (Elem s k) e) ∙ ap (λ z. element_text z k) same)
          (ltb-true k (2 ^ 32) (second_true (bytes_eq s name) (nat_lt k (2 ^ 32)) both)) (lookup (bytes_eq name) sizes) refl
          (second_true (bytes_eq s name && nat_lt k (2 ^ 32)) _ f)
      go (Pair a b) e f = cc
      go (Set vs) e f = cc

  pair_goal : (t u : Ty) → Goal t → Goal u → Goal (PairT t u)
  pair_goal t u left right n v h = go (out-Value v) refl (sym (of_at sizes (PairF t u) (PairT t u) (rolls-Pair t u) v) ∙ h)
    where
      named : (has_identifiers t && has_identifiers u) ≡ true
      named = sym (named_at (PairF t u) (PairT t u) (rolls-Pair t u)) ∙ n

      go : (y : Value-F Value) → out-Value v ≡ y → is_pair_at (is_value_of sizes t) (is_value_of sizes u) y ≡ true → IsBack (PairT t u) v
      go (Int k) e f = cc
      go (Truth b) e f = cc
      go (Elem s k) e f = cc
      go (Pair a b) e f =
          let l = left (first_true (has_identifiers t) (has_identifiers u) named) a (first_true (is_value_of sizes t a) (is_value_of sizes u b) f) in
          let r = right (second_true (has_identifiers t) (has_identifiers u) named) b (second_true (is_value_of sizes t a) (is_value_of sizes u b) f) in
          let is : value.Pair a b ≡ v = sym (view.rolls-Pair a b) ∙ shaped v (Pair a b) e in
          let inner : List ℕ = (value_text a ++ 44 ∷ []) ++ value_text b in
          back_by (PairT t u) v (40 ∷ (inner ++ 41 ∷ [])) (written_at (Pair a b) v (shaped v (Pair a b) e))
          (text_at sizes (PairF t u) (PairT t u) (rolls-Pair t u) (40 ∷ (inner ++ 41 ∷ []))
          ∙ ap (option_and_then (text_pair (text_value sizes t) (text_value sizes u))) (inside_of 40 41 inner)
          ∙ pair_back (text_value sizes t) (text_value sizes u) (value_text a) (value_text b) a b l.closed l.reads r.reads ∙ ap Some is)
          (in_brackets 40 41 inner (λ d. (refl, refl)) (λ d. (refl, less_one d))
          (λ d. stays_on (value_text a ++ 44 ∷ []) (value_text b) (suc d) (suc d) (suc d)
          (stays_on (value_text a) (44 ∷ []) (suc d) (suc d) (suc d) (l.closed (suc d)) (comma_stays d)) (r.closed (suc d))))
          tt
      go (Set vs) e f = cc

  module _ (t : Ty) (member : (v : Value) → is_value_of sizes t v ≡ true → IsBack t v) where
    all_closed : (vs : List Value) → list_all (is_value_of sizes t) vs ≡ true → AllByRecursion IsClosed (map value_text vs)
    all_closed [] h = tt
    all_closed (v ∷ vs) h =
        ((member v (first_true (is_value_of sizes t v) (list_all (is_value_of sizes t) vs) h)).closed, all_closed vs (second_true (is_value_of sizes t v) (list_all (is_value_of sizes t) vs) h))

    all_read : (vs : List Value) → list_all (is_value_of sizes t) vs ≡ true → text_values (text_value sizes t) (map value_text vs) ≡ Some vs
    all_read [] h = refl
    all_read (v ∷ vs) h =
        let one = member v (first_true (is_value_of sizes t v) (list_all (is_value_of sizes t) vs) h) in
        let more = all_read vs (second_true (is_value_of sizes t v) (list_all (is_value_of sizes t) vs) h) in
        rw (one.reads, more) refl

    members_back : (vs : List Value) → list_all (is_value_of sizes t) vs ≡ true → text_members (text_value sizes t) (with_commas false (map value_text vs)) ≡ Some vs
    members_back [] h = refl
    members_back (v ∷ vs) h =
        let one = member v (first_true (is_value_of sizes t v) (list_all (is_value_of sizes t) vs) h) in
        members_filled (text_value sizes t) (value_text v ++ with_commas true (map value_text vs)) (filled_on (value_text v) (with_commas true (map value_text vs)) one.some)
        ∙ ap (text_values (text_value sizes t)) (joined_pieces (value_text v) (map value_text vs) one.closed (all_closed vs (second_true (is_value_of sizes t v) (list_all (is_value_of sizes t) vs) h)))
        ∙ all_read (v ∷ vs) h

    set_back : (vs : List Value) → list_all (is_value_of sizes t) vs ≡ true → ascends vs ≡ true
        → text_set (text_value sizes t) (with_commas false (map value_text vs)) ≡ Some (value.Set vs)
    set_back vs h up = ap (option_map (λ us. value.Set (ascending us))) (members_back vs h) ∙ ap (λ us. Some (value.Set us)) (ascending_same vs up)

  pow_goal : (t : Ty) → Goal t → Goal (PowT t)
  pow_goal t member n v h = go (out-Value v) refl (sym (of_at sizes (PowF t) (PowT t) (rolls-Pow t) v) ∙ h)
    where
      each : (w : Value) → is_value_of sizes t w ≡ true → IsBack t w
      each = member (sym (named_at (PowF t) (PowT t) (rolls-Pow t)) ∙ n)

      go : (y : Value-F Value) → out-Value v ≡ y → is_set_at (is_value_of sizes t) y ≡ true → IsBack (PowT t) v
      go (Int k) e f = cc
      go (Truth b) e f = cc
      go (Elem s k) e f = cc
      go (Pair a b) e f = cc
      go (Set vs) e f =
          let are : list_all (is_value_of sizes t) vs ≡ true = first_true (list_all (is_value_of sizes t) vs) (ascends vs) f in
          let is : value.Set vs ≡ v = sym (view.rolls-Set vs) ∙ shaped v (Set vs) e in
          let inner : List ℕ = with_commas false (map value_text vs) in
          back_by (PowT t) v (123 ∷ (inner ++ 125 ∷ [])) (written_at (Set vs) v (shaped v (Set vs) e))
          (text_at sizes (PowF t) (PowT t) (rolls-Pow t) (123 ∷ (inner ++ 125 ∷ []))
          ∙ ap (option_and_then (text_set (text_value sizes t))) (inside_of 123 125 inner)
          ∙ set_back t each vs are (second_true (list_all (is_value_of sizes t) vs) (ascends vs) f) ∙ ap Some is)
          (in_brackets 123 125 inner (λ d. (refl, refl)) (λ d. (refl, less_one d)) (λ d. joined_stays d false (map value_text vs) (all_closed t each vs are)))
          tt

  every_back : (t : Ty) → Goal t
  every_back = type_induction Goal int_back
      (λ n v h. truth_back BoolT (λ text. text_at sizes BoolF BoolT rolls-Bool text) v (sym (of_at sizes BoolF BoolT rolls-Bool v) ∙ h))
      given_back pow_goal pair_goal
      (λ n v h. truth_back TruthT (λ text. text_at sizes TruthF TruthT rolls-Truth text) v (sym (of_at sizes TruthF TruthT rolls-Truth v) ∙ h))

small_enough : (v : Value) (o : Option Value) → o ≡ Some v → value_nodes v ≤ most_nodes → unless_large o ≡ Some v
small_enough v o e small = ap unless_large e ∙ rw (le-leb (value_nodes v) most_nodes small) refl

pub printed_reads : (sizes : List (List ℕ × ℕ)) (t : Ty) (v : Value) → has_identifiers t ≡ true → is_value_of sizes t v ≡ true → value_nodes v ≤ most_nodes
    → read_as sizes t (value_text v) ≡ Some v
printed_reads sizes t v n h small = small_enough v (text_value sizes t (value_text v)) (every_back sizes t n v h).reads small
