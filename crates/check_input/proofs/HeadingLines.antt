-- Heading lines and their names.
use Rattle.std.proofs.Common.{◌≡◌, ◌∙◌, ap, refl, sym, ℕ, ◌<◌, Bool, true, false, not, ◌&&◌, cond, nat_lt, List, length, take, drop, min, ◌≤◌, nat_le, Option, Some, None, arith}
use Rattle.std.proofs.lemmas.Bool.Decides.{nat_tests}
use Rattle.std.proofs.lemmas.List.{take_all, drop_all}
use Rattle.std.specs.List.{take_while}
use Rattle.formula_core.specs.Names.{is_identifier, is_in_word}
use Rattle.check_input.proofs.Texts.{both}
use Rattle.check_input.specs.Headings.{past_blanks, goes_on_with_prime, name_in_front, is_heading_word, heading_of}

chosen : (b : Bool) (o : Option (List ℕ)) (name : List ℕ) → cond b o None ≡ Some name → (b ≡ true) × (o ≡ Some name)
chosen true o name h = (refl, h)
chosen false o name h = cc

same_name : (x y : List ℕ) → Some x ≡ Some y → x ≡ y
same_name x y h = cc

front_is_identifier : (text name : List ℕ) → name_in_front text ≡ Some name → is_identifier name ≡ true
front_is_identifier text name h =
    let word = take_while is_in_word text in
    let behind = goes_on_with_prime (drop (length word) text) in
    let there = chosen (is_identifier word && not behind) (Some word) name h in
    ap is_identifier (sym (same_name word name there.1)) ∙ (both (is_identifier word) (not behind) there.0).0

pub heading_is_identifier : (line name : List ℕ) → heading_of line ≡ Some name → is_identifier name ≡ true
heading_is_identifier line name h =
    let behind = past_blanks (drop 7 line) in
    front_is_identifier behind name
    (chosen (is_heading_word (take 7 line) && nat_lt (length behind) (length (drop 7 line))) (name_in_front behind) name h).1

pub cut_by : (line : List ℕ) (n m : ℕ) (b : Bool) → nat_le (length line) n ≡ b → m ≡ min (length line) n → (take m line ≡ take n line) × (drop m line ≡ drop n line)
cut_by line n m true e h =
    let short : length line ≤ n = grind (arith, nat_tests) in
    let whole : length line ≤ m = omega arith in
    (take_all m line whole ∙ sym (take_all n line short), drop_all m line whole ∙ sym (drop_all n line short))
cut_by line n m false e h =
    let long : n < length line = grind (arith, nat_tests) in
    let same : m ≡ n = omega arith in
    (ap (λ k. take k line) same, ap (λ k. drop k line) same)

-- a line that was cut behind its first seven bytes
pub heading_by : (line word rest behind : List ℕ) (m : ℕ) → m ≡ min (length line) 7 → word ≡ take m line → rest ≡ drop m line → behind ≡ past_blanks rest →
    heading_of line ≡ cond (is_heading_word word && nat_lt (length behind) (length rest)) (name_in_front behind) None
heading_by line word rest behind m at front back past =
    let cut = cut_by line 7 m (nat_le (length line) 7) refl at in
    let w : take 7 line ≡ word = sym (front ∙ cut.0) in
    let r : drop 7 line ≡ rest = sym (back ∙ cut.1) in
    let b : past_blanks (drop 7 line) ≡ behind = ap past_blanks r ∙ sym past in
    λ i. cond (is_heading_word (w i) && nat_lt (length (b i)) (length (r i))) (name_in_front (b i)) None

module _ (line word rest behind : List ℕ) (split : heading_of line ≡ cond (is_heading_word word && nat_lt (length behind) (length rest)) (name_in_front behind) None) where
  pub is_heading : (name : Option (List ℕ)) → is_heading_word word ≡ true → length behind < length rest → name ≡ name_in_front behind → name ≡ heading_of line
  is_heading name h less e = let blank : nat_lt (length behind) (length rest) ≡ true = grind (arith, nat_tests) in rw (split, h, blank) e

  pub has_no_blank : is_heading_word word ≡ true → length rest ≤ length behind → None ≡ heading_of line
  has_no_blank h most = let blank : nat_lt (length behind) (length rest) ≡ false = grind (arith, nat_tests) in rw (split, h, blank) refl

  pub has_no_word : is_heading_word word ≡ false → None ≡ heading_of line
  has_no_word h = rw (split, h) refl
