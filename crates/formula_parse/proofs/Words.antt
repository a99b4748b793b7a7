-- Names are ASCII.
use Rattle.std.proofs.Common.{◌≡◌, ℕ, zero, suc, ◌<◌, ◌-◌, List, [], ◌∷◌, ◌++◌, Bool, true, false, not, ◌&&◌, cond, length, take, drop, refl, sym, subst, arith, nat_le}
use Rattle.std.specs.Prelude.{bytes_eq}
use Rattle.std.specs.List.{list_all}
use Rattle.std.specs.Str.{IsAscii, IsUtf8}
use Rattle.std.proofs.lemmas.Str.{IsUtf8-from_ascii}
use Rattle.std.proofs.lemmas.Bool.Decides.{nat_tests}
use Rattle.std.proofs.lemmas.List.{take-append-drop}
use Rattle.std.proofs.lemmas.Slice.Eq.{bytes_eq-Decides}
use Rattle.formula_core.specs.Names.{is_name, is_identifier, is_word, is_reserved, starts_word, is_in_word}
use Rattle.formula_parse.proofs.Basics.{both}

in_word_low : (c : ℕ) → is_in_word c ≡ true → c < 128
in_word_low c h = grind (arith, nat_tests)

start_low : (c : ℕ) → starts_word c ≡ true → c < 128
start_low c h = grind (arith, nat_tests)

ascii-cons : (c : ℕ) (cs : List ℕ) → c < 128 → IsAscii cs → IsAscii (c ∷ cs)
ascii-cons c cs h a zero = h
ascii-cons c cs h a (suc i) = a i

ascii-nil : IsAscii []
ascii-nil zero = omega arith
ascii-nil (suc i) = omega arith

ascii-append : (xs ys : List ℕ) → IsAscii xs → IsAscii ys → IsAscii (xs ++ ys)
ascii-append [] ys a b = b
ascii-append (x ∷ xs) ys a b = ascii-cons x (xs ++ ys) (a zero) (ascii-append xs ys (λ i. a (suc i)) b)

all_ascii : (cs : List ℕ) → list_all is_in_word cs ≡ true → IsAscii cs
all_ascii [] h = ascii-nil
all_ascii (c ∷ cs) h = ascii-cons c cs (in_word_low c (both (is_in_word c) (list_all is_in_word cs) h).0) (all_ascii cs (both (is_in_word c) (list_all is_in_word cs) h).1)

word_ascii : (w : List ℕ) → is_word w ≡ true → IsAscii w
word_ascii [] h = cc
word_ascii (c ∷ cs) h =
    let first = (both (starts_word c && list_all is_in_word cs) (nat_le (length cs) 63) h).0 in
    let two = both (starts_word c) (list_all is_in_word cs) first in
    ascii-cons c cs (start_low c two.0) (all_ascii cs two.1)

identifier_ascii : (w : List ℕ) → is_identifier w ≡ true → IsAscii w
identifier_ascii w h = word_ascii w (both (is_word w) (not (is_reserved w)) h).0

name_ascii : (w : List ℕ) → is_name w ≡ true → IsAscii w
name_ascii w h = go (bytes_eq (drop (length w - 1) w) (39 ∷ [])) refl h
  where
    go : (v : Bool) → bytes_eq (drop (length w - 1) w) (39 ∷ []) ≡ v → is_identifier (cond v (take (length w - 1) w) w) ≡ true → IsAscii w
    go true e h =
        let end : drop (length w - 1) w ≡ 39 ∷ [] = (bytes_eq-Decides (drop (length w - 1) w) (39 ∷ [])).0 e in
        let last : IsAscii (drop (length w - 1) w) = subst IsAscii (sym end) (ascii-cons 39 [] (omega arith) ascii-nil) in
        subst IsAscii (take-append-drop (length w - 1) w) (ascii-append (take (length w - 1) w) (drop (length w - 1) w) (identifier_ascii (take (length w - 1) w) h) last)
    go false e h = identifier_ascii w h

-- what isn't UTF-8 is no name
pub no_name : (w : List ℕ) → (IsUtf8 w → ⊥) → is_name w ≡ false
no_name w h = go (is_name w) refl
  where
    go : (v : Bool) → is_name w ≡ v → v ≡ false
    go true e = absurd (h (IsUtf8-from_ascii w (name_ascii w e)))
    go false e = refl
