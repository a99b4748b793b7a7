-- Identifiers and texts.
use Rattle.std.proofs.Common.{◌≡◌, ◌∙◌, ap, ℕ, zero, suc, ◌-◌, List, [], ◌∷◌, Bool, true, false, not, ◌&&◌, cond, length, take, drop, refl, sym, arith, nat_le, bytes_eq}
use Rattle.std.specs.List.{list_all}
use Rattle.std.specs.Str.{IsUtf8, is_utf8}
use Rattle.std.proofs.lemmas.Str.{IsUtf8-from_is_utf8, is_utf8-from_IsUtf8}
use Rattle.std.proofs.lemmas.Bool.Decides.{nat_tests}
use Rattle.std.proofs.lemmas.List.{take-append-drop}
use Rattle.std.proofs.lemmas.List.Folds.{list_all-append}
use Rattle.std.proofs.lemmas.Slice.Eq.{bytes_eq-Decides}
use Rattle.formula_core.specs.Names.{is_name, is_identifier, is_word, is_reserved, starts_word, is_in_word, prime}

both : (a b : Bool) → (a && b) ≡ true → (a ≡ true) × (b ≡ true)
both true b h = (refl, h)
both false b h = cc

start_in_word : (c : ℕ) → starts_word c ≡ true → is_in_word c ≡ true
start_in_word c h = grind (arith, nat_tests)

all_in_word : (w : List ℕ) → is_word w ≡ true → list_all is_in_word w ≡ true
all_in_word [] h = refl
all_in_word (c ∷ cs) h =
    let two = both (starts_word c) (list_all is_in_word cs) (both (starts_word c && list_all is_in_word cs) (nat_le (length cs) 63) h).0 in
    ap (λ b. b && list_all is_in_word cs) (start_in_word c two.0) ∙ two.1

word_of : (w : List ℕ) → is_identifier w ≡ true → is_word w ≡ true
word_of w h = (both (is_word w) (not (is_reserved w)) h).0

all_behind : (p : ℕ → Bool) (text : List ℕ) (n : ℕ) → list_all p text ≡ true → list_all p (drop n text) ≡ true
all_behind p text n h =
    (both (list_all p (take n text)) (list_all p (drop n text)) (sym (list_all-append p (take n text) (drop n text)) ∙ (ap (list_all p) (take-append-drop n text) ∙ h))).1

no_prime : (word : List ℕ) (b : Bool) → is_word word ≡ true → bytes_eq (drop (length word - 1) word) (prime ∷ []) ≡ b → b ≡ false
no_prime word true h e =
    let last : drop (length word - 1) word ≡ prime ∷ [] = (bytes_eq-Decides (drop (length word - 1) word) (prime ∷ [])).0 e in
    let all : list_all is_in_word (drop (length word - 1) word) ≡ true = all_behind is_in_word word (length word - 1) (all_in_word word h) in
    let never : list_all is_in_word (prime ∷ []) ≡ true = sym (ap (list_all is_in_word) last) ∙ all in
    sym never
no_prime word false h e = refl

-- an identifier is a name
pub name_too : (word : List ℕ) → is_identifier word ≡ true → is_name word ≡ true
name_too word h =
    ap (λ b. is_identifier (cond b (take (length word - 1) word) word)) (no_prime word (bytes_eq (drop (length word - 1) word) (prime ∷ [])) (word_of word h) refl) ∙ h

-- bytes that aren't UTF-8
pub no_text : (bytes : List ℕ) → (IsUtf8 bytes → ⊥) → is_utf8 bytes ≡ false
no_text bytes h = by (is_utf8 bytes) refl where
  by : (b : Bool) → is_utf8 bytes ≡ b → b ≡ false
  by true e = absurd (h (IsUtf8-from_is_utf8 bytes e))
  by false e = refl

pub is_text : (bytes : List ℕ) → IsUtf8 bytes → is_utf8 bytes ≡ true
is_text bytes h = is_utf8-from_IsUtf8 bytes h
