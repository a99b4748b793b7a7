-- A name is short, and UTF-8.
use Rattle.std.proofs.Common.{◌≡◌, ◌∙◌, sym, ap, subst, refl, ℕ, zero, suc, ◌-◌, ◌≤◌, ◌<◌, Bool, true, false, ◌&&◌, List, [], ◌∷◌, ◌++◌, take, drop, length, length-append, arith}
use Rattle.std.specs.Prelude.{bytes_eq, nat_le, if◌then◌else◌}
use Rattle.std.specs.List.{list_all}
use Rattle.std.specs.Str.{IsAscii}
use Rattle.std.specs.Cmp.Lexicographic.{same_text}
use Rattle.std.proofs.lemmas.Bool.{leb-true}
use Rattle.std.proofs.lemmas.Bool.Decides.{nat_tests}
use Rattle.std.proofs.lemmas.List.{take-append-drop}
use Rattle.std.proofs.lemmas.Str.{IsUtf8-from_ascii, is_utf8-from_IsUtf8}
use Rattle.formula_core.specs.Names.{prime, is_in_word, starts_word, is_word, is_identifier, is_name}
use Rattle.formula_core.proofs.Weakening.{first_true, second_true}
use Rattle.proof_codec.specs.declared.reader.ReadFault.{ReadFault}
use Rattle.proof_codec.specs.declared.reader.ReadFault.TheVariants as faults
use Rattle.proof_codec.specs.Forms.{BeginsNone}
use Rattle.proof_codec.specs.Private.{IsReadAs, Misses}
use Rattle.proof_codec.specs.Numbers.{IsText, text_bytes}
use Rattle.proof_codec.specs.Names.{IsGoodName}

is_low : ℕ → Bool
is_low c = nat_le c 127

in_word_low : (c : ℕ) → is_in_word c ≡ true → c < 128
in_word_low c h = grind (arith, nat_tests)

starts_low : (c : ℕ) → starts_word c ≡ true → c < 128
starts_low c h = grind (arith, nat_tests)

low_behind : (cs : List ℕ) → list_all is_in_word cs ≡ true → IsAscii cs
low_behind [] h zero = omega arith
low_behind [] h (suc i) = omega arith
low_behind (c ∷ cs) h zero = in_word_low c (first_true (is_in_word c) _ h)
low_behind (c ∷ cs) h (suc i) = low_behind cs (second_true (is_in_word c) _ h) i

word_low : (xs : List ℕ) → is_word xs ≡ true → IsAscii xs × (length xs ≤ 64)
word_low [] h = absurd cc
word_low (c ∷ cs) h =
    let k : (starts_word c && list_all is_in_word cs) ≡ true = first_true _ _ h in
    let long : length cs ≤ 63 = leb-true _ _ (second_true (starts_word c && list_all is_in_word cs) _ h) in
    (elim [ zero ↦ starts_low c (first_true _ _ k) | suc i ↦ low_behind cs (second_true (starts_word c) _ k) i ], omega (arith, long))

low_primed : (xs : List ℕ) → IsAscii xs → IsAscii (xs ++ prime ∷ [])
low_primed [] low zero = omega arith
low_primed [] low (suc zero) = omega arith
low_primed [] low (suc (suc i)) = omega arith
low_primed (x ∷ xs) low zero = low zero
low_primed (x ∷ xs) low (suc i) = low_primed xs (λ j. low (suc j)) i

name_parts : (xs : List ℕ) (b : Bool) → bytes_eq (drop (length xs - 1) xs) (prime ∷ []) ≡ b → is_identifier (if b then take (length xs - 1) xs else xs) ≡ true
    → IsAscii xs × (length xs ≤ 65)
name_parts xs true e h =
    let front : List ℕ = take (length xs - 1) xs in
    let back : drop (length xs - 1) xs ≡ prime ∷ [] = same_text _ _ (sym e) in
    let whole : front ++ prime ∷ [] ≡ xs = ap (λ ys. front ++ ys) (sym back) ∙ take-append-drop (length xs - 1) xs in
    let word = word_low front (first_true _ _ h) in (
      subst IsAscii whole (low_primed front word.0),
      subst (λ ys. length ys ≤ 65) whole (omega (arith, length-append front (prime ∷ []), word.1)),
    )
name_parts xs false e h = let word = word_low xs (first_true _ _ h) in (word.0, omega (arith, word.1))

pub name_is_text : (name : List ℕ) → IsGoodName name → IsText 65 name
name_is_text name is =
    let parts = name_parts name (bytes_eq (drop (length name - 1) name) (prime ∷ [])) refl is in
    (is_utf8-from_IsUtf8 name (IsUtf8-from_ascii name parts.0), parts.1)

-- what is read as a text is read as a name, or isn't one
pub name_read : (old text new : List ℕ) → IsReadAs (IsText 65) text_bytes old text new → IsGoodName text → IsReadAs IsGoodName text_bytes old text new
name_read old text new read is = record {
  here = record { good = is; split = read.here.split };
  only = λ other others begins. read.only other others (record { good = name_is_text other begins.good; split = begins.split });
}

pub no_name : (old text new : List ℕ) → IsReadAs (IsText 65) text_bytes old text new → is_name text ≡ false → BeginsNone IsGoodName text_bytes old
no_name old text new read bad = record {
  none = λ other others begins.
      let same = read.only other others (record { good = name_is_text other begins.good; split = begins.split }) in
      let is : is_name text ≡ true = subst IsGoodName same.0 begins.good in cc;
}

pub no_text_no_name : (fault : ReadFault) (old : List ℕ) → Misses (IsText 65) text_bytes old fault → Misses IsGoodName text_bytes old fault
no_text_no_name faults.Bad old bad = record { none = λ other others begins. bad.none other others (record { good = name_is_text other begins.good; split = begins.split }) }
no_text_no_name faults.OutOfMemory old bad = tt

pub is_true : (b : Bool) → (b ≡ false → ⊥) → b ≡ true
is_true true never = refl
is_true false never = absurd (never refl)
