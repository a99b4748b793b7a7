-- No label and no identifier has a slash.
use Rattle.std.proofs.Common.{◌≡◌, ◌∙◌, sym, ap, subst, refl, ℕ, Bool, true, false, not, cond, ◌&&◌, List, [], ◌∷◌, take, drop, length, bytes_eq, ◌-◌}
use Rattle.std.specs.Prelude.{◌≢◌, nat_le}
use Rattle.std.specs.List.{list_all}
use Rattle.std.specs.Cmp.Lexicographic.{same_text}
use Rattle.std.proofs.lemmas.List.{take-append-drop}
use Rattle.type_formula.proofs.Named.{all_append}
use Rattle.formula_core.specs.Names.{prime, starts_word, is_in_word, is_word, is_reserved, unprimed}
use Rattle.formula_core.specs.Texts.{is_in_label}
use Rattle.name_laws.specs.Labels.{IsPlain}
use Rattle.name_laws.specs.Laws.{LabelsArePlain, NamesArePlain}
use Rattle.name_laws.proofs.Lists.{never}

pub left_of : (a b : Bool) → (a && b) ≡ true → a ≡ true
left_of true b e = refl
left_of false b e = never (sym e)

right_of : (a b : Bool) → (a && b) ≡ true → b ≡ true
right_of true b e = e
right_of false b e = never (sym e)

-- characters that pass a test, which the slash doesn't
tested_plain : (test : ℕ → Bool) → test 47 ≡ false → (text : List ℕ) → list_all test text ≡ true → IsPlain text
tested_plain test slash [] e = tt
tested_plain test slash (c ∷ cs) e = (
  (λ same. never (sym (left_of (test c) (list_all test cs) e) ∙ ap test same ∙ slash)),
  tested_plain test slash cs (right_of (test c) (list_all test cs) e),
)

pub labels_are_plain : LabelsArePlain
labels_are_plain text h = tested_plain is_in_label refl text (right_of (nat_le 1 (length text) && nat_le (length text) 64) (list_all is_in_label text) h)

pub word_plain : (word : List ℕ) → is_word word ≡ true → IsPlain word
word_plain [] e = tt
word_plain (c ∷ cs) e =
    let both = left_of (starts_word c && list_all is_in_word cs) (nat_le (length cs) 63) e in
    let slash : starts_word 47 ≡ false = refl in (
      (λ same. never (sym (left_of (starts_word c) (list_all is_in_word cs) both) ∙ ap starts_word same ∙ slash)),
      tested_plain is_in_word refl cs (right_of (starts_word c) (list_all is_in_word cs) both),
    )

no_prime : prime ≡ 47 → ⊥
no_prime same = cc

-- with its end, which is a prime or nothing
with_end : (n : ℕ) (text : List ℕ) (b : Bool) → bytes_eq (drop n text) (prime ∷ []) ≡ b → IsPlain (cond b (take n text) text) → IsPlain text
with_end n text true e k =
    let last : IsPlain (drop n text) = subst IsPlain (sym (same_text (drop n text) (prime ∷ []) (sym e))) (no_prime, tt) in
    subst IsPlain (take-append-drop n text) (all_append (λ c. c ≢ 47) (take n text) (drop n text) k last)
with_end n text false e k = k

pub names_are_plain : NamesArePlain
names_are_plain text h =
    with_end (length text - 1) text (bytes_eq (drop (length text - 1) text) (prime ∷ [])) refl
    (word_plain (unprimed text) (left_of (is_word (unprimed text)) (not (is_reserved (unprimed text))) h))
