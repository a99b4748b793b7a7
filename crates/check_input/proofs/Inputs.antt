-- Inputs.
use Rattle.std.proofs.Common.{◌≡◌, ◌∙◌, ap, refl, sym, ℕ, Bool, true, false, cond, ◌==◌, List, [], ◌∷◌, length, Option, Some, None, Result, Ok, Err, inl, inr, arith}
use Rattle.std.specs.Str.{is_utf8}
use Rattle.std.proofs.lemmas.Bool.Decides.{nat_tests}
use Rattle.std.proofs.lemmas.Str.{IsUtf8-from_is_utf8, is_utf8-from_IsUtf8}
use Rattle.check_input.specs.declared.input.InputFault.{InputFault}
use Rattle.check_input.specs.declared.input.InputFault.TheVariants as fault
use Rattle.check_input.specs.Headings.{is_blank_text}
use Rattle.check_input.specs.Inputs.{Component, Numbered, first_fault, without_fault, made_of, input_parts, IsInput}
use Rattle.check_input.specs.Laws.{HasOneInput}
use Rattle.check_input.specs.PrivateParts.{validated, outcome}

-- ---- what a text is that isn't blank
some_parts : (parts : List Numbered) (found : List Component) → (length found ≡ 0 → ⊥) → validated parts ≡ Ok found → made_of parts ≡ Ok found
some_parts [] [] some h = absurd (some refl)
some_parts [] (p ∷ found) some h = cc
some_parts (q ∷ parts) found some h = h

no_such_parts : (parts : List Numbered) (o : Option InputFault) (q : Numbered) → without_fault (q ∷ parts) o ≡ Ok [] → ⊥
no_such_parts parts None q h = cc
no_such_parts parts (Some f) q h = cc

no_parts : (parts : List Numbered) (found : List Component) → length found ≡ 0 → validated parts ≡ Ok found → made_of parts ≡ Err fault.NoHeading
no_parts [] found none h = refl
no_parts (q ∷ parts) [] none h = absurd (no_such_parts parts (first_fault [] (q ∷ parts)) q h)
no_parts (q ∷ parts) (p ∷ found) none h = absurd (omega arith)

a_fault : (parts : List Numbered) (f : InputFault) → validated parts ≡ Err f → made_of parts ≡ Err f
a_fault [] f h = cc
a_fault (q ∷ parts) f h = h

module _ (text : List ℕ) (written : is_blank_text text ≡ false) where
  as_parts : outcome text ≡ made_of (input_parts text)
  as_parts = ap (λ b. cond b (Ok []) (made_of (input_parts text))) written

  pub some_outcome : (found : List Component) (n : ℕ) → n ≡ length found → false ≡ (n == 0) → validated (input_parts text) ≡ Ok found → outcome text ≡ Ok found
  some_outcome found n is some h = as_parts ∙ some_parts (input_parts text) found (λ none. grind (arith, nat_tests)) h

  pub no_heading : (found : List Component) (n : ℕ) → n ≡ length found → true ≡ (n == 0) → validated (input_parts text) ≡ Ok found → outcome text ≡ Err fault.NoHeading
  no_heading found n is none h = as_parts ∙ no_parts (input_parts text) found (grind (arith, nat_tests)) h

  pub outcome_fault : (f : InputFault) → validated (input_parts text) ≡ Err f → outcome text ≡ Err f
  outcome_fault f h = as_parts ∙ a_fault (input_parts text) f h

-- ---- bytes are one input
one_of : (bytes : List ℕ) (b : Bool) → is_utf8 bytes ≡ b → (input : Result (List Component) InputFault) × IsInput bytes input
one_of bytes true e = (outcome bytes, inr (IsUtf8-from_is_utf8 bytes e, refl))
one_of bytes false e =
    (Err fault.NotUtf8, inl ((λ u. let never : true ≡ false = sym (is_utf8-from_IsUtf8 bytes u) ∙ e in cc), refl))

same_input : (bytes : List ℕ) (one two : Result (List Component) InputFault) → IsInput bytes one → IsInput bytes two → two ≡ one
same_input bytes one two a b = elim a [
  | inl bad ↦ elim b [ inl worse ↦ worse.1 ∙ sym bad.1 | inr good ↦ absurd (bad.0 good.0) ]
  | inr fine ↦ elim b [ inl bad ↦ absurd (bad.0 fine.0) | inr good ↦ good.1 ∙ sym fine.1 ]
]

pub has_one_input : HasOneInput
has_one_input bytes =
    let one = one_of bytes (is_utf8 bytes) refl in
    (one.0, one.1, λ other h. same_input bytes one.0 other one.1 h)
