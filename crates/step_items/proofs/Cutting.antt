-- Texts that are cut into tokens, and formulas of them.
use Rattle.std.proofs.Common.{◌≡◌, ℕ, ◌<◌, ◌^◌, Bool, true, false, List, [], ◌∷◌, length, take, drop, get_or, refl, sym, ap, ◌∙◌, subst, arith}
use Rattle.std.specs.Prelude.{Option, Some, None, Result, Ok, Err, IfOk, MatchOption}
use Rattle.std.specs.Str.{is_utf8}
use Rattle.formula_core.specs.declared.raw.Raw.{Raw}
use Rattle.math_tokens.specs.SignForms.{sign_forms}
use Rattle.math_tokens.specs.Texts.{Cut, Cuts}
use Rattle.math_tokens.specs.declared.cutting.Token.{Token}
use Rattle.math_tokens.specs.declared.cutting.TokenFault.{TokenFault}
use Rattle.math_tokens.specs.declared.cutting.TokenFault.TheVariants as fault
use Rattle.math_grammar.specs.declared.holes.Hole.{Hole}
use Rattle.math_grammar.specs.Tokens.{items_of}
use Rattle.formula_parse.specs.Limits.{IsSentence, FindsFormula}
use Rattle.formula_parse.specs.declared.fault.ParseFault.{ParseFault}
use Rattle.formula_parse.specs.declared.fault.ParseFault.TheVariants as parse
use Rattle.step_items.specs.Terms.{IsTermText}
use Rattle.step_items.proofs.OneWay.{tokens_in}

abbrev pub CutsOneWay : Type 0
CutsOneWay = (text : List ℕ) (first second : Result (List Token) TokenFault) → Cut sign_forms text 0 first → Cut sign_forms text 0 second → first ≡ second

abbrev is_ok : Result (List Token) TokenFault → Bool
is_ok (Ok tokens) = true
is_ok (Err fault) = false

-- a text with a fault has no tokens
pub no_tokens : CutsOneWay → (text : List ℕ) (fault : TokenFault) → Cut sign_forms text 0 (Err fault) → (tokens : List Token) → Cut sign_forms text 0 (Ok tokens) → ⊥
no_tokens law text fault bad tokens cut = let e : true ≡ false = ap is_ok (law text (Ok tokens) (Err fault) cut bad) in cc

-- what is read of the tokens is what is read of the bytes
pub term_by : {E : Type 0} → CutsOneWay → (h : Hole) (bytes text : List ℕ) (tokens seen : List Token) (answer : Result (Option Raw) E) →
    text ≡ bytes → is_utf8 bytes ≡ true → length bytes < 2 ^ 32 → Cut sign_forms text 0 (Ok tokens) → seen ≡ tokens →
    IfOk answer (λ read. MatchOption read ((t : Raw) → IsSentence h (items_of text seen) t → ⊥) (IsSentence h (items_of text seen))) →
    IfOk answer (λ read. MatchOption read ((t : Raw) → IsTermText h bytes t → ⊥) (IsTermText h bytes))
term_by law h bytes text tokens seen (Err e) same is short cut shown given = given
term_by law h bytes text tokens seen (Ok (Some t)) same is short cut shown given = record {
  is_text = is;
  is_short = short;
  tokens = tokens;
  cut = subst (λ b. Cut sign_forms b 0 (Ok tokens)) same cut;
  spelled = subst (λ b. IsSentence h (items_of b tokens) t) same (subst (λ ts. IsSentence h (items_of text ts) t) shown given);
}
term_by law h bytes text tokens seen (Ok None) same is short cut shown given = λ t term.
    let one : term.tokens ≡ tokens = ap tokens_in (law bytes (Ok term.tokens) (Ok tokens) term.cut (subst (λ b. Cut sign_forms b 0 (Ok tokens)) same cut)) in
    given t (subst (λ ts. IsSentence h (items_of text ts) t) (sym shown) (subst (λ b. IsSentence h (items_of b tokens) t) (sym same) (subst (λ ts. IsSentence h (items_of bytes ts) t) one term.spelled)))

pub where_some : {A : Type 0} (P : Type 0) (Q : A → Type 0) (o : Option A) (x : A) → o ≡ Some x → MatchOption o P Q → Q x
where_some P Q o x is m = subst (λ o. MatchOption o P Q) is m

-- a fault in a text
pub bad_sign : CutsOneWay → (text : List ℕ) (found : TokenFault) (at : ℕ) → found ≡ fault.BadSign at → Cuts sign_forms text (Err found) →
    (tokens : List Token) → Cut sign_forms text 0 (Ok tokens) → ⊥
bad_sign law text found at is bad = no_tokens law text (fault.BadSign at) (subst (λ f. Cuts sign_forms text (Err f)) is bad)

pub too_wide : CutsOneWay → (text : List ℕ) (found : TokenFault) (at : ℕ) → found ≡ fault.NumberTooWide at → Cuts sign_forms text (Err found) →
    (tokens : List Token) → Cut sign_forms text 0 (Ok tokens) → ⊥
too_wide law text found at is bad = no_tokens law text (fault.NumberTooWide at) (subst (λ f. Cuts sign_forms text (Err f)) is bad)

-- what is not found is not there
pub no_formula : (P : Raw → Type 0) (found : ParseFault) (at : ℕ) → found ≡ parse.Unexpected at → ((t : Raw) → P t → FindsFormula (Err found) t) → (t : Raw) → P t → ⊥
no_formula P found at is only = subst (λ f. (t : Raw) → P t → FindsFormula (Err f) t) is only

pub too_large : (P : Raw → Type 0) (found : ParseFault) (at : ℕ) → found ≡ parse.TooLarge at → ((t : Raw) → P t → FindsFormula (Err found) t) → (t : Raw) → P t → ⊥
too_large P found at is only = subst (λ f. (t : Raw) → P t → FindsFormula (Err f) t) is only
