-- A text of tokens and blanks is cut into its tokens.
use Rattle.std.proofs.Common.{◌≡◌, ◌∙◌, sym, ap, subst, refl, ℕ, ◌+◌, ◌-◌, ◌≤◌, List, [], ◌∷◌, length, take, drop, map, arith, true, Ok}
use Rattle.std.proofs.Math.Seq.{take-append_seam, drop-append_seam}
use Rattle.std.proofs.lemmas.List.{drop-drop, length-append, length-drop}
use Rattle.math_tokens.specs.declared.cutting.Token.{Token}
use Rattle.math_tokens.specs.Lexemes.{IsLongest}
use Rattle.math_tokens.specs.SignForms.{sign_forms}
use Rattle.math_tokens.specs.Texts.{blank_length, meaning, Cut, at_end, over_blank, past_token}
use Rattle.math_grammar.specs.Tokens.{Item, symbol_of, bytes_of, item_of, items_of}
use Rattle.token_text.specs.Spacing.{is_space, Spaced, the_end, a_blank, a_token, without_place, IsCutInto}

-- a blank is one byte long
pub one_blank : (c : ℕ) (rest : List ℕ) → is_space c ≡ true → blank_length (c ∷ rest) ≡ 1
one_blank c rest h = rw h refl

pub cut_spaced : (s : List Item) (t : List ℕ) → Spaced s t → (text : List ℕ) (at : ℕ) → at ≤ length text → drop at text ≡ t
    → (us : List Token) × Cut sign_forms text at (Ok us) × (map without_place (items_of text us) ≡ map without_place s)
cut_spaced tokens whole the_end text at within here =
    let none : length text - at ≡ 0 = sym (length-drop at text) ∙ ap length here in
    ([], at_end (omega (arith, none)), refl)
cut_spaced tokens whole (a_blank {tokens = s} {text = rest} c blank more) text at within here =
    let one : blank_length (drop at text) ≡ 1 = ap blank_length here ∙ one_blank c rest blank in
    let some : length text - at ≡ length (c ∷ rest) = sym (length-drop at text) ∙ ap length here in
    let behind : drop (at + 1) text ≡ rest = sym (drop-drop 1 at text) ∙ ap (drop 1) here in
    let later : (us : List Token) × Cut sign_forms text (at + 1) (Ok us) × (map without_place (items_of text us) ≡ map without_place s) = cut_spaced s rest more text (at + 1) (omega (arith, some)) behind in
    (later.0, over_blank (rw one (omega arith)) (rw one refl) later.1, later.2)
cut_spaced tokens whole (a_token {tokens = s} {text = rest} x is more) text at within here =
    let n : ℕ = length x.text in
    let all : length text - at ≡ n + length rest = sym (length-drop at text) ∙ ap length here ∙ length-append x.text rest in
    let behind : drop (at + n) text ≡ rest = sym (drop-drop n at text) ∙ ap (drop n) here ∙ drop-append_seam x.text rest in
    let later : (us : List Token) × Cut sign_forms text (at + n) (Ok us) × (map without_place (items_of text us) ≡ map without_place s) = cut_spaced s rest more text (at + n) (omega (arith, all, is.longest.some)) behind in
    let token : Token = record { kind = is.kind; from = at; to = at + n } in
    let word : take n (drop at text) ≡ x.text = ap (take n) here ∙ take-append_seam x.text rest in
    let long : at + n - at ≡ n = omega arith in
    let own : bytes_of text token ≡ x.text = ap (λ m. take m (drop at text)) long ∙ word in
    let item : without_place (item_of text token) ≡ without_place x = λ i. ((ap (symbol_of is.kind) own ∙ is.class) i, own i) in (
      token ∷ later.0,
      past_token token
          (is.lexeme, n, ap blank_length here ∙ is.no_blank, subst (λ u. IsLongest sign_forms u n is.lexeme) (sym here) is.longest, refl, refl, ap (λ u. meaning u is.lexeme at) word ∙ is.means at)
          later.1,
      (λ i. item i ∷ later.2 i),
    )

pub spaced_cut : (tokens : List Item) (text : List ℕ) → Spaced tokens text → IsCutInto text tokens
spaced_cut tokens text spaced = cut_spaced tokens text spaced text 0 (omega arith) refl
