-- Items give at most one hint.
use Rattle.std.proofs.Common.{◌≡◌, ℕ, ℤ, List, [], ◌∷◌, refl, sym, ap, ◌∙◌, subst}
use Rattle.std.specs.Prelude.{Option, Some, None, Result, Ok, Err}
use Rattle.std.specs.List.{AllZip, flat_map}
use Rattle.formula_core.specs.declared.raw.Raw.{Raw}
use Rattle.math_tokens.specs.SignForms.{sign_forms}
use Rattle.math_tokens.specs.Texts.{Cut}
use Rattle.math_tokens.specs.declared.cutting.Token.{Token}
use Rattle.math_tokens.specs.declared.cutting.TokenFault.{TokenFault}
use Rattle.math_grammar.specs.declared.holes.Hole.{Hole}
use Rattle.math_grammar.specs.Tokens.{Item as Symbol, items_of}
use Rattle.math_grammar.specs.Grammar.{Spells}
use Rattle.formula_parse.specs.Limits.{most_parts, IsSentence}
use Rattle.sequent_core.specs.declared.hint.Hint.{Hint}
use Rattle.step_items.specs.declared.item.Item.{Item}
use Rattle.step_items.specs.Hints.{terms_in_item, laws_of, only_law, IsHint}
use Rattle.step_items.specs.Terms.{IsTermText}
use Rattle.step_items.specs.Private.{AreTermTexts}

-- a text has one list of tokens, and tokens spell one formula
pub record OneReading : Type 0 where
  pub cut : (text : List ℕ) (first second : Result (List Token) TokenFault) → Cut sign_forms text 0 first → Cut sign_forms text 0 second → first ≡ second
  pub formula : (limit : Option ℕ) (h : Hole) (s : List Symbol) (t u : Raw) → Spells limit h s t → Spells limit h s u → t ≡ u

abbrev pub tokens_in : Result (List Token) TokenFault → List Token
tokens_in (Ok tokens) = tokens
tokens_in (Err fault) = []

one_term : OneReading → (h : Hole) (bytes : List ℕ) (a b : Raw) → IsTermText h bytes a → IsTermText h bytes b → a ≡ b
one_term laws h bytes a b x y =
    let same : x.tokens ≡ y.tokens = ap tokens_in (laws.cut bytes (Ok x.tokens) (Ok y.tokens) x.cut y.cut) in
    laws.formula most_parts h (items_of bytes x.tokens) a b x.spelled.0 (subst (λ ts. IsSentence h (items_of bytes ts) b) (sym same) y.spelled).0

one_terms : OneReading → (ws : List (Hole × List ℕ)) (ts us : List Raw) → AreTermTexts ws ts → AreTermTexts ws us → ts ≡ us
one_terms laws [] [] [] a b = refl
one_terms laws [] [] (u ∷ us) a b = absurd b
one_terms laws [] (t ∷ ts) us a b = absurd a
one_terms laws (w ∷ ws) [] us a b = absurd a
one_terms laws (w ∷ ws) (t ∷ ts) [] a b = absurd b
one_terms laws (w ∷ ws) (t ∷ ts) (u ∷ us) a b = ap (λ x. x ∷ ts) (one_term laws w.0 w.1 t u a.0 b.0) ∙ ap (λ l. u ∷ l) (one_terms laws ws ts us a.1 b.1)

abbrev law_in : Option (ℕ × List ℕ) → ℕ × List ℕ
law_in (Some law) = law
law_in None = (0, [])

abbrev hint_by : List ℕ → List ℤ → List (List ℕ) → List Raw → ℕ → List ℕ → Hint
hint_by hyps multipliers names terms law place =
    record { hyps = hyps; multipliers = multipliers; names = names; terms = terms; law = law; place = place }

pub one_hint : OneReading → (items : List Item) (a b : Hint) → IsHint items a → IsHint items b → a ≡ b
one_hint laws items a b x y =
    let law : (a.law, a.place) ≡ (b.law, b.place) = ap law_in (sym x.law ∙ y.law) in
    ap (λ l. hint_by l a.multipliers a.names a.terms a.law a.place) (x.hyps ∙ sym y.hyps)
    ∙ ap (λ l. hint_by b.hyps l a.names a.terms a.law a.place) (x.multipliers ∙ sym y.multipliers)
    ∙ ap (λ l. hint_by b.hyps b.multipliers l a.terms a.law a.place) (x.names ∙ sym y.names)
    ∙ ap (λ l. hint_by b.hyps b.multipliers b.names l a.law a.place) (one_terms laws (flat_map terms_in_item items) a.terms b.terms x.terms y.terms)
    ∙ ap (λ (l : ℕ × List ℕ). hint_by b.hyps b.multipliers b.names b.terms l.0 l.1) law
