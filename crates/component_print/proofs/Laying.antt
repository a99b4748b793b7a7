-- A text of tokens, labels and blanks is cut into these.
use Rattle.std.proofs.Common.{◌≡◌, ◌∙◌, sym, ap, subst, refl, ℕ, suc, ◌+◌, ◌-◌, ◌<◌, ◌≤◌, cond, Bool, true, false, List, [], ◌∷◌, ◌++◌, length, take, drop, map, arith, None, inl, inr}
use Rattle.std.specs.Prelude.{◌==◌, not, ◌&&◌, min, nat_le}
use Rattle.std.specs.List.{prefix_len, list_all}
use Rattle.std.proofs.Math.Seq.{take-append_seam, drop-append_seam}
use Rattle.std.proofs.lemmas.List.{drop-drop, length-append, length-drop}
use Rattle.std.proofs.lemmas.Bool.{leb-true}
use Rattle.std.proofs.Math.Nat.{min-eq_left}
use Rattle.formula_core.specs.Texts.{is_label, is_in_label, begins_with}
use Rattle.math_tokens.specs.declared.cutting.Token.{Token}
use Rattle.math_tokens.specs.Lexemes.{IsLongest}
use Rattle.math_tokens.specs.SignForms.{sign_forms}
use Rattle.math_tokens.specs.Texts.{blank_length, meaning}
use Rattle.math_grammar.specs.Grammar.{item}
use Rattle.math_grammar.specs.Tokens.{Item, symbol_of, bytes_of, item_of}
use Rattle.component_tokens.specs.declared.gap.Gap.TheVariants as gap
use Rattle.component_tokens.specs.Gaps.{gap_in, slash}
use Rattle.component_tokens.specs.Pieces.{at_sign, label_length, label_token, CutInto, at_end, over_gap, past_token}
use Rattle.component_text.specs.Marks.{Mark, word, label, plain, is_structural, mark_by, token_mark, marks_of}
use Rattle.token_text.specs.Spacing.{is_space, FitsBefore}
use Rattle.token_text.proofs.Cutting.{one_blank}
use Rattle.component_print.proofs.Marked.{unplaced_mark}
use Rattle.math_places.specs.Places.{unplaced_item}

-- it begins neither a label nor a comment
abbrev pub opens_no_piece : List ℕ → Bool
opens_no_piece [] = false
opens_no_piece (c ∷ cs) = not (c == at_sign) && not (c == slash)

-- the label ends here: it is of the greatest length, or no character of a label follows
abbrev pub ends_label : List ℕ → List ℕ → Bool
ends_label l [] = true
ends_label l (c ∷ cs) = not (is_in_label c)

-- the text is these tokens and labels, with blanks between them
pub data Laid : List Mark → List ℕ → Type 0 where
  the_end : Laid [] []
  a_blank : {s : List Mark} {t : List ℕ} (c : ℕ) → is_space c ≡ true → Laid s t → Laid s (c ∷ t)
  a_token : {s : List Mark} {t : List ℕ} (x : Item) → FitsBefore x t → opens_no_piece x.text ≡ true → Laid s t → Laid (mark_by x.text 0 (unplaced_item x) ∷ s) (x.text ++ t)
  a_label : {s : List Mark} {t : List ℕ} (l : List ℕ) → is_label l ≡ true → ends_label l t ≡ true → Laid s t → Laid (label l 0 ∷ s) (at_sign ∷ (l ++ t))

gap_of_space : (c : ℕ) (rest : List ℕ) → is_space c ≡ true → gap_in (c ∷ rest) ≡ gap.Bytes 1
gap_of_space c rest h = rw (one_blank c rest h) refl

both_true : (a b : Bool) → (a && b) ≡ true → (a ≡ true) × (b ≡ true)
both_true true b h = (refl, h)
both_true false b h = cc

not_true : (a : Bool) → not a ≡ true → a ≡ false
not_true true h = cc
not_true false h = refl

no_gap : (t rest : List ℕ) → opens_no_piece t ≡ true → blank_length (t ++ rest) ≡ 0 → gap_in (t ++ rest) ≡ gap.Nothing
no_gap [] rest h e = cc
no_gap (c ∷ cs) rest h e =
    let slashed : (c == slash) ≡ false = not_true (c == slash) (both_true (not (c == at_sign)) (not (c == slash)) h).1 in
    rw e (rw slashed refl)

no_label_there : (t rest : List ℕ) → opens_no_piece t ≡ true → label_length (t ++ rest) ≡ 0
no_label_there [] rest h = cc
no_label_there (c ∷ cs) rest h =
    let other : (c == at_sign) ≡ false = not_true (c == at_sign) (both_true (not (c == at_sign)) (not (c == slash)) h).0 in
    rw other refl

-- a label that ends is read whole
all_in : (l rest : List ℕ) → list_all is_in_label l ≡ true → ends_label l rest ≡ true → prefix_len is_in_label (l ++ rest) ≡ length l
all_in [] [] h e = refl
all_in [] (c ∷ cs) h e = rw (not_true (is_in_label c) e) refl
all_in (x ∷ l) [] h e = let p = both_true (is_in_label x) (list_all is_in_label l) h in let more : prefix_len is_in_label (l ++ []) ≡ length l = all_in l [] p.1 refl in rw p.0 (omega (arith, more))
all_in (x ∷ l) (c ∷ cs) h e = let p = both_true (is_in_label x) (list_all is_in_label l) h in let more : prefix_len is_in_label (l ++ c ∷ cs) ≡ length l = all_in l (c ∷ cs) p.1 e in rw p.0 (omega (arith, more))

-- how long a label is
abbrev pub IsOfLabelLength : List ℕ → Type 0
IsOfLabelLength l = (0 < length l) × (length l ≤ 64) × (list_all is_in_label l ≡ true)

label_facts : (l : List ℕ) → is_label l ≡ true → IsOfLabelLength l
label_facts l h =
    let outer = both_true (nat_le 1 (length l) && nat_le (length l) 64) (list_all is_in_label l) h in
    let inner = both_true (nat_le 1 (length l)) (nat_le (length l) 64) outer.0 in
    (leb-true 1 (length l) inner.0, leb-true (length l) 64 inner.1, outer.1)

small_min : (n : ℕ) → n ≤ 64 → min n 64 ≡ n
small_min n h = min-eq_left h

-- a token's mark without its place
unplaced_mark_by : (text : List ℕ) (from : ℕ) (x : Item) → unplaced_mark (mark_by text from x) ≡ mark_by text 0 (unplaced_item x)
unplaced_mark_by text from x = go (begins_with at_sign text) (is_structural text)
  where
    go : (a b : Bool) → unplaced_mark (cond a (label (drop 1 text) from) (cond b (word text from) (plain x))) ≡ cond a (label (drop 1 text) 0) (cond b (word text 0) (plain (unplaced_item x)))
    go true b = refl
    go false true = refl
    go false false = refl

pub laid_from : (s : List Mark) (t : List ℕ) → Laid s t → (text : List ℕ) (at : ℕ) → at ≤ length text → drop at text ≡ t
    → (us : List Token) × CutInto text at us None × (map unplaced_mark (marks_of text us) ≡ s)
laid_from marks whole the_end text at within here =
    let none : length text - at ≡ 0 = sym (length-drop at text) ∙ ap length here in
    ([], at_end (omega (arith, none)), refl)
laid_from marks whole (a_blank {s = s} {t = rest} c blank more) text at within here =
    let some : length text - at ≡ length (c ∷ rest) = sym (length-drop at text) ∙ ap length here in
    let behind : drop (at + 1) text ≡ rest = sym (drop-drop 1 at text) ∙ ap (drop 1) here in
    let later : (us : List Token) × CutInto text (at + 1) us None × (map unplaced_mark (marks_of text us) ≡ s) = laid_from s rest more text (at + 1) (omega (arith, some)) behind in
    (later.0, over_gap {n = 1} (omega (arith, some)) (ap gap_in here ∙ gap_of_space c rest blank) later.1, later.2)
laid_from marks whole (a_token {s = s} {t = rest} x is opens more) text at within here =
    let n : ℕ = length x.text in
    let all : length text - at ≡ n + length rest = sym (length-drop at text) ∙ ap length here ∙ length-append x.text rest in
    let behind : drop (at + n) text ≡ rest = sym (drop-drop n at text) ∙ ap (drop n) here ∙ drop-append_seam x.text rest in
    let later : (us : List Token) × CutInto text (at + n) us None × (map unplaced_mark (marks_of text us) ≡ s) = laid_from s rest more text (at + n) (omega (arith, all, is.longest.some)) behind in
    let token : Token = record { kind = is.kind; from = at; to = at + n } in
    let taken : take n (drop at text) ≡ x.text = ap (take n) here ∙ take-append_seam x.text rest in
    let long : at + n - at ≡ n = omega arith in
    let own : bytes_of text token ≡ x.text = ap (λ m. take m (drop at text)) long ∙ taken in
    let as_item : unplaced_item (item_of text token) ≡ unplaced_item x = λ i. item ((ap (symbol_of is.kind) own ∙ is.class) i) 0 (own i) in
    let as_mark : unplaced_mark (token_mark text token) ≡ mark_by x.text 0 (unplaced_item x) =
    unplaced_mark_by (bytes_of text token) at (item_of text token) ∙ (λ i. mark_by (own i) 0 (as_item i)) in (
      token ∷ later.0,
      past_token token (omega (arith, all, is.longest.some)) (
        ap gap_in here ∙ no_gap x.text rest opens is.no_blank,
        inr (
          ap label_length here ∙ no_label_there x.text rest opens,
          (is.lexeme, n, ap blank_length here ∙ is.no_blank, subst (λ u. IsLongest sign_forms u n is.lexeme) (sym here) is.longest, refl, refl, ap (λ u. meaning u is.lexeme at) taken ∙ is.means at),
        ),
      ) later.1,
      (λ i. as_mark i ∷ later.2 i),
    )
laid_from marks whole (a_label {s = s} {t = rest} l is ends more) text at within here =
    let n : ℕ = length l in
    let facts = label_facts l is in
    let all : length text - at ≡ suc n + length rest = sym (length-drop at text) ∙ ap length here ∙ length-append (at_sign ∷ l) rest in
    let behind : drop (at + suc n) text ≡ rest = sym (drop-drop (suc n) at text) ∙ ap (drop (suc n)) here ∙ drop-append_seam (at_sign ∷ l) rest in
    let to : at + 1 + n ≡ at + suc n = omega arith in
    let later : (us : List Token) × CutInto text (at + suc n) us None × (map unplaced_mark (marks_of text us) ≡ s) = laid_from s rest more text (at + suc n) (omega (arith, all)) behind in
    let token : Token = label_token at n in
    let taken : take (suc n) (drop at text) ≡ at_sign ∷ l = ap (take (suc n)) here ∙ take-append_seam (at_sign ∷ l) rest in
    let long : at + 1 + n - at ≡ suc n = omega arith in
    let own : bytes_of text token ≡ at_sign ∷ l = ap (λ m. take m (drop at text)) long ∙ taken in
    let run : label_length (drop at text) ≡ n = ap label_length here ∙ ap (λ m. min m 64) (all_in l rest facts.2 ends) ∙ small_min n facts.1 in
    let as_mark : unplaced_mark (token_mark text token) ≡ label l 0 = ap (λ b. unplaced_mark (mark_by b at (item_of text token))) own in (
      token ∷ later.0,
      past_token token (omega (arith, all)) (ap gap_in here, inl (rw run facts.0, rw run refl)) (subst (λ m. CutInto text m later.0 None) (sym to) later.1),
      (λ i. as_mark i ∷ later.2 i),
    )

-- the text is cut, with no fault, into these marks but for their places
pub laid_cut : (s : List Mark) (text : List ℕ) → Laid s text → (us : List Token) × CutInto text 0 us None × (map unplaced_mark (marks_of text us) ≡ s)
laid_cut s text laid = laid_from s text laid text 0 (omega arith) refl
