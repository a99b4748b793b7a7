-- Printed pieces whose tokens are read as they are printed.
use Rattle.std.proofs.Common.{◌≡◌, ◌∙◌, sym as back, ap, subst, refl, ℕ, Bool, true, false, not, List, [], ◌∷◌, ◌++◌, map, append_assoc, append-nil}
use Rattle.std.specs.Prelude.{bytes_eq, ◌==◌, ◌&&◌, pos, if◌then◌else◌, ◌^◌, ◌<◌}
use Rattle.std.specs.List.{AllByRecursion, list_all, list_any}
use Rattle.std.specs.Fmt.{signed_decimal, decimal}
use Rattle.std.proofs.lemmas.Slice.Eq.{bytes_eq-Decides}
use Rattle.std.proofs.lemmas.Bool.{eqb-true}
use Rattle.formula_core.specs.Names.{is_name, is_in_word}
use Rattle.formula_core.specs.Texts.{begins_with}
use Rattle.formula_core.specs.declared.raw.Raw.{Raw}
use Rattle.math_tokens.specs.Lexemes.{is_digits}
use Rattle.math_grammar.specs.declared.symbols.Symbol.{Symbol}
use Rattle.math_grammar.specs.declared.symbols.Symbol.TheVariants as sym
use Rattle.math_grammar.specs.Grammar.{item}
use Rattle.component_tokens.specs.Pieces.{at_sign}
use Rattle.component_text.specs.declared.words.TheConstants.{STRUCTURAL}
use Rattle.component_text.specs.Marks.{Mark, plain, is_structural, mark_by}
use Rattle.component_text.proofs.Marks.{by_plain}
use Rattle.token_text.specs.Spacing.{is_space, FitsBefore}
use Rattle.token_text.proofs.Following.{stops, Follows}
use Rattle.token_text.proofs.Words.{is_lettered, lettered_opens_set}
use Rattle.token_text.proofs.Signs.{opens_set}
use Rattle.token_text.proofs.Names.{fits-name, name_lettered}
use Rattle.token_text.proofs.Numbers.{decimal_writes, fits-number, number_lettered}
use Rattle.token_text.specs.Pieces.{Piece, Blank, Token, text_of, tokens_of, word_piece, close_round_piece, close_square_piece, close_brace_piece, in_round, in_square, in_braces, sign_between, behind_commas, separated_pieces}
use Rattle.raw_print.specs.Printing.{stands_alone, operand_pieces}
use Rattle.token_text.proofs.Pieces.{text-append}
use Rattle.component_print.proofs.Laying.{opens_no_piece, Laid, a_blank, a_token}
use Rattle.component_print.proofs.Signs.{IsPlainText, Ready, ready-open_round, ready-close_round, ready-open_square, ready-close_square, ready-comma, fits-open_brace, fits-close_brace}

-- where t follows, the pieces are cut into their tokens
pub data Chain (t : List ℕ) : List Piece → Type 0 where
  chain_end : Chain t []
  chain_blank : {ps : List Piece} → Chain t ps → Chain t (Blank ∷ ps)
  chain_token : {ps : List Piece} (x : Symbol) (w : List ℕ) → FitsBefore (item x 0 w) (text_of ps ++ t) → IsPlainText w → Chain t ps → Chain t (Token x w ∷ ps)

pub chain_laid : (ps : List Piece) (t : List ℕ) → Chain t ps → (s : List Mark) → Laid s t → Laid (map plain (tokens_of ps) ++ s) (text_of ps ++ t)
unfolding lib.Utf8.encode
chain_laid [] t chain_end s more = more
chain_laid (Blank ∷ ps) t (chain_blank c) s more = a_blank 32 refl (chain_laid ps t c s more)
chain_laid (Token x w ∷ ps) t (chain_token _ _ is free c) s more =
    let one : Laid (mark_by w 0 (item x 0 w) ∷ (map plain (tokens_of ps) ++ s)) (w ++ (text_of ps ++ t)) = a_token (item x 0 w) is free.0 (chain_laid ps t c s more) in
    subst (λ m. Laid (m ∷ (map plain (tokens_of ps) ++ s)) ((w ++ text_of ps) ++ t)) (by_plain w 0 (item x 0 w) free.1 free.2)
    (subst (λ u. Laid (mark_by w 0 (item x 0 w) ∷ (map plain (tokens_of ps) ++ s)) u) (back (append_assoc w (text_of ps) t)) one)

-- what follows the pieces of a formula goes on with no word
abbrev pub Stops : List ℕ → List Piece → Type 0
Stops t ps = Follows stops (text_of ps ++ t)

-- these pieces are read as they are printed, before whatever stops, and don't begin with a closing brace
pub record Printed (qs : List Piece) : Type 0 where
  pub chain : (t : List ℕ) (ps : List Piece) → Stops t ps → Chain t ps → Chain t (qs ++ ps)
  pub opens : (t : List ℕ) → Follows opens_set (text_of qs ++ t)

-- a token that is ready, before what passes
pub one_token : (p : ℕ → Bool) (x : Symbol) (w : List ℕ) → Ready p x w → (t : List ℕ) (ps : List Piece) → Follows p (text_of ps ++ t) → Chain t ps → Chain t (Token x w ∷ ps)
one_token p x w is t ps f c = chain_token x w (is.fits (text_of ps ++ t) f) is.plain c

everything : (u : List ℕ) → Follows (λ c. true) u
everything [] = tt
everything (c ∷ u) = refl

pub free_token : (x : Symbol) (w : List ℕ) → Ready (λ c. true) x w → (t : List ℕ) (ps : List Piece) → Chain t ps → Chain t (Token x w ∷ ps)
free_token x w is t ps c = one_token (λ c. true) x w is t ps (everything (text_of ps ++ t)) c

-- a sign with a blank on each side
pub spaced_token : (x : Symbol) (w : List ℕ) → Ready is_space x w → (t : List ℕ) (ps : List Piece) → Chain t ps → Chain t (Blank ∷ Token x w ∷ Blank ∷ ps)
unfolding lib.Utf8.encode
spaced_token x w is t ps c = chain_blank (one_token is_space x w is t (Blank ∷ ps) refl (chain_blank c))

pub of_ready : (x : Symbol) (w : List ℕ) → Ready stops x w → Printed (Token x w ∷ [])
of_ready x w is = record {
  chain = λ t ps f c. one_token stops x w is t ps f c;
  opens = λ t. subst (λ u. Follows opens_set (u ++ t)) (back (append-nil w)) (is.opens t);
}

-- pieces before others
pub before : (qs rs ps : List Piece) (t : List ℕ) → Printed qs → Stops t (rs ++ ps) → Chain t (rs ++ ps) → Chain t ((qs ++ rs) ++ ps)
before qs rs ps t is f c = subst (Chain t) (back (append_assoc qs rs ps)) (is.chain t (rs ++ ps) f c)

pub opens_before : (qs rs : List Piece) (t : List ℕ) → Printed qs → Follows opens_set (text_of (qs ++ rs) ++ t)
opens_before qs rs t is = subst (Follows opens_set) (back (append_assoc (text_of qs) (text_of rs) t) ∙ ap (λ u. u ++ t) (back (text-append qs rs))) (is.opens (text_of rs ++ t))

pub round : (qs : List Piece) → Printed qs → Printed (in_round qs)
unfolding lib.Utf8.encode
round qs is = record {
  chain = λ t ps f c. free_token _ _ ready-open_round t _ (before qs (close_round_piece ∷ []) ps t is refl (free_token _ _ ready-close_round t ps c));
  opens = λ t. refl;
}

pub square : (qs : List Piece) → Printed qs → Printed (in_square qs)
unfolding lib.Utf8.encode
square qs is = record {
  chain = λ t ps f c. free_token _ _ ready-open_square t _ (before qs (close_square_piece ∷ []) ps t is refl (free_token _ _ ready-close_square t ps c));
  opens = λ t. refl;
}

pub braces : (qs : List Piece) → Printed qs → Printed (in_braces qs)
unfolding lib.Utf8.encode
braces qs is = record {
  chain = λ t ps f c.
      let inner : Chain t ((qs ++ close_brace_piece ∷ []) ++ ps) = before qs (close_brace_piece ∷ []) ps t is refl (chain_token _ _ (fits-close_brace _) (refl, refl, refl) c) in
      chain_token _ _ (fits-open_brace _ (subst (λ u. Follows opens_set (text_of u ++ t)) (back (append_assoc qs (close_brace_piece ∷ []) ps)) (opens_before qs (close_brace_piece ∷ ps) t is))) (refl, refl, refl) inner;
  opens = λ t. refl;
}

pub as_operand : (r : Raw) (qs : List Piece) → Printed qs → Printed (operand_pieces (r, qs))
as_operand r qs is = go (stands_alone r)
  where
    go : (b : Bool) → Printed (if b then qs else in_round qs)
    go true = is
    go false = round qs is

-- two parts with a sign and blanks between them
pub with_sign : (x : Symbol) (w : List ℕ) → Ready is_space x w → (qs rs : List Piece) → Printed qs → Printed rs → Printed (sign_between qs (Token x w) rs)
unfolding lib.Utf8.encode
with_sign x w is qs rs left right = record {
  chain = λ t ps f c. before qs (Blank ∷ Token x w ∷ Blank ∷ rs) ps t left refl (spaced_token x w is t (rs ++ ps) (right.chain t ps f c));
  opens = λ t. opens_before qs (Blank ∷ Token x w ∷ Blank ∷ rs) t left;
}

-- a sign that clings to what follows it
pub prefix : (x : Symbol) (w : List ℕ) → Ready (λ c. true) x w → (qs : List Piece) → Printed qs → Printed (Token x w ∷ qs)
prefix x w is qs own = record {
  chain = λ t ps f c. free_token x w is t (qs ++ ps) (own.chain t ps f c);
  opens = λ t. subst (Follows opens_set) (back (append_assoc w (text_of qs) t)) (is.opens (text_of qs ++ t));
}

-- lists between commas
abbrev pub AllPrinted : List (List Piece) → Type 0
AllPrinted = AllByRecursion Printed

commas : (qss : List (List Piece)) → AllPrinted qss → (t : List ℕ) (ps : List Piece) → Stops t ps → Chain t ps → Chain t (behind_commas qss ++ ps) × Stops t (behind_commas qss ++ ps)
unfolding lib.Utf8.encode
commas [] is t ps f c = (c, f)
commas (qs ∷ qss) is t ps f c =
    let more = commas qss is.1 t ps f c in
    (free_token _ _ ready-comma t _ (chain_blank (before qs (behind_commas qss) ps t is.0 more.1 more.0)), refl)

pub all_separated : (qs : List Piece) (qss : List (List Piece)) → Printed qs → AllPrinted qss → Printed (separated_pieces (qs ∷ qss))
all_separated qs qss is more = record {
  chain = λ t ps f c. let rest = commas qss more t ps f c in before qs (behind_commas qss) ps t is rest.1 rest.0;
  opens = λ t. opens_before qs (behind_commas qss) t is;
}

-- names and numbers
no_structural : {X : Type 0} (word_of : X → List ℕ) (q : List ℕ → Bool) (n : List ℕ) → q n ≡ true → (table : List X) → list_all (λ w. not (q (word_of w))) table ≡ true → list_any (λ w. bytes_eq (word_of w) n) table ≡ false
no_structural word_of q n h [] e = refl
no_structural word_of q n h (w ∷ table) e =
    let parts : (not (q (word_of w)) ≡ true) × (list_all (λ v. not (q (word_of v))) table ≡ true) = both _ _ e in
    go (bytes_eq (word_of w) n) refl parts.0 (no_structural word_of q n h table parts.1)
  where
    both : (a b : Bool) → (a && b) ≡ true → (a ≡ true) × (b ≡ true)
    both true b k = (refl, k)
    both false b k = cc

    go : (b : Bool) → bytes_eq (word_of w) n ≡ b → not (q (word_of w)) ≡ true → list_any (λ v. bytes_eq (word_of v) n) table ≡ false → list_any (λ v. bytes_eq (word_of v) n) (w ∷ table) ≡ false
    go true is isnt more =
        let own : q (word_of w) ≡ true = ap q ((bytes_eq-Decides (word_of w) n).0 is) ∙ h in
        let contra : not (q (word_of w)) ≡ false = ap not own in cc
    go false is isnt more = rw is more

letter_is : (c x : ℕ) → is_in_word c ≡ true → is_in_word x ≡ false → (c == x) ≡ false
letter_is c x h k = go (c == x) refl
  where
    go : (b : Bool) → (c == x) ≡ b → (c == x) ≡ false
    go true is = let contra : true ≡ false = back h ∙ ap is_in_word (eqb-true c x is) ∙ k in cc
    go false is = is

lettered_opens : (n : List ℕ) → is_lettered n ≡ true → (opens_no_piece n ≡ true) × (begins_with at_sign n ≡ false)
lettered_opens [] h = cc
lettered_opens (c ∷ cs) h = let a : (c == 64) ≡ false = letter_is c 64 h refl in let b : (c == 47) ≡ false = letter_is c 47 h refl in (rw a (rw b refl), a)

pub name_plain : (n : List ℕ) → is_name n ≡ true → IsPlainText n
name_plain n h = let own = lettered_opens n (name_lettered n h) in (own.0, own.1, no_structural (λ w. w.now) is_name n h STRUCTURAL refl)

pub printed_name : (n : List ℕ) → is_name n ≡ true → Printed (word_piece n ∷ [])
printed_name n h = record {
  chain = λ t ps f c. chain_token sym.Word n (fits-name n h (text_of ps ++ t) f) (name_plain n h) c;
  opens = λ t. subst (λ u. Follows opens_set (u ++ t)) (back (append-nil n)) (lettered_opens_set n t (name_lettered n h));
}

pub printed_number : (n : ℕ) → n < 2 ^ 127 → Printed (Token (sym.Number (pos n)) (signed_decimal (pos n)) ∷ [])
printed_number n h =
    let own = lettered_opens (decimal n) (number_lettered n h) in
    let digits : is_structural (decimal n) ≡ false = no_structural (λ w. w.now) is_digits (decimal n) (decimal_writes n h).digits STRUCTURAL refl in
    record {
      chain = λ t ps f c. chain_token (sym.Number (pos n)) (decimal n) (fits-number n h (text_of ps ++ t) f) (own.0, own.1, digits) c;
      opens = λ t. subst (λ u. Follows opens_set (u ++ t)) (back (append-nil (decimal n))) (lettered_opens_set (decimal n) t (number_lettered n h));
    }
