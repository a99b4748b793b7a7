-- The tokens of a text are those of the tables, and its numbers are literals.
use Rattle.std.proofs.Common.{rules, ◌≡◌, sym as back, subst, refl, ℕ, zero, suc, ◌<◌, Bool, true, false, List, [], ◌∷◌, cond, Some, Ok, Err, inl, inr, arith}
use Rattle.std.specs.Prelude.{Option, Result, pos, drop, ◌^◌, nat_lt, nat_le, bytes_eq}
use Rattle.std.specs.List.{AllByRecursion, slice_get}
use Rattle.math_tokens.specs.declared.lexemes.Lexeme.{Lexeme}
use Rattle.math_tokens.specs.declared.lexemes.Lexeme.TheVariants as lexeme
use Rattle.math_tokens.specs.declared.cutting.TokenKind.{TokenKind}
use Rattle.math_tokens.specs.declared.cutting.TokenKind.TheVariants as kind
use Rattle.math_tokens.specs.declared.cutting.TokenFault.{TokenFault}
use Rattle.math_tokens.specs.declared.cutting.TokenFault.TheVariants as wrong
use Rattle.math_tokens.specs.declared.cutting.Token.{Token}
use Rattle.math_tokens.specs.Lexemes.{value_of}
use Rattle.math_tokens.specs.Texts.{meaning}
use Rattle.math_grammar.specs.declared.symbols.Symbol.{Symbol}
use Rattle.math_grammar.specs.declared.symbols.TheConstants.{SYMBOLS}
use Rattle.math_grammar.specs.Tokens.{word_in, words, or_word, symbol_of, bytes_of, item_of}
use Rattle.component_tokens.specs.Pieces.{IsLabelOrToken, CutInto, at_end, over_gap, past_token, at_fault, at_sign}
use Rattle.component_tokens.specs.declared.piece.CutFault.{CutFault}
use Rattle.std.proofs.lemmas.Bool.Decides.{nat_tests}
use Rattle.formula_core.specs.Texts.{begins_with}
use Rattle.component_text.specs.Marks.{word, label, plain, is_structural, token_mark, marks_of}
use Rattle.raw_print.specs.Back.{IsProper, IsProperItem}
use Rattle.component_print.proofs.Made.{IsSmallMark, AreSmall}

-- the tables give proper symbols alone
signs_are_proper : AllByRecursion IsProper SYMBOLS
signs_are_proper = search rules

words_are_proper : AllByRecursion (λ (e : List ℕ × Symbol). IsProper e.1) words
words_are_proper = search rules

proper_sign : (symbols : List Symbol) → AllByRecursion IsProper symbols → (k : ℕ) → IsProper (or_word (slice_get symbols k))
proper_sign [] all k = tt
proper_sign (x ∷ symbols) all zero = all.0
proper_sign (x ∷ symbols) all (suc k) = proper_sign symbols all.1 k

proper_word : (table : List (List ℕ × Symbol)) → AllByRecursion (λ (e : List ℕ × Symbol). IsProper e.1) table → (w : List ℕ) → IsProper (or_word (word_in table w))
proper_word [] all w = tt
proper_word (e ∷ table) all w = go (bytes_eq e.0 w) (proper_word table all.1 w)
  where
    go : (b : Bool) → IsProper (or_word (word_in table w)) → IsProper (or_word (cond b (Some e.1) (word_in table w)))
    go true later = all.0
    go false later = later

-- a number is a literal
abbrev IsLiteral : TokenKind → Type 0
IsLiteral (kind.Number n) = (m : ℕ) × (n ≡ pos m) × (m < 2 ^ 127)
IsLiteral _ = Unit {0}

proper_symbol : (k : TokenKind) (w : List ℕ) → IsLiteral k → IsProper (symbol_of k w)
proper_symbol (kind.Sign n) w h = proper_sign SYMBOLS signs_are_proper n
proper_symbol (kind.Number n) w h = h
proper_symbol kind.Word w h = proper_word words words_are_proper w
proper_symbol kind.Primed w h = tt

meant : (l : Lexeme) (w : List ℕ) (at : ℕ) (k : TokenKind) → meaning w l at ≡ Ok k → IsLiteral k
meant (lexeme.Sign n) w at k e = let same : kind.Sign n ≡ k = cc in subst IsLiteral same tt
meant lexeme.Word w at k e = go (nat_le _ 64) e
  where
    go : (b : Bool) → cond {A = Result TokenKind TokenFault} b (Ok kind.Word) (Err (wrong.BadSign at)) ≡ Ok k → IsLiteral k
    go true f = let same : kind.Word ≡ k = cc in subst IsLiteral same tt
    go false f = cc
meant lexeme.Primed w at k e = go (nat_le _ 65) e
  where
    go : (b : Bool) → cond {A = Result TokenKind TokenFault} b (Ok kind.Primed) (Err (wrong.BadSign at)) ≡ Ok k → IsLiteral k
    go true f = let same : kind.Primed ≡ k = cc in subst IsLiteral same tt
    go false f = cc
meant lexeme.Number w at k e = go (nat_lt (value_of w) (2 ^ 127)) refl e
  where
    go : (b : Bool) → nat_lt (value_of w) (2 ^ 127) ≡ b → cond {A = Result TokenKind TokenFault} b (Ok (kind.Number (pos (value_of w)))) (Err (wrong.NumberTooWide at)) ≡ Ok k → IsLiteral k
    go true small f = let same : kind.Number (pos (value_of w)) ≡ k = cc in subst IsLiteral same (value_of w, refl, grind (arith, nat_tests, small))
    go false small f = cc

literal_there : (text : List ℕ) (at : ℕ) (t : Token) → IsLabelOrToken text at t → IsLiteral t.kind
literal_there text at t (inl h) = subst (λ u. IsLiteral u.kind) (back h.1) tt
literal_there text at t (inr h) = let is = h.1 in meant is.0 _ at t.kind is.6

small_mark : (text : List ℕ) (t : Token) → IsLiteral t.kind → IsSmallMark IsProperItem (token_mark text t)
small_mark text t h = go (begins_with at_sign (bytes_of text t)) (is_structural (bytes_of text t))
  where
    go : (a b : Bool) → IsSmallMark IsProperItem (cond a (label (drop 1 (bytes_of text t)) t.from) (cond b (word (bytes_of text t) t.from) (plain (item_of text t))))
    go true b = tt
    go false true = tt
    go false false = proper_symbol t.kind (bytes_of text t) h

pub small_marks : (text : List ℕ) (at : ℕ) (ts : List Token) (o : Option CutFault) → CutInto text at ts o → AreSmall IsProperItem (marks_of text ts)
small_marks text at ts o (at_end e) = tt
small_marks text at ts o (over_gap {n = n} {ts = us} {o = p} less gap more) = small_marks text _ us p more
small_marks text at ts o (past_token {ts = us} {o = p} t less is more) = (small_mark text t (literal_there text at t is.1), small_marks text t.to us p more)
small_marks text at ts o (at_fault f less is) = tt
