-- What a token is by its bytes, and the tokens before the next structural word or label.
use Rattle.std.proofs.Common.{inl, inr, ◌≡◌, ◌∙◌, ap, ℕ, zero, suc, ◌+◌, ◌-◌, ◌≤◌, List, [], ◌∷◌, ◌++◌, Bool, true, false, not, ◌||◌, ◌&&◌, bytes_eq, cond, length, take, drop, map, refl, sym, subst, arith}
use Rattle.std.proofs.Math.Seq.{take-length}
use Rattle.std.specs.Prelude.{Some, slice_get, Err}
use Rattle.std.proofs.lemmas.List.{take_rest}
use Rattle.formula_core.specs.declared.raw.Raw.{Raw}
use Rattle.math_grammar.specs.declared.holes.Hole.{Hole}
use Rattle.formula_parse.specs.declared.fault.ParseFault.{ParseFault}
use Rattle.formula_parse.specs.declared.fault.ParseFault.TheVariants as fault
use Rattle.formula_parse.specs.Faults.{BeginsOne}
use Rattle.formula_parse.specs.Limits.{IsFaultOf, IsFault, IsSentence}
use Rattle.component_text.specs.declared.stop.Stop.TheVariants as stop
use Rattle.formula_core.specs.declared.raw.RawAction.{RawAction}
use Rattle.math_action.specs.Limits.{IsAction, IsActionFault}
use Rattle.component_text.specs.Forms.{Bounds, limits, parts, none, FormulaRun}
use Rattle.component_text.specs.Grammar.{IsFormula, first_place, IsPlaced}
use Rattle.component_text.specs.Machines.{IsActionWithin, either}
use Rattle.formula_core.specs.Texts.{begins_with}
use Rattle.math_tokens.specs.declared.cutting.Token.{Token}
use Rattle.math_grammar.specs.Tokens.{Item, bytes_of, item_of, items_of}
use Rattle.component_tokens.specs.Pieces.{at_sign}
use Rattle.component_text.specs.Marks.{Mark, word, label, plain, is_structural, mark_by, token_mark, marks_of, token_run, behind_run, is_word_mark, is_at}
use Rattle.component_text.specs.PrivateReading.{Takes, from_token, within_bound, FailsBy, ReadsFormula}
use Rattle.component_text.specs.PrivateTexts.{is_plain_text, plain_length}

-- it ends a formula
abbrev Ends : Mark → Type 0
Ends (word w p) = Unit {0}
Ends (label l p) = Unit {0}
Ends (plain x) = ⊥

abbrev PlainBy : Bool → Mark → Item → Type 0
PlainBy true m x = m ≡ plain x
PlainBy false m x = Ends m

module _ (bytes : List ℕ) (from : ℕ) (item : Item) where
  pub by_word : begins_with at_sign bytes ≡ false → is_structural bytes ≡ true → mark_by bytes from item ≡ word bytes from
  by_word e f = ap (λ b. cond b (label (drop 1 bytes) from) (cond (is_structural bytes) (word bytes from) (plain item))) e ∙ ap (λ b. cond b (word bytes from) (plain item)) f

  pub by_label : begins_with at_sign bytes ≡ true → mark_by bytes from item ≡ label (drop 1 bytes) from
  by_label e = ap (λ b. cond b (label (drop 1 bytes) from) (cond (is_structural bytes) (word bytes from) (plain item))) e

  pub by_plain : begins_with at_sign bytes ≡ false → is_structural bytes ≡ false → mark_by bytes from item ≡ plain item
  by_plain e f = ap (λ b. cond b (label (drop 1 bytes) from) (cond (is_structural bytes) (word bytes from) (plain item))) e ∙ ap (λ b. cond b (word bytes from) (plain item)) f

-- what stands behind one that passes a test
pub at_one : (test : Mark → Bool) (s : List Mark) → is_at test s ≡ true → (x : Mark) × (s ≡ x ∷ drop 1 s) × (test x ≡ true)
at_one test [] e = cc
at_one test (x ∷ s) e = (x, refl, e)

pub marks_behind : (text : List ℕ) (tokens : List Token) (n : ℕ) → marks_of text (drop n tokens) ≡ drop n (marks_of text tokens)
marks_behind text [] zero = refl
marks_behind text [] (suc n) = refl
marks_behind text (t ∷ tokens) zero = refl
marks_behind text (t ∷ tokens) (suc n) = marks_behind text tokens n

-- the tokens of a formula, by their number
plain_is : (text : List ℕ) (t : Token) (b : Bool) → is_plain_text (bytes_of text t) ≡ b → PlainBy b (token_mark text t) (item_of text t)
plain_is text t true e = go (begins_with at_sign (bytes_of text t)) refl (is_structural (bytes_of text t)) refl e
  where
    go : (a : Bool) → begins_with at_sign (bytes_of text t) ≡ a → (d : Bool) → is_structural (bytes_of text t) ≡ d →
        is_plain_text (bytes_of text t) ≡ true → token_mark text t ≡ plain (item_of text t)
    go true p d q e = let no : is_plain_text (bytes_of text t) ≡ false = ap (λ v. not (v || is_structural (bytes_of text t))) p in cc
    go false p true q e = let no : is_plain_text (bytes_of text t) ≡ false = ap (λ v. not (v || is_structural (bytes_of text t))) p ∙ ap not q in cc
    go false p false q e = by_plain (bytes_of text t) t.from (item_of text t) p q
plain_is text t false e = go (begins_with at_sign (bytes_of text t)) refl (is_structural (bytes_of text t)) refl e
  where
    go : (a : Bool) → begins_with at_sign (bytes_of text t) ≡ a → (d : Bool) → is_structural (bytes_of text t) ≡ d →
        is_plain_text (bytes_of text t) ≡ false → Ends (token_mark text t)
    go true p d q e = subst Ends (sym (by_label (bytes_of text t) t.from (item_of text t) p)) tt
    go false p true q e = subst Ends (sym (by_word (bytes_of text t) t.from (item_of text t) p q)) tt
    go false p false q e = let yes : is_plain_text (bytes_of text t) ≡ true = ap (λ v. not (v || is_structural (bytes_of text t))) p ∙ ap not q in cc

run_ended : (x : Mark) (s : List Mark) → Ends x → (token_run (x ∷ s) ≡ []) × (behind_run (x ∷ s) ≡ x ∷ s)
run_ended (word w p) s h = (refl, refl)
run_ended (label l p) s h = (refl, refl)
run_ended (plain x) s h = absurd h

pub run_tokens : (text : List ℕ) (tokens : List Token) → token_run (marks_of text tokens) ≡ items_of text (take (plain_length text tokens) tokens)
run_tokens text [] = refl
run_tokens text (t ∷ tokens) = go (is_plain_text (bytes_of text t)) refl (run_tokens text tokens)
  where
    go : (b : Bool) → is_plain_text (bytes_of text t) ≡ b → token_run (marks_of text tokens) ≡ items_of text (take (plain_length text tokens) tokens) →
        token_run (token_mark text t ∷ marks_of text tokens) ≡ items_of text (take (cond b (1 + plain_length text tokens) 0) (t ∷ tokens))
    go true e again =
        let one : 1 + plain_length text tokens ≡ suc (plain_length text tokens) = omega arith in
        ap (λ m. token_run (m ∷ marks_of text tokens)) (plain_is text t true e) ∙ ap (λ f. item_of text t ∷ f) again
        ∙ ap (λ n. items_of text (take n (t ∷ tokens))) (sym one)
    go false e again = (run_ended (token_mark text t) (marks_of text tokens) (plain_is text t false e)).0

pub behind_tokens : (text : List ℕ) (tokens : List Token) → behind_run (marks_of text tokens) ≡ marks_of text (drop (plain_length text tokens) tokens)
behind_tokens text [] = refl
behind_tokens text (t ∷ tokens) = go (is_plain_text (bytes_of text t)) refl (behind_tokens text tokens)
  where
    go : (b : Bool) → is_plain_text (bytes_of text t) ≡ b → behind_run (marks_of text tokens) ≡ marks_of text (drop (plain_length text tokens) tokens) →
        behind_run (token_mark text t ∷ marks_of text tokens) ≡ marks_of text (drop (cond b (1 + plain_length text tokens) 0) (t ∷ tokens))
    go true e again =
        let one : 1 + plain_length text tokens ≡ suc (plain_length text tokens) = omega arith in
        ap (λ m. behind_run (m ∷ marks_of text tokens)) (plain_is text t true e) ∙ again
        ∙ ap (λ n. marks_of text (drop n (t ∷ tokens))) (sym one)
    go false e again = (run_ended (token_mark text t) (marks_of text tokens) (plain_is text t false e)).1

-- from the token at i of a formula on
pub tokens_from : (text : List ℕ) (tokens : List Token) (i : ℕ) → i ≤ length (token_run (marks_of text tokens)) → marks_of text (drop i tokens) ≡ from_token i (marks_of text tokens)
tokens_from text [] i h = ap (λ n. marks_of text (drop n [])) (let e : i ≡ 0 = omega arith in e) ∙ ap (λ n. map plain (drop n []) ++ []) (let e : 0 ≡ i = omega arith in e)
tokens_from text (t ∷ tokens) zero h = whole (token_mark text t ∷ marks_of text tokens)
  where
    whole : (s : List Mark) → s ≡ map plain (token_run s) ++ behind_run s
    whole [] = refl
    whole (plain x ∷ s) = ap (λ u. plain x ∷ u) (whole s)
    whole (word w p ∷ s) = refl
    whole (label l p ∷ s) = refl
tokens_from text (t ∷ tokens) (suc i) h = go (is_plain_text (bytes_of text t)) refl (tokens_from text tokens i)
  where
    go : (b : Bool) → is_plain_text (bytes_of text t) ≡ b →
        (i ≤ length (token_run (marks_of text tokens)) → marks_of text (drop i tokens) ≡ from_token i (marks_of text tokens)) → marks_of text (drop i tokens) ≡ from_token (suc i) (token_mark text t ∷ marks_of text tokens)
    go true e later =
        let is = plain_is text t true e in
        let short : suc i ≤ length (token_run (plain (item_of text t) ∷ marks_of text tokens)) = subst (λ m. suc i ≤ length (token_run (m ∷ marks_of text tokens))) is h in
        later (omega (arith, short)) ∙ ap (λ m. from_token (suc i) (m ∷ marks_of text tokens)) (sym is)
    go false e later =
        let none = (run_ended (token_mark text t) (marks_of text tokens) (plain_is text t false e)).0 in
        absurd (omega (arith, h, ap length none))

-- the word by its bytes
pub word_test : (bytes : List ℕ) (from : ℕ) (item : Item) (w : List ℕ) →
    is_word_mark w (mark_by bytes from item) ≡ (bytes_eq bytes w && (not (begins_with at_sign bytes) && is_structural bytes))
word_test bytes from item w = go (begins_with at_sign bytes) (is_structural bytes) (bytes_eq bytes w) refl
  where
    go : (a b d : Bool) → bytes_eq bytes w ≡ d → is_word_mark w (cond a (label (drop 1 bytes) from) (cond b (word bytes from) (plain item))) ≡ (d && (not a && b))
    go true b true e = refl
    go true b false e = refl
    go false true true e = e
    go false true false e = e
    go false false true e = refl
    go false false false e = refl

-- past one token, as a slice from the second on
pub took_one : (test : Mark → Bool) (text : List ℕ) (tokens : List Token) → is_at test (marks_of text tokens) ≡ true →
    (x : Mark) × (marks_of text tokens ≡ x ∷ marks_of text (take (length tokens - 1) (drop 1 tokens))) × (test x ≡ true)
took_one test text [] e = cc
took_one test text (t ∷ tokens) e =
    let n : suc (length tokens) - 1 ≡ length tokens = omega arith in
    let whole : take (suc (length tokens) - 1) tokens ≡ tokens = ap (λ k. take k tokens) n ∙ take-length tokens in
    (token_mark text t, ap (λ ts. token_mark text t ∷ marks_of text ts) (sym whole), e)

pub at_first : (test : Mark → Bool) (text : List ℕ) (tokens : List Token) (t : Token) → Some t ≡ slice_get tokens 0 → is_at test (marks_of text tokens) ≡ test (token_mark text t)
at_first test text [] t e = cc
at_first test text (u ∷ tokens) t e = let same : u ≡ t = cc in ap (λ v. test (token_mark text v)) same

-- formulas, by slices
pub rest_slice : {A : Type 0} (n : ℕ) (xs : List A) → take (length xs - n) (drop n xs) ≡ drop n xs
rest_slice n xs = take_rest xs n

module _ {X : Type 0} (F : Bounds → List Item → X → Type 0) (text : List ℕ) (tokens : List Token) (n : ℕ) (s : List Mark) (view : marks_of text tokens ≡ s) (size : n ≡ plain_length text tokens) where
  run_is : token_run s ≡ items_of text (take n tokens)
  run_is = ap token_run (sym view) ∙ run_tokens text tokens ∙ ap (λ k. items_of text (take k tokens)) (sym size)

  pub formula_read : (t : X) → F limits (items_of text (take n tokens)) t → FormulaRun F limits s t (marks_of text (take (length tokens - n) (drop n tokens)))
  formula_read t k = record {
    spelled = subst (λ f. F limits f t) (sym run_is) k;
    behind =
        ap (marks_of text) (rest_slice n tokens) ∙ ap (λ m. marks_of text (drop m tokens)) size ∙ sym (behind_tokens text tokens) ∙ ap behind_run view;
  }

  at_token : (i : ℕ) → i ≤ length (token_run s) → marks_of text (take (length tokens - i) (drop i tokens)) ≡ from_token i s
  at_token i short =
      ap (marks_of text) (rest_slice i tokens) ∙ tokens_from text tokens i (subst (λ m. i ≤ length (token_run m)) (sym view) short) ∙ ap (from_token i) view

  pub formula_unexpected : (i : ℕ) → FailsBy F (items_of text (take n tokens)) (fault.Unexpected i) → ReadsFormula F s (Err stop.Unexpected) (marks_of text (take (length tokens - i) (drop i tokens)))
  formula_unexpected i k =
      let there : FailsBy F (token_run s) (fault.Unexpected i) = subst (λ f. FailsBy F f (fault.Unexpected i)) (sym run_is) k in
      (i, at_token i there.first.0, there)

  pub formula_too_large : (i : ℕ) → FailsBy F (items_of text (take n tokens)) (fault.TooLarge i) → ReadsFormula F s (Err stop.TooLarge) (marks_of text (take (length tokens - i) (drop i tokens)))
  formula_too_large i k =
      let there : FailsBy F (token_run s) (fault.TooLarge i) = subst (λ f. FailsBy F f (fault.TooLarge i)) (sym run_is) k in
      (i, at_token i (omega (arith, there.first.0)), there)

-- what the parsers of formulas and of actions tell
starts_placed : (h : Hole) (b : Bounds) (f : List Item) → BeginsOne (IsFormula h b) f → BeginsOne (IsPlaced h b) f
starts_placed h b f c = (c.0, (c.1, first_place (f ++ c.0)), (c.2, refl))

placed_fault : (h : Hole) (f : List Item) (e : ParseFault) → IsFault h f e → IsFaultOf (within_bound (IsPlaced h)) f e
placed_fault h f (fault.Unexpected i) k = (
  k.0,
  starts_placed h parts (take i f) k.1,
  record { before = starts_placed h none (take i f) k.2.before; there = λ l c. k.2.there l (c.0, c.1.0, c.2.0); at_end = λ e p s. k.2.at_end e p.0 s.0 },
  k.3,
)
placed_fault h f (fault.TooLarge i) k = (
  k.0,
  starts_placed h parts (take i f) k.1,
  k.2,
  elim k.3 [ inl a ↦ inl a | inr a ↦ inr (starts_placed h none (take (i + 1) f) a.0, λ c. a.1 (c.0, c.1.0, c.2.0)) ],
)
placed_fault h f fault.OutOfMemory k = tt

pub formula_fails : (h : Hole) (f : List Item) (e : ParseFault) → IsFault h f e → ((t : Raw) → IsSentence h f t → ⊥) → FailsBy (IsPlaced h) f e
formula_fails h f e k isnt = record { first = placed_fault h f e k; wrong = λ p s. isnt p.0 s.0 }

action_fault : (f : List Item) (e : ParseFault) → IsActionFault f e → IsFaultOf (within_bound IsActionWithin) f e
action_fault f (fault.Unexpected i) k = k
action_fault f (fault.TooLarge i) k = k
action_fault f fault.OutOfMemory k = tt

pub action_fails : (f : List Item) (e : ParseFault) → IsActionFault f e → ((a : RawAction) → IsAction f a → ⊥) → FailsBy IsActionWithin f e
action_fails f e k isnt = record { first = action_fault f e k; wrong = isnt }

-- one of two words
pub either_first : (v w : List ℕ) (s m : List Mark) → Takes (is_word_mark v) s true m → Takes (either v w) s true m
either_first v w s m k = (k.0, k.1, ap (λ b. b || is_word_mark w k.0) k.2)

pub either_second : (v w : List ℕ) (s a m : List Mark) (b : Bool) → Takes (is_word_mark v) s false a → Takes (is_word_mark w) a b m → Takes (either v w) s b m
either_second v w s a m true k h =
    let there : s ≡ h.0 ∷ m = sym k.0 ∙ h.1 in
    (h.0, there, ap (λ b. b || is_word_mark w h.0) (sym (ap (is_at (is_word_mark v)) there) ∙ k.1) ∙ h.2)
either_second v w s a m false k h = (h.0 ∙ k.0, neither s k.1 (ap (is_at (is_word_mark w)) (sym k.0) ∙ h.1))
  where
    neither : (s : List Mark) → is_at (is_word_mark v) s ≡ false → is_at (is_word_mark w) s ≡ false → is_at (either v w) s ≡ false
    neither [] p q = refl
    neither (x ∷ s) p q = ap (λ b. b || is_word_mark w x) p ∙ q
