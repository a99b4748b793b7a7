-- Where a comment ends, and how far gaps reach.
use Rattle.std.proofs.Common.{◌≡◌, ℕ, suc, zero, ◌+◌, ◌<◌, ◌≤◌, ◌==◌, not, List, [], ◌∷◌, length, drop, Bool, true, false, Some, None, refl, ap, ◌∙◌, arith, cond, nat_lt, subst, ◌&&◌}
use Rattle.std.specs.Prelude.{Option}
use Rattle.std.specs.Option.{option_map}
use Rattle.std.specs.List.{prefix_len}
use Rattle.std.proofs.lemmas.Bool.Decides.{nat_tests}
use Rattle.math_tokens.specs.Texts.{blank_length, second_length}
use Rattle.component_tokens.specs.declared.gap.Gap.{Gap}
use Rattle.component_tokens.specs.declared.gap.Gap.TheVariants as gap
use Rattle.component_tokens.specs.Gaps.{closes, closing, comment_closed, behind_slash, comment_in, gap_in, line_length, slash, star}

-- an end so many bytes further on
abbrev pub further : ℕ → Option ℕ → Option ℕ
further n o = option_map (λ m. n + m) o

further_twice : (n : ℕ) (o : Option ℕ) → further n (further 1 o) ≡ further (n + 1) o
further_twice n None = refl
further_twice n (Some m) = ap Some (let e : n + (1 + m) ≡ n + 1 + m = omega arith in e)

one_further : (xs : List ℕ) (i : ℕ) → i < length xs → closes (drop i xs) ≡ false → closing (drop i xs) ≡ further 1 (closing (drop (i + 1) xs))
one_further [] i h e = absurd (omega arith)
one_further (x ∷ xs) zero h e = ap (λ b. cond b (Some 2) (further 1 (closing xs))) e
one_further (x ∷ xs) (suc i) h e = one_further xs i (omega arith) e ∙ ap (λ n. further 1 (closing (drop n (x ∷ xs)))) (let e : suc (i + 1) ≡ suc i + 1 = omega arith in e)

-- past a byte at which `*/` doesn't begin
pub closing_later : (xs : List ℕ) (i : ℕ) → i < length xs → closes (drop i xs) ≡ false → further i (closing (drop i xs)) ≡ further (i + 1) (closing (drop (i + 1) xs))
closing_later xs i h e = ap (further i) (one_further xs i h e) ∙ further_twice i (closing (drop (i + 1) xs))

-- at a byte at which it begins
pub closing_here : (xs : List ℕ) (i : ℕ) → closes (drop i xs) ≡ true → closing (drop i xs) ≡ Some 2
closing_here xs i e = go (drop i xs) e
  where
    go : (ys : List ℕ) → closes ys ≡ true → closing ys ≡ Some 2
    go [] e = cc
    go (y ∷ ys) e = ap (λ b. cond b (Some 2) (further 1 (closing ys))) e

-- gaps lie within the text
cond_within : (b : Bool) (x y n : ℕ) → x ≤ n → y ≤ n → cond b x y ≤ n
cond_within true x y n h k = h
cond_within false x y n h k = k

second_within : (xs : List ℕ) → second_length xs ≤ 1 + length xs
second_within [] = omega arith
second_within (c ∷ cs) = cond_within (c == 160) 2 0 (1 + length (c ∷ cs)) (omega arith) (omega arith)

pub blank_within : (xs : List ℕ) → blank_length xs ≤ length xs
blank_within [] = omega arith
blank_within (c ∷ cs) = cond_within _ 1 _ (length (c ∷ cs)) (omega arith) (cond_within (c == 194) (second_length cs) 0 (length (c ∷ cs)) (omega (arith, second_within cs)) (omega arith))

pub prefix_within : (p : ℕ → Bool) (xs : List ℕ) → prefix_len p xs ≤ length xs
prefix_within p [] = omega arith
prefix_within p (x ∷ xs) = cond_within (p x) (1 + prefix_len p xs) 0 (length (x ∷ xs)) (omega (arith, prefix_within p xs)) (omega arith)

abbrev EndsWithin : Option ℕ → ℕ → Type 0
EndsWithin None n = Unit {0}
EndsWithin (Some m) n = m ≤ n

closing_within : (xs : List ℕ) → EndsWithin (closing xs) (length xs)
closing_within [] = tt
closing_within (x ∷ xs) = go (closes (x ∷ xs)) refl (closing xs) (closing_within xs)
  where
    long : (ys : List ℕ) (y : ℕ) → closes (y ∷ ys) ≡ true → 2 ≤ length (y ∷ ys)
    long [] y e = elim (y == star) as (λ b. (b && false) ≡ true → 2 ≤ 1) [ true ↦ λ e. cc | false ↦ λ e. cc ] e
    long (z ∷ ys) y e = omega arith

    go : (b : Bool) → closes (x ∷ xs) ≡ b → (o : Option ℕ) → EndsWithin o (length xs) → EndsWithin (cond b (Some 2) (further 1 o)) (length (x ∷ xs))
    go true e o h = long xs x e
    go false e None h = tt
    go false e (Some m) h = omega (arith, h)

abbrev GapWithin : Gap → ℕ → Type 0
GapWithin gap.Nothing n = Unit {0}
GapWithin (gap.Bytes m) n = (0 < m) × (m ≤ n)
GapWithin gap.OpenComment n = Unit {0}

slash_within : (xs : List ℕ) → GapWithin (behind_slash xs) (1 + length xs)
slash_within [] = tt
slash_within (c ∷ cs) = go (c == slash) (c == star) (closing cs) (closing_within cs)
  where
    go : (a b : Bool) (o : Option ℕ) → EndsWithin o (length cs) → GapWithin (cond a (gap.Bytes (2 + line_length cs)) (cond b (comment_closed o) gap.Nothing)) (1 + length (c ∷ cs))
    go true b o h = (omega arith, omega (arith, prefix_within (λ c. not (c == 10)) cs))
    go false true None h = tt
    go false true (Some m) h = (omega arith, omega (arith, h))
    go false false o h = tt

comment_within : (xs : List ℕ) → GapWithin (comment_in xs) (length xs)
comment_within [] = tt
comment_within (c ∷ cs) = go (c == slash)
  where
    go : (a : Bool) → GapWithin (cond a (behind_slash cs) gap.Nothing) (length (c ∷ cs))
    go true = more (behind_slash cs) (slash_within cs)
      where
        more : (g : Gap) → GapWithin g (1 + length cs) → GapWithin g (length (c ∷ cs))
        more gap.Nothing h = tt
        more (gap.Bytes m) h = (h.0, omega (arith, h.1))
        more gap.OpenComment h = tt
    go false = tt

gap_is_within : (xs : List ℕ) → GapWithin (gap_in xs) (length xs)
gap_is_within xs = go (nat_lt 0 (blank_length xs)) refl
  where
    go : (a : Bool) → nat_lt 0 (blank_length xs) ≡ a → GapWithin (cond a (gap.Bytes (blank_length xs)) (comment_in xs)) (length xs)
    go true e = (grind (arith, nat_tests), blank_within xs)
    go false e = comment_within xs

pub gap_span : (xs : List ℕ) (n : ℕ) → gap_in xs ≡ gap.Bytes n → (0 < n) × (n ≤ length xs)
gap_span xs n e = let P : Gap → Type 0 = λ g. GapWithin g (length xs) in subst P e (gap_is_within xs)

-- what is no gap is no blank
pub no_blank : (xs : List ℕ) → gap_in xs ≡ gap.Nothing → blank_length xs ≡ 0
no_blank xs e = go (nat_lt 0 (blank_length xs)) refl e
  where
    go : (a : Bool) → nat_lt 0 (blank_length xs) ≡ a → cond a (gap.Bytes (blank_length xs)) (comment_in xs) ≡ gap.Nothing → blank_length xs ≡ 0
    go true e f = cc
    go false e f = grind (arith, nat_tests)
