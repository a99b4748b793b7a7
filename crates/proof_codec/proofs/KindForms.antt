-- What begins with the number of a kind.
use Rattle.std.proofs.Common.{◌≡◌, ◌∙◌, sym, ap, subst, refl, ℕ, zero, suc, ◌+◌, ℤ, ◌<◌, List, [], ◌∷◌, ◌++◌, Option, Some, None, slice_get, arith}
use Rattle.std.specs.Prelude.{Result, Ok, Err}
use Rattle.std.specs.Option.{option_and_then}
use Rattle.formula_core.specs.declared.Formula.{Formula}
use Rattle.rule_table.specs.declared.kind.RuleKind.{RuleKind}
use Rattle.rule_table.specs.declared.kind.RuleKind.TheVariants as kind
use Rattle.rule_table.specs.Kinds.{kind_number}
use Rattle.proof_codec.specs.declared.reader.ReadFault.{ReadFault}
use Rattle.proof_codec.specs.declared.reader.ReadFault.TheVariants as faults
use Rattle.proof_codec.specs.Forms.{BeginsNone}
use Rattle.proof_codec.specs.Numbers.{IsByte, byte, FitsU32, number_bytes, IsInteger, integer}
use Rattle.proof_codec.specs.Parts.{pair_bytes, IsPair, list_bytes, IsList}
use Rattle.proof_codec.specs.Formulas.{formula_bytes, IsGoodFormula}
use Rattle.proof_codec.specs.Rules.{kind_bytes, IsGoodKind}
use Rattle.proof_codec.specs.Private.{plain_kinds, plain_kind_at, IsReadAs, Misses, IsWrittenAs, WritesAs}
use Rattle.proof_codec.proofs.Tags.{tag_read, tag_none, same_behind}
use Rattle.proof_codec.proofs.Writing.{tag_written}

abbrev Terms : List Formula → Type 0
Terms = IsList IsGoodFormula

abbrev terms_bytes : List Formula → List ℕ
terms_bytes = list_bytes formula_bytes

abbrev Rewriting : ℕ × List ℕ → Type 0
Rewriting = IsPair IsByte (IsList FitsU32)

abbrev rewriting_bytes : ℕ × List ℕ → List ℕ
rewriting_bytes = pair_bytes byte (list_bytes number_bytes)

abbrev Multipliers : List ℤ → Type 0
Multipliers = IsList IsInteger

abbrev multipliers_bytes : List ℤ → List ℕ
multipliers_bytes = list_bytes integer

head_of : {a b : ℕ} {xs ys : List ℕ} → a ∷ xs ≡ b ∷ ys → a ≡ b
head_of e = cc

module _ (old mid new : List ℕ) where
  abbrev At : {A : Type 0} → ℕ → (A → Type 0) → (A → List ℕ) → (A → RuleKind) → Type 0
  At {A} tag P f form = (z : RuleKind) (others : List ℕ) → IsGoodKind z → tag ∷ mid ≡ kind_bytes z ++ others → (x : A) × (z ≡ form x) × P x × (mid ≡ f x ++ others)

  all_at : At 18 Terms terms_bytes (λ x. kind.AllL x)
  all_at (kind.AllL terms) others good split = (terms, refl, good, same_behind 18 _ _ split)
  all_at _ others good split = absurd (let same = head_of split in omega arith)

  exists_at : At 19 Terms terms_bytes (λ x. kind.ExR x)
  exists_at (kind.ExR terms) others good split = (terms, refl, good, same_behind 19 _ _ split)
  exists_at _ others good split = absurd (let same = head_of split in omega arith)

  goal_at : At 29 Rewriting rewriting_bytes (λ x. kind.RwGoal x.0 x.1)
  goal_at (kind.RwGoal law place) others good split = ((law, place), refl, good, same_behind 29 _ _ split)
  goal_at _ others good split = absurd (let same = head_of split in omega arith)

  hyp_at : At 30 Rewriting rewriting_bytes (λ x. kind.RwHyp x.0 x.1)
  hyp_at (kind.RwHyp law place) others good split = ((law, place), refl, good, same_behind 30 _ _ split)
  hyp_at _ others good split = absurd (let same = head_of split in omega arith)

  linear_at : At 31 Multipliers multipliers_bytes (λ x. kind.Linear x)
  linear_at (kind.Linear multipliers) others good split = (multipliers, refl, good, same_behind 31 _ _ split)
  linear_at _ others good split = absurd (let same = head_of split in omega arith)

  pub all_read : (terms : List Formula) → IsReadAs IsByte byte old 18 mid → IsReadAs Terms terms_bytes mid terms new → IsReadAs IsGoodKind kind_bytes old (kind.AllL terms) new
  all_read terms first read = tag_read IsGoodKind kind_bytes old mid new 18 Terms terms_bytes (λ x. kind.AllL x) all_at terms read.here.good refl first read

  pub no_all : (fault : ReadFault) → IsReadAs IsByte byte old 18 mid → Misses Terms terms_bytes mid fault → Misses IsGoodKind kind_bytes old fault
  no_all = tag_none IsGoodKind kind_bytes old mid new 18 Terms terms_bytes (λ x. kind.AllL x) all_at

  pub exists_read : (terms : List Formula) → IsReadAs IsByte byte old 19 mid → IsReadAs Terms terms_bytes mid terms new → IsReadAs IsGoodKind kind_bytes old (kind.ExR terms) new
  exists_read terms first read = tag_read IsGoodKind kind_bytes old mid new 19 Terms terms_bytes (λ x. kind.ExR x) exists_at terms read.here.good refl first read

  pub no_exists : (fault : ReadFault) → IsReadAs IsByte byte old 19 mid → Misses Terms terms_bytes mid fault → Misses IsGoodKind kind_bytes old fault
  no_exists = tag_none IsGoodKind kind_bytes old mid new 19 Terms terms_bytes (λ x. kind.ExR x) exists_at

  pub goal_read : (law : ℕ) (place : List ℕ) → IsReadAs IsByte byte old 29 mid → IsReadAs Rewriting rewriting_bytes mid (law, place) new → IsReadAs IsGoodKind kind_bytes old (kind.RwGoal law place) new
  goal_read law place first read = tag_read IsGoodKind kind_bytes old mid new 29 Rewriting rewriting_bytes (λ x. kind.RwGoal x.0 x.1) goal_at (law, place) read.here.good refl first read

  pub no_goal : (fault : ReadFault) → IsReadAs IsByte byte old 29 mid → Misses Rewriting rewriting_bytes mid fault → Misses IsGoodKind kind_bytes old fault
  no_goal = tag_none IsGoodKind kind_bytes old mid new 29 Rewriting rewriting_bytes (λ x. kind.RwGoal x.0 x.1) goal_at

  pub hyp_read : (law : ℕ) (place : List ℕ) → IsReadAs IsByte byte old 30 mid → IsReadAs Rewriting rewriting_bytes mid (law, place) new → IsReadAs IsGoodKind kind_bytes old (kind.RwHyp law place) new
  hyp_read law place first read = tag_read IsGoodKind kind_bytes old mid new 30 Rewriting rewriting_bytes (λ x. kind.RwHyp x.0 x.1) hyp_at (law, place) read.here.good refl first read

  pub no_hyp : (fault : ReadFault) → IsReadAs IsByte byte old 30 mid → Misses Rewriting rewriting_bytes mid fault → Misses IsGoodKind kind_bytes old fault
  no_hyp = tag_none IsGoodKind kind_bytes old mid new 30 Rewriting rewriting_bytes (λ x. kind.RwHyp x.0 x.1) hyp_at

  pub linear_read : (multipliers : List ℤ) → IsReadAs IsByte byte old 31 mid → IsReadAs Multipliers multipliers_bytes mid multipliers new → IsReadAs IsGoodKind kind_bytes old (kind.Linear multipliers) new
  linear_read multipliers first read = tag_read IsGoodKind kind_bytes old mid new 31 Multipliers multipliers_bytes (λ x. kind.Linear x) linear_at multipliers read.here.good refl first read

  pub no_linear : (fault : ReadFault) → IsReadAs IsByte byte old 31 mid → Misses Multipliers multipliers_bytes mid fault → Misses IsGoodKind kind_bytes old fault
  no_linear = tag_none IsGoodKind kind_bytes old mid new 31 Multipliers multipliers_bytes (λ x. kind.Linear x) linear_at

some_is_some : {a : RuleKind} → Some a ≡ None → ⊥
some_is_some e = cc

none_is_none : {a : RuleKind} → None ≡ Some a → ⊥
none_is_none e = cc

some_same : {a b : RuleKind} → Some a ≡ Some b → a ≡ b
some_same e = cc

-- the kinds of a list that begins at this number have these numbers, and nothing of their own
abbrev AtNumbers : ℕ → List (Option RuleKind) → Type 0
AtNumbers n [] = Unit {0}
AtNumbers n (None ∷ xs) = AtNumbers (suc n) xs
AtNumbers n (Some k ∷ xs) = (kind_bytes k ≡ n ∷ []) × IsGoodKind k × AtNumbers (suc n) xs

all_at_numbers : AtNumbers 0 plain_kinds
all_at_numbers = (refl, tt, (refl, tt, (refl, tt, (refl, tt, (refl, tt, (refl, tt, (refl, tt, (refl, tt, (refl, tt, (refl, tt, (refl, tt, (refl, tt, (refl, tt, (refl, tt, (refl, tt, (refl, tt, (refl, tt, (refl, tt, (refl, tt, (refl, tt, (refl, tt, (refl, tt, (refl, tt, (refl, tt, (refl, tt, (refl, tt, (refl, tt, (refl, tt, (refl, tt, (refl, tt, tt))))))))))))))))))))))))))))))

number_of_plain : (n : ℕ) (xs : List (Option RuleKind)) (m : ℕ) (k : RuleKind) → AtNumbers n xs → option_and_then (λ k. k) (slice_get xs m) ≡ Some k → (kind_bytes k ≡ (n + m) ∷ []) × IsGoodKind k
number_of_plain n [] m k all e = absurd cc
number_of_plain n (None ∷ xs) zero k all e = absurd cc
number_of_plain n (None ∷ xs) (suc m) k all e = let rest = number_of_plain (suc n) xs m k all e in (rest.0 ∙ ap (λ i. i ∷ []) (omega arith), rest.1)
number_of_plain n (Some j ∷ xs) zero k all e = let same : j ≡ k = some_same e in (ap kind_bytes (sym same) ∙ all.0 ∙ ap (λ i. i ∷ []) (omega arith), subst IsGoodKind same all.1)
number_of_plain n (Some j ∷ xs) (suc m) k all e = let rest = number_of_plain (suc n) xs m k all.2 e in (rest.0 ∙ ap (λ i. i ∷ []) (omega arith), rest.1)

-- a number that none of a list has that begins at this number
abbrev Lacks : ℕ → ℕ → List (Option RuleKind) → Type 0
Lacks tag n [] = Unit {0}
Lacks tag n (None ∷ xs) = Lacks tag (suc n) xs
Lacks tag n (Some k ∷ xs) = (tag ≡ n → ⊥) × Lacks tag (suc n) xs

none_in : (tag n : ℕ) (xs : List (Option RuleKind)) (m : ℕ) → tag ≡ n + m → Lacks tag n xs → option_and_then (λ k. k) (slice_get xs m) ≡ None
none_in tag n [] m is lacks = cc
none_in tag n (None ∷ xs) zero is lacks = cc
none_in tag n (None ∷ xs) (suc m) is lacks = none_in tag (suc n) xs m (omega (arith, is)) lacks
none_in tag n (Some j ∷ xs) zero is lacks = absurd (lacks.0 (omega (arith, is)))
none_in tag n (Some j ∷ xs) (suc m) is lacks = none_in tag (suc n) xs m (omega (arith, is)) lacks.1

pub no_plain : (tag : ℕ) → Lacks tag 0 plain_kinds → plain_kind_at tag ≡ None
no_plain tag lacks = none_in tag 0 plain_kinds tag (omega arith) lacks

-- a kind's number, and whether it is all that the kind has
record HasNumber (z : RuleKind) : Type 0 where
  behind : List ℕ
  is : kind_bytes z ≡ kind_number z ∷ behind
  small : kind_number z < 256
  -- the kind at its number is this one, with nothing behind it
  plain : (k : RuleKind) → plain_kind_at (kind_number z) ≡ Some k → (z ≡ k) × (behind ≡ []) × IsGoodKind k
  -- where none is at its number, it is one of five
  other : plain_kind_at (kind_number z) ≡ None → (kind_number z ≡ 18 → ⊥) → (kind_number z ≡ 19 → ⊥) → (kind_number z ≡ 29 → ⊥) → (kind_number z ≡ 30 → ⊥) → (kind_number z ≡ 31 → ⊥) → ⊥

has_number : (z : RuleKind) → HasNumber z
has_number (kind.AllL terms) = record { behind = terms_bytes terms; is = refl; small = omega arith; plain = λ k e. absurd (none_is_none e); other = λ e a b c d f. a refl }
has_number (kind.ExR terms) = record { behind = terms_bytes terms; is = refl; small = omega arith; plain = λ k e. absurd (none_is_none e); other = λ e a b c d f. b refl }
has_number (kind.RwGoal law place) = record { behind = rewriting_bytes (law, place); is = refl; small = omega arith; plain = λ k e. absurd (none_is_none e); other = λ e a b c d f. c refl }
has_number (kind.RwHyp law place) = record { behind = rewriting_bytes (law, place); is = refl; small = omega arith; plain = λ k e. absurd (none_is_none e); other = λ e a b c d f. d refl }
has_number (kind.Linear multipliers) = record { behind = multipliers_bytes multipliers; is = refl; small = omega arith; plain = λ k e. absurd (none_is_none e); other = λ e a b c d f. f refl }
has_number _ = record { behind = []; is = refl; small = omega arith; plain = λ k e. (let same = some_same e in (same, refl, subst IsGoodKind same tt)); other = λ e a b c d f. some_is_some e }

-- what stands behind a number
number_behind : (z : RuleKind) (tag : ℕ) (mid others : List ℕ) → tag ∷ mid ≡ kind_bytes z ++ others → (tag ≡ kind_number z) × (mid ≡ (has_number z).behind ++ others)
number_behind z tag mid others split =
    let h = has_number z in
    let k : tag ∷ mid ≡ kind_number z ∷ (h.behind ++ others) = split ∙ ap (λ b. b ++ others) h.is in
    ((cc), (cc))

pub plain_read : (old mid : List ℕ) (tag : ℕ) (k : RuleKind) → IsReadAs IsByte byte old tag mid → plain_kind_at tag ≡ Some k → IsReadAs IsGoodKind kind_bytes old k mid
plain_read old mid tag k first is = record {
  here = record { good = (number_of_plain 0 plain_kinds tag k all_at_numbers is).1; split = first.here.split ∙ ap (λ b. b ++ mid) (sym ((number_of_plain 0 plain_kinds tag k all_at_numbers is).0 ∙ ap (λ i. i ∷ []) (omega arith))) };
  only = λ z others begins.
      let n = number_behind z tag mid others (sym first.here.split ∙ begins.split) in
      let p = (has_number z).plain k (ap plain_kind_at (sym n.0) ∙ is) in
      (p.0, sym (n.1 ∙ ap (λ b. b ++ others) p.1));
}

pub no_kind : (old mid : List ℕ) (tag : ℕ) → IsReadAs IsByte byte old tag mid → plain_kind_at tag ≡ None → (tag ≡ 18 → ⊥) → (tag ≡ 19 → ⊥) → (tag ≡ 29 → ⊥) → (tag ≡ 30 → ⊥) → (tag ≡ 31 → ⊥)
    → BeginsNone IsGoodKind kind_bytes old
no_kind old mid tag first is a b c d e = record {
  none = λ z others begins.
      let n = number_behind z tag mid others (sym first.here.split ∙ begins.split) in
      (has_number z).other (ap plain_kind_at (sym n.0) ∙ is) (λ h. a (n.0 ∙ h)) (λ h. b (n.0 ∙ h)) (λ h. c (n.0 ∙ h)) (λ h. d (n.0 ∙ h)) (λ h. e (n.0 ∙ h));
}

pub no_kind_byte : (fault : ReadFault) (old : List ℕ) → Misses IsByte byte old fault → Misses IsGoodKind kind_bytes old fault
no_kind_byte faults.OutOfMemory old bad = tt
no_kind_byte faults.Bad old bad = record {
  none = λ z others begins.
      let h = has_number z in
      bad.none (kind_number z) (h.behind ++ others) (record { good = h.small; split = begins.split ∙ ap (λ b. b ++ others) h.is });
}

module _ (old mid new : List ℕ) where
  pub all_written : (terms : List Formula) → IsWrittenAs IsByte byte 18 old mid → IsWrittenAs Terms terms_bytes terms mid new → IsWrittenAs IsGoodKind kind_bytes (kind.AllL terms) old new
  all_written terms = tag_written Terms terms_bytes IsGoodKind kind_bytes 18 old mid new terms (kind.AllL terms) (λ good. good) refl

  pub exists_written : (terms : List Formula) → IsWrittenAs IsByte byte 19 old mid → IsWrittenAs Terms terms_bytes terms mid new → IsWrittenAs IsGoodKind kind_bytes (kind.ExR terms) old new
  exists_written terms = tag_written Terms terms_bytes IsGoodKind kind_bytes 19 old mid new terms (kind.ExR terms) (λ good. good) refl

  pub goal_written : (law : ℕ) (place : List ℕ) → IsWrittenAs IsByte byte 29 old mid → IsWrittenAs Rewriting rewriting_bytes (law, place) mid new → IsWrittenAs IsGoodKind kind_bytes (kind.RwGoal law place) old new
  goal_written law place = tag_written Rewriting rewriting_bytes IsGoodKind kind_bytes 29 old mid new (law, place) (kind.RwGoal law place) (λ good. good) refl

  pub hyp_written : (law : ℕ) (place : List ℕ) → IsWrittenAs IsByte byte 30 old mid → IsWrittenAs Rewriting rewriting_bytes (law, place) mid new → IsWrittenAs IsGoodKind kind_bytes (kind.RwHyp law place) old new
  hyp_written law place = tag_written Rewriting rewriting_bytes IsGoodKind kind_bytes 30 old mid new (law, place) (kind.RwHyp law place) (λ good. good) refl

  pub linear_written : (multipliers : List ℤ) → IsWrittenAs IsByte byte 31 old mid → IsWrittenAs Multipliers multipliers_bytes multipliers mid new → IsWrittenAs IsGoodKind kind_bytes (kind.Linear multipliers) old new
  linear_written multipliers = tag_written Multipliers multipliers_bytes IsGoodKind kind_bytes 31 old mid new multipliers (kind.Linear multipliers) (λ good. good) refl

-- a kind that has nothing of its own is its number
abbrev pub IsPlain : RuleKind → Type 0
IsPlain k = (kind_bytes k ≡ kind_number k ∷ []) × IsGoodKind k

pub plain_writes : {R E : Type 0} → (k : RuleKind) (tag : ℕ) (old new : List ℕ) (result : Result R E) → IsPlain k → tag ≡ kind_number k → WritesAs IsByte byte tag old new result → WritesAs IsGoodKind kind_bytes k old new result
plain_writes k tag old new (Ok done) plain is written = record { good = plain.1; bytes = written.bytes ∙ ap (λ b. old ++ b) (ap (λ n. n ∷ []) is ∙ sym plain.0) }
plain_writes k tag old new (Err fault) plain is kept = kept
