-- The connectives of a formula at each variant, and how many rules are enough for so many.
use Rattle.std.proofs.Common.{◌≡◌, ◌∙◌, sym, ap, subst, refl, ℕ, ◌+◌, ℤ, ◌*◌, ◌^◌, ◌-◌, ◌≤◌, ◌<◌, min, Bool, true, false, List, [], ◌∷◌, length, map, if◌then◌else◌, arith}
use Rattle.std.specs.Prelude.{nat_le}
use Rattle.std.proofs.Math.Pow.{pow_mono}
use Rattle.formula_core.specs.declared.Op.{Op}
use Rattle.formula_core.specs.declared.Binder.{Binder}
use Rattle.formula_core.specs.declared.Ty.{Ty}
use Rattle.formula_core.specs.declared.Formula.{Formula}
use Rattle.formula_core.specs.declared.Formula.TheOpen.{Int as IntF, Free as FreeF, Bound as BoundF, Node as NodeF, Bind as BindF}
use Rattle.formula_core.specs.declared.Formula.TheVariants.{Int, Free, Bound, Node, Bind}
use Rattle.formula_core.specs.declared.Formula.TheViews.{rolls-Int, rolls-Free, rolls-Bound, rolls-Node, rolls-Bind}
use Rattle.formula_core.proofs.Equations.{formula_fold}
use Rattle.formula_readings.specs.Forms.{negates, joins_two}
use Rattle.case_proofs.specs.Cases.{connectives_on, connectives_step, connectives}

pub connectives-Int : (n : ℤ) → connectives (Int n) ≡ 0
connectives-Int n = formula_fold connectives_step (IntF n) (Int n) (rolls-Int n)

pub connectives-Free : (name : List ℕ) (t : Ty) → connectives (Free name t) ≡ 0
connectives-Free name t = formula_fold connectives_step (FreeF name t) (Free name t) (rolls-Free name t)

pub connectives-Bound : (i : ℕ) (t : Ty) → connectives (Bound i t) ≡ 0
connectives-Bound i t = formula_fold connectives_step (BoundF i t) (Bound i t) (rolls-Bound i t)

pub connectives-Bind : (b : Binder) (types : List Ty) (parts : List Formula) (t : Ty) → connectives (Bind b types parts t) ≡ 0
connectives-Bind b types parts t = formula_fold connectives_step (BindF b types parts t) (Bind b types parts t) (rolls-Bind b types parts t)

pub ruleset equations = (connectives-Int, connectives-Free, connectives-Bound, connectives-Bind)

connectives-Node : (o : Op) (parts : List Formula) (t : Ty) → connectives (Node o parts t) ≡ connectives_on o (map connectives parts)
connectives-Node o parts t = formula_fold connectives_step (NodeF o parts t) (Node o parts t) (rolls-Node o parts t)

-- the same as the code has its facts
module _ (f : Formula) (o : Op) (parts items : List Formula) (t : Ty) (is : f ≡ Node o parts t) (same : items ≡ parts) where
  counted : connectives f ≡ connectives_on o (map connectives items)
  counted = ap connectives is ∙ connectives-Node o parts t ∙ ap (λ ps. connectives_on o (map connectives ps)) (sym same)

  pub count_one : (b : Bool) (p : Formula) → items ≡ p ∷ [] → negates o ≡ b → connectives f ≡ (if b then connectives p + 1 else 0)
  count_one b p one h = counted ∙ ap (λ ps. connectives_on o (map connectives ps)) one ∙ ap (λ c. if c then connectives p + 1 else 0) h

  pub count_two : (b : Bool) (p q : Formula) → items ≡ p ∷ q ∷ [] → joins_two o ≡ b → connectives f ≡ (if b then connectives p + connectives q + 1 else 0)
  count_two b p q two h = counted ∙ ap (λ ps. connectives_on o (map connectives ps)) two ∙ ap (λ c. if c then connectives p + connectives q + 1 else 0) h

  pub count_none : length items < 1 → connectives f ≡ 0
  count_none few = counted ∙ go items few
    where
      go : (xs : List Formula) → length xs < 1 → connectives_on o (map connectives xs) ≡ 0
      go [] few = refl
      go (x ∷ xs) few = absurd (omega (arith, few))

  pub count_more : 3 ≤ length items → connectives f ≡ 0
  count_more many = counted ∙ go items many
    where
      go : (xs : List Formula) → 3 ≤ length xs → connectives_on o (map connectives xs) ≡ 0
      go [] many = refl
      go (x ∷ []) many = absurd (omega (arith, many))
      go (x ∷ y ∷ []) many = absurd (omega (arith, many))
      go (x ∷ y ∷ z ∷ xs) many = refl

-- seven connectives are too many for 2,000 rules
pub too_many : (count : ℕ) → 7 ≤ count → 2048 ≤ 16 * 2 ^ count
too_many count h = let more : 2 ^ 7 ≤ 2 ^ count = pow_mono h in omega (arith, more)

-- sixty connectives allow more rules than a number of 64 bits
most_rules : (c : ℕ) → 60 ≤ c → 2 ^ 64 ≤ 16 * 2 ^ c
most_rules c h = let more : 2 ^ 60 ≤ 2 ^ c = pow_mono h in omega (arith, more)

pub many_rules : (c count : ℕ) → count ≡ min c (2 ^ 32 - 1) → 60 ≤ count → 2 ^ 64 - 1 ≡ min (16 * 2 ^ c) (2 ^ 64 - 1)
many_rules c count e many = let more : 60 ≤ c = omega (arith, e, many) in let large = most_rules c more in omega (arith, large)

pub few_power : (count : ℕ) → count ≤ 59 → 2 ^ count ≤ 2 ^ 59
few_power count few = pow_mono few

pub few_rules : (c count : ℕ) → count ≡ min c (2 ^ 32 - 1) → count ≤ 59 → 16 * 2 ^ count ≡ min (16 * 2 ^ c) (2 ^ 64 - 1)
few_rules c count e few =
    let same : count ≡ c = omega (arith, e, few) in
    let less = few_power count few in
    ap (λ n. 16 * 2 ^ n) same ∙ whole c (subst (λ n. 2 ^ n ≤ 2 ^ 59) same less)
  where
    whole : (n : ℕ) → 2 ^ n ≤ 2 ^ 59 → 16 * 2 ^ n ≡ min (16 * 2 ^ n) (2 ^ 64 - 1)
    whole n h = omega (arith, h)

-- the count that stops at its greatest value is exact where the rules are enough
pub exact_count : (c count budget : ℕ) → count ≡ min c (2 ^ 32 - 1) → 16 * 2 ^ count ≤ budget → budget ≤ 2000 → count ≡ c
exact_count c count budget e few most = by_cases (nat_le 7 count) refl
  where
    by_cases : (b : Bool) → nat_le 7 count ≡ b → count ≡ c
    by_cases true k = let more : 7 ≤ count = grind (arith, k) in let large = too_many count more in absurd (omega (arith, large, few, most))
    by_cases false k = let less : count < 7 = grind (arith, k) in omega (arith, e, less)

-- fewer connectives need fewer rules
pub needs_less : (c count budget : ℕ) → count ≡ min c (2 ^ 32 - 1) → 16 * 2 ^ c ≤ budget → 16 * 2 ^ count ≤ budget
needs_less c count budget e few = let less : count ≤ c = omega (arith, e) in let power : 2 ^ count ≤ 2 ^ c = pow_mono less in omega (arith, few, power)
