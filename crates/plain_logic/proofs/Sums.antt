-- What linear forms are worth in a reading.
use Rattle.std.proofs.Common.{◌≡◌, ◌∙◌, sym, ap, subst, refl, ℤ, pos, ◌+ℤ◌, ◌*ℤ◌, Bool, true, false, ◌||◌, List, [], ◌∷◌, ◌++◌, if◌then◌else◌, arith, Ok, Err}
use Rattle.std.proofs.lemmas.Int.{ints}
use Rattle.formula_core.specs.declared.Formula.{Formula}
use Rattle.formula_core.specs.Same.{same_formula}
use Rattle.formula_core.proofs.SameFormulas.{same_formula_exact, same_formula_refl}
use Rattle.rule_table.specs.Linear.{Act, plus, minus, acted, checked, fits_i128, Linear, OrTooWide, then_do, with_atom, multiple_of, is_met, kept, further, joined_by}
use Rattle.plain_logic.proofs.Integers.{plus_times, minus_times}

pub ok : {X : Type 0} (x y : X) (o : OrTooWide X) → o ≡ Ok x → o ≡ Ok y → x ≡ y
ok x y o e d = cc

pub then_ok : {X Y : Type 0} (o : OrTooWide X) (next : X → OrTooWide Y) (y : Y) → then_do o next ≡ Ok y → (x : X) × (o ≡ Ok x) × (next x ≡ Ok y)
then_ok (Ok x) next y e = (x, refl, e)
then_ok (Err k) next y e = absurd (cc)

abbrev pair : ℤ → ℤ → ℤ × ℤ
pair m n = (m, n)

pub checked_ok : (act : Act) (m n k : ℤ) → checked act m n ≡ Ok k → k ≡ acted act m n
checked_ok act m n k e = go (fits_i128 (acted act m n)) e
  where
    go : (b : Bool) → (if b then Ok (acted act m n) else Err (pair m n)) ≡ Ok k → k ≡ acted act m n
    go true d = cc
    go false d = absurd (cc)

-- sums and differences go through sums and products
pub record AddsUp (act : Act) : Type 0 where
  pub sums : (a b c d : ℤ) → acted act (a +ℤ b) (c +ℤ d) ≡ acted act a c +ℤ acted act b d
  pub products : (a b c : ℤ) → acted act a b *ℤ c ≡ acted act (a *ℤ c) (b *ℤ c)
  pub nothing : acted act (pos 0) (pos 0) ≡ pos 0

pub plus_adds : AddsUp plus
plus_adds = record { sums = λ a b c d. omega (arith, ints); products = plus_times; nothing = refl }

pub minus_adds : AddsUp minus
minus_adds = record { sums = λ a b c d. omega (arith, ints); products = minus_times; nothing = refl }

abbrev pub AreDistinct : List (Formula × ℤ) → Type 0
AreDistinct [] = Unit
AreDistinct (a ∷ xs) = (is_met xs a.0 ≡ false) × AreDistinct xs

neither : (a b : Bool) → (a || b) ≡ false → (a ≡ false) × (b ≡ false)
neither false b h = (refl, h)
neither true b h = absurd (cc)

same_turned : (f g : Formula) (b : Bool) → same_formula f g ≡ b → same_formula g f ≡ b
same_turned f g true h = let e : f ≡ g = same_formula_exact f g h in subst (λ x. same_formula x f ≡ true) e (same_formula_refl f)
same_turned f g false h = go (same_formula g f) refl
  where
    go : (c : Bool) → same_formula g f ≡ c → same_formula g f ≡ false
    go true k = let e : g ≡ f = same_formula_exact g f k in let no : same_formula f g ≡ true = subst (λ x. same_formula x g ≡ true) e (same_formula_refl g) in absurd (cc)
    go false k = k

module _ (number : Formula → ℤ) where
  abbrev pub weighed : List (Formula × ℤ) → ℤ
  weighed [] = pos 0
  weighed (a ∷ xs) = a.1 *ℤ number a.0 +ℤ weighed xs

  abbrev pub value : Linear → ℤ
  value a = a.constant +ℤ weighed a.atoms

  weighed_both : (xs ys : List (Formula × ℤ)) → weighed (xs ++ ys) ≡ weighed xs +ℤ weighed ys
  weighed_both [] ys = omega (arith, ints)
  weighed_both (x ∷ xs) ys = let e = weighed_both xs ys in omega (arith, ints, e)

  abbrev taken : List (Formula × ℤ) → List (Formula × ℤ) → ℤ
  taken second [] = pos 0
  taken second (a ∷ first) = multiple_of second a.0 *ℤ number a.0 +ℤ taken second first

  abbrev left_over : List (Formula × ℤ) → List (Formula × ℤ) → ℤ
  left_over first [] = pos 0
  left_over first (b ∷ second) = if is_met first b.0 then left_over first second else (b.1 *ℤ number b.0 +ℤ left_over first second)

  abbrev if_met : Bool → Formula × ℤ → ℤ
  if_met c b = if c then (b.1 *ℤ number b.0) else pos 0

  unmet : (second : List (Formula × ℤ)) (f : Formula) → is_met second f ≡ false → multiple_of second f ≡ pos 0
  unmet [] f h = refl
  unmet (b ∷ second) f h =
      let d = neither (same_formula b.0 f) (is_met second f) h in
      ap (λ c. if c then b.1 else multiple_of second f) d.0 ∙ unmet second f d.1

  nothing_taken : (first : List (Formula × ℤ)) → taken [] first ≡ pos 0
  nothing_taken [] = refl
  nothing_taken (a ∷ first) = let e = nothing_taken first in omega (arith, ints, e)

  taken_more : (b : Formula × ℤ) (second first : List (Formula × ℤ)) → is_met second b.0 ≡ false → AreDistinct first
      → taken (b ∷ second) first ≡ taken second first +ℤ if_met (is_met first b.0) b
  taken_more b second [] h d = refl
  taken_more b second (a ∷ first) h d = go (same_formula b.0 a.0) refl (taken_more b second first h d.1)
    where
      go : (c : Bool) → same_formula b.0 a.0 ≡ c → taken (b ∷ second) first ≡ taken second first +ℤ if_met (is_met first b.0) b
          → (if same_formula b.0 a.0 then b.1 else multiple_of second a.0) *ℤ number a.0 +ℤ taken (b ∷ second) first
          ≡ (multiple_of second a.0 *ℤ number a.0 +ℤ taken second first) +ℤ if_met (same_formula a.0 b.0 || is_met first b.0) b
      go true k e =
          let one : b.0 ≡ a.0 = same_formula_exact b.0 a.0 k in
          let none : multiple_of second a.0 ≡ pos 0 = subst (λ x. multiple_of second x ≡ pos 0) one (unmet second b.0 h) in
          let gone : is_met first b.0 ≡ false = subst (λ x. is_met first x ≡ false) (sym one) d.0 in
          let at : number b.0 ≡ number a.0 = ap number one in
          let rest : taken (b ∷ second) first ≡ taken second first +ℤ pos 0 = e ∙ ap (λ c. taken second first +ℤ if_met c b) gone in
          let left : (if same_formula b.0 a.0 then b.1 else multiple_of second a.0) ≡ b.1 = ap (λ c. if c then b.1 else multiple_of second a.0) k in
          let right : if_met (same_formula a.0 b.0 || is_met first b.0) b ≡ b.1 *ℤ number b.0 = ap (λ c. if_met (c || is_met first b.0) b) (same_turned b.0 a.0 true k) in
          let there : b.1 *ℤ number b.0 ≡ b.1 *ℤ number a.0 = ap (λ n. b.1 *ℤ n) at in
          let gone_too : multiple_of second a.0 *ℤ number a.0 ≡ pos 0 *ℤ number a.0 = ap (λ n. n *ℤ number a.0) none in
          let first_one : (if same_formula b.0 a.0 then b.1 else multiple_of second a.0) *ℤ number a.0 ≡ b.1 *ℤ number a.0 = ap (λ n. n *ℤ number a.0) left in
          omega (arith, ints, rest, right, there, gone_too, first_one)
      go false k e =
          let left : (if same_formula b.0 a.0 then b.1 else multiple_of second a.0) *ℤ number a.0 ≡ multiple_of second a.0 *ℤ number a.0 =
          ap (λ c. (if c then b.1 else multiple_of second a.0) *ℤ number a.0) k in
          let right : if_met (same_formula a.0 b.0 || is_met first b.0) b ≡ if_met (is_met first b.0) b = ap (λ c. if_met (c || is_met first b.0) b) (same_turned b.0 a.0 false k) in
          omega (arith, ints, left, right, e)

  all_taken : (first second : List (Formula × ℤ)) → AreDistinct first → AreDistinct second → taken second first +ℤ left_over first second ≡ weighed second
  all_taken first [] d k = let e = nothing_taken first in omega (arith, ints, e)
  all_taken first (b ∷ second) d k = go (is_met first b.0) refl (all_taken first second d k.1) (taken_more b second first k.0 d)
    where
      go : (c : Bool) → is_met first b.0 ≡ c → taken second first +ℤ left_over first second ≡ weighed second
          → taken (b ∷ second) first ≡ taken second first +ℤ if_met (is_met first b.0) b
          → taken (b ∷ second) first +ℤ (if is_met first b.0 then left_over first second else (b.1 *ℤ number b.0 +ℤ left_over first second)) ≡ b.1 *ℤ number b.0 +ℤ weighed second
      go true h e m =
          let left : if_met (is_met first b.0) b ≡ b.1 *ℤ number b.0 = ap (λ c. if_met c b) h in
          let right : (if is_met first b.0 then left_over first second else (b.1 *ℤ number b.0 +ℤ left_over first second)) ≡ left_over first second =
          ap (λ c. if c then left_over first second else (b.1 *ℤ number b.0 +ℤ left_over first second)) h in
          omega (arith, ints, e, m, left, right)
      go false h e m =
          let left : if_met (is_met first b.0) b ≡ pos 0 = ap (λ c. if_met c b) h in
          let right : (if is_met first b.0 then left_over first second else (b.1 *ℤ number b.0 +ℤ left_over first second)) ≡ b.1 *ℤ number b.0 +ℤ left_over first second =
          ap (λ c. if c then left_over first second else (b.1 *ℤ number b.0 +ℤ left_over first second)) h in
          omega (arith, ints, e, m, left, right)

  module _ (act : Act) (adds : AddsUp act) where
    pub kept_value : (second first ks : List (Formula × ℤ)) → kept act second first ≡ Ok ks → weighed ks ≡ acted act (weighed first) (taken second first)
    kept_value second [] ks e = let d : ks ≡ [] = ok ks [] (kept act second []) e refl in ap weighed d ∙ sym adds.nothing
    kept_value second (a ∷ first) ks e =
        let c = then_ok (checked act a.1 (multiple_of second a.0)) (λ n. then_do (kept act second first) (λ rest. Ok ((a.0, n) ∷ rest))) ks e in
        let r = then_ok (kept act second first) (λ rest. Ok ((a.0, c.0) ∷ rest)) ks c.2 in
        let is : (a.0, c.0) ∷ r.0 ≡ ks = ok ((a.0, c.0) ∷ r.0) ks (Ok ((a.0, c.0) ∷ r.0)) refl r.2 in
        let m = checked_ok act a.1 (multiple_of second a.0) c.0 c.1 in
        let rest = kept_value second first r.0 r.1 in
        ap weighed (sym is) ∙ (λ i. m i *ℤ number a.0 +ℤ rest i) ∙ ap (λ n. n +ℤ acted act (weighed first) (taken second first)) (adds.products a.1 (multiple_of second a.0) (number a.0))
        ∙ sym (adds.sums (a.1 *ℤ number a.0) (weighed first) (multiple_of second a.0 *ℤ number a.0) (taken second first))

    pub further_value : (first second fs : List (Formula × ℤ)) → further act first second ≡ Ok fs → weighed fs ≡ acted act (pos 0) (left_over first second)
    further_value first [] fs e = let d : fs ≡ [] = ok fs [] (further act first []) e refl in ap weighed d ∙ sym adds.nothing
    further_value first (b ∷ second) fs e = go (is_met first b.0) refl e (λ gs k. further_value first second gs k)
      where
        go : (c : Bool) → is_met first b.0 ≡ c
            → (if is_met first b.0 then further act first second else with_atom b.0 (checked act (pos 0) b.1) (further act first second)) ≡ Ok fs
            → ((gs : List (Formula × ℤ)) → further act first second ≡ Ok gs → weighed gs ≡ acted act (pos 0) (left_over first second))
            → weighed fs ≡ acted act (pos 0) (if is_met first b.0 then left_over first second else (b.1 *ℤ number b.0 +ℤ left_over first second))
        go true h e each =
            let k : further act first second ≡ Ok fs = sym (ap (λ c. if c then further act first second else with_atom b.0 (checked act (pos 0) b.1) (further act first second)) h) ∙ e in
            each fs k ∙ ap (λ c. acted act (pos 0) (if c then left_over first second else (b.1 *ℤ number b.0 +ℤ left_over first second))) (sym h)
        go false h e each =
            let k : with_atom b.0 (checked act (pos 0) b.1) (further act first second) ≡ Ok fs =
            sym (ap (λ c. if c then further act first second else with_atom b.0 (checked act (pos 0) b.1) (further act first second)) h) ∙ e in
            let c = then_ok (checked act (pos 0) b.1) (λ n. then_do (further act first second) (λ rest. Ok ((b.0, n) ∷ rest))) fs k in
            let r = then_ok (further act first second) (λ rest. Ok ((b.0, c.0) ∷ rest)) fs c.2 in
            let is : (b.0, c.0) ∷ r.0 ≡ fs = ok ((b.0, c.0) ∷ r.0) fs (Ok ((b.0, c.0) ∷ r.0)) refl r.2 in
            let m = checked_ok act (pos 0) b.1 c.0 c.1 in
            let rest = each r.0 r.1 in
            let zero_times : pos 0 *ℤ number b.0 +ℤ pos 0 ≡ pos 0 = omega (arith, ints) in
            ap weighed (sym is) ∙ (λ i. m i *ℤ number b.0 +ℤ rest i) ∙ ap (λ n. n +ℤ acted act (pos 0) (left_over first second)) (adds.products (pos 0) b.1 (number b.0))
            ∙ sym (adds.sums (pos 0 *ℤ number b.0) (pos 0) (b.1 *ℤ number b.0) (left_over first second))
            ∙ ap (λ n. acted act n (b.1 *ℤ number b.0 +ℤ left_over first second)) zero_times
            ∙ ap (λ c. acted act (pos 0) (if c then left_over first second else (b.1 *ℤ number b.0 +ℤ left_over first second))) (sym h)

    -- the value of a sum or a difference
    pub joined_value : (a b l : Linear) → AreDistinct a.atoms → AreDistinct b.atoms → joined_by act a b ≡ Ok l → value l ≡ acted act (value a) (value b)
    joined_value a b l d k e =
        let c = then_ok (checked act a.constant b.constant) (λ c. then_do (kept act b.atoms a.atoms) (λ ks. then_do (further act a.atoms b.atoms) (λ fs. Ok (record { constant = c; atoms = ks ++ fs })))) l e in
        let ks = then_ok (kept act b.atoms a.atoms) (λ ks. then_do (further act a.atoms b.atoms) (λ fs. Ok (record { constant = c.0; atoms = ks ++ fs }))) l c.2 in
        let fs = then_ok (further act a.atoms b.atoms) (λ fs. Ok (record { constant = c.0; atoms = ks.0 ++ fs })) l ks.2 in
        let made : Linear = record { constant = c.0; atoms = ks.0 ++ fs.0 } in
        let is : made ≡ l = ok made l (Ok made) refl fs.2 in
        let wk = kept_value b.atoms a.atoms ks.0 ks.1 in
        let wf = further_value a.atoms b.atoms fs.0 fs.1 in
        let none : weighed a.atoms +ℤ pos 0 ≡ weighed a.atoms = omega (arith, ints) in
        ap value (sym is) ∙ ap (λ n. c.0 +ℤ n) (weighed_both ks.0 fs.0 ∙ (λ i. wk i +ℤ wf i) ∙ sym (adds.sums (weighed a.atoms) (pos 0) (taken b.atoms a.atoms) (left_over a.atoms b.atoms))
        ∙ (λ i. acted act (none i) (all_taken a.atoms b.atoms d k i)))
        ∙ ap (λ n. n +ℤ acted act (weighed a.atoms) (weighed b.atoms)) (checked_ok act a.constant b.constant c.0 c.1)
        ∙ sym (adds.sums a.constant (weighed a.atoms) b.constant (weighed b.atoms))
