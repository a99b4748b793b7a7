-- A linear step keeps truth in each reading.
use Rattle.std.proofs.Common.{◌≡◌, ◌∙◌, sym, ap, subst, refl, ℤ, pos, negsuc, ◌+ℤ◌, ◌-ℤ◌, ◌*ℤ◌, Bool, true, false, not, ◌||◌, List, [], ◌∷◌, ◌++◌, if◌then◌else◌, arith, Ok}
use Rattle.std.specs.List.{AllByRecursion, list_all}
use Rattle.std.proofs.lemmas.Bool.{eqb-true}
use Rattle.std.proofs.lemmas.Int.{ints}
use Rattle.formula_core.specs.declared.Formula.{Formula}
use Rattle.formula_core.specs.Same.{same_formula}
use Rattle.formula_core.proofs.SameFormulas.{same_formula_exact, same_formula_refl}
use Rattle.formula_core.proofs.Weakening.{first_true, second_true}
use Rattle.rule_table.specs.Linear.{Act, plus, minus, times, checked, Linear, OrTooWide, then_do, with_atom, multiple_of, is_met, kept, further, joined_by, each_times, scaled, times_form, form_times, is_zero, is_constant, constant_form, atom, product_form, linear}
use Rattle.plain_logic.proofs.Integers.{times_plus, times_times, times_turned}
use Rattle.plain_logic.proofs.Sums.{ok, then_ok, checked_ok, plus_adds, minus_adds, AreDistinct, weighed, value, joined_value}

-- atoms stay distinct
met_both : (f : Formula) (xs ys : List (Formula × ℤ)) → is_met xs f ≡ false → is_met ys f ≡ false → is_met (xs ++ ys) f ≡ false
met_both f [] ys h k = k
met_both f (x ∷ xs) ys h k = go (same_formula x.0 f) refl h (λ m. met_both f xs ys m k)
  where
    go : (c : Bool) → same_formula x.0 f ≡ c → (same_formula x.0 f || is_met xs f) ≡ false → (is_met xs f ≡ false → is_met (xs ++ ys) f ≡ false) → (same_formula x.0 f || is_met (xs ++ ys) f) ≡ false
    go true e h each = let one : (same_formula x.0 f || is_met xs f) ≡ true = ap (λ c. c || is_met xs f) e in absurd (cc)
    go false e h each =
        let rest : is_met xs f ≡ false = sym (ap (λ c. c || is_met xs f) e) ∙ h in ap (λ c. c || is_met (xs ++ ys) f) e ∙ each rest

distinct_both : (xs ys : List (Formula × ℤ)) → AreDistinct xs → AreDistinct ys → AllByRecursion (λ a. is_met ys a.0 ≡ false) xs → AreDistinct (xs ++ ys)
distinct_both [] ys d k h = k
distinct_both (x ∷ xs) ys d k h = (met_both x.0 xs ys d.0 h.0, distinct_both xs ys d.1 k h.1)

not_met : (a b : Bool) → (a || b) ≡ false → b ≡ false
not_met true b h = absurd (cc)
not_met false b h = h

module _ (act : Act) where
  kept_met : (second xs ks : List (Formula × ℤ)) (f : Formula) → kept act second xs ≡ Ok ks → is_met ks f ≡ is_met xs f
  kept_met second [] ks f e = let d : ks ≡ [] = ok ks [] (kept act second []) e refl in ap (λ x. is_met x f) d
  kept_met second (a ∷ xs) ks f e =
      let c = then_ok (checked act a.1 (multiple_of second a.0)) (λ n. then_do (kept act second xs) (λ rest. Ok ((a.0, n) ∷ rest))) ks e in
      let r = then_ok (kept act second xs) (λ rest. Ok ((a.0, c.0) ∷ rest)) ks c.2 in
      let is : (a.0, c.0) ∷ r.0 ≡ ks = ok ((a.0, c.0) ∷ r.0) ks (Ok ((a.0, c.0) ∷ r.0)) refl r.2 in
      ap (λ x. is_met x f) (sym is) ∙ ap (λ b. same_formula a.0 f || b) (kept_met second xs r.0 f r.1)

  kept_distinct : (second xs ks : List (Formula × ℤ)) → AreDistinct xs → kept act second xs ≡ Ok ks → AreDistinct ks
  kept_distinct second [] ks d e = let k : ks ≡ [] = ok ks [] (kept act second []) e refl in subst AreDistinct (sym k) tt
  kept_distinct second (a ∷ xs) ks d e =
      let c = then_ok (checked act a.1 (multiple_of second a.0)) (λ n. then_do (kept act second xs) (λ rest. Ok ((a.0, n) ∷ rest))) ks e in
      let r = then_ok (kept act second xs) (λ rest. Ok ((a.0, c.0) ∷ rest)) ks c.2 in
      let is : (a.0, c.0) ∷ r.0 ≡ ks = ok ((a.0, c.0) ∷ r.0) ks (Ok ((a.0, c.0) ∷ r.0)) refl r.2 in
      subst AreDistinct is (kept_met second xs r.0 a.0 r.1 ∙ d.0, kept_distinct second xs r.0 d.1 r.1)

  -- what is further was not met in the second list before, nor in the first
  further_not : (first second fs : List (Formula × ℤ)) (f : Formula) → is_met second f ≡ false → further act first second ≡ Ok fs → is_met fs f ≡ false
  further_not first [] fs f h e = let d : fs ≡ [] = ok fs [] (further act first []) e refl in ap (λ x. is_met x f) d
  further_not first (b ∷ second) fs f h e = go (is_met first b.0) refl (λ gs k. further_not first second gs f (not_met (same_formula b.0 f) (is_met second f) h) k)
    where
      apart : (a c : Bool) → (a || c) ≡ false → a ≡ false
      apart true c k = absurd (cc)
      apart false c k = refl

      go : (c : Bool) → is_met first b.0 ≡ c → ((gs : List (Formula × ℤ)) → further act first second ≡ Ok gs → is_met gs f ≡ false) → is_met fs f ≡ false
      go true m each = each fs (sym (ap (λ c. if c then further act first second else with_atom b.0 (checked act (pos 0) b.1) (further act first second)) m) ∙ e)
      go false m each =
          let k : with_atom b.0 (checked act (pos 0) b.1) (further act first second) ≡ Ok fs =
          sym (ap (λ c. if c then further act first second else with_atom b.0 (checked act (pos 0) b.1) (further act first second)) m) ∙ e in
          let c = then_ok (checked act (pos 0) b.1) (λ n. then_do (further act first second) (λ rest. Ok ((b.0, n) ∷ rest))) fs k in
          let r = then_ok (further act first second) (λ rest. Ok ((b.0, c.0) ∷ rest)) fs c.2 in
          let is : (b.0, c.0) ∷ r.0 ≡ fs = ok ((b.0, c.0) ∷ r.0) fs (Ok ((b.0, c.0) ∷ r.0)) refl r.2 in
          ap (λ x. is_met x f) (sym is) ∙ (λ i. apart (same_formula b.0 f) (is_met second f) h i || each r.0 r.1 i)

  further_new : (first second fs : List (Formula × ℤ)) (f : Formula) → is_met first f ≡ true → further act first second ≡ Ok fs → is_met fs f ≡ false
  further_new first [] fs f h e = let d : fs ≡ [] = ok fs [] (further act first []) e refl in ap (λ x. is_met x f) d
  further_new first (b ∷ second) fs f h e = go (is_met first b.0) refl (λ gs k. further_new first second gs f h k)
    where
      unequal : (c : Bool) → same_formula b.0 f ≡ c → is_met first b.0 ≡ false → same_formula b.0 f ≡ false
      unequal true k m = let one : b.0 ≡ f = same_formula_exact b.0 f k in let yes : is_met first b.0 ≡ true = subst (λ x. is_met first x ≡ true) (sym one) h in absurd (cc)
      unequal false k m = k

      go : (c : Bool) → is_met first b.0 ≡ c → ((gs : List (Formula × ℤ)) → further act first second ≡ Ok gs → is_met gs f ≡ false) → is_met fs f ≡ false
      go true m each = each fs (sym (ap (λ c. if c then further act first second else with_atom b.0 (checked act (pos 0) b.1) (further act first second)) m) ∙ e)
      go false m each =
          let k : with_atom b.0 (checked act (pos 0) b.1) (further act first second) ≡ Ok fs =
          sym (ap (λ c. if c then further act first second else with_atom b.0 (checked act (pos 0) b.1) (further act first second)) m) ∙ e in
          let c = then_ok (checked act (pos 0) b.1) (λ n. then_do (further act first second) (λ rest. Ok ((b.0, n) ∷ rest))) fs k in
          let r = then_ok (further act first second) (λ rest. Ok ((b.0, c.0) ∷ rest)) fs c.2 in
          let is : (b.0, c.0) ∷ r.0 ≡ fs = ok ((b.0, c.0) ∷ r.0) fs (Ok ((b.0, c.0) ∷ r.0)) refl r.2 in
          ap (λ x. is_met x f) (sym is) ∙ (λ i. unequal (same_formula b.0 f) refl m i || each r.0 r.1 i)

  further_distinct : (first second fs : List (Formula × ℤ)) → AreDistinct second → further act first second ≡ Ok fs → AreDistinct fs
  further_distinct first [] fs d e = let k : fs ≡ [] = ok fs [] (further act first []) e refl in subst AreDistinct (sym k) tt
  further_distinct first (b ∷ second) fs d e = go (is_met first b.0) refl (λ gs k. further_distinct first second gs d.1 k)
    where
      go : (c : Bool) → is_met first b.0 ≡ c → ((gs : List (Formula × ℤ)) → further act first second ≡ Ok gs → AreDistinct gs) → AreDistinct fs
      go true m each = each fs (sym (ap (λ c. if c then further act first second else with_atom b.0 (checked act (pos 0) b.1) (further act first second)) m) ∙ e)
      go false m each =
          let k : with_atom b.0 (checked act (pos 0) b.1) (further act first second) ≡ Ok fs =
          sym (ap (λ c. if c then further act first second else with_atom b.0 (checked act (pos 0) b.1) (further act first second)) m) ∙ e in
          let c = then_ok (checked act (pos 0) b.1) (λ n. then_do (further act first second) (λ rest. Ok ((b.0, n) ∷ rest))) fs k in
          let r = then_ok (further act first second) (λ rest. Ok ((b.0, c.0) ∷ rest)) fs c.2 in
          let is : (b.0, c.0) ∷ r.0 ≡ fs = ok ((b.0, c.0) ∷ r.0) fs (Ok ((b.0, c.0) ∷ r.0)) refl r.2 in
          subst AreDistinct is (further_not first second r.0 b.0 d.0 r.1, each r.0 r.1)

  joined_distinct : (a b l : Linear) → AreDistinct a.atoms → AreDistinct b.atoms → joined_by act a b ≡ Ok l → AreDistinct l.atoms
  joined_distinct a b l d k e =
      let c = then_ok (checked act a.constant b.constant) (λ c. then_do (kept act b.atoms a.atoms) (λ ks. then_do (further act a.atoms b.atoms) (λ fs. Ok (record { constant = c; atoms = ks ++ fs })))) l e in
      let ks = then_ok (kept act b.atoms a.atoms) (λ ks. then_do (further act a.atoms b.atoms) (λ fs. Ok (record { constant = c.0; atoms = ks ++ fs }))) l c.2 in
      let fs = then_ok (further act a.atoms b.atoms) (λ fs. Ok (record { constant = c.0; atoms = ks.0 ++ fs })) l ks.2 in
      let made : Linear = record { constant = c.0; atoms = ks.0 ++ fs.0 } in
      let is : made ≡ l = ok made l (Ok made) refl fs.2 in
      subst (λ l. AreDistinct l.atoms) is (distinct_both ks.0 fs.0 (kept_distinct b.atoms a.atoms ks.0 d ks.1) (further_distinct a.atoms b.atoms fs.0 k fs.1)
      (each fs.0 ks.0 (λ f m. further_new a.atoms b.atoms fs.0 f (sym (kept_met b.atoms a.atoms ks.0 f ks.1) ∙ m) fs.1)))
    where
      each : (fs ks : List (Formula × ℤ)) → ((f : Formula) → is_met ks f ≡ true → is_met fs f ≡ false) → AllByRecursion (λ a. is_met fs a.0 ≡ false) ks
      each fs [] h = tt
      each fs (x ∷ ks) h = (h x.0 (ap (λ b. b || is_met ks x.0) (same_formula_refl x.0)), each fs ks (λ f m. h f (later (same_formula x.0 f) (is_met ks f) m)))
        where
          later : (a b : Bool) → b ≡ true → (a || b) ≡ true
          later true b h = refl
          later false b h = h

module _ (number : Formula → ℤ) where
  -- a form is worth this, and its atoms are distinct
  pub record IsWorth (n : ℤ) (l : Linear) : Type 0 where
    pub value : value number l ≡ n
    pub distinct : AreDistinct l.atoms

  pub constant_worth : (n : ℤ) → IsWorth n (constant_form n)
  constant_worth n = record { value = omega (arith, ints); distinct = tt }

  pub atom_worth : (f : Formula) → IsWorth (number f) (atom f)
  atom_worth f = record { value = omega (arith, ints); distinct = (refl, tt) }

  pub sum_worth : (m n : ℤ) (a b l : Linear) → IsWorth m a → IsWorth n b → joined_by plus a b ≡ Ok l → IsWorth (m +ℤ n) l
  sum_worth m n a b l p q e = record {
    value = joined_value number plus plus_adds a b l p.distinct q.distinct e ∙ (λ i. p.value i +ℤ q.value i);
    distinct = joined_distinct plus a b l p.distinct q.distinct e;
  }

  pub difference_worth : (m n : ℤ) (a b l : Linear) → IsWorth m a → IsWorth n b → joined_by minus a b ≡ Ok l → IsWorth (m -ℤ n) l
  difference_worth m n a b l p q e = record {
    value = joined_value number minus minus_adds a b l p.distinct q.distinct e ∙ (λ i. p.value i -ℤ q.value i);
    distinct = joined_distinct minus a b l p.distinct q.distinct e;
  }

  -- k times a form
  module _ (k : ℤ) (by : ℤ → OrTooWide ℤ) (exact : (n m : ℤ) → by n ≡ Ok m → m ≡ k *ℤ n) where
    each_value : (xs ys : List (Formula × ℤ)) → each_times by xs ≡ Ok ys → weighed number ys ≡ k *ℤ weighed number xs
    each_value [] ys e = let d : ys ≡ [] = ok ys [] (each_times by []) e refl in let z : pos 0 ≡ k *ℤ pos 0 = omega (arith, ints) in ap (weighed number) d ∙ z
    each_value (x ∷ xs) ys e =
        let c = then_ok (by x.1) (λ n. then_do (each_times by xs) (λ rest. Ok ((x.0, n) ∷ rest))) ys e in
        let r = then_ok (each_times by xs) (λ rest. Ok ((x.0, c.0) ∷ rest)) ys c.2 in
        let is : (x.0, c.0) ∷ r.0 ≡ ys = ok ((x.0, c.0) ∷ r.0) ys (Ok ((x.0, c.0) ∷ r.0)) refl r.2 in
        let m = exact x.1 c.0 c.1 in
        ap (weighed number) (sym is) ∙ (λ i. m i *ℤ number x.0 +ℤ each_value xs r.0 r.1 i) ∙ ap (λ n. n +ℤ k *ℤ weighed number xs) (times_times k x.1 (number x.0))
        ∙ sym (times_plus k (x.1 *ℤ number x.0) (weighed number xs))

    each_met : (xs ys : List (Formula × ℤ)) (f : Formula) → each_times by xs ≡ Ok ys → is_met ys f ≡ is_met xs f
    each_met [] ys f e = let d : ys ≡ [] = ok ys [] (each_times by []) e refl in ap (λ x. is_met x f) d
    each_met (x ∷ xs) ys f e =
        let c = then_ok (by x.1) (λ n. then_do (each_times by xs) (λ rest. Ok ((x.0, n) ∷ rest))) ys e in
        let r = then_ok (each_times by xs) (λ rest. Ok ((x.0, c.0) ∷ rest)) ys c.2 in
        let is : (x.0, c.0) ∷ r.0 ≡ ys = ok ((x.0, c.0) ∷ r.0) ys (Ok ((x.0, c.0) ∷ r.0)) refl r.2 in
        ap (λ x. is_met x f) (sym is) ∙ ap (λ b. same_formula x.0 f || b) (each_met xs r.0 f r.1)

    each_distinct : (xs ys : List (Formula × ℤ)) → AreDistinct xs → each_times by xs ≡ Ok ys → AreDistinct ys
    each_distinct [] ys d e = let k : ys ≡ [] = ok ys [] (each_times by []) e refl in subst AreDistinct (sym k) tt
    each_distinct (x ∷ xs) ys d e =
        let c = then_ok (by x.1) (λ n. then_do (each_times by xs) (λ rest. Ok ((x.0, n) ∷ rest))) ys e in
        let r = then_ok (each_times by xs) (λ rest. Ok ((x.0, c.0) ∷ rest)) ys c.2 in
        let is : (x.0, c.0) ∷ r.0 ≡ ys = ok ((x.0, c.0) ∷ r.0) ys (Ok ((x.0, c.0) ∷ r.0)) refl r.2 in
        subst AreDistinct is (each_met xs r.0 x.0 r.1 ∙ d.0, each_distinct xs r.0 d.1 r.1)

    scaled_worth : (n : ℤ) (a l : Linear) → IsWorth n a → scaled by a ≡ Ok l → IsWorth (k *ℤ n) l
    scaled_worth n a l p e =
        let c = then_ok (by a.constant) (λ c. then_do (each_times by a.atoms) (λ xs. Ok (record { constant = c; atoms = xs }))) l e in
        let xs = then_ok (each_times by a.atoms) (λ xs. Ok (record { constant = c.0; atoms = xs })) l c.2 in
        let made : Linear = record { constant = c.0; atoms = xs.0 } in
        let is : made ≡ l = ok made l (Ok made) refl xs.2 in
        let m = exact a.constant c.0 c.1 in
        record {
          value = ap (value number) (sym is) ∙ (λ i. m i +ℤ each_value a.atoms xs.0 xs.1 i) ∙ sym (times_plus k a.constant (weighed number a.atoms)) ∙ ap (λ n. k *ℤ n) p.value;
          distinct = subst (λ l. AreDistinct l.atoms) is (each_distinct a.atoms xs.0 p.distinct xs.1);
        }

  pub times_worth : (k n : ℤ) (a l : Linear) → IsWorth n a → times_form k a ≡ Ok l → IsWorth (k *ℤ n) l
  times_worth k = scaled_worth k (checked times k) (λ n m e. checked_ok times k n m e)

  worth_times : (k n : ℤ) (a l : Linear) → IsWorth n a → form_times a k ≡ Ok l → IsWorth (n *ℤ k) l
  worth_times k n a l p e =
      let w = scaled_worth k (λ n. checked times n k) (λ n m d. checked_ok times n k m d ∙ times_turned n k) n a l p e in
      record { value = w.value ∙ times_turned k n; distinct = w.distinct }

  is_nothing : (z : ℤ) → is_zero z ≡ true → z ≡ pos 0
  is_nothing (pos n) h = ap pos (eqb-true n 0 h)
  is_nothing (negsuc n) h = absurd (cc)

  no_atoms : (xs : List (Formula × ℤ)) → list_all (λ x. is_zero x.1) xs ≡ true → weighed number xs ≡ pos 0
  no_atoms [] h = refl
  no_atoms (x ∷ xs) h =
      let z = is_nothing x.1 (first_true (is_zero x.1) (list_all (λ x. is_zero x.1) xs) h) in
      let rest = no_atoms xs (second_true (is_zero x.1) (list_all (λ x. is_zero x.1) xs) h) in
      let none : pos 0 *ℤ number x.0 +ℤ pos 0 ≡ pos 0 = omega (arith, ints) in
      (λ i. z i *ℤ number x.0 +ℤ rest i) ∙ none

  pub constant_value : (n : ℤ) (a : Linear) → is_constant a ≡ true → IsWorth n a → a.constant ≡ n
  constant_value n a h p = let z = no_atoms a.atoms h in let v = p.value in let w : value number a ≡ a.constant +ℤ pos 0 = ap (λ x. a.constant +ℤ x) z in omega (arith, ints, v, w)

  pub product_worth : (f : Formula) (m n : ℤ) (a b l : Linear) → IsWorth m a → IsWorth n b → number f ≡ m *ℤ n → product_form f a b ≡ Ok l → IsWorth (m *ℤ n) l
  product_worth f m n a b l p q is e = go (is_constant a) (is_constant b) refl refl e
    where
      go : (c d : Bool) → is_constant a ≡ c → is_constant b ≡ d → (if c then times_form a.constant b else (if d then form_times a b.constant else Ok (atom f))) ≡ Ok l → IsWorth (m *ℤ n) l
      go true d h k e = subst (λ c. IsWorth (c *ℤ n) l) (constant_value m a h p) (times_worth a.constant n b l q e)
      go false true h k e = subst (λ c. IsWorth (m *ℤ c) l) (constant_value n b k q) (worth_times b.constant m a l p e)
      go false false h k e = subst (λ x. IsWorth (m *ℤ n) x) (ok (atom f) l (Ok (atom f)) refl e) (subst (λ x. IsWorth x (atom f)) is (atom_worth f))
