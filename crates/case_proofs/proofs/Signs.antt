-- Hypotheses of which no way is left are true in a reading, and each way has fewer connectives.
use Rattle.std.proofs.Common.{◌≡◌, ◌∙◌, sym, ap, subst, refl, ℕ, zero, suc, ◌+◌, ◌≤◌, ◌<◌, length, get_or, take, drop, ◌++◌, Bool, true, false, not, ◌&&◌, ◌||◌, List, [], ◌∷◌, map, if◌then◌else◌, arith}
use Rattle.std.specs.List.{AllByRecursion, list_any}
use Rattle.std.specs.Prelude.{MatchOption, Option, Some, None}
use Rattle.formula_core.specs.declared.Op.{Op}
use Rattle.formula_core.specs.declared.Op.TheVariants as op
use Rattle.formula_core.specs.declared.Ty.{Ty}
use Rattle.formula_core.specs.declared.Formula.{Formula}
use Rattle.formula_core.specs.declared.Formula.TheOpen.{Formula-F, Int as IntF, Free as FreeF, Bound as BoundF, Node as NodeF, Bind as BindF}
use Rattle.formula_core.specs.declared.Formula.TheVariants as formula
use Rattle.formula_core.specs.declared.Formula.TheViews.{out-Formula, roll-Formula, roll-out-Formula, rolls-Int, rolls-Free, rolls-Bound, rolls-Node, rolls-Bind}
use Rattle.formula_core.specs.Same.{same_formula}
use Rattle.formula_core.proofs.Equations.{formula_fold, formula_para}
use Rattle.formula_core.proofs.Lists.{map-beside}
use Rattle.formula_core.proofs.SameFormulas.{same_formula_refl}
use Rattle.formula_core.proofs.Weakening.{both_true}
use Rattle.formula_readings.specs.Readings.{nullary_truth, unary_truth, binary_truth, truth_step, truth_by}
use Rattle.formula_readings.proofs.Truths.{truth-none, truth-one, truth-two}
use Rattle.formula_readings.specs.Forms.{negates, joins_two}
use Rattle.case_proofs.specs.Cases.{connectives_step, connectives}
use Rattle.case_proofs.specs.PrivateWays.{Signed, signed, ways_of_two, ways_at, ways, to_break, HoldsAs, IsSatisfiable, contradicts_at, same_sign, is_said, contradicts, is_contradictory, with_way}

-- on truth values
and_false : (p q : Bool) → q ≡ false → (p && q) ≡ false
and_false true q h = h
and_false false q h = refl

or_true : (p q : Bool) → q ≡ true → (p || q) ≡ true
or_true true q h = refl
or_true false q h = h

neither_true : (p q : Bool) → p ≡ false → q ≡ false → (p || q) ≡ false
neither_true p q h k = ap (λ b. b || q) h ∙ k

first_of_two : (p q : Bool) → (p || q) ≡ false → p ≡ false
first_of_two true q h = h
first_of_two false q h = refl

second_of_two : (p q : Bool) → (p || q) ≡ false → q ≡ false
second_of_two true q h = absurd (cc)
second_of_two false q h = h

not_not : (s : Bool) → not (not s) ≡ s
not_not true = refl
not_not false = refl

alone : {X : Type 0} (xs : List X) → map (λ x. x) xs ≡ xs
alone [] = refl
alone (x ∷ xs) = ap (λ ys. x ∷ ys) (alone xs)

pub connectives-one : (o : Op) (p : Formula) (t : Ty) → connectives (formula.Node o (p ∷ []) t) ≡ (if negates o then connectives p + 1 else 0)
connectives-one o p t = formula_fold connectives_step (NodeF o (p ∷ []) t) (formula.Node o (p ∷ []) t) (rolls-Node o (p ∷ []) t)

pub connectives-two : (o : Op) (p q : Formula) (t : Ty) → connectives (formula.Node o (p ∷ q ∷ []) t) ≡ (if joins_two o then connectives p + connectives q + 1 else 0)
connectives-two o p q t = formula_fold connectives_step (NodeF o (p ∷ q ∷ []) t) (formula.Node o (p ∷ q ∷ []) t) (rolls-Node o (p ∷ q ∷ []) t)

-- each way is lighter by one connective at least
abbrev IsLighter : ℕ → List Signed → Type 0
IsLighter n way = to_break way + 1 ≤ n

one_lighter : (o : Op) (s : Bool) (p : Formula) (n : ℕ) → n ≡ (if negates o then connectives p + 1 else 0)
    → AllByRecursion (IsLighter n) (if negates o then ((signed p (not s) ∷ []) ∷ []) else [])
one_lighter op.Not s p n e = (omega (arith, e), tt)
one_lighter _ s p n e = tt

two_lighter : (o : Op) (s : Bool) (p q : Formula) (n : ℕ) → n ≡ (if joins_two o then connectives p + connectives q + 1 else 0) → AllByRecursion (IsLighter n) (ways_of_two o s p q)
two_lighter op.And true p q n e = (omega (arith, e), tt)
two_lighter op.And false p q n e = (omega (arith, e), (omega (arith, e), tt))
two_lighter op.Or true p q n e = (omega (arith, e), (omega (arith, e), tt))
two_lighter op.Or false p q n e = (omega (arith, e), tt)
two_lighter op.Implies true p q n e = (omega (arith, e), (omega (arith, e), tt))
two_lighter op.Implies false p q n e = (omega (arith, e), tt)
two_lighter op.Equivalent s p q n e = (omega (arith, e), (omega (arith, e), tt))
two_lighter _ s p q n e = tt

pub ways_lighter : (x : Signed) → AllByRecursion (IsLighter (connectives x.0)) (ways x)
ways_lighter x = go (out-Formula x.0) refl
  where
    at : (o : Op) (parts : List Formula) (t : Ty) → out-Formula x.0 ≡ NodeF o parts t → x.0 ≡ formula.Node o parts t
    at o parts t k = sym (roll-out-Formula x.0) ∙ ap roll-Formula k ∙ rolls-Node o parts t

    go : (y : Formula-F Formula) → out-Formula x.0 ≡ y → AllByRecursion (IsLighter (connectives x.0)) (ways_at y x.1)
    go (NodeF o (p ∷ []) t) k = one_lighter o x.1 p (connectives x.0) (ap connectives (at o (p ∷ []) t k) ∙ connectives-one o p t)
    go (NodeF o (p ∷ q ∷ []) t) k = two_lighter o x.1 p q (connectives x.0) (ap connectives (at o (p ∷ q ∷ []) t k) ∙ connectives-two o p q t)
    go _ k = tt

module _ (atom : Formula → Bool) where
  abbrev truth : Formula → Bool
  truth = truth_by atom

  -- what makes a way true makes the formula so
  abbrev Makes : Bool → Bool → List Signed → Type 0
  Makes b s way = AllByRecursion (HoldsAs atom) way → b ≡ s

  one_makes : (o : Op) (s a b : Bool) (p : Formula) → b ≡ unary_truth o a (truth p) → AllByRecursion (Makes b s) (if negates o then ((signed p (not s) ∷ []) ∷ []) else [])
  one_makes op.Not s a b p e = (λ h. e ∙ ap not h.0 ∙ not_not s, tt)
  one_makes _ s a b p e = tt

  two_makes : (o : Op) (s a b : Bool) (p q : Formula) → b ≡ binary_truth o a (truth p) (truth q) → AllByRecursion (Makes b s) (ways_of_two o s p q)
  two_makes op.And true a b p q e = (λ h. e ∙ both_true (truth p) (truth q) h.0 h.1.0, tt)
  two_makes op.And false a b p q e = (λ h. e ∙ ap (λ c. c && truth q) h.0, (λ h. e ∙ and_false (truth p) (truth q) h.0, tt))
  two_makes op.Or true a b p q e = (λ h. e ∙ ap (λ c. c || truth q) h.0, (λ h. e ∙ or_true (truth p) (truth q) h.0, tt))
  two_makes op.Or false a b p q e = (λ h. e ∙ neither_true (truth p) (truth q) h.0 h.1.0, tt)
  two_makes op.Implies true a b p q e = (λ h. e ∙ ap (λ c. not c || truth q) h.0, (λ h. e ∙ or_true (not (truth p)) (truth q) h.0, tt))
  two_makes op.Implies false a b p q e = (λ h. e ∙ neither_true (not (truth p)) (truth q) (ap not h.0) h.1.0, tt)
  two_makes op.Equivalent s a b p q e = (
    λ h. e ∙ ap (λ c. if c then truth q else not (truth q)) h.0 ∙ ap not h.1.0 ∙ not_not s,
    (λ h. e ∙ ap (λ c. if c then truth q else not (truth q)) h.0 ∙ h.1.0, tt),
  )
  two_makes _ s a b p q e = tt

  pub ways_make : (x : Signed) → AllByRecursion (Makes (truth x.0) x.1) (ways x)
  ways_make x = go (out-Formula x.0) refl
    where
      at : (o : Op) (parts : List Formula) (t : Ty) → out-Formula x.0 ≡ NodeF o parts t → x.0 ≡ formula.Node o parts t
      at o parts t k = sym (roll-out-Formula x.0) ∙ ap roll-Formula k ∙ rolls-Node o parts t

      go : (y : Formula-F Formula) → out-Formula x.0 ≡ y → AllByRecursion (Makes (truth x.0) x.1) (ways_at y x.1)
      go (NodeF o (p ∷ []) t) k = one_makes o x.1 (atom (formula.Node o (p ∷ []) t)) (truth x.0) p (ap truth (at o (p ∷ []) t k) ∙ truth-one atom o p t)
      go (NodeF o (p ∷ q ∷ []) t) k = two_makes o x.1 (atom (formula.Node o (p ∷ q ∷ []) t)) (truth x.0) p q (ap truth (at o (p ∷ q ∷ []) t k) ∙ truth-two atom o p q t)
      go _ k = tt

  -- what no connective heads is ⊤, ⊥ or an atom
  abbrev basic_at : Formula-F Formula → Bool → Bool
  basic_at (NodeF o [] t) a = nullary_truth o a
  basic_at _ a = a

  one_basic : (o : Op) (s a b : Bool) (p : Formula) → (if negates o then ((signed p (not s) ∷ []) ∷ []) else []) ≡ [] → unary_truth o a b ≡ a
  one_basic op.Not s a b p e = absurd (cc)
  one_basic _ s a b p e = refl

  two_basic : (o : Op) (s a b c : Bool) (p q : Formula) → ways_of_two o s p q ≡ [] → binary_truth o a b c ≡ a
  two_basic op.And true a b c p q e = absurd (cc)
  two_basic op.And false a b c p q e = absurd (cc)
  two_basic op.Or true a b c p q e = absurd (cc)
  two_basic op.Or false a b c p q e = absurd (cc)
  two_basic op.Implies true a b c p q e = absurd (cc)
  two_basic op.Implies false a b c p q e = absurd (cc)
  two_basic op.Equivalent s a b c p q e = absurd (cc)
  two_basic _ s a b c p q e = refl

  pub basic_truth : (f : Formula) (s : Bool) → ways (signed f s) ≡ [] → truth f ≡ basic_at (out-Formula f) (atom f)
  basic_truth f s e = go (out-Formula f) refl e
    where
      is : (x : Formula-F Formula) (g : Formula) → out-Formula f ≡ x → roll-Formula x ≡ g → f ≡ g
      is x g k r = sym (roll-out-Formula f) ∙ ap roll-Formula k ∙ r

      go : (x : Formula-F Formula) → out-Formula f ≡ x → ways_at x s ≡ [] → truth f ≡ basic_at x (atom f)
      go (IntF n) k e = let d = is (IntF n) (formula.Int n) k (rolls-Int n) in ap truth d ∙ formula_para (truth_step atom) (IntF n) (formula.Int n) (rolls-Int n) ∙ ap atom (sym d)
      go (FreeF n t) k e = let d = is (FreeF n t) (formula.Free n t) k (rolls-Free n t) in ap truth d ∙ formula_para (truth_step atom) (FreeF n t) (formula.Free n t) (rolls-Free n t) ∙ ap atom (sym d)
      go (BoundF n t) k e = let d = is (BoundF n t) (formula.Bound n t) k (rolls-Bound n t) in ap truth d ∙ formula_para (truth_step atom) (BoundF n t) (formula.Bound n t) (rolls-Bound n t) ∙ ap atom (sym d)
      go (NodeF o [] t) k e = let d = is (NodeF o [] t) (formula.Node o [] t) k (rolls-Node o [] t) in ap truth d ∙ truth-none atom o t ∙ ap (nullary_truth o) (ap atom (sym d))
      go (NodeF o (p ∷ []) t) k e =
          let d = is (NodeF o (p ∷ []) t) (formula.Node o (p ∷ []) t) k (rolls-Node o (p ∷ []) t) in
          ap truth d ∙ truth-one atom o p t ∙ one_basic o s (atom (formula.Node o (p ∷ []) t)) (truth p) p e ∙ ap atom (sym d)
      go (NodeF o (p ∷ q ∷ []) t) k e =
          let d = is (NodeF o (p ∷ q ∷ []) t) (formula.Node o (p ∷ q ∷ []) t) k (rolls-Node o (p ∷ q ∷ []) t) in
          ap truth d ∙ truth-two atom o p q t ∙ two_basic o s (atom (formula.Node o (p ∷ q ∷ []) t)) (truth p) (truth q) p q e ∙ ap atom (sym d)
      go (NodeF o (p ∷ q ∷ r ∷ parts) t) k e =
          let all : List Formula = p ∷ q ∷ r ∷ parts in
          let d = is (NodeF o all t) (formula.Node o all t) k (rolls-Node o all t) in
          ap truth d ∙ formula_para (truth_step atom) (NodeF o all t) (formula.Node o all t) (rolls-Node o all t)
          ∙ ap (λ ps. atom (formula.Node o ps t)) (map-beside truth (λ x. x) all ∙ alone all) ∙ ap atom (sym d)
      go (BindF b types parts t) k e =
          let d = is (BindF b types parts t) (formula.Bind b types parts t) k (rolls-Bind b types parts t) in
          ap truth d ∙ formula_para (truth_step atom) (BindF b types parts t) (formula.Bind b types parts t) (rolls-Bind b types parts t)
          ∙ ap (λ ps. atom (formula.Bind b types ps t)) (map-beside truth (λ x. x) parts ∙ alone parts) ∙ ap atom (sym d)

-- the reading of literals that don't contradict one another: an atom is true where it is said to be
module _ (all : List Signed) where
  abbrev reading : Formula → Bool
  reading = is_said all true

  one_holds : (x : Signed) → ways x ≡ [] → contradicts all x ≡ false → is_said all x.1 x.0 ≡ true → HoldsAs reading x
  one_holds x none fine there = basic_truth reading x.0 x.1 none ∙ go (out-Formula x.0) x.1 refl refl (first_of_two _ _ fine) (second_of_two (contradicts_at (out-Formula x.0) x.1) _ fine) there
    where
      atoms : (s : Bool) → is_said all (not s) x.0 ≡ false → is_said all s x.0 ≡ true → is_said all true x.0 ≡ s
      atoms true other there = there
      atoms false other there = other

      constants : (o : Op) (t : Ty) (s : Bool) → contradicts_at (NodeF o [] t) s ≡ false → is_said all true x.0 ≡ s → nullary_truth o (is_said all true x.0) ≡ s
      constants op.Top t true c e = refl
      constants op.Top t false c e = absurd (cc)
      constants op.Bottom t true c e = absurd (cc)
      constants op.Bottom t false c e = refl
      constants _ t s c e = e

      go : (y : Formula-F Formula) (s : Bool) → out-Formula x.0 ≡ y → x.1 ≡ s → contradicts_at y s ≡ false → is_said all (not s) x.0 ≡ false → is_said all s x.0 ≡ true → basic_at reading y (reading x.0) ≡ s
      go (NodeF o [] t) s k e c other there = constants o t s c (atoms s other there)
      go _ s k e c other there = atoms s other there

  each_holds : (xs : List Signed) → AllByRecursion (λ x. ways x ≡ []) xs → list_any (contradicts all) xs ≡ false → AllByRecursion (λ x. is_said all x.1 x.0 ≡ true) xs → AllByRecursion (HoldsAs reading) xs
  each_holds [] none fine there = tt
  each_holds (x ∷ xs) none fine there =
      (one_holds x none.0 (first_of_two (contradicts all x) _ fine) there.0, each_holds xs none.1 (second_of_two (contradicts all x) _ fine) there.1)

same_sign_refl : (s : Bool) → same_sign s s ≡ true
same_sign_refl true = refl
same_sign_refl false = refl

each_said : (before xs : List Signed) → AllByRecursion (λ x. is_said xs x.1 x.0 ≡ true) xs
each_said before [] = tt
each_said before (x ∷ xs) = (ap (λ b. b || is_said xs x.1 x.0) (both_true _ _ (same_sign_refl x.1) (same_formula_refl x.0)), later xs (each_said before xs))
  where
    later : (ys : List Signed) → AllByRecursion (λ y. is_said xs y.1 y.0 ≡ true) ys → AllByRecursion (λ y. is_said (x ∷ xs) y.1 y.0 ≡ true) ys
    later [] h = tt
    later (y ∷ ys) h = (or_true (same_sign x.1 y.1 && same_formula x.0 y.0) (is_said xs y.1 y.0) h.0, later ys h.1)

-- literals that don't contradict one another are true together
pub literals_hold : (xs : List Signed) → AllByRecursion (λ x. ways x ≡ []) xs → is_contradictory xs ≡ false → IsSatisfiable xs
literals_hold xs none fine = (is_said xs true, each_holds xs xs none fine (each_said [] xs))

-- the others and a way have fewer connectives, and a reading of them is one of all
pub break_both : (xs ys : List Signed) → to_break (xs ++ ys) ≡ to_break xs + to_break ys
break_both [] ys = omega arith
break_both (x ∷ xs) ys = let e = break_both xs ys in omega (arith, e)

pub drop_more : (x : Signed) (hyps : List Signed) (at : ℕ) → drop (suc at + 1) (x ∷ hyps) ≡ drop (at + 1) hyps
drop_more x hyps at = let e : suc at + 1 ≡ suc (at + 1) = omega arith in ap (λ k. drop k (x ∷ hyps)) e

with_more : (x : Signed) (hyps : List Signed) (at : ℕ) (way : List Signed) → with_way (x ∷ hyps) (suc at) way ≡ x ∷ with_way hyps at way
with_more x hyps at way = ap (λ ys. x ∷ take at hyps ++ ys ++ way) (drop_more x hyps at)

pub way_lighter : (hyps : List Signed) (at : ℕ) (d : Signed) (way : List Signed) → at < length hyps → IsLighter (connectives (get_or hyps at d).0) way
    → to_break (with_way hyps at way) + 1 ≤ to_break hyps
way_lighter [] at d way lt h = absurd (omega (arith, lt))
way_lighter (x ∷ hyps) zero d way lt h = let e = break_both hyps way in omega (arith, e, h)
way_lighter (x ∷ hyps) (suc at) d way lt h = let rest = way_lighter hyps at d way (omega (arith, lt)) h in let e = ap to_break (with_more x hyps at way) in omega (arith, rest, e)

module _ (P : Signed → Type 0) where
  all_last : (xs ys : List Signed) → AllByRecursion P (xs ++ ys) → AllByRecursion P ys
  all_last [] ys h = h
  all_last (x ∷ xs) ys h = all_last xs ys h.1

  all_first : (xs ys : List Signed) → AllByRecursion P (xs ++ ys) → AllByRecursion P xs
  all_first [] ys h = tt
  all_first (x ∷ xs) ys h = (h.0, all_first xs ys h.1)

  pub all_with : (hyps : List Signed) (at : ℕ) (d : Signed) (way : List Signed) → at < length hyps → (AllByRecursion P way → P (get_or hyps at d)) → AllByRecursion P (with_way hyps at way) → AllByRecursion P hyps
  all_with [] at d way lt makes h = absurd (omega (arith, lt))
  all_with (x ∷ hyps) zero d way lt makes h = (makes (all_last hyps way h), all_first hyps way h)
  all_with (x ∷ hyps) (suc at) d way lt makes h =
      let k : AllByRecursion P (x ∷ with_way hyps at way) = subst (AllByRecursion P) (with_more x hyps at way) h in (k.0, all_with hyps at d way (omega (arith, lt)) makes k.1)

-- one step of the search, as the code takes it
module _ (hyps : List Signed) (at k : ℕ) (x : Signed) (ws : List (List Signed)) (way : List Signed)
    (lt : at < length hyps) (is : x ≡ get_or hyps at x) (all : ws ≡ ways x) (there : k < length ws) (one : way ≡ get_or ws k way) where
  any_nth : (P : List Signed → Type 0) (xs : List (List Signed)) (k : ℕ) (d : List Signed) → k < length xs → AllByRecursion P xs → P (get_or xs k d)
  any_nth P [] k d lt h = absurd (omega (arith, lt))
  any_nth P (x ∷ xs) zero d lt h = h.0
  any_nth P (x ∷ xs) (suc k) d lt h = any_nth P xs k d (omega (arith, lt)) h.1

  each : (P : List Signed → Type 0) → AllByRecursion P (ways x) → P way
  each P h = subst P (sym one) (any_nth P ws k way there (subst (AllByRecursion P) (sym all) h))

  pub step_lighter : (fuel : ℕ) → to_break hyps ≤ fuel → to_break (with_way hyps at way) + 1 ≤ fuel
  step_lighter fuel h =
      let e = way_lighter hyps at x way lt (subst (λ y. IsLighter (connectives y.0) way) is (each (IsLighter (connectives x.0)) (ways_lighter x))) in omega (arith, e, h)

  pub step_satisfiable : IsSatisfiable (with_way hyps at way) → IsSatisfiable hyps
  step_satisfiable s = (
    s.0,
    all_with (HoldsAs s.0) hyps at x way lt (λ h. subst (HoldsAs s.0) is (each (Makes s.0 (truth_by s.0 x.0) x.1) (ways_make s.0 x) h)) s.1,
  )

-- nothing is found
pub nothing_found : (A : Type 0) (o : Option ℕ) (P : ℕ → Type 0) → MatchOption o A P → ((i : ℕ) → o ≡ Some i → ⊥) → A
nothing_found A None P h never = h
nothing_found A (Some i) P h never = absurd (never i refl)
