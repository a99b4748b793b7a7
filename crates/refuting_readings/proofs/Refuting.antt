-- What doesn't follow by cases is refuted by a reading.
use Rattle.std.proofs.Common.{◌≡◌, ◌∙◌, ◌⊎◌, inl, inr, sym, ap, subst, refl, pos, Bool, true, false, cond, ◌&&◌, ◌||◌, List, [], ◌∷◌, ◌++◌, map, Some, Ok, Result, if◌then◌else◌}
use Rattle.std.specs.Prelude.{IsTrue, unwrap_or}
use Rattle.std.specs.List.{AllByRecursion}
use Rattle.std.specs.Map.{lookup}
use Rattle.formula_core.specs.declared.Formula.{Formula}
use Rattle.formula_core.specs.Same.{same_formula}
use Rattle.formula_core.proofs.SameFormulas.{same_formula_exact}
use Rattle.sequent_core.specs.declared.sequent.Sequent.{Sequent}
use Rattle.formula_readings.specs.declared.Reading.{Reading}
use Rattle.formula_readings.specs.Readings.{AtomValues, truth_by, values_of}
use Rattle.readings_core.specs.declared.values.ValueFault.{ValueFault}
use Rattle.readings_core.specs.Values.{value_in}
use Rattle.readings_core.specs.Private.{checked_truth}
use Rattle.case_proofs.specs.Cases.{FollowsByCases}
use Rattle.refuting_readings.specs.Refutations.{compares_none, IsRefutedIn, DecidedByReadings}
use Rattle.refuting_readings.proofs.Atoms.{atoms, all_first, all_last, Agree, has_value}
use Rattle.refuting_readings.proofs.Deciding.{is_among, all_so, each_among, passes_or_fails}

abbrev right : Bool → Result Bool ValueFault
right b = Ok b

same_right : (a b : Bool) → right a ≡ right b → a ≡ b
same_right a b e = cc

-- TRUTH BY ATOMS ALONE

abbrev by_truths : (Formula → Bool) → AtomValues
by_truths x = record { truth = x; number = λ f. pos 0 }

agrees_with_itself : (x : Formula → Bool) (fs : List Formula) → Agree (by_truths x) x fs
agrees_with_itself x [] = tt
agrees_with_itself x (f ∷ fs) = (refl, agrees_with_itself x fs)

-- two propositional readings that agree on the atoms of a predicate give it the same truth
same_truth : (x y : Formula → Bool) (f : Formula) → compares_none f ≡ true → AllByRecursion (λ a. x a ≡ y a) (atoms f) → truth_by x f ≡ truth_by y f
same_truth x y f none agree =
    same_right (truth_by x f) (truth_by y f)
    (sym (has_value (by_truths x) x f none (agrees_with_itself x (atoms f))) ∙ has_value (by_truths x) y f none agree)

-- THE TEST OF A SEQUENT

abbrev AllCompareNone : List Formula → Type 0
AllCompareNone fs = AllByRecursion (λ f. compares_none f ≡ true) fs

abbrev all_atoms : List Formula → List Formula
all_atoms [] = []
all_atoms (f ∷ fs) = atoms f ++ all_atoms fs

abbrev all_true : (Formula → Bool) → List Formula → Bool
all_true x [] = true
all_true x (f ∷ fs) = truth_by x f && all_true x fs

same_truths : (x y : Formula → Bool) (fs : List Formula) → AllCompareNone fs → AllByRecursion (λ a. x a ≡ y a) (all_atoms fs) → all_true x fs ≡ all_true y fs
same_truths x y [] none agree = refl
same_truths x y (f ∷ fs) none agree =
    let P : Formula → Type 0 = λ a. x a ≡ y a in
    let first = same_truth x y f none.0 (all_first P (atoms f) (all_atoms fs) agree) in
    let rest = same_truths x y fs none.1 (all_last P (atoms f) (all_atoms fs) agree) in
    λ i. first i && rest i

abbrev holds_in : Sequent → (Formula → Bool) → Bool
holds_in s x = if all_true x s.hyps then truth_by x s.goal else true

-- THE READING

abbrev reading_of : List Formula → (Formula → Bool) → Reading
reading_of fs x = record { truths = map (λ f. (f, x f)) fs; numbers = [] }

looked_up : (x : Formula → Bool) (fs : List Formula) (f : Formula) → is_among fs f ≡ true → unwrap_or (lookup (same_formula f) (map (λ a. (a, x a)) fs)) false ≡ x f
looked_up x [] f among = absurd (cc)
looked_up x (a ∷ fs) f among = by (same_formula f a) refl (λ among_rest. looked_up x fs f among_rest)
  where
    by : (same : Bool) → same_formula f a ≡ same → (is_among fs f ≡ true → unwrap_or (lookup (same_formula f) (map (λ c. (c, x c)) fs)) false ≡ x f) →
        unwrap_or (lookup (same_formula f) (map (λ c. (c, x c)) (a ∷ fs))) false ≡ x f
    by true e more = ap (λ b. unwrap_or (cond b (Some (x a)) (lookup (same_formula f) (map (λ c. (c, x c)) fs))) false) e ∙ ap x (sym (same_formula_exact f a e))
    by false e more =
        ap (λ b. unwrap_or (cond b (Some (x a)) (lookup (same_formula f) (map (λ c. (c, x c)) fs))) false) e
        ∙ more (sym (ap (λ b. b || is_among fs f) e) ∙ among)

module _ (x : Formula → Bool) (fs : List Formula) where
  abbrev r : Reading
  r = reading_of fs x

  agreed : Agree (values_of r) x fs
  agreed = all_so (λ f. is_among fs f ≡ true) (λ f. (values_of r).truth f ≡ x f) (looked_up x fs) fs (each_among fs)

  values : (hs : List Formula) → AllCompareNone hs → Agree (values_of r) x (all_atoms hs) → all_true x hs ≡ true → AllByRecursion (λ h. value_in r h ≡ Ok true) hs
  values [] none agree holds = tt
  values (h ∷ hs) none agree holds =
      let P : Formula → Type 0 = λ a. (values_of r).truth a ≡ x a in
      let parts = both_hold (truth_by x h) (all_true x hs) holds in (
        has_value (values_of r) x h none.0 (all_first P (atoms h) (all_atoms hs) agree) ∙ ap right parts.0,
        values hs none.1 (all_last P (atoms h) (all_atoms hs) agree) parts.1,
      )
    where
      both_hold : (a b : Bool) → a && b ≡ true → (a ≡ true) × (b ≡ true)
      both_hold true b e = (refl, e)
      both_hold false b e = absurd (cc)

-- EITHER

module _ (s : Sequent) (hyps : AllCompareNone s.hyps) (goal : compares_none s.goal ≡ true) where
  abbrev asked : List Formula
  asked = atoms s.goal ++ all_atoms s.hyps

  local : (x y : Formula → Bool) → AllByRecursion (λ a. x a ≡ y a) asked → holds_in s x ≡ holds_in s y
  local x y agree =
      let P : Formula → Type 0 = λ a. x a ≡ y a in
      let one = same_truth x y s.goal goal (all_first P (atoms s.goal) (all_atoms s.hyps) agree) in
      let others = same_truths x y s.hyps hyps (all_last P (atoms s.goal) (all_atoms s.hyps) agree) in
      λ i. if others i then one i else true

  all_hold : (x : Formula → Bool) (hs : List Formula) → AllByRecursion (λ h. IsTrue (truth_by x h)) hs → all_true x hs ≡ true
  all_hold x [] true_ = refl
  all_hold x (h ∷ hs) true_ = λ i. true_.0 i && all_hold x hs true_.1 i

  implied : (b c : Bool) → (if b then c else true) ≡ true → b ≡ true → c ≡ true
  implied true c e is = e
  implied false c e is = absurd (cc)

  follows : ((x : Formula → Bool) → holds_in s x ≡ true) → FollowsByCases s
  follows passes x true_ = implied (all_true x s.hyps) (truth_by x s.goal) (passes x) (all_hold x s.hyps true_)

  failing : (b c : Bool) → (if b then c else true) ≡ false → (b ≡ true) × (c ≡ false)
  failing true c e = (refl, e)
  failing false c e = absurd (cc)

  refuted : (x : Formula → Bool) → holds_in s x ≡ false → (q : Reading) × IsRefutedIn q s
  refuted x fails =
      let P : Formula → Type 0 = λ a. (values_of (reading_of asked x)).truth a ≡ x a in
      let parts = failing (all_true x s.hyps) (truth_by x s.goal) fails in
      let agree = agreed x asked in
      let refutes : IsRefutedIn (reading_of asked x) s = record {
        hyps = values x asked s.hyps hyps (all_last P (atoms s.goal) (all_atoms s.hyps) agree) parts.0;
        goal = has_value (values_of (reading_of asked x)) x s.goal goal (all_first P (atoms s.goal) (all_atoms s.hyps) agree) ∙ ap right parts.1;
      } in
      (reading_of asked x, refutes)

  either : FollowsByCases s ⊎ ((q : Reading) × IsRefutedIn q s)
  either = go (passes_or_fails asked (holds_in s) local)
    where
      go : ((x : Formula → Bool) → holds_in s x ≡ true) ⊎ ((x : Formula → Bool) × (holds_in s x ≡ false)) → FollowsByCases s ⊎ ((q : Reading) × IsRefutedIn q s)
      go (inl passes) = inl (follows passes)
      go (inr fails) = inr (refuted fails.0 fails.1)

pub decided_by_readings : DecidedByReadings
decided_by_readings s hyps goal = either s hyps goal
