-- How many steps are taken.
use Rattle.std.proofs.Common.{◌≡◌, ◌∙◌, inl, inr, sym, ap, subst, refl, ℕ, zero, suc, ◌<◌, ◌≤◌, ◌+◌, Bool, true, false, List, [], ◌∷◌, ◌++◌, bytes_eq, arith, length, take, get_or}
use Rattle.std.specs.List.{Contains, AllByRecursion, IsDistinct}
use Rattle.std.specs.Map.{keys_of}
use Rattle.std.proofs.lemmas.List.{length-map}
use Rattle.std.proofs.lemmas.Map.Made.{length-le_from_is_member}
use Rattle.std.proofs.lemmas.Cmp.{nat_list_eq_equiv}
use Rattle.model_core.proofs.Firsts.{taken_more}
use Rattle.model_core.specs.Each.{is_among}
use Rattle.model_core.specs.declared.component.RawComponent.{RawComponent}
use Rattle.static_check.specs.Settling.{own_name, ReferencesFirst}
use Rattle.build_core.specs.Moved.{IsMoved, HasFewSteps}
use Rattle.build_core.specs.Projects.{Project}
use Rattle.build_core.specs.Private.{Outcomes, AreSet, ConcludesIn, IsJudged, IsBegun, AreSteady, IsStepFor}
use Rattle.build_core.proofs.Found.{same, itself, or_first, or_second, among_first, among_before, among_here}
use Rattle.build_core.proofs.Rounds.{unequal}
use Rattle.build_core.proofs.Concluding.{Sound, sound_now}
use Rattle.build_core.proofs.Taken.{stale_moved}

-- at most one step for each of some of these names, which have moved, each counted once
pub record FewSteps (old new : Project) (names : List (List ℕ)) (before behind : ℕ) : Type 0 where
  pub moved : List (List ℕ)
  pub once : IsDistinct bytes_eq moved
  pub all : AllByRecursion (IsMoved old new) moved
  pub among : AllByRecursion (λ n. is_among names n ≡ true) moved
  pub few : behind ≤ before + length moved

pub few_steps : (old new : Project) (names : List (List ℕ)) (before behind : ℕ) → FewSteps old new names before behind → HasFewSteps old new before behind
few_steps old new names before behind f = (f.moved, f.once, f.all, f.few)

pub no_steps : (old new : Project) (before behind : ℕ) → behind ≤ before → HasFewSteps old new before behind
unfolding IsDistinct
no_steps old new before behind few = ([], tt, tt, omega (arith, few))

pub few_at_first : (old new : Project) (steps : ℕ) → FewSteps old new [] steps steps
unfolding IsDistinct
few_at_first old new steps = record { moved = []; once = tt; all = tt; among = tt; few = omega arith }

references_taken : (components : List RawComponent) (before names : List (List ℕ)) (i : ℕ) → ReferencesFirst components before names → ReferencesFirst components before (take i names)
references_taken components before [] zero first = tt
references_taken components before [] (suc i) first = tt
references_taken components before (n ∷ names) zero first = tt
references_taken components before (n ∷ names) (suc i) first = (first.0, references_taken components (before ++ n ∷ []) names i first.1)

-- a name isn't among those before it
fresh : (names : List (List ℕ)) (i : ℕ) (name : List ℕ) → IsDistinct bytes_eq names → i < length names → name ≡ get_or names i name → is_among (take i names) name ≡ true → ⊥
unfolding IsDistinct
fresh [] i name d lt is e = absurd (omega (arith, lt))
fresh (x ∷ names) zero name d lt is e = never e
  where
    never : false ≡ true → ⊥
    never h = cc
fresh (x ∷ names) (suc i) name d lt is e = elim (among_first (take i names) x name e) [
  | inl here ↦ unequal (bytes_eq x name) (subst (λ y. bytes_eq x y ≡ true) here (itself x)) (at names i d.0 (omega (arith, lt)) is)
  | inr more ↦ fresh names i name d.1 (omega (arith, lt)) is more
]
  where
    at : (ys : List (List ℕ)) (j : ℕ) → AllByRecursion (λ y. bytes_eq x y ≡ false) ys → j < length ys → name ≡ get_or ys j name → bytes_eq x name ≡ false
    at [] j all within f = absurd (omega (arith, within))
    at (y ∷ ys) zero all within f = ap (bytes_eq x) f ∙ all.0
    at (y ∷ ys) (suc j) all within f = at ys j all.1 (omega (arith, within)) f

among_more : (names : List (List ℕ)) (i : ℕ) (name : List ℕ) → i < length names → name ≡ get_or names i name → (n : List ℕ) → is_among (take i names) n ≡ true → is_among (take (i + 1) names) n ≡ true
among_more names i name lt is n e = subst (λ ns. is_among ns n ≡ true) (sym (taken_more names i name lt is)) (among_before (take i names) (name ∷ []) n e)

last_among : (names : List (List ℕ)) (name : List ℕ) → is_among (names ++ name ∷ []) name ≡ true
last_among [] name = among_here [] name
last_among (x ∷ names) name = or_second (bytes_eq name x) _ (last_among names name)

all_more : {X : Type 0} (P Q : X → Type 0) → ((x : X) → P x → Q x) → (xs : List X) → AllByRecursion P xs → AllByRecursion Q xs
all_more P Q f [] all = tt
all_more P Q f (x ∷ xs) all = (f x all.0, all_more P Q f xs all.1)

-- names that don't hold what one name does differ from it
apart : (names : List (List ℕ)) (name : List ℕ) → (is_among names name ≡ true → ⊥) → (moved : List (List ℕ)) → AllByRecursion (λ n. is_among names n ≡ true) moved → AllByRecursion (λ y. bytes_eq name y ≡ false) moved
apart names name none [] all = tt
apart names name none (y ∷ moved) all = (by (bytes_eq name y) refl, apart names name none moved all.1)
  where
    by : (b : Bool) → bytes_eq name y ≡ b → bytes_eq name y ≡ false
    by false e = e
    by true e = absurd (none (subst (λ n. is_among names n ≡ true) (sym (same name y e)) all.0))

together : (n : List ℕ) (ns : List (List ℕ)) → AllByRecursion (λ y. bytes_eq n y ≡ false) ns → IsDistinct bytes_eq ns → IsDistinct bytes_eq (n ∷ ns)
unfolding IsDistinct
together n ns a b = (a, b)

module _ (old : Project) (was : Outcomes) (judged : IsJudged old was) (new : Project) (components : List RawComponent) (start : Outcomes) (begun : IsBegun new components start)
    (sorted : List (List ℕ)) (order : ReferencesFirst components [] sorted) (once : IsDistinct bytes_eq sorted) where
  -- after one component more
  pub few_more : (i : ℕ) (name : List ℕ) (c : RawComponent) (now : Outcomes) (kept : List (List ℕ × Bool)) (first before behind : ℕ) → i < length sorted → name ≡ get_or sorted i name →
      AreSet ConcludesIn components (take i sorted) start now → AreSteady was now kept → Contains components c → own_name c ≡ name →
      FewSteps old new (take i sorted) first before → IsStepFor old new now kept c before behind → FewSteps old new (take (i + 1) sorted) first behind
  few_more i name c now kept first before behind lt is set steady in' named few (inl none) = record {
    moved = few.moved;
    once = few.once;
    all = few.all;
    among = all_more (λ n. is_among (take i sorted) n ≡ true) (λ n. is_among (take (i + 1) sorted) n ≡ true) (among_more sorted i name lt is) few.moved few.among;
    few = omega (arith, none, few.few);
  }
  few_more i name c now kept first before behind lt is set steady in' named few (inr step) = record {
    moved = name ∷ few.moved;
    once = together name few.moved (apart (take i sorted) name (fresh sorted i name once lt is) few.moved few.among) few.once;
    all = (one, few.all);
    among = (
      subst (λ ns. is_among ns name ≡ true) (sym (taken_more sorted i name lt is)) (last_among (take i sorted) name),
      all_more (λ n. is_among (take i sorted) n ≡ true) (λ n. is_among (take (i + 1) sorted) n ≡ true) (among_more sorted i name lt is) few.moved few.among,
    );
    few = omega (arith, step.0, few.few);
  }
    where
      sound : (m : ℕ) × Sound new m now
      sound = sound_now new begun.once components start begun.read (take i sorted) now (references_taken components [] sorted i order) set

      one : IsMoved old new name
      one = subst (IsMoved old new) named (stale_moved old was judged c now kept steady new begun.once (begun.read.read c in') sound.0 sound.1 step.1 step.2)

among_keys : (project : Project) (name text : List ℕ) → Contains project (name, text) → is_among (keys_of project) name ≡ true
among_keys project name text h = by project h.0 h.1 h.2
  where
    by : (es : Project) (k : ℕ) → k < length es → get_or es k (name, text) ≡ (name, text) → is_among (keys_of es) name ≡ true
    by [] k lt is = absurd (omega (arith, lt))
    by (e ∷ es) zero lt is = or_first (bytes_eq name e.0) _ (ap (λ (d : List ℕ × List ℕ). bytes_eq name d.0) is ∙ itself name)
    by (e ∷ es) (suc k) lt is = or_second (bytes_eq name e.0) _ (by es k (omega (arith, lt)) is)

-- at most as many steps as components
pub few_components : (new : Project) (before behind : ℕ) → HasFewSteps [] new before behind → behind ≤ before + length new
few_components new before behind few =
    let within = length-le_from_is_member nat_list_eq_equiv few.0 (keys_of new) few.1 (λ q e. there q few.0 few.2 e) in
    omega (arith, within, length-map new (λ (e : List ℕ × List ℕ). e.0), few.3)
  where
    there : (q : List ℕ) (moved : List (List ℕ)) → AllByRecursion (IsMoved [] new) moved → is_among moved q ≡ true → is_among (keys_of new) q ≡ true
    there q [] all e = absurd (never e)
      where
        never : false ≡ true → ⊥
        never h = cc
    there q (n ∷ moved) all e = elim (among_first moved n q e) [
      | inl here ↦ subst (λ m. is_among (keys_of new) m ≡ true) here (among_keys new n all.0.0 all.0.1)
      | inr more ↦ there q moved all.1 more
    ]
