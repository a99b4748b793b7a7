-- What isn't declared twice stands once.
use Rattle.std.proofs.Common.{◌≡◌, ap, refl, ℕ, Bool, true, false, cond, ◌||◌, List, [], ◌∷◌, ◌++◌, map, Option, Some, None, bytes_eq}
use Rattle.std.specs.Prelude.{Ok, Err, MatchOption}
use Rattle.std.specs.List.{AllByRecursion, IsDistinct}
use Rattle.type_formula.proofs.Named.{all_each}
use Rattle.formula_core.specs.declared.raw.Ref.{Ref}
use Rattle.formula_core.specs.Formulas.{joined}
use Rattle.model_core.specs.declared.fault.Fault.{Fault}
use Rattle.model_core.specs.declared.fault.FaultKind.TheVariants as kind
use Rattle.model_core.specs.declared.checked.Checked.{Checked}
use Rattle.model_core.specs.Each.{at_each, is_among}
use Rattle.model_core.specs.Faults.{fault_at, earlier, comes_before, first_by_place}
use Rattle.check_rules.specs.Contexts.{Outcome, names_of}
use Rattle.check_rules.specs.Declarations.{LabelAt, declared_twice, labelled_twice}
use Rattle.name_laws.specs.Labels.{AreOnce}
use Rattle.name_laws.proofs.Lists.{never, AreOther, turned, all_map}

-- No fault.

pub first_none : {X : Type 0} → (xs ys : List X) → xs ++ ys ≡ [] → xs ≡ []
first_none [] ys e = refl
first_none (x ∷ xs) ys e = let no : ⊥ = cc in absurd no

pub second_none : {X : Type 0} → (xs ys : List X) → xs ++ ys ≡ [] → ys ≡ []
second_none [] ys e = e
second_none (x ∷ xs) ys e = let no : ⊥ = cc in absurd no

cond_some : (b : Bool) (f g : Fault) → cond b (Some f) (Some g) ≡ None → ⊥
cond_some true f g e = cc
cond_some false f g e = cc

never_none : (f : Fault) (o : Option Fault) → earlier (Some f) o ≡ None → ⊥
never_none f None e = cc
never_none f (Some g) e = cond_some (comes_before g f) g f e

-- where there is no first fault there is none
pub no_fault : (faults : List Fault) → first_by_place faults ≡ None → faults ≡ []
no_fault [] e = refl
no_fault (f ∷ fs) e = absurd (never_none f (first_by_place fs) e)

abbrev pub ok : Checked → Outcome
ok c = Ok c

abbrev failed : Fault → Outcome
failed fault = Err fault

abbrev checked_in : Checked → Outcome → Checked
checked_in d (Ok c) = c
checked_in d (Err fault) = d

pub passes : (P : Type 0) (faults : List Fault) (c : Checked) → MatchOption (first_by_place faults) P (λ fault. ok c ≡ failed fault) → (faults ≡ []) × P
passes P faults c h = let s = go (first_by_place faults) h in (no_fault faults s.0, s.1)
  where
    go : (o : Option Fault) → MatchOption o P (λ fault. ok c ≡ failed fault) → (o ≡ None) × P
    go None h = (refl, h)
    go (Some fault) h = let no : ⊥ = cc in absurd no

pub same_checked : (c d : Checked) → ok c ≡ ok d → c ≡ d
same_checked c d e = ap (checked_in d) e

pub joined_none : {X Y : Type 0} → (f : X → List Y) (xs : List X) → joined (map f xs) ≡ [] → AllByRecursion (λ x. f x ≡ []) xs
joined_none f [] e = tt
joined_none f (x ∷ xs) e = (first_none (f x) (joined (map f xs)) e, joined_none f xs (second_none (f x) (joined (map f xs)) e))

-- Texts that aren't among others.

kept_none : {X : Type 0} → (b : Bool) (x : X) → cond b (x ∷ []) [] ≡ [] → b ≡ false
kept_none true x e = let no : ⊥ = cc in absurd no
kept_none false x e = refl

pub neither_first : (a b : Bool) → (a || b) ≡ false → a ≡ false
neither_first true b e = e
neither_first false b e = refl

pub neither_second : (a b : Bool) → (a || b) ≡ false → b ≡ false
neither_second true b e = never e
neither_second false b e = e

pub others_than : (n : List ℕ) (ns : List (List ℕ)) → is_among ns n ≡ false → AllByRecursion (λ y. bytes_eq n y ≡ false) ns
others_than n [] e = tt
others_than n (m ∷ ns) e = (neither_first (bytes_eq n m) (is_among ns n) e, others_than n ns (neither_second (bytes_eq n m) (is_among ns n) e))

among_more : {X : Type 0} → (key : X → List ℕ) (before : List X) (x : X) (n : List ℕ) → is_among (map key (before ++ x ∷ [])) n ≡ false → (is_among (map key before) n ≡ false) × (bytes_eq n (key x) ≡ false)
among_more key [] x n e = (refl, neither_first (bytes_eq n (key x)) false e)
among_more key (b ∷ before) x n e =
    let s = among_more key before x n (neither_second (bytes_eq n (key b)) (is_among (map key (before ++ x ∷ [])) n) e) in
    (both (bytes_eq n (key b)) (is_among (map key before) n) (neither_first (bytes_eq n (key b)) (is_among (map key (before ++ x ∷ [])) n) e) s.0, s.1)
  where
    both : (a b : Bool) → a ≡ false → b ≡ false → (a || b) ≡ false
    both true b e f = e
    both false b e f = f

-- no element's key is among the known ones, or among those before it
module _ {X : Type 0} (key : X → List ℕ) (known : List (List ℕ)) (fault : X → Fault) where
  abbrev twice_row : List X → X → List Fault
  twice_row before x = cond (is_among known (key x) || is_among (map key before) (key x)) (fault x ∷ []) []

  once_at : (before xs : List X) → at_each twice_row before xs ≡ [] → AllByRecursion (λ x. is_among known (key x) ≡ false) xs × AllByRecursion (λ x. is_among (map key before) (key x) ≡ false) xs × AreOnce (map key xs)
  unfolding IsDistinct
  once_at before [] e = (tt, tt, tt)
  once_at before (x ∷ xs) e =
      let here = kept_none (is_among known (key x) || is_among (map key before) (key x)) (fault x) (first_none (twice_row before x) (at_each twice_row (before ++ x ∷ []) xs) e) in
      let more = once_at (before ++ x ∷ []) xs (second_none (twice_row before x) (at_each twice_row (before ++ x ∷ []) xs) e) in
      let P : X → Type 0 = λ y. is_among (map key (before ++ x ∷ [])) (key y) ≡ false in (
        (neither_first (is_among known (key x)) (is_among (map key before) (key x)) here, more.0),
        (
          neither_second (is_among known (key x)) (is_among (map key before) (key x)) here,
          all_each P (λ y. is_among (map key before) (key y) ≡ false) xs (λ y h. (among_more key before x (key y) h).0) more.1,
        ),
        (
          all_map (λ n. bytes_eq (key x) n ≡ false) key xs
              (all_each P (λ y. bytes_eq (key x) (key y) ≡ false) xs (λ y h. turned (key y) (key x) (among_more key before x (key y) h).1) more.1),
          more.2,
        ),
      )

pub declared_once : (component : List ℕ) (known : List (List ℕ)) (refs : List Ref) → declared_twice component known refs ≡ [] → AreOnce (names_of refs)
declared_once component known refs e = (once_at (λ r. r.name) known (λ r. fault_at component kind.DeclaredTwice r.place r.name) [] refs e).2

pub labelled_once : (component : List ℕ) (inherited : List (List ℕ)) (ls : List LabelAt) → labelled_twice component inherited ls ≡ [] → AreOther (map (λ l. l.0) ls) inherited × AreOnce (map (λ l. l.0) ls)
labelled_once component inherited ls e =
    let s = once_at (λ l. l.0) inherited (λ l. fault_at component kind.LabelTwice l.1 l.0) [] ls e in (
      all_map (λ n. AllByRecursion (λ y. bytes_eq n y ≡ false) inherited) (λ l. l.0) ls
          (all_each (λ l. is_among inherited l.0 ≡ false) (λ l. AllByRecursion (λ y. bytes_eq l.0 y ≡ false) inherited) ls (λ l h. others_than l.0 inherited h) s.0),
      s.2,
    )
