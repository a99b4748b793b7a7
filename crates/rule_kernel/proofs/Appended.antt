-- Names and claims over lists of formulas, one behind the other.
use Rattle.std.proofs.Common.{◌≡◌, ◌∙◌, sym, ap, refl, List, [], ◌∷◌, ◌++◌, map, append_assoc}
use Rattle.std.specs.List.{AllByRecursion}
use Rattle.formula_core.specs.declared.Formula.{Formula}
use Rattle.formula_core.specs.Formulas.{joined}
use Rattle.formula_core.specs.Identifiers.{identifiers}
use Rattle.rule_table.specs.Rules.{names_in}

pub names_append : (xs ys : List Formula) → names_in (xs ++ ys) ≡ names_in xs ++ names_in ys
names_append [] ys = refl
names_append (x ∷ xs) ys = ap (λ ns. identifiers x ++ ns) (names_append xs ys) ∙ sym (append_assoc (identifiers x) (names_in xs) (names_in ys))

pub names_of_parts : (g h a t : List Formula) → names_in (((g ++ h) ++ a) ++ t) ≡ ((names_in g ++ names_in h) ++ names_in a) ++ names_in t
names_of_parts g h a t = names_append ((g ++ h) ++ a) t ∙ ap (λ ns. ns ++ names_in t) (names_append (g ++ h) a ∙ ap (λ ns. ns ++ names_in a) (names_append g h))

-- a claim on each
module _ {X : Type 0} (P : X → Type 0) where
  pub all_append : (xs ys : List X) → AllByRecursion P xs → AllByRecursion P ys → AllByRecursion P (xs ++ ys)
  all_append [] ys ps qs = qs
  all_append (x ∷ xs) ys ps qs = (ps.0, all_append xs ys ps.1 qs)

  pub all_first : (xs ys : List X) → AllByRecursion P (xs ++ ys) → AllByRecursion P xs
  all_first [] ys ps = tt
  all_first (x ∷ xs) ys ps = (ps.0, all_first xs ys ps.1)

  pub all_last : (xs ys : List X) → AllByRecursion P (xs ++ ys) → AllByRecursion P ys
  all_last [] ys ps = ps
  all_last (x ∷ xs) ys ps = all_last xs ys ps.1

  pub all_joined : {Y : Type 0} (f : Y → List X) (ys : List Y) → AllByRecursion (λ y. AllByRecursion P (f y)) ys → AllByRecursion P (joined (map f ys))
  all_joined f [] ps = tt
  all_joined f (y ∷ ys) ps = all_append (f y) (joined (map f ys)) ps.0 (all_joined f ys ps.1)

  pub each_joined : {Y : Type 0} (f : Y → List X) (ys : List Y) → AllByRecursion P (joined (map f ys)) → AllByRecursion (λ y. AllByRecursion P (f y)) ys
  each_joined f [] ps = tt
  each_joined f (y ∷ ys) ps = (all_first (f y) (joined (map f ys)) ps, each_joined f ys (all_last (f y) (joined (map f ys)) ps))

-- a claim that follows from another, on each
pub all_mapped : {X : Type 0} (P Q : X → Type 0) → ((x : X) → P x → Q x) → (xs : List X) → AllByRecursion P xs → AllByRecursion Q xs
all_mapped P Q f [] ps = tt
all_mapped P Q f (x ∷ xs) ps = (f x ps.0, all_mapped P Q f xs ps.1)

pub ruleset laws = (names_append, names_of_parts)
