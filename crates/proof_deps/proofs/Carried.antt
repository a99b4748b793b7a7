-- The carrier sets of the types of a formula's identifiers are among its identifiers.
use Rattle.std.proofs.Common.{◌∙◌, sym, subst, ℕ, List, [], ◌∷◌, ◌++◌, map}
use Rattle.std.specs.Prelude.{Contains}
use Rattle.std.specs.List.{AllByRecursion}
use Rattle.std.proofs.lemmas.List.Elements.{All-contains, All-from_recursion, All-contains_itself, recursion_from_All, Contains-append_left, Contains-append_right}
use Rattle.formula_core.specs.declared.Ty.{Ty}
use Rattle.formula_core.specs.declared.Ty.TheVariants.{Given, Pow}
use Rattle.formula_core.specs.declared.Formula.{Formula}
use Rattle.formula_core.specs.Formulas.{joined}
use Rattle.formula_core.specs.Identifiers.{carriers, identifiers}
use Rattle.formula_core.proofs.Equations.{carriers-Given, carriers-Pow, carriers-Pair, identifiers-Free, identifiers-Bound, identifiers-Node, identifiers-Bind}
use Rattle.formula_core.proofs.Induction.{formula_induction}
use Rattle.formula_core.proofs.Keeping.{both, all_more, carriers-Int, carriers-Bool, carriers-Truth, identifiers-Int}
use Rattle.formula_core.proofs.Types.{type_induction}

abbrev pub Names : Type 0
Names = List (List ℕ × Ty)

-- an element of a list has what all have
pub at : {X : Type 0} (P : X → Type 0) (xs : List X) (x : X) → AllByRecursion P xs → Contains xs x → P x
at P xs x h c = All-contains P xs x (All-from_recursion P xs h) c

pub itself : {X : Type 0} (xs : List X) → AllByRecursion (Contains xs) xs
itself xs = recursion_from_All (Contains xs) xs (All-contains_itself xs)

-- the carrier sets of the first names' types are among the others
abbrev CarriedBy : Names → Names → Type 0
CarriedBy all xs = AllByRecursion (λ y. AllByRecursion (Contains all) (carriers y.1)) xs

-- the carrier sets of the types are among the names
abbrev pub IsClosed : Names → Type 0
IsClosed xs = CarriedBy xs xs

wider : (xs all : Names) → ((y : List ℕ × Ty) → Contains xs y → Contains all y) → (ys : Names) → CarriedBy xs ys → CarriedBy all ys
wider xs all f = all_more (λ y. AllByRecursion (Contains xs) (carriers y.1)) (λ y. AllByRecursion (Contains all) (carriers y.1)) (λ y. all_more (Contains xs) (Contains all) f (carriers y.1))

pub closed_both : (xs ys : Names) → IsClosed xs → IsClosed ys → IsClosed (xs ++ ys)
closed_both xs ys h k =
    both (λ y. AllByRecursion (Contains (xs ++ ys)) (carriers y.1)) xs ys
    (wider xs (xs ++ ys) (λ y c. Contains-append_left xs ys y c) xs h)
    (wider ys (xs ++ ys) (λ y c. Contains-append_right xs ys y c) ys k)

pub closed_joined : {X : Type 0} (names : X → Names) (xs : List X) → AllByRecursion (λ x. IsClosed (names x)) xs → IsClosed (joined (map names xs))
closed_joined names [] h = tt
closed_joined names (x ∷ xs) h = closed_both (names x) (joined (map names xs)) h.0 (closed_joined names xs h.1)

given : (name : List ℕ) → IsClosed (carriers (Given name))
given name =
    let one : Names = (name, Pow (Given name)) ∷ [] in
    let own : AllByRecursion (Contains one) (carriers (Pow (Given name))) = subst (AllByRecursion (Contains one)) (sym (carriers-Pow (Given name) ∙ carriers-Given name)) (itself one) in
    subst IsClosed (sym (carriers-Given name)) (own, tt)

type_closed : (t : Ty) → IsClosed (carriers t)
type_closed = type_induction (λ t. IsClosed (carriers t))
    (subst IsClosed (sym carriers-Int) tt)
    (subst IsClosed (sym carriers-Bool) tt)
    given
    (λ t h. subst IsClosed (sym (carriers-Pow t)) h)
    (λ t u h k. subst IsClosed (sym (carriers-Pair t u)) (closed_both (carriers t) (carriers u) h k))
    (subst IsClosed (sym carriers-Truth) tt)

types_closed : (ts : List Ty) → AllByRecursion (λ t. IsClosed (carriers t)) ts
types_closed [] = tt
types_closed (t ∷ ts) = (type_closed t, types_closed ts)

free : (name : List ℕ) (t : Ty) → IsClosed ((name, t) ∷ carriers t)
free name t =
    let more : (y : List ℕ × Ty) → Contains (carriers t) y → Contains ((name, t) ∷ carriers t) y = λ y c. Contains-append_right ((name, t) ∷ []) (carriers t) y c in
    (all_more (Contains (carriers t)) (Contains ((name, t) ∷ carriers t)) more (carriers t) (itself (carriers t)), wider (carriers t) ((name, t) ∷ carriers t) more (carriers t) (type_closed t))

pub formula_closed : (f : Formula) → IsClosed (identifiers f)
formula_closed = formula_induction (λ f. IsClosed (identifiers f))
    (λ n. subst IsClosed (sym (identifiers-Int n)) tt)
    (λ name t. subst IsClosed (sym (identifiers-Free name t)) (free name t))
    (λ i t. subst IsClosed (sym (identifiers-Bound i t)) (type_closed t))
    (λ op parts t each. subst IsClosed (sym (identifiers-Node op parts t)) (closed_both (joined (map identifiers parts)) (carriers t) (closed_joined identifiers parts each) (type_closed t)))
    (λ binder types parts t each. subst IsClosed (sym (identifiers-Bind binder types parts t))
    (closed_both (joined (map carriers types) ++ joined (map identifiers parts)) (carriers t)
    (closed_both (joined (map carriers types)) (joined (map identifiers parts)) (closed_joined carriers types (types_closed types)) (closed_joined identifiers parts each)) (type_closed t)))

formulas_closed : (fs : List Formula) → AllByRecursion (λ f. IsClosed (identifiers f)) fs
formulas_closed [] = tt
formulas_closed (f ∷ fs) = (formula_closed f, formulas_closed fs)

-- the names of formulas
pub names_closed : (fs : List Formula) → IsClosed (joined (map identifiers fs))
names_closed fs = closed_joined identifiers fs (formulas_closed fs)
