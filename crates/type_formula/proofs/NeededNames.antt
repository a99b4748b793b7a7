-- A formula has the same typings over the wanted names that occur in it as over all of them.
use Rattle.std.proofs.Common.{◌≡◌, ◌∙◌, sym, ap, refl, ℕ, suc, Bool, true, false, cond, ◌||◌, List, [], ◌∷◌, ◌++◌, length, fold, Option, Some, None, is_some, bytes_eq, IsTrue}
use Rattle.std.specs.List.{AllByRecursion, list_any}
use Rattle.std.specs.Cmp.Lexicographic.{same_text}
use Rattle.std.proofs.lemmas.Cmp.{nat_list_eq_equiv}
use Rattle.formula_core.specs.declared.ty.Ty.{Ty}
use Rattle.formula_core.specs.declared.ty.Ty.TheVariants as ty
use Rattle.formula_core.specs.declared.formula.Formula.{Formula}
use Rattle.formula_core.specs.declared.formula.Formula.TheVariants as formula
use Rattle.formula_core.specs.Env.{type_in}
use Rattle.formula_core.specs.Types.{is_value_type}
use Rattle.unification.proofs.Terms.{value-Int}
use Rattle.type_formula.specs.Answers.{paired, AreValueTypes, IsTypedAs, IsTheFormula, HasNoFormula, HasTwoFormulas}
use Rattle.type_formula.specs.Bare.{Bare, Bares, Number, Identifier, Form, Partition, Binding, Ascribed, Broken, nothing, more}
use Rattle.type_formula.specs.PrivateOccurring.{names_in, all_names_in, is_needed, with_wanted, occurring}
use Rattle.type_formula.specs.Scopes.{Scope, one_further, position_of, with_names, IsFree, IsName}
use Rattle.type_formula.specs.Typings.{Types, AllTyped}
use Rattle.type_formula.proofs.Named.{Entries, all_append, all_front, all_back, all_each, placed_type, sooner, later, found_has, is_wanted}

-- Scopes in which the names of a formula have the same types give it the same typings.

-- a free name has its type in the second scope too
abbrev Serves : Scope Ty → Scope Ty → List ℕ → Type 0
Serves one two x = (f : Formula) (t : Ty) → IsFree x (position_of x one) f t → IsFree x (position_of x two) f t

name_served : (x : List ℕ) (o p q : Option (ℕ × Ty)) (f : Formula) (t : Ty) → (IsFree x p f t → IsFree x q f t) → IsName x o p f t → IsName x o q f t
name_served x (Some r) p q f t s h = h
name_served x None p q f t s h = s h

mutual
  types_served : (env : Entries) (bound one two : Scope Ty) (b : Bare) (f : Formula) (t : Ty) → AllByRecursion (Serves one two) (names_in b) → Types env bound one b f t → Types env bound two b f t
  types_served env bound one two (Number n) f t s h = h
  types_served env bound one two (Identifier x place) f t s h = (h.0, name_served x (position_of x bound) (position_of x one) (position_of x two) f t (s.0 f t) h.1)
  types_served env bound one two (Form op parts) f t s h = (h.0, h.1, all_served env bound one two parts h.0 h.1 s h.2, h.3, h.4)
  types_served env bound one two (Partition parts) f t s h = (h.0, h.1, all_served env bound one two parts h.0 h.1 s h.2, h.3, h.4)
  types_served env bound one two (Binding binder names parts) f t s h =
      (h.0, h.1, h.2, h.3, h.4, all_served env (with_names names h.0 bound) one two parts h.3 h.4 s h.5, h.6, h.7)
  types_served env bound one two (Ascribed e written) f t s h = (h.0, types_served env bound one two e f t s h.1)
  types_served env bound one two (Broken parts) f t s h = absurd h

  all_served : (env : Entries) (bound one two : Scope Ty) (bs : Bares) (fs : List Formula) (ts : List Ty) → AllByRecursion (Serves one two) (all_names_in bs) → AllTyped env bound one bs fs ts → AllTyped env bound two bs fs ts
  all_served env bound one two nothing fs ts s h = h
  all_served env bound one two (more b bs) fs ts s h = (
    h.0,
    h.1,
    h.2,
    h.3,
    types_served env bound one two b h.0 h.2 (all_front (Serves one two) (names_in b) (all_names_in bs) s) h.4,
    all_served env bound one two bs h.1 h.3 (all_back (Serves one two) (names_in b) (all_names_in bs) s) h.5,
    h.6,
    h.7,
  )

-- A name is free of a type where the scope has it with that type.

abbrev HasPlace : List ℕ → Scope Ty → Ty → Type 0
HasPlace x s t = (p : ℕ × Ty) × (position_of x s ≡ Some p) × (p.1 ≡ t)

place_step : (a b : Bool) (u t : Ty) (o : Option (ℕ × Ty)) (q : Option Ty) → a ≡ b → (q ≡ Some t → (p : ℕ × Ty) × (o ≡ Some p) × (p.1 ≡ t))
    → cond b (Some u) q ≡ Some t → (p : ℕ × Ty) × (cond a (Some (0, u)) (one_further o) ≡ Some p) × (p.1 ≡ t)
place_step true true u t o q e further h = ((0, u), refl, cc)
place_step true false u t o q e further h = cc
place_step false true u t o q e further h = cc
place_step false false u t o q e further h = let r = further h in ((suc r.0.0, r.0.1), ap one_further r.1, r.2)

has_place : (x : List ℕ) (s : Scope Ty) (t : Ty) → type_in s x ≡ Some t → HasPlace x s t
has_place x [] t h = cc
has_place x (e ∷ es) t h = place_step (bytes_eq e.0 x) (bytes_eq x e.0) e.1 t (position_of x es) (type_in es x) (nat_list_eq_equiv.symm e.0 x) (has_place x es t) h

type_of_free : (x : List ℕ) (s : Scope Ty) (f : Formula) (t : Ty) (o : Option (ℕ × Ty)) → position_of x s ≡ o → IsFree x o f t → (f ≡ formula.Free x t) × (type_in s x ≡ Some t)
type_of_free x s f t None e h = absurd h
type_of_free x s f t (Some p) e h = (h.0, placed_type x s p e ∙ ap Some (sym h.1))

free_by_place : (x : List ℕ) (f : Formula) (t : Ty) (o : Option (ℕ × Ty)) (p : ℕ × Ty) → f ≡ formula.Free x t → o ≡ Some p → p.1 ≡ t → IsFree x o f t
free_by_place x f t None p is e h = cc
free_by_place x f t (Some q) p is e h = (is, (let same : q.1 ≡ p.1 = cc in sym (same ∙ h)))

serves : (env : Entries) (old new : List (List ℕ)) (ts us : List Ty) (x : List ℕ)
    → ((t : Ty) → type_in env x ≡ None → type_in (paired old ts) x ≡ Some t → type_in (paired new us) x ≡ Some t)
    → Serves (env ++ paired old ts) (env ++ paired new us) x
serves env old new ts us x moved f t h =
    let k = type_of_free x (env ++ paired old ts) f t (position_of x (env ++ paired old ts)) refl h in
    let there : type_in (env ++ paired new us) x ≡ Some t = go t k.1 (type_in env x) refl in
    let p = has_place x (env ++ paired new us) t there in
    free_by_place x f t (position_of x (env ++ paired new us)) p.0 k.0 p.1 p.2
  where
    go : (t : Ty) → type_in (env ++ paired old ts) x ≡ Some t → (o : Option Ty) → type_in env x ≡ o → type_in (env ++ paired new us) x ≡ Some t
    go t k (Some u) e = sooner env (paired new us) x u e ∙ sym (sooner env (paired old ts) x u e) ∙ k
    go t k None e = later env (paired new us) x e ∙ moved t e (sym (later env (paired old ts) x e) ∙ k)

-- Names take the types that a scope has for them, and the integers where it has none.

abbrev or_integers : Option Ty → Ty
or_integers None = ty.Int
or_integers (Some t) = t

abbrev types_from : Entries → List (List ℕ) → List Ty
types_from s [] = []
types_from s (x ∷ xs) = or_integers (type_in s x) ∷ types_from s xs

types_length : (s : Entries) (xs : List (List ℕ)) → length (types_from s xs) ≡ length xs
types_length s [] = refl
types_length s (x ∷ xs) = ap suc (types_length s xs)

or_value : (o : Option Ty) → ((t : Ty) → o ≡ Some t → IsTrue (is_value_type t)) → IsTrue (is_value_type (or_integers o))
or_value None h = value-Int
or_value (Some t) h = h t refl

abbrev HasValue : List ℕ × Ty → Type 0
HasValue e = IsTrue (is_value_type e.1)

types_values : (s : Entries) (xs : List (List ℕ)) → AllByRecursion HasValue s → AreValueTypes (types_from s xs)
types_values s [] h = tt
types_values s (x ∷ xs) h = (or_value (type_in s x) (λ t e. found_has HasValue s x t h e), types_values s xs h)

paired_values : (xs : List (List ℕ)) (ts : List Ty) → AreValueTypes ts → AllByRecursion HasValue (paired xs ts)
paired_values [] ts h = tt
paired_values (x ∷ xs) [] h = tt
paired_values (x ∷ xs) (t ∷ ts) h = (h.0, paired_values xs ts h.1)

types_found : (s : Entries) (xs : List (List ℕ)) (x : List ℕ) (t : Ty) → list_any (bytes_eq x) xs ≡ true → type_in s x ≡ Some t → type_in (paired xs (types_from s xs)) x ≡ Some t
types_found s [] x t h k = cc
types_found s (y ∷ xs) x t h k = go (bytes_eq x y) refl (types_found s xs x t) h
  where
    go : (b : Bool) → bytes_eq x y ≡ b → (list_any (bytes_eq x) xs ≡ true → type_in s x ≡ Some t → type_in (paired xs (types_from s xs)) x ≡ Some t)
        → (b || list_any (bytes_eq x) xs) ≡ true → cond b (Some (or_integers (type_in s y))) (type_in (paired xs (types_from s xs)) x) ≡ Some t
    go true e rest h = let same : x ≡ y = same_text x y (sym e) in ap (λ z. Some (or_integers (type_in s z))) (sym same) ∙ ap (λ o. Some (or_integers o)) k
    go false e rest h = rest h k

-- each name that is not in the environment and among the first names is among the others
abbrev Covers : Entries → List (List ℕ) → List (List ℕ) → List (List ℕ) → Type 0
Covers env old new xs = AllByRecursion (λ x. type_in env x ≡ None → list_any (bytes_eq x) old ≡ true → list_any (bytes_eq x) new ≡ true) xs

typing_moved : (env : Entries) (old new : List (List ℕ)) (b : Bare) (o : Option Ty) (f : Formula) → Covers env old new (names_in b) → IsTypedAs env old b o f → IsTypedAs env new b o f
typing_moved env old new b o f c h =
    let s = paired old h.0 in
    let us = types_from s new in (
      us,
      types_values s new (paired_values old h.0 h.1),
      types_length s new,
      h.3,
      h.4,
      types_served env [] (env ++ paired old h.0) (env ++ paired new us) b f h.3
          (all_each (λ x. type_in env x ≡ None → list_any (bytes_eq x) old ≡ true → list_any (bytes_eq x) new ≡ true) (Serves (env ++ paired old h.0) (env ++ paired new us)) (names_in b)
          (λ x covered. serves env old new h.0 us x (λ t e k. types_found s new x t (covered e (is_wanted old h.0 x t k)) k)) c) h.5,
    )

-- The occurring names are wanted, and each wanted name of the formula is among them.

any_first : (p : List ℕ → Bool) (xs ys : List (List ℕ)) → list_any p xs ≡ true → list_any p (xs ++ ys) ≡ true
any_first p [] ys h = cc
any_first p (x ∷ xs) ys h = go (p x) (any_first p xs ys) h
  where
    go : (b : Bool) → (list_any p xs ≡ true → list_any p (xs ++ ys) ≡ true) → (b || list_any p xs) ≡ true → (b || list_any p (xs ++ ys)) ≡ true
    go true rest h = refl
    go false rest h = rest h

any_last : (p : List ℕ → Bool) (xs : List (List ℕ)) (y : List ℕ) → p y ≡ true → list_any p (xs ++ y ∷ []) ≡ true
any_last p [] y h = ap (λ b. b || false) h
any_last p (x ∷ xs) y h = go (p x) (any_last p xs y h)
  where
    go : (b : Bool) → list_any p (xs ++ y ∷ []) ≡ true → (b || list_any p (xs ++ y ∷ [])) ≡ true
    go true rest = refl
    go false rest = rest

module _ (env : Entries) (wanted : List (List ℕ)) where
  abbrev IsWanted : List ℕ → Type 0
  IsWanted x = list_any (bytes_eq x) wanted ≡ true

  needed_wanted : (a b : Bool) → cond a false b ≡ true → b ≡ true
  needed_wanted true b e = cc
  needed_wanted false b e = e

  wanted_with : (found : List (List ℕ)) (x : List ℕ) → AllByRecursion IsWanted found → AllByRecursion IsWanted (with_wanted env wanted found x)
  wanted_with found x all = go (is_needed env wanted found x) refl
    where
      go : (b : Bool) → is_needed env wanted found x ≡ b → AllByRecursion IsWanted (cond b (found ++ x ∷ []) found)
      go true e = all_append IsWanted found (x ∷ []) all (needed_wanted (is_some (type_in env x) || list_any (bytes_eq x) found) (list_any (bytes_eq x) wanted) e, tt)
      go false e = all

  wanted_all : (xs found : List (List ℕ)) → AllByRecursion IsWanted found → AllByRecursion IsWanted (fold (with_wanted env wanted) found xs)
  wanted_all [] found all = all
  wanted_all (x ∷ xs) found all = wanted_all xs (with_wanted env wanted found x) (wanted_with found x all)

  among_wanted : (xs : List (List ℕ)) (x : List ℕ) → AllByRecursion IsWanted xs → list_any (bytes_eq x) xs ≡ true → IsWanted x
  among_wanted [] x all h = cc
  among_wanted (y ∷ xs) x all h = go (bytes_eq x y) refl (among_wanted xs x all.1) h
    where
      go : (b : Bool) → bytes_eq x y ≡ b → (list_any (bytes_eq x) xs ≡ true → IsWanted x) → (b || list_any (bytes_eq x) xs) ≡ true → IsWanted x
      go true e rest h = let same : x ≡ y = same_text x y (sym e) in ap (λ z. list_any (bytes_eq z) wanted) same ∙ all.0
      go false e rest h = rest h

  kept_with : (found : List (List ℕ)) (x y : List ℕ) → list_any (bytes_eq y) found ≡ true → list_any (bytes_eq y) (with_wanted env wanted found x) ≡ true
  kept_with found x y h = go (is_needed env wanted found x)
    where
      go : (b : Bool) → list_any (bytes_eq y) (cond b (found ++ x ∷ []) found) ≡ true
      go true = any_first (bytes_eq y) found (x ∷ []) h
      go false = h

  kept_all : (xs found : List (List ℕ)) (y : List ℕ) → list_any (bytes_eq y) found ≡ true → list_any (bytes_eq y) (fold (with_wanted env wanted) found xs) ≡ true
  kept_all [] found y h = h
  kept_all (x ∷ xs) found y h = kept_all xs (with_wanted env wanted found x) y (kept_with found x y h)

  added : (found : List (List ℕ)) (x : List ℕ) → type_in env x ≡ None → IsWanted x → list_any (bytes_eq x) (with_wanted env wanted found x) ≡ true
  added found x none is =
      ap (λ o. list_any (bytes_eq x) (cond (cond (is_some o || list_any (bytes_eq x) found) false (list_any (bytes_eq x) wanted)) (found ++ x ∷ []) found)) none
      ∙ go (list_any (bytes_eq x) found) (list_any (bytes_eq x) wanted) refl is
    where
      go : (a b : Bool) → list_any (bytes_eq x) found ≡ a → b ≡ true → list_any (bytes_eq x) (cond (cond a false b) (found ++ x ∷ []) found) ≡ true
      go true b e h = e
      go false true e h = any_last (bytes_eq x) found x (nat_list_eq_equiv.refl x)
      go false false e h = cc

  added_all : (xs found : List (List ℕ)) → Covers env wanted (fold (with_wanted env wanted) found xs) xs
  added_all [] found = tt
  added_all (x ∷ xs) found =
      (λ none is. kept_all xs (with_wanted env wanted found x) x (added found x none is), added_all xs (with_wanted env wanted found x))

  all_within : (xs names : List (List ℕ)) → AllByRecursion IsWanted names → Covers env names wanted xs
  all_within [] names all = tt
  all_within (x ∷ xs) names all = (λ none h. among_wanted names x all h, all_within xs names all)

  module _ (b : Bare) (o : Option Ty) where
    abbrev needed : List (List ℕ)
    needed = occurring env wanted b

    over_all : (f : Formula) → IsTypedAs env needed b o f → IsTypedAs env wanted b o f
    over_all f h = typing_moved env needed wanted b o f (all_within (names_in b) needed (wanted_all (names_in b) [] tt)) h

    over_needed : (f : Formula) → IsTypedAs env wanted b o f → IsTypedAs env needed b o f
    over_needed f h = typing_moved env wanted needed b o f (added_all (names_in b) []) h

    pub one_formula : (f : Formula) → IsTheFormula env needed b o f → IsTheFormula env wanted b o f
    one_formula f h = record { typed = over_all f h.typed; only = λ other k. h.only other (over_needed other k) }

    pub no_formula : HasNoFormula env needed b o → HasNoFormula env wanted b o
    no_formula h f k = h f (over_needed f k)

    pub two_formulas : HasTwoFormulas env needed b o → HasTwoFormulas env wanted b o
    two_formulas h = record { one = h.one; two = h.two; first = over_all h.one h.first; second = over_all h.two h.second; apart = h.apart }
