-- From the solutions of the equations to the typings of a formula.
use Rattle.std.proofs.Common.{◌≡◌, ◌∙◌, sym, ap, subst, refl, ℕ, zero, suc, List, [], ◌∷◌, ◌++◌, length, get_or, true, Option, Some, None, IsTrue, arith}
use Rattle.formula_core.specs.declared.ty.Ty.{Ty}
use Rattle.formula_core.specs.declared.ty.Ty.TheVariants as ty
use Rattle.formula_core.specs.declared.formula.Formula.{Formula}
use Rattle.formula_core.specs.declared.raw.Raw.{Raw}
use Rattle.formula_core.specs.Types.{is_value_type}
use Rattle.unification.specs.Terms.{value}
use Rattle.unification.specs.Solutions.{Equality, IsAssignment, Solves, HasNoSolution}
use Rattle.unification.specs.Known.{AreKnown}
use Rattle.unification.proofs.Terms.{value-Int, value_of_type}
use Rattle.type_formula.specs.Bare.{Bare}
use Rattle.type_formula.specs.CoreForms.{core_form}
use Rattle.type_formula.specs.Typings.{Types}
use Rattle.type_formula.specs.PrivateGenerated.{generated}
use Rattle.type_formula.proofs.Built.{built}
use Rattle.type_formula.specs.PrivateClosed.{known}
use Rattle.type_formula.specs.PrivateViews.{scope_of, numbered_scope, free_scope, expected_term}
use Rattle.type_formula.specs.declared.scope.Entry.{Entry}
use Rattle.type_formula.specs.Answers.{paired, AreValueTypes, IsExpected, IsTypedAs, with_names_typed, IsTheTyping, HasNoTyping, HasTwoTypings, IsTheFormula, HasNoFormula, HasTwoFormulas}
use Rattle.type_formula.proofs.Places.{typed_at}
use Rattle.type_formula.proofs.Sound.{sound}
use Rattle.type_formula.proofs.Complete.{Reads, complete, values_append}
use Rattle.type_formula.proofs.Determined.{known_built, built_differs}

-- the types of a row of variables
abbrev row : (ℕ → Ty) → ℕ → List (List ℕ) → List Ty
row v n [] = []
row v n (x ∷ xs) = v n ∷ row v (suc n) xs

numbered-typed : (v : ℕ → Ty) (xs : List (List ℕ)) (n : ℕ) (ts : List Ty) → length ts ≡ length xs → Reads v n ts → typed_at v (numbered_scope xs n) ≡ paired xs ts
numbered-typed v [] n [] e h = refl
numbered-typed v [] n (t ∷ ts) e h = cc
numbered-typed v (x ∷ xs) n [] e h = cc
numbered-typed v (x ∷ xs) n (t ∷ ts) e h =
    let long : length ts ≡ length xs = omega arith in
    λ i. (x, h.0 i) ∷ numbered-typed v xs (suc n) ts long h.1 i

free-typed : (v : ℕ → Ty) (env : List (List ℕ × Ty)) (wanted : List (List ℕ)) (ts : List Ty) → length ts ≡ length wanted → Reads v 0 ts → typed_at v (free_scope env wanted) ≡ env ++ paired wanted ts
free-typed v [] wanted ts e h = numbered-typed v wanted 0 ts e h
free-typed v (x ∷ env) wanted ts e h = λ i. (x.0, value_of_type v x.1 i) ∷ free-typed v env wanted ts e h i

row_reads : (v : ℕ → Ty) (n : ℕ) (xs : List (List ℕ)) → Reads v n (row v n xs)
row_reads v n [] = tt
row_reads v n (x ∷ xs) = (refl, row_reads v (suc n) xs)

row_values : (v : ℕ → Ty) → IsAssignment v → (n : ℕ) (xs : List (List ℕ)) → AreValueTypes (row v n xs)
row_values v h n [] = tt
row_values v h n (x ∷ xs) = (h n, row_values v h (suc n) xs)

length-row : (v : ℕ → Ty) (n : ℕ) (xs : List (List ℕ)) → length (row v n xs) ≡ length xs
length-row v n [] = refl
length-row v n (x ∷ xs) = ap suc (length-row v (suc n) xs)

-- the equations of a formula that is to have a type, whose variable follows those of the wanted names
abbrev pub equations : List (List ℕ × Ty) → List (List ℕ) → Bare → Option Ty → List Equality
equations env wanted b o = generated env [] (free_scope env wanted) b (suc (length wanted)) (expected_term o (length wanted))

abbrev pub formula_at : (ℕ → Ty) → List (List ℕ) → Bare → Formula
formula_at v wanted b = built v [] b (suc (length wanted))

expected_here : (v : ℕ → Ty) → IsAssignment v → (o : Option Ty) (n : ℕ) → IsExpected o (value v (expected_term o n))
expected_here v h (Some t) n = value_of_type v t
expected_here v h None n = h n

solution_types : (v : ℕ → Ty) → IsAssignment v → (env : List (List ℕ × Ty)) (wanted : List (List ℕ)) (b : Bare) (o : Option Ty) → Solves v (equations env wanted b o) → IsTypedAs env wanted b o (formula_at v wanted b)
solution_types v h env wanted b o s =
    let e = expected_term o (length wanted) in
    let free = free-typed v env wanted (row v 0 wanted) (length-row v 0 wanted) (row_reads v 0 wanted) in
    let typed = sound v h env [] (free_scope env wanted) b (suc (length wanted)) e s in
    let scoped = subst (λ sc. Types env [] sc b (formula_at v wanted b) (value v e)) free typed in
    (row v 0 wanted, row_values v h 0 wanted, length-row v 0 wanted, value v e, expected_here v h o (length wanted), scoped)

-- an assignment from a list
abbrev listed : List Ty → ℕ → Ty
listed ts i = get_or ts i ty.Int

listed_values : (ts : List Ty) → AreValueTypes ts → (i : ℕ) → IsTrue (is_value_type (get_or ts i ty.Int))
listed_values [] h zero = value-Int
listed_values [] h (suc i) = value-Int
listed_values (t ∷ ts) h zero = h.0
listed_values (t ∷ ts) h (suc i) = listed_values ts h.1 i

reads_cons : (u : Ty) (us : List Ty) (n : ℕ) (ts : List Ty) → Reads (listed us) n ts → Reads (listed (u ∷ us)) (suc n) ts
reads_cons u us n [] h = tt
reads_cons u us n (t ∷ ts) h = (h.0, reads_cons u us (suc n) ts h.1)

reads_all : (ts us : List Ty) → Reads (listed (ts ++ us)) 0 ts
reads_all [] us = tt
reads_all (t ∷ ts) us = (refl, reads_cons t (ts ++ us) 0 ts (reads_all ts us))

reads_rest : (ts us : List Ty) → Reads (listed (ts ++ us)) (length ts) us
reads_rest [] us = subst (λ l. Reads (listed l) 0 us) (go us) (reads_all us [])
  where
    go : (xs : List Ty) → xs ++ [] ≡ xs
    go [] = refl
    go (x ∷ xs) = ap (λ ys. x ∷ ys) (go xs)
reads_rest (t ∷ ts) us = reads_cons t (ts ++ us) (length ts) us (reads_rest ts us)

-- a type for the variable of the expected type
abbrev filler : Option Ty → Ty → Ty
filler (Some u) t = ty.Int
filler None t = t

filler_value : (o : Option Ty) (t : Ty) → IsExpected o t → is_value_type (filler o t) ≡ true
filler_value (Some u) t h = value-Int
filler_value None t h = h

expected_value : (v : ℕ → Ty) (o : Option Ty) (t : Ty) (n : ℕ) → IsExpected o t → v n ≡ filler o t → value v (expected_term o n) ≡ t
expected_value v (Some u) t n h e = value_of_type v u ∙ sym h
expected_value v None t n h e = e

-- each typing comes from a solution
typing_solves : (env : List (List ℕ × Ty)) (wanted : List (List ℕ)) (b : Bare) (o : Option Ty) (f : Formula) → IsTypedAs env wanted b o f → (v : ℕ → Ty) × IsAssignment v × Solves v (equations env wanted b o) × (formula_at v wanted b ≡ f)
typing_solves env wanted b o f h =
    let t = h.3 in
    let chosen = complete env [] (env ++ paired wanted h.0) b f t h.5 in
    let all = filler o t ∷ chosen.types in
    let v : ℕ → Ty = listed (h.0 ++ all) in
    let reads = subst (λ n. Reads (listed (h.0 ++ all)) n all) h.2 (reads_rest h.0 all) in
    let free = free-typed (listed (h.0 ++ all)) env wanted h.0 h.2 (reads_all h.0 all) in
    let is = expected_value (listed (h.0 ++ all)) o t (length wanted) h.4 reads.0 in
    let serves = chosen.serves (listed (h.0 ++ all)) (suc (length wanted)) [] (free_scope env wanted) (expected_term o (length wanted)) refl free is reads.1 in
    (listed (h.0 ++ all), listed_values (h.0 ++ all) (values_append h.0 all h.1 (filler_value o t h.4, chosen.all_values)), serves.0, serves.1)

module _ (env : List (List ℕ × Ty)) (wanted : List (List ℕ)) (b : Bare) (o : Option Ty) (es : List Equality) (is : es ≡ equations env wanted b o) where
  pub none_typed : HasNoSolution es → HasNoFormula env wanted b o
  none_typed none f h =
      let s = typing_solves env wanted b o f h in
      none s.0 s.1 (subst (Solves s.0) (sym is) s.2)

  -- all solutions give this formula
  pub one_typed : (ts : List (Option Ty)) (f : Formula) → AreKnown es ts → known ts [] b (suc (length wanted)) ≡ Some f → IsTheFormula env wanted b o f
  one_typed ts f k e =
      let sols = k.solutions in
      let typed = solution_types sols.one sols.one_assigns env wanted b o (subst (Solves sols.one) is sols.one_solves) in
      let here = known_built sols.one ts (k.given sols.one sols.one_assigns sols.one_solves) [] b (suc (length wanted)) f e in
      record {
        typed = subst (IsTypedAs env wanted b o) here typed;
        only = λ other h.
            let s = typing_solves env wanted b o other h in
            sym s.3 ∙ known_built s.0 ts (k.given s.0 s.1 (subst (Solves s.0) (sym is) s.2)) [] b (suc (length wanted)) f e;
      }

  -- two solutions give two formulas
  pub two_typed : (ts : List (Option Ty)) → AreKnown es ts → known ts [] b (suc (length wanted)) ≡ None → HasTwoFormulas env wanted b o
  two_typed ts k e =
      let sols = k.solutions in
      record {
        one = formula_at sols.one wanted b;
        two = formula_at sols.two wanted b;
        first = solution_types sols.one sols.one_assigns env wanted b o (subst (Solves sols.one) is sols.one_solves);
        second = solution_types sols.two sols.two_assigns env wanted b o (subst (Solves sols.two) is sols.two_solves);
        apart = built_differs sols.one sols.two ts k.differ [] b (suc (length wanted)) e;
      }

-- from the formula to the environment
pub the_typing : (env : List (List ℕ × Ty)) (wanted : List (List ℕ)) (raw : Raw) (f : Formula) (new_env : List (List ℕ × Ty)) → IsTheFormula env wanted (core_form raw) (Some ty.Truth) f → new_env ≡ with_names_typed env wanted f → IsTheTyping env wanted raw f new_env
the_typing env wanted raw f new_env h e = record {
  typing = (h.typed, e);
  only = λ other other_env o. let same = h.only other o.0 in (same, o.1 ∙ ap (with_names_typed env wanted) same ∙ sym e);
}

pub no_typing : (env : List (List ℕ × Ty)) (wanted : List (List ℕ)) (raw : Raw) → HasNoFormula env wanted (core_form raw) (Some ty.Truth) → HasNoTyping env wanted raw
no_typing env wanted raw h f new_env t = h f t.0

pub two_typings : (env : List (List ℕ × Ty)) (wanted : List (List ℕ)) (raw : Raw) → HasTwoFormulas env wanted (core_form raw) (Some ty.Truth) → HasTwoTypings env wanted raw
two_typings env wanted raw h = record { one = h.one; two = h.two; first = (h.first, refl); second = (h.second, refl); apart = h.apart }

pub known_is : (ts seen : List (Option Ty)) (sc : List Entry) (b : Bare) (n m : ℕ) → seen ≡ ts → sc ≡ [] → n ≡ m → known ts [] b m ≡ known seen (scope_of sc) b n
known_is ts seen sc b n m s c e = sym (λ i. known (s i) (scope_of (c i)) b (e i))
