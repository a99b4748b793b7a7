-- Each typing is a solution of the formula's equations.
use Rattle.std.proofs.Common.{◌≡◌, ◌∙◌, sym, ap, subst, refl, ℕ, suc, ◌+◌, Bool, true, false, List, [], ◌∷◌, ◌++◌, length, map, Option, Some, None, arith, length-append}
use Rattle.formula_core.specs.declared.ty.Ty.{Ty}
use Rattle.formula_core.specs.declared.formula.Formula.{Formula}
use Rattle.formula_core.specs.declared.formula.Formula.TheVariants as formula
use Rattle.formula_core.specs.Rows.{row_of}
use Rattle.formula_core.specs.Schemes.{Scheme, Letters, AreValues, type_of_scheme, operand_schemes, result_scheme, part_schemes, binder_scheme}
use Rattle.formula_core.specs.Wellness.{is_natural}
use Rattle.unification.specs.Terms.{Open, variable, value, instance_from}
use Rattle.unification.specs.Solutions.{Solves}
use Rattle.unification.proofs.Terms.{value_of_type, value_of_scheme, letters_at}
use Rattle.unification.proofs.Unify.{Solves-append}
use Rattle.type_formula.specs.Bare.{Bare, Bares, BareBounds, Number, Identifier, Form, Partition, Binding, Ascribed, Broken, nothing, more, unbound, plain, typed, part_count, has_names}
use Rattle.type_formula.specs.Scopes.{Scope, position_of, with_names, IsName}
use Rattle.type_formula.specs.TypeExpressions.{denoted}
use Rattle.type_formula.specs.Partition.{partition_schemes, partition_of}
use Rattle.type_formula.specs.Typings.{AreBound, Types, AllTyped}
use Rattle.type_formula.specs.PrivateGenerated.{variable_width, widths, with_variables, name_equations, condition, type_equations, bound_equations, generated, all_generated, name_core, name_count}
use Rattle.type_formula.proofs.Built.{types_at, built, all_built}
use Rattle.type_formula.specs.Answers.{AreValueTypes}
use Rattle.type_formula.proofs.Denoted.{denoted_values}
use Rattle.type_formula.proofs.Places.{typed_at, typed_place, values, position-typed, with_names-typed, instances-at, denoted-typed}

pub values_append : (a b : List Ty) → AreValueTypes a → AreValueTypes b → AreValueTypes (a ++ b)
values_append [] b p q = q
values_append (t ∷ a) b p q = (p.0, values_append a b p.1 q)

-- the variables from n on have these types
abbrev pub Reads : (ℕ → Ty) → ℕ → List Ty → Type 0
Reads v n [] = Unit {0}
Reads v n (t ∷ ts) = (v n ≡ t) × Reads v (suc n) ts

pub Reads-append : (v : ℕ → Ty) (n : ℕ) (a b : List Ty) → Reads v n (a ++ b) → Reads v n a × Reads v (n + length a) b
Reads-append v n [] b h = (tt, let e : n ≡ n + 0 = omega arith in subst (λ m. Reads v m b) e h)
Reads-append v n (t ∷ a) b h =
    let rest = Reads-append v (suc n) a b h.1 in
    let e : suc n + length a ≡ n + length (t ∷ a) = omega arith in
    ((h.0, rest.0), subst (λ m. Reads v m b) e rest.1)

reads_four : (v : ℕ → Ty) (n : ℕ) (l : Letters) (ts : List Ty) → Reads v n (l.alpha ∷ l.beta ∷ l.gamma ∷ l.delta ∷ ts) → (letters_at v n ≡ l) × Reads v (n + 4) ts
reads_four v n l ts h =
    let one : suc n ≡ n + 1 = omega arith in
    let two : suc (suc n) ≡ n + 2 = omega arith in
    let three : suc (suc (suc n)) ≡ n + 3 = omega arith in
    let four : suc (suc (suc (suc n))) ≡ n + 4 = omega arith in
    let b : v (n + 1) ≡ l.beta = ap v (sym one) ∙ h.1.0 in
    let c : v (n + 2) ≡ l.gamma = ap v (sym two) ∙ h.1.1.0 in
    let d : v (n + 3) ≡ l.delta = ap v (sym three) ∙ h.1.1.1.0 in
    let a = h.0 in
    let all : letters_at v n ≡ record { alpha = l.alpha; beta = l.beta; gamma = l.gamma; delta = l.delta } = λ i. record { alpha = a i; beta = b i; gamma = c i; delta = d i } in
    (all, subst (λ m. Reads v m ts) four h.1.1.1.1)

pub four_values : (l : Letters) (ts : List Ty) → AreValues l → AreValueTypes ts → AreValueTypes (l.alpha ∷ l.beta ∷ l.gamma ∷ l.delta ∷ ts)
four_values l ts p q = (p.alpha, (p.beta, (p.gamma, (p.delta, q))))

condition_solved : (v : ℕ → Ty) (b : Bool) → b ≡ true → Solves v (condition b)
condition_solved v true e = tt
condition_solved v false e = cc

type_solved : (v : ℕ → Ty) (o : Option Ty) (e : Open) (t : Ty) → o ≡ Some t → value v e ≡ t → Solves v (type_equations o e)
type_solved v None e t h is = cc
type_solved v (Some u) e t h is = let same : u ≡ t = cc in (value_of_type v u ∙ same ∙ sym is, tt)

name_complete : (v : ℕ → Ty) (x : List ℕ) (pb pf : Option (ℕ × Open)) (n : ℕ) (e : Open) (f : Formula) (t : Ty) → IsName x (typed_place v pb) (typed_place v pf) f t → v n ≡ t → value v e ≡ t → Solves v (name_equations pb pf n e) × (name_core x pb (v n) ≡ f)
name_complete v x (Some p) pf n e f t named reads is = ((reads ∙ named.1, (reads ∙ sym is, tt)), ap (formula.Bound p.0) reads ∙ sym named.0)
name_complete v x None (Some p) n e f t named reads is = ((reads ∙ named.1, (reads ∙ sym is, tt)), ap (formula.Free x) reads ∙ sym named.0)
name_complete v x None None n e f t named reads is = absurd named

-- the names of a binder have the types that their variables read
pub record BoundChosen (env : List (List ℕ × Ty)) (B : Scope Ty) (names : BareBounds) (ts : List Ty) : Type 0 where
  pub all_values : AreValueTypes ts
  pub long : length ts ≡ name_count names
  pub serves : (v : ℕ → Ty) (n : ℕ) (outer : Scope Open) → typed_at v outer ≡ B → Reads v n ts → Solves v (bound_equations env outer names n) × (types_at v names n ≡ ts)

bound_complete : (env : List (List ℕ × Ty)) (B : Scope Ty) (names : BareBounds) (ts : List Ty) → AreBound env B names ts → BoundChosen env B names ts
bound_complete env B unbound ts h = record {
  all_values = subst AreValueTypes (sym h) tt;
  long = ap length h;
  serves = λ v n outer b reads. (tt, sym h);
}
bound_complete env B (plain x names) ts h =
    let rest = bound_complete env B names h.1 h.3 in
    record {
      all_values = subst AreValueTypes (sym h.4) (h.2, rest.all_values);
      long = ap length h.4 ∙ ap suc rest.long;
      serves = λ v n outer b reads.
          let read : Reads v n (h.0 ∷ h.1) = subst (Reads v n) h.4 reads in
          let inner = rest.serves v (suc n) outer b read.1 in
          (inner.0, (λ i. read.0 i ∷ inner.1 i) ∙ sym h.4);
    }
bound_complete env B (typed x written names) ts h =
    let rest = bound_complete env B names h.1 h.3 in
    record {
      all_values = subst AreValueTypes (sym h.4) (denoted_values env B written h.0 h.2, rest.all_values);
      long = ap length h.4 ∙ ap suc rest.long;
      serves = λ v n outer b reads.
          let read : Reads v n (h.0 ∷ h.1) = subst (Reads v n) h.4 reads in
          let inner = rest.serves v (suc n) outer b read.1 in
          let is : denoted env outer written ≡ Some h.0 = sym (denoted-typed v env outer written) ∙ ap (λ s. denoted env s written) b ∙ h.2 in (
            (Solves-append v (type_equations (denoted env outer written) (variable n)) (bound_equations env outer names (suc n))).1 (type_solved v (denoted env outer written) (variable n) h.0 is read.0, inner.0),
            (λ i. read.0 i ∷ inner.1 i) ∙ sym h.4,
          );
    }

-- types for the variables of a formula, by which each assignment solves its equations
pub record Chosen (env : List (List ℕ × Ty)) (B F : Scope Ty) (b : Bare) (f : Formula) (t : Ty) : Type 0 where
  pub types : List Ty
  pub all_values : AreValueTypes types
  pub long : length types ≡ variable_width b
  pub serves : (v : ℕ → Ty) (n : ℕ) (bound free : Scope Open) (e : Open) → typed_at v bound ≡ B → typed_at v free ≡ F → value v e ≡ t → Reads v n types → Solves v (generated env bound free b n e) × (built v bound b n ≡ f)

pub record AllChosen (env : List (List ℕ × Ty)) (B F : Scope Ty) (bs : Bares) (fs : List Formula) (ts : List Ty) : Type 0 where
  pub types : List Ty
  pub all_values : AreValueTypes types
  pub long : length types ≡ widths bs
  pub serves : (v : ℕ → Ty) (n : ℕ) (bound free : Scope Open) (es : List Open) → typed_at v bound ≡ B → typed_at v free ≡ F → values v es ≡ ts → Reads v n types → Solves v (all_generated env bound free bs n es) × (all_built v bound bs n ≡ fs)

none_expected : (v : ℕ → Ty) (env : List (List ℕ × Ty)) (bound free : Scope Open) (es : List Open) (n : ℕ) → values v es ≡ [] → Solves v (all_generated env bound free nothing n es)
none_expected v env bound free [] n h = tt
none_expected v env bound free (e ∷ es) n h = cc

one_expected : (v : ℕ → Ty) (env : List (List ℕ × Ty)) (bound free : Scope Open) (b : Bare) (bs : Bares) (es : List Open) (n : ℕ) (t : Ty) (ts : List Ty) (f : Formula) (fs all : List Formula) → values v es ≡ t ∷ ts → all ≡ f ∷ fs → ((e : Open) → value v e ≡ t → Solves v (generated env bound free b n e) × (built v bound b n ≡ f)) → ((es : List Open) → values v es ≡ ts → Solves v (all_generated env bound free bs (n + variable_width b) es) × (all_built v bound bs (n + variable_width b) ≡ fs)) → Solves v (all_generated env bound free (more b bs) n es) × (all_built v bound (more b bs) n ≡ all)
one_expected v env bound free b bs [] n t ts f fs all h is first others = cc
one_expected v env bound free b bs (e ∷ es) n t ts f fs all h is first others =
    let a : value v e ≡ t = cc in
    let r : values v es ≡ ts = cc in
    let c = first e a in
    let d = others es r in (
      (Solves-append v (generated env bound free b n e) (all_generated env bound free bs (n + variable_width b) es)).1 (c.0, d.0),
      (λ i. c.1 i ∷ d.1 i) ∙ sym is,
    )

-- the schemes of a form under an assignment that reads its letters
operands_read : (v : ℕ → Ty) (n : ℕ) (l : Letters) (schemes : List Scheme) (types : List Ty) → letters_at v n ≡ l → types ≡ map (type_of_scheme l) schemes → values v (map (instance_from n) schemes) ≡ types
operands_read v n l schemes types e h = instances-at v n schemes ∙ ap (λ m. map (type_of_scheme m) schemes) e ∙ sym h

whole_read : (v : ℕ → Ty) (n : ℕ) (l : Letters) (s : Scheme) (t : Ty) → letters_at v n ≡ l → t ≡ type_of_scheme l s → type_of_scheme (letters_at v n) s ≡ t
whole_read v n l s t e h = ap (λ m. type_of_scheme m s) e ∙ sym h

mutual
  pub complete : (env : List (List ℕ × Ty)) (B F : Scope Ty) (b : Bare) (f : Formula) (t : Ty) → Types env B F b f t → Chosen env B F b f t
  complete env B F (Number k) f t h = record {
    types = [];
    all_values = tt;
    long = refl;
    serves = λ v n bound free e b c d reads. ((sym h.2 ∙ sym d, condition_solved v (is_natural k) h.0), sym h.1);
  }
  complete env B F (Identifier x place) f t h = record {
    types = t ∷ [];
    all_values = (h.0, tt);
    long = refl;
    serves = λ v n bound free e b c d reads.
        let one = subst (λ o. IsName x o (position_of x F) f t) (ap (position_of x) (sym b) ∙ position-typed v x bound) h.1 in
        let two = subst (λ o. IsName x (typed_place v (position_of x bound)) o f t) (ap (position_of x) (sym c) ∙ position-typed v x free) one in
        name_complete v x (position_of x bound) (position_of x free) n e f t two reads.0 d;
  }
  complete env B F (Form op parts) f t h =
      let inner = all_complete env B F parts h.0 h.1 h.2 in
      let is = h.3 in
      let l = is.letters in
      record {
        types = l.alpha ∷ l.beta ∷ l.gamma ∷ l.delta ∷ inner.types;
        all_values = four_values l inner.types is.values inner.all_values;
        long = (let b = inner.long in omega arith);
        serves = λ v n bound free e b c d reads.
            let four = reads_four v n l inner.types reads in
            let operands = operands_read v n l (operand_schemes (row_of op) (part_count parts)) h.1 four.0 is.operands_are in
            let whole = whole_read v n l (result_scheme (row_of op)) t four.0 is.whole_is in
            let rest = inner.serves v (n + 4) bound free (map (instance_from n) (operand_schemes (row_of op) (part_count parts))) b c operands four.1 in (
              (value_of_scheme v n (result_scheme (row_of op)) ∙ whole ∙ sym d, rest.0),
              (λ i. formula.Node op (rest.1 i) (whole i)) ∙ sym h.4,
            );
      }
  complete env B F (Partition parts) f t h =
      let inner = all_complete env B F parts h.0 h.1 h.2 in
      let is = h.3 in
      let l = is.letters in
      record {
        types = l.alpha ∷ l.beta ∷ l.gamma ∷ l.delta ∷ inner.types;
        all_values = four_values l inner.types is.values inner.all_values;
        long = (let b = inner.long in omega arith);
        serves = λ v n bound free e b c d reads.
            let four = reads_four v n l inner.types reads in
            let operands = operands_read v n l (partition_schemes (part_count parts)) h.1 four.0 is.operands_are in
            let rest = inner.serves v (n + 4) bound free (map (instance_from n) (partition_schemes (part_count parts))) b c operands four.1 in (
              (sym is.whole_is ∙ sym d, rest.0),
              ap partition_of rest.1 ∙ sym h.4,
            );
      }
  complete env B F (Binding binder names parts) f t h =
      let ts = h.0 in
      let bound_types = bound_complete env B names ts h.1 in
      let inner = all_complete env (with_names names ts B) F parts h.3 h.4 h.5 in
      let is = h.6 in
      let l = is.letters in
      record {
        types = l.alpha ∷ l.beta ∷ l.gamma ∷ l.delta ∷ (ts ++ inner.types);
        all_values = four_values l (ts ++ inner.types) is.values (values_append ts inner.types bound_types.all_values inner.all_values);
        long = (let a = length-append ts inner.types in let b = inner.long in let c = bound_types.long in omega arith);
        serves = λ v n bound free e b c d reads.
            let four = reads_four v n l (ts ++ inner.types) reads in
            let two = Reads-append v (n + 4) ts inner.types four.1 in
            let named = bound_types.serves v (n + 4) bound b two.0 in
            let scope : typed_at v (with_variables names (n + 4) bound) ≡ with_names names ts B =
            sym (with_names-typed v names (n + 4) bound) ∙ ap (λ us. with_names names us (typed_at v bound)) named.1 ∙ ap (with_names names ts) b in
            let operands = operands_read v n l (part_schemes binder) h.4 four.0 is.operands_are in
            let whole = whole_read v n l (binder_scheme binder) t four.0 is.whole_is in
            let rest = inner.serves v (n + 4 + name_count names) (with_variables names (n + 4) bound) free (map (instance_from n) (part_schemes binder)) scope c operands (subst (λ k. Reads v (n + 4 + k) inner.types) bound_types.long two.1) in
            let parts_equations = all_generated env (with_variables names (n + 4) bound) free parts (n + 4 + name_count names) (map (instance_from n) (part_schemes binder)) in (
              (
                value_of_scheme v n (binder_scheme binder) ∙ whole ∙ sym d,
                (Solves-append v (condition (has_names names)) (bound_equations env bound names (n + 4) ++ parts_equations)).1
                    (condition_solved v (has_names names) h.2, (Solves-append v (bound_equations env bound names (n + 4)) parts_equations).1 (named.0, rest.0)),
              ),
              (λ i. formula.Bind binder (named.1 i) (rest.1 i) (whole i)) ∙ sym h.7,
            );
      }
  complete env B F (Ascribed x written) f t h =
      let inner = complete env B F x f t h.1 in
      record {
        types = inner.types;
        all_values = inner.all_values;
        long = inner.long;
        serves = λ v n bound free e b c d reads.
            let rest = inner.serves v n bound free e b c d reads in
            let is : denoted env bound written ≡ Some t = sym (denoted-typed v env bound written) ∙ ap (λ s. denoted env s written) b ∙ h.0 in
            ((Solves-append v (type_equations (denoted env bound written) e) (generated env bound free x n e)).1 (type_solved v (denoted env bound written) e t is d, rest.0), rest.1);
      }
  complete env B F (Broken parts) f t h = absurd h

  all_complete : (env : List (List ℕ × Ty)) (B F : Scope Ty) (bs : Bares) (fs : List Formula) (ts : List Ty) → AllTyped env B F bs fs ts → AllChosen env B F bs fs ts
  all_complete env B F nothing fs ts h = record {
    types = [];
    all_values = tt;
    long = refl;
    serves = λ v n bound free es b c d reads. (none_expected v env bound free es n (d ∙ h.1), sym h.0);
  }
  all_complete env B F (more b bs) fs ts h =
      let first = complete env B F b h.0 h.2 h.4 in
      let others = all_complete env B F bs h.1 h.3 h.5 in
      record {
        types = first.types ++ others.types;
        all_values = values_append first.types others.types first.all_values others.all_values;
        long = (let a = length-append first.types others.types in let c = first.long in let d = others.long in omega arith);
        serves = λ v n bound free es p q d reads.
            let two = Reads-append v n first.types others.types reads in
            one_expected v env bound free b bs es n h.2 h.3 h.0 h.1 fs (d ∙ h.7) h.6
            (λ e i. first.serves v n bound free e p q i two.0)
            (λ es i. others.serves v (n + variable_width b) bound free es p q i (subst (λ k. Reads v (n + k) others.types) first.long two.1));
      }
