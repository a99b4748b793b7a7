-- The names of stored proofs that a table lacks.
use Rattle.std.proofs.Common.{◌≡◌, ◌≢◌, ◌∙◌, sym, ap, refl, ℕ, zero, suc, ◌+◌, ◌<◌, Bool, true, false, not, ◌||◌, cond, List, [], ◌∷◌, ◌++◌, take, get_or, length, map, filter, bytes_eq, arith}
use Rattle.std.specs.Prelude.{Option, Some, None, is_none, is_some}
use Rattle.std.specs.List.{AllByRecursion, HoldsAt}
use Rattle.std.proofs.lemmas.List.{map-append, append-nil}
use Rattle.std.proofs.lemmas.List.Elements.{filter-append}
use Rattle.std.proofs.lemmas.Slice.Eq.{bytes_eq-Decides}
use Rattle.sequent_core.specs.declared.Obligation.{Obligation}
use Rattle.build_core.specs.Tables.{IsPlaceInTable}
use Rattle.core_steps.specs.Table.{is_obligation}
use Rattle.core_steps.proofs.Lists.{take-one_more}

by_bool : (b : Bool) → (b ≡ true → ⊥) → b ≡ false
by_bool true f = absurd (f refl)
by_bool false f = refl

-- a name that no obligation has isn't in the table
not_named : (table : List Obligation) (name : List ℕ) → AllByRecursion (λ o. o.name ≢ name) table → is_obligation table name ≡ false
not_named [] name none = refl
not_named (o ∷ table) name none =
    let first : bytes_eq o.name name ≡ false = by_bool _ (λ e. none.0 ((bytes_eq-Decides o.name name).0 e)) in
    ap (λ b. b || is_obligation table name) first ∙ not_named table name none.1

or_true : (b : Bool) → (b || true) ≡ true
or_true true = refl
or_true false = refl

-- the name of an obligation is in the table
named : (table : List Obligation) (name : List ℕ) (at : ℕ) → at < length table → HoldsAt (λ o. o.name ≡ name) table at → is_obligation table name ≡ true
named [] name at lt has = absurd (omega arith)
named (o ∷ table) name zero lt has = ap (λ b. b || is_obligation table name) ((bytes_eq-Decides o.name name).1 (has o))
named (o ∷ table) name (suc at) lt has = ap (λ b. bytes_eq o.name name || b) (named table name at (omega arith) has) ∙ or_true (bytes_eq o.name name)

-- a name has no place in the table just where the table lacks it
pub place_named : (table : List Obligation) (name : List ℕ) (place : Option ℕ) → IsPlaceInTable table name place → not (is_obligation table name) ≡ is_none place
place_named table name None is = ap not (not_named table name is)
place_named table name (Some at) is = ap not (named table name at is.0 is.2)

pub none_is : (o : Option ℕ) (b : Bool) → not b ≡ is_some o → is_none o ≡ b
none_is None true e = refl
none_is None false e = absurd (let no : true ≡ false = e in cc)
none_is (Some x) true e = absurd (let no : false ≡ true = e in cc)
none_is (Some x) false e = refl

-- one entry more, whose key passes the test or doesn't
module _ {X : Type 0} (test : List ℕ → Bool) (es : List (List ℕ × X)) (at : ℕ) (e : List ℕ × X) (lt : at < length es) (is : e ≡ get_or es at e) where
  keys_more : (b : Bool) → test e.0 ≡ b → filter test (map (λ x. x.0) (take (at + 1) es)) ≡ filter test (map (λ x. x.0) (take at es)) ++ cond b (e.0 ∷ []) []
  keys_more b t =
      ap (λ xs. filter test (map (λ x. x.0) xs)) (take-one_more es at e lt is)
      ∙ ap (filter test) (map-append (λ (x : List ℕ × X). x.0) (take at es) (e ∷ []))
      ∙ filter-append test (map (λ x. x.0) (take at es)) (e.0 ∷ [])
      ∙ ap (λ c. filter test (map (λ x. x.0) (take at es)) ++ cond c (e.0 ∷ []) []) t

  pub key_passes : (names : List (List ℕ)) → names ≡ filter test (map (λ x. x.0) (take at es)) → test e.0 ≡ true →
      names ++ e.0 ∷ [] ≡ filter test (map (λ x. x.0) (take (at + 1) es))
  key_passes names was t = ap (λ ns. ns ++ e.0 ∷ []) was ∙ sym (keys_more true t)

  pub key_fails : (names : List (List ℕ)) → names ≡ filter test (map (λ x. x.0) (take at es)) → test e.0 ≡ false →
      names ≡ filter test (map (λ x. x.0) (take (at + 1) es))
  key_fails names was t = was ∙ sym (keys_more false t ∙ append-nil (filter test (map (λ x. x.0) (take at es))))
