-- Terms of a hint, one more, or one that isn't typed.
use Rattle.std.specs.Prelude.{IsErrOf, IfOk, Result, Ok, Err}
use Rattle.std.proofs.Common.{◌≡◌, ◌∙◌, ◌⊎◌, inl, inr, MatchOption, sym, ap, refl, subst, ℕ, zero, suc, ◌+◌, ◌<◌, List, [], ◌∷◌, ◌++◌, length, take, get_or, Option, Some, None, slice_get, arith}
use Rattle.formula_core.specs.declared.formula.Formula.{Formula}
use Rattle.formula_core.specs.declared.raw.Raw.{Raw}
use Rattle.formula_core.specs.declared.ty.Ty.{Ty}
use Rattle.formula_core.specs.declared.ty.Ty.TheVariants.{Truth}
use Rattle.type_formula.specs.declared.predicate.TypeFault.{TypeFault}
use Rattle.type_formula.specs.declared.predicate.TypeFault.TheVariants as fault
use Rattle.type_formula.specs.CoreForms.{core_form}
use Rattle.type_formula.specs.Answers.{IsTheFormula, HasNoFormula, HasTwoFormulas}
use Rattle.type_formula.specs.Bare.{Bare}
use Rattle.rule_table.specs.Rows.{first}
use Rattle.rule_making.specs.Make.{IsTerm, IsTypedAlone, AreTerms, without_first}

pub first_is_at : (types : List Ty) → first types ≡ slice_get types 0
first_is_at [] = refl
first_is_at (t ∷ types) = refl

rest_is_at : (types : List Ty) (i : ℕ) → slice_get (without_first types) i ≡ slice_get types (suc i)
rest_is_at [] zero = refl
rest_is_at [] (suc i) = refl
rest_is_at (t ∷ types) i = refl

module _ (env : List (List ℕ × Ty)) where
  one_more : (types : List Ty) (raws : List Raw) (terms : List Formula) (raw : Raw) (f : Formula) → AreTerms env types raws terms
      → IsTerm env (slice_get types (length raws)) raw f → AreTerms env types (raws ++ raw ∷ []) (terms ++ f ∷ [])
  one_more types [] [] raw f are is = (subst (λ t. IsTerm env t raw f) (sym (first_is_at types)) is, tt)
  one_more types [] (g ∷ terms) raw f are is = absurd are
  one_more types (r ∷ raws) [] raw f are is = absurd are
  one_more types (r ∷ raws) (g ∷ terms) raw f are is =
      (are.0, one_more (without_first types) raws terms raw f are.1 (subst (λ t. IsTerm env t raw f) (sym (rest_is_at types (length raws))) is))

  -- the terms up to a place, and the one there
  pub terms_more : (types : List Ty) (raws : List Raw) (terms : List Formula) (i : ℕ) (raw : Raw) (f : Formula) → i < length raws → raw ≡ get_or raws i raw
      → AreTerms env types (take i raws) terms → IsTerm env (slice_get types i) raw f → AreTerms env types (take (i + 1) raws) (terms ++ f ∷ [])
  terms_more types [] terms i raw f h e are is = absurd (omega arith)
  terms_more types (r ∷ raws) [] zero raw f h e are is = (subst (λ t. IsTerm env t r f) (sym (first_is_at types)) (subst (λ x. IsTerm env (slice_get types 0) x f) e is), tt)
  terms_more types (r ∷ raws) (g ∷ terms) zero raw f h e are is = absurd are
  terms_more types (r ∷ raws) [] (suc i) raw f h e are is = absurd are
  terms_more types (r ∷ raws) (g ∷ terms) (suc i) raw f h e are is = subst (λ n. AreTerms env types (take n (r ∷ raws)) (g ∷ (terms ++ f ∷ []))) next
      (are.0, terms_more (without_first types) raws terms i raw f (omega arith) e are.1 (subst (λ t. IsTerm env t raw f) (sym (rest_is_at types i)) is)) where
        next : suc (i + 1) ≡ suc i + 1
        next = omega arith

  -- one of them isn't typed
  pub not_terms : (types : List Ty) (raws : List Raw) (i : ℕ) (raw : Raw) → i < length raws → raw ≡ get_or raws i raw → ((f : Formula) → IsTerm env (slice_get types i) raw f → ⊥)
      → (terms : List Formula) → AreTerms env types raws terms → ⊥
  not_terms types [] i raw h e lacks terms are = absurd (omega arith)
  not_terms types (r ∷ raws) i raw h e lacks [] are = absurd are
  not_terms types (r ∷ raws) zero raw h e lacks (f ∷ terms) are =
      lacks f (subst (λ x. IsTerm env (slice_get types 0) x f) (sym e) (subst (λ t. IsTerm env t r f) (first_is_at types) are.0))
  not_terms types (r ∷ raws) (suc i) raw h e lacks (f ∷ terms) are =
      not_terms (without_first types) raws i raw (omega arith) e (λ g is. lacks g (subst (λ t. IsTerm env t raw g) (rest_is_at types i) is)) terms are.1

pub not_both : (env : List (List ℕ × Ty)) (b : Bare) (expected : Option Ty) (f : Formula) → HasTwoFormulas env [] b expected → IsTheFormula env [] b expected f → ⊥
not_both env b expected f two is = two.apart (is.only two.one two.first ∙ sym (is.only two.two two.second))

-- why no term is typed
pub not_typed : (env : List (List ℕ × Ty)) (b : Bare) (x : Option Ty) (why : TypeFault) → (why ≡ fault.OutOfMemory → ⊥)
    → (IsErrOf {T = Formula} (Err why) fault.Clash → HasNoFormula env [] b x) → (IsErrOf {T = Formula} (Err why) fault.Untyped → HasTwoFormulas env [] b x)
    → ((name : List ℕ) (place : ℕ) → IsErrOf {T = Formula} (Err why) (fault.Unknown name place) → ⊥) → (f : Formula) → IsTheFormula env [] b x f → ⊥
not_typed env b x fault.Clash m c u k f is = c refl f is.typed
not_typed env b x fault.Untyped m c u k f is = not_both env b x f (u refl) is
not_typed env b x (fault.Unknown name place) m c u k f is = k name place refl
not_typed env b x fault.OutOfMemory m c u k f is = m refl

abbrev pub Typed : List (List ℕ × Ty) → Bare → Option Ty → Option Formula → Type 0
Typed env b x o = MatchOption o ((f : Formula) → IsTheFormula env [] b x f → ⊥) (λ f. IsTheFormula env [] b x f)

pub none_typed : (env : List (List ℕ × Ty)) (b : Bare) (x : Option Ty) (o : Option Formula) → o ≡ None → ((f : Formula) → IsTheFormula env [] b x f → ⊥) → Typed env b x o
none_typed env b x None e lacks = lacks
none_typed env b x (Some f) e lacks = absurd (cc)

pub at_none : {X : Type 0} (o : Option X) (A : Type 0) (B : X → Type 0) → o ≡ None → MatchOption o A B → A
at_none None A B e m = m
at_none (Some x) A B e m = absurd (cc)

pub either : (env : List (List ℕ × Ty)) (b : Bare) (o : Option Formula) → ((f : Formula) → IsTheFormula env [] b (Some Truth) f → ⊥) → Typed env b None o
    → MatchOption o ((f : Formula) → IsTypedAlone env b f → ⊥) (λ f. IsTypedAlone env b f)
either env b None lacks t = λ f is. elim is [ inl p ↦ lacks f p | inr q ↦ t f q.1 ]
either env b (Some f) lacks t = inr (lacks, t)

pub as_term : (env : List (List ℕ × Ty)) (x : Option Ty) (t : Ty) (raw : Raw) (b : Bare) (o : Option Formula) → b ≡ core_form raw → x ≡ Some t → Typed env b (Some t) o
    → MatchOption o ((f : Formula) → IsTerm env x raw f → ⊥) (λ f. IsTerm env x raw f)
as_term env x t raw b o e h is =
    subst (λ y. MatchOption o ((f : Formula) → IsTerm env y raw f → ⊥) (λ f. IsTerm env y raw f)) (sym h) (subst (λ c. Typed env c (Some t) o) e is)

pub alone_term : (env : List (List ℕ × Ty)) (x : Option Ty) (raw : Raw) (b : Bare) (o : Option Formula) → b ≡ core_form raw → x ≡ None
    → MatchOption o ((f : Formula) → IsTypedAlone env b f → ⊥) (λ f. IsTypedAlone env b f)
    → MatchOption o ((f : Formula) → IsTerm env x raw f → ⊥) (λ f. IsTerm env x raw f)
alone_term env x raw b o e h is =
    subst (λ y. MatchOption o ((f : Formula) → IsTerm env y raw f → ⊥) (λ f. IsTerm env y raw f)) (sym h)
    (subst (λ c. MatchOption o ((f : Formula) → IsTypedAlone env c f → ⊥) (λ f. IsTypedAlone env c f)) e is)

pub both_ok : {X E : Type 0} (r : Result X E) (P Q : X → Type 0) → IfOk r P → IfOk r Q → IfOk r (λ x. P x × Q x)
both_ok (Ok x) P Q p q = (p, q)
both_ok (Err e) P Q p q = tt

pub ruleset laws = (terms_more, not_terms)
