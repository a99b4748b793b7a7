-- What comes of the tests of a rule.
use Rattle.std.proofs.Common.{◌≡◌, sym, refl, subst, Bool, true, false, Option, Some, None, Result, Ok, Err}
use Rattle.std.specs.Prelude.{IfSome, IsSome, ◌↔◌, IsTrue}
use Rattle.rule_table.specs.declared.rule.Rule.{Rule}
use Rattle.rule_table.specs.declared.rule.Body.{Body}
use Rattle.rule_table.specs.declared.kind.RuleKind.{RuleKind}
use Rattle.rule_table.specs.Rows.{IsInstance}
use Rattle.rule_table.specs.Rules.{IsRule, IsSound, body_of, rule_of}
use Rattle.sequent_core.specs.declared.sequent.Sequent.{Sequent}
use Rattle.rule_making.specs.declared.fault.RuleFault.{RuleFault}
use Rattle.rule_making.specs.declared.fault.RuleFault.TheVariants as fault
use Rattle.rule_making.specs.Make.{FitsAt, IsWithinSizes}
use Rattle.rule_making.specs.Private.{IsMetBy, KeepsWhere, TestsBody}

module _ (s : Sequent) (k : RuleKind) (b : Body) where
  fits : IsInstance k b → IsSound k b → IsMetBy s (rule_of k b) → FitsAt (rule_of k b) s
  fits i is met = record { rule = record { instance = i; sound = is; used = refl }; meets = met.meets; children = refl; fresh = met.fresh }

  met : FitsAt (rule_of k b) s → IsMetBy s (rule_of k b)
  met fit = record { meets = fit.meets; fresh = fit.fresh }

  pub unsound : IsWithinSizes k b → (IsSound k b → ⊥) → TestsBody s k b (Err fault.NoForm)
  unsound small n = (small, λ fit. n fit.rule.sound)

  kept_is : (r : Result Rule RuleFault) → IsInstance k b → IsSound k b → IsWithinSizes k b → KeepsWhere (IsMetBy s (rule_of k b)) (rule_of k b) r → TestsBody s k b r
  kept_is (Ok r) i is small t = (t.1, subst (λ x. FitsAt x s) (sym t.1) (fits i is t.0))
  kept_is (Err fault.NoPlace) i is small t = absurd t
  kept_is (Err fault.BadTerm) i is small t = absurd t
  kept_is (Err (fault.NotFresh x)) i is small t = absurd t
  kept_is (Err fault.NoForm) i is small t = (small, λ fit. t (met fit))
  kept_is (Err (fault.TooWide x y)) i is small t = absurd t
  kept_is (Err fault.TooLarge) i is small t = absurd t
  kept_is (Err fault.OutOfMemory) i is small t = absurd t

  pub kept : (q : Rule) (r : Result Rule RuleFault) → q ≡ rule_of k b → IsInstance k b → IsSound k b → IsWithinSizes k b → KeepsWhere (IsMetBy s q) q r → TestsBody s k b r
  kept q r e i is small t = kept_is r i is small (subst (λ x. KeepsWhere (IsMetBy s x) x r) e t)

-- what a test says
pub no_test : (b : Bool) (P : Type 0) → IsTrue b ↔ P → b ≡ false → P → ⊥
no_test true P h e p = absurd (cc)
no_test false P h e p = let q : false ≡ true = h.1 p in absurd (cc)

pub test : (b : Bool) (P : Type 0) → IsTrue b ↔ P → b ≡ true → P
test true P h e = h.0 e
test false P h e = absurd (cc)

pub some_test : {X : Type 0} (o : Option X) (x : X) (P : Type 0) → IsSome o ↔ P → o ≡ Some x → P
some_test None x P h e = absurd (cc)
some_test (Some y) x P h e = h.0 refl

pub none_test : {X : Type 0} (o : Option X) (P : Type 0) → IsSome o ↔ P → o ≡ None → P → ⊥
none_test None P h e p = let q : false ≡ true = h.1 p in absurd (cc)
none_test (Some y) P h e p = absurd (cc)

pub of_some : {X : Type 0} (o : Option X) (x : X) (P : X → Type 0) → IfSome o P → o ≡ Some x → P x
of_some None x P h e = absurd (cc)
of_some (Some y) x P h e = subst P (some_is y x e) h where
  some_is : {X : Type 0} (a b : X) → Some a ≡ Some b → a ≡ b
  some_is a b e = cc

pub instance_of : (r : Rule) (k : RuleKind) (b : Body) → r.kind ≡ k → body_of r ≡ b → IsInstance k b → IsInstance r.kind (body_of r)
instance_of r k b e f i = subst (λ x. IsInstance x (body_of r)) (sym e) (subst (IsInstance k) (sym f) i)

pub tests_of : (s : Sequent) (r : Rule) (k : RuleKind) (b : Body) (a : Result Rule RuleFault) → r.kind ≡ k → body_of r ≡ b → TestsBody s r.kind (body_of r) a → TestsBody s k b a
tests_of s r k b a e f t = subst (λ x. TestsBody s x b a) e (subst (λ x. TestsBody s r.kind x a) f t)
