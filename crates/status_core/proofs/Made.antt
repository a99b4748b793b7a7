-- What comes of what is prepared.
use Rattle.std.proofs.Common.{◌≡◌, sym, ap, subst, ℕ, List}
use Rattle.std.specs.Prelude.{Some, None, Result, Ok, Err, IfOk}
use Rattle.sequent_core.specs.declared.Obligation.{Obligation}
use Rattle.core_steps.specs.declared.events.Event.{Event}
use Rattle.core_steps.specs.declared.events.Reply.TheVariants.{NoObligation}
use Rattle.core_steps.specs.State.{State}
use Rattle.core_steps.specs.Outcomes.{StepOutcome, told}
use Rattle.core_steps.specs.Table.{IsPresent}
use Rattle.core_steps.specs.Step.{ComesBeside}
use Rattle.prepared_events.specs.Prepared.{Ready, IsReady}
use Rattle.status_core.specs.PrivateParts.{FindsObligation, ComesAs, Prepares, made}

-- what holds of a result where another does
pub if_ok : {A E : Type 0} (P Q : A → Type 0) (r : Result A E) → ((a : A) → P a → Q a) → IfOk r P → IfOk r Q
if_ok P Q (Ok a) f p = f a p
if_ok P Q (Err e) f p = tt

pub if_ok_both : {A E : Type 0} (P Q R : A → Type 0) (r : Result A E) → ((a : A) → P a → Q a → R a) → IfOk r P → IfOk r Q → IfOk r R
if_ok_both P Q R (Ok a) f p q = f a p q
if_ok_both P Q R (Err e) f p q = tt

-- what is prepared comes as another thing, where that comes of its outcome
pub so_made : (s : State) (X Y : StepOutcome → Type 0) (p : Ready) → ((x : StepOutcome) → X x → Y x) → ComesAs s X p → ComesAs s Y p
so_made s X Y p f c = record { comes = f (made p s) c.comes; ready = c.ready }

-- what is prepared is this outcome, of which the thing comes
pub as_made : (s : State) (X : StepOutcome → Type 0) (p : Ready) (z : StepOutcome) → ComesAs s (λ x. x ≡ z) p → X z → ComesAs s X p
as_made s X p z c x = so_made s (λ y. y ≡ z) X p (λ y e. subst X (sym e) x) c

-- what is prepared is the same as this, which is ready
pub made_as : (s : State) (p q : Ready) → p ≡ q → IsReady s p → ComesAs s (λ x. x ≡ made q s) p
made_as s p q e ready = record { comes = ap (λ r. made r s) e; ready = ready }

module _ (s : State) (event : Event) (p : Ready) (name : List ℕ) where
  -- an event on an obligation that the table lacks
  pub on_none : FindsObligation s.durable.built name None → ComesAs s (λ x. x ≡ told s (NoObligation name)) p →
      ((table : List Obligation) (x : StepOutcome) → IsPresent table name None → x ≡ told s (NoObligation name) → ComesBeside s table event x) → Prepares s event p
  on_none found c f = record { comes = (found.0, found.1, f found.0 (made p s) found.2 c.comes); ready = c.ready }

  -- an event on an obligation
  pub on_one : (o : Obligation) (X : StepOutcome → Type 0) → FindsObligation s.durable.built name (Some o) → ComesAs s X p →
      ((table : List Obligation) (x : StepOutcome) → IsPresent table name (Some o.sequent) → X x → ComesBeside s table event x) → Prepares s event p
  on_one o X found c f = record { comes = (found.0, found.1, f found.0 (made p s) found.2 c.comes); ready = c.ready }
