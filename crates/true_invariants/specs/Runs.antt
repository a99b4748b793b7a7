-- Runs of a machine that refines none, in a universe: its states, what an event leads to, and what is reached.
use Rattle.std.specs.Prelude.{◌≡◌, ⊤, ℕ, Bool, true, false, List, [], ◌∷◌, None, bytes_eq}
use Rattle.std.specs.List.{AllByRecursion}
use Rattle.std.specs.Map.{lookup}
use Rattle.std.specs.Option.{option_map_or}
use Rattle.formula_core.specs.declared.formula.Formula.{Formula}
use Rattle.model_core.specs.declared.checked.CheckedMachine.{CheckedMachine}
use Rattle.model_core.specs.declared.checked.CheckedEvent.{CheckedEvent}
use Rattle.model_core.specs.Each.{for_each, IsIn}
use Rattle.sequent_core.specs.declared.sequent.Obligation.{Obligation}
use Rattle.po_rules.specs.Parts.{formulas, initialises, actions_of, new_values, before_after, obligation_env}
use Rattle.po_rules.specs.Rows.{conditions}
use Rattle.po_rules.specs.Members.{IsMachineObligation}
use Rattle.sequent_laws.specs.Sound.{IsGoodMachine}
use Rattle.meanings.specs.Values.{Sort, Value}
use Rattle.meanings.specs.Universes.{Universe, Valuation, cast}
use Rattle.meanings.specs.Denotations.{denotation, AreTrue}
use Rattle.meanings.specs.Interpretations.{NamesCarriers, NoCarrier, Carriers}
use Rattle.true_rules.specs.Validity.{IsValid}

module _ {carrier : List ℕ → Type 0} (U : Universe carrier) where
  -- what names stand for, where some of them stand for what terms denote
  abbrev pub updated : Valuation carrier → List (List ℕ × Formula) → Valuation carrier
  updated names pairs = λ x s. option_map_or (λ f. cast U s (denotation U names f [])) (lookup (bytes_eq x) pairs) (names x s)

  module _ (m : CheckedMachine) where
    -- a state: what carrier sets, constants and variables stand for, so that the axioms are true
    pub record IsState (state : Valuation carrier) : Type 0 where
      pub carriers : NamesCarriers U m.env state
      pub axioms : AreTrue U state (formulas m.axioms)

    -- An event leads from one state to another. Within it the parameters stand for values, too, and so do the primed names of variables to
    -- which a value is given that its actions choose: the guards that are no theorems, and the choices, are true. The variables that it
    -- assigns then have their new values, and all other names stand for what they did.
    pub record IsStep (e : CheckedEvent) (before after : Valuation carrier) : Type 0 where
      pub within : Valuation carrier
      pub carriers : NamesCarriers U (obligation_env m e []) within
      pub same : AllByRecursion (λ x. within x.0 ≡ before x.0) m.env
      pub guards : AreTrue U within (formulas (conditions e))
      pub choices : AreTrue U within (for_each before_after (actions_of e))
      pub changed : AllByRecursion (λ x. after x.0 ≡ updated within (for_each new_values (actions_of e)) x.0) m.env

    -- events that follow one another, each with the state to which it leads
    abbrev pub AreSteps : Valuation carrier → List (CheckedEvent × Valuation carrier) → Type 0
    AreSteps state [] = ⊤
    AreSteps state (x ∷ rest) = (IsIn x.0 m.events × (initialises x.0 ≡ false) × IsStep x.0 state x.1 × IsState x.1) × AreSteps x.1 rest

    abbrev pub last_of : Valuation carrier → List (CheckedEvent × Valuation carrier) → Valuation carrier
    last_of state [] = state
    last_of state (x ∷ rest) = last_of x.1 rest

    -- a state that is reached: from anything that the initialisation leads somewhere, by events
    pub record IsReached (state : Valuation carrier) : Type 0 where
      pub before : Valuation carrier
      pub start : IsState before
      pub initialisation : CheckedEvent
      pub own : IsIn initialisation m.events
      pub initial : initialises initialisation ≡ true
      pub first : Valuation carrier
      pub begins : IsStep initialisation before first
      pub is_state : IsState first
      pub rest : List (CheckedEvent × Valuation carrier)
      pub steps : AreSteps first rest
      pub last : state ≡ last_of first rest

-- the machine refines none: no invariant is inherited, no event has witnesses, and none inherits guards
pub record RefinesNone (m : CheckedMachine) : Type 0 where
  pub own : m.own_from ≡ 0
  pub witnesses : AllByRecursion (λ e. e.witnesses ≡ []) m.events
  pub guards : AllByRecursion (λ e. e.own_guards_from ≡ 0) m.events

-- where the obligations of a typed machine that refines none are valid, its invariants are true in each state that it reaches
abbrev pub KeepsInvariants : CheckedMachine → Type 0
KeepsInvariants m =
    IsGoodMachine m None → RefinesNone m → ((o : Obligation) → IsMachineObligation m None o → IsValid o.sequent) →
    (shape : List ℕ → Sort) (test : (set : List ℕ) → Value NoCarrier (shape set) → Bool) (U : Universe (Carriers shape test))
    (state : Valuation (Carriers shape test)) → IsReached U m state → AreTrue U state (formulas m.invariants)
