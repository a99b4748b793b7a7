-- The grammar of machines.
use Rattle.std.specs.Prelude.{ℕ, Bool, true, false, ◌||◌, List, [], ◌∷◌, Option, Some, None, codes, bytes_eq, if◌then◌else◌}
use Rattle.formula_core.specs.declared.raw.Raw.{Raw}
use Rattle.formula_core.specs.declared.raw.RawAction.{RawAction}
use Rattle.formula_core.specs.declared.raw.Ref.{Ref}
use Rattle.math_grammar.specs.declared.holes.Hole.TheVariants as hole
use Rattle.math_grammar.specs.Tokens.{Item}
use Rattle.math_grammar.specs.Actions.{SpellsAction}
use Rattle.model_core.specs.declared.component.Convergence.{Convergence}
use Rattle.model_core.specs.declared.component.Convergence.TheVariants.{Ordinary, Convergent, Anticipated}
use Rattle.model_core.specs.declared.component.RawLabelled.{RawLabelled}
use Rattle.model_core.specs.declared.component.RawVariant.{RawVariant}
use Rattle.model_core.specs.declared.component.RawStep.{RawStep}
use Rattle.model_core.specs.declared.component.RawEvent.{RawEvent}
use Rattle.model_core.specs.declared.component.RawComponent.{RawComponent}
use Rattle.model_core.specs.declared.component.RawComponent.TheVariants.{Machine}
use Rattle.component_text.specs.declared.machine.Abstracts.{Abstracts}
use Rattle.component_text.specs.Marks.{Mark, word, label, plain, is_word_mark}
use Rattle.component_text.specs.Forms.{Bounds, One, FormulaRun, Nothing, Then, Choice, Many, Of}
use Rattle.component_text.specs.Grammar.{Within, IsPlaced, reference, label_at, is_a_label, LabelledPart, Lines, NamesBehind, SomeNamesBehind, LinesBehind, Headed, IsContext}

abbrev pub IsActionWithin : Bounds → List Item → RawAction → Type 0
IsActionWithin = Within SpellsAction

-- the word, by its place
abbrev pub word_at : List ℕ → Mark → Option ℕ
word_at w (word v p) = if bytes_eq v w then Some p else None
word_at w (label l p) = None
word_at w (plain x) = None

-- ["refines" name]
abbrev pub Refines : Bounds → List Mark → Option Ref → List Mark → Type 0
Refines = Choice (is_word_mark (codes "refines")) (Of Some (One reference)) (Nothing None)

-- ["variant" [label] expr]
abbrev pub Expression : Bounds → List Mark → (Raw × ℕ) → List Mark → Type 0
Expression = FormulaRun (IsPlaced hole.Expression)

abbrev pub VariantExpression : Bounds → List Mark → (Raw × ℕ) → List Mark → Type 0
VariantExpression = Choice is_a_label Expression Expression

abbrev pub variant_of : (Raw × ℕ) → Option RawVariant
variant_of p = Some (record { formula = p.0; first = p.1 })

abbrev pub Variant : Bounds → List Mark → Option RawVariant → List Mark → Type 0
Variant = Choice (is_word_mark (codes "variant")) (Of variant_of VariantExpression) (Nothing None)

-- {label pred}
abbrev pub Witnesses : Bounds → List Mark → List RawLabelled → List Mark → Type 0
Witnesses = Many is_a_label (LabelledPart false)

-- {label action}
abbrev pub labelled_step : ((List ℕ × ℕ) × RawAction) → RawStep
labelled_step p = record { label = p.0.0; action = p.1; place = p.0.1 }

abbrev pub ActionLine : Bounds → List Mark → RawStep → List Mark → Type 0
ActionLine = Of labelled_step (Then (One label_at) (FormulaRun IsActionWithin))

abbrev pub ManySteps : Bounds → List Mark → List RawStep → List Mark → Type 0
ManySteps = Many is_a_label ActionLine

-- ["extends" name | "refines" name {name}]
abbrev pub extending : Ref → Abstracts
extending n = record { extended = true; names = n ∷ [] }

abbrev pub refining : List Ref → Abstracts
refining ns = record { extended = false; names = ns }

abbrev pub References : Bounds → List Mark → Abstracts → List Mark → Type 0
References = Choice (is_word_mark (codes "extends")) (Of extending (One reference)) (Of refining (SomeNamesBehind (codes "refines")))

-- [("where"|"when") {line}] ["with" {label pred}] [("then"|"begin") {label action}] "end"
abbrev pub either : List ℕ → List ℕ → Mark → Bool
either v w x = is_word_mark v x || is_word_mark w x

abbrev pub Guards : Bounds → List Mark → List RawLabelled → List Mark → Type 0
Guards = Choice (either (codes "where") (codes "when")) Lines (Nothing [])

abbrev pub With : Bounds → List Mark → List RawLabelled → List Mark → Type 0
With = Choice (is_word_mark (codes "with")) Witnesses (Nothing [])

abbrev pub Actions : Bounds → List Mark → List RawStep → List Mark → Type 0
Actions = Choice (either (codes "then") (codes "begin")) ManySteps (Nothing [])

-- "event" name .. "end"
abbrev pub EventClauses : Type 0
EventClauses = ℕ × (Ref × (Abstracts × (List Ref × (List RawLabelled × (List RawLabelled × (List RawStep × ℕ))))))

abbrev pub event_of : Convergence → EventClauses → RawEvent
event_of c (head, (name, (abstracts, (params, (guards, (witnesses, (actions, end))))))) = record {
  name = name;
  convergence = c;
  extended = abstracts.extended;
  refines = abstracts.names;
  params = params;
  guards = guards;
  witnesses = witnesses;
  actions = actions;
}

abbrev pub EventBody : Convergence → Bounds → List Mark → RawEvent → List Mark → Type 0
EventBody c =
    Of (event_of c) (Then (One (word_at (codes "event"))) (Then (One reference) (Then References (Then (NamesBehind (codes "any"))
    (Then Guards (Then With (Then Actions (One (word_at (codes "end"))))))))))

-- ["ordinary"|"convergent"|"anticipated"] "event" ..
abbrev pub EventPart : Bounds → List Mark → RawEvent → List Mark → Type 0
EventPart =
    Choice (is_word_mark (codes "ordinary")) (EventBody Ordinary)
    (Choice (is_word_mark (codes "convergent")) (EventBody Convergent)
    (Choice (is_word_mark (codes "anticipated")) (EventBody Anticipated) (EventBody Ordinary)))

abbrev pub begins_event : Mark → Bool
begins_event x = is_word_mark (codes "event") x || (is_word_mark (codes "ordinary") x || (is_word_mark (codes "convergent") x || is_word_mark (codes "anticipated") x))

-- ["events" {event}]
abbrev pub EventList : Bounds → List Mark → List RawEvent → List Mark → Type 0
EventList = Many begins_event EventPart

abbrev pub Events : Bounds → List Mark → List RawEvent → List Mark → Type 0
Events = Choice (is_word_mark (codes "events")) EventList (Nothing [])

-- name ["refines" name] ["sees" name {name}] ["variables" {name}] ["invariants" {line}] ["variant" [label] expr] ["events" {event}]
abbrev pub machine_of : (Ref × (Option Ref × (List Ref × (List Ref × (List RawLabelled × (Option RawVariant × List RawEvent)))))) → RawComponent
machine_of (name, (refines, (sees, (variables, (invariants, (variant, events)))))) = Machine name refines sees variables invariants variant events

abbrev pub MachineBody : Bounds → List Mark → RawComponent → List Mark → Type 0
MachineBody =
    Of machine_of (Then (One reference) (Then Refines (Then (SomeNamesBehind (codes "sees")) (Then (NamesBehind (codes "variables"))
    (Then (LinesBehind (codes "invariants")) (Then Variant Events))))))

-- "machine" name .. "end"
abbrev pub IsMachine : Bounds → List Mark → RawComponent → Type 0
IsMachine = Headed (codes "machine") MachineBody

-- a context or a machine
pub data IsComponent (b : Bounds) (s : List Mark) (c : RawComponent) : Type 0 where
  a_context : IsContext b s c → IsComponent b s c
  a_machine : IsMachine b s c → IsComponent b s c
