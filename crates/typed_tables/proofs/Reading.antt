-- In what is read declared names are identifiers, and each action assigns something.
use Rattle.std.proofs.Common.{◌≡◌, ◌≢◌, sym, subst, refl, ℕ, Bool, true, false, cond, List, [], ◌∷◌, ◌++◌, Option, Some, None}
use Rattle.std.specs.Prelude.{codes, Ok}
use Rattle.std.specs.List.{AllByRecursion}
use Rattle.formula_core.specs.Names.{is_identifier}
use Rattle.formula_core.specs.declared.raw.RawAction.{RawAction}
use Rattle.formula_core.specs.declared.raw.Ref.{Ref}
use Rattle.type_formula.proofs.Named.{all_append, all_each}
use Rattle.math_grammar.specs.Tokens.{Item}
use Rattle.math_grammar.specs.Actions.{ref, Targets, last_target, next_target, SpellsAction, assigns, applies, chooses_in, chooses_such}
use Rattle.formula_parse.specs.Limits.{most_parts}
use Rattle.model_core.specs.declared.component.Convergence.{Convergence}
use Rattle.model_core.specs.declared.component.Convergence.TheVariants.{Ordinary, Convergent, Anticipated}
use Rattle.model_core.specs.declared.component.RawEvent.{RawEvent}
use Rattle.model_core.specs.declared.component.RawStep.{RawStep}
use Rattle.model_core.specs.declared.component.RawComponent.{RawComponent}
use Rattle.component_text.specs.Marks.{Mark, word, label, plain, marks_of, is_word_mark}
use Rattle.component_text.specs.Forms.{Bounds, limits, parts, none, One, Nothing, Choice, taken, other, Many, no_more, one_more}
use Rattle.component_text.specs.Grammar.{reference, is_reference, is_a_label, context_of, Names, NamesBehind, ContextBody}
use Rattle.component_text.specs.Machines.{IsActionWithin, either, begins_event, event_of, machine_of, ActionLine, ManySteps, Actions, EventBody, EventPart, EventList, Events, MachineBody, IsComponent, a_context, a_machine}
use Rattle.component_text.specs.Spelled.{IsRead}
use Rattle.check_rules.specs.Assignments.{written_targets}
use Rattle.checked_laws.specs.Laws.{DeclareIdentifiers, DeclaresIdentifiers, AssignsSomething}

-- Parts of the grammar: whatever one relates to what stands there is as P says.

abbrev Gives : {X : Type 0} → (Bounds → List Mark → X → List Mark → Type 0) → (X → Type 0) → Type 0
Gives {X} R P = (b : Bounds) (s : List Mark) (x : X) (rest : List Mark) → R b s x rest → P x

choice_gives : {X : Type 0} (test : Mark → Bool) (R S : Bounds → List Mark → X → List Mark → Type 0) (P : X → Type 0) → Gives R P → Gives S P → Gives (Choice test R S) P
choice_gives test R S P f g b s x rest (taken mark m e t r) = f b m x rest r
choice_gives test R S P f g b s x rest (other e r) = g b s x rest r

many_gives : {X : Type 0} (test : Mark → Bool) (R : Bounds → List Mark → X → List Mark → Type 0) (P : X → Type 0) → Gives R P → Gives (Many test R) (AllByRecursion P)
many_gives test R P f b s xs rest (no_more e same) = tt
many_gives test R P f b s xs rest (one_more {m = m} {x = x} {xs = ys} e r more) = (f b s x m r, many_gives test R P f b m ys rest more)

-- a list behind a token, or none
list_gives : {X : Type 0} (test : Mark → Bool) (R : Bounds → List Mark → List X → List Mark → Type 0) (P : X → Type 0) → Gives R (AllByRecursion P) → Gives (Choice test R (Nothing [])) (AllByRecursion P)
list_gives test R P f = choice_gives test R (Nothing []) (AllByRecursion P) f (λ b s x rest n. subst (AllByRecursion P) (sym n.is) tt)

-- Names.

abbrev IsNamed : Ref → Type 0
IsNamed r = is_identifier r.name ≡ true

name_given : (b : Bool) (r q : Ref) → is_identifier r.name ≡ b → cond b (Some r) None ≡ Some q → IsNamed q
name_given true r q is e = let same : r ≡ q = cc in subst IsNamed same is
name_given false r q is e = let no : ⊥ = cc in absurd no

reference_named : (mark : Mark) (r : Ref) → reference mark ≡ Some r → IsNamed r
reference_named (plain x) r e = name_given (is_identifier x.text) (record { name = x.text; place = x.from }) r refl e
reference_named (word w p) r e = let no : ⊥ = cc in absurd no
reference_named (label l p) r e = let no : ⊥ = cc in absurd no

names_named : (w : List ℕ) → Gives (NamesBehind w) (AllByRecursion IsNamed)
names_named w = list_gives (is_word_mark w) Names IsNamed (many_gives is_reference (One reference) IsNamed (λ b s r rest o. reference_named o.mark r o.is))

-- Actions.

never_last : (before : List Ref) (r : Ref) → before ++ r ∷ [] ≡ [] → ⊥
never_last [] r e = cc
never_last (x ∷ before) r e = cc

some_targets : (before : List Ref) (s : List Item) (targets : List Ref) (rest : List Item) → Targets before s targets rest → targets ≡ [] → ⊥
some_targets before s targets rest (last_target {before = b} {n = n} {p = p} is) e = never_last b (ref n p) e
some_targets before s targets rest (next_target {before = b} {targets = ts} {n = n} {p = p} {s = t} {rest = r} is more) e = some_targets (b ++ ref n p ∷ []) t ts r more e

never_one : (r : Ref) → r ∷ [] ≡ [] → ⊥
never_one r e = cc

spelled_assigns : (limit : Option ℕ) (s : List Item) (a : RawAction) → SpellsAction limit s a → written_targets a ≡ [] → ⊥
spelled_assigns limit s a (assigns {targets = targets} t v same) e = some_targets [] _ targets _ t e
spelled_assigns limit s a (applies {n = n} {o = o} {p = p} is r fit more) e = never_one (ref n p) e
spelled_assigns limit s a (chooses_in {n = n} {p = p} is more) e = never_one (ref n p) e
spelled_assigns limit s a (chooses_such {targets = targets} t more) e = some_targets [] _ targets _ t e

act_assigns : (b : Bounds) (s : List Item) (a : RawAction) → IsActionWithin b s a → written_targets a ≡ [] → ⊥
act_assigns limits s a h = spelled_assigns most_parts s a h.0
act_assigns parts s a h = spelled_assigns most_parts s a h
act_assigns none s a h = spelled_assigns None s a h

abbrev HasWrittenTargets : RawStep → Type 0
HasWrittenTargets s = written_targets s.action ≢ []

step_assigns : Gives ActionLine HasWrittenTargets
step_assigns b s x rest o = subst HasWrittenTargets o.is (act_assigns b _ o.from.1 o.part.second.spelled)

actions_assign : Gives Actions (AllByRecursion HasWrittenTargets)
actions_assign = list_gives (either (codes "then") (codes "begin")) ManySteps HasWrittenTargets (many_gives is_a_label ActionLine HasWrittenTargets step_assigns)

-- Events.

abbrev IsWritten : RawEvent → Type 0
IsWritten e = DeclareIdentifiers e.params × AllByRecursion HasWrittenTargets e.actions

event_body_written : (c : Convergence) → Gives (EventBody c) IsWritten
event_body_written c b s e rest o =
    let name = o.part.second in
    let params = name.second.second in
    let witnesses = params.second.second in
    let actions = witnesses.second in
    let p = o.from in
    let mine : IsWritten (event_of c p) = (
      names_named (codes "any") b name.second.middle p.1.1.1.0 params.middle params.first,
      actions_assign b witnesses.middle p.1.1.1.1.1.1.0 actions.middle actions.first,
    ) in
    subst IsWritten o.is mine

event_written : Gives EventPart IsWritten
event_written =
    choice_gives (is_word_mark (codes "ordinary")) (EventBody Ordinary) (Choice (is_word_mark (codes "convergent")) (EventBody Convergent) (Choice (is_word_mark (codes "anticipated")) (EventBody Anticipated) (EventBody Ordinary))) IsWritten
    (event_body_written Ordinary)
    (choice_gives (is_word_mark (codes "convergent")) (EventBody Convergent) (Choice (is_word_mark (codes "anticipated")) (EventBody Anticipated) (EventBody Ordinary)) IsWritten (event_body_written Convergent)
    (choice_gives (is_word_mark (codes "anticipated")) (EventBody Anticipated) (EventBody Ordinary) IsWritten (event_body_written Anticipated) (event_body_written Ordinary)))

events_written : Gives Events (AllByRecursion IsWritten)
events_written = list_gives (is_word_mark (codes "events")) EventList IsWritten (many_gives begins_event EventPart IsWritten event_written)

-- Components.

abbrev IsWrittenComponent : RawComponent → Type 0
IsWrittenComponent c = DeclaresIdentifiers c × AssignsSomething c

context_written : Gives ContextBody IsWrittenComponent
context_written b s c rest o =
    let p = o.from in
    let extends = o.part.second in
    let sets = extends.second in
    let constants = sets.second in
    let mine : IsWrittenComponent (context_of p) = (
      all_append IsNamed p.1.1.0 p.1.1.1.0 (names_named (codes "sets") b extends.middle p.1.1.0 sets.middle sets.first)
          (names_named (codes "constants") b sets.middle p.1.1.1.0 constants.middle constants.first),
      tt,
    ) in
    subst IsWrittenComponent o.is mine

machine_written : Gives MachineBody IsWrittenComponent
machine_written b s c rest o =
    let p = o.from in
    let sees = o.part.second.second in
    let variables = sees.second in
    let invariants = variables.second in
    let variant = invariants.second in
    let events = events_written b variant.middle p.1.1.1.1.1.1 rest variant.second in
    let mine : IsWrittenComponent (machine_of p) = (
      (
        names_named (codes "variables") b sees.middle p.1.1.1.0 variables.middle variables.first,
        all_each IsWritten (λ e. DeclareIdentifiers e.params) p.1.1.1.1.1.1 (λ e h. h.0) events,
      ),
      all_each IsWritten (λ e. AllByRecursion HasWrittenTargets e.actions) p.1.1.1.1.1.1 (λ e h. h.1) events,
    ) in
    subst IsWrittenComponent o.is mine

component_written : (b : Bounds) (s : List Mark) (c : RawComponent) → IsComponent b s c → IsWrittenComponent c
component_written b s c (a_context h) = context_written b h.behind c h.rest h.body
component_written b s c (a_machine h) = machine_written b h.behind c h.rest h.body

pub read_is_written : (name text : List ℕ) (c : RawComponent) → IsRead name text (Ok c) → DeclaresIdentifiers c × AssignsSomething c
read_is_written name text c h = component_written limits (marks_of text h.tokens) c h.sentence
