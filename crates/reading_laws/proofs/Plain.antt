-- The grammar of components gives names and labels without slashes.
use Rattle.std.proofs.Common.{◌≡◌, sym, ap, subst, refl, ℕ, Bool, true, false, cond, not, List, [], Option, Some, None}
use Rattle.std.specs.Prelude.{codes}
use Rattle.std.specs.List.{AllByRecursion}
use Rattle.formula_core.specs.Names.{is_identifier, is_word, is_reserved}
use Rattle.formula_core.specs.Texts.{is_label}
use Rattle.formula_core.specs.declared.raw.Ref.{Ref}
use Rattle.model_core.specs.declared.component.Convergence.{Convergence}
use Rattle.model_core.specs.declared.component.Convergence.TheVariants.{Ordinary, Convergent, Anticipated}
use Rattle.model_core.specs.declared.component.RawLabelled.{RawLabelled}
use Rattle.model_core.specs.declared.component.RawStep.{RawStep}
use Rattle.model_core.specs.declared.component.RawComponent.{RawComponent}
use Rattle.component_text.specs.Marks.{Mark, word, label, plain, marks_of, is_word_mark}
use Rattle.component_text.specs.Forms.{Bounds, limits, One, Nothing, Choice, taken, other, Many, no_more, one_more, Of}
use Rattle.component_text.specs.Grammar.{reference, label_at, is_reference, is_a_label, begins_line, context_of, Names, LabelledPart, FormulaLine, Lines, NamesBehind, LinesBehind, ContextBody}
use Rattle.component_text.specs.Machines.{either, begins_event, event_of, machine_of, Witnesses, ActionLine, ManySteps, Guards, With, Actions, EventBody, EventPart, EventList, Events, MachineBody, IsComponent, a_context, a_machine}
use Rattle.name_laws.specs.Labels.{IsPlain}
use Rattle.name_laws.specs.Written.{IsPlainlyWrittenEvent, IsPlainlyWritten}
use Rattle.name_laws.proofs.Lists.{all_map}
use Rattle.name_laws.proofs.Texts.{left_of, word_plain, labels_are_plain}
use Rattle.reading_laws.specs.Laws.{ReadIsPlain}

-- Parts of the grammar.

abbrev Part : Type 0 → Type 1
Part X = Bounds → List Mark → X → List Mark → Type 0

-- whatever it relates to what stands there is as P says
abbrev Gives : {X : Type 0} → Part X → (X → Type 0) → Type 0
Gives {X} R P = (b : Bounds) (s : List Mark) (x : X) (rest : List Mark) → R b s x rest → P x

choice_gives : {X : Type 0} (test : Mark → Bool) (R S : Part X) (P : X → Type 0) → Gives R P → Gives S P → Gives (Choice test R S) P
choice_gives test R S P f g b s x rest (taken mark m e t r) = f b m x rest r
choice_gives test R S P f g b s x rest (other e r) = g b s x rest r

many_gives : {X : Type 0} (test : Mark → Bool) (R : Part X) (P : X → Type 0) → Gives R P → Gives (Many test R) (AllByRecursion P)
many_gives test R P f b s xs rest (no_more e same) = tt
many_gives test R P f b s xs rest (one_more {m = m} {x = x} {xs = ys} e r more) = (f b s x m r, many_gives test R P f b m ys rest more)

of_gives : {X Y : Type 0} (f : X → Y) (R : Part X) (P : Y → Type 0) → Gives R (λ x. P (f x)) → Gives (Of f R) P
of_gives f R P g b s y rest o = subst P o.is (g b s o.from rest o.part)

nothing_gives : {X : Type 0} (absent : X) (P : X → Type 0) → P absent → Gives (Nothing absent) P
nothing_gives absent P h b s x rest n = subst P (sym n.is) h

one_gives : {X : Type 0} (value : Mark → Option X) (P : X → Type 0) → ((mark : Mark) (x : X) → value mark ≡ Some x → P x) → Gives (One value) P
one_gives value P f b s x rest o = f o.mark x o.is

-- Names and labels.

name_given : (b : Bool) (r q : Ref) → cond b (Some r) None ≡ Some q → (b ≡ true) × (r.name ≡ q.name)
name_given true r q e = let same : r ≡ q = cc in (refl, ap (λ x. x.name) same)
name_given false r q e = let no : ⊥ = cc in absurd no

label_given : (b : Bool) (l m : List ℕ × ℕ) → cond b (Some l) None ≡ Some m → (b ≡ true) × (l.0 ≡ m.0)
label_given true l m e = let same : l ≡ m = cc in (refl, ap (λ p. p.0) same)
label_given false l m e = let no : ⊥ = cc in absurd no

identifier_plain : (text : List ℕ) → is_identifier text ≡ true → IsPlain text
identifier_plain text e = word_plain text (left_of (is_word text) (not (is_reserved text)) e)

reference_plain : (mark : Mark) (r : Ref) → reference mark ≡ Some r → IsPlain r.name
reference_plain (plain x) r e =
    let g = name_given (is_identifier x.text) (record { name = x.text; place = x.from }) r e in
    subst IsPlain g.1 (identifier_plain x.text g.0)
reference_plain (word w p) r e = let no : ⊥ = cc in absurd no
reference_plain (label l p) r e = let no : ⊥ = cc in absurd no

label_plain : (mark : Mark) (l : List ℕ × ℕ) → label_at mark ≡ Some l → IsPlain l.0
label_plain (label k p) l e = let g = label_given (is_label k) (k, p) l e in subst IsPlain g.1 (labels_are_plain k g.0)
label_plain (word w p) l e = let no : ⊥ = cc in absurd no
label_plain (plain x) l e = let no : ⊥ = cc in absurd no

abbrev HasPlainName : Ref → Type 0
HasPlainName r = IsPlain r.name

abbrev HasPlainLabel : RawLabelled → Type 0
HasPlainLabel l = IsPlain l.label

abbrev HasPlainStep : RawStep → Type 0
HasPlainStep s = IsPlain s.label

name_plain : Gives (One reference) HasPlainName
name_plain = one_gives reference HasPlainName reference_plain

names_plain : (w : List ℕ) → Gives (NamesBehind w) (AllByRecursion HasPlainName)
names_plain w = choice_gives (is_word_mark w) Names (Nothing []) (AllByRecursion HasPlainName) (many_gives is_reference (One reference) HasPlainName name_plain) (nothing_gives [] (AllByRecursion HasPlainName) tt)

labelled_plain : (theorem : Bool) → Gives (LabelledPart theorem) HasPlainLabel
labelled_plain theorem b s l rest o = subst HasPlainLabel o.is (label_plain o.part.first.mark o.from.0 o.part.first.is)

lines_plain : Gives Lines (AllByRecursion HasPlainLabel)
lines_plain = many_gives begins_line FormulaLine HasPlainLabel (choice_gives (is_word_mark (codes "theorem")) (LabelledPart true) (LabelledPart false) HasPlainLabel (labelled_plain true) (labelled_plain false))

lines_behind_plain : (w : List ℕ) → Gives (LinesBehind w) (AllByRecursion HasPlainLabel)
lines_behind_plain w = choice_gives (is_word_mark w) Lines (Nothing []) (AllByRecursion HasPlainLabel) lines_plain (nothing_gives [] (AllByRecursion HasPlainLabel) tt)

step_plain : Gives ActionLine HasPlainStep
step_plain b s x rest o = subst HasPlainStep o.is (label_plain o.part.first.mark o.from.0 o.part.first.is)

-- Events.

guards_plain : Gives Guards (AllByRecursion HasPlainLabel)
guards_plain = choice_gives (either (codes "where") (codes "when")) Lines (Nothing []) (AllByRecursion HasPlainLabel) lines_plain (nothing_gives [] (AllByRecursion HasPlainLabel) tt)

witnesses_plain : Gives With (AllByRecursion HasPlainLabel)
witnesses_plain = choice_gives (is_word_mark (codes "with")) Witnesses (Nothing []) (AllByRecursion HasPlainLabel)
    (many_gives is_a_label (LabelledPart false) HasPlainLabel (labelled_plain false)) (nothing_gives [] (AllByRecursion HasPlainLabel) tt)

actions_plain : Gives Actions (AllByRecursion HasPlainStep)
actions_plain = choice_gives (either (codes "then") (codes "begin")) ManySteps (Nothing []) (AllByRecursion HasPlainStep)
    (many_gives is_a_label ActionLine HasPlainStep step_plain) (nothing_gives [] (AllByRecursion HasPlainStep) tt)

event_body_plain : (c : Convergence) → Gives (EventBody c) IsPlainlyWrittenEvent
event_body_plain c b s e rest o =
    let name = o.part.second in
    let params = name.second.second in
    let guards = params.second in
    let witnesses = guards.second in
    let actions = witnesses.second in
    let p = o.from in
    let mine : IsPlainlyWrittenEvent (event_of c p) = record {
      name = name_plain b o.part.middle p.1.0 name.middle name.first;
      guards = all_map IsPlain (λ l. l.label) p.1.1.1.1.0 (guards_plain b params.middle p.1.1.1.1.0 guards.middle guards.first);
      witnesses = all_map IsPlain (λ l. l.label) p.1.1.1.1.1.0 (witnesses_plain b guards.middle p.1.1.1.1.1.0 witnesses.middle witnesses.first);
      actions = all_map IsPlain (λ l. l.label) p.1.1.1.1.1.1.0 (actions_plain b witnesses.middle p.1.1.1.1.1.1.0 actions.middle actions.first);
    } in
    subst IsPlainlyWrittenEvent o.is mine

event_plain : Gives EventPart IsPlainlyWrittenEvent
event_plain =
    choice_gives (is_word_mark (codes "ordinary")) (EventBody Ordinary) (Choice (is_word_mark (codes "convergent")) (EventBody Convergent) (Choice (is_word_mark (codes "anticipated")) (EventBody Anticipated) (EventBody Ordinary))) IsPlainlyWrittenEvent
    (event_body_plain Ordinary)
    (choice_gives (is_word_mark (codes "convergent")) (EventBody Convergent) (Choice (is_word_mark (codes "anticipated")) (EventBody Anticipated) (EventBody Ordinary)) IsPlainlyWrittenEvent (event_body_plain Convergent)
    (choice_gives (is_word_mark (codes "anticipated")) (EventBody Anticipated) (EventBody Ordinary) IsPlainlyWrittenEvent (event_body_plain Anticipated) (event_body_plain Ordinary)))

events_plain : Gives Events (AllByRecursion IsPlainlyWrittenEvent)
events_plain = choice_gives (is_word_mark (codes "events")) EventList (Nothing []) (AllByRecursion IsPlainlyWrittenEvent)
    (many_gives begins_event EventPart IsPlainlyWrittenEvent event_plain) (nothing_gives [] (AllByRecursion IsPlainlyWrittenEvent) tt)

-- Components.

context_plain : Gives ContextBody IsPlainlyWritten
context_plain b s c rest o =
    let p = o.from in
    let lines = o.part.second.second.second in
    let mine : IsPlainlyWritten (context_of p) = (
      name_plain b s p.0 o.part.middle o.part.first,
      all_map IsPlain (λ l. l.label) p.1.1.1.1 (lines_behind_plain (codes "axioms") b lines.middle p.1.1.1.1 rest lines.second),
    ) in
    subst IsPlainlyWritten o.is mine

machine_plain : Gives MachineBody IsPlainlyWritten
machine_plain b s c rest o =
    let p = o.from in
    let sees = o.part.second.second in
    let variables = sees.second in
    let invariants = variables.second in
    let variant = invariants.second in
    let mine : IsPlainlyWritten (machine_of p) = (
      name_plain b s p.0 o.part.middle o.part.first,
      all_map IsPlain (λ l. l.label) p.1.1.1.1.0 (lines_behind_plain (codes "invariants") b variables.middle p.1.1.1.1.0 invariants.middle invariants.first),
      all_map IsPlain (λ r. r.name) p.1.1.1.0 (names_plain (codes "variables") b sees.middle p.1.1.1.0 variables.middle variables.first),
      events_plain b variant.middle p.1.1.1.1.1.1 rest variant.second,
    ) in
    subst IsPlainlyWritten o.is mine

component_plain : (b : Bounds) (s : List Mark) (c : RawComponent) → IsComponent b s c → IsPlainlyWritten c
component_plain b s c (a_context h) = context_plain b h.behind c h.rest h.body
component_plain b s c (a_machine h) = machine_plain b h.behind c h.rest h.body

pub read_is_plain : ReadIsPlain
read_is_plain name text c h = component_plain limits (marks_of text h.tokens) c h.sentence
