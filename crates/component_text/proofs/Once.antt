-- A machine is read in one way.
use Rattle.std.proofs.Common.{◌≡◌, ◌∙◌, ap, ℕ, List, ◌∷◌, true, false, Some, None, sym, subst}
use Rattle.std.specs.Prelude.{Option, codes}
use Rattle.formula_core.specs.declared.raw.RawAction.{RawAction}
use Rattle.math_grammar.specs.declared.holes.Hole.TheVariants as hole
use Rattle.math_grammar.specs.Tokens.{Item}
use Rattle.math_grammar.specs.Actions.{SpellsAction}
use Rattle.model_core.specs.declared.component.Convergence.{Convergence}
use Rattle.model_core.specs.declared.component.Convergence.TheVariants.{Ordinary, Convergent, Anticipated}
use Rattle.model_core.specs.declared.component.RawComponent.{RawComponent}
use Rattle.component_text.specs.Marks.{Mark, word, is_word_mark, is_at}
use Rattle.component_text.specs.Forms.{Bounds, One, FormulaRun, Nothing, Then, Of}
use Rattle.component_text.specs.Grammar.{IsPlaced, reference, label_at, is_a_label, Names, SomeNames, LabelledPart, Lines, SomeNamesBehind, NamesBehind, LinesBehind}
use Rattle.component_text.specs.Machines.{IsActionWithin, word_at, Refines, Expression, VariantExpression, variant_of, Variant, Witnesses, labelled_step, ActionLine, ManySteps, extending, refining, References, either, Guards, With, Actions, event_of, EventBody, EventPart, begins_event, EventList, Events, machine_of, MachineBody, IsMachine, IsComponent, a_context, a_machine}
use Rattle.component_text.proofs.Parts.{good_one}
use Rattle.component_text.proofs.Unique.{Unique, OneFormula, within_once, placed_once, one_unique, run_unique, nothing_unique, then_unique, of_unique, choice_unique, many_unique, labelled_unique, lines_unique, names_unique, some_names_unique, section_unique, context_unique}
use Rattle.component_text.proofs.Machines.{good_refines, good_variant, good_witness, good_step, good_references, good_any, good_guards, good_with, good_actions, Unordinary, Unconvergent, good_event, good_sees, good_variables, good_invariants}

abbrev pub OneAction : Type 0
OneAction = (limit : Option ℕ) (s : List Item) (a b : RawAction) → SpellsAction limit s a → SpellsAction limit s b → a ≡ b

module _ (law : OneFormula) (action_law : OneAction) where
  refines_unique : Unique Refines
  refines_unique = choice_unique (is_word_mark (codes "refines")) (Of Some (One reference)) (Nothing None) (of_unique Some (One reference) (one_unique reference)) (nothing_unique None)

  expression_unique : Unique Expression
  expression_unique = run_unique (IsPlaced hole.Expression) (placed_once law hole.Expression)

  variant_unique : Unique Variant
  variant_unique = choice_unique (is_word_mark (codes "variant")) (Of variant_of VariantExpression) (Nothing None)
      (of_unique variant_of VariantExpression (choice_unique is_a_label Expression Expression expression_unique expression_unique)) (nothing_unique None)

  action_once : (b : Bounds) (s : List Item) (x y : RawAction) → IsActionWithin b s x → IsActionWithin b s y → x ≡ y
  action_once = within_once SpellsAction action_law

  step_unique : Unique ActionLine
  step_unique = of_unique labelled_step (Then (One label_at) (FormulaRun IsActionWithin))
      (then_unique (One label_at) (FormulaRun IsActionWithin) (good_one label_at) (one_unique label_at) (run_unique IsActionWithin action_once))

  references_unique : Unique References
  references_unique = choice_unique (is_word_mark (codes "extends")) (Of extending (One reference)) (Of refining (SomeNamesBehind (codes "refines"))) (of_unique extending (One reference) (one_unique reference))
      (of_unique refining (SomeNamesBehind (codes "refines")) (section_unique law (is_word_mark (codes "refines")) SomeNames (some_names_unique law)))

  event_body_unique : (c : Convergence) → Unique (EventBody c)
  event_body_unique c =
      of_unique (event_of c) _
      (then_unique (One (word_at (codes "event"))) _ (good_one (word_at (codes "event"))) (one_unique (word_at (codes "event")))
      (then_unique (One reference) _ (good_one reference) (one_unique reference)
      (then_unique References _ good_references references_unique
      (then_unique (NamesBehind (codes "any")) _ good_any (section_unique law (is_word_mark (codes "any")) Names (names_unique law))
      (then_unique Guards _ good_guards (section_unique law (either (codes "where") (codes "when")) Lines (lines_unique law))
      (then_unique With _ good_with (section_unique law (is_word_mark (codes "with")) Witnesses (many_unique is_a_label (LabelledPart false) good_witness (labelled_unique law false)))
      (then_unique Actions (One (word_at (codes "end"))) good_actions (section_unique law (either (codes "then") (codes "begin")) ManySteps (many_unique is_a_label ActionLine good_step step_unique))
      (one_unique (word_at (codes "end"))))))))))

  event_unique : Unique EventPart
  event_unique =
      choice_unique (is_word_mark (codes "ordinary")) (EventBody Ordinary) Unordinary (event_body_unique Ordinary)
      (choice_unique (is_word_mark (codes "convergent")) (EventBody Convergent) Unconvergent (event_body_unique Convergent)
      (choice_unique (is_word_mark (codes "anticipated")) (EventBody Anticipated) (EventBody Ordinary) (event_body_unique Anticipated) (event_body_unique Ordinary)))

  machine_body_unique : Unique MachineBody
  machine_body_unique =
      of_unique machine_of _
      (then_unique (One reference) _ (good_one reference) (one_unique reference)
      (then_unique Refines _ good_refines refines_unique
      (then_unique (SomeNamesBehind (codes "sees")) _ good_sees (section_unique law (is_word_mark (codes "sees")) SomeNames (some_names_unique law))
      (then_unique (NamesBehind (codes "variables")) _ good_variables (section_unique law (is_word_mark (codes "variables")) Names (names_unique law))
      (then_unique (LinesBehind (codes "invariants")) _ good_invariants (section_unique law (is_word_mark (codes "invariants")) Lines (lines_unique law))
      (then_unique Variant Events good_variant variant_unique
      (section_unique law (is_word_mark (codes "events")) EventList (many_unique begins_event EventPart good_event event_unique))))))))

  machine_unique : (b : Bounds) (s : List Mark) (c d : RawComponent) → IsMachine b s c → IsMachine b s d → c ≡ d
  machine_unique b s c d h k =
      let there : word (codes "machine") h.place ∷ h.behind ≡ word (codes "machine") k.place ∷ k.behind = sym h.head ∙ k.head in
      let tail : k.behind ≡ h.behind = cc in
      machine_body_unique b h.behind c d h.rest k.rest h.body (subst (λ t. MachineBody b t d k.rest) tail k.body)

  pub component_unique : (b : Bounds) (s : List Mark) (c d : RawComponent) → IsComponent b s c → IsComponent b s d → c ≡ d
  component_unique b s c d (a_context h) (a_context k) = context_unique law b s c d h k
  component_unique b s c d (a_machine h) (a_machine k) = machine_unique b s c d h k
  component_unique b s c d (a_context h) (a_machine k) =
      let clash : false ≡ true = sym (ap (is_at (is_word_mark (codes "machine"))) h.head) ∙ ap (is_at (is_word_mark (codes "machine"))) k.head in cc
  component_unique b s c d (a_machine h) (a_context k) =
      let clash : false ≡ true = sym (ap (is_at (is_word_mark (codes "machine"))) k.head) ∙ ap (is_at (is_word_mark (codes "machine"))) h.head in cc
