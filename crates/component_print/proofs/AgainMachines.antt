-- The tokens of a printed component are read acts the component, wherever they stand: machines, and whole components.
use Rattle.std.proofs.Common.{◌≡◌, ◌∙◌, ap, ℕ, List, [], ◌∷◌, ◌++◌, Bool, true, false, map, refl, sym, subst, append_assoc, cond}
use Rattle.std.specs.Prelude.{Option, Some, None, codes}
use Rattle.std.specs.Option.{option_map, option_to_list}
use Rattle.std.specs.List.{AllByRecursion}
use Rattle.formula_core.specs.declared.raw.Raw.{Raw}
use Rattle.formula_core.specs.declared.raw.RawAction.{RawAction}
use Rattle.formula_core.specs.declared.raw.Ref.{Ref}
use Rattle.math_grammar.specs.declared.holes.Hole.{Hole}
use Rattle.math_grammar.specs.declared.holes.Hole.TheVariants as hole
use Rattle.math_grammar.specs.Tokens.{Item}
use Rattle.model_core.specs.declared.component.Convergence.{Convergence}
use Rattle.model_core.specs.declared.component.Convergence.TheVariants.{Ordinary, Convergent, Anticipated}
use Rattle.model_core.specs.declared.component.RawLabelled.{RawLabelled}
use Rattle.model_core.specs.declared.component.RawVariant.{RawVariant}
use Rattle.model_core.specs.declared.component.RawStep.{RawStep}
use Rattle.model_core.specs.declared.component.RawEvent.{RawEvent}
use Rattle.model_core.specs.declared.component.RawComponent.{RawComponent}
use Rattle.model_core.specs.declared.component.RawComponent.TheVariants.{Context, Machine}
use Rattle.component_text.specs.declared.machine.Abstracts.{Abstracts}
use Rattle.component_text.specs.Marks.{Mark, word, label, plain, is_word_mark, is_at}
use Rattle.component_text.specs.Forms.{Bounds, taken, other, no_more, one_more}
use Rattle.component_text.specs.Grammar.{IsPlaced, label_at, is_a_label, context_of}
use Rattle.component_text.specs.Machines.{IsActionWithin, Refines, Variant, variant_of, Witnesses, labelled_step, ActionLine, ManySteps, extending, refining, References, either, With, Actions, EventClauses, event_of, EventBody, EventPart, begins_event, EventList, Events, machine_of, IsComponent, a_context, a_machine}
use Rattle.component_text.proofs.Parts.{Ended, at_word, at_label}
use Rattle.component_text.proofs.Whole.{same_word}
use Rattle.component_print.specs.Unplaced.{unplaced_labelled, unplaced_variant, unplaced_labelled_action, unplaced_event, unplaced_component}
use Rattle.math_places.specs.Places.{unplaced_action, unplaced_ref}
use Rattle.raw_print.specs.Printing.{raw_tokens, action_tokens}
use Rattle.component_print.proofs.Marked.{name_mark, names_marks, theorem_marks, line_marks, labelled_marks, lines_marks, section_marks, step_marks, step_lines_marks, steps_marks, convergence_marks, abstract_word, end_marks, event_body_marks, event_marks, event_list_marks, events_marks, variant_marks, component_marks, unplaced_mark, split_one, split_both, none_left, word_placed, label_placed, items_placed}
use Rattle.component_print.proofs.Made.{IsWitness, IsStep, IsAbstracts, IsEvent, IsRefined, IsVariant, IsMade}
use Rattle.component_print.proofs.Again.{Follows, here, there, ended, no_name, lacks, no_word, no_line, no_label, ReadsAgain, one_name, names_behind_again, some_names_behind_again, FormulaAgain, ActionAgain, run_again, unplaced_pair, placed_again, labelled_again, lines_ended, section_again}

-- what stands behind a part that may be empty
follow_names : (w : List ℕ) (rs : List Ref) (s : List Mark) → map unplaced_mark s ≡ names_marks w rs → (ws : List (List ℕ)) (rest : List Mark) → Follows ws rest → Follows (w ∷ ws) (s ++ rest)
follow_names w [] s e ws rest f = rw (none_left s e) (there f)
follow_names w (r ∷ rs) s e ws rest f =
    let one = split_one s (word w 0) (map name_mark (r ∷ rs)) e in
    let head = word_placed one.0 w one.3 in
    subst (λ t. Follows (w ∷ ws) (t ++ rest)) (sym (one.2 ∙ ap (λ x. x ∷ one.1) head.1)) here

follow_section : (w : List ℕ) (ls : List RawLabelled) (s : List Mark) → map unplaced_mark s ≡ section_marks w ls → (ws : List (List ℕ)) (rest : List Mark) → Follows ws rest → Follows (w ∷ ws) (s ++ rest)
follow_section w [] s e ws rest f = rw (none_left s e) (there f)
follow_section w (l ∷ ls) s e ws rest f =
    let one = split_one s (word w 0) (lines_marks (l ∷ ls)) e in
    let head = word_placed one.0 w one.3 in
    subst (λ t. Follows (w ∷ ws) (t ++ rest)) (sym (one.2 ∙ ap (λ x. x ∷ one.1) head.1)) here

follow_steps : (acts : List RawStep) (s : List Mark) → map unplaced_mark s ≡ steps_marks acts → (ws : List (List ℕ)) (rest : List Mark) → Follows ws rest → Follows (codes "then" ∷ ws) (s ++ rest)
follow_steps [] s e ws rest f = rw (none_left s e) (there f)
follow_steps (a ∷ acts) s e ws rest f =
    let one = split_one s (word (codes "then") 0) (step_lines_marks (a ∷ acts)) e in
    let head = word_placed one.0 (codes "then") one.3 in
    subst (λ t. Follows (codes "then" ∷ ws) (t ++ rest)) (sym (one.2 ∙ ap (λ x. x ∷ one.1) head.1)) here

follow_variant : (o : Option RawVariant) (s : List Mark) → map unplaced_mark s ≡ variant_marks o → (ws : List (List ℕ)) (rest : List Mark) → Follows ws rest → Follows (codes "variant" ∷ ws) (s ++ rest)
follow_variant None s e ws rest f = rw (none_left s e) (there f)
follow_variant (Some x) s e ws rest f =
    let one = split_one s (word (codes "variant") 0) (map plain (raw_tokens x.formula)) e in
    let head = word_placed one.0 (codes "variant") one.3 in
    subst (λ t. Follows (codes "variant" ∷ ws) (t ++ rest)) (sym (one.2 ∙ ap (λ x. x ∷ one.1) head.1)) here

follow_events : (es : List RawEvent) (s : List Mark) → map unplaced_mark s ≡ events_marks es → (ws : List (List ℕ)) (rest : List Mark) → Follows ws rest → Follows (codes "events" ∷ ws) (s ++ rest)
follow_events [] s e ws rest f = rw (none_left s e) (there f)
follow_events (x ∷ es) s e ws rest f =
    let one = split_one s (word (codes "events") 0) (event_list_marks (x ∷ es)) e in
    let head = word_placed one.0 (codes "events") one.3 in
    subst (λ t. Follows (codes "events" ∷ ws) (t ++ rest)) (sym (one.2 ∙ ap (λ x. x ∷ one.1) head.1)) here

either_false : (v w : List ℕ) (s : List Mark) → is_at (is_word_mark v) s ≡ false → is_at (is_word_mark w) s ≡ false → is_at (either v w) s ≡ false
either_false v w [] a b = refl
either_false v w (x ∷ s) a b = rw a b

either_own : (v w : List ℕ) (p : ℕ) → either v w (word v p) ≡ true
either_own v w p = rw (same_word v) refl

module _ (b : Bounds) (IsGood : Hole → Raw → Type 0) (formulas : FormulaAgain b IsGood) (IsGoodAction : RawAction → Type 0) (actions : ActionAgain b IsGoodAction) where
  -- {label pred}
  witnesses_again : (ls : List RawLabelled) → AllByRecursion (IsWitness IsGood) ls → (s : List Mark) → map unplaced_mark s ≡ lines_marks ls → (rest : List Mark) → Ended rest → is_at is_a_label rest ≡ false →
      ReadsAgain (Witnesses b) (map unplaced_labelled) s ls rest
  witnesses_again [] good s e rest stop isnt = ([], rw (none_left s e) (no_more isnt refl), refl)
  witnesses_again (l ∷ ls) good s e rest stop isnt =
      let both = split_both s (line_marks l) (lines_marks ls) e in
      let own : map unplaced_mark both.0 ≡ labelled_marks l = both.3 ∙ ap (λ t. theorem_marks t ++ labelled_marks l) good.0.0 in
      let one = split_one both.0 (label l.label 0) (map plain (raw_tokens l.formula)) own in
      let head = label_placed one.0 l.label one.3 in
      let more = witnesses_again ls good.1 both.1 both.4 rest stop isnt in
      let line = labelled_again b IsGood formulas false l good.0.0 good.0.1 both.0 own (both.1 ++ rest) (lines_ended b IsGood formulas ls both.1 both.4 rest stop) in
      let at : s ++ rest ≡ both.0 ++ (both.1 ++ rest) = ap (λ t. t ++ rest) both.2 ∙ append_assoc both.0 both.1 rest in
      let labelled : is_at is_a_label (both.0 ++ (both.1 ++ rest)) ≡ true = ap (λ t. is_at is_a_label (t ++ (both.1 ++ rest))) (one.2 ∙ ap (λ x. x ∷ one.1) head.1) in (
        line.0 ∷ more.0,
        subst (λ t. Witnesses b t (line.0 ∷ more.0) rest) (sym at) (one_more {m = both.1 ++ rest} labelled line.1 more.1),
        (λ i. line.2 i ∷ more.2 i),
      )

  with_again : (ls : List RawLabelled) → AllByRecursion (IsWitness IsGood) ls → (s : List Mark) → map unplaced_mark s ≡ section_marks (codes "with") ls → (rest : List Mark) → Ended rest → is_at is_a_label rest ≡ false → is_at (is_word_mark (codes "with")) rest ≡ false →
      ReadsAgain (With b) (map unplaced_labelled) s ls rest
  with_again [] good s e rest stop isnt free = ([], rw (none_left s e) (other free (record { is = refl; behind = refl })), refl)
  with_again (l ∷ ls) good s e rest stop isnt free =
      let one = split_one s (word (codes "with") 0) (lines_marks (l ∷ ls)) e in
      let head = word_placed one.0 (codes "with") one.3 in
      let lines = witnesses_again (l ∷ ls) good one.1 one.4 rest stop isnt in (
        lines.0,
        subst (λ t. With b (t ++ rest) lines.0 rest) (sym (one.2 ∙ ap (λ x. x ∷ one.1) head.1)) (taken (word (codes "with") head.0) (one.1 ++ rest) refl refl lines.1),
        lines.2,
      )

  -- {label action}
  step_again : (a : RawStep) → IsStep IsGood IsGoodAction a → (s : List Mark) → map unplaced_mark s ≡ step_marks a → (rest : List Mark) → Ended rest →
      ReadsAgain (ActionLine b) unplaced_labelled_action s a rest × (is_at is_a_label (s ++ rest) ≡ true)
  step_again a good s e rest stop =
      let one = split_one s (label a.label 0) (map plain (action_tokens a.action)) e in
      let head = label_placed one.0 a.label one.3 in
      let act = run_again b IsActionWithin unplaced_action a.action (action_tokens a.action) (actions a.action good.1) one.1 one.4 rest stop in
      let named : label_at one.0 ≡ Some (a.label, head.0) =
      ap label_at head.1 ∙ ap (λ t. cond {A = Option (List ℕ × ℕ)} t (Some (a.label, head.0)) None) good.0 in (
        (
          labelled_step ((a.label, head.0), act.0),
          subst (λ t. ActionLine b (t ++ rest) (labelled_step ((a.label, head.0), act.0)) rest) (sym one.2)
              (record { from = ((a.label, head.0), act.0); is = refl; part = record { middle = one.1 ++ rest; first = record { mark = one.0; there = refl; is = named }; second = act.1 } }),
          (λ i. record { label = a.label; action = act.2 i; place = 0 }),
        ),
        ap (λ t. is_at is_a_label (t ++ rest)) (one.2 ∙ ap (λ x. x ∷ one.1) head.1),
      )

  steps_ended : (acts : List RawStep) (s : List Mark) → map unplaced_mark s ≡ step_lines_marks acts → (rest : List Mark) → Ended rest → Ended (s ++ rest)
  steps_ended [] s e rest stop = rw (none_left s e) stop
  steps_ended (a ∷ acts) s e rest stop =
      let one = split_one s (label a.label 0) (map plain (action_tokens a.action) ++ step_lines_marks acts) e in
      let head = label_placed one.0 a.label one.3 in
      subst (λ t. Ended (t ++ rest)) (sym (one.2 ∙ ap (λ x. x ∷ one.1) head.1)) at_label

  steps_again : (acts : List RawStep) → AllByRecursion (IsStep IsGood IsGoodAction) acts → (s : List Mark) → map unplaced_mark s ≡ step_lines_marks acts → (rest : List Mark) → Ended rest → is_at is_a_label rest ≡ false →
      ReadsAgain (ManySteps b) (map unplaced_labelled_action) s acts rest
  steps_again [] good s e rest stop isnt = ([], rw (none_left s e) (no_more isnt refl), refl)
  steps_again (a ∷ acts) good s e rest stop isnt =
      let both = split_both s (step_marks a) (step_lines_marks acts) e in
      let more = steps_again acts good.1 both.1 both.4 rest stop isnt in
      let one = step_again a good.0 both.0 both.3 (both.1 ++ rest) (steps_ended acts both.1 both.4 rest stop) in
      let at : s ++ rest ≡ both.0 ++ (both.1 ++ rest) = ap (λ t. t ++ rest) both.2 ∙ append_assoc both.0 both.1 rest in (
        one.0.0 ∷ more.0,
        subst (λ t. ManySteps b t (one.0.0 ∷ more.0) rest) (sym at) (one_more {m = both.1 ++ rest} one.1 one.0.1 more.1),
        (λ i. one.0.2 i ∷ more.2 i),
      )

  actions_again : (acts : List RawStep) → AllByRecursion (IsStep IsGood IsGoodAction) acts → (s : List Mark) → map unplaced_mark s ≡ steps_marks acts → (rest : List Mark) → Ended rest → is_at is_a_label rest ≡ false → is_at (either (codes "then") (codes "begin")) rest ≡ false →
      ReadsAgain (Actions b) (map unplaced_labelled_action) s acts rest
  actions_again [] good s e rest stop isnt free = ([], rw (none_left s e) (other free (record { is = refl; behind = refl })), refl)
  actions_again (a ∷ acts) good s e rest stop isnt free =
      let one = split_one s (word (codes "then") 0) (step_lines_marks (a ∷ acts)) e in
      let head = word_placed one.0 (codes "then") one.3 in
      let steps = steps_again (a ∷ acts) good one.1 one.4 rest stop isnt in (
        steps.0,
        subst (λ t. Actions b (t ++ rest) steps.0 rest) (sym (one.2 ∙ ap (λ x. x ∷ one.1) head.1)) (taken (word (codes "then") head.0) (one.1 ++ rest) refl refl steps.1),
        steps.2,
      )

  -- ["extends" name | "refines" name {name}]
  abbrev AbstractsAgain : Bool → List Ref → List Mark → List Mark → Type 0
  AbstractsAgain extended rs s rest = (again : Abstracts) × References b (s ++ rest) again rest × (again.extended ≡ extended) × (map unplaced_ref again.names ≡ map unplaced_ref rs)

  abstracts_again : (extended : Bool) (rs : List Ref) → IsAbstracts extended rs → (s : List Mark) → map unplaced_mark s ≡ names_marks (abstract_word extended) rs → (ws : List (List ℕ)) (rest : List Mark) → Follows ws rest →
      lacks (codes "extends") ws ≡ true → lacks (codes "refines") ws ≡ true → AbstractsAgain extended rs s rest
  abstracts_again true rs good s e ws rest f x y =
      let all : map unplaced_mark s ≡ word (codes "extends") 0 ∷ (name_mark good.0 ∷ []) = e ∙ ap (names_marks (codes "extends")) good.1 in
      let one = split_one s (word (codes "extends") 0) (name_mark good.0 ∷ []) all in
      let head = word_placed one.0 (codes "extends") one.3 in
      let two = split_one one.1 (name_mark good.0) [] one.4 in
      let name = one_name b good.0 good.2 two.0 two.3 rest in
      let at : s ++ rest ≡ word (codes "extends") head.0 ∷ (two.0 ∷ rest) =
      ap (λ t. t ++ rest) (one.2 ∙ ap (λ x. x ∷ one.1) head.1) ∙ ap (λ t. word (codes "extends") head.0 ∷ (t ++ rest)) (two.2 ∙ ap (λ t. two.0 ∷ t) (none_left two.1 two.4)) in (
        extending name.0,
        subst (λ t. References b t (extending name.0) rest) (sym at) (taken (word (codes "extends") head.0) (two.0 ∷ rest) refl refl (record { from = name.0; is = refl; part = name.1 })),
        refl,
        (λ i. name.2 i ∷ []) ∙ sym (ap (map unplaced_ref) good.1),
      )
  abstracts_again false rs good s e ws rest f x y =
      let names = some_names_behind_again b (codes "refines") rs good s e rest (no_name ws rest f) (no_word (codes "refines") ws rest f y) in (
        refining names.0,
        other (not_extends rs s e) (record { from = names.0; is = refl; part = names.1 }),
        refl,
        names.2,
      )
    where
      not_extends : (rs : List Ref) (s : List Mark) → map unplaced_mark s ≡ names_marks (codes "refines") rs → is_at (is_word_mark (codes "extends")) (s ++ rest) ≡ false
      not_extends [] s e = rw (none_left s e) (no_word (codes "extends") ws rest f x)
      not_extends (r ∷ rs) s e =
          let one = split_one s (word (codes "refines") 0) (map name_mark (r ∷ rs)) e in
          let head = word_placed one.0 (codes "refines") one.3 in
          ap (λ t. is_at (is_word_mark (codes "extends")) (t ++ rest)) (one.2 ∙ ap (λ x. x ∷ one.1) head.1)

  -- what may stand behind the parts of an event
  abbrev to_end : List (List ℕ)
  to_end = codes "end" ∷ []

  abbrev to_actions : List (List ℕ)
  to_actions = codes "then" ∷ to_end

  abbrev to_with : List (List ℕ)
  to_with = codes "with" ∷ to_actions

  abbrev to_guards : List (List ℕ)
  to_guards = codes "where" ∷ to_with

  abbrev to_any : List (List ℕ)
  to_any = codes "any" ∷ to_guards

  event_body_again : (c : Convergence) (x : RawEvent) → x.convergence ≡ c → IsEvent IsGood IsGoodAction x → (s : List Mark) → map unplaced_mark s ≡ event_body_marks x → (rest : List Mark) → ReadsAgain (EventBody c b) unplaced_event s x rest
  event_body_again c x own good s e rest =
      let first = split_one s (word (codes "event") 0) _ e in
      let head = word_placed first.0 (codes "event") first.3 in
      let second = split_one first.1 (name_mark x.name) _ first.4 in
      let s0 = split_both second.1 (names_marks (abstract_word x.extended) x.refines) _ second.4 in
      let s1 = split_both s0.1 (names_marks (codes "any") x.params) _ s0.4 in
      let s2 = split_both s1.1 (section_marks (codes "where") x.guards) _ s1.4 in
      let s3 = split_both s2.1 (section_marks (codes "with") x.witnesses) _ s2.4 in
      let s4 = split_both s3.1 (steps_marks x.actions) end_marks s3.4 in
      let last = split_one s4.1 (word (codes "end") 0) [] s4.4 in
      let end = word_placed last.0 (codes "end") last.3 in
      let r5 : List Mark = word (codes "end") end.0 ∷ rest in
      let f5 : Follows to_end r5 = here in
      let r4 : List Mark = s4.0 ++ r5 in
      let f4 : Follows to_actions r4 = follow_steps x.actions s4.0 s4.3 to_end r5 f5 in
      let r3 : List Mark = s3.0 ++ r4 in
      let f3 : Follows to_with r3 = follow_section (codes "with") x.witnesses s3.0 s3.3 to_actions r4 f4 in
      let r2 : List Mark = s2.0 ++ r3 in
      let f2 : Follows to_guards r2 = follow_section (codes "where") x.guards s2.0 s2.3 to_with r3 f3 in
      let r1 : List Mark = s1.0 ++ r2 in
      let f1 : Follows to_any r1 = follow_names (codes "any") x.params s1.0 s1.3 to_guards r2 f2 in
      let r0 : List Mark = s0.0 ++ r1 in
      let name = one_name b x.name good.name second.0 second.3 r0 in
      let abstracts = abstracts_again x.extended x.refines good.abstracts s0.0 s0.3 to_any r1 f1 refl refl in
      let params = names_behind_again b (codes "any") x.params good.params s1.0 s1.3 r2 (no_name to_guards r2 f2) (no_word (codes "any") to_guards r2 f2 refl) in
      let guards = section_again b IsGood formulas (codes "where") (either (codes "where") (codes "when")) (λ p. refl) x.guards good.guards s2.0 s2.3 r3 (ended to_with r3 f3) (no_line to_with r3 f3 refl)
      (either_false (codes "where") (codes "when") r3 (no_word (codes "where") to_with r3 f3 refl) (no_word (codes "when") to_with r3 f3 refl)) in
      let witnesses = with_again x.witnesses good.witnesses s3.0 s3.3 r4 (ended to_actions r4 f4) (no_label to_actions r4 f4) (no_word (codes "with") to_actions r4 f4 refl) in
      let acts = actions_again x.actions good.actions s4.0 s4.3 r5 at_word refl refl in
      let t4 : s4.0 ++ (s4.1 ++ rest) ≡ r4 = ap (λ t. s4.0 ++ t) (ap (λ t. t ++ rest) (last.2 ∙ (λ i. end.1 i ∷ none_left last.1 last.4 i))) in
      let t3 : s3.1 ++ rest ≡ r4 = ap (λ t. t ++ rest) s4.2 ∙ append_assoc s4.0 s4.1 rest ∙ t4 in
      let t2 : s2.1 ++ rest ≡ r3 = ap (λ t. t ++ rest) s3.2 ∙ append_assoc s3.0 s3.1 rest ∙ ap (λ t. s3.0 ++ t) t3 in
      let t1 : s1.1 ++ rest ≡ r2 = ap (λ t. t ++ rest) s2.2 ∙ append_assoc s2.0 s2.1 rest ∙ ap (λ t. s2.0 ++ t) t2 in
      let t0 : s0.1 ++ rest ≡ r1 = ap (λ t. t ++ rest) s1.2 ∙ append_assoc s1.0 s1.1 rest ∙ ap (λ t. s1.0 ++ t) t1 in
      let tn : second.1 ++ rest ≡ r0 = ap (λ t. t ++ rest) s0.2 ∙ append_assoc s0.0 s0.1 rest ∙ ap (λ t. s0.0 ++ t) t0 in
      let tw : first.1 ++ rest ≡ second.0 ∷ r0 = ap (λ t. t ++ rest) second.2 ∙ ap (λ t. second.0 ∷ t) tn in
      let at : s ++ rest ≡ word (codes "event") head.0 ∷ (second.0 ∷ r0) = ap (λ t. t ++ rest) (first.2 ∙ ap (λ y. y ∷ first.1) head.1) ∙ ap (λ t. word (codes "event") head.0 ∷ t) tw in
      let from : EventClauses = (head.0, (name.0, (abstracts.0, (params.0, (guards.0, (witnesses.0, (acts.0, end.0))))))) in (
        event_of c from,
        subst (λ t. EventBody c b t (event_of c from) rest) (sym at) (record {
          from = from;
          is = refl;
          part = record {
            middle = second.0 ∷ r0;
            first = record { mark = word (codes "event") head.0; there = refl; is = refl };
            second = record {
              middle = r0;
              first = name.1;
              second = record {
                middle = r1;
                first = abstracts.1;
                second = record {
                  middle = r2;
                  first = params.1;
                  second = record {
                    middle = r3;
                    first = guards.1;
                    second = record {
                      middle = r4;
                      first = witnesses.1;
                      second = record { middle = r5; first = acts.1; second = record { mark = word (codes "end") end.0; there = refl; is = refl } };
                    };
                  };
                };
              };
            };
          };
        }),
        (λ i. record {
          name = name.2 i;
          convergence = (sym own) i;
          extended = abstracts.2 i;
          refines = abstracts.3 i;
          params = params.2 i;
          guards = guards.2 i;
          witnesses = witnesses.2 i;
          actions = acts.2 i;
        }),
      )

  -- an event, by its convergence
  event_again : (x : RawEvent) → IsEvent IsGood IsGoodAction x → (s : List Mark) → map unplaced_mark s ≡ event_marks x → (rest : List Mark) → ReadsAgain (EventPart b) unplaced_event s x rest × (is_at begins_event (s ++ rest) ≡ true)
  event_again x good s e rest = go x.convergence refl (e ∙ refl)
    where
      -- the event stands behind the word of its convergence
      behind : (c : Convergence) (w : List ℕ) → x.convergence ≡ c → map unplaced_mark s ≡ word w 0 ∷ event_body_marks x → (p : ℕ) × (m : List Mark) × (s ≡ word w p ∷ m) × ReadsAgain (EventBody c b) unplaced_event m x rest
      behind c w is f =
          let one = split_one s (word w 0) (event_body_marks x) f in
          let head = word_placed one.0 w one.3 in
          (head.0, one.1, one.2 ∙ ap (λ y. y ∷ one.1) head.1, event_body_again c x is good one.1 one.4 rest)

      go : (c : Convergence) → x.convergence ≡ c → map unplaced_mark s ≡ event_marks x → ReadsAgain (EventPart b) unplaced_event s x rest × (is_at begins_event (s ++ rest) ≡ true)
      go Ordinary is f =
          let own : map unplaced_mark s ≡ event_body_marks x = f ∙ ap (λ c. convergence_marks c ++ event_body_marks x) is in
          let one = split_one s (word (codes "event") 0) _ own in
          let head = word_placed one.0 (codes "event") one.3 in
          let at : s ≡ word (codes "event") head.0 ∷ one.1 = one.2 ∙ ap (λ y. y ∷ one.1) head.1 in
          let body = event_body_again Ordinary x is good s own rest in (
            (body.0, other (ap (λ t. is_at (is_word_mark (codes "ordinary")) (t ++ rest)) at) (other (ap (λ t. is_at (is_word_mark (codes "convergent")) (t ++ rest)) at) (other (ap (λ t. is_at (is_word_mark (codes "anticipated")) (t ++ rest)) at) body.1)), body.2),
            ap (λ t. is_at begins_event (t ++ rest)) at,
          )
      go Convergent is f =
          let w = behind Convergent (codes "convergent") is (f ∙ ap (λ c. convergence_marks c ++ event_body_marks x) is) in (
            (
              w.3.0,
              subst (λ t. EventPart b (t ++ rest) w.3.0 rest) (sym w.2) (other refl (taken (word (codes "convergent") w.0) (w.1 ++ rest) refl refl w.3.1)),
              w.3.2,
            ),
            ap (λ t. is_at begins_event (t ++ rest)) w.2,
          )
      go Anticipated is f =
          let w = behind Anticipated (codes "anticipated") is (f ∙ ap (λ c. convergence_marks c ++ event_body_marks x) is) in (
            (
              w.3.0,
              subst (λ t. EventPart b (t ++ rest) w.3.0 rest) (sym w.2) (other refl (other refl (taken (word (codes "anticipated") w.0) (w.1 ++ rest) refl refl w.3.1))),
              w.3.2,
            ),
            ap (λ t. is_at begins_event (t ++ rest)) w.2,
          )

  event_list_again : (es : List RawEvent) → AllByRecursion (IsEvent IsGood IsGoodAction) es → (s : List Mark) → map unplaced_mark s ≡ event_list_marks es → (rest : List Mark) → is_at begins_event rest ≡ false → ReadsAgain (EventList b) (map unplaced_event) s es rest
  event_list_again [] good s e rest isnt = ([], rw (none_left s e) (no_more isnt refl), refl)
  event_list_again (x ∷ es) good s e rest isnt =
      let both = split_both s (event_marks x) (event_list_marks es) e in
      let more = event_list_again es good.1 both.1 both.4 rest isnt in
      let one = event_again x good.0 both.0 both.3 (both.1 ++ rest) in
      let at : s ++ rest ≡ both.0 ++ (both.1 ++ rest) = ap (λ t. t ++ rest) both.2 ∙ append_assoc both.0 both.1 rest in (
        one.0.0 ∷ more.0,
        subst (λ t. EventList b t (one.0.0 ∷ more.0) rest) (sym at) (one_more {m = both.1 ++ rest} one.1 one.0.1 more.1),
        (λ i. one.0.2 i ∷ more.2 i),
      )

  events_again : (es : List RawEvent) → AllByRecursion (IsEvent IsGood IsGoodAction) es → (s : List Mark) → map unplaced_mark s ≡ events_marks es → (rest : List Mark) → is_at begins_event rest ≡ false → is_at (is_word_mark (codes "events")) rest ≡ false → ReadsAgain (Events b) (map unplaced_event) s es rest
  events_again [] good s e rest isnt free = ([], rw (none_left s e) (other free (record { is = refl; behind = refl })), refl)
  events_again (x ∷ es) good s e rest isnt free =
      let one = split_one s (word (codes "events") 0) (event_list_marks (x ∷ es)) e in
      let head = word_placed one.0 (codes "events") one.3 in
      let events = event_list_again (x ∷ es) good one.1 one.4 rest isnt in (
        events.0,
        subst (λ t. Events b (t ++ rest) events.0 rest) (sym (one.2 ∙ ap (λ y. y ∷ one.1) head.1)) (taken (word (codes "events") head.0) (one.1 ++ rest) refl refl events.1),
        events.2,
      )

  variant_again : (o : Option RawVariant) → IsVariant IsGood o → (s : List Mark) → map unplaced_mark s ≡ variant_marks o → (ws : List (List ℕ)) (rest : List Mark) → Follows ws rest → is_at (is_word_mark (codes "variant")) rest ≡ false → ReadsAgain (Variant b) (option_map unplaced_variant) s o rest
  variant_again None good s e ws rest f free = (None, rw (none_left s e) (other free (record { is = refl; behind = refl })), refl)
  variant_again (Some x) good s e ws rest f free =
      let one = split_one s (word (codes "variant") 0) (map plain (raw_tokens x.formula)) e in
      let head = word_placed one.0 (codes "variant") one.3 in
      let formula = run_again b (IsPlaced hole.Expression) unplaced_pair (x.formula, x.first) (raw_tokens x.formula) (placed_again b IsGood formulas hole.Expression (x.formula, x.first) good) one.1 one.4 rest (ended ws rest f) in
      let items = items_placed one.1 (raw_tokens x.formula) one.4 in (
        variant_of formula.0,
        subst (λ t. Variant b (t ++ rest) (variant_of formula.0) rest) (sym (one.2 ∙ ap (λ y. y ∷ one.1) head.1))
            (taken (word (codes "variant") head.0) (one.1 ++ rest) refl refl (record { from = formula.0; is = refl; part = other (unlabelled items.0 one.1 items.1) formula.1 })),
        (λ i. Some (record { formula = (formula.2 i).0; first = 0 })),
      )
    where
      unlabelled : (zs : List Item) (m : List Mark) → m ≡ map plain zs → is_at is_a_label (m ++ rest) ≡ false
      unlabelled [] m g = rw g (no_label ws rest f)
      unlabelled (z ∷ zs) m g = ap (λ t. is_at is_a_label (t ++ rest)) g

  refines_again : (o : Option Ref) → IsRefined o → (s : List Mark) → map unplaced_mark s ≡ names_marks (codes "refines") (option_to_list o) → (rest : List Mark) → is_at (is_word_mark (codes "refines")) rest ≡ false → ReadsAgain (Refines b) (option_map unplaced_ref) s o rest
  refines_again None good s e rest free = (None, rw (none_left s e) (other free (record { is = refl; behind = refl })), refl)
  refines_again (Some r) good s e rest free =
      let one = split_one s (word (codes "refines") 0) (name_mark r ∷ []) e in
      let head = word_placed one.0 (codes "refines") one.3 in
      let two = split_one one.1 (name_mark r) [] one.4 in
      let name = one_name b r good two.0 two.3 rest in
      let at : s ++ rest ≡ word (codes "refines") head.0 ∷ (two.0 ∷ rest) =
      ap (λ t. t ++ rest) (one.2 ∙ ap (λ x. x ∷ one.1) head.1) ∙ ap (λ t. word (codes "refines") head.0 ∷ (t ++ rest)) (two.2 ∙ ap (λ t. two.0 ∷ t) (none_left two.1 two.4)) in (
        Some name.0,
        subst (λ t. Refines b t (Some name.0) rest) (sym at) (taken (word (codes "refines") head.0) (two.0 ∷ rest) refl refl (record { from = name.0; is = refl; part = name.1 })),
        (λ i. Some (name.2 i)),
      )

  -- what may stand behind the parts of a component
  abbrev from_constants : List (List ℕ)
  from_constants = codes "axioms" ∷ to_end

  abbrev from_sets : List (List ℕ)
  from_sets = codes "constants" ∷ from_constants

  abbrev from_extends : List (List ℕ)
  from_extends = codes "sets" ∷ from_sets

  abbrev from_variant : List (List ℕ)
  from_variant = codes "events" ∷ to_end

  abbrev from_invariants : List (List ℕ)
  from_invariants = codes "variant" ∷ from_variant

  abbrev from_variables : List (List ℕ)
  from_variables = codes "invariants" ∷ from_invariants

  abbrev from_sees : List (List ℕ)
  from_sees = codes "variables" ∷ from_variables

  abbrev from_refines : List (List ℕ)
  from_refines = codes "sees" ∷ from_sees

  abbrev pub ComponentAgain : RawComponent → List Mark → Type 0
  ComponentAgain c s = (again : RawComponent) × IsComponent b s again × (unplaced_component again ≡ unplaced_component c)

  context_again : (name : Ref) (extends sets constants : List Ref) (axioms : List RawLabelled) → IsMade IsGood IsGoodAction (Context name extends sets constants axioms) → (s : List Mark) →
      map unplaced_mark s ≡ component_marks (Context name extends sets constants axioms) → ComponentAgain (Context name extends sets constants axioms) s
  context_again name extends sets constants axioms good s e =
      let first = split_one s (word (codes "context") 0) _ e in
      let head = word_placed first.0 (codes "context") first.3 in
      let second = split_one first.1 (name_mark name) _ first.4 in
      let s0 = split_both second.1 (names_marks (codes "extends") extends) _ second.4 in
      let s1 = split_both s0.1 (names_marks (codes "sets") sets) _ s0.4 in
      let s2 = split_both s1.1 (names_marks (codes "constants") constants) _ s1.4 in
      let s3 = split_both s2.1 (section_marks (codes "axioms") axioms) end_marks s2.4 in
      let last = split_one s3.1 (word (codes "end") 0) [] s3.4 in
      let end = word_placed last.0 (codes "end") last.3 in
      let r4 : List Mark = word (codes "end") end.0 ∷ [] in
      let f4 : Follows to_end r4 = here in
      let r3 : List Mark = s3.0 ++ r4 in
      let f3 : Follows from_constants r3 = follow_section (codes "axioms") axioms s3.0 s3.3 to_end r4 f4 in
      let r2 : List Mark = s2.0 ++ r3 in
      let f2 : Follows from_sets r2 = follow_names (codes "constants") constants s2.0 s2.3 from_constants r3 f3 in
      let r1 : List Mark = s1.0 ++ r2 in
      let f1 : Follows from_extends r1 = follow_names (codes "sets") sets s1.0 s1.3 from_sets r2 f2 in
      let r0 : List Mark = s0.0 ++ r1 in
      let named = one_name b name good.0 second.0 second.3 r0 in
      let extended = some_names_behind_again b (codes "extends") extends good.1 s0.0 s0.3 r1 (no_name from_extends r1 f1) (no_word (codes "extends") from_extends r1 f1 refl) in
      let carriers = names_behind_again b (codes "sets") sets good.2 s1.0 s1.3 r2 (no_name from_sets r2 f2) (no_word (codes "sets") from_sets r2 f2 refl) in
      let constants_again = names_behind_again b (codes "constants") constants good.3 s2.0 s2.3 r3 (no_name from_constants r3 f3) (no_word (codes "constants") from_constants r3 f3 refl) in
      let axioms_again = section_again b IsGood formulas (codes "axioms") (is_word_mark (codes "axioms")) (λ p. refl) axioms good.4 s3.0 s3.3 r4 at_word refl refl in
      let t3 : s2.1 ≡ r3 = s3.2 ∙ ap (λ t. s3.0 ++ t) (last.2 ∙ (λ i. end.1 i ∷ none_left last.1 last.4 i)) in
      let t2 : s1.1 ≡ r2 = s2.2 ∙ ap (λ t. s2.0 ++ t) t3 in
      let t1 : s0.1 ≡ r1 = s1.2 ∙ ap (λ t. s1.0 ++ t) t2 in
      let t0 : second.1 ≡ r0 = s0.2 ∙ ap (λ t. s0.0 ++ t) t1 in
      let at : s ≡ word (codes "context") head.0 ∷ (second.0 ∷ r0) = first.2 ∙ (λ i. head.1 i ∷ (second.2 ∙ ap (λ t. second.0 ∷ t) t0) i) in
      let from : Ref × (List Ref × (List Ref × (List Ref × List RawLabelled))) = (named.0, (extended.0, (carriers.0, (constants_again.0, axioms_again.0)))) in (
        context_of from,
        a_context (record {
          place = head.0;
          behind = second.0 ∷ r0;
          rest = r4;
          head = at;
          body = record {
            from = from;
            is = refl;
            part = record {
              middle = r0;
              first = named.1;
              second = record { middle = r1; first = extended.1; second = record { middle = r2; first = carriers.1; second = record { middle = r3; first = constants_again.1; second = axioms_again.1 } } };
            };
          };
          end_place = end.0;
          end = refl;
        }),
        (λ i. Context (named.2 i) (extended.2 i) (carriers.2 i) (constants_again.2 i) (axioms_again.2 i)),
      )

  machine_again : (name : Ref) (refines : Option Ref) (sees variables : List Ref) (invariants : List RawLabelled) (variant : Option RawVariant) (events : List RawEvent) →
      IsMade IsGood IsGoodAction (Machine name refines sees variables invariants variant events) → (s : List Mark) →
      map unplaced_mark s ≡ component_marks (Machine name refines sees variables invariants variant events) → ComponentAgain (Machine name refines sees variables invariants variant events) s
  machine_again name refines sees variables invariants variant events good s e =
      let first = split_one s (word (codes "machine") 0) _ e in
      let head = word_placed first.0 (codes "machine") first.3 in
      let second = split_one first.1 (name_mark name) _ first.4 in
      let s0 = split_both second.1 (names_marks (codes "refines") (option_to_list refines)) _ second.4 in
      let s1 = split_both s0.1 (names_marks (codes "sees") sees) _ s0.4 in
      let s2 = split_both s1.1 (names_marks (codes "variables") variables) _ s1.4 in
      let s3 = split_both s2.1 (section_marks (codes "invariants") invariants) _ s2.4 in
      let s4 = split_both s3.1 (variant_marks variant) _ s3.4 in
      let s5 = split_both s4.1 (events_marks events) end_marks s4.4 in
      let last = split_one s5.1 (word (codes "end") 0) [] s5.4 in
      let end = word_placed last.0 (codes "end") last.3 in
      let r6 : List Mark = word (codes "end") end.0 ∷ [] in
      let f6 : Follows to_end r6 = here in
      let r5 : List Mark = s5.0 ++ r6 in
      let f5 : Follows from_variant r5 = follow_events events s5.0 s5.3 to_end r6 f6 in
      let r4 : List Mark = s4.0 ++ r5 in
      let f4 : Follows from_invariants r4 = follow_variant variant s4.0 s4.3 from_variant r5 f5 in
      let r3 : List Mark = s3.0 ++ r4 in
      let f3 : Follows from_variables r3 = follow_section (codes "invariants") invariants s3.0 s3.3 from_invariants r4 f4 in
      let r2 : List Mark = s2.0 ++ r3 in
      let f2 : Follows from_sees r2 = follow_names (codes "variables") variables s2.0 s2.3 from_variables r3 f3 in
      let r1 : List Mark = s1.0 ++ r2 in
      let f1 : Follows from_refines r1 = follow_names (codes "sees") sees s1.0 s1.3 from_sees r2 f2 in
      let r0 : List Mark = s0.0 ++ r1 in
      let named = one_name b name good.0 second.0 second.3 r0 in
      let refined = refines_again refines good.1 s0.0 s0.3 r1 (no_word (codes "refines") from_refines r1 f1 refl) in
      let seen = some_names_behind_again b (codes "sees") sees good.2 s1.0 s1.3 r2 (no_name from_sees r2 f2) (no_word (codes "sees") from_sees r2 f2 refl) in
      let own = names_behind_again b (codes "variables") variables good.3 s2.0 s2.3 r3 (no_name from_variables r3 f3) (no_word (codes "variables") from_variables r3 f3 refl) in
      let invariants_again = section_again b IsGood formulas (codes "invariants") (is_word_mark (codes "invariants")) (λ p. refl) invariants good.4 s3.0 s3.3 r4 (ended from_invariants r4 f4) (no_line from_invariants r4 f4 refl) (no_word (codes "invariants") from_invariants r4 f4 refl) in
      let measure = variant_again variant good.5 s4.0 s4.3 from_variant r5 f5 (no_word (codes "variant") from_variant r5 f5 refl) in
      let happen = events_again events good.6 s5.0 s5.3 r6 refl refl in
      let t5 : s4.1 ≡ r5 = s5.2 ∙ ap (λ t. s5.0 ++ t) (last.2 ∙ (λ i. end.1 i ∷ none_left last.1 last.4 i)) in
      let t4 : s3.1 ≡ r4 = s4.2 ∙ ap (λ t. s4.0 ++ t) t5 in
      let t3 : s2.1 ≡ r3 = s3.2 ∙ ap (λ t. s3.0 ++ t) t4 in
      let t2 : s1.1 ≡ r2 = s2.2 ∙ ap (λ t. s2.0 ++ t) t3 in
      let t1 : s0.1 ≡ r1 = s1.2 ∙ ap (λ t. s1.0 ++ t) t2 in
      let t0 : second.1 ≡ r0 = s0.2 ∙ ap (λ t. s0.0 ++ t) t1 in
      let at : s ≡ word (codes "machine") head.0 ∷ (second.0 ∷ r0) = first.2 ∙ (λ i. head.1 i ∷ (second.2 ∙ ap (λ t. second.0 ∷ t) t0) i) in
      let from : Ref × (Option Ref × (List Ref × (List Ref × (List RawLabelled × (Option RawVariant × List RawEvent))))) = (named.0, (refined.0, (seen.0, (own.0, (invariants_again.0, (measure.0, happen.0)))))) in (
        machine_of from,
        a_machine (record {
          place = head.0;
          behind = second.0 ∷ r0;
          rest = r6;
          head = at;
          body = record {
            from = from;
            is = refl;
            part = record {
              middle = r0;
              first = named.1;
              second = record {
                middle = r1;
                first = refined.1;
                second = record {
                  middle = r2;
                  first = seen.1;
                  second = record { middle = r3; first = own.1; second = record { middle = r4; first = invariants_again.1; second = record { middle = r5; first = measure.1; second = happen.1 } } };
                };
              };
            };
          };
          end_place = end.0;
          end = refl;
        }),
        (λ i. Machine (named.2 i) (refined.2 i) (seen.2 i) (own.2 i) (invariants_again.2 i) (measure.2 i) (happen.2 i)),
      )

  -- the tokens of a printed component are one, at any places
  pub component_again : (c : RawComponent) → IsMade IsGood IsGoodAction c → (s : List Mark) → map unplaced_mark s ≡ component_marks c → ComponentAgain c s
  component_again (Context name extends sets constants axioms) good s e = context_again name extends sets constants axioms good s e
  component_again (Machine name refines sees variables invariants variant events) good s e = machine_again name refines sees variables invariants variant events good s e
