-- What a component is made of that is read: names, labels and formulas that are spelled.
use Rattle.std.proofs.Common.{◌≡◌, ◌∙◌, ap, ℕ, List, [], ◌∷◌, ◌++◌, Bool, true, false, refl, sym, subst, cond}
use Rattle.std.specs.Prelude.{Option, Some, None, codes}
use Rattle.std.specs.List.{AllByRecursion}
use Rattle.formula_core.specs.Names.{is_identifier}
use Rattle.formula_core.specs.Texts.{is_label}
use Rattle.formula_core.specs.declared.raw.Raw.{Raw}
use Rattle.formula_core.specs.declared.raw.RawAction.{RawAction}
use Rattle.formula_core.specs.declared.raw.Ref.{Ref}
use Rattle.math_grammar.specs.declared.holes.Hole.{Hole}
use Rattle.math_grammar.specs.declared.holes.Hole.TheVariants as hole
use Rattle.math_grammar.specs.Tokens.{Item}
use Rattle.model_core.specs.declared.component.Convergence.{Convergence}
use Rattle.model_core.specs.declared.component.Convergence.TheVariants.{Ordinary, Convergent, Anticipated}
use Rattle.model_core.specs.declared.component.RawLabelled.{RawLabelled}
use Rattle.model_core.specs.declared.component.RawVariant.{RawVariant}
use Rattle.model_core.specs.declared.component.RawStep.{RawStep}
use Rattle.model_core.specs.declared.component.RawEvent.{RawEvent}
use Rattle.model_core.specs.declared.component.RawComponent.{RawComponent}
use Rattle.model_core.specs.declared.component.RawComponent.TheVariants.{Context, Machine}
use Rattle.component_text.specs.declared.machine.Abstracts.{Abstracts}
use Rattle.component_text.specs.Marks.{Mark, word, label, plain, token_run}
use Rattle.component_text.specs.Forms.{Bounds, limits, One, Nothing, Choice, taken, other, no_more, one_more}
use Rattle.component_text.specs.Grammar.{IsFormula, reference, label_at, Names, SomeNames, LabelledPart, FormulaLine, Lines, NamesBehind, SomeNamesBehind, ContextBody}
use Rattle.component_text.specs.Machines.{IsActionWithin, word_at, Refines, VariantExpression, Variant, Witnesses, ActionLine, ManySteps, References, Guards, With, Actions, EventBody, EventPart, EventList, Events, MachineBody, IsComponent, a_context, a_machine}
use Rattle.component_text.proofs.Parts.{Good, good_one}
use Rattle.raw_print.specs.Back.{is_whole}
use Rattle.component_text.proofs.Components.{good_line, good_extends, good_sets, good_constants}
use Rattle.component_text.proofs.Machines.{good_refines, good_variant, good_witness, good_step, good_references, good_any, good_guards, good_with, good_event, good_sees, good_variables, good_invariants}

abbrev pub IsName : Ref → Type 0
IsName r = is_identifier r.name ≡ true

-- an event that extends another names it alone
abbrev pub IsAbstracts : Bool → List Ref → Type 0
IsAbstracts true names = (n : Ref) × (names ≡ n ∷ []) × IsName n
IsAbstracts false names = AllByRecursion IsName names

abbrev pub IsRefined : Option Ref → Type 0
IsRefined None = Unit {0}
IsRefined (Some r) = IsName r

module _ (IsGood : Hole → Raw → Type 0) where
  abbrev pub IsLine : RawLabelled → Type 0
  IsLine l = (is_label l.label ≡ true) × IsGood hole.Predicate l.formula

  abbrev pub IsWitness : RawLabelled → Type 0
  IsWitness l = (l.theorem ≡ false) × IsLine l

  abbrev pub IsVariant : Option RawVariant → Type 0
  IsVariant None = Unit {0}
  IsVariant (Some v) = IsGood hole.Expression v.formula

  module _ (IsGoodAction : RawAction → Type 0) where
    abbrev pub IsStep : RawStep → Type 0
    IsStep s = (is_label s.label ≡ true) × IsGoodAction s.action

    pub record IsEvent (e : RawEvent) : Type 0 where
      pub name : IsName e.name
      pub abstracts : IsAbstracts e.extended e.refines
      pub params : AllByRecursion IsName e.params
      pub guards : AllByRecursion IsLine e.guards
      pub witnesses : AllByRecursion IsWitness e.witnesses
      pub actions : AllByRecursion IsStep e.actions

    -- a component is made of names, labels and formulas that are spelled
    abbrev pub IsMade : RawComponent → Type 0
    IsMade (Context name extends sets constants axioms) =
        IsName name × AllByRecursion IsName extends × AllByRecursion IsName sets × AllByRecursion IsName constants × AllByRecursion IsLine axioms
    IsMade (Machine name refines sees variables invariants variant events) =
        IsName name × IsRefined refines × AllByRecursion IsName sees × AllByRecursion IsName variables × AllByRecursion IsLine invariants × IsVariant variant × AllByRecursion IsEvent events

name_read : (x : Mark) (r : Ref) → reference x ≡ Some r → IsName r
name_read (plain x) r e = go (is_identifier x.text) refl e
  where
    go : (t : Bool) → is_identifier x.text ≡ t → cond {A = Option Ref} t (Some (record { name = x.text; place = x.from })) None ≡ Some r → IsName r
    go true is k = let same : record { name = x.text; place = x.from } ≡ r = cc in sym (ap (λ n. is_identifier n.name) same) ∙ is
    go false is k = cc
name_read (word w p) r e = cc
name_read (label l p) r e = cc

label_read : (x : Mark) (l : List ℕ × ℕ) → label_at x ≡ Some l → is_label l.0 ≡ true
label_read (label t p) l e = go (is_label t) refl e
  where
    go : (b : Bool) → is_label t ≡ b → cond {A = Option (List ℕ × ℕ)} b (Some (t, p)) None ≡ Some l → is_label l.0 ≡ true
    go true is k = let same : (t, p) ≡ l = cc in sym (ap (λ n. is_label n.0) same) ∙ is
    go false is k = cc
label_read (word w p) l e = cc
label_read (plain x) l e = cc

names_made : (s : List Mark) (rs : List Ref) (rest : List Mark) → Names limits s rs rest → AllByRecursion IsName rs
names_made s rs rest (no_more isnt e) = tt
names_made s rs rest (one_more {m = m} {x = r} {xs = more} does h hs) = (name_read h.mark r h.is, names_made m more rest hs)

some_names_made : (s : List Mark) (rs : List Ref) (rest : List Mark) → SomeNames limits s rs rest → AllByRecursion IsName rs
some_names_made s rs rest h =
    subst (AllByRecursion IsName) h.is (name_read h.part.first.mark h.from.0 h.part.first.is, names_made h.part.middle h.from.1 rest h.part.second)

names_behind_made : (w : List ℕ) (s : List Mark) (rs : List Ref) (rest : List Mark) → NamesBehind w limits s rs rest → AllByRecursion IsName rs
names_behind_made w s rs rest (taken x m e is h) = names_made m rs rest h
names_behind_made w s rs rest (other isnt h) = subst (AllByRecursion IsName) (sym h.is) tt

some_names_behind_made : (w : List ℕ) (s : List Mark) (rs : List Ref) (rest : List Mark) → SomeNamesBehind w limits s rs rest → AllByRecursion IsName rs
some_names_behind_made w s rs rest (taken x m e is h) = some_names_made m rs rest h
some_names_behind_made w s rs rest (other isnt h) = subst (AllByRecursion IsName) (sym h.is) tt

-- what holds of the tokens of formulas
module _ (Small : Item → Type 0) where
  abbrev pub IsSmallMark : Mark → Type 0
  IsSmallMark (plain x) = Small x
  IsSmallMark (word w p) = Unit {0}
  IsSmallMark (label l p) = Unit {0}

  abbrev pub AreSmall : List Mark → Type 0
  AreSmall s = AllByRecursion IsSmallMark s

module _ (Small : Item → Type 0) (IsGood : Hole → Raw → Type 0) (IsGoodAction : RawAction → Type 0)
    (formula_good : (h : Hole) (s : List Item) (t : Raw) → is_whole h ≡ true → AllByRecursion Small s → IsFormula h limits s t → IsGood h t)
    (action_good : (s : List Item) (a : RawAction) → AllByRecursion Small s → IsActionWithin limits s a → IsGoodAction a) where
  small_behind : (front rest : List Mark) → AreSmall Small (front ++ rest) → AreSmall Small rest
  small_behind [] rest h = h
  small_behind (x ∷ front) rest h = small_behind front rest h.1

  small_rest : {X : Type 0} (P : Bounds → List Mark → X → List Mark → Type 0) → Good P → (s : List Mark) (x : X) (m : List Mark) → P limits s x m → AreSmall Small s → AreSmall Small m
  small_rest P good s x m h small = let front = good.split limits s x m h in small_behind front.0 m (subst (AreSmall Small) front.1 small)

  small_run : (s : List Mark) → AreSmall Small s → AllByRecursion Small (token_run s)
  small_run [] h = tt
  small_run (plain x ∷ s) h = (h.0, small_run s h.1)
  small_run (word w p ∷ s) h = tt
  small_run (label l p ∷ s) h = tt

  labelled_made : (theorem : Bool) (s : List Mark) (l : RawLabelled) (rest : List Mark) → AreSmall Small s → LabelledPart theorem limits s l rest → IsLine IsGood l × (l.theorem ≡ theorem)
  labelled_made theorem s l rest small h =
      let middle : AreSmall Small h.part.middle = (subst (AreSmall Small) h.part.first.there small).1 in
      let good : IsGood hole.Predicate h.from.1.0 = formula_good hole.Predicate (token_run h.part.middle) h.from.1.0 refl (small_run h.part.middle middle) h.part.second.spelled.0 in
      subst (λ k. IsLine IsGood k × (k.theorem ≡ theorem)) h.is ((label_read h.part.first.mark h.from.0 h.part.first.is, good), refl)

  line_made : (s : List Mark) (l : RawLabelled) (rest : List Mark) → AreSmall Small s → FormulaLine limits s l rest → IsLine IsGood l
  line_made s l rest small (taken x m e is h) = (labelled_made true m l rest (subst (AreSmall Small) e small).1 h).0
  line_made s l rest small (other isnt h) = (labelled_made false s l rest small h).0

  lines_made : (s : List Mark) (ls : List RawLabelled) (rest : List Mark) → AreSmall Small s → Lines limits s ls rest → AllByRecursion (IsLine IsGood) ls
  lines_made s ls rest small (no_more isnt e) = tt
  lines_made s ls rest small (one_more {m = m} {x = l} {xs = more} does h hs) = (line_made s l m small h, lines_made m more rest (small_rest FormulaLine good_line s l m h small) hs)

  section_made : (test : Mark → Bool) (s : List Mark) (ls : List RawLabelled) (rest : List Mark) → AreSmall Small s → Choice test Lines (Nothing []) limits s ls rest → AllByRecursion (IsLine IsGood) ls
  section_made test s ls rest small (taken x m e is h) = lines_made m ls rest (subst (AreSmall Small) e small).1 h
  section_made test s ls rest small (other isnt h) = subst (AllByRecursion (IsLine IsGood)) (sym h.is) tt

  witnesses_made : (s : List Mark) (ls : List RawLabelled) (rest : List Mark) → AreSmall Small s → Witnesses limits s ls rest → AllByRecursion (IsWitness IsGood) ls
  witnesses_made s ls rest small (no_more isnt e) = tt
  witnesses_made s ls rest small (one_more {m = m} {x = l} {xs = more} does h hs) =
      let one = labelled_made false s l m small h in
      ((one.1, one.0), witnesses_made m more rest (small_rest (LabelledPart false) good_witness s l m h small) hs)

  with_made : (s : List Mark) (ls : List RawLabelled) (rest : List Mark) → AreSmall Small s → With limits s ls rest → AllByRecursion (IsWitness IsGood) ls
  with_made s ls rest small (taken x m e is h) = witnesses_made m ls rest (subst (AreSmall Small) e small).1 h
  with_made s ls rest small (other isnt h) = subst (AllByRecursion (IsWitness IsGood)) (sym h.is) tt

  step_made : (s : List Mark) (a : RawStep) (rest : List Mark) → AreSmall Small s → ActionLine limits s a rest → IsStep IsGood IsGoodAction a
  step_made s a rest small h =
      let middle : AreSmall Small h.part.middle = (subst (AreSmall Small) h.part.first.there small).1 in
      subst (IsStep IsGood IsGoodAction) h.is (label_read h.part.first.mark h.from.0 h.part.first.is, action_good (token_run h.part.middle) h.from.1 (small_run h.part.middle middle) h.part.second.spelled)

  steps_made : (s : List Mark) (acts : List RawStep) (rest : List Mark) → AreSmall Small s → ManySteps limits s acts rest → AllByRecursion (IsStep IsGood IsGoodAction) acts
  steps_made s acts rest small (no_more isnt e) = tt
  steps_made s acts rest small (one_more {m = m} {x = a} {xs = more} does h hs) = (step_made s a m small h, steps_made m more rest (small_rest ActionLine good_step s a m h small) hs)

  actions_made : (s : List Mark) (acts : List RawStep) (rest : List Mark) → AreSmall Small s → Actions limits s acts rest → AllByRecursion (IsStep IsGood IsGoodAction) acts
  actions_made s acts rest small (taken x m e is h) = steps_made m acts rest (subst (AreSmall Small) e small).1 h
  actions_made s acts rest small (other isnt h) = subst (AllByRecursion (IsStep IsGood IsGoodAction)) (sym h.is) tt

  abstracts_made : (s : List Mark) (a : Abstracts) (rest : List Mark) → References limits s a rest → IsAbstracts a.extended a.names
  abstracts_made s a rest (taken x m e is h) = subst (λ r. IsAbstracts r.extended r.names) h.is (h.from, refl, name_read h.part.mark h.from h.part.is)
  abstracts_made s a rest (other isnt h) = subst (λ r. IsAbstracts r.extended r.names) h.is (some_names_behind_made (codes "refines") s h.from rest h.part)

  event_body_made : (c : Convergence) (s : List Mark) (e : RawEvent) (rest : List Mark) → AreSmall Small s → EventBody c limits s e rest → IsEvent IsGood IsGoodAction e
  event_body_made c s e rest small h =
      let p = h.part in
      let behind_word : AreSmall Small p.middle = small_rest (One (word_at (codes "event"))) (good_one (word_at (codes "event"))) s h.from.0 p.middle p.first small in
      let name = p.second in
      let behind_name : AreSmall Small name.middle = small_rest (One reference) (good_one reference) p.middle h.from.1.0 name.middle name.first behind_word in
      let abstracts = name.second in
      let behind_abstracts : AreSmall Small abstracts.middle = small_rest References good_references name.middle h.from.1.1.0 abstracts.middle abstracts.first behind_name in
      let any = abstracts.second in
      let behind_any : AreSmall Small any.middle = small_rest (NamesBehind (codes "any")) good_any abstracts.middle h.from.1.1.1.0 any.middle any.first behind_abstracts in
      let guards = any.second in
      let behind_guards : AreSmall Small guards.middle = small_rest Guards good_guards any.middle h.from.1.1.1.1.0 guards.middle guards.first behind_any in
      let witnesses = guards.second in
      let behind_witnesses : AreSmall Small witnesses.middle = small_rest With good_with guards.middle h.from.1.1.1.1.1.0 witnesses.middle witnesses.first behind_guards in
      let actions = witnesses.second in
      subst (IsEvent IsGood IsGoodAction) h.is (record {
        name = name_read name.first.mark h.from.1.0 name.first.is;
        abstracts = abstracts_made name.middle h.from.1.1.0 abstracts.middle abstracts.first;
        params = names_behind_made (codes "any") abstracts.middle h.from.1.1.1.0 any.middle any.first;
        guards = section_made _ any.middle h.from.1.1.1.1.0 guards.middle behind_any guards.first;
        witnesses = with_made guards.middle h.from.1.1.1.1.1.0 witnesses.middle behind_guards witnesses.first;
        actions = actions_made witnesses.middle h.from.1.1.1.1.1.1.0 actions.middle behind_witnesses actions.first;
      })

  event_made : (s : List Mark) (e : RawEvent) (rest : List Mark) → AreSmall Small s → EventPart limits s e rest → IsEvent IsGood IsGoodAction e
  event_made s e rest small (taken x m t is h) = event_body_made Ordinary m e rest (subst (AreSmall Small) t small).1 h
  event_made s e rest small (other a (taken x m t is h)) = event_body_made Convergent m e rest (subst (AreSmall Small) t small).1 h
  event_made s e rest small (other a (other b (taken x m t is h))) = event_body_made Anticipated m e rest (subst (AreSmall Small) t small).1 h
  event_made s e rest small (other a (other b (other c h))) = event_body_made Ordinary s e rest small h

  event_list_made : (s : List Mark) (es : List RawEvent) (rest : List Mark) → AreSmall Small s → EventList limits s es rest → AllByRecursion (IsEvent IsGood IsGoodAction) es
  event_list_made s es rest small (no_more isnt e) = tt
  event_list_made s es rest small (one_more {m = m} {x = e} {xs = more} does h hs) = (event_made s e m small h, event_list_made m more rest (small_rest EventPart good_event s e m h small) hs)

  events_made : (s : List Mark) (es : List RawEvent) (rest : List Mark) → AreSmall Small s → Events limits s es rest → AllByRecursion (IsEvent IsGood IsGoodAction) es
  events_made s es rest small (taken x m e is h) = event_list_made m es rest (subst (AreSmall Small) e small).1 h
  events_made s es rest small (other isnt h) = subst (AllByRecursion (IsEvent IsGood IsGoodAction)) (sym h.is) tt

  refines_made : (s : List Mark) (o : Option Ref) (rest : List Mark) → Refines limits s o rest → IsRefined o
  refines_made s o rest (taken x m e is h) = subst IsRefined h.is (name_read h.part.mark h.from h.part.is)
  refines_made s o rest (other isnt h) = subst IsRefined (sym h.is) tt

  variant_expression_made : (s : List Mark) (e : Raw × ℕ) (rest : List Mark) → AreSmall Small s → VariantExpression limits s e rest → IsGood hole.Expression e.0
  variant_expression_made s e rest small (taken x m t is h) = formula_good hole.Expression (token_run m) e.0 refl (small_run m (subst (AreSmall Small) t small).1) h.spelled.0
  variant_expression_made s e rest small (other isnt h) = formula_good hole.Expression (token_run s) e.0 refl (small_run s small) h.spelled.0

  variant_made : (s : List Mark) (o : Option RawVariant) (rest : List Mark) → AreSmall Small s → Variant limits s o rest → IsVariant IsGood o
  variant_made s o rest small (taken x m t is h) = subst (IsVariant IsGood) h.is (variant_expression_made m h.from rest (subst (AreSmall Small) t small).1 h.part)
  variant_made s o rest small (other isnt h) = subst (IsVariant IsGood) (sym h.is) tt

  context_made : (s : List Mark) (c : RawComponent) (rest : List Mark) → AreSmall Small s → ContextBody limits s c rest → IsMade IsGood IsGoodAction c
  context_made s c rest small h =
      let p = h.part in
      let behind_name : AreSmall Small p.middle = small_rest (One reference) (good_one reference) s h.from.0 p.middle p.first small in
      let extends = p.second in
      let behind_extends : AreSmall Small extends.middle = small_rest (SomeNamesBehind (codes "extends")) good_extends p.middle h.from.1.0 extends.middle extends.first behind_name in
      let sets = extends.second in
      let behind_sets : AreSmall Small sets.middle = small_rest (NamesBehind (codes "sets")) good_sets extends.middle h.from.1.1.0 sets.middle sets.first behind_extends in
      let constants = sets.second in
      let behind_constants : AreSmall Small constants.middle = small_rest (NamesBehind (codes "constants")) good_constants sets.middle h.from.1.1.1.0 constants.middle constants.first behind_sets in
      subst (IsMade IsGood IsGoodAction) h.is (
        name_read p.first.mark h.from.0 p.first.is,
        some_names_behind_made (codes "extends") p.middle h.from.1.0 extends.middle extends.first,
        names_behind_made (codes "sets") extends.middle h.from.1.1.0 sets.middle sets.first,
        names_behind_made (codes "constants") sets.middle h.from.1.1.1.0 constants.middle constants.first,
        section_made _ constants.middle h.from.1.1.1.1 rest behind_constants constants.second,
      )

  machine_made : (s : List Mark) (c : RawComponent) (rest : List Mark) → AreSmall Small s → MachineBody limits s c rest → IsMade IsGood IsGoodAction c
  machine_made s c rest small h =
      let p = h.part in
      let behind_name : AreSmall Small p.middle = small_rest (One reference) (good_one reference) s h.from.0 p.middle p.first small in
      let refines = p.second in
      let behind_refines : AreSmall Small refines.middle = small_rest Refines good_refines p.middle h.from.1.0 refines.middle refines.first behind_name in
      let sees = refines.second in
      let behind_sees : AreSmall Small sees.middle = small_rest (SomeNamesBehind (codes "sees")) good_sees refines.middle h.from.1.1.0 sees.middle sees.first behind_refines in
      let variables = sees.second in
      let behind_variables : AreSmall Small variables.middle = small_rest (NamesBehind (codes "variables")) good_variables sees.middle h.from.1.1.1.0 variables.middle variables.first behind_sees in
      let invariants = variables.second in
      let behind_invariants : AreSmall Small invariants.middle = small_rest _ good_invariants variables.middle h.from.1.1.1.1.0 invariants.middle invariants.first behind_variables in
      let variant = invariants.second in
      let behind_variant : AreSmall Small variant.middle = small_rest Variant good_variant invariants.middle h.from.1.1.1.1.1.0 variant.middle variant.first behind_invariants in
      subst (IsMade IsGood IsGoodAction) h.is (
        name_read p.first.mark h.from.0 p.first.is,
        refines_made p.middle h.from.1.0 refines.middle refines.first,
        some_names_behind_made (codes "sees") refines.middle h.from.1.1.0 sees.middle sees.first,
        names_behind_made (codes "variables") sees.middle h.from.1.1.1.0 variables.middle variables.first,
        section_made _ variables.middle h.from.1.1.1.1.0 invariants.middle behind_variables invariants.first,
        variant_made invariants.middle h.from.1.1.1.1.1.0 variant.middle behind_invariants variant.first,
        events_made variant.middle h.from.1.1.1.1.1.1 rest behind_variant variant.second,
      )

  pub component_made : (s : List Mark) (c : RawComponent) → AreSmall Small s → IsComponent limits s c → IsMade IsGood IsGoodAction c
  component_made s c small (a_context h) = context_made h.behind c h.rest (subst (AreSmall Small) h.head small).1 h.body
  component_made s c small (a_machine h) = machine_made h.behind c h.rest (subst (AreSmall Small) h.head small).1 h.body
