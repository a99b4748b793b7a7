-- The parts of machines.
use Rattle.std.proofs.Common.{◌≡◌, ◌∙◌, ap, ℕ, ◌<◌, List, [], ◌∷◌, ◌++◌, Bool, true, false, ◌||◌, Some, None, Err, cond, length, map, refl, sym, subst, arith, length-append, bytes_eq}
use Rattle.std.specs.Prelude.{Option, Result, codes}
use Rattle.formula_core.specs.declared.raw.Raw.{Raw}
use Rattle.formula_core.specs.declared.raw.RawAction.{RawAction}
use Rattle.formula_core.specs.declared.raw.RawAction.TheVariants as act
use Rattle.formula_core.specs.declared.raw.Ref.{Ref}
use Rattle.math_grammar.specs.declared.holes.Hole.TheVariants as hole
use Rattle.formula_core.specs.declared.raw.Raw.TheVariants as raw
use Rattle.math_grammar.specs.declared.holes.Grade.TheVariants as grade
use Rattle.math_grammar.specs.declared.symbols.Symbol.TheVariants as sign
use Rattle.math_grammar.specs.Grammar.{item, a_name}
use Rattle.math_grammar.specs.Actions.{SpellsAction, chooses_in}
use Rattle.formula_parse.specs.Faults.{BeginsOne}
use Rattle.math_grammar.specs.Tokens.{Item}
use Rattle.model_core.specs.declared.component.Convergence.{Convergence}
use Rattle.model_core.specs.declared.component.Convergence.TheVariants.{Ordinary, Convergent, Anticipated}
use Rattle.model_core.specs.declared.component.RawLabelled.{RawLabelled}
use Rattle.model_core.specs.declared.component.RawVariant.{RawVariant}
use Rattle.model_core.specs.declared.component.RawStep.{RawStep}
use Rattle.model_core.specs.declared.component.RawEvent.{RawEvent}
use Rattle.component_text.specs.declared.stop.Stop.{Stop}
use Rattle.component_text.specs.declared.stop.Stop.TheVariants as stop
use Rattle.component_text.specs.declared.machine.Abstracts.{Abstracts}
use Rattle.component_text.specs.Marks.{Mark, word, label, plain, token_run, is_word_mark, is_at}
use Rattle.component_text.specs.Forms.{Bounds, limits, parts, One, FormulaRun, Nothing, Then, Choice, taken, other, Of}
use Rattle.component_text.specs.Grammar.{IsPlaced, reference, label_at, is_a_label, SomeNames, Names, LabelledPart, Lines, SomeNamesBehind, NamesBehind, LinesBehind}
use Rattle.component_text.specs.Machines.{IsActionWithin, word_at, Refines, Expression, VariantExpression, variant_of, Variant, Witnesses, labelled_step, ActionLine, ManySteps, extending, refining, References, either, Guards, With, Actions, event_of, EventBody, EventPart, begins_event, EventList, Events, machine_of, MachineBody}
use Rattle.component_text.specs.Faults.{opens_formula}
use Rattle.component_text.specs.PrivateReading.{end_mark, BeginsIn, Begins, NoneHasIn, RefusesAt, ReadsOrStops, Takes, Lacks, ReadsFormula, is_plain, AreShort, NoFormula}
use Rattle.component_text.proofs.Looser.{action_looser, loose}
use Rattle.std.proofs.lemmas.List.{append_cancel_right}
use Rattle.component_text.proofs.Shorts.{short_append, run_short, before_label}
use Rattle.component_text.proofs.Parts.{Good, Ended, run_ends, good_one, good_run, good_nothing, good_then, good_of, good_choice, good_many}
use Rattle.component_text.proofs.Placed.{Leaves, not_ended, leaves_one, leaves_nothing, leaves_formula, leaves_of, leaves_then, leaves_choice, leaves_many}
use Rattle.component_text.proofs.Refusing.{CanSkip, skip_begins, left_out, both_skip, of_skip, other_skip, of_begins, of_nowhere, taken_begins, taken_nowhere, taken_wrong, other_nowhere, other_wrong}
use Rattle.component_text.proofs.Formulas.{run_begins, opened_refused, opened_passes, label_refused, label_passes}
use Rattle.component_text.proofs.Whole.{same_word}
use Rattle.component_text.proofs.Stops.{then_first, then_later, of_stops, one_missing, one_stops, one_missing_first, taken_reads, other_reads}
use Rattle.component_text.proofs.Components.{some_ref, some_name, some_name_is, name_alone, word_alone, word_there, loose_placed, placed_few, good_names, good_some_names, good_labelled, good_lines, leaves_name, leaves_names, leaves_some_names, leaves_labelled, leaves_lines, behind_shorter, good_section, leaves_section, section_skip}

-- a structural word
either_alone : (v w : List ℕ) → bytes_eq v (codes "variant") ≡ false → bytes_eq w (codes "variant") ≡ false → (y : Mark) → either v w y ≡ true → NoFormula (y ∷ [])
either_alone v w p q y e = go (is_word_mark v y) refl e
  where
    go : (b : Bool) → is_word_mark v y ≡ b → (b || is_word_mark w y) ≡ true → NoFormula (y ∷ [])
    go true is h = word_alone v p y is
    go false is h = word_alone w q y h

word_at_is : (w : List ℕ) (y : Mark) (p : ℕ) → word_at w y ≡ Some p → is_word_mark w y ≡ true
word_at_is w (label l q) p e = cc
word_at_is w (plain x) p e = cc
word_at_is w (word v q) p e = go (bytes_eq v w) e
  where
    go : (b : Bool) → cond {A = Option ℕ} b (Some q) None ≡ Some p → b ≡ true
    go true e = refl
    go false e = cc

pub word_at_alone : (w : List ℕ) → bytes_eq w (codes "variant") ≡ false → (y : Mark) (p : ℕ) → word_at w y ≡ Some p → NoFormula (y ∷ [])
word_at_alone w isnt y p e = word_alone w isnt y (word_at_is w y p e)

pub word_taken : (w : List ℕ) (s m : List Mark) → Takes (is_word_mark w) s true m → (p : ℕ) × One (word_at w) limits s p m
word_taken w s m k =
    let is = word_there w s m k in
    (is.0, record { mark = word w is.0; there = is.1; is = ap (λ b. cond {A = Option ℕ} b (Some is.0) None) (same_word w) })

pub word_lacks : (w : List ℕ) (s m : List Mark) → Takes (is_word_mark w) s false m → (m ≡ s) × Lacks (word_at w) s
word_lacks w s m k = (k.0, go s k.1)
  where
    go : (s : List Mark) → is_at (is_word_mark w) s ≡ false → Lacks (word_at w) s
    go [] e = tt
    go (word v p ∷ s) e = ap (λ b. cond {A = Option ℕ} b (Some p) None) e
    go (label l p ∷ s) e = refl
    go (plain x ∷ s) e = refl

-- a part that may be absent
module _ {X : Type 0} (test : Mark → Bool) (absent : X) (P : Bounds → List Mark → X → List Mark → Type 0) where
  good_optional : Good P → test end_mark ≡ false → Good (Choice test P (Nothing absent))
  good_optional p e = good_choice test P (Nothing absent) p (good_nothing absent) e

  skip_optional : test end_mark ≡ false → CanSkip (Choice test P (Nothing absent))
  skip_optional e = other_skip test P (Nothing absent) e (left_out (Nothing absent) absent (λ b tail. record { is = refl; behind = refl }))

  leaves_optional : ((y : Mark) → test y ≡ true → NoFormula (y ∷ [])) → Good P → Leaves P → Leaves (Choice test P (Nothing absent))
  leaves_optional words good p = leaves_choice test P (Nothing absent) good words p (leaves_nothing absent)

-- "refines" name
pub good_refines : Good Refines
good_refines = good_optional (is_word_mark (codes "refines")) None (Of Some (One reference)) (good_of Some (One reference) (good_one reference)) refl

skip_refines : CanSkip Refines
skip_refines = skip_optional (is_word_mark (codes "refines")) None (Of Some (One reference)) refl

leaves_refines : Leaves Refines
leaves_refines = leaves_optional (is_word_mark (codes "refines")) None (Of Some (One reference)) (word_alone (codes "refines") refl) (good_of Some (One reference) (good_one reference)) (leaves_of Some (One reference) leaves_name)

pub refines_none : (s m k : List Mark) → Takes (is_word_mark (codes "refines")) s true m → (k ≡ m) × Lacks reference m → RefusesAt Refines s k
refines_none s m k t h =
    taken_reads (is_word_mark (codes "refines")) (Of Some (One reference)) (Nothing None) (word_alone (codes "refines") refl) s m k (Err stop.Unexpected) t
    (of_stops Some (One reference) m k stop.Unexpected (one_missing reference m k some_name some_ref h some_name_is))

pub refines_read : (s m rest : List Mark) (n : Ref) → Takes (is_word_mark (codes "refines")) s true m → One reference limits m n rest → Refines limits s (Some n) rest
refines_read s m rest n t h = taken t.0 m t.1 t.2 (record { from = n; is = refl; part = h })

-- "variant"
pub good_expression : Good Expression
good_expression = good_run (IsPlaced hole.Expression) (loose_placed hole.Expression)

pub good_variant_expression : Good VariantExpression
good_variant_expression = good_choice is_a_label Expression Expression good_expression good_expression refl

pub good_variant : Good Variant
good_variant = good_optional (is_word_mark (codes "variant")) None (Of variant_of VariantExpression) (good_of variant_of VariantExpression good_variant_expression) refl

skip_variant : CanSkip Variant
skip_variant = skip_optional (is_word_mark (codes "variant")) None (Of variant_of VariantExpression) refl

expression_ended : (b : Bounds) (s : List Mark) (x : Raw × ℕ) (m : List Mark) → VariantExpression b s x m → Ended m
expression_ended b s x m (taken y t e is h) = subst Ended (sym h.behind) (run_ends t)
expression_ended b s x m (other isnt h) = subst Ended (sym h.behind) (run_ends s)

variant_free : (b : Bounds) (front m : List Mark) (x : Option RawVariant) → Variant b (front ++ m) x m → is_at is_plain m ≡ true → NoFormula front
variant_free b front m x (taken y t d is h) e = absurd (not_ended m (expression_ended b t h.from m h.part) e)
variant_free b front m x (other isnt h) e = (leaves_nothing None).free b front m x h e

-- the expression behind `variant`, or behind its label
variant_short : (front m : List Mark) (x : Option RawVariant) → Variant limits (front ++ m) x m → AreShort front m
variant_short front m x (taken y t d is h) = behind front y t d h.part
  where
    behind : (front : List Mark) (y : Mark) (t : List Mark) → front ++ m ≡ y ∷ t → VariantExpression limits t h.from m → AreShort front m
    behind front y t d (other isnt k) = run_short (IsPlaced hole.Expression) (placed_few hole.Expression) y front t m h.from k d
    behind front y t d (taken l u e is' k) =
        let f = good_expression.split limits u h.from m k in
        let all : front ++ m ≡ (y ∷ (l ∷ f.0)) ++ m = d ∙ ap (λ v. y ∷ v) (e ∙ ap (λ v. l ∷ v) f.1) in
        let is_front : front ≡ (y ∷ []) ++ (l ∷ f.0) = append_cancel_right front (y ∷ (l ∷ f.0)) m all in
        subst (λ v. AreShort v m) (sym is_front)
        (short_append (y ∷ []) (l ∷ f.0) m (before_label y l (f.0 ++ m) is')
        (run_short (IsPlaced hole.Expression) (placed_few hole.Expression) l (l ∷ f.0) u m h.from k (ap (λ v. l ∷ v) (sym f.1))))
variant_short front m x (other isnt h) = (leaves_nothing None).short front m x h

leaves_variant : Leaves Variant
leaves_variant = record { free = variant_free; short = variant_short }

not_label : (b : Bounds) (s : List Mark) (x : Raw × ℕ) (m : List Mark) → Expression b s x m → is_at is_a_label m ≡ false → is_at is_a_label s ≡ false
not_label b [] x m h e = refl
not_label b (plain y ∷ s) x m h e = refl
not_label b (word w p ∷ s) x m h e = refl
not_label b (label l p ∷ s) x m h e = let contra : true ≡ false = sym (ap (is_at is_a_label) h.behind) ∙ e in cc

abbrev IsExpression : Bounds → List Item → (Raw × ℕ) → Type 0
IsExpression = IsPlaced hole.Expression

unlabelled : (b : Bounds) (f : List Item) → BeginsOne (IsExpression b) f → BeginsIn b VariantExpression (map plain f)
unlabelled b f c =
    let k = run_begins IsExpression b f c in
    record { more = k.more; value = k.value; goes_on = λ tail. other (not_label b (map plain f ++ (k.more ++ end_mark ∷ tail)) k.value (end_mark ∷ tail) (k.goes_on tail) refl) (k.goes_on tail) }

variant_opens : (y : Mark) → is_word_mark (codes "variant") y ≡ true → opens_formula y ≡ true
variant_opens (word w p) e = e
variant_opens (label l p) e = cc
variant_opens (plain x) e = cc

label_opens_one : (y : Mark) → is_a_label y ≡ true → opens_formula y ≡ true
label_opens_one (label l p) e = refl
label_opens_one (word w p) e = cc
label_opens_one (plain x) e = cc

module _ (s m k : List Mark) (v : Takes (is_word_mark (codes "variant")) s true m) where
  abbrev OfVariant : Bounds → List Mark → Option RawVariant → List Mark → Type 0
  OfVariant = Of variant_of VariantExpression

  module _ (l : Takes is_a_label m true k) where
    labelled_begins : (b : Bounds) (f : List Item) → BeginsOne (IsExpression b) f → BeginsIn b Variant (v.0 ∷ (l.0 ∷ map plain f))
    labelled_begins b f c =
        taken_begins (is_word_mark (codes "variant")) OfVariant (Nothing None) b v.0 (l.0 ∷ map plain f) v.2
        (of_begins variant_of VariantExpression b (l.0 ∷ map plain f) (taken_begins is_a_label Expression Expression b l.0 (map plain f) l.2 (run_begins IsExpression b f c)))

    labelled_nowhere : (b : Bounds) (before rest : List Mark) → k ≡ before ++ rest → NoneHasIn b Expression before rest → NoneHasIn b Variant (v.0 ∷ (l.0 ∷ before)) rest
    labelled_nowhere b before rest e n =
        taken_nowhere (is_word_mark (codes "variant")) OfVariant (Nothing None) b v.0 (l.0 ∷ before) rest v.2
        (of_nowhere variant_of VariantExpression b (l.0 ∷ before) rest (taken_nowhere is_a_label Expression Expression b l.0 before rest l.2 n))

    labelled_wrong : ((x : Raw × ℕ) → IsExpression limits (token_run k) x → ⊥) → (z : Option RawVariant) (r : List Mark) → Variant limits s z r → ⊥
    labelled_wrong isnt =
        taken_wrong (is_word_mark (codes "variant")) OfVariant (Nothing None) s m v.0 v.1 v.2
        (λ z r h. taken_wrong is_a_label Expression Expression m k l.0 l.1 l.2 (λ x t p. isnt x p.spelled) h.from r h.part)

    labelled_there : s ≡ (v.0 ∷ []) ++ l.0 ∷ k
    labelled_there = v.1 ∙ ap (λ t. v.0 ∷ t) l.1

    pub labelled_variant_stops : (rest : List Mark) (e : Stop) → ReadsFormula IsExpression k (Err e) rest → ReadsOrStops Variant s (Err e) rest
    labelled_variant_stops rest stop.Unexpected h =
        opened_refused IsExpression Variant (v.0 ∷ []) l.0 s k labelled_there (label_opens_one l.0 l.2) (λ t. before_label v.0 l.0 t l.2) labelled_begins labelled_nowhere labelled_wrong rest h.0 h.1 h.2
    labelled_variant_stops rest stop.TooLarge h =
        opened_passes IsExpression Variant (v.0 ∷ []) l.0 s k labelled_there (label_opens_one l.0 l.2) (λ t. before_label v.0 l.0 t l.2) labelled_begins labelled_nowhere labelled_wrong rest h.0 h.1 h.2
    labelled_variant_stops rest stop.OutOfMemory h = tt

  module _ (isnt_label : is_at is_a_label m ≡ false) where
    bare_begins : (b : Bounds) (f : List Item) → BeginsOne (IsExpression b) f → BeginsIn b Variant (v.0 ∷ map plain f)
    bare_begins b f c =
        taken_begins (is_word_mark (codes "variant")) OfVariant (Nothing None) b v.0 (map plain f) v.2 (of_begins variant_of VariantExpression b (map plain f) (unlabelled b f c))

    bare_nowhere : (b : Bounds) (before rest : List Mark) → m ≡ before ++ rest → NoneHasIn b Expression before rest → NoneHasIn b Variant (v.0 ∷ before) rest
    bare_nowhere b before rest e n =
        taken_nowhere (is_word_mark (codes "variant")) OfVariant (Nothing None) b v.0 before rest v.2
        (of_nowhere variant_of VariantExpression b before rest (other_nowhere is_a_label Expression Expression b m before rest e isnt_label n))

    bare_wrong : ((x : Raw × ℕ) → IsExpression limits (token_run m) x → ⊥) → (z : Option RawVariant) (r : List Mark) → Variant limits s z r → ⊥
    bare_wrong isnt =
        taken_wrong (is_word_mark (codes "variant")) OfVariant (Nothing None) s m v.0 v.1 v.2
        (λ z r h. other_wrong is_a_label Expression Expression m isnt_label (λ x t p. isnt x p.spelled) h.from r h.part)

    bare_variant_stops : (rest : List Mark) (e : Stop) → ReadsFormula IsExpression m (Err e) rest → ReadsOrStops Variant s (Err e) rest
    bare_variant_stops rest stop.Unexpected h = opened_refused IsExpression Variant [] v.0 s m v.1 (variant_opens v.0 v.2) (λ t. tt) bare_begins bare_nowhere bare_wrong rest h.0 h.1 h.2
    bare_variant_stops rest stop.TooLarge h = opened_passes IsExpression Variant [] v.0 s m v.1 (variant_opens v.0 v.2) (λ t. tt) bare_begins bare_nowhere bare_wrong rest h.0 h.1 h.2
    bare_variant_stops rest stop.OutOfMemory h = tt

  pub variant_stops : (rest : List Mark) (b : Bool) (e : Stop) → Takes is_a_label m b k → ReadsFormula IsExpression k (Err e) rest → ReadsOrStops Variant s (Err e) rest
  variant_stops rest true e l h = labelled_variant_stops l rest e h
  variant_stops rest false e l h = bare_variant_stops l.1 rest e (subst (λ t. ReadsFormula IsExpression t (Err e) rest) l.0 h)

  pub variant_read : (rest : List Mark) (b : Bool) (x : Raw × ℕ) → Takes is_a_label m b k → FormulaRun IsExpression limits k x rest → Variant limits s (variant_of x) rest
  variant_read rest true x l h = taken v.0 m v.1 v.2 (record { from = x; is = refl; part = taken l.0 k l.1 l.2 h })
  variant_read rest false x l h = taken v.0 m v.1 v.2 (record { from = x; is = refl; part = other l.1 (subst (λ t. Expression limits t x rest) l.0 h) })

-- "extends" name | "refines" name {name}
abbrev Extended : Bounds → List Mark → Abstracts → List Mark → Type 0
Extended = Of extending (One reference)

pub good_refined_names : Good (SomeNamesBehind (codes "refines"))
good_refined_names = good_section (is_word_mark (codes "refines")) SomeNames (word_alone (codes "refines") refl) good_some_names refl

pub good_references : Good References
good_references = good_choice (is_word_mark (codes "extends")) Extended (Of refining (SomeNamesBehind (codes "refines"))) (good_of extending (One reference) (good_one reference))
    (good_of refining (SomeNamesBehind (codes "refines")) good_refined_names) refl

skip_references : CanSkip References
skip_references = other_skip (is_word_mark (codes "extends")) Extended (Of refining (SomeNamesBehind (codes "refines"))) refl
    (of_skip refining (SomeNamesBehind (codes "refines")) (section_skip (is_word_mark (codes "refines")) SomeNames (word_alone (codes "refines") refl) refl))

leaves_references : Leaves References
leaves_references = leaves_choice (is_word_mark (codes "extends")) Extended (Of refining (SomeNamesBehind (codes "refines"))) (good_of extending (One reference) (good_one reference)) (word_alone (codes "extends") refl)
    (leaves_of extending (One reference) leaves_name)
    (leaves_of refining (SomeNamesBehind (codes "refines")) (leaves_section (is_word_mark (codes "refines")) SomeNames (word_alone (codes "refines") refl) good_some_names leaves_some_names))

pub extended_none : (s m k : List Mark) → Takes (is_word_mark (codes "extends")) s true m → (k ≡ m) × Lacks reference m → RefusesAt References s k
extended_none s m k t h =
    taken_reads (is_word_mark (codes "extends")) Extended (Of refining (SomeNamesBehind (codes "refines"))) (word_alone (codes "extends") refl) s m k (Err stop.Unexpected) t
    (of_stops extending (One reference) m k stop.Unexpected (one_missing reference m k some_name some_ref h some_name_is))

pub extended_read : (s m rest : List Mark) (n : Ref) → Takes (is_word_mark (codes "extends")) s true m → One reference limits m n rest → References limits s (record { extended = true; names = n ∷ [] }) rest
extended_read s m rest n t h = taken t.0 m t.1 t.2 (record { from = n; is = refl; part = h })

pub refined_stops : (s m rest : List Mark) (e : Stop) → Takes (is_word_mark (codes "extends")) s false m → ReadsOrStops (SomeNamesBehind (codes "refines")) m (Err e) rest → ReadsOrStops References s (Err e) rest
refined_stops s m rest e t h =
    other_reads (is_word_mark (codes "extends")) Extended (Of refining (SomeNamesBehind (codes "refines"))) (skip_begins References skip_references parts) s m rest (Err e) t
    (of_stops refining (SomeNamesBehind (codes "refines")) m rest e h)

pub refined_read : (s m rest : List Mark) (ns : List Ref) → Takes (is_word_mark (codes "extends")) s false m → SomeNamesBehind (codes "refines") limits m ns rest → References limits s (record { extended = false; names = ns }) rest
refined_read s m rest ns t h = other t.1 (subst (λ u. Of refining (SomeNamesBehind (codes "refines")) limits u (refining ns) rest) t.0 (record { from = ns; is = refl; part = h }))

-- guards, witnesses and actions
labelled_shorter : {X : Type 0} (F : Bounds → List Item → X → Type 0) (b : Bounds) (s : List Mark) (x : (List ℕ × ℕ) × X) (m : List Mark) → Then (One label_at) (FormulaRun F) b s x m → length m < length s
labelled_shorter F b s x m h = omega (arith, ap length h.first.there, ap length h.second.behind, behind_shorter h.middle)

pub witness_takes : (b : Bounds) (s : List Mark) (x : RawLabelled) (m : List Mark) → LabelledPart false b s x m → length m < length s
witness_takes b s x m h = labelled_shorter (IsPlaced hole.Predicate) b s h.from m h.part

pub good_witness : Good (LabelledPart false)
good_witness = good_labelled false

pub good_witnesses : Good Witnesses
good_witnesses = good_many is_a_label (LabelledPart false) good_witness refl witness_takes

pub leaves_witness : Leaves (LabelledPart false)
leaves_witness = leaves_labelled false

leaves_witnesses : Leaves Witnesses
leaves_witnesses = leaves_many is_a_label (LabelledPart false) good_witness good_witnesses.split leaves_witness

pub step_takes : (b : Bounds) (s : List Mark) (x : RawStep) (m : List Mark) → ActionLine b s x m → length m < length s
step_takes b s x m h = labelled_shorter IsActionWithin b s h.from m h.part

pub good_step : Good ActionLine
good_step = good_of labelled_step (Then (One label_at) (FormulaRun IsActionWithin)) (good_then (One label_at) (FormulaRun IsActionWithin) (good_one label_at) (good_run IsActionWithin (loose SpellsAction action_looser)))

pub good_steps : Good ManySteps
good_steps = good_many is_a_label ActionLine good_step refl step_takes

pub leaves_step : Leaves ActionLine
leaves_step = leaves_formula labelled_step label_at IsActionWithin (λ f a k. k.1)

leaves_steps : Leaves ManySteps
leaves_steps = leaves_many is_a_label ActionLine good_step good_steps.split leaves_step

pub step_stops : (s m rest : List Mark) (x : List ℕ × ℕ) (e : Stop) → One label_at limits s x m → ReadsFormula IsActionWithin m (Err e) rest → ReadsOrStops ActionLine s (Err e) rest
step_stops s m rest x stop.Unexpected o h = of_stops labelled_step (Then (One label_at) (FormulaRun IsActionWithin)) s rest stop.Unexpected (label_refused IsActionWithin s m x o rest h.0 h.1 h.2)
step_stops s m rest x stop.TooLarge o h = of_stops labelled_step (Then (One label_at) (FormulaRun IsActionWithin)) s rest stop.TooLarge (label_passes IsActionWithin s m x o rest h.0 h.1 h.2)
step_stops s m rest x stop.OutOfMemory o h = tt

pub step_read : (s m rest : List Mark) (x : List ℕ × ℕ) (a : RawAction) → One label_at limits s x m → FormulaRun IsActionWithin limits m a rest → ActionLine limits s (labelled_step (x, a)) rest
step_read s m rest x a o h = record { from = (x, a); is = refl; part = record { middle = m; first = o; second = h } }

pub good_guards : Good Guards
good_guards = good_optional (either (codes "where") (codes "when")) [] Lines good_lines refl

skip_guards : CanSkip Guards
skip_guards = skip_optional (either (codes "where") (codes "when")) [] Lines refl

leaves_guards : Leaves Guards
leaves_guards = leaves_optional (either (codes "where") (codes "when")) [] Lines (either_alone (codes "where") (codes "when") refl refl) good_lines leaves_lines

pub good_with : Good With
good_with = good_optional (is_word_mark (codes "with")) [] Witnesses good_witnesses refl

skip_with : CanSkip With
skip_with = skip_optional (is_word_mark (codes "with")) [] Witnesses refl

leaves_with : Leaves With
leaves_with = leaves_optional (is_word_mark (codes "with")) [] Witnesses (word_alone (codes "with") refl) good_witnesses leaves_witnesses

pub good_actions : Good Actions
good_actions = good_optional (either (codes "then") (codes "begin")) [] ManySteps good_steps refl

skip_actions : CanSkip Actions
skip_actions = skip_optional (either (codes "then") (codes "begin")) [] ManySteps refl

leaves_actions : Leaves Actions
leaves_actions = leaves_optional (either (codes "then") (codes "begin")) [] ManySteps (either_alone (codes "then") (codes "begin") refl refl) good_steps leaves_steps

pub guards_read : (s m rest : List Mark) (r : Result (List RawLabelled) Stop) → Takes (either (codes "where") (codes "when")) s true m → ReadsOrStops Lines m r rest → ReadsOrStops Guards s r rest
guards_read = taken_reads (either (codes "where") (codes "when")) Lines (Nothing []) (either_alone (codes "where") (codes "when") refl refl)

pub with_reads : (s m rest : List Mark) (r : Result (List RawLabelled) Stop) → Takes (is_word_mark (codes "with")) s true m → ReadsOrStops Witnesses m r rest → ReadsOrStops With s r rest
with_reads = taken_reads (is_word_mark (codes "with")) Witnesses (Nothing []) (word_alone (codes "with") refl)

pub actions_read : (s m rest : List Mark) (r : Result (List RawStep) Stop) → Takes (either (codes "then") (codes "begin")) s true m → ReadsOrStops ManySteps m r rest → ReadsOrStops Actions s r rest
actions_read = taken_reads (either (codes "then") (codes "begin")) ManySteps (Nothing []) (either_alone (codes "then") (codes "begin") refl refl)

-- an event, from each clause on
abbrev EndWord : Bounds → List Mark → ℕ → List Mark → Type 0
EndWord = One (word_at (codes "end"))

abbrev Any : Bounds → List Mark → List Ref → List Mark → Type 0
Any = NamesBehind (codes "any")

abbrev FromActions : Bounds → List Mark → (List RawStep × ℕ) → List Mark → Type 0
FromActions = Then Actions EndWord

abbrev FromWith : Bounds → List Mark → (List RawLabelled × (List RawStep × ℕ)) → List Mark → Type 0
FromWith = Then With FromActions

abbrev FromGuards : Bounds → List Mark → (List RawLabelled × (List RawLabelled × (List RawStep × ℕ))) → List Mark → Type 0
FromGuards = Then Guards FromWith

abbrev FromAny : Bounds → List Mark → (List Ref × (List RawLabelled × (List RawLabelled × (List RawStep × ℕ)))) → List Mark → Type 0
FromAny = Then Any FromGuards

abbrev FromReferences : Bounds → List Mark → (Abstracts × (List Ref × (List RawLabelled × (List RawLabelled × (List RawStep × ℕ))))) → List Mark → Type 0
FromReferences = Then References FromAny

abbrev FromName : Bounds → List Mark → (Ref × (Abstracts × (List Ref × (List RawLabelled × (List RawLabelled × (List RawStep × ℕ)))))) → List Mark → Type 0
FromName = Then (One reference) FromReferences

abbrev FromEvent : Bounds → List Mark → (ℕ × (Ref × (Abstracts × (List Ref × (List RawLabelled × (List RawLabelled × (List RawStep × ℕ))))))) → List Mark → Type 0
FromEvent = Then (One (word_at (codes "event"))) FromName

pub good_any : Good Any
good_any = good_section (is_word_mark (codes "any")) Names (word_alone (codes "any") refl) good_names refl

leaves_any : Leaves Any
leaves_any = leaves_section (is_word_mark (codes "any")) Names (word_alone (codes "any") refl) good_names leaves_names

skip_end : CanSkip EndWord
skip_end = record { fill = end_mark ∷ []; value = 0; behind = λ tail. end_mark ∷ tail; starts = λ tail. refl; skips = λ b tail. record { mark = end_mark; there = refl; is = refl } }

skip_from_actions : CanSkip FromActions
skip_from_actions = both_skip Actions EndWord skip_actions skip_end

skip_from_with : CanSkip FromWith
skip_from_with = both_skip With FromActions skip_with skip_from_actions

skip_from_guards : CanSkip FromGuards
skip_from_guards = both_skip Guards FromWith skip_guards skip_from_with

skip_from_any : CanSkip FromAny
skip_from_any = both_skip Any FromGuards (section_skip (is_word_mark (codes "any")) Names (word_alone (codes "any") refl) refl) skip_from_guards

skip_from_references : CanSkip FromReferences
skip_from_references = both_skip References FromAny skip_references skip_from_any

pub good_from_actions : Good FromActions
good_from_actions = good_then Actions EndWord good_actions (good_one (word_at (codes "end")))

pub good_from_with : Good FromWith
good_from_with = good_then With FromActions good_with good_from_actions

pub good_from_guards : Good FromGuards
good_from_guards = good_then Guards FromWith good_guards good_from_with

pub good_from_any : Good FromAny
good_from_any = good_then Any FromGuards good_any good_from_guards

pub good_from_references : Good FromReferences
good_from_references = good_then References FromAny good_references good_from_any

pub good_from_name : Good FromName
good_from_name = good_then (One reference) FromReferences (good_one reference) good_from_references

pub good_event_body : (c : Convergence) → Good (EventBody c)
good_event_body c = good_of (event_of c) FromEvent (good_then (One (word_at (codes "event"))) FromName (good_one (word_at (codes "event"))) good_from_name)

leaves_end : Leaves EndWord
leaves_end = leaves_one (word_at (codes "end")) (word_at_alone (codes "end") refl)

leaves_event_body : (c : Convergence) → Leaves (EventBody c)
leaves_event_body c =
    leaves_of (event_of c) FromEvent
    (leaves_then (One (word_at (codes "event"))) FromName (good_one (word_at (codes "event"))) good_from_name (leaves_one (word_at (codes "event")) (word_at_alone (codes "event") refl))
    (leaves_then (One reference) FromReferences (good_one reference) good_from_references leaves_name
    (leaves_then References FromAny good_references good_from_any leaves_references
    (leaves_then Any FromGuards good_any good_from_guards leaves_any
    (leaves_then Guards FromWith good_guards good_from_with leaves_guards
    (leaves_then With FromActions good_with good_from_actions leaves_with
    (leaves_then Actions EndWord good_actions (good_one (word_at (codes "end"))) leaves_actions leaves_end)))))))

-- an event that can stand anywhere
abbrev event_mark : Mark
event_mark = word (codes "event") 0

event_mark_is : word_at (codes "event") event_mark ≡ Some 0
event_mark_is = refl

name_begins : Begins FromName []
name_begins = record {
  more = some_name ∷ skip_from_references.fill;
  value = (some_ref, skip_from_references.value);
  goes_on = λ tail. record { middle = skip_from_references.fill ++ end_mark ∷ tail; first = record { mark = some_name; there = refl; is = some_name_is }; second = skip_from_references.skips parts tail };
}

abbrev event_body_begins : (c : Convergence) → Begins (EventBody c) []
event_body_begins c = record {
  more = event_mark ∷ name_begins.more;
  value = event_of c (0, name_begins.value);
  goes_on = λ tail. record {
    from = (0, name_begins.value);
    is = refl;
    part = record { middle = name_begins.more ++ end_mark ∷ tail; first = record { mark = event_mark; there = refl; is = event_mark_is }; second = name_begins.goes_on tail };
  };
}

module _ (c : Convergence) where
  pub event_missing : (s m : List Mark) → Takes (is_word_mark (codes "event")) s false m → RefusesAt (EventBody c) s m
  event_missing s m t = of_stops (event_of c) FromEvent s m stop.Unexpected (one_missing_first (word_at (codes "event")) FromName s m event_mark 0 (word_lacks (codes "event") s m t) event_mark_is name_begins)

  module _ (s a : List Mark) (t : Takes (is_word_mark (codes "event")) s true a) where
    behind_event : (rest : List Mark) (e : Stop) → ReadsOrStops FromName a (Err e) rest → ReadsOrStops (EventBody c) s (Err e) rest
    behind_event rest e h =
        let w = word_taken (codes "event") s a t in
        of_stops (event_of c) FromEvent s rest e (one_stops (word_at (codes "event")) FromName (word_at_alone (codes "event") refl) s a rest w.0 e w.1 h)

    pub event_name_missing : (m : List Mark) → (m ≡ a) × Lacks reference a → RefusesAt (EventBody c) s m
    event_name_missing m h = behind_event m stop.Unexpected (one_missing_first reference FromReferences a m some_name some_ref h some_name_is (skip_begins FromReferences skip_from_references parts))

    module _ (b : List Mark) (n : Ref) (name : One reference limits a n b) where
      behind_event_name : (rest : List Mark) (e : Stop) → ReadsOrStops FromReferences b (Err e) rest → ReadsOrStops (EventBody c) s (Err e) rest
      behind_event_name rest e h = behind_event rest e (one_stops reference FromReferences name_alone a b rest n e name h)

      pub references_stop : (rest : List Mark) (e : Stop) → ReadsOrStops References b (Err e) rest → ReadsOrStops (EventBody c) s (Err e) rest
      references_stop rest e h = behind_event_name rest e (then_first References FromAny skip_from_any b rest e h)

      module _ (d : List Mark) (rs : Abstracts) (references : References limits b rs d) where
        behind_references : (rest : List Mark) (e : Stop) → ReadsOrStops FromAny d (Err e) rest → ReadsOrStops (EventBody c) s (Err e) rest
        behind_references rest e h = behind_event_name rest e (then_later References FromAny good_references leaves_references skip_from_any b d rest rs e references h)

        pub any_stops : (rest : List Mark) (e : Stop) → ReadsOrStops Any d (Err e) rest → ReadsOrStops (EventBody c) s (Err e) rest
        any_stops rest e h = behind_references rest e (then_first Any FromGuards skip_from_guards d rest e h)

        module _ (f : List Mark) (ps : List Ref) (any : Any limits d ps f) where
          behind_any : (rest : List Mark) (e : Stop) → ReadsOrStops FromGuards f (Err e) rest → ReadsOrStops (EventBody c) s (Err e) rest
          behind_any rest e h = behind_references rest e (then_later Any FromGuards good_any leaves_any skip_from_guards d f rest ps e any h)

          pub guards_stop : (rest : List Mark) (e : Stop) → ReadsOrStops Guards f (Err e) rest → ReadsOrStops (EventBody c) s (Err e) rest
          guards_stop rest e h = behind_any rest e (then_first Guards FromWith skip_from_with f rest e h)

          module _ (g : List Mark) (gs : List RawLabelled) (guards : Guards limits f gs g) where
            behind_guards : (rest : List Mark) (e : Stop) → ReadsOrStops FromWith g (Err e) rest → ReadsOrStops (EventBody c) s (Err e) rest
            behind_guards rest e h = behind_any rest e (then_later Guards FromWith good_guards leaves_guards skip_from_with f g rest gs e guards h)

            pub with_stops : (rest : List Mark) (e : Stop) → ReadsOrStops With g (Err e) rest → ReadsOrStops (EventBody c) s (Err e) rest
            with_stops rest e h = behind_guards rest e (then_first With FromActions skip_from_actions g rest e h)

            module _ (i : List Mark) (ws : List RawLabelled) (witnesses : With limits g ws i) where
              behind_with : (rest : List Mark) (e : Stop) → ReadsOrStops FromActions i (Err e) rest → ReadsOrStops (EventBody c) s (Err e) rest
              behind_with rest e h = behind_guards rest e (then_later With FromActions good_with leaves_with skip_from_actions g i rest ws e witnesses h)

              pub actions_stop : (rest : List Mark) (e : Stop) → ReadsOrStops Actions i (Err e) rest → ReadsOrStops (EventBody c) s (Err e) rest
              actions_stop rest e h = behind_with rest e (then_first Actions EndWord skip_end i rest e h)

              module _ (j : List Mark) (steps : List RawStep) (actions : Actions limits i steps j) where
                pub event_unended : (m : List Mark) → Takes (is_word_mark (codes "end")) j false m → RefusesAt (EventBody c) s m
                event_unended m u =
                    behind_with m stop.Unexpected (then_later Actions EndWord good_actions leaves_actions skip_end i j m steps stop.Unexpected actions
                    (one_missing (word_at (codes "end")) j m end_mark 0 (word_lacks (codes "end") j m u) refl))

                pub event_body_read : (m : List Mark) → Takes (is_word_mark (codes "end")) j true m →
                    EventBody c limits s (record { name = n; convergence = c; extended = rs.extended; refines = rs.names; params = ps; guards = gs; witnesses = ws; actions = steps }) m
                event_body_read m u =
                    let w = word_taken (codes "event") s a t in
                    let last = word_taken (codes "end") j m u in
                    record {
                      from = (w.0, (n, (rs, (ps, (gs, (ws, (steps, last.0)))))));
                      is = refl;
                      part = record {
                        middle = a;
                        first = w.1;
                        second = record {
                          middle = b;
                          first = name;
                          second = record {
                            middle = d;
                            first = references;
                            second = record {
                              middle = f;
                              first = any;
                              second = record { middle = g; first = guards; second = record { middle = i; first = witnesses; second = record { middle = j; first = actions; second = last.1 } } };
                            };
                          };
                        };
                      };
                    }

-- "ordinary", "convergent" or "anticipated", and the event
abbrev pub Unconvergent : Bounds → List Mark → RawEvent → List Mark → Type 0
Unconvergent = Choice (is_word_mark (codes "anticipated")) (EventBody Anticipated) (EventBody Ordinary)

abbrev pub Unordinary : Bounds → List Mark → RawEvent → List Mark → Type 0
Unordinary = Choice (is_word_mark (codes "convergent")) (EventBody Convergent) Unconvergent

pub good_unconvergent : Good Unconvergent
good_unconvergent = good_choice (is_word_mark (codes "anticipated")) (EventBody Anticipated) (EventBody Ordinary) (good_event_body Anticipated) (good_event_body Ordinary) refl

pub good_unordinary : Good Unordinary
good_unordinary = good_choice (is_word_mark (codes "convergent")) (EventBody Convergent) Unconvergent (good_event_body Convergent) good_unconvergent refl

pub good_event : Good EventPart
good_event = good_choice (is_word_mark (codes "ordinary")) (EventBody Ordinary) Unordinary (good_event_body Ordinary) good_unordinary refl

pub leaves_event : Leaves EventPart
leaves_event =
    leaves_choice (is_word_mark (codes "ordinary")) (EventBody Ordinary) Unordinary (good_event_body Ordinary) (word_alone (codes "ordinary") refl) (leaves_event_body Ordinary)
    (leaves_choice (is_word_mark (codes "convergent")) (EventBody Convergent) Unconvergent (good_event_body Convergent) (word_alone (codes "convergent") refl) (leaves_event_body Convergent)
    (leaves_choice (is_word_mark (codes "anticipated")) (EventBody Anticipated) (EventBody Ordinary) (good_event_body Anticipated) (word_alone (codes "anticipated") refl) (leaves_event_body Anticipated) (leaves_event_body Ordinary)))

unconvergent_begins : Begins Unconvergent []
unconvergent_begins = record { more = (event_body_begins Ordinary).more; value = (event_body_begins Ordinary).value; goes_on = λ tail. other refl ((event_body_begins Ordinary).goes_on tail) }

unordinary_begins : Begins Unordinary []
unordinary_begins = record { more = (event_body_begins Ordinary).more; value = (event_body_begins Ordinary).value; goes_on = λ tail. other refl (other refl ((event_body_begins Ordinary).goes_on tail)) }

event_begins : Begins EventPart []
event_begins = record { more = (event_body_begins Ordinary).more; value = (event_body_begins Ordinary).value; goes_on = λ tail. other refl (other refl (other refl ((event_body_begins Ordinary).goes_on tail))) }

pub ordinary_reads : (s m rest : List Mark) (r : Result RawEvent Stop) → Takes (is_word_mark (codes "ordinary")) s true m → ReadsOrStops (EventBody Ordinary) m r rest → ReadsOrStops EventPart s r rest
ordinary_reads = taken_reads (is_word_mark (codes "ordinary")) (EventBody Ordinary) Unordinary (word_alone (codes "ordinary") refl)

module _ (s a : List Mark) (t : Takes (is_word_mark (codes "ordinary")) s false a) where
  unordinary_reads : (rest : List Mark) (r : Result RawEvent Stop) → ReadsOrStops Unordinary a r rest → ReadsOrStops EventPart s r rest
  unordinary_reads rest r h = other_reads (is_word_mark (codes "ordinary")) (EventBody Ordinary) Unordinary event_begins s a rest r t h

  pub convergent_reads : (m rest : List Mark) (r : Result RawEvent Stop) → Takes (is_word_mark (codes "convergent")) a true m → ReadsOrStops (EventBody Convergent) m r rest → ReadsOrStops EventPart s r rest
  convergent_reads m rest r u h = unordinary_reads rest r (taken_reads (is_word_mark (codes "convergent")) (EventBody Convergent) Unconvergent (word_alone (codes "convergent") refl) a m rest r u h)

  module _ (b : List Mark) (u : Takes (is_word_mark (codes "convergent")) a false b) where
    unconvergent_reads : (rest : List Mark) (r : Result RawEvent Stop) → ReadsOrStops Unconvergent b r rest → ReadsOrStops EventPart s r rest
    unconvergent_reads rest r h = unordinary_reads rest r (other_reads (is_word_mark (codes "convergent")) (EventBody Convergent) Unconvergent unordinary_begins a b rest r u h)

    pub anticipated_reads : (m rest : List Mark) (r : Result RawEvent Stop) → Takes (is_word_mark (codes "anticipated")) b true m → ReadsOrStops (EventBody Anticipated) m r rest → ReadsOrStops EventPart s r rest
    anticipated_reads m rest r v h = unconvergent_reads rest r (taken_reads (is_word_mark (codes "anticipated")) (EventBody Anticipated) (EventBody Ordinary) (word_alone (codes "anticipated") refl) b m rest r v h)

    pub plain_reads : (m rest : List Mark) (r : Result RawEvent Stop) → Takes (is_word_mark (codes "anticipated")) b false m → ReadsOrStops (EventBody Ordinary) m r rest → ReadsOrStops EventPart s r rest
    plain_reads m rest r v h = unconvergent_reads rest r (other_reads (is_word_mark (codes "anticipated")) (EventBody Anticipated) (EventBody Ordinary) unconvergent_begins b m rest r v h)

-- events
event_body_takes : (c : Convergence) (b : Bounds) (s : List Mark) (x : RawEvent) (m : List Mark) → EventBody c b s x m → length m < length s
event_body_takes c b s x m h =
    let front = good_from_name.split b h.part.middle h.from.1 m h.part.second in
    omega (arith, ap length h.part.first.there, ap length front.1, length-append front.0 m)

pub event_takes : (b : Bounds) (s : List Mark) (x : RawEvent) (m : List Mark) → EventPart b s x m → length m < length s
event_takes b s x m (taken y t e is h) = omega (arith, ap length e, event_body_takes Ordinary b t x m h)
event_takes b s x m (other _ (taken y t e is h)) = omega (arith, ap length e, event_body_takes Convergent b t x m h)
event_takes b s x m (other _ (other _ (taken y t e is h))) = omega (arith, ap length e, event_body_takes Anticipated b t x m h)
event_takes b s x m (other _ (other _ (other _ h))) = event_body_takes Ordinary b s x m h

pub good_event_list : Good EventList
good_event_list = good_many begins_event EventPart good_event refl event_takes

pub good_events : Good Events
good_events = good_optional (is_word_mark (codes "events")) [] EventList good_event_list refl

skip_events : CanSkip Events
skip_events = skip_optional (is_word_mark (codes "events")) [] EventList refl

leaves_event_list : Leaves EventList
leaves_event_list = leaves_many begins_event EventPart good_event good_event_list.split leaves_event

leaves_events : Leaves Events
leaves_events = leaves_optional (is_word_mark (codes "events")) [] EventList (word_alone (codes "events") refl) good_event_list leaves_event_list

pub events_read : (s m rest : List Mark) (r : Result (List RawEvent) Stop) → Takes (is_word_mark (codes "events")) s true m → ReadsOrStops EventList m r rest → ReadsOrStops Events s r rest
events_read = taken_reads (is_word_mark (codes "events")) EventList (Nothing []) (word_alone (codes "events") refl)

-- a machine, from each clause on
abbrev Sees : Bounds → List Mark → List Ref → List Mark → Type 0
Sees = SomeNamesBehind (codes "sees")

abbrev Variables : Bounds → List Mark → List Ref → List Mark → Type 0
Variables = NamesBehind (codes "variables")

abbrev Invariants : Bounds → List Mark → List RawLabelled → List Mark → Type 0
Invariants = LinesBehind (codes "invariants")

abbrev FromVariant : Bounds → List Mark → (Option RawVariant × List RawEvent) → List Mark → Type 0
FromVariant = Then Variant Events

abbrev FromInvariants : Bounds → List Mark → (List RawLabelled × (Option RawVariant × List RawEvent)) → List Mark → Type 0
FromInvariants = Then Invariants FromVariant

abbrev FromVariables : Bounds → List Mark → (List Ref × (List RawLabelled × (Option RawVariant × List RawEvent))) → List Mark → Type 0
FromVariables = Then Variables FromInvariants

abbrev FromSees : Bounds → List Mark → (List Ref × (List Ref × (List RawLabelled × (Option RawVariant × List RawEvent)))) → List Mark → Type 0
FromSees = Then Sees FromVariables

abbrev FromRefines : Bounds → List Mark → (Option Ref × (List Ref × (List Ref × (List RawLabelled × (Option RawVariant × List RawEvent))))) → List Mark → Type 0
FromRefines = Then Refines FromSees

pub good_sees : Good Sees
good_sees = good_section (is_word_mark (codes "sees")) SomeNames (word_alone (codes "sees") refl) good_some_names refl

leaves_sees : Leaves Sees
leaves_sees = leaves_section (is_word_mark (codes "sees")) SomeNames (word_alone (codes "sees") refl) good_some_names leaves_some_names

pub good_variables : Good Variables
good_variables = good_section (is_word_mark (codes "variables")) Names (word_alone (codes "variables") refl) good_names refl

leaves_variables : Leaves Variables
leaves_variables = leaves_section (is_word_mark (codes "variables")) Names (word_alone (codes "variables") refl) good_names leaves_names

pub good_invariants : Good Invariants
good_invariants = good_section (is_word_mark (codes "invariants")) Lines (word_alone (codes "invariants") refl) good_lines refl

leaves_invariants : Leaves Invariants
leaves_invariants = leaves_section (is_word_mark (codes "invariants")) Lines (word_alone (codes "invariants") refl) good_lines leaves_lines

skip_from_variant : CanSkip FromVariant
skip_from_variant = both_skip Variant Events skip_variant skip_events

skip_from_invariants : CanSkip FromInvariants
skip_from_invariants = both_skip Invariants FromVariant (section_skip (is_word_mark (codes "invariants")) Lines (word_alone (codes "invariants") refl) refl) skip_from_variant

skip_from_variables : CanSkip FromVariables
skip_from_variables = both_skip Variables FromInvariants (section_skip (is_word_mark (codes "variables")) Names (word_alone (codes "variables") refl) refl) skip_from_invariants

skip_from_sees : CanSkip FromSees
skip_from_sees = both_skip Sees FromVariables (section_skip (is_word_mark (codes "sees")) SomeNames (word_alone (codes "sees") refl) refl) skip_from_variables

skip_from_refines : CanSkip FromRefines
skip_from_refines = both_skip Refines FromSees skip_refines skip_from_sees

pub good_from_variant : Good FromVariant
good_from_variant = good_then Variant Events good_variant good_events

pub good_from_invariants : Good FromInvariants
good_from_invariants = good_then Invariants FromVariant good_invariants good_from_variant

pub good_from_variables : Good FromVariables
good_from_variables = good_then Variables FromInvariants good_variables good_from_invariants

pub good_from_sees : Good FromSees
good_from_sees = good_then Sees FromVariables good_sees good_from_variables

pub good_from_refines : Good FromRefines
good_from_refines = good_then Refines FromSees good_refines good_from_sees

pub good_machine_body : Good MachineBody
good_machine_body = good_of machine_of (Then (One reference) FromRefines) (good_then (One reference) FromRefines (good_one reference) good_from_refines)

pub leaves_machine_body : Leaves MachineBody
leaves_machine_body =
    leaves_of machine_of (Then (One reference) FromRefines)
    (leaves_then (One reference) FromRefines (good_one reference) good_from_refines leaves_name
    (leaves_then Refines FromSees good_refines good_from_sees leaves_refines
    (leaves_then Sees FromVariables good_sees good_from_variables leaves_sees
    (leaves_then Variables FromInvariants good_variables good_from_invariants leaves_variables
    (leaves_then Invariants FromVariant good_invariants good_from_variant leaves_invariants
    (leaves_then Variant Events good_variant good_events leaves_variant leaves_events))))))

pub machine_body_begins : Begins MachineBody []
machine_body_begins = record {
  more = some_name ∷ skip_from_refines.fill;
  value = machine_of (some_ref, skip_from_refines.value);
  goes_on = λ tail. record {
    from = (some_ref, skip_from_refines.value);
    is = refl;
    part = record { middle = skip_from_refines.fill ++ end_mark ∷ tail; first = record { mark = some_name; there = refl; is = some_name_is }; second = skip_from_refines.skips parts tail };
  };
}

pub machine_name_missing : (s m : List Mark) → (m ≡ s) × Lacks reference s → RefusesAt MachineBody s m
machine_name_missing s m h =
    of_stops machine_of (Then (One reference) FromRefines) s m stop.Unexpected (one_missing_first reference FromRefines s m some_name some_ref h some_name_is (skip_begins FromRefines skip_from_refines parts))

module _ (s a : List Mark) (n : Ref) (name : One reference limits s n a) where
  behind_name : (rest : List Mark) (e : Stop) → ReadsOrStops FromRefines a (Err e) rest → ReadsOrStops MachineBody s (Err e) rest
  behind_name rest e h = of_stops machine_of (Then (One reference) FromRefines) s rest e (one_stops reference FromRefines name_alone s a rest n e name h)

  pub refines_stop : (rest : List Mark) (e : Stop) → ReadsOrStops Refines a (Err e) rest → ReadsOrStops MachineBody s (Err e) rest
  refines_stop rest e h = behind_name rest e (then_first Refines FromSees skip_from_sees a rest e h)

  module _ (b : List Mark) (rs : Option Ref) (refines : Refines limits a rs b) where
    behind_refines : (rest : List Mark) (e : Stop) → ReadsOrStops FromSees b (Err e) rest → ReadsOrStops MachineBody s (Err e) rest
    behind_refines rest e h = behind_name rest e (then_later Refines FromSees good_refines leaves_refines skip_from_sees a b rest rs e refines h)

    pub sees_stop : (rest : List Mark) (e : Stop) → ReadsOrStops Sees b (Err e) rest → ReadsOrStops MachineBody s (Err e) rest
    sees_stop rest e h = behind_refines rest e (then_first Sees FromVariables skip_from_variables b rest e h)

    module _ (d : List Mark) (ss : List Ref) (sees : Sees limits b ss d) where
      behind_sees : (rest : List Mark) (e : Stop) → ReadsOrStops FromVariables d (Err e) rest → ReadsOrStops MachineBody s (Err e) rest
      behind_sees rest e h = behind_refines rest e (then_later Sees FromVariables good_sees leaves_sees skip_from_variables b d rest ss e sees h)

      pub variables_stop : (rest : List Mark) (e : Stop) → ReadsOrStops Variables d (Err e) rest → ReadsOrStops MachineBody s (Err e) rest
      variables_stop rest e h = behind_sees rest e (then_first Variables FromInvariants skip_from_invariants d rest e h)

      module _ (f : List Mark) (vs : List Ref) (variables : Variables limits d vs f) where
        behind_variables : (rest : List Mark) (e : Stop) → ReadsOrStops FromInvariants f (Err e) rest → ReadsOrStops MachineBody s (Err e) rest
        behind_variables rest e h = behind_sees rest e (then_later Variables FromInvariants good_variables leaves_variables skip_from_invariants d f rest vs e variables h)

        pub invariants_stop : (rest : List Mark) (e : Stop) → ReadsOrStops Invariants f (Err e) rest → ReadsOrStops MachineBody s (Err e) rest
        invariants_stop rest e h = behind_variables rest e (then_first Invariants FromVariant skip_from_variant f rest e h)

        module _ (g : List Mark) (ls : List RawLabelled) (invariants : Invariants limits f ls g) where
          behind_invariants : (rest : List Mark) (e : Stop) → ReadsOrStops FromVariant g (Err e) rest → ReadsOrStops MachineBody s (Err e) rest
          behind_invariants rest e h = behind_variables rest e (then_later Invariants FromVariant good_invariants leaves_invariants skip_from_variant f g rest ls e invariants h)

          pub variant_stop : (rest : List Mark) (e : Stop) → ReadsOrStops Variant g (Err e) rest → ReadsOrStops MachineBody s (Err e) rest
          variant_stop rest e h = behind_invariants rest e (then_first Variant Events skip_events g rest e h)

          module _ (i : List Mark) (v : Option RawVariant) (variant : Variant limits g v i) where
            pub events_stop : (rest : List Mark) (e : Stop) → ReadsOrStops Events i (Err e) rest → ReadsOrStops MachineBody s (Err e) rest
            events_stop rest e h = behind_invariants rest e (then_later Variant Events good_variant leaves_variant skip_events g i rest v e variant h)

            pub machine_body_read : (rest : List Mark) (es : List RawEvent) → Events limits i es rest → MachineBody limits s (machine_of (n, (rs, (ss, (vs, (ls, (v, es))))))) rest
            machine_body_read rest es events = record {
              from = (n, (rs, (ss, (vs, (ls, (v, es))))));
              is = refl;
              part = record {
                middle = a;
                first = name;
                second = record {
                  middle = b;
                  first = refines;
                  second = record {
                    middle = d;
                    first = sees;
                    second = record {
                      middle = f;
                      first = variables;
                      second = record { middle = g; first = invariants; second = record { middle = i; first = variant; second = events } };
                    };
                  };
                };
              };
            }

-- x :∈ x
action_begins : Begins (FormulaRun IsActionWithin) []
action_begins = run_begins IsActionWithin parts [] (
  item sign.Word 0 (codes "x") ∷ (item sign.BecomesIn 0 (codes "x") ∷ (item sign.Word 0 (codes "x") ∷ [])),
  act.ChooseIn (record { name = codes "x"; place = 0 }) (raw.Name (codes "x") 0),
  chooses_in refl (record { g = grade.Name; reads = a_name refl; fit = refl }),
)

pub step_missing : (s m : List Mark) → (m ≡ s) × Lacks label_at s → RefusesAt ActionLine s m
step_missing s m h =
    of_stops labelled_step (Then (One label_at) (FormulaRun IsActionWithin)) s m stop.Unexpected (one_missing_first label_at (FormulaRun IsActionWithin) s m (label (codes "x") 0) (codes "x", 0) h refl action_begins)
