-- The parts of components.
use Rattle.std.proofs.Common.{◌≡◌, ◌∙◌, ap, ℕ, suc, ◌<◌, ◌≤◌, List, [], ◌∷◌, ◌++◌, Bool, true, false, Some, None, Ok, Err, cond, ◌==◌, inl, inr, length, refl, sym, subst, arith, append_assoc, append-nil, bytes_eq}
use Rattle.std.specs.Prelude.{Option, Result, codes}
use Rattle.std.specs.Result.{IsErrAnd}
use Rattle.std.proofs.lemmas.Result.{err_from_is_err_and}
use Rattle.formula_core.specs.Names.{is_identifier}
use Rattle.formula_core.specs.declared.raw.Raw.{Raw}
use Rattle.formula_core.specs.declared.raw.Raw.TheVariants as raw
use Rattle.formula_core.specs.declared.raw.RawOp.TheVariants as rawop
use Rattle.formula_core.specs.declared.raw.Ref.{Ref}
use Rattle.formula_core.specs.declared.op.Op.TheVariants as op
use Rattle.math_grammar.specs.declared.holes.Grade.TheVariants as grade
use Rattle.math_grammar.specs.declared.holes.Hole.{Hole}
use Rattle.math_grammar.specs.declared.holes.Hole.TheVariants as hole
use Rattle.math_grammar.specs.declared.symbols.Symbol.TheVariants as sym_
use Rattle.math_grammar.specs.Tokens.{Item}
use Rattle.math_grammar.specs.Grammar.{item, Spells, a_truth}
use Rattle.formula_parse.specs.Limits.{most_parts, first_large}
use Rattle.model_core.specs.declared.component.RawLabelled.{RawLabelled}
use Rattle.model_core.specs.declared.component.RawComponent.{RawComponent}
use Rattle.component_text.specs.declared.stop.Stop.{Stop}
use Rattle.component_text.specs.declared.stop.Stop.TheVariants as stop
use Rattle.component_text.specs.Marks.{Mark, word, label, plain, behind_run, is_word_mark, is_at}
use Rattle.component_text.specs.Forms.{Bounds, limits, parts, One, FormulaRun, Nothing, Then, Choice, taken, other, no_more, one_more}
use Rattle.component_text.specs.Grammar.{IsPlaced, reference, is_reference, label_at, Names, SomeNames, labelled, LabelledPart, FormulaLine, begins_line, Lines, NamesBehind, SomeNamesBehind, LinesBehind, context_of, ContextBody, IsContext}
use Rattle.component_text.specs.PrivateReading.{end_mark, Begins, RefusesAt, Passes, ReadsOrStops, Takes, Lacks, ReadsFormula, AddsNames, TakesEnd, ReadsWhole}
use Rattle.component_text.proofs.Parts.{IsLooser, Good, good_one, good_run, good_nothing, good_then, good_of, good_choice, good_many}
use Rattle.component_text.proofs.Refusing.{CanSkip, skip_begins, left_out, one_refused, one_then_refused, one_then_passes, first_refused, first_passes, both_skip, second_refused, second_passes, of_refused, of_passes, taken_refused, taken_passes, other_refused, other_passes, other_skip, many_skip, many_here, many_here_passes, many_later, many_later_passes}
use Rattle.component_text.proofs.Formulas.{label_refused, label_passes}
use Rattle.component_text.specs.PrivateReading.{NoFormula, all_plain, behind_word}
use Rattle.component_text.proofs.Looser.{formula_looser, loose}
use Rattle.std.proofs.lemmas.Slice.Eq.{bytes_eq-Decides}
use Rattle.component_text.proofs.Placed.{Leaves, leaves_one, leaves_nothing, leaves_formula, leaves_of, leaves_then, leaves_choice, leaves_many}
use Rattle.component_text.proofs.Whole.{word_is, whole, body_unexpected, body_too_large, head_unexpected, head_wrong, body_wrong, after_body, after_end, end_wrong}
use Rattle.std.proofs.lemmas.Bool.Decides.{nat_tests}

-- a name, a label and a predicate
pub some_ref : Ref
some_ref = record { name = codes "x"; place = 0 }

pub some_name : Mark
some_name = plain (item sym_.Word 0 (codes "x"))

pub some_name_is : reference some_name ≡ Some some_ref
unfolding some_ref some_name
some_name_is = refl

pub some_label : Mark
some_label = label (codes "x") 0

pub some_label_is : label_at some_label ≡ Some (codes "x", 0)
unfolding some_label
some_label_is = refl

pub top_item : Item
top_item = item (sym_.Truth op.Top) 0 (codes "x")

abbrev pub top : Raw
top = raw.Node (rawop.Plain op.Top) [] 0

pub top_spelled : Spells most_parts hole.Predicate (top_item ∷ []) top
unfolding top_item
top_spelled = record { g = grade.Literal; reads = a_truth; fit = refl }

abbrev placed_top : Raw × ℕ
placed_top = (top, top_item.from)

pub predicate_begins : Begins (FormulaRun (IsPlaced hole.Predicate)) []
predicate_begins = record { more = plain top_item ∷ []; value = placed_top; goes_on = λ tail. record { spelled = (top_spelled, refl); behind = refl } }

-- names
name_takes : (b : Bounds) (s : List Mark) (x : Ref) (m : List Mark) → One reference b s x m → length m < length s
name_takes b s x m h = omega (arith, ap length h.there)

pub good_names : Good Names
good_names = good_many is_reference (One reference) (good_one reference) refl name_takes

pub names_skip : CanSkip Names
names_skip = many_skip is_reference (One reference) (good_one reference) refl name_takes

-- no name stands next
pub lacks_name : (s : List Mark) → Lacks reference s → is_at is_reference s ≡ false
lacks_name [] h = refl
lacks_name (word w p ∷ s) h = refl
lacks_name (label l p ∷ s) h = refl
lacks_name (plain x ∷ s) h = go (is_identifier x.text) h
  where
    go : (b : Bool) → cond {A = Option Ref} b (Some (record { name = x.text; place = x.from })) None ≡ None → b ≡ false
    go true e = cc
    go false e = refl

has_name : (x : Mark) (r : Ref) → reference x ≡ Some r → is_reference x ≡ true
has_name (word w p) r e = cc
has_name (label l p) r e = cc
has_name (plain x) r e = go (is_identifier x.text) e
  where
    go : (b : Bool) → cond {A = Option Ref} b (Some (record { name = x.text; place = x.from })) None ≡ Some r → b ≡ true
    go true e = refl
    go false e = cc

pub one_name_more : (s m : List Mark) (x : Ref) (xs : List Ref) (rest : List Mark) → One reference limits s x m → Names limits m xs rest → Names limits s (x ∷ xs) rest
one_name_more s m x xs rest h hs = one_more (ap (is_at is_reference) h.there ∙ has_name h.mark x h.is) h hs

pub good_some_names : Good SomeNames
good_some_names = good_of (λ p. p.0 ∷ p.1) (Then (One reference) Names) (good_then (One reference) Names (good_one reference) good_names)

pub some_names_refused : (s : List Mark) → Lacks reference s → RefusesAt SomeNames s s
some_names_refused s h =
    of_refused (λ p. p.0 ∷ p.1) (Then (One reference) Names) s s (one_refused reference Names s some_name some_ref h some_name_is (skip_begins Names names_skip parts))

pub some_names_read : (s m rest : List Mark) (x : Ref) (all : List Ref) → One reference limits s x m → AddsNames (x ∷ []) all m rest → SomeNames limits s all rest
some_names_read s m rest x all h k = record { from = (x, k.0); is = sym k.1; part = record { middle = m; first = h; second = k.2 } }

pub names_read : (s rest : List Mark) (all : List Ref) → AddsNames [] all s rest → Names limits s all rest
names_read s rest all k = subst (λ xs. Names limits s xs rest) (sym k.1) k.2

-- labelled predicates
pub loose_placed : (h : Hole) (b c : Bounds) → IsLooser b c → (f : List Item) (p : Raw × ℕ) → IsPlaced h b f p → IsPlaced h c f p
loose_placed h b c l f p k = (loose (λ limit. Spells limit h) (formula_looser h) b c l f p.0 k.0, k.1)

pub placed_few : (h : Hole) (f : List Item) (p : Raw × ℕ) → IsPlaced h limits f p → first_large f ≡ None
placed_few h f p k = k.0.1

pub good_labelled : (theorem : Bool) → Good (LabelledPart theorem)
good_labelled theorem = good_of (labelled theorem) (Then (One label_at) (FormulaRun (IsPlaced hole.Predicate)))
    (good_then (One label_at) (FormulaRun (IsPlaced hole.Predicate)) (good_one label_at) (good_run (IsPlaced hole.Predicate) (loose_placed hole.Predicate)))

pub labelled_refused : (theorem : Bool) (s : List Mark) → Lacks label_at s → RefusesAt (LabelledPart theorem) s s
labelled_refused theorem s h =
    of_refused (labelled theorem) (Then (One label_at) (FormulaRun (IsPlaced hole.Predicate))) s s
    (one_refused label_at (FormulaRun (IsPlaced hole.Predicate)) s some_label (codes "x", 0) h some_label_is predicate_begins)

pub labelled_read : (theorem : Bool) (s m rest : List Mark) (x : List ℕ × ℕ) (t : Raw × ℕ) → One label_at limits s x m → FormulaRun (IsPlaced hole.Predicate) limits m t rest → LabelledPart theorem limits s (labelled theorem (x, t)) rest
labelled_read theorem s m rest x t o h = record { from = (x, t); is = refl; part = record { middle = m; first = o; second = h } }

pub labelled_stops : (theorem : Bool) (s m rest : List Mark) (x : List ℕ × ℕ) (e : Stop) → One label_at limits s x m → ReadsFormula (IsPlaced hole.Predicate) m (Err e) rest → ReadsOrStops (LabelledPart theorem) s (Err e) rest
labelled_stops theorem s m rest x stop.Unexpected o h =
    of_refused (labelled theorem) (Then (One label_at) (FormulaRun (IsPlaced hole.Predicate))) s rest
    (label_refused (IsPlaced hole.Predicate) s m x o rest h.0 h.1 h.2)
labelled_stops theorem s m rest x stop.TooLarge o h =
    of_passes (labelled theorem) (Then (One label_at) (FormulaRun (IsPlaced hole.Predicate))) s rest (label_passes (IsPlaced hole.Predicate) s m x o rest h.0 h.1 h.2)
labelled_stops theorem s m rest x stop.OutOfMemory o h = tt

-- what stands behind names and lines
pub name_alone : (y : Mark) (r : Ref) → reference y ≡ Some r → NoFormula (y ∷ [])
name_alone (word w p) r e = cc
name_alone (label l p) r e = cc
name_alone (plain x) r e = all_plain (x ∷ []) refl

pub word_alone : (w : List ℕ) → bytes_eq w (codes "variant") ≡ false → (y : Mark) → is_word_mark w y ≡ true → NoFormula (y ∷ [])
word_alone w isnt (word v p) e = behind_word [] v p [] refl (ap (λ u. bytes_eq u (codes "variant")) ((bytes_eq-Decides v w).0 e) ∙ isnt)
word_alone w isnt (label l p) e = cc
word_alone w isnt (plain x) e = cc

pub leaves_name : Leaves (One reference)
leaves_name = leaves_one reference name_alone

pub leaves_names : Leaves Names
leaves_names = leaves_many is_reference (One reference) (good_one reference) good_names.split leaves_name

pub leaves_some_names : Leaves SomeNames
leaves_some_names = leaves_of (λ p. p.0 ∷ p.1) (Then (One reference) Names) (leaves_then (One reference) Names (good_one reference) good_names leaves_name leaves_names)

pub leaves_labelled : (theorem : Bool) → Leaves (LabelledPart theorem)
leaves_labelled theorem = leaves_formula (labelled theorem) label_at (IsPlaced hole.Predicate) (placed_few hole.Predicate)

-- lines
pub good_line : Good FormulaLine
good_line = good_choice (is_word_mark (codes "theorem")) (LabelledPart true) (LabelledPart false) (good_labelled true) (good_labelled false) refl

pub behind_shorter : (s : List Mark) → length (behind_run s) ≤ length s
behind_shorter [] = omega arith
behind_shorter (plain x ∷ s) = omega (arith, behind_shorter s)
behind_shorter (word w p ∷ s) = omega arith
behind_shorter (label l p ∷ s) = omega arith

labelled_takes : (theorem : Bool) (b : Bounds) (s : List Mark) (x : RawLabelled) (m : List Mark) → LabelledPart theorem b s x m → length m < length s
labelled_takes theorem b s x m h =
    omega (arith, ap length h.part.first.there, ap length h.part.second.behind, behind_shorter h.part.middle)

pub line_takes : (b : Bounds) (s : List Mark) (x : RawLabelled) (m : List Mark) → FormulaLine b s x m → length m < length s
line_takes b s x m (taken y t e is h) = omega (arith, ap length e, labelled_takes true b t x m h)
line_takes b s x m (other e h) = labelled_takes false b s x m h

label_is_no_theorem : is_word_mark (codes "theorem") some_label ≡ false
unfolding some_label
label_is_no_theorem = refl

pub line_begins : Begins FormulaLine []
line_begins = record {
  more = some_label ∷ (plain top_item ∷ []);
  value = labelled false ((codes "x", 0), placed_top);
  goes_on = λ tail. other label_is_no_theorem (record {
    from = ((codes "x", 0), placed_top);
    is = refl;
    part = record { middle = plain top_item ∷ (end_mark ∷ tail); first = record { mark = some_label; there = refl; is = some_label_is }; second = record { spelled = (top_spelled, refl); behind = refl } };
  });
}

pub line_reads : (s m rest : List Mark) (theorem : Bool) (r : Result RawLabelled Stop) → Takes (is_word_mark (codes "theorem")) s theorem m → ReadsOrStops (LabelledPart theorem) m r rest → ReadsOrStops FormulaLine s r rest
line_reads s m rest true (Ok x) k h = taken k.0 m k.1 k.2 h
line_reads s m rest true (Err stop.Unexpected) k h = taken_refused (is_word_mark (codes "theorem")) (LabelledPart true) (LabelledPart false) (word_alone (codes "theorem") refl) s m rest k.0 k.1 k.2 h
line_reads s m rest true (Err stop.TooLarge) k h = taken_passes (is_word_mark (codes "theorem")) (LabelledPart true) (LabelledPart false) (word_alone (codes "theorem") refl) s m rest k.0 k.1 k.2 h
line_reads s m rest true (Err stop.OutOfMemory) k h = tt
line_reads s m rest false (Ok x) k h = other k.1 (subst (λ t. LabelledPart false limits t x rest) k.0 h)
line_reads s m rest false (Err stop.Unexpected) k h = other_refused (is_word_mark (codes "theorem")) (LabelledPart true) (LabelledPart false) s rest k.1 line_begins (subst (λ t. RefusesAt (LabelledPart false) t rest) k.0 h)
line_reads s m rest false (Err stop.TooLarge) k h = other_passes (is_word_mark (codes "theorem")) (LabelledPart true) (LabelledPart false) s rest k.1 line_begins (subst (λ t. Passes (LabelledPart false) t rest) k.0 h)
line_reads s m rest false (Err stop.OutOfMemory) k h = tt

pub leaves_line : Leaves FormulaLine
leaves_line = leaves_choice (is_word_mark (codes "theorem")) (LabelledPart true) (LabelledPart false) (good_labelled true) (word_alone (codes "theorem") refl) (leaves_labelled true) (leaves_labelled false)

pub good_lines : Good Lines
good_lines = good_many begins_line FormulaLine good_line refl line_takes

pub leaves_lines : Leaves Lines
leaves_lines = leaves_many begins_line FormulaLine good_line good_lines.split leaves_line

pub lines_skip : CanSkip Lines
lines_skip = many_skip begins_line FormulaLine good_line refl line_takes

pub lines_here : (s rest : List Mark) → is_at begins_line s ≡ true → RefusesAt FormulaLine s rest → RefusesAt Lines s rest
lines_here = many_here begins_line FormulaLine good_line refl line_takes

pub lines_here_passes : (s rest : List Mark) → is_at begins_line s ≡ true → Passes FormulaLine s rest → Passes Lines s rest
lines_here_passes = many_here_passes begins_line FormulaLine good_line refl line_takes

pub lines_later : (s m rest : List Mark) (x : RawLabelled) → is_at begins_line s ≡ true → FormulaLine limits s x m → RefusesAt Lines m rest → RefusesAt Lines s rest
lines_later = many_later begins_line FormulaLine good_line refl line_takes leaves_line

pub lines_later_passes : (s m rest : List Mark) (x : RawLabelled) → is_at begins_line s ≡ true → FormulaLine limits s x m → Passes Lines m rest → Passes Lines s rest
lines_later_passes = many_later_passes begins_line FormulaLine good_line refl line_takes leaves_line

-- sections
module _ {X : Type 0} (test : Mark → Bool) (P : Bounds → List Mark → List X → List Mark → Type 0) (words : (y : Mark) → test y ≡ true → NoFormula (y ∷ [])) where
  pub section_reads : (s m rest : List Mark) (r : Result (List X) Stop) → Takes test s true m → ReadsOrStops P m r rest → ReadsOrStops (Choice test P (Nothing [])) s r rest
  section_reads s m rest (Ok x) k h = taken k.0 m k.1 k.2 h
  section_reads s m rest (Err stop.Unexpected) k h = taken_refused test P (Nothing []) words s m rest k.0 k.1 k.2 h
  section_reads s m rest (Err stop.TooLarge) k h = taken_passes test P (Nothing []) words s m rest k.0 k.1 k.2 h
  section_reads s m rest (Err stop.OutOfMemory) k h = tt

  pub section_absent : (s m : List Mark) → Takes test s false m → Choice test P (Nothing []) limits s [] m
  section_absent s m k = other k.1 (record { is = refl; behind = k.0 })

  pub good_section : Good P → test end_mark ≡ false → Good (Choice test P (Nothing []))
  good_section p e = good_choice test P (Nothing []) p (good_nothing []) e

  pub leaves_section : Good P → Leaves P → Leaves (Choice test P (Nothing []))
  leaves_section good p = leaves_choice test P (Nothing []) good words p (leaves_nothing [])

  pub section_skip : test end_mark ≡ false → CanSkip (Choice test P (Nothing []))
  section_skip e = other_skip test P (Nothing []) e (left_out (Nothing []) [] (λ b tail. record { is = refl; behind = refl }))

-- the body of a context
abbrev Extends : Bounds → List Mark → List Ref → List Mark → Type 0
Extends = SomeNamesBehind (codes "extends")

abbrev Sets : Bounds → List Mark → List Ref → List Mark → Type 0
Sets = NamesBehind (codes "sets")

abbrev Constants : Bounds → List Mark → List Ref → List Mark → Type 0
Constants = NamesBehind (codes "constants")

abbrev Axioms : Bounds → List Mark → List RawLabelled → List Mark → Type 0
Axioms = LinesBehind (codes "axioms")

pub good_extends : Good Extends
good_extends = good_section (is_word_mark (codes "extends")) SomeNames (word_alone (codes "extends") refl) good_some_names refl

pub good_sets : Good Sets
good_sets = good_section (is_word_mark (codes "sets")) Names (word_alone (codes "sets") refl) good_names refl

pub good_constants : Good Constants
good_constants = good_section (is_word_mark (codes "constants")) Names (word_alone (codes "constants") refl) good_names refl

good_axioms : Good Axioms
good_axioms = good_section (is_word_mark (codes "axioms")) Lines (word_alone (codes "axioms") refl) good_lines refl

skip_extends : CanSkip Extends
skip_extends = section_skip (is_word_mark (codes "extends")) SomeNames (word_alone (codes "extends") refl) refl

skip_sets : CanSkip Sets
skip_sets = section_skip (is_word_mark (codes "sets")) Names (word_alone (codes "sets") refl) refl

skip_constants : CanSkip Constants
skip_constants = section_skip (is_word_mark (codes "constants")) Names (word_alone (codes "constants") refl) refl

skip_axioms : CanSkip Axioms
skip_axioms = section_skip (is_word_mark (codes "axioms")) Lines (word_alone (codes "axioms") refl) refl

-- from each clause on
abbrev FromConstants : Bounds → List Mark → (List Ref × List RawLabelled) → List Mark → Type 0
FromConstants = Then Constants Axioms

abbrev FromSets : Bounds → List Mark → (List Ref × (List Ref × List RawLabelled)) → List Mark → Type 0
FromSets = Then Sets FromConstants

abbrev FromExtends : Bounds → List Mark → (List Ref × (List Ref × (List Ref × List RawLabelled))) → List Mark → Type 0
FromExtends = Then Extends FromSets

skip_from_constants : CanSkip FromConstants
skip_from_constants = both_skip Constants Axioms skip_constants skip_axioms

skip_from_sets : CanSkip FromSets
skip_from_sets = both_skip Sets FromConstants skip_sets skip_from_constants

skip_from_extends : CanSkip FromExtends
skip_from_extends = both_skip Extends FromSets skip_extends skip_from_sets

pub good_context_body : Good ContextBody
good_context_body = good_of context_of (Then (One reference) FromExtends)
    (good_then (One reference) FromExtends (good_one reference) (good_then Extends FromSets good_extends (good_then Sets FromConstants good_sets (good_then Constants Axioms good_constants good_axioms))))

leaves_extends : Leaves Extends
leaves_extends = leaves_section (is_word_mark (codes "extends")) SomeNames (word_alone (codes "extends") refl) good_some_names leaves_some_names

leaves_sets : Leaves Sets
leaves_sets = leaves_section (is_word_mark (codes "sets")) Names (word_alone (codes "sets") refl) good_names leaves_names

leaves_constants : Leaves Constants
leaves_constants = leaves_section (is_word_mark (codes "constants")) Names (word_alone (codes "constants") refl) good_names leaves_names

leaves_axioms : Leaves Axioms
leaves_axioms = leaves_section (is_word_mark (codes "axioms")) Lines (word_alone (codes "axioms") refl) good_lines leaves_lines

pub leaves_context_body : Leaves ContextBody
leaves_context_body = leaves_of context_of (Then (One reference) FromExtends)
    (leaves_then (One reference) FromExtends (good_one reference) (good_then Extends FromSets good_extends (good_then Sets FromConstants good_sets (good_then Constants Axioms good_constants good_axioms))) leaves_name
    (leaves_then Extends FromSets good_extends (good_then Sets FromConstants good_sets (good_then Constants Axioms good_constants good_axioms)) leaves_extends
    (leaves_then Sets FromConstants good_sets (good_then Constants Axioms good_constants good_axioms) leaves_sets
    (leaves_then Constants Axioms good_constants good_axioms leaves_constants leaves_axioms))))

pub context_body_begins : Begins ContextBody []
context_body_begins = record {
  more = some_name ∷ skip_from_extends.fill;
  value = context_of (some_ref, skip_from_extends.value);
  goes_on = λ tail. record {
    from = (some_ref, skip_from_extends.value);
    is = refl;
    part = record { middle = skip_from_extends.fill ++ end_mark ∷ tail; first = record { mark = some_name; there = refl; is = some_name_is }; second = skip_from_extends.skips parts tail };
  };
}

pub no_context_name : (s : List Mark) → Lacks reference s → RefusesAt ContextBody s s
no_context_name s h = of_refused context_of (Then (One reference) FromExtends) s s (one_refused reference FromExtends s some_name some_ref h some_name_is (skip_begins FromExtends skip_from_extends parts))

module _ (s a : List Mark) (n : Ref) (name : One reference limits s n a) where
  behind_name_refused : (rest : List Mark) → RefusesAt FromExtends a rest → RefusesAt ContextBody s rest
  behind_name_refused rest h =
      of_refused context_of (Then (One reference) FromExtends) s rest
      (one_then_refused reference FromExtends s a rest n name h (name_alone name.mark n name.is))

  behind_name_passes : (rest : List Mark) → Passes FromExtends a rest → Passes ContextBody s rest
  behind_name_passes rest h = of_passes context_of (Then (One reference) FromExtends) s rest (one_then_passes reference FromExtends s a rest n name h (name_alone name.mark n name.is))

  pub extends_stops : (rest : List Mark) (e : Stop) → ReadsOrStops Extends a (Err e) rest → ReadsOrStops ContextBody s (Err e) rest
  extends_stops rest stop.Unexpected h = behind_name_refused rest (first_refused Extends FromSets a rest h skip_from_sets)
  extends_stops rest stop.TooLarge h = behind_name_passes rest (first_passes Extends FromSets a rest h skip_from_sets)
  extends_stops rest stop.OutOfMemory h = tt

  module _ (b : List Mark) (es : List Ref) (extends : Extends limits a es b) where
    behind_extends_refused : (rest : List Mark) → RefusesAt FromSets b rest → RefusesAt ContextBody s rest
    behind_extends_refused rest h = behind_name_refused rest (second_refused Extends FromSets good_extends leaves_extends a b rest es extends h skip_from_sets)

    behind_extends_passes : (rest : List Mark) → Passes FromSets b rest → Passes ContextBody s rest
    behind_extends_passes rest h = behind_name_passes rest (second_passes Extends FromSets good_extends leaves_extends a b rest es extends h skip_from_sets)

    pub sets_stop : (rest : List Mark) (e : Stop) → ReadsOrStops Sets b (Err e) rest → ReadsOrStops ContextBody s (Err e) rest
    sets_stop rest stop.Unexpected h = behind_extends_refused rest (first_refused Sets FromConstants b rest h skip_from_constants)
    sets_stop rest stop.TooLarge h = behind_extends_passes rest (first_passes Sets FromConstants b rest h skip_from_constants)
    sets_stop rest stop.OutOfMemory h = tt

    module _ (c : List Mark) (ss : List Ref) (sets : Sets limits b ss c) where
      behind_sets_refused : (rest : List Mark) → RefusesAt FromConstants c rest → RefusesAt ContextBody s rest
      behind_sets_refused rest h = behind_extends_refused rest (second_refused Sets FromConstants good_sets leaves_sets b c rest ss sets h skip_from_constants)

      behind_sets_passes : (rest : List Mark) → Passes FromConstants c rest → Passes ContextBody s rest
      behind_sets_passes rest h = behind_extends_passes rest (second_passes Sets FromConstants good_sets leaves_sets b c rest ss sets h skip_from_constants)

      pub constants_stop : (rest : List Mark) (e : Stop) → ReadsOrStops Constants c (Err e) rest → ReadsOrStops ContextBody s (Err e) rest
      constants_stop rest stop.Unexpected h = behind_sets_refused rest (first_refused Constants Axioms c rest h skip_axioms)
      constants_stop rest stop.TooLarge h = behind_sets_passes rest (first_passes Constants Axioms c rest h skip_axioms)
      constants_stop rest stop.OutOfMemory h = tt

      module _ (d : List Mark) (cs : List Ref) (constants : Constants limits c cs d) where
        pub axioms_stop : (rest : List Mark) (e : Stop) → ReadsOrStops Axioms d (Err e) rest → ReadsOrStops ContextBody s (Err e) rest
        axioms_stop rest stop.Unexpected h = behind_sets_refused rest (second_refused Constants Axioms good_constants leaves_constants c d rest cs constants h skip_axioms)
        axioms_stop rest stop.TooLarge h = behind_sets_passes rest (second_passes Constants Axioms good_constants leaves_constants c d rest cs constants h skip_axioms)
        axioms_stop rest stop.OutOfMemory h = tt

        pub context_body_read : (rest : List Mark) (ls : List RawLabelled) → Axioms limits d ls rest → ContextBody limits s (context_of (n, (es, (ss, (cs, ls))))) rest
        context_body_read rest ls axioms = record {
          from = (n, (es, (ss, (cs, ls))));
          is = refl;
          part = record {
            middle = a;
            first = name;
            second = record { middle = b; first = extends; second = record { middle = c; first = sets; second = record { middle = d; first = constants; second = axioms } } };
          };
        }

-- the exit of a `?`
pub exit_with : {X : Type 0} (P : Bounds → List Mark → X → List Mark → Type 0) (old new : List Mark) (r : Result X Stop) (e : Stop) →
    IsErrAnd r (λ d. d ≡ e) → ReadsOrStops P old (Err e) new → ReadsOrStops P old r new
exit_with P old new r e h k = let p = err_from_is_err_and r h in rw (p.1, p.2) k

pub labelled_none : (theorem : Bool) (s m : List Mark) → (m ≡ s) × Lacks label_at s → RefusesAt (LabelledPart theorem) s m
labelled_none theorem s m h = subst (λ t. RefusesAt (LabelledPart theorem) s t) (sym h.0) (labelled_refused theorem s h.1)

pub some_names_none : (s m : List Mark) → (m ≡ s) × Lacks reference s → RefusesAt SomeNames s m
some_names_none s m h = subst (λ t. RefusesAt SomeNames s t) (sym h.0) (some_names_refused s h.1)

pub context_name_none : (s m : List Mark) → (m ≡ s) × Lacks reference s → RefusesAt ContextBody s m
context_name_none s m h = subst (λ t. RefusesAt ContextBody s t) (sym h.0) (no_context_name s h.1)

pub ends_or_more : (s m : List Mark) (b : Bool) → Takes (is_word_mark (codes "end")) s true m → b ≡ (length m == 0) → TakesEnd s b m
ends_or_more s [] true h e = let is = word_is (codes "end") h.0 h.2 in (is.0, h.1 ∙ ap (λ x. x ∷ []) is.1)
ends_or_more s [] false h e = cc
ends_or_more s (y ∷ m) true h e = let isnt : (suc (length m) == 0) ≡ false = grind (arith, nat_tests) in cc
ends_or_more s (y ∷ m) false h e = let is = word_is (codes "end") h.0 h.2 in inr (is.0, y, m, h.1 ∙ ap (λ x. x ∷ (y ∷ m)) is.1, refl)

-- names so far, and one more
pub names_more : (first old : List Ref) (whole s m : List Mark) (x : Ref) → One reference limits s x m →
    ((xs : List Ref) (rest : List Mark) → Names limits s xs rest → AddsNames first (old ++ xs) whole rest) →
    (xs : List Ref) (rest : List Mark) → Names limits m xs rest → AddsNames first ((old ++ x ∷ []) ++ xs) whole rest
names_more first old whole s m x h so_far xs rest k =
    subst (λ ys. AddsNames first ys whole rest) (sym (append_assoc old (x ∷ []) xs)) (so_far (x ∷ xs) rest (one_name_more s m x xs rest h k))

pub names_done : (first old : List Ref) (whole s m : List Mark) → (m ≡ s) × Lacks reference s →
    ((xs : List Ref) (rest : List Mark) → Names limits s xs rest → AddsNames first (old ++ xs) whole rest) → AddsNames first old whole m
names_done first old whole s m h so_far = subst (λ ys. AddsNames first ys whole m) (append-nil old) (so_far [] m (no_more (lacks_name s h.1) h.0))

-- lines so far, and one more
pub lines_more : (old : List RawLabelled) (whole s m : List Mark) (x : RawLabelled) → is_at begins_line s ≡ true → FormulaLine limits s x m →
    ((xs : List RawLabelled) (rest : List Mark) → Lines limits s xs rest → Lines limits whole (old ++ xs) rest) →
    (xs : List RawLabelled) (rest : List Mark) → Lines limits m xs rest → Lines limits whole ((old ++ x ∷ []) ++ xs) rest
lines_more old whole s m x does h so_far xs rest k =
    subst (λ ys. Lines limits whole ys rest) (sym (append_assoc old (x ∷ []) xs)) (so_far (x ∷ xs) rest (one_more does h k))

pub lines_done : (old : List RawLabelled) (whole s : List Mark) → is_at begins_line s ≡ false →
    ((xs : List RawLabelled) (rest : List Mark) → Lines limits s xs rest → Lines limits whole (old ++ xs) rest) → Lines limits whole old s
lines_done old whole s isnt so_far = subst (λ ys. Lines limits whole ys s) (append-nil old) (so_far [] s (no_more isnt refl))

-- a line that stops
pub lines_stop : (whole s rest : List Mark) (e : Stop) → is_at begins_line s ≡ true → ReadsOrStops FormulaLine s (Err e) rest →
    ((r : List Mark) → RefusesAt Lines s r → RefusesAt Lines whole r) → ((r : List Mark) → Passes Lines s r → Passes Lines whole r) → ReadsOrStops Lines whole (Err e) rest
lines_stop whole s rest stop.Unexpected does h refused passed = refused rest (lines_here s rest does h)
lines_stop whole s rest stop.TooLarge does h refused passed = passed rest (lines_here_passes s rest does h)
lines_stop whole s rest stop.OutOfMemory does h refused passed = tt

-- the whole context
pub stops_in_body : (s m rest : List Mark) (p : ℕ) (e : Stop) → s ≡ word (codes "context") p ∷ m → ReadsOrStops ContextBody m (Err e) rest → ReadsWhole IsContext s (Err e) rest
stops_in_body s m rest p stop.Unexpected e h =
    (body_unexpected (codes "context") refl ContextBody s m rest p e h, body_wrong (codes "context") refl ContextBody s m p e h.wrong)
stops_in_body s m rest p stop.TooLarge e h =
    (body_too_large (codes "context") refl ContextBody s m rest p e h, body_wrong (codes "context") refl ContextBody s m p e h.wrong)
stops_in_body s m rest p stop.OutOfMemory e h = tt

pub no_context : (s m : List Mark) → (m ≡ s) × (is_at (is_word_mark (codes "context")) s ≡ false) → ReadsWhole IsContext s (Err stop.Unexpected) m
no_context s m h = subst (λ t. ReadsWhole IsContext s (Err stop.Unexpected) t) (sym h.0)
    (head_unexpected (codes "context") refl ContextBody s h.1 context_body_begins, head_wrong (codes "context") refl ContextBody s h.1)

pub context_read : (s m k rest : List Mark) (p : ℕ) (c : RawComponent) → s ≡ word (codes "context") p ∷ m → ContextBody limits m c k → TakesEnd k true rest → IsContext limits s c
context_read s m k rest p c e h f = whole (codes "context") refl ContextBody s m k p f.0 c e h f.1

pub context_unended : (s m k rest : List Mark) (p : ℕ) (c : RawComponent) → s ≡ word (codes "context") p ∷ m → ContextBody limits m c k → TakesEnd k false rest → ReadsWhole IsContext s (Err stop.Unexpected) rest
context_unended s m k rest p c e h (inl f) =
    subst (λ t. ReadsWhole IsContext s (Err stop.Unexpected) t) (sym f.0) (
      after_body (codes "context") refl ContextBody good_context_body leaves_context_body s m k p c e h f.1,
      end_wrong (codes "context") refl ContextBody good_context_body s m k p c e h
          (λ q is. let does : is_at (is_word_mark (codes "end")) k ≡ true = ap (is_at (is_word_mark (codes "end"))) is in let contra : true ≡ false = sym does ∙ f.1 in cc),
    )
context_unended s m k rest p c e h (inr f) =
    let is : k ≡ word (codes "end") f.0 ∷ (f.1 ∷ f.2) = f.3 ∙ ap (λ t. word (codes "end") f.0 ∷ t) f.4 in
    subst (λ t. ReadsWhole IsContext s (Err stop.Unexpected) t) (sym f.4) (
      after_end (codes "context") refl ContextBody good_context_body leaves_context_body s m k p f.0 f.1 f.2 c e h is,
      end_wrong (codes "context") refl ContextBody good_context_body s m k p c e h (λ q other. let clash : word (codes "end") q ∷ [] ≡ word (codes "end") f.0 ∷ (f.1 ∷ f.2) = sym other ∙ is in cc),
    )

pub whole_exit : (s rest : List Mark) (r : Result RawComponent Stop) (e : Stop) → IsErrAnd r (λ d. d ≡ e) → ReadsWhole IsContext s (Err e) rest → ReadsWhole IsContext s r rest
whole_exit s rest r e h k = let p = err_from_is_err_and r h in rw (p.1, p.2) k

-- the word that was taken
pub word_there : (w : List ℕ) (s m : List Mark) → Takes (is_word_mark w) s true m → (p : ℕ) × (s ≡ word w p ∷ m)
word_there w s m k = let is = word_is w k.0 k.2 in (is.0, k.1 ∙ ap (λ x. x ∷ m) is.1)
