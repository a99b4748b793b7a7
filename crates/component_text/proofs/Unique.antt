-- What is spelled, within the limits or without them, is read in one way.
use Rattle.std.proofs.Common.{◌≡◌, ◌∙◌, ap, ℕ, List, [], ◌∷◌, Bool, true, false, Some, None, refl, sym, subst}
use Rattle.std.specs.Prelude.{Option, codes}
use Rattle.formula_core.specs.declared.raw.Raw.{Raw}
use Rattle.math_grammar.specs.declared.holes.Hole.{Hole}
use Rattle.math_grammar.specs.declared.holes.Hole.TheVariants as hole
use Rattle.math_grammar.specs.Tokens.{Item}
use Rattle.math_grammar.specs.Grammar.{Spells}
use Rattle.formula_parse.specs.Limits.{most_parts}
use Rattle.model_core.specs.declared.component.RawComponent.{RawComponent}
use Rattle.component_text.specs.Marks.{Mark, word, is_word_mark, is_at}
use Rattle.component_text.specs.Forms.{Bounds, limits, parts, none, One, FormulaRun, Nothing, Then, Choice, taken, other, Many, no_more, one_more, Of}
use Rattle.component_text.specs.Grammar.{Within, IsFormula, IsPlaced, reference, is_reference, label_at, Names, SomeNames, labelled, LabelledPart, FormulaLine, begins_line, Lines, NamesBehind, SomeNamesBehind, LinesBehind, context_of, ContextBody, IsContext}
use Rattle.component_text.proofs.Parts.{Good, same_start_self, good_one}
use Rattle.component_text.proofs.Components.{good_line, good_extends, good_sets, good_constants}

-- one value where the part is read twice
abbrev pub Unique : {X : Type 0} → (Bounds → List Mark → X → List Mark → Type 0) → Type 0
Unique {X} P = (b : Bounds) (s : List Mark) (x y : X) (m n : List Mark) → P b s x m → P b s y n → x ≡ y

-- it ends at one place
ends_once : {X : Type 0} (P : Bounds → List Mark → X → List Mark → Type 0) → Good P → (b : Bounds) (s : List Mark) (x y : X) (m n : List Mark) → P b s x m → P b s y n → n ≡ m
ends_once P p b s x y m n h k =
    let front = p.split b s x m h in
    p.agrees b b front.0 m m x y n (subst (λ t. P b t x m) front.1 h) (same_start_self m) (subst (λ t. P b t y n) front.1 k)

pub one_unique : {X : Type 0} (value : Mark → Option X) → Unique (One value)
one_unique value b s x y m n h k =
    let there : h.mark ∷ m ≡ k.mark ∷ n = sym h.there ∙ k.there in
    let same : h.mark ≡ k.mark = cc in
    let values : Some x ≡ Some y = sym h.is ∙ ap value same ∙ k.is in
    cc

pub run_unique : {X : Type 0} (F : Bounds → List Item → X → Type 0) → ((b : Bounds) (f : List Item) (x y : X) → F b f x → F b f y → x ≡ y) → Unique (FormulaRun F)
run_unique F one b s x y m n h k = one b _ x y h.spelled k.spelled

pub nothing_unique : {X : Type 0} (absent : X) → Unique (Nothing absent)
nothing_unique absent b s x y m n h k = h.is ∙ sym k.is

pub then_unique : {X Y : Type 0} (P : Bounds → List Mark → X → List Mark → Type 0) (Q : Bounds → List Mark → Y → List Mark → Type 0) → Good P → Unique P → Unique Q → Unique (Then P Q)
then_unique {X} {Y} P Q p u v b s x y m n h k =
    let middle : k.middle ≡ h.middle = ends_once P p b s x.0 y.0 h.middle k.middle h.first k.first in
    let first : x.0 ≡ y.0 = u b s x.0 y.0 h.middle k.middle h.first k.first in
    let second : x.1 ≡ y.1 = v b h.middle x.1 y.1 m n h.second (subst (λ t. Q b t y.1 n) middle k.second) in
    ap (λ (z : X). (z, x.1)) first ∙ ap (λ (z : Y). (y.0, z)) second

pub of_unique : {X Y : Type 0} (f : X → Y) (P : Bounds → List Mark → X → List Mark → Type 0) → Unique P → Unique (Of f P)
of_unique f P u b s x y m n h k = sym h.is ∙ ap f (u b s h.from k.from m n h.part k.part) ∙ k.is

pub choice_unique : {X : Type 0} (test : Mark → Bool) (P Q : Bounds → List Mark → X → List Mark → Type 0) → Unique P → Unique Q → Unique (Choice test P Q)
choice_unique test P Q u v b s x y m n (taken a t d is h) (taken a' w e it k) =
    let there : a ∷ t ≡ a' ∷ w = sym d ∙ e in
    let tail : w ≡ t = cc in
    u b t x y m n h (subst (λ z. P b z y n) tail k)
choice_unique test P Q u v b s x y m n (taken a t d is h) (other isnt k) = let contra : true ≡ false = sym is ∙ ap (is_at test) (sym d) ∙ isnt in cc
choice_unique test P Q u v b s x y m n (other isnt h) (taken a' w e it k) = let contra : true ≡ false = sym it ∙ ap (is_at test) (sym e) ∙ isnt in cc
choice_unique test P Q u v b s x y m n (other isnt h) (other isnt' k) = v b s x y m n h k

pub many_unique : {X : Type 0} (test : Mark → Bool) (P : Bounds → List Mark → X → List Mark → Type 0) → Good P → Unique P → Unique (Many test P)
many_unique test P p u b s xs ys m n (no_more isnt e) (no_more isnt' e') = refl
many_unique test P p u b s xs ys m n (no_more isnt e) (one_more does k ks) = let contra : true ≡ false = sym does ∙ isnt in cc
many_unique test P p u b s xs ys m n (one_more does h hs) (no_more isnt e) = let contra : true ≡ false = sym does ∙ isnt in cc
many_unique test P p u b s xs ys m n (one_more {m = a} {x = x} {xs = xs'} does h hs) (one_more {m = a'} {x = y} {xs = ys'} does' k ks) =
    let middle : a' ≡ a = ends_once P p b s x y a a' h k in
    let first : x ≡ y = u b s x y a a' h k in
    let later : xs' ≡ ys' = many_unique test P p u b a xs' ys' m n hs (subst (λ t. Many test P b t ys' n) middle ks) in
    ap (λ z. z ∷ xs') first ∙ ap (λ zs. y ∷ zs) later

pub within_once : {X : Type 0} (IsOne : Option ℕ → List Item → X → Type 0) → ((limit : Option ℕ) (s : List Item) (x y : X) → IsOne limit s x → IsOne limit s y → x ≡ y) →
    (b : Bounds) (s : List Item) (x y : X) → Within IsOne b s x → Within IsOne b s y → x ≡ y
within_once IsOne one limits s x y h k = one most_parts s x y h.0 k.0
within_once IsOne one parts s x y h k = one most_parts s x y h k
within_once IsOne one none s x y h k = one None s x y h k

-- formulas have one tree
abbrev pub OneFormula : Type 0
OneFormula = (limit : Option ℕ) (h : Hole) (s : List Item) (t u : Raw) → Spells limit h s t → Spells limit h s u → t ≡ u

module _ (law : OneFormula) where
  pub formula_once : (h : Hole) (b : Bounds) (s : List Item) (t u : Raw) → IsFormula h b s t → IsFormula h b s u → t ≡ u
  formula_once h = within_once (λ limit. Spells limit h) (λ limit. law limit h)

  pub placed_once : (h : Hole) (b : Bounds) (s : List Item) (p q : Raw × ℕ) → IsPlaced h b s p → IsPlaced h b s q → p ≡ q
  placed_once h b s p q k l = ap (λ (t : Raw). (t, p.1)) (formula_once h b s p.0 q.0 k.0 l.0) ∙ ap (λ (n : ℕ). (q.0, n)) (k.1 ∙ sym l.1)

  predicate_unique : Unique (FormulaRun (IsPlaced hole.Predicate))
  predicate_unique = run_unique (IsPlaced hole.Predicate) (placed_once hole.Predicate)

  pub labelled_unique : (theorem : Bool) → Unique (LabelledPart theorem)
  labelled_unique theorem = of_unique (labelled theorem) (Then (One label_at) (FormulaRun (IsPlaced hole.Predicate)))
      (then_unique (One label_at) (FormulaRun (IsPlaced hole.Predicate)) (good_one label_at) (one_unique label_at) predicate_unique)

  line_unique : Unique FormulaLine
  line_unique = choice_unique (is_word_mark (codes "theorem")) (LabelledPart true) (LabelledPart false) (labelled_unique true) (labelled_unique false)

  pub lines_unique : Unique Lines
  lines_unique = many_unique begins_line FormulaLine good_line line_unique

  pub names_unique : Unique Names
  names_unique = many_unique is_reference (One reference) (good_one reference) (one_unique reference)

  pub some_names_unique : Unique SomeNames
  some_names_unique = of_unique (λ p. p.0 ∷ p.1) (Then (One reference) Names) (then_unique (One reference) Names (good_one reference) (one_unique reference) names_unique)

  pub section_unique : {X : Type 0} (test : Mark → Bool) (P : Bounds → List Mark → List X → List Mark → Type 0) → Unique P → Unique (Choice test P (Nothing []))
  section_unique test P u = choice_unique test P (Nothing []) u (nothing_unique [])

  context_body_unique : Unique ContextBody
  context_body_unique =
      of_unique context_of _
      (then_unique (One reference) _ (good_one reference) (one_unique reference)
      (then_unique (SomeNamesBehind (codes "extends")) _ good_extends (section_unique (is_word_mark (codes "extends")) SomeNames some_names_unique)
      (then_unique (NamesBehind (codes "sets")) _ good_sets (section_unique (is_word_mark (codes "sets")) Names names_unique)
      (then_unique (NamesBehind (codes "constants")) (LinesBehind (codes "axioms")) good_constants (section_unique (is_word_mark (codes "constants")) Names names_unique)
      (section_unique (is_word_mark (codes "axioms")) Lines lines_unique)))))

  pub context_unique : (b : Bounds) (s : List Mark) (c d : RawComponent) → IsContext b s c → IsContext b s d → c ≡ d
  context_unique b s c d h k =
      let there : word (codes "context") h.place ∷ h.behind ≡ word (codes "context") k.place ∷ k.behind = sym h.head ∙ k.head in
      let tail : k.behind ≡ h.behind = cc in
      context_body_unique b h.behind c d h.rest k.rest h.body (subst (λ t. ContextBody b t d k.rest) tail k.body)
