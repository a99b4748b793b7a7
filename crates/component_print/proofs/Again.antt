-- The tokens of a printed component are read as the component, wherever they stand: its parts.
use Rattle.std.proofs.Common.{◌≡◌, ◌∙◌, ap, ℕ, List, [], ◌∷◌, ◌++◌, Bool, true, false, map, refl, sym, subst, append_assoc, cond, bytes_eq}
use Rattle.std.specs.Prelude.{Option, Some, None, codes}
use Rattle.std.specs.List.{AllByRecursion}
use Rattle.formula_core.specs.Names.{is_identifier}
use Rattle.formula_core.specs.declared.raw.Raw.{Raw}
use Rattle.formula_core.specs.declared.raw.RawAction.{RawAction}
use Rattle.formula_core.specs.declared.raw.Ref.{Ref}
use Rattle.math_grammar.specs.declared.holes.Hole.{Hole}
use Rattle.math_grammar.specs.declared.holes.Hole.TheVariants as hole
use Rattle.math_grammar.specs.declared.symbols.Symbol.TheVariants as symbol
use Rattle.math_grammar.specs.Tokens.{Item}
use Rattle.math_grammar.specs.Grammar.{item}
use Rattle.model_core.specs.declared.component.RawLabelled.{RawLabelled}
use Rattle.component_text.specs.Marks.{Mark, word, label, plain, is_word_mark, is_at}
use Rattle.component_text.specs.Forms.{Bounds, One, FormulaRun, Nothing, Choice, taken, other, no_more, one_more}
use Rattle.component_text.specs.Grammar.{IsFormula, first_place, IsPlaced, reference, is_reference, label_at, is_a_label, Names, SomeNames, labelled, LabelledPart, FormulaLine, begins_line, Lines, NamesBehind, SomeNamesBehind}
use Rattle.component_text.specs.Machines.{IsActionWithin}
use Rattle.component_text.proofs.Parts.{Ended, at_word, at_label, run_of, behind_of}
use Rattle.component_text.proofs.Whole.{same_word}
use Rattle.component_print.specs.Unplaced.{unplaced_labelled}
use Rattle.math_places.specs.Places.{unplaced, unplaced_action, unplaced_ref, unplaced_item}
use Rattle.raw_print.specs.Printing.{raw_tokens, action_tokens}
use Rattle.component_print.proofs.Made.{IsName, IsLine}
use Rattle.component_print.proofs.Marked.{name_mark, names_marks, theorem_marks, labelled_marks, line_marks, lines_marks, section_marks, unplaced_mark, split_one, split_both, none_left, word_placed, label_placed, plain_placed, items_placed}

-- one of these words stands first
pub data Follows : List (List ℕ) → List Mark → Type 0 where
  here : {w : List ℕ} {ws : List (List ℕ)} {p : ℕ} {s : List Mark} → Follows (w ∷ ws) (word w p ∷ s)
  there : {w : List ℕ} {ws : List (List ℕ)} {s : List Mark} → Follows ws s → Follows (w ∷ ws) s

pub ended : (ws : List (List ℕ)) (s : List Mark) → Follows ws s → Ended s
ended ws s here = at_word
ended ws s (there h) = ended _ s h

pub no_name : (ws : List (List ℕ)) (s : List Mark) → Follows ws s → is_at is_reference s ≡ false
no_name ws s here = refl
no_name ws s (there h) = no_name _ s h

-- none of these words is w
abbrev pub lacks : List ℕ → List (List ℕ) → Bool
lacks w [] = true
lacks w (v ∷ vs) = cond (bytes_eq v w) false (lacks w vs)

lacks_head : (w v : List ℕ) (vs : List (List ℕ)) → lacks w (v ∷ vs) ≡ true → (bytes_eq v w ≡ false) × (lacks w vs ≡ true)
lacks_head w v vs e = go (bytes_eq v w) refl e
  where
    go : (t : Bool) → bytes_eq v w ≡ t → cond t false (lacks w vs) ≡ true → (bytes_eq v w ≡ false) × (lacks w vs ≡ true)
    go true is k = cc
    go false is k = (is, k)

pub no_word : (w : List ℕ) (ws : List (List ℕ)) (s : List Mark) → Follows ws s → lacks w ws ≡ true → is_at (is_word_mark w) s ≡ false
no_word w [] s h e = elim h [ ]
no_word w (v ∷ vs) s here e = (lacks_head w v vs e).0
no_word w (v ∷ vs) s (there h) e = no_word w vs s h (lacks_head w v vs e).1

pub no_line : (ws : List (List ℕ)) (s : List Mark) → Follows ws s → lacks (codes "theorem") ws ≡ true → is_at begins_line s ≡ false
no_line [] s h e = elim h [ ]
no_line (v ∷ vs) s here e = (lacks_head (codes "theorem") v vs e).0
no_line (v ∷ vs) s (there h) e = no_line vs s h (lacks_head (codes "theorem") v vs e).1

pub no_label : (ws : List (List ℕ)) (s : List Mark) → Follows ws s → is_at is_a_label s ≡ false
no_label ws s here = refl
no_label ws s (there h) = no_label _ s h

-- A part is read again: from its tokens, at any places, where `before` holds of what stands behind.
abbrev pub ReadsAgain : {X : Type 0} → (List Mark → X → List Mark → Type 0) → (X → X) → List Mark → X → List Mark → Type 0
ReadsAgain {X} P u s x rest = (again : X) × P (s ++ rest) again rest × (u again ≡ u x)

name_again : (r : Ref) → IsName r → (x : Mark) → unplaced_mark x ≡ name_mark r → (again : Ref) × (reference x ≡ Some again) × (is_reference x ≡ true) × (unplaced_ref again ≡ unplaced_ref r)
name_again r h x e =
    let one = plain_placed x (item symbol.Word 0 r.name) e in
    let y : Item = one.0 in
    let text : y.text ≡ r.name = ap (λ i. i.text) one.2 in
    let valid : is_identifier y.text ≡ true = ap is_identifier text ∙ h in (
      record { name = y.text; place = y.from },
      ap reference one.1 ∙ ap (λ b. cond {A = Option Ref} b (Some (record { name = y.text; place = y.from })) None) valid,
      ap is_reference one.1 ∙ valid,
      (λ i. record { name = text i; place = 0 }),
    )

abbrev pub unplaced_pair : (Raw × ℕ) → (Raw × ℕ)
unplaced_pair x = (unplaced x.0, 0)

module _ (b : Bounds) where
  pub one_name : (r : Ref) → IsName r → (x : Mark) → unplaced_mark x ≡ name_mark r → (rest : List Mark) → ReadsAgain (One reference b) unplaced_ref (x ∷ []) r rest
  one_name r h x e rest = let n = name_again r h x e in (n.0, record { mark = x; there = refl; is = n.1 }, n.3)

  pub names_again : (rs : List Ref) → AllByRecursion IsName rs → (s : List Mark) → map unplaced_mark s ≡ map name_mark rs → (rest : List Mark) → is_at is_reference rest ≡ false →
      ReadsAgain (Names b) (map unplaced_ref) s rs rest
  names_again [] h s e rest isnt = ([], rw (none_left s e) (no_more isnt refl), refl)
  names_again (r ∷ rs) h s e rest isnt =
      let one = split_one s (name_mark r) (map name_mark rs) e in
      let n = name_again r h.0 one.0 one.3 in
      let more = names_again rs h.1 one.1 one.4 rest isnt in (
        n.0 ∷ more.0,
        subst (λ t. Names b (t ++ rest) (n.0 ∷ more.0) rest) (sym one.2) (one_more {m = one.1 ++ rest} n.2 (record { mark = one.0; there = refl; is = n.1 }) more.1),
        (λ i. n.3 i ∷ more.2 i),
      )

  some_names_again : (r : Ref) (rs : List Ref) → AllByRecursion IsName (r ∷ rs) → (s : List Mark) → map unplaced_mark s ≡ map name_mark (r ∷ rs) → (rest : List Mark) → is_at is_reference rest ≡ false →
      ReadsAgain (SomeNames b) (map unplaced_ref) s (r ∷ rs) rest
  some_names_again r rs h s e rest isnt =
      let one = split_one s (name_mark r) (map name_mark rs) e in
      let n = name_again r h.0 one.0 one.3 in
      let more = names_again rs h.1 one.1 one.4 rest isnt in (
        n.0 ∷ more.0,
        subst (λ t. SomeNames b (t ++ rest) (n.0 ∷ more.0) rest) (sym one.2)
            (record { from = (n.0, more.0); is = refl; part = record { middle = one.1 ++ rest; first = record { mark = one.0; there = refl; is = n.1 }; second = more.1 } }),
        (λ i. n.3 i ∷ more.2 i),
      )

  -- [word {name}]
  pub names_behind_again : (w : List ℕ) (rs : List Ref) → AllByRecursion IsName rs → (s : List Mark) → map unplaced_mark s ≡ names_marks w rs → (rest : List Mark) → is_at is_reference rest ≡ false → is_at (is_word_mark w) rest ≡ false →
      ReadsAgain (NamesBehind w b) (map unplaced_ref) s rs rest
  names_behind_again w [] h s e rest isnt free = ([], rw (none_left s e) (other free (record { is = refl; behind = refl })), refl)
  names_behind_again w (r ∷ rs) h s e rest isnt free =
      let one = split_one s (word w 0) (map name_mark (r ∷ rs)) e in
      let head = word_placed one.0 w one.3 in
      let names = names_again (r ∷ rs) h one.1 one.4 rest isnt in (
        names.0,
        subst (λ t. NamesBehind w b (t ++ rest) names.0 rest) (sym (one.2 ∙ ap (λ x. x ∷ one.1) head.1)) (taken (word w head.0) (one.1 ++ rest) refl (same_word w) names.1),
        names.2,
      )

  -- [word name {name}]
  pub some_names_behind_again : (w : List ℕ) (rs : List Ref) → AllByRecursion IsName rs → (s : List Mark) → map unplaced_mark s ≡ names_marks w rs → (rest : List Mark) → is_at is_reference rest ≡ false → is_at (is_word_mark w) rest ≡ false →
      ReadsAgain (SomeNamesBehind w b) (map unplaced_ref) s rs rest
  some_names_behind_again w [] h s e rest isnt free = ([], rw (none_left s e) (other free (record { is = refl; behind = refl })), refl)
  some_names_behind_again w (r ∷ rs) h s e rest isnt free =
      let one = split_one s (word w 0) (map name_mark (r ∷ rs)) e in
      let head = word_placed one.0 w one.3 in
      let names = some_names_again r rs h one.1 one.4 rest isnt in (
        names.0,
        subst (λ t. SomeNamesBehind w b (t ++ rest) names.0 rest) (sym (one.2 ∙ ap (λ x. x ∷ one.1) head.1)) (taken (word w head.0) (one.1 ++ rest) refl (same_word w) names.1),
        names.2,
      )

  -- what a printed formula spells
  abbrev pub FormulaAgain : (Hole → Raw → Type 0) → Type 0
  FormulaAgain IsGood = (h : Hole) (r : Raw) → IsGood h r → (s : List Item) → map unplaced_item s ≡ raw_tokens r → (again : Raw) × IsFormula h b s again × (unplaced again ≡ unplaced r)

  abbrev pub ActionAgain : (RawAction → Type 0) → Type 0
  ActionAgain IsGood = (a : RawAction) → IsGood a → (s : List Item) → map unplaced_item s ≡ action_tokens a → (again : RawAction) × IsActionWithin b s again × (unplaced_action again ≡ unplaced_action a)

  pub run_again : {X : Type 0} (F : Bounds → List Item → X → Type 0) (u : X → X) (x : X) (ys : List Item) → ((zs : List Item) → map unplaced_item zs ≡ ys → (again : X) × F b zs again × (u again ≡ u x)) →
      (s : List Mark) → map unplaced_mark s ≡ map plain ys → (rest : List Mark) → Ended rest → ReadsAgain (FormulaRun F b) u s x rest
  run_again F u x ys reads s e rest stop =
      let items = items_placed s ys e in
      let again = reads items.0 items.2 in
      let at : s ++ rest ≡ map plain items.0 ++ rest = ap (λ t. t ++ rest) items.1 in (
        again.0,
        subst (λ t. FormulaRun F b t again.0 rest) (sym at) (record { spelled = subst (λ f. F b f again.0) (sym (run_of items.0 rest stop)) again.1; behind = sym (behind_of items.0 rest stop) }),
        again.2,
      )

  module _ (IsGood : Hole → Raw → Type 0) (formulas : FormulaAgain IsGood) where
    -- with the place of its first token
    pub placed_again : (h : Hole) (x : Raw × ℕ) → IsGood h x.0 → (zs : List Item) → map unplaced_item zs ≡ raw_tokens x.0 → (again : Raw × ℕ) × IsPlaced h b zs again × (unplaced_pair again ≡ unplaced_pair x)
    placed_again h x good zs e = let k = formulas h x.0 good zs e in ((k.0, first_place zs), (k.1, refl), λ i. (k.2 i, 0))

    pub labelled_again : (theorem : Bool) (l : RawLabelled) → l.theorem ≡ theorem → IsLine IsGood l → (s : List Mark) → map unplaced_mark s ≡ labelled_marks l → (rest : List Mark) → Ended rest →
        ReadsAgain (LabelledPart theorem b) unplaced_labelled s l rest
    labelled_again theorem l own good s e rest stop =
        let one = split_one s (label l.label 0) (map plain (raw_tokens l.formula)) e in
        let head = label_placed one.0 l.label one.3 in
        let formula = run_again (IsPlaced hole.Predicate) unplaced_pair (l.formula, l.first) (raw_tokens l.formula) (placed_again hole.Predicate (l.formula, l.first) good.1) one.1 one.4 rest stop in
        let named : label_at one.0 ≡ Some (l.label, head.0) =
        ap label_at head.1 ∙ ap (λ t. cond {A = Option (List ℕ × ℕ)} t (Some (l.label, head.0)) None) good.0 in (
          labelled theorem ((l.label, head.0), formula.0),
          subst (λ t. LabelledPart theorem b (t ++ rest) (labelled theorem ((l.label, head.0), formula.0)) rest) (sym one.2)
              (record { from = ((l.label, head.0), formula.0); is = refl; part = record { middle = one.1 ++ rest; first = record { mark = one.0; there = refl; is = named }; second = formula.1 } }),
          (λ i. record { label = l.label; theorem = (sym own) i; formula = (formula.2 i).0; place = 0; first = 0 }),
        )

    line_again : (theorem : Bool) (l : RawLabelled) → l.theorem ≡ theorem → IsLine IsGood l → (s : List Mark) → map unplaced_mark s ≡ theorem_marks theorem ++ labelled_marks l → (rest : List Mark) → Ended rest →
        ReadsAgain (FormulaLine b) unplaced_labelled s l rest × (is_at begins_line (s ++ rest) ≡ true)
    line_again true l own good s e rest stop =
        let one = split_one s (word (codes "theorem") 0) (labelled_marks l) e in
        let head = word_placed one.0 (codes "theorem") one.3 in
        let at : s ≡ word (codes "theorem") head.0 ∷ one.1 = one.2 ∙ ap (λ x. x ∷ one.1) head.1 in
        let line = labelled_again true l own good one.1 one.4 rest stop in
        ((line.0, subst (λ t. FormulaLine b (t ++ rest) line.0 rest) (sym at) (taken (word (codes "theorem") head.0) (one.1 ++ rest) refl refl line.1), line.2), ap (λ t. is_at begins_line (t ++ rest)) at)
    line_again false l own good s e rest stop =
        let one = split_one s (label l.label 0) (map plain (raw_tokens l.formula)) e in
        let head = label_placed one.0 l.label one.3 in
        let at : s ≡ label l.label head.0 ∷ one.1 = one.2 ∙ ap (λ x. x ∷ one.1) head.1 in
        let line = labelled_again false l own good s e rest stop in
        ((line.0, other (ap (λ t. is_at (is_word_mark (codes "theorem")) (t ++ rest)) at) line.1, line.2), ap (λ t. is_at begins_line (t ++ rest)) at)

    -- a line, or what stands behind the lines, ends a formula
    pub lines_ended : (ls : List RawLabelled) (s : List Mark) → map unplaced_mark s ≡ lines_marks ls → (rest : List Mark) → Ended rest → Ended (s ++ rest)
    lines_ended [] s e rest stop = rw (none_left s e) stop
    lines_ended (l ∷ ls) s e rest stop = go l.theorem refl
      where
        go : (t : Bool) → l.theorem ≡ t → Ended (s ++ rest)
        go true is =
            let one = split_one s (word (codes "theorem") 0) (labelled_marks l ++ lines_marks ls) (e ∙ ap (λ t. (theorem_marks t ++ labelled_marks l) ++ lines_marks ls) is) in
            let head = word_placed one.0 (codes "theorem") one.3 in
            subst (λ t. Ended (t ++ rest)) (sym (one.2 ∙ ap (λ x. x ∷ one.1) head.1)) at_word
        go false is =
            let one = split_one s (label l.label 0) (map plain (raw_tokens l.formula) ++ lines_marks ls) (e ∙ ap (λ t. (theorem_marks t ++ labelled_marks l) ++ lines_marks ls) is) in
            let head = label_placed one.0 l.label one.3 in
            subst (λ t. Ended (t ++ rest)) (sym (one.2 ∙ ap (λ x. x ∷ one.1) head.1)) at_label

    lines_again : (ls : List RawLabelled) → AllByRecursion (IsLine IsGood) ls → (s : List Mark) → map unplaced_mark s ≡ lines_marks ls → (rest : List Mark) → Ended rest → is_at begins_line rest ≡ false →
        ReadsAgain (Lines b) (map unplaced_labelled) s ls rest
    lines_again [] good s e rest stop isnt = ([], rw (none_left s e) (no_more isnt refl), refl)
    lines_again (l ∷ ls) good s e rest stop isnt =
        let both = split_both s (line_marks l) (lines_marks ls) e in
        let more = lines_again ls good.1 both.1 both.4 rest stop isnt in
        let one = line_again l.theorem l refl good.0 both.0 both.3 (both.1 ++ rest) (lines_ended ls both.1 both.4 rest stop) in
        let at : s ++ rest ≡ both.0 ++ (both.1 ++ rest) = ap (λ t. t ++ rest) both.2 ∙ append_assoc both.0 both.1 rest in (
          one.0.0 ∷ more.0,
          subst (λ t. Lines b t (one.0.0 ∷ more.0) rest) (sym at) (one_more {m = both.1 ++ rest} one.1 one.0.1 more.1),
          (λ i. one.0.2 i ∷ more.2 i),
        )

    -- [word {line}], by one of two words
    pub section_again : (w : List ℕ) (test : Mark → Bool) → ((p : ℕ) → test (word w p) ≡ true) → (ls : List RawLabelled) → AllByRecursion (IsLine IsGood) ls → (s : List Mark) → map unplaced_mark s ≡ section_marks w ls →
        (rest : List Mark) → Ended rest → is_at begins_line rest ≡ false → is_at test rest ≡ false → ReadsAgain (Choice test Lines (Nothing []) b) (map unplaced_labelled) s ls rest
    section_again w test own [] good s e rest stop isnt free = ([], rw (none_left s e) (other free (record { is = refl; behind = refl })), refl)
    section_again w test own (l ∷ ls) good s e rest stop isnt free =
        let one = split_one s (word w 0) (lines_marks (l ∷ ls)) e in
        let head = word_placed one.0 w one.3 in
        let lines = lines_again (l ∷ ls) good one.1 one.4 rest stop isnt in (
          lines.0,
          subst (λ t. Choice test Lines (Nothing []) b (t ++ rest) lines.0 rest) (sym (one.2 ∙ ap (λ x. x ∷ one.1) head.1)) (taken (word w head.0) (one.1 ++ rest) refl (own head.0) lines.1),
          lines.2,
        )
