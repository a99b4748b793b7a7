-- The text of a component is its printed tokens with blanks between them.
use Rattle.std.proofs.Common.{◌≡◌, ◌∙◌, ap, ℕ, List, [], ◌∷◌, ◌++◌, Bool, true, false, map, refl, sym as back, subst, append_assoc, None, Some, Ok}
use Rattle.std.specs.Prelude.{Option, codes, bytes_eq, not, ◌&&◌, ◌==◌}
use Rattle.std.specs.Option.{option_to_list}
use Rattle.std.specs.List.{AllByRecursion, list_all, list_any}
use Rattle.std.proofs.lemmas.Bool.{eqb-true}
use Rattle.std.proofs.lemmas.Slice.Eq.{bytes_eq-Decides}
use Rattle.formula_core.specs.Names.{is_identifier, is_reserved, is_word, starts_word}
use Rattle.formula_core.specs.Texts.{is_label, begins_with}
use Rattle.formula_core.specs.declared.raw.Raw.{Raw}
use Rattle.formula_core.specs.declared.raw.RawAction.{RawAction}
use Rattle.formula_core.specs.declared.raw.Ref.{Ref}
use Rattle.math_tokens.specs.declared.lexemes.Lexeme.TheVariants as lexeme
use Rattle.math_tokens.specs.declared.cutting.TokenKind.TheVariants as kind
use Rattle.math_tokens.specs.Lexemes.{sign_in, is_token_word}
use Rattle.math_tokens.specs.SignForms.{sign_forms}
use Rattle.math_tokens.specs.Texts.{blank_length, meaning}
use Rattle.math_grammar.specs.declared.holes.Hole.{Hole}
use Rattle.math_grammar.specs.declared.holes.Hole.TheVariants as hole
use Rattle.math_grammar.specs.declared.symbols.Symbol.TheVariants as symbol
use Rattle.math_grammar.specs.Grammar.{item}
use Rattle.math_grammar.specs.Tokens.{Item, symbol_of}
use Rattle.model_core.specs.declared.component.Convergence.{Convergence}
use Rattle.model_core.specs.declared.component.Convergence.TheVariants.{Ordinary, Convergent, Anticipated}
use Rattle.model_core.specs.declared.component.RawLabelled.{RawLabelled}
use Rattle.model_core.specs.declared.component.RawVariant.{RawVariant}
use Rattle.model_core.specs.declared.component.RawStep.{RawStep}
use Rattle.model_core.specs.declared.component.RawEvent.{RawEvent}
use Rattle.model_core.specs.declared.component.RawComponent.{RawComponent}
use Rattle.model_core.specs.declared.component.RawComponent.TheVariants.{Context, Machine}
use Rattle.component_tokens.specs.Pieces.{at_sign}
use Rattle.component_text.specs.declared.words.TheConstants.{STRUCTURAL}
use Rattle.component_text.specs.Marks.{Mark, word, label, plain, is_structural, mark_by}
use Rattle.component_text.proofs.Marks.{by_plain}
use Rattle.component_text.proofs.Texts.{name_too}
use Rattle.token_text.proofs.Following.{stops, Follows}
use Rattle.token_text.proofs.Tokens.{NoneGoesOn}
use Rattle.token_text.proofs.Signs.{stop_word}
use Rattle.token_text.proofs.Names.{fits-name}
use Rattle.raw_print.specs.Printing.{raw_text, action_text}
use Rattle.component_print.specs.Printed.{names_text, names_line, theorem_text, labelled_line, labelled_lines, section, step_line, step_lines, steps_section, convergence_text, abstract_words, event_heading, event_text, event_texts, events_section, variant_line, heading_text, context_sections, machine_sections, component_text}
use Rattle.raw_print.specs.Printing.{raw_tokens, action_tokens}
use Rattle.component_print.proofs.Marked.{name_mark, names_marks, theorem_marks, labelled_marks, line_marks, lines_marks, section_marks, step_marks, step_lines_marks, steps_marks, convergence_marks, abstract_word, end_marks, event_body_marks, event_marks, event_list_marks, events_marks, variant_marks, component_marks}
use Rattle.component_print.proofs.Made.{IsName, IsLine, IsWitness, IsStep, IsAbstracts, IsEvent, IsRefined, IsVariant, IsMade}
use Rattle.component_print.proofs.Laying.{opens_no_piece, Laid, a_blank, a_token, a_label, the_end}

-- a structural word, before what stops
abbrev pub WordLaid : List ℕ → Type 0
WordLaid w = (s : List Mark) (t : List ℕ) → Follows stops t → Laid s t → Laid (word w 0 ∷ s) (w ++ t)

word_laid : (b : ℕ) (bs : List ℕ) → sign_in sign_forms (b ∷ bs) ≡ None → is_token_word (b ∷ bs) ≡ true → ((rest : List ℕ) → blank_length ((b ∷ bs) ++ rest) ≡ 0) → NoneGoesOn sign_forms (b ∷ bs) stops →
    ((at : ℕ) → meaning (b ∷ bs) lexeme.Word at ≡ Ok kind.Word) → begins_with at_sign (b ∷ bs) ≡ false → is_structural (b ∷ bs) ≡ true → opens_no_piece (b ∷ bs) ≡ true → WordLaid (b ∷ bs)
word_laid b bs no_sign is no_blank none means no_label structural opens s t f more =
    let x : Item = item (symbol_of kind.Word (b ∷ bs)) 0 (b ∷ bs) in
    let mark : mark_by (b ∷ bs) 0 x ≡ word (b ∷ bs) 0 = rw no_label (rw structural refl) in
    subst (λ m. Laid (m ∷ s) ((b ∷ bs) ++ t)) mark (a_token x (stop_word (symbol_of kind.Word (b ∷ bs)) b bs no_sign is no_blank none refl means t f) opens more)

-- the structural words that are printed
laid-context : WordLaid (codes "context")
laid-context = word_laid 99 (codes "ontext") refl refl (λ rest. refl) refl (λ at. refl) refl refl refl

laid-machine : WordLaid (codes "machine")
laid-machine = word_laid 109 (codes "achine") refl refl (λ rest. refl) refl (λ at. refl) refl refl refl

laid-extends : WordLaid (codes "extends")
laid-extends = word_laid 101 (codes "xtends") refl refl (λ rest. refl) refl (λ at. refl) refl refl refl

laid-sets : WordLaid (codes "sets")
laid-sets = word_laid 115 (codes "ets") refl refl (λ rest. refl) refl (λ at. refl) refl refl refl

laid-constants : WordLaid (codes "constants")
laid-constants = word_laid 99 (codes "onstants") refl refl (λ rest. refl) refl (λ at. refl) refl refl refl

laid-axioms : WordLaid (codes "axioms")
laid-axioms = word_laid 97 (codes "xioms") refl refl (λ rest. refl) refl (λ at. refl) refl refl refl

laid-end : WordLaid (codes "end")
laid-end = word_laid 101 (codes "nd") refl refl (λ rest. refl) refl (λ at. refl) refl refl refl

laid-refines : WordLaid (codes "refines")
laid-refines = word_laid 114 (codes "efines") refl refl (λ rest. refl) refl (λ at. refl) refl refl refl

laid-sees : WordLaid (codes "sees")
laid-sees = word_laid 115 (codes "ees") refl refl (λ rest. refl) refl (λ at. refl) refl refl refl

laid-variables : WordLaid (codes "variables")
laid-variables = word_laid 118 (codes "ariables") refl refl (λ rest. refl) refl (λ at. refl) refl refl refl

laid-invariants : WordLaid (codes "invariants")
laid-invariants = word_laid 105 (codes "nvariants") refl refl (λ rest. refl) refl (λ at. refl) refl refl refl

laid-variant : WordLaid (codes "variant")
laid-variant = word_laid 118 (codes "ariant") refl refl (λ rest. refl) refl (λ at. refl) refl refl refl

laid-events : WordLaid (codes "events")
laid-events = word_laid 101 (codes "vents") refl refl (λ rest. refl) refl (λ at. refl) refl refl refl

laid-event : WordLaid (codes "event")
laid-event = word_laid 101 (codes "vent") refl refl (λ rest. refl) refl (λ at. refl) refl refl refl

laid-any : WordLaid (codes "any")
laid-any = word_laid 97 (codes "ny") refl refl (λ rest. refl) refl (λ at. refl) refl refl refl

laid-where : WordLaid (codes "where")
laid-where = word_laid 119 (codes "here") refl refl (λ rest. refl) refl (λ at. refl) refl refl refl

laid-with : WordLaid (codes "with")
laid-with = word_laid 119 (codes "ith") refl refl (λ rest. refl) refl (λ at. refl) refl refl refl

laid-then : WordLaid (codes "then")
laid-then = word_laid 116 (codes "hen") refl refl (λ rest. refl) refl (λ at. refl) refl refl refl

laid-theorem : WordLaid (codes "theorem")
laid-theorem = word_laid 116 (codes "heorem") refl refl (λ rest. refl) refl (λ at. refl) refl refl refl

laid-convergent : WordLaid (codes "convergent")
laid-convergent = word_laid 99 (codes "onvergent") refl refl (λ rest. refl) refl (λ at. refl) refl refl refl

laid-anticipated : WordLaid (codes "anticipated")
laid-anticipated = word_laid 97 (codes "nticipated") refl refl (λ rest. refl) refl (λ at. refl) refl refl refl

-- blanks before what is laid
blank : (s : List Mark) (t : List ℕ) → Laid s t → Laid s (32 ∷ t)
blank s t more = a_blank 32 refl more

two_blanks : (s : List Mark) (t : List ℕ) → Laid s t → Laid s (codes "  " ++ t)
two_blanks s t more = blank s (32 ∷ t) (blank s t more)

four_blanks : (s : List Mark) (t : List ℕ) → Laid s t → Laid s (codes "    " ++ t)
four_blanks s t more = two_blanks s (codes "  " ++ t) (two_blanks s t more)

six_blanks : (s : List Mark) (t : List ℕ) → Laid s t → Laid s (codes "      " ++ t)
six_blanks s t more = two_blanks s (codes "    " ++ t) (four_blanks s t more)

new_line : (s : List Mark) (t : List ℕ) → Laid s t → Laid s (10 ∷ t)
new_line s t more = a_blank 10 refl more

-- words, with blanks before them, before what stops
abbrev pub WordsLaid : List ℕ → List ℕ → Type 0
WordsLaid words w = (s : List Mark) (t : List ℕ) → Follows stops t → Laid s t → Laid (word w 0 ∷ s) (words ++ t)

-- names
both_true : (a b : Bool) → (a && b) ≡ true → (a ≡ true) × (b ≡ true)
both_true true b h = (refl, h)
both_true false b h = cc

none_among : {X : Type 0} (word_of : X → List ℕ) (table : List X) (n : List ℕ) → is_reserved n ≡ false → list_all (λ w. is_reserved (word_of w)) table ≡ true → list_any (λ w. bytes_eq (word_of w) n) table ≡ false
none_among word_of [] n h e = refl
none_among word_of (w ∷ table) n h e =
    let parts : (is_reserved (word_of w) ≡ true) × (list_all (λ v. is_reserved (word_of v)) table ≡ true) = both_true _ _ e in
    go (bytes_eq (word_of w) n) refl parts.0 (none_among word_of table n h parts.1)
  where
    go : (b : Bool) → bytes_eq (word_of w) n ≡ b → is_reserved (word_of w) ≡ true → list_any (λ v. bytes_eq (word_of v) n) table ≡ false → list_any (λ v. bytes_eq (word_of v) n) (w ∷ table) ≡ false
    go true is reserved more = let contra : true ≡ false = back reserved ∙ ap is_reserved ((bytes_eq-Decides (word_of w) n).0 is) ∙ h in cc
    go false is reserved more = rw is more

not_reserved : (b : Bool) → not b ≡ true → b ≡ false
not_reserved true h = cc
not_reserved false h = refl

no_structural : (n : List ℕ) → is_identifier n ≡ true → is_structural n ≡ false
no_structural n h = none_among (λ w. w.now) STRUCTURAL n (not_reserved _ (both_true (is_word n) (not (is_reserved n)) h).1) refl

starts_other : (c x : ℕ) → starts_word c ≡ true → starts_word x ≡ false → (c == x) ≡ false
starts_other c x h k = go (c == x) refl
  where
    go : (b : Bool) → (c == x) ≡ b → (c == x) ≡ false
    go true is = let contra : true ≡ false = back h ∙ ap starts_word (eqb-true c x is) ∙ k in cc
    go false is = is

word_opens : (n : List ℕ) → is_word n ≡ true → (opens_no_piece n ≡ true) × (begins_with at_sign n ≡ false)
word_opens [] h = cc
word_opens (c ∷ cs) h =
    let starts : starts_word c ≡ true = (both_true (starts_word c) _ (both_true _ _ h).0).0 in
    let no_label : (c == 64) ≡ false = starts_other c 64 starts refl in
    let no_comment : (c == 47) ≡ false = starts_other c 47 starts refl in
    (rw no_label (rw no_comment refl), no_label)

name_laid : (r : Ref) → IsName r → (s : List Mark) (t : List ℕ) → Follows stops t → Laid s t → Laid (name_mark r ∷ s) (r.name ++ t)
name_laid r h s t f more =
    let opens = word_opens r.name (both_true (is_word r.name) (not (is_reserved r.name)) h).0 in
    let x : Item = item symbol.Word 0 r.name in
    subst (λ m. Laid (m ∷ s) (r.name ++ t)) (by_plain r.name 0 x opens.1 (no_structural r.name h)) (a_token x (fits-name r.name (name_too r.name h) t f) opens.0 more)

names_stop : (rs : List Ref) (t : List ℕ) → Follows stops t → Follows stops (names_text rs ++ t)
names_stop [] t f = f
names_stop (r ∷ rs) t f = refl

names_laid : (rs : List Ref) → AllByRecursion IsName rs → (s : List Mark) (t : List ℕ) → Follows stops t → Laid s t → Laid (map name_mark rs ++ s) (names_text rs ++ t)
names_laid [] h s t f more = more
names_laid (r ∷ rs) h s t f more =
    let later : Laid (map name_mark rs ++ s) (names_text rs ++ t) = names_laid rs h.1 s t f more in
    let one : Laid (map name_mark (r ∷ rs) ++ s) (r.name ++ (names_text rs ++ t)) = name_laid r h.0 (map name_mark rs ++ s) (names_text rs ++ t) (names_stop rs t f) later in
    subst (λ u. Laid (map name_mark (r ∷ rs) ++ s) (32 ∷ u)) (back (append_assoc r.name (names_text rs) t)) (blank _ _ one)

names_line_laid : (words w : List ℕ) → WordsLaid words w → (rs : List Ref) → AllByRecursion IsName rs → (s : List Mark) (t : List ℕ) → Laid s t → Laid (names_marks w rs ++ s) (names_line words rs ++ t)
names_line_laid words w lead [] h s t more = more
names_line_laid words w lead (r ∷ rs) h s t more =
    let names : Laid (map name_mark (r ∷ rs) ++ s) (names_text (r ∷ rs) ++ (10 ∷ t)) = names_laid (r ∷ rs) h s (10 ∷ t) refl (new_line s t more) in
    let whole : Laid (names_marks w (r ∷ rs) ++ s) (words ++ (names_text (r ∷ rs) ++ (10 ∷ t))) = lead _ _ refl names in
    let inner : (names_text (r ∷ rs) ++ codes "\n") ++ t ≡ names_text (r ∷ rs) ++ (10 ∷ t) = append_assoc (names_text (r ∷ rs)) (codes "\n") t in
    subst (λ u. Laid (names_marks w (r ∷ rs) ++ s) u) (back (append_assoc words (names_text (r ∷ rs) ++ codes "\n") t ∙ ap (λ u. words ++ u) inner)) whole

push : {X : Type 0} (a b t c : List X) → b ++ t ≡ c → (a ++ b) ++ t ≡ a ++ c
push a b t c e = append_assoc a b t ∙ ap (λ u. a ++ u) e

-- what is printed of formulas and actions
module _ (IsGood : Hole → Raw → Type 0) (IsGoodAction : RawAction → Type 0)
    (formula_laid : (h : Hole) (r : Raw) → IsGood h r → (s : List Mark) (t : List ℕ) → Laid s (10 ∷ t) → Laid (map plain (raw_tokens r) ++ s) (raw_text r ++ (10 ∷ t)))
    (action_laid : (a : RawAction) → IsGoodAction a → (s : List Mark) (t : List ℕ) → Laid s (10 ∷ t) → Laid (map plain (action_tokens a) ++ s) (action_text a ++ (10 ∷ t))) where
  -- a label and what stands behind it on its line
  label_laid : (l : List ℕ) → is_label l ≡ true → (s : List Mark) (t : List ℕ) → Laid s t → Laid (label l 0 ∷ s) (64 ∷ (l ++ (32 ∷ t)))
  label_laid l h s t more = a_label l h refl (blank s t more)

  theorem_laid : (theorem : Bool) (s : List Mark) (t : List ℕ) → Laid s t → Laid (theorem_marks theorem ++ s) (theorem_text theorem ++ t)
  theorem_laid true s t more = laid-theorem s (32 ∷ t) refl (blank s t more)
  theorem_laid false s t more = more

  labelled_laid : (margin : List ℕ) → ((s : List Mark) (t : List ℕ) → Laid s t → Laid s (margin ++ t)) → (l : RawLabelled) → IsLine IsGood l → (s : List Mark) (t : List ℕ) → Laid s t → Laid (line_marks l ++ s) (labelled_line margin l ++ t)
  labelled_laid margin indent l good s t more =
      let formula : Laid (map plain (raw_tokens l.formula) ++ s) (raw_text l.formula ++ (10 ∷ t)) = formula_laid hole.Predicate l.formula good.1 s t (new_line s t more) in
      let named : Laid (labelled_marks l ++ s) (64 ∷ (l.label ++ (32 ∷ (raw_text l.formula ++ (10 ∷ t))))) = label_laid l.label good.0 _ _ formula in
      let whole : Laid (theorem_marks l.theorem ++ (labelled_marks l ++ s)) (margin ++ (theorem_text l.theorem ++ (64 ∷ (l.label ++ (32 ∷ (raw_text l.formula ++ (10 ∷ t))))))) = indent _ _ (theorem_laid l.theorem _ _ named) in
      let e0 : (raw_text l.formula ++ codes "\n") ++ t ≡ raw_text l.formula ++ (10 ∷ t) = append_assoc (raw_text l.formula) (codes "\n") t in
      let e1 : (l.label ++ (codes " " ++ (raw_text l.formula ++ codes "\n"))) ++ t ≡ l.label ++ (32 ∷ (raw_text l.formula ++ (10 ∷ t))) =
      append_assoc l.label (codes " " ++ (raw_text l.formula ++ codes "\n")) t ∙ ap (λ u. l.label ++ (32 ∷ u)) e0 in
      let e2 : (theorem_text l.theorem ++ (codes "@" ++ (l.label ++ (codes " " ++ (raw_text l.formula ++ codes "\n"))))) ++ t ≡ theorem_text l.theorem ++ (64 ∷ (l.label ++ (32 ∷ (raw_text l.formula ++ (10 ∷ t))))) =
      append_assoc (theorem_text l.theorem) (codes "@" ++ (l.label ++ (codes " " ++ (raw_text l.formula ++ codes "\n")))) t ∙ ap (λ u. theorem_text l.theorem ++ (64 ∷ u)) e1 in
      let e3 : labelled_line margin l ++ t ≡ margin ++ (theorem_text l.theorem ++ (64 ∷ (l.label ++ (32 ∷ (raw_text l.formula ++ (10 ∷ t)))))) =
      append_assoc margin (theorem_text l.theorem ++ (codes "@" ++ (l.label ++ (codes " " ++ (raw_text l.formula ++ codes "\n"))))) t ∙ ap (λ u. margin ++ u) e2 in
      subst (λ u. Laid u (labelled_line margin l ++ t)) (back (append_assoc (theorem_marks l.theorem) (labelled_marks l) s)) (subst (λ u. Laid (theorem_marks l.theorem ++ (labelled_marks l ++ s)) u) (back e3) whole)

  labelled_lines_laid : (margin : List ℕ) → ((s : List Mark) (t : List ℕ) → Laid s t → Laid s (margin ++ t)) → (ls : List RawLabelled) → AllByRecursion (IsLine IsGood) ls → (s : List Mark) (t : List ℕ) → Laid s t →
      Laid (lines_marks ls ++ s) (labelled_lines margin ls ++ t)
  labelled_lines_laid margin indent [] good s t more = more
  labelled_lines_laid margin indent (l ∷ ls) good s t more =
      let later : Laid (lines_marks ls ++ s) (labelled_lines margin ls ++ t) = labelled_lines_laid margin indent ls good.1 s t more in
      let one : Laid (line_marks l ++ (lines_marks ls ++ s)) (labelled_line margin l ++ (labelled_lines margin ls ++ t)) = labelled_laid margin indent l good.0 _ _ later in
      subst (λ u. Laid u (labelled_lines margin (l ∷ ls) ++ t)) (back (append_assoc (line_marks l) (lines_marks ls) s))
      (subst (λ u. Laid (line_marks l ++ (lines_marks ls ++ s)) u) (back (append_assoc (labelled_line margin l) (labelled_lines margin ls) t)) one)

  section_laid : (words w margin : List ℕ) → WordsLaid words w → ((s : List Mark) (t : List ℕ) → Laid s t → Laid s (margin ++ t)) → (ls : List RawLabelled) → AllByRecursion (IsLine IsGood) ls → (s : List Mark) (t : List ℕ) → Laid s t →
      Laid (section_marks w ls ++ s) (section words margin ls ++ t)
  section_laid words w margin lead indent [] good s t more = more
  section_laid words w margin lead indent (l ∷ ls) good s t more =
      let lines : Laid (lines_marks (l ∷ ls) ++ s) (labelled_lines margin (l ∷ ls) ++ t) = labelled_lines_laid margin indent (l ∷ ls) good s t more in
      let whole : Laid (section_marks w (l ∷ ls) ++ s) (words ++ (10 ∷ (labelled_lines margin (l ∷ ls) ++ t))) = lead _ _ refl (new_line _ _ lines) in
      subst (λ u. Laid (section_marks w (l ∷ ls) ++ s) u) (back (append_assoc words (codes "\n" ++ labelled_lines margin (l ∷ ls)) t)) whole

  step_laid : (a : RawStep) → IsStep IsGood IsGoodAction a → (s : List Mark) (t : List ℕ) → Laid s t → Laid (step_marks a ++ s) (step_line a ++ t)
  step_laid a good s t more =
      let act : Laid (map plain (action_tokens a.action) ++ s) (action_text a.action ++ (10 ∷ t)) = action_laid a.action good.1 s t (new_line s t more) in
      let whole : Laid (step_marks a ++ s) (codes "      @" ++ (a.label ++ (32 ∷ (action_text a.action ++ (10 ∷ t))))) = six_blanks _ _ (label_laid a.label good.0 _ _ act) in
      let e0 : (action_text a.action ++ codes "\n") ++ t ≡ action_text a.action ++ (10 ∷ t) = append_assoc (action_text a.action) (codes "\n") t in
      let e1 : (a.label ++ (codes " " ++ (action_text a.action ++ codes "\n"))) ++ t ≡ a.label ++ (32 ∷ (action_text a.action ++ (10 ∷ t))) =
      append_assoc a.label (codes " " ++ (action_text a.action ++ codes "\n")) t ∙ ap (λ u. a.label ++ (32 ∷ u)) e0 in
      subst (λ u. Laid (step_marks a ++ s) u) (back (ap (λ u. codes "      @" ++ u) e1)) whole

  step_lines_laid : (acts : List RawStep) → AllByRecursion (IsStep IsGood IsGoodAction) acts → (s : List Mark) (t : List ℕ) → Laid s t → Laid (step_lines_marks acts ++ s) (step_lines acts ++ t)
  step_lines_laid [] good s t more = more
  step_lines_laid (a ∷ acts) good s t more =
      let one : Laid (step_marks a ++ (step_lines_marks acts ++ s)) (step_line a ++ (step_lines acts ++ t)) = step_laid a good.0 _ _ (step_lines_laid acts good.1 s t more) in
      subst (λ u. Laid u (step_lines (a ∷ acts) ++ t)) (back (append_assoc (step_marks a) (step_lines_marks acts) s))
      (subst (λ u. Laid (step_marks a ++ (step_lines_marks acts ++ s)) u) (back (append_assoc (step_line a) (step_lines acts) t)) one)

  steps_laid : (acts : List RawStep) → AllByRecursion (IsStep IsGood IsGoodAction) acts → (s : List Mark) (t : List ℕ) → Laid s t → Laid (steps_marks acts ++ s) (steps_section acts ++ t)
  steps_laid [] good s t more = more
  steps_laid (a ∷ acts) good s t more = four_blanks _ _ (laid-then _ _ refl (new_line _ _ (step_lines_laid (a ∷ acts) good s t more)))

  convergence_laid : (c : Convergence) (s : List Mark) (t : List ℕ) → Laid s t → Laid (convergence_marks c ++ s) (convergence_text c ++ t)
  convergence_laid Ordinary s t more = more
  convergence_laid Convergent s t more = laid-convergent s (32 ∷ t) refl (blank s t more)
  convergence_laid Anticipated s t more = laid-anticipated s (32 ∷ t) refl (blank s t more)

  -- the names of the abstract events
  abstract_names : (extended : Bool) (rs : List Ref) → IsAbstracts extended rs → AllByRecursion IsName rs
  abstract_names true rs good = subst (AllByRecursion IsName) (back good.1) (good.2, tt)
  abstract_names false rs good = good

  abstract_lead : (extended : Bool) → WordsLaid (abstract_words extended) (abstract_word extended)
  abstract_lead true s t f more = four_blanks _ _ (laid-extends s t f more)
  abstract_lead false s t f more = four_blanks _ _ (laid-refines s t f more)

  witness_lines : (ls : List RawLabelled) → AllByRecursion (IsWitness IsGood) ls → AllByRecursion (IsLine IsGood) ls
  witness_lines [] h = tt
  witness_lines (l ∷ ls) h = (h.0.1, witness_lines ls h.1)

  event_laid : (x : RawEvent) → IsEvent IsGood IsGoodAction x → (s : List Mark) (t : List ℕ) → Laid s t → Laid (event_marks x ++ s) (event_text x ++ t)
  event_laid x good s t more =
      let A : List ℕ = names_line (abstract_words x.extended) x.refines in
      let P : List ℕ = names_line (codes "    any") x.params in
      let G : List ℕ = section (codes "    where") (codes "      ") x.guards in
      let W : List ℕ = section (codes "    with") (codes "      ") x.witnesses in
      let S : List ℕ = steps_section x.actions in
      let a : List Mark = names_marks (abstract_word x.extended) x.refines in
      let p : List Mark = names_marks (codes "any") x.params in
      let g : List Mark = section_marks (codes "where") x.guards in
      let w : List Mark = section_marks (codes "with") x.witnesses in
      let k : List Mark = steps_marks x.actions in
      let l0 : Laid (end_marks ++ s) (codes "  end\n" ++ t) = two_blanks _ _ (laid-end s (10 ∷ t) refl (new_line s t more)) in
      let l1 : Laid (k ++ (end_marks ++ s)) (S ++ (codes "  end\n" ++ t)) = steps_laid x.actions good.actions _ _ l0 in
      let l2 : Laid (w ++ (k ++ (end_marks ++ s))) (W ++ (S ++ (codes "  end\n" ++ t))) =
      section_laid (codes "    with") (codes "with") (codes "      ") (λ m u f i. four_blanks _ _ (laid-with m u f i)) six_blanks x.witnesses (witness_lines x.witnesses good.witnesses) _ _ l1 in
      let l3 : Laid (g ++ (w ++ (k ++ (end_marks ++ s)))) (G ++ (W ++ (S ++ (codes "  end\n" ++ t)))) =
      section_laid (codes "    where") (codes "where") (codes "      ") (λ m u f i. four_blanks _ _ (laid-where m u f i)) six_blanks x.guards good.guards _ _ l2 in
      let l4 : Laid (p ++ (g ++ (w ++ (k ++ (end_marks ++ s))))) (P ++ (G ++ (W ++ (S ++ (codes "  end\n" ++ t))))) =
      names_line_laid (codes "    any") (codes "any") (λ m u f i. four_blanks _ _ (laid-any m u f i)) x.params good.params _ _ l3 in
      let l5 : Laid (a ++ (p ++ (g ++ (w ++ (k ++ (end_marks ++ s)))))) (A ++ (P ++ (G ++ (W ++ (S ++ (codes "  end\n" ++ t)))))) =
      names_line_laid (abstract_words x.extended) (abstract_word x.extended) (abstract_lead x.extended) x.refines (abstract_names x.extended x.refines good.abstracts) _ _ l4 in
      let rest : List ℕ = A ++ (P ++ (G ++ (W ++ (S ++ (codes "  end\n" ++ t))))) in
      let l6 : Laid (name_mark x.name ∷ (a ++ (p ++ (g ++ (w ++ (k ++ (end_marks ++ s))))))) (x.name.name ++ (10 ∷ rest)) = name_laid x.name good.name _ _ refl (new_line _ _ l5) in
      let l7 : Laid (word (codes "event") 0 ∷ (name_mark x.name ∷ (a ++ (p ++ (g ++ (w ++ (k ++ (end_marks ++ s)))))))) (codes "event " ++ (x.name.name ++ (10 ∷ rest))) = laid-event _ _ refl (blank _ _ l6) in
      let l8 = two_blanks _ _ (convergence_laid x.convergence _ _ l7) in
      let marks : event_body_marks x ++ s ≡ word (codes "event") 0 ∷ (name_mark x.name ∷ (a ++ (p ++ (g ++ (w ++ (k ++ (end_marks ++ s))))))) =
      ap (λ u. word (codes "event") 0 ∷ (name_mark x.name ∷ u)) (push a _ s _ (push p _ s _ (push g _ s _ (push w _ s _ (push k end_marks s _ refl))))) in
      let heading : event_heading x ++ rest ≡ codes "  " ++ (convergence_text x.convergence ++ (codes "event " ++ (x.name.name ++ (10 ∷ rest)))) =
      push (codes "  ") _ rest _ (push (convergence_text x.convergence) _ rest _ (push (codes "event ") _ rest _ (push x.name.name (codes "\n") rest _ refl))) in
      let text : event_text x ++ t ≡ codes "  " ++ (convergence_text x.convergence ++ (codes "event " ++ (x.name.name ++ (10 ∷ rest)))) =
      push (event_heading x) _ t _ (push A _ t _ (push P _ t _ (push G _ t _ (push W _ t _ (push S (codes "  end\n") t _ refl))))) ∙ heading in
      subst (λ u. Laid u (event_text x ++ t)) (back (push (convergence_marks x.convergence) (event_body_marks x) s _ marks))
      (subst (λ u. Laid (convergence_marks x.convergence ++ (word (codes "event") 0 ∷ (name_mark x.name ∷ (a ++ (p ++ (g ++ (w ++ (k ++ (end_marks ++ s))))))))) u) (back text) l8)

  event_texts_laid : (es : List RawEvent) → AllByRecursion (IsEvent IsGood IsGoodAction) es → (s : List Mark) (t : List ℕ) → Laid s t → Laid (event_list_marks es ++ s) (event_texts es ++ t)
  event_texts_laid [] good s t more = more
  event_texts_laid (x ∷ es) good s t more =
      let one : Laid (event_marks x ++ (event_list_marks es ++ s)) (event_text x ++ (event_texts es ++ t)) = event_laid x good.0 _ _ (event_texts_laid es good.1 s t more) in
      subst (λ u. Laid u (event_texts (x ∷ es) ++ t)) (back (append_assoc (event_marks x) (event_list_marks es) s))
      (subst (λ u. Laid (event_marks x ++ (event_list_marks es ++ s)) u) (back (append_assoc (event_text x) (event_texts es) t)) one)

  events_laid : (es : List RawEvent) → AllByRecursion (IsEvent IsGood IsGoodAction) es → (s : List Mark) (t : List ℕ) → Laid s t → Laid (events_marks es ++ s) (events_section es ++ t)
  events_laid [] good s t more = more
  events_laid (x ∷ es) good s t more = laid-events _ _ refl (new_line _ _ (event_texts_laid (x ∷ es) good s t more))

  variant_laid : (o : Option RawVariant) → IsVariant IsGood o → (s : List Mark) (t : List ℕ) → Laid s t → Laid (variant_marks o ++ s) (variant_line o ++ t)
  variant_laid None good s t more = more
  variant_laid (Some r) good s t more =
      let formula : Laid (map plain (raw_tokens r.formula) ++ s) (raw_text r.formula ++ (10 ∷ t)) = formula_laid hole.Expression r.formula good s t (new_line s t more) in
      subst (λ u. Laid (variant_marks (Some r) ++ s) u) (back (push (codes "variant ") (raw_text r.formula ++ codes "\n") t _ (push (raw_text r.formula) (codes "\n") t _ refl))) (laid-variant _ _ refl (blank _ _ formula))

  refined_names : (o : Option Ref) → IsRefined o → AllByRecursion IsName (option_to_list o)
  refined_names None h = tt
  refined_names (Some r) h = (h, tt)

  end_laid : Laid end_marks (codes "end\n")
  end_laid = laid-end [] (10 ∷ []) refl (new_line [] [] the_end)

  -- the printed text of a component is its printed tokens
  pub component_laid : (c : RawComponent) → IsMade IsGood IsGoodAction c → Laid (component_marks c) (component_text c)
  component_laid (Context name extends sets constants axioms) good =
      let E : List ℕ = names_line (codes "extends") extends in
      let S : List ℕ = names_line (codes "sets") sets in
      let C : List ℕ = names_line (codes "constants") constants in
      let A : List ℕ = section (codes "axioms") (codes "  ") axioms in
      let l0 = section_laid (codes "axioms") (codes "axioms") (codes "  ") laid-axioms two_blanks axioms good.4 _ _ end_laid in
      let l1 = names_line_laid (codes "constants") (codes "constants") laid-constants constants good.3 _ _ l0 in
      let l2 = names_line_laid (codes "sets") (codes "sets") laid-sets sets good.2 _ _ l1 in
      let l3 = names_line_laid (codes "extends") (codes "extends") laid-extends extends good.1 _ _ l2 in
      let rest : List ℕ = E ++ (S ++ (C ++ (A ++ codes "end\n"))) in
      let whole : Laid (component_marks (Context name extends sets constants axioms)) (codes "context " ++ (name.name ++ (10 ∷ rest))) = laid-context _ _ refl (blank _ _ (name_laid name good.0 _ _ refl (new_line _ _ l3))) in
      let sections : context_sections extends sets constants axioms ++ codes "end\n" ≡ rest = push E _ _ _ (push S _ _ _ (push C A (codes "end\n") _ refl)) in
      let text : component_text (Context name extends sets constants axioms) ≡ codes "context " ++ (name.name ++ (10 ∷ rest)) =
      ap (λ u. heading_text (codes "context ") name ++ u) sections ∙ push (codes "context ") _ rest _ (push name.name (codes "\n") rest _ refl) in
      subst (Laid (component_marks (Context name extends sets constants axioms))) (back text) whole
  component_laid (Machine name refines sees variables invariants variant events) good =
      let R : List ℕ = names_line (codes "refines") (option_to_list refines) in
      let S : List ℕ = names_line (codes "sees") sees in
      let V : List ℕ = names_line (codes "variables") variables in
      let I : List ℕ = section (codes "invariants") (codes "  ") invariants in
      let M : List ℕ = variant_line variant in
      let E : List ℕ = events_section events in
      let l0 = events_laid events good.6 _ _ end_laid in
      let l1 = variant_laid variant good.5 _ _ l0 in
      let l2 = section_laid (codes "invariants") (codes "invariants") (codes "  ") laid-invariants two_blanks invariants good.4 _ _ l1 in
      let l3 = names_line_laid (codes "variables") (codes "variables") laid-variables variables good.3 _ _ l2 in
      let l4 = names_line_laid (codes "sees") (codes "sees") laid-sees sees good.2 _ _ l3 in
      let l5 = names_line_laid (codes "refines") (codes "refines") laid-refines (option_to_list refines) (refined_names refines good.1) _ _ l4 in
      let rest : List ℕ = R ++ (S ++ (V ++ (I ++ (M ++ (E ++ codes "end\n"))))) in
      let whole : Laid (component_marks (Machine name refines sees variables invariants variant events)) (codes "machine " ++ (name.name ++ (10 ∷ rest))) = laid-machine _ _ refl (blank _ _ (name_laid name good.0 _ _ refl (new_line _ _ l5))) in
      let sections : machine_sections refines sees variables invariants variant events ++ codes "end\n" ≡ rest = push R _ _ _ (push S _ _ _ (push V _ _ _ (push I _ _ _ (push M E (codes "end\n") _ refl)))) in
      let text : component_text (Machine name refines sees variables invariants variant events) ≡ codes "machine " ++ (name.name ++ (10 ∷ rest)) =
      ap (λ u. heading_text (codes "machine ") name ++ u) sections ∙ push (codes "machine ") _ rest _ (push name.name (codes "\n") rest _ refl) in
      subst (Laid (component_marks (Machine name refines sees variables invariants variant events))) (back text) whole
