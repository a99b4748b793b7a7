-- What some text spells is printed, and its text reads back.
use Rattle.std.proofs.Common.{◌≡◌, ◌∙◌, sym as back, ap, subst, refl, ℕ, true, List, [], ◌∷◌, ◌++◌, map, None, append-nil}
use Rattle.std.specs.Prelude.{Option}
use Rattle.std.specs.List.{AllByRecursion}
use Rattle.formula_core.specs.declared.raw.Raw.{Raw}
use Rattle.formula_core.specs.declared.raw.RawAction.{RawAction}
use Rattle.math_tokens.specs.declared.cutting.Token.{Token}
use Rattle.math_grammar.specs.declared.holes.Hole.{Hole}
use Rattle.math_grammar.specs.Tokens.{Item}
use Rattle.math_grammar.specs.Grammar.{item, Spells}
use Rattle.math_grammar.specs.Actions.{SpellsAction}
use Rattle.formula_parse.specs.Limits.{most_parts}
use Rattle.math_places.specs.Places.{unplaced_item, AlikeTokens, unplaced, unplaced_action}
use Rattle.math_places.proofs.Spelled.{spelled_again as spelled_elsewhere}
use Rattle.math_places.proofs.Actions.{action_spelled_again}
use Rattle.math_places.proofs.Twice.{unplaced_twice, action_twice}
use Rattle.model_core.specs.declared.component.RawComponent.{RawComponent}
use Rattle.component_tokens.specs.declared.piece.CutFault.{CutFault}
use Rattle.component_tokens.specs.Pieces.{CutInto}
use Rattle.component_text.specs.Marks.{Mark, plain, marks_of}
use Rattle.component_text.specs.Forms.{limits, parts, none}
use Rattle.component_text.specs.Grammar.{IsFormula}
use Rattle.component_text.specs.Machines.{IsActionWithin}
use Rattle.component_text.proofs.Looser.{formula_looser, action_looser}
use Rattle.component_text.proofs.Unique.{OneFormula}
use Rattle.component_text.proofs.Once.{OneAction}
use Rattle.token_text.specs.Pieces.{Piece, Blank, Token as TokenPiece, text_of, tokens_of}
use Rattle.raw_print.specs.Printing.{pieces, action_pieces, raw_tokens, action_tokens, raw_text, action_text}
use Rattle.raw_print.specs.Back.{IsProperItem, AllProper}
use Rattle.raw_print.specs.Back.{is_whole}
use Rattle.raw_print.proofs.Spelled.{spelled_again}
use Rattle.raw_print.proofs.ActionsSpelled.{action_spelled}
use Rattle.component_print.specs.Printed.{component_text}
use Rattle.component_print.specs.Back.{IsReadable, IsReread}
use Rattle.component_print.proofs.Marked.{component_marks}
use Rattle.component_print.proofs.Made.{IsMade, component_made}
use Rattle.component_print.proofs.FromText.{small_marks}
use Rattle.component_print.proofs.AgainMachines.{component_again}
use Rattle.component_print.proofs.Laying.{Laid, laid_cut}
use Rattle.component_print.proofs.Chains.{Chain, chain_end, chain_laid, Printed}
use Rattle.component_print.proofs.Derived.{reads}
use Rattle.component_print.proofs.Actions.{action_printed}
use Rattle.component_print.proofs.Texts.{component_laid}
use Rattle.component_print.proofs.Back.{read_again}

-- some tokens of a text spell it
abbrev IsGood : Hole → Raw → Type 0
IsGood h r = (is_whole h ≡ true) × (tokens : List Item) × AllProper tokens × Spells most_parts h tokens r

abbrev IsGoodAction : RawAction → Type 0
IsGoodAction a = (tokens : List Item) × AllProper tokens × SpellsAction most_parts tokens a

formula_good : (h : Hole) (s : List Item) (t : Raw) → is_whole h ≡ true → AllByRecursion IsProperItem s → IsFormula h limits s t → IsGood h t
formula_good h s t whole all k = (whole, s, all, k.0)

action_good : (s : List Item) (a : RawAction) → AllByRecursion IsProperItem s → IsActionWithin limits s a → IsGoodAction a
action_good s a all k = (s, all, k.0)

-- printed tokens have no places
tokens_unplaced : (ps : List Piece) → map unplaced_item (tokens_of ps) ≡ tokens_of ps
tokens_unplaced [] = refl
tokens_unplaced (Blank ∷ ps) = tokens_unplaced ps
tokens_unplaced (TokenPiece x w ∷ ps) = ap (λ s. item x 0 w ∷ s) (tokens_unplaced ps)

module _ (limit : Option ℕ) where
  formula_elsewhere : (h : Hole) (r : Raw) (tokens : List Item) → is_whole h ≡ true → AllProper tokens → Spells limit h tokens r → (s : List Item) → map unplaced_item s ≡ raw_tokens r →
      (again : Raw) × Spells limit h s again × (unplaced again ≡ unplaced r)
  formula_elsewhere h r tokens whole all k s e =
      let alike : AlikeTokens (raw_tokens r) s = tokens_unplaced (pieces r) ∙ back e in
      let other = spelled_elsewhere limit h (raw_tokens r) s (unplaced r) alike (spelled_again limit h tokens r whole k all) in
      (other.0, other.1, other.2 ∙ unplaced_twice r)

  action_elsewhere : (a : RawAction) (tokens : List Item) → AllProper tokens → SpellsAction limit tokens a → (s : List Item) → map unplaced_item s ≡ action_tokens a →
      (again : RawAction) × SpellsAction limit s again × (unplaced_action again ≡ unplaced_action a)
  action_elsewhere a tokens all k s e =
      let alike : AlikeTokens (action_tokens a) s = tokens_unplaced (action_pieces a) ∙ back e in
      let other = action_spelled_again limit (action_tokens a) s (unplaced_action a) alike (action_spelled limit tokens a k all) in
      (other.0, other.1, other.2 ∙ action_twice a)

formula_in_parts : (h : Hole) (r : Raw) → IsGood h r → (s : List Item) → map unplaced_item s ≡ raw_tokens r → (again : Raw) × IsFormula h parts s again × (unplaced again ≡ unplaced r)
formula_in_parts h r good s e = formula_elsewhere most_parts h r good.1 good.0 good.2 good.3 s e

formula_in_none : (h : Hole) (r : Raw) → IsGood h r → (s : List Item) → map unplaced_item s ≡ raw_tokens r → (again : Raw) × IsFormula h none s again × (unplaced again ≡ unplaced r)
formula_in_none h r good s e = formula_elsewhere None h r good.1 good.0 good.2 (formula_looser h good.1 r good.3) s e

action_in_parts : (a : RawAction) → IsGoodAction a → (s : List Item) → map unplaced_item s ≡ action_tokens a → (again : RawAction) × IsActionWithin parts s again × (unplaced_action again ≡ unplaced_action a)
action_in_parts a good s e = action_elsewhere most_parts a good.0 good.1 good.2 s e

action_in_none : (a : RawAction) → IsGoodAction a → (s : List Item) → map unplaced_item s ≡ action_tokens a → (again : RawAction) × IsActionWithin none s again × (unplaced_action again ≡ unplaced_action a)
action_in_none a good s e = action_elsewhere None a good.0 good.1 (action_looser good.0 a good.2) s e

-- the text of pieces before the end of a line
line_laid : (ps : List Piece) → Printed ps → (s : List Mark) (t : List ℕ) → Laid s (10 ∷ t) → Laid (map plain (tokens_of ps) ++ s) (text_of ps ++ (10 ∷ t))
line_laid ps is s t more =
    let chain : Chain (10 ∷ t) ps = subst (Chain (10 ∷ t)) (append-nil ps) (is.chain (10 ∷ t) [] refl chain_end) in
    chain_laid ps (10 ∷ t) chain s more

formula_laid : (h : Hole) (r : Raw) → IsGood h r → (s : List Mark) (t : List ℕ) → Laid s (10 ∷ t) → Laid (map plain (raw_tokens r) ++ s) (raw_text r ++ (10 ∷ t))
formula_laid h r good = line_laid (pieces r) (reads most_parts good.3.reads good.2).0

action_laid : (a : RawAction) → IsGoodAction a → (s : List Mark) (t : List ℕ) → Laid s (10 ∷ t) → Laid (map plain (action_tokens a) ++ s) (action_text a ++ (10 ∷ t))
action_laid a good = line_laid (action_pieces a) (action_printed most_parts good.2 good.1)

readable_made : (c : RawComponent) → IsReadable c → IsMade IsGood IsGoodAction c
readable_made c k = component_made IsProperItem IsGood IsGoodAction formula_good action_good (marks_of k.1 k.2.tokens) c (small_marks k.1 0 k.2.tokens None k.2.cut) k.2.sentence

-- The text of a component that some text spells reads back.
pub printed_reads_back : OneFormula → OneAction → ((text : List ℕ) (ts us : List Token) (o p : Option CutFault) → CutInto text 0 ts o → CutInto text 0 us p → (ts ≡ us) × (o ≡ p)) →
    (c : RawComponent) → IsReadable c → IsReread c (component_text c)
printed_reads_back law action_law ways c k =
    let made : IsMade IsGood IsGoodAction c = readable_made c k in
    let cut = laid_cut (component_marks c) (component_text c) (component_laid IsGood IsGoodAction formula_laid action_laid c made) in
    let within = component_again parts IsGood formula_in_parts IsGoodAction action_in_parts c made (marks_of (component_text c) cut.0) cut.2 in
    let without = component_again none IsGood formula_in_none IsGoodAction action_in_none c made (marks_of (component_text c) cut.0) cut.2 in
    read_again law action_law ways (component_text c) cut.0 cut.1 c within.0 without.0 within.1 without.1 within.2
