-- Whatever is read of the printed text of a component is the component but for places, or the fault of a formula that is too large.
use Rattle.std.proofs.Common.{◌≡◌, ◌∙◌, ap, ℕ, List, [], ◌∷◌, refl, sym, subst, append-nil, Ok, Err}
use Rattle.std.specs.Prelude.{Option, None, Result}
use Rattle.math_tokens.specs.declared.cutting.Token.{Token}
use Rattle.model_core.specs.declared.component.RawComponent.{RawComponent}
use Rattle.model_core.specs.declared.component.RawComponent.TheVariants.{Context, Machine}
use Rattle.model_core.specs.Components.{heading}
use Rattle.component_tokens.specs.declared.piece.CutFault.{CutFault}
use Rattle.component_tokens.specs.Pieces.{CutInto}
use Rattle.component_text.specs.declared.pieces.ReadFault.{ReadFault}
use Rattle.component_text.specs.declared.pieces.ReadFault.TheVariants as fault
use Rattle.component_text.specs.Marks.{Mark, marks_of}
use Rattle.component_text.specs.Forms.{limits, parts, none}
use Rattle.component_text.specs.Machines.{IsComponent}
use Rattle.model_core.specs.declared.fault.FaultKind.{FaultKind}
use Rattle.model_core.specs.declared.fault.FaultKind.TheVariants as kind
use Rattle.component_text.specs.Faults.{IsUnexpectedAt}
use Rattle.component_text.specs.Spelled.{IsFirst, bad_sign, number_too_wide, unexpected, unexpected_end, too_large, comment_not_closed, wrong_name}
use Rattle.component_text.proofs.Unique.{OneFormula}
use Rattle.component_text.proofs.Once.{OneAction, component_unique}
use Rattle.component_text.proofs.Texted.{component_loosens, component_named}
use Rattle.component_print.specs.Back.{IsParse, IsSame}
use Rattle.component_print.specs.Unplaced.{unplaced_component}

heading_kept : (c : RawComponent) → (heading (unplaced_component c)).name ≡ (heading c).name
heading_kept (Context name extends sets constants axioms) = refl
heading_kept (Machine name refines sees variables invariants variant events) = refl

same_heading : (c d : RawComponent) → unplaced_component c ≡ unplaced_component d → (heading c).name ≡ (heading d).name
same_heading c d e = sym (heading_kept c) ∙ ap (λ x. (heading x).name) e ∙ heading_kept d

-- A text is cut into tokens that are the component but for places, at least where formulas have no limit.
module _ (law : OneFormula) (action_law : OneAction) (ways : (text : List ℕ) (ts us : List Token) (o p : Option CutFault) → CutInto text 0 ts o → CutInto text 0 us p → (ts ≡ us) × (o ≡ p))
    (text : List ℕ) (tokens : List Token) (cut : CutInto text 0 tokens None) (c again any : RawComponent) (within : IsComponent parts (marks_of text tokens) again) (without : IsComponent none (marks_of text tokens) any)
    (same : unplaced_component again ≡ unplaced_component c) where
  some_goes_on : (rest : List Mark) → IsUnexpectedAt IsComponent (marks_of text tokens) rest → ⊥
  some_goes_on [] u = u.nowhere any (subst (λ s. IsComponent none s any) (u.is ∙ append-nil u.before) without)
  some_goes_on (x ∷ later) u = u.nowhere later any (subst (λ s. IsComponent none s any) u.is without)

  first_fault : (o : Option CutFault) → o ≡ None → (k : FaultKind) (place : ℕ) (words : List ℕ) → IsFirst IsComponent (heading c).name text (marks_of text tokens) o k place words → k ≡ kind.FormulaTooLarge
  first_fault o e k place words (bad_sign n h w) = cc
  first_fault o e k place words (number_too_wide n h w) = cc
  first_fault o e k place words (unexpected {x = x} {later = later} n u) = absurd (some_goes_on (x ∷ later) u)
  first_fault o e k place words (unexpected_end n u w) = absurd (some_goes_on [] u)
  first_fault o e k place words (too_large n u) = refl
  first_fault o e k place words (comment_not_closed n h w) = cc
  first_fault o e k place words (wrong_name n) =
      let named = component_named parts (marks_of text tokens) again (heading c).name within (same_heading again c same) in cc

  pub read_again : (answer : Result RawComponent ReadFault) → IsParse (heading c).name text answer → IsSame c answer
  read_again (Ok x) h =
      let cuts = ways text h.found.tokens tokens None None h.found.cut cut in
      let own : IsComponent limits (marks_of text tokens) x = subst (λ ts. IsComponent limits (marks_of text ts) x) cuts.0 h.found.sentence in
      let one : x ≡ again = component_unique law action_law parts (marks_of text tokens) x again (component_loosens limits parts tt (marks_of text tokens) x own) within in
      ap unplaced_component one ∙ same
  read_again (Err (fault.Fault f)) h =
      let k = h.fault in
      let cuts = ways text k.0 tokens k.1 None k.2 cut in
      first_fault k.1 cuts.1 f.kind f.place f.words (subst (λ ts. IsFirst IsComponent (heading c).name text (marks_of text ts) k.1 f.kind f.place f.words) cuts.0 k.4)
  read_again (Err fault.OutOfMemory) h = tt
