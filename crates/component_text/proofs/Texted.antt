-- From the tokens of a text to the text.
use Rattle.std.proofs.Common.{◌≡◌, ◌∙◌, ap, ℕ, List, [], ◌∷◌, Bool, true, false, cond, length, Some, None, Ok, Err, refl, sym, subst, append-nil, bytes_eq}
use Rattle.std.specs.Prelude.{Option, Result, codes}
use Rattle.std.specs.Result.{IfOk}
use Rattle.std.proofs.lemmas.Slice.Eq.{bytes_eq-Decides}
use Rattle.formula_core.specs.declared.raw.Ref.{Ref}
use Rattle.math_tokens.specs.declared.cutting.Token.{Token}
use Rattle.component_tokens.specs.declared.piece.CutFault.{CutFault}
use Rattle.component_tokens.specs.declared.piece.CutFault.TheVariants as wrong
use Rattle.component_tokens.specs.Pieces.{CutInto}
use Rattle.model_core.specs.declared.component.RawComponent.{RawComponent}
use Rattle.model_core.specs.declared.fault.Fault.{Fault}
use Rattle.model_core.specs.declared.fault.FaultKind.{FaultKind}
use Rattle.model_core.specs.declared.fault.FaultKind.TheVariants as kind
use Rattle.model_core.specs.Components.{heading}
use Rattle.component_text.specs.declared.pieces.ReadFault.{ReadFault}
use Rattle.component_text.specs.declared.pieces.ReadFault.TheVariants as fault
use Rattle.component_text.specs.Marks.{Mark, word, marks_of}
use Rattle.component_text.specs.Forms.{Bounds, limits, parts, One, Then, Of}
use Rattle.component_text.specs.Grammar.{reference, context_of, ContextBody, Headed}
use Rattle.component_text.specs.Machines.{machine_of, MachineBody, IsComponent, a_context, a_machine}
use Rattle.component_text.specs.Faults.{NoneIsLong, BeginsWithin, IsUnexpectedAt, IsTooLargeAt}
use Rattle.component_text.specs.Spelled.{SpellsComponent, FindsComponent, place_of_mark, text_of_mark, other_name, misnamed_behind, misnamed, IsFirst, bad_sign, number_too_wide, unexpected, unexpected_end, too_large, comment_not_closed, wrong_name, IsReadFault}
use Rattle.component_text.specs.PrivatePieces.{TellsFaultAt, fault_kind, fault_place, TellsAtEnd, TellsUnexpected, TellsTooLarge, ReadsPieces}
use Rattle.component_text.proofs.Parts.{IsLooser}
use Rattle.component_text.proofs.Whole.{headed_short}
use Rattle.component_text.proofs.Components.{good_context_body, leaves_context_body}
use Rattle.component_text.proofs.Machines.{good_machine_body, leaves_machine_body}
use Rattle.component_text.proofs.Unique.{OneFormula}
use Rattle.component_text.proofs.Once.{OneAction, component_unique}

-- a fault that is told, and that it is the first
module _ (Whole : Bounds → List Mark → RawComponent → Type 0) (name text : List ℕ) (marks : List Mark) (cut : Option CutFault) where
  abbrev NoComponent : Type 0
  NoComponent = (c : RawComponent) → Whole limits marks c → (heading c).name ≡ name → cut ≡ None → ⊥

  told : (answer : ReadFault) (k : FaultKind) (place : ℕ) (words : List ℕ) → TellsFaultAt answer name k place words → IsFirst Whole name text marks cut k place words → NoComponent →
      ReadsPieces Whole name text marks cut (Err answer)
  told (fault.Fault f) k place words t first isnt =
      (ap (λ g. g.component) t, subst (λ (g : Fault). IsFirst Whole name text marks cut g.kind g.place g.words) (sym t) first, isnt)
  told fault.OutOfMemory k place words t first isnt = tt

  pub told_wrong_name : (answer : ReadFault) (p : ℕ) → misnamed name marks ≡ Some p → TellsFaultAt answer name kind.WrongName p [] → NoComponent → ReadsPieces Whole name text marks cut (Err answer)
  told_wrong_name answer p e t isnt = told answer kind.WrongName p [] t (wrong_name e) isnt

  -- what is wrong behind the tokens
  told_cut : (answer : ReadFault) (f : CutFault) → misnamed name marks ≡ None → BeginsWithin Whole marks → cut ≡ Some f → TellsFaultAt answer name (fault_kind f) (fault_place f) [] →
      ReadsPieces Whole name text marks cut (Err answer)
  told_cut answer (wrong.BadSign p) n h e t = told answer kind.BadSign p [] t (bad_sign n h e) (λ c w i k. let clash : Some (wrong.BadSign p) ≡ None = sym e ∙ k in cc)
  told_cut answer (wrong.NumberTooWide p) n h e t = told answer kind.NumberTooWide p [] t (number_too_wide n h e) (λ c w i k. let clash : Some (wrong.NumberTooWide p) ≡ None = sym e ∙ k in cc)
  told_cut answer (wrong.CommentNotClosed p) n h e t = told answer kind.CommentNotClosed p [] t (comment_not_closed n h e) (λ c w i k. let clash : Some (wrong.CommentNotClosed p) ≡ None = sym e ∙ k in cc)

  pub told_behind : (answer : ReadFault) (c : RawComponent) (f : CutFault) → misnamed name marks ≡ None → Whole parts marks c → NoneIsLong marks → cut ≡ Some f →
      TellsFaultAt answer name (fault_kind f) (fault_place f) [] → ReadsPieces Whole name text marks cut (Err answer)
  told_behind answer c f n h short e t = told_cut answer f n (record { continues = ([], c, subst (λ s. Whole parts s c) (sym (append-nil marks)) h); short = short }) e t

  pub told_unexpected : (answer : ReadFault) (rest : List Mark) → misnamed name marks ≡ None → IsUnexpectedAt Whole marks rest → ((c : RawComponent) → Whole limits marks c → ⊥) →
      TellsUnexpected answer name text rest cut → ReadsPieces Whole name text marks cut (Err answer)
  told_unexpected answer (x ∷ later) n u isnt t = told answer kind.Unexpected (place_of_mark x) (text_of_mark x) t (unexpected n u) (λ c w i k. isnt c w)
  told_unexpected answer [] n u isnt t = at_end cut refl t
    where
      at_end : (o : Option CutFault) → cut ≡ o → TellsAtEnd answer name text o → ReadsPieces Whole name text marks cut (Err answer)
      at_end None e t = told answer kind.Unexpected (length text) [] t (unexpected_end n u e) (λ c w i k. isnt c w)
      at_end (Some f) e t =
          told_cut answer f n (subst (BeginsWithin Whole) (sym (u.is ∙ append-nil u.before)) u.begins) e t

  pub told_too_large : (answer : ReadFault) (rest : List Mark) → misnamed name marks ≡ None → IsTooLargeAt Whole marks rest → ((c : RawComponent) → Whole limits marks c → ⊥) →
      TellsTooLarge answer name rest → ReadsPieces Whole name text marks cut (Err answer)
  told_too_large answer (x ∷ later) n u isnt t = told answer kind.FormulaTooLarge (place_of_mark x) [] t (too_large n u) (λ c w i k. isnt c w)
  told_too_large answer [] n u isnt t = let e = u.next in cc

-- a component within the limits begins one, and its heading is its own
pub component_loosens : (b c : Bounds) → IsLooser b c → (s : List Mark) (d : RawComponent) → IsComponent b s d → IsComponent c s d
component_loosens b c l s d (a_context h) = a_context (record {
  place = h.place;
  behind = h.behind;
  rest = h.rest;
  head = h.head;
  body = good_context_body.loosens b c l h.behind d h.rest h.body;
  end_place = h.end_place;
  end = h.end;
})
component_loosens b c l s d (a_machine h) = a_machine (record {
  place = h.place;
  behind = h.behind;
  rest = h.rest;
  head = h.head;
  body = good_machine_body.loosens b c l h.behind d h.rest h.body;
  end_place = h.end_place;
  end = h.end;
})

-- and no token of it passes a limit
pub component_short : (s : List Mark) (c : RawComponent) → IsComponent limits s c → NoneIsLong s
component_short s c (a_context h) = headed_short (codes "context") refl ContextBody good_context_body leaves_context_body s c h
component_short s c (a_machine h) = headed_short (codes "machine") refl MachineBody good_machine_body leaves_machine_body s c h

-- the heading of a component, and the name that is wanted
named_one : (x : Mark) (r : Ref) (name : List ℕ) → reference x ≡ Some r → r.name ≡ name → other_name name (reference x) ≡ None
named_one x r name e f =
    ap (other_name name) e ∙ ap (λ b. cond {A = Option ℕ} b None (Some r.place)) ((bytes_eq-Decides r.name name).1 f)

other_one : (x : Mark) (r : Ref) (name : List ℕ) → reference x ≡ Some r → other_name name (reference x) ≡ None → r.name ≡ name
other_one x r name e f = go (bytes_eq r.name name) refl (sym (ap (other_name name) e) ∙ f)
  where
    go : (b : Bool) → bytes_eq r.name name ≡ b → cond {A = Option ℕ} b None (Some r.place) ≡ None → r.name ≡ name
    go true is k = (bytes_eq-Decides r.name name).0 is
    go false is k = cc

module _ {Y : Type 0} (w : List ℕ) (heads : (name : List ℕ) (p : ℕ) (rest : List Mark) → misnamed name (word w p ∷ rest) ≡ misnamed_behind name rest)
    (f : (Ref × Y) → RawComponent) (own : (x : Ref × Y) → heading (f x) ≡ x.0) (Q : Bounds → List Mark → Y → List Mark → Type 0) where
  named : (b : Bounds) (s : List Mark) (c : RawComponent) (name : List ℕ) → Headed w (Of f (Then (One reference) Q)) b s c → (heading c).name ≡ name → misnamed name s ≡ None
  named b s c name h e =
      let body = h.body in
      let first = body.part.first in
      let is : heading c ≡ body.from.0 = ap heading (sym body.is) ∙ own body.from in
      ap (misnamed name) h.head ∙ heads name h.place h.behind ∙ ap (misnamed_behind name) first.there ∙ named_one first.mark body.from.0 name first.is (ap (λ r. r.name) (sym is) ∙ e)

  has_name : (s : List Mark) (c : RawComponent) (name : List ℕ) → Headed w (Of f (Then (One reference) Q)) limits s c → misnamed name s ≡ None → (heading c).name ≡ name
  has_name s c name h e =
      let b = h.body in
      let first = b.part.first in
      let is : heading c ≡ b.from.0 = ap heading (sym b.is) ∙ own b.from in
      let isnt : other_name name (reference first.mark) ≡ None = sym (ap (misnamed name) h.head ∙ heads name h.place h.behind ∙ ap (misnamed_behind name) first.there) ∙ e in
      ap (λ r. r.name) is ∙ other_one first.mark b.from.0 name first.is isnt

pub component_named : (b : Bounds) (s : List Mark) (c : RawComponent) (name : List ℕ) → IsComponent b s c → (heading c).name ≡ name → misnamed name s ≡ None
component_named b s c name (a_context h) = named (codes "context") (λ n p r. refl) context_of (λ x. refl) _ b s c name h
component_named b s c name (a_machine h) = named (codes "machine") (λ n p r. refl) machine_of (λ x. refl) _ b s c name h

component_has_name : (s : List Mark) (c : RawComponent) (name : List ℕ) → IsComponent limits s c → misnamed name s ≡ None → (heading c).name ≡ name
component_has_name s c name (a_context h) = has_name (codes "context") (λ n p r. refl) context_of (λ x. refl) _ s c name h
component_has_name s c name (a_machine h) = has_name (codes "machine") (λ n p r. refl) machine_of (λ x. refl) _ s c name h

-- what was read of the tokens is what the text spells
module _ (law : OneFormula) (action_law : OneAction) (ways : (text : List ℕ) (ts us : List Token) (o p : Option CutFault) → CutInto text 0 ts o → CutInto text 0 us p → (ts ≡ us) × (o ≡ p))
    (name text : List ℕ) (tokens : List Token) (wrong_behind : Option CutFault) (cut : CutInto text 0 tokens wrong_behind) where
  pub found : (c : RawComponent) → ReadsPieces IsComponent name text (marks_of text tokens) wrong_behind (Ok c) → SpellsComponent IsComponent name text c
  found c h = record {
    tokens = tokens;
    cut = subst (CutInto text 0 tokens) h.2 cut;
    sentence = h.0;
    named = component_has_name (marks_of text tokens) c name h.0 h.1;
  }

  pub only : (r : Result RawComponent ReadFault) → ReadsPieces IsComponent name text (marks_of text tokens) wrong_behind r → (c : RawComponent) → SpellsComponent IsComponent name text c → FindsComponent r c
  only (Ok d) h c k =
      let same = ways text k.tokens tokens None wrong_behind k.cut cut in
      component_unique law action_law limits (marks_of text tokens) d c h.0 (subst (λ ts. IsComponent limits (marks_of text ts) c) same.0 k.sentence)
  only (Err (fault.Fault f)) h c k =
      let same = ways text k.tokens tokens None wrong_behind k.cut cut in
      h.2 c (subst (λ ts. IsComponent limits (marks_of text ts) c) same.0 k.sentence) k.named (sym same.1)
  only (Err fault.OutOfMemory) h c k = tt

  pub at_fault : (e : ReadFault) → ReadsPieces IsComponent name text (marks_of text tokens) wrong_behind (Err e) → IsReadFault IsComponent name text e
  at_fault (fault.Fault f) h = (tokens, wrong_behind, cut, h.0, h.1)
  at_fault fault.OutOfMemory h = tt

  pub found_in : (r : Result RawComponent ReadFault) → ReadsPieces IsComponent name text (marks_of text tokens) wrong_behind r → IfOk r (λ c. SpellsComponent IsComponent name text c)
  found_in (Ok c) h = found c h
  found_in (Err e) h = tt
