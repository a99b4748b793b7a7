-- A text has one reading.
use Rattle.std.proofs.Common.{◌≡◌, ◌∙◌, ap, ℕ, List, [], ◌∷◌, ◌++◌, Bool, true, false, Some, None, Ok, Err, length, refl, sym, subst, append_assoc, append-nil}
use Rattle.std.specs.Prelude.{Option}
use Rattle.component_tokens.specs.declared.piece.CutFault.{CutFault}
use Rattle.component_tokens.specs.declared.piece.CutFault.TheVariants as wrong
use Rattle.component_tokens.proofs.OneWay.{one_cut}
use Rattle.formula_parse.proofs.Readers.{one_value}
use Rattle.formula_parse.proofs.Place.{one_tree}
use Rattle.math_action.proofs.Place.{reads_actions}
use Rattle.model_core.specs.declared.component.RawComponent.{RawComponent}
use Rattle.model_core.specs.declared.fault.Fault.{Fault}
use Rattle.model_core.specs.declared.fault.FaultKind.{FaultKind}
use Rattle.model_core.specs.declared.fault.FaultKind.TheVariants as kind
use Rattle.component_text.specs.Marks.{Mark, marks_of}
use Rattle.component_text.specs.Forms.{limits, parts, none}
use Rattle.component_text.specs.Machines.{IsComponent}
use Rattle.component_text.specs.Faults.{BeginsWithin, IsLargeAt, long, wide, IsUnexpectedAt, IsTooLargeAt}
use Rattle.component_text.specs.Spelled.{place_of_mark, text_of_mark, misnamed, IsFirst, bad_sign, number_too_wide, unexpected, unexpected_end, too_large, comment_not_closed, wrong_name, IsRead, HasOneReading}
use Rattle.component_text.specs.PrivatePieces.{fault_kind, fault_place}
use Rattle.component_text.proofs.Once.{component_unique}
use Rattle.component_text.proofs.Texted.{component_loosens, component_short, component_named}

-- two places in one list
data Places (b r c t : List Mark) : Type 0 where
  one_place : b ≡ c → r ≡ t → Places b r c t
  later_second : (x : Mark) (k : List Mark) → c ≡ b ++ x ∷ k → r ≡ x ∷ (k ++ t) → Places b r c t
  later_first : (x : Mark) (k : List Mark) → b ≡ c ++ x ∷ k → t ≡ x ∷ (k ++ r) → Places b r c t

further : (x : Mark) (b r c t : List Mark) → Places b r c t → Places (x ∷ b) r (x ∷ c) t
further x b r c t (one_place e f) = one_place (ap (λ s. x ∷ s) e) f
further x b r c t (later_second y k e f) = later_second y k (ap (λ s. x ∷ s) e) f
further x b r c t (later_first y k e f) = later_first y k (ap (λ s. x ∷ s) e) f

places : (b r c t : List Mark) → b ++ r ≡ c ++ t → Places b r c t
places [] r [] t e = one_place refl e
places [] r (x ∷ c) t e = later_second x c refl e
places (x ∷ b) r [] t e = later_first x b refl (sym e)
places (x ∷ b) r (y ∷ c) t e =
    let head : x ≡ y = cc in
    let tail : b ++ r ≡ c ++ t = cc in
    subst (λ z. Places (x ∷ b) r (z ∷ c) t) head (further x b r c t (places b r c t tail))

-- what stands first begins a component, too
begins_front : (before k : List Mark) (x : Mark) → BeginsWithin IsComponent (before ++ x ∷ k) → BeginsWithin IsComponent (before ++ x ∷ [])
begins_front before k x h =
    let more = h.continues.0 in
    record {
      continues = (
        k ++ more,
        h.continues.1,
        subst (λ s. IsComponent parts s h.continues.1) (append_assoc before (x ∷ k) more ∙ sym (append_assoc before (x ∷ []) (k ++ more))) h.continues.2,
      );
      short = λ b y l e. h.short b y (l ++ k) (sym (append_assoc before (x ∷ []) k) ∙ ap (λ t. t ++ k) e ∙ append_assoc b (y ∷ l) k);
    }

-- a text of these tokens stops before `rest`
record Stops (marks before rest : List Mark) : Type 0 where
  is : marks ≡ before ++ rest
  begins : BeginsWithin IsComponent before
  stops : (x : Mark) (later : List Mark) → rest ≡ x ∷ later → BeginsWithin IsComponent (before ++ x ∷ []) → ⊥

stops_once : (marks b r c t : List Mark) → Stops marks b r → Stops marks c t → (b ≡ c) × (r ≡ t)
stops_once marks b r c t h k = go (places b r c t (sym h.is ∙ k.is))
  where
    go : Places b r c t → (b ≡ c) × (r ≡ t)
    go (one_place e f) = (e, f)
    go (later_second x l e f) = absurd (h.stops x (l ++ t) f (begins_front b l x (subst (BeginsWithin IsComponent) e k.begins)))
    go (later_first x l e f) = absurd (k.stops x (l ++ r) f (begins_front c l x (subst (BeginsWithin IsComponent) e h.begins)))

abbrev Told : Type 0
Told = FaultKind × (ℕ × List ℕ)

abbrev Same : Told → Told → Type 0
Same a b = a ≡ b

module _ (name text : List ℕ) (marks : List Mark) (cut : Option CutFault) where
  -- what is told at a place
  abbrev told_end : Option CutFault → Told
  told_end None = (kind.Unexpected, (length text, []))
  told_end (Some f) = (fault_kind f, (fault_place f, []))

  abbrev told_token : Mark → Bool → Told
  told_token x true = (kind.FormulaTooLarge, (place_of_mark x, []))
  told_token x false = (kind.Unexpected, (place_of_mark x, text_of_mark x))

  abbrev told_at : List Mark → Bool → Told
  told_at [] large = told_end cut
  told_at (x ∷ later) large = told_token x large

  record Seen (told : Told) : Type 0 where
    before : List Mark
    rest : List Mark
    large : Bool
    stopped : Stops marks before rest
    is_large : large ≡ true → (x : Mark) (later : List Mark) → rest ≡ x ∷ later → IsLargeAt IsComponent before x
    not_large : large ≡ false → (x : Mark) (later : List Mark) → rest ≡ x ∷ later → IsLargeAt IsComponent before x → ⊥
    is : told ≡ told_at rest large

  -- at the end of the tokens
  seen_end : (told : Told) → BeginsWithin IsComponent marks → told ≡ told_end cut → Seen told
  seen_end told h e = record {
    before = marks;
    rest = [];
    large = false;
    stopped = record { is = sym (append-nil marks); begins = h; stops = λ x later f. cc };
    is_large = λ f. cc;
    not_large = λ f x later g. cc;
    is = e;
  }

  seen_unexpected : (x : Mark) (later : List Mark) → IsUnexpectedAt IsComponent marks (x ∷ later) → Seen (kind.Unexpected, (place_of_mark x, text_of_mark x))
  seen_unexpected x later u = record {
    before = u.before;
    rest = x ∷ later;
    large = false;
    stopped = record {
      is = u.is;
      begins = u.begins;
      stops = λ y l e b.
          let same : y ≡ x = cc in
          let more = b.continues.0 in
          let c = b.continues.1 in
          u.nowhere more c (component_loosens parts none tt _ c (subst (λ s. IsComponent parts s c) (append_assoc u.before (y ∷ []) more ∙ ap (λ z. u.before ++ z ∷ more) same) b.continues.2));
    };
    is_large = λ f. cc;
    not_large = λ f. u.small;
    is = refl;
  }

  seen_too_large : (x : Mark) (later : List Mark) → IsTooLargeAt IsComponent marks (x ∷ later) → Seen (kind.FormulaTooLarge, (place_of_mark x, []))
  seen_too_large x later u =
      let token : u.token ≡ x = (let e = u.next in cc) in
      let large : (y : Mark) (l : List Mark) → x ∷ later ≡ y ∷ l → IsLargeAt IsComponent u.before y =
      λ y l e. let same : x ≡ y = cc in subst (IsLargeAt IsComponent u.before) (token ∙ same) u.large in
      record {
        before = u.before;
        rest = x ∷ later;
        large = true;
        stopped = record { is = u.is; begins = u.begins; stops = λ y l e b. never u.before y (large y l e) b };
        is_large = λ f. large;
        not_large = λ f. cc;
        is = refl;
      }
    where
      never : (before : List Mark) (y : Mark) → IsLargeAt IsComponent before y → BeginsWithin IsComponent (before ++ y ∷ []) → ⊥
      never before y (long h) b = b.short before y [] refl h
      never before y (wide h k) b = k b.continues

  seen : (k : FaultKind) (p : ℕ) (w : List ℕ) → misnamed name marks ≡ None → IsFirst IsComponent name text marks cut k p w → Seen (k, (p, w))
  seen k p w named (bad_sign n h e) = seen_end (kind.BadSign, (p, [])) h (ap told_end (sym e))
  seen k p w named (number_too_wide n h e) = seen_end (kind.NumberTooWide, (p, [])) h (ap told_end (sym e))
  seen k p w named (unexpected {x = x} {later = later} n u) = seen_unexpected x later u
  seen k p w named (unexpected_end n u e) = seen_end (kind.Unexpected, (length text, [])) (subst (BeginsWithin IsComponent) (sym (u.is ∙ append-nil u.before)) u.begins) (ap told_end (sym e))
  seen k p w named (too_large {x = x} {later = later} n u) = seen_too_large x later u
  seen k p w named (comment_not_closed n h e) = seen_end (kind.CommentNotClosed, (p, [])) h (ap told_end (sym e))
  seen k p w named (wrong_name e) = let clash : Some p ≡ None = sym e ∙ named in cc

  same_told : (rest : List Mark) (a b : Bool) → ((x : Mark) (later : List Mark) → rest ≡ x ∷ later → a ≡ b) → told_at rest a ≡ told_at rest b
  same_told [] a b h = refl
  same_told (x ∷ later) a b h = ap (told_token x) (h x later refl)

  seen_once : (one two : Told) → Seen one → Seen two → one ≡ two
  seen_once one two h k =
      let place = stops_once marks h.before h.rest k.before k.rest h.stopped k.stopped in
      h.is ∙ same_told h.rest h.large k.large (λ x later e. flags h.large refl k.large refl x later e place.0 (sym place.1 ∙ e)) ∙ ap (λ r. told_at r k.large) place.1 ∙ sym k.is
    where
      flags : (a : Bool) → h.large ≡ a → (b : Bool) → k.large ≡ b → (x : Mark) (later : List Mark) → h.rest ≡ x ∷ later → h.before ≡ k.before → k.rest ≡ x ∷ later → a ≡ b
      flags true e true f x later p s q = refl
      flags false e false f x later p s q = refl
      flags true e false f x later p s q = absurd (k.not_large f x later q (subst (λ b. IsLargeAt IsComponent b x) s (h.is_large e x later p)))
      flags false e true f x later p s q = absurd (h.not_large e x later p (subst (λ b. IsLargeAt IsComponent b x) (sym s) (k.is_large f x later q)))

  misnamed_told : (n : ℕ) → misnamed name marks ≡ Some n → (k : FaultKind) (p : ℕ) (w : List ℕ) → IsFirst IsComponent name text marks cut k p w → Same (kind.WrongName, (n, [])) (k, (p, w))
  misnamed_told n e k p w (bad_sign f h g) = let clash : Some n ≡ None = sym e ∙ f in cc
  misnamed_told n e k p w (number_too_wide f h g) = let clash : Some n ≡ None = sym e ∙ f in cc
  misnamed_told n e k p w (unexpected f u) = let clash : Some n ≡ None = sym e ∙ f in cc
  misnamed_told n e k p w (unexpected_end f u g) = let clash : Some n ≡ None = sym e ∙ f in cc
  misnamed_told n e k p w (too_large f u) = let clash : Some n ≡ None = sym e ∙ f in cc
  misnamed_told n e k p w (comment_not_closed f h g) = let clash : Some n ≡ None = sym e ∙ f in cc
  misnamed_told n e k p w (wrong_name f) = let both : Some n ≡ Some p = sym e ∙ f in let same : n ≡ p = cc in ap (λ q. (kind.WrongName, (q, []))) same

  first_once : (k l : FaultKind) (p q : ℕ) (v w : List ℕ) → IsFirst IsComponent name text marks cut k p v → IsFirst IsComponent name text marks cut l q w → Same (k, (p, v)) (l, (q, w))
  first_once k l p q v w h i = go (misnamed name marks) refl
    where
      go : (o : Option ℕ) → misnamed name marks ≡ o → Same (k, (p, v)) (l, (q, w))
      go (Some n) e = sym (misnamed_told n e k p v h) ∙ misnamed_told n e l q w i
      go None e = seen_once (k, (p, v)) (l, (q, w)) (seen k p v e h) (seen l q w e i)

  -- a component has no fault
  none_first : (c : RawComponent) → IsComponent limits marks c → misnamed name marks ≡ None → cut ≡ None → (k : FaultKind) (p : ℕ) (w : List ℕ) → IsFirst IsComponent name text marks cut k p w → ⊥
  none_first c h named e k p w (bad_sign n b f) = let clash : Some (wrong.BadSign p) ≡ None = sym f ∙ e in cc
  none_first c h named e k p w (number_too_wide n b f) = let clash : Some (wrong.NumberTooWide p) ≡ None = sym f ∙ e in cc
  none_first c h named e k p w (comment_not_closed n b f) = let clash : Some (wrong.CommentNotClosed p) ≡ None = sym f ∙ e in cc
  none_first c h named e k p w (unexpected {x = x} {later = later} n u) = u.nowhere later c (subst (λ s. IsComponent none s c) u.is (component_loosens limits none tt marks c h))
  none_first c h named e k p w (unexpected_end n u f) = u.nowhere c (subst (λ s. IsComponent none s c) (u.is ∙ append-nil u.before) (component_loosens limits none tt marks c h))
  none_first c h named e k p w (too_large n u) = never u.before u.token u.later (u.is ∙ ap (λ t. u.before ++ t) u.next) u.large
    where
      never : (before : List Mark) (x : Mark) (later : List Mark) → marks ≡ before ++ x ∷ later → IsLargeAt IsComponent before x → ⊥
      never before x later is (long l) = component_short marks c h before x later is l
      never before x later is (wide b isnt) =
          isnt (later, c, subst (λ s. IsComponent parts s c) (is ∙ sym (append_assoc before (x ∷ []) later)) (component_loosens limits parts tt marks c h))
  none_first c h named e k p w (wrong_name f) = let clash : Some p ≡ None = sym f ∙ named in cc

-- the tokens of a text are the same twice
read_or_fault : (name text : List ℕ) (c : RawComponent) (f : Fault) → IsRead name text (Ok c) → IsRead name text (Err f) → ⊥
read_or_fault name text c f h k =
    let same = one_cut text 0 h.tokens k.0 None k.1 h.cut k.2 in
    let sentence : IsComponent limits (marks_of text k.0) c = subst (λ ts. IsComponent limits (marks_of text ts) c) same.0 h.sentence in
    none_first name text (marks_of text k.0) k.1 c sentence (component_named limits (marks_of text k.0) c name sentence h.named) (sym same.1) f.kind f.place f.words k.4

pub one_reading : HasOneReading
one_reading name text (Ok c) (Ok d) h k =
    let same = one_cut text 0 h.tokens k.tokens None None h.cut k.cut in
    ap Ok (component_unique one_tree (one_value reads_actions) limits (marks_of text k.tokens) c d (subst (λ ts. IsComponent limits (marks_of text ts) c) same.0 h.sentence) k.sentence)
one_reading name text (Ok c) (Err g) h k = absurd (read_or_fault name text c g h k)
one_reading name text (Err f) (Ok d) h k = absurd (read_or_fault name text d f k h)
one_reading name text (Err f) (Err g) h k =
    let same = one_cut text 0 h.0 k.0 h.1 k.1 h.2 k.2 in
    let first : IsFirst IsComponent name text (marks_of text k.0) k.1 f.kind f.place f.words =
    subst (λ o. IsFirst IsComponent name text (marks_of text k.0) o f.kind f.place f.words) same.1 (subst (λ ts. IsFirst IsComponent name text (marks_of text ts) h.1 f.kind f.place f.words) same.0 h.4) in
    let told = first_once name text (marks_of text k.0) k.1 f.kind g.kind f.place g.place f.words g.words first k.4 in
    let component = h.3 ∙ sym k.3 in
    ap Err (λ i. record { component = component i; kind = (told i).0; place = (told i).1.0; words = (told i).1.1 })
