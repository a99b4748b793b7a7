-- What becomes of a formula at a sign that goes on with nothing.
use Rattle.std.proofs.Common.{◌≡◌, ℕ, List, [], ◌∷◌, ◌++◌, Bool, true, false, ◌&&◌, cond, Option, Some, None, inl, inr, refl, ◌∙◌}
use Rattle.std.specs.List.{list_all}
use Rattle.formula_core.specs.declared.raw.Raw.{Raw}
use Rattle.formula_core.specs.declared.raw.Raw.TheVariants as raw
use Rattle.math_grammar.specs.declared.holes.Grade.{Grade}
use Rattle.math_grammar.specs.declared.holes.Hole.{Hole}
use Rattle.math_grammar.specs.declared.symbols.Symbol.{Symbol}
use Rattle.math_grammar.specs.Levels.{fits, goes_on, binding_grade, is_braced}
use Rattle.math_grammar.specs.Tokens.{Item}
use Rattle.math_grammar.specs.Grammar.{item, Reads, Spells}
use Rattle.formula_parse.specs.declared.frames.Frame.{Frame}
use Rattle.formula_parse.specs.declared.frames.Frame.TheVariants as frame
use Rattle.formula_parse.specs.Machine.{hole_of, ParseState, want, have, finished, attach, step, complete, ended, is_open_ended, is_ready}
use Rattle.formula_parse.proofs.Basics.{both, fits_reaches}
use Rattle.formula_parse.proofs.Readers.{option_ways}
use Rattle.formula_parse.proofs.Sound.{ways}
use Rattle.formula_parse.proofs.Complete.{complete_reads}
use Rattle.formula_parse.proofs.Reach.{stop, reach}

-- nothing goes on with it
abbrev pub Separates : Symbol → Type 0
Separates x = (h : Hole) (g : Grade) → goes_on h g x ≡ false

either_way : {A : Type 0} (b : Bool) (x : A) → cond b x x ≡ x
either_way true x = refl
either_way false x = refl

-- what ends without a sign
open_finished : (f : Frame) (t : Raw) → is_open_ended f ≡ true → (done : Grade × Raw) × (finished f t ≡ Some done)
open_finished (frame.Between o l k a) t e = (_, refl)
open_finished (frame.Prefixed q p) t e = (_, refl)
open_finished (frame.Last c h b names parts p) t e = elim (ways (is_braced c)) [ inl closes ↦ (let e' = rw closes at e in cc) | inr on ↦ ((binding_grade c, raw.Bind b names (parts ++ t ∷ []) p), rw on refl) ]
open_finished _ t e = cc

-- what needs a sign
signed_unfinished : (f : Frame) (t : Raw) → is_open_ended f ≡ false → finished f t ≡ None
signed_unfinished (frame.Between o l k a) t e = cc
signed_unfinished (frame.Prefixed q p) t e = cc
signed_unfinished (frame.Last c h b names parts p) t e = elim (ways (is_braced c)) [ inl closes ↦ rw closes refl | inr on ↦ (let e' = rw on at e in cc) ]
signed_unfinished _ t e = refl

attach_separated : (limit : Option ℕ) (goal : Hole) (fs : List Frame) (g : Grade) (t : Raw) (x : Symbol) → Separates x → list_all is_open_ended fs ≡ true → attach limit goal fs g t x ≡ None
attach_separated limit goal [] g t x off e = rw (off goal g) refl
attach_separated limit goal (f ∷ fs) g t x off e =
    let two = both (is_open_ended f) (list_all is_open_ended fs) e in
    let d = open_finished f t two.0 in
    let up : attach limit goal fs d.0.0 d.0.1 x ≡ None = attach_separated limit goal fs d.0.0 d.0.1 x off two.1 in
    rw (off (hole_of f) g, d.1, up) (either_way (fits (hole_of f) g) None)

signed_incomplete : (goal : Hole) (fs : List Frame) (g : Grade) (t : Raw) → list_all is_open_ended fs ≡ false → complete goal fs g t ≡ None
signed_incomplete goal [] g t e = cc
signed_incomplete goal (f ∷ fs) g t e = go (is_open_ended f) refl e (finished f t) refl (λ h u d. signed_incomplete goal fs h u d)
  where
    go : (v : Bool) → is_open_ended f ≡ v → (v && list_all is_open_ended fs) ≡ false → (o : Option (Grade × Raw)) → finished f t ≡ o →
        ((h : Grade) (u : Raw) → list_all is_open_ended fs ≡ false → complete goal fs h u ≡ None) → complete goal (f ∷ fs) g t ≡ None
    go false a b o d k = rw (signed_unfinished f t a) (either_way (fits (hole_of f) g) None)
    go true a b None d k = rw d (either_way (fits (hole_of f) g) None)
    go true a b (Some done) d k = rw (d, k done.0 done.1 b) (either_way (fits (hole_of f) g) None)

pub ready_stops : (limit : Option ℕ) (goal : Hole) (st : ParseState) (x : Item) → Separates x.symbol → is_ready st ≡ true → step limit goal st x ≡ None
ready_stops limit goal (have fs g t) x off e = attach_separated limit goal fs g t x.symbol off e
ready_stops limit goal _ x off e = cc

pub signed_ended : (goal : Hole) (st : ParseState) → is_ready st ≡ false → ended goal st ≡ None
signed_ended goal (have fs g t) e = signed_incomplete goal fs g t e
signed_ended goal _ e = refl

-- what is complete takes no such sign
pub ended_stops : (limit : Option ℕ) (goal : Hole) (st : ParseState) (t : Raw) (x : Item) → Separates x.symbol → ended goal st ≡ Some t → step limit goal st x ≡ None
ended_stops limit goal st t x off e =
    elim (ways (is_ready st)) [
      | inl ready ↦ ready_stops limit goal st x off ready
      | inr signed ↦ (let none : ended goal st ≡ None = signed_ended goal st signed in cc)
    ]

-- what is complete at the end is complete before such a sign
pub stops_before : (limit : Option ℕ) (goal : Hole) (st : ParseState) (s : List Item) (t : Raw) (x : Item) (rest : List Item) → Separates x.symbol →
    reach limit goal st s ≡ stop (Some t) [] → reach limit goal st (s ++ x ∷ rest) ≡ stop (Some t) (x ∷ rest)
stops_before limit goal st [] t x rest off e =
    let done : ended goal st ≡ Some t = cc in
    let none : step limit goal st x ≡ None = ended_stops limit goal st t x off done in
    rw (none, done) refl
stops_before limit goal st (y ∷ s) t x rest off e =
    elim (option_ways (step limit goal st y) e) [ inl w ↦ rw w.1 (stops_before limit goal w.0 s t x rest off w.2) | inr n ↦ cc ]

-- a formula is complete behind its tokens
pub reads_reach : (limit : Option ℕ) (goal : Hole) {g : Grade} {s : List Item} {t : Raw} (x : Symbol) (p : ℕ) (w : List ℕ) {rest : List Item} → Separates x →
    Reads limit g s t (item x p w ∷ rest) → fits goal g ≡ true → reach limit goal (want []) s ≡ stop (Some t) (item x p w ∷ rest)
reads_reach limit goal {g} {s} {t} x p w {rest} off r fit =
    complete_reads limit goal [] r (fits_reaches goal g fit) ∙ rw (off goal g, fit) refl

pub spelled_reach : (limit : Option ℕ) (goal : Hole) (s : List Item) (t : Raw) → Spells limit goal s t → reach limit goal (want []) s ≡ stop (Some t) []
spelled_reach limit goal s t r = complete_reads limit goal [] r.reads (fits_reaches goal r.g r.fit) ∙ rw r.fit refl
