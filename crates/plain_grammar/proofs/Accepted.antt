-- What is accepted without the condition is read by the parser, so it is a sentence.
use Rattle.std.proofs.Common.{◌≡◌, ℕ, ◌+◌, ◌≤◌, List, [], ◌∷◌, ◌++◌, Bool, true, false, ◌&&◌, Option, Some, None, inl, inr, refl, ap, sym, ◌∙◌, subst, arith, length, length-append}
use Rattle.std.specs.Prelude.{nat_le}
use Rattle.std.proofs.lemmas.Bool.{leb-true, le-leb}
use Rattle.formula_core.specs.Names.{is_name}
use Rattle.formula_core.specs.declared.op.Op.TheVariants as op
use Rattle.formula_core.specs.declared.raw.RawOp.{RawOp}
use Rattle.formula_core.specs.declared.raw.RawOp.TheVariants as rawop
use Rattle.formula_core.specs.declared.raw.RawBinder.{RawBinder}
use Rattle.formula_core.specs.declared.raw.RawBound.{RawBound}
use Rattle.formula_core.specs.declared.raw.Raw.{Raw}
use Rattle.formula_core.specs.declared.raw.Raw.TheVariants as raw
use Rattle.math_grammar.specs.declared.holes.Grade.{Grade}
use Rattle.math_grammar.specs.declared.holes.Grade.TheVariants as grade
use Rattle.math_grammar.specs.declared.holes.Hole.{Hole}
use Rattle.math_grammar.specs.declared.holes.Hole.TheVariants as hole
use Rattle.math_grammar.specs.declared.levels.Level.{Level}
use Rattle.math_grammar.specs.declared.levels.Level.TheVariants as lev
use Rattle.math_grammar.specs.declared.levels.Bracket.TheVariants as bracket
use Rattle.math_grammar.specs.declared.levels.Call.{Call}
use Rattle.math_grammar.specs.declared.levels.Binding.{Binding}
use Rattle.math_grammar.specs.declared.levels.Binding.TheVariants as binding
use Rattle.math_grammar.specs.declared.symbols.Symbol.{Symbol}
use Rattle.math_grammar.specs.declared.symbols.Symbol.TheVariants as sign
use Rattle.math_grammar.specs.declared.shapes.Shape.{Shape}
use Rattle.math_grammar.specs.Levels.{rank, level, right_of, takes_left, reaches, fits, inside, suffixes, goes_on, infix_of, is_typing, is_declaration, prefix_hole, call_hole, call_grade, call_parts, has_room, binding_grade, binder_of, implicit_of, takes_names, takes_shape, is_braced}
use Rattle.math_grammar.specs.Tokens.{Item}
use Rattle.math_grammar.specs.Grammar as grammar
use Rattle.math_grammar.specs.Grammar.{item, lone, joined_shape, place_of, bound, between, type_with, Ends, Spells}
use Rattle.formula_parse.specs.declared.frames.Frame.{Frame}
use Rattle.formula_parse.specs.declared.frames.Frame.TheVariants as frame
use Rattle.formula_parse.specs.Machine.{hole_of, hole_wanted, ParseState, want, have, calling, shape_want, shape_have, after_shape, bound_from, bounds_from, binding_body, binding_opened, after_names}
use Rattle.formula_parse.proofs.Reach.{Stop, reach, outcome, run_reaches}
use Rattle.formula_parse.proofs.Basics.{name_of-name, typed_name_of-between, bound_of-name, bound_of-between, bounds_of-more, both, fits_reaches, reached, reached_least, reaches_left, fits_expression, declaration_rank, Opens, group_opens, prefix_begins, binding_begins}
use Rattle.formula_parse.proofs.Complete.{suffix_reaches, attach_on, attach_infix, attach_suffix, suffix_closes, ends_finished, takes_sign, begins, goes, Stops, complete_atom}
use Rattle.formula_parse.proofs.Place.{sentence_found}
use Rattle.plain_grammar.specs.Plain as plain
use Rattle.plain_grammar.specs.Plain.{Plain, PlainParts, PlainName, PlainNames, PlainBody, PlainLast, PlainPattern, PlainAtom, is_maplet, Accepts}
use Rattle.plain_grammar.proofs.Tightness.{AsTight, itself, tighter, fits_tighter, takes_tighter, level_tight, left_tight, grouped_same}
use Rattle.plain_grammar.proofs.Paths.{IsSorted, Closes, closes_between, closes_prefixed, closes_last, Path, stop, over, further, settle, whole, Turn, inside as within, outside, turn}

-- ⦂ doesn't go on with a pair at the place of a pair
pair_ends : (g : Grade) (o : RawOp) → goes_on hole.Pair g (sign.Infix lev.Typing o) ≡ false
pair_ends grade.Name o = refl
pair_ends grade.Implication o = refl
pair_ends grade.Conjunction o = refl
pair_ends grade.Disjunction o = refl
pair_ends grade.Literal o = refl
pair_ends grade.Typed o = refl
pair_ends grade.Declared o = refl
pair_ends grade.Pair o = refl
pair_ends grade.Arrow o = refl
pair_ends grade.Set o = refl
pair_ends grade.Interval o = refl
pair_ends grade.Sum o = refl
pair_ends grade.Negative o = refl
pair_ends grade.Product o = refl
pair_ends grade.Power o = refl
pair_ends grade.Reaching o = refl
pair_ends grade.Suffixed o = refl
pair_ends grade.Primary o = refl

opened_shape : (c : Binding) (fs : List Frame) (p : ℕ) → takes_shape c ≡ true → binding_opened c fs p ≡ want (frame.Listed c true [] p ∷ fs)
opened_shape binding.Set fs p h = refl
opened_shape (binding.Reaching b) fs p h = refl
opened_shape (binding.Quantified b) fs p h = cc
opened_shape binding.Lambda fs p h = cc

-- what takes brackets at its end
suffix_high : (g : Grade) → suffixes hole.Operand g ≡ true → 14 ≤ rank g
suffix_high g s = leb-true 14 (rank g) (both (nat_le 14 (rank g)) true s).0

suffixes_tighter : (g e : Grade) → AsTight g e → suffixes hole.Operand g ≡ true → suffixes hole.Operand e ≡ true
suffixes_tighter g e a s = let high : 14 ≤ rank e = omega (arith, a.above, suffix_high g s) in rw (le-leb 14 (rank e) high) refl

room_tighter : (h : Hole) (l : Level) (g e : Grade) → reaches h (level l g) ≡ true → reaches h (level l e) ≡ true
room_tighter h l g e r = reached h (level l e) (omega (arith, reached_least h (level l g) r, (level_tight l g e).above))

module _ (limit : Option ℕ) (goal : Hole) where
  -- z comes of what is left when a formula is held that closes to one as tight as g, with the stack fs below it
  record Reached (fs : List Frame) (g : Grade) (z : Stop) (rest : List Item) : Type 0 where
    top : List Frame
    held : Grade
    t : Raw
    e : Grade
    same : z ≡ reach limit goal (have top held t) rest
    path : Path fs e top held
    tight : AsTight g e

  -- the same, with nothing open
  record Held (fs : List Frame) (g : Grade) (z : Stop) (rest : List Item) : Type 0 where
    t : Raw
    e : Grade
    same : z ≡ reach limit goal (have fs e t) rest
    tight : AsTight g e

  at_once : (fs : List Frame) (g : Grade) (t : Raw) {z : Stop} {rest : List Item} → z ≡ reach limit goal (have fs g t) rest → Reached fs g z rest
  at_once fs g t same = record { top = fs; held = g; t = t; e = g; same = same; path = stop; tight = itself g }

  earlier : {fs : List Frame} {g : Grade} {y z : Stop} {rest : List Item} → y ≡ z → Reached fs g z rest → Reached fs g y rest
  earlier s r = record { top = r.top; held = r.held; t = r.t; e = r.e; same = s ∙ r.same; path = r.path; tight = r.tight }

  looser : {fs : List Frame} {g h : Grade} {z : Stop} {rest : List Item} → AsTight g h → Reached fs h z rest → Reached fs g z rest
  looser a r = record { top = r.top; held = r.held; t = r.t; e = r.e; same = r.same; path = r.path; tight = tighter a r.tight }

  -- a form may close with its last part
  closing : {f : Frame} {fs : List Frame} {h k : Grade} {z : Stop} {rest : List Item} → Closes f k → fits (hole_of f) h ≡ true → Reached (f ∷ fs) h z rest → Reached fs k z rest
  closing {f} {fs} {h} {k} c fit r = record {
    top = r.top;
    held = r.held;
    t = r.t;
    e = k;
    same = r.same;
    path = further (over c (fits_tighter (hole_of f) h r.e r.tight fit) stop) r.path;
    tight = itself k;
  }

  settled : {fs : List Frame} {g : Grade} {z : Stop} (rest : List Item) → ((h : Hole) (k : Grade) → Ends h k rest) → Reached fs g z rest → Held fs g z rest
  settled rest still r =
      let s = settle limit goal rest still r.path r.t in
      record { t = s.0; e = r.e; same = r.same ∙ s.1; tight = r.tight }

  unopened : {fs : List Frame} {g : Grade} {z : Stop} (rest : List Item) → 14 ≤ rank g → Reached fs g z rest → Held fs g z rest
  unopened rest high r =
      let s = whole limit goal r.path (omega (arith, high, r.tight.above)) r.t rest in
      record { t = s.0; e = r.e; same = r.same ∙ s.1; tight = r.tight }

  -- the right side of an operator, and where it stands
  right_side : {fs : List Frame} {g h : Grade} {l : Level} {o : RawOp} {x : Symbol} {p : ℕ} {w : List ℕ} {m rest : List Item} {y z : Stop} (e : Grade) → AsTight g e → z ≡ y →
      Turn limit goal fs e l o x p w m y →
      ((j : Grade) (a : Raw) (top : List Frame) → Reached (frame.Between o l (level l j) a ∷ top) h (reach limit goal (want (frame.Between o l (level l j) a ∷ top)) m) rest) →
      infix_of x ≡ Some (l, o) → takes_left l g ≡ true → fits (right_of l) h ≡ true → reaches (hole_wanted goal fs) (level l g) ≡ true →
      Reached fs (level l g) z rest
  right_side {fs} {g} {h} {l} {o} {x} {p} {w} {m} {rest} e tight same (within top j a there path off) next is takes fit room =
      let b = next j a top in
      record {
        top = b.top;
        held = b.held;
        t = b.t;
        e = e;
        same = same ∙ there ∙ b.same;
        path = further (over (closes_between o l j a) (fits_tighter (right_of l) h b.e b.tight fit) path) b.path;
        tight = left_tight l g e tight takes off;
      }
  right_side {fs} {g} {h} {l} {o} {x} {p} {w} {m} {rest} e tight same (outside u there) next is takes fit room =
      earlier
      (same ∙ there
      ∙ goes limit goal fs e u x p w (want (frame.Between o l (level l e) u ∷ fs)) m (attach_infix limit goal fs e u x l o is (takes_tighter l g e tight takes) (room_tighter (hole_wanted goal fs) l g e room)))
      (looser (level_tight l g e) (closing (closes_between o l e u) fit (next e u fs)))

  -- two sides of a type: ⦂ is taken by a form that is open in the first, or stands behind it
  data Sides (f : Frame) (fs : List Frame) (r : RawOp) (i : ℕ) (v : List ℕ) (m rest : List Item) (z : Stop) : Type 0 where
    one : (u : Raw) (e : Grade) → z ≡ reach limit goal (have (f ∷ fs) e u) rest → fits hole.Pair e ≡ true → Sides f fs r i v m rest z
    two : (u : Raw) (e : Grade) → z ≡ reach limit goal (have (f ∷ fs) e u) (item (sign.Infix lev.Typing r) i v ∷ m) → fits hole.Pair e ≡ true → Sides f fs r i v m rest z

  sides_of : {f : Frame} {fs : List Frame} {g h : Grade} {r : RawOp} {i : ℕ} {v : List ℕ} {m rest : List Item} {y z : Stop} (e : Grade) → AsTight g e → z ≡ y →
      Turn limit goal (f ∷ fs) e lev.Typing r (sign.Infix lev.Typing r) i v m y →
      ((j : Grade) (a : Raw) (top : List Frame) → Reached (frame.Between r lev.Typing (level lev.Typing j) a ∷ top) h (reach limit goal (want (frame.Between r lev.Typing (level lev.Typing j) a ∷ top)) m) rest) →
      fits hole.Pair g ≡ true → fits hole.Pair h ≡ true → ((k : Hole) (j : Grade) → Ends k j rest) → Sides f fs r i v m rest z
  sides_of {g = g} {h = h} {r = r} {rest = rest} e tight same (within top j a there path off) next fit also still =
      let b = next j a top in
      let s = settle limit goal rest still (further (over (closes_between r lev.Typing j a) (fits_tighter hole.Pair h b.e b.tight also) path) b.path) b.t in
      one s.0 e (same ∙ there ∙ b.same ∙ s.1) (fits_tighter hole.Pair g e tight fit)
  sides_of {g = g} e tight same (outside u there) next fit also still = two u e (same ∙ there) (fits_tighter hole.Pair g e tight fit)

  sides : {f : Frame} {fs : List Frame} {g h : Grade} {r : RawOp} {i : ℕ} {v : List ℕ} {m rest : List Item} {z : Stop} →
      Reached (f ∷ fs) g z (item (sign.Infix lev.Typing r) i v ∷ m) →
      ((j : Grade) (a : Raw) (top : List Frame) → Reached (frame.Between r lev.Typing (level lev.Typing j) a ∷ top) h (reach limit goal (want (frame.Between r lev.Typing (level lev.Typing j) a ∷ top)) m) rest) →
      fits hole.Pair g ≡ true → fits hole.Pair h ≡ true → ((k : Hole) (j : Grade) → Ends k j rest) → Sides f fs r i v m rest z
  sides {r = r} {i} {v} {m} a next fit also still = sides_of a.e a.tight a.same (turn limit goal a.path a.t lev.Typing r (sign.Infix lev.Typing r) i v m refl) next fit also still

  -- what names lead to
  abbrev Named : List Frame → Binding → ℕ → Stop → List Item → Type 0
  Named fs c p z rest = (names : List RawBound) × (z ≡ reach limit goal (want (binding_body c names [] p ∷ fs)) rest)

  opened_names : (fs : List Frame) (c : Binding) (p : ℕ) (s rest : List Item) → takes_names c ≡ true →
      Named fs c p (reach limit goal (want (frame.Names c [] p ∷ fs)) s) rest → Named fs c p (reach limit goal (want (frame.Listed c true [] p ∷ fs)) s) rest → Named fs c p (reach limit goal (binding_opened c fs p) s) rest
  opened_names fs binding.Set p s rest takes named listed = listed
  opened_names fs (binding.Reaching b) p s rest takes named listed = listed
  opened_names fs (binding.Quantified b) p s rest takes named listed = named
  opened_names fs binding.Lambda p s rest takes named listed = cc

  -- a name in a list: it is held, or its type is complete
  data Declared (fs : List Frame) (c : Binding) (items : List Raw) (before : List RawBound) (p : ℕ) (x : Symbol) (q : ℕ) (w : List ℕ) (rest : List Item) (z : Stop) : Type 0 where
    as_item : (g : Grade) (t : Raw) (b : RawBound) → is_declaration g ≡ true → bound_from t ≡ Some b → z ≡ reach limit goal (have (frame.Listed c true items p ∷ fs) g t) (item x q w ∷ rest) →
        Declared fs c items before p x q w rest z
    as_type : (b : RawBound) → ((f : Frame) → after_names c (before ++ b ∷ []) p x ≡ Some f → z ≡ reach limit goal (want (f ∷ fs)) rest) → Declared fs c items before p x q w rest z

  -- the dot behind the last name in a list
  last_listed : (fs : List Frame) (c : Binding) (items : List Raw) (before : List RawBound) (p q : ℕ) (w : List ℕ) (rest : List Item) {z : Stop} → bounds_from items ≡ Some before →
      Declared fs c items before p sign.Dot q w rest z → Named fs c p z rest
  last_listed fs c items before p q w rest all (as_item g t b d is same) = (
    before ++ b ∷ [],
    same ∙ takes_sign limit goal (frame.Listed c true items p) fs g t sign.Dot q w (want (binding_body c (before ++ b ∷ []) [] p ∷ fs)) rest (fits_expression g (declaration_rank g d)) refl refl
        (rw (d, bounds_of-more items t before b all is) refl),
  )
  last_listed fs c items before p q w rest all (as_type b k) = (before ++ b ∷ [], k (binding_body c (before ++ b ∷ []) [] p) refl)

  -- the comma behind another one
  next_listed : (fs : List Frame) (c : Binding) (items : List Raw) (before : List RawBound) (p q : ℕ) (w : List ℕ) (m rest : List Item) {z : Stop} → bounds_from items ≡ Some before →
      Declared fs c items before p sign.Comma q w m z →
      ((more : List Raw) (names : List RawBound) → bounds_from more ≡ Some names → Named fs c p (reach limit goal (want (frame.Listed c true more p ∷ fs)) m) rest) →
      ((names : List RawBound) → Named fs c p (reach limit goal (want (frame.Names c names p ∷ fs)) m) rest) → Named fs c p z rest
  next_listed fs c items before p q w m rest {z} all (as_item g t b d is same) listed named = go (is_braced c) refl
    where
      more : bounds_from (items ++ t ∷ []) ≡ Some (before ++ b ∷ [])
      more = bounds_of-more items t before b all is

      go : (v : Bool) → is_braced c ≡ v → Named fs c p z rest
      go true v =
          let n = listed (items ++ t ∷ []) (before ++ b ∷ []) more in (
            n.0,
            same ∙ takes_sign limit goal (frame.Listed c true items p) fs g t sign.Comma q w (want (frame.Listed c true (items ++ t ∷ []) p ∷ fs)) m (fits_expression g (declaration_rank g d)) refl refl (rw (d, v) refl) ∙ n.1,
          )
      go false v =
          let n = named (before ++ b ∷ []) in (
            n.0,
            same ∙ takes_sign limit goal (frame.Listed c true items p) fs g t sign.Comma q w (want (frame.Names c (before ++ b ∷ []) p ∷ fs)) m (fits_expression g (declaration_rank g d)) refl refl (rw (d, v, more) refl) ∙ n.1,
          )
  next_listed fs c items before p q w m rest all (as_type b k) listed named =
      let n = named (before ++ b ∷ []) in (n.0, k (frame.Names c (before ++ b ∷ []) p) refl ∙ n.1)

  -- a name wanted by a form, and ⦂ behind it
  name_typed : (fs : List Frame) (c : Binding) (before : List RawBound) (n : List ℕ) (pn q p : ℕ) (w : List ℕ) (o : RawOp) (s : List Item) → is_name n ≡ true →
      reach limit goal (want (frame.Names c before p ∷ fs)) (item sign.Word pn n ∷ item (sign.Infix lev.Typing o) q w ∷ s) ≡ reach limit goal (want (frame.TypeAfter c before n pn None p ∷ fs)) s
  name_typed fs c before n pn q p w o s e =
      rw e (takes_sign limit goal (frame.Names c before p) fs grade.Name (raw.Name n pn) (sign.Infix lev.Typing o) q w (want (frame.TypeAfter c before n pn None p ∷ fs)) s refl refl refl (rw (name_of-name n pn) refl))

  -- a name in a list, and ⦂ behind it
  listed_typed : (fs : List Frame) (c : Binding) (items : List Raw) (n : List ℕ) (pn q p : ℕ) (w : List ℕ) (o : RawOp) (s : List Item) → is_name n ≡ true →
      reach limit goal (want (frame.Listed c true items p ∷ fs)) (item sign.Word pn n ∷ item (sign.Infix lev.Typing o) q w ∷ s)
      ≡ reach limit goal (want (frame.Between o lev.Typing grade.Declared (raw.Name n pn) ∷ frame.Listed c true items p ∷ fs)) s
  listed_typed fs c items n pn q p w o s e = rw e refl

  mutual
    reads : (fs : List Frame) {g : Grade} {s rest : List Item} → Plain limit false g s rest → reaches (hole_wanted goal fs) g ≡ true → Reached fs g (reach limit goal (want fs) s) rest
    reads fs (plain.a_name {n} {p} {rest} e) b = at_once fs grade.Name (raw.Name n p) (begins limit goal fs sign.Word p n (have fs grade.Name (raw.Name n p)) rest (rw e refl))
    reads fs (plain.a_number {n} {p} {w} {rest}) b = at_once fs grade.Primary (raw.Int n p) (begins limit goal fs (sign.Number n) p w (have fs grade.Primary (raw.Int n p)) rest (rw b refl))
    reads fs (plain.a_truth {o} {p} {w} {rest}) b =
        at_once fs grade.Literal (raw.Node (rawop.Plain o) [] p) (begins limit goal fs (sign.Truth o) p w (have fs grade.Literal (raw.Node (rawop.Plain o) [] p)) rest (rw b refl))
    reads fs (plain.a_constant {o} {p} {w} {rest}) b =
        at_once fs grade.Primary (raw.Node (rawop.Plain o) [] p) (begins limit goal fs (sign.Constant o) p w (have fs grade.Primary (raw.Node (rawop.Plain o) [] p)) rest (rw b refl))
    reads fs (plain.prefixed {g} {k} {q} {x} {p} {w} {s} {rest} is r fit lv) b =
        subst (λ j. Reached fs j (reach limit goal (want fs) (item x p w ∷ s)) rest) lv
        (earlier (begins limit goal fs x p w (want (frame.Prefixed q p ∷ fs)) s (prefix_begins (hole_wanted goal fs) fs p w x q is (rw lv b)))
        (closing (closes_prefixed q p) fit (reads (frame.Prefixed q p ∷ fs) r (fits_reaches (prefix_hole q) g fit))))
    reads fs (plain.two_sides {g} {h} {k} {l} {o} {x} {p} {w} {s} {m} {rest} left is takes r fit lv) b =
        let room : reaches (hole_wanted goal fs) (level l g) ≡ true = rw lv b in
        let a = reads fs left (reaches_left (hole_wanted goal fs) l g takes room) in
        subst (λ j. Reached fs j (reach limit goal (want fs) s) rest) lv
        (right_side a.e a.tight a.same (turn limit goal a.path a.t l o x p w m is) (λ j u top. reads (frame.Between o l (level l j) u ∷ top) r (fits_reaches (right_of l) h fit)) is takes fit room)
    reads fs (plain.in_parentheses {g} {k} {p} {q} {w} {v} {s} {rest} r lv) b =
        let o : Opens (hole_wanted goal fs) g = group_opens (hole_wanted goal fs) g (rw lv b) in
        let a = settled (item (sign.Close bracket.Round) q v ∷ rest) (λ _ _. refl) (reads (frame.Group (inside (hole_wanted goal fs)) ∷ fs) r o.low) in
        at_once fs k a.t
        (begins limit goal fs (sign.Open bracket.Round) p w (want (frame.Group (inside (hole_wanted goal fs)) ∷ fs)) s (rw o.room refl)
        ∙ a.same
        ∙ takes_sign limit goal (frame.Group (inside (hole_wanted goal fs))) fs a.e a.t (sign.Close bracket.Round) q v (have fs k a.t) rest (fits_tighter (inside (hole_wanted goal fs)) g a.e a.tight o.fit) refl refl
        (ap (λ l. Some (have fs l a.t)) (sym (grouped_same g a.e a.tight) ∙ lv)))
    reads fs (plain.called {k} {c} {o} {p} {q} {w} {v} {s} {rest} r lv) b =
        let parts = more fs c o p [] r refl refl refl in
        at_once fs k (raw.Node o parts.0 p)
        (begins limit goal fs (sign.Call c o) p w (calling fs c o p) (item (sign.Open bracket.Round) q v ∷ s) (let b' : reaches (hole_wanted goal fs) (call_grade c) ≡ true = rw lv b in rw b' refl)
        ∙ parts.1 ∙ ap (λ l. reach limit goal (have fs l (raw.Node o parts.0 p)) rest) lv)
    reads fs (plain.applied {g} {h} {b = br} {o} {x} {p} {q} {w} {v} {s} {m} {rest} left is ready r fit) b =
        let f = unopened (item x p w ∷ m) (suffix_high g ready) (reads fs left (suffix_reaches (hole_wanted goal fs) g ready b)) in
        let a = settled (item (sign.Close br) q v ∷ rest) (λ _ _. refl) (reads (frame.Suffixed br o f.t ∷ fs) r (fits_reaches hole.Expression h fit)) in
        at_once fs grade.Suffixed (between o f.t a.t)
        (f.same
        ∙ goes limit goal fs f.e f.t x p w (want (frame.Suffixed br o f.t ∷ fs)) m (attach_suffix limit goal fs f.e f.t x br o is (suffixes_tighter g f.e f.tight ready) b)
        ∙ a.same
        ∙ takes_sign limit goal (frame.Suffixed br o f.t) fs a.e a.t (sign.Close br) q v (have fs grade.Suffixed (between o f.t a.t)) rest (fits_tighter hole.Expression h a.e a.tight fit) refl refl (suffix_closes limit x br o fs a.e f.t a.t is))
    reads fs (plain.converted {g} {p} {w} {s} {rest} left ready) b =
        let f = unopened (item sign.Converse p w ∷ rest) (suffix_high g ready) (reads fs left (suffix_reaches (hole_wanted goal fs) g ready b)) in
        let whole' : Raw = raw.Node (rawop.Plain op.Converse) (f.t ∷ []) (place_of f.t) in
        at_once fs grade.Suffixed whole'
        (f.same
        ∙ goes limit goal fs f.e f.t sign.Converse p w (have fs grade.Suffixed whole') rest
        (attach_on limit goal fs f.e f.t sign.Converse (rw ((both (nat_le 14 (rank f.e)) true (suffixes_tighter g f.e f.tight ready)).0, b) refl)))
    reads fs (plain.set_by_members {x} {p} {w} {s} {rest} is r) b =
        let parts = members fs true [] p r in
        at_once fs grade.Primary (raw.Node (rawop.Plain op.SetExtension) parts.0 p)
        (begins limit goal fs x p w (want (frame.Listed binding.Set true [] p ∷ fs)) s (binding_begins (hole_wanted goal fs) fs p w x binding.Set is b) ∙ parts.1)
    reads fs (plain.by_names {k} {c} {x} {p} {w} {s} {m} {rest} is takes d r lv) b =
        let n = opened_names fs c p s m takes (form_names fs c [] p d) (listed fs c [] [] p refl d) in
        subst (λ j. Reached fs j (reach limit goal (want fs) (item x p w ∷ s)) rest) lv
        (earlier (begins limit goal fs x p w (binding_opened c fs p) s (binding_begins (hole_wanted goal fs) fs p w x c is (rw lv b)) ∙ n.1) (body fs c n.0 [] p r))
    reads fs (plain.by_shape {g} {k} {c} {x} {p} {q} {w} {v} {s} {m} {rest} is takes r fit end lv) b =
        let a = settled (item sign.Bar q v ∷ m) (λ _ _. refl) (reads (frame.Listed c true [] p ∷ fs) r (fits_reaches hole.Expression g fit)) in
        subst (λ j. Reached fs j (reach limit goal (want fs) (item x p w ∷ s)) rest) lv
        (earlier
        (begins limit goal fs x p w (binding_opened c fs p) s (binding_begins (hole_wanted goal fs) fs p w x c is (rw lv b))
        ∙ ap (λ st. reach limit goal st s) (opened_shape c fs p takes)
        ∙ a.same
        ∙ takes_sign limit goal (frame.Listed c true [] p) fs a.e a.t sign.Bar q v (want (frame.Last c hole.Predicate (implicit_of c) [] (a.t ∷ []) p ∷ fs)) m (fits_tighter hole.Expression g a.e a.tight fit) refl refl refl)
        (last fs c hole.Predicate (implicit_of c) [] (a.t ∷ []) p (inl (omega arith)) end))
    reads fs (plain.lambda {p} {q} {w} {v} {s} {m} {rest} d r) b =
        let shape = pattern fs false p None d (λ _ _ _. refl) refl in
        earlier
        (begins limit goal fs (sign.Binder binding.Lambda) p w (shape_want (frame.Pattern false None p ∷ fs)) s (rw b refl)
        ∙ shape.1 (want (frame.Given binding.Lambda shape.0.names (shape.0.tree ∷ []) p ∷ fs)) refl)
        (body fs binding.Lambda shape.0.names (shape.0.tree ∷ []) p r)

    -- the parts of a word
    more : (fs : List Frame) (c : Call) (o : RawOp) (p : ℕ) (before : List Raw) {h : Hole} {many : Option ℕ} {n : ℕ} {s rest : List Item} →
        PlainParts limit false h many bracket.Round n s rest → h ≡ call_hole c → many ≡ call_parts limit c → n ≡ length before →
        (parts : List Raw) × (reach limit goal (want (frame.Parts c o before p ∷ fs)) s ≡ reach limit goal (have fs (call_grade c) (raw.Node o parts p)) rest)
    more fs c o p before (plain.last_one {h} {g = g} {p = q} {w} {s} {rest} r fit) hs ms ns =
        let fit' : fits (call_hole c) g ≡ true = subst (λ k. fits k g ≡ true) hs fit in
        let a = settled (item (sign.Close bracket.Round) q w ∷ rest) (λ _ _. refl) (reads (frame.Parts c o before p ∷ fs) r (fits_reaches (call_hole c) g fit')) in (
          before ++ a.t ∷ [],
          a.same ∙ takes_sign limit goal (frame.Parts c o before p) fs a.e a.t (sign.Close bracket.Round) q w (have fs (call_grade c) (raw.Node o (before ++ a.t ∷ []) p)) rest (fits_tighter (call_hole c) g a.e a.tight fit') refl refl refl,
        )
    more fs c o p before (plain.next_one {h} {many} {n = n} {g = g} {p = q} {w} {s} {m} {rest} room r fit others) hs ms ns =
        let fit' : fits (call_hole c) g ≡ true = subst (λ k. fits k g ≡ true) hs fit in
        let a = settled (item sign.Comma q w ∷ m) (λ _ _. refl) (reads (frame.Parts c o before p ∷ fs) r (fits_reaches (call_hole c) g fit')) in
        let size : n + 1 ≡ length (before ++ a.t ∷ []) = omega (arith, ns, length-append before (a.t ∷ [])) in
        let room' : has_room (call_parts limit c) (length (before ++ a.t ∷ [])) ≡ true = subst (λ k. has_room (call_parts limit c) k ≡ true) size (subst (λ k. has_room k (n + 1) ≡ true) ms room) in
        let rest' = more fs c o p (before ++ a.t ∷ []) others hs ms size in (
          rest'.0,
          a.same ∙ takes_sign limit goal (frame.Parts c o before p) fs a.e a.t sign.Comma q w (want (frame.Parts c o (before ++ a.t ∷ []) p ∷ fs)) m (fits_tighter (call_hole c) g a.e a.tight fit') refl refl (rw room' refl)
              ∙ rest'.1,
        )

    -- the members of a set
    members : (fs : List Frame) (names : Bool) (before : List Raw) (p : ℕ) {n : ℕ} {s rest : List Item} → PlainParts limit false hole.Expression None bracket.Brace n s rest →
        (parts : List Raw) × (reach limit goal (want (frame.Listed binding.Set names before p ∷ fs)) s ≡ reach limit goal (have fs grade.Primary (raw.Node (rawop.Plain op.SetExtension) parts p)) rest)
    members fs names before p (plain.last_one {g = g} {p = q} {w} {s} {rest} r fit) =
        let a = settled (item (sign.Close bracket.Brace) q w ∷ rest) (λ _ _. refl) (reads (frame.Listed binding.Set names before p ∷ fs) r (fits_reaches hole.Expression g fit)) in (
          before ++ a.t ∷ [],
          a.same ∙ takes_sign limit goal (frame.Listed binding.Set names before p) fs a.e a.t (sign.Close bracket.Brace) q w (have fs grade.Primary (raw.Node (rawop.Plain op.SetExtension) (before ++ a.t ∷ []) p)) rest (fits_tighter hole.Expression g a.e a.tight fit) refl refl refl,
        )
    members fs names before p (plain.next_one {g = g} {p = q} {w} {s} {m} {rest} room r fit others) =
        let a = settled (item sign.Comma q w ∷ m) (λ _ _. refl) (reads (frame.Listed binding.Set names before p ∷ fs) r (fits_reaches hole.Expression g fit)) in
        let rest' = members fs (names && is_declaration a.e) (before ++ a.t ∷ []) p others in (
          rest'.0,
          a.same ∙ takes_sign limit goal (frame.Listed binding.Set names before p) fs a.e a.t sign.Comma q w (want (frame.Listed binding.Set (names && is_declaration a.e) (before ++ a.t ∷ []) p ∷ fs)) m (fits_tighter hole.Expression g a.e a.tight fit) refl refl refl
              ∙ rest'.1,
        )

    -- the last part of a form
    last : (fs : List Frame) (c : Binding) (h : Hole) (b : RawBinder) (names : List RawBound) (parts : List Raw) (p : ℕ) {s rest : List Item} → IsSorted h →
        PlainLast limit false c h s rest → Reached fs (binding_grade c) (reach limit goal (want (frame.Last c h b names parts p ∷ fs)) s) rest
    last fs c h b names parts p sorted (plain.up_to_brace {g = g} {p = q} {w} {s} {rest} ends r fit) =
        let a = settled (item (sign.Close bracket.Brace) q w ∷ rest) (λ _ _. refl) (reads (frame.Last c h b names parts p ∷ fs) r (fits_reaches h g fit)) in
        at_once fs (binding_grade c) (raw.Bind b names (parts ++ a.t ∷ []) p)
        (a.same ∙ takes_sign limit goal (frame.Last c h b names parts p) fs a.e a.t (sign.Close bracket.Brace) q w (have fs (binding_grade c) (raw.Bind b names (parts ++ a.t ∷ []) p)) rest (fits_tighter h g a.e a.tight fit) refl (rw ends refl) refl)
    last fs c h b names parts p sorted (plain.reaching {g = g} ends r fit) =
        closing (closes_last c h b names parts p ends sorted) fit (reads (frame.Last c h b names parts p ∷ fs) r (fits_reaches h g fit))

    -- what follows the names
    body : (fs : List Frame) (c : Binding) (names : List RawBound) (before : List Raw) (p : ℕ) {s rest : List Item} →
        PlainBody limit false c s rest → Reached fs (binding_grade c) (reach limit goal (want (binding_body c names before p ∷ fs)) s) rest
    body fs c names before p (plain.a_predicate is r) = earlier (rw is refl) (last fs c hole.Predicate (binder_of c) names before p (inl (omega arith)) r)
    body fs c names before p (plain.a_value {g = g} {p = q} {w} {s} {m} {rest} is r fit end) =
        let a = settled (item sign.Bar q w ∷ m) (λ _ _. refl) (reads (frame.Given c names before p ∷ fs) r (fits_reaches hole.Predicate g fit)) in
        earlier
        (rw is a.same
        ∙ takes_sign limit goal (frame.Given c names before p) fs a.e a.t sign.Bar q w (want (frame.Last c hole.Expression (binder_of c) names (before ++ a.t ∷ []) p ∷ fs)) m (fits_tighter hole.Predicate g a.e a.tight fit) refl refl refl)
        (last fs c hole.Expression (binder_of c) names (before ++ a.t ∷ []) p (inr (omega arith)) end)

    -- the names of a form
    form_names : (fs : List Frame) (c : Binding) (before : List RawBound) (p : ℕ) {s rest : List Item} → PlainNames limit false s rest → Named fs c p (reach limit goal (want (frame.Names c before p ∷ fs)) s) rest
    form_names fs c before p (plain.last_name r) =
        let b = form_name fs c before p r (λ _ _. refl, refl) in (before ++ b.0 ∷ [], b.1 (binding_body c (before ++ b.0 ∷ []) [] p) refl)
    form_names fs c before p (plain.next_name r others) =
        let b = form_name fs c before p r (λ _ _. refl, refl) in
        let n = form_names fs c (before ++ b.0 ∷ []) p others in
        (n.0, b.1 (frame.Names c (before ++ b.0 ∷ []) p) refl ∙ n.1)

    form_name : (fs : List Frame) (c : Binding) (before : List RawBound) (p : ℕ) {x : Symbol} {q : ℕ} {w : List ℕ} {s rest : List Item} → PlainName limit false s (item x q w ∷ rest) → Stops limit x →
        (b : RawBound) × ((f : Frame) → after_names c (before ++ b ∷ []) p x ≡ Some f → reach limit goal (want (frame.Names c before p ∷ fs)) s ≡ reach limit goal (want (f ∷ fs)) rest)
    form_name fs c before p {x} {q} {w} {s} {rest} (plain.bare {n} {p = pn} e) off =
        (bound n pn None, λ f d. rw e (takes_sign limit goal (frame.Names c before p) fs grade.Name (raw.Name n pn) x q w (want (f ∷ fs)) rest refl (off.0 hole.Name grade.Name) refl (rw (name_of-name n pn, off.1, d) refl)))
    form_name fs c before p {x} {q} {w} {s} {rest} (plain.of_type {g} {o} {n} {w = w'} {p = pn} {q = q'} {s = s'} e r fit) off =
        let a = settled (item x q w ∷ rest) (λ h k. off.0 h k) (reads (frame.TypeAfter c before n pn None p ∷ fs) r (fits_reaches hole.Pair g fit)) in (
          bound n pn (Some a.t),
          λ f d. name_typed fs c before n pn q' p w' o s' e
              ∙ a.same
              ∙ takes_sign limit goal (frame.TypeAfter c before n pn None p) fs a.e a.t x q w (want (f ∷ fs)) rest (fits_tighter hole.Pair g a.e a.tight fit) (off.0 hole.Pair a.e) refl (rw (off.1, d) refl),
        )
    form_name fs c before p {x} {q} {w} {s} {rest} (plain.of_types {g} {h} {o} {r = o2} {n} {w = w'} {v} {p = pn} {q = q'} {i} {s = s'} {m} e l fit r also) off =
        elim (sides (reads (frame.TypeAfter c before n pn None p ∷ fs) l (fits_reaches hole.Pair g fit)) (λ j a top. reads (frame.Between o2 lev.Typing (level lev.Typing j) a ∷ top) r (fits_reaches hole.Pair h also)) fit also (λ k j. off.0 k j)) [
          | one u k same fits' ↦ (
            bound n pn (Some u),
            λ f d. name_typed fs c before n pn q' p w' o s' e
                ∙ same
                ∙ takes_sign limit goal (frame.TypeAfter c before n pn None p) fs k u x q w (want (f ∷ fs)) rest fits' (off.0 hole.Pair k) refl (rw (off.1, d) refl),
          )
          | two u k same fits' ↦ (
              let b = settled (item x q w ∷ rest) (λ h k. off.0 h k) (reads (frame.TypeAfter c before n pn (Some u) p ∷ fs) r (fits_reaches hole.Pair h also)) in (
                bound n pn (Some (type_with (Some u) b.t)),
                λ f d. name_typed fs c before n pn q' p w' o s' e
                    ∙ same
                    ∙ takes_sign limit goal (frame.TypeAfter c before n pn None p) fs k u (sign.Infix lev.Typing o2) i v (want (frame.TypeAfter c before n pn (Some u) p ∷ fs)) m fits' (pair_ends k o2) refl refl
                    ∙ b.same
                    ∙ takes_sign limit goal (frame.TypeAfter c before n pn (Some u) p) fs b.e b.t x q w (want (f ∷ fs)) rest (fits_tighter hole.Pair h b.e b.tight also) (off.0 hole.Pair b.e) refl (rw (off.1, d) refl),
              ))
        ]

    -- names that may be members too
    listed : (fs : List Frame) (c : Binding) (items : List Raw) (before : List RawBound) (p : ℕ) {s rest : List Item} → bounds_from items ≡ Some before →
        PlainNames limit false s rest → Named fs c p (reach limit goal (want (frame.Listed c true items p ∷ fs)) s) rest
    listed fs c items before p all (plain.last_name {p = q} {w} {rest = rest} r) = last_listed fs c items before p q w rest all (declared fs c items before p all r (λ _ _. refl, refl))
    listed fs c items before p all (plain.next_name {p = q} {w} {m = m} {rest = rest} r others) =
        next_listed fs c items before p q w m rest all (declared fs c items before p all r (λ _ _. refl, refl)) (λ items' names' all'. listed fs c items' names' p all' others) (λ names'. form_names fs c names' p others)

    declared : (fs : List Frame) (c : Binding) (items : List Raw) (before : List RawBound) (p : ℕ) {x : Symbol} {q : ℕ} {w : List ℕ} {s rest : List Item} → bounds_from items ≡ Some before →
        PlainName limit false s (item x q w ∷ rest) → Stops limit x → Declared fs c items before p x q w rest (reach limit goal (want (frame.Listed c true items p ∷ fs)) s)
    declared fs c items before p {x} {q} {w} {s} {rest} all (plain.bare {n} {p = pn} e) off = as_item grade.Name (raw.Name n pn) (bound n pn None) refl (bound_of-name n pn) (rw e refl)
    declared fs c items before p {x} {q} {w} {s} {rest} all (plain.of_type {g} {o} {n} {w = w'} {p = pn} {q = q'} {s = s'} e r fit) off =
        let a = settled (item x q w ∷ rest) (λ h k. off.0 h k) (reads (frame.Between o lev.Typing grade.Declared (raw.Name n pn) ∷ frame.Listed c true items p ∷ fs) r (fits_reaches hole.Pair g fit)) in
        as_item grade.Declared (between o (raw.Name n pn) a.t) (bound n pn (Some a.t)) refl (bound_of-between o n pn a.t)
        (listed_typed fs c items n pn q' p w' o s' e
        ∙ a.same
        ∙ ends_finished limit goal (frame.Between o lev.Typing grade.Declared (raw.Name n pn)) (frame.Listed c true items p ∷ fs) a.e grade.Declared a.t (between o (raw.Name n pn) a.t) (item x q w ∷ rest) (fits_tighter hole.Pair g a.e a.tight fit) (off.0 hole.Pair a.e) refl)
    declared fs c items before p {x} {q} {w} {s} {rest} all (plain.of_types {g} {h} {o} {r = o2} {n} {w = w'} {v} {p = pn} {q = q'} {i} {s = s'} {m} e l fit r also) off =
        elim (sides (reads (frame.Between o lev.Typing grade.Declared (raw.Name n pn) ∷ frame.Listed c true items p ∷ fs) l (fits_reaches hole.Pair g fit)) (λ j a top. reads (frame.Between o2 lev.Typing (level lev.Typing j) a ∷ top) r (fits_reaches hole.Pair h also)) fit also (λ k j. off.0 k j)) [
          | one u k same fits' ↦
              as_item grade.Declared (between o (raw.Name n pn) u) (bound n pn (Some u)) refl (bound_of-between o n pn u)
              (listed_typed fs c items n pn q' p w' o s' e
              ∙ same
              ∙ ends_finished limit goal (frame.Between o lev.Typing grade.Declared (raw.Name n pn)) (frame.Listed c true items p ∷ fs) k grade.Declared u (between o (raw.Name n pn) u) (item x q w ∷ rest) fits' (off.0 hole.Pair k) refl)
          | two u k same fits' ↦ (
              let b = settled (item x q w ∷ rest) (λ h k. off.0 h k) (reads (frame.TypeAfter c before n pn (Some u) p ∷ fs) r (fits_reaches hole.Pair h also)) in
              as_type (bound n pn (Some (type_with (Some u) b.t)))
              (λ f d. listed_typed fs c items n pn q' p w' o s' e
              ∙ same
              ∙ ends_finished limit goal (frame.Between o lev.Typing grade.Declared (raw.Name n pn)) (frame.Listed c true items p ∷ fs) k grade.Declared u (between o (raw.Name n pn) u) (item (sign.Infix lev.Typing o2) i v ∷ m) fits' (pair_ends k o2) refl
              ∙ takes_sign limit goal (frame.Listed c true items p) fs grade.Declared (between o (raw.Name n pn) u) (sign.Infix lev.Typing o2) i v (want (frame.TypeAfter c before n pn (Some u) p ∷ fs)) m refl refl refl (rw (all, typed_name_of-between o n pn u) refl)
              ∙ b.same
              ∙ takes_sign limit goal (frame.TypeAfter c before n pn (Some u) p) fs b.e b.t x q w (want (f ∷ fs)) rest (fits_tighter hole.Pair h b.e b.tight also) (off.0 hole.Pair b.e) refl (rw (off.1, d) refl)))
        ]

    -- a pattern, up to the sign behind it
    pattern : (fs : List Frame) (inner : Bool) (p : ℕ) (before : Option Shape) {x : Symbol} {q : ℕ} {w : List ℕ} {s rest : List Item} →
        PlainPattern limit false s (item x q w ∷ rest) → (is_maplet x ≡ false → (h : Hole) (g : Grade) → goes_on h g x ≡ false) → is_typing x ≡ false →
        (shape : Shape) × ((st : ParseState) → after_shape fs inner shape p x ≡ Some st → reach limit goal (shape_want (frame.Pattern inner before p ∷ fs)) s ≡ reach limit goal st rest)
    pattern fs inner p before (plain.last_atom r) still off =
        let a = atom (frame.Pattern inner before p ∷ fs) r still off in
        (joined_shape before a.0, λ st e. a.1 ∙ rw e refl)
    pattern fs inner p before (plain.next_atom r others) still off =
        let a = atom (frame.Pattern inner before p ∷ fs) r (λ no _ _. cc) refl in
        let shape = pattern fs inner p (Some (joined_shape before a.0)) others still off in
        (shape.0, λ st e. a.1 ∙ shape.1 st e)

    atom : (fs : List Frame) {x : Symbol} {q : ℕ} {w : List ℕ} {s rest : List Item} →
        PlainAtom limit false s (item x q w ∷ rest) → (is_maplet x ≡ false → (h : Hole) (g : Grade) → goes_on h g x ≡ false) → is_typing x ≡ false →
        (a : Shape) × (reach limit goal (shape_want fs) s ≡ reach limit goal (shape_have fs a) (item x q w ∷ rest))
    atom fs {x} {q} {w} {s} {rest} (plain.bare_atom {n} {p} e) still off = (lone n p None, complete_atom limit goal fs (grammar.bare_atom e) off)
    atom fs {x} {q} {w} {s} {rest} (plain.typed_atom {g} {o} {n} {w = w'} {p} {q = q'} {s = s'} e r fit free) still off =
        let a = settled (item x q w ∷ rest) (still free) (reads (frame.PatternType n p ∷ fs) r (fits_reaches hole.Arrow g fit)) in
        let fit' : fits hole.Arrow a.e ≡ true = fits_tighter hole.Arrow g a.e a.tight fit in
        let d : goes_on hole.Arrow a.e x ≡ false = still free hole.Arrow a.e in
        (lone n p (Some a.t), rw e (a.same ∙ rw (d, fit') refl))
    atom fs {x} {q} {w} {s} {rest} (plain.strictly_typed {n = n} {p = p} {t = t} e r fit d) still off = (lone n p (Some t), complete_atom limit goal fs (grammar.typed_atom e r fit d) off)
    atom fs {x} {q} {w} {s} {rest} (plain.grouped_atom {p = p} r) still off =
        let shape = pattern fs true p None r (λ _ _ _. refl) refl in
        (shape.0, shape.1 (shape_have fs shape.0) refl)

-- what is accepted is spelled
pub accepted : (limit : Option ℕ) (h : Hole) (s : List Item) → Accepts limit false h s → (t : Raw) × Spells limit h s t
accepted limit h s a =
    let r = settled limit h [] (λ _ _. tt) (reads limit h [] a.reads (fits_reaches h a.g a.fit)) in
    let fit : fits h r.e ≡ true = fits_tighter h a.g r.e r.tight a.fit in
    (r.t, sentence_found limit h s r.t (run_reaches limit h (want []) s ∙ ap outcome r.same ∙ rw fit refl))
