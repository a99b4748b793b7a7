-- Each sentence is read up to its end.
use Rattle.std.proofs.Common.{◌≡◌, ℕ, List, [], ◌∷◌, ◌++◌, Bool, true, false, ◌&&◌, cond, Option, Some, None, refl, ap, ◌∙◌, subst, arith, length}
use Rattle.std.specs.Prelude.{nat_le}
use Rattle.std.proofs.lemmas.Bool.{leb-true}
use Rattle.formula_core.specs.Names.{is_name}
use Rattle.formula_core.specs.declared.op.Op.TheVariants as op
use Rattle.formula_core.specs.declared.raw.RawOp.{RawOp}
use Rattle.formula_core.specs.declared.raw.RawOp.TheVariants as rawop
use Rattle.formula_core.specs.declared.raw.RawBinder.{RawBinder}
use Rattle.formula_core.specs.declared.raw.RawBound.{RawBound}
use Rattle.formula_core.specs.declared.raw.Raw.{Raw}
use Rattle.formula_core.specs.declared.raw.Raw.TheVariants as raw
use Rattle.math_grammar.specs.declared.holes.Grade.{Grade}
use Rattle.math_grammar.specs.declared.holes.Grade.TheVariants as grade
use Rattle.math_grammar.specs.declared.holes.Hole.{Hole}
use Rattle.math_grammar.specs.declared.holes.Hole.TheVariants as hole
use Rattle.math_grammar.specs.declared.levels.Level.{Level}
use Rattle.math_grammar.specs.declared.levels.Level.TheVariants as lev
use Rattle.math_grammar.specs.declared.levels.Bracket.{Bracket}
use Rattle.math_grammar.specs.declared.levels.Bracket.TheVariants as bracket
use Rattle.math_grammar.specs.declared.levels.Call.{Call}
use Rattle.math_grammar.specs.declared.levels.Binding.{Binding}
use Rattle.math_grammar.specs.declared.levels.Binding.TheVariants as binding
use Rattle.math_grammar.specs.declared.symbols.Symbol.{Symbol}
use Rattle.math_grammar.specs.declared.symbols.Symbol.TheVariants as sign
use Rattle.math_grammar.specs.declared.shapes.Shape.{Shape}
use Rattle.math_grammar.specs.Levels.{rank, level, right_of, takes_left, reaches, fits, inside, suffixes, goes_on, infix_of, suffix_of, is_typing, is_declaration, prefix_hole, prefix_op, call_hole, call_grade, call_parts, has_room, binding_grade, binder_of, implicit_of, takes_names, takes_shape, is_braced}
use Rattle.math_grammar.specs.Tokens.{Item}
use Rattle.math_grammar.specs.Grammar.{item, place_of, bound, between, Ends, Reads, a_name, a_number, a_truth, a_constant, prefixed, two_sides, in_parentheses, called, applied, converted, set_by_members, by_names, by_shape, lambda, Parts, last_one, next_one, TypeOf, last_side, first_side, Bound, bare, of_type, Declares, last_name, next_name, BinderBody, a_predicate, a_value, LastPart, up_to_brace, reaching, Pattern, last_atom, next_atom, Atom, bare_atom, typed_atom, grouped_atom}
use Rattle.formula_parse.specs.declared.frames.Frame.{Frame}
use Rattle.formula_parse.specs.declared.frames.Frame.TheVariants as frame
use Rattle.formula_parse.specs.Machine.{hole_of, hole_wanted, ParseState, want, have, calling, shape_want, shape_have, bound_from, bounds_from, binding_body, binding_opened, begin, extend, finished, after_names, after_shape, closed, attach}
use Rattle.formula_parse.proofs.Reach.{Stop, reach}
use Rattle.formula_parse.proofs.Basics.{name_of-name, typed_name_of-between, bound_of-name, bound_of-between, bounds_of-more, both, fits_reaches, reached, reached_least, reaches_left, fits_expression, declaration_rank, Opens, group_opens, infix_goes, infix_extends, suffix_goes, suffix_extends, prefix_begins, binding_begins}

suffix_ready : (h : Hole) (g : Grade) → suffixes hole.Operand g ≡ true → reaches h grade.Suffixed ≡ true → suffixes h g ≡ true
suffix_ready h g s r = rw ((both (nat_le 14 (rank g)) (reaches hole.Operand grade.Suffixed) s).0, r) refl

pub suffix_reaches : (h : Hole) (g : Grade) → suffixes hole.Operand g ≡ true → reaches h grade.Suffixed ≡ true → reaches h g ≡ true
suffix_reaches h g s r = reached h g (omega (arith, reached_least h grade.Suffixed r, leb-true 14 (rank g) (both (nat_le 14 (rank g)) (reaches hole.Operand grade.Suffixed) s).0))

abbrev brace : Bracket → Bool
brace bracket.Brace = true
brace _ = false

abbrev is_brace : Option (Bracket × RawOp) → Bool
is_brace (Some b) = brace b.0
is_brace None = false

-- ⦂ doesn't go on with a pair at the place of a pair, nor with a type of a name
pair_ends : (g : Grade) (o : RawOp) → goes_on hole.Pair g (sign.Infix lev.Typing o) ≡ false
pair_ends grade.Name o = refl
pair_ends grade.Implication o = refl
pair_ends grade.Conjunction o = refl
pair_ends grade.Disjunction o = refl
pair_ends grade.Literal o = refl
pair_ends grade.Typed o = refl
pair_ends grade.Declared o = refl
pair_ends grade.Pair o = refl
pair_ends grade.Arrow o = refl
pair_ends grade.Set o = refl
pair_ends grade.Interval o = refl
pair_ends grade.Sum o = refl
pair_ends grade.Negative o = refl
pair_ends grade.Product o = refl
pair_ends grade.Power o = refl
pair_ends grade.Reaching o = refl
pair_ends grade.Suffixed o = refl
pair_ends grade.Primary o = refl

opened_shape : (c : Binding) (fs : List Frame) (p : ℕ) → takes_shape c ≡ true → binding_opened c fs p ≡ want (frame.Listed c true [] p ∷ fs)
opened_shape binding.Set fs p h = refl
opened_shape (binding.Reaching b) fs p h = refl
opened_shape (binding.Quantified b) fs p h = cc
opened_shape binding.Lambda fs p h = cc

module _ (limit : Option ℕ) where
  -- what goes on is put on the stack
  pub attach_on : (goal : Hole) (fs : List Frame) (g : Grade) (t : Raw) (x : Symbol) → goes_on (hole_wanted goal fs) g x ≡ true → attach limit goal fs g t x ≡ extend fs g t x
  attach_on goal [] g t x h = ap (λ b. cond b (extend [] g t x) None) h
  attach_on goal (f ∷ fs) g t x h = rw h

  pub attach_infix : (goal : Hole) (fs : List Frame) (g : Grade) (t : Raw) (x : Symbol) (l : Level) (o : RawOp) →
      infix_of x ≡ Some (l, o) → takes_left l g ≡ true → reaches (hole_wanted goal fs) (level l g) ≡ true →
      attach limit goal fs g t x ≡ Some (want (frame.Between o l (level l g) t ∷ fs))
  attach_infix goal fs g t x l o e left r =
      attach_on goal fs g t x (infix_goes (hole_wanted goal fs) g x l o e ∙ rw (left, r) refl) ∙ infix_extends fs g t x l o e

  pub attach_suffix : (goal : Hole) (fs : List Frame) (g : Grade) (t : Raw) (x : Symbol) (b : Bracket) (o : RawOp) →
      suffix_of x ≡ Some (b, o) → suffixes hole.Operand g ≡ true → reaches (hole_wanted goal fs) grade.Suffixed ≡ true →
      attach limit goal fs g t x ≡ Some (want (frame.Suffixed b o t ∷ fs))
  attach_suffix goal fs g t x b o e s r =
      attach_on goal fs g t x (suffix_goes (hole_wanted goal fs) g x b o e ∙ suffix_ready (hole_wanted goal fs) g s r) ∙ suffix_extends fs g t x b o e

  -- the bracket that closes
  pub suffix_closes : (x : Symbol) (b : Bracket) (o : RawOp) (fs : List Frame) (g : Grade) (f a : Raw) → suffix_of x ≡ Some (b, o) →
      closed limit fs (frame.Suffixed b o f) g a (sign.Close b) ≡ Some (have fs grade.Suffixed (between o f a))
  suffix_closes x bracket.Round o fs g f a e = refl
  suffix_closes x bracket.Square o fs g f a e = refl
  suffix_closes (sign.Open bracket.Round) bracket.Brace o fs g f a e = let n : false ≡ true = ap is_brace e in cc
  suffix_closes (sign.Open bracket.Square) bracket.Brace o fs g f a e = let n : false ≡ true = ap is_brace e in cc
  suffix_closes _ bracket.Brace o fs g f a e = cc

  -- a form that ends with its last part is complete where nothing goes on with that
  pub ends_finished : (goal : Hole) (f : Frame) (fs : List Frame) (g h : Grade) (t u : Raw) (rest : List Item) →
      fits (hole_of f) g ≡ true → Ends (hole_of f) g rest → finished f t ≡ Some (h, u) →
      reach limit goal (have (f ∷ fs) g t) rest ≡ reach limit goal (have fs h u) rest
  ends_finished goal f fs g h t u [] fit e d = rw (fit, d)
  ends_finished goal f fs g h t u (x ∷ rest) fit e d = rw (e, fit, d)

  -- a form takes a sign
  pub takes_sign : (goal : Hole) (f : Frame) (fs : List Frame) (g : Grade) (t : Raw) (x : Symbol) (p : ℕ) (w : List ℕ) (st : ParseState) (rest : List Item) →
      fits (hole_of f) g ≡ true → goes_on (hole_of f) g x ≡ false → finished f t ≡ None → closed limit fs f g t x ≡ Some st →
      reach limit goal (have (f ∷ fs) g t) (item x p w ∷ rest) ≡ reach limit goal st rest
  takes_sign goal f fs g t x p w st rest fit off e c = rw (off, fit, e, c)

  -- the first token
  pub begins : (goal : Hole) (fs : List Frame) (x : Symbol) (p : ℕ) (w : List ℕ) (st : ParseState) (rest : List Item) →
      begin (hole_wanted goal fs) fs p w x ≡ Some st → reach limit goal (want fs) (item x p w ∷ rest) ≡ reach limit goal st rest
  begins goal fs x p w st rest e = rw e

  -- a token that goes on
  pub goes : (goal : Hole) (fs : List Frame) (g : Grade) (t : Raw) (x : Symbol) (p : ℕ) (w : List ℕ) (st : ParseState) (rest : List Item) →
      attach limit goal fs g t x ≡ Some st → reach limit goal (have fs g t) (item x p w ∷ rest) ≡ reach limit goal st rest
  goes goal fs g t x p w st rest e = rw e

  -- what nothing goes on with
  abbrev pub Stops : Symbol → Type 0
  Stops x = ((h : Hole) (g : Grade) → goes_on h g x ≡ false) × (is_typing x ≡ false)

  opened_names : (goal : Hole) (fs : List Frame) (c : Binding) (p : ℕ) (s : List Item) {z : Stop} → takes_names c ≡ true →
      reach limit goal (want (frame.Names c [] p ∷ fs)) s ≡ z → reach limit goal (want (frame.Listed c true [] p ∷ fs)) s ≡ z → reach limit goal (binding_opened c fs p) s ≡ z
  opened_names goal fs binding.Set p s takes named listed = listed
  opened_names goal fs (binding.Reaching b) p s takes named listed = listed
  opened_names goal fs (binding.Quantified b) p s takes named listed = named
  opened_names goal fs binding.Lambda p s takes named listed = cc

  -- a name wanted by a form, and a comma or a dot behind it
  name_then : (goal : Hole) (fs : List Frame) (c : Binding) (before : List RawBound) (n : List ℕ) (p q place : ℕ) (w : List ℕ) (x : Symbol) (f : Frame) (rest : List Item) →
      is_name n ≡ true → Stops x → after_names c (before ++ bound n p None ∷ []) place x ≡ Some f →
      reach limit goal (want (frame.Names c before place ∷ fs)) (item sign.Word p n ∷ item x q w ∷ rest) ≡ reach limit goal (want (f ∷ fs)) rest
  name_then goal fs c before n p q place w x f rest e off d =
      rw e (takes_sign goal (frame.Names c before place) fs grade.Name (raw.Name n p) x q w (want (f ∷ fs)) rest refl (off.0 hole.Name grade.Name) refl
      (rw (name_of-name n p, off.1, d) refl))

  name_typed : (goal : Hole) (fs : List Frame) (c : Binding) (before : List RawBound) (n : List ℕ) (p q place : ℕ) (w : List ℕ) (o : RawOp) (rest : List Item) →
      is_name n ≡ true →
      reach limit goal (want (frame.Names c before place ∷ fs)) (item sign.Word p n ∷ item (sign.Infix lev.Typing o) q w ∷ rest) ≡ reach limit goal (want (frame.TypeAfter c before n p None place ∷ fs)) rest
  name_typed goal fs c before n p q place w o rest e =
      rw e (takes_sign goal (frame.Names c before place) fs grade.Name (raw.Name n p) (sign.Infix lev.Typing o) q w (want (frame.TypeAfter c before n p None place ∷ fs)) rest refl refl refl
      (rw (name_of-name n p) refl))

  -- a name in a list, and its type
  listed_typed : (goal : Hole) (fs : List Frame) (c : Binding) (before : List Raw) (n : List ℕ) (p q place : ℕ) (w : List ℕ) (o : RawOp) (rest : List Item) →
      is_name n ≡ true →
      reach limit goal (want (frame.Listed c true before place ∷ fs)) (item sign.Word p n ∷ item (sign.Infix lev.Typing o) q w ∷ rest)
      ≡ reach limit goal (want (frame.Between o lev.Typing grade.Declared (raw.Name n p) ∷ frame.Listed c true before place ∷ fs)) rest
  listed_typed goal fs c before n p q place w o rest e = rw e refl

  -- a name in a list with the first side of its type
  first_side_read : (goal : Hole) (fs : List Frame) (c : Binding) (items : List Raw) (before : List RawBound) (p : ℕ) (n : List ℕ) (pn q' : ℕ) (w' : List ℕ) (o : RawOp) (s' : List Item) →
      is_name n ≡ true → (q2 : ℕ) (w2 : List ℕ) (o2 : RawOp) (m : List Item) (a : Raw) → bounds_from items ≡ Some before → (g : Grade) → fits hole.Pair g ≡ true →
      reach limit goal (want (frame.Between o lev.Typing grade.Declared (raw.Name n pn) ∷ frame.Listed c true items p ∷ fs)) s'
      ≡ reach limit goal (have (frame.Between o lev.Typing grade.Declared (raw.Name n pn) ∷ frame.Listed c true items p ∷ fs) g a) (item (sign.Infix lev.Typing o2) q2 w2 ∷ m) →
      reach limit goal (want (frame.Listed c true items p ∷ fs)) (item sign.Word pn n ∷ item (sign.Infix lev.Typing o) q' w' ∷ s') ≡ reach limit goal (want (frame.TypeAfter c before n pn (Some a) p ∷ fs)) m
  first_side_read goal fs c items before p n pn q' w' o s' e q2 w2 o2 m a is g fit read =
      listed_typed goal fs c items n pn q' p w' o s' e
      ∙ read
      ∙ ends_finished goal (frame.Between o lev.Typing grade.Declared (raw.Name n pn)) (frame.Listed c true items p ∷ fs) g grade.Declared a (between o (raw.Name n pn) a) (item (sign.Infix lev.Typing o2) q2 w2 ∷ m) fit (pair_ends g o2) refl
      ∙ takes_sign goal (frame.Listed c true items p) fs grade.Declared (between o (raw.Name n pn) a) (sign.Infix lev.Typing o2) q2 w2 (want (frame.TypeAfter c before n pn (Some a) p ∷ fs)) m refl refl refl
      (rw (is, typed_name_of-between o n pn a) refl)

  -- a comma behind a name that may be a member too
  comma_listed : (goal : Hole) (fs : List Frame) (c : Binding) (items : List Raw) (p : ℕ) (m : List Item) {before : List RawBound} {z : Stop} →
      bounds_from items ≡ Some before → (q : ℕ) (w : List ℕ) (g : Grade) (t : Raw) (b : RawBound) → is_declaration g ≡ true → bound_from t ≡ Some b →
      reach limit goal (want (frame.Listed c true (items ++ t ∷ []) p ∷ fs)) m ≡ z → reach limit goal (want (frame.Names c (before ++ b ∷ []) p ∷ fs)) m ≡ z →
      reach limit goal (have (frame.Listed c true items p ∷ fs) g t) (item sign.Comma q w ∷ m) ≡ z
  comma_listed goal fs c items p m {before} {z} is q w g t b d declared listed named =
      go (is_braced c) refl (bounds_of-more items t before b is declared) (fits_expression g (declaration_rank g d)) listed named
    where
      go : (v : Bool) → is_braced c ≡ v → bounds_from (items ++ t ∷ []) ≡ Some (before ++ b ∷ []) → fits hole.Expression g ≡ true →
          reach limit goal (want (frame.Listed c true (items ++ t ∷ []) p ∷ fs)) m ≡ z → reach limit goal (want (frame.Names c (before ++ b ∷ []) p ∷ fs)) m ≡ z →
          reach limit goal (have (frame.Listed c true items p ∷ fs) g t) (item sign.Comma q w ∷ m) ≡ z
      go true v all fit listed named =
          takes_sign goal (frame.Listed c true items p) fs g t sign.Comma q w (want (frame.Listed c true (items ++ t ∷ []) p ∷ fs)) m fit refl refl (rw (d, v) refl) ∙ listed
      go false v all fit listed named =
          takes_sign goal (frame.Listed c true items p) fs g t sign.Comma q w (want (frame.Names c (before ++ b ∷ []) p ∷ fs)) m fit refl refl (rw (d, v, all) refl) ∙ named

  mutual
    pub complete_reads : (goal : Hole) (fs : List Frame) {g : Grade} {s rest : List Item} {t : Raw} →
        Reads limit g s t rest → reaches (hole_wanted goal fs) g ≡ true →
        reach limit goal (want fs) s ≡ reach limit goal (have fs g t) rest
    complete_reads goal fs (a_name {n} {p} {rest} e) b = begins goal fs sign.Word p n (have fs grade.Name (raw.Name n p)) rest (rw e refl)
    complete_reads goal fs (a_number {n} {p} {w} {rest}) b = begins goal fs (sign.Number n) p w (have fs grade.Primary (raw.Int n p)) rest (rw b refl)
    complete_reads goal fs (a_truth {o} {p} {w} {rest}) b = begins goal fs (sign.Truth o) p w (have fs grade.Literal (raw.Node (rawop.Plain o) [] p)) rest (rw b refl)
    complete_reads goal fs (a_constant {o} {p} {w} {rest}) b = begins goal fs (sign.Constant o) p w (have fs grade.Primary (raw.Node (rawop.Plain o) [] p)) rest (rw b refl)
    complete_reads goal fs (prefixed {g} {k} {q} {x} {p} {w} {s} {rest} {t} is r fit e lv) b =
        begins goal fs x p w (want (frame.Prefixed q p ∷ fs)) s (prefix_begins (hole_wanted goal fs) fs p w x q is (rw lv b))
        ∙ complete_reads goal (frame.Prefixed q p ∷ fs) r (fits_reaches (prefix_hole q) g fit)
        ∙ ends_finished goal (frame.Prefixed q p) fs g k t (raw.Node (prefix_op q) (t ∷ []) p) rest fit e (ap (λ l. Some (l, raw.Node (prefix_op q) (t ∷ []) p)) lv)
    complete_reads goal fs (two_sides {g} {h} {k} {l} {o} {x} {p} {w} {s} {m} {rest} {a} {b = c} left is takes r fit e lv) b =
        let b' : reaches (hole_wanted goal fs) (level l g) ≡ true = rw lv b in
        complete_reads goal fs left (reaches_left (hole_wanted goal fs) l g takes b')
        ∙ goes goal fs g a x p w (want (frame.Between o l (level l g) a ∷ fs)) m (attach_infix goal fs g a x l o is takes b')
        ∙ complete_reads goal (frame.Between o l (level l g) a ∷ fs) r (fits_reaches (right_of l) h fit)
        ∙ ends_finished goal (frame.Between o l (level l g) a) fs h k c (between o a c) rest fit e (ap (λ l. Some (l, between o a c)) lv)
    complete_reads goal fs (in_parentheses {g} {k} {p} {q} {w} {v} {s} {rest} {t} r lv) b =
        let o : Opens (hole_wanted goal fs) g = group_opens (hole_wanted goal fs) g (rw lv b) in
        begins goal fs (sign.Open bracket.Round) p w (want (frame.Group (inside (hole_wanted goal fs)) ∷ fs)) s (rw o.room refl)
        ∙ complete_reads goal (frame.Group (inside (hole_wanted goal fs)) ∷ fs) r o.low
        ∙ takes_sign goal (frame.Group (inside (hole_wanted goal fs))) fs g t (sign.Close bracket.Round) q v (have fs k t) rest o.fit refl refl (ap (λ l. Some (have fs l t)) lv)
    complete_reads goal fs (called {k} {c} {o} {p} {q} {w} {v} {s} {rest} {parts} r lv) b =
        begins goal fs (sign.Call c o) p w (calling fs c o p) (item (sign.Open bracket.Round) q v ∷ s) (let b' : reaches (hole_wanted goal fs) (call_grade c) ≡ true = rw lv b in rw b' refl)
        ∙ complete_more goal fs c o p r refl refl ∙ ap (λ l. reach limit goal (have fs l (raw.Node o parts p)) rest) lv
    complete_reads goal fs (applied {g} {h} {b = br} {o} {x} {p} {q} {w} {v} {s} {m} {rest} {f} {a} left is ready r fit) b =
        complete_reads goal fs left (suffix_reaches (hole_wanted goal fs) g ready b)
        ∙ goes goal fs g f x p w (want (frame.Suffixed br o f ∷ fs)) m (attach_suffix goal fs g f x br o is ready b)
        ∙ complete_reads goal (frame.Suffixed br o f ∷ fs) r (fits_reaches hole.Expression h fit)
        ∙ takes_sign goal (frame.Suffixed br o f) fs h a (sign.Close br) q v (have fs grade.Suffixed (between o f a)) rest fit refl refl (suffix_closes x br o fs h f a is)
    complete_reads goal fs (converted {g} {p} {w} {s} {rest} {f} left ready) b =
        complete_reads goal fs left (suffix_reaches (hole_wanted goal fs) g ready b)
        ∙ goes goal fs g f sign.Converse p w (have fs grade.Suffixed (raw.Node (rawop.Plain op.Converse) (f ∷ []) (place_of f))) rest
        (attach_on goal fs g f sign.Converse (suffix_ready (hole_wanted goal fs) g ready b))
    complete_reads goal fs (set_by_members {x} {p} {w} {s} {rest} {members} is r) b =
        begins goal fs x p w (want (frame.Listed binding.Set true [] p ∷ fs)) s (binding_begins (hole_wanted goal fs) fs p w x binding.Set is b)
        ∙ complete_members goal fs true p r
    complete_reads goal fs (by_names {k} {c} {x} {p} {w} {s} {m} {rest} {names} {parts} is takes d r lv) b =
        begins goal fs x p w (binding_opened c fs p) s (binding_begins (hole_wanted goal fs) fs p w x c is (rw lv b))
        ∙ opened_names goal fs c p s takes (complete_names goal fs c p d) (complete_listed goal fs c [] p refl d)
        ∙ complete_body goal fs c names p r ∙ ap (λ l. reach limit goal (have fs l (raw.Bind (binder_of c) names parts p)) rest) lv
    complete_reads goal fs (by_shape {g} {k} {c} {x} {p} {q} {w} {v} {s} {m} {rest} {e} {t} is takes r fit last lv) b =
        begins goal fs x p w (binding_opened c fs p) s (binding_begins (hole_wanted goal fs) fs p w x c is (rw lv b))
        ∙ ap (λ st. reach limit goal st s) (opened_shape c fs p takes)
        ∙ complete_reads goal (frame.Listed c true [] p ∷ fs) r (fits_reaches hole.Expression g fit)
        ∙ takes_sign goal (frame.Listed c true [] p) fs g e sign.Bar q v (want (frame.Last c hole.Predicate (implicit_of c) [] (e ∷ []) p ∷ fs)) m fit refl refl refl
        ∙ complete_last goal fs c hole.Predicate (implicit_of c) [] (e ∷ []) p last ∙ ap (λ l. reach limit goal (have fs l (raw.Bind (implicit_of c) [] (e ∷ t ∷ []) p)) rest) lv
    complete_reads goal fs (lambda {p} {q} {w} {v} {s} {m} {rest} {shape} {parts} d r) b =
        begins goal fs (sign.Binder binding.Lambda) p w (shape_want (frame.Pattern false None p ∷ fs)) s (rw b refl)
        ∙ complete_pattern goal fs false p d refl refl
        ∙ complete_body goal fs binding.Lambda shape.names p r

    -- the parts of a word
    pub complete_more : (goal : Hole) (fs : List Frame) (c : Call) (o : RawOp) (p : ℕ) {h : Hole} {many : Option ℕ} {s rest : List Item} {before parts : List Raw} →
        Parts limit h many bracket.Round before s parts rest → h ≡ call_hole c → many ≡ call_parts limit c →
        reach limit goal (want (frame.Parts c o before p ∷ fs)) s ≡ reach limit goal (have fs (call_grade c) (raw.Node o parts p)) rest
    complete_more goal fs c o p (last_one {h} {before = before} {g} {p = q} {w} {s} {rest} {t} r fit) hs ms =
        let fit' : fits (call_hole c) g ≡ true = subst (λ k. fits k g ≡ true) hs fit in
        complete_reads goal (frame.Parts c o before p ∷ fs) r (fits_reaches (call_hole c) g fit')
        ∙ takes_sign goal (frame.Parts c o before p) fs g t (sign.Close bracket.Round) q w (have fs (call_grade c) (raw.Node o (before ++ t ∷ []) p)) rest fit' refl refl refl
    complete_more goal fs c o p (next_one {h} {before = before} {parts} {g} {p = q} {w} {s} {m} {rest} {t} many r fit others) hs ms =
        let fit' : fits (call_hole c) g ≡ true = subst (λ k. fits k g ≡ true) hs fit in
        complete_reads goal (frame.Parts c o before p ∷ fs) r (fits_reaches (call_hole c) g fit')
        ∙ takes_sign goal (frame.Parts c o before p) fs g t sign.Comma q w (want (frame.Parts c o (before ++ t ∷ []) p ∷ fs)) m fit' refl refl (let many' : has_room (call_parts limit c) (length (before ++ t ∷ [])) ≡ true = subst (λ k. has_room k (length (before ++ t ∷ [])) ≡ true) ms many in rw many' refl)
        ∙ complete_more goal fs c o p others hs ms

    -- the members of a set
    pub complete_members : (goal : Hole) (fs : List Frame) (names : Bool) (p : ℕ) {s rest : List Item} {before members : List Raw} →
        Parts limit hole.Expression None bracket.Brace before s members rest →
        reach limit goal (want (frame.Listed binding.Set names before p ∷ fs)) s ≡ reach limit goal (have fs grade.Primary (raw.Node (rawop.Plain op.SetExtension) members p)) rest
    complete_members goal fs names p (last_one {before = before} {g} {p = q} {w} {s} {rest} {t} r fit) =
        complete_reads goal (frame.Listed binding.Set names before p ∷ fs) r (fits_reaches hole.Expression g fit)
        ∙ takes_sign goal (frame.Listed binding.Set names before p) fs g t (sign.Close bracket.Brace) q w (have fs grade.Primary (raw.Node (rawop.Plain op.SetExtension) (before ++ t ∷ []) p)) rest fit refl refl refl
    complete_members goal fs names p (next_one {before = before} {parts} {g} {p = q} {w} {s} {m} {rest} {t} many r fit others) =
        complete_reads goal (frame.Listed binding.Set names before p ∷ fs) r (fits_reaches hole.Expression g fit)
        ∙ takes_sign goal (frame.Listed binding.Set names before p) fs g t sign.Comma q w (want (frame.Listed binding.Set (names && is_declaration g) (before ++ t ∷ []) p ∷ fs)) m fit refl refl refl
        ∙ complete_members goal fs (names && is_declaration g) p others

    -- the last part of a form
    pub complete_last : (goal : Hole) (fs : List Frame) (c : Binding) (h : Hole) (b : RawBinder) (names : List RawBound) (parts : List Raw) (p : ℕ) {s rest : List Item} {t : Raw} →
        LastPart limit c h s t rest →
        reach limit goal (want (frame.Last c h b names parts p ∷ fs)) s ≡ reach limit goal (have fs (binding_grade c) (raw.Bind b names (parts ++ t ∷ []) p)) rest
    complete_last goal fs c h b names parts p (up_to_brace {g = g} {p = q} {w} {s} {rest} {t} ends r fit) =
        complete_reads goal (frame.Last c h b names parts p ∷ fs) r (fits_reaches h g fit)
        ∙ takes_sign goal (frame.Last c h b names parts p) fs g t (sign.Close bracket.Brace) q w (have fs (binding_grade c) (raw.Bind b names (parts ++ t ∷ []) p)) rest fit refl (rw ends refl) refl
    complete_last goal fs c h b names parts p (reaching {g = g} {s} {rest} {t} ends r fit e) =
        complete_reads goal (frame.Last c h b names parts p ∷ fs) r (fits_reaches h g fit)
        ∙ ends_finished goal (frame.Last c h b names parts p) fs g (binding_grade c) t (raw.Bind b names (parts ++ t ∷ []) p) rest fit e (rw ends refl)

    -- what follows the names
    pub complete_body : (goal : Hole) (fs : List Frame) (c : Binding) (names : List RawBound) (p : ℕ) {s rest : List Item} {before parts : List Raw} →
        BinderBody limit c before s parts rest →
        reach limit goal (want (binding_body c names before p ∷ fs)) s ≡ reach limit goal (have fs (binding_grade c) (raw.Bind (binder_of c) names parts p)) rest
    complete_body goal fs c names p (a_predicate {before = before} is r) =
        rw is (complete_last goal fs c hole.Predicate (binder_of c) names before p r)
    complete_body goal fs c names p (a_value {before = before} {g} {p = q} {w} {s} {m} {rest} {t} {e} is r fit last) =
        rw is
        (complete_reads goal (frame.Given c names before p ∷ fs) r (fits_reaches hole.Predicate g fit)
        ∙ takes_sign goal (frame.Given c names before p) fs g t sign.Bar q w (want (frame.Last c hole.Expression (binder_of c) names (before ++ t ∷ []) p ∷ fs)) m fit refl refl refl
        ∙ complete_last goal fs c hole.Expression (binder_of c) names (before ++ t ∷ []) p last)

    -- the names of a form
    pub complete_names : (goal : Hole) (fs : List Frame) (c : Binding) (p : ℕ) {s rest : List Item} {before names : List RawBound} →
        Declares limit before s names rest →
        reach limit goal (want (frame.Names c before p ∷ fs)) s ≡ reach limit goal (want (binding_body c names [] p ∷ fs)) rest
    complete_names goal fs c p (last_name {before} {b} {p = q} {w} {s} {rest} r) =
        complete_bound goal fs c before p (binding_body c (before ++ b ∷ []) [] p) r (λ _ _. refl, refl) refl
    complete_names goal fs c p (next_name {before} {names} {b} {p = q} {w} {s} {m} {rest} r others) =
        complete_bound goal fs c before p (frame.Names c (before ++ b ∷ []) p) r (λ _ _. refl, refl) refl
        ∙ complete_names goal fs c p others

    pub complete_bound : (goal : Hole) (fs : List Frame) (c : Binding) (before : List RawBound) (p : ℕ) (f : Frame) {x : Symbol} {q : ℕ} {w : List ℕ} {s rest : List Item} {b : RawBound} →
        Bound limit s b (item x q w ∷ rest) → Stops x → after_names c (before ++ b ∷ []) p x ≡ Some f →
        reach limit goal (want (frame.Names c before p ∷ fs)) s ≡ reach limit goal (want (f ∷ fs)) rest
    complete_bound goal fs c before p f {x} {q} {w} {s} {rest} (bare {n} {p = pn} e) off d = name_then goal fs c before n pn q p w x f rest e off d
    complete_bound goal fs c before p f {x} {q} {w} {s} {rest} (of_type {o} {n} {w = w'} {p = pn} {q = q'} {s = s'} {t = t} e r) off d =
        name_typed goal fs c before n pn q' p w' o s' e
        ∙ complete_type goal fs c before n pn p f r off d

    pub complete_type : (goal : Hole) (fs : List Frame) (c : Binding) (before : List RawBound) (n : List ℕ) (pn p : ℕ) (f : Frame) {x : Symbol} {q : ℕ} {w : List ℕ} {s rest : List Item} {side : Option Raw} {t : Raw} →
        TypeOf limit side s t (item x q w ∷ rest) → Stops x → after_names c (before ++ bound n pn (Some t) ∷ []) p x ≡ Some f →
        reach limit goal (want (frame.TypeAfter c before n pn side p ∷ fs)) s ≡ reach limit goal (want (f ∷ fs)) rest
    complete_type goal fs c before n pn p f {x} {q} {w} {s} {rest} (last_side {before = side} {g} {t = t} r fit) off d =
        complete_reads goal (frame.TypeAfter c before n pn side p ∷ fs) r (fits_reaches hole.Pair g fit)
        ∙ takes_sign goal (frame.TypeAfter c before n pn side p) fs g t x q w (want (f ∷ fs)) rest fit (off.0 hole.Pair g) refl (rw (off.1, d) refl)
    complete_type goal fs c before n pn p f {x} {q} {w} {s} {rest} (first_side {g} {o} {p = q'} {w = w'} {m = m} {a = a} r fit others) off d =
        complete_reads goal (frame.TypeAfter c before n pn None p ∷ fs) r (fits_reaches hole.Pair g fit)
        ∙ takes_sign goal (frame.TypeAfter c before n pn None p) fs g a (sign.Infix lev.Typing o) q' w' (want (frame.TypeAfter c before n pn (Some a) p ∷ fs)) m fit (pair_ends g o) refl refl
        ∙ complete_type goal fs c before n pn p f others off d

    -- names that may be members too
    pub complete_listed : (goal : Hole) (fs : List Frame) (c : Binding) (items : List Raw) (p : ℕ) {s rest : List Item} {before names : List RawBound} →
        bounds_from items ≡ Some before → Declares limit before s names rest →
        reach limit goal (want (frame.Listed c true items p ∷ fs)) s ≡ reach limit goal (want (binding_body c names [] p ∷ fs)) rest
    complete_listed goal fs c items p is (last_name {before} {p = q} {w} {rest = rest} (bare {n} {p = pn} e)) =
        rw e (takes_sign goal (frame.Listed c true items p) fs grade.Name (raw.Name n pn) sign.Dot q w (want (binding_body c (before ++ bound n pn None ∷ []) [] p ∷ fs)) rest refl refl refl
        (rw (bounds_of-more items (raw.Name n pn) before (bound n pn None) is (bound_of-name n pn)) refl))
    complete_listed goal fs c items p is (last_name {before} {p = q} {w} {rest = rest} (of_type {o} {n} {w = w'} {p = pn} {q = q'} {s = s'} {t = t} e (last_side {g = g} {t = u} r fit))) =
        listed_typed goal fs c items n pn q' p w' o s' e
        ∙ complete_reads goal (frame.Between o lev.Typing grade.Declared (raw.Name n pn) ∷ frame.Listed c true items p ∷ fs) r (fits_reaches hole.Pair g fit)
        ∙ ends_finished goal (frame.Between o lev.Typing grade.Declared (raw.Name n pn)) (frame.Listed c true items p ∷ fs) g grade.Declared u (between o (raw.Name n pn) u) (item sign.Dot q w ∷ rest) fit refl refl
        ∙ takes_sign goal (frame.Listed c true items p) fs grade.Declared (between o (raw.Name n pn) u) sign.Dot q w (want (binding_body c (before ++ bound n pn (Some u) ∷ []) [] p ∷ fs)) rest refl refl refl
        (rw (bounds_of-more items (between o (raw.Name n pn) u) before (bound n pn (Some u)) is (bound_of-between o n pn u)) refl)
    complete_listed goal fs c items p is (last_name {before} {p = q} {w} {rest = rest} (of_type {o} {n} {w = w'} {p = pn} {q = q'} {s = s'} {t = t} e (first_side {g} {o = o2} {p = q2} {w = w2} {m = m} {a = a} r fit others))) =
        first_side_read goal fs c items before p n pn q' w' o s' e q2 w2 o2 m a is g fit
        (complete_reads goal (frame.Between o lev.Typing grade.Declared (raw.Name n pn) ∷ frame.Listed c true items p ∷ fs) r (fits_reaches hole.Pair g fit))
        ∙ complete_type goal fs c before n pn p (binding_body c (before ++ bound n pn (Some t) ∷ []) [] p) others (λ _ _. refl, refl) refl
    complete_listed goal fs c items p is (next_name {before} {names} {p = q} {w} {m = m} {rest = rest} (bare {n} {p = pn} e) others) =
        rw e (comma_listed goal fs c items p m is q w grade.Name (raw.Name n pn) (bound n pn None) refl (bound_of-name n pn)
        (complete_listed goal fs c (items ++ (raw.Name n pn) ∷ []) p (bounds_of-more items (raw.Name n pn) before (bound n pn None) is (bound_of-name n pn)) others)
        (complete_names goal fs c p others))
    complete_listed goal fs c items p is (next_name {before} {names} {p = q} {w} {m = m'} {rest = rest} (of_type {o} {n} {w = w'} {p = pn} {q = q'} {s = s'} {t = t} e (last_side {g = g} {t = u} r fit)) others) =
        listed_typed goal fs c items n pn q' p w' o s' e
        ∙ complete_reads goal (frame.Between o lev.Typing grade.Declared (raw.Name n pn) ∷ frame.Listed c true items p ∷ fs) r (fits_reaches hole.Pair g fit)
        ∙ ends_finished goal (frame.Between o lev.Typing grade.Declared (raw.Name n pn)) (frame.Listed c true items p ∷ fs) g grade.Declared u (between o (raw.Name n pn) u) (item sign.Comma q w ∷ m') fit refl refl
        ∙ comma_listed goal fs c items p m' is q w grade.Declared (between o (raw.Name n pn) u) (bound n pn (Some u)) refl (bound_of-between o n pn u)
        (complete_listed goal fs c (items ++ (between o (raw.Name n pn) u) ∷ []) p (bounds_of-more items (between o (raw.Name n pn) u) before (bound n pn (Some u)) is (bound_of-between o n pn u)) others)
        (complete_names goal fs c p others)
    complete_listed goal fs c items p is (next_name {before} {names} {p = q} {w} {m = m'} {rest = rest} (of_type {o} {n} {w = w'} {p = pn} {q = q'} {s = s'} {t = t} e (first_side {g} {o = o2} {p = q2} {w = w2} {m = m} {a = a} r fit others)) more) =
        first_side_read goal fs c items before p n pn q' w' o s' e q2 w2 o2 m a is g fit
        (complete_reads goal (frame.Between o lev.Typing grade.Declared (raw.Name n pn) ∷ frame.Listed c true items p ∷ fs) r (fits_reaches hole.Pair g fit))
        ∙ complete_type goal fs c before n pn p (frame.Names c (before ++ bound n pn (Some t) ∷ []) p) others (λ _ _. refl, refl) refl
        ∙ complete_names goal fs c p more

    -- a pattern, up to the sign behind it
    pub complete_pattern : (goal : Hole) (fs : List Frame) (inner : Bool) (p : ℕ) {before : Option Shape} {shape : Shape} {x : Symbol} {q : ℕ} {w : List ℕ} {s rest : List Item} {st : ParseState} →
        Pattern limit before s shape (item x q w ∷ rest) → is_typing x ≡ false → after_shape fs inner shape p x ≡ Some st →
        reach limit goal (shape_want (frame.Pattern inner before p ∷ fs)) s ≡ reach limit goal st rest
    complete_pattern goal fs inner p {before} {shape} {x} {q} {w} {s} {rest} {st} (last_atom {a = a} r) off e =
        complete_atom goal (frame.Pattern inner before p ∷ fs) r off ∙ rw e
    complete_pattern goal fs inner p {before} {shape} {x} {q} {w} {s} {rest} {st} (next_atom {a = a} r others) off e =
        complete_atom goal (frame.Pattern inner before p ∷ fs) r refl
        ∙ complete_pattern goal fs inner p others off e

    pub complete_atom : (goal : Hole) (fs : List Frame) {a : Shape} {x : Symbol} {q : ℕ} {w : List ℕ} {s rest : List Item} →
        Atom limit s a (item x q w ∷ rest) → is_typing x ≡ false →
        reach limit goal (shape_want fs) s ≡ reach limit goal (shape_have fs a) (item x q w ∷ rest)
    complete_atom goal fs {a} {x} {q} {w} {s} {rest} (bare_atom {n} {p} e) off = rw (e, off) refl
    complete_atom goal fs {a} {x} {q} {w} {s} {rest} (typed_atom {g} {o} {n} {w = w'} {p} {q = q'} {s = s'} {t = t} e r fit d) off =
        rw e (complete_reads goal (frame.PatternType n p ∷ fs) r (fits_reaches hole.Arrow g fit) ∙ rw (d, fit) refl)
    complete_atom goal fs {a} {x} {q} {w} {s} {rest} (grouped_atom {p = p} r) off = complete_pattern goal fs true p r refl refl
