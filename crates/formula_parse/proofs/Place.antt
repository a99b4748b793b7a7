-- The place of the fault: what was read goes on to a sentence, and the next token doesn't.
use Rattle.std.proofs.Common.{◌≡◌, ℕ, ◌<◌, ◌≤◌, List, [], ◌∷◌, ◌++◌, Bool, true, false, ◌&&◌, cond, Option, Some, None, ◌⊎◌, inl, inr, refl, ap, ◌∙◌, subst, arith}
use Rattle.std.specs.Prelude.{nat_le}
use Rattle.std.proofs.lemmas.Bool.{leb-true, le-leb}
use Rattle.std.proofs.lemmas.Bool.Decides.{nat_tests}
use Rattle.formula_core.specs.Names.{is_name}
use Rattle.formula_core.specs.declared.op.Op.TheVariants as op
use Rattle.formula_core.specs.declared.raw.RawOp.{RawOp}
use Rattle.formula_core.specs.declared.raw.RawOp.TheVariants as rawop
use Rattle.formula_core.specs.declared.raw.RawBinder.{RawBinder}
use Rattle.formula_core.specs.declared.raw.RawBound.{RawBound}
use Rattle.formula_core.specs.declared.raw.Raw.{Raw}
use Rattle.formula_core.specs.declared.raw.Raw.TheVariants as raw
use Rattle.math_grammar.specs.declared.holes.Grade.{Grade}
use Rattle.math_grammar.specs.declared.holes.Grade.TheVariants as grade
use Rattle.math_grammar.specs.declared.holes.Hole.{Hole}
use Rattle.math_grammar.specs.declared.holes.Hole.TheVariants as hole
use Rattle.math_grammar.specs.declared.levels.Level.{Level}
use Rattle.math_grammar.specs.declared.levels.Level.TheVariants as lev
use Rattle.math_grammar.specs.declared.levels.Prefix.{Prefix}
use Rattle.math_grammar.specs.declared.levels.Prefix.TheVariants as prefix
use Rattle.math_grammar.specs.declared.levels.Bracket.TheVariants as bracket
use Rattle.math_grammar.specs.declared.levels.Call.{Call}
use Rattle.math_grammar.specs.declared.levels.Call.TheVariants as call
use Rattle.math_grammar.specs.declared.levels.Binding.{Binding}
use Rattle.math_grammar.specs.declared.levels.Binding.TheVariants as binding
use Rattle.math_grammar.specs.declared.symbols.Symbol.{Symbol}
use Rattle.math_grammar.specs.declared.symbols.Symbol.TheVariants as sign
use Rattle.math_grammar.specs.declared.shapes.Shape.{Shape}
use Rattle.math_grammar.specs.Levels.{rank, least, most, right_of, reaches, fits, grouped, goes_on, prefix_hole, prefix_grade, prefix_op, call_hole, call_grade, binding_grade, binder_of, implicit_of, is_quantified, is_braced}
use Rattle.math_grammar.specs.Tokens.{Item}
use Rattle.math_grammar.specs.Grammar.{item, bound, between, type_with, lone, joined_shape, Ends, Reads, Spells}
use Rattle.formula_parse.specs.declared.frames.Frame.{Frame}
use Rattle.formula_parse.specs.declared.frames.Frame.TheVariants as frame
use Rattle.formula_parse.specs.Machine.{hole_of, hole_wanted, ParseState, want, have, shape_want, shape_name, shape_have, plain_name_of, binding_body, finished, shape_next, closed}
use Rattle.formula_parse.specs.PrivateReaders.{formula_reader}
use Rattle.formula_parse.proofs.Outcomes.{run, found}
use Rattle.formula_parse.proofs.Basics.{name_of-name, both, fits_reaches, rank_most, level_rank, left_most, reached, name_reaches, group_fits}
use Rattle.formula_parse.proofs.Complete.{Stops, attach_infix, suffix_closes}
use Rattle.formula_parse.proofs.Runs.{goes, ends_finished, takes_sign, complete_reads}
use Rattle.formula_parse.proofs.Sound.{NameRead, name_read, read_name, not_name, call_low, binding_low, grouped_low, prefix_low, fits_name, closed_set, ways, reads_formula, room_top, Spelled, nothing, left_side, operand, group_open, parts_so_far, suffix_open, names_so_far, type_so_far, listed_so_far, given_so_far, last_so_far, pattern_so_far, inner_so_far, pattern_type, Sound, wanting, having, word_read, pattern_wanted, pattern_named, pattern_read, sound_step, sound_end}
use Rattle.formula_parse.proofs.Small.{small_step}
use Rattle.formula_parse.proofs.Readers.{ReadsGrammar, found_one, one_value}

-- a place for predicates alone, or for expressions alone
abbrev IsSorted : Hole → Type 0
IsSorted h = (most h ≤ 3) ⊎ (4 ≤ least h)

sorted_right : (l : Level) → IsSorted (right_of l)
sorted_right lev.Implication = inl (omega arith)
sorted_right lev.Conjunction = inl (omega arith)
sorted_right lev.Disjunction = inl (omega arith)
sorted_right lev.Relation = inr (omega arith)
sorted_right lev.Typing = inr (omega arith)
sorted_right lev.Maplet = inr (omega arith)
sorted_right lev.Arrow = inr (omega arith)
sorted_right lev.SetOperator = inr (omega arith)
sorted_right lev.Interval = inr (omega arith)
sorted_right lev.Additive = inr (omega arith)
sorted_right lev.Multiplicative = inr (omega arith)
sorted_right lev.Power = inr (omega arith)

sorted_prefix : (q : Prefix) → IsSorted (prefix_hole q)
sorted_prefix prefix.Not = inl (omega arith)
sorted_prefix prefix.Minus = inr (omega arith)

sorted_part : (h : Hole) → (h ≡ hole.Predicate) ⊎ (h ≡ hole.Expression) → IsSorted h
sorted_part h s = elim s [ inl e ↦ inl (omega (arith, ap most e)) | inr e ↦ inr (omega (arith, ap least e)) ]

-- what is held as a name is one
abbrev Holds : Grade → Raw → Type 0
Holds g t = g ≡ grade.Name → (n : List ℕ) × (p : ℕ) × (t ≡ raw.Name n p)

low_holds : (k : Grade) (t : Raw) → rank k ≤ 15 → Holds k t
low_holds k t b = λ e. not_name k b e

name_holds : {m rest : List Item} {t : Raw} → NameRead m t rest → (n : List ℕ) × (p : ℕ) × (t ≡ raw.Name n p)
name_holds (name_read {n} {p} e) = (n, p, refl)

-- the name a
abbrev a_word : List ℕ
a_word = 97 ∷ []

word_is_name : is_name a_word ≡ true
word_is_name = refl

low_most : (h : Hole) → most h < 16 → (most h ≡ 3) × (least h ≤ 3)
low_most hole.Predicate b = (refl, omega arith)
low_most hole.Junction b = (refl, omega arith)
low_most hole.Literal b = (refl, omega arith)
low_most hole.Formula b = absurd (omega arith)
low_most hole.Expression b = absurd (omega arith)
low_most hole.Pair b = absurd (omega arith)
low_most hole.Arrow b = absurd (omega arith)
low_most hole.Set b = absurd (omega arith)
low_most hole.Range b = absurd (omega arith)
low_most hole.Sum b = absurd (omega arith)
low_most hole.Summand b = absurd (omega arith)
low_most hole.Term b = absurd (omega arith)
low_most hole.Factor b = absurd (omega arith)
low_most hole.Operand b = absurd (omega arith)
low_most hole.Name b = absurd (omega arith)

-- = doesn't go on inside a place of one sort
equal_ends : (h : Hole) (g : Grade) → fits h g ≡ true → IsSorted h → goes_on h g (sign.Infix lev.Relation (rawop.Plain op.Equal)) ≡ false
equal_ends h g f s = go (nat_le 4 (rank g)) refl (nat_le (least h) 3) refl
  where
    high : rank g ≤ most h
    high = leb-true (rank g) (most h) (both (reaches h g) (nat_le (rank g) (most h)) f).1

    go : (a : Bool) → nat_le 4 (rank g) ≡ a → (b : Bool) → nat_le (least h) 3 ≡ b → ((a && true) && b) ≡ false
    go true e true d =
        let up : 4 ≤ rank g = leb-true 4 (rank g) e in
        let down : least h ≤ 3 = leb-true (least h) 3 d in
        absurd (elim s [ inl low ↦ omega (arith, high, up, low) | inr tall ↦ omega (arith, down, tall) ])
    go true e false d = refl
    go false e b d = refl

part_name : (c : Call) → reaches (call_hole c) grade.Name ≡ true
part_name call.Finite = refl
part_name call.Partition = refl
part_name call.Bool = refl
part_name call.Function = refl

module _ (limit : Option ℕ) where
  -- nothing goes on with what is complete
  abbrev Quiet : List Item → Type 0
  Quiet [] = Unit {0}
  Quiet (x ∷ rest) = (h : Hole) (g : Grade) → fits h g ≡ true → IsSorted h → goes_on h g x.symbol ≡ false

  -- some tokens lead to a sentence
  record Alive (goal : Hole) (st : ParseState) : Type 0 where
    more : List Item
    tree : Raw
    quiet : Quiet more
    done : run limit goal st more ≡ found tree

  quiet_ends : (h : Hole) (g : Grade) (more : List Item) → Quiet more → fits h g ≡ true → IsSorted h → Ends h g more
  quiet_ends h g [] q fit s = tt
  quiet_ends h g (x ∷ rest) q fit s = q h g fit s

  reads_holds : (g : Grade) {m rest : List Item} (t : Raw) → Reads limit g m t rest → Holds g t
  reads_holds g {m} {rest} t r = λ e. name_holds (read_name limit (subst (λ k. Reads limit k m t rest) e r))

  -- a form that ends with its last part
  alive_finished : (goal : Hole) (f : Frame) (fs : List Frame) (g h : Grade) (t u : Raw) → fits (hole_of f) g ≡ true → IsSorted (hole_of f) →
      finished f t ≡ Some (h, u) → Alive goal (have fs h u) → Alive goal (have (f ∷ fs) g t)
  alive_finished goal f fs g h t u fit sorted e a = record {
    more = a.more;
    tree = a.tree;
    quiet = a.quiet;
    done = ends_finished limit goal f fs g h t u a.more fit (quiet_ends (hole_of f) g a.more a.quiet fit sorted) e ∙ a.done;
  }

  -- a form that takes a sign
  alive_sign : (goal : Hole) (f : Frame) (fs : List Frame) (g : Grade) (t : Raw) (x : Symbol) (st : ParseState) → fits (hole_of f) g ≡ true →
      ((k : Hole) (l : Grade) → goes_on k l x ≡ false) → finished f t ≡ None → closed limit fs f g t x ≡ Some st → Alive goal st → Alive goal (have (f ∷ fs) g t)
  alive_sign goal f fs g t x st fit off e c a = record {
    more = item x 0 [] ∷ a.more;
    tree = a.tree;
    quiet = λ k l _ _. off k l;
    done = takes_sign limit goal f fs g t x 0 [] st a.more fit (off (hole_of f) g) e c ∙ a.done;
  }

  name_begins : (goal : Hole) (fs : List Frame) (n : List ℕ) (p : ℕ) (rest : List Item) → is_name n ≡ true →
      run limit goal (want fs) (item sign.Word p n ∷ rest) ≡ run limit goal (have fs grade.Name (raw.Name n p)) rest
  name_begins goal fs n p rest e = rw e refl

  -- a name begins each formula
  alive_name : (goal : Hole) (fs : List Frame) → Alive goal (have fs grade.Name (raw.Name a_word 0)) → Alive goal (want fs)
  alive_name goal fs a = record { more = item sign.Word 0 a_word ∷ a.more; tree = a.tree; quiet = λ _ _ _ _. refl; done = name_begins goal fs a_word 0 a.more word_is_name ∙ a.done }

  -- what completes each formula that a place takes completes each that it may begin with: an expression where a predicate stands goes on by = and a name
  alive_any : (goal : Hole) (fs : List Frame) → ((g : Grade) (t : Raw) → fits (hole_wanted goal fs) g ≡ true → Holds g t → Alive goal (have fs g t)) →
      (g : Grade) (t : Raw) → reaches (hole_wanted goal fs) g ≡ true → Holds g t → Alive goal (have fs g t)
  alive_any goal fs k g t low holds = go (nat_le (rank g) (most (hole_wanted goal fs))) refl
    where
      go : (v : Bool) → nat_le (rank g) (most (hole_wanted goal fs)) ≡ v → Alive goal (have fs g t)
      go true e = k g t (rw (low, e) refl) holds
      go false e =
          let top : rank g ≤ 16 = rank_most g in
          let above : most (hole_wanted goal fs) < rank g = grind (arith, nat_tests) in
          let three : (most (hole_wanted goal fs) ≡ 3) × (least (hole_wanted goal fs) ≤ 3) = low_most (hole_wanted goal fs) (omega arith) in
          let four : 4 ≤ rank g = omega arith in
          let whole : Raw = between (rawop.Plain op.Equal) t (raw.Name a_word 0) in
          let low' : reaches (hole_wanted goal fs) grade.Literal ≡ true = reached (hole_wanted goal fs) grade.Literal three.1 in
          let high : nat_le 3 (most (hole_wanted goal fs)) ≡ true = rw three.0 refl in
          let a : Alive goal (have fs grade.Literal whole) = k grade.Literal whole (rw (low', high) refl) (low_holds grade.Literal whole (omega arith)) in
          record {
            more = item (sign.Infix lev.Relation (rawop.Plain op.Equal)) 0 [] ∷ item sign.Word 0 a_word ∷ a.more;
            tree = a.tree;
            quiet = equal_ends;
            done =
                goes limit goal fs g t (sign.Infix lev.Relation (rawop.Plain op.Equal)) 0 [] (want (frame.Between (rawop.Plain op.Equal) lev.Relation grade.Literal t ∷ fs)) (item sign.Word 0 a_word ∷ a.more)
                (attach_infix limit goal fs g t (sign.Infix lev.Relation (rawop.Plain op.Equal)) lev.Relation (rawop.Plain op.Equal) refl (rw (le-leb 4 (rank g) four) refl) low')
                ∙ name_begins goal (frame.Between (rawop.Plain op.Equal) lev.Relation grade.Literal t ∷ fs) a_word 0 a.more word_is_name
                ∙ ends_finished limit goal (frame.Between (rawop.Plain op.Equal) lev.Relation grade.Literal t) fs grade.Name grade.Literal (raw.Name a_word 0) whole a.more refl
                (quiet_ends hole.Expression grade.Name a.more a.quiet refl (inr (omega arith))) refl
                ∙ a.done;
          }

  -- a formula is wanted
  alive_want : (goal : Hole) (fs : List Frame) → reaches (hole_wanted goal fs) grade.Name ≡ true → ((g : Grade) (t : Raw) → fits (hole_wanted goal fs) g ≡ true → Holds g t → Alive goal (have fs g t)) → Alive goal (want fs)
  alive_want goal fs r k = alive_name goal fs (alive_any goal fs k grade.Name (raw.Name a_word 0) r (λ e. (a_word, 0, refl)))

  module _ (goal : Hole) (fs : List Frame) (up : (g : Grade) (t : Raw) → reaches (hole_wanted goal fs) g ≡ true → Holds g t → Alive goal (have fs g t)) where
    from_last : (c : Binding) (h : Hole) (b : RawBinder) (names : List RawBound) (parts : List Raw) (p : ℕ) → reaches (hole_wanted goal fs) (binding_grade c) ≡ true → (h ≡ hole.Predicate) ⊎ (h ≡ hole.Expression) →
        (g : Grade) (t : Raw) → fits h g ≡ true → Alive goal (have (frame.Last c h b names parts p ∷ fs) g t)
    from_last c h b names parts p room sort g t fit =
        let whole : Raw = raw.Bind b names (parts ++ t ∷ []) p in
        let above : Alive goal (have fs (binding_grade c) whole) = up (binding_grade c) whole room (low_holds (binding_grade c) whole (binding_low c)) in
        elim (ways (is_braced c)) [
          | inl closes ↦ alive_sign goal (frame.Last c h b names parts p) fs g t (sign.Close bracket.Brace) (have fs (binding_grade c) whole) fit (λ _ _. refl) (rw closes refl) refl above
          | inr on ↦ alive_finished goal (frame.Last c h b names parts p) fs g (binding_grade c) t whole fit (sorted_part h sort) (rw on refl) above
        ]

    from_given : (c : Binding) (names : List RawBound) (parts : List Raw) (p : ℕ) → reaches (hole_wanted goal fs) (binding_grade c) ≡ true →
        (g : Grade) (t : Raw) → fits hole.Predicate g ≡ true → Alive goal (have (frame.Given c names parts p ∷ fs) g t)
    from_given c names parts p room g t fit =
        alive_sign goal (frame.Given c names parts p) fs g t sign.Bar (want (frame.Last c hole.Expression (binder_of c) names (parts ++ t ∷ []) p ∷ fs)) fit (λ _ _. refl) refl refl
        (alive_want goal (frame.Last c hole.Expression (binder_of c) names (parts ++ t ∷ []) p ∷ fs) refl (λ h u f _. from_last c hole.Expression (binder_of c) names (parts ++ t ∷ []) p room (inr refl) h u f))

    from_body : (c : Binding) (names : List RawBound) (parts : List Raw) (p : ℕ) → reaches (hole_wanted goal fs) (binding_grade c) ≡ true → Alive goal (want (binding_body c names parts p ∷ fs))
    from_body c names parts p room = go (is_quantified c)
      where
        go : (v : Bool) → Alive goal (want (cond v (frame.Last c hole.Predicate (binder_of c) names parts p) (frame.Given c names parts p) ∷ fs))
        go true = alive_want goal (frame.Last c hole.Predicate (binder_of c) names parts p ∷ fs) refl (λ h u f _. from_last c hole.Predicate (binder_of c) names parts p room (inl refl) h u f)
        go false = alive_want goal (frame.Given c names parts p ∷ fs) refl (λ h u f _. from_given c names parts p room h u f)

    -- a part of a word's parentheses
    alive_part : (c : Call) (o : RawOp) (before : List Raw) (p : ℕ) → reaches (hole_wanted goal fs) (call_grade c) ≡ true →
        (g : Grade) (t : Raw) → fits (call_hole c) g ≡ true → Holds g t → Alive goal (have (frame.Parts c o before p ∷ fs) g t)
    alive_part c o before p room g t fit _ =
        let whole : Raw = raw.Node o (before ++ t ∷ []) p in
        alive_sign goal (frame.Parts c o before p) fs g t (sign.Close bracket.Round) (have fs (call_grade c) whole) fit (λ _ _. refl) refl refl
        (up (call_grade c) whole room (low_holds (call_grade c) whole (call_low c)))

  wanted_name : (goal : Hole) {s0 m : List Item} (fs : List Frame) → reads_formula fs ≡ true → Spelled limit goal s0 fs m → reaches (hole_wanted goal fs) grade.Name ≡ true
  wanted_name goal fs top sp = name_reaches (hole_wanted goal fs)

  rw_name : (goal : Hole) (fs : List Frame) (n : List ℕ) (p : ℕ) (rest : List Item) → is_name n ≡ true →
      run limit goal (shape_want fs) (item sign.Word p n ∷ rest) ≡ run limit goal (shape_name fs n p) rest
  rw_name goal fs n p rest e = rw e refl

  mutual
    alive_fit : (goal : Hole) {s0 m : List Item} (fs : List Frame) → Spelled limit goal s0 fs m → reads_formula fs ≡ true → (g : Grade) (t : Raw) → fits (hole_wanted goal fs) g ≡ true → Holds g t → Alive goal (have fs g t)
    alive_fit goal fs nothing top g t fit holds = record { more = []; tree = t; quiet = tt; done = rw fit }
    alive_fit goal (f ∷ fs) (left_side {g = j} {k = k} {l = l} {o = o} {a = a} sp room left is takes lv) top g t fit holds =
        let low : rank k ≤ 15 = omega (arith, level_rank l j, left_most l, ap rank lv) in
        alive_finished goal f fs g k t (between o a t) fit (sorted_right l) refl
        (alive_any goal fs (alive_fit goal fs sp (room_top goal fs k room low)) k (between o a t) room (low_holds k (between o a t) low))
    alive_fit goal (f ∷ fs) (operand {q = q} {p = p} sp room is) top g t fit holds =
        let whole : Raw = raw.Node (prefix_op q) (t ∷ []) p in
        alive_finished goal f fs g (prefix_grade q) t whole fit (sorted_prefix q) refl
        (alive_any goal fs (alive_fit goal fs sp (room_top goal fs (prefix_grade q) room (prefix_low q))) (prefix_grade q) whole room (low_holds (prefix_grade q) whole (prefix_low q)))
    alive_fit goal (f ∷ fs) (group_open sp room i) top g t fit holds =
        alive_sign goal f fs g t (sign.Close bracket.Round) (have fs (grouped g) t) fit (λ _ _. refl) refl refl
        (alive_any goal fs (alive_fit goal fs sp (room_top goal fs grade.Primary room (omega arith))) (grouped g) t (group_fits (hole_wanted goal fs) g room (rw i fit)) (low_holds (grouped g) t (grouped_low g)))
    alive_fit goal (f ∷ fs) (parts_so_far {c = c} {o = o} {before = before} {p = p} sp room k) top g t fit holds =
        let whole : Raw = raw.Node o (before ++ t ∷ []) p in
        alive_sign goal f fs g t (sign.Close bracket.Round) (have fs (call_grade c) whole) fit (λ _ _. refl) refl refl
        (alive_any goal fs (alive_fit goal fs sp (room_top goal fs (call_grade c) room (call_low c))) (call_grade c) whole room (low_holds (call_grade c) whole (call_low c)))
    alive_fit goal (f ∷ fs) (suffix_open {b = b} {o = o} {x = x} {f = u} sp room left is ready) top g t fit holds =
        alive_sign goal f fs g t (sign.Close b) (have fs grade.Suffixed (between o u t)) fit (λ _ _. refl) refl (suffix_closes limit x b o fs g u t is)
        (alive_any goal fs (alive_fit goal fs sp (room_top goal fs grade.Suffixed room (omega arith))) grade.Suffixed (between o u t) room (low_holds grade.Suffixed (between o u t) (omega arith)))
    alive_fit goal (f ∷ fs) (names_so_far {c = c} {before = before} {p = p} sp room is takes k) top g t fit holds =
        let n = holds (fits_name g fit) in
        let same : plain_name_of t ≡ Some (n.0, n.1) = ap plain_name_of n.2 ∙ name_of-name n.0 n.1 in
        alive_sign goal f fs g t sign.Dot (want (binding_body c (before ++ bound n.0 n.1 None ∷ []) [] p ∷ fs)) fit (λ _ _. refl) refl (rw same refl)
        (from_body goal fs (alive_any goal fs (alive_fit goal fs sp (room_top goal fs (binding_grade c) room (binding_low c)))) c (before ++ bound n.0 n.1 None ∷ []) [] p room)
    alive_fit goal (f ∷ fs) (type_so_far {c = c} {before = before} {n = n} {pn = pn} {p = p} {side = side} sp room is takes k kt) top g t fit holds =
        alive_sign goal f fs g t sign.Dot (want (binding_body c (before ++ bound n pn (Some (type_with side t)) ∷ []) [] p ∷ fs)) fit (λ _ _. refl) refl refl
        (from_body goal fs (alive_any goal fs (alive_fit goal fs sp (room_top goal fs (binding_grade c) room (binding_low c)))) c (before ++ bound n pn (Some (type_with side t)) ∷ []) [] p room)
    alive_fit goal (f ∷ fs) (listed_so_far {c = c} {before = before} {p = p} sp room is takes kp kn first none) top g t fit holds =
        let up = alive_any goal fs (alive_fit goal fs sp (room_top goal fs (binding_grade c) room (binding_low c))) in
        elim (ways (is_braced c)) [
          | inl closes ↦ (
              let whole : Raw = raw.Node (rawop.Plain op.SetExtension) (before ++ t ∷ []) p in
              alive_sign goal f fs g t (sign.Close bracket.Brace) (have fs grade.Primary whole) fit (λ _ _. refl) refl (rw closes refl)
              (up grade.Primary whole (subst (λ k. reaches (hole_wanted goal fs) (binding_grade k) ≡ true) (closed_set c closes) room) (low_holds grade.Primary whole (omega arith))))
          | inr on ↦
              alive_sign goal f fs g t sign.Bar (want (frame.Last c hole.Predicate (implicit_of c) [] (t ∷ []) p ∷ fs)) fit (λ _ _. refl) refl (ap (λ l. shape_next fs c l t p) (none on))
              (alive_want goal (frame.Last c hole.Predicate (implicit_of c) [] (t ∷ []) p ∷ fs) refl (λ h u z _. from_last goal fs up c hole.Predicate (implicit_of c) [] (t ∷ []) p room (inl refl) h u z))
        ]
    alive_fit goal (f ∷ fs) (given_so_far {c = c} {names = names} {parts = parts} {p = p} sp room is k) top g t fit holds =
        from_given goal fs (alive_any goal fs (alive_fit goal fs sp (room_top goal fs (binding_grade c) room (binding_low c)))) c names parts p room g t fit
    alive_fit goal (f ∷ fs) (last_so_far {c = c} {h = h} {b = b} {names = names} {parts = parts} {p = p} sp room sort k) top g t fit holds =
        from_last goal fs (alive_any goal fs (alive_fit goal fs sp (room_top goal fs (binding_grade c) room (binding_low c)))) c h b names parts p room sort g t fit
    alive_fit goal (f ∷ fs) (pattern_so_far sp room k) top g t fit holds = cc
    alive_fit goal (f ∷ fs) (inner_so_far sp k) top g t fit holds = cc
    alive_fit goal (f ∷ fs) (pattern_type {n = n} {pn = pn} sp named) top g t fit holds =
        alive_shape goal fs refl sp (lone n pn (Some t)) (have (f ∷ fs) g t) (λ x rest off. rw (off.0 hole.Arrow g, fit) refl)

    -- a pattern is held
    alive_shape : (goal : Hole) {s0 m : List Item} (fs : List Frame) → reads_formula fs ≡ false → Spelled limit goal s0 fs m → (a : Shape) (st : ParseState) →
        ((x : Symbol) (rest : List Item) → Stops limit x → run limit goal st (item x 0 [] ∷ rest) ≡ run limit goal (shape_have fs a) (item x 0 [] ∷ rest)) → Alive goal st
    alive_shape goal (frame.Pattern inner before p ∷ fs) pat (pattern_so_far sp room k) a st same =
        let b : Alive goal (want (frame.Given binding.Lambda (joined_shape before a).names ((joined_shape before a).tree ∷ []) p ∷ fs)) =
        from_body goal fs (alive_any goal fs (alive_fit goal fs sp (room_top goal fs grade.Reaching room (omega arith)))) binding.Lambda (joined_shape before a).names ((joined_shape before a).tree ∷ []) p room in
        record { more = item sign.Dot 0 [] ∷ b.more; tree = b.tree; quiet = λ _ _ _ _. refl; done = same sign.Dot b.more (λ _ _. refl, refl) ∙ b.done }
    alive_shape goal (frame.Pattern inner before p ∷ fs) pat (inner_so_far sp k) a st same =
        let b : Alive goal (shape_have fs (joined_shape before a)) = alive_shape goal fs refl sp (joined_shape before a) (shape_have fs (joined_shape before a)) (λ x rest off. refl) in
        record { more = item (sign.Close bracket.Round) 0 [] ∷ b.more; tree = b.tree; quiet = λ _ _ _ _. refl; done = same (sign.Close bracket.Round) b.more (λ _ _. refl, refl) ∙ b.done }
    alive_shape goal _ pat sp a st same = cc

  abbrev pub Leads : Hole → ParseState → Type 0
  Leads goal st = (more : List Item) × (tree : Raw) × (run limit goal st more ≡ found tree)

  leads : (goal : Hole) (st : ParseState) → Alive goal st → Leads goal st
  leads goal st a = (a.more, a.tree, a.done)

  -- from each state that is met a sentence can be reached
  pub alive : (goal : Hole) {s0 rest : List Item} {st : ParseState} → Sound limit goal s0 st rest → Leads goal st
  alive goal (wanting {fs} top sp) = leads goal (want fs) (alive_want goal fs (wanted_name goal fs top sp) (alive_fit goal fs sp top))
  alive goal (having {fs} {g} {t} top sp low r) = leads goal (have fs g t) (alive_any goal fs (alive_fit goal fs sp top) g t low (reads_holds g t r))
  alive goal (word_read {fs} {c} {o} {p} sp room) =
      let b : Alive goal (want (frame.Parts c o [] p ∷ fs)) =
      alive_want goal (frame.Parts c o [] p ∷ fs) (part_name c) (alive_part goal fs (alive_any goal fs (alive_fit goal fs sp (room_top goal fs (call_grade c) room (call_low c)))) c o [] p room) in
      (item (sign.Open bracket.Round) 0 [] ∷ b.more, b.tree, b.done)
  alive goal (pattern_wanted {fs} {inner} {outer} {q} sp) =
      let b : Alive goal (shape_name (frame.Pattern inner outer q ∷ fs) a_word 0) =
      alive_shape goal (frame.Pattern inner outer q ∷ fs) refl sp (lone a_word 0 None) (shape_name (frame.Pattern inner outer q ∷ fs) a_word 0) (λ x rest off. rw off.1 refl) in
      (item sign.Word 0 a_word ∷ b.more, b.tree, rw_name goal (frame.Pattern inner outer q ∷ fs) a_word 0 b.more word_is_name ∙ b.done)
  alive goal (pattern_named {fs} {inner} {outer} {n} {p} {q} sp named) =
      leads goal (shape_name (frame.Pattern inner outer q ∷ fs) n p)
      (alive_shape goal (frame.Pattern inner outer q ∷ fs) refl sp (lone n p None) (shape_name (frame.Pattern inner outer q ∷ fs) n p) (λ x rest off. rw off.1 refl))
  alive goal (pattern_read {fs} {inner} {outer} {a} {q} sp r) =
      leads goal (shape_have (frame.Pattern inner outer q ∷ fs) a)
      (alive_shape goal (frame.Pattern inner outer q ∷ fs) refl sp a (shape_have (frame.Pattern inner outer q ∷ fs) a) (λ x rest off. refl))

  -- a sentence is found
  pub found_sentence : (goal : Hole) (s : List Item) (t : Raw) → Spells limit goal s t → run limit goal (want []) s ≡ found t
  found_sentence goal s t r = complete_reads limit goal [] r.reads (fits_reaches goal r.g r.fit) ∙ rw r.fit

-- the parser reads the grammar
pub reads_formulas : (goal : Hole) → ReadsGrammar (formula_reader goal) (λ limit. Spells limit goal)
reads_formulas goal = record {
  IsRight = λ limit. Sound limit goal;
  at_start = λ limit s. wanting refl nothing;
  at_step = λ limit s0 rest st x new ok e. sound_step limit goal st x new ok e;
  at_end = λ limit s0 st t ok e. sound_end limit goal st t ok e;
  leads = λ limit s0 rest st ok. alive limit goal ok;
  finds = λ limit. found_sentence limit goal;
  limited = small_step goal;
}

-- what is found is a sentence
pub sentence_found : (limit : Option ℕ) (goal : Hole) (s : List Item) (t : Raw) → run limit goal (want []) s ≡ found t → Spells limit goal s t
sentence_found limit goal = found_one (reads_formulas goal) limit

-- a sentence has one tree
pub one_tree : (limit : Option ℕ) (h : Hole) (s : List Item) (t u : Raw) → Spells limit h s t → Spells limit h s u → t ≡ u
one_tree limit h = one_value (reads_formulas h) limit
