-- The tokens of the printed pieces of a formula spell it, without its places.
use Rattle.std.proofs.Common.{◌≡◌, ◌∙◌, sym as back, ap, subst, refl, ℕ, ℤ, Bool, true, false, List, [], ◌∷◌, ◌++◌, map, append_assoc, append-nil, inl, inr}
use Rattle.std.specs.Prelude.{Option, Some, None, ◌+◌, ◌⊎◌, length, drop}
use Rattle.std.specs.Option.{option_map}
use Rattle.std.proofs.Math.Seq.{drop-append_seam}
use Rattle.std.proofs.lemmas.List.{length-append}
use Rattle.formula_core.specs.Names.{is_name}
use Rattle.formula_core.specs.declared.op.Op.TheVariants as op
use Rattle.formula_core.specs.declared.op.Binder.TheVariants as binder
use Rattle.formula_core.specs.declared.raw.RawOp.{RawOp}
use Rattle.formula_core.specs.declared.raw.RawOp.TheVariants as rawop
use Rattle.formula_core.specs.declared.raw.RawBinder.{RawBinder}
use Rattle.formula_core.specs.declared.raw.RawBinder.TheVariants as rawbinder
use Rattle.formula_core.specs.declared.raw.RawBound.{RawBound}
use Rattle.formula_core.specs.declared.raw.Raw.{Raw}
use Rattle.formula_core.specs.declared.raw.Raw.TheVariants as raw
use Rattle.formula_core.specs.declared.raw.Raw.TheViews.{outs-Int, outs-Name, outs-Node, outs-Bind}
use Rattle.math_grammar.specs.declared.holes.Grade.{Grade}
use Rattle.math_grammar.specs.declared.holes.Grade.TheVariants as grade
use Rattle.math_grammar.specs.declared.holes.Hole.{Hole}
use Rattle.math_grammar.specs.declared.holes.Hole.TheVariants as hole
use Rattle.math_grammar.specs.declared.levels.Level.{Level}
use Rattle.math_grammar.specs.declared.levels.Level.TheVariants as lev
use Rattle.math_grammar.specs.declared.levels.Prefix.TheVariants as pre
use Rattle.math_grammar.specs.declared.levels.Bracket.{Bracket}
use Rattle.math_grammar.specs.declared.levels.Bracket.TheVariants as bracket
use Rattle.math_grammar.specs.declared.levels.Call.{Call}
use Rattle.math_grammar.specs.declared.levels.Call.TheVariants as call
use Rattle.math_grammar.specs.declared.levels.Binding.{Binding}
use Rattle.math_grammar.specs.declared.levels.Binding.TheVariants as binding
use Rattle.math_grammar.specs.declared.symbols.Symbol.{Symbol}
use Rattle.math_grammar.specs.declared.symbols.Symbol.TheVariants as sym
use Rattle.math_grammar.specs.declared.shapes.Shape.{Shape}
use Rattle.math_grammar.specs.Levels.{level, right_of, infix_of, fits, grouped, opens, binder_of, implicit_of, binding_grade, takes_names, takes_shape, is_quantified, call_hole, call_grade, call_parts, has_room}
use Rattle.math_grammar.specs.Tokens.{Item}
use Rattle.math_grammar.specs.Grammar.{item, place_at, place_of, bound, lone, joined_shape, type_with, between, Reads, a_name, a_number, a_truth, a_constant, prefixed, two_sides, in_parentheses, called, applied, converted, set_by_members, by_names, by_shape, lambda, Parts, last_one, next_one, TypeOf, last_side, first_side, Bound, bare, of_type, Declares, last_name, next_name, BinderBody, a_predicate, a_value, LastPart, up_to_brace, reaching, Pattern, last_atom, next_atom, Atom, bare_atom, typed_atom, grouped_atom, Spells}
use Rattle.math_places.specs.Places.{unplaced}
use Rattle.math_places.proofs.Equations.{unplaced-Int, unplaced-Name, unplaced-Node, unplaced-Bind, unplaced_bound}
use Rattle.math_grammar.specs.Characters.{bytes}
use Rattle.token_text.specs.Pieces.{Piece, Blank, Token, tokens_of, close_round_piece, close_brace_piece, dot_piece, bar_piece, in_round, in_square, close_square_piece, sign_between, behind_commas, separated_pieces}
use Rattle.math_grammar.specs.Operators.{raw_sign_of, raw_class_of, raw_binder_sign_of, raw_binder_class_of}
use Rattle.token_text.proofs.Pieces.{tokens-behind as behind}
use Rattle.raw_print.specs.Printing as printing
use Rattle.raw_print.specs.Printing.{operand_pieces, bare as bare_parts, form, stands_alone, stands_alone_at, is_atomic, pieces, body_pieces, raw_tokens, pattern, pattern_name_count}
use Rattle.raw_print.specs.Private.{with_pieces, declared}
use Rattle.raw_print.specs.Back.{AllProper, is_whole}
use Rattle.raw_print.proofs.Equations.{pieces-Int, pieces-Name, pieces-Node, pieces-Bind, pattern-Name, names_in-Name}
use Rattle.raw_print.proofs.Grades.{is_predicate, joins_predicates, takes_predicates, is_one_sort, is_operand_place, Closed, as_predicate, as_suffixed, as_primary, as_name, left_sort, left_closed, place_sort, place_closed, fits_predicate, fits_expression, level_sort, grouped_sort, grouped_same, closed_sort, suffix_sort, suffix_closed, Closes, at_end, closing, ends_there, ends_at_maplet}
use Rattle.raw_print.proofs.Proper.{own_symbol, infix_is, second_form, infix_stands, suffix_symbol, IsForm, form_symbol, pattern-pair, names_in-pair, map_declared}

-- the places of trees without places, and what stands alone
place-Node : (o : RawOp) (parts : List Raw) → place_of (raw.Node o parts 0) ≡ 0
place-Node o parts = ap place_at (outs-Node o parts 0)

place-Bind : (b : RawBinder) (names : List RawBound) (parts : List Raw) → place_of (raw.Bind b names parts 0) ≡ 0
place-Bind b names parts = ap place_at (outs-Bind b names parts 0)

place-Name : (x : List ℕ) → place_of (raw.Name x 0) ≡ 0
place-Name x = ap place_at (outs-Name x 0)

place-Int : (n : ℤ) → place_of (raw.Int n 0) ≡ 0
place-Int n = ap place_at (outs-Int n 0)

alone-Node : (o : RawOp) (parts : List Raw) (p : ℕ) → stands_alone (raw.Node o parts p) ≡ is_atomic (raw_class_of o)
alone-Node o parts p = ap stands_alone_at (outs-Node o parts p)

alone-Bind : (b : RawBinder) (names : List RawBound) (parts : List Raw) (p : ℕ) → stands_alone (raw.Bind b names parts p) ≡ is_atomic (raw_binder_class_of b)
alone-Bind b names parts p = ap stands_alone_at (outs-Bind b names parts p)

alone-Name : (x : List ℕ) (p : ℕ) → stands_alone (raw.Name x p) ≡ true
alone-Name x p = ap stands_alone_at (outs-Name x p)

alone-Int : (n : ℤ) (p : ℕ) → stands_alone (raw.Int n p) ≡ true
alone-Int n p = ap stands_alone_at (outs-Int n p)

right_one : (l : Level) → is_one_sort (right_of l) ≡ true
right_one lev.Implication = refl
right_one lev.Conjunction = refl
right_one lev.Disjunction = refl
right_one lev.Relation = refl
right_one lev.Typing = refl
right_one lev.Maplet = refl
right_one lev.Arrow = refl
right_one lev.SetOperator = refl
right_one lev.Interval = refl
right_one lev.Additive = refl
right_one lev.Multiplicative = refl
right_one lev.Power = refl

right_operand : (l : Level) → is_operand_place (right_of l) ≡ true
right_operand lev.Implication = refl
right_operand lev.Conjunction = refl
right_operand lev.Disjunction = refl
right_operand lev.Relation = refl
right_operand lev.Typing = refl
right_operand lev.Maplet = refl
right_operand lev.Arrow = refl
right_operand lev.SetOperator = refl
right_operand lev.Interval = refl
right_operand lev.Additive = refl
right_operand lev.Multiplicative = refl
right_operand lev.Power = refl

right_sort : (l : Level) → takes_predicates (right_of l) ≡ joins_predicates l
right_sort lev.Implication = refl
right_sort lev.Conjunction = refl
right_sort lev.Disjunction = refl
right_sort lev.Relation = refl
right_sort lev.Typing = refl
right_sort lev.Maplet = refl
right_sort lev.Arrow = refl
right_sort lev.SetOperator = refl
right_sort lev.Interval = refl
right_sort lev.Additive = refl
right_sort lev.Multiplicative = refl
right_sort lev.Power = refl

call_closed : (c : Call) → Closed (is_predicate (call_grade c)) (call_grade c)
call_closed call.Finite = as_predicate
call_closed call.Partition = as_predicate
call_closed call.Bool = as_primary
call_closed call.Function = as_primary

call_whole : (c : Call) → is_whole (call_hole c) ≡ true
call_whole call.Finite = refl
call_whole call.Partition = refl
call_whole call.Bool = refl
call_whole call.Function = refl

whole_fits : (h : Hole) (g k : Grade) → is_whole h ≡ true → fits h g ≡ true → is_predicate k ≡ is_predicate g → fits h k ≡ true
whole_fits hole.Predicate g k one f e = fits_predicate k (e ∙ place_sort hole.Predicate g refl f)
whole_fits hole.Expression g k one f e = fits_expression k (e ∙ place_sort hole.Expression g refl f)
whole_fits hole.Formula g k one f e = cc
whole_fits hole.Junction g k one f e = cc
whole_fits hole.Literal g k one f e = cc
whole_fits hole.Pair g k one f e = cc
whole_fits hole.Arrow g k one f e = cc
whole_fits hole.Set g k one f e = cc
whole_fits hole.Range g k one f e = cc
whole_fits hole.Sum g k one f e = cc
whole_fits hole.Summand g k one f e = cc
whole_fits hole.Term g k one f e = cc
whole_fits hole.Factor g k one f e = cc
whole_fits hole.Operand g k one f e = cc
whole_fits hole.Name g k one f e = cc

-- what ends a form with bound names, and what may stand behind that
abbrev tail : Binding → List Item → List Item
tail binding.Set rest = item (sym.Close bracket.Brace) 0 (bytes "}") ∷ rest
tail _ rest = rest

abbrev MayEnd : Binding → List Item → Type 0
MayEnd binding.Set rest = Unit {0}
MayEnd _ rest = Closes rest

module _ (limit : Option ℕ) where
  -- The printed tokens spell the formula, of this sort: bare before what ends it, and as an operand before anything.
  pub record Again (v : Bool) (t : Raw) : Type 0 where
    pub tree : Raw
    pub is : unplaced t ≡ tree
    pub starts : place_of tree ≡ 0
    pub bare_grade : Grade
    pub sort : is_predicate bare_grade ≡ v
    pub bare : (rest : List Item) → Closes rest → Reads limit bare_grade (tokens_of (pieces t) ++ rest) tree rest
    pub grade_closed : Grade
    pub closed : Closed v grade_closed
    pub as_operand : (rest : List Item) → Reads limit grade_closed (tokens_of (operand_pieces (t, pieces t)) ++ rest) tree rest

  pub of_sort : (v w : Bool) (t : Raw) → v ≡ w → Again v t → Again w t
  of_sort v w t e a = subst (λ s. Again s t) e a

  -- a form that stands alone
  alone : (v : Bool) (t u : Raw) → unplaced t ≡ u → place_of u ≡ 0 → stands_alone t ≡ true → (g : Grade) → Closed v g → ((rest : List Item) → Reads limit g (tokens_of (pieces t) ++ rest) u rest) → Again v t
  alone v t u is starts lone g closed reads = record {
    tree = u;
    is = is;
    starts = starts;
    bare_grade = g;
    sort = closed_sort v g closed;
    bare = λ rest c. reads rest;
    grade_closed = g;
    closed = closed;
    as_operand = λ rest. rw lone (reads rest);
  }

  -- one that needs parentheses as an operand
  bracketed : (v : Bool) (t u : Raw) → unplaced t ≡ u → place_of u ≡ 0 → stands_alone t ≡ false → (g : Grade) → is_predicate g ≡ v → ((rest : List Item) → Closes rest → Reads limit g (tokens_of (pieces t) ++ rest) u rest) → Again v t
  bracketed v t u is starts lone g sort reads = record {
    tree = u;
    is = is;
    starts = starts;
    bare_grade = g;
    sort = sort;
    bare = reads;
    grade_closed = grouped g;
    closed = subst (λ w. Closed w (grouped g)) sort (grouped_sort g);
    as_operand = λ rest.
        let inner : Reads limit g (tokens_of (pieces t) ++ (item (sym.Close bracket.Round) 0 (bytes ")") ∷ rest)) u (item (sym.Close bracket.Round) 0 (bytes ")") ∷ rest) = reads _ (closing refl) in
        let round : Reads limit (grouped g) (item (sym.Open bracket.Round) 0 (bytes "(") ∷ (tokens_of (pieces t) ++ (item (sym.Close bracket.Round) 0 (bytes ")") ∷ rest))) u rest = in_parentheses inner refl in
        rw lone (subst (λ s. Reads limit (grouped g) (item (sym.Open bracket.Round) 0 (bytes "(") ∷ s) u rest) (back (behind (pieces t) (close_round_piece ∷ []) rest)) round);
  }

  -- the tokens of a node, by the class of its operator
  node_tokens : (o : RawOp) (parts : List Raw) (p : ℕ) (x : Symbol) → raw_class_of o ≡ x → tokens_of (pieces (raw.Node o parts p)) ≡ tokens_of (form x (Token x (raw_sign_of o)) (map with_pieces parts))
  node_tokens o parts p x e = ap tokens_of (pieces-Node o parts p ∙ ap (λ y. form y (Token y (raw_sign_of o)) (map with_pieces parts)) e)

  node_reads : (g : Grade) (o : RawOp) (parts : List Raw) (p : ℕ) (x : Symbol) (u : Raw) (rest : List Item) → raw_class_of o ≡ x → Reads limit g (tokens_of (form x (Token x (raw_sign_of o)) (map with_pieces parts)) ++ rest) u rest →
      Reads limit g (tokens_of (pieces (raw.Node o parts p)) ++ rest) u rest
  node_reads g o parts p x u rest e r = subst (λ s. Reads limit g (s ++ rest) u rest) (back (node_tokens o parts p x e)) r

  -- a sign between two operands
  two_again : (l : Level) (o : RawOp) (x : Symbol) → infix_of x ≡ Some (l, o) → raw_class_of o ≡ x → (a b : Raw) (p : ℕ) → Again (joins_predicates l) a → Again (joins_predicates l) b → Again (is_predicate (level l grade.Name)) (raw.Node o (a ∷ b ∷ []) p)
  two_again l o x ix own a b p left right =
      let tree : Raw = raw.Node o (left.tree ∷ right.tree ∷ []) 0 in
      bracketed (is_predicate (level l grade.Name)) (raw.Node o (a ∷ b ∷ []) p) tree (unplaced-Node o (a ∷ b ∷ []) p ∙ (λ i. raw.Node o (left.is i ∷ right.is i ∷ []) 0)) (place-Node o (left.tree ∷ right.tree ∷ [])) (alone-Node o (a ∷ b ∷ []) p ∙ ap is_atomic own ∙ infix_stands x l o ix)
      (level l left.grade_closed) (level_sort l left.grade_closed grade.Name)
      (λ rest c.
      let mine : Item = item x 0 (raw_sign_of o) in
      let second : Reads limit right.grade_closed (tokens_of (operand_pieces (b, pieces b)) ++ rest) right.tree rest = right.as_operand rest in
      let first : Reads limit left.grade_closed (tokens_of (operand_pieces (a, pieces a)) ++ (mine ∷ (tokens_of (operand_pieces (b, pieces b)) ++ rest))) left.tree (mine ∷ (tokens_of (operand_pieces (b, pieces b)) ++ rest)) = left.as_operand _ in
      let both : Reads limit (level l left.grade_closed) (tokens_of (operand_pieces (a, pieces a)) ++ (mine ∷ (tokens_of (operand_pieces (b, pieces b)) ++ rest))) (between o left.tree right.tree) rest =
      two_sides first ix (left_closed l left.grade_closed left.closed) second
      (place_closed (right_of l) right.grade_closed (right_operand l) (subst (λ v. Closed v right.grade_closed) (back (right_sort l)) right.closed)) (ends_there (right_of l) right.grade_closed rest c) refl in
      let placed : Reads limit (level l left.grade_closed) (tokens_of (operand_pieces (a, pieces a)) ++ (mine ∷ (tokens_of (operand_pieces (b, pieces b)) ++ rest))) tree rest =
      subst (λ q. Reads limit (level l left.grade_closed) (tokens_of (operand_pieces (a, pieces a)) ++ (mine ∷ (tokens_of (operand_pieces (b, pieces b)) ++ rest))) (raw.Node o (left.tree ∷ right.tree ∷ []) q) rest) left.starts both in
      let text : tokens_of (form x (Token x (raw_sign_of o)) (map with_pieces (a ∷ b ∷ []))) ++ rest ≡ tokens_of (operand_pieces (a, pieces a)) ++ (mine ∷ (tokens_of (operand_pieces (b, pieces b)) ++ rest)) =
      ap (λ ps. tokens_of ps ++ rest) (second_form x (infix_is x l o ix) (Token x (raw_sign_of o)) (with_pieces a) (with_pieces b)) ∙ behind (operand_pieces (a, pieces a)) (Blank ∷ Token x (raw_sign_of o) ∷ Blank ∷ operand_pieces (b, pieces b)) rest in
      node_reads (level l left.grade_closed) o (a ∷ b ∷ []) p x tree rest own (subst (λ s. Reads limit (level l left.grade_closed) s tree rest) (back text) placed))

  -- a constant
  constant_again : (v : Bool) (o : RawOp) (p : ℕ) (x : Symbol) → raw_class_of o ≡ x → is_atomic x ≡ true → form x (Token x (raw_sign_of o)) [] ≡ Token x (raw_sign_of o) ∷ [] → (g : Grade) → Closed v g →
      ((rest : List Item) → Reads limit g (item x 0 (raw_sign_of o) ∷ rest) (raw.Node o [] 0) rest) → Again v (raw.Node o [] p)
  constant_again v o p x own atomic text g closed reads =
      alone v (raw.Node o [] p) (raw.Node o [] 0) (unplaced-Node o [] p) (place-Node o []) (alone-Node o [] p ∙ ap is_atomic own ∙ atomic) g closed
      (λ rest. node_reads g o [] p x (raw.Node o [] 0) rest own (subst (λ ps. Reads limit g (tokens_of ps ++ rest) (raw.Node o [] 0) rest) (back text) (reads rest)))

  name_again : (n : List ℕ) (p : ℕ) → is_name n ≡ true → Again false (raw.Name n p)
  name_again n p is =
      alone false (raw.Name n p) (raw.Name n 0) (unplaced-Name n p) (place-Name n) (alone-Name n p) grade.Name as_name
      (λ rest. subst (λ ps. Reads limit grade.Name (tokens_of ps ++ rest) (raw.Name n 0) rest) (back (pieces-Name n p)) (a_name is))

  number_again : (n : ℤ) (p : ℕ) → Again false (raw.Int n p)
  number_again n p =
      alone false (raw.Int n p) (raw.Int n 0) (unplaced-Int n p) (place-Int n) (alone-Int n p) grade.Primary as_primary
      (λ rest. subst (λ ps. Reads limit grade.Primary (tokens_of ps ++ rest) (raw.Int n 0) rest) (back (pieces-Int n p)) a_number)

  not_again : (t : Raw) (p : ℕ) → Again true t → Again true (raw.Node (rawop.Plain op.Not) (t ∷ []) p)
  not_again t p a =
      let tree : Raw = raw.Node (rawop.Plain op.Not) (a.tree ∷ []) 0 in
      bracketed true (raw.Node (rawop.Plain op.Not) (t ∷ []) p) tree (unplaced-Node (rawop.Plain op.Not) (t ∷ []) p ∙ (λ i. raw.Node (rawop.Plain op.Not) (a.is i ∷ []) 0)) (place-Node (rawop.Plain op.Not) (a.tree ∷ [])) (alone-Node (rawop.Plain op.Not) (t ∷ []) p) grade.Literal refl
      (λ rest c. node_reads grade.Literal (rawop.Plain op.Not) (t ∷ []) p sym.Not tree rest refl (prefixed {q = pre.Not} refl (a.as_operand rest) (place_closed hole.Literal a.grade_closed refl a.closed) (ends_there hole.Literal a.grade_closed rest c) refl))

  minus_again : (t : Raw) (p : ℕ) → Again false t → Again false (raw.Node (rawop.Plain op.Negate) (t ∷ []) p)
  minus_again t p a =
      let tree : Raw = raw.Node (rawop.Plain op.Negate) (a.tree ∷ []) 0 in
      bracketed false (raw.Node (rawop.Plain op.Negate) (t ∷ []) p) tree (unplaced-Node (rawop.Plain op.Negate) (t ∷ []) p ∙ (λ i. raw.Node (rawop.Plain op.Negate) (a.is i ∷ []) 0)) (place-Node (rawop.Plain op.Negate) (a.tree ∷ [])) (alone-Node (rawop.Plain op.Negate) (t ∷ []) p) grade.Negative refl
      (λ rest c. node_reads grade.Negative (rawop.Plain op.Negate) (t ∷ []) p sym.Minus tree rest refl (prefixed {q = pre.Minus} refl (a.as_operand rest) (place_closed hole.Term a.grade_closed refl a.closed) (ends_there hole.Term a.grade_closed rest c) refl))

  -- a bare formula before a closing token
  closing_reads : (v : Bool) (t : Raw) (a : Again v t) (x : Symbol) (w : List ℕ) (rest : List Item) → Closes (item x 0 w ∷ rest) → Reads limit a.bare_grade (tokens_of (pieces t) ++ (item x 0 w ∷ rest)) a.tree (item x 0 w ∷ rest)
  closing_reads v t a x w rest c = a.bare (item x 0 w ∷ rest) c

  apply_again : (f a : Raw) (p : ℕ) → Again false f → Again false a → Again false (raw.Node (rawop.Plain op.Apply) (f ∷ a ∷ []) p)
  apply_again f a p left right =
      let tree : Raw = raw.Node (rawop.Plain op.Apply) (left.tree ∷ right.tree ∷ []) 0 in
      alone false (raw.Node (rawop.Plain op.Apply) (f ∷ a ∷ []) p) tree (unplaced-Node (rawop.Plain op.Apply) (f ∷ a ∷ []) p ∙ (λ i. raw.Node (rawop.Plain op.Apply) (left.is i ∷ right.is i ∷ []) 0)) (place-Node (rawop.Plain op.Apply) (left.tree ∷ right.tree ∷ [])) (alone-Node (rawop.Plain op.Apply) (f ∷ a ∷ []) p) grade.Suffixed as_suffixed
      (λ rest.
      let inner : Reads limit right.bare_grade (tokens_of (pieces a) ++ (item (sym.Close bracket.Round) 0 (bytes ")") ∷ rest)) right.tree (item (sym.Close bracket.Round) 0 (bytes ")") ∷ rest) = right.bare _ (closing refl) in
      let both : Reads limit grade.Suffixed (tokens_of (operand_pieces (f, pieces f)) ++ (item (sym.Open bracket.Round) 0 (bytes "(") ∷ (tokens_of (pieces a) ++ (item (sym.Close bracket.Round) 0 (bytes ")") ∷ rest)))) (between (rawop.Plain op.Apply) left.tree right.tree) rest =
      applied {x = sym.Open bracket.Round} (left.as_operand _) refl (suffix_closed left.grade_closed left.closed) inner (fits_expression right.bare_grade right.sort) in
      let placed = subst (λ q. Reads limit grade.Suffixed (tokens_of (operand_pieces (f, pieces f)) ++ (item (sym.Open bracket.Round) 0 (bytes "(") ∷ (tokens_of (pieces a) ++ (item (sym.Close bracket.Round) 0 (bytes ")") ∷ rest)))) (raw.Node (rawop.Plain op.Apply) (left.tree ∷ right.tree ∷ []) q) rest) left.starts both in
      let text = behind (operand_pieces (f, pieces f)) (in_round (pieces a)) rest ∙ ap (λ u. tokens_of (operand_pieces (f, pieces f)) ++ (item (sym.Open bracket.Round) 0 (bytes "(") ∷ u)) (behind (pieces a) (close_round_piece ∷ []) rest) in
      node_reads grade.Suffixed (rawop.Plain op.Apply) (f ∷ a ∷ []) p (sym.Open bracket.Round) tree rest refl (subst (λ s. Reads limit grade.Suffixed s tree rest) (back text) placed))

  image_again : (f a : Raw) (p : ℕ) → Again false f → Again false a → Again false (raw.Node (rawop.Plain op.Image) (f ∷ a ∷ []) p)
  image_again f a p left right =
      let tree : Raw = raw.Node (rawop.Plain op.Image) (left.tree ∷ right.tree ∷ []) 0 in
      alone false (raw.Node (rawop.Plain op.Image) (f ∷ a ∷ []) p) tree (unplaced-Node (rawop.Plain op.Image) (f ∷ a ∷ []) p ∙ (λ i. raw.Node (rawop.Plain op.Image) (left.is i ∷ right.is i ∷ []) 0)) (place-Node (rawop.Plain op.Image) (left.tree ∷ right.tree ∷ [])) (alone-Node (rawop.Plain op.Image) (f ∷ a ∷ []) p) grade.Suffixed as_suffixed
      (λ rest.
      let inner : Reads limit right.bare_grade (tokens_of (pieces a) ++ (item (sym.Close bracket.Square) 0 (bytes "]") ∷ rest)) right.tree (item (sym.Close bracket.Square) 0 (bytes "]") ∷ rest) = right.bare _ (closing refl) in
      let both : Reads limit grade.Suffixed (tokens_of (operand_pieces (f, pieces f)) ++ (item (sym.Open bracket.Square) 0 (bytes "[") ∷ (tokens_of (pieces a) ++ (item (sym.Close bracket.Square) 0 (bytes "]") ∷ rest)))) (between (rawop.Plain op.Image) left.tree right.tree) rest =
      applied {x = sym.Open bracket.Square} (left.as_operand _) refl (suffix_closed left.grade_closed left.closed) inner (fits_expression right.bare_grade right.sort) in
      let placed = subst (λ q. Reads limit grade.Suffixed (tokens_of (operand_pieces (f, pieces f)) ++ (item (sym.Open bracket.Square) 0 (bytes "[") ∷ (tokens_of (pieces a) ++ (item (sym.Close bracket.Square) 0 (bytes "]") ∷ rest)))) (raw.Node (rawop.Plain op.Image) (left.tree ∷ right.tree ∷ []) q) rest) left.starts both in
      let text = behind (operand_pieces (f, pieces f)) (in_square (pieces a)) rest ∙ ap (λ u. tokens_of (operand_pieces (f, pieces f)) ++ (item (sym.Open bracket.Square) 0 (bytes "[") ∷ u)) (behind (pieces a) (close_square_piece ∷ []) rest) in
      node_reads grade.Suffixed (rawop.Plain op.Image) (f ∷ a ∷ []) p (sym.Open bracket.Square) tree rest refl (subst (λ s. Reads limit grade.Suffixed s tree rest) (back text) placed))

  applied_again : (o : RawOp) (f a : Raw) (p : ℕ) → (o ≡ rawop.Plain op.Apply) ⊎ (o ≡ rawop.Plain op.Image) → Again false f → Again false a → Again false (raw.Node o (f ∷ a ∷ []) p)
  applied_again o f a p (inl e) left right = subst (λ q. Again false (raw.Node q (f ∷ a ∷ []) p)) (back e) (apply_again f a p left right)
  applied_again o f a p (inr e) left right = subst (λ q. Again false (raw.Node q (f ∷ a ∷ []) p)) (back e) (image_again f a p left right)

  converse_again : (f : Raw) (p : ℕ) → Again false f → Again false (raw.Node (rawop.Plain op.Converse) (f ∷ []) p)
  converse_again f p a =
      let tree : Raw = raw.Node (rawop.Plain op.Converse) (a.tree ∷ []) 0 in
      bracketed false (raw.Node (rawop.Plain op.Converse) (f ∷ []) p) tree (unplaced-Node (rawop.Plain op.Converse) (f ∷ []) p ∙ (λ i. raw.Node (rawop.Plain op.Converse) (a.is i ∷ []) 0)) (place-Node (rawop.Plain op.Converse) (a.tree ∷ [])) (alone-Node (rawop.Plain op.Converse) (f ∷ []) p) grade.Suffixed refl
      (λ rest c.
      let both : Reads limit grade.Suffixed (tokens_of (operand_pieces (f, pieces f)) ++ (item sym.Converse 0 (bytes "∼") ∷ rest)) (raw.Node (rawop.Plain op.Converse) (a.tree ∷ []) (place_of a.tree)) rest = converted (a.as_operand _) (suffix_closed a.grade_closed a.closed) in
      let placed : Reads limit grade.Suffixed (tokens_of (operand_pieces (f, pieces f)) ++ (item sym.Converse 0 (bytes "∼") ∷ rest)) tree rest =
      subst (λ q. Reads limit grade.Suffixed (tokens_of (operand_pieces (f, pieces f)) ++ (item sym.Converse 0 (bytes "∼") ∷ rest)) (raw.Node (rawop.Plain op.Converse) (a.tree ∷ []) q) rest) a.starts both in
      node_reads grade.Suffixed (rawop.Plain op.Converse) (f ∷ []) p sym.Converse tree rest refl (subst (λ s. Reads limit grade.Suffixed s tree rest) (back (behind (operand_pieces (f, pieces f)) (Token sym.Converse (bytes "∼") ∷ []) rest)) placed))

  -- parts between commas up to a bracket
  record PartsAgain (h : Hole) (many : Option ℕ) (b : Bracket) (before parts : List Raw) (rest : List Item) : Type 0 where
    first : Raw
    more : List Raw
    is : parts ≡ before ++ first ∷ more
    reads : (others : List Raw) → length others ≡ length before → (w : List ℕ) (m : List Item) →
        Parts limit h many b others (tokens_of (pieces first ++ behind_commas (map pieces more)) ++ (item (sym.Close b) 0 w ∷ m)) (others ++ map unplaced (first ∷ more)) m
    proper : AllProper rest

  last_part : (h : Hole) (many : Option ℕ) (b : Bracket) (before : List Raw) (g : Grade) (t : Raw) (rest : List Item) → is_whole h ≡ true → fits h g ≡ true → Again (is_predicate g) t → AllProper rest → PartsAgain h many b before (before ++ t ∷ []) rest
  last_part h many b before g t rest whole f a proper = record {
    first = t;
    more = [];
    is = refl;
    reads = λ others same w m.
        let one : Reads limit a.bare_grade (tokens_of (pieces t) ++ (item (sym.Close b) 0 w ∷ m)) a.tree (item (sym.Close b) 0 w ∷ m) = a.bare _ (closing refl) in
        let part : Parts limit h many b others (tokens_of (pieces t) ++ (item (sym.Close b) 0 w ∷ m)) (others ++ a.tree ∷ []) m = last_one one (whole_fits h g a.bare_grade whole f a.sort) in
        subst (λ u. Parts limit h many b others (tokens_of (pieces t ++ []) ++ (item (sym.Close b) 0 w ∷ m)) (others ++ u ∷ []) m) (back a.is)
        (subst (λ ps. Parts limit h many b others (tokens_of ps ++ (item (sym.Close b) 0 w ∷ m)) (others ++ a.tree ∷ []) m) (back (append-nil (pieces t))) part);
    proper = proper;
  }

  one_longer : (others before : List Raw) (x y : Raw) → length others ≡ length before → length (others ++ x ∷ []) ≡ length (before ++ y ∷ [])
  one_longer others before x y e = length-append others (x ∷ []) ∙ ap (λ n. n + 1) e ∙ back (length-append before (y ∷ []))

  next_part : (h : Hole) (many : Option ℕ) (b : Bracket) (before parts : List Raw) (g : Grade) (t : Raw) (rest : List Item) → is_whole h ≡ true → has_room many (length (before ++ t ∷ [])) ≡ true → fits h g ≡ true → Again (is_predicate g) t →
      PartsAgain h many b (before ++ t ∷ []) parts rest → PartsAgain h many b before parts rest
  next_part h many b before parts g t rest whole room f a later = record {
    first = t;
    more = later.first ∷ later.more;
    is = later.is ∙ append_assoc before (t ∷ []) (later.first ∷ later.more);
    reads = λ others same w m.
        let behind_it : List Item = tokens_of (pieces later.first ++ behind_commas (map pieces later.more)) ++ (item (sym.Close b) 0 w ∷ m) in
        let longer : length (others ++ a.tree ∷ []) ≡ length (before ++ t ∷ []) = one_longer others before a.tree t same in
        let one : Reads limit a.bare_grade (tokens_of (pieces t) ++ (item sym.Comma 0 (bytes ",") ∷ behind_it)) a.tree (item sym.Comma 0 (bytes ",") ∷ behind_it) = a.bare _ (closing refl) in
        let all : Parts limit h many b others (tokens_of (pieces t) ++ (item sym.Comma 0 (bytes ",") ∷ behind_it)) ((others ++ a.tree ∷ []) ++ map unplaced (later.first ∷ later.more)) m =
        next_one (ap (has_room many) longer ∙ room) one (whole_fits h g a.bare_grade whole f a.sort) (later.reads (others ++ a.tree ∷ []) longer w m) in
        let text : tokens_of (pieces t ++ behind_commas (map pieces (later.first ∷ later.more))) ++ (item (sym.Close b) 0 w ∷ m) ≡ tokens_of (pieces t) ++ (item sym.Comma 0 (bytes ",") ∷ behind_it) =
        behind (pieces t) (behind_commas (map pieces (later.first ∷ later.more))) (item (sym.Close b) 0 w ∷ m) in
        let trees : (others ++ a.tree ∷ []) ++ map unplaced (later.first ∷ later.more) ≡ others ++ map unplaced (t ∷ later.first ∷ later.more) =
        append_assoc others (a.tree ∷ []) (map unplaced (later.first ∷ later.more)) ∙ ap (λ u. others ++ u ∷ map unplaced (later.first ∷ later.more)) (back a.is) in
        subst (λ us. Parts limit h many b others (tokens_of (pieces t ++ behind_commas (map pieces (later.first ∷ later.more))) ++ (item (sym.Close b) 0 w ∷ m)) us m) trees
        (subst (λ s. Parts limit h many b others s ((others ++ a.tree ∷ []) ++ map unplaced (later.first ∷ later.more)) m) (back text) all);
    proper = later.proper;
  }

  -- bare parts, printed between commas
  bare_pieces : (rs : List Raw) → bare_parts (map with_pieces rs) ≡ map pieces rs
  bare_pieces [] = refl
  bare_pieces (r ∷ rs) = ap (λ ps. pieces r ∷ ps) (bare_pieces rs)

  all_parts : (h : Hole) (many : Option ℕ) (b : Bracket) (parts : List Raw) (rest : List Item) → PartsAgain h many b [] parts rest → (w : List ℕ) (m : List Item) →
      Parts limit h many b [] (tokens_of (separated_pieces (bare_parts (map with_pieces parts))) ++ (item (sym.Close b) 0 w ∷ m)) (map unplaced parts) m
  all_parts h many b parts rest a w m =
      let own : Parts limit h many b [] (tokens_of (separated_pieces (map pieces (a.first ∷ a.more))) ++ (item (sym.Close b) 0 w ∷ m)) (map unplaced (a.first ∷ a.more)) m = a.reads [] refl w m in
      let whole : Parts limit h many b [] (tokens_of (separated_pieces (map pieces parts)) ++ (item (sym.Close b) 0 w ∷ m)) (map unplaced parts) m =
      subst (λ ps. Parts limit h many b [] (tokens_of (separated_pieces (map pieces ps)) ++ (item (sym.Close b) 0 w ∷ m)) (map unplaced ps) m) (back a.is) own in
      subst (λ ps. Parts limit h many b [] (tokens_of (separated_pieces ps) ++ (item (sym.Close b) 0 w ∷ m)) (map unplaced parts) m) (back (bare_pieces parts)) whole

  call_again : (c : Call) (o : RawOp) (parts : List Raw) (p : ℕ) (rest : List Item) → raw_class_of o ≡ sym.Call c o → PartsAgain (call_hole c) (call_parts limit c) bracket.Round [] parts rest → Again (is_predicate (call_grade c)) (raw.Node o parts p)
  call_again c o parts p behind_it own a =
      let tree : Raw = raw.Node o (map unplaced parts) 0 in
      alone (is_predicate (call_grade c)) (raw.Node o parts p) tree (unplaced-Node o parts p) (place-Node o (map unplaced parts)) (alone-Node o parts p ∙ ap is_atomic own) (call_grade c) (call_closed c)
      (λ rest.
      let inner = all_parts (call_hole c) (call_parts limit c) bracket.Round parts behind_it a (bytes ")") rest in
      let text = ap (λ u. item (sym.Call c o) 0 (raw_sign_of o) ∷ (item (sym.Open bracket.Round) 0 (bytes "(") ∷ u)) (behind (separated_pieces (bare_parts (map with_pieces parts))) (close_round_piece ∷ []) rest) in
      node_reads (call_grade c) o parts p (sym.Call c o) tree rest own (subst (λ s. Reads limit (call_grade c) s tree rest) (back text) (called inner refl)))

  members_again : (members : List Raw) (p : ℕ) (rest : List Item) → PartsAgain hole.Expression None bracket.Brace [] members rest → Again false (raw.Node (rawop.Plain op.SetExtension) members p)
  members_again members p behind_it a =
      let o : RawOp = rawop.Plain op.SetExtension in
      let tree : Raw = raw.Node o (map unplaced members) 0 in
      alone false (raw.Node o members p) tree (unplaced-Node o members p) (place-Node o (map unplaced members)) (alone-Node o members p) grade.Primary as_primary
      (λ rest.
      let inner = all_parts hole.Expression None bracket.Brace members behind_it a (bytes "}") rest in
      let text = ap (λ u. item (sym.Open bracket.Brace) 0 (bytes "{") ∷ u) (behind (separated_pieces (bare_parts (map with_pieces members))) (close_brace_piece ∷ []) rest) in
      node_reads grade.Primary o members p (sym.Open bracket.Brace) tree rest refl (subst (λ s. Reads limit grade.Primary s tree rest) (back text) (set_by_members {x = sym.Open bracket.Brace} refl inner)))

  -- names with their types
  bare_bound : (n : List ℕ) (p : ℕ) → is_name n ≡ true → (m : List Item) → Bound limit (tokens_of (declared (bound n p None)) ++ m) (unplaced_bound (bound n p None)) m
  bare_bound n p is m = bare is

  typed_bound : (n : List ℕ) (p : ℕ) (t : Raw) → is_name n ≡ true → Again false t → (m : List Item) → Bound limit (tokens_of (declared (bound n p (Some t))) ++ m) (unplaced_bound (bound n p (Some t))) m
  typed_bound n p t is a m =
      let ty : TypeOf limit None (tokens_of (operand_pieces (t, pieces t)) ++ m) a.tree m = last_side {before = None} (a.as_operand m) (place_closed hole.Pair a.grade_closed refl a.closed) in
      subst (λ u. Bound limit (tokens_of (declared (bound n p (Some t))) ++ m) (bound n 0 (Some u)) m) (back a.is) (of_type is ty)

  record NamesAgain (before names : List RawBound) (rest : List Item) : Type 0 where
    first : RawBound
    more : List RawBound
    is : names ≡ before ++ first ∷ more
    reads : (others : List RawBound) (m : List Item) →
        Declares limit others (tokens_of (declared first ++ behind_commas (map declared more)) ++ (item sym.Dot 0 (bytes "·") ∷ m)) (others ++ map unplaced_bound (first ∷ more)) m
    proper : AllProper rest

  last_named : (before : List RawBound) (b : RawBound) (rest : List Item) → ((m : List Item) → Bound limit (tokens_of (declared b) ++ m) (unplaced_bound b) m) → AllProper rest → NamesAgain before (before ++ b ∷ []) rest
  last_named before b rest one proper = record {
    first = b;
    more = [];
    is = refl;
    reads = λ others m. subst (λ ps. Declares limit others (tokens_of ps ++ (item sym.Dot 0 (bytes "·") ∷ m)) (others ++ unplaced_bound b ∷ []) m) (back (append-nil (declared b))) (last_name (one (item sym.Dot 0 (bytes "·") ∷ m)));
    proper = proper;
  }

  next_named : (before names : List RawBound) (b : RawBound) (rest : List Item) → ((m : List Item) → Bound limit (tokens_of (declared b) ++ m) (unplaced_bound b) m) → NamesAgain (before ++ b ∷ []) names rest → NamesAgain before names rest
  next_named before names b rest one later = record {
    first = b;
    more = later.first ∷ later.more;
    is = later.is ∙ append_assoc before (b ∷ []) (later.first ∷ later.more);
    reads = λ others m.
        let behind_it : List Item = tokens_of (declared later.first ++ behind_commas (map declared later.more)) ++ (item sym.Dot 0 (bytes "·") ∷ m) in
        let all : Declares limit others (tokens_of (declared b) ++ (item sym.Comma 0 (bytes ",") ∷ behind_it)) ((others ++ unplaced_bound b ∷ []) ++ map unplaced_bound (later.first ∷ later.more)) m =
        next_name (one (item sym.Comma 0 (bytes ",") ∷ behind_it)) (later.reads (others ++ unplaced_bound b ∷ []) m) in
        subst (λ us. Declares limit others (tokens_of (declared b ++ behind_commas (map declared (later.first ∷ later.more))) ++ (item sym.Dot 0 (bytes "·") ∷ m)) us m)
        (append_assoc others (unplaced_bound b ∷ []) (map unplaced_bound (later.first ∷ later.more)))
        (subst (λ s. Declares limit others s ((others ++ unplaced_bound b ∷ []) ++ map unplaced_bound (later.first ∷ later.more)) m)
        (back (behind (declared b) (behind_commas (map declared (later.first ∷ later.more))) (item sym.Dot 0 (bytes "·") ∷ m))) all);
    proper = later.proper;
  }

  all_names : (names : List RawBound) (rest : List Item) → NamesAgain [] names rest → (m : List Item) → Declares limit [] (tokens_of (separated_pieces (map declared names)) ++ (item sym.Dot 0 (bytes "·") ∷ m)) (map unplaced_bound names) m
  all_names names rest a m = subst (λ bs. Declares limit [] (tokens_of (separated_pieces (map declared bs)) ++ (item sym.Dot 0 (bytes "·") ∷ m)) (map unplaced_bound bs) m) (back a.is) (a.reads [] m)

  -- the last part of a form: up to its brace, or as far as it reaches
  last_reads : (c : Binding) (h : Hole) (v : Bool) (t : Raw) (a : Again v t) → fits h a.bare_grade ≡ true → (m : List Item) → MayEnd c m → LastPart limit c h (tokens_of (pieces t) ++ tail c m) a.tree m
  last_reads binding.Set h v t a f m may = up_to_brace refl (a.bare (item (sym.Close bracket.Brace) 0 (bytes "}") ∷ m) (closing refl)) f
  last_reads (binding.Quantified b) h v t a f m may = reaching refl (a.bare m may) f (ends_there h a.bare_grade m may)
  last_reads (binding.Reaching b) h v t a f m may = reaching refl (a.bare m may) f (ends_there h a.bare_grade m may)
  last_reads binding.Lambda h v t a f m may = reaching refl (a.bare m may) f (ends_there h a.bare_grade m may)

  record BodyAgain (c : Binding) (before parts : List Raw) (rest : List Item) : Type 0 where
    new : List Raw
    is : parts ≡ before ++ new
    reads : (others : List Raw) (m : List Item) → MayEnd c m → BinderBody limit c others (tokens_of (body_pieces (map with_pieces new)) ++ tail c m) (others ++ map unplaced new) m
    proper : AllProper rest

  predicate_body : (c : Binding) (before : List Raw) (t : Raw) (rest : List Item) → is_quantified c ≡ true → Again true t → AllProper rest → BodyAgain c before (before ++ t ∷ []) rest
  predicate_body c before t rest q a proper = record {
    new = t ∷ [];
    is = refl;
    reads = λ others m may. subst (λ u. BinderBody limit c others (tokens_of (pieces t) ++ tail c m) (others ++ u ∷ []) m) (back a.is) (a_predicate q (last_reads c hole.Predicate true t a (fits_predicate a.bare_grade a.sort) m may));
    proper = proper;
  }

  value_body : (c : Binding) (before : List Raw) (t e : Raw) (rest : List Item) → is_quantified c ≡ false → Again true t → Again false e → AllProper rest → BodyAgain c before ((before ++ t ∷ []) ++ e ∷ []) rest
  value_body c before t e rest q a d proper = record {
    new = t ∷ e ∷ [];
    is = append_assoc before (t ∷ []) (e ∷ []);
    reads = λ others m may.
        let behind_it : List Item = tokens_of (pieces e) ++ tail c m in
        let first : Reads limit a.bare_grade (tokens_of (pieces t) ++ (item sym.Bar 0 (bytes "∣") ∷ behind_it)) a.tree (item sym.Bar 0 (bytes "∣") ∷ behind_it) = a.bare _ (closing refl) in
        let all : BinderBody limit c others (tokens_of (pieces t) ++ (item sym.Bar 0 (bytes "∣") ∷ behind_it)) ((others ++ a.tree ∷ []) ++ d.tree ∷ []) m =
        a_value q first (fits_predicate a.bare_grade a.sort) (last_reads c hole.Expression false e d (fits_expression d.bare_grade d.sort) m may) in
        let trees : (others ++ a.tree ∷ []) ++ d.tree ∷ [] ≡ others ++ (unplaced t ∷ unplaced e ∷ []) = append_assoc others (a.tree ∷ []) (d.tree ∷ []) ∙ (λ i. others ++ (back a.is i ∷ back d.is i ∷ [])) in
        subst (λ us. BinderBody limit c others (tokens_of (sign_between (pieces t) bar_piece (pieces e)) ++ tail c m) us m) trees
        (subst (λ s. BinderBody limit c others s ((others ++ a.tree ∷ []) ++ d.tree ∷ []) m) (back (behind (pieces t) (Blank ∷ bar_piece ∷ Blank ∷ pieces e) (tail c m))) all);
    proper = proper;
  }

  -- what stands behind the sign of a form with bound names
  scope_tokens : (front inside back_end : List Piece) (rest : List Item) → tokens_of ((front ++ (dot_piece ∷ inside)) ++ back_end) ++ rest ≡ tokens_of front ++ (item sym.Dot 0 (bytes "·") ∷ (tokens_of inside ++ (tokens_of back_end ++ rest)))
  scope_tokens front inside back_end rest = behind (front ++ (dot_piece ∷ inside)) back_end rest ∙ behind front (dot_piece ∷ inside) (tokens_of back_end ++ rest)

  -- names with a dot behind them, where this is the sign, and this ends the form
  named_reads : (c : Binding) (x : Symbol) (back_end : List Piece) → opens x ≡ Some c → takes_names c ≡ true → (names : List RawBound) (parts : List Raw) (p : ℕ) →
      pieces (raw.Bind (binder_of c) names parts p) ≡ Token x (raw_binder_sign_of (binder_of c)) ∷ ((separated_pieces (map declared names) ++ (dot_piece ∷ body_pieces (map with_pieces parts))) ++ back_end) →
      (r : List Item) → NamesAgain [] names r → (q : List Item) → BodyAgain c [] parts q → (rest : List Item) → tokens_of back_end ++ rest ≡ tail c rest → MayEnd c rest →
      Reads limit (binding_grade c) (tokens_of (pieces (raw.Bind (binder_of c) names parts p)) ++ rest) (raw.Bind (binder_of c) (map unplaced_bound names) (map unplaced parts) 0) rest
  named_reads c x back_end ox tn names parts p text r ns q bs rest ends may =
      let inside : BinderBody limit c [] (tokens_of (body_pieces (map with_pieces parts)) ++ tail c rest) (map unplaced parts) rest =
      subst (λ ps. BinderBody limit c [] (tokens_of (body_pieces (map with_pieces ps)) ++ tail c rest) (map unplaced ps) rest) (back bs.is) (bs.reads [] rest may) in
      let whole : Reads limit (binding_grade c) (item x 0 (raw_binder_sign_of (binder_of c)) ∷ (tokens_of (separated_pieces (map declared names)) ++ (item sym.Dot 0 (bytes "·") ∷ (tokens_of (body_pieces (map with_pieces parts)) ++ tail c rest)))) (raw.Bind (binder_of c) (map unplaced_bound names) (map unplaced parts) 0) rest =
      by_names ox tn (all_names names r ns _) inside refl in
      let tokens = ap (λ ps. tokens_of ps ++ rest) text
      ∙ ap (λ u. item x 0 (raw_binder_sign_of (binder_of c)) ∷ u) (scope_tokens (separated_pieces (map declared names)) (body_pieces (map with_pieces parts)) back_end rest ∙ ap (λ u. tokens_of (separated_pieces (map declared names)) ++ (item sym.Dot 0 (bytes "·") ∷ (tokens_of (body_pieces (map with_pieces parts)) ++ u))) ends) in
      subst (λ s. Reads limit (binding_grade c) s (raw.Bind (binder_of c) (map unplaced_bound names) (map unplaced parts) 0) rest) (back tokens) whole

  named_again : (c : Binding) → takes_names c ≡ true → IsForm c → (names : List RawBound) (parts : List Raw) (p : ℕ) (r : List Item) → NamesAgain [] names r → (q : List Item) → BodyAgain c [] parts q →
      Again (is_predicate (binding_grade c)) (raw.Bind (binder_of c) names parts p)
  named_again binding.Set tn is names parts p r ns q bs =
      let b : RawBinder = rawbinder.Plain binder.Comprehension in
      alone false (raw.Bind b names parts p) (raw.Bind b (map unplaced_bound names) (map unplaced parts) 0) (unplaced-Bind b names parts p) (place-Bind b (map unplaced_bound names) (map unplaced parts)) (alone-Bind b names parts p) grade.Primary as_primary
      (λ rest. named_reads binding.Set (sym.Open bracket.Brace) (close_brace_piece ∷ []) refl refl names parts p (pieces-Bind b names parts p) r ns q bs rest refl tt)
  named_again (binding.Quantified binder.ForAll) tn is names parts p r ns q bs =
      let b : RawBinder = rawbinder.Plain binder.ForAll in
      let c : Binding = binding.Quantified binder.ForAll in
      bracketed true (raw.Bind b names parts p) (raw.Bind b (map unplaced_bound names) (map unplaced parts) 0) (unplaced-Bind b names parts p) (place-Bind b (map unplaced_bound names) (map unplaced parts)) (alone-Bind b names parts p) grade.Literal refl
      (λ rest may. named_reads c (sym.Binder c) [] refl refl names parts p (pieces-Bind b names parts p) r ns q bs rest refl may)
  named_again (binding.Quantified binder.Exists) tn is names parts p r ns q bs =
      let b : RawBinder = rawbinder.Plain binder.Exists in
      let c : Binding = binding.Quantified binder.Exists in
      bracketed true (raw.Bind b names parts p) (raw.Bind b (map unplaced_bound names) (map unplaced parts) 0) (unplaced-Bind b names parts p) (place-Bind b (map unplaced_bound names) (map unplaced parts)) (alone-Bind b names parts p) grade.Literal refl
      (λ rest may. named_reads c (sym.Binder c) [] refl refl names parts p (pieces-Bind b names parts p) r ns q bs rest refl may)
  named_again (binding.Reaching binder.QuantifiedUnion) tn is names parts p r ns q bs =
      let b : RawBinder = rawbinder.Plain binder.QuantifiedUnion in
      let c : Binding = binding.Reaching binder.QuantifiedUnion in
      bracketed false (raw.Bind b names parts p) (raw.Bind b (map unplaced_bound names) (map unplaced parts) 0) (unplaced-Bind b names parts p) (place-Bind b (map unplaced_bound names) (map unplaced parts)) (alone-Bind b names parts p) grade.Reaching refl
      (λ rest may. named_reads c (sym.Binder c) [] refl refl names parts p (pieces-Bind b names parts p) r ns q bs rest refl may)
  named_again (binding.Reaching binder.QuantifiedIntersection) tn is names parts p r ns q bs =
      let b : RawBinder = rawbinder.Plain binder.QuantifiedIntersection in
      let c : Binding = binding.Reaching binder.QuantifiedIntersection in
      bracketed false (raw.Bind b names parts p) (raw.Bind b (map unplaced_bound names) (map unplaced parts) 0) (unplaced-Bind b names parts p) (place-Bind b (map unplaced_bound names) (map unplaced parts)) (alone-Bind b names parts p) grade.Reaching refl
      (λ rest may. named_reads c (sym.Binder c) [] refl refl names parts p (pieces-Bind b names parts p) r ns q bs rest refl may)
  named_again (binding.Quantified binder.Comprehension) tn is names parts p r ns q bs = cc
  named_again (binding.Quantified binder.QuantifiedUnion) tn is names parts p r ns q bs = cc
  named_again (binding.Quantified binder.QuantifiedIntersection) tn is names parts p r ns q bs = cc
  named_again (binding.Reaching binder.ForAll) tn is names parts p r ns q bs = cc
  named_again (binding.Reaching binder.Exists) tn is names parts p r ns q bs = cc
  named_again (binding.Reaching binder.Comprehension) tn is names parts p r ns q bs = cc
  named_again binding.Lambda tn is names parts p r ns q bs = cc

  -- an expression with a bar behind it
  shape_reads : (c : Binding) (x : Symbol) (back_end : List Piece) → opens x ≡ Some c → takes_shape c ≡ true → (e t : Raw) (p : ℕ) →
      pieces (raw.Bind (implicit_of c) [] (e ∷ t ∷ []) p) ≡ Token x (raw_binder_sign_of (implicit_of c)) ∷ (sign_between (pieces e) bar_piece (pieces t) ++ back_end) →
      (a : Again false e) (d : Again true t) (rest : List Item) → tokens_of back_end ++ rest ≡ tail c rest → MayEnd c rest →
      Reads limit (binding_grade c) (tokens_of (pieces (raw.Bind (implicit_of c) [] (e ∷ t ∷ []) p)) ++ rest) (raw.Bind (implicit_of c) [] (a.tree ∷ d.tree ∷ []) 0) rest
  shape_reads c x back_end ox ts e t p text a d rest ends may =
      let behind_it : List Item = tokens_of (pieces t) ++ tail c rest in
      let first : Reads limit a.bare_grade (tokens_of (pieces e) ++ (item sym.Bar 0 (bytes "∣") ∷ behind_it)) a.tree (item sym.Bar 0 (bytes "∣") ∷ behind_it) = a.bare _ (closing refl) in
      let whole : Reads limit (binding_grade c) (item x 0 (raw_binder_sign_of (implicit_of c)) ∷ (tokens_of (pieces e) ++ (item sym.Bar 0 (bytes "∣") ∷ behind_it))) (raw.Bind (implicit_of c) [] (a.tree ∷ d.tree ∷ []) 0) rest =
      by_shape ox ts first (fits_expression a.bare_grade a.sort) (last_reads c hole.Predicate true t d (fits_predicate d.bare_grade d.sort) rest may) refl in
      let tokens = ap (λ ps. tokens_of ps ++ rest) text
      ∙ ap (λ u. item x 0 (raw_binder_sign_of (implicit_of c)) ∷ u) (behind (sign_between (pieces e) bar_piece (pieces t)) back_end rest ∙ behind (pieces e) (Blank ∷ bar_piece ∷ Blank ∷ pieces t) (tokens_of back_end ++ rest) ∙ ap (λ u. tokens_of (pieces e) ++ (item sym.Bar 0 (bytes "∣") ∷ (tokens_of (pieces t) ++ u))) ends) in
      subst (λ s. Reads limit (binding_grade c) s (raw.Bind (implicit_of c) [] (a.tree ∷ d.tree ∷ []) 0) rest) (back tokens) whole

  shape_again : (c : Binding) → takes_shape c ≡ true → IsForm c → (e t : Raw) (p : ℕ) → Again false e → Again true t → Again (is_predicate (binding_grade c)) (raw.Bind (implicit_of c) [] (e ∷ t ∷ []) p)
  shape_again binding.Set ts is e t p a d =
      let b : RawBinder = rawbinder.Implicit binder.Comprehension in
      alone false (raw.Bind b [] (e ∷ t ∷ []) p) (raw.Bind b [] (a.tree ∷ d.tree ∷ []) 0) (unplaced-Bind b [] (e ∷ t ∷ []) p ∙ (λ i. raw.Bind b [] (a.is i ∷ d.is i ∷ []) 0)) (place-Bind b [] (a.tree ∷ d.tree ∷ [])) (alone-Bind b [] (e ∷ t ∷ []) p) grade.Primary as_primary
      (λ rest. shape_reads binding.Set (sym.Open bracket.Brace) (close_brace_piece ∷ []) refl refl e t p (pieces-Bind b [] (e ∷ t ∷ []) p) a d rest refl tt)
  shape_again (binding.Reaching binder.QuantifiedUnion) ts is e t p a d =
      let b : RawBinder = rawbinder.Implicit binder.QuantifiedUnion in
      let c : Binding = binding.Reaching binder.QuantifiedUnion in
      bracketed false (raw.Bind b [] (e ∷ t ∷ []) p) (raw.Bind b [] (a.tree ∷ d.tree ∷ []) 0) (unplaced-Bind b [] (e ∷ t ∷ []) p ∙ (λ i. raw.Bind b [] (a.is i ∷ d.is i ∷ []) 0)) (place-Bind b [] (a.tree ∷ d.tree ∷ [])) (alone-Bind b [] (e ∷ t ∷ []) p) grade.Reaching refl
      (λ rest may. shape_reads c (sym.Binder c) [] refl refl e t p (pieces-Bind b [] (e ∷ t ∷ []) p) a d rest refl may)
  shape_again (binding.Reaching binder.QuantifiedIntersection) ts is e t p a d =
      let b : RawBinder = rawbinder.Implicit binder.QuantifiedIntersection in
      let c : Binding = binding.Reaching binder.QuantifiedIntersection in
      bracketed false (raw.Bind b [] (e ∷ t ∷ []) p) (raw.Bind b [] (a.tree ∷ d.tree ∷ []) 0) (unplaced-Bind b [] (e ∷ t ∷ []) p ∙ (λ i. raw.Bind b [] (a.is i ∷ d.is i ∷ []) 0)) (place-Bind b [] (a.tree ∷ d.tree ∷ [])) (alone-Bind b [] (e ∷ t ∷ []) p) grade.Reaching refl
      (λ rest may. shape_reads c (sym.Binder c) [] refl refl e t p (pieces-Bind b [] (e ∷ t ∷ []) p) a d rest refl may)
  shape_again (binding.Reaching binder.ForAll) ts is e t p a d = cc
  shape_again (binding.Reaching binder.Exists) ts is e t p a d = cc
  shape_again (binding.Reaching binder.Comprehension) ts is e t p a d = cc
  shape_again (binding.Quantified b) ts is e t p a d = cc
  shape_again binding.Lambda ts is e t p a d = cc

  -- patterns of λ
  record PatternAgain (shape : Shape) : Type 0 where
    qs : List Piece
    prints : (more : List (List Piece)) → pattern shape.tree (map declared shape.names ++ more) ≡ qs
    counts : pattern_name_count shape.tree ≡ length (map declared shape.names)
    to : Shape
    names : map unplaced_bound shape.names ≡ to.names
    tree : unplaced shape.tree ≡ to.tree
    starts : place_of to.tree ≡ 0
    bare_pattern : (rest : List Item) → Closes rest → Pattern limit None (tokens_of qs ++ rest) to rest
    closed : (rest : List Item) → Closes rest → Atom limit (tokens_of (operand_pieces (shape.tree, qs)) ++ rest) to rest
    at_maplet : (rest : List Item) → Atom limit (tokens_of (operand_pieces (shape.tree, qs)) ++ (item (sym.Infix lev.Maplet (rawop.Plain op.Maplet)) 0 (raw_sign_of (rawop.Plain op.Maplet)) ∷ rest)) to (item (sym.Infix lev.Maplet (rawop.Plain op.Maplet)) 0 (raw_sign_of (rawop.Plain op.Maplet)) ∷ rest)

  -- a name, with or without a type
  lone_again : (n : List ℕ) (p : ℕ) (t : Option Raw) (u : Option Raw) → option_map unplaced t ≡ u →
      ((rest : List Item) → Closes rest → Atom limit (tokens_of (declared (bound n p t)) ++ rest) (lone n 0 u) rest) →
      ((rest : List Item) → Atom limit (tokens_of (declared (bound n p t)) ++ (item (sym.Infix lev.Maplet (rawop.Plain op.Maplet)) 0 (raw_sign_of (rawop.Plain op.Maplet)) ∷ rest)) (lone n 0 u) (item (sym.Infix lev.Maplet (rawop.Plain op.Maplet)) 0 (raw_sign_of (rawop.Plain op.Maplet)) ∷ rest)) →
      PatternAgain (lone n p t)
  lone_again n p t u e before_end before_maplet =
      let own : operand_pieces (raw.Name n p, declared (bound n p t)) ≡ declared (bound n p t) = rw (alone-Name n p) refl in
      record {
        qs = declared (bound n p t);
        prints = λ more. pattern-Name n p (declared (bound n p t) ∷ more);
        counts = names_in-Name n p;
        to = lone n 0 u;
        names = ap (λ v. bound n 0 v ∷ []) e;
        tree = unplaced-Name n p;
        starts = place-Name n;
        bare_pattern = λ rest c. last_atom {before = None} (before_end rest c);
        closed = λ rest c. subst (λ ps. Atom limit (tokens_of ps ++ rest) (lone n 0 u) rest) (back own) (before_end rest c);
        at_maplet = λ rest. subst (λ ps. Atom limit (tokens_of ps ++ (item (sym.Infix lev.Maplet (rawop.Plain op.Maplet)) 0 (raw_sign_of (rawop.Plain op.Maplet)) ∷ rest)) (lone n 0 u) (item (sym.Infix lev.Maplet (rawop.Plain op.Maplet)) 0 (raw_sign_of (rawop.Plain op.Maplet)) ∷ rest)) (back own) (before_maplet rest);
      }

  typed_lone : (n : List ℕ) (p : ℕ) (t : Raw) → is_name n ≡ true → Again false t → PatternAgain (lone n p (Some t))
  typed_lone n p t is a = lone_again n p (Some t) (Some a.tree) (ap Some a.is)
      (λ rest c. typed_atom is (a.as_operand rest) (place_closed hole.Arrow a.grade_closed refl a.closed) (ends_there hole.Arrow a.grade_closed rest c))
      (λ rest. typed_atom is (a.as_operand _) (place_closed hole.Arrow a.grade_closed refl a.closed) (ends_at_maplet a.grade_closed (rawop.Plain op.Maplet) 0 (raw_sign_of (rawop.Plain op.Maplet)) rest a.closed))

  map_unplaced : (bs cs : List RawBound) → map unplaced_bound (bs ++ cs) ≡ map unplaced_bound bs ++ map unplaced_bound cs
  map_unplaced [] cs = refl
  map_unplaced (b ∷ bs) cs = ap (λ ds. unplaced_bound b ∷ ds) (map_unplaced bs cs)

  maplet_again : (b a : Shape) → PatternAgain b → PatternAgain a → PatternAgain (joined_shape (Some b) a)
  maplet_again b a left right =
      let o : RawOp = rawop.Plain op.Maplet in
      let qs : List Piece = sign_between (operand_pieces (b.tree, left.qs)) (Token (raw_class_of o) (raw_sign_of o)) (operand_pieces (a.tree, right.qs)) in
      let to : Shape = joined_shape (Some left.to) right.to in
      let own : operand_pieces ((joined_shape (Some b) a).tree, qs) ≡ in_round qs = rw (alone-Node o (b.tree ∷ a.tree ∷ []) (place_of b.tree)) refl in
      let reads : (rest : List Item) → Closes rest → Pattern limit None (tokens_of qs ++ rest) to rest =
      (λ rest c. subst (λ s. Pattern limit None s to rest) (back (behind (operand_pieces (b.tree, left.qs)) (Blank ∷ Token (raw_class_of o) (raw_sign_of o) ∷ Blank ∷ operand_pieces (a.tree, right.qs)) rest))
      (next_atom {before = None} (left.at_maplet (tokens_of (operand_pieces (a.tree, right.qs)) ++ rest)) (last_atom {before = Some left.to} (right.closed rest c)))) in
      let round : (rest : List Item) → Atom limit (tokens_of (in_round qs) ++ rest) to rest =
      (λ rest. subst (λ s. Atom limit (item (sym.Open bracket.Round) 0 (bytes "(") ∷ s) to rest) (back (behind qs (close_round_piece ∷ []) rest)) (grouped_atom (reads (item (sym.Close bracket.Round) 0 (bytes ")") ∷ rest) (closing refl)))) in
      record {
        qs = qs;
        prints = λ more.
            let all : List (List Piece) = map declared (b.names ++ a.names) ++ more in
            let names : all ≡ map declared b.names ++ (map declared a.names ++ more) = ap (λ ds. ds ++ more) (map_declared b.names a.names) ∙ append_assoc (map declared b.names) (map declared a.names) more in
            let first : pattern b.tree all ≡ left.qs = ap (pattern b.tree) names ∙ left.prints (map declared a.names ++ more) in
            let behind_it : drop (pattern_name_count b.tree) all ≡ map declared a.names ++ more = (λ i. drop (left.counts i) (names i)) ∙ drop-append_seam (map declared b.names) (map declared a.names ++ more) in
            let second : pattern a.tree (drop (pattern_name_count b.tree) all) ≡ right.qs = ap (pattern a.tree) behind_it ∙ right.prints more in
            pattern-pair o b.tree a.tree (place_of b.tree) all ∙ (λ i. sign_between (operand_pieces (b.tree, first i)) (Token (raw_class_of o) (raw_sign_of o)) (operand_pieces (a.tree, second i)));
        counts = names_in-pair o b.tree a.tree (place_of b.tree) ∙ (λ i. left.counts i + right.counts i) ∙ back (length-append (map declared b.names) (map declared a.names)) ∙ ap length (back (map_declared b.names a.names));
        to = to;
        names = map_unplaced b.names a.names ∙ (λ i. left.names i ++ right.names i);
        tree = unplaced-Node o (b.tree ∷ a.tree ∷ []) (place_of b.tree) ∙ (λ i. raw.Node o (left.tree i ∷ right.tree i ∷ []) (back left.starts i));
        starts = ap (λ q. place_of (raw.Node o (left.to.tree ∷ right.to.tree ∷ []) q)) left.starts ∙ place-Node o (left.to.tree ∷ right.to.tree ∷ []);
        bare_pattern = reads;
        closed = λ rest c. subst (λ ps. Atom limit (tokens_of ps ++ rest) to rest) (back own) (round rest);
        at_maplet = λ rest. subst (λ ps. Atom limit (tokens_of ps ++ (item (sym.Infix lev.Maplet o) 0 (raw_sign_of o) ∷ rest)) to (item (sym.Infix lev.Maplet o) 0 (raw_sign_of o) ∷ rest)) (back own) (round (item (sym.Infix lev.Maplet o) 0 (raw_sign_of o) ∷ rest));
      }

  lambda_again : (shape : Shape) (parts : List Raw) (p : ℕ) → PatternAgain shape → (q : List Item) → BodyAgain binding.Lambda (shape.tree ∷ []) parts q → Again false (raw.Bind rawbinder.Lambda shape.names parts p)
  lambda_again shape parts p a q bs =
      let tree : Raw = raw.Bind rawbinder.Lambda a.to.names (a.to.tree ∷ map unplaced bs.new) 0 in
      let trees : map unplaced parts ≡ a.to.tree ∷ map unplaced bs.new = ap (map unplaced) bs.is ∙ ap (λ u. u ∷ map unplaced bs.new) a.tree in
      bracketed false (raw.Bind rawbinder.Lambda shape.names parts p) tree (unplaced-Bind rawbinder.Lambda shape.names parts p ∙ (λ i. raw.Bind rawbinder.Lambda (a.names i) (trees i) 0)) (place-Bind rawbinder.Lambda a.to.names (a.to.tree ∷ map unplaced bs.new))
      (alone-Bind rawbinder.Lambda shape.names parts p) grade.Reaching refl
      (λ rest c.
      let inside : BinderBody limit binding.Lambda (a.to.tree ∷ []) (tokens_of (body_pieces (map with_pieces bs.new)) ++ rest) (a.to.tree ∷ map unplaced bs.new) rest = bs.reads (a.to.tree ∷ []) rest c in
      let whole : Reads limit grade.Reaching (item (sym.Binder binding.Lambda) 0 (bytes "λ") ∷ (tokens_of a.qs ++ (item sym.Dot 0 (bytes "·") ∷ (tokens_of (body_pieces (map with_pieces bs.new)) ++ rest)))) tree rest =
      lambda (a.bare_pattern (item sym.Dot 0 (bytes "·") ∷ (tokens_of (body_pieces (map with_pieces bs.new)) ++ rest)) (closing refl)) inside in
      let printed : pattern shape.tree (map declared shape.names) ≡ a.qs = ap (pattern shape.tree) (back (append-nil (map declared shape.names))) ∙ a.prints [] in
      let text : pieces (raw.Bind rawbinder.Lambda shape.names parts p) ≡ Token (sym.Binder binding.Lambda) (bytes "λ") ∷ ((a.qs ++ (dot_piece ∷ body_pieces (map with_pieces bs.new))) ++ []) =
      pieces-Bind rawbinder.Lambda shape.names parts p
      ∙ ap (λ ps. Token (sym.Binder binding.Lambda) (bytes "λ") ∷ (printing.lambda_pieces (map declared shape.names) (map with_pieces ps) ++ [])) bs.is
      ∙ ap (λ qs. Token (sym.Binder binding.Lambda) (bytes "λ") ∷ ((qs ++ (dot_piece ∷ body_pieces (map with_pieces bs.new))) ++ [])) printed in
      let tokens = ap (λ ps. tokens_of ps ++ rest) text ∙ ap (λ u. item (sym.Binder binding.Lambda) 0 (bytes "λ") ∷ u) (scope_tokens a.qs (body_pieces (map with_pieces bs.new)) [] rest) in
      subst (λ s. Reads limit grade.Reaching s tree rest) (back tokens) whole)

  -- what stands before ⦂ or ↦
  abbrev SideAgain : Option Raw → Type 0
  SideAgain None = Unit {0}
  SideAgain (Some a) = Again false a

  abbrev StartAgain : Option Shape → Type 0
  StartAgain None = Unit {0}
  StartAgain (Some b) = PatternAgain b

  type_again : (before : Option Raw) (t : Raw) → SideAgain before → Again false t → Again false (type_with before t)
  type_again None t h own = own
  type_again (Some a) t h own = two_again lev.Typing rawop.OfType (sym.Infix lev.Typing rawop.OfType) refl refl a t (place_of a) h own

  start_again : (before : Option Shape) (a : Shape) → StartAgain before → PatternAgain a → PatternAgain (joined_shape before a)
  start_again None a h own = own
  start_again (Some b) a h own = maplet_again b a h own

  mutual
    pub reads_again : {g : Grade} {s rest : List Item} {t : Raw} → Reads limit g s t rest → AllProper s → Again (is_predicate g) t × AllProper rest
    reads_again (a_name {n = n} {p = p} is) all = (name_again n p is, all.1)
    reads_again (a_number {n = n} {p = p}) all = (number_again n p, all.1)
    reads_again (a_truth {o = o} {p = p}) all = (constant_again true (rawop.Plain o) p (sym.Truth o) all.0 refl refl grade.Literal as_predicate (λ rest. a_truth), all.1)
    reads_again (a_constant {o = o} {p = p}) all = (constant_again false (rawop.Plain o) p (sym.Constant o) all.0 refl refl grade.Primary as_primary (λ rest. a_constant), all.1)
    reads_again (prefixed {g = g} {q = pre.Not} {p = p} {t = t} px r f e k) all =
        let own = reads_again r all.1 in
        (of_sort true _ _ (ap is_predicate k) (not_again t p (of_sort _ _ t (place_sort hole.Literal g refl f) own.0)), own.1)
    reads_again (prefixed {g = g} {q = pre.Minus} {p = p} {t = t} px r f e k) all =
        let own = reads_again r all.1 in
        (of_sort false _ _ (ap is_predicate k) (minus_again t p (of_sort _ _ t (place_sort hole.Term g refl f) own.0)), own.1)
    reads_again (two_sides {g = g} {h = h} {l = l} {o = o} {x = x} {a = a} {b = b} ra ix tl rb f e k) all =
        let left = reads_again ra all in
        let right = reads_again rb left.1.1 in
        let both : Again (is_predicate (level l grade.Name)) (raw.Node o (a ∷ b ∷ []) (place_of a)) =
        two_again l o x ix (own_symbol x l o ix left.1.0) a b (place_of a) (of_sort _ _ a (left_sort l g tl) left.0) (of_sort _ _ b (place_sort (right_of l) h (right_one l) f ∙ right_sort l) right.0) in
        (of_sort _ _ _ (level_sort l grade.Name g ∙ ap is_predicate k) both, right.1)
    reads_again (in_parentheses {g = g} {t = t} r k) all = let own = reads_again r all.1 in (of_sort _ _ t (back (grouped_same g) ∙ ap is_predicate k) own.0, own.1.1)
    reads_again (called {c = c} {o = o} {p = p} {rest = rest} {parts = parts} ps k) all =
        let own = parts_again (call_whole c) ps all.1.1 in
        (of_sort _ _ _ (ap is_predicate k) (call_again c o parts p rest all.0 own), own.proper)
    reads_again (applied {g = g} {h = h} {b = b} {o = o} {x = x} {f = f} {a = a} rf sx sf ra fe) all =
        let left = reads_again rf all in
        let right = reads_again ra left.1.1 in
        (applied_again o f a (place_of f) (suffix_symbol x b o sx) (of_sort _ _ f (suffix_sort g sf) left.0) (of_sort _ _ a (place_sort hole.Expression h refl fe) right.0), right.1.1)
    reads_again (converted {g = g} {f = f} rf sf) all =
        let own = reads_again rf all in (converse_again f (place_of f) (of_sort _ _ f (suffix_sort g sf) own.0), own.1.1)
    reads_again (set_by_members {p = p} {rest = rest} {members = members} ox ps) all =
        let own = parts_again refl ps all.1 in (members_again members p rest own, own.proper)
    reads_again (by_names {c = c} {x = x} {p = p} {m = m} {rest = rest} {names = names} {parts = parts} ox tn ds bd k) all =
        let named = names_again ds all.1 in
        let inside = body_again bd named.proper in
        (of_sort _ _ _ (ap is_predicate k) (named_again c tn (form_symbol x c ox all.0) names parts p m named rest inside), inside.proper)
    reads_again (by_shape {g = g} {c = c} {x = x} {p = p} {e = e} {t = t} ox ts re fe lp k) all =
        let first = reads_again re all.1 in
        let last = last_again refl lp first.1.1 in
        (of_sort _ _ _ (ap is_predicate k) (shape_again c ts (form_symbol x c ox all.0) e t p (of_sort _ _ e (place_sort hole.Expression g refl fe) first.0) last.0), last.1)
    reads_again (lambda {p = p} {rest = rest} {shape = shape} {parts = parts} pt bd) all =
        let names = pattern_again pt all.1 tt in
        let inside = body_again bd names.1.1 in
        (lambda_again shape parts p names.0 rest inside, inside.proper)

    parts_again : {h : Hole} {many : Option ℕ} {b : Bracket} {before parts : List Raw} {s rest : List Item} → is_whole h ≡ true → Parts limit h many b before s parts rest → AllProper s → PartsAgain h many b before parts rest
    parts_again {h = h} {many = many} {b = b} whole (last_one {before = before} {g = g} {rest = rest} {t = t} r f) all = let own = reads_again r all in last_part h many b before g t rest whole f own.0 own.1.1
    parts_again {h = h} {many = many} {b = b} whole (next_one {before = before} {parts = parts} {g = g} {rest = rest} {t = t} room r f more) all =
        let own = reads_again r all in next_part h many b before parts g t rest whole room f own.0 (parts_again whole more own.1.1)

    types_again : {before : Option Raw} {s rest : List Item} {t : Raw} → TypeOf limit before s t rest → AllProper s → SideAgain before → Again false t × AllProper rest
    types_again (last_side {before = before} {g = g} {t = t} r f) all h = let own = reads_again r all in (type_again before t h (of_sort _ _ t (place_sort hole.Pair g refl f) own.0), own.1)
    types_again (first_side {g = g} {a = a} r f more) all h = let own = reads_again r all in types_again more own.1.1 (of_sort _ _ a (place_sort hole.Pair g refl f) own.0)

    bound_again : {s rest : List Item} {b : RawBound} → Bound limit s b rest → AllProper s → ((m : List Item) → Bound limit (tokens_of (declared b) ++ m) (unplaced_bound b) m) × AllProper rest
    bound_again (bare {n = n} {p = p} is) all = (bare_bound n p is, all.1)
    bound_again (of_type {n = n} {p = p} {t = t} is ty) all = let own = types_again ty all.1.1 tt in (typed_bound n p t is own.0, own.1)

    names_again : {before names : List RawBound} {s rest : List Item} → Declares limit before s names rest → AllProper s → NamesAgain before names rest
    names_again (last_name {before = before} {b = b} {rest = rest} one) all = let own = bound_again one all in last_named before b rest own.0 own.1.1
    names_again (next_name {before = before} {names = names} {b = b} {rest = rest} one more) all = let own = bound_again one all in next_named before names b rest own.0 (names_again more own.1.1)

    body_again : {c : Binding} {before parts : List Raw} {s rest : List Item} → BinderBody limit c before s parts rest → AllProper s → BodyAgain c before parts rest
    body_again {c = c} (a_predicate {before = before} {rest = rest} {t = t} q lp) all = let own = last_again refl lp all in predicate_body c before t rest q own.0 own.1
    body_again {c = c} (a_value {before = before} {g = g} {rest = rest} {t = t} {e = e} q r f lp) all =
        let first = reads_again r all in
        let last = last_again refl lp first.1.1 in
        value_body c before t e rest q (of_sort _ _ t (place_sort hole.Predicate g refl f) first.0) last.0 last.1

    last_again : {c : Binding} {h : Hole} {s rest : List Item} {t : Raw} → is_one_sort h ≡ true → LastPart limit c h s t rest → AllProper s → Again (takes_predicates h) t × AllProper rest
    last_again {h = h} one (up_to_brace {g = g} {t = t} is r f) all = let own = reads_again r all in (of_sort _ _ t (place_sort h g one f) own.0, own.1.1)
    last_again {h = h} one (reaching {g = g} {t = t} is r f e) all = let own = reads_again r all in (of_sort _ _ t (place_sort h g one f) own.0, own.1)

    pattern_again : {before : Option Shape} {s rest : List Item} {shape : Shape} → Pattern limit before s shape rest → AllProper s → StartAgain before → PatternAgain shape × AllProper rest
    pattern_again (last_atom {before = before} {a = a} one) all h = let own = atom_again one all in (start_again before a h own.0, own.1)
    pattern_again (next_atom {before = before} {a = a} one more) all h = let own = atom_again one all in pattern_again more own.1.1 (start_again before a h own.0)

    atom_again : {s rest : List Item} {shape : Shape} → Atom limit s shape rest → AllProper s → PatternAgain shape × AllProper rest
    atom_again (bare_atom {n = n} {p = p} is) all = (lone_again n p None None refl (λ rest c. bare_atom is) (λ rest. bare_atom is), all.1)
    atom_again (typed_atom {g = g} {n = n} {p = p} {t = t} is r f e) all = let own = reads_again r all.1.1 in (typed_lone n p t is (of_sort _ _ t (place_sort hole.Arrow g refl f) own.0), own.1)
    atom_again (grouped_atom pt) all = let own = pattern_again pt all.1 tt in (own.0, own.1.1)

  -- the printed tokens of what is spelled spell it, without its places
  pub spelled_again : (h : Hole) (s : List Item) (t : Raw) → is_whole h ≡ true → Spells limit h s t → AllProper s → Spells limit h (raw_tokens t) (unplaced t)
  spelled_again h s t whole k all =
      let own = reads_again k.reads all in
      let a : Again (is_predicate k.g) t = own.0 in
      let read : Reads limit a.bare_grade (raw_tokens t) a.tree [] = subst (λ u. Reads limit a.bare_grade u a.tree []) (append-nil (raw_tokens t)) (a.bare [] at_end) in
      record { g = a.bare_grade; reads = subst (λ u. Reads limit a.bare_grade (raw_tokens t) u []) (back a.is) read; fit = whole_fits h k.g a.bare_grade whole k.fit a.sort }
