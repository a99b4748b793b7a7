-- The printed pieces of what some tokens spell are read as they are printed.
use Rattle.std.proofs.Common.{◌≡◌, ◌∙◌, sym as back, ap, subst, refl, ℕ, true, List, [], ◌∷◌, ◌++◌, map, append_assoc, append-nil, inl, inr}
use Rattle.std.specs.Prelude.{Option, Some, None, ◌+◌, ◌⊎◌, length, drop}
use Rattle.std.proofs.Math.Seq.{drop-append_seam}
use Rattle.std.proofs.lemmas.List.{length-append}
use Rattle.std.specs.List.{AllByRecursion}
use Rattle.std.specs.Fmt.{signed_decimal}
use Rattle.formula_core.specs.Names.{is_name}
use Rattle.formula_core.specs.declared.op.Op.TheVariants as op
use Rattle.formula_core.specs.declared.op.Binder.TheVariants as binder
use Rattle.formula_core.specs.declared.raw.RawOp.{RawOp}
use Rattle.formula_core.specs.declared.raw.RawOp.TheVariants as rawop
use Rattle.formula_core.specs.declared.raw.RawBinder.TheVariants as rawbinder
use Rattle.formula_core.specs.declared.raw.RawBound.{RawBound}
use Rattle.formula_core.specs.declared.raw.Raw.{Raw}
use Rattle.formula_core.specs.declared.raw.Raw.TheVariants as raw
use Rattle.math_grammar.specs.declared.holes.Grade.{Grade}
use Rattle.math_grammar.specs.declared.holes.Hole.{Hole}
use Rattle.math_grammar.specs.declared.levels.Level.{Level}
use Rattle.math_grammar.specs.declared.levels.Level.TheVariants as lev
use Rattle.math_grammar.specs.declared.levels.Prefix.TheVariants as pre
use Rattle.math_grammar.specs.declared.levels.Bracket.{Bracket}
use Rattle.math_grammar.specs.declared.levels.Bracket.TheVariants as bracket
use Rattle.math_grammar.specs.declared.levels.Binding.{Binding}
use Rattle.math_grammar.specs.declared.levels.Binding.TheVariants as binding
use Rattle.math_grammar.specs.declared.symbols.Symbol.{Symbol}
use Rattle.math_grammar.specs.declared.symbols.Symbol.TheVariants as sym
use Rattle.math_grammar.specs.declared.shapes.Shape.{Shape}
use Rattle.math_grammar.specs.Levels.{infix_of, binder_of, implicit_of, takes_names, takes_shape}
use Rattle.math_grammar.specs.Tokens.{Item}
use Rattle.math_grammar.specs.Grammar.{Reads, a_name, a_number, a_truth, a_constant, prefixed, two_sides, in_parentheses, called, applied, converted, set_by_members, by_names, by_shape, lambda, Parts, last_one, next_one, TypeOf, last_side, first_side, Bound, bare, of_type, Declares, last_name, next_name, BinderBody, a_predicate, a_value, LastPart, up_to_brace, reaching, Pattern, last_atom, next_atom, Atom, bare_atom, typed_atom, grouped_atom, type_with, joined_shape, lone, bound, place_of}
use Rattle.token_text.specs.Spacing.{is_space}
use Rattle.token_text.proofs.Following.{stops, Follows}
use Rattle.math_grammar.specs.Characters.{bytes}
use Rattle.token_text.specs.Pieces.{Piece, Token, text_of, word_piece, dot_piece, bar_piece, typing_piece, in_round, in_square, sign_between, separated_pieces}
use Rattle.math_grammar.specs.Operators.{raw_sign_of, raw_class_of}
use Rattle.raw_print.specs.Printing as printing
use Rattle.raw_print.specs.Printing.{PartWithPieces, operand_pieces, bare as bare_parts, form, pieces, bind_pieces, body_pieces, pattern, pattern_step, pattern_name_count, names_in_step}
use Rattle.raw_print.specs.Private.{with_pieces, declared}
use Rattle.raw_print.proofs.Equations.{pieces-Int, pieces-Name, pieces-Node, pieces-Bind, pattern-Name, names_in-Name}
use Rattle.raw_print.specs.Back.{AllProper}
use Rattle.raw_print.proofs.Proper.{own_symbol, infix_is, second_form, is_infix, suffix_symbol, IsForm, form_symbol, pattern-pair, names_in-pair, map_declared}
use Rattle.component_print.proofs.Signs.{Ready, before_space, before_stop, is_wordy, ready-not, ready-minus, ready-converse, ready-dot, ready-bar, ready-typing, ready-for_all, ready-exists, ready-union, ready-intersection, ready-lambda}
use Rattle.component_print.proofs.Chains.{Chain, Stops, Printed, one_token, free_token, of_ready, before, opens_before, round, square, braces, as_operand, with_sign, prefix, AllPrinted, all_separated, printed_name, printed_number}

-- pieces of one kind behind others
call_of : (x : Symbol) (w : List ℕ) → Ready stops x w → (qs : List Piece) → Printed qs → Printed (Token x w ∷ in_round qs)
unfolding lib.Utf8.encode
call_of x w is qs own = record {
  chain = λ t ps f c. one_token stops x w is t (in_round qs ++ ps) refl ((round qs own).chain t ps f c);
  opens = λ t. subst (Follows _) (back (append_assoc w (text_of (in_round qs)) t)) (is.opens (text_of (in_round qs) ++ t));
}

pub in_brackets : (qs rs : List Piece) → Printed qs → ((t : List ℕ) (ps : List Piece) → Stops t ps → Chain t ps → Stops t (rs ++ ps) × Chain t (rs ++ ps)) → Printed (qs ++ rs)
in_brackets qs rs left right = record {
  chain = λ t ps f c. let r = right t ps f c in before qs rs ps t left r.0 r.1;
  opens = λ t. opens_before qs rs t left;
}

pub argument : (rs : List Piece) → Printed rs → (t : List ℕ) (ps : List Piece) → Stops t ps → Chain t ps → Stops t (in_round rs ++ ps) × Chain t (in_round rs ++ ps)
unfolding lib.Utf8.encode
argument rs own t ps f c = (refl, (round rs own).chain t ps f c)

image_of : (rs : List Piece) → Printed rs → (t : List ℕ) (ps : List Piece) → Stops t ps → Chain t ps → Stops t (in_square rs ++ ps) × Chain t (in_square rs ++ ps)
unfolding lib.Utf8.encode
image_of rs own t ps f c = (refl, (square rs own).chain t ps f c)

converse_of : (t : List ℕ) (ps : List Piece) → Stops t ps → Chain t ps → Stops t ((Token sym.Converse (bytes "∼") ∷ []) ++ ps) × Chain t ((Token sym.Converse (bytes "∼") ∷ []) ++ ps)
unfolding lib.Utf8.encode
converse_of t ps f c = (refl, free_token sym.Converse (bytes "∼") ready-converse t ps c)

behind_dot : (rs : List Piece) → Printed rs → (t : List ℕ) (ps : List Piece) → Stops t ps → Chain t ps → Stops t ((dot_piece ∷ rs) ++ ps) × Chain t ((dot_piece ∷ rs) ++ ps)
unfolding lib.Utf8.encode
behind_dot rs own t ps f c = (refl, free_token sym.Dot (bytes "·") ready-dot t (rs ++ ps) (own.chain t ps f c))

typed_name : (n : List ℕ) → is_name n ≡ true → (qs : List Piece) → Printed qs → Printed (word_piece n ∷ typing_piece ∷ qs)
unfolding lib.Utf8.encode
typed_name n is qs own = record {
  chain = λ t ps f c. (printed_name n is).chain t (typing_piece ∷ (qs ++ ps)) refl (free_token (sym.Infix lev.Typing rawop.OfType) (bytes "⦂") ready-typing t (qs ++ ps) (own.chain t ps f c));
  opens = λ t. opens_before (word_piece n ∷ []) (typing_piece ∷ qs) t (printed_name n is);
}

pub ready_spaced : (x : Symbol) (w : List ℕ) → Ready (λ c. true) x w → Ready is_space x w
ready_spaced x w is = record { fits = λ t f. is.fits t (everything t); plain = is.plain; opens = is.opens }
  where
    everything : (u : List ℕ) → Follows (λ c. true) u
    everything [] = tt
    everything (c ∷ u) = refl

with_bar : (qs rs : List Piece) → Printed qs → Printed rs → Printed (sign_between qs bar_piece rs)
with_bar qs rs left right = with_sign sym.Bar (bytes "∣") (ready_spaced sym.Bar (bytes "∣") ready-bar) qs rs left right

-- the shape's tree prints its names from the front of a list, and has as many
record IsPrintedPattern (shape : Shape) : Type 0 where
  qs : List Piece
  printed : Printed qs
  prints : (more : List (List Piece)) → pattern shape.tree (map declared shape.names ++ more) ≡ qs
  counts : pattern_name_count shape.tree ≡ length (map declared shape.names)

pair_printed : (b a : Shape) → IsPrintedPattern b → IsPrintedPattern a → IsPrintedPattern (joined_shape (Some b) a)
pair_printed b a left right = record {
  qs = sign_between (operand_pieces (b.tree, left.qs)) (Token (raw_class_of (rawop.Plain op.Maplet)) (raw_sign_of (rawop.Plain op.Maplet))) (operand_pieces (a.tree, right.qs));
  printed = with_sign _ _ (before_space (rawop.Plain op.Maplet) refl) _ _ (as_operand b.tree left.qs left.printed) (as_operand a.tree right.qs right.printed);
  prints = λ more.
      let all : List (List Piece) = map declared (b.names ++ a.names) ++ more in
      let names : all ≡ map declared b.names ++ (map declared a.names ++ more) = ap (λ ds. ds ++ more) (map_declared b.names a.names) ∙ append_assoc (map declared b.names) (map declared a.names) more in
      let first : pattern b.tree all ≡ left.qs = ap (pattern b.tree) names ∙ left.prints (map declared a.names ++ more) in
      let behind : drop (pattern_name_count b.tree) all ≡ map declared a.names ++ more = (λ i. drop (left.counts i) (names i)) ∙ drop-append_seam (map declared b.names) (map declared a.names ++ more) in
      let second : pattern a.tree (drop (pattern_name_count b.tree) all) ≡ right.qs = ap (pattern a.tree) behind ∙ right.prints more in
      pattern-pair (rawop.Plain op.Maplet) b.tree a.tree (place_of b.tree) all
      ∙ (λ i. sign_between (operand_pieces (b.tree, first i)) (Token (raw_class_of (rawop.Plain op.Maplet)) (raw_sign_of (rawop.Plain op.Maplet))) (operand_pieces (a.tree, second i)));
  counts = names_in-pair (rawop.Plain op.Maplet) b.tree a.tree (place_of b.tree) ∙ (λ i. left.counts i + right.counts i) ∙ back (length-append (map declared b.names) (map declared a.names))
      ∙ ap length (back (map_declared b.names a.names));
}

-- a node, by the class of its operator
node : (o : RawOp) (parts : List Raw) (p : ℕ) (x : Symbol) → raw_class_of o ≡ x → Printed (form x (Token (raw_class_of o) (raw_sign_of o)) (map with_pieces parts)) → Printed (pieces (raw.Node o parts p))
node o parts p x e is =
    subst Printed (ap (λ y. form y (Token (raw_class_of o) (raw_sign_of o)) (map with_pieces parts)) (back e) ∙ back (pieces-Node o parts p)) is

two_printed : (l : Level) (o : RawOp) (x : Symbol) → infix_of x ≡ Some (l, o) → raw_class_of o ≡ x → (a b : Raw) (p : ℕ) → Printed (pieces a) → Printed (pieces b) → Printed (pieces (raw.Node o (a ∷ b ∷ []) p))
two_printed l o x ix own a b p left right =
    let ready : Ready is_space (raw_class_of o) (raw_sign_of o) = before_space o (ap is_infix own ∙ infix_is x l o ix) in
    let whole : Printed (sign_between (operand_pieces (a, pieces a)) (Token (raw_class_of o) (raw_sign_of o)) (operand_pieces (b, pieces b))) = with_sign (raw_class_of o) (raw_sign_of o) ready _ _ (as_operand a (pieces a) left) (as_operand b (pieces b) right) in
    node o (a ∷ b ∷ []) p x own (subst Printed (back (second_form x (infix_is x l o ix) (Token (raw_class_of o) (raw_sign_of o)) (with_pieces a) (with_pieces b))) whole)

applied_printed : (o : RawOp) (f a : Raw) (p : ℕ) → (o ≡ rawop.Plain op.Apply) ⊎ (o ≡ rawop.Plain op.Image) → Printed (pieces f) → Printed (pieces a) → Printed (pieces (raw.Node o (f ∷ a ∷ []) p))
applied_printed o f a p (inl e) left right =
    subst (λ q. Printed (pieces (raw.Node q (f ∷ a ∷ []) p))) (back e)
    (node (rawop.Plain op.Apply) (f ∷ a ∷ []) p (sym.Open bracket.Round) refl (in_brackets (operand_pieces (f, pieces f)) (in_round (pieces a)) (as_operand f (pieces f) left) (argument (pieces a) right)))
applied_printed o f a p (inr e) left right =
    subst (λ q. Printed (pieces (raw.Node q (f ∷ a ∷ []) p))) (back e)
    (node (rawop.Plain op.Image) (f ∷ a ∷ []) p (sym.Open bracket.Square) refl (in_brackets (operand_pieces (f, pieces f)) (in_square (pieces a)) (as_operand f (pieces f) left) (image_of (pieces a) right)))

open_ended : (x : Symbol) (w : List ℕ) → Ready (λ c. true) x w → (qs : List Piece) → Printed qs → Printed (Token x w ∷ (qs ++ []))
open_ended x w is qs own = subst (λ u. Printed (Token x w ∷ u)) (back (append-nil qs)) (prefix x w is qs own)

-- what stands behind the sign, in braces or as far as it reaches
plain_scope : (c : Binding) → takes_names c ≡ true → IsForm c → (names : List RawBound) (parts : List Raw) (p : ℕ) → Printed (separated_pieces (map declared names) ++ (dot_piece ∷ body_pieces (map with_pieces parts))) →
    Printed (pieces (raw.Bind (binder_of c) names parts p))
plain_scope binding.Set h is names parts p own = subst Printed (back (pieces-Bind (rawbinder.Plain binder.Comprehension) names parts p)) (braces _ own)
plain_scope (binding.Quantified binder.ForAll) h is names parts p own = subst Printed (back (pieces-Bind (rawbinder.Plain binder.ForAll) names parts p)) (open_ended _ _ ready-for_all _ own)
plain_scope (binding.Quantified binder.Exists) h is names parts p own = subst Printed (back (pieces-Bind (rawbinder.Plain binder.Exists) names parts p)) (open_ended _ _ ready-exists _ own)
plain_scope (binding.Quantified binder.Comprehension) h is names parts p own = cc
plain_scope (binding.Quantified binder.QuantifiedUnion) h is names parts p own = cc
plain_scope (binding.Quantified binder.QuantifiedIntersection) h is names parts p own = cc
plain_scope (binding.Reaching binder.QuantifiedUnion) h is names parts p own = subst Printed (back (pieces-Bind (rawbinder.Plain binder.QuantifiedUnion) names parts p)) (open_ended _ _ ready-union _ own)
plain_scope (binding.Reaching binder.QuantifiedIntersection) h is names parts p own = subst Printed (back (pieces-Bind (rawbinder.Plain binder.QuantifiedIntersection) names parts p)) (open_ended _ _ ready-intersection _ own)
plain_scope (binding.Reaching binder.ForAll) h is names parts p own = cc
plain_scope (binding.Reaching binder.Exists) h is names parts p own = cc
plain_scope (binding.Reaching binder.Comprehension) h is names parts p own = cc
plain_scope binding.Lambda h is names parts p own = cc

shape_scope : (c : Binding) → takes_shape c ≡ true → IsForm c → (parts : List Raw) (p : ℕ) → Printed (body_pieces (map with_pieces parts)) → Printed (pieces (raw.Bind (implicit_of c) [] parts p))
shape_scope binding.Set h is parts p own = subst Printed (back (pieces-Bind (rawbinder.Implicit binder.Comprehension) [] parts p)) (braces _ own)
shape_scope (binding.Reaching binder.QuantifiedUnion) h is parts p own = subst Printed (back (pieces-Bind (rawbinder.Implicit binder.QuantifiedUnion) [] parts p)) (open_ended _ _ ready-union _ own)
shape_scope (binding.Reaching binder.QuantifiedIntersection) h is parts p own = subst Printed (back (pieces-Bind (rawbinder.Implicit binder.QuantifiedIntersection) [] parts p)) (open_ended _ _ ready-intersection _ own)
shape_scope (binding.Reaching binder.ForAll) h is parts p own = cc
shape_scope (binding.Reaching binder.Exists) h is parts p own = cc
shape_scope (binding.Reaching binder.Comprehension) h is parts p own = cc
shape_scope (binding.Quantified b) h is parts p own = cc
shape_scope binding.Lambda h is parts p own = cc

-- parts behind others
abbrev PartsPrinted : List Raw → List Raw → List Item → Type 0
PartsPrinted before parts rest = (r : Raw) × (rs : List Raw) × (parts ≡ before ++ r ∷ rs) × AllByRecursion (λ x. Printed (pieces x)) (r ∷ rs) × AllProper rest

all_bare : (rs : List Raw) → AllByRecursion (λ x. Printed (pieces x)) rs → AllPrinted (bare_parts (map with_pieces rs))
all_bare [] h = tt
all_bare (r ∷ rs) h = (h.0, all_bare rs h.1)

separated_parts : (parts rest : List Raw) (s : List Item) → PartsPrinted [] parts s → Printed (separated_pieces (bare_parts (map with_pieces parts)))
separated_parts parts rest s h = subst (λ ps. Printed (separated_pieces (bare_parts (map with_pieces ps)))) (back h.2) (all_separated (pieces h.0) _ h.3.0 (all_bare h.1 h.3.1))

abbrev NamesPrinted : List RawBound → List RawBound → List Item → Type 0
NamesPrinted before names rest = (b : RawBound) × (bs : List RawBound) × (names ≡ before ++ b ∷ bs) × AllByRecursion (λ x. Printed (declared x)) (b ∷ bs) × AllProper rest

all_declared : (bs : List RawBound) → AllByRecursion (λ x. Printed (declared x)) bs → AllPrinted (map declared bs)
all_declared [] h = tt
all_declared (b ∷ bs) h = (h.0, all_declared bs h.1)

abbrev BodyPrinted : List Raw → List Raw → List Item → Type 0
BodyPrinted before parts rest = (new : List Raw) × (parts ≡ before ++ new) × Printed (body_pieces (map with_pieces new)) × AllProper rest

-- the part of a type that stands before ⦂
abbrev IsPrintedSide : Option Raw → Type 0
IsPrintedSide None = Unit {0}
IsPrintedSide (Some a) = Printed (pieces a)

abbrev IsPrintedStart : Option Shape → Type 0
IsPrintedStart None = Unit {0}
IsPrintedStart (Some b) = IsPrintedPattern b

with_type : (before : Option Raw) (t : Raw) → IsPrintedSide before → Printed (pieces t) → Printed (pieces (type_with before t))
with_type None t h own = own
with_type (Some a) t h own = two_printed lev.Typing rawop.OfType (sym.Infix lev.Typing rawop.OfType) refl refl a t (place_of a) h own

with_start : (before : Option Shape) (a : Shape) → IsPrintedStart before → IsPrintedPattern a → IsPrintedPattern (joined_shape before a)
with_start None a h own = own
with_start (Some b) a h own = pair_printed b a h own

lone_printed : (n : List ℕ) (p : ℕ) (t : Option Raw) → Printed (declared (bound n p t)) → IsPrintedPattern (lone n p t)
lone_printed n p t own = record { qs = declared (bound n p t); printed = own; prints = λ more. pattern-Name n p (declared (bound n p t) ∷ more); counts = names_in-Name n p }

module _ (limit : Option ℕ) where
  mutual
    pub reads : {g : Grade} {s rest : List Item} {t : Raw} → Reads limit g s t rest → AllProper s → Printed (pieces t) × AllProper rest
    reads (a_name {n = n} {p = p} is) all = (subst Printed (back (pieces-Name n p)) (printed_name n is), all.1)
    reads (a_number {n = n} {p = p}) all =
        (subst Printed (back (pieces-Int n p)) (subst (λ k. Printed (Token (sym.Number k) (signed_decimal k) ∷ [])) (back all.0.1) (printed_number all.0.0 all.0.2)), all.1)
    reads (a_truth {o = o} {p = p}) all = (node (rawop.Plain o) [] p (sym.Truth o) all.0 (of_ready _ _ (before_stop (rawop.Plain o) (ap is_wordy all.0))), all.1)
    reads (a_constant {o = o} {p = p}) all = (node (rawop.Plain o) [] p (sym.Constant o) all.0 (of_ready _ _ (before_stop (rawop.Plain o) (ap is_wordy all.0))), all.1)
    reads (prefixed {q = pre.Not} {p = p} {t = t} px r f e k) all =
        let own = reads r all.1 in (node (rawop.Plain op.Not) (t ∷ []) p sym.Not refl (prefix _ _ ready-not _ (as_operand t (pieces t) own.0)), own.1)
    reads (prefixed {q = pre.Minus} {p = p} {t = t} px r f e k) all =
        let own = reads r all.1 in (node (rawop.Plain op.Negate) (t ∷ []) p sym.Minus refl (prefix _ _ ready-minus _ (as_operand t (pieces t) own.0)), own.1)
    reads (two_sides {l = l} {o = o} {x = x} {a = a} {b = b} ra ix tl rb f e k) all =
        let left = reads ra all in
        let right = reads rb left.1.1 in
        (two_printed l o x ix (own_symbol x l o ix left.1.0) a b (place_of a) left.0 right.0, right.1)
    reads (in_parentheses r k) all = let own = reads r all.1 in (own.0, own.1.1)
    reads (called {c = c} {o = o} {p = p} {parts = parts} ps k) all =
        let own = parts_printed ps all.1.1 in
        (node o parts p (sym.Call c o) all.0 (call_of _ _ (before_stop o (ap is_wordy all.0)) _ (separated_parts parts [] _ own)), own.4)
    reads (applied {b = b} {o = o} {x = x} {f = f} {a = a} rf sx sf ra fe) all =
        let left = reads rf all in
        let right = reads ra left.1.1 in
        (applied_printed o f a (place_of f) (suffix_symbol x b o sx) left.0 right.0, right.1.1)
    reads (converted {f = f} rf sf) all =
        let own = reads rf all in
        (node (rawop.Plain op.Converse) (f ∷ []) (place_of f) sym.Converse refl (in_brackets (operand_pieces (f, pieces f)) _ (as_operand f (pieces f) own.0) converse_of), own.1.1)
    reads (set_by_members {p = p} {members = members} ox ps) all =
        let own = parts_printed ps all.1 in
        (node (rawop.Plain op.SetExtension) members p (sym.Open bracket.Brace) refl (braces _ (separated_parts members [] _ own)), own.4)
    reads (by_names {c = c} {x = x} {p = p} {names = names} {parts = parts} ox tn ds bd k) all =
        let declared_names = names_printed ds all.1 in
        let inside = body_printed bd declared_names.4 in
        let names_own : Printed (separated_pieces (map declared names)) = subst (λ bs. Printed (separated_pieces (map declared bs))) (back declared_names.2) (all_separated _ _ declared_names.3.0 (all_declared declared_names.1 declared_names.3.1)) in
        let body_own : Printed (body_pieces (map with_pieces parts)) = subst (λ ps. Printed (body_pieces (map with_pieces ps))) (back inside.1) inside.2 in
        (plain_scope c tn (form_symbol x c ox all.0) names parts p (in_brackets (separated_pieces (map declared names)) (dot_piece ∷ body_pieces (map with_pieces parts)) names_own (behind_dot _ body_own)), inside.3)
    reads (by_shape {c = c} {x = x} {p = p} {e = e} {t = t} ox ts re fe lp k) all =
        let first = reads re all.1 in
        let last = last_printed lp first.1.1 in
        (shape_scope c ts (form_symbol x c ox all.0) (e ∷ t ∷ []) p (with_bar (pieces e) (pieces t) first.0 last.0), last.1)
    reads (lambda {p = p} {shape = shape} {parts = parts} pt bd) all =
        let names = pattern_printed pt all.1 tt in
        let inside = body_printed bd names.1.1 in
        let taken : pattern shape.tree (map declared shape.names) ≡ names.0.qs = ap (pattern shape.tree) (back (append-nil (map declared shape.names))) ∙ names.0.prints [] in
        let own : Printed (names.0.qs ++ (dot_piece ∷ body_pieces (map with_pieces inside.0))) = in_brackets names.0.qs _ names.0.printed (behind_dot _ inside.2) in
        let whole : Printed (printing.lambda_pieces (map declared shape.names) (map with_pieces (shape.tree ∷ inside.0))) = subst (λ q. Printed (q ++ (dot_piece ∷ body_pieces (map with_pieces inside.0)))) (back taken) own in
        let all_parts : Printed (printing.lambda_pieces (map declared shape.names) (map with_pieces parts)) = subst (λ ps. Printed (printing.lambda_pieces (map declared shape.names) (map with_pieces ps))) (back inside.1) whole in
        (subst Printed (back (pieces-Bind rawbinder.Lambda shape.names parts p)) (open_ended _ _ ready-lambda _ all_parts), inside.3)

    parts_printed : {h : Hole} {many : Option ℕ} {b : Bracket} {before parts : List Raw} {s rest : List Item} → Parts limit h many b before s parts rest → AllProper s → PartsPrinted before parts rest
    parts_printed (last_one {t = t} r f) all = let own = reads r all in (t, [], refl, (own.0, tt), own.1.1)
    parts_printed (next_one {before = before} {t = t} room r f more) all =
        let own = reads r all in
        let later = parts_printed more own.1.1 in
        (t, later.0 ∷ later.1, later.2 ∙ append_assoc before (t ∷ []) (later.0 ∷ later.1), (own.0, later.3), later.4)

    type_printed : {before : Option Raw} {s rest : List Item} {t : Raw} → TypeOf limit before s t rest → AllProper s → IsPrintedSide before → Printed (pieces t) × AllProper rest
    type_printed (last_side {before = before} {t = t} r f) all h = let own = reads r all in (with_type before t h own.0, own.1)
    type_printed (first_side r f more) all h = let own = reads r all in type_printed more own.1.1 own.0

    bound_printed : {s rest : List Item} {b : RawBound} → Bound limit s b rest → AllProper s → Printed (declared b) × AllProper rest
    bound_printed (bare {n = n} is) all = (printed_name n is, all.1)
    bound_printed (of_type {n = n} {t = t} is ty) all = let own = type_printed ty all.1.1 tt in (typed_name n is _ (as_operand t (pieces t) own.0), own.1)

    names_printed : {before names : List RawBound} {s rest : List Item} → Declares limit before s names rest → AllProper s → NamesPrinted before names rest
    names_printed (last_name {b = b} one) all = let own = bound_printed one all in (b, [], refl, (own.0, tt), own.1.1)
    names_printed (next_name {before = before} {b = b} one more) all =
        let own = bound_printed one all in
        let later = names_printed more own.1.1 in
        (b, later.0 ∷ later.1, later.2 ∙ append_assoc before (b ∷ []) (later.0 ∷ later.1), (own.0, later.3), later.4)

    body_printed : {c : Binding} {before parts : List Raw} {s rest : List Item} → BinderBody limit c before s parts rest → AllProper s → BodyPrinted before parts rest
    body_printed (a_predicate {t = t} is lp) all = let own = last_printed lp all in (t ∷ [], refl, own.0, own.1)
    body_printed (a_value {before = before} {t = t} {e = e} is r f lp) all =
        let first = reads r all in
        let last = last_printed lp first.1.1 in
        (t ∷ e ∷ [], append_assoc before (t ∷ []) (e ∷ []), with_bar (pieces t) (pieces e) first.0 last.0, last.1)

    last_printed : {c : Binding} {h : Hole} {s rest : List Item} {t : Raw} → LastPart limit c h s t rest → AllProper s → Printed (pieces t) × AllProper rest
    last_printed (up_to_brace is r f) all = let own = reads r all in (own.0, own.1.1)
    last_printed (reaching is r f e) all = reads r all

    pattern_printed : {before : Option Shape} {s rest : List Item} {shape : Shape} → Pattern limit before s shape rest → AllProper s → IsPrintedStart before → IsPrintedPattern shape × AllProper rest
    pattern_printed (last_atom {before = before} {a = a} one) all h = let own = atom_printed one all in (with_start before a h own.0, own.1)
    pattern_printed (next_atom {before = before} {a = a} one more) all h =
        let own = atom_printed one all in pattern_printed more own.1.1 (with_start before a h own.0)

    atom_printed : {s rest : List Item} {shape : Shape} → Atom limit s shape rest → AllProper s → IsPrintedPattern shape × AllProper rest
    atom_printed (bare_atom {n = n} {p = p} is) all = (lone_printed n p None (printed_name n is), all.1)
    atom_printed (typed_atom {n = n} {p = p} {t = t} is r f e) all =
        let own = reads r all.1.1 in (lone_printed n p (Some t) (typed_name n is _ (as_operand t (pieces t) own.0)), own.1)
    atom_printed (grouped_atom pt) all = let own = pattern_printed pt all.1 tt in (own.0, own.1.1)
