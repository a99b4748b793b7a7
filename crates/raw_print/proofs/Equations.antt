-- The pieces of a formula, one equation for each variant, and the text of pieces that stand one behind another.
use Rattle.std.proofs.Common.{◌≡◌, ◌∙◌, sym as back, ap, ℕ, ℤ, List, [], ◌∷◌, ◌++◌, map, append_assoc, Option, Some, None, refl}
use Rattle.std.proofs.lemmas.List.{append-nil}
use Rattle.std.specs.Fmt.{signed_decimal}
use Rattle.std.specs.Option.{option_map}
use Rattle.formula_core.specs.declared.raw.RawOp.{RawOp}
use Rattle.formula_core.specs.declared.raw.RawBinder.{RawBinder}
use Rattle.formula_core.specs.declared.raw.RawBound.{RawBound}
use Rattle.formula_core.specs.declared.raw.Raw.{Raw}
use Rattle.formula_core.specs.declared.raw.Raw.TheOpen.{RawBound-F, Int as IntF, Name as NameF, Node as NodeF, Bind as BindF}
use Rattle.formula_core.specs.declared.raw.Raw.TheVariants as raw
use Rattle.formula_core.specs.declared.raw.Raw.TheViews.{roll-out-RawBound, rolls-Int, rolls-Name, rolls-Node, rolls-Bind}
use Rattle.formula_core.specs.declared.raw.Raw.TheFolds.{fold-roll-Raw, para-roll-Raw, para-RawBound, para-roll-RawBound, map-RawBound}
use Rattle.math_grammar.specs.declared.symbols.Symbol.TheVariants as sym
use Rattle.token_text.specs.Pieces.{Piece, Token, word_piece}
use Rattle.token_text.proofs.Pieces.{text-append}
use Rattle.raw_print.specs.Printing.{names_in_parts, names_in_step, pattern_name_count, PatternPrinter, first_name, pattern_of_parts, pattern_step, pattern, PartWithPieces, pieces_step, declaration_step, declaration, pieces, node_pieces, bind_pieces}
use Rattle.raw_print.specs.Private.{with_pattern, with_pieces, declared}

pub pieces-Int : (n : ℤ) (place : ℕ) → pieces (raw.Int n place) ≡ Token (sym.Number n) (signed_decimal n) ∷ []
pieces-Int n place = ap pieces (back (rolls-Int n place)) ∙ para-roll-Raw (List Piece) (List Piece) pieces_step declaration_step (IntF n place)

pub pieces-Name : (x : List ℕ) (place : ℕ) → pieces (raw.Name x place) ≡ word_piece x ∷ []
pieces-Name x place = ap pieces (back (rolls-Name x place)) ∙ para-roll-Raw (List Piece) (List Piece) pieces_step declaration_step (NameF x place)

pub pieces-Node : (o : RawOp) (parts : List Raw) (place : ℕ) → pieces (raw.Node o parts place) ≡ node_pieces o (map with_pieces parts)
pieces-Node o parts place = ap pieces (back (rolls-Node o parts place)) ∙ para-roll-Raw (List Piece) (List Piece) pieces_step declaration_step (NodeF o parts place)

abbrev layer : List ℕ → Option Raw → ℕ → RawBound-F Raw RawBound
layer x t place = record { name = x; ty = t; place = place }

of_layer : (x : List ℕ) (t : Option Raw) (place : ℕ)
    → declaration_step (map-RawBound Raw RawBound PartWithPieces (RawBound × List Piece) (λ y. (y, pieces y)) (λ y. (y, para-RawBound (List Piece) (List Piece) pieces_step declaration_step y)) (layer x t place)) ≡ declaration x (option_map with_pieces t)
of_layer x None place = refl
of_layer x (Some t) place = refl

of_bound : (b : RawBound) → para-RawBound (List Piece) (List Piece) pieces_step declaration_step b ≡ declared b
of_bound b =
    ap (para-RawBound (List Piece) (List Piece) pieces_step declaration_step) (back (roll-out-RawBound b))
    ∙ para-roll-RawBound (List Piece) (List Piece) pieces_step declaration_step (layer b.name b.ty b.place) ∙ of_layer b.name b.ty b.place

of_names : (names : List RawBound)
    → map {A = RawBound-F Raw (Unit {0}) × List Piece} (λ b. b.1) (map (λ y. (y, para-RawBound (List Piece) (List Piece) pieces_step declaration_step y)) names) ≡ map declared names
of_names [] = refl
of_names (b ∷ bs) = λ i. of_bound b i ∷ of_names bs i

pub pieces-Bind : (b : RawBinder) (names : List RawBound) (parts : List Raw) (place : ℕ) → pieces (raw.Bind b names parts place) ≡ bind_pieces b (map declared names) (map with_pieces parts)
pieces-Bind b names parts place =
    ap pieces (back (rolls-Bind b names parts place)) ∙ para-roll-Raw (List Piece) (List Piece) pieces_step declaration_step (BindF b names parts place)
    ∙ ap (λ ns. bind_pieces b ns (map with_pieces parts)) (of_names names)

abbrev no_names : RawBound-F ℕ ℕ → ℕ
no_names b = 0

pub names_in-Int : (n : ℤ) (place : ℕ) → pattern_name_count (raw.Int n place) ≡ 0
names_in-Int n place = ap pattern_name_count (back (rolls-Int n place)) ∙ fold-roll-Raw ℕ ℕ names_in_step no_names (IntF n place)

pub names_in-Name : (x : List ℕ) (place : ℕ) → pattern_name_count (raw.Name x place) ≡ 1
names_in-Name x place = ap pattern_name_count (back (rolls-Name x place)) ∙ fold-roll-Raw ℕ ℕ names_in_step no_names (NameF x place)

pub names_in-Node : (o : RawOp) (parts : List Raw) (place : ℕ) → pattern_name_count (raw.Node o parts place) ≡ names_in_parts (map pattern_name_count parts)
names_in-Node o parts place = ap pattern_name_count (back (rolls-Node o parts place)) ∙ fold-roll-Raw ℕ ℕ names_in_step no_names (NodeF o parts place)

pub names_in-Bind : (b : RawBinder) (names : List RawBound) (parts : List Raw) (place : ℕ) → pattern_name_count (raw.Bind b names parts place) ≡ 0
names_in-Bind b names parts place = ap pattern_name_count (back (rolls-Bind b names parts place)) ∙ fold-roll-Raw ℕ ℕ names_in_step no_names (BindF b names parts place)

abbrev Bare : Type 0
Bare = RawBound-F (Raw × PatternPrinter) (RawBound-F Raw (Unit {0}) × Unit {0}) → Unit {0}

abbrev bare : Bare
bare b = tt

pub pattern-Int : (n : ℤ) (place : ℕ) (names : List (List Piece)) → pattern (raw.Int n place) names ≡ []
pattern-Int n place names = ap (λ r. pattern r names) (back (rolls-Int n place)) ∙ ap (λ (p : PatternPrinter). p names) (para-roll-Raw PatternPrinter (Unit {0}) pattern_step bare (IntF n place))

pub pattern-Name : (x : List ℕ) (place : ℕ) (names : List (List Piece)) → pattern (raw.Name x place) names ≡ first_name names
pattern-Name x place names = ap (λ r. pattern r names) (back (rolls-Name x place)) ∙ ap (λ (p : PatternPrinter). p names) (para-roll-Raw PatternPrinter (Unit {0}) pattern_step bare (NameF x place))

pub pattern-Node : (o : RawOp) (parts : List Raw) (place : ℕ) (names : List (List Piece)) → pattern (raw.Node o parts place) names ≡ pattern_of_parts (map with_pattern parts) names
pattern-Node o parts place names = ap (λ r. pattern r names) (back (rolls-Node o parts place)) ∙ ap (λ (p : PatternPrinter). p names) (para-roll-Raw PatternPrinter (Unit {0}) pattern_step bare (NodeF o parts place))

pub pattern-Bind : (b : RawBinder) (bound : List RawBound) (parts : List Raw) (place : ℕ) (names : List (List Piece)) → pattern (raw.Bind b bound parts place) names ≡ []
pattern-Bind b bound parts place names = ap (λ r. pattern r names) (back (rolls-Bind b bound parts place)) ∙ ap (λ (p : PatternPrinter). p names) (para-roll-Raw PatternPrinter (Unit {0}) pattern_step bare (BindF b bound parts place))

pub ruleset texts =
    (pieces-Int, pieces-Name, pieces-Node, pieces-Bind, names_in-Int, names_in-Name, names_in-Node, names_in-Bind, pattern-Int, pattern-Name, pattern-Node, pattern-Bind, text-append, append_assoc, append-nil)
