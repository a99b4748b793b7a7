-- The tokens of a formula's printed text spell it.
use Rattle.std.proofs.Common.{◌≡◌, ◌∙◌, sym as back, ap, subst, refl, ℕ, ℤ, zero, suc, ◌+◌, ◌-◌, ◌<◌, ◌≤◌, Bool, true, false, ◌&&◌, List, [], ◌∷◌, ◌++◌, length, map, reverse, arith, nat_lt, Option, Some, None}
use Rattle.std.specs.Prelude.{if◌then◌else◌, take, filter, cond, not, ◌^◌, bytes_eq}
use Rattle.std.specs.Map.{keys_of}
use Rattle.std.specs.Fmt.{signed_decimal}
use Rattle.std.specs.List.{AllByRecursion, slice_get, list_all, list_any}
use Rattle.std.specs.Option.{option_map_or}
use Rattle.std.proofs.lemmas.List.{length-map, append-nil, reverse-append, length-reverse, length-append}
use Rattle.formula_core.specs.Names.{is_name}
use Rattle.formula_core.specs.declared.ty.Ty.{Ty}
use Rattle.formula_core.specs.declared.ty.Ty.TheOpen.{Int as IntT}
use Rattle.formula_core.specs.declared.ty.Ty.TheVariants as ty
use Rattle.formula_core.specs.declared.ty.Ty.TheViews as of_type
use Rattle.formula_core.specs.declared.op.Op.{Op}
use Rattle.formula_core.specs.declared.op.Op.TheVariants as op
use Rattle.formula_core.specs.declared.op.Binder.{Binder}
use Rattle.formula_core.specs.declared.op.Binder.TheVariants as binder
use Rattle.formula_core.specs.declared.formula.Formula.{Formula, out-Formula}
use Rattle.formula_core.specs.declared.formula.Formula.TheOpen.{Formula-F, Int as IntF, Free as FreeF, Bound as BoundF, Node as NodeF, Bind as BindF}
use Rattle.formula_core.specs.declared.formula.Formula.TheVariants.{Int, Free, Bound, Node, Bind}
use Rattle.formula_core.specs.declared.formula.Formula.TheViews.{roll-Formula, rolls-Int, rolls-Free, rolls-Bound, rolls-Node, rolls-Bind, outs-Int, outs-Free, outs-Bound, outs-Node, outs-Bind}
use Rattle.formula_core.specs.declared.formula.Formula.TheFolds.{map-Formula}
use Rattle.formula_core.specs.declared.raw.RawOp.TheVariants as rawop
use Rattle.formula_core.specs.declared.raw.RawBinder.TheVariants as rawbinder
use Rattle.formula_core.specs.declared.raw.Raw.{Raw}
use Rattle.formula_core.specs.declared.raw.Raw.TheVariants as raw
use Rattle.formula_core.specs.declared.raw.Raw.TheViews.{outs-Int as raw_outs-Int, outs-Name as raw_outs-Name, outs-Bind as raw_outs-Bind}
use Rattle.formula_core.specs.Formulas.{joined}
use Rattle.formula_core.specs.Identifiers.{carriers, identifiers}
use Rattle.formula_core.specs.Rows.{row_of}
use Rattle.formula_core.specs.Schemes.{alpha, power, type_of_scheme, part_schemes, binder_scheme, IsSchemeInstance}
use Rattle.formula_core.specs.Sizes.{greatest}
use Rattle.formula_core.specs.TypeTable.{row_fits, binder_fits}
use Rattle.formula_core.specs.Types.{same_type, is_value_step, is_value_type}
use Rattle.formula_core.specs.Wellness.{type_of_step, type_of, may_be_bound, is_well_in, is_well}
use Rattle.formula_core.proofs.Equations.{formula_fold, type_fold, identifiers-Free, identifiers-Node, identifiers-Bind}
use Rattle.formula_core.proofs.Induction.{formula_induction}
use Rattle.formula_core.proofs.Schemes.{binder_fits_exactly}
use Rattle.formula_core.proofs.Types.{same_type_exact}
use Rattle.formula_core.proofs.Wellness.{well-Free, well-Bound, well-Node, well-Bind}
use Rattle.math_grammar.specs.declared.holes.Grade.{Grade}
use Rattle.math_grammar.specs.declared.holes.Grade.TheVariants as grade
use Rattle.math_grammar.specs.declared.holes.Hole.TheVariants as hole
use Rattle.math_grammar.specs.declared.levels.Binding.{Binding}
use Rattle.math_grammar.specs.declared.levels.Binding.TheVariants as binding
use Rattle.math_grammar.specs.declared.symbols.Symbol.{Symbol}
use Rattle.math_grammar.specs.declared.symbols.Symbol.TheVariants as sym
use Rattle.math_grammar.specs.Levels.{rank, fits, opens, takes_names, binding_grade, binder_of}
use Rattle.math_grammar.specs.Tokens.{Item}
use Rattle.math_grammar.specs.Grammar.{place_at, place_of, Reads, a_name, a_number, by_names, Declares, BinderBody, a_predicate, a_value, up_to_brace, reaching}
use Rattle.math_grammar.specs.Operators.{binder_sign_of, binder_class_of}
use Rattle.token_text.specs.Pieces.{Piece, Blank, Token, tokens_of, word_piece, close_brace_piece, dot_piece, bar_piece, not_piece, in_round, sign_between, separated_pieces}
use Rattle.token_text.proofs.Pieces.{tokens-behind, token_before}
use Rattle.formula_print.specs.Depths.{deepest}
use Rattle.formula_print.specs.Levels.{formula_level_at, formula_level}
use Rattle.formula_print.specs.Names.{bound_names, numbered_names}
use Rattle.formula_print.proofs.FreshNames.{fresh, AreFresh}
use Rattle.formula_print.proofs.NumberedNames.{numbered-is_name}
use Rattle.formula_print.specs.Printing.{name_at, printed_declarations, printed_binder, printed}
use Rattle.formula_print.specs.Private.{printed_parts}
use Rattle.formula_print.specs.Written.{denied_at, denied, declared_with_types, written_step, written, raw_of}
use Rattle.formula_print.proofs.Equations.{printed-Int, printed-Free, printed-Bound, printed-Node, printed-Bind, deepest-Node, deepest-Bind}
use Rattle.formula_print.proofs.NamedScopes.{all_left, all_right, all_at}
use Rattle.math_print.specs.Grades.{items_of_formula, IsSpelled}
use Rattle.math_print.proofs.Grades.{grade_at, grade_of, binder_grade}
use Rattle.formula_print.specs.Held.{HasNames, HasFewNames}
use Rattle.math_print.proofs.Tables.{Quiet, quiet, ends, zero_le, quieter, quiet_at}
use Rattle.math_print.proofs.Readings.{Whole}
use Rattle.math_print.proofs.Infixes.{IsRead}
use Rattle.math_print.proofs.TypeReadings.{IsTypeRead, AreTypesRead, AreNames, type_reads, declares, fits_value, fits_predicate}
use Rattle.math_print.proofs.Forms.{negated_form}
use Rattle.math_print.proofs.Nodes.{NodeRead, node_reads, values_at, value_truth}

first_true : (a b : Bool) → (a && b) ≡ true → a ≡ true
first_true true b h = refl
first_true false b h = cc

second_true : (a b : Bool) → (a && b) ≡ true → b ≡ true
second_true true b h = h
second_true false b h = cc

abbrev AreAllValues : List Ty → Type 0
AreAllValues bound = AllByRecursion (λ t. is_value_type t ≡ true) bound

value_of : (bound : List Ty) (i : ℕ) (t : Ty) → AreAllValues bound → slice_get bound i ≡ Some t → (is_value_type t ≡ true) × (i < length bound)
value_of [] i t all is = cc
value_of (u ∷ bound) zero t all is = let same : u ≡ t = cc in (ap is_value_type (back same) ∙ all.0, omega arith)
value_of (u ∷ bound) (suc i) t all is = let later : (is_value_type t ≡ true) × (i < length bound) = value_of bound i t all.1 is in (later.0, omega (arith, later.1))

all_append : (xs ys : List Ty) → AreAllValues xs → AreAllValues ys → AreAllValues (xs ++ ys)
all_append [] ys all others = others
all_append (x ∷ xs) ys all others = (all.0, all_append xs ys all.1 others)

all_reverse : (xs : List Ty) → AreAllValues xs → AreAllValues (reverse xs)
all_reverse [] all = tt
all_reverse (x ∷ xs) all = subst AreAllValues (back (reverse-append (x ∷ []) xs)) (all_append (reverse xs) (x ∷ []) (all_reverse xs all.1) (all.0, tt))

all_of : (xs : List Ty) → list_all is_value_type xs ≡ true → AreAllValues xs
all_of [] h = tt
all_of (x ∷ xs) h = (first_true (is_value_type x) (list_all is_value_type xs) h, all_of xs (second_true (is_value_type x) (list_all is_value_type xs) h))

may_be : (types : List Ty) → may_be_bound types ≡ true → list_all is_value_type types ≡ true
may_be [] h = cc
may_be (t ∷ types) h = h

bound_type : (o : Option Ty) (t : Ty) → option_map_or (λ u. same_type u t) o false ≡ true → o ≡ Some t
bound_type None t h = cc
bound_type (Some u) t h = ap Some (same_type_exact u t h)

-- all of these types are read
types_read : (types : List Ty) → AreAllValues types → AreNames (joined (map carriers types)) → AreTypesRead types
types_read [] values names = tt
types_read (t ∷ types) values names = (
  type_reads t values.0 (all_left (λ x. is_name x.0 ≡ true) (carriers t) (joined (map carriers types)) names),
  types_read types values.1 (all_right (λ x. is_name x.0 ≡ true) (carriers t) (joined (map carriers types)) names),
)

module _ (names : List (List ℕ)) (named : (i : ℕ) → i < length names → is_name (name_at names i) ≡ true) where
  -- one level
  record IsReadAt (x : Formula-F Formula) (plain_pieces denied_pieces : List Piece) (t : Raw) : Type 0 where
    pub sorted : nat_lt 3 (rank (grade_at x)) ≡ is_value_type (type_of_step x)
    pub starts : place_of t ≡ 0
    pub plain : Whole (quiet (formula_level_at x)) (grade_at x) plain_pieces t
    pub denied_too : is_value_type (type_of_step x) ≡ false → Whole 2 grade.Literal denied_pieces (denied t)

  to_read : (d : ℕ) (f : Formula) (x : Formula-F Formula) (s u : List Piece) (t : Raw) → out-Formula f ≡ x → printed names f false d ≡ s → printed names f true d ≡ u → written names f d ≡ t → IsReadAt x s u t → IsRead names d f
  to_read d f x s u t e es eu et r =
      let P : Formula-F Formula → List Piece → List Piece → Raw → Type 0 = λ x s u t. IsReadAt x s u t in
      let q : IsReadAt (out-Formula f) (printed names f false d) (printed names f true d) (written names f d)
      = subst (λ x. P x (printed names f false d) (printed names f true d) (written names f d)) (back e)
      (subst (λ s. P x s (printed names f true d) (written names f d)) (back es) (subst (λ u. P x s u (written names f d)) (back eu) (subst (λ t. P x s u t) (back et) r))) in
      record { sorted = q.sorted; starts = q.starts; plain = q.plain; denied_too = q.denied_too }

  written-at : (x : Formula-F Formula) (f : Formula) → roll-Formula x ≡ f → (d : ℕ) → written names f d ≡ written_step names (map-Formula Formula (ℕ → Raw) (written names) x) d
  written-at x f e d = ap (λ (w : ℕ → Raw). w d) (formula_fold (written_step names) x f e)

  abbrev IsBack : Formula → Type 0
  IsBack f = (bound : List Ty) → AreAllValues bound → length bound + deepest f ≤ length names → is_well_in f bound ≡ true → AreNames (identifiers f) → IsRead names (length bound) f

  atom : (x : Formula-F Formula) (s : List Piece) (t : Raw) → nat_lt 3 (rank (grade_at x)) ≡ true → is_value_type (type_of_step x) ≡ true → place_of t ≡ 0 → Whole (quiet (formula_level_at x)) (grade_at x) s t → IsReadAt x s s t
  atom x s t g v starts plain = record { sorted = g ∙ back v; starts = starts; plain = plain; denied_too = λ h. let never : true ≡ false = back v ∙ h in cc }

  at_int : (n : ℤ) → IsBack (Int n)
  at_int n bound values few well ids =
      to_read (length bound) (Int n) (IntF n) _ _ _ (outs-Int n) (printed-Int names n false (length bound)) (printed-Int names n true (length bound)) (written-at (IntF n) (Int n) (rolls-Int n) (length bound))
      (atom (IntF n) (Token (sym.Number n) (signed_decimal n) ∷ []) (raw.Int n 0) refl (type_fold is_value_step IntT ty.Int of_type.rolls-Int) (ap place_at (raw_outs-Int n 0)) (λ rest q. a_number))

  at_free : (x : List ℕ) (t : Ty) → IsBack (Free x t)
  at_free x t bound values few well ids =
      let name : is_name x ≡ true = (subst AreNames (identifiers-Free x t) ids).0 in
      to_read (length bound) (Free x t) (FreeF x t) _ _ _ (outs-Free x t) (printed-Free names x t false (length bound)) (printed-Free names x t true (length bound)) (written-at (FreeF x t) (Free x t) (rolls-Free x t) (length bound))
      (atom (FreeF x t) (word_piece x ∷ []) (raw.Name x 0) refl (back (well-Free x t bound) ∙ well) (ap place_at (raw_outs-Name x 0)) (λ rest q. a_name name))

  at_bound : (i : ℕ) (t : Ty) → IsBack (Bound i t)
  at_bound i t bound values few well ids =
      let is : slice_get bound i ≡ Some t = bound_type (slice_get bound i) t (back (well-Bound i t bound) ∙ well) in
      let there : (is_value_type t ≡ true) × (i < length bound) = value_of bound i t values is in
      let x : List ℕ = name_at names (length bound - 1 - i) in
      let name : is_name x ≡ true = named (length bound - 1 - i) (omega (arith, there.1, few)) in
      to_read (length bound) (Bound i t) (BoundF i t) _ _ _ (outs-Bound i t) (printed-Bound names i t false (length bound)) (printed-Bound names i t true (length bound)) (written-at (BoundF i t) (Bound i t) (rolls-Bound i t) (length bound))
      (atom (BoundF i t) (word_piece x ∷ []) (raw.Name x 0) refl there.0 (ap place_at (raw_outs-Name x 0)) (λ rest q. a_name name))

  each : (bound : List Ty) → AreAllValues bound → (fs : List Formula) → AllByRecursion IsBack fs → length bound + greatest (map deepest fs) ≤ length names → list_all (λ f. is_well_in f bound) fs ≡ true
      → AreNames (joined (map identifiers fs)) → AllByRecursion (IsRead names (length bound)) fs
  each bound values [] all few well ids = tt
  each bound values (f ∷ fs) all few well ids = (
    all.0 bound values (omega arith) (first_true (is_well_in f bound) (list_all (λ f. is_well_in f bound) fs) well) (all_left (λ x. is_name x.0 ≡ true) (identifiers f) (joined (map identifiers fs)) ids),
    each bound values fs all.1 (omega arith) (second_true (is_well_in f bound) (list_all (λ f. is_well_in f bound) fs) well) (all_right (λ x. is_name x.0 ≡ true) (identifiers f) (joined (map identifiers fs)) ids),
  )

  at_node : (o : Op) (parts : List Formula) (t : Ty) → AllByRecursion IsBack parts → IsBack (Node o parts t)
  at_node o parts t all bound values few well ids =
      let tests : (list_all (λ f. is_well_in f bound) parts && row_fits (row_of o) (map type_of parts) t) ≡ true = back (well-Node o parts t bound) ∙ well in
      let split : AreNames (joined (map identifiers parts) ++ carriers t) = subst AreNames (identifiers-Node o parts t) ids in
      let inner : AllByRecursion (IsRead names (length bound)) parts
      = each bound values parts all (omega (arith, deepest-Node o parts t, few)) (first_true _ (row_fits (row_of o) (map type_of parts) t) tests) (all_left (λ x. is_name x.0 ≡ true) (joined (map identifiers parts)) (carriers t) split) in
      let r : NodeRead names (length bound) o parts t
      = node_reads names (length bound) o parts t inner (λ v. type_reads t v (all_right (λ x. is_name x.0 ≡ true) (joined (map identifiers parts)) (carriers t) split)) (second_true (list_all (λ f. is_well_in f bound) parts) _ tests) in
      to_read (length bound) (Node o parts t) (NodeF o parts t) _ _ _ (outs-Node o parts t) (printed-Node names o parts t false (length bound)) (printed-Node names o parts t true (length bound)) (written-at (NodeF o parts t) (Node o parts t) (rolls-Node o parts t) (length bound))
      (record { sorted = r.sorted; starts = r.starts; plain = r.plain; denied_too = r.denied_too })

  module _ (d : ℕ) where
    names_form : (c : Binding) (x : Symbol) (w : List ℕ) → opens x ≡ Some c → takes_names c ≡ true → (t : Ty) (types : List Ty) → IsTypeRead t → AreTypesRead types → d + suc (length types) ≤ length names → (s : List Piece) (rest : List Item) (parts : List Raw)
        → BinderBody None c [] (tokens_of s ++ rest) parts rest
        → Reads None (binding_grade c) (tokens_of (Token x w ∷ (separated_pieces (printed_declarations names (t ∷ types) d) ++ (dot_piece ∷ s))) ++ rest) (raw.Bind (binder_of c) (declared_with_types names (t ∷ types) d) parts 0) rest
    names_form c x w is takes t types read all few s rest parts body =
        let l : List Piece = separated_pieces (printed_declarations names (t ∷ types) d) in
        let heads : Declares None [] (tokens_of l ++ token_before dot_piece (tokens_of s ++ rest)) (declared_with_types names (t ∷ types) d) (tokens_of s ++ rest) = declares names named [] t types d read all few (tokens_of s ++ rest) in
        let P : List Item → Type 0 = λ m. Reads None (binding_grade c) (token_before (Token x w) m) (raw.Bind (binder_of c) (declared_with_types names (t ∷ types) d) parts 0) rest in
        subst P (back (tokens-behind l (dot_piece ∷ s) rest)) (by_names is takes heads body refl)

    abbrev body_pieces : Formula → ℕ → List Piece
    body_pieces p deep = printed names p false deep

    -- a predicate, as far as it reaches
    predicate_body : (b : Binder) (deep : ℕ) (p : Formula) → IsRead names deep p → is_value_type (type_of p) ≡ false → (rest : List Item) → Quiet 0 rest → BinderBody None (binding.Quantified b) [] (tokens_of (body_pieces p deep ++ []) ++ rest) (written names p deep ∷ []) rest
    predicate_body b deep p rp v rest q =
        let g : nat_lt 3 (rank (grade_of p)) ≡ false = rp.sorted ∙ v in
        let P : List Piece → Type 0 = λ l. BinderBody None (binding.Quantified b) [] (tokens_of l ++ rest) (written names p deep ∷ []) rest in
        subst P (back (append-nil (body_pieces p deep)))
        (a_predicate refl (reaching refl (rp.plain rest (quieter 0 (quiet (formula_level p)) rest (zero_le (quiet (formula_level p))) q)) (fits_predicate (grade_of p) g) (ends hole.Predicate (grade_of p) 0 rest refl q)))

    -- a predicate, a bar and an expression up to the brace
    set_body : (deep : ℕ) (p e : Formula) → IsRead names deep p → IsRead names deep e → is_value_type (type_of p) ≡ false → is_value_type (type_of e) ≡ true → (rest : List Item)
        → BinderBody None binding.Set [] (tokens_of (sign_between (body_pieces p deep) bar_piece (body_pieces e deep) ++ (close_brace_piece ∷ [])) ++ rest) (written names p deep ∷ written names e deep ∷ []) rest
    set_body deep p e rp re v u rest =
        let P : List Item → Type 0 = λ l. BinderBody None binding.Set [] l (written names p deep ∷ written names e deep ∷ []) rest in
        let after : List Item = token_before close_brace_piece rest in
        let whole : P (tokens_of (body_pieces p deep) ++ token_before bar_piece (tokens_of (body_pieces e deep) ++ after))
        = a_value refl (rp.plain (token_before bar_piece (tokens_of (body_pieces e deep) ++ after)) (zero_le (quiet (formula_level p)))) (fits_predicate (grade_of p) (rp.sorted ∙ v))
        (up_to_brace refl (re.plain after (zero_le (quiet (formula_level e)))) (fits_value (grade_of e) (re.sorted ∙ u))) in
        subst P
        (back (tokens-behind (body_pieces p deep) (Blank ∷ bar_piece ∷ Blank ∷ body_pieces e deep) after)
        ∙ back (tokens-behind (sign_between (body_pieces p deep) bar_piece (body_pieces e deep)) (close_brace_piece ∷ []) rest)) whole

    -- or as far as it reaches
    reaching_body : (b : Binder) (deep : ℕ) (p e : Formula) → IsRead names deep p → IsRead names deep e → is_value_type (type_of p) ≡ false → is_value_type (type_of e) ≡ true → (rest : List Item) → Quiet 3 rest
        → BinderBody None (binding.Reaching b) [] (tokens_of (sign_between (body_pieces p deep) bar_piece (body_pieces e deep) ++ []) ++ rest) (written names p deep ∷ written names e deep ∷ []) rest
    reaching_body b deep p e rp re v u rest q =
        let P : List Item → Type 0 = λ l. BinderBody None (binding.Reaching b) [] l (written names p deep ∷ written names e deep ∷ []) rest in
        let g : nat_lt 3 (rank (grade_of e)) ≡ true = re.sorted ∙ u in
        let whole : P (tokens_of (body_pieces p deep) ++ token_before bar_piece (tokens_of (body_pieces e deep) ++ rest))
        = a_value refl (rp.plain (token_before bar_piece (tokens_of (body_pieces e deep) ++ rest)) (zero_le (quiet (formula_level p)))) (fits_predicate (grade_of p) (rp.sorted ∙ v))
        (reaching refl (re.plain rest (quieter 3 (quiet (formula_level e)) rest (quiet_at (out-Formula e) g) q)) (fits_value (grade_of e) g) (ends hole.Expression (grade_of e) 3 rest refl q)) in
        subst P
        (back (tokens-behind (body_pieces p deep) (Blank ∷ bar_piece ∷ Blank ∷ body_pieces e deep) rest)
        ∙ ap (λ l. tokens_of l ++ rest) (back (append-nil (sign_between (body_pieces p deep) bar_piece (body_pieces e deep))))) whole

    abbrev bind_tree : Binder → List Ty → List Formula → Raw
    bind_tree b types parts = raw.Bind (rawbinder.Plain b) (declared_with_types names types d) (map (λ (p : ℕ → Raw). p (d + length types)) (map (written names) parts)) 0

    abbrev bind_plain : Binder → List Ty → List Formula → List Piece
    bind_plain b types parts = printed_binder names b types (printed_parts names parts) d

    abbrev bind_denied : Binder → List Ty → List Formula → List Piece
    bind_denied b types parts = not_piece ∷ in_round (bind_plain b types parts)

    bind_starts : (b : Binder) (types : List Ty) (parts : List Formula) → place_of (bind_tree b types parts) ≡ 0
    bind_starts b types parts = ap place_at (raw_outs-Bind (rawbinder.Plain b) (declared_with_types names types d) (map (λ (p : ℕ → Raw). p (d + length types)) (map (written names) parts)) 0)

    bind_denies : (b : Binder) (types : List Ty) (parts : List Formula) → denied (bind_tree b types parts) ≡ raw.Node (rawop.Plain op.Not) (bind_tree b types parts ∷ []) 0
    bind_denies b types parts = ap (denied_at (bind_tree b types parts)) (raw_outs-Bind (rawbinder.Plain b) (declared_with_types names types d) (map (λ (p : ℕ → Raw). p (d + length types)) (map (written names) parts)) 0)

    abbrev BindRead : Binder → List Ty → Ty → List Formula → Type 0
    BindRead b types t parts = IsReadAt (BindF b types parts t) (bind_plain b types parts) (bind_denied b types parts) (bind_tree b types parts)

    quantified : (b : Binder) (types : List Ty) (parts : List Formula) (t : Ty) → nat_lt 3 (rank (binder_grade b)) ≡ false → t ≡ ty.Truth → Whole (quiet (formula_level_at (BindF b types parts t))) (binder_grade b) (bind_plain b types parts) (bind_tree b types parts)
        → BindRead b types t parts
    quantified b types parts t g e plain = record {
      sorted = g ∙ back (ap is_value_type e ∙ value_truth);
      starts = bind_starts b types parts;
      plain = plain;
      denied_too = λ h. let P : Raw → Type 0 = λ r. Whole 2 grade.Literal (bind_denied b types parts) r in
          subst P (back (bind_denies b types parts)) (negated_form (quiet (formula_level_at (BindF b types parts t))) (binder_grade b) (bind_plain b types parts) (bind_tree b types parts) plain g);
    }

    valued : (b : Binder) (types : List Ty) (parts : List Formula) (t : Ty) → nat_lt 3 (rank (binder_grade b)) ≡ true → is_value_type t ≡ true → Whole (quiet (formula_level_at (BindF b types parts t))) (binder_grade b) (bind_plain b types parts) (bind_tree b types parts)
        → BindRead b types t parts
    valued b types parts t g v plain = record { sorted = g ∙ back v; starts = bind_starts b types parts; plain = plain; denied_too = λ h. let never : true ≡ false = back v ∙ h in cc }

    with_predicate : (P : List Formula → Type 0) (deep : ℕ) (parts : List Formula) → map type_of parts ≡ ty.Truth ∷ [] → AllByRecursion (IsRead names deep) parts → ((p : Formula) → IsRead names deep p → is_value_type (type_of p) ≡ false → P (p ∷ [])) → P parts
    with_predicate P deep [] e all go = cc
    with_predicate P deep (p ∷ []) e all go = let e' : type_of p ∷ [] ≡ ty.Truth ∷ [] = e in let one : type_of p ≡ ty.Truth = cc in go p all.0 (ap is_value_type one ∙ value_truth)
    with_predicate P deep (p ∷ q ∷ more) e all go = let e' : type_of p ∷ type_of q ∷ map type_of more ≡ ty.Truth ∷ [] = e in cc

    with_value : (P : List Formula → Type 0) (deep : ℕ) (u : Ty) → is_value_type u ≡ true → (parts : List Formula) → map type_of parts ≡ ty.Truth ∷ u ∷ [] → AllByRecursion (IsRead names deep) parts
        → ((p e : Formula) → IsRead names deep p → IsRead names deep e → is_value_type (type_of p) ≡ false → is_value_type (type_of e) ≡ true → P (p ∷ e ∷ [])) → P parts
    with_value P deep u v [] h all go = cc
    with_value P deep u v (p ∷ []) h all go = let h' : type_of p ∷ [] ≡ ty.Truth ∷ u ∷ [] = h in cc
    with_value P deep u v (p ∷ e ∷ []) h all go =
        let h' : type_of p ∷ type_of e ∷ [] ≡ ty.Truth ∷ u ∷ [] = h in
        let one : type_of p ≡ ty.Truth = cc in
        let two : type_of e ≡ u = cc in
        go p e all.0 all.1.0 (ap is_value_type one ∙ value_truth) (ap is_value_type two ∙ v)
    with_value P deep u v (p ∷ e ∷ f ∷ more) h all go = let h' : type_of p ∷ type_of e ∷ type_of f ∷ map type_of more ≡ ty.Truth ∷ u ∷ [] = h in cc

    bind_reads : (b : Binder) (t0 : Ty) (types : List Ty) (parts : List Formula) (t : Ty) → IsTypeRead t0 → AreTypesRead types → d + suc (length types) ≤ length names → IsSchemeInstance (part_schemes b) (binder_scheme b) (map type_of parts) t
        → AllByRecursion (IsRead names (d + length (t0 ∷ types))) parts → BindRead b (t0 ∷ types) t parts
    bind_reads binder.ForAll t0 types parts t read all few is inner = with_predicate (BindRead binder.ForAll (t0 ∷ types) t) (d + length (t0 ∷ types)) parts is.operands_are inner
        (λ p rp v.
        quantified binder.ForAll (t0 ∷ types) (p ∷ []) t refl is.whole_is
        (λ rest q. names_form (binding.Quantified binder.ForAll) (binder_class_of binder.ForAll) (binder_sign_of binder.ForAll) refl refl t0 types read all few (body_pieces p (d + length (t0 ∷ types)) ++ []) rest
        (written names p (d + length (t0 ∷ types)) ∷ []) (predicate_body binder.ForAll (d + length (t0 ∷ types)) p rp v rest q)))
    bind_reads binder.Exists t0 types parts t read all few is inner = with_predicate (BindRead binder.Exists (t0 ∷ types) t) (d + length (t0 ∷ types)) parts is.operands_are inner
        (λ p rp v.
        quantified binder.Exists (t0 ∷ types) (p ∷ []) t refl is.whole_is
        (λ rest q. names_form (binding.Quantified binder.Exists) (binder_class_of binder.Exists) (binder_sign_of binder.Exists) refl refl t0 types read all few (body_pieces p (d + length (t0 ∷ types)) ++ []) rest
        (written names p (d + length (t0 ∷ types)) ∷ []) (predicate_body binder.Exists (d + length (t0 ∷ types)) p rp v rest q)))
    bind_reads binder.Comprehension t0 types parts t read all few is inner =
        with_value (BindRead binder.Comprehension (t0 ∷ types) t) (d + length (t0 ∷ types)) (type_of_scheme is.letters alpha) (values_at is.letters is.values alpha refl) parts is.operands_are inner
        (λ p e rp re v u.
        valued binder.Comprehension (t0 ∷ types) (p ∷ e ∷ []) t refl (ap is_value_type is.whole_is ∙ values_at is.letters is.values (power alpha) refl)
        (λ rest q. names_form binding.Set (binder_class_of binder.Comprehension) (binder_sign_of binder.Comprehension) refl refl t0 types read all few
        (sign_between (body_pieces p (d + length (t0 ∷ types))) bar_piece (body_pieces e (d + length (t0 ∷ types))) ++ (close_brace_piece ∷ [])) rest
        (written names p (d + length (t0 ∷ types)) ∷ written names e (d + length (t0 ∷ types)) ∷ []) (set_body (d + length (t0 ∷ types)) p e rp re v u rest)))
    bind_reads binder.QuantifiedUnion t0 types parts t read all few is inner =
        with_value (BindRead binder.QuantifiedUnion (t0 ∷ types) t) (d + length (t0 ∷ types)) (type_of_scheme is.letters (power alpha)) (values_at is.letters is.values (power alpha) refl) parts is.operands_are inner
        (λ p e rp re v u.
        valued binder.QuantifiedUnion (t0 ∷ types) (p ∷ e ∷ []) t refl (ap is_value_type is.whole_is ∙ values_at is.letters is.values (power alpha) refl)
        (λ rest q. names_form (binding.Reaching binder.QuantifiedUnion) (binder_class_of binder.QuantifiedUnion) (binder_sign_of binder.QuantifiedUnion) refl refl t0 types read all few
        (sign_between (body_pieces p (d + length (t0 ∷ types))) bar_piece (body_pieces e (d + length (t0 ∷ types))) ++ []) rest
        (written names p (d + length (t0 ∷ types)) ∷ written names e (d + length (t0 ∷ types)) ∷ []) (reaching_body binder.QuantifiedUnion (d + length (t0 ∷ types)) p e rp re v u rest q)))
    bind_reads binder.QuantifiedIntersection t0 types parts t read all few is inner =
        with_value (BindRead binder.QuantifiedIntersection (t0 ∷ types) t) (d + length (t0 ∷ types)) (type_of_scheme is.letters (power alpha)) (values_at is.letters is.values (power alpha) refl) parts is.operands_are inner
        (λ p e rp re v u.
        valued binder.QuantifiedIntersection (t0 ∷ types) (p ∷ e ∷ []) t refl (ap is_value_type is.whole_is ∙ values_at is.letters is.values (power alpha) refl)
        (λ rest q. names_form (binding.Reaching binder.QuantifiedIntersection) (binder_class_of binder.QuantifiedIntersection) (binder_sign_of binder.QuantifiedIntersection) refl refl t0 types read all few
        (sign_between (body_pieces p (d + length (t0 ∷ types))) bar_piece (body_pieces e (d + length (t0 ∷ types))) ++ []) rest
        (written names p (d + length (t0 ∷ types)) ∷ written names e (d + length (t0 ∷ types)) ∷ []) (reaching_body binder.QuantifiedIntersection (d + length (t0 ∷ types)) p e rp re v u rest q)))

    bind_any : (b : Binder) (types : List Ty) (parts : List Formula) (t : Ty) → may_be_bound types ≡ true → AreTypesRead types → d + length types ≤ length names → IsSchemeInstance (part_schemes b) (binder_scheme b) (map type_of parts) t
        → AllByRecursion (IsRead names (d + length types)) parts → BindRead b types t parts
    bind_any b [] parts t may read few is inner = cc
    bind_any b (t0 ∷ types) parts t may read few is inner = bind_reads b t0 types parts t read.0 read.1 few is inner

  at_bind : (b : Binder) (types : List Ty) (parts : List Formula) (t : Ty) → AllByRecursion IsBack parts → IsBack (Bind b types parts t)
  at_bind b types parts t all bound values few well ids =
      let d : ℕ = length bound in
      let deeper : List Ty = reverse types ++ bound in
      let tests : (may_be_bound types && binder_fits b (map type_of parts) t && list_all (λ f. is_well_in f deeper) parts) ≡ true = back (well-Bind b types parts t bound) ∙ well in
      let head : (may_be_bound types && binder_fits b (map type_of parts) t) ≡ true = first_true _ (list_all (λ f. is_well_in f deeper) parts) tests in
      let may : may_be_bound types ≡ true = first_true (may_be_bound types) _ head in
      let typed_values : AreAllValues types = all_of types (may_be types may) in
      let deep : length deeper ≡ d + length types = length-append (reverse types) bound ∙ omega (arith, length-reverse types) in
      let split : AreNames (joined (map carriers types) ++ joined (map identifiers parts) ++ carriers t) = subst AreNames (identifiers-Bind b types parts t) ids in
      let front : AreNames (joined (map carriers types) ++ joined (map identifiers parts)) = all_left (λ x. is_name x.0 ≡ true) (joined (map carriers types) ++ joined (map identifiers parts)) (carriers t) split in
      let inner : AllByRecursion (IsRead names (length deeper)) parts
      = each deeper (all_append (reverse types) bound (all_reverse types typed_values) values) parts all (omega (arith, deepest-Bind b types parts t, few, deep))
      (second_true (may_be_bound types && binder_fits b (map type_of parts) t) _ tests) (all_right (λ x. is_name x.0 ≡ true) (joined (map carriers types)) (joined (map identifiers parts)) front) in
      let Q : ℕ → Type 0 = λ k. AllByRecursion (IsRead names k) parts in
      let read : IsReadAt (BindF b types parts t) (bind_plain d b types parts) (bind_denied d b types parts) (bind_tree d b types parts)
      = bind_any d b types parts t may (types_read types typed_values (all_left (λ x. is_name x.0 ≡ true) (joined (map carriers types)) (joined (map identifiers parts)) front)) (omega (arith, deepest-Bind b types parts t, few))
      ((binder_fits_exactly b (map type_of parts) t).0 (second_true (may_be_bound types) _ head)) (subst Q deep inner) in
      to_read d (Bind b types parts t) (BindF b types parts t) _ _ _ (outs-Bind b types parts t) (printed-Bind names b types parts t false d)
      (printed-Bind names b types parts t true d) (written-at (BindF b types parts t) (Bind b types parts t) (rolls-Bind b types parts t) d) read

  pub reads_back : (f : Formula) → IsBack f
  reads_back = formula_induction IsBack at_int at_free at_bound at_node at_bind

fits_place : (g : Grade) (b : Bool) → nat_lt 3 (rank g) ≡ b → fits (if b then hole.Expression else hole.Predicate) g ≡ true
fits_place g true h = fits_value g h
fits_place g false h = fits_predicate g h

module _ {X : Type 0} (P : X → Type 0) where
  all_take : (n : ℕ) (xs : List X) → AllByRecursion P xs → AllByRecursion P (take n xs)
  all_take zero xs all = tt
  all_take (suc n) [] all = tt
  all_take (suc n) (x ∷ xs) all = (all.0, all_take n xs all.1)

  all_if : (b : Bool) (x : X) (xs : List X) → P x → AllByRecursion P xs → AllByRecursion P (cond b (x ∷ xs) xs)
  all_if true x xs one rest = (one, rest)
  all_if false x xs one rest = rest

  all_filter : (keep : X → Bool) (xs : List X) → AllByRecursion P xs → AllByRecursion P (filter keep xs)
  all_filter keep [] all = tt
  all_filter keep (x ∷ xs) all = all_if (keep x) x (filter keep xs) all.0 (all_filter keep xs all.1)

numbered_are_names : (n more : ℕ) → n + more ≤ 2 ^ 64 → AllByRecursion (λ name. is_name name ≡ true) (numbered_names n more)
numbered_are_names n zero few = tt
numbered_are_names n (suc more) few = (numbered-is_name n (omega (arith, few)), numbered_are_names (n + 1) more (omega (arith, few)))

-- the names of the bound identifiers
pub record BoundNames (f : Formula) : Type 0 where
  pub enough : length (bound_names f) ≡ deepest f
  pub named : (i : ℕ) → i < length (bound_names f) → is_name (name_at (bound_names f) i) ≡ true

pub bound_are_names : (f : Formula) → HasFewNames f → BoundNames f
bound_are_names f counted =
    let taken : List (List ℕ) = keys_of (identifiers f) in
    let same : length taken ≡ length (identifiers f) = length-map (identifiers f) (λ (e : List ℕ × Ty). e.0) in
    let small : deepest f + length taken < 2 ^ 64 = omega (arith, counted, same) in
    let are_fresh : AreFresh taken (deepest f) (bound_names f) = fresh taken (deepest f) small in
    let keep : List ℕ → Bool = λ name. not (list_any (bytes_eq name) taken) in
    let inside : AllByRecursion (λ name. is_name name ≡ true) (bound_names f)
    = all_take (λ name. is_name name ≡ true) (deepest f) (filter keep (numbered_names 1 (deepest f + length taken)))
    (all_filter (λ name. is_name name ≡ true) keep (numbered_names 1 (deepest f + length taken)) (numbered_are_names 1 (deepest f + length taken) (omega (arith, small)))) in
    record { enough = are_fresh.enough; named = λ i short. all_at (λ name. is_name name ≡ true) (bound_names f) i short inside }

-- the law
pub spelled : (f : Formula) → is_well f ≡ true → HasNames f → HasFewNames f → IsSpelled f
spelled f well names counted =
    let b : BoundNames f = bound_are_names f counted in
    let r : IsRead (bound_names f) 0 f = reads_back (bound_names f) b.named f [] tt (omega (arith, b.enough)) well names in
    let P : List Item → Type 0 = λ s. Reads None (grade_of f) s (raw_of f) [] in
    record { g = grade_of f; reads = subst P (append-nil (items_of_formula f)) (r.plain [] tt); fit = fits_place (grade_of f) (is_value_type (type_of f)) r.sorted }
