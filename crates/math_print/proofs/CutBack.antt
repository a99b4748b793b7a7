-- The printed text of a formula is cut into its tokens.
use Rattle.std.proofs.Common.{◌≡◌, ◌∙◌, sym as back, subst, refl, ℕ, ℤ, zero, suc, ◌+◌, ◌-◌, ◌<◌, ◌≤◌, Bool, true, false, ◌&&◌, List, [], ◌∷◌, ◌++◌, length, map, reverse, arith}
use Rattle.std.specs.Prelude.{◌^◌, pos, negsuc}
use Rattle.std.specs.Int.Signed.{mag}
use Rattle.std.specs.Fmt.{signed_decimal}
use Rattle.std.specs.List.{AllByRecursion, slice_get, list_all}
use Rattle.std.specs.Option.{option_map_or}
use Rattle.std.proofs.lemmas.List.{append-nil, length-reverse, length-append}
use Rattle.formula_core.specs.Names.{is_name}
use Rattle.formula_core.specs.declared.ty.Ty.{Ty}
use Rattle.formula_core.specs.declared.op.Op.{Op}
use Rattle.formula_core.specs.declared.op.Binder.{Binder}
use Rattle.formula_core.specs.declared.op.Binder.TheVariants as binder
use Rattle.formula_core.specs.declared.raw.RawBinder.TheVariants as rawbinder
use Rattle.formula_core.specs.declared.formula.Formula.{Formula}
use Rattle.formula_core.specs.declared.formula.Formula.TheVariants.{Int, Free, Bound, Node, Bind}
use Rattle.formula_core.specs.Formulas.{joined}
use Rattle.formula_core.specs.Identifiers.{carriers, identifiers}
use Rattle.formula_core.specs.Rows.{row_of}
use Rattle.formula_core.specs.Sizes.{greatest}
use Rattle.formula_core.specs.TypeTable.{row_fits, binder_fits}
use Rattle.formula_core.specs.Types.{same_type}
use Rattle.formula_core.specs.Wellness.{type_of, is_natural, may_be_bound, is_well_in, is_well}
use Rattle.formula_core.proofs.Equations.{identifiers-Free, identifiers-Node, identifiers-Bind}
use Rattle.formula_core.proofs.Induction.{formula_induction}
use Rattle.formula_core.proofs.Wellness.{well-Int, well-Bound, well-Node, well-Bind}
use Rattle.math_grammar.specs.declared.symbols.Symbol.TheVariants as sym
use Rattle.token_text.specs.Pieces.{Piece, Token, text_of, close_brace_piece, dot_piece, bar_piece, binder_piece, in_round, separated_pieces}
use Rattle.token_text.specs.Spacing.{IsCutInto}
use Rattle.token_text.proofs.Fitting.{Fits, fitting_cut}
use Rattle.token_text.proofs.Following.{Follows}
use Rattle.token_text.proofs.Numbers.{fits-number, number_lettered}
use Rattle.token_text.proofs.Signs.{opens_set}
use Rattle.token_text.proofs.Words.{lettered_opens_set}
use Rattle.formula_print.specs.Depths.{deepest}
use Rattle.formula_print.specs.Held.{HasNames, HasFewNames, literals, HasNarrowNumbers}
use Rattle.formula_print.specs.Names.{bound_names}
use Rattle.formula_print.specs.Printing.{name_at, binder_end_of, printed_body, printed_binder, printed_declarations, printed, formula_pieces, formula_text}
use Rattle.formula_print.specs.Private.{printed_parts}
use Rattle.formula_print.proofs.Equations.{printed-Int, printed-Free, printed-Bound, printed-Node, printed-Bind, deepest-Node, deepest-Bind}
use Rattle.formula_print.proofs.Literals.{literals-Int, literals-Node, literals-Bind}
use Rattle.formula_print.proofs.NamedScopes.{all_left, all_right}
use Rattle.math_print.specs.Grades.{items_of_formula}
use Rattle.math_print.proofs.TypeReadings.{AreNames}
use Rattle.math_print.proofs.Back.{BoundNames, bound_are_names}
use Rattle.math_print.proofs.SignFits.{fits-dot, fits-bar, fits-close_brace, fits_binder-ForAll, fits_binder-Exists, fits_binder-Comprehension, fits_binder-QuantifiedUnion, fits_binder-QuantifiedIntersection}
use Rattle.math_print.proofs.Printed.{IsPrinted, Opens, opens_with, nothing, nothing_stops, lone, token, beside, round, infix_form}
use Rattle.math_print.proofs.TypesPrinted.{named, name_opens, declarations_form, declarations_open}
use Rattle.math_print.proofs.NodesPrinted.{IsFormulaPrinted, IsNodePrinted, negated, denied_form, denied_opens, node_printed}

first_true : (a b : Bool) → (a && b) ≡ true → a ≡ true
first_true true b h = refl
first_true false b h = cc

second_true : (a b : Bool) → (a && b) ≡ true → b ≡ true
second_true true b h = h
second_true false b h = cc

-- the numbers of each form
abbrev AreNarrow : List ℤ → Type 0
AreNarrow ns = AllByRecursion (λ n. mag n < 2 ^ 127) ns

-- an index of one that is bound
in_scope : (bound : List Ty) (i : ℕ) (t : Ty) → option_map_or (λ u. same_type u t) (slice_get bound i) false ≡ true → i < length bound
in_scope [] i t h = cc
in_scope (u ∷ bound) zero t h = omega arith
in_scope (u ∷ bound) (suc i) t h = omega (arith, in_scope bound i t h)

binder_fits_there : (b : Binder) (rest : List ℕ) → Follows opens_set rest → Fits (binder_piece (rawbinder.Plain b)) rest
binder_fits_there binder.ForAll rest h = fits_binder-ForAll rest
binder_fits_there binder.Exists rest h = fits_binder-Exists rest
binder_fits_there binder.Comprehension rest h = fits_binder-Comprehension rest h
binder_fits_there binder.QuantifiedUnion rest h = fits_binder-QuantifiedUnion rest
binder_fits_there binder.QuantifiedIntersection rest h = fits_binder-QuantifiedIntersection rest

binder_opens : (b : Binder) (ps : List Piece) → Opens (binder_piece (rawbinder.Plain b) ∷ ps)
binder_opens binder.ForAll ps rest = refl
binder_opens binder.Exists ps rest = refl
binder_opens binder.Comprehension ps rest = refl
binder_opens binder.QuantifiedUnion ps rest = refl
binder_opens binder.QuantifiedIntersection ps rest = refl

ended : (b : Binder) (ps : List Piece) → IsPrinted ps → IsPrinted (ps ++ binder_end_of b)
ended binder.ForAll ps is = beside ps [] is nothing_stops nothing
ended binder.Exists ps is = beside ps [] is nothing_stops nothing
ended binder.Comprehension ps is = beside ps (close_brace_piece ∷ []) is (λ rest h. refl) (lone close_brace_piece (λ rest h. fits-close_brace rest))
ended binder.QuantifiedUnion ps is = beside ps [] is nothing_stops nothing
ended binder.QuantifiedIntersection ps is = beside ps [] is nothing_stops nothing

module _ (names : List (List ℕ)) (are_names : (i : ℕ) → i < length names → is_name (name_at names i) ≡ true) where
  -- what a formula is printed as
  printed_as : (d : ℕ) (f : Formula) (ps qs : List Piece) → printed names f false d ≡ ps → printed names f true d ≡ qs → IsPrinted ps → IsPrinted qs → Opens ps → Opens qs → IsFormulaPrinted names d f
  printed_as d f ps qs e h a b o p =
      let P : List Piece → Type 0 = λ l. IsPrinted l in
      let Q : List Piece → Type 0 = λ l. Opens l in
      record { plain = subst P (back e) a; denied = subst P (back h) b; opens = subst Q (back e) o; denied_opens = subst Q (back h) p }

  abbrev IsTextBack : Formula → Type 0
  IsTextBack f = (bound : List Ty) → length bound + deepest f ≤ length names → is_well_in f bound ≡ true → AreNames (identifiers f) → AreNarrow (literals f) → IsFormulaPrinted names (length bound) f

  number_printed : (n : ℤ) → is_natural n ≡ true → mag n < 2 ^ 127 → IsPrinted (Token (sym.Number n) (signed_decimal n) ∷ [])
  number_printed (pos n) h small = lone (Token (sym.Number (pos n)) (signed_decimal (pos n))) (fits-number n small)
  number_printed (negsuc n) h small = cc

  number_opens : (n : ℤ) → is_natural n ≡ true → mag n < 2 ^ 127 → Opens (Token (sym.Number n) (signed_decimal n) ∷ [])
  number_opens (pos n) h small rest =
      let P : List ℕ → Type 0 = λ u. Follows opens_set (u ++ rest) in
      subst P (back (append-nil (signed_decimal (pos n)))) (lettered_opens_set (signed_decimal (pos n)) rest (number_lettered n small))
  number_opens (negsuc n) h small rest = cc

  at_int : (n : ℤ) → IsTextBack (Int n)
  at_int n bound few well ids narrow =
      let natural : is_natural n ≡ true = back (well-Int n bound) ∙ well in
      let small : mag n < 2 ^ 127 = (subst AreNarrow (literals-Int n) narrow).0 in
      printed_as (length bound) (Int n) _ _ (printed-Int names n false (length bound)) (printed-Int names n true (length bound))
      (number_printed n natural small) (number_printed n natural small) (number_opens n natural small) (number_opens n natural small)

  at_free : (x : List ℕ) (t : Ty) → IsTextBack (Free x t)
  at_free x t bound few well ids narrow =
      let name : is_name x ≡ true = (subst AreNames (identifiers-Free x t) ids).0 in
      printed_as (length bound) (Free x t) _ _ (printed-Free names x t false (length bound)) (printed-Free names x t true (length bound))
      (named x name) (named x name) (name_opens x name) (name_opens x name)

  at_bound : (i : ℕ) (t : Ty) → IsTextBack (Bound i t)
  at_bound i t bound few well ids narrow =
      let there : i < length bound = in_scope bound i t (back (well-Bound i t bound) ∙ well) in
      let x : List ℕ = name_at names (length bound - 1 - i) in
      let name : is_name x ≡ true = are_names (length bound - 1 - i) (omega (arith, there, few)) in
      printed_as (length bound) (Bound i t) _ _ (printed-Bound names i t false (length bound)) (printed-Bound names i t true (length bound))
      (named x name) (named x name) (name_opens x name) (name_opens x name)

  each : (bound : List Ty) (fs : List Formula) → AllByRecursion IsTextBack fs → length bound + greatest (map deepest fs) ≤ length names → list_all (λ f. is_well_in f bound) fs ≡ true
      → AreNames (joined (map identifiers fs)) → AreNarrow (joined (map literals fs)) → AllByRecursion (IsFormulaPrinted names (length bound)) fs
  each bound [] all few well ids narrow = tt
  each bound (f ∷ fs) all few well ids narrow = (
    all.0 bound (omega arith) (first_true (is_well_in f bound) (list_all (λ f. is_well_in f bound) fs) well) (all_left (λ x. is_name x.0 ≡ true) (identifiers f) (joined (map identifiers fs)) ids) (all_left (λ n. mag n < 2 ^ 127) (literals f) (joined (map literals fs)) narrow),
    each bound fs all.1 (omega arith) (second_true (is_well_in f bound) (list_all (λ f. is_well_in f bound) fs) well) (all_right (λ x. is_name x.0 ≡ true) (identifiers f) (joined (map identifiers fs)) ids) (all_right (λ n. mag n < 2 ^ 127) (literals f) (joined (map literals fs)) narrow),
  )

  at_node : (o : Op) (parts : List Formula) (t : Ty) → AllByRecursion IsTextBack parts → IsTextBack (Node o parts t)
  at_node o parts t all bound few well ids narrow =
      let d : ℕ = length bound in
      let tests : (list_all (λ f. is_well_in f bound) parts && row_fits (row_of o) (map type_of parts) t) ≡ true = back (well-Node o parts t bound) ∙ well in
      let split : AreNames (joined (map identifiers parts) ++ carriers t) = subst AreNames (identifiers-Node o parts t) ids in
      let inner : AllByRecursion (IsFormulaPrinted names d) parts
      = each bound parts all (omega (arith, deepest-Node o parts t, few)) (first_true _ (row_fits (row_of o) (map type_of parts) t) tests) (all_left (λ x. is_name x.0 ≡ true) (joined (map identifiers parts)) (carriers t) split) (subst AreNarrow (literals-Node o parts t) narrow) in
      let r : IsNodePrinted names d o parts t
      = node_printed names d o parts t inner (all_right (λ x. is_name x.0 ≡ true) (joined (map identifiers parts)) (carriers t) split) (second_true (list_all (λ f. is_well_in f bound) parts) _ tests) in
      printed_as d (Node o parts t) _ _ (printed-Node names o parts t false d) (printed-Node names o parts t true d)
      r.plain.whole (denied_form o _ r.denied.whole) r.plain.opens (denied_opens o _ r.denied.opens)

  -- a predicate, or a predicate, a bar and an expression
  body_form : (d : ℕ) (parts : List Formula) → AllByRecursion (IsFormulaPrinted names d) parts → IsPrinted (printed_body (printed_parts names parts) d)
  body_form d [] all = nothing
  body_form d (p ∷ []) all = all.0.plain
  body_form d (p ∷ e ∷ []) all = infix_form bar_piece (printed names p false d) (printed names e false d) (λ rest. fits-bar (32 ∷ rest)) all.0.plain all.1.0.plain
  body_form d (p ∷ e ∷ f ∷ more) all = nothing

  binder_form : (b : Binder) (types : List Ty) (parts : List Formula) (d : ℕ) → may_be_bound types ≡ true → d + length types ≤ length names → AreNames (joined (map carriers types)) → AllByRecursion (IsFormulaPrinted names (d + length types)) parts
      → IsPrinted (printed_binder names b types (printed_parts names parts) d)
  binder_form b [] parts d may few carried all = cc
  binder_form b (t ∷ types) parts d may few carried all =
      let front : List Piece = separated_pieces (printed_declarations names (t ∷ types) d) in
      let deep : ℕ = d + length (t ∷ types) in
      let body : List Piece = printed_body (printed_parts names parts) deep ++ binder_end_of b in
      let dotted : IsPrinted (dot_piece ∷ body) = token dot_piece body (λ rest h. fits-dot (text_of body ++ rest)) (ended b (printed_body (printed_parts names parts) deep) (body_form deep parts all)) in
      let open_there : Opens (front ++ (dot_piece ∷ body)) = opens_with front (dot_piece ∷ body) (declarations_open names are_names t types d (omega (arith, few))) in
      token (binder_piece (rawbinder.Plain b)) (front ++ (dot_piece ∷ body)) (λ rest h. binder_fits_there b (text_of (front ++ (dot_piece ∷ body)) ++ rest) (open_there rest))
      (beside front (dot_piece ∷ body) (declarations_form names are_names (t ∷ types) d few carried) (λ rest h. refl) dotted)

  at_bind : (b : Binder) (types : List Ty) (parts : List Formula) (t : Ty) → AllByRecursion IsTextBack parts → IsTextBack (Bind b types parts t)
  at_bind b types parts t all bound few well ids narrow =
      let d : ℕ = length bound in
      let deeper : List Ty = reverse types ++ bound in
      let tests : (may_be_bound types && binder_fits b (map type_of parts) t && list_all (λ f. is_well_in f deeper) parts) ≡ true = back (well-Bind b types parts t bound) ∙ well in
      let head : (may_be_bound types && binder_fits b (map type_of parts) t) ≡ true = first_true _ (list_all (λ f. is_well_in f deeper) parts) tests in
      let may : may_be_bound types ≡ true = first_true (may_be_bound types) _ head in
      let deep : length deeper ≡ d + length types = length-append (reverse types) bound ∙ omega (arith, length-reverse types) in
      let split : AreNames (joined (map carriers types) ++ joined (map identifiers parts) ++ carriers t) = subst AreNames (identifiers-Bind b types parts t) ids in
      let front : AreNames (joined (map carriers types) ++ joined (map identifiers parts)) = all_left (λ x. is_name x.0 ≡ true) (joined (map carriers types) ++ joined (map identifiers parts)) (carriers t) split in
      let inner : AllByRecursion (IsFormulaPrinted names (length deeper)) parts
      = each deeper parts all (omega (arith, deepest-Bind b types parts t, few, deep))
      (second_true (may_be_bound types && binder_fits b (map type_of parts) t) _ tests) (all_right (λ x. is_name x.0 ≡ true) (joined (map carriers types)) (joined (map identifiers parts)) front) (subst AreNarrow (literals-Bind b types parts t) narrow) in
      let Q : ℕ → Type 0 = λ k. AllByRecursion (IsFormulaPrinted names k) parts in
      let ps : List Piece = printed_binder names b types (printed_parts names parts) d in
      let form : IsPrinted ps
      = binder_form b types parts d may (omega (arith, deepest-Bind b types parts t, few)) (all_left (λ x. is_name x.0 ≡ true) (joined (map carriers types)) (joined (map identifiers parts)) front) (subst Q deep inner) in
      printed_as d (Bind b types parts t) _ _ (printed-Bind names b types parts t false d) (printed-Bind names b types parts t true d)
      form (negated (in_round ps) (round ps form))
      (binder_opens b (separated_pieces (printed_declarations names types d) ++ (dot_piece ∷ (printed_body (printed_parts names parts) (d + length types) ++ binder_end_of b)))) (λ rest. refl)

  pub text_back : (f : Formula) → IsTextBack f
  text_back = formula_induction IsTextBack at_int at_free at_bound at_node at_bind

-- the law
pub text_cut : (f : Formula) → is_well f ≡ true → HasNames f → HasFewNames f → HasNarrowNumbers f → IsCutInto (formula_text f) (items_of_formula f)
text_cut f well names counted narrow =
    let b : BoundNames f = bound_are_names f counted in
    let is : IsFormulaPrinted (bound_names f) 0 f = text_back (bound_names f) b.named f [] (omega (arith, b.enough)) well names narrow in
    fitting_cut (formula_pieces f) (is.plain [] tt)
