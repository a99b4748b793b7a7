-- The equations of the pieces and of the depth of a formula, one for each variant.
use Rattle.std.proofs.Common.{◌≡◌, ap, ℕ, ℤ, ◌+◌, ◌-◌, Bool, List, [], ◌∷◌, length, map, append_assoc}
use Rattle.std.proofs.lemmas.List.{append-nil}
use Rattle.std.specs.Fmt.{signed_decimal}
use Rattle.formula_core.specs.declared.op.Op.{Op}
use Rattle.formula_core.specs.declared.op.Binder.{Binder}
use Rattle.formula_core.specs.declared.ty.Ty.{Ty}
use Rattle.formula_core.specs.declared.formula.Formula.{Formula}
use Rattle.formula_core.specs.declared.formula.Formula.TheOpen.{Formula-F, Int as IntF, Free as FreeF, Bound as BoundF, Node as NodeF, Bind as BindF}
use Rattle.formula_core.specs.declared.formula.Formula.TheVariants.{Int, Free, Bound, Node, Bind}
use Rattle.formula_core.specs.declared.formula.Formula.TheViews.{roll-Formula, rolls-Int, rolls-Free, rolls-Bound, rolls-Node, rolls-Bind}
use Rattle.formula_core.specs.declared.formula.Formula.TheFolds.{map-Formula}
use Rattle.formula_core.specs.Sizes.{greatest}
use Rattle.formula_core.proofs.Equations.{formula_fold, formula_para}
use Rattle.math_grammar.specs.declared.symbols.Symbol.TheVariants as sym
use Rattle.token_text.specs.Pieces.{Token, word_piece}
use Rattle.token_text.proofs.Pieces.{text-append}
use Rattle.formula_print.specs.Depths.{deepest_step, deepest}
use Rattle.formula_print.specs.Printing.{Printed, PrintedPart, printed_step, printed, name_at, printed_node, printed_bind}
use Rattle.formula_print.specs.Private.{printed_parts}

at : (names : List (List ℕ)) (x : Formula-F Formula) (f : Formula) → roll-Formula x ≡ f → (denied : Bool) (depth : ℕ)
    → printed names f denied depth ≡ printed_step names (map-Formula Formula PrintedPart (λ y. (y, printed names y)) x) denied depth
at names x f e denied depth = ap (λ (p : Printed). p denied depth) (formula_para (printed_step names) x f e)

pub printed-Int : (names : List (List ℕ)) (n : ℤ) (denied : Bool) (depth : ℕ) → printed names (Int n) denied depth ≡ Token (sym.Number n) (signed_decimal n) ∷ []
printed-Int names n = at names (IntF n) (Int n) (rolls-Int n)

pub printed-Free : (names : List (List ℕ)) (name : List ℕ) (t : Ty) (denied : Bool) (depth : ℕ) → printed names (Free name t) denied depth ≡ word_piece name ∷ []
printed-Free names name t = at names (FreeF name t) (Free name t) (rolls-Free name t)

pub printed-Bound : (names : List (List ℕ)) (i : ℕ) (t : Ty) (denied : Bool) (depth : ℕ) → printed names (Bound i t) denied depth ≡ word_piece (name_at names (depth - 1 - i)) ∷ []
printed-Bound names i t = at names (BoundF i t) (Bound i t) (rolls-Bound i t)

pub printed-Node : (names : List (List ℕ)) (op : Op) (parts : List Formula) (t : Ty) (denied : Bool) (depth : ℕ)
    → printed names (Node op parts t) denied depth ≡ printed_node op (printed_parts names parts) t denied depth
printed-Node names op parts t = at names (NodeF op parts t) (Node op parts t) (rolls-Node op parts t)

pub printed-Bind : (names : List (List ℕ)) (binder : Binder) (types : List Ty) (parts : List Formula) (t : Ty) (denied : Bool) (depth : ℕ)
    → printed names (Bind binder types parts t) denied depth ≡ printed_bind names binder types (printed_parts names parts) denied depth
printed-Bind names binder types parts t = at names (BindF binder types parts t) (Bind binder types parts t) (rolls-Bind binder types parts t)

pub ruleset texts = (printed-Int, printed-Free, printed-Bound, printed-Node, printed-Bind, text-append, append_assoc, append-nil)

pub deepest-Int : (n : ℤ) → deepest (Int n) ≡ 0
deepest-Int n = formula_fold deepest_step (IntF n) (Int n) (rolls-Int n)

pub deepest-Free : (name : List ℕ) (t : Ty) → deepest (Free name t) ≡ 0
deepest-Free name t = formula_fold deepest_step (FreeF name t) (Free name t) (rolls-Free name t)

pub deepest-Bound : (i : ℕ) (t : Ty) → deepest (Bound i t) ≡ 0
deepest-Bound i t = formula_fold deepest_step (BoundF i t) (Bound i t) (rolls-Bound i t)

pub deepest-Node : (op : Op) (parts : List Formula) (t : Ty) → deepest (Node op parts t) ≡ greatest (map deepest parts)
deepest-Node op parts t = formula_fold deepest_step (NodeF op parts t) (Node op parts t) (rolls-Node op parts t)

pub deepest-Bind : (binder : Binder) (types : List Ty) (parts : List Formula) (t : Ty) → deepest (Bind binder types parts t) ≡ length types + greatest (map deepest parts)
deepest-Bind binder types parts t = formula_fold deepest_step (BindF binder types parts t) (Bind binder types parts t) (rolls-Bind binder types parts t)

pub ruleset depths = (deepest-Int, deepest-Free, deepest-Bound, deepest-Node, deepest-Bind)
