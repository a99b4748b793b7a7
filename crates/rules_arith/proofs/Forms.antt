-- The equations of `linear`.
use Rattle.std.proofs.Common.{◌≡◌, ◌∙◌, sym, ap, refl, ℕ, ℤ, false, List, [], ◌∷◌, map, Ok}
use Rattle.std.proofs.lemmas.List.{length-map}
use Rattle.formula_core.specs.declared.op.Op.{Op}
use Rattle.formula_core.specs.declared.op.Op.TheVariants as op
use Rattle.formula_core.specs.declared.op.Binder.{Binder}
use Rattle.formula_core.specs.declared.ty.Ty.{Ty}
use Rattle.formula_core.specs.declared.formula.Formula.{Formula}
use Rattle.formula_core.specs.declared.formula.Formula.TheOpen.{Int as IntF, Free as FreeF, Bound as BoundF, Node as NodeF, Bind as BindF}
use Rattle.formula_core.specs.declared.formula.Formula.TheVariants.{Int, Free, Bound, Node, Bind}
use Rattle.formula_core.specs.declared.formula.Formula.TheViews.{rolls-Int, rolls-Free, rolls-Bound, rolls-Node, rolls-Bind}
use Rattle.formula_core.proofs.Equations.{formula_para}
use Rattle.rule_table.specs.Linear.{Linear, OrTooWide, constant_form, atom, unary_form, binary_form, node_form, linear_step, linear}
use Rattle.rules_arith.specs.Private.{has_linear_parts}

parts-beside : (g : Formula → OrTooWide Linear) (fs : List Formula) → map (λ (p : Formula × OrTooWide Linear). p.0) (map (λ f. (f, g f)) fs) ≡ fs
parts-beside g [] = refl
parts-beside g (f ∷ fs) = ap (λ gs. f ∷ gs) (parts-beside g fs)

forms-beside : (g : Formula → OrTooWide Linear) (fs : List Formula) → map (λ (p : Formula × OrTooWide Linear). p.1) (map (λ f. (f, g f)) fs) ≡ map g fs
forms-beside g [] = refl
forms-beside g (f ∷ fs) = ap (λ gs. g f ∷ gs) (forms-beside g fs)

pub linear-Int : (n : ℤ) → linear (Int n) ≡ Ok (constant_form n)
linear-Int n = formula_para linear_step (IntF n) (Int n) (rolls-Int n)

pub linear-Free : (name : List ℕ) (t : Ty) → linear (Free name t) ≡ Ok (atom (Free name t))
linear-Free name t = formula_para linear_step (FreeF name t) (Free name t) (rolls-Free name t)

pub linear-Bound : (i : ℕ) (t : Ty) → linear (Bound i t) ≡ Ok (atom (Bound i t))
linear-Bound i t = formula_para linear_step (BoundF i t) (Bound i t) (rolls-Bound i t)

pub linear-Bind : (b : Binder) (ts : List Ty) (ps : List Formula) (t : Ty) → linear (Bind b ts ps t) ≡ Ok (atom (Bind b ts ps t))
linear-Bind b ts ps t = formula_para linear_step (BindF b ts ps t) (Bind b ts ps t) (rolls-Bind b ts ps t) ∙ (λ i. Ok (atom (Bind b ts (parts-beside linear ps i) t)))

pub linear-Node : (o : Op) (ps : List Formula) (t : Ty) → linear (Node o ps t) ≡ node_form o (Node o ps t) (map linear ps)
linear-Node o ps t = formula_para linear_step (NodeF o ps t) (Node o ps t) (rolls-Node o ps t)
    ∙ (λ i. node_form o (Node o (parts-beside linear ps i) t) (forms-beside linear ps i))

unary-whole : (o : Op) (f : Formula) (a : OrTooWide Linear) → has_linear_parts o ≡ false → unary_form o f a ≡ Ok (atom f)
unary-whole op.Negate f a h = absurd (cc)
unary-whole _ f a h = refl

binary-whole : (o : Op) (f : Formula) (a b : OrTooWide Linear) → has_linear_parts o ≡ false → binary_form o f a b ≡ Ok (atom f)
binary-whole op.Plus f a b h = absurd (cc)
binary-whole op.Minus f a b h = absurd (cc)
binary-whole op.Times f a b h = absurd (cc)
binary-whole _ f a b h = refl

node-whole : (o : Op) (f : Formula) (xs : List (OrTooWide Linear)) → has_linear_parts o ≡ false → node_form o f xs ≡ Ok (atom f)
node-whole o f [] h = refl
node-whole o f (a ∷ []) h = unary-whole o f a h
node-whole o f (a ∷ b ∷ []) h = binary-whole o f a b h
node-whole o f (a ∷ b ∷ c ∷ xs) h = refl

pub linear-whole : (o : Op) (ps : List Formula) (t : Ty) → has_linear_parts o ≡ false → linear (Node o ps t) ≡ Ok (atom (Node o ps t))
linear-whole o ps t h = linear-Node o ps t ∙ node-whole o (Node o ps t) (map linear ps) h

pub ruleset equations = (linear-Int, linear-Free, linear-Bound, linear-Bind, linear-Node, linear-whole)

pub ruleset lengths = (length-map)
