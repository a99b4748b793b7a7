-- Where L is ⊤: at atoms, and where nothing is partial.
use Rattle.std.proofs.Common.{◌≡◌, ◌∙◌, sym, ap, refl, Bool, true, false, not, ◌&&◌, List, [], ◌∷◌, map, fold, IsTrue, if◌then◌else◌}
use Rattle.std.specs.List.{AllByRecursion, list_all}
use Rattle.formula_core.specs.declared.op.Op.{Op}
use Rattle.formula_core.specs.declared.op.Op.TheVariants as op
use Rattle.formula_core.specs.declared.op.Binder.{Binder}
use Rattle.formula_core.specs.declared.op.Binder.TheVariants as binder
use Rattle.formula_core.specs.declared.ty.Ty.{Ty}
use Rattle.formula_core.specs.declared.ty.Ty.TheVariants.{Truth}
use Rattle.formula_core.specs.declared.formula.Formula.{Formula}
use Rattle.formula_core.specs.declared.formula.Formula.TheOpen.{Node as NodeF, Bind as BindF}
use Rattle.formula_core.specs.declared.formula.Formula.TheVariants.{Node, Bind}
use Rattle.formula_core.specs.declared.formula.Formula.TheViews.{outs-Node, outs-Bind, rolls-Node, rolls-Bind}
use Rattle.formula_core.proofs.Equations.{formula_fold}
use Rattle.formula_core.proofs.Induction.{formula_induction}
use Rattle.formula_core.proofs.Weakening.{first_true, second_true}
use Rattle.well_defined.specs.Predicates.{top, conjunction, implication, disjunction, quantified}
use Rattle.well_defined.specs.Connectives.{is_top_at, is_top, conjoined, implied, alternative, for_every}
use Rattle.well_defined.specs.Conditions.{unary_condition, binary_condition, own_condition, second_guarded, operands_condition, quantified_condition, binder_condition, wd_of}
use Rattle.well_defined.specs.Laws.{is_atom_at, is_atom, is_partial, is_partial_binder, is_total_step, is_total}
use Rattle.well_defined.proofs.Equations.{wd-Int, wd-Free, wd-Bound, wd-Node, wd-Bind}

top_is_top : is_top top ≡ true
top_is_top = ap is_top_at (outs-Node op.Top [] Truth)

-- the connectives at ⊤
conjoined-top : conjoined top top ≡ top
conjoined-top = ap (λ b. if b then top else (if is_top top then top else conjunction top top)) top_is_top

implied-top : (p : Formula) → implied p top ≡ top
implied-top p = ap (λ b. if b then top else (if is_top p then top else implication p top)) top_is_top

alternative-at : (p : Formula) (b : Bool) → (if b then top else (if is_top top then top else disjunction p top)) ≡ top
alternative-at p true = refl
alternative-at p false = ap (λ b. if b then top else disjunction p top) top_is_top

alternative-top : (p : Formula) → alternative p top ≡ top
alternative-top p = alternative-at p (is_top p)

for_every-top : (types : List Ty) → for_every types top ≡ top
for_every-top types = ap (λ b. if b then top else quantified binder.ForAll types top) top_is_top

abbrev IsTop : Formula → Type 0
IsTop f = f ≡ top

all-top : (conditions : List Formula) → AllByRecursion IsTop conditions → fold conjoined top conditions ≡ top
all-top [] each = refl
all-top (l ∷ conditions) each = ap (λ first. fold conjoined first conditions) (ap (conjoined top) each.0 ∙ conjoined-top) ∙ all-top conditions each.1

second-top : (o : Op) (p : Formula) → second_guarded o p top top ≡ top
second-top op.And p = ap (conjoined top) (implied-top p) ∙ conjoined-top
second-top op.Implies p = ap (conjoined top) (implied-top p) ∙ conjoined-top
second-top op.Or p = ap (conjoined top) (alternative-top p) ∙ conjoined-top
second-top _ p = conjoined-top

operands-top : (o : Op) (parts conditions : List Formula) → AllByRecursion IsTop conditions → operands_condition o parts conditions ≡ top
operands-top o (p ∷ q ∷ []) (l ∷ m ∷ []) each = (λ i. second_guarded o p (each.0 i) (each.1.0 i)) ∙ second-top o p
operands-top o parts conditions each = all-top conditions each

unary-top : (o : Op) (s : Formula) → is_partial o ≡ false → unary_condition o s ≡ top
unary-top op.Cardinality s h = cc
unary-top op.Minimum s h = cc
unary-top op.Maximum s h = cc
unary-top op.GeneralIntersection s h = cc
unary-top _ s h = refl

binary-top : (o : Op) (e f : Formula) → is_partial o ≡ false → binary_condition o e f ≡ top
binary-top op.Divide e f h = cc
binary-top op.Modulo e f h = cc
binary-top op.Power e f h = cc
binary-top op.Apply e f h = cc
binary-top _ e f h = refl

own-top : (o : Op) (parts : List Formula) → is_partial o ≡ false → own_condition o parts ≡ top
own-top o [] h = refl
own-top o (s ∷ []) h = unary-top o s h
own-top o (e ∷ f ∷ []) h = binary-top o e f h
own-top o (p ∷ q ∷ r ∷ parts) h = refl

quantified-top : (b : Binder) (types : List Ty) (p : Formula) → is_partial_binder b ≡ false → quantified_condition b types p ≡ top
quantified-top binder.QuantifiedIntersection types p h = cc
quantified-top _ types p h = refl

binder-top : (b : Binder) (types : List Ty) (parts conditions : List Formula) → is_partial_binder b ≡ false → AllByRecursion IsTop conditions → binder_condition b types parts conditions ≡ top
binder-top b types (p ∷ []) (l ∷ []) h each = ap (for_every types) each.0 ∙ for_every-top types
binder-top b types (p ∷ e ∷ []) (l ∷ m ∷ []) h each =
    let inside : conjoined l (implied p m) ≡ top = (λ i. conjoined (each.0 i) (implied p (each.1.0 i))) ∙ ap (conjoined top) (implied-top p) ∙ conjoined-top in
    let all : for_every types (conjoined l (implied p m)) ≡ top = ap (for_every types) inside ∙ for_every-top types in
    (λ i. conjoined (all i) (quantified-top b types p h i)) ∙ conjoined-top
binder-top b types parts conditions h each = refl

-- atoms
abbrev AsksNothing : Formula → Type 0
AsksNothing f = is_atom f ≡ true → wd_of f ≡ top

atom_at_node : (o : Op) (parts : List Formula) (t : Ty) → AsksNothing (Node o parts t)
atom_at_node o [] t h = wd-Node o [] t ∙ conjoined-top
atom_at_node o (p ∷ parts) t h = let never : true ≡ false = sym h ∙ ap is_atom_at (outs-Node o (p ∷ parts) t) in cc

pub atoms : (f : Formula) → IsTrue (is_atom f) → wd_of f ≡ top
atoms = formula_induction AsksNothing
    (λ n h. wd-Int n)
    (λ name t h. wd-Free name t)
    (λ i t h. wd-Bound i t)
    (λ o parts t each h. atom_at_node o parts t h)
    (λ b types parts t each h. let never : true ≡ false = sym h ∙ ap is_atom_at (outs-Bind b types parts t) in cc)

-- formulas in which nothing is partial
abbrev IsAlwaysDefined : Formula → Type 0
IsAlwaysDefined f = is_total f ≡ true → wd_of f ≡ top

each-top : (parts : List Formula) → AllByRecursion IsAlwaysDefined parts → list_all (λ total. total) (map is_total parts) ≡ true → AllByRecursion IsTop (map wd_of parts)
each-top [] each h = tt
each-top (p ∷ parts) each h = (each.0 (first_true _ _ h), each-top parts each.1 (second_true (is_total p) _ h))

denied : (b : Bool) → not b ≡ true → b ≡ false
denied true h = cc
denied false h = refl

pub totals : (f : Formula) → IsTrue (is_total f) → wd_of f ≡ top
totals = formula_induction IsAlwaysDefined
    (λ n h. wd-Int n)
    (λ name t h. wd-Free name t)
    (λ i t h. wd-Bound i t)
    (λ o parts t each h.
    let k : (not (is_partial o) && list_all (λ total. total) (map is_total parts)) ≡ true = sym (formula_fold is_total_step (NodeF o parts t) (Node o parts t) (rolls-Node o parts t)) ∙ h in
    let tops : AllByRecursion IsTop (map wd_of parts) = each-top parts each (second_true (not (is_partial o)) _ k) in
    wd-Node o parts t
    ∙ (λ i. conjoined (operands-top o parts (map wd_of parts) tops i) (own-top o parts (denied (is_partial o) (first_true _ _ k)) i)) ∙ conjoined-top)
    (λ b types parts t each h.
    let k : (not (is_partial_binder b) && list_all (λ total. total) (map is_total parts)) ≡ true = sym (formula_fold is_total_step (BindF b types parts t) (Bind b types parts t) (rolls-Bind b types parts t)) ∙ h in
    let tops : AllByRecursion IsTop (map wd_of parts) = each-top parts each (second_true (not (is_partial_binder b)) _ k) in
    wd-Bind b types parts t ∙ binder-top b types parts (map wd_of parts) (denied (is_partial_binder b) (first_true _ _ k)) tops)

pub ruleset laws = (atoms, totals)
