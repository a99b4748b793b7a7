-- What keeps the type of a formula: shifting, binding, and the instantiation of a quantifier.
use Rattle.std.proofs.Common.{◌≡◌, ◌∙◌, sym, ap, refl, ℕ, ◌+◌, true, ◌&&◌, List, [], ◌∷◌, ◌++◌, map, reverse, Option, Some, None, IsTrue, IfSome}
use Rattle.std.specs.List.{list_all}
use Rattle.std.specs.Option.{option_map_or}
use Rattle.formula_core.specs.declared.op.Op.{Op}
use Rattle.formula_core.specs.declared.op.Binder.{Binder}
use Rattle.formula_core.specs.declared.op.Binder.TheVariants.{ForAll, Exists, Comprehension, QuantifiedUnion, QuantifiedIntersection}
use Rattle.formula_core.specs.declared.ty.Ty.{Ty}
use Rattle.formula_core.specs.declared.formula.Formula.{Formula}
use Rattle.formula_core.specs.declared.formula.Formula.TheOpen.{Formula-F, Int as IntF, Free as FreeF, Bound as BoundF, Node as NodeF, Bind as BindF}
use Rattle.formula_core.specs.declared.formula.Formula.TheVariants.{Free, Bound, Node, Bind}
use Rattle.formula_core.specs.declared.formula.Formula.TheViews.{out-Formula, roll-Formula, roll-out-Formula, rolls-Int, rolls-Free, rolls-Bound, rolls-Bind, outs-Free, outs-Bound, outs-Node, outs-Bind}
use Rattle.formula_core.specs.Types.{is_truth}
use Rattle.formula_core.specs.TypeTable.{binder_fits}
use Rattle.formula_core.specs.Formulas.{instantiated, body_at, body}
use Rattle.formula_core.specs.Shifting.{raised, shifted, place_from_last, abstracted}
use Rattle.formula_core.specs.Substitution.{AreWell, bound_types}
use Rattle.formula_core.specs.Wellness.{type_of_step, type_of, may_be_bound, is_well_in, is_well}
use Rattle.formula_core.proofs.Depths.{shifted-Int, shifted-Free, shifted-Bound, shifted-Node, shifted-Bind, abstracted-Int, abstracted-Free, abstracted-Bound, abstracted-Node, abstracted-Bind}
use Rattle.formula_core.proofs.Induction.{formula_induction}
use Rattle.formula_core.proofs.InstantiatedWell.{instantiated_type, body_is_well}
use Rattle.formula_core.proofs.RenumberedWell.{abstracted_is_well}
use Rattle.formula_core.proofs.Schemes.{truth_view}
use Rattle.formula_core.proofs.Weakening.{first_true, second_true}
use Rattle.formula_core.proofs.Wellness.{well-Bind}

name_type : (name : List ℕ) (t : Ty) → type_of (Free name t) ≡ t
name_type name t = ap type_of_step (outs-Free name t)

index_type : (i : ℕ) (t : Ty) → type_of (Bound i t) ≡ t
index_type i t = ap type_of_step (outs-Bound i t)

node_type : (op : Op) (parts : List Formula) (t : Ty) → type_of (Node op parts t) ≡ t
node_type op parts t = ap type_of_step (outs-Node op parts t)

binder_type : (binder : Binder) (types : List Ty) (parts : List Formula) (t : Ty) → type_of (Bind binder types parts t) ≡ t
binder_type binder types parts t = ap type_of_step (outs-Bind binder types parts t)

pub shifted_type : (by d : ℕ) (f : Formula) → type_of (shifted by d f) ≡ type_of f
shifted_type by d = formula_induction (λ f. type_of (shifted by d f) ≡ type_of f)
    (λ n. ap type_of (shifted-Int by d n))
    (λ name t. ap type_of (shifted-Free by d name t))
    (λ i t. ap type_of (shifted-Bound by d i t ∙ rolls-Bound (raised by d i) t) ∙ index_type (raised by d i) t ∙ sym (index_type i t))
    (λ op parts t each. ap type_of (shifted-Node by d op parts t) ∙ node_type op _ t ∙ sym (node_type op parts t))
    (λ binder types parts t each. ap type_of (shifted-Bind by d binder types parts t) ∙ binder_type binder types _ t ∙ sym (binder_type binder types parts t))

free_or_index : (d : ℕ) (name : List ℕ) (t : Ty) (o : Option ℕ) → type_of (option_map_or (λ i. roll-Formula (BoundF (d + i) t)) o (roll-Formula (FreeF name t))) ≡ t
free_or_index d name t None = ap type_of (rolls-Free name t) ∙ name_type name t
free_or_index d name t (Some i) = ap type_of (rolls-Bound (d + i) t) ∙ index_type (d + i) t

pub abstracted_type : (ids : List (List ℕ × Ty)) (d : ℕ) (f : Formula) → type_of (abstracted ids d f) ≡ type_of f
abstracted_type ids d = formula_induction (λ f. type_of (abstracted ids d f) ≡ type_of f)
    (λ n. ap type_of (abstracted-Int ids d n ∙ rolls-Int n))
    (λ name t. ap type_of (abstracted-Free ids d name t) ∙ free_or_index d name t (place_from_last ids (name, t)) ∙ sym (name_type name t))
    (λ i t. ap type_of (abstracted-Bound ids d i t ∙ rolls-Bound _ t) ∙ index_type _ t ∙ sym (index_type i t))
    (λ op parts t each. ap type_of (abstracted-Node ids d op parts t) ∙ node_type op _ t ∙ sym (node_type op parts t))
    (λ binder types parts t each. ap type_of (abstracted-Bind ids d binder types parts t) ∙ binder_type binder types _ t ∙ sym (binder_type binder types parts t))

-- The body of a quantifier that is well has the type of the quantifier.

abbrev IsQuantifier : Binder → Type 0
IsQuantifier binder = (p t : Ty) → binder_fits binder (p ∷ []) t ≡ true → (is_truth p && is_truth t) ≡ true

only_type : (binder : Binder) → IsQuantifier binder → (own : List Ty) (p : Formula) (t : Ty) (b : Formula) → p ≡ b → is_well (roll-Formula (BindF binder own (p ∷ []) t)) ≡ true → type_of b ≡ t
only_type binder is own p t b e h =
    let k : (may_be_bound own && binder_fits binder (map type_of (p ∷ [])) t && list_all (λ f. is_well_in f (reverse own ++ [])) (p ∷ [])) ≡ true =
    sym (well-Bind binder own (p ∷ []) t []) ∙ ap is_well (sym (rolls-Bind binder own (p ∷ []) t)) ∙ h in
    let a : (may_be_bound own && binder_fits binder (type_of p ∷ []) t) ≡ true = first_true _ _ k in
    let both : (is_truth (type_of p) && is_truth t) ≡ true = is (type_of p) t (second_true (may_be_bound own) _ a) in
    sym (ap type_of e) ∙ truth_view (type_of p) (first_true _ _ both) ∙ sym (truth_view t (second_true (is_truth (type_of p)) _ both))

body_type : (x : Formula-F Formula) (b : Formula) → body_at x ≡ Some b → is_well (roll-Formula x) ≡ true → type_of b ≡ type_of_step x
body_type (IntF n) b e h = cc
body_type (FreeF name t) b e h = cc
body_type (BoundF i t) b e h = cc
body_type (NodeF op parts t) b e h = cc
body_type (BindF ForAll own [] t) b e h = cc
body_type (BindF ForAll own (p ∷ []) t) b e h = only_type ForAll (λ q u k. k) own p t b (cc) h
body_type (BindF ForAll own (p ∷ q ∷ parts) t) b e h = cc
body_type (BindF Exists own [] t) b e h = cc
body_type (BindF Exists own (p ∷ []) t) b e h = only_type Exists (λ q u k. k) own p t b (cc) h
body_type (BindF Exists own (p ∷ q ∷ parts) t) b e h = cc
body_type (BindF Comprehension own parts t) b e h = cc
body_type (BindF QuantifiedUnion own parts t) b e h = cc
body_type (BindF QuantifiedIntersection own parts t) b e h = cc

pub quantifier_instantiated_type : (f : Formula) (terms : List Formula) → AreWell terms → bound_types f ≡ map type_of terms → IsTrue (is_well f)
    → IfSome (body f) (λ b. type_of (instantiated terms 0 b) ≡ type_of f)
quantifier_instantiated_type f terms well types h =
    let whole : is_well (roll-Formula (out-Formula f)) ≡ true = ap is_well (roll-out-Formula f) ∙ h in
    let go : (o : Option Formula) → body f ≡ o → IfSome o (λ b. type_of (instantiated terms 0 b) ≡ type_of f) = elim [
      | None ↦ λ e. tt
      | Some b ↦ λ e. instantiated_type terms b well (ap (λ ts. is_well_in b (reverse ts)) (sym types) ∙ body_is_well (out-Formula f) b e whole)
          ∙ body_type (out-Formula f) b e whole
    ] in
    go (body f) refl

pub ruleset kept_by_binding = (abstracted_is_well, abstracted_type)
