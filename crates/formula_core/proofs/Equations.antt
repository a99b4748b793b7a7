-- What a recursion over formulas or types is at each variant.
use Rattle.std.proofs.Common.{◌≡◌, ◌∙◌, sym, ap, ℕ, ℤ, ◌+◌, sum, ◌&&◌, List, [], ◌∷◌, ◌++◌, map}
use Rattle.std.specs.Prelude.{bytes_eq}
use Rattle.std.specs.Map.{lookup}
use Rattle.std.specs.Option.{unwrap_or}
use Rattle.formula_core.specs.declared.op.Op.{Op}
use Rattle.formula_core.specs.declared.op.Binder.{Binder}
use Rattle.formula_core.specs.declared.ty.Ty.{Ty}
use Rattle.formula_core.specs.declared.ty.Ty.TheOpen.{Ty-F, Given as GivenF, Pow as PowF, Pair as PairF}
use Rattle.formula_core.specs.declared.ty.Ty.TheVariants as ty
use Rattle.formula_core.specs.declared.ty.Ty.TheViews as of_type
use Rattle.formula_core.specs.declared.ty.Ty.TheFolds.{map-Ty, fold-Ty, fold-roll-Ty}
use Rattle.formula_core.specs.declared.formula.Formula.{Formula}
use Rattle.formula_core.specs.declared.formula.Formula.TheOpen.{Formula-F, Int as IntF, Free as FreeF, Bound as BoundF, Node as NodeF, Bind as BindF}
use Rattle.formula_core.specs.declared.formula.Formula.TheVariants.{Int, Free, Bound, Node, Bind}
use Rattle.formula_core.specs.declared.formula.Formula.TheViews.{roll-Formula, rolls-Int, rolls-Free, rolls-Bound, rolls-Node, rolls-Bind}
use Rattle.formula_core.specs.declared.formula.Formula.TheFolds.{map-Formula, fold-Formula, fold-roll-Formula, para-Formula, para-roll-Formula}
use Rattle.formula_core.specs.Formulas.{joined, occurrences_step, occurrences, substituted_step, substituted}
use Rattle.formula_core.specs.Sizes.{type_nodes_step, type_nodes, formula_nodes_step, formula_nodes, greatest, formula_height_step, formula_height, is_type_within, all_hold, has_types_within_step, has_types_within}
use Rattle.formula_core.specs.Identifiers.{carriers_step, carriers, identifiers_step, identifiers}

-- a recursion over formulas at `f`, which is the variant `x`
pub formula_fold : {A : Type 0} → (step : Formula-F A → A) (x : Formula-F Formula) (f : Formula) → roll-Formula x ≡ f
    → fold-Formula A step f ≡ step (map-Formula Formula A (fold-Formula A step) x)
formula_fold {A} step x f e = ap (fold-Formula A step) (sym e) ∙ fold-roll-Formula A step x

-- the same of a recursion that is given the parts beside their results
pub formula_para : {A : Type 0} → (step : Formula-F (Formula × A) → A) (x : Formula-F Formula) (f : Formula) → roll-Formula x ≡ f
    → para-Formula A step f ≡ step (map-Formula Formula (Formula × A) (λ y. (y, para-Formula A step y)) x)
formula_para {A} step x f e = ap (para-Formula A step) (sym e) ∙ para-roll-Formula A step x

-- a recursion over types at `t`, which is the variant `x`
pub type_fold : {A : Type 0} → (step : Ty-F A → A) (x : Ty-F Ty) (t : Ty) → of_type.roll-Ty x ≡ t → fold-Ty A step t ≡ step (map-Ty Ty A (fold-Ty A step) x)
type_fold {A} step x t e = ap (fold-Ty A step) (sym e) ∙ fold-roll-Ty A step x

pub type_nodes-Pow : (t : Ty) → type_nodes (ty.Pow t) ≡ type_nodes t + 1
type_nodes-Pow t = type_fold type_nodes_step (PowF t) _ (of_type.rolls-Pow t)

pub type_nodes-Pair : (t u : Ty) → type_nodes (ty.Pair t u) ≡ type_nodes t + type_nodes u + 1
type_nodes-Pair t u = type_fold type_nodes_step (PairF t u) _ (of_type.rolls-Pair t u)

pub carriers-Given : (name : List ℕ) → carriers (ty.Given name) ≡ (name, ty.Pow (ty.Given name)) ∷ []
carriers-Given name = type_fold carriers_step (GivenF name) _ (of_type.rolls-Given name)

pub carriers-Pow : (t : Ty) → carriers (ty.Pow t) ≡ carriers t
carriers-Pow t = type_fold carriers_step (PowF t) _ (of_type.rolls-Pow t)

pub carriers-Pair : (t u : Ty) → carriers (ty.Pair t u) ≡ carriers t ++ carriers u
carriers-Pair t u = type_fold carriers_step (PairF t u) _ (of_type.rolls-Pair t u)

pub formula_nodes-Node : (op : Op) (parts : List Formula) (t : Ty) → formula_nodes (Node op parts t) ≡ sum (map formula_nodes parts) + 1
formula_nodes-Node op parts t = formula_fold formula_nodes_step (NodeF op parts t) _ (rolls-Node op parts t)

pub formula_nodes-Bind : (binder : Binder) (types : List Ty) (parts : List Formula) (t : Ty) → formula_nodes (Bind binder types parts t) ≡ sum (map formula_nodes parts) + 1
formula_nodes-Bind binder types parts t = formula_fold formula_nodes_step (BindF binder types parts t) _ (rolls-Bind binder types parts t)

pub formula_height-Node : (op : Op) (parts : List Formula) (t : Ty) → formula_height (Node op parts t) ≡ greatest (map formula_height parts) + 1
formula_height-Node op parts t = formula_fold formula_height_step (NodeF op parts t) _ (rolls-Node op parts t)

pub formula_height-Bind : (binder : Binder) (types : List Ty) (parts : List Formula) (t : Ty) → formula_height (Bind binder types parts t) ≡ greatest (map formula_height parts) + 1
formula_height-Bind binder types parts t = formula_fold formula_height_step (BindF binder types parts t) _ (rolls-Bind binder types parts t)

pub has_types_within-Node : (limit : ℕ) (op : Op) (parts : List Formula) (t : Ty) → has_types_within limit (Node op parts t) ≡ (is_type_within limit t && all_hold (map (has_types_within limit) parts))
has_types_within-Node limit op parts t = formula_fold (has_types_within_step limit) (NodeF op parts t) _ (rolls-Node op parts t)

pub has_types_within-Bind : (limit : ℕ) (binder : Binder) (types : List Ty) (parts : List Formula) (t : Ty) → has_types_within limit (Bind binder types parts t) ≡ (is_type_within limit t && all_hold (map (is_type_within limit) types) && all_hold (map (has_types_within limit) parts))
has_types_within-Bind limit binder types parts t = formula_fold (has_types_within_step limit) (BindF binder types parts t) _ (rolls-Bind binder types parts t)

pub occurrences-Free : (name : List ℕ) (t : Ty) → occurrences (Free name t) ≡ (name, t) ∷ []
occurrences-Free name t = formula_fold occurrences_step (FreeF name t) _ (rolls-Free name t)

pub occurrences-Node : (op : Op) (parts : List Formula) (t : Ty) → occurrences (Node op parts t) ≡ joined (map occurrences parts)
occurrences-Node op parts t = formula_fold occurrences_step (NodeF op parts t) _ (rolls-Node op parts t)

pub occurrences-Bind : (binder : Binder) (types : List Ty) (parts : List Formula) (t : Ty) → occurrences (Bind binder types parts t) ≡ joined (map occurrences parts)
occurrences-Bind binder types parts t = formula_fold occurrences_step (BindF binder types parts t) _ (rolls-Bind binder types parts t)

pub identifiers-Free : (name : List ℕ) (t : Ty) → identifiers (Free name t) ≡ (name, t) ∷ carriers t
identifiers-Free name t = formula_fold identifiers_step (FreeF name t) _ (rolls-Free name t)

pub identifiers-Bound : (i : ℕ) (t : Ty) → identifiers (Bound i t) ≡ carriers t
identifiers-Bound i t = formula_fold identifiers_step (BoundF i t) _ (rolls-Bound i t)

pub identifiers-Node : (op : Op) (parts : List Formula) (t : Ty) → identifiers (Node op parts t) ≡ joined (map identifiers parts) ++ carriers t
identifiers-Node op parts t = formula_fold identifiers_step (NodeF op parts t) _ (rolls-Node op parts t)

pub identifiers-Bind : (binder : Binder) (types : List Ty) (parts : List Formula) (t : Ty) → identifiers (Bind binder types parts t) ≡ joined (map carriers types) ++ joined (map identifiers parts) ++ carriers t
identifiers-Bind binder types parts t = formula_fold identifiers_step (BindF binder types parts t) _ (rolls-Bind binder types parts t)

pub substituted-Int : (pairs : List (List ℕ × Formula)) (n : ℤ) → substituted pairs (Int n) ≡ Int n
substituted-Int pairs n = formula_fold (substituted_step pairs) (IntF n) _ (rolls-Int n) ∙ rolls-Int n

pub substituted-Free : (pairs : List (List ℕ × Formula)) (name : List ℕ) (t : Ty) → substituted pairs (Free name t) ≡ unwrap_or (lookup (bytes_eq name) pairs) (Free name t)
substituted-Free pairs name t = formula_fold (substituted_step pairs) (FreeF name t) _ (rolls-Free name t) ∙ ap (unwrap_or (lookup (bytes_eq name) pairs)) (rolls-Free name t)

pub substituted-Bound : (pairs : List (List ℕ × Formula)) (i : ℕ) (t : Ty) → substituted pairs (Bound i t) ≡ Bound i t
substituted-Bound pairs i t = formula_fold (substituted_step pairs) (BoundF i t) _ (rolls-Bound i t) ∙ rolls-Bound i t

pub substituted-Node : (pairs : List (List ℕ × Formula)) (op : Op) (parts : List Formula) (t : Ty) → substituted pairs (Node op parts t) ≡ Node op (map (substituted pairs) parts) t
substituted-Node pairs op parts t = formula_fold (substituted_step pairs) (NodeF op parts t) _ (rolls-Node op parts t) ∙ rolls-Node op (map (substituted pairs) parts) t

pub substituted-Bind : (pairs : List (List ℕ × Formula)) (binder : Binder) (types : List Ty) (parts : List Formula) (t : Ty) → substituted pairs (Bind binder types parts t) ≡ Bind binder types (map (substituted pairs) parts) t
substituted-Bind pairs binder types parts t = formula_fold (substituted_step pairs) (BindF binder types parts t) _ (rolls-Bind binder types parts t) ∙ rolls-Bind binder types (map (substituted pairs) parts) t

pub ruleset size_equations = (type_nodes-Pow, type_nodes-Pair, formula_nodes-Node, formula_nodes-Bind, formula_height-Node, formula_height-Bind, has_types_within-Node, has_types_within-Bind)

pub ruleset occurrence_equations = (occurrences-Free, occurrences-Node, occurrences-Bind)

pub ruleset identifier_equations = (carriers-Given, carriers-Pow, carriers-Pair, identifiers-Free, identifiers-Bound, identifiers-Node, identifiers-Bind)

pub ruleset substitution_equations = (substituted-Int, substituted-Free, substituted-Bound, substituted-Node, substituted-Bind)
