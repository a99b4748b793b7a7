-- What a well membership and a well pair denote.
use Rattle.std.proofs.Common.{List, [], ap, map, sym, true, ℕ, ◌&&◌, ◌∙◌, ◌∷◌, ◌≡◌}
use Rattle.formula_core.proofs.Weakening.{first_true, second_true}
use Rattle.formula_core.specs.Types.{is_set_of, is_truth, is_value_type}
use Rattle.formula_core.specs.Wellness.{type_of}
use Rattle.formula_core.specs.declared.Formula.{Formula}
use Rattle.formula_core.specs.declared.Formula.TheVariants.{Node}
use Rattle.formula_core.specs.declared.Op.{Op}
use Rattle.formula_core.specs.declared.Op.TheVariants as op
use Rattle.formula_core.specs.declared.Ty.{Ty}
use Rattle.formula_core.specs.declared.Ty.TheVariants as ty
use Rattle.well_defined.specs.Predicates.{member}
use Rattle.meanings.specs.Denotations.{Assignment, denotation}
use Rattle.meanings.specs.Operations.{contains, truth_value}
use Rattle.meanings.specs.Universes.{Valuation, Universe}
use Rattle.meanings.proofs.Fitting.{IsWellIn, row_of_well}
use Rattle.meanings.proofs.Types.{pair_of_is, set_of_is, truth_is, type-Node}
use Rattle.true_laws.proofs.Words.{of_membership, of_pair, of_predicate}
pub use Rattle.true_laws.proofs.Words.{in_made, paired}

-- the types in a well membership and in a well maplet
pub member_types : (e s : Formula) (t : Ty) (types : List Ty) → IsWellIn (Node op.Member (e ∷ s ∷ []) t) types
    → (type_of s ≡ ty.Pow (type_of e)) × (t ≡ ty.Truth)
member_types e s t types h =
    let fit = is_value_type (type_of e) && is_set_of (type_of s) (type_of e) in
    let k : (fit && is_truth t) ≡ true = row_of_well op.Member (e ∷ s ∷ []) t types h in
    let set = second_true (is_value_type (type_of e)) _ (first_true fit _ k) in
    (set_of_is (type_of s) (type_of e) set, truth_is t (second_true fit _ k))

pub maplet_type : (e f : Formula) (t : Ty) (types : List Ty) → IsWellIn (Node op.Maplet (e ∷ f ∷ []) t) types
    → t ≡ ty.Pair (type_of e) (type_of f)
maplet_type e f t types h =
    let k = row_of_well op.Maplet (e ∷ f ∷ []) t types h in
    pair_of_is t (type_of e) (type_of f) (second_true (is_value_type (type_of e) && is_value_type (type_of f)) _ k)

module _ {carrier : List ℕ → Type 0} (U : Universe carrier) (names : Valuation carrier) where
  pub member_made : (e : Formula) (o : Op) (parts : List Formula) (u t : Ty) (types : List Ty)
      → IsWellIn (Node op.Member (e ∷ Node o parts u ∷ []) t) types → (σ : Assignment U)
      → denotation U names (Node op.Member (e ∷ Node o parts u ∷ []) t) σ
      ≡ in_made U names o (map (λ f. denotation U names f σ) parts) (denotation U names e σ)
  member_made e o parts u t types h σ =
      let known = member_types e (Node o parts u) t types h in
      let u_is = sym (type-Node o parts u) ∙ known.0 in
      (λ i. denotation U names (Node op.Member (e ∷ Node o parts (u_is i) ∷ []) (known.1 i)) σ)
      ∙ of_membership U names e o parts σ

  pub maplet_means : (e f : Formula) (t : Ty) → t ≡ ty.Pair (type_of e) (type_of f) → (σ : Assignment U)
      → denotation U names (Node op.Maplet (e ∷ f ∷ []) t) σ ≡ paired U names (denotation U names e σ)
      (denotation U names f σ)
  maplet_means e f t is σ = ap (λ t. denotation U names (Node op.Maplet (e ∷ f ∷ []) t) σ) is ∙ of_pair U names e f σ

  pub member_means : (e s : Formula) (σ : Assignment U) → truth_value U (denotation U names (member e s) σ)
      ≡ contains U (denotation U names s σ) (denotation U names e σ).0 (denotation U names e σ).1
  member_means e s σ = ap (truth_value U) (of_predicate U names op.Member (e ∷ s ∷ []) σ)
