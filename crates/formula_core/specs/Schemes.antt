-- The table of types: the types of an operator's operands and its own, as type schemes over the letters α, β, γ and δ, which stand for any types of values.
use Rattle.std.specs.Prelude.{◌≡◌, ℕ, ◌-◌, List, [], ◌∷◌, map, replicate, IsTrue}
use Rattle.formula_core.specs.declared.ty.Ty.{Ty}
use Rattle.formula_core.specs.declared.ty.Ty.TheVariants as ty
use Rattle.formula_core.specs.declared.op.Binder.{Binder}
use Rattle.formula_core.specs.declared.op.Binder.TheVariants as binder
use Rattle.formula_core.specs.declared.row.Row.{Row}
use Rattle.formula_core.specs.declared.row.Row.TheVariants.{Nullary, Unary, Binary, SetExtension}
use Rattle.formula_core.specs.declared.row.NullaryRow.{NullaryRow}
use Rattle.formula_core.specs.declared.row.NullaryRow.TheVariants as nullary
use Rattle.formula_core.specs.declared.row.UnaryRow.{UnaryRow}
use Rattle.formula_core.specs.declared.row.UnaryRow.TheVariants as unary
use Rattle.formula_core.specs.declared.row.BinaryRow.{BinaryRow}
use Rattle.formula_core.specs.declared.row.BinaryRow.TheVariants as binary
use Rattle.formula_core.specs.Types.{is_value_type}

-- a type with letters
pub data Scheme : Type 0 where
  alpha : Scheme
  beta : Scheme
  gamma : Scheme
  delta : Scheme
  integer : Scheme
  boolean : Scheme
  truth : Scheme
  power : Scheme → Scheme
  pair : Scheme → Scheme → Scheme

-- the type of the relations between two types
abbrev pub relation_scheme : Scheme → Scheme → Scheme
relation_scheme from to = power (pair from to)

-- the type of an operator without operand
abbrev pub nullary_scheme : NullaryRow → Scheme
nullary_scheme nullary.Predicate = truth
nullary_scheme nullary.TruthValue = boolean
nullary_scheme nullary.TruthValueSet = power boolean
nullary_scheme nullary.IntegerSet = power integer
nullary_scheme nullary.EmptySet = power alpha
nullary_scheme nullary.Identity = relation_scheme alpha alpha
nullary_scheme nullary.FirstProjection = relation_scheme (pair alpha beta) alpha
nullary_scheme nullary.SecondProjection = relation_scheme (pair alpha beta) beta
nullary_scheme nullary.IntegerMap = relation_scheme integer integer

-- the type of the operand of an operator, and of the operator
abbrev pub unary_scheme : UnaryRow → Scheme × Scheme
unary_scheme unary.Negation = (truth, truth)
unary_scheme unary.Finiteness = (power alpha, truth)
unary_scheme unary.Opposite = (integer, integer)
unary_scheme unary.Converse = (relation_scheme alpha beta, relation_scheme beta alpha)
unary_scheme unary.PowerSet = (power alpha, power (power alpha))
unary_scheme unary.Cardinality = (power alpha, integer)
unary_scheme unary.Domain = (relation_scheme alpha beta, power alpha)
unary_scheme unary.Range = (relation_scheme alpha beta, power beta)
unary_scheme unary.Flattening = (power (power alpha), power alpha)
unary_scheme unary.Extremum = (power integer, integer)
unary_scheme unary.TruthOf = (truth, boolean)

-- the types of the two operands of an operator, and of the operator
abbrev pub binary_scheme : BinaryRow → Scheme × Scheme × Scheme
binary_scheme binary.Connective = (truth, truth, truth)
binary_scheme binary.Equality = (alpha, alpha, truth)
binary_scheme binary.Membership = (alpha, power alpha, truth)
binary_scheme binary.Inclusion = (power alpha, power alpha, truth)
binary_scheme binary.Comparison = (integer, integer, truth)
binary_scheme binary.Maplet = (alpha, beta, pair alpha beta)
binary_scheme binary.RelationSet = (power alpha, power beta, power (relation_scheme alpha beta))
binary_scheme binary.SetOperation = (power alpha, power alpha, power alpha)
binary_scheme binary.Product = (power alpha, power beta, relation_scheme alpha beta)
binary_scheme binary.DomainFilter = (power alpha, relation_scheme alpha beta, relation_scheme alpha beta)
binary_scheme binary.RangeFilter = (relation_scheme alpha beta, power beta, relation_scheme alpha beta)
binary_scheme binary.Overriding = (relation_scheme alpha beta, relation_scheme alpha beta, relation_scheme alpha beta)
binary_scheme binary.Composition = (relation_scheme alpha beta, relation_scheme beta gamma, relation_scheme alpha gamma)
binary_scheme binary.ParallelProduct = (relation_scheme alpha beta, relation_scheme gamma delta, relation_scheme (pair alpha gamma) (pair beta delta))
binary_scheme binary.DirectProduct =
    (relation_scheme alpha beta, relation_scheme alpha gamma, relation_scheme alpha (pair beta gamma))
binary_scheme binary.Interval = (integer, integer, power integer)
binary_scheme binary.Arithmetic = (integer, integer, integer)
binary_scheme binary.Application = (relation_scheme alpha beta, alpha, beta)
binary_scheme binary.Image = (relation_scheme alpha beta, power alpha, power beta)

-- The types of the operands of an operator, of which a set extension has any number `k`, but at least one.
abbrev pub operand_schemes : Row → ℕ → List Scheme
operand_schemes (Nullary row) k = []
operand_schemes (Unary row) k = (unary_scheme row).0 ∷ []
operand_schemes (Binary row) k = (binary_scheme row).0 ∷ (binary_scheme row).1 ∷ []
operand_schemes SetExtension k = alpha ∷ replicate (k - 1) alpha

-- the type of an operator
abbrev pub result_scheme : Row → Scheme
result_scheme (Nullary row) = nullary_scheme row
result_scheme (Unary row) = (unary_scheme row).1
result_scheme (Binary row) = (binary_scheme row).2
result_scheme SetExtension = power alpha

-- the types of the parts of a binder
abbrev pub part_schemes : Binder → List Scheme
part_schemes binder.ForAll = truth ∷ []
part_schemes binder.Exists = truth ∷ []
part_schemes binder.Comprehension = truth ∷ alpha ∷ []
part_schemes binder.QuantifiedUnion = truth ∷ power alpha ∷ []
part_schemes binder.QuantifiedIntersection = truth ∷ power alpha ∷ []

-- the type of a binder
abbrev pub binder_scheme : Binder → Scheme
binder_scheme binder.ForAll = truth
binder_scheme binder.Exists = truth
binder_scheme binder.Comprehension = power alpha
binder_scheme binder.QuantifiedUnion = power alpha
binder_scheme binder.QuantifiedIntersection = power alpha

-- a type for each letter
pub record Letters : Type 0 where
  pub alpha : Ty
  pub beta : Ty
  pub gamma : Ty
  pub delta : Ty

-- each of them is a type of values
pub record AreValues (letters : Letters) : Type 0 where
  pub alpha : IsTrue (is_value_type letters.alpha)
  pub beta : IsTrue (is_value_type letters.beta)
  pub gamma : IsTrue (is_value_type letters.gamma)
  pub delta : IsTrue (is_value_type letters.delta)

-- the type that a scheme is with types for its letters
abbrev pub type_of_scheme : Letters → Scheme → Ty
type_of_scheme letters alpha = letters.alpha
type_of_scheme letters beta = letters.beta
type_of_scheme letters gamma = letters.gamma
type_of_scheme letters delta = letters.delta
type_of_scheme letters integer = ty.Int
type_of_scheme letters boolean = ty.Bool
type_of_scheme letters truth = ty.Truth
type_of_scheme letters (power members) = ty.Pow (type_of_scheme letters members)
type_of_scheme letters (pair left right) = ty.Pair (type_of_scheme letters left) (type_of_scheme letters right)

-- There are types of values for the letters with which `types` are those of the operands, and `t` is the type of the whole.
pub record IsSchemeInstance (operands : List Scheme) (whole : Scheme) (types : List Ty) (t : Ty) : Type 0 where
  pub letters : Letters
  pub values : AreValues letters
  pub operands_are : types ≡ map (type_of_scheme letters) operands
  pub whole_is : t ≡ type_of_scheme letters whole
