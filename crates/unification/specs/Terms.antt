-- Types with variables.
use Rattle.std.specs.Prelude.{ℕ, ◌+◌, List}
use Rattle.formula_core.specs.declared.ty.Ty.{Ty}
use Rattle.formula_core.specs.declared.ty.Ty.TheVariants as ty
use Rattle.formula_core.specs.declared.ty.Ty.TheOpen.{Ty-F, Int as IntF, Bool as BoolF, Given as GivenF, Pow as PowF, Pair as PairF, Truth as TruthF}
use Rattle.formula_core.specs.declared.ty.Ty.TheFolds.{fold-Ty}
use Rattle.formula_core.specs.Schemes as scheme
use Rattle.formula_core.specs.Schemes.{Scheme}
use Rattle.unification.specs.declared.term.Term.{Term}
use Rattle.unification.specs.declared.term.Term.TheVariants.{Int, Bool as BoolV, Truth, Given, Var, Pow', Pair'}

-- a type that may have variables
pub data Open : Type 0 where
  integers : Open
  booleans : Open
  predicates : Open
  carrier : List ℕ → Open
  variable : ℕ → Open
  powerset : Open → Open
  product : Open → Open → Open

-- what a term of the code is, wherever it lies in memory
abbrev pub term_of : Term → Open
term_of Int = integers
term_of BoolV = booleans
term_of Truth = predicates
term_of (Given name) = carrier name
term_of (Var i) = variable i
term_of (Pow' p a) = powerset (term_of a)
term_of (Pair' p a q b) = product (term_of a) (term_of b)

-- the type that a term stands for, where each variable has a type
abbrev pub value : (ℕ → Ty) → Open → Ty
value v integers = ty.Int
value v booleans = ty.Bool
value v predicates = ty.Truth
value v (carrier name) = ty.Given name
value v (variable i) = v i
value v (powerset a) = ty.Pow (value v a)
value v (product a b) = ty.Pair (value v a) (value v b)

abbrev pub open_of_step : Ty-F Open → Open
open_of_step IntF = integers
open_of_step BoolF = booleans
open_of_step TruthF = predicates
open_of_step (GivenF name) = carrier name
open_of_step (PowF a) = powerset a
open_of_step (PairF a b) = product a b

-- a type as one without variables
abbrev pub open_of : Ty → Open
open_of = fold-Ty Open open_of_step

-- a type scheme, whose letters are four variables from `n` on
abbrev pub instance_from : ℕ → Scheme → Open
instance_from n scheme.alpha = variable n
instance_from n scheme.beta = variable (n + 1)
instance_from n scheme.gamma = variable (n + 2)
instance_from n scheme.delta = variable (n + 3)
instance_from n scheme.integer = integers
instance_from n scheme.boolean = booleans
instance_from n scheme.truth = predicates
instance_from n (scheme.power a) = powerset (instance_from n a)
instance_from n (scheme.pair a b) = product (instance_from n a) (instance_from n b)
