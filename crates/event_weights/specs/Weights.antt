-- What events weigh.
use Rattle.std.specs.Prelude.{ℕ, ◌+◌, ◌*◌, length, sum, map, Option, Some, None}
use Rattle.formula_core.specs.declared.raw.Raw.{Raw}
use Rattle.formula_core.specs.declared.raw.Raw.TheOpen.{Raw-F, RawBound-F, Int, Name, Node, Bind}
use Rattle.formula_core.specs.declared.raw.Raw.TheFolds.{fold-Raw}
use Rattle.sequent_core.specs.declared.Hint.{Hint}
use Rattle.sequent_core.specs.declared.Attempt.{Attempt}
use Rattle.sequent_core.specs.declared.Attempt.TheVariants.{Found, NoProof, NoMemory}
use Rattle.proof_codec.specs.ProofTrees.{tree_bytes}
use Rattle.core_steps.specs.declared.events.Event.{Event}
use Rattle.core_steps.specs.declared.events.Event.TheVariants.{Edit, Delete, Build, Step, Prune, Take, Finish, Purge, Ask}

abbrev pub raw_nodes_step : Raw-F ℕ ℕ → ℕ
raw_nodes_step (Int n place) = 1
raw_nodes_step (Name x place) = 1
raw_nodes_step (Node op parts place) = sum parts + 1
raw_nodes_step (Bind binder bound parts place) = sum bound + sum parts + 1

abbrev pub type_nodes_or : Option ℕ → ℕ
type_nodes_or None = 0
type_nodes_or (Some nodes) = nodes

abbrev pub bound_nodes_step : RawBound-F ℕ ℕ → ℕ
bound_nodes_step b = type_nodes_or b.ty + 1

-- the nodes of a written formula, each name that it binds among them
abbrev pub raw_nodes : Raw → ℕ
raw_nodes = fold-Raw ℕ ℕ raw_nodes_step bound_nodes_step

-- those of a hint: the nodes of its terms, and one for each member of its other lists
abbrev pub hint_nodes : Hint → ℕ
hint_nodes h = sum (map raw_nodes h.terms) + length h.hyps + length h.multipliers + length h.names + length h.place

-- the bytes of the proof that a prover found
abbrev pub attempt_size : Attempt → ℕ
attempt_size (Found tree) = length (tree_bytes tree)
attempt_size NoProof = 0
attempt_size NoMemory = 0

-- what an event weighs: taking and asking nothing
abbrev pub weight_of : Event → ℕ
weight_of (Edit name text) = 16 + length text
weight_of (Delete name) = 16
weight_of Build = 16
weight_of (Step name path kind hint) = 16 + 16 * (hint_nodes hint + length path)
weight_of (Prune name path) = 16 + 16 * length path
weight_of (Take name) = 0
weight_of (Finish number attempt) = 16 + attempt_size attempt
weight_of Purge = 16
weight_of (Ask question) = 0
