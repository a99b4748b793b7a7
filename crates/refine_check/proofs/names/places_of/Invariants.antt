use Rattle.std.proofs.Common.{◌≡◌, ℕ, List, drop, bytes_eq}
use Rattle.refine_check.specs.Private.{first_index, index_in}
use Rattle.model_core.specs.Borrowed.{texts}
use Rattle.refine_check.proofs.Placing.{behind}
use Rattle.refine_check.proofs.names.places_of.Given as goal

abbrev pub invariant-loop-place : goal.invariant-loop-place
invariant-loop-place l = (name : List ℕ) → index_in l.places name ≡ behind l.place (first_index (bytes_eq name) (texts (drop l.place l.list)))
