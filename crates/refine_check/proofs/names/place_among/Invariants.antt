use Rattle.std.proofs.Common.{◌≡◌, ℕ, List, take, bytes_eq}
use Rattle.model_core.specs.Each.{is_among}
use Rattle.refine_check.specs.Private.{first_index, index_in}
use Rattle.model_core.specs.Borrowed.{texts}
use Rattle.refine_check.proofs.names.place_among.Given as goal

abbrev pub invariant-loop-name : goal.invariant-loop-name
invariant-loop-name l =
    (list : List (List ℕ)) → ((name : List ℕ) → index_in l.places name ≡ first_index (bytes_eq name) list)
    → l.lowest ≡ first_index (is_among (texts (take l.name-index l.names))) list
