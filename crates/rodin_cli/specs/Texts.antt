-- What is printed.
use Rattle.std.specs.Prelude.{ℕ, List, ◌++◌, Option, None}
use Rattle.std.specs.List.{flat_map}
use Rattle.build_core.specs.declared.FaultLine.{FaultLine}
use Rattle.proof_entries.specs.declared.Origin.{Origin}
use Rattle.core_steps.specs.declared.Status.{Status}
use Rattle.reply_text.specs.Faults.{fault_lines, warning_lines}
use Rattle.reply_text.specs.Statuses.{status_line}

-- the printed text of the reply on statuses, without its summary line and without who made the proofs
abbrev pub status_lines : List (List ℕ × Status × Option Origin) → List ℕ
status_lines shown = flat_map (λ x. status_line x.0 x.1 None) shown

-- the faults and the warnings, and then the statuses
abbrev pub printed_lines : List FaultLine → List (List ℕ × List ℕ) → List (List ℕ × Status × Option Origin) → List ℕ
printed_lines told warned shown = fault_lines told ++ warning_lines warned ++ status_lines shown
