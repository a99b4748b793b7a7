-- The number of an operator is a byte.
use Rattle.std.proofs.Common.{ℕ, ◌<◌, List, arith}
use Rattle.formula_core.specs.declared.Op.{Op}
use Rattle.formula_core.specs.declared.Op.TheVariants as op
use Rattle.formula_core.specs.Numbers.{number_of}
use Rattle.proof_codec.specs.declared.reader.ReadFault.{ReadFault}
use Rattle.proof_codec.specs.declared.reader.ReadFault.TheVariants as faults
use Rattle.proof_codec.specs.Private.{Misses, op_bytes}
use Rattle.proof_codec.specs.Numbers.{IsByte, byte}
use Rattle.proof_codec.specs.Parts.{IsAny}

small : (o : Op) → number_of o < 256
small op.Top = omega arith
small _ = omega arith

pub no_op : (fault : ReadFault) (old : List ℕ) → Misses IsByte byte old fault → Misses IsAny op_bytes old fault
no_op faults.OutOfMemory old bad = tt
no_op faults.Bad old bad = record { none = λ o others begins. bad.none (number_of o) others (record { good = small o; split = begins.split }) }
