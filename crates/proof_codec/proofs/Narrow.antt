-- Fewer values of the same bytes.
use Rattle.std.proofs.Common.{◌≡◌, subst, ℕ, true, false, List, IsTrue}
use Rattle.proof_codec.specs.declared.reader.ReadFault.{ReadFault}
use Rattle.proof_codec.specs.declared.reader.ReadFault.TheVariants as faults
use Rattle.proof_codec.specs.Forms.{BeginsNone}
use Rattle.proof_codec.specs.Private.{IsReadAs, Misses}

module _ {A : Type 0} (P Q : A → Type 0) (f : A → List ℕ) (fewer : (x : A) → Q x → P x) (old new : List ℕ) where
  pub narrow_read : (x : A) → IsReadAs P f old x new → Q x → IsReadAs Q f old x new
  narrow_read x read good = record {
    here = record { good = good; split = read.here.split };
    only = λ y others begins. read.only y others (record { good = fewer y begins.good; split = begins.split });
  }

  pub narrow_out : (x : A) → IsReadAs P f old x new → (Q x → ⊥) → BeginsNone Q f old
  narrow_out x read bad = record { none = λ y others begins. bad (subst Q (read.only y others (record { good = fewer y begins.good; split = begins.split })).0 begins.good) }

  pub narrow_none : (fault : ReadFault) → Misses P f old fault → Misses Q f old fault
  narrow_none faults.OutOfMemory bad = tt
  narrow_none faults.Bad bad = record { none = λ y others begins. bad.none y others (record { good = fewer y begins.good; split = begins.split }) }
