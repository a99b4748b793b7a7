-- A well formula within the limits is one of small height.
use Rattle.std.proofs.Common.{◌≡◌, ℕ, Bool, true, false, List, IsTrue, arith}
use Rattle.formula_core.specs.declared.Formula.{Formula}
use Rattle.formula_core.specs.Sizes.{IsWithinLimits}
use Rattle.formula_core.specs.Wellness.{is_well}
use Rattle.proof_codec.specs.declared.reader.ReadFault.{ReadFault}
use Rattle.proof_codec.specs.Forms.{BeginsNone}
use Rattle.proof_codec.specs.Private.{IsReadAs, Misses, IsFormulaWithin}
use Rattle.proof_codec.specs.Formulas.{formula_bytes, IsGoodFormula}
use Rattle.proof_codec.proofs.Narrow.{narrow_read, narrow_out, narrow_none}

fewer : (f : Formula) → IsGoodFormula f → IsFormulaWithin 4096 f
fewer f is = record { coded = is.coded; low = is.within.1 }

pub formula_read : (old new : List ℕ) (f : Formula) → IsReadAs (IsFormulaWithin 4096) formula_bytes old f new → IsWithinLimits f → IsTrue (is_well f) → IsReadAs IsGoodFormula formula_bytes old f new
formula_read old new f read within well = narrow_read (IsFormulaWithin 4096) IsGoodFormula formula_bytes fewer old new f read (record { coded = read.here.good.coded; within = within; well = well })

pub not_within : (old new : List ℕ) (f : Formula) → IsReadAs (IsFormulaWithin 4096) formula_bytes old f new → (IsWithinLimits f → ⊥) → BeginsNone IsGoodFormula formula_bytes old
not_within old new f read never = narrow_out (IsFormulaWithin 4096) IsGoodFormula formula_bytes fewer old new f read (λ is. never is.within)

pub not_well : (old new : List ℕ) (f : Formula) → IsReadAs (IsFormulaWithin 4096) formula_bytes old f new → is_well f ≡ false → BeginsNone IsGoodFormula formula_bytes old
not_well old new f read never = narrow_out (IsFormulaWithin 4096) IsGoodFormula formula_bytes fewer old new f read (λ is. let well : is_well f ≡ true = is.well in cc)

pub no_formula_there : (fault : ReadFault) (old : List ℕ) → Misses (IsFormulaWithin 4096) formula_bytes old fault → Misses IsGoodFormula formula_bytes old fault
no_formula_there fault old bad = narrow_none (IsFormulaWithin 4096) IsGoodFormula formula_bytes fewer old old fault bad
