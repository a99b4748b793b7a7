use Rattle.std.proofs.Common.{◌≡◌, true, Global, Result, Ok, Err}
use Rattle.std.specs.Prelude.{IfOk, OnOk, String, string_bytes}
use Rattle.formula_core.specs.declared.memory.OutOfMemory.{OutOfMemory}
use Rattle.formula_core.specs.declared.formula.Formula.{Formula}
use Rattle.formula_core.specs.Wellness.{is_well}
use Rattle.formula_print.specs.Printing.{formula_text}
use Rattle.formula_print.specs.Held.{IsHeld}
use Rattle.math_print.specs.Back.{ReadsBack}
use Rattle.math_print.proofs.Reread.{reads_back}
use Rattle.math_print.proofs.rereading.text.Goals as goal

back : (f : Formula) (printed : Result (String Global) OutOfMemory) → is_well f ≡ true → IfOk printed (λ text. string_bytes text ≡ formula_text f) → OnOk printed (IsHeld f)
    → IfOk printed (λ text. ReadsBack f (string_bytes text))
back f (Ok text) well exact held = reads_back f (string_bytes text) exact well held.names held.counted held.narrow
back f (Err e) well exact held = tt

pub returns-clause-back : goal.returns-clause-back
returns-clause-back c = back c.args.formula.now c.text.result c.requires c.text.ensures.exact c.text.ensures.held
