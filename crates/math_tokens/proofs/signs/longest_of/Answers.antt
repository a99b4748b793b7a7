use Rattle.std.proofs.Common.{[]}
use Rattle.math_tokens.proofs.Longest.{best-more}
use Rattle.math_tokens.proofs.signs.longest_of.Goals as goal

pub loop-form-preserved : goal.loop-form-preserved
loop-form-preserved c =
    best-more c.args.forms.now c.loop-form.form-index (record { ref_ptr = (0, 0); now = [] }, 0) c.args.bytes.now c.as_bytes.result.now
    c.loop-form.best c.better-best.result c.loop-form-test.true c.as_bytes.ensures.value c.better-best.ensures c.loop-form.invariant
