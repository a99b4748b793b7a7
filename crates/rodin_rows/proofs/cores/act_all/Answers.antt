use Rattle.std.proofs.Common.{◌≤◌, sym, subst, arith}
use Rattle.std.specs.FinMap.{len, len-empty}
use Rattle.core_steps.specs.Durable.{text_cmp}
use Rattle.rodin_rows.proofs.cores.act_all.Goals as goal

pub loop-at-init : goal.loop-at-init
loop-at-init g c =
    subst (λ s. (s.next ≤ 1) × (len s.durable.proofs ≤ 0)) (sym c.requires.fresh)
    (omega arith, subst (λ n. n ≤ 0) (sym (len-empty text_cmp _)) (omega arith))
