use Rattle.std.proofs.Common.{◌∙◌, ◌-◌, ap, arith, length, take, drop}
use Rattle.std.specs.Prelude.{min}
use Rattle.refine_check.proofs.Parts.{part}
use Rattle.refine_check.proofs.lost.variables_of.Goals as goal

pub returns : goal.returns
returns c =
    ap (λ xs. take (c.min-end.result - c.min-from.result) (drop c.min-from.result xs)) c.entries-all.ensures.entries
    ∙ part c.args.machine.now.env c.args.machine.now.env_of c.args.machine.now.variables_from c.min-end.result (c.min-end.result - c.min-from.result) c.min-from.result
    (c.min-end.ensures ∙ ap (λ xs. min (length xs) (length c.items.result.now)) c.entries-all.ensures.entries ∙ ap (λ ys. min (length c.args.machine.now.env) (length ys)) c.items.ensures)
    c.min-from.ensures (omega arith)
