use Rattle.std.proofs.Common.{ℕ, arith, rules, ap, ◌∙◌}
use Rattle.std.specs.Prelude.{replicate}
use Rattle.outside.proofs.Stops.{filled}
use Rattle.outside.proofs.replay.fill_inside.Goals as goal

pub returns : goal.returns
returns c = filled c.args.at c.args.count c.args.fill c.args.bytes.now c.fill.new.self _ _ c.min-start.ensures (omega (arith, c.min.ensures)) (c.fill.ensures.after (λ y is. is) ∙ ap (λ (n : ℕ). replicate n c.args.fill) (search rules))
