use Rattle.std.proofs.Common.{◌≡◌, ◌∙◌, sym, ap, [], ◌∷◌, pos, negsuc}
use Rattle.rule_table.specs.Rows.{both}
use Rattle.short_proofs.proofs.Steps.{any_multipliers}
use Rattle.short_proofs.proofs.arithmetic.step_by_either.Goals as goal

pub step_from-requires : goal.step_from-requires
step_from-requires c = record { sound = any_multipliers [] (pos 1 ∷ []) (both c.args.goal.now (c.args.used.now ∷ []) []) c.requires.sound }

pub step_from-requires-2 : goal.step_from-requires-2
step_from-requires-2 c = record { sound = any_multipliers [] (negsuc 0 ∷ []) (both c.args.goal.now (c.args.used.now ∷ []) []) c.requires.sound }
