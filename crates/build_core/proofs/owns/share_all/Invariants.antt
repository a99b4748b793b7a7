use Rattle.std.proofs.Common.{◌≡◌, map, take}
use Rattle.std.specs.Arc.{arc_value}
use Rattle.build_core.proofs.owns.share_all.Given as goal

abbrev pub invariant-loop-obligation : goal.invariant-loop-obligation
invariant-loop-obligation l = map arc_value l.shared.items ≡ map arc_value (take l.obligation-index l.obligations)
