use Rattle.std.proofs.Common.{refl, ◌-◌, length}
use Rattle.check_input.proofs.Pieces.{cut_boundary}
use Rattle.check_input.proofs.cutting.split_front.Goals as goal

pub split_at-requires : goal.split_at-requires
split_at-requires c =
    let part = c.from_heading-part.result.now in
    let lines = c.from_heading-part.ensures.passes in
    cut_boundary c.args.text.now lines.passed part lines.whole (length c.args.text.now - length part) refl c.from_heading-part.utf8
