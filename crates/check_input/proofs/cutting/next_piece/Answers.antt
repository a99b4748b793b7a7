use Rattle.std.proofs.Common.{◌∙◌, ap, refl, sym, ◌+◌, ◌-◌, length, ◌++◌, ◌∷◌, arith}
use Rattle.check_input.specs.Inputs.{line_feeds}
use Rattle.check_input.specs.PrivateCutting.{numbered_from}
use Rattle.check_input.proofs.Lines.{feeds_within}
use Rattle.check_input.proofs.Pieces.{piece_whole, first_piece, cut_length, cut_boundary, cut_take}
use Rattle.check_input.proofs.cutting.next_piece.Goals as goal

pub split_at-requires : goal.split_at-requires
split_at-requires c =
    let text = c.args.rest.text.now in
    let front = c.split_front.result.0.now in
    let part = c.split_front.result.1.now in
    let heading = c.first_line.result.0.now in
    let behind = c.first_line.result.1.now in
    let next = c.from_heading-next.result.now in
    let whole = piece_whole c.args.rest.line text front part heading behind next c.in_ok-name.name.now c.from_heading-next.ensures.passes c.split_front.ensures.whole c.first_line.ensures in
    cut_boundary text (front ++ (heading ++ c.from_heading-next.ensures.passes.passed)) next whole (length text - length next) refl c.from_heading-next.utf8

pub overflow_add-piece : goal.overflow_add-piece
overflow_add-piece c =
    omega (arith, c.requires.small, c.line_feeds.ensures, feeds_within c.split_front.result.0.now, cut_length c.args.rest.text.now c.split_front.result.0.now c.split_front.result.1.now c.split_front.ensures.whole)

pub line_feeds-requires-2 : goal.line_feeds-requires-2
line_feeds-requires-2 c = omega (arith, c.requires.small, c.split_at.ensures.front_len)

pub overflow_add-behind : goal.overflow_add-behind
overflow_add-behind c = omega (arith, c.requires.small, c.line_feeds-2.ensures, feeds_within c.split_at.result.0.now, c.split_at.ensures.front_len)

pub returns-clause-pieces : goal.returns-clause-pieces
returns-clause-pieces c =
    let text = c.args.rest.text.now in
    let front = c.split_front.result.0.now in
    let part = c.split_front.result.1.now in
    let heading = c.first_line.result.0.now in
    let behind = c.first_line.result.1.now in
    let next = c.from_heading-next.result.now in
    let name = c.in_ok-name.name.now in
    let lines = c.from_heading-next.ensures.passes in
    let piece = front ++ (heading ++ lines.passed) in
    let whole = piece_whole c.args.rest.line text front part heading behind next name lines c.split_front.ensures.whole c.first_line.ensures in
    let taken = c.split_at.ensures.front ∙ cut_take text piece next whole (length text - length next) refl in
    let feeds = c.line_feeds-2.ensures ∙ ap line_feeds taken in
    (λ i. (c.args.rest.line + c.line_feeds.ensures i, (name, taken i)) ∷ numbered_from (c.args.rest.line + feeds i) next)
    ∙ sym (first_piece c.args.rest.line text front part heading behind next name lines c.split_front.ensures.front c.split_front.ensures.parts c.first_line.ensures (sym c.in_ok-name.ensures.heading) c.from_heading-next.ensures.stops)

pub returns-clause-small : goal.returns-clause-small
returns-clause-small c =
    let next = c.from_heading-next.result.now in
    let lines = c.from_heading-next.ensures.passes in
    omega (
      arith,
      c.requires.small,
      c.line_feeds-2.ensures,
      feeds_within c.split_at.result.0.now,
      c.split_at.ensures.front_len,
      cut_length c.args.rest.text.now c.split_front.result.0.now c.split_front.result.1.now c.split_front.ensures.whole,
      cut_length c.split_front.result.1.now c.first_line.result.0.now c.first_line.result.1.now c.first_line.ensures.0,
      cut_length c.first_line.result.1.now lines.passed next lines.whole,
    )
