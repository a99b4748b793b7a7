use Rattle.std.proofs.Common.{◌∙◌, sym}
use Rattle.check_input.proofs.HeadingLines.{heading_by, is_heading, has_no_blank, has_no_word}
use Rattle.check_input.proofs.headings.heading_of.Goals as goal
use Rattle.check_input.proofs.headings.heading_of.Goals.{else-is_heading_word-via-then-is_heading_word+else-behind-rest, else-is_heading_word-via-else-is_heading_word}

pub returns-then-behind-rest : goal.returns-then-behind-rest
returns-then-behind-rest c =
    let word = c.split_at.result.0.now in
    let rest = c.split_at.result.1.now in
    let behind = c.past_blanks-behind.result.now in
    let split = heading_by c.args.line.now word rest behind c.min.result c.min.ensures c.split_at.ensures.front c.split_at.ensures.back c.past_blanks-behind.ensures in
    is_heading c.args.line.now word rest behind split _ (sym c.is_heading_word.ensures ∙ c.if-is_heading_word.true) c.if-behind-rest.true c.name_in_front.ensures

pub returns-else-is_heading_word : goal.returns-else-is_heading_word
returns-else-is_heading_word c =
    let word = c.split_at.result.0.now in
    let rest = c.split_at.result.1.now in
    let behind = c.past_blanks-behind.result.now in
    let split = heading_by c.args.line.now word rest behind c.min.result c.min.ensures c.split_at.ensures.front c.split_at.ensures.back c.past_blanks-behind.ensures in
    elim c.else-is_heading_word.branch [
      | else-is_heading_word-via-then-is_heading_word+else-behind-rest w ↦
          has_no_blank c.args.line.now word rest behind split (sym c.is_heading_word.ensures ∙ w.if-is_heading_word.true) w.if-behind-rest.false
      | else-is_heading_word-via-else-is_heading_word w ↦ has_no_word c.args.line.now word rest behind split (sym c.is_heading_word.ensures ∙ w.if-is_heading_word.false)
    ]
