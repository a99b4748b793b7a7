use Rattle.std.proofs.Common.{◌∙◌, ap, ◌+◌, min, ◌==◌, not, length, arith}
use Rattle.std.specs.List.{prefix_len}
use Rattle.std.proofs.lemmas.List.Sums.{prefix_len-le-length}
use Rattle.check_input.proofs.Lines.{first_line_at, line_ends}
use Rattle.check_input.proofs.cutting.first_line.Goals as goal

pub overflow_add-bytes_before_feed : goal.overflow_add-bytes_before_feed
overflow_add-bytes_before_feed c = omega (arith, c.bytes_before_feed.ensures, c.as_bytes.ensures.len, prefix_len-le-length (λ x. not (x == 10)) c.as_bytes.result.now)

pub split_at-requires : goal.split_at-requires
split_at-requires c =
    let at = c.bytes_before_feed.ensures ∙ ap (prefix_len (λ x. not (x == 10))) c.as_bytes.ensures.value in
    line_ends c.args.text.now c.min.result (c.min.ensures ∙ ap (λ n. min (length c.args.text.now) (n + 1)) at) c.utf8.text

pub returns : goal.returns
returns c =
    let at = c.bytes_before_feed.ensures ∙ ap (prefix_len (λ x. not (x == 10))) c.as_bytes.ensures.value in
    rw (c.split_at.ensures.front, c.split_at.ensures.back)
    (first_line_at c.args.text.now c.min.result (c.min.ensures ∙ ap (λ n. min (length c.args.text.now) (n + 1)) at))
