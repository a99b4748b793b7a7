use Rattle.std.proofs.Common.{◌++◌}
use Rattle.std.specs.Prelude.{string_bytes, codes}
use Rattle.std.specs.Fmt.{decimal}
use Rattle.reply_text.specs.Statuses.{line}
use Rattle.reply_text.proofs.Joining.{then_all}
use Rattle.reply_text.proofs.replies.add_no_ticket.Goals as goal

pub returns : goal.returns
returns c =
    then_all c.add_counted.result (string_bytes c.args.out.now) (string_bytes c.add_words.new.out) (string_bytes c.add_counted.new.out)
    (codes "refused: ") (line (codes "no ticket " ++ decimal c.args.number)) c.in_ok-add_words.ensures c.add_counted.ensures
