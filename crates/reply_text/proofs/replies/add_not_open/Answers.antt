use Rattle.std.proofs.Common.{◌++◌}
use Rattle.std.specs.Prelude.{string_bytes, codes}
use Rattle.reply_text.specs.Statuses.{line, named_status}
use Rattle.reply_text.proofs.Joining.{step, then_all}
use Rattle.reply_text.proofs.replies.add_not_open.Goals as goal

pub returns : goal.returns
returns c =
    let a = string_bytes c.args.out.now in
    let one = string_bytes c.add_words.new.out in
    let two = string_bytes c.add_words-2.new.out in
    then_all c.add_now.result a two (string_bytes c.add_now.new.out) (codes "refused: " ++ codes "nothing to try: ") (line (named_status c.args.name.now c.args.status))
    (step a one two (codes "refused: ") (codes "nothing to try: ") c.in_ok-add_words.ensures c.in_ok-add_words-2.ensures) c.add_now.ensures
