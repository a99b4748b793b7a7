use Rattle.std.proofs.Common.{◌++◌}
use Rattle.std.specs.Prelude.{string_bytes, codes}
use Rattle.std.specs.Fmt.{decimal}
use Rattle.reply_text.proofs.Joining.{step, then_all}
use Rattle.reply_text.proofs.replies.add_built.Goals as goal

pub returns : goal.returns
returns c =
    let a = string_bytes c.args.out.now in
    let one = string_bytes c.add_words.new.out in
    let two = string_bytes c.add_number.new.out in
    let three = string_bytes c.add_words-2.new.out in
    let four = string_bytes c.add_number-2.new.out in
    let five = string_bytes c.add_words-3.new.out in
    let six = string_bytes c.add_number-3.new.out in
    let seven = string_bytes c.add_words-4.new.out in
    let text_two = codes "built: " ++ decimal c.args.components in
    let text_three = text_two ++ codes " components, " in
    let text_four = text_three ++ decimal c.args.faulted in
    let text_five = text_four ++ codes " faulted, " in
    let text_six = text_five ++ decimal c.args.obligations in
    let to_two = step a one two (codes "built: ") (decimal c.args.components) c.in_ok-add_words.ensures c.in_ok-add_number.ensures in
    let to_three = step a two three text_two (codes " components, ") to_two c.in_ok-add_words-2.ensures in
    let to_four = step a three four text_three (decimal c.args.faulted) to_three c.in_ok-add_number-2.ensures in
    let to_five = step a four five text_four (codes " faulted, ") to_four c.in_ok-add_words-3.ensures in
    let to_six = step a five six text_five (decimal c.args.obligations) to_five c.in_ok-add_number-3.ensures in
    let to_seven = step a six seven text_six (codes " obligations") to_six c.in_ok-add_words-4.ensures in
    then_all c.add_words-5.result a seven (string_bytes c.add_words-5.new.out) (text_six ++ codes " obligations") (codes "\n") to_seven c.add_words-5.ensures
