use Rattle.std.proofs.Common.{◌++◌, length}
use Rattle.std.specs.Prelude.{string_bytes, codes}
use Rattle.std.specs.Fmt.{decimal}
use Rattle.core_steps.specs.declared.Status.TheVariants.{Unattempted, Pending, Reviewed, Discharged, Broken}
use Rattle.reply_text.specs.Statuses.{count_with}
use Rattle.reply_text.proofs.Joining.{step, two_steps, then_all}
use Rattle.reply_text.proofs.statuses.add_summary.Goals as goal

pub returns : goal.returns
returns c =
    let shown = c.args.shown.now in
    let a = string_bytes c.args.out.now in
    let one = string_bytes c.add_number.new.out in
    let two = string_bytes c.add_words.new.out in
    let three = string_bytes c.add_count.new.out in
    let four = string_bytes c.add_count-2.new.out in
    let five = string_bytes c.add_count-3.new.out in
    let six = string_bytes c.add_count-4.new.out in
    let seven = string_bytes c.add_count-5.new.out in
    let text_two = decimal (length shown) ++ codes " obligations: " in
    let text_three = text_two ++ decimal (count_with Unattempted shown) ++ codes " unattempted, " in
    let text_four = text_three ++ decimal (count_with Pending shown) ++ codes " pending, " in
    let text_five = text_four ++ decimal (count_with Reviewed shown) ++ codes " reviewed, " in
    let text_six = text_five ++ decimal (count_with Discharged shown) ++ codes " discharged, " in
    let text_seven = text_six ++ decimal (count_with Broken shown) ++ codes " broken" in
    let to_two = step a one two (decimal (length shown)) (codes " obligations: ") c.in_ok-add_number.ensures c.in_ok-add_words.ensures in
    let to_three = two_steps a two three text_two (decimal (count_with Unattempted shown)) (codes " unattempted, ") to_two c.in_ok-add_count.ensures in
    let to_four = two_steps a three four text_three (decimal (count_with Pending shown)) (codes " pending, ") to_three c.in_ok-add_count-2.ensures in
    let to_five = two_steps a four five text_four (decimal (count_with Reviewed shown)) (codes " reviewed, ") to_four c.in_ok-add_count-3.ensures in
    let to_six = two_steps a five six text_five (decimal (count_with Discharged shown)) (codes " discharged, ") to_five c.in_ok-add_count-4.ensures in
    let to_seven = two_steps a six seven text_six (decimal (count_with Broken shown)) (codes " broken") to_six c.in_ok-add_count-5.ensures in
    then_all c.add_words-2.result a seven (string_bytes c.add_words-2.new.out) text_seven (codes "\n") to_seven c.add_words-2.ensures
