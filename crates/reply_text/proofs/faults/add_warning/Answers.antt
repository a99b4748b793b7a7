use Rattle.std.proofs.Common.{◌≡◌, ◌++◌, ◌∙◌, ap, List, ℕ}
use Rattle.std.specs.Prelude.{string_bytes, codes}
use Rattle.reply_text.proofs.Joining.{step, then_all}
use Rattle.reply_text.proofs.faults.add_warning.Goals as goal

pub returns : goal.returns
returns c =
    let a = string_bytes c.args.out.now in
    let one = string_bytes c.add_words.new.out in
    let two = string_bytes c.add_words-2.new.out in
    let three = string_bytes c.add_words-3.new.out in
    let four = string_bytes c.add_words-4.new.out in
    let machine : List ℕ = c.args.machine.now in
    let event : List ℕ = c.args.event.now in
    let with_machine : two ≡ one ++ machine = c.in_ok-add_words-2.ensures ∙ ap (λ (w : List ℕ). one ++ w) c.as_text.ensures.text in
    let with_event : four ≡ three ++ event = c.in_ok-add_words-4.ensures ∙ ap (λ (w : List ℕ). three ++ w) c.as_text-2.ensures.text in
    let to_two = step a one two (codes "warning ") machine c.in_ok-add_words.ensures with_machine in
    let to_three = step a two three (codes "warning " ++ machine) (codes ": event ") to_two c.in_ok-add_words-3.ensures in
    let to_four = step a three four (codes "warning " ++ machine ++ codes ": event ") event to_three with_event in
    then_all c.add_words-5.result a four (string_bytes c.add_words-5.new.out) (codes "warning " ++ machine ++ codes ": event " ++ event) (codes " is not refined\n")
    to_four c.add_words-5.ensures
