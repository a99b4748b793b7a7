use Rattle.rodin_cli.proofs.Edits.{all_are_first, then_unchanged, built_or_full}
use Rattle.rodin_cli.proofs.round.begin.Goals as goal

pub returns-in-Ok-perform-clause-whole : goal.returns-in-Ok-perform-clause-whole
returns-in-Ok-perform-clause-whole g c =
    built_or_full c.args.parts.items c.args.session.now c.edit_all.new.session c.perform.new.session c.in-Ok-perform.reply c.numbers_of.result
    c.in-Ok.ensures.done c.in-Ok-perform.ensures.done c.numbers_of.ensures

pub returns-in-Err-perform-clause-front : goal.returns-in-Err-perform-clause-front
returns-in-Err-perform-clause-front g c =
    let edits = c.in-Ok.ensures.done in
    (edits.0, all_are_first c.args.parts.items edits.0 edits.1, then_unchanged c.args.session.now c.edit_all.new.session c.perform.new.session edits.0 edits.2 c.in-Err-perform.ensures.err)
