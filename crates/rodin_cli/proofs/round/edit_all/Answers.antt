use Rattle.std.proofs.Common.{rules}
use Rattle.std.proofs.lemmas.Iterator.Adapters.{YieldsList-from_vec}
use Rattle.std.proofs.lemmas.Iterator.Consumers.{YieldsList-so_far}
use Rattle.std.proofs.lemmas.Result.{err_from_is_err_and}
use Rattle.rodin_cli.proofs.Edits.{front_is_first, next_edit, then_unchanged}
use Rattle.rodin_cli.proofs.round.edit_all.Goals as goal

pub loop-name-preserved : goal.loop-name-preserved
loop-name-preserved g c =
    next_edit c.args.session.now c.loop-name.session c.perform.new.session c.loop-name.yielded (c.in-Some.name, c.in-Some.text) c.in_ok-perform.field-0 c.loop-name.invariant
    c.in_ok-perform.ensures.done

pub loop-name-preserved-in_ok-perform : goal.loop-name-preserved-in_ok-perform
loop-name-preserved-in_ok-perform g c =
    next_edit c.args.session.now c.loop-name.session c.perform.new.session c.loop-name.yielded (c.in-Some.name, c.in-Some.text) c.in_ok-perform.field-0 c.loop-name.invariant
    c.in_ok-perform.ensures.done

pub returns-in_err-perform-clause-front : goal.returns-in_err-perform-clause-front
returns-in_err-perform-clause-front g c =
    let p = err_from_is_err_and c.from_residual.result c.from_residual.ensures.1 in
    let chain = YieldsList-from_vec {s = c.into_iter-name-iterator.result} c.args.parts.items (search rules) (search rules) in
    let past = YieldsList-so_far chain c.loop-name.yielded c.loop-name.name-iterator c.loop-name.yielded_by in
    let edits = c.loop-name.invariant in
    rw p.1 (
      edits.0,
      front_is_first c.args.parts.items c.loop-name.yielded edits.0 past edits.1,
      then_unchanged c.args.session.now c.loop-name.session c.perform.new.session edits.0 edits.2 c.in_err-perform.ensures.err,
    )
