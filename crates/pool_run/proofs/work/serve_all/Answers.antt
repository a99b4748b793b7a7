use Rattle.std.proofs.Common.{rules, ◌≡◌, length, sym}
use Rattle.std.proofs.lemmas.List.{take_at}
use Rattle.pool_run.proofs.work.serve_all.Goals as goal

pub returns-clause-served : goal.returns-clause-served
returns-clause-served g c =
    let long : length c.crew.new.chairs ≡ c.args.chairs.now.len = search rules in
    let old : c.as_mut_slice.result.now ≡ c.args.chairs.now.items = search rules in
    rw (take_at c.crew.new.chairs _ _ long, sym old) c.crew.ensures.served

pub returns-clause-same : goal.returns-clause-same
returns-clause-same g c =
    let long : length c.crew.new.chairs ≡ c.args.chairs.now.len = search rules in
    let old : c.as_mut_slice.result.now ≡ c.args.chairs.now.items = search rules in
    rw (take_at c.crew.new.chairs _ _ long, sym old) c.crew.ensures.same
