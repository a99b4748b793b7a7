use Rattle.std.proofs.Common.{rules, ◌≡◌, refl, length}
use Rattle.project_store.proofs.Versions.{none_there}
use Rattle.project_store.proofs.reading.read_body.Goals as goal

pub returns-in-Err-clause-good : goal.returns-in-Err-clause-good
returns-in-Err-clause-good c = λ es is. c.in-Err.ensures.good es is.version

pub returns-then-is_empty-clause-good : goal.returns-then-is_empty-clause-good
returns-then-is_empty-clause-good c = λ es is.
    let empty : length c.in-Ok.entries.items ≡ 0 = search rules in
    absurd (none_there c.args.body.now es c.in-Ok.entries.items (length c.in-Ok.entries.items) refl empty c.in-Ok.ensures.only is)

pub returns-clause-only : goal.returns-clause-only
returns-clause-only c = λ es is. c.in-Ok.ensures.only es is.version
