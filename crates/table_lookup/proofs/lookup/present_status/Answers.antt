use Rattle.std.proofs.Common.{refl}
use Rattle.table_lookup.proofs.lookup.present_status.Goals as goal

pub returns-in-Some : goal.returns-in-Some
returns-in-Some c = rw c.in-Some.is (record { status = (c.status_of.result, refl, c.status_of.ensures.status) })
