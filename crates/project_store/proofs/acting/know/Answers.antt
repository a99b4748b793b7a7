use Rattle.project_store.proofs.Preparing.{prepared_for}
use Rattle.project_store.proofs.acting.know.Goals as goal

pub returns : goal.returns
returns c = record { known = prepared_for c.args.core.now c.args.event.now c.args.prepared.now c.requires.orderly c.requires.does c.requires.ready c.one_answer.ensures c.enters_all.ensures c.grows_slowly.ensures c.stays_orderly.ensures }
