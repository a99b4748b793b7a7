use Rattle.std.proofs.Common.{subst}
use Rattle.journal_core.specs.State.{IsKept}
use Rattle.project_store.specs.Store.{StoreState}
use Rattle.project_store.proofs.Resting.{rests}
use Rattle.project_store.proofs.store.Store.into_parts.Goals as goal

pub returns-clause-rests : goal.returns-clause-rests
returns-clause-rests g c =
    rests g.D.Disk.told g.D.Disk.bytes_of g.D.Disk.images g.D.Disk.faults c.args.self c.facts.ensures.facts
    (subst (λ (s : StoreState g.row.D.Denot).
    IsKept g.D.Disk.told g.D.Disk.bytes_of g.D.Disk.images s.journal.disk s.journal.side s.journal.gate s.journal.generation s.journal.rest_open s.journal.failed)
    c.self.view_is c.into_disk.ensures.facts)
