use Rattle.store_laws.proofs.Projects.{one_project}
use Rattle.store_laws.proofs.laws.one_project.Goals as goal

pub returns : goal.returns
returns c = one_project c.one_meaning.ensures
