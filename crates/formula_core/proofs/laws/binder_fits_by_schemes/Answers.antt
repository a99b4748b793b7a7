use Rattle.formula_core.proofs.Schemes.{binder_fits_exactly}
use Rattle.formula_core.proofs.laws.binder_fits_by_schemes.Goals as goal

pub returns : goal.returns
returns c = binder_fits_exactly c.args.binder c.args.types.now c.args.whole.now
