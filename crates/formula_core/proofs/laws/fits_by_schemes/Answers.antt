use Rattle.formula_core.specs.Rows.{row_of}
use Rattle.formula_core.proofs.Schemes.{fits_exactly}
use Rattle.formula_core.proofs.laws.fits_by_schemes.Goals as goal

pub returns : goal.returns
returns c = fits_exactly (row_of c.args.op) c.args.types.now c.args.whole.now
