use Rattle.defined_meanings.proofs.Theorem.{each_is_one}
use Rattle.defined_meanings.proofs.laws.defined_formulas_denote_one.Goals as goal

-- src/laws.rt:5:1
pub returns : goal.returns
returns c shape test U V names f types bound well fits defined = each_is_one U V names f types bound well fits defined
