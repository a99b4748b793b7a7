use Rattle.defined_meanings.proofs.Defined.{each_is_defined}
use Rattle.defined_meanings.proofs.laws.defined_in_one_is_defined_in_all.Goals as goal

-- src/laws.rt:10:1
pub returns : goal.returns
returns c shape test U V names f types bound well fits defined = each_is_defined U V names f types bound well fits defined
