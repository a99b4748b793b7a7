use Rattle.po_generate.proofs.OneList.{in_one_list}
use Rattle.po_generate.proofs.laws.each_in_one_list.Goals as goal

pub returns : goal.returns
returns c = in_one_list
