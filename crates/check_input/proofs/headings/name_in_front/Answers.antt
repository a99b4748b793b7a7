use Rattle.std.proofs.Common.{arith}
use Rattle.std.proofs.lemmas.List.Sums.{prefix_len-le-length}
use Rattle.formula_core.specs.Names.{is_in_word}
use Rattle.check_input.proofs.headings.name_in_front.Goals as goal

pub split_at-requires : goal.split_at-requires
split_at-requires c = omega (arith, c.word_length.ensures, prefix_len-le-length is_in_word c.args.text.now)
