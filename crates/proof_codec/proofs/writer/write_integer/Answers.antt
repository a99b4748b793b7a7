use Rattle.std.proofs.Common.{◌∙◌, ap}
use Rattle.std.specs.Int.{w128, cast_unsigned}
use Rattle.std.proofs.lemmas.Int.{to_z-of_z}
use Rattle.proof_codec.proofs.Writing.{integer_written}
use Rattle.proof_codec.proofs.writer.write_integer.Goals as goal

pub returns : goal.returns
returns c =
    let bits = c.cast_unsigned-bits.ensures ∙ ap (cast_unsigned w128) (to_z-of_z w128 c.args.value c.ranges.value) in
    integer_written _ c.cast_unsigned-bits.result _ _ _ c.ranges.value bits c.in_ok-write_wide.ensures c.in_ok-write_wide-2.ensures
