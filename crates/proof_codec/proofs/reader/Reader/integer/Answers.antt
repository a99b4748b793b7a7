use Rattle.std.proofs.Common.{rules, sym, subst, ◌∙◌}
use Rattle.std.specs.Int.{w128}
use Rattle.std.proofs.lemmas.Int.{to_z-of_z}
use Rattle.proof_codec.specs.Private.{IsReadAs}
use Rattle.proof_codec.specs.Numbers.{IsInteger, integer}
use Rattle.proof_codec.proofs.Literals.{integer_read}
use Rattle.proof_codec.proofs.reader.Reader.integer.Goals as goal

pub returns : goal.returns
returns c =
    let read = integer_read _ _ _ _ c.in_ok-low.ensures in
    subst (λ n. IsReadAs IsInteger integer c.args.self.now n c.halves.new.self) (sym (to_z-of_z w128 c.joined.result (search rules) ∙ c.joined.ensures)) read
