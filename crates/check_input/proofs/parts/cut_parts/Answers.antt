use Rattle.std.proofs.lemmas.Result.{err_from_is_err_and}
use Rattle.check_input.specs.Inputs.{input_parts}
use Rattle.check_input.specs.PrivateCutting.{numbered_of, numbered_from}
use Rattle.check_input.proofs.Faults.{one_added, fault_found}
use Rattle.check_input.proofs.parts.cut_parts.Goals as goal

pub returns-in_err-add-clause-fault : goal.returns-in_err-add-clause-fault
returns-in_err-add-clause-fault c =
    let rest = numbered_from c.loop-piece.rest.line c.loop-piece.rest.text.now in
    let behind = numbered_from c.in-Some.behind.line c.in-Some.behind.text.now in
    let exit = err_from_is_err_and c.from_residual.result c.from_residual.ensures.1 in
    let error = c.in_err-add.was in
    λ f is. fault_found (input_parts c.args.text.now) c.loop-piece.parts.items rest c.loop-piece.invariant.before (numbered_of c.in-Some.piece) behind f c.in-Some.ensures.pieces
    (c.add.ensures.fault f (cc (exit.1, exit.2, error, is)))

pub loop-piece-preserved : goal.loop-piece-preserved
loop-piece-preserved c =
    let rest = numbered_from c.loop-piece.rest.line c.loop-piece.rest.text.now in
    let behind = numbered_from c.in-Some.behind.line c.in-Some.behind.text.now in
    record {
      seen = c.in_ok-add.ensures.seen;
      before =
          one_added (input_parts c.args.text.now) c.loop-piece.parts.items rest c.loop-piece.invariant.before (numbered_of c.in-Some.piece) behind c.add.new.parts.items c.in-Some.ensures.pieces c.in_ok-add.ensures.right
          c.in_ok-add.ensures.added;
      small = c.in-Some.ensures.small;
    }
