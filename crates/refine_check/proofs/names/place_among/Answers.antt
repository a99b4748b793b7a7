use Rattle.std.proofs.Common.{◌∙◌, [], ap, get_or, arith}
use Rattle.std.proofs.lemmas.List.{take_all}
use Rattle.model_core.specs.Each.{is_among}
use Rattle.refine_check.specs.Private.{first_index}
use Rattle.model_core.specs.Borrowed.{texts}
use Rattle.refine_check.proofs.Placing.{none_first, first_more}
use Rattle.refine_check.proofs.names.place_among.Goals as goal

pub loop-name-init : goal.loop-name-init
loop-name-init c = λ list h. none_first list

pub loop-name-preserved : goal.loop-name-preserved
loop-name-preserved c = λ list h.
    first_more list c.args.names.now c.loop-name.name-index (record { ref_ptr = (0, 0); now = [] }) c.loop-name.lowest c.copied.result c.lower-lowest.result c.loop-name-test.true
    (c.loop-name.invariant list h)
    (c.copied.ensures ∙ c.get.ensures.value ∙ h (get_or c.args.names.now c.loop-name.name-index (record { ref_ptr = (0, 0); now = [] })).now) c.lower-lowest.ensures

pub returns : goal.returns
returns c = λ list h.
    c.loop-name.invariant list h
    ∙ ap (λ ns. first_index (is_among (texts ns)) list) (take_all c.loop-name.name-index c.args.names.now (omega (arith, c.loop-name-test.false)))
