use Rattle.std.proofs.Common.{◌∙◌}
use Rattle.std.specs.List.{slice_get}
use Rattle.std.specs.Option.{option_and_then}
use Rattle.model_core.specs.Each.{is_among}
use Rattle.model_core.specs.Borrowed.{texts}
use Rattle.refine_check.proofs.Placing.{first_is}
use Rattle.refine_check.proofs.names.Names.first_among.Goals as goal

pub returns : goal.returns
returns c = rw (← c.self.view_is)
    (c.text_at.ensures
    ∙ (λ i. option_and_then (slice_get (texts (c.deref.ensures.value i))) (c.place_among-place.ensures (texts c.self.inside.list.items) c.self.invariant i))
    ∙ first_is (is_among (texts c.args.names.now)) (texts c.self.inside.list.items))
