use Rattle.std.proofs.Common.{◌∙◌, sym}
use Rattle.instance_size.proofs.ListedMembers.{members_grow}
use Rattle.instance_size.proofs.members.members_grow_at.Goals as goal

pub returns : goal.returns
returns c = λ e. members_grow c.args.room c.args.place.now c.args.f.now c.in-Some.part.now c.in-Some-extension_extent.extent (sym c.in-Some.ensures.part)
    (sym c.extension_extent.ensures.extent ∙ c.in-Some-extension_extent.is) (sym c.exceeds.ensures ∙ e)
