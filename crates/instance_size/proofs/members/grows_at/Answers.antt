use Rattle.std.proofs.Common.{refl}
use Rattle.instance_size.proofs.ListedMembers.{law_grows}
use Rattle.instance_size.proofs.members.grows_at.Goals as goal

pub returns-in-MemberOfExtension : goal.returns-in-MemberOfExtension
returns-in-MemberOfExtension c = λ e. law_grows c.args.room c.args.number c.args.place.now c.args.f.now _ c.in-Some.law c.of_number.ensures.law c.in-Some.is c.in-MemberOfExtension.is (c.members_grow_at.ensures e)
