use Rattle.std.proofs.Common.{rules, ◌≡◌, [], subst, arith}
use Rattle.turn_desk.specs.Chairs.{AreNew}
use Rattle.desk_run.proofs.Counts.{counts}
use Rattle.desk_run.proofs.count.count_beside.Goals as goal

pub returns-clause-counts : goal.returns-clause-counts
returns-clause-counts g c k below =
    let made : c.in-Ok.first.made ≡ 1 = search rules in
    let none : c.in-Ok.first.seen ≡ [] = search rules in
    let start : c.split_all.new.self.seen ≡ [] = search rules in
    let number : c.split_all.new.self.number ≡ 0 = search rules in
    let new : AreNew c.in-Ok.first 1 c.split_all.new.chairs.items = subst (λ n. AreNew c.in-Ok.first n c.split_all.new.chairs.items) made c.split_all.ensures.made in
    counts c.args.acts _ _ c.join-first.ensures.second c.in-Ok.first c.split_all.new.self c.join-first.result.0 new none start number c.join-first.ensures.first c.join_all.new.self c.join_all.ensures.seen c.join_all.ensures.each _ c.close.ensures.log c.close.ensures.joined k
    (let n = c.split_all.ensures.count in omega (arith, below, n))
