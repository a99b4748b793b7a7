use Rattle.std.proofs.Common.{rules, ◌≡◌, ◌+◌, length, refl}
use Rattle.turn_desk.specs.Chairs.{AreNew, first_chair}
use Rattle.session_play.proofs.Played.{played}
use Rattle.session_play.proofs.playing.play.Goals as goal

pub returns-clause-played : goal.returns-clause-played
returns-clause-played g c =
    let base : c.in_ok-desk.desk.base ≡ g.V.Kept.base c.args.store = search rules in
    let new : AreNew (first_chair c.in_ok-desk.desk) 1 c.in_ok-desk.chairs.items = search rules in
    let count : length c.in_ok-desk.chairs.items ≡ c.args.workers = search rules in
    let made : c.join_all.new.self.made ≡ 1 + c.args.workers = search rules in
    played g.V.Kept.chair_of g.V.Work.meaning _ c.args.workers _ c.in_ok-desk.desk.base base (first_chair c.in_ok-desk.desk) c.converse_beside-ending.new.first c.join_all.new.self
    c.in_ok-desk.chairs.items c.converse_beside-ending.new.chairs.items refl new count c.converse_beside-ending.ensures.chairs c.converse_beside-ending.ensures.served
    c.join_all.ensures.each made c.join_all.ensures.seen _ c.close_desk.ensures.log c.close_desk.ensures.joined c.close_desk.ensures.unmade
    c.close_desk.ensures.marks _ _ _ c.converse_beside-ending.ensures.ended
