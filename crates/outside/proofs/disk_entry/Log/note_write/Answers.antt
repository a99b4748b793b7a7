use Rattle.std.proofs.Common.{◌≡◌, ◌++◌, length, rules, arith, vec_len, subst}
use Rattle.std.specs.List.{All}
use Rattle.outside.specs.Private.{IsInside}
use Rattle.std.proofs.lemmas.Grind.{common_steps}
use Rattle.outside.proofs.Kept.{one_more}
use Rattle.outside.proofs.disk_entry.Log.note_write.Goals as goal

pub returns-clause-calls : goal.returns-clause-calls
returns-clause-calls c =
    let is : c.extend_from_slice.new.self.items ≡ c.args.self.now.written.items ++ c.args.bytes.now = grind (arith, common_steps) in
    let known : vec_len c.args.self.now.written ≡ length c.args.self.now.written.items = search rules in
    let end : c.len-from.result ≡ length c.args.self.now.written.items = search rules in
    one_more c.args.self.now.written.items c.args.bytes.now c.extend_from_slice.new.self.items c.args.self.now.entries.items c.push_reserved.new.self.items c.args.side c.args.at c.len-from.result end (subst (λ n. All (IsInside n) c.args.self.now.entries.items) known c.args.self.now.inside) is c.push_reserved.ensures.items
