use Rattle.component_text.proofs.Components.{names_more, names_done}
use Rattle.component_text.proofs.parse.add_names.Goals as goal

pub loop-name-preserved : goal.loop-name-preserved
loop-name-preserved c = λ xs rest k.
    rw c.in_ok-push.ensures.items
    (names_more c.args.names.now.items c.loop-name.names.items c.args.cursor.now c.loop-name.cursor c.name.new.self c.in-Some.name (rw c.in-Some.is at c.in_ok-name.ensures) c.loop-name.invariant xs rest k)

pub returns : goal.returns
returns c =
    names_done c.args.names.now.items c.loop-name.names.items c.args.cursor.now c.loop-name.cursor c.name.new.self (rw c.in_default.is at c.in_ok-name.ensures) c.loop-name.invariant
