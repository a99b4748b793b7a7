use Rattle.std.proofs.Common.{◌≡◌, ◌∙◌, sym, ◌++◌, ◌∷◌, [], take, Some}
use Rattle.event_values.specs.Reading.{text_value}
use Rattle.event_values.proofs.Cutting.{read_more, read_last}
use Rattle.event_values.proofs.ReadParts.{set_told}
use Rattle.event_values.proofs.reading.+reading.Goals as goal

pub value_in-returns-in_ok-members-in-Some : goal.value_in-returns-in_ok-members-in-Some
value_in-returns-in_ok-members-in-Some t c =
    set_told c.args.sizes.now c.args.ty.now c.in-Pow.member c.get.result.now c.args.text.now c.in-Some.inner.now c.in_ok-members-in-Some.members c.set_of.result
    c.in-Pow.is c.get.ensures c.in-Some.ensures c.in_ok-members-in-Some.ensures c.set_of.ensures

pub values_in-loop-found-preserved : goal.values_in-loop-found-preserved
values_in-loop-found-preserved t c =
    let asked : c.in_ok-v.field-0 ≡ text_value c.args.sizes.now c.args.ty.now (take c.piece_end-end.result c.loop-found.rest.now) = c.in_ok-v.ensures in
    let some : c.in_ok-v.field-0 ≡ Some c.in-Some.v = c.in-Some.is in
    let new : c.add.new.found.items ≡ c.loop-found.found.items ++ c.in-Some.v ∷ [] = c.in_ok-add.ensures in
    read_more (text_value c.args.sizes.now c.args.ty.now) c.args.text.now c.loop-found.rest.now c.in-Some-behind.later.now c.loop-found.found.items c.add.new.found.items
    c.piece_end-end.result c.in-Some.v c.loop-found.invariant c.piece_end-end.ensures.exact c.in-Some-behind.ensures.0 c.in-Some-behind.ensures.1 (sym asked ∙ some) new

pub values_in-returns-in-None : goal.values_in-returns-in-None
values_in-returns-in-None t c =
    let asked : c.in_ok-v.field-0 ≡ text_value c.args.sizes.now c.args.ty.now (take c.piece_end-end.result c.loop-found.rest.now) = c.in_ok-v.ensures in
    let some : c.in_ok-v.field-0 ≡ Some c.in-Some.v = c.in-Some.is in
    let new : c.add.new.found.items ≡ c.loop-found.found.items ++ c.in-Some.v ∷ [] = c.in_ok-add.ensures in
    read_last (text_value c.args.sizes.now c.args.ty.now) c.args.text.now c.loop-found.rest.now c.loop-found.found.items c.of.result
    c.piece_end-end.result c.in-Some.v c.loop-found.invariant c.piece_end-end.ensures.exact c.in-None.ensures (sym asked ∙ some) (c.of.ensures ∙ new)
