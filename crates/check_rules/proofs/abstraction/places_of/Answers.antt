use Rattle.std.proofs.Common.{◌≡◌, ◌<◌, ◌-◌, ◌+◌, ◌∙◌, ap, ℕ, drop, length}
use native.Mathlib.Omega.{arith}
use Rattle.check_rules.specs.Events.{event_named}
use Rattle.check_rules.proofs.Placed.{one_placed}
use Rattle.check_rules.proofs.abstraction.places_of.Goals as goal

pub loop-place-preserved : goal.loop-place-preserved
loop-place-preserved c =
    let i : ℕ = c.loop-place.place - 1 in
    let next : c.loop-place.place ≡ i + 1 = omega (arith, c.loop-place-test.true) in
    let inside : i < length c.args.list.now = omega (arith, c.loop-place-test.true, c.loop-place.auto.place) in
    one_placed c.args.list.now i c.index-list-place.result inside c.loop-place.places c.insert.new.self c.as_text.result c.as_text.ensures.text c.in_ok-insert.ensures.updates
    (λ name. c.loop-place.invariant name ∙ ap (λ n. event_named (drop n c.args.list.now) name) next)
