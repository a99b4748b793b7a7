use Rattle.std.proofs.Common.{◌∙◌, ◌++◌, ◌∷◌, [], sym, ap, map}
use Rattle.std.proofs.lemmas.List.{map-append}
use Rattle.std.proofs.lemmas.Iterator.{YieldsList-from_slice, YieldsList-from_zip}
use Rattle.std.proofs.lemmas.Iterator.Consumers.{YieldsList-at, YieldsList-end}
use Rattle.machine_check.specs.PrivateEvents.{both_of}
use Rattle.machine_check.proofs.machine.pair_events.Goals as goal

pub loop-written-preserved : goal.loop-written-preserved
loop-written-preserved c =
    ap (map both_of) c.in_ok-push.ensures.items ∙ map-append both_of c.loop-written.pairs.items (record { written = c.in-Some.written; typed = c.in-Some.typed } ∷ [])
    ∙ ap (λ ps. ps ++ (c.in-Some.written.now, c.in-Some.typed.now) ∷ []) c.loop-written.invariant
    ∙ sym (map-append (λ p. (p.0.now, p.1.now)) c.loop-written.yielded ((c.in-Some.written, c.in-Some.typed) ∷ []))

pub returns : goal.returns
returns c =
    let road = YieldsList-at c.into_iter-written-iterator.ensures.into_iter_gives (YieldsList-from_zip (YieldsList-at c.zip-written-items.ensures.first (YieldsList-from_slice c.args.written.now c.iter.ensures.rest)) (YieldsList-at c.zip-written-items.ensures.second (YieldsList-from_slice c.args.typed.now c.iter-2.ensures.rest))) in
    let t = YieldsList-end road c.loop-written.yielded c.loop-written.written-iterator c.loop-written.yielded_by c.next.result c.next.new.self c.in-None.is c.next.ensures.steps in
    c.loop-written.invariant ∙ t.0
