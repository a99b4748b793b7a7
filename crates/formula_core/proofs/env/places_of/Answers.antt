use Rattle.std.proofs.Common.{rules, ◌≡◌, ◌∙◌, sym, false, is_some}
use Rattle.formula_core.specs.PrivatePlaces.{IsNoted}
use Rattle.formula_core.proofs.Places.{place}
use Rattle.formula_core.proofs.EntryPlaces.{next_noted}
use Rattle.formula_core.proofs.env.places_of.Goals as goal

pub loop-at-preserved : goal.loop-at-preserved
loop-at-preserved c =
    let absent : is_some (place c.index-entries-at.result.0 c.loop-at.places.entries) ≡ false =
    (λ i. is_some (place (c.index-entries-at.is i).0 c.loop-at.places.entries)) ∙ sym c.contains_key.ensures ∙ c.if-contains_key.false in
    let note : IsNoted c.loop-at.places.entries c.note_place.new.places.entries c.index-entries-at.result.0 c.loop-at.at = search rules in
    next_noted c.args.entries.now c.loop-at.at c.index-entries-at.result c.loop-at-test.true c.index-entries-at.is
    c.loop-at.places.entries c.note_place.new.places.entries c.loop-at.invariant absent note
