use Rattle.std.proofs.Common.{◌∙◌, sym, ap}
use Rattle.std.specs.Arc.{arc_value}
use Rattle.std.specs.Option.{option_copied}
use Rattle.build_core.specs.Private.{found}
use Rattle.build_core.proofs.Placing.{place_added, place_kept}
use Rattle.build_core.proofs.places.note_place.Goals as goal

pub returns-in_ok-insert-in-None : goal.returns-in_ok-insert-in-None
returns-in_ok-insert-in-None c =
    place_added arc_value c.args.obligations.now c.args.at c.index-obligations-at.result c.args.places.now.entries c.insert.new.self.entries c.in_ok-copy-in-None.field-0
    c.requires.places c.requires.within c.index-obligations-at.is
    (ap (λ o. found c.args.places.now.entries o.name) (sym (c.obligation.ensures.obligation ∙ c.deref.ensures)) ∙ sym c.get.ensures.value ∙ ap option_copied c.in-None.is)
    (c.in_ok-copy-in-None.ensures ∙ ap (λ o. o.name) (c.obligation.ensures.obligation ∙ c.deref.ensures)) c.in_ok-insert-in-None.ensures.updates.0

pub returns-in-Some : goal.returns-in-Some
returns-in-Some c =
    place_kept arc_value c.args.obligations.now c.args.at c.index-obligations-at.result c.args.places.now.entries _
    c.requires.places c.requires.within c.index-obligations-at.is
    (ap (λ o. found c.args.places.now.entries o.name) (sym (c.obligation.ensures.obligation ∙ c.deref.ensures)) ∙ sym c.get.ensures.value ∙ ap option_copied c.in-Some.is)
