use Rattle.std.proofs.Common.{rules, ◌≡◌, ◌∙◌, sym, ap, subst, true, take}
use Rattle.std.specs.Bool.{OnTrue}
use Rattle.formula_core.specs.Env.{type_in}
use Rattle.formula_core.specs.PrivatePlaces.{AreAtPlaces, type_there}
use Rattle.formula_core.proofs.Places.{place}
use Rattle.formula_core.proofs.EntryPlaces.{distinct_taken, taken, type_by_place}
use Rattle.formula_core.proofs.env.NameTable.get.Goals as goal

pub returns : goal.returns
returns c =
    let view : c.args.self.now ≡ c.self.inside.entries.items = search rules in
    let has_places : c.self.inside.has_places ≡ true = search rules in
    let first : c.first-entries.result.now ≡ take c.args.len c.self.inside.entries.items = search rules in
    let at : c.copied.result ≡ place c.args.name.now c.self.inside.places.entries = c.copied.ensures ∙ c.get.ensures.value in
    c.type_there.ensures
    ∙ (λ i. type_there (first i) c.args.name.now (at i))
    ∙ type_by_place (take c.args.len c.self.inside.entries.items) (distinct_taken c.self.inside.entries.items c.args.len c.self.invariant.0) c.args.name.now c.self.inside.places.entries
    (taken c.self.inside.entries.items c.self.inside.places.entries c.args.len (subst (λ b. OnTrue b (AreAtPlaces c.self.inside.entries.items c.self.inside.places.entries)) has_places c.self.invariant.1))
    ∙ ap (λ es. type_in (take c.args.len es) c.args.name.now) (sym view)
