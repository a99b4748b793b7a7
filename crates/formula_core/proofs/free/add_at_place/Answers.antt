use Rattle.std.proofs.Common.{rules, ◌≡◌, sym, subst, ◌++◌, ◌∷◌, []}
use Rattle.formula_core.specs.PrivatePlaces.{HasPlaces}
use Rattle.formula_core.proofs.Places.{places_known}
use Rattle.formula_core.proofs.free.add_at_place.Goals as goal

pub returns-clause-places : goal.returns-clause-places
returns-clause-places c =
    let items : c.push.new.self.items ≡ c.args.found.now.identifiers.items ++ (c.args.name.now, c.args.ty.now) ∷ [] = search rules in
    subst (λ found. HasPlaces found c.args.found.now.places.entries) (sym items)
    (places_known c.args.found.now.identifiers.items (c.args.name.now, c.args.ty.now) c.args.found.now.places.entries c.requires.places c.args.at c.requires.place)
