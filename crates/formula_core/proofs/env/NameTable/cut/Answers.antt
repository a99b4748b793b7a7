use Rattle.formula_core.proofs.EntryPlaces.{distinct_taken, on_taken}
use Rattle.formula_core.proofs.env.NameTable.cut.Goals as goal

pub invariant_of-self : goal.invariant_of-self
invariant_of-self c =
    rw c.truncate.ensures.items
    (distinct_taken c.self.inside.entries.items c.args.len c.self.invariant.0, on_taken c.self.inside.has_places c.self.inside.entries.items c.self.inside.places.entries c.args.len c.self.invariant.1)
