use Rattle.std.proofs.Common.{rules, ◌≡◌, sym, take, subst}
use Rattle.formula_core.specs.Env.{HasDistinctNames}
use Rattle.formula_core.specs.SharedNames.{names_held}
use Rattle.formula_core.proofs.EntryPlaces.{distinct_taken}
use Rattle.formula_core.proofs.env.EnvNames.entries.Goals as goal

pub returns-in-Shared-clause-distinct : goal.returns-in-Shared-clause-distinct
returns-in-Shared-clause-distinct c =
    let shown : names_held c.args.self.now ≡ take c.in-Shared.len c.deref.result.now = search rules in
    subst HasDistinctNames (sym shown) (distinct_taken c.deref.result.now c.in-Shared.len c.entries-in-Shared.ensures.distinct)
