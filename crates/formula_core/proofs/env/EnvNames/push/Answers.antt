use Rattle.std.proofs.Common.{rules, ◌≡◌, ◌∙◌, sym, ap, take, subst}
use Rattle.formula_core.specs.Env.{HasDistinctNames}
use Rattle.formula_core.proofs.EntryPlaces.{distinct_taken}
use Rattle.formula_core.proofs.env.EnvNames.push.Goals as goal

pub copied-requires : goal.copied-requires
copied-requires c =
    let first : c.first.result.now ≡ take c.in-Shared.len c.entries.result.now = search rules in
    subst HasDistinctNames (sym (first ∙ ap (take c.in-Shared.len) c.entries.ensures.entries))
    (distinct_taken c.deref-in-Shared.result.now c.in-Shared.len c.entries.ensures.distinct)
