use Rattle.std.proofs.Common.{◌∙◌, ◌++◌, sym, subst}
use Rattle.formula_core.specs.Env.{HasDistinctNames}
use Rattle.proof_strategies.proofs.NewNames.{distinct_append}
use Rattle.proof_strategies.proofs.ends.extended_env.Goals as goal

pub of-requires : goal.of-requires
of-requires c =
    let first = c.into_vec-entries.ensures ∙ c.in_ok-copy_identifiers.ensures ∙ c.entries.ensures.entries in
    let second = c.into_vec.ensures ∙ c.in_ok-added.ensures in
    subst HasDistinctNames (sym (c.in_ok-append.ensures.items ∙ (λ i. first i ++ second i)))
    (distinct_append c.args.env.now c.args.idents.now c.entries.ensures.distinct c.requires.fresh c.requires.distinct)
