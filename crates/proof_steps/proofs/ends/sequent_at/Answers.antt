use Rattle.std.proofs.Common.{◌≡◌, ◌∙◌, sym, subst}
use Rattle.formula_core.specs.Env.{HasDistinctNames}
use Rattle.proof_tree.specs.Ways.{antecedents_of}
use Rattle.proof_steps.proofs.DistinctEnds.{distinct_at_end}
use Rattle.proof_steps.proofs.ends.sequent_at.Goals as goal

pub of-requires : goal.of-requires
of-requires c =
    let start : c.into_vec-entries.result.items ≡ c.args.sequent.now.env = c.into_vec-entries.ensures ∙ c.in_ok-copy_identifiers.ensures ∙ c.entries.ensures.entries in
    subst HasDistinctNames (sym (c.in_ok-add_identifiers.ensures c.args.sequent.now start))
    (distinct_at_end (antecedents_of c.args.way.now) c.args.sequent.now c.entries.ensures.distinct c.requires.fresh c.requires.distinct)
