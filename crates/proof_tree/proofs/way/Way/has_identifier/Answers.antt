use Rattle.std.proofs.Common.{◌≡◌, ◌∙◌, sym, ap, Some}
use Rattle.formula_core.specs.Env.{type_in}
use Rattle.proof_tree.specs.Ways.{antecedents_of}
use Rattle.proof_tree.proofs.WayEnds.{first_at_end}
use Rattle.proof_tree.proofs.way.Way.has_identifier.Goals as goal

pub returns-in-Some : goal.returns-in-Some
returns-in-Some c =
    let e : Some c.in-Some.found.now ≡ type_in c.args.sequent.now.env c.args.name.now = c.in-Some.ensures in
    let there = first_at_end (antecedents_of c.args.self.now) c.args.sequent.now c.args.name.now c.in-Some.found.now (sym e) in (
      λ h. there ∙ ap Some (c.same.ensures.exact.0 h),
      λ st. let same : c.in-Some.found.now ≡ c.args.ty.now = cc (there, st) in c.same.ensures.exact.1 same,
    )
