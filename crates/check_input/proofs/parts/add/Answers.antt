use Rattle.std.proofs.Common.{◌∙◌, ap, sym, subst, ◌++◌, ◌∷◌, []}
use Rattle.check_input.specs.PrivateParts.{AreNames}
use Rattle.check_input.proofs.Sets.{one_more}
use Rattle.check_input.proofs.parts.add.Goals as goal

pub returns-clause-seen : goal.returns-clause-seen
returns-clause-seen c =
    let added = c.in_ok-push.ensures.items ∙ ap (λ x. c.args.parts.now.items ++ x ∷ []) c.in_ok-component.ensures in
    subst (AreNames c.insert.new.self) (sym added)
    (one_more c.args.piece.name c.args.names.now c.insert.new.self c.in_ok-insert.ensures.updates c.args.parts.now.items c.args.piece.text.now c.requires.seen)
