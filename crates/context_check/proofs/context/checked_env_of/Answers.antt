use Rattle.std.proofs.Common.{◌∙◌, ◌++◌, ap, map}
use Rattle.std.proofs.lemmas.List.{map-append}
use Rattle.context_check.proofs.Contexts.{after}
use Rattle.context_check.proofs.context.checked_env_of.Goals as goal

pub returns : goal.returns
returns c =
    c.of.ensures
    ∙ after (map (λ r. c.args.name.now)) (map-append (λ r. c.args.name.now)) c.args.sets.now c.args.declared.now c.in_ok-names.names.items c.add_for_each.new.names.items c.add_for_each-2.new.names.items
    c.in_ok-add_for_each.ensures c.in_ok-add_for_each-2.ensures
    ∙ ap (λ ns. ns ++ map (λ r. c.args.name.now) (c.args.sets.now ++ c.args.declared.now)) c.in_ok-names.ensures
