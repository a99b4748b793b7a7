use Rattle.std.proofs.Common.{◌∙◌, ap, map}
use Rattle.model_core.specs.Borrowed.{has}
use Rattle.context_check.proofs.Views.{contexts_with, known_with}
use Rattle.context_check.proofs.visible.add_contexts.Goals as goal

pub returns : goal.returns
returns c =
    let old = map (λ n. n.now) c.args.contexts.now.items in
    let fresh = map (λ n. n.now) c.deref.result.now in
    let new = map (λ n. n.now) c.push_names.new.names.items in
    record {
      contexts = contexts_with old (has c.args.known.now) c.args.ancestors.now c.args.name.now (map (λ n. n.now) c.new-fresh.result.items) (map (λ n. n.now) c.add_fresh_names.new.fresh.items) fresh new
          c.requires (ap (map (λ n. n.now)) c.new-fresh.ensures.items) c.in_ok-add_fresh_names.ensures (ap (map (λ n. n.now)) c.deref.ensures.value ∙ c.in_ok-add_fresh_name.ensures) c.in_ok-push_names.ensures.names;
      known = known_with old fresh new (has c.args.known.now) (has c.push_names.new.known) c.requires c.in_ok-push_names.ensures.names c.in_ok-push_names.ensures.known;
    }
