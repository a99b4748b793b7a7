use Rattle.std.proofs.Common.{◌∙◌, ◌++◌, ap, map}
use Rattle.std.specs.List.{zip}
use Rattle.check_rules.specs.Visible.{origins}
use Rattle.model_core.specs.Borrowed.{has}
use Rattle.context_check.specs.Views.{placed}
use Rattle.context_check.proofs.Views.{new_with, known_with, origins_with}
use Rattle.context_check.proofs.visible.add_new.Goals as goal

pub returns : goal.returns
returns g c =
    let old = map placed c.args.parts.now.items in
    let pairs = map placed c.deref.result.now in
    let fresh = map placed c.deref-2.result.now in
    let new = map placed c.push_parts.new.parts.items in
    record {
      parts = new_with old (zip c.args.more.now c.args.components.now) pairs fresh new (has c.args.known.now) c.requires
          (ap (map placed) c.deref.ensures.value ∙ c.in_ok-pairs.ensures) (ap (map placed) c.deref-2.ensures.value ∙ c.in_ok-fresh.ensures) c.in_ok-push_parts.ensures.parts;
      known = known_with (origins old) (origins fresh) (origins new) (has c.args.known.now) (has c.push_parts.new.known) c.requires (origins_with old fresh new c.in_ok-push_parts.ensures.parts) c.in_ok-push_parts.ensures.known;
      fresh = c.in_ok-push_parts.ensures.parts ∙ ap (λ f. old ++ map placed f) c.deref-2.ensures.value;
    }
