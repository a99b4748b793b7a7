use Rattle.std.proofs.Common.{◌∙◌, ◌++◌, ◌∷◌, [], ap, sym, refl, map, not, filter}
use Rattle.std.specs.List.{zip}
use Rattle.model_core.specs.Each.{is_among}
use Rattle.check_rules.specs.Visible.{with_new}
use Rattle.context_check.specs.declared.visible.View.{View}
use Rattle.context_check.specs.Views.{clashes, placed, visible}
use Rattle.context_check.proofs.Views.{seen_with, names_with}
use Rattle.context_check.proofs.visible.add_context.Goals as goal

pub returns : goal.returns
returns c =
    let v = visible c.args.view.now in
    let w : View = record {
      contexts = c.add_contexts.new.contexts;
      constants = c.add_new.new.parts;
      variables = c.args.view.now.variables;
      axioms = c.add_new-2.new.parts;
      known_contexts = c.add_contexts.new.known;
      known_constants = c.add_new.new.known;
      known_axioms = c.add_new-2.new.known;
      names = c.note_all.new.names;
    } in
    record {
      seen = seen_with w v c.args.context.now
          (c.in_ok-add_contexts.ensures.contexts ∙ ap (λ above. v.contexts ++ filter (λ n. not (is_among v.contexts n)) (above ++ c.args.context.now.name ∷ [])) c.items.ensures)
          (c.in_ok-fresh.ensures.parts ∙ (λ i. with_new v.constants (zip (c.entries.ensures.entries i) (c.items-2.ensures i))))
          refl
          (c.in_ok-add_new.ensures.parts ∙ (λ i. with_new v.axioms (zip (c.items-3.ensures i) (c.items-4.ensures i))));
      indexed = record {
        contexts = c.in_ok-add_contexts.ensures.known;
        constants = c.in_ok-fresh.ensures.known;
        axioms = c.in_ok-add_new.ensures.known;
        names = names_with v.constants (map placed c.deref.result.now) v.variables (visible w).constants (clashes c.args.view.now.names) (clashes c.note_all.new.names)
            c.requires.names (c.in_ok-fresh.ensures.fresh ∙ ap (λ f. v.constants ++ map placed f) (sym c.deref.ensures.value)) c.in_ok-note_all.ensures;
      };
      distinct = c.entries.ensures.distinct;
    }
