use Rattle.std.proofs.Common.{◌∙◌, ◌++◌, ◌||◌, sym, ap, map, take, drop}
use Rattle.std.specs.List.{zip}
use Rattle.model_core.specs.Each.{is_among}
use Rattle.check_rules.specs.Visible.{origins}
use Rattle.context_check.specs.Views.{placed, clashes_with}
use Rattle.context_check.proofs.Clashes.{none_noted}
use Rattle.machine_check.proofs.Machines.{taken, dropped, rejoined}
use Rattle.context_check.proofs.Repeated.{has_none}
use Rattle.machine_check.proofs.refined_machine.view_of_machine.Goals as goal

pub returns : goal.returns
returns c =
    let m = c.args.machine.now in
    let n = m.variables_from in
    let ids = c.in_ok-identifiers.ensures ∙ (λ i. zip (c.entries.ensures.entries i) (c.items.ensures i)) in
    let axioms = c.in_ok-of_axioms.ensures ∙ (λ i. zip (c.items-2.ensures i) (c.items-3.ensures i)) in
    let head = taken placed n c.in_ok-identifiers.identifiers.items c.first_items.result.now (zip m.env m.env_of) ids (c.first_items.ensures ∙ ap (take n) c.deref.ensures.value) in
    let tail = dropped placed n c.in_ok-identifiers.identifiers.items c.items_from.result.now (zip m.env m.env_of) ids (c.items_from.ensures ∙ ap (drop n) c.deref-2.ensures.value) in
    let constants = c.in_ok-push_parts.ensures.parts ∙ ap (λ ps. map placed ps ++ map placed c.first_items.result.now) c.new-constants.ensures.items in
    let variables = ap (map placed) (c.in_ok-extend_from_slice.ensures.items ∙ ap (λ ps. ps ++ c.items_from.result.now) c.new-variables.ensures.items) in
    let of_axioms = c.in_ok-push_parts-2.ensures.parts ∙ ap (λ ps. map placed ps ++ map placed c.deref-3.result.now) c.new-axioms.ensures.items in
    record {
      seen = λ i. record {
        contexts = ap (map (λ n. n.now)) c.new.ensures.items i;
        constants = (constants ∙ head) i;
        variables = (variables ∙ tail) i;
        axioms = (of_axioms ∙ ap (map placed) c.deref-3.ensures.value ∙ axioms) i;
      };
      indexed = record {
        contexts = λ x. has_none c.new-2.result c.new-2.ensures.empty x ∙ sym (ap (λ ns. is_among (map (λ n. n.now) ns) x) c.new.ensures.items);
        constants = λ x.
            c.in_ok-push_parts.ensures.known x
            ∙ ap (λ b. b || is_among (origins (map placed c.first_items.result.now)) x) (has_none c.new-known_constants.result c.new-known_constants.ensures.empty x)
            ∙ ap (λ ps. is_among (origins ps) x) (sym constants);
        axioms = λ x.
            c.in_ok-push_parts-2.ensures.known x
            ∙ ap (λ b. b || is_among (origins (map placed c.deref-3.result.now)) x) (has_none c.new-known_axioms.result c.new-known_axioms.ensures.empty x)
            ∙ ap (λ ps. is_among (origins ps) x) (sym of_axioms);
        names = λ x o.
            c.in_ok-note_all.ensures x o
            ∙ ap (λ b. b || clashes_with (map placed c.deref-4.result.now) x o) (none_noted c.new-names.result c.new-names.ensures.empty x o)
            ∙ ap (λ ps. clashes_with ps x o)
            (ap (map placed) c.deref-4.ensures.value ∙ ids
            ∙ rejoined n (map placed c.push_parts.new.parts.items) (map placed c.extend_from_slice.new.self.items) (zip m.env m.env_of) (constants ∙ head) (variables ∙ tail));
      };
    }
