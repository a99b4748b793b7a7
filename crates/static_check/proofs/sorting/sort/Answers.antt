use Rattle.std.proofs.Common.{◌∙◌, sym, ap, map, ◌∷◌, [], ◌++◌}
use Rattle.std.proofs.lemmas.List.{map-append}
use Rattle.static_check.specs.PrivateSorting.{component_of}
use Rattle.static_check.proofs.Maps.{sorted_now, sorted_before}
use Rattle.static_check.proofs.sorting.sort.Goals as goal

pub returns-in_ok-append : goal.returns-in_ok-append
returns-in_ok-append c =
    sorted_now c.args.component.now c.args.names.now c.remove.new.self c.in-Some.woken c.as_text.result.now (map component_of c.args.pending.now.items) (map component_of c.append.new.self.items)
    c.args.sorted.now.items c.push.new.self.items (c.as_text.ensures.text ∙ ap (λ r. r.name) c.heading.ensures) (sym c.in-Some.is ∙ c.remove.ensures.value) c.remove.ensures.updates
    (ap (map component_of) c.in_ok-append.ensures.items ∙ map-append component_of c.args.pending.now.items c.in-Some.woken.items)
    (c.in_ok-push.ensures.items ∙ ap (λ n. c.args.sorted.now.items ++ n ∷ []) (c.in_ok-copy.ensures ∙ ap (λ r. r.name) c.heading.ensures))

pub returns-in_default : goal.returns-in_default
returns-in_default c =
    sorted_before c.args.component.now c.args.names.now c.remove.new.self c.as_text.result.now (map component_of c.args.pending.now.items) c.args.sorted.now.items
    (c.as_text.ensures.text ∙ ap (λ r. r.name) c.heading.ensures) (sym c.in_default.is ∙ c.remove.ensures.value) c.in_default.ensures.unchanged
