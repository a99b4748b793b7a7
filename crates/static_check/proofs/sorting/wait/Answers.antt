use Rattle.std.proofs.Common.{rules, ◌∙◌, sym, ap, map, ◌∷◌, []}
use Rattle.std.specs.Option.{option_copied_mut}
use Rattle.std.proofs.lemmas.List.{map-append}
use Rattle.static_check.specs.PrivateSorting.{component_of}
use Rattle.static_check.proofs.Maps.{waits_now}
use Rattle.static_check.proofs.sorting.wait.Goals as goal

pub returns-in_ok-push : goal.returns-in_ok-push
returns-in_ok-push c =
    waits_now c.args.waiting.component.now c.args.names.now (c.get_mut.follows.lender c.push.new.self) c.in-Some.others.now c.push.new.self c.args.name.now
    (sym (ap option_copied_mut c.in-Some.is) ∙ c.get_mut.ensures.value) ((c.get_mut.follows.holds c.push.new.self).3 (search rules))
    (ap (map component_of) c.in_ok-push.ensures.items ∙ map-append component_of c.in-Some.others.now.items (c.args.waiting ∷ []))
