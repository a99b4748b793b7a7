use Rattle.std.proofs.Common.{◌∙◌, ap}
use Rattle.std.specs.FinMap.{put, from_sorted, insert}
use Rattle.core_steps.specs.Durable.{text_cmp}
use Rattle.core_steps.proofs.SortedMaps.{put_sorted, put_inserted, sorted_after, on_ok}
use Rattle.core_steps.proofs.maps.PoMap.put.Goals as goal

pub invariant_of-self : goal.invariant_of-self
invariant_of-self g c =
    let es = c.self.inside.entries.items in
    sorted_after c.put.result c.put.new.entries.items es (put text_cmp c.args.name c.args.value es) c.put.ensures.ok c.put.ensures.err
    (put_sorted es c.self.invariant c.args.name c.args.value) c.self.invariant

pub returns-clause-ok : goal.returns-clause-ok
returns-clause-ok g c =
    let es = c.self.inside.entries.items in
    on_ok c.put.result _ _
    (λ is. ap (λ xs. from_sorted {R = text_cmp} xs) is ∙ put_inserted es c.self.invariant c.args.name c.args.value ∙ ap (λ m. insert m c.args.name c.args.value) c.self.view_is)
    c.put.ensures.ok
