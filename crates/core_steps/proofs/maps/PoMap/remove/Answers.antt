use Rattle.std.proofs.Common.{T, ◌∙◌, sym, ap, subst}
use Rattle.std.specs.FinMap.{is_sorted, from_sorted, remove}
use Rattle.core_steps.specs.Durable.{text_cmp}
use Rattle.core_steps.proofs.SortedMaps.{dropped, dropped_sorted}
use Rattle.core_steps.proofs.maps.PoMap.remove.Goals as goal

pub invariant_of-self : goal.invariant_of-self
invariant_of-self g c =
    subst (λ es. T (is_sorted text_cmp es)) (sym c.drop_from.ensures) (dropped_sorted c.self.inside.entries.items c.self.invariant c.args.name.now)

pub returns : goal.returns
returns g c =
    ap (λ es. from_sorted {R = text_cmp} es) c.drop_from.ensures
    ∙ dropped c.self.inside.entries.items c.self.invariant c.args.name.now
    ∙ ap (λ m. remove m c.args.name.now) c.self.view_is
