use Rattle.std.proofs.Common.{◌∙◌, sym, ap, subst, map}
use Rattle.std.specs.Arc.{arc_value}
use Rattle.build_core.specs.Tables.{IsPlaceInTable}
use Rattle.build_core.specs.Private.{found}
use Rattle.build_core.proofs.Nothing.{place_in}
use Rattle.build_core.proofs.incremental.Builder.place.Goals as goal

pub returns : goal.returns
returns c =
    let b = c.self.inside in
    let mine = map arc_value b.table.items in
    let place = subst (IsPlaceInTable mine c.args.name.now) (sym (c.copied.ensures ∙ c.get.ensures.value ∙ ap (λ m. found m.entries c.args.name.now) c.deref.ensures)) (c.self.invariant.placed c.args.name.now) in
    record {
      exact = rw (← c.self.view_is) (λ table is. place_in b.texts.entries b.outcomes c.self.invariant.judged mine table c.self.invariant.table is c.args.name.now c.copied.result place);
    }
