use Rattle.std.proofs.Common.{◌∙◌, sym, ap, subst, map, Some, None}
use Rattle.std.specs.Arc.{arc_value}
use Rattle.std.specs.Option.{option_copied}
use Rattle.build_core.specs.Tables.{IsPlaceInTable, IsOfName}
use Rattle.build_core.specs.Private.{found}
use Rattle.build_core.proofs.Nothing.{place_in, found_in}
use Rattle.build_core.proofs.Placing.{mapped_at}
use Rattle.build_core.proofs.incremental.Builder.obligation.Goals as goal

pub returns-in-Some : goal.returns-in-Some
returns-in-Some c =
    let b = c.self.inside in
    let mine = map arc_value b.table.items in
    let place = subst (IsPlaceInTable mine c.args.name.now) (sym (sym (ap option_copied c.in-Some.is) ∙ c.get.ensures.value ∙ ap (λ m. found m.entries c.args.name.now) c.deref.ensures)) (c.self.invariant.placed c.args.name.now) in
    record {
      exact = rw (← c.self.view_is) (λ table is. subst (λ o. IsOfName table c.args.name.now (Some o)) (sym (c.obligation.ensures.obligation ∙ c.deref-in-Some.ensures))
          (found_in b.texts.entries b.outcomes c.self.invariant.judged mine table c.self.invariant.table is c.args.name.now c.in-Some.place.now (arc_value c.index.result.now) place
          (ap arc_value c.index.ensures ∙ sym (mapped_at arc_value b.table.items c.in-Some.place.now c.index.result.now))));
    }

pub returns-in-None : goal.returns-in-None
returns-in-None c =
    let b = c.self.inside in
    let mine = map arc_value b.table.items in
    let place = subst (IsPlaceInTable mine c.args.name.now) (sym (sym (ap option_copied c.in-None.is) ∙ c.get.ensures.value ∙ ap (λ m. found m.entries c.args.name.now) c.deref.ensures)) (c.self.invariant.placed c.args.name.now) in
    record {
      exact = rw (← c.self.view_is) (λ table is. place_in b.texts.entries b.outcomes c.self.invariant.judged mine table c.self.invariant.table is c.args.name.now None place);
    }
