use Rattle.std.proofs.Common.{◌∙◌, sym, ap}
use Rattle.std.specs.Option.{option_copied}
use Rattle.static_check.specs.Settling.{own_name}
use Rattle.build_core.proofs.index.component_of.Goals as goal

pub at-requires : goal.at-requires
at-requires c = (c.requires.index.place c.args.name.now c.in-Some.place.now (sym c.get.ensures.value ∙ ap option_copied c.in-Some.is)).0

pub returns : goal.returns
returns c =
    let placed = c.requires.index.place c.args.name.now c.in-Some.place.now (sym c.get.ensures.value ∙ ap option_copied c.in-Some.is) in
    let here = c.at.ensures c.at.result.now in
    record {
      there = (c.in-Some.place.now, placed.0, here);
      named = ap own_name (sym here) ∙ placed.1 c.at.result.now;
    }
