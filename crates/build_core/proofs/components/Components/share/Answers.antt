use Rattle.std.proofs.Common.{◌∙◌, sym, subst, ◌<◌, length, arith}
use Rattle.std.specs.Arc.{arc_value}
use Rattle.std.proofs.lemmas.List.{length-map}
use Rattle.build_core.proofs.Listed.{at_mapped}
use Rattle.build_core.proofs.components.Components.share.Goals as goal

pub index-requires : goal.index-requires
index-requires c = omega (arith, subst (λ cs. c.args.place < length cs) (sym c.self.view_is) c.requires, length-map c.self.inside.shared.items arc_value)

pub returns : goal.returns
returns c =
    let items = c.self.inside.shared.items in
    rw (← c.self.view_is) (λ d. at_mapped arc_value items c.args.place c.index.result.now
    (omega (arith, subst (λ cs. c.args.place < length cs) (sym c.self.view_is) c.requires, length-map items arc_value)) c.index.ensures d ∙ sym c.in_ok-shared.ensures)
