use Rattle.std.proofs.Common.{◌≡◌, ◌∙◌, sym, length, rules}
use Rattle.std.specs.Arc.{arc_value}
use Rattle.std.specs.Prelude.{vec_len}
use Rattle.std.proofs.lemmas.List.{length-map}
use Rattle.build_core.proofs.components.Components.len.Goals as goal

pub returns : goal.returns
returns c =
    let whole : vec_len c.self.inside.shared ≡ length c.self.inside.shared.items = search rules in
    rw (← c.self.view_is) (c.len.ensures ∙ whole ∙ sym (length-map c.self.inside.shared.items arc_value))
