use Rattle.std.proofs.Common.{◌≡◌, ◌∙◌, sym, ap, length, rules}
use Rattle.std.specs.Prelude.{vec_len}
use Rattle.std.specs.FinMap.{len}
use Rattle.core_steps.proofs.SortedMaps.{its_len}
use Rattle.core_steps.proofs.maps.PoMap.len.Goals as goal

pub returns : goal.returns
returns g c =
    let whole : vec_len c.self.inside.entries ≡ length c.self.inside.entries.items = search rules in
    c.len.ensures ∙ whole ∙ sym (its_len c.self.inside.entries.items c.self.invariant) ∙ ap len c.self.view_is
