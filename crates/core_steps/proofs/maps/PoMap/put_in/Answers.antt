use Rattle.std.proofs.Common.{◌≡◌, ◌∙◌, sym, ap, subst, T, length, rules, arith}
use Rattle.std.specs.Prelude.{vec_len, is_some}
use Rattle.std.specs.FinMap.{is_sorted, from_sorted, insert, len, get}
use Rattle.core_steps.specs.Durable.{text_cmp}
use Rattle.core_steps.proofs.SortedMaps.{its_len, its_get, put_sorted, put_inserted}
use Rattle.core_steps.proofs.maps.PoMap.put_in.Goals as goal

pub put_in-requires-clause-room : goal.put_in-requires-clause-room
put_in-requires-clause-room g c = λ none.
    let es = c.self.inside.entries.items in
    let whole : vec_len c.self.inside.entries ≡ length es = search rules in
    let room = c.requires (ap is_some (ap (λ m. get m c.args.name) (sym c.self.view_is) ∙ its_get es c.self.invariant c.args.name ∙ none)) in
    omega (arith, whole, its_len es c.self.invariant, ap len c.self.view_is, room)

pub invariant_of-self : goal.invariant_of-self
invariant_of-self g c =
    subst (λ es. T (is_sorted text_cmp es)) (sym c.put_in.ensures) (put_sorted c.self.inside.entries.items c.self.invariant c.args.name c.args.value)

pub returns : goal.returns
returns g c =
    ap (λ es. from_sorted {R = text_cmp} es) c.put_in.ensures
    ∙ put_inserted c.self.inside.entries.items c.self.invariant c.args.name c.args.value
    ∙ ap (λ m. insert m c.args.name c.args.value) c.self.view_is
