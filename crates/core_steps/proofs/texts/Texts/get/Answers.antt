use Rattle.std.proofs.Common.{◌≡◌, ◌∙◌, sym, ap, subst, get_or}
use Rattle.std.specs.FinMap.{get}
use Rattle.std.specs.Cmp.Lexicographic.{nat_list_cmp_total}
use Rattle.std.specs.declared.cmp.Ordering.TheVariants.{Equal}
use Rattle.core_steps.specs.Durable.{text_cmp}
use Rattle.core_steps.proofs.Sorted.{found_at, not_found}
use Rattle.core_steps.proofs.SortedMaps.{its_get}
use Rattle.core_steps.proofs.texts.Texts.get.Goals as goal

pub returns-then-place : goal.returns-then-place
returns-then-place c =
    let es = c.self.inside.entries.items in
    let name = c.args.name.now in
    let e = c.index.result.now in
    let before = rw c.deref.ensures.value at c.place_of-place.ensures.before in
    let there = rw c.deref.ensures.value at (c.place_of-place.ensures.there c.if-place.true) in
    let is : e ≡ get_or es c.place_of-place.result.at e = c.index.ensures in
    let found = found_at text_cmp nat_list_cmp_total name es c.place_of-place.result.at e there.0 is before (subst (λ z. text_cmp name z.0 ≡ Equal) (sym is) (there.1 e)) in
    sym found ∙ sym (its_get es c.self.invariant name) ∙ ap (λ m. get m name) c.self.view_is

pub returns-else-place : goal.returns-else-place
returns-else-place c =
    let es = c.self.inside.entries.items in
    let name = c.args.name.now in
    let before = rw c.deref.ensures.value at c.place_of-place.ensures.before in
    let behind = rw c.deref.ensures.value at (c.place_of-place.ensures.behind c.if-place.false) in
    sym (not_found text_cmp nat_list_cmp_total name es c.place_of-place.result.at behind.0 before behind.1) ∙ sym (its_get es c.self.invariant name) ∙ ap (λ m. get m name) c.self.view_is
