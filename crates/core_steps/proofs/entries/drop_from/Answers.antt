use Rattle.std.proofs.Common.{◌≡◌, ◌∙◌, sym, subst, get_or}
use Rattle.std.specs.declared.cmp.Ordering.TheVariants.{Equal}
use Rattle.core_steps.proofs.Sorted.{dropped_at, none_dropped}
use Rattle.core_steps.proofs.entries.drop_from.Goals as goal

pub returns-then-place : goal.returns-then-place
returns-then-place g c =
    let es = c.args.entries.now.items in
    let e = c.remove-entry.result in
    let before = rw c.deref.ensures.value at c.place_of-place.ensures.before in
    let there = rw c.deref.ensures.value at (c.place_of-place.ensures.there c.if-place.true) in
    let is : e ≡ get_or es c.place_of-place.result.at e = c.remove-entry.ensures.value in
    c.remove-entry.ensures.by_index.2
    ∙ dropped_at g.K.Ord.cmp g.met.K.Ord.total c.args.key.now es c.place_of-place.result.at e c.requires there.0 is before
    (subst (λ z. g.K.Ord.cmp c.args.key.now z.0 ≡ Equal) (sym is) (there.1 e))

pub returns-else-place : goal.returns-else-place
returns-else-place g c =
    let before = rw c.deref.ensures.value at c.place_of-place.ensures.before in
    let behind = rw c.deref.ensures.value at (c.place_of-place.ensures.behind c.if-place.false) in
    sym (none_dropped g.K.Ord.cmp g.met.K.Ord.total c.args.key.now c.args.entries.now.items c.place_of-place.result.at behind.0 before behind.1)
