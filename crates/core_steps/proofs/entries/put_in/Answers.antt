use Rattle.std.proofs.Common.{◌≡◌, ◌∙◌, sym, ap, subst, get_or, None}
use Rattle.std.specs.List.{insert}
use Rattle.std.specs.FinMap.{find}
use Rattle.std.specs.declared.cmp.Ordering.TheVariants.{Equal}
use Rattle.core_steps.proofs.Sorted.{put_between, not_found, put_at}
use Rattle.core_steps.proofs.entries.put_in.Goals as goal

pub returns-then-place : goal.returns-then-place
returns-then-place g c =
    let es = c.args.entries.now.items in
    let e = c.index_mut.result.now in
    let before = rw c.deref.ensures.value at c.place_of-place.ensures.before in
    let there = rw c.deref.ensures.value at (c.place_of-place.ensures.there c.if-place.true) in
    let is : e ≡ get_or es c.place_of-place.result.at e = c.index_mut.ensures.value in
    put_at g.K.Ord.cmp g.met.K.Ord.total c.args.key c.args.value es c.place_of-place.result.at e there.0 is before
    (subst (λ z. g.K.Ord.cmp c.args.key z.0 ≡ Equal) (sym is) (there.1 e))

pub make_room-requires : goal.make_room-requires
make_room-requires g c =
    let es = c.args.entries.now.items in
    let before = rw c.deref.ensures.value at c.place_of-place.ensures.before in
    let behind = rw c.deref.ensures.value at (c.place_of-place.ensures.behind c.if-place.false) in
    let none : find g.K.Ord.cmp c.args.key es ≡ None = not_found g.K.Ord.cmp g.met.K.Ord.total c.args.key es c.place_of-place.result.at behind.0 before behind.1 in
    c.requires.room none

pub returns : goal.returns
returns g c =
    let es = c.args.entries.now.items in
    let at = c.place_of-place.result.at in
    let before = rw c.deref.ensures.value at c.place_of-place.ensures.before in
    let behind = rw c.deref.ensures.value at (c.place_of-place.ensures.behind c.if-place.false) in
    c.in-Ok.ensures.items
    ∙ ap (λ xs. insert xs at (c.args.key, c.args.value)) c.make_room.ensures.items
    ∙ put_between g.K.Ord.cmp g.met.K.Ord.total c.args.key c.args.value es at behind.0 before behind.1
