use Rattle.std.proofs.Common.{◌≡◌, ◌∙◌, sym, subst, get_or}
use Rattle.std.specs.declared.cmp.Ordering.TheVariants.{Equal}
use Rattle.core_steps.proofs.Sorted.{put_between, put_at}
use Rattle.core_steps.proofs.entries.put.Goals as goal

pub returns-then-place-clause-ok : goal.returns-then-place-clause-ok
returns-then-place-clause-ok g c =
    let es = c.args.entries.now.items in
    let e = c.index_mut.result.now in
    let before = rw c.deref.ensures.value at c.place_of-place.ensures.before in
    let there = rw c.deref.ensures.value at (c.place_of-place.ensures.there c.if-place.true) in
    let is : e ≡ get_or es c.place_of-place.result.at e = c.index_mut.ensures.value in
    put_at g.K.Ord.cmp g.met.K.Ord.total c.args.key c.args.value es c.place_of-place.result.at e there.0 is before
    (subst (λ z. g.K.Ord.cmp c.args.key z.0 ≡ Equal) (sym is) (there.1 e))

pub returns-clause-ok : goal.returns-clause-ok
returns-clause-ok g c =
    let before = rw c.deref.ensures.value at c.place_of-place.ensures.before in
    let behind = rw c.deref.ensures.value at (c.place_of-place.ensures.behind c.if-place.false) in
    c.in_ok-insert.ensures.items
    ∙ put_between g.K.Ord.cmp g.met.K.Ord.total c.args.key c.args.value c.args.entries.now.items c.place_of-place.result.at behind.0 before behind.1
