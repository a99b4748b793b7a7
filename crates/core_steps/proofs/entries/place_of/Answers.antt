use Rattle.std.proofs.Common.{◌≡◌, ◌∙◌, sym, ap, subst, inl, inr, ℕ, ◌+◌, ◌-◌, ◌/◌, ◌<◌, length, take, drop, [], ◌∷◌, arith}
use Rattle.std.specs.List.{AllByRecursion}
use Rattle.std.specs.declared.cmp.Ordering.TheVariants.{Less, Equal, Greater}
use Rattle.core_steps.proofs.Alls.{all_both}
use Rattle.core_steps.proofs.Lists.{take-one_more}
use Rattle.core_steps.proofs.Sorted.{greater_before, less_behind}
use Rattle.core_steps.proofs.entries.place_of.Goals as goal

pub returns-in-Equal-clause-before : goal.returns-in-Equal-clause-before
returns-in-Equal-clause-before g c =
    let mid : ℕ = c.loop-from.from + (c.loop-from.to - c.loop-from.from) / 2 in
    let lt : mid < length c.args.entries.now = omega (arith, c.loop-from.invariant.0, c.loop-from.invariant.1) in
    greater_before g.K.Ord.cmp g.met.K.Ord.total c.args.key.now c.args.entries.now mid c.index-entries-mid.result c.requires lt c.index-entries-mid.is
    (inl (subst (λ z. g.K.Ord.cmp c.args.key.now z.0 ≡ Equal) (sym c.index-entries-mid.is) (sym c.cmp.ensures ∙ c.in-Equal.is)))

pub loop-from-preserved-in-Greater : goal.loop-from-preserved-in-Greater
loop-from-preserved-in-Greater g c =
    let mid : ℕ = c.loop-from.from + (c.loop-from.to - c.loop-from.from) / 2 in
    let lt : mid < length c.args.entries.now = omega (arith, c.loop-from.invariant.0, c.loop-from.invariant.1) in
    let greater : g.K.Ord.cmp c.args.key.now c.index-entries-mid.result.0 ≡ Greater =
    subst (λ z. g.K.Ord.cmp c.args.key.now z.0 ≡ Greater) (sym c.index-entries-mid.is) (sym c.cmp.ensures ∙ c.in-Greater.is) in (
      omega (arith, c.loop-from.invariant.0),
      c.loop-from.invariant.1,
      rw (take-one_more c.args.entries.now mid c.index-entries-mid.result lt c.index-entries-mid.is)
          (all_both (λ e. g.K.Ord.cmp c.args.key.now e.0 ≡ Greater) (take mid c.args.entries.now) (c.index-entries-mid.result ∷ [])
          (greater_before g.K.Ord.cmp g.met.K.Ord.total c.args.key.now c.args.entries.now mid c.index-entries-mid.result c.requires lt c.index-entries-mid.is (inr greater))
          (greater, tt)),
      c.loop-from.invariant.3,
    )

pub loop-from-preserved : goal.loop-from-preserved
loop-from-preserved g c =
    let mid : ℕ = c.loop-from.from + (c.loop-from.to - c.loop-from.from) / 2 in
    let lt : mid < length c.args.entries.now = omega (arith, c.loop-from.invariant.0, c.loop-from.invariant.1) in (
      omega arith,
      omega (arith, lt),
      c.loop-from.invariant.2,
      less_behind g.K.Ord.cmp g.met.K.Ord.total c.args.key.now c.args.entries.now mid c.index-entries-mid.result c.requires lt c.index-entries-mid.is
          (subst (λ z. g.K.Ord.cmp c.args.key.now z.0 ≡ Less) (sym c.index-entries-mid.is) (sym c.cmp.ensures ∙ c.in-Less.is)),
    )

pub returns-clause-behind : goal.returns-clause-behind
returns-clause-behind g c = λ absent.
    let same : c.loop-from.to ≡ c.loop-from.from = omega (arith, c.loop-from.invariant.0) in (
      omega (arith, c.loop-from.invariant.0, c.loop-from.invariant.1),
      subst (λ n. AllByRecursion (λ e. g.K.Ord.cmp c.args.key.now e.0 ≡ Less) (drop n c.args.entries.now)) same c.loop-from.invariant.3,
    )
