use Rattle.std.proofs.Common.{rules, ◌≡◌, ℕ, List, ap, sym, ◌∙◌, subst}
use Rattle.turn_desk.specs.declared.view.View.{View}
use Rattle.turn_desk.specs.Log.{HasSeen, JoinedStay}
use Rattle.turn_desk.proofs.Keeps.{joins, learns, met}
use Rattle.turn_desk.proofs.desk.Chair.join.Goals as goal

pub join_seat-requires : goal.join_seat-requires
join_seat-requires g c = let me = c.self.invariant in let other = c.other.invariant in (
  search rules,
  search rules,
  search rules,
  search rules,
  joins g.V.Kept.log g.V.Kept.chair_of g.V.Kept.base _ _ _ _ _ me.3 (me.0 ∙ (ap (λ s. s.number) c.self.view_is ∙ c.requires.first)) me.4 other.3 other.4,
)

pub load-requires : goal.load-requires
load-requires g c = (
  search rules,
  search rules,
  learns g.V.Kept.log g.V.Kept.chair_of g.V.Kept.base _ _ _ _ (ap (λ m. m.0.seated) c.join_seat.ensures.2 ∙ c.self.invariant.3),
)

pub returns-clause-own : goal.returns-clause-own
returns-clause-own g c = let told = c.load.ensures.2 in
    subst (λ (v : View g.row.V-Entry.Denot g.row.V-Base.Denot). JoinedStay g.V.Kept.chair_of v.joined v.seen) (ap (λ m. m.0) (sym told.0)) told.3

pub returns-clause-seen : goal.returns-clause-seen
returns-clause-seen g c = let told = c.load.ensures.2 in let me = c.self.invariant in let other = c.other.invariant in
    let v = c.self.inside.seat.me.0 in
    let w = c.other.inside.seat.me.0 in
    let t = met g.V.Kept.log g.V.Kept.chair_of g.V.Kept.base (g.V.Kept.base c.desk.inside.table.shared.key.value) v w _ (ap (λ m. m.0) c.join_seat.ensures.2) told.1 told.2 told.3 in
    let number : v.number ≡ 0 = me.0 ∙ (ap (λ s. s.number) c.self.view_is ∙ c.requires.first) in
    let seen : v.seen ≡ c.args.self.now.seen = ap (λ s. s.seen) c.self.view_is in
    let number' : w.number ≡ c.args.other.number = other.0 ∙ ap (λ s. s.number) c.other.view_is in
    let seen' : w.seen ≡ c.args.other.seen = ap (λ s. s.seen) c.other.view_is in
    let now = ap (λ m. m.0.seen) (sym told.0) in (
      subst (λ (z : ℕ × List g.row.V-Entry.Denot × List g.row.V-Entry.Denot). HasSeen g.V.Kept.chair_of z.0 z.1 z.2) (λ i. (number i, seen i, now i)) t.0,
      subst (λ (z : ℕ × List g.row.V-Entry.Denot × List g.row.V-Entry.Denot). HasSeen g.V.Kept.chair_of z.0 z.1 z.2) (λ i. (number' i, seen' i, now i)) t.1,
    )
