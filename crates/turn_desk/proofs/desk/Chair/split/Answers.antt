use Rattle.std.proofs.Common.{rules, ap, ◌∙◌}
use Rattle.turn_desk.proofs.Keeps.{learns, splits}
use Rattle.turn_desk.proofs.desk.Chair.split.Goals as goal

pub load-requires : goal.load-requires
load-requires g c = (
  search rules,
  search rules,
  learns g.V.Kept.log g.V.Kept.chair_of g.V.Kept.base _ _ _ _ c.self.invariant.3,
)

pub split_seat-seat-requires : goal.split_seat-seat-requires
split_seat-seat-requires g c = let me = c.self.invariant in let same = ap (λ m. m.0) c.load.ensures.2.0 in (
  search rules,
  search rules,
  splits g.V.Kept.log g.V.Kept.chair_of g.V.Kept.base _ _ _ (ap (λ v. v.seated) same ∙ me.3) (ap (λ v. v.number) same ∙ (me.0 ∙ (ap (λ s. s.number) c.self.view_is ∙ c.requires.first.0))) (ap (λ v. v.acting) same ∙ me.4),
)
