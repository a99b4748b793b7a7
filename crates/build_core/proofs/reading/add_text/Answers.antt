use Rattle.std.proofs.Common.{subst, refl}
use Rattle.std.specs.Prelude.{IfSome, Ok}
use Rattle.std.specs.Arc.{arc_value}
use Rattle.component_text.specs.Spelled.{IsRead}
use Rattle.build_core.proofs.reading.add_text.Goals as goal

pub returns-in_ok-push-in-Some : goal.returns-in_ok-push-in-Some
returns-in_ok-push-in-Some c = (
  Ok (arc_value c.in-Some.component),
  subst (λ k. IfSome k (λ x. IsRead c.args.name.now c.args.text.now (Ok (arc_value x)))) c.in-Some.is c.in_ok-kept.ensures,
  (c.in_ok-push-in-Some.ensures, refl),
)

pub returns-in_ok-add_reading-in-None : goal.returns-in_ok-add_reading-in-None
returns-in_ok-add_reading-in-None c = (c.in_ok-reading-in-None.reading, c.in_ok-reading-in-None.ensures, c.in_ok-add_reading-in-None.ensures)
