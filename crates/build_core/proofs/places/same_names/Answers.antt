use Rattle.std.proofs.Common.{◌≡◌, ◌∙◌, sym, ap, true, false, arith}
use Rattle.std.specs.Arc.{arc_value}
use Rattle.build_core.proofs.SameNames.{one_more_name, other_name}
use Rattle.build_core.proofs.places.same_names.Goals as goal

untrue : false ≡ true → ⊥
untrue e = cc

pub loop-at-preserved : goal.loop-at-preserved
loop-at-preserved c =
    one_more_name arc_value c.args.one.now c.args.other.now c.loop-at.at c.index-one-at.result c.index-other-at.result
    (omega (arith, c.loop-at-test.true)) (omega (arith, c.loop-at-test.true, c.if-one-other.false)) c.index-one-at.is c.index-other-at.is
    (ap (λ o. o.name) (sym (c.obligation.ensures.obligation ∙ c.deref.ensures)) ∙ c.same.ensures.exact.0 c.if-not-same.false ∙ ap (λ o. o.name) (c.obligation-in-loop-at.ensures.obligation ∙ c.deref-in-loop-at.ensures)) c.loop-at.invariant

pub returns-then-not-same : goal.returns-then-not-same
returns-then-not-same c = (
  λ f. absurd (untrue f),
  λ e. absurd (other_name arc_value c.args.one.now c.args.other.now c.loop-at.at c.index-one-at.result c.index-other-at.result
      (omega (arith, c.loop-at-test.true)) (omega (arith, c.loop-at-test.true, c.if-one-other.false)) c.index-one-at.is c.index-other-at.is
      (λ n. untrue (sym c.if-not-same.true ∙ c.same.ensures.exact.1 (ap (λ o. o.name) (c.obligation.ensures.obligation ∙ c.deref.ensures) ∙ n ∙ sym (ap (λ o. o.name) (c.obligation-in-loop-at.ensures.obligation ∙ c.deref-in-loop-at.ensures))))) e),
)
