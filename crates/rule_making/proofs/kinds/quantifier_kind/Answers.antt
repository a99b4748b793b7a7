use Rattle.std.proofs.Common.{◌≡◌, ◌∙◌, sym, ap, arith}
use Rattle.rule_making.specs.Make.{kind_of}
use Rattle.rule_making.proofs.kinds.quantifier_kind.Goals as goal

pub returns-in_default : goal.returns-in_default
unfolding kind_of
returns-in_default c =
    let e : c.args.number ≡ 23 = omega (arith, c.requires.least, c.requires.most) in
    c.reviewing.ensures ∙ ap (λ n. kind_of n c.args.hint.now c.args.terms.now) (sym e)
