use Rattle.rule_making.proofs.making.with_names.Goals as goal

pub returns : goal.returns
returns c = λ i. record {
  kind = c.args.rule.kind;
  needed_goal = c.args.rule.needed_goal;
  needed_hyps = c.args.rule.needed_hyps;
  used = c.requires i;
  antecedents = c.args.rule.antecedents;
}
