use Rattle.std.proofs.Common.{◌≡◌, ◌↔◌, IsTrue, IfOk, Some, subst}
use Rattle.rule_table.specs.Rows.{instance}
use Rattle.rule_table.specs.Rules.{body_of}
use Rattle.rule_kernel.proofs.table.is_instance.Goals as goal

pub returns : goal.returns
returns c = record {
  instance = subst (λ m. IfOk c.is_instance_for.result (λ is. IsTrue is ↔ (instance c.args.rule.now.kind m ≡ Some (body_of c.args.rule.now)))) c.in_ok-main.ensures.main c.is_instance_for.ensures;
}
