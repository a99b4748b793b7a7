use Rattle.std.proofs.Common.{rules, ◌≡◌}
use Rattle.formula_print.proofs.NumberedNames.{more_names, more_are_names}
use Rattle.formula_print.proofs.names.names_of.Goals as goal

pub loop-identifier-preserved : goal.loop-identifier-preserved
loop-identifier-preserved c =
    let key : c.in_ok-copied.field-0 ≡ c.identifier-item.result.0 = search rules in
    record {
      has = λ name. more_names c.args.identifiers.now c.loop-identifier.identifier-index c.identifier-item.result name c.in_ok-copied.field-0 _ _ c.loop-identifier-test.true c.identifier-item.is key
          (c.loop-identifier.invariant.has name) (c.in_ok-insert.ensures.updates.0 name);
      are = more_are_names c.args.identifiers.now c.loop-identifier.identifier-index c.identifier-item.result c.loop-identifier-test.true c.identifier-item.is (search rules) c.loop-identifier.invariant.are;
    }
