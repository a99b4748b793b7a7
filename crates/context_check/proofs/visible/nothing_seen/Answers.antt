use Rattle.std.proofs.Common.{◌∙◌, ◌++◌, ap, sym, map}
use Rattle.model_core.specs.Each.{is_among}
use Rattle.check_rules.specs.Visible.{origins}
use Rattle.context_check.specs.Views.{placed, clashes_with}
use Rattle.context_check.proofs.Repeated.{has_none}
use Rattle.context_check.proofs.Clashes.{none_noted}
use Rattle.context_check.proofs.visible.nothing_seen.Goals as goal

pub returns : goal.returns
returns c = record {
  seen = λ i. record {
    contexts = map (λ n. n.now) (c.new.ensures.items i);
    constants = map placed (c.new-2.ensures.items i);
    variables = map placed (c.new-3.ensures.items i);
    axioms = map placed (c.new-4.ensures.items i);
  };
  indexed = record {
    contexts = λ x. has_none c.new-5.result c.new-5.ensures.empty x ∙ sym (ap (λ ns. is_among (map (λ n. n.now) ns) x) c.new.ensures.items);
    constants = λ x. has_none c.new-6.result c.new-6.ensures.empty x ∙ sym (ap (λ ps. is_among (origins (map placed ps)) x) c.new-2.ensures.items);
    axioms = λ x. has_none c.new-7.result c.new-7.ensures.empty x ∙ sym (ap (λ ps. is_among (origins (map placed ps)) x) c.new-4.ensures.items);
    names = λ x o. none_noted c.new-8.result c.new-8.ensures.empty x o
        ∙ sym (λ i. clashes_with (map placed (c.new-2.ensures.items i) ++ map placed (c.new-3.ensures.items i)) x o);
  };
}
