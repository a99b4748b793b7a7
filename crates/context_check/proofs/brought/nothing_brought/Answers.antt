use Rattle.std.proofs.Common.{◌∙◌, sym}
use Rattle.context_check.proofs.Repeated.{has_none}
use Rattle.context_check.proofs.Seen.{false_true, none_noted}
use Rattle.context_check.proofs.brought.nothing_brought.Goals as goal

pub returns : goal.returns
returns c = λ named v. record {
  seen = λ name d is known. false_true (sym (has_none c.new.result c.new.ensures.empty name) ∙ known);
  distinct = λ name d is known. false_true (sym (has_none c.new.result c.new.ensures.empty name) ∙ known);
  clashes = none_noted named v c.new-2.result c.new-2.ensures.empty;
}
