use Rattle.std.proofs.Common.{◌++◌, ◌∙◌, ap, sym, List, ℕ}
use Rattle.std.specs.Prelude.{string_bytes, codes}
use Rattle.reply_text.specs.Replies.{refused, rule_fault_words}
use Rattle.reply_text.proofs.Joining.{same_piece}
use Rattle.reply_text.proofs.replies.add_rule_fault.Goals as goal

pub returns-in-NotFresh : goal.returns-in-NotFresh
returns-in-NotFresh c =
    same_piece c.add_refusal_of.result (string_bytes c.args.out.now) (string_bytes c.add_refusal_of.new.out)
    (refused (c.as_text.result.now ++ codes " is not fresh")) (refused (rule_fault_words c.args.fault.now))
    (ap (λ (w : List ℕ). refused (w ++ codes " is not fresh")) c.as_text.ensures.text ∙ ap (λ (w : List ℕ). refused w) (sym (ap rule_fault_words c.in-NotFresh.is)))
    c.add_refusal_of.ensures

pub returns-in-NoForm : goal.returns-in-NoForm
returns-in-NoForm c =
    same_piece c.add_refusal-in-NoForm.result (string_bytes c.args.out.now) (string_bytes c.add_refusal-in-NoForm.new.out)
    (refused (codes "the rule does not fit")) (refused (rule_fault_words c.args.fault.now)) (ap (λ (w : List ℕ). refused w) (sym (ap rule_fault_words c.in-NoForm.is)))
    c.add_refusal-in-NoForm.ensures
