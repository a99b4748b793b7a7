use Rattle.std.proofs.Common.{◌++◌, ◌∙◌, ap, sym, List, ℕ}
use Rattle.std.specs.Prelude.{string_bytes, codes}
use Rattle.reply_text.specs.Replies.{refused, reply_text}
use Rattle.reply_text.proofs.Joining.{same_piece}
use Rattle.reply_text.proofs.replies.add_reply.Goals as goal

pub returns-in-NoSuch : goal.returns-in-NoSuch
returns-in-NoSuch c =
    same_piece c.add_refusal_of.result (string_bytes c.args.out.now) (string_bytes c.add_refusal_of.new.out)
    (refused (codes "no component " ++ c.as_text-in-NoSuch.result.now)) (reply_text c.args.reply.now)
    (ap (λ (w : List ℕ). refused (codes "no component " ++ w)) c.as_text-in-NoSuch.ensures.text ∙ sym (ap reply_text c.in-NoSuch.is)) c.add_refusal_of.ensures

pub returns-in-TableFull : goal.returns-in-TableFull
returns-in-TableFull c =
    same_piece c.add_refusal-in-TableFull.result (string_bytes c.args.out.now) (string_bytes c.add_refusal-in-TableFull.new.out)
    (refused (codes "too many formula nodes")) (reply_text c.args.reply.now) (sym (ap reply_text c.in-TableFull.is)) c.add_refusal-in-TableFull.ensures

pub returns-in-NoObligation : goal.returns-in-NoObligation
returns-in-NoObligation c =
    same_piece c.add_refusal_of-in-NoObligation.result (string_bytes c.args.out.now) (string_bytes c.add_refusal_of-in-NoObligation.new.out)
    (refused (codes "no obligation " ++ c.as_text-in-NoObligation.result.now)) (reply_text c.args.reply.now)
    (ap (λ (w : List ℕ). refused (codes "no obligation " ++ w)) c.as_text-in-NoObligation.ensures.text ∙ sym (ap reply_text c.in-NoObligation.is)) c.add_refusal_of-in-NoObligation.ensures

pub returns-in-Broken : goal.returns-in-Broken
returns-in-Broken c =
    same_piece c.add_refusal-in-Broken.result (string_bytes c.args.out.now) (string_bytes c.add_refusal-in-Broken.new.out)
    (refused (codes "proof is broken")) (reply_text c.args.reply.now) (sym (ap reply_text c.in-Broken.is)) c.add_refusal-in-Broken.ensures

pub returns-in-NoLeaf : goal.returns-in-NoLeaf
returns-in-NoLeaf c =
    same_piece c.add_refusal-in-NoLeaf.result (string_bytes c.args.out.now) (string_bytes c.add_refusal-in-NoLeaf.new.out)
    (refused (codes "no open leaf there")) (reply_text c.args.reply.now) (sym (ap reply_text c.in-NoLeaf.is)) c.add_refusal-in-NoLeaf.ensures

pub returns-in-NoNode : goal.returns-in-NoNode
returns-in-NoNode c =
    same_piece c.add_refusal-in-NoNode.result (string_bytes c.args.out.now) (string_bytes c.add_refusal-in-NoNode.new.out)
    (refused (codes "no rule there")) (reply_text c.args.reply.now) (sym (ap reply_text c.in-NoNode.is)) c.add_refusal-in-NoNode.ensures
