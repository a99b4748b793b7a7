use Rattle.std.proofs.Common.{sym, subst, ap, ◌∙◌}
use Rattle.std.specs.Option.{is_some}
use Rattle.session_words.specs.Reading.{Left, KeepsLines}
use Rattle.session_words.proofs.Readings.{Held, left_of, kept, holds_already, holds, holds_none, keeps_held}
use Rattle.session_words.proofs.commands.Commands.hold.Goals as goal

pub returns-then-is_some-clause-held : goal.returns-then-is_some-clause-held
returns-then-is_some-clause-held c =
    holds_already c.args.self.now (sym (ap (λ (f : Left). is_some f.held) c.self.view_is) ∙ sym c.is_some.ensures ∙ c.if-is_some.true)

pub returns-then-is_some-clause-kept : goal.returns-then-is_some-clause-kept
returns-then-is_some-clause-kept c = kept c.args.self.now

pub returns-in_err-self-inside-clause-kept : goal.returns-in_err-self-inside-clause-kept
returns-in_err-self-inside-clause-kept c =
    let new : Left = left_of c.self.inside.held c.next.new.self in
    subst (λ (f : Left). KeepsLines f new) c.self.view_is (holds_none c.self.inside.held c.self.inside.input c.next.new.self c.in_err-self-inside.ensures.left)

pub returns-clause-held : goal.returns-clause-held
returns-clause-held c =
    let new : Left = left_of c.in_ok-self-inside.field-0 c.next.new.self in
    subst (λ (f : Left). Held f new) c.self.view_is
    (holds c.self.inside.held c.self.inside.input c.next.new.self c.in_ok-self-inside.field-0 (sym c.is_some.ensures ∙ c.if-is_some.false) c.in_ok-self-inside.ensures.given)

pub returns-clause-kept : goal.returns-clause-kept
returns-clause-kept c =
    let new : Left = left_of c.in_ok-self-inside.field-0 c.next.new.self in
    subst (λ (f : Left). KeepsLines f new) c.self.view_is
    (keeps_held (left_of c.self.inside.held c.self.inside.input) new
    (holds c.self.inside.held c.self.inside.input c.next.new.self c.in_ok-self-inside.field-0 (sym c.is_some.ensures ∙ c.if-is_some.false) c.in_ok-self-inside.ensures.given))
