use Rattle.step_items.proofs.Gathering.{unread_expression, unread_predicate}
use Rattle.step_items.proofs.hints.add.Goals as goal

pub returns-in-None : goal.returns-in-None
returns-in-None c =
    unread_expression c.args.item.now c.in-Expression.bytes c.items.result.now c.in_ok-term-in-Expression.field-0 c.in-Expression.is c.items.ensures c.in-None.is
    c.in_ok-term-in-Expression.ensures

pub returns-in-None-2 : goal.returns-in-None-2
returns-in-None-2 c =
    unread_predicate c.args.item.now c.in-Predicate.bytes c.items-in-Predicate.result.now c.in_ok-term-in-Predicate.field-0 c.in-Predicate.is c.items-in-Predicate.ensures c.in-None-2.is
    c.in_ok-term-in-Predicate.ensures
