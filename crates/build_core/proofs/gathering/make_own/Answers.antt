use Rattle.std.proofs.Common.{◌≡◌, ◌∙◌, ap, arith}
use Rattle.std.specs.Option.{option_copied}
use Rattle.po_rules.specs.Gathering.{gathered, table_nodes}
use Rattle.po_rules.specs.Tables.{obligations_of}
use Rattle.po_machine.specs.Shared.{view}
use Rattle.po_generate.specs.Laws as gathering
use Rattle.build_core.proofs.Collecting.{gathered_made}
use Rattle.build_core.proofs.gathering.make_own.Goals as goal

pub overflow_sub-result : goal.overflow_sub-result
overflow_sub-result c =
    let list = obligations_of c.args.checked.now (option_copied c.args.abstraction) in
    let is : view c.add_obligations.new.out ≡ gathered (gathering.begun_at c.args.nodes) list =
    c.in_ok-add_obligations.ensures ∙ ap (λ os. gathered (record { obligations = os; nodes = c.args.nodes }) list) c.new.ensures.items in
    let made = gathered_made c.args.nodes list (view c.add_obligations.new.out) c.requires.within is c.if-counted-gt-TABLE_LIMIT.false in
    omega (arith, made.1)

pub returns-clause-made : goal.returns-clause-made
returns-clause-made c =
    let list = obligations_of c.args.checked.now (option_copied c.args.abstraction) in
    let is : view c.add_obligations.new.out ≡ gathered (gathering.begun_at c.args.nodes) list =
    c.in_ok-add_obligations.ensures ∙ ap (λ os. gathered (record { obligations = os; nodes = c.args.nodes }) list) c.new.ensures.items in
    let made = gathered_made c.args.nodes list (view c.add_obligations.new.out) c.requires.within is c.if-counted-gt-TABLE_LIMIT.false in
    (c.in_ok-obligations.ensures ∙ made.0, omega (arith, made.1, ap table_nodes (c.in_ok-obligations.ensures ∙ made.0)))
