use Rattle.std.proofs.Common.{rules, ◌≡◌, subst, sym, string_bytes}
use Rattle.component_print.specs.Printed.{component_text}
use Rattle.component_print.specs.Back.{IsReread}
use Rattle.component_print.proofs.ReadBack.{printed_reads_back}
use Rattle.component_print.proofs.printing.print.Goals as goal

pub returns-clause-reads_back : goal.returns-clause-reads_back
returns-clause-reads_back c =
    let text : string_bytes c.print_onto.new.out ≡ component_text c.args.component.now = search rules in
    subst (IsReread c.args.component.now) (sym text) (printed_reads_back c.one_formula.ensures c.one_action.ensures c.pieces_one_way.ensures c.args.component.now c.requires)
