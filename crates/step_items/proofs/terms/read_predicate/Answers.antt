use Rattle.math_grammar.specs.declared.holes.Hole.TheVariants as hole
use Rattle.step_items.proofs.Cutting.{term_by, where_some}
use Rattle.step_items.proofs.terms.read_predicate.Goals as goal

pub returns-in-Some-2 : goal.returns-in-Some-2
returns-in-Some-2 c =
    term_by c.cut_one_way.ensures hole.Predicate c.args.bytes.now c.in-Some.text.now c.in-Some-2.cut.items c.as_slice.result.now c.predicate_of.result
    c.in-Some.ensures.0 c.in-Some.ensures.1 c.in-Some.ensures.2 (where_some _ _ c.in_ok-cut.field-0 c.in-Some-2.cut c.in-Some-2.is c.in_ok-cut.ensures)
    c.as_slice.ensures.value c.predicate_of.ensures
