use Rattle.std.proofs.Common.{◌≡◌, ◌∙◌, ◌+◌, ◌∷◌, [], ◌++◌, sym, ap, map, drop, append_assoc, Bor}
use Rattle.std.specs.Prelude.{Option, slice_get}
use Rattle.std.specs.List.{HoldsAt}
use Rattle.std.specs.Option.{option_copied}
use Rattle.rule_table.specs.declared.Antecedent.{Antecedent}
use Rattle.core_steps.specs.Proving.{goal_of, lines_below, node_lines}
use Rattle.status_core.proofs.NodeLines.{lines_more, got}
use Rattle.status_core.proofs.lines.+lines.Goals as goal

pub add_children-loop-at-preserved : goal.add_children-loop-at-preserved
add_children-loop-at-preserved t c =
    let children = c.args.children.now in
    let antecedents = c.args.antecedents.now in
    let path = c.args.path.now in
    let goal = option_copied c.args.goal in
    let at = c.loop-at.at in
    let child = c.index-children-at.result in
    let lines = c.loop-at.lines.items in
    let rest = lines_below (at + 1) (map node_lines (drop (at + 1) children)) antecedents path goal in
    let own = node_lines child (path ++ at ∷ []) (goal_of (slice_get antecedents at) goal) in
    let left : option_copied c.goal_after-left.result ≡ goal_of (slice_get antecedents at) goal = c.goal_after-left.ensures ∙ ap (λ (a : Option Antecedent). goal_of a goal)
    (got (λ (x : Bor Antecedent). HoldsAt (λ y. x.now ≡ y) antecedents at) antecedents at c.get.result c.get.ensures.lookup.3 c.get.ensures.lookup.1) in
    let added : c.add_lines.new.lines.items ≡ lines ++ own = rw (c.in_ok-child.ensures, left) at c.in_ok-add_lines.ensures in
    ap (λ ls. ls ++ rest) added ∙ append_assoc lines own rest ∙ ap (λ ls. lines ++ ls) (sym (lines_more children antecedents path goal at child c.loop-at-test.true c.index-children-at.is))
    ∙ c.loop-at.invariant
