use Rattle.std.proofs.Common.{◌≡◌, ◌++◌, map, drop}
use Rattle.std.specs.Option.{option_copied}
use Rattle.core_steps.specs.Proving.{lines_below, node_lines}
use Rattle.status_core.proofs.lines.+lines.Given as goal

-- what is left to add ends at the same lines
abbrev pub invariant-add_children-loop-at : goal.invariant-add_children-loop-at
invariant-add_children-loop-at l =
    l.lines.items ++ lines_below l.at (map node_lines (drop l.at l.children)) l.antecedents l.path (option_copied l.goal)
    ≡ l.initial.lines.items ++ lines_below 0 (map node_lines l.children) l.antecedents l.path (option_copied l.goal)
