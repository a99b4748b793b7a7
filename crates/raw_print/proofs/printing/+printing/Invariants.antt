use Rattle.std.proofs.Common.{◌≡◌, ◌++◌, ◌+◌, ◌*◌, string_bytes, map, drop}
use Rattle.token_text.specs.Pieces.{text_of, behind_commas}
use Rattle.raw_print.specs.Printing.{pieces}
use Rattle.raw_print.specs.Private.{declared}
use Rattle.raw_print.proofs.Weights.{weight, weights, bound_weight, bound_weights}
use Rattle.raw_print.proofs.printing.+printing.Given as goal

abbrev pub decreases-print_formula : goal.decreases-print_formula
decreases-print_formula l = 8 * weight l.formula.now

abbrev pub decreases-print_inside : goal.decreases-print_inside
decreases-print_inside l = 8 * weight l.formula.now + 1

abbrev pub decreases-print_operand : goal.decreases-print_operand
decreases-print_operand l = 8 * weight l.part.now + 2

abbrev pub decreases-print_unary : goal.decreases-print_unary
decreases-print_unary l = 8 * weight l.a.now + 3

abbrev pub decreases-print_second : goal.decreases-print_second
decreases-print_second l = 8 * weight l.b.now + 3

abbrev pub decreases-print_separated : goal.decreases-print_separated
decreases-print_separated l = 8 * weights l.parts.now + 1

abbrev pub decreases-print_body : goal.decreases-print_body
decreases-print_body l = 8 * weights l.parts.now + 1

abbrev pub decreases-print_list : goal.decreases-print_list
decreases-print_list l = 8 * weights l.parts.now + 2

abbrev pub decreases-print_node : goal.decreases-print_node
decreases-print_node l = 8 * weights l.parts.now + 5

abbrev pub decreases-print_operands : goal.decreases-print_operands
decreases-print_operands l = 8 * weights l.parts.now + 4

abbrev pub decreases-print_scope : goal.decreases-print_scope
decreases-print_scope l = 8 * (bound_weights l.names.now + weights l.parts.now) + 5

abbrev pub decreases-print_declaration : goal.decreases-print_declaration
decreases-print_declaration l = 8 * bound_weight l.bound.now + 3

abbrev pub decreases-print_declarations : goal.decreases-print_declarations
decreases-print_declarations l = 8 * bound_weights l.names.now + 4

abbrev pub decreases-print_pattern : goal.decreases-print_pattern
decreases-print_pattern l = 8 * (weight l.tree.now + bound_weights l.names.now)

abbrev pub decreases-print_side : goal.decreases-print_side
decreases-print_side l = 8 * (weight l.tree.now + bound_weights l.names.now) + 1

abbrev pub invariant-print_separated-loop-part : goal.invariant-print_separated-loop-part
invariant-print_separated-loop-part l =
    string_bytes l.out ++ text_of (behind_commas (map pieces (drop l.part-index l.rest))) ≡ string_bytes l.initial.out ++ text_of (behind_commas (map pieces l.rest))

abbrev pub invariant-print_declarations-loop-name : goal.invariant-print_declarations-loop-name
invariant-print_declarations-loop-name l =
    string_bytes l.out ++ text_of (behind_commas (map declared (drop l.name-index l.rest))) ≡ string_bytes l.initial.out ++ text_of (behind_commas (map declared l.rest))
