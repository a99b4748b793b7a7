-- Printed sequents and trees.
use Rattle.std.specs.Prelude.{ℕ, ◌+◌, List, [], ◌∷◌, ◌++◌, codes, Option, Some, None}
use Rattle.std.specs.Fmt.{decimal}
use Rattle.std.specs.List.{flat_map}
use Rattle.formula_core.specs.declared.formula.Formula.{Formula}
use Rattle.math_grammar.specs.Characters.{bytes}
use Rattle.formula_print.specs.Printing.{formula_text}
use Rattle.sequent_core.specs.declared.Sequent.{Sequent}
use Rattle.core_steps.specs.declared.NodeLine.{NodeLine}
use Rattle.rule_words.specs.RuleWords.{rule_word}
use Rattle.reply_text.specs.Statuses.{line}

-- a goal behind its sign
abbrev pub goal_text : Formula → List ℕ
goal_text goal = bytes "⊢ " ++ formula_text goal

-- hypotheses behind so many others, each with its number
abbrev pub hyp_lines_after : ℕ → List Formula → List ℕ
hyp_lines_after before [] = []
hyp_lines_after before (hyp ∷ hyps) = line (decimal (before + 1) ++ codes ": " ++ formula_text hyp)
    ++ hyp_lines_after (before + 1) hyps

-- the hypotheses, numbered from 1, and the goal
abbrev pub sequent_text : Sequent → List ℕ
sequent_text sequent = hyp_lines_after 0 sequent.hyps ++ line (goal_text sequent.goal)

-- more numbers of a path, each behind a dot
abbrev pub dotted : List ℕ → List ℕ
dotted path = flat_map (λ n. 46 ∷ decimal n) path

-- a path as a step names it: `-` for the root, else numbers with dots between them
abbrev pub path_text : List ℕ → List ℕ
path_text [] = codes "-"
path_text (n ∷ path) = decimal n ++ dotted path

-- what stands at a node: the word of its rule, or `open`
abbrev pub node_word : Option ℕ → List ℕ
node_word (Some kind) = rule_word kind
node_word None = codes "open"

abbrev pub node_goal : Option Formula → List ℕ
node_goal (Some goal) = 32 ∷ goal_text goal
node_goal None = []

-- a node: its path, what stands there, and its goal where it has one
abbrev pub tree_line : NodeLine → List ℕ
tree_line node = line (path_text node.path ++ 32 ∷ node_word node.kind ++ node_goal node.goal)
