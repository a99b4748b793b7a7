-- The printed replies.
use Rattle.std.specs.Prelude.{ℕ, true, false, List, [], ◌∷◌, ◌++◌, codes, Option, Some, None}
use Rattle.std.specs.Fmt.{decimal}
use Rattle.std.specs.List.{flat_map}
use Rattle.std.specs.Option.{option_to_list}
use Rattle.formula_core.specs.declared.formula.Formula.{Formula}
use Rattle.sequent_core.specs.declared.Sequent.{Sequent}
use Rattle.rule_making.specs.declared.fault.RuleFault.{RuleFault}
use Rattle.rule_making.specs.declared.fault.RuleFault.TheVariants as fault
use Rattle.readings_core.specs.declared.Follows.{Follows}
use Rattle.readings_core.specs.declared.Follows.TheVariants.{Yes, NotDerived, NotPlain}
use Rattle.core_steps.specs.declared.NodeLine.{NodeLine}
use Rattle.core_steps.specs.declared.Status.{Status}
use Rattle.core_steps.specs.declared.Reply.{Reply}
use Rattle.core_steps.specs.declared.Reply.TheVariants as reply
use Rattle.reply_text.specs.Digests.{hex_text}
use Rattle.reply_text.specs.Faults.{faults_text}
use Rattle.reply_text.specs.Printing.{sequent_text, path_text, tree_line}
use Rattle.reply_text.specs.Statuses.{line, status_word, named_status, statuses_text}

abbrev pub refused : List ℕ → List ℕ
refused words = line (codes "refused: " ++ words)

-- why no rule was made; a reply never says that memory ran out
abbrev pub rule_fault_words : RuleFault → List ℕ
rule_fault_words fault.NoPlace = codes "no such place"
rule_fault_words fault.BadTerm = codes "term is not typed"
rule_fault_words (fault.NotFresh name) = name ++ codes " is not fresh"
rule_fault_words fault.NoForm = codes "the rule does not fit"
rule_fault_words (fault.TooWide left right) = codes "number too wide"
rule_fault_words fault.TooLarge = codes "formula too large"
rule_fault_words fault.OutOfMemory = []

-- an obligation's status, or that it is gone
abbrev pub status_or_gone : Option Status → List ℕ
status_or_gone (Some status) = status_word status
status_or_gone None = codes "gone"

-- what became of an attempt, and the obligation's status
abbrev pub attempt_line : List ℕ → List ℕ → Option Status → List ℕ
attempt_line word name status = line (word ++ 32 ∷ name ++ 32 ∷ status_or_gone status)

-- what is said of an obligation's tree, behind the obligation's name
abbrev pub follows_words : Follows → List ℕ
follows_words Yes = codes " follows"
follows_words NotDerived = codes " not derived"
follows_words (NotPlain path) = codes " not plain at " ++ path_text path

-- the printed text of a reply
abbrev pub reply_text : Reply → List ℕ
reply_text reply.BadName = refused (codes "bad name")
reply_text reply.TextTooLong = refused (codes "text too long")
reply_text reply.ProjectFull = refused (codes "project full")
reply_text (reply.Edited name) = line (codes "edited " ++ name)
reply_text (reply.NoSuch name) = refused (codes "no component " ++ name)
reply_text (reply.Deleted name) = line (codes "deleted " ++ name)
reply_text (reply.TableFull nodes) = refused (codes "too many formula nodes")
reply_text (reply.Built components faulted obligations) =
    line (codes "built: " ++ decimal components ++ codes " components, "
    ++ decimal faulted ++ codes " faulted, " ++ decimal obligations ++ codes " obligations")
reply_text (reply.NoObligation name) = refused (codes "no obligation " ++ name)
reply_text reply.Broken = refused (codes "proof is broken")
reply_text reply.NoLeaf = refused (codes "no open leaf there")
reply_text reply.NoNode = refused (codes "no rule there")
reply_text (reply.Rule fault) = refused (rule_fault_words fault)
reply_text reply.TreeFull = refused (codes "tree full")
reply_text (reply.Now name status) = line (named_status name status)
reply_text reply.Nothing = []
reply_text (reply.Taken ticket) = []
reply_text (reply.NotOpen name status) = refused (codes "nothing to try: " ++ named_status name status)
reply_text (reply.NoTicket number) = refused (codes "no ticket " ++ decimal number)
reply_text (reply.Noted name status) = attempt_line (codes "noted") name status
reply_text (reply.NoMemory name status) = attempt_line (codes "no memory") name status
reply_text (reply.Stored name status) = attempt_line (codes "stored") name status
reply_text (reply.Refused name status) = attempt_line (codes "refused") name status
reply_text (reply.Stale name status) = attempt_line (codes "stale") name status
reply_text (reply.Purged count) = line (codes "purged " ++ decimal count)
reply_text (reply.Statuses shown) = statuses_text shown
reply_text (reply.Faults told warned) = faults_text told warned
reply_text (reply.Shown name status sequent) = line (named_status name status) ++ sequent_text sequent
reply_text (reply.Nodes nodes) = flat_map tree_line nodes
reply_text (reply.Followed name answer) = line (name ++ follows_words answer)
reply_text (reply.Digest digest) = line (hex_text digest)
reply_text (reply.Idle true) = line (codes "idle")
reply_text (reply.Idle false) = []

abbrev pub goals_of : NodeLine → List Formula
goals_of node = option_to_list node.goal

-- the formulas that a reply shows
abbrev pub shown_formulas : Reply → List Formula
shown_formulas (reply.Shown name status sequent) = sequent.goal ∷ sequent.hyps
shown_formulas (reply.Nodes nodes) = flat_map goals_of nodes
shown_formulas _ = []
