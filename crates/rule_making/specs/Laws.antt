-- The answer to a kind and a hint is one.
use Rattle.std.specs.Prelude.{◌≡◌, ℕ, Result, Err}
use Rattle.sequent_core.specs.declared.hint.Hint.{Hint}
use Rattle.sequent_core.specs.declared.sequent.Sequent.{Sequent}
use Rattle.rule_table.specs.declared.rule.Rule.{Rule}
use Rattle.rule_making.specs.declared.fault.RuleFault.{RuleFault}
use Rattle.rule_making.specs.declared.fault.RuleFault.TheVariants.{OutOfMemory}
use Rattle.rule_making.specs.Make.{Answers}

-- it isn't that there is no memory
abbrev pub HasMemory : Result Rule RuleFault → Type 0
HasMemory r = r ≡ Err OutOfMemory → ⊥

-- two answers to a kind and a hint for a sequent are the same, where there is memory
abbrev pub AnswersAreOne : Type 0
AnswersAreOne = (n : ℕ) (h : Hint) (s : Sequent) (a b : Result Rule RuleFault)
    → HasMemory a → HasMemory b → Answers n h s a → Answers n h s b → a ≡ b
