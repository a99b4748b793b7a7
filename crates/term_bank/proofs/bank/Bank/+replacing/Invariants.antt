use Rattle.term_bank.proofs.bank.Bank.+replacing.Given as goal

abbrev pub decreases-replaced : goal.decreases-replaced
decreases-replaced l = l.levels

abbrev pub decreases-replaced_after : goal.decreases-replaced_after
decreases-replaced_after l = l.levels
