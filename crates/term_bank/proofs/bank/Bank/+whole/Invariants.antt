use Rattle.term_bank.proofs.bank.Bank.+whole.Given as goal

abbrev pub decreases-whole : goal.decreases-whole
decreases-whole l = l.levels
