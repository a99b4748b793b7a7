use Rattle.term_bank.proofs.bank.Bank.+contains.Given as goal

abbrev pub decreases-contains : goal.decreases-contains
decreases-contains l = l.levels
