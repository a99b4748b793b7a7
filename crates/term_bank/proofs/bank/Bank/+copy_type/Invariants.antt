use Rattle.term_bank.proofs.bank.Bank.+copy_type.Given as goal

abbrev pub decreases-copy_type : goal.decreases-copy_type
decreases-copy_type l = l.levels
