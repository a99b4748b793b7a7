use Rattle.term_bank.proofs.bank.Bank.+putting.Given as goal

abbrev pub decreases-instantiated : goal.decreases-instantiated
decreases-instantiated l = l.levels

abbrev pub decreases-instantiated_parts : goal.decreases-instantiated_parts
decreases-instantiated_parts l = l.levels
