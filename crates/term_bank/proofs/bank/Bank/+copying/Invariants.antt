use Rattle.term_bank.proofs.bank.Bank.+copying.Given as goal

abbrev pub decreases-formula : goal.decreases-formula
decreases-formula l = l.levels

abbrev pub decreases-copy_parts : goal.decreases-copy_parts
decreases-copy_parts l = l.levels
