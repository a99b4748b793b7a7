use Rattle.core_steps.proofs.laws.opens_orderly.Goals as goal

pub returns : goal.returns
returns c = λ d. record { apart = tt; below = tt }
