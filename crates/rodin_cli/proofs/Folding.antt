-- What lasts is the fold of the entries.
use Rattle.std.proofs.Common.{◌≡◌, ◌∙◌, ap, List, [], ◌∷◌, map}
use Rattle.core_steps.specs.Laws.{EntersAll}
use Rattle.core_steps.specs.State.{State, after}
use Rattle.core_steps.specs.Run.{Exchange, Runs}

-- a run leads to the fold of its entries
pub run_folds : EntersAll → (s t : State) (exchanges : List Exchange) → Runs s exchanges t → t.durable ≡ after s.durable (map (λ x. x.entry) exchanges)
run_folds law s t [] run = ap (λ u. u.durable) run
run_folds law s t (x ∷ exchanges) (m, step, rest) =
    run_folds law m t exchanges rest ∙ ap (λ d. after d (map (λ y. y.entry) exchanges)) (law s x.event x.reply x.entry m step)
