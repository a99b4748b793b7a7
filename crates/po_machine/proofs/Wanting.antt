-- What the actions of an event give, and what the abstract event gives of lost variables.
use Rattle.std.proofs.Common.{◌≡◌, ◌∙◌, ap, ℕ, List, [], ◌++◌, map}
use Rattle.std.specs.List.{filter}
use Rattle.formula_core.specs.declared.raw.Action.{Action}
use Rattle.model_core.specs.Each.{for_each, is_among}
use Rattle.po_machine.specs.declared.changes.Wanted.{Wanted}
use Rattle.po_machine.specs.declared.changes.Wanted.TheVariants.{All, Among}
use Rattle.po_machine.specs.Private.{is_wanted_name}
use Rattle.po_machine.proofs.Lists.{filter_all}

pub both_wanted : {V : Type 0} (rows : Action → List (List ℕ × V)) (actions own : List (List ℕ × Action)) (lost : List (List ℕ)) (wanted : Wanted) (start mid whole : List (List ℕ × V))
    (first : List (List ℕ × Action)) (abstract : List Action) → start ≡ [] → own ≡ actions
    → mid ≡ start ++ filter (λ x. is_wanted_name All x.0) (for_each rows (map (λ a. a.1) own))
    → wanted ≡ Among lost → map (λ a. a.1) first ≡ abstract
    → whole ≡ mid ++ filter (λ x. is_wanted_name wanted x.0) (for_each rows (map (λ a. a.1) first))
    → whole ≡ for_each rows (map (λ a. a.1) actions) ++ filter (λ x. is_among lost x.0) (for_each rows abstract)
both_wanted rows actions own lost wanted start mid whole first abstract none own_is first_add wanted_is first_is second_add =
    second_add ∙ ap (λ w. mid ++ filter (λ x. is_wanted_name w x.0) (for_each rows (map (λ a. a.1) first))) wanted_is
    ∙ ap (λ xs. mid ++ filter (λ x. is_among lost x.0) (for_each rows xs)) first_is
    ∙ ap (λ m. m ++ filter (λ x. is_among lost x.0) (for_each rows abstract))
    (first_add ∙ ap (λ s. s ++ filter (λ x. is_wanted_name All x.0) (for_each rows (map (λ a. a.1) own))) none
    ∙ filter_all (for_each rows (map (λ a. a.1) own)) ∙ ap (λ xs. for_each rows (map (λ a. a.1) xs)) own_is)
