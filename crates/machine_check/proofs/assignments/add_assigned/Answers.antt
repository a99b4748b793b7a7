use Rattle.std.proofs.Common.{◌≡◌, ℕ, List, Bool, ◌||◌, subst, OnOk}
use Rattle.model_core.specs.Borrowed.{has}
use Rattle.machine_check.proofs.Targets.{assigned_pairs, assigned_such}
use Rattle.machine_check.proofs.assignments.add_assigned.Goals as goal

pub returns-in-Assign : goal.returns-in-Assign
returns-in-Assign c =
    subst (λ (f : List ℕ → Bool). OnOk c.add_names_of.result ((x : List ℕ) → has c.add_names_of.new.texts x ≡ (has c.args.texts.now x || f x)))
    (λ k x. assigned_pairs c.args.action.now c.in-Assign.pairs c.items.result.now c.in-Assign.is c.items.ensures x k) c.add_names_of.ensures

pub returns-in-ChooseSuch : goal.returns-in-ChooseSuch
returns-in-ChooseSuch c =
    subst (λ (f : List ℕ → Bool). OnOk c.add_names_of-in-ChooseSuch.result ((x : List ℕ) → has c.add_names_of-in-ChooseSuch.new.texts x ≡ (has c.args.texts.now x || f x)))
    (λ k x. assigned_such c.args.action.now c.in-ChooseSuch.targets c.in-ChooseSuch.field-1 c.items-in-ChooseSuch.result.now c.in-ChooseSuch.is c.items-in-ChooseSuch.ensures x k) c.add_names_of-in-ChooseSuch.ensures
