-- A call at the end, that adds the last rows.
use Rattle.std.proofs.Common.{◌≡◌, subst, List, ◌++◌, OnOk, IfOk}
use Rattle.std.specs.Prelude.{Result, Ok, Err}
use Rattle.sequent_core.specs.declared.sequent.Obligation.{Obligation}
use Rattle.po_rules.specs.Gathering.{Gathered, gathered}
use Rattle.po_machine.proofs.Gathering.{both_gathered}

-- the same rows under another name
pub same_rows : {T E : Type 0} (result : Result T E) (old new : Gathered) (a b : List Obligation) → a ≡ b → OnOk result (new ≡ gathered old a) → OnOk result (new ≡ gathered old b)
same_rows result old new a b e h = subst (λ rows. OnOk result (new ≡ gathered old rows)) e h

-- behind those of a call before
pub then_rows : {T E : Type 0} (result : Result T E) (old mid new : Gathered) (a b : List Obligation) → mid ≡ gathered old a → OnOk result (new ≡ gathered mid b)
    → OnOk result (new ≡ gathered old (a ++ b))
then_rows (Ok x) old mid new a b e h = both_gathered old mid new a b e h
then_rows (Err x) old mid new a b e h = tt

pub same_answer : {T E X : Type 0} (result : Result T E) (f : T → X) (a b : X) → a ≡ b → IfOk result (λ x. f x ≡ a) → IfOk result (λ x. f x ≡ b)
same_answer result f a b e h = subst (λ y. IfOk result (λ x. f x ≡ y)) e h
