-- The project without texts, and what a builder answers.
use Rattle.std.proofs.Common.{◌≡◌, ◌∙◌, sym, subst, ℕ, true, false, List, [], Option, Some, None, get_or, arith}
use Rattle.std.specs.Prelude.{Ok, Err}
use Rattle.std.specs.List.{IsDistinct}
use Rattle.model_core.specs.declared.fault.Fault.{Fault}
use Rattle.model_core.specs.declared.checked.Checked.{Checked}
use Rattle.sequent_core.specs.declared.sequent.Obligation.{Obligation}
use Rattle.build_core.specs.Projects.{Project, Checks}
use Rattle.build_core.specs.Tables.{IsTableOf, IsOfName, IsPlaceInTable}
use Rattle.build_core.specs.Private.{Outcomes, found, AreListed, IsJudged, AreOwnsOf}
use Rattle.build_core.proofs.Tables.{one_table}
use Rattle.build_core.proofs.Taken.{verdict_found}
use Rattle.build_core.proofs.Placing.{of_place}

none_some : {A X : Type 0} (x : X) → None ≡ Some x → A
none_some x e = absurd (never e)
  where
    never : None ≡ Some x → ⊥
    never h = cc

pub nothing_judged : IsJudged [] []
unfolding IsDistinct
nothing_judged = record {
  once = tt;
  verdicts = record { sound = λ n o e. none_some o e; whole = λ n text h. absurd (omega (arith, h.1)) };
}

pub nothing_listed : AreListed [] [] []
unfolding IsDistinct
nothing_listed = record {
  once = tt;
  read = λ c h. absurd (omega (arith, h.1));
  indexed = record { place = λ name i e. none_some i e; all = λ name e. absurd (untrue e) };
}
  where
    untrue : false ≡ true → ⊥
    untrue e = cc

pub nothing_owned : AreOwnsOf [] []
nothing_owned name own e = none_some own e

-- the place in the one table
pub place_in : (project : Project) (outcomes : Outcomes) → IsJudged project outcomes → (mine table : List Obligation) → IsTableOf project mine → IsTableOf project table →
    (name : List ℕ) (place : Option ℕ) → IsPlaceInTable mine name place → IsPlaceInTable table name place
place_in project outcomes judged mine table a b name place is = subst (λ t. IsPlaceInTable t name place) (one_table project judged.once mine table a b) is

-- the obligation there
pub found_in : (project : Project) (outcomes : Outcomes) → IsJudged project outcomes → (mine table : List Obligation) → IsTableOf project mine → IsTableOf project table →
    (name : List ℕ) (at : ℕ) (o : Obligation) → IsPlaceInTable mine name (Some at) → o ≡ get_or mine at o → IsOfName table name (Some o)
found_in project outcomes judged mine table a b name at o place is =
    subst (λ t. IsOfName t name (Some o)) (one_table project judged.once mine table a b) (of_place mine name at o place is)

-- no component without fault where there is a fault, or nothing
pub faulted_unchecked : (project : Project) (outcomes : Outcomes) → IsJudged project outcomes → (name : List ℕ) (fault : Fault) → found outcomes name ≡ Some (Err fault) →
    (checked : Checked) → Checks project name (Ok checked) → ⊥
faulted_unchecked project outcomes judged name fault is checked h = never (sym is ∙ verdict_found project outcomes judged name (Ok checked) h)
  where
    never : Some (Err fault) ≡ Some (Ok checked) → ⊥
    never e = cc

pub absent_unchecked : (project : Project) (outcomes : Outcomes) → IsJudged project outcomes → (name : List ℕ) → found outcomes name ≡ None →
    (checked : Checked) → Checks project name (Ok checked) → ⊥
absent_unchecked project outcomes judged name is checked h = none_some (Ok checked) (sym is ∙ verdict_found project outcomes judged name (Ok checked) h)
