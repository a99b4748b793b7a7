-- What a build answers.
use Rattle.std.proofs.Common.{◌≡◌, ℕ, ◌<◌, List}
use Rattle.model_core.specs.declared.component.RawComponent.{RawComponent}
use Rattle.check_rules.specs.Contexts.{Outcome}
use Rattle.sequent_core.specs.declared.sequent.Obligation.{Obligation}
use Rattle.po_rules.specs.Gathering.{table_limit}
use Rattle.build_core.specs.declared.owns.Own.{Own}
use Rattle.build_core.specs.Projects.{Project}
use Rattle.build_core.specs.Tables.{IsTableOf, AreGiven, IsTooLargeOf, counted_nodes}
use Rattle.build_core.specs.Private.{Outcomes, AreConcluded, AreVerdicts, AreOwnsOf, AreJudged, IsBegun, own_list, given_in}
use Rattle.build_core.proofs.EachOwn.{AreOwn, HaveOwns}
use Rattle.build_core.proofs.Found.{its_text}
use Rattle.build_core.proofs.Concluding.{concluded_verdicts, have_components}
use Rattle.build_core.proofs.Tables.{own_table, own_gives, given_all}

pub all_judged : (project : Project) (components : List RawComponent) (start outcomes : Outcomes) → IsBegun project components start → AreConcluded components start outcomes →
    AreJudged project components outcomes
all_judged project components start outcomes begun all = record {
  judged = record { once = begun.once; verdicts = verdicts };
  read = begun.read.read;
  whole = have_components project begun.once components start begun.read outcomes verdicts;
}
  where
    verdicts : AreVerdicts project outcomes
    verdicts = concluded_verdicts project begun.once components start begun.read outcomes all

module _ (project : Project) (components : List RawComponent) (outcomes : Outcomes) (judged : AreJudged project components outcomes) where
  pub whole_given : {X : Type 0} (each : List ℕ → Outcome → List X) (given : List X) → given ≡ given_in each outcomes project → AreGiven each project project given
  whole_given each given is = given_all project judged.judged.once components outcomes judged.read judged.judged.verdicts each given is

  pub whole_owns : (owns : List (List ℕ × Own)) → HaveOwns components outcomes project owns → AreOwnsOf project owns
  whole_owns owns have name own e =
      let h = have name own e in
      let t = its_text project name h.0 in
      (own_gives project judged.judged.once components outcomes judged.read judged.judged.verdicts name t.0 (own_list own) t.1 h.1.0, h.1.1)

  pub whole_table : (table : List Obligation) → AreOwn components outcomes project table → IsTableOf project table
  whole_table table own = own_table project judged.judged.once components outcomes judged.read judged.judged.verdicts table own

  pub whole_full : (table : List Obligation) (n : ℕ) → AreOwn components outcomes project table → table_limit < n → n ≡ counted_nodes table → IsTooLargeOf project n
  whole_full table n own more is = (table, whole_table table own, more, is)
