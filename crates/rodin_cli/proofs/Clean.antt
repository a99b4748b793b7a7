-- The faults that a whole run tells and the statuses that it shows are those of a clean rebuild.
use Rattle.std.proofs.Common.{◌≡◌, ℕ, List, [], ◌∷◌, ◌++◌, refl, sym, ap, ◌∙◌, subst}
use Rattle.std.specs.Prelude.{Option, Some, None}
use Rattle.std.specs.List.{AllZip}
use Rattle.std.specs.FinMap.{get}
use Rattle.sequent_core.specs.declared.Sequent.{Sequent}
use Rattle.sequent_core.specs.declared.Obligation.{Obligation}
use Rattle.sequent_core.specs.declared.Attempt.{Attempt}
use Rattle.sequent_core.specs.Trees.{Derives}
use Rattle.build_core.specs.declared.FaultLine.{FaultLine}
use Rattle.proof_entries.specs.declared.Origin.{Origin}
use Rattle.proof_entries.specs.declared.Proof.{Proof}
use Rattle.core_steps.specs.declared.Durable.{Durable}
use Rattle.core_steps.specs.declared.Status.{Status}
use Rattle.core_steps.specs.declared.Status.TheVariants.{Unattempted, Discharged}
use Rattle.core_steps.specs.declared.Event.TheVariants.{Ask}
use Rattle.core_steps.specs.declared.Question.TheVariants.{Statuses as AskStatuses, Faults as AskFaults}
use Rattle.core_steps.specs.declared.Reply.TheVariants.{Statuses, Faults}
use Rattle.core_steps.specs.Status.{IsStatus, Shows, IsRebuilt}
use Rattle.core_steps.specs.Outcomes.{StepOutcome}
use Rattle.core_steps.specs.State.{State}
use Rattle.core_steps.specs.Step.{Comes}
use Rattle.core_steps.specs.Run.{Exchange, Runs}
use Rattle.check_input.specs.Inputs.{Component}
use Rattle.rodin_cli.specs.Script.{IsWholeScript}
use Rattle.rodin_cli.specs.Check.{TellsFaults, TellsWarnings, IsProved}
use Rattle.rodin_cli.proofs.Sessions.{Run-split, comes}

same_shown : (shown shown' : List (List ℕ × Status × Option Origin)) → Statuses shown ≡ Statuses shown' → shown' ≡ shown
same_shown shown shown' e = cc

asked : (s : State) (x : StepOutcome) (shown : List (List ℕ × Status × Option Origin)) → x.reply ≡ Statuses shown → Comes s (Ask AskStatuses) x → IsRebuilt x.new.durable shown
asked s x shown replied (table, is, (shown', rebuilt, told)) =
    subst (λ t. IsRebuilt t.durable shown) (sym (ap (λ z. z.new) told))
    (subst (IsRebuilt s.durable) (same_shown shown shown' (sym replied ∙ ap (λ z. z.reply) told)) rebuilt)

same_told : (told told' : List FaultLine) (warned warned' : List (List ℕ × List ℕ)) → Faults told warned ≡ Faults told' warned' → (told' ≡ told) × (warned' ≡ warned)
same_told told told' warned warned' e = (cc, cc)

asked_faults : (s : State) (x : StepOutcome) (told : List FaultLine) (warned : List (List ℕ × List ℕ)) → x.reply ≡ Faults told warned → Comes s (Ask AskFaults) x →
    TellsFaults x.new.durable told × TellsWarnings x.new.durable warned
asked_faults s x told warned replied (table, is, (told', warned', faults, warnings, answered)) =
    let same = same_told told told' warned warned' (sym replied ∙ ap (λ z. z.reply) answered) in
    subst (λ t. TellsFaults t.durable told × TellsWarnings t.durable warned) (sym (ap (λ z. z.new) answered))
    (subst (TellsFaults s.durable) same.0 faults, subst (TellsWarnings s.durable) same.1 warnings)

asked_stays : (s : State) (x : StepOutcome) → Comes s (Ask AskStatuses) x → x.new ≡ s
asked_stays s x (table, is, (shown, rebuilt, told)) = ap (λ z. z.new) told

-- the last but one of the exchanges tells the faults and the warnings of the built texts
pub told_of : (answers : Sequent → Attempt → Type 0) (sure : Sequent → Type 0) (parts : List Component) (told : List FaultLine) (warned : List (List ℕ × List ℕ)) (shown : List (List ℕ × Status × Option Origin))
    (exchanges : List Exchange) (s t : State) → IsWholeScript answers sure parts told warned shown exchanges → Runs s exchanges t → TellsFaults t.durable told × TellsWarnings t.durable warned
told_of answers sure parts told warned shown exchanges s t w run =
    let cut = Run-split s t (w.round.edits ++ w.round.build ∷ w.round.turns) (w.round.nothing ∷ w.faults ∷ w.statuses ∷ []) (subst (λ xs. Runs s xs t) w.round.in_order run) in
    let r = cut.2 in
    let tells = asked_faults r.0 _ told warned w.faults_is.1 (comes r.0 r.2.0 w.faults (Ask AskFaults) w.faults_is.0 r.2.1) in
    let same = asked_stays r.2.0 _ (comes r.2.0 r.2.2.0 w.statuses (Ask AskStatuses) w.statuses_is.0 r.2.2.1) in
    subst (λ u. TellsFaults u.durable told × TellsWarnings u.durable warned) (sym (r.2.2.2 ∙ same)) tells

-- the last of the exchanges shows the statuses of a clean rebuild
pub clean_of : (answers : Sequent → Attempt → Type 0) (sure : Sequent → Type 0) (parts : List Component) (told : List FaultLine) (warned : List (List ℕ × List ℕ)) (shown : List (List ℕ × Status × Option Origin))
    (exchanges : List Exchange) (s t : State) → IsWholeScript answers sure parts told warned shown exchanges → Runs s exchanges t → IsRebuilt t.durable shown
clean_of answers sure parts told warned shown exchanges s t w run =
    let cut = Run-split s t (w.round.edits ++ w.round.build ∷ w.round.turns) (w.round.nothing ∷ w.faults ∷ w.statuses ∷ []) (subst (λ xs. Runs s xs t) w.round.in_order run) in
    let r = cut.2 in
    let shows = asked r.2.0 _ shown w.statuses_is.1 (comes r.2.0 r.2.2.0 w.statuses (Ask AskStatuses) w.statuses_is.0 r.2.2.1) in
    subst (λ d. IsRebuilt d shown) (sym (ap (λ u. u.durable) r.2.2.2)) shows

derived : (stored : Option Proof) (s : Sequent) (status : Status) → IsStatus stored s status → status ≡ Discharged → (proof : Proof) × (stored ≡ Some proof) × Derives proof.tree s
derived None s status is e = let no : Unattempted ≡ Discharged = sym is ∙ e in cc
derived (Some proof) s status is e = (proof, refl, subst (λ q. IsStatus (Some proof) s q) e is)

-- a mark that is shown of an obligation has its proof
abbrev HasProof : Durable → Obligation → List ℕ × Status × Option Origin → Type 0
HasProof d o mark =
    (mark.0 ≡ o.name) × (mark.1 ≡ Discharged → (proof : Proof) × (get d.proofs o.name ≡ Some proof) × Derives proof.tree o.sequent)

proved_each : (d : Durable) (table : List Obligation) (shown : List (List ℕ × Status × Option Origin)) → AllZip (Shows d.proofs) table shown → AllZip (HasProof d) table shown
proved_each d [] [] all = tt
proved_each d [] (x ∷ shown) all = absurd all
proved_each d (o ∷ table) [] all = absurd all
proved_each d (o ∷ table) (x ∷ shown) all = ((all.0.0, derived (get d.proofs o.name) o.sequent x.1 all.0.1), proved_each d table shown all.1)

-- what a clean rebuild shows discharged is proved
pub proved_of : (d : Durable) (shown : List (List ℕ × Status × Option Origin)) → IsRebuilt d shown → IsProved d shown
proved_of d shown clean = (clean.0, clean.1, proved_each d clean.0 shown clean.2)
