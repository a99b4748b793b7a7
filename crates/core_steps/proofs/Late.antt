-- A finish with a good proof is stored, or stale.
use Rattle.std.proofs.Common.{◌≡◌, ◌∙◌, refl, sym, ap, subst, inl, inr, ℕ, List, ◌∷◌, ◌++◌}
use Rattle.std.specs.Prelude.{Option, Some, None}
use Rattle.std.specs.FinMap.{get, insert, entries}
use Rattle.sequent_core.specs.declared.Sequent.{Sequent}
use Rattle.sequent_core.specs.declared.Obligation.{Obligation}
use Rattle.sequent_core.specs.declared.Ticket.{Ticket}
use Rattle.sequent_core.specs.declared.Tree.{Tree}
use Rattle.sequent_core.specs.declared.Attempt.TheVariants.{Found}
use Rattle.sequent_core.specs.Provers.{IsGoodTree}
use Rattle.build_core.specs.Laws.{HasOneTable}
use Rattle.core_steps.specs.Durable.{ProjectMap}
use Rattle.core_steps.specs.declared.events.Status.{Status}
use Rattle.core_steps.specs.declared.events.Status.TheVariants.{Discharged}
use Rattle.core_steps.specs.declared.events.Reply.TheVariants.{Stored}
use Rattle.core_steps.specs.State.{State}
use Rattle.core_steps.specs.Status.{IsStatus}
use Rattle.core_steps.specs.Table.{IsTable, IsPresent}
use Rattle.core_steps.specs.Outcomes.{StepOutcome}
use Rattle.core_steps.specs.Tickets.{CanStore, IsPresentStatus, stored, stale, refused, EndsTicket, Finishes, by_prover}
use Rattle.core_steps.specs.Laws.{AreApart, IsOrderly, IsStoredOrStale, StoresLate}
use Rattle.core_steps.proofs.NameMaps.{get_same, names_differ}
use Rattle.core_steps.proofs.OneWay.{one_status, one_present, ticket_cut, among_cut}

-- the status of a good proof that was stored
good_status : (s : State) (k : Ticket) (q : Option Sequent) (tree : Tree) (status : Option Status) → CanStore s.durable.proofs k.name q tree →
    IsPresentStatus (insert s.durable.proofs k.name (by_prover tree)) k.name q status → status ≡ Some Discharged
good_status s k None tree status can shown = absurd can
good_status s k (Some q) tree status can shown =
    let proved : IsStatus (get (insert s.durable.proofs k.name (by_prover tree)) k.name) q Discharged =
    subst (λ o. IsStatus o q Discharged) (sym (get_same s.durable.proofs k.name (by_prover tree))) can.1.derives in
    shown.1 ∙ ap Some (one_status _ q shown.0 Discharged shown.2 proved)

late_ends : (s : State) (k : Ticket) (q : Option Sequent) (tree : Tree) (x : StepOutcome) → IsGoodTree tree k.sequent → EndsTicket s k q (Found tree) x → IsStoredOrStale s k q tree x
late_ends s k q tree x good (status, shown, stored can y) =
    let is = good_status s k q tree status can (subst (λ (z : StepOutcome). IsPresentStatus z.new.durable.proofs k.name q status) y shown) in (
      (λ again. (ap (λ z. z.reply) y ∙ ap (Stored k.name) is, ap (λ z. get z.new.durable.proofs k.name) y ∙ get_same s.durable.proofs k.name (by_prover tree))),
      (λ cannot. absurd (cannot can)),
    )
late_ends s k q tree x good (status, shown, stale cannot own y) = ((λ can. absurd (cannot can)), (λ n. (status, ap (λ z. z.reply) y, ap (λ z. z.new.durable) y)))
late_ends s k q tree x good (status, shown, refused cannot bad y) = absurd (bad good)

abbrev EndsBeside : State → List Obligation → Tree → StepOutcome → Ticket × List Ticket → Type 0
EndsBeside s table tree x z = (q : Option Sequent) × IsPresent table z.0.name q × EndsTicket (record s { out = z.1 }) z.0 q (Found tree) x

late_beside : (s : State) (table : List Obligation) (tree : Tree) (x : StepOutcome) (k : Ticket) (out : List Ticket) (q : Option Sequent) → IsPresent table k.name q →
    IsGoodTree tree k.sequent → EndsBeside s table tree x (k, out) → IsStoredOrStale s k q tree x
late_beside s table tree x k out q present good e =
    subst (λ p. IsStoredOrStale s k p tree x) (one_present table k.name e.0 q e.1 present) (late_ends (record s { out = out }) k e.0 tree x good e.2)

late_finish : (s : State) (table : List Obligation) (before : List Ticket) (k : Ticket) (behind : List Ticket) (tree : Tree) (x : StepOutcome) (q : Option Sequent) → IsOrderly s →
    s.out ≡ before ++ k ∷ behind → IsGoodTree tree k.sequent → IsPresent table k.name q → Finishes s table k.number (Found tree) x → IsStoredOrStale s k q tree x
late_finish s table before k behind tree x q o cut good present (inl none) = absurd (among_cut k.number s.out before behind k cut refl none.0)
late_finish s table before k behind tree x q o cut good present (inr f) =
    let c = ticket_cut f.0 f.2 before behind f.1 k (sym f.3 ∙ cut) (subst AreApart f.3 o.apart) f.4 in
    late_beside s table tree x k (before ++ behind) q present good (subst (EndsBeside s table tree x) (λ i. (c.0 i, c.1 i)) f.5)

pub stored_late : HasOneTable → StoresLate
stored_late law s before k behind tree x o cut good comes table q is present =
    let same = law (entries s.durable.built) (names_differ s.durable.built) comes.0 table comes.1 is in
    late_finish s table before k behind tree x q o cut good present (subst (λ t. Finishes s t k.number (Found tree) x) same comes.2)
