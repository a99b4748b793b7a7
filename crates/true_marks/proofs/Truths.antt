-- What is shown discharged is true: a sequent of the table that a stored tree derives.
use Rattle.std.proofs.Common.{◌≡◌, ◌∙◌, sym, subst, ℕ, List, [], ◌∷◌, ◌++◌, Option, Some, None}
use Rattle.std.specs.List.{AllZip}
use Rattle.std.specs.FinMap.{get, entries}
use Rattle.sequent_core.specs.declared.Sequent.{Sequent}
use Rattle.sequent_core.specs.declared.Obligation.{Obligation}
use Rattle.sequent_core.specs.Sequents.{IsSequent}
use Rattle.po_rules.specs.Sequents.{AreSequents}
use Rattle.typed_tables.proofs.Verdicts.{table_sequents}
use Rattle.true_rules.specs.Validity.{IsValid}
use Rattle.true_rules.proofs.Theorem.{derived_sequents_are_true}
use Rattle.readings_core.specs.declared.Follows.{Follows}
use Rattle.readings_core.specs.declared.Follows.TheVariants.{Yes}
use Rattle.readings_core.specs.Follows.{IsFollowsAnswer}
use Rattle.readings_core.proofs.Following.{derived_everywhere}
use Rattle.proof_entries.specs.declared.Origin.{Origin}
use Rattle.proof_entries.specs.declared.Proof.{Proof}
use Rattle.core_steps.specs.declared.durable.Durable.{Durable}
use Rattle.core_steps.specs.declared.events.Reply.{Reply}
use Rattle.core_steps.specs.declared.events.Reply.TheVariants as reply
use Rattle.core_steps.specs.declared.events.Status.{Status}
use Rattle.core_steps.specs.declared.events.Status.TheVariants.{Unattempted, Discharged}
use Rattle.core_steps.specs.Durable.{ProjectMap}
use Rattle.core_steps.specs.Laws.{IsRebuiltAs, IsRebuiltIf, IsRebuiltSaying, TellsRebuilt}
use Rattle.core_steps.specs.Proving.{stored_tree}
use Rattle.core_steps.specs.Status.{IsStatus, Shows, IsRebuilt}
use Rattle.core_steps.specs.Table.{IsTable}
use Rattle.core_steps.proofs.NameMaps.{names_differ}
use Rattle.true_marks.specs.TrueMarks.{IsTrueWhereDischarged, AreTrueMarks, MarksAreTrue, IsTrueMark, IsTrueMarkIf, IsTrueIfFollows, TellsTrue, TellsTruth}

-- a table has sequents alone
sequents_of : (built : ProjectMap) (table : List Obligation) → IsTable built table → AreSequents table
sequents_of built table is = table_sequents (entries built) (names_differ built) table is

-- a sequent with the status discharged is true
marked : (stored : Option Proof) (s : Sequent) (status : Status) → IsSequent s → IsStatus stored s status → status ≡ Discharged → IsValid s
marked None s status is st e = absurd (let no : Unattempted ≡ Discharged = sym st ∙ e in cc)
marked (Some proof) s status is st e = derived_sequents_are_true proof.tree s is (subst (λ q. IsStatus (Some proof) s q) e st)

-- the list of all statuses
each_marked : (d : Durable) (table : List Obligation) (shown : List (List ℕ × Status × Option Origin)) → AreSequents table → AllZip (Shows d.proofs) table shown →
    AllZip IsTrueWhereDischarged table shown
each_marked d [] [] are all = tt
each_marked d [] (x ∷ shown) are all = absurd all
each_marked d (o ∷ table) [] are all = absurd all
each_marked d (o ∷ table) (x ∷ shown) are all =
    ((all.0.0, marked (get d.proofs o.name) o.sequent x.1 are.0 all.0.1), each_marked d table shown are.1 all.1)

pub marks_are_true : MarksAreTrue
marks_are_true d shown clean = (clean.0, clean.1, each_marked d clean.0 shown (sequents_of d.built clean.0 clean.1) clean.2)

-- the replies
middle : (before : List Obligation) (o : Obligation) (behind : List Obligation) → AreSequents (before ++ o ∷ behind) → IsSequent o.sequent
middle [] o behind all = all.0
middle (b ∷ before) o behind all = middle before o behind all.1

one_mark : (d : Durable) (name : List ℕ) (status : Status) → IsRebuiltAs d name status → IsTrueMark d.built name status
one_mark d name status (table, s, is, present, st) =
    let are = subst AreSequents present.2 (sequents_of d.built table is) in
    (table, s, is, present, λ e. marked (get d.proofs name) s status (middle present.0 (record { name = name; sequent = s }) present.1 are) st e)

mark_if : (d : Durable) (name : List ℕ) (status : Option Status) → IsRebuiltIf d name status → IsTrueMarkIf d.built name status
mark_if d name None is = tt
mark_if d name (Some status) is = one_mark d name status is

-- what is said to follow is derived by plain rules alone
followed : (d : Durable) (name : List ℕ) (answer : Follows) → IsRebuiltSaying d name answer → IsTrueIfFollows d.built name answer
followed d name answer (table, s, is, present, said) =
    let tree = stored_tree d.proofs name in
    (table, s, is, present, λ e. (let yes = subst (IsFollowsAnswer tree s) e said in derived_everywhere tree s yes.0 yes.1))

pub tells_truth : TellsTruth
tells_truth d (reply.Now name status) is = one_mark d name status is
tells_truth d (reply.NotOpen name status) is = one_mark d name status is
tells_truth d (reply.Noted name status) is = mark_if d name status is
tells_truth d (reply.NoMemory name status) is = mark_if d name status is
tells_truth d (reply.Stored name status) is = mark_if d name status is
tells_truth d (reply.Refused name status) is = mark_if d name status is
tells_truth d (reply.Stale name status) is = mark_if d name status is
tells_truth d (reply.Statuses shown) is = marks_are_true d shown is
tells_truth d (reply.Shown name status sequent) is = one_mark d name status is
tells_truth d (reply.Followed name answer) is = followed d name answer is
tells_truth d _ is = tt
