-- The sides of a disk stand for one project.
use Rattle.std.proofs.Common.{◌≡◌, ◌∙◌, inl, inr, refl, sym, ap, subst, ℕ, List, [], ◌∷◌, arith}
use Rattle.std.specs.List.{AllByRecursion}
use Rattle.outside.specs.Disk.{Sides}
use Rattle.outside.specs.declared.side.Side.{Side}
use Rattle.journal_core.specs.Laws.{HasOneMeaning}
use Rattle.journal_core.specs.Sides.{StandsAt}
use Rattle.journal_core.specs.Start.{JournalMeaning, meaning_of, JournalStandsFor, foreign as no_journal, damaged as no_record}
use Rattle.journal_core.specs.declared.piece.JournalFault.TheVariants as why
use Rattle.proof_entries.specs.declared.Entry.{Entry}
use Rattle.proof_codec.specs.Entries.{AreEntries, AreOldEntries}
use Rattle.project_store.specs.Records.{AreIn}
use Rattle.project_store.specs.Opening.{durable, foreign, damaged}
use Rattle.project_store.specs.declared.OpenFault.TheVariants as fault
use Rattle.project_store.specs.Private.{IsSingle, FindsStop}
use Rattle.project_store.proofs.Starting.{opened_means, refused_means, journal_means}
use Rattle.store_laws.specs.Laws.{HasOneProject}
use Rattle.store_laws.proofs.Spelling.{one_spelling}

abbrev head_or : ℕ → List ℕ → ℕ
head_or d [] = d
head_or d (x ∷ xs) = x

abbrev tail_of : List ℕ → List ℕ
tail_of [] = []
tail_of (x ∷ xs) = xs

one_version : (body : List ℕ) (es fs : List Entry) → AreIn body es → AreIn body fs → es ≡ fs
one_version body es fs (inl v) (inl w) = (one_spelling v.bytes es fs).0 v.spelled (subst (AreEntries fs) (ap tail_of (sym w.split ∙ v.split)) w.spelled)
one_version body es fs (inl v) (inr w) = absurd (let e : 2 ≡ 1 = ap (head_or 0) (sym v.split ∙ w.split) in omega (arith, e))
one_version body es fs (inr v) (inl w) = absurd (let e : 1 ≡ 2 = ap (head_or 0) (sym v.split ∙ w.split) in omega (arith, e))
one_version body es fs (inr v) (inr w) = (one_spelling v.bytes es fs).1 v.spelled (subst (AreOldEntries fs) (ap tail_of (sym w.split ∙ v.split)) w.spelled)

all_single : (bodies : List (List ℕ)) → AllByRecursion IsSingle bodies
all_single [] = tt
all_single (body ∷ bodies) = ((λ es fs a b. one_version body es fs a.version b.version), all_single bodies)

stands_means : (sides : Sides) (side : Side) (generation : ℕ) (bodies : List (List ℕ)) → StandsAt sides side generation bodies → JournalStandsFor sides (meaning_of side generation bodies)
stands_means sides side generation [] is = is
stands_means sides side generation (body ∷ bodies) is = is

module _ (meanings : HasOneMeaning) where
  only_these : (sides : Sides) (side : Side) (generation : ℕ) (bodies : List (List ℕ)) → StandsAt sides side generation bodies
      → (m : JournalMeaning) → JournalStandsFor sides m → m ≡ meaning_of side generation bodies
  only_these sides side generation bodies stands m is = meanings sides m (meaning_of side generation bodies) is (stands_means sides side generation bodies stands)

  pub one_project : HasOneProject
  one_project sides (durable d) other at is =
      sym (opened_means sides at.0 at.1 at.2.bodies (only_these sides at.0 at.1 at.2.bodies at.2.stands) d at.2.leads (all_single at.2.bodies) other is)
  one_project sides (foreign side) other strange is = sym (journal_means sides (why.Foreign side) (λ m stands. meanings sides m (no_journal side) stands strange) other is)
  one_project sides (damaged side gate) other (inl broken) is = sym (journal_means sides (why.Damaged side gate) (λ m stands. meanings sides m (no_record side gate) stands broken) other is)
  one_project sides (damaged side gate) other (inr bad) is =
      let found : FindsStop bad.bodies gate = record { stop = bad.stop; single = all_single bad.stop.before } in
      sym (refused_means sides side bad.generation bad.bodies (only_these sides side bad.generation bad.bodies bad.stands) (fault.Damaged side gate) (refl, found) other is)
