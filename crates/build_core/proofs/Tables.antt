-- What the verdicts give: the table, the faults and the warnings of a project.
use Rattle.std.proofs.Common.{◌≡◌, ◌∙◌, inl, inr, sym, ap, subst, refl, ℕ, zero, suc, Bool, true, false, List, [], ◌∷◌, ◌++◌, Option, Some, None, bytes_eq, append_assoc}
use Rattle.std.specs.Prelude.{Ok, Err, MatchOption}
use Rattle.std.specs.List.{Contains, AllZip, IsDistinct, filter_map}
use Rattle.std.specs.Map.{keys_of}
use Rattle.std.proofs.lemmas.List.Elements.{Contains-append_left, Contains-append_right, Contains-push}
use Rattle.formula_core.specs.declared.raw.Ref.{Ref}
use Rattle.model_core.specs.Components.{heading}
use Rattle.model_core.specs.Faults.{first_by_place}
use Rattle.model_core.specs.declared.fault.Fault.{Fault}
use Rattle.model_core.specs.declared.component.RawComponent.{RawComponent}
use Rattle.model_core.specs.declared.component.RawComponent.TheVariants as raw
use Rattle.model_core.specs.declared.checked.Checked.{Checked}
use Rattle.model_core.specs.declared.checked.Checked.TheVariants.{Machine}
use Rattle.model_core.specs.declared.checked.CheckedMachine.{CheckedMachine}
use Rattle.component_text.specs.Spelled.{IsRead}
use Rattle.check_rules.specs.Contexts.{Outcome}
use Rattle.check_rules.specs.Components.{ChecksBeside}
use Rattle.sequent_core.specs.declared.sequent.Obligation.{Obligation}
use Rattle.po_rules.specs.Tables.{obligations_of}
use Rattle.build_core.specs.Projects.{Project, has_text, wanted_references, wanting, reference_row, reference_faults, checked_in, IsPart, ConcludesFrom, ChecksBy, Checks, settled, cyclic}
use Rattle.build_core.specs.Tables.{refined_in, IsAbstraction, Gives, AreObligations, IsTableOf, faults_in, warnings_in, AreGiven}
use Rattle.build_core.specs.Laws.{HasOneTable, HasOneListOfFaults, HasOneListOfWarnings}
use Rattle.build_core.specs.Private.{Outcomes, found, AreComponentsIn, machine_in_outcome, abstraction_in, OwnFrom, IsOwn, given_at, given_in, AreVerdicts}
use Rattle.build_core.proofs.EachOwn.{AreOwn}
use Rattle.build_core.proofs.Found.{its_value, its_text}
use Rattle.build_core.proofs.Rounds.{read_one, verdict_one, is_there, same_component}
use Rattle.build_core.proofs.Referred.{none_first, both_empty, machine_there}

abbrev checked_ok : Checked → Outcome
checked_ok c = Ok c

ok_err : {A : Type 0} (c : Checked) (fault : Fault) → checked_ok c ≡ Err fault → A
ok_err c fault e = absurd (never e)
  where
    never : checked_ok c ≡ Err fault → ⊥
    never h = cc

abbrev checked_or : Checked → Outcome → Checked
checked_or c (Ok d) = d
checked_or c (Err fault) = c

same_checked : (c d : Checked) → checked_ok c ≡ checked_ok d → c ≡ d
same_checked c d e = ap (checked_or c) e

abbrev machine_or : CheckedMachine → Outcome → CheckedMachine
machine_or m (Ok (Machine n)) = n
machine_or m _ = m

same_machine : (m n : CheckedMachine) → checked_ok (Machine m) ≡ checked_ok (Machine n) → m ≡ n
same_machine m n e = ap (machine_or m) e

module _ (project : Project) (distinct : IsDistinct bytes_eq (keys_of project)) where
  -- the machine that a component without fault refines has no fault
  refined_checks : (name text : List ℕ) (c : RawComponent) (checked : Checked) (r : Ref) → Contains project (name, text) → IsRead name text (Ok c) → Checks project name (Ok checked) →
      refined_in c ≡ Some r → (m : CheckedMachine) × Checks project r.name (Ok (Machine m))
  refined_checks name text c checked r there is (cyclic fault h e) refines = ok_err checked fault e
  refined_checks name text c checked r there is (settled zero h) refines = absurd h
  refined_checks name text c checked r there is (settled (suc k) h) refines =
      by c (subst (λ x. ConcludesFrom project (ChecksBy project k) x (Ok checked)) (read_one project distinct name h.0 text h.1 (Ok c) h.2 there h.3 is) h.4) refines
    where
      never : (s : Ref) → None ≡ Some s → ⊥
      never s e = cc

      same_ref : (s t : Ref) → Some s ≡ Some t → s ≡ t
      same_ref s t e = cc

      no_faults : (d : RawComponent) (parts : List (Option Outcome)) (o : Option Fault) → first_by_place (reference_faults (heading d).name (wanted_references d) parts) ≡ o →
          MatchOption o (ChecksBeside d (filter_map checked_in parts) (Ok checked)) (λ fault. Ok checked ≡ Err fault) → reference_faults (heading d).name (wanted_references d) parts ≡ []
      no_faults d parts None e m = none_first (reference_faults (heading d).name (wanted_references d) parts) e
      no_faults d parts (Some fault) e m = ok_err checked fault m

      at_part : (component : List ℕ) (s : Ref) (p : Option Outcome) → reference_row component (s, false) p ≡ [] → IsPart project (ChecksBy project k) (s, false) p →
          (m : CheckedMachine) × Checks project s.name (Ok (Machine m))
      at_part component s p none part =
          let m = machine_there component s p none in
          (m.0, settled k (subst (λ o. IsPart project (ChecksBy project k) (s, false) o) m.1 part))

      at_first : (component : List ℕ) (s : Ref) (refs : List (Ref × Bool)) (parts : List (Option Outcome)) → AllZip (IsPart project (ChecksBy project k)) ((s, false) ∷ refs) parts →
          reference_faults component ((s, false) ∷ refs) parts ≡ [] → (m : CheckedMachine) × Checks project s.name (Ok (Machine m))
      at_first component s refs [] zip none = absurd zip
      at_first component s refs (p ∷ parts) zip none =
          at_part component s p (both_empty (reference_row component (s, false) p) (reference_faults component refs parts) none).0 zip.0

      by : (d : RawComponent) → ConcludesFrom project (ChecksBy project k) (Ok d) (Ok checked) → refined_in d ≡ Some r → (m : CheckedMachine) × Checks project r.name (Ok (Machine m))
      by (raw.Context n extends sets constants axioms) h e = absurd (never r e)
      by (raw.Machine n None sees variables invariants variant events) h e = absurd (never r e)
      by (raw.Machine n (Some s) sees variables invariants variant events) h e =
          let d = raw.Machine n (Some s) sees variables invariants variant events in
          let none = no_faults d h.0 (first_by_place (reference_faults (heading d).name (wanted_references d) h.0)) refl h.2 in
          subst (λ (t : Ref). (m : CheckedMachine) × Checks project t.name (Ok (Machine m))) (same_ref s r e) (at_first n.name s (wanting true sees) h.0 h.1 none)

  pub has_verdict : (name : List ℕ) (outcome : Outcome) → Checks project name outcome → has_text project name ≡ true
  has_verdict name outcome (settled zero h) = absurd h
  has_verdict name outcome (settled (suc k) h) = is_there project distinct name h.0 h.2
  has_verdict name outcome (cyclic fault h e) = is_there project distinct name h.0 h.2

  -- ONE TABLE

  abstraction_one : (refines : Option Ref) (a b : Option CheckedMachine) → IsAbstraction project refines a → IsAbstraction project refines b → a ≡ b
  abstraction_one None a b h g = h ∙ sym g
  abstraction_one (Some r) a b h g =
      h.2 ∙ ap (λ m. Some m) (same_machine h.0 g.0 (verdict_one project distinct r.name (Ok (Machine h.0)) (Ok (Machine g.0)) h.1 g.1)) ∙ sym g.2

  pub gives_one : (name : List ℕ) (s t : List Obligation) → Gives project name s → Gives project name t → s ≡ t
  gives_one name s t (inl a) (inl b) = a.2 ∙ sym b.2
  gives_one name s t (inl a) (inr b) = ok_err b.2 a.0 (verdict_one project distinct name (Ok b.2) (Err a.0) b.6 a.1)
  gives_one name s t (inr a) (inl b) = ok_err a.2 b.0 (verdict_one project distinct name (Ok a.2) (Err b.0) a.6 b.1)
  gives_one name s t (inr a) (inr b) =
      let checked : a.2 ≡ b.2 = same_checked a.2 b.2 (verdict_one project distinct name (Ok a.2) (Ok b.2) a.6 b.6) in
      let component : a.1 ≡ b.1 = same_component a.1 b.1 (read_one project distinct name a.0 b.0 (Ok a.1) (Ok b.1) a.4 b.4 a.5 b.5) in
      let abstraction : a.3 ≡ b.3 = abstraction_one (refined_in b.1) a.3 b.3 (subst (λ c. IsAbstraction project (refined_in c) a.3) component a.7) b.7 in
      a.8 ∙ (λ i. obligations_of (checked i) (abstraction i)) ∙ sym b.8

  obligations_one : (entries : Project) (s t : List Obligation) → AreObligations project entries s → AreObligations project entries t → s ≡ t
  obligations_one [] s t a b = a ∙ sym b
  obligations_one (entry ∷ entries) s t a b =
      let own : a.0 ≡ b.0 = gives_one entry.0 a.0 b.0 a.2 b.2 in
      let others : a.1 ≡ b.1 = obligations_one entries a.1 b.1 a.3 b.3 in
      a.4 ∙ (λ i. own i ++ others i) ∙ sym b.4

  given_one : {X : Type 0} (each : List ℕ → Outcome → List X) (entries : Project) (s t : List X) → AreGiven each project entries s → AreGiven each project entries t → s ≡ t
  given_one each [] s t a b = a ∙ sym b
  given_one each (entry ∷ entries) s t a b =
      let outcome : a.0 ≡ b.0 = verdict_one project distinct entry.0 a.0 b.0 a.2 b.2 in
      let others : a.1 ≡ b.1 = given_one each entries a.1 b.1 a.3 b.3 in
      a.4 ∙ (λ i. each entry.1 (outcome i) ++ others i) ∙ sym b.4

  -- WHAT THE OUTCOMES GIVE

  module _ (outcomes : Outcomes) (verdicts : AreVerdicts project outcomes) where
    pub abstraction_is : (name text : List ℕ) (c : RawComponent) (checked : Checked) → Contains project (name, text) → IsRead name text (Ok c) → Checks project name (Ok checked) →
        (refines : Option Ref) → refined_in c ≡ refines → IsAbstraction project refines (abstraction_in outcomes refines)
    abstraction_is name text c checked there is h None e = refl
    abstraction_is name text c checked there is h (Some r) e =
        let m = refined_checks name text c checked r there is h e in
        let t = its_text project r.name (has_verdict r.name (Ok (Machine m.0)) m.1) in
        let o = its_value (found outcomes r.name) (verdicts.whole r.name t.0 t.1) in
        let same = verdict_one project distinct r.name o.0 (Ok (Machine m.0)) (verdicts.sound r.name o.0 o.1) m.1 in
        (m.0, m.1, ap machine_in_outcome (o.1 ∙ ap (λ x. Some x) same))

  module _ (components : List RawComponent) (outcomes : Outcomes) (all_read : AreComponentsIn project components) (verdicts : AreVerdicts project outcomes) where
    pub own_gives : (name text : List ℕ) (own : List Obligation) → Contains project (name, text) → IsOwn components outcomes name own → Gives project name own
    own_gives name text own there is =
        let o = its_value (found outcomes name) (verdicts.whole name text there) in
        by o.0 (verdicts.sound name o.0 o.1) (subst (λ x. OwnFrom components outcomes name x own) o.1 is)
      where
        by : (o : Outcome) → Checks project name o → OwnFrom components outcomes name (Some o) own → Gives project name own
        by (Err fault) h e = inl (fault, h, e)
        by (Ok checked) h e =
            let c = e.0 in
            let a = all_read c e.1 in
            let stands = subst (λ n. Contains project (n, a.0)) e.2 a.1 in
            let reads = subst (λ n. IsRead n a.0 (Ok c)) e.2 a.2 in
            inr (a.0, c, checked, abstraction_in outcomes (refined_in c), stands, reads, h, abstraction_is outcomes verdicts name a.0 c checked stands reads h (refined_in c) refl, e.3)

    own_obligations : (before entries : Project) (table : List Obligation) → before ++ entries ≡ project → AreOwn components outcomes entries table → AreObligations project entries table
    own_obligations before [] table all own = own
    own_obligations before (entry ∷ entries) table all own =
        let there = subst (λ es. Contains es (entry.0, entry.1)) all (Contains-append_right before (entry ∷ entries) entry (Contains-append_left (entry ∷ []) entries entry (Contains-push [] entry))) in (
          own.0,
          own.1,
          own_gives entry.0 entry.1 own.0 there own.2,
          own_obligations (before ++ entry ∷ []) entries own.1 (append_assoc before (entry ∷ []) entries ∙ all) own.3,
          own.4,
        )

    pub own_table : (table : List Obligation) → AreOwn components outcomes project table → IsTableOf project table
    own_table table own = own_obligations [] project table refl own

    given_entries : {X : Type 0} (each : List ℕ → Outcome → List X) (before entries : Project) → before ++ entries ≡ project → AreGiven each project entries (given_in each outcomes entries)
    given_entries each before [] all = refl
    given_entries each before (entry ∷ entries) all =
        let there = subst (λ es. Contains es (entry.0, entry.1)) all (Contains-append_right before (entry ∷ entries) entry (Contains-append_left (entry ∷ []) entries entry (Contains-push [] entry))) in
        let o = its_value (found outcomes entry.0) (verdicts.whole entry.0 entry.1 there) in (
          o.0,
          given_in each outcomes entries,
          verdicts.sound entry.0 o.0 o.1,
          given_entries each (before ++ entry ∷ []) entries (append_assoc before (entry ∷ []) entries ∙ all),
          ap (λ x. given_at (each entry.1) x ++ given_in each outcomes entries) o.1,
        )

    pub given_all : {X : Type 0} (each : List ℕ → Outcome → List X) (all : List X) → all ≡ given_in each outcomes project → AreGiven each project project all
    given_all each all e = subst (λ xs. AreGiven each project project xs) (sym e) (given_entries each [] project refl)

pub one_table : HasOneTable
one_table project distinct one two a b = obligations_one project distinct project one two a b

pub one_list_of_faults : HasOneListOfFaults
one_list_of_faults project distinct one two a b = given_one project distinct faults_in project one two a b

pub one_list_of_warnings : HasOneListOfWarnings
one_list_of_warnings project distinct one two a b = given_one project distinct warnings_in project one two a b
