-- Each checked component of a project is sound, and its obligations are sequents.
use Rattle.std.proofs.Common.{◌≡◌, ◌∙◌, inl, inr, sym, ap, subst, refl, ℕ, zero, suc, Bool, true, false, cond, ◌||◌, List, [], ◌∷◌, length, Option, Some, None, IfSome, bytes_eq}
use Rattle.std.specs.Prelude.{Ok, Err}
use Rattle.std.specs.List.{Contains, AllZip, AllByRecursion, IsDistinct, filter, filter_map}
use Rattle.std.specs.Map.{keys_of}
use Rattle.formula_core.specs.declared.raw.Ref.{Ref}
use Rattle.formula_core.specs.declared.ty.Ty.{Ty}
use Rattle.formula_core.specs.Env.{type_in}
use Rattle.type_formula.proofs.Named.{all_append, all_each}
use Rattle.type_action.proofs.Standing.{actions_stand}
use Rattle.model_core.specs.Components.{heading}
use Rattle.model_core.specs.declared.fault.Fault.{Fault}
use Rattle.model_core.specs.declared.component.RawComponent.{RawComponent}
use Rattle.model_core.specs.declared.component.RawComponent.TheVariants as raw
use Rattle.model_core.specs.declared.checked.Checked.{Checked}
use Rattle.model_core.specs.declared.checked.Checked.TheVariants.{Context, Machine}
use Rattle.model_core.specs.declared.checked.CheckedMachine.{CheckedMachine}
use Rattle.model_core.specs.Each.{is_among}
use Rattle.component_text.specs.Spelled.{IsRead}
use Rattle.check_rules.specs.Components.{contexts_in, first_machine_in, ChecksBeside}
use Rattle.check_rules.specs.Contexts.{Outcome}
use Rattle.check_rules.specs.Visible.{entries, of_context, of_machine}
use Rattle.checked_laws.specs.Laws.{references_to_contexts}
use Rattle.checked_laws.specs.Projects.{ProjectNames, Has, BelongsTo}
use Rattle.checked_laws.specs.Refining.{IsSoundBeside}
use Rattle.checked_laws.specs.Sound.{IsSoundMachine, IsSoundComponent}
use Rattle.checked_laws.proofs.Checked.{checked_is_sound}
use Rattle.checked_laws.proofs.Names.{same_name}
use Rattle.name_laws.specs.Laws.{component_name}
use Rattle.name_laws.proofs.Checked.{name_kept}
use Rattle.name_laws.proofs.Declared.{ok, passes}
use Rattle.sequent_core.specs.declared.sequent.Obligation.{Obligation}
use Rattle.sequent_core.specs.Sequents.{IsSequent}
use Rattle.po_rules.specs.Sequents.{AreSequents}
use Rattle.sequent_laws.specs.Sound.{IsWellTypedComponent}
use Rattle.sequent_laws.proofs.Components.{typed_table_is}
use Rattle.build_core.specs.Projects.{Project, Reading, has_text, wanting, wanted_references, reference_faults, checked_in, IsPart, ConcludesFrom, ChecksBy, Checks, settled, cyclic}
use Rattle.build_core.specs.Tables.{refined_in, IsAbstraction, Gives, AreObligations, IsTableOf}
use Rattle.build_core.proofs.Rounds.{read_one, verdict_one, is_there, same_component}
use Rattle.typed_tables.proofs.Joined.{sound_is_typed}
use Rattle.typed_tables.proofs.Reading.{read_is_written}

ok_err : {A : Type 0} (c : Checked) (fault : Fault) → ok c ≡ Err fault → A
ok_err c fault e = absurd (never e)
  where
    never : ok c ≡ Err fault → ⊥
    never h = cc

abbrev checked_or : Checked → Outcome → Checked
checked_or c (Ok d) = d
checked_or c (Err fault) = c

same_checked : (c d : Checked) → ok c ≡ ok d → c ≡ d
same_checked c d e = ap (checked_or c) e

abbrev machine_or : CheckedMachine → Outcome → CheckedMachine
machine_or m (Ok (Machine n)) = n
machine_or m _ = m

same_machine : (m n : CheckedMachine) → ok (Machine m) ≡ ok (Machine n) → m ≡ n
same_machine m n e = ap (machine_or m) e

some_fault : {A X : Type 0} (x : X) (xs : List X) → x ∷ xs ≡ [] → A
some_fault x xs e = absurd (never e)
  where
    never : x ∷ xs ≡ [] → ⊥
    never h = cc

-- The first machine of sound components.
first_sound : (parts : List Checked) → AllByRecursion IsSoundComponent parts → IfSome (first_machine_in parts) IsSoundMachine
first_sound [] h = tt
first_sound (Context c ∷ parts) h = first_sound parts h.1
first_sound (Machine m ∷ parts) h = h.0

-- WHAT STANDS AT REFERENCES WITHOUT FAULT

module _ (project : Project) (P : List ℕ → Outcome → Type 0) (component : List ℕ) where
  -- contexts, as many as are wanted
  contexts_there : (refs : List Ref) (parts : List (Option Outcome)) → AllZip (IsPart project P) (wanting true refs) parts → reference_faults component (wanting true refs) parts ≡ []
      → (length (contexts_in (filter_map checked_in parts)) ≡ length refs) × (first_machine_in (filter_map checked_in parts) ≡ None)
  contexts_there [] [] h e = (refl, refl)
  contexts_there [] (p ∷ parts) h e = absurd h
  contexts_there (r ∷ refs) [] h e = absurd h
  contexts_there (r ∷ refs) (None ∷ parts) h e = some_fault _ _ e
  contexts_there (r ∷ refs) (Some (Err fault) ∷ parts) h e = some_fault _ _ e
  contexts_there (r ∷ refs) (Some (Ok (Machine m)) ∷ parts) h e = some_fault _ _ e
  contexts_there (r ∷ refs) (Some (Ok (Context c)) ∷ parts) h e = let more = contexts_there refs parts h.1 e in (ap suc more.0, more.1)

  -- a machine, and contexts behind it
  machine_there : (r : Ref) (refs : List Ref) (parts : List (Option Outcome)) → AllZip (IsPart project P) ((r, false) ∷ wanting true refs) parts
      → reference_faults component ((r, false) ∷ wanting true refs) parts ≡ []
      → (length (contexts_in (filter_map checked_in parts)) ≡ length refs)
      × ((m : CheckedMachine) × P r.name (Ok (Machine m)) × (first_machine_in (filter_map checked_in parts) ≡ Some m))
  machine_there r refs [] h e = absurd h
  machine_there r refs (None ∷ parts) h e = some_fault _ _ e
  machine_there r refs (Some (Err fault) ∷ parts) h e = some_fault _ _ e
  machine_there r refs (Some (Ok (Context c)) ∷ parts) h e = some_fault _ _ e
  machine_there r refs (Some (Ok (Machine m)) ∷ parts) h e = ((contexts_there refs parts h.1 e).0, (m, h.0, refl))

module _ (project : Project) (k : ℕ) (component : List ℕ) where
  parts_are : (c : RawComponent) (parts : List (Option Outcome)) → AllZip (IsPart project (ChecksBy project k)) (wanted_references c) parts → reference_faults component (wanted_references c) parts ≡ []
      → (length (contexts_in (filter_map checked_in parts)) ≡ length (references_to_contexts c)) × IsAbstraction project (refined_in c) (first_machine_in (filter_map checked_in parts))
  parts_are (raw.Context name extends sets constants axioms) parts h e = contexts_there project (ChecksBy project k) component extends parts h e
  parts_are (raw.Machine name None sees variables invariants variant events) parts h e = contexts_there project (ChecksBy project k) component sees parts h e
  parts_are (raw.Machine name (Some r) sees variables invariants variant events) parts h e =
      let there = machine_there project (ChecksBy project k) component r sees parts h e in
      (there.0, (there.1.0, settled k there.1.1, there.1.2))

-- THE NAMES OF A PROJECT

abbrev is_context_at : Option Checked → Bool
is_context_at (Some (Context c)) = true
is_context_at _ = false

abbrev declared_at : List ℕ → Option Checked → List ℕ → Option Ty
declared_at component (Some (Context c)) n = type_in (entries (filter (λ x. bytes_eq component x.1) (of_context c))) n
declared_at component (Some (Machine m)) n = type_in (entries (filter (λ x. bytes_eq component x.1) (of_machine m).variables)) n
declared_at component None n = None

abbrev names_by : (List ℕ → Option Checked) → ProjectNames
names_by found = record { is_context = λ component. is_context_at (found component); declared = λ component n. declared_at component (found component) n }

has_at : (found : List ℕ → Option Checked) (checked : Checked) → found (component_name checked) ≡ Some checked → Has (names_by found) checked
has_at found (Context c) e = (ap is_context_at e, λ n. ap (λ o. declared_at c.name o n) e)
has_at found (Machine m) e = (ap is_context_at e, λ n. ap (λ o. declared_at m.name o n) e)

-- what a part of the table says of a component
abbrev checked_of : (project : Project) (name : List ℕ) (own : List Obligation) → Gives project name own → Option Checked
checked_of project name own (inl h) = None
checked_of project name own (inr h) = Some h.2

abbrev found_in : (project components : Project) (table : List Obligation) → AreObligations project components table → List ℕ → Option Checked
found_in project [] table h name = None
found_in project (entry ∷ components) table h name = cond (bytes_eq name entry.0) (checked_of project entry.0 h.0 h.2) (found_in project components h.1 h.3 name)

module _ (project : Project) (distinct : IsDistinct bytes_eq (keys_of project)) where
  has_verdict : (name : List ℕ) (outcome : Outcome) → Checks project name outcome → has_text project name ≡ true
  has_verdict name outcome (settled zero h) = absurd h
  has_verdict name outcome (settled (suc k) h) = is_there project distinct name h.0 h.2
  has_verdict name outcome (cyclic fault h e) = is_there project distinct name h.0 h.2

  given_is : (name : List ℕ) (own : List Obligation) (h : Gives project name own) (checked : Checked) → Checks project name (Ok checked) → checked_of project name own h ≡ Some checked
  given_is name own (inl h) checked c = ok_err checked h.0 (verdict_one project distinct name (Ok checked) (Err h.0) c h.1)
  given_is name own (inr h) checked c = ap (λ x. Some x) (same_checked h.2 checked (verdict_one project distinct name (Ok h.2) (Ok checked) h.6 c))

  found_is : (components : Project) (table : List Obligation) (h : AreObligations project components table) (name : List ℕ) (checked : Checked) → Checks project name (Ok checked)
      → is_among (keys_of components) name ≡ true → found_in project components table h name ≡ Some checked
  found_is [] table h name checked c there = let no : ⊥ = cc in absurd no
  found_is (entry ∷ components) table h name checked c there = go (bytes_eq name entry.0) refl (found_is components h.1 h.3 name checked c) there
    where
      go : (b : Bool) → bytes_eq name entry.0 ≡ b → (is_among (keys_of components) name ≡ true → found_in project components h.1 h.3 name ≡ Some checked)
          → (b || is_among (keys_of components) name) ≡ true → cond b (checked_of project entry.0 h.0 h.2) (found_in project components h.1 h.3 name) ≡ Some checked
      go true is more t = given_is entry.0 h.0 h.2 checked (subst (λ n. Checks project n (Ok checked)) (same_name name entry.0 is) c)
      go false is more t = more t

  -- A PROJECT WITH A TABLE

  module _ (found : List ℕ → Option Checked) (found_all : (name : List ℕ) (checked : Checked) → Checks project name (Ok checked) → found name ≡ Some checked) where
    abbrev IsGood : Checked → Type 0
    IsGood checked = IsSoundComponent checked × BelongsTo (names_by found) checked

    parts_good : (k : ℕ) → ((name : List ℕ) (checked : Checked) → ChecksBy project k name (Ok checked) → IsGood checked) → (refs : List (Ref × Bool)) (parts : List (Option Outcome)) →
        AllZip (IsPart project (ChecksBy project k)) refs parts → AllByRecursion IsGood (filter_map checked_in parts)
    parts_good k good [] [] h = tt
    parts_good k good [] (p ∷ parts) h = absurd h
    parts_good k good (r ∷ refs) [] h = absurd h
    parts_good k good (r ∷ refs) (None ∷ parts) h = parts_good k good refs parts h.1
    parts_good k good (r ∷ refs) (Some (Err fault) ∷ parts) h = parts_good k good refs parts h.1
    parts_good k good (r ∷ refs) (Some (Ok c) ∷ parts) h = (good r.0.name c h.0, parts_good k good refs parts h.1)

    -- a component that is checked beside sound ones
    record Follows (checked : Checked) (c : RawComponent) : Type 0 where
      pub good : IsGood checked
      pub abstraction : Option CheckedMachine
      pub is : IsAbstraction project (refined_in c) abstraction
      pub over : IfSome abstraction IsSoundMachine
      pub beside : IsSoundBeside abstraction checked

    followed : (k : ℕ) → ((name : List ℕ) (checked : Checked) → ChecksBy project k name (Ok checked) → IsGood checked) → (name text : List ℕ) (reading : Reading) (checked : Checked) →
        IsRead name text reading → found name ≡ Some checked → ConcludesFrom project (ChecksBy project k) reading (Ok checked) → (c : RawComponent) × (reading ≡ Ok c) × Follows checked c
    followed k good name text (Err fault) checked is there h = ok_err checked fault h
    followed k good name text (Ok c) checked is there h =
        let seen = filter_map checked_in h.0 in
        let p = passes (ChecksBeside c seen (ok checked)) (reference_faults (heading c).name (wanted_references c) h.0) checked h.2 in
        let parts = parts_good k good (wanted_references c) h.0 h.1 in
        let those = parts_are project k (heading c).name c h.0 h.1 p.0 in
        let written = read_is_written name text c is in
        let named : component_name checked ≡ name = name_kept c seen checked p.1 ∙ is.named in
        let sound = checked_is_sound actions_stand (names_by found) c seen checked written.0 written.1 (record { all = those.0; sound = parts })
        (has_at found checked (ap found named ∙ there)) p.1 in (
          c,
          refl,
          record {
            good = (sound.0, sound.2);
            abstraction = first_machine_in seen;
            is = those.1;
            over = first_sound seen (all_each IsGood IsSoundComponent seen (λ x g. g.0) parts);
            beside = sound.1;
          },
        )

    good_by : (k : ℕ) (name : List ℕ) (checked : Checked) → ChecksBy project k name (Ok checked) → IsGood checked
    good_by zero name checked h = absurd h
    good_by (suc k) name checked h = (followed k (good_by k) name h.0 h.1 checked h.3 (found_all name checked (settled (suc k) h)) h.4).2.good

    abstraction_one : (refines : Option Ref) (a b : Option CheckedMachine) → IsAbstraction project refines a → IsAbstraction project refines b → a ≡ b
    abstraction_one None a b h g = h ∙ sym g
    abstraction_one (Some r) a b h g =
        h.2 ∙ ap (λ m. Some m) (same_machine h.0 g.0 (verdict_one project distinct r.name (Ok (Machine h.0)) (Ok (Machine g.0)) h.1 g.1)) ∙ sym g.2

    -- a checked component beside its abstraction
    component_typed : (name text : List ℕ) (component : RawComponent) (checked : Checked) (abstraction : Option CheckedMachine) → Contains project (name, text) → IsRead name text (Ok component)
        → Checks project name (Ok checked) → IsAbstraction project (refined_in component) abstraction → IsWellTypedComponent checked abstraction
    component_typed name text component checked abstraction there is (settled zero h) refines = absurd h
    component_typed name text component checked abstraction there is (cyclic fault h e) refines = ok_err checked fault e
    component_typed name text component checked abstraction there is (settled (suc k) h) refines =
        let f = followed k (good_by k) name h.0 h.1 checked h.3 (found_all name checked (settled (suc k) h)) h.4 in
        let same : f.0 ≡ component = same_component f.0 component (sym f.1 ∙ read_one project distinct name h.0 text h.1 (Ok component) h.2 there h.3 is) in
        let one : f.2.abstraction ≡ abstraction = abstraction_one (refined_in component) f.2.abstraction abstraction
        (subst (λ c. IsAbstraction project (refined_in c) f.2.abstraction) same f.2.is) refines in
        subst (IsWellTypedComponent checked) one (sound_is_typed checked f.2.abstraction f.2.good.0 f.2.over f.2.beside)

    given_sequents : (name : List ℕ) (own : List Obligation) → Gives project name own → AreSequents own
    given_sequents name own (inl h) = subst AreSequents (sym h.2) tt
    given_sequents name own (inr h) = subst AreSequents (sym h.8) (typed_table_is h.2 h.3 (component_typed name h.0 h.1 h.2 h.3 h.4 h.5 h.6 h.7))

    all_sequents : (components : Project) (table : List Obligation) → AreObligations project components table → AreSequents table
    all_sequents [] table h = subst AreSequents (sym h) tt
    all_sequents (entry ∷ components) table h =
        subst AreSequents (sym h.4) (all_append (λ o. IsSequent o.sequent) h.0 h.1 (given_sequents entry.0 h.0 h.2) (all_sequents components h.1 h.3))

  pub table_sequents : (table : List Obligation) → IsTableOf project table → AreSequents table
  table_sequents table h =
      all_sequents (found_in project project table h) (λ name checked c. found_is project table h name checked c (has_verdict name (Ok checked) c)) project table h
