-- No two obligations of a project have the same name.
use Rattle.std.proofs.Common.{◌≡◌, ◌∙◌, ◌⊎◌, inl, inr, sym, ap, subst, map, ℕ, zero, suc, Bool, false, List, [], ◌∷◌, ◌++◌, Option, Some, None, IfSome, bytes_eq}
use Rattle.std.specs.Prelude.{Ok, Err}
use Rattle.std.specs.List.{AllByRecursion, AllZip, IsDistinct, filter_map}
use Rattle.std.specs.Map.{keys_of}
use Rattle.formula_core.specs.declared.raw.Ref.{Ref}
use Rattle.type_formula.proofs.Named.{all_each}
use Rattle.model_core.specs.Components.{heading}
use Rattle.model_core.specs.Each.{for_each}
use Rattle.model_core.specs.declared.fault.Fault.{Fault}
use Rattle.model_core.specs.declared.checked.Checked.{Checked}
use Rattle.model_core.specs.declared.checked.Checked.TheVariants.{Context, Machine}
use Rattle.model_core.specs.declared.checked.CheckedMachine.{CheckedMachine}
use Rattle.component_text.specs.Spelled.{IsRead}
use Rattle.check_rules.specs.Contexts.{Outcome}
use Rattle.check_rules.specs.Components.{ChecksBeside}
use Rattle.sequent_core.specs.declared.sequent.Obligation.{Obligation}
use Rattle.po_rules.specs.Tables.{obligations_of}
use Rattle.name_laws.specs.Labels.{IsPlain, AreOnce, HasPlainNames, HasDistinctLabels}
use Rattle.name_laws.specs.Laws.{component_name, HaveDistinctNames, IsWellNamed, IsNamedTable}
use Rattle.name_laws.proofs.Checked.{checked_names, checked_labels, name_kept}
use Rattle.name_laws.proofs.Declared.{ok, passes}
use Rattle.name_laws.proofs.Obligations.{distinct_names}
use Rattle.name_laws.proofs.Tables.{joined_tables}
use Rattle.reading_laws.proofs.Plain.{read_is_plain}
use Rattle.build_core.specs.Laws.{HasDistinctObligations}
use Rattle.build_core.specs.Projects.{Project, Reading, wanted_references, reference_faults, checked_in, IsPart, ConcludesFrom, ChecksBy, Checks, settled, cyclic}
use Rattle.build_core.specs.Tables.{refined_in, IsAbstraction, Gives, AreObligations}

ok_err : {A : Type 0} (c : Checked) (fault : Fault) → ok c ≡ Err fault → A
ok_err c fault e = absurd (never e)
  where
    never : ok c ≡ Err fault → ⊥
    never h = cc

module _ (project : Project) where
  parts_named : (k : ℕ) → ((name : List ℕ) (checked : Checked) → ChecksBy project k name (Ok checked) → IsWellNamed checked) → (refs : List (Ref × Bool)) (parts : List (Option Outcome)) →
      AllZip (IsPart project (ChecksBy project k)) refs parts → AllByRecursion IsWellNamed (filter_map checked_in parts)
  parts_named k named [] [] h = tt
  parts_named k named [] (p ∷ parts) h = absurd h
  parts_named k named (r ∷ refs) [] h = absurd h
  parts_named k named (r ∷ refs) (None ∷ parts) h = parts_named k named refs parts h.1
  parts_named k named (r ∷ refs) (Some (Err fault) ∷ parts) h = parts_named k named refs parts h.1
  parts_named k named (r ∷ refs) (Some (Ok c) ∷ parts) h = (named r.0.name c h.0, parts_named k named refs parts h.1)

  -- from the parts to the component
  concluded : (k : ℕ) → ((name : List ℕ) (checked : Checked) → ChecksBy project k name (Ok checked) → IsWellNamed checked) → (name text : List ℕ) (reading : Reading) (checked : Checked) →
      IsRead name text reading → ConcludesFrom project (ChecksBy project k) reading (Ok checked) → IsWellNamed checked × (component_name checked ≡ name)
  concluded k named name text (Err fault) checked is h = ok_err checked fault h
  concluded k named name text (Ok c) checked is h =
      let seen = filter_map checked_in h.0 in
      let p = passes (ChecksBeside c seen (ok checked)) (reference_faults (heading c).name (wanted_references c) h.0) checked h.2 in
      let good = parts_named k named (wanted_references c) h.0 h.1 in (
        (
          checked_names c seen checked (read_is_plain name text c is) (all_each IsWellNamed HasPlainNames seen (λ q g. g.0) good) p.1,
          checked_labels c seen checked (all_each IsWellNamed HasDistinctLabels seen (λ q g. g.1) good) p.1,
        ),
        name_kept c seen checked p.1 ∙ is.named,
      )

  named_by : (k : ℕ) (name : List ℕ) (checked : Checked) → ChecksBy project k name (Ok checked) → IsWellNamed checked × (component_name checked ≡ name)
  named_by zero name checked h = absurd h
  named_by (suc k) name checked h = concluded k (λ n c g. (named_by k n c g).0) name h.0 h.1 checked h.3 h.4

  named : (name : List ℕ) (checked : Checked) → Checks project name (Ok checked) → IsWellNamed checked × (component_name checked ≡ name)
  named name checked (settled k h) = named_by k name checked h
  named name checked (cyclic fault h e) = ok_err checked fault e

  abstraction_named : (refines : Option Ref) (abstraction : Option CheckedMachine) → IsAbstraction project refines abstraction → IfSome abstraction (λ m. IsWellNamed (Machine m))
  abstraction_named None abstraction h = subst (λ o. IfSome o (λ m. IsWellNamed (Machine m))) (sym h) tt
  abstraction_named (Some r) abstraction h = subst (λ o. IfSome o (λ m. IsWellNamed (Machine m))) (sym h.2) (named r.name (Machine h.0) h.1).0

  plain_component : (checked : Checked) → HasPlainNames checked → IsPlain (component_name checked)
  plain_component (Context c) h = h.name
  plain_component (Machine m) h = h.name

  given_named : (name : List ℕ) (own : List Obligation) → Gives project name own → (own ≡ []) ⊎ IsNamedTable (name, own)
  given_named name own (inl h) = inl h.2
  given_named name own (inr h) =
      let n = named name h.2 h.6 in
      let d = distinct_names h.2 h.3 n.0 (abstraction_named (refined_in h.1) h.3 h.7) in
      inr (subst (λ os. IsNamedTable (name, os)) (sym h.8)
      (subst (λ c. IsNamedTable (c, obligations_of h.2 h.3)) n.1 (plain_component h.2 n.0.0, d.0, d.1)))

  -- the tables of the components that have obligations
  record HasTables (entries : Project) (table : List Obligation) : Type 0 where
    pub tables : List (List ℕ × List Obligation)
    pub is : table ≡ for_each (λ t. t.1) tables
    pub once : AreOnce (map (λ t. t.0) tables)
    pub each : AllByRecursion IsNamedTable tables
    pub others : (name : List ℕ) → AllByRecursion (λ y. bytes_eq name y ≡ false) (keys_of entries) → AllByRecursion (λ y. bytes_eq name y ≡ false) (map (λ t. t.0) tables)

  tables_in : (entries : Project) (table : List Obligation) → AreOnce (keys_of entries) → AreObligations project entries table → HasTables entries table
  unfolding IsDistinct
  tables_in [] table d h = record { tables = []; is = h; once = tt; each = tt; others = λ name k. tt }
  tables_in (entry ∷ entries) table d h =
      let rest = tables_in entries h.1 d.1 h.3 in
      elim (given_named entry.0 h.0 h.2) [
        | inl none ↦ record {
          tables = rest.tables;
          is = h.4 ∙ ap (λ os. os ++ h.1) none ∙ rest.is;
          once = rest.once;
          each = rest.each;
          others = λ name k. rest.others name k.1;
        }
        | inr t ↦ record {
          tables = (entry.0, h.0) ∷ rest.tables;
          is = h.4 ∙ ap (λ os. h.0 ++ os) rest.is;
          once = (rest.others entry.0 d.0, rest.once);
          each = (t, rest.each);
          others = λ name k. (k.0, rest.others name k.1);
        }
      ]

pub distinct_obligations : HasDistinctObligations
distinct_obligations project distinct table h =
    let t = tables_in project project table distinct h in
    subst HaveDistinctNames (sym t.is) (joined_tables t.tables t.once t.each)
