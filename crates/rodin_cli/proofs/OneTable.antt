-- The table of a project: there is one, its obligations have distinct names, and their sequents are typed.
use Rattle.std.proofs.Common.{◌≡◌, ◌≢◌, sym, ◌∙◌, ℕ, true, false, List, [], ◌∷◌, ◌++◌, map, refl}
use Rattle.std.proofs.lemmas.Slice.Eq.{bytes_eq-Decides}
use Rattle.std.specs.Prelude.{Option, Some, bytes_eq}
use Rattle.std.specs.List.{AllByRecursion, IsDistinct}
use Rattle.std.specs.FinMap.{entries}
use Rattle.sequent_core.specs.declared.Sequent.{Sequent}
use Rattle.sequent_core.specs.declared.Obligation.{Obligation}
use Rattle.po_rules.specs.Sequents.{AreSequents}
use Rattle.name_laws.specs.Laws.{HaveDistinctNames}
use Rattle.build_core.proofs.Tables.{one_table as has_one_table}
use Rattle.build_core.proofs.Distinct.{distinct_obligations}
use Rattle.typed_tables.proofs.Verdicts.{table_sequents}
use Rattle.core_steps.specs.Durable.{ProjectMap}
use Rattle.core_steps.specs.Table.{IsTable, IsPresent}
use Rattle.core_steps.proofs.Alls.{all_last}
use Rattle.core_steps.proofs.NameMaps.{names_differ}
use Rattle.core_steps.proofs.OneWay.{one_present}

pub one_table : (project : ProjectMap) (t u : List Obligation) → IsTable project t → IsTable project u → t ≡ u
one_table project t u x y = has_one_table (entries project) (names_differ project) t u x y

pub table_typed : (project : ProjectMap) (table : List Obligation) → IsTable project table → AreSequents table
table_typed project table is = table_sequents (entries project) (names_differ project) table is

-- no two obligations have one name
abbrev pub HasDistinctPoNames : List Obligation → Type 0
HasDistinctPoNames [] = Unit {0}
HasDistinctPoNames (o ∷ table) = AllByRecursion (λ p. p.name ≢ o.name) table × HasDistinctPoNames table

-- names that are told apart differ
apart : (x y : List ℕ) → bytes_eq x y ≡ false → y ≢ x
apart x y differ same = let no : true ≡ false = sym ((bytes_eq-Decides x y).1 (sym same)) ∙ differ in cc

all_apart : (name : List ℕ) (table : List Obligation) → AllByRecursion (λ n. bytes_eq name n ≡ false) (map (λ o. o.name) table) → AllByRecursion (λ p. p.name ≢ name) table
all_apart name [] differ = tt
all_apart name (o ∷ table) differ = (apart name o.name differ.0, all_apart name table differ.1)

distinct_names : (table : List Obligation) → HaveDistinctNames table → HasDistinctPoNames table
unfolding IsDistinct
distinct_names [] distinct = tt
distinct_names (o ∷ table) distinct = (all_apart o.name table distinct.0, distinct_names table distinct.1)

pub distinct_table : (project : ProjectMap) (table : List Obligation) → IsTable project table → HasDistinctPoNames table
distinct_table project table is = distinct_names table (distinct_obligations (entries project) (names_differ project) table is)

-- names around one in a table without repeats
pub apart_before : (before : List Obligation) (o : Obligation) (behind : List Obligation) → HasDistinctPoNames (before ++ o ∷ behind) → AllByRecursion (λ p. p.name ≢ o.name) before
apart_before [] o behind distinct = tt
apart_before (p ∷ before) o behind distinct =
    ((λ e. (all_last (λ q. q.name ≢ p.name) before (o ∷ behind) distinct.0).0 (sym e)), apart_before before o behind distinct.1)

pub apart_behind : (before : List Obligation) (o : Obligation) (behind : List Obligation) → HasDistinctPoNames (before ++ o ∷ behind) → AllByRecursion (λ p. p.name ≢ o.name) behind
apart_behind [] o behind distinct = distinct.0
apart_behind (p ∷ before) o behind distinct = apart_behind before o behind distinct.1

-- in a table without repeats, the present obligation of a name is the one that has it
pub present_one : (before : List Obligation) (o : Obligation) (behind : List Obligation) → HasDistinctPoNames (before ++ o ∷ behind) →
    (sequent : Option Sequent) → IsPresent (before ++ o ∷ behind) o.name sequent → sequent ≡ Some o.sequent
present_one before o behind distinct sequent is =
    one_present (before ++ o ∷ behind) o.name sequent (Some o.sequent) is (before, behind, refl, apart_before before o behind distinct)
