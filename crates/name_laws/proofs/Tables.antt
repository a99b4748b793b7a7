-- Obligations of components with different names have different names.
use Rattle.std.proofs.Common.{◌≡◌, ◌∙◌, sym, ap, ℕ, List, [], ◌∷◌}
use Rattle.std.specs.List.{AllByRecursion}
use Rattle.std.proofs.lemmas.List.{append-nil}
use Rattle.model_core.specs.Each.{for_each}
use Rattle.model_core.proofs.Members.{given}
use Rattle.sequent_core.specs.declared.sequent.Obligation.{Obligation}
use Rattle.po_rules.specs.Parts.{path_with}
use Rattle.name_laws.specs.Labels.{IsPlain}
use Rattle.name_laws.specs.Laws.{IsNamedTable, JoinedTablesHaveDistinctNames}
use Rattle.name_laws.proofs.Lists.{AreKeyedOnce, all_in, keyed_once, once_keyed}
use Rattle.name_laws.proofs.Calls.{split_once, name_of, once_both}

same_component : (one two rest other : List ℕ) → IsPlain one → IsPlain two → path_with one rest ≡ path_with two other → one ≡ two
same_component one two rest other h k e =
    (split_once one two (rest ∷ []) (other ∷ []) h k (ap (path_with one) (append-nil rest) ∙ e ∙ ap (path_with two) (sym (append-nil other)))).0

joined_once : (tables : List (List ℕ × List Obligation)) → AreKeyedOnce (λ t. t.0) tables → AllByRecursion IsNamedTable tables → AreKeyedOnce name_of (for_each (λ t. t.1) tables)
joined_once [] once each = tt
joined_once (t ∷ tables) once each =
    once_both t.1 (for_each (λ u. u.1) tables) (keyed_once name_of t.1 each.0.1) (joined_once tables once.1 each.1)
    (λ o p i j same.
    let g = (given (λ u. u.1) tables p).0 j in
    let other : IsNamedTable g.0 = all_in IsNamedTable tables g.0 each.1 g.1 in
    let a = all_in (λ q. (rest : List ℕ) × (q.name ≡ path_with t.0 rest)) t.1 o each.0.2 i in
    let b = all_in (λ q. (rest : List ℕ) × (q.name ≡ path_with g.0.0 rest)) g.0.1 p other.2 g.2 in
    once.0 g.0 g.1 (same_component t.0 g.0.0 a.0 b.0 each.0.0 other.0 (sym a.1 ∙ same ∙ b.1)))

pub joined_tables : JoinedTablesHaveDistinctNames
joined_tables tables once each = once_keyed name_of (for_each (λ t. t.1) tables) (joined_once tables (keyed_once (λ t. t.0) tables once) each)
