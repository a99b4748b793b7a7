use Rattle.std.proofs.Common.{◌≡◌, true, ℕ, List, take}
use Rattle.std.specs.Prelude.{bytes_eq}
use Rattle.std.specs.List.{AllByRecursion, list_any}
use Rattle.formula_core.specs.Names.{is_name}
use Rattle.std.specs.Map.{keys_of}
use Rattle.std.specs.BTreeSet.{contains_by}
use Rattle.std.specs.Ordering.{nat_cmp}
use Rattle.std.specs.Cmp.Lexicographic.{slice_cmp}
use Rattle.formula_print.proofs.names.names_of.Given as goal

abbrev pub invariant-loop-identifier : goal.invariant-loop-identifier
invariant-loop-identifier l = record {
  has : (name : List ℕ) → contains_by (slice_cmp nat_cmp name) l.names ≡ list_any (bytes_eq name) (keys_of (take l.identifier-index l.identifiers));
  are : AllByRecursion (λ x. is_name x.0 ≡ true) (take l.identifier-index l.identifiers);
}
