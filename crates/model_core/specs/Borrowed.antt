-- Texts behind references.
use Rattle.std.specs.Prelude.{ℕ, List, map, Bool}
use Rattle.std.specs.Borrow.{Bor}
use Rattle.std.specs.BTreeSet.{BTreeSet, contains_by}
use Rattle.std.specs.Cmp.Lexicographic.{slice_cmp}
use Rattle.std.specs.Ordering.{nat_cmp}

-- the texts behind references
abbrev pub texts : List (Bor (List ℕ)) → List (List ℕ)
texts names = map (λ n. n.now) names

-- whether the set has the text
abbrev pub has : BTreeSet (Bor (List ℕ)) → List ℕ → Bool
has set text = contains_by (λ k. slice_cmp nat_cmp text k.now) set
