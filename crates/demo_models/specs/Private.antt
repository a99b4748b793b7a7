-- What the clauses of private functions cite.
use Rattle.std.specs.Prelude.{ℕ, Bool, List, [], ◌++◌, codes, if◌then◌else◌}
use Rattle.demo_models.specs.declared.making.Kind.{Kind}
use Rattle.demo_models.specs.declared.making.Kind.TheVariants.{Context, Machine}
use Rattle.demo_models.specs.Models.{three_digits}

-- the line of the third invariant, or none
abbrev pub third_line : Bool → List ℕ → List ℕ
third_line third digits = if third then (codes "  @inv3 n" ++ digits ++ codes " : INT\n") else []

abbrev pub letter : Kind → List ℕ
letter Context = codes "c"
letter Machine = codes "m"

abbrev pub name_of_kind : Kind → ℕ → List ℕ
name_of_kind kind i = letter kind ++ three_digits i
