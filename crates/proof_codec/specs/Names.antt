-- Names.
use Rattle.std.specs.Prelude.{ℕ, List, IsTrue}
use Rattle.formula_core.specs.Names.{is_name}

abbrev pub IsGoodName : List ℕ → Type 0
IsGoodName name = IsTrue (is_name name)
