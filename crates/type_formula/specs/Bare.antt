-- Bare formulas: formulas in core form, without types.
use Rattle.std.specs.Prelude.{ℕ, ℤ, suc, Bool, true, false, List}
use Rattle.formula_core.specs.declared.op.Op.{Op}
use Rattle.formula_core.specs.declared.op.Binder.{Binder}

mutual
  pub data Bare : Type 0 where
    Number : ℤ → Bare
    -- a name and its place
    Identifier : List ℕ → ℕ → Bare
    Form : Op → Bares → Bare
    -- a set and its parts
    Partition : Bares → Bare
    Binding : Binder → BareBounds → Bares → Bare
    -- a formula and its type, which is a type expression
    Ascribed : Bare → Bare → Bare
    -- a form with a wrong number of parts
    Broken : Bares → Bare

  pub data Bares : Type 0 where
    nothing : Bares
    more : Bare → Bares → Bares

  -- the names of a binder, some of them with their types
  pub data BareBounds : Type 0 where
    unbound : BareBounds
    plain : List ℕ → BareBounds → BareBounds
    typed : List ℕ → Bare → BareBounds → BareBounds

abbrev pub part_count : Bares → ℕ
part_count nothing = 0
part_count (more b bs) = suc (part_count bs)

abbrev pub has_names : BareBounds → Bool
has_names unbound = false
has_names (plain x names) = true
has_names (typed x t names) = true
