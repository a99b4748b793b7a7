-- A history, as contracts see it.
use Rattle.std.specs.Prelude.{ℕ, List}

-- the items that were noted, the oldest first, and how many further ones are noted without memory
pub record Items (T : Type 0) : Type 0 where
  pub items : List T
  pub room : ℕ
