-- Forms: which values have bytes, and which bytes a value has. What it means to read a value from the front of bytes, and to write one behind them.
use Rattle.std.specs.Prelude.{◌≡◌, List, ℕ, ◌++◌}

-- the bytes begin with a good value, and the rest stands behind it
pub record BeginsWith {A : Type 0} (IsGood : A → Type 0) (bytes_of : A → List ℕ) (bytes : List ℕ) (x : A) (rest : List ℕ) : Type 0 where
  pub good : IsGood x
  pub split : bytes ≡ bytes_of x ++ rest

-- they begin with no good value
pub record BeginsNone {A : Type 0} (IsGood : A → Type 0) (bytes_of : A → List ℕ) (bytes : List ℕ) : Type 0 where
  pub none : (x : A) (rest : List ℕ) → BeginsWith IsGood bytes_of bytes x rest → ⊥
