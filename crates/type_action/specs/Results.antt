-- One value of a kind, none, or several.
use Rattle.std.specs.Prelude.{◌≡◌, ◌≢◌}

-- this one and no other
pub record IsOnly {A : Type 0} (P : A → Type 0) (a : A) : Type 0 where
  pub holds : P a
  pub only : (other : A) → P other → other ≡ a

abbrev pub HasNone : {A : Type 0} → (A → Type 0) → Type 0
HasNone {A} P = (a : A) → P a → ⊥

pub record HasTwo {A : Type 0} (P : A → Type 0) : Type 0 where
  pub one : A
  pub two : A
  pub first : P one
  pub second : P two
  pub apart : one ≢ two
