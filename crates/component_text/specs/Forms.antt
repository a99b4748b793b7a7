-- How a grammar is put together of parts. A part relates what stands there to what its beginning says, and to what stands behind that.
use Rattle.std.specs.Prelude.{◌≡◌, Bool, true, false, List, [], ◌∷◌, Option, Some}
use Rattle.math_grammar.specs.Tokens.{Item}
use Rattle.component_text.specs.Marks.{Mark, token_run, behind_run, is_at}

-- What bounds formulas: all their limits, that of partitions alone, or none.
pub data Bounds : Type 0 where
  limits : Bounds
  parts : Bounds
  none : Bounds

-- one token, by what it stands for
pub record One {X : Type 0} (value : Mark → Option X) (b : Bounds) (s : List Mark) (x : X) (rest : List Mark) : Type 0 where
  pub mark : Mark
  pub there : s ≡ mark ∷ rest
  pub is : value mark ≡ Some x

-- a formula: all tokens before the next structural word or label
pub record FormulaRun {X : Type 0} (F : Bounds → List Item → X → Type 0) (b : Bounds) (s : List Mark) (x : X) (rest : List Mark) : Type 0 where
  pub spelled : F b (token_run s) x
  pub behind : rest ≡ behind_run s

-- nothing
pub record Nothing {X : Type 0} (absent : X) (b : Bounds) (s : List Mark) (x : X) (rest : List Mark) : Type 0 where
  pub is : x ≡ absent
  pub behind : rest ≡ s

-- P, and then Q
pub record Then {X Y : Type 0} (P : Bounds → List Mark → X → List Mark → Type 0) (Q : Bounds → List Mark → Y → List Mark → Type 0)
    (b : Bounds) (s : List Mark) (xy : X × Y) (rest : List Mark) : Type 0 where
  pub middle : List Mark
  pub first : P b s xy.0 middle
  pub second : Q b middle xy.1 rest

-- behind a token that passes the test P, and where none stands Q
pub data Choice {X : Type 0} (test : Mark → Bool) (P Q : Bounds → List Mark → X → List Mark → Type 0)
    (b : Bounds) (s : List Mark) (x : X) (rest : List Mark) : Type 0 where
  taken : (mark : Mark) (m : List Mark) → s ≡ mark ∷ m → test mark ≡ true → P b m x rest → Choice test P Q b s x rest
  other : is_at test s ≡ false → Q b s x rest → Choice test P Q b s x rest

-- {P}: as long as a token that passes the test stands next
pub data Many {X : Type 0} (test : Mark → Bool) (P : Bounds → List Mark → X → List Mark → Type 0) (b : Bounds) : List Mark → List X → List Mark → Type 0 where
  no_more : {s rest : List Mark} → is_at test s ≡ false → rest ≡ s → Many test P b s [] rest
  one_more : {s m rest : List Mark} {x : X} {xs : List X} → is_at test s ≡ true → P b s x m → Many test P b m xs rest → Many test P b s (x ∷ xs) rest

-- what P says, as another value
pub record Of {X Y : Type 0} (f : X → Y) (P : Bounds → List Mark → X → List Mark → Type 0) (b : Bounds) (s : List Mark) (y : Y) (rest : List Mark) : Type 0 where
  pub from : X
  pub is : f from ≡ y
  pub part : P b s from rest
