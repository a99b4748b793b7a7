-- Lines and columns of places in short texts.
use Rattle.std.proofs.Common.{ℕ, ◌+◌, ◌≤◌, ◌==◌, Bool, true, false, cond, List, [], ◌∷◌, length, take, arith}
use Rattle.std.proofs.lemmas.List.{length-take-le}
use Rattle.component_tokens.specs.Positions.{place, continues_character, behind_byte, position_behind, position_in_text}
use Rattle.component_tokens.specs.declared.positions.Position.{Position}

-- a position that so many bytes lead to from another one
record IsNear (p q : Position) (n : ℕ) : Type 0 where
  line : q.line ≤ p.line + n
  column : q.column ≤ p.column + n
  from_one : 1 ≤ q.column

one_near : (p : Position) (c : ℕ) → 1 ≤ p.column → IsNear p (behind_byte p c) 1
one_near p c one = by (c == 10) (continues_character c)
  where
    by : (a b : Bool) → IsNear p (cond a (place (p.line + 1) 1) (cond b p (place p.line (p.column + 1)))) 1
    by true b = record { line = omega arith; column = omega arith; from_one = omega arith }
    by false true = record { line = omega arith; column = omega arith; from_one = one }
    by false false = record { line = omega arith; column = omega arith; from_one = omega arith }

behind_near : (p : Position) (cs : List ℕ) → 1 ≤ p.column → IsNear p (position_behind p cs) (length cs)
behind_near p [] one = record { line = omega arith; column = omega arith; from_one = one }
behind_near p (c ∷ cs) one =
    let first = one_near p c one in
    let rest = behind_near (behind_byte p c) cs first.from_one in
    record { line = omega (arith, first.line, rest.line); column = omega (arith, first.column, rest.column); from_one = rest.from_one }

-- a line or a column is at most one more than the byte place
pub position_within : (text : List ℕ) (at : ℕ) → at ≤ length text → ((position_in_text text at).line ≤ 1 + at) × ((position_in_text text at).column ≤ 1 + at)
position_within text at within =
    let near = behind_near (place 1 1) (take at text) (omega arith) in
    (omega (arith, near.line, length-take-le at text within), omega (arith, near.column, length-take-le at text within))
