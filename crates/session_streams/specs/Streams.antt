-- What was done to a source and to a sink, where these tell their bytes.
use Rattle.std.specs.Prelude.{ℕ, List, take, Option}
use Rattle.std.specs.Io.KnownBytes.{Appends, Keeps}
use Rattle.outside.specs.Cause.{Rose}

-- a front of the text was written
abbrev pub AppendsFront : Option (List ℕ) → Option (List ℕ) → List ℕ → Type 0
AppendsFront old new text = (n : ℕ) × Appends old new (take n text)

-- A source before and after: the bytes that it has left, where it tells them, and how often it has failed.
pub record SourceState : Type 0 where
  pub left : Option (List ℕ)
  pub left_then : Option (List ℕ)
  pub faults : ℕ
  pub faults_then : ℕ

-- A sink before and after: the bytes that were written, where it tells them, and how often it has failed.
pub record Writing : Type 0 where
  pub written : Option (List ℕ)
  pub written_then : Option (List ℕ)
  pub faults : ℕ
  pub faults_then : ℕ

abbrev pub reading : Option (List ℕ) → Option (List ℕ) → ℕ → ℕ → SourceState
reading left left_then faults faults_then =
    record { left = left; left_then = left_then; faults = faults; faults_then = faults_then }

abbrev pub writing : Option (List ℕ) → Option (List ℕ) → ℕ → ℕ → Writing
writing written written_then faults faults_then =
    record { written = written; written_then = written_then; faults = faults; faults_then = faults_then }

-- the source failed
abbrev pub SourceFailed : SourceState → Type 0
SourceFailed source = Rose source.faults source.faults_then

-- the sink failed
abbrev pub SinkFailed : Writing → Type 0
SinkFailed sink = Rose sink.faults sink.faults_then

-- the whole text was written
abbrev pub Writes : Writing → List ℕ → Type 0
Writes sink text = Appends sink.written sink.written_then text

-- a front of the text was written, since the sink failed
abbrev pub WritesCut : Writing → List ℕ → Type 0
WritesCut sink text = SinkFailed sink × AppendsFront sink.written sink.written_then text

-- nothing was written
abbrev pub WritesNothing : Writing → Type 0
WritesNothing sink = Keeps sink.written sink.written_then
