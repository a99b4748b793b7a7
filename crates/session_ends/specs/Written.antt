-- How texts and a last line behind them come to a sink.
use Rattle.std.specs.Prelude.{◌⊎◌, ℕ, List, ◌++◌, take, Option, Some, None}
use Rattle.session_words.specs.declared.line.Line.{Line}
use Rattle.session_run.specs.Dialogue.{Next, tells}
use Rattle.session_streams.specs.Streams.{Writing, SinkFailed, Writes, WritesCut}

-- the line was written, cut only where the sink failed
abbrev pub WritesOrFails : Writing → List ℕ → Type 0
WritesOrFails sink line = Writes sink line ⊎ WritesCut sink line

-- the text was written, and then the line, which is cut only where the sink failed
abbrev pub WritesThen : Writing → List ℕ → List ℕ → Type 0
WritesThen sink text line =
    Writes sink (text ++ line) ⊎ (SinkFailed sink × ((n : ℕ) × Writes sink (text ++ take n line)))

-- The text of the lines before was written, and then the last line. What a line tells whose exchanges are whole is left
-- out or cut only where the sink failed.
abbrev pub WritesAt : Next → Writing → List ℕ → List ℕ → Type 0
WritesAt (tells said) sink text line = SinkFailed sink × ((n m : ℕ) × Writes sink (text ++ take n said ++ take m line))
WritesAt next sink text line = WritesThen sink text line

abbrev pub WritesUpTo : Option (Line × Next) → Writing → List ℕ → List ℕ → Type 0
WritesUpTo None sink text line = WritesThen sink text line
WritesUpTo (Some begun) sink text line = WritesAt begun.1 sink text line
