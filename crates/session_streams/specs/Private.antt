-- What private contracts say of a reader.
use Rattle.std.specs.Prelude.{◌≡◌, ◌+◌, ◌-◌, ℕ, false, List, [], Option, if◌then◌else◌}
use Rattle.session_words.specs.Reading.{commands_left}
use Rattle.session_streams.specs.declared.reading.Reader.{Reader}
use Rattle.session_streams.specs.declared.reading.ReadEnd.{ReadEnd}
use Rattle.session_streams.specs.Reads.{EndsReading}

-- the reading ends so where no whole line was left
abbrev pub EndsReadingHere : Option (List ℕ) → Reader → Option (List ℕ) → ReadEnd → ℕ → ℕ → Type 0
EndsReadingHere before old now end faults faults_then =
    commands_left old.commands [] false ≡ [] → EndsReading before old now end faults faults_then

-- how much there is left to read at most: the bytes that may be taken, and the end
abbrev pub left_to_read : Reader → ℕ
left_to_read reader = (67108865 - reader.taken) + (if reader.ended then 0 else 1)
