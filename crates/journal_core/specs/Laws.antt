-- A law on what sides stand for.
use Rattle.std.specs.Prelude.{◌≡◌}
use Rattle.outside.specs.Disk.{Sides}
use Rattle.journal_core.specs.Start.{JournalMeaning, JournalStandsFor}

-- sides stand for one thing at most
abbrev pub HasOneMeaning : Type 0
HasOneMeaning = (sides : Sides) (a b : JournalMeaning) → JournalStandsFor sides a → JournalStandsFor sides b → a ≡ b
