-- Exit statuses and last lines.
use Rattle.std.specs.Prelude.{ℕ, List, [], ◌++◌, codes}
use Rattle.std.specs.Fmt.{decimal}
use Rattle.outside.specs.declared.side.Side.{Side}
use Rattle.outside.specs.declared.side.Side.TheVariants.{Left, Right}
use Rattle.store_log.specs.declared.fault.StoreFault.{StoreFault}
use Rattle.store_log.specs.declared.fault.StoreFault.TheVariants as fault
use Rattle.project_store.specs.declared.fault.OpenFault.{OpenFault}
use Rattle.project_store.specs.declared.fault.OpenFault.TheVariants as opening

-- for the first fault of the store
abbrev pub fault_status : StoreFault → ℕ
fault_status fault.SessionFull = 7
fault_status fault.JournalFull = 7
fault_status fault.OutOfMemory = 9
fault_status fault.DiskFault = 5
fault_status fault.Failed = 5

abbrev pub store_fault_line : StoreFault → List ℕ
store_fault_line fault.SessionFull = codes "full: session\n"
store_fault_line fault.JournalFull = codes "full: journal\n"
store_fault_line fault.OutOfMemory = []
store_fault_line fault.DiskFault = codes "project: disk fault\n"
store_fault_line fault.Failed = codes "project: disk fault\n"

-- where the project isn't opened
abbrev pub opening_status : OpenFault → ℕ
opening_status (opening.Foreign side) = 6
opening_status (opening.Damaged side at) = 6
opening_status (opening.TableFull n) = 7
opening_status opening.DiskFault = 5
opening_status opening.OutOfMemory = 9

abbrev pub side_word : Side → List ℕ
side_word Left = codes "left"
side_word Right = codes "right"

abbrev pub opening_line : OpenFault → List ℕ
opening_line (opening.Foreign side) = codes "project: " ++ side_word side ++ codes " is not a journal\n"
opening_line (opening.Damaged side at) =
    codes "project: damaged " ++ side_word side ++ codes " at " ++ decimal at ++ codes "\n"
opening_line (opening.TableFull n) = codes "full: table\n"
opening_line opening.DiskFault = codes "project: disk fault\n"
opening_line opening.OutOfMemory = []

-- the exit statuses of a session
pub data IsSessionStatus : ℕ → Type 0 where
  read_through : IsSessionStatus 0
  edit_left_open : IsSessionStatus 1
  reading_failed : IsSessionStatus 3
  writing_failed : IsSessionStatus 4
  disk_failed : IsSessionStatus 5
  no_project : IsSessionStatus 6
  limit_reached : IsSessionStatus 7
  no_memory : IsSessionStatus 9
