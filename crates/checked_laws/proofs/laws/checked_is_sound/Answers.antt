use Rattle.type_action.proofs.Standing.{actions_stand}
use Rattle.checked_laws.proofs.Checked.{checked_is_sound}
use Rattle.checked_laws.proofs.laws.checked_is_sound.Goals as goal

pub returns : goal.returns
returns c = checked_is_sound actions_stand
