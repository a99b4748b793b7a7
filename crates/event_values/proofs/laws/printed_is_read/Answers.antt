use Rattle.event_values.proofs.Written.{printed_reads}
use Rattle.event_values.proofs.laws.printed_is_read.Goals as goal

pub returns : goal.returns
returns c = printed_reads
