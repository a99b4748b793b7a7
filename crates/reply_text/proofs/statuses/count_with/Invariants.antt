use Rattle.std.proofs.Common.{◌≡◌, ◌≤◌, take}
use Rattle.reply_text.specs.Statuses.{count_with}
use Rattle.reply_text.proofs.statuses.count_with.Given as goal

abbrev pub invariant-loop-each : goal.invariant-loop-each
invariant-loop-each l = record {
  so_far : l.count ≡ count_with l.status (take l.each-index l.shown);
  within : l.count ≤ l.each-index;
}
