use Rattle.std.proofs.Common.{◌≡◌, ◌-◌, ◌^◌, min, take}
use Rattle.event_values.specs.Reading.{number_after}
use Rattle.event_values.proofs.reading.digits_number.Given as goal

abbrev pub invariant-loop-c : goal.invariant-loop-c
invariant-loop-c l = l.n ≡ min (number_after 0 (take l.c-index l.text)) (2 ^ 128 - 1)
