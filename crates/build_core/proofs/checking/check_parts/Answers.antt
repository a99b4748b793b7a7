use Rattle.std.proofs.Common.{◌∙◌, ap, map, Ok, Err}
use Rattle.build_core.proofs.Setting.{concludes_beside, parts_ready}
use Rattle.build_core.proofs.checking.check_parts.Goals as goal

pub check-requires : goal.check-requires
check-requires g c = record {
  parts = parts_ready c.args.raw.now c.args.outcomes.now _ c.requires (ap (map (λ p. p.now)) c.deref.ensures.value ∙ c.in_ok-parts.ensures);
}

pub returns-in-Ok-clause-outcome : goal.returns-in-Ok-clause-outcome
returns-in-Ok-clause-outcome g c =
    concludes_beside c.args.raw.now c.args.outcomes.now _ (Ok c.in-Ok.checked) c.requires
    (ap (map (λ p. p.now)) c.deref.ensures.value ∙ c.in_ok-parts.ensures) c.in-Ok.ensures.checked

pub returns-in-Err-Fault-clause-outcome : goal.returns-in-Err-Fault-clause-outcome
returns-in-Err-Fault-clause-outcome g c =
    concludes_beside c.args.raw.now c.args.outcomes.now _ (Err c.in-Err-Fault.fault) c.requires
    (ap (map (λ p. p.now)) c.deref.ensures.value ∙ c.in_ok-parts.ensures) (c.in-Err-Fault.ensures.fault c.in-Err-Fault.fault (ap (λ e. Err e) c.in-Err-Fault.field-0-is))
