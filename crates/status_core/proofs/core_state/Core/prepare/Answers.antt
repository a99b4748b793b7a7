use Rattle.status_core.proofs.core_state.Core.prepare.Goals as goal

pub returns-clause-does : goal.returns-clause-does
returns-clause-does g c = c.in_ok-prepared.ensures.prepared.comes

pub returns-clause-ready : goal.returns-clause-ready
returns-clause-ready g c = c.in_ok-prepared.ensures.prepared.ready
