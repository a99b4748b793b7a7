use Rattle.std.proofs.Common.{take}
use Rattle.build_core.specs.Private.{AreSet, AreSteady, IsToldCyclic}
use Rattle.build_core.proofs.checking.tell_cyclic.Given as goal

abbrev pub invariant-loop-name : goal.invariant-loop-name
invariant-loop-name l =
    record {
      set : AreSet IsToldCyclic l.sources.components.now (take l.name-index l.cyclic) l.initial.progress.outcomes l.progress.outcomes;
      steady : AreSteady l.before.outcomes.now l.progress.outcomes l.progress.kept.entries;
    }
