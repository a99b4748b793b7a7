use Rattle.std.proofs.Common.{take}
use Rattle.build_core.specs.Private.{AreSet, AreSteady, ConcludesIn}
use Rattle.build_core.proofs.Moving.{FewSteps}
use Rattle.build_core.proofs.checking.conclude_sorted.Given as goal

abbrev pub invariant-loop-name : goal.invariant-loop-name
invariant-loop-name g l =
    record {
      set : AreSet ConcludesIn l.sources.components.now (take l.name-index l.sorted) l.initial.progress.outcomes l.progress.outcomes;
      steady : AreSteady l.before.outcomes.now l.progress.outcomes l.progress.kept.entries;
      few : FewSteps l.before.texts.now.entries l.sources.texts.now.entries (take l.name-index l.sorted) l.initial.steps l.steps;
    }
