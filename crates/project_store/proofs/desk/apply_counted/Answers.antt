use Rattle.project_store.proofs.Logs.{applies, grows}
use Rattle.project_store.proofs.Taking.{takes_sequents}
use Rattle.project_store.proofs.desk.apply_counted.Goals as goal

pub returns-clause-applied : goal.returns-clause-applied
returns-clause-applied g c =
    applies g.D.Disk.told g.D.Disk.bytes_of g.D.Disk.images g.D.Disk.faults c.args.store.now c.apply.new.self c.args.chair c.args.event c.apply.result
    c.facts.ensures.facts c.apply.ensures.step c.apply.ensures.noted c.apply.ensures.same c.apply.ensures.again c.apply.ensures.kept

pub returns-clause-log : goal.returns-clause-log
returns-clause-log g c = grows c.args.store.now c.apply.new.self c.args.chair c.args.event c.apply.result (returns-clause-applied g c)

pub returns-clause-taken : goal.returns-clause-taken
returns-clause-taken g c =
    takes_sequents c.args.store.now c.apply.new.self c.args.event c.apply.result c.builder.result.now c.core.result.now
    c.typed_tables.ensures c.texts-texts.ensures.distinct c.builder.ensures.builder c.core.ensures.core c.apply.ensures.step
