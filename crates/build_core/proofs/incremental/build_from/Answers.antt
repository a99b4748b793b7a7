use Rattle.std.proofs.Common.{sym, subst, map}
use Rattle.std.specs.Arc.{arc_value}
use Rattle.build_core.specs.Tables.{faults_in, warnings_in}
use Rattle.build_core.specs.Private.{IndexesTable}
use Rattle.build_core.specs.PrivateBuilders.{IsBuilt}
use Rattle.build_core.proofs.Whole.{whole_given}
use Rattle.build_core.proofs.incremental.build_from.Goals as goal

pub invariant_of-result : goal.invariant_of-result
invariant_of-result g c =
    let project = c.args.texts.now.entries in
    let judged = c.in_ok-judged.ensures.judged in
    let components = c.in_ok-judged.judged.components in
    let index = c.in_ok-judged.judged.index.entries in
    let outcomes = c.in_ok-judged.judged.progress.outcomes in
    let owns = c.in_ok-owns.field-0.owns.entries in
    let table = map arc_value c.in_ok-owns.field-0.obligations.items in
    let places = (arc_value c.in_ok-places.places).entries in
    let faults = c.in_ok-faults.faults.items in
    let warnings = c.in_ok-warnings.warnings.items in
    let built : IsBuilt project components index outcomes owns table places faults warnings = record {
      listed = record { once = judged.judged.once; read = judged.read; indexed = c.in_ok-judged.ensures.index };
      judged = judged.judged;
      owns = c.in_ok-owns.ensures.owns;
      table = c.in_ok-owns.ensures.table;
      placed = subst (λ os. IndexesTable (map arc_value os) places) c.deref.ensures.value c.in_ok-places.ensures;
      fits = c.in_ok-owns.ensures.fits;
      faults = whole_given project components outcomes judged faults_in faults c.in_ok-faults.ensures;
      warnings = whole_given project components outcomes judged warnings_in warnings c.in_ok-warnings.ensures;
    } in
    subst (λ p. IsBuilt p components index outcomes owns table places faults warnings) (sym c.in_ok-texts.ensures) built
