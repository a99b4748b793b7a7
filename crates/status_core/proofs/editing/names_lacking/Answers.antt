use Rattle.std.proofs.Common.{◌∙◌, List, ℕ, Bool, not, sym, ap, length, arith}
use Rattle.std.specs.FinMap.{len-entries}
use Rattle.core_steps.specs.Table.{is_obligation}
use Rattle.status_core.proofs.Lacking.{place_named, none_is, key_passes, key_fails}
use Rattle.status_core.proofs.editing.names_lacking.Goals as goal
use Rattle.status_core.proofs.editing.names_lacking.Goals.{then-is_none+in_ok-copy+in_ok-push, else-is_none}

pub loop-name-preserved : goal.loop-name-preserved
loop-name-preserved c = record {
  names = λ table of.
      let test : List ℕ → Bool = λ n. not (is_obligation table n) in
      let es = c.entries-name-items.result.now in
      let at = c.loop-name.name-index in
      let e = c.loop-name-item.result in
      let was = c.loop-name.invariant.names table of in
      let is = place_named table e.0 c.place.result (c.place.ensures.exact table of) ∙ none_is c.place.result c.is_none.result (sym c.is_none.ensures) in
      elim c.if-is_none.branch [
        | then-is_none+in_ok-copy+in_ok-push w ↦
            rw (w.names-is, w.in_ok-push.ensures.items, w.in_ok-copy.ensures)
            (key_passes test es at e c.loop-name-test.true c.loop-name-item.is c.loop-name.names.items was (is ∙ w.if-is_none.true))
        | else-is_none w ↦ rw w.names-is (key_fails test es at e c.loop-name-test.true c.loop-name-item.is c.loop-name.names.items was (is ∙ w.if-is_none.false))
      ];
  few =
      let before = c.loop-name.invariant.few in
      elim c.if-is_none.branch [
        | then-is_none+in_ok-copy+in_ok-push w ↦ rw w.names-is (omega (arith, before, w.in_ok-push.ensures.len))
        | else-is_none w ↦ rw w.names-is (omega (arith, before))
      ];
}

pub returns-clause-few : goal.returns-clause-few
returns-clause-few c =
    omega (arith, c.loop-name.invariant.few, c.loop-name.auto.name-index-end, ap length c.entries-name-items.ensures, len-entries c.args.proofs.now)
