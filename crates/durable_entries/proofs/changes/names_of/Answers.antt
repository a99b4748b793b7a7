use Rattle.std.proofs.Common.{◌∙◌, sym, ap, ℕ, List, [], ◌∷◌, ◌++◌, take, append_assoc}
use Rattle.std.specs.FinMap.{insert, empty, entries}
use Rattle.core_steps.specs.Durable.{ProjectMap}
use Rattle.core_steps.specs.StateEntries.{with_names_of}
use Rattle.durable_entries.proofs.Walking.{with_one_more, take_one_more}
use Rattle.durable_entries.proofs.changes.names_of.Goals as goal

pub loop-name-preserved : goal.loop-name-preserved
loop-name-preserved c =
    let done = c.loop-name.invariant.0 in
    let e : List ℕ × List ℕ = (c.in-Some.name.now, c.in-Some.field-0-1.now) in
    let all = ap (λ rest. done ++ rest) (sym c.in-Some.ensures.steps) ∙ c.loop-name.invariant.1 in (
      done ++ e ∷ [],
      append_assoc done (e ∷ []) c.next.new.self ∙ all,
      c.in_ok-put_name.ensures ∙ ap (λ (m : ProjectMap). insert m e.0 []) c.loop-name.invariant.2 ∙ sym (with_one_more empty done e),
    )

pub loop-name-2-preserved : goal.loop-name-2-preserved
loop-name-2-preserved c =
    let es = c.entries-name-items.result.now in
    let i = c.loop-name-2.name-index in
    let e = c.loop-name-2-item.result in
    let base : ProjectMap = with_names_of empty (entries c.args.built.now) in
    c.in_ok-put_name-2.ensures ∙ ap (λ (m : ProjectMap). insert m e.0 []) c.loop-name-2.invariant ∙ sym (with_one_more base (take i es) e)
    ∙ ap (with_names_of base) (sym (take_one_more es i e c.loop-name-2-test.true c.loop-name-2-item.is))
