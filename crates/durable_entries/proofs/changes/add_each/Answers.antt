use Rattle.std.proofs.Common.{◌∙◌, sym, ap, ℕ, List, [], ◌∷◌, ◌++◌, map, append_assoc}
use Rattle.std.specs.List.{flat_map}
use Rattle.std.specs.FinMap.{get}
use Rattle.proof_entries.specs.declared.Entry.{Entry}
use Rattle.core_steps.specs.StateEntries.{entries_for_change}
use Rattle.durable_entries.proofs.Walking.{map_one_more, flat_one_more}
use Rattle.durable_entries.proofs.changes.add_each.Goals as goal

pub loop-name-preserved : goal.loop-name-preserved
loop-name-preserved c =
    let done = c.loop-name.invariant.0 in
    let e : List ℕ × List ℕ = (c.in-Some.name.now, c.in-Some.field-0-1.now) in
    let change : List ℕ → List Entry = λ name. entries_for_change (get c.args.built.now name) (get c.args.texts.now name) name in
    let names : List (List ℕ) = map (λ (p : List ℕ × List ℕ). p.0) done in
    let all = ap (λ rest. done ++ rest) (sym c.in-Some.ensures.steps) ∙ c.loop-name.invariant.1 in (
      done ++ e ∷ [],
      append_assoc done (e ∷ []) c.next.new.self ∙ all,
      c.in_ok-add_change.ensures ∙ rw (c.loop-name.invariant.2, c.text_in.ensures, c.get.ensures) (append_assoc c.args.listed.now.items (flat_map change names) (change e.0))
          ∙ ap (λ l. c.args.listed.now.items ++ l) (sym (ap (flat_map change) (map_one_more (λ (p : List ℕ × List ℕ). p.0) done e) ∙ flat_one_more change names e.0)),
    )
