use Rattle.std.proofs.Common.{ℕ, List, sym, ◌∙◌, ap, [], ◌∷◌, ◌++◌, append_assoc}
use Rattle.build_core.proofs.Found.{distinct_keys}
use Rattle.build_core.proofs.Texts.{one_read, entry_short}
use Rattle.build_core.proofs.reading.read_all.Goals as goal

pub add_text-requires-clause-short : goal.add_text-requires-clause-short
add_text-requires-clause-short c =
    let done = c.loop-name.invariant.0 in
    let e : List ℕ × List ℕ = (c.in-Some.name.now, c.in-Some.text.now) in
    entry_short done c.next.new.self c.args.texts.now.entries e c.requires.short (ap (λ rest. done ++ rest) (sym c.in-Some.ensures.steps) ∙ c.loop-name.invariant.1)

pub loop-name-preserved : goal.loop-name-preserved
loop-name-preserved c =
    let done = c.loop-name.invariant.0 in
    let e : List ℕ × List ℕ = (c.in-Some.name.now, c.in-Some.text.now) in
    let all = ap (λ rest. done ++ rest) (sym c.in-Some.ensures.steps) ∙ c.loop-name.invariant.1 in (
      done ++ e ∷ [],
      append_assoc done (e ∷ []) c.next.new.self ∙ all,
      one_read done c.in-Some.name.now c.in-Some.text.now c.loop-name.readings.components c.loop-name.readings.outcomes c.in_ok-add_text.ensures.0
          c.add_text.new.readings.components c.add_text.new.readings.outcomes c.loop-name.invariant.2 c.in_ok-add_text.ensures.1 c.in_ok-add_text.ensures.2,
    )

pub returns-clause-names : goal.returns-clause-names
returns-clause-names c = distinct_keys c.args.texts.now.entries c.into_iter-name-iterator.ensures.into_iter_gives.5
