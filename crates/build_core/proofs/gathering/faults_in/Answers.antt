use Rattle.std.proofs.Common.{ℕ, List, sym, ◌∙◌, ap, [], ◌∷◌, ◌++◌, append_assoc}
use Rattle.build_core.specs.Tables.{faults_in}
use Rattle.build_core.proofs.Gathers.{given_more}
use Rattle.build_core.proofs.Texts.{entry_short}
use Rattle.build_core.proofs.gathering.faults_in.Goals as goal

pub add_fault-requires : goal.add_fault-requires
add_fault-requires c =
    let done = c.loop-name.invariant.0 in
    let e : List ℕ × List ℕ = (c.in-Some.name.now, c.in-Some.text.now) in
    entry_short done c.next.new.self c.args.texts.now.entries e c.requires (ap (λ rest. done ++ rest) (sym c.in-Some.ensures.steps) ∙ c.loop-name.invariant.1)

pub loop-name-preserved : goal.loop-name-preserved
loop-name-preserved c =
    let done = c.loop-name.invariant.0 in
    let e : List ℕ × List ℕ = (c.in-Some.name.now, c.in-Some.text.now) in (
      done ++ e ∷ [],
      append_assoc done (e ∷ []) c.next.new.self ∙ ap (λ rest. done ++ rest) (sym c.in-Some.ensures.steps) ∙ c.loop-name.invariant.1,
      given_more faults_in c.args.outcomes.now done e _ c.loop-name.faults.items c.add_fault.new.faults.items c.get.ensures c.loop-name.invariant.2 c.in_ok-add_fault.ensures,
    )
