use Rattle.std.proofs.Common.{◌∙◌, sym, ap, ℕ, List, [], ◌∷◌, ◌++◌, map, append_assoc}
use Rattle.proof_entries.specs.declared.Entry.{Entry}
use Rattle.proof_entries.specs.declared.Entry.TheVariants.{Put}
use Rattle.durable_entries.proofs.Walking.{map_one_more}
use Rattle.durable_entries.proofs.listed.add_built.Goals as goal

pub loop-name-preserved : goal.loop-name-preserved
loop-name-preserved c =
    let done = c.loop-name.invariant.0 in
    let e : List ℕ × List ℕ = (c.in-Some.name.now, c.in-Some.text.now) in
    let put : List ℕ × List ℕ → Entry = λ p. Put p.0 p.1 in
    let all = ap (λ rest. done ++ rest) (sym c.in-Some.ensures.steps) ∙ c.loop-name.invariant.1 in (
      done ++ e ∷ [],
      append_assoc done (e ∷ []) c.next.new.self ∙ all,
      c.in_ok-push.ensures.items ∙ rw (c.loop-name.invariant.2, c.in_ok-copy.ensures, c.in_ok-copy-2.ensures) (append_assoc c.args.listed.now.items (map put done) (put e ∷ []))
          ∙ ap (λ l. c.args.listed.now.items ++ l) (sym (map_one_more put done e)),
    )
