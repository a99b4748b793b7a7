use Rattle.std.proofs.Common.{rules, ◌++◌, ◌∷◌, [], ◌∙◌, sym, ap}
use Rattle.std.proofs.lemmas.Iterator.Adapters.{YieldsList-from_vec}
use Rattle.std.proofs.lemmas.Iterator.Consumers.{YieldsList-end}
use Rattle.context_check.proofs.Copied.{map-id}
use Rattle.context_check.proofs.copies.env_of.Goals as goal

pub loop-entry-preserved : goal.loop-entry-preserved
loop-entry-preserved c = c.in_ok-add_entry.ensures ∙ ap (λ xs. xs ++ c.in-Some.entry ∷ []) c.loop-entry.invariant

pub returns : goal.returns
returns c =
    let road = YieldsList-from_vec {s = c.into_iter-entry-iterator.result} c.args.entries.items (search rules) (search rules) in
    let t = YieldsList-end road c.loop-entry.yielded c.loop-entry.entry-iterator c.loop-entry.yielded_by c.next.result c.next.new.self c.in-None.is c.next.ensures.steps in
    c.loop-entry.invariant ∙ sym (map-id c.loop-entry.yielded) ∙ t.0
