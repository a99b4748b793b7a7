use Rattle.std.proofs.Common.{rules, ◌++◌, ◌∷◌, [], ◌∙◌, sym, ap}
use Rattle.std.proofs.lemmas.Iterator.Adapters.{YieldsList-from_vec}
use Rattle.std.proofs.lemmas.Iterator.Consumers.{YieldsList-end}
use Rattle.check_rules.specs.Events.{witnesses_of}
use Rattle.context_check.proofs.Copied.{map-id}
use Rattle.machine_check.proofs.Events.{witnesses_push}
use Rattle.machine_check.proofs.parts.witnesses_of.Goals as goal

pub loop-witness-preserved : goal.loop-witness-preserved
loop-witness-preserved c =
    c.in_ok-add_witness.ensures ∙ ap (λ xs. xs ++ witnesses_of (c.in-Some.witness ∷ [])) c.loop-witness.invariant ∙ sym (witnesses_push c.loop-witness.yielded c.in-Some.witness)

pub returns : goal.returns
returns c =
    let road = YieldsList-from_vec {s = c.into_iter-witness-iterator.result} c.args.witnesses.items (search rules) (search rules) in
    let t = YieldsList-end road c.loop-witness.yielded c.loop-witness.witness-iterator c.loop-witness.yielded_by c.next.result c.next.new.self c.in-None.is c.next.ensures.steps in
    c.of.ensures ∙ c.loop-witness.invariant ∙ ap witnesses_of (sym (map-id c.loop-witness.yielded) ∙ t.0)
