use Rattle.std.proofs.Common.{◌∙◌, [], sym, ap, refl, length, map}
use Rattle.machine_check.specs.PrivateTyped.{witness_env_from}
use Rattle.machine_check.proofs.Events.{no_witnesses, witnesses_typed}
use Rattle.machine_check.proofs.Growing.{by_typing, cut_back, further}
use Rattle.machine_check.proofs.event.type_witnesses.Goals as goal

pub returns-then-is_empty : goal.returns-then-is_empty
returns-then-is_empty c = record {
  typed = no_witnesses c.args.component.now (witness_env_from (map (λ x. x.now) c.args.refined.now) c.args.event.now c.args.primed.now c.args.added.now) c.args.event.now.witnesses
      c.items.result.now c.new.result.items c.items.ensures (sym c.is_empty.ensures ∙ c.if-is_empty.true) c.new.ensures.items;
  kept = refl;
}

pub returns : goal.returns
returns c =
    let all = c.in_ok-all.all in
    record {
      typed = witnesses_typed c.args.component.now c.add_witness_names.new.env (witness_env_from (map (λ x. x.now) c.args.refined.now) c.args.event.now c.args.primed.now c.args.added.now)
          c.type_all.new.env c.items-2.result.now c.args.event.now.witnesses
          all.typed.items all.first c.in_ok-add_witness_names.ensures.names c.items-2.ensures c.in_ok-all.ensures;
      kept = c.cut.ensures
          ∙ cut_back c.args.primed.now c.type_all.new.env (length c.entries-len.result.now)
          (further c.args.primed.now c.add_witness_names.new.env c.type_all.new.env c.in_ok-add_witness_names.ensures.grown
          (by_typing c.args.component.now [] c.add_witness_names.new.env c.items-2.result.now all.typed.items all.first c.type_all.new.env c.in_ok-all.ensures))
          (ap length c.entries-len.ensures.entries);
    }
