use Rattle.std.proofs.Common.{◌∙◌, ◌++◌, ap, sym, subst, map, length, bytes_eq}
use Rattle.std.specs.List.{IsDistinct}
use Rattle.check_rules.specs.Contexts.{names_of}
use Rattle.check_rules.specs.Typed.{in_order}
use Rattle.check_rules.specs.Visible.{entries, origins}
use Rattle.context_check.specs.Views.{placed}
use Rattle.context_check.specs.Private.{placed_names}
use Rattle.context_check.proofs.context.context_of.Goals as goal

pub checked_env-requires : goal.checked_env-requires
checked_env-requires c = subst (λ ps. IsDistinct bytes_eq (placed_names ps ++ names_of (c.args.sets.now ++ c.args.constants.now))) (sym c.deref-4.ensures.value) c.requires

pub returns : goal.returns
returns c =
    let declared = c.args.sets.now ++ c.args.constants.now in
    c.of_parts.ensures
    ∙ (λ i. record {
      name = c.in_ok-copied.ensures i;
      ancestors = (c.of.ensures ∙ c.in_ok-ancestors.ensures ∙ ap (map (λ n. n.now)) c.deref-3.ensures.value) i;
      env = (c.in_ok-entries.ensures ∙ ap (λ ps. entries (map placed ps) ++ in_order c.args.env.now (names_of declared)) c.deref-4.ensures.value) i;
      env_of = (c.in_ok-origins.ensures ∙ ap (λ ps. origins (map placed ps) ++ map (λ r. c.args.name.now) declared) c.deref-5.ensures.value) i;
      axioms = (c.in_ok-axioms.ensures ∙ ap (λ ps. map (λ x. x.0) (map placed ps) ++ c.args.own.items) c.deref-6.ensures.value) i;
      axioms_of = (c.in_ok-axioms_of.ensures ∙ (λ j. origins (map placed (c.deref.ensures.value j)) ++ map (λ l. c.args.name.now) (c.deref-2.ensures.value j))) i;
      own_from = (c.in_ok-from.ensures ∙ ap (λ ps. length (map placed ps)) c.deref-7.ensures.value) i;
    })
