use Rattle.std.proofs.Common.{◌∙◌, ◌++◌, sym, ap, subst, refl, map, Some, None, Ok, Err, bytes_eq}
use Rattle.std.specs.List.{IsDistinct}
use Rattle.model_core.specs.declared.checked.Checked.TheVariants.{Context}
use Rattle.check_rules.specs.Contexts.{carrier_set, names_of}
use Rattle.check_rules.specs.Visible.{entries, names}
use Rattle.context_check.specs.Views.{placed, visible}
use Rattle.context_check.specs.Private.{placed_names}
use Rattle.context_check.proofs.Contexts.{concluded}
use Rattle.context_check.proofs.Distinct.{sets_distinct}
use Rattle.context_check.proofs.context.check_axioms.Goals as goal

pub context_env-requires : goal.context_env-requires
context_env-requires c =
    subst (λ ps. IsDistinct bytes_eq (placed_names ps ++ names_of c.args.sets.now)) (sym c.deref.ensures.value)
    (sets_distinct (names (entries (visible c.args.view.now).constants)) c.args.sets.now c.args.constants.now c.requires)

pub returns-in-Some : goal.returns-in-Some
returns-in-Some c =
    concluded c.args.name.now c.args.sets.now c.args.constants.now c.args.axioms.now (visible c.args.view.now) c.in_ok-env.env c.type_all.new.env c.deref-2.result.now
    c.in_ok-all.all.typed.items c.in_ok-all.all.first c.in_ok-untyped.untyped (Some c.in-Some.fault) (Err c.in-Some.fault)
    (c.in_ok-env.ensures ∙ ap (λ ps. entries (map placed ps) ++ map carrier_set c.args.sets.now) c.deref.ensures.value)
    (c.deref-2.ensures.value ∙ c.in_ok-wanted.ensures) c.in_ok-all.ensures c.in_ok-untyped.ensures (sym c.in-Some.is ∙ c.earlier.ensures) refl

pub returns : goal.returns
returns c =
    concluded c.args.name.now c.args.sets.now c.args.constants.now c.args.axioms.now (visible c.args.view.now) c.in_ok-env.env c.type_all.new.env c.deref-2.result.now
    c.in_ok-all.all.typed.items c.in_ok-all.all.first c.in_ok-untyped.untyped None (Ok (Context c.in_ok-context-in-None.context))
    (c.in_ok-env.ensures ∙ ap (λ ps. entries (map placed ps) ++ map carrier_set c.args.sets.now) c.deref.ensures.value)
    (c.deref-2.ensures.value ∙ c.in_ok-wanted.ensures) c.in_ok-all.ensures c.in_ok-untyped.ensures (sym c.in-None.is ∙ c.earlier.ensures) (ap (λ x. Ok (Context x)) c.in_ok-context-in-None.ensures)
