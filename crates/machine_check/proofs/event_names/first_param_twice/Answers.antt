use Rattle.std.proofs.Common.{◌≡◌, ◌∙◌, sym, ap, subst, IfOk, ◌||◌, ◌++◌, map, bytes_eq}
use Rattle.std.specs.List.{list_any}
use Rattle.model_core.specs.declared.fault.FaultKind.TheVariants as kind
use Rattle.model_core.specs.Faults.{first_by_place}
use Rattle.model_core.proofs.Lists.{any_map}
use Rattle.context_check.specs.Texts.{mark_of, ref_mark, repeated}
use Rattle.model_core.specs.Borrowed.{has}
use Rattle.context_check.proofs.Repeated.{has_none}
use Rattle.machine_check.proofs.event_names.first_param_twice.Goals as goal

pub returns : goal.returns
returns c =
    subst (λ fs. IfOk c.first_repeated.result (λ here. here ≡ first_by_place fs))
    (λ i. repeated kind.DeclaredTwice c.args.component.now
    (λ x. has c.args.known.now x || (c.in_ok-add_names_of.ensures x
    ∙ ap (λ b. b || list_any (λ p. bytes_eq x p.0) c.args.inherited.now) (has_none c.new-seen.result c.new-seen.ensures.empty x)
    ∙ sym (any_map (bytes_eq x) (λ e. e.0) c.args.inherited.now)) i)
    ((ap (map mark_of) c.deref.ensures.value ∙ c.in_ok-add_refs.ensures ∙ ap (λ xs. map mark_of xs ++ map ref_mark c.args.params.now) c.new-marks.ensures.items) i))
    c.first_repeated.ensures
