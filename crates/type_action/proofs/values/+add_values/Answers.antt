use Rattle.std.proofs.Common.{ap, subst, map}
use Rattle.type_formula.specs.Views.{bare_of}
use Rattle.type_action.specs.Results.{HasNone, HasTwo}
use Rattle.type_action.specs.Private.{IsAdded, TellsFault}
use Rattle.type_action.specs.Typings.{IsTypedAssignment, AreTypedAssignments}
use Rattle.type_action.proofs.Told.{on_ok_map, if_err_map}
use Rattle.type_action.proofs.Typed.{values_added, values_fault, values_untyped, values_clash}
use Rattle.type_action.proofs.values.+add_values.Goals as goal

pub returns-in_ok-push-in-Ok-clause-typed : goal.returns-in_ok-push-in-Ok-clause-typed
returns-in_ok-push-in-Ok-clause-typed t c =
    let env = c.args.env.now in
    let tree = c.in-Some-split_first.tree.now in
    let rest = c.in-Some-split_first.rest.now in
    let target = c.in-Some.target.now in
    let others = c.in-Some.others.now in
    on_ok_map (IsAdded (AreTypedAssignments env others (map bare_of rest)) c.push.new.self.items c.add_values.new.pairs.items)
    (IsAdded (AreTypedAssignments env c.args.targets.now (map bare_of c.args.trees.now)) c.args.pairs.now.items c.add_values.new.pairs.items) c.add_values.result
    (values_added env target others c.args.targets.now (bare_of tree) (map bare_of rest) (map bare_of c.args.trees.now) c.in-Some.ensures.cases.0 (ap (map bare_of) c.in-Some-split_first.ensures.cases.0)
    c.in-Ok.pair c.args.pairs.now.items c.push.new.self.items c.add_values.new.pairs.items c.in-Ok.ensures.typed c.in_ok-push-in-Ok.ensures.items)
    c.add_values.ensures.typed

pub returns-in_ok-push-in-Ok-clause-fault : goal.returns-in_ok-push-in-Ok-clause-fault
returns-in_ok-push-in-Ok-clause-fault t c =
    let env = c.args.env.now in
    let tree = c.in-Some-split_first.tree.now in
    let rest = c.in-Some-split_first.rest.now in
    let target = c.in-Some.target.now in
    let others = c.in-Some.others.now in
    if_err_map (TellsFault (AreTypedAssignments env others (map bare_of rest))) (TellsFault (AreTypedAssignments env c.args.targets.now (map bare_of c.args.trees.now))) c.add_values.result
    (λ e. values_fault env target others c.args.targets.now (bare_of tree) (map bare_of rest) (map bare_of c.args.trees.now) c.in-Some.ensures.cases.0 (ap (map bare_of) c.in-Some-split_first.ensures.cases.0) c.in-Ok.pair e c.in-Ok.ensures.typed.holds) c.add_values.ensures.fault

pub returns-in-Ok-add_values-clause-fault : goal.returns-in-Ok-add_values-clause-fault
returns-in-Ok-add_values-clause-fault t c =
    let env = c.args.env.now in
    let tree = c.in-Some-split_first.tree.now in
    let rest = c.in-Some-split_first.rest.now in
    let target = c.in-Some.target.now in
    let others = c.in-Some.others.now in
    let two : HasTwo (IsTypedAssignment env target (bare_of tree)) = subst (TellsFault (IsTypedAssignment env target (bare_of tree))) c.in-Err-Untyped.field-0-is c.in-Err-Untyped.ensures.fault in
    values_untyped env target others c.args.targets.now (bare_of tree) (map bare_of rest) (map bare_of c.args.trees.now) c.in-Some.ensures.cases.0 (ap (map bare_of) c.in-Some-split_first.ensures.cases.0) c.args.pairs.now.items c.add_values-in-Err-Untyped.new.pairs.items two c.in-Ok-add_values.ensures.typed

pub returns-in-Err-clause-fault : goal.returns-in-Err-clause-fault
returns-in-Err-clause-fault t c =
    let env = c.args.env.now in
    let tree = c.in-Some-split_first.tree.now in
    let rest = c.in-Some-split_first.rest.now in
    let target = c.in-Some.target.now in
    let others = c.in-Some.others.now in
    let two : HasTwo (IsTypedAssignment env target (bare_of tree)) = subst (TellsFault (IsTypedAssignment env target (bare_of tree))) c.in-Err-Untyped.field-0-is c.in-Err-Untyped.ensures.fault in
    values_fault env target others c.args.targets.now (bare_of tree) (map bare_of rest) (map bare_of c.args.trees.now) c.in-Some.ensures.cases.0 (ap (map bare_of) c.in-Some-split_first.ensures.cases.0) two.one c.in-Err.fault two.first c.in-Err.ensures.fault

pub returns-in-Err-Clash-clause-fault : goal.returns-in-Err-Clash-clause-fault
returns-in-Err-Clash-clause-fault t c =
    let env = c.args.env.now in
    let tree = c.in-Some-split_first.tree.now in
    let rest = c.in-Some-split_first.rest.now in
    let target = c.in-Some.target.now in
    let others = c.in-Some.others.now in
    let none : HasNone (IsTypedAssignment env target (bare_of tree)) = subst (TellsFault (IsTypedAssignment env target (bare_of tree))) c.in-Err-Clash.field-0-is c.in-Err-Clash.ensures.fault in
    values_clash env target others c.args.targets.now (bare_of tree) (map bare_of rest) (map bare_of c.args.trees.now) c.in-Some.ensures.cases.0 (ap (map bare_of) c.in-Some-split_first.ensures.cases.0) none
