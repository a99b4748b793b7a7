use Rattle.type_formula.specs.Unknowns.{first_name_by_place}
use Rattle.type_action.specs.CoreActions.{core_action, unknowns_of}
use Rattle.type_action.specs.Laws.{IsActionIn}
use Rattle.type_action.specs.Results.{IsOnly}
use Rattle.type_action.specs.Typings.{IsActionOf, IsWellAction}
use Rattle.type_action.proofs.Standing.{actions_stand}
use Rattle.type_action.proofs.Told.{if_ok_map, told_typed, told_known, told_clash, told_untyped, told_unknown}
use Rattle.type_action.proofs.Typed.{action_is_well}
use Rattle.type_action.proofs.action.type_action.Goals as goal

pub returns-clause-typed : goal.returns-clause-typed
returns-clause-typed c =
    told_typed (first_name_by_place (unknowns_of c.args.env.now (core_action c.args.raw.now))) (IsActionOf c.args.env.now (core_action c.args.raw.now)) c.type_written.result c.type_written.ensures

pub returns-clause-well : goal.returns-clause-well
returns-clause-well c =
    if_ok_map (IsOnly (IsActionOf c.args.env.now (core_action c.args.raw.now))) (IsWellAction c.args.env.now) c.type_written.result
    (λ a h. action_is_well c.args.env.now (core_action c.args.raw.now) a h.holds)
    (told_typed (first_name_by_place (unknowns_of c.args.env.now (core_action c.args.raw.now))) (IsActionOf c.args.env.now (core_action c.args.raw.now)) c.type_written.result c.type_written.ensures)

pub returns-clause-clash : goal.returns-clause-clash
returns-clause-clash c h =
    (told_clash (first_name_by_place (unknowns_of c.args.env.now (core_action c.args.raw.now))) (IsActionOf c.args.env.now (core_action c.args.raw.now)) c.type_written.result c.type_written.ensures h).1

pub returns-clause-untyped : goal.returns-clause-untyped
returns-clause-untyped c h =
    (told_untyped (first_name_by_place (unknowns_of c.args.env.now (core_action c.args.raw.now))) (IsActionOf c.args.env.now (core_action c.args.raw.now)) c.type_written.result c.type_written.ensures h).1

pub returns-clause-unknown : goal.returns-clause-unknown
returns-clause-unknown c name place h =
    told_unknown (first_name_by_place (unknowns_of c.args.env.now (core_action c.args.raw.now))) (IsActionOf c.args.env.now (core_action c.args.raw.now)) c.type_written.result c.type_written.ensures name place h

pub returns-clause-known : goal.returns-clause-known
returns-clause-known c h =
    told_known (first_name_by_place (unknowns_of c.args.env.now (core_action c.args.raw.now))) (IsActionOf c.args.env.now (core_action c.args.raw.now)) c.type_written.result c.type_written.ensures h

pub returns-clause-known_clash : goal.returns-clause-known_clash
returns-clause-known_clash c h =
    (told_clash (first_name_by_place (unknowns_of c.args.env.now (core_action c.args.raw.now))) (IsActionOf c.args.env.now (core_action c.args.raw.now)) c.type_written.result c.type_written.ensures h).0

pub returns-clause-known_untyped : goal.returns-clause-known_untyped
returns-clause-known_untyped c h =
    (told_untyped (first_name_by_place (unknowns_of c.args.env.now (core_action c.args.raw.now))) (IsActionOf c.args.env.now (core_action c.args.raw.now)) c.type_written.result c.type_written.ensures h).0

pub returns-clause-standing : goal.returns-clause-standing
returns-clause-standing c has =
    if_ok_map (IsOnly (IsActionOf c.args.env.now (core_action c.args.raw.now))) (IsActionIn c.args.env.now) c.type_written.result
    (λ a h. actions_stand c.args.env.now c.args.raw.now a h has)
    (told_typed (first_name_by_place (unknowns_of c.args.env.now (core_action c.args.raw.now))) (IsActionOf c.args.env.now (core_action c.args.raw.now)) c.type_written.result c.type_written.ensures)
