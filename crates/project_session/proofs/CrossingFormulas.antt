-- Formulas, and what they are made of, may be handed to other threads and shared with them.
use mathlib.Core.List.{[], ◌∷◌}
use denote.RattleType.{RattleType}
use denote.Hole.{as_row}
use denote.Struct.Field.{i128-field, u32-field}
use denote.Struct.Tuple.{Tuple}
use denote.Enum.Declared as E
use denote.Param.Send.{IsSend, IsSync, enum_send, enum_sync, recorded_send, recorded_sync, sendable}
use Rattle.std.specs.contracts.option.Option as options
use Rattle.formula_core.specs.contracts.name.Name as Name
use Rattle.formula_core.specs.contracts.op.Op as Op
use Rattle.formula_core.specs.contracts.op.Binder as Binder
use Rattle.formula_core.specs.contracts.raw.RawOp as RawOp
use Rattle.formula_core.specs.contracts.raw.RawBinder as RawBinder
use Rattle.formula_core.specs.contracts.raw.Ref as Ref
use Rattle.formula_core.specs.contracts.raw.Raw as Raw
use Rattle.formula_core.specs.contracts.raw.RawBound as RawBound
use Rattle.formula_core.specs.contracts.raw.RawAction as RawAction
use Rattle.formula_core.specs.contracts.raw.Action as Action
use Rattle.formula_core.specs.contracts.ty.Ty as Ty
use Rattle.formula_core.specs.contracts.formula.Formula as Formula
use Rattle.formula_core.specs.contracts.list.List as List
use Rattle.formula_core.specs.contracts.boxed.Boxed as Boxed
use Rattle.formula_core.proofs.name.Name.TheSendSync as names
use Rattle.formula_core.proofs.op.Op.TheSendSync as ops
use Rattle.formula_core.proofs.op.Binder.TheSendSync as binders
use Rattle.formula_core.proofs.raw.RawOp.TheSendSync as raw_ops
use Rattle.formula_core.proofs.raw.RawBinder.TheSendSync as raw_binders
use Rattle.formula_core.proofs.raw.Ref.TheSendSync as refs
use Rattle.formula_core.proofs.list.List.TheSendSync as lists
use Rattle.formula_core.proofs.boxed.Boxed.TheSendSync as boxes
use Rattle.formula_core.proofs.ty.Ty.TheLaws.TheKnot as types
use Rattle.formula_core.proofs.formula.Formula.TheLaws.TheKnot as formulas
use Rattle.formula_core.proofs.raw.Raw.TheLaws.TheKnot as raws
use Rattle.project_session.proofs.CrossingParts.{Crosses, enum_crosses, option_send, option_sync, pair_crosses}

pub list_crosses : (R : RattleType) → Crosses R → Crosses (List.the_row R)
list_crosses R s = (lists.the_send R s.0, lists.the_sync R s.1)

boxed_crosses : (R : RattleType) → Crosses R → Crosses (Boxed.the_row R)
boxed_crosses R s = (boxes.the_send R s.0, boxes.the_sync R s.1)

number : Crosses (as_row i128-field)
number = (search sendable, search sendable)

pub index : Crosses (as_row u32-field)
index = (search sendable, search sendable)

pub name : Crosses Name.the_row
name = (names.the_send, names.the_sync)

operator : Crosses Op.the_row
operator = (ops.the_send, ops.the_sync)

binder : Crosses Binder.the_row
binder = (binders.the_send, binders.the_sync)

inner_ty : Crosses Ty.the_hole
inner_ty = (types.hole_send-Ty names.the_send boxes.the_send, types.hole_sync-Ty names.the_sync boxes.the_sync)

boxed_ty : Crosses (Boxed.the_row Ty.the_hole)
boxed_ty = boxed_crosses Ty.the_hole inner_ty

-- before a value is read as one of the declared type, as a type that contains itself asks of its parts
bare_ty : Crosses (Ty.the_field).row
bare_ty = (
  enum_send (E.shape Ty.the_type) (tt, (tt, ((name.0, tt), ((boxed_ty.0, tt), ((boxed_ty.0, (boxed_ty.0, tt)), (tt, tt)))))),
  enum_sync (E.shape Ty.the_type) (tt, (tt, ((name.1, tt), ((boxed_ty.1, tt), ((boxed_ty.1, (boxed_ty.1, tt)), (tt, tt)))))),
)

pub ty : Crosses Ty.the_row
ty = (recorded_send _ _ _ (Ty.the_type).to_one bare_ty.0, recorded_sync _ _ _ (Ty.the_type).to_one bare_ty.1)

types_cross : Crosses (List.the_row Ty.the_row)
types_cross = list_crosses Ty.the_row ty

inner_formula : Crosses Formula.the_hole
inner_formula = (
  formulas.hole_send-Formula (search sendable) names.the_send bare_ty.0 (search sendable) ops.the_field_send lists.the_send binders.the_field_send types_cross.0,
  formulas.hole_sync-Formula (search sendable) names.the_sync bare_ty.1 (search sendable) ops.the_field_sync lists.the_sync binders.the_field_sync types_cross.1,
)

inner_formulas : Crosses (List.the_row Formula.the_hole)
inner_formulas = list_crosses Formula.the_hole inner_formula

pub formula : Crosses Formula.the_row
formula = enum_crosses Formula.enum (
  (number, tt),
  (
    (name, (ty, tt)),
    ((index, (ty, tt)), ((operator, (inner_formulas, (ty, tt))), ((binder, (types_cross, (inner_formulas, (ty, tt)))), tt))),
  ),
)

pub formula_list : Crosses (List.the_row Formula.the_row)
formula_list = list_crosses Formula.the_row formula

pub typed_names : Crosses (List.the_row (Tuple (Name.the_row ∷ Ty.the_row ∷ [])))
typed_names = list_crosses (Tuple (Name.the_row ∷ Ty.the_row ∷ [])) (pair_crosses Name.the_row Ty.the_row name ty)

raw_operator : Crosses RawOp.the_row
raw_operator = (raw_ops.the_send, raw_ops.the_sync)

raw_binder : Crosses RawBinder.the_row
raw_binder = (raw_binders.the_send, raw_binders.the_sync)

pub ref : Crosses Ref.the_row
ref = (refs.the_send, refs.the_sync)

boxed_option_send : (R : RattleType) → IsSend R → IsSend (options.the_row (Boxed.the_row R))
boxed_option_send R s = option_send (Boxed.the_row R) (boxes.the_send R s)

boxed_option_sync : (R : RattleType) → IsSync R → IsSync (options.the_row (Boxed.the_row R))
boxed_option_sync R s = option_sync (Boxed.the_row R) (boxes.the_sync R s)

inner_raw : Crosses Raw.the_hole
inner_raw = (
  raws.hole_send-Raw (search sendable) (search sendable) names.the_send raw_ops.the_field_send lists.the_send raw_binders.the_field_send boxed_option_send,
  raws.hole_sync-Raw (search sendable) (search sendable) names.the_sync raw_ops.the_field_sync lists.the_sync raw_binders.the_field_sync boxed_option_sync,
)

inner_bound : Crosses RawBound.the_hole
inner_bound = (
  raws.hole_send-RawBound (search sendable) (search sendable) names.the_send raw_ops.the_field_send lists.the_send raw_binders.the_field_send boxed_option_send,
  raws.hole_sync-RawBound (search sendable) (search sendable) names.the_sync raw_ops.the_field_sync lists.the_sync raw_binders.the_field_sync boxed_option_sync,
)

inner_raws : Crosses (List.the_row Raw.the_hole)
inner_raws = list_crosses Raw.the_hole inner_raw

pub raw : Crosses Raw.the_row
raw = enum_crosses Raw.enum (
  (number, (index, tt)),
  (
    (name, (index, tt)),
    ((raw_operator, (inner_raws, (index, tt))), ((raw_binder, (list_crosses RawBound.the_hole inner_bound, (inner_raws, (index, tt)))), tt)),
  ),
)

refs_cross : Crosses (List.the_row Ref.the_row)
refs_cross = list_crosses Ref.the_row ref

pub raw_action : Crosses RawAction.the_row
raw_action = enum_crosses RawAction.enum (
  (refs_cross, (list_crosses Raw.the_row raw, tt)),
  ((ref, (raw, (raw, tt))), ((ref, (raw, tt)), ((refs_cross, (raw, tt)), tt))),
)

pub action : Crosses Action.the_row
action = enum_crosses Action.enum (
  (list_crosses (Tuple (Name.the_row ∷ Formula.the_row ∷ [])) (pair_crosses Name.the_row Formula.the_row name formula), tt),
  ((name, (formula, tt)), ((typed_names, (formula, tt)), tt)),
)
