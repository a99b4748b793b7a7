-- Components, as they are written and checked, may be handed to other threads and shared with them.
use mathlib.Core.List.{[], ◌∷◌}
use denote.RattleType.{RattleType}
use denote.Hole.{as_row}
use denote.Builtin.{usize}
use denote.Struct.Field.{bool-field}
use denote.Struct.Tuple.{Tuple}
use denote.Param.Send.{sendable, view_send, view_sync}
use Rattle.std.proofs.MapsCrossing.{BTreeMap-send, BTreeMap-sync}
use Rattle.std.specs.contracts.alloc.Global as Global
use Rattle.std.specs.contracts.impls.GlobalAllocator.TheImpl.{ghosts}
use Rattle.std.specs.contracts.collections.BTreeMap as BTreeMap
use Rattle.formula_core.specs.contracts.order.NameOrd.TheImpl as NameOrd
use Rattle.formula_core.specs.contracts.order.NamePartialEq.TheImpl as NamePartialEq
use Rattle.formula_core.specs.contracts.order.NamePartialOrd.TheImpl as NamePartialOrd
use Rattle.formula_core.specs.contracts.env.Env.TheInside as EnvInside
use Rattle.formula_core.specs.contracts.env.Env as Env
use Rattle.formula_core.specs.contracts.env.EnvNames as EnvNames
use Rattle.formula_core.specs.contracts.env.NameTable.TheInside as NameTableInside
use Rattle.formula_core.specs.contracts.env.NameTable as NameTable
use Rattle.formula_core.specs.contracts.name.Name as Name
use Rattle.formula_core.specs.contracts.ty.Ty as Ty
use Rattle.formula_core.specs.contracts.text.Label as Label
use Rattle.formula_core.specs.contracts.raw.Ref as Ref
use Rattle.formula_core.specs.contracts.raw.Action as Action
use Rattle.formula_core.specs.contracts.formula.Formula as Formula
use Rattle.formula_core.specs.contracts.list.List as List
use Rattle.formula_core.proofs.text.Label.TheSendSync as labels
use Rattle.model_core.specs.contracts.component.Convergence as Convergence
use Rattle.model_core.specs.contracts.component.RawLabelled as RawLabelled
use Rattle.model_core.specs.contracts.component.RawVariant as RawVariant
use Rattle.model_core.specs.contracts.component.RawStep as RawStep
use Rattle.model_core.specs.contracts.component.RawEvent as RawEvent
use Rattle.model_core.specs.contracts.component.RawComponent as RawComponent
use Rattle.model_core.specs.contracts.checked.Labelled as Labelled
use Rattle.model_core.specs.contracts.shared.Shared.TheInside as SharedInside
use Rattle.model_core.specs.contracts.shared.Shared as Shared
use Rattle.model_core.specs.contracts.checked.CheckedContext as CheckedContext
use Rattle.model_core.specs.contracts.checked.CheckedEvent as CheckedEvent
use Rattle.model_core.specs.contracts.checked.CheckedMachine as CheckedMachine
use Rattle.model_core.specs.contracts.checked.Checked as Checked
use Rattle.model_core.proofs.component.Convergence.TheSendSync as convergences
use Rattle.project_session.proofs.CrossingParts.{Crosses, struct_crosses, enum_crosses, option_crosses, pair_crosses, vec_crosses, arc_crosses}
use Rattle.project_session.proofs.CrossingFormulas.{list_crosses, index, name, ty, formula, typed_names, ref, raw, raw_action, action}

truth : Crosses (as_row bool-field)
truth = (search sendable, search sendable)

pub map_crosses : (R : RattleType) → Crosses R → Crosses (BTreeMap.the_row Name.the_row R Global.the_row NameOrd.ghosts NamePartialEq.ghosts NamePartialOrd.ghosts ghosts)
map_crosses R s = (
  BTreeMap-send Name.the_row R NameOrd.ghosts NamePartialEq.ghosts NamePartialOrd.ghosts name.0 s.0,
  BTreeMap-sync Name.the_row R NameOrd.ghosts NamePartialEq.ghosts NamePartialOrd.ghosts name.1 s.1,
)

pub size : Crosses usize
size = (search sendable, search sendable)

table_parts : Crosses NameTableInside.the_row
table_parts = struct_crosses NameTableInside.the_type (
  vec_crosses (Tuple (Name.the_row ∷ Ty.the_row ∷ [])) (pair_crosses Name.the_row Ty.the_row name ty),
  (map_crosses usize size, (truth, tt)),
)

table : Crosses NameTable.the_row
table = (view_send _ _ _ _ _ table_parts.0, view_sync _ _ _ _ _ table_parts.1)

held : Crosses EnvNames.the_row
held = enum_crosses EnvNames.enum ((table, tt), ((arc_crosses NameTable.the_row table, (size, tt)), tt))

env_parts : Crosses EnvInside.the_row
env_parts = struct_crosses EnvInside.the_type (held, tt)

pub env : Crosses Env.the_row
env = (view_send _ _ _ _ _ env_parts.0, view_sync _ _ _ _ _ env_parts.1)

pub label : Crosses Label.the_row
label = (labels.the_send, labels.the_sync)

pub names : Crosses (List.the_row Name.the_row)
names = list_crosses Name.the_row name

raw_labelled : Crosses RawLabelled.the_row
raw_labelled = struct_crosses RawLabelled.the_type (label, (truth, (raw, (index, (index, tt)))))

raw_labelled_list : Crosses (List.the_row RawLabelled.the_row)
raw_labelled_list = list_crosses RawLabelled.the_row raw_labelled

raw_variant : Crosses RawVariant.the_row
raw_variant = struct_crosses RawVariant.the_type (raw, (index, tt))

raw_step : Crosses RawStep.the_row
raw_step = struct_crosses RawStep.the_type (label, (raw_action, (index, tt)))

convergence : Crosses Convergence.the_row
convergence = (convergences.the_send, convergences.the_sync)

refs : Crosses (List.the_row Ref.the_row)
refs = list_crosses Ref.the_row ref

raw_event : Crosses RawEvent.the_row
raw_event = struct_crosses RawEvent.the_type (
  ref,
  (convergence, (truth, (refs, (refs, (raw_labelled_list, (raw_labelled_list, (list_crosses RawStep.the_row raw_step, tt))))))),
)

pub raw_component : Crosses RawComponent.the_row
raw_component = enum_crosses RawComponent.enum (
  (ref, (refs, (refs, (refs, (raw_labelled_list, tt))))),
  (
    (
      ref,
      (
        option_crosses Ref.the_row ref,
        (refs, (refs, (raw_labelled_list, (option_crosses RawVariant.the_row raw_variant, (list_crosses RawEvent.the_row raw_event, tt))))),
      ),
    ),
    tt,
  ),
)

shared_parts : (R : RattleType) → Crosses R → Crosses (SharedInside.the_row R)
shared_parts R s = struct_crosses (SharedInside.the_type R) (arc_crosses R s, tt)

shared : (R : RattleType) → Crosses R → Crosses (Shared.the_row R)
shared R s = (view_send _ _ _ _ _ (shared_parts R s).0, view_sync _ _ _ _ _ (shared_parts R s).1)

shared_names : Crosses (List.the_row (Shared.the_row Name.the_row))
shared_names = list_crosses (Shared.the_row Name.the_row) (shared Name.the_row name)

labelled : Crosses Labelled.the_row
labelled = struct_crosses Labelled.the_type (shared Label.the_row label, (truth, (shared Formula.the_row formula, tt)))

labelled_list : Crosses (List.the_row Labelled.the_row)
labelled_list = list_crosses Labelled.the_row labelled

checked_context : Crosses CheckedContext.the_row
checked_context = struct_crosses CheckedContext.the_type (name, (names, (env, (shared_names, (labelled_list, (shared_names, (index, tt)))))))

checked_event : Crosses CheckedEvent.the_row
checked_event = struct_crosses CheckedEvent.the_type (
  name,
  (
    convergence,
    (
      names,
      (
        typed_names,
        (
          labelled_list,
          (
            index,
            (
              list_crosses (Tuple (Name.the_row ∷ Formula.the_row ∷ [])) (pair_crosses Name.the_row Formula.the_row name formula),
              (list_crosses (Tuple (Label.the_row ∷ Action.the_row ∷ [])) (pair_crosses Label.the_row Action.the_row label action), (index, tt)),
            ),
          ),
        ),
      ),
    ),
  ),
)

checked_machine : Crosses CheckedMachine.the_row
checked_machine = struct_crosses CheckedMachine.the_type (
  name,
  (
    option_crosses Name.the_row name,
    (
      env,
      (
        shared_names,
        (
          index,
          (
            labelled_list,
            (
              shared_names,
              (
                labelled_list,
                (index, (names, (names, (option_crosses Formula.the_row formula, (list_crosses CheckedEvent.the_row checked_event, (names, tt)))))),
              ),
            ),
          ),
        ),
      ),
    ),
  ),
)

pub checked : Crosses Checked.the_row
checked = enum_crosses Checked.enum ((checked_context, tt), ((checked_machine, tt), tt))
