-- Builders, what lasts of a project, and events may be handed to other threads.
use mathlib.Core.List.{[], ◌∷◌}
use denote.Hole.{as_row}
use denote.Builtin.{usize, u64}
use denote.Struct.Field.{u8-field, u64-field}
use denote.Struct.Tuple.{Tuple}
use denote.Param.Send.{IsSend, view_send, view_sync, sendable}
use denote.Param.SendFields.{declared_send, variants_send}
use Rattle.std.proofs.Crossing.{Vec-send}
use Rattle.std.proofs.MapsCrossing.{BTreeMap-send, BTreeMap-sync}
use Rattle.std.specs.contracts.alloc.Global as Global
use Rattle.std.specs.contracts.impls.GlobalAllocator.TheImpl.{ghosts}
use Rattle.std.specs.contracts.collections.BTreeMap as BTreeMap
use Rattle.std.specs.contracts.sync.Arc as Arc
use Rattle.std.specs.contracts.vec.Vec as Vec
use Rattle.formula_core.specs.contracts.order.NameOrd.TheImpl as NameOrd
use Rattle.formula_core.specs.contracts.order.NamePartialEq.TheImpl as NamePartialEq
use Rattle.formula_core.specs.contracts.order.NamePartialOrd.TheImpl as NamePartialOrd
use Rattle.formula_core.specs.contracts.order.PoNameOrd.TheImpl as PoNameOrd
use Rattle.formula_core.specs.contracts.order.PoNamePartialEq.TheImpl as PoNamePartialEq
use Rattle.formula_core.specs.contracts.order.PoNamePartialOrd.TheImpl as PoNamePartialOrd
use Rattle.proof_deps.specs.contracts.deps.Deps as Deps
use Rattle.std.specs.contracts.result.Result as Result
use Rattle.formula_core.specs.contracts.name.Name as Name
use Rattle.formula_core.specs.contracts.text.PoName as PoName
use Rattle.formula_core.specs.contracts.text.Text as Text
use Rattle.formula_core.proofs.text.Text.TheSendSync as texts
use Rattle.model_core.specs.contracts.component.RawComponent as RawComponent
use Rattle.model_core.specs.contracts.checked.Checked as Checked
use Rattle.model_core.specs.contracts.fault.Fault as Fault
use Rattle.model_core.proofs.fault.Fault.TheSendSync as faults
use Rattle.build_core.specs.contracts.components.Components as Components
use Rattle.build_core.specs.contracts.components.Components.TheInside as ComponentsInside
use Rattle.build_core.specs.contracts.outcomes.Outcomes as Outcomes
use Rattle.build_core.specs.contracts.outcomes.Outcomes.TheInside as OutcomesInside
use Rattle.build_core.specs.contracts.numbered.Numbered as Numbered
use Rattle.build_core.specs.contracts.numbered.Numbered.TheInside as NumberedInside
use Rattle.build_core.specs.contracts.owns.Own as Own
use Rattle.build_core.specs.contracts.fault_line.FaultLine as FaultLine
use Rattle.build_core.specs.contracts.incremental.Builder as Builder
use Rattle.build_core.specs.contracts.incremental.Builder.TheInside as BuilderInside
use Rattle.build_core.proofs.fault_line.FaultLine.TheSendSync as fault_lines
use Rattle.core_steps.specs.contracts.durable.Durable as Durable
use Rattle.core_steps.specs.contracts.events.Event as Event
use Rattle.core_steps.specs.contracts.stored.Facts as Facts
use Rattle.core_steps.specs.contracts.stored.StoredProof as StoredProof
use Rattle.core_steps.specs.contracts.stored.StoredProof.TheInside as StoredProofInside
use Rattle.core_steps.proofs.maps.PoMap.TheSendSync as po_maps
use Rattle.core_steps.proofs.texts.Texts.TheSendSync as stored_texts
use Rattle.core_steps.proofs.project.Project.TheSendSync as projects
use Rattle.core_steps.proofs.events.Question.TheSendSync as questions
use Rattle.core_steps.proofs.events.Status.TheSendSync as statuses
use Rattle.project_session.proofs.CrossingParts.{Crosses, struct_crosses, enum_crosses, option_send, pair_send, arc_crosses, vec_crosses}
use Rattle.project_session.proofs.CrossingFormulas.{list_crosses, name}
use Rattle.project_session.proofs.CrossingModels.{map_crosses, size, raw_component, checked}
use Rattle.project_session.proofs.CrossingRules.{po_name, obligation, words, proof, deps, hint, attempt}

text : Crosses Text.the_row
text = (texts.the_send, texts.the_sync)

named_texts : IsSend (Vec.the_row (Tuple (Name.the_row ∷ Text.the_row ∷ [])) Global.the_row ghosts)
named_texts = Vec-send (Tuple (Name.the_row ∷ Text.the_row ∷ [])) (pair_send Name.the_row Text.the_row name.0 text.0)

shared_components : Crosses (Vec.the_row (Arc.the_row RawComponent.the_row Global.the_row ghosts) Global.the_row ghosts)
shared_components = vec_crosses (Arc.the_row RawComponent.the_row Global.the_row ghosts) (arc_crosses RawComponent.the_row raw_component)

components : IsSend Components.the_row
components = view_send _ _ _ _ _ (declared_send ComponentsInside.the_type (shared_components.0, tt))

fault : Crosses Fault.the_row
fault = (faults.the_send, faults.the_sync)

outcome : Crosses (Result.the_row Checked.the_row Fault.the_row)
outcome = enum_crosses (Result.enum Checked.the_row Fault.the_row) ((checked, tt), ((fault, tt), tt))

outcomes : IsSend Outcomes.the_row
outcomes = view_send _ _ _ _ _ (
    declared_send OutcomesInside.the_type
    ((map_crosses (Arc.the_row (Result.the_row Checked.the_row Fault.the_row) Global.the_row ghosts) (arc_crosses (Result.the_row Checked.the_row Fault.the_row) outcome)).0, tt)
    )

number : IsSend (as_row u64-field)
number = search sendable

numbered_parts : Crosses NumberedInside.the_row
numbered_parts = struct_crosses NumberedInside.the_type (obligation, (list_crosses u64 (search sendable, search sendable), tt))

numbered : Crosses Numbered.the_row
numbered = (view_send _ _ _ _ _ numbered_parts.0, view_sync _ _ _ _ _ numbered_parts.1)

shared_obligations : IsSend (Vec.the_row (Arc.the_row Numbered.the_row Global.the_row ghosts) Global.the_row ghosts)
shared_obligations = Vec-send (Arc.the_row Numbered.the_row Global.the_row ghosts) (arc_crosses Numbered.the_row numbered).0

own : IsSend Own.the_row
own = declared_send Own.the_type (shared_obligations, (number, tt))

places : Crosses (BTreeMap.the_row PoName.the_row usize Global.the_row PoNameOrd.ghosts PoNamePartialEq.ghosts PoNamePartialOrd.ghosts ghosts)
places = (
  BTreeMap-send PoName.the_row usize PoNameOrd.ghosts PoNamePartialEq.ghosts PoNamePartialOrd.ghosts po_name.0 size.0,
  BTreeMap-sync PoName.the_row usize PoNameOrd.ghosts PoNamePartialEq.ghosts PoNamePartialOrd.ghosts po_name.1 size.1,
)

shared_places : IsSend (Arc.the_row (BTreeMap.the_row PoName.the_row usize Global.the_row PoNameOrd.ghosts PoNamePartialEq.ghosts PoNamePartialOrd.ghosts ghosts) Global.the_row ghosts)
shared_places = (arc_crosses (BTreeMap.the_row PoName.the_row usize Global.the_row PoNameOrd.ghosts PoNamePartialEq.ghosts PoNamePartialOrd.ghosts ghosts) places).0

pub builder : IsSend Builder.the_row
builder = view_send _ _ _ _ _ (
    declared_send BuilderInside.the_type (
      (map_crosses Text.the_row text).0,
      (
        components,
        (
          (map_crosses usize size).0,
          (
            outcomes,
            (
              BTreeMap-send Name.the_row Own.the_row NameOrd.ghosts NamePartialEq.ghosts NamePartialOrd.ghosts name.0 own,
              (
                shared_obligations,
                (
                  shared_places,
                  (
                    Vec-send FaultLine.the_row fault_lines.the_send,
                    (Vec-send (Tuple (Name.the_row ∷ Name.the_row ∷ [])) (pair_send Name.the_row Name.the_row name.0 name.0), tt),
                  ),
                ),
              ),
            ),
          ),
        ),
      ),
    )
    )

facts : IsSend Facts.the_row
facts = declared_send Facts.the_type (option_send Deps.the_row deps, (statuses.the_send, tt))

stored_proof : IsSend StoredProof.the_row
stored_proof = view_send _ _ _ _ _ (declared_send StoredProofInside.the_type (proof, (facts, tt)))

pub durable : IsSend Durable.the_row
durable = declared_send Durable.the_type (stored_texts.the_send, (projects.the_send, (po_maps.the_send StoredProof.the_row stored_proof, tt)))

byte : IsSend (as_row u8-field)
byte = search sendable

pub event : IsSend Event.the_row
event = variants_send Event.enum (
  (name.0, (text.0, tt)),
  (
    (name.0, tt),
    (
      tt,
      (
        (po_name.0, (words, (byte, (hint, tt)))),
        ((po_name.0, (words, tt)), ((option_send PoName.the_row po_name.0, tt), ((number, (attempt, tt)), (tt, ((questions.the_send, tt), tt))))),
      ),
    ),
  ),
)
