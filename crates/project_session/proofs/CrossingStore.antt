-- A store may be handed to another thread where its disk may.
use mathlib.Core.List.{[], ◌∷◌}
use denote.RattleType.{RattleType}
use denote.Hole.{as_row}
use denote.Builtin.{u32}
use denote.Struct.Field.{u64-field}
use denote.Struct.Tuple.{Tuple}
use denote.Param.Send.{IsSend, view_send, sendable}
use denote.Param.SendFields.{declared_send}
use Rattle.std.proofs.Crossing.{Vec-send, crosses}
use Rattle.std.specs.contracts.alloc.Global as Global
use Rattle.std.specs.contracts.snapshot.Snapshot as Snapshot
use Rattle.sequent_core.specs.contracts.sequent.Ticket as Ticket
use Rattle.sequent_core.specs.contracts.sequent.Sequent as Sequent
use Rattle.act_history.specs.contracts.History as History
use Rattle.act_history.specs.contracts.History.TheInside as HistoryInside
use Rattle.core_steps.specs.contracts.durable.Durable as Durable
use Rattle.core_steps.specs.contracts.events.Event as Event
use Rattle.core_steps.proofs.maps.PoMap.TheSendSync as po_maps
use Rattle.store_log.proofs.fault.StoreFault.TheSendSync as store_faults
use Rattle.journal_core.proofs.journal.Journal.TheSendSync as journals
use Rattle.outside.specs.declared.disk.Disk.{Ghosts}
use Rattle.project_store.specs.declared.moment.Opening as openings
use Rattle.status_core.specs.contracts.core_state.Core as Core
use Rattle.status_core.specs.contracts.core_state.Core.TheInside as CoreInside
use Rattle.project_store.specs.contracts.fault.KeptFault as KeptFault
use Rattle.project_store.specs.contracts.store.Store as Store
use Rattle.project_store.specs.contracts.store.Store.TheInside as StoreInside
use Rattle.project_session.proofs.CrossingParts.{option_send, pair_send}
use Rattle.project_session.proofs.CrossingModels.{size}
use Rattle.project_session.proofs.CrossingRules.{sequent, ticket}
use Rattle.project_session.proofs.CrossingBuilds.{builder, durable, event}

number : IsSend (as_row u64-field)
number = search sendable

allocator : IsSend Global.the_row
allocator = search sendable depth 20

core : IsSend Core.the_row
core = view_send _ _ _ _ _ (
    declared_send CoreInside.the_type
    (allocator, (durable, (builder, (Vec-send Ticket.the_row ticket, (po_maps.the_send Sequent.the_row sequent.0, (number, (size.0, tt)))))))
    )

act : IsSend (Tuple (u32 ∷ Event.the_row ∷ []))
act = pair_send u32 Event.the_row (search sendable) event

kept_fault : IsSend KeptFault.the_row
kept_fault = declared_send KeptFault.the_type (store_faults.the_send, (act, tt))

base : IsSend (Snapshot.the_row Durable.the_row)
base = search crosses

noted : (R : RattleType) → IsSend (Snapshot.the_row R)
noted R = search crosses

history : (R : RattleType) → IsSend (History.the_row R)
history R = view_send _ _ _ _ _ (declared_send (HistoryInside.the_type R) (Vec-send (Snapshot.the_row R) (noted R), tt))

pub store : (D K : RattleType) (g : Ghosts D.Denot) (k : openings.Ghosts K.Denot) → IsSend D → IsSend K → IsSend (Store.the_row D K g k)
store D K g k s t = view_send _ _ _ _ _ (
    declared_send (StoreInside.the_type D K g k) (
      allocator,
      (
        journals.the_send D g s,
        (core, (history (Tuple (u32 ∷ Event.the_row ∷ [])), (number, (option_send KeptFault.the_row kept_fault, (base, (number, (search sendable, tt))))))),
      ),
    )
    )
