-- Components without their places.
use Rattle.std.specs.Prelude.{map}
use Rattle.std.specs.Option.{option_map}
use Rattle.model_core.specs.declared.component.RawLabelled.{RawLabelled}
use Rattle.model_core.specs.declared.component.RawVariant.{RawVariant}
use Rattle.model_core.specs.declared.component.RawStep.{RawStep}
use Rattle.model_core.specs.declared.component.RawEvent.{RawEvent}
use Rattle.model_core.specs.declared.component.RawComponent.{RawComponent}
use Rattle.model_core.specs.declared.component.RawComponent.TheVariants.{Context, Machine}
use Rattle.math_places.specs.Places.{unplaced, unplaced_action, unplaced_ref}

abbrev pub unplaced_labelled : RawLabelled → RawLabelled
unplaced_labelled l = record l { formula = unplaced l.formula; place = 0; first = 0 }

abbrev pub unplaced_variant : RawVariant → RawVariant
unplaced_variant v = record { formula = unplaced v.formula; first = 0 }

abbrev pub unplaced_labelled_action : RawStep → RawStep
unplaced_labelled_action s = record s { action = unplaced_action s.action; place = 0 }

abbrev pub unplaced_event : RawEvent → RawEvent
unplaced_event e = record e {
  name = unplaced_ref e.name;
  refines = map unplaced_ref e.refines;
  params = map unplaced_ref e.params;
  guards = map unplaced_labelled e.guards;
  witnesses = map unplaced_labelled e.witnesses;
  actions = map unplaced_labelled_action e.actions;
}

-- the component with every place 0
abbrev pub unplaced_component : RawComponent → RawComponent
unplaced_component (Context name extends sets constants axioms) =
    Context (unplaced_ref name) (map unplaced_ref extends) (map unplaced_ref sets) (map unplaced_ref constants) (map unplaced_labelled axioms)
unplaced_component (Machine name refines sees variables invariants variant events) =
    Machine (unplaced_ref name) (option_map unplaced_ref refines) (map unplaced_ref sees) (map unplaced_ref variables) (map unplaced_labelled invariants)
    (option_map unplaced_variant variant) (map unplaced_event events)
