-- What is seen, as it is borrowed, with the sets by which it is looked up.
use Rattle.std.specs.Prelude.{◌≡◌, ℕ, Bool, true, false, not, ◌&&◌, bytes_eq}
use Rattle.std.specs.Prelude.{List, map, Option, Some, None}
use Rattle.std.specs.Borrow.{Bor}
use Rattle.std.specs.BTreeMap.{BTreeMap}
use Rattle.std.specs.BTreeMap as tree
use Rattle.std.specs.List.{list_any}
use Rattle.std.specs.Cmp.Lexicographic.{slice_cmp}
use Rattle.std.specs.Ordering.{nat_cmp}
use Rattle.model_core.specs.Each.{is_among}
use Rattle.check_rules.specs.Visible.{WithOrigin, Identifiers, Visible, all_visible, names, origins}
use Rattle.context_check.specs.declared.visible.Origin.{Origin}
use Rattle.context_check.specs.declared.visible.Origin.TheVariants.{One, Several}
use Rattle.context_check.specs.declared.visible.View.{View}
use Rattle.model_core.specs.Borrowed.{texts, has}

abbrev pub placed : {X : Type 0} → Bor X × Bor (List ℕ) → WithOrigin X
placed p = (p.0.now, p.1.now)

abbrev pub visible : View → Visible
visible v = record {
  contexts = texts v.contexts.items;
  constants = map placed v.constants.items;
  variables = map placed v.variables.items;
  axioms = map placed v.axioms.items;
}

-- a component other than this one is there
abbrev pub differs : Option Origin → List ℕ → Bool
differs None origin = false
differs (Some (One name)) origin = not (bytes_eq origin name.now)
differs (Some Several) origin = true

-- the name stands in a component other than this one
abbrev pub clashes : BTreeMap (Bor (List ℕ)) Origin → List ℕ → List ℕ → Bool
clashes index name origin = differs (tree.get_by (λ k. slice_cmp nat_cmp name k.now) index) origin

abbrev pub clashes_with : Identifiers → List ℕ → List ℕ → Bool
clashes_with xs name origin = list_any (λ y. bytes_eq name y.0.0 && not (bytes_eq origin y.1)) xs

-- the sets have what is seen
pub record IsIndexed (v : View) : Type 0 where
  pub contexts : (x : List ℕ) → has v.known_contexts x ≡ is_among (visible v).contexts x
  pub constants : (x : List ℕ) → has v.known_constants x ≡ is_among (origins (visible v).constants) x
  pub axioms : (x : List ℕ) → has v.known_axioms x ≡ is_among (origins (visible v).axioms) x
  pub names : (x origin : List ℕ) → clashes v.names x origin ≡ clashes_with (all_visible (visible v)) x origin
