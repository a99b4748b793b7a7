-- What the references before brought.
use Rattle.std.specs.Prelude.{◌≡◌, ℕ, true, List, [], ◌∷◌, ◌++◌, Option, Some}
use Rattle.std.specs.Borrow.{Bor}
use Rattle.std.specs.BTreeMap.{BTreeMap}
use Rattle.std.specs.BTreeMap as tree
use Rattle.std.specs.Cmp.Lexicographic.{slice_cmp}
use Rattle.std.specs.List.{AllByRecursion, zip}
use Rattle.std.specs.Option.{option_map}
use Rattle.std.specs.Ordering.{nat_cmp}
use Rattle.formula_core.specs.Env.{HasDistinctNames}
use Rattle.model_core.specs.declared.checked.CheckedContext.{CheckedContext}
use Rattle.model_core.specs.Borrowed.{has}
use Rattle.model_core.specs.Each.{is_among}
use Rattle.check_rules.specs.Visible.{Visible, all_visible, of_context, origins}
use Rattle.context_check.specs.declared.brought.Brought.{Brought}
use Rattle.context_check.specs.Views.{clashes_with}
use Rattle.context_check.specs.Private.{first_clashing}

-- the first name of a context that another component has
abbrev pub clash_in : Visible → CheckedContext → Option (List ℕ)
clash_in v c = first_clashing (clashes_with (all_visible v)) (of_context c)

-- all components are known of which a context brings something
pub record IsSeen (c : CheckedContext) (v : Visible) : Type 0 where
  pub contexts : AllByRecursion (λ n. is_among v.contexts n ≡ true) (c.ancestors ++ c.name ∷ [])
  pub constants : AllByRecursion (λ x. is_among (origins v.constants) x.1 ≡ true) (of_context c)
  pub axioms : AllByRecursion (λ x. is_among (origins v.axioms) x.1 ≡ true) (zip c.axioms c.axioms_of)

-- The contexts have names. What was noted of a name is what its context clashes with.
abbrev pub AreNoted : (List ℕ → Option CheckedContext) → Visible → BTreeMap (Bor (List ℕ)) (Option (Bor (List ℕ))) → Type 0
AreNoted named v clashes = (name : List ℕ) (c : CheckedContext) (found : Option (Bor (List ℕ))) → named name ≡ Some c →
    tree.get_by (λ k. slice_cmp nat_cmp name k.now) clashes ≡ Some found → option_map (λ n. n.now) found ≡ clash_in v c

-- The contexts have names. Those of the names that are kept are seen.
pub record IsBrought (named : List ℕ → Option CheckedContext) (v : Visible) (b : Brought) : Type 0 where
  pub seen : (name : List ℕ) (c : CheckedContext) → named name ≡ Some c → has b.names name ≡ true → IsSeen c v
  pub distinct : (name : List ℕ) (c : CheckedContext) → named name ≡ Some c → has b.names name ≡ true → HasDistinctNames c.env
  pub clashes : AreNoted named v b.clashes
