-- The core form at each variant of a written formula.
use Rattle.std.proofs.Common.{◌≡◌, ◌∙◌, sym, ap, ℕ, ℤ, List, [], ◌∷◌, map, length, get_or, arith, Option, Some, None, refl, true, false, cond}
use Rattle.std.specs.Option.{option_map}
use Rattle.formula_core.specs.declared.raw.RawOp.{RawOp}
use Rattle.formula_core.specs.declared.raw.RawBinder.{RawBinder}
use Rattle.formula_core.specs.declared.raw.RawBound.{RawBound}
use Rattle.formula_core.specs.declared.raw.Raw.{Raw}
use Rattle.formula_core.specs.declared.raw.Raw.TheOpen.{RawBound-F, Int as IntF, Name as NameF, Node as NodeF, Bind as BindF}
use Rattle.formula_core.specs.declared.raw.Raw.TheVariants as raw
use Rattle.formula_core.specs.declared.raw.Raw.TheViews.{out-RawBound, roll-RawBound, roll-out-RawBound, rolls-Int, rolls-Name, rolls-Node, rolls-Bind}
use Rattle.formula_core.specs.declared.raw.Raw.TheFolds.{fold-roll-Raw, para-roll-Raw, fold-RawBound, para-RawBound, fold-roll-RawBound, para-roll-RawBound, map-RawBound}
use Rattle.formula_core.specs.declared.op.Binder.{Binder}
use Rattle.formula_core.specs.declared.raw.RawBinder.TheVariants as rawbinder
use Rattle.type_formula.specs.Bare.{Bare, Bares, BareBounds, Number, Identifier, Binding, Broken, more, has_names}
use Rattle.type_formula.specs.CoreForms.{free_step, free_names, free_in_form, free_in_binder, BareBound, bares, bounds, core_step, bound_step, core_form, core_of_form, core_of_lambda, core_of_unnamed, plain_names, once, two, turned, core_of_binder}
use Rattle.type_formula.specs.PrivateViews.{with_core, bound_part, in_a_row}

pub core_form-Int : (n : ℤ) (place : ℕ) → core_form (raw.Int n place) ≡ Number n
core_form-Int n place = ap core_form (sym (rolls-Int n place)) ∙ para-roll-Raw Bare BareBound core_step bound_step (IntF n place)

pub core_form-Name : (x : List ℕ) (place : ℕ) → core_form (raw.Name x place) ≡ Identifier x place
core_form-Name x place = ap core_form (sym (rolls-Name x place)) ∙ para-roll-Raw Bare BareBound core_step bound_step (NameF x place)

pub core_form-Node : (op : RawOp) (parts : List Raw) (place : ℕ) → core_form (raw.Node op parts place) ≡ core_of_form op (bares (map with_core parts))
core_form-Node op parts place = ap core_form (sym (rolls-Node op parts place)) ∙ para-roll-Raw Bare BareBound core_step bound_step (NodeF op parts place)

abbrev layer : List ℕ → Option Raw → ℕ → RawBound-F Raw RawBound
layer x t place = record { name = x; ty = t; place = place }

bound_of_layer : (x : List ℕ) (t : Option Raw) (place : ℕ) → bound_step (map-RawBound Raw RawBound (Raw × Bare) (RawBound × BareBound) (λ y. (y, core_form y)) (λ y. (y, para-RawBound Bare BareBound core_step bound_step y)) (layer x t place)) ≡ (x, option_map core_form t)
bound_of_layer x None place = refl
bound_of_layer x (Some t) place = refl

part_of_layer : (x : List ℕ) (t : Option Raw) (place : ℕ) → para-RawBound Bare BareBound core_step bound_step (roll-RawBound (layer x t place)) ≡ (x, option_map core_form t)
part_of_layer x t place = para-roll-RawBound Bare BareBound core_step bound_step (layer x t place) ∙ bound_of_layer x t place

part_of_bound : (b : RawBound) → para-RawBound Bare BareBound core_step bound_step b ≡ bound_part b
part_of_bound b = ap (para-RawBound Bare BareBound core_step bound_step) (sym (roll-out-RawBound b)) ∙ part_of_layer b.name b.ty b.place

bound_parts : (bound : List RawBound) → map {A = RawBound-F Raw (Unit {0}) × BareBound} (λ b. b.1) (map (λ y. (y, para-RawBound Bare BareBound core_step bound_step y)) bound) ≡ map bound_part bound
bound_parts [] = refl
bound_parts (b ∷ bs) = λ i. part_of_bound b i ∷ bound_parts bs i

pub core_form-Bind : (binder : RawBinder) (bound : List RawBound) (parts : List Raw) (place : ℕ) → core_form (raw.Bind binder bound parts place) ≡ core_of_binder binder (bounds (map bound_part bound)) (map with_core parts)
core_form-Bind binder bound parts place =
    ap core_form (sym (rolls-Bind binder bound parts place)) ∙ para-roll-Raw Bare BareBound core_step bound_step (BindF binder bound parts place)
    ∙ ap (λ bs. core_of_binder binder (bounds bs) (map with_core parts)) (bound_parts bound)

pub free_names-Int : (n : ℤ) (place : ℕ) → free_names (raw.Int n place) ≡ []
free_names-Int n place = ap free_names (sym (rolls-Int n place)) ∙ fold-roll-Raw (List (List ℕ)) (List ℕ) free_step (λ b. b.name) (IntF n place)

pub free_names-Name : (x : List ℕ) (place : ℕ) → free_names (raw.Name x place) ≡ x ∷ []
free_names-Name x place = ap free_names (sym (rolls-Name x place)) ∙ fold-roll-Raw (List (List ℕ)) (List ℕ) free_step (λ b. b.name) (NameF x place)

pub free_names-Node : (op : RawOp) (parts : List Raw) (place : ℕ) → free_names (raw.Node op parts place) ≡ free_in_form op (map free_names parts)
free_names-Node op parts place = ap free_names (sym (rolls-Node op parts place)) ∙ fold-roll-Raw (List (List ℕ)) (List ℕ) free_step (λ b. b.name) (NodeF op parts place)

name_of_bound : (b : RawBound) → fold-RawBound (List (List ℕ)) (List ℕ) free_step (λ b. b.name) b ≡ b.name
name_of_bound b = ap (fold-RawBound (List (List ℕ)) (List ℕ) free_step (λ b. b.name)) (sym (roll-out-RawBound b)) ∙ fold-roll-RawBound (List (List ℕ)) (List ℕ) free_step (λ b. b.name) (out-RawBound b)

bound_names : (bound : List RawBound) → map (fold-RawBound (List (List ℕ)) (List ℕ) free_step (λ b. b.name)) bound ≡ map (λ b. b.name) bound
bound_names [] = refl
bound_names (b ∷ bs) = λ i. name_of_bound b i ∷ bound_names bs i

pub free_names-Bind : (binder : RawBinder) (bound : List RawBound) (parts : List Raw) (place : ℕ) → free_names (raw.Bind binder bound parts place) ≡ free_in_binder binder (map (λ b. b.name) bound) (map free_names parts)
free_names-Bind binder bound parts place =
    ap free_names (sym (rolls-Bind binder bound parts place)) ∙ fold-roll-Raw (List (List ℕ)) (List ℕ) free_step (λ b. b.name) (BindF binder bound parts place)
    ∙ ap (λ bs. free_in_binder binder bs (map free_names parts)) (bound_names bound)

pub ruleset core_equations = (core_form-Int, core_form-Name)

row_of_parts : (parts : List Raw) → bares (map with_core parts) ≡ in_a_row (map core_form parts)
row_of_parts [] = refl
row_of_parts (r ∷ rs) = ap (more (core_form r)) (row_of_parts rs)

-- What was read at a node.

pub read_node : (r : Raw) (op : RawOp) (parts : List Raw) (place : ℕ) (row : Bares) → r ≡ raw.Node op parts place → row ≡ in_a_row (map core_form parts) → core_of_form op row ≡ core_form r
read_node r op parts place row is h = ap (core_of_form op) (h ∙ sym (row_of_parts parts)) ∙ sym (ap core_form is ∙ core_form-Node op parts place)

module _ (r : Raw) (binder : RawBinder) (bound : List RawBound) (parts : List Raw) (place : ℕ) (is : r ≡ raw.Bind binder bound parts place) (names : BareBounds) (named : names ≡ bounds (map bound_part bound)) where
  binder_is : (kind : RawBinder) → binder ≡ kind → core_form r ≡ core_of_binder kind names (map with_core parts)
  binder_is kind e = ap core_form is ∙ core_form-Bind binder bound parts place ∙ (λ i. core_of_binder (e i) (sym named i) (map with_core parts))

  pub read_plain : (b : Binder) (row : Bares) → binder ≡ rawbinder.Plain b → row ≡ in_a_row (map core_form parts) → Binding b names row ≡ core_form r
  read_plain b row e h = ap (Binding b names) (h ∙ sym (row_of_parts parts)) ∙ sym (binder_is (rawbinder.Plain b) e)

  pub read_lambda : (row : Bares) → binder ≡ rawbinder.Lambda → row ≡ in_a_row (map core_form parts) → core_of_lambda names row ≡ core_form r
  read_lambda row e h = ap (core_of_lambda names) (h ∙ sym (row_of_parts parts)) ∙ sym (binder_is rawbinder.Lambda e)

  pub read_named : (b : Binder) (row : Bares) → binder ≡ rawbinder.Implicit b → has_names names ≡ true → row ≡ in_a_row (map core_form parts) → Broken row ≡ core_form r
  read_named b row e t h =
      ap Broken (h ∙ sym (row_of_parts parts))
      ∙ ap (λ c. cond c (Broken (bares (map with_core parts))) (core_of_unnamed b (map with_core parts))) (sym t)
      ∙ sym (binder_is (rawbinder.Implicit b) e)

  pub read_unnamed : (b : Binder) → binder ≡ rawbinder.Implicit b → has_names names ≡ false → core_of_unnamed b (map with_core parts) ≡ core_form r
  read_unnamed b e t =
      ap (λ c. cond c (Broken (bares (map with_core parts))) (core_of_unnamed b (map with_core parts))) (sym t) ∙ sym (binder_is (rawbinder.Implicit b) e)

pub ruleset free_equations = (free_names-Int, free_names-Name, free_names-Node, free_names-Bind)

pub free_at_binder : (r : Raw) (binder : RawBinder) (bound : List RawBound) (parts : List Raw) (place : ℕ) (names : List (List ℕ)) → r ≡ raw.Bind binder bound parts place → names ≡ map (λ b. b.name) bound → free_in_binder binder names (map free_names parts) ≡ free_names r
free_at_binder r binder bound parts place names is e = ap (λ ns. free_in_binder binder ns (map free_names parts)) e ∙ sym (ap free_names is ∙ free_names-Bind binder bound parts place)

-- not two parts
pub unnamed_broken : (b : Binder) (parts : List Raw) → (length parts ≡ 2 → ⊥) → core_of_unnamed b (map with_core parts) ≡ Broken (in_a_row (map core_form parts))
unnamed_broken b [] h = refl
unnamed_broken b (p ∷ []) h = refl
unnamed_broken b (p ∷ e ∷ []) h = absurd (h refl)
unnamed_broken b (p ∷ e ∷ x ∷ xs) h = ap Broken (row_of_parts (p ∷ e ∷ x ∷ xs))

-- two parts
pub unnamed_two : (b : Binder) (parts : List Raw) (e : Raw) (names : BareBounds) → length parts ≡ 2 → e ≡ get_or parts 0 e → names ≡ plain_names (once (free_names e)) → core_of_unnamed b (map with_core parts) ≡ Binding b names (turned (in_a_row (map core_form parts)))
unnamed_two b [] e names h is n = cc
unnamed_two b (p ∷ []) e names h is n = cc
unnamed_two b (p ∷ q ∷ []) e names h is n = ap (λ ns. Binding b ns (two (core_form q) (core_form p))) (ap (λ r. plain_names (once (free_names r))) (sym is) ∙ sym n)
unnamed_two b (p ∷ q ∷ x ∷ xs) e names h is n = absurd (omega arith)
