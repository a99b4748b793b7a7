-- How many nodes a formula has, with those of the types in it: with each call of the printer that goes down, what is left has fewer.
use Rattle.std.proofs.Common.{◌≡◌, ◌∙◌, sym as back, ap, ℕ, zero, suc, ◌+◌, ◌<◌, ◌≤◌, ℤ, List, [], ◌∷◌, map, length, drop, get_or, arith, Option, Some, None, refl}
use Rattle.formula_core.specs.declared.raw.RawOp.{RawOp}
use Rattle.formula_core.specs.declared.raw.RawBinder.{RawBinder}
use Rattle.formula_core.specs.declared.raw.RawBound.{RawBound}
use Rattle.formula_core.specs.declared.raw.Raw.{Raw}
use Rattle.formula_core.specs.declared.raw.Raw.TheOpen.{Raw-F, RawBound-F, Int as IntF, Name as NameF, Node as NodeF, Bind as BindF}
use Rattle.formula_core.specs.declared.raw.Raw.TheVariants as raw
use Rattle.formula_core.specs.declared.raw.Raw.TheViews.{roll-RawBound, roll-out-RawBound, rolls-Int, rolls-Name, rolls-Node, rolls-Bind}
use Rattle.formula_core.specs.declared.raw.Raw.TheFolds.{fold-Raw, fold-roll-Raw, fold-RawBound, fold-roll-RawBound}

abbrev pub total : List ℕ → ℕ
total [] = 0
total (n ∷ ns) = n + total ns

abbrev weight_step : Raw-F ℕ ℕ → ℕ
weight_step (IntF n place) = 1
weight_step (NameF x place) = 1
weight_step (NodeF o parts place) = 1 + total parts
weight_step (BindF b names parts place) = 1 + total names + total parts

abbrev type_weight : Option ℕ → ℕ
type_weight None = 0
type_weight (Some n) = n

abbrev bound_step : RawBound-F ℕ ℕ → ℕ
bound_step b = type_weight b.ty

abbrev pub weight : Raw → ℕ
weight = fold-Raw ℕ ℕ weight_step bound_step

abbrev pub weights : List Raw → ℕ
weights rs = total (map weight rs)

abbrev pub bound_weight : RawBound → ℕ
bound_weight = fold-RawBound ℕ ℕ weight_step bound_step

abbrev pub bound_weights : List RawBound → ℕ
bound_weights bs = total (map bound_weight bs)

pub weight-Int : (n : ℤ) (place : ℕ) → weight (raw.Int n place) ≡ 1
weight-Int n place = ap weight (back (rolls-Int n place)) ∙ fold-roll-Raw ℕ ℕ weight_step bound_step (IntF n place)

pub weight-Name : (x : List ℕ) (place : ℕ) → weight (raw.Name x place) ≡ 1
weight-Name x place = ap weight (back (rolls-Name x place)) ∙ fold-roll-Raw ℕ ℕ weight_step bound_step (NameF x place)

pub weight-Node : (o : RawOp) (parts : List Raw) (place : ℕ) → weight (raw.Node o parts place) ≡ 1 + weights parts
weight-Node o parts place = ap weight (back (rolls-Node o parts place)) ∙ fold-roll-Raw ℕ ℕ weight_step bound_step (NodeF o parts place)

pub weight-Bind : (b : RawBinder) (names : List RawBound) (parts : List Raw) (place : ℕ) → weight (raw.Bind b names parts place) ≡ 1 + bound_weights names + weights parts
weight-Bind b names parts place = ap weight (back (rolls-Bind b names parts place)) ∙ fold-roll-Raw ℕ ℕ weight_step bound_step (BindF b names parts place)

of_layer : (x : List ℕ) (t : Raw) (place : ℕ) → bound_weight (roll-RawBound (record { name = x; ty = Some t; place = place })) ≡ weight t
of_layer x t place = fold-roll-RawBound ℕ ℕ weight_step bound_step (record { name = x; ty = Some t; place = place })

layer_of : (b : RawBound) (t : Raw) (ty : Option Raw) → b.ty ≡ ty → ty ≡ Some t → bound_weight b ≡ weight t
layer_of b t ty e h = ap bound_weight (back (roll-out-RawBound b)) ∙ ap (λ (u : Option Raw). bound_weight (roll-RawBound (record { name = b.name; ty = u; place = b.place }))) (e ∙ h) ∙ of_layer b.name t b.place

pub weight_of_type : (b : RawBound) (t : Raw) → b.ty ≡ Some t → bound_weight b ≡ weight t
weight_of_type b t e = layer_of b t (Some t) e refl

pub weight_of_part : (rs : List Raw) (k : ℕ) (r : Raw) → k < length rs → r ≡ get_or rs k r → weight r ≤ weights rs
weight_of_part [] k r short is = absurd (omega arith)
weight_of_part (x ∷ rs) zero r short is = let e : weight r ≡ weight x = ap weight is in omega arith
weight_of_part (x ∷ rs) (suc k) r short is = let more : weight r ≤ weights rs = weight_of_part rs k r (omega arith) is in omega arith

pub weight_of_name : (bs : List RawBound) (k : ℕ) (b : RawBound) → k < length bs → b ≡ get_or bs k b → bound_weight b ≤ bound_weights bs
weight_of_name [] k b short is = absurd (omega arith)
weight_of_name (x ∷ bs) zero b short is = let e : bound_weight b ≡ bound_weight x = ap bound_weight is in omega arith
weight_of_name (x ∷ bs) (suc k) b short is = let more : bound_weight b ≤ bound_weights bs = weight_of_name bs k b (omega arith) is in omega arith

pub weight_of_rest : (k : ℕ) (bs : List RawBound) → bound_weights (drop k bs) ≤ bound_weights bs
weight_of_rest zero bs = omega arith
weight_of_rest (suc k) [] = omega arith
weight_of_rest (suc k) (b ∷ bs) = let more : bound_weights (drop k bs) ≤ bound_weights bs = weight_of_rest k bs in omega arith
