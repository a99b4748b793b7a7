-- Formulas and types that are written.
use Rattle.std.proofs.Common.{◌≡◌, ◌∙◌, sym, ap, subst, refl, ℕ, zero, suc, ◌+◌, ℤ, ◌≤◌, ◌<◌, ◌^◌, Bool, true, ◌&&◌, nat_lt, List, [], ◌∷◌, ◌++◌, length, map, slice_get, Some, arith}
use Rattle.std.specs.List.{AllByRecursion}
use Rattle.std.proofs.lemmas.Bool.{leb-true, ltb-true, lt-ltb}
use Rattle.std.proofs.lemmas.List.{length-map}
use Rattle.formula_core.specs.declared.Ty.{Ty}
use Rattle.formula_core.specs.declared.Op.{Op}
use Rattle.formula_core.specs.declared.Binder.{Binder}
use Rattle.formula_core.specs.declared.Formula.{Formula, roll-Formula}
use Rattle.formula_core.specs.declared.Formula.TheOpen.{Formula-F, Int as IntF, Free as FreeF, Bound as BoundF, Node as NodeF, Bind as BindF}
use Rattle.formula_core.specs.declared.Formula.TheVariants.{Int, Free, Bound, Node, Bind}
use Rattle.formula_core.specs.declared.Formula.TheViews.{rolls-Int, rolls-Free, rolls-Bound, rolls-Node, rolls-Bind}
use Rattle.formula_core.specs.declared.Formula.TheFolds.{map-Formula, fold-roll-Formula}
use Rattle.formula_core.specs.Sizes.{type_nodes, greatest, formula_height, all_hold, is_type_within, has_types_within_step, has_types_within, IsWithinLimits}
use Rattle.formula_core.proofs.Weakening.{first_true, second_true, both_true}
use Rattle.proof_codec.specs.Numbers.{IsByte, byte, IsInteger, integer, FitsU32, number_bytes, text_bytes}
use Rattle.proof_codec.specs.Names.{IsGoodName}
use Rattle.proof_codec.specs.Parts.{IsAny, IsPair, pair_bytes, IsList, list_bytes}
use Rattle.proof_codec.specs.Types.{type_bytes, IsGoodType, IsFitType}
use Rattle.proof_codec.specs.Formulas.{formula_bytes, is_type, is_coded_step, is_coded, is_counted_step, is_counted, IsGoodFormula, IsFitFormula}
use Rattle.proof_codec.specs.Private.{AreFit, IsWrittenAs, op_bytes, binder_bytes, IsCoded, HasFitParts}
use Rattle.proof_codec.proofs.Formulae.{parts_bytes, front_bytes, bytes_by, bytes_at, coded_at, height_at, is_type_of, are_types, are_few}
use Rattle.proof_codec.proofs.Writing.{tag_written, pair_written}

abbrev Parts : List Formula × Ty → Type 0
Parts = IsPair (IsList IsCoded) IsGoodType

abbrev Front : Binder × List Ty → Type 0
Front = IsPair IsAny (IsList IsGoodType)

-- whether the parts of a variant have bytes
abbrev IsCodedAt : Formula-F Formula → Type 0
IsCodedAt (IntF n) = IsInteger n
IsCodedAt (FreeF name ty) = IsPair IsGoodName IsGoodType (name, ty)
IsCodedAt (BoundF at ty) = IsPair FitsU32 IsGoodType (at, ty)
IsCodedAt (NodeF op parts ty) = IsPair IsAny Parts (op, (parts, ty))
IsCodedAt (BindF binder types parts ty) = IsPair Front Parts ((binder, types), (parts, ty))

all_coded : (fs : List Formula) → AllByRecursion IsCoded fs → all_hold (map is_coded fs) ≡ true
all_coded [] all = refl
all_coded (f ∷ fs) all = both_true _ _ all.0 (all_coded fs all.1)

closed : (x : Formula-F Formula) → IsCodedAt x → is_coded_step (map-Formula Formula Bool is_coded x) ≡ true
closed (IntF n) is = is
closed (FreeF name ty) is = both_true _ _ is.0 (is_type_of ty is.1)
closed (BoundF at ty) is = both_true _ _ (lt-ltb _ _ is.0) (is_type_of ty is.1)
closed (NodeF op parts ty) is = both_true _ _ (both_true _ _ (are_few parts is.1.0.0) (all_coded parts is.1.0.1)) (is_type_of ty is.1.1)
closed (BindF binder types parts ty) is =
    both_true _ _ (both_true _ _ (both_true _ _ (both_true _ _ (lt-ltb _ _ is.0.1.0) (are_types types is.0.1.1)) (are_few parts is.1.0.0)) (all_coded parts is.1.0.1)) (is_type_of ty is.1.1)

module _ (old mid new : List ℕ) where
  -- what is written behind the tag makes the formula
  written : {A : Type 0} → (tag : ℕ) (P : A → Type 0) (f : A → List ℕ) (form : A → Formula-F Formula) → ((v : A) → P v → IsCodedAt (form v)) → ((v : A) → bytes_by (form v) ≡ tag ∷ f v) → (v : A) (y : Formula) → roll-Formula (form v) ≡ y
      → IsWrittenAs IsByte byte tag old mid → IsWrittenAs P f v mid new → IsWrittenAs IsCoded formula_bytes y old new
  written tag P f form good is v y rolls = tag_written P f IsCoded formula_bytes tag old mid new v y (λ at. subst IsCoded rolls (coded_at (form v) ∙ closed (form v) (good v at))) (ap formula_bytes (sym rolls) ∙ bytes_at (form v) ∙ is v)

  pub int_written : (n : ℤ) → IsWrittenAs IsByte byte 0 old mid → IsWrittenAs IsInteger integer n mid new → IsWrittenAs IsCoded formula_bytes (Int n) old new
  int_written n = written 0 IsInteger integer (λ n. IntF n) (λ v at. at) (λ v. refl) n (Int n) (rolls-Int n)

  pub free_written : (name : List ℕ) (ty : Ty) → IsWrittenAs IsByte byte 1 old mid → IsWrittenAs (IsPair IsGoodName IsGoodType) (pair_bytes text_bytes type_bytes) (name, ty) mid new → IsWrittenAs IsCoded formula_bytes (Free name ty) old new
  free_written name ty = written 1 (IsPair IsGoodName IsGoodType) (pair_bytes text_bytes type_bytes) (λ x. FreeF x.0 x.1) (λ v at. at) (λ v. refl) (name, ty) (Free name ty) (rolls-Free name ty)

  pub bound_written : (at : ℕ) (ty : Ty) → IsWrittenAs IsByte byte 2 old mid → IsWrittenAs (IsPair FitsU32 IsGoodType) (pair_bytes number_bytes type_bytes) (at, ty) mid new → IsWrittenAs IsCoded formula_bytes (Bound at ty) old new
  bound_written at ty = written 2 (IsPair FitsU32 IsGoodType) (pair_bytes number_bytes type_bytes) (λ x. BoundF x.0 x.1) (λ v at. at) (λ v. refl) (at, ty) (Bound at ty) (rolls-Bound at ty)

  pub node_written : (op : Op) (parts : List Formula) (ty : Ty) → IsWrittenAs IsByte byte 3 old mid → IsWrittenAs (IsPair IsAny Parts) (pair_bytes op_bytes parts_bytes) (op, (parts, ty)) mid new → IsWrittenAs IsCoded formula_bytes (Node op parts ty) old new
  node_written op parts ty = written 3 (IsPair IsAny Parts) (pair_bytes op_bytes parts_bytes) (λ x. NodeF x.0 x.1.0 x.1.1) (λ v at. at) (λ v. refl) (op, (parts, ty)) (Node op parts ty) (rolls-Node op parts ty)

  pub bind_written : (binder : Binder) (types : List Ty) (parts : List Formula) (ty : Ty) → IsWrittenAs IsByte byte 4 old mid
      → IsWrittenAs (IsPair Front Parts) (pair_bytes front_bytes parts_bytes) ((binder, types), (parts, ty)) mid new → IsWrittenAs IsCoded formula_bytes (Bind binder types parts ty) old new
  bind_written binder types parts ty = written 4 (IsPair Front Parts) (pair_bytes front_bytes parts_bytes) (λ x. BindF x.0.0 x.0.1 x.1.0 x.1.1) (λ v at. at) (λ v. refl) ((binder, types), (parts, ty)) (Bind binder types parts ty) (rolls-Bind binder types parts ty)

-- an operation: its operator, its parts and its type
pub operation_written : (op : Op) (parts : List Formula) (ty : Ty) (old a b c new : List ℕ) → IsWrittenAs IsByte byte 3 old a → IsWrittenAs IsAny op_bytes op a b → IsWrittenAs (IsList IsCoded) (list_bytes formula_bytes) parts b c
    → IsWrittenAs IsGoodType type_bytes ty c new → IsWrittenAs IsCoded formula_bytes (Node op parts ty) old new
operation_written op parts ty old a b c new first one two three = node_written old a new op parts ty first
    (pair_written IsAny op_bytes Parts parts_bytes a b new op (parts, ty) one (pair_written (IsList IsCoded) (list_bytes formula_bytes) IsGoodType type_bytes b c new parts ty two three))

-- a binder and its types, its parts and its type
pub binding_written : (binder : Binder) (types : List Ty) (parts : List Formula) (ty : Ty) (old a b c new : List ℕ) → IsWrittenAs IsByte byte 4 old a → IsWrittenAs Front front_bytes (binder, types) a b
    → IsWrittenAs (IsList IsCoded) (list_bytes formula_bytes) parts b c → IsWrittenAs IsGoodType type_bytes ty c new → IsWrittenAs IsCoded formula_bytes (Bind binder types parts ty) old new
binding_written binder types parts ty old a b c new first one two three = bind_written old a new binder types parts ty first
    (pair_written Front front_bytes Parts parts_bytes a b new (binder, types) (parts, ty) one (pair_written (IsList IsCoded) (list_bytes formula_bytes) IsGoodType type_bytes b c new parts ty two three))

-- what the parts of a formula that may be written are
types_at : (x : Formula-F Formula) → has_types_within 4096 (roll-Formula x) ≡ has_types_within_step 4096 (map-Formula Formula Bool (has_types_within 4096) x)
types_at x = fold-roll-Formula Bool (has_types_within_step 4096) x

counted_at : (x : Formula-F Formula) → is_counted (roll-Formula x) ≡ is_counted_step (map-Formula Formula Bool is_counted x)
counted_at x = fold-roll-Formula Bool is_counted_step x

small_types : (ts : List Ty) → all_hold (map (is_type_within 4096) ts) ≡ true → AllByRecursion IsFitType ts
small_types [] h = tt
small_types (t ∷ ts) h = (leb-true _ _ (first_true (is_type_within 4096 t) _ h), small_types ts (second_true (is_type_within 4096 t) _ h))

small_parts : (fs : List Formula) → all_hold (map (has_types_within 4096) fs) ≡ true → all_hold (map is_counted fs) ≡ true → AllByRecursion HasFitParts fs
small_parts [] h k = tt
small_parts (f ∷ fs) h k = (record { types = first_true (has_types_within 4096 f) _ h; counted = first_true (is_counted f) _ k }, small_parts fs (second_true (has_types_within 4096 f) _ h) (second_true (is_counted f) _ k))

few_of : (fs : List Formula) → nat_lt (length (map is_counted fs)) (2 ^ 32) ≡ true → length fs < 2 ^ 32
few_of fs h = subst (λ n. n < 2 ^ 32) (length-map fs is_counted) (ltb-true _ _ h)

abbrev AreSmall : Formula-F Formula → Type 0
AreSmall (IntF n) = Unit {0}
AreSmall (FreeF name ty) = IsFitType ty
AreSmall (BoundF at ty) = IsFitType ty
AreSmall (NodeF op parts ty) = IsList HasFitParts parts × IsFitType ty
AreSmall (BindF binder types parts ty) = IsList IsFitType types × IsList HasFitParts parts × IsFitType ty

opened : (x : Formula-F Formula) → has_types_within_step 4096 (map-Formula Formula Bool (has_types_within 4096) x) ≡ true → is_counted_step (map-Formula Formula Bool is_counted x) ≡ true → AreSmall x
opened (IntF n) h k = tt
opened (FreeF name ty) h k = leb-true _ _ h
opened (BoundF at ty) h k = leb-true _ _ h
opened (NodeF op parts ty) h k =
    let few : Bool = nat_lt (length (map is_counted parts)) (2 ^ 32) in
    ((few_of parts (first_true few _ k), small_parts parts (second_true (is_type_within 4096 ty) _ h) (second_true few _ k)), leb-true _ _ (first_true (is_type_within 4096 ty) _ h))
opened (BindF binder types parts ty) h k =
    let a : Bool = is_type_within 4096 ty in
    let b : Bool = all_hold (map (is_type_within 4096) types) in
    let front : (a && b) ≡ true = first_true (a && b) _ h in
    let c : Bool = nat_lt (length types) (2 ^ 32) in
    let d : Bool = nat_lt (length (map is_counted parts)) (2 ^ 32) in
    let counts : (c && d) ≡ true = first_true (c && d) _ k in (
      (ltb-true _ _ (first_true c _ counts), small_types types (second_true a _ front)),
      (few_of parts (second_true c _ counts), small_parts parts (second_true (a && b) _ h) (second_true (c && d) _ k)),
      leb-true _ _ (first_true a _ front),
    )

small_at : (x : Formula-F Formula) (f : Formula) → roll-Formula x ≡ f → HasFitParts f → AreSmall x
small_at x f rolls small =
    opened x (sym (types_at x) ∙ ap (has_types_within 4096) rolls ∙ small.types) (sym (counted_at x) ∙ ap is_counted rolls ∙ small.counted)

pub small_free : (name : List ℕ) (ty : Ty) → HasFitParts (Free name ty) → IsFitType ty
small_free name ty = small_at (FreeF name ty) (Free name ty) (rolls-Free name ty)

pub small_bound : (at : ℕ) (ty : Ty) → HasFitParts (Bound at ty) → IsFitType ty
small_bound at ty = small_at (BoundF at ty) (Bound at ty) (rolls-Bound at ty)

pub small_node : (op : Op) (parts : List Formula) (ty : Ty) → HasFitParts (Node op parts ty) → IsList HasFitParts parts × IsFitType ty
small_node op parts ty = small_at (NodeF op parts ty) (Node op parts ty) (rolls-Node op parts ty)

pub small_bind : (binder : Binder) (types : List Ty) (parts : List Formula) (ty : Ty) → HasFitParts (Bind binder types parts ty) → IsList IsFitType types × IsList HasFitParts parts × IsFitType ty
small_bind binder types parts ty = small_at (BindF binder types parts ty) (Bind binder types parts ty) (rolls-Bind binder types parts ty)

pub fit_parts : (f : Formula) (op : Op) (parts : List Formula) (ty : Ty) (xs : List Formula) → HasFitParts f → f ≡ Node op parts ty → xs ≡ parts → AreFit xs
fit_parts f op parts ty xs fit is same =
    let small = small_node op parts ty (subst HasFitParts is fit) in
    subst AreFit (sym same) (record { few = small.0.0; fit = small.0.1 })

pub fit_bodies : (f : Formula) (binder : Binder) (types : List Ty) (parts : List Formula) (ty : Ty) (xs : List Formula) → HasFitParts f → f ≡ Bind binder types parts ty → xs ≡ parts → AreFit xs
fit_bodies f binder types parts ty xs fit is same =
    let small = small_bind binder types parts ty (subst HasFitParts is fit) in
    subst AreFit (sym same) (record { few = small.1.0; fit = small.1.1 })

-- parts are lower than the whole
pub lower_parts : (f : Formula) (op : Op) (parts : List Formula) (ty : Ty) (xs : List Formula) → f ≡ Node op parts ty → xs ≡ parts → greatest (map formula_height xs) + 1 ≡ formula_height f
lower_parts f op parts ty xs is same =
    ap (λ (ys : List Formula). greatest (map formula_height ys) + 1) same ∙ sym (height_at (NodeF op parts ty)) ∙ ap formula_height (rolls-Node op parts ty ∙ sym is)

pub lower_bodies : (f : Formula) (binder : Binder) (types : List Ty) (parts : List Formula) (ty : Ty) (xs : List Formula) → f ≡ Bind binder types parts ty → xs ≡ parts → greatest (map formula_height xs) + 1 ≡ formula_height f
lower_bodies f binder types parts ty xs is same =
    ap (λ (ys : List Formula). greatest (map formula_height ys) + 1) same ∙ sym (height_at (BindF binder types parts ty)) ∙ ap formula_height (rolls-Bind binder types parts ty ∙ sym is)

pub among : (xs : List Formula) (i : ℕ) (x : Formula) → slice_get xs i ≡ Some x → formula_height x ≤ greatest (map formula_height xs)
among [] i x is = absurd cc
among (y ∷ ys) zero x is = let same : y ≡ x = (let e : Some y ≡ Some x = is in cc) in omega (arith, ap formula_height same)
among (y ∷ ys) (suc i) x is = omega (arith, among ys i x is)

pub has_small_parts : (f : Formula) → IsFitFormula f → HasFitParts f
has_small_parts f is = record { types = is.within.2; counted = is.counted }

pub formula_written : (f : Formula) (old new : List ℕ) → IsFitFormula f → IsWrittenAs IsCoded formula_bytes f old new → IsWrittenAs IsGoodFormula formula_bytes f old new
formula_written f old new is written = record { good = record { coded = written.good; within = is.within; well = is.well }; bytes = written.bytes }
