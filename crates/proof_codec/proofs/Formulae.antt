-- What begins with the first byte of a formula.
use Rattle.std.proofs.Common.{◌≡◌, ◌∙◌, sym, ap, subst, refl, ℕ, ℤ, pos, negsuc, ◌-◌, ◌≤◌, ◌<◌, ◌^◌, Bool, true, ◌&&◌, nat_lt, List, [], ◌∷◌, ◌++◌, length, map, arith}
use Rattle.std.specs.Prelude.{Result}
use Rattle.std.specs.List.{flat_map, AllByRecursion}
use Rattle.std.proofs.lemmas.Bool.{leb-true, le-leb, ltb-true, lt-ltb}
use Rattle.std.proofs.lemmas.List.{length-map}
use Rattle.std.proofs.lemmas.List.Concat.{flat_map-cons}
use Rattle.formula_core.specs.declared.Ty.{Ty}
use Rattle.formula_core.specs.declared.Op.{Op}
use Rattle.formula_core.specs.declared.Binder.{Binder}
use Rattle.formula_core.specs.declared.Formula.{Formula, out-Formula, roll-Formula}
use Rattle.formula_core.specs.declared.Formula.TheOpen.{Formula-F, Int as IntF, Free as FreeF, Bound as BoundF, Node as NodeF, Bind as BindF}
use Rattle.formula_core.specs.declared.Formula.TheVariants.{Int, Free, Bound, Node, Bind}
use Rattle.formula_core.specs.declared.Formula.TheViews.{roll-out-Formula, rolls-Int, rolls-Free, rolls-Bound, rolls-Node, rolls-Bind}
use Rattle.formula_core.specs.declared.Formula.TheFolds.{map-Formula, fold-roll-Formula}
use Rattle.formula_core.specs.Formulas.{joined}
use Rattle.formula_core.specs.Names.{is_name}
use Rattle.formula_core.specs.Numbers.{number_of}
use Rattle.formula_core.specs.Sizes.{greatest, formula_height, formula_height_step, all_hold}
use Rattle.formula_core.proofs.Weakening.{first_true, second_true, both_true}
use Rattle.proof_codec.specs.declared.reader.ReadFault.{ReadFault}
use Rattle.proof_codec.specs.declared.reader.ReadFault.TheVariants as faults
use Rattle.proof_codec.specs.Forms.{BeginsWith, BeginsNone}
use Rattle.proof_codec.specs.Numbers.{IsByte, byte, number_bytes, IsInteger, integer, FitsU32, text_bytes}
use Rattle.proof_codec.specs.Names.{IsGoodName}
use Rattle.proof_codec.specs.Parts.{IsAny, IsPair, pair_bytes, IsList, list_bytes}
use Rattle.proof_codec.specs.Types.{type_bytes, has_carriers, IsGoodType}
use Rattle.proof_codec.specs.Formulas.{is_type, formula_bytes_step, formula_bytes, is_coded_step, is_coded}
use Rattle.proof_codec.specs.Private.{ReadsLeaf, IsReadAs, Misses, ReadsBy, op_bytes, binder_bytes, IsFormulaWithin}
use Rattle.proof_codec.proofs.Pairs.{pair_read, no_second_there, no_first_there}

abbrev Parts : ℕ → List Formula × Ty → Type 0
Parts depth = IsPair (IsList (IsFormulaWithin (depth - 1))) IsGoodType

abbrev pub parts_bytes : List Formula × Ty → List ℕ
parts_bytes = pair_bytes (list_bytes formula_bytes) type_bytes

abbrev Front : Binder × List Ty → Type 0
Front = IsPair IsAny (IsList IsGoodType)

abbrev pub front_bytes : Binder × List Ty → List ℕ
front_bytes = pair_bytes binder_bytes (list_bytes type_bytes)

-- the form of a formula of at most this height, by its variant
abbrev IsFormulaAt : ℕ → Formula-F Formula → Type 0
IsFormulaAt depth (IntF n) = (1 ≤ depth) × IsInteger n
IsFormulaAt depth (FreeF name ty) = (1 ≤ depth) × IsPair IsGoodName IsGoodType (name, ty)
IsFormulaAt depth (BoundF at ty) = (1 ≤ depth) × IsPair FitsU32 IsGoodType (at, ty)
IsFormulaAt depth (NodeF op parts ty) = (1 ≤ depth) × IsPair IsAny (Parts depth) (op, (parts, ty))
IsFormulaAt depth (BindF binder types parts ty) = (1 ≤ depth) × IsPair Front (Parts depth) ((binder, types), (parts, ty))

-- its bytes
abbrev pub bytes_by : Formula-F Formula → List ℕ
bytes_by (IntF n) = 0 ∷ integer n
bytes_by (FreeF name ty) = 1 ∷ pair_bytes text_bytes type_bytes (name, ty)
bytes_by (BoundF at ty) = 2 ∷ pair_bytes number_bytes type_bytes (at, ty)
bytes_by (NodeF op parts ty) = 3 ∷ pair_bytes op_bytes parts_bytes (op, (parts, ty))
bytes_by (BindF binder types parts ty) = 4 ∷ pair_bytes front_bytes parts_bytes ((binder, types), (parts, ty))

joined_is_flat : (fs : List Formula) → joined (map formula_bytes fs) ≡ flat_map formula_bytes fs
joined_is_flat [] = refl
joined_is_flat (f ∷ fs) = ap (λ b. formula_bytes f ++ b) (joined_is_flat fs) ∙ sym (flat_map-cons formula_bytes f fs)

list_is : (fs : List Formula) → number_bytes (length (map formula_bytes fs)) ++ joined (map formula_bytes fs) ≡ list_bytes formula_bytes fs
list_is fs = ap (λ n. number_bytes n ++ joined (map formula_bytes fs)) (length-map fs formula_bytes) ∙ ap (λ b. number_bytes (length fs) ++ b) (joined_is_flat fs)

pub bytes_at : (x : Formula-F Formula) → formula_bytes (roll-Formula x) ≡ bytes_by x
bytes_at (IntF n) = fold-roll-Formula (List ℕ) formula_bytes_step (IntF n)
bytes_at (FreeF name ty) = fold-roll-Formula (List ℕ) formula_bytes_step (FreeF name ty)
bytes_at (BoundF at ty) = fold-roll-Formula (List ℕ) formula_bytes_step (BoundF at ty)
bytes_at (NodeF op parts ty) = fold-roll-Formula (List ℕ) formula_bytes_step (NodeF op parts ty) ∙ ap (λ b. 3 ∷ number_of op ∷ (b ++ type_bytes ty)) (list_is parts)
bytes_at (BindF binder types parts ty) =
    fold-roll-Formula (List ℕ) formula_bytes_step (BindF binder types parts ty) ∙ ap (λ b. 4 ∷ (front_bytes (binder, types) ++ (b ++ type_bytes ty))) (list_is parts)

type_is : (ty : Ty) → is_type ty ≡ true → IsGoodType ty
type_is ty h = record { named = first_true (has_carriers ty) _ h; small = leb-true _ _ (second_true (has_carriers ty) _ h) }

pub is_type_of : (ty : Ty) → IsGoodType ty → is_type ty ≡ true
is_type_of ty is = both_true _ _ is.named (le-leb _ _ is.small)

types_are : (ts : List Ty) → all_hold (map is_type ts) ≡ true → AllByRecursion IsGoodType ts
types_are [] h = tt
types_are (t ∷ ts) h = (type_is t (first_true (is_type t) _ h), types_are ts (second_true (is_type t) _ h))

pub are_types : (ts : List Ty) → AllByRecursion IsGoodType ts → all_hold (map is_type ts) ≡ true
are_types [] all = refl
are_types (t ∷ ts) all = both_true _ _ (is_type_of t all.0) (are_types ts all.1)

formulas_are : (depth : ℕ) (fs : List Formula) → all_hold (map is_coded fs) ≡ true → greatest (map formula_height fs) ≤ depth → AllByRecursion (IsFormulaWithin depth) fs
formulas_are depth [] h low = tt
formulas_are depth (f ∷ fs) h low = (record { coded = first_true (is_coded f) _ h; low = omega (arith, low) }, formulas_are depth fs (second_true (is_coded f) _ h) (omega (arith, low)))

are_formulas : (depth : ℕ) (fs : List Formula) → AllByRecursion (IsFormulaWithin depth) fs → (all_hold (map is_coded fs) ≡ true) × (greatest (map formula_height fs) ≤ depth)
are_formulas depth [] all = (refl, omega arith)
are_formulas depth (f ∷ fs) all = let rest = are_formulas depth fs all.1 in (both_true _ _ all.0.coded rest.0, omega (arith, all.0.low, rest.1))

pub coded_at : (x : Formula-F Formula) → is_coded (roll-Formula x) ≡ is_coded_step (map-Formula Formula Bool is_coded x)
coded_at x = fold-roll-Formula Bool is_coded_step x

pub height_at : (x : Formula-F Formula) → formula_height (roll-Formula x) ≡ formula_height_step (map-Formula Formula ℕ formula_height x)
height_at x = fold-roll-Formula ℕ formula_height_step x

few : (fs : List Formula) → nat_lt (length (map is_coded fs)) (2 ^ 32) ≡ true → length fs < 2 ^ 32
few fs h = omega (arith, length-map fs is_coded, ltb-true _ _ h)

pub are_few : (fs : List Formula) → length fs < 2 ^ 32 → nat_lt (length (map is_coded fs)) (2 ^ 32) ≡ true
are_few fs h = lt-ltb _ _ (omega (arith, length-map fs is_coded))

opened : (depth : ℕ) (x : Formula-F Formula) → is_coded_step (map-Formula Formula Bool is_coded x) ≡ true → formula_height_step (map-Formula Formula ℕ formula_height x) ≤ depth → IsFormulaAt depth x
opened depth (IntF n) h low = (low, h)
opened depth (FreeF name ty) h low = (low, (first_true (is_name name) _ h, type_is ty (second_true (is_name name) _ h)))
opened depth (BoundF at ty) h low = (low, (ltb-true _ _ (first_true (nat_lt at (2 ^ 32)) _ h), type_is ty (second_true (nat_lt at (2 ^ 32)) _ h)))
opened depth (NodeF op parts ty) h low =
    let a : (nat_lt (length (map is_coded parts)) (2 ^ 32) && all_hold (map is_coded parts)) ≡ true = first_true _ _ h in (
      omega (arith, low),
      (
        tt,
        (
          (few parts (first_true _ _ a), formulas_are (depth - 1) parts (second_true (nat_lt (length (map is_coded parts)) (2 ^ 32)) _ a) (omega (arith, low))),
          type_is ty (second_true (nat_lt (length (map is_coded parts)) (2 ^ 32) && all_hold (map is_coded parts)) _ h),
        ),
      ),
    )
opened depth (BindF binder types parts ty) h low =
    let d : Bool = nat_lt (length types) (2 ^ 32) in
    let c : Bool = d && all_hold (map is_type types) in
    let b : Bool = c && nat_lt (length (map is_coded parts)) (2 ^ 32) in
    let a : Bool = b && all_hold (map is_coded parts) in
    let ha : a ≡ true = first_true a _ h in
    let hb : b ≡ true = first_true b _ ha in
    let hc : c ≡ true = first_true c _ hb in
    (omega (arith, low), ((tt, (ltb-true _ _ (first_true d _ hc), types_are types (second_true d _ hc))), ((few parts (second_true c _ hb), formulas_are (depth - 1) parts (second_true b _ ha) (omega (arith, low))), type_is ty (second_true a _ h))))

closed : (depth : ℕ) (x : Formula-F Formula) → IsFormulaAt depth x → (is_coded_step (map-Formula Formula Bool is_coded x) ≡ true) × (formula_height_step (map-Formula Formula ℕ formula_height x) ≤ depth)
closed depth (IntF n) is = (is.1, is.0)
closed depth (FreeF name ty) is = (both_true _ _ is.1.0 (is_type_of ty is.1.1), is.0)
closed depth (BoundF at ty) is = (both_true _ _ (lt-ltb _ _ is.1.0) (is_type_of ty is.1.1), is.0)
closed depth (NodeF op parts ty) is =
    let fs = are_formulas (depth - 1) parts is.1.1.0.1 in
    (both_true _ _ (both_true _ _ (are_few parts is.1.1.0.0) fs.0) (is_type_of ty is.1.1.1), omega (arith, fs.1, is.0))
closed depth (BindF binder types parts ty) is =
    let fs = are_formulas (depth - 1) parts is.1.1.0.1 in
    (both_true _ _ (both_true _ _ (both_true _ _ (both_true _ _ (lt-ltb _ _ is.1.0.1.0) (are_types types is.1.0.1.1)) (are_few parts is.1.1.0.0)) fs.0) (is_type_of ty is.1.1.1), omega (arith, fs.1, is.0))

is_within : (depth : ℕ) (x : Formula-F Formula) → IsFormulaAt depth x → IsFormulaWithin depth (roll-Formula x)
is_within depth x is = let c = closed depth x is in record { coded = coded_at x ∙ c.0; low = subst (λ n. n ≤ depth) (sym (height_at x)) c.1 }

record Stands (depth : ℕ) (bytes : List ℕ) (y : Formula) (others : List ℕ) : Type 0 where
  form : Formula-F Formula
  is : roll-Formula form ≡ y
  good : IsFormulaAt depth form
  split : bytes ≡ bytes_by form ++ others

stands : (depth : ℕ) (bytes : List ℕ) (y : Formula) (others : List ℕ) → BeginsWith (IsFormulaWithin depth) formula_bytes bytes y others → Stands depth bytes y others
stands depth bytes y others begins =
    let x = out-Formula y in
    let is : roll-Formula x ≡ y = roll-out-Formula y in
    record {
      form = x;
      is = is;
      good = opened depth x (sym (coded_at x) ∙ ap is_coded is ∙ begins.good.coded) (subst (λ n. n ≤ depth) (height_at x) (subst (λ t. formula_height t ≤ depth) (sym is) begins.good.low));
      split = begins.split ∙ ap (λ t. formula_bytes t ++ others) (sym is) ∙ ap (λ bytes. bytes ++ others) (bytes_at x);
    }

made : (depth : ℕ) (bytes : List ℕ) (x : Formula-F Formula) (y : Formula) (new : List ℕ) → roll-Formula x ≡ y → IsFormulaAt depth x → bytes ≡ bytes_by x ++ new
    → ((z : Formula-F Formula) (others : List ℕ) → IsFormulaAt depth z → bytes ≡ bytes_by z ++ others → (z ≡ x) × (others ≡ new))
    → IsReadAs (IsFormulaWithin depth) formula_bytes bytes y new
made depth bytes x y new is good split only = subst (λ t. IsReadAs (IsFormulaWithin depth) formula_bytes bytes t new) is (record {
  here = record { good = is_within depth x good; split = split ∙ ap (λ b. b ++ new) (sym (bytes_at x)) };
  only = λ t others begins.
      let s = stands depth bytes t others begins in
      let same = only s.form others s.good s.split in
      (sym s.is ∙ ap roll-Formula same.0, same.1);
})

nothing : (depth : ℕ) (bytes : List ℕ) → ((z : Formula-F Formula) (others : List ℕ) → IsFormulaAt depth z → bytes ≡ bytes_by z ++ others → ⊥)
    → BeginsNone (IsFormulaWithin depth) formula_bytes bytes
nothing depth bytes none = record { none = λ t others begins. let s = stands depth bytes t others begins in none s.form others s.good s.split }

abbrev behind_tag : {A : Type 0} → (A → List ℕ) → ℕ → A → List ℕ
behind_tag f tag x = tag ∷ f x

same_behind : (tag : ℕ) (xs ys : List ℕ) → tag ∷ xs ≡ tag ∷ ys → xs ≡ ys
same_behind tag xs ys e = cc

module _ (depth : ℕ) (some : 1 ≤ depth) (old mid new : List ℕ) where
  -- each variant is what stands behind its tag
  abbrev OnlyAt : {A : Type 0} → ℕ → (A → Type 0) → (A → List ℕ) → (A → Formula-F Formula) → Type 0
  OnlyAt {A} tag P f form = (z : Formula-F Formula) (others : List ℕ) → IsFormulaAt depth z → tag ∷ mid ≡ bytes_by z ++ others → (x : A) × (z ≡ form x) × P x × (mid ≡ f x ++ others)

  int_at : OnlyAt 0 IsInteger integer (λ n. IntF n)
  int_at (IntF n) others good split = (n, refl, good.1, same_behind 0 _ _ split)
  int_at _ others good split = absurd cc

  free_at : OnlyAt 1 (IsPair IsGoodName IsGoodType) (pair_bytes text_bytes type_bytes) (λ x. FreeF x.0 x.1)
  free_at (FreeF name ty) others good split = ((name, ty), refl, good.1, same_behind 1 _ _ split)
  free_at _ others good split = absurd cc

  bound_at : OnlyAt 2 (IsPair FitsU32 IsGoodType) (pair_bytes number_bytes type_bytes) (λ x. BoundF x.0 x.1)
  bound_at (BoundF at ty) others good split = ((at, ty), refl, good.1, same_behind 2 _ _ split)
  bound_at _ others good split = absurd cc

  node_at : OnlyAt 3 (IsPair IsAny (Parts depth)) (pair_bytes op_bytes parts_bytes) (λ x. NodeF x.0 x.1.0 x.1.1)
  node_at (NodeF op parts ty) others good split = ((op, (parts, ty)), refl, good.1, same_behind 3 _ _ split)
  node_at _ others good split = absurd cc

  bind_at : OnlyAt 4 (IsPair Front (Parts depth)) (pair_bytes front_bytes parts_bytes) (λ x. BindF x.0.0 x.0.1 x.1.0 x.1.1)
  bind_at (BindF binder types parts ty) others good split = (((binder, types), (parts, ty)), refl, good.1, same_behind 4 _ _ split)
  bind_at _ others good split = absurd cc

  -- what is read behind the tag makes the formula
  made_by : {A : Type 0} → (tag : ℕ) (P : A → Type 0) (f : A → List ℕ) (form : A → Formula-F Formula) → OnlyAt tag P f form → (x : A) (y : Formula)
      → roll-Formula (form x) ≡ y → IsFormulaAt depth (form x) → bytes_by (form x) ≡ tag ∷ f x → IsReadAs IsByte byte old tag mid → IsReadAs P f mid x new
      → IsReadAs (IsFormulaWithin depth) formula_bytes old y new
  made_by tag P f form only_at x y rolls good is first read = made depth old (form x) y new rolls good (first.here.split ∙ ap (λ b. tag ∷ b) read.here.split ∙ ap (λ b. b ++ new) (sym is))
      (λ z others at split.
      let w = only_at z others at (sym first.here.split ∙ split) in
      let same = read.only w.0 others (record { good = w.2; split = w.3 }) in
      (w.1 ∙ ap form same.0, same.1))

  none_by : {A : Type 0} → (tag : ℕ) (P : A → Type 0) (f : A → List ℕ) (form : A → Formula-F Formula) → OnlyAt tag P f form
      → (fault : ReadFault) → IsReadAs IsByte byte old tag mid → Misses P f mid fault → Misses (IsFormulaWithin depth) formula_bytes old fault
  none_by tag P f form only_at faults.OutOfMemory first bad = tt
  none_by tag P f form only_at faults.Bad first bad = nothing depth old (λ z others at split.
      let w = only_at z others at (sym first.here.split ∙ split) in
      bad.none w.0 others (record { good = w.2; split = w.3 }))

  pub int_read : (n : ℤ) → IsReadAs IsByte byte old 0 mid → IsReadAs IsInteger integer mid n new → IsReadAs (IsFormulaWithin depth) formula_bytes old (Int n) new
  int_read n first read = made_by 0 IsInteger integer (λ n. IntF n) int_at n (Int n) (rolls-Int n) (some, read.here.good) refl first read

  pub no_int : (fault : ReadFault) → IsReadAs IsByte byte old 0 mid → Misses IsInteger integer mid fault → Misses (IsFormulaWithin depth) formula_bytes old fault
  no_int = none_by 0 IsInteger integer (λ n. IntF n) int_at

  pub free_read : (name : List ℕ) (ty : Ty) → IsReadAs IsByte byte old 1 mid → IsReadAs (IsPair IsGoodName IsGoodType) (pair_bytes text_bytes type_bytes) mid (name, ty) new → IsReadAs (IsFormulaWithin depth) formula_bytes old (Free name ty) new
  free_read name ty first read = made_by 1 (IsPair IsGoodName IsGoodType) (pair_bytes text_bytes type_bytes) (λ x. FreeF x.0 x.1) free_at (name, ty) (Free name ty) (rolls-Free name ty) (some, read.here.good) refl first read

  pub no_free : (fault : ReadFault) → IsReadAs IsByte byte old 1 mid → Misses (IsPair IsGoodName IsGoodType) (pair_bytes text_bytes type_bytes) mid fault → Misses (IsFormulaWithin depth) formula_bytes old fault
  no_free = none_by 1 (IsPair IsGoodName IsGoodType) (pair_bytes text_bytes type_bytes) (λ x. FreeF x.0 x.1) free_at

  pub bound_read : (at : ℕ) (ty : Ty) → IsReadAs IsByte byte old 2 mid → IsReadAs (IsPair FitsU32 IsGoodType) (pair_bytes number_bytes type_bytes) mid (at, ty) new → IsReadAs (IsFormulaWithin depth) formula_bytes old (Bound at ty) new
  bound_read at ty first read = made_by 2 (IsPair FitsU32 IsGoodType) (pair_bytes number_bytes type_bytes) (λ x. BoundF x.0 x.1) bound_at (at, ty) (Bound at ty) (rolls-Bound at ty) (some, read.here.good) refl first read

  pub no_bound : (fault : ReadFault) → IsReadAs IsByte byte old 2 mid → Misses (IsPair FitsU32 IsGoodType) (pair_bytes number_bytes type_bytes) mid fault → Misses (IsFormulaWithin depth) formula_bytes old fault
  no_bound = none_by 2 (IsPair FitsU32 IsGoodType) (pair_bytes number_bytes type_bytes) (λ x. BoundF x.0 x.1) bound_at

  pub node_read : (op : Op) (parts : List Formula) (ty : Ty) → IsReadAs IsByte byte old 3 mid → IsReadAs (IsPair IsAny (Parts depth)) (pair_bytes op_bytes parts_bytes) mid (op, (parts, ty)) new
      → IsReadAs (IsFormulaWithin depth) formula_bytes old (Node op parts ty) new
  node_read op parts ty first read =
      made_by 3 (IsPair IsAny (Parts depth)) (pair_bytes op_bytes parts_bytes) (λ x. NodeF x.0 x.1.0 x.1.1) node_at (op, (parts, ty)) (Node op parts ty) (rolls-Node op parts ty) (some, read.here.good) refl first read

  pub no_node : (fault : ReadFault) → IsReadAs IsByte byte old 3 mid → Misses (IsPair IsAny (Parts depth)) (pair_bytes op_bytes parts_bytes) mid fault → Misses (IsFormulaWithin depth) formula_bytes old fault
  no_node = none_by 3 (IsPair IsAny (Parts depth)) (pair_bytes op_bytes parts_bytes) (λ x. NodeF x.0 x.1.0 x.1.1) node_at

  pub bind_read : (binder : Binder) (types : List Ty) (parts : List Formula) (ty : Ty) → IsReadAs IsByte byte old 4 mid
      → IsReadAs (IsPair Front (Parts depth)) (pair_bytes front_bytes parts_bytes) mid ((binder, types), (parts, ty)) new → IsReadAs (IsFormulaWithin depth) formula_bytes old (Bind binder types parts ty) new
  bind_read binder types parts ty first read =
      made_by 4 (IsPair Front (Parts depth)) (pair_bytes front_bytes parts_bytes) (λ x. BindF x.0.0 x.0.1 x.1.0 x.1.1) bind_at ((binder, types), (parts, ty)) (Bind binder types parts ty) (rolls-Bind binder types parts ty)
      (some, read.here.good) refl first read

  pub no_bind : (fault : ReadFault) → IsReadAs IsByte byte old 4 mid → Misses (IsPair Front (Parts depth)) (pair_bytes front_bytes parts_bytes) mid fault → Misses (IsFormulaWithin depth) formula_bytes old fault
  no_bind = none_by 4 (IsPair Front (Parts depth)) (pair_bytes front_bytes parts_bytes) (λ x. BindF x.0.0 x.0.1 x.1.0 x.1.1) bind_at

  pub no_formula : (tag : ℕ) → IsReadAs IsByte byte old tag mid → 5 ≤ tag → BeginsNone (IsFormulaWithin depth) formula_bytes old
  no_formula tag first large = nothing depth old none
    where
      other_tag : (n : ℕ) (bytes : List ℕ) → n < 5 → old ≡ n ∷ bytes → ⊥
      other_tag n bytes small is = let e : n ≡ tag = (let k : n ∷ bytes ≡ tag ∷ mid = sym is ∙ first.here.split in cc) in omega arith

      none : (z : Formula-F Formula) (others : List ℕ) → IsFormulaAt depth z → old ≡ bytes_by z ++ others → ⊥
      none (IntF n) others good split = other_tag 0 (integer n ++ others) (omega arith) split
      none (FreeF name ty) others good split = other_tag 1 (pair_bytes text_bytes type_bytes (name, ty) ++ others) (omega arith) split
      none (BoundF at ty) others good split = other_tag 2 (pair_bytes number_bytes type_bytes (at, ty) ++ others) (omega arith) split
      none (NodeF op parts ty) others good split = other_tag 3 (pair_bytes op_bytes parts_bytes (op, (parts, ty)) ++ others) (omega arith) split
      none (BindF binder types parts ty) others good split = other_tag 4 (pair_bytes front_bytes parts_bytes ((binder, types), (parts, ty)) ++ others) (omega arith) split

pub no_depth : (old : List ℕ) → BeginsNone (IsFormulaWithin 0) formula_bytes old
no_depth old = nothing 0 old none
  where
    none : (z : Formula-F Formula) (others : List ℕ) → IsFormulaAt 0 z → old ≡ bytes_by z ++ others → ⊥
    none (IntF n) others good split = omega (arith, good.0)
    none (FreeF name ty) others good split = omega (arith, good.0)
    none (BoundF at ty) others good split = omega (arith, good.0)
    none (NodeF op parts ty) others good split = omega (arith, good.0)
    none (BindF binder types parts ty) others good split = omega (arith, good.0)

pub no_tag : (depth : ℕ) (fault : ReadFault) (old : List ℕ) → Misses IsByte byte old fault → Misses (IsFormulaWithin depth) formula_bytes old fault
no_tag depth faults.OutOfMemory old bad = tt
no_tag depth faults.Bad old bad = nothing depth old none
  where
    at : (tag : ℕ) (behind : List ℕ) → tag < 256 → old ≡ tag ∷ behind → ⊥
    at tag behind small is = bad.none tag behind (record { good = small; split = is })

    none : (z : Formula-F Formula) (others : List ℕ) → IsFormulaAt depth z → old ≡ bytes_by z ++ others → ⊥
    none (IntF n) others good split = at 0 (integer n ++ others) (omega arith) split
    none (FreeF name ty) others good split = at 1 (pair_bytes text_bytes type_bytes (name, ty) ++ others) (omega arith) split
    none (BoundF i ty) others good split = at 2 (pair_bytes number_bytes type_bytes (i, ty) ++ others) (omega arith) split
    none (NodeF op parts ty) others good split = at 3 (pair_bytes op_bytes parts_bytes (op, (parts, ty)) ++ others) (omega arith) split
    none (BindF binder types parts ty) others good split = at 4 (pair_bytes front_bytes parts_bytes ((binder, types), (parts, ty)) ++ others) (omega arith) split

-- a formula without parts, whose tag was read before
module _ (tag : ℕ) (mid new : List ℕ) (depth : ℕ) (some : 1 ≤ depth) where
  there : (n : ℕ) → tag ≡ n → n < 256 → IsReadAs IsByte byte (tag ∷ mid) n mid
  there n is small = subst (λ k. IsReadAs IsByte byte (tag ∷ mid) k mid) is (record {
    here = record { good = omega (arith, is, small); split = refl };
    only = λ y others begins. (let e : tag ∷ mid ≡ y ∷ others = begins.split in (cc), let e : tag ∷ mid ≡ y ∷ others = begins.split in (cc));
  })

  pub int_behind : tag ≡ 0 → (n : ℤ) → IsReadAs IsInteger integer mid n new → IsReadAs (IsFormulaWithin depth) formula_bytes (tag ∷ mid) (Int n) new
  int_behind is n read = int_read depth some (tag ∷ mid) mid new n (there 0 is (omega arith)) read

  pub no_int_behind : tag ≡ 0 → (fault : ReadFault) → Misses IsInteger integer mid fault → Misses (IsFormulaWithin depth) formula_bytes (tag ∷ mid) fault
  no_int_behind is fault bad = no_int depth some (tag ∷ mid) mid new fault (there 0 is (omega arith)) bad

  pub free_behind : tag ≡ 1 → (name : List ℕ) (ty : Ty) → IsReadAs (IsPair IsGoodName IsGoodType) (pair_bytes text_bytes type_bytes) mid (name, ty) new → IsReadAs (IsFormulaWithin depth) formula_bytes (tag ∷ mid) (Free name ty) new
  free_behind is name ty read = free_read depth some (tag ∷ mid) mid new name ty (there 1 is (omega arith)) read

  pub no_free_behind : tag ≡ 1 → (fault : ReadFault) → Misses (IsPair IsGoodName IsGoodType) (pair_bytes text_bytes type_bytes) mid fault → Misses (IsFormulaWithin depth) formula_bytes (tag ∷ mid) fault
  no_free_behind is fault bad = no_free depth some (tag ∷ mid) mid new fault (there 1 is (omega arith)) bad

  pub bound_behind : tag ≡ 2 → (at : ℕ) (ty : Ty) → IsReadAs (IsPair FitsU32 IsGoodType) (pair_bytes number_bytes type_bytes) mid (at, ty) new → IsReadAs (IsFormulaWithin depth) formula_bytes (tag ∷ mid) (Bound at ty) new
  bound_behind is at ty read = bound_read depth some (tag ∷ mid) mid new at ty (there 2 is (omega arith)) read

  pub no_bound_behind : tag ≡ 2 → (fault : ReadFault) → Misses (IsPair FitsU32 IsGoodType) (pair_bytes number_bytes type_bytes) mid fault → Misses (IsFormulaWithin depth) formula_bytes (tag ∷ mid) fault
  no_bound_behind is fault bad = no_bound depth some (tag ∷ mid) mid new fault (there 2 is (omega arith)) bad

  pub no_leaf_behind : tag < 256 → 5 ≤ tag → BeginsNone (IsFormulaWithin depth) formula_bytes (tag ∷ mid)
  no_leaf_behind small large = no_formula depth some (tag ∷ mid) mid new tag (there tag refl small) large

-- an operation: its operator, its parts and its type
module _ (depth : ℕ) (old mid one two new : List ℕ) (first : IsReadAs IsByte byte old 3 mid) (some : 1 ≤ depth) (op : Op) (read_op : IsReadAs IsAny op_bytes mid op one) where
  abbrev AreParts : List Formula → Type 0
  AreParts = IsList (IsFormulaWithin (depth - 1))

  pub operation_read : (parts : List Formula) (ty : Ty) → IsReadAs AreParts (list_bytes formula_bytes) one parts two → IsReadAs IsGoodType type_bytes two ty new → IsReadAs (IsFormulaWithin depth) formula_bytes old (Node op parts ty) new
  operation_read parts ty read_parts read_type = node_read depth some old mid new op parts ty first
      (pair_read IsAny op_bytes (Parts depth) parts_bytes mid one new op (parts, ty) read_op (pair_read AreParts (list_bytes formula_bytes) IsGoodType type_bytes one two new parts ty read_parts read_type))

  pub no_operation_type : (parts : List Formula) (fault : ReadFault) → IsReadAs AreParts (list_bytes formula_bytes) one parts two → Misses IsGoodType type_bytes two fault → Misses (IsFormulaWithin depth) formula_bytes old fault
  no_operation_type parts fault read_parts bad = no_node depth some old mid new fault first
      (no_second_there IsAny op_bytes (Parts depth) parts_bytes mid one new op fault read_op (no_second_there AreParts (list_bytes formula_bytes) IsGoodType type_bytes one two new parts fault read_parts bad))

  pub no_operation_parts : (fault : ReadFault) → Misses AreParts (list_bytes formula_bytes) one fault → Misses (IsFormulaWithin depth) formula_bytes old fault
  no_operation_parts fault bad = no_node depth some old mid new fault first
      (no_second_there IsAny op_bytes (Parts depth) parts_bytes mid one new op fault read_op (no_first_there AreParts (list_bytes formula_bytes) IsGoodType type_bytes one two new fault bad))

pub no_operator : (depth : ℕ) (old mid new : List ℕ) → IsReadAs IsByte byte old 3 mid → 1 ≤ depth → (fault : ReadFault) → Misses IsAny op_bytes mid fault → Misses (IsFormulaWithin depth) formula_bytes old fault
no_operator depth old mid new first some fault bad = no_node depth some old mid new fault first (no_first_there IsAny op_bytes (Parts depth) parts_bytes mid mid new fault bad)

-- a binder and its types, its parts and its type
module _ (depth : ℕ) (old mid one two new : List ℕ) (first : IsReadAs IsByte byte old 4 mid) (some : 1 ≤ depth) (binder : Binder) (types : List Ty)
    (read_front : IsReadAs Front front_bytes mid (binder, types) one) where
  abbrev AreBodies : List Formula → Type 0
  AreBodies = IsList (IsFormulaWithin (depth - 1))

  pub binding_read : (parts : List Formula) (ty : Ty) → IsReadAs AreBodies (list_bytes formula_bytes) one parts two → IsReadAs IsGoodType type_bytes two ty new
      → IsReadAs (IsFormulaWithin depth) formula_bytes old (Bind binder types parts ty) new
  binding_read parts ty read_parts read_type = bind_read depth some old mid new binder types parts ty first
      (pair_read Front front_bytes (Parts depth) parts_bytes mid one new (binder, types) (parts, ty) read_front (pair_read AreBodies (list_bytes formula_bytes) IsGoodType type_bytes one two new parts ty read_parts read_type))

  pub no_binding_type : (parts : List Formula) (fault : ReadFault) → IsReadAs AreBodies (list_bytes formula_bytes) one parts two → Misses IsGoodType type_bytes two fault → Misses (IsFormulaWithin depth) formula_bytes old fault
  no_binding_type parts fault read_parts bad = no_bind depth some old mid new fault first
      (no_second_there Front front_bytes (Parts depth) parts_bytes mid one new (binder, types) fault read_front (no_second_there AreBodies (list_bytes formula_bytes) IsGoodType type_bytes one two new parts fault read_parts bad))

  pub no_binding_parts : (fault : ReadFault) → Misses AreBodies (list_bytes formula_bytes) one fault → Misses (IsFormulaWithin depth) formula_bytes old fault
  no_binding_parts fault bad = no_bind depth some old mid new fault first
      (no_second_there Front front_bytes (Parts depth) parts_bytes mid one new (binder, types) fault read_front (no_first_there AreBodies (list_bytes formula_bytes) IsGoodType type_bytes one two new fault bad))

pub no_binder : (depth : ℕ) (old mid new : List ℕ) → IsReadAs IsByte byte old 4 mid → 1 ≤ depth → (fault : ReadFault) → Misses Front front_bytes mid fault → Misses (IsFormulaWithin depth) formula_bytes old fault
no_binder depth old mid new first some fault bad = no_bind depth some old mid new fault first (no_first_there Front front_bytes (Parts depth) parts_bytes mid mid new fault bad)

-- the whole of a formula of which a tag and what stands behind it were read
pub behind_first : (depth tag : ℕ) (old mid new : List ℕ) (result : Result Formula ReadFault) → IsReadAs IsByte byte old tag mid → 1 ≤ depth → ReadsLeaf tag mid new result → ReadsBy (IsFormulaWithin depth) formula_bytes old new result
behind_first depth tag old mid new result first some reads = subst (λ b. ReadsBy (IsFormulaWithin depth) formula_bytes b new result) (sym first.here.split) (reads depth some)
