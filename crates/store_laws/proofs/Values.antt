-- Types and formulas are read in one way.
use Rattle.std.proofs.Common.{◌≡◌, ◌∙◌, refl, sym, ap, subst, ℕ, ℤ, ◌<◌, ◌^◌, Bool, true, ◌&&◌, nat_lt, List, [], ◌∷◌, ◌++◌, length, map, arith}
use Rattle.std.specs.List.{AllByRecursion}
use Rattle.std.proofs.lemmas.Bool.{leb-true, ltb-true}
use Rattle.std.proofs.lemmas.List.{length-map}
use Rattle.formula_core.specs.declared.Op.{Op}
use Rattle.formula_core.specs.declared.Binder.{Binder}
use Rattle.formula_core.specs.declared.Ty.{Ty, out-Ty, roll-Ty}
use Rattle.formula_core.specs.declared.Ty.TheOpen.{Ty-F, Int as IntT, Bool as BoolT, Given as GivenT, Pow as PowT, Pair as PairT, Truth as TruthT}
use Rattle.formula_core.specs.declared.Ty.TheViews.{roll-out-Ty, rolls-Int as rolls-IntT, rolls-Bool, rolls-Given, rolls-Pow, rolls-Pair, rolls-Truth}
use Rattle.formula_core.specs.declared.Ty.TheFolds.{map-Ty, fold-roll-Ty}
use Rattle.formula_core.specs.declared.Formula.{Formula, out-Formula, roll-Formula}
use Rattle.formula_core.specs.declared.Formula.TheOpen.{Formula-F, Int as IntF, Free as FreeF, Bound as BoundF, Node as NodeF, Bind as BindF}
use Rattle.formula_core.specs.declared.Formula.TheViews.{roll-out-Formula, rolls-Int, rolls-Free, rolls-Bound, rolls-Node, rolls-Bind}
use Rattle.formula_core.specs.declared.Formula.TheFolds.{map-Formula}
use Rattle.formula_core.specs.Names.{is_name}
use Rattle.formula_core.specs.Sizes.{all_hold}
use Rattle.formula_core.proofs.Induction.{formula_induction}
use Rattle.formula_core.proofs.Types.{type_induction}
use Rattle.formula_core.proofs.Weakening.{first_true, second_true}
use Rattle.proof_codec.specs.Names.{IsGoodName}
use Rattle.proof_codec.specs.Numbers.{FitsU32, number_bytes, IsInteger, text_bytes}
use Rattle.proof_codec.specs.Parts.{IsAny, IsPair, IsList, list_bytes}
use Rattle.proof_codec.specs.Types.{type_bytes_step, type_bytes, has_carriers_step, has_carriers, IsGoodType}
use Rattle.proof_codec.specs.Formulas.{is_type, formula_bytes, is_coded_step, is_coded, IsGoodFormula}
use Rattle.proof_codec.specs.Private.{IsCoded, op_bytes, binder_bytes}
use Rattle.proof_codec.proofs.Formulae.{parts_bytes, front_bytes, bytes_by, bytes_at, coded_at}
use Rattle.proof_codec.proofs.Tags.{same_behind}
use Rattle.store_laws.proofs.Readings.{IsOnly, Reads, narrow_reads, number_reads, op_reads, binder_reads, pair_only, pair_reads, list_only, list_reads, integer_reads, name_reads}

-- TYPES

abbrev IsNamed : Ty → Type 0
IsNamed ty = has_carriers ty ≡ true

-- the bytes of a variant, and whether its carrier sets have names
abbrev type_bytes_of : Ty-F Ty → List ℕ
type_bytes_of x = type_bytes_step (map-Ty Ty (List ℕ) type_bytes x)

abbrev IsNamedAt : Ty-F Ty → Type 0
IsNamedAt x = has_carriers_step (map-Ty Ty Bool has_carriers x) ≡ true

abbrev IsOnlyType : Ty-F Ty → Type 0
IsOnlyType x = IsNamedAt x → (z : Ty-F Ty) (r s : List ℕ) → IsNamedAt z → type_bytes_of x ++ r ≡ type_bytes_of z ++ s → (x ≡ z) × (r ≡ s)

type_bytes_at : (x : Ty-F Ty) → type_bytes (roll-Ty x) ≡ type_bytes_of x
type_bytes_at x = fold-roll-Ty (List ℕ) type_bytes_step x

carriers_at : (x : Ty-F Ty) → has_carriers (roll-Ty x) ≡ has_carriers_step (map-Ty Ty Bool has_carriers x)
carriers_at x = fold-roll-Ty Bool has_carriers_step x

rolled_type : (x : Ty-F Ty) → IsOnlyType x → IsOnly IsNamed type_bytes (roll-Ty x)
rolled_type x only good y r s fine is =
    let z = out-Ty y in
    let rolls : roll-Ty z ≡ y = roll-out-Ty y in
    let same = only (sym (carriers_at x) ∙ good) z r s (sym (carriers_at z) ∙ ap has_carriers rolls ∙ fine)
    (ap (λ b. b ++ r) (sym (type_bytes_at x)) ∙ is ∙ ap (λ t. type_bytes t ++ s) (sym rolls) ∙ ap (λ b. b ++ s) (type_bytes_at z)) in
    (ap roll-Ty same.0 ∙ rolls, same.1)

int_type : IsOnlyType IntT
int_type good IntT r s fine is = (refl, same_behind 0 _ _ is)
int_type good _ r s fine is = absurd cc

bool_type : IsOnlyType BoolT
bool_type good BoolT r s fine is = (refl, same_behind 1 _ _ is)
bool_type good _ r s fine is = absurd cc

given_type : (name : List ℕ) → IsOnlyType (GivenT name)
given_type name good (GivenT other) r s fine is = let same = name_reads name good other r s fine (same_behind 2 _ _ is) in ((λ i. GivenT (same.0 i)), same.1)
given_type name good _ r s fine is = absurd cc

pow_type : (t : Ty) → IsOnly IsNamed type_bytes t → IsOnlyType (PowT t)
pow_type t one good (PowT u) r s fine is = let same = one good u r s fine (same_behind 3 _ _ is) in ((λ i. PowT (same.0 i)), same.1)
pow_type t one good _ r s fine is = absurd cc

both_named : (t u : Ty) → IsNamedAt (PairT t u) → IsPair IsNamed IsNamed (t, u)
both_named t u is = (first_true (has_carriers t) (has_carriers u) is, second_true (has_carriers t) (has_carriers u) is)

pair_type : (t u : Ty) → IsOnly IsNamed type_bytes t → IsOnly IsNamed type_bytes u → IsOnlyType (PairT t u)
pair_type t u one two good (PairT v w) r s fine is =
    let same = pair_only IsNamed type_bytes IsNamed type_bytes (t, u) one two (both_named t u good) (v, w) r s (both_named v w fine) (same_behind 4 _ _ is) in
    ((λ i. PairT (same.0 i).0 (same.0 i).1), same.1)
pair_type t u one two good _ r s fine is = absurd cc

truth_type : IsOnlyType TruthT
truth_type good TruthT r s fine is = (refl, same_behind 5 _ _ is)
truth_type good _ r s fine is = absurd cc

named_reads : Reads IsNamed type_bytes
named_reads =
    let M : Ty → Type 0 = IsOnly IsNamed type_bytes in
    type_induction M
    (subst M rolls-IntT (rolled_type IntT int_type))
    (subst M rolls-Bool (rolled_type BoolT bool_type))
    (λ name. subst M (rolls-Given name) (rolled_type (GivenT name) (given_type name)))
    (λ t one. subst M (rolls-Pow t) (rolled_type (PowT t) (pow_type t one)))
    (λ t u one two. subst M (rolls-Pair t u) (rolled_type (PairT t u) (pair_type t u one two)))
    (subst M rolls-Truth (rolled_type TruthT truth_type))

pub type_reads : Reads IsGoodType type_bytes
type_reads = narrow_reads IsNamed IsGoodType type_bytes (λ t is. is.named) named_reads

-- FORMULAS

abbrev Parts : List Formula × Ty → Type 0
Parts = IsPair (IsList IsCoded) IsGoodType

abbrev Front : Binder × List Ty → Type 0
Front = IsPair IsAny (IsList IsGoodType)

-- whether the parts of a variant have bytes
abbrev IsCodedAt : Formula-F Formula → Type 0
IsCodedAt (IntF n) = IsInteger n
IsCodedAt (FreeF name ty) = IsPair IsGoodName IsGoodType (name, ty)
IsCodedAt (BoundF at ty) = IsPair FitsU32 IsGoodType (at, ty)
IsCodedAt (NodeF op parts ty) = IsPair IsAny Parts (op, (parts, ty))
IsCodedAt (BindF binder types parts ty) = IsPair Front Parts ((binder, types), (parts, ty))

type_is : (ty : Ty) → is_type ty ≡ true → IsGoodType ty
type_is ty h = record { named = first_true (has_carriers ty) _ h; small = leb-true _ _ (second_true (has_carriers ty) _ h) }

types_are : (ts : List Ty) → all_hold (map is_type ts) ≡ true → AllByRecursion IsGoodType ts
types_are [] h = tt
types_are (t ∷ ts) h = (type_is t (first_true (is_type t) _ h), types_are ts (second_true (is_type t) _ h))

are_coded : (fs : List Formula) → all_hold (map is_coded fs) ≡ true → AllByRecursion IsCoded fs
are_coded [] h = tt
are_coded (f ∷ fs) h = (first_true (is_coded f) _ h, are_coded fs (second_true (is_coded f) _ h))

few : (fs : List Formula) → nat_lt (length (map is_coded fs)) (2 ^ 32) ≡ true → length fs < 2 ^ 32
few fs h = omega (arith, length-map fs is_coded, ltb-true _ _ h)

opened : (x : Formula-F Formula) → is_coded_step (map-Formula Formula Bool is_coded x) ≡ true → IsCodedAt x
opened (IntF n) h = h
opened (FreeF name ty) h = (first_true (is_name name) _ h, type_is ty (second_true (is_name name) _ h))
opened (BoundF at ty) h = (ltb-true _ _ (first_true (nat_lt at (2 ^ 32)) _ h), type_is ty (second_true (nat_lt at (2 ^ 32)) _ h))
opened (NodeF op parts ty) h =
    let b : Bool = nat_lt (length (map is_coded parts)) (2 ^ 32) in
    let a : Bool = b && all_hold (map is_coded parts) in
    let ha : a ≡ true = first_true a _ h in
    (tt, ((few parts (first_true b _ ha), are_coded parts (second_true b _ ha)), type_is ty (second_true a _ h)))
opened (BindF binder types parts ty) h =
    let d : Bool = nat_lt (length types) (2 ^ 32) in
    let c : Bool = d && all_hold (map is_type types) in
    let b : Bool = c && nat_lt (length (map is_coded parts)) (2 ^ 32) in
    let a : Bool = b && all_hold (map is_coded parts) in
    let ha : a ≡ true = first_true a _ h in
    let hb : b ≡ true = first_true b _ ha in
    let hc : c ≡ true = first_true c _ hb in
    ((tt, (ltb-true _ _ (first_true d _ hc), types_are types (second_true d _ hc))), ((few parts (second_true c _ hb), are_coded parts (second_true b _ ha)), type_is ty (second_true a _ h)))

abbrev IsOnlyFormula : Formula-F Formula → Type 0
IsOnlyFormula x = IsCodedAt x → (z : Formula-F Formula) (r s : List ℕ) → IsCodedAt z → bytes_by x ++ r ≡ bytes_by z ++ s → (x ≡ z) × (r ≡ s)

rolled : (x : Formula-F Formula) → IsOnlyFormula x → IsOnly IsCoded formula_bytes (roll-Formula x)
rolled x only good y r s fine is =
    let z = out-Formula y in
    let rolls : roll-Formula z ≡ y = roll-out-Formula y in
    let same = only (opened x (sym (coded_at x) ∙ good)) z r s (opened z (sym (coded_at z) ∙ ap is_coded rolls ∙ fine))
    (ap (λ b. b ++ r) (sym (bytes_at x)) ∙ is ∙ ap (λ f. formula_bytes f ++ s) (sym rolls) ∙ ap (λ b. b ++ s) (bytes_at z)) in
    (ap roll-Formula same.0 ∙ rolls, same.1)

int_formula : (n : ℤ) → IsOnlyFormula (IntF n)
int_formula n good (IntF m) r s fine is = let same = integer_reads n good m r s fine (same_behind 0 _ _ is) in ((λ i. IntF (same.0 i)), same.1)
int_formula n good _ r s fine is = absurd cc

free_formula : (name : List ℕ) (ty : Ty) → IsOnlyFormula (FreeF name ty)
free_formula name ty good (FreeF other u) r s fine is =
    let same = pair_reads IsGoodName text_bytes IsGoodType type_bytes name_reads type_reads (name, ty) good (other, u) r s fine (same_behind 1 _ _ is) in
    ((λ i. FreeF (same.0 i).0 (same.0 i).1), same.1)
free_formula name ty good _ r s fine is = absurd cc

bound_formula : (at : ℕ) (ty : Ty) → IsOnlyFormula (BoundF at ty)
bound_formula at ty good (BoundF other u) r s fine is =
    let same = pair_reads FitsU32 number_bytes IsGoodType type_bytes number_reads type_reads (at, ty) good (other, u) r s fine (same_behind 2 _ _ is) in
    ((λ i. BoundF (same.0 i).0 (same.0 i).1), same.1)
bound_formula at ty good _ r s fine is = absurd cc

abbrev Each : List Formula → Type 0
Each parts = AllByRecursion (IsOnly IsCoded formula_bytes) parts

parts_only : (parts : List Formula) (ty : Ty) → Each parts → IsOnly Parts parts_bytes (parts, ty)
parts_only parts ty each = pair_only (IsList IsCoded) (list_bytes formula_bytes) IsGoodType type_bytes (parts, ty) (list_only IsCoded formula_bytes parts each) (type_reads ty)

node_formula : (op : Op) (parts : List Formula) (ty : Ty) → Each parts → IsOnlyFormula (NodeF op parts ty)
node_formula op parts ty each good (NodeF o ps u) r s fine is =
    let same = pair_only IsAny op_bytes Parts parts_bytes (op, (parts, ty)) (op_reads op) (parts_only parts ty each) good (o, (ps, u)) r s fine (same_behind 3 _ _ is) in
    ((λ i. NodeF (same.0 i).0 (same.0 i).1.0 (same.0 i).1.1), same.1)
node_formula op parts ty each good _ r s fine is = absurd cc

front_reads : Reads Front front_bytes
front_reads = pair_reads IsAny binder_bytes (IsList IsGoodType) (list_bytes type_bytes) binder_reads (list_reads IsGoodType type_bytes type_reads)

bind_formula : (binder : Binder) (types : List Ty) (parts : List Formula) (ty : Ty) → Each parts → IsOnlyFormula (BindF binder types parts ty)
bind_formula binder types parts ty each good (BindF b ts ps u) r s fine is =
    let same = pair_only Front front_bytes Parts parts_bytes ((binder, types), (parts, ty)) (front_reads (binder, types)) (parts_only parts ty each) good ((b, ts), (ps, u)) r s fine (same_behind 4 _ _ is) in
    ((λ i. BindF (same.0 i).0.0 (same.0 i).0.1 (same.0 i).1.0 (same.0 i).1.1), same.1)
bind_formula binder types parts ty each good _ r s fine is = absurd cc

coded_reads : Reads IsCoded formula_bytes
coded_reads =
    let M : Formula → Type 0 = IsOnly IsCoded formula_bytes in
    formula_induction M
    (λ n. subst M (rolls-Int n) (rolled (IntF n) (int_formula n)))
    (λ name ty. subst M (rolls-Free name ty) (rolled (FreeF name ty) (free_formula name ty)))
    (λ at ty. subst M (rolls-Bound at ty) (rolled (BoundF at ty) (bound_formula at ty)))
    (λ op parts ty each. subst M (rolls-Node op parts ty) (rolled (NodeF op parts ty) (node_formula op parts ty each)))
    (λ binder types parts ty each. subst M (rolls-Bind binder types parts ty) (rolled (BindF binder types parts ty) (bind_formula binder types parts ty each)))

pub formula_reads : Reads IsGoodFormula formula_bytes
formula_reads = narrow_reads IsCoded IsGoodFormula formula_bytes (λ f is. is.coded) coded_reads
