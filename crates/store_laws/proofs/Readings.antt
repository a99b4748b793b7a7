-- Values that are read in one way from the front of bytes.
use Rattle.std.proofs.Common.{◌≡◌, ◌∙◌, refl, sym, ap, ℕ, ℤ, ◌+◌, ◌*◌, ◌%◌, ◌/◌, ◌<◌, ◌^◌, List, [], ◌∷◌, ◌++◌, length, take, drop, Some, None, slice_get, arith, append_assoc}
use Rattle.std.specs.Int.{w32, w64, w128, from_le_bytes, cast_unsigned, cast_signed}
use Rattle.std.specs.List.{flat_map, AllByRecursion}
use Rattle.std.proofs.lemmas.Int.{to_z-of_z}
use Rattle.std.proofs.lemmas.List.{take_at, drop_at}
use Rattle.std.proofs.lemmas.Nat.{from_le_bytes-to_le_bytes_4, from_le_bytes-to_le_bytes_8}
use Rattle.std.proofs.Math.Facts.{Fits-of_z}
use Rattle.formula_core.specs.declared.Op.{Op}
use Rattle.formula_core.specs.declared.Op.TheVariants as op
use Rattle.formula_core.specs.declared.Binder.{Binder}
use Rattle.formula_core.specs.declared.Binder.TheVariants as binder
use Rattle.formula_core.specs.declared.op.TheConstants.{OPERATORS, BINDERS}
use Rattle.formula_core.specs.Numbers.{number_of, binder_number_of}
use Rattle.proof_codec.specs.Names.{IsGoodName}
use Rattle.proof_codec.specs.Numbers.{IsByte, byte, FitsU32, number_bytes, IsText, text_bytes, wide, IsInteger, integer}
use Rattle.proof_codec.specs.Parts.{IsAny, IsPair, pair_bytes, IsOption, option_bytes, IsList, list_bytes}
use Rattle.proof_codec.specs.Private.{IsReadAs, IsWide, op_bytes, binder_bytes}
use Rattle.proof_codec.proofs.Literals.{fits_of}
use Rattle.proof_codec.proofs.ShortNames.{name_is_text}
use Rattle.proof_codec.proofs.Tags.{same_behind}

-- where this good value stands at the front of bytes, no other one does, and what stands behind it is one too
abbrev pub IsOnly : {A : Type 0} → (A → Type 0) → (A → List ℕ) → A → Type 0
IsOnly {A} P f x = P x → (y : A) (r s : List ℕ) → P y → f x ++ r ≡ f y ++ s → (x ≡ y) × (r ≡ s)

-- so is each value
abbrev pub Reads : {A : Type 0} → (A → Type 0) → (A → List ℕ) → Type 0
Reads {A} P f = (x : A) → IsOnly P f x

-- the same as it is said of readers
pub as_read : {A : Type 0} → (P : A → Type 0) (f : A → List ℕ) (x : A) → IsOnly P f x → P x → (rest : List ℕ) → IsReadAs P f (f x ++ rest) x rest
as_read P f x only good rest = record {
  here = record { good = good; split = refl };
  only = λ y others begins. let same = only good y rest others begins.good begins.split in (sym same.0, sym same.1);
}

pub from_read : {A : Type 0} → (P : A → Type 0) (f : A → List ℕ) (x : A) → (P x → (rest : List ℕ) → IsReadAs P f (f x ++ rest) x rest) → IsOnly P f x
from_read P f x read good y r s fine is = let same = (read good r).only y s (record { good = fine; split = is }) in (sym same.0, sym same.1)

-- fewer values
pub narrow_reads : {A : Type 0} → (P Q : A → Type 0) (f : A → List ℕ) → ((x : A) → Q x → P x) → Reads P f → Reads Q f
narrow_reads P Q f fewer reads x good y r s fine is = reads x (fewer x good) y r s (fewer y fine) is

-- two lists whose fronts have one length
split_at : (a b x y : List ℕ) → length a ≡ length b → a ++ x ≡ b ++ y → (a ≡ b) × (x ≡ y)
split_at a b x y long same = (
  sym (take_at a x (length a) refl) ∙ ap (λ (l : List ℕ). take (length a) l) same ∙ take_at b y (length a) (sym long),
  sym (drop_at a x (length a) refl) ∙ ap (λ (l : List ℕ). drop (length a) l) same ∙ drop_at b y (length a) (sym long),
)

-- values whose bytes have one length
pub fixed_reads : {A : Type 0} → (P : A → Type 0) (f : A → List ℕ) → ((x y : A) → length (f x) ≡ length (f y)) → ((x y : A) → P x → P y → f x ≡ f y → x ≡ y) → Reads P f
fixed_reads P f long one x good y r s fine is = let parts = split_at (f x) (f y) r s (long x y) is in (one x y good fine parts.0, parts.1)

-- NUMBERS

same_head : (a b : ℕ) (xs ys : List ℕ) → a ∷ xs ≡ b ∷ ys → a ≡ b
same_head a b xs ys e = cc

-- values that are a byte each
pub tag_reads : {A : Type 0} → (P : A → Type 0) (number : A → ℕ) → ((x y : A) → number x ≡ number y → x ≡ y) → Reads P (λ (x : A). number x ∷ [])
tag_reads P number one = fixed_reads P (λ x. number x ∷ []) (λ x y. refl) (λ x y good fine is. one x y (same_head (number x) (number y) [] [] is))

pub byte_reads : Reads IsByte byte
byte_reads = tag_reads IsByte (λ n. n) (λ x y is. is)

pub number_reads : Reads FitsU32 number_bytes
number_reads = fixed_reads FitsU32 number_bytes (λ x y. refl) (λ x y good fine is. sym (from_le_bytes-to_le_bytes_4 x good) ∙ ap (from_le_bytes w32) is ∙ from_le_bytes-to_le_bytes_4 y fine)

wide_reads : Reads IsWide wide
wide_reads = fixed_reads IsWide wide (λ x y. refl) (λ x y good fine is. sym (from_le_bytes-to_le_bytes_8 x good) ∙ ap (from_le_bytes w64) is ∙ from_le_bytes-to_le_bytes_8 y fine)

some_same : {A : Type 0} {a b : A} → Some a ≡ Some b → a ≡ b
some_same e = cc

operator_at : (o : Op) → slice_get OPERATORS (number_of o) ≡ Some o
operator_at op.Top = refl
operator_at _ = refl

pub op_reads : Reads IsAny op_bytes
op_reads = tag_reads IsAny number_of (λ x y is. some_same (sym (operator_at x) ∙ ap (slice_get OPERATORS) is ∙ operator_at y))

binder_at : (b : Binder) → slice_get BINDERS (binder_number_of b) ≡ Some b
binder_at binder.ForAll = refl
binder_at _ = refl

pub binder_reads : Reads IsAny binder_bytes
binder_reads = tag_reads IsAny binder_number_of (λ x y is. some_same (sym (binder_at x) ∙ ap (slice_get BINDERS) is ∙ binder_at y))

-- VALUES OF PARTS

pub pair_only : {A B : Type 0} → (P : A → Type 0) (f : A → List ℕ) (Q : B → Type 0) (g : B → List ℕ) (x : A × B) → IsOnly P f x.0 → IsOnly Q g x.1 → IsOnly (IsPair P Q) (pair_bytes f g) x
pair_only P f Q g x one two good y r s fine is =
    let first = one good.0 y.0 (g x.1 ++ r) (g y.1 ++ s) fine.0 (sym (append_assoc (f x.0) (g x.1) r) ∙ is ∙ append_assoc (f y.0) (g y.1) s) in
    let second = two good.1 y.1 r s fine.1 first.1 in
    ((λ i. (first.0 i, second.0 i)), second.1)

pub pair_reads : {A B : Type 0} → (P : A → Type 0) (f : A → List ℕ) (Q : B → Type 0) (g : B → List ℕ) → Reads P f → Reads Q g → Reads (IsPair P Q) (pair_bytes f g)
pair_reads P f Q g one two x = pair_only P f Q g x (one x.0) (two x.1)

module _ {A : Type 0} (P : A → Type 0) (f : A → List ℕ) where
  pub option_reads : Reads P f → Reads (IsOption P) (option_bytes f)
  option_reads reads None good None r s fine is = (refl, same_behind 0 r s is)
  option_reads reads None good (Some y) r s fine is = absurd cc
  option_reads reads (Some x) good None r s fine is = absurd cc
  option_reads reads (Some x) good (Some y) r s fine is = let same = reads x good y r s fine (same_behind 1 (f x ++ r) (f y ++ s) is) in ((λ i. Some (same.0 i)), same.1)

  -- as many values, one behind the other
  items_only : (xs ys : List A) (r s : List ℕ) → AllByRecursion (IsOnly P f) xs → AllByRecursion P xs → AllByRecursion P ys → length xs ≡ length ys → flat_map f xs ++ r ≡ flat_map f ys ++ s → (xs ≡ ys) × (r ≡ s)
  items_only [] [] r s each good fine long is = (refl, is)
  items_only [] (y ∷ ys) r s each good fine long is = absurd (omega (arith, long))
  items_only (x ∷ xs) [] r s each good fine long is = absurd (omega (arith, long))
  items_only (x ∷ xs) (y ∷ ys) r s each good fine long is =
      let first = each.0 good.0 y (flat_map f xs ++ r) (flat_map f ys ++ s) fine.0 (sym (append_assoc (f x) (flat_map f xs) r) ∙ is ∙ append_assoc (f y) (flat_map f ys) s) in
      let rest = items_only xs ys r s each.1 good.1 fine.1 (omega (arith, long)) first.1 in
      ((λ i. first.0 i ∷ rest.0 i), rest.1)

  pub list_only : (xs : List A) → AllByRecursion (IsOnly P f) xs → IsOnly (IsList P) (list_bytes f) xs
  list_only xs each good ys r s fine is =
      let many = number_reads (length xs) good.0 (length ys) (flat_map f xs ++ r) (flat_map f ys ++ s) fine.0
      (sym (append_assoc (number_bytes (length xs)) (flat_map f xs) r) ∙ is ∙ append_assoc (number_bytes (length ys)) (flat_map f ys) s) in
      items_only xs ys r s each good.1 fine.1 many.0 many.1

  each_of : Reads P f → (xs : List A) → AllByRecursion (IsOnly P f) xs
  each_of reads [] = tt
  each_of reads (x ∷ xs) = (reads x, each_of reads xs)

  pub list_reads : Reads P f → Reads (IsList P) (list_bytes f)
  list_reads reads xs = list_only xs (each_of reads xs)

  -- lists of values that aren't empty
  pub spelled_once : ((x : A) (others : List ℕ) → f x ++ others ≡ [] → ⊥) → Reads P f → (xs ys : List A) → AllByRecursion P xs → AllByRecursion P ys → flat_map f xs ≡ flat_map f ys → xs ≡ ys
  spelled_once some reads [] [] good fine is = refl
  spelled_once some reads [] (y ∷ ys) good fine is = absurd (some y (flat_map f ys) (sym is))
  spelled_once some reads (x ∷ xs) [] good fine is = absurd (some x (flat_map f xs) is)
  spelled_once some reads (x ∷ xs) (y ∷ ys) good fine is =
      let first = reads x good.0 y (flat_map f xs) (flat_map f ys) fine.0 is in
      let rest = spelled_once some reads xs ys good.1 fine.1 first.1 in
      λ i. first.0 i ∷ rest i

-- INTEGERS

abbrev halves_of : ℕ → ℕ × ℕ
halves_of n = (n % 2 ^ 64, n / 2 ^ 64)

are_wide : (n : ℕ) → n < 2 ^ 128 → IsPair IsWide IsWide (halves_of n)
are_wide n small = (omega arith, omega (arith, small))

both_of : (n : ℕ) → n % 2 ^ 64 + n / 2 ^ 64 * 2 ^ 64 ≡ n
both_of n = omega arith

unsigned_small : (z : ℤ) → IsInteger z → cast_unsigned w128 z < 2 ^ 128
unsigned_small z good = (Fits-of_z (fits_of z good)).fits

pub integer_reads : Reads IsInteger integer
integer_reads z good y r s fine is =
    let m : ℕ = cast_unsigned w128 z in
    let n : ℕ = cast_unsigned w128 y in
    let same = pair_reads IsWide wide IsWide wide wide_reads wide_reads (halves_of m) (are_wide m (unsigned_small z good)) (halves_of n) r s (are_wide n (unsigned_small y fine)) is in
    let whole : m ≡ n = sym (both_of m) ∙ ap (λ (p : ℕ × ℕ). p.0 + p.1 * 2 ^ 64) same.0 ∙ both_of n in
    (sym (to_z-of_z w128 z (fits_of z good)) ∙ ap (cast_signed w128) whole ∙ to_z-of_z w128 y (fits_of y fine), same.1)

-- TEXTS

-- the number of its bytes has four bytes
abbrev pub IsShort : List ℕ → Type 0
IsShort text = length text < 2 ^ 32

short_reads : Reads IsShort text_bytes
short_reads text good other r s fine is =
    let many = number_reads (length text) good (length other) (text ++ r) (other ++ s) fine
    (sym (append_assoc (number_bytes (length text)) text r) ∙ is ∙ append_assoc (number_bytes (length other)) other s) in
    split_at text other r s many.0 many.1

pub text_reads : (most : ℕ) → most < 2 ^ 32 → Reads (IsText most) text_bytes
text_reads most small = narrow_reads IsShort (IsText most) text_bytes (λ text is. omega (arith, is.1, small)) short_reads

pub name_reads : Reads IsGoodName text_bytes
name_reads = narrow_reads (IsText 65) IsGoodName text_bytes name_is_text (text_reads 65 (omega arith))
