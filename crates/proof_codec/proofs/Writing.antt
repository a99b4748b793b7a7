-- What stands behind the old bytes.
use Rattle.std.proofs.Common.{◌≡◌, ◌∙◌, sym, ap, subst, refl, ℕ, zero, suc, ℤ, ◌≤◌, ◌<◌, ◌%◌, ◌/◌, ◌^◌, true, List, [], ◌∷◌, ◌++◌, take, length, append_assoc, slice_get, Some}
use Rattle.std.specs.List.{AllByRecursion}
use Rattle.std.proofs.lemmas.List.{append-nil}
use Rattle.std.proofs.lemmas.List.Concat.{flat_map-cons, flat_map-append}
use Rattle.std.specs.Prelude.{FitsSigned, Result, Ok, Err}
use Rattle.std.specs.Int.{w128, cast_unsigned}
use Rattle.std.specs.Str.{is_utf8}
use Rattle.proof_codec.specs.Private.{IsWrittenAs, WritesAs, IsWide, items_bytes}
use Rattle.proof_codec.specs.Numbers.{IsByte, byte, FitsU32, number_bytes, IsText, text_bytes, wide, IsInteger, sixteen, integer}
use Rattle.proof_codec.specs.Parts.{IsPair, pair_bytes, IsList, list_bytes}
use Rattle.proof_codec.proofs.Literals.{of_fits}
use Rattle.proof_codec.proofs.Items.{both_all}

front_of : (xs ys : List ℕ) → take (length xs) (xs ++ ys) ≡ xs
front_of [] ys = refl
front_of (x ∷ xs) ys = ap (λ zs. x ∷ zs) (front_of xs ys)

shorter_front : (xs ys zs : List ℕ) → take (length (xs ++ ys)) zs ≡ xs ++ ys → take (length xs) zs ≡ xs
shorter_front [] ys zs e = refl
shorter_front (x ∷ xs) ys [] e = absurd cc
shorter_front (x ∷ xs) ys (z ∷ zs) e =
    let k : z ∷ take (length (xs ++ ys)) zs ≡ x ∷ (xs ++ ys) = e in
    let head : z ≡ x = cc in
    let rest : take (length (xs ++ ys)) zs ≡ xs ++ ys = cc in
    ap (λ n. n ∷ take (length xs) zs) head ∙ ap (λ ns. x ∷ ns) (shorter_front xs ys zs rest)

-- what fails behind the first leaves the old bytes
pub front_behind : (old behind mid new : List ℕ) → mid ≡ old ++ behind → take (length mid) new ≡ mid → take (length old) new ≡ old
front_behind old behind mid new is kept = shorter_front old behind new (subst (λ m. take (length m) new ≡ m) is kept)

-- what fails behind a value that was written leaves the old bytes
pub kept_before : {A : Type 0} → (P : A → Type 0) (f : A → List ℕ) (x : A) (old mid new : List ℕ) → IsWrittenAs P f x old mid → take (length mid) new ≡ mid → take (length old) new ≡ old
kept_before P f x old mid new written kept = front_behind old (f x) mid new written.bytes kept

pub pair_written : {A B : Type 0} → (P : A → Type 0) (f : A → List ℕ) (Q : B → Type 0) (g : B → List ℕ) (old mid new : List ℕ) (x : A) (y : B)
    → IsWrittenAs P f x old mid → IsWrittenAs Q g y mid new → IsWrittenAs (IsPair P Q) (pair_bytes f g) (x, y) old new
pair_written P f Q g old mid new x y one two = record {
  good = (one.good, two.good);
  bytes = two.bytes ∙ ap (λ b. b ++ g y) one.bytes ∙ append_assoc old (f x) (g y);
}

pub text_written : (text old mid new : List ℕ) → is_utf8 text ≡ true → length text ≤ 65536 → IsWrittenAs FitsU32 number_bytes (length text) old mid → new ≡ mid ++ text
    → IsWrittenAs (IsText 65536) text_bytes text old new
text_written text old mid new utf8 few counted behind = record {
  good = (utf8, few);
  bytes = behind ∙ ap (λ b. b ++ text) counted.bytes ∙ append_assoc old (number_bytes (length text)) text;
}

pub integer_written : (z : ℤ) (m : ℕ) (old mid new : List ℕ) → FitsSigned w128 z → m ≡ cast_unsigned w128 z → IsWrittenAs IsWide wide (m % 2 ^ 64) old mid → IsWrittenAs IsWide wide (m / 2 ^ 64) mid new
    → IsWrittenAs IsInteger integer z old new
integer_written z m old mid new fits is low high = record {
  good = of_fits z fits;
  bytes = high.bytes ∙ ap (λ b. b ++ wide (m / 2 ^ 64)) low.bytes ∙ append_assoc old (wide (m % 2 ^ 64)) (wide (m / 2 ^ 64)) ∙ ap (λ n. old ++ sixteen n) is;
}

pub no_items_written : {A : Type 0} → (P : A → Type 0) (f : A → List ℕ) (old : List ℕ) → IsWrittenAs (AllByRecursion P) (items_bytes f) [] old old
no_items_written P f old = record { good = tt; bytes = sym (append-nil old) }

pub one_more_written : {A : Type 0} → (P : A → Type 0) (f : A → List ℕ) (xs : List A) (x : A) (old mid new : List ℕ) → IsWrittenAs (AllByRecursion P) (items_bytes f) xs old mid → IsWrittenAs P f x mid new
    → IsWrittenAs (AllByRecursion P) (items_bytes f) (xs ++ x ∷ []) old new
one_more_written P f xs x old mid new many one = record {
  good = both_all P xs (x ∷ []) many.good (one.good, tt);
  bytes = one.bytes ∙ ap (λ b. b ++ f x) many.bytes ∙ append_assoc old (items_bytes f xs) (f x)
      ∙ ap (λ b. old ++ b) (sym (flat_map-append f xs (x ∷ []) ∙ ap (λ b. items_bytes f xs ++ b) (flat_map-cons f x [] ∙ append-nil (f x))));
}

pub list_written : {A : Type 0} → (P : A → Type 0) (f : A → List ℕ) (xs : List A) (old mid new : List ℕ) → length xs < 2 ^ 32 → IsWrittenAs FitsU32 number_bytes (length xs) old mid
    → IsWrittenAs (AllByRecursion P) (items_bytes f) xs mid new → IsWrittenAs (IsList P) (list_bytes f) xs old new
list_written P f xs old mid new few counted many = record {
  good = (few, many.good);
  bytes = many.bytes ∙ ap (λ b. b ++ items_bytes f xs) counted.bytes ∙ append_assoc old (number_bytes (length xs)) (items_bytes f xs);
}

-- a tag, and what stands behind it
pub tag_written : {A B : Type 0} → (P : A → Type 0) (f : A → List ℕ) (Q : B → Type 0) (g : B → List ℕ) (tag : ℕ) (old mid new : List ℕ) (x : A) (y : B)
    → (P x → Q y) → g y ≡ tag ∷ f x → IsWrittenAs IsByte byte tag old mid → IsWrittenAs P f x mid new → IsWrittenAs Q g y old new
tag_written P f Q g tag old mid new x y good is first second = record {
  good = good second.good;
  bytes = second.bytes ∙ ap (λ b. b ++ f x) first.bytes ∙ append_assoc old (tag ∷ []) (f x) ∙ ap (λ b. old ++ b) (sym is);
}

pub lone_written : {B : Type 0} → (Q : B → Type 0) (g : B → List ℕ) (tag : ℕ) (old new : List ℕ) (y : B) → Q y → g y ≡ tag ∷ [] → IsWrittenAs IsByte byte tag old new → IsWrittenAs Q g y old new
lone_written Q g tag old new y good is first = record { good = good; bytes = first.bytes ∙ ap (λ b. old ++ b) (sym is) }

pub fitting_at : {A : Type 0} → (P : A → Type 0) (i : ℕ) (xs : List A) (x : A) → AllByRecursion P xs → slice_get xs i ≡ Some x → P x
fitting_at P i [] x all is = absurd cc
fitting_at P zero (y ∷ ys) x all is = subst P (let e : Some y ≡ Some x = is in cc) all.0
fitting_at P (suc i) (y ∷ ys) x all is = fitting_at P i ys x all.1 is

-- what is written of one kind is written of another
pub writes_as : {A R E : Type 0} → (P Q : A → Type 0) (f : A → List ℕ) (x : A) (old new : List ℕ) (result : Result R E) → (P x → Q x) → WritesAs P f x old new result → WritesAs Q f x old new result
writes_as P Q f x old new (Ok done) better written = record { good = better written.good; bytes = written.bytes }
writes_as P Q f x old new (Err fault) better kept = kept

pub pair_writes : {A B R E : Type 0} → (P : A → Type 0) (f : A → List ℕ) (Q : B → Type 0) (g : B → List ℕ) (x : A) (y : B) (old mid new : List ℕ) (result : Result R E)
    → IsWrittenAs P f x old mid → WritesAs Q g y mid new result → WritesAs (IsPair P Q) (pair_bytes f g) (x, y) old new result
pair_writes P f Q g x y old mid new (Ok done) one two = pair_written P f Q g old mid new x y one two
pair_writes P f Q g x y old mid new (Err fault) one kept = front_behind old (f x) mid new one.bytes kept
