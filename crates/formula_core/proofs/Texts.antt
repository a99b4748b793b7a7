-- The bytes of names, labels and kinds are visible, so that a name of an obligation that is made of them has no blank.
use Rattle.std.proofs.Common.{◌≡◌, ◌∙◌, sym, ap, subst, refl, ℕ, zero, suc, ◌+◌, ◌-◌, ◌≤◌, Bool, true, false, ◌&&◌, ◌||◌, not, List, [], ◌∷◌, ◌++◌, take, drop, length, length-append, arith, IsTrue, true≢false}
use Rattle.std.specs.Prelude.{bytes_eq, nat_le, if◌then◌else◌}
use Rattle.std.specs.Char.{is_ascii_uppercase}
use Rattle.std.specs.List.{list_all}
use Rattle.std.specs.Cmp.Lexicographic.{same_text}
use Rattle.std.proofs.lemmas.Bool.{leb-true, le-leb}
use Rattle.std.proofs.lemmas.Grind.{common_steps}
use Rattle.std.proofs.lemmas.List.{take-append-drop}
use Rattle.std.proofs.Math.Seq.{drop-append_seam, take-append_seam}
use Rattle.std.proofs.lemmas.List.Folds.{list_all-append}
use Rattle.formula_core.specs.Names.{prime, is_in_word, starts_word, is_word, is_identifier, is_name}
use Rattle.formula_core.specs.Texts.{is_in_label, is_label, is_part, is_kind, is_po_name, begins_with_blank, has_blank}
use Rattle.formula_core.proofs.Weakening.{first_true, second_true, both_true}

-- a byte of a visible ASCII character
abbrev is_visible : ℕ → Bool
is_visible c = nat_le 33 c && nat_le c 126

-- the characters of identifiers are those of labels
in_word_in_label : (c : ℕ) → is_in_word c ≡ true → is_in_label c ≡ true
in_word_in_label c h = grind (arith, common_steps)

starts_in_label : (c : ℕ) → starts_word c ≡ true → is_in_label c ≡ true
starts_in_label c h = grind (arith, common_steps)

in_label_visible : (c : ℕ) → is_in_label c ≡ true → is_visible c ≡ true
in_label_visible c h = grind (arith, common_steps)

capital_visible : (c : ℕ) → is_ascii_uppercase c ≡ true → is_visible c ≡ true
capital_visible c h = grind (arith, common_steps)

begins_visible : (c : ℕ) (cs : List ℕ) → is_visible c ≡ true → begins_with_blank (c ∷ cs) ≡ false
begins_visible c cs h = grind (arith, common_steps)

all_also : (p q : ℕ → Bool) → ((c : ℕ) → p c ≡ true → q c ≡ true) → (xs : List ℕ) → list_all p xs ≡ true → list_all q xs ≡ true
all_also p q each [] h = refl
all_also p q each (c ∷ cs) h = both_true _ _ (each c (first_true (p c) _ h)) (all_also p q each cs (second_true (p c) _ h))

word_in_label : (xs : List ℕ) → is_word xs ≡ true → list_all is_in_label xs ≡ true
word_in_label [] h = refl
word_in_label (c ∷ cs) h =
    let k : (starts_word c && list_all is_in_word cs) ≡ true = first_true _ _ h in
    both_true _ _ (starts_in_label c (first_true _ _ k)) (all_also is_in_word is_in_label in_word_in_label cs (second_true (starts_word c) _ k))

word_length : (xs : List ℕ) → is_word xs ≡ true → length xs ≤ 64
word_length [] h = omega arith
word_length (c ∷ cs) h = let k : length cs ≤ 63 = leb-true _ _ (second_true (starts_word c && list_all is_in_word cs) _ h) in omega (arith, k)

name_parts : (xs : List ℕ) (b : Bool) → bytes_eq (drop (length xs - 1) xs) (prime ∷ []) ≡ b → is_identifier (if b then take (length xs - 1) xs else xs) ≡ true
    → (list_all is_in_label xs ≡ true) × (length xs ≤ 65)
name_parts xs true e h =
    let front : List ℕ = take (length xs - 1) xs in
    let back : drop (length xs - 1) xs ≡ prime ∷ [] = same_text _ _ (sym e) in
    let whole : front ++ prime ∷ [] ≡ xs = ap (λ ys. front ++ ys) (sym back) ∙ take-append-drop (length xs - 1) xs in
    let word : is_word front ≡ true = first_true _ _ h in (
      subst (λ ys. list_all is_in_label ys ≡ true) whole (list_all-append is_in_label front (prime ∷ []) ∙ both_true _ _ (word_in_label front word) refl),
      subst (λ ys. length ys ≤ 65) whole (omega (arith, length-append front (prime ∷ []), word_length front word)),
    )
name_parts xs false e h = let word : is_word xs ≡ true = first_true _ _ h in (word_in_label xs word, omega (arith, word_length xs word))

no_blank : (xs : List ℕ) → list_all is_visible xs ≡ true → has_blank xs ≡ false
no_blank [] h = refl
no_blank (c ∷ cs) h =
    let here : begins_with_blank (c ∷ cs) ≡ false = begins_visible c cs (first_true (is_visible c) _ h) in
    ap (λ b. b || has_blank cs) here ∙ no_blank cs (second_true (is_visible c) _ h)

-- visible, and no longer than this
abbrev IsShort : List ℕ → ℕ → Type 0
IsShort xs n = (list_all is_visible xs ≡ true) × (length xs ≤ n)

name_short : (xs : List ℕ) → IsTrue (is_name xs) → IsShort xs 65
name_short xs h =
    let parts = name_parts xs (bytes_eq (drop (length xs - 1) xs) (prime ∷ [])) refl h in
    (all_also is_in_label is_visible in_label_visible xs parts.0, parts.1)

short_by : (p : ℕ → Bool) → ((c : ℕ) → p c ≡ true → is_visible c ≡ true) → (n : ℕ) (xs : List ℕ) → (nat_le 1 (length xs) && nat_le (length xs) n && list_all p xs) ≡ true → IsShort xs n
short_by p each n xs h =
    let few : (nat_le 1 (length xs) && nat_le (length xs) n) ≡ true = first_true _ _ h in
    (all_also p is_visible each xs (second_true (nat_le 1 (length xs) && nat_le (length xs) n) _ h), leb-true _ _ (second_true (nat_le 1 (length xs)) _ few))

label_short : (xs : List ℕ) → IsTrue (is_label xs) → IsShort xs 64
label_short xs h = short_by is_in_label in_label_visible 64 xs h

part_short : (xs : List ℕ) → IsTrue (is_part xs) → IsShort xs 65
part_short xs h = short_by is_in_label in_label_visible 65 xs h

kind_short : (xs : List ℕ) → IsTrue (is_kind xs) → IsShort xs 8
kind_short xs h = short_by is_ascii_uppercase capital_visible 8 xs h

joined_short : (xs ys : List ℕ) (m n : ℕ) → IsShort xs m → IsShort ys n → IsShort (xs ++ 47 ∷ ys) (m + suc n)
joined_short xs ys m n x y = (
  list_all-append is_visible xs (47 ∷ ys) ∙ both_true _ _ x.0 y.0,
  omega (arith, length-append xs (47 ∷ ys), x.1, y.1),
)

named : (xs ys : List ℕ) (n : ℕ) → IsShort (xs ++ 47 ∷ ys) n → n ≤ 300 → IsTrue (is_po_name (xs ++ 47 ∷ ys))
named xs ys n short within =
    let some : 1 ≤ length (xs ++ 47 ∷ ys) = omega (arith, length-append xs (47 ∷ ys)) in
    let few : length (xs ++ 47 ∷ ys) ≤ 300 = omega (arith, short.1, within) in
    both_true _ _ (both_true _ _ (le-leb 1 _ some) (le-leb _ 300 few)) (ap not (no_blank (xs ++ 47 ∷ ys) short.0))

pub component_is_po_name : (component kind : List ℕ) → IsTrue (is_name component) → IsTrue (is_kind kind) → IsTrue (is_po_name (component ++ 47 ∷ kind))
component_is_po_name component kind c k = named component kind _ (joined_short component kind 65 8 (name_short component c) (kind_short kind k)) (omega arith)

pub labelled_is_po_name : (component label kind : List ℕ) → IsTrue (is_name component) → IsTrue (is_label label) → IsTrue (is_kind kind) → IsTrue (is_po_name (component ++ 47 ∷ label ++ 47 ∷ kind))
labelled_is_po_name component label kind c l k =
    named (component ++ 47 ∷ label) kind _ (joined_short _ kind _ 8 (joined_short component label 65 64 (name_short component c) (label_short label l)) (kind_short kind k)) (omega arith)

pub event_is_po_name : (component event kind : List ℕ) → IsTrue (is_name component) → IsTrue (is_name event) → IsTrue (is_kind kind) → IsTrue (is_po_name (component ++ 47 ∷ event ++ 47 ∷ kind))
event_is_po_name component event kind c e k =
    named (component ++ 47 ∷ event) kind _ (joined_short _ kind _ 8 (joined_short component event 65 65 (name_short component c) (name_short event e)) (kind_short kind k)) (omega arith)

pub event_part_is_po_name : (component event part kind : List ℕ) → IsTrue (is_name component) → IsTrue (is_name event) → IsTrue (is_part part) → IsTrue (is_kind kind)
    → IsTrue (is_po_name (component ++ 47 ∷ event ++ 47 ∷ part ++ 47 ∷ kind))
event_part_is_po_name component event part kind c e p k =
    named (component ++ 47 ∷ event ++ 47 ∷ part) kind _
    (joined_short _ kind _ 8
    (joined_short _ part _ 65 (joined_short component event 65 65 (name_short component c) (name_short event e)) (part_short part p))
    (kind_short kind k))
    (omega arith)

drop_nil : (i : ℕ) → drop i (let none : List ℕ = [] in none) ≡ []
drop_nil zero = refl
drop_nil (suc i) = refl

pub has_blank_from : (xs : List ℕ) (i : ℕ) → begins_with_blank (drop i xs) ≡ false → has_blank (drop i xs) ≡ has_blank (drop (i + 1) xs)
has_blank_from [] i h = ap has_blank (drop_nil i ∙ sym (drop_nil (i + 1)))
has_blank_from (x ∷ xs) zero h = ap (λ b. b || has_blank xs) h
has_blank_from (x ∷ xs) (suc i) h = has_blank_from xs i h ∙ ap (λ n. has_blank (drop n (x ∷ xs))) (let e : suc (i + 1) ≡ suc i + 1 = omega arith in e)

-- labels and names are parts
pub label_is_part : (xs : List ℕ) → IsTrue (is_label xs) → IsTrue (is_part xs)
label_is_part xs h =
    let few : (nat_le 1 (length xs) && nat_le (length xs) 64) ≡ true = first_true _ _ h in
    let short : length xs ≤ 64 = leb-true _ _ (second_true (nat_le 1 (length xs)) _ few) in
    both_true _ _ (both_true _ _ (first_true _ _ few) (le-leb (length xs) 65 (omega (arith, short)))) (second_true (nat_le 1 (length xs) && nat_le (length xs) 64) _ h)

pub name_is_part : (xs : List ℕ) → IsTrue (is_name xs) → IsTrue (is_part xs)
name_is_part [] h = absurd (true≢false (sym h))
name_is_part (c ∷ cs) h =
    let parts = name_parts (c ∷ cs) (bytes_eq (drop (length (c ∷ cs) - 1) (c ∷ cs)) (prime ∷ [])) refl h in
    both_true _ _ (both_true _ _ (le-leb 1 (length (c ∷ cs)) (omega arith)) (le-leb (length (c ∷ cs)) 65 parts.1)) parts.0

-- an identifier with a prime at its end is a name
pub primed_is_name : (w : List ℕ) → is_identifier w ≡ true → is_name (w ++ prime ∷ []) ≡ true
primed_is_name w h =
    let at : ℕ = length (w ++ prime ∷ []) - 1 in
    let end : at ≡ length w = omega (arith, length-append w (prime ∷ [])) in
    let back : drop at (w ++ prime ∷ []) ≡ prime ∷ [] = ap (λ k. drop k (w ++ prime ∷ [])) end ∙ drop-append_seam w (prime ∷ []) in
    let front : take at (w ++ prime ∷ []) ≡ w = ap (λ k. take k (w ++ prime ∷ [])) end ∙ take-append_seam w (prime ∷ []) in
    let has_prime : bytes_eq (drop at (w ++ prime ∷ [])) (prime ∷ []) ≡ true = ap (λ ys. bytes_eq ys (prime ∷ [])) back in
    ap is_identifier (ap (λ b. if b then take at (w ++ prime ∷ []) else w ++ prime ∷ []) has_prime ∙ front) ∙ h
