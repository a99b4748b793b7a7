-- The first fault of lists one after another.
use Rattle.std.proofs.Common.{◌≡◌, ◌<◌, ◌≤◌, ◌+◌, ◌⊎◌, inl, inr, ◌∙◌, sym, ap, refl, ℕ, zero, suc, Bool, true, false, ◌&&◌, ◌||◌, List, [], ◌∷◌, ◌++◌, take, get_or, length, append_assoc, arith, nat_lt, ◌==◌}
use Rattle.std.specs.Prelude.{Option, Some, None}
use Rattle.std.proofs.lemmas.List.{take_more}
use Rattle.std.proofs.lemmas.Bool.Decides.{Decides-ltb, Decides-eqb}
use Rattle.model_core.specs.declared.fault.Fault.{Fault}
use Rattle.model_core.specs.Faults.{number, comes_before, earlier, first_by_place}
use Rattle.model_core.specs.Each.{at_each}

or_cases : (a b : Bool) → (a || b) ≡ true → (a ≡ true) ⊎ (b ≡ true)
or_cases true b e = inl refl
or_cases false b e = inr e

or_true : (a b : Bool) → (a ≡ true) ⊎ (b ≡ true) → (a || b) ≡ true
or_true true b h = refl
or_true false b h = elim h [ inl e ↦ absurd (unequal e) | inr e ↦ e ]
  where
    unequal : false ≡ true → ⊥
    unequal e = cc

and_both : (a b : Bool) → (a && b) ≡ true → (a ≡ true) × (b ≡ true)
and_both true b e = (refl, e)
and_both false b e = absurd (unequal e)
  where
    unequal : false ≡ true → ⊥
    unequal e = cc

and_of : (a b : Bool) → a ≡ true → b ≡ true → (a && b) ≡ true
and_of true b e f = f
and_of false b e f = e

less_or : (a b : ℕ) → (a < b) ⊎ (b ≤ a)
less_or zero zero = inr (omega arith)
less_or zero (suc b) = inl (omega arith)
less_or (suc a) zero = inr (omega arith)
less_or (suc a) (suc b) = elim (less_or a b) [ inl h ↦ inl (omega (arith, h)) | inr h ↦ inr (omega (arith, h)) ]

known : (a b : Fault) → comes_before a b ≡ true → (a.place < b.place) ⊎ ((a.place ≡ b.place) × (number a.kind < number b.kind))
known a b e = elim (or_cases (nat_lt a.place b.place) _ e) [
  | inl l ↦ inl ((Decides-ltb a.place b.place).0 l)
  | inr h ↦ inr ((Decides-eqb a.place b.place).0 (and_both (a.place == b.place) _ h).0, (Decides-ltb (number a.kind) (number b.kind)).0 (and_both (a.place == b.place) _ h).1)
]

told : (a b : Fault) → (a.place < b.place) ⊎ ((a.place ≡ b.place) × (number a.kind < number b.kind)) → comes_before a b ≡ true
told a b h = or_true (nat_lt a.place b.place) _ (elim h [
  | inl l ↦ inl ((Decides-ltb a.place b.place).1 l)
  | inr p ↦ inr (and_of (a.place == b.place) _ ((Decides-eqb a.place b.place).1 p.0) ((Decides-ltb (number a.kind) (number b.kind)).1 p.1))
])

through : (p q r k l m : ℕ) → (p < q) ⊎ ((p ≡ q) × (k < l)) → (q < r) ⊎ ((q ≡ r) × (l < m)) → (p < r) ⊎ ((p ≡ r) × (k < m))
through p q r k l m (inl a) (inl b) = inl (omega arith)
through p q r k l m (inl a) (inr b) = inl (omega (arith, b.0))
through p q r k l m (inr a) (inl b) = inl (omega (arith, a.0))
through p q r k l m (inr a) (inr b) = inr (a.0 ∙ b.0, omega (arith, a.1, b.1))

-- what comes before the second comes before the first, or the first comes before the second
between : (p q r k l m : ℕ) → (p < r) ⊎ ((p ≡ r) × (k < m)) → ((q < r) ⊎ ((q ≡ r) × (l < m))) ⊎ ((p < q) ⊎ ((p ≡ q) × (k < l)))
between p q r k l m h = elim (less_or q r) [
  | inl a ↦ inl (inl a)
  | inr b ↦ elim h [
    | inl c ↦ inr (inl (omega (arith, b, c)))
    | inr d ↦ elim (less_or p q) [
      | inl e ↦ inr (inl e)
      | inr f ↦ elim (less_or l m) [
        | inl g ↦ inl (inr (omega (arith, b, d.0, f), g))
        | inr n ↦ inr (inr (omega (arith, b, d.0, f), omega (arith, n, d.1)))
      ]
    ]
  ]
]

false_true : {A : Type 0} (b : Bool) → b ≡ true → b ≡ false → A
false_true b e f = absurd (unequal (sym f ∙ e))
  where
    unequal : false ≡ true → ⊥
    unequal e = cc

-- with the three comparisons laid out
chosen : (a b c : Fault) (x y z : Bool) → comes_before b a ≡ x → comes_before c b ≡ y → comes_before c a ≡ z →
    earlier (earlier (Some a) (Some b)) (Some c) ≡ earlier (Some a) (earlier (Some b) (Some c))
chosen a b c true true true e f g = rw (e, f, g) refl
chosen a b c true true false e f g = false_true (comes_before c a) (told c a (through c.place b.place a.place (number c.kind) (number b.kind) (number a.kind) (known c b f) (known b a e))) g
chosen a b c true false z e f g = rw (e, f) (rw e refl)
chosen a b c false true z e f g = rw (e, f) refl
chosen a b c false false true e f g = elim (between c.place b.place a.place (number c.kind) (number b.kind) (number a.kind) (known c a g)) [
  | inl h ↦ false_true (comes_before b a) (told b a h) e
  | inr h ↦ false_true (comes_before c b) (told c b h) f
]
chosen a b c false false false e f g = rw (e, f, g) (rw e refl)

nothing_after : (a : Option Fault) → earlier a None ≡ a
nothing_after None = refl
nothing_after (Some a) = refl

earlier_assoc : (a b c : Option Fault) → earlier (earlier a b) c ≡ earlier a (earlier b c)
earlier_assoc None b c = refl
earlier_assoc (Some a) None None = refl
earlier_assoc (Some a) None (Some c) = refl
earlier_assoc (Some a) (Some b) None = nothing_after (earlier (Some a) (Some b))
earlier_assoc (Some a) (Some b) (Some c) = chosen a b c (comes_before b a) (comes_before c b) (comes_before c a) refl refl refl

-- the first of two lists, one after the other
pub first_append : (xs ys : List Fault) → first_by_place (xs ++ ys) ≡ earlier (first_by_place xs) (first_by_place ys)
first_append [] ys = refl
first_append (x ∷ xs) ys = ap (earlier (Some x)) (first_append xs ys) ∙ sym (earlier_assoc (Some x) (first_by_place xs) (first_by_place ys))

append_nil : {X : Type 0} (xs : List X) → xs ++ [] ≡ xs
append_nil [] = refl
append_nil (x ∷ xs) = ap (λ ys. x ∷ ys) (append_nil xs)

pub each_more : {X Y : Type 0} (rows : List X → X → List Y) (before xs : List X) (x : X) →
    at_each rows before (xs ++ x ∷ []) ≡ at_each rows before xs ++ rows (before ++ xs) x
each_more rows before [] x = append_nil (rows before x) ∙ ap (λ b. rows b x) (sym (append_nil before))
each_more rows before (y ∷ xs) x =
    ap (λ rest. rows before y ++ rest) (each_more rows (before ++ y ∷ []) xs x)
    ∙ sym (append_assoc (rows before y) (at_each rows (before ++ y ∷ []) xs) (rows ((before ++ y ∷ []) ++ xs) x))
    ∙ ap (λ b. (rows before y ++ at_each rows (before ++ y ∷ []) xs) ++ rows b x) (append_assoc before (y ∷ []) xs)

pub taken_more : {X : Type 0} (xs : List X) (i : ℕ) (x : X) → i < length xs → x ≡ get_or xs i x → take (i + 1) xs ≡ take i xs ++ x ∷ []
taken_more xs i x h is = take_more xs i x h ∙ ap (λ y. take i xs ++ y ∷ []) (sym is)

-- the first fault at one more element
pub first_more : {X : Type 0} (rows : List X → X → List Fault) (xs : List X) (i : ℕ) (x : X) (first here : Option Fault) → i < length xs → x ≡ get_or xs i x →
    first ≡ first_by_place (at_each rows [] (take i xs)) → here ≡ first_by_place (rows (take i xs) x) →
    earlier first here ≡ first_by_place (at_each rows [] (take (i + 1) xs))
first_more rows xs i x first here lt is e f =
    ap (λ a. earlier a here) e ∙ ap (earlier (first_by_place (at_each rows [] (take i xs)))) f
    ∙ sym (first_append (at_each rows [] (take i xs)) (rows (take i xs) x))
    ∙ ap first_by_place (sym (each_more rows [] (take i xs) x)) ∙ ap (λ ys. first_by_place (at_each rows [] ys)) (sym (taken_more xs i x lt is))

-- and where it has none
pub first_same : {X : Type 0} (rows : List X → X → List Fault) (xs : List X) (i : ℕ) (x : X) (first : Option Fault) → i < length xs → x ≡ get_or xs i x →
    first ≡ first_by_place (at_each rows [] (take i xs)) → rows (take i xs) x ≡ [] → first ≡ first_by_place (at_each rows [] (take (i + 1) xs))
first_same rows xs i x first lt is e none = sym (nothing_after first) ∙ first_more rows xs i x first None lt is e (ap first_by_place (sym none))
