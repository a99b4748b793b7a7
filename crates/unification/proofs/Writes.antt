-- The types of places, written out.
use Rattle.std.proofs.Common.{◌≡◌, ◌≢◌, ℕ, zero, suc, ◌+◌, ◌<◌, ◌≤◌, cond, eqb, List, [], ◌∷◌, ◌++◌, inl, inr, length, get_or, Option, None, refl, sym, ap, ◌∙◌, subst, arith}
use Rattle.std.proofs.lemmas.Bool.{cases_eq, cases_lt, eq-eqb, ne_eqb}
use Rattle.std.proofs.lemmas.List.{get_or_append_left, get_or_push, length_push}
use Rattle.formula_core.specs.declared.ty.Ty.{Ty}
use Rattle.unification.specs.declared.graph.Node.{Node}
use Rattle.unification.specs.declared.graph.Node.TheVariants.{Pow, Pair}
use Rattle.unification.specs.Known.{type_at}
use Rattle.unification.specs.PrivateGraph.{node_at, node_parts, AllParts, Holds}
use Rattle.unification.specs.PrivateOrder.{ordered_at, IsAmongFirst, IsOrder, TypeFits}
use Rattle.unification.proofs.Terms.{same_pow, same_left, same_right}
use Rattle.unification.proofs.Forms.{Says, read}
use Rattle.unification.proofs.Places.{all_parts}
use Rattle.unification.proofs.KnownTypes.{type_at-get}

-- what the form at a place says of its type
says : (ns : List Node) (k : ℕ) (x : Node) → node_at ns k ≡ x → (u : ℕ → Ty) → Holds u ns → Says u k x
says ns k x e u h = subst (Says u k) e (h k)

-- A place has no type where a part of its form has none.

pub set_untyped : (ns : List Node) (k a : ℕ) → node_at ns k ≡ Pow a → TypeFits ns a None → TypeFits ns k None
set_untyped ns k a e p u w hu hw d q = p u w hu hw d (same_pow (u a) (w a) (sym (says ns k (Pow a) e u hu) ∙ q ∙ says ns k (Pow a) e w hw))

pub left_untyped : (ns : List Node) (k a b : ℕ) → node_at ns k ≡ Pair a b → TypeFits ns a None → TypeFits ns k None
left_untyped ns k a b e p u w hu hw d q =
    p u w hu hw d (same_left (u a) (u b) (w a) (w b) (sym (says ns k (Pair a b) e u hu) ∙ q ∙ says ns k (Pair a b) e w hw))

pub right_untyped : (ns : List Node) (k a b : ℕ) → node_at ns k ≡ Pair a b → TypeFits ns b None → TypeFits ns k None
right_untyped ns k a b e p u w hu hw d q =
    p u w hu hw d (same_right (u a) (u b) (w a) (w b) (sym (says ns k (Pair a b) e u hu) ∙ q ∙ says ns k (Pair a b) e w hw))

-- The places of parts come before.

-- where a place stands first in an order
abbrev pub rank : List ℕ → ℕ → ℕ
rank [] k = 0
rank (x ∷ xs) k = cond (eqb x k) 0 (suc (rank xs k))

rank_own : (x : ℕ) (xs : List ℕ) (k : ℕ) → x ≡ k → rank (x ∷ xs) k ≡ 0
rank_own x xs k e = ap (λ b. cond b 0 (suc (rank xs k))) (eq-eqb x k e)

rank_next : (x : ℕ) (xs : List ℕ) (k : ℕ) → x ≢ k → rank (x ∷ xs) k ≡ suc (rank xs k)
rank_next x xs k ne = ap (λ b. cond b 0 (suc (rank xs k))) (ne_eqb x k ne)

ranked : (order : List ℕ) (j k : ℕ) → j < length order → ordered_at order j ≡ k → (rank order k ≤ j) × (ordered_at order (rank order k) ≡ k)
ranked [] j k h e = absurd (omega arith)
ranked (x ∷ xs) zero k h e = let r = rank_own x xs k e in (omega arith, ap (ordered_at (x ∷ xs)) r ∙ e)
ranked (x ∷ xs) (suc j) k h e =
    elim (cases_eq x k) [
      | inl q ↦ let r = rank_own x xs k q in (omega arith, ap (ordered_at (x ∷ xs)) r ∙ q)
      | inr ne ↦
          let r = rank_next x xs k ne in
          let rest = ranked xs j k (omega arith) e in
          let below = rest.0 in
          (omega arith, ap (ordered_at (x ∷ xs)) r ∙ rest.1)
    ]

-- a place inside that comes before another one in the order
abbrev pub IsBefore : List Node → List ℕ → ℕ → ℕ → Type 0
IsBefore ns order k a = (rank order a < rank order k) × (a < length ns)

pub parts_before : (ns : List Node) (order : List ℕ) (k : ℕ) (x : Node) → IsOrder ns order → k < length ns → node_at ns k ≡ x → AllParts (IsBefore ns order k) (node_parts x)
parts_before ns order k x all h e =
    let l = all.all k h in
    let inside = l.1 in
    let r = ranked order l.0 k l.1 l.2 in
    let first = r.0 in
    let m = rank order k in
    let there : node_at ns (ordered_at order m) ≡ x = ap (node_at ns) r.1 ∙ e in
    all_parts (IsAmongFirst order m) (IsBefore ns order k) (node_parts x)
    (λ a s.
    let less = s.1 in
    let q = ranked order s.0 a (omega arith) s.2 in
    let before = q.0 in
    (omega arith, subst (λ i. i < length ns) s.2 (all.ordered.inside s.0 (omega arith))))
    (subst (λ n. AllParts (IsAmongFirst order m) (node_parts n)) there (all.ordered.parts m (omega arith)))

-- the form that was read at a place
pub is_there : (ns : List Node) (k : ℕ) (x n : Node) → k < length ns → x ≡ get_or ns k x → x ≡ n → node_at ns k ≡ n
is_there ns k x n h e is = sym (read ns k x h e) ∙ is

-- how many of the first places are written
pub record Writing (ns : List Node) (ts : List (Option Ty)) (n : ℕ) : Type 0 where
  pub long : length ts ≡ n
  pub fits : (k : ℕ) → k < n → TypeFits ns k (type_at ts k)

pub Writing-start : (ns : List Node) → Writing ns [] 0
Writing-start ns = record { long = refl; fits = λ k h. absurd (omega arith) }

pub Writing-step : (ns : List Node) (ts new : List (Option Ty)) (t : Option Ty) (n : ℕ) → Writing ns ts n → TypeFits ns n t → new ≡ ts ++ t ∷ [] → Writing ns new (n + 1)
Writing-step ns ts new t n w here is =
    subst (λ us. Writing ns us (n + 1)) (sym is) (record {
      long = let l = length_push ts t in let m = w.long in omega arith;
      fits = λ k h.
          let l = length_push ts t in
          let m = w.long in
          elim (cases_lt k n) [
            | inl lt ↦
                let same : type_at (ts ++ t ∷ []) k ≡ type_at ts k =
                type_at-get (ts ++ t ∷ []) k (omega arith) ∙ get_or_append_left ts (t ∷ []) None k (omega arith) ∙ sym (type_at-get ts k (omega arith)) in
                subst (TypeFits ns k) (sym same) (w.fits k lt)
            | inr le ↦
                let last : n ≡ k = omega arith in
                let same : type_at (ts ++ t ∷ []) k ≡ t = type_at-get (ts ++ t ∷ []) k (omega arith) ∙ get_or_push ts t None k (m ∙ last) in
                subst (TypeFits ns k) (sym same) (subst (λ i. TypeFits ns i t) last here)
          ];
    })
