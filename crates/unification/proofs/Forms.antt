-- Lists of forms: what a write to one place changes.
use Rattle.std.proofs.Common.{◌≡◌, ◌≢◌, ℕ, zero, suc, ◌+◌, ◌<◌, List, [], ◌∷◌, inl, inr, length, get_or, set, Some, None, refl, sym, ap, ◌∙◌, subst, arith, get_or-set_same, get_or-set_other, length-set}
use Rattle.std.proofs.lemmas.Bool.{cases_eq}
use Rattle.std.proofs.lemmas.List.{get_or_read}
use Rattle.formula_core.specs.declared.ty.Ty.{Ty}
use Rattle.unification.specs.declared.graph.Node.{Node}
use Rattle.unification.specs.declared.graph.Node.TheVariants.{Free, Int, Bool as BoolN, Truth, Given, Pow, Pair, Same}
use Rattle.unification.specs.Terms.{value}
use Rattle.unification.specs.PrivateGraph.{node_at, form_of, link_of, Holds, FitsInGraph, IsGraph, node_weight, unlinked, Alike}

-- what a form says of its place
abbrev pub Says : (ℕ → Ty) → ℕ → Node → Type 0
Says u k n = u k ≡ value u (form_of k n)

-- what holds of the other forms and of a new one holds of all
pub set_all : (P : ℕ → Node → Type 0) (ns : List Node) (i : ℕ) (n : Node) → i < length ns → ((k : ℕ) → k ≢ i → P k (node_at ns k)) → P i n → (k : ℕ) → P k (node_at (set ns i n) k)
set_all P ns i n h rest here k =
    elim (cases_eq k i) [
      | inl e ↦ subst (λ j. P j (node_at (set ns i n) j)) (sym e) (subst (P i) (sym (get_or-set_same ns i n Free h)) here)
      | inr ne ↦ subst (P k) (sym (get_or-set_other ns i k n Free ne)) (rest k ne)
    ]

-- what holds of all forms after a write holds of the others before it
pub of_other : (P : ℕ → Node → Type 0) (ns : List Node) (i : ℕ) (n : Node) → ((k : ℕ) → P k (node_at (set ns i n) k)) → (k : ℕ) → k ≢ i → P k (node_at ns k)
of_other P ns i n all k ne = subst (P k) (get_or-set_other ns i k n Free ne) (all k)

pub of_own : (P : ℕ → Node → Type 0) (ns : List Node) (i : ℕ) (n : Node) → i < length ns → ((k : ℕ) → P k (node_at (set ns i n) k)) → P i n
of_own P ns i n h all = subst (P i) (get_or-set_same ns i n Free h) (all i)

pub linked : (n : Node) (a : ℕ) → link_of n ≡ Some a → n ≡ Same a
linked Free a e = cc
linked Int a e = cc
linked BoolN a e = cc
linked Truth a e = cc
linked (Given name) a e = cc
linked (Pow b) a e = cc
linked (Pair b c) a e = cc
linked (Same b) a e = cc

pub graph_set : (ns : List Node) (i : ℕ) (n : Node) → i < length ns → IsGraph ns → FitsInGraph (length ns) i n → IsGraph (set ns i n)
graph_set ns i n h graph here =
    subst (λ m. (k : ℕ) → FitsInGraph m k (node_at (set ns i n) k)) (sym (length-set ns i n))
    (set_all (FitsInGraph (length ns)) ns i n h (λ k _. graph k) here)

pub unlinked-set : (ns : List Node) (i : ℕ) (n : Node) → i < length ns → unlinked (set ns i n) + node_weight (node_at ns i) ≡ unlinked ns + node_weight n
unlinked-set [] i n h = absurd (omega arith)
unlinked-set (m ∷ ns) zero n h = omega arith
unlinked-set (m ∷ ns) (suc i) n h = let rest = unlinked-set ns i n (omega arith) in omega arith

pub Alike-refl : (ns : List Node) → IsGraph ns → Alike ns ns
Alike-refl ns g = record { graph = g; long = refl; kept = λ u h. h; added = λ u h. h; links = refl; lasts = λ k h. refl; free = λ k h. h }

pub Alike-trans : (a b c : List Node) → Alike a b → Alike b c → Alike a c
Alike-trans a b c p q = record {
  graph = q.graph;
  long = q.long ∙ p.long;
  kept = λ u h. q.kept u (p.kept u h);
  added = λ u h. p.added u (q.added u h);
  links = q.links ∙ p.links;
  lasts = λ k h. let same = p.lasts k h in q.lasts k (ap link_of same ∙ h) ∙ same;
  free = λ k h. p.free k (q.free k h);
}

-- what a link says
pub link_below : (ns : List Node) (at next : ℕ) → IsGraph ns → link_of (node_at ns at) ≡ Some next → next < at
link_below ns at next g e = subst (FitsInGraph (length ns) at) (linked (node_at ns at) next e) (g at)

pub link_same : (u : ℕ → Ty) (ns : List Node) (at next : ℕ) → Holds u ns → link_of (node_at ns at) ≡ Some next → u at ≡ u next
link_same u ns at next h e = subst (Says u at) (linked (node_at ns at) next e) (h at)

pub shortened : (ns new : List Node) (at next further : ℕ) → IsGraph ns → at < length ns → link_of (node_at ns at) ≡ Some next → link_of (node_at ns next) ≡ Some further → new ≡ set ns at (Same further) → Alike ns new
shortened ns new at next further g inside e f is =
    let at_is = linked (node_at ns at) next e in
    let below = link_below ns at next g e in
    let below' = link_below ns next further g f in
    let apart : next ≢ at = λ q. omega arith in
    subst (Alike ns) (sym is) (record {
      graph = graph_set ns at (Same further) inside g (omega arith);
      long = length-set ns at (Same further);
      kept = λ u h. set_all (Says u) ns at (Same further) inside (λ k _. h k) (link_same u ns at next h e ∙ link_same u ns next further h f);
      added = λ u h k.
          let own : u at ≡ u further = of_own (Says u) ns at (Same further) inside h in
          let second : Says u next (node_at ns next) = of_other (Says u) ns at (Same further) h next apart in
          let next_same : u next ≡ u further = subst (Says u next) (linked (node_at ns next) further f) second in
          elim (cases_eq k at) [
            | inl q ↦ subst (λ j. Says u j (node_at ns j)) (sym q) (subst (Says u at) (sym at_is) (own ∙ sym next_same))
            | inr ne ↦ of_other (Says u) ns at (Same further) h k ne
          ];
      links = let s = unlinked-set ns at (Same further) inside in let w : node_weight (node_at ns at) ≡ 0 = ap node_weight at_is in omega arith;
      lasts = λ k last. get_or-set_other ns at k (Same further) Free (λ q. let here : link_of (node_at ns at) ≡ None = subst (λ j. link_of (node_at ns j) ≡ None) q last in cc);
      free = set_all (λ k n. n ≡ Free → node_at ns k ≡ Free) ns at (Same further) inside (λ k _ q. q) (λ q. cc);
    })

-- what was read at a place is the form there
pub read : (ns : List Node) (i : ℕ) (x : Node) → i < length ns → x ≡ get_or ns i x → x ≡ node_at ns i
read ns i x h e = get_or_read ns i x h e Free
