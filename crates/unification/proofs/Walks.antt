-- The walk that orders the places.
use Rattle.std.proofs.Common.{◌≡◌, ◌≢◌, ℕ, zero, suc, ◌+◌, ◌<◌, ◌≤◌, List, [], ◌∷◌, ◌++◌, ◌⊎◌, inl, inr, length, get_or, set, Result, Ok, Err, OnOk, refl, sym, ap, ◌∙◌, subst, arith, get_or-set_same, get_or-set_other, length-set}
use Rattle.std.proofs.lemmas.Bool.{cases_eq, cases_lt}
use Rattle.std.proofs.lemmas.List.{get_or_append_left, get_or_push, get_or_read, length_push}
use Rattle.formula_core.specs.declared.ty.Ty.{Ty}
use Rattle.unification.specs.declared.graph.Node.{Node}
use Rattle.unification.specs.declared.graph.Node.TheVariants.{Free, Pow, Pair, Same}
use Rattle.unification.specs.declared.graph.Parts.{Parts}
use Rattle.unification.specs.declared.ordering.Mark.{Mark}
use Rattle.unification.specs.declared.ordering.Mark.TheVariants.{New, Open, Done}
use Rattle.unification.specs.Terms.{value}
use Rattle.unification.specs.PrivateGraph.{node_at, form_of, node_parts, AllParts, Holds, FitsInGraph, IsGraph}
use Rattle.unification.specs.PrivateOrder.{depth, mark_at, ordered_at, IsAmongFirst, IsUnder, AreAbove, HasNoModel, Model, IsInOrder, IsWalk, Advances, IsOrder, HasModels}
use Rattle.unification.proofs.Terms.{depth-Pow, depth-Pair}
use Rattle.unification.proofs.Forms.{Says, read}
use Rattle.unification.proofs.Places.{put_type, put_same, put_other, says_put, all_parts, past, parts_fit}

-- parts are less deep, and what is linked to comes earlier
parts_under : (u : ℕ → Ty) (n k : ℕ) (x : Node) → FitsInGraph n k x → Says u k x → AllParts (λ a. IsUnder u a k) (node_parts x)
parts_under u n k (Pow a) f s = let d = ap depth s ∙ depth-Pow (u a) in (omega arith, λ e. absurd (omega arith))
parts_under u n k (Pair a b) f s =
    let d = ap depth s ∙ depth-Pair (u a) (u b) in
    ((omega arith, λ e. absurd (omega arith)), (omega arith, λ e. absurd (omega arith)))
parts_under u n k (Same a) f s = let d = ap depth s in (omega arith, λ e. f)
parts_under u n k x f s = tt

under_trans : (u : ℕ → Ty) (a k g : ℕ) → IsUnder u a k → IsUnder u k g → IsUnder u a g
under_trans u a k g p q =
    let l = p.0 in
    let m = q.0 in (
      omega arith,
      λ e.
          let x : depth (u a) ≡ depth (u k) = omega arith in
          let y : depth (u k) ≡ depth (u g) = omega arith in
          let r = p.1 x in
          let s = q.1 y in
          omega arith,
    )

pub cycle : (ns : List Node) (ms : List Mark) (at : ℕ) → AreAbove ns ms at → mark_at ms at ≡ Open → HasNoModel ns
cycle ns ms at above begun u h = let under = above u h at begun in let less = under.1 refl in omega arith

mark_own : (ms : List Mark) (i : ℕ) (m : Mark) → i < length ms → mark_at (set ms i m) i ≡ m
mark_own ms i m h = get_or-set_same ms i m New h

mark_other : (ms : List Mark) (i : ℕ) (m : Mark) (k : ℕ) → k ≢ i → mark_at (set ms i m) k ≡ mark_at ms k
mark_other ms i m k ne = get_or-set_other ms i k m New ne

-- a place is begun with
module _ (ns : List Node) (ms : List Mark) (at : ℕ) (inside : at < length ms) (new : mark_at ms at ≡ New) where
  abbrev opened : List Mark
  opened = set ms at Open

  done_before : (k : ℕ) → mark_at opened k ≡ Done → mark_at ms k ≡ Done
  done_before k e =
      elim (cases_eq k at) [
        | inl q ↦ let o : mark_at opened k ≡ Open = subst (λ j. mark_at opened j ≡ Open) (sym q) (mark_own ms at Open inside) in cc
        | inr ne ↦ sym (mark_other ms at Open k ne) ∙ e
      ]

  done_after : (k : ℕ) → mark_at ms k ≡ Done → mark_at opened k ≡ Done
  done_after k e =
      elim (cases_eq k at) [
        | inl q ↦ let n : mark_at ms k ≡ New = subst (λ j. mark_at ms j ≡ New) (sym q) new in cc
        | inr ne ↦ mark_other ms at Open k ne ∙ e
      ]

  pub walk_opened : (order : List ℕ) → IsWalk ns ms order → IsWalk ns opened order
  walk_opened order w = record {
    ordered = w.ordered;
    listed = λ k e. w.listed k (done_before k e);
    parts = λ k e. all_parts (λ a. mark_at ms a ≡ Done) (λ a. mark_at opened a ≡ Done) (node_parts (node_at ns k)) done_after (w.parts k (done_before k e));
    model = λ d. let m = w.model d in record { types = m.types; holds = λ k e. m.holds k (done_before k e); free = m.free };
  }

  -- what is above a place is above its parts, and so is the place
  pub above_parts : IsGraph ns → AreAbove ns ms at → AllParts (AreAbove ns opened) (node_parts (node_at ns at))
  above_parts graph above = go (node_at ns at) (graph at) (λ u h. h at)
    where
      below : (a : ℕ) → ((u : ℕ → Ty) → Holds u ns → IsUnder u a at) → AreAbove ns opened a
      below a under u h g e =
          elim (cases_eq g at) [
            | inl q ↦ subst (IsUnder u a) (sym q) (under u h)
            | inr ne ↦ under_trans u a at g (under u h) (above u h g (sym (mark_other ms at Open g ne) ∙ e))
          ]

      go : (x : Node) → FitsInGraph (length ns) at x → ((u : ℕ → Ty) → Holds u ns → Says u at x) → AllParts (AreAbove ns opened) (node_parts x)
      go (Pow a) f s = below a (λ u h. parts_under u (length ns) at (Pow a) f (s u h))
      go (Same a) f s = below a (λ u h. parts_under u (length ns) at (Same a) f (s u h))
      go (Pair a b) f s = (below a (λ u h. (parts_under u (length ns) at (Pair a b) f (s u h)).0), below b (λ u h. (parts_under u (length ns) at (Pair a b) f (s u h)).1))
      go x f s = tt

pub Advances-refl : (ms : List Mark) → Advances ms ms
Advances-refl ms = record { long = refl; marks = λ k. inl refl }

pub Advances-trans : (a b c : List Mark) → Advances a b → Advances b c → Advances a c
Advances-trans a b c p q = record {
  long = q.long ∙ p.long;
  marks = λ k. go k (p.marks k) (q.marks k);
}
  where
    go : (k : ℕ) → (mark_at b k ≡ mark_at a k) ⊎ ((mark_at a k ≡ New) × (mark_at b k ≡ Done)) → (mark_at c k ≡ mark_at b k) ⊎ ((mark_at b k ≡ New) × (mark_at c k ≡ Done)) → (mark_at c k ≡ mark_at a k) ⊎ ((mark_at a k ≡ New) × (mark_at c k ≡ Done))
    go k (inl e) (inl f) = inl (f ∙ e)
    go k (inl e) (inr f) = inr (sym e ∙ f.0, f.1)
    go k (inr e) (inl f) = inr (e.0, f ∙ e.1)
    go k (inr e) (inr f) = inr (e.0, f.1)

pub above_advanced : (ns : List Node) (old new : List Mark) (a : ℕ) → AreAbove ns old a → Advances old new → AreAbove ns new a
above_advanced ns old new a above adv u h g e = go (adv.marks g)
  where
    go : (mark_at new g ≡ mark_at old g) ⊎ ((mark_at old g ≡ New) × (mark_at new g ≡ Done)) → IsUnder u a g
    go (inl q) = above u h g (sym q ∙ e)
    go (inr q) = let d = q.1 in cc

pub done_advanced : (old new : List Mark) (k : ℕ) → Advances old new → mark_at old k ≡ Done → mark_at new k ≡ Done
done_advanced old new k adv e = go (adv.marks k)
  where
    go : (mark_at new k ≡ mark_at old k) ⊎ ((mark_at old k ≡ New) × (mark_at new k ≡ Done)) → mark_at new k ≡ Done
    go (inl q) = q ∙ e
    go (inr q) = q.1

open_advanced : (old new : List Mark) (k : ℕ) → Advances old new → mark_at old k ≡ Open → mark_at new k ≡ Open
open_advanced old new k adv e = go (adv.marks k)
  where
    go : (mark_at new k ≡ mark_at old k) ⊎ ((mark_at old k ≡ New) × (mark_at new k ≡ Done)) → mark_at new k ≡ Open
    go (inl q) = q ∙ e
    go (inr q) = let d = q.0 in cc

listed_more : (order : List ℕ) (at m k : ℕ) → m ≤ length order → IsAmongFirst order m k → IsAmongFirst (order ++ at ∷ []) m k
listed_more order at m k h l = let less = l.1 in (l.0, l.1, get_or_append_left order (at ∷ []) 0 l.0 (omega arith) ∙ l.2)

listed_longer : (order : List ℕ) (m n k : ℕ) → m ≤ n → IsAmongFirst order m k → IsAmongFirst order n k
listed_longer order m n k h l = let less = l.1 in (l.0, omega arith, l.2)

-- a place is done after its parts
module _ (ns : List Node) (ms : List Mark) (order : List ℕ) (at : ℕ) (graph_inside : at < length ns) (inside : at < length ms) (w : IsWalk ns ms order) (begun : mark_at ms at ≡ Open) (done : AllParts (λ a. mark_at ms a ≡ Done) (node_parts (node_at ns at))) where
  abbrev finished : List Mark
  finished = set ms at Done

  abbrev longer : List ℕ
  longer = order ++ at ∷ []

  other : (a : ℕ) → mark_at ms a ≡ Done → a ≢ at
  other a d q = let o : mark_at ms a ≡ Open = subst (λ j. mark_at ms j ≡ Open) (sym q) begun in cc

  stays_done : (a : ℕ) → mark_at ms a ≡ Done → mark_at finished a ≡ Done
  stays_done a d = mark_other ms at Done a (other a d) ∙ d

  was_done : (k : ℕ) → k ≢ at → mark_at finished k ≡ Done → mark_at ms k ≡ Done
  was_done k ne d = sym (mark_other ms at Done k ne) ∙ d

  in_order : IsInOrder ns longer
  in_order =
      let l = length_push order at in
      record {
        inside = λ m h. elim (cases_lt m (length order)) [
          | inl lt ↦ subst (λ k. k < length ns) (sym (get_or_append_left order (at ∷ []) 0 m lt)) (w.ordered.inside m lt)
          | inr le ↦ subst (λ k. k < length ns) (sym (get_or_push order at 0 m (omega arith))) graph_inside
        ];
        parts = λ m h. elim (cases_lt m (length order)) [
          | inl lt ↦ subst (λ k. AllParts (IsAmongFirst longer m) (node_parts (node_at ns k))) (sym (get_or_append_left order (at ∷ []) 0 m lt))
              (all_parts (IsAmongFirst order m) (IsAmongFirst longer m) (node_parts (node_at ns (ordered_at order m))) (λ a. listed_more order at m a (omega arith)) (w.ordered.parts m lt))
          | inr le ↦
              let same : length order ≡ m = omega arith in
              subst (λ k. AllParts (IsAmongFirst longer m) (node_parts (node_at ns k))) (sym (get_or_push order at 0 m same))
              (all_parts (λ a. mark_at ms a ≡ Done) (IsAmongFirst longer m) (node_parts (node_at ns at)) (λ a d. subst (λ n. IsAmongFirst longer n a) same (listed_more order at (length order) a (omega arith) (w.listed a d))) done)
        ];
      }

  finished_model : (d : Ty) → Model ns finished d
  finished_model d =
      let m = w.model d in
      let t = value m.types (form_of at (node_at ns at)) in
      let v = put_type m.types at t in
      let agrees : (a : ℕ) → mark_at ms a ≡ Done → v a ≡ m.types a = λ a e. put_other m.types at t a (other a e) in
      record {
        types = v;
        holds = λ k e. elim (cases_eq k at) [
          | inl q ↦ subst (λ j. Says v j (node_at ns j)) (sym q) (says_put m.types v at (node_at ns at) (all_parts (λ a. mark_at ms a ≡ Done) (λ a. v a ≡ m.types a) (node_parts (node_at ns at)) agrees done) (put_same m.types at t))
          | inr ne ↦
              let was = was_done k ne e in
              says_put m.types v k (node_at ns k) (all_parts (λ a. mark_at ms a ≡ Done) (λ a. v a ≡ m.types a) (node_parts (node_at ns k)) agrees (w.parts k was)) (agrees k was ∙ m.holds k was)
        ];
        free = λ k e. elim (cases_eq k at) [
          | inl q ↦ subst (λ j. v j ≡ d) (sym q)
              (let here : node_at ns at ≡ Free = subst (λ j. node_at ns j ≡ Free) q e in
              put_same m.types at t ∙ ap (λ n. value m.types (form_of at n)) here ∙ m.free at here)
          | inr ne ↦ put_other m.types at t k ne ∙ m.free k e
        ];
      }

  pub walk_finished : IsWalk ns finished longer
  walk_finished =
      let l = length_push order at in
      record {
        ordered = in_order;
        listed = λ k e. elim (cases_eq k at) [
          | inl q ↦ (length order, omega arith, get_or_push order at 0 (length order) refl ∙ sym q)
          | inr ne ↦ listed_longer longer (length order) (length longer) k (omega arith) (listed_more order at (length order) k (omega arith) (w.listed k (was_done k ne e)))
        ];
        parts = λ k e. elim (cases_eq k at) [
          | inl q ↦ subst (λ j. AllParts (λ a. mark_at finished a ≡ Done) (node_parts (node_at ns j))) (sym q) (all_parts (λ a. mark_at ms a ≡ Done) (λ a. mark_at finished a ≡ Done) (node_parts (node_at ns at)) stays_done done)
          | inr ne ↦ all_parts (λ a. mark_at ms a ≡ Done) (λ a. mark_at finished a ≡ Done) (node_parts (node_at ns k)) stays_done (w.parts k (was_done k ne e))
        ];
        model = finished_model;
      }

-- what the whole visit of a place comes to
pub record Visited (ns : List Node) (old new : List Mark) (order : List ℕ) (at : ℕ) : Type 0 where
  pub walked : IsWalk ns new order
  pub done : mark_at new at ≡ Done
  pub advanced : Advances old new

pub visited : (ns : List Node) (old mid new : List Mark) (order longer : List ℕ) (at : ℕ) → at < length ns → length old ≡ length ns → mark_at old at ≡ New → Advances (set old at Open) mid → IsWalk ns mid order → AllParts (λ a. mark_at mid a ≡ Done) (node_parts (node_at ns at)) → new ≡ set mid at Done → longer ≡ order ++ at ∷ [] → Visited ns old new longer at
visited ns old mid new order longer at here long fresh adv w done is longer_is =
    let inside : at < length old = omega arith in
    let l = adv.long in
    let k = length-set old at Open in
    let mid_inside : at < length mid = omega arith in
    let begun : mark_at mid at ≡ Open = open_advanced (set old at Open) mid at adv (mark_own old at Open inside) in
    let result : Visited ns old (set mid at Done) (order ++ at ∷ []) at = record {
      walked = walk_finished ns mid order at here mid_inside w begun done;
      done = mark_own mid at Done mid_inside;
      advanced = record {
        long = length-set mid at Done ∙ l ∙ k;
        marks = λ j. elim (cases_eq j at) [
          | inl q ↦ subst (λ i. (mark_at (set mid at Done) i ≡ mark_at old i) ⊎ ((mark_at old i ≡ New) × (mark_at (set mid at Done) i ≡ Done))) (sym q) (inr (fresh, mark_own mid at Done mid_inside))
          | inr ne ↦ moved j ne (adv.marks j)
        ];
      };
    } in
    subst (λ ms. Visited ns old ms longer at) (sym is) (subst (λ os. Visited ns old (set mid at Done) os at) (sym longer_is) result)
  where
    moved : (j : ℕ) → j ≢ at → (mark_at mid j ≡ mark_at (set old at Open) j) ⊎ ((mark_at (set old at Open) j ≡ New) × (mark_at mid j ≡ Done)) → (mark_at (set mid at Done) j ≡ mark_at old j) ⊎ ((mark_at old j ≡ New) × (mark_at (set mid at Done) j ≡ Done))
    moved j ne (inl e) = inl (mark_other mid at Done j ne ∙ e ∙ mark_other old at Open j ne)
    moved j ne (inr e) = inr (sym (mark_other old at Open j ne) ∙ e.0, mark_other mid at Done j ne ∙ e.1)

-- how many places are new
abbrev new_weight : Mark → ℕ
new_weight New = 1
new_weight _ = 0

abbrev pub count_new : List Mark → ℕ
count_new [] = 0
count_new (m ∷ ms) = new_weight m + count_new ms

count_new-set : (ms : List Mark) (i : ℕ) (m : Mark) → i < length ms → count_new (set ms i m) + new_weight (mark_at ms i) ≡ count_new ms + new_weight m
count_new-set [] i m h = absurd (omega arith)
count_new-set (x ∷ ms) zero m h = omega arith
count_new-set (x ∷ ms) (suc i) m h = let rest = count_new-set ms i m (omega arith) in omega arith

pub count_opened : (ms : List Mark) (at : ℕ) → at < length ms → mark_at ms at ≡ New → count_new (set ms at Open) < count_new ms
count_opened ms at h e =
    let s = count_new-set ms at Open h in
    let w : new_weight (mark_at ms at) ≡ 1 = ap new_weight e in
    omega arith

count_new-le : (old new : List Mark) → length new ≡ length old → ((k : ℕ) → (mark_at new k ≡ mark_at old k) ⊎ ((mark_at old k ≡ New) × (mark_at new k ≡ Done))) → count_new new ≤ count_new old
count_new-le [] [] l f = omega arith
count_new-le [] (n ∷ ns) l f = absurd (omega arith)
count_new-le (m ∷ ms) [] l f = omega arith
count_new-le (m ∷ ms) (n ∷ ns) l f =
    let rest = count_new-le ms ns (omega arith) (λ k. f (suc k)) in
    let first = go (f 0) in
    omega arith
  where
    go : (n ≡ m) ⊎ ((m ≡ New) × (n ≡ Done)) → new_weight n ≤ new_weight m
    go (inl e) = let w = ap new_weight e in omega arith
    go (inr e) = let w : new_weight n ≡ 0 = ap new_weight e.1 in omega arith

pub count_advanced : (old new : List Mark) → Advances old new → count_new new ≤ count_new old
count_advanced old new adv = count_new-le old new adv.long adv.marks

-- all places, one after another
pub record Walking (ns : List Node) (ms : List Mark) (order : List ℕ) (at : ℕ) : Type 0 where
  pub walk : IsWalk ns ms order
  pub long : length ms ≡ length ns
  pub closed : (k : ℕ) → mark_at ms k ≢ Open
  pub done : (k : ℕ) → k < at → mark_at ms k ≡ Done

pub Walking-start : (ns : List Node) (ms : List Mark) → length ms ≡ length ns → ((k : ℕ) → mark_at ms k ≡ New) → Walking ns ms [] 0
Walking-start ns ms long fresh = record {
  walk = record {
    ordered = record { inside = λ m h. absurd (omega arith); parts = λ m h. absurd (omega arith) };
    listed = λ k e. let n = fresh k in cc;
    parts = λ k e. let n = fresh k in cc;
    model = λ d. record { types = λ k. d; holds = λ k e. let n = fresh k in cc; free = λ k e. refl };
  };
  long = long;
  closed = λ k e. let n = fresh k in cc;
  done = λ k h. absurd (omega arith);
}

pub above_closed : (ns : List Node) (ms : List Mark) (at : ℕ) → ((k : ℕ) → mark_at ms k ≢ Open) → AreAbove ns ms at
above_closed ns ms at closed u h g e = absurd (closed g e)

pub Walking-step : (ns : List Node) (old new : List Mark) (order longer : List ℕ) (at : ℕ) → Walking ns old order at → IsWalk ns new longer → mark_at new at ≡ Done → Advances old new → Walking ns new longer (at + 1)
Walking-step ns old new order longer at s w done adv = record {
  walk = w;
  long = adv.long ∙ s.long;
  closed = λ k e. go k e (adv.marks k);
  done = λ k h. elim (cases_eq k at) [
    | inl q ↦ subst (λ j. mark_at new j ≡ Done) (sym q) done
    | inr ne ↦ done_advanced old new k adv (s.done k (omega arith))
  ];
}
  where
    go : (k : ℕ) → mark_at new k ≡ Open → (mark_at new k ≡ mark_at old k) ⊎ ((mark_at old k ≡ New) × (mark_at new k ≡ Done)) → ⊥
    go k e (inl q) = s.closed k (sym q ∙ e)
    go k e (inr q) = let d = q.1 in cc

pub all_ordered : (ns : List Node) (ms : List Mark) (order : List ℕ) (at : ℕ) → Walking ns ms order at → length ns ≤ at → IsOrder ns order
all_ordered ns ms order at s h = record { ordered = s.walk.ordered; all = λ k l. s.walk.listed k (s.done k (omega arith)) }

pub all_models : (ns : List Node) (ms : List Mark) (order : List ℕ) (at : ℕ) → Walking ns ms order at → length ns ≤ at → HasModels ns
all_models ns ms order at s h d =
    let m = s.walk.model d in
    record {
      types = m.types;
      holds = λ k. elim (cases_lt k (length ns)) [
        | inl lt ↦ m.holds k (s.done k (omega arith))
        | inr le ↦ subst (Says m.types k) (sym (past ns k le)) refl
      ];
      free = m.free;
    }

-- the same, if there was room to finish
pub visited_ok : {E : Type 0} (r : Result (Unit {0}) E) (ns : List Node) (old mid new : List Mark) (order longer : List ℕ) (at : ℕ) → at < length ns → length old ≡ length ns → mark_at old at ≡ New → Advances (set old at Open) mid → IsWalk ns mid order → AllParts (λ a. mark_at mid a ≡ Done) (node_parts (node_at ns at)) → OnOk r (new ≡ set mid at Done) → OnOk r (longer ≡ order ++ at ∷ []) → OnOk r (Visited ns old new longer at)
visited_ok (Ok x) ns old mid new order longer at here long fresh adv w done is longer_is = visited ns old mid new order longer at here long fresh adv w done is longer_is
visited_ok (Err e) ns old mid new order longer at here long fresh adv w done is longer_is = tt

-- what is known as the visit of a new place begins
pub record Begins (ns : List Node) (old : List Mark) (order : List ℕ) (at : ℕ) : Type 0 where
  pub fresh : mark_at old at ≡ New
  pub long : length old ≡ length ns
  pub count : count_new (set old at Open) < count_new old
  pub longer : length (set old at Open) ≡ length ns
  pub walk : IsWalk ns (set old at Open) order
  pub above : AllParts (AreAbove ns (set old at Open)) (node_parts (node_at ns at))
  pub inside : AllParts (λ a. a < length ns) (node_parts (node_at ns at))

pub read_mark : (ms : List Mark) (i n : ℕ) (m x : Mark) → i < n → n ≡ length ms → m ≡ get_or ms i m → m ≡ x → mark_at ms i ≡ x
read_mark ms i n m x h long e is = sym (get_or_read ms i m (omega arith) e New) ∙ is

pub read_parts : (ns : List Node) (i : ℕ) (x : Node) (p : Parts) → i < length ns → x ≡ get_or ns i x → p ≡ node_parts x → node_parts (node_at ns i) ≡ p
read_parts ns i x p h e is = sym (is ∙ ap node_parts (read ns i x h e))

pub begins : (ns : List Node) (old : List Mark) (order : List ℕ) (at n : ℕ) → IsGraph ns → at < length ns → n ≡ length ns → n ≡ length old → IsWalk ns old order → AreAbove ns old at → mark_at old at ≡ New → Begins ns old order at
begins ns old order at n graph here marked long w above fresh =
    let inside : at < length old = omega arith in
    record {
      fresh = fresh;
      long = sym long ∙ marked;
      count = count_opened old at inside fresh;
      longer = length-set old at Open ∙ sym long ∙ marked;
      walk = walk_opened ns old at inside fresh order w;
      above = above_parts ns old at inside fresh graph above;
      inside = parts_fit (length ns) at (node_at ns at) here (graph at);
    }
