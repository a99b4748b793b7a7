-- How often a chair counted, after one more act and at the end.
use Rattle.std.proofs.Common.{◌≡◌, ℕ, ◌+◌, ◌-◌, ◌<◌, ◌≤◌, List, [], ◌∷◌, ◌++◌, length, get_or, sym, ap, ◌∙◌, subst, ⊎_elim, arith, length-append}
use mathlib.Core.Logic.{dite}
use native.Mathlib.Decide.{ℕ_discrete}
use Rattle.turn_desk.specs.Log.{HasSeen, Grows, entries_of, JoinedStay}
use Rattle.turn_desk.specs.Chairs.{ChairState, AreSame, AreNew, HasJoined, new_chair}
use Rattle.turn_desk.proofs.Logs.{entries_both, entries_one}
use Rattle.turn_desk.proofs.TakenIn.{same_numbers, taken_in}
use Rattle.desk_run.specs.Counting.{count_of}
use Rattle.desk_run.specs.Private.{HasCounted, EachHasCounted}

-- one act counts at most once
pub one_more : (k : ℕ) (seen before after now : List ℕ) → HasSeen (λ e. e) k seen before → Grows (λ e. e) k before after → now ≡ after → count_of k now ≤ count_of k seen + 1
one_more k seen before after now goes grows is =
    let same : count_of k before ≡ count_of k seen = ap length goes.1 in
    let here : count_of k now ≡ count_of k after = ap (count_of k) is in
    ⊎_elim (λ (e : after ≡ before). let t : count_of k after ≡ count_of k before = ap (count_of k) e in omega (arith, same, here, t))
    (λ (m : (e : ℕ) × (e ≡ k) × (after ≡ before ++ e ∷ [])).
    let t : count_of k after ≡ count_of k (before ++ m.0 ∷ []) = ap (count_of k) m.2 in
    let u : count_of k (before ++ m.0 ∷ []) ≡ length (entries_of (λ e. e) k before ++ entries_of (λ e. e) k (m.0 ∷ [])) = ap length (entries_both (λ e. e) k before (m.0 ∷ [])) in
    let v : length (entries_of (λ e. e) k (m.0 ∷ [])) ≡ 1 = ap length (entries_one (λ e. e) k m.0 m.1) in
    omega (arith, same, here, t, u, v, length-append (entries_of (λ e. e) k before) (entries_of (λ e. e) k (m.0 ∷ [])))) grows

module _ {B : Type 0} (acts : ℕ) (cs ds : List (ChairState ℕ B)) (counted : EachHasCounted acts cs ds) where
  pub same_chairs : AreSame cs ds
  same_chairs = (
    counted.0,
    λ i c inside. let t = counted.1 i c inside in let n = ap (λ (s : ChairState ℕ B). s.acts) t.0 in
        t.0 ∙ ap (λ m. record (get_or cs i c) { acts = m; seen = (get_or ds i c).seen }) (sym n),
  )

  module _ (first zero last : ChairState ℕ B) (new : AreNew first 1 cs) (none : first.seen ≡ []) (start : zero.seen ≡ []) (number : zero.number ≡ 0)
      (own : HasCounted acts zero last) (f : ChairState ℕ B) (seen : HasSeen (λ e. e) 0 last.seen f.seen) (taken : HasJoined (λ e. e) f ds 0)
      (log : List ℕ) (whole : log ≡ f.seen) (stay : JoinedStay (λ e. e) f.joined log) where
    -- chair 0 counted no more often
    first_count : count_of 0 log ≤ acts
    first_count =
        let a : count_of 0 log ≡ count_of 0 f.seen = ap (count_of 0) whole in
        let b : count_of 0 f.seen ≡ count_of 0 last.seen = ap length seen.1 in
        let c : count_of 0 last.seen ≤ count_of 0 [] + acts = subst (λ (z : ℕ × List ℕ). count_of z.0 last.seen ≤ count_of z.0 z.1 + acts) (λ i. (number i, start i)) own.1 in
        omega (arith, a, b, c)

    -- nor did any other
    other_count : (k : ℕ) → 0 < k → k < length cs + 1 → count_of k log ≤ acts
    other_count k low high =
        let t = taken_in (λ e. e) f ds taken (same_numbers cs ds same_chairs first 1 new) k low (omega (arith, counted.0)) in
        let at : get_or ds (k - 1) first ≡ t.0 = t.1 first in
        let was : get_or cs (k - 1) first ≡ new_chair first (1 + (k - 1)) = new (k - 1) first (omega arith) in
        let u = counted.1 (k - 1) first (omega arith) in
        let back : 1 + (k - 1) ≡ k = omega arith in
        let a : count_of k log ≡ count_of k t.0.seen = ap length (stay k (entries_of (λ e. e) k t.0.seen) t.3) in
        let b : count_of k t.0.seen ≤ count_of k [] + acts =
        subst (λ (z : ℕ × List ℕ × List ℕ). count_of z.0 z.1 ≤ count_of z.0 z.2 + acts)
        (λ i. ((ap (λ (s : ChairState ℕ B). s.number) was ∙ back) i, ap (λ (s : ChairState ℕ B). s.seen) at i, (ap (λ (s : ChairState ℕ B). s.seen) was ∙ none) i)) u.1 in
        omega (arith, a, b)

    pub counts : (k : ℕ) → k < length cs + 1 → count_of k log ≤ acts
    counts k high = dite (ℕ_discrete k 0) (λ is. subst (λ n. count_of n log ≤ acts) (sym is) first_count) (λ not. other_count k (omega arith) high)
