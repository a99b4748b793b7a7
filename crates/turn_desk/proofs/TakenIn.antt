-- Chairs that chair 0 takes in, the last of those that are left first.
use Rattle.std.proofs.Common.{◌≡◌, ℕ, ◌+◌, ◌-◌, ◌<◌, List, [], ◌∷◌, ◌++◌, length, get_or, take, All, sym, refl, ap, ◌∙◌, subst, arith}
use Rattle.std.proofs.lemmas.List.{append-nil, get_or-take, take-take, take_at, get_or_push, get_or_default}
use mathlib.Core.Logic.{dite}
use native.Mathlib.Decide.{ℕ_discrete}
use Rattle.turn_desk.specs.Log.{IsPrefix, entries_of, Joined, AllJoined}
use Rattle.turn_desk.specs.Chairs.{DeskState, ChairState, IsOf, with_chair, HasTakenIn, HasJoined, IsNumberedFrom, AreNew, AreSame}
use Rattle.turn_desk.proofs.Logs.{begins_then, joined_new, joined_still}

pub whole : {A : Type 0} (xs : List A) → xs ≡ take (length xs) xs
whole xs = sym (ap (take (length xs)) (sym (append-nil xs)) ∙ take_at xs [] (length xs) refl)

module _ {E B : Type 0} (chair_of : E → ℕ) (f f' : ChairState E B) (cs xs : List (ChairState E B)) (x : ChairState E B) (n : ℕ) (count : length xs + 1 ≡ n) (here : xs ++ x ∷ [] ≡ take n cs) where
  pub left_over : xs ≡ take (length xs) cs
  left_over = sym (take_at xs (x ∷ []) (length xs) refl) ∙ (ap (take (length xs)) here ∙ take-take (length xs) n cs (omega arith))

  last_is : (d : ChairState E B) → get_or cs (length xs) d ≡ x
  last_is d = sym (get_or-take n cs (length xs) d (omega arith)) ∙ (ap (λ l. get_or l (length xs) d) (sym here) ∙ get_or_push xs x d (length xs) refl)

  pub still_taken : f' ≡ with_chair chair_of f x → IsPrefix f.seen f'.seen → IsPrefix x.seen f'.seen → HasJoined chair_of f cs n → HasJoined chair_of f' cs (length xs)
  still_taken grown mine theirs taken i d low high =
      let more : f'.joined ≡ f.joined ++ (x.number, entries_of chair_of x.number x.seen) ∷ [] = ap (λ s. s.joined) grown in
      dite (ℕ_discrete i (length xs))
      (λ is. let e : get_or cs i d ≡ x = ap (λ k. get_or cs k d) is ∙ last_is d in
      subst (HasTakenIn chair_of f') (sym e)
      (subst (λ l. Joined l x.number (entries_of chair_of x.number x.seen)) (sym more) (joined_new f.joined x.number (entries_of chair_of x.number x.seen)), theirs))
      (λ not. let t = taken i d (omega arith) high in
      (subst (λ l. Joined l (get_or cs i d).number (entries_of chair_of (get_or cs i d).number (get_or cs i d).seen)) (sym more) (joined_still f.joined (x.number, entries_of chair_of x.number x.seen) (get_or cs i d).number (entries_of chair_of (get_or cs i d).number (get_or cs i d).seen) t.0), begins_then (get_or cs i d).seen f.seen f'.seen t.1 mine))

module _ {E B : Type 0} (chair_of : E → ℕ) (f : ChairState E B) (cs : List (ChairState E B)) (taken : HasJoined chair_of f cs 0) (numbers : IsNumberedFrom 1 cs) where
  -- the chair k among them, and what chair 0 knows of it
  pub taken_in : (k : ℕ) → 0 < k → k < length cs + 1 → (c : ChairState E B) × ((d : ChairState E B) → get_or cs (k - 1) d ≡ c) × (c.number ≡ k) × Joined f.joined k (entries_of chair_of k c.seen) × IsPrefix c.seen f.seen
  taken_in k low high =
      let c : ChairState E B = get_or cs (k - 1) f in
      let number : c.number ≡ k = numbers (k - 1) f (omega arith) ∙ omega arith in
      let t = taken (k - 1) f (omega arith) (omega arith) in
      (c, λ d. get_or_default cs (k - 1) d f (omega arith), number, subst (λ (j : ℕ). Joined f.joined j (entries_of chair_of j c.seen)) number t.0, t.1)

  pub all_taken : AllJoined f.joined (length cs + 1)
  all_taken k low high = let t = taken_in k low high in (entries_of chair_of k t.0.seen, t.3)

module _ {E B : Type 0} (cs ds : List (ChairState E B)) (same : AreSame cs ds) where
  -- chairs that acted keep their numbers
  pub same_numbers : (first : ChairState E B) (n : ℕ) → AreNew first n cs → IsNumberedFrom n ds
  same_numbers first n new i c inside = let h : i < length cs = omega (arith, inside, same.0) in
      ap (λ (x : ChairState E B). x.number) (same.1 i c h) ∙ ap (λ (x : ChairState E B). x.number) (new i c h)

  -- and are of the same desk
  pub same_desk : (d : DeskState B) → All (IsOf d) cs → All (IsOf d) ds
  same_desk d all i c inside = let h : i < length cs = omega (arith, inside, same.0) in
      let t = all i c h in (ap (λ (x : ChairState E B). x.table) (same.1 i c h) ∙ t.0, ap (λ (x : ChairState E B). x.base) (same.1 i c h) ∙ t.1)
