-- Bytes of which a front was looked at.
use Rattle.std.proofs.Common.{◌≡◌, ℕ, ◌+◌, zero, suc, ◌-◌, List, [], ◌∷◌, length, take, drop, sym, ap, ◌∙◌, subst, arith}
use Rattle.std.proofs.lemmas.List.{drop-drop, length-drop}
use Rattle.std.proofs.Math.Seq.{take-length}
use Rattle.std.specs.Prelude.{◌≤◌}
use Rattle.session_lines.specs.Private.{HasNoFeed, IsFirstFeed}

no_more : (left : List ℕ) (k : ℕ) → HasNoFeed (take k left) → HasNoFeed (drop k left) → HasNoFeed left
no_more left zero first rest = rest
no_more [] (suc k) first rest = tt
no_more (b ∷ left) (suc k) first rest = (first.0, no_more left k first.1 rest)

found_more : (left : List ℕ) (k at : ℕ) → k ≤ length left → HasNoFeed (take k left) → IsFirstFeed (drop k left) at → IsFirstFeed left (k + at)
found_more left zero at within none first = subst (IsFirstFeed left) (let e : at ≡ 0 + at = omega arith in e) first
found_more [] (suc k) at within none first = absurd (omega (arith, first.0))
found_more (b ∷ left) (suc k) at within none first =
    let f = found_more left k at (omega (arith, within)) none.1 first in
    let e : suc (k + at) ≡ suc k + at = omega arith in
    subst (IsFirstFeed (b ∷ left)) e (omega (arith, f.0), (none.0, f.1), f.2)

-- a slice to the end
all_behind : (xs : List ℕ) (n : ℕ) → take (length xs - n) (drop n xs) ≡ drop n xs
all_behind xs n = ap (λ m. take m (drop n xs)) (sym (length-drop n xs)) ∙ take-length (drop n xs)

-- the bytes, as a call sees them, of which those before `scanned` were looked at
module _ (bytes seen : List ℕ) (start scanned : ℕ) (same : seen ≡ bytes) (low : start ≤ scanned) (high : scanned ≤ length bytes) (none : HasNoFeed (take (scanned - start) (drop start bytes))) where
  unseen : take (length seen - scanned) (drop scanned seen) ≡ drop (scanned - start) (drop start bytes)
  unseen = all_behind seen scanned ∙ ap (drop scanned) same ∙ ap (λ n. drop n bytes) (let e : scanned ≡ start + (scanned - start) = omega (arith, low) in e) ∙ sym (drop-drop (scanned - start) start bytes)

  pub not_found : HasNoFeed (take (length seen - scanned) (drop scanned seen)) → HasNoFeed (drop start bytes)
  not_found rest = no_more (drop start bytes) (scanned - start) none (subst HasNoFeed unseen rest)

  pub found : (at : ℕ) → IsFirstFeed (take (length seen - scanned) (drop scanned seen)) at → IsFirstFeed (drop start bytes) (scanned + at - start)
  found at first =
      let e : (scanned - start) + at ≡ scanned + at - start = omega (arith, low) in
      subst (IsFirstFeed (drop start bytes)) e
      (found_more (drop start bytes) (scanned - start) at (omega (arith, high, low, length-drop start bytes)) none (subst (λ l. IsFirstFeed l at) unseen first))

pub all_left : (bytes : List ℕ) (start len : ℕ) → len ≡ length bytes → take (len - start) (drop start bytes) ≡ drop start bytes
all_left bytes start len is = ap (λ n. take (n - start) (drop start bytes)) is ∙ all_behind bytes start
