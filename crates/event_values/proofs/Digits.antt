-- The digits of a number, one at a time.
use Rattle.std.proofs.Common.{◌≡◌, ◌∙◌, ap, refl, ℕ, ◌+◌, ◌-◌, ◌*◌, ◌<◌, List, [], ◌∷◌, ◌++◌, length, take, get_or}
use Rattle.std.proofs.lemmas.List.{take_more}
use Rattle.event_values.specs.Reading.{number_after}

pub value_more : (v : ℕ) (ds : List ℕ) (c : ℕ) → number_after v (ds ++ c ∷ []) ≡ 10 * number_after v ds + (c - 48)
value_more v [] c = refl
value_more v (d ∷ ds) c = value_more (10 * v + (d - 48)) ds c

pub digit_taken : (ds : List ℕ) (i : ℕ) → i < length ds → number_after 0 (take (i + 1) ds) ≡ 10 * number_after 0 (take i ds) + (get_or ds i 0 - 48)
digit_taken ds i less = ap (number_after 0) (take_more ds i 0 less) ∙ value_more 0 (take i ds) (get_or ds i 0)
