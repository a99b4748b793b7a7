-- One step of a loop over a list that is made element by element.
use Rattle.std.proofs.Common.{◌≡◌, ◌∙◌, sym, ap, ℕ, ◌+◌, ◌<◌, List, ◌++◌, drop, get_or, length, append_assoc}
use Rattle.model_core.specs.Each.{for_each}
use Rattle.model_core.proofs.Lists.{at_index}

pub each_next : {X Y : Type 0} (rows : X → List Y) (xs : List X) (i : ℕ) (x : X) (now more whole : List Y) → i < length xs → x ≡ get_or xs i x
    → now ++ for_each rows (drop i xs) ≡ whole → more ≡ now ++ rows x → more ++ for_each rows (drop (i + 1) xs) ≡ whole
each_next rows xs i x now more whole lt is e add =
    ap (λ m. m ++ for_each rows (drop (i + 1) xs)) add ∙ append_assoc now (rows x) (for_each rows (drop (i + 1) xs))
    ∙ ap (λ ys. now ++ for_each rows ys) (sym (at_index xs i x lt is)) ∙ e
