-- What is read between brackets.
use Rattle.std.proofs.Common.{◌≡◌, ◌∙◌, ap, sym, refl, ℕ, ◌+◌, ◌<◌, List, length, take, drop, Option, Some, None, Result, Ok, Err, IfOk, nat_lt}
use Rattle.std.specs.Prelude.{codes, if◌then◌else◌}
use Rattle.std.specs.Option.{option_map, option_and_then}
use Rattle.std.proofs.lemmas.Bool.{lt-ltb}
use Rattle.formula_core.specs.declared.ty.Ty.{Ty}
use Rattle.formula_core.specs.declared.ty.Ty.TheOpen.{Pow as PowF, Pair as PairF}
use Rattle.formula_core.specs.declared.ty.Ty.TheVariants.{Pow as PowT, Pair as PairT}
use Rattle.formula_core.specs.declared.ty.Ty.TheViews.{rolls-Pow, rolls-Pair}
use Rattle.event_values.specs.declared.value.Value.{Value}
use Rattle.event_values.specs.declared.value.Value.TheVariants as value
use Rattle.event_values.specs.Order.{ascending}
use Rattle.event_values.specs.Reading.{between_signs, piece_end, text_members, text_set, text_pair, text_value}
use Rattle.event_values.proofs.TypeSteps.{text_at}

set_read : (sizes : List (List ℕ × ℕ)) (t : Ty) (text inner : List ℕ) (o : Option Value) → between_signs (codes "{") (codes "}") text ≡ Some inner
    → o ≡ option_map (λ vs. value.Set (ascending vs)) (text_members (text_value sizes t) inner) → o ≡ text_value sizes (PowT t) text
set_read sizes t text inner o there is =
    is ∙ sym (text_at sizes (PowF t) (PowT t) (rolls-Pow t) text ∙ ap (option_and_then (text_set (text_value sizes t))) there)

pub set_told : {E : Type 0} (sizes : List (List ℕ × ℕ)) (ty t s : Ty) (text inner : List ℕ) (members : Option (List Value)) (r : Result (Option Value) E)
    → ty ≡ PowT t → s ≡ t → Some inner ≡ between_signs (codes "{") (codes "}") text → members ≡ text_members (text_value sizes s) inner
    → IfOk r (λ set. set ≡ option_map (λ vs. value.Set (ascending vs)) members) → IfOk r (λ v. v ≡ text_value sizes ty text)
set_told sizes ty t s text inner members (Err fault) of_type same there are told = tt
set_told sizes ty t s text inner members (Ok o) of_type same there are told =
    set_read sizes t text inner o (sym there) (told ∙ ap (option_map (λ vs. value.Set (ascending vs))) (are ∙ ap (λ u. text_members (text_value sizes u) inner) same))
    ∙ ap (λ u. text_value sizes u text) (sym of_type)

pair_there : (left right : List ℕ → Option Value) (inner : List ℕ) (end : ℕ) → end ≡ piece_end 0 inner → end < length inner
    → text_pair left right inner ≡ option_and_then (λ v. option_map (value.Pair v) (right (drop (end + 1) inner))) (left (take end inner))
pair_there left right inner end is less =
    sym (ap (λ n. if nat_lt n (length inner) then option_and_then (λ v. option_map (value.Pair v) (right (drop (n + 1) inner))) (left (take n inner)) else None) is)
    ∙ rw (lt-ltb end (length inner) less) refl

pub pair_read : (sizes : List (List ℕ × ℕ)) (t u : Ty) (text inner : List ℕ) (end : ℕ) (o : Option Value) → between_signs (codes "(") (codes ")") text ≡ Some inner
    → end ≡ piece_end 0 inner → end < length inner
    → o ≡ option_and_then (λ v. option_map (value.Pair v) (text_value sizes u (drop (end + 1) inner))) (text_value sizes t (take end inner))
    → o ≡ text_value sizes (PairT t u) text
pair_read sizes t u text inner end o there is less e =
    e ∙ sym (text_at sizes (PairF t u) (PairT t u) (rolls-Pair t u) text ∙ ap (option_and_then (text_pair (text_value sizes t) (text_value sizes u))) there
    ∙ pair_there (text_value sizes t) (text_value sizes u) inner end is less)

pub ruleset brackets = (pair_read)
