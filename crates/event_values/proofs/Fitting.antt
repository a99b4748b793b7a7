-- Numbers of 128 bits, and of 32.
use Rattle.std.proofs.Common.{◌≡◌, ◌∙◌, ap, refl, ℕ, ℤ, pos, negsuc, ◌<◌, ◌^◌, Bool, true, false, ◌&&◌, List, Some, None, nat_lt}
use Rattle.std.specs.Prelude.{FitsSigned, bytes_eq}
use Rattle.std.specs.Int.{w128}
use Rattle.std.specs.Map.{lookup}
use Rattle.std.specs.Option.{option_map_or}
use Rattle.std.proofs.lemmas.Bool.{lt-ltb}
use Rattle.event_values.specs.Typed.{has_128_bits, is_element_at}
use Rattle.event_values.specs.declared.value.Value.TheOpen.{Elem}

pub fits_true : (z : ℤ) → FitsSigned w128 z → has_128_bits z ≡ true
fits_true (pos n) h = lt-ltb n (2 ^ 127) h.sfits
fits_true (negsuc n) h = lt-ltb n (2 ^ 127) h.sfits

none_after : (b : Bool) → (b && false) ≡ false
none_after true = refl
none_after false = refl

with_true : (a b : Bool) → (a && true && b) ≡ (a && b)
with_true true b = refl
with_true false b = refl

pub no_size : (sizes : List (List ℕ × ℕ)) (set s : List ℕ) (k : ℕ) → lookup (bytes_eq set) sizes ≡ None → is_element_at sizes set (Elem s k) ≡ false
no_size sizes set s k e =
    ap (λ o. bytes_eq s set && nat_lt k (2 ^ 32) && option_map_or (λ size. nat_lt k size) o false) e ∙ none_after (bytes_eq s set && nat_lt k (2 ^ 32))

pub some_size : (sizes : List (List ℕ × ℕ)) (set s : List ℕ) (k size : ℕ) → lookup (bytes_eq set) sizes ≡ Some size → k < 2 ^ 32
    → is_element_at sizes set (Elem s k) ≡ (bytes_eq s set && nat_lt k size)
some_size sizes set s k size e small =
    ap (λ o. bytes_eq s set && nat_lt k (2 ^ 32) && option_map_or (λ n. nat_lt k n) o false) e
    ∙ ap (λ b. bytes_eq s set && b && nat_lt k size) (lt-ltb k (2 ^ 32) small) ∙ with_true (bytes_eq s set) (nat_lt k size)

pub ruleset elements = (no_size, some_size)
