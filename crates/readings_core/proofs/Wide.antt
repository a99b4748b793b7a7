-- What is computed after something that may be too wide.
use Rattle.std.proofs.Common.{◌≡◌, sym, ap, refl, ◌≤◌, ◌<◌, ℤ, List, [], ◌∷◌, ◌++◌, length, get_or, Result, Ok, Err, arith}
use Rattle.readings_core.specs.declared.values.ValueFault.{ValueFault}
use Rattle.readings_core.specs.Values.{unless_wide}

abbrev pub Operands : Type 0
Operands = List (ℤ × ℤ)

-- nothing was too wide, and this is the value
pub none_wide : {X : Type 0} (ws : Operands) (x y : X) → unless_wide ws x ≡ Ok y → (ws ≡ []) × (x ≡ y)
none_wide [] x y e = (refl, cc)
none_wide (w ∷ ws) x y e = absurd (cc)

abbrev failed : (X : Type 0) → ValueFault → Result X ValueFault
failed X fault = Err fault

same_fault : (X : Type 0) (x y : ValueFault) → failed X x ≡ failed X y → x ≡ y
same_fault X x y e = cc

-- what was too wide stays so, whatever comes after it
pub still_wide : (X Y : Type 0) (ws vs : Operands) (x : X) (y : Y) (fault : ValueFault) → unless_wide ws x ≡ Err fault → unless_wide (ws ++ vs) y ≡ Err fault
still_wide X Y [] vs x y fault e = absurd (cc)
still_wide X Y (w ∷ ws) vs x y fault e = ap Err (same_fault X _ fault e)

pub wide_still : (X Y : Type 0) (ws : Operands) (x : X) (y : Y) (fault : ValueFault) → unless_wide ws x ≡ Err fault → unless_wide ws y ≡ Err fault
wide_still X Y [] x y fault e = absurd (cc)
wide_still X Y (w ∷ ws) x y fault e = ap Err (same_fault X _ fault e)

pub one_item : {X : Type 0} → (xs : List X) (x : X) → 1 ≤ length xs → length xs < 2 → x ≡ get_or xs 0 x → xs ≡ x ∷ []
one_item [] x h k e = absurd (omega arith)
one_item (a ∷ []) x h k e = λ i. sym e i ∷ []
one_item (a ∷ b ∷ xs) x h k e = absurd (omega arith)

pub two_items : {X : Type 0} → (xs : List X) (x y : X) → 2 ≤ length xs → length xs < 3 → x ≡ get_or xs 0 x → y ≡ get_or xs 1 y → xs ≡ x ∷ y ∷ []
two_items [] x y h k e f = absurd (omega arith)
two_items (a ∷ []) x y h k e f = absurd (omega arith)
two_items (a ∷ b ∷ []) x y h k e f = λ i. sym e i ∷ sym f i ∷ []
two_items (a ∷ b ∷ d ∷ xs) x y h k e f = absurd (omega arith)
