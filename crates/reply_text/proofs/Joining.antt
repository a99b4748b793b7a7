-- Texts of pieces, one behind another.
use Rattle.std.proofs.Common.{◌≡◌, ℕ, List, ◌++◌, ap, ◌∙◌, subst, append_assoc}
use Rattle.std.specs.Prelude.{Result, Ok, Err, OnOk}

-- one piece more
pub step : (a b z so_far piece : List ℕ) → b ≡ a ++ so_far → z ≡ b ++ piece → z ≡ a ++ (so_far ++ piece)
step a b z so_far piece is added = added ∙ ap (λ l. l ++ piece) is ∙ append_assoc a so_far piece

pub two_steps : (a b z so_far one other : List ℕ) → b ≡ a ++ so_far → z ≡ b ++ one ++ other → z ≡ a ++ (so_far ++ one ++ other)
two_steps a b z so_far one other is added =
    added ∙ ap (λ l. l ++ one ++ other) is ∙ ap (λ l. l ++ other) (append_assoc a so_far one) ∙ append_assoc a (so_far ++ one) other

-- the last piece
pub then_all : {A E : Type 0} (result : Result A E) (a b z so_far piece : List ℕ) → b ≡ a ++ so_far → OnOk result (z ≡ b ++ piece) → OnOk result (z ≡ a ++ (so_far ++ piece))
then_all (Ok x) a b z so_far piece is added = step a b z so_far piece is added
then_all (Err e) a b z so_far piece is added = added

-- the same piece
pub same_piece : {A E : Type 0} (result : Result A E) (a z piece other : List ℕ) → piece ≡ other → OnOk result (z ≡ a ++ piece) → OnOk result (z ≡ a ++ other)
same_piece result a z piece other same added = subst (λ l. OnOk result (z ≡ a ++ l)) same added
