-- One more model.
use Rattle.std.proofs.Common.{◌≡◌, ◌∙◌, ap, subst, arith, ℕ, suc, ◌+◌, ◌*◌, ◌%◌, List, [], ◌∷◌, ◌++◌, append_assoc}
use Rattle.demo_models.specs.Models.{number_at, three_digits, extends_line, context_with, context_name, machine_name, machine_text, models}

one_more : (i : ℕ) → suc i ≡ i + 1
one_more i = omega arith

pub next_number_at : (seed i number next : ℕ) → number ≡ number_at seed i → next ≡ (number * 1103515245 + 12345) % 2147483648 → next ≡ number_at seed (i + 1)
next_number_at seed i number next is step =
    subst (λ k. next ≡ number_at seed k) (one_more i) (step ∙ ap (λ n. (n * 1103515245 + 12345) % 2147483648) is)

pub one_more_model : (seed i next : ℕ) (a b c : List (List ℕ × List ℕ)) (x y : List ℕ × List ℕ) → next ≡ number_at seed (i + 1) → a ≡ models seed i → b ≡ a ++ x ∷ [] → c ≡ b ++ y ∷ [] →
    x ≡ (context_name (i + 1), context_with (three_digits (i + 1)) (extends_line (i + 1)) (next % 1000 + 1)) → y ≡ (machine_name (i + 1), machine_text (i + 1)) →
    c ≡ models seed (i + 1)
one_more_model seed i next a b c x y number before first second is_x is_y =
    subst (λ k. c ≡ models seed k) (one_more i)
    (second ∙ ap (λ l. l ++ y ∷ []) (first ∙ ap (λ l. l ++ x ∷ []) before) ∙ append_assoc (models seed i) (x ∷ []) (y ∷ [])
    ∙ ap (λ z. models seed i ++ z ∷ y ∷ []) (is_x ∙ ap (λ n. (context_name (i + 1), context_with (three_digits (i + 1)) (extends_line (i + 1)) (n % 1000 + 1))) number)
    ∙ ap (λ z. models seed i ++ (context_name (i + 1), context_with (three_digits (i + 1)) (extends_line (i + 1)) (number_at seed (i + 1) % 1000 + 1)) ∷ z ∷ []) is_y)
