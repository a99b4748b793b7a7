-- The rows of the table of operators.
use Rattle.std.proofs.Common.{◌≡◌, ◌∙◌, ap, refl, ℕ, zero, suc, Bool, true, false, ◌&&◌, List, [], ◌∷◌, slice_get, Some}
use Rattle.std.specs.Option.{option_map_or}
use Rattle.std.specs.List.{list_all}
use Rattle.std.specs.Borrow.{Bor}
use Rattle.formula_core.specs.declared.op.Op.{Op}
use Rattle.formula_core.specs.declared.op.Op.TheVariants as op
use Rattle.formula_core.specs.declared.op.Binder.{Binder}
use Rattle.formula_core.specs.declared.op.Binder.TheVariants as binder
use Rattle.formula_core.specs.declared.op.TheConstants.{OPERATORS, BINDERS}
use Rattle.formula_core.specs.Numbers.{number_of, binder_number_of}
use Rattle.math_grammar.specs.declared.operators.Form.{Form}
use Rattle.math_grammar.specs.declared.operators.Form.TheVariants as form
use Rattle.math_grammar.specs.Operators.{spellings, spelled_sign, spelled_form}
use Rattle.math_grammar.specs.Private.{spellings_of}

pub sign_there : (table : List (Op × Bor (List ℕ) × Form)) (at : ℕ) → spelled_sign (spellings_of table) at ≡ option_map_or (λ row. row.1.now) (slice_get table at) []
sign_there [] at = refl
sign_there (row ∷ table) zero = refl
sign_there (row ∷ table) (suc at) = sign_there table at

pub form_there : (table : List (Op × Bor (List ℕ) × Form)) (at : ℕ) → spelled_form (spellings_of table) at ≡ option_map_or (λ row. row.2) (slice_get table at) form.Constant
form_there [] at = refl
form_there (row ∷ table) zero = refl
form_there (row ∷ table) (suc at) = form_there table at

-- each row is its operator's
in_order : (o : Op) → option_map_or (λ row. row.0) (slice_get spellings (number_of o)) o ≡ o
in_order op.Top = refl
in_order _ = refl

both_true : (a b : Bool) → (a && b) ≡ true → (a ≡ true) × (b ≡ true)
both_true true b h = (refl, h)
both_true false b h = cc

in_list : {X : Type 0} (p : X → Bool) (xs : List X) (n : ℕ) (x : X) → slice_get xs n ≡ Some x → list_all p xs ≡ true → p x ≡ true
in_list p [] n x e h = cc
in_list p (y ∷ ys) zero x e h = let same : x ≡ y = cc in ap p same ∙ (both_true (p y) (list_all p ys) h).0
in_list p (y ∷ ys) (suc n) x e h = in_list p ys n x e (both_true (p y) (list_all p ys) h).1

listed : (o : Op) → slice_get OPERATORS (number_of o) ≡ Some o
listed op.Top = refl
listed _ = refl

listed_binder : (b : Binder) → slice_get BINDERS (binder_number_of b) ≡ Some b
listed_binder binder.ForAll = refl
listed_binder _ = refl

-- a test that all operators pass is passed by any, and one of all binders too
pub any_operator : (p : Op → Bool) → list_all p OPERATORS ≡ true → (o : Op) → p o ≡ true
any_operator p h o = in_list p OPERATORS (number_of o) o (listed o) h

pub any_binder : (p : Binder → Bool) → list_all p BINDERS ≡ true → (b : Binder) → p b ≡ true
any_binder p h b = in_list p BINDERS (binder_number_of b) b (listed_binder b) h
