-- The list of the free identifiers of a formula has each of them once, and no other.
use Rattle.std.proofs.Common.{◌≡◌, ◌∙◌, sym, ap, refl, ℕ, Bool, true, false, ◌||◌, ◌↔◌, List, [], ◌∷◌, ◌++◌, fold, Contains}
use Rattle.std.specs.Prelude.{bytes_eq, if◌then◌else◌}
use Rattle.std.specs.Cmp.{IsEquivalence}
use Rattle.std.specs.Cmp.Lexicographic.{same_text}
use Rattle.std.specs.List.{list_any, IsDistinct}
use Rattle.std.proofs.lemmas.Cmp.{nat_list_eq_equiv}
use Rattle.std.proofs.lemmas.Map.Keys.{IsDistinct-push}
use Rattle.std.proofs.lemmas.Map.Views.{list_any-from_Contains, Contains-from_any}
use Rattle.formula_core.specs.declared.ty.Ty.{Ty}
use Rattle.formula_core.specs.declared.formula.Formula.{Formula}
use Rattle.formula_core.specs.Formulas.{same_identifier, with_identifier, occurrences, free_of}
use Rattle.formula_core.proofs.Types.{same_type_exact}
use Rattle.formula_core.proofs.Weakening.{first_true, second_true, both_true}
use Rattle.formula_core.proofs.WholeSets.{same_type_refl}

abbrev Identifier : Type 0
Identifier = List ℕ × Ty

exact : (a b : Identifier) → same_identifier a b ≡ true → a ≡ b
exact a b h = λ i. (same_text a.0 b.0 (sym (first_true _ _ h)) i, same_type_exact a.1 b.1 (second_true (bytes_eq a.0 b.0) _ h) i)

same_itself : (a : Identifier) → same_identifier a a ≡ true
same_itself a = both_true _ _ (nat_list_eq_equiv.refl a.0) (same_type_refl a.1)

turned : (a b : Identifier) → same_identifier a b ≡ true → same_identifier b a ≡ true
turned a b h = (λ i. same_identifier b (exact a b h i)) ∙ same_itself b

equal_tests : (p q : Bool) → (p ≡ true → q ≡ true) → (q ≡ true → p ≡ true) → p ≡ q
equal_tests true q f g = sym (f refl)
equal_tests false true f g = g refl
equal_tests false false f g = refl

symmetric : (a b : Identifier) → same_identifier a b ≡ same_identifier b a
symmetric a b = equal_tests (same_identifier a b) (same_identifier b a) (turned a b) (turned b a)

alike : IsEquivalence same_identifier
alike = record {
  refl = same_itself;
  symm = symmetric;
  congr = λ x y z h i. same_identifier (exact x y h i) z;
}

any_turned : (x : Identifier) (xs : List Identifier) → list_any (λ y. same_identifier y x) xs ≡ list_any (same_identifier x) xs
any_turned x [] = refl
any_turned x (y ∷ xs) = λ i. symmetric y x i || any_turned x xs i

distinct_step : (b : Bool) (xs : List Identifier) (x : Identifier) → list_any (λ y. same_identifier y x) xs ≡ b → IsDistinct same_identifier xs
    → IsDistinct same_identifier (if b then xs else (xs ++ x ∷ []))
distinct_step true xs x e d = d
distinct_step false xs x e d = IsDistinct-push alike xs x d (sym (any_turned x xs) ∙ e)

stay_distinct : (xs found : List Identifier) → IsDistinct same_identifier xs → IsDistinct same_identifier (fold with_identifier xs found)
stay_distinct xs [] d = d
stay_distinct xs (x ∷ found) d = stay_distinct (with_identifier xs x) found (distinct_step (list_any (λ y. same_identifier y x) xs) xs x refl d)

or_assoc : (a b c : Bool) → ((a || b) || c) ≡ (a || (b || c))
or_assoc true b c = refl
or_assoc false b c = refl

or_false : (b : Bool) → (b || false) ≡ b
or_false true = refl
or_false false = refl

or_second : (a b : Bool) → (b ≡ true → a ≡ true) → a ≡ (a || b)
or_second true b f = refl
or_second false true f = f refl
or_second false false f = refl

any_with_last : (p : Identifier → Bool) (xs : List Identifier) (x : Identifier) → list_any p (xs ++ x ∷ []) ≡ (list_any p xs || p x)
any_with_last p [] x = or_false (p x)
any_with_last p (y ∷ xs) x = ap (λ b. p y || b) (any_with_last p xs x) ∙ sym (or_assoc (p y) (list_any p xs) (p x))

found_step : (b : Bool) (q : Identifier) (xs : List Identifier) (x : Identifier) → list_any (λ y. same_identifier y x) xs ≡ b
    → list_any (same_identifier q) (if b then xs else (xs ++ x ∷ [])) ≡ (list_any (same_identifier q) xs || same_identifier q x)
found_step true q xs x e = or_second (list_any (same_identifier q) xs) (same_identifier q x) (λ h. (λ i. list_any (same_identifier (exact q x h i)) xs) ∙ sym (any_turned x xs) ∙ e)
found_step false q xs x e = any_with_last (same_identifier q) xs x

found_in : (q : Identifier) (xs found : List Identifier) → list_any (same_identifier q) (fold with_identifier xs found) ≡ (list_any (same_identifier q) xs || list_any (same_identifier q) found)
found_in q xs [] = sym (or_false (list_any (same_identifier q) xs))
found_in q xs (x ∷ found) =
    found_in q (with_identifier xs x) found
    ∙ ap (λ b. b || list_any (same_identifier q) found) (found_step (list_any (λ y. same_identifier y x) xs) q xs x refl)
    ∙ or_assoc (list_any (same_identifier q) xs) (same_identifier q x) (list_any (same_identifier q) found)

pub free_is_distinct : (f : Formula) → IsDistinct same_identifier (free_of f)
unfolding IsDistinct
free_is_distinct f = stay_distinct [] (occurrences f) tt

pub free_is_what_occurs : (f : Formula) (x : Identifier) → Contains (free_of f) x ↔ Contains (occurrences f) x
free_is_what_occurs f x = (
  λ h. Contains-from_any exact x (occurrences f) (sym (found_in x [] (occurrences f)) ∙ list_any-from_Contains alike x (free_of f) h),
  λ h. Contains-from_any exact x (free_of f) (found_in x [] (occurrences f) ∙ list_any-from_Contains alike x (occurrences f) h),
)
