-- What two universes over the same carrier sets have in common.
use Rattle.std.proofs.Common.{Bool, List, ap, int_le, not, pos, subst, sym, ℕ, ℤ, ◌&&◌, ◌∙◌, ◌≡◌}
use Rattle.meanings.specs.Operations.{contains, has_at_most, implies, is_finite, is_function, is_numbered, relates, truth_value, whole_number}
use Rattle.meanings.specs.Universes.{Universe, cast, every, some}
use Rattle.meanings.specs.Values.{Denotation, Sort, Value, boolean_sort, integer_sort, pair_sort, power_sort}
use Rattle.meanings.proofs.Bools.{both_ways}
use Rattle.meanings.proofs.Casts.{cast_own}
use Rattle.meanings.proofs.Quantifiers.{some_holds}

-- the sort of a relation
abbrev pub relation_sort : Sort → Sort → Sort
relation_sort a b = power_sort (pair_sort a b)

module _ {carrier : List ℕ → Type 0} (U V : Universe carrier) where
  pub cast_both : (s : Sort) (x : Denotation carrier) → x.0 ≡ s → cast U s x ≡ cast V s x
  cast_both s x e =
      let P : Sort → Type 0 = λ s. cast U s x ≡ cast V s x in
      let here : P x.0 = cast_own U x.0 x.1 ∙ sym (cast_own V x.0 x.1) in
      subst P e here

  pub some_both : (s : Sort) (p : Value carrier s → Bool) → some U s p ≡ some V s p
  some_both s p = both_ways (some U s p) (some V s p) (λ h. some_holds V s p (U.choose s p) h) (λ h. some_holds U s p (V.choose s p) h)

  pub every_both : (s : Sort) (p : Value carrier s → Bool) → every U s p ≡ every V s p
  every_both s p = ap not (some_both s (λ v. not (p v)))

  pub same_both : (s : Sort) (x y : Value carrier s) → U.same s x y ≡ V.same s x y
  same_both s x y =
      both_ways (U.same s x y) (V.same s x y) (λ h. (V.same_exact s x y).1 ((U.same_exact s x y).0 h)) (λ h. (U.same_exact s x y).1 ((V.same_exact s x y).0 h))

  pub truth_both : (x : Denotation carrier) → x.0 ≡ boolean_sort → truth_value U x ≡ truth_value V x
  truth_both x e = cast_both boolean_sort x e

  pub number_both : (x : Denotation carrier) → x.0 ≡ integer_sort → whole_number U x ≡ whole_number V x
  number_both x e = cast_both integer_sort x e

  pub contains_both : (x : Denotation carrier) (s : Sort) → x.0 ≡ power_sort s → (v : Value carrier s) → contains U x s v ≡ contains V x s v
  contains_both x s e v = λ i. cast_both (power_sort s) x e i v

  pub relates_both : (x : Denotation carrier) (a b : Sort) → x.0 ≡ relation_sort a b → (v : Value carrier a) (w : Value carrier b)
      → relates U x a b v w ≡ relates V x a b v w
  relates_both x a b e v w = contains_both x (pair_sort a b) e (v, w)

  pub function_both : (s t : Sort) (f : Value carrier s → Value carrier t → Bool) → is_function U s t f ≡ is_function V s t f
  function_both s t f = λ i. every_both s (λ x. every_both t (λ y. every_both t (λ z. implies (f x y && f x z) (same_both t y z i)) i) i) i

  numbered_both : (s : Sort) (set : Value carrier s → Bool) (n : ℤ) (numbers : ℤ × Value carrier s → Bool)
      → is_numbered U s set n numbers ≡ is_numbered V s set n numbers
  numbered_both s set n numbers = λ i.
      every_both s (λ x. implies (set x) (some_both integer_sort (λ k. int_le (pos 1) k && int_le k n && numbers (k, x)) i)) i
      && function_both integer_sort s (λ k x. numbers (k, x)) i

  pub at_most_both : (s : Sort) (set : Value carrier s → Bool) (n : ℤ) → has_at_most U s set n ≡ has_at_most V s set n
  at_most_both s set n = λ i. int_le (pos 0) n && some_both (relation_sort integer_sort s) (λ numbers. numbered_both s set n numbers i) i

  pub finite_both : (s : Sort) (set : Value carrier s → Bool) → is_finite U s set ≡ is_finite V s set
  finite_both s set = λ i. some_both integer_sort (λ n. at_most_both s set n i) i
