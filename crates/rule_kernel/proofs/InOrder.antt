-- Names in order: which of them stand there.
use Rattle.std.proofs.Common.{◌≡◌, ◌∙◌, sym, ap, subst, refl, ℕ, Bool, true, false, cond, List, [], ◌∷◌, fold, Option, Some}
use Rattle.std.specs.Prelude.{bytes_eq, not, filter, is_some, ◌||◌}
use Rattle.std.specs.List.{list_any}
use Rattle.std.specs.BTreeMap.{is_at}
use Rattle.std.specs.Map.{lookup}
use Rattle.std.specs.declared.cmp.Ordering.{Ordering}
use Rattle.std.specs.declared.cmp.Ordering.TheVariants.{Less, Equal, Greater}
use Rattle.std.specs.Ordering.{nat_cmp, match_ordering, is_eq}
use Rattle.std.specs.Cmp.Lexicographic.{slice_cmp, same_text}
use Rattle.std.proofs.lemmas.Map.Lookups.{exact_bytes}
use Rattle.std.proofs.lemmas.Map.Text.{is_eq-slice_cmp}
use Rattle.std.proofs.lemmas.Slice.Eq.{bytes_eq-Decides}
use Rattle.formula_core.specs.declared.Ty.{Ty}
use Rattle.formula_core.specs.Env.{type_in}
use Rattle.rule_table.specs.Rules.{with_name, sorted_by_name, is_named}
use Rattle.rule_kernel.specs.Private.{is_other}

abbrev pub Names : Type 0
Names = List (List ℕ × Ty)

twice : (b : Bool) (s t u : Option Ty) → cond b s u ≡ cond b s (cond b t u)
twice true s t u = refl
twice false s t u = refl

swapped : (a b : Bool) (s t u : Option Ty) → (a ≡ true → b ≡ true → ⊥) → cond a t (cond b s u) ≡ cond b s (cond a t u)
swapped true true s t u h = absurd (h refl refl)
swapped true false s t u h = refl
swapped false b s t u h = refl

-- the type of a name after one was added
module _ (x : List ℕ × Ty) (name : List ℕ) where
  apart : (other : List ℕ) → slice_cmp nat_cmp x.0 other ≡ Greater → bytes_eq name other ≡ true → bytes_eq name x.0 ≡ true → ⊥
  apart other h a b =
      let e : x.0 ≡ other = sym (same_text name x.0 (sym b)) ∙ same_text name other (sym a) in
      let same : bytes_eq x.0 other ≡ true = subst (λ n. bytes_eq n other ≡ true) (same_text name x.0 (sym b)) a in
      let is : is_eq (slice_cmp nat_cmp x.0 other) ≡ true = is_eq-slice_cmp x.0 other ∙ same in
      let is_not : is_eq (slice_cmp nat_cmp x.0 other) ≡ false = ap is_eq h in
      cc

  at : (e : List ℕ × Ty) (es : Names) (r : Ordering) → slice_cmp nat_cmp x.0 e.0 ≡ r
      → type_in (with_name es x) name ≡ cond (bytes_eq name x.0) (Some x.1) (type_in es name)
      → type_in (match_ordering r ((x.0, x.1) ∷ e ∷ es) ((e.0, x.1) ∷ es) (e ∷ with_name es x)) name ≡ cond (bytes_eq name x.0) (Some x.1) (type_in (e ∷ es) name)
  at e es Less h rest = refl
  at e es Equal h rest =
      twice (bytes_eq name e.0) (Some x.1) (Some e.1) (type_in es name)
      ∙ ap (λ n. cond (bytes_eq name n) (Some x.1) (type_in (e ∷ es) name)) (sym (exact_bytes x.0 e.0 h))
  at e es Greater h rest =
      ap (λ t. cond (bytes_eq name e.0) (Some e.1) t) rest
      ∙ swapped (bytes_eq name e.0) (bytes_eq name x.0) (Some x.1) (Some e.1) (type_in es name) (apart e.0 h)

  pub type_in-with_name : (sorted : Names) → type_in (with_name sorted x) name ≡ cond (bytes_eq name x.0) (Some x.1) (type_in sorted name)
  type_in-with_name [] = refl
  type_in-with_name (e ∷ es) = at e es (slice_cmp nat_cmp x.0 e.0) refl (type_in-with_name es)

turned : (x y : List ℕ) (b : Bool) → bytes_eq x y ≡ b → bytes_eq y x ≡ b
turned x y true h = (bytes_eq-Decides y x).1 (sym (same_text x y (sym h)))
turned x y false h = from (bytes_eq y x) refl where
  from : (c : Bool) → bytes_eq y x ≡ c → c ≡ false
  from true k = let e : bytes_eq x y ≡ true = (bytes_eq-Decides x y).1 (sym (same_text y x (sym k))) in cc
  from false k = refl

-- whether a name stands among those that were added to others
either : (b c d : Bool) (t : Ty) (o : Option Ty) → c ≡ b → (is_some (cond b (Some t) o) || d) ≡ (is_some o || (c || d))
either true true d t o e = orb_true (is_some o) where
  orb_true : (b : Bool) → true ≡ (b || true)
  orb_true true = refl
  orb_true false = refl
either false false d t o e = refl
either true false d t o e = absurd (cc e)
either false true d t o e = absurd (cc e)

stands_among : (name : List ℕ) (names sorted : Names) → is_some (type_in (fold with_name sorted names) name) ≡ (is_some (type_in sorted name) || is_named names name)
stands_among name [] sorted = none (is_some (type_in sorted name)) where
  none : (b : Bool) → b ≡ (b || false)
  none true = refl
  none false = refl
stands_among name (x ∷ names) sorted =
    stands_among name names (with_name sorted x)
    ∙ ap (λ t. is_some t || is_named names name) (type_in-with_name x name sorted)
    ∙ either (bytes_eq name x.0) (bytes_eq x.0 name) (is_named names name) x.1 (type_in sorted name) (turned name x.0 (bytes_eq name x.0) refl)

-- the names that aren't among some others
pub without_named : (added names : Names) → filter (is_other (sorted_by_name added)) names ≡ filter (λ x. not (is_named added x.0)) names
without_named added names = λ i. filter (λ x. not (stands_among x.0 added [] i)) names

-- a map finds a name as an environment does
pub lookup_at : (name : List ℕ) (es : Names) → lookup (is_at (slice_cmp nat_cmp name)) es ≡ type_in es name
lookup_at name [] = refl
lookup_at name (e ∷ es) = λ i. cond (is_eq-slice_cmp name e.0 i) (Some e.1) (lookup_at name es i)
