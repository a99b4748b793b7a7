-- Where each letter of an operator's type stands in the type of an operand, operands of given types give it one type.
use Rattle.std.proofs.Common.{◌≡◌, ◌∙◌, sym, ap, refl, ℕ, Bool, true, false, ◌||◌, ◌&&◌, not, List, [], ◌∷◌, map, ◌⊎◌, inl, inr}
use Rattle.std.specs.List.{list_any}
use Rattle.formula_core.specs.declared.op.Op.{Op}
use Rattle.formula_core.specs.declared.op.Op.TheVariants as op
use Rattle.formula_core.specs.declared.op.Binder.{Binder}
use Rattle.formula_core.specs.declared.op.Binder.TheVariants as binder
use Rattle.formula_core.specs.declared.ty.Ty.{Ty}
use Rattle.formula_core.specs.declared.ty.Ty.TheOpen.{Pow as PowF, Pair as PairF}
use Rattle.formula_core.specs.declared.ty.Ty.TheVariants as ty
use Rattle.formula_core.specs.declared.ty.Ty.TheViews.{out-Ty, outs-Pow, outs-Pair}
use Rattle.formula_core.specs.Rows.{row_of}
use Rattle.formula_core.specs.Schemes.{Scheme, alpha, beta, gamma, delta, integer, boolean, truth, power, pair, Letters, type_of_scheme, operand_schemes, result_scheme, part_schemes, binder_scheme, IsSchemeInstance}

data Letter : Type 0 where
  first : Letter
  second : Letter
  third : Letter
  fourth : Letter

abbrev letter : Letter → Letters → Ty
letter first l = l.alpha
letter second l = l.beta
letter third l = l.gamma
letter fourth l = l.delta

abbrev has : Scheme → Letter → Bool
has alpha first = true
has beta second = true
has gamma third = true
has delta fourth = true
has (power s) x = has s x
has (pair s u) x = has s x || has u x
has _ _ = false

-- the letter stands in the scheme
abbrev occurs : Letter → Scheme → Bool
occurs x s = has s x

pow_injective : (t u : Ty) → ty.Pow t ≡ ty.Pow u → t ≡ u
pow_injective t u e = let f : PowF t ≡ PowF u = sym (outs-Pow t) ∙ ap out-Ty e ∙ outs-Pow u in cc

pair_left : (a b c d : Ty) → ty.Pair a b ≡ ty.Pair c d → a ≡ c
pair_left a b c d e = let f : PairF a b ≡ PairF c d = sym (outs-Pair a b) ∙ ap out-Ty e ∙ outs-Pair c d in cc

pair_right : (a b c d : Ty) → ty.Pair a b ≡ ty.Pair c d → b ≡ d
pair_right a b c d e = let f : PairF a b ≡ PairF c d = sym (outs-Pair a b) ∙ ap out-Ty e ∙ outs-Pair c d in cc

either : (a b : Bool) → (a || b) ≡ true → (a ≡ true) ⊎ (b ≡ true)
either true b h = inl refl
either false b h = inr h

or_left : (a b : Bool) → a ≡ true → (a || b) ≡ true
or_left true b h = refl
or_left false b h = cc

or_right : (a b : Bool) → b ≡ true → (a || b) ≡ true
or_right true b h = refl
or_right false b h = h

and_left : (a b : Bool) → (a && b) ≡ true → a ≡ true
and_left true b h = refl
and_left false b h = cc

and_right : (a b : Bool) → (a && b) ≡ true → b ≡ true
and_right true b h = h
and_right false b h = cc

module _ (k l : Letters) where
  from_scheme : (x : Letter) (s : Scheme) → type_of_scheme k s ≡ type_of_scheme l s → occurs x s ≡ true → letter x k ≡ letter x l
  from_scheme first alpha e h = e
  from_scheme second beta e h = e
  from_scheme third gamma e h = e
  from_scheme fourth delta e h = e
  from_scheme x (power s) e h = from_scheme x s (pow_injective (type_of_scheme k s) (type_of_scheme l s) e) h
  from_scheme x (pair s u) e h =
      elim (either (occurs x s) (occurs x u) h) [
        | inl a ↦ from_scheme x s (pair_left (type_of_scheme k s) (type_of_scheme k u) (type_of_scheme l s) (type_of_scheme l u) e) a
        | inr b ↦ from_scheme x u (pair_right (type_of_scheme k s) (type_of_scheme k u) (type_of_scheme l s) (type_of_scheme l u) e) b
      ]
  from_scheme _ _ e h = cc

  from_any : (x : Letter) (ss : List Scheme) → map (type_of_scheme k) ss ≡ map (type_of_scheme l) ss → list_any (occurs x) ss ≡ true → letter x k ≡ letter x l
  from_any x [] e h = cc
  from_any x (s ∷ ss) e h =
      let head : type_of_scheme k s ≡ type_of_scheme l s = cc in
      let tail : map (type_of_scheme k) ss ≡ map (type_of_scheme l) ss = cc in
      elim (either (occurs x s) (list_any (occurs x) ss) h) [ inl a ↦ from_scheme x s head a | inr b ↦ from_any x ss tail b ]

  whole : (s : Scheme) → ((x : Letter) → occurs x s ≡ true → letter x k ≡ letter x l) → type_of_scheme k s ≡ type_of_scheme l s
  whole alpha same = same first refl
  whole beta same = same second refl
  whole gamma same = same third refl
  whole delta same = same fourth refl
  whole integer same = refl
  whole boolean same = refl
  whole truth same = refl
  whole (power s) same = ap ty.Pow (whole s same)
  whole (pair s u) same =
      let left : type_of_scheme k s ≡ type_of_scheme l s = whole s (λ x h. same x (or_left (occurs x s) (occurs x u) h)) in
      let right : type_of_scheme k u ≡ type_of_scheme l u = whole u (λ x h. same x (or_right (occurs x s) (occurs x u) h)) in
      λ i. ty.Pair (left i) (right i)

abbrev is_covered : List Scheme → Scheme → Letter → Bool
is_covered operands s x = not (occurs x s) || list_any (occurs x) operands

-- each letter of the scheme stands in an operand
abbrev covers : List Scheme → Scheme → Bool
covers operands s = is_covered operands s first && (is_covered operands s second && (is_covered operands s third && is_covered operands s fourth))

covered_one : (a b : Bool) → (not a || b) ≡ true → a ≡ true → b ≡ true
covered_one true b h e = h
covered_one false b h e = cc

covered : (operands : List Scheme) (s : Scheme) → covers operands s ≡ true → (x : Letter) → occurs x s ≡ true → list_any (occurs x) operands ≡ true
covered operands s c x = covered_one (occurs x s) (list_any (occurs x) operands) (at x)
  where
    later : (is_covered operands s second && (is_covered operands s third && is_covered operands s fourth)) ≡ true
    later = and_right (is_covered operands s first) _ c

    last : (is_covered operands s third && is_covered operands s fourth) ≡ true
    last = and_right (is_covered operands s second) _ later

    at : (x : Letter) → is_covered operands s x ≡ true
    at first = and_left (is_covered operands s first) _ c
    at second = and_left (is_covered operands s second) _ later
    at third = and_left (is_covered operands s third) _ last
    at fourth = and_right (is_covered operands s third) _ last

one_type : (operands : List Scheme) (s : Scheme) (ts : List Ty) (t u : Ty) → covers operands s ≡ true → IsSchemeInstance operands s ts t → IsSchemeInstance operands s ts u → t ≡ u
one_type operands s ts t u c a b =
    a.whole_is
    ∙ whole a.letters b.letters s (λ x h. from_any a.letters b.letters x operands (sym a.operands_are ∙ b.operands_are) (covered operands s c x h))
    ∙ sym b.whole_is

-- the constants that are printed with their types
abbrev pub is_typed : Op → Bool
is_typed op.EmptySet = true
is_typed op.Identity = true
is_typed op.FirstProjection = true
is_typed op.SecondProjection = true
is_typed _ = false

operator_covers : (o : Op) (k : ℕ) → is_typed o ≡ false → covers (operand_schemes (row_of o) k) (result_scheme (row_of o)) ≡ true
operator_covers op.EmptySet k h = cc
operator_covers op.Identity k h = cc
operator_covers op.FirstProjection k h = cc
operator_covers op.SecondProjection k h = cc
operator_covers _ k h = refl

binder_covers : (b : Binder) → covers (part_schemes b) (binder_scheme b) ≡ true
binder_covers binder.ForAll = refl
binder_covers binder.Exists = refl
binder_covers binder.Comprehension = refl
binder_covers binder.QuantifiedUnion = refl
binder_covers binder.QuantifiedIntersection = refl

-- an operator's type is one
pub operator_type : (o : Op) (k : ℕ) (ts : List Ty) (t u : Ty) → is_typed o ≡ false
    → IsSchemeInstance (operand_schemes (row_of o) k) (result_scheme (row_of o)) ts t → IsSchemeInstance (operand_schemes (row_of o) k) (result_scheme (row_of o)) ts u → t ≡ u
operator_type o k ts t u h = one_type (operand_schemes (row_of o) k) (result_scheme (row_of o)) ts t u (operator_covers o k h)

-- and a binder's
pub binder_type : (b : Binder) (ts : List Ty) (t u : Ty) → IsSchemeInstance (part_schemes b) (binder_scheme b) ts t → IsSchemeInstance (part_schemes b) (binder_scheme b) ts u → t ≡ u
binder_type b ts t u = one_type (part_schemes b) (binder_scheme b) ts t u (binder_covers b)
