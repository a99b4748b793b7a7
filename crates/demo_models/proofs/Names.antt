-- The names of the models are names: each of them is read.
use Rattle.std.proofs.Common.{◌≡◌, ◌<◌, ◌≤◌, ◌+◌, refl, subst, ℕ, zero, suc, Bool, true, false, ◌&&◌, arith}
use Rattle.std.specs.Fmt.{digits}
use Rattle.formula_core.specs.Names.{is_name}
use Rattle.demo_models.specs.declared.making.Kind.{Kind}
use Rattle.demo_models.specs.declared.making.Kind.TheVariants.{Context, Machine}
use Rattle.demo_models.specs.Private.{name_of_kind}

-- the test holds of so many numbers, from this one on
abbrev holds_from : ℕ → ℕ → (ℕ → Bool) → Bool
holds_from zero i test = true
holds_from (suc count) i test = test i && holds_from count (i + 1) test

both : (a b : Bool) → (a && b) ≡ true → (a ≡ true) × (b ≡ true)
both true b e = (refl, e)
both false b e = cc

held : (count i j : ℕ) (test : ℕ → Bool) → j < count → holds_from count i test ≡ true → test (i + j) ≡ true
held zero i j test less all = absurd (omega (arith, less))
held (suc count) i zero test less all = subst (λ k. test k ≡ true) (omega arith) (both (test i) (holds_from count (i + 1) test) all).0
held (suc count) i (suc j) test less all =
    subst (λ k. test k ≡ true) (omega arith) (held count (i + 1) j test (omega (arith, less)) (both (test i) (holds_from count (i + 1) test) all).1)

held_below : (count j : ℕ) (test : ℕ → Bool) → j < count → holds_from count 0 test ≡ true → test j ≡ true
held_below count j test less all = subst (λ k. test k ≡ true) (omega arith) (held count 0 j test less all)

abbrev is_context_name : ℕ → Bool
is_context_name i = is_name (name_of_kind Context i)

abbrev is_machine_name : ℕ → Bool
is_machine_name i = is_name (name_of_kind Machine i)

all_context_names : holds_from 129 0 is_context_name ≡ true
unfolding digits
all_context_names = refl

all_machine_names : holds_from 129 0 is_machine_name ≡ true
unfolding digits
all_machine_names = refl

-- the letter and three digits are a name
pub is_name_of : (kind : Kind) (i : ℕ) → i ≤ 128 → is_name (name_of_kind kind i) ≡ true
is_name_of Context i most = held_below 129 i is_context_name (omega (arith, most)) all_context_names
is_name_of Machine i most = held_below 129 i is_machine_name (omega (arith, most)) all_machine_names
