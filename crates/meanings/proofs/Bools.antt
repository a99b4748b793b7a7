-- Truth values.
use Rattle.std.proofs.Common.{Bool, false, not, refl, sym, true, ◌&&◌, ◌||◌, ◌≡◌}
use Rattle.meanings.specs.Operations.{equivalent, implies}

pub both_ways : (a b : Bool) → (a ≡ true → b ≡ true) → (b ≡ true → a ≡ true) → a ≡ b
both_ways true b f g = sym (f refl)
both_ways false true f g = g refl
both_ways false false f g = refl

pub implies_from : (p q : Bool) → (p ≡ true → q ≡ true) → implies p q ≡ true
implies_from true q h = h refl
implies_from false q h = refl

pub implied_to : (p q : Bool) → implies p q ≡ true → p ≡ true → q ≡ true
implied_to true q h e = h
implied_to false q h e = absurd cc

pub or_left : (p q : Bool) → p ≡ true → (p || q) ≡ true
or_left p q h = λ i. h i || q

pub or_right : (p q : Bool) → q ≡ true → (p || q) ≡ true
or_right true q h = refl
or_right false q h = h

pub or_cases : (p q : Bool) (A : Type 0) → (p || q) ≡ true → (p ≡ true → A) → (q ≡ true → A) → A
or_cases true q A h f g = f refl
or_cases false q A h f g = g h

pub and_not : (a b : Bool) → (not a || not b) ≡ not (a && b)
and_not true b = refl
and_not false b = refl

pub or_not : (a b : Bool) → (not a && not b) ≡ not (a || b)
or_not true b = refl
or_not false b = refl

pub implies_not : (a b : Bool) → (a && not b) ≡ not (implies a b)
implies_not true b = refl
implies_not false b = refl

pub equivalent_not : (a b : Bool) → equivalent a (not b) ≡ not (equivalent a b)
equivalent_not true true = refl
equivalent_not true false = refl
equivalent_not false true = refl
equivalent_not false false = refl

pub twice : (a : Bool) → a ≡ not (not a)
twice true = refl
twice false = refl

pub and_not_both : (a b : Bool) → (a && not (a && b)) ≡ (a && not b)
and_not_both true b = refl
and_not_both false b = refl

pub equivalent_false : (a : Bool) → not a ≡ equivalent a false
equivalent_false true = refl
equivalent_false false = refl

pub or_assoc : (a b c : Bool) → ((a || b) || c) ≡ (a || (b || c))
or_assoc true b c = refl
or_assoc false b c = refl

pub or_none : (a : Bool) → (a || false) ≡ a
or_none true = refl
or_none false = refl
