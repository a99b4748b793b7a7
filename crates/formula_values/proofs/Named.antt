-- Values of names.
use Rattle.std.proofs.Common.{◌≡◌, ap, sym, subst, inl, inr, ℕ, Bool, true, false, List, Option, Some, None, Result, Err}
use Rattle.std.specs.Prelude.{MatchOption, bytes_eq}
use Rattle.std.specs.Map.{lookup}
use Rattle.event_values.specs.declared.value.Value.{Value}
use Rattle.value_sets.specs.declared.fault.ValueFault.{ValueFault}
use Rattle.value_sets.specs.declared.fault.ValueFault.TheVariants.{NoValue}
use Rattle.value_sets.specs.Sets.{InCarrier, IsMade, IsCollected, IsTold}
use Rattle.formula_values.specs.declared.values.Values.{Values}
use Rattle.formula_values.specs.Means.{HasSize, IsKnown, IsNamed}

pub size_there : (sizes : List (List ℕ × ℕ)) (name : List ℕ) (size : ℕ) (r : Result Value ValueFault) → lookup (bytes_eq name) sizes ≡ Some size
    → IsTold (IsCollected (InCarrier name size)) r → IsTold (HasSize sizes name) r
size_there sizes name size r e (inl m) = inl m
size_there sizes name size r e (inr m) =
    let Q : Option ℕ → Type 0 = λ x. MatchOption x (◌≡◌ {A = Result Value ValueFault} r (Err (NoValue name))) (λ k. IsCollected (InCarrier name k) r) in
    inr (subst Q (sym e) m)

pub no_size : (sizes : List (List ℕ × ℕ)) (name n : List ℕ) → lookup (bytes_eq name) sizes ≡ None → n ≡ name → IsTold (HasSize sizes name) (Err (NoValue n))
no_size sizes name n e same =
    let r : Result Value ValueFault = Err (NoValue n) in
    let Q : Option ℕ → Type 0 = λ x. MatchOption x (◌≡◌ {A = Result Value ValueFault} r (Err (NoValue name))) (λ k. IsCollected (InCarrier name k) r) in
    inr (subst Q (sym e) (ap (λ z. Err (NoValue z)) same))

pub ruleset sizes = (size_there, no_size)

pub value_there : (known : List (List ℕ × Value)) (name : List ℕ) (v : Value) (r : Result Value ValueFault) → lookup (bytes_eq name) known ≡ Some v
    → IsMade v r → IsTold (IsKnown known name) r
value_there known name v r e m =
    let Q : Option Value → Type 0 = λ x. MatchOption x (◌≡◌ {A = Result Value ValueFault} r (Err (NoValue name))) (λ w. IsMade w r) in
    inr (subst Q (sym e) m)

pub no_value : (known : List (List ℕ × Value)) (name n : List ℕ) → lookup (bytes_eq name) known ≡ None → n ≡ name → IsTold (IsKnown known name) (Err (NoValue n))
no_value known name n e same =
    let r : Result Value ValueFault = Err (NoValue n) in
    let Q : Option Value → Type 0 = λ x. MatchOption x (◌≡◌ {A = Result Value ValueFault} r (Err (NoValue name))) (λ w. IsMade w r) in
    inr (subst Q (sym e) (ap (λ z. Err (NoValue z)) same))

pub ruleset entries = (value_there, no_value)

pub named_set : (values : Values) (name : List ℕ) (b : Bool) (x r : Result Value ValueFault) → b ≡ true → r ≡ x → IsTold (HasSize values.sizes name) x → IsTold (IsNamed values name b) r
named_set values name b x r e same m = subst (λ c. IsTold (IsNamed values name c) r) (sym e) (subst (IsTold (HasSize values.sizes name)) (sym same) m)

pub named_value : (values : Values) (name : List ℕ) (b : Bool) (r : Result Value ValueFault) → b ≡ false → IsTold (IsKnown values.known name) r → IsTold (IsNamed values name b) r
named_value values name b r e m = subst (λ c. IsTold (IsNamed values name c) r) (sym e) m

pub ruleset names = (named_set, named_value)
