-- Solutions of lists of equations.
use Rattle.std.proofs.Common.{ℕ, List, [], ◌∷◌, ◌++◌, ◌↔◌}
use Rattle.formula_core.specs.declared.ty.Ty.{Ty}
use Rattle.unification.specs.Solutions.{Equality, Solves}

pub Solves-append : (v : ℕ → Ty) (a b : List Equality) → Solves v (a ++ b) ↔ (Solves v a × Solves v b)
Solves-append v [] b = (λ h. (tt, h), λ h. h.1)
Solves-append v (e ∷ a) b =
    let rest = Solves-append v a b in
    (λ h. ((h.0, (rest.0 h.1).0), (rest.0 h.1).1), λ h. (h.0.0, rest.1 (h.0.1, h.1)))
