-- The steps of the code on its list of equations.
use Rattle.std.proofs.Common.{◌≡◌, List, [], ◌∷◌, ◌++◌, refl, ap, ◌∙◌}
use Rattle.unification.specs.Terms.{term_of}
use Rattle.unification.specs.Solutions.{equations_of}
use Rattle.unification.specs.declared.term.Term.{Term}
use Rattle.unification.specs.declared.equations.Equation.{Equation}

pub equations_of-append : (a b : List Equation) → equations_of (a ++ b) ≡ equations_of a ++ equations_of b
equations_of-append [] b = refl
equations_of-append (e ∷ a) b = ap (λ es. (term_of e.left, term_of e.right) ∷ es) (equations_of-append a b)

-- the last equation was taken out
pub record IsPopped (old rest : List Equation) (l r : Term) : Type 0 where
  pub items : equations_of old ≡ equations_of rest ++ (term_of l, term_of r) ∷ []

pub popped : (old rest : List Equation) (e : Equation) → old ≡ rest ++ e ∷ [] → IsPopped old rest e.left e.right
popped old rest e h = record { items = ap equations_of h ∙ equations_of-append rest (e ∷ []) }
