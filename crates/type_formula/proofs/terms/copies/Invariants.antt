use Rattle.std.proofs.Common.{◌≡◌, ◌∷◌, replicate}
use Rattle.unification.specs.Terms.{term_of}
use Rattle.type_formula.specs.PrivateViews.{open_terms}
use Rattle.type_formula.proofs.terms.copies.Given as goal

abbrev pub invariant-loop-k : goal.invariant-loop-k
invariant-loop-k l = open_terms l.terms.items ≡ term_of l.term ∷ replicate l._k (term_of l.term)
