use Rattle.std.proofs.Common.{ℕ, List, [], ◌∷◌, IsTrue, map}
use Rattle.std.specs.List.{AllByRecursion}
use Rattle.formula_core.specs.declared.formula.Formula.{Formula}
use Rattle.formula_core.proofs.Keeping.{substituted_keeps, instantiated_keeps, shifted_keeps, abstracted_keeps}
use Rattle.formula_core.proofs.laws.identifiers_are_kept.Goals as goal

of_terms : (P : Formula → Type 0) (pairs : List (List ℕ × Formula)) → AllByRecursion P (map (λ q. q.1) pairs) → AllByRecursion (λ q. P q.1) pairs
of_terms P [] h = tt
of_terms P (q ∷ pairs) h = (h.0, of_terms P pairs h.1)

pub returns-clause-substituted : goal.returns-clause-substituted
returns-clause-substituted c = λ p terms h. substituted_keeps (λ x. IsTrue (p x)) c.args.pairs.now (of_terms _ c.args.pairs.now terms) c.args.f.now h

pub returns-clause-instantiated : goal.returns-clause-instantiated
returns-clause-instantiated c = λ depth p terms h. instantiated_keeps (λ x. IsTrue (p x)) c.args.terms.now terms c.args.f.now depth h

pub returns-clause-shifted : goal.returns-clause-shifted
returns-clause-shifted c = λ by depth p terms h. shifted_keeps (λ x. IsTrue (p x)) by c.args.f.now depth h

pub returns-clause-bound : goal.returns-clause-bound
returns-clause-bound c = λ depth p terms h. abstracted_keeps (λ x. IsTrue (p x)) c.args.bound.now c.args.f.now depth h
