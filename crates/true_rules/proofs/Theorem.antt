-- What a tree derives is true, and ⊥ is derived from nothing by no tree.
use Rattle.std.proofs.Common.{◌≡◌, ◌∙◌, sym, ap, refl, subst, ℕ, true, false, List, []}
use Rattle.formula_core.specs.declared.Formula.{Formula}
use Rattle.formula_core.specs.declared.Ty.TheVariants as ty
use Rattle.sequent_core.specs.declared.sequent.Sequent.{Sequent}
use Rattle.sequent_core.specs.declared.tree.Tree.{Tree}
use Rattle.meanings.specs.Values.{Sort, power_sort, Value}
use Rattle.meanings.specs.Universes.{Universe, Valuation, arbitrary}
use Rattle.meanings.specs.Denotations.{holds, AreTrue}
use Rattle.meanings.proofs.Truths.{true-Bottom}
use Rattle.true_laws.proofs.AllLaws.{each_law_holds}
use Rattle.true_rules.specs.Validity.{DerivedIsTrue, NothingDerivesFalse}
use Rattle.true_rules.proofs.KindRows.{derived_is_true}

pub derived_sequents_are_true : (tree : Tree) (s : Sequent) → DerivedIsTrue tree s
derived_sequents_are_true tree s is derives shape test U = derived_is_true U (each_law_holds U) tree s is derives

-- names of which each that is a set stands for the whole of its type
whole : {carrier : List ℕ → Type 0} → (U : Universe carrier) (s : Sort) → Value carrier s
whole U (power_sort s) = λ v. true
whole U s = arbitrary U s

pub bottom_is_underived : (tree : Tree) (s : Sequent) → NothingDerivesFalse tree s
unfolding whole
bottom_is_underived tree s shape test U is none goal derives =
    let names = λ (name : List ℕ). whole U in
    let held : holds U names s.goal ≡ true =
    derived_is_true U (each_law_holds U) tree s is derives names
    (λ set stands x. refl) (subst (AreTrue U names) (sym none) tt) in
    let k : false ≡ true = sym (true-Bottom U names ty.Truth refl []) ∙ ap (holds U names) (sym goal) ∙ held in
    absurd cc
