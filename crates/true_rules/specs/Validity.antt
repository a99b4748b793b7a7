-- When a sequent is valid: true in each classical universe, whatever its names stand for.
use Rattle.std.specs.Prelude.{◌≡◌, ℕ, Bool, List, [], IsTrue}
use Rattle.rule_table.specs.Shapes.{bottom}
use Rattle.sequent_core.specs.declared.sequent.Sequent.{Sequent}
use Rattle.sequent_core.specs.declared.tree.Tree.{Tree}
use Rattle.sequent_core.specs.Sequents.{IsSequent}
use Rattle.sequent_core.specs.Trees.{Derives}
use Rattle.meanings.specs.Values.{Sort, Value}
use Rattle.meanings.specs.Universes.{Universe, Valuation}
use Rattle.meanings.specs.Denotations.{holds, AreTrue}
use Rattle.meanings.specs.Interpretations.{NamesCarriers, NoCarrier, Carriers}

-- a universe satisfies a sequent: for whatever its names stand for, its goal is true where its hypotheses are
abbrev pub Satisfies : {carrier : List ℕ → Type 0} → Universe carrier → Sequent → Type 0
Satisfies {carrier} U s =
    (names : Valuation carrier) → NamesCarriers U s.env names → AreTrue U names s.hyps → IsTrue (holds U names s.goal)

-- each classical universe satisfies it
abbrev pub IsValid : Sequent → Type 0
IsValid s =
    (shape : List ℕ → Sort) (test : (set : List ℕ) → Value NoCarrier (shape set) → Bool) (U : Universe (Carriers shape test)) →
    Satisfies U s

-- what a tree derives is valid
abbrev pub DerivedIsTrue : Tree → Sequent → Type 0
DerivedIsTrue tree s = IsSequent s → Derives tree s → IsValid s

-- where there is a classical universe, no tree derives ⊥ from nothing
abbrev pub NothingDerivesFalse : Tree → Sequent → Type 0
NothingDerivesFalse tree s =
    (shape : List ℕ → Sort) (test : (set : List ℕ) → Value NoCarrier (shape set) → Bool) → Universe (Carriers shape test) →
    IsSequent s → s.hyps ≡ [] → s.goal ≡ bottom → Derives tree s → ⊥
