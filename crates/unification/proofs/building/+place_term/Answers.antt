use Rattle.std.proofs.Common.{IfOk, refl, sym, ap, ◌∙◌, subst}
use Rattle.unification.specs.Terms.{term_of, powerset, product}
use Rattle.unification.specs.PrivateGraph.{StandsForTerm}
use Rattle.unification.proofs.Places.{atom_grown, power_grown, power_stands, pair_grown, pair_stands}
use Rattle.unification.proofs.building.+place_term.Goals as goal

pub returns-in-Int-clause-grown : goal.returns-in-Int-clause-grown
returns-in-Int-clause-grown t c = atom_grown c.push.result _ _ _ c.requires.graph refl refl refl c.push.ensures.pushed

pub returns-in-Bool-clause-grown : goal.returns-in-Bool-clause-grown
returns-in-Bool-clause-grown t c = atom_grown c.push-in-Bool.result _ _ _ c.requires.graph refl refl refl c.push-in-Bool.ensures.pushed

pub returns-in-Truth-clause-grown : goal.returns-in-Truth-clause-grown
returns-in-Truth-clause-grown t c = atom_grown c.push-in-Truth.result _ _ _ c.requires.graph refl refl refl c.push-in-Truth.ensures.pushed

pub returns-in-Given-clause-grown : goal.returns-in-Given-clause-grown
returns-in-Given-clause-grown t c = atom_grown c.push-in-Given.result _ _ _ c.requires.graph refl refl refl c.push-in-Given.ensures.pushed

pub returns-in_ok-part-in-Pow-clause-grown : goal.returns-in_ok-part-in-Pow-clause-grown
returns-in_ok-part-in-Pow-clause-grown t c =
    power_grown c.push-in-Pow.result _ _ _ _ _ c.in_ok-part-in-Pow.ensures.grown c.in_ok-part-in-Pow.ensures.stands c.push-in-Pow.ensures.pushed

pub returns-in_ok-part-in-Pow-clause-stands : goal.returns-in_ok-part-in-Pow-clause-stands
returns-in_ok-part-in-Pow-clause-stands t c =
    let is = ap powerset (ap term_of c.into_inner.ensures) ∙ sym (ap term_of c.in-Pow.is) in
    subst (λ s. IfOk c.push-in-Pow.result (λ place. StandsForTerm c.push-in-Pow.new.nodes.items place s)) is
    (power_stands c.push-in-Pow.result _ _ _ _ _ _ c.in_ok-part-in-Pow.ensures.grown c.in_ok-part-in-Pow.ensures.stands c.place_term.new.nodes.ok.0 c.push-in-Pow.ensures.place c.push-in-Pow.ensures.pushed)

pub returns-in_ok-right-in-Pair-clause-grown : goal.returns-in_ok-right-in-Pair-clause-grown
returns-in_ok-right-in-Pair-clause-grown t c =
    pair_grown c.push-in-Pair.result _ _ _ _ _ _ _ _ c.in_ok-left-in-Pair.ensures.grown c.in_ok-left-in-Pair.ensures.stands c.in_ok-right-in-Pair.ensures.grown c.in_ok-right-in-Pair.ensures.stands c.push-in-Pair.ensures.pushed

pub returns-in_ok-right-in-Pair-clause-stands : goal.returns-in_ok-right-in-Pair-clause-stands
returns-in_ok-right-in-Pair-clause-stands t c =
    let is = (λ i. product (term_of (c.into_inner-in-Pair.ensures i)) (term_of (c.into_inner-in-Pair-2.ensures i))) ∙ sym (ap term_of c.in-Pair.is) in
    subst (λ s. IfOk c.push-in-Pair.result (λ place. StandsForTerm c.push-in-Pair.new.nodes.items place s)) is
    (pair_stands c.push-in-Pair.result _ _ _ _ _ _ _ _ _ c.in_ok-left-in-Pair.ensures.grown c.in_ok-left-in-Pair.ensures.stands c.in_ok-right-in-Pair.ensures.grown c.in_ok-right-in-Pair.ensures.stands c.place_term-in-Pair-2.new.nodes.ok.0 c.push-in-Pair.ensures.place c.push-in-Pair.ensures.pushed)
