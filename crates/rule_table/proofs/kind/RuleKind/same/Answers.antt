use Rattle.std.proofs.Common.{◌≡◌, ◌∙◌, sym, ap}
use Rattle.rule_table.specs.Kinds.{kind_number}
use Rattle.rule_table.specs.Parts.{law_in, place_in, multipliers_in}
use Rattle.rule_table.specs.Rules.{terms_of}
use Rattle.rule_table.proofs.SameKind.{same_kind, same_places, same_numbers, other_numbers}
use Rattle.rule_table.proofs.kind.RuleKind.same.Goals as goal

pub returns-then-ne-2 : goal.returns-then-ne-2
returns-then-ne-2 c =
    let other = other_numbers c.multipliers.result.now c.multipliers-2.result.now c.ne-2.result c.ne-2.ensures c.if-ne-2.true in
    record { same = (λ h. cc, λ e. absurd (other (c.multipliers.ensures.multipliers ∙ ap multipliers_in e ∙ sym c.multipliers-2.ensures.multipliers))) }

pub returns : goal.returns
returns c =
    let number : kind_number c.args.self.now ≡ kind_number c.args.other.now = sym c.number.ensures.number ∙ cc in
    let law : law_in c.args.self.now ≡ law_in c.args.other.now = sym c.law.ensures.law ∙ cc in
    let place : place_in c.args.self.now ≡ place_in c.args.other.now = sym c.place.ensures.place ∙ same_places c.place.result.now c.place-2.result.now c.ne.result c.ne.ensures c.if-ne.false ∙ c.place-2.ensures.place in
    let multipliers : multipliers_in c.args.self.now ≡ multipliers_in c.args.other.now =
    sym c.multipliers.ensures.multipliers ∙ same_numbers c.multipliers.result.now c.multipliers-2.result.now c.ne-2.result c.ne-2.ensures c.if-ne-2.false ∙ c.multipliers-2.ensures.multipliers in
    record {
      same = (
        λ h. same_kind c.args.self.now c.args.other.now number law place multipliers (sym c.terms.ensures.terms ∙ c.same_formulas.ensures.0 h ∙ c.terms-2.ensures.terms),
        λ e. c.same_formulas.ensures.1 (c.terms.ensures.terms ∙ ap terms_of e ∙ sym c.terms-2.ensures.terms),
      );
    }
