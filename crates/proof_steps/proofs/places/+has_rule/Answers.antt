use Rattle.std.proofs.Common.{◌∙◌, sym, ap, subst, refl, length, take, drop, get_or, ◌-◌, Some, None, slice_get}
use Rattle.std.specs.Prelude.{IsSome}
use Rattle.std.proofs.lemmas.Option.{slice_get_read, slice_get_past}
use Rattle.proof_steps.proofs.Rules.{no_rule, at_child, first_of}
use Rattle.proof_steps.proofs.places.+has_rule.Goals as goal

pub returns-in-Leaf : goal.returns-in-Leaf
returns-in-Leaf t c = (λ h. cc, λ h. absurd (no_rule c.args.tree.now c.args.path.now c.in-Leaf.is h))

pub returns-in-Some : goal.returns-in-Some
returns-in-Some t c =
    let i = get_or c.args.path.now 0 0 in
    let rest = take (length c.args.path.now - 1) (drop 1 c.args.path.now) in
    let read = slice_get_read c.items.result.now (length c.items.result.now) i c.in-Some.child.now refl c.in-Some.ensures.lookup.3.0 c.in-Some.ensures.lookup.1 in
    let at = at_child c.args.tree.now c.args.path.now i rest c.in-Node.field-0 c.in-Node.children c.in-Node.is (first_of c.args.path.now c.in-len1-up.len_at_least)
    (Some c.in-Some.child.now) (ap (λ ts. slice_get ts i) (sym c.items.ensures) ∙ read) in
    (λ h. subst IsSome (sym at) (c.has_rule.ensures.0 h), λ h. c.has_rule.ensures.1 (subst IsSome at h))

pub returns-in-None : goal.returns-in-None
returns-in-None t c =
    let i = get_or c.args.path.now 0 0 in
    let rest = take (length c.args.path.now - 1) (drop 1 c.args.path.now) in
    let past = slice_get_past c.items.result.now i c.in-None.ensures.lookup.3 in
    let at = at_child c.args.tree.now c.args.path.now i rest c.in-Node.field-0 c.in-Node.children c.in-Node.is (first_of c.args.path.now c.in-len1-up.len_at_least)
    None (ap (λ ts. slice_get ts i) (sym c.items.ensures) ∙ past) in
    (λ h. cc, λ h. let none = subst IsSome at h in cc)
