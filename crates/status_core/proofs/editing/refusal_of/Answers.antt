use Rattle.std.proofs.Common.{◌≡◌, ◌∙◌, refl, sym, subst, true, false, Bool, arith}
use Rattle.formula_core.specs.Names.{is_identifier}
use Rattle.core_steps.specs.Editing.{IsFullFor, bad_name, text_too_long, project_full}
use Rattle.core_steps.specs.Durable.{ProjectMap}
use Rattle.status_core.proofs.editing.refusal_of.Goals as goal

true_of : (b : Bool) → (b ≡ false → ⊥) → b ≡ true
true_of true f = refl
true_of false f = absurd (f refl)

pub returns-then-is_primed : goal.returns-then-is_primed
returns-then-is_primed c = λ s is. bad_name (λ good. let bad = sym (c.is_primed.ensures.0 c.if-is_primed.true) ∙ good in cc) refl

pub returns-then-as_text-gt-TEXT_LIMIT : goal.returns-then-as_text-gt-TEXT_LIMIT
returns-then-as_text-gt-TEXT_LIMIT c = λ s is.
    let name = true_of (is_identifier c.args.name.now) (λ e. let bad = sym c.if-is_primed.false ∙ c.is_primed.ensures.1 e in cc) in
    text_too_long name (rw c.as_text.ensures at c.if-as_text-gt-TEXT_LIMIT.true) refl

pub returns-then-is_full_for : goal.returns-then-is_full_for
returns-then-is_full_for c = λ s is.
    let name = true_of (is_identifier c.args.name.now) (λ e. let bad = sym c.if-is_primed.false ∙ c.is_primed.ensures.1 e in cc) in
    let short = rw c.as_text.ensures at c.if-as_text-gt-TEXT_LIMIT.false in
    let full = subst (λ (p : ProjectMap). IsFullFor p c.args.name.now) (sym is) (c.is_full_for.ensures.0 c.if-is_full_for.true) in
    project_full name (λ long. absurd (omega (arith, short, long))) full refl

pub returns : goal.returns
returns c =
    let name = true_of (is_identifier c.args.name.now) (λ e. let bad = sym c.if-is_primed.false ∙ c.is_primed.ensures.1 e in cc) in
    (name, rw c.as_text.ensures at c.if-as_text-gt-TEXT_LIMIT.false, λ full. let yes = sym c.if-is_full_for.false ∙ c.is_full_for.ensures.1 full in cc)
