use Rattle.std.proofs.Common.{◌≡◌, ◌∙◌, ap, subst, refl, ℕ, true, List, arith}
use Rattle.std.proofs.lemmas.Grind.{common_steps}
use Rattle.std.specs.List.{AllByRecursion}
use Rattle.formula_core.specs.declared.Ty.{Ty}
use Rattle.rule_table.specs.declared.rule.Rule.{Rule}
use Rattle.rule_table.specs.Rules.{body_of, formulas_of, sorted_by_name, names_in}
use Rattle.formula_core.specs.Typed.{Stands}
use Rattle.rule_kernel.proofs.SoundParts.{parts_of_sound, sound_of_parts}
use Rattle.rule_kernel.proofs.table.used_if_sound.Goals as goal

pub returns-then-not-branch-clause-sound : goal.returns-then-not-branch-clause-sound
returns-then-not-branch-clause-sound c = (
  λ h. absurd (cc h),
  λ s. let has : c.in_ok-has_sound_parts.field-0 ≡ true = c.in_ok-has_sound_parts.ensures.1 (parts_of_sound c.args.rule.now s) in grind (arith, common_steps, has),
)

pub returns-clause-sound : goal.returns-clause-sound
returns-clause-sound c =
    let rule : Rule = c.args.rule.now in
    let names : List (List ℕ × Ty) = names_in (formulas_of rule.kind (body_of rule)) in
    let read : c.deref.result.now ≡ names = c.deref.ensures.value ∙ c.in_ok-names.ensures in
    let read_again : c.deref-2.result.now ≡ names = c.deref-2.ensures.value ∙ c.in_ok-names.ensures in
    let sorted : c.in_ok-sorted.sorted.entries ≡ sorted_by_name names = c.in_ok-sorted.ensures ∙ ap sorted_by_name read in
    let stand : AllByRecursion (Stands c.in_ok-sorted.sorted.entries) c.deref-2.result.now = c.have_one_type.ensures.0 (cc) in
    let has : c.in_ok-has_sound_parts.field-0 ≡ true = grind (arith, common_steps) in (
      λ h. sound_of_parts rule (c.in_ok-has_sound_parts.ensures.0 has)
          (subst (λ ns. AllByRecursion (Stands (sorted_by_name names)) ns) read_again (subst (λ es. AllByRecursion (Stands es) c.deref-2.result.now) sorted stand)),
      λ s. refl,
    )
