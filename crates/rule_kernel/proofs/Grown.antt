-- An instance that leaves a formula for which a rule has no room isn't the rule.
use Rattle.std.proofs.Common.{◌≡◌, ◌∙◌, sym, subst, Some}
use Rattle.std.specs.List.{AllByRecursion}
use Rattle.rule_table.specs.declared.kind.RuleKind.{RuleKind}
use Rattle.rule_table.specs.declared.rule.Body.{Body}
use Rattle.rule_table.specs.declared.rule.Main.{Main}
use Rattle.rule_table.specs.Rows.{instance}
use Rattle.instance_size.specs.declared.extent.Extent.{Extent}
use Rattle.instance_size.specs.Extents.{HasRoom}
use Rattle.instance_size.specs.Growth.{Outgrows, left_formulas}

same_in : (a b : Body) → Some a ≡ Some b → a ≡ b
same_in a b e = cc

pub not_built : (room : Extent) (k : RuleKind) (m : Main) (b : Body) → Outgrows room k m → AllByRecursion (HasRoom room) (left_formulas b) → instance k m ≡ Some b → ⊥
not_built room k m b grown fit is = grown.4 (subst (λ x. AllByRecursion (HasRoom room) (left_formulas x)) (same_in b grown.0 (sym is ∙ grown.1)) fit)
