use Rattle.std.proofs.Common.{◌≡◌, ◌∙◌, sym, ap, refl, Bool, true, false, cond, ◌↔◌, Option, Some, None, IsTrue, IfSome}
use Rattle.formula_core.specs.Env.{type_in}
use Rattle.type_action.proofs.targets.target_type.Goals as goal

identifier_is : (b i : Bool) → b ≡ false → (IsTrue b ↔ (i ≡ false)) → i ≡ true
identifier_is b true e h = refl
identifier_is b false e h = let t : b ≡ true = h.1 refl in let never : false ≡ true = sym e ∙ t in cc

some_any : {X : Type 0} → (o : Option X) (P : Type 0) → P → IfSome o (λ _. P)
some_any None P p = tt
some_any (Some x) P p = p

pub returns-clause-ty : goal.returns-clause-ty
returns-clause-ty c = c.get.ensures ∙ sym (ap (λ b. cond b (type_in c.args.env.now c.args.name.now) None) (identifier_is _ _ c.if-is_primed.false c.is_primed.ensures))

pub returns-clause-unprimed : goal.returns-clause-unprimed
returns-clause-unprimed c = some_any _ _ (identifier_is _ _ c.if-is_primed.false c.is_primed.ensures)
