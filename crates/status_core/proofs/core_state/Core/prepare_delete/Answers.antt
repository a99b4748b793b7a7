use Rattle.std.proofs.Common.{◌≡◌, ◌∙◌, sym, ap, refl, subst, inl, inr, true}
use Rattle.std.specs.Prelude.{is_some}
use Rattle.std.specs.FinMap.{contains_key}
use Rattle.core_steps.specs.State.{State}
use Rattle.status_core.proofs.Made.{if_ok, as_made, so_made}
use Rattle.status_core.proofs.core_state.Core.prepare_delete.Goals as goal

pub returns-in-None : goal.returns-in-None
returns-in-None c =
    let lacks = subst (λ (z : State). contains_key z.durable.texts c.args.name.now ≡ true → ⊥) c.self.view_is
    (λ has. let no = ap is_some c.in-None.ensures ∙ has in cc) in
    as_made _ _ c.tell.result _ (rw c.in_ok-told.ensures at c.tell.ensures) (c.has_table.ensures.0, c.has_table.ensures.1, inl (lacks, refl))

pub returns-in-Some : goal.returns-in-Some
returns-in-Some c =
    let has = subst (λ (z : State). contains_key z.durable.texts c.args.name.now ≡ true) c.self.view_is (ap is_some (sym c.in-Some.ensures)) in
    if_ok _ _ _ (λ p m. so_made _ _ _ p (λ x e. (c.has_table.ensures.0, c.has_table.ensures.1, inr (has, e))) m) (rw c.in_ok-told.ensures at c.drop_text.ensures)
