use Rattle.std.proofs.Common.{◌≡◌, ◌∙◌, sym, ap, refl, Bool, true, false, not, ◌↔◌, IsTrue}
use Rattle.formula_rows.proofs.texts.primed.Goals as goal

identifier_is : (primed identifier : Bool) → (IsTrue primed ↔ (identifier ≡ false)) → not primed ≡ identifier
identifier_is true identifier h = sym (h.0 refl)
identifier_is false true h = refl
identifier_is false false h = let t : false ≡ true = h.1 refl in cc

pub primed-requires : goal.primed-requires
primed-requires c = record { unprimed = sym (identifier_is _ _ c.is_primed.ensures) ∙ ap not c.if-is_primed.false }
