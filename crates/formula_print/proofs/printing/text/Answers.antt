use Rattle.std.proofs.Common.{arith, ◌≡◌, ◌+◌, ◌<◌, ◌^◌, ℕ, List, length}
use Rattle.std.proofs.lemmas.List.{length-map}
use Rattle.std.specs.Map.{keys_of}
use Rattle.formula_core.specs.declared.ty.Ty.{Ty}
use Rattle.formula_core.specs.Identifiers.{identifiers}
use Rattle.formula_print.specs.Depths.{deepest}
use Rattle.formula_print.proofs.FreshNames.{fresh}
use Rattle.formula_print.proofs.TypedBack.{typed_back}
use Rattle.formula_print.proofs.printing.text.Goals as goal

pub returns-clause-typed : goal.returns-clause-typed
returns-clause-typed c =
    let same : length (keys_of (identifiers c.args.formula.now)) ≡ length (identifiers c.args.formula.now) = length-map (identifiers c.args.formula.now) (λ (e : List ℕ × Ty). e.0) in
    let small : deepest c.args.formula.now + length (keys_of (identifiers c.args.formula.now)) < 2 ^ 64 = omega (arith, c.in_ok-names.ensures.held.counted, same) in
    typed_back c.args.formula.now c.requires (fresh (keys_of (identifiers c.args.formula.now)) (deepest c.args.formula.now) small)
