use Rattle.std.proofs.Common.{◌≡◌, ◌∙◌, ap, [], ◌∷◌, ◌++◌, length, ◌^◌, min, arith}
use Rattle.formula_core.specs.Shifting.{shifted}
use Rattle.formula_core.proofs.formula.Formula.shift_any.Goals as goal

pub returns : goal.returns
returns c =
    let made = shifted c.args.by c.args.depth c.args.self.now in
    let whole : c.args.depth ≡ min c.args.depth (2 ^ 32) = omega (arith, c.ranges.depth.fits) in
    c.only_of.ensures made (c.in_ok-shift_onto.ensures c.args.depth whole ∙ ap (λ before. before ++ made ∷ []) c.new-out.ensures.items)

pub only_of-requires : goal.only_of-requires
only_of-requires c =
    let made = shifted c.args.by c.args.depth c.args.self.now in
    let whole : c.args.depth ≡ min c.args.depth (2 ^ 32) = omega (arith, c.ranges.depth.fits) in
    ap length (c.in_ok-shift_onto.ensures c.args.depth whole ∙ ap (λ before. before ++ made ∷ []) c.new-out.ensures.items)
