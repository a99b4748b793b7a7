use Rattle.std.proofs.Common.{◌≡◌, ◌∙◌, sym, ap, ℕ, ◌+◌, ◌<◌, true, List, [], ◌∷◌, ◌++◌, length, map, take, get_or, add-one, arith}
use Rattle.std.proofs.Math.Seq.{take-suc}
use Rattle.std.proofs.lemmas.List.{get_or-map, length-map}
use Rattle.formula_core.proofs.action.have_same_actions.Goals as goal

one_more : {X Y : Type 0} (f : X → Y) (xs : List X) (i : ℕ) (d : X) → i < length xs → take (i + 1) (map f xs) ≡ take i (map f xs) ++ f (get_or xs i d) ∷ []
one_more f xs i d h =
    rw add-one (take-suc (map f xs) i (f d) (rw (length-map xs f) h) ∙ ap (λ y. take i (map f xs) ++ y ∷ []) (get_or-map f xs i d (f d) h))

pub returns-then-not-same : goal.returns-then-not-same
returns-then-not-same c = (
  λ h. cc,
  λ e.
      let x = c.index-xs-i.result in
      let y = c.index-ys-i.result in
      let within : c.loop-i.i < length c.args.ys.now = omega (arith, c.loop-i-test.true, c.if-xs-ys.false) in
      let one = sym (get_or-map (λ a. a.1) c.args.xs.now c.loop-i.i x x.1 c.loop-i-test.true) ∙ ap (λ zs. get_or zs c.loop-i.i x.1) e ∙ get_or-map (λ a. a.1) c.args.ys.now c.loop-i.i y x.1 within in
      let yes1 : c.same.result ≡ true = c.same.ensures.exact.1 one in cc,
)

pub loop-i-preserved : goal.loop-i-preserved
loop-i-preserved c =
    let within : c.loop-i.i < length c.args.ys.now = omega (arith, c.loop-i-test.true, c.if-xs-ys.false) in
    let one = c.same.ensures.exact.0 (cc) in
    one_more (λ a. a.1) c.args.xs.now c.loop-i.i c.index-xs-i.result c.loop-i-test.true
    ∙ (λ j. c.loop-i.invariant j ++ one j ∷ [])
    ∙ sym (one_more (λ a. a.1) c.args.ys.now c.loop-i.i c.index-ys-i.result within)
