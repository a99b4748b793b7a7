use Rattle.std.proofs.Common.{◌≡◌, ◌<◌, ◌-◌, ◌+◌, ◌∙◌, ap, ℕ, [], drop, length, bytes_eq}
use native.Mathlib.Omega.{arith}
use Rattle.refine_check.specs.Private.{first_index}
use Rattle.model_core.specs.Borrowed.{texts}
use Rattle.refine_check.proofs.Placing.{behind, behind_none, one_placed}
use Rattle.refine_check.proofs.names.places_of.Goals as goal

pub loop-place-preserved : goal.loop-place-preserved
loop-place-preserved c =
    let i : ℕ = c.loop-place.place - 1 in
    let next : c.loop-place.place ≡ i + 1 = omega (arith, c.loop-place-test.true) in
    let inside : i < length c.args.list.now = omega (arith, c.loop-place-test.true, c.loop-place.auto.place) in
    one_placed c.args.list.now i (record { ref_ptr = (0, 0); now = [] }) inside c.loop-place.places c.insert.new.self c.in_ok-insert.ensures.updates
    (λ text. c.loop-place.invariant text ∙ ap (λ n. behind n (first_index (bytes_eq text) (texts (drop n c.args.list.now)))) next)

pub returns : goal.returns
returns c = λ text.
    let zero : c.loop-place.place ≡ 0 = omega (arith, c.loop-place-test.false) in
    c.loop-place.invariant text ∙ ap (λ n. behind n (first_index (bytes_eq text) (texts (drop n c.args.list.now)))) zero
    ∙ behind_none (first_index (bytes_eq text) (texts c.args.list.now))
