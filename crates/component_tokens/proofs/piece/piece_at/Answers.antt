use Rattle.std.proofs.Common.{◌≡◌, ◌∙◌, ℕ, List, ◌<◌, ◌-◌, take, drop, length, length-drop, arith, ap, sym, refl, inr}
use Rattle.std.proofs.lemmas.List.{take_rest}
use Rattle.math_tokens.specs.declared.cutting.TokenFault.TheVariants as wrong
use Rattle.component_tokens.specs.declared.gap.Gap.TheVariants as gap
use Rattle.component_tokens.specs.Gaps.{gap_in}
use Rattle.component_tokens.specs.Pieces.{label_length}
use Rattle.component_tokens.proofs.Walk.{label_within}
use Rattle.component_tokens.proofs.piece.piece_at.Goals as goal

-- the bytes from a place on
rest_of : (text s : List ℕ) (at : ℕ) → s ≡ text → take (length s - at) (drop at s) ≡ drop at text
rest_of text s at e = take_rest s at ∙ ap (drop at) e

pub label_token-requires : goal.label_token-requires
label_token-requires c =
    let rest = rest_of c.args.text.now c.as_bytes.result.now c.args.at c.as_bytes.ensures.value in
    let value : c.label_length-length.result ≡ label_length (drop c.args.at c.args.text.now) = c.label_length-length.ensures.value ∙ ap label_length rest in
    let some : 0 < label_length (drop c.args.at c.args.text.now) = omega (arith, value, c.if-length-gt0.true) in
    omega (arith, value, label_within (drop c.args.at c.args.text.now) some, length-drop c.args.at c.args.text.now, c.requires.fits, c.requires.within)

pub returns-in-Err-BadSign : goal.returns-in-Err-BadSign
returns-in-Err-BadSign c =
    let rest = rest_of c.args.text.now c.as_bytes.result.now c.args.at c.as_bytes.ensures.value in
    let value : c.label_length-length.result ≡ label_length (drop c.args.at c.args.text.now) = c.label_length-length.ensures.value ∙ ap label_length rest in
    let none : label_length (drop c.args.at c.args.text.now) ≡ 0 = omega (arith, value, c.if-length-gt0.false) in
    let no_gap : gap_in (drop c.args.at c.args.text.now) ≡ gap.Nothing = ap gap_in (sym rest) ∙ sym c.in-Nothing.ensures in
    inr (no_gap, none, wrong.BadSign c.in-Err-BadSign.place, rw c.in-Err-BadSign.field-0-is at c.in-Err-BadSign.ensures, refl)
