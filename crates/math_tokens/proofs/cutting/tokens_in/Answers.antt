use Rattle.std.proofs.Common.{◌≡◌, ◌+◌, ◌<◌, [], drop, length, Some, Ok, ap, subst, arith, append-nil}
use Rattle.math_tokens.specs.Private.{table}
use Rattle.math_tokens.specs.Texts.{blank_length, IsTokenAt, Cut, at_end, over_blank}
use Rattle.math_tokens.proofs.Walk.{blank_there, token_ends, one_more, blank_span, fault_cuts}
use Rattle.math_tokens.proofs.cutting.tokens_in.Goals as goal

pub loop-at-preserved-in-Ok-None : goal.loop-at-preserved-in-Ok-None
loop-at-preserved-in-Ok-None c =
    let forms = table c.args.forms.now in
    let blank : 0 < blank_length (drop c.loop-at.at c.args.text.now) =
    blank_there forms c.args.text.now c.loop-at.at c.loop-at-test.true (rw c.in-Ok-None.field-0-is at c.in-Ok-None.ensures) in
    let span = blank_span forms c.args.text.now c.loop-at.at c.blank_length-at.result c.as_bytes.result.now c.as_bytes.ensures.value c.loop-at.invariant.within
    c.blank_length-at.ensures.value c.blank_length-at.ensures.within in
    record {
      within = span.1;
      so_far = λ o cut. c.loop-at.invariant.so_far o (over_blank blank (ap (λ n. c.loop-at.at + n) span.0) cut);
    }

pub loop-at-preserved : goal.loop-at-preserved
loop-at-preserved c =
    let forms = table c.args.forms.now in
    let there : IsTokenAt forms c.args.text.now c.loop-at.at (Ok (Some c.in-Ok-Some.token)) = rw c.in-Ok-Some.field-0-is at c.in-Ok-Some.ensures in
    record {
      within = token_ends forms c.args.text.now c.loop-at.at c.in-Ok-Some.token c.loop-at.invariant.within there;
      so_far = λ o cut.
          rw c.in_ok-push-in-Ok-Some.ensures.items
          (one_more forms c.args.text.now c.loop-at.tokens.items c.in-Ok-Some.token c.loop-at.at there c.loop-at.invariant.so_far o cut);
    }

pub returns-in-Err : goal.returns-in-Err
returns-in-Err c = fault_cuts (table c.args.forms.now) c.args.text.now c.loop-at.tokens.items c.loop-at.at c.in-Err.fault c.in-Err.ensures c.loop-at.invariant.so_far

pub returns : goal.returns
returns c =
    let end : c.loop-at.at ≡ length c.args.text.now = omega (arith, c.loop-at.invariant.within, c.loop-at-test.false) in
    subst (λ ts. Cut (table c.args.forms.now) c.args.text.now 0 (Ok ts)) (append-nil c.loop-at.tokens.items) (c.loop-at.invariant.so_far (Ok []) (at_end end))
