use Rattle.std.proofs.Common.{◌≡◌, ◌∙◌, ◌<◌, ◌≤◌, ◌+◌, ◌*◌, ◌^◌, ap, arith}
use Rattle.case_proofs.specs.Cases.{connectives, connectives_of}
use Rattle.case_proofs.proofs.Counts.{few_power, many_rules, few_rules}
use Rattle.case_proofs.proofs.sizes.rules_by_cases.Goals as goal

pub returns-then-count-gt59 : goal.returns-then-count-gt59
returns-then-count-gt59 c =
    let s = c.args.sequent.now in
    let many : 60 ≤ c.connective_count-count.result = omega arith in
    record { rules = many_rules (connectives_of s.hyps + connectives s.goal) c.connective_count-count.result c.connective_count-count.ensures many }

pub overflow_mul-result : goal.overflow_mul-result
overflow_mul-result c =
    let few : c.connective_count-count.result ≤ 59 = omega arith in
    let small = few_power c.connective_count-count.result few in
    let is : c.pow.result ≡ 2 ^ c.connective_count-count.result = c.pow.ensures in
    omega (arith, small, is)

pub returns : goal.returns
returns c =
    let s = c.args.sequent.now in
    let few : c.connective_count-count.result ≤ 59 = omega arith in
    let is : c.pow.result ≡ 2 ^ c.connective_count-count.result = c.pow.ensures in
    record {
      rules = ap (λ n. 16 * n) is ∙ few_rules (connectives_of s.hyps + connectives s.goal) c.connective_count-count.result c.connective_count-count.ensures few;
    }
