use Rattle.std.proofs.Common.{◌≡◌, ◌≤◌, ◌*◌, ◌^◌, false, true, arith}
use Rattle.case_proofs.proofs.Counts.{too_many}
use Rattle.case_proofs.proofs.sizes.is_enough.Goals as goal

pub returns-then-count-gt6 : goal.returns-then-count-gt6
returns-then-count-gt6 c =
    let more : 7 ≤ c.args.count = omega arith in
    let large = too_many c.args.count more in
    let most : c.args.budget ≤ 2000 = c.requires in
    (λ never. absurd (cc), λ enough. absurd (omega (arith, large, enough, most)))
