use Rattle.std.proofs.Common.{◌≡◌, ◌<◌, sym, subst, false, true, get_or, length}
use Rattle.case_proofs.specs.PrivateRows.{EndIsSound, end_tree}
use Rattle.case_proofs.specs.PrivateSearch.{AreHalfSizeSomewhere}
use Rattle.case_proofs.specs.PrivateWays.{Signed, contradicts, is_contradictory}
use Rattle.case_proofs.proofs.EndTrees.{end_sound_at, end_closes}
use Rattle.case_proofs.proofs.Signs.{literals_hold, nothing_found}
use Rattle.case_proofs.proofs.Steps.{Closes}
use Rattle.case_proofs.proofs.ends.ended.Goals as goal

pub returns-in_default : goal.returns-in_default
returns-in_default c = record {
  outcome = literals_hold c.args.hyps.now c.requires.basic
      (nothing_found (is_contradictory c.args.hyps.now ≡ false) c.first_contradicted.result
      (λ i. (i < length c.args.hyps.now) × ((d : Signed) → contradicts c.args.hyps.now (get_or c.args.hyps.now i d) ≡ true)) c.first_contradicted.ensures c.in_default.not-Some);
}

pub end_tree-requires : goal.end_tree-requires
end_tree-requires c = record { sound = end_sound_at c.args.hyps.now c.in-Some.at c.index-hyps-at.result c.in-Some.ensures.0 c.index-hyps-at.is c.requires.half }

pub returns : goal.returns
returns c =
    let x = c.index-hyps-at.result in
    let told : contradicts c.args.hyps.now x ≡ true = subst (λ y. contradicts c.args.hyps.now y ≡ true) (sym c.index-hyps-at.is) (c.in-Some.ensures.1 x) in
    record {
      outcome = subst (Closes c.args.hyps.now c.args.fuel) (sym c.in_ok-end_tree.ensures)
          (end_closes c.args.hyps.now c.in-Some.at x c.in-Some.ensures.0 c.index-hyps-at.is told c.args.fuel);
    }
