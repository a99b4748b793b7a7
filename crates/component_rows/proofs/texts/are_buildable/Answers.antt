use Rattle.std.proofs.Common.{◌∙◌, ◌≤◌, sym, ap, ℕ, List, [], ◌∷◌, ◌++◌, append_assoc, length, arith}
use Rattle.component_rows.proofs.Short.{all_and}
use Rattle.component_rows.proofs.texts.are_buildable.Goals as goal

pub loop-text-preserved : goal.loop-text-preserved
loop-text-preserved c =
    let done = c.loop-text.invariant.done in
    let e : List ℕ × List ℕ = (c.in-Some.field-0-0.now, c.in-Some.text.now) in
    record {
      done = done ++ e ∷ [];
      all = append_assoc done (e ∷ []) c.next.new.self ∙ ap (λ rest. done ++ rest) (sym c.in-Some.ensures.steps) ∙ c.loop-text.invariant.all;
      short = all_and (λ (x : List ℕ × List ℕ). length x.1 ≤ 65536) done e c.loop-text.invariant.short (omega (arith, c.if-as_text-gt-LONGEST.false, ap length c.as_text.ensures));
    }
