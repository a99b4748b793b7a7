use Rattle.std.proofs.Common.{ℕ, List, sym, ◌∙◌, ap, [], ◌∷◌, ◌++◌, append_assoc}
use Rattle.std.specs.BTreeMap.{insert_entry}
use Rattle.std.specs.Ordering.{nat_cmp}
use Rattle.std.specs.Cmp.Lexicographic.{slice_cmp}
use Rattle.build_core.proofs.Placing.{copied_more}
use Rattle.build_core.proofs.copies.copy_texts.Goals as goal

pub loop-name-preserved : goal.loop-name-preserved
loop-name-preserved c =
    let done = c.loop-name.invariant.0 in
    let e : List ℕ × List ℕ = (c.in-Some.name.now, c.in-Some.text.now) in
    let all = ap (λ rest. done ++ rest) (sym c.in-Some.ensures.steps) ∙ c.loop-name.invariant.1 in (
      done ++ e ∷ [],
      append_assoc done (e ∷ []) c.next.new.self ∙ all,
      copied_more c.args.texts.now.entries done c.next.new.self c.loop-name.copy.entries c.insert.new.self.entries e c.into_iter-name-iterator.ensures.into_iter_gives.5 all
          c.loop-name.invariant.2 (c.in_ok-insert.ensures.entries ∙ (λ i. insert_entry (slice_cmp nat_cmp) c.loop-name.copy.entries (c.in_ok-copy.ensures i) (c.in_ok-copy-2.ensures i))),
    )

pub loop-name-preserved-in_ok-insert : goal.loop-name-preserved-in_ok-insert
loop-name-preserved-in_ok-insert c =
    let done = c.loop-name.invariant.0 in
    let e : List ℕ × List ℕ = (c.in-Some.name.now, c.in-Some.text.now) in
    let all = ap (λ rest. done ++ rest) (sym c.in-Some.ensures.steps) ∙ c.loop-name.invariant.1 in (
      done ++ e ∷ [],
      append_assoc done (e ∷ []) c.next.new.self ∙ all,
      copied_more c.args.texts.now.entries done c.next.new.self c.loop-name.copy.entries c.insert.new.self.entries e c.into_iter-name-iterator.ensures.into_iter_gives.5 all
          c.loop-name.invariant.2 (c.in_ok-insert.ensures.entries ∙ (λ i. insert_entry (slice_cmp nat_cmp) c.loop-name.copy.entries (c.in_ok-copy.ensures i) (c.in_ok-copy-2.ensures i))),
    )
