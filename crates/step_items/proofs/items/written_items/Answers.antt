use Rattle.std.proofs.Common.{◌≡◌, ◌+◌, ◌∙◌, List, [], length, take, drop, sym, ap, arith}
use Rattle.std.proofs.lemmas.List.{drop-drop, length-drop}
use Rattle.std.specs.Prelude.{ℕ, Some}
use Rattle.step_items.specs.Items.{item_in, between_marks}
use Rattle.step_items.specs.Paths.{all_of}
use Rattle.step_items.proofs.Marks.{part_before, part_alone, some_items}
use Rattle.step_items.proofs.Parts.{behind, goes_on, fails, ends}
use Rattle.step_items.proofs.items.written_items.Goals as goal

pub returns-in_default : goal.returns-in_default
returns-in_default c =
    let rest = c.loop-at.rest.now in
    let at = c.loop-at.at in
    fails item_in (between_marks rest) (between_marks (drop (at + 2) rest)) (take at rest) c.loop-at.items.items (all_of item_in (between_marks c.args.bytes.now))
    (part_before rest at c.loop-at.invariant.place c.loop-at-test.true) (ap item_in (sym c.split_at.ensures.front) ∙ sym c.in_ok-item.ensures ∙ c.in_default.is) c.loop-at.invariant.so_far
    ∙ sym (some_items c.args.bytes.now c.is_empty.result c.is_empty.ensures c.if-is_empty.false)

pub loop-at-preserved : goal.loop-at-preserved
loop-at-preserved c =
    let rest = c.loop-at.rest.now in
    let at = c.loop-at.at in
    let next : c.behind_mark-rest.result.now ≡ drop (at + 2) rest = c.behind_mark-rest.ensures ∙ ap (drop 2) c.split_at.ensures.back ∙ drop-drop 2 at rest in
    record {
      place = c.before_mark-at-in-loop-at.ensures.place;
      so_far =
          ap (λ (r : List ℕ). behind c.push.new.self.items (all_of item_in (between_marks r))) next
          ∙ ap (λ xs. behind xs (all_of item_in (between_marks (drop (at + 2) rest)))) c.in_ok-push.ensures.items
          ∙ goes_on item_in (between_marks rest) (between_marks (drop (at + 2) rest)) (take at rest) c.loop-at.items.items (all_of item_in (between_marks c.args.bytes.now)) c.in-Some.item
          (part_before rest at c.loop-at.invariant.place c.loop-at-test.true) (ap item_in (sym c.split_at.ensures.front) ∙ sym c.in_ok-item.ensures ∙ c.in-Some.is) c.loop-at.invariant.so_far;
    }

pub loop-at-smaller : goal.loop-at-smaller
loop-at-smaller c =
    let rest = c.loop-at.rest.now in
    let at = c.loop-at.at in
    let next : c.behind_mark-rest.result.now ≡ drop (at + 2) rest = c.behind_mark-rest.ensures ∙ ap (drop 2) c.split_at.ensures.back ∙ drop-drop 2 at rest in
    omega (arith, ap (λ (r : List ℕ). length r) next, length-drop (at + 2) rest, c.loop-at-test.true)

pub returns-in_default-2 : goal.returns-in_default-2
returns-in_default-2 c =
    let rest = c.loop-at.rest.now in
    fails item_in (between_marks rest) [] rest c.loop-at.items.items (all_of item_in (between_marks c.args.bytes.now))
    (part_alone rest c.loop-at.at c.loop-at.invariant.place c.loop-at-test.false) (sym c.in_ok-item-2.ensures ∙ c.in_default-2.is) c.loop-at.invariant.so_far
    ∙ sym (some_items c.args.bytes.now c.is_empty.result c.is_empty.ensures c.if-is_empty.false)

pub returns : goal.returns
returns c =
    let rest = c.loop-at.rest.now in
    ap Some c.in_ok-push-2.ensures.items
    ∙ ends item_in (between_marks rest) rest c.loop-at.items.items (all_of item_in (between_marks c.args.bytes.now)) c.in-Some-2.item
    (part_alone rest c.loop-at.at c.loop-at.invariant.place c.loop-at-test.false) (sym c.in_ok-item-2.ensures ∙ c.in-Some-2.is) c.loop-at.invariant.so_far
    ∙ sym (some_items c.args.bytes.now c.is_empty.result c.is_empty.ensures c.if-is_empty.false)
