use Rattle.std.proofs.Common.{◌≡◌, ◌+◌, ◌∙◌, ◌==◌, not, cond, false, List, [], length, take, drop, sym, ap, arith, rules}
use Rattle.std.proofs.lemmas.List.{drop-drop, length-drop}
use Rattle.std.specs.Prelude.{ℕ, Option, Some, codes, bytes_eq}
use Rattle.step_items.specs.Numbers.{number_at_most}
use Rattle.step_items.specs.Paths.{between_dots, all_of, path_of}
use Rattle.step_items.proofs.Parts.{behind, behind_nothing, goes_on, fails, ends, before_dot, without_dot}
use Rattle.step_items.proofs.paths.path_of.Goals as goal

abbrev read : List ℕ → Option ℕ
read = number_at_most 4294967295

-- a word that isn't the root's sign
numbers_of : (word : List ℕ) → bytes_eq word (codes "-") ≡ false → all_of read (between_dots word) ≡ path_of word
numbers_of word other = sym (ap (λ b. cond b (Some []) (all_of read (between_dots word))) other)

pub loop-at-init : goal.loop-at-init
loop-at-init c =
    let none : c.new-numbers.result.items ≡ [] = search rules in
    record {
      place = c.before_dot-at.ensures;
      so_far = ap (λ xs. behind xs (all_of read (between_dots c.args.word.now))) none ∙ behind_nothing (all_of read (between_dots c.args.word.now));
    }

pub returns-in_default : goal.returns-in_default
returns-in_default c =
    let other : bytes_eq c.args.word.now (codes "-") ≡ false = search rules in
    let rest = c.loop-at.rest.now in
    let at = c.loop-at.at in
    fails read (between_dots rest) (between_dots (drop (at + 1) rest)) (take at rest) c.loop-at.numbers.items (all_of read (between_dots c.args.word.now))
    (before_dot rest at c.loop-at.invariant.place c.loop-at-test.true) (ap read (sym c.split_at.ensures.front) ∙ sym c.number_of.ensures ∙ c.in_default.is) c.loop-at.invariant.so_far
    ∙ numbers_of c.args.word.now other

pub loop-at-preserved : goal.loop-at-preserved
loop-at-preserved c =
    let rest = c.loop-at.rest.now in
    let at = c.loop-at.at in
    let next : c.behind_dot-rest.result.now ≡ drop (at + 1) rest = c.behind_dot-rest.ensures ∙ ap (drop 1) c.split_at.ensures.back ∙ drop-drop 1 at rest in
    record {
      place = c.before_dot-at-in-loop-at.ensures;
      so_far =
          ap (λ (r : List ℕ). behind c.push.new.self.items (all_of read (between_dots r))) next
          ∙ ap (λ xs. behind xs (all_of read (between_dots (drop (at + 1) rest)))) c.in_ok-push.ensures.items
          ∙ goes_on read (between_dots rest) (between_dots (drop (at + 1) rest)) (take at rest) c.loop-at.numbers.items (all_of read (between_dots c.args.word.now)) c.in-Some.number
          (before_dot rest at c.loop-at.invariant.place c.loop-at-test.true) (ap read (sym c.split_at.ensures.front) ∙ sym c.number_of.ensures ∙ c.in-Some.is) c.loop-at.invariant.so_far;
    }

pub loop-at-smaller : goal.loop-at-smaller
loop-at-smaller c =
    let rest = c.loop-at.rest.now in
    let at = c.loop-at.at in
    let next : c.behind_dot-rest.result.now ≡ drop (at + 1) rest = c.behind_dot-rest.ensures ∙ ap (drop 1) c.split_at.ensures.back ∙ drop-drop 1 at rest in
    omega (arith, ap (λ (r : List ℕ). length r) next, length-drop (at + 1) rest, c.loop-at-test.true)

pub returns-in_default-number_of : goal.returns-in_default-number_of
returns-in_default-number_of c =
    let other : bytes_eq c.args.word.now (codes "-") ≡ false = search rules in
    let rest = c.loop-at.rest.now in
    fails read (between_dots rest) [] rest c.loop-at.numbers.items (all_of read (between_dots c.args.word.now))
    (without_dot rest c.loop-at.at c.loop-at.invariant.place c.loop-at-test.false) (sym c.number_of-2.ensures ∙ c.in_default-number_of.is) c.loop-at.invariant.so_far
    ∙ numbers_of c.args.word.now other

pub returns : goal.returns
returns c =
    let other : bytes_eq c.args.word.now (codes "-") ≡ false = search rules in
    let rest = c.loop-at.rest.now in
    ap Some (c.of-2.ensures ∙ c.in_ok-push-2.ensures.items)
    ∙ ends read (between_dots rest) rest c.loop-at.numbers.items (all_of read (between_dots c.args.word.now)) c.in-Some-number_of.number
    (without_dot rest c.loop-at.at c.loop-at.invariant.place c.loop-at-test.false) (sym c.number_of-2.ensures ∙ c.in-Some-number_of.is) c.loop-at.invariant.so_far
    ∙ numbers_of c.args.word.now other
