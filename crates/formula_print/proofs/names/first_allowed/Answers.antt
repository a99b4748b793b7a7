use Rattle.std.proofs.Common.{rules, arith, ◌≡◌, ◌∙◌, ap, sym, ◌+◌, ◌++◌, ◌∷◌, [], Bool, true, false, not, List, ℕ, take, length}
use Rattle.std.proofs.lemmas.List.{length-append}
use Rattle.std.specs.BTreeSet.{contains_by}
use Rattle.std.specs.Ordering.{nat_cmp}
use Rattle.std.specs.Cmp.Lexicographic.{slice_cmp}
use Rattle.formula_print.specs.Names.{generated_name}
use Rattle.formula_print.proofs.NumberedNames.{takes_next, skips_next}
use Rattle.formula_print.proofs.names.first_allowed.Goals as goal
use Rattle.formula_print.proofs.names.first_allowed.Goals.{then-not-contains+in_ok-push, else-not-contains}

pub loop-index-preserved : goal.loop-index-preserved
loop-index-preserved c =
    let may_be_used : List ℕ → Bool = λ name. not (contains_by (slice_cmp nat_cmp name) c.args.taken.now) in
    let name : c.in_ok-name.name ≡ generated_name (c.loop-index.index + 1) = search rules in
    let allowed : not c.contains.result ≡ may_be_used (generated_name (c.loop-index.index + 1)) = ap not (c.contains.ensures ∙ ap (λ n. contains_by (slice_cmp nat_cmp n) c.args.taken.now) name) in
    elim c.if-not-contains.branch [
      | then-not-contains+in_ok-push w ↦ (
          let items : c.if-not-contains.names.items ≡ c.loop-index.names.items ++ generated_name (c.loop-index.index + 1) ∷ [] = ap (λ v. v.items) w.names-is ∙ w.in_ok-push.ensures.items ∙ ap (λ n. c.loop-index.names.items ++ n ∷ []) name in
          let test : not c.contains.result ≡ true = grind arith in
          record {
            names = rw items (ap (take c.args.many) (sym (takes_next may_be_used c.loop-index.names.items c.loop-index.index c.args.tries c.loop-index-test.true (sym allowed ∙ test))) ∙ c.loop-index.invariant.names);
            few = omega (arith, ap length items, length-append c.loop-index.names.items (generated_name (c.loop-index.index + 1) ∷ []), c.loop-index.invariant.few, c.if-len-many.false, c.len.ensures);
          })
      | else-not-contains w ↦ (
          let items : c.if-not-contains.names.items ≡ c.loop-index.names.items = ap (λ v. v.items) w.names-is in
          let test : not c.contains.result ≡ false = grind arith in
          record {
            names = rw items (ap (λ more. take c.args.many (c.loop-index.names.items ++ more)) (sym (skips_next may_be_used c.loop-index.names.items c.loop-index.index c.args.tries c.loop-index-test.true (sym allowed ∙ test))) ∙ c.loop-index.invariant.names);
            few = omega (arith, ap length items, c.loop-index.invariant.few);
          })
    ]
