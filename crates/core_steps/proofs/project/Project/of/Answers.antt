use Rattle.std.proofs.Common.{◌≡◌, ◌∙◌, sym, ap, ◌+◌, ◌++◌, ◌∷◌, [], take, drop}
use Rattle.std.specs.FinMap.{entries, from_entries, insert}
use Rattle.std.proofs.lemmas.List.{take_all}
use Rattle.core_steps.specs.Durable.{text_cmp}
use Rattle.core_steps.proofs.Lists.{split, take-one_more}
use Rattle.core_steps.proofs.NameMaps.{next_inserted, from_its_entries}
use Rattle.core_steps.proofs.project.Project.of.Goals as goal

pub loop-name-preserved : goal.loop-name-preserved
loop-name-preserved c =
    let es = c.entries-name-items.result.now in
    let i = c.loop-name.name-index in
    let e = c.loop-name-item.result in
    let all : take i es ++ e ∷ drop (i + 1) es ≡ entries c.args.texts.now = sym (split es i e c.loop-name-test.true c.loop-name-item.is) ∙ c.entries-name-items.ensures in
    let mid : insert c.loop-name.copy c.in_ok-copy.field-0 c.in_ok-copy-2.field-0 ≡ from_entries {R = text_cmp} (take i es ++ e ∷ []) =
    rw (c.loop-name.invariant, c.in_ok-copy.ensures, c.in_ok-copy-2.ensures) (sym (next_inserted c.args.texts.now (take i es) e (drop (i + 1) es) all)) in
    c.in_ok-put.ensures.ok ∙ mid ∙ ap (λ xs. from_entries {R = text_cmp} xs) (sym (take-one_more es i e c.loop-name-test.true c.loop-name-item.is))

pub returns : goal.returns
returns c =
    let es = c.entries-name-items.result.now in
    c.loop-name.invariant
    ∙ ap (λ xs. from_entries {R = text_cmp} xs) (take_all c.loop-name.name-index es c.loop-name-test.false ∙ c.entries-name-items.ensures)
    ∙ from_its_entries c.args.texts.now
