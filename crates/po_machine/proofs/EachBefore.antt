-- Rows of labelled formulas, each from those before it.
use Rattle.std.proofs.Common.{◌≡◌, ◌∙◌, sym, ap, refl, ℕ, ◌+◌, ◌<◌, List, [], ◌∷◌, ◌++◌, drop, get_or, length, append_assoc}
use Rattle.formula_core.specs.declared.formula.Formula.{Formula}
use Rattle.model_core.specs.declared.checked.Labelled.{Labelled}
use Rattle.model_core.specs.Each.{at_each}
use Rattle.model_core.proofs.Lists.{at_index}
use Rattle.po_rules.specs.Gathering.{Gathered, gathered}
use Rattle.po_rules.specs.Parts.{formulas}
use Rattle.po_rules.specs.Rows.{labelled_rows}
use Rattle.po_machine.specs.declared.labelled.Site.{Site}
use Rattle.po_machine.specs.Private.{site_path, row_at, rows_at}
use Rattle.po_machine.proofs.Gathering.{gathered_append}
use Rattle.po_machine.proofs.Lists.{map_append}

-- the rows in the words of the code
pub rows_are : (s : Site) (hyps : List Formula) (before own : List Labelled)
    → at_each (labelled_rows (site_path s) s.env.now hyps) before own ≡ rows_at s (hyps ++ formulas before) own
rows_are s hyps before [] = refl
rows_are s hyps before (l ∷ own) =
    ap (λ rows. row_at s (hyps ++ formulas before) l ++ rows)
    (rows_are s hyps (before ++ l ∷ []) own
    ∙ ap (λ hs. rows_at s hs own) (ap (λ fs. hyps ++ fs) (map_append (λ x. x.formula) before (l ∷ [])) ∙ sym (append_assoc hyps (formulas before) (l.formula ∷ []))))

-- one labelled formula more
pub next_rows : (s : Site) (own : List Labelled) (i : ℕ) (x : Labelled) (hyps longer : List Formula) (now more whole : Gathered) → i < length own → x ≡ get_or own i x
    → gathered now (rows_at s hyps (drop i own)) ≡ whole → more ≡ gathered now (row_at s hyps x) → longer ≡ hyps ++ x.formula ∷ []
    → gathered more (rows_at s longer (drop (i + 1) own)) ≡ whole
next_rows s own i x hyps longer now more whole lt is e add longer_is =
    ap (λ g. gathered g (rows_at s longer (drop (i + 1) own))) add
    ∙ ap (λ hs. gathered (gathered now (row_at s hyps x)) (rows_at s hs (drop (i + 1) own))) longer_is
    ∙ sym (gathered_append now (row_at s hyps x) (rows_at s (hyps ++ x.formula ∷ []) (drop (i + 1) own)))
    ∙ ap (λ ls. gathered now (rows_at s hyps ls)) (sym (at_index own i x lt is)) ∙ e
