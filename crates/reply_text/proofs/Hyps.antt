-- The lines of hypotheses.
use Rattle.std.proofs.Common.{◌≡◌, ℕ, zero, suc, true, ◌+◌, ◌<◌, List, [], ◌∷◌, ◌++◌, length, get_or, take, ap, sym, ◌∙◌, arith, append_assoc}
use Rattle.std.proofs.lemmas.List.{append-nil, take_more, length-take-le}
use Rattle.std.specs.Prelude.{codes}
use Rattle.std.specs.Fmt.{decimal}
use Rattle.formula_core.specs.declared.formula.Formula.{Formula}
use Rattle.formula_print.specs.Printing.{formula_text}
use Rattle.formula_core.specs.Wellness.{is_well}
use Rattle.formula_core.specs.Substitution.{AreWell}
use Rattle.reply_text.specs.Statuses.{line}
use Rattle.reply_text.specs.Printing.{hyp_lines_after}

abbrev hyp_line : ℕ → Formula → List ℕ
hyp_line number hyp = line (decimal number ++ codes ": " ++ formula_text hyp)

-- the line of one hypothesis more
pub one_more : (before : ℕ) (hyps : List Formula) (hyp : Formula) (number : ℕ) → number ≡ before + length hyps + 1 →
    hyp_lines_after before (hyps ++ hyp ∷ []) ≡ hyp_lines_after before hyps ++ line (decimal number ++ codes ": " ++ formula_text hyp)
one_more before [] hyp number is =
    append-nil (hyp_line (before + 1) hyp) ∙ ap (λ n. hyp_line n hyp) (let e : before + 1 ≡ number = omega (arith, is) in e)
one_more before (h ∷ hyps) hyp number is =
    ap (λ l. hyp_line (before + 1) h ++ l) (one_more (before + 1) hyps hyp number (omega (arith, is)))
    ∙ sym (append_assoc (hyp_line (before + 1) h) (hyp_lines_after (before + 1) hyps) (hyp_line number hyp))

pub hyp_added : (hyps : List Formula) (i : ℕ) (hyp : Formula) → i < length hyps → hyp ≡ get_or hyps i hyp →
    hyp_lines_after 0 (take (i + 1) hyps) ≡ hyp_lines_after 0 (take i hyps) ++ line (decimal (i + 1) ++ codes ": " ++ formula_text hyp)
hyp_added hyps i hyp less is =
    ap (hyp_lines_after 0) (take_more hyps i hyp less ∙ ap (λ h. take i hyps ++ h ∷ []) (sym is))
    ∙ one_more 0 (take i hyps) hyp (i + 1) (omega (arith, length-take-le i hyps (omega (arith, less))))

-- each of some formulas is well
pub well_at : (formulas : List Formula) (i : ℕ) (f : Formula) → i < length formulas → f ≡ get_or formulas i f → AreWell formulas → is_well f ≡ true
well_at [] i f less is all = absurd (omega (arith, less))
well_at (g ∷ formulas) zero f less is all = ap is_well is ∙ all.0
well_at (g ∷ formulas) (suc i) f less is all = well_at formulas i f (omega (arith, less)) is all.1

-- a text with one piece more
pub grows : (text now old so_far one all : List ℕ) → text ≡ now ++ one → now ≡ old ++ so_far → all ≡ so_far ++ one → text ≡ old ++ all
grows text now old so_far one all added before is = added ∙ ap (λ l. l ++ one) before ∙ append_assoc old so_far one ∙ ap (λ l. old ++ l) (sym is)
