-- The rules are right where their formulas are predicates of an environment, within the limits.
use Rattle.std.proofs.Common.{refl, ℕ, List, [], ◌∷◌}
use Rattle.formula_core.specs.declared.Formula.{Formula}
use Rattle.formula_core.specs.declared.Ty.{Ty}
use Rattle.well_defined.specs.Predicates.{top, implication}
use Rattle.rule_table.specs.declared.kind.RuleKind.TheVariants as kind
use Rattle.rule_table.specs.Shapes.{negation, bottom}
use Rattle.rule_table.specs.Rows.{proves, adds, assumes, backward, forward}
use Rattle.sequent_core.specs.declared.sequent.Sequent.{Sequent}
use Rattle.case_trees.proofs.Plain.{IsFit, is_sound, no_names}
use Rattle.case_trees.specs.Trees.{AndIsSound, OrIsSound, ImpIsSound, IffIsSound, MpIsSound, LawIsSound, ContraIsSound, NotIsSound, ContrIsSound, BottomIsSound, TopIsSound, BothWaysAreSound}

module _ (env : List (List ℕ × Ty)) where
  abbrev sequent : Sequent
  sequent = record { env = env; hyps = []; goal = bottom }

  abbrev Fit : Formula → Type 0
  Fit = IsFit env

  pub and_sound : (h p q : Formula) → Fit h → Fit p → Fit q → AndIsSound h p q
  and_sound h p q fh fp fq = is_sound sequent kind.AndL (forward (h ∷ []) (adds (p ∷ q ∷ []) ∷ [])) (fh, (fp, (fq, tt))) (fh, tt) refl (no_names, tt)

  pub or_sound : (h p q : Formula) → Fit h → Fit p → Fit q → OrIsSound h p q
  or_sound h p q fh fp fq = is_sound sequent kind.OrL (forward (h ∷ []) (adds (p ∷ []) ∷ adds (q ∷ []) ∷ [])) (fh, (fp, (fq, tt))) (fh, tt) refl (no_names, (no_names, tt))

  pub imp_sound : (h p q : Formula) → Fit h → Fit p → Fit q → ImpIsSound h p q
  imp_sound h p q fh fp fq = is_sound sequent kind.ImpL (forward (h ∷ []) (proves p ∷ adds (q ∷ []) ∷ [])) (fh, (fp, (fq, tt))) (fh, tt) refl (no_names, (no_names, tt))

  pub law_sound : (law : ℕ) (h d : Formula) → Fit h → Fit d → LawIsSound law h d
  law_sound law h d fh fd = is_sound sequent (kind.RwHyp law []) (forward (h ∷ []) (adds (d ∷ []) ∷ [])) (fh, (fd, tt)) (fh, tt) refl (no_names, tt)

  pub contra_sound : (p : Formula) → Fit p → Fit (negation p) → Fit bottom → ContraIsSound p
  contra_sound p fp fn fb = is_sound sequent kind.Contra (backward p (assumes (negation p) bottom ∷ [])) (fp, (fn, (fb, tt))) (fp, tt) refl (no_names, tt)

  pub not_sound : (p : Formula) → Fit p → Fit (negation p) → Fit bottom → NotIsSound p
  not_sound p fp fn fb = is_sound sequent kind.NotR (backward (negation p) (assumes p bottom ∷ [])) (fn, (fp, (fb, tt))) (fn, tt) refl (no_names, tt)

  pub contr_sound : (p : Formula) → Fit p → Fit (negation p) → ContrIsSound p
  contr_sound p fp fn = is_sound sequent kind.Contr (forward (p ∷ negation p ∷ []) []) (fp, (fn, tt)) (fp, (fn, tt)) refl tt

  pub bottom_sound : Fit bottom → BottomIsSound
  bottom_sound fb = is_sound sequent kind.Bot (forward (bottom ∷ []) []) (fb, tt) (fb, tt) refl tt

  pub top_sound : Fit top → Fit (negation top) → TopIsSound
  top_sound ft fn = (
    is_sound sequent kind.NotL (forward (negation top ∷ []) (proves top ∷ [])) (fn, (ft, tt)) (fn, tt) refl (no_names, tt),
    is_sound sequent kind.Top (backward top []) (ft, tt) (ft, tt) refl tt,
  )

  iff_sound : (h p q : Formula) → Fit h → Fit (implication p q) → Fit (implication q p) → IffIsSound h p q
  iff_sound h p q fh fpq fqp =
      is_sound sequent kind.IffL (forward (h ∷ []) (adds (implication p q ∷ implication q p ∷ []) ∷ [])) (fh, (fpq, (fqp, tt))) (fh, tt) refl (no_names, tt)

  mp_sound : (h p q : Formula) → Fit h → Fit p → Fit q → MpIsSound h p q
  mp_sound h p q fh fp fq = is_sound sequent kind.Mp (forward (h ∷ p ∷ []) (adds (q ∷ []) ∷ [])) (fh, (fp, (fq, tt))) (fh, (fp, tt)) refl (no_names, tt)

  pub both_ways_sound : (h p q : Formula) → Fit h → Fit p → Fit q → Fit (negation p) → Fit (implication p q) → Fit (implication q p) → Fit bottom → BothWaysAreSound h p q
  both_ways_sound h p q fh fp fq fnp fpq fqp fb = (
    iff_sound h p q fh fpq fqp,
    imp_sound (implication p q) p q fpq fp fq,
    imp_sound (implication q p) q p fqp fq fp,
    contra_sound p fp fnp fb,
    contr_sound p fp fnp,
    mp_sound (implication q p) q p fqp fq fp,
  )
