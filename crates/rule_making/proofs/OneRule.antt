-- Two answers are the same, where there is memory.
use Rattle.std.proofs.Common.{◌≡◌, ◌∙◌, ◌⊎◌, inl, inr, sym, ap, refl, subst, ℕ, List, [], ◌∷◌, Bool, true, false, Option, Some, None, Result, Ok, Err, IsTrue}
use Rattle.formula_core.specs.declared.formula.Formula.{Formula}
use Rattle.formula_core.specs.declared.raw.Raw.{Raw}
use Rattle.formula_core.specs.declared.ty.Ty.{Ty}
use Rattle.formula_core.specs.declared.ty.Ty.TheVariants as ty
use Rattle.type_formula.specs.Answers.{IsTheFormula}
use Rattle.type_formula.specs.Bare.{Bare}
use Rattle.type_formula.specs.CoreForms.{core_form}
use Rattle.rule_table.specs.declared.rule.Rule.{Rule}
use Rattle.rule_table.specs.declared.rule.Body.{Body}
use Rattle.rule_table.specs.declared.kind.RuleKind.{RuleKind}
use Rattle.rule_table.specs.Rows.{first}
use Rattle.rule_table.specs.Rules.{IsRule, IsSound, IsAllowed, formulas_of, body_of, rule_of}
use Rattle.rule_kernel.proofs.Appended.{all_mapped}
use Rattle.formula_core.specs.Sizes.{IsWithinLimits}
use Rattle.sequent_core.specs.declared.hint.Hint.{Hint}
use Rattle.sequent_core.specs.declared.sequent.Sequent.{Sequent}
use Rattle.rule_making.specs.declared.fault.RuleFault.{RuleFault}
use Rattle.rule_making.specs.declared.fault.RuleFault.TheVariants as fault
use Rattle.rule_making.specs.Laws.{HasMemory, AnswersAreOne}
use Rattle.rule_making.specs.Make.{Answers, AreTerms, IsTerm, IsTypedAlone, IsNamed, IsWithinSizes, FitsAt, HasBadTerm, WithTerms, Makes, StandsAgainst, body_for, has_places, kind_of, replaced_types, unfit, without_first}

-- terms are typed in one way
same_typing : (env : List (List ℕ × Ty)) (b : Bare) (t : Option Ty) (f g : Formula) → IsTheFormula env [] b t f → IsTheFormula env [] b t g → f ≡ g
same_typing env b t f g p q = sym (p.only g q.typed)

alone : (env : List (List ℕ × Ty)) (b : Bare) (f g : Formula) → IsTypedAlone env b f → IsTypedAlone env b g → f ≡ g
alone env b f g p q = elim p [
  | inl x ↦ elim q [ inl y ↦ same_typing env b (Some ty.Truth) f g x y | inr y ↦ absurd (y.0 f x) ]
  | inr x ↦ elim q [ inl y ↦ absurd (x.0 g y) | inr y ↦ same_typing env b None f g x.1 y.1 ]
]

one_term : (env : List (List ℕ × Ty)) (t : Option Ty) (raw : Raw) (f g : Formula) → IsTerm env t raw f → IsTerm env t raw g → f ≡ g
one_term env (Some t) raw f g p q = same_typing env (core_form raw) (Some t) f g p q
one_term env None raw f g p q = alone env (core_form raw) f g p q

one_list : (env : List (List ℕ × Ty)) (types : List Ty) (raws : List Raw) (fs gs : List Formula) → AreTerms env types raws fs → AreTerms env types raws gs → fs ≡ gs
one_list env types [] [] [] p q = refl
one_list env types [] [] (g ∷ gs) p q = absurd q
one_list env types [] (f ∷ fs) gs p q = absurd p
one_list env types (raw ∷ raws) [] gs p q = absurd p
one_list env types (raw ∷ raws) (f ∷ fs) [] p q = absurd q
one_list env types (raw ∷ raws) (f ∷ fs) (g ∷ gs) p q =
    λ i. one_term env (first types) raw f g p.0 q.0 i ∷ one_list env (without_first types) raws fs gs p.1 q.1 i

some_is_one : {X : Type 0} (x y : X) → Some x ≡ Some y → x ≡ y
some_is_one x y e = cc

-- what fits is within the limits
fits_sizes : (k : RuleKind) (b : Body) (s : Sequent) → FitsAt (rule_of k b) s → IsWithinSizes k b
fits_sizes k b s fit = (all_mapped IsAllowed IsWithinLimits (λ f is. is.within) (formulas_of k b) fit.rule.sound.formulas, fit.rule.sound.added)

module _ (n : ℕ) (h : Hint) (s : Sequent) where
  -- what stands of a body that is named
  abbrev OfBody : RuleKind → Body → Result Rule RuleFault → Type 0
  OfBody k b a = ((IsWithinSizes k b → ⊥) × (a ≡ Err fault.TooLarge))
      ⊎ (IsWithinSizes k b × (FitsAt (rule_of k b) s → ⊥) × (a ≡ Err fault.NoForm))
      ⊎ (IsWithinSizes k b × FitsAt (rule_of k b) s × (a ≡ Ok (rule_of k b)))

  -- an answer over terms: a reason against them, or what stands of the body that they name
  abbrev OverTerms : List Formula → Result Rule RuleFault → Type 0
  OverTerms terms a = ((f : RuleFault) × (unfit n h terms s ≡ Some f) × (a ≡ Err f))
      ⊎ ((k : RuleKind) × (b : Body) × IsNamed n h terms s k b × OfBody k b a)

  abbrev Parts : Result Rule RuleFault → Type 0
  Parts a = ((has_places n h s ≡ false) × (a ≡ Err fault.NoPlace))
      ⊎ (HasBadTerm n h s × (a ≡ Err fault.BadTerm))
      ⊎ WithTerms n h s (λ terms. OverTerms terms a)

  against : (f : RuleFault) (terms : List Formula) → unfit n h terms s ≡ Some f → OverTerms terms (Err f)
  against f terms e = inl (f, e, refl)

  with : (a : Result Rule RuleFault) (P : List Formula → Type 0) → ((terms : List Formula) → P terms → OverTerms terms a) → WithTerms n h s P → Parts a
  with a P to w = inr (inr (w.0, w.1, w.2, to w.1 w.3))

  made : (r : Rule) (terms : List Formula) → Makes n h s r terms → OverTerms terms (Ok r)
  made r terms m = inr (m.0, m.1, m.2, inr (inr (fits_sizes m.0 m.1 s fit, fit, ap Ok m.3))) where
    fit : FitsAt (rule_of m.0 m.1) s
    fit = subst (λ x. FitsAt x s) m.3 m.4

  large : (terms : List Formula) → StandsAgainst n h s fault.TooLarge terms → OverTerms terms (Err fault.TooLarge)
  large terms m = inr (m.0, m.1, m.2, inl (m.3, refl))

  no_form : (terms : List Formula) → StandsAgainst n h s fault.NoForm terms → OverTerms terms (Err fault.NoForm)
  no_form terms m = elim m [
    | inl e ↦ inl (fault.NoForm, e, refl)
    | inr w ↦ inr (w.0, w.1, w.2, inr (inl (w.3, w.4, refl)))
  ]

  parts : (a : Result Rule RuleFault) → HasMemory a → Answers n h s a → Parts a
  parts (Ok r) m is = with (Ok r) (Makes n h s r) (made r) is
  parts (Err fault.NoPlace) m is = inl (is, refl)
  parts (Err fault.BadTerm) m is = inr (inl (is, refl))
  parts (Err (fault.NotFresh x)) m is = with (Err (fault.NotFresh x)) (StandsAgainst n h s (fault.NotFresh x)) (against (fault.NotFresh x)) is
  parts (Err fault.NoForm) m is = with (Err fault.NoForm) (StandsAgainst n h s fault.NoForm) no_form is
  parts (Err (fault.TooWide x y)) m is = with (Err (fault.TooWide x y)) (StandsAgainst n h s (fault.TooWide x y)) (against (fault.TooWide x y)) is
  parts (Err fault.TooLarge) m is = with (Err fault.TooLarge) (StandsAgainst n h s fault.TooLarge) large is
  parts (Err fault.OutOfMemory) m is = absurd (m refl)

  one_of_body : (k : RuleKind) (b : Body) (x y : Result Rule RuleFault) → OfBody k b x → OfBody k b y → x ≡ y
  one_of_body k b x y p q = elim p [
    | inl u ↦ elim q [ inl v ↦ u.1 ∙ sym v.1 | inr w ↦ elim w [ inl v ↦ absurd (u.0 v.0) | inr v ↦ absurd (u.0 v.0) ] ]
    | inr w ↦ elim w [
      | inl u ↦ elim q [ inl v ↦ absurd (v.0 u.0) | inr z ↦ elim z [ inl v ↦ u.2 ∙ sym v.2 | inr v ↦ absurd (u.1 v.1) ] ]
      | inr u ↦ elim q [ inl v ↦ absurd (v.0 u.0) | inr z ↦ elim z [ inl v ↦ absurd (v.1 u.1) | inr v ↦ u.2 ∙ sym v.2 ] ]
    ]
  ]

  one_named : (terms : List Formula) (k l : RuleKind) (b c : Body) (x y : Result Rule RuleFault) → IsNamed n h terms s k b → IsNamed n h terms s l c
      → OfBody k b x → OfBody l c y → x ≡ y
  one_named terms k l b c x y p q u v = one_of_body k b x y u (subst (λ d. OfBody k d y) (sym body) (subst (λ j. OfBody j c y) (sym kind) v)) where
    kind : k ≡ l
    kind = some_is_one k l (sym p.kind ∙ q.kind)

    body : b ≡ c
    body = some_is_one b c (sym p.body ∙ q.body)

  one_over : (terms : List Formula) (x y : Result Rule RuleFault) → OverTerms terms x → OverTerms terms y → x ≡ y
  one_over terms x y p q = elim p [
    | inl u ↦ elim q [ inl v ↦ u.2 ∙ ap Err (some_is_one u.0 v.0 (sym u.1 ∙ v.1)) ∙ sym v.2 | inr v ↦ absurd (some_or_none u.0 (sym u.1 ∙ v.2.fit)) ]
    | inr u ↦ elim q [ inl v ↦ absurd (some_or_none v.0 (sym v.1 ∙ u.2.fit)) | inr v ↦ one_named terms u.0 v.0 u.1 v.1 x y u.2 v.2 u.3 v.3 ]
  ] where
    some_or_none : (f : RuleFault) → Some f ≡ None → ⊥
    some_or_none f e = absurd (cc)

  one_with_terms : (x y : Result Rule RuleFault) → WithTerms n h s (λ terms. OverTerms terms x) → WithTerms n h s (λ terms. OverTerms terms y) → x ≡ y
  one_with_terms x y p q = one_over p.1 x y p.3
      (subst (λ ts. OverTerms ts y) (sym (one_list s.env (replaced_types n h s) h.terms p.1 q.1 p.2 q.2)) q.3)

  no_places : (b : Bool) → b ≡ false → IsTrue b → ⊥
  no_places true e t = absurd (cc)
  no_places false e t = absurd (cc)

  one_of_parts : (x y : Result Rule RuleFault) → Parts x → Parts y → x ≡ y
  one_of_parts x y p q = elim p [
    | inl u ↦ elim q [ inl v ↦ u.1 ∙ sym v.1 | inr z ↦ elim z [ inl v ↦ absurd (no_places (has_places n h s) u.0 v.0.0) | inr v ↦ absurd (no_places (has_places n h s) u.0 v.0) ] ]
    | inr w ↦ elim w [
      | inl u ↦ elim q [ inl v ↦ absurd (no_places (has_places n h s) v.0 u.0.0) | inr z ↦ elim z [ inl v ↦ u.1 ∙ sym v.1 | inr v ↦ absurd (u.0.1 v.1 v.2) ] ]
      | inr u ↦ elim q [ inl v ↦ absurd (no_places (has_places n h s) v.0 u.0) | inr z ↦ elim z [ inl v ↦ absurd (v.0.1 u.1 u.2) | inr v ↦ one_with_terms x y u v ] ]
    ]
  ]

pub answers_are_one : AnswersAreOne
answers_are_one n h s a b m k p q = one_of_parts n h s a b (parts n h s a m p) (parts n h s b k q)
