-- What is answered, from what was found.
use Rattle.std.proofs.Common.{◌≡◌, ◌∙◌, inl, inr, sym, ap, refl, subst, ℕ, ℤ, Bool, true, List, [], Option, Some, None, Result, Ok, Err, is_none, IsTrue, if◌then◌else◌}
use Rattle.std.specs.Prelude.{IfOk, IsErrAnd, MatchOption}
use Rattle.std.proofs.lemmas.Result.{err_from_is_err_and}
use Rattle.std.specs.Option.{option_map, option_and_then, option_or}
use Rattle.formula_core.specs.declared.formula.Formula.{Formula}
use Rattle.formula_core.specs.declared.raw.Raw.{Raw}
use Rattle.formula_core.specs.declared.ty.Ty.{Ty}
use Rattle.rule_table.specs.declared.rule.Rule.{Rule}
use Rattle.rule_table.specs.declared.rule.Body.{Body}
use Rattle.rule_table.specs.declared.rule.Main.{Main}
use Rattle.rule_table.specs.declared.kind.RuleKind.{RuleKind}
use Rattle.rule_table.specs.Rules.{width}
use Rattle.sequent_core.specs.declared.hint.Hint.{Hint}
use Rattle.sequent_core.specs.declared.sequent.Sequent.{Sequent}
use Rattle.rule_making.specs.declared.fault.RuleFault.{RuleFault}
use Rattle.rule_making.specs.declared.fault.RuleFault.TheVariants as fault
use Rattle.rule_making.specs.Make.{Answers, AreTerms, FitsAt, IsNamed, first_taken, has_places, instance_for, kind_of, main_for, replaced_types, unfit}
use Rattle.rule_making.specs.Private.{AnswersOver, FindsRule, GivesBody, TestsBody}

-- the exit of a `?`
pub exit_with : {X : Type 0} (P : Result X RuleFault → Type 0) (r : Result X RuleFault) (e : RuleFault) → IsErrAnd r (λ d. d ≡ e) → P (Err e) → P r
exit_with P r e h p = let w = err_from_is_err_and r h in subst P (sym w.1) (subst (λ d. P (Err d)) (sym w.2) p)

-- the first reason, of the three
abbrev reason : Option (List ℕ) → Option (ℤ × ℤ) → Option Body → Option RuleFault
reason taken wide body =
    option_or (option_map fault.NotFresh taken)
    (option_or (option_map (λ x. fault.TooWide x.0 x.1) wide) (if is_none body then Some fault.NoForm else None))

abbrev by_width : Main → Option RuleKind → Option (ℤ × ℤ)
by_width m o = option_and_then (λ k. width k m) o

abbrev by_body : Main → Option RuleKind → Option Body
by_body m o = option_and_then (λ k. instance_for k m) o

module _ (n : ℕ) (h : Hint) (terms : List Formula) (s : Sequent) where
  reason_is : unfit n h terms s
      ≡ reason (first_taken s.env [] h.names) (by_width (main_for n h terms s) (kind_of n h terms)) (by_body (main_for n h terms s) (kind_of n h terms))
  unfolding unfit
  reason_is = refl

  pub taken : (x : List ℕ) → first_taken s.env [] h.names ≡ Some x → AnswersOver n h terms s (Err (fault.NotFresh x))
  taken x e = reason_is
      ∙ ap (λ o. reason o (by_width (main_for n h terms s) (kind_of n h terms)) (by_body (main_for n h terms s) (kind_of n h terms))) e

  pub no_kind : first_taken s.env [] h.names ≡ None → kind_of n h terms ≡ None → AnswersOver n h terms s (Err fault.NoForm)
  no_kind e k = inl (reason_is ∙ (λ i. reason (e i) (by_width (main_for n h terms s) (k i)) (by_body (main_for n h terms s) (k i))))

  module _ (k : RuleKind) (fresh : first_taken s.env [] h.names ≡ None) (kind : kind_of n h terms ≡ Some k) where
    reason_of : (w : Option (ℤ × ℤ)) (b : Option Body) → width k (main_for n h terms s) ≡ w → instance_for k (main_for n h terms s) ≡ b
        → unfit n h terms s ≡ reason None w b
    reason_of w b e f = reason_is
        ∙ (λ i. reason (fresh i) (by_width (main_for n h terms s) (kind i)) (by_body (main_for n h terms s) (kind i)))
        ∙ (λ i. reason None (e i) (f i))

    named : (b : Body) → GivesBody k (main_for n h terms s) (Ok b) → IsNamed n h terms s k b
    named b g = record {
      fit = reason_of None (Some b) g.0 g.1;
      kind = kind;
      body = ap (by_body (main_for n h terms s)) kind ∙ g.1;
    }

    refused : (f : RuleFault) → GivesBody k (main_for n h terms s) (Err f) → AnswersOver n h terms s (Err f)
    refused fault.NoPlace g = absurd g
    refused fault.BadTerm g = absurd g
    refused (fault.NotFresh x) g = absurd g
    refused fault.NoForm g = inl (reason_of None None g.0 g.1)
    refused (fault.TooWide x y) g = reason_of (Some (x, y)) (instance_for k (main_for n h terms s)) g refl
    refused fault.TooLarge g = (k, g.1, named g.1 (g.0, g.2), g.3)
    refused fault.OutOfMemory g = tt

    made : (b : Body) (r : Result Rule RuleFault) → GivesBody k (main_for n h terms s) (Ok b) → TestsBody s k b r → AnswersOver n h terms s r
    made b (Ok r) g t = (k, b, named b g, t.0, t.1)
    made b (Err fault.NoPlace) g t = absurd t
    made b (Err fault.BadTerm) g t = absurd t
    made b (Err (fault.NotFresh x)) g t = absurd t
    made b (Err fault.NoForm) g t = inr (k, b, named b g, t.0, t.1)
    made b (Err (fault.TooWide x y)) g t = absurd t
    made b (Err fault.TooLarge) g t = (k, b, named b g, t)
    made b (Err fault.OutOfMemory) g t = tt

    pub finds_over : (r : Result Rule RuleFault) → FindsRule s k (main_for n h terms s) r → AnswersOver n h terms s r
    finds_over r is = elim is [
      | inl w ↦ subst (AnswersOver n h terms s) (sym w.2) (refused w.0 w.1)
      | inr w ↦ made w.0 r w.1 w.2
    ]

  pub finds_main : (o : Option RuleKind) (k : RuleKind) (m : Main) (r : Result Rule RuleFault) → first_taken s.env [] h.names ≡ None → o ≡ kind_of n h terms → o ≡ Some k
      → m ≡ main_for n h terms s → FindsRule s k m r → AnswersOver n h terms s r
  finds_main o k m r fresh e f g is = finds_over k fresh (sym e ∙ f) r (subst (λ x. FindsRule s k x r) g is)

  pub answers_over : (r : Result Rule RuleFault) → IsTrue (has_places n h s) → AreTerms s.env (replaced_types n h s) h.terms terms
      → AnswersOver n h terms s r → Answers n h s r
  answers_over (Ok r) p t a = (p, terms, t, a)
  answers_over (Err fault.NoPlace) p t a = absurd a
  answers_over (Err fault.BadTerm) p t a = absurd a
  answers_over (Err (fault.NotFresh x)) p t a = (p, terms, t, a)
  answers_over (Err fault.NoForm) p t a = (p, terms, t, a)
  answers_over (Err (fault.TooWide x y)) p t a = (p, terms, t, a)
  answers_over (Err fault.TooLarge) p t a = (p, terms, t, a)
  answers_over (Err fault.OutOfMemory) p t a = tt

at_some : {X : Type 0} (o : Option X) (x : X) (A : Type 0) (B : X → Type 0) → o ≡ Some x → MatchOption o A B → B x
at_some None x A B e m = absurd (cc)
at_some (Some y) x A B e m = subst B (some_is y x e) m where
  some_is : {X : Type 0} (a b : X) → Some a ≡ Some b → a ≡ b
  some_is a b e = cc

at_none : {X : Type 0} (o : Option X) (A : Type 0) (B : X → Type 0) → o ≡ None → MatchOption o A B → A
at_none None A B e m = m
at_none (Some x) A B e m = absurd (cc)

module _ (n : ℕ) (h : Hint) (s : Sequent) where
  -- what is typed, with the types that are replaced
  abbrev TypedTerms : List Ty → List Raw → Option (List Formula) → Type 0
  TypedTerms types raws o = MatchOption o ((terms : List Formula) → AreTerms s.env types raws terms → ⊥) (λ terms. AreTerms s.env types raws terms)

  at_hint : (types : List Ty) (raws : List Raw) (o : Option (List Formula)) → types ≡ replaced_types n h s → raws ≡ h.terms → TypedTerms types raws o
      → TypedTerms (replaced_types n h s) h.terms o
  at_hint types raws o f g m = subst (λ x. TypedTerms x h.terms o) f (subst (λ x. TypedTerms types x o) g m)

  pub bad_term : (b : Bool) (types : List Ty) (raws : List Raw) (o : Option (List Formula)) → b ≡ has_places n h s → b ≡ true → types ≡ replaced_types n h s
      → raws ≡ h.terms → o ≡ None → TypedTerms types raws o → Answers n h s (Err fault.BadTerm)
  bad_term b types raws o e t f g is m = (subst IsTrue e t, at_none o _ _ is (at_hint types raws o f g m))

  pub with_terms : (b : Bool) (types : List Ty) (raws : List Raw) (o : Option (List Formula)) (terms parts : List Formula) (r : Result Rule RuleFault)
      → b ≡ has_places n h s → b ≡ true → types ≡ replaced_types n h s → raws ≡ h.terms → o ≡ Some terms → parts ≡ terms → TypedTerms types raws o
      → AnswersOver n h parts s r → Answers n h s r
  with_terms b types raws o terms parts r e t f g is same m a =
      answers_over n h terms s r (subst IsTrue e t) (at_some o terms _ _ is (at_hint types raws o f g m)) (subst (λ x. AnswersOver n h x s r) same a)

  pub over_fits : (terms : List Formula) (r : Result Rule RuleFault) → AnswersOver n h terms s r → IfOk r (λ x. FitsAt x s)
  over_fits terms (Ok r) a = a.4
  over_fits terms (Err f) a = tt

module _ (s : Sequent) (k : RuleKind) (m : Main) where
  pub refused_finds : (f : RuleFault) → GivesBody k m (Err f) → FindsRule s k m (Err f)
  refused_finds f g = inl (f, g, refl)

  pub tests_find : (b : Body) (r : Result Rule RuleFault) → GivesBody k m (Ok b) → TestsBody s k b r → FindsRule s k m r
  tests_find b r g t = inr (b, g, t)
