-- What a row of the rule table keeps, and what all its results have.
use Rattle.std.proofs.Common.{Bool, IfSome, List, None, Option, Some, [], ap, false, map, refl, subst, sym, true, ℕ, ◌++◌, ◌∙◌, ◌∷◌, ◌≡◌}
use Rattle.std.specs.List.{AllByRecursion}
use Rattle.std.specs.Option.{option_and_then, option_map}
use Rattle.std.specs.Prelude.{if◌then◌else◌}
use Rattle.formula_core.proofs.Keeping.{all_more, back}
use Rattle.formula_core.specs.Formulas.{joined}
use Rattle.formula_core.specs.Typed.{Stands}
use Rattle.formula_core.specs.Types.{relation}
use Rattle.formula_core.specs.Wellness.{type_of}
use Rattle.formula_core.specs.declared.Binder.{Binder}
use Rattle.formula_core.specs.declared.Formula.{Formula}
use Rattle.formula_core.specs.declared.Formula.TheVariants.{Bind, Node}
use Rattle.formula_core.specs.declared.Op.{Op}
use Rattle.formula_core.specs.declared.Ty.{Ty}
use Rattle.formula_core.specs.declared.Ty.TheVariants as ty
use Rattle.well_defined.specs.Connectives.{is_top}
use Rattle.rule_table.specs.Rows.{after_condition, proves}
use Rattle.rule_table.specs.Rules.{IsAllowed, IsSound, added_by, antecedent_formulas, formulas_of, needed_formulas, terms_of}
use Rattle.rule_table.specs.Shapes.{one_bound, operand, two_operands}
use Rattle.rule_table.specs.declared.kind.RuleKind.{RuleKind}
use Rattle.rule_table.specs.declared.rule.Antecedent.{Antecedent}
use Rattle.rule_table.specs.declared.rule.Body.{Body}
use Rattle.sequent_core.specs.Trees.{goal_or}
use Rattle.meanings.specs.Denotations.{holds}
use Rattle.meanings.specs.Universes.{Valuation, Universe}
use Rattle.meanings.proofs.Fitting.{IsWellIn, OfEach}
use Rattle.meanings.proofs.Types.{relation_is}
use Rattle.true_laws.proofs.Forms.{is_under}
use Rattle.plain_logic.specs.Plain.{is_plain_kind}
use Rattle.plain_logic.proofs.Found.{one_is, two_are}

-- what all results of a row have, by the forms in which the table writes rows
module _ {Y : Type 0} (P : Y → Type 0) where
  pub told : (o : Option Y) (y : Y) → IfSome o P → o ≡ Some y → P y
  told o y h e = subst (λ o. IfSome o P) e h

  pub each : {X : Type 0} → (o : Option X) (make : X → Option Y)
      → ((x : X) → o ≡ Some x → IfSome (make x) P) → IfSome (option_and_then make o) P
  each None make f = tt
  each (Some x) make f = f x refl

  pub each_made : {X : Type 0} → (o : Option X) (make : X → Y)
      → ((x : X) → o ≡ Some x → P (make x)) → IfSome (option_map make o) P
  each_made None make f = tt
  each_made (Some x) make f = f x refl

  pub if_so : (c : Bool) (o : Option Y) → (c ≡ true → IfSome o P) → IfSome (if c then o else None) P
  if_so true o f = f refl
  if_so false o f = tt

  pub at_one : (o : Op) (f : Formula) (make : Formula → Option Y)
      → ((p : Formula) (t : Ty) → f ≡ Node o (p ∷ []) t → IfSome (make p) P)
      → IfSome (option_and_then make (operand o f)) P
  at_one o f make k = each (operand o f) make (λ p e. let n = one_is o f p e in k p n.0 n.1)

  pub at_two : (o : Op) (f : Formula) (make : Formula × Formula → Option Y)
      → ((p q : Formula) (t : Ty) → f ≡ Node o (p ∷ q ∷ []) t → IfSome (make (p, q)) P)
      → IfSome (option_and_then make (two_operands o f)) P
  at_two o f make k = each (two_operands o f) make (λ x e. let n = two_are o f x e in k x.0 x.1 n.0 n.1)

  pub at_binder : (b : Binder) (f : Formula) (make : List Ty × Formula → Option Y)
      → ((own : List Ty) (p : Formula) (t : Ty) → f ≡ Bind b own (p ∷ []) t → IfSome (make (own, p)) P)
      → IfSome (option_and_then make (one_bound b f)) P
  at_binder b f make k = each (one_bound b f) make (λ x e.
      let n = is_under x b f (λ own p. Some (own, p))
      (ap (option_and_then (λ (c : List Ty × Formula). Some (c.0, c.1))) e) in
      let made = n.4 in let same : (n.0, n.1) ≡ x = cc in
      subst (λ x. IfSome (make x) P) same (k n.0 n.1 n.2 n.3))

  pub at_relation : (f : Formula) (make : Ty × Ty → Option Y)
      → ((α β : Ty) → type_of f ≡ ty.Pow (ty.Pair α β) → IfSome (make (α, β)) P)
      → IfSome (option_and_then make (relation (type_of f))) P
  at_relation f make k = each (relation (type_of f)) make (λ x e. k x.0 x.1 (relation_is (type_of f) x e))

-- what antecedents have with a condition of well-definedness before them and without one
pub on_condition : (Q : List Antecedent → Type 0) (l : Formula) (rest : List Antecedent)
    → Q rest → Q (proves l ∷ rest) → Q (after_condition l rest)
on_condition Q l rest plain more = go (is_top l)
  where
    go : (c : Bool) → Q (if c then rest else proves l ∷ rest)
    go true = plain
    go false = more

pub after : (P : Antecedent → Type 0) (l : Formula) (rest : List Antecedent)
    → AllByRecursion P (after_condition l rest) → AllByRecursion P rest
after P l rest = on_condition (λ ants. AllByRecursion P ants → AllByRecursion P rest) l rest (λ h. h) (λ h. h.1)

pub none_after : (l : Formula) (rest : List Antecedent) → joined (map (λ (a : Antecedent). a.idents) rest) ≡ []
    → joined (map (λ (a : Antecedent). a.idents) (after_condition l rest)) ≡ []
none_after l rest e = on_condition (λ ants. joined (map (λ (a : Antecedent). a.idents) ants) ≡ []) l rest e e

pub by_cases : {A : Type 0} → (b : Bool) → (b ≡ true → A) → (b ≡ false → A) → A
by_cases true f g = f refl
by_cases false f g = g refl

-- a well predicate
abbrev pub IsWellPredicate : Formula → Type 0
IsWellPredicate f = IsWellIn f [] × (type_of f ≡ ty.Truth)

module _ {carrier : List ℕ → Type 0} (U : Universe carrier) (names : Valuation carrier) where
  abbrev pub True : Formula → Type 0
  True f = holds U names f ≡ true

  -- what an antecedent leaves is true, where the goal is `g`
  abbrev pub IsLeft : Formula → Antecedent → Type 0
  IsLeft g a = AllByRecursion True a.hyps → True (goal_or a.goal g)

  -- a goal is true where what is needed and what is left are
  abbrev pub Keeps : Body → Type 0
  Keeps b = (g : Formula) → IfSome b.goal (λ x. x ≡ g) → AllByRecursion True b.hyps
      → AllByRecursion (IsLeft g) b.antecedents → True g

  -- A row of a kind that adds no names. That plain kinds keep truth is told of readings.
  pub record Row (env : List (List ℕ × Ty)) (k : RuleKind) (b : Body) : Type 0 where
    pub adds_none : added_by b ≡ []
    pub keeps : is_plain_kind k b.goal b.hyps ≡ false → IsSound k b
        → AllByRecursion (OfEach (Stands env)) (formulas_of k b) → Keeps b

  pub plain_row : {env : List (List ℕ × Ty)} {k : RuleKind} {b : Body} → added_by b ≡ []
      → is_plain_kind k b.goal b.hyps ≡ true → Row env k b
  plain_row none is =
      record { adds_none = none; keeps = λ not_plain. let k : true ≡ false = sym is ∙ not_plain in absurd cc }

  pub keeping : {env : List (List ℕ × Ty)} {k : RuleKind} {b : Body} → added_by b ≡ []
      → (IsSound k b → AllByRecursion (OfEach (Stands env)) (formulas_of k b) → Keeps b) → Row env k b
  keeping none f = record { adds_none = none; keeps = λ not_plain. f }

-- the terms of a rule are well
pub terms_well : (k : RuleKind) (b : Body) → IsSound k b → AllByRecursion (λ e. IsWellIn e []) (terms_of k)
terms_well k b sound =
    let others = needed_formulas b ++ joined (map antecedent_formulas b.antecedents) in
    all_more IsAllowed (λ e. IsWellIn e [])
    (λ e a. a.well) (terms_of k) (back IsAllowed others (terms_of k) sound.formulas)
