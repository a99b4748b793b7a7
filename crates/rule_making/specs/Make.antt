-- What a hint asks for, and why no rule is made of it: the first reason, in the order of the tests.
use Rattle.std.specs.Prelude.{◌≡◌, ◌≤◌, ◌⊎◌, ⊤, ℕ, ◌-◌, ℤ, Bool, true, false, ◌&&◌, ◌||◌, ◌==◌, ◌++◌, if◌then◌else◌}
use Rattle.std.specs.Prelude.{List, [], ◌∷◌, length, slice_get, Option, Some, None, Result, Ok, Err, bytes_eq}
use Rattle.std.specs.Prelude.{is_some, is_none, IsTrue}
use Rattle.std.specs.List.{AllByRecursion, list_all, list_any}
use Rattle.std.specs.Option.{option_map, option_and_then, option_or, option_map_or}
use Rattle.formula_core.specs.declared.formula.Formula.{Formula}
use Rattle.formula_core.specs.declared.raw.Raw.{Raw}
use Rattle.formula_core.specs.declared.op.Binder.TheVariants.{ForAll, Exists}
use Rattle.formula_core.specs.declared.ty.Ty.{Ty}
use Rattle.formula_core.specs.declared.ty.Ty.TheVariants.{Truth}
use Rattle.formula_core.specs.Env.{type_in}
use Rattle.formula_core.specs.Same.{same_formula, same_list}
use Rattle.formula_core.specs.Sizes.{IsWithinLimits, type_nodes}
use Rattle.type_formula.specs.Answers.{IsTheFormula}
use Rattle.type_formula.specs.Bare.{Bare}
use Rattle.type_formula.specs.CoreForms.{core_form}
use Rattle.sequent_core.specs.declared.hint.Hint.{Hint}
use Rattle.sequent_core.specs.declared.sequent.Sequent.{Sequent}
use Rattle.sequent_core.specs.Trees.{Fits}
use Rattle.rule_table.specs.declared.rule.Rule.{Rule}
use Rattle.rule_table.specs.declared.rule.Body.{Body}
use Rattle.rule_table.specs.declared.rule.Main.{Main}
use Rattle.rule_table.specs.declared.kind.RuleKind.{RuleKind}
use Rattle.rule_table.specs.declared.kind.RuleKind.TheVariants as kind
use Rattle.rule_table.specs.Shapes.{one_bound}
use Rattle.rule_table.specs.Rewriting.{at_place}
use Rattle.rule_table.specs.Rows.{instance, first}
use Rattle.rule_table.specs.Rules.{IsRule, body_of, formulas_of, added_by, width, rule_of}
use Rattle.rule_making.specs.declared.fault.RuleFault.{RuleFault}
use Rattle.rule_making.specs.declared.fault.RuleFault.TheVariants as fault

-- 1. numbers and positions

-- the hypothesis with a number, from 1
abbrev pub hypothesis : Sequent → ℕ → Option Formula
hypothesis s n = if n == 0 then None else slice_get s.hyps (n - 1)

-- the hypothesis that the hint names first
abbrev pub first_hyp : Sequent → Hint → Option Formula
first_hyp s h = option_and_then (hypothesis s) (first h.hyps)

-- the formula in which a law rewrites, where the kind rewrites: the goal, or the hypothesis that is named first
abbrev pub rewritten_in : ℕ → Hint → Sequent → Option Formula
rewritten_in n h s = if n == 29 then Some s.goal else (if n == 30 then first_hyp s h else None)

-- each hypothesis is there, and the place in the formula that is rewritten
abbrev pub has_places : ℕ → Hint → Sequent → Bool
has_places n h s =
    list_all (λ i. is_some (hypothesis s i)) h.hyps
    && option_map_or (λ f. is_some (at_place h.place f)) (rewritten_in n h s) true

-- 2. terms

abbrev pub types_under : Option (List Ty × Formula) → List Ty
types_under None = []
types_under (Some b) = b.0

-- the types of the identifiers that terms replace, where the hypothesis or the goal binds some
abbrev pub replaced_types : ℕ → Hint → Sequent → List Ty
replaced_types n h s =
    if n == 18 then types_under (option_and_then (one_bound ForAll) (first_hyp s h))
    else (if n == 19 then types_under (one_bound Exists s.goal) else [])

-- The formula is the one typing of a form by itself: as a predicate, or else as an expression of any type.
abbrev pub IsTypedAlone : List (List ℕ × Ty) → Bare → Formula → Type 0
IsTypedAlone env b f = IsTheFormula env [] b (Some Truth) f
    ⊎ (((p : Formula) → IsTheFormula env [] b (Some Truth) p → ⊥) × IsTheFormula env [] b None f)

-- The formula is the one typing of a term: of the type of the identifier that it replaces, or by itself.
abbrev pub IsTerm : List (List ℕ × Ty) → Option Ty → Raw → Formula → Type 0
IsTerm env (Some t) raw f = IsTheFormula env [] (core_form raw) (Some t) f
IsTerm env None raw f = IsTypedAlone env (core_form raw) f

abbrev pub without_first : {X : Type 0} → List X → List X
without_first [] = []
without_first (x ∷ xs) = xs

-- each term is typed, the first ones of the types of the identifiers that they replace
abbrev pub AreTerms : List (List ℕ × Ty) → List Ty → List Raw → List Formula → Type 0
AreTerms env types [] [] = ⊤
AreTerms env types (raw ∷ raws) (f ∷ terms) = IsTerm env (first types) raw f × AreTerms env (without_first types) raws terms
AreTerms env types _ _ = ⊥

-- 3. new names

-- the first name that stands in the environment or earlier among the names
abbrev pub first_taken : List (List ℕ × Ty) → List (List ℕ) → List (List ℕ) → Option (List ℕ)
first_taken env earlier [] = None
first_taken env earlier (x ∷ names) =
    if is_some (type_in env x) || list_any (bytes_eq x) earlier then Some x else first_taken env (earlier ++ x ∷ []) names

-- 4. form

-- the hint has names, a law with a place, and multipliers only where the kind takes them
abbrev pub has_only : Hint → Bool → Bool → Bool → Bool
has_only h names rewriting multipliers =
    (names || (length h.names == 0)) && (rewriting || (h.law == 0) && (length h.place == 0))
    && (multipliers || (length h.multipliers == 0))

-- a kind that takes hypotheses alone
abbrev pub plain : Hint → List Formula → RuleKind → Option RuleKind
plain h terms k = if has_only h false false false && (length terms == 0) then Some k else None

-- review takes all hypotheses by itself, so that none is named
abbrev pub reviewing : Hint → List Formula → RuleKind → Option RuleKind
reviewing h terms k =
    if has_only h false false false && (length terms == 0) && (length h.hyps == 0) then Some k else None

-- a kind that takes new names
abbrev pub naming : Hint → List Formula → RuleKind → Option RuleKind
naming h terms k = if has_only h true false false && (length terms == 0) then Some k else None

-- a kind that takes terms for identifiers
abbrev pub with_terms : Hint → RuleKind → Option RuleKind
with_terms h k = if has_only h false false false then Some k else None

-- a kind that takes a chosen formula
abbrev pub with_term : Hint → List Formula → RuleKind → Option RuleKind
with_term h terms k = if has_only h false false false && (length terms == 1) then Some k else None

-- A kind that rewrites by a law. The number of hypotheses is tested here, so that too many are no form before a
-- value is too wide.
abbrev pub rewriting : ℕ → Hint → List Formula → RuleKind → Option RuleKind
rewriting count h terms k =
    if has_only h false true false && (length terms == 0) && (length h.hyps == count) then Some k else None

-- a kind that takes multipliers
abbrev pub multiplying : Hint → List Formula → RuleKind → Option RuleKind
multiplying h terms k = if has_only h false false true && (length terms == 0) then Some k else None

-- the kinds in the order of their numbers, each with what the hint gives it, where the hint has that and no more
abbrev pub kinds : Hint → List Formula → List (Option RuleKind)
kinds h terms =
    plain h terms kind.Hyp ∷ plain h terms kind.Top ∷ plain h terms kind.Bot ∷ plain h terms kind.Contr
    ∷ plain h terms kind.AndR ∷ plain h terms kind.AndL ∷ plain h terms kind.OrR ∷ plain h terms kind.OrL
    ∷ plain h terms kind.ImpR ∷ plain h terms kind.ImpL ∷ plain h terms kind.Mp ∷ plain h terms kind.IffR
    ∷ plain h terms kind.IffL ∷ plain h terms kind.NotR ∷ plain h terms kind.NotL ∷ plain h terms kind.Contra
    ∷ naming h terms kind.AllR ∷ with_terms h (kind.AllL terms) ∷ with_terms h (kind.ExR terms)
    ∷ naming h terms kind.ExL ∷ with_term h terms kind.Cut ∷ with_term h terms kind.Cases
    ∷ reviewing h terms kind.Review ∷ plain h terms kind.EqRefl ∷ plain h terms kind.EqGoal ∷ plain h terms kind.EqHyp
    ∷ with_term h terms kind.BoolCases ∷ plain h terms kind.BoolDiff
    ∷ rewriting 0 h terms (kind.RwGoal h.law h.place) ∷ rewriting 1 h terms (kind.RwHyp h.law h.place)
    ∷ multiplying h terms (kind.Linear h.multipliers) ∷ with_term h terms kind.CardNat
    ∷ with_term h terms kind.FunIn ∷ plain h terms kind.FunEq ∷ plain h terms kind.OverOther ∷ []

-- the kind with a number
unfoldable pub kind_of : ℕ → Hint → List Formula → Option RuleKind
kind_of n h terms = if n == 0 then None else option_and_then (λ k. k) (slice_get (kinds h terms) (n - 1))

-- the kinds that take the goal of the sequent
abbrev pub takes_goal : ℕ → Bool
takes_goal n =
    list_any (λ k. k == n) (1 ∷ 2 ∷ 5 ∷ 7 ∷ 9 ∷ 12 ∷ 14 ∷ 16 ∷ 17 ∷ 19 ∷ 23 ∷ 24 ∷ 25 ∷ 29 ∷ 31 ∷ 35 ∷ [])

-- the hypotheses with these numbers, as far as they are there
abbrev pub hyps_at : Sequent → List ℕ → List Formula
hyps_at s [] = []
hyps_at s (n ∷ ns) = option_map_or (λ h. h ∷ hyps_at s ns) (hypothesis s n) (hyps_at s ns)

-- the hypotheses of a rule: those that are named, but review takes all by itself
abbrev pub hyps_for : ℕ → Hint → Sequent → List Formula
hyps_for n h s = if n == 23 then s.hyps else hyps_at s h.hyps

abbrev pub goal_for : ℕ → Sequent → Option Formula
goal_for n s = if takes_goal n then Some s.goal else None

-- the main formulas that the hint names
unfoldable pub main_for : ℕ → Hint → List Formula → Sequent → Main
main_for n h terms s =
    record { goal = goal_for n s; hyps = hyps_for n h s; names = h.names; chosen = first terms }

abbrev pub same_goal : Option Formula → Option Formula → Bool
same_goal None None = true
same_goal (Some f) (Some g) = same_formula f g
same_goal _ _ = false

-- what an instance needs and leaves, where it needs just the goal and the hypotheses that were named
abbrev pub needing : Main → Body → Option Body
needing m b = if same_goal b.goal m.goal && same_list same_formula b.hyps m.hyps then Some b else None

unfoldable pub instance_for : RuleKind → Main → Option Body
instance_for k m = option_and_then (needing m) (instance k m)

-- what the rule that is asked for would need and leave
abbrev pub body_for : ℕ → Hint → List Formula → Sequent → Option Body
body_for n h terms s = option_and_then (λ k. instance_for k (main_for n h terms s)) (kind_of n h terms)

-- the operands whose result is too wide
abbrev pub width_for : ℕ → Hint → List Formula → Sequent → Option (ℤ × ℤ)
width_for n h terms s = option_and_then (λ k. width k (main_for n h terms s)) (kind_of n h terms)

-- the first reason that can be told without the rule's sizes
unfoldable pub unfit : ℕ → Hint → List Formula → Sequent → Option RuleFault
unfit n h terms s =
    option_or (option_map fault.NotFresh (first_taken s.env [] h.names))
    (option_or (option_map (λ x. fault.TooWide x.0 x.1) (width_for n h terms s))
    (if is_none (body_for n h terms s) then Some fault.NoForm else None))

-- 5. sizes, and what is made

-- no formula of the rule and no type that it adds is too large
abbrev pub IsWithinSizes : RuleKind → Body → Type 0
IsWithinSizes k b = AllByRecursion IsWithinLimits (formulas_of k b) × AllByRecursion (λ x. type_nodes x.1 ≤ 4096) (added_by b)

-- the rule is one of the table and fits at the sequent, with a child for each antecedent
abbrev pub FitsAt : Rule → Sequent → Type 0
FitsAt r s = Fits (record { rule = r; children = length r.antecedents; sequent = s })

-- the kind and the body that the hint names with its terms, where no reason stands against them
pub record IsNamed (n : ℕ) (h : Hint) (terms : List Formula) (s : Sequent) (k : RuleKind) (b : Body) : Type 0 where
  pub fit : unfit n h terms s ≡ None
  pub kind : kind_of n h terms ≡ Some k
  pub body : body_for n h terms s ≡ Some b

-- the rule is the one that the hint names with its terms, and applies
abbrev pub Makes : ℕ → Hint → Sequent → Rule → List Formula → Type 0
Makes n h s r terms = (k : RuleKind) × (b : Body) × IsNamed n h terms s k b × (r ≡ rule_of k b) × FitsAt r s

-- What stands against a rule. What is named, small, and yet no rule that applies is no form either.
abbrev pub StandsAgainst : ℕ → Hint → Sequent → RuleFault → List Formula → Type 0
StandsAgainst n h s fault.TooLarge terms =
    (k : RuleKind) × (b : Body) × IsNamed n h terms s k b × (IsWithinSizes k b → ⊥)
StandsAgainst n h s fault.NoForm terms = (unfit n h terms s ≡ Some fault.NoForm)
    ⊎ ((k : RuleKind) × (b : Body) × IsNamed n h terms s k b × IsWithinSizes k b × (FitsAt (rule_of k b) s → ⊥))
StandsAgainst n h s f terms = unfit n h terms s ≡ Some f

-- the places are there, the terms are typed, and of these something holds
abbrev pub WithTerms : ℕ → Hint → Sequent → (List Formula → Type 0) → Type 0
WithTerms n h s P =
    IsTrue (has_places n h s)
    × (terms : List Formula) × AreTerms s.env (replaced_types n h s) h.terms terms × P terms

-- the places are there, but the terms aren't typed
abbrev pub HasBadTerm : ℕ → Hint → Sequent → Type 0
HasBadTerm n h s =
    IsTrue (has_places n h s)
    × ((terms : List Formula) → AreTerms s.env (replaced_types n h s) h.terms terms → ⊥)

-- What is answered: out of memory, or the first refusal in this order, or the rule.
abbrev pub Answers : ℕ → Hint → Sequent → Result Rule RuleFault → Type 0
Answers n h s (Ok r) = WithTerms n h s (Makes n h s r)
Answers n h s (Err fault.NoPlace) = has_places n h s ≡ false
Answers n h s (Err fault.BadTerm) = HasBadTerm n h s
Answers n h s (Err fault.OutOfMemory) = ⊤
Answers n h s (Err f) = WithTerms n h s (StandsAgainst n h s f)
