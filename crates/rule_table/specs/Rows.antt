-- The table of rules: what an instance of a kind needs and leaves.
use Rattle.std.specs.Prelude.{zip, ◌==◌, ◌≡◌, ℕ, ℤ, ◌-◌, List, [], ◌∷◌, map, fold, length, Option, Some, None, slice_get, Bool, true, false, ◌&&◌, nat_le, if◌then◌else◌}
use Rattle.std.specs.Option.{option_map, option_and_then}
use Rattle.formula_core.specs.declared.Op.{Op}
use Rattle.formula_core.specs.declared.Op.TheVariants as op
use Rattle.formula_core.specs.declared.Binder.TheVariants.{ForAll, Exists}
use Rattle.formula_core.specs.declared.Ty.{Ty}
use Rattle.formula_core.specs.declared.Formula.{Formula, out-Formula}
use Rattle.formula_core.specs.declared.Formula.TheOpen.{Formula-F, Node}
use Rattle.formula_core.specs.Numbers.{number_of}
use Rattle.formula_core.specs.Formulas.{instantiated}
use Rattle.formula_core.specs.Shifting.{as_terms}
use Rattle.formula_core.specs.Types.{same_type, is_truth, is_boolean}
use Rattle.formula_core.specs.Wellness.{type_of}
use Rattle.well_defined.specs.Predicates.{top, member, finite, domain, zero, at_most, implication}
use Rattle.well_defined.specs.Connectives.{conjoined, is_top}
use Rattle.well_defined.specs.Conditions.{wd_of}
use Rattle.rule_table.specs.declared.rule.Antecedent.{Antecedent}
use Rattle.rule_table.specs.declared.rule.Body.{Body}
use Rattle.rule_table.specs.declared.rule.Main.{Main}
use Rattle.rule_table.specs.declared.kind.RuleKind.{RuleKind}
use Rattle.rule_table.specs.declared.kind.RuleKind.TheVariants as kind
use Rattle.rule_table.specs.Shapes.{operand, two_of, on_one, on_two, under_binder, of_set, of_relation, negation, equal, bottom, true_value, false_value, applied, cardinality}
use Rattle.rule_table.specs.Linear.{has_linear_form, linear_sum, is_positive_constant}
use Rattle.rule_table.specs.Rewriting.{law_of, rewritten, replaced, replaced_over}

-- antecedents: with a new goal, with new hypotheses, or with both
abbrev pub proves : Formula → Antecedent
proves p = record { idents = []; hyps = []; goal = Some p }

abbrev pub adds : List Formula → Antecedent
adds ps = record { idents = []; hyps = ps; goal = None }

abbrev pub assumes : Formula → Formula → Antecedent
assumes p q = record { idents = []; hyps = p ∷ []; goal = Some q }

-- the condition of well-definedness first, unless it is ⊤
abbrev pub after_condition : Formula → List Antecedent → List Antecedent
after_condition l rest = if is_top l then rest else proves l ∷ rest

-- L of several terms: their L in order, joined by ∧ without ⊤
abbrev pub wd_of_all : List Formula → Formula
wd_of_all terms = fold conjoined top (map wd_of terms)

-- what a rule needs: its goal, hypotheses, or both
abbrev pub backward : Formula → List Antecedent → Body
backward g left = record { goal = Some g; hyps = []; antecedents = left }

abbrev pub forward : List Formula → List Antecedent → Body
forward hyps left = record { goal = None; hyps = hyps; antecedents = left }

abbrev pub both : Formula → List Formula → List Antecedent → Body
both g hyps left = record { goal = Some g; hyps = hyps; antecedents = left }

-- One row for each kind, made from the goal g, from hypotheses h and k, or from a chosen formula.

abbrev pub hyp : Formula → Option Body
hyp g = Some (both g (g ∷ []) [])

abbrev pub contr : Formula → Option Body
contr p = Some (forward (p ∷ negation p ∷ []) [])

abbrev pub and_r : Formula → Option Body
and_r g = on_two op.And g (λ p q. Some (backward g (proves p ∷ proves q ∷ [])))

abbrev pub and_l : Formula → Option Body
and_l h = on_two op.And h (λ p q. Some (forward (h ∷ []) (adds (p ∷ q ∷ []) ∷ [])))

abbrev pub or_r : Formula → Option Body
or_r g = on_two op.Or g (λ p q. Some (backward g (assumes (negation p) q ∷ [])))

abbrev pub or_l : Formula → Option Body
or_l h = on_two op.Or h (λ p q. Some (forward (h ∷ []) (adds (p ∷ []) ∷ adds (q ∷ []) ∷ [])))

abbrev pub imp_r : Formula → Option Body
imp_r g = on_two op.Implies g (λ p q. Some (backward g (assumes p q ∷ [])))

abbrev pub imp_l : Formula → Option Body
imp_l h = on_two op.Implies h (λ p q. Some (forward (h ∷ []) (proves p ∷ adds (q ∷ []) ∷ [])))

abbrev pub mp : Formula → Option Body
mp h = on_two op.Implies h (λ p q. Some (forward (h ∷ p ∷ []) (adds (q ∷ []) ∷ [])))

abbrev pub iff_r : Formula → Option Body
iff_r g = on_two op.Equivalent g (λ p q. Some (backward g (proves (implication p q) ∷ proves (implication q p) ∷ [])))

abbrev pub iff_l : Formula → Option Body
iff_l h = on_two op.Equivalent h (λ p q. Some (forward (h ∷ []) (adds (implication p q ∷ implication q p ∷ []) ∷ [])))

abbrev pub not_r : Formula → Option Body
not_r g = on_one op.Not g (λ p. Some (backward g (assumes p bottom ∷ [])))

abbrev pub not_l : Formula → Option Body
not_l h = on_one op.Not h (λ p. Some (forward (h ∷ []) (proves p ∷ [])))

abbrev pub contra : Formula → Option Body
contra g = Some (backward g (assumes (negation g) bottom ∷ []))

-- the names with the types of the bound identifiers, where there are as many
unfoldable pub named : List (List ℕ) → List Ty → Option (List (List ℕ × Ty))
named names types = if length names == length types then Some (zip names types) else None

-- new identifiers, with a goal or a hypothesis in which they stand for the bound ones
abbrev pub new_goal : List (List ℕ × Ty) → Formula → Antecedent
new_goal ids p = record { idents = ids; hyps = []; goal = Some (instantiated (as_terms ids) 0 p) }

abbrev pub new_hyp : List (List ℕ × Ty) → Formula → Antecedent
new_hyp ids p = record { idents = ids; hyps = instantiated (as_terms ids) 0 p ∷ []; goal = None }

abbrev pub all_r : List (List ℕ) → Formula → Option Body
all_r names g =
    under_binder ForAll g (λ types p. option_map (λ ids. backward g (new_goal ids p ∷ [])) (named names types))

abbrev pub ex_l : List (List ℕ) → Formula → Option Body
ex_l names h =
    under_binder Exists h (λ types p. option_map (λ ids. forward (h ∷ []) (new_hyp ids p ∷ [])) (named names types))

-- as many terms as types, each of its type
abbrev pub have_types : List Formula → List Ty → Bool
have_types [] [] = true
have_types (e ∷ terms) (t ∷ types) = same_type (type_of e) t && have_types terms types
have_types _ _ = false

abbrev pub all_l : List Formula → Formula → Option Body
all_l terms h = under_binder ForAll h (λ types p. if have_types terms types
    then Some (forward (h ∷ []) (after_condition (wd_of_all terms) (adds (instantiated terms 0 p ∷ []) ∷ [])))
    else None)

abbrev pub ex_r : List Formula → Formula → Option Body
ex_r terms g = under_binder Exists g (λ types p. if have_types terms types
    then Some (backward g (after_condition (wd_of_all terms) (proves (instantiated terms 0 p) ∷ []))) else None)

abbrev pub cut : Formula → Option Body
cut p =
    if is_truth (type_of p) then Some (forward [] (after_condition (wd_of p) (proves p ∷ adds (p ∷ []) ∷ []))) else None

abbrev pub cases : Formula → Option Body
cases p =
    if is_truth (type_of p) then Some (forward [] (after_condition (wd_of p)
    (adds (p ∷ []) ∷ adds (negation p ∷ []) ∷ []))) else None

abbrev pub eq_refl : Formula → Option Body
eq_refl g = on_two op.Equal g (λ e f. Some (backward (equal e e) []))

abbrev pub eq_goal : Formula → Formula → Option Body
eq_goal g h = on_two op.Equal h (λ e f. Some (both g (h ∷ []) (proves (replaced e f g) ∷ [])))

abbrev pub eq_hyp : Formula → Formula → Option Body
eq_hyp h k = on_two op.Equal h (λ e f. Some (forward (h ∷ k ∷ []) (adds (replaced e f k ∷ []) ∷ [])))

abbrev pub bool_cases : Formula → Option Body
bool_cases e =
    if is_boolean (type_of e) then Some (forward [] (after_condition (wd_of e)
    (adds (equal e true_value ∷ []) ∷ adds (equal e false_value ∷ []) ∷ []))) else None

abbrev pub rw_goal : ℕ → List ℕ → Formula → Option Body
rw_goal law place g =
    option_and_then (λ law. option_map (λ new. backward g (proves new ∷ [])) (rewritten law place g)) (law_of law)

abbrev pub rw_hyp : ℕ → List ℕ → Formula → Option Body
rw_hyp law place h =
    option_and_then (λ law. option_map (λ new. forward (h ∷ [])
    (adds (new ∷ []) ∷ [])) (rewritten law place h)) (law_of law)

abbrev pub linear_step_of : List ℤ → List Formula → Formula → Option Body
linear_step_of ks hyps g =
    if has_linear_form g hyps ks && is_positive_constant (linear_sum g hyps ks) then Some (both g hyps []) else None

abbrev pub card_nat : Formula → Option Body
card_nat s =
    of_set s (λ α. Some (forward [] (after_condition (wd_of s) (proves (finite s) ∷ adds (at_most zero (cardinality s) ∷ []) ∷ []))))

-- the arrows from ⇸ to ⤖
abbrev pub is_function_arrow : Op → Bool
is_function_arrow o = nat_le 31 (number_of o) && nat_le (number_of o) 37

abbrev pub arrow_at : Formula-F Formula → Option (Formula × Formula)
arrow_at (Node o parts t) = if is_function_arrow o then two_of parts else None
arrow_at _ = None

-- f and T of a hypothesis `f ∈ S a T` for such an arrow a
abbrev pub function_in : Formula → Option (Formula × Formula)
function_in h = on_two op.Member h (λ f set. option_map (λ x. (f, x.1)) (arrow_at (out-Formula set)))

abbrev pub fun_in : Formula → Formula → Option Body
fun_in h e = option_and_then (λ x. of_relation x.0 (λ α β. if same_type (type_of e) α
    then Some (forward (h ∷ []) (after_condition (wd_of e) (proves (member e (domain x.0 α)) ∷ adds (member (applied x.0 e β) x.1 ∷ []) ∷ []))) else None)) (function_in h)

-- h is `E ↦ F ∈ f`, k is `f ∈ S a T`
abbrev pub fun_eq : Formula → Formula → Option Body
fun_eq h k = option_and_then (λ x. of_relation x.0 (λ α β. on_two op.Member h (λ p f. on_two op.Maplet p (λ e v.
    Some (forward (member p x.0 ∷ k ∷ []) (adds (equal (applied x.0 e β) v ∷ []) ∷ [])))))) (function_in k)

abbrev pub over_other : Formula → Formula → Option Body
over_other g h =
    on_one op.Not h (λ q. on_two op.Equal q (λ z x. Some (both g (h ∷ []) (proves (replaced_over z x g) ∷ []))))

-- the first hypothesis, and the first two
abbrev pub first : {X : Type 0} → List X → Option X
first (x ∷ xs) = Some x
first [] = None

abbrev pub with_two : List Formula → (Formula → Formula → Option Body) → Option Body
with_two (h ∷ k ∷ rest) make = make h k
with_two _ make = None

abbrev pub with_goal : Main → (Formula → Option Body) → Option Body
with_goal m make = option_and_then make m.goal

abbrev pub with_hyp : Main → (Formula → Option Body) → Option Body
with_hyp m make = option_and_then make (first m.hyps)

abbrev pub with_chosen : Main → (Formula → Option Body) → Option Body
with_chosen m make = option_and_then make m.chosen

-- The instance of a kind for its main formulas. It repeats the needed goal and hypotheses as they have to be.
abbrev pub instance : RuleKind → Main → Option Body
instance kind.Hyp m = with_goal m hyp
instance kind.Top m = Some (backward top [])
instance kind.Bot m = Some (forward (bottom ∷ []) [])
instance kind.Contr m = with_hyp m contr
instance kind.AndR m = with_goal m and_r
instance kind.AndL m = with_hyp m and_l
instance kind.OrR m = with_goal m or_r
instance kind.OrL m = with_hyp m or_l
instance kind.ImpR m = with_goal m imp_r
instance kind.ImpL m = with_hyp m imp_l
instance kind.Mp m = with_hyp m mp
instance kind.IffR m = with_goal m iff_r
instance kind.IffL m = with_hyp m iff_l
instance kind.NotR m = with_goal m not_r
instance kind.NotL m = with_hyp m not_l
instance kind.Contra m = with_goal m contra
instance kind.AllR m = with_goal m (all_r m.names)
instance (kind.AllL terms) m = with_hyp m (all_l terms)
instance (kind.ExR terms) m = with_goal m (ex_r terms)
instance kind.ExL m = with_hyp m (ex_l m.names)
instance kind.Cut m = with_chosen m cut
instance kind.Cases m = with_chosen m cases
instance kind.Review m = with_goal m (λ g. Some (both g m.hyps []))
instance kind.EqRefl m = with_goal m eq_refl
instance kind.EqGoal m = with_goal m (λ g. with_hyp m (eq_goal g))
instance kind.EqHyp m = with_two m.hyps eq_hyp
instance kind.BoolCases m = with_chosen m bool_cases
instance kind.BoolDiff m = Some (forward (equal true_value false_value ∷ []) [])
instance (kind.RwGoal law place) m = with_goal m (rw_goal law place)
instance (kind.RwHyp law place) m = with_hyp m (rw_hyp law place)
instance (kind.Linear ks) m = with_goal m (linear_step_of ks m.hyps)
instance kind.CardNat m = with_chosen m card_nat
instance kind.FunIn m = with_hyp m (λ h. with_chosen m (fun_in h))
instance kind.FunEq m = with_two m.hyps fun_eq
instance kind.OverOther m = with_goal m (λ g. with_hyp m (over_other g))

-- the hypothesis that the last antecedent adds
abbrev pub last_added : List Antecedent → Option Formula
last_added left = option_and_then (λ a. first a.hyps) (slice_get left (length left - 1))

-- The formula that was chosen for a kind, read from what the last antecedent adds:
-- P, ¬P, E = FALSE, 0 ≤ card(S), f(E) ∈ T.
abbrev pub chosen_in : RuleKind → Formula → Option Formula
chosen_in kind.Cut p = Some p
chosen_in kind.Cases p = operand op.Not p
chosen_in kind.BoolCases p = on_two op.Equal p (λ e f. Some e)
chosen_in kind.CardNat p = on_two op.LessOrEqual p (λ z c. operand op.Cardinality c)
chosen_in kind.FunIn p = on_two op.Member p (λ v t. on_two op.Apply v (λ f e. Some e))
chosen_in _ p = None

-- the names that the first antecedent adds
abbrev pub first_names : List Antecedent → List (List ℕ)
first_names [] = []
first_names (a ∷ left) = map (λ x. x.0) a.idents

-- the main formulas of a rule, read from it
abbrev pub main_of : RuleKind → Body → Main
main_of k b =
    record { goal = b.goal; hyps = b.hyps; names = first_names b.antecedents; chosen = option_and_then (chosen_in k) (last_added b.antecedents) }

-- the rule is the instance of its kind for its main formulas
abbrev pub IsInstance : RuleKind → Body → Type 0
IsInstance k b = instance k (main_of k b) ≡ Some b
