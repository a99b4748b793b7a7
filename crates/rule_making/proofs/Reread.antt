-- A body that was made from main formulas is made again from what is read of it.
use Rattle.std.proofs.Common.{◌≡◌, ◌∙◌, sym, ap, refl, ℕ, Bool, true, false, ◌&&◌, ◌==◌, ◌-◌, List, [], ◌∷◌, map, zip, length, slice_get, Option, Some, None, IsTrue, if◌then◌else◌, arith}
use Rattle.std.specs.Option.{option_map, option_and_then}
use Rattle.std.proofs.lemmas.Bool.{eqb-true, eq-eqb}
use Rattle.formula_core.specs.declared.op.Op.{Op}
use Rattle.formula_core.specs.declared.op.Op.TheVariants as op
use Rattle.formula_core.specs.declared.op.Binder.TheVariants.{ForAll, Exists}
use Rattle.formula_core.specs.declared.ty.Ty.{Ty}
use Rattle.formula_core.specs.declared.ty.Ty.TheVariants as ty
use Rattle.formula_core.specs.declared.ty.Ty.TheVariants.{Truth}
use Rattle.formula_core.specs.declared.formula.Formula.{Formula}
use Rattle.formula_core.specs.declared.formula.Formula.TheVariants as formula
use Rattle.formula_core.specs.declared.formula.Formula.TheViews.{outs-Node}
use Rattle.formula_core.specs.Numbers.{number_of}
use Rattle.formula_core.specs.Same.{same_formula, same_list}
use Rattle.formula_core.specs.Types.{is_truth, is_boolean, members, relation, same_type}
use Rattle.formula_core.specs.Wellness.{type_of}
use Rattle.formula_core.proofs.SameFormulas.{same_formula_exact}
use Rattle.formula_core.proofs.Weakening.{first_true, second_true}
use Rattle.well_defined.specs.Predicates.{at_most, domain, finite, member, zero}
use Rattle.well_defined.specs.Connectives.{is_top}
use Rattle.well_defined.specs.Conditions.{wd_of}
use Rattle.rule_table.specs.declared.rule.Antecedent.{Antecedent}
use Rattle.rule_table.specs.declared.rule.Body.{Body}
use Rattle.rule_table.specs.declared.rule.Main.{Main}
use Rattle.rule_table.specs.declared.kind.RuleKind.{RuleKind}
use Rattle.rule_table.specs.declared.kind.RuleKind.TheVariants as kind
use Rattle.rule_table.specs.Shapes.{operands, operands_at, operand, one_of, two_of, on_two, one_bound, negation, equal, true_value, false_value, applied, cardinality}
use Rattle.rule_table.specs.Rows.{IsInstance, instance, main_of, first_names, last_added, chosen_in, named, backward, forward, new_goal, new_hyp, all_r, ex_l, cut, cases, bool_cases, card_nat, fun_in, function_in, after_condition, proves, adds, first}
use Rattle.rule_making.specs.Make.{instance_for, needing, same_goal}

some : {X : Type 0} (x y : X) → Some x ≡ Some y → x ≡ y
some x y e = cc

then_some : {X Y : Type 0} (o : Option X) (make : X → Option Y) (y : Y) → option_and_then make o ≡ Some y → (x : X) × (o ≡ Some x) × (make x ≡ Some y)
then_some None make y e = absurd (cc)
then_some (Some x) make y e = (x, refl, e)

where_true : {X : Type 0} (b : Bool) (x y : X) → (if b then Some x else None) ≡ Some y → x ≡ y
where_true false x y e = absurd (cc)
where_true true x y e = some x y e

-- names
zip_first : (names : List (List ℕ)) (types : List Ty) → (length names == length types) ≡ true → map (λ x. x.0) (zip names types) ≡ names
zip_first [] types h = refl
zip_first (x ∷ names) [] h = absurd (omega (arith, eqb-true (length (x ∷ names)) 0 h))
zip_first (x ∷ names) (t ∷ types) h =
    ap (λ xs. x ∷ xs) (zip_first names types (eq-eqb (length names) (length types) (omega (arith, eqb-true (length (x ∷ names)) (length (t ∷ types)) h))))

names_with : (make : List (List ℕ × Ty) → Body) → ((ids : List (List ℕ × Ty)) → first_names (make ids).antecedents ≡ map (λ x. x.0) ids)
    → (names : List (List ℕ)) (types : List Ty) (b : Body) (c : Bool) → (length names == length types) ≡ c
    → option_map make (if c then Some (zip names types) else None) ≡ Some b → first_names b.antecedents ≡ names
names_with make read names types b false h e = absurd (cc)
names_with make read names types b true h e =
    ap (λ x. first_names x.antecedents) (sym (some (make (zip names types)) b e)) ∙ read (zip names types) ∙ zip_first names types h

names_of_all : (names : List (List ℕ)) (g : Formula) (b : Body) → all_r names g ≡ Some b → first_names b.antecedents ≡ names
unfolding named
names_of_all names g b e =
    let w = then_some (one_bound ForAll g) (λ t. option_map (λ ids. backward g (new_goal ids t.1 ∷ [])) (named names t.0)) b e in
    names_with (λ ids. backward g (new_goal ids w.0.1 ∷ [])) (λ ids. refl) names w.0.0 b (length names == length w.0.0) refl w.2

names_of_some : (names : List (List ℕ)) (h : Formula) (b : Body) → ex_l names h ≡ Some b → first_names b.antecedents ≡ names
unfolding named
names_of_some names h b e =
    let w = then_some (one_bound Exists h) (λ t. option_map (λ ids. forward (h ∷ []) (new_hyp ids t.1 ∷ [])) (named names t.0)) b e in
    names_with (λ ids. forward (h ∷ []) (new_hyp ids w.0.1 ∷ [])) (λ ids. refl) names w.0.0 b (length names == length w.0.0) refl w.2

-- the chosen formula
last_of_two : (l : Formula) (a : Antecedent) (p : Formula) → last_added (after_condition l (a ∷ adds (p ∷ []) ∷ [])) ≡ Some p
last_of_two l a p = by_case (is_top l) where
  by_case : (c : Bool) → last_added (if c then a ∷ adds (p ∷ []) ∷ [] else proves l ∷ a ∷ adds (p ∷ []) ∷ []) ≡ Some p
  by_case true = refl
  by_case false = refl

read_last : (hyps : List Formula) (l : Formula) (a : Antecedent) (p : Formula) (b : Body)
    → forward hyps (after_condition l (a ∷ adds (p ∷ []) ∷ [])) ≡ b → last_added b.antecedents ≡ Some p
read_last hyps l a p b e = ap (λ x. last_added x.antecedents) (sym e) ∙ last_of_two l a p

same_number : (o : Op) → (number_of o == number_of o) ≡ true
same_number o = eq-eqb (number_of o) (number_of o) refl

read_operands : (o : Op) (parts : List Formula) (t : Ty) → operands o (formula.Node o parts t) ≡ Some parts
read_operands o parts t = ap (operands_at o) (outs-Node o parts t) ∙ ap (λ c. if c then Some parts else None) (same_number o)

chosen_by_cut : (p : Formula) (b : Body) → cut p ≡ Some b → option_and_then (chosen_in kind.Cut) (last_added b.antecedents) ≡ Some p
chosen_by_cut p b e = ap (option_and_then (chosen_in kind.Cut))
    (read_last [] (wd_of p) (proves p) p b (where_true (is_truth (type_of p)) _ b e))

chosen_by_cases : (p : Formula) (b : Body) → cases p ≡ Some b → option_and_then (chosen_in kind.Cases) (last_added b.antecedents) ≡ Some p
chosen_by_cases p b e = ap (option_and_then (chosen_in kind.Cases))
    (read_last [] (wd_of p) (adds (p ∷ [])) (negation p) b (where_true (is_truth (type_of p)) _ b e))
    ∙ ap (option_and_then one_of) (read_operands op.Not (p ∷ []) Truth)

chosen_by_bool_cases : (x : Formula) (b : Body) → bool_cases x ≡ Some b → option_and_then (chosen_in kind.BoolCases) (last_added b.antecedents) ≡ Some x
chosen_by_bool_cases x b e = ap (option_and_then (chosen_in kind.BoolCases))
    (read_last [] (wd_of x) (adds (equal x true_value ∷ [])) (equal x false_value) b (where_true (is_boolean (type_of x)) _ b e))
    ∙ ap (λ o. option_and_then (λ y. Some y.0) (option_and_then two_of o)) (read_operands op.Equal (x ∷ false_value ∷ []) Truth)

chosen_by_card_nat : (x : Formula) (b : Body) → card_nat x ≡ Some b → option_and_then (chosen_in kind.CardNat) (last_added b.antecedents) ≡ Some x
chosen_by_card_nat x b e =
    let w = then_some (members (type_of x)) (λ α. Some (forward [] (after_condition (wd_of x) (proves (finite x) ∷ adds (at_most zero (cardinality x) ∷ []) ∷ [])))) b e in
    ap (option_and_then (chosen_in kind.CardNat))
    (read_last [] (wd_of x) (proves (finite x)) (at_most zero (cardinality x)) b (some _ b w.2))
    ∙ ap (λ o. option_and_then (λ y. operand op.Cardinality y.1) (option_and_then two_of o)) (read_operands op.LessOrEqual (zero ∷ cardinality x ∷ []) Truth)
    ∙ ap (option_and_then one_of) (read_operands op.Cardinality (x ∷ []) ty.Int)

chosen_by_fun_in : (h x : Formula) (b : Body) → fun_in h x ≡ Some b → option_and_then (chosen_in kind.FunIn) (last_added b.antecedents) ≡ Some x
chosen_by_fun_in h x b e =
    let w = then_some (function_in h) (λ f. option_and_then (λ t. made f t.0 t.1) (relation (type_of f.0))) b e in
    let v = then_some (relation (type_of w.0.0)) (λ t. made w.0 t.0 t.1) b w.2 in
    ap (option_and_then (chosen_in kind.FunIn))
    (read_last (h ∷ []) (wd_of x) (proves (member x (domain w.0.0 v.0.0))) (member (applied w.0.0 x v.0.1) w.0.1) b (where_true (same_type (type_of x) v.0.0) _ b v.2))
    ∙ ap (λ o. option_and_then (λ y. on_two op.Apply y.0 (λ f a. Some a)) (option_and_then two_of o)) (read_operands op.Member (applied w.0.0 x v.0.1 ∷ w.0.1 ∷ []) Truth)
    ∙ ap (λ o. option_and_then (λ y. Some y.1) (option_and_then two_of o)) (read_operands op.Apply (w.0.0 ∷ x ∷ []) v.0.1) where
      made : Formula × Formula → Ty → Ty → Option Body
      made f α β = if same_type (type_of x) α
          then Some (forward (h ∷ []) (after_condition (wd_of x) (proves (member x (domain f.0 α)) ∷ adds (member (applied f.0 x β) f.1 ∷ []) ∷ []))) else None

-- the main formulas that a body gives
module _ (m : Main) (b : Body) (g : b.goal ≡ m.goal) (h : b.hyps ≡ m.hyps) where
  abbrev main : List (List ℕ) → Option Formula → Main
  main names chosen = record { goal = m.goal; hyps = m.hyps; names = names; chosen = chosen }

  -- the needed goal and hypotheses are the main ones
  by_needed : (k : RuleKind) → instance k (main (first_names b.antecedents) (option_and_then (chosen_in k) (last_added b.antecedents))) ≡ Some b → IsInstance k b
  by_needed k e = (λ i. instance k (record { goal = g i; hyps = h i; names = first_names b.antecedents; chosen = option_and_then (chosen_in k) (last_added b.antecedents) })) ∙ e

  with_names : (k : RuleKind) → first_names b.antecedents ≡ m.names
      → instance k (main m.names (option_and_then (chosen_in k) (last_added b.antecedents))) ≡ Some b → IsInstance k b
  with_names k n e = by_needed k (ap (λ ns. instance k (main ns (option_and_then (chosen_in k) (last_added b.antecedents)))) n ∙ e)

  with_choice : (k : RuleKind) (x : Formula) → m.chosen ≡ Some x → option_and_then (chosen_in k) (last_added b.antecedents) ≡ Some x
      → instance k (main (first_names b.antecedents) m.chosen) ≡ Some b → IsInstance k b
  with_choice k x c r e = by_needed k (ap (λ o. instance k (main (first_names b.antecedents) o)) (r ∙ sym c) ∙ e)

  pub made_again : (k : RuleKind) → instance k m ≡ Some b → IsInstance k b
  made_again kind.AllR e =
      let w = then_some m.goal (all_r m.names) b e in with_names kind.AllR (names_of_all m.names w.0 b w.2) e
  made_again kind.ExL e =
      let w = then_some (first m.hyps) (ex_l m.names) b e in with_names kind.ExL (names_of_some m.names w.0 b w.2) e
  made_again kind.Cut e =
      let w = then_some m.chosen cut b e in with_choice kind.Cut w.0 w.1 (chosen_by_cut w.0 b w.2) e
  made_again kind.Cases e =
      let w = then_some m.chosen cases b e in with_choice kind.Cases w.0 w.1 (chosen_by_cases w.0 b w.2) e
  made_again kind.BoolCases e =
      let w = then_some m.chosen bool_cases b e in with_choice kind.BoolCases w.0 w.1 (chosen_by_bool_cases w.0 b w.2) e
  made_again kind.CardNat e =
      let w = then_some m.chosen card_nat b e in with_choice kind.CardNat w.0 w.1 (chosen_by_card_nat w.0 b w.2) e
  made_again kind.FunIn e =
      let w = then_some (first m.hyps) (λ x. option_and_then (fun_in x) m.chosen) b e in
      let v = then_some m.chosen (fun_in w.0) b w.2 in with_choice kind.FunIn v.0 v.1 (chosen_by_fun_in w.0 v.0 b v.2) e
  made_again k e = by_needed k e

-- what was named is what is needed
same_goal_exact : (o p : Option Formula) → same_goal o p ≡ true → o ≡ p
same_goal_exact None None e = refl
same_goal_exact None (Some g) e = absurd (cc)
same_goal_exact (Some f) None e = absurd (cc)
same_goal_exact (Some f) (Some g) e = ap Some (same_formula_exact f g e)

same_hyps_exact : (xs ys : List Formula) → same_list same_formula xs ys ≡ true → xs ≡ ys
same_hyps_exact [] [] e = refl
same_hyps_exact [] (y ∷ ys) e = absurd (cc)
same_hyps_exact (x ∷ xs) [] e = absurd (cc)
same_hyps_exact (x ∷ xs) (y ∷ ys) e =
    λ i. same_formula_exact x y (first_true (same_formula x y) (same_list same_formula xs ys) e) i
    ∷ same_hyps_exact xs ys (second_true (same_formula x y) (same_list same_formula xs ys) e) i

of_test : (m : Main) (b a : Body) (c : Bool) → (same_goal b.goal m.goal && same_list same_formula b.hyps m.hyps) ≡ c → (if c then Some b else None) ≡ Some a
    → (b ≡ a) × (b.goal ≡ m.goal) × (b.hyps ≡ m.hyps)
of_test m b a false t e = absurd (cc)
of_test m b a true t e = (
  some b a e,
  same_goal_exact b.goal m.goal (first_true (same_goal b.goal m.goal) (same_list same_formula b.hyps m.hyps) t),
  same_hyps_exact b.hyps m.hyps (second_true (same_goal b.goal m.goal) (same_list same_formula b.hyps m.hyps) t),
)

pub named_is_instance : (k : RuleKind) (m : Main) (b : Body) → instance_for k m ≡ Some b → IsInstance k b
unfolding instance_for
named_is_instance k m b e =
    let w = then_some (instance k m) (needing m) b e in
    let t = of_test m w.0 b (same_goal w.0.goal m.goal && same_list same_formula w.0.hyps m.hyps) refl w.2 in
    made_again m b (ap (λ x. x.goal) (sym t.0) ∙ t.1) (ap (λ x. x.hyps) (sym t.0) ∙ t.2) k (w.1 ∙ ap Some t.0)
