-- What a hint names for a sequent, and is within the limits, fits.
use Rattle.std.proofs.Common.{◌≡◌, ◌∙◌, sym, ap, subst, refl, ℕ, zero, suc, ◌<◌, Bool, true, false, ◌&&◌, List, [], ◌∷◌, length, Option, Some, None, IfSome, if◌then◌else◌, arith}
use Rattle.std.specs.Prelude.{Contains, slice_index_or}
use Rattle.std.specs.List.{AllByRecursion}
use Rattle.std.specs.Option.{option_and_then, option_map, option_or, option_to_list}
use Rattle.formula_core.specs.declared.Formula.{Formula}
use Rattle.formula_core.specs.declared.Ty.TheVariants.{Truth}
use Rattle.formula_core.specs.Same.{same_formula, same_list}
use Rattle.formula_core.specs.Typed.{IsTypedIn, IsPredicateIn}
use Rattle.formula_core.proofs.Keeping.{both as both_lists, all_more}
use Rattle.formula_core.proofs.SameFormulas.{same_formula_exact}
use Rattle.formula_core.proofs.Weakening.{first_true, second_true}
use Rattle.rule_table.specs.declared.kind.RuleKind.{RuleKind}
use Rattle.rule_table.specs.declared.kind.RuleKind.TheVariants as kind
use Rattle.rule_table.specs.declared.rule.Body.{Body}
use Rattle.rule_table.specs.declared.rule.Main.{Main}
use Rattle.rule_table.specs.Linear.{has_linear_form, linear_sum, is_positive_constant}
use Rattle.rule_table.specs.Rows.{instance, both, hyp, contr, and_r, and_l, or_r, or_l, imp_r, imp_l, mp, iff_r, iff_l, not_r, not_l, contra, all_r, all_l, ex_r, ex_l, cut, cases, eq_refl, eq_goal, eq_hyp, bool_cases, rw_goal, rw_hyp, linear_step_of, card_nat, fun_in, fun_eq, over_other, first, with_hyp, with_chosen, with_two}
use Rattle.rule_table.specs.Rules.{needed_formulas, terms_of, rule_of}
use Rattle.sequent_core.specs.declared.hint.Hint.{Hint}
use Rattle.sequent_core.specs.declared.sequent.Sequent.{Sequent}
use Rattle.sequent_core.specs.Sequents.{IsSequent}
use Rattle.rule_making.specs.declared.fault.RuleFault.{RuleFault}
use Rattle.rule_making.specs.declared.fault.RuleFault.TheVariants as fault
use Rattle.rule_making.specs.Make.{AreTerms, FitsAt, IsNamed, IsWithinSizes, first_taken, instance_for, main_for, needing, replaced_types, same_goal, unfit}
use Rattle.rule_making.proofs.Reread.{named_is_instance}
use Rattle.made_rules.proofs.Typed.{Env, Is}
use Rattle.made_rules.proofs.Fitting.{IsLeftIn, sound, used_stand}
use Rattle.made_rules.proofs.Hints.{terms_typed, names_are_new, main_goal, main_hyps, main_names, main_chosen, replaced_carried, kind_terms}
use Rattle.made_rules.proofs.Instances.{at_some, predicate_is, plain_left, goal_row, hyp_row, chosen_row, and_r_is, and_l_is, or_r_is, or_l_is, imp_r_is, imp_l_is, mp_is, iff_r_is, iff_l_is, not_r_is, not_l_is, contra_is, all_l_is, ex_r_is, cut_is, cases_is, bool_cases_is}
use Rattle.made_rules.proofs.NewNames.{AreNew, all_r_is, ex_l_is}
use Rattle.made_rules.proofs.Operands.{test_if, some}
use Rattle.made_rules.proofs.SetRows.{eq_refl_is, eq_goal_is, eq_hyp_is, rw_goal_is, rw_hyp_is, card_nat_is, fun_in_is, fun_eq_is, over_other_is}

-- the main formulas of a kind are typed, and its names are new
pub record IsMainIn (env : Env) (k : RuleKind) (m : Main) : Type 0 where
  pub goal : IfSome m.goal (IsPredicateIn env)
  pub hyps : AllByRecursion (IsPredicateIn env) m.hyps
  pub chosen : IfSome m.chosen (IsTypedIn env)
  pub names : AreNew env m.names
  pub terms : AllByRecursion (IsTypedIn env) (terms_of k)

more : {X : Type 0} {P Q : X → Type 0} (o : Option X) → IfSome o P → ((x : X) → P x → Q x) → IfSome o Q
more None h f = tt
more (Some x) h f = f x h

module _ (env : Env) where
  abbrev Left : Body → Type 0
  Left = IsLeftIn env

  -- what an instance leaves, where it needs the hypotheses that were named
  abbrev LeftOf : Main → Body → Type 0
  LeftOf m b = b.hyps ≡ m.hyps → Left b

  weaker : (m : Main) (o : Option Body) → IfSome o Left → IfSome o (LeftOf m)
  weaker m None h = tt
  weaker m (Some b) h = λ e. h

  two_rows : (hs : List Formula) → AllByRecursion (IsPredicateIn env) hs → (make : Formula → Formula → Option Body)
      → ((f g : Formula) → Is env [] Truth f → Is env [] Truth g → IfSome (make f g) Left) → IfSome (with_two hs make) Left
  two_rows [] h make k = tt
  two_rows (f ∷ []) h make k = tt
  two_rows (f ∷ g ∷ rest) h make k = k f g (predicate_is env f h.0) (predicate_is env g h.1.0)

  row : (k : RuleKind) (m : Main) → IsMainIn env k m → IfSome (instance k m) (LeftOf m)
  row kind.Hyp m i = weaker m (instance kind.Hyp m) (goal_row env m hyp i.goal (λ g k. plain_left env _ tt))
  row kind.Contr m i = weaker m (instance kind.Contr m) (hyp_row env m contr i.hyps (λ f k. plain_left env _ tt))
  row kind.AndR m i = weaker m (instance kind.AndR m) (goal_row env m and_r i.goal (λ g k. and_r_is env g k))
  row kind.AndL m i = weaker m (instance kind.AndL m) (hyp_row env m and_l i.hyps (λ f k. and_l_is env f k))
  row kind.OrR m i = weaker m (instance kind.OrR m) (goal_row env m or_r i.goal (λ g k. or_r_is env g k))
  row kind.OrL m i = weaker m (instance kind.OrL m) (hyp_row env m or_l i.hyps (λ f k. or_l_is env f k))
  row kind.ImpR m i = weaker m (instance kind.ImpR m) (goal_row env m imp_r i.goal (λ g k. imp_r_is env g k))
  row kind.ImpL m i = weaker m (instance kind.ImpL m) (hyp_row env m imp_l i.hyps (λ f k. imp_l_is env f k))
  row kind.Mp m i = weaker m (instance kind.Mp m) (hyp_row env m mp i.hyps (λ f k. mp_is env f k))
  row kind.IffR m i = weaker m (instance kind.IffR m) (goal_row env m iff_r i.goal (λ g k. iff_r_is env g k))
  row kind.IffL m i = weaker m (instance kind.IffL m) (hyp_row env m iff_l i.hyps (λ f k. iff_l_is env f k))
  row kind.NotR m i = weaker m (instance kind.NotR m) (goal_row env m not_r i.goal (λ g k. not_r_is env g k))
  row kind.NotL m i = weaker m (instance kind.NotL m) (hyp_row env m not_l i.hyps (λ f k. not_l_is env f k))
  row kind.Contra m i = weaker m (instance kind.Contra m) (goal_row env m contra i.goal (λ g k. contra_is env g k))
  row kind.AllR m i = weaker m (instance kind.AllR m) (goal_row env m (all_r m.names) i.goal (λ g k. all_r_is env m.names i.names g k))
  row (kind.AllL terms) m i = weaker m (instance (kind.AllL terms) m) (hyp_row env m (all_l terms) i.hyps (λ f k. all_l_is env f k terms i.terms))
  row (kind.ExR terms) m i = weaker m (instance (kind.ExR terms) m) (goal_row env m (ex_r terms) i.goal (λ g k. ex_r_is env g k terms i.terms))
  row kind.ExL m i = weaker m (instance kind.ExL m) (hyp_row env m (ex_l m.names) i.hyps (λ f k. ex_l_is env m.names i.names f k))
  row kind.Cut m i = weaker m (instance kind.Cut m) (chosen_row env m cut i.chosen (λ f k. cut_is env f k))
  row kind.Cases m i = weaker m (instance kind.Cases m) (chosen_row env m cases i.chosen (λ f k. cases_is env f k))
  row kind.Review m i = weaker m (instance kind.Review m) (goal_row env m (λ g. Some (both g m.hyps [])) i.goal (λ g k. plain_left env _ tt))
  row kind.EqRefl m i = weaker m (instance kind.EqRefl m) (goal_row env m eq_refl i.goal (λ g k. eq_refl_is env g k))
  row kind.BoolCases m i = weaker m (instance kind.BoolCases m) (chosen_row env m bool_cases i.chosen (λ f k. bool_cases_is env f k))
  row (kind.RwGoal law place) m i = weaker m (instance (kind.RwGoal law place) m) (goal_row env m (rw_goal law place) i.goal (λ g k. rw_goal_is env law place g k))
  row (kind.RwHyp law place) m i = weaker m (instance (kind.RwHyp law place) m) (hyp_row env m (rw_hyp law place) i.hyps (λ f k. rw_hyp_is env law place f k))
  row (kind.Linear ks) m i = weaker m (instance (kind.Linear ks) m) (goal_row env m (linear_step_of ks m.hyps) i.goal (λ g k. test_if Left (has_linear_form g m.hyps ks && is_positive_constant (linear_sum g m.hyps ks)) (both g m.hyps []) (λ c. plain_left env _ tt)))
  row kind.CardNat m i = weaker m (instance kind.CardNat m) (chosen_row env m card_nat i.chosen (λ f k. card_nat_is env f k))
  row kind.Top m i = λ e. plain_left env _ tt
  row kind.Bot m i = λ e. plain_left env _ tt
  row kind.BoolDiff m i = λ e. plain_left env _ tt
  row kind.EqGoal m i = weaker m (instance kind.EqGoal m) (goal_row env m (λ g. with_hyp m (eq_goal g)) i.goal (λ g k. hyp_row env m (eq_goal g) i.hyps (λ f l. eq_goal_is env g f k l)))
  row kind.OverOther m i = weaker m (instance kind.OverOther m) (goal_row env m (λ g. with_hyp m (over_other g)) i.goal (λ g k. hyp_row env m (over_other g) i.hyps (λ f l. over_other_is env g f k l)))
  row kind.FunIn m i = weaker m (instance kind.FunIn m) (hyp_row env m (λ f. with_chosen m (fun_in f)) i.hyps (λ f k. chosen_row env m (fun_in f) i.chosen (λ e l. fun_in_is env f e k l)))
  row kind.EqHyp m i = weaker m (instance kind.EqHyp m) (two_rows m.hyps i.hyps eq_hyp (λ f g k l. eq_hyp_is env f g k l))
  row kind.FunEq m i = first_two m.hyps refl
    where
      first_two : (hs : List Formula) → m.hyps ≡ hs → IfSome (with_two hs fun_eq) (λ b. b.hyps ≡ m.hyps → Left b)
      first_two [] z = tt
      first_two (f ∷ []) z = tt
      first_two (f ∷ g ∷ rest) z =
          let all = subst (AllByRecursion (IsPredicateIn env)) z i.hyps in
          more (fun_eq f g) (fun_eq_is env f g (predicate_is env f all.0) (predicate_is env g all.1.0)) (λ b k e. k (g ∷ rest) (e ∙ z))

-- what the names and the needed formulas are
same_goal_exact : (o p : Option Formula) → same_goal o p ≡ true → o ≡ p
same_goal_exact None None e = refl
same_goal_exact None (Some g) e = absurd (cc)
same_goal_exact (Some f) None e = absurd (cc)
same_goal_exact (Some f) (Some g) e = ap Some (same_formula_exact f g e)

same_hyps_exact : (xs ys : List Formula) → same_list same_formula xs ys ≡ true → xs ≡ ys
same_hyps_exact [] [] e = refl
same_hyps_exact [] (y ∷ ys) e = absurd (cc)
same_hyps_exact (x ∷ xs) [] e = absurd (cc)
same_hyps_exact (x ∷ xs) (y ∷ ys) e =
    λ i. same_formula_exact x y (first_true (same_formula x y) _ e) i ∷ same_hyps_exact xs ys (second_true (same_formula x y) _ e) i

-- what is named is an instance that needs what was named
record Needs (k : RuleKind) (m : Main) (b : Body) : Type 0 where
  made : instance k m ≡ Some b
  goal : b.goal ≡ m.goal
  hyps : b.hyps ≡ m.hyps

needs : (k : RuleKind) (m : Main) (b : Body) → instance_for k m ≡ Some b → Needs k m b
unfolding instance_for
needs k m b e = go (instance k m) refl e
  where
    test : (a : Body) (c : Bool) → instance k m ≡ Some a → (same_goal a.goal m.goal && same_list same_formula a.hyps m.hyps) ≡ c → (if c then Some a else None) ≡ Some b → Needs k m b
    test a true i t e =
        let same : a ≡ b = some a b e in
        record {
          made = i ∙ e;
          goal = ap (λ x. x.goal) (sym same) ∙ same_goal_exact a.goal m.goal (first_true _ _ t);
          hyps = ap (λ x. x.hyps) (sym same) ∙ same_hyps_exact a.hyps m.hyps (second_true (same_goal a.goal m.goal) _ t);
        }
    test a false i t e = absurd (cc)

    go : (o : Option Body) → instance k m ≡ o → option_and_then (needing m) o ≡ Some b → Needs k m b
    go None i e = absurd (cc)
    go (Some a) i e = test a (same_goal a.goal m.goal && same_list same_formula a.hyps m.hyps) i refl e

module _ {X : Type 0} (P : X → Type 0) where
  at_index : (xs : List X) (i : ℕ) (x : X) → AllByRecursion P xs → i < length xs → slice_index_or xs i x ≡ x → P x
  at_index [] i x all lt e = absurd (omega (arith, lt))
  at_index (y ∷ xs) zero x all lt e = subst P e all.0
  at_index (y ∷ xs) (suc i) x all lt e = at_index xs i x all.1 (omega (arith, lt)) e

  of_all : (xs : List X) (x : X) → AllByRecursion P xs → Contains xs x → P x
  of_all xs x all h = at_index xs h.0 x all h.1 h.2

-- no name is taken, where nothing stands against what is named
none_first : (o : Option (List ℕ)) (rest : Option RuleFault) → option_or (option_map fault.NotFresh o) rest ≡ None → o ≡ None
none_first None rest e = refl
none_first (Some x) rest e = absurd (cc)

module _ (n : ℕ) (h : Hint) (s : Sequent) (terms : List Formula) where
  untaken : unfit n h terms s ≡ None → first_taken s.env [] h.names ≡ None
  unfolding unfit
  untaken e = none_first (first_taken s.env [] h.names) _ e

  module _ (is : IsSequent s) (are : AreTerms s.env (replaced_types n h s) h.terms terms) (k : RuleKind) (b : Body) (named : IsNamed n h terms s k b) (sizes : IsWithinSizes k b) where
    abbrev m : Main
    m = main_for n h terms s

    of_hyps : (f : Formula) → Contains s.hyps f → IsPredicateIn s.env f
    of_hyps f c = of_all (IsPredicateIn s.env) s.hyps f is.hyps c

    typed : AllByRecursion (IsTypedIn s.env) terms
    typed = terms_typed s.env is.env.carriers (replaced_types n h s) (replaced_carried s is of_hyps n h) h.terms terms are

    first_typed : (fs : List Formula) → AllByRecursion (IsTypedIn s.env) fs → IfSome (first fs) (IsTypedIn s.env)
    first_typed [] t = tt
    first_typed (f ∷ fs) t = t.0

    main : IsMainIn s.env k m
    main = record {
      goal = more m.goal (main_goal s n h terms) (λ g e. subst (IsPredicateIn s.env) (sym e) is.goal);
      hyps = all_more (Contains s.hyps) (IsPredicateIn s.env) of_hyps m.hyps (main_hyps s n h terms);
      chosen = subst (λ o. IfSome o (IsTypedIn s.env)) (sym (main_chosen s n h terms)) (first_typed terms typed);
      names = subst (AreNew s.env) (sym (main_names s n h terms)) (names_are_new s.env h.names (untaken named.fit));
      terms = kind_terms (IsTypedIn s.env) h terms typed n k named.kind;
    }

    of_kind : instance_for k m ≡ Some b
    of_kind = ap (option_and_then (λ x. instance_for x m)) (sym named.kind) ∙ named.body

    need : Needs k m b
    need = needs k m b of_kind

    left : IsLeftIn s.env b
    left = at_some (LeftOf s.env m) (instance k m) b (row s.env k m main) need.made need.hyps

    as_list : (o : Option Formula) → IfSome o (IsPredicateIn s.env) → AllByRecursion (IsPredicateIn s.env) (option_to_list o)
    as_list None t = tt
    as_list (Some f) t = (t, tt)

    needed : AllByRecursion (IsPredicateIn s.env) (needed_formulas b)
    needed = both_lists (IsPredicateIn s.env) (option_to_list b.goal) b.hyps
        (subst (λ o. AllByRecursion (IsPredicateIn s.env) (option_to_list o)) (sym need.goal) (as_list m.goal main.goal))
        (subst (AllByRecursion (IsPredicateIn s.env)) (sym need.hyps) main.hyps)

    pub fits : FitsAt (rule_of k b) s
    fits = record {
      rule = record {
        instance = named_is_instance k m b of_kind;
        sound = sound s.env k b left needed main.terms sizes.0 sizes.1;
        used = refl;
      };
      meets = record {
        goal = subst (λ o. IfSome o (λ g. g ≡ s.goal)) (sym need.goal) (main_goal s n h terms);
        hyps = subst (AllByRecursion (Contains s.hyps)) (sym need.hyps) (main_hyps s n h terms);
        used = used_stand s.env k b left needed main.terms sizes.0 sizes.1;
      };
      children = refl;
      fresh = left.fresh;
    }
