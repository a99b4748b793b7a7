-- A row with a formula for which there is no room.
use Rattle.std.proofs.Common.{◌≡◌, ◌∙◌, ◌⊎◌, inl, inr, sym, ap, refl, subst, ℕ, ◌≤◌, Bool, true, false, not, ◌&&◌, ◌||◌, nat_lt, List, [], ◌∷◌, map, take, Option, Some, None, if◌then◌else◌, arith}
use Rattle.std.proofs.lemmas.Grind.{common_steps}
use Rattle.std.specs.List.{AllByRecursion}
use Rattle.std.specs.Option.{option_and_then, option_map}
use Rattle.formula_core.specs.declared.Formula.{Formula}
use Rattle.formula_core.specs.declared.Ty.{Ty}
use Rattle.formula_core.specs.declared.Binder.TheVariants.{ForAll, Exists}
use Rattle.formula_core.specs.declared.Op.TheVariants as op
use Rattle.formula_core.specs.Formulas.{instantiated, joined}
use Rattle.formula_core.specs.Types.{is_boolean, is_truth, members, relation, same_type}
use Rattle.formula_core.specs.Wellness.{type_of}
use Rattle.well_defined.specs.Connectives.{is_top}
use Rattle.well_defined.specs.Conditions.{wd_of}
use Rattle.condition_size.specs.Sizes.{size_of}
use Rattle.rule_table.specs.declared.rule.Antecedent.{Antecedent}
use Rattle.rule_table.specs.declared.rule.Body.{Body}
use Rattle.rule_table.specs.Rewriting.{replaced, rewritten}
use Rattle.rule_table.specs.Rows.{adds, after_condition, all_l, backward, bool_cases, both, card_nat, cases, cut, eq_goal, eq_hyp, ex_r, first, forward, fun_in, function_in, have_types, proves, rw_goal, rw_hyp, with_two, wd_of_all}
use Rattle.rule_table.specs.Rules.{antecedent_formulas}
use Rattle.rule_table.specs.Shapes.{applied, cardinality, equal, false_value, negation, one_bound, true_value, two_operands}
use Rattle.well_defined.specs.Predicates.{at_most, domain, finite, member, zero}
use Rattle.instance_size.specs.declared.extent.Extent.{Extent}
use Rattle.instance_size.specs.Extents.{HasRoom, extent_of}
use Rattle.instance_size.specs.Growth.{LeavesTooLarge}
use Rattle.instance_size.specs.Private.{GrowsAt, exceeds, first_two, is_excessive}

either : (a b : Bool) → (a || b) ≡ true → (a ≡ true) ⊎ (b ≡ true)
either true b h = inl refl
either false b h = inr h

not_top : (t a : Bool) → (not t && a) ≡ true → t ≡ false
not_top true a h = absurd (cc)
not_top false a h = refl

too_large : (t a : Bool) → (not t && a) ≡ true → a ≡ true
too_large true a h = absurd (cc)
too_large false a h = h

beyond : (m n : ℕ) → nat_lt m n ≡ true → n ≤ m → ⊥
beyond m n h k = grind (arith, common_steps)

module _ (room : Extent) where
  -- the antecedents leave no formula but for which there is room
  abbrev Fit : List Antecedent → Type 0
  Fit left = AllByRecursion (HasRoom room) (joined (map antecedent_formulas left))

  pub no_room : (f : Formula) → exceeds room (extent_of f) ≡ true → HasRoom room f → ⊥
  no_room f h r = elim (either _ _ h) [
    | inl n ↦ beyond _ _ n r.nodes
    | inr n ↦ beyond _ _ n r.height
  ]

  at_condition : (b : Bool) (l : Formula) (rest : List Antecedent) → b ≡ false → Fit (if b then rest else proves l ∷ rest) → HasRoom room l
  at_condition true l rest e a = absurd (cc)
  at_condition false l rest e a = a.0

  pub no_condition : (l : Formula) (rest : List Antecedent) → is_excessive room (size_of l) ≡ true → Fit (after_condition l rest) → ⊥
  no_condition l rest h a = no_room l (too_large _ _ h) (at_condition (is_top l) l rest (not_top _ _ h) a)

  at_added : (b : Bool) (l p : Formula) → Fit (if b then adds (p ∷ []) ∷ [] else proves l ∷ adds (p ∷ []) ∷ []) → HasRoom room p
  at_added true l p a = a.0
  at_added false l p a = a.1.0

  at_proved : (b : Bool) (l p : Formula) → Fit (if b then proves p ∷ [] else proves l ∷ proves p ∷ []) → HasRoom room p
  at_proved true l p a = a.0
  at_proved false l p a = a.1.0

  -- the rows

  pub cut_is : (o : Option Formula) (p : Formula) → o ≡ Some p → is_truth (type_of p) ≡ true → is_excessive room (size_of (wd_of p)) ≡ true
      → LeavesTooLarge room (option_and_then cut o) None []
  cut_is o p e t h =
      let rest = proves p ∷ adds (p ∷ []) ∷ [] in
      subst (λ o. LeavesTooLarge room (option_and_then cut o) None []) (sym e)
      (forward [] (after_condition (wd_of p) rest), ap (λ b. if b then Some (forward [] (after_condition (wd_of p) rest)) else None) t, refl, refl, no_condition (wd_of p) rest h)

  pub cases_are : (o : Option Formula) (p : Formula) → o ≡ Some p → is_truth (type_of p) ≡ true → is_excessive room (size_of (wd_of p)) ≡ true
      → LeavesTooLarge room (option_and_then cases o) None []
  cases_are o p e t h =
      let rest = adds (p ∷ []) ∷ adds (negation p ∷ []) ∷ [] in
      subst (λ o. LeavesTooLarge room (option_and_then cases o) None []) (sym e)
      (forward [] (after_condition (wd_of p) rest), ap (λ b. if b then Some (forward [] (after_condition (wd_of p) rest)) else None) t, refl, refl, no_condition (wd_of p) rest h)

  pub bool_cases_are : (o : Option Formula) (e : Formula) → o ≡ Some e → is_boolean (type_of e) ≡ true → is_excessive room (size_of (wd_of e)) ≡ true
      → LeavesTooLarge room (option_and_then bool_cases o) None []
  bool_cases_are o e is t h =
      let rest = adds (equal e true_value ∷ []) ∷ adds (equal e false_value ∷ []) ∷ [] in
      subst (λ o. LeavesTooLarge room (option_and_then bool_cases o) None []) (sym is)
      (forward [] (after_condition (wd_of e) rest), ap (λ b. if b then Some (forward [] (after_condition (wd_of e) rest)) else None) t, refl, refl, no_condition (wd_of e) rest h)

  pub card_nat_is : (o : Option Formula) (s : Formula) (α : Ty) → o ≡ Some s → members (type_of s) ≡ Some α → is_excessive room (size_of (wd_of s)) ≡ true
      → LeavesTooLarge room (option_and_then card_nat o) None []
  card_nat_is o s α is t h =
      let rest = proves (finite s) ∷ adds (at_most zero (cardinality s) ∷ []) ∷ [] in
      subst (λ o. LeavesTooLarge room (option_and_then card_nat o) None []) (sym is)
      (forward [] (after_condition (wd_of s) rest), ap (option_and_then (λ (α : Ty). Some (forward [] (after_condition (wd_of s) rest)))) t, refl, refl, no_condition (wd_of s) rest h)

  -- with the first hypothesis, and with the first two
  at_first : (make : Formula → Option Body) (hyps : List Formula) (h : Formula) (goal : Option Formula) → first hyps ≡ Some h → LeavesTooLarge room (make h) goal (h ∷ [])
      → LeavesTooLarge room (option_and_then make (first hyps)) goal (take 1 hyps)
  at_first make [] h goal e g = absurd (cc)
  at_first make (k ∷ ks) h goal e g = subst (λ x. LeavesTooLarge room (make x) goal (x ∷ [])) (same h k e) g where
    same : (h k : Formula) → Some k ≡ Some h → h ≡ k
    same h k e = cc

  at_two : (make : Formula → Formula → Option Body) (hyps : List Formula) (h k : Formula) → first_two hyps ≡ Some (h, k) → LeavesTooLarge room (make h k) None (h ∷ k ∷ [])
      → LeavesTooLarge room (with_two hyps make) None (take 2 hyps)
  at_two make [] h k e g = absurd (cc)
  at_two make (a ∷ []) h k e g = absurd (cc)
  at_two make (a ∷ b ∷ rest) h k e g = subst (λ x. LeavesTooLarge room (make x.0 x.1) None (x.0 ∷ x.1 ∷ [])) (same (a, b) (h, k) e) g where
    same : (x y : Formula × Formula) → Some x ≡ Some y → y ≡ x
    same x y e = cc

  abbrev fun_in_at : Formula → Formula → Formula × Formula → Ty × Ty → Body
  fun_in_at h e x r = forward (h ∷ []) (after_condition (wd_of e) (proves (member e (domain x.0 r.0)) ∷ adds (member (applied x.0 e r.1) x.1 ∷ []) ∷ []))

  abbrev fun_in_of : Formula → Formula → Formula × Formula → Option (Ty × Ty) → Option Body
  fun_in_of h e x r = option_and_then (λ t. if same_type (type_of e) t.0 then Some (fun_in_at h e x t) else None) r

  pub fun_in_is : (hyps : List Formula) (o : Option Formula) (h e : Formula) (x : Formula × Formula) (r : Ty × Ty) → first hyps ≡ Some h → o ≡ Some e → function_in h ≡ Some x
      → relation (type_of x.0) ≡ Some r → same_type (type_of e) r.0 ≡ true → is_excessive room (size_of (wd_of e)) ≡ true
      → LeavesTooLarge room (option_and_then (λ h. option_and_then (fun_in h) o) (first hyps)) None (take 1 hyps)
  fun_in_is hyps o h e x r i j f s t n = at_first (λ h. option_and_then (fun_in h) o) hyps h None i
      (subst (λ o. LeavesTooLarge room (option_and_then (fun_in h) o) None (h ∷ [])) (sym j) (
        fun_in_at h e x r,
        ap (option_and_then (λ x. fun_in_of h e x (relation (type_of x.0)))) f ∙ ap (fun_in_of h e x) s ∙ ap (λ b. if b then Some (fun_in_at h e x r) else None) t,
        refl,
        refl,
        no_condition (wd_of e) _ n,
      ))

  abbrev all_l_at : List Formula → Formula → List Ty × Formula → Body
  all_l_at terms h b = forward (h ∷ []) (after_condition (wd_of_all terms) (adds (instantiated terms 0 b.1 ∷ []) ∷ []))

  all_l_of : (terms : List Formula) (h : Formula) (b : List Ty × Formula) → one_bound ForAll h ≡ Some b → have_types terms b.0 ≡ true → all_l terms h ≡ Some (all_l_at terms h b)
  all_l_of terms h b e t =
      ap (option_and_then (λ (b : List Ty × Formula). if have_types terms b.0 then Some (all_l_at terms h b) else None)) e ∙ ap (λ c. if c then Some (all_l_at terms h b) else None) t

  pub all_l_asks : (terms hyps : List Formula) (h : Formula) (b : List Ty × Formula) → first hyps ≡ Some h → one_bound ForAll h ≡ Some b → have_types terms b.0 ≡ true
      → is_excessive room (size_of (wd_of_all terms)) ≡ true → LeavesTooLarge room (option_and_then (all_l terms) (first hyps)) None (take 1 hyps)
  all_l_asks terms hyps h b i e t n = at_first (all_l terms) hyps h None i (all_l_at terms h b, all_l_of terms h b e t, refl, refl, no_condition (wd_of_all terms) _ n)

  pub all_l_adds : (terms hyps : List Formula) (h : Formula) (b : List Ty × Formula) → first hyps ≡ Some h → one_bound ForAll h ≡ Some b → have_types terms b.0 ≡ true
      → exceeds room (extent_of (instantiated terms 0 b.1)) ≡ true → LeavesTooLarge room (option_and_then (all_l terms) (first hyps)) None (take 1 hyps)
  all_l_adds terms hyps h b i e t n = at_first (all_l terms) hyps h None i
      (all_l_at terms h b, all_l_of terms h b e t, refl, refl, λ a. no_room (instantiated terms 0 b.1) n (at_added (is_top (wd_of_all terms)) (wd_of_all terms) (instantiated terms 0 b.1) a))

  abbrev ex_r_at : List Formula → Formula → List Ty × Formula → Body
  ex_r_at terms g b = backward g (after_condition (wd_of_all terms) (proves (instantiated terms 0 b.1) ∷ []))

  ex_r_of : (terms : List Formula) (g : Formula) (b : List Ty × Formula) → one_bound Exists g ≡ Some b → have_types terms b.0 ≡ true → ex_r terms g ≡ Some (ex_r_at terms g b)
  ex_r_of terms g b e t =
      ap (option_and_then (λ (b : List Ty × Formula). if have_types terms b.0 then Some (ex_r_at terms g b) else None)) e ∙ ap (λ c. if c then Some (ex_r_at terms g b) else None) t

  at_goal : (make : Formula → Option Body) (goal : Option Formula) (g : Formula) (hyps : List Formula) → goal ≡ Some g → LeavesTooLarge room (make g) (Some g) hyps
      → LeavesTooLarge room (option_and_then make goal) goal hyps
  at_goal make goal g hyps e n = subst (λ o. LeavesTooLarge room (option_and_then make o) o hyps) (sym e) n

  pub ex_r_asks : (terms : List Formula) (goal : Option Formula) (g : Formula) (b : List Ty × Formula) → goal ≡ Some g → one_bound Exists g ≡ Some b → have_types terms b.0 ≡ true
      → is_excessive room (size_of (wd_of_all terms)) ≡ true → LeavesTooLarge room (option_and_then (ex_r terms) goal) goal []
  ex_r_asks terms goal g b i e t n = at_goal (ex_r terms) goal g [] i (ex_r_at terms g b, ex_r_of terms g b e t, refl, refl, no_condition (wd_of_all terms) _ n)

  pub ex_r_proves : (terms : List Formula) (goal : Option Formula) (g : Formula) (b : List Ty × Formula) → goal ≡ Some g → one_bound Exists g ≡ Some b → have_types terms b.0 ≡ true
      → exceeds room (extent_of (instantiated terms 0 b.1)) ≡ true → LeavesTooLarge room (option_and_then (ex_r terms) goal) goal []
  ex_r_proves terms goal g b i e t n = at_goal (ex_r terms) goal g [] i
      (ex_r_at terms g b, ex_r_of terms g b e t, refl, refl, λ a. no_room (instantiated terms 0 b.1) n (at_proved (is_top (wd_of_all terms)) (wd_of_all terms) (instantiated terms 0 b.1) a))

  abbrev eq_goal_at : Formula → Formula → Formula × Formula → Body
  eq_goal_at g h x = both g (h ∷ []) (proves (replaced x.0 x.1 g) ∷ [])

  pub eq_goal_is : (goal : Option Formula) (hyps : List Formula) (g h : Formula) (x : Formula × Formula) → goal ≡ Some g → first hyps ≡ Some h → two_operands op.Equal h ≡ Some x
      → exceeds room (extent_of (replaced x.0 x.1 g)) ≡ true
      → LeavesTooLarge room (option_and_then (λ g. option_and_then (eq_goal g) (first hyps)) goal) goal (take 1 hyps)
  eq_goal_is goal hyps g h x i j e n = at_goal (λ g. option_and_then (eq_goal g) (first hyps)) goal g (take 1 hyps) i
      (at_first (eq_goal g) hyps h (Some g) j (eq_goal_at g h x, ap (option_and_then (λ x. Some (eq_goal_at g h x))) e, refl, refl, λ a. no_room (replaced x.0 x.1 g) n a.0))

  abbrev eq_hyp_at : Formula → Formula → Formula × Formula → Body
  eq_hyp_at h k x = forward (h ∷ k ∷ []) (adds (replaced x.0 x.1 k ∷ []) ∷ [])

  pub eq_hyp_is : (hyps : List Formula) (h k : Formula) (x : Formula × Formula) → first_two hyps ≡ Some (h, k) → two_operands op.Equal h ≡ Some x
      → exceeds room (extent_of (replaced x.0 x.1 k)) ≡ true → LeavesTooLarge room (with_two hyps eq_hyp) None (take 2 hyps)
  eq_hyp_is hyps h k x i e n = at_two eq_hyp hyps h k i
      (eq_hyp_at h k x, ap (option_and_then (λ x. Some (eq_hyp_at h k x))) e, refl, refl, λ a. no_room (replaced x.0 x.1 k) n a.0)

  abbrev rw_goal_at : Formula → Formula → Body
  rw_goal_at g new = backward g (proves new ∷ [])

  pub rw_goal_is : (number : ℕ) (place : List ℕ) (goal : Option Formula) (g : Formula) → goal ≡ Some g → GrowsAt room number place g
      → LeavesTooLarge room (option_and_then (rw_goal number place) goal) goal []
  rw_goal_is number place goal g i n = at_goal (rw_goal number place) goal g [] i
      (rw_goal_at g n.1, ap (option_and_then (λ law. option_map (rw_goal_at g) (rewritten law place g))) n.2 ∙ ap (option_map (rw_goal_at g)) n.3, refl, refl, λ a. n.4 a.0)

  abbrev rw_hyp_at : Formula → Formula → Body
  rw_hyp_at h new = forward (h ∷ []) (adds (new ∷ []) ∷ [])

  pub rw_hyp_is : (number : ℕ) (place : List ℕ) (hyps : List Formula) (h : Formula) → first hyps ≡ Some h → GrowsAt room number place h
      → LeavesTooLarge room (option_and_then (rw_hyp number place) (first hyps)) None (take 1 hyps)
  rw_hyp_is number place hyps h i n = at_first (rw_hyp number place) hyps h None i
      (rw_hyp_at h n.1, ap (option_and_then (λ law. option_map (rw_hyp_at h) (rewritten law place h))) n.2 ∙ ap (option_map (rw_hyp_at h)) n.3, refl, refl, λ a. n.4 a.0)
