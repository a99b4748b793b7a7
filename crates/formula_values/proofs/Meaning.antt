-- The equations of `Means`, one for each variant.
use Rattle.std.proofs.Common.{◌≡◌, ◌∙◌, ap, sym, refl, ℕ, ℤ, List, [], ◌∷◌, ◌++◌, map, length}
use Rattle.std.proofs.Common.{subst, inl, inr, ◌+◌, ◌<◌, ◌≤◌, drop, get_or}
use Rattle.std.proofs.lemmas.List.{drop_more}
use Rattle.std.proofs.Math.ListN.{drop_of_length-le}
use Rattle.std.specs.Prelude.{◌⊎◌, ◌↔◌, IsTrue, Bool, true, false, Option, Some, None, MatchOption, Result, Ok, Err, ⊤}
use Rattle.formula_core.specs.declared.op.Op.{Op}
use Rattle.formula_core.specs.declared.op.Op.TheVariants as op
use Rattle.formula_core.specs.declared.op.Binder.{Binder}
use Rattle.formula_core.specs.declared.ty.Ty.{Ty}
use Rattle.formula_core.specs.declared.formula.Formula.{Formula, out-Formula}
use Rattle.formula_core.specs.declared.formula.Formula.TheOpen.{Formula-F, Int as IntF, Free as FreeF, Bound as BoundF, Node as NodeF, Bind as BindF}
use Rattle.formula_core.specs.declared.formula.Formula.TheVariants.{Int, Free, Bound, Node, Bind}
use Rattle.formula_core.specs.declared.formula.Formula.TheViews.{roll-Formula, rolls-Int, rolls-Free, rolls-Bound, rolls-Node, rolls-Bind}
use Rattle.formula_core.specs.declared.formula.Formula.TheFolds.{map-Formula, rec-roll-Formula}
use Rattle.event_values.specs.declared.value.Value.{Value}
use Rattle.formula_values.specs.declared.values.Values.{Values}
use Rattle.value_sets.specs.declared.fault.ValueFault.{ValueFault}
use Rattle.event_values.specs.declared.value.Value.TheVariants as value
use Rattle.value_sets.specs.declared.fault.ValueFault.TheVariants.{NotComputed, OutOfMemory}
use Rattle.formula_values.specs.Means.{Means, MeansStep, NodeMeans, IsConnected, IsMember, IsNamed, is_carrier, TwoMean, IsNotComputed, least_at, AllMean, ByOperands, Gives, GivesMany, after_first, truth_of, decided}
use Rattle.formula_values.specs.Private.{after_all, Leads, is_connective, is_member, second_least, BindMeans, IsFrom}
use Rattle.value_sets.specs.Sets.{integer_of, IsTold}

pub ok_is_no_err : {A : Type 0} {v : A} {fault : ValueFault} → Ok v ≡ Err fault → ⊥
ok_is_no_err {A} {v} {fault} e = subst is_ok e tt
  where
    is_ok : Result A ValueFault → Type 0
    is_ok (Ok x) = ⊤
    is_ok (Err x) = ⊥

same_fault : {A B : Type 0} {fault other : ValueFault} → ◌≡◌ {A = Result A ValueFault} (Err fault) (Err other) → ◌≡◌ {A = Result B ValueFault} (Err fault) (Err other)
same_fault {A} {B} e = ap again e
  where
    again : Result A ValueFault → Result B ValueFault
    again (Ok x) = Err OutOfMemory
    again (Err x) = Err x

-- what is handed on
pub whole : (P : Result Value ValueFault → Type 0) (x answer : Result Value ValueFault) → IsTold (λ r. r ≡ x) answer → IsTold P x → IsTold P answer
whole P x answer (inl e) m = inl e
whole P x answer (inr e) m = subst (IsTold P) (sym e) m

pub ruleset wholes = (whole)

-- what a form means is of its parts as formulas alone
module _ (X : Type 0) (v : X → Formula) (k : Formula → Result Value ValueFault → Type 0) where
  all_natural : (ps : List X) → AllMean v (λ p. k (v p)) ps ≡ AllMean (λ f. f) k (map v ps)
  all_natural [] = refl
  all_natural (p ∷ ps) = λ i answer.
      ((fault : ValueFault) × k (v p) (Err fault) × (answer ≡ Err fault))
      ⊎ ((w : Value) × k (v p) (Ok w) × (rest : Result (List Value) ValueFault) × all_natural ps i rest × (answer ≡ after_first w rest))

  by_natural : (o : Op) (ps : List X) → ByOperands v (λ p. k (v p)) o ps ≡ ByOperands (λ f. f) k o (map v ps)
  by_natural o ps = λ i answer. (vs : Result (List Value) ValueFault) × all_natural ps i vs × Gives o vs answer

  member_natural : (least : Option (Option ℤ)) (p q : X) → IsMember v (λ x. k (v x)) least p q ≡ IsMember (λ f. f) k least (v p) (v q)
  member_natural None p q = by_natural op.Member (p ∷ q ∷ [])
  member_natural (Some least) p q = refl

  two_natural : (o : Op) (p q : X) → TwoMean v (λ x. k (v x)) o p q ≡ TwoMean (λ f. f) k o (v p) (v q)
  two_natural op.And p q = refl
  two_natural op.Or p q = refl
  two_natural op.Implies p q = refl
  two_natural op.Member p q = member_natural (least_at (out-Formula (v q))) p q
  two_natural o p q = by_natural o (p ∷ q ∷ [])

  node_natural : (o : Op) (ps : List X) → NodeMeans v (λ p. k (v p)) o ps ≡ NodeMeans (λ f. f) k o (map v ps)
  node_natural o [] = by_natural o []
  node_natural o (p ∷ []) = by_natural o (p ∷ [])
  node_natural o (p ∷ q ∷ []) = two_natural o p q
  node_natural o (p ∷ q ∷ r ∷ ps) = by_natural o (p ∷ q ∷ r ∷ ps)

  step_natural : (values : Values) (x : Formula-F X) → MeansStep values X v (λ p. k (v p)) x ≡ MeansStep values Formula (λ y. y) k (map-Formula X Formula v x)
  step_natural values (IntF n) = refl
  step_natural values (FreeF name t) = refl
  step_natural values (BoundF at t) = refl
  step_natural values (NodeF o parts t) = node_natural o parts
  step_natural values (BindF binder types parts t) = λ i answer. (vs : Result (List Value) ValueFault) × all_natural parts i vs × IsNotComputed v (λ p. k (v p)) vs answer

means_at : (values : Values) (x : Formula-F Formula) (f : Formula) → roll-Formula x ≡ f → Means values f ≡ MeansStep values Formula (λ y. y) (Means values) x
means_at values x f e = ap (Means values) (sym e) ∙ rec-roll-Formula (Result Value ValueFault → Type 0) (MeansStep values) (λ X v k y. step_natural X v k values y) x

pub means_node : (values : Values) (o : Op) (parts : List Formula) (t : Ty) → Means values (Node o parts t) ≡ NodeMeans (λ y. y) (Means values) o parts
means_node values o parts t = means_at values (NodeF o parts t) (Node o parts t) (rolls-Node o parts t)

-- the other variants
pub means_int : (values : Values) (n : ℤ) → Means values (Int n) ≡ MeansStep values Formula (λ y. y) (Means values) (IntF n)
means_int values n = means_at values (IntF n) (Int n) (rolls-Int n)

pub means_bound : (values : Values) (at : ℕ) (t : Ty) → Means values (Bound at t) ≡ MeansStep values Formula (λ y. y) (Means values) (BoundF at t)
means_bound values at t = means_at values (BoundF at t) (Bound at t) (rolls-Bound at t)

pub means_free : (values : Values) (name : List ℕ) (t : Ty) → Means values (Free name t) ≡ IsNamed values name (is_carrier name t)
means_free values name t = means_at values (FreeF name t) (Free name t) (rolls-Free name t)

-- as rules for what is told
pub told_free : (values : Values) (name : List ℕ) (t : Ty) (answer : Result Value ValueFault)
    → IsTold (IsNamed values name (is_carrier name t)) answer → IsTold (Means values (Free name t)) answer
told_free values name t answer (inl e) = inl e
told_free values name t answer (inr m) = inr (subst (λ (k : Result Value ValueFault → Type 0). k answer) (sym (means_free values name t)) m)

pub told_int : (values : Values) (n k : ℤ) → k ≡ n → IsTold (Means values (Int n)) (Ok (value.Int k))
told_int values n k e = inr (subst (λ (m : Result Value ValueFault → Type 0). m (Ok (value.Int k))) (sym (means_int values n)) (ap (λ x. Ok (value.Int x)) e))

pub told_bound : (values : Values) (at : ℕ) (t : Ty) → IsTold (Means values (Bound at t)) (Err NotComputed)
told_bound values at t = inr (subst (λ (m : Result Value ValueFault → Type 0). m (Err NotComputed)) (sym (means_bound values at t)) refl)

pub told_node : (values : Values) (o : Op) (parts : List Formula) (t : Ty) (answer : Result Value ValueFault)
    → IsTold (NodeMeans (λ f. f) (Means values) o parts) answer → IsTold (Means values (Node o parts t)) answer
told_node values o parts t answer (inl e) = inl e
told_node values o parts t answer (inr m) = inr (subst (λ (m : Result Value ValueFault → Type 0). m answer) (sym (means_node values o parts t)) m)

pub means_bind : (values : Values) (binder : Binder) (types : List Ty) (parts : List Formula) (t : Ty) → Means values (Bind binder types parts t) ≡ BindMeans (Means values) parts
means_bind values binder types parts t = means_at values (BindF binder types parts t) (Bind binder types parts t) (rolls-Bind binder types parts t)

pub told_bind : (values : Values) (binder : Binder) (types : List Ty) (parts : List Formula) (t : Ty) (answer : Result Value ValueFault)
    → IsTold (BindMeans (Means values) parts) answer → IsTold (Means values (Bind binder types parts t)) answer
told_bind values binder types parts t answer (inl e) = inl e
told_bind values binder types parts t answer (inr m) = inr (subst (λ (k : Result Value ValueFault → Type 0). k answer) (sym (means_bind values binder types parts t)) m)

pub ruleset variants = (told_int, told_free, told_bound, told_node, told_bind)

module _ (means : Formula → Result Value ValueFault → Type 0) where
  pub told_left : (o : Op) (p q : Formula) (fault : ValueFault) → IsTold (means p) (Err fault) → IsTold (IsConnected (λ f. f) means o p q) (Err fault)
  told_left o p q fault (inl e) = inl e
  told_left o p q fault (inr m) = inr (inl (fault, m, refl))

  pub told_decided : (o : Op) (p q : Formula) (v : Value) (b : Bool) → IsTold (means p) (Ok v) → decided o (truth_of v) ≡ Some b
      → IsTold (IsConnected (λ f. f) means o p q) (Ok (value.Truth b))
  told_decided o p q v b (inl e) d = absurd (ok_is_no_err e)
  told_decided o p q v b (inr m) d =
      let Q : Option Bool → Type 0 = λ x. MatchOption x (means q (Ok (value.Truth b))) (λ c. ◌≡◌ {A = Result Value ValueFault} (Ok (value.Truth b)) (Ok (value.Truth c))) in
      inr (inr (v, m, subst Q (sym d) refl))

  pub told_right : (o : Op) (p q : Formula) (v : Value) (answer : Result Value ValueFault) → IsTold (means p) (Ok v) → decided o (truth_of v) ≡ None
      → IsTold (means q) answer → IsTold (IsConnected (λ f. f) means o p q) answer
  told_right o p q v answer (inl e) d r = absurd (ok_is_no_err e)
  told_right o p q v answer (inr m) d (inl e) = inl e
  told_right o p q v answer (inr m) d (inr r) =
      let Q : Option Bool → Type 0 = λ x. MatchOption x (means q answer) (λ c. ◌≡◌ {A = Result Value ValueFault} answer (Ok (value.Truth c))) in
      inr (inr (v, m, subst Q (sym d) r))

after_one_more : (vs : List Value) (v : Value) (rest : Result (List Value) ValueFault) → after_all (vs ++ v ∷ []) rest ≡ after_all vs (after_first v rest)
after_one_more [] v rest = refl
after_one_more (u ∷ us) v rest = ap (after_first u) (after_one_more us v rest)

after_none : (vs : List Value) → after_all vs (Ok []) ≡ Ok vs
after_none [] = refl
after_none (u ∷ us) = ap (after_first u) (after_none us)

after_fault : (vs : List Value) (fault : ValueFault) → after_all vs (Err fault) ≡ Err fault
after_fault [] fault = refl
after_fault (u ∷ us) fault = ap (after_first u) (after_fault us fault)

module _ (means : Formula → Result Value ValueFault → Type 0) where
  pub leads_start : (parts : List Formula) (done : List Value) → done ≡ [] → Leads means parts done parts
  leads_start parts done e = subst (λ vs. Leads means parts vs parts) (sym e) (unfold Leads in (λ answer m. m))

  next : (parts : List Formula) (vs : List Value) (p : Formula) (behind : List Formula) (v : Value)
      → Leads means parts vs (p ∷ behind) → IsTold (means p) (Ok v) → Leads means parts (vs ++ v ∷ []) behind
  next parts vs p behind v l (inl e) = absurd (ok_is_no_err e)
  next parts vs p behind v l (inr m) = unfold Leads in
      (λ answer rest. subst (AllMean (λ f. f) means parts) (sym (after_one_more vs v answer)) (l (after_first v answer) (inr (v, m, answer, rest, refl))))

  end : (parts : List Formula) (vs : List Value) → Leads means parts vs [] → IsTold (AllMean (λ f. f) means parts) (Ok vs)
  end parts vs l = unfold Leads in inr (subst (AllMean (λ f. f) means parts) (after_none vs) (l (Ok []) refl))

  stop : (parts : List Formula) (vs : List Value) (p : Formula) (behind : List Formula) (fault : ValueFault)
      → Leads means parts vs (p ∷ behind) → IsTold (means p) (Err fault) → IsTold (AllMean (λ f. f) means parts) (Err fault)
  stop parts vs p behind fault l (inl e) = inl (same_fault e)
  stop parts vs p behind fault l (inr m) = unfold Leads in
      inr (subst (AllMean (λ f. f) means parts) (after_fault vs fault) (l (Err fault) (inl (fault, m, refl))))

  -- the same at the items of a loop
  item_at : (parts : List Formula) (i : ℕ) (p : Formula) → i < length parts → p ≡ get_or parts i p → drop i parts ≡ p ∷ drop (i + 1) parts
  item_at parts i p below is = drop_more parts i p below ∙ ap (λ x. x ∷ drop (i + 1) parts) (sym is)

  pub leads_on : (parts : List Formula) (vs new : List Value) (i : ℕ) (p : Formula) (v : Value) → Leads means parts vs (drop i parts) → i < length parts
      → p ≡ get_or parts i p → IsTold (means p) (Ok v) → new ≡ vs ++ v ∷ [] → Leads means parts new (drop (i + 1) parts)
  leads_on parts vs new i p v l below is m e =
      subst (λ us. Leads means parts us (drop (i + 1) parts)) (sym e)
      (next parts vs p (drop (i + 1) parts) v (subst (Leads means parts vs) (item_at parts i p below is) l) m)

  pub leads_fault : (parts : List Formula) (vs : List Value) (i : ℕ) (p : Formula) (fault : ValueFault) → Leads means parts vs (drop i parts)
      → i < length parts → p ≡ get_or parts i p → IsTold (means p) (Err fault) → IsTold (AllMean (λ f. f) means parts) (Err fault)
  leads_fault parts vs i p fault l below is m = stop parts vs p (drop (i + 1) parts) fault (subst (Leads means parts vs) (item_at parts i p below is) l) m

  pub leads_end : (parts : List Formula) (vs : List Value) (i : ℕ) → Leads means parts vs (drop i parts) → length parts ≤ i
      → IsTold (AllMean (λ f. f) means parts) (Ok vs)
  leads_end parts vs i l past = end parts vs (subst (Leads means parts vs) (drop_of_length-le parts past) l)

  pub by_fault : (o : Op) (parts : List Formula) (fault : ValueFault) → IsTold (AllMean (λ f. f) means parts) (Err fault)
      → IsTold (ByOperands (λ f. f) means o parts) (Err fault)
  by_fault o parts fault (inl e) = inl (same_fault e)
  by_fault o parts fault (inr m) = inr (Err fault, m, refl)

  pub by_values : (o : Op) (parts : List Formula) (vs : List Value) (answer : Result Value ValueFault) → IsTold (AllMean (λ f. f) means parts) (Ok vs)
      → IsTold (GivesMany o vs) answer → IsTold (ByOperands (λ f. f) means o parts) answer
  by_values o parts vs answer (inl e) g = absurd (ok_is_no_err e)
  by_values o parts vs answer (inr m) (inl e) = inl e
  by_values o parts vs answer (inr m) (inr g) = inr (Ok vs, m, g)

pub ruleset leads = (leads_start, leads_on, leads_end, leads_fault)

pub ruleset operands = (by_fault, by_values)

no_false : true ≡ false → ⊥
no_false e = subst is_true e tt
  where
    is_true : Bool → Type 0
    is_true true = ⊤
    is_true false = ⊥

module _ (means : Formula → Result Value ValueFault → Type 0) where
  connects : (o : Op) (p q : Formula) (answer : Result Value ValueFault) → is_connective o ≡ true
      → IsTold (IsConnected (λ f. f) means o p q) answer → IsTold (NodeMeans (λ f. f) means o (p ∷ q ∷ [])) answer
  connects op.And p q answer e m = m
  connects op.Or p q answer e m = m
  connects op.Implies p q answer e m = m
  connects _ p q answer e m = absurd (no_false (sym e))

  pub node_left : (o : Op) (p q : Formula) (fault : ValueFault) → is_connective o ≡ true → IsTold (means p) (Err fault)
      → IsTold (NodeMeans (λ f. f) means o (p ∷ q ∷ [])) (Err fault)
  node_left o p q fault c m = connects o p q (Err fault) c (told_left means o p q fault m)

  pub node_decided : (o : Op) (p q : Formula) (v : Value) (b : Bool) → is_connective o ≡ true → IsTold (means p) (Ok v) → decided o (truth_of v) ≡ Some b
      → IsTold (NodeMeans (λ f. f) means o (p ∷ q ∷ [])) (Ok (value.Truth b))
  node_decided o p q v b c m d = connects o p q (Ok (value.Truth b)) c (told_decided means o p q v b m d)

  pub node_right : (o : Op) (p q : Formula) (v : Value) (right answer : Result Value ValueFault) → is_connective o ≡ true → IsTold (means p) (Ok v)
      → decided o (truth_of v) ≡ None → IsTold (means q) right → IsTold (λ r. r ≡ right) answer → IsTold (NodeMeans (λ f. f) means o (p ∷ q ∷ [])) answer
  node_right o p q v right answer c m d r h = connects o p q answer c (told_right means o p q v answer m d (whole (means q) right answer h r))

  two_plain : (o : Op) (p q : Formula) (answer : Result Value ValueFault) → is_connective o ≡ false → is_member o ≡ false
      → IsTold (ByOperands (λ f. f) means o (p ∷ q ∷ [])) answer → IsTold (NodeMeans (λ f. f) means o (p ∷ q ∷ [])) answer
  two_plain op.And p q answer c n m = absurd (no_false c)
  two_plain op.Or p q answer c n m = absurd (no_false c)
  two_plain op.Implies p q answer c n m = absurd (no_false c)
  two_plain op.Member p q answer c n m = absurd (no_false n)
  two_plain _ p q answer c n m = m

  pub node_whole : (o : Op) (p q : Formula) (least : Option ℤ) (v : Value) (b : Bool) → is_member o ≡ true → second_least (p ∷ q ∷ []) ≡ Some least
      → IsTold (means p) (Ok v) → (IsTrue b ↔ IsFrom least (integer_of v)) → IsTold (NodeMeans (λ f. f) means o (p ∷ q ∷ [])) (Ok (value.Truth b))
  node_whole op.Member p q least v b e s (inl x) r = absurd (ok_is_no_err x)
  node_whole op.Member p q None v b e s (inr m) r =
      inr (subst (λ x. IsMember (λ f. f) means x p q (Ok (value.Truth b))) (sym s) (inr (v, m, (b, refl, r))))
  node_whole op.Member p q (Some k) v b e s (inr m) r =
      inr (subst (λ x. IsMember (λ f. f) means x p q (Ok (value.Truth b))) (sym s) (inr (v, m, (b, refl, r))))
  node_whole _ p q least v b e s m r = absurd (no_false (sym e))

  pub node_whole_fault : (o : Op) (p q : Formula) (least : Option ℤ) (fault : ValueFault) → is_member o ≡ true → second_least (p ∷ q ∷ []) ≡ Some least
      → IsTold (means p) (Err fault) → IsTold (NodeMeans (λ f. f) means o (p ∷ q ∷ [])) (Err fault)
  node_whole_fault op.Member p q least fault e s (inl x) = inl x
  node_whole_fault op.Member p q least fault e s (inr m) =
      inr (subst (λ x. IsMember (λ f. f) means x p q (Err fault)) (sym s) (inl (fault, m, refl)))
  node_whole_fault _ p q least fault e s m = absurd (no_false (sym e))

  pub node_plain : (o : Op) (parts : List Formula) (answer : Result Value ValueFault) → is_connective o ≡ false → is_member o ≡ false
      → IsTold (ByOperands (λ f. f) means o parts) answer → IsTold (NodeMeans (λ f. f) means o parts) answer
  node_plain o [] answer c n m = m
  node_plain o (p ∷ []) answer c n m = m
  node_plain o (p ∷ q ∷ []) answer c n m = two_plain o p q answer c n m
  node_plain o (p ∷ q ∷ r ∷ ps) answer c n m = m

  pub node_member : (o : Op) (parts : List Formula) (answer : Result Value ValueFault) → is_member o ≡ true → second_least parts ≡ None
      → IsTold (ByOperands (λ f. f) means o parts) answer → IsTold (NodeMeans (λ f. f) means o parts) answer
  node_member op.Member [] answer e n m = m
  node_member op.Member (p ∷ []) answer e n m = m
  node_member op.Member (p ∷ q ∷ []) answer e n m = subst (λ x. IsTold (IsMember (λ f. f) means x p q) answer) (sym n) m
  node_member op.Member (p ∷ q ∷ r ∷ ps) answer e n m = m
  node_member _ parts answer e n m = absurd (no_false (sym e))

  pub node_others : (o : Op) (parts : List Formula) (answer : Result Value ValueFault) → (length parts ≡ 2 → ⊥)
      → IsTold (ByOperands (λ f. f) means o parts) answer → IsTold (NodeMeans (λ f. f) means o parts) answer
  node_others o [] answer n m = m
  node_others o (p ∷ []) answer n m = m
  node_others o (p ∷ q ∷ []) answer n m = absurd (n refl)
  node_others o (p ∷ q ∷ r ∷ ps) answer n m = m

pub ruleset nodes = (node_left, node_decided, node_right, node_whole, node_whole_fault, node_plain, node_member, node_others)

module _ (means : Formula → Result Value ValueFault → Type 0) where
  pub bind_fault : (parts : List Formula) (fault : ValueFault) → IsTold (AllMean (λ f. f) means parts) (Err fault) → IsTold (BindMeans means parts) (Err fault)
  bind_fault parts fault (inl e) = inl (same_fault e)
  bind_fault parts fault (inr m) = inr (Err fault, m, refl)

  pub bind_done : (parts : List Formula) (vs : List Value) → IsTold (AllMean (λ f. f) means parts) (Ok vs) → IsTold (BindMeans means parts) (Err NotComputed)
  bind_done parts vs (inl e) = absurd (ok_is_no_err e)
  bind_done parts vs (inr m) = inr (Ok vs, m, refl)

pub ruleset binders = (bind_fault, bind_done)
