-- What keeps formulas typed: a larger environment, substitution, quantifiers, and the instantiation of a quantifier.
use Rattle.std.proofs.Common.{◌≡◌, ◌≢◌, ◌∙◌, sym, ap, subst, refl, ℕ, ℤ, Bool, true, false, cond, List, [], ◌∷◌, ◌++◌, map, reverse, Option, Some, None, IfSome, IsTrue}
use Rattle.std.specs.Prelude.{bytes_eq}
use Rattle.std.specs.List.{AllByRecursion, list_all}
use Rattle.std.specs.Map.{lookup}
use Rattle.std.specs.Cmp.Lexicographic.{same_text}
use Rattle.std.proofs.lemmas.List.{append-nil}
use Rattle.formula_core.specs.declared.op.Binder.{Binder}
use Rattle.formula_core.specs.declared.op.Binder.TheVariants.{ForAll, Exists, Comprehension, QuantifiedUnion, QuantifiedIntersection}
use Rattle.formula_core.specs.declared.ty.Ty.{Ty}
use Rattle.formula_core.specs.declared.ty.Ty.TheVariants as ty
use Rattle.formula_core.specs.declared.ty.Ty.TheViews.{outs-Truth}
use Rattle.formula_core.specs.declared.formula.Formula.{Formula}
use Rattle.formula_core.specs.declared.formula.Formula.TheOpen.{Formula-F, Int as IntF, Free as FreeF, Bound as BoundF, Node as NodeF, Bind as BindF}
use Rattle.formula_core.specs.declared.formula.Formula.TheVariants.{Int, Bound}
use Rattle.formula_core.specs.declared.formula.Formula.TheViews.{out-Formula, roll-Formula, roll-out-Formula, rolls-Int, rolls-Bound, rolls-Bind, outs-Bind}
use Rattle.formula_core.specs.Env.{type_in}
use Rattle.formula_core.specs.Formulas.{joined, occurrences_step, occurrences, substituted, instantiated, body_at, body}
use Rattle.formula_core.specs.Identifiers.{carriers, identifiers}
use Rattle.formula_core.specs.Laws.{IsWithin, IsNewValue, Replaces, QuantifiesTyped, InstantiatesTyped}
use Rattle.formula_core.specs.Shifting.{abstracted}
use Rattle.formula_core.specs.Substitution.{TypesAgree, AreWell}
use Rattle.formula_core.specs.Typed.{Stands, IsTypedIn, IsPredicateIn}
use Rattle.formula_core.specs.Types.{is_value_type, is_truth_at, is_truth}
use Rattle.formula_core.specs.TypeTable.{binder_fits}
use Rattle.formula_core.specs.Wellness.{type_of_step, type_of, is_well, is_well_in, may_be_bound}
use Rattle.formula_core.proofs.Equations.{formula_fold, identifiers-Bind, occurrences-Free, occurrences-Node, occurrences-Bind, identifiers-Free, identifiers-Node}
use Rattle.formula_core.proofs.Induction.{formula_induction}
use Rattle.formula_core.proofs.InstantiatedWell.{quantifier_instantiated_is_well}
use Rattle.formula_core.proofs.Keeping.{front, back, both, all_more, carriers-Truth, replaced_keeps, bound_keeps, instantiated_keeps}
use Rattle.formula_core.proofs.KeptTypes.{abstracted_type}
use Rattle.formula_core.proofs.RenumberedWell.{abstracted_is_well}
use Rattle.formula_core.proofs.Substitution.{substituted_is_well, substituted_keeps_type}
use Rattle.formula_core.proofs.Weakening.{both_true}
use Rattle.formula_core.proofs.Wellness.{well-Bind}

abbrev Env : Type 0
Env = List (List ℕ × Ty)

-- A larger environment.

-- what stands in an environment stands in a longer one
pub stands_more : (env more : Env) → IsWithin env (env ++ more)
stands_more [] more x h = cc
stands_more (z ∷ env) more x h =
    let go : (b : Bool) → cond b (Some z.1) (type_in env x.0) ≡ Some x.1 → cond b (Some z.1) (type_in (env ++ more) x.0) ≡ Some x.1 = elim [
      | true ↦ λ k. k
      | false ↦ λ k. stands_more env more x k
    ] in
    go (bytes_eq x.0 z.0) h

pub typed_more : (env new : Env) → IsWithin env new → (f : Formula) → IsTypedIn env f → IsTypedIn new f
typed_more env new within f h = record { well = h.well; names = all_more (Stands env) (Stands new) within (identifiers f) h.names }

pub predicate_more : (env new : Env) → IsWithin env new → (f : Formula) → IsPredicateIn env f → IsPredicateIn new f
predicate_more env new within f h = (typed_more env new within f h.0, h.1)

pub predicates_more : (env new : Env) → IsWithin env new → (fs : List Formula) → AllByRecursion (IsPredicateIn env) fs → AllByRecursion (IsPredicateIn new) fs
predicates_more env new within = all_more (IsPredicateIn env) (IsPredicateIn new) (predicate_more env new within)

-- Substitution.

occurrences-Int : (n : ℤ) → occurrences (Int n) ≡ []
occurrences-Int n = formula_fold occurrences_step (IntF n) (Int n) (rolls-Int n)

occurrences-Bound : (i : ℕ) (t : Ty) → occurrences (Bound i t) ≡ []
occurrences-Bound i t = formula_fold occurrences_step (BoundF i t) (Bound i t) (rolls-Bound i t)

abbrev HasTypes : Env → List (List ℕ × Formula) → Type 0
HasTypes env pairs = AllByRecursion (λ q. type_in env q.0 ≡ Some (type_of q.1)) pairs

module _ (env : Env) (pairs : List (List ℕ × Formula)) (types : HasTypes env pairs) where
  abbrev Agrees : List ℕ × Ty → Type 0
  Agrees x = IfSome (lookup (bytes_eq x.0) pairs) (λ term. type_of term ≡ x.1)

  agree_at : (x : List ℕ × Ty) (qs : List (List ℕ × Formula)) → HasTypes env qs → Stands env x → IfSome (lookup (bytes_eq x.0) qs) (λ term. type_of term ≡ x.1)
  agree_at x [] all h = tt
  agree_at x (q ∷ qs) all h =
      let go : (b : Bool) → bytes_eq x.0 q.0 ≡ b → IfSome (cond b (Some q.1) (lookup (bytes_eq x.0) qs)) (λ term. type_of term ≡ x.1) = elim [
        | true ↦ λ e. let same : x.0 ≡ q.0 = same_text _ _ (sym e) in let one : Some (type_of q.1) ≡ Some x.1 = sym all.0 ∙ ap (type_in env) (sym same) ∙ h in cc
        | false ↦ λ e. agree_at x qs all.1 h
      ] in
      go (bytes_eq x.0 q.0) refl

  abbrev Stand : List (List ℕ × Ty) → Type 0
  Stand xs = AllByRecursion (Stands env) xs

  parts_agree : (fs : List Formula) → AllByRecursion (λ f. Stand (identifiers f) → TypesAgree pairs f) fs → Stand (joined (map identifiers fs)) → AllByRecursion Agrees (joined (map occurrences fs))
  parts_agree [] each h = tt
  parts_agree (f ∷ fs) each h =
      both Agrees (occurrences f) (joined (map occurrences fs)) (each.0 (front (Stands env) (identifiers f) (joined (map identifiers fs)) h))
      (parts_agree fs each.1 (back (Stands env) (identifiers f) (joined (map identifiers fs)) h))

  -- terms with the types of their names agree with each formula that is typed in the environment
  pub types_agree : (f : Formula) → Stand (identifiers f) → TypesAgree pairs f
  types_agree = formula_induction (λ f. Stand (identifiers f) → TypesAgree pairs f)
      (λ n h. subst (AllByRecursion Agrees) (sym (occurrences-Int n)) tt)
      (λ name t h. subst (AllByRecursion Agrees) (sym (occurrences-Free name t)) (agree_at (name, t) pairs types (subst Stand (identifiers-Free name t) h).0, tt))
      (λ i t h. subst (AllByRecursion Agrees) (sym (occurrences-Bound i t)) tt)
      (λ op parts t each h. subst (AllByRecursion Agrees) (sym (occurrences-Node op parts t))
      (parts_agree parts each (front (Stands env) (joined (map identifiers parts)) (carriers t) (subst Stand (identifiers-Node op parts t) h))))
      (λ binder types parts t each h. subst (AllByRecursion Agrees) (sym (occurrences-Bind binder types parts t))
      (parts_agree parts each (back (Stands env) (joined (map carriers types)) (joined (map identifiers parts))
      (front (Stands env) (joined (map carriers types) ++ joined (map identifiers parts)) (carriers t) (subst Stand (identifiers-Bind binder types parts t) h)))))

module _ (old new : Env) (pairs : List (List ℕ × Formula)) (replaces : Replaces old new pairs) (f : Formula) (h : IsTypedIn old f) where
  agree : TypesAgree pairs f
  agree = types_agree old pairs (all_more (IsNewValue old new) (λ q. type_in old q.0 ≡ Some (type_of q.1)) (λ q k. k.1) pairs replaces.terms) f h.names

  well : AllByRecursion (λ q. IsTrue (is_well q.1)) pairs
  well = all_more (IsNewValue old new) (λ q. IsTrue (is_well q.1)) (λ q k. k.0.well) pairs replaces.terms

  pub replaced_typed : IsTypedIn new (substituted pairs f)
  replaced_typed = record {
    well = substituted_is_well pairs f well agree h.well;
    names = replaced_keeps (Stands old) (Stands new) replaces.sets pairs
        (all_more (IsNewValue old new) (λ q. AllByRecursion (Stands new) (identifiers q.1)) (λ q k. k.0.names) pairs replaces.terms) replaces.others f h.names;
  }

  pub replaced_type : type_of (substituted pairs f) ≡ type_of f
  replaced_type = substituted_keeps_type pairs f well agree

pub replaced_predicate : (old new : Env) (pairs : List (List ℕ × Formula)) → Replaces old new pairs → (f : Formula) → IsPredicateIn old f → IsPredicateIn new (substituted pairs f)
replaced_predicate old new pairs replaces f h = (replaced_typed old new pairs replaces f h.0, replaced_type old new pairs replaces f h.0 ∙ h.1)

-- new values of names of one environment replace them there
pub values_replace : (env : Env) (pairs : List (List ℕ × Formula)) → AllByRecursion (IsNewValue env env) pairs → Replaces env env pairs
values_replace env pairs values = record { terms = values; sets = λ set h. h; others = λ x h e. h }

pub substituted_typed : (env : Env) (pairs : List (List ℕ × Formula)) → AllByRecursion (IsNewValue env env) pairs → (f : Formula) → IsPredicateIn env f → IsPredicateIn env (substituted pairs f)
substituted_typed env pairs values = replaced_predicate env env pairs (values_replace env pairs values)

-- Quantifiers.

truth : is_truth ty.Truth ≡ true
truth = ap is_truth_at outs-Truth

may_bind : (ids : Env) → ids ≢ [] → AllByRecursion (λ y. IsTrue (is_value_type y.1)) ids → may_be_bound (map (λ y. y.1) ids) ≡ true
may_bind [] some h = absurd (some refl)
may_bind (x ∷ ids) some h = both_true _ _ h.0 (values ids h.1)
  where
    values : (ys : Env) → AllByRecursion (λ y. IsTrue (is_value_type y.1)) ys → list_all is_value_type (map (λ y. y.1) ys) ≡ true
    values [] h = refl
    values (y ∷ ys) h = both_true _ _ h.0 (values ys h.1)

carriers_of : (P : List ℕ × Ty → Type 0) (ids : Env) → AllByRecursion (λ y. AllByRecursion P (carriers y.1)) ids → AllByRecursion P (joined (map carriers (map (λ y. y.1) ids)))
carriers_of P [] h = tt
carriers_of P (y ∷ ids) h = both P (carriers y.1) _ h.0 (carriers_of P ids h.1)

module _ (binder : Binder) (fits : binder_fits binder (ty.Truth ∷ []) ty.Truth ≡ true) (ids : Env) where
  quantified_typed : (f : Formula) → QuantifiesTyped binder ids f
  quantified_typed f old new may h =
      let types = map (λ y. y.1) ids in
      let part = abstracted ids 0 f in
      let typed : type_of part ≡ ty.Truth = abstracted_type ids 0 f ∙ h.1 in
      let inside : is_well_in part (reverse types ++ []) ≡ true = ap (is_well_in part) (append-nil (reverse types)) ∙ abstracted_is_well ids f h.0.well in
      let own = joined (map carriers types) in (
        record {
          well = well-Bind binder types (part ∷ []) ty.Truth []
              ∙ both_true _ _ (both_true _ _ (may_bind ids may.some may.types) (ap (λ t. binder_fits binder (t ∷ []) ty.Truth) typed ∙ fits)) (both_true _ _ inside refl);
          names = subst (AllByRecursion (Stands new)) (sym (identifiers-Bind binder types (part ∷ []) ty.Truth))
              (both (Stands new) (own ++ joined (map identifiers (part ∷ []))) (carriers ty.Truth)
              (both (Stands new) own _ (carriers_of (Stands new) ids may.carriers)
              (both (Stands new) (identifiers part) [] (bound_keeps (Stands old) (Stands new) may.sets ids may.others f 0 h.0.names) tt))
              (subst (AllByRecursion (Stands new)) (sym carriers-Truth) tt));
        },
        ap type_of_step (outs-Bind binder types (part ∷ []) ty.Truth),
      )

-- ∃ids·f and ∀ids·f
pub exists_typed : (ids : Env) (f : Formula) → QuantifiesTyped Exists ids f
exists_typed = quantified_typed Exists (both_true _ _ truth truth)

pub forall_typed : (ids : Env) (f : Formula) → QuantifiesTyped ForAll ids f
forall_typed = quantified_typed ForAll (both_true _ _ truth truth)

-- The instantiation of a quantifier.

module _ (P : List ℕ × Ty → Type 0) where
  only_part : (binder : Binder) (own : List Ty) (p b : Formula) (t : Ty) → p ≡ b → AllByRecursion P (identifiers (roll-Formula (BindF binder own (p ∷ []) t))) → AllByRecursion P (identifiers b)
  only_part binder own p b t e h =
      let k = subst (AllByRecursion P) (ap identifiers (rolls-Bind binder own (p ∷ []) t) ∙ identifiers-Bind binder own (p ∷ []) t) h in
      let parts = back P (joined (map carriers own)) (identifiers p ++ []) (front P (joined (map carriers own) ++ (identifiers p ++ [])) (carriers t) k) in
      subst (λ f. AllByRecursion P (identifiers f)) e (front P (identifiers p) [] parts)

  part_keeps : (x : Formula-F Formula) (b : Formula) → body_at x ≡ Some b → AllByRecursion P (identifiers (roll-Formula x)) → AllByRecursion P (identifiers b)
  part_keeps (IntF n) b e h = cc
  part_keeps (FreeF name t) b e h = cc
  part_keeps (BoundF i t) b e h = cc
  part_keeps (NodeF op parts t) b e h = cc
  part_keeps (BindF ForAll own [] t) b e h = cc
  part_keeps (BindF ForAll own (p ∷ []) t) b e h = only_part ForAll own p b t (cc) h
  part_keeps (BindF ForAll own (p ∷ q ∷ parts) t) b e h = cc
  part_keeps (BindF Exists own [] t) b e h = cc
  part_keeps (BindF Exists own (p ∷ []) t) b e h = only_part Exists own p b t (cc) h
  part_keeps (BindF Exists own (p ∷ q ∷ parts) t) b e h = cc
  part_keeps (BindF Comprehension own parts t) b e h = cc
  part_keeps (BindF QuantifiedUnion own parts t) b e h = cc
  part_keeps (BindF QuantifiedIntersection own parts t) b e h = cc

  -- what holds of the identifiers of a quantifier holds of those of its body
  pub body_keeps : (f b : Formula) → body f ≡ Some b → AllByRecursion P (identifiers f) → AllByRecursion P (identifiers b)
  body_keeps f b e h = part_keeps (out-Formula f) b e (subst (λ g. AllByRecursion P (identifiers g)) (sym (roll-out-Formula f)) h)

pub instantiated_typed : (f : Formula) (terms : List Formula) → InstantiatesTyped f terms
instantiated_typed f terms env h typed types =
    let well : AreWell terms = all_more (IsTypedIn env) (λ t. IsTrue (is_well t)) (λ t k. k.well) terms typed in
    let names = all_more (IsTypedIn env) (λ t. AllByRecursion (Stands env) (identifiers t)) (λ t k. k.names) terms typed in
    let go : (o : Option Formula) → body f ≡ o → IfSome o (λ b. IsTrue (is_well (instantiated terms 0 b))) → IfSome o (λ b. IsTypedIn env (instantiated terms 0 b)) = elim [
      | None ↦ λ e k. tt
      | Some b ↦ λ e k. record { well = k; names = instantiated_keeps (Stands env) terms names b 0 (body_keeps (Stands env) f b e h.names) }
    ] in
    go (body f) refl (quantifier_instantiated_is_well f terms well types h.well)
