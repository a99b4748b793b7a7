-- The laws of sets that bind or list keep types.
use Rattle.std.proofs.Common.{◌≡◌, ◌∙◌, sym, ap, subst, refl, ℕ, zero, suc, ◌-◌, true, List, [], ◌∷◌, ◌++◌, map, fold, reverse, length, replicate, Option, Some, None, IfSome}
use Rattle.std.specs.List.{AllByRecursion}
use Rattle.std.specs.Option.{option_and_then}
use Rattle.std.proofs.lemmas.List.{length-reverse}
use Rattle.formula_core.specs.declared.Binder.{Binder}
use Rattle.formula_core.specs.declared.Binder.TheVariants as binder
use Rattle.formula_core.specs.declared.Op.TheVariants as op
use Rattle.formula_core.specs.declared.Ty.{Ty}
use Rattle.formula_core.specs.declared.Ty.TheVariants as ty
use Rattle.formula_core.specs.declared.Formula.{Formula}
use Rattle.formula_core.specs.declared.Formula.TheVariants as formula
use Rattle.formula_core.specs.declared.row.UnaryRow.TheVariants as unary
use Rattle.formula_core.specs.declared.row.BinaryRow.TheVariants as binary
use Rattle.formula_core.specs.Same.{same_formula}
use Rattle.formula_core.specs.Schemes.{Scheme, alpha, truth, power, Letters, type_of_scheme, part_schemes, binder_scheme}
use Rattle.formula_core.specs.Shifting.{shifted}
use Rattle.formula_core.specs.Types.{is_value_type}
use Rattle.formula_core.specs.Wellness.{type_of}
use Rattle.rule_table.specs.Shapes.{one_of, operands, equal}
use Rattle.rule_table.specs.SetLaws.{below_all, or_equal, equal_to_one_of, member_of_extension, member_of_comprehension, member_of_quantified_union, member_of_quantified_intersection, finite_extension, overridden_at}
use Rattle.well_defined.specs.Predicates.{top}
use Rattle.made_rules.proofs.Typed.{Env, Is, AreOf}
use Rattle.made_rules.proofs.Forms.{opened, OpenedBinder}
use Rattle.made_rules.proofs.Makers.{top_is, quantified_is, moved_is}
use Rattle.made_rules.proofs.Operands.{operands_are, one_is, then_if, map_if, test_if, power_exact, pair_right, head_is, tail_is}
use Rattle.made_rules.proofs.SetMakers.{re, conj, disj, impl, eq, mem, member_of, parts_of, one, two, in_set, pair_of, bound_two}

-- a formula below the identifiers of a binder
over_all : {env : Env} {bound : List Ty} {t : Ty} {f : Formula} (types : List Ty) → Is env bound t f → Is env (reverse types ++ bound) t (below_all types f)
over_all {env} {bound} {t} {f} types h =
    subst (λ n. Is env (reverse types ++ bound) t (shifted n 0 f)) (length-reverse types) (moved_is env bound (reverse types) t f h)

-- the predicate and the term of a binder
record TwoParts (env : Env) (bound : List Ty) (s whole : Scheme) (types : List Ty) (p q : Formula) (t : Ty) : Type 0 where
  letters : Letters
  value : is_value_type letters.alpha ≡ true
  predicate : Is env (reverse types ++ bound) ty.Truth p
  term : Is env (reverse types ++ bound) (type_of_scheme letters s) q
  is : t ≡ type_of_scheme letters whole

two_parts : {env : Env} {bound : List Ty} {types : List Ty} {p q : Formula} {t : Ty} (b : Binder) (s whole : Scheme) → part_schemes b ≡ truth ∷ s ∷ [] → binder_scheme b ≡ whole
    → OpenedBinder env bound b types (p ∷ q ∷ []) t → TwoParts env bound s whole types p q t
two_parts {env} {bound} {types} {p} {q} {t} b s whole e k w =
    let are : type_of p ∷ type_of q ∷ [] ≡ ty.Truth ∷ type_of_scheme w.fit.letters s ∷ [] = w.fit.operands_are ∙ ap (map (type_of_scheme w.fit.letters)) e in
    record {
      letters = w.fit.letters;
      value = w.fit.values.alpha;
      predicate = re (head_is _ _ _ _ are) w.inner.0;
      term = re (head_is _ _ _ _ (tail_is _ _ _ _ are)) w.inner.1.0;
      is = w.fit.whole_is ∙ ap (type_of_scheme w.fit.letters) k;
    }

-- the members of a set that is listed
record Listed (env : Env) (bound : List Ty) (parts : List Formula) (t : Ty) : Type 0 where
  part : Ty
  value : is_value_type part ≡ true
  are : AllByRecursion (Is env bound part) parts
  is : t ≡ ty.Pow part

module _ (env : Env) (bound : List Ty) where
  repeated : (l : Letters) (k : ℕ) (ts : List Ty) (parts : List Formula) → AreOf env bound ts parts → ts ≡ map (type_of_scheme l) (replicate k alpha) → AllByRecursion (Is env bound l.alpha) parts
  repeated l k [] [] h e = tt
  repeated l k [] (p ∷ parts) h e = absurd h
  repeated l k (t ∷ ts) [] h e = absurd h
  repeated l zero (t ∷ ts) (p ∷ parts) h e = absurd (cc)
  repeated l (suc k) (t ∷ ts) (p ∷ parts) h e = (re (head_is _ _ _ _ e) h.0, repeated l k ts parts h.1 (tail_is _ _ _ _ e))

  each_listed : (l : Letters) (k : ℕ) (ts : List Ty) (parts : List Formula) → AreOf env bound ts parts → ts ≡ map (type_of_scheme l) (alpha ∷ replicate k alpha) → AllByRecursion (Is env bound l.alpha) parts
  each_listed l k ts parts h e = repeated l (suc k) ts parts h e

  listed : (parts : List Formula) (u t : Ty) → Is env bound t (formula.Node op.SetExtension parts u) → Listed env bound parts t
  listed parts u t h =
      let v = opened env bound op.SetExtension parts u t h in
      record {
        part = v.fit.letters.alpha;
        value = v.fit.values.alpha;
        are = each_listed v.fit.letters (length (map type_of parts) - 1) (map type_of parts) parts v.operands v.fit.operands_are;
        is = v.fit.whole_is;
      }

  module _ (t : Ty) (f : Formula) (h : Is env bound t f) where
    abbrev Q : Formula → Type 0
    Q = Is env bound t

    abbrev Kept : Option Formula → Type 0
    Kept o = IfSome o (Is env bound t)

    -- E ∈ {x·P ∣ F}
    pub comprehension_is : Kept (member_of_comprehension f)
    comprehension_is = in_set Q h _ (λ e u v. bound_two Q binder.Comprehension v.right _ (λ types p g w.
        let k = two_parts binder.Comprehension alpha (power alpha) refl refl w in
        let x = member_of k.letters.alpha v k.is in
        re (sym v.whole) (quantified_is env bound binder.Exists refl refl types w.may w.own _ (conj k.predicate (eq k.value (over_all types x) k.term)))))

    pub quantified_union_is : Kept (member_of_quantified_union f)
    quantified_union_is = in_set Q h _ (λ e u v. bound_two Q binder.QuantifiedUnion v.right _ (λ types p g w.
        let k = two_parts binder.QuantifiedUnion (power alpha) (power alpha) refl refl w in
        let x = member_of k.letters.alpha v k.is in
        re (sym v.whole) (quantified_is env bound binder.Exists refl refl types w.may w.own _ (conj k.predicate (mem k.value (over_all types x) k.term)))))

    pub quantified_intersection_is : Kept (member_of_quantified_intersection f)
    quantified_intersection_is = in_set Q h _ (λ e u v. bound_two Q binder.QuantifiedIntersection v.right _ (λ types p g w.
        let k = two_parts binder.QuantifiedIntersection (power alpha) (power alpha) refl refl w in
        let x = member_of k.letters.alpha v k.is in
        re (sym v.whole) (quantified_is env bound binder.ForAll refl refl types w.may w.own _ (impl k.predicate (mem k.value (over_all types x) k.term)))))

    -- E ∈ {F1, .., Fn}
    one_of_them : (α : Ty) (e : Formula) → is_value_type α ≡ true → Is env bound α e → (gs : List Formula) (start : Formula) → Is env bound ty.Truth start
        → AllByRecursion (Is env bound α) gs → Is env bound ty.Truth (fold (or_equal e) start gs)
    one_of_them α e v x [] start k are = k
    one_of_them α e v x (g ∷ gs) start k are = one_of_them α e v x gs (or_equal e start g) (disj k (eq v x are.0)) are.1

    equal_to_one : (α : Ty) (e : Formula) → is_value_type α ≡ true → Is env bound α e → (gs : List Formula) → AllByRecursion (Is env bound α) gs → t ≡ ty.Truth → Kept (equal_to_one_of e gs)
    equal_to_one α e v x [] are k = tt
    equal_to_one α e v x (g ∷ gs) are k = re (sym k) (one_of_them α e v x gs (equal e g) (eq v x are.0) are.1)

    pub extension_is : Kept (member_of_extension f)
    extension_is = in_set Q h _ (λ e u v. then_if Q (operands op.SetExtension u) (equal_to_one_of e) (λ parts z.
        let is = operands_are op.SetExtension u parts z in
        let k = listed parts is.0 (ty.Pow v.letters.alpha) (subst (Is env bound (ty.Pow v.letters.alpha)) is.1 v.right) in
        equal_to_one k.part e k.value (member_of k.part v k.is) parts k.are v.whole))

    pub finite_extension_is : Kept (finite_extension f)
    finite_extension_is = one Q op.Finite unary.Finiteness refl h _ (λ s v. map_if Q (operands op.SetExtension s) (λ parts. top) (λ parts e. re (sym v.whole) (top_is env bound)))

    -- (f <+ {E ↦ F})(E)
    single : (s : Formula) (u : Ty) → Is env bound u s → (make : Formula → Option Formula) → ((p : Formula) → Listed env bound (p ∷ []) u → Kept (make p))
        → Kept (option_and_then make (option_and_then one_of (operands op.SetExtension s)))
    single s u k make m = go (operands op.SetExtension s) refl
      where
        at : (parts : List Formula) → operands op.SetExtension s ≡ Some parts → (o : Option Formula) → one_of parts ≡ o → Kept (option_and_then make o)
        at parts z None l = tt
        at parts z (Some p) l =
            let is = operands_are op.SetExtension s parts z in
            m p (listed (p ∷ []) is.0 u (subst (Is env bound u) (is.1 ∙ ap (λ ps. formula.Node op.SetExtension ps is.0) (one_is parts p l)) k))

        go : (ps : Option (List Formula)) → operands op.SetExtension s ≡ ps → Kept (option_and_then make (option_and_then one_of ps))
        go None z = tt
        go (Some parts) z = at parts z (one_of parts) refl

    pub overridden_at_is : Kept (overridden_at f)
    overridden_at_is = two Q op.Apply binary.Application refl h _ (λ g z v. two Q op.Overriding binary.Overriding refl v.left _ (λ b s w.
        let α = w.letters.alpha in let β = w.letters.beta in
        single s (ty.Pow (ty.Pair α β)) w.right _ (λ p k. pair_of Q k.are.0 _ (λ e x m. test_if Q (same_formula e z) x (λ same.
        let y = parts_of α β m (sym (power_exact (ty.Pair α β) k.part k.is)) in
        let there = power_exact (ty.Pair v.letters.alpha v.letters.beta) (ty.Pair α β) w.whole in
        re (sym (pair_right v.letters.alpha v.letters.beta α β there) ∙ sym v.whole) y.1)))))
