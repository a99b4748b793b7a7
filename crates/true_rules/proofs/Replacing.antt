-- A formula denotes the same with a formula in the place of one that does, and without an overriding elsewhere.
use Rattle.std.proofs.Common.{Bool, IfSome, List, None, Option, Some, [], ap, false, map, not, refl, reverse, subst, sym, true, ℕ, ◌&&◌, ◌++◌, ◌||◌, ◌∙◌, ◌∷◌, ◌≡◌}
use Rattle.std.specs.List.{AllByRecursion}
use Rattle.std.specs.Prelude.{if◌then◌else◌, unwrap_or}
use Rattle.formula_core.proofs.Equations.{formula_para}
use Rattle.formula_core.proofs.Induction.{formula_induction}
use Rattle.formula_core.proofs.SameFormulas.{same_formula_exact}
use Rattle.formula_core.proofs.Types.{same_type_exact}
use Rattle.formula_core.proofs.Weakening.{first_true, second_true}
use Rattle.formula_core.specs.Same.{same_formula}
use Rattle.formula_core.specs.Types.{same_type}
use Rattle.formula_core.specs.Wellness.{type_of}
use Rattle.formula_core.specs.declared.Binder.{Binder}
use Rattle.formula_core.specs.declared.Formula.{Formula}
use Rattle.formula_core.specs.declared.Formula.TheOpen.{Bind as BindF, Bound as BoundF, Free as FreeF, Int as IntF, Node as NodeF}
use Rattle.formula_core.specs.declared.Formula.TheVariants.{Bind, Bound, Free, Int, Node}
use Rattle.formula_core.specs.declared.Op.{Op}
use Rattle.formula_core.specs.declared.Op.TheVariants as op
use Rattle.formula_core.specs.declared.Ty.{Ty}
use Rattle.formula_core.specs.declared.Ty.TheVariants as ty
use Rattle.formula_core.specs.declared.formula.Formula.TheViews.{rolls-Bind, rolls-Bound, rolls-Free, rolls-Int, rolls-Node}
use Rattle.rule_table.specs.Rewriting.{replaced, replaced_over, replaced_over_step, replaced_step, without_override}
use Rattle.rule_table.specs.Shapes.{applied}
use Rattle.meanings.specs.Denotations.{Assignment, denotation, holds}
use Rattle.meanings.specs.Operations.{of_list, relates, contains, truth_value}
use Rattle.meanings.specs.Universes.{Valuation, Universe, cast, some}
use Rattle.meanings.specs.Values.{Sort, Denotation, Value, pair_sort, power_sort, sort}
use Rattle.meanings.proofs.Casts.{cast_own, cast_known}
use Rattle.meanings.proofs.Closed.{denotation-closed}
use Rattle.meanings.proofs.Denotations.{Means, same-Bind, same-Node, sort-Pair, sort-Pow, sort_of}
use Rattle.meanings.proofs.Fitting.{IsWellIn, row_of_well, well_below, well_parts}
use Rattle.meanings.proofs.Lists.{members_of_pairs, made_of_pairs}
use Rattle.meanings.proofs.Truths.{at_node}
use Rattle.meanings.proofs.Types.{if_relation_tells, type-Node}
use Rattle.true_laws.proofs.Memberships.{maplet_means, maplet_type, paired}
use Rattle.true_rules.proofs.Rows.{at_one, at_two, if_so}

module _ {carrier : List ℕ → Type 0} (U : Universe carrier) (names : Valuation carrier) where
  abbrev M : Formula → Assignment U → Denotation carrier
  M = denotation U names

  -- a change of formulas that keeps what well ones denote
  abbrev Stays : (Formula → Formula) → Formula → Type 0
  Stays change f = (types : List Ty) → IsWellIn f types → M (change f) ≡ M f

  each_stays : (change : Formula → Formula) (types : List Ty) (fs : List Formula) → AllByRecursion (Stays change) fs
      → AllByRecursion (λ f. IsWellIn f types) fs → map M (map change fs) ≡ map M fs
  each_stays change types [] h well = refl
  each_stays change types (f ∷ fs) h well = λ i. h.0 types well.0 i ∷ each_stays change types fs h.1 well.1 i

  changed_node : (change : Formula → Formula) (o : Op) (parts : List Formula) (t : Ty)
      → AllByRecursion (Stays change) parts → (types : List Ty)
      → IsWellIn (Node o parts t) types → M (Node o (map change parts) t) ≡ M (Node o parts t)
  changed_node change o parts t each types well =
      same-Node U names o (map change parts) parts t
      (each_stays change types parts each (well_parts o parts t types well))

  changed_binder : (change : Formula → Formula) (b : Binder) (own : List Ty) (parts : List Formula) (t : Ty)
      → AllByRecursion (Stays change) parts
      → (types : List Ty) → IsWellIn (Bind b own parts t) types
      → M (Bind b own (map change parts) t) ≡ M (Bind b own parts t)
  changed_binder change b own parts t each types well =
      same-Bind U names b own (map change parts) parts t
      (each_stays change (reverse own ++ types) parts each (well_below b own parts t types well))

  module _ (old new : Formula) (same : M new ≡ M old) where
    abbrev R : Formula → Formula
    R = replaced old new

    -- what a formula becomes with its parts replaced, if it isn't the old one
    step : (f g : Formula) → M g ≡ M f → (b : Bool) → same_formula f old ≡ b → M (if b then new else g) ≡ M f
    step f g e true is = same ∙ ap M (sym (same_formula_exact f old is))
    step f g e false is = e

    replaced_stays : (f : Formula) → Stays R f
    replaced_stays = formula_induction (Stays R)
        (λ n types well. ap M (formula_para (replaced_step old new) (IntF n) _ (rolls-Int n))
        ∙ step (Int n) (Int n) refl _ refl)
        (λ name t types well. ap M (formula_para (replaced_step old new) (FreeF name t) _ (rolls-Free name t))
        ∙ step (Free name t) (Free name t) refl _ refl)
        (λ k t types well. ap M (formula_para (replaced_step old new) (BoundF k t) _ (rolls-Bound k t))
        ∙ step (Bound k t) (Bound k t) refl _ refl)
        (λ o parts t each types well.
        ap M (formula_para (replaced_step old new) (NodeF o parts t) _ (rolls-Node o parts t)
        ∙ (λ i. if same_formula (Node o (members_of_pairs R parts i) t) old then new else Node o
        (made_of_pairs R parts i) t))
        ∙ step (Node o parts t) (Node o (map R parts) t) (changed_node R o parts t each types well) _ refl)
        (λ b own parts t each types well.
        ap M (formula_para (replaced_step old new) (BindF b own parts t) _ (rolls-Bind b own parts t)
        ∙ (λ i. if same_formula (Bind b own (members_of_pairs R parts i) t) old then new else Bind b own
        (made_of_pairs R parts i) t))
        ∙ step (Bind b own parts t) (Bind b own (map R parts) t)
        (changed_binder R b own parts t each types well) _ refl)

  pub replaced_holds : (old new : Formula) → IsWellIn old [] → IsWellIn new [] → M old [] ≡ M new [] → (g : Formula)
      → IsWellIn g []
      → holds U names (replaced old new g) ≡ holds U names g
  replaced_holds old new old_well new_well same g well =
      let each : M new ≡ M old = λ i σ.
      (denotation-closed U names new σ new_well ∙ sym same ∙ sym (denotation-closed U names old σ old_well)) i in
      λ i. truth_value U (replaced_stays old new each g [] well i [])

  -- `(f <+ {x ↦ y})(z)` where x and z have one type and denote different values
  module _ (z x : Formula) (z_well : IsWellIn z []) (x_well : IsWellIn x []) (one_type : type_of x ≡ type_of z)
      (apart : M z [] ≡ M x [] → ⊥) where
    module _ (f y : Formula) (t u w m : Ty) (types : List Ty) (σ : Assignment U) where
      abbrev pair : Formula
      pair = Node op.Maplet (x ∷ y ∷ []) m

      abbrev set : Formula
      set = Node op.SetExtension (pair ∷ []) w

      abbrev over : Formula
      over = Node op.Overriding (f ∷ set ∷ []) u

      abbrev a : Sort
      a = (M z σ).0

      abbrev b : Sort
      b = sort t

      abbrev at_z : Value carrier a
      at_z = (M z σ).1

      module _ (well : IsWellIn (Node op.Apply (over ∷ z ∷ []) t) types) where
        over_well : IsWellIn over types
        over_well = (well_parts op.Apply (over ∷ z ∷ []) t types well).0

        u_is : u ≡ ty.Pow (ty.Pair (type_of z) t)
        u_is =
            let l = if_relation_tells (type_of over) (λ α β. same_type (type_of z) α && same_type t β)
            (second_true _ _ (row_of_well op.Apply (over ∷ z ∷ []) t types well)) in
            sym (type-Node op.Overriding (f ∷ set ∷ []) u) ∙ l.1 ∙ (λ i. ty.Pow (ty.Pair
            (sym (same_type_exact (type_of z) l.0.0 (first_true _ _ l.2)) i)
            (sym (same_type_exact t l.0.1 (second_true _ _ l.2)) i)))

        w_is : w ≡ u
        w_is =
            let k = row_of_well op.Overriding (f ∷ set ∷ []) u types over_well in
            sym (type-Node op.SetExtension (pair ∷ []) w)
            ∙ same_type_exact (type_of set) (type_of f) (second_true _ _ (first_true _ _ k))
            ∙ sym (same_type_exact u (type_of f) (second_true _ _ k))

        m_is : m ≡ ty.Pair (type_of x) (type_of y)
        m_is = maplet_type x y m types
            (well_parts op.SetExtension (pair ∷ []) w types
            (well_parts op.Overriding (f ∷ set ∷ []) u types over_well).1.0).0

        sorts : sort u ≡ power_sort (pair_sort a b)
        sorts = ap sort u_is ∙ sort-Pow (ty.Pair (type_of z) t)
            ∙ ap power_sort (sort-Pair (type_of z) t ∙ (λ i. pair_sort (sym (sort_of U names z σ) i) b))

        -- whether what an operator makes leads from z to a value
        leads : (o : Op) (parts : List Formula) (s : Ty) → sort s ≡ power_sort (pair_sort a b) → (v : Value carrier b)
            → relates U (M (Node o parts s) σ) a b at_z v
            ≡ of_list U o (power_sort (pair_sort a b)) (map (λ p. M p σ) parts) (at_z, v)
        leads o parts s e v =
            (λ i. contains U (at_node U names o parts s (power_sort (pair_sort a b)) e σ i) (pair_sort a b) (at_z, v))
            ∙ (λ i. cast_own U (power_sort (pair_sort a b))
            (of_list U o (power_sort (pair_sort a b)) (map (λ p. M p σ) parts)) i (at_z, v))

        -- the one pair doesn't begin with z
        not_there : (v : Value carrier b) → relates U (M set σ) a b at_z v ≡ false
        not_there v =
            leads op.SetExtension (pair ∷ []) w (ap sort w_is ∙ sorts) v
            ∙ (λ i. U.same (pair_sort a b) (at_z, v)
            (cast U (pair_sort a b) (maplet_means U names x y m m_is σ i)) || false)
            ∙ none (U.same (pair_sort a b) (at_z, v) (cast U (pair_sort a b) (paired U names (M x σ) (M y σ)))) (λ e.
            let same = (U.same_exact (pair_sort a b) (at_z, v)
            (cast U (pair_sort a b) (paired U names (M x σ) (M y σ)))).0 e in
            let x_is = cast_known U (M x σ) a (sort_of U names x σ ∙ ap sort one_type ∙ sym (sort_of U names z σ)) in
            apart (sym (denotation-closed U names z σ z_well) ∙ (λ i. (a, (same i).0)) ∙ x_is
            ∙ denotation-closed U names x σ x_well))
          where
            none : (c : Bool) → (c ≡ true → ⊥) → (c || false) ≡ false
            none true n = absurd (n refl)
            none false n = refl

        other : (p : Bool) (q : Value carrier b → Bool) → ((v : Value carrier b) → q v ≡ false) → (v : Value carrier b)
            → (q v || (p && not (some U b q))) ≡ p
        other true q h v = (λ i. h v i || not (h (U.choose b q) i))
        other false q h v = (λ i. h v i || false)

        same_value : M (applied f z t) σ ≡ M (Node op.Apply (over ∷ z ∷ []) t) σ
        same_value =
            at_node U names op.Apply (f ∷ z ∷ []) t b refl σ
            ∙ (λ i. (
              b,
              U.choose b (λ v. sym (leads op.Overriding (f ∷ set ∷ []) u sorts v
                  ∙ other (relates U (M f σ) a b at_z v) (λ v. relates U (M set σ) a b at_z v) not_there v) i),
            ))
            ∙ sym (at_node U names op.Apply (over ∷ z ∷ []) t b refl σ)

    without_same : (h : Formula)
        → IfSome (without_override z x h) (λ new. (types : List Ty) → IsWellIn h types → M new ≡ M h)
    without_same h = at_two _ op.Apply h _
        (λ g e t h_is. if_so _ (same_formula e z) _ (λ e_same. at_two _ op.Overriding g _ (λ f s u g_is.
        at_one _ op.SetExtension s _
        (λ p w s_is. at_two _ op.Maplet p _ (λ d y m p_is. if_so _ (same_formula d x) _ (λ d_same types well.
        let e_is = same_formula_exact e z e_same in let d_is = same_formula_exact d x d_same in
        let is : h ≡ Node op.Apply
        (Node op.Overriding (f ∷ Node op.SetExtension (Node op.Maplet (x ∷ y ∷ []) m ∷ []) w ∷ []) u ∷ z ∷ []) t = cc in
        let t_is : type_of h ≡ t = ap type_of is ∙ type-Node op.Apply _ t in
        λ i σ. (ap (λ t. M (applied f z t) σ) t_is
        ∙ same_value f y t u w m types σ (subst (λ h. IsWellIn h types) is well) ∙ ap (λ f. M f σ) (sym is)) i))))))

    at_form : (h g : Formula) (types : List Ty) → IsWellIn h types → M g ≡ M h → (o : Option Formula)
        → IfSome o (λ new. (types : List Ty) → IsWellIn h types → M new ≡ M h) → M (unwrap_or o g) ≡ M h
    at_form h g types well same None is = same
    at_form h g types well same (Some new) is = is types well

    abbrev O : Formula → Formula
    O = replaced_over z x

    replaced_over_stays : (f : Formula) → Stays O f
    replaced_over_stays = formula_induction (Stays O)
        (λ n types well. ap M (formula_para (replaced_over_step z x) (IntF n) _ (rolls-Int n)))
        (λ name t types well. ap M (formula_para (replaced_over_step z x) (FreeF name t) _ (rolls-Free name t)))
        (λ k t types well. ap M (formula_para (replaced_over_step z x) (BoundF k t) _ (rolls-Bound k t)))
        (λ o parts t each types well.
        ap M (formula_para (replaced_over_step z x) (NodeF o parts t) _ (rolls-Node o parts t)
        ∙ (λ i. unwrap_or (without_override z x (Node o (members_of_pairs O parts i) t))
        (Node o (made_of_pairs O parts i) t)))
        ∙ at_form (Node o parts t) (Node o (map O parts) t) types well (changed_node O o parts t each types well) _
        (without_same (Node o parts t)))
        (λ b own parts t each types well.
        ap M (formula_para (replaced_over_step z x) (BindF b own parts t) _ (rolls-Bind b own parts t)
        ∙ (λ i. Bind b own (made_of_pairs O parts i) t)) ∙ changed_binder O b own parts t each types well)

    pub replaced_over_holds : (g : Formula) → IsWellIn g [] → holds U names (replaced_over z x g) ≡ holds U names g
    replaced_over_holds g well = λ i. truth_value U (replaced_over_stays g [] well i [])
