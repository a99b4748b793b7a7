-- What is made of the operands of a typed formula, where it has a form.
use Rattle.std.proofs.Common.{◌≡◌, ◌∙◌, sym, ap, subst, refl, Bool, true, false, ◌==◌, List, [], ◌∷◌, Option, Some, None, IfSome, slice_get, if◌then◌else◌}
use Rattle.std.specs.Option.{option_and_then, option_map}
use Rattle.std.proofs.lemmas.Bool.{eqb-true}
use Rattle.formula_core.specs.declared.Binder.{Binder}
use Rattle.formula_core.specs.declared.Binder.TheVariants as binder
use Rattle.formula_core.specs.declared.Op.{Op}
use Rattle.formula_core.specs.declared.op.TheConstants.{BINDERS}
use Rattle.formula_core.specs.declared.Ty.{Ty}
use Rattle.formula_core.specs.declared.Ty.TheOpen.{Ty-F, Pow as PowF, Pair as PairF}
use Rattle.formula_core.specs.declared.Ty.TheVariants as ty
use Rattle.formula_core.specs.declared.Ty.TheViews.{out-Ty, roll-Ty, roll-out-Ty, rolls-Pow, outs-Pow, outs-Pair}
use Rattle.formula_core.specs.declared.Formula.{Formula}
use Rattle.formula_core.specs.declared.Formula.TheOpen.{Formula-F, Int as IntF, Free as FreeF, Bound as BoundF, Node as NodeF, Bind as BindF}
use Rattle.formula_core.specs.declared.Formula.TheFolds.{fold-roll-Formula}
use Rattle.formula_core.specs.declared.Formula.TheVariants.{Node, Bind}
use Rattle.formula_core.specs.declared.Formula.TheViews.{out-Formula, roll-Formula, roll-out-Formula, rolls-Node, rolls-Bind, outs-Node}
use Rattle.formula_core.specs.Numbers.{number_of, binder_number_of}
use Rattle.formula_core.specs.Rows.{row_of}
use Rattle.formula_core.specs.Same.{same_formula_step, same_formula}
use Rattle.formula_core.specs.Schemes.{IsSchemeInstance, Letters, AreValues, type_of_scheme, operand_schemes, result_scheme, nullary_scheme, unary_scheme, binary_scheme}
use Rattle.formula_core.specs.declared.row.Row.TheVariants.{Nullary, Unary, Binary}
use Rattle.formula_core.specs.declared.row.NullaryRow.{NullaryRow}
use Rattle.formula_core.specs.declared.row.UnaryRow.{UnaryRow}
use Rattle.formula_core.specs.declared.row.BinaryRow.{BinaryRow}
use Rattle.formula_core.specs.Types.{members_at, members, components_at, components, relation}
use Rattle.formula_core.specs.Wellness.{type_of}
use Rattle.formula_core.proofs.SameFormulas.{same_formula_exact}
use Rattle.formula_core.proofs.Weakening.{both_true}
use Rattle.formula_core.proofs.WholeSets.{same_type_refl}
use Rattle.rule_table.specs.Shapes.{operands_at, operands, one_of, two_of, two_operands, on_one, on_none_of, on_none, bound_at, parts_of_binder, one_bound, two_bound, of_set}
use Rattle.made_rules.proofs.Typed.{Env, Is}
use Rattle.made_rules.proofs.Forms.{opened, opened_binder, OpenedBinder}

-- what stands in equal values
pub some : {X : Type 0} (x y : X) → Some x ≡ Some y → x ≡ y
some x y e = cc

-- operators of one number are one
operator_exact : (a b : Op) → (number_of a == number_of b) ≡ true → a ≡ b
operator_exact a b h =
    let at : same_formula (Node a [] ty.Truth) (Node b [] ty.Truth) ≡ same_formula_step (NodeF a [] ty.Truth) (NodeF b [] ty.Truth) =
    ap (λ s. same_formula s (Node b [] ty.Truth)) (sym (rolls-Node a [] ty.Truth))
    ∙ ap (λ t. t (Node b [] ty.Truth)) (fold-roll-Formula (Formula → Bool) (λ s v. same_formula_step s (out-Formula v)) (NodeF a [] ty.Truth))
    ∙ ap (same_formula_step (NodeF a [] ty.Truth)) (outs-Node b [] ty.Truth) in
    let same : Node a [] ty.Truth ≡ Node b [] ty.Truth =
    same_formula_exact _ _ (at ∙ both_true _ _ (both_true _ _ h refl) (same_type_refl ty.Truth)) in
    let apart : NodeF a [] ty.Truth ≡ NodeF b [] ty.Truth = sym (outs-Node a [] ty.Truth) ∙ ap out-Formula same ∙ outs-Node b [] ty.Truth in
    cc

binder_at : (b : Binder) → slice_get BINDERS (binder_number_of b) ≡ Some b
binder_at binder.ForAll = refl
binder_at binder.Exists = refl
binder_at binder.Comprehension = refl
binder_at binder.QuantifiedUnion = refl
binder_at binder.QuantifiedIntersection = refl

binder_exact : (a b : Binder) → (binder_number_of a == binder_number_of b) ≡ true → a ≡ b
binder_exact a b h =
    some a b (sym (binder_at a) ∙ ap (slice_get BINDERS) (eqb-true (binder_number_of a) (binder_number_of b) h) ∙ binder_at b)

-- a formula with operands is the operator on them
pub operands_are : (o : Op) (f : Formula) (parts : List Formula) → operands o f ≡ Some parts → (u : Ty) × (f ≡ Node o parts u)
operands_are o f parts e = go (out-Formula f) refl e
  where
    chosen : (a : Op) (ps : List Formula) (t : Ty) (b : Bool) → (number_of a == number_of o) ≡ b → out-Formula f ≡ NodeF a ps t
        → (if b then Some ps else None) ≡ Some parts → (u : Ty) × (f ≡ Node o parts u)
    chosen a ps t true h k e = (t, sym (roll-out-Formula f) ∙ ap roll-Formula k ∙ rolls-Node a ps t ∙ (λ i. Node (operator_exact a o h i) (some ps parts e i) t))
    chosen a ps t false h k e = absurd (cc)

    go : (x : Formula-F Formula) → out-Formula f ≡ x → operands_at o x ≡ Some parts → (u : Ty) × (f ≡ Node o parts u)
    go (IntF n) k e = absurd (cc)
    go (FreeF n t) k e = absurd (cc)
    go (BoundF n t) k e = absurd (cc)
    go (NodeF a ps t) k e = chosen a ps t (number_of a == number_of o) refl k e
    go (BindF b ts ps t) k e = absurd (cc)

abbrev with_types : List Ty → List Formula → List Ty × List Formula
with_types ts ps = (ts, ps)

bound_is : (b : Binder) (f : Formula) (types : List Ty) (parts : List Formula) → parts_of_binder b f ≡ Some (types, parts) → (u : Ty) × (f ≡ Bind b types parts u)
bound_is b f types parts e = go (out-Formula f) refl e
  where
    chosen : (a : Binder) (ts : List Ty) (ps : List Formula) (t : Ty) (c : Bool) → (binder_number_of a == binder_number_of b) ≡ c → out-Formula f ≡ BindF a ts ps t
        → (if c then Some (with_types ts ps) else None) ≡ Some (with_types types parts) → (u : Ty) × (f ≡ Bind b types parts u)
    chosen a ts ps t true h k e = (
      t,
      sym (roll-out-Formula f) ∙ ap roll-Formula k ∙ rolls-Bind a ts ps t
          ∙ (λ i. Bind (binder_exact a b h i) (some (with_types ts ps) (with_types types parts) e i).0 (some (with_types ts ps) (with_types types parts) e i).1 t),
    )
    chosen a ts ps t false h k e = absurd (cc)

    go : (x : Formula-F Formula) → out-Formula f ≡ x → bound_at b x ≡ Some (types, parts) → (u : Ty) × (f ≡ Bind b types parts u)
    go (IntF n) k e = absurd (cc)
    go (FreeF n t) k e = absurd (cc)
    go (BoundF n t) k e = absurd (cc)
    go (NodeF a ps t) k e = absurd (cc)
    go (BindF a ts ps t) k e = chosen a ts ps t (binder_number_of a == binder_number_of b) refl k e

-- what is made of what is there
module _ {X : Type 0} (Q : X → Type 0) where
  pub then_if : {Y : Type 0} (o : Option Y) (make : Y → Option X) → ((y : Y) → o ≡ Some y → IfSome (make y) Q) → IfSome (option_and_then make o) Q
  then_if None make h = tt
  then_if (Some y) make h = h y refl

  pub map_if : {Y : Type 0} (o : Option Y) (make : Y → X) → ((y : Y) → o ≡ Some y → Q (make y)) → IfSome (option_map make o) Q
  map_if None make h = tt
  map_if (Some y) make h = h y refl

  pub test_if : (b : Bool) (x : X) → (b ≡ true → Q x) → IfSome (if b then Some x else None) Q
  test_if true x h = h refl
  test_if false x h = tt

pub one_is : (parts : List Formula) (p : Formula) → one_of parts ≡ Some p → parts ≡ p ∷ []
one_is [] p e = absurd (cc)
one_is (q ∷ []) p e = ap (λ q. q ∷ []) (some q p e)
one_is (q ∷ r ∷ parts) p e = absurd (cc)

pub two_is : (parts : List Formula) (p q : Formula) → two_of parts ≡ Some (p, q) → parts ≡ p ∷ q ∷ []
two_is [] p q e = absurd (cc)
two_is (a ∷ []) p q e = absurd (cc)
two_is (a ∷ b ∷ []) p q e = let k = some (a, b) (p, q) e in λ i. (k i).0 ∷ (k i).1 ∷ []
two_is (a ∷ b ∷ c ∷ parts) p q e = absurd (cc)

none_is : {X : Type 0} (Q : X → Type 0) (made : Option X) (parts : List Formula) → (parts ≡ [] → IfSome made Q) → IfSome (on_none_of made parts) Q
none_is Q made [] h = h refl
none_is Q made (p ∷ parts) h = tt

pub head_is : {X : Type 0} (a b : X) (rest more : List X) → a ∷ rest ≡ b ∷ more → a ≡ b
head_is a b rest more e = cc

pub tail_is : {X : Type 0} (a b : X) (rest more : List X) → a ∷ rest ≡ b ∷ more → rest ≡ more
tail_is a b rest more e = cc

-- the operands of an operator of a row
pub record OfNone (row : NullaryRow) (t : Ty) : Type 0 where
  pub letters : Letters
  pub values : AreValues letters
  pub whole : t ≡ type_of_scheme letters (nullary_scheme row)

pub record OfOne (env : Env) (bound : List Ty) (row : UnaryRow) (t : Ty) (p : Formula) : Type 0 where
  pub letters : Letters
  pub values : AreValues letters
  pub part : Is env bound (type_of_scheme letters (unary_scheme row).0) p
  pub whole : t ≡ type_of_scheme letters (unary_scheme row).1

pub record OfTwo (env : Env) (bound : List Ty) (row : BinaryRow) (t : Ty) (p q : Formula) : Type 0 where
  pub letters : Letters
  pub values : AreValues letters
  pub left : Is env bound (type_of_scheme letters (binary_scheme row).0) p
  pub right : Is env bound (type_of_scheme letters (binary_scheme row).1) q
  pub whole : t ≡ type_of_scheme letters (binary_scheme row).2

module _ (env : Env) (bound : List Ty) where
  typed_as : (t u : Ty) (f : Formula) → type_of f ≡ u → Is env bound t f → Is env bound u f
  typed_as t u f e h = record { type = e; well = h.well; names = h.names }

  pub none_opened : (o : Op) (row : NullaryRow) → row_of o ≡ Nullary row → (t u : Ty) → Is env bound t (Node o [] u) → OfNone row t
  none_opened o row r t u h =
      let is : IsSchemeInstance [] (nullary_scheme row) [] t =
      subst (λ x. IsSchemeInstance (operand_schemes x 0) (result_scheme x) [] t) r (opened env bound o [] u t h).fit in
      record { letters = is.letters; values = is.values; whole = is.whole_is }

  pub one_opened : (o : Op) (row : UnaryRow) → row_of o ≡ Unary row → (p : Formula) (t u : Ty) → Is env bound t (Node o (p ∷ []) u) → OfOne env bound row t p
  one_opened o row r p t u h =
      let v = opened env bound o (p ∷ []) u t h in
      let is : IsSchemeInstance ((unary_scheme row).0 ∷ []) (unary_scheme row).1 (type_of p ∷ []) t =
      subst (λ x. IsSchemeInstance (operand_schemes x 1) (result_scheme x) (type_of p ∷ []) t) r v.fit in
      record {
        letters = is.letters;
        values = is.values;
        part = typed_as (type_of p) _ p (head_is _ _ _ _ is.operands_are) v.operands.0;
        whole = is.whole_is;
      }

  pub two_opened : (o : Op) (row : BinaryRow) → row_of o ≡ Binary row → (p q : Formula) (t u : Ty) → Is env bound t (Node o (p ∷ q ∷ []) u) → OfTwo env bound row t p q
  two_opened o row r p q t u h =
      let v = opened env bound o (p ∷ q ∷ []) u t h in
      let is : IsSchemeInstance ((binary_scheme row).0 ∷ (binary_scheme row).1 ∷ []) (binary_scheme row).2 (type_of p ∷ type_of q ∷ []) t =
      subst (λ x. IsSchemeInstance (operand_schemes x 2) (result_scheme x) (type_of p ∷ type_of q ∷ []) t) r v.fit in
      record {
        letters = is.letters;
        values = is.values;
        left = typed_as (type_of p) _ p (head_is _ _ _ _ is.operands_are) v.operands.0;
        right = typed_as (type_of q) _ q (head_is _ _ _ _ (tail_is _ _ _ _ is.operands_are)) v.operands.1.0;
        whole = is.whole_is;
      }

  pub two_found : (t : Ty) (f : Formula) → Is env bound t f → (o : Op) (row : BinaryRow) → row_of o ≡ Binary row → (x : Formula × Formula) → two_operands o f ≡ Some x
      → OfTwo env bound row t x.0 x.1
  two_found t f h o row r x e = go (operands o f) refl e
    where
      go : (ps : Option (List Formula)) → operands o f ≡ ps → option_and_then two_of ps ≡ Some x → OfTwo env bound row t x.0 x.1
      go None z e = absurd (cc)
      go (Some parts) z e =
          let is = operands_are o f parts z in
          two_opened o row r x.0 x.1 t is.0 (subst (Is env bound t) (is.1 ∙ ap (λ ps. Node o ps is.0) (two_is parts x.0 x.1 e)) h)

  pub binder_found : (t : Ty) (f : Formula) → Is env bound t f → (b : Binder) (x : List Ty × Formula) → one_bound b f ≡ Some x → OpenedBinder env bound b x.0 (x.1 ∷ []) t
  binder_found t f h b x e = go (parts_of_binder b f) refl e
    where
      at_one : (types : List Ty) (parts : List Formula) → parts_of_binder b f ≡ Some (types, parts) → (o : Option Formula) → one_of parts ≡ o
          → option_map (λ p. (types, p)) o ≡ Some x → OpenedBinder env bound b x.0 (x.1 ∷ []) t
      at_one types parts z None l e = absurd (cc)
      at_one types parts z (Some p) l e =
          let is = bound_is b f types parts z in
          subst (λ y. OpenedBinder env bound b y.0 (y.1 ∷ []) t) (some (types, p) x e)
          (opened_binder env bound b types (p ∷ []) is.0 t (subst (Is env bound t) (is.1 ∙ ap (λ ps. Bind b types ps is.0) (one_is parts p l)) h))

      go : (ps : Option (List Ty × List Formula)) → parts_of_binder b f ≡ ps → option_and_then (λ y. option_map (λ p. (y.0, p)) (one_of y.1)) ps ≡ Some x → OpenedBinder env bound b x.0 (x.1 ∷ []) t
      go None z e = absurd (cc)
      go (Some y) z e = at_one y.0 y.1 z (one_of y.1) refl e

  module _ {X : Type 0} (Q : X → Type 0) (t : Ty) (f : Formula) (h : Is env bound t f) where
    pub on_none_if : (o : Op) (row : NullaryRow) → row_of o ≡ Nullary row → (made : Option X) → (OfNone row t → IfSome made Q) → IfSome (on_none o f made) Q
    on_none_if o row r made k =
        then_if Q (operands o f) (on_none_of made) (λ parts e. none_is Q made parts (λ z.
        let is = operands_are o f parts e in
        k (none_opened o row r t is.0 (subst (Is env bound t) (is.1 ∙ ap (λ ps. Node o ps is.0) z) h))))

    pub on_one_if : (o : Op) (row : UnaryRow) → row_of o ≡ Unary row → (make : Formula → Option X) → ((p : Formula) → OfOne env bound row t p → IfSome (make p) Q)
        → IfSome (on_one o f make) Q
    on_one_if o row r make k =
        then_if Q (option_and_then one_of (operands o f)) make (λ p e. go (operands o f) refl p e)
      where
        go : (ps : Option (List Formula)) → operands o f ≡ ps → (p : Formula) → option_and_then one_of ps ≡ Some p → IfSome (make p) Q
        go None z p e = absurd (cc)
        go (Some parts) z p e =
            let is = operands_are o f parts z in
            k p (one_opened o row r p t is.0 (subst (Is env bound t) (is.1 ∙ ap (λ ps. Node o ps is.0) (one_is parts p e)) h))

    pub on_two_if : (o : Op) (row : BinaryRow) → row_of o ≡ Binary row → (make : Formula × Formula → Option X)
        → ((p q : Formula) → OfTwo env bound row t p q → IfSome (make (p, q)) Q) → IfSome (option_and_then make (two_operands o f)) Q
    on_two_if o row r make k = then_if Q (two_operands o f) make (λ x e. k x.0 x.1 (two_found t f h o row r x e))

    -- a binder with one part or two
    pub under_binder_if : (b : Binder) (make : List Ty × Formula → Option X) → ((types : List Ty) (p : Formula) → OpenedBinder env bound b types (p ∷ []) t → IfSome (make (types, p)) Q)
        → IfSome (option_and_then make (one_bound b f)) Q
    under_binder_if b make k = then_if Q (one_bound b f) make (λ x e. k x.0 x.1 (binder_found t f h b x e))

    pub under_two_if : (b : Binder) (make : List Ty × Formula × Formula → Option X)
        → ((types : List Ty) (p q : Formula) → OpenedBinder env bound b types (p ∷ q ∷ []) t → IfSome (make (types, p, q)) Q) → IfSome (option_and_then make (two_bound b f)) Q
    under_two_if b make k = then_if Q (two_bound b f) make (λ x e. go (parts_of_binder b f) refl x e)
      where
        at_two : (types : List Ty) (parts : List Formula) → parts_of_binder b f ≡ Some (types, parts) → (o : Option (Formula × Formula)) → two_of parts ≡ o
            → (x : List Ty × Formula × Formula) → option_map (λ p. (types, p.0, p.1)) o ≡ Some x → IfSome (make x) Q
        at_two types parts z None l x e = absurd (cc)
        at_two types parts z (Some p) l x e =
            let is = bound_is b f types parts z in
            subst (λ y. IfSome (make y) Q) (some (types, p.0, p.1) x e)
            (k types p.0 p.1 (opened_binder env bound b types (p.0 ∷ p.1 ∷ []) is.0 t (subst (Is env bound t) (is.1 ∙ ap (λ ps. Bind b types ps is.0) (two_is parts p.0 p.1 l)) h)))

        go : (ps : Option (List Ty × List Formula)) → parts_of_binder b f ≡ ps → (x : List Ty × Formula × Formula)
            → option_and_then (λ y. option_map (λ p. (y.0, p.0, p.1)) (two_of y.1)) ps ≡ Some x → IfSome (make x) Q
        go None z x e = absurd (cc)
        go (Some y) z x e = at_two y.0 y.1 z (two_of y.1) refl x e

-- the members of a set, and the components of a relation
pub power_exact : (t u : Ty) → ty.Pow t ≡ ty.Pow u → t ≡ u
power_exact t u e = let k : PowF t ≡ PowF u = sym (outs-Pow t) ∙ ap out-Ty e ∙ outs-Pow u in cc

pub pair_left : (t u v w : Ty) → ty.Pair t u ≡ ty.Pair v w → t ≡ v
pair_left t u v w e = let k : PairF t u ≡ PairF v w = sym (outs-Pair t u) ∙ ap out-Ty e ∙ outs-Pair v w in cc

pub pair_right : (t u v w : Ty) → ty.Pair t u ≡ ty.Pair v w → u ≡ w
pair_right t u v w e = let k : PairF t u ≡ PairF v w = sym (outs-Pair t u) ∙ ap out-Ty e ∙ outs-Pair v w in cc

pub of_set_if : {X : Type 0} (Q : X → Type 0) (f : Formula) (α : Ty) (make : Ty → Option X) → type_of f ≡ ty.Pow α → IfSome (make α) Q → IfSome (of_set f make) Q
of_set_if Q f α make e h = subst (λ o. IfSome (option_and_then make o) Q) (sym (ap members e ∙ ap members_at (outs-Pow α))) h

pub of_relation_if : {X : Type 0} (Q : X → Type 0) (f : Formula) (α β : Ty) (make : Ty × Ty → Option X) → type_of f ≡ ty.Pow (ty.Pair α β) → IfSome (make (α, β)) Q
    → IfSome (option_and_then make (relation (type_of f))) Q
of_relation_if Q f α β make e h =
    subst (λ o. IfSome (option_and_then make o) Q)
    (sym (ap relation e ∙ ap (λ x. option_and_then components (members_at x)) (outs-Pow (ty.Pair α β)) ∙ ap components_at (outs-Pair α β))) h

-- a set, whatever its members are
members_view : (t u : Ty) → members t ≡ Some u → t ≡ ty.Pow u
members_view t u e = sym (roll-out-Ty t) ∙ go (out-Ty t) e
  where
    go : (y : Ty-F Ty) → members_at y ≡ Some u → roll-Ty y ≡ ty.Pow u
    go (PowF v) k = rolls-Pow v ∙ ap ty.Pow (some v u k)
    go _ k = absurd (cc)

pub of_set_some : {X : Type 0} (Q : X → Type 0) (f : Formula) (make : Ty → Option X) → ((α : Ty) → type_of f ≡ ty.Pow α → IfSome (make α) Q) → IfSome (of_set f make) Q
of_set_some Q f make k = then_if Q (members (type_of f)) make (λ α e. k α (members_view (type_of f) α e))
