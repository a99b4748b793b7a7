-- What is known of a formula's variables, and the formula.
use Rattle.std.proofs.Common.{◌≡◌, ◌≢◌, ◌∙◌, sym, ap, refl, ℕ, suc, ◌+◌, List, [], ◌∷◌, ◌⊎◌, inl, inr, length, Option, Some, None}
use Rattle.formula_core.specs.declared.ty.Ty.{Ty}
use Rattle.formula_core.specs.declared.op.Op.{Op}
use Rattle.formula_core.specs.declared.op.Binder.{Binder}
use Rattle.formula_core.specs.declared.formula.Formula.{Formula}
use Rattle.formula_core.specs.declared.formula.Formula.TheVariants as formula
use Rattle.formula_core.specs.Rows.{row_of}
use Rattle.formula_core.specs.Schemes.{Scheme, result_scheme, binder_scheme, type_of_scheme}
use Rattle.unification.specs.Terms.{Open, instance_from}
use Rattle.unification.specs.Known.{type_at, closed_type}
use Rattle.unification.proofs.Terms.{value_of_scheme, letters_at}
use Rattle.unification.proofs.KnownTypes.{HasTypes, Differ, closed_value, open_differs}
use Rattle.type_formula.specs.Bare.{Bare, Bares, BareBounds, Number, Identifier, Form, Partition, Binding, Ascribed, Broken, nothing, more, unbound, plain, typed}
use Rattle.type_formula.specs.Scopes.{Scope, position_of}
use Rattle.type_formula.specs.Partition.{partition_of}
use Rattle.type_formula.specs.PrivateGenerated.{variable_width, with_variables, name_core, name_count}
use Rattle.type_formula.proofs.Built.{types_at, built, all_built}
use Rattle.type_formula.specs.PrivateClosed.{before, known_names, known_name, known_form, known_partition, known_binding, known, all_known}
use Rattle.type_formula.proofs.PartitionParts.{same_parts, same_type_of, same_free, same_bound, same_binder_parts, same_binder_type, same_bound_types, same_heads, same_tails, partition_same}

some_before : {A : Type 0} → (o : Option A) (p : Option (List A)) (us : List A) → before o p ≡ Some us → (t : A) × (ts : List A) × (o ≡ Some t) × (p ≡ Some ts) × (t ∷ ts ≡ us)
some_before None None us e = cc
some_before None (Some ts) us e = cc
some_before (Some t) None us e = cc
some_before (Some t) (Some ts) us e = (t, ts, refl, refl, cc)

none_before : {A : Type 0} → (o : Option A) (p : Option (List A)) → before o p ≡ None → (o ≡ None) ⊎ (p ≡ None)
none_before None p e = inl refl
none_before (Some t) None e = inr refl
none_before (Some t) (Some ts) e = cc

some_form : (op : Op) (o : Option Ty) (q : Option (List Formula)) (f : Formula) → known_form op o q ≡ Some f → (t : Ty) × (fs : List Formula) × (o ≡ Some t) × (q ≡ Some fs) × (formula.Node op fs t ≡ f)
some_form op (Some t) (Some fs) f e = (t, fs, refl, refl, cc)
some_form op (Some t) None f e = cc
some_form op None q f e = cc

none_form : (op : Op) (o : Option Ty) (q : Option (List Formula)) → known_form op o q ≡ None → (o ≡ None) ⊎ (q ≡ None)
none_form op (Some t) (Some fs) e = cc
none_form op (Some t) None e = inr refl
none_form op None q e = inl refl

some_partition : (q : Option (List Formula)) (f : Formula) → known_partition q ≡ Some f → (fs : List Formula) × (q ≡ Some fs) × (partition_of fs ≡ f)
some_partition (Some fs) f e = (fs, refl, cc)
some_partition None f e = cc

none_partition : (q : Option (List Formula)) → known_partition q ≡ None → q ≡ None
none_partition (Some fs) e = cc
none_partition None e = refl

some_binding : (b : Binder) (o : Option Ty) (p : Option (List Ty)) (q : Option (List Formula)) (f : Formula) → known_binding b o p q ≡ Some f → (t : Ty) × (ts : List Ty) × (fs : List Formula) × (o ≡ Some t) × (p ≡ Some ts) × (q ≡ Some fs) × (formula.Bind b ts fs t ≡ f)
some_binding b (Some t) (Some ts) (Some fs) f e = (t, ts, fs, refl, refl, refl, cc)
some_binding b (Some t) (Some ts) None f e = cc
some_binding b (Some t) None q f e = cc
some_binding b None p q f e = cc

none_binding : (b : Binder) (o : Option Ty) (p : Option (List Ty)) (q : Option (List Formula)) → known_binding b o p q ≡ None → (o ≡ None) ⊎ ((p ≡ None) ⊎ (q ≡ None))
none_binding b (Some t) (Some ts) (Some fs) e = cc
none_binding b (Some t) (Some ts) None e = inr (inr refl)
none_binding b (Some t) None q e = inr (inl refl)
none_binding b None p q e = inl refl

names_known : (v : ℕ → Ty) (ts : List (Option Ty)) → HasTypes v ts → (n : ℕ) (names : BareBounds) (us : List Ty) → known_names ts n names ≡ Some us → types_at v names n ≡ us
names_known v ts h n unbound us e = cc
names_known v ts h n (plain x names) us e =
    let p = some_before (type_at ts n) (known_names ts (suc n) names) us e in
    (λ i. h n p.0 p.2 i ∷ names_known v ts h (suc n) names p.1 p.3 i) ∙ p.4
names_known v ts h n (typed x t names) us e =
    let p = some_before (type_at ts n) (known_names ts (suc n) names) us e in
    (λ i. h n p.0 p.2 i ∷ names_known v ts h (suc n) names p.1 p.3 i) ∙ p.4

abbrev head_type : Ty → List Ty → Ty
head_type t [] = t
head_type t (u ∷ us) = u

abbrev tail_types : List Ty → List Ty
tail_types [] = []
tail_types (u ∷ us) = us

names_differ : (v w : ℕ → Ty) (ts : List (Option Ty)) → Differ v w ts → (n : ℕ) (names : BareBounds) → known_names ts n names ≡ None → types_at v names n ≢ types_at w names n
names_differ v w ts h n unbound e q = cc
names_differ v w ts h n (plain x names) e q =
    elim (none_before (type_at ts n) (known_names ts (suc n) names) e) [
      | inl a ↦ h n a (ap (head_type (v n)) q)
      | inr b ↦ names_differ v w ts h (suc n) names b (ap tail_types q)
    ]
names_differ v w ts h n (typed x t names) e q =
    elim (none_before (type_at ts n) (known_names ts (suc n) names) e) [
      | inl a ↦ h n a (ap (head_type (v n)) q)
      | inr b ↦ names_differ v w ts h (suc n) names b (ap tail_types q)
    ]

name_known : (v : ℕ → Ty) (ts : List (Option Ty)) → HasTypes v ts → (x : List ℕ) (n : ℕ) (place : Option (ℕ × Open)) (o : Option Ty) (f : Formula) → type_at ts n ≡ o → known_name x place o ≡ Some f → name_core x place (v n) ≡ f
name_known v ts h x n place None f is e = cc
name_known v ts h x n place (Some t) f is e = ap (name_core x place) (h n t is) ∙ some_is e
  where
    some_is : Some (name_core x place t) ≡ Some f → name_core x place t ≡ f
    some_is e = cc

name_differs : (x : List ℕ) (place : Option (ℕ × Open)) (t u : Ty) → name_core x place t ≡ name_core x place u → t ≡ u
name_differs x None t u e = same_free x t u e
name_differs x (Some p) t u e = same_bound p.0 t u e

name_none : (x : List ℕ) (place : Option (ℕ × Open)) (o : Option Ty) → known_name x place o ≡ None → o ≡ None
name_none x place None e = refl
name_none x place (Some t) e = cc

whole_known : (v : ℕ → Ty) (ts : List (Option Ty)) → HasTypes v ts → (n : ℕ) (s : Scheme) (t : Ty) → closed_type ts (instance_from n s) ≡ Some t → type_of_scheme (letters_at v n) s ≡ t
whole_known v ts h n s t e = sym (value_of_scheme v n s) ∙ closed_value v ts h (instance_from n s) t e

whole_differs : (v w : ℕ → Ty) (ts : List (Option Ty)) → Differ v w ts → (n : ℕ) (s : Scheme) → closed_type ts (instance_from n s) ≡ None → type_of_scheme (letters_at v n) s ≢ type_of_scheme (letters_at w n) s
whole_differs v w ts h n s e q = open_differs v w ts h (instance_from n s) e (value_of_scheme v n s ∙ q ∙ sym (value_of_scheme w n s))

length-built : (v w : ℕ → Ty) (bound : Scope Open) (bs : Bares) (n : ℕ) → length (all_built v bound bs n) ≡ length (all_built w bound bs n)
length-built v w bound nothing n = refl
length-built v w bound (more b bs) n = ap suc (length-built v w bound bs (n + variable_width b))

-- where all is known, the formula is the one that each assignment gives
mutual
  pub known_built : (v : ℕ → Ty) (ts : List (Option Ty)) → HasTypes v ts → (bound : Scope Open) (b : Bare) (n : ℕ) (f : Formula) → known ts bound b n ≡ Some f → built v bound b n ≡ f
  known_built v ts h bound (Number k) n f e = cc
  known_built v ts h bound (Identifier x place) n f e = name_known v ts h x n (position_of x bound) (type_at ts n) f refl e
  known_built v ts h bound (Form op parts) n f e =
      let s = some_form op (closed_type ts (instance_from n (result_scheme (row_of op)))) (all_known ts bound parts (n + 4)) f e in
      (λ i. formula.Node op (all_known_built v ts h bound parts (n + 4) s.1 s.3 i) (whole_known v ts h n (result_scheme (row_of op)) s.0 s.2 i)) ∙ s.4
  known_built v ts h bound (Partition parts) n f e =
      let s = some_partition (all_known ts bound parts (n + 4)) f e in
      ap partition_of (all_known_built v ts h bound parts (n + 4) s.0 s.1) ∙ s.2
  known_built v ts h bound (Binding binder names parts) n f e =
      let inner = with_variables names (n + 4) bound in
      let s = some_binding binder (closed_type ts (instance_from n (binder_scheme binder))) (known_names ts (n + 4) names) (all_known ts inner parts (n + 4 + name_count names)) f e in
      (λ i. formula.Bind binder (names_known v ts h (n + 4) names s.1 s.4 i) (all_known_built v ts h inner parts (n + 4 + name_count names) s.2 s.5 i) (whole_known v ts h n (binder_scheme binder) s.0 s.3 i)) ∙ s.6
  known_built v ts h bound (Ascribed x written) n f e = known_built v ts h bound x n f e
  known_built v ts h bound (Broken parts) n f e = cc

  all_known_built : (v : ℕ → Ty) (ts : List (Option Ty)) → HasTypes v ts → (bound : Scope Open) (bs : Bares) (n : ℕ) (fs : List Formula) → all_known ts bound bs n ≡ Some fs → all_built v bound bs n ≡ fs
  all_known_built v ts h bound nothing n fs e = cc
  all_known_built v ts h bound (more b bs) n fs e =
      let s = some_before (known ts bound b n) (all_known ts bound bs (n + variable_width b)) fs e in
      (λ i. known_built v ts h bound b n s.0 s.2 i ∷ all_known_built v ts h bound bs (n + variable_width b) s.1 s.3 i) ∙ s.4

-- where not all is known, two assignments that differ give two formulas
mutual
  pub built_differs : (v w : ℕ → Ty) (ts : List (Option Ty)) → Differ v w ts → (bound : Scope Open) (b : Bare) (n : ℕ) → known ts bound b n ≡ None → built v bound b n ≢ built w bound b n
  built_differs v w ts h bound (Number k) n e q = cc
  built_differs v w ts h bound (Identifier x place) n e q = h n (name_none x (position_of x bound) (type_at ts n) e) (name_differs x (position_of x bound) (v n) (w n) q)
  built_differs v w ts h bound (Form op parts) n e q =
      elim (none_form op (closed_type ts (instance_from n (result_scheme (row_of op)))) (all_known ts bound parts (n + 4)) e) [
        | inl a ↦ whole_differs v w ts h n (result_scheme (row_of op)) a (same_type_of op _ _ _ _ q)
        | inr b ↦ all_built_differ v w ts h bound parts (n + 4) b (same_parts op _ _ _ _ q)
      ]
  built_differs v w ts h bound (Partition parts) n e q =
      all_built_differ v w ts h bound parts (n + 4) (none_partition (all_known ts bound parts (n + 4)) e) (partition_same _ _ (length-built v w bound parts (n + 4)) q)
  built_differs v w ts h bound (Binding binder names parts) n e q =
      let inner = with_variables names (n + 4) bound in
      elim (none_binding binder (closed_type ts (instance_from n (binder_scheme binder))) (known_names ts (n + 4) names) (all_known ts inner parts (n + 4 + name_count names)) e) [
        | inl a ↦ whole_differs v w ts h n (binder_scheme binder) a (same_binder_type binder _ _ _ _ _ _ q)
        | inr b ↦ elim b [
          | inl c ↦ names_differ v w ts h (n + 4) names c (same_bound_types binder _ _ _ _ _ _ q)
          | inr d ↦ all_built_differ v w ts h inner parts (n + 4 + name_count names) d (same_binder_parts binder _ _ _ _ _ _ q)
        ]
      ]
  built_differs v w ts h bound (Ascribed x written) n e q = built_differs v w ts h bound x n e q
  built_differs v w ts h bound (Broken parts) n e q = cc

  all_built_differ : (v w : ℕ → Ty) (ts : List (Option Ty)) → Differ v w ts → (bound : Scope Open) (bs : Bares) (n : ℕ) → all_known ts bound bs n ≡ None → all_built v bound bs n ≢ all_built w bound bs n
  all_built_differ v w ts h bound nothing n e q = cc
  all_built_differ v w ts h bound (more b bs) n e q =
      elim (none_before (known ts bound b n) (all_known ts bound bs (n + variable_width b)) e) [
        | inl a ↦ built_differs v w ts h bound b n a (same_heads _ _ _ _ q)
        | inr c ↦ all_built_differ v w ts h bound bs (n + variable_width b) c (same_tails _ _ _ _ q)
      ]
