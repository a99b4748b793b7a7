-- Rows that add names: the body with the names for what it binds is typed in the environment with these names.
use Rattle.std.proofs.Common.{◌≡◌, ◌∙◌, sym, ap, subst, refl, ℕ, Bool, true, false, cond, ◌||◌, ◌==◌, List, [], ◌∷◌, ◌++◌, map, reverse, zip, length, Some, None, IfSome, IsTrue, if◌then◌else◌, append-nil, arith}
use Rattle.std.specs.Prelude.{bytes_eq}
use Rattle.std.specs.List.{AllByRecursion, IsDistinct, list_all}
use Rattle.std.specs.Map.{keys_of}
use Rattle.std.specs.Option.{option_map}
use Rattle.std.specs.Cmp.Lexicographic.{same_text}
use Rattle.std.proofs.lemmas.Bool.{eqb-true, eq-eqb}
use Rattle.std.proofs.lemmas.Slice.Eq.{bytes_eq-Decides}
use Rattle.formula_core.specs.declared.Binder.TheVariants as binder
use Rattle.formula_core.specs.declared.Ty.{Ty}
use Rattle.formula_core.specs.declared.Ty.TheVariants as ty
use Rattle.formula_core.specs.declared.Formula.{Formula}
use Rattle.formula_core.specs.Env.{HasDistinctNames, type_in}
use Rattle.formula_core.specs.Formulas.{joined, instantiated}
use Rattle.formula_core.specs.Identifiers.{carriers, identifiers}
use Rattle.formula_core.specs.Laws.{IsWithin}
use Rattle.formula_core.specs.Shifting.{as_terms}
use Rattle.formula_core.specs.Typed.{Stands, IsTypedIn}
use Rattle.formula_core.specs.Types.{is_value_type}
use Rattle.formula_core.specs.Wellness.{type_of, may_be_bound, is_well, is_well_in}
use Rattle.formula_core.proofs.Equations.{identifiers-Free}
use Rattle.formula_core.proofs.InstantiatedWell.{instantiated_is_well}
use Rattle.formula_core.proofs.Keeping.{front, back, all_more, instantiated_keeps}
use Rattle.formula_core.proofs.TypedIn.{stands_more}
use Rattle.formula_core.proofs.Weakening.{first_true, second_true}
use Rattle.formula_core.proofs.Wellness.{well-Free}
use Rattle.well_defined.proofs.Types.{type-Free}
use Rattle.rule_table.specs.Rows.{named, new_goal, new_hyp, all_r, ex_l, backward, forward}
use Rattle.rule_table.specs.Rules.{is_named}
use Rattle.made_rules.proofs.Typed.{Env, Is}
use Rattle.made_rules.proofs.Fitting.{IsLeftIn}
use Rattle.made_rules.proofs.Forms.{OpenedBinder}
use Rattle.made_rules.proofs.OfLogic.{body_is}
use Rattle.made_rules.proofs.Operands.{under_binder_if}

-- new names are in no environment, and none stands there twice
pub record AreNew (env : Env) (names : List (List ℕ)) : Type 0 where
  pub fresh : AllByRecursion (λ x. type_in env x ≡ None) names
  pub distinct : IsDistinct bytes_eq names

shorter : {X Y : Type 0} (x : X) (xs : List X) (y : Y) (ys : List Y) → (length (x ∷ xs) == length (y ∷ ys)) ≡ true → (length xs == length ys) ≡ true
shorter x xs y ys h = eq-eqb (length xs) (length ys) (omega (arith, eqb-true (length (x ∷ xs)) (length (y ∷ ys)) h))

keys_are : (names : List (List ℕ)) (types : List Ty) → (length names == length types) ≡ true → keys_of (zip names types) ≡ names
keys_are [] types h = refl
keys_are (x ∷ names) [] h = absurd (omega (arith, eqb-true (length (x ∷ names)) 0 h))
keys_are (x ∷ names) (t ∷ types) h = ap (λ xs. x ∷ xs) (keys_are names types (shorter x names t types h))

types_are : (names : List (List ℕ)) (types : List Ty) → (length names == length types) ≡ true → map type_of (as_terms (zip names types)) ≡ types
types_are [] [] h = refl
types_are [] (t ∷ types) h = absurd (omega (arith, eqb-true 0 (length (t ∷ types)) h))
types_are (x ∷ names) [] h = absurd (omega (arith, eqb-true (length (x ∷ names)) 0 h))
types_are (x ∷ names) (t ∷ types) h = λ i. type-Free x t i ∷ types_are names types (shorter x names t types h) i

module _ (P : List ℕ → Type 0) (Q : Ty → Type 0) where
  zipped : (names : List (List ℕ)) (types : List Ty) → AllByRecursion P names → AllByRecursion Q types → AllByRecursion (λ x. P x.0 × Q x.1) (zip names types)
  zipped [] types h k = tt
  zipped (x ∷ names) [] h k = tt
  zipped (x ∷ names) (t ∷ types) h k = ((h.0, k.0), zipped names types h.1 k.1)

module _ (P : List ℕ × Ty → Type 0) where
  pub carriers_each : (types : List Ty) → AllByRecursion P (joined (map carriers types)) → AllByRecursion (λ t. AllByRecursion P (carriers t)) types
  carriers_each [] h = tt
  carriers_each (t ∷ types) h = (front P (carriers t) (joined (map carriers types)) h, carriers_each types (back P (carriers t) (joined (map carriers types)) h))

values_each : (types : List Ty) → may_be_bound types ≡ true → AllByRecursion (λ t. is_value_type t ≡ true) types
values_each [] h = absurd (cc)
values_each (t ∷ types) h = (first_true _ _ h, go types (second_true (is_value_type t) _ h))
  where
    go : (ts : List Ty) → list_all is_value_type ts ≡ true → AllByRecursion (λ t. is_value_type t ≡ true) ts
    go [] h = tt
    go (u ∷ ts) h = (first_true _ _ h, go ts (second_true (is_value_type u) _ h))

-- each of several distinct names stands in an environment behind which they are put
later : (env ids : Env) (name : List ℕ) → type_in env name ≡ None → type_in (env ++ ids) name ≡ type_in ids name
later [] ids name h = refl
later (x ∷ env) ids name h = at (bytes_eq name x.0) (λ k. later env ids name k) h
  where
    at : (c : Bool) → (type_in env name ≡ None → type_in (env ++ ids) name ≡ type_in ids name) → cond c (Some x.1) (type_in env name) ≡ None
        → cond c (Some x.1) (type_in (env ++ ids) name) ≡ type_in ids name
    at true f k = absurd (cc)
    at false f k = f k

pub turned : (x y : List ℕ) → bytes_eq y x ≡ false → bytes_eq x y ≡ false
turned x y e = at (bytes_eq x y) refl
  where
    at : (c : Bool) → bytes_eq x y ≡ c → c ≡ false
    at true k = let d : bytes_eq y x ≡ true = (bytes_eq-Decides y x).1 (sym (same_text x y (sym k))) in cc
    at false k = refl

-- the names are found among themselves, behind one that is none of them
each_there : (ids : Env) → HasDistinctNames ids → AllByRecursion (Stands ids) ids
unfolding IsDistinct
each_there [] d = tt
each_there (y ∷ ids) d = (here (bytes_eq y.0 y.0) ((bytes_eq-Decides y.0 y.0).1 refl), go ids d.0 (each_there ids d.1))
  where
    here : (c : Bool) → c ≡ true → cond c (Some y.1) (type_in ids y.0) ≡ Some y.1
    here true e = refl
    here false e = absurd (cc)

    past : (x : List ℕ × Ty) (c : Bool) → c ≡ false → Stands ids x → cond c (Some y.1) (type_in ids x.0) ≡ Some x.1
    past x true e h = absurd (cc)
    past x false e h = h

    go : (xs : Env) → AllByRecursion (λ z. bytes_eq y.0 z ≡ false) (keys_of xs) → AllByRecursion (Stands ids) xs → AllByRecursion (Stands (y ∷ ids)) xs
    go [] a h = tt
    go (x ∷ xs) a h = (past x (bytes_eq x.0 y.0) (turned x.0 y.0 a.0) h.0, go xs a.1 h.1)

-- a name that stands among others is named by them
pub or_false : (a b : Bool) → (a || b) ≡ false → (a ≡ false) × (b ≡ false)
or_false true b e = absurd (cc)
or_false false b e = (refl, e)

nowhere : (ids : Env) (x : List ℕ × Ty) → Stands ids x → is_named (ids ++ []) x.0 ≡ false → ⊥
nowhere [] x h e = absurd (cc)
nowhere (y ∷ ids) x h e = at (bytes_eq x.0 y.0) refl h (λ k. nowhere ids x k (or_false (bytes_eq y.0 x.0) (is_named (ids ++ []) x.0) e).1)
  where
    at : (c : Bool) → bytes_eq x.0 y.0 ≡ c → cond c (Some y.1) (type_in ids x.0) ≡ Some x.1 → (Stands ids x → ⊥) → ⊥
    at true k h f =
        let one : bytes_eq y.0 x.0 ≡ true = (bytes_eq-Decides y.0 x.0).1 (sym (same_text x.0 y.0 (sym k))) in
        let none : bytes_eq y.0 x.0 ≡ false = (or_false (bytes_eq y.0 x.0) (is_named (ids ++ []) x.0) e).0 in
        absurd (cc)
    at false k h f = f h

-- what stands behind an environment and isn't named there stands in the environment
before : (env ids : Env) (x : List ℕ × Ty) → Stands (env ++ ids) x → is_named (ids ++ []) x.0 ≡ false → Stands env x
before [] ids x h e = absurd (nowhere ids x h e)
before (y ∷ env) ids x h e = at (bytes_eq x.0 y.0) (λ k. before env ids x k e) h
  where
    at : (c : Bool) → (Stands (env ++ ids) x → Stands env x) → cond c (Some y.1) (type_in (env ++ ids) x.0) ≡ Some x.1 → cond c (Some y.1) (type_in env x.0) ≡ Some x.1
    at true f k = k
    at false f k = f k

module _ (env : Env) (names : List (List ℕ)) (new : AreNew env names) (types : List Ty) (may : may_be_bound types ≡ true) (own : AllByRecursion (Stands env) (joined (map carriers types)))
    (p : Formula) (body : Is env (reverse types ++ []) ty.Truth p) (many : (length names == length types) ≡ true) where
  abbrev ids : Env
  ids = zip names types

  abbrev wide : Env
  wide = env ++ ids

  distinct : HasDistinctNames ids
  distinct = subst (IsDistinct bytes_eq) (sym (keys_are names types many)) new.distinct

  absent : AllByRecursion (λ x. type_in env x.0 ≡ None) ids
  absent = all_more (λ x. (type_in env x.0 ≡ None) × (is_value_type x.1 ≡ true)) (λ x. type_in env x.0 ≡ None) (λ x h. h.0) ids
      (zipped (λ x. type_in env x ≡ None) (λ t. is_value_type t ≡ true) names types new.fresh (values_each types may))

  stand : (xs : Env) → AllByRecursion (λ x. type_in env x.0 ≡ None) xs → AllByRecursion (Stands ids) xs → AllByRecursion (Stands wide) xs
  stand [] a h = tt
  stand (x ∷ xs) a h = (later env ids x.0 a.0 ∙ h.0, stand xs a.1 h.1)

  named_there : AllByRecursion (Stands wide) ids
  named_there = stand ids absent (each_there ids distinct)

  sorts : AllByRecursion (λ x. (is_value_type x.1 ≡ true) × AllByRecursion (Stands env) (carriers x.1)) ids
  sorts = all_more (λ x. (type_in env x.0 ≡ None) × ((is_value_type x.1 ≡ true) × AllByRecursion (Stands env) (carriers x.1)))
      (λ x. (is_value_type x.1 ≡ true) × AllByRecursion (Stands env) (carriers x.1)) (λ x h. h.1) ids
      (zipped (λ x. type_in env x ≡ None) (λ t. (is_value_type t ≡ true) × AllByRecursion (Stands env) (carriers t)) names types new.fresh
      (paired types (values_each types may) (carriers_each (Stands env) types own)))
    where
      paired : (ts : List Ty) → AllByRecursion (λ t. is_value_type t ≡ true) ts → AllByRecursion (λ t. AllByRecursion (Stands env) (carriers t)) ts
          → AllByRecursion (λ t. (is_value_type t ≡ true) × AllByRecursion (Stands env) (carriers t)) ts
      paired [] a b = tt
      paired (t ∷ ts) a b = ((a.0, b.0), paired ts a.1 b.1)

  within : IsWithin env wide
  within = stands_more env ids

  terms_typed : (xs : Env) → AllByRecursion (Stands wide) xs → AllByRecursion (λ x. (is_value_type x.1 ≡ true) × AllByRecursion (Stands env) (carriers x.1)) xs
      → AllByRecursion (IsTypedIn wide) (as_terms xs)
  terms_typed [] h k = tt
  terms_typed (x ∷ xs) h k = (
    record {
      well = well-Free x.0 x.1 [] ∙ k.0.0;
      names = subst (AllByRecursion (Stands wide)) (sym (identifiers-Free x.0 x.1)) (h.0, all_more (Stands env) (Stands wide) within (carriers x.1) k.0.1);
    },
    terms_typed xs h.1 k.1,
  )

  abbrev made : Formula
  made = instantiated (as_terms ids) 0 p

  made_typed : IsTypedIn wide made
  made_typed =
      let typed = terms_typed ids named_there sorts in
      record {
        well = instantiated_is_well (as_terms ids) p (all_more (IsTypedIn wide) (λ f. IsTrue (is_well f)) (λ f t. t.well) (as_terms ids) typed)
            (ap (λ ts. is_well_in p (reverse ts)) (types_are names types many) ∙ ap (is_well_in p) (sym (append-nil (reverse types))) ∙ body.well);
        names = instantiated_keeps (Stands wide) (as_terms ids) (all_more (IsTypedIn wide) (λ f. AllByRecursion (Stands wide) (identifiers f)) (λ f t. t.names) (as_terms ids) typed) p 0
            (all_more (Stands env) (Stands wide) within (identifiers p) body.names);
      }

  pub goal_left : (g : Formula) → IsLeftIn env (backward g (new_goal ids p ∷ []))
  goal_left g = record {
    wide = wide;
    within = within;
    outside = λ x h e. before env ids x h e;
    formulas = ((made_typed, tt), tt);
    distinct = (distinct, tt);
    fresh = (absent, tt);
  }

  pub hyp_left : (hyps : List Formula) → IsLeftIn env (forward hyps (new_hyp ids p ∷ []))
  hyp_left hyps = record {
    wide = wide;
    within = within;
    outside = λ x h e. before env ids x h e;
    formulas = ((made_typed, tt), tt);
    distinct = (distinct, tt);
    fresh = (absent, tt);
  }

module _ (env : Env) (names : List (List ℕ)) (new : AreNew env names) (f : Formula) (h : Is env [] ty.Truth f) where
  pub all_r_is : IfSome (all_r names f) (IsLeftIn env)
  unfolding named
  all_r_is = under_binder_if env [] (IsLeftIn env) ty.Truth f h binder.ForAll _ (λ types p w. at types p w (length names == length types) refl)
    where
      at : (types : List Ty) (p : Formula) (w : OpenedBinder env [] binder.ForAll types (p ∷ []) ty.Truth) (c : Bool) → (length names == length types) ≡ c
          → IfSome (option_map (λ ids. backward f (new_goal ids p ∷ [])) (if c then Some (zip names types) else None)) (IsLeftIn env)
      at types p w true e = goal_left env names new types w.may w.own p (body_is env [] binder.ForAll refl types p ty.Truth w) e f
      at types p w false e = tt

  pub ex_l_is : IfSome (ex_l names f) (IsLeftIn env)
  unfolding named
  ex_l_is = under_binder_if env [] (IsLeftIn env) ty.Truth f h binder.Exists _ (λ types p w. at types p w (length names == length types) refl)
    where
      at : (types : List Ty) (p : Formula) (w : OpenedBinder env [] binder.Exists types (p ∷ []) ty.Truth) (c : Bool) → (length names == length types) ≡ c
          → IfSome (option_map (λ ids. forward (f ∷ []) (new_hyp ids p ∷ [])) (if c then Some (zip names types) else None)) (IsLeftIn env)
      at types p w true e = hyp_left env names new types w.may w.own p (body_is env [] binder.Exists refl types p ty.Truth w) e (f ∷ [])
      at types p w false e = tt
