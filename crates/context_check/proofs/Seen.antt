-- What a repeated reference brings.
use Rattle.std.proofs.Common.{◌≡◌, ◌<◌, ◌∙◌, sym, ap, refl, subst, ℕ, zero, suc, Bool, true, false, not, cond, ◌||◌, List, [], ◌∷◌, ◌++◌, map, filter, length, get_or, bytes_eq, arith}
use Rattle.std.specs.Prelude.{Option, Some, None}
use Rattle.std.specs.Borrow.{Bor}
use Rattle.std.specs.BTreeMap.{BTreeMap}
use Rattle.std.specs.BTreeMap as tree
use Rattle.std.specs.Cmp.Lexicographic.{slice_cmp}
use Rattle.std.specs.List.{AllByRecursion, zip}
use Rattle.std.specs.Map.{lookup}
use Rattle.std.specs.Option.{option_map}
use Rattle.std.specs.Ordering.{nat_cmp, is_eq}
use Rattle.std.proofs.lemmas.Cmp.{nat_list_eq_equiv}
use Rattle.std.proofs.lemmas.List.{map-append}
use Rattle.std.proofs.lemmas.Map.Text.{btree_map_updates_str}
use Rattle.std.proofs.lemmas.Slice.Eq.{bytes_eq-Decides}
use Rattle.formula_core.specs.declared.raw.Ref.{Ref}
use Rattle.model_core.specs.declared.checked.CheckedContext.{CheckedContext}
use Rattle.model_core.specs.Each.{is_among}
use Rattle.model_core.proofs.Lists.{any_append}
use Rattle.check_rules.specs.Components.{AreByName}
use Rattle.check_rules.specs.Visible.{Visible, WithOrigin, of_context, origins, with_context, with_new}
use Rattle.context_check.specs.Brought.{AreNoted, IsSeen, clash_in}
use Rattle.context_check.proofs.Views.{append_none}

pub false_true : {A : Type 0} → false ≡ true → A
false_true e = absurd (unequal e)
  where
    unequal : false ≡ true → ⊥
    unequal h = cc

true_or : (a b : Bool) → a ≡ true → (a || b) ≡ true
true_or true b e = refl
true_or false b e = false_true e

abbrev value_or : {X : Type 0} → X → Option X → X
value_or x None = x
value_or x (Some y) = y

some_same : {X : Type 0} (x y : X) → Some x ≡ Some y → x ≡ y
some_same x y e = ap (value_or x) e

-- of parts with keys, those whose keys are unknown
module _ {X : Type 0} (key : X → List ℕ) where
  abbrev fresh : (List ℕ → Bool) → List X → List X
  fresh known xs = filter (λ x. not (known (key x))) xs

  none_fresh : (known : List ℕ → Bool) (xs : List X) → AllByRecursion (λ x. known (key x) ≡ true) xs → fresh known xs ≡ []
  none_fresh known [] a = refl
  none_fresh known (x ∷ xs) a = ap (λ b. cond (not b) (x ∷ fresh known xs) (fresh known xs)) a.0 ∙ none_fresh known xs a.1

  -- what is known or fresh
  all_there : (known : List ℕ → Bool) (xs : List X) → AllByRecursion (λ x. (known (key x) || is_among (map key (fresh known xs)) (key x)) ≡ true) xs
  all_there known [] = tt
  all_there known (x ∷ xs) = (here (known (key x)), each (known (key x)) refl xs (all_there known xs))
    where
      rest : List X
      rest = fresh known xs

      here : (b : Bool) → (b || is_among (map key (cond (not b) (x ∷ rest) rest)) (key x)) ≡ true
      here true = refl
      here false = ap (λ e. e || is_among (map key rest) (key x)) (nat_list_eq_equiv.refl (key x))

      one : (b : Bool) (k : List ℕ) (a r : Bool) → (a || r) ≡ true → (a || (bytes_eq k (key x) || r)) ≡ true
      one b k true r e = refl
      one b k false r e = ap (λ s. bytes_eq k (key x) || s) e ∙ or_true (bytes_eq k (key x))
        where
          or_true : (c : Bool) → (c || true) ≡ true
          or_true true = refl
          or_true false = refl

      each : (b : Bool) → known (key x) ≡ b → (ys : List X) → AllByRecursion (λ y. (known (key y) || is_among (map key rest) (key y)) ≡ true) ys
          → AllByRecursion (λ y. (known (key y) || is_among (map key (cond (not b) (x ∷ rest) rest)) (key y)) ≡ true) ys
      each b is [] a = tt
      each true is (y ∷ ys) a = (a.0, each true is ys a.1)
      each false is (y ∷ ys) a = (one false (key y) (known (key y)) (is_among (map key rest) (key y)) a.0, each false is ys a.1)

  among_more : (old : List (List ℕ)) (more : List (List ℕ)) (xs : List X) → AllByRecursion (λ x. is_among old (key x) ≡ true) xs → AllByRecursion (λ x. is_among (old ++ more) (key x) ≡ true) xs
  among_more old more [] a = tt
  among_more old more (x ∷ xs) a = (any_append (bytes_eq (key x)) old more ∙ true_or (is_among old (key x)) (is_among more (key x)) a.0, among_more old more xs a.1)

  among_both : (old more : List (List ℕ)) (xs : List X) → AllByRecursion (λ x. (is_among old (key x) || is_among more (key x)) ≡ true) xs → AllByRecursion (λ x. is_among (old ++ more) (key x) ≡ true) xs
  among_both old more [] a = tt
  among_both old more (x ∷ xs) a = (any_append (bytes_eq (key x)) old more ∙ a.0, among_both old more xs a.1)

map_same : (xs : List (List ℕ)) → map (λ x. x) xs ≡ xs
map_same [] = refl
map_same (x ∷ xs) = ap (λ ys. x ∷ ys) (map_same xs)

abbrev itself : List ℕ → List ℕ
itself n = n

abbrev origin : {X : Type 0} → WithOrigin X → List ℕ
origin x = x.1

-- with what is new all is known
with_new_there : {X : Type 0} (old more : List (WithOrigin X)) → AllByRecursion (λ x. is_among (origins (with_new old more)) x.1 ≡ true) more
with_new_there old more =
    subst (λ os. AllByRecursion (λ x. is_among os x.1 ≡ true) more) (sym (map-append origin old (fresh origin (is_among (origins old)) more)))
    (among_both origin (origins old) (origins (fresh origin (is_among (origins old)) more)) more (all_there origin (is_among (origins old)) more))

with_new_kept : {X : Type 0} (old more : List (WithOrigin X)) (xs : List (WithOrigin X)) → AllByRecursion (λ x. is_among (origins old) x.1 ≡ true) xs →
    AllByRecursion (λ x. is_among (origins (with_new old more)) x.1 ≡ true) xs
with_new_kept old more xs a =
    subst (λ os. AllByRecursion (λ x. is_among os x.1 ≡ true) xs) (sym (map-append origin old (fresh origin (is_among (origins old)) more)))
    (among_more origin (origins old) (origins (fresh origin (is_among (origins old)) more)) xs a)

-- a context that is seen brings nothing
pub seen_again : (c : CheckedContext) (v : Visible) → IsSeen c v → v ≡ with_context v c
seen_again c v s = λ i. record {
  contexts = (append_none v.contexts ∙ ap (λ more. v.contexts ++ more) (sym (none_fresh itself (is_among v.contexts) (c.ancestors ++ c.name ∷ []) s.contexts))) i;
  constants = (append_none v.constants ∙ ap (λ more. v.constants ++ more) (sym (none_fresh origin (is_among (origins v.constants)) (of_context c) s.constants))) i;
  variables = v.variables;
  axioms = (append_none v.axioms ∙ ap (λ more. v.axioms ++ more) (sym (none_fresh origin (is_among (origins v.axioms)) (zip c.axioms c.axioms_of) s.axioms))) i;
}

-- a context that came is seen
pub seen_once : (c : CheckedContext) (v n : Visible) → n ≡ with_context v c → IsSeen c n
seen_once c v n e = subst (IsSeen c) (sym e) (record {
  contexts = among_both itself v.contexts (fresh itself (is_among v.contexts) all) all
      (subst (λ ns. AllByRecursion (λ x. (is_among v.contexts x || is_among ns x) ≡ true) all) (map_same (fresh itself (is_among v.contexts) all)) (all_there itself (is_among v.contexts) all));
  constants = with_new_there v.constants (of_context c);
  axioms = with_new_there v.axioms (zip c.axioms c.axioms_of);
})
  where
    all : List (List ℕ)
    all = c.ancestors ++ c.name ∷ []

-- and stays so
pub seen_still : (c d : CheckedContext) (v n : Visible) → n ≡ with_context v d → IsSeen c v → IsSeen c n
seen_still c d v n e s = subst (IsSeen c) (sym e) (record {
  contexts = among_more itself v.contexts (fresh itself (is_among v.contexts) (d.ancestors ++ d.name ∷ [])) (c.ancestors ++ c.name ∷ []) s.contexts;
  constants = with_new_kept v.constants (of_context d) (of_context c) s.constants;
  axioms = with_new_kept v.axioms (zip d.axioms d.axioms_of) (zip c.axioms c.axioms_of) s.axioms;
})

-- a name more
pub by_known : (P : CheckedContext → Type 0) (named : List ℕ → Option CheckedContext) (name key : List ℕ) (c d : CheckedContext) (before after : Bool) →
    after ≡ (before || bytes_eq name key) → after ≡ true → named name ≡ Some c → named key ≡ Some d → (before ≡ true → P c) → P d → P c
by_known P named name key c d true after e t is at old new = old refl
by_known P named name key c d false after e t is at old new =
    subst P (some_same d c (sym at ∙ ap named (sym ((bytes_eq-Decides name key).0 (sym e ∙ t))) ∙ is)) new

pub noted_more : (named : List ℕ → Option CheckedContext) (v : Visible) (key : Bor (List ℕ)) (m n : BTreeMap (Bor (List ℕ)) (Option (Bor (List ℕ)))) (found : Option (Bor (List ℕ)))
    (name : List ℕ) (c : CheckedContext) → tree.Updates (λ x y. slice_cmp nat_cmp x.now y.now) m n key (Some found) → key.now ≡ name → named name ≡ Some c →
    option_map (λ x. x.now) found ≡ clash_in v c → AreNoted named v m → AreNoted named v n
noted_more named v key m n found name c u e is clash old x d other at there =
    by (bytes_eq key.now x) refl (sym (btree_map_updates_str key.now m n (Some found) u x) ∙ there)
  where
    by : (b : Bool) → bytes_eq key.now x ≡ b → cond b (Some found) (tree.get_by (λ k. slice_cmp nat_cmp x k.now) m) ≡ Some other → option_map (λ y. y.now) other ≡ clash_in v d
    by true same f =
        ap (option_map (λ y. y.now)) (sym (some_same found other f)) ∙ clash
        ∙ ap (clash_in v) (some_same c d (sym is ∙ ap named (sym e ∙ (bytes_eq-Decides key.now x).0 same) ∙ at))
    by false same f = old x d other at f

pub none_noted : (named : List ℕ → Option CheckedContext) (v : Visible) (m : BTreeMap (Bor (List ℕ)) (Option (Bor (List ℕ)))) → m.entries ≡ [] → AreNoted named v m
none_noted named v m e x d other at there = absurd (never (ap (lookup (λ k. is_eq (slice_cmp nat_cmp x k.now))) (sym e) ∙ there))
  where
    never : None ≡ Some other → ⊥
    never h = cc

-- the names of references, and their contexts
pub named_at : (named : List ℕ → Option CheckedContext) (refs : List Ref) (contexts : List (Bor CheckedContext)) (i : ℕ) (r : Ref) (c : Bor CheckedContext) →
    map Some (map (λ d. d.now) contexts) ≡ map (λ q. named q.name) refs → i < length contexts → r ≡ get_or refs i r → c ≡ get_or contexts i c → named r.name ≡ Some c.now
named_at named refs [] i r c e lt is at = absurd (omega (arith, lt))
named_at named [] (d ∷ contexts) i r c e lt is at = absurd (never e)
  where
    never : Some d.now ∷ map Some (map (λ x. x.now) contexts) ≡ [] → ⊥
    never h = cc
named_at named (q ∷ refs) (d ∷ contexts) zero r c e lt is at =
    ap (λ x. named x.name) is ∙ sym (ap (λ os. first_of os) e) ∙ ap (λ x. Some x.now) (sym at)
  where
    first_of : List (Option CheckedContext) → Option CheckedContext
    first_of [] = None
    first_of (o ∷ os) = o
named_at named (q ∷ refs) (d ∷ contexts) (suc i) r c e lt is at = named_at named refs contexts i r c (ap (λ os. rest_of os) e) (omega (arith, lt)) is at
  where
    rest_of : List (Option CheckedContext) → List (Option CheckedContext)
    rest_of [] = []
    rest_of (o ∷ os) = os

pub as_many_names : (refs : List Ref) (contexts : List CheckedContext) → AreByName refs contexts → length refs ≡ length contexts
as_many_names refs contexts h = go refs contexts h.1
  where
    go : (rs : List Ref) (cs : List CheckedContext) → map Some cs ≡ map (λ r. h.0 r.name) rs → length rs ≡ length cs
    go [] [] e = refl
    go [] (c ∷ cs) e = absurd (never e)
      where
        never : Some c ∷ map Some cs ≡ [] → ⊥
        never k = cc
    go (r ∷ rs) [] e = absurd (never e)
      where
        never : [] ≡ h.0 r.name ∷ map (λ q. h.0 q.name) rs → ⊥
        never k = cc
    go (r ∷ rs) (c ∷ cs) e = ap suc (go rs cs (ap (λ os. rest_of os) e))
      where
        rest_of : List (Option CheckedContext) → List (Option CheckedContext)
        rest_of [] = []
        rest_of (o ∷ os) = os
