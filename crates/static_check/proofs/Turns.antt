-- Turns keep what sorting keeps: each component is sorted, pending, or waits for a reference that is open.
use Rattle.std.proofs.Common.{◌≡◌, ◌⊎◌, inl, inr, ℕ, zero, suc, ◌+◌, ◌*◌, ◌^◌, ◌<◌, ◌≤◌, Bool, true, false, not, ◌&&◌, ◌||◌, cond, List, [], ◌∷◌, ◌++◌, length, map, refl, sym, ap, subst, ◌∙◌, arith}
use Rattle.std.specs.Prelude.{bytes_eq, Option, Some, None, is_some, reverse, Vec}
use Rattle.std.specs.List.{AllByRecursion, Contains, filter}
use Rattle.std.specs.Option.{option_map, option_map_or}
use Rattle.std.proofs.lemmas.List.{map-append, reverse-append, length-map}
use Rattle.std.specs.declared.alloc.Global.{Global}
use Rattle.formula_core.specs.declared.raw.Ref.{Ref}
use Rattle.model_core.specs.declared.component.RawComponent.{RawComponent}
use Rattle.model_core.specs.Each.{IsIn, is_among}
use Rattle.model_core.proofs.Members.{in_either, in_first, in_second}
use Rattle.static_check.specs.declared.sorting.Waiting.{Waiting}
use Rattle.static_check.specs.Settling.{own_name, references, has_component, IsComponentOrder}
use Rattle.static_check.specs.PrivateSorting.{Waiters, component_of, is_open, waiters, and_waits, without_waiters, all_open, left_open, open_at, AreNoneOpen, IsOpenReference, Sorts, WaitsOrSorts}
use Rattle.static_check.proofs.Ordering.{are_ready, is_ready, is_next, left_out, IsPartOfOrder, nothing_sorted, part_more, remaining, remaining_less, ordered, and_both, and_of, or_first, or_second, not_true, same, same_self, among_more}

abbrev Names : Type 0
Names = List (List ℕ)

abbrev Components : Type 0
Components = List RawComponent

true_false : {P : Type 0} (b : Bool) → b ≡ true → b ≡ false → P
true_false b e f = absurd (unequal (sym e ∙ f))
  where
    unequal : true ≡ false → ⊥
    unequal h = cc

-- sorted already, or pending, or waiting for one of its references
abbrev IsCovered : Waiters → Components → RawComponent → Type 0
IsCovered w pending c = (is_open w (own_name c) ≡ false) ⊎ IsIn c pending ⊎ ((r : Ref) × IsIn r (references c) × IsIn c (waiters w r.name))

-- what each turn keeps
pub record IsSorting (components : Components) (sorted : Names) (w : Waiters) (pending : Components) : Type 0 where
  pub part : IsPartOfOrder components sorted
  pub opened : (name : List ℕ) → is_open w name ≡ (has_component components name && not (is_among sorted name))
  pub known : (c : RawComponent) → IsIn c pending → Contains components c
  pub known_waiting : (name : List ℕ) (c : RawComponent) → IsIn c (waiters w name) → Contains components c
  pub covered : (c : RawComponent) → IsIn c components → IsCovered w pending c

abbrev State : Type 0
State = Waiters × Components × Names

-- one element more
there_or_here : {X : Type 0} (x y : X) (xs : List X) → IsIn x (xs ++ y ∷ []) → IsIn x xs ⊎ (x ≡ y)
there_or_here x y xs h = elim (in_either x xs (y ∷ []) h) [ inl a ↦ inl a | inr b ↦ elim b [ inl e ↦ inr e | inr n ↦ absurd n ] ]

-- one waits more
open_waits_at : (o : Option Components) (b : Bool) (c : RawComponent) → is_some (option_map (λ cs. cond b (cs ++ c ∷ []) cs) o) ≡ is_some o
open_waits_at None b c = refl
open_waits_at (Some cs) b c = refl

kept_at : (o : Option Components) (b : Bool) (c d : RawComponent) → IsIn d (option_map_or (λ cs. cs) o []) →
    IsIn d (option_map_or (λ cs. cs) (option_map (λ cs. cond b (cs ++ c ∷ []) cs) o) [])
kept_at None b c d h = h
kept_at (Some cs) true c d h = in_first d cs (c ∷ []) h
kept_at (Some cs) false c d h = h

only_at : (o : Option Components) (b : Bool) (c d : RawComponent) → IsIn d (option_map_or (λ cs. cs) (option_map (λ cs. cond b (cs ++ c ∷ []) cs) o) []) →
    IsIn d (option_map_or (λ cs. cs) o []) ⊎ (d ≡ c)
only_at None b c d h = absurd h
only_at (Some cs) true c d h = there_or_here d c cs h
only_at (Some cs) false c d h = inl h

here_at : (o : Option Components) (b : Bool) (c : RawComponent) → is_some o ≡ true → b ≡ true → IsIn c (option_map_or (λ cs. cs) (option_map (λ cs. cond b (cs ++ c ∷ []) cs) o) [])
here_at None b c e f = absurd (unequal e)
  where
    unequal : false ≡ true → ⊥
    unequal h = cc
here_at (Some cs) true c e f = in_second c cs (c ∷ []) (inl refl)
here_at (Some cs) false c e f = true_false false f refl

-- nobody waits for a name that isn't open
waits_open_at : (o : Option Components) (c : RawComponent) → IsIn c (option_map_or (λ cs. cs) o []) → is_some o ≡ true
waits_open_at None c h = absurd h
waits_open_at (Some cs) c h = refl

without_open_at : (o : Option Components) (b : Bool) → is_some (cond b None o) ≡ (is_some o && not b)
without_open_at None true = refl
without_open_at None false = refl
without_open_at (Some cs) true = refl
without_open_at (Some cs) false = refl

without_only_at : (o : Option Components) (b : Bool) (c : RawComponent) → IsIn c (option_map_or (λ cs. cs) (cond b None o) []) → IsIn c (option_map_or (λ cs. cs) o [])
without_only_at o true c h = absurd h
without_only_at o false c h = h

without_kept_at : (o : Option Components) (b : Bool) (c : RawComponent) → b ≡ false → IsIn c (option_map_or (λ cs. cs) o []) → IsIn c (option_map_or (λ cs. cs) (cond b None o) [])
without_kept_at o true c e h = true_false true refl e
without_kept_at o false c e h = h

closed_and : (b c : Bool) → b ≡ false → (b && c) ≡ false
closed_and true c e = true_false true refl e
closed_and false c e = refl

and_closed : (b c : Bool) → c ≡ false → (b && c) ≡ false
and_closed true c e = e
and_closed false c e = refl

and_not : (a b : Bool) → b ≡ true → (a && not b) ≡ false
and_not true true e = refl
and_not true false e = true_false false e refl
and_not false b e = refl

opened_more : (a b c : Bool) → ((a && not b) && not c) ≡ (a && not (b || (c || false)))
opened_more true true true = refl
opened_more true true false = refl
opened_more true false true = refl
opened_more true false false = refl
opened_more false b c = refl

module _ (components : Components) (sorted : Names) where
  module _ (w : Waiters) (pending : Components) (c : RawComponent) (s : IsSorting components sorted w (pending ++ c ∷ [])) where
    known_before : (d : RawComponent) → IsIn d pending → Contains components d
    known_before d h = s.known d (in_first d pending (c ∷ []) h)

    known_here : Contains components c
    known_here = s.known c (in_second c pending (c ∷ []) (inl refl))

    -- it waits
    waits : (r : Ref) → IsOpenReference w (references c) r → IsSorting components sorted (and_waits w r.name c) pending
    waits r is = record {
      part = s.part;
      opened = λ name. open_waits_at (w name) (bytes_eq name r.name) c ∙ s.opened name;
      known = known_before;
      known_waiting = λ name d h. elim (only_at (w name) (bytes_eq name r.name) c d h) [
        | inl old ↦ s.known_waiting name d old
        | inr new ↦ subst (Contains components) (sym new) known_here
      ];
      covered = λ d in'. elim (s.covered d in') [
        | inl closed ↦ inl (open_waits_at (w (own_name d)) (bytes_eq (own_name d) r.name) c ∙ closed)
        | inr (inl there) ↦ elim (there_or_here d c pending there) [
          | inl before ↦ inr (inl before)
          | inr here ↦ inr (inr (
            r,
            subst (λ x. IsIn r (references x)) (sym here) is.0,
            subst (λ x. IsIn x (waiters (and_waits w r.name c) r.name)) (sym here) (here_at (w r.name) (bytes_eq r.name r.name) c is.1 (same_self r.name)),
          ))
        ]
        | inr (inr q) ↦ inr (inr (q.0, q.1, kept_at (w q.0.name) (bytes_eq q.0.name r.name) c d q.2))
      ];
    }

    -- its name is sorted already
    dropped : is_open w (own_name c) ≡ false → IsSorting components sorted w pending
    dropped e = record {
      part = s.part;
      opened = s.opened;
      known = known_before;
      known_waiting = s.known_waiting;
      covered = λ d in'. elim (s.covered d in') [
        | inl closed ↦ inl closed
        | inr (inl there) ↦ elim (there_or_here d c pending there) [
          | inl before ↦ inr (inl before)
          | inr here ↦ inl (ap (λ x. is_open w (own_name x)) here ∙ e)
        ]
        | inr (inr q) ↦ inr (inr q)
      ];
    }

    ready_refs : (refs : List Ref) → AreNoneOpen w refs → are_ready components sorted refs ≡ true
    ready_refs [] none = refl
    ready_refs (r ∷ refs) none =
        and_of (is_among sorted r.name || not (has_component components r.name)) _
        (passed (has_component components r.name) (is_among sorted r.name) (sym (s.opened r.name) ∙ none.0)) (ready_refs refs none.1)
      where
        passed : (a b : Bool) → (a && not b) ≡ false → (b || not a) ≡ true
        passed true true e = refl
        passed true false e = sym e
        passed false true e = refl
        passed false false e = refl

    is_next_now : AreNoneOpen w (references c) → is_open w (own_name c) ≡ true → is_next components sorted c ≡ true
    is_next_now none e =
        and_of (not (is_among sorted (own_name c))) _ (and_both (has_component components (own_name c)) _ (sym (s.opened (own_name c)) ∙ e)).1
        (ready_refs (references c) none)

    -- it is sorted
    sorts : AreNoneOpen w (references c) → is_open w (own_name c) ≡ true →
        IsSorting components (sorted ++ own_name c ∷ []) (without_waiters w (own_name c)) (pending ++ waiters w (own_name c))
    sorts none e = record {
      part = part_more components sorted c s.part known_here (is_next_now none e);
      opened = λ name.
          without_open_at (w name) (bytes_eq name (own_name c))
          ∙ ap (λ a. a && not (bytes_eq name (own_name c))) (s.opened name)
          ∙ opened_more (has_component components name) (is_among sorted name) (bytes_eq name (own_name c))
          ∙ ap (λ a. has_component components name && not a) (sym (among_more sorted (own_name c) name));
      known = λ d h. elim (in_either d pending (waiters w (own_name c)) h) [ inl before ↦ known_before d before | inr woken ↦ s.known_waiting (own_name c) d woken ];
      known_waiting = λ name d h. s.known_waiting name d (without_only_at (w name) (bytes_eq name (own_name c)) d h);
      covered = λ d in'. elim (s.covered d in') [
        | inl closed ↦ inl (without_open_at (w (own_name d)) (bytes_eq (own_name d) (own_name c)) ∙ closed_and _ _ closed)
        | inr (inl there) ↦ elim (there_or_here d c pending there) [
          | inl before ↦ inr (inl (in_first d pending (waiters w (own_name c)) before))
          | inr here ↦ inl (without_open_at (w (own_name d)) (bytes_eq (own_name d) (own_name c))
              ∙ and_not (is_some (w (own_name d))) _ (ap (λ x. bytes_eq (own_name x) (own_name c)) here ∙ same_self (own_name c)))
        ]
        | inr (inr q) ↦ woken d q.0 q.1 q.2 (bytes_eq q.0.name (own_name c)) refl
      ];
    }
      where
        woken : (d : RawComponent) (r : Ref) → IsIn r (references d) → IsIn d (waiters w r.name) → (b : Bool) → bytes_eq r.name (own_name c) ≡ b →
            IsCovered (without_waiters w (own_name c)) (pending ++ waiters w (own_name c)) d
        woken d r in' waiting true f = inr (inl (in_second d pending (waiters w (own_name c)) (subst (λ n. IsIn d (waiters w n)) (same r.name (own_name c) f) waiting)))
        woken d r in' waiting false f = inr (inr (r, in', without_kept_at (w r.name) (bytes_eq r.name (own_name c)) d f waiting))

sorts_kept : (components : Components) (sorted longer : Names) (w later : Waiters) (pending more : Components) (c : RawComponent) → IsSorting components sorted w (pending ++ c ∷ []) →
    AreNoneOpen w (references c) → Sorts c w pending sorted later more longer → IsSorting components longer later more
sorts_kept components sorted longer w later pending more c s none (inl t) =
    let path : ◌≡◌ {A = State} (without_waiters w (own_name c), pending ++ waiters w (own_name c), sorted ++ own_name c ∷ []) (later, more, longer) =
    λ i. ((λ x. sym (t.1 x) i), sym t.2 i, sym t.3 i) in
    subst (λ q. IsSorting components q.2 q.0 q.1) path (sorts components sorted w pending c s none t.0)
sorts_kept components sorted longer w later pending more c s none (inr t) =
    let path : ◌≡◌ {A = State} (w, pending, sorted) (later, more, longer) = λ i. ((λ x. sym (t.1 x) i), sym t.2 i, sym t.3 i) in
    subst (λ q. IsSorting components q.2 q.0 q.1) path (dropped components sorted w pending c s t.0)

-- a turn in which it waits, or is sorted, or was sorted already
pub turn_kept : (components : Components) (sorted longer : Names) (w later : Waiters) (pending more : Components) (c : RawComponent) → IsSorting components sorted w (pending ++ c ∷ []) →
    WaitsOrSorts c w pending sorted later more longer → IsSorting components longer later more
turn_kept components sorted longer w later pending more c s (inl t) =
    let path : ◌≡◌ {A = State} (and_waits w t.0.0.name c, pending, sorted) (later, more, longer) = λ i. ((λ x. sym (t.0.2 x) i), sym t.1 i, sym t.2 i) in
    subst (λ q. IsSorting components q.2 q.0 q.1) path (waits components sorted w pending c s t.0.0 t.0.1)
turn_kept components sorted longer w later pending more c s (inr t) = sorts_kept components sorted longer w later pending more c s t.0 t.1

-- each turn sorts one more, or has one pending less
two_parts : (r s k l m : ℕ) → r < s → l < k → r * k + l < s * k + m
two_parts r s k l m h g = omega (arith, more r s h)
  where
    more : (a b : ℕ) → a < b → a * k + k ≤ b * k
    more a zero h = absurd (omega arith)
    more a (suc b) h = elim (split a b h) [ inl e ↦ rw e (omega arith) | inr lt ↦ omega (arith, more a b lt) ]
      where
        split : (a b : ℕ) → a < suc b → (a ≡ b) ⊎ (a < b)
        split zero zero h = inl refl
        split zero (suc b) h = inr (omega arith)
        split (suc a) zero h = absurd (omega arith)
        split (suc a) (suc b) h = elim (split a b (omega arith)) [ inl e ↦ inl (ap suc e) | inr lt ↦ inr (omega arith) ]

abbrev pub left_of : Components → Names → Components → ℕ
left_of components sorted pending = remaining components sorted * 2 ^ 63 + length pending

length_more : {X : Type 0} (xs : List X) (x : X) → length (xs ++ x ∷ []) ≡ suc (length xs)
length_more [] x = refl
length_more (y ∷ xs) x = ap suc (length_more xs x)

same_smaller : (components : Components) (sorted longer : Names) (pending more : Components) (c : RawComponent) → more ≡ pending → longer ≡ sorted →
    left_of components longer more < left_of components sorted (pending ++ c ∷ [])
same_smaller components sorted longer pending more c e f = rw (e, f, length_more pending c) (omega arith)

sorts_smaller : (components : Components) (sorted longer : Names) (w later : Waiters) (pending more : Components) (c : RawComponent) → IsSorting components sorted w (pending ++ c ∷ []) →
    Sorts c w pending sorted later more longer → length more < 2 ^ 63 → left_of components longer more < left_of components sorted (pending ++ c ∷ [])
sorts_smaller components sorted longer w later pending more c s (inl t) small =
    let here = known_here components sorted w pending c s in
    let unsorted = not_true _ (and_both (has_component components (own_name c)) _ (sym (s.opened (own_name c)) ∙ t.0)).1 in
    let less : remaining components longer < remaining components sorted =
    subst (λ n. remaining components n < remaining components sorted) (sym t.3) (remaining_less components sorted c here.0 here.1 here.2 unsorted) in
    two_parts (remaining components longer) (remaining components sorted) (2 ^ 63) (length more) (length (pending ++ c ∷ [])) less small
sorts_smaller components sorted longer w later pending more c s (inr t) small = same_smaller components sorted longer pending more c t.2 t.3

pub turn_smaller : (components : Components) (sorted longer : Names) (w later : Waiters) (pending more : Components) (c : RawComponent) → IsSorting components sorted w (pending ++ c ∷ []) →
    WaitsOrSorts c w pending sorted later more longer → length more < 2 ^ 63 → left_of components longer more < left_of components sorted (pending ++ c ∷ [])
turn_smaller components sorted longer w later pending more c s (inl t) small = same_smaller components sorted longer pending more c t.1 t.2
turn_smaller components sorted longer w later pending more c s (inr t) small = sorts_smaller components sorted longer w later pending more c s t.1 small

-- at first all names are open and all components pending
contains_in : (c : RawComponent) (cs : Components) → IsIn c cs → Contains cs c
contains_in c [] h = absurd h
contains_in c (d ∷ cs) (inl e) = (0, omega arith, sym e)
contains_in c (d ∷ cs) (inr h) = let there = contains_in c cs h in (suc there.0, omega (arith, there.1), there.2)

in_reverse : (c : RawComponent) (cs : Components) → IsIn c cs → IsIn c (reverse cs)
in_reverse c [] h = absurd h
in_reverse c (d ∷ cs) (inl e) = subst (IsIn c) (sym (reverse-append (d ∷ []) cs)) (in_second c (reverse cs) (reverse (d ∷ [])) (inl e))
in_reverse c (d ∷ cs) (inr h) = subst (IsIn c) (sym (reverse-append (d ∷ []) cs)) (in_first c (reverse cs) (reverse (d ∷ [])) (in_reverse c cs h))

reverse_in : (c : RawComponent) (cs : Components) → IsIn c (reverse cs) → IsIn c cs
reverse_in c [] h = h
reverse_in c (d ∷ cs) h = elim (in_either c (reverse cs) (d ∷ []) (subst (IsIn c) (reverse-append (d ∷ []) cs) h)) [
  | inl more ↦ inr (reverse_in c cs more)
  | inr here ↦ elim here [ inl e ↦ inl e | inr n ↦ absurd n ]
]

pub begins : (components : Components) (w : Waiters) (pending : Components) (sorted : Names) → ((name : List ℕ) → w name ≡ all_open components name) →
    pending ≡ reverse components → sorted ≡ [] → IsSorting components sorted w pending
begins components w pending sorted is all none =
    let path : ◌≡◌ {A = State} (all_open components, reverse components, []) (w, pending, sorted) = λ i. ((λ x. sym (is x) i), sym all i, sym none i) in
    subst (λ q. IsSorting components q.2 q.0 q.1) path (record {
      part = nothing_sorted components;
      opened = λ name. opened_at (has_component components name);
      known = λ c h. contains_in c components (reverse_in c components h);
      known_waiting = λ name c h. absurd (nobody (has_component components name) c h);
      covered = λ c h. inr (inl (in_reverse c components h));
    })
  where
    none_waits : Option Components
    none_waits = Some []

    opened_at : (b : Bool) → is_some (cond b none_waits None) ≡ (b && true)
    opened_at true = refl
    opened_at false = refl

    nobody : (b : Bool) (c : RawComponent) → IsIn c (option_map_or (λ cs. cs) (cond b none_waits None) []) → ⊥
    nobody true c h = h
    nobody false c h = h

-- at last none is next
in_has : (c : RawComponent) (cs : Components) → IsIn c cs → has_component cs (own_name c) ≡ true
in_has c [] h = absurd h
in_has c (d ∷ cs) (inl e) = or_first (bytes_eq (own_name c) (own_name d)) _ (ap (λ x. bytes_eq (own_name c) (own_name x)) (sym e) ∙ same_self (own_name c))
in_has c (d ∷ cs) (inr h) = or_second (bytes_eq (own_name c) (own_name d)) _ (in_has c cs h)

all_in : {X : Type 0} (P : X → Type 0) (xs : List X) → ((x : X) → IsIn x xs → P x) → AllByRecursion P xs
all_in P [] f = tt
all_in P (x ∷ xs) f = (f x (inl refl), all_in P xs (λ y h. f y (inr h)))

module _ (components : Components) (sorted : Names) where
  unready : (w : Waiters) → ((name : List ℕ) → is_open w name ≡ (has_component components name && not (is_among sorted name))) → (r : Ref) → is_open w r.name ≡ true →
      (refs : List Ref) → IsIn r refs → are_ready components sorted refs ≡ false
  unready w opened r e [] h = absurd h
  unready w opened r e (q ∷ refs) (inl is) = closed_and _ _ (ap (λ x. is_among sorted x.name || not (has_component components x.name)) (sym is) ∙ blocked (has_component components r.name) (is_among sorted r.name) (sym (opened r.name) ∙ e))
    where
      blocked : (a b : Bool) → (a && not b) ≡ true → (b || not a) ≡ false
      blocked true true e = sym e
      blocked true false e = refl
      blocked false b e = true_false false e refl
  unready w opened r e (q ∷ refs) (inr h) = and_closed (is_among sorted q.name || not (has_component components q.name)) _ (unready w opened r e refs h)

  none_next : (w : Waiters) → IsSorting components sorted w [] → (c : RawComponent) → IsIn c components → is_next components sorted c ≡ false
  none_next w s c in' = elim (s.covered c in') [
    | inl closed ↦ sorted_already (has_component components (own_name c)) (is_among sorted (own_name c)) (is_ready components sorted c) (in_has c components in') (sym (s.opened (own_name c)) ∙ closed)
    | inr (inl none) ↦ absurd none
    | inr (inr q) ↦ and_closed (not (is_among sorted (own_name c))) _ (unready w s.opened q.0 (waits_open_at (w q.0.name) c q.2) (references c) q.1)
  ]
    where
      sorted_already : (a b d : Bool) → a ≡ true → (a && not b) ≡ false → (not b && d) ≡ false
      sorted_already true true d e f = refl
      sorted_already true false d e f = true_false true refl f
      sorted_already false b d e f = true_false false e refl

  same_filter : (p q : List ℕ → Bool) (cs : Components) → ((c : RawComponent) → IsIn c cs → p (own_name c) ≡ q (own_name c)) → filter p (map own_name cs) ≡ filter q (map own_name cs)
  same_filter p q [] f = refl
  same_filter p q (c ∷ cs) f = λ i. cond (f c (inl refl) i) (own_name c ∷ same_filter p q cs (λ d h. f d (inr h)) i) (same_filter p q cs (λ d h. f d (inr h)) i)

  left_same : (w : Waiters) → IsSorting components sorted w [] → left_open components w ≡ left_out components sorted
  left_same w s = same_filter (is_open w) (λ n. not (is_among sorted n)) components
      (λ c h. s.opened (own_name c) ∙ ap (λ a. a && not (is_among sorted (own_name c))) (in_has c components h))

pub ends : (components : Components) (items sorted cyclic : Names) (w : Waiters) → IsSorting components items w [] → sorted ≡ items → cyclic ≡ left_open components w →
    IsComponentOrder components (record { sorted = sorted; cyclic = cyclic })
ends components items sorted cyclic w s is left =
    ordered components items sorted cyclic is (left ∙ left_same components items w s) s.part
    (all_in (λ c. is_next components items c ≡ false) components (none_next components items w s))

-- the reference that is found is open
pub open_found : (w : Waiters) (refs : List Ref) (i : ℕ) (r : Ref) → Some r ≡ open_at w refs i → IsOpenReference w refs r
open_found w [] i r e = absurd (never e)
  where
    never : Some r ≡ None → ⊥
    never h = cc
open_found w (q ∷ refs) zero r e = found (is_open w q.name) refl e
  where
    never : Some r ≡ None → ⊥
    never h = cc

    one : Some r ≡ Some q → r ≡ q
    one h = cc

    found : (b : Bool) → is_open w q.name ≡ b → Some r ≡ cond b (Some q) None → IsOpenReference w (q ∷ refs) r
    found true f h = (inl (one h), ap (λ x. is_open w x.name) (one h) ∙ f)
    found false f h = absurd (never h)
open_found w (q ∷ refs) (suc i) r e = let there = open_found w refs i r e in (inr there.0, there.1)

-- none is found at any place
pub none_found : (w : Waiters) (refs : List Ref) → ((k : ℕ) → k < length refs → open_at w refs k ≡ None) → AreNoneOpen w refs
none_found w [] h = tt
none_found w (q ∷ refs) h = (closed (is_open w q.name) (h 0 (omega arith)), none_found w refs (λ k lt. h (suc k) (omega (arith, lt))))
  where
    never : Some q ≡ None → ⊥
    never h = cc

    closed : (b : Bool) → cond b (Some q) None ≡ None → b ≡ false
    closed true e = absurd (never e)
    closed false e = refl

map_reverse : (ws : List Waiting) → map component_of (reverse ws) ≡ reverse (map component_of ws)
map_reverse [] = refl
map_reverse (w ∷ ws) =
    ap (map component_of) (reverse-append (w ∷ []) ws) ∙ map-append component_of (reverse ws) (w ∷ [])
    ∙ ap (λ cs. cs ++ component_of w ∷ []) (map_reverse ws) ∙ sym (reverse-append (component_of w ∷ []) (map component_of ws))

pub turned : (ws vs : List Waiting) (cs : Components) → map component_of ws ≡ cs → vs ≡ reverse ws → map component_of vs ≡ reverse cs
turned ws vs cs is e = ap (map component_of) e ∙ map_reverse ws ∙ ap reverse is

pub popped : (components : Components) (sorted : Names) (w : Waiters) (all rest : List Waiting) (last : Waiting) → all ≡ rest ++ last ∷ [] →
    IsSorting components sorted w (map component_of all) → IsSorting components sorted w (map component_of rest ++ component_of last ∷ [])
popped components sorted w all rest last is s = subst (IsSorting components sorted w) (ap (map component_of) is ∙ map-append component_of rest (last ∷ [])) s

few : (v : Vec Waiting Global) → length (map component_of v.items) < 2 ^ 63
few v = rw (length-map v.items component_of, sym v.ok.0) (omega (arith, v.ok.1, v.small))

pub turn_smaller_list : (components : Components) (sorted longer : Names) (w later : Waiters) (all rest : List Waiting) (more : Vec Waiting Global) (last : Waiting) → all ≡ rest ++ last ∷ [] →
    IsSorting components sorted w (map component_of all) → WaitsOrSorts (component_of last) w (map component_of rest) sorted later (map component_of more.items) longer →
    left_of components longer (map component_of more.items) < left_of components sorted (map component_of all)
turn_smaller_list components sorted longer w later all rest more last is s t =
    subst (λ cs. left_of components longer (map component_of more.items) < left_of components sorted cs) (sym (ap (map component_of) is ∙ map-append component_of rest (last ∷ [])))
    (turn_smaller components sorted longer w later (map component_of rest) (map component_of more.items) (component_of last) (popped components sorted w all rest last is s) t (few more))

no_items : {X : Type 0} (xs : List X) → length xs ≡ 0 → xs ≡ []
no_items [] e = refl
no_items (x ∷ xs) e = absurd (omega (arith, e))

pub none_pending : (components : Components) (sorted : Names) (w : Waiters) (v : Vec Waiting Global) → v.len ≡ 0 → IsSorting components sorted w (map component_of v.items) →
    IsSorting components sorted w []
none_pending components sorted w v e s = subst (λ ws. IsSorting components sorted w (map component_of ws)) (no_items v.items (sym v.ok.0 ∙ e)) s
