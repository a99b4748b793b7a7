-- What is seen grows by one component.
use Rattle.std.proofs.Common.{◌≡◌, ◌<◌, ◌+◌, ◌∙◌, sym, ap, refl, ℕ, zero, suc, Bool, true, false, not, cond, ◌&&◌, ◌||◌, List, [], ◌∷◌, ◌++◌, map, take, filter, length, get_or, append_assoc, add-one, bytes_eq, arith}
use Rattle.std.specs.Prelude.{◌≤◌, Option, Some, None, MatchOption, IfSome, slice_get}
use Rattle.std.specs.Borrow.{Bor}
use Rattle.std.specs.BTreeMap.{BTreeMap}
use Rattle.std.specs.BTreeMap as tree
use Rattle.std.specs.List.{list_any, zip}
use Rattle.std.specs.Option.{option_map, option_to_list, option_copied}
use Rattle.std.specs.Cmp.Lexicographic.{slice_cmp}
use Rattle.std.specs.Ordering.{nat_cmp}
use Rattle.std.proofs.lemmas.Cmp.{nat_list_eq_equiv}
use Rattle.std.proofs.lemmas.List.{map-append}
use Rattle.std.proofs.lemmas.Map.Text.{btree_map_updates_str}
use Rattle.std.proofs.lemmas.Slice.Eq.{bytes_eq-Decides}
use Rattle.std.proofs.lemmas.Option.{slice_get_past, slice_get-get_or}
use Rattle.formula_core.specs.declared.ty.Ty.{Ty}
use Rattle.model_core.specs.declared.checked.CheckedContext.{CheckedContext}
use Rattle.model_core.specs.Each.{is_among}
use Rattle.model_core.proofs.Firsts.{taken_more}
use Rattle.model_core.proofs.Lists.{any_append, any_map, filter_append}
use Rattle.check_rules.specs.Visible.{WithOrigin, Identifiers, Visible, origins, with_new, with_context}
use Rattle.context_check.specs.declared.visible.Origin.{Origin}
use Rattle.context_check.specs.declared.visible.View.{View}
use Rattle.context_check.specs.Views.{differs, clashes, clashes_with, visible}
use Rattle.context_check.proofs.Repeated.{or_assoc, or_false}

-- a list that is made from those before grows by what one more gives
pub grows : {X Y : Type 0} (f : List X → List Y) → ((xs ys : List X) → f (xs ++ ys) ≡ f xs ++ f ys) → (xs : List X) (i : ℕ) (x : X) (start old new : List Y) →
    i < length xs → x ≡ get_or xs i x → old ≡ start ++ f (take i xs) → new ≡ old ++ f (x ∷ []) → new ≡ start ++ f (take (i + 1) xs)
grows f law xs i x start old new lt is e g =
    g ∙ ap (λ o. o ++ f (x ∷ [])) e ∙ append_assoc start (f (take i xs)) (f (x ∷ []))
    ∙ ap (λ es. start ++ es) (sym (law (take i xs) (x ∷ [])) ∙ ap f (sym (taken_more xs i x lt is)))

pub mapped_more : {X Y : Type 0} (f : X → Y) (xs : List X) (i : ℕ) (x : X) → i < length xs → x ≡ get_or xs i x → map f (take (i + 1) xs) ≡ map f (take i xs) ++ f x ∷ []
mapped_more f xs i x lt is = ap (map f) (taken_more xs i x lt is) ∙ map-append f (take i xs) (x ∷ [])

-- a test that one of those before passes, or one more
pub any_more : {X Y : Type 0} (test : Y → Bool) (f : X → Y) (xs : List X) (i : ℕ) (x : X) (start old new : Bool) → i < length xs → x ≡ get_or xs i x →
    old ≡ (start || list_any test (map f (take i xs))) → new ≡ (old || test (f x)) → new ≡ (start || list_any test (map f (take (i + 1) xs)))
any_more test f xs i x start old new lt is e g =
    g ∙ ap (λ o. o || test (f x)) e ∙ sym (or_assoc start (list_any test (map f (take i xs))) (test (f x)))
    ∙ ap (λ b. start || b) (ap (λ b. list_any test (map f (take i xs)) || b) (sym (or_false (test (f x)))) ∙ sym (any_append test (map f (take i xs)) (f x ∷ []))
    ∙ ap (list_any test) (sym (mapped_more f xs i x lt is)))

pub any_more_among : {X Y Z : Type 0} (test : Z → Bool) (g : Y → Z) (f : X → Y) (xs : List X) (i : ℕ) (x : X) (start old new : Bool) → i < length xs → x ≡ get_or xs i x →
    old ≡ (start || list_any test (map g (map f (take i xs)))) → new ≡ (old || test (g (f x))) → new ≡ (start || list_any test (map g (map f (take (i + 1) xs))))
any_more_among test g f xs i x start old new lt is e h =
    any_more (λ y. test (g y)) f xs i x start old new lt is (e ∙ ap (λ b. start || b) (any_map test g (map f (take i xs)))) h
    ∙ ap (λ b. start || b) (sym (any_map test g (map f (take (i + 1) xs))))

pub append_none : {X : Type 0} (xs : List X) → xs ≡ xs ++ []
append_none [] = refl
append_none (x ∷ xs) = ap (λ ys. x ∷ ys) (append_none xs)

pub none_before : (b : Bool) → b ≡ (b || false)
none_before b = sym (or_false b)

pub filter_mapped : {X Y : Type 0} (p : Y → Bool) (f : X → Y) (xs ys : List X) → filter p (map f (xs ++ ys)) ≡ filter p (map f xs) ++ filter p (map f ys)
filter_mapped p f xs ys = ap (filter p) (map-append f xs ys) ∙ filter_append p (map f xs) (map f ys)

pub zip_nothing : {K X : Type 0} (ks : List K) → zip {X = X} ks [] ≡ []
zip_nothing [] = refl
zip_nothing (k ∷ ks) = refl

-- one more item in the second list
zip_suc : {K X : Type 0} (xs : List K) (ys : List X) (i : ℕ) (y : X) → i < length ys → y ≡ get_or ys i y →
    zip xs (take (suc i) ys) ≡ zip xs (take i ys) ++ option_to_list (option_map (λ x. (x, y)) (slice_get xs i))
zip_suc xs [] i y lt is = absurd (omega (arith, lt))
zip_suc [] (z ∷ ys) zero y lt is = refl
zip_suc [] (z ∷ ys) (suc i) y lt is = refl
zip_suc (x ∷ xs) (z ∷ ys) zero y lt is = zero_more is
  where
    zero_more : y ≡ z → (x, z) ∷ zip xs [] ≡ (x, y) ∷ []
    zero_more e = ap (λ w. (x, w) ∷ zip xs []) (sym e) ∙ ap (λ r. (x, y) ∷ r) (zip_nothing xs)
zip_suc (x ∷ xs) (z ∷ ys) (suc i) y lt is = ap (λ r. (x, z) ∷ r) (zip_suc xs ys i y (omega (arith, lt)) is)

pub zip_more : {K X : Type 0} (xs : List K) (ys : List X) (i : ℕ) (y : X) → i < length ys → y ≡ get_or ys i y →
    zip xs (take (i + 1) ys) ≡ zip xs (take i ys) ++ option_to_list (option_map (λ x. (x, y)) (slice_get xs i))
zip_more xs ys i y lt is = ap (λ k. zip xs (take k ys)) (add-one i) ∙ zip_suc xs ys i y lt is

pub noted : (key : Bor (List ℕ)) (m n : BTreeMap (Bor (List ℕ)) Origin) (after : Origin) (name origin : List ℕ) →
    tree.Updates (λ x y. slice_cmp nat_cmp x.now y.now) m n key (Some after) → key.now ≡ name →
    (known : Option Origin) → known ≡ tree.get_by (λ k. slice_cmp nat_cmp name k.now) m → ((o : List ℕ) → differs (Some after) o ≡ (differs known o || not (bytes_eq o origin))) →
    (x o : List ℕ) → clashes n x o ≡ (clashes m x o || (bytes_eq x name && not (bytes_eq o origin)))
noted key m n after name origin u e known is h x o =
    ap (λ g. differs g o) (btree_map_updates_str key.now m n (Some after) u x) ∙ ap (λ k. differs (cond (bytes_eq k x) (Some after) (at x)) o) e
    ∙ chosen (bytes_eq name x) refl
  where
    at : List ℕ → Option Origin
    at y = tree.get_by (λ k. slice_cmp nat_cmp y k.now) m

    chosen : (b : Bool) → bytes_eq name x ≡ b → differs (cond b (Some after) (at x)) o ≡ (differs (at x) o || (bytes_eq x name && not (bytes_eq o origin)))
    chosen true f =
        h o ∙ ap (λ k. differs k o || not (bytes_eq o origin)) (is ∙ ap at ((bytes_eq-Decides name x).0 f))
        ∙ ap (λ b. differs (at x) o || (b && not (bytes_eq o origin))) (sym (nat_list_eq_equiv.symm x name ∙ f))
    chosen false f = sym (ap (λ b. differs (at x) o || (b && not (bytes_eq o origin))) (nat_list_eq_equiv.symm x name ∙ f) ∙ or_false (differs (at x) o))

pub got : {X : Type 0} (P : Bor X → Type 0) (xs : List X) (i : ℕ) (r : Option (Bor X)) → MatchOption r (length xs ≤ i) (λ x. (i < length xs) × P x) →
    IfSome r (λ x. x.now ≡ get_or xs i x.now) → option_copied r ≡ slice_get xs i
got P xs i None past h = sym (slice_get_past xs i past)
got P xs i (Some x) within h = ap (λ y. Some y) h ∙ sym (slice_get-get_or xs i x.now within.0)

pub contexts_with : (old : List (List ℕ)) (known : List ℕ → Bool) (ancestors : List (List ℕ)) (name : List ℕ) (none above fresh new : List (List ℕ)) →
    ((x : List ℕ) → known x ≡ is_among old x) → none ≡ [] → above ≡ none ++ filter (λ n. not (known n)) ancestors → fresh ≡ above ++ filter (λ n. not (known n)) (name ∷ []) →
    new ≡ old ++ fresh → new ≡ old ++ filter (λ n. not (is_among old n)) (ancestors ++ name ∷ [])
contexts_with old known ancestors name none above fresh new h e f g k =
    k ∙ ap (λ ns. old ++ ns) (g ∙ ap (λ ns. ns ++ filter (λ n. not (known n)) (name ∷ [])) (f ∙ ap (λ ns. ns ++ filter (λ n. not (known n)) ancestors) e)
    ∙ sym (filter_append (λ n. not (known n)) ancestors (name ∷ [])) ∙ (λ i. filter (λ n. not (h n i)) (ancestors ++ name ∷ [])))

pub known_with : (old fresh new : List (List ℕ)) (before after : List ℕ → Bool) → ((x : List ℕ) → before x ≡ is_among old x) → new ≡ old ++ fresh →
    ((x : List ℕ) → after x ≡ (before x || is_among fresh x)) → (x : List ℕ) → after x ≡ is_among new x
known_with old fresh new before after h e step x =
    step x ∙ ap (λ b. b || is_among fresh x) (h x) ∙ sym (any_append (bytes_eq x) old fresh) ∙ ap (λ ns. is_among ns x) (sym e)

pub origins_with : {X : Type 0} (old fresh new : List (WithOrigin X)) → new ≡ old ++ fresh → origins new ≡ origins old ++ origins fresh
origins_with old fresh new e = ap origins e ∙ map-append (λ x. x.1) old fresh

pub new_with : {X : Type 0} (old more pairs fresh new : List (WithOrigin X)) (known : List ℕ → Bool) → ((x : List ℕ) → known x ≡ is_among (origins old) x) →
    pairs ≡ more → fresh ≡ filter (λ x. not (known x.1)) pairs → new ≡ old ++ fresh → new ≡ with_new old more
new_with old more pairs fresh new known h e f g =
    g ∙ ap (λ xs. old ++ xs) (f ∙ ap (filter (λ x. not (known x.1))) e ∙ (λ i. filter (λ x. not (h x.1 i)) more))

swap_or : (a b c : Bool) → ((a || b) || c) ≡ ((a || c) || b)
swap_or true b c = refl
swap_or false true true = refl
swap_or false true false = refl
swap_or false false true = refl
swap_or false false false = refl

-- the name stands here, in another component
abbrev elsewhere : List ℕ → List ℕ → (List ℕ × Ty) × List ℕ → Bool
elsewhere x o y = bytes_eq x y.0.0 && not (bytes_eq o y.1)

pub names_with : (constants fresh variables new : Identifiers) (before after : List ℕ → List ℕ → Bool) → ((x o : List ℕ) → before x o ≡ clashes_with (constants ++ variables) x o) →
    new ≡ constants ++ fresh → ((x o : List ℕ) → after x o ≡ (before x o || clashes_with fresh x o)) → (x o : List ℕ) → after x o ≡ clashes_with (new ++ variables) x o
names_with constants fresh variables new before after h e step x o =
    step x o ∙ ap (λ b. b || list_any (elsewhere x o) fresh) (h x o ∙ any_append (elsewhere x o) constants variables)
    ∙ swap_or (list_any (elsewhere x o) constants) (list_any (elsewhere x o) variables) (list_any (elsewhere x o) fresh)
    ∙ sym (any_append (elsewhere x o) (constants ++ fresh) variables ∙ ap (λ b. b || list_any (elsewhere x o) variables) (any_append (elsewhere x o) constants fresh))
    ∙ ap (λ cs. clashes_with (cs ++ variables) x o) (sym e)

pub seen_with : (w : View) (v : Visible) (c : CheckedContext) → (visible w).contexts ≡ (with_context v c).contexts → (visible w).constants ≡ (with_context v c).constants →
    (visible w).variables ≡ v.variables → (visible w).axioms ≡ (with_context v c).axioms → visible w ≡ with_context v c
seen_with w v c d e f g = λ i. record { contexts = d i; constants = e i; variables = f i; axioms = g i }
