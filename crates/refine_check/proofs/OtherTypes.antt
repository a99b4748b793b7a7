-- The types that parameters have in events, one parameter after another.
use Rattle.std.proofs.Common.{◌≡◌, ◌∙◌, ◌+◌, ◌<◌, ap, refl, sym, ℕ, Bool, true, false, not, ◌||◌, ◌&&◌, cond, List, [], ◌∷◌, ◌++◌, map, take, drop, length, get_or, bytes_eq}
use Rattle.std.specs.Prelude.{Option, Some}
use Rattle.std.specs.Borrow.{Bor}
use Rattle.std.specs.BTreeMap.{BTreeMap}
use Rattle.std.specs.BTreeMap as tree
use Rattle.std.specs.Cmp.Lexicographic.{slice_cmp}
use Rattle.std.specs.List.{list_any}
use Rattle.std.specs.Map.{lookup}
use Rattle.std.specs.Ordering.{nat_cmp, is_eq}
use Rattle.std.proofs.lemmas.Map.Text.{btree_map_updates_str}
use Rattle.std.proofs.lemmas.Slice.Eq.{bytes_eq-Decides}
use Rattle.formula_core.specs.declared.ty.Ty.{Ty}
use Rattle.formula_core.specs.declared.raw.Ref.{Ref}
use Rattle.formula_core.specs.Types.{same_type}
use Rattle.formula_core.specs.Formulas.{joined}
use Rattle.formula_core.proofs.Types.{same_type_exact}
use Rattle.formula_core.proofs.WholeSets.{same_type_refl}
use Rattle.model_core.specs.declared.checked.CheckedEvent.{CheckedEvent}
use Rattle.model_core.proofs.Firsts.{taken_more}
use Rattle.model_core.proofs.Lists.{any_append, at_index}
use Rattle.check_rules.specs.Typed.{Entries}
use Rattle.check_rules.specs.Refinements.{has_other_type}
use Rattle.refine_check.specs.declared.param_types.Known.{Known}
use Rattle.refine_check.specs.Private.{is_other_type, is_other_there, HasTypesOf, found_at}
use Rattle.refine_check.proofs.Faults.{map_joined, map-append}

or_false : (a : Bool) → (a || false) ≡ a
or_false true = refl
or_false false = refl

or_assoc : (a b c : Bool) → (a || (b || c)) ≡ ((a || b) || c)
or_assoc true b c = refl
or_assoc false b c = refl

or_same : (b : Bool) → b ≡ (b || b)
or_same true = refl
or_same false = refl

pub none_before : (b : Bool) → b ≡ (b || false)
none_before b = sym (or_false b)

-- a type that is known already
pub known_same : (one ty : Ty) → one ≡ ty → (t : Ty) → not (same_type one t) ≡ (not (same_type one t) || not (same_type ty t))
known_same one ty e t = or_same (not (same_type one t)) ∙ ap (λ u. not (same_type one t) || not (same_type u t)) e

-- of two types no type is both
pub known_apart : (one ty : Ty) → same_type one ty ≡ false → (t : Ty) → true ≡ (not (same_type one t) || not (same_type ty t))
known_apart one ty apart t = at (same_type one t) (same_type ty t) refl refl
  where
    unequal : false ≡ true → ⊥
    unequal e = cc

    at : (b c : Bool) → same_type one t ≡ b → same_type ty t ≡ c → true ≡ (not b || not c)
    at true true e f =
        absurd (unequal (sym apart ∙ ap (same_type one) (same_type_exact ty t f ∙ sym (same_type_exact one t e)) ∙ same_type_refl one))
    at true false e f = refl
    at false c e f = refl

pub none_noted : (m : BTreeMap (Bor (List ℕ)) Known) → m.entries ≡ [] → (p : List ℕ × Ty) → is_other_there m p ≡ false
none_noted m e p = ap (λ es. is_other_type (lookup (λ k. is_eq (slice_cmp nat_cmp p.0 k.now)) es) p.1) e

pub noted : (key : Bor (List ℕ)) (m n : BTreeMap (Bor (List ℕ)) Known) (after : Known) (name : List ℕ) (ty : Ty) →
    tree.Updates (λ x y. slice_cmp nat_cmp x.now y.now) m n key (Some after) → key.now ≡ name →
    (known : Option Known) → known ≡ tree.get_by (λ k. slice_cmp nat_cmp name k.now) m → ((t : Ty) → is_other_type (Some after) t ≡ (is_other_type known t || not (same_type ty t))) →
    (p : List ℕ × Ty) → is_other_there n p ≡ (is_other_there m p || has_other_type ((name, ty) ∷ []) p)
noted key m n after name ty u e known is h p =
    ap (λ g. is_other_type g p.1) (btree_map_updates_str key.now m n (Some after) u p.0) ∙ ap (λ k. is_other_type (cond (bytes_eq k p.0) (Some after) (at p.0)) p.1) e
    ∙ chosen (bytes_eq name p.0) refl
  where
    at : List ℕ → Option Known
    at y = tree.get_by (λ k. slice_cmp nat_cmp y k.now) m

    chosen : (b : Bool) → bytes_eq name p.0 ≡ b →
        is_other_type (cond b (Some after) (at p.0)) p.1 ≡ (is_other_type (at p.0) p.1 || ((bytes_eq name p.0 && not (same_type ty p.1)) || false))
    chosen true f =
        h p.1 ∙ ap (λ k. is_other_type k p.1 || not (same_type ty p.1)) (is ∙ ap at ((bytes_eq-Decides name p.0).0 f))
        ∙ ap (λ b. is_other_type (at p.0) p.1 || b) (sym (or_false (not (same_type ty p.1))))
        ∙ ap (λ b. is_other_type (at p.0) p.1 || ((b && not (same_type ty p.1)) || false)) (sym f)
    chosen false f = sym (or_false (is_other_type (at p.0) p.1)) ∙ ap (λ b. is_other_type (at p.0) p.1 || ((b && not (same_type ty p.1)) || false)) (sym f)

-- a test that one of those before passes, or one more
pub any_more : {X : Type 0} (test : X → Bool) (xs : List X) (i : ℕ) (x : X) (start old new : Bool) → i < length xs → x ≡ get_or xs i x →
    old ≡ (start || list_any test (take i xs)) → new ≡ (old || list_any test (x ∷ [])) → new ≡ (start || list_any test (take (i + 1) xs))
any_more test xs i x start old new lt is e g =
    g ∙ ap (λ o. o || list_any test (x ∷ [])) e ∙ sym (or_assoc start (list_any test (take i xs)) (list_any test (x ∷ [])))
    ∙ ap (λ b. start || b) (sym (any_append test (take i xs) (x ∷ [])) ∙ ap (list_any test) (sym (taken_more xs i x lt is)))

-- a test of what stands from an index on
pub any_next : {X : Type 0} (test : X → Bool) (xs : List X) (i : ℕ) (x : X) (b : Bool) → i < length xs → x ≡ get_or xs i x → b ≡ test x →
    list_any test (drop i xs) ≡ (b || list_any test (drop (i + 1) xs))
any_next test xs i x b lt is e = ap (list_any test) (at_index xs i x lt is) ∙ ap (λ c. c || list_any test (drop (i + 1) xs)) (sym e)

-- the types of one event more
pub types_more : (found : List (Bor Ref × Bor CheckedEvent)) (i : ℕ) (x : Bor Ref × Bor CheckedEvent) (params : Entries) (old new : BTreeMap (Bor (List ℕ)) Known) →
    i < length found → x ≡ get_or found i x → params ≡ x.1.now.params → HasTypesOf old (found_at (take i found)) →
    ((p : List ℕ × Ty) → is_other_there new p ≡ (is_other_there old p || has_other_type params p)) → HasTypesOf new (found_at (take (i + 1) found))
types_more found i x params old new lt is e h g p =
    g p ∙ ap (λ b. b || has_other_type params p) (h p)
    ∙ sym (any_append (λ q. bytes_eq q.0 p.0 && not (same_type q.1 p.1)) (joined (map (λ b. b.1.params) (found_at (take i found)))) params)
    ∙ ap (λ ps. has_other_type ps p)
    (ap (λ ps. joined (map (λ b. b.1.params) (found_at (take i found))) ++ ps) e
    ∙ sym (map_joined (λ b. b.1.params) (found_at (take i found)) (x.0.now, x.1.now))
    ∙ ap (λ xs. joined (map (λ b. b.1.params) xs)) (sym (ap found_at (taken_more found i x lt is) ∙ map-append (λ y. (y.0.now, y.1.now)) (take i found) (x ∷ []))))
