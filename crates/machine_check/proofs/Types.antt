-- The first types of names, one name after another.
use Rattle.std.proofs.Common.{◌≡◌, ◌<◌, ◌+◌, ◌∙◌, sym, ap, refl, ℕ, Bool, true, false, cond, List, [], ◌∷◌, ◌++◌, take, length, get_or, bytes_eq}
use Rattle.std.specs.Prelude.{Option, Some, None}
use Rattle.std.specs.Borrow.{Bor}
use Rattle.std.specs.BTreeMap.{BTreeMap}
use Rattle.std.specs.BTreeMap as tree
use Rattle.std.specs.Map.{lookup}
use Rattle.std.specs.Option.{option_map, option_or}
use Rattle.std.specs.Cmp.Lexicographic.{slice_cmp}
use Rattle.std.specs.Ordering.{nat_cmp, is_eq}
use Rattle.std.proofs.lemmas.Cmp.{nat_list_eq_equiv}
use Rattle.std.proofs.lemmas.Map.Text.{btree_map_updates_str}
use Rattle.std.proofs.lemmas.Slice.Eq.{bytes_eq-Decides}
use Rattle.formula_core.specs.declared.ty.Ty.{Ty}
use Rattle.formula_core.specs.Env.{type_in}
use Rattle.model_core.proofs.Firsts.{taken_more}
use Rattle.check_rules.specs.Typed.{Entries}
use Rattle.machine_check.specs.PrivateTyped.{type_of_text}

pub or_none : {X : Type 0} (o : Option X) → o ≡ option_or o None
or_none None = refl
or_none (Some x) = refl

or_assoc : {X : Type 0} (a b c : Option X) → option_or (option_or a b) c ≡ option_or a (option_or b c)
or_assoc None b c = refl
or_assoc (Some x) b c = refl

type_append : (name : List ℕ) (xs ys : Entries) → type_in (xs ++ ys) name ≡ option_or (type_in xs name) (type_in ys name)
type_append name [] ys = refl
type_append name (x ∷ xs) ys = at (bytes_eq name x.0) (type_append name xs ys)
  where
    at : (b : Bool) → type_in (xs ++ ys) name ≡ option_or (type_in xs name) (type_in ys name) →
        cond b (Some x.1) (type_in (xs ++ ys) name) ≡ option_or (cond b (Some x.1) (type_in xs name)) (type_in ys name)
    at true h = refl
    at false h = h

pub none_there : (types : BTreeMap (Bor (List ℕ)) (Bor Ty)) → types.entries ≡ [] → (x : List ℕ) → type_of_text types x ≡ None
none_there types e x = ap (λ es. option_map (λ t. t.now) (lookup (λ k. is_eq (slice_cmp nat_cmp x k.now)) es)) e

pub noted : (key : Bor (List ℕ)) (m n : BTreeMap (Bor (List ℕ)) (Bor Ty)) (after : Bor Ty) (name : List ℕ) (ty : Ty) →
    tree.Updates (λ x y. slice_cmp nat_cmp x.now y.now) m n key (Some after) → key.now ≡ name → Some after.now ≡ option_or (type_of_text m name) (Some ty) →
    (x : List ℕ) → type_of_text n x ≡ option_or (type_of_text m x) (type_in ((name, ty) ∷ []) x)
noted key m n after name ty u e first x =
    ap (option_map (λ t. t.now)) (btree_map_updates_str key.now m n (Some after) u x) ∙ ap (λ k. option_map (λ t. t.now) (cond (bytes_eq k x) (Some after) at)) e
    ∙ chosen (bytes_eq name x) refl
  where
    at : Option (Bor Ty)
    at = tree.get_by (λ k. slice_cmp nat_cmp x k.now) m

    chosen : (b : Bool) → bytes_eq name x ≡ b → option_map (λ t. t.now) (cond b (Some after) at) ≡ option_or (option_map (λ t. t.now) at) (cond (bytes_eq x name) (Some ty) None)
    chosen true f =
        first ∙ ap (λ k. option_or (type_of_text m k) (Some ty)) ((bytes_eq-Decides name x).0 f)
        ∙ ap (λ b. option_or (option_map (λ t. t.now) at) (cond b (Some ty) None)) (sym (nat_list_eq_equiv.symm x name ∙ f))
    chosen false f =
        or_none (option_map (λ t. t.now) at)
        ∙ ap (λ b. option_or (option_map (λ t. t.now) at) (cond b (Some ty) None)) (sym (nat_list_eq_equiv.symm x name ∙ f))

-- a map that grows by the first types of one item more
pub types_grow : {X : Type 0} (f : List X → Entries) → ((xs ys : List X) → f (xs ++ ys) ≡ f xs ++ f ys) → (xs : List X) (i : ℕ) (x : X) (start before after : List ℕ → Option Ty) →
    i < length xs → x ≡ get_or xs i x → ((n : List ℕ) → before n ≡ option_or (start n) (type_in (f (take i xs)) n)) →
    ((n : List ℕ) → after n ≡ option_or (before n) (type_in (f (x ∷ [])) n)) →
    (n : List ℕ) → after n ≡ option_or (start n) (type_in (f (take (i + 1) xs)) n)
types_grow f law xs i x start before after lt is h g n =
    g n ∙ ap (λ o. option_or o (type_in (f (x ∷ [])) n)) (h n) ∙ or_assoc (start n) (type_in (f (take i xs)) n) (type_in (f (x ∷ [])) n)
    ∙ ap (option_or (start n))
    (sym (type_append n (f (take i xs)) (f (x ∷ []))) ∙ ap (λ es. type_in es n) (sym (law (take i xs) (x ∷ [])) ∙ ap f (sym (taken_more xs i x lt is))))
