-- Names of environments, and the free identifiers of formulas.
use Rattle.std.proofs.Common.{◌≡◌, ◌∙◌, ap, refl, ℕ, ℤ, Bool, true, false, cond, List, [], ◌∷◌, ◌++◌, Option, Some, None, bytes_eq, sym, subst, ◌||◌, fold, is_some, length, take}
use Rattle.std.specs.List.{AllByRecursion, list_any}
use Rattle.std.specs.Cmp.Lexicographic.{same_text}
use Rattle.std.proofs.lemmas.Cmp.{nat_list_eq_equiv}
use Rattle.formula_core.specs.declared.ty.Ty.{Ty}
use Rattle.formula_core.specs.declared.formula.Formula.{Formula}
use Rattle.formula_core.specs.declared.formula.Formula.TheOpen.{Int as IntF, Bound as BoundF}
use Rattle.formula_core.specs.declared.formula.Formula.TheVariants as formula
use Rattle.formula_core.specs.declared.formula.Formula.TheViews.{rolls-Int, rolls-Bound}
use Rattle.formula_core.specs.Env.{type_in}
use Rattle.formula_core.specs.Formulas.{same_identifier, with_identifier, occurrences_step, occurrences, free_of}
use Rattle.formula_core.specs.Types.{same_type}
use Rattle.formula_core.proofs.Weakening.{first_true}
use Rattle.type_formula.specs.Answers.{paired, with_typed_name, with_names_typed}
use Rattle.formula_core.proofs.Equations.{formula_fold}
use Rattle.type_formula.specs.Scopes.{Scope, one_further, position_of}

abbrev pub Entries : Type 0
Entries = List (List ℕ × Ty)

pub all_append : {X : Type 0} → (P : X → Type 0) (xs ys : List X) → AllByRecursion P xs → AllByRecursion P ys → AllByRecursion P (xs ++ ys)
all_append P [] ys h k = k
all_append P (x ∷ xs) ys h k = (h.0, all_append P xs ys h.1 k)

pub all_front : {X : Type 0} → (P : X → Type 0) (xs ys : List X) → AllByRecursion P (xs ++ ys) → AllByRecursion P xs
all_front P [] ys h = tt
all_front P (x ∷ xs) ys h = (h.0, all_front P xs ys h.1)

pub all_back : {X : Type 0} → (P : X → Type 0) (xs ys : List X) → AllByRecursion P (xs ++ ys) → AllByRecursion P ys
all_back P [] ys h = h
all_back P (x ∷ xs) ys h = all_back P xs ys h.1

pub all_each : {X : Type 0} → (P Q : X → Type 0) (xs : List X) → ((x : X) → P x → Q x) → AllByRecursion P xs → AllByRecursion Q xs
all_each P Q [] f h = tt
all_each P Q (x ∷ xs) f h = (f x h.0, all_each P Q xs f h.1)

pub occurrences-Int : (n : ℤ) → occurrences (formula.Int n) ≡ []
occurrences-Int n = formula_fold occurrences_step (IntF n) _ (rolls-Int n)

pub occurrences-Bound : (i : ℕ) (t : Ty) → occurrences (formula.Bound i t) ≡ []
occurrences-Bound i t = formula_fold occurrences_step (BoundF i t) _ (rolls-Bound i t)

-- a name that has a place in a scope has its type there
placed_further : (o : Option (ℕ × Ty)) (q : Option Ty) (p : ℕ × Ty) → ((r : ℕ × Ty) → o ≡ Some r → q ≡ Some r.1) → one_further o ≡ Some p → q ≡ Some p.1
placed_further None q p further h = cc
placed_further (Some r) q p further h = let is : r.1 ≡ p.1 = cc in further r refl ∙ ap Some is

placed_step : (a b : Bool) (t : Ty) (o : Option (ℕ × Ty)) (q : Option Ty) (p : ℕ × Ty) → a ≡ b → ((r : ℕ × Ty) → o ≡ Some r → q ≡ Some r.1) → cond a (Some (0, t)) (one_further o) ≡ Some p → cond b (Some t) q ≡ Some p.1
placed_step true true t o q p e further h = cc
placed_step true false t o q p e further h = cc
placed_step false true t o q p e further h = cc
placed_step false false t o q p e further h = placed_further o q p further h

pub placed_type : (x : List ℕ) (s : Scope Ty) (p : ℕ × Ty) → position_of x s ≡ Some p → type_in s x ≡ Some p.1
placed_type x [] p h = cc
placed_type x (e ∷ es) p h = placed_step (bytes_eq e.0 x) (bytes_eq x e.0) e.1 (position_of x es) (type_in es x) p (nat_list_eq_equiv.symm e.0 x) (placed_type x es) h

-- What stands in an environment stands in a longer one.

abbrev pub IsWithin : Entries → Entries → Type 0
IsWithin env larger = (x : List ℕ) (t : Ty) → type_in env x ≡ Some t → type_in larger x ≡ Some t

sooner_step : (b : Bool) (u t : Ty) (o p : Option Ty) → (o ≡ Some t → p ≡ Some t) → cond b (Some u) o ≡ Some t → cond b (Some u) p ≡ Some t
sooner_step true u t o p f h = h
sooner_step false u t o p f h = f h

pub sooner : (xs ys : Entries) → IsWithin xs (xs ++ ys)
sooner [] ys x t h = cc
sooner (e ∷ xs) ys x t h = sooner_step (bytes_eq x e.0) e.1 t (type_in xs x) (type_in (xs ++ ys) x) (sooner xs ys x t) h

later_step : (b : Bool) (u : Ty) (o p q : Option Ty) → (o ≡ None → p ≡ q) → cond b (Some u) o ≡ None → cond b (Some u) p ≡ q
later_step true u o p q f h = cc
later_step false u o p q f h = f h

pub later : (xs ys : Entries) (x : List ℕ) → type_in xs x ≡ None → type_in (xs ++ ys) x ≡ type_in ys x
later [] ys x h = refl
later (e ∷ xs) ys x h = later_step (bytes_eq x e.0) e.1 (type_in xs x) (type_in (xs ++ ys) x) (type_in ys x) (later xs ys x) h

with_cond : (b : Bool) (env : Entries) (e : List ℕ × Ty) → IsWithin env (cond b env (env ++ e ∷ []))
with_cond true env e x t h = h
with_cond false env e x t h = sooner env (e ∷ []) x t h

pub within_name : (env : Entries) (x : List ℕ) (o : Option Ty) → IsWithin env (with_typed_name env x o)
within_name env x None y u h = h
within_name env x (Some t) y u h = with_cond (is_some (type_in env x)) env (x, t) y u h

pub within_extended : (env : Entries) (wanted : List (List ℕ)) (f : Formula) → IsWithin env (with_names_typed env wanted f)
within_extended env [] f x t h = h
within_extended env (w ∷ ws) f x t h = within_extended (with_typed_name env w (type_in (free_of f) w)) ws f x t (within_name env w (type_in (free_of f) w) x t h)

-- Names that a formula adds.

module _ (P : List ℕ × Ty → Type 0) where
  has_step : (b : Bool) (x y : List ℕ) (u t : Ty) (o : Option Ty) → bytes_eq x y ≡ b → P (y, u) → (o ≡ Some t → P (x, t)) → cond b (Some u) o ≡ Some t → P (x, t)
  has_step true x y u t o e p f h = let is : u ≡ t = cc in subst P (λ i. (same_text y x (sym (nat_list_eq_equiv.symm y x ∙ e)) i, is i)) p
  has_step false x y u t o e p f h = f h

  pub found_has : (xs : Entries) (x : List ℕ) (t : Ty) → AllByRecursion P xs → type_in xs x ≡ Some t → P (x, t)
  found_has [] x t all h = cc
  found_has (e ∷ xs) x t all h = has_step (bytes_eq x e.0) x e.0 e.1 t (type_in xs x) refl all.0 (found_has xs x t all.1) h

  new_has : (b : Bool) (xs : Entries) (x : List ℕ × Ty) → AllByRecursion P xs → P x → AllByRecursion P (cond b xs (xs ++ x ∷ []))
  new_has true xs x all p = all
  new_has false xs x all p = all_append P xs (x ∷ []) all (p, tt)

  all_new : (xs ys : Entries) → AllByRecursion P xs → AllByRecursion P ys → AllByRecursion P (fold with_identifier xs ys)
  all_new xs [] all more = all
  all_new xs (y ∷ ys) all more = all_new (with_identifier xs y) ys (new_has (list_any (λ z. same_identifier z y) xs) xs y all more.0) more.1

  pub free_has : (f : Formula) (x : List ℕ) (t : Ty) → AllByRecursion P (occurrences f) → type_in (free_of f) x ≡ Some t → P (x, t)
  free_has f x t all h = found_has (free_of f) x t (all_new [] (occurrences f) tt all) h

  pub name_has : (env : Entries) (x : List ℕ) (o : Option Ty) → AllByRecursion P env → ((t : Ty) → o ≡ Some t → P (x, t)) → AllByRecursion P (with_typed_name env x o)
  name_has env x None all new = all
  name_has env x (Some t) all new = new_has (is_some (type_in env x)) env (x, t) all (new t refl)

  -- what holds of each free identifier holds of each name that is added
  pub extended_has : (env : Entries) (wanted : List (List ℕ)) (f : Formula) → AllByRecursion P (occurrences f) → AllByRecursion P env → AllByRecursion P (with_names_typed env wanted f)
  extended_has env [] f free all = all
  extended_has env (w ∷ ws) f free all =
      extended_has (with_typed_name env w (type_in (free_of f) w)) ws f free (name_has env w (type_in (free_of f) w) all (λ t h. free_has f w t free h))

-- Each free identifier is in the list of the free ones.

abbrev IsFound : Entries → List ℕ × Ty → Type 0
IsFound xs x = (t : Ty) × (type_in xs x.0 ≡ Some t)

found_first : (b : Bool) (u : Ty) (o : Option Ty) → b ≡ true → cond b (Some u) o ≡ Some u
found_first true u o e = refl
found_first false u o e = cc

found_further : (b : Bool) (e : List ℕ × Ty) (xs : Entries) (x : List ℕ × Ty) → bytes_eq x.0 e.0 ≡ b → IsFound xs x → IsFound (e ∷ xs) x
found_further true e xs x is found = (e.1, ap (λ c. cond c (Some e.1) (type_in xs x.0)) is)
found_further false e xs x is found = (found.0, ap (λ c. cond c (Some e.1) (type_in xs x.0)) is ∙ found.1)

found_any : (xs : Entries) (x : List ℕ × Ty) → list_any (λ z. same_identifier z x) xs ≡ true → IsFound xs x
found_any [] x h = cc
found_any (e ∷ xs) x h = go (same_identifier e x) refl (found_any xs x) h
  where
    go : (b : Bool) → same_identifier e x ≡ b → (list_any (λ z. same_identifier z x) xs ≡ true → IsFound xs x) → (b || list_any (λ z. same_identifier z x) xs) ≡ true → IsFound (e ∷ xs) x
    go true is more h = (e.1, found_first (bytes_eq x.0 e.0) e.1 (type_in xs x.0) (nat_list_eq_equiv.symm x.0 e.0 ∙ first_true (bytes_eq e.0 x.0) (same_type e.1 x.1) is))
    go false is more h = found_further (bytes_eq x.0 e.0) e xs x refl (more h)

found_last : (xs : Entries) (x : List ℕ × Ty) (o : Option Ty) → type_in xs x.0 ≡ o → IsFound (xs ++ x ∷ []) x
found_last xs x None h = (x.1, later xs (x ∷ []) x.0 h ∙ found_first (bytes_eq x.0 x.0) x.1 None (nat_list_eq_equiv.refl x.0))
found_last xs x (Some t) h = (t, sooner xs (x ∷ []) x.0 t h)

found_new : (b : Bool) (xs : Entries) (x : List ℕ × Ty) → list_any (λ z. same_identifier z x) xs ≡ b → IsFound (cond b xs (xs ++ x ∷ [])) x
found_new true xs x h = found_any xs x h
found_new false xs x h = found_last xs x (type_in xs x.0) refl

new_within : (b : Bool) (xs : Entries) (x : List ℕ × Ty) → IsWithin xs (cond b xs (xs ++ x ∷ []))
new_within true xs x y t h = h
new_within false xs x y t h = sooner xs (x ∷ []) y t h

all_within : (xs ys : Entries) → IsWithin xs (fold with_identifier xs ys)
all_within xs [] x t h = h
all_within xs (y ∷ ys) x t h = all_within (with_identifier xs y) ys x t (new_within (list_any (λ z. same_identifier z y) xs) xs y x t h)

all_found : (xs ys : Entries) → AllByRecursion (IsFound (fold with_identifier xs ys)) ys
all_found xs [] = tt
all_found xs (y ∷ ys) =
    let here = found_new (list_any (λ z. same_identifier z y) xs) xs y refl in
    ((here.0, all_within (with_identifier xs y) ys y.0 here.0 here.1), all_found (with_identifier xs y) ys)

pub free_found : (f : Formula) → AllByRecursion (IsFound (free_of f)) (occurrences f)
free_found f = all_found [] (occurrences f)

-- A wanted name that occurs is added.

pub is_wanted : (wanted : List (List ℕ)) (ts : List Ty) (x : List ℕ) (t : Ty) → type_in (paired wanted ts) x ≡ Some t → list_any (bytes_eq x) wanted ≡ true
is_wanted [] ts x t h = cc
is_wanted (w ∷ wanted) [] x t h = cc
is_wanted (w ∷ wanted) (u ∷ ts) x t h = go (bytes_eq x w) (is_wanted wanted ts x t) h
  where
    go : (b : Bool) → (type_in (paired wanted ts) x ≡ Some t → list_any (bytes_eq x) wanted ≡ true) → cond b (Some u) (type_in (paired wanted ts) x) ≡ Some t → (b || list_any (bytes_eq x) wanted) ≡ true
    go true more h = refl
    go false more h = more h

taken_name : (b : Bool) (env : Entries) (w : List ℕ) (u : Ty) (x : List ℕ) → b ≡ false → type_in env x ≡ None → bytes_eq x w ≡ true → type_in (cond b env (env ++ (w, u) ∷ [])) x ≡ Some u
taken_name true env w u x n e h = cc
taken_name false env w u x n e h = later env ((w, u) ∷ []) x e ∙ found_first (bytes_eq x w) u None h

other_name : (b : Bool) (env : Entries) (w : List ℕ) (u : Ty) (x : List ℕ) → type_in env x ≡ None → bytes_eq x w ≡ false → type_in (cond b env (env ++ (w, u) ∷ [])) x ≡ None
other_name true env w u x e h = e
other_name false env w u x e h = later env ((w, u) ∷ []) x e ∙ ap (λ c. cond c (Some u) None) h

not_there : (o : Option Ty) → o ≡ None → is_some o ≡ false
not_there None e = refl
not_there (Some t) e = cc

passed_name : (env : Entries) (w : List ℕ) (o : Option Ty) (x : List ℕ) → type_in env x ≡ None → bytes_eq x w ≡ false → type_in (with_typed_name env w o) x ≡ None
passed_name env w None x e h = e
passed_name env w (Some u) x e h = other_name (is_some (type_in env w)) env w u x e h

pub wanted_added : (env : Entries) (wanted : List (List ℕ)) (f : Formula) (x : List ℕ) (t : Ty) →
    type_in env x ≡ None → list_any (bytes_eq x) wanted ≡ true → type_in (free_of f) x ≡ Some t → type_in (with_names_typed env wanted f) x ≡ Some t
wanted_added env [] f x t e h k = cc
wanted_added env (w ∷ ws) f x t e h k = go (bytes_eq x w) refl (λ next more. wanted_added (with_typed_name env w (type_in (free_of f) w)) ws f x t next more k) h
  where
    here : bytes_eq x w ≡ true → type_in (with_typed_name env w (type_in (free_of f) w)) x ≡ Some t
    here is =
        let same : x ≡ w = same_text x w (sym is) in
        ap (λ o. type_in (with_typed_name env w o) x) (ap (type_in (free_of f)) (sym same) ∙ k)
        ∙ taken_name (is_some (type_in env w)) env w t x (not_there (type_in env w) (ap (type_in env) (sym same) ∙ e)) e is

    go : (b : Bool) → bytes_eq x w ≡ b
        → (type_in (with_typed_name env w (type_in (free_of f) w)) x ≡ None → list_any (bytes_eq x) ws ≡ true → type_in (with_names_typed env (w ∷ ws) f) x ≡ Some t)
        → (b || list_any (bytes_eq x) ws) ≡ true → type_in (with_names_typed env (w ∷ ws) f) x ≡ Some t
    go true is more h = within_extended (with_typed_name env w (type_in (free_of f) w)) ws f x t (here is)
    go false is more h = more (passed_name env w (type_in (free_of f) w) x e is) h

-- The first entries stay as they are.

first_kept : (old mid rest : Entries) → take (length old) mid ≡ old → take (length old) (mid ++ rest) ≡ old
first_kept [] mid rest h = refl
first_kept (e ∷ old) [] rest h = cc
first_kept (e ∷ old) (m ∷ mid) rest h =
    let first : m ≡ e = cc in
    let others : take (length old) mid ≡ old = cc in
    λ i. first i ∷ first_kept old mid rest others i

cond_kept : (b : Bool) (old mid : Entries) (e : List ℕ × Ty) → take (length old) mid ≡ old → take (length old) (cond b mid (mid ++ e ∷ [])) ≡ old
cond_kept true old mid e h = h
cond_kept false old mid e h = first_kept old mid (e ∷ []) h

pub name_kept : (old mid : Entries) (x : List ℕ) (o : Option Ty) → take (length old) mid ≡ old → take (length old) (with_typed_name mid x o) ≡ old
name_kept old mid x None h = h
name_kept old mid x (Some t) h = cond_kept (is_some (type_in mid x)) old mid (x, t) h
