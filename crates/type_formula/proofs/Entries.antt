-- Places of names in the scopes of the code.
use Rattle.std.proofs.Common.{◌≡◌, ◌∙◌, sym, ap, subst, refl, ℕ, zero, suc, ◌+◌, Bool, true, false, cond, List, [], ◌∷◌, ◌++◌, length, take, drop, get_or, drop-cons, ◌<◌, map, replicate, Option, Some, None, Result, Ok, Err, OnOk, add-one, eqb, arith, append_assoc}
use Rattle.std.specs.Prelude.{bytes_eq, is_some}
use Rattle.std.proofs.lemmas.List.{replicate_more}
use Rattle.std.proofs.lemmas.Bool.{ne_eqb}
use Rattle.std.proofs.lemmas.Cmp.{nat_list_eq_equiv}
use Rattle.formula_core.specs.Env.{type_in}
use Rattle.unification.specs.Terms.{Open, open_of, variable, instance_from, term_of}
use Rattle.unification.specs.declared.term.Term.{Term}
use Rattle.unification.specs.Solutions.{Equality}
use Rattle.formula_core.specs.Schemes.{Scheme}
use Rattle.formula_core.specs.declared.ty.Ty.{Ty}
use Rattle.type_formula.specs.Bare.{Bare, BareBounds, plain, typed, nothing}
use Rattle.type_formula.specs.Scopes.{Scope, one_further, position_of, has_name}
use Rattle.type_formula.specs.PrivateGenerated.{with_variables, condition, all_generated}
use Rattle.type_formula.specs.PrivateViews.{numbered_scope, free_scope, entry, stacked, scope_of, found_of, variable_at, open_terms}
use Rattle.type_formula.specs.declared.scope.Entry.{Entry}

pub stacked-push : (scope : Scope Open) (es : List Entry) (e : Entry) → stacked scope (es ++ e ∷ []) ≡ (e.name, variable e.variable) ∷ stacked scope es
stacked-push scope [] e = refl
stacked-push scope (x ∷ es) e = stacked-push ((x.name, variable x.variable) ∷ scope) es e

-- the nearest entry has the name
pub found_last : (xs rest : List Entry) (e : Entry) (x : List ℕ) → xs ≡ rest ++ e ∷ [] → bytes_eq e.name x ≡ true → Some (0, variable e.variable) ≡ position_of x (scope_of xs)
found_last xs rest e x h n = sym (ap (λ es. position_of x (scope_of es)) h ∙ ap (position_of x) (stacked-push [] rest e) ∙ ap (λ b. cond b (Some (0, variable e.variable)) (one_further (position_of x (scope_of rest)))) n)

-- the nearest entry has another name
pub found_before : (xs rest : List Entry) (e : Entry) (x : List ℕ) → xs ≡ rest ++ e ∷ [] → bytes_eq e.name x ≡ false → position_of x (scope_of xs) ≡ one_further (position_of x (scope_of rest))
found_before xs rest e x h n = ap (λ es. position_of x (scope_of es)) h ∙ ap (position_of x) (stacked-push [] rest e) ∙ ap (λ b. cond b (Some (0, variable e.variable)) (one_further (position_of x (scope_of rest)))) n

pub found_further : (o : Option (ℕ × Open)) → found_of (one_further o) ≡ found_of o
found_further None = refl
found_further (Some p) = refl

abbrev pub is_there : {A : Type 0} → Option A → Bool
is_there None = false
is_there (Some x) = true

further_there : {A : Type 0} → (o : Option (ℕ × A)) → is_there (one_further o) ≡ is_there o
further_there None = refl
further_there (Some p) = refl

place_there : {A : Type 0} → (a : A) (o : Option (ℕ × A)) (b c : Bool) → is_there o ≡ c → is_there (cond b (Some (0, a)) (one_further o)) ≡ cond b true c
place_there a o true c h = refl
place_there a o false c h = further_there o ∙ h

-- a name is in a scope where it has a place there
pub has_place : {A : Type 0} → (x : List ℕ) (s : Scope A) → is_there (position_of x s) ≡ has_name x s
has_place x [] = refl
has_place x (e ∷ es) = place_there e.1 (position_of x es) (bytes_eq e.0 x) (has_name x es) (has_place x es)

pub terms_of-append : (a b : List Term) → open_terms (a ++ b) ≡ open_terms a ++ open_terms b
terms_of-append [] b = refl
terms_of-append (t ∷ a) b = ap (λ ts. term_of t ∷ ts) (terms_of-append a b)

pub instances-replicate : (n k : ℕ) (s : Scheme) → map (instance_from n) (replicate k s) ≡ replicate k (instance_from n s)
instances-replicate n zero s = refl
instances-replicate n (suc k) s = ap (λ ts. instance_from n s ∷ ts) (instances-replicate n k s)

pub copies-push : (old new : List Term) (t : Term) (k : ℕ) (o : Open) → new ≡ old ++ t ∷ [] → open_terms old ≡ o ∷ replicate k o → term_of t ≡ o → open_terms new ≡ o ∷ replicate (k + 1) o
copies-push old new t k o e h is =
    ap open_terms e ∙ terms_of-append old (t ∷ []) ∙ ap (λ ts. ts ++ term_of t ∷ []) h ∙ ap (λ u. o ∷ (replicate k o ++ u ∷ [])) is ∙ ap (λ ts. o ∷ ts) (replicate_more k o)

-- one more name bound
pub bind_plain : (names rest : BareBounds) (x : List ℕ) (n : ℕ) (old mid : List Entry) → names ≡ plain x rest → mid ≡ old ++ entry x n ∷ [] → with_variables rest (n + 1) (scope_of mid) ≡ with_variables names n (scope_of old)
bind_plain names rest x n old mid is e =
    ap (λ m. with_variables rest m (scope_of mid)) (add-one n)
    ∙ ap (λ es. with_variables rest (suc n) (scope_of es)) e
    ∙ ap (with_variables rest (suc n)) (stacked-push [] old (entry x n))
    ∙ ap (λ ns. with_variables ns n (scope_of old)) (sym is)

pub bind_typed : (names rest : BareBounds) (x : List ℕ) (t : Bare) (n : ℕ) (old mid : List Entry) → names ≡ typed x t rest → mid ≡ old ++ entry x n ∷ [] → with_variables rest (n + 1) (scope_of mid) ≡ with_variables names n (scope_of old)
bind_typed names rest x t n old mid is e =
    ap (λ m. with_variables rest m (scope_of mid)) (add-one n)
    ∙ ap (λ es. with_variables rest (suc n) (scope_of es)) e
    ∙ ap (with_variables rest (suc n)) (stacked-push [] old (entry x n))
    ∙ ap (λ ns. with_variables ns n (scope_of old)) (sym is)

prefix_kept : (old more xs : List Entry) → take (length (old ++ more)) xs ≡ old ++ more → take (length old) xs ≡ old
prefix_kept [] more xs h = refl
prefix_kept (a ∷ old) more [] h = cc
prefix_kept (a ∷ old) more (x ∷ xs) h =
    let first : x ≡ a = ap (head_or a) h in
    let rest : take (length (old ++ more)) xs ≡ old ++ more = ap tail_of h in
    λ i. first i ∷ prefix_kept old more xs rest i
  where
    head_or : Entry → List Entry → Entry
    head_or b [] = b
    head_or b (e ∷ es) = e

    tail_of : List Entry → List Entry
    tail_of [] = []
    tail_of (e ∷ es) = es

pub kept_step : (old mid xs : List Entry) (e : Entry) → mid ≡ old ++ e ∷ [] → take (length mid) xs ≡ mid → take (length old) xs ≡ old
kept_step old mid xs e is h = prefix_kept old (e ∷ []) xs (subst (λ es. take (length es) xs ≡ es) is h)

pub on_ok : {A E : Type 0} {P Q : Type 0} → (r : Result A E) → (P → Q) → OnOk r P → OnOk r Q
on_ok (Ok a) f h = f h
on_ok (Err e) f h = h

-- a place that is there
pub is_bound : (r : Option (ℕ × ℕ)) (x : List ℕ) (s : Scope Open) → variable_at r ≡ position_of x s → is_some r ≡ has_name x s
is_bound r x s e = there r ∙ ap is_there e ∙ has_place x s
  where
    there : (r : Option (ℕ × ℕ)) → is_some r ≡ is_there (variable_at r)
    there None = refl
    there (Some p) = refl

-- no types are left where no part is
pub end_condition : (env : List (List ℕ × Ty)) (bound free : Scope Open) (n : ℕ) (ts : List Term) → condition (eqb (length ts) 0) ≡ all_generated env bound free nothing n (open_terms ts)
end_condition env bound free n [] = refl
end_condition env bound free n (t ∷ ts) = ap condition (ne_eqb (suc (length ts)) 0 (λ e. omega arith))

-- the schemes of a form whose operands all have one type
pub copies-instances : (n m k : ℕ) (s : Scheme) (o : Open) → m ≡ k → o ≡ instance_from n s → o ∷ replicate m o ≡ map (instance_from n) (s ∷ replicate k s)
copies-instances n m k s o h e = (λ i. e i ∷ replicate (h i) (e i)) ∙ ap (λ ts. instance_from n s ∷ ts) (sym (instances-replicate n k s))

pub collected_form : (es mid gen gen' : List Equality) (a b : Equality) → mid ≡ es ++ a ∷ [] → a ≡ b → gen ≡ gen' → mid ++ gen ≡ es ++ b ∷ gen'
collected_form es mid gen gen' a b h e g = ap (λ xs. xs ++ gen) h ∙ append_assoc es (a ∷ []) gen ∙ (λ i. es ++ (e i ∷ g i))

-- The places of wanted names.

numbered_drop : (xs : List (List ℕ)) (i : ℕ) (x : List ℕ) → i < length xs → x ≡ get_or xs i x → numbered_scope (drop i xs) i ≡ (x, variable i) ∷ numbered_scope (drop (i + 1) xs) (i + 1)
numbered_drop xs i x lt is =
    ap (λ ys. numbered_scope ys i) (drop-cons xs i x lt)
    ∙ (λ k. (sym is k, variable i) ∷ numbered_scope (drop (sym (add-one i) k) xs) (sym (add-one i) k))

pub wanted_here : (xs : List (List ℕ)) (i : ℕ) (x name : List ℕ) → i < length xs → x ≡ get_or xs i x → bytes_eq x name ≡ true → found_of (position_of name (numbered_scope (drop i xs) i)) ≡ Some (variable i)
wanted_here xs i x name lt is e =
    ap (λ s. found_of (position_of name s)) (numbered_drop xs i x lt is)
    ∙ ap (λ b. found_of (cond b (Some (0, variable i)) (one_further (position_of name (numbered_scope (drop (i + 1) xs) (i + 1)))))) e

pub wanted_later : (xs : List (List ℕ)) (i : ℕ) (x name : List ℕ) → i < length xs → x ≡ get_or xs i x → bytes_eq x name ≡ false
    → found_of (position_of name (numbered_scope (drop (i + 1) xs) (i + 1))) ≡ found_of (position_of name (numbered_scope (drop i xs) i))
wanted_later xs i x name lt is e =
    sym (ap (λ s. found_of (position_of name s)) (numbered_drop xs i x lt is)
    ∙ ap (λ b. found_of (cond b (Some (0, variable i)) (one_further (position_of name (numbered_scope (drop (i + 1) xs) (i + 1)))))) e
    ∙ found_further (position_of name (numbered_scope (drop (i + 1) xs) (i + 1))))

-- a free name has its type in the environment, or else the variable of its place among the wanted names
abbrev found_in : Option Ty → Option Open → Option Open
found_in (Some t) o = Some (open_of t)
found_in None o = o

free_step : (a b : Bool) (t : Ty) (o : Option Ty) (p : Option (ℕ × Open)) (w : Option Open) → a ≡ b → found_of p ≡ found_in o w → found_of (cond a (Some (0, open_of t)) (one_further p)) ≡ found_in (cond b (Some t) o) w
free_step true true t o p w e h = refl
free_step true false t o p w e h = cc
free_step false true t o p w e h = cc
free_step false false t o p w e h = found_further p ∙ h

free_found : (env : List (List ℕ × Ty)) (wanted : List (List ℕ)) (x : List ℕ) → found_of (position_of x (free_scope env wanted)) ≡ found_in (type_in env x) (found_of (position_of x (numbered_scope wanted 0)))
free_found [] wanted x = refl
free_found (e ∷ env) wanted x =
    free_step (bytes_eq e.0 x) (bytes_eq x e.0) e.1 (type_in env x) (position_of x (free_scope env wanted)) (found_of (position_of x (numbered_scope wanted 0)))
    (nat_list_eq_equiv.symm e.0 x) (free_found env wanted x)

pub free_there : (env : List (List ℕ × Ty)) (wanted : List (List ℕ)) (x : List ℕ) (t : Ty) → type_in env x ≡ Some t → found_of (position_of x (free_scope env wanted)) ≡ Some (open_of t)
free_there env wanted x t h = free_found env wanted x ∙ ap (λ o. found_in o (found_of (position_of x (numbered_scope wanted 0)))) h

pub free_wanted : (env : List (List ℕ × Ty)) (wanted : List (List ℕ)) (x : List ℕ) → type_in env x ≡ None → found_of (position_of x (free_scope env wanted)) ≡ found_of (position_of x (numbered_scope wanted 0))
free_wanted env wanted x h = free_found env wanted x ∙ ap (λ o. found_in o (found_of (position_of x (numbered_scope wanted 0)))) h
