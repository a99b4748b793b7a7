-- What the answers about parts say of the whole.
use Rattle.std.proofs.Common.{◌≡◌, ◌∙◌, sym, ap, subst, refl, ℕ, List, [], ◌∷◌, ◌++◌, append_assoc, Option, Some, None, Result, Ok, Err, IfOk, IfErr, IsOk, OnOk}
use Rattle.std.specs.Result.{IsErrOf}
use Rattle.type_formula.specs.declared.predicate.TypeFault.{TypeFault}
use Rattle.type_formula.specs.declared.predicate.TypeFault.TheVariants as fault
use Rattle.type_action.specs.Results.{IsOnly, HasNone, HasTwo}
use Rattle.type_action.specs.Private.{IsAdded, TellsFault, TellsAfter}

-- the values of Q are those of P, each in another form
pub record IsFormOf {A B : Type 0} (P : A → Type 0) (Q : B → Type 0) (g : A → B) : Type 0 where
  pub to : (a : A) → P a → Q (g a)
  pub from : (b : B) → Q b → (a : A) × P a × (b ≡ g a)
  pub apart : (x y : A) → g x ≡ g y → x ≡ y

pub form_only : {A B : Type 0} → (P : A → Type 0) (Q : B → Type 0) (g : A → B) (a : A) → IsFormOf P Q g → IsOnly P a → IsOnly Q (g a)
form_only P Q g a m h = record { holds = m.to a h.holds; only = λ b q. let f = m.from b q in f.2 ∙ ap g (h.only f.0 f.1) }

pub form_none : {A B : Type 0} → (P : A → Type 0) (Q : B → Type 0) (g : A → B) → IsFormOf P Q g → HasNone P → HasNone Q
form_none P Q g m h b q = let f = m.from b q in h f.0 f.1

pub form_two : {A B : Type 0} → (P : A → Type 0) (Q : B → Type 0) (g : A → B) → IsFormOf P Q g → HasTwo P → HasTwo Q
form_two P Q g m h = record { one = g h.one; two = g h.two; first = m.to h.one h.first; second = m.to h.two h.second; apart = λ e. h.apart (m.apart h.one h.two e) }

pub form_fault : {A B : Type 0} → (P : A → Type 0) (Q : B → Type 0) (g : A → B) (e : TypeFault) → IsFormOf P Q g → TellsFault P e → TellsFault Q e
form_fault P Q g fault.Clash m h = form_none P Q g m h
form_fault P Q g fault.Untyped m h = form_two P Q g m h
form_fault P Q g (fault.Unknown x place) m h = h
form_fault P Q g fault.OutOfMemory m h = tt

-- an answer where no name is unknown
pub known_told : {A : Type 0} → (u : Option (List ℕ × ℕ)) (P : A → Type 0) (r : Result A TypeFault) → u ≡ None → IfOk r (λ a. IsOnly P a) → IfErr r (λ e. TellsFault P e) → TellsAfter u P r
known_told u P (Ok a) e typed h = (e, typed)
known_told u P (Err fault.Clash) e typed h = (e, h)
known_told u P (Err fault.Untyped) e typed h = (e, h)
known_told u P (Err (fault.Unknown x place)) e typed h = absurd h
known_told u P (Err fault.OutOfMemory) e typed h = tt

module _ {A : Type 0} (u : Option (List ℕ × ℕ)) (P : A → Type 0) where
  pub told_typed : (r : Result A TypeFault) → TellsAfter u P r → IfOk r (λ a. IsOnly P a)
  told_typed (Ok a) h = h.1
  told_typed (Err e) h = tt

  pub told_known : (r : Result A TypeFault) → TellsAfter u P r → IsOk r → u ≡ None
  told_known (Ok a) h k = h.0
  told_known (Err e) h k = cc

  pub told_clash : (r : Result A TypeFault) → TellsAfter u P r → IsErrOf r fault.Clash → (u ≡ None) × HasNone P
  told_clash r h e = let k : TellsAfter u P (Err fault.Clash) = subst (TellsAfter u P) e h in k

  pub told_untyped : (r : Result A TypeFault) → TellsAfter u P r → IsErrOf r fault.Untyped → (u ≡ None) × HasTwo P
  told_untyped r h e = let k : TellsAfter u P (Err fault.Untyped) = subst (TellsAfter u P) e h in k

  pub told_unknown : (r : Result A TypeFault) → TellsAfter u P r → (x : List ℕ) (place : ℕ) → IsErrOf r (fault.Unknown x place) → u ≡ Some (x, place)
  told_unknown r h x place e = let k : TellsAfter u P (Err (fault.Unknown x place)) = subst (TellsAfter u P) e h in k

-- lists made of a first value and a rest
pub record IsListOf {A : Type 0} (P : A → Type 0) (Q : List A → Type 0) (R : List A → Type 0) : Type 0 where
  pub to : (a : A) (rest : List A) → P a → Q rest → R (a ∷ rest)
  pub from : (bs : List A) → R bs → (a : A) × (rest : List A) × P a × Q rest × (bs ≡ a ∷ rest)

abbrev head_or : {A : Type 0} → A → List A → A
head_or d [] = d
head_or d (a ∷ rest) = a

abbrev tail_of : {A : Type 0} → List A → List A
tail_of [] = []
tail_of (a ∷ rest) = rest

module _ {A : Type 0} (P : A → Type 0) (Q : List A → Type 0) (R : List A → Type 0) (m : IsListOf P Q R) where
  pub list_only : (a : A) (rest : List A) → IsOnly P a → IsOnly Q rest → IsOnly R (a ∷ rest)
  list_only a rest h k = record {
    holds = m.to a rest h.holds k.holds;
    only = λ bs r. let f = m.from bs r in f.4 ∙ (λ i. h.only f.0 f.2 i ∷ k.only f.1 f.3 i);
  }

  pub list_added : (a : A) (old mid new : List A) → IsOnly P a → mid ≡ old ++ a ∷ [] → IsAdded Q mid new → IsAdded R old new
  list_added a old mid new h e k = record {
    added = a ∷ k.added;
    is = k.is ∙ ap (λ l. l ++ k.added) e ∙ append_assoc old (a ∷ []) k.added;
    only = list_only a k.added h k.only;
  }

  pub first_none : HasNone P → HasNone R
  first_none h bs r = let f = m.from bs r in h f.0 f.2

  rest_none : HasNone Q → HasNone R
  rest_none h bs r = let f = m.from bs r in h f.1 f.3

  first_two : (rest : List A) → HasTwo P → Q rest → HasTwo R
  first_two rest h q = record {
    one = h.one ∷ rest;
    two = h.two ∷ rest;
    first = m.to h.one rest h.first q;
    second = m.to h.two rest h.second q;
    apart = λ e. h.apart (ap (head_or h.one) e);
  }

  rest_two : (a : A) → P a → HasTwo Q → HasTwo R
  rest_two a p h = record {
    one = a ∷ h.one;
    two = a ∷ h.two;
    first = m.to a h.one p h.first;
    second = m.to a h.two p h.second;
    apart = λ e. h.apart (ap tail_of e);
  }

  -- the first is typed, or may be in two ways, and the rest has a fault
  pub rest_fault : (a : A) (e : TypeFault) → P a → TellsFault Q e → TellsFault R e
  rest_fault a fault.Clash p h = rest_none h
  rest_fault a fault.Untyped p h = rest_two a p h
  rest_fault a (fault.Unknown x place) p h = h
  rest_fault a fault.OutOfMemory p h = tt

  pub first_untyped : (old new : List A) → HasTwo P → IsAdded Q old new → HasTwo R
  first_untyped old new h k = first_two k.added h k.only.holds

-- what a tree's answer says of a formula of one type
pub tree_fault : {A : Type 0} → (P : A → Type 0) (r : Result A TypeFault) → (IsErrOf r fault.Clash → HasNone P) → (IsErrOf r fault.Untyped → HasTwo P)
    → ((x : List ℕ) (place : ℕ) → IsErrOf r (fault.Unknown x place) → ⊥) → IfErr r (λ e. TellsFault P e)
tree_fault P (Ok a) clash untyped unknown = tt
tree_fault P (Err fault.Clash) clash untyped unknown = clash refl
tree_fault P (Err fault.Untyped) clash untyped unknown = untyped refl
tree_fault P (Err (fault.Unknown x place)) clash untyped unknown = unknown x place refl
tree_fault P (Err fault.OutOfMemory) clash untyped unknown = tt

pub if_ok_map : {A E : Type 0} → (P Q : A → Type 0) (r : Result A E) → ((a : A) → P a → Q a) → IfOk r (λ a. P a) → IfOk r (λ a. Q a)
if_ok_map P Q (Ok a) f h = f a h
if_ok_map P Q (Err e) f h = tt

pub if_err_map : {A E : Type 0} → (P Q : E → Type 0) (r : Result A E) → ((e : E) → P e → Q e) → IfErr r (λ e. P e) → IfErr r (λ e. Q e)
if_err_map P Q (Ok a) f h = tt
if_err_map P Q (Err e) f h = f e h

pub on_ok_map : {A E : Type 0} → (P Q : Type 0) (r : Result A E) → (P → Q) → OnOk r P → OnOk r Q
on_ok_map P Q (Ok a) f h = f h
on_ok_map P Q (Err e) f h = tt

-- out of memory tells nothing
pub memory_fault : {A B : Type 0} → (P : A → Type 0) (r : Result B TypeFault) → IfErr r (λ e. e ≡ fault.OutOfMemory) → IfErr r (λ e. TellsFault P e)
memory_fault P (Ok b) h = tt
memory_fault P (Err e) h = subst (TellsFault P) (sym h) tt

-- what was added to nothing
pub added_to_nothing : {A : Type 0} → (P : List A → Type 0) (old new : List A) → old ≡ [] → IsAdded P old new → IsOnly P new
added_to_nothing P old new e h = let all : new ≡ h.added = h.is ∙ ap (λ l. l ++ h.added) e in subst (IsOnly P) (sym all) h.only
