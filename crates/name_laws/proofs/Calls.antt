-- A name is split at its slashes in one way, so obligations whose names have different parts have different names.
use Rattle.std.proofs.Common.{◌≡◌, ◌∙◌, sym, ap, subst, refl, inl, inr, not, ◌&&◌, ◌==◌, ℕ, Bool, true, false, List, [], ◌∷◌, ◌++◌}
use Rattle.std.specs.Prelude.{◌≢◌, if◌then◌else◌, codes, Option, Some, None}
use Rattle.std.specs.Option.{option_to_list}
use Rattle.std.specs.List.{AllByRecursion, list_all}
use Rattle.std.proofs.lemmas.List.{append-nil}
use Rattle.std.proofs.lemmas.Bool.Decides.{Decides-eqb}
use Rattle.formula_core.specs.declared.ty.Ty.{Ty}
use Rattle.formula_core.specs.declared.formula.Formula.{Formula}
use Rattle.well_defined.specs.Connectives.{is_top}
use Rattle.model_core.specs.Each.{IsIn, at_each, for_each}
use Rattle.model_core.proofs.Members.{in_either}
use Rattle.sequent_core.specs.declared.sequent.Obligation.{Obligation}
use Rattle.well_defined.specs.Conditions.{wd_of}
use Rattle.model_core.specs.declared.checked.Labelled.{Labelled}
use Rattle.po_rules.specs.Parts.{path_with, formulas}
use Rattle.po_rules.specs.Rows.{needed, of_kind, labelled_rows}
use Rattle.name_laws.specs.Labels.{IsPlain}
use Rattle.name_laws.proofs.Lists.{AreKeyedOnce, never, differ}

-- Parts of names.

abbrev pub Parts : Type 0
Parts = List (List ℕ)

-- what these parts add to a name
abbrev pub behind : Parts → List ℕ
behind [] = []
behind (p ∷ ps) = 47 ∷ (p ++ behind ps)

pub split_once : (xs us : List ℕ) (ps qs : Parts) → IsPlain xs → IsPlain us → xs ++ behind ps ≡ us ++ behind qs → (xs ≡ us) × (behind ps ≡ behind qs)
split_once [] [] ps qs h k e = (refl, e)
split_once [] (u ∷ us) [] qs h k e = let no : ⊥ = cc in absurd no
split_once [] (u ∷ us) (p ∷ ps) qs h k e = let head : 47 ≡ u = cc in absurd (k.0 (sym head))
split_once (x ∷ xs) [] ps [] h k e = let no : ⊥ = cc in absurd no
split_once (x ∷ xs) [] ps (q ∷ qs) h k e = let head : x ≡ 47 = cc in absurd (h.0 head)
split_once (x ∷ xs) (u ∷ us) ps qs h k e =
    let head : x ≡ u = cc in
    let rest : xs ++ behind ps ≡ us ++ behind qs = cc in
    let s = split_once xs us ps qs h.1 k.1 rest in
    ((λ i. head i ∷ s.0 i), s.1)

same_parts : (ps qs : Parts) → AllByRecursion IsPlain ps → AllByRecursion IsPlain qs → behind ps ≡ behind qs → ps ≡ qs
same_parts [] [] h k e = refl
same_parts [] (q ∷ qs) h k e = let no : ⊥ = cc in absurd no
same_parts (p ∷ ps) [] h k e = let no : ⊥ = cc in absurd no
same_parts (p ∷ ps) (q ∷ qs) h k e =
    let rest : p ++ behind ps ≡ q ++ behind qs = cc in
    let s = split_once p q ps qs h.0 k.0 rest in
    let others = same_parts ps qs h.1 k.1 s.1 in
    (λ i. s.0 i ∷ others i)

same_front : (path ys vs : List ℕ) → path_with path ys ≡ path_with path vs → ys ≡ vs
same_front [] ys vs e = cc
same_front (c ∷ path) ys vs e = let rest : path_with path ys ≡ path_with path vs = cc in same_front path ys vs rest

-- An obligation's name has these parts behind the path, and they are as P says.
pub record IsCalled (path : List ℕ) (P : Parts → Type 0) (o : Obligation) : Type 0 where
  pub first : List ℕ
  pub others : Parts
  pub plain : AllByRecursion IsPlain (first ∷ others)
  pub holds : P (first ∷ others)
  pub is : o.name ≡ path_with path (first ++ behind others)

names_differ : (path : List ℕ) (P Q : Parts → Type 0) (o p : Obligation) → ((c : Parts) → P c → Q c → ⊥) → IsCalled path P o → IsCalled path Q p → o.name ≢ p.name
names_differ path P Q o p apart a b same =
    let tails = same_front path (a.first ++ behind a.others) (b.first ++ behind b.others) (sym a.is ∙ same ∙ b.is) in
    let s = split_once a.first b.first a.others b.others a.plain.0 b.plain.0 tails in
    let others = same_parts a.others b.others a.plain.1 b.plain.1 s.1 in
    let whole : a.first ∷ a.others ≡ b.first ∷ b.others = (λ i. s.0 i ∷ others i) in
    apart (a.first ∷ a.others) a.holds (subst Q (sym whole) b.holds)

-- Lists of obligations.

abbrev pub name_of : Obligation → List ℕ
name_of o = o.name

-- no two have the same name, and each is called as P says
pub record AreCalled (path : List ℕ) (P : Parts → Type 0) (os : List Obligation) : Type 0 where
  pub once : AreKeyedOnce name_of os
  pub each : (o : Obligation) → IsIn o os → IsCalled path P o

pub none_called : (path : List ℕ) (P : Parts → Type 0) → AreCalled path P []
none_called path P = record { once = tt; each = λ o i. absurd i }

pub called_as : (path : List ℕ) (P Q : Parts → Type 0) (os : List Obligation) → ((c : Parts) → P c → Q c) → AreCalled path P os → AreCalled path Q os
called_as path P Q os f a = record {
  once = a.once;
  each = λ o i. let c = a.each o i in record { first = c.first; others = c.others; plain = c.plain; holds = f (c.first ∷ c.others) c.holds; is = c.is };
}

pub once_both : (os ps : List Obligation) → AreKeyedOnce name_of os → AreKeyedOnce name_of ps → ((o p : Obligation) → IsIn o os → IsIn p ps → o.name ≢ p.name) → AreKeyedOnce name_of (os ++ ps)
once_both [] ps h k apart = k
once_both (o ∷ os) ps h k apart = (
  (λ p both. elim (in_either p os ps both) [ inl a ↦ h.0 p a | inr b ↦ apart o p (inl refl) b ]),
  once_both os ps h.1 k (λ q p a b. apart q p (inr a) b),
)

pub both_called : (path : List ℕ) (P Q R : Parts → Type 0) (os ps : List Obligation) → ((c : Parts) → P c → R c) → ((c : Parts) → Q c → R c) → ((c : Parts) → P c → Q c → ⊥)
    → AreCalled path P os → AreCalled path Q ps → AreCalled path R (os ++ ps)
both_called path P Q R os ps f g apart a b =
    let left = called_as path P R os f a in
    let right = called_as path Q R ps g b in
    record {
      once = once_both os ps a.once b.once (λ o p i j. names_differ path P Q o p apart (a.each o i) (b.each p j));
      each = λ o i. elim (in_either o os ps i) [ inl j ↦ left.each o j | inr j ↦ right.each o j ];
    }

pub if_called : (path : List ℕ) (P : Parts → Type 0) (b : Bool) (os ps : List Obligation) → AreCalled path P os → AreCalled path P ps → AreCalled path P (if b then os else ps)
if_called path P true os ps h k = h
if_called path P false os ps h k = k

-- Rows of elements.

-- no parts are as P says at two elements
abbrev pub AreApart : {X : Type 0} → (X → Parts → Type 0) → List X → Type 0
AreApart P [] = Unit {0}
AreApart {X} P (x ∷ xs) = ((y : X) → IsIn y xs → (c : Parts) → P x c → P y c → ⊥) × AreApart P xs

abbrev pub OfSome : {X : Type 0} → (X → Parts → Type 0) → List X → Parts → Type 0
OfSome {X} P xs c = (x : X) × IsIn x xs × P x c

pub each_called : {X : Type 0} (path : List ℕ) (P : X → Parts → Type 0) (rows : List X → X → List Obligation) (before xs : List X) →
    AllByRecursion (λ x. (b : List X) → AreCalled path (P x) (rows b x)) xs → AreApart P xs → AreCalled path (OfSome P xs) (at_each rows before xs)
each_called path P rows before [] each apart = none_called path (OfSome P [])
each_called path P rows before (x ∷ xs) each apart =
    both_called path (P x) (OfSome P xs) (OfSome P (x ∷ xs)) (rows before x) (at_each rows (before ++ x ∷ []) xs)
    (λ c h. (x, inl refl, h)) (λ c h. (h.0, inr h.1, h.2)) (λ c h k. apart.0 k.0 k.1 c h k.2)
    (each.0 before) (each_called path P rows (before ++ x ∷ []) xs each.1 apart.1)

each_same : {X Y : Type 0} (rows : X → List Y) (before xs : List X) → at_each (λ b. rows) before xs ≡ for_each rows xs
each_same rows before [] = refl
each_same rows before (x ∷ xs) = ap (λ ys. rows x ++ ys) (each_same rows (before ++ x ∷ []) xs)

-- the first part is this key
abbrev pub Begins : List ℕ → (Parts → Type 0) → Parts → Type 0
Begins key Q [] = ⊥
Begins key Q (p ∷ ps) = (p ≡ key) × Q (p ∷ ps)

begins_then : (key : List ℕ) (Q : Parts → Type 0) (c : Parts) → Begins key Q c → Q c
begins_then key Q [] h = absurd h
begins_then key Q (p ∷ ps) h = h.1

keys_tell : (x y : List ℕ) (Q : Parts → Type 0) → x ≢ y → (c : Parts) → Begins x Q c → Begins y Q c → ⊥
keys_tell x y Q n [] h k = h
keys_tell x y Q n (p ∷ ps) h k = n (sym h.0 ∙ k.0)

keyed_apart : {X : Type 0} (key : X → List ℕ) (Q : Parts → Type 0) (xs : List X) → AreKeyedOnce key xs → AreApart (λ x. Begins (key x) Q) xs
keyed_apart key Q [] h = tt
keyed_apart key Q (x ∷ xs) h = ((λ y i. keys_tell (key x) (key y) Q (h.0 y i)), keyed_apart key Q xs h.1)

-- the rows of elements with different keys
pub keyed_called : {X : Type 0} (path : List ℕ) (key : X → List ℕ) (Q : Parts → Type 0) (rows : List X → X → List Obligation) (before xs : List X) →
    AllByRecursion (λ x. (b : List X) → AreCalled path (Begins (key x) Q) (rows b x)) xs → AreKeyedOnce key xs → AreCalled path Q (at_each rows before xs)
keyed_called {X} path key Q rows before xs each once =
    let P : X → Parts → Type 0 = λ x. Begins (key x) Q in
    called_as path (OfSome P xs) Q (at_each rows before xs) (λ c h. begins_then (key h.0) Q c h.2)
    (each_called path P rows before xs each (keyed_apart key Q xs once))

always : {X : Type 0} (path : List ℕ) (P : X → Parts → Type 0) (rows : X → List Obligation) (xs : List X) → AllByRecursion (λ x. AreCalled path (P x) (rows x)) xs
    → AllByRecursion (λ x. (b : List X) → AreCalled path (P x) (rows x)) xs
always path P rows [] h = tt
always path P rows (x ∷ xs) h = ((λ b. h.0), always path P rows xs h.1)

pub for_keys : {X : Type 0} (path : List ℕ) (key : X → List ℕ) (Q : Parts → Type 0) (rows : X → List Obligation) (xs : List X) →
    AllByRecursion (λ x. AreCalled path (Begins (key x) Q) (rows x)) xs → AreKeyedOnce key xs → AreCalled path Q (for_each rows xs)
for_keys path key Q rows xs each once =
    subst (AreCalled path Q) (each_same rows [] xs) (keyed_called path key Q (λ b. rows) [] xs (always path (λ x. Begins (key x) Q) rows xs each) once)

pub for_apart : {X : Type 0} (path : List ℕ) (P : X → Parts → Type 0) (rows : X → List Obligation) (xs : List X) →
    AllByRecursion (λ x. AreCalled path (P x) (rows x)) xs → AreApart P xs → AreCalled path (OfSome P xs) (for_each rows xs)
for_apart path P rows xs each apart =
    subst (AreCalled path (OfSome P xs)) (each_same rows [] xs) (each_called path P (λ b. rows) [] xs (always path P rows xs each) apart)

pub for_option : {X : Type 0} (path : List ℕ) (P : Parts → Type 0) (rows : X → List Obligation) (o : Option X) → ((x : X) → AreCalled path P (rows x)) → AreCalled path P (for_each rows (option_to_list o))
for_option path P rows None h = none_called path P
for_option path P rows (Some x) h = subst (AreCalled path P) (sym (append-nil (rows x))) (h x)

-- Single obligations.

if_needed : (path : List ℕ) (P : Parts → Type 0) (o : Obligation) (b : Bool) → IsCalled path P o → AreCalled path P (if b then [] else (o ∷ []))
if_needed path P o true c = none_called path P
if_needed path P o false c = record {
  once = ((λ p i. absurd i), tt);
  each = λ p i. elim i [ inl e ↦ subst (IsCalled path P) (sym e) c | inr more ↦ absurd more ];
}

-- the texts of kinds have no slash
pub plain_kind : (word : List ℕ) → list_all (λ c. not (c == 47)) word ≡ true → IsPlain word
plain_kind [] e = tt
plain_kind (c ∷ cs) e = let s = go (c == 47) refl e in (s.0, plain_kind cs s.1)
  where
    go : (b : Bool) → (c == 47) ≡ b → (not b && list_all (λ d. not (d == 47)) cs) ≡ true → (c ≢ 47) × (list_all (λ d. not (d == 47)) cs ≡ true)
    go true is f = never (sym f)
    go false is f = ((λ same. never (sym ((Decides-eqb c 47).1 same) ∙ is)), f)

-- `path/word`
pub word_called : (path word : List ℕ) (env : List (List ℕ × Ty)) (hyps : List Formula) (goal : Formula) → IsPlain word →
    AreCalled path (λ c. c ≡ word ∷ []) (needed (path_with path word) env hyps goal)
word_called path word env hyps goal plain =
    if_needed path (λ c. c ≡ word ∷ []) (record { name = path_with path word; sequent = record { env = env; hyps = hyps; goal = goal } }) (is_top goal)
    (record { first = word; others = []; plain = (plain, tt); holds = refl; is = ap (path_with path) (sym (append-nil word)) })

-- `path/key/word`
pub part_called : (path key word : List ℕ) (env : List (List ℕ × Ty)) (hyps : List Formula) (goal : Formula) → IsPlain key → IsPlain word →
    AreCalled path (λ c. c ≡ key ∷ word ∷ []) (needed (path_with path (path_with key word)) env hyps goal)
part_called path key word env hyps goal plain plain_word =
    if_needed path (λ c. c ≡ key ∷ word ∷ []) (record { name = path_with path (path_with key word); sequent = record { env = env; hyps = hyps; goal = goal } }) (is_top goal)
    (record { first = key; others = word ∷ []; plain = (plain, (plain_word, tt)); holds = refl; is = ap (λ t. path_with path (path_with key t)) (sym (append-nil word)) })

pub one_called : (path key word : List ℕ) (Q : Parts → Type 0) (os : List Obligation) → Q (key ∷ word ∷ []) → AreCalled path (λ c. c ≡ key ∷ word ∷ []) os → AreCalled path (Begins key Q) os
one_called path key word Q os q a = called_as path (λ c. c ≡ key ∷ word ∷ []) (Begins key Q) os (λ c e. subst (Begins key Q) (sym e) (refl, q)) a

second : Parts → List ℕ
second (p ∷ q ∷ ps) = q
second _ = []

pub exactly : (path : List ℕ) (d : Parts) (Q : Parts → Type 0) (os : List Obligation) → Q d → AreCalled path (λ c. c ≡ d) os → AreCalled path Q os
exactly path d Q os q a = called_as path (λ c. c ≡ d) Q os (λ c e. subst Q (sym e) q) a

-- two words at one key
pub two_called : (path key word other : List ℕ) (Q : Parts → Type 0) (os ps : List Obligation) → word ≢ other → Q (key ∷ word ∷ []) → Q (key ∷ other ∷ []) →
    AreCalled path (λ c. c ≡ key ∷ word ∷ []) os → AreCalled path (λ c. c ≡ key ∷ other ∷ []) ps → AreCalled path (Begins key Q) (os ++ ps)
unfolding second
two_called path key word other Q os ps n q r a b =
    both_called path (λ c. c ≡ key ∷ word ∷ []) (λ c. c ≡ key ∷ other ∷ []) (Begins key Q) os ps
    (λ c e. subst (Begins key Q) (sym e) (refl, q)) (λ c e. subst (Begins key Q) (sym e) (refl, r)) (λ c e f. n (ap second (sym e ∙ f))) a b

first_part : Parts → List ℕ
first_part [] = []
first_part (p ∷ ps) = p

-- two words
pub words_called : (path word other : List ℕ) (Q : Parts → Type 0) (os ps : List Obligation) → word ≢ other → Q (word ∷ []) → Q (other ∷ []) →
    AreCalled path (λ c. c ≡ word ∷ []) os → AreCalled path (λ c. c ≡ other ∷ []) ps → AreCalled path Q (os ++ ps)
unfolding first_part
words_called path word other Q os ps n q r a b =
    both_called path (λ c. c ≡ word ∷ []) (λ c. c ≡ other ∷ []) Q os ps
    (λ c e. subst Q (sym e) q) (λ c e. subst Q (sym e) r) (λ c e f. n (ap first_part (sym e ∙ f))) a b

-- `l/WD` and `l/THM`
pub labelled_called : (path : List ℕ) (Q : Parts → Type 0) (env : List (List ℕ × Ty)) (hyps : List Formula) (before : List Labelled) (l : Labelled) → IsPlain l.label →
    Q (l.label ∷ codes "WD" ∷ []) → Q (l.label ∷ codes "THM" ∷ []) → AreCalled path (Begins l.label Q) (labelled_rows path env hyps before l)
labelled_called path Q env hyps before l plain q r =
    let now = hyps ++ formulas before in
    let theorem = needed (path_with path (of_kind l.label (codes "THM"))) env now l.formula in
    two_called path l.label (codes "WD") (codes "THM") Q
    (needed (path_with path (of_kind l.label (codes "WD"))) env now (wd_of l.formula)) (if l.theorem then theorem else [])
    (differ (codes "WD") (codes "THM") refl) q r
    (part_called path l.label (codes "WD") env now (wd_of l.formula) plain (plain_kind (codes "WD") refl))
    (if_called path (λ c. c ≡ l.label ∷ codes "THM" ∷ []) l.theorem theorem []
    (part_called path l.label (codes "THM") env now l.formula plain (plain_kind (codes "THM") refl))
    (none_called path (λ c. c ≡ l.label ∷ codes "THM" ∷ [])))
