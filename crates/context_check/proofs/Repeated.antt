-- Sets of texts that grow, and texts that stand twice.
use Rattle.std.proofs.Common.{◌≡◌, ◌∙◌, ap, refl, sym, ℕ, ◌+◌, ◌<◌, ◌≤◌, Bool, true, false, ◌||◌, cond, List, [], ◌∷◌, ◌++◌, map, take, length, get_or, bytes_eq}
use Rattle.std.specs.Prelude.{Option, if◌then◌else◌}
use Rattle.std.specs.Borrow.{Bor}
use Rattle.std.specs.BTreeSet.{BTreeSet}
use Rattle.std.specs.BTreeSet as sorted
use Rattle.std.specs.Cmp.Lexicographic.{slice_cmp}
use Rattle.std.specs.Ordering.{nat_cmp}
use Rattle.std.specs.List.{list_any}
use Rattle.std.proofs.lemmas.Cmp.{nat_list_eq_equiv}
use Rattle.std.proofs.lemmas.List.{map-append, take_all, get_or_default}
use Rattle.std.proofs.lemmas.Map.Text.{is_eq-slice_cmp}
use Rattle.formula_core.specs.declared.raw.Ref.{Ref}
use Rattle.model_core.specs.declared.fault.Fault.{Fault}
use Rattle.model_core.specs.declared.fault.FaultKind.{FaultKind}
use Rattle.model_core.specs.declared.fault.FaultKind.TheVariants as kind
use Rattle.model_core.specs.Each.{at_each, is_among}
use Rattle.model_core.specs.Faults.{earlier, first_by_place, fault_at}
use Rattle.model_core.proofs.Firsts.{first_more, taken_more}
use Rattle.model_core.proofs.Lists.{any_append}
use Rattle.check_rules.specs.Declarations.{LabelAt, declared_twice, labelled_twice}
use Rattle.context_check.specs.declared.declarations.Mark.{Mark}
use Rattle.context_check.specs.Texts.{mark_of, ref_mark, repeated_row, repeated}
use Rattle.model_core.specs.Borrowed.{has}

cond_or : (a b : Bool) → cond a true b ≡ (b || a)
cond_or true true = refl
cond_or true false = refl
cond_or false true = refl
cond_or false false = refl

pub one_more : (key : Bor (List ℕ)) (s n : BTreeSet (Bor (List ℕ))) → sorted.Updates (λ x y. slice_cmp nat_cmp x.now y.now) s n key true → (x : List ℕ) →
    has n x ≡ (has s x || bytes_eq x key.now)
one_more key s n h x =
    h.0 (record { ref_ptr = (0, 0); now = x }) ∙ ap (λ b. cond b true (has s x)) (is_eq-slice_cmp key.now x ∙ nat_list_eq_equiv.symm key.now x)
    ∙ cond_or (bytes_eq x key.now) (has s x)

pub has_none : (s : BTreeSet (Bor (List ℕ))) → s.keys ≡ [] → (x : List ℕ) → has s x ≡ false
has_none s e x = ap (λ ks. list_any (λ k. Rattle.std.specs.Ordering.is_eq (slice_cmp nat_cmp x k.now)) ks) e

-- rows over other elements
pub each_map : {X Y Z : Type 0} (rows : List Y → Y → List Z) (f : X → Y) (before xs : List X) →
    at_each (λ b x. rows (map f b) (f x)) before xs ≡ at_each rows (map f before) (map f xs)
each_map rows f before [] = refl
each_map rows f before (x ∷ xs) =
    ap (λ rest. rows (map f before) (f x) ++ rest) (each_map rows f (before ++ x ∷ []) xs ∙ ap (λ b. at_each rows b (map f xs)) (map-append f before (x ∷ [])))

pub declared_from : (component : List ℕ) (names : List (List ℕ)) (refs : List Ref) (known : List ℕ → Bool) (marks : List LabelAt) →
    ((x : List ℕ) → known x ≡ is_among names x) → marks ≡ map ref_mark refs → repeated kind.DeclaredTwice component known marks ≡ declared_twice component names refs
declared_from component names refs known marks h e =
    (λ i. repeated kind.DeclaredTwice component (λ x. h x i) (e i)) ∙ sym (each_map (repeated_row kind.DeclaredTwice component (is_among names)) ref_mark [] refs)
    ∙ rows refs []
  where
    map-map : (rs : List Ref) → map (λ b. b.0) (map ref_mark rs) ≡ map (λ b. b.name) rs
    map-map [] = refl
    map-map (r ∷ rs) = ap (λ ns. r.name ∷ ns) (map-map rs)

    rows : (rs before : List Ref) → at_each (λ b x. repeated_row kind.DeclaredTwice component (is_among names) (map ref_mark b) (ref_mark x)) before rs
        ≡ at_each (λ b r. if is_among names r.name || is_among (map (λ y. y.name) b) r.name then fault_at component kind.DeclaredTwice r.place r.name ∷ [] else []) before rs
    rows rs before = λ i. at_each (λ b r. if is_among names r.name || is_among (map-map b i) r.name then fault_at component kind.DeclaredTwice r.place r.name ∷ [] else []) before rs

pub labelled_from : (component : List ℕ) (names : List (List ℕ)) (labels : List LabelAt) (known : List ℕ → Bool) (marks : List LabelAt) →
    ((x : List ℕ) → known x ≡ is_among names x) → marks ≡ labels → repeated kind.LabelTwice component known marks ≡ labelled_twice component names labels
labelled_from component names labels known marks h e = λ i. repeated kind.LabelTwice component (λ x. h x i) (e i)

pub or_assoc : (a b c : Bool) → (a || (b || c)) ≡ ((a || b) || c)
or_assoc true b c = refl
or_assoc false b c = refl

pub or_false : (a : Bool) → (a || false) ≡ a
or_false true = refl
or_false false = refl

-- the texts seen up to a mark
abbrev pub texts_of : List Mark → List (List ℕ)
texts_of marks = map (λ m. m.0) (map mark_of marks)

pub none_seen : (seen : List ℕ → Bool) (x : List ℕ) → seen x ≡ (seen x || false)
none_seen seen x = sym (or_false (seen x))

module _ (marks : List Mark) (i : ℕ) (d : Mark) (lt : i < length marks) where
  abbrev pub m : Mark
  m = get_or marks i d

  is : m ≡ get_or marks i m
  is = get_or_default marks i d m lt

  texts_more : texts_of (take (i + 1) marks) ≡ texts_of (take i marks) ++ m.text.now ∷ []
  texts_more = ap texts_of (taken_more marks i m lt is) ∙ ap (map (λ l. l.0)) (map-append mark_of (take i marks) (m ∷ [])) ∙ map-append (λ l. l.0) (map mark_of (take i marks)) (mark_of m ∷ [])

  pub seen_more : (start before after : List ℕ → Bool) → ((x : List ℕ) → before x ≡ (start x || is_among (texts_of (take i marks)) x)) →
      ((x : List ℕ) → after x ≡ (before x || bytes_eq x m.text.now)) → (x : List ℕ) → after x ≡ (start x || is_among (texts_of (take (i + 1) marks)) x)
  seen_more start before after h step x =
      step x ∙ ap (λ b. b || bytes_eq x m.text.now) (h x) ∙ sym (or_assoc (start x) (is_among (texts_of (take i marks)) x) (bytes_eq x m.text.now))
      ∙ ap (λ b. start x || b) (ap (λ b. is_among (texts_of (take i marks)) x || b) (sym (or_false (bytes_eq x m.text.now)))
      ∙ sym (any_append (bytes_eq x) (texts_of (take i marks)) (m.text.now ∷ [])) ∙ ap (λ ts. is_among ts x) (sym texts_more))

  pub first_here : (k : FaultKind) (component : List ℕ) (known start before : List ℕ → Bool) (first here : Option Fault) →
      ((x : List ℕ) → before x ≡ (start x || is_among (texts_of (take i marks)) x)) →
      here ≡ first_by_place (repeated_row k component (λ x. known x || before x) [] (mark_of m)) →
      first ≡ first_by_place (at_each (λ b x. repeated_row k component (λ y. known y || start y) (map mark_of b) (mark_of x)) [] (take i marks)) →
      earlier first here ≡ first_by_place (at_each (λ b x. repeated_row k component (λ y. known y || start y) (map mark_of b) (mark_of x)) [] (take (i + 1) marks))
  first_here k component known start before first here h e f =
      first_more (λ b x. repeated_row k component (λ y. known y || start y) (map mark_of b) (mark_of x)) marks i m first here lt is f
      (e ∙ ap (λ b. first_by_place (if b then fault_at component k m.place m.text.now ∷ [] else []))
      (or_false (known m.text.now || before m.text.now) ∙ ap (λ b. known m.text.now || b) (h m.text.now) ∙ or_assoc (known m.text.now) (start m.text.now) (is_among (texts_of (take i marks)) m.text.now)))

pub all_marks : (k : FaultKind) (component : List ℕ) (known : List ℕ → Bool) (marks : List Mark) (i : ℕ) (first : Option Fault) → length marks ≤ i →
    first ≡ first_by_place (at_each (λ b x. repeated_row k component known (map mark_of b) (mark_of x)) [] (take i marks)) →
    first ≡ first_by_place (repeated k component known (map mark_of marks))
all_marks k component known marks i first done e =
    e ∙ ap (λ ms. first_by_place (at_each (λ b x. repeated_row k component known (map mark_of b) (mark_of x)) [] ms)) (take_all i marks done)
    ∙ ap first_by_place (each_map (repeated_row k component known) mark_of [] marks)
