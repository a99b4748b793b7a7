-- The places of obligations, and copies of texts.
use Rattle.std.proofs.Common.{◌≡◌, ◌≢◌, ◌∙◌, sym, ap, subst, refl, ℕ, zero, suc, ◌<◌, ◌+◌, Bool, true, false, cond, List, [], ◌∷◌, ◌++◌, Option, Some, None, map, bytes_eq, length, take, get_or, arith}
use Rattle.std.specs.List.{AllByRecursion}
use Rattle.std.specs.List.Sorted.{IsStrictlySortedBy}
use Rattle.std.specs.Map.{keys_of}
use Rattle.std.specs.BTreeMap.{is_at, insert_entry}
use Rattle.std.specs.Ordering.{nat_cmp, match_ordering, ordering_reverse}
use Rattle.std.specs.declared.cmp.Ordering.TheVariants.{Less}
use Rattle.std.specs.Cmp.Lexicographic.{slice_cmp, nat_list_cmp_total}
use Rattle.std.proofs.lemmas.List.{length-append, length-take-le, length-map, get_or_append_left, take-append-le}
use Rattle.std.proofs.Math.Seq.{take-append_seam, get_or-append_seam}
use Rattle.model_core.proofs.Firsts.{taken_more}
use Rattle.sequent_core.specs.declared.sequent.Obligation.{Obligation}
use Rattle.build_core.specs.Tables.{IsOfName, IsPlaceInTable}
use Rattle.build_core.specs.Private.{found, Sets, IndexesTable}
use Rattle.build_core.proofs.Found.{tied, same, itself}
use Rattle.build_core.proofs.Rounds.{unequal}

-- LISTS

all_both : {X : Type 0} (P : X → Type 0) (xs : List X) (x : X) → AllByRecursion P xs → P x → AllByRecursion P (xs ++ x ∷ [])
all_both P [] x all h = (h, tt)
all_both P (y ∷ xs) x all h = (all.0, all_both P xs x all.1 h)

pub mapped_at : {X Y : Type 0} (f : X → Y) (xs : List X) (i : ℕ) (d : X) → get_or (map f xs) i (f d) ≡ f (get_or xs i d)
mapped_at f [] i d = refl
mapped_at f (x ∷ xs) zero d = refl
mapped_at f (x ∷ xs) (suc i) d = mapped_at f xs i d

mapped_more : {X Y : Type 0} (f : X → Y) (xs : List X) (x : X) → map f (xs ++ x ∷ []) ≡ map f xs ++ f x ∷ []
mapped_more f [] x = refl
mapped_more f (y ∷ xs) x = ap (λ zs. f y ∷ zs) (mapped_more f xs x)

pub taken_mapped : {X Y : Type 0} (f : X → Y) (xs : List X) (i : ℕ) (x : X) → i < length xs → x ≡ get_or xs i x → map f (take (i + 1) xs) ≡ map f (take i xs) ++ f x ∷ []
taken_mapped f xs i x lt is = ap (map f) (taken_more xs i x lt is) ∙ mapped_more f (take i xs) x

-- PLACES

further : (table : List Obligation) (o : Obligation) (name : List ℕ) (place : Option ℕ) → o.name ≢ name → IsPlaceInTable table name place → IsPlaceInTable (table ++ o ∷ []) name place
further table o name None apart is = all_both (λ p. p.name ≢ name) table o is apart
further table o name (Some at) apart is = (
  omega (arith, is.0, length-append table (o ∷ [])),
  rw (take-append-le at table (o ∷ []) (omega (arith, is.0))) is.1,
  λ d. rw (get_or_append_left table (o ∷ []) d at is.0) (is.2 d),
)

further_there : (table : List Obligation) (o : Obligation) (name : List ℕ) (at : ℕ) → IsPlaceInTable table name (Some at) → IsPlaceInTable (table ++ o ∷ []) name (Some at)
further_there table o name at is = (
  omega (arith, is.0, length-append table (o ∷ [])),
  rw (take-append-le at table (o ∷ []) (omega (arith, is.0))) is.1,
  λ d. rw (get_or_append_left table (o ∷ []) d at is.0) (is.2 d),
)

last_place : (table : List Obligation) (o : Obligation) → AllByRecursion (λ p. p.name ≢ o.name) table → IsPlaceInTable (table ++ o ∷ []) o.name (Some (length table))
last_place table o apart =
    (omega (arith, length-append table (o ∷ [])), rw take-append_seam apart, λ d. ap (λ p. p.name) (get_or-append_seam table o [] d))

module _ (table : List Obligation) (o : Obligation) (places : List (List ℕ × ℕ)) (has : IndexesTable table places) where
  -- an obligation whose name is new
  pub place_new : (next : List (List ℕ × ℕ)) → found places o.name ≡ None → Sets places o.name (length table) next → IndexesTable (table ++ o ∷ []) next
  place_new next none sets name = by (is_at (slice_cmp nat_cmp o.name) name) refl
    where
      by : (b : Bool) → is_at (slice_cmp nat_cmp o.name) name ≡ b → IsPlaceInTable (table ++ o ∷ []) name (found next name)
      by true at =
          let here : o.name ≡ name = same o.name name (sym (tied o.name name) ∙ at) in
          let new = subst (IsPlaceInTable table o.name) none (has o.name) in
          subst (IsPlaceInTable (table ++ o ∷ []) name) (sym (sets name ∙ ap (λ x. cond x (Some (length table)) (found places name)) at))
          (subst (λ n. IsPlaceInTable (table ++ o ∷ []) n (Some (length table))) here (last_place table o new))
      by false at =
          let apart : o.name ≢ name = λ e. unequal (is_at (slice_cmp nat_cmp o.name) name) (tied o.name name ∙ subst (λ n. bytes_eq o.name n ≡ true) e (itself o.name)) at in
          subst (IsPlaceInTable (table ++ o ∷ []) name) (sym (sets name ∙ ap (λ x. cond x (Some (length table)) (found places name)) at)) (further table o name (found places name) apart (has name))

  -- an obligation whose name isn't
  pub place_old : (at : ℕ) → found places o.name ≡ Some at → IndexesTable (table ++ o ∷ []) places
  place_old at there name = by (bytes_eq o.name name) refl
    where
      by : (b : Bool) → bytes_eq o.name name ≡ b → IsPlaceInTable (table ++ o ∷ []) name (found places name)
      by true e =
          let here : o.name ≡ name = same o.name name e in
          let place : found places name ≡ Some at = ap (found places) (sym here) ∙ there in
          subst (IsPlaceInTable (table ++ o ∷ []) name) (sym place) (further_there table o name at (subst (IsPlaceInTable table name) place (has name)))
      by false e = further table o name (found places name) (λ f. unequal (bytes_eq o.name name) (subst (λ n. bytes_eq o.name n ≡ true) f (itself o.name)) e) (has name)

-- the same of obligations that are taken from a list
pub place_added : {X : Type 0} (f : X → Obligation) (xs : List X) (i : ℕ) (x : X) (places next : List (List ℕ × ℕ)) (key : List ℕ) → IndexesTable (map f (take i xs)) places → i < length xs → x ≡ get_or xs i x →
    found places (f x).name ≡ None → key ≡ (f x).name → Sets places key i next → IndexesTable (map f (take (i + 1) xs)) next
place_added f xs i x places next key has lt is none named sets =
    let count : i ≡ length (map f (take i xs)) = omega (arith, length-map (take i xs) f, length-take-le i xs (omega (arith, lt))) in
    subst (λ t. IndexesTable t next) (sym (taken_mapped f xs i x lt is))
    (place_new (map f (take i xs)) (f x) places has next none (subst (λ k. Sets places k (length (map f (take i xs))) next) named (subst (λ n. Sets places key n next) count sets)))

pub place_kept : {X : Type 0} (f : X → Obligation) (xs : List X) (i : ℕ) (x : X) (places : List (List ℕ × ℕ)) (at : ℕ) → IndexesTable (map f (take i xs)) places → i < length xs → x ≡ get_or xs i x →
    found places (f x).name ≡ Some at → IndexesTable (map f (take (i + 1) xs)) places
place_kept f xs i x places at has lt is there =
    subst (λ t. IndexesTable t places) (sym (taken_mapped f xs i x lt is)) (place_old (map f (take i xs)) (f x) places has at there)

-- the obligation at the place of its name
pub of_place : (table : List Obligation) (name : List ℕ) (at : ℕ) (o : Obligation) → IsPlaceInTable table name (Some at) → o ≡ get_or table at o → IsOfName table name (Some o)
of_place table name at o place is = ((at, place.0, sym is), ap (λ p. p.name) is ∙ place.2 o)

-- COPIES

-- a key behind all others is put last
inserted_last : (es : List (List ℕ × List ℕ)) (name text : List ℕ) → AllByRecursion (λ k. slice_cmp nat_cmp k name ≡ Less) (keys_of es) → insert_entry (slice_cmp nat_cmp) es name text ≡ es ++ (name, text) ∷ []
inserted_last [] name text all = refl
inserted_last (e ∷ es) name text all =
    ap (λ r. match_ordering r ((name, text) ∷ e ∷ es) ((e.0, text) ∷ es) (e ∷ insert_entry (slice_cmp nat_cmp) es name text)) (nat_list_cmp_total.antisymm name e.0 ∙ ap ordering_reverse all.0)
    ∙ ap (λ rest. e ∷ rest) (inserted_last es name text all.1)

below_last : (done : List (List ℕ × List ℕ)) (e : List ℕ × List ℕ) (rest : List (List ℕ × List ℕ)) → IsStrictlySortedBy (slice_cmp nat_cmp) (keys_of (done ++ e ∷ rest)) →
    AllByRecursion (λ k. slice_cmp nat_cmp k e.0 ≡ Less) (keys_of done)
unfolding IsStrictlySortedBy
below_last [] e rest s = tt
below_last (d ∷ done) e rest s = (at done s.0, below_last done e rest s.1)
  where
    at : (ds : List (List ℕ × List ℕ)) → AllByRecursion (λ y. slice_cmp nat_cmp d.0 y ≡ Less) (keys_of (ds ++ e ∷ rest)) → slice_cmp nat_cmp d.0 e.0 ≡ Less
    at [] all = all.0
    at (x ∷ ds) all = at ds all.1

pub copied_more : (texts done rest copy next : List (List ℕ × List ℕ)) (e : List ℕ × List ℕ) → IsStrictlySortedBy (slice_cmp nat_cmp) (keys_of texts) → done ++ e ∷ rest ≡ texts →
    copy ≡ done → next ≡ insert_entry (slice_cmp nat_cmp) copy e.0 e.1 → next ≡ done ++ e ∷ []
copied_more texts done rest copy next e sorted all is put =
    put ∙ ap (λ es. insert_entry (slice_cmp nat_cmp) es e.0 e.1) is
    ∙ inserted_last done e.0 e.1 (below_last done e rest (subst (λ es. IsStrictlySortedBy (slice_cmp nat_cmp) (keys_of es)) (sym all) sorted))
