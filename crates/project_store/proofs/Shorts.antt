-- Texts that entries put are short, and so are those of the project that they lead to.
use Rattle.std.proofs.Common.{◌≡◌, ◌∙◌, sym, ap, subst, refl, ⊎_elim, ℕ, ◌≤◌, Bool, true, false, not, cond, T, List, [], ◌∷◌, length, None, arith}
use Rattle.std.specs.List.{AllByRecursion}
use Rattle.std.specs.Ordering.{eq_by_cmp, is_eq}
use Rattle.std.specs.declared.cmp.Ordering.TheVariants.{Less, Equal, Greater}
use Rattle.std.specs.Cmp.{alike_right, eq_by_cmp_equiv}
use Rattle.std.specs.Cmp.Lexicographic.{nat_list_cmp_total}
use Rattle.std.specs.FinMap.Entries.{by_order, where_key, is_sorted-where_key, find-where_key}
use Rattle.std.specs.FinMap.{entries, remove, put, find, len, empty, is_sorted, entries-insert, len-entries, len-empty, get-remove, get-from_sorted, entries_sorted, from_sorted, entries-from_sorted, same_entries_map, same_map, slice_cmp-IsAntisymmetric, nat_cmp-IsAntisymmetric}
use Rattle.proof_entries.specs.declared.Entry.{Entry}
use Rattle.proof_entries.specs.declared.Entry.TheVariants.{Put, Drop, Build, SetProof, Purge}
use Rattle.proof_codec.specs.Entries.{IsEntry, IsOldEntry}
use Rattle.core_steps.specs.Durable.{text_cmp, ProjectMap, IsSmallProject, IsBuildable}
use Rattle.core_steps.specs.declared.durable.Durable.{Durable}
use Rattle.core_steps.specs.State.{entered, no_texts}
use Rattle.core_steps.specs.Table.{IsTooLarge}
use Rattle.outside.specs.declared.side.Side.{Side}
use Rattle.project_store.specs.declared.fault.OpenFault.{OpenFault}
use Rattle.project_store.specs.declared.fault.OpenFault.TheVariants.{Foreign, Damaged, TableFull, DiskFault, OutOfMemory}
use Rattle.project_store.specs.Records.{IsBody, IsSmall, after_all, Leads}
use Rattle.project_store.specs.Private.{HasShortTexts, IsSingle, IsReplayFault, LeadsTooFar, IsCoreFault}

abbrev Short : List ℕ × List ℕ → Type 0
Short entry = length entry.1 ≤ 65536

put_short : (name text : List ℕ) (es : List (List ℕ × List ℕ)) → length text ≤ 65536 → AllByRecursion Short es → AllByRecursion Short (put text_cmp name text es)
put_short name text [] short all = (short, tt)
put_short name text (e ∷ es) short all =
    elim (text_cmp name e.0) as (λ o. AllByRecursion Short (by_order o ((name, text) ∷ e ∷ es) ((e.0, text) ∷ es) (e ∷ put text_cmp name text es))) [
      | Less ↦ (short, all)
      | Equal ↦ (short, all.1)
      | Greater ↦ (all.0, put_short name text es short all.1)
    ]

kept_short : (p : List ℕ → Bool) (es : List (List ℕ × List ℕ)) → AllByRecursion Short es → AllByRecursion Short (where_key text_cmp p es)
kept_short p [] all = tt
kept_short p (e ∷ es) all =
    elim (p e.0) as (λ b. AllByRecursion Short (cond b (e ∷ where_key text_cmp p es) (where_key text_cmp p es))) [
      | true ↦ (all.0, kept_short p es all.1)
      | false ↦ kept_short p es all.1
    ]

abbrev other_than : List ℕ → List ℕ → Bool
other_than name x = not (eq_by_cmp text_cmp name x)

-- names that compare equal are the same
same_name : (x y : List ℕ) → text_cmp x y ≡ Equal → x ≡ y
same_name = slice_cmp-IsAntisymmetric nat_cmp-IsAntisymmetric

turned : {A : Type 0} (b : Bool) (x y : A) → cond (not b) x y ≡ cond b y x
turned true x y = refl
turned false x y = refl

-- the components that a removal leaves
dropped : (es : List (List ℕ × List ℕ)) → T (is_sorted text_cmp es) → (k : List ℕ) → from_sorted {R = text_cmp} (where_key text_cmp (other_than k) es) ≡ remove (from_sorted es) k
dropped es sorted k =
    let kept = is_sorted-where_key text_cmp (other_than k) es sorted in
    same_map nat_list_cmp_total same_name _ _ (λ q.
    get-from_sorted text_cmp _ q kept
    ∙ find-where_key text_cmp (other_than k) q (λ x t. ap (λ r. not (is_eq r)) (sym (alike_right nat_list_cmp_total q x k t))) es
    ∙ turned (eq_by_cmp text_cmp k q) (find text_cmp q es) None
    ∙ ap (λ b. cond b None (find text_cmp q es)) ((eq_by_cmp_equiv nat_list_cmp_total).symm k q)
    ∙ ap (cond (eq_by_cmp text_cmp q k) None) (sym (get-from_sorted text_cmp es q sorted))
    ∙ sym (get-remove nat_list_cmp_total (from_sorted es) k q))

entries-remove : (project : ProjectMap) (name : List ℕ) → entries (remove project name) ≡ where_key text_cmp (other_than name) (entries project)
entries-remove project name =
    let es = entries project in
    let sorted = entries_sorted project in
    let same : from_sorted {R = text_cmp} es ≡ project = same_entries_map _ _ (entries-from_sorted text_cmp es sorted) in
    ap (λ m. entries (remove m name)) (sym same)
    ∙ ap entries (sym (dropped es sorted name))
    ∙ entries-from_sorted text_cmp (where_key text_cmp (other_than name) es) (is_sorted-where_key text_cmp (other_than name) es sorted)

no_length : {A : Type 0} (es : List A) → length es ≡ 0 → es ≡ []
no_length [] e = refl
no_length (x ∷ es) e = absurd (omega arith)

entries-empty : entries (empty {X = List ℕ} {R = text_cmp}) ≡ []
entries-empty = no_length _ (sym (len-entries (empty {X = List ℕ} {R = text_cmp})) ∙ len-empty text_cmp (List ℕ))

-- the text that an entry puts is short
abbrev PutsShort : Entry → Type 0
PutsShort (Put name text) = length text ≤ 65536
PutsShort _ = Unit {0}

puts_short : (entry : Entry) → IsEntry entry → PutsShort entry
puts_short (Put name text) is = is.1.1
puts_short (Drop name) is = tt
puts_short Build is = tt
puts_short (SetProof name proof) is = tt
puts_short (Purge names) is = tt

puts_short_old : (entry : Entry) → IsOldEntry entry → PutsShort entry
puts_short_old (Put name text) is = is.1.1
puts_short_old (Drop name) is = tt
puts_short_old Build is = tt
puts_short_old (SetProof name proof) is = tt
puts_short_old (Purge names) is = tt

all_short : (es : List Entry) → AllByRecursion IsEntry es → AllByRecursion PutsShort es
all_short [] all = tt
all_short (e ∷ es) all = (puts_short e all.0, all_short es all.1)

all_short_old : (es : List Entry) → AllByRecursion IsOldEntry es → AllByRecursion PutsShort es
all_short_old [] all = tt
all_short_old (e ∷ es) all = (puts_short_old e all.0, all_short_old es all.1)

one_short : (d : Durable) (entry : Entry) → HasShortTexts d → PutsShort entry → HasShortTexts (entered d entry)
one_short d (Put name text) s short = record { texts = subst (AllByRecursion Short) (sym (entries-insert nat_list_cmp_total d.texts name text)) (put_short name text (entries d.texts) short s.texts); built = s.built }
one_short d (Drop name) s short = record { texts = subst (AllByRecursion Short) (sym (entries-remove d.texts name)) (kept_short (other_than name) (entries d.texts) s.texts); built = s.built }
one_short d Build s short = record { texts = s.texts; built = s.texts }
one_short d (SetProof name proof) s short = record { texts = s.texts; built = s.built }
one_short d (Purge names) s short = record { texts = s.texts; built = s.built }

after_short : (d : Durable) (es : List Entry) → HasShortTexts d → AllByRecursion PutsShort es → HasShortTexts (after_all d es)
after_short d [] s all = s
after_short d (e ∷ es) s all = after_short (entered d e) es (one_short d e s all.0) all.1

-- a record leaves the texts of a project short
pub stays_short : (d : Durable) (body : List ℕ) (es : List Entry) → HasShortTexts d → IsBody body es → HasShortTexts (after_all d es)
stays_short d body es s is = after_short d es s (⊎_elim (λ v. all_short es v.spelled.0) (λ v. all_short_old es v.spelled.0) is.version)

pub nothing_short : HasShortTexts no_texts
nothing_short =
    let none : AllByRecursion Short (entries (empty {X = List ℕ} {R = text_cmp})) = subst (AllByRecursion Short) (sym entries-empty) tt in
    record { texts = none; built = none }

pub nothing_small : IsSmall no_texts
nothing_small = omega (arith, len-empty text_cmp (List ℕ))

pub small_project : (d : Durable) → IsSmall d → HasShortTexts d → IsSmallProject d.texts
small_project d small s = (omega (arith, small, len-entries d.texts), s.texts)

pub buildable : (d : Durable) → HasShortTexts d → IsBuildable d.built
buildable d s = s.built

pub led_too_far : (bodies : List (List ℕ)) (d : Durable) (n : ℕ) → Leads no_texts bodies d → AllByRecursion IsSingle bodies → IsTooLarge d.built n → LeadsTooFar bodies n
led_too_far bodies d n leads single full = record { durable = d; leads = leads; single = single; full = full }

-- a core isn't opened where the records don't lead on
pub stop_of_core : (bodies : List (List ℕ)) (on : Side) (fault : OpenFault) → IsReplayFault bodies on fault → IsCoreFault bodies on fault
stop_of_core bodies on (Damaged side gate) stop = stop
stop_of_core bodies on OutOfMemory stop = tt
stop_of_core bodies on (Foreign side) stop = absurd stop
stop_of_core bodies on (TableFull n) stop = absurd stop
stop_of_core bodies on DiskFault stop = absurd stop
