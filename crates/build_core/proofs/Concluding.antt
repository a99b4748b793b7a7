-- The outcomes that are set one after another are those of the rounds.
use Rattle.std.proofs.Common.{◌≡◌, ◌∙◌, ◌⊎◌, inl, inr, sym, ap, subst, refl, ℕ, zero, suc, Bool, true, false, List, [], ◌∷◌, ◌++◌, Option, Some, None, bytes_eq, append_assoc}
use Rattle.std.specs.Prelude.{Ok, Err, IsSome}
use Rattle.std.specs.List.{Contains, AllZip, AllByRecursion, IsDistinct}
use Rattle.std.specs.Map.{keys_of}
use Rattle.std.proofs.lemmas.List.{append-nil}
use Rattle.formula_core.specs.declared.raw.Ref.{Ref}
use Rattle.model_core.specs.Components.{heading}
use Rattle.model_core.specs.Each.{is_among}
use Rattle.model_core.specs.Faults.{fault_at}
use Rattle.model_core.specs.declared.fault.FaultKind.TheVariants as kind
use Rattle.model_core.specs.declared.component.RawComponent.{RawComponent}
use Rattle.model_core.specs.declared.component.RawComponent.TheVariants as raw
use Rattle.model_core.specs.declared.checked.Checked.{Checked}
use Rattle.component_text.specs.Spelled.{IsRead}
use Rattle.check_rules.specs.Contexts.{Outcome}
use Rattle.static_check.specs.declared.settled.Order.{Order}
use Rattle.static_check.specs.Settling as ordering
use Rattle.static_check.specs.Settling.{own_name, references, has_component, IfPresent, IsSettled, ReferencesFirst, IsComponentOrder}
use Rattle.build_core.specs.Projects.{Project, Reading, has_text, wanting, wanted_references, references_in, IsPart, ConcludesFrom, ChecksBy, IsSettledBy, IsCyclic, Checks, settled, cyclic}
use Rattle.build_core.specs.Private.{Outcomes, found, Sets, AreRead, outcomes_at, AreSet, ConcludesIn, IsToldCyclic, AreConcluded, HaveComponents, AreVerdicts}
use Rattle.build_core.proofs.Found.{set_there, set_keeps, set_cases, its_value, is_found, not_found, among_last, among_first, among_here, or_second, named_one, its_text}
use Rattle.build_core.proofs.Rounds.{unequal, same_component, not_both, is_there, read_one}

-- ROUNDS

parts_more : (project : Project) (P Q : List ℕ → Outcome → Type 0) → ((n : List ℕ) (o : Outcome) → P n o → Q n o) →
    (refs : List (Ref × Bool)) (parts : List (Option Outcome)) → AllZip (IsPart project P) refs parts → AllZip (IsPart project Q) refs parts
parts_more project P Q f [] [] all = tt
parts_more project P Q f [] (p ∷ parts) all = absurd all
parts_more project P Q f (r ∷ refs) [] all = absurd all
parts_more project P Q f (r ∷ refs) (None ∷ parts) all = (all.0, parts_more project P Q f refs parts all.1)
parts_more project P Q f (r ∷ refs) (Some o ∷ parts) all = (f r.0.name o all.0, parts_more project P Q f refs parts all.1)

concludes_more : (project : Project) (P Q : List ℕ → Outcome → Type 0) → ((n : List ℕ) (o : Outcome) → P n o → Q n o) →
    (reading : Reading) (outcome : Outcome) → ConcludesFrom project P reading outcome → ConcludesFrom project Q reading outcome
concludes_more project P Q f (Err fault) outcome h = h
concludes_more project P Q f (Ok c) outcome h = (h.0, parts_more project P Q f (wanted_references c) h.0 h.1, h.2)

-- a verdict of some round is one of the next
round_more : (project : Project) (k : ℕ) (name : List ℕ) (outcome : Outcome) → ChecksBy project k name outcome → ChecksBy project (suc k) name outcome
round_more project zero name outcome h = absurd h
round_more project (suc k) name outcome h =
    (h.0, h.1, h.2, h.3, concludes_more project (ChecksBy project k) (ChecksBy project (suc k)) (round_more project k) h.1 outcome h.4)

-- REFERENCES

all_wanting : (R : Ref → Type 0) (context : Bool) (refs : List Ref) → AllByRecursion R refs → AllByRecursion (λ (r : Ref × Bool). R r.0) (wanting context refs)
all_wanting R context [] all = tt
all_wanting R context (r ∷ refs) all = (all.0, all_wanting R context refs all.1)

all_wanted : (R : Ref → Type 0) (c : RawComponent) → AllByRecursion R (references c) → AllByRecursion (λ (r : Ref × Bool). R r.0) (wanted_references c)
all_wanted R (raw.Context name extends sets constants axioms) all = all_wanting R true extends all
all_wanted R (raw.Machine name None sees variables invariants variant events) all = all_wanting R true sees all
all_wanted R (raw.Machine name (Some r) sees variables invariants variant events) all = (all.0, all_wanting R true sees all.1)

of_wanting : (R : Ref → Type 0) (context : Bool) (refs : List Ref) → AllByRecursion (λ (r : Ref × Bool). R r.0) (wanting context refs) → AllByRecursion R refs
of_wanting R context [] all = tt
of_wanting R context (r ∷ refs) all = (all.0, of_wanting R context refs all.1)

of_wanted : (R : Ref → Type 0) (c : RawComponent) → AllByRecursion (λ (r : Ref × Bool). R r.0) (wanted_references c) → AllByRecursion R (references c)
of_wanted R (raw.Context name extends sets constants axioms) all = of_wanting R true extends all
of_wanted R (raw.Machine name None sees variables invariants variant events) all = of_wanting R true sees all
of_wanted R (raw.Machine name (Some r) sees variables invariants variant events) all = (all.0, of_wanting R true sees all.1)

all_so : {X : Type 0} (P Q : X → Type 0) → ((x : X) → P x → Q x) → (xs : List X) → AllByRecursion P xs → AllByRecursion Q xs
all_so P Q f [] all = tt
all_so P Q f (x ∷ xs) all = (f x all.0, all_so P Q f xs all.1)

abbrev pub Sound : Project → ℕ → Outcomes → Type 0
Sound project k outcomes = (n : List ℕ) (o : Outcome) → found outcomes n ≡ Some o → ChecksBy project k n o

abbrev pub Covers : List (List ℕ) → Outcomes → Type 0
Covers names outcomes = (n : List ℕ) → is_among names n ≡ true → IsSome (found outcomes n)

abbrev pub Keeps : Outcomes → Outcomes → Type 0
Keeps before behind = (n : List ℕ) → IsSome (found before n) → IsSome (found behind n)

-- what is told of names is kept, or is the outcome of such a component
abbrev pub FromTold : List RawComponent → List (List ℕ) → Outcomes → Outcomes → Type 0
FromTold components names before behind = (n : List ℕ) (o : Outcome) → found behind n ≡ Some o →
    (found before n ≡ Some o)
    ⊎ ((c : RawComponent) × (is_among names n ≡ true) × Contains components c × (own_name c ≡ n) × (o ≡ Err (fault_at (own_name c) kind.Cyclic (heading c).place [])))

module _ (project : Project) (distinct : IsDistinct bytes_eq (keys_of project)) (components : List RawComponent) (start : Outcomes) (all_read : AreRead project components start) where
  -- the component of a name is one
  named_once : (c d : RawComponent) → Contains components c → Contains components d → own_name c ≡ own_name d → c ≡ d
  named_once c d in' there same =
      let a = all_read.read c in' in
      let b = all_read.read d there in
      same_component c d (read_one project distinct (own_name c) a.0 b.0 (Ok c) (Ok d) a.1 (subst (λ n. Contains project (n, b.0)) (sym same) b.1) a.2 (subst (λ n. IsRead n b.0 (Ok d)) (sym same) b.2))

  -- the reading of a text with a component's name is that component
  reading_is : (c : RawComponent) (name text : List ℕ) (reading : Reading) → Contains components c → own_name c ≡ name → Contains project (name, text) → IsRead name text reading → reading ≡ Ok c
  reading_is c name text reading in' same there is =
      let a = all_read.read c in' in
      read_one project distinct name text a.0 reading (Ok c) there (subst (λ n. Contains project (n, a.0)) same a.1) is (subst (λ n. IsRead n a.0 (Ok c)) same a.2)

  has_its_text : (name : List ℕ) → has_component components name ≡ true → has_text project name ≡ true
  has_its_text name e =
      let c = named_one components name e in
      let a = all_read.read c.0 c.1 in
      is_there project distinct name a.0 (subst (λ n. Contains project (n, a.0)) c.2 a.1)

  -- A reference without an outcome has no text.
  absent : (before : List (List ℕ)) (now : Outcomes) → Covers before now → Keeps start now → (r : Ref) → IfPresent components (λ n. is_among before n ≡ true) r →
      found now r.name ≡ None → has_text project r.name ≡ false
  absent before now covers keeps r present none = by (has_text project r.name) refl
    where
      gone : {A : Type 0} → IsSome (found now r.name) → A
      gone there = not_found (found now r.name) there none

      by : (b : Bool) → has_text project r.name ≡ b → has_text project r.name ≡ false
      by false e = e
      by true e =
          let t = its_text project r.name e in
          elim (all_read.all r.name t.0 t.1) [
            | inl there ↦ elim present [ inl among ↦ gone (covers r.name among) | inr never ↦ unequal (has_component components r.name) there never ]
            | inr faulty ↦ gone (keeps r.name faulty)
          ]

  part_now : (k : ℕ) (before : List (List ℕ)) (now : Outcomes) → Sound project k now → Covers before now → Keeps start now →
      (r : Ref × Bool) → IfPresent components (λ n. is_among before n ≡ true) r.0 → IsPart project (ChecksBy project k) r (found now r.0.name)
  part_now k before now sound covers keeps r present = by (found now r.0.name) refl
    where
      by : (o : Option Outcome) → found now r.0.name ≡ o → IsPart project (ChecksBy project k) r o
      by None e = absent before now covers keeps r.0 present e
      by (Some o) e = sound r.0.name o e

  parts_now : (k : ℕ) (before : List (List ℕ)) (now : Outcomes) → Sound project k now → Covers before now → Keeps start now →
      (refs : List (Ref × Bool)) → AllByRecursion (λ (r : Ref × Bool). IfPresent components (λ n. is_among before n ≡ true) r.0) refs →
      AllZip (IsPart project (ChecksBy project k)) refs (outcomes_at now refs)
  parts_now k before now sound covers keeps [] all = tt
  parts_now k before now sound covers keeps (r ∷ refs) all = (part_now k before now sound covers keeps r all.0, parts_now k before now sound covers keeps refs all.1)

  -- what is concluded of a component whose references are ready
  one_checked : (k : ℕ) (before : List (List ℕ)) (now : Outcomes) → Sound project k now → Covers before now → Keeps start now →
      (c : RawComponent) (outcome : Outcome) → Contains components c → AllByRecursion (IfPresent components (λ n. is_among before n ≡ true)) (references c) →
      ConcludesIn c now outcome → ChecksBy project (suc k) (own_name c) outcome
  one_checked k before now sound covers keeps c outcome in' present gives =
      let a = all_read.read c in' in (
        a.0,
        Ok c,
        a.1,
        a.2,
        (outcomes_at now (wanted_references c), parts_now k before now sound covers keeps (wanted_references c) (all_wanted (IfPresent components (λ n. is_among before n ≡ true)) c present), gives),
      )

  sound_more : (k : ℕ) (now next : Outcomes) (name : List ℕ) (outcome : Outcome) → Sound project k now → ChecksBy project (suc k) name outcome → Sets now name outcome next → Sound project (suc k) next
  sound_more k now next name outcome sound one sets n o e = elim (set_cases now name outcome next sets n o e) [
    | inl here ↦ subst (λ m. ChecksBy project (suc k) m o) here.0 (subst (λ x. ChecksBy project (suc k) name x) here.1 one)
    | inr old ↦ round_more project k n o (sound n o old)
  ]

  covers_more : (before : List (List ℕ)) (now next : Outcomes) (name : List ℕ) (outcome : Outcome) → Covers before now → Sets now name outcome next → Covers (before ++ name ∷ []) next
  covers_more before now next name outcome covers sets n among = elim (among_last before name n among) [
    | inl old ↦ set_keeps now name outcome next sets n (covers n old)
    | inr here ↦ subst (λ m. IsSome (found next m)) here (is_found (found next name) outcome (set_there now name outcome next sets))
  ]

  keeps_more : (now next : Outcomes) (name : List ℕ) (outcome : Outcome) → Keeps start now → Sets now name outcome next → Keeps start next
  keeps_more now next name outcome keeps sets n there = set_keeps now name outcome next sets n (keeps n there)

  -- all that are sorted are checked by some round
  all_checked : (before names : List (List ℕ)) (now behind : Outcomes) → ReferencesFirst components before names → AreSet ConcludesIn components names now behind →
      (k : ℕ) → Sound project k now → Covers before now → Keeps start now →
      (m : ℕ) × Sound project m behind × Covers (before ++ names) behind × Keeps start behind
  all_checked before [] now behind first set k sound covers keeps =
      subst (λ os. (m : ℕ) × Sound project m os × Covers (before ++ []) os × Keeps start os) (sym set)
      (k, sound, subst (λ ns. Covers ns now) (sym (append-nil before)) covers, keeps)
  all_checked before (name ∷ names) now behind first set k sound covers keeps =
      let d = first.0.0 in
      let c = set.0 in
      let outcome = set.1 in
      let next = set.2 in
      let same : d ≡ c = named_once d c first.0.1 set.3 (first.0.2 ∙ sym set.4) in
      let ready = subst (λ x. AllByRecursion (IfPresent components (λ n. is_among before n ≡ true)) (references x)) same first.0.3 in
      let own : ChecksBy project (suc k) (own_name c) outcome = one_checked k before now sound covers keeps c outcome set.3 ready set.5 in
      let one : ChecksBy project (suc k) name outcome = subst (λ n. ChecksBy project (suc k) n outcome) set.4 own in
      let rest = all_checked (before ++ name ∷ []) names next behind first.1 set.7 (suc k) (sound_more k now next name outcome sound one set.6)
      (covers_more before now next name outcome covers set.6) (keeps_more now next name outcome keeps set.6) in
      (rest.0, rest.1, subst (λ ns. Covers ns behind) (append_assoc before (name ∷ []) names) rest.2, rest.3)

  -- what is told of names
  all_told : (names : List (List ℕ)) (now behind : Outcomes) → AreSet IsToldCyclic components names now behind →
      FromTold components names now behind × Covers names behind × Keeps now behind
  all_told [] now behind set =
      subst (λ os. FromTold components [] now os × Covers [] os × Keeps now os) (sym set) (λ n o e. inl e, λ n e. absurd (never e), λ n there. there)
    where
      never : false ≡ true → ⊥
      never h = cc
  all_told (name ∷ names) now behind set =
      let c = set.0 in
      let outcome = set.1 in
      let next = set.2 in
      let rest = all_told names next behind set.7 in (
        λ n o e. elim (rest.0 n o e) [
          | inl old ↦ elim (set_cases now name outcome next set.6 n o old) [
            | inl here ↦ inr (c, subst (λ m. is_among (name ∷ names) m ≡ true) here.0 (among_here names name), set.3, set.4 ∙ here.0, sym here.1 ∙ set.5)
            | inr older ↦ inl older
          ]
          | inr told ↦ inr (told.0, later_among name names n told.1, told.2, told.3, told.4)
        ],
        λ n among. elim (among_first names name n among) [
          | inl here ↦ rest.2 n (subst (λ m. IsSome (found next m)) here (is_found (found next name) outcome (set_there now name outcome next set.6)))
          | inr more ↦ rest.1 n more
        ],
        λ n there. rest.2 n (set_keeps now name outcome next set.6 n there),
      )
    where
      later_among : (x : List ℕ) (xs : List (List ℕ)) (n : List ℕ) → is_among xs n ≡ true → is_among (x ∷ xs) n ≡ true
      later_among x xs n e = or_second (bytes_eq n x) (is_among xs n) e

  present_there : (P Q : List ℕ → Type 0) → ((n : List ℕ) → P n → has_component components n ≡ true → Q n) → (r : Ref) → P r.name ⊎ (has_text project r.name ≡ false) → IfPresent components Q r
  present_there P Q f r h = by (has_component components r.name) refl
    where
      by : (b : Bool) → has_component components r.name ≡ b → IfPresent components Q r
      by false e = inr e
      by true e = elim h [ inl more ↦ inl (f r.name more e) | inr none ↦ unequal (has_text project r.name) (has_its_text r.name e) none ]

  -- What is settled by texts is settled by components, where it is one.
  settled_there : (k : ℕ) (n : List ℕ) → IsSettledBy project k n → has_component components n ≡ true → ordering.IsSettledAmong components k n
  settled_there zero n s e = absurd s
  settled_there (suc k) n s e =
      let c = named_one components n e in
      let is : s.1 ≡ Ok c.0 = reading_is c.0 n s.0 s.1 c.1 c.2 s.2 s.3 in
      let refs = subst (λ r. AllByRecursion (λ (x : Ref × Bool). IsSettledBy project k x.0.name ⊎ (has_text project x.0.name ≡ false)) (references_in r)) is s.4 in
      let present = present_there (IsSettledBy project k) (ordering.IsSettledAmong components k) (settled_there k) in (
        c.0,
        c.1,
        c.2,
        of_wanted (IfPresent components (ordering.IsSettledAmong components k)) c.0
            (all_so (λ (x : Ref × Bool). IsSettledBy project k x.0.name ⊎ (has_text project x.0.name ≡ false)) (λ (x : Ref × Bool). IfPresent components (ordering.IsSettledAmong components k) x.0)
            (λ x. present x.0) (wanted_references c.0) refs),
      )

  nothing_sound : Sound project (suc zero) start
  nothing_sound n o e =
      let f = all_read.faulted n o e in
      (f.0, Err f.1, f.2, f.3, f.4)

  -- what is concluded of these names is by rounds
  pub sound_now : (names : List (List ℕ)) (now : Outcomes) → ReferencesFirst components [] names → AreSet ConcludesIn components names start now → (m : ℕ) × Sound project m now
  sound_now names now first set =
      let all = all_checked [] names start now first set (suc zero) nothing_sound (λ n e. absurd (never e)) (λ n there. there) in
      (all.0, all.1)
    where
      never : false ≡ true → ⊥
      never e = cc

  -- The outcomes that are concluded are the verdicts.
  pub concluded_verdicts : (behind : Outcomes) → AreConcluded components start behind → AreVerdicts project behind
  concluded_verdicts behind h = record {
    sound = λ n o e. elim (told.0 n o e) [
      | inl old ↦ settled by_rounds.0 (by_rounds.1 n o old)
      | inr t ↦ cyclic (fault_at (own_name t.0) kind.Cyclic (heading t.0).place []) (is_cyclic n t.0 t.1 t.2 t.3) t.4
    ];
    whole = λ n text there. elim (all_read.all n text there) [
      | inl has_it ↦ either n has_it (is_among order.sorted n) refl
      | inr faulty ↦ told.2 n (by_rounds.3 n faulty)
    ];
  }
    where
      order : Order
      order = h.0

      is_order : IsComponentOrder components h.0
      is_order = h.2

      by_rounds : (m : ℕ) × Sound project m h.1 × Covers ([] ++ h.0.sorted) h.1 × Keeps start h.1
      by_rounds = all_checked [] h.0.sorted start h.1 h.2.references_first h.3 (suc zero) nothing_sound (λ n e. absurd (never e)) (λ n there. there)
        where
          never : false ≡ true → ⊥
          never e = cc

      told : FromTold components h.0.cyclic h.1 behind × Covers h.0.cyclic behind × Keeps h.1 behind
      told = all_told h.0.cyclic h.1 behind h.4

      is_cyclic : (n : List ℕ) (c : RawComponent) → is_among h.0.cyclic n ≡ true → Contains components c → own_name c ≡ n →
          IsCyclic project n (fault_at (own_name c) kind.Cyclic (heading c).place [])
      is_cyclic n c among in' same =
          let a = all_read.read c in' in
          let never = (h.2.cyclic n).0 among in (
            a.0,
            c,
            subst (λ m. Contains project (m, a.0)) same a.1,
            subst (λ m. IsRead m a.0 (Ok c)) same a.2,
            λ k s. never.1 (k, settled_there k n s never.0),
            ap (λ m. fault_at m kind.Cyclic (heading c).place []) same,
          )

      either : (n : List ℕ) → has_component components n ≡ true → (b : Bool) → is_among h.0.sorted n ≡ b → IsSome (found behind n)
      either n has_it true e = told.2 n (by_rounds.2 n e)
      either n has_it false e = told.1 n ((h.2.cyclic n).1 (has_it, λ s. unequal (is_among h.0.sorted n) ((h.2.sorted n).1 s) e))

  reading_has : (n text : List ℕ) (c : RawComponent) → Contains project (n, text) → IsRead n text (Ok c) → has_component components n ≡ true
  reading_has n text c there is = elim (all_read.all n text there) [
    | inl has_it ↦ has_it
    | inr faulty ↦
        let o = its_value (found start n) faulty in
        let f = all_read.faulted n o.0 o.1 in
        not_both c f.1 (read_one project distinct n text f.0 (Ok c) (Err f.1) there f.2 is f.3)
  ]

  -- a component without fault is one of the components
  pub checked_has : (n : List ℕ) (checked : Checked) → Checks project n (Ok checked) → has_component components n ≡ true
  checked_has n checked (settled zero h) = absurd h
  checked_has n checked (settled (suc k) h) = by h.1 h.3 h.4
    where
      by : (reading : Reading) → IsRead n h.0 reading → ConcludesFrom project (ChecksBy project k) reading (Ok checked) → has_component components n ≡ true
      by (Ok c) is follows = reading_has n h.0 c h.2 is
      by (Err fault) is follows = absurd (never follows)
        where
          never : Ok checked ≡ Err fault → ⊥
          never e = cc
  checked_has n checked (cyclic fault h e) = absurd (never e)
    where
      never : Ok checked ≡ Err fault → ⊥
      never e = cc

  pub have_components : (behind : Outcomes) → AreVerdicts project behind → HaveComponents components behind
  have_components behind verdicts n checked e = checked_has n checked (verdicts.sound n (Ok checked) e)
