-- What is taken over from the build before, and what is checked again.
use Rattle.std.proofs.Common.{◌≡◌, ◌≢◌, ◌∙◌, ◌⊎◌, inl, inr, sym, ap, subst, refl, ℕ, zero, suc, ◌+◌, Bool, true, false, cond, ◌&&◌, List, [], ◌∷◌, Option, Some, None, map, bytes_eq, arith}
use Rattle.std.specs.Prelude.{Ok, Err, IsSome}
use Rattle.std.specs.List.{Contains, AllZip, AllByRecursion, IsDistinct, list_all}
use Rattle.std.specs.Map.{keys_of, lookup}
use Rattle.std.specs.BTreeMap.{is_at}
use Rattle.std.specs.Ordering.{nat_cmp}
use Rattle.std.specs.Cmp.Lexicographic.{slice_cmp}
use Rattle.std.specs.Option.{option_map, option_to_list}
use Rattle.formula_core.specs.declared.raw.Ref.{Ref}
use Rattle.model_core.specs.Faults.{first_by_place}
use Rattle.model_core.specs.declared.fault.Fault.{Fault}
use Rattle.model_core.specs.declared.component.RawComponent.{RawComponent}
use Rattle.model_core.specs.declared.component.RawComponent.TheVariants as raw
use Rattle.model_core.specs.declared.checked.Checked.{Checked}
use Rattle.component_text.specs.Spelled.{IsRead}
use Rattle.check_rules.specs.Contexts.{Outcome}
use Rattle.static_check.specs.Settling.{own_name}
use Rattle.sequent_core.specs.declared.sequent.Obligation.{Obligation}
use Rattle.po_rules.specs.Tables.{obligations_of}
use Rattle.build_core.specs.Moved.{IsResult, IsMoved}
use Rattle.build_core.specs.Projects.{Project, has_text, wanting, wanted_references, references_in, reference_row, IsPart, Concludes, ConcludesFrom, ChecksBy, IsSettledBy, Checks, settled, cyclic}
use Rattle.build_core.specs.Tables.{refined_in, Gives}
use Rattle.build_core.specs.Private.{Outcomes, found, Sets, outcomes_at, faults_at, ConcludesIn, IsJudged, IsComponentIn, AreSteady, IsSteady, is_true, is_kept, are_same, all_kept, keeps_obligations, machine_in_outcome, abstraction_in}
use Rattle.build_core.proofs.Found.{tied, same, itself, later, its_value, its_text}
use Rattle.build_core.proofs.Rounds.{unequal, looked_up, same_some, read_one, by_settled, verdict_one}
use Rattle.build_core.proofs.Referred.{none_first, both_empty, not_empty}
use Rattle.build_core.proofs.Tables.{has_verdict, gives_one, abstraction_is}
use Rattle.build_core.proofs.Concluding.{Sound}

-- MAPS

lookup_by : {X : Type 0} (p q : List ℕ → Bool) → ((n : List ℕ) → p n ≡ q n) → (es : List (List ℕ × X)) → lookup p es ≡ lookup q es
lookup_by p q f [] = refl
lookup_by p q f (e ∷ es) = let first = f e.0 in let rest = lookup_by p q f es in λ i. cond (first i) (Some e.1) (rest i)

pub found_text : (project : Project) → IsDistinct bytes_eq (keys_of project) → (name text : List ℕ) → Contains project (name, text) → found project name ≡ Some text
found_text project once name text h = lookup_by (is_at (slice_cmp nat_cmp name)) (bytes_eq name) (tied name) project ∙ looked_up project once name text h

pub text_found : (project : Project) (name text : List ℕ) → found project name ≡ Some text → Contains project (name, text)
text_found [] name text e = absurd (never e)
  where
    never : None ≡ Some text → ⊥
    never h = cc
text_found (d ∷ project) name text e = by (text_found project name text) (is_at (slice_cmp nat_cmp name) d.0) refl e
  where
    by : (found project name ≡ Some text → Contains project (name, text)) → (b : Bool) → is_at (slice_cmp nat_cmp name) d.0 ≡ b → cond b (Some d.1) (found project name) ≡ Some text → Contains (d ∷ project) (name, text)
    by more true at f =
        let key : name ≡ d.0 = same name d.0 (sym (tied name d.0) ∙ at) in
        let value : d.1 ≡ text = same_some d.1 text f in
        (zero, omega arith, λ i. (sym key i, value i))
    by more false at f = later project d (name, text) (more f)

pub found_mapped : {X Y : Type 0} (f : X → Y) (es : List (List ℕ × X)) (name : List ℕ) → found (map (λ e. (e.0, f e.1)) es) name ≡ option_map f (found es name)
found_mapped f [] name = refl
found_mapped f (e ∷ es) name = by (found_mapped f es name) (is_at (slice_cmp nat_cmp name) e.0)
  where
    by : found (map (λ d. (d.0, f d.1)) es) name ≡ option_map f (found es name) → (b : Bool) → cond b (Some (f e.1)) (found (map (λ d. (d.0, f d.1)) es) name) ≡ option_map f (cond b (Some e.1) (found es name))
    by rest true = refl
    by rest false = rest

pub sets_mapped : {X Y : Type 0} (f : X → Y) (before behind : List (List ℕ × X)) (name : List ℕ) (x : X) → Sets before name x behind →
    Sets (map (λ e. (e.0, f e.1)) before) name (f x) (map (λ e. (e.0, f e.1)) behind)
sets_mapped f before behind name x sets q =
    found_mapped f behind q ∙ ap (option_map f) (sets q) ∙ by (is_at (slice_cmp nat_cmp name) q)
  where
    by : (b : Bool) → option_map f (cond b (Some x) (found before q)) ≡ cond b (Some (f x)) (found (map (λ e. (e.0, f e.1)) before) q)
    by true = refl
    by false = sym (found_mapped f before q)

-- OUTCOMES THAT ARE KEPT

module _ (was a b : Outcomes) (k m : List (List ℕ × Bool)) (n : List ℕ) (o : Outcome) (t : Bool) (steady : AreSteady was a k) (one : IsSteady (found was n) o t)
    (sets : Sets a n o b) (marks : Sets k n t m) where
  same_by : (q : List ℕ) (x : Bool) → is_at (slice_cmp nat_cmp n) q ≡ x → is_kept m q ≡ true → found was q ≡ found b q
  same_by q true at e =
      let here : n ≡ q = same n q (sym (tied n q) ∙ at) in
      let mark : t ≡ true = sym (ap is_true (marks q ∙ ap (λ x. cond x (Some t) (found k q)) at)) ∙ e in
      subst (λ r. found was r ≡ Some o) here (one.same mark) ∙ sym (sets q ∙ ap (λ x. cond x (Some o) (found a q)) at)
  same_by q false at e =
      let mark : is_kept k q ≡ true = sym (ap is_true (marks q ∙ ap (λ x. cond x (Some t) (found k q)) at)) ∙ e in
      steady.same q mark ∙ sym (sets q ∙ ap (λ x. cond x (Some o) (found a q)) at)

  other_by : (q : List ℕ) (checked : Checked) (x : Bool) → is_at (slice_cmp nat_cmp n) q ≡ x → found b q ≡ Some (Ok checked) → is_kept m q ≡ false → found was q ≢ found b q
  other_by q checked true at f e =
      let here : n ≡ q = same n q (sym (tied n q) ∙ at) in
      let mark : t ≡ false = sym (ap is_true (marks q ∙ ap (λ x. cond x (Some t) (found k q)) at)) ∙ e in
      let there : found b q ≡ Some o = sets q ∙ ap (λ x. cond x (Some o) (found a q)) at in
      λ equal. one.other checked (same_some o (Ok checked) (sym there ∙ f)) mark (subst (λ r. found was r ≡ Some o) (sym here) (equal ∙ there))
  other_by q checked false at f e =
      let mark : is_kept k q ≡ false = sym (ap is_true (marks q ∙ ap (λ x. cond x (Some t) (found k q)) at)) ∙ e in
      let there : found b q ≡ found a q = sets q ∙ ap (λ x. cond x (Some o) (found a q)) at in
      λ equal. steady.other q checked (sym there ∙ f) mark (equal ∙ there)

  pub steady_more : AreSteady was b m
  steady_more = record {
    same = λ q e. same_by q (is_at (slice_cmp nat_cmp n) q) refl e;
    other = λ q checked f e. other_by q checked (is_at (slice_cmp nat_cmp n) q) refl f e;
  }

-- a fault isn't kept
pub fault_steady : (before : Option Outcome) (fault : Fault) → IsSteady before (Err fault) false
fault_steady before fault = record { same = λ e. absurd (untrue e); other = λ checked e. absurd (never checked e) }
  where
    untrue : false ≡ true → ⊥
    untrue e = cc

    never : (checked : Checked) → Err fault ≡ Ok checked → ⊥
    never checked e = cc

pub told_steady : (before : Option Outcome) (outcome : Outcome) (fault : Fault) (kept : Bool) → outcome ≡ Err fault → kept ≡ false → IsSteady before outcome kept
told_steady before outcome fault kept is none = subst (λ o. IsSteady before o kept) (sym is) (subst (IsSteady before (Err fault)) (sym none) (fault_steady before fault))

-- REFERENCES

and_first : (a b : Bool) → (a && b) ≡ true → a ≡ true
and_first true b e = refl
and_first false b e = e

and_second : (a b : Bool) → (a && b) ≡ true → b ≡ true
and_second true b e = e
and_second false b e = absurd (never e)
  where
    never : false ≡ true → ⊥
    never h = cc

all_wanting : (kept : List (List ℕ × Bool)) (context : Bool) (refs : List Ref) → list_all (λ r. is_kept kept r.name) refs ≡ list_all (λ (r : Ref × Bool). is_kept kept r.0.name) (wanting context refs)
all_wanting kept context [] = refl
all_wanting kept context (r ∷ refs) = ap (λ b. is_kept kept r.name && b) (all_wanting kept context refs)

-- references that are kept, by what they want
kept_wanted : (kept : List (List ℕ × Bool)) (c : RawComponent) → all_kept kept c ≡ list_all (λ (r : Ref × Bool). is_kept kept r.0.name) (wanted_references c)
kept_wanted kept (raw.Context name extends sets constants axioms) = all_wanting kept true extends
kept_wanted kept (raw.Machine name None sees variables invariants variant events) = all_wanting kept true sees
kept_wanted kept (raw.Machine name (Some r) sees variables invariants variant events) = by (is_kept kept r.name)
  where
    by : (b : Bool) → ((b && true) && list_all (λ x. is_kept kept x.name) sees) ≡ (b && list_all (λ (x : Ref × Bool). is_kept kept x.0.name) (wanting true sees))
    by true = all_wanting kept true sees
    by false = refl

-- what stands at a reference without fault
row_ok : (component : List ℕ) (r : Ref × Bool) (o : Option Outcome) → reference_row component r o ≡ [] → (checked : Checked) × (o ≡ Some (Ok checked))
row_ok component r None e = not_empty _ [] e
row_ok component r (Some (Err fault)) e = not_empty _ [] e
row_ok component r (Some (Ok checked)) e = (checked, refl)

module _ (old : Project) (was : Outcomes) (judged : IsJudged old was) where
  there_is : (name text : List ℕ) → Contains old (name, text) → (o : Outcome) × (found was name ≡ Some o)
  there_is name text h = its_value (found was name) (judged.verdicts.whole name text h)

  -- a verdict is found
  pub verdict_found : (name : List ℕ) (o : Outcome) → Checks old name o → found was name ≡ Some o
  verdict_found name o h =
      let t = its_text old name (has_verdict old judged.once name o h) in
      let p = there_is name t.0 t.1 in
      p.1 ∙ ap (λ x. Some x) (verdict_one old judged.once name p.0 o (judged.verdicts.sound name p.0 p.1) h)

  -- what is found of a name is its result
  pub its_result : (name : List ℕ) (o : Option Outcome) → found was name ≡ o → IsResult old name o
  its_result name None e = by (has_text old name) refl
    where
      never : (o : Outcome) → found was name ≡ Some o → ⊥
      never o f = let g : Some o ≡ None = sym f ∙ e in cc

      by : (b : Bool) → has_text old name ≡ b → has_text old name ≡ false
      by false f = f
      by true f = let t = its_text old name f in let p = there_is name t.0 t.1 in absurd (never p.0 p.1)
  its_result name (Some o) e = judged.verdicts.sound name o e

  parts_were : (k : ℕ) (refs : List (Ref × Bool)) (parts : List (Option Outcome)) → AllZip (IsPart old (ChecksBy old k)) refs parts → parts ≡ outcomes_at was refs
  parts_were k [] [] h = refl
  parts_were k [] (p ∷ parts) h = absurd h
  parts_were k (r ∷ refs) [] h = absurd h
  parts_were k (r ∷ refs) (None ∷ parts) h =
      let here = nothing (found was r.0.name) refl in
      let rest = parts_were k refs parts h.1 in
      λ i. here i ∷ rest i
    where
      nothing : (o : Option Outcome) → found was r.0.name ≡ o → None ≡ found was r.0.name
      nothing None e = sym e
      nothing (Some o) e = unequal (has_text old r.0.name) (has_verdict old judged.once r.0.name o (judged.verdicts.sound r.0.name o e)) h.0
  parts_were k (r ∷ refs) (Some o ∷ parts) h =
      let here = sym (verdict_found r.0.name o (settled k h.0)) in
      let rest = parts_were k refs parts h.1 in
      λ i. here i ∷ rest i

  settled_up : (k : ℕ) (name : List ℕ) → IsSettledBy old k name → IsSettledBy old (suc k) name
  settled_up zero name h = absurd h
  settled_up (suc k) name h = (h.0, h.1, h.2, h.3, all (settled_up k) (references_in h.1) h.4)
    where
      all : ((n : List ℕ) → IsSettledBy old k n → IsSettledBy old (suc k) n) → (refs : List (Ref × Bool)) → AllByRecursion (λ (r : Ref × Bool). IsSettledBy old k r.0.name ⊎ (has_text old r.0.name ≡ false)) refs →
          AllByRecursion (λ (r : Ref × Bool). IsSettledBy old (suc k) r.0.name ⊎ (has_text old r.0.name ≡ false)) refs
      all up [] g = tt
      all up (r ∷ refs) g = (elim g.0 [ inl s ↦ inl (up r.0.name s) | inr none ↦ inr none ], all up refs g.1)

  settled_by_more : (j k : ℕ) (name : List ℕ) → IsSettledBy old k name → IsSettledBy old (j + k) name
  settled_by_more zero k name h = subst (λ n. IsSettledBy old n name) (nothing_more k) h
    where
      nothing_more : (n : ℕ) → n ≡ 0 + n
      nothing_more n = omega arith
  settled_by_more (suc j) k name h = subst (λ n. IsSettledBy old n name) (one_more j k) (settled_up (j + k) name (settled_by_more j k name h))
    where
      one_more : (a b : ℕ) → suc (a + b) ≡ suc a + b
      one_more a b = omega arith

  module _ (c : RawComponent) (now : Outcomes) (kept : List (List ℕ × Bool)) (steady : AreSteady was now kept) where
    same_parts : (refs : List (Ref × Bool)) → list_all (λ r. is_kept kept r.0.name) refs ≡ true → outcomes_at was refs ≡ outcomes_at now refs
    same_parts [] e = refl
    same_parts (r ∷ refs) e =
        let here = steady.same r.0.name (and_first (is_kept kept r.0.name) (list_all (λ x. is_kept kept x.0.name) refs) e) in
        let rest = same_parts refs (and_second (is_kept kept r.0.name) (list_all (λ x. is_kept kept x.0.name) refs) e) in
        λ i. here i ∷ rest i

    -- the references are settled, where their outcomes are components without fault
    all_settled : (refs : List (Ref × Bool)) → list_all (λ r. is_kept kept r.0.name) refs ≡ true → faults_at now (own_name c) refs ≡ [] →
        (k : ℕ) × AllByRecursion (λ (r : Ref × Bool). IsSettledBy old k r.0.name ⊎ (has_text old r.0.name ≡ false)) refs
    all_settled [] e f = (zero, tt)
    all_settled (r ∷ refs) e f =
        let both = both_empty (reference_row (own_name c) r (found now r.0.name)) (faults_at now (own_name c) refs) f in
        let ok = row_ok (own_name c) r (found now r.0.name) both.0 in
        let was_ok : found was r.0.name ≡ Some (Ok ok.0) = steady.same r.0.name (and_first (is_kept kept r.0.name) (list_all (λ x. is_kept kept x.0.name) refs) e) ∙ ok.1 in
        let rest = all_settled refs (and_second (is_kept kept r.0.name) (list_all (λ x. is_kept kept x.0.name) refs) e) both.1 in
        let one = by_verdict r.0.name ok.0 (judged.verdicts.sound r.0.name (Ok ok.0) was_ok) in (
          one.0 + rest.0,
          (inl (subst (λ n. IsSettledBy old n r.0.name) (swapped rest.0 one.0) (settled_by_more rest.0 one.0 r.0.name one.1)), more one.0 rest.0 refs rest.1),
        )
      where
        swapped : (a b : ℕ) → a + b ≡ b + a
        swapped a b = omega arith

        by_verdict : (name : List ℕ) (checked : Checked) → Checks old name (Ok checked) → (k : ℕ) × IsSettledBy old k name
        by_verdict name checked (settled k h) = (k, by_settled old judged.once k name (Ok checked) h)
        by_verdict name checked (cyclic fault h e) = absurd (never e)
          where
            never : Ok checked ≡ Err fault → ⊥
            never g = cc

        more : (j k : ℕ) (rs : List (Ref × Bool)) → AllByRecursion (λ (x : Ref × Bool). IsSettledBy old k x.0.name ⊎ (has_text old x.0.name ≡ false)) rs →
            AllByRecursion (λ (x : Ref × Bool). IsSettledBy old (j + k) x.0.name ⊎ (has_text old x.0.name ≡ false)) rs
        more j k [] g = tt
        more j k (x ∷ rs) g = (elim g.0 [ inl s ↦ inl (settled_by_more j k x.0.name s) | inr none ↦ inr none ], more j k rs g.1)

    -- The outcome of before stands, where the text and what the references give are as before.
    pub taken_over : (text : List ℕ) → Contains old (own_name c, text) → IsRead (own_name c) text (Ok c) → all_kept kept c ≡ true →
        None ≡ first_by_place (faults_at now (own_name c) (wanted_references c)) → (outcome : Outcome) → found was (own_name c) ≡ Some outcome → ConcludesIn c now outcome
    taken_over text there is kept_all none outcome e = by (judged.verdicts.sound (own_name c) outcome e)
      where
        by : Checks old (own_name c) outcome → ConcludesIn c now outcome
        by (settled zero h) = absurd h
        by (settled (suc k) h) =
            let reading = read_one old judged.once (own_name c) h.0 text h.1 (Ok c) h.2 there h.3 is in
            let g : ConcludesFrom old (ChecksBy old k) (Ok c) outcome = subst (λ x. ConcludesFrom old (ChecksBy old k) x outcome) reading h.4 in
            subst (λ ps. Concludes c ps outcome) (parts_were k (wanted_references c) g.0 g.1 ∙ same_parts (wanted_references c) (sym (kept_wanted kept c) ∙ kept_all)) g.2
        by (cyclic fault h f) =
            let s = all_settled (wanted_references c) (sym (kept_wanted kept c) ∙ kept_all) (none_first (faults_at now (own_name c) (wanted_references c)) (sym none)) in
            absurd (h.4 (suc s.0) (text, Ok c, there, is, s.1))

    -- a reference that isn't kept, where none has a fault
    one_unkept : (refs : List (Ref × Bool)) → faults_at now (own_name c) refs ≡ [] → list_all (λ r. is_kept kept r.0.name) refs ≡ false →
        (r : Ref × Bool) × (checked : Checked) × Contains refs r × (is_kept kept r.0.name ≡ false) × (found now r.0.name ≡ Some (Ok checked))
    one_unkept [] f e = absurd (never e)
      where
        never : true ≡ false → ⊥
        never h = cc
    one_unkept (r ∷ refs) f e = by (one_unkept refs) (is_kept kept r.0.name) refl e
      where
        both : (reference_row (own_name c) r (found now r.0.name) ≡ []) × (faults_at now (own_name c) refs ≡ [])
        both = both_empty (reference_row (own_name c) r (found now r.0.name)) (faults_at now (own_name c) refs) f

        by : (faults_at now (own_name c) refs ≡ [] → list_all (λ x. is_kept kept x.0.name) refs ≡ false →
            (x : Ref × Bool) × (checked : Checked) × Contains refs x × (is_kept kept x.0.name ≡ false) × (found now x.0.name ≡ Some (Ok checked))) →
            (b : Bool) → is_kept kept r.0.name ≡ b → (b && list_all (λ x. is_kept kept x.0.name) refs) ≡ false →
            (x : Ref × Bool) × (checked : Checked) × Contains (r ∷ refs) x × (is_kept kept x.0.name ≡ false) × (found now x.0.name ≡ Some (Ok checked))
        by rest true at g = let more = rest both.1 g in (more.0, more.1, later refs r more.0 more.2, more.3, more.4)
        by rest false at g = let ok = row_ok (own_name c) r (found now r.0.name) both.0 in (r, ok.0, (zero, omega arith, refl), at, ok.1)

    -- A component that is checked again may have moved.
    pub stale_moved : (new : Project) → IsDistinct bytes_eq (keys_of new) → IsComponentIn new c → (m : ℕ) → Sound new m now →
        None ≡ first_by_place (faults_at now (own_name c) (wanted_references c)) →
        (are_same (found old (own_name c)) (found new (own_name c)) && all_kept kept c) ≡ false → IsMoved old new (own_name c)
    stale_moved new once a m sound none e = by (are_same (found old (own_name c)) (found new (own_name c))) refl e
      where
        unlike : Contains old (own_name c, a.0) → are_same (found old (own_name c)) (found new (own_name c)) ≡ true
        unlike there =
            (λ i. are_same (found_text old judged.once (own_name c) a.0 there i) (found_text new once (own_name c) a.0 a.1 i)) ∙ itself a.0

        by : (b : Bool) → are_same (found old (own_name c)) (found new (own_name c)) ≡ b → (b && all_kept kept c) ≡ false → IsMoved old new (own_name c)
        by false at g = (a.0, a.1, inl (λ there. unequal (are_same (found old (own_name c)) (found new (own_name c))) (unlike there) at))
        by true at g =
            let r = one_unkept (wanted_references c) (none_first (faults_at now (own_name c) (wanted_references c)) (sym none)) (sym (kept_wanted kept c) ∙ g) in
            let name = r.0.0.name in
            let result : IsResult new name (found now name) = subst (IsResult new name) (sym r.4) (settled m (sound name (Ok r.1) r.4)) in
            (a.0, a.1, inr (name, (a.0, Ok c, r.0, a.1, a.2, r.2, refl), (found was name, found now name, its_result name (found was name) refl, result, steady.other name r.1 r.4 r.3)))

  -- two texts that are the same
  pub same_texts : (new : Project) (name : List ℕ) → are_same (found old name) (found new name) ≡ true → (text : List ℕ) × (found old name ≡ Some text) × (found new name ≡ Some text)
  same_texts new name e = by (found old name) (found new name) refl refl e
    where
      never : {A : Type 0} → false ≡ true → A
      never h = absurd (no h)
        where
          no : false ≡ true → ⊥
          no g = cc

      by : (a b : Option (List ℕ)) → found old name ≡ a → found new name ≡ b → are_same a b ≡ true → (text : List ℕ) × (found old name ≡ Some text) × (found new name ≡ Some text)
      by None b f g h = never h
      by (Some x) None f g h = never h
      by (Some x) (Some y) f g h = (x, f, g ∙ ap (λ t. Some t) (sym (same x y h)))

  -- the text of before of a component that has its text of before
  pub text_before : (new : Project) → IsDistinct bytes_eq (keys_of new) → (c : RawComponent) → IsComponentIn new c → are_same (found old (own_name c)) (found new (own_name c)) ≡ true →
      (text : List ℕ) × Contains old (own_name c, text) × IsRead (own_name c) text (Ok c)
  text_before new once c a e =
      let t = same_texts new (own_name c) e in
      let is : t.0 ≡ a.0 = same_some t.0 a.0 (sym t.2 ∙ found_text new once (own_name c) a.0 a.1) in
      (t.0, text_found old (own_name c) t.0 t.1, subst (λ x. IsRead (own_name c) x (Ok c)) (sym is) a.2)

  -- The obligations of before stand, where text, outcome and abstraction are as before.
  pub obligations_kept : (new : Project) → IsDistinct bytes_eq (keys_of new) → (c : RawComponent) (now : Outcomes) (kept : List (List ℕ × Bool)) → AreSteady was now kept →
      IsComponentIn new c → keeps_obligations old new kept c ≡ true → (checked : Checked) → found now (own_name c) ≡ Some (Ok checked) →
      (list : List Obligation) → Gives old (own_name c) list → list ≡ obligations_of checked (abstraction_in now (refined_in c))
  obligations_kept new once c now kept steady a e checked f list given = is ∙ ap (obligations_of checked) (abstraction (refined_in c) kept_abstraction)
    where
      kept_both : (are_same (found old (own_name c)) (found new (own_name c)) && is_kept kept (own_name c)) ≡ true
      kept_both = and_first (are_same (found old (own_name c)) (found new (own_name c)) && is_kept kept (own_name c)) (list_all (λ r. is_kept kept r.name) (option_to_list (refined_in c))) e

      kept_text : are_same (found old (own_name c)) (found new (own_name c)) ≡ true
      kept_text = and_first (are_same (found old (own_name c)) (found new (own_name c))) (is_kept kept (own_name c)) kept_both

      kept_name : is_kept kept (own_name c) ≡ true
      kept_name = and_second (are_same (found old (own_name c)) (found new (own_name c))) (is_kept kept (own_name c)) kept_both

      kept_abstraction : list_all (λ r. is_kept kept r.name) (option_to_list (refined_in c)) ≡ true
      kept_abstraction = and_second (are_same (found old (own_name c)) (found new (own_name c)) && is_kept kept (own_name c)) (list_all (λ r. is_kept kept r.name) (option_to_list (refined_in c))) e

      t : (text : List ℕ) × Contains old (own_name c, text) × IsRead (own_name c) text (Ok c)
      t = text_before new once c a kept_text

      verdict : Checks old (own_name c) (Ok checked)
      verdict = judged.verdicts.sound (own_name c) (Ok checked) (steady.same (own_name c) kept_name ∙ f)

      is : list ≡ obligations_of checked (abstraction_in was (refined_in c))
      is = gives_one old judged.once (own_name c) list (obligations_of checked (abstraction_in was (refined_in c))) given
          (inr (
            t.0,
            c,
            checked,
            abstraction_in was (refined_in c),
            t.1,
            t.2,
            verdict,
            abstraction_is old judged.once was judged.verdicts (own_name c) t.0 c checked t.1 t.2 verdict (refined_in c) refl,
            refl,
          ))

      abstraction : (refines : Option Ref) → list_all (λ r. is_kept kept r.name) (option_to_list refines) ≡ true → abstraction_in was refines ≡ abstraction_in now refines
      abstraction None g = refl
      abstraction (Some r) g = ap machine_in_outcome (steady.same r.name (and_first (is_kept kept r.name) true g))

module _ (old : Project) (was : Outcomes) (judged : IsJudged old was) (new : Project) (once : IsDistinct bytes_eq (keys_of new)) (c : RawComponent) (component : IsComponentIn new c)
    (kept : List (List ℕ × Bool)) (stands : (are_same (found old (own_name c)) (found new (own_name c)) && all_kept kept c) ≡ true) where
  before_there : (text : List ℕ) × Contains old (own_name c, text) × IsRead (own_name c) text (Ok c)
  before_there = text_before old was judged new once c component (and_first (are_same (found old (own_name c)) (found new (own_name c))) (all_kept kept c) stands)

  -- a component that stands had an outcome
  pub stands_there : IsSome (found was (own_name c))
  stands_there = judged.verdicts.whole (own_name c) before_there.0 before_there.1

  -- and still has it
  pub stands_still : (now : Outcomes) → AreSteady was now kept → None ≡ first_by_place (faults_at now (own_name c) (wanted_references c)) → (outcome : Outcome) →
      found was (own_name c) ≡ Some outcome → ConcludesIn c now outcome
  stands_still now steady none outcome e =
      taken_over old was judged c now kept steady before_there.0 before_there.1 before_there.2
      (and_second (are_same (found old (own_name c)) (found new (own_name c))) (all_kept kept c) stands) none outcome e
