-- One text more is read, and one component more is placed.
use Rattle.std.proofs.Common.{◌≡◌, ◌∙◌, ◌⊎◌, inl, inr, sym, ap, subst, refl, ℕ, ◌<◌, ◌≤◌, ◌+◌, true, List, [], ◌∷◌, ◌++◌, length, take, get_or, arith}
use Rattle.std.specs.Prelude.{Ok, Err, IsSome}
use Rattle.std.specs.List.{Contains, AllByRecursion, HoldsAt}
use Rattle.std.proofs.lemmas.List.{length-append, length-take-le, get_or_push, get_or_append_left}
use Rattle.std.proofs.lemmas.List.Elements.{Contains-append_left, Contains-push, Contains-push_cases}
use Rattle.model_core.proofs.Firsts.{taken_more}
use Rattle.model_core.specs.declared.component.RawComponent.{RawComponent}
use Rattle.component_text.specs.Spelled.{IsRead}
use Rattle.check_rules.specs.Contexts.{Outcome}
use Rattle.static_check.specs.Settling.{own_name, has_component}
use Rattle.build_core.specs.Projects.{Project, Reading}
use Rattle.build_core.specs.Private.{Outcomes, found, Sets, IsComponentIn, IsFaultIn, AreRead, Collects, IsIndex}
use Rattle.build_core.proofs.Found.{set_there, set_keeps, set_cases, is_found, has_own, named_one}

module _ (done : Project) (name text : List ℕ) where
  abbrev more : Project
  more = done ++ (name, text) ∷ []

  kept_component : (c : RawComponent) → IsComponentIn done c → IsComponentIn more c
  kept_component c h = (h.0, Contains-append_left done ((name, text) ∷ []) (own_name c, h.0) h.1, h.2)

  kept_fault : (n : List ℕ) (o : Outcome) → IsFaultIn done n o → IsFaultIn more n o
  kept_fault n o h = (h.0, h.1, Contains-append_left done ((name, text) ∷ []) (n, h.0) h.2, h.3, h.4)

  has_more : (components : List RawComponent) (c : RawComponent) (n : List ℕ) → has_component components n ≡ true → has_component (components ++ c ∷ []) n ≡ true
  has_more components c n e =
      let d = named_one components n e in
      subst (λ m. has_component (components ++ c ∷ []) m ≡ true) d.2 (has_own (components ++ c ∷ []) d.0 (Contains-append_left components (c ∷ []) d.0 d.1))

  abbrev entry : List ℕ → List ℕ → List ℕ × List ℕ
  entry n t = (n, t)

  same_names : (n t : List ℕ) → entry name text ≡ entry n t → name ≡ n
  same_names n t e = ap (λ p. p.0) e

  pub one_read : (components : List RawComponent) (outcomes : Outcomes) (reading : Reading) (others : List RawComponent) (next : Outcomes) → AreRead done components outcomes → IsRead name text reading → Collects name reading components outcomes others next → AreRead more others next
  one_read components outcomes (Ok c) others next all is adds =
      let named = is.named in
      subst (λ cs. AreRead more cs next) (sym adds.0) (subst (λ os. AreRead more (components ++ c ∷ []) os) (sym adds.1) (record {
        read = λ d in'. elim (Contains-push_cases components c d in') [
          | inl old ↦ kept_component d (all.read d old)
          | inr here ↦ subst (IsComponentIn more) here (text, subst (λ n. Contains more (entry n text)) (sym named) (Contains-push done (entry name text)), subst (λ n. IsRead n text (Ok c)) (sym named) is)
        ];
        faulted = λ n o e. kept_fault n o (all.faulted n o e);
        all = λ n t in'. elim (Contains-push_cases done (name, text) (n, t) in') [
          | inl old ↦ elim (all.all n t old) [ inl has_it ↦ inl (has_more components c n has_it) | inr there ↦ inr there ]
          | inr here ↦ inl (subst (λ m. has_component (components ++ c ∷ []) m ≡ true) (named ∙ same_names n t here) (has_own (components ++ c ∷ []) c (Contains-push components c)))
        ];
        few = omega (arith, length-append components (c ∷ []), length-append done ((name, text) ∷ []), all.few);
      }))
  one_read components outcomes (Err fault) others next all is adds =
      subst (λ cs. AreRead more cs next) (sym adds.0) (record {
        read = λ d in'. kept_component d (all.read d in');
        faulted = λ n o e. elim (set_cases outcomes name (Err fault) next adds.1 n o e) [
          | inl here ↦ subst (λ m. IsFaultIn more m o) here.0 (text, fault, Contains-push done (name, text), is, sym here.1)
          | inr old ↦ kept_fault n o (all.faulted n o old)
        ];
        all = λ n t in'. elim (Contains-push_cases done (name, text) (n, t) in') [
          | inl old ↦ elim (all.all n t old) [ inl has_it ↦ inl has_it | inr there ↦ inr (set_keeps outcomes name (Err fault) next adds.1 n there) ]
          | inr here ↦ inr (subst (λ m. IsSome (found next m)) (same_names n t here) (is_found (found next name) (Err fault) (set_there outcomes name (Err fault) next adds.1)))
        ];
        few = omega (arith, length-append done ((name, text) ∷ []), all.few);
      })

-- the text of an entry of a project of short texts is short
pub entry_short : (done rest project : Project) (e : List ℕ × List ℕ) → AllByRecursion (λ (entry : List ℕ × List ℕ). length entry.1 ≤ 65536) project → done ++ e ∷ rest ≡ project → length e.1 ≤ 65536
entry_short done rest project e all is = by done (subst (AllByRecursion (λ (entry : List ℕ × List ℕ). length entry.1 ≤ 65536)) (sym is) all)
  where
    by : (xs : Project) → AllByRecursion (λ (entry : List ℕ × List ℕ). length entry.1 ≤ 65536) (xs ++ e ∷ rest) → length e.1 ≤ 65536
    by [] h = h.0
    by (x ∷ xs) h = by xs h.1

-- INDEX

pub one_placed : (components : List RawComponent) (i : ℕ) (c : RawComponent) (index next : List (List ℕ × ℕ)) → i < length components → c ≡ get_or components i c →
    IsIndex (take i components) index → Sets index (own_name c) i next → IsIndex (take (i + 1) components) next
one_placed components i c index next lt is before sets =
    subst (λ cs. IsIndex cs next) (sym (taken_more components i c lt is)) (record {
      place = λ n j e. elim (set_cases index (own_name c) i next sets n j e) [
        | inl here ↦ subst (λ k. (k < length (front ++ c ∷ [])) × HoldsAt (λ d. own_name d ≡ n) (front ++ c ∷ []) k) (count ∙ here.1) (last, subst (λ m. HoldsAt (λ d. own_name d ≡ m) (front ++ c ∷ []) (length front)) here.0 (at_last))
        | inr old ↦ let p = before.place n j old in (omega (arith, p.0, length-append front (c ∷ [])), sooner j n p.0 p.1)
      ];
      all = λ n e. elim (last_or n e) [
        | inl old ↦ set_keeps index (own_name c) i next sets n (before.all n old)
        | inr here ↦ subst (λ m. IsSome (found next m)) here (is_found (found next (own_name c)) i (set_there index (own_name c) i next sets))
      ];
    })
  where
    front : List RawComponent
    front = take i components

    count : length (take i components) ≡ i
    count = length-take-le i components (omega (arith, lt))

    last : length (take i components) < length (take i components ++ c ∷ [])
    last = omega (arith, length-append (take i components) (c ∷ []))

    at_last : HoldsAt (λ d. own_name d ≡ own_name c) (take i components ++ c ∷ []) (length (take i components))
    at_last = λ d. ap own_name (get_or_push (take i components) c d (length (take i components)) refl)

    sooner : (j : ℕ) (n : List ℕ) → j < length (take i components) → HoldsAt (λ d. own_name d ≡ n) (take i components) j → HoldsAt (λ d. own_name d ≡ n) (take i components ++ c ∷ []) j
    sooner j n within holds = λ d. ap own_name (get_or_append_left (take i components) (c ∷ []) d j within) ∙ holds d

    last_or : (n : List ℕ) → has_component (take i components ++ c ∷ []) n ≡ true → (has_component (take i components) n ≡ true) ⊎ (own_name c ≡ n)
    last_or n e =
        let d = named_one (take i components ++ c ∷ []) n e in
        elim (Contains-push_cases (take i components) c d.0 d.1) [
          | inl old ↦ inl (subst (λ m. has_component (take i components) m ≡ true) d.2 (has_own (take i components) d.0 old))
          | inr here ↦ inr (ap own_name here ∙ d.2)
        ]
