-- A component has one verdict.
use Rattle.std.proofs.Common.{◌≡◌, ◌∙◌, ◌⊎◌, inl, inr, sym, ap, subst, refl, ℕ, zero, suc, Bool, true, false, List, [], ◌∷◌, Option, Some, None, bytes_eq, is_some}
use Rattle.std.specs.Prelude.{Ok, Err, MatchOption}
use Rattle.std.specs.List.{Contains, AllZip, AllByRecursion, IsDistinct, filter_map}
use Rattle.std.specs.Map.{keys_of, lookup}
use Rattle.std.proofs.lemmas.Map.Views.{lookup-from_Contains}
use Rattle.std.proofs.lemmas.Map.Made.{is_some-lookup}
use Rattle.std.proofs.lemmas.Cmp.{lists_equiv, nat_eq_equiv}
use Rattle.formula_core.specs.declared.raw.Ref.{Ref}
use Rattle.model_core.specs.Components.{heading}
use Rattle.model_core.specs.Faults.{first_by_place, fault_at}
use Rattle.model_core.specs.declared.fault.Fault.{Fault}
use Rattle.model_core.specs.declared.fault.FaultKind.TheVariants as kind
use Rattle.model_core.specs.declared.component.RawComponent.{RawComponent}
use Rattle.component_text.specs.Spelled.{IsRead}
use Rattle.component_text.proofs.Readings.{one_reading}
use Rattle.check_rules.specs.Contexts.{Outcome}
use Rattle.check_rules.specs.Components.{ChecksBeside}
use Rattle.static_check.proofs.OneOutcome.{beside_one}
use Rattle.build_core.specs.Projects.{Project, Reading, has_text, wanted_references, references_in, reference_faults, checked_in, Concludes, IsPart, ConcludesFrom, ChecksBy, IsSettledBy, IsCyclic, Checks, settled, cyclic}
use Rattle.build_core.specs.Laws.{HasOneVerdict}

one_of : (first : Option Fault) (P Q : Type 0) (one two : Outcome) → (P → Q → one ≡ two) →
    MatchOption first P (λ fault. one ≡ Err fault) → MatchOption first Q (λ fault. two ≡ Err fault) → one ≡ two
one_of None P Q one two k a b = k a b
one_of (Some fault) P Q one two k a b = a ∙ sym b

concludes_one : (c : RawComponent) (parts : List (Option Outcome)) (one two : Outcome) → Concludes c parts one → Concludes c parts two → one ≡ two
concludes_one c parts one two a b =
    one_of (first_by_place (reference_faults (heading c).name (wanted_references c) parts)) (ChecksBeside c (filter_map checked_in parts) one) (ChecksBeside c (filter_map checked_in parts) two) one two
    (beside_one c (filter_map checked_in parts) one two) a b

pub same_some : {A : Type 0} (x y : A) → Some x ≡ Some y → x ≡ y
same_some x y e = cc

pub unequal : {A : Type 0} (b : Bool) → b ≡ true → b ≡ false → A
unequal b e f = absurd (never (sym f ∙ e))
  where
    never : false ≡ true → ⊥
    never h = cc

abbrev read_ok : RawComponent → Reading
read_ok c = Ok c

abbrev component_or : RawComponent → Reading → RawComponent
component_or c (Ok d) = d
component_or c (Err fault) = c

-- what is read is one component
pub same_component : (c d : RawComponent) → read_ok c ≡ read_ok d → c ≡ d
same_component c d e = ap (component_or c) e

pub not_both : {A : Type 0} (c : RawComponent) (fault : Fault) → read_ok c ≡ Err fault → A
not_both c fault e = absurd (never e)
  where
    never : read_ok c ≡ Err fault → ⊥
    never h = cc

module _ (project : Project) (distinct : IsDistinct bytes_eq (keys_of project)) where
  pub looked_up : (name text : List ℕ) → Contains project (name, text) → lookup (bytes_eq name) project ≡ Some text
  looked_up name text h = lookup-from_Contains (lists_equiv nat_eq_equiv) name text project distinct h

  same_text : (name one two : List ℕ) → Contains project (name, one) → Contains project (name, two) → one ≡ two
  same_text name one two a b = same_some one two (sym (looked_up name one a) ∙ looked_up name two b)

  pub is_there : (name text : List ℕ) → Contains project (name, text) → has_text project name ≡ true
  is_there name text h = sym (is_some-lookup (bytes_eq name) project) ∙ ap is_some (looked_up name text h)

  -- a component has one reading
  pub read_one : (name s t : List ℕ) (one two : Reading) → Contains project (name, s) → Contains project (name, t) → IsRead name s one → IsRead name t two → one ≡ two
  read_one name s t one two a b f g = one_reading name s one two f (subst (λ x. IsRead name x two) (same_text name t s b a) g)

  has_one : (k : ℕ) (name : List ℕ) (outcome : Outcome) → ChecksBy project k name outcome → has_text project name ≡ true
  has_one zero name outcome h = absurd h
  has_one (suc k) name outcome h = is_there name h.0 h.2

  abbrev OneIn : ℕ → ℕ → Type 0
  OneIn k j = (name : List ℕ) (one two : Outcome) → ChecksBy project k name one → ChecksBy project j name two → one ≡ two

  parts_one : (k j : ℕ) (refs : List (Ref × Bool)) (p q : List (Option Outcome)) → OneIn k j →
      AllZip (IsPart project (ChecksBy project k)) refs p → AllZip (IsPart project (ChecksBy project j)) refs q → p ≡ q
  parts_one k j [] [] [] one a b = refl
  parts_one k j [] [] (y ∷ q) one a b = absurd b
  parts_one k j [] (x ∷ p) q one a b = absurd a
  parts_one k j (r ∷ refs) [] q one a b = absurd a
  parts_one k j (r ∷ refs) (x ∷ p) [] one a b = absurd b
  parts_one k j (r ∷ refs) (None ∷ p) (None ∷ q) one a b = ap (λ ps. None ∷ ps) (parts_one k j refs p q one a.1 b.1)
  parts_one k j (r ∷ refs) (None ∷ p) (Some y ∷ q) one a b = unequal (has_text project r.0.name) (has_one j r.0.name y b.0) a.0
  parts_one k j (r ∷ refs) (Some x ∷ p) (None ∷ q) one a b = unequal (has_text project r.0.name) (has_one k r.0.name x a.0) b.0
  parts_one k j (r ∷ refs) (Some x ∷ p) (Some y ∷ q) one a b =
      let same = one r.0.name x y a.0 b.0 in
      let others = parts_one k j refs p q one a.1 b.1 in
      λ i. Some (same i) ∷ others i

  from_one : (k j : ℕ) (reading : Reading) (one two : Outcome) → OneIn k j →
      ConcludesFrom project (ChecksBy project k) reading one → ConcludesFrom project (ChecksBy project j) reading two → one ≡ two
  from_one k j (Err fault) one two h a b = a ∙ sym b
  from_one k j (Ok c) one two h a b =
      concludes_one c a.0 one two a.2 (subst (λ ps. Concludes c ps two) (sym (parts_one k j (wanted_references c) a.0 b.0 h a.1 b.1)) b.2)

  by_one : (k j : ℕ) → OneIn k j
  by_one zero j name one two a b = absurd a
  by_one (suc k) zero name one two a b = absurd b
  by_one (suc k) (suc j) name one two a b =
      from_one k j a.1 one two (by_one k j) a.4
      (subst (λ r. ConcludesFrom project (ChecksBy project j) r two) (read_one name b.0 a.0 b.1 a.1 b.2 a.2 b.3 a.3) b.4)

  settled_parts : (k : ℕ) (refs : List (Ref × Bool)) (p : List (Option Outcome)) → ((name : List ℕ) (o : Outcome) → ChecksBy project k name o → IsSettledBy project k name) →
      AllZip (IsPart project (ChecksBy project k)) refs p → AllByRecursion (λ r. IsSettledBy project k r.0.name ⊎ (has_text project r.0.name ≡ false)) refs
  settled_parts k [] p h a = tt
  settled_parts k (r ∷ refs) [] h a = absurd a
  settled_parts k (r ∷ refs) (None ∷ p) h a = (inr a.0, settled_parts k refs p h a.1)
  settled_parts k (r ∷ refs) (Some x ∷ p) h a = (inl (h r.0.name x a.0), settled_parts k refs p h a.1)

  settled_from : (k : ℕ) (reading : Reading) (outcome : Outcome) → ((name : List ℕ) (o : Outcome) → ChecksBy project k name o → IsSettledBy project k name) →
      ConcludesFrom project (ChecksBy project k) reading outcome → AllByRecursion (λ r. IsSettledBy project k r.0.name ⊎ (has_text project r.0.name ≡ false)) (references_in reading)
  settled_from k (Err fault) outcome h a = tt
  settled_from k (Ok c) outcome h a = settled_parts k (wanted_references c) a.0 h a.1

  pub by_settled : (k : ℕ) (name : List ℕ) (outcome : Outcome) → ChecksBy project k name outcome → IsSettledBy project k name
  by_settled zero name outcome a = absurd a
  by_settled (suc k) name outcome a = (a.0, a.1, a.2, a.3, settled_from k a.1 outcome (by_settled k) a.4)

  cyclic_one : (name : List ℕ) (f g : Fault) → IsCyclic project name f → IsCyclic project name g → f ≡ g
  cyclic_one name f g a b =
      let same = same_component a.1 b.1 (read_one name a.0 b.0 (Ok a.1) (Ok b.1) a.2 b.2 a.3 b.3) in
      a.5 ∙ ap (λ c. fault_at name kind.Cyclic (heading c).place []) same ∙ sym b.5

  pub verdict_one : (name : List ℕ) (one two : Outcome) → Checks project name one → Checks project name two → one ≡ two
  verdict_one name one two (settled k a) (settled j b) = by_one k j name one two a b
  verdict_one name one two (settled k a) (cyclic g b e) = absurd (b.4 k (by_settled k name one a))
  verdict_one name one two (cyclic f a d) (settled j b) = absurd (a.4 j (by_settled j name two b))
  verdict_one name one two (cyclic f a d) (cyclic g b e) = d ∙ ap (λ h. Err h) (cyclic_one name f g a b) ∙ sym e

pub one_verdict : HasOneVerdict
one_verdict project distinct name one two a b = verdict_one project distinct name one two a b
