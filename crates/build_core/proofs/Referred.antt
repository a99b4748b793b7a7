-- References: their faults, and what stands at those without fault.
use Rattle.std.proofs.Common.{◌≡◌, ◌∙◌, sym, ap, refl, ℕ, suc, Bool, true, false, cond, List, [], ◌∷◌, ◌++◌, map, length, take, get_or, ◌<◌, ◌+◌, Option, Some, None, append_assoc}
use Rattle.std.specs.Prelude.{Ok, Err}
use Rattle.std.specs.List.{filter_map}
use Rattle.std.specs.Option.{option_to_list}
use Rattle.std.proofs.lemmas.List.Elements.{filter_map-append}
use Rattle.model_core.specs.Components.{heading}
use Rattle.formula_core.specs.declared.raw.Ref.{Ref}
use Rattle.model_core.specs.Each.{for_each}
use Rattle.model_core.specs.Faults.{comes_before, earlier, first_by_place}
use Rattle.model_core.proofs.Firsts.{first_append, taken_more}
use Rattle.model_core.specs.declared.fault.Fault.{Fault}
use Rattle.model_core.specs.declared.component.RawComponent.{RawComponent}
use Rattle.model_core.specs.declared.component.RawComponent.TheVariants as raw
use Rattle.model_core.specs.declared.checked.Checked.{Checked}
use Rattle.model_core.specs.declared.checked.Checked.TheVariants.{Context, Machine}
use Rattle.model_core.specs.declared.checked.CheckedContext.{CheckedContext}
use Rattle.model_core.specs.declared.checked.CheckedMachine.{CheckedMachine}
use Rattle.check_rules.specs.Components.{AreByName}
use Rattle.check_rules.specs.Contexts.{Outcome}
use Rattle.static_check.specs.Parts.{ArePartsOf}
use Rattle.build_core.specs.Projects.{wanting, wanted_references, reference_row, reference_faults, checked_in}
use Rattle.build_core.specs.Private.{Outcomes, found, outcomes_at, faults_at, parts_at}

-- the faults of references, by what is found
pub faults_found : (outcomes : Outcomes) (component : List ℕ) (refs : List (Ref × Bool)) → reference_faults component refs (outcomes_at outcomes refs) ≡ faults_at outcomes component refs
faults_found outcomes component [] = refl
faults_found outcomes component (r ∷ refs) = ap (λ rest. reference_row component r (found outcomes r.0.name) ++ rest) (faults_found outcomes component refs)

some_none : {A X : Type 0} (x : X) → Some x ≡ None → A
some_none x e = absurd (never e)
  where
    never : Some x ≡ None → ⊥
    never h = cc

-- where there is no first fault, there is none
pub none_first : (faults : List Fault) → first_by_place faults ≡ None → faults ≡ []
none_first [] e = refl
none_first (f ∷ faults) e = by (first_by_place faults) e
  where
    chosen : (b : Bool) (g : Fault) → cond b (Some g) (Some f) ≡ None → f ∷ faults ≡ []
    chosen true g h = some_none g h
    chosen false g h = some_none f h

    by : (o : Option Fault) → earlier (Some f) o ≡ None → f ∷ faults ≡ []
    by None h = some_none f h
    by (Some g) h = chosen (comes_before g f) g h

pub both_empty : {X : Type 0} (xs ys : List X) → xs ++ ys ≡ [] → (xs ≡ []) × (ys ≡ [])
both_empty [] ys e = (refl, e)
both_empty (x ∷ xs) ys e = absurd (never e)
  where
    never : x ∷ (xs ++ ys) ≡ [] → ⊥
    never h = cc

pub not_empty : {A X : Type 0} (x : X) (xs : List X) → x ∷ xs ≡ [] → A
not_empty x xs e = absurd (never e)
  where
    never : x ∷ xs ≡ [] → ⊥
    never h = cc

-- WHAT STANDS AT REFERENCES WITHOUT FAULT

-- a machine, at a reference that wants one
pub machine_there : (component : List ℕ) (r : Ref) (o : Option Outcome) → reference_row component (r, false) o ≡ [] → (m : CheckedMachine) × (o ≡ Some (Ok (Machine m)))
machine_there component r None e = not_empty _ [] e
machine_there component r (Some (Err fault)) e = not_empty _ [] e
machine_there component r (Some (Ok (Context c))) e = not_empty _ [] e
machine_there component r (Some (Ok (Machine m))) e = (m, refl)

context_there : (component : List ℕ) (r : Ref) (o : Option Outcome) → reference_row component (r, true) o ≡ [] → (c : CheckedContext) × (o ≡ Some (Ok (Context c)))
context_there component r None e = not_empty _ [] e
context_there component r (Some (Err fault)) e = not_empty _ [] e
context_there component r (Some (Ok (Context c))) e = (c, refl)
context_there component r (Some (Ok (Machine m))) e = not_empty _ [] e

-- the context with which a component ends
abbrev ended_in : Option Outcome → Option CheckedContext
ended_in (Some (Ok (Context c))) = Some c
ended_in _ = None

-- contexts, at references that want them
contexts_found : (outcomes : Outcomes) (component : List ℕ) (refs : List Ref) → faults_at outcomes component (wanting true refs) ≡ [] →
    (contexts : List CheckedContext) × (parts_at outcomes (wanting true refs) ≡ map (λ c. Context c) contexts) × (map Some contexts ≡ map (λ r. ended_in (found outcomes r.name)) refs)
contexts_found outcomes component [] e = ([], refl, refl)
contexts_found outcomes component (r ∷ refs) e =
    let both = both_empty (reference_row component (r, true) (found outcomes r.name)) (faults_at outcomes component (wanting true refs)) e in
    let here = context_there component r (found outcomes r.name) both.0 in
    let rest = contexts_found outcomes component refs both.1 in (
      here.0 ∷ rest.0,
      ap (λ o. filter_map checked_in (o ∷ outcomes_at outcomes (wanting true refs))) here.1 ∙ ap (λ ps. Context here.0 ∷ ps) rest.1,
      (λ i. sym (ap ended_in here.1) i ∷ rest.2 i),
    )

contexts_there : (outcomes : Outcomes) (component : List ℕ) (refs : List Ref) → faults_at outcomes component (wanting true refs) ≡ [] →
    (contexts : List CheckedContext) × (parts_at outcomes (wanting true refs) ≡ map (λ c. Context c) contexts) × AreByName refs contexts
contexts_there outcomes component refs e =
    let there = contexts_found outcomes component refs e in (there.0, there.1, ((λ name. ended_in (found outcomes name)), there.2))

-- parts without fault are those that are wanted
pub parts_wanted : (outcomes : Outcomes) (component : List ℕ) (c : RawComponent) → faults_at outcomes component (wanted_references c) ≡ [] → ArePartsOf c (parts_at outcomes (wanted_references c))
parts_wanted outcomes component (raw.Context name extends sets constants axioms) e = contexts_there outcomes component extends e
parts_wanted outcomes component (raw.Machine name None sees variables invariants variant events) e =
    (None, parts_at outcomes (wanting true sees), refl, refl, contexts_there outcomes component sees e)
parts_wanted outcomes component (raw.Machine name (Some r) sees variables invariants variant events) e =
    let both = both_empty (reference_row component (r, false) (found outcomes r.name)) (faults_at outcomes component (wanting true sees)) e in
    let here = machine_there component r (found outcomes r.name) both.0 in (
      Some here.0,
      parts_at outcomes (wanting true sees),
      refl,
      ap (λ o. filter_map checked_in (o ∷ outcomes_at outcomes (wanting true sees))) here.1,
      contexts_there outcomes component sees both.1,
    )

-- STEPS OF LOOPS

pub for_each_more : {X Y : Type 0} (rows : X → List Y) (xs : List X) (x : X) → for_each rows (xs ++ x ∷ []) ≡ for_each rows xs ++ rows x
for_each_more rows [] x = append_nil (rows x)
  where
    append_nil : {Z : Type 0} (zs : List Z) → zs ++ [] ≡ zs
    append_nil [] = refl
    append_nil (z ∷ zs) = ap (λ ws. z ∷ ws) (append_nil zs)
for_each_more rows (y ∷ xs) x = ap (λ rest. rows y ++ rest) (for_each_more rows xs x) ∙ sym (append_assoc (rows y) (for_each rows xs) (rows x))

wanting_more : (context : Bool) (refs : List Ref) (r : Ref) → wanting context (refs ++ r ∷ []) ≡ wanting context refs ++ (r, context) ∷ []
wanting_more context [] r = refl
wanting_more context (x ∷ refs) r = ap (λ rest. (x, context) ∷ rest) (wanting_more context refs r)

one_fault : (o : Option Fault) → first_by_place (option_to_list o) ≡ o
one_fault None = refl
one_fault (Some f) = refl

-- the first fault of one or none
pub first_one : (o : Option Fault) (faults : List Fault) → option_to_list o ≡ faults → o ≡ first_by_place faults
first_one o faults e = sym (one_fault o) ∙ ap first_by_place e

for_each_both : {X Y : Type 0} (rows : X → List Y) (xs ys : List X) → for_each rows (xs ++ ys) ≡ for_each rows xs ++ for_each rows ys
for_each_both rows [] ys = refl
for_each_both rows (x ∷ xs) ys = ap (λ rest. rows x ++ rest) (for_each_both rows xs ys) ∙ sym (append_assoc (rows x) (for_each rows xs) (for_each rows ys))

module _ (outcomes : Outcomes) where
  -- the first fault of one reference more
  pub first_reference : (component : List ℕ) (context : Bool) (refs : List Ref) (i : ℕ) (r : Ref) (first here : Option Fault) → i < length refs → r ≡ get_or refs i r →
      first ≡ first_by_place (faults_at outcomes component (wanting context (take i refs))) → option_to_list here ≡ reference_row component (r, context) (found outcomes r.name) →
      earlier first here ≡ first_by_place (faults_at outcomes component (wanting context (take (i + 1) refs)))
  first_reference component context refs i r first here lt is e f =
      ap (λ a. earlier a here) e ∙ ap (earlier (first_by_place (faults_at outcomes component (wanting context (take i refs))))) (first_one here (reference_row component (r, context) (found outcomes r.name)) f)
      ∙ sym (first_append (faults_at outcomes component (wanting context (take i refs))) (reference_row component (r, context) (found outcomes r.name)))
      ∙ ap first_by_place (sym (for_each_more (λ (x : Ref × Bool). reference_row component x (found outcomes x.0.name)) (wanting context (take i refs)) (r, context)))
      ∙ ap (λ rs. first_by_place (faults_at outcomes component rs)) (sym (wanting_more context (take i refs) r))
      ∙ ap (λ rs. first_by_place (faults_at outcomes component (wanting context rs))) (sym (taken_more refs i r lt is))

  first_both : (component : List ℕ) (xs ys : List (Ref × Bool)) (a b : Option Fault) → a ≡ first_by_place (faults_at outcomes component xs) → b ≡ first_by_place (faults_at outcomes component ys) →
      earlier a b ≡ first_by_place (faults_at outcomes component (xs ++ ys))
  first_both component xs ys a b e f =
      ap (λ o. earlier o b) e ∙ ap (earlier (first_by_place (faults_at outcomes component xs))) f
      ∙ sym (first_append (faults_at outcomes component xs) (faults_at outcomes component ys))
      ∙ ap first_by_place (sym (for_each_both (λ (x : Ref × Bool). reference_row component x (found outcomes x.0.name)) xs ys))

  -- the first fault of a machine's references
  pub machine_first : (m c : RawComponent) (component : List ℕ) (refined seen : List (Ref × Bool)) (a b : Option Fault) → c ≡ m → component ≡ (heading c).name → wanted_references m ≡ refined ++ seen →
      a ≡ first_by_place (faults_at outcomes component refined) → b ≡ first_by_place (faults_at outcomes component seen) →
      earlier a b ≡ first_by_place (faults_at outcomes (heading c).name (wanted_references c))
  machine_first m c component refined seen a b is named refs e f =
      first_both component refined seen a b e f
      ∙ ap (λ rs. first_by_place (faults_at outcomes component rs)) (sym refs ∙ ap wanted_references (sym is))
      ∙ ap (λ n. first_by_place (faults_at outcomes n (wanted_references c))) named

  outcomes_more : (xs : List (Ref × Bool)) (y : Ref × Bool) → outcomes_at outcomes (xs ++ y ∷ []) ≡ outcomes_at outcomes xs ++ found outcomes y.0.name ∷ []
  outcomes_more [] y = refl
  outcomes_more (x ∷ xs) y = ap (λ rest. found outcomes x.0.name ∷ rest) (outcomes_more xs y)

  outcomes_both : (xs ys : List (Ref × Bool)) → outcomes_at outcomes (xs ++ ys) ≡ outcomes_at outcomes xs ++ outcomes_at outcomes ys
  outcomes_both [] ys = refl
  outcomes_both (x ∷ xs) ys = ap (λ rest. found outcomes x.0.name ∷ rest) (outcomes_both xs ys)

  pub parts_both : (xs ys : List (Ref × Bool)) → parts_at outcomes (xs ++ ys) ≡ parts_at outcomes xs ++ parts_at outcomes ys
  parts_both xs ys = ap (filter_map checked_in) (outcomes_both xs ys) ∙ filter_map-append checked_in (outcomes_at outcomes xs) (outcomes_at outcomes ys)

  -- the part of one reference more
  pub one_part : (refs : List Ref) (i : ℕ) (r : Ref) (o : Option Outcome) (old now next : List Checked) → i < length refs → r ≡ get_or refs i r →
      now ≡ old ++ parts_at outcomes (wanting true (take i refs)) → o ≡ found outcomes r.name → next ≡ now ++ filter_map checked_in (o ∷ []) →
      next ≡ old ++ parts_at outcomes (wanting true (take (i + 1) refs))
  one_part refs i r o old now next lt is e value added =
      added ∙ ap (λ x. now ++ filter_map checked_in (x ∷ [])) value ∙ ap (λ ps. ps ++ filter_map checked_in (found outcomes r.name ∷ [])) e
      ∙ append_assoc old (parts_at outcomes (wanting true (take i refs))) (parts_at outcomes ((r, true) ∷ []))
      ∙ ap (λ ps. old ++ ps) (sym (parts_both (wanting true (take i refs)) ((r, true) ∷ []))
      ∙ ap (parts_at outcomes) (sym (wanting_more true (take i refs) r)) ∙ ap (λ rs. parts_at outcomes (wanting true rs)) (sym (taken_more refs i r lt is)))
