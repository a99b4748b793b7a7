-- Outcomes that are set one after another.
use Rattle.std.proofs.Common.{◌≡◌, ◌∙◌, sym, ap, subst, refl, ℕ, zero, suc, ◌<◌, ◌+◌, true, List, [], ◌∷◌, ◌++◌, Some, None, length, take, get_or, bytes_eq, arith}
use Rattle.std.specs.Prelude.{Err, MatchOption}
use Rattle.std.specs.List.{Contains}
use Rattle.model_core.proofs.Firsts.{taken_more}
use Rattle.model_core.specs.Components.{heading}
use Rattle.model_core.specs.Each.{is_among}
use Rattle.model_core.specs.Faults.{first_by_place}
use Rattle.model_core.specs.declared.fault.Fault.{Fault}
use Rattle.model_core.specs.declared.component.RawComponent.{RawComponent}
use Rattle.model_core.specs.declared.checked.Checked.{Checked}
use Rattle.check_rules.specs.Contexts.{Outcome}
use Rattle.check_rules.specs.Components.{ChecksBeside}
use Rattle.static_check.specs.declared.settled.Order.{Order}
use Rattle.static_check.specs.Settling.{own_name, has_component, IsSettled, IsComponentOrder}
use Rattle.static_check.specs.Parts.{ArePartsOf}
use Rattle.build_core.specs.Projects.{wanted_references}
use Rattle.build_core.specs.Private.{Outcomes, Sets, AreSet, ConcludesIn, HaveNames, faults_at, parts_at}
use Rattle.build_core.proofs.Found.{or_first, or_second, itself, has_own}
use Rattle.build_core.proofs.Referred.{faults_found, none_first, parts_wanted}

-- ONE OUTCOME

-- the first fault of the references is the outcome
pub concludes_fault : (c : RawComponent) (outcomes : Outcomes) (fault : Fault) → Some fault ≡ first_by_place (faults_at outcomes (heading c).name (wanted_references c)) → ConcludesIn c outcomes (Err fault)
concludes_fault c outcomes fault e =
    let told : Outcome = Err fault in
    subst (λ o. MatchOption o (ChecksBeside c (parts_at outcomes (wanted_references c)) told) (λ f. told ≡ Err f))
    (e ∙ ap first_by_place (sym (faults_found outcomes (heading c).name (wanted_references c)))) refl

-- or what the check beside the parts answers
pub concludes_beside : (c : RawComponent) (outcomes : Outcomes) (parts : List Checked) (outcome : Outcome) → None ≡ first_by_place (faults_at outcomes (heading c).name (wanted_references c)) →
    parts ≡ parts_at outcomes (wanted_references c) → ChecksBeside c parts outcome → ConcludesIn c outcomes outcome
concludes_beside c outcomes parts outcome e same h =
    subst (λ o. MatchOption o (ChecksBeside c (parts_at outcomes (wanted_references c)) outcome) (λ f. outcome ≡ Err f))
    (e ∙ ap first_by_place (sym (faults_found outcomes (heading c).name (wanted_references c)))) (subst (λ ps. ChecksBeside c ps outcome) same h)

pub parts_ready : (c : RawComponent) (outcomes : Outcomes) (parts : List Checked) → None ≡ first_by_place (faults_at outcomes (heading c).name (wanted_references c)) →
    parts ≡ parts_at outcomes (wanted_references c) → ArePartsOf c parts
parts_ready c outcomes parts e same =
    subst (ArePartsOf c) (sym same) (parts_wanted outcomes (heading c).name c (none_first (faults_at outcomes (heading c).name (wanted_references c)) (sym e)))

-- ONE NAME MORE

set_more : (Gives : RawComponent → Outcomes → Outcome → Type 0) (components : List RawComponent) (names : List (List ℕ)) (name : List ℕ) (a b d : Outcomes) (c : RawComponent) (outcome : Outcome) →
    AreSet Gives components names a b → Contains components c → own_name c ≡ name → Gives c b outcome → Sets b name outcome d → AreSet Gives components (names ++ name ∷ []) a d
set_more Gives components [] name a b d c outcome set in' named gives sets =
    (c, outcome, d, in', named, subst (λ os. Gives c os outcome) set gives, subst (λ os. Sets os name outcome d) set sets, refl)
set_more Gives components (n ∷ names) name a b d c outcome set in' named gives sets =
    (set.0, set.1, set.2, set.3, set.4, set.5, set.6, set_more Gives components names name set.2 b d c outcome set.7 in' named gives sets)

pub set_taken : (Gives : RawComponent → Outcomes → Outcome → Type 0) (components : List RawComponent) (names : List (List ℕ)) (i : ℕ) (name : List ℕ) (a b d : Outcomes) (c : RawComponent) →
    i < length names → name ≡ get_or names i name → AreSet Gives components (take i names) a b → Contains components c → own_name c ≡ name →
    (outcome : Outcome) × Gives c b outcome × Sets b (own_name c) outcome d → AreSet Gives components (take (i + 1) names) a d
set_taken Gives components names i name a b d c lt is set in' named h =
    subst (λ ns. AreSet Gives components ns a d) (sym (taken_more names i name lt is))
    (set_more Gives components (take i names) name a b d c h.0 set in' named h.1 (subst (λ n. Sets b n h.0 d) named h.2))

-- NAMES OF COMPONENTS

among_at : (names : List (List ℕ)) (i : ℕ) (name : List ℕ) → i < length names → name ≡ get_or names i name → is_among names name ≡ true
among_at [] i name lt is = absurd (omega (arith, lt))
among_at (x ∷ names) zero name lt is = or_first (bytes_eq name x) _ (ap (bytes_eq name) (sym is) ∙ itself name)
among_at (x ∷ names) (suc i) name lt is = or_second (bytes_eq name x) _ (among_at names i name (omega (arith, lt)) is)

pub has_at : (components : List RawComponent) (names : List (List ℕ)) (i : ℕ) (name : List ℕ) → HaveNames components names → i < length names → name ≡ get_or names i name → has_component components name ≡ true
has_at components names i name have lt is = have name (among_at names i name lt is)

module _ (components : List RawComponent) (order : Order) (is_order : IsComponentOrder components order) where
  pub sorted_names : HaveNames components order.sorted
  sorted_names name among = by ((is_order.sorted name).0 among)
    where
      by : IsSettled components name → has_component components name ≡ true
      by (zero, h) = absurd h
      by (suc k, h) = subst (λ n. has_component components n ≡ true) h.2 (has_own components h.0 h.1)
