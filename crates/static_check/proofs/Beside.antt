-- A machine by itself and then against its abstraction, and the parts of a component.
use Rattle.std.proofs.Common.{arith, ◌≡◌, ◌∙◌, sym, ap, subst, refl, ℕ, zero, suc, ◌-◌, Bool, true, false, List, [], ◌∷◌, ◌++◌, map, take, drop, get_or, length, Option, Some, None, Result, Ok, Err}
use Rattle.std.specs.Prelude.{is_some, MatchOption, IfOk, IsErrAnd, IsErrOf}
use Rattle.std.specs.Borrow.{Bor}
use Rattle.std.specs.Option.{option_to_list}
use Rattle.formula_core.specs.declared.raw.Ref.{Ref}
use Rattle.context_check.specs.declared.fault.CheckFault.{CheckFault}
use Rattle.context_check.specs.declared.fault.CheckFault.TheVariants as why
use Rattle.model_core.specs.declared.fault.Fault.{Fault}
use Rattle.model_core.specs.declared.component.RawEvent.{RawEvent}
use Rattle.model_core.specs.declared.component.RawComponent.{RawComponent}
use Rattle.model_core.specs.declared.component.RawComponent.TheVariants as raw
use Rattle.model_core.specs.declared.component.RawLabelled.{RawLabelled}
use Rattle.model_core.specs.declared.component.RawVariant.{RawVariant}
use Rattle.model_core.specs.declared.checked.Checked.{Checked}
use Rattle.model_core.specs.declared.checked.Checked.TheVariants.{Context, Machine}
use Rattle.model_core.specs.declared.checked.CheckedContext.{CheckedContext}
use Rattle.model_core.specs.declared.checked.CheckedMachine.{CheckedMachine}
use Rattle.model_core.specs.Faults.{earlier, first_by_place}
use Rattle.model_core.proofs.Firsts.{first_append}
use Rattle.check_rules.specs.Visible.{Visible, seen_from}
use Rattle.check_rules.specs.Contexts.{Outcome, unless}
use Rattle.check_rules.specs.Machines.{Written, abstract_view, machine_declarations, machine_assignments, machine_refinements, ChecksFormulas, ChecksFormulasApart, ChecksMachine, ChecksMachineApart}
use Rattle.check_rules.specs.Components.{AreContextsOf, ChecksApart, ChecksBeside, contexts_in, first_machine_in, machine_at, refinements_of}
use Rattle.static_check.specs.Parts.{ArePartsOf}
use Rattle.static_check.specs.PrivateChecks.{ChecksWith}

abbrev Answer : Type 0
Answer = Result (CheckedMachine × Option Fault) Fault

same_ok : (p q : CheckedMachine × Option Fault) → ◌≡◌ {A = Answer} (Ok p) (Ok q) → p ≡ q
same_ok p q e = cc

ok_err : {P : Type 0} (p : CheckedMachine × Option Fault) (f : Fault) → ◌≡◌ {A = Answer} (Ok p) (Err f) → P
ok_err p f e = cc

same_err : (f g : Fault) → ◌≡◌ {A = Answer} (Err f) (Err g) → f ≡ g
same_err f g e = cc

err_ok : {P : Type 0} (p : CheckedMachine × Option Fault) (f : Fault) → ◌≡◌ {A = Answer} (Err f) (Ok p) → P
err_ok p f e = cc

-- the outcome where the machine's first fault of kinds 17 to 24 is this
abbrev Ends : Outcome → Option Fault × CheckedMachine → Type 0
Ends outcome x = MatchOption x.0 (outcome ≡ Ok (Machine x.1)) (λ fault. outcome ≡ Err fault)

module _ (m : Option CheckedMachine) (w : Written) where
  module _ (machine : CheckedMachine) (first later : Option Fault) (outcome : Outcome) (is : later ≡ first_by_place (machine_refinements m w machine))
      (ends : Ends outcome (earlier first later, machine)) where
    formulas_end : (typed : CheckedMachine) (o : Option Fault) →
        MatchOption o (◌≡◌ {A = Answer} (Ok (machine, first)) (Ok (typed, first_by_place (machine_assignments m w typed)))) (λ fault. ◌≡◌ {A = Answer} (Ok (machine, first)) (Err fault)) →
        MatchOption o (unless (machine_assignments m w typed ++ machine_refinements m w typed) (Machine typed) outcome) (λ fault. outcome ≡ Err fault)
    formulas_end typed None e =
        let same = same_ok (machine, first) (typed, first_by_place (machine_assignments m w typed)) e in
        let joined : earlier first later ≡ first_by_place (machine_assignments m w typed ++ machine_refinements m w typed) =
        (λ i. earlier (same i).1 (is i)) ∙ ap (λ c. earlier (first_by_place (machine_assignments m w typed)) (first_by_place (machine_refinements m w c))) (ap (λ p. p.0) same)
        ∙ sym (first_append (machine_assignments m w typed) (machine_refinements m w typed)) in
        let path : (earlier first later, machine) ≡ (first_by_place (machine_assignments m w typed ++ machine_refinements m w typed), typed) = λ i. (joined i, (same i).0) in
        subst (Ends outcome) path ends
    formulas_end typed (Some fault) e = ok_err (machine, first) fault e

    formulas_whole : (v : Visible) → ChecksFormulasApart m w v (Ok (machine, first)) → ChecksFormulas m w v outcome
    formulas_whole v a = (a.0, a.1, a.2, formulas_end a.0 (first_by_place a.1) a.3)

    declared_whole : (v : Visible) (o : Option Fault) → MatchOption o (ChecksFormulasApart m w v (Ok (machine, first))) (λ fault. ◌≡◌ {A = Answer} (Ok (machine, first)) (Err fault)) →
        MatchOption o (ChecksFormulas m w v outcome) (λ fault. outcome ≡ Err fault)
    declared_whole v None a = formulas_whole v a
    declared_whole v (Some fault) a = ok_err (machine, first) fault a

    machine_whole : (seen : List CheckedContext) → ChecksMachineApart m w seen (Ok (machine, first)) → ChecksMachine m w seen outcome
    machine_whole seen a = declared_whole (seen_from (abstract_view m) seen) (first_by_place (machine_declarations m w seen)) a

  -- a fault of kinds 10 to 16
  formulas_fault : (fault : Fault) (typed : CheckedMachine) (o : Option Fault) →
      MatchOption o (◌≡◌ {A = Answer} (Err fault) (Ok (typed, first_by_place (machine_assignments m w typed)))) (λ f. ◌≡◌ {A = Answer} (Err fault) (Err f)) →
      MatchOption o (unless (machine_assignments m w typed ++ machine_refinements m w typed) (Machine typed) (Err fault)) (λ f. ◌≡◌ {A = Outcome} (Err fault) (Err f))
  formulas_fault fault typed None e = err_ok (typed, first_by_place (machine_assignments m w typed)) fault e
  formulas_fault fault typed (Some f) e = ap (λ g. Err g) (same_err fault f e)

  declared_fault : (fault : Fault) (v : Visible) (o : Option Fault) → MatchOption o (ChecksFormulasApart m w v (Err fault)) (λ f. ◌≡◌ {A = Answer} (Err fault) (Err f)) →
      MatchOption o (ChecksFormulas m w v (Err fault)) (λ f. ◌≡◌ {A = Outcome} (Err fault) (Err f))
  declared_fault fault v None a = (a.0, a.1, a.2, formulas_fault fault a.0 (first_by_place a.1) a.3)
  declared_fault fault v (Some f) a = ap (λ g. Err g) (same_err fault f a)

-- a fault that is told is the one that was found
pub told_fault : (fault f : Fault) → IsErrOf {T = Checked} (Err (why.Fault fault)) (why.Fault f) → fault ≡ f
told_fault fault f e = ap (fault_in fault) e
  where
    fault_in : Fault → Result Checked CheckFault → Fault
    fault_in d (Err (why.Fault g)) = g
    fault_in d (Err why.OutOfMemory) = d
    fault_in d (Ok c) = d

-- the machine's own check and that against its abstraction give the outcome
whole : (written : RawComponent) (seen : List Checked) (abstraction : Option Checked) (machine : CheckedMachine) (first later : Option Fault) (outcome : Outcome) →
    ChecksApart written seen abstraction (Ok (machine, first)) → later ≡ first_by_place (refinements_of written machine abstraction) →
    Ends outcome (earlier first later, machine) → ChecksWith written seen abstraction outcome
whole (raw.Context name extends sets constants axioms) seen abstraction machine first later outcome a is ends = a
whole (raw.Machine name refines sees variables invariants variant events) seen abstraction machine first later outcome a is ends =
    machine_whole (machine_at abstraction)
    (record { name = name; sees = sees; variables = variables; invariants = invariants; variant = variant; events = events })
    machine first later outcome is ends (contexts_in seen) a

pub whole_checked : (written : RawComponent) (seen : List Checked) (abstraction : Option Checked) (machine : CheckedMachine) (first later both : Option Fault) →
    ChecksApart written seen abstraction (Ok (machine, first)) → later ≡ first_by_place (refinements_of written machine abstraction) →
    both ≡ earlier first later → both ≡ None → ChecksWith written seen abstraction (Ok (Machine machine))
whole_checked written seen abstraction machine first later both a is e none =
    whole written seen abstraction machine first later (Ok (Machine machine)) a is (subst (λ o. Ends (Ok (Machine machine)) (o, machine)) (sym none ∙ e) refl)

pub whole_fault : (written : RawComponent) (seen : List Checked) (abstraction : Option Checked) (machine : CheckedMachine) (first later both : Option Fault) (fault f : Fault) →
    ChecksApart written seen abstraction (Ok (machine, first)) → later ≡ first_by_place (refinements_of written machine abstraction) →
    both ≡ earlier first later → both ≡ Some fault → IsErrOf {T = Checked} (Err (why.Fault fault)) (why.Fault f) → ChecksWith written seen abstraction (Err f)
whole_fault written seen abstraction machine first later both fault f a is e some told =
    whole written seen abstraction machine first later (Err f) a is
    (subst (λ o. Ends (Err f) (o, machine)) (sym some ∙ e) (ap (λ g. Err g) (sym (told_fault fault f told))))

-- a fault that is handed on
pub handed_on : {T : Type 0} (result : Result Checked CheckFault) (fault : CheckFault) (f : Fault) → IsErrAnd result (λ g. g ≡ fault) → IsErrOf result (why.Fault f) →
    IsErrOf {T = T} (Err fault) (why.Fault f)
handed_on (Ok c) fault f is e = absurd is
handed_on (Err g) fault f is e = ap (λ d. Err d) (sym is ∙ same_fault g (why.Fault f) e)
  where
    same_fault : (g h : CheckFault) → ◌≡◌ {A = Result Checked CheckFault} (Err g) (Err h) → g ≡ h
    same_fault g h e = cc

pub fault_whole : (written : RawComponent) (seen : List Checked) (abstraction : Option Checked) (fault : Fault) →
    ChecksApart written seen abstraction (Err fault) → ChecksWith written seen abstraction (Err fault)
fault_whole (raw.Context name extends sets constants axioms) seen abstraction fault a = a
fault_whole (raw.Machine name refines sees variables invariants variant events) seen abstraction fault a =
    declared_fault (machine_at abstraction)
    (record { name = name; sees = sees; variables = variables; invariants = invariants; variant = variant; events = events })
    fault (seen_from (abstract_view (machine_at abstraction)) (contexts_in seen)) _ a

abbrev Refs : Type 0
Refs = List (Bor Checked)

abbrev pub nows : Refs → List Checked
nows ps = map (λ p. p.now) ps

-- the slice behind the first part
abbrev pub behind_first : Refs → Refs
behind_first ps = take (length ps - 1) (drop 1 ps)

take_whole : (ps : Refs) (n : ℕ) → n ≡ length ps → take n ps ≡ ps
take_whole [] zero e = refl
take_whole [] (suc n) e = refl
take_whole (p ∷ ps) zero e = absurd (omega (arith, e))
take_whole (p ∷ ps) (suc n) e = ap (λ qs. p ∷ qs) (take_whole ps n (omega (arith, e)))

behind_is : (p : Bor Checked) (ps : Refs) → behind_first (p ∷ ps) ≡ ps
behind_is p ps = take_whole ps (length (p ∷ ps) - 1) (omega arith)

no_machine : (cs : List CheckedContext) → first_machine_in (map (λ c. Context c) cs) ≡ None
no_machine [] = refl
no_machine (c ∷ cs) = no_machine cs

none_of : (a : Option CheckedMachine) → is_some a ≡ false → a ≡ None
none_of None e = refl
none_of (Some m) e = absurd (unequal e)
  where
    unequal : true ≡ false → ⊥
    unequal h = cc

some_of : (a : Option CheckedMachine) → is_some a ≡ true → (m : CheckedMachine) × (a ≡ Some m)
some_of None e = absurd (unequal e)
  where
    unequal : false ≡ true → ⊥
    unequal h = cc
some_of (Some m) e = (m, refl)

empty_not : (c : Checked) (cs : List Checked) → [] ≡ c ∷ cs → ⊥
empty_not c cs e = cc

heads : (c d : Checked) (cs ds : List Checked) → c ∷ cs ≡ d ∷ ds → c ≡ d
heads c d cs ds e = cc

module _ (name : Ref) (refines : Option Ref) (sees variables : List Ref) (invariants : List RawLabelled) (variant : Option RawVariant) (events : List RawEvent) where
  abbrev machine_text : RawComponent
  machine_text = raw.Machine name refines sees variables invariants variant events

  abbrev written_machine : Written
  written_machine = record { name = name; sees = sees; variables = variables; invariants = invariants; variant = variant; events = events }

  unrefined_seen_at : is_some refines ≡ false → (parts : List Checked) → ArePartsOf machine_text parts → AreContextsOf machine_text parts
  unrefined_seen_at e parts p =
      subst (AreContextsOf machine_text) (sym (p.3 ∙ ap (λ a. map (λ m. Machine m) (option_to_list a) ++ p.1) (none_of p.0 (p.2 ∙ e)))) p.4

  unrefined_whole_at : is_some refines ≡ false → (parts : List Checked) → ArePartsOf machine_text parts → (outcome : Outcome) → ChecksWith machine_text parts None outcome →
      ChecksBeside machine_text parts outcome
  unrefined_whole_at e parts p outcome h =
      let contexts = unrefined_seen_at e parts p in
      subst (λ m. ChecksMachine m written_machine (contexts_in parts) outcome) (sym (ap first_machine_in contexts.1 ∙ no_machine contexts.0)) h

  refined_split : is_some refines ≡ true → (parts : List Checked) → ArePartsOf machine_text parts →
      (m : CheckedMachine) × (seen : List Checked) × (parts ≡ Machine m ∷ seen) × AreContextsOf machine_text seen
  refined_split e parts p =
      let some = some_of p.0 (p.2 ∙ e) in (some.0, p.1, p.3 ∙ ap (λ a. map (λ m. Machine m) (option_to_list a) ++ p.1) some.1, p.4)

  refined_whole_at : is_some refines ≡ true → (q : Bor Checked) (ps : Refs) → ArePartsOf machine_text (nows (q ∷ ps)) → (outcome : Outcome) →
      ChecksWith machine_text (nows ps) (Some q.now) outcome → ChecksBeside machine_text (nows (q ∷ ps)) outcome
  refined_whole_at e q ps p outcome h =
      let s = refined_split e (nows (q ∷ ps)) p in
      let abstract : q.now ≡ Machine s.0 = heads q.now (Machine s.0) (nows ps) s.1 s.2 in
      subst (λ c. ChecksBeside machine_text (c ∷ nows ps) outcome) (sym abstract)
      (subst (λ c. ChecksWith machine_text (nows ps) (Some c) outcome) abstract h)

  refined_whole_list : is_some refines ≡ true → (ps : Refs) (q : Bor Checked) → q ≡ get_or ps 0 q → ArePartsOf machine_text (nows ps) → (outcome : Outcome) →
      ChecksWith machine_text (nows (behind_first ps)) (Some q.now) outcome → ChecksBeside machine_text (nows ps) outcome
  refined_whole_list e [] q is p outcome h = let s = refined_split e [] p in absurd (empty_not (Machine s.0) s.1 s.2)
  refined_whole_list e (r ∷ ps) q is p outcome h =
      refined_whole_at e r ps p outcome
      (subst (λ a. ChecksWith machine_text (nows ps) (Some a.now) outcome) is (subst (λ qs. ChecksWith machine_text (nows qs) (Some q.now) outcome) (behind_is r ps) h))

  -- a machine that refines one
  pub refined_whole : (written : RawComponent) (b : Bool) → written ≡ machine_text → b ≡ is_some refines → b ≡ true → (ps : Refs) (q : Bor Checked) → q ≡ get_or ps 0 q →
      ArePartsOf written (nows ps) → (outcome : Outcome) → ChecksWith written (nows (behind_first ps)) (Some q.now) outcome → ChecksBeside written (nows ps) outcome
  refined_whole written b is some true' ps q at p outcome =
      subst (λ w. ChecksWith w (nows (behind_first ps)) (Some q.now) outcome → ChecksBeside w (nows ps) outcome) (sym is)
      (refined_whole_list (sym some ∙ true') ps q at (subst (λ w. ArePartsOf w (nows ps)) is p) outcome)

  -- a machine that refines none
  pub unrefined_whole : (written : RawComponent) (b : Bool) → written ≡ machine_text → b ≡ is_some refines → b ≡ false → (parts : List Checked) →
      ArePartsOf written parts → (outcome : Outcome) → ChecksWith written parts None outcome → ChecksBeside written parts outcome
  unrefined_whole written b is some false' parts p outcome =
      subst (λ w. ChecksWith w parts None outcome → ChecksBeside w parts outcome) (sym is)
      (unrefined_whole_at (sym some ∙ false') parts (subst (λ w. ArePartsOf w parts) is p) outcome)

pub if_ok : (result : Result Checked CheckFault) (P Q : Checked → Type 0) → ((c : Checked) → P c → Q c) → IfOk result P → IfOk result Q
if_ok (Ok c) P Q f h = f c h
if_ok (Err e) P Q f h = tt
