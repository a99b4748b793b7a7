-- What the parts of a check of a machine give together.
use Rattle.std.proofs.Common.{◌≡◌, ◌<◌, ◌+◌, ◌∙◌, sym, ap, refl, subst, ℕ, Bool, false, not, cond, ◌||◌, List, [], ◌∷◌, ◌++◌, map, take, drop, length, get_or, append_assoc, bytes_eq}
use Rattle.std.specs.Prelude.{Option, Some, None, Result, Ok, Err, MatchOption, IsErrOf}
use Rattle.std.specs.Borrow.{Bor}
use Rattle.std.specs.List.{filter, zip}
use Rattle.std.specs.Option.{option_map_or}
use Rattle.std.proofs.lemmas.List.{map-append, take-map, drop-map, take-append-drop}
use Rattle.formula_core.specs.declared.raw.Ref.{Ref}
use Rattle.formula_core.specs.declared.ty.Ty.{Ty}
use Rattle.formula_core.specs.declared.formula.Formula.{Formula}
use Rattle.formula_core.specs.Formulas.{joined}
use Rattle.model_core.specs.declared.fault.Fault.{Fault}
use Rattle.model_core.specs.declared.checked.Checked.{Checked}
use Rattle.model_core.specs.declared.checked.CheckedContext.{CheckedContext}
use Rattle.model_core.specs.declared.checked.CheckedEvent.{CheckedEvent}
use Rattle.model_core.specs.declared.checked.CheckedMachine.{CheckedMachine}
use Rattle.model_core.specs.declared.checked.Labelled.{Labelled}
use Rattle.model_core.specs.declared.component.RawComponent.{RawComponent}
use Rattle.model_core.specs.declared.component.RawComponent.TheVariants as raw
use Rattle.model_core.specs.declared.component.RawLabelled.{RawLabelled}
use Rattle.model_core.specs.declared.component.RawEvent.{RawEvent}
use Rattle.model_core.specs.declared.component.RawVariant.{RawVariant}
use Rattle.model_core.specs.Each.{is_among}
use Rattle.model_core.specs.Faults.{earlier, first_by_place}
use Rattle.model_core.proofs.Firsts.{first_append, taken_more}
use Rattle.model_core.proofs.Lists.{any_append, filter_append}
use Rattle.check_rules.specs.Components.{ChecksApart, machine_at, contexts_in}
use Rattle.check_rules.specs.Declarations.{brings_clash, declared_twice, labelled_twice}
use Rattle.check_rules.specs.Machines.{Written, ChecksFormulasApart, ChecksMachineApart, abstract_view, abstract_variables, own_names, all_variables, abstract_events, machine_assignments, machine_declarations, machine_env, checked_machine_of, new_variables}
use Rattle.check_rules.specs.Contexts.{labels_of}
use Rattle.check_rules.specs.Events.{AreTypedEvents, event_declarations}
use Rattle.check_rules.specs.Typed.{Entries, AreTyped, IsTypedVariant, never_typed}
use Rattle.check_rules.specs.Visible.{Identifiers, Visible, entries, all_visible, names, seen_from, with_context}
use Rattle.context_check.specs.declared.fault.CheckFault.{CheckFault}
use Rattle.context_check.specs.declared.fault.CheckFault.TheVariants as why
use Rattle.machine_check.specs.PrivateMachine.{IsTypedMachineSoFar, own_declarations}
use Rattle.machine_check.specs.PrivateTyped.{AreTypedEventsSoFar}
use Rattle.context_check.specs.Typings.{AreTypedSoFar}
use Rattle.context_check.specs.Views.{placed}
use Rattle.machine_check.proofs.Assigned.{or_assoc, joined_append}
use Rattle.machine_check.proofs.Events.{four}

abbrev Part : Type 0
Part = Bor (List ℕ × Ty) × Bor (List ℕ)

-- a set that grows by the texts of one item more
pub texts_grow : {X : Type 0} (f : List X → List (List ℕ)) → ((xs ys : List X) → f (xs ++ ys) ≡ f xs ++ f ys) → (xs : List X) (i : ℕ) (x : X) (known before after : List ℕ → Bool) →
    i < length xs → x ≡ get_or xs i x → ((n : List ℕ) → before n ≡ (known n || is_among (f (take i xs)) n)) → ((n : List ℕ) → after n ≡ (before n || is_among (f (x ∷ [])) n)) →
    (n : List ℕ) → after n ≡ (known n || is_among (f (take (i + 1) xs)) n)
texts_grow f law xs i x known before after lt is h g n =
    g n ∙ ap (λ b. b || is_among (f (x ∷ [])) n) (h n) ∙ sym (or_assoc (known n) (is_among (f (take i xs)) n) (is_among (f (x ∷ [])) n))
    ∙ ap (λ b. known n || b)
    (sym (any_append (bytes_eq n) (f (take i xs)) (f (x ∷ []))) ∙ ap (λ ns. is_among ns n) (sym (law (take i xs) (x ∷ [])) ∙ ap f (sym (taken_more xs i x lt is))))

pub names_append : (xs ys : Identifiers) → names (entries (xs ++ ys)) ≡ names (entries xs) ++ names (entries ys)
names_append xs ys = ap names (map-append (λ x. x.0) xs ys) ∙ map-append (λ e. e.0) (entries xs) (entries ys)

pub names_placed : (p : List ℕ → Bool) (xs ys : List Part) → filter p (names (entries (map placed (xs ++ ys)))) ≡ filter p (names (entries (map placed xs))) ++ filter p (names (entries (map placed ys)))
names_placed p xs ys =
    ap (λ zs. filter p (names (entries zs))) (map-append placed xs ys) ∙ ap (filter p) (names_append (map placed xs) (map placed ys))
    ∙ filter_append p (names (entries (map placed xs))) (names (entries (map placed ys)))

pub entries_placed : (p : List ℕ × Ty → Bool) (xs ys : List Part) → filter p (entries (map placed (xs ++ ys))) ≡ filter p (entries (map placed xs)) ++ filter p (entries (map placed ys))
entries_placed p xs ys =
    ap (λ zs. filter p (entries zs)) (map-append placed xs ys) ∙ ap (filter p) (map-append (λ x. x.0) (map placed xs) (map placed ys))
    ∙ filter_append p (entries (map placed xs)) (entries (map placed ys))

pub filter_none : (h : List ℕ → Bool) → ((x : List ℕ) → h x ≡ false) → (ns : List (List ℕ)) → filter (λ n. not (h n)) ns ≡ ns
filter_none h e [] = refl
filter_none h e (n ∷ ns) = ap (λ b. cond (not b) (n ∷ filter (λ n. not (h n)) ns) (filter (λ n. not (h n)) ns)) (e n) ∙ ap (λ r. n ∷ r) (filter_none h e ns)

-- the texts of two lists, one after the other
pub both_added : (p : List ℕ → Bool) (a b constants variables : List Part) (none one two : List ℕ → Bool) → ((x : List ℕ) → none x ≡ false) →
    ((x : List ℕ) → one x ≡ (none x || is_among (filter p (names (entries (map placed a)))) x)) → ((x : List ℕ) → two x ≡ (one x || is_among (filter p (names (entries (map placed b)))) x)) →
    a ≡ constants → b ≡ variables → (x : List ℕ) → two x ≡ is_among (filter p (names (entries (map placed constants ++ map placed variables)))) x
both_added p a b constants variables none one two n o t ea eb x =
    t x ∙ ap (λ c. c || is_among (filter p (names (entries (map placed b)))) x) (o x ∙ ap (λ c. c || is_among (filter p (names (entries (map placed a)))) x) (n x))
    ∙ sym (any_append (bytes_eq x) (filter p (names (entries (map placed a)))) (filter p (names (entries (map placed b)))))
    ∙ ap (λ ns. is_among ns x) (sym (filter_append p (names (entries (map placed a))) (names (entries (map placed b)))) ∙ ap (filter p) (sym (names_append (map placed a) (map placed b))))
    ∙ (λ i. is_among (filter p (names (entries (map placed (ea i) ++ map placed (eb i))))) x)

-- what an abstraction gives
pub taken : {X Y : Type 0} (f : X → Y) (n : ℕ) (xs ts : List X) (ys : List Y) → map f xs ≡ ys → ts ≡ take n xs → map f ts ≡ take n ys
taken f n xs ts ys e t = ap (map f) t ∙ sym (take-map f n xs) ∙ ap (take n) e

pub dropped : {X Y : Type 0} (f : X → Y) (n : ℕ) (xs ts : List X) (ys : List Y) → map f xs ≡ ys → ts ≡ drop n xs → map f ts ≡ drop n ys
dropped f n xs ts ys e t = ap (map f) t ∙ sym (drop-map f n xs) ∙ ap (drop n) e

pub rejoined : {X : Type 0} (n : ℕ) (a b xs : List X) → a ≡ take n xs → b ≡ drop n xs → xs ≡ a ++ b
rejoined n a b xs e f = sym ((λ i. e i ++ f i) ∙ take-append-drop n xs)

pub joined_refines : (xs ys : List CheckedEvent) → joined (map (λ e. e.refines) (xs ++ ys)) ≡ joined (map (λ e. e.refines) xs) ++ joined (map (λ e. e.refines) ys)
joined_refines xs ys = ap joined (map-append (λ e. e.refines) xs ys) ∙ joined_append (map (λ e. e.refines) xs) (map (λ e. e.refines) ys)

pub length_of_invariants : (m : Option CheckedMachine) → length (option_map_or (λ a. a.invariants) m []) ≡ option_map_or (λ a. length a.invariants) m 0
length_of_invariants None = refl
length_of_invariants (Some m) = refl

pub variables_kept : (v : Visible) (contexts : List CheckedContext) → (seen_from v contexts).variables ≡ v.variables
variables_kept v [] = refl
variables_kept v (c ∷ contexts) = variables_kept (with_context v c) contexts

-- a machine is typed where its parts are
pub machine_typed : (m : Option CheckedMachine) (w : Written) (v : Visible) (start last : Entries) (wanted variables : List (List ℕ)) (events : List CheckedEvent) (invariants : List Labelled) (variant : Option Formula)
    (typed : List CheckedEvent) (a b c d first : Option Fault) (checked : CheckedMachine) → start ≡ machine_env m v → wanted ≡ new_variables m w → variables ≡ all_variables m w → events ≡ abstract_events m →
    AreTypedSoFar w.name.name start wanted w.invariants invariants a last → b ≡ first_by_place (never_typed w.name.name last w.variables) →
    ((faults : List Fault) × IsTypedVariant w.name.name last w.variant variant faults × (c ≡ first_by_place faults)) →
    AreTypedEventsSoFar w.name.name events variables last w.events typed d → checked ≡ checked_machine_of m w v last invariants variant typed → first ≡ earlier (earlier (earlier a b) c) d →
    IsTypedMachineSoFar m w v checked first
machine_typed m w v start last wanted variables events invariants variant typed a b c d first checked s n vs es (af, at, ais) bis (cf, ct, cis) (df, dt, dis) is e = (
  af ++ never_typed w.name.name last w.variables ++ cf ++ df,
  (
    invariants,
    af,
    last,
    subst (λ x. AreTyped w.name.name x (new_variables m w) w.invariants invariants af last) s (subst (λ x. AreTyped w.name.name start x w.invariants invariants af last) n at),
    variant,
    cf,
    ct,
    typed,
    df,
    subst (λ x. AreTypedEvents w.name.name x (all_variables m w) last w.events typed df) es (subst (λ x. AreTypedEvents w.name.name events x last w.events typed df) vs dt),
    is,
    refl,
  ),
  e ∙ (λ i. earlier (earlier (earlier (ais i) (bis i)) (cis i)) (dis i)) ∙ four af (never_typed w.name.name last w.variables) cf df,
)

abbrev Answer : Type 0
Answer = Result (CheckedMachine × Option Fault) Fault

-- the formulas' first fault, or the machine and what is assigned in it
pub formulas_apart : (m : Option CheckedMachine) (w : Written) (v : Visible) (typed : CheckedMachine) (first found : Option Fault) (answer : Answer) → IsTypedMachineSoFar m w v typed first → first ≡ found →
    MatchOption found (answer ≡ Ok (typed, first_by_place (machine_assignments m w typed))) (λ fault. answer ≡ Err fault) → ChecksFormulasApart m w v answer
formulas_apart m w v typed first found answer so is h =
    (typed, so.0, so.1, subst (λ o. MatchOption o (answer ≡ Ok (typed, first_by_place (machine_assignments m w typed))) (λ fault. answer ≡ Err fault)) (sym is ∙ so.2) h)

two : (a b c d e : List Fault) → earlier (first_by_place a) (first_by_place (b ++ c ++ d ++ e)) ≡ first_by_place (a ++ b ++ c ++ d ++ e)
two a b c d e = sym (first_append a (b ++ c ++ d ++ e)) ∙ ap first_by_place (assoc a b c d e)
  where
    assoc : (a b c d e : List Fault) → a ++ (b ++ c ++ d ++ e) ≡ a ++ b ++ c ++ d ++ e
    assoc a b c d e = sym (append_assoc a (b ++ c ++ d) e) ∙ ap (λ r. r ++ e) (sym (append_assoc a (b ++ c) d) ∙ ap (λ r. r ++ d) (sym (append_assoc a b c)))

-- the first fault of the declarations, or what the formulas give
pub begun : (m : Option CheckedMachine) (w : Written) (v : Visible) (seen : List CheckedContext) (clash own found : Option Fault) (answer : Answer) →
    clash ≡ first_by_place (brings_clash w.name.name (abstract_view m) (zip w.sees seen)) → v ≡ seen_from (abstract_view m) seen → own ≡ first_by_place (own_declarations m w v) →
    found ≡ earlier clash own → MatchOption found (ChecksFormulasApart m w v answer) (λ fault. answer ≡ Err fault) → ChecksMachineApart m w seen answer
begun m w v seen clash own found answer c s o e h =
    subst (λ f. MatchOption f (ChecksFormulasApart m w (seen_from (abstract_view m) seen) answer) (λ fault. answer ≡ Err fault))
    (e ∙ (λ i. earlier (c i) ((o ∙ ap (λ u. first_by_place (own_declarations m w u)) s) i)) ∙ joined_all)
    (subst (λ u. MatchOption found (ChecksFormulasApart m w u answer) (λ fault. answer ≡ Err fault)) s h)
  where
    joined_all : earlier (first_by_place (brings_clash w.name.name (abstract_view m) (zip w.sees seen))) (first_by_place (own_declarations m w (seen_from (abstract_view m) seen)))
        ≡ first_by_place (machine_declarations m w seen)
    joined_all =
        two (brings_clash w.name.name (abstract_view m) (zip w.sees seen))
        (declared_twice w.name.name (filter (λ n. not (is_among (abstract_variables m) n)) (names (entries (all_visible (seen_from (abstract_view m) seen))))) w.variables)
        (labelled_twice w.name.name [] (labels_of w.invariants)) (declared_twice w.name.name [] (map (λ e. e.name) w.events))
        (joined (map (event_declarations w.name.name (abstract_events m) (names (entries (all_visible (seen_from (abstract_view m) seen))) ++ own_names w)) w.events))

pub apart : (component : RawComponent) (parts : List Checked) (abstraction : Option Checked) (m : Option CheckedMachine) (name : Ref) (refines : Option Ref) (sees variables : List Ref) (invariants : List RawLabelled)
    (variant : Option RawVariant) (events : List RawEvent) (w : Written) (contexts : List CheckedContext) (answer : Answer) → component ≡ raw.Machine name refines sees variables invariants variant events →
    w ≡ (record { name = name; sees = sees; variables = variables; invariants = invariants; variant = variant; events = events }) → m ≡ machine_at abstraction → contexts ≡ contexts_in parts →
    ChecksMachineApart m w contexts answer → ChecksApart component parts abstraction answer
apart component parts abstraction m name refines sees variables invariants variant events w contexts answer is hw hm hc h =
    subst (λ c. ChecksApart c parts abstraction answer) (sym is)
    (subst (λ x. ChecksMachineApart x (record { name = name; sees = sees; variables = variables; invariants = invariants; variant = variant; events = events }) (contexts_in parts) answer) hm
    (subst (λ x. ChecksMachineApart m x (contexts_in parts) answer) hw
    (subst (λ x. ChecksMachineApart m w x answer) hc h)))

-- the fault that is told
abbrev fault_in : Fault → Result (CheckedMachine × Option Fault) CheckFault → Fault
fault_in fault (Ok checked) = fault
fault_in fault (Err (why.Fault told)) = told
fault_in fault (Err why.OutOfMemory) = fault

module _ (P : Answer → Type 0) where
  pub checked_told : (answer : Answer) (checked : CheckedMachine × Option Fault) → answer ≡ Ok checked → P answer → P (Ok checked)
  checked_told answer checked is h = subst P is h

  pub fault_told : (answer : Answer) (fault f : Fault) → answer ≡ Err fault → P answer → IsErrOf {T = CheckedMachine × Option Fault} (Err (why.Fault fault)) (why.Fault f) → P (Err f)
  fault_told answer fault f is h e = subst (λ g. P (Err g)) (ap (fault_in fault) e) (subst P is h)

  pub no_fault_told : (checked : CheckedMachine × Option Fault) (f : Fault) → IsErrOf {T = CheckedMachine × Option Fault} (Ok checked) (why.Fault f) → P (Err f)
  no_fault_told checked f e = cc
