-- What the parts of a check of a context give together.
use Rattle.std.proofs.Common.{◌≡◌, ◌∙◌, sym, ap, refl, subst, ℕ, suc, Bool, false, ◌||◌, List, [], ◌∷◌, ◌++◌, map, length, append_assoc}
use Rattle.std.specs.Prelude.{Option, Result, Ok, Err, MatchOption, IsErrOf}
use Rattle.std.specs.List.{zip}
use Rattle.std.proofs.lemmas.List.{map-append}
use Rattle.std.proofs.lemmas.List.Elements.{filter_map-append}
use Rattle.formula_core.specs.declared.raw.Ref.{Ref}
use Rattle.model_core.specs.declared.fault.Fault.{Fault}
use Rattle.model_core.specs.declared.checked.Checked.{Checked}
use Rattle.model_core.specs.declared.checked.Checked.TheVariants.{Context}
use Rattle.model_core.specs.declared.checked.CheckedContext.{CheckedContext}
use Rattle.model_core.specs.declared.checked.Labelled.{Labelled}
use Rattle.model_core.specs.declared.component.RawLabelled.{RawLabelled}
use Rattle.model_core.specs.declared.component.RawComponent.{RawComponent}
use Rattle.model_core.specs.declared.component.RawComponent.TheVariants as raw
use Rattle.model_core.specs.Faults.{earlier, first_by_place}
use Rattle.model_core.proofs.Firsts.{first_append}
use Rattle.check_rules.specs.Visible.{Visible, nothing, seen_from, entries, names}
use Rattle.check_rules.specs.Declarations.{brings_clash, declared_twice, labelled_twice}
use Rattle.check_rules.specs.Typed.{Entries, AreTyped, never_typed, in_order}
use Rattle.check_rules.specs.Contexts.{Outcome, ChecksAxioms, ChecksContext, context_env, checked_context_of, names_of, labels_of}
use Rattle.check_rules.specs.Components.{AreByName, AreContextsOf, ChecksBeside, context_in, contexts_in, context_references}
use Rattle.context_check.specs.declared.fault.CheckFault.{CheckFault}
use Rattle.context_check.specs.declared.fault.CheckFault.TheVariants as why
use Rattle.context_check.specs.Typings.{AreTypedSoFar}
use Rattle.context_check.proofs.Repeated.{or_false}

-- what one list gives, and then what another gives
pub after : {X Y : Type 0} (f : List X → List Y) → ((xs ys : List X) → f (xs ++ ys) ≡ f xs ++ f ys) → (a b : List X) (start one two : List Y) →
    one ≡ start ++ f a → two ≡ one ++ f b → two ≡ start ++ f (a ++ b)
after f law a b start one two g h = h ∙ ap (λ o. o ++ f b) g ∙ append_assoc start (f a) (f b) ∙ ap (λ r. start ++ r) (sym (law a b))

pub in_order_append : (env : Entries) (xs ys : List Ref) → in_order env (names_of (xs ++ ys)) ≡ in_order env (names_of xs) ++ in_order env (names_of ys)
in_order_append env xs ys = ap (in_order env) (map-append (λ r. r.name) xs ys) ∙ filter_map-append _ (names_of xs) (names_of ys)

-- known, where nothing more is
pub nothing_more : (known none among : Bool) → known ≡ among → none ≡ false → (known || none) ≡ among
nothing_more known none among e f = ap (λ b. known || b) f ∙ or_false known ∙ e

pub three : (a b c : List Fault) (x y z : Option Fault) → x ≡ first_by_place a → y ≡ first_by_place b → z ≡ first_by_place c → earlier (earlier x y) z ≡ first_by_place (a ++ b ++ c)
three a b c x y z e f g =
    (λ i. earlier (earlier (e i) (f i)) (g i)) ∙ ap (λ u. earlier u (first_by_place c)) (sym (first_append a b)) ∙ sym (first_append (a ++ b) c)

-- the axioms' first fault, or the context
pub concluded : (name : List ℕ) (sets constants : List Ref) (axioms : List RawLabelled) (v : Visible) (start last : Entries) (wanted : List (List ℕ)) (typed : List Labelled)
    (first untyped found : Option Fault) (outcome : Outcome) → start ≡ context_env sets v → wanted ≡ names_of constants → AreTypedSoFar name start wanted axioms typed first last →
    untyped ≡ first_by_place (never_typed name last constants) → found ≡ earlier first untyped →
    MatchOption found (outcome ≡ Ok (Context (checked_context_of name (sets ++ constants) v typed last))) (λ fault. outcome ≡ Err fault) → ChecksAxioms name sets constants axioms v outcome
concluded name sets constants axioms v start last wanted typed first untyped found outcome s w so u e h = (
  typed,
  so.0,
  last,
  subst (λ env. AreTyped name env (names_of constants) axioms typed so.0 last) s (subst (λ ns. AreTyped name start ns axioms typed so.0 last) w so.1),
  subst (λ o. MatchOption o (outcome ≡ Ok (Context (checked_context_of name (sets ++ constants) v typed last))) (λ fault. outcome ≡ Err fault))
      (e ∙ (λ i. earlier (so.2 i) (u i)) ∙ sym (first_append so.0 (never_typed name last constants))) h,
)

-- the first fault of the declarations, or what the axioms give
pub begun : (name : List ℕ) (extends sets constants : List Ref) (axioms : List RawLabelled) (parents : List CheckedContext) (v : Visible) (clash twice label found : Option Fault) (outcome : Outcome) →
    clash ≡ first_by_place (brings_clash name nothing (zip extends parents)) → v ≡ seen_from nothing parents →
    twice ≡ first_by_place (declared_twice name (names (entries v.constants)) (sets ++ constants)) → label ≡ first_by_place (labelled_twice name [] (labels_of axioms)) →
    found ≡ earlier (earlier clash twice) label → MatchOption found (ChecksAxioms name sets constants axioms v outcome) (λ fault. outcome ≡ Err fault) →
    ChecksContext name extends sets constants axioms parents outcome
begun name extends sets constants axioms parents v clash twice label found outcome c s t l e h =
    subst (λ o. MatchOption o (ChecksAxioms name sets constants axioms (seen_from nothing parents) outcome) (λ fault. outcome ≡ Err fault))
    (e ∙ three (brings_clash name nothing (zip extends parents)) (declared_twice name (names (entries (seen_from nothing parents).constants)) (sets ++ constants)) (labelled_twice name [] (labels_of axioms))
    clash twice label c (t ∙ ap (λ w. first_by_place (declared_twice name (names (entries w.constants)) (sets ++ constants))) s) l)
    (subst (λ w. MatchOption found (ChecksAxioms name sets constants axioms w outcome) (λ fault. outcome ≡ Err fault)) s h)

pub contexts_append : {P : Type 0} (now : P → Checked) (xs ys : List P) → contexts_in (map now (xs ++ ys)) ≡ contexts_in (map now xs) ++ contexts_in (map now ys)
contexts_append now xs ys = ap contexts_in (map-append now xs ys) ∙ filter_map-append context_in (map now xs) (map now ys)

pub length_map : {X Y : Type 0} (f : X → Y) (xs : List X) → length (map f xs) ≡ length xs
length_map f [] = refl
length_map f (x ∷ xs) = ap suc (length_map f xs)

pub contexts_of : (contexts : List CheckedContext) → contexts_in (map (λ c. Context c) contexts) ≡ contexts
contexts_of [] = refl
contexts_of (c ∷ contexts) = ap (λ cs. c ∷ cs) (contexts_of contexts)

pub by_name : (component : RawComponent) (parts : List Checked) → AreContextsOf component parts → AreByName (context_references component) (contexts_in parts)
by_name component parts h = subst (AreByName (context_references component)) (sym (ap contexts_in h.1 ∙ contexts_of h.0)) h.2

pub beside : (component : RawComponent) (parts : List Checked) (name : Ref) (extends sets constants : List Ref) (axioms : List RawLabelled) (e s k : List Ref) (a : List RawLabelled)
    (contexts : List CheckedContext) (outcome : Outcome) → component ≡ raw.Context name extends sets constants axioms → e ≡ extends → s ≡ sets → k ≡ constants → a ≡ axioms → contexts ≡ contexts_in parts →
    ChecksContext name.name e s k a contexts outcome → ChecksBeside component parts outcome
beside component parts name extends sets constants axioms e s k a contexts outcome is he hs hk ha hc h =
    subst (λ c. ChecksBeside c parts outcome) (sym is)
    (subst (λ xs. ChecksContext name.name xs sets constants axioms (contexts_in parts) outcome) he
    (subst (λ xs. ChecksContext name.name e xs constants axioms (contexts_in parts) outcome) hs
    (subst (λ xs. ChecksContext name.name e s xs axioms (contexts_in parts) outcome) hk
    (subst (λ xs. ChecksContext name.name e s k xs (contexts_in parts) outcome) ha
    (subst (λ xs. ChecksContext name.name e s k a xs outcome) hc h)))))

-- the fault that is told
abbrev fault_in : Fault → Result Checked CheckFault → Fault
fault_in fault (Ok checked) = fault
fault_in fault (Err (why.Fault told)) = told
fault_in fault (Err why.OutOfMemory) = fault

module _ (P : Outcome → Type 0) where
  pub checked_told : (outcome : Outcome) (checked : Checked) → outcome ≡ Ok checked → P outcome → P (Ok checked)
  checked_told outcome checked is h = subst P is h

  pub fault_told : (outcome : Outcome) (fault f : Fault) → outcome ≡ Err fault → P outcome → IsErrOf {T = Checked} (Err (why.Fault fault)) (why.Fault f) → P (Err f)
  fault_told outcome fault f is h e = subst (λ g. P (Err g)) (ap (fault_in fault) e) (subst P is h)

  pub no_fault_told : (checked : Checked) (f : Fault) → IsErrOf {T = Checked} (Ok checked) (why.Fault f) → P (Err f)
  no_fault_told checked f e = cc

  pub no_memory : (f : Fault) → IsErrOf {T = Checked} (Err why.OutOfMemory) (why.Fault f) → P (Err f)
  no_memory f e = cc
