-- The obligations of a component have different names.
use Rattle.std.proofs.Common.{◌≡◌, ◌∙◌, sym, ap, subst, refl, map, ℕ, List, [], ◌∷◌, ◌++◌, append_assoc, take, bytes_eq}
use Rattle.std.specs.Prelude.{◌≢◌, if◌then◌else◌, codes, Option, Some, None, IfSome}
use Rattle.std.specs.Option.{option_to_list}
use Rattle.std.specs.List.{AllByRecursion, find}
use Rattle.formula_core.specs.declared.formula.Formula.{Formula}
use Rattle.formula_core.specs.Types.{is_integer}
use Rattle.formula_core.specs.Wellness.{type_of}
use Rattle.type_formula.proofs.Named.{all_each}
use Rattle.well_defined.specs.Conditions.{wd_of}
use Rattle.well_defined.specs.Predicates.{finite}
use Rattle.model_core.specs.declared.checked.Checked.TheVariants.{Context, Machine}
use Rattle.model_core.specs.declared.checked.CheckedEvent.{CheckedEvent}
use Rattle.model_core.specs.declared.checked.CheckedMachine.{CheckedMachine}
use Rattle.model_core.specs.declared.checked.Labelled.{Labelled}
use Rattle.model_core.specs.Each.{at_each, for_each}
use Rattle.sequent_core.specs.declared.sequent.Obligation.{Obligation}
use Rattle.po_rules.specs.Parts.{path_with, formulas, machine_hyps}
use Rattle.model_core.specs.Refined.{refined_by}
use Rattle.po_rules.specs.Rows.{needed, labelled_rows, axiom_rows, own_invariant_rows, variant_rows}
use Rattle.po_rules.specs.Tables.{all_rows, event_rows, machine_rows}
use Rattle.name_laws.specs.Labels.{IsPlain, labels, own_axioms, own_invariants, HasPlainNamesInEvent, HasPlainNamesInMachine, HasDistinctLabelsInEvent, HasDistinctLabelsInMachine, AreOnce}
use Rattle.name_laws.specs.Laws.{HaveDistinctNames, AreNamedAfter, IsWellNamed, ObligationsHaveDistinctNames}
use Rattle.name_laws.proofs.Lists.{differ, all_unmap, all_two, all_told, found, all_given, keyed_once, once_keyed}
use Rattle.name_laws.proofs.Calls.{Parts, behind, AreCalled, name_of, Begins, none_called, both_called, if_called, keyed_called, for_keys, for_option, plain_kind, word_called, words_called, labelled_called}
use Rattle.name_laws.proofs.Events.{place_of, IsBehindEvent, numbers_tell, IsGoodEvent, event_called}

-- own axioms or own invariants
labelled_once : (path : List ℕ) (env : _) (hyps : List Formula) (before own : List Labelled) → AllByRecursion IsPlain (labels own) → AreOnce (labels own) →
    AreCalled path (λ c. place_of c ≡ 1) (at_each (labelled_rows path env hyps) before own)
labelled_once path env hyps before own plain once =
    let Q : Parts → Type 0 = λ c. place_of c ≡ 1 in
    keyed_called path (λ l. l.label) Q (labelled_rows path env hyps) before own
    (all_each (λ l. IsPlain l.label) (λ l. (b : List Labelled) → AreCalled path (Begins l.label Q) (labelled_rows path env hyps b l)) own
    (λ l h b. labelled_called path Q env hyps b l h refl refl) (all_unmap IsPlain (λ l. l.label) own plain)) (keyed_once (λ l. l.label) own once)

variant_called : (m : CheckedMachine) (v : Formula) → AreCalled m.name (λ c. place_of c ≡ 0) (variant_rows m v)
variant_called m v =
    let defined = needed (path_with m.name (codes "VWD")) m.env (machine_hyps m) (wd_of v) in
    let is_finite = needed (path_with m.name (codes "FIN")) m.env (machine_hyps m) (finite v) in
    words_called m.name (codes "VWD") (codes "FIN") (λ c. place_of c ≡ 0) defined (if is_integer (type_of v) then [] else is_finite) (differ (codes "VWD") (codes "FIN") refl) refl refl
    (word_called m.name (codes "VWD") m.env (machine_hyps m) (wd_of v) (plain_kind (codes "VWD") refl))
    (if_called m.name (λ c. c ≡ codes "FIN" ∷ []) (is_integer (type_of v)) [] is_finite (none_called m.name (λ c. c ≡ codes "FIN" ∷ []))
    (word_called m.name (codes "FIN") m.env (machine_hyps m) (finite v) (plain_kind (codes "FIN") refl)))

-- behind the component's name an obligation of an event begins with the event's
in_component : (path event : List ℕ) (os : List Obligation) → IsPlain event → AreCalled (path_with path event) IsBehindEvent os → AreCalled path (Begins event (λ c. place_of c ≡ 2)) os
in_component path event os plain a = record {
  once = a.once;
  each = λ o i. let c = a.each o i in
      record {
        first = event;
        others = c.first ∷ c.others;
        plain = (plain, c.plain);
        holds = (refl, c.holds event);
        is = c.is ∙ append_assoc path (47 ∷ event) (47 ∷ (c.first ++ behind c.others));
      };
}

both_good : (events : List CheckedEvent) → AllByRecursion HasPlainNamesInEvent events → AllByRecursion HasDistinctLabelsInEvent events → AllByRecursion IsGoodEvent events
both_good events h k = all_two HasPlainNamesInEvent HasDistinctLabelsInEvent IsGoodEvent events (λ e a b. (a, b)) h k

refined_good : (abstraction : Option CheckedMachine) (e : CheckedEvent) → IfSome abstraction (λ a. IsWellNamed (Machine a)) → AllByRecursion IsGoodEvent (refined_by abstraction e)
refined_good None e h = tt
refined_good (Some a) e h =
    all_given IsGoodEvent (λ name. find (λ x. bytes_eq name x.name) a.events) e.refines
    (λ name. found IsGoodEvent (λ x. bytes_eq name x.name) a.events (both_good a.events h.0.events h.1.events))

machine_called : (m : CheckedMachine) (abstraction : Option CheckedMachine) → HasPlainNamesInMachine m → HasDistinctLabelsInMachine m → IfSome abstraction (λ a. IsWellNamed (Machine a)) →
    AreCalled m.name (λ c. Unit {0}) (machine_rows m abstraction)
machine_called m abstraction plain once above =
    let variants = for_each (variant_rows m) (option_to_list m.variant) in
    let events = for_each (event_rows all_rows m abstraction) m.events in
    let once_invariants = keyed_once (λ i. i.label) (own_invariants m) once.invariants in
    let once_variables = keyed_once (λ v. v) m.variables (subst AreOnce (sym (map_same m.variables)) once.variables) in
    let event : (e : CheckedEvent) → IsGoodEvent e → AreCalled m.name (Begins e.name (λ c. place_of c ≡ 2)) (event_rows all_rows m abstraction e) = λ e good.
    in_component m.name e.name (event_rows all_rows m abstraction e) good.0.name
    (event_called m abstraction e (refined_by abstraction e) good (refined_good abstraction e above) plain.invariants once_invariants plain.variables once_variables) in
    both_called m.name (λ c. place_of c ≢ 2) (λ c. place_of c ≡ 2) (λ c. Unit {0}) (own_invariant_rows m ++ variants) events (λ c h. tt) (λ c h. tt) (λ c h k. h k)
    (both_called m.name (λ c. place_of c ≡ 1) (λ c. place_of c ≡ 0) (λ c. place_of c ≢ 2) (own_invariant_rows m) variants
    (λ c h k. numbers_tell 1 2 refl (sym h ∙ k)) (λ c h k. numbers_tell 0 2 refl (sym h ∙ k)) (λ c h k. numbers_tell 1 0 refl (sym h ∙ k))
    (labelled_once m.name m.env (formulas m.axioms) (take m.own_from m.invariants) (own_invariants m) plain.invariants once.invariants)
    (for_option m.name (λ c. place_of c ≡ 0) (variant_rows m) m.variant (variant_called m)))
    (for_keys m.name (λ e. e.name) (λ c. place_of c ≡ 2) (event_rows all_rows m abstraction) m.events
    (all_each IsGoodEvent (λ e. AreCalled m.name (Begins e.name (λ c. place_of c ≡ 2)) (event_rows all_rows m abstraction e)) m.events event (both_good m.events plain.events once.events))
    (keyed_once (λ e. e.name) m.events once.names))
  where
    map_same : (xs : List (List ℕ)) → map (λ x. x) xs ≡ xs
    map_same [] = refl
    map_same (x ∷ xs) = ap (λ ys. x ∷ ys) (map_same xs)

named : (path : List ℕ) (P : Parts → Type 0) (os : List Obligation) → AreCalled path P os → HaveDistinctNames os × AreNamedAfter path os
named path P os a = (
  once_keyed name_of os a.once,
  all_told (λ o. (rest : List ℕ) × (o.name ≡ path_with path rest)) os (λ o i. let c = a.each o i in (c.first ++ behind c.others, c.is)),
)

pub distinct_names : ObligationsHaveDistinctNames
distinct_names (Context c) abstraction good above =
    named c.name (λ c. place_of c ≡ 1) (axiom_rows c) (labelled_once c.name c.env [] (take c.own_from c.axioms) (own_axioms c) good.0.axioms good.1)
distinct_names (Machine m) abstraction good above = named m.name (λ c. Unit {0}) (machine_rows m abstraction) (machine_called m abstraction good.0 good.1 above)
