-- The table of obligations: each row is the list of its obligations, in order.
use Rattle.std.specs.Prelude.{ℕ, Bool, true, false, not, ◌&&◌, ◌||◌, if◌then◌else◌, List, [], ◌∷◌, ◌++◌, map, take, drop, fold, codes, Option, Some, None}
use Rattle.std.specs.Option.{option_to_list}
use Rattle.std.specs.List.{list_any, list_all, filter}
use Rattle.std.specs.Map.{keys_of}
use Rattle.formula_core.specs.declared.ty.Ty.{Ty}
use Rattle.formula_core.specs.declared.ty.Ty.TheVariants as ty
use Rattle.formula_core.specs.declared.formula.Formula.{Formula}
use Rattle.formula_core.specs.declared.formula.Formula.TheVariants as formula
use Rattle.formula_core.specs.declared.op.Op.TheVariants as op
use Rattle.formula_core.specs.declared.op.Binder.TheVariants as binder
use Rattle.formula_core.specs.declared.raw.Action.{Action}
use Rattle.formula_core.specs.declared.raw.Action.TheVariants.{Assign, ChooseIn, ChooseSuch}
use Rattle.formula_core.specs.Env.{type_in}
use Rattle.formula_core.specs.Formulas.{substituted, free_of}
use Rattle.formula_core.specs.Shifting.{abstracted}
use Rattle.formula_core.specs.Types.{is_integer}
use Rattle.formula_core.specs.Wellness.{type_of}
use Rattle.well_defined.specs.Conditions.{wd_of}
use Rattle.well_defined.specs.Connectives.{is_top, conjoined, for_every}
use Rattle.well_defined.specs.Predicates.{predicate, quantified, top, conjunction, disjunction, member, finite, not_empty, less, at_most}
use Rattle.model_core.specs.declared.checked.Labelled.{Labelled}
use Rattle.model_core.specs.declared.checked.CheckedContext.{CheckedContext}
use Rattle.model_core.specs.declared.checked.CheckedMachine.{CheckedMachine}
use Rattle.model_core.specs.declared.checked.CheckedEvent.{CheckedEvent}
use Rattle.model_core.specs.Components.{is_ordinary, is_convergent}
use Rattle.model_core.specs.Each.{at_each, for_each, is_among}
use Rattle.sequent_core.specs.declared.sequent.Obligation.{Obligation}
use Rattle.formula_core.specs.Same.{same_action}
use Rattle.po_rules.specs.Parts.{EventParts, path_with, formulas, initialises, is_extended, actions_of, actions_of_first, open_targets, as_term, new_values, before_after, machine_hyps}
use Rattle.formula_core.specs.Names.{with_prime}

-- the obligation of this name, and none where the goal is ⊤
abbrev pub needed : List ℕ → List (List ℕ × Ty) → List Formula → Formula → List Obligation
needed name env hyps goal = if is_top goal then [] else (record { name = name; sequent = record { env = env; hyps = hyps; goal = goal } } ∷ [])

-- The obligations of an event are called `e/KIND` or `e/l/KIND`. Their hypotheses are the base, or the base and N, or the base, N and W.
abbrev pub from_base : EventParts → List ℕ → Formula → List Obligation
from_base p name goal = needed (path_with p.path name) p.env p.base goal

abbrev pub from_choices : EventParts → List ℕ → Formula → List Obligation
from_choices p name goal = needed (path_with p.path name) p.env (p.base ++ p.choices) goal

abbrev pub from_witnesses : EventParts → List ℕ → Formula → List Obligation
from_witnesses p name goal =
    needed (path_with p.path name) p.env (p.base ++ p.choices ++ map (λ w. w.1) p.witnesses) goal

abbrev pub of_kind : List ℕ → List ℕ → List ℕ
of_kind label word = path_with label word

-- chains associate to the left; the one of nothing is ⊤
abbrev pub chain : (Formula → Formula → Formula) → List Formula → Formula
chain joins [] = top
chain joins (p ∷ ps) = fold joins p ps

-- ∃x·P and ∀x·P of free identifiers
abbrev pub for_some_of : List (List ℕ × Ty) → Formula → Formula
for_some_of ids p = quantified binder.Exists (map (λ x. x.1) ids) (abstracted ids 0 p)

abbrev pub for_every_of : List (List ℕ × Ty) → Formula → Formula
for_every_of ids p = for_every (map (λ x. x.1) ids) (abstracted ids 0 p)

abbrev pub equal_terms : Formula → Formula → Formula
equal_terms a b = predicate op.Equal (a ∷ b ∷ [])

-- `l/WD`, and `l/THM` of a theorem, from these hypotheses and the labelled formulas before l
abbrev pub labelled_rows : List ℕ → List (List ℕ × Ty) → List Formula → List Labelled → Labelled → List Obligation
labelled_rows path env hyps before l =
    needed (path_with path (of_kind l.label (codes "WD"))) env (hyps ++ formulas before) (wd_of l.formula)
    ++ (if l.theorem then needed (path_with path (of_kind l.label (codes "THM"))) env (hyps ++ formulas before) l.formula else [])

-- own axioms, in order
abbrev pub axiom_rows : CheckedContext → List Obligation
axiom_rows c = at_each (labelled_rows c.name c.env []) (take c.own_from c.axioms) (drop c.own_from c.axioms)

-- own invariants, in order
abbrev pub own_invariant_rows : CheckedMachine → List Obligation
own_invariant_rows m = at_each (labelled_rows m.name m.env (formulas m.axioms)) (take m.own_from m.invariants) (drop m.own_from m.invariants)

-- `VWD`, and `FIN` of a set
abbrev pub variant_rows : CheckedMachine → Formula → List Obligation
variant_rows m v =
    needed (path_with m.name (codes "VWD")) m.env (machine_hyps m) (wd_of v)
    ++ (if is_integer (type_of v) then [] else needed (path_with m.name (codes "FIN")) m.env (machine_hyps m) (finite v))

-- `e/g/WD` and `e/g/THM`
abbrev pub guard_rows : CheckedMachine → CheckedEvent → EventParts → List Obligation
guard_rows m e p = at_each (labelled_rows p.path p.env (machine_hyps m)) (take e.own_guards_from e.guards) (drop e.own_guards_from e.guards)

-- `e/x/WWD` and `e/x/WFIS`
abbrev pub witness_row : EventParts → List ℕ × Formula → List Obligation
witness_row p w =
    from_choices p (of_kind w.0 (codes "WWD")) (wd_of w.1)
    ++ from_choices p (of_kind w.0 (codes "WFIS")) (for_some_of (map (λ t. (w.0, t)) (option_to_list (type_in p.env w.0))) w.1)

abbrev pub witness_rows : EventParts → List Obligation
witness_rows p = for_each (witness_row p) p.witnesses

abbrev pub conditions : CheckedEvent → List Labelled
conditions r = filter (λ g. not g.theorem) r.guards

-- `e/g/GRD`: each guard of the one refined event
abbrev pub strengthening_rows : CheckedEvent → List CheckedEvent → EventParts → List Obligation
strengthening_rows e (r ∷ []) p = if is_extended e then [] else for_each (λ g. from_witnesses p (of_kind g.label (codes "GRD")) g.formula) (conditions r)
strengthening_rows e _ p = []

-- `e/MRG`: the guards of some refined event, where there are several
abbrev pub merging_rows : List CheckedEvent → EventParts → List Obligation
merging_rows (r ∷ s ∷ refined) p = from_base p (codes "MRG") (chain disjunction (map (λ x. chain conjunction (formulas (conditions x))) (r ∷ s ∷ refined)))
merging_rows _ p = []

-- the condition of an action's sides
abbrev pub action_condition : Action → Formula
action_condition (Assign pairs) = fold conjoined top (map (λ x. wd_of x.1) pairs)
action_condition (ChooseIn x s) = wd_of s
action_condition (ChooseSuch targets q) = for_every_of (map with_prime targets) (wd_of q)

-- what a nondeterministic action asks for
abbrev pub feasible : Action → List Formula
feasible (Assign pairs) = []
feasible (ChooseIn x s) = not_empty s ∷ []
feasible (ChooseSuch targets q) = for_some_of (map with_prime targets) q ∷ []

-- `e/a/WD` and `e/a/FIS`
abbrev pub action_row : EventParts → List ℕ × Action → List Obligation
action_row p a =
    from_base p (of_kind a.0 (codes "WD")) (action_condition a.1)
    ++ for_each (from_base p (of_kind a.0 (codes "FIS"))) (feasible a.1)

abbrev pub action_rows : CheckedEvent → EventParts → List Obligation
action_rows e p = for_each (action_row p) (drop e.own_actions_from e.actions)

-- `after(x) = E` of a variable that is not lost
abbrev pub simulated_value : CheckedMachine → EventParts → List ℕ × Formula → List Formula
simulated_value m p x = if is_among m.lost x.0 then [] else (equal_terms (substituted p.after (as_term (x.0, type_of x.1))) x.1 ∷ [])

-- what an abstract action says of the values after the event
abbrev pub simulated : CheckedMachine → EventParts → Action → Formula
simulated m p (Assign pairs) = chain conjunction (for_each (simulated_value m p) pairs)
simulated m p a =
    chain conjunction (map (substituted (map (λ x. ((with_prime x).0, substituted p.after (as_term x))) (open_targets a))) (before_after a))

-- `e/a/SIM`: each action of the abstract event that is not an action here
abbrev pub simulation_row : CheckedMachine → CheckedEvent → EventParts → List ℕ × Action → List Obligation
simulation_row m e p a =
    if list_any (same_action a.1) (actions_of e) then [] else from_witnesses p (of_kind a.0 (codes "SIM")) (simulated m p a.1)

abbrev pub simulation_rows : CheckedMachine → CheckedEvent → List CheckedEvent → EventParts → List Obligation
simulation_rows m e [] p = []
simulation_rows m e (r ∷ refined) p = if is_extended e then [] else for_each (simulation_row m e p) r.actions

abbrev pub kept_variables : Option CheckedMachine → List (List ℕ)
kept_variables None = []
kept_variables (Some abstract) = abstract.variables

-- `e/v/EQL`: a variable that was there before is changed here, and not by the abstract event
abbrev pub equality_row : Option CheckedMachine → List CheckedEvent → EventParts → List ℕ → List Obligation
equality_row abstraction refined p v =
    if is_among (kept_variables abstraction) v && is_among (keys_of p.after) v && not (is_among (keys_of (for_each new_values (actions_of_first refined))) v)
    then for_each (λ t. from_witnesses p (of_kind v (codes "EQL")) (equal_terms (substituted p.after (as_term (v, t))) (as_term (v, t)))) (option_to_list (type_in p.env v))
    else []

abbrev pub equality_rows : CheckedMachine → Option CheckedMachine → List CheckedEvent → EventParts → List Obligation
equality_rows m abstraction refined p = for_each (equality_row abstraction refined p) m.variables

-- a variable that is free in the formula is changed
abbrev pub is_changed : EventParts → Formula → Bool
is_changed p f = list_any (λ x. is_among (keys_of p.after) x.0) (free_of f)

-- `e/i/INV`: each own invariant that is no theorem, for INITIALISATION, or where the event changes it
abbrev pub invariant_row : CheckedEvent → EventParts → Labelled → List Obligation
invariant_row e p i =
    if not i.theorem && (initialises e || is_changed p i.formula)
    then from_witnesses p (of_kind i.label (codes "INV")) (substituted p.after i.formula)
    else []

abbrev pub invariant_rows : CheckedMachine → CheckedEvent → EventParts → List Obligation
invariant_rows m e p = for_each (invariant_row e p) (drop m.own_from m.invariants)

abbrev pub is_nil : {X : Type 0} → List X → Bool
is_nil [] = true
is_nil (x ∷ xs) = false

-- it is convergent already in the abstraction
abbrev pub was_convergent : CheckedEvent → List CheckedEvent → Bool
was_convergent e refined = is_convergent e.convergence && not (is_nil refined) && list_all (λ r. is_convergent r.convergence) refined

-- the relation between the variant after an event and before it
abbrev pub decrease : Bool → Bool → Formula → Formula → Formula
decrease true true after before = less after before
decrease true false after before = at_most after before
decrease false true after before = predicate op.ProperSubset (after ∷ before ∷ [])
decrease false false after before = predicate op.Subset (after ∷ before ∷ [])

abbrev pub naturals : Formula
naturals = formula.Node op.Naturals [] (ty.Pow ty.Int)

-- `e/NAT` of an integer, and `e/VAR`
abbrev pub decrease_rows : CheckedEvent → List CheckedEvent → EventParts → Formula → List Obligation
decrease_rows e refined p v =
    if is_ordinary e.convergence || was_convergent e refined then []
    else ((if is_integer (type_of v) then from_base p (codes "NAT") (member v naturals) else [])
    ++ from_choices p (codes "VAR") (decrease (is_integer (type_of v)) (is_convergent e.convergence) (substituted p.after v) v))
