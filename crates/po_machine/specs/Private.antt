-- What only private contracts cite.
use Rattle.std.specs.Prelude.{ℕ, Bool, true, not, ◌&&◌, ◌||◌, if◌then◌else◌, List, [], ◌∷◌, ◌++◌, codes, drop, map, nat_lt, take}
use Rattle.std.specs.Borrow.{Bor}
use Rattle.std.specs.List.{filter, list_any}
use Rattle.std.specs.Option.{option_map_or}
use Rattle.formula_core.specs.declared.ty.Ty.{Ty}
use Rattle.formula_core.specs.declared.formula.Formula.{Formula}
use Rattle.formula_core.specs.Formulas.{free_of, substituted}
use Rattle.formula_core.specs.Types.{is_integer}
use Rattle.formula_core.specs.Wellness.{type_of}
use Rattle.well_defined.specs.Conditions.{wd_of}
use Rattle.well_defined.specs.Predicates.{finite, member}
use Rattle.model_core.specs.declared.checked.Labelled.{Labelled}
use Rattle.model_core.specs.declared.checked.CheckedMachine.{CheckedMachine}
use Rattle.model_core.specs.declared.checked.CheckedEvent.{CheckedEvent}
use Rattle.model_core.specs.Components.{is_convergent}
use Rattle.model_core.specs.Each.{at_each, for_each, is_among}
use Rattle.sequent_core.specs.declared.sequent.Obligation.{Obligation}
use Rattle.po_rules.specs.Gathering.{table_limit}
use Rattle.po_rules.specs.Parts.{EventParts, actions_of, actions_of_first, as_term, initialises, machine_hyps, open_targets, path_with}
use Rattle.formula_core.specs.Names.{with_prime}
use Rattle.po_rules.specs.Rows.{decrease, from_base, from_choices, labelled_rows, naturals, needed, of_kind}
use Rattle.po_machine.specs.declared.changes.Wanted.{Wanted}
use Rattle.po_machine.specs.declared.changes.Wanted.TheVariants.{All, Among}
use Rattle.po_machine.specs.declared.labelled.Site.{Site}

-- with one obligation more, unless there are too many nodes then
abbrev pub added_within : ℕ → List Obligation → Obligation → List Obligation
added_within nodes obligations o = if nat_lt table_limit nodes then obligations else (obligations ++ o ∷ [])

-- the formulas behind references
abbrev pub referenced : List (Bor Formula) → List Formula
referenced formulas = map (λ f. f.now) formulas

abbrev pub obligation_of : List ℕ → List (List ℕ × Ty) → List Formula → Formula → Obligation
obligation_of name env hyps goal = record { name = name; sequent = record { env = env; hyps = hyps; goal = goal } }

abbrev pub is_wanted_name : Wanted → List ℕ → Bool
is_wanted_name All name = true
is_wanted_name (Among names) name = is_among names name

-- those pairs whose names are wanted
abbrev pub wanted_of : {V : Type 0} → Wanted → List (List ℕ × V) → List (List ℕ × V)
wanted_of wanted pairs = filter (λ p. is_wanted_name wanted p.0) pairs

-- the targets whose new values aren't given, own ones and lost ones
abbrev pub wanted_targets : CheckedMachine → CheckedEvent → List CheckedEvent → List (List ℕ × Ty)
wanted_targets m e refined = for_each open_targets (actions_of e) ++ filter (λ x. is_among m.lost x.0) (for_each open_targets (actions_of_first refined))

abbrev pub primed_value : List (List ℕ × Formula) → List ℕ × Ty → List ℕ × Formula
primed_value after x = ((with_prime x).0, substituted after (as_term x))

abbrev pub substituted_witness : List (List ℕ × Formula) → List ℕ × Formula → List ℕ × Formula
substituted_witness pairs w = (w.0, substituted pairs w.1)

-- the front of the names of what stands there
abbrev pub site_path : Site → List ℕ
site_path s = option_map_or (λ e. path_with s.component.now e.now) s.event s.component.now

abbrev pub obligation_name : Site → List ℕ → List ℕ → List ℕ
obligation_name s label kind = path_with (site_path s) (of_kind label kind)

-- In what follows, `hyps` are the hypotheses with the labelled formulas before.
abbrev pub needed_at : Site → List Formula → List ℕ → List ℕ → Formula → List Obligation
needed_at s hyps label kind goal = needed (obligation_name s label kind) s.env.now hyps goal

abbrev pub theorem_at : Site → List Formula → Labelled → List Obligation
theorem_at s hyps l = if l.theorem then needed_at s hyps l.label (codes "THM") l.formula else []

abbrev pub row_at : Site → List Formula → Labelled → List Obligation
row_at s hyps l = needed_at s hyps l.label (codes "WD") (wd_of l.formula) ++ theorem_at s hyps l

abbrev pub rows_at : Site → List Formula → List Labelled → List Obligation
rows_at s hyps [] = []
rows_at s hyps (l ∷ own) = row_at s hyps l ++ rows_at s (hyps ++ l.formula ∷ []) own

-- the rows of own labelled formulas, which stand behind inherited ones
abbrev pub own_rows_at : Site → List Formula → List Labelled → ℕ → List Obligation
own_rows_at s hyps all own_from = at_each (labelled_rows (site_path s) s.env.now hyps) (take own_from all) (drop own_from all)

-- an identifier that is free in the formula is among those that are changed
abbrev pub has_changed : List (List ℕ) → Formula → Bool
has_changed changed f = list_any (λ x. is_among changed x.0) (free_of f)

abbrev pub is_to_keep : CheckedEvent → List (List ℕ) → Labelled → Bool
is_to_keep e changed i = not i.theorem && (initialises e || has_changed changed i.formula)

-- `FIN`, and `e/NAT` and `e/VAR`, of a variant
abbrev pub finite_row : CheckedMachine → Formula → List Obligation
finite_row m v = if is_integer (type_of v) then [] else needed (path_with m.name (codes "FIN")) m.env (machine_hyps m) (finite v)

abbrev pub natural_row : EventParts → Formula → List Obligation
natural_row p v = if is_integer (type_of v) then from_base p (codes "NAT") (member v naturals) else []

abbrev pub decrease_row : CheckedEvent → EventParts → Formula → List Obligation
decrease_row e p v = from_choices p (codes "VAR") (decrease (is_integer (type_of v)) (is_convergent e.convergence) (substituted p.after v) v)
