-- Environments that grow at their ends, and are cut back.
use Rattle.std.proofs.Common.{◌≡◌, ◌≤◌, inl, inr, ◌∙◌, sym, ap, subst, refl, ℕ, Bool, true, false, cond, List, [], ◌∷◌, ◌++◌, take, drop, length, append_assoc, bytes_eq, arith}
use Rattle.std.specs.Prelude.{Option, Some, None, is_some, if◌then◌else◌}
use Rattle.std.specs.List.{AllByRecursion}
use Rattle.std.proofs.Math.Seq.{take-append_seam, drop-append_seam}
use Rattle.std.proofs.lemmas.List.{length-append}
use Rattle.std.proofs.lemmas.Slice.Eq.{bytes_eq-Decides}
use Rattle.formula_core.specs.declared.ty.Ty.{Ty}
use Rattle.formula_core.specs.declared.formula.Formula.{Formula}
use Rattle.formula_core.specs.Env.{type_in}
use Rattle.formula_core.specs.Formulas.{free_of}
use Rattle.type_formula.specs.Answers.{with_typed_name, with_names_typed}
use Rattle.type_action.specs.CoreActions.{with_all}
use Rattle.model_core.specs.declared.fault.Fault.{Fault}
use Rattle.model_core.specs.declared.component.RawEvent.{RawEvent}
use Rattle.model_core.specs.declared.component.RawLabelled.{RawLabelled}
use Rattle.model_core.specs.declared.checked.CheckedEvent.{CheckedEvent}
use Rattle.model_core.specs.declared.checked.Labelled.{Labelled}
use Rattle.check_rules.specs.Contexts.{names_of}
use Rattle.check_rules.specs.Typed.{Entries, AreTyped, in_order}
use Rattle.check_rules.specs.Events.{event_env, inherited_params, abstract_params}
use Rattle.context_check.specs.Typings.{AreTypedSoFar}
use Rattle.context_check.proofs.Views.{append_none}
use Rattle.type_formula.proofs.Named.{all_each}
use Rattle.machine_check.specs.PrivateTyped.{ExtendsEntries}
use Rattle.machine_check.proofs.Params.{with_all_append}

same : (env : Entries) → ExtendsEntries env env
same env = ([], append_none env)

pub further : (env next last : Entries) → ExtendsEntries env next → ExtendsEntries next last → ExtendsEntries env last
further env next last (one, e) (two, f) = (one ++ two, f ∙ ap (λ x. x ++ two) e ∙ append_assoc env one two)

with_one : (env : Entries) (x : List ℕ) (o : Option Ty) → ExtendsEntries env (with_typed_name env x o)
with_one env x None = same env
with_one env x (Some t) = at (is_some (type_in env x))
  where
    at : (b : Bool) → ExtendsEntries env (if b then env else (env ++ (x, t) ∷ []))
    at true = same env
    at false = ((x, t) ∷ [], refl)

pub with_more : (env xs : Entries) → ExtendsEntries env (with_all env xs)
with_more env [] = same env
with_more env (x ∷ xs) =
    further env (with_typed_name env x.0 (Some x.1)) (with_all env (x ∷ xs)) (with_one env x.0 (Some x.1)) (with_more (with_typed_name env x.0 (Some x.1)) xs)

by_formula : (env : Entries) (wanted : List (List ℕ)) (f : Formula) → ExtendsEntries env (with_names_typed env wanted f)
by_formula env [] f = same env
by_formula env (x ∷ xs) f =
    further env (with_typed_name env x (type_in (free_of f) x)) (with_names_typed env (x ∷ xs) f) (with_one env x (type_in (free_of f) x))
    (by_formula (with_typed_name env x (type_in (free_of f) x)) xs f)

module _ (component : List ℕ) (wanted : List (List ℕ)) where
  by_formulas : (env : Entries) (labelled : List RawLabelled) (typed : List Labelled) (faults : List Fault) (last : Entries) → AreTyped component env wanted labelled typed faults last → ExtendsEntries env last
  by_formulas env [] typed faults last h = ([], h.2 ∙ append_none env)
  by_formulas env (l ∷ labelled) typed faults last (inl (f, next, others, has, later, is)) =
      further env next last (by_one has.1.typing.1) (by_formulas next labelled others faults last later)
    where
      by_one : next ≡ with_names_typed env wanted f → ExtendsEntries env next
      by_one e = let g = by_formula env wanted f in (g.0, e ∙ g.1)
  by_formulas env (l ∷ labelled) typed faults last (inr (fault, others, mistyped, later, is)) = by_formulas env labelled typed others last later

  pub by_typing : (env : Entries) (labelled : List RawLabelled) (typed : List Labelled) (first : Option Fault) (last : Entries) →
      AreTypedSoFar component env wanted labelled typed first last → ExtendsEntries env last
  by_typing env labelled typed first last so = by_formulas env labelled typed so.0 last so.1

pub by_two : (env xs ys last : Entries) → last ≡ with_all (with_all env xs) ys → ExtendsEntries env last
by_two env xs ys last is = let g = further env (with_all env xs) (with_all (with_all env xs) ys) (with_more env xs) (with_more (with_all env xs) ys) in (g.0, is ∙ g.1)

-- an event's names stand behind those of its machine
pub by_event : (m : List CheckedEvent) (e : RawEvent) (env start : Entries) → start ≡ event_env m e env → ExtendsEntries env start
by_event m e env start is = by_two env (inherited_params m e) (in_order (abstract_params m e) (names_of e.params)) start is

-- an event's names stand behind those of its machine, after its guards too
pub by_guards : (component : List ℕ) (m : List CheckedEvent) (e : RawEvent) (wanted : List (List ℕ)) (env start : Entries) (labelled : List RawLabelled) (typed : List Labelled) (first : Option Fault) (last : Entries) →
    start ≡ event_env m e env → AreTypedSoFar component start wanted labelled typed first last → ExtendsEntries env last
by_guards component m e wanted env start labelled typed first last is so = further env start last (by_event m e env start is) (by_typing component wanted start labelled typed first last so)

pub no_shorter : (env last now : Entries) (n : ℕ) → ExtendsEntries env last → n ≡ length env → now ≡ last → n ≤ length now
no_shorter env last now n (rest, e) is same = omega (arith, is, ap length (same ∙ e) ∙ length-append env rest)

pub cut_back : (env last : Entries) (n : ℕ) → ExtendsEntries env last → n ≡ length env → take n last ≡ env
cut_back env last n (rest, e) is = (λ i. take (is i) (e i)) ∙ take-append_seam env rest

-- What stands in an environment already isn't added again.

here_first : (x : List ℕ × Ty) (xs : Entries) → is_some (type_in (x ∷ xs) x.0) ≡ true
here_first x xs = ap (λ b. is_some (cond b (Some x.1) (type_in xs x.0))) ((bytes_eq-Decides x.0 x.0).1 refl)

here_later : (x : List ℕ × Ty) (xs : Entries) (n : List ℕ) → is_some (type_in xs n) ≡ true → is_some (type_in (x ∷ xs) n) ≡ true
here_later x xs n h = at (bytes_eq n x.0)
  where
    at : (b : Bool) → is_some (cond b (Some x.1) (type_in xs n)) ≡ true
    at true = refl
    at false = h

all_here : (env rest : Entries) → AllByRecursion (λ x. is_some (type_in (env ++ rest) x.0) ≡ true) env
all_here [] rest = tt
all_here (x ∷ env) rest = (
  here_first x (env ++ rest),
  all_each (λ y. is_some (type_in (env ++ rest) y.0) ≡ true) (λ y. is_some (type_in (x ∷ env ++ rest) y.0) ≡ true) env (λ y h. here_later x (env ++ rest) y.0 h) (all_here env rest),
)

none_added : (env xs : Entries) → AllByRecursion (λ x. is_some (type_in env x.0) ≡ true) xs → with_all env xs ≡ env
none_added env [] h = refl
none_added env (x ∷ xs) h = ap (λ b. with_all (if b then env else (env ++ x ∷ [])) xs) h.0 ∙ none_added env xs h.1

pub added_again : (env more last : Entries) (n : ℕ) → ExtendsEntries env last → n ≡ length env → with_all (with_all env more) (drop n last) ≡ with_all (with_all env more) last
added_again env more last n (rest, e) is =
    let start = with_all env more in
    let more_last = with_more env more in
    let none : with_all start env ≡ start = subst (λ x. with_all x env ≡ x) (sym more_last.1) (none_added (env ++ more_last.0) env (all_here env more_last.0)) in
    ap (with_all start) ((λ i. drop (is i) (e i)) ∙ drop-append_seam env rest)
    ∙ ap (λ x. with_all x rest) (sym none) ∙ sym (with_all_append start env rest) ∙ ap (with_all start) (sym e)
