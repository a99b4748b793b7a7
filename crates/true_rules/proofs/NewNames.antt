-- The names of which formulas speak, and other values for new ones.
use Rattle.std.proofs.Common.{Bool, Contains, IsTrue, List, None, Option, Some, [], arith, cond, false, map, refl, reverse, subst, suc, sym, true, ap, ℕ, ◌++◌, ◌∙◌, ◌∷◌, ◌≡◌}
use Rattle.std.proofs.lemmas.Cmp.{nat_list_eq_equiv}
use Rattle.std.proofs.lemmas.Map.Views.{Contains-from_lookup, lookup-from_Contains}
use Rattle.std.specs.Cmp.Lexicographic.{same_text}
use Rattle.std.specs.List.{AllByRecursion, IsDistinct}
use Rattle.std.specs.Map.{keys_of}
use Rattle.std.specs.Option.{option_map_or, option_to_list}
use Rattle.std.specs.Prelude.{bytes_eq, if◌then◌else◌}
use Rattle.formula_core.proofs.Equations.{carriers-Given, carriers-Pow, identifiers-Free}
use Rattle.formula_core.proofs.Keeping.{all_more, back, both, front, instantiated_keeps}
use Rattle.formula_core.proofs.TypedIn.{stands_more}
use Rattle.formula_core.specs.Env.{HasDistinctNames, type_in}
use Rattle.formula_core.specs.Formulas.{instantiated}
use Rattle.formula_core.specs.Identifiers.{carriers, identifiers}
use Rattle.formula_core.specs.Shifting.{as_terms}
use Rattle.formula_core.specs.Typed.{Stands}
use Rattle.formula_core.specs.Wellness.{type_of, type_of_step}
use Rattle.formula_core.specs.declared.Formula.{Formula}
use Rattle.formula_core.specs.declared.Formula.TheVariants.{Free}
use Rattle.formula_core.specs.declared.Ty.{Ty}
use Rattle.formula_core.specs.declared.Ty.TheVariants as ty
use Rattle.formula_core.specs.declared.formula.Formula.TheViews.{outs-Free}
use Rattle.rule_table.specs.Rules.{antecedent_formulas}
use Rattle.rule_table.specs.declared.rule.Antecedent.{Antecedent}
use Rattle.sequent_core.specs.Trees.{extended, goal_or}
use Rattle.sequent_core.specs.declared.sequent.Sequent.{Sequent}
use Rattle.meanings.specs.Denotations.{AreTrue, Assignment, denotation, holds}
use Rattle.meanings.specs.Interpretations.{NamesCarriers}
use Rattle.meanings.specs.Operations.{truth_value}
use Rattle.meanings.specs.Universes.{Valuation, Universe, cast}
use Rattle.meanings.specs.Values.{Denotation, boolean_sort, carrier_sort, power_sort, sort}
use Rattle.meanings.proofs.Casts.{cast_known}
use Rattle.meanings.proofs.Denotations.{denotation-Free}
use Rattle.meanings.proofs.Fitting.{IsWellIn, OfEach}
use Rattle.meanings.proofs.Lists.{all_contained}
use Rattle.meanings.proofs.Quantifiers.{sorts_are}
use Rattle.meanings.proofs.Truths.{true_in}
use Rattle.meanings.proofs.Valuations.{Agree, names_agree}
use Rattle.true_rules.proofs.Instances.{IsClosed, instance_true}

abbrev pub Identifiers : Type 0
Identifiers = List (List ℕ × Ty)

-- each formula of a sequent speaks of the names of its environment alone
pub record IsNamed (s : Sequent) : Type 0 where
  pub hyps : AllByRecursion (OfEach (Stands s.env)) s.hyps
  pub goal : OfEach (Stands s.env) s.goal

-- what stands in the environment stands in a longer one
pub longer : (env ids : Identifiers) (f : Formula) → OfEach (Stands env) f → OfEach (Stands (env ++ ids)) f
longer env ids f h = all_more (Stands env) (Stands (env ++ ids)) (stands_more env ids) (identifiers f) h

goal_named : (P : Formula → Type 0) (o : Option Formula) (g : Formula) → P g → AllByRecursion P (option_to_list o)
    → P (goal_or o g)
goal_named P None g h k = h
goal_named P (Some new) g h k = k.0

-- an antecedent whose formulas speak of the old names and its own
pub left_named : (s : Sequent) → IsNamed s → (a : Antecedent)
    → AllByRecursion (OfEach (Stands (s.env ++ a.idents))) (antecedent_formulas a) → IsNamed (extended s a)
left_named s named a h =
    let P : Formula → Type 0 = OfEach (Stands (s.env ++ a.idents)) in
    let old = longer s.env a.idents in let goal = option_to_list a.goal in
    record {
      hyps = both P s.hyps a.hyps (all_more (OfEach (Stands s.env)) P old s.hyps named.hyps) (front P a.hyps goal h);
      goal = goal_named P a.goal s.goal (old s.goal named.goal) (back P a.hyps goal h);
    }

-- what holds of each of some identifiers holds of one that stands among them
pub found_in : (P : List ℕ × Ty → Type 0) (xs : Identifiers) → AllByRecursion P xs → (x : List ℕ × Ty) → Stands xs x
    → P x
found_in P xs all x e = all_contained P xs x all (Contains-from_lookup (λ a b h. same_text a b (sym h)) x.0 x.1 xs e)

each_of : {X : Type 0} → (P : X → Type 0) (xs : List X) → ((x : X) → Contains xs x → P x) → AllByRecursion P xs
each_of P [] f = tt
each_of P (x ∷ xs) f = (f x (0, omega arith, refl), each_of P xs (λ y c. f y (suc c.0, omega (arith, c.1), c.2)))

-- the identifiers are not in the environment
abbrev pub AreNew : Identifiers → Identifiers → Type 0
AreNew env ids = AllByRecursion (λ x. type_in env x.0 ≡ None) ids

none_more : (env ids : Identifiers) (name : List ℕ) → type_in env name ≡ None
    → type_in (env ++ ids) name ≡ type_in ids name
none_more [] ids name h = refl
none_more (z ∷ env) ids name h = go (bytes_eq name z.0) h (none_more env ids name)
  where
    go : (b : Bool) → cond b (Some z.1) (type_in env name) ≡ None
        → (type_in env name ≡ None → type_in (env ++ ids) name ≡ type_in ids name)
        → cond b (Some z.1) (type_in (env ++ ids) name) ≡ type_in ids name
    go true k rest = absurd cc
    go false k rest = rest k

-- new identifiers whose carrier sets stand in the environment
module _ (env ids : Identifiers) (distinct : HasDistinctNames ids) (new : AreNew env ids)
    (sets : AllByRecursion (λ x. AllByRecursion (Stands env) (carriers x.1)) ids) where
  each_stands : (xs : Identifiers) → AreNew env xs → AllByRecursion (Stands ids) xs
      → AllByRecursion (λ x. AllByRecursion (Stands env) (carriers x.1)) xs
      → AllByRecursion (OfEach (Stands (env ++ ids))) (as_terms xs)
  each_stands [] fresh h k = tt
  each_stands (x ∷ xs) fresh h k = (
    subst (AllByRecursion (Stands (env ++ ids))) (sym (identifiers-Free x.0 x.1)) (
      none_more env ids x.0 fresh.0
          ∙ h.0,
      all_more (Stands env) (Stands (env ++ ids)) (stands_more env ids) (carriers x.1) k.0,
    ),
    each_stands xs fresh.1 h.1 k.1,
  )

  -- an instance at new identifiers speaks of the old names and of these
  pub instance_named : (p : Formula) → OfEach (Stands env) p
      → OfEach (Stands (env ++ ids)) (instantiated (as_terms ids) 0 p)
  instance_named p h =
      let stand = each_of (Stands ids) ids (λ x c. lookup-from_Contains nat_list_eq_equiv x.0 x.1 ids distinct c) in
      instantiated_keeps (Stands (env ++ ids)) (as_terms ids) (each_stands ids new stand sets) p 0 (longer env ids p h)

types_of_terms : (ids : Identifiers) → map type_of (as_terms ids) ≡ map (λ x. x.1) ids
types_of_terms [] = refl
types_of_terms (x ∷ ids) = λ i. ap type_of_step (outs-Free x.0 x.1) i ∷ types_of_terms ids i

module _ {carrier : List ℕ → Type 0} (U : Universe carrier) where
  -- the value that stands beside a name
  abbrev value_at : Identifiers → Assignment U → List ℕ → Denotation carrier
  value_at (x ∷ ids) (v ∷ es) name = if bytes_eq x.0 name then v else value_at ids es name
  value_at _ _ name = (boolean_sort, true)

  at_others : (x : List ℕ) (v : Denotation carrier) (f : List ℕ → Denotation carrier) (ids : Identifiers)
      → AllByRecursion (λ n. bytes_eq x n ≡ false) (keys_of ids)
      → map (λ y. if bytes_eq x y.0 then v else f y.0) ids ≡ map (λ y. f y.0) ids
  at_others x v f [] h = refl
  at_others x v f (y ∷ ids) h = λ i. (if h.0 i then v else f y.0) ∷ at_others x v f ids h.1 i

  values_at : (ids : Identifiers) → HasDistinctNames ids → (es : Assignment U)
      → sorts_are U es ≡ map sort (map (λ x. x.1) ids)
      → map (λ x. value_at ids es x.0) ids ≡ es
  unfolding IsDistinct
  values_at [] d [] e = refl
  values_at [] d (v ∷ es) e = absurd cc
  values_at (x ∷ ids) d [] e = absurd cc
  values_at (x ∷ ids) d (v ∷ es) e =
      let rest : sorts_are U es ≡ map sort (map (λ x. x.1) ids) = cc in
      let others = at_others x.0 v (value_at ids es) ids d.0 ∙ values_at ids d.1 es rest in
      λ i. (if nat_list_eq_equiv.refl x.0 i then v else value_at ids es x.0) ∷ others i

  module _ (env ids : Identifiers) (names : Valuation carrier) (es : Assignment U) where
    -- the names, but for those that aren't in the environment, which have these values
    abbrev pub renewed : Valuation carrier
    renewed name s = option_map_or (λ t. names name s) (type_in env name) (cast U s (value_at ids es name))

    agrees : (x : List ℕ × Ty) → Stands env x → renewed x.0 ≡ names x.0
    agrees x stands = λ i s. option_map_or (λ t. names x.0 s) (stands i) (cast U s (value_at ids es x.0))

    -- what stands in the environment means the same
    pub same_meaning : (f : Formula) (σ : Assignment U) → OfEach (Stands env) f
        → denotation U renewed f σ ≡ denotation U names f σ
    same_meaning f σ named = names_agree U renewed names f σ
        (all_more (Stands env) (Agree U renewed names) agrees (identifiers f) named)

    pub still_true : (fs : List Formula) → AllByRecursion (OfEach (Stands env)) fs → AreTrue U names fs
        → AreTrue U renewed fs
    still_true [] named h = tt
    still_true (f ∷ fs) named h = (ap (truth_value U) (same_meaning f [] named.0) ∙ h.0, still_true fs named.1 h.1)

    -- the carrier sets still stand for themselves, as none of them is new
    pub still_sets : AllByRecursion (λ x. AllByRecursion (Stands env) (carriers x.1)) ids → NamesCarriers U env names
        → NamesCarriers U (env ++ ids) renewed
    still_sets own sets set stands x = go (type_in env set) refl
      where
        old : Stands env (set, ty.Pow (ty.Given set)) → IsTrue (renewed set (power_sort (carrier_sort set)) x)
        old here = (λ i. agrees (set, ty.Pow (ty.Given set)) here i (power_sort (carrier_sort set)) x) ∙ sets set here x

        go : (o : Option Ty) → type_in env set ≡ o → IsTrue (renewed set (power_sort (carrier_sort set)) x)
        go (Some u) e = old (e ∙ sym (stands_more env ids (set, u) e) ∙ stands)
        go None e =
            let all = found_in (λ x. AllByRecursion (Stands env) (carriers x.1)) ids own (set, ty.Pow (ty.Given set))
            (sym (none_more env ids set e) ∙ stands) in
            old (subst (AllByRecursion (Stands env)) (carriers-Pow (ty.Given set) ∙ carriers-Given set) all).0

    terms_are : (xs : Identifiers) (vs : Assignment U) → AreNew env xs → sorts_are U vs ≡ map sort (map (λ x. x.1) xs)
        → map (λ x. value_at ids es x.0) xs ≡ vs
        → map (λ f. denotation U renewed f []) (as_terms xs) ≡ vs
    terms_are [] [] new e at = refl
    terms_are [] (v ∷ vs) new e at = absurd cc
    terms_are (x ∷ xs) [] new e at = absurd cc
    terms_are (x ∷ xs) (v ∷ vs) new e at =
        let first : v.0 ≡ sort x.1 = cc in let sorts : sorts_are U vs ≡ map sort (map (λ x. x.1) xs) = cc in
        let here : value_at ids es x.0 ≡ v = cc in let more : map (λ x. value_at ids es x.0) xs ≡ vs = cc in
        let value : denotation U renewed (Free x.0 x.1) [] ≡ v = denotation-Free U renewed x.0 x.1 []
        ∙ (λ i. (sort x.1, option_map_or (λ t. names x.0 (sort x.1)) (new.0 i) (cast U (sort x.1) (here i))))
        ∙ cast_known U v (sort x.1) first in
        λ i. value i ∷ terms_are xs vs new.1 sorts more i

    closed_terms : (xs : Identifiers) → AllByRecursion (IsClosed U renewed) (as_terms xs)
    closed_terms [] = tt
    closed_terms (x ∷ xs) = (
      λ σ. denotation-Free U renewed x.0 x.1 σ
          ∙ sym (denotation-Free U renewed x.0 x.1 []),
      closed_terms xs,
    )

    -- the instance at new identifiers is what the body is at their values
    pub at_new : HasDistinctNames ids → AreNew env ids → (own : List Ty) → map (λ x. x.1) ids ≡ own
        → sorts_are U es ≡ map sort own
        → (p : Formula) → OfEach (Stands env) p → IsWellIn p (reverse own ++ [])
        → holds U renewed (instantiated (as_terms ids) 0 p) ≡ true_in U names p (reverse es ++ [])
    at_new distinct new own are have p named fits =
        let sorts : sorts_are U es ≡ map sort (map (λ x. x.1) ids) = have ∙ ap (map sort) (sym are) in
        instance_true U renewed (as_terms ids) (closed_terms ids) own (types_of_terms ids ∙ are) p fits
        ∙ (λ i. true_in U renewed p (reverse (terms_are ids es new sorts (values_at ids distinct es sorts) i) ++ []))
        ∙ ap (truth_value U) (same_meaning p (reverse es ++ []) named)
