-- The names of a rule's formulas: each is used, or an antecedent adds it.
use Rattle.std.proofs.Common.{◌≡◌, sym, ap, subst, refl, ℕ, Bool, true, false, List, [], ◌∷◌, ◌++◌, map, None}
use Rattle.std.specs.Prelude.{not, filter, Contains}
use Rattle.std.specs.List.{AllByRecursion}
use Rattle.std.proofs.lemmas.List.Elements.{Contains-append_left, Contains-append_right}
use Rattle.formula_core.specs.declared.Ty.{Ty}
use Rattle.formula_core.specs.declared.Formula.{Formula}
use Rattle.formula_core.specs.Env.{type_in}
use Rattle.formula_core.specs.Formulas.{joined}
use Rattle.formula_core.specs.Identifiers.{carriers, identifiers}
use Rattle.formula_core.specs.Typed.{Stands}
use Rattle.formula_core.proofs.Keeping.{both, front, all_more}
use Rattle.rule_table.specs.declared.rule.Antecedent.{Antecedent}
use Rattle.rule_table.specs.declared.rule.Rule.{Rule}
use Rattle.sequent_core.specs.declared.sequent.Sequent.{Sequent}
use Rattle.rule_table.specs.Rules.{IsRule, antecedent_formulas, needed_formulas, body_of, terms_of, formulas_of, added_by, names_in, sorted_by_name, is_named}
use Rattle.sequent_core.specs.Trees.{IsFresh}
use Rattle.rule_table.proofs.InOrder.{all_in_order, each_in_order}
use Rattle.proof_deps.proofs.Carried.{Names, at, names_closed}
use Rattle.proof_deps.proofs.Envs.{kept, filtered, stands_there, named_apart}

-- the names of a rule's formulas
abbrev pub names_of : Rule → Names
names_of r = names_in (formulas_of r.kind (body_of r))

-- the formula doesn't name x
abbrev pub Avoids : List ℕ × Ty → Formula → Type 0
Avoids x f = Contains (identifiers f) x → ⊥

module _ (all added : Names) where
  abbrev not_added : List ℕ × Ty → Bool
  not_added y = not (is_named added y.0)

  abbrev used : Names
  used = sorted_by_name (filter not_added all)

  used_or_added : AllByRecursion (Stands (sorted_by_name all)) all → (x : List ℕ × Ty) → Contains all x → is_named added x.0 ≡ false → Stands used x
  used_or_added one x c e =
      at (Stands used) (filter not_added all) x (each_in_order (sorted_by_name all) (filter not_added all) (filtered not_added (Stands (sorted_by_name all)) all one))
      (at (λ y. not_added y ≡ true → Contains (filter not_added all) y) all x (kept not_added all) c (ap not e))

  used_keep : (P : List ℕ × Ty → Type 0) → AllByRecursion P all → AllByRecursion P used
  used_keep P h = all_in_order P (filter not_added all) (filtered not_added P all h)

fresh_joined : (s : Sequent) (ants : List Antecedent) → AllByRecursion (IsFresh s) ants → AllByRecursion (λ z. type_in s.env z.0 ≡ None) (joined (map (λ a. a.idents) ants))
fresh_joined s [] h = tt
fresh_joined s (a ∷ ants) h = both (λ z. type_in s.env z.0 ≡ None) a.idents (joined (map (λ b. b.idents) ants)) h.0 (fresh_joined s ants h.1)

avoid_each : (x : List ℕ × Ty) (fs : List Formula) → (Contains (names_in fs) x → ⊥) → AllByRecursion (Avoids x) fs
avoid_each x [] h = tt
avoid_each x (f ∷ fs) h = (λ c. h (Contains-append_left (identifiers f) (names_in fs) x c), avoid_each x fs (λ c. h (Contains-append_right (identifiers f) (names_in fs) x c)))

-- A rule whose used names stand in one environment, and whose added names aren't in another one, doesn't name what stands in the other one alone.
module _ (r : Rule) (is : IsRule r) (x : List ℕ × Ty) where
  pub names_avoid : (s : Sequent) (env : Names) → AllByRecursion (IsFresh s) r.antecedents → Stands s.env x → AllByRecursion (Stands env) r.used → (Stands env x → ⊥) → Contains (names_of r) x → ⊥
  names_avoid s env fresh there stand away c =
      let go : (b : Bool) → is_named (added_by (body_of r)) x.0 ≡ b → ⊥ = elim [
        | true ↦ λ e. let gone : type_in s.env x.0 ≡ None = named_apart s.env (added_by (body_of r)) x.0 (fresh_joined s r.antecedents fresh) e in cc
        | false ↦ λ e. away (stands_there env r.used stand x (subst (λ u. Stands u x) (sym is.used) (used_or_added (names_of r) (added_by (body_of r)) is.sound.one_type x c e)))
      ] in
      go (is_named (added_by (body_of r)) x.0) refl

  pub used_avoid : (Contains (names_of r) x → ⊥) → AllByRecursion (λ y. Contains (carriers y.1) x → ⊥) r.used
  used_avoid away =
      let P : List ℕ × Ty → Type 0 = λ y. Contains (carriers y.1) x → ⊥ in
      let N : Names = names_of r in
      subst (AllByRecursion P) (sym is.used) (used_keep N (added_by (body_of r)) P
      (all_more (λ y. AllByRecursion (Contains N) (carriers y.1)) P (λ y h c. away (at (Contains N) (carriers y.1) x h c)) N (names_closed (formulas_of r.kind (body_of r)))))

  pub needed_avoid : (Contains (names_of r) x → ⊥) → AllByRecursion (Avoids x) (needed_formulas (body_of r))
  needed_avoid away =
      let needed : List Formula = needed_formulas (body_of r) in
      let left : List Formula = joined (map antecedent_formulas r.antecedents) in
      front (Avoids x) needed left (front (Avoids x) (needed ++ left) (terms_of r.kind) (avoid_each x (formulas_of r.kind (body_of r)) away))
