-- What a law does at a place keeps what the whole denotes.
use Rattle.std.proofs.Common.{List, None, Option, Some, [], ap, map, refl, reverse, slice_get, slice_set, subst, suc, sym, zero, ℕ, ◌++◌, ◌∙◌, ◌∷◌, ◌≡◌}
use Rattle.std.specs.Option.{option_and_then, option_map}
use Rattle.formula_core.specs.Typed.{Stands}
use Rattle.formula_core.specs.declared.Formula.{Formula, out-Formula}
use Rattle.formula_core.specs.declared.Formula.TheOpen.{Bind as BindF, Bound as BoundF, Formula-F, Free as FreeF, Int as IntF, Node as NodeF}
use Rattle.formula_core.specs.declared.Formula.TheVariants.{Bind, Node}
use Rattle.formula_core.specs.declared.Ty.{Ty}
use Rattle.formula_core.specs.declared.formula.Formula.TheViews.{roll-Formula, roll-out-Formula, rolls-Bind, rolls-Node}
use Rattle.rule_table.specs.Rewriting.{part, part_at, rewritten, right_side, with_part_at}
use Rattle.rule_table.specs.declared.law.Law.{Law}
use Rattle.meanings.specs.Interpretations.{NamesCarriers}
use Rattle.meanings.specs.Universes.{Valuation, Universe}
use Rattle.meanings.proofs.Denotations.{Means, same-Bind, same-Node}
use Rattle.meanings.proofs.Fitting.{IsWellIn, OfEach, named_below, named_parts, well_below, well_parts}
use Rattle.meanings.proofs.Lists.{found}
use Rattle.true_laws.proofs.Forms.{mapped_of}

module _ {carrier : List ℕ → Type 0} (U : Universe carrier) (names : Valuation carrier) (P : List ℕ × Ty → Type 0) where
  -- a formula that is well below some identifiers, and whose names have a property
  abbrev pub Ready : Formula → List Ty → Type 0
  Ready f types = IsWellIn f types × OfEach P f

  -- what is made of a formula means the same, and what a law makes
  abbrev pub Keeps : (Formula → Option Formula) → Type 0
  Keeps make =
      (f g : Formula) (types : List Ty) → Ready f types → make f ≡ Some g → Means U names g ≡ Means U names f

  abbrev pub LawKeeps : Law → Type 0
  LawKeeps law = Keeps (right_side law)

  set_same : (fs : List Formula) (i : ℕ) (p q : Formula) → slice_get fs i ≡ Some p → Means U names q ≡ Means U names p
      → map (Means U names) (slice_set fs i q) ≡ map (Means U names) fs
  set_same [] i p q e h = absurd cc
  set_same (f ∷ fs) zero p q e h = let same : f ≡ p = cc in λ i.
      (h ∙ ap (Means U names) (sym same)) i ∷ map (Means U names) fs
  set_same (f ∷ fs) (suc i) p q e h = λ j. Means U names f ∷ set_same fs i p q e h j

  module _ (law : Law) (keeps : LawKeeps law) where
    at_part : (i : ℕ) (place : List ℕ) → Keeps (rewritten law place)
        → (x : Formula-F Formula) (g : Formula) (types : List Ty) → Ready (roll-Formula x) types
        → (o : Option Formula) → part_at x i ≡ o
        → option_and_then (λ p. option_map (with_part_at x i) (rewritten law place p)) o ≡ Some g
        → Means U names g ≡ Means U names (roll-Formula x)
    at_part i place kept x g types ready None e h = absurd cc
    at_part i place kept (IntF n) g types ready (Some p) e h = absurd cc
    at_part i place kept (FreeF name t) g types ready (Some p) e h = absurd cc
    at_part i place kept (BoundF k t) g types ready (Some p) e h = absurd cc
    at_part i place kept (NodeF op parts t) g types ready (Some p) e h =
        let (q, new, made) = mapped_of (with_part_at (NodeF op parts t) i) (rewritten law place p) g h in
        let whole : Ready (Node op parts t) types = subst (λ f. Ready f types) (rolls-Node op parts t) ready in
        let p_ready : Ready p types = (
          found (λ p. IsWellIn p types) parts i p (well_parts op parts t types whole.0) e,
          found (OfEach P) parts i p (named_parts P op parts t whole.1) e,
        ) in
        let same = set_same parts i p q e (kept p q types p_ready new) in
        ap (Means U names) (sym made) ∙ same-Node U names op (slice_set parts i q) parts t same
        ∙ ap (Means U names) (sym (rolls-Node op parts t))
    at_part i place kept (BindF b own parts t) g types ready (Some p) e h =
        let (q, new, made) = mapped_of (with_part_at (BindF b own parts t) i) (rewritten law place p) g h in
        let whole : Ready (Bind b own parts t) types = subst (λ f. Ready f types) (rolls-Bind b own parts t) ready in
        let p_ready : Ready p (reverse own ++ types) = (
          found (λ p. IsWellIn p (reverse own ++ types)) parts i p (well_below b own parts t types whole.0) e,
          found (OfEach P) parts i p (named_below P b own parts t whole.1) e,
        ) in
        let same = set_same parts i p q e (kept p q (reverse own ++ types) p_ready new) in
        ap (Means U names) (sym made) ∙ same-Bind U names b own (slice_set parts i q) parts t same
        ∙ ap (Means U names) (sym (rolls-Bind b own parts t))

    pub kept_at : (place : List ℕ) → Keeps (rewritten law place)
    kept_at [] f g types ready h = keeps f g types ready h
    kept_at (i ∷ place) f g types ready h =
        at_part i place (kept_at place) (out-Formula f) g types
        (subst (λ f. Ready f types) (sym (roll-out-Formula f)) ready) (part f i) refl h
        ∙ ap (Means U names) (roll-out-Formula f)

-- a law keeps what formulas denote, whatever the names stand for, where carrier sets stand for themselves
abbrev pub LawHolds : {carrier : List ℕ → Type 0} → Universe carrier → Law → Type 0
LawHolds {carrier} U law = (env : List (List ℕ × Ty)) (names : Valuation carrier) → NamesCarriers U env names
    → LawKeeps U names (Stands env) law
