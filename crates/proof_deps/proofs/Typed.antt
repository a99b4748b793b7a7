-- A tree that applies to a sequent names nothing of it but what it asks for: what its least sequent names stands there.
use Rattle.std.proofs.Common.{◌≡◌, ◌∙◌, ⊎_elim, sym, ap, subst, refl, ℕ, Bool, true, false, ◌||◌, List, [], ◌∷◌, ◌++◌, map, Option, Some, None, IfSome, pos, arith}
use Rattle.std.specs.Prelude.{bytes_eq, not, filter, Contains}
use Rattle.std.specs.List.{AllByRecursion, list_any}
use Rattle.std.specs.Option.{option_or, option_to_list}
use Rattle.std.specs.Cmp.Lexicographic.{same_text}
use Rattle.std.proofs.lemmas.Slice.Eq.{bytes_eq-Decides}
use Rattle.std.proofs.lemmas.List.Elements.{filter_passes, recursion_from_All, Contains-append_left, Contains-append_right, Contains-append_cases}
use Rattle.formula_core.specs.declared.Ty.{Ty}
use Rattle.formula_core.specs.declared.Formula.{Formula}
use Rattle.formula_core.specs.declared.Formula.TheVariants.{Int}
use Rattle.formula_core.specs.Env.{type_in}
use Rattle.formula_core.specs.Formulas.{same_identifier}
use Rattle.formula_core.specs.Identifiers.{carriers, identifiers}
use Rattle.formula_core.specs.Typed.{Stands}
use Rattle.formula_core.proofs.Keeping.{front, back, all_more, identifiers-Int}
use Rattle.formula_core.proofs.TypedIn.{stands_more}
use Rattle.formula_core.proofs.Types.{same_type_exact}
use Rattle.formula_core.proofs.Weakening.{first_true, second_true, both_true}
use Rattle.formula_core.proofs.WholeSets.{same_type_refl}
use Rattle.sequent_core.specs.declared.sequent.Sequent.{Sequent}
use Rattle.rule_table.specs.declared.rule.Antecedent.{Antecedent}
use Rattle.rule_table.specs.declared.rule.Rule.{Rule}
use Rattle.sequent_core.specs.declared.tree.Tree.{Tree}
use Rattle.sequent_core.specs.declared.tree.Tree.TheOpen.{Tree-F, Leaf as LeafF, Node as NodeF}
use Rattle.sequent_core.specs.declared.tree.Tree.TheVariants.{Leaf, Node}
use Rattle.sequent_core.specs.declared.tree.Tree.TheViews.{roll-Tree, rolls-Leaf, rolls-Node}
use Rattle.sequent_core.specs.declared.tree.Tree.TheFolds.{map-Tree, ind-Tree}
use Rattle.sequent_core.specs.PrivateChildren.{EachApplies}
use Rattle.rule_table.specs.Rules.{IsRule, needed_formulas, body_of}
use Rattle.sequent_core.specs.Trees.{goal_or, extended, Meets, IsFresh, Applies}
use Rattle.sequent_core.proofs.Nodes.{leaf_applies, node_applies, applied_rule}
use Rattle.proof_deps.proofs.Carried.{Names, at, itself}
use Rattle.proof_deps.proofs.Envs.{type_there, still_stands, still_missing, kept}
use Rattle.proof_deps.proofs.RuleNames.{names_of, Avoids, names_avoid, used_avoid, needed_avoid}
use Rattle.proof_deps.proofs.Ways.{type_in-append, new_name}

-- Induction over trees.
module _ (P : Tree → Type 0) (leaf : P Leaf) (node : (r : Rule) (trees : List Tree) → AllByRecursion P trees → P (Node r trees)) where
  abbrev Proved : Type 0
  Proved = (tree : Tree) × P tree

  each : (es : List Proved) → AllByRecursion P (map (λ e. e.0) es)
  each [] = tt
  each (e ∷ es) = (e.1, each es)

  step : (y : Tree-F Proved) → P (roll-Tree (map-Tree Proved Tree (λ e. e.0) y))
  step LeafF = subst P (sym rolls-Leaf) leaf
  step (NodeF r trees) = subst P (sym (rolls-Node r (map (λ e. e.0) trees))) (node r (map (λ e. e.0) trees) (each trees))

  tree_induction : (tree : Tree) → P tree
  tree_induction = ind-Tree P (λ x y is. let Q : Tree-F Tree → Type 0 = λ z. P (roll-Tree z) in subst Q is (step y))

no_element : {X : Type 0} (x : X) → Contains [] x → ⊥
no_element x c = let lt = c.1 in omega (arith, lt)

-- A name that stands in `s`, and doesn't stand in `u`.
module _ (x : List ℕ × Ty) where
  -- the second sequent has all of the first one that doesn't name x
  pub record Offers (u : Sequent) (m : Sequent) : Type 0 where
    pub hyps : (f : Formula) → Contains u.hyps f → Avoids x f → Contains m.hyps f
    pub goal : Avoids x u.goal → u.goal ≡ m.goal
    pub env : (y : List ℕ × Ty) → Stands u.env y → (Contains (carriers y.1) x → ⊥) → Stands m.env y
    pub none : (n : List ℕ) → type_in u.env n ≡ None → type_in m.env n ≡ None

  offers_hyps : (u m : Sequent) → Offers u m → (fs : List Formula) → AllByRecursion (Avoids x) fs → AllByRecursion (Contains u.hyps) fs → AllByRecursion (Contains m.hyps) fs
  offers_hyps u m o [] a h = tt
  offers_hyps u m o (f ∷ fs) a h = (o.hyps f h.0 a.0, offers_hyps u m o fs a.1 h.1)

  offers_used : (u m : Sequent) → Offers u m → (ys : Names) → AllByRecursion (λ y. Contains (carriers y.1) x → ⊥) ys → AllByRecursion (Stands u.env) ys → AllByRecursion (Stands m.env) ys
  offers_used u m o [] a h = tt
  offers_used u m o (y ∷ ys) a h = (o.env y h.0 a.0, offers_used u m o ys a.1 h.1)

  offers_goal : (u m : Sequent) → Offers u m → (g : Option Formula) → AllByRecursion (Avoids x) (option_to_list g) → IfSome g (λ f. f ≡ u.goal) → IfSome g (λ f. f ≡ m.goal)
  offers_goal u m o None a e = tt
  offers_goal u m o (Some f) a e = e ∙ o.goal (λ c. a.0 (subst (λ h. Contains (identifiers h) x) (sym e) c))

  still_meets : (r : Rule) (u m : Sequent) → IsRule r → (Contains (names_of r) x → ⊥) → Offers u m → Meets r u → Meets r m
  still_meets r u m is away o h =
      let needed : AllByRecursion (Avoids x) (needed_formulas (body_of r)) = needed_avoid r is x away in
      record {
        goal = offers_goal u m o r.needed_goal (front (Avoids x) (option_to_list r.needed_goal) r.needed_hyps needed) h.goal;
        hyps = offers_hyps u m o r.needed_hyps (back (Avoids x) (option_to_list r.needed_goal) r.needed_hyps needed) h.hyps;
        used = offers_used u m o r.used (used_avoid r is x away) h.used;
      }

  longer : (u m : Sequent) → Offers u m → (ids : Names) (y : List ℕ × Ty) → Stands (u.env ++ ids) y → (Contains (carriers y.1) x → ⊥) → Stands (m.env ++ ids) y
  longer u m o ids y h a =
      let k : option_or (type_in u.env y.0) (type_in ids y.0) ≡ Some y.1 = sym (type_in-append u.env ids y.0) ∙ h in
      let go : (t : Option Ty) → type_in u.env y.0 ≡ t → option_or t (type_in ids y.0) ≡ Some y.1 → Stands (m.env ++ ids) y = elim [
        | None ↦ λ i e. type_in-append m.env ids y.0 ∙ ap (λ q. option_or q (type_in ids y.0)) (o.none y.0 i) ∙ e
        | Some t ↦ λ i e. stands_more m.env ids y (o.env y (i ∙ e) a)
      ] in
      go (type_in u.env y.0) refl k

  longer_none : (u m : Sequent) → Offers u m → (ids : Names) (n : List ℕ) → type_in (u.env ++ ids) n ≡ None → type_in (m.env ++ ids) n ≡ None
  longer_none u m o ids n h =
      let k : option_or (type_in u.env n) (type_in ids n) ≡ None = sym (type_in-append u.env ids n) ∙ h in
      let go : (t : Option Ty) → type_in u.env n ≡ t → option_or t (type_in ids n) ≡ None → type_in (m.env ++ ids) n ≡ None = elim [
        | None ↦ λ i e. type_in-append m.env ids n ∙ ap (λ q. option_or q (type_in ids n)) (o.none n i) ∙ e
        | Some t ↦ λ i e. cc
      ] in
      go (type_in u.env n) refl k

  same_goal : (g : Option Formula) (u m : Sequent) → Offers u m → Avoids x (goal_or g u.goal) → goal_or g u.goal ≡ goal_or g m.goal
  same_goal None u m o a = o.goal a
  same_goal (Some f) u m o a = refl

  offers_extended : (u m : Sequent) (a : Antecedent) → Offers u m → Offers (extended u a) (extended m a)
  offers_extended u m a o = record {
    hyps = λ f c v. ⊎_elim (λ l. Contains-append_left m.hyps a.hyps f (o.hyps f l v)) (λ r. Contains-append_right m.hyps a.hyps f r) (Contains-append_cases u.hyps a.hyps f c);
    goal = same_goal a.goal u m o;
    env = longer u m o a.idents;
    none = longer_none u m o a.idents;
  }

  -- an antecedent that is fresh where x stands doesn't add it
  still_not : (s u : Sequent) (a : Antecedent) → Stands s.env x → IsFresh s a → (Stands u.env x → ⊥) → Stands (extended u a).env x → ⊥
  still_not s u a there fresh away h =
      let k : option_or (type_in u.env x.0) (type_in a.idents x.0) ≡ Some x.1 = sym (type_in-append u.env a.idents x.0) ∙ h in
      let go : (t : Option Ty) → type_in u.env x.0 ≡ t → option_or t (type_in a.idents x.0) ≡ Some x.1 → ⊥ = elim [
        | None ↦ λ i e. let gone : type_in s.env x.0 ≡ None = new_name s.env a.idents x.0 x.1 fresh e in cc
        | Some t ↦ λ i e. away (i ∙ e)
      ] in
      go (type_in u.env x.0) refl k

  abbrev pub StillApplies : Tree → Type 0
  StillApplies tree = (s u m : Sequent) → Stands s.env x → (Stands u.env x → ⊥) → Offers u m → Applies tree s → Applies tree u → Applies tree m

  each_applies : (trees : List Tree) (ants : List Antecedent) (s u m : Sequent) → Stands s.env x → (Stands u.env x → ⊥) → Offers u m
      → AllByRecursion StillApplies trees → EachApplies trees ants s → EachApplies trees ants u → EachApplies trees ants m
  each_applies [] [] s u m there away o h e f = tt
  each_applies [] (a ∷ ants) s u m there away o h e f = absurd e
  each_applies (t ∷ trees) [] s u m there away o h e f = absurd e
  each_applies (t ∷ trees) (a ∷ ants) s u m there away o h e f = (
    all_more (λ z. type_in u.env z.0 ≡ None) (λ z. type_in m.env z.0 ≡ None) (λ z. o.none z.0) a.idents f.0,
    h.0 (extended s a) (extended u a) (extended m a) (stands_more s.env a.idents x there) (still_not s u a there e.0 away) (offers_extended u m a o) e.1 f.1,
    each_applies trees ants s u m there away o h.1 e.2 f.2,
  )

  fresh_each : (trees : List Tree) (ants : List Antecedent) (s : Sequent) → EachApplies trees ants s → AllByRecursion (IsFresh s) ants
  fresh_each [] [] s e = tt
  fresh_each [] (a ∷ ants) s e = absurd e
  fresh_each (t ∷ trees) [] s e = absurd e
  fresh_each (t ∷ trees) (a ∷ ants) s e = (e.0, fresh_each trees ants s e.2)

  node_still : (r : Rule) (trees : List Tree) → AllByRecursion StillApplies trees → StillApplies (Node r trees)
  node_still r trees h s u m there away o e f =
      let p = applied_rule r trees s e in
      let q = applied_rule r trees u f in
      let out : Contains (names_of r) x → ⊥ = names_avoid r q.0 x s u.env (fresh_each trees r.antecedents s p.2) there q.1.used away in
      node_applies r trees m q.0 (still_meets r u m q.0 out o q.1) (each_applies trees r.antecedents s u m there away o h p.2 q.2)

  pub still_applies : (tree : Tree) → StillApplies tree
  still_applies = tree_induction StillApplies (λ s u m there away o e f. leaf_applies m) node_still

  -- The part of a sequent that doesn't name x.
  abbrev pub names : Names → Bool
  names ys = list_any (λ y. same_identifier y x) ys

  absent : (ys : Names) → names ys ≡ false → AllByRecursion (λ y. same_identifier y x ≡ false) ys
  absent [] e = tt
  absent (y ∷ ys) e =
      let go : (b : Bool) → same_identifier y x ≡ b → (b || names ys) ≡ false → AllByRecursion (λ z. same_identifier z x ≡ false) (y ∷ ys) = elim [
        | true ↦ λ i k. cc
        | false ↦ λ i k. (i, absent ys k)
      ] in
      go (same_identifier y x) refl e

  unnamed : (ys : Names) → names ys ≡ false → Contains ys x → ⊥
  unnamed ys e c =
      let away : same_identifier x x ≡ false = at (λ y. same_identifier y x ≡ false) ys x (absent ys e) c in
      let yes : same_identifier x x ≡ true = both_true _ _ ((bytes_eq-Decides x.0 x.0).1 refl) (same_type_refl x.1) in
      cc

  present : (ys : Names) → names ys ≡ true → Contains ys x
  present [] e = let bad : ⊥ = cc in absurd bad
  present (y ∷ ys) e =
      let go : (b : Bool) → same_identifier y x ≡ b → (b || names ys) ≡ true → Contains (y ∷ ys) x = elim [
        | true ↦ λ i k.
            let is : y ≡ x = λ j. (same_text y.0 x.0 (sym (first_true _ _ i)) j, same_type_exact y.1 x.1 (second_true (bytes_eq y.0 x.0) _ i) j) in
            subst (λ z. Contains (z ∷ ys) x) (sym is) (Contains-append_left (x ∷ []) ys x (itself (x ∷ [])).0)
        | false ↦ λ i k. Contains-append_right (y ∷ []) ys x (present ys k)
      ] in
      go (same_identifier y x) refl e

  avoids_test : (ys : Names) → (Contains ys x → ⊥) → not (names ys) ≡ true
  avoids_test ys a =
      let go : (b : Bool) → names ys ≡ b → not b ≡ true = elim [
        | true ↦ λ e. absurd (a (present ys e))
        | false ↦ λ e. refl
      ] in
      go (names ys) refl

  passes : (ys : Names) → not (names ys) ≡ true → Contains ys x → ⊥
  passes ys h =
      let go : (b : Bool) → names ys ≡ b → not b ≡ true → Contains ys x → ⊥ = elim [
        | true ↦ λ e k c. cc
        | false ↦ λ e k. unnamed ys e
      ] in
      go (names ys) refl h

  abbrev pub avoids_formula : Formula → Bool
  avoids_formula f = not (names (identifiers f))

  abbrev pub avoids_type : List ℕ × Ty → Bool
  avoids_type y = not (names (carriers y.1))

  abbrev pub other_goal : Bool → Formula → Formula
  other_goal true g = g
  other_goal false g = Int (pos 0)

  number_avoids : Avoids x (Int (pos 0))
  number_avoids c = no_element x (subst (λ ys. Contains ys x) (identifiers-Int (pos 0)) c)

  goal_avoids : (g : Formula) (b : Bool) → avoids_formula g ≡ b → Avoids x (other_goal b g)
  goal_avoids g true e = passes (identifiers g) e
  goal_avoids g false e = number_avoids

  goal_kept : (g : Formula) (b : Bool) → avoids_formula g ≡ b → Avoids x g → g ≡ other_goal b g
  goal_kept g true e a = refl
  goal_kept g false e a = let yes : avoids_formula g ≡ true = avoids_test (identifiers g) a in cc

  abbrev pub part : Sequent → Sequent
  part w = record { env = filter avoids_type w.env; hyps = filter avoids_formula w.hyps; goal = other_goal (avoids_formula w.goal) w.goal }

  by_type : (y z : List ℕ × Ty) → y.1 ≡ z.1 → avoids_type y ≡ avoids_type z
  by_type y z e = ap (λ t. not (names (carriers t))) e

  pub offers_part : (w : Sequent) → Offers w (part w)
  offers_part w = record {
    hyps = λ f c a. at (λ g. avoids_formula g ≡ true → Contains (filter avoids_formula w.hyps) g) w.hyps f (kept avoids_formula w.hyps) c (avoids_test (identifiers f) a);
    goal = goal_kept w.goal (avoids_formula w.goal) refl;
    env = λ y h a. still_stands avoids_type by_type w.env y (avoids_test (carriers y.1) a) h;
    none = still_missing avoids_type by_type w.env;
  }

  -- what a part of a sequent has doesn't name x
  pub part_hyps : (w : Sequent) (fs : List Formula) → AllByRecursion (Contains (part w).hyps) fs → AllByRecursion (Avoids x) fs
  part_hyps w = all_more (Contains (part w).hyps) (Avoids x)
      (λ f c. at (Avoids x) (filter avoids_formula w.hyps) f (all_more (λ g. avoids_formula g ≡ true) (Avoids x) (λ g. passes (identifiers g)) (filter avoids_formula w.hyps)
      (recursion_from_All (λ g. avoids_formula g ≡ true) (filter avoids_formula w.hyps) (filter_passes avoids_formula w.hyps))) c)

  pub part_goal : (w : Sequent) (o : Option Formula) → IfSome o (λ g. g ≡ (part w).goal) → IfSome o (Avoids x)
  part_goal w None e = tt
  part_goal w (Some g) e = subst (Avoids x) (sym e) (goal_avoids w.goal (avoids_formula w.goal) refl)

  pub part_used : (w : Sequent) (ys : Names) → AllByRecursion (Stands (part w).env) ys → AllByRecursion (λ y. Contains (carriers y.1) x → ⊥) ys
  part_used w = all_more (Stands (part w).env) (λ y. Contains (carriers y.1) x → ⊥)
      (λ y. type_there (λ t. Contains (carriers t) x → ⊥) (filter avoids_type w.env)
      (all_more (λ z. avoids_type z ≡ true) (λ z. Contains (carriers z.1) x → ⊥) (λ z. passes (carriers z.1)) (filter avoids_type w.env)
      (recursion_from_All (λ z. avoids_type z ≡ true) (filter avoids_type w.env) (filter_passes avoids_type w.env))) y)
