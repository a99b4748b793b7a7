-- A tree that applies to a sequent applies to larger ones.
use Rattle.std.proofs.Common.{◌≡◌, ◌∙◌, sym, ap, subst, refl, ℕ, Bool, true, false, cond, List, [], ◌∷◌, ◌++◌, map, Option, Some, None, ⊎_elim}
use Rattle.std.specs.Prelude.{IfSome, bytes_eq}
use Rattle.std.specs.List.{AllByRecursion}
use Rattle.std.specs.Option.{option_or}
use Rattle.std.specs.Cmp.Lexicographic.{same_text}
use Rattle.std.proofs.lemmas.List.Elements.{Contains-append_left, Contains-append_right, Contains-append_cases}
use Rattle.formula_core.specs.declared.Ty.{Ty}
use Rattle.formula_core.specs.Env.{type_in}
use Rattle.formula_core.specs.Formulas.{joined}
use Rattle.formula_core.specs.Typed.{Stands}
use Rattle.rule_table.specs.declared.rule.Antecedent.{Antecedent}
use Rattle.rule_table.specs.declared.rule.Rule.{Rule}
use Rattle.sequent_core.specs.declared.sequent.Sequent.{Sequent}
use Rattle.sequent_core.specs.declared.tree.Tree.{Tree}
use Rattle.sequent_core.specs.declared.tree.Tree.TheOpen.{Node as NodeF}
use Rattle.sequent_core.specs.declared.tree.Tree.TheVariants.{Node}
use Rattle.sequent_core.specs.declared.tree.Tree.TheViews.{rolls-Node}
use Rattle.sequent_core.specs.declared.tree.Tree.TheFolds.{fold-roll-Tree}
use Rattle.sequent_core.specs.PrivateChildren.{EachApplies}
use Rattle.sequent_core.specs.Trees.{goal_or, extended, Meets, Applies}
use Rattle.sequent_core.proofs.Nodes.{all_first, all_last, leaf_applies, node_applies, applied_rule}
use Rattle.proof_steps.specs.Laws.{introduced_names, introduced_step, introduced, AreNewStill, IsLarger}
use Rattle.proof_steps.proofs.Induction.{tree_induction}
use Rattle.proof_tree.proofs.WayEnds.{type_in-append}

introduced-Node : (r : Rule) (trees : List Tree) → introduced (Node r trees) ≡ joined (map introduced_names r.antecedents) ++ joined (map introduced trees)
introduced-Node r trees = ap introduced (sym (rolls-Node r trees)) ∙ fold-roll-Tree (List (List ℕ)) introduced_step (NodeF r trees)

module _ {X : Type 0} {P Q : X → Type 0} (f : (x : X) → P x → Q x) where
  all_map : (xs : List X) → AllByRecursion P xs → AllByRecursion Q xs
  all_map [] a = tt
  all_map (x ∷ xs) a = (f x a.0, all_map xs a.1)

-- where neither part has the name
option_or_none : (o p : Option Ty) → option_or o p ≡ None → (o ≡ None) × (p ≡ None)
option_or_none None p e = (refl, e)
option_or_none (Some t) p e = cc

both_none : (o p : Option Ty) → o ≡ None → p ≡ None → option_or o p ≡ None
both_none o p e f = (λ i. option_or (e i) (f i))

first_named : (larger : List (List ℕ × Ty)) (n : List ℕ) (t u : Ty) (rest : Option Ty) (b : Bool) → (true ≡ b → type_in larger n ≡ None) → (rest ≡ Some t → type_in larger n ≡ None)
    → cond b (Some u) rest ≡ Some t → type_in larger n ≡ None
first_named larger n t u rest true here further e = here refl
first_named larger n t u rest false here further e = further e

-- a name among the identifiers that are added
named_among : (env larger : List (List ℕ × Ty)) (ids : List (List ℕ × Ty)) (n : List ℕ) (t : Ty)
    → AreNewStill env larger (map (λ x. x.0) ids) → type_in ids n ≡ Some t → type_in env n ≡ None → type_in larger n ≡ None
named_among env larger [] n t new e h = cc
named_among env larger (x ∷ ids) n t new e h =
    first_named larger n t x.1 (type_in ids n) (bytes_eq n x.0)
    (λ q. let is : n ≡ x.0 = same_text n x.0 q in ap (type_in larger) is ∙ new.0 (ap (type_in env) (sym is) ∙ h))
    (λ r. named_among env larger ids n t new.1 r h) e

module _ (s w : Sequent) (a : Antecedent) where
  stands_below : ((x : List ℕ × Ty) → Stands s.env x → Stands w.env x) → AreNewStill s.env w.env (introduced_names a)
      → (x : List ℕ × Ty) → Stands (s.env ++ a.idents) x → Stands (w.env ++ a.idents) x
  stands_below old new x h = by (type_in s.env x.0) refl where
    whole : option_or (type_in s.env x.0) (type_in a.idents x.0) ≡ Some x.1
    whole = sym (type_in-append s.env a.idents x.0) ∙ h

    by : (o : Option Ty) → type_in s.env x.0 ≡ o → Stands (w.env ++ a.idents) x
    by (Some t) e =
        let same : Some t ≡ Some x.1 = sym (ap (λ o. option_or o (type_in a.idents x.0)) e) ∙ whole in
        type_in-append w.env a.idents x.0 ∙ ap (λ o. option_or o (type_in a.idents x.0)) (old x (e ∙ same))
    by None e =
        let near : type_in a.idents x.0 ≡ Some x.1 = sym (ap (λ o. option_or o (type_in a.idents x.0)) e) ∙ whole in
        let none : type_in w.env x.0 ≡ None = named_among s.env w.env a.idents x.0 x.1 new near e in
        type_in-append w.env a.idents x.0 ∙ ap (λ o. option_or o (type_in a.idents x.0)) none ∙ near

  new_below : (names : List (List ℕ)) → AreNewStill s.env w.env names → AreNewStill (s.env ++ a.idents) (w.env ++ a.idents) names
  new_below names new = all_map (λ n keep none.
      (let parts = option_or_none (type_in s.env n) (type_in a.idents n) (sym (type_in-append s.env a.idents n) ∙ none) in
      type_in-append w.env a.idents n ∙ both_none (type_in w.env n) (type_in a.idents n) (keep parts.0) parts.1)) names new

  larger_below : (names : List (List ℕ)) → IsLarger (introduced_names a) s w → AreNewStill s.env w.env names → IsLarger names (extended s a) (extended w a)
  larger_below names l new = record {
    goal = ap (goal_or a.goal) l.goal;
    hyps = λ f c. ⊎_elim (λ d. Contains-append_left w.hyps a.hyps f (l.hyps f d)) (λ d. Contains-append_right w.hyps a.hyps f d) (Contains-append_cases s.hyps a.hyps f c);
    env = stands_below l.env l.new;
    new = new_below names new;
  }

-- what a tree that applies keeps
abbrev Weakens : Tree → Type 0
Weakens t = (s w : Sequent) → IsLarger (introduced t) s w → Applies t s → Applies t w

fresh_still : (s w : Sequent) (ids : List (List ℕ × Ty)) → AreNewStill s.env w.env (map (λ x. x.0) ids)
    → AllByRecursion (λ x. type_in s.env x.0 ≡ None) ids → AllByRecursion (λ x. type_in w.env x.0 ≡ None) ids
fresh_still s w [] new f = tt
fresh_still s w (x ∷ ids) new f = (new.0 f.0, fresh_still s w ids new.1 f.1)

with_names : (names other : List (List ℕ)) (s w : Sequent) → IsLarger names s w → AreNewStill s.env w.env other → IsLarger other s w
with_names names other s w l new = record { goal = l.goal; hyps = l.hyps; env = l.env; new = new }

each_weakens : (trees : List Tree) (ants : List Antecedent) (names : List (List ℕ)) (s w : Sequent) → IsLarger names s w → AllByRecursion Weakens trees
    → AreNewStill s.env w.env (joined (map introduced_names ants)) → AreNewStill s.env w.env (joined (map introduced trees)) → EachApplies trees ants s → EachApplies trees ants w
each_weakens [] [] names s w l h m n e = tt
each_weakens [] (a ∷ ants) names s w l h m n e = absurd e
each_weakens (t ∷ trees) [] names s w l h m n e = absurd e
each_weakens (t ∷ trees) (a ∷ ants) names s w l h m n e =
    let near : AreNewStill s.env w.env (introduced_names a) = all_first (λ k. type_in s.env k ≡ None → type_in w.env k ≡ None) (introduced_names a) (joined (map introduced_names ants)) m in
    let own : AreNewStill s.env w.env (introduced t) = all_first (λ k. type_in s.env k ≡ None → type_in w.env k ≡ None) (introduced t) (joined (map introduced trees)) n in (
      fresh_still s w a.idents near e.0,
      h.0 (extended s a) (extended w a) (larger_below s w a (introduced t) (with_names names (introduced_names a) s w l near) own) e.1,
      each_weakens trees ants names s w l h.1
          (all_last (λ k. type_in s.env k ≡ None → type_in w.env k ≡ None) (introduced_names a) (joined (map introduced_names ants)) m)
          (all_last (λ k. type_in s.env k ≡ None → type_in w.env k ≡ None) (introduced t) (joined (map introduced trees)) n) e.2,
    )

meets_still : (r : Rule) (names : List (List ℕ)) (s w : Sequent) → IsLarger names s w → Meets r s → Meets r w
meets_still r names s w l m = record {
  goal = subst (λ g. IfSome r.needed_goal (λ h. h ≡ g)) l.goal m.goal;
  hyps = all_map (λ f c. l.hyps f c) r.needed_hyps m.hyps;
  used = all_map (λ x stands. l.env x stands) r.used m.used;
}

node_weakens : (r : Rule) (trees : List Tree) → AllByRecursion Weakens trees → Weakens (Node r trees)
node_weakens r trees h = λ s w l applied.
    let parts = applied_rule r trees s applied in
    let new : AreNewStill s.env w.env (joined (map introduced_names r.antecedents) ++ joined (map introduced trees)) = subst (AreNewStill s.env w.env) (introduced-Node r trees) l.new in
    node_applies r trees w parts.0 (meets_still r (introduced (Node r trees)) s w l parts.1)
    (each_weakens trees r.antecedents (introduced (Node r trees)) s w l h
    (all_first (λ k. type_in s.env k ≡ None → type_in w.env k ≡ None) (joined (map introduced_names r.antecedents)) (joined (map introduced trees)) new)
    (all_last (λ k. type_in s.env k ≡ None → type_in w.env k ≡ None) (joined (map introduced_names r.antecedents)) (joined (map introduced trees)) new) parts.2)

pub weakens : (t : Tree) (s w : Sequent) → IsLarger (introduced t) s w → Applies t s → Applies t w
weakens = tree_induction Weakens (λ s w l applied. leaf_applies w) node_weakens
