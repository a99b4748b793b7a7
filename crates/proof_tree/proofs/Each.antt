-- Trees for antecedents, one by one.
use Rattle.std.proofs.Common.{◌≡◌, ◌∙◌, sym, ap, subst, refl, ℕ, zero, suc, ◌+◌, ◌<◌, List, [], ◌∷◌, ◌++◌, take, get_or, length, arith}
use Rattle.std.specs.Prelude.{◌↔◌, Bool, Result, Ok, Err, IfOk, IsTrue}
use Rattle.std.proofs.lemmas.List.{take_more}
use Rattle.rule_table.specs.declared.rule.Antecedent.{Antecedent}
use Rattle.rule_table.specs.declared.rule.Rule.{Rule}
use Rattle.rule_table.specs.Rules.{IsRule}
use Rattle.sequent_core.specs.declared.sequent.Sequent.{Sequent}
use Rattle.sequent_core.specs.declared.tree.Tree.{Tree}
use Rattle.sequent_core.specs.declared.tree.Tree.TheVariants.{Node}
use Rattle.sequent_core.specs.PrivateChildren.{EachApplies}
use Rattle.sequent_core.specs.Trees.{extended, Meets, IsFresh, Applies}
use Rattle.sequent_core.proofs.Nodes.{node_applies, applied_rule}

each_append : (xs ys : List Tree) (as' bs : List Antecedent) (s : Sequent) → EachApplies xs as' s → EachApplies ys bs s → EachApplies (xs ++ ys) (as' ++ bs) s
each_append [] ys [] bs s e f = f
each_append [] ys (a ∷ as') bs s e f = absurd e
each_append (x ∷ xs) ys [] bs s e f = absurd e
each_append (x ∷ xs) ys (a ∷ as') bs s e f = (e.0, e.1, each_append xs ys as' bs s e.2 f)

-- there are as many trees as antecedents
pub each_length : (trees : List Tree) (ants : List Antecedent) (s : Sequent) → EachApplies trees ants s → length trees ≡ length ants
each_length [] [] s e = refl
each_length [] (a ∷ ants) s e = absurd e
each_length (t ∷ trees) [] s e = absurd e
each_length (t ∷ trees) (a ∷ ants) s e = ap suc (each_length trees ants s e.2)

-- the tree at a place applies below its antecedent
pub each_index : (trees : List Tree) (ants : List Antecedent) (s : Sequent) (i : ℕ) (t : Tree) (a : Antecedent)
    → EachApplies trees ants s → i < length trees → IsFresh s (get_or ants i a) × Applies (get_or trees i t) (extended s (get_or ants i a))
each_index [] ants s i t a e lt = let never : ⊥ = omega (arith, lt) in absurd never
each_index (x ∷ trees) [] s i t a e lt = absurd e
each_index (x ∷ trees) (b ∷ ants) s zero t a e lt = (e.0, e.1)
each_index (x ∷ trees) (b ∷ ants) s (suc i) t a e lt = each_index trees ants s i t a e.2 (omega (arith, lt))

module _ (trees : List Tree) (ants : List Antecedent) (s : Sequent) (i : ℕ) (t d : Tree) (a b : Antecedent)
    (lt : i < length trees) (same : length trees ≡ length ants) (at : t ≡ get_or trees i d) (after : a ≡ get_or ants i b) where
  -- one tree more
  pub each_more : EachApplies (take i trees) (take i ants) s → IsFresh s a × Applies t (extended s a) → EachApplies (take (i + 1) trees) (take (i + 1) ants) s
  each_more e f =
      let first : take (i + 1) trees ≡ take i trees ++ t ∷ [] = take_more trees i d lt ∙ ap (λ y. take i trees ++ y ∷ []) (sym at) in
      let second : take (i + 1) ants ≡ take i ants ++ a ∷ [] = take_more ants i b (omega (arith, lt, same)) ∙ ap (λ y. take i ants ++ y ∷ []) (sym after) in
      subst (λ xs. EachApplies xs (take (i + 1) ants) s) (sym first) (subst (λ xs. EachApplies (take i trees ++ t ∷ []) xs s) (sym second)
      (each_append (take i trees) (t ∷ []) (take i ants) (a ∷ []) s e (f.0, f.1, tt)))

  -- one tree that doesn't apply
  pub each_not : (IsFresh s a × Applies t (extended s a) → ⊥) → EachApplies trees ants s → ⊥
  each_not other e =
      let there = each_index trees ants s i d b e lt in
      other (subst (λ x. IsFresh s x × Applies t (extended s x)) (sym after) (subst (λ x. IsFresh s (get_or ants i b) × Applies x (extended s (get_or ants i b))) (sym at) there))

-- a tree of a rule that fits applies where each child does
pub node_exact : {E : Type 0} (tree : Tree) (r : Rule) (trees near : List Tree) (ants : List Antecedent) (s : Sequent) (result : Result Bool E)
    → tree ≡ Node r trees → near ≡ trees → ants ≡ r.antecedents → IsRule r → Meets r s
    → IfOk result (λ each. IsTrue each ↔ EachApplies near ants s) → IfOk result (λ applies. IsTrue applies ↔ Applies tree s)
node_exact tree r trees near ants s (Err e) is n a rule meets each = tt
node_exact tree r trees near ants s (Ok b) is n a rule meets each = (
  λ h. subst (λ x. Applies x s) (sym is) (node_applies r trees s rule meets (subst (λ xs. EachApplies xs r.antecedents s) n (subst (λ ys. EachApplies near ys s) a (each.0 h)))),
  λ applied. each.1 (subst (λ ys. EachApplies near ys s) (sym a) (subst (λ xs. EachApplies xs r.antecedents s) (sym n) (applied_rule r trees s (subst (λ x. Applies x s) is applied)).2)),
)
