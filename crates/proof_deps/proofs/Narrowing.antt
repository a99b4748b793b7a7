-- What was found of a tree, step by step.
use Rattle.std.proofs.Common.{◌≡◌, ◌∙◌, ◌↔◌, ◌⊎◌, inl, inr, sym, ap, subst, refl, ℕ, ◌+◌, ◌<◌, suc, Bool, false, Some, None, List, [], ◌∷◌, ◌++◌, IsTrue, take, get_or, length, IfSome, ⊎_elim, arith, min}
use Rattle.std.specs.Prelude.{Contains}
use Rattle.std.specs.List.{AllByRecursion}
use Rattle.std.proofs.lemmas.List.{take_more, take_all, length-take}
use Rattle.formula_core.specs.declared.Formula.{Formula}
use Rattle.formula_core.specs.declared.Ty.{Ty}
use Rattle.formula_core.specs.Env.{type_in}
use Rattle.formula_core.specs.Typed.{Stands}
use Rattle.rule_table.specs.declared.rule.Rule.{Rule}
use Rattle.sequent_core.specs.declared.tree.Tree.{Tree}
use Rattle.sequent_core.specs.Trees.{Meets, Applies, at_end, AreFresh}
use Rattle.rule_table.specs.Rules.{IsRule}
use Rattle.sequent_core.specs.PrivateChildren.{EachApplies}
use Rattle.sequent_core.proofs.Nodes.{all_both, all_first, all_last, node_applies, applied_rule}
use Rattle.sequent_core.specs.declared.tree.Tree.TheVariants.{Node}
use Rattle.sequent_core.specs.declared.sequent.Sequent.{Sequent}
use Rattle.rule_table.specs.declared.rule.Antecedent.{Antecedent}
use Rattle.sequent_core.specs.Trees.{extended, IsFresh}
use Rattle.proof_deps.proofs.Carried.{at}
use Rattle.proof_deps.proofs.Envs.{some_is, stands_there}
use Rattle.proof_deps.specs.declared.found.Found.{Found}
use Rattle.proof_deps.specs.Private.{Allows, Narrows}

pub narrows_nothing : (way : List Antecedent) (P : Sequent → Type 0) (d : Found) → ((s : Sequent) → P s) → Narrows way P d d
narrows_nothing way P d p = λ s. (λ a. a, λ f a. (λ _. p (at_end way s), λ _. a))

pub narrows_both : (way : List Antecedent) (P Q : Sequent → Type 0) (a b c : Found) → Narrows way P a b → Narrows way Q b c → Narrows way (λ s. P s × Q s) a c
narrows_both way P Q a b c n m = λ s. (
  λ z. (n s).0 ((m s).0 z),
  λ f x. (
    λ z. let y = (m s).0 z in (((n s).1 f x).0 y, ((m s).1 f y).0 z),
    λ pq. let y = ((n s).1 f x).1 pq.0 in ((m s).1 f y).1 pq.1,
  ),
)

pub narrows_under : (way : List Antecedent) (x : Antecedent) (P : Sequent → Type 0) (a b c : Found)
    → Narrows way (λ s. IsFresh s x) a b → Narrows (x ∷ way) P b c → Narrows way (λ s. IsFresh s x × P (extended s x)) a c
narrows_under way x P a b c n m = λ s. (
  λ z. (n s).0 ((m s).0 z),
  λ f h. (
    λ z. let y = (m s).0 z in let g = ((n s).1 f h).0 y in (g, ((m s).1 (g, f) y).0 z),
    λ pq. let y = ((n s).1 f h).1 pq.0 in ((m s).1 (pq.0, f) y).1 pq.1,
  ),
)

-- the same below an antecedent, whose identifiers are these
pub narrows_below : (way whole : List Antecedent) (x : Antecedent) (ids : List (List ℕ × Ty)) (P : Sequent → Type 0) (a b c : Found) → whole ≡ x ∷ way → ids ≡ x.idents
    → Narrows way (λ s. AllByRecursion (λ z. type_in s.env z.0 ≡ None) ids) a b → Narrows whole P b c → Narrows way (λ s. IsFresh s x × P (extended s x)) a c
narrows_below way whole x ids P a b c e f n m =
    narrows_under way x P a b c (subst (λ i. Narrows way (λ s. AllByRecursion (λ z. type_in s.env z.0 ≡ None) i) a b) f n) (subst (λ w. Narrows w P b c) e m)

pub narrows_same : (way : List Antecedent) (P Q : Sequent → Type 0) (a b : Found) → ((s : Sequent) → P s → Q s) → ((s : Sequent) → Q s → P s) → Narrows way P a b → Narrows way Q a b
narrows_same way P Q a b to back n = λ s.
    ((n s).0, λ f h. (λ z. to (at_end way s) (((n s).1 f h).0 z), λ q. ((n s).1 f h).1 (back (at_end way s) q)))

-- what is allowed has the property already
pub narrows_known : (way : List Antecedent) (P : Sequent → Type 0) (a : Found) → ((s : Sequent) → AreFresh way s → Allows a s → P (at_end way s)) → Narrows way P a a
narrows_known way P a known = λ s. (λ z. z, λ f h. (λ z. known s f h, λ p. h))

-- nothing that is allowed has the property, and nothing is allowed any more
pub narrows_gone : (way : List Antecedent) (P : Sequent → Type 0) (a b : Found) → (IsTrue b.possible → ⊥) → ((s : Sequent) → AreFresh way s → Allows a s → P (at_end way s) → ⊥) → Narrows way P a b
narrows_gone way P a b gone never = λ s. (λ z. absurd (gone z.possible), λ f h. (λ z. absurd (gone z.possible), λ p. absurd (never s f h p)))

-- nothing has the property, and nothing is allowed any more
pub narrows_never : (way : List Antecedent) (P : Sequent → Type 0) (a b : Found) → (IsTrue b.possible → ⊥) → ((s : Sequent) → P s → ⊥) → Narrows way P a b
narrows_never way P a b gone never = λ s.
    (λ z. absurd (gone z.possible), λ f h. (λ z. absurd (gone z.possible), λ p. absurd (never (at_end way s) p)))

module _ {X : Type 0} (way : List Antecedent) (Q : Sequent → X → Type 0) where
  pub narrows_more : (xs : List X) (i : ℕ) (x d : X) (a b c : Found) → i < length xs → x ≡ get_or xs i d
      → Narrows way (λ s. AllByRecursion (Q s) (take i xs)) a b → Narrows way (λ s. Q s x) b c → Narrows way (λ s. AllByRecursion (Q s) (take (i + 1) xs)) a c
  narrows_more xs i x d a b c lt e n m =
      let more : take (i + 1) xs ≡ take i xs ++ x ∷ [] = take_more xs i d lt ∙ ap (λ y. take i xs ++ y ∷ []) (sym e) in
      narrows_same way (λ s. AllByRecursion (Q s) (take i xs) × Q s x) (λ s. AllByRecursion (Q s) (take (i + 1) xs)) a c
      (λ s p. subst (AllByRecursion (Q s)) (sym more) (all_both (Q s) (take i xs) (x ∷ []) p.0 (p.1, tt)))
      (λ s p. let q = subst (AllByRecursion (Q s)) more p in (all_first (Q s) (take i xs) (x ∷ []) q, (all_last (Q s) (take i xs) (x ∷ []) q).0))
      (narrows_both way (λ s. AllByRecursion (Q s) (take i xs)) (λ s. Q s x) a b c n m)

pub hyp_known : (way : List Antecedent) (f : Formula) (d : Found) (b : Bool) → IsTrue b
    → ((s : Sequent) → Contains (at_end way s).hyps f ↔ (IsTrue b ⊎ Contains s.hyps f)) → Narrows way (λ s. Contains s.hyps f) d d
hyp_known way f d b t e = λ s. (λ z. z, λ g h. (λ _. (e s).1 (inl t), λ _. h))

pub hyp_had : (way : List Antecedent) (f : Formula) (d : Found) (b : Bool) → ((s : Sequent) → Contains (at_end way s).hyps f ↔ (IsTrue b ⊎ Contains s.hyps f))
    → Contains d.hyps.items f → Narrows way (λ s. Contains s.hyps f) d d
hyp_had way f d b law c = narrows_known way (λ s. Contains s.hyps f) d (λ s g h. (law s).1 (inr (at (Contains s.hyps) d.hyps.items f h.hyps c)))

pub hyp_added : (way : List Antecedent) (f x : Formula) (d e : Found) (b : Bool) → b ≡ false
    → ((s : Sequent) → Contains (at_end way s).hyps f ↔ (IsTrue b ⊎ Contains s.hyps f))
    → e.possible ≡ d.possible → e.goal ≡ d.goal → e.hyps.items ≡ d.hyps.items ++ x ∷ [] → e.used ≡ d.used → e.fresh.items ≡ d.fresh.items → x ≡ f
    → Narrows way (λ s. Contains s.hyps f) d e
hyp_added way f x d e b none law p1 p2 p3 p4 p5 xf = λ s.
    let hyps : e.hyps.items ≡ d.hyps.items ++ f ∷ [] = p3 ∙ ap (λ y. d.hyps.items ++ y ∷ []) xf in (
      λ z. record {
        possible = subst IsTrue p1 z.possible;
        goal = subst (λ o. IfSome o (λ g. g ≡ s.goal)) p2 z.goal;
        hyps = all_first (Contains s.hyps) d.hyps.items (f ∷ []) (subst (AllByRecursion (Contains s.hyps)) hyps z.hyps);
        used = subst (AllByRecursion (Stands s.env)) p4 z.used;
        fresh = subst (AllByRecursion (λ y. type_in s.env y ≡ None)) p5 z.fresh;
      },
      λ g h. (
        λ z. (law s).1 (inr ((all_last (Contains s.hyps) d.hyps.items (f ∷ []) (subst (AllByRecursion (Contains s.hyps)) hyps z.hyps)).0)),
        λ k. let own : Contains s.hyps f = ⊎_elim (λ t. let other = none in cc) (λ q. q) ((law s).0 k) in
            record {
              possible = subst IsTrue (sym p1) h.possible;
              goal = subst (λ o. IfSome o (λ g. g ≡ s.goal)) (sym p2) h.goal;
              hyps = subst (AllByRecursion (Contains s.hyps)) (sym hyps) (all_both (Contains s.hyps) d.hyps.items (f ∷ []) h.hyps (own, tt));
              used = subst (AllByRecursion (Stands s.env)) (sym p4) h.used;
              fresh = subst (AllByRecursion (λ y. type_in s.env y ≡ None)) (sym p5) h.fresh;
            },
      ),
    )

-- a name that is known already, with this type or another one
module _ (way : List Antecedent) (n : List ℕ) (t u : Ty) (a b : Found) (law : (s : Sequent) → AreFresh way s → type_in (at_end way s).env n ≡ type_in s.env n) (known : Some u ≡ type_in a.used n) where
  pub type_known : u ≡ t → Narrows way (λ s. Stands s.env (n, t)) a a
  type_known e = narrows_known way (λ s. Stands s.env (n, t)) a (λ s f h. law s f ∙ stands_there s.env a.used h.used (n, u) (sym known) ∙ ap Some e)

  pub type_conflicts : b.possible ≡ false → (u ≡ t → ⊥) → Narrows way (λ s. Stands s.env (n, t)) a b
  type_conflicts e differ = narrows_gone way (λ s. Stands s.env (n, t)) a b (λ p. let other = e in cc)
      (λ s f h p. differ (some_is u t (sym (stands_there s.env a.used h.used (n, u) (sym known)) ∙ sym (law s f) ∙ p)))

pub type_added : (way : List Antecedent) (n : List ℕ) (t : Ty) (x : List ℕ × Ty) (d e : Found)
    → ((s : Sequent) → AreFresh way s → type_in (at_end way s).env n ≡ type_in s.env n)
    → e.possible ≡ d.possible → e.goal ≡ d.goal → e.hyps.items ≡ d.hyps.items → e.used ≡ d.used ++ x ∷ [] → e.fresh.items ≡ d.fresh.items → x ≡ (n, t)
    → Narrows way (λ s. type_in s.env n ≡ Some t) d e
type_added way n t x d e law p1 p2 p3 p4 p5 xf = λ s.
    let used : e.used ≡ d.used ++ (n, t) ∷ [] = p4 ∙ ap (λ y. d.used ++ y ∷ []) xf in
    let Has : List ℕ × Ty → Type 0 = Stands s.env in (
      λ z. record {
        possible = subst IsTrue p1 z.possible;
        goal = subst (λ o. IfSome o (λ g. g ≡ s.goal)) p2 z.goal;
        hyps = subst (AllByRecursion (Contains s.hyps)) p3 z.hyps;
        used = all_first Has d.used ((n, t) ∷ []) (subst (AllByRecursion Has) used z.used);
        fresh = subst (AllByRecursion (λ y. type_in s.env y ≡ None)) p5 z.fresh;
      },
      λ g h. (
        λ z. law s g ∙ (all_last Has d.used ((n, t) ∷ []) (subst (AllByRecursion Has) used z.used)).0,
        λ k. record {
          possible = subst IsTrue (sym p1) h.possible;
          goal = subst (λ o. IfSome o (λ g. g ≡ s.goal)) (sym p2) h.goal;
          hyps = subst (AllByRecursion (Contains s.hyps)) (sym p3) h.hyps;
          used = subst (AllByRecursion Has) (sym used) (all_both Has d.used ((n, t) ∷ []) h.used (sym (law s g) ∙ k, tt));
          fresh = subst (AllByRecursion (λ y. type_in s.env y ≡ None)) (sym p5) h.fresh;
        },
      ),
    )

meets_whole : (way : List Antecedent) (r : Rule) (a b c d : Found)
    → Narrows way (λ s. IfSome r.needed_goal (λ g. g ≡ s.goal)) a b → Narrows way (λ s. AllByRecursion (Contains s.hyps) r.needed_hyps) b c
    → Narrows way (λ s. AllByRecursion (Stands s.env) r.used) c d → Narrows way (Meets r) a d
meets_whole way r a b c d g h u =
    narrows_same way (λ s. (IfSome r.needed_goal (λ g. g ≡ s.goal) × AllByRecursion (Contains s.hyps) r.needed_hyps) × AllByRecursion (Stands s.env) r.used) (Meets r) a d
    (λ s p. record { goal = p.0.0; hyps = p.0.1; used = p.1 }) (λ s p. ((p.goal, p.hyps), p.used))
    (narrows_both way (λ s. IfSome r.needed_goal (λ g. g ≡ s.goal) × AllByRecursion (Contains s.hyps) r.needed_hyps) (λ s. AllByRecursion (Stands s.env) r.used) a c d
    (narrows_both way (λ s. IfSome r.needed_goal (λ g. g ≡ s.goal)) (λ s. AllByRecursion (Contains s.hyps) r.needed_hyps) a b c g h) u)

pub meets_all : (way : List Antecedent) (r : Rule) (hyps : List Formula) (used : List (List ℕ × Ty)) (a b c d : Found) → hyps ≡ r.needed_hyps → used ≡ r.used
    → Narrows way (λ s. IfSome r.needed_goal (λ g. g ≡ s.goal)) a b → Narrows way (λ s. AllByRecursion (Contains s.hyps) hyps) b c
    → Narrows way (λ s. AllByRecursion (Stands s.env) used) c d → Narrows way (Meets r) a d
meets_all way r hyps used a b c d eh eu g h u =
    meets_whole way r a b c d g
    (subst (λ z. Narrows way (λ s. AllByRecursion (Contains s.hyps) z) b c) eh h)
    (subst (λ z. Narrows way (λ s. AllByRecursion (Stands s.env) z) c d) eu u)

pub node_narrows : (way : List Antecedent) (tree : Tree) (r : Rule) (trees children : List Tree) (ants : List Antecedent) (a b c : Found)
    → tree ≡ Node r children → trees ≡ children → ants ≡ r.antecedents → IsRule r → Narrows way (Meets r) a b → Narrows way (EachApplies trees ants) b c → Narrows way (Applies tree) a c
node_narrows way tree r trees children ants a b c e ec ea i m n =
    let each : Narrows way (EachApplies children r.antecedents) b c = subst (λ z. Narrows way (EachApplies z r.antecedents) b c) ec (subst (λ z. Narrows way (EachApplies trees z) b c) ea n) in
    subst (λ z. Narrows way (Applies z) a c) (sym e)
    (narrows_same way (λ s. Meets r s × EachApplies children r.antecedents s) (Applies (Node r children)) a c
    (λ s p. node_applies r children s i p.0 p.1) (λ s p. let q = applied_rule r children s p in (q.1, q.2))
    (narrows_both way (Meets r) (EachApplies children r.antecedents) a b c m each))

each_push : (ts : List Tree) (ants : List Antecedent) (t : Tree) (x : Antecedent) (s : Sequent) → EachApplies ts ants s → IsFresh s x × Applies t (extended s x) → EachApplies (ts ++ t ∷ []) (ants ++ x ∷ []) s
each_push [] [] t x s e p = (p.0, p.1, tt)
each_push [] (y ∷ ants) t x s e p = absurd e
each_push (u ∷ ts) [] t x s e p = absurd e
each_push (u ∷ ts) (y ∷ ants) t x s e p = (e.0, e.1, each_push ts ants t x s e.2 p)

each_pop : (ts : List Tree) (ants : List Antecedent) (t : Tree) (x : Antecedent) (s : Sequent) → length ts ≡ length ants → EachApplies (ts ++ t ∷ []) (ants ++ x ∷ []) s → EachApplies ts ants s × (IsFresh s x × Applies t (extended s x))
each_pop [] [] t x s l e = (tt, (e.0, e.1))
each_pop [] (y ∷ ants) t x s l e = cc
each_pop (u ∷ ts) [] t x s l e = cc
each_pop (u ∷ ts) (y ∷ ants) t x s l e = let p = each_pop ts ants t x s (omega (arith, l)) e.2 in ((e.0, e.1, p.0), p.1)

pub each_more : (way : List Antecedent) (ts : List Tree) (ants : List Antecedent) (i : ℕ) (t t' : Tree) (x x' : Antecedent) (a b c : Found)
    → i < length ts → length ts ≡ length ants → t ≡ get_or ts i t' → x ≡ get_or ants i x'
    → Narrows way (EachApplies (take i ts) (take i ants)) a b → Narrows way (λ s. IsFresh s x × Applies t (extended s x)) b c
    → Narrows way (EachApplies (take (i + 1) ts) (take (i + 1) ants)) a c
each_more way ts ants i t t' x x' a b c lt l et ex n m =
    let mt : take (i + 1) ts ≡ take i ts ++ t ∷ [] = take_more ts i t' lt ∙ ap (λ y. take i ts ++ y ∷ []) (sym et) in
    let ma : take (i + 1) ants ≡ take i ants ++ x ∷ [] = take_more ants i x' (omega (arith, lt, l)) ∙ ap (λ y. take i ants ++ y ∷ []) (sym ex) in
    let same : length (take i ts) ≡ length (take i ants) = length-take i ts ∙ ap (min i) l ∙ sym (length-take i ants) in
    narrows_same way (λ s. EachApplies (take i ts) (take i ants) s × (IsFresh s x × Applies t (extended s x))) (EachApplies (take (i + 1) ts) (take (i + 1) ants)) a c
    (λ s p. subst (λ z. EachApplies z (take (i + 1) ants) s) (sym mt) (subst (λ z. EachApplies (take i ts ++ t ∷ []) z s) (sym ma) (each_push (take i ts) (take i ants) t x s p.0 p.1)))
    (λ s p. each_pop (take i ts) (take i ants) t x s same (subst (λ z. EachApplies (take i ts ++ t ∷ []) z s) ma (subst (λ z. EachApplies z (take (i + 1) ants) s) mt p)))
    (narrows_both way (EachApplies (take i ts) (take i ants)) (λ s. IsFresh s x × Applies t (extended s x)) a b c n m)

pub each_all : (way : List Antecedent) (ts : List Tree) (ants : List Antecedent) (i : ℕ) (a b : Found) → i ≡ length ts → length ts ≡ length ants
    → Narrows way (EachApplies (take i ts) (take i ants)) a b → Narrows way (EachApplies ts ants) a b
each_all way ts ants i a b e l n =
    let et : take i ts ≡ ts = take_all i ts (omega (arith, e)) in
    let ea : take i ants ≡ ants = take_all i ants (omega (arith, e, l)) in
    subst (λ z. Narrows way (EachApplies ts z) a b) ea (subst (λ z. Narrows way (EachApplies z (take i ants)) a b) et n)

each_lengths : (ts : List Tree) (ants : List Antecedent) (s : Sequent) → EachApplies ts ants s → length ts ≡ length ants
each_lengths [] [] s e = refl
each_lengths [] (y ∷ ants) s e = absurd e
each_lengths (u ∷ ts) [] s e = absurd e
each_lengths (u ∷ ts) (y ∷ ants) s e = ap suc (each_lengths ts ants s e.2)

pub each_never : (way : List Antecedent) (ts : List Tree) (ants : List Antecedent) (a b : Found) → (length ts ≡ length ants → ⊥) → b.possible ≡ false → Narrows way (EachApplies ts ants) a b
each_never way ts ants a b l f = narrows_never way (EachApplies ts ants) a b (λ t. let other = f in cc) (λ s e. l (each_lengths ts ants s e))

-- what is narrowed from everything, at the root
pub from_root : (way : List Antecedent) (P : Sequent → Type 0) (a b : Found) → way ≡ [] → ((s : Sequent) → Allows a s) → Narrows way P a b → (s : Sequent) → (Allows b s → P s) × (P s → Allows b s)
from_root way P a b e all n = λ s. let m : Narrows [] P a b = subst (λ w. Narrows w P a b) e n in (m s).1 tt (all s)
