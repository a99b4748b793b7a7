-- What the way to a place adds.
use Rattle.std.proofs.Common.{◌≡◌, ◌∙◌, sym, ap, subst, refl, ℕ, Bool, true, false, List, [], ◌∷◌, ◌++◌, Option, Some, None, Bor, ◌⊎◌, inl, cond, IsTrue, ⊎_elim}
use Rattle.std.specs.Prelude.{bytes_eq, Contains}
use Rattle.std.specs.List.{AllByRecursion}
use Rattle.std.specs.Option.{option_or}
use Rattle.std.specs.Cmp.Lexicographic.{same_text}
use Rattle.std.proofs.lemmas.List.Elements.{Contains-append_left, Contains-append_right, Contains-append_cases}
use Rattle.formula_core.specs.declared.Ty.{Ty}
use Rattle.formula_core.specs.declared.Formula.{Formula}
use Rattle.formula_core.specs.Env.{type_in}
use Rattle.sequent_core.specs.declared.sequent.Sequent.{Sequent}
use Rattle.rule_table.specs.declared.rule.Antecedent.{Antecedent}
use Rattle.sequent_core.specs.Trees.{extended, IsFresh, at_end, AreFresh}
use Rattle.proof_tree.specs.declared.way.Way.{Way}
use Rattle.proof_tree.specs.declared.way.Way.TheOpen.{Below as BelowF, Root as RootF}
use Rattle.proof_tree.specs.declared.way.Way.TheVariants.{Below, Root}
use Rattle.proof_tree.specs.declared.way.Way.TheViews.{rolls-Below, rolls-Root}
use Rattle.proof_tree.specs.declared.way.Way.TheFolds.{fold-roll-Way}
use Rattle.proof_tree.specs.Ways.{antecedents_step, antecedents_of}

pub antecedents_of-Below : (a : Bor Antecedent) (outer : Bor Way) → antecedents_of (Below a outer) ≡ a.now ∷ antecedents_of outer.now
antecedents_of-Below a outer = ap antecedents_of (sym (rolls-Below a outer)) ∙ fold-roll-Way (List Antecedent) antecedents_step (BelowF a outer)

module _ (self : Way) (a : Bor Antecedent) (outer : Bor Way) (e : self ≡ Below a outer) where
  pub way_is : antecedents_of self ≡ a.now ∷ antecedents_of outer.now
  way_is = ap antecedents_of e ∙ antecedents_of-Below a outer

  pub hyps_under : (near : List Formula) → near ≡ a.now.hyps → (s : Sequent) → (at_end (antecedents_of self) s).hyps ≡ (at_end (antecedents_of outer.now) s).hyps ++ near
  hyps_under near i s = ap (λ w. (at_end w s).hyps) way_is ∙ ap (λ x. (at_end (antecedents_of outer.now) s).hyps ++ x) (sym i)

  pub env_under : (near : List (List ℕ × Ty)) → near ≡ a.now.idents → (s : Sequent) → (at_end (antecedents_of self) s).env ≡ (at_end (antecedents_of outer.now) s).env ++ near
  env_under near i s = ap (λ w. (at_end w s).env) way_is ∙ ap (λ x. (at_end (antecedents_of outer.now) s).env ++ x) (sym i)

  pub outer_fresh : (s : Sequent) → AreFresh (antecedents_of self) s → AreFresh (antecedents_of outer.now) s
  outer_fresh s f = (subst (λ w. AreFresh w s) way_is f).1

  pub near_fresh : (near : List (List ℕ × Ty)) → near ≡ a.now.idents → (s : Sequent) → AreFresh (antecedents_of self) s → AllByRecursion (λ x. type_in (at_end (antecedents_of outer.now) s).env x.0 ≡ None) near
  near_fresh near i s f = subst (AllByRecursion (λ x. type_in (at_end (antecedents_of outer.now) s).env x.0 ≡ None)) (sym i) ((subst (λ w. AreFresh w s) way_is f).0)

-- a hypothesis that the nearest antecedent adds
pub here : (all outer near : List Formula) (f : Formula) (b : Bool) (P : Type 0) → all ≡ outer ++ near → IsTrue b → Contains near f → (Contains all f → IsTrue b ⊎ P) × (IsTrue b ⊎ P → Contains all f)
here all outer near f b P e t h = (λ _. inl t, λ _. subst (λ xs. Contains xs f) (sym e) (Contains-append_right outer near f h))

-- a hypothesis that the nearest antecedent doesn't add
pub further : (all outer near : List Formula) (f : Formula) (Q : Type 0) → all ≡ outer ++ near → (Contains near f → ⊥) → (Contains outer f → Q) → (Q → Contains outer f) → (Contains all f → Q) × (Q → Contains all f)
further all outer near f Q e hidden to back = (
  λ h. ⊎_elim to (λ n. absurd (hidden n)) (Contains-append_cases outer near f (subst (λ xs. Contains xs f) e h)),
  λ q. subst (λ xs. Contains xs f) (sym e) (Contains-append_left outer near f (back q)),
)

type_step : (b : Bool) (v : Ty) (p q r : Option Ty) → p ≡ option_or q r → cond b (Some v) p ≡ option_or (cond b (Some v) q) r
type_step true v p q r e = refl
type_step false v p q r e = e

pub type_in-append : (env more : List (List ℕ × Ty)) (n : List ℕ) → type_in (env ++ more) n ≡ option_or (type_in env n) (type_in more n)
type_in-append [] more n = refl
type_in-append (x ∷ env) more n = type_step (bytes_eq n x.0) x.1 (type_in (env ++ more) n) (type_in env n) (type_in more n) (type_in-append env more n)

first_or : (b : Bool) (v u : Ty) (q : Option Ty) (C : Type 0) → (true ≡ b → C) → (q ≡ Some u → C) → cond b (Some v) q ≡ Some u → C
first_or true v u q C f g e = f refl
first_or false v u q C f g e = g e

-- a name with a type among identifiers that are new
pub new_name : (env ids : List (List ℕ × Ty)) (n : List ℕ) (u : Ty) → AllByRecursion (λ x. type_in env x.0 ≡ None) ids → type_in ids n ≡ Some u → type_in env n ≡ None
new_name env [] n u f e = cc
new_name env (x ∷ ids) n u f e =
    first_or (bytes_eq n x.0) x.1 u (type_in ids n) (type_in env n ≡ None)
    (λ t. ap (type_in env) (same_text n x.0 t) ∙ f.0)
    (λ g. new_name env ids n u f.1 g) e

or_none : (o : Option Ty) → option_or o None ≡ o
or_none None = refl
or_none (Some t) = refl

-- the way has the name further out
pub type_further : (all outer near : List (List ℕ × Ty)) (n : List ℕ) (t : Ty) (rest : Option Ty) → all ≡ outer ++ near → type_in outer n ≡ option_or (Some t) rest → type_in all n ≡ Some t
type_further all outer near n t rest e o = ap (λ x. type_in x n) e ∙ type_in-append outer near n ∙ ap (λ x. option_or x (type_in near n)) o

swapped : (outer near : List (List ℕ × Ty)) (n : List ℕ) (rest o : Option Ty) → o ≡ type_in near n → AllByRecursion (λ x. type_in outer x.0 ≡ None) near → type_in outer n ≡ rest → option_or (type_in outer n) o ≡ option_or o rest
swapped outer near n rest None e f g = or_none (type_in outer n) ∙ g
swapped outer near n rest (Some u) e f g = ap (λ x. option_or x (Some u)) (new_name outer near n u f (sym e))

-- the way has the name nearest, or not at all
pub type_here : (all outer near : List (List ℕ × Ty)) (n : List ℕ) (o rest : Option Ty) → all ≡ outer ++ near → o ≡ type_in near n → AllByRecursion (λ x. type_in outer x.0 ≡ None) near → type_in outer n ≡ rest → type_in all n ≡ option_or o rest
type_here all outer near n o rest e i f g =
    ap (λ x. type_in x n) e ∙ type_in-append outer near n ∙ ap (option_or (type_in outer n)) (sym i) ∙ swapped outer near n rest o i f g

pub antecedents_of-Root : antecedents_of Root ≡ []
antecedents_of-Root = ap antecedents_of (sym rolls-Root) ∙ fold-roll-Way (List Antecedent) antecedents_step RootF

-- a name that stands at the root keeps its type
pub first_at_end : (way : List Antecedent) (s : Sequent) (n : List ℕ) (t : Ty) → type_in s.env n ≡ Some t → type_in (at_end way s).env n ≡ Some t
first_at_end [] s n t e = e
first_at_end (a ∷ above) s n t e =
    type_in-append (at_end above s).env a.idents n ∙ ap (λ o. option_or o (type_in a.idents n)) (first_at_end above s n t e)

pub or_nothing : (o : Option Ty) → option_or o None ≡ o
or_nothing o = or_none o

-- a hypothesis at the root stays
pub hyp_at_end : (way : List Antecedent) (s : Sequent) (f : Formula) → Contains s.hyps f → Contains (at_end way s).hyps f
hyp_at_end [] s f h = h
hyp_at_end (a ∷ above) s f h = Contains-append_left (at_end above s).hyps a.hyps f (hyp_at_end above s f h)

-- the root, and one antecedent more
pub root_fresh : (s : Sequent) → AreFresh (antecedents_of Root) s
root_fresh s = subst (λ w. AreFresh w s) (sym antecedents_of-Root) tt

pub root_end : (s : Sequent) → at_end (antecedents_of Root) s ≡ s
root_end s = ap (λ w. at_end w s) antecedents_of-Root

module _ (a : Bor Antecedent) (outer : Bor Way) (s : Sequent) where
  pub below_fresh : AreFresh (antecedents_of outer.now) s → IsFresh (at_end (antecedents_of outer.now) s) a.now → AreFresh (antecedents_of (Below a outer)) s
  below_fresh f n = subst (λ w. AreFresh w s) (sym (antecedents_of-Below a outer)) (n, f)

  pub below_end : at_end (antecedents_of (Below a outer)) s ≡ extended (at_end (antecedents_of outer.now) s) a.now
  below_end = ap (λ w. at_end w s) (antecedents_of-Below a outer)
