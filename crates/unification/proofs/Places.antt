-- Terms put into a list of forms.
use Rattle.std.proofs.Common.{◌≡◌, ◌≢◌, ℕ, ◌+◌, ◌<◌, ◌≤◌, max, true, false, cond, eqb, List, [], ◌∷◌, ◌++◌, ◌↔◌, inl, inr, length, None, Result, Ok, Err, IfOk, OnOk, refl, sym, ap, ◌∙◌, subst, arith, append_assoc}
use Rattle.std.proofs.lemmas.Bool.{cases_eq, cases_lt, eq-eqb, ne_eqb}
use Rattle.std.proofs.lemmas.List.{get_or_append_left, get_or_push, get_or_past, length_push}
use Rattle.std.proofs.lemmas.Result.{on_ok_weaker}
use Rattle.formula_core.specs.declared.ty.Ty.{Ty}
use Rattle.formula_core.specs.declared.ty.Ty.TheVariants as ty
use Rattle.unification.specs.declared.graph.Node.{Node}
use Rattle.unification.specs.declared.graph.Node.TheVariants.{Free, Pow, Pair, Same}
use Rattle.unification.specs.declared.graph.Parts.{Parts}
use Rattle.unification.specs.declared.graph.Parts.TheVariants.{Zero, One, Two}
use Rattle.unification.specs.Terms.{Open, value, variable, powerset, product}
use Rattle.unification.specs.Solutions.{Equality, Solves}
use Rattle.unification.specs.PrivateGraph.{node_at, form_of, node_parts, AllParts, link_of, is_free, Holds, FitsInGraph, IsGraph, AllSame, AreInside, variable_count, variables_in, Extension, ExtendsGraph, StandsForTerm, BuildsGraph}
use Rattle.unification.proofs.Forms.{Says}
use Rattle.unification.proofs.Meetings.{AllSame-append, AreInside-append}

-- types with another one at one place
abbrev pub put_type : (ℕ → Ty) → ℕ → Ty → ℕ → Ty
put_type u i t = λ k. cond (eqb k i) t (u k)

pub put_same : (u : ℕ → Ty) (i : ℕ) (t : Ty) → put_type u i t i ≡ t
put_same u i t = ap (λ b. cond b t (u i)) (eq-eqb i i refl)

pub put_other : (u : ℕ → Ty) (i : ℕ) (t : Ty) (k : ℕ) → k ≢ i → put_type u i t k ≡ u k
put_other u i t k ne = ap (λ b. cond b t (u k)) (ne_eqb k i ne)

-- a form says the same where its parts have the same types
pub says_put : (u w : ℕ → Ty) (k : ℕ) (n : Node) → AllParts (λ a. w a ≡ u a) (node_parts n) → w k ≡ value u (form_of k n) → Says w k n
says_put u w k Free p e = refl
says_put u w k (Pow a) p e = e ∙ ap ty.Pow (sym p)
says_put u w k (Pair a b) p e = e ∙ (λ i. ty.Pair (sym p.0 i) (sym p.1 i))
says_put u w k (Same a) p e = e ∙ sym p
says_put u w k n p e = e

pub all_parts : (P Q : ℕ → Type 0) (ps : Parts) → ((a : ℕ) → P a → Q a) → AllParts P ps → AllParts Q ps
all_parts P Q Zero f h = tt
all_parts P Q (One a) f h = f a h
all_parts P Q (Two a b) f h = (f a h.0, f b h.1)

pub parts_fit : (n k : ℕ) (x : Node) → k < n → FitsInGraph n k x → AllParts (λ a. a < n) (node_parts x)
parts_fit n k (Pow a) h f = f
parts_fit n k (Pair a b) h f = f
parts_fit n k (Same a) h f = omega arith
parts_fit n k x h f = tt

fits_parts : (n k : ℕ) (x : Node) → link_of x ≡ None → AllParts (λ a. a < n) (node_parts x) → FitsInGraph n k x
fits_parts n k (Pow a) l f = f
fits_parts n k (Pair a b) l f = f
fits_parts n k (Same a) l f = cc
fits_parts n k x l f = tt

fits_more : (m n k : ℕ) (x : Node) → m ≤ n → FitsInGraph m k x → FitsInGraph n k x
fits_more m n k (Pow a) h f = omega arith
fits_more m n k (Pair a b) h f = let g = f.0 in let i = f.1 in (omega arith, omega arith)
fits_more m n k (Same a) h f = f
fits_more m n k x h f = tt

pub past : (ns : List Node) (k : ℕ) → length ns ≤ k → node_at ns k ≡ Free
past ns k h = get_or_past ns k Free h

-- what holds of all forms, of a new one and of none past it
push_all : (P : ℕ → Node → Type 0) (ns : List Node) (n : Node) → ((k : ℕ) → k < length ns → P k (node_at ns k)) → P (length ns) n → ((k : ℕ) → length ns < k → P k Free) → (k : ℕ) → P k (node_at (ns ++ n ∷ []) k)
push_all P ns n before here after k =
    elim (cases_eq k (length ns)) [
      | inl e ↦ subst (λ j. P j (node_at (ns ++ n ∷ []) j)) (sym e) (subst (P (length ns)) (sym (get_or_push ns n Free (length ns) refl)) here)
      | inr ne ↦ elim (cases_lt k (length ns)) [
        | inl lt ↦ subst (P k) (sym (get_or_append_left ns (n ∷ []) Free k lt)) (before k lt)
        | inr le ↦ let more : length ns < k = omega arith in let l = length_push ns n in subst (P k) (sym (past (ns ++ n ∷ []) k (omega arith))) (after k more)
      ]
    ]

pub grows_holds : (old new : List Node) → ExtendsGraph old new → (u : ℕ → Ty) → Holds u new → Holds u old
grows_holds old new g u h k =
    elim (cases_lt k (length old)) [
      | inl lt ↦ subst (Says u k) (g.before k lt) (h k)
      | inr le ↦ subst (Says u k) (sym (past old k le)) refl
    ]

pub Grows-refl : (ns : List Node) → IsGraph ns → ExtendsGraph ns ns
Grows-refl ns g = record { graph = g; long = omega arith; before = λ k h. refl; extends = λ v e. e }

pub Grows-trans : (a b c : List Node) → ExtendsGraph a b → ExtendsGraph b c → ExtendsGraph a c
Grows-trans a b c p q = record {
  graph = q.graph;
  long = let l = p.long in let m = q.long in omega arith;
  before = λ k h. let l = p.long in q.before k (omega arith) ∙ p.before k h;
  extends = λ v e. q.extends v (p.extends v e);
}

pub grows_stands : (old new : List Node) (place : ℕ) (t : Open) → ExtendsGraph old new → StandsForTerm old place t → StandsForTerm new place t
grows_stands old new place t g s = record {
  inside = let l = g.long in let i = s.inside in omega arith;
  same = λ u h. s.same u (grows_holds old new g u h);
}

-- one more form, whose parts are there
module _ (ns : List Node) (n : Node) (graph : IsGraph ns) (inside : AllParts (λ a. a < length ns) (node_parts n)) (last : link_of n ≡ None) (formed : is_free n ≡ false) where
  extension : (v : ℕ → Ty) → Extension v ns → Extension v (ns ++ n ∷ [])
  extension v e =
      let t = value e.types (form_of (length ns) n) in
      let w = put_type e.types (length ns) t in
      let other : (k : ℕ) → k ≢ length ns → w k ≡ e.types k = put_other e.types (length ns) t in
      let lower : (k : ℕ) → k < length ns → w k ≡ e.types k = λ k h. other k (λ q. omega arith) in
      record {
        types = w;
        holds = push_all (Says w) ns n
            (λ k h. says_put e.types w k (node_at ns k) (all_parts (λ a. a < length ns) (λ a. w a ≡ e.types a) (node_parts (node_at ns k)) lower (parts_fit (length ns) k (node_at ns k) h (graph k))) (lower k h ∙ e.holds k))
            (says_put e.types w (length ns) n (all_parts (λ a. a < length ns) (λ a. w a ≡ e.types a) (node_parts n) lower inside) (put_same e.types (length ns) t))
            (λ k h. refl);
        same = push_all (λ k m. m ≡ Free → w k ≡ v k) ns n
            (λ k h q. lower k h ∙ e.same k q)
            (λ q. let b : false ≡ true = sym formed ∙ ap is_free q in cc)
            (λ k h q. other k (λ r. omega arith) ∙ e.same k (past ns k (omega arith)));
      }

  pub push_grows : ExtendsGraph ns (ns ++ n ∷ [])
  push_grows =
      let l = length_push ns n in
      record {
        graph = push_all (FitsInGraph (length (ns ++ n ∷ []))) ns n (λ k h. fits_more (length ns) (length (ns ++ n ∷ [])) k (node_at ns k) (omega arith) (graph k)) (fits_more (length ns) (length (ns ++ n ∷ [])) (length ns) n (omega arith) (fits_parts (length ns) (length ns) n last inside)) (λ k h. tt);
        long = omega arith;
        before = λ k h. get_or_append_left ns (n ∷ []) Free k h;
        extends = extension;
      }

  pub push_says : (u : ℕ → Ty) → Holds u (ns ++ n ∷ []) → u (length ns) ≡ value u (form_of (length ns) n)
  push_says u h = subst (Says u (length ns)) (get_or_push ns n Free (length ns) refl) (h (length ns))

pub record Placed (old new : List Node) (place : ℕ) (t : Open) : Type 0 where
  pub grown : ExtendsGraph old new
  pub stands : StandsForTerm new place t

pub placed : (old new : List Node) (n : Node) (place : ℕ) (t : Open) → IsGraph old → place ≡ length old → new ≡ old ++ n ∷ [] → AllParts (λ a. a < length old) (node_parts n) → link_of n ≡ None → is_free n ≡ false → ((u : ℕ → Ty) → Holds u old → value u (form_of (length old) n) ≡ value u t) → Placed old new place t
placed old new n place t graph at is inside last formed same =
    let grown : ExtendsGraph old (old ++ n ∷ []) = push_grows old n graph inside last formed in
    let l = length_push old n in
    let stands : StandsForTerm (old ++ n ∷ []) (length old) t = record {
      inside = omega arith;
      same = λ u h. push_says old n graph inside last formed u h ∙ same u (grows_holds old (old ++ n ∷ []) grown u h);
    } in
    subst (λ x. Placed old x place t) (sym is) (subst (λ p. Placed old (old ++ n ∷ []) p t) (sym at) (record { grown = grown; stands = stands }))

pub placed_power : (old mid new : List Node) (a place : ℕ) (s : Open) → ExtendsGraph old mid → StandsForTerm mid a s → place ≡ length mid → new ≡ mid ++ Pow a ∷ [] → Placed old new place (powerset s)
placed_power old mid new a place s g st at is =
    let p = placed mid new (Pow a) place (powerset s) g.graph at is st.inside refl refl (λ u h. ap ty.Pow (st.same u h)) in
    record { grown = Grows-trans old mid new g p.grown; stands = p.stands }

pub placed_pair : (old mid last new : List Node) (a b place : ℕ) (s t : Open) → ExtendsGraph old mid → StandsForTerm mid a s → ExtendsGraph mid last → StandsForTerm last b t → place ≡ length last → new ≡ last ++ Pair a b ∷ [] → Placed old new place (product s t)
placed_pair old mid last new a b place s t g st h su at is =
    let left = grows_stands mid last a s h st in
    let p = placed last new (Pair a b) place (product s t) h.graph at is (left.inside, su.inside) refl refl (λ u k. λ i. ty.Pair (left.same u k i) (su.same u k i)) in
    record { grown = Grows-trans old last new (Grows-trans old mid last g h) p.grown; stands = p.stands }

pub placed_variable : (ns : List Node) (i : ℕ) → IsGraph ns → i + 1 ≤ length ns → Placed ns ns i (variable i)
placed_variable ns i g h = record { grown = Grows-refl ns g; stands = record { inside = omega arith; same = λ u k. refl } }

variables_in-append : (a b : List Equality) → variables_in (a ++ b) ≡ max (variables_in a) (variables_in b)
variables_in-append [] b = omega arith
variables_in-append (e ∷ a) b = let rest = variables_in-append a b in omega arith

-- how far the equations have come
pub record Placing (all left : List Equality) (old now : List Node) (pairs : List (ℕ × ℕ)) : Type 0 where
  pub done : List Equality
  pub split : all ≡ left ++ done
  pub room : variables_in left ≤ length now
  pub grown : ExtendsGraph old now
  pub inside : AreInside (length now) pairs
  pub same : (u : ℕ → Ty) → Holds u now → AllSame u pairs ↔ Solves u done

append_nil : (xs : List Equality) → xs ++ [] ≡ xs
append_nil [] = refl
append_nil (x ∷ xs) = ap (λ ys. x ∷ ys) (append_nil xs)

pub Placing-start : (all : List Equality) (ns : List Node) → IsGraph ns → variables_in all ≤ length ns → Placing all all ns ns []
Placing-start all ns g room = record {
  done = [];
  split = sym (append_nil all);
  room = room;
  grown = Grows-refl ns g;
  inside = tt;
  same = λ u h. (λ x. x, λ x. x);
}

pub last_room : (left rest : List Equality) (s t : Open) (n : ℕ) → variables_in left ≤ n → left ≡ rest ++ (s, t) ∷ [] → (variable_count s ≤ n) × (variable_count t ≤ n) × (variables_in rest ≤ n)
last_room left rest s t n room e =
    let a = ap variables_in e in
    let b = variables_in-append rest ((s, t) ∷ []) in
    (omega arith, omega arith, omega arith)

inside_more : (m n : ℕ) (ps : List (ℕ × ℕ)) → m ≤ n → AreInside m ps → AreInside n ps
inside_more m n [] h i = tt
inside_more m n (p ∷ ps) h i = let a = i.0 in let b = i.1 in (omega arith, omega arith, inside_more m n ps h i.2)

pub placing_step : (all left rest : List Equality) (old now mid new : List Node) (pairs more : List (ℕ × ℕ)) (a b : ℕ) (s t : Open) → Placing all left old now pairs → left ≡ rest ++ (s, t) ∷ [] → ExtendsGraph now mid → StandsForTerm mid a s → ExtendsGraph mid new → StandsForTerm new b t → more ≡ pairs ++ (a, b) ∷ [] → Placing all rest old new more
placing_step all left rest old now mid new pairs more a b s t p e g st h su is =
    let longer = Grows-trans now mid new g h in
    let l = longer.long in
    let left_stands = grows_stands mid new a s h st in
    let rooms = last_room left rest s t (length now) p.room e in
    let r = rooms.2 in
    record {
      done = (s, t) ∷ p.done;
      split = p.split ∙ ap (λ x. x ++ p.done) e ∙ append_assoc rest ((s, t) ∷ []) p.done;
      room = omega arith;
      grown = Grows-trans old now new p.grown longer;
      inside = subst (AreInside (length new)) (sym is) ((AreInside-append (length new) pairs ((a, b) ∷ [])).1 (inside_more (length now) (length new) pairs l p.inside, (left_stands.inside, su.inside, tt)));
      same = λ u held.
          let before = p.same u (grows_holds now new longer u held) in
          let joined = AllSame-append u pairs ((a, b) ∷ []) in
          let la = left_stands.same u held in
          let lb = su.same u held in
          (λ x. let y = joined.0 (subst (AllSame u) is x) in (sym la ∙ y.1.0 ∙ lb, before.0 y.0), λ y. subst (AllSame u) (sym is) (joined.1 (before.1 y.1, (la ∙ y.0 ∙ sym lb, tt))));
    }

pub all_placed : (all left : List Equality) (old now : List Node) (pairs : List (ℕ × ℕ)) → Placing all left old now pairs → left ≡ [] → BuildsGraph all old now pairs
all_placed all left old now pairs p e =
    let same : all ≡ p.done = p.split ∙ ap (λ x. x ++ p.done) e in
    record { grown = p.grown; inside = p.inside; same = λ u h. subst (λ es. AllSame u pairs ↔ Solves u es) (sym same) (p.same u h) }

-- a form was put at the end, if there was room
pub atom_grown : {E : Type 0} (r : Result ℕ E) (old new : List Node) (n : Node) → IsGraph old → node_parts n ≡ Zero → link_of n ≡ None → is_free n ≡ false → OnOk r (new ≡ old ++ n ∷ []) → OnOk r (ExtendsGraph old new)
atom_grown r old new n graph parts last formed =
    on_ok_weaker r (λ is. subst (ExtendsGraph old) (sym is) (push_grows old n graph (subst (AllParts (λ a. a < length old)) (sym parts) tt) last formed))

pub power_grown : {E : Type 0} (r : Result ℕ E) (old mid new : List Node) (a : ℕ) (s : Open) → ExtendsGraph old mid → StandsForTerm mid a s → OnOk r (new ≡ mid ++ Pow a ∷ []) → OnOk r (ExtendsGraph old new)
power_grown r old mid new a s g st = on_ok_weaker r (λ is. (placed_power old mid new a (length mid) s g st refl is).grown)

pub power_stands : {E : Type 0} (r : Result ℕ E) (old mid new : List Node) (a n : ℕ) (s : Open) → ExtendsGraph old mid → StandsForTerm mid a s → n ≡ length mid → IfOk r (λ p. p ≡ n) → OnOk r (new ≡ mid ++ Pow a ∷ []) → IfOk r (λ p. StandsForTerm new p (powerset s))
power_stands (Ok p) old mid new a n s g st long at is = (placed_power old mid new a p s g st (at ∙ long) is).stands
power_stands (Err e) old mid new a n s g st long at is = tt

pub pair_grown : {E : Type 0} (r : Result ℕ E) (old mid last new : List Node) (a b : ℕ) (s t : Open) → ExtendsGraph old mid → StandsForTerm mid a s → ExtendsGraph mid last → StandsForTerm last b t → OnOk r (new ≡ last ++ Pair a b ∷ []) → OnOk r (ExtendsGraph old new)
pair_grown r old mid last new a b s t g st h su = on_ok_weaker r (λ is. (placed_pair old mid last new a b (length last) s t g st h su refl is).grown)

pub pair_stands : {E : Type 0} (r : Result ℕ E) (old mid last new : List Node) (a b n : ℕ) (s t : Open) → ExtendsGraph old mid → StandsForTerm mid a s → ExtendsGraph mid last → StandsForTerm last b t → n ≡ length last → IfOk r (λ p. p ≡ n) → OnOk r (new ≡ last ++ Pair a b ∷ []) → IfOk r (λ p. StandsForTerm new p (product s t))
pair_stands (Ok p) old mid last new a b n s t g st h su long at is = (placed_pair old mid last new a b p s t g st h su (at ∙ long) is).stands
pair_stands (Err e) old mid last new a b n s t g st h su long at is = tt
