-- The pairs of places, one after another.
use Rattle.std.proofs.Common.{◌≡◌, ◌≢◌, ℕ, ◌<◌, List, [], ◌∷◌, ◌++◌, length, refl, sym, ap, ◌∙◌, subst}
use Rattle.formula_core.specs.declared.ty.Ty.{Ty}
use Rattle.unification.specs.declared.graph.Node.{Node}
use Rattle.unification.specs.declared.graph.Node.TheVariants.{Free}
use Rattle.unification.specs.PrivateGraph.{node_at, Holds, IsGraph, Alike, AllSame, AreInside, Joins, Merges}
use Rattle.unification.proofs.Meetings.{AllSame-append, AreInside-append}

-- how far the pairs have come
pub record Merging (old : List Node) (pairs : List (ℕ × ℕ)) (now : List Node) (left : List (ℕ × ℕ)) : Type 0 where
  pub graph : IsGraph now
  pub long : length now ≡ length old
  pub inside : AreInside (length now) left
  pub kept : (u : ℕ → Ty) → Holds u old → AllSame u pairs → Holds u now × AllSame u left
  pub added : (u : ℕ → Ty) → Holds u now → AllSame u left → Holds u old × AllSame u pairs
  pub free : (k : ℕ) → node_at now k ≡ Free → node_at old k ≡ Free

pub Merging-start : (old : List Node) (pairs : List (ℕ × ℕ)) → IsGraph old → AreInside (length old) pairs → Merging old pairs old pairs
Merging-start old pairs g i = record { graph = g; long = refl; inside = i; kept = λ u h a. (h, a); added = λ u h a. (h, a); free = λ k q. q }

-- the two places of the last pair, at the end of their links
pub record Found (old : List Node) (pairs : List (ℕ × ℕ)) (now : List Node) (rest : List (ℕ × ℕ)) (a b : ℕ) : Type 0 where
  pub graph : IsGraph now
  pub long : length now ≡ length old
  pub inside : AreInside (length now) rest
  pub kept : (u : ℕ → Ty) → Holds u old → AllSame u pairs → Holds u now × (u a ≡ u b) × AllSame u rest
  pub added : (u : ℕ → Ty) → Holds u now → u a ≡ u b → AllSame u rest → Holds u old × AllSame u pairs
  pub free : (k : ℕ) → node_at now k ≡ Free → node_at old k ≡ Free

pub last_inside : (n : ℕ) (left rest : List (ℕ × ℕ)) (p : ℕ × ℕ) → AreInside n left → left ≡ rest ++ p ∷ [] → (p.0 < n) × (p.1 < n)
last_inside n left rest p i e = let s = ((AreInside-append n rest (p ∷ [])).0 (subst (AreInside n) e i)).1 in (s.0, s.1)

pub found : (old now one two : List Node) (pairs left rest : List (ℕ × ℕ)) (p : ℕ × ℕ) (a b : ℕ) → Merging old pairs now left → left ≡ rest ++ p ∷ [] → Alike now one → Alike one two → ((u : ℕ → Ty) → Holds u now → u p.0 ≡ u a) → ((u : ℕ → Ty) → Holds u one → u p.1 ≡ u b) → Found old pairs two rest a b
found old now one two pairs left rest p a b m e s t same_a same_b = record {
  graph = t.graph;
  long = t.long ∙ s.long ∙ m.long;
  inside = subst (λ n. AreInside n rest) (sym (t.long ∙ s.long)) ((AreInside-append (length now) rest (p ∷ [])).0 (subst (AreInside (length now)) e m.inside)).0;
  kept = λ u h q.
      let k = m.kept u h q in
      let r = (AllSame-append u rest (p ∷ [])).0 (subst (AllSame u) e k.1) in
      let in_one = s.kept u k.0 in
      (t.kept u in_one, sym (same_a u k.0) ∙ r.1.0 ∙ same_b u in_one, r.0);
  added = λ u h q r.
      let in_one = t.added u h in
      let in_now = s.added u in_one in
      m.added u in_now (subst (AllSame u) (sym e) ((AllSame-append u rest (p ∷ [])).1 (r, (same_a u in_now ∙ q ∙ sym (same_b u in_one), tt))));
  free = λ k q. m.free k (s.free k (t.free k q));
}

pub found_flip : (old now : List Node) (pairs rest : List (ℕ × ℕ)) (a b : ℕ) → Found old pairs now rest a b → Found old pairs now rest b a
found_flip old now pairs rest a b f = record {
  graph = f.graph;
  long = f.long;
  inside = f.inside;
  kept = λ u h q. let k = f.kept u h q in (k.0, sym k.1, k.2);
  added = λ u h q r. f.added u h (sym q) r;
  free = f.free;
}

pub found_same : (old now : List Node) (pairs rest : List (ℕ × ℕ)) (a b : ℕ) → Found old pairs now rest a b → a ≡ b → Merging old pairs now rest
found_same old now pairs rest a b f e = record {
  graph = f.graph;
  long = f.long;
  inside = f.inside;
  kept = λ u h q. let k = f.kept u h q in (k.0, k.2);
  added = λ u h r. f.added u h (ap u e) r;
  free = f.free;
}

pub found_joined : (old now new : List Node) (pairs rest more : List (ℕ × ℕ)) (a b : ℕ) → Found old pairs now rest a b → Joins a b now rest new more → Merging old pairs new more
found_joined old now new pairs rest more a b f j = record {
  graph = j.graph;
  long = j.long ∙ f.long;
  inside = j.inside;
  kept = λ u h q. let k = f.kept u h q in j.kept u k.0 k.1 k.2;
  added = λ u h r. let s = j.added u h r in f.added u s.0 s.1 s.2;
  free = λ k q. f.free k (j.free k q);
}

pub found_refused : (old now : List Node) (pairs rest : List (ℕ × ℕ)) (a b : ℕ) → Found old pairs now rest a b → ((u : ℕ → Ty) → Holds u now → u a ≢ u b) → (u : ℕ → Ty) → Holds u old → AllSame u pairs → ⊥
found_refused old now pairs rest a b f none u h q = let k = f.kept u h q in none u k.0 k.1

pub all_merged : (old now : List Node) (pairs left : List (ℕ × ℕ)) → Merging old pairs now left → left ≡ [] → Merges old pairs now
all_merged old now pairs left m e = record {
  graph = m.graph;
  long = m.long;
  kept = λ u h q. (m.kept u h q).0;
  added = λ u h. m.added u h (subst (AllSame u) (sym e) tt);
  free = m.free;
}
