-- The same tokens at other places spell the same tree, but for its places.
use Rattle.std.proofs.Common.{◌≡◌, ◌∙◌, sym, ap, subst, refl, ℕ, suc, List, [], ◌∷◌, ◌++◌, map, length, Option, Some, None, true}
use Rattle.std.proofs.lemmas.List.{map-append}
use Rattle.formula_core.specs.declared.op.Op.TheVariants as op
use Rattle.formula_core.specs.declared.raw.RawOp.{RawOp}
use Rattle.formula_core.specs.declared.raw.RawOp.TheVariants as rawop
use Rattle.formula_core.specs.declared.raw.RawBinder.{RawBinder}
use Rattle.formula_core.specs.declared.raw.RawBinder.TheVariants as rawbinder
use Rattle.formula_core.specs.declared.raw.RawBound.{RawBound}
use Rattle.formula_core.specs.declared.raw.Raw.{Raw}
use Rattle.formula_core.specs.declared.raw.Raw.TheVariants as raw
use Rattle.math_grammar.specs.declared.holes.Grade.{Grade}
use Rattle.math_grammar.specs.declared.holes.Hole.{Hole}
use Rattle.math_grammar.specs.declared.holes.Hole.TheVariants as hole
use Rattle.math_grammar.specs.declared.levels.Bracket.{Bracket}
use Rattle.math_grammar.specs.declared.levels.Binding.{Binding}
use Rattle.math_grammar.specs.declared.shapes.Shape.{Shape}
use Rattle.math_grammar.specs.Levels.{has_room, prefix_op, right_of, binder_of, implicit_of}
use Rattle.math_grammar.specs.Tokens.{Item}
use Rattle.math_grammar.specs.Grammar as grammar
use Rattle.math_grammar.specs.Grammar.{item, place_of, bound, between, lone, type_with, joined_shape, Ends, Reads, Parts, TypeOf, Bound, Declares, BinderBody, LastPart, Pattern, Atom, Spells}
use Rattle.math_places.specs.Places.{unplaced, AlikeTokens}
use Rattle.math_places.proofs.Equations.{unplaced-Int, unplaced-Name, unplaced-Node, unplaced-Bind, unplaced_bound}
use Rattle.math_places.proofs.Tokens.{Alike, none, next, one_by_one, at_end}

abbrev pub Same : Raw → Raw → Type 0
Same a b = unplaced a ≡ unplaced b

abbrev pub AllSame : List Raw → List Raw → Type 0
AllSame xs ys = map unplaced xs ≡ map unplaced ys

abbrev SameNames : List RawBound → List RawBound → Type 0
SameNames xs ys = map unplaced_bound xs ≡ map unplaced_bound ys

pub append_same : (xs ys : List Raw) (a b : Raw) → AllSame xs ys → Same a b → AllSame (xs ++ a ∷ []) (ys ++ b ∷ [])
append_same xs ys a b e d =
    map-append unplaced xs (a ∷ []) ∙ (λ i. e i ++ d i ∷ []) ∙ sym (map-append unplaced ys (b ∷ []))

append_names : (xs ys zs ws : List RawBound) → SameNames xs ys → SameNames zs ws → SameNames (xs ++ zs) (ys ++ ws)
append_names xs ys zs ws e d =
    map-append unplaced_bound xs zs ∙ (λ i. e i ++ d i) ∙ sym (map-append unplaced_bound ys ws)

pub same_size : (xs ys : List Raw) → AllSame xs ys → length xs ≡ length ys
same_size [] [] e = refl
same_size [] (y ∷ ys) e = cc
same_size (x ∷ xs) [] e = cc
same_size (x ∷ xs) (y ∷ ys) e = let rest : AllSame xs ys = cc in ap suc (same_size xs ys rest)

same_name : (n : List ℕ) (p q : ℕ) → Same (raw.Name n p) (raw.Name n q)
same_name n p q = unplaced-Name n p ∙ sym (unplaced-Name n q)

same_node : (o : RawOp) (xs ys : List Raw) (p q : ℕ) → AllSame xs ys → Same (raw.Node o xs p) (raw.Node o ys q)
same_node o xs ys p q e = unplaced-Node o xs p ∙ ap (λ parts. raw.Node o parts 0) e ∙ sym (unplaced-Node o ys q)

same_between : (o : RawOp) (a b c d : Raw) → Same a c → Same b d → Same (between o a b) (between o c d)
same_between o a b c d e f = same_node o (a ∷ b ∷ []) (c ∷ d ∷ []) _ _ (λ i. e i ∷ f i ∷ [])

same_bind : (b : RawBinder) (names others : List RawBound) (xs ys : List Raw) (p q : ℕ) → SameNames names others → AllSame xs ys → Same (raw.Bind b names xs p) (raw.Bind b others ys q)
same_bind b names others xs ys p q e d =
    unplaced-Bind b names xs p ∙ (λ i. raw.Bind b (e i) (d i) 0) ∙ sym (unplaced-Bind b others ys q)

same_bound : (n : List ℕ) (p q : ℕ) (a b : Raw) → Same a b → unplaced_bound (bound n p (Some a)) ≡ unplaced_bound (bound n q (Some b))
same_bound n p q a b e = ap (λ t. bound n 0 (Some t)) e

record SameShape (a b : Shape) : Type 0 where
  pub names : SameNames a.names b.names
  pub tree : Same a.tree b.tree

abbrev SameFront : Option Shape → Option Shape → Type 0
SameFront None None = Unit {0}
SameFront (Some a) (Some b) = SameShape a b
SameFront _ _ = ⊥

same_joined : (front before : Option Shape) (a b : Shape) → SameFront front before → SameShape a b → SameShape (joined_shape front a) (joined_shape before b)
same_joined None None a b e d = d
same_joined None (Some y) a b e d = absurd e
same_joined (Some x) None a b e d = absurd e
same_joined (Some x) (Some y) a b e d = record { names = append_names x.names y.names a.names b.names e.names d.names; tree = same_between (rawop.Plain op.Maplet) x.tree a.tree y.tree b.tree e.tree d.tree }

pub ends_again : (h : Hole) (g : Grade) (s others : List Item) → Alike s others → Ends h g s → Ends h g others
ends_again h g _ _ none e = e
ends_again h g _ _ (next a) e = e

-- some such value is read here too, and what stands after it is the same
pub record Again {A : Type 0} (Reading : A → List Item → Type 0) (IsSame : A → Type 0) (rest : List Item) : Type 0 where
  pub tree : A
  pub after : List Item
  pub reads : Reading tree after
  pub same : IsSame tree
  pub alike : Alike rest after

-- the same with a token behind it
pub record UpTo {A : Type 0} (Reading : A → List Item → Type 0) (IsSame : A → Type 0) (x : Item) (rest : List Item) : Type 0 where
  pub tree : A
  pub at : ℕ
  pub after : List Item
  pub reads : Reading tree (item x.symbol at x.text ∷ after)
  pub same : IsSame tree
  pub alike : Alike rest after

up_to_next : {A : Type 0} {Reading : A → List Item → Type 0} {IsSame : A → Type 0} {x : Item} {rest : List Item} (tree : A) (after : List Item) → Reading tree after → IsSame tree → Alike (x ∷ rest) after → UpTo Reading IsSame x rest
up_to_next tree _ r e (next a) = record { tree = tree; at = _; after = _; reads = r; same = e; alike = a }

pub up_to : {A : Type 0} {Reading : A → List Item → Type 0} {IsSame : A → Type 0} {x : Item} {rest : List Item} → Again Reading IsSame (x ∷ rest) → UpTo Reading IsSame x rest
up_to a = up_to_next a.tree a.after a.reads a.same a.alike

-- the token counted as read
pub with_token : {A : Type 0} {Reading : A → List Item → Type 0} {IsSame : A → Type 0} {x : Item} {rest : List Item} (u : UpTo Reading IsSame x rest) → Again (λ t s. Reading t (item x.symbol u.at x.text ∷ s)) IsSame rest
with_token u = record { tree = u.tree; after = u.after; reads = u.reads; same = u.same; alike = u.alike }

module _ (limit : Option ℕ) where
  mutual
    pub reads_again : {g : Grade} {s rest others : List Item} {t : Raw} → Reads limit g s t rest → Alike s others → Again (Reads limit g others) (λ u. Same u t) rest
    reads_again (grammar.a_name {n = n} {p = p} is) (next {q = q} a) = record { tree = raw.Name n q; after = _; reads = grammar.a_name is; same = same_name n q p; alike = a }
    reads_again (grammar.a_number {n = n} {p = p}) (next {q = q} a) = record { tree = raw.Int n q; after = _; reads = grammar.a_number; same = unplaced-Int n q ∙ sym (unplaced-Int n p); alike = a }
    reads_again (grammar.a_truth {o = o} {p = p}) (next {q = q} a) = record { tree = raw.Node (rawop.Plain o) [] q; after = _; reads = grammar.a_truth; same = same_node (rawop.Plain o) [] [] q p refl; alike = a }
    reads_again (grammar.a_constant {o = o} {p = p}) (next {q = q} a) = record { tree = raw.Node (rawop.Plain o) [] q; after = _; reads = grammar.a_constant; same = same_node (rawop.Plain o) [] [] q p refl; alike = a }
    reads_again (grammar.prefixed {g = g} {q = q} {p = p} {rest = rest} {t = t} is r fit ends lv) (next {q = at} a) =
        let u = reads_again r a in
        record {
          tree = raw.Node (prefix_op q) (u.tree ∷ []) at;
          after = u.after;
          reads = grammar.prefixed is u.reads fit (ends_again _ g rest u.after u.alike ends) lv;
          same = same_node (prefix_op q) (u.tree ∷ []) (t ∷ []) at p (λ i. u.same i ∷ []);
          alike = u.alike;
        }
    reads_again (grammar.two_sides {g = g} {h = h} {l = l} {o = o} {rest = rest} {a = left} {b = right} r is takes r' fit ends lv) a =
        let u = up_to (reads_again r a) in
        let v = reads_again r' u.alike in
        record {
          tree = between o u.tree v.tree;
          after = v.after;
          reads = grammar.two_sides u.reads is takes v.reads fit (ends_again (right_of l) h rest v.after v.alike ends) lv;
          same = same_between o u.tree v.tree left right u.same v.same;
          alike = v.alike;
        }
    reads_again (grammar.in_parentheses r lv) (next a) =
        let u = up_to (reads_again r a) in
        record { tree = u.tree; after = u.after; reads = grammar.in_parentheses u.reads lv; same = u.same; alike = u.alike }
    reads_again (grammar.called {o = o} {p = p} {parts = parts} r lv) (next {q = at} (next a)) =
        let u = parts_again [] r refl a in
        record { tree = raw.Node o u.tree at; after = u.after; reads = grammar.called u.reads lv; same = same_node o u.tree parts at p u.same; alike = u.alike }
    reads_again (grammar.applied {o = o} {f = f} {a = argument} r is ready r' fit) a =
        let u = up_to (reads_again r a) in
        let v = up_to (reads_again r' u.alike) in
        record {
          tree = between o u.tree v.tree;
          after = v.after;
          reads = grammar.applied u.reads is ready v.reads fit;
          same = same_between o u.tree v.tree f argument u.same v.same;
          alike = v.alike;
        }
    reads_again (grammar.converted {f = f} r ready) a =
        let u = up_to (reads_again r a) in
        record {
          tree = raw.Node (rawop.Plain op.Converse) (u.tree ∷ []) (place_of u.tree);
          after = u.after;
          reads = grammar.converted u.reads ready;
          same = same_node (rawop.Plain op.Converse) (u.tree ∷ []) (f ∷ []) (place_of u.tree) (place_of f) (λ i. u.same i ∷ []);
          alike = u.alike;
        }
    reads_again (grammar.set_by_members {p = p} {members = members} is r) (next {q = at} a) =
        let u = parts_again [] r refl a in
        record {
          tree = raw.Node (rawop.Plain op.SetExtension) u.tree at;
          after = u.after;
          reads = grammar.set_by_members is u.reads;
          same = same_node (rawop.Plain op.SetExtension) u.tree members at p u.same;
          alike = u.alike;
        }
    reads_again (grammar.by_names {c = c} {p = p} {names = names} {parts = parts} is takes d r lv) (next {q = at} a) =
        let n = names_again [] d refl a in
        let u = body_again [] r refl n.alike in
        record {
          tree = raw.Bind (binder_of c) n.tree u.tree at;
          after = u.after;
          reads = grammar.by_names is takes n.reads u.reads lv;
          same = same_bind (binder_of c) n.tree names u.tree parts at p n.same u.same;
          alike = u.alike;
        }
    reads_again (grammar.by_shape {c = c} {p = p} {e = e} {t = t} is takes r fit r' lv) (next {q = at} a) =
        let u = up_to (reads_again r a) in
        let v = last_again r' u.alike in
        record {
          tree = raw.Bind (implicit_of c) [] (u.tree ∷ v.tree ∷ []) at;
          after = v.after;
          reads = grammar.by_shape is takes u.reads fit v.reads lv;
          same = same_bind (implicit_of c) [] [] (u.tree ∷ v.tree ∷ []) (e ∷ t ∷ []) at p refl (λ i. u.same i ∷ v.same i ∷ []);
          alike = v.alike;
        }
    reads_again (grammar.lambda {p = p} {shape = shape} {parts = parts} d r) (next {q = at} a) =
        let n = up_to (pattern_again None d tt a) in
        let u = body_again (n.tree.tree ∷ []) r (λ i. n.same.tree i ∷ []) n.alike in
        record {
          tree = raw.Bind rawbinder.Lambda n.tree.names u.tree at;
          after = u.after;
          reads = grammar.lambda n.reads u.reads;
          same = same_bind rawbinder.Lambda n.tree.names shape.names u.tree parts at p n.same.names u.same;
          alike = u.alike;
        }

    parts_again : {h : Hole} {many : Option ℕ} {b : Bracket} {before parts : List Raw} {s rest others : List Item} (front : List Raw) →
        Parts limit h many b before s parts rest → AllSame front before → Alike s others → Again (Parts limit h many b front others) (λ u. AllSame u parts) rest
    parts_again front (grammar.last_one {before = before} {t = t} r fit) e a =
        let u = up_to (reads_again r a) in
        record { tree = front ++ u.tree ∷ []; after = u.after; reads = grammar.last_one u.reads fit; same = append_same front before u.tree t e u.same; alike = u.alike }
    parts_again front (grammar.next_one {many = many} {before = before} {t = t} room r fit others) e a =
        let u = up_to (reads_again r a) in
        let more : AllSame (front ++ u.tree ∷ []) (before ++ t ∷ []) = append_same front before u.tree t e u.same in
        let v = parts_again (front ++ u.tree ∷ []) others more u.alike in
        let left : has_room many (length (front ++ u.tree ∷ [])) ≡ true = ap (has_room many) (same_size (front ++ u.tree ∷ []) (before ++ t ∷ []) more) ∙ room in
        record { tree = v.tree; after = v.after; reads = grammar.next_one left u.reads fit v.reads; same = v.same; alike = v.alike }

    type_again : {s rest others : List Item} {t : Raw} → TypeOf limit None s t rest → Alike s others → Again (TypeOf limit None others) (λ u. Same u t) rest
    type_again (grammar.last_side r fit) a = let u = reads_again r a in record { tree = u.tree; after = u.after; reads = grammar.last_side u.reads fit; same = u.same; alike = u.alike }
    type_again (grammar.first_side r fit r') a =
        let u = up_to (reads_again r a) in
        let v = second_again u.tree r' u.same u.alike in
        record { tree = v.tree; after = v.after; reads = grammar.first_side u.reads fit v.reads; same = v.same; alike = v.alike }

    second_again : {s rest others : List Item} {b t : Raw} (front : Raw) → TypeOf limit (Some b) s t rest → Same front b → Alike s others → Again (TypeOf limit (Some front) others) (λ u. Same u t) rest
    second_again {b = b} front (grammar.last_side {t = t} r fit) e a =
        let u = reads_again r a in
        record { tree = between rawop.OfType front u.tree; after = u.after; reads = grammar.last_side u.reads fit; same = same_between rawop.OfType front u.tree b t e u.same; alike = u.alike }

    bound_again : {s rest others : List Item} {b : RawBound} → Bound limit s b rest → Alike s others → Again (Bound limit others) (λ u. unplaced_bound u ≡ unplaced_bound b) rest
    bound_again (grammar.bare {n = n} is) (next {q = at} a) = record { tree = bound n at None; after = _; reads = grammar.bare is; same = refl; alike = a }
    bound_again (grammar.of_type {n = n} {p = p} {t = t} is r) (next {q = at} (next a)) =
        let u = type_again r a in
        record { tree = bound n at (Some u.tree); after = u.after; reads = grammar.of_type is u.reads; same = same_bound n at p u.tree t u.same; alike = u.alike }

    names_again : {before names : List RawBound} {s rest others : List Item} (front : List RawBound) → Declares limit before s names rest → SameNames front before → Alike s others → Again (Declares limit front others) (λ u. SameNames u names) rest
    names_again front (grammar.last_name {before = before} {b = b} r) e a =
        let u = up_to (bound_again r a) in
        record { tree = front ++ u.tree ∷ []; after = u.after; reads = grammar.last_name u.reads; same = append_names front before (u.tree ∷ []) (b ∷ []) e (λ i. u.same i ∷ []); alike = u.alike }
    names_again front (grammar.next_name {before = before} {b = b} r r') e a =
        let u = up_to (bound_again r a) in
        let v = names_again (front ++ u.tree ∷ []) r' (append_names front before (u.tree ∷ []) (b ∷ []) e (λ i. u.same i ∷ [])) u.alike in
        record { tree = v.tree; after = v.after; reads = grammar.next_name u.reads v.reads; same = v.same; alike = v.alike }

    body_again : {c : Binding} {before parts : List Raw} {s rest others : List Item} (front : List Raw) → BinderBody limit c before s parts rest → AllSame front before → Alike s others → Again (BinderBody limit c front others) (λ u. AllSame u parts) rest
    body_again front (grammar.a_predicate {before = before} {t = t} is r) e a =
        let u = last_again r a in
        record { tree = front ++ u.tree ∷ []; after = u.after; reads = grammar.a_predicate is u.reads; same = append_same front before u.tree t e u.same; alike = u.alike }
    body_again front (grammar.a_value {before = before} {t = t} {e = value} is r fit r') e a =
        let u = up_to (reads_again r a) in
        let v = last_again r' u.alike in
        record {
          tree = (front ++ u.tree ∷ []) ++ v.tree ∷ [];
          after = v.after;
          reads = grammar.a_value is u.reads fit v.reads;
          same = append_same (front ++ u.tree ∷ []) (before ++ t ∷ []) v.tree value (append_same front before u.tree t e u.same) v.same;
          alike = v.alike;
        }

    last_again : {c : Binding} {h : Hole} {s rest others : List Item} {t : Raw} → LastPart limit c h s t rest → Alike s others → Again (LastPart limit c h others) (λ u. Same u t) rest
    last_again (grammar.up_to_brace is r fit) a =
        let u = up_to (reads_again r a) in record { tree = u.tree; after = u.after; reads = grammar.up_to_brace is u.reads fit; same = u.same; alike = u.alike }
    last_again (grammar.reaching {h = h} {g = g} {rest = rest} is r fit ends) a =
        let u = reads_again r a in
        record { tree = u.tree; after = u.after; reads = grammar.reaching is u.reads fit (ends_again h g rest u.after u.alike ends); same = u.same; alike = u.alike }

    pattern_again : {before : Option Shape} {shape : Shape} {s rest others : List Item} (front : Option Shape) → Pattern limit before s shape rest → SameFront front before → Alike s others → Again (Pattern limit front others) (λ u. SameShape u shape) rest
    pattern_again front (grammar.last_atom {before = before} {a = atom} r) e a =
        let u = atom_again r a in
        record { tree = joined_shape front u.tree; after = u.after; reads = grammar.last_atom u.reads; same = same_joined front before u.tree atom e u.same; alike = u.alike }
    pattern_again front (grammar.next_atom {before = before} {a = atom} r r') e a =
        let u = up_to (atom_again r a) in
        let v = pattern_again (Some (joined_shape front u.tree)) r' (same_joined front before u.tree atom e u.same) u.alike in
        record { tree = v.tree; after = v.after; reads = grammar.next_atom u.reads v.reads; same = v.same; alike = v.alike }

    atom_again : {s rest others : List Item} {shape : Shape} → Atom limit s shape rest → Alike s others → Again (Atom limit others) (λ u. SameShape u shape) rest
    atom_again (grammar.bare_atom {n = n} {p = p} is) (next {q = at} a) =
        record { tree = lone n at None; after = _; reads = grammar.bare_atom is; same = record { names = refl; tree = same_name n at p }; alike = a }
    atom_again (grammar.typed_atom {g = g} {n = n} {p = p} {rest = rest} {t = t} is r fit ends) (next {q = at} (next a)) =
        let u = reads_again r a in
        record {
          tree = lone n at (Some u.tree);
          after = u.after;
          reads = grammar.typed_atom is u.reads fit (ends_again hole.Arrow g rest u.after u.alike ends);
          same = record { names = (λ i. same_bound n at p u.tree t u.same i ∷ []); tree = same_name n at p };
          alike = u.alike;
        }
    atom_again (grammar.grouped_atom r) (next a) =
        let u = up_to (pattern_again None r tt a) in
        record { tree = u.tree; after = u.after; reads = grammar.grouped_atom u.reads; same = u.same; alike = u.alike }

pub spelled_again : (limit : Option ℕ) (h : Hole) (s others : List Item) (t : Raw) → AlikeTokens s others → Spells limit h s t → (u : Raw) × Spells limit h others u × (unplaced u ≡ unplaced t)
spelled_again limit h s others t alike r =
    let u = reads_again limit r.reads (one_by_one s others alike) in
    let over : u.after ≡ [] = at_end u.after u.alike in
    (u.tree, record { g = r.g; reads = subst (λ (rest : List Item). Reads limit r.g others u.tree rest) over u.reads; fit = r.fit }, u.same)
