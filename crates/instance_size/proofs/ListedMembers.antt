-- The law of listed members: how large it makes a formula.
use Rattle.std.proofs.Common.{◌≡◌, ◌∙◌, sym, ap, refl, subst, ℕ, zero, suc, ◌+◌, ◌≤◌, max, sum, map, fold, min, List, [], ◌∷◌, slice_get, slice_set, Option, Some, None, true, arith}
use Rattle.std.proofs.lemmas.List.Sums.{sum_by-cons}
use Rattle.std.specs.Option.{option_map, option_and_then}
use Rattle.formula_core.specs.declared.Op.{Op}
use Rattle.formula_core.specs.declared.Op.TheVariants as op
use Rattle.formula_core.specs.declared.Ty.{Ty}
use Rattle.formula_core.specs.declared.Ty.TheVariants.{Truth}
use Rattle.formula_core.specs.declared.Formula.{Formula, out-Formula}
use Rattle.formula_core.specs.declared.Formula.TheOpen.{Formula-F, Int as IntF, Free as FreeF, Bound as BoundF, Node as NodeF, Bind as BindF}
use Rattle.formula_core.specs.declared.Formula.TheVariants.{Node, Bind}
use Rattle.formula_core.specs.Sizes.{formula_height, formula_nodes, greatest}
use Rattle.formula_core.proofs.Equations.{formula_height-Bind, formula_height-Node, formula_nodes-Bind, formula_nodes-Node}
use Rattle.condition_size.specs.Sizes.{clamped}
use Rattle.well_defined.specs.Predicates.{disjunction}
use Rattle.rule_table.specs.declared.law.Law.{Law}
use Rattle.rule_table.specs.declared.law.Law.TheVariants as law
use Rattle.rule_table.specs.Rewriting.{at_place, law_of, part, part_at, rewritten, with_part, with_part_at}
use Rattle.rule_table.specs.SetLaws.{equal_to_one_of, member_of_extension, or_equal}
use Rattle.rule_table.specs.Shapes.{equal, on_two, operands, two_operands}
use Rattle.rules_arith.specs.Places.{with_at}
use Rattle.rules_arith.proofs.Rewriting.{rewritten_by_parts}
use Rattle.instance_size.specs.declared.extent.Extent.{Extent}
use Rattle.instance_size.specs.Extents.{HasRoom, extent_of}
use Rattle.instance_size.specs.Private.{GrowsAt, MembersGrowAt, above, exceeds, extent_of_parts, joined_extent, members_extent, one_of_extent, or_equal_extent}
use Rattle.instance_size.proofs.Extents.{extent-Node, extent-both}
use Rattle.instance_size.proofs.GrowingRows.{no_room}

extent-two : (o : Op) (f g : Formula) (t : Ty) → extent_of (Node o (f ∷ g ∷ []) t) ≡ joined_extent (extent_of f) (extent_of g)
extent-two o f g t = extent-Node o (f ∷ g ∷ []) t ∙ ap above (extent-both f g)

extent-equal : (e f : Formula) → extent_of (equal e f) ≡ joined_extent (extent_of e) (extent_of f)
extent-equal e f = extent-two op.Equal e f Truth

any_of : (e p : Formula) (fs : List Formula) → fold (or_equal_extent (extent_of e)) (extent_of p) fs ≡ extent_of (fold (or_equal e) p fs)
any_of e p [] = refl
any_of e p (f ∷ fs) =
    ap (λ z. fold (or_equal_extent (extent_of e)) z fs) (ap (joined_extent (extent_of p)) (sym (extent-equal e f)) ∙ sym (extent-two op.Or p (equal e f) Truth))
    ∙ any_of e (disjunction p (equal e f)) fs

one_of : (e : Formula) (fs : List Formula) → one_of_extent (extent_of e) fs ≡ option_map extent_of (equal_to_one_of e fs)
one_of e [] = refl
one_of e (f ∷ fs) = ap Some (ap (λ z. fold (or_equal_extent (extent_of e)) z fs) (sym (extent-equal e f)) ∙ any_of e (equal e f) fs)

at_set : (e : Formula) (o : Option (List Formula)) → option_and_then (one_of_extent (extent_of e)) o ≡ option_map extent_of (option_and_then (equal_to_one_of e) o)
at_set e None = refl
at_set e (Some fs) = one_of e fs

at_member : (o : Option (Formula × Formula))
    → option_and_then (λ x. option_and_then (one_of_extent (extent_of x.0)) (operands op.SetExtension x.1)) o
    ≡ option_map extent_of (option_and_then (λ x. option_and_then (equal_to_one_of x.0) (operands op.SetExtension x.1)) o)
at_member None = refl
at_member (Some x) = at_set x.0 (operands op.SetExtension x.1)

pub members_are : (h : Formula) → members_extent h ≡ option_map extent_of (member_of_extension h)
members_are h = at_member (two_operands op.Member h)

-- a formula is no smaller than what was put into it

record IsWithin (a b : Formula) : Type 0 where
  nodes : formula_nodes a ≤ formula_nodes b
  height : formula_height a ≤ formula_height b

sum-cons : (n : ℕ) (ns : List ℕ) → sum (n ∷ ns) ≡ n + sum ns
sum-cons n ns = sum_by-cons (λ k. k) n ns

in_sum : (ps : List Formula) (i : ℕ) (p new : Formula) → slice_get ps i ≡ Some p → formula_nodes new ≤ sum (map formula_nodes (slice_set ps i new))
in_sum [] i p new e = absurd (cc)
in_sum (q ∷ ps) zero p new e = omega (arith, sum-cons (formula_nodes new) (map formula_nodes ps))
in_sum (q ∷ ps) (suc i) p new e = omega (arith, in_sum ps i p new e, sum-cons (formula_nodes q) (map formula_nodes (slice_set ps i new)))

in_greatest : (ps : List Formula) (i : ℕ) (p new : Formula) → slice_get ps i ≡ Some p → formula_height new ≤ greatest (map formula_height (slice_set ps i new))
in_greatest [] i p new e = absurd (cc)
in_greatest (q ∷ ps) zero p new e = omega arith
in_greatest (q ∷ ps) (suc i) p new e = omega (arith, in_greatest ps i p new e)

in_whole : (x : Formula-F Formula) (i : ℕ) (p new : Formula) → part_at x i ≡ Some p → IsWithin new (with_part_at x i new)
in_whole (IntF n) i p new e = absurd (cc)
in_whole (FreeF name t) i p new e = absurd (cc)
in_whole (BoundF j t) i p new e = absurd (cc)
in_whole (NodeF o ps t) i p new e = record {
  nodes = omega (arith, in_sum ps i p new e, formula_nodes-Node o (slice_set ps i new) t);
  height = omega (arith, in_greatest ps i p new e, formula_height-Node o (slice_set ps i new) t);
}
in_whole (BindF b ts ps t) i p new e = record {
  nodes = omega (arith, in_sum ps i p new e, formula_nodes-Bind b ts (slice_set ps i new) t);
  height = omega (arith, in_greatest ps i p new e, formula_height-Bind b ts (slice_set ps i new) t);
}

then_some : {X Y : Type 0} (o : Option X) (make : X → Option Y) (y : Y) → option_and_then make o ≡ Some y → (x : X) × (o ≡ Some x) × (make x ≡ Some y)
then_some None make y e = absurd (cc)
then_some (Some x) make y e = (x, refl, e)

le_trans : (a b c : ℕ) → a ≤ b → b ≤ c → a ≤ c
le_trans a b c h k = omega arith

le_refl : (a : ℕ) → a ≤ a
le_refl a = omega arith

put : (place : List ℕ) (f p new : Formula) → at_place place f ≡ Some p → (g : Formula) × (with_at place f new ≡ Some g) × IsWithin new g
put [] f p new e = (new, refl, record { nodes = le_refl (formula_nodes new); height = le_refl (formula_height new) })
put (i ∷ place) f p new e =
    let w = then_some (part f i) (at_place place) p e in
    let r = put place w.0 p new w.2 in
    let up = in_whole (out-Formula f) i w.0 r.0 w.1 in (
      with_part f i r.0,
      ap (option_and_then (λ q. option_map (with_part f i) (with_at place q new))) w.1 ∙ ap (option_map (with_part f i)) r.1,
      record { nodes = le_trans _ _ _ r.2.nodes up.nodes; height = le_trans _ _ _ r.2.height up.height },
    )

smaller : (a b : ℕ) → a ≤ b → clamped a ≤ clamped b
smaller a b h = omega arith

module _ (room : Extent) where
  fits_within : (a b : Formula) → IsWithin a b → HasRoom room b → HasRoom room a
  fits_within a b w h = record {
    nodes = le_trans _ _ _ (smaller _ _ w.nodes) h.nodes;
    height = le_trans _ _ _ (smaller _ _ w.height) h.height;
  }

  some_extent : (o : Option Formula) (e : Extent) → option_map extent_of o ≡ Some e → (g : Formula) × (o ≡ Some g) × (extent_of g ≡ e)
  some_extent None e h = absurd (cc)
  some_extent (Some g) e h = (g, refl, some_is (extent_of g) e h) where
    some_is : (a b : Extent) → Some a ≡ Some b → a ≡ b
    some_is a b e = cc

  pub members_grow : (place : List ℕ) (f p : Formula) (e : Extent) → at_place place f ≡ Some p → option_map extent_of (member_of_extension p) ≡ Some e → exceeds room e ≡ true
      → MembersGrowAt room place f
  members_grow place f p e h k n =
      let w = some_extent (member_of_extension p) e k in
      let r = put place f p w.0 h in (
        r.0,
        rewritten_by_parts law.MemberOfExtension place f ∙ ap (option_and_then (λ q. option_and_then (with_at place f) (member_of_extension q))) h
            ∙ ap (option_and_then (with_at place f)) w.1 ∙ r.1,
        λ fit. no_room room w.0 (ap (exceeds room) w.2 ∙ n) (fits_within w.0 r.0 r.2 fit),
      )

  pub law_grows : (number : ℕ) (place : List ℕ) (f : Formula) (o : Option Law) (l : Law) → o ≡ law_of number → o ≡ Some l → l ≡ law.MemberOfExtension → MembersGrowAt room place f → GrowsAt room number place f
  law_grows number place f o l e h is g = (law.MemberOfExtension, g.0, sym e ∙ h ∙ ap Some is, g.1, g.2)
