-- Without the word partition, the tokens are read alike whatever the limit of its parts is.
use Rattle.std.proofs.Common.{◌≡◌, subst, refl, ℕ, Bool, true, false, List, [], Option, None}
use Rattle.std.specs.List.{AllByRecursion}
use Rattle.formula_core.specs.declared.raw.RawOp.{RawOp}
use Rattle.formula_core.specs.declared.raw.RawBound.{RawBound}
use Rattle.formula_core.specs.declared.raw.Raw.{Raw}
use Rattle.math_grammar.specs.declared.holes.Grade.{Grade}
use Rattle.math_grammar.specs.declared.holes.Hole.{Hole}
use Rattle.math_grammar.specs.declared.levels.Bracket.{Bracket}
use Rattle.math_grammar.specs.declared.levels.Bracket.TheVariants as bracket
use Rattle.math_grammar.specs.declared.levels.Binding.{Binding}
use Rattle.math_grammar.specs.declared.levels.Call.{Call}
use Rattle.math_grammar.specs.declared.levels.Call.TheVariants as call
use Rattle.math_grammar.specs.declared.symbols.Symbol.{Symbol}
use Rattle.math_grammar.specs.declared.symbols.Symbol.TheVariants as sym_of
use Rattle.math_grammar.specs.declared.shapes.Shape.{Shape}
use Rattle.math_grammar.specs.Levels.{call_parts, call_hole}
use Rattle.math_grammar.specs.Tokens.{Item}
use Rattle.math_grammar.specs.Grammar as grammar
use Rattle.math_grammar.specs.Grammar.{Reads, Parts, TypeOf, Bound, Declares, BinderBody, LastPart, Pattern, Atom, Spells}

abbrev pub is_limited : Symbol → Bool
is_limited (sym_of.Call call.Partition o) = true
is_limited _ = false

abbrev pub IsUnlimited : Item → Type 0
IsUnlimited x = is_limited x.symbol ≡ false

abbrev pub AreUnlimited : List Item → Type 0
AreUnlimited s = AllByRecursion IsUnlimited s

module _ (limit : Option ℕ) where
  same_parts : (c : Call) (o : RawOp) → is_limited (sym_of.Call c o) ≡ false → call_parts None c ≡ call_parts limit c
  same_parts call.Finite o h = refl
  same_parts call.Partition o h = cc
  same_parts call.Bool o h = refl
  same_parts call.Function o h = refl

  mutual
    pub reads_within : {g : Grade} {s rest : List Item} {t : Raw} → Reads None g s t rest → AreUnlimited s → Reads limit g s t rest × AreUnlimited rest
    reads_within (grammar.a_name is) all = (grammar.a_name is, all.1)
    reads_within grammar.a_number all = (grammar.a_number, all.1)
    reads_within grammar.a_truth all = (grammar.a_truth, all.1)
    reads_within grammar.a_constant all = (grammar.a_constant, all.1)
    reads_within (grammar.prefixed is r fit ends lv) all = let u = reads_within r all.1 in (grammar.prefixed is u.0 fit ends lv, u.1)
    reads_within (grammar.two_sides r is takes r' fit ends lv) all =
        let u = reads_within r all in
        let v = reads_within r' u.1.1 in
        (grammar.two_sides u.0 is takes v.0 fit ends lv, v.1)
    reads_within (grammar.in_parentheses r lv) all = let u = reads_within r all.1 in (grammar.in_parentheses u.0 lv, u.1.1)
    reads_within (grammar.called {c = c} {o = o} {s = s} {rest = rest} {parts = parts} r lv) all =
        let u = parts_within r all.1.1 in
        (grammar.called (subst (λ (many : Option ℕ). Parts limit (call_hole c) many bracket.Round [] s parts rest) (same_parts c o all.0) u.0) lv, u.1)
    reads_within (grammar.applied r is ready r' fit) all =
        let u = reads_within r all in
        let v = reads_within r' u.1.1 in
        (grammar.applied u.0 is ready v.0 fit, v.1.1)
    reads_within (grammar.converted r ready) all = let u = reads_within r all in (grammar.converted u.0 ready, u.1.1)
    reads_within (grammar.set_by_members is r) all = let u = parts_within r all.1 in (grammar.set_by_members is u.0, u.1)
    reads_within (grammar.by_names is takes d r lv) all =
        let n = names_within d all.1 in
        let u = body_within r n.1 in
        (grammar.by_names is takes n.0 u.0 lv, u.1)
    reads_within (grammar.by_shape is takes r fit r' lv) all =
        let u = reads_within r all.1 in
        let v = last_within r' u.1.1 in
        (grammar.by_shape is takes u.0 fit v.0 lv, v.1)
    reads_within (grammar.lambda d r) all =
        let n = pattern_within d all.1 in
        let u = body_within r n.1.1 in
        (grammar.lambda n.0 u.0, u.1)

    parts_within : {h : Hole} {many : Option ℕ} {b : Bracket} {before parts : List Raw} {s rest : List Item} → Parts None h many b before s parts rest → AreUnlimited s → Parts limit h many b before s parts rest × AreUnlimited rest
    parts_within (grammar.last_one r fit) all = let u = reads_within r all in (grammar.last_one u.0 fit, u.1.1)
    parts_within (grammar.next_one room r fit r') all =
        let u = reads_within r all in
        let v = parts_within r' u.1.1 in
        (grammar.next_one room u.0 fit v.0, v.1)

    type_within : {front : Option Raw} {s rest : List Item} {t : Raw} → TypeOf None front s t rest → AreUnlimited s → TypeOf limit front s t rest × AreUnlimited rest
    type_within (grammar.last_side r fit) all = let u = reads_within r all in (grammar.last_side u.0 fit, u.1)
    type_within (grammar.first_side r fit r') all =
        let u = reads_within r all in
        let v = type_within r' u.1.1 in
        (grammar.first_side u.0 fit v.0, v.1)

    bound_within : {s rest : List Item} {b : RawBound} → Bound None s b rest → AreUnlimited s → Bound limit s b rest × AreUnlimited rest
    bound_within (grammar.bare is) all = (grammar.bare is, all.1)
    bound_within (grammar.of_type is r) all = let u = type_within r all.1.1 in (grammar.of_type is u.0, u.1)

    names_within : {before names : List RawBound} {s rest : List Item} → Declares None before s names rest → AreUnlimited s → Declares limit before s names rest × AreUnlimited rest
    names_within (grammar.last_name r) all = let u = bound_within r all in (grammar.last_name u.0, u.1.1)
    names_within (grammar.next_name r r') all =
        let u = bound_within r all in
        let v = names_within r' u.1.1 in
        (grammar.next_name u.0 v.0, v.1)

    body_within : {c : Binding} {before parts : List Raw} {s rest : List Item} → BinderBody None c before s parts rest → AreUnlimited s → BinderBody limit c before s parts rest × AreUnlimited rest
    body_within (grammar.a_predicate is r) all = let u = last_within r all in (grammar.a_predicate is u.0, u.1)
    body_within (grammar.a_value is r fit r') all =
        let u = reads_within r all in
        let v = last_within r' u.1.1 in
        (grammar.a_value is u.0 fit v.0, v.1)

    last_within : {c : Binding} {h : Hole} {s rest : List Item} {t : Raw} → LastPart None c h s t rest → AreUnlimited s → LastPart limit c h s t rest × AreUnlimited rest
    last_within (grammar.up_to_brace is r fit) all = let u = reads_within r all in (grammar.up_to_brace is u.0 fit, u.1.1)
    last_within (grammar.reaching is r fit ends) all = let u = reads_within r all in (grammar.reaching is u.0 fit ends, u.1)

    pattern_within : {before : Option Shape} {shape : Shape} {s rest : List Item} → Pattern None before s shape rest → AreUnlimited s → Pattern limit before s shape rest × AreUnlimited rest
    pattern_within (grammar.last_atom r) all = let u = atom_within r all in (grammar.last_atom u.0, u.1)
    pattern_within (grammar.next_atom r r') all =
        let u = atom_within r all in
        let v = pattern_within r' u.1.1 in
        (grammar.next_atom u.0 v.0, v.1)

    atom_within : {s rest : List Item} {shape : Shape} → Atom None s shape rest → AreUnlimited s → Atom limit s shape rest × AreUnlimited rest
    atom_within (grammar.bare_atom is) all = (grammar.bare_atom is, all.1)
    atom_within (grammar.typed_atom is r fit ends) all = let u = reads_within r all.1.1 in (grammar.typed_atom is u.0 fit ends, u.1)
    atom_within (grammar.grouped_atom r) all = let u = pattern_within r all.1 in (grammar.grouped_atom u.0, u.1.1)

  pub spelled_within : (h : Hole) (s : List Item) (t : Raw) → AreUnlimited s → Spells None h s t → Spells limit h s t
  spelled_within h s t all r = record { g = r.g; reads = (reads_within r.reads all).0; fit = r.fit }
