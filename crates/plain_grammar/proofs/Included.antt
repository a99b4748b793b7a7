-- What the grammar spells it accepts without the condition too.
use Rattle.std.proofs.Common.{◌≡◌, ℕ, ◌+◌, List, [], ◌∷◌, ◌++◌, true, Bool, Option, Some, refl, sym, subst, arith, length, length-append}
use Rattle.formula_core.specs.declared.raw.RawBound.{RawBound}
use Rattle.formula_core.specs.declared.raw.Raw.{Raw}
use Rattle.math_grammar.specs.declared.holes.Grade.{Grade}
use Rattle.math_grammar.specs.declared.holes.Hole.{Hole}
use Rattle.math_grammar.specs.declared.holes.Hole.TheVariants as hole
use Rattle.math_grammar.specs.declared.levels.Bracket.{Bracket}
use Rattle.math_grammar.specs.declared.levels.Binding.{Binding}
use Rattle.math_grammar.specs.declared.shapes.Shape.{Shape}
use Rattle.math_grammar.specs.Levels.{has_room, fits}
use Rattle.math_grammar.specs.Tokens.{Item}
use Rattle.math_grammar.specs.Grammar as grammar
use Rattle.math_grammar.specs.Grammar.{Reads, Parts, TypeOf, Bound, Declares, BinderBody, LastPart, Pattern, Atom, Spells}
use Rattle.plain_grammar.specs.Plain as plain
use Rattle.plain_grammar.specs.Plain.{Plain, PlainParts, PlainName, PlainNames, PlainBody, PlainLast, PlainPattern, PlainAtom, Accepts}

module _ (limit : Option ℕ) (everywhere : Bool) where
  mutual
    pub plain_reads : {g : Grade} {s rest : List Item} {t : Raw} → Reads limit g s t rest → Plain limit everywhere g s rest
    plain_reads (grammar.a_name e) = plain.a_name e
    plain_reads grammar.a_number = plain.a_number
    plain_reads grammar.a_truth = plain.a_truth
    plain_reads grammar.a_constant = plain.a_constant
    plain_reads (grammar.prefixed is r fit e lv) = plain.prefixed is (plain_reads r) fit lv
    plain_reads (grammar.two_sides left is takes r fit e lv) = plain.two_sides (plain_reads left) is takes (plain_reads r) fit lv
    plain_reads (grammar.in_parentheses r lv) = plain.in_parentheses (plain_reads r) lv
    plain_reads (grammar.called r lv) = plain.called (plain_parts 0 r refl) lv
    plain_reads (grammar.applied left is ready r fit) = plain.applied (plain_reads left) is ready (plain_reads r) fit
    plain_reads (grammar.converted left ready) = plain.converted (plain_reads left) ready
    plain_reads (grammar.set_by_members is r) = plain.set_by_members is (plain_parts 0 r refl)
    plain_reads (grammar.by_names is takes d r lv) = plain.by_names is takes (plain_names d) (plain_body r) lv
    plain_reads (grammar.by_shape is takes r fit last lv) = plain.by_shape is takes (plain_reads r) fit (plain_last last) lv
    plain_reads (grammar.lambda d r) = plain.lambda (plain_pattern d) (plain_body r)

    plain_parts : {h : Hole} {many : Option ℕ} {b : Bracket} {before parts : List Raw} {s rest : List Item} (n : ℕ) →
        Parts limit h many b before s parts rest → n ≡ length before → PlainParts limit everywhere h many b n s rest
    plain_parts n (grammar.last_one r fit) size = plain.last_one (plain_reads r) fit
    plain_parts n (grammar.next_one {many = many} {before = before} {t = t} room r fit others) size =
        let more : n + 1 ≡ length (before ++ t ∷ []) = omega (arith, size, length-append before (t ∷ [])) in
        plain.next_one (subst (λ k. has_room many k ≡ true) (sym more) room) (plain_reads r) fit (plain_parts (n + 1) others more)

    plain_name : {b : RawBound} {s rest : List Item} → Bound limit s b rest → PlainName limit everywhere s rest
    plain_name (grammar.bare e) = plain.bare e
    plain_name (grammar.of_type e (grammar.last_side r fit)) = plain.of_type e (plain_reads r) fit
    plain_name (grammar.of_type e (grammar.first_side l fit others)) = let second = plain_second others in plain.of_types e (plain_reads l) fit second.1 second.2

    plain_second : {a t : Raw} {s rest : List Item} → TypeOf limit (Some a) s t rest → (g : Grade) × Plain limit everywhere g s rest × (fits hole.Pair g ≡ true)
    plain_second (grammar.last_side {g = g} r fit) = (g, plain_reads r, fit)

    plain_names : {before names : List RawBound} {s rest : List Item} → Declares limit before s names rest → PlainNames limit everywhere s rest
    plain_names (grammar.last_name r) = plain.last_name (plain_name r)
    plain_names (grammar.next_name r others) = plain.next_name (plain_name r) (plain_names others)

    plain_body : {c : Binding} {before parts : List Raw} {s rest : List Item} → BinderBody limit c before s parts rest → PlainBody limit everywhere c s rest
    plain_body (grammar.a_predicate is r) = plain.a_predicate is (plain_last r)
    plain_body (grammar.a_value is r fit last) = plain.a_value is (plain_reads r) fit (plain_last last)

    plain_last : {c : Binding} {h : Hole} {s rest : List Item} {t : Raw} → LastPart limit c h s t rest → PlainLast limit everywhere c h s rest
    plain_last (grammar.up_to_brace is r fit) = plain.up_to_brace is (plain_reads r) fit
    plain_last (grammar.reaching is r fit e) = plain.reaching is (plain_reads r) fit

    plain_pattern : {before : Option Shape} {shape : Shape} {s rest : List Item} → Pattern limit before s shape rest → PlainPattern limit everywhere s rest
    plain_pattern (grammar.last_atom r) = plain.last_atom (plain_atom r)
    plain_pattern (grammar.next_atom r others) = plain.next_atom (plain_atom r) (plain_pattern others)

    plain_atom : {a : Shape} {s rest : List Item} → Atom limit s a rest → PlainAtom limit everywhere s rest
    plain_atom (grammar.bare_atom e) = plain.bare_atom e
    plain_atom (grammar.typed_atom e r fit d) = plain.strictly_typed e r fit d
    plain_atom (grammar.grouped_atom r) = plain.grouped_atom (plain_pattern r)

  pub included : (h : Hole) (s : List Item) (t : Raw) → Spells limit h s t → Accepts limit everywhere h s
  included h s t r = record { g = r.g; reads = plain_reads r.reads; fit = r.fit }
