-- Where a type may end before ↦, there is one form more.
use Rattle.std.proofs.Common.{◌≡◌, ℕ, List, [], ◌∷◌, true, Option, refl}
use Rattle.formula_core.specs.declared.raw.Raw.{Raw}
use Rattle.math_grammar.specs.declared.holes.Grade.TheVariants as grade
use Rattle.math_grammar.specs.declared.holes.Hole.TheVariants as hole
use Rattle.math_grammar.specs.Tokens.{Item}
use Rattle.math_grammar.specs.Grammar.{Spells}
use Rattle.formula_parse.specs.Machine.{want}
use Rattle.formula_parse.proofs.Outcomes.{run, found}
use Rattle.formula_parse.proofs.Place.{found_sentence}
use Rattle.plain_grammar.specs.Plain as plain
use Rattle.plain_grammar.specs.Plain.{Plain, PlainPattern, Accepts}
use Rattle.plain_grammar.specs.OpenType.{lambda_sign, a, of_type_sign, maplet_sign, dot_sign, top_sign, bar_sign, open_type}

module _ (limit : Option ℕ) where
  -- λ a·⊤∣a ⦂ a, before the ↦
  first_type : (rest : List Item) → Plain limit true grade.Reaching (lambda_sign ∷ a ∷ dot_sign ∷ top_sign ∷ bar_sign ∷ a ∷ of_type_sign ∷ a ∷ rest) rest
  first_type rest =
      plain.lambda (plain.last_atom (plain.bare_atom refl))
      (plain.a_value refl plain.a_truth refl (plain.reaching refl (plain.two_sides (plain.a_name refl) refl refl (plain.a_name refl) refl refl) refl))

  both_atoms : (rest : List Item) → PlainPattern limit true (a ∷ of_type_sign ∷ lambda_sign ∷ a ∷ dot_sign ∷ top_sign ∷ bar_sign ∷ a ∷ of_type_sign ∷ a ∷ maplet_sign ∷ a ∷ of_type_sign ∷ a ∷ rest) rest
  both_atoms rest =
      plain.next_atom (plain.typed_atom refl (first_type (maplet_sign ∷ a ∷ of_type_sign ∷ a ∷ rest)) refl tt)
      (plain.last_atom (plain.typed_atom refl (plain.a_name refl) refl tt))

  pub open_accepted : Accepts limit true hole.Expression open_type
  open_accepted = record {
    g = grade.Reaching;
    reads = plain.lambda (both_atoms (dot_sign ∷ top_sign ∷ bar_sign ∷ a ∷ [])) (plain.a_value refl plain.a_truth refl (plain.reaching refl (plain.a_name refl) refl));
    fit = refl;
  }

  pub open_refused : (t : Raw) → Spells limit hole.Expression open_type t → ⊥
  open_refused t s = let f : run limit hole.Expression (want []) open_type ≡ found t = found_sentence limit hole.Expression open_type t s in cc
