-- What is spelled within narrower bounds is spelled within wider ones.
use Rattle.std.proofs.Common.{List, None}
use Rattle.std.specs.Prelude.{ℕ, Option}
use Rattle.formula_core.specs.declared.raw.Raw.{Raw}
use Rattle.formula_core.specs.declared.raw.RawAction.{RawAction}
use Rattle.math_grammar.specs.declared.holes.Hole.{Hole}
use Rattle.math_grammar.specs.Tokens.{Item}
use Rattle.math_grammar.specs.Grammar.{Spells}
use Rattle.math_grammar.specs.Actions.{SpellsAction}
use Rattle.formula_parse.specs.Limits.{most_parts}
use Rattle.formula_parse.proofs.Readers.{looser}
use Rattle.formula_parse.proofs.Place.{reads_formulas}
use Rattle.math_action.proofs.Place.{reads_actions}
use Rattle.component_text.specs.Forms.{Bounds, limits, parts, none}
use Rattle.component_text.specs.Grammar.{Within}
use Rattle.component_text.proofs.Parts.{IsLooser}

pub formula_looser : (h : Hole) (s : List Item) (t : Raw) → Spells most_parts h s t → Spells None h s t
formula_looser h = looser (reads_formulas h)

pub action_looser : (s : List Item) (a : RawAction) → SpellsAction most_parts s a → SpellsAction None s a
action_looser = looser reads_actions

pub loose : {X : Type 0} (IsOne : Option ℕ → List Item → X → Type 0) → ((s : List Item) (x : X) → IsOne most_parts s x → IsOne None s x) →
    (b c : Bounds) → IsLooser b c → (s : List Item) (x : X) → Within IsOne b s x → Within IsOne c s x
loose IsOne wider limits limits l s x k = k
loose IsOne wider limits parts l s x k = k.0
loose IsOne wider limits none l s x k = wider s x k.0
loose IsOne wider parts limits l s x k = absurd l
loose IsOne wider parts parts l s x k = k
loose IsOne wider parts none l s x k = wider s x k
loose IsOne wider none limits l s x k = absurd l
loose IsOne wider none parts l s x k = absurd l
loose IsOne wider none none l s x k = k
