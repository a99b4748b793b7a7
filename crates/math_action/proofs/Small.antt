-- The limit of a partition's parts, met by the state behind the comma.
use Rattle.std.proofs.Common.{◌≡◌, ℕ, List, [], ◌∷◌, ◌++◌, Bool, true, false, ◌&&◌, cond, Option, Some, None, refl, ap, ◌∙◌, length, nat_lt}
use Rattle.formula_core.specs.Names.{is_name}
use Rattle.formula_core.specs.declared.raw.Raw.{Raw}
use Rattle.formula_core.specs.declared.raw.Ref.{Ref}
use Rattle.math_grammar.specs.declared.levels.Bracket.TheVariants as bracket
use Rattle.math_grammar.specs.declared.symbols.Symbol.{Symbol}
use Rattle.math_grammar.specs.declared.symbols.Symbol.TheVariants as sign
use Rattle.math_grammar.specs.Tokens.{Item}
use Rattle.math_grammar.specs.Actions.{ref}
use Rattle.formula_parse.specs.Limits.{most_parts}
use Rattle.formula_parse.specs.Machine.{ParseState, want, step, ended, is_ready, is_full}
use Rattle.formula_parse.proofs.Readers.{unless_full}
use Rattle.formula_parse.proofs.Small.{small_step}
use Rattle.math_action.specs.declared.stages.Head.{Head}
use Rattle.math_action.specs.declared.stages.Head.TheVariants as head
use Rattle.math_action.specs.PrivateMachine.{ActionState, target, named, formula, applied, hole_after, ends_at, begin_target, if_first, after_target, comma_taken, after_formula, read_on, after_argument, action_step, is_full_action}

-- what is left of a step within the limit
abbrev pub small_action : Option ActionState → Option ActionState
small_action = unless_full is_full_action

-- nothing is taken away
abbrev IsLean : Option ActionState → Type 0
IsLean o = o ≡ small_action o

lean_cond : (b : Bool) (st : ActionState) → is_full_action st ≡ false → IsLean (cond b (Some st) None)
lean_cond true st e = rw e refl
lean_cond false st e = refl

lean_first : (before : List Ref) (st : ActionState) → is_full_action st ≡ false → IsLean (if_first before st)
lean_first [] st e = rw e refl
lean_first (r ∷ before) st e = refl

lean_target : (before : List Ref) (p : ℕ) (w : List ℕ) (x : Symbol) → IsLean (begin_target before p w x)
lean_target before p w sign.Word = lean_cond (is_name w) (named before (ref w p)) refl
lean_target before p w _ = refl

lean_named : (before : List Ref) (r : Ref) (x : Symbol) → IsLean (after_target before r x)
lean_named before r sign.Comma = refl
lean_named before r sign.Becomes = refl
lean_named before r sign.BecomesSuch = refl
lean_named before r sign.BecomesIn = lean_first before (formula (head.ChooseIn r) (want [])) refl
lean_named before r (sign.Open bracket.Round) = lean_first before (formula (head.Argument r) (want [])) refl
lean_named before r _ = refl

lean_argument : (r : Ref) (a : Raw) (x : Symbol) → IsLean (after_argument r a x)
lean_argument r a sign.Becomes = refl
lean_argument r a _ = refl

lean_separated : (h : Head) (e : Raw) → IsLean (comma_taken h e)
lean_separated (head.Assign targets before) e =
    lean_cond (nat_lt (length (before ++ e ∷ [])) (length targets)) (formula (head.Assign targets (before ++ e ∷ [])) (want [])) refl
lean_separated (head.Argument r) e = refl
lean_separated (head.Apply r a) e = refl
lean_separated (head.ChooseIn r) e = refl
lean_separated (head.ChooseSuch targets) e = refl

lean_formula : (h : Head) (o : Option Raw) → IsLean (after_formula h o)
lean_formula h None = refl
lean_formula h (Some e) = lean_separated h e

small_read : (h : Head) (o : Option ParseState) → read_on h (unless_full is_full o) ≡ small_action (read_on h o)
small_read h None = refl
small_read h (Some next) = go (is_full next)
  where
    go : (v : Bool) → read_on h (cond v None (Some next)) ≡ cond v None (Some (formula h next))
    go true = refl
    go false = refl

small_cond : (b : Bool) (x y z : Option ActionState) → IsLean x → y ≡ small_action z → cond b x y ≡ small_action (cond b x z)
small_cond true x y z e f = e
small_cond false x y z e f = f

-- a step within the limit is the step without it, unless that leads to a part too many
pub small_action_step : (st : ActionState) (x : Item) → action_step most_parts st x ≡ small_action (action_step None st x)
small_action_step (target before) x = lean_target before x.from x.text x.symbol
small_action_step (named before r) x = lean_named before r x.symbol
small_action_step (formula h st) x =
    small_cond (ends_at h x.symbol && is_ready st) (after_formula h (ended (hole_after h) st)) (read_on h (step most_parts (hole_after h) st x)) (read_on h (step None (hole_after h) st x))
    (lean_formula h (ended (hole_after h) st)) (ap (read_on h) (small_step (hole_after h) st x) ∙ small_read h (step None (hole_after h) st x))
small_action_step (applied r a) x = lean_argument r a x.symbol
