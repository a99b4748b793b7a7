-- The reader of actions, as a function on the tokens: the targets, and then formulas by the parser of formulas.
use Rattle.std.specs.Prelude.{ℕ, List, [], ◌∷◌, ◌++◌, Bool, true, false, ◌&&◌, cond, nat_eq, nat_lt, length, Option, Some, None, option_and_then}
use Rattle.formula_core.specs.Names.{is_name}
use Rattle.formula_core.specs.declared.raw.Raw.{Raw}
use Rattle.formula_core.specs.declared.raw.Ref.{Ref}
use Rattle.formula_core.specs.declared.raw.RawAction.{RawAction}
use Rattle.formula_core.specs.declared.raw.RawAction.TheVariants as action
use Rattle.math_grammar.specs.declared.holes.Hole.{Hole}
use Rattle.math_grammar.specs.declared.holes.Hole.TheVariants as hole
use Rattle.math_grammar.specs.declared.levels.Bracket.TheVariants as bracket
use Rattle.math_grammar.specs.declared.symbols.Symbol.{Symbol}
use Rattle.math_grammar.specs.declared.symbols.Symbol.TheVariants as sym
use Rattle.math_grammar.specs.Tokens.{Item}
use Rattle.math_grammar.specs.Actions.{ref}
use Rattle.formula_parse.specs.Machine.{ParseState, want, step, ended, is_ready, is_full}
use Rattle.formula_parse.specs.PrivateReaders.{TokenReader}
use Rattle.math_action.specs.declared.stages.Head.{Head}
use Rattle.math_action.specs.declared.stages.Head.TheVariants.{Assign, Argument, Apply, ChooseIn, ChooseSuch}

pub data ActionState : Type 0 where
  -- a target is wanted behind those before, or held
  target : (before : List Ref) → ActionState
  named : (before : List Ref) (r : Ref) → ActionState
  -- a formula is read
  formula : (h : Head) (st : ParseState) → ActionState
  -- ≔ is wanted behind a name with its argument
  applied : (r : Ref) (a : Raw) → ActionState

abbrev pub hole_after : Head → Hole
hole_after (ChooseSuch targets) = hole.Predicate
hole_after _ = hole.Expression

-- the sign may end the formula
abbrev pub ends_at : Head → Symbol → Bool
ends_at (Assign targets before) sym.Comma = true
ends_at (Argument r) (sym.Close bracket.Round) = true
ends_at _ _ = false

abbrev pub begin_target : List Ref → ℕ → List ℕ → Symbol → Option ActionState
begin_target before p w sym.Word = cond (is_name w) (Some (named before (ref w p))) None
begin_target before p w _ = None

-- the first target
abbrev pub if_first : List Ref → ActionState → Option ActionState
if_first [] st = Some st
if_first (r ∷ rs) st = None

-- a sign behind a target
abbrev pub after_target : List Ref → Ref → Symbol → Option ActionState
after_target before r sym.Comma = Some (target (before ++ r ∷ []))
after_target before r sym.Becomes = Some (formula (Assign (before ++ r ∷ []) []) (want []))
after_target before r sym.BecomesSuch = Some (formula (ChooseSuch (before ++ r ∷ [])) (want []))
after_target before r sym.BecomesIn = if_first before (formula (ChooseIn r) (want []))
after_target before r (sym.Open bracket.Round) = if_first before (formula (Argument r) (want []))
after_target before r _ = None

-- a formula with a sign that ends it
abbrev pub comma_taken : Head → Raw → Option ActionState
comma_taken (Assign targets before) e =
    cond (nat_lt (length (before ++ e ∷ [])) (length targets)) (Some (formula (Assign targets (before ++ e ∷ [])) (want []))) None
comma_taken (Argument r) a = Some (applied r a)
comma_taken _ e = None

abbrev pub after_formula : Head → Option Raw → Option ActionState
after_formula h None = None
after_formula h (Some e) = comma_taken h e

abbrev pub read_on : Head → Option ParseState → Option ActionState
read_on h None = None
read_on h (Some st) = Some (formula h st)

abbrev pub after_argument : Ref → Raw → Symbol → Option ActionState
after_argument r a sym.Becomes = Some (formula (Apply r a) (want []))
after_argument r a _ = None

-- the next token
abbrev pub action_step : Option ℕ → ActionState → Item → Option ActionState
action_step limit (target before) x = begin_target before x.from x.text x.symbol
action_step limit (named before r) x = after_target before r x.symbol
action_step limit (formula h st) x =
    cond (ends_at h x.symbol && is_ready st) (after_formula h (ended (hole_after h) st)) (read_on h (step limit (hole_after h) st x))
action_step limit (applied r a) x = after_argument r a x.symbol

-- the last formula
abbrev pub whole_action : Head → Raw → Option RawAction
whole_action (Assign targets before) e =
    cond (nat_eq (length targets) (length (before ++ e ∷ []))) (Some (action.Assign targets (before ++ e ∷ []))) None
whole_action (Argument r) a = None
whole_action (Apply r a) e = Some (action.Apply r a e)
whole_action (ChooseIn r) e = Some (action.ChooseIn r e)
whole_action (ChooseSuch targets) t = Some (action.ChooseSuch targets t)

-- the end of the tokens
abbrev pub action_ended : ActionState → Option RawAction
action_ended (formula h st) = option_and_then (whole_action h) (ended (hole_after h) st)
action_ended _ = None

-- a part behind the last one allowed is wanted
abbrev pub is_full_action : ActionState → Bool
is_full_action (formula h st) = is_full st
is_full_action _ = false

abbrev pub action_reader : TokenReader ActionState RawAction
action_reader = record { start = target []; step = action_step; ended = action_ended; is_full = is_full_action }
