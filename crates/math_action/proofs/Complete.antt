-- Each action is read.
use Rattle.std.proofs.Common.{◌≡◌, ℕ, ◌<◌, List, [], ◌∷◌, ◌++◌, Bool, true, false, cond, Option, Some, None, refl, ap, ◌∙◌, arith, length, length-append, nat_lt}
use Rattle.std.specs.Prelude.{option_and_then, nat_eq}
use Rattle.std.specs.Option.{option_map_or}
use Rattle.std.proofs.lemmas.Bool.Decides.{nat_tests}
use Rattle.formula_core.specs.declared.raw.Raw.{Raw}
use Rattle.formula_core.specs.declared.raw.Ref.{Ref}
use Rattle.formula_core.specs.declared.raw.RawAction.{RawAction}
use Rattle.formula_core.specs.declared.raw.RawAction.TheVariants as action
use Rattle.math_grammar.specs.declared.holes.Hole.TheVariants as hole
use Rattle.math_grammar.specs.declared.levels.Bracket.TheVariants as bracket
use Rattle.math_grammar.specs.declared.symbols.Symbol.{Symbol}
use Rattle.math_grammar.specs.declared.symbols.Symbol.TheVariants as sign
use Rattle.math_grammar.specs.Tokens.{Item}
use Rattle.math_grammar.specs.Grammar.{Spells}
use Rattle.math_grammar.specs.Actions.{ref, Targets, last_target, next_target, Values, last_value, next_value, SpellsAction, assigns, applies, chooses_in, chooses_such}
use Rattle.formula_parse.specs.Machine.{ParseState, want, step, ended, is_ready}
use Rattle.formula_parse.proofs.Outcomes.{ReadOutcome, found, refused}
use Rattle.formula_parse.proofs.Reach.{Stop, stop, reach}
use Rattle.math_action.specs.declared.stages.Head.{Head}
use Rattle.math_action.specs.declared.stages.Head.TheVariants as head
use Rattle.math_action.specs.PrivateMachine.{target, named, formula, hole_after, ends_at, after_formula, whole_action}
use Rattle.math_action.proofs.Outcomes.{action_run}
use Rattle.math_action.proofs.Formulas.{Separates, ready_stops, signed_ended, reads_reach, spelled_reach}

pub ends_separates : (h : Head) (x : Symbol) → ends_at h x ≡ true → Separates x
ends_separates (head.Assign targets before) sign.Comma e = λ _ _. refl
ends_separates (head.Argument r) (sign.Close bracket.Round) e = λ _ _. refl
ends_separates _ _ e = cc

module _ (limit : Option ℕ) where
  -- what is made of a formula where it stops
  abbrev pub after_stop : Head → Stop → ReadOutcome RawAction
  after_stop h (stop o []) = option_map_or found (option_and_then (whole_action h) o) (refused [])
  after_stop h (stop o (x ∷ rest)) =
      option_map_or (λ next. action_run limit next rest) (cond (ends_at h x.symbol) (after_formula h o) None) (refused (x ∷ rest))

  pub formula_run : (h : Head) (st : ParseState) (s : List Item) → action_run limit (formula h st) s ≡ after_stop h (reach limit (hole_after h) st s)
  formula_run h st [] = refl
  formula_run h st (x ∷ s) = go (ends_at h x.symbol) refl (is_ready st) refl (step limit (hole_after h) st x) refl (λ next. formula_run h next s)
    where
      go : (a : Bool) → ends_at h x.symbol ≡ a → (b : Bool) → is_ready st ≡ b → (o : Option ParseState) → step limit (hole_after h) st x ≡ o →
          ((next : ParseState) → action_run limit (formula h next) s ≡ after_stop h (reach limit (hole_after h) next s)) →
          action_run limit (formula h st) (x ∷ s) ≡ after_stop h (reach limit (hole_after h) st (x ∷ s))
      go true e true r None d k = rw (e, r, d) (rw e refl)
      go true e true r (Some next) d k = let none : step limit (hole_after h) st x ≡ None = ready_stops limit (hole_after h) st x (ends_separates h x.symbol e) r in cc
      go true e false r None d k = let none : ended (hole_after h) st ≡ None = signed_ended (hole_after h) st r in rw (e, r, d, none) (rw e refl)
      go true e false r (Some next) d k = rw (e, r, d) (k next)
      go false e b r None d k = rw (e, d) (rw e refl)
      go false e b r (Some next) d k = rw (e, d) (k next)

  -- targets up to the sign behind them
  record IsNamed (before all : List Ref) (s rest : List Item) : Type 0 where
    first : List Ref
    last : Ref
    all_are : first ++ last ∷ [] ≡ all
    runs : action_run limit (target before) s ≡ action_run limit (named first last) rest

  complete_targets : {before all : List Ref} {s rest : List Item} → Targets before s all rest → IsNamed before all s rest
  complete_targets (last_target {before} {n} {p} {rest} e) = record { first = before; last = ref n p; all_are = refl; runs = rw e refl }
  complete_targets (next_target {before} {targets} {n} {w} {p} {q} {s} {rest} e others) =
      let o = complete_targets others in record { first = o.first; last = o.last; all_are = o.all_are; runs = rw e o.runs }

  -- no expression is lost
  values_longer : {before values : List Raw} {s : List Item} → Values limit before s values → length before < length values
  values_longer (last_value {before} {s} {e} sp) = omega (arith, length-append before (e ∷ []))
  values_longer (next_value {before} {values} {e = e} r fit others) = omega (arith, length-append before (e ∷ []), values_longer others)

  complete_values : (targets : List Ref) {before values : List Raw} {s : List Item} → length targets ≡ length values → Values limit before s values →
      action_run limit (formula (head.Assign targets before) (want [])) s ≡ found (action.Assign targets values)
  complete_values targets same (last_value {before} {s} {e} sp) =
      let full : nat_eq (length targets) (length (before ++ e ∷ [])) ≡ true = grind (arith, nat_tests) in
      formula_run (head.Assign targets before) (want []) s ∙ ap (after_stop (head.Assign targets before)) (spelled_reach limit hole.Expression s e sp) ∙ rw full refl
  complete_values targets same (next_value {before} {values} {g} {p} {w} {s} {m} {e} r fit others) =
      let longer : length (before ++ e ∷ []) < length values = values_longer others in
      let more : nat_lt (length (before ++ e ∷ [])) (length targets) ≡ true = grind (arith, nat_tests) in
      formula_run (head.Assign targets before) (want []) s
      ∙ ap (after_stop (head.Assign targets before)) (reads_reach limit hole.Expression sign.Comma p w (λ _ _. refl) r fit)
      ∙ rw more (complete_values targets same others)

  -- one formula up to the end
  complete_last : (h : Head) {s : List Item} {e : Raw} (a : RawAction) → Spells limit (hole_after h) s e → whole_action h e ≡ Some a → action_run limit (formula h (want [])) s ≡ found a
  complete_last h {s} {e} a sp is = formula_run h (want []) s ∙ ap (after_stop h) (spelled_reach limit (hole_after h) s e sp) ∙ rw is refl

  pub complete_action : {s : List Item} {a : RawAction} → SpellsAction limit s a → action_run limit (target []) s ≡ found a
  complete_action (assigns {targets} {values} {p} {w} {s} {m} names es same) =
      let n = complete_targets names in
      n.runs ∙ ap (λ all. action_run limit (formula (head.Assign all []) (want [])) m) n.all_are ∙ complete_values targets same es
  complete_action (applies {g} {n} {u} {v} {w} {o} {p} {q} {r} {s} {m} {a} {e} is reads fit sp) =
      rw is
      (formula_run (head.Argument (ref n p)) (want []) s
      ∙ ap (after_stop (head.Argument (ref n p))) (reads_reach limit hole.Expression (sign.Close bracket.Round) q v (λ _ _. refl) reads fit)
      ∙ complete_last (head.Apply (ref n p) a) (action.Apply (ref n p) a e) sp refl)
  complete_action (chooses_in {n} {w} {p} {q} {s} {e} is sp) = rw is (complete_last (head.ChooseIn (ref n p)) (action.ChooseIn (ref n p) e) sp refl)
  complete_action (chooses_such {targets} {p} {w} {s} {m} {t} names sp) =
      let n = complete_targets names in
      n.runs ∙ ap (λ all. action_run limit (formula (head.ChooseSuch all) (want [])) m) n.all_are ∙ complete_last (head.ChooseSuch targets) (action.ChooseSuch targets t) sp refl
