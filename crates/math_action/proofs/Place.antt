-- What was read goes on to an action.
use Rattle.formula_parse.proofs.Outcomes.{found}
use Rattle.std.proofs.Common.{◌≡◌, ℕ, zero, suc, ◌+◌, ◌-◌, List, [], ◌∷◌, ◌++◌, true, Option, Some, None, refl, ap, sym, ◌∙◌, arith, length, length-append, append-nil, nat_lt}
use Rattle.std.specs.Prelude.{nat_eq}
use Rattle.std.proofs.lemmas.Bool.Decides.{nat_tests}
use Rattle.formula_core.specs.declared.op.Op.TheVariants as op
use Rattle.formula_core.specs.declared.raw.Raw.{Raw}
use Rattle.formula_core.specs.declared.raw.Raw.TheVariants as raw
use Rattle.formula_core.specs.declared.raw.Ref.{Ref}
use Rattle.formula_core.specs.declared.raw.RawAction.{RawAction}
use Rattle.formula_core.specs.declared.raw.RawAction.TheVariants as action
use Rattle.math_grammar.specs.declared.holes.Hole.{Hole}
use Rattle.math_grammar.specs.declared.holes.Hole.TheVariants as hole
use Rattle.math_grammar.specs.declared.levels.Bracket.TheVariants as bracket
use Rattle.math_grammar.specs.declared.symbols.Symbol.TheVariants as sign
use Rattle.math_grammar.specs.Tokens.{Item}
use Rattle.math_grammar.specs.Grammar.{item}
use Rattle.math_grammar.specs.Actions.{SpellsAction}
use Rattle.formula_parse.specs.Machine.{ParseState, want}
use Rattle.formula_parse.proofs.Readers.{ReadsGrammar}
use Rattle.formula_parse.proofs.Reach.{Stop, stop, reach, outcome, run_reaches}
use Rattle.formula_parse.proofs.Place as places
use Rattle.formula_parse.proofs.Sound as sounds
use Rattle.math_action.specs.declared.stages.Head.{Head}
use Rattle.math_action.specs.declared.stages.Head.TheVariants as head
use Rattle.math_action.specs.PrivateMachine.{ActionState, formula, hole_after, action_reader}
use Rattle.math_action.proofs.Outcomes.{action_run}
use Rattle.math_action.proofs.Formulas.{stops_before}
use Rattle.math_action.proofs.Complete.{after_stop, formula_run, complete_action}
use Rattle.math_action.proofs.Sound.{Headed, assigning, Sound, wanting, holding, reading, argued, sound_step, sound_end, sound_start}
use Rattle.math_action.proofs.Small.{small_action_step}

-- the name a
abbrev a_word : List ℕ
a_word = 97 ∷ []

abbrev a_name : Item
a_name = item sign.Word 0 a_word

abbrev a_truth : Item
a_truth = item (sign.Truth op.Top) 0 []

outcome_found : (z : Stop) (t : Raw) → outcome z ≡ found t → z ≡ stop (Some t) []
outcome_found (stop None []) t e = cc
outcome_found (stop (Some u) []) t e = let same : u ≡ t = cc in ap (λ v. stop (Some v) []) same
outcome_found (stop o (x ∷ rest)) t e = cc

-- a comma and a name for each expression that is owed
abbrev owed : ℕ → List Item
owed zero = []
owed (suc k) = item sign.Comma 0 [] ∷ a_name ∷ owed k

module _ (limit : Option ℕ) where
  abbrev pub Leads : ActionState → Type 0
  Leads st = (more : List Item) × (a : RawAction) × (action_run limit st more ≡ found a)

  -- a formula that can be completed
  record IsCompletable (goal : Hole) (st : ParseState) : Type 0 where
    more : List Item
    tree : Raw
    stops : reach limit goal st more ≡ stop (Some tree) []

  completable : (goal : Hole) {s0 rest : List Item} (st : ParseState) → sounds.Sound limit goal s0 st rest → IsCompletable goal st
  completable goal st ok =
      let a : places.Leads limit goal st = places.alive limit goal ok in
      record { more = a.0; tree = a.1; stops = outcome_found (reach limit goal st a.0) a.1 (sym (run_reaches limit goal st a.0) ∙ a.2) }

  name_stops : reach limit hole.Expression (want []) (a_name ∷ []) ≡ stop (Some (raw.Name a_word 0)) []
  name_stops = refl

  -- the expressions that are owed
  pays : (targets : List Ref) (k : ℕ) (before : List Raw) (st : ParseState) (s : List Item) (t : Raw) → reach limit hole.Expression st s ≡ stop (Some t) [] →
      length before + suc k ≡ length targets → (a : RawAction) × (action_run limit (formula (head.Assign targets before) st) (s ++ owed k) ≡ found a)
  pays targets zero before st s t e size =
      let full : nat_eq (length targets) (length (before ++ t ∷ [])) ≡ true = (let l = length-append before (t ∷ []) in grind (arith, nat_tests)) in (
        action.Assign targets (before ++ t ∷ []),
        ap (action_run limit (formula (head.Assign targets before) st)) (append-nil s)
            ∙ formula_run limit (head.Assign targets before) st s ∙ ap (after_stop limit (head.Assign targets before)) e ∙ rw full refl,
      )
  pays targets (suc k) before st s t e size =
      let l : length (before ++ t ∷ []) ≡ suc (length before) = omega (arith, length-append before (t ∷ [])) in
      let more : nat_lt (length (before ++ t ∷ [])) (length targets) ≡ true = grind (arith, nat_tests) in
      let others = pays targets k (before ++ t ∷ []) (want []) (a_name ∷ []) (raw.Name a_word 0) name_stops (omega (arith, l)) in (
        others.0,
        formula_run limit (head.Assign targets before) st (s ++ owed (suc k))
            ∙ ap (after_stop limit (head.Assign targets before)) (stops_before limit hole.Expression st s t (item sign.Comma 0 []) (a_name ∷ owed k) (λ _ _. refl) e)
            ∙ rw more others.1,
      )

  alive_formula : {s0 m : List Item} (h : Head) (st : ParseState) → Headed limit s0 h m → IsCompletable (hole_after h) st → Leads (formula h st)
  alive_formula (head.Assign targets before) st (assigning less k) c =
      let p = pays targets (length targets - suc (length before)) before st c.more c.tree c.stops (omega (arith, less)) in
      (c.more ++ owed (length targets - suc (length before)), p.0, p.1)
  alive_formula (head.Argument r) st hd c = (
    c.more ++ item (sign.Close bracket.Round) 0 [] ∷ item sign.Becomes 0 [] ∷ a_name ∷ [],
    action.Apply r c.tree (raw.Name a_word 0),
    formula_run limit (head.Argument r) st (c.more ++ item (sign.Close bracket.Round) 0 [] ∷ item sign.Becomes 0 [] ∷ a_name ∷ [])
        ∙ ap (after_stop limit (head.Argument r)) (stops_before limit hole.Expression st c.more c.tree (item (sign.Close bracket.Round) 0 []) (item sign.Becomes 0 [] ∷ a_name ∷ []) (λ _ _. refl) c.stops),
  )
  alive_formula (head.Apply r a) st hd c =
      (c.more, action.Apply r a c.tree, formula_run limit (head.Apply r a) st c.more ∙ ap (after_stop limit (head.Apply r a)) c.stops)
  alive_formula (head.ChooseIn r) st hd c =
      (c.more, action.ChooseIn r c.tree, formula_run limit (head.ChooseIn r) st c.more ∙ ap (after_stop limit (head.ChooseIn r)) c.stops)
  alive_formula (head.ChooseSuch targets) st hd c =
      (c.more, action.ChooseSuch targets c.tree, formula_run limit (head.ChooseSuch targets) st c.more ∙ ap (after_stop limit (head.ChooseSuch targets)) c.stops)

  -- from each state that is met an action can be reached
  pub alive : {s0 rest : List Item} {st : ActionState} → Sound limit s0 st rest → Leads st
  alive (wanting {before} k first) = (a_name ∷ item sign.BecomesSuch 0 [] ∷ a_truth ∷ [], _, refl)
  alive (holding {before} {n} {p} is k first) = (item sign.BecomesSuch 0 [] ∷ a_truth ∷ [], _, refl)
  alive (reading {h} {st} hd ok) = alive_formula h st hd (completable (hole_after h) st ok)
  alive (argued {n} {p = p} {a = a} is whole_is reads fit) = (item sign.Becomes 0 [] ∷ a_name ∷ [], _, refl)

-- the reader reads the grammar
pub reads_actions : ReadsGrammar action_reader SpellsAction
reads_actions = record {
  IsRight = Sound;
  at_start = sound_start;
  at_step = λ limit s0 rest st x new ok e. sound_step limit st x new ok e;
  at_end = λ limit s0 st a ok e. sound_end limit st a ok e;
  leads = λ limit s0 rest st ok. alive limit ok;
  finds = λ limit s a k. complete_action limit k;
  limited = small_action_step;
}
