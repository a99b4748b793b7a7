-- What is read is an action.
use Rattle.std.proofs.Common.{◌≡◌, ℕ, ◌<◌, List, [], ◌∷◌, ◌++◌, true, ◌&&◌, Option, Some, None, inl, inr, refl, sym, subst, arith, length, length-append, nat_lt}
use Rattle.std.specs.Prelude.{IfSome, option_and_then, nat_eq}
use Rattle.std.proofs.lemmas.Bool.Decides.{nat_tests}
use Rattle.formula_core.specs.Names.{is_name}
use Rattle.formula_core.specs.declared.raw.Raw.{Raw}
use Rattle.formula_core.specs.declared.raw.Ref.{Ref}
use Rattle.formula_core.specs.declared.raw.RawAction.{RawAction}
use Rattle.formula_core.specs.declared.raw.RawAction.TheVariants as action
use Rattle.math_grammar.specs.declared.holes.Grade.{Grade}
use Rattle.math_grammar.specs.declared.holes.Hole.TheVariants as hole
use Rattle.math_grammar.specs.declared.levels.Bracket.TheVariants as bracket
use Rattle.math_grammar.specs.declared.symbols.Symbol.{Symbol}
use Rattle.math_grammar.specs.declared.symbols.Symbol.TheVariants as sign
use Rattle.math_grammar.specs.Levels.{fits}
use Rattle.math_grammar.specs.Tokens.{Item}
use Rattle.math_grammar.specs.Grammar.{item, Reads, Spells}
use Rattle.math_grammar.specs.Actions.{ref, Targets, last_target, next_target, Values, last_value, next_value, SpellsAction, assigns, applies, chooses_in, chooses_such}
use Rattle.formula_parse.specs.Machine.{ParseState, want, step, ended, is_ready}
use Rattle.formula_parse.proofs.Basics.{both, chosen}
use Rattle.formula_parse.proofs.Sound as formulas
use Rattle.math_action.proofs.Complete.{ends_separates}
use Rattle.math_action.specs.declared.stages.Head.{Head}
use Rattle.math_action.specs.declared.stages.Head.TheVariants as head
use Rattle.math_action.specs.PrivateMachine.{ActionState, target, named, formula, applied, hole_after, ends_at, begin_target, after_target, comma_taken, after_formula, read_on, after_argument, action_step, whole_action, action_ended}

module _ (limit : Option ℕ) where
  -- The tokens s0 up to m spell what stands before a formula.
  pub data Headed (s0 : List Item) : Head → List Item → Type 0 where
    assigning : {targets : List Ref} {before : List Raw} {m : List Item} → length before < length targets →
        ((values : List Raw) → Values limit before m values → length targets ≡ length values → SpellsAction limit s0 (action.Assign targets values)) →
        Headed s0 (head.Assign targets before) m
    opening : {n w : List ℕ} {p q : ℕ} {m : List Item} → is_name n ≡ true → s0 ≡ item sign.Word p n ∷ item (sign.Open bracket.Round) q w ∷ m →
        Headed s0 (head.Argument (ref n p)) m
    applying : {r : Ref} {a : Raw} {m : List Item} → ((e : Raw) → Spells limit hole.Expression m e → SpellsAction limit s0 (action.Apply r a e)) →
        Headed s0 (head.Apply r a) m
    choosing_in : {r : Ref} {m : List Item} → ((e : Raw) → Spells limit hole.Expression m e → SpellsAction limit s0 (action.ChooseIn r e)) →
        Headed s0 (head.ChooseIn r) m
    choosing_such : {targets : List Ref} {m : List Item} → ((t : Raw) → Spells limit hole.Predicate m t → SpellsAction limit s0 (action.ChooseSuch targets t)) →
        Headed s0 (head.ChooseSuch targets) m

  -- the state is right before the tokens that are left
  pub data Sound (s0 : List Item) : ActionState → List Item → Type 0 where
    wanting : {before : List Ref} {rest : List Item} →
        ((all : List Ref) (after : List Item) → Targets before rest all after → Targets [] s0 all after) → (before ≡ [] → s0 ≡ rest) →
        Sound s0 (target before) rest
    holding : {before : List Ref} {n : List ℕ} {p : ℕ} {rest : List Item} → is_name n ≡ true →
        ((all : List Ref) (after : List Item) → Targets before (item sign.Word p n ∷ rest) all after → Targets [] s0 all after) →
        (before ≡ [] → s0 ≡ item sign.Word p n ∷ rest) →
        Sound s0 (named before (ref n p)) rest
    reading : {h : Head} {st : ParseState} {m rest : List Item} → Headed s0 h m → formulas.Sound limit (hole_after h) m st rest → Sound s0 (formula h st) rest
    argued : {n u v : List ℕ} {o p q : ℕ} {g : Grade} {a : Raw} {m rest : List Item} → is_name n ≡ true →
        s0 ≡ item sign.Word p n ∷ item (sign.Open bracket.Round) o u ∷ m → Reads limit g m a (item (sign.Close bracket.Round) q v ∷ rest) → fits hole.Expression g ≡ true →
        Sound s0 (applied (ref n p) a) rest

  along : {s0 rest : List Item} {a b : ActionState} → Some a ≡ Some b → Sound s0 a rest → Sound s0 b rest
  along {s0} {rest} e s = subst (λ (o : Option ActionState). IfSome o (λ st. Sound s0 st rest)) e s

  -- a formula is wanted
  wants : {s0 rest : List Item} {h : Head} → Headed s0 h rest → Sound s0 (formula h (want [])) rest
  wants h = reading h (formulas.wanting refl formulas.nothing)

  sound_target : {s0 rest : List Item} (before : List Ref) (p : ℕ) (w : List ℕ) (x : Symbol) (st : ActionState) →
      ((all : List Ref) (after : List Item) → Targets before (item x p w ∷ rest) all after → Targets [] s0 all after) → (before ≡ [] → s0 ≡ item x p w ∷ rest) →
      begin_target before p w x ≡ Some st → Sound s0 st rest
  sound_target before p w sign.Word st k first e = elim (chosen (is_name w) e) [ inl y ↦ along y.1 (holding y.0 k first) | inr n ↦ cc ]
  sound_target before p w _ st k first e = cc

  some_behind : {A : Type 0} (before : List Ref) (r : Ref) → before ++ r ∷ [] ≡ [] → A
  some_behind [] r e = cc
  some_behind (x ∷ before) r e = cc

  one_more : (before : List Ref) (r : Ref) → 0 < length (before ++ r ∷ [])
  one_more before r = omega (arith, length-append before (r ∷ []))

  sound_named : {s0 rest : List Item} (before : List Ref) (n : List ℕ) (p q : ℕ) (w : List ℕ) (x : Symbol) (st : ActionState) → is_name n ≡ true →
      ((all : List Ref) (after : List Item) → Targets before (item sign.Word p n ∷ item x q w ∷ rest) all after → Targets [] s0 all after) →
      (before ≡ [] → s0 ≡ item sign.Word p n ∷ item x q w ∷ rest) →
      after_target before (ref n p) x ≡ Some st → Sound s0 st rest
  sound_named before n p q w sign.Comma st is k first e =
      along e (wanting (λ all after ts. k all after (next_target is ts)) (λ none. some_behind before (ref n p) none))
  sound_named before n p q w sign.Becomes st is k first e =
      along e (wants (assigning (one_more before (ref n p)) (λ values vs same. assigns (k _ _ (last_target is)) vs same)))
  sound_named before n p q w sign.BecomesSuch st is k first e = along e (wants (choosing_such (λ t sp. chooses_such (k _ _ (last_target is)) sp)))
  sound_named {s0} {rest} [] n p q w sign.BecomesIn st is k first e =
      along e (wants (choosing_in (λ t sp. subst (λ s. SpellsAction limit s (action.ChooseIn (ref n p) t)) (sym (first refl)) (chooses_in is sp))))
  sound_named [] n p q w (sign.Open bracket.Round) st is k first e = along e (wants (opening is (first refl)))
  sound_named (r ∷ before) n p q w sign.BecomesIn st is k first e = cc
  sound_named (r ∷ before) n p q w (sign.Open bracket.Round) st is k first e = cc
  sound_named before n p q w _ st is k first e = cc

  -- a formula with the sign that ends it
  sound_separated : {s0 m rest : List Item} (h : Head) (e : Raw) (x : Symbol) (q : ℕ) (w : List ℕ) (st : ActionState) → Headed s0 h m → ends_at h x ≡ true →
      formulas.IsComplete limit (hole_after h) m e (item x q w ∷ rest) → comma_taken h e ≡ Some st → Sound s0 st rest
  sound_separated (head.Assign targets before) e sign.Comma q w st (assigning less k) at c i =
      elim (chosen (nat_lt (length (before ++ e ∷ [])) (length targets)) i) [
        | inl y ↦ (
            let more : length (before ++ e ∷ []) < length targets = grind (arith, nat_tests, y.0) in
            along y.1 (wants (assigning more (λ values vs same. k values (next_value c.reads c.fit vs) same))))
        | inr n ↦ cc
      ]
  sound_separated (head.Argument r) e (sign.Close bracket.Round) q w st (opening is whole_is) at c i = along i (argued is whole_is c.reads c.fit)
  sound_separated _ e _ q w st hd at c i = cc

  sound_formula : {s0 m rest : List Item} (h : Head) (st : ParseState) (x : Item) (new : ActionState) → Headed s0 h m → formulas.Sound limit (hole_after h) m st (x ∷ rest) →
      action_step limit (formula h st) x ≡ Some new → Sound s0 new rest
  sound_formula {s0} {m} {rest} h st x new hd ok e =
      elim (chosen (ends_at h x.symbol && is_ready st) e) [
        | inl y ↦ ended_here (both (ends_at h x.symbol) (is_ready st) y.0).0 (ended (hole_after h) st) refl y.1
        | inr n ↦ read_here (step limit (hole_after h) st x) refl n.1
      ]
    where
      ended_here : ends_at h x.symbol ≡ true → (o : Option Raw) → ended (hole_after h) st ≡ o → after_formula h o ≡ Some new → Sound s0 new rest
      ended_here at None d i = cc
      ended_here at (Some t) d i = sound_separated h t x.symbol x.from x.text new hd at (formulas.sound_stop limit (hole_after h) st t (ends_separates h x.symbol at) ok d) i

      read_here : (o : Option ParseState) → step limit (hole_after h) st x ≡ o → read_on h o ≡ Some new → Sound s0 new rest
      read_here None d i = cc
      read_here (Some next) d i = along i (reading hd (formulas.sound_step limit (hole_after h) st x next ok d))

  sound_argued : {s0 m rest : List Item} {g : Grade} {n u v : List ℕ} {o p q : ℕ} {a : Raw} (r : ℕ) (w : List ℕ) (x : Symbol) (st : ActionState) → is_name n ≡ true →
      s0 ≡ item sign.Word p n ∷ item (sign.Open bracket.Round) o u ∷ m → Reads limit g m a (item (sign.Close bracket.Round) q v ∷ item x r w ∷ rest) → fits hole.Expression g ≡ true →
      after_argument (ref n p) a x ≡ Some st → Sound s0 st rest
  sound_argued {n = n} {p = p} {a = a} r w sign.Becomes st is whole_is reads fit e =
      along e (wants (applying (λ z sp. subst (λ s. SpellsAction limit s (action.Apply (ref n p) a z)) (sym whole_is) (applies is reads fit sp))))
  sound_argued r w _ st is whole_is reads fit e = cc

  -- each step keeps the state right
  pub sound_step : {s0 rest : List Item} (st : ActionState) (x : Item) (new : ActionState) → Sound s0 st (x ∷ rest) → action_step limit st x ≡ Some new → Sound s0 new rest
  sound_step st x new (wanting {before} k first) e = sound_target before x.from x.text x.symbol new k first e
  sound_step st x new (holding {before} {n} {p} is k first) e = sound_named before n p x.from x.text x.symbol new is k first e
  sound_step st x new (reading {h} {st = inner} hd ok) e = sound_formula h inner x new hd ok e
  sound_step st x new (argued is whole_is reads fit) e = sound_argued x.from x.text x.symbol new is whole_is reads fit e

  sound_whole : {s0 m : List Item} (h : Head) (e : Raw) (a : RawAction) → Headed s0 h m → Spells limit (hole_after h) m e → whole_action h e ≡ Some a → SpellsAction limit s0 a
  sound_whole {s0} (head.Assign targets before) e a (assigning less k) sp i =
      elim (chosen (nat_eq (length targets) (length (before ++ e ∷ []))) i) [
        | inl y ↦ (
            let same : length targets ≡ length (before ++ e ∷ []) = grind (arith, nat_tests, y.0) in
            given (k (before ++ e ∷ []) (last_value sp) same) y.1)
        | inr n ↦ cc
      ]
    where
      given : {b : RawAction} → SpellsAction limit s0 b → Some b ≡ Some a → SpellsAction limit s0 a
      given ok same = subst (λ (o : Option RawAction). IfSome o (λ c. SpellsAction limit s0 c)) same ok
  sound_whole {s0} (head.Apply r b) e a (applying k) sp i = subst (λ (o : Option RawAction). IfSome o (λ c. SpellsAction limit s0 c)) i (k e sp)
  sound_whole {s0} (head.ChooseIn r) e a (choosing_in k) sp i = subst (λ (o : Option RawAction). IfSome o (λ c. SpellsAction limit s0 c)) i (k e sp)
  sound_whole {s0} (head.ChooseSuch targets) e a (choosing_such k) sp i = subst (λ (o : Option RawAction). IfSome o (λ c. SpellsAction limit s0 c)) i (k e sp)
  sound_whole (head.Argument r) e a hd sp i = cc

  pub sound_end : {s0 : List Item} (st : ActionState) (a : RawAction) → Sound s0 st [] → action_ended st ≡ Some a → SpellsAction limit s0 a
  sound_end {s0} st a (reading {h} {st = inner} {m} hd ok) e = go (ended (hole_after h) inner) refl e
    where
      go : (o : Option Raw) → ended (hole_after h) inner ≡ o → option_and_then (whole_action h) o ≡ Some a → SpellsAction limit s0 a
      go None d i = cc
      go (Some t) d i = sound_whole h t a hd (formulas.sound_end limit (hole_after h) inner t ok d) i
  sound_end st a (wanting k first) e = cc
  sound_end st a (holding is k first) e = cc
  sound_end st a (argued is whole_is reads fit) e = cc

  -- before the first token
  pub sound_start : (s : List Item) → Sound s (target []) s
  sound_start s = wanting (λ all after ts. ts) (λ _. refl)
