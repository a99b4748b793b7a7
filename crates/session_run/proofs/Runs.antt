-- Runs one after another, and that events have one run.
use Rattle.std.proofs.Common.{◌≡◌, List, [], ◌∷◌, ◌++◌, map, refl, sym, ◌∙◌, subst}
use Rattle.std.specs.Prelude.{Option}
use Rattle.core_steps.specs.declared.Event.{Event}
use Rattle.core_steps.specs.declared.Reply.{Reply}
use Rattle.core_steps.specs.declared.Durable.{Durable}
use Rattle.core_steps.specs.State.{State, opened}
use Rattle.core_steps.specs.Step.{Does}
use Rattle.core_steps.specs.Run.{Exchange, IsStepOf, Runs}
use Rattle.core_steps.specs.Laws.{IsOrderly, HasOneAnswer, StaysOrderly}

pub run_both : (a b c : State) (xs ys : List Exchange) → Runs a xs b → Runs b ys c → Runs a (xs ++ ys) c
run_both a b c [] ys p q = subst (λ s. Runs s ys c) p q
run_both a b c (x ∷ xs) ys p q = (p.0, p.1, run_both p.0 b c xs ys p.2 q)

pub run_cut : (a b : State) (xs ys : List Exchange) → Runs a (xs ++ ys) b → (s : State) × Runs a xs s × Runs s ys b
run_cut a b [] ys r = (a, refl, r)
run_cut a b (x ∷ xs) ys r = let t = run_cut r.0 b xs ys r.2 in (t.0, (r.0, r.1, t.1), t.2)

pub opened_orderly : (d : Durable) → IsOrderly (opened d)
opened_orderly d = record { below = tt; apart = tt }

-- the laws of the core on which those of a session stand
pub record CoreLaws : Type 0 where
  pub one : HasOneAnswer
  pub orderly : StaysOrderly

module _ (laws : CoreLaws) where
  pub orderly_run : (s t : State) (xs : List Exchange) → Runs s xs t → IsOrderly s → IsOrderly t
  orderly_run s t [] run o = subst IsOrderly (sym run) o
  orderly_run s t (x ∷ xs) run o = orderly_run run.0 t xs run.2 (laws.orderly s x.event x.reply x.entry run.0 o run.1)

  -- the same event has the same exchange and leads to the same state
  pub one_step : (s t u : State) (x y : Exchange) → IsOrderly s → x.event ≡ y.event → IsStepOf s x t → IsStepOf s y u → (x ≡ y) × (t ≡ u)
  one_step s t u x y o same first second =
      let a = laws.one s x.event x.reply y.reply x.entry y.entry t u o first (subst (λ e. Does s e y.reply y.entry u) (sym same) second) in
      ((λ i. record { event = same i; reply = a.0 i; entry = a.1 i }), a.2)

  pub one_run : (s t u : State) (xs ys : List Exchange) → IsOrderly s → map (λ x. x.event) xs ≡ map (λ x. x.event) ys → Runs s xs t → Runs s ys u → (xs ≡ ys) × (t ≡ u)
  one_run s t u [] [] o same first second = (refl, first ∙ sym second)
  one_run s t u [] (y ∷ ys) o same first second = cc
  one_run s t u (x ∷ xs) [] o same first second = cc
  one_run s t u (x ∷ xs) (y ∷ ys) o same first second =
      let head : x.event ≡ y.event = cc in
      let tail : map (λ z. z.event) xs ≡ map (λ z. z.event) ys = cc in
      let a = one_step s first.0 second.0 x y o head first.1 second.1 in
      let b = one_run first.0 t u xs ys (laws.orderly s x.event x.reply x.entry first.0 o first.1) tail first.2 (subst (λ m. Runs m ys u) (sym a.1) second.2) in
      ((λ i. a.0 i ∷ b.0 i), b.1)
