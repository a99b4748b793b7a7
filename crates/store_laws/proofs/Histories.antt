-- Events have one run.
use Rattle.std.proofs.Common.{◌≡◌, ◌∙◌, refl, sym, subst, List, [], ◌∷◌}
use Rattle.core_steps.specs.declared.events.Event.{Event}
use Rattle.core_steps.specs.Step.{Does}
use Rattle.core_steps.specs.Laws.{HasOneAnswer, StaysOrderly}
use Rattle.core_steps.specs.Run.{Runs}
use Rattle.store_laws.specs.Laws.{HasOneRun}

first_event : (e f : Event) (es fs : List Event) → e ∷ es ≡ f ∷ fs → e ≡ f
first_event e f es fs same = cc

other_events : (e f : Event) (es fs : List Event) → e ∷ es ≡ f ∷ fs → es ≡ fs
other_events e f es fs same = cc

module _ (one : HasOneAnswer) (stays : StaysOrderly) where
  pub one_run : HasOneRun
  one_run s t u [] [] orderly same a b = (refl, a ∙ sym b)
  one_run s t u [] (y ∷ ys) orderly same a b = absurd cc
  one_run s t u (x ∷ xs) [] orderly same a b = absurd cc
  one_run s t u (x ∷ xs) (y ∷ ys) orderly same a b =
      let event : x.event ≡ y.event = first_event _ _ _ _ same in
      let step = one s x.event x.reply y.reply x.entry y.entry a.0 b.0 orderly a.1 (subst (λ e. Does s e y.reply y.entry b.0) (sym event) b.1) in
      let rest = one_run a.0 t u xs ys (stays s x.event x.reply x.entry a.0 orderly a.1) (other_events _ _ _ _ same) a.2 (subst (λ m. Runs m ys u) (sym step.2) b.2) in
      ((λ i. record { event = event i; reply = step.0 i; entry = step.1 i } ∷ rest.0 i), rest.1)
