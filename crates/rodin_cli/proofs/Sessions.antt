-- Exchanges one after another.
use Rattle.std.proofs.Common.{◌≡◌, inl, inr, ℕ, List, [], ◌∷◌, ◌++◌, refl, sym, ap, ◌∙◌, subst, append_assoc}
use Rattle.std.proofs.lemmas.List.{append-nil, map-append}
use Rattle.std.specs.Prelude.{Option, Some, None}
use Rattle.std.specs.Io.KnownBytes.{Keeps}
use Rattle.sequent_core.specs.declared.Sequent.{Sequent}
use Rattle.sequent_core.specs.declared.Attempt.{Attempt}
use Rattle.build_core.specs.declared.FaultLine.{FaultLine}
use Rattle.proof_entries.specs.declared.Origin.{Origin}
use Rattle.core_steps.specs.declared.Status.{Status}
use Rattle.core_steps.specs.declared.Event.{Event}
use Rattle.core_steps.specs.declared.Event.TheVariants.{Build, Take}
use Rattle.core_steps.specs.declared.Question.{Question}
use Rattle.core_steps.specs.declared.Question.TheVariants.{Statuses as AskStatuses, Faults as AskFaults}
use Rattle.core_steps.specs.declared.Reply.{Reply}
use Rattle.core_steps.specs.declared.Reply.TheVariants.{Built, Nothing}
use Rattle.core_steps.specs.Outcomes.{StepOutcome}
use Rattle.core_steps.specs.State.{State}
use Rattle.core_steps.specs.Step.{Comes}
use Rattle.core_steps.specs.Run.{Exchange, IsStepOf, Runs, history_of}
use Rattle.rodin_cli.specs.declared.round.Numbers.{Numbers}
use Rattle.rodin_cli.specs.declared.session.Session.{Session}
use Rattle.check_input.specs.Inputs.{Component}
use Rattle.rodin_cli.specs.PrivateSession.{PerformsInSession, IsUnchanged, Extends}
use Rattle.rodin_cli.specs.Script.{AreEdits, AreTurns, AreFirstAsks, IsEndFront, IsRound, IsRoundFront, IsWholeScript, IsFront}

pub Run-both : (a b c : State) (xs ys : List Exchange) → Runs a xs b → Runs b ys c → Runs a (xs ++ ys) c
Run-both a b c [] ys p q = subst (λ s. Runs s ys c) p q
Run-both a b c (x ∷ xs) ys p q = (p.0, p.1, Run-both p.0 b c xs ys p.2 q)

pub Run-split : (a b : State) (xs ys : List Exchange) → Runs a (xs ++ ys) b → (s : State) × Runs a xs s × Runs s ys b
Run-split a b [] ys r = (a, refl, r)
Run-split a b (x ∷ xs) ys r = let t = Run-split r.0 b xs ys r.2 in (t.0, (r.0, r.1, t.1), t.2)

-- what comes of the event of an exchange
abbrev pub outcome : Exchange → State → StepOutcome
outcome x new = record { reply = x.reply; entry = x.entry; new = new }

pub comes : (s t : State) (x : Exchange) (event : Event) → x.event ≡ event → IsStepOf s x t → Comes s event (outcome x t)
comes s t x event is step = subst (λ e. Comes s e (outcome x t)) is step

pub performed : (old new : Session) (event : Event) (reply : Reply) → PerformsInSession old event reply new →
    (x : Exchange) × (x.event ≡ event) × (x.reply ≡ reply) × Extends old (x ∷ []) new
performed old new event reply p = (record { event = event; reply = reply; entry = p.0.0 }, refl, refl, ((new.core, p.0.1, refl), p.1))

pub unchanged : (old new : Session) → IsUnchanged old new → Extends old [] new
unchanged old new p = (p.0, p.1 ∙ sym (append-nil old.history.items))

pub both : (a b c : Session) (xs ys : List Exchange) → Extends a xs b → Extends b ys c → Extends a (xs ++ ys) c
both a b c xs ys p q = (
  Run-both a.core b.core c.core xs ys p.0 q.0,
  q.1 ∙ ap (λ h. h ++ history_of 0 ys) p.1 ∙ append_assoc a.history.items (history_of 0 xs) (history_of 0 ys)
      ∙ ap (λ h. a.history.items ++ h) (sym (map-append (λ x. (0, x.event)) xs ys)),
)

pub AreTurns-both : (answers : Sequent → Attempt → Type 0) (sure : Sequent → Type 0) (xs ys : List Exchange) → AreTurns answers sure xs → AreTurns answers sure ys → AreTurns answers sure (xs ++ ys)
AreTurns-both answers sure [] ys p q = q
AreTurns-both answers sure (x ∷ []) ys p q = absurd p
AreTurns-both answers sure (x ∷ y ∷ xs) ys p q = (p.0, AreTurns-both answers sure xs ys p.1 q)

regrouped : (edits : List Exchange) (build : Exchange) (turns end : List Exchange) → (edits ++ build ∷ []) ++ (turns ++ end) ≡ (edits ++ build ∷ turns) ++ end
regrouped edits build turns end = simp append_assoc

-- edits and a build, and then turns until nothing is left to take, are a round in which nothing is asked
pub worked_round : (answers : Sequent → Attempt → Type 0) (sure : Sequent → Type 0) (parts : List Component) (numbers : Numbers) (edits : List Exchange) (build : Exchange) (turns : List Exchange) (nothing : Exchange) →
    AreEdits parts edits → build.event ≡ Build → build.reply ≡ Built numbers.components numbers.faulted numbers.obligations → AreTurns answers sure turns →
    nothing.event ≡ Take None → nothing.reply ≡ Nothing → IsRound answers sure parts numbers [] ((edits ++ build ∷ []) ++ (turns ++ nothing ∷ []))
worked_round answers sure parts numbers edits build turns nothing are is replied turned taken none = record {
  edits = edits;
  build = build;
  turns = turns;
  nothing = nothing;
  in_order = regrouped edits build turns (nothing ∷ []);
  edits_are = are;
  build_is = (is, replied);
  turns_are = turned;
  nothing_is = (taken, none);
}

-- edits and a build, and then turns and what comes after them, are a front of a round
pub worked_front : (answers : Sequent → Attempt → Type 0) (sure : Sequent → Type 0) (parts : List Component) (numbers : Numbers) (edits : List Exchange) (build : Exchange) (turns end : List Exchange) →
    AreEdits parts edits → build.event ≡ Build → build.reply ≡ Built numbers.components numbers.faulted numbers.obligations → AreTurns answers sure turns → IsEndFront [] end →
    IsRoundFront answers sure parts [] ((edits ++ build ∷ []) ++ (turns ++ end))
worked_front answers sure parts numbers edits build turns end are is replied turned ends =
    inr (edits, build, turns, end, regrouped edits build turns end, are, is, (numbers.components, numbers.faulted, numbers.obligations, replied), turned, ends)

end_of : (questions : List Question) (nothing : Exchange) (asked : List Exchange) → nothing.event ≡ Take None → nothing.reply ≡ Nothing → AreFirstAsks questions asked →
    IsEndFront questions (nothing ∷ asked)
end_of questions nothing [] taken none are = taken
end_of questions nothing (x ∷ asked) taken none are = (taken, none, are)

no_asks : (questions : List Question) (end : List Exchange) → IsEndFront [] end → IsEndFront questions end
no_asks questions [] ends = tt
no_asks questions (x ∷ []) ends = ends
no_asks questions (x ∷ y ∷ end) ends = absurd ends.2

module _ (answers : Sequent → Attempt → Type 0) (sure : Sequent → Type 0) (parts : List Component) where
  -- what is asked after a round in which nothing was asked
  pub asked_round : (numbers : Numbers) (asked exchanges : List Exchange) → IsRound answers sure parts numbers [] exchanges → IsRound answers sure parts numbers asked (exchanges ++ asked)
  asked_round numbers asked exchanges w = record {
    edits = w.edits;
    build = w.build;
    turns = w.turns;
    nothing = w.nothing;
    in_order = ap (λ xs. xs ++ asked) w.in_order ∙ append_assoc (w.edits ++ w.build ∷ w.turns) (w.nothing ∷ []) asked;
    edits_are = w.edits_are;
    build_is = w.build_is;
    turns_are = w.turns_are;
    nothing_is = w.nothing_is;
  }

  -- a whole round is a front of one
  pub front_of_round : (numbers : Numbers) (questions : List Question) (asked exchanges : List Exchange) → AreFirstAsks questions asked → IsRound answers sure parts numbers asked exchanges →
      IsRoundFront answers sure parts questions exchanges
  front_of_round numbers questions asked exchanges are w =
      inr (
        w.edits,
        w.build,
        w.turns,
        w.nothing ∷ asked,
        w.in_order,
        w.edits_are,
        w.build_is.0,
        (numbers.components, numbers.faulted, numbers.obligations, w.build_is.1),
        w.turns_are,
        end_of questions w.nothing asked w.nothing_is.0 w.nothing_is.1 are,
      )

  -- a front of a round in which nothing is asked
  pub front_without_asks : (questions : List Question) (exchanges : List Exchange) → IsRoundFront answers sure parts [] exchanges → IsRoundFront answers sure parts questions exchanges
  front_without_asks questions exchanges (inl are) = inl are
  front_without_asks questions exchanges (inr (edits, build, turns, end, in_order, are, is, replied, turned, ends)) =
      inr (edits, build, turns, end, in_order, are, is, replied, turned, no_asks questions end ends)

  -- a whole run of `check` is a front of one
  pub front_of_whole : (told : List FaultLine) (warned : List (List ℕ × List ℕ)) (shown : List (List ℕ × Status × Option Origin)) (exchanges : List Exchange) →
      IsWholeScript answers sure parts told warned shown exchanges → IsFront answers sure parts exchanges
  front_of_whole told warned shown exchanges w =
      front_of_round w.numbers (AskFaults ∷ AskStatuses ∷ []) (w.faults ∷ w.statuses ∷ []) exchanges (w.faults_is.0, (w.statuses_is.0, tt)) w.round

pub Keeps-same : (known : Option (List ℕ)) → Keeps known known
Keeps-same None = tt
Keeps-same (Some bytes) = refl
