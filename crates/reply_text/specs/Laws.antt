-- The law of replies.
use Rattle.std.specs.Prelude.{Option}
use Rattle.formula_core.specs.Substitution.{AreWell}
use Rattle.proof_entries.specs.declared.Entry.{Entry}
use Rattle.core_steps.specs.declared.Event.{Event}
use Rattle.core_steps.specs.declared.Reply.{Reply}
use Rattle.core_steps.specs.State.{State}
use Rattle.core_steps.specs.Step.{Does}
use Rattle.reply_text.specs.Replies.{shown_formulas}

-- the formulas that the reply to an event shows are well
abbrev pub ShowsWellFormulas : Type 0
ShowsWellFormulas =
    (s : State) (event : Event) (reply : Reply) (entry : Option Entry) (new : State) →
    Does s event reply entry new → AreWell (shown_formulas reply)
