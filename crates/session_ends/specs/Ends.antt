-- What comes of `session WORKERS` on an opened project: one record for each way in which it ends.
use Rattle.std.specs.Prelude.{◌≡◌, ◌⊎◌, ⊤, ℕ, Bool, true, false, List, [], ◌++◌, ◌∷◌, length, take, codes, map}
use Rattle.std.specs.Prelude.{Option, Some, None, IfSome}
use Rattle.sequent_core.specs.declared.Sequent.{Sequent}
use Rattle.sequent_core.specs.declared.Attempt.{Attempt}
use Rattle.core_steps.specs.declared.durable.Durable.{Durable}
use Rattle.core_steps.specs.declared.events.Event.{Event}
use Rattle.core_steps.specs.Laws.{TellsRebuilt}
use Rattle.core_steps.specs.State.{State, opened, after}
use Rattle.core_steps.specs.Run.{Exchange, Runs, IsLegal}
use Rattle.session_lines.specs.declared.command.Command.{Command}
use Rattle.session_words.specs.declared.line.Line.{Line}
use Rattle.session_words.specs.declared.line.Line.TheVariants.{Quit, CutEdit}
use Rattle.store_log.specs.History.{exchanges_of, events_of, own}
use Rattle.session_run.specs.Workers.{HaveWorked, HaveFinished}
use Rattle.session_run.specs.Completeness.{IsCompleteWhenIdle}
use Rattle.session_run.specs.Dialogue.{Next, tells, Dialogue}
use Rattle.session_run.specs.OneHistory.{Reached, IsFailedEvent}
use Rattle.session_streams.specs.Reads.{HasRead, IsNextLine}
use Rattle.session_streams.specs.Streams.{SourceState, Writing, SourceFailed, SinkFailed, Writes}
use Rattle.true_marks.specs.TrueMarks.{TellsTrue}
use Rattle.session_ends.specs.Written.{WritesThen, WritesUpTo}

-- each status in a reply, and what a reply says of a tree, is what a clean rebuild at its place gives
abbrev pub IsClean : Durable → List Exchange → Type 0
IsClean d xs =
    (before : List Exchange) (x : Exchange) (behind : List Exchange) (s : State) → xs ≡ before ++ x ∷ behind →
    Runs (opened d) (before ++ x ∷ []) s → TellsRebuilt s.durable x.reply

-- what a reply shows discharged is true in each classical universe, and what it says to follow in each reading
abbrev pub IsTruthful : Durable → List Exchange → Type 0
IsTruthful d xs =
    (before : List Exchange) (x : Exchange) (behind : List Exchange) (s : State) → xs ≡ before ++ x ∷ behind →
    Runs (opened d) (before ++ x ∷ []) s → TellsTrue s.durable.built x.reply

-- the line that was begun, if one was, is the next one
abbrev pub IsAt : List Command → Option (Line × Next) → Type 0
IsAt left None = ⊤
IsAt left (Some begun) = IsNextLine left begun.0

-- Why no line is begun: the input ended, its source failed, or it is full, and no line of it is left; or the next one ends
-- the session.
pub data IsReadOut (source : SourceState) (taken : List ℕ) (ended : Bool) (left : List Command) : Type 0 where
  to_its_end : ended ≡ true → left ≡ [] → IsReadOut source taken ended left
  to_a_fault : SourceFailed source → ended ≡ false → left ≡ [] → IsReadOut source taken ended left
  to_its_limit : length taken ≡ 67108865 → ended ≡ false → left ≡ [] → IsReadOut source taken ended left
  to_quit : IsNextLine left Quit → IsReadOut source taken ended left
  to_a_cut_edit : IsNextLine left CutEdit → IsReadOut source taken ended left

-- no line was begun, or of one that was nothing but its text is left
abbrev pub HasOnlyTextLeft : Option (Line × Next) → Type 0
HasOnlyTextLeft None = ⊤
HasOnlyTextLeft (Some begun) = (said : List ℕ) × (begun.1 ≡ tells said)

module _ (fair : Sequent → Attempt → Type 0) where
  -- Chair 0 did the exchanges that answer these lines, the first ones in the bytes taken, and this is the text of the
  -- answers.
  pub record HasAnswered (source : SourceState) (xs : List (ℕ × Exchange)) : Type 0 where
    pub taken : List ℕ
    pub ended : Bool
    pub lines : List Line
    pub left : List Command
    pub text : List ℕ
    pub read : HasRead source.left source.left_then taken ended lines left
    pub dialogue : Dialogue fair lines (own 0 xs) text

  -- The same of these lines, and it may have begun to answer the next one.
  pub record HasReached (source : SourceState) (xs : List (ℕ × Exchange)) : Type 0 where
    pub taken : List ℕ
    pub ended : Bool
    pub lines : List Line
    pub left : List Command
    pub text : List ℕ
    pub begun : Option (Line × Next)
    pub read : HasRead source.left source.left_then taken ended lines left
    pub next : IsAt left begun
    pub reached : Reached fair lines begun (own 0 xs) text

module _ (fair : Sequent → Attempt → Type 0) (sure : Sequent → Type 0) (workers : ℕ) where
  -- What holds however a session ends: its history is a legal run from what was opened, what lasts is the fold of its
  -- entries, the statuses in its replies are those of clean rebuilds, the workers did what workers do, and whenever all
  -- was idle nothing sure was left unproved, unless memory ran out over it.
  pub record HasHistory
      (d : Durable) (history : List (ℕ × Event)) (last : Durable) (xs : List (ℕ × Exchange)) (s : State) :
      Type 0 where
    pub run : Runs (opened d) (exchanges_of xs) s
    pub legal : IsLegal (exchanges_of xs)
    pub events : history ≡ events_of xs
    pub lasts : last ≡ s.durable
    pub folds : last ≡ after d (map (λ x. x.entry) (exchanges_of xs))
    pub clean : IsClean d (exchanges_of xs)
    pub truthful : IsTruthful d (exchanges_of xs)
    pub worked : HaveWorked fair 1 workers xs
    pub complete : IsCompleteWhenIdle sure d (exchanges_of xs)

module _ (fair : Sequent → Attempt → Type 0) (workers : ℕ)
    (source : SourceState) (sink : Writing) (xs : List (ℕ × Exchange)) where
  -- STATUS 0: all lines were answered, to the end of the input or to `quit`, and the whole text is written
  pub record EndsWell : Type 0 where
    pub answered : HasAnswered fair source xs
    pub finished : HaveFinished fair 1 workers xs
    pub over : ((answered.ended ≡ true) × (answered.left ≡ [])) ⊎ IsNextLine answered.left Quit
    pub written : Writes sink answered.text

  -- STATUS 1: all lines were answered, and the input ended inside an edit
  pub record EndsInsideEdit : Type 0 where
    pub answered : HasAnswered fair source xs
    pub finished : HaveFinished fair 1 workers xs
    pub over : (answered.ended ≡ true) × IsNextLine answered.left CutEdit
    pub written : WritesThen sink answered.text (codes "input: ended inside an edit\n")

  -- STATUS 3: the source failed, and all lines before were answered
  pub record EndsAtReadFault : Type 0 where
    pub failed : SourceFailed source
    pub answered : HasAnswered fair source xs
    pub finished : HaveFinished fair 1 workers xs
    pub over : (answered.ended ≡ false) × (answered.left ≡ [])
    pub written : WritesThen sink answered.text (codes "input: read fault\n")

  -- STATUS 4: the sink failed on the text of a line, whose exchanges are whole, and no later line has any
  pub record EndsAtWriteFault : Type 0 where
    pub failed : SinkFailed sink
    pub reached : HasReached fair source xs
    pub finished : HaveFinished fair 1 workers xs
    pub line : Line
    pub said : List ℕ
    pub over : reached.begun ≡ Some (line, tells said)
    pub front : ℕ
    pub written : Writes sink (reached.text ++ take front said)

  -- STATUS 7, `full: input`: all lines in the first 67,108,864 bytes were answered, and the input has more bytes
  pub record EndsWithFullInput : Type 0 where
    pub answered : HasAnswered fair source xs
    pub finished : HaveFinished fair 1 workers xs
    pub full : length answered.taken ≡ 67108865
    pub over : (answered.ended ≡ false) × (answered.left ≡ [])
    pub written : WritesThen sink answered.text (codes "full: input\n")

  -- STATUS 5, 7 and 9 by the first fault of the store, which this event met, with the last line of that fault: chair 0
  -- came so far, and the text is that of the lines before the first one whose exchanges aren't whole: of all, if no line
  -- was begun.
  pub record EndsAtStoreFault (event : Event) (line : List ℕ) (s : State) : Type 0 where
    pub reached : HasReached fair source xs
    pub failed : IsFailedEvent fair 1 (λ user. reached.begun) s event
    pub over : reached.begun ≡ None → IsReadOut source reached.taken reached.ended reached.left
    pub written : WritesUpTo reached.begun sink reached.text line

  -- STATUS 9 where memory ran out between acts of chair 0: it came so far, and the text is that of the lines before.
  -- The store may have met a fault as well, at this event.
  pub record EndsWithoutMemory (event : Option Event) (s : State) : Type 0 where
    pub reached : HasReached fair source xs
    pub done : HasOnlyTextLeft reached.begun
    pub failed : IfSome event (IsFailedEvent fair 1 (λ user. reached.begun) s)
    pub written : Writes sink reached.text
