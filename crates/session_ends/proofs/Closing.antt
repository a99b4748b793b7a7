-- What was written at the end, and how far chair 0 came in the last log.
use Rattle.std.proofs.Common.{◌≡◌, ◌≢◌, inl, inr, ◌∙◌, sym, ap, subst, ℕ, ◌≤◌, Bool, List, [], ◌∷◌, ◌++◌, length, take, arith}
use Rattle.std.proofs.lemmas.List.{append-nil, take_all}
use Rattle.std.specs.Prelude.{Option, Some, None}
use Rattle.std.specs.List.{AllByRecursion}
use Rattle.std.specs.Io.KnownBytes.{Appends}
use Rattle.outside.specs.Cause.{Rose}
use Rattle.sequent_core.specs.declared.Sequent.{Sequent}
use Rattle.sequent_core.specs.declared.Attempt.{Attempt}
use Rattle.core_steps.specs.declared.Event.{Event}
use Rattle.core_steps.specs.State.{State}
use Rattle.core_steps.specs.Run.{Exchange}
use Rattle.core_steps.proofs.Alls.{all_both}
use Rattle.session_lines.specs.declared.Command.{Command}
use Rattle.session_words.specs.declared.Line.{Line}
use Rattle.turn_desk.specs.Log.{HasSeen}
use Rattle.store_log.specs.declared.Logged.{Logged}
use Rattle.store_log.specs.declared.StoreBase.{StoreBase}
use Rattle.store_log.specs.declared.StoreFault.{StoreFault}
use Rattle.store_log.specs.StoreLog.{chair_of, IsStoreLog}
use Rattle.session_run.specs.Dialogue.{Next, tells}
use Rattle.session_run.specs.OneHistory.{with_begun, IsNextOf, IsUsersLine}
use Rattle.session_run.specs.Talking.{HasTalked, IsTalking, StopsAtLine}
use Rattle.session_run.proofs.Runs.{CoreLaws}
use Rattle.session_streams.specs.Reads.{HasRead, IsNextLine}
use Rattle.session_streams.specs.Streams.{SourceState, Writing, writing, Writes}
use Rattle.session_streams.proofs.Known.{Appends-both}
use Rattle.session_streams.proofs.Readers.{rose_later}
use Rattle.session_talk.specs.declared.Ending.{Ending}
use Rattle.session_talk.specs.declared.Ending.TheVariants.{Read, Quit, CutEdit, WriteFault, OutOfMemory as Untold, Store}
use Rattle.session_talk.specs.Conversing.{IsOver}
use Rattle.session_ends.specs.Ends.{IsAt, HasAnswered, HasReached}
use Rattle.session_ends.specs.Written.{WritesThen, WritesOrFails}
use Rattle.session_ends.proofs.Users.{lines_users, line_users}
use Rattle.session_ends.proofs.Standing.{talked, told, no_own_mark, stopped}

-- WRITING

take_none : (n : ℕ) → take {A = ℕ} n [] ≡ []
take_none n = take_all n [] (omega arith)

module _ (before after_ last : Option (List ℕ)) (f g h : ℕ) (low : f ≤ g) (high : g ≤ h) where
  pub then_line : (text line : List ℕ) → Writes (writing before after_ f g) text → WritesOrFails (writing after_ last g h) line → WritesThen (writing before last f h) text line
  then_line text line w (inl whole) = inl (Appends-both before after_ last text line w whole)
  then_line text line w (inr (rose, (n, front))) = inr (rose_later f g h low rose, (n, Appends-both before after_ last text (take n line) w front))

  pub then_nothing : (text : List ℕ) → Writes (writing before after_ f g) text → WritesOrFails (writing after_ last g h) [] → Writes (writing before last f h) text
  then_nothing text w (inl whole) = subst (λ l. Appends before last l) (append-nil text) (Appends-both before after_ last text [] w whole)
  then_nothing text w (inr (rose, (n, front))) =
      subst (λ l. Appends before last l) (ap (λ l. text ++ l) (take_none n) ∙ append-nil text) (Appends-both before after_ last text (take n []) w front)

  pub rose_then : Rose f g → Rose f h
  rose_then rose = omega (arith, rose, high)

  -- the text was cut, and then the line may be
  pub then_cut : (text said line : List ℕ) (n : ℕ) → Writes (writing before after_ f g) (text ++ take n said) → WritesOrFails (writing after_ last g h) line →
      (k m : ℕ) × Writes (writing before last f h) (text ++ take k said ++ take m line)
  then_cut text said line n w (inl whole) = (
    n,
    length line,
    Appends-both before after_ last (text ++ take n said) (take (length line) line) w (subst (λ l. Appends after_ last l) (sym (take_all (length line) line (omega arith))) whole),
  )
  then_cut text said line n w (inr (rose, (m, front))) = (n, m, Appends-both before after_ last (text ++ take n said) (take m line) w front)

-- HOW FAR CHAIR 0 CAME

module _ (laws : CoreLaws) (fair : Sequent → Attempt → Type 0) (base : StoreBase) (log : List Logged) (xs : List (ℕ × Exchange)) (mark : Option (ℕ × Event)) (s : State)
    (store : IsStoreLog base log xs mark s) (seen : List Logged) (has : HasSeen chair_of 0 seen log) (source : SourceState) (sink : Writing)
    (taken : List ℕ) (ended : Bool) (lines : List Line) (left : List Command) (text : List ℕ) (read : HasRead source.left source.left_then taken ended lines left) where
  abbrev pub Over : Ending → Type 0
  Over ending = IsOver fair base 0 source sink seen taken ended lines left text ending

  -- all its lines were answered
  abbrev pub answered : HasTalked fair base 0 seen lines text → HasAnswered fair source xs
  answered t = record {
    taken = taken;
    ended = ended;
    lines = lines;
    left = left;
    text = text;
    read = read;
    dialogue = talked laws fair base log xs mark s store seen lines text t has;
  }

  -- and where the mark is its own, its event came next
  pub record Came : Type 0 where
    pub reach : HasReached fair source xs
    pub own_mark : (event : Event) → mark ≡ Some (0, event) → IsNextOf fair reach.begun event

  abbrev between : HasTalked fair base 0 seen lines text → Came
  between t = record {
    reach = record {
      taken = taken;
      ended = ended;
      lines = lines;
      left = left;
      text = text;
      begun = None;
      read = read;
      next = tt;
      reached = talked laws fair base log xs mark s store seen lines text t has;
    };
    own_mark = λ event is. no_own_mark laws fair base log xs mark s store t.xs seen t.log.entries has event is;
  }

  abbrev untold : (line : Line) (said : List ℕ) → IsNextLine left line → IsTalking fair base 0 seen lines text line (tells said) → Came
  untold line said next t = record {
    reach = record {
      taken = taken;
      ended = ended;
      lines = lines;
      left = left;
      text = text;
      begun = Some (line, tells said);
      read = read;
      next = next;
      reached = told laws fair base log xs mark s store seen lines text line (tells said) t has;
    };
    own_mark = λ event is. no_own_mark laws fair base log xs mark s store t.xs seen t.log.entries has event is;
  }

  abbrev halted : (line : Line) → IsNextLine left line → StopsAtLine fair base 0 lines text line seen → Came
  halted line next t =
      let q = stopped laws fair base log xs mark s store seen lines text line t has in
      record {
        reach = record {
          taken = taken;
          ended = ended;
          lines = lines;
          left = left;
          text = text;
          begun = Some (line, q.next);
          read = read;
          next = next;
          reached = q.partway;
        };
        own_mark = q.own_mark;
      }

  abbrev pub came : (ending : Ending) → Over ending → Came
  came (Read end) over = between over.0
  came Quit over = between over.0
  came CutEdit over = between over.0
  came WriteFault (line, said, next, t, rose, front) = untold line said next t
  came Untold (line, said, next, t, rest) = untold line said next t
  came (Store fault) (line, next, t, rest) = halted line next t

  -- where no mark stands, no fault of the store stopped it
  pub not_stopped : (fault : StoreFault) → Over (Store fault) → mark ≢ None
  not_stopped fault (line, next, t, rest) = (stopped laws fair base log xs mark s store seen lines text line t has).marked

module _ (fair : Sequent → Attempt → Type 0) (source : SourceState) (xs : List (ℕ × Exchange)) where
  -- the lines that were read are a user's
  pub users : (r : HasReached fair source xs) → AllByRecursion IsUsersLine (with_begun r.lines r.begun)
  users r = with_next r.begun r.next where
    with_next : (begun : Option (Line × Next)) → IsAt r.left begun → AllByRecursion IsUsersLine (with_begun r.lines begun)
    with_next None at = lines_users r.read.given r.lines r.read.say
    with_next (Some begun) at =
        all_both IsUsersLine r.lines (begun.0 ∷ []) (lines_users r.read.given r.lines r.read.say) (line_users at.0 begun.0 at.3, tt)
