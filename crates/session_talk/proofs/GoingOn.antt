-- How the dialogue of a user's chair goes on from line to line, and ends.
use Rattle.std.proofs.Common.{◌≡◌, ◌∙◌, inl, inr, sym, ap, subst, refl, ℕ, ◌≤◌, Bool, List, [], ◌∷◌, ◌++◌, take, arith}
use Rattle.std.proofs.lemmas.List.{append_assoc}
use Rattle.std.specs.Prelude.{⊤, Option, Result, Ok, Err}
use Rattle.std.specs.List.{AllZip}
use Rattle.sequent_core.specs.declared.Sequent.{Sequent}
use Rattle.sequent_core.specs.declared.Attempt.{Attempt}
use Rattle.session_lines.specs.declared.command.Command.{Command}
use Rattle.session_words.specs.declared.line.Line.{Line}
use Rattle.session_words.specs.declared.line.Line.TheVariants.{Quit as LineQuit, CutEdit as LineCutEdit}
use Rattle.session_words.specs.Lines.{IsLine}
use Rattle.store_log.specs.declared.Logged.{Logged}
use Rattle.store_log.specs.declared.StoreBase.{StoreBase}
use Rattle.session_talk.specs.declared.conversing.Ending.{Ending}
use Rattle.session_talk.specs.declared.conversing.Ending.TheVariants.{Read, Quit, CutEdit, WriteFault, OutOfMemory as Untold, Store}
use Rattle.session_streams.specs.declared.reading.ReadEnd.{ReadEnd}
use Rattle.session_streams.specs.declared.reading.Reader.{Reader}
use Rattle.core_steps.specs.State.{opened}
use Rattle.session_run.specs.Dialogue.{tells, Dialogue, begins, answers_line}
use Rattle.session_streams.specs.Reads.{HasRead, IsNextLine}
use Rattle.session_streams.specs.Streams.{Writing, reading, writing, Writes}
use Rattle.session_run.specs.declared.answering.Stop.{Stop}
use Rattle.session_run.specs.declared.answering.Stop.TheVariants as stops
use Rattle.session_run.specs.Talking.{HasTalked, IsTalking, AnswersUpTo, ComesOfLine}
use Rattle.turn_desk.specs.Chairs.{ChairState, IsSameChair}
use Rattle.session_streams.specs.Reads.{IsUnread, IsReading, ReadsOn, EndsReading}
use Rattle.session_talk.specs.Conversing.{Converses}
use Rattle.session_talk.specs.Private.{ending_of, EndsAt, SaysOrEnds, IsServing, ServesLine, TurnsTo}
use Rattle.session_streams.proofs.Known.{Appends-both, Appends-keeps, Appends-nothing, Keeps-same}
use Rattle.session_streams.proofs.Readers.{unread, has_read, rose_later, read_end_later}

-- THE LAST LINE

abbrev Front : List Command → List Line → Line → Type 0
Front given lines line = (g : List Command) × (c : Command) × (given ≡ g ++ c ∷ []) × AllZip IsLine g lines × IsLine c line

front_of : (given : List Command) (lines : List Line) (line : Line) → AllZip IsLine given (lines ++ line ∷ []) → Front given lines line
front_of [] [] line all = absurd all
front_of [] (l ∷ lines) line all = absurd all
front_of (c ∷ []) [] line all = ([], c, refl, tt, all.0)
front_of (c ∷ d ∷ given) [] line all = absurd all.1
front_of (c ∷ given) (l ∷ lines) line all =
    let f = front_of given lines line all.1 in
    (c ∷ f.0, f.1, ap (λ cs. c ∷ cs) f.2, (all.0, f.3), f.4)

-- the last line that was read, among those that are left
pub unread_line : (first last : Option (List ℕ)) (taken : List ℕ) (ended : Bool) (lines : List Line) (line : Line) (left : List Command) → HasRead first last taken ended (lines ++ line ∷ []) left →
    (rest : List Command) × HasRead first last taken ended lines rest × IsNextLine rest line
unread_line first last taken ended lines line left h =
    let f = front_of h.given lines line h.say in (
      f.1 ∷ left,
      record {
        takes = h.takes;
        most = h.most;
        at_end = h.at_end;
        within = h.within;
        given = f.0;
        in_order = h.in_order ∙ (ap (λ cs. cs ++ left) f.2 ∙ append_assoc f.0 (f.1 ∷ []) left);
        say = f.3;
      },
      (f.1, left, refl, f.4),
    )

module _ (fair : Sequent → Attempt → Type 0) (base : StoreBase) (user : ℕ) where
  -- at the beginning nothing was said
  pub talk_begins : HasTalked fair base user [] [] []
  talk_begins = record { xs = []; state = opened base.durable; log = record { entries = refl; run = refl }; dialogue = begins }

  -- a line is answered
  line_ends : (seen : List Logged) (lines : List Line) (text more : List ℕ) (line : Line) → IsTalking fair base user seen lines text line (tells more) →
      HasTalked fair base user seen (lines ++ line ∷ []) (text ++ more)
  line_ends seen lines text more line t = record {
    xs = t.xs;
    state = t.state;
    log = t.log;
    dialogue = subst (λ l. Dialogue fair (lines ++ line ∷ []) l (text ++ more)) (sym t.within.in_order) (answers_line t.within.dialogue t.within.answering);
  }

  -- nothing was read
  pub serving_begins : (left : Option (List ℕ)) (faults : ℕ) (written : Option (List ℕ)) (losses : ℕ) (seen : List Logged) (reader : Reader) → seen ≡ [] → IsUnread reader →
      IsServing fair base user (reading left left faults faults) (writing written written losses losses) seen reader
  serving_begins left faults written losses seen reader none fresh = record {
    taken = [];
    lines = [];
    text = [];
    reads = unread left reader fresh;
    talked = subst (λ l. HasTalked fair base user l [] []) (sym none) talk_begins;
    writes = Appends-nothing written;
    source_later = omega arith;
    sink_later = omega arith;
  }

  -- the reading ended
  pub reading_ends : (left before now : Option (List ℕ)) (faults faults_before faults_now : ℕ) (sink : Writing) (seen : List Logged) (old : Reader) (end : ReadEnd) →
      EndsReading before old now end faults_before faults_now → IsServing fair base user (reading left before faults faults_before) sink seen old →
      Converses fair base user (reading left now faults faults_now) sink seen (Read end)
  reading_ends left before now faults faults_before faults_now sink seen old end ends s =
      let e = ends left s.taken s.lines s.reads in record {
        taken = s.taken ++ e.more;
        ended = e.ended;
        lines = s.lines;
        left = e.left;
        text = s.text;
        read = e.read;
        over = (s.talked, s.writes, read_end_later end faults faults_before faults_now (s.taken ++ e.more) e.ended e.left s.source_later e.why);
        sink_later = s.sink_later;
      }

  -- what was read and answered, with one more line
  pub record HasLine (left now : Option (List ℕ)) (faults faults_now : ℕ) (sink : Writing) (seen : List Logged) (reader : Reader) (line : Line) : Type 0 where
    pub taken : List ℕ
    pub lines : List Line
    pub text : List ℕ
    pub reads : IsReading left now taken (lines ++ line ∷ []) reader
    pub talked : HasTalked fair base user seen lines text
    pub writes : Writes sink text
    pub later : faults ≤ faults_now
    pub sink_later : sink.faults ≤ sink.faults_then

  pub line_read : (left before now : Option (List ℕ)) (faults faults_before faults_now : ℕ) (sink : Writing) (seen : List Logged) (old new : Reader) (line : Line) →
      ReadsOn before old now new (line ∷ []) → faults_before ≤ faults_now → IsServing fair base user (reading left before faults faults_before) sink seen old → HasLine left now faults faults_now sink seen new line
  line_read left before now faults faults_before faults_now sink seen old new line on low s =
      let r = on left s.taken s.lines s.reads in record {
        taken = s.taken ++ r.0;
        lines = s.lines;
        text = s.text;
        reads = r.1;
        talked = s.talked;
        writes = s.writes;
        later = (let h = s.source_later in omega (arith, h, low));
        sink_later = s.sink_later;
      }

  module _ (left now : Option (List ℕ)) (faults faults_now : ℕ) (seen : List Logged) (reader : Reader) where
    -- the session ends at the line
    quits : (sink : Writing) → HasLine left now faults faults_now sink seen reader LineQuit → Converses fair base user (reading left now faults faults_now) sink seen Quit
    quits sink h =
        let u = unread_line left now h.taken reader.ended h.lines LineQuit _ (has_read left now h.taken (h.lines ++ LineQuit ∷ []) reader h.reads) in
        record { taken = h.taken; ended = reader.ended; lines = h.lines; left = u.0; text = h.text; read = u.1; over = (h.talked, h.writes, u.2); sink_later = h.sink_later }

    is_cut : (sink : Writing) → HasLine left now faults faults_now sink seen reader LineCutEdit → Converses fair base user (reading left now faults faults_now) sink seen CutEdit
    is_cut sink h =
        let u = unread_line left now h.taken reader.ended h.lines LineCutEdit _ (has_read left now h.taken (h.lines ++ LineCutEdit ∷ []) reader h.reads) in
        record { taken = h.taken; ended = reader.ended; lines = h.lines; left = u.0; text = h.text; read = u.1; over = (h.talked, h.writes, u.2); sink_later = h.sink_later }

    pub ends_at_line : (sink : Writing) (line : Line) (ending : Ending) → EndsAt line ending → HasLine left now faults faults_now sink seen reader line →
        Converses fair base user (reading left now faults faults_now) sink seen ending
    ends_at_line sink line ending (inl (is, e)) h =
        subst (Converses fair base user (reading left now faults faults_now) sink seen) (sym e) (quits sink (subst (HasLine left now faults faults_now sink seen reader) is h))
    ends_at_line sink line ending (inr (is, e)) h =
        subst (Converses fair base user (reading left now faults faults_now) sink seen) (sym e) (is_cut sink (subst (HasLine left now faults faults_now sink seen reader) is h))

    -- the line is served
    module _ (line : Line) (written before after : Option (List ℕ)) (losses losses_before losses_after : ℕ) (sees : List Logged)
        (low : losses_before ≤ losses_after) (h : HasLine left now faults faults_now (writing written before losses losses_before) seen reader line) where
      at_line : (rest : List Command) × HasRead left now h.taken reader.ended h.lines rest × IsNextLine rest line
      at_line = unread_line left now h.taken reader.ended h.lines line _ (has_read left now h.taken (h.lines ++ line ∷ []) reader h.reads)

      sinks_low : losses ≤ losses_after
      sinks_low = let a = h.sink_later in omega (arith, a, low)

      pub serves : (result : Result ⊤ Ending) → ServesLine fair base user line seen result sees (writing before after losses_before losses_after) →
          TurnsTo fair base user (reading left now faults faults_now) (writing written after losses losses_after) sees reader result
      serves (Ok done) (said, answers, writes) =
          record {
            taken = h.taken;
            lines = h.lines ++ line ∷ [];
            text = h.text ++ said;
            reads = h.reads;
            talked = line_ends sees h.lines h.text said line (answers h.lines h.text h.talked);
            writes = Appends-both written before after h.text said h.writes writes;
            source_later = h.later;
            sink_later = sinks_low;
          }
      serves (Err WriteFault) (said, answers, (rose, (n, writes))) =
          let u = at_line in record {
            taken = h.taken;
            ended = reader.ended;
            lines = h.lines;
            left = u.0;
            text = h.text;
            read = u.1;
            over = (
              line,
              said,
              u.2,
              answers h.lines h.text h.talked,
              rose_later losses losses_before losses_after h.sink_later rose,
              (n, Appends-both written before after h.text (take n said) h.writes writes),
            );
            sink_later = sinks_low;
          }
      serves (Err Untold) (said, answers, same) =
          let u = at_line in record {
            taken = h.taken;
            ended = reader.ended;
            lines = h.lines;
            left = u.0;
            text = h.text;
            read = u.1;
            over = (line, said, u.2, answers h.lines h.text h.talked, Appends-keeps written before after h.text h.writes same);
            sink_later = sinks_low;
          }
      serves (Err (Store fault)) (stopped, same) =
          let u = at_line in record {
            taken = h.taken;
            ended = reader.ended;
            lines = h.lines;
            left = u.0;
            text = h.text;
            read = u.1;
            over = (line, u.2, stopped h.lines h.text h.talked, Appends-keeps written before after h.text h.writes same);
            sink_later = sinks_low;
          }
      serves (Err (Read end)) wrong = absurd wrong
      serves (Err Quit) wrong = absurd wrong
      serves (Err CutEdit) wrong = absurd wrong

-- THE ANSWER TO ONE LINE

module _ (fair : Sequent → Attempt → Type 0) (base : StoreBase) (user : ℕ) (line : Line) (old new : List Logged) where
  -- its text is made
  pub served : (said : List ℕ) (sink : Writing) (r : Result ⊤ Ending) → AnswersUpTo fair base user line old (tells said) new → SaysOrEnds sink said r → ServesLine fair base user line old r new sink
  served said sink (Ok done) answers writes = (said, answers, writes)
  served said sink (Err WriteFault) answers writes = (said, answers, writes)
  served said sink (Err Untold) answers wrong = absurd wrong
  served said sink (Err (Store fault)) answers wrong = absurd wrong
  served said sink (Err (Read end)) answers wrong = absurd wrong
  served said sink (Err Quit) answers wrong = absurd wrong
  served said sink (Err CutEdit) answers wrong = absurd wrong

  -- it isn't
  pub unserved : (stop : Stop) (written : Option (List ℕ)) (losses : ℕ) → ComesOfLine fair base user line old (Err stop) new → ServesLine fair base user line old (Err (ending_of stop)) new (writing written written losses losses)
  unserved stops.OutOfMemory written losses (said, answers) = (said, answers, Keeps-same written)
  unserved (stops.Store fault) written losses stopped = (stopped, Keeps-same written)

-- THE CHAIR

pub same_chair : (a b c : ChairState Logged StoreBase) → IsSameChair a b → IsSameChair b c → IsSameChair a c
same_chair a b c p q = q ∙ ap (λ (z : ChairState Logged StoreBase). record z { acts = c.acts; seen = c.seen }) p

pub same_number : (a b : ChairState Logged StoreBase) → IsSameChair a b → b.number ≡ a.number
same_number a b is = ap (λ (z : ChairState Logged StoreBase). z.number) is
