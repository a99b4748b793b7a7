-- The acts of a user's chair in the words of their contracts.
use Rattle.std.proofs.Common.{◌≡◌, ◌≢◌, ℕ, Bool, true, false, List, [], ◌∷◌, ◌++◌, refl, sym, ◌∙◌, subst}
use Rattle.std.specs.Prelude.{Option, Some, None, Result, Ok, Err, MatchBool, IfOk, String, string_bytes}
use Rattle.std.specs.declared.alloc.Global.{Global}
use Rattle.formula_core.specs.Substitution.{AreWell}
use Rattle.sequent_core.specs.declared.Sequent.{Sequent}
use Rattle.sequent_core.specs.declared.Ticket.{Ticket}
use Rattle.sequent_core.specs.declared.Attempt.{Attempt}
use Rattle.core_steps.specs.declared.Event.{Event}
use Rattle.core_steps.specs.declared.Event.TheVariants.{Take, Finish, Ask}
use Rattle.core_steps.specs.declared.Question.TheVariants.{Idle as AskIdle}
use Rattle.core_steps.specs.declared.Reply.{Reply}
use Rattle.core_steps.specs.declared.Reply.TheVariants.{Nothing, Taken, Idle}
use Rattle.core_steps.specs.Run.{Exchange}
use Rattle.core_steps.specs.Step.{take_reply}
use Rattle.reply_text.specs.Laws.{ShowsWellFormulas}
use Rattle.reply_text.specs.Replies.{reply_text, shown_formulas}
use Rattle.session_words.specs.declared.Line.{Line}
use Rattle.session_words.specs.declared.Line.TheVariants.{One, Auto, Wait, Refused}
use Rattle.session_words.specs.declared.LineFault.{LineFault}
use Rattle.store_log.specs.declared.Logged.{Logged}
use Rattle.store_log.specs.declared.StoreBase.{StoreBase}
use Rattle.store_log.specs.declared.StoreFault.{StoreFault}
use Rattle.session_run.specs.PrivateActing.{ActsOn}
use Rattle.session_run.specs.Dialogue.{Next, asks, owes, tells, Answering, one_begins, one_answered, auto_begins, auto_takes, auto_refused, auto_finishes, wait_begins, wait_takes, wait_finishes, wait_finds_nothing, wait_is_busy, wait_is_idle, refused, refusal_text}
use Rattle.session_run.specs.Talking.{IsNext, AnswersUpTo, StoppedIn, ComesOfLine}
use Rattle.session_run.specs.Private.{GoesOn, StoppedWithin}
use Rattle.session_run.specs.declared.answering.Stop.{Stop}
use Rattle.session_run.specs.declared.answering.Stop.TheVariants.{OutOfMemory, Store}
use Rattle.session_run.proofs.Runs.{CoreLaws}
use Rattle.session_run.proofs.Talking.{line_begins, line_goes_on}

-- the formulas that a reply of the store shows are well
pub shown_well : ShowsWellFormulas → (base : StoreBase) (user : ℕ) (event : Event) (reply : Reply) (seen sees : List Logged) → ActsOn base user event seen (Ok reply) sees → AreWell (shown_formulas reply)
shown_well law base user event reply seen sees (found, has, p) = law p.before event reply p.entry p.now p.step

module _ (laws : CoreLaws) (fair : Sequent → Attempt → Type 0) (base : StoreBase) (user : ℕ) where
  -- at the beginning of a line of one event nothing was done
  one_before : (event other : Event) (line : Line) (cut : List Exchange) (next : Next) → Answering fair line cut next → line ≡ One event → next ≡ asks other → cut ≡ []
  one_before event other line cut next one_begins e f = refl
  one_before event other line cut next a e f = cc

  auto_before : (name : List ℕ) (other : Event) (line : Line) (cut : List Exchange) (next : Next) → Answering fair line cut next → line ≡ Auto name → next ≡ asks other → cut ≡ []
  auto_before name other line cut next auto_begins e f = refl
  auto_before name other line cut next a e f = cc

  -- an act that is answered goes on with the line
  pub goes_on : (line : Line) (next more : Next) (event : Event) (reply : Reply) (seen sees : List Logged) → ActsOn base user event seen (Ok reply) sees →
      ((cut : List Exchange) (x : Exchange) → x.event ≡ event → x.reply ≡ reply → Answering fair line cut next → Answering fair line (cut ++ x ∷ []) more) →
      GoesOn fair base user line next seen more sees
  goes_on line next more event reply seen sees (found, has, p) grows lines text t =
      line_goes_on laws base fair user seen found sees lines text line next more event reply t has p grows

  -- one that isn't stops the line
  pub stops : (line : Line) (next : Next) (event : Event) (fault : StoreFault) (seen sees : List Logged) → ActsOn base user event seen (Err fault) sees → IsNext fair next event →
      StoppedWithin fair base user line next seen sees
  stops line next event fault seen sees (found, has, how) is lines text t =
      record { last = seen; next = next; event = event; found = found; talking = t; is_next = is; seen = has; refused = how }

  pub then_on : (line : Line) (next more last : Next) (a b c : List Logged) → GoesOn fair base user line next a more b → GoesOn fair base user line more b last c →
      GoesOn fair base user line next a last c
  then_on line next more last a b c p q lines text t = q lines text (p lines text t)

  pub then_stops : (line : Line) (next more : Next) (a b c : List Logged) → GoesOn fair base user line next a more b → StoppedWithin fair base user line more b c →
      StoppedWithin fair base user line next a c
  then_stops line next more a b c p q lines text t = q lines text (p lines text t)

  -- the beginning of an answer, and what comes then
  pub begins_then : (line : Line) (next more : Next) (old seen new : List Logged) → AnswersUpTo fair base user line old next seen → GoesOn fair base user line next seen more new → AnswersUpTo fair base user line old more new
  begins_then line next more old seen new p q lines text t = q lines text (p lines text t)

  pub begins_stops : (line : Line) (next : Next) (old seen new : List Logged) → AnswersUpTo fair base user line old next seen → StoppedWithin fair base user line next seen new → StoppedIn fair base user line old new
  begins_stops line next old seen new p q lines text t = q lines text (p lines text t)

  begin_with : (line : Line) (next : Next) (seen : List Logged) → Answering fair line [] next → AnswersUpTo fair base user line seen next seen
  begin_with line next seen a lines text t = line_begins laws base fair user seen lines text line next t a

  -- A WAIT

  pub wait_first : (seen : List Logged) → AnswersUpTo fair base user Wait seen (asks (Take None)) seen
  wait_first seen = begin_with Wait (asks (Take None)) seen wait_begins

  -- a round of it: all is idle, or it goes on
  abbrev pub Turned : Bool → List Logged → List Logged → Type 0
  Turned idle old new = MatchBool idle (GoesOn fair base user Wait (asks (Take None)) old (tells (reply_text (Idle true))) new)
      (GoesOn fair base user Wait (asks (Take None)) old (asks (Take None)) new)

  pub wait_took : (f : Option Ticket) (t : Ticket) → f ≡ Some t → (seen sees : List Logged) → ActsOn base user (Take None) seen (Ok (take_reply f)) sees → GoesOn fair base user Wait (asks (Take None)) seen (owes t) sees
  wait_took f t is seen sees acts = goes_on Wait (asks (Take None)) (owes t) (Take None) (Taken t) seen sees (subst (λ z. ActsOn base user (Take None) seen (Ok (take_reply z)) sees) is acts) (λ cut x e r a. wait_takes a x t e r)

  pub wait_empty : (f : Option Ticket) → f ≡ None → (seen sees : List Logged) → ActsOn base user (Take None) seen (Ok (take_reply f)) sees → GoesOn fair base user Wait (asks (Take None)) seen (asks (Ask AskIdle)) sees
  wait_empty f is seen sees acts = goes_on Wait (asks (Take None)) (asks (Ask AskIdle)) (Take None) Nothing seen sees (subst (λ z. ActsOn base user (Take None) seen (Ok (take_reply z)) sees) is acts) (λ cut x e r a. wait_finds_nothing a x e r)

  pub wait_done : (t : Ticket) (attempt : Attempt) (reply : Reply) (seen sees : List Logged) → fair t.sequent attempt → ActsOn base user (Finish t.number attempt) seen (Ok reply) sees →
      GoesOn fair base user Wait (owes t) seen (asks (Take None)) sees
  wait_done t attempt reply seen sees good acts = goes_on Wait (owes t) (asks (Take None)) (Finish t.number attempt) reply seen sees acts (λ cut x e r a. wait_finishes a x attempt e good)

  wait_told : (x : Exchange) (r : Reply) (cut : List Exchange) → x.reply ≡ r → Answering fair Wait cut (tells (reply_text x.reply)) → Answering fair Wait cut (tells (reply_text r))
  wait_told x r cut is a = subst (λ z. Answering fair Wait cut (tells (reply_text z))) is a

  pub wait_asked : (idle : Bool) (first seen sees : List Logged) → GoesOn fair base user Wait (asks (Take None)) first (asks (Ask AskIdle)) seen → ActsOn base user (Ask AskIdle) seen (Ok (Idle idle)) sees → Turned idle first sees
  wait_asked true first seen sees on acts = then_on Wait (asks (Take None)) (asks (Ask AskIdle)) (tells (reply_text (Idle true))) first seen sees on
      (goes_on Wait (asks (Ask AskIdle)) (tells (reply_text (Idle true))) (Ask AskIdle) (Idle true) seen sees acts
      (λ cut x e r a. wait_told x (Idle true) (cut ++ x ∷ []) r (wait_is_idle a x e r)))
  wait_asked false first seen sees on acts = then_on Wait (asks (Take None)) (asks (Ask AskIdle)) (asks (Take None)) first seen sees on
      (goes_on Wait (asks (Ask AskIdle)) (asks (Take None)) (Ask AskIdle) (Idle false) seen sees acts (λ cut x e r a. wait_is_busy a x e r))

  -- ONE EVENT

  one_grows : (event : Event) (cut : List Exchange) (x : Exchange) → cut ≡ [] → x.event ≡ event → Answering fair (One event) (cut ++ x ∷ []) (tells (reply_text x.reply))
  one_grows event cut x none e = subst (λ l. Answering fair (One event) (l ++ x ∷ []) (tells (reply_text x.reply))) (sym none) (one_answered x e)

  one_told : (event : Event) (x : Exchange) (r : Reply) (cut : List Exchange) → x.reply ≡ r → Answering fair (One event) cut (tells (reply_text x.reply)) → Answering fair (One event) cut (tells (reply_text r))
  one_told event x r cut is a = subst (λ z. Answering fair (One event) cut (tells (reply_text z))) is a

  pub one_goes : (event : Event) (reply : Reply) (seen sees : List Logged) → ActsOn base user event seen (Ok reply) sees → AnswersUpTo fair base user (One event) seen (tells (reply_text reply)) sees
  one_goes event reply seen sees acts = begins_then (One event) (asks event) (tells (reply_text reply)) seen seen sees (begin_with (One event) (asks event) seen one_begins)
      (goes_on (One event) (asks event) (tells (reply_text reply)) event reply seen sees acts
      (λ cut x e r a. one_told event x reply (cut ++ x ∷ []) r (one_grows event cut x (one_before event event (One event) cut (asks event) a refl refl) e)))

  pub one_stops : (event : Event) (fault : StoreFault) (seen sees : List Logged) → ActsOn base user event seen (Err fault) sees → StoppedIn fair base user (One event) seen sees
  one_stops event fault seen sees acts =
      begins_stops (One event) (asks event) seen seen sees (begin_with (One event) (asks event) seen one_begins) (stops (One event) (asks event) event fault seen sees acts refl)

  -- AUTO

  auto_first : (name : List ℕ) (seen : List Logged) → AnswersUpTo fair base user (Auto name) seen (asks (Take (Some name))) seen
  auto_first name seen = begin_with (Auto name) (asks (Take (Some name))) seen auto_begins

  auto_told : (name : List ℕ) (x : Exchange) (r : Reply) (cut : List Exchange) → x.reply ≡ r → Answering fair (Auto name) cut (tells (reply_text x.reply)) → Answering fair (Auto name) cut (tells (reply_text r))
  auto_told name x r cut is a = subst (λ z. Answering fair (Auto name) cut (tells (reply_text z))) is a

  auto_one : (name : List ℕ) (cut : List Exchange) (x : Exchange) (more : Next) → Answering fair (Auto name) cut (asks (Take (Some name))) → Answering fair (Auto name) (x ∷ []) more → Answering fair (Auto name) (cut ++ x ∷ []) more
  auto_one name cut x more a b = subst (λ l. Answering fair (Auto name) (l ++ x ∷ []) more) (sym (auto_before name (Take (Some name)) (Auto name) cut (asks (Take (Some name))) a refl refl)) b

  pub auto_took : (name : List ℕ) (t : Ticket) (seen sees : List Logged) → ActsOn base user (Take (Some name)) seen (Ok (Taken t)) sees → AnswersUpTo fair base user (Auto name) seen (owes t) sees
  auto_took name t seen sees acts = begins_then (Auto name) (asks (Take (Some name))) (owes t) seen seen sees (auto_first name seen)
      (goes_on (Auto name) (asks (Take (Some name))) (owes t) (Take (Some name)) (Taken t) seen sees acts (λ cut x e r a. auto_one name cut x (owes t) a (auto_takes x t e r)))

  pub auto_done : (name : List ℕ) (t : Ticket) (attempt : Attempt) (reply : Reply) (old seen sees : List Logged) → AnswersUpTo fair base user (Auto name) old (owes t) seen → fair t.sequent attempt →
      ActsOn base user (Finish t.number attempt) seen (Ok reply) sees → AnswersUpTo fair base user (Auto name) old (tells (reply_text reply)) sees
  auto_done name t attempt reply old seen sees first good acts = begins_then (Auto name) (owes t) (tells (reply_text reply)) old seen sees first
      (goes_on (Auto name) (owes t) (tells (reply_text reply)) (Finish t.number attempt) reply seen sees acts
      (λ cut x e r a. auto_told name x reply (cut ++ x ∷ []) r (auto_finishes a x attempt e good)))

  pub auto_undone : (name : List ℕ) (t : Ticket) (attempt : Attempt) (fault : StoreFault) (old seen sees : List Logged) → AnswersUpTo fair base user (Auto name) old (owes t) seen → fair t.sequent attempt →
      ActsOn base user (Finish t.number attempt) seen (Err fault) sees → StoppedIn fair base user (Auto name) old sees
  auto_undone name t attempt fault old seen sees first good acts =
      begins_stops (Auto name) (owes t) old seen sees first (stops (Auto name) (owes t) (Finish t.number attempt) fault seen sees acts (attempt, refl, good))

  pub auto_none : (name : List ℕ) (reply : Reply) (seen sees : List Logged) → ((t : Ticket) → reply ≢ Taken t) → ActsOn base user (Take (Some name)) seen (Ok reply) sees →
      AnswersUpTo fair base user (Auto name) seen (tells (reply_text reply)) sees
  auto_none name reply seen sees other acts = begins_then (Auto name) (asks (Take (Some name))) (tells (reply_text reply)) seen seen sees (auto_first name seen)
      (goes_on (Auto name) (asks (Take (Some name))) (tells (reply_text reply)) (Take (Some name)) reply seen sees acts
      (λ cut x e r a. auto_told name x reply (cut ++ x ∷ []) r (auto_one name cut x (tells (reply_text x.reply)) a (auto_refused x e (λ t is. other t (sym r ∙ is))))))

  pub auto_stops : (name : List ℕ) (fault : StoreFault) (seen sees : List Logged) → ActsOn base user (Take (Some name)) seen (Err fault) sees → StoppedIn fair base user (Auto name) seen sees
  auto_stops name fault seen sees acts =
      begins_stops (Auto name) (asks (Take (Some name))) seen seen sees (auto_first name seen) (stops (Auto name) (asks (Take (Some name))) (Take (Some name)) fault seen sees acts refl)

  -- A REFUSED LINE

  pub refused_goes : (fault : LineFault) (seen : List Logged) → AnswersUpTo fair base user (Refused fault) seen (tells (refusal_text fault)) seen
  refused_goes fault seen = begin_with (Refused fault) (tells (refusal_text fault)) seen refused

  -- A TEXT

  -- what comes of a line whose text is this, where the text is made or memory runs out
  pub told_by : (line : Line) (old new : List Logged) (said : List ℕ) (r : Result (String Global) Stop) → IfOk r (λ text. string_bytes text ≡ said) → ((fault : StoreFault) → r ≢ Err (Store fault)) →
      AnswersUpTo fair base user line old (tells said) new → ComesOfLine fair base user line old r new
  told_by line old new said (Ok text) is other answers = subst (λ l. AnswersUpTo fair base user line old (tells l) new) (sym is) answers
  told_by line old new said (Err OutOfMemory) is other answers = (said, answers)
  told_by line old new said (Err (Store fault)) is other answers = absurd (other fault refl)
