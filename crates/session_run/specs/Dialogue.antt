-- The dialogue with a user: lines, the exchanges of its chair, and what is printed.
use Rattle.std.specs.Prelude.{◌≡◌, ◌≢◌, ◌⊎◌, ℕ, List, [], ◌∷◌, ◌++◌, Some, None, true, false}
use Rattle.sequent_core.specs.declared.Sequent.{Sequent}
use Rattle.sequent_core.specs.declared.Ticket.{Ticket}
use Rattle.sequent_core.specs.declared.Attempt.{Attempt}
use Rattle.core_steps.specs.declared.Event.{Event}
use Rattle.core_steps.specs.declared.Event.TheVariants.{Take, Finish, Ask}
use Rattle.core_steps.specs.declared.Question.TheVariants.{Idle as AskIdle}
use Rattle.core_steps.specs.declared.Reply.TheVariants.{Nothing, Taken, Idle}
use Rattle.core_steps.specs.Run.{Exchange}
use Rattle.reply_text.specs.Replies.{refused as refused_text, reply_text}
use Rattle.session_words.specs.declared.Line.{Line}
use Rattle.session_words.specs.declared.Line.TheVariants.{One, Auto, Wait, Refused}
use Rattle.session_words.specs.declared.LineFault.{LineFault}
use Rattle.session_words.specs.Lines.{line_fault_words}

-- what comes next in the answer to a line: this event; the finish of this ticket with a fair attempt at its sequent; or
-- no more event, but this text
pub data Next : Type 0 where
  asks : Event → Next
  owes : Ticket → Next
  tells : List ℕ → Next

-- what is printed of a line that is refused
abbrev pub refusal_text : LineFault → List ℕ
refusal_text fault = refused_text (line_fault_words fault)

-- below, of a sequent and an attempt: the attempt is a fair one at the sequent
module _ (fair : Sequent → Attempt → Type 0) where
  -- Chair 0 has done so much to answer the line, and this comes next.
  pub data Answering : Line → List Exchange → Next → Type 0 where
    one_begins : {event : Event} → Answering (One event) [] (asks event)
    one_answered : {event : Event} → (x : Exchange) → x.event ≡ event → Answering (One event) (x ∷ []) (tells (reply_text x.reply))
    auto_begins : {name : List ℕ} → Answering (Auto name) [] (asks (Take (Some name)))
    auto_takes : {name : List ℕ} → (x : Exchange) (t : Ticket) → x.event ≡ Take (Some name) → x.reply ≡ Taken t → Answering (Auto name) (x ∷ []) (owes t)
    auto_refused : {name : List ℕ} → (x : Exchange) → x.event ≡ Take (Some name) → ((t : Ticket) → x.reply ≢ Taken t) → Answering (Auto name) (x ∷ []) (tells (reply_text x.reply))
    auto_finishes : {name : List ℕ} {xs : List Exchange} {t : Ticket} → Answering (Auto name) xs (owes t) → (x : Exchange) (a : Attempt) → x.event ≡ Finish t.number a
        → fair t.sequent a → Answering (Auto name) (xs ++ x ∷ []) (tells (reply_text x.reply))
    wait_begins : Answering Wait [] (asks (Take None))
    wait_takes : {xs : List Exchange} → Answering Wait xs (asks (Take None)) → (x : Exchange) (t : Ticket) → x.event ≡ Take None → x.reply ≡ Taken t → Answering Wait (xs ++ x ∷ []) (owes t)
    wait_finishes : {xs : List Exchange} {t : Ticket} → Answering Wait xs (owes t) → (x : Exchange) (a : Attempt) → x.event ≡ Finish t.number a
        → fair t.sequent a → Answering Wait (xs ++ x ∷ []) (asks (Take None))
    wait_finds_nothing : {xs : List Exchange} → Answering Wait xs (asks (Take None)) → (x : Exchange) → x.event ≡ Take None → x.reply ≡ Nothing → Answering Wait (xs ++ x ∷ []) (asks (Ask AskIdle))
    wait_is_busy : {xs : List Exchange} → Answering Wait xs (asks (Ask AskIdle)) → (x : Exchange) → x.event ≡ Ask AskIdle → x.reply ≡ Idle false → Answering Wait (xs ++ x ∷ []) (asks (Take None))
    wait_is_idle : {xs : List Exchange} → Answering Wait xs (asks (Ask AskIdle)) → (x : Exchange) → x.event ≡ Ask AskIdle → x.reply ≡ Idle true → Answering Wait (xs ++ x ∷ []) (tells (reply_text x.reply))
    refused : {fault : LineFault} → Answering (Refused fault) [] (tells (refusal_text fault))

  -- The lines were answered, one after another, by these exchanges and this text.
  pub data Dialogue : List Line → List Exchange → List ℕ → Type 0 where
    begins : Dialogue [] [] []
    answers_line : {lines : List Line} {xs ys : List Exchange} {text more : List ℕ} {line : Line} → Dialogue lines xs text → Answering line ys (tells more)
        → Dialogue (lines ++ line ∷ []) (xs ++ ys) (text ++ more)

  -- so much of the answer to a line was done by the last of these exchanges, the others having answered the lines before it
  pub record IsPartway (lines : List Line) (line : Line) (xs : List Exchange) (text : List ℕ) (next : Next) : Type 0 where
    pub whole : List Exchange
    pub cut : List Exchange
    pub in_order : xs ≡ whole ++ cut
    pub dialogue : Dialogue lines whole text
    pub answering : Answering line cut next
