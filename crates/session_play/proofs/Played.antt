-- What a play leaves, from what its parts tell.
use Rattle.std.proofs.Common.{◌≡◌, ℕ, ◌+◌, ◌<◌, List, [], length, sym, subst, ◌∙◌, ap, arith}
use Rattle.sequent_core.specs.declared.Sequent.{Sequent}
use Rattle.sequent_core.specs.declared.Attempt.{Attempt}
use Rattle.turn_desk.specs.Log.{HasSeen, JoinedStay, NoneFrom}
use Rattle.turn_desk.specs.Chairs.{ChairState, AreNew, AreSame, HasJoined}
use Rattle.prover_pool.specs.Work.{Meaning, HasMarkLast}
use Rattle.prover_pool.specs.Shift.{EachServed, WasServed}
use Rattle.prover_pool.proofs.Shifts.{each_was_served}
use Rattle.store_log.specs.declared.Logged.{Logged}
use Rattle.store_log.specs.declared.StoreBase.{StoreBase}
use Rattle.session_streams.specs.Streams.{SourceState, Writing}
use Rattle.session_talk.specs.declared.Ending.{Ending}
use Rattle.session_talk.specs.Conversing.{Converses}
use Rattle.session_play.specs.Playing.{IsPlayed}

module _ (chair_of : Logged → ℕ) (means : Meaning Logged StoreBase) (fair : Sequent → Attempt → Type 0) (workers : ℕ)
    (base at : StoreBase) (same_base : at ≡ base) (first talked last : ChairState Logged StoreBase) (cs ds : List (ChairState Logged StoreBase))
    (unseen : first.seen ≡ []) (new : AreNew first 1 cs) (count : length cs ≡ workers) (same : AreSame cs ds) (served : EachServed chair_of means fair at cs ds)
    (taken : HasJoined chair_of last ds 0) (made : last.made ≡ 1 + workers) (seen : HasSeen chair_of 0 talked.seen last.seen)
    (log : List Logged) (whole : log ≡ last.seen) (stay : JoinedStay chair_of last.joined log) (unmade : NoneFrom chair_of last.made log) (marks : HasMarkLast means log)
    (source : SourceState) (sink : Writing) (ending : Ending) (talks : Converses fair at 0 source sink talked.seen ending) where
  each : (k : ℕ) → 0 < k → k < workers + 1 → WasServed chair_of means fair at k [] log
  each k low high = subst (λ s. WasServed chair_of means fair at k s log) unseen
      (each_was_served chair_of means fair at first last cs ds new same served taken log whole stay marks k low (subst (λ n. k < n + 1) (sym count) high))

  pub played : IsPlayed chair_of means fair workers base log source sink ending
  played = subst (λ b. IsPlayed chair_of means fair workers b log source sink ending) same_base (record {
    served = each;
    unmade = let n : last.made ≡ workers + 1 = made ∙ (let e : 1 + workers ≡ workers + 1 = omega arith in e) in subst (λ m. NoneFrom chair_of m log) n unmade;
    seen = talked.seen;
    has_seen = subst (HasSeen chair_of 0 talked.seen) (sym whole) seen;
    converses = talks;
  })
