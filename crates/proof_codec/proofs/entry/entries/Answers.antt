use Rattle.std.proofs.Common.{ℕ, ◌≡◌, ◌-◌, ◌∙◌, length, length-append, sym, ap, subst, arith}
use Rattle.std.proofs.lemmas.List.{append-nil}
use Rattle.proof_codec.specs.Private.{Misses}
use Rattle.proof_codec.specs.Entries.{IsEntryBy, bytes_by, IsStuckAt}
use Rattle.proof_codec.proofs.Chains.{IsChain, chain_on, chain_good, chain_whole, chain_only, chain_stuck, chain_never}
use Rattle.proof_codec.proofs.Entrance.{not_empty}
use Rattle.proof_codec.proofs.entry.entries.Goals as goal

pub overflow_sub-at : goal.overflow_sub-at
overflow_sub-at g c =
    let good = chain_good (IsEntryBy g.V.Version.IsGoodProof) (bytes_by g.V.Version.proof_bytes) _ _ _ c.loop-from.invariant in
    omega (arith, c.len.ensures, ap length good.1, length-append {A = ℕ})

pub loop-from-preserved : goal.loop-from-preserved
loop-from-preserved g c =
    subst (λ es. IsChain (IsEntryBy g.V.Version.IsGoodProof) (bytes_by g.V.Version.proof_bytes) c.args.bytes.now es c.entry_at.new.from) (sym c.in_ok-push-in-Ok.ensures.items)
    (chain_on (IsEntryBy g.V.Version.IsGoodProof) (bytes_by g.V.Version.proof_bytes) _ _ _ _ _ c.loop-from.invariant c.in-Ok.ensures)

pub returns-in-Err-Bad-clause-good : goal.returns-in-Err-Bad-clause-good
returns-in-Err-Bad-clause-good g c = λ entries spelled.
    let bad = subst (Misses (IsEntryBy g.V.Version.IsGoodProof) (bytes_by g.V.Version.proof_bytes) c.loop-from.from) c.in-Err-Bad.field-0-is c.in-Err-Bad.ensures in
    absurd (chain_never (IsEntryBy g.V.Version.IsGoodProof) (bytes_by g.V.Version.proof_bytes) (not_empty g.V.Version.proof_bytes) _ _ _ c.loop-from.invariant bad
    (λ e. let k = c.is_empty.ensures.1 e in let n = c.loop-from-test.true in cc) entries spelled)

pub returns-in-Err-Bad-clause-bad : goal.returns-in-Err-Bad-clause-bad
returns-in-Err-Bad-clause-bad g c = λ at is.
    let bad = subst (Misses (IsEntryBy g.V.Version.IsGoodProof) (bytes_by g.V.Version.proof_bytes) c.loop-from.from) c.in-Err-Bad.field-0-is c.in-Err-Bad.ensures in
    let stuck = chain_stuck (IsEntryBy g.V.Version.IsGoodProof) (bytes_by g.V.Version.proof_bytes) (not_empty g.V.Version.proof_bytes) _ _ _ c.loop-from.invariant bad
    (λ e. let k = c.is_empty.ensures.1 e in let n = c.loop-from-test.true in cc) in
    let place : length c.args.bytes.now - c.len.result ≡ at = cc in
    subst (IsStuckAt (IsEntryBy g.V.Version.IsGoodProof) (bytes_by g.V.Version.proof_bytes) c.args.bytes.now) (ap (λ (n : ℕ). length c.args.bytes.now - n) (sym c.len.ensures) ∙ place) stuck

pub returns-clause-read : goal.returns-clause-read
returns-clause-read g c = chain_whole (IsEntryBy g.V.Version.IsGoodProof) (bytes_by g.V.Version.proof_bytes) _ _ _ c.loop-from.invariant (c.is_empty.ensures.0 c.loop-from-test.false)

pub returns-clause-only : goal.returns-clause-only
returns-clause-only g c = λ entries spelled.
    chain_only (IsEntryBy g.V.Version.IsGoodProof) (bytes_by g.V.Version.proof_bytes) (not_empty g.V.Version.proof_bytes) _ _ _ c.loop-from.invariant (c.is_empty.ensures.0 c.loop-from-test.false) entries spelled.0 (spelled.1 ∙ sym (append-nil _))
