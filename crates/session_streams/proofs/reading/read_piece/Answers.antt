use Rattle.std.proofs.Common.{rules, ◌≤◌, ◌<◌, ◌+◌, ◌-◌, ◌++◌, ℕ, List, [], length, take, refl, subst, ◌∙◌, arith}
use Rattle.std.specs.Io.KnownBytes.{Consumes, IsAtEnd}
use Rattle.session_streams.proofs.Readers.{ends_full, ends_fault, finishes, feeds, ends_unfed, lines_nil}
use Rattle.session_streams.proofs.reading.read_piece.Goals as goal

pub returns-then-reader-gt-LONGEST_INPUT-clause-ended : goal.returns-then-reader-gt-LONGEST_INPUT-clause-ended
returns-then-reader-gt-LONGEST_INPUT-clause-ended g c none first taken lines r =
    ends_full first _ taken lines c.args.reader.now _ _ r c.requires (omega (arith, c.if-reader-gt-LONGEST_INPUT.true)) none

pub returns-in-Err-clause-ended : goal.returns-in-Err-clause-ended
returns-in-Err-clause-ended g c none first taken lines r =
    ends_fault first _ _ taken lines c.args.reader.now _ _ c.in-Err.ensures.bytes c.in-Err.ensures.cause.failed r c.requires none

pub returns-then-n-eq0-clause-read : goal.returns-then-n-eq0-clause-read
returns-then-n-eq0-clause-read g c first taken lines r =
    let reader = c.args.reader.now in
    let low : length taken ≤ 67108864 = omega (arith, r.count, c.if-reader-gt-LONGEST_INPUT.false) in
    let takes : Consumes (g.I.Source.left c.args.input.now) (g.I.Source.left c.read.new.self) [] =
    subst (λ k. Consumes (g.I.Source.left c.args.input.now) (g.I.Source.left c.read.new.self) (take k c.read.new.into)) c.if-n-eq0.true c.in-Ok.ensures.bytes.0 in
    let room : 0 < length c.read.new.into = search rules in
    let end : IsAtEnd (g.I.Source.left c.read.new.self) = c.in-Ok.ensures.bytes.1 c.if-n-eq0.true room in
    ([], lines_nil first _ (taken ++ []) lines _ (finishes first _ _ taken lines reader _ takes end low refl refl c.requires c.finish.ensures r))

pub returns-in-Ok-feed-clause-read : goal.returns-in-Ok-feed-clause-read
returns-in-Ok-feed-clause-read g c first taken lines r =
    let reader = c.args.reader.now in
    let bytes : List ℕ = take c.in-Ok.n c.read.new.into in
    let low : length taken ≤ 67108864 = omega (arith, r.count, c.if-reader-gt-LONGEST_INPUT.false) in
    let room : length c.read.new.into ≤ 67108865 - reader.taken = search rules in
    let most : length bytes + length taken ≤ 67108865 = omega (arith, c.in-Ok.ensures.bound.0, c.in-Ok.ensures.bound.1, room, r.count, low) in
    (bytes, lines_nil first _ (taken ++ bytes) lines _ (feeds first _ _ taken bytes lines reader _ c.in-Ok.ensures.bytes.0 low most c.in-Ok-feed.ensures.taken (c.in-Ok-feed.ensures.ended ∙ c.requires) c.requires c.in-Ok-feed.ensures.fed r))

pub returns-in-Err-feed-clause-ended : goal.returns-in-Err-feed-clause-ended
returns-in-Err-feed-clause-ended g c none first taken lines r =
    let reader = c.args.reader.now in
    let bytes : List ℕ = take c.in-Ok.n c.read.new.into in
    let low : length taken ≤ 67108864 = omega (arith, r.count, c.if-reader-gt-LONGEST_INPUT.false) in
    let room : length c.read.new.into ≤ 67108865 - reader.taken = search rules in
    let most : length bytes + length taken ≤ 67108865 = omega (arith, c.in-Ok.ensures.bound.0, c.in-Ok.ensures.bound.1, room, r.count, low) in
    ends_unfed first _ _ taken bytes lines reader _ _ c.in-Ok.ensures.bytes.0 low most c.requires r
