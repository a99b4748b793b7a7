-- What records lead to, and the first one that leads nowhere.
use Rattle.std.proofs.Common.{◌≡◌, ◌∙◌, sym, ap, subst, refl, ℕ, ◌+◌, ◌<◌, List, [], ◌∷◌, ◌++◌, length, length-append, append_assoc, arith}
use Rattle.std.proofs.lemmas.List.{map-append, append-nil}
use Rattle.std.specs.Prelude.{IsErrOf, Err}
use Rattle.std.specs.List.{AllByRecursion}
use Rattle.std.specs.FinMap.{len}
use Rattle.outside.specs.declared.side.Side.{Side}
use Rattle.journal_core.specs.Sides.{open_records, record_bytes}
use Rattle.journal_core.specs.Start.{bodies_of, ArePlaced}
use Rattle.journal_core.specs.declared.piece.Piece.{Piece}
use Rattle.proof_entries.specs.declared.Entry.{Entry}
use Rattle.core_steps.specs.declared.durable.Durable.{Durable}
use Rattle.core_steps.specs.State.{no_texts}
use Rattle.project_store.specs.Records.{IsBody, IsSmall, after_all, Leads}
use Rattle.project_store.specs.declared.fault.BodyFault.{BodyFault}
use Rattle.project_store.specs.declared.fault.BodyFault.TheVariants.{Bad, OutOfMemory}
use Rattle.project_store.specs.Opening.{IsStop}
use Rattle.project_store.specs.Private.{HasShortTexts, IsSingle, FindsStop}
use Rattle.project_store.proofs.Further.{leads_on}
use Rattle.project_store.proofs.Shorts.{nothing_short, nothing_small}

-- these were replayed, each read in one way, and lead to this durable
pub record IsReplayed (pieces rest : List Piece) (d : Durable) : Type 0 where
  pub before : List Piece
  pub parts : pieces ≡ before ++ rest
  pub leads : Leads no_texts (bodies_of before) d
  pub single : AllByRecursion IsSingle (bodies_of before)
  pub short : HasShortTexts d
  pub small : IsSmall d

abbrev body_in : Piece → List ℕ
body_in piece = piece.bytes.items

pub none_replayed : (pieces : List Piece) (d : Durable) → d ≡ no_texts → IsReplayed pieces pieces d
none_replayed pieces d is = record {
  before = [];
  parts = refl;
  leads = is;
  single = tt;
  short = subst HasShortTexts (sym is) nothing_short;
  small = subst IsSmall (sym is) nothing_small;
}

all_and_one : (bodies : List (List ℕ)) (body : List ℕ) → AllByRecursion IsSingle bodies → IsSingle body → AllByRecursion IsSingle (bodies ++ body ∷ [])
all_and_one [] body all one = (one, tt)
all_and_one (b ∷ bodies) body all one = (all.0, all_and_one bodies body all.1 one)

pub one_more : (pieces : List Piece) (first : Piece) (rest : List Piece) (d e : Durable) → IsReplayed pieces (first ∷ rest) d
    → (es : List Entry) × IsBody (body_in first) es × IsSmall (after_all d es) × (e ≡ after_all d es)
    → IsSingle (body_in first) → HasShortTexts e → IsReplayed pieces rest e
one_more pieces first rest d e so_far led one short =
    let bodies : bodies_of (so_far.before ++ first ∷ []) ≡ bodies_of so_far.before ++ body_in first ∷ [] = map-append body_in so_far.before (first ∷ []) in
    record {
      before = so_far.before ++ first ∷ [];
      parts = so_far.parts ∙ sym (append_assoc so_far.before (first ∷ []) rest);
      leads = subst (λ bs. Leads no_texts bs e) (sym bodies)
          (subst (Leads no_texts (bodies_of so_far.before ++ body_in first ∷ [])) (sym led.3) (leads_on no_texts (bodies_of so_far.before) d (body_in first) led.0 so_far.leads led.1 led.2));
      single = subst (AllByRecursion IsSingle) (sym bodies) (all_and_one (bodies_of so_far.before) (body_in first) so_far.single one);
      short = short;
      small = subst IsSmall (sym led.3) led.2;
    }

pub all_replayed : (pieces : List Piece) (d : Durable) → IsReplayed pieces [] d → Leads no_texts (bodies_of pieces) d
all_replayed pieces d so_far = subst (λ ps. Leads no_texts (bodies_of ps) d) (sym (so_far.parts ∙ append-nil so_far.before)) so_far.leads

pub all_single : (pieces : List Piece) (d : Durable) → IsReplayed pieces [] d → AllByRecursion IsSingle (bodies_of pieces)
all_single pieces d so_far = subst (λ ps. AllByRecursion IsSingle (bodies_of ps)) (sym (so_far.parts ∙ append-nil so_far.before)) so_far.single

length-first : (body : List ℕ) (bodies : List (List ℕ)) → length (open_records (body ∷ bodies)) ≡ 5 + length body + length (open_records bodies)
length-first body bodies = omega (arith, length-append (record_bytes body) (open_records bodies))

placed_at : (on : Side) (gate : ℕ) (before : List Piece) (first : Piece) (rest : List Piece) → ArePlaced on gate (before ++ first ∷ rest) → (first.side ≡ on) × (first.at ≡ gate + length (open_records (bodies_of before)))
placed_at on gate [] first rest placed = (placed.0, omega (arith, placed.1))
placed_at on gate (piece ∷ before) first rest placed =
    let behind = placed_at on (gate + 5 + length piece.bytes.items) before first rest placed.2 in
    (behind.0, omega (arith, behind.1, length-first piece.bytes.items (bodies_of before)))

pub stuck_at : (pieces : List Piece) (first : Piece) (rest : List Piece) (d : Durable) → IsReplayed pieces (first ∷ rest) d → IsStop d (body_in first) → (on : Side) → ArePlaced on 16 pieces
    → (first.side ≡ on) × FindsStop (bodies_of pieces) first.at
stuck_at pieces first rest d so_far stop on placed =
    let place = placed_at on 16 so_far.before first rest (subst (ArePlaced on 16) so_far.parts placed) in (
      place.0,
      record {
        stop = record {
          before = bodies_of so_far.before;
          first = body_in first;
          behind = bodies_of rest;
          parts = ap bodies_of so_far.parts ∙ map-append body_in so_far.before (first ∷ rest);
          at = place.1;
          durable = d;
          leads = so_far.leads;
          stop = stop;
        };
        single = so_far.single;
      },
    )

-- ONE RECORD

pub no_body : (fault : BodyFault) (d : Durable) (body : List ℕ) → ((es : List Entry) → IsBody body es → fault ≡ OutOfMemory) → fault ≡ Bad → IsStop d body
no_body fault d body good bad es is small = let two : OutOfMemory ≡ Bad = sym (good es is) ∙ bad in cc

pub too_many : (d new : Durable) (body : List ℕ) (es : List Entry) → ((fs : List Entry) → IsBody body fs → es ≡ fs) → new ≡ after_all d es → 256 < len new.texts → IsStop d body
too_many d new body es only is many fs read small = omega (arith, many, small, ap (λ x. len x.texts) (is ∙ ap (after_all d) (only fs read)))

pub one_reading : (body : List ℕ) (es : List Entry) → ((fs : List Entry) → IsBody body fs → es ≡ fs) → IsSingle body
one_reading body es only fs gs f g = sym (only fs f) ∙ only gs g

-- THE LOOP

module _ (pieces rest : List Piece) (d : Durable) (so_far : IsReplayed pieces rest d) where
  pub next_replayed : (first : Piece) (behind : List Piece) (e : Durable) (body : List ℕ) → rest ≡ first ∷ behind → body ≡ body_in first
      → (es : List Entry) × IsBody body es × IsSmall (after_all d es) × (e ≡ after_all d es) → IsSingle body → HasShortTexts e → IsReplayed pieces behind e
  next_replayed first behind e body is same led single short =
      one_more pieces first behind d e (subst (λ r. IsReplayed pieces r d) is so_far) (led.0, subst (λ b. IsBody b led.0) same led.1, led.2, led.3) (subst IsSingle same single) short

  pub stuck_there : (first : Piece) (behind : List Piece) (body : List ℕ) → rest ≡ first ∷ behind → body ≡ body_in first → IsStop d body → (on : Side) → ArePlaced on 16 pieces
      → (first.side ≡ on) × FindsStop (bodies_of pieces) first.at
  stuck_there first behind body is same stop on placed = stuck_at pieces first behind d (subst (λ r. IsReplayed pieces r d) is so_far) (subst (IsStop d) same stop) on placed

  pub end_led : rest ≡ [] → Leads no_texts (bodies_of pieces) d
  end_led is = all_replayed pieces d (subst (λ r. IsReplayed pieces r d) is so_far)

  pub end_single : rest ≡ [] → AllByRecursion IsSingle (bodies_of pieces)
  end_single is = all_single pieces d (subst (λ r. IsReplayed pieces r d) is so_far)

  pub end_small : IsSmall d
  end_small = so_far.small

  pub end_short : HasShortTexts d
  end_short = so_far.short

pub body_fault_of : (fault other : BodyFault) → IsErrOf {T = Unit {0}} {E = BodyFault} (Err fault) other → fault ≡ other
body_fault_of fault other e = cc
