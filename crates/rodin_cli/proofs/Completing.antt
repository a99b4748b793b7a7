-- Why the turns end, and what is left unproved then: each turn closes the first open obligation.
use Rattle.std.proofs.Common.{◌≡◌, ◌≢◌, ◌∙◌, ◌⊎◌, inl, inr, sym, ap, subst, refl, ℕ, ◌+◌, ◌*◌, ◌≤◌, Bool, true, false, List, [], ◌∷◌, ◌++◌, length, append_assoc, arith}
use Rattle.std.proofs.lemmas.Slice.Eq.{bytes_eq-Decides}
use Rattle.std.proofs.lemmas.List.{append-nil, length-append}
use Rattle.std.specs.Prelude.{Option, Some, None, bytes_eq}
use Rattle.std.specs.List.{AllByRecursion}
use Rattle.std.specs.FinMap.{FinMap, get, insert}
use Rattle.sequent_core.specs.declared.Sequent.{Sequent}
use Rattle.sequent_core.specs.declared.Obligation.{Obligation}
use Rattle.sequent_core.specs.declared.Ticket.{Ticket}
use Rattle.sequent_core.specs.declared.Tree.{Tree}
use Rattle.sequent_core.specs.declared.Attempt.{Attempt}
use Rattle.sequent_core.specs.declared.Attempt.TheVariants.{Found, NoProof, NoMemory as AttemptNoMemory}
use Rattle.sequent_core.specs.Trees.{Derives}
use Rattle.sequent_core.specs.Provers.{IsGood, IsGoodTree}
use Rattle.sequent_core.proofs.Nodes.{derives_not_leaf}
use Rattle.proof_entries.specs.declared.Proof.{Proof}
use Rattle.proof_entries.specs.declared.Entry.TheVariants.{SetProof}
use Rattle.core_steps.specs.Durable.{text_cmp}
use Rattle.core_steps.specs.declared.Status.{Status}
use Rattle.core_steps.specs.declared.Event.TheVariants.{Take, Finish}
use Rattle.core_steps.specs.declared.Reply.{Reply}
use Rattle.core_steps.specs.declared.Reply.TheVariants.{Taken, Nothing, NoTicket, Noted, NoMemory, Stored, Refused}
use Rattle.core_steps.specs.Table.{IsTable, IsPresent}
use Rattle.core_steps.specs.Status.{IsStatus, IsUnsettled, IsUnsettledBy}
use Rattle.core_steps.specs.Laws.{DecidesSequents}
use Rattle.core_steps.specs.State.{State, entered}
use Rattle.core_steps.specs.Outcomes.{StepOutcome}
use Rattle.core_steps.specs.Step.{Comes}
use Rattle.core_steps.specs.Tickets.{CanStore, stored, stale, refused, EndsTicket, IsOpen, IsFor, TakesFirst, by_prover, ticket_for, tried_with}
use Rattle.core_steps.specs.Run.{Exchange, Runs, IsLegal}
use Rattle.core_steps.proofs.Alls.{all_both, all_so_both}
use Rattle.core_steps.proofs.NameMaps.{get_same, get_other}
use Rattle.rodin_cli.specs.Script.{IsTurn, AreTurns}
use Rattle.session_run.specs.Completeness.{RanOutOver}
use Rattle.rodin_cli.proofs.OneTable.{HasDistinctPoNames, one_table, distinct_table, apart_before, present_one}
use Rattle.rodin_cli.proofs.Sessions.{outcome, comes}

-- LISTS CUT AT THE FIRST ELEMENT WITH A PROPERTY

module _ {X : Type 0} (P : X → Type 0) where
  -- elements without the property at the front are no more than those before the first one that has it
  pub not_longer : (before ahead b behind : List X) (o : X) → before ++ ahead ≡ b ++ o ∷ behind → AllByRecursion (λ x. P x → ⊥) before → P o → length before ≤ length b
  not_longer [] ahead b behind o e none has = omega arith
  not_longer (p ∷ before) ahead [] behind o e none has =
      let same : p ≡ o = cc in
      absurd (none.0 (subst P (sym same) has))
  not_longer (p ∷ before) ahead (q ∷ b) behind o e none has =
      let rest : before ++ ahead ≡ b ++ o ∷ behind = cc in
      let less = not_longer before ahead b behind o rest none.1 has in
      omega (arith, less)

pub single_cut : {X : Type 0} (x y : X) (before behind : List X) → x ∷ [] ≡ before ++ y ∷ behind → (before ≡ []) × (x ≡ y) × (behind ≡ [])
single_cut x y [] behind e = (refl, cc, cc)
single_cut x y (b ∷ []) behind e = cc
single_cut x y (b ∷ c ∷ before) behind e = cc

-- WHAT THE EXCHANGES HAVE

pub has_before : (o : Obligation) (xs ys : List Exchange) → RanOutOver o ys → RanOutOver o (xs ++ ys)
has_before o xs ys out = record {
  before = xs ++ out.before;
  taking = out.taking;
  between = out.between;
  finishing = out.finishing;
  behind = out.behind;
  in_order = ap (λ zs. xs ++ zs) out.in_order ∙ sym (append_assoc xs out.before (out.taking ∷ (out.between ++ out.finishing ∷ out.behind)));
  ticket = out.ticket;
  takes = out.takes;
  is_for = out.is_for;
  finishes = out.finishes;
}

pub has_behind : (o : Obligation) (xs ys : List Exchange) → RanOutOver o xs → RanOutOver o (xs ++ ys)
has_behind o xs ys out = record {
  before = out.before;
  taking = out.taking;
  between = out.between;
  finishing = out.finishing;
  behind = out.behind ++ ys;
  in_order = ap (λ zs. zs ++ ys) out.in_order ∙ append_assoc out.before (out.taking ∷ (out.between ++ out.finishing ∷ out.behind)) ys
      ∙ ap (λ zs. out.before ++ out.taking ∷ zs) (append_assoc out.between (out.finishing ∷ out.behind) ys);
  ticket = out.ticket;
  takes = out.takes;
  is_for = out.is_for;
  finishes = out.finishes;
}

-- WHAT BECOMES OF AN OBLIGATION

-- it isn't sure, or memory ran out over it
abbrev pub HasReason : (Sequent → Type 0) → List Exchange → Obligation → Type 0
HasReason sure xs o = (sure o.sequent → ⊥) ⊎ RanOutOver o xs

-- each sequent tried last under a name isn't sure, or memory ran out over it
abbrev pub HaveReasons : (Sequent → Type 0) → FinMap text_cmp Sequent → List Exchange → Type 0
HaveReasons sure tried xs = (o : Obligation) → get tried o.name ≡ Some o.sequent → HasReason sure xs o

-- between events of provers: no ticket is out, and what was tried has its reason
pub record AtRest (sure : Sequent → Type 0) (s : State) (xs : List Exchange) : Type 0 where
  pub out : s.out ≡ []
  pub reasons : HaveReasons sure s.tried xs

pub more_reasons : (sure : Sequent → Type 0) (tried : FinMap text_cmp Sequent) (xs ys : List Exchange) → HaveReasons sure tried xs → HaveReasons sure tried (xs ++ ys)
more_reasons sure tried xs ys reasons o is = by (reasons o is) where
  by : HasReason sure xs o → HasReason sure (xs ++ ys) o
  by (inl unsure) = inl unsure
  by (inr has) = inr (has_behind o xs ys has)

some_sequent : (p q : Sequent) → Some p ≡ Some q → p ≡ q
some_sequent p q e = cc

-- one more sequent is tried
tried_more : (sure : Sequent → Type 0) (tried : FinMap text_cmp Sequent) (o : Obligation) (xs : List Exchange) → HasReason sure xs o → HaveReasons sure tried xs →
    HaveReasons sure (insert tried o.name o.sequent) xs
tried_more sure tried o xs why others p is = by (bytes_eq o.name p.name) refl where
  by : (b : Bool) → bytes_eq o.name p.name ≡ b → HasReason sure xs p
  by true e =
      let name : o.name ≡ p.name = (bytes_eq-Decides o.name p.name).0 e in
      let sequent : o.sequent ≡ p.sequent =
      some_sequent o.sequent p.sequent (sym (get_same tried o.name o.sequent) ∙ ap (λ n. get (insert tried o.name o.sequent) n) name ∙ is) in
      subst (HasReason sure xs) (λ i. record { name = name i; sequent = sequent i }) why
  by false e =
      others p (sym (get_other tried o.name p.name o.sequent (λ same. let no : true ≡ false = sym ((bytes_eq-Decides o.name p.name).1 (sym same)) ∙ e in cc)) ∙ is)

-- What the finish of a ticket for the obligation, the one that was out, does to the state: the obligation is open no more,
-- and those of other names stay as they were.
pub record Closes (sure : Sequent → Type 0) (s t : State) (o : Obligation) (xs : List Exchange) (reply : Reply) : Type 0 where
  pub out : t.out ≡ s.out
  pub next : t.next ≡ s.next
  pub built : t.durable.built ≡ s.durable.built
  pub proofs : (p : Obligation) → p.name ≢ o.name → get t.durable.proofs p.name ≡ get s.durable.proofs p.name
  pub tried : (p : Obligation) → p.name ≢ o.name → get t.tried p.name ≡ get s.tried p.name
  pub closed : IsOpen t o → ⊥
  pub reasons : HaveReasons sure s.tried xs → HaveReasons sure t.tried xs
  pub legal : (number : ℕ) → reply ≢ NoTicket number

settled_by : (proofs : FinMap text_cmp Proof) (o : Obligation) (proof : Proof) → Derives proof.tree o.sequent → IsUnsettledBy (insert proofs o.name proof) o → ⊥
settled_by proofs o proof derives unsettled = by unsettled.0 (subst (λ found. IsStatus found o.sequent unsettled.0) (get_same proofs o.name proof) unsettled.1) unsettled.2 where
  by : (status : Status) → IsStatus (Some proof) o.sequent status → IsUnsettled status → ⊥
  by status is (inl e) = derives_not_leaf proof.tree o.sequent derives (subst (λ q. IsStatus (Some proof) o.sequent q) e is)
  by status is (inr e) = (subst (λ q. IsStatus (Some proof) o.sequent q) e is).1 derives.applies

module _ (sure : Sequent → Type 0) (s : State) (number : ℕ) (o : Obligation) (xs : List Exchange) where
  closes_as : (x z : StepOutcome) → x ≡ z → Closes sure s z.new o xs z.reply → Closes sure s x.new o xs x.reply
  closes_as x z is closes = subst (λ u. Closes sure s u.new o xs u.reply) (sym is) closes

  tried_closes : (reply : Reply) → ((n : ℕ) → reply ≢ NoTicket n) → HasReason sure xs o → Closes sure s (tried_with s (ticket_for number o)) o xs reply
  tried_closes reply legal why = record {
    out = refl;
    next = refl;
    built = refl;
    proofs = λ p apart. refl;
    tried = λ p apart. get_other s.tried o.name p.name o.sequent apart;
    closed = λ open_. open_.not_tried (get_same s.tried o.name o.sequent);
    reasons = λ reasons. tried_more sure s.tried o xs why reasons;
    legal = legal;
  }

  stored_closes : (reply : Reply) (proof : Proof) → ((n : ℕ) → reply ≢ NoTicket n) → Derives proof.tree o.sequent →
      Closes sure s (record s { durable = entered s.durable (SetProof o.name proof) }) o xs reply
  stored_closes reply proof legal derives = record {
    out = refl;
    next = refl;
    built = refl;
    proofs = λ p apart. get_other s.durable.proofs o.name p.name proof apart;
    tried = λ p apart. refl;
    closed = λ open_. settled_by s.durable.proofs o proof derives open_.unsettled;
    reasons = λ reasons. reasons;
    legal = legal;
  }

  can_store : (sequent : Option Sequent) (tree : Tree) → sequent ≡ Some o.sequent → IsUnsettledBy s.durable.proofs o → IsGoodTree tree o.sequent → CanStore s.durable.proofs o.name sequent tree
  can_store sequent tree is unsettled good = subst (λ q. CanStore s.durable.proofs o.name q tree) (sym is) (unsettled, good)

  stores : (sequent : Option Sequent) (tree : Tree) → sequent ≡ Some o.sequent → CanStore s.durable.proofs o.name sequent tree → Derives tree o.sequent
  stores sequent tree is can = (subst (λ q. CanStore s.durable.proofs o.name q tree) is can).1.derives

  -- the finish of the one ticket that was out, with an attempt that is good where the sequent is sure
  pub finish_closes : (sequent : Option Sequent) (attempt : Attempt) (x : StepOutcome) → sequent ≡ Some o.sequent → IsUnsettledBy s.durable.proofs o →
      (sure o.sequent → IsGood attempt o.sequent) → (attempt ≡ AttemptNoMemory → RanOutOver o xs) →
      EndsTicket s (ticket_for number o) sequent attempt x → Closes sure s x.new o xs x.reply
  finish_closes sequent NoProof x is unsettled fair memory e =
      closes_as x _ e.2 (tried_closes (Noted o.name e.0) (λ n k. let no : Noted o.name e.0 ≡ NoTicket n = k in cc) (inl fair))
  finish_closes sequent AttemptNoMemory x is unsettled fair memory e =
      closes_as x _ e.2 (tried_closes (NoMemory o.name e.0) (λ n k. let no : NoMemory o.name e.0 ≡ NoTicket n = k in cc) (inr (memory refl)))
  finish_closes sequent (Found tree) x is unsettled fair memory (status, shown, stored can d) =
      closes_as x _ d (stored_closes (Stored o.name status) (by_prover tree) (λ n k. let no : Stored o.name status ≡ NoTicket n = k in cc) (stores sequent tree is can))
  finish_closes sequent (Found tree) x is unsettled fair memory (status, shown, stale never good d) = absurd (never (can_store sequent tree is unsettled good))
  finish_closes sequent (Found tree) x is unsettled fair memory (status, shown, refused never bad d) =
      closes_as x _ d (tried_closes (Refused o.name status) (λ n k. let no : Refused o.name status ≡ NoTicket n = k in cc) (inl (λ certain. bad (fair certain))))

-- THE TURNS

-- an obligation that isn't open stays so where nothing under its name changes
stays_closed : (s t : State) (p : Obligation) → s.out ≡ [] → get t.durable.proofs p.name ≡ get s.durable.proofs p.name → get t.tried p.name ≡ get s.tried p.name →
    (IsOpen s p → ⊥) → IsOpen t p → ⊥
stays_closed s t p out proofs tried closed open_ =
    closed (record {
      unsettled = (open_.unsettled.0, subst (λ found. IsStatus found p.sequent open_.unsettled.0) proofs open_.unsettled.1, open_.unsettled.2);
      not_out = subst (AllByRecursion (λ ticket. IsFor p ticket → ⊥)) (sym out) tt;
      not_tried = λ e. open_.not_tried (tried ∙ e);
    })

-- What turns lead to: no ticket is out, and as many more of the table's first obligations aren't open.
pub record Turned (sure : Sequent → Type 0) (table before : List Obligation) (s t : State) (xs turns : List Exchange) : Type 0 where
  pub past : List Obligation
  pub ahead : List Obligation
  pub cut : table ≡ past ++ ahead
  pub closed : AllByRecursion (λ o. IsOpen t o → ⊥) past
  pub rest : AtRest sure t (xs ++ turns)
  pub count : length turns + 2 * length before ≤ 2 * length past
  pub next : 2 * t.next ≡ 2 * s.next + length turns
  pub built : t.durable.built ≡ s.durable.built
  pub legal : IsLegal turns

-- a take that gives a ticket gives one for the first open obligation
taken_open : (table : List Obligation) (s : State) (x : StepOutcome) (ticket : Ticket) → x.reply ≡ Taken ticket → s.out ≡ [] → TakesFirst s table x →
    (b : List Obligation) × (o : Obligation) × (behind : List Obligation) × (table ≡ b ++ o ∷ behind) × AllByRecursion (λ p. IsOpen s p → ⊥) b × IsOpen s o
    × (ticket ≡ ticket_for s.next o) × (x.new ≡ record s { out = ticket_for s.next o ∷ []; next = s.next + 1 })
taken_open table s x ticket replied out (inl none) = let no : Taken ticket ≡ Nothing = sym replied ∙ ap (λ z. z.reply) none.1 in cc
taken_open table s x ticket replied out (inr (b, o, behind, cut, closed, open_, takes)) =
    let given : Taken ticket ≡ Taken (ticket_for s.next o) = sym replied ∙ ap (λ z. z.reply) takes in
    let is : ticket ≡ ticket_for s.next o = cc in
    (b, o, behind, cut, closed, open_, is, ap (λ z. z.new) takes ∙ ap (λ tickets. record s { out = tickets ++ ticket_for s.next o ∷ []; next = s.next + 1 }) out)

-- nothing is left to take only where no obligation is open
pub nothing_left : (table : List Obligation) (s : State) (x : StepOutcome) → x.reply ≡ Nothing → TakesFirst s table x → AllByRecursion (λ o. IsOpen s o → ⊥) table × (x.new ≡ s)
nothing_left table s x replied (inl none) = (none.0, ap (λ z. z.new) none.1)
nothing_left table s x replied (inr (b, o, behind, cut, closed, open_, takes)) =
    let no : Nothing ≡ Taken (ticket_for s.next o) = sym replied ∙ ap (λ z. z.reply) takes in cc

-- what isn't open and is unattempted or broken was tried, and has its reason
pub left_over : DecidesSequents → (sure : Sequent → Type 0) (s : State) (xs : List Exchange) (o : Obligation) → AtRest sure s xs → (IsOpen s o → ⊥) → IsUnsettledBy s.durable.proofs o → HasReason sure xs o
left_over decides sure s xs o rest closed unsettled = by (get s.tried o.name) refl where
  tried : (get s.tried o.name ≢ Some o.sequent) → ⊥
  tried never = closed (record { unsettled = unsettled; not_out = subst (AllByRecursion (λ ticket. IsFor o ticket → ⊥)) (sym rest.out) tt; not_tried = never })

  last_tried : (q : Sequent) → get s.tried o.name ≡ Some q → (q ≡ o.sequent) ⊎ (q ≢ o.sequent) → HasReason sure xs o
  last_tried q e (inl same) = rest.reasons o (e ∙ ap Some same)
  last_tried q e (inr differ) = absurd (tried (λ f. differ (some_sequent q o.sequent (sym e ∙ f))))

  by : (found : Option Sequent) → get s.tried o.name ≡ found → HasReason sure xs o
  by None e = absurd (tried (λ f. let no : None ≡ Some o.sequent = sym e ∙ f in cc))
  by (Some q) e = last_tried q e (decides q o.sequent)

module _ (answers : Sequent → Attempt → Type 0) (sure : Sequent → Type 0) where
  -- the finish of the ticket that was taken
  finish_step : (table b behind : List Obligation) (o : Obligation) (s : State) (ys : List Exchange) (attempt : Attempt) (x : StepOutcome) →
      IsTable s.durable.built table → HasDistinctPoNames table → table ≡ b ++ o ∷ behind → IsUnsettledBy s.durable.proofs o →
      (sure o.sequent → IsGood attempt o.sequent) → (attempt ≡ AttemptNoMemory → RanOutOver o ys) →
      Comes (record s { out = ticket_for s.next o ∷ []; next = s.next + 1 }) (Finish s.next attempt) x →
      Closes sure (record s { out = []; next = s.next + 1 }) x.new o ys x.reply
  finish_step table b behind o s ys attempt x is distinct cut unsettled fair memory (table', is', inl none) = absurd (none.0.0 refl)
  finish_step table b behind o s ys attempt x is distinct cut unsettled fair memory (table', is', inr (front, ticket, back, tickets, numbered, (sequent, present, ends))) =
      let single = single_cut (ticket_for s.next o) ticket front back tickets in
      let m : State = record s { out = []; next = s.next + 1 } in
      let left : front ++ back ≡ [] = ap (λ bs. bs ++ back) single.0 ∙ single.2 in
      let ends' : EndsTicket m (ticket_for s.next o) sequent attempt x =
      subst (λ k. EndsTicket m k sequent attempt x) (sym single.1) (subst (λ out. EndsTicket (record m { out = out }) ticket sequent attempt x) left ends) in
      let present' : IsPresent (b ++ o ∷ behind) o.name sequent =
      subst (λ k. IsPresent (b ++ o ∷ behind) k.name sequent) (sym single.1)
      (subst (λ os. IsPresent os ticket.name sequent) (one_table s.durable.built table' table is' is ∙ cut) present) in
      finish_closes sure m s.next o ys sequent attempt x (present_one b o behind (subst HasDistinctPoNames cut distinct) sequent present') unsettled fair memory ends'

  -- a turn closes the first open obligation
  turned : (table before ahead : List Obligation) (s t : State) (xs : List Exchange) (x y : Exchange) →
      IsTable s.durable.built table → HasDistinctPoNames table → table ≡ before ++ ahead → AllByRecursion (λ o. IsOpen s o → ⊥) before → AtRest sure s xs →
      IsTurn answers sure x y → Runs s (x ∷ y ∷ []) t → Turned sure table before s t xs (x ∷ y ∷ [])
  turned table before ahead s t xs x y is distinct cut closed rest (ticket, attempt, takes, given, finishes, fair) (m, first, (n, second, last)) =
      let d = comes s m x (Take None) takes first in
      let taken = subst (λ os. TakesFirst s os (outcome x m)) (one_table s.durable.built d.0 table d.1 is) d.2 in
      let (b, o, behind, place, shut, open_, ticket_is, mid) = taken_open table s (outcome x m) ticket given rest.out taken in
      let f = comes m n y (Finish s.next attempt) (finishes ∙ ap (λ k. Finish k.number attempt) ticket_is) second in
      let closes = finish_step table b behind o s (xs ++ x ∷ y ∷ []) attempt (outcome y n) is distinct place open_.unsettled
      (subst (λ k. sure k.sequent → IsGood attempt k.sequent) ticket_is fair.1)
      (λ lacks. has_before o xs (x ∷ y ∷ [])
      (record {
        before = [];
        taking = x;
        between = [];
        finishing = y;
        behind = [];
        in_order = refl;
        ticket = ticket;
        takes = given;
        is_for = (ap (λ k. k.name) ticket_is, ap (λ k. k.sequent) ticket_is);
        finishes = finishes ∙ ap (λ a. Finish ticket.number a) lacks;
      }))
      (subst (λ u. Comes u (Finish s.next attempt) (outcome y n)) mid f) in
      let less = not_longer (IsOpen s) before ahead b behind o (sym cut ∙ place) closed open_ in
      subst (λ u. Turned sure table before s u xs (x ∷ y ∷ [])) (sym last)
      (record {
        past = b ++ o ∷ [];
        ahead = behind;
        cut = place ∙ sym (append_assoc b (o ∷ []) behind);
        closed = all_both (λ p. IsOpen n p → ⊥) b (o ∷ [])
            (all_so_both (λ p. p.name ≢ o.name) (λ p. IsOpen s p → ⊥) (λ p. IsOpen n p → ⊥)
            (λ p apart. stays_closed s n p rest.out (closes.proofs p apart) (closes.tried p apart))
            b (apart_before b o behind (subst HasDistinctPoNames place distinct)) shut)
            (closes.closed, tt);
        rest = record { out = closes.out; reasons = closes.reasons (more_reasons sure s.tried xs (x ∷ y ∷ []) rest.reasons) };
        count = omega (arith, less, length-append b (o ∷ []));
        next = let after = closes.next in omega (arith, after);
        built = closes.built;
        legal = ((λ number e. let no : Taken ticket ≡ NoTicket number = sym given ∙ e in cc), (closes.legal, tt));
      })

  -- each turn closes an obligation more
  pub turns_close : (turns : List Exchange) (table before ahead : List Obligation) (s t : State) (xs : List Exchange) →
      IsTable s.durable.built table → HasDistinctPoNames table → table ≡ before ++ ahead → AllByRecursion (λ o. IsOpen s o → ⊥) before → AtRest sure s xs →
      AreTurns answers sure turns → Runs s turns t → Turned sure table before s t xs turns
  turns_close [] table before ahead s t xs is distinct cut closed rest are run =
      subst (λ u. Turned sure table before s u xs []) (sym run)
      (record {
        past = before;
        ahead = ahead;
        cut = cut;
        closed = closed;
        rest = subst (AtRest sure s) (sym (append-nil xs)) rest;
        count = omega arith;
        next = omega arith;
        built = refl;
        legal = tt;
      })
  turns_close (x ∷ []) table before ahead s t xs is distinct cut closed rest are run = absurd are
  turns_close (x ∷ y ∷ turns) table before ahead s t xs is distinct cut closed rest are (m, first, (n, second, run)) =
      let one = turned table before ahead s n xs x y is distinct cut closed rest are.0 (m, first, (n, second, refl)) in
      let two = turns_close turns table one.past one.ahead n t (xs ++ x ∷ y ∷ []) (subst (λ p. IsTable p table) (sym one.built) is) distinct one.cut one.closed one.rest are.1 run in
      record {
        past = two.past;
        ahead = two.ahead;
        cut = two.cut;
        closed = two.closed;
        rest = subst (AtRest sure t) (append_assoc xs (x ∷ y ∷ []) turns) two.rest;
        count = let a = one.count in let b = two.count in omega (arith, a, b);
        next = let a = one.next in let b = two.next in omega (arith, a, b);
        built = two.built ∙ one.built;
        legal = (one.legal.0, (one.legal.1.0, two.legal));
      }

-- turns are fair also where nothing is sure
unsure_turns : (answers : Sequent → Attempt → Type 0) (sure : Sequent → Type 0) (turns : List Exchange) → AreTurns answers sure turns → AreTurns answers (λ s. ⊥) turns
unsure_turns answers sure [] are = tt
unsure_turns answers sure (x ∷ []) are = absurd are
unsure_turns answers sure (x ∷ y ∷ turns) ((ticket, attempt, takes, given, finishes, fair), are) =
    ((ticket, attempt, takes, given, finishes, (fair.0, λ never. absurd never)), unsure_turns answers sure turns are)

-- turns are no more than there are obligations, and each takes the next number
pub turns_bound : (answers : Sequent → Attempt → Type 0) (sure : Sequent → Type 0) (turns : List Exchange) (table : List Obligation) (s t : State) (r : ℕ) →
    s.out ≡ [] → IsTable s.durable.built table → AreTurns answers sure turns → Runs s turns t → length turns ≡ 2 * r → (r ≤ length table) × (t.next ≡ s.next + r)
turns_bound answers sure turns table s t r out is are run count =
    let all = turns_close answers (λ s. ⊥) turns table [] table s t [] is (distinct_table s.durable.built table is) refl tt
    (record { out = out; reasons = λ o tried. inl (λ never. never) }) (unsure_turns answers sure turns are) run in
    let most = all.count in
    let next = all.next in
    (omega (arith, count, most, ap length all.cut, length-append all.past all.ahead), omega (arith, count, next))
