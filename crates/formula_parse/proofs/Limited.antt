-- What a reader of a grammar answers within the limits.
use Rattle.std.proofs.Common.{◌≡◌, ℕ, zero, suc, ◌+◌, ◌<◌, ◌≤◌, List, [], ◌∷◌, ◌++◌, Bool, true, false, cond, Option, Some, None, Result, Ok, Err, ◌⊎◌, inl, inr, refl, ap, sym, ◌∙◌, subst, arith, length, take, drop}
use Rattle.std.specs.Prelude.{IfOk, IfErr}
use Rattle.math_tokens.specs.declared.cutting.Token.{Token}
use Rattle.math_grammar.specs.Tokens.{Item, item_of, items_of}
use Rattle.formula_parse.specs.declared.fault.ParseFault.{ParseFault}
use Rattle.formula_parse.specs.declared.fault.ParseFault.TheVariants as fault
use Rattle.formula_parse.specs.Faults.{BeginsOne}
use Rattle.formula_parse.specs.Limits.{most_parts, passes, open_after, first_large_from, SpellsWithin, FindsFormula, IsFaultOf}
use Rattle.formula_parse.specs.PrivateReaders.{TokenReader, LimitedReading, read_whole, stopped, passed, reading_at_end, next_reading, limited_reading, ReadsTokens}
use Rattle.formula_parse.proofs.Outcomes.{outcome_by, found, refused}
use Rattle.formula_parse.proofs.Basics.{chosen}
use Rattle.formula_parse.proofs.Readers.{unless_full, ReadsGrammar, found_one, unexpected}

ended_at : {T : Type 0} (i : ℕ) (o : Option T) (t : T) → reading_at_end i o ≡ read_whole t → o ≡ Some t
ended_at i (Some u) t e = cc
ended_at i None t e = cc

stopped_at : {T : Type 0} (i j : ℕ) (o : Option T) → reading_at_end i o ≡ stopped j → (o ≡ None) × (j ≡ i)
stopped_at i j (Some t) e = cc
stopped_at i j None e = (refl, cc)

-- a limit that a front passes
large_front : (i n k : ℕ) (s : List Item) (j : ℕ) → first_large_from i n (take k s) ≡ Some j → first_large_from i n s ≡ Some j
large_front i n zero s j e = cc
large_front i n (suc k) [] j e = e
large_front i n (suc k) (x ∷ s) j e = go (passes i n x.symbol) e (large_front (i + 1) (open_after n x.symbol) k s j)
  where
    go : (v : Bool) → cond v (Some i) (first_large_from (i + 1) (open_after n x.symbol) (take k s)) ≡ Some j →
        (first_large_from (i + 1) (open_after n x.symbol) (take k s) ≡ Some j → first_large_from (i + 1) (open_after n x.symbol) s ≡ Some j) →
        cond v (Some i) (first_large_from (i + 1) (open_after n x.symbol) s) ≡ Some j
    go true e ih = e
    go false e ih = ih e

module _ {S T : Type 0} (r : TokenReader S T) where
  -- the next step, with the limit and without it
  record Goes (start : S) (x : Item) (next : S) : Type 0 where
    plain : r.step None start x ≡ Some next
    within : r.step most_parts start x ≡ Some next

  -- how a reading comes about
  data Turn (text : List ℕ) (i n : ℕ) (start : S) (x : Item) (rest : List Token) (z : LimitedReading T) : Type 0 where
    large : passes i n x.symbol ≡ true → passed i ≡ z → Turn text i n start x rest z
    refuses : passes i n x.symbol ≡ false → r.step None start x ≡ None → stopped i ≡ z → Turn text i n start x rest z
    full : (next : S) → passes i n x.symbol ≡ false → r.step None start x ≡ Some next → r.is_full next ≡ true → passed i ≡ z → Turn text i n start x rest z
    on : (next : S) → passes i n x.symbol ≡ false → Goes start x next → limited_reading r text (i + 1) (open_after n x.symbol) next rest ≡ z → Turn text i n start x rest z

  -- a whole reading
  record Whole (i n : ℕ) (start : S) (s : List Item) (t : T) : Type 0 where
    runs : outcome_by r most_parts start s ≡ found t
    clear : first_large_from i n s ≡ None

  -- a reading that stops at a token or at the end
  record Stopped (i n : ℕ) (start : S) (s : List Item) (j : ℕ) : Type 0 where
    k : ℕ
    is : j ≡ i + k
    short : k ≤ length s
    plain : outcome_by r None start s ≡ refused (drop k s)
    within : outcome_by r most_parts start s ≡ refused (drop k s)
    clear : first_large_from i n (take (suc k) s) ≡ None

module _ {S T : Type 0} {r : TokenReader S T} {IsOne : Option ℕ → List Item → T → Type 0} (d : ReadsGrammar r IsOne) where
  -- so many tokens are read without a fault
  record Walk (limit : Option ℕ) (s0 : List Item) (start : S) (s : List Item) (k : ℕ) : Type 0 where
    st : S
    right : d.IsRight limit s0 st (drop k s)
    same : (more : List Item) → outcome_by r limit start (take k s ++ more) ≡ outcome_by r limit st more

  walk_none : (limit : Option ℕ) {s0 : List Item} (start : S) (s : List Item) → d.IsRight limit s0 start s → Walk limit s0 start s 0
  walk_none limit start s ok = record { st = start; right = ok; same = λ more. refl }

  walk_step : (limit : Option ℕ) {s0 : List Item} (start next : S) (x : Item) (s : List Item) (k : ℕ) → r.step limit start x ≡ Some next → Walk limit s0 next s k → Walk limit s0 start (x ∷ s) (suc k)
  walk_step limit start next x s k e w = record { st = w.st; right = w.right; same = λ more. rw e (w.same more) }

  -- what is read begins a sentence
  walk_continues : (limit : Option ℕ) (s : List Item) (k : ℕ) → Walk limit s r.start s k → BeginsOne (IsOne limit) (take k s)
  walk_continues limit s k w =
      let a = d.leads limit s (drop k s) w.st w.right in
      (a.0, a.1, found_one d limit (take k s ++ a.0) a.1 (w.same a.0 ∙ a.2))

  goes_on_step : (start : S) (x : Item) (next : S) → r.step None start x ≡ Some next → r.is_full next ≡ false → Goes r start x next
  goes_on_step start x next e f = record { plain = e; within = d.limited start x ∙ ap (unless_full r.is_full) e ∙ rw f refl }

  stops_full : (start : S) (x : Item) (next : S) → r.step None start x ≡ Some next → r.is_full next ≡ true → r.step most_parts start x ≡ None
  stops_full start x next e f = d.limited start x ∙ ap (unless_full r.is_full) e ∙ rw f refl

  stops_plain : (start : S) (x : Item) → r.step None start x ≡ None → r.step most_parts start x ≡ None
  stops_plain start x e = d.limited start x ∙ ap (unless_full r.is_full) e

  turn : (text : List ℕ) (i n : ℕ) (start : S) (token : Token) (rest : List Token) (z : LimitedReading T) → limited_reading r text i n start (token ∷ rest) ≡ z → Turn r text i n start (item_of text token) rest z
  turn text i n start token rest z e =
      elim (chosen (passes i n (item_of text token).symbol) e) [
        | inl w ↦ large w.0 w.1
        | inr w ↦ go w.0 (r.step None start (item_of text token)) refl w.1
      ]
    where
      go : passes i n (item_of text token).symbol ≡ false → (o : Option S) → r.step None start (item_of text token) ≡ o →
          next_reading r.is_full i o (λ after. limited_reading r text (i + 1) (open_after n (item_of text token).symbol) after rest) ≡ z → Turn r text i n start (item_of text token) rest z
      go c None b e = refuses c b e
      go c (Some next) b e = elim (chosen (r.is_full next) e) [ inl f ↦ full next c b f.0 f.1 | inr f ↦ on next c (goes_on_step start (item_of text token) next b f.0) f.1 ]

  whole_reading : (text : List ℕ) (i n : ℕ) (start : S) (tokens : List Token) (t : T) → limited_reading r text i n start tokens ≡ read_whole t → Whole r i n start (items_of text tokens) t
  whole_reading text i n start [] t e = let f : r.ended start ≡ Some t = ended_at i (r.ended start) t e in record { runs = rw f refl; clear = refl }
  whole_reading text i n start (token ∷ rest) t e =
      elim (turn text i n start token rest (read_whole t) e) [
        | large c b ↦ cc
        | refuses c b f ↦ cc
        | full next c b f g ↦ cc
        | on next c g b ↦ (
            let w = whole_reading text (i + 1) (open_after n (item_of text token).symbol) next rest t b in
            record { runs = rw g.within w.runs; clear = rw c w.clear })
      ]

  halted : (text : List ℕ) (i n : ℕ) (start : S) (tokens : List Token) (j : ℕ) → limited_reading r text i n start tokens ≡ stopped j → Stopped r i n start (items_of text tokens) j
  halted text i n start [] j e =
      let f = stopped_at i j (r.ended start) e in
      record { k = 0; is = omega (arith, f.1); short = omega arith; plain = rw f.0 refl; within = rw f.0 refl; clear = refl }
  halted text i n start (token ∷ rest) j e =
      elim (turn text i n start token rest (stopped j) e) [
        | large c b ↦ cc
        | refuses c b f ↦ (
            let same : j ≡ i = cc in
            let within : r.step most_parts start (item_of text token) ≡ None = stops_plain start (item_of text token) b in
            record { k = 0; is = omega (arith, same); short = omega arith; plain = rw b refl; within = rw within refl; clear = rw c refl })
        | full next c b f g ↦ cc
        | on next c g b ↦ (
            let w = halted text (i + 1) (open_after n (item_of text token).symbol) next rest j b in
            record {
              k = suc w.k;
              is = omega (arith, w.is);
              short = omega (arith, w.short);
              plain = rw g.plain w.plain;
              within = rw g.within w.within;
              clear = rw c w.clear;
            })
      ]

  -- a reading that passes a limit
  record Passed (s0 : List Item) (i n : ℕ) (start : S) (s : List Item) (j : ℕ) : Type 0 where
    k : ℕ
    is : j ≡ i + k
    inside : k < length s
    before : Walk most_parts s0 start s k
    clear : first_large_from i n (take k s) ≡ None
    why : (first_large_from i n (take (suc k) s) ≡ Some j) ⊎ ((outcome_by r most_parts start s ≡ refused (drop k s)) × Walk None s0 start s (suc k))

  passing : (text : List ℕ) (s0 : List Item) (i n : ℕ) (start : S) (tokens : List Token) (j : ℕ) →
      d.IsRight most_parts s0 start (items_of text tokens) → d.IsRight None s0 start (items_of text tokens) →
      limited_reading r text i n start tokens ≡ passed j → Passed s0 i n start (items_of text tokens) j
  passing text s0 i n start [] j ok plain e = go (r.ended start) e
    where
      go : (o : Option T) → reading_at_end i o ≡ passed j → Passed s0 i n start [] j
      go (Some t) e = cc
      go None e = cc
  passing text s0 i n start (token ∷ rest) j ok plain e =
      elim (turn text i n start token rest (passed j) e) [
        | large c b ↦ (
            let same : j ≡ i = cc in
            record {
              k = 0;
              is = omega (arith, same);
              inside = omega arith;
              before = walk_none most_parts start (items_of text (token ∷ rest)) ok;
              clear = refl;
              why = inl (rw c (ap Some (sym same)));
            })
        | refuses c b f ↦ cc
        | full next c b f g ↦ (
            let same : j ≡ i = cc in
            let within : r.step most_parts start (item_of text token) ≡ None = stops_full start (item_of text token) next b f in
            record {
              k = 0;
              is = omega (arith, same);
              inside = omega arith;
              before = walk_none most_parts start (items_of text (token ∷ rest)) ok;
              clear = refl;
              why = inr (
                rw within refl,
                walk_step None start next (item_of text token) (items_of text rest) 0 b
                    (walk_none None next (items_of text rest) (d.at_step None s0 (items_of text rest) start (item_of text token) next plain b)),
              );
            })
        | on next c g b ↦ (
            let w = passing text s0 (i + 1) (open_after n (item_of text token).symbol) next rest j
            (d.at_step most_parts s0 (items_of text rest) start (item_of text token) next ok g.within) (d.at_step None s0 (items_of text rest) start (item_of text token) next plain g.plain) b in
            record {
              k = suc w.k;
              is = omega (arith, w.is);
              inside = omega (arith, w.inside);
              before = walk_step most_parts start next (item_of text token) (items_of text rest) w.k g.within w.before;
              clear = rw c w.clear;
              why = elim w.why [
                | inl p ↦ inl (rw c p)
                | inr p ↦ inr (rw g.within p.0, walk_step None start next (item_of text token) (items_of text rest) (suc w.k) g.plain p.1)
              ];
            })
      ]

  module _ (text : List ℕ) (tokens : List Token) where
    abbrev items : List Item
    items = items_of text tokens

    whole_now : (t : T) → limited_reading r text 0 0 r.start tokens ≡ read_whole t → SpellsWithin IsOne items t
    whole_now t e = let w = whole_reading text 0 0 r.start tokens t e in (found_one d most_parts items t w.runs, w.clear)

    passed_now : (j : ℕ) → limited_reading r text 0 0 r.start tokens ≡ passed j → Passed items 0 0 r.start items j
    passed_now j e = passing text items 0 0 r.start tokens j (d.at_start most_parts items) (d.at_start None items) e

    pub answer_found : (z : Result T ParseFault) → ReadsTokens r text tokens z → IfOk z (λ t. SpellsWithin IsOne items t)
    answer_found (Ok t) p = whole_now t p
    answer_found (Err e) p = tt

    pub answer_only : (z : Result T ParseFault) → ReadsTokens r text tokens z → (t : T) → SpellsWithin IsOne items t → FindsFormula z t
    answer_only (Ok u) p t sp =
        let w = whole_reading text 0 0 r.start tokens u p in
        let f : outcome_by r most_parts r.start items ≡ found t = d.finds most_parts items t sp.0 in
        let g : outcome_by r most_parts r.start items ≡ found u = w.runs in
        cc
    answer_only (Err (fault.Unexpected i)) p t sp =
        let w = halted text 0 0 r.start tokens i p in
        let f : outcome_by r most_parts r.start items ≡ found t = d.finds most_parts items t sp.0 in
        let g : outcome_by r most_parts r.start items ≡ refused (drop w.k items) = w.within in
        cc
    answer_only (Err (fault.TooLarge i)) p t sp =
        let w = passed_now i p in
        let f : outcome_by r most_parts r.start items ≡ found t = d.finds most_parts items t sp.0 in
        elim w.why [
          | inl large' ↦ (let whole' : first_large_from 0 0 items ≡ Some i = large_front 0 0 (suc w.k) items i large' in let clear : first_large_from 0 0 items ≡ None = sp.1 in cc)
          | inr full' ↦ (let g : outcome_by r most_parts r.start items ≡ refused (drop w.k items) = full'.0 in cc)
        ]
    answer_only (Err fault.OutOfMemory) p t sp = tt

    pub answer_fault : (z : Result T ParseFault) → ReadsTokens r text tokens z → IfErr z (λ fault. IsFaultOf IsOne items fault)
    answer_fault (Ok t) p = tt
    answer_fault (Err fault.OutOfMemory) p = tt
    answer_fault (Err (fault.Unexpected i)) p =
        let w = halted text 0 0 r.start tokens i p in
        let same : w.k ≡ i = omega (arith, w.is) in
        let next : suc w.k ≡ i + 1 = omega (arith, w.is) in
        let short : i ≤ length items = omega (arith, w.short, same) in (
          short,
          (unexpected d most_parts items i short (subst (λ k. outcome_by r most_parts r.start items ≡ refused (drop k items)) same w.within)).before,
          unexpected d None items i short (subst (λ k. outcome_by r None r.start items ≡ refused (drop k items)) same w.plain),
          subst (λ k. first_large_from 0 0 (take k items) ≡ None) next w.clear,
        )
    answer_fault (Err (fault.TooLarge i)) p =
        let w = passed_now i p in
        let same : w.k ≡ i = omega (arith, w.is) in
        let next : suc w.k ≡ i + 1 = omega (arith, w.is) in
        let inside : i < length items = omega (arith, w.inside, same) in (
          inside,
          subst (λ k. BeginsOne (IsOne most_parts) (take k items)) same (walk_continues most_parts items w.k w.before),
          subst (λ k. first_large_from 0 0 (take k items) ≡ None) same w.clear,
          elim w.why [
            | inl large' ↦ inl (subst (λ k. first_large_from 0 0 (take k items) ≡ Some i) next large')
            | inr full' ↦ inr (
              subst (λ k. BeginsOne (IsOne None) (take k items)) next (walk_continues None items (suc w.k) full'.1),
              (unexpected d most_parts items i (omega (arith, inside)) (subst (λ k. outcome_by r most_parts r.start items ≡ refused (drop k items)) same full'.0)).there inside,
            )
          ],
        )
