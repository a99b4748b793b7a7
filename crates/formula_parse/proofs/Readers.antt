-- What holds of each reader of a grammar: where it stops, and that it reads each sentence in one way.
use Rattle.std.proofs.Common.{◌≡◌, ℕ, ◌+◌, ◌-◌, ◌<◌, ◌≤◌, List, [], ◌∷◌, ◌++◌, Bool, true, false, cond, Option, Some, None, ◌⊎◌, inl, inr, refl, ap, sym, ◌∙◌, subst, arith, length, take, drop, length-append, length-drop, take_at, append_assoc, nat_lt}
use Rattle.std.specs.Option.{option_map_or}
use Rattle.std.proofs.lemmas.List.{drop_at, take-append-drop, take-take}
use Rattle.std.proofs.lemmas.Bool.Decides.{nat_tests}
use Rattle.std.proofs.Math.Seq.{take-append-add}
use Rattle.math_grammar.specs.Tokens.{Item}
use Rattle.formula_parse.specs.Faults.{BeginsOne, IsUnexpectedIn}
use Rattle.formula_parse.specs.Limits.{most_parts}
use Rattle.formula_parse.specs.PrivateReaders.{TokenReader}
use Rattle.formula_parse.proofs.Outcomes.{ReadOutcome, outcome_by, found, refused}

-- what a test of an option came to
pub option_ways : {A B : Type 0} {f : A → B} {d z : B} (o : Option A) → option_map_or f o d ≡ z → ((a : A) × (o ≡ Some a) × (f a ≡ z)) ⊎ ((o ≡ None) × (d ≡ z))
option_ways None e = inr (refl, e)
option_ways (Some a) e = inl (a, refl, e)

-- what is left of a step within the limit
abbrev pub unless_full : {S : Type 0} → (S → Bool) → Option S → Option S
unless_full is_full None = None
unless_full is_full (Some st) = cond (is_full st) None (Some st)

-- The reader reads what the grammar says. IsRight limit s0 st rest: the state is right between what was read of the tokens s0 and the rest.
pub record ReadsGrammar {S T : Type 0} (r : TokenReader S T) (IsOne : Option ℕ → List Item → T → Type 0) : Type 1 where
  pub IsRight : Option ℕ → List Item → S → List Item → Type 0
  pub at_start : (limit : Option ℕ) (s : List Item) → IsRight limit s r.start s
  pub at_step : (limit : Option ℕ) (s0 rest : List Item) (st : S) (x : Item) (new : S) → IsRight limit s0 st (x ∷ rest) → r.step limit st x ≡ Some new → IsRight limit s0 new rest
  pub at_end : (limit : Option ℕ) (s0 : List Item) (st : S) (t : T) → IsRight limit s0 st [] → r.ended st ≡ Some t → IsOne limit s0 t
  -- from each right state the end can be reached
  pub leads : (limit : Option ℕ) (s0 rest : List Item) (st : S) → IsRight limit s0 st rest → (more : List Item) × (t : T) × (outcome_by r limit st more ≡ found t)
  pub finds : (limit : Option ℕ) (s : List Item) (t : T) → IsOne limit s t → outcome_by r limit r.start s ≡ found t
  -- a step within the limit is the step without it, unless that leads to a part too many
  pub limited : (st : S) (x : Item) → r.step most_parts st x ≡ unless_full r.is_full (r.step None st x)

module _ {S T : Type 0} {r : TokenReader S T} {IsOne : Option ℕ → List Item → T → Type 0} (d : ReadsGrammar r IsOne) where
  found_right : (limit : Option ℕ) (s0 : List Item) (st : S) (rest : List Item) (t : T) → d.IsRight limit s0 st rest → outcome_by r limit st rest ≡ found t → IsOne limit s0 t
  found_right limit s0 st [] t ok e =
      elim (option_ways (r.ended st) e) [ inl w ↦ (let e' : w.0 ≡ t = cc in d.at_end limit s0 st t ok (w.1 ∙ ap Some e')) | inr n ↦ cc ]
  found_right limit s0 st (x ∷ rest) t ok e =
      elim (option_ways (r.step limit st x) e) [ inl w ↦ found_right limit s0 w.0 rest t (d.at_step limit s0 rest st x w.0 ok w.1) w.2 | inr n ↦ cc ]

  -- what is found is a sentence
  pub found_one : (limit : Option ℕ) (s : List Item) (t : T) → outcome_by r limit r.start s ≡ found t → IsOne limit s t
  found_one limit s t e = found_right limit s r.start s t (d.at_start limit s) e

  -- a sentence is read in one way
  pub one_value : (limit : Option ℕ) (s : List Item) (t u : T) → IsOne limit s t → IsOne limit s u → t ≡ u
  one_value limit s t u a b = let x = d.finds limit s t a in let y = d.finds limit s u b in cc

  -- where it stops: what it read leads to a state that refuses the next token, whatever follows it
  record Halts (limit : Option ℕ) (s0 : List Item) (start : S) (s rest : List Item) : Type 0 where
    read : List Item
    whole : s ≡ read ++ rest
    st : S
    right : d.IsRight limit s0 st rest
    same : (more : List Item) → outcome_by r limit start (read ++ more) ≡ outcome_by r limit st more
    refuses : (t : T) (more : List Item) → outcome_by r limit st (take 1 rest ++ more) ≡ found t → 0 < length rest → ⊥

  halts : (limit : Option ℕ) (s0 : List Item) (start : S) (s rest : List Item) → d.IsRight limit s0 start s → outcome_by r limit start s ≡ refused rest → Halts limit s0 start s rest
  halts limit s0 start [] rest ok e =
      let none : [] ≡ rest = elim (option_ways (r.ended start) e) [ inl w ↦ cc | inr n ↦ cc ] in
      record { read = []; whole = none; st = start; right = subst (λ z. d.IsRight limit s0 start z) none ok; same = λ more. refl; refuses = λ t more _ b. absurd (omega (arith, ap length none)) }
  halts limit s0 start (x ∷ s) rest ok e =
      elim (option_ways (r.step limit start x) e) [
        | inl w ↦ (
            let next : Halts limit s0 w.0 s rest = halts limit s0 w.0 s rest (d.at_step limit s0 s start x w.0 ok w.1) w.2 in
            record {
              read = x ∷ next.read;
              whole = ap (λ z. x ∷ z) next.whole;
              st = next.st;
              right = next.right;
              same = λ more. rw w.1 (next.same more);
              refuses = next.refuses;
            })
        | inr n ↦ (
            let here : x ∷ s ≡ rest = cc in
            record {
              read = [];
              whole = here;
              st = start;
              right = subst (λ z. d.IsRight limit s0 start z) here ok;
              same = λ more. refl;
              refuses = λ t more f b. (let f' : outcome_by r limit start (x ∷ more) ≡ found t = rw (← here) at f in let n' : r.step limit start x ≡ None = n.0 in elim (option_ways (r.step limit start x) f') [ inl v ↦ cc | inr v ↦ cc ]);
            })
      ]

  -- the place where it stops is the first one that no sentence goes on at
  pub unexpected : (limit : Option ℕ) (s : List Item) (i : ℕ) → i ≤ length s → outcome_by r limit r.start s ≡ refused (drop i s) → IsUnexpectedIn (IsOne limit) s i
  unexpected limit s i short e =
      let stop : Halts limit s r.start s (drop i s) = halts limit s r.start s (drop i s) (d.at_start limit s) e in
      let a = d.leads limit s (drop i s) stop.st stop.right in
      let rest : length (drop i s) ≡ length s - i = length-drop i s in
      let size : length stop.read ≡ i = omega (arith, rest, length-append stop.read (drop i s), ap length stop.whole) in
      let front : take i s ≡ stop.read = ap (λ l. take i l) stop.whole ∙ take_at stop.read (drop i s) i size in
      let longer : take (i + 1) s ≡ stop.read ++ take 1 (drop i s) =
      ap (λ l. take (i + 1) l) stop.whole ∙ ap (λ n. take (n + 1) (stop.read ++ drop i s)) (sym size) ∙ take-append-add stop.read (drop i s) 1 in
      record {
        before = (a.0, a.1, found_one limit (take i s ++ a.0) a.1 (rw front (stop.same a.0 ∙ a.2)));
        there = λ inside c. (
            let f : outcome_by r limit r.start (take (i + 1) s ++ c.0) ≡ found c.1 = d.finds limit (take (i + 1) s ++ c.0) c.1 c.2 in
            let same : outcome_by r limit r.start ((stop.read ++ take 1 (drop i s)) ++ c.0) ≡ outcome_by r limit stop.st (take 1 (drop i s) ++ c.0) =
            ap (λ l. outcome_by r limit r.start l) (append_assoc stop.read (take 1 (drop i s)) c.0) ∙ stop.same (take 1 (drop i s) ++ c.0) in
            stop.refuses c.1 c.0 (sym same ∙ ap (λ l. outcome_by r limit r.start (l ++ c.0)) (sym longer) ∙ f) (omega (arith, rest)));
        at_end = λ at t sp. (let f : outcome_by r limit r.start s ≡ found t = d.finds limit s t sp in cc);
      }

  -- tokens are a sentence, or have a first fault
  pub decided : (limit : Option ℕ) (s : List Item) → ((t : T) × IsOne limit s t) ⊎ ((i : ℕ) × (i ≤ length s) × IsUnexpectedIn (IsOne limit) s i)
  decided limit s = go (outcome_by r limit r.start s) refl
    where
      go : (o : ReadOutcome T) → outcome_by r limit r.start s ≡ o → ((t : T) × IsOne limit s t) ⊎ ((i : ℕ) × (i ≤ length s) × IsUnexpectedIn (IsOne limit) s i)
      go (found t) e = inl (t, found_one limit s t e)
      go (refused rest) e =
          let stop : Halts limit s r.start s rest = halts limit s r.start s rest (d.at_start limit s) e in
          let size : length s ≡ length stop.read + length rest = ap length stop.whole ∙ length-append stop.read rest in
          let end : drop (length stop.read) s ≡ rest = ap (λ l. drop (length stop.read) l) stop.whole ∙ drop_at stop.read rest (length stop.read) refl in
          let short : length stop.read ≤ length s = omega (arith, size) in
          inr (length stop.read, short, unexpected limit s (length stop.read) short (e ∙ ap refused (sym end)))

  -- what is read within the limit of parts is read without it
  found_looser : (st : S) (s : List Item) (t : T) → outcome_by r most_parts st s ≡ found t → outcome_by r None st s ≡ found t
  found_looser st [] t e = e
  found_looser st (x ∷ s) t e =
      go (r.step None st x) (sym (ap (λ o. option_map_or (λ after. outcome_by r most_parts after s) o (refused (x ∷ s))) (d.limited st x)) ∙ e) (λ next. found_looser next s t)
    where
      go : (o : Option S) → option_map_or (λ after. outcome_by r most_parts after s) (unless_full r.is_full o) (refused (x ∷ s)) ≡ found t →
          ((next : S) → outcome_by r most_parts next s ≡ found t → outcome_by r None next s ≡ found t) → option_map_or (λ after. outcome_by r None after s) o (refused (x ∷ s)) ≡ found t
      go None f again = cc
      go (Some next) f again = lean (r.is_full next) f
        where
          lean : (v : Bool) → option_map_or (λ after. outcome_by r most_parts after s) (cond v None (Some next)) (refused (x ∷ s)) ≡ found t → outcome_by r None next s ≡ found t
          lean true g = cc
          lean false g = again next g

  pub looser : (s : List Item) (t : T) → IsOne most_parts s t → IsOne None s t
  looser s t k = found_one None s t (found_looser r.start s t (d.finds most_parts s t k))

-- the first fault is one, whatever is read
module _ {K T : Type 0} (IsOne : List K → T → Type 0) where
  -- what begins a sentence at a later place begins one at an earlier place
  earlier : (s : List K) (i j : ℕ) → i < j → j ≤ length s → BeginsOne IsOne (take j s) → BeginsOne IsOne (take (i + 1) s)
  earlier s i j less short c =
      let split : take (i + 1) (take j s) ++ drop (i + 1) (take j s) ≡ take j s = take-append-drop (i + 1) (take j s) in
      let front : take (i + 1) (take j s) ≡ take (i + 1) s = take-take (i + 1) j s (omega arith) in
      let whole : take (i + 1) s ++ (drop (i + 1) (take j s) ++ c.0) ≡ take j s ++ c.0 =
      sym (append_assoc (take (i + 1) s) (drop (i + 1) (take j s)) c.0) ∙ ap (λ l. (l ++ drop (i + 1) (take j s)) ++ c.0) (sym front) ∙ ap (λ l. l ++ c.0) split in
      (drop (i + 1) (take j s) ++ c.0, c.1, subst (λ l. IsOne l c.1) (sym whole) c.2)

  pub one_place : (s : List K) (i j : ℕ) → i ≤ length s → j ≤ length s → IsUnexpectedIn IsOne s i → IsUnexpectedIn IsOne s j → i ≡ j
  one_place s i j a b x y = go (nat_lt i j) refl (nat_lt j i) refl
    where
      go : (v : Bool) → nat_lt i j ≡ v → (w : Bool) → nat_lt j i ≡ w → i ≡ j
      go true e w f =
          let less : i < j = grind (arith, nat_tests) in
          absurd (x.there (omega (arith, less, b)) (earlier s i j less b y.before))
      go false e true f =
          let less : j < i = grind (arith, nat_tests) in
          absurd (y.there (omega (arith, less, a)) (earlier s j i less a x.before))
      go false e false f = grind (arith, nat_tests)
