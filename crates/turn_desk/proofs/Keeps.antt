-- Each step at the desk keeps the rule.
use Rattle.std.proofs.Common.{◌≡◌, ◌≢◌, ◌⊎◌, ℕ, zero, suc, ◌+◌, ◌*◌, ◌%◌, ◌^◌, ◌<◌, ◌≤◌, eqb, cond, Bool, true, false, List, [], ◌∷◌, ◌++◌, length, get_or, set, sym, refl, ap, ◌∙◌, subst, inl, inr, ⊎_elim, arith, length-set, get_or-set_same, length-append, eq-eqb, ne_eqb, lt-ltb, le-ltb, Option, Some, None}
use Rattle.std.proofs.lemmas.Bool.{true≢false, false_from_ne_true}
use Rattle.std.proofs.lemmas.List.{append-nil}
use mathlib.Core.Logic.{dite}
use mathlib.Core.Option.{some, none, some-injective, some-ne-none}
use native.Mathlib.Decide.{ℕ_discrete, dec_le}
use lib.ListN.{get_elem?}
use lib.Seq.{set-get_or}
use prog.Atomic.{either}
use Rattle.atomic_table.specs.Table.{State, Me, step, Act, keeps, takes as takes_slot, gives as gives_slot, Valid, carried_after, stepped, put_back, rest, Allows, Splits, Joins, opening, Final, Seen}
use Rattle.atomic_table.proofs.Lists.{at_set, set_again, set_here, set_else, at_snoc, at_longer, exchanged}
use Rattle.turn_desk.specs.declared.view.View.{View}
use Rattle.turn_desk.specs.Log.{IsPrefix, entries_of, Grows, HasSeen, longer, shorter, Joined, JoinedStay, AllJoined, NoneFrom}
use Rattle.turn_desk.specs.Rule.{Turn, log_of_turns, Truly, odd, Orderly}
use Rattle.turn_desk.specs.Plays.{first_view, at_turn, after_turn, maker, newcomer, joined_view, spent_view, took, gave, learned}
use Rattle.turn_desk.proofs.Logs.{at_inside, begins_all, begins_none, begins_more, entries_same, grows_by, entries_between, entries_none, rest_quiet, quiet_empty, begins_other, joined_new}
use Rattle.std.specs.List.{cons_option}
use Rattle.std.proofs.lemmas.List.Elements.{filter_map-append}

module _ {E B : Type 0} (chair_of : E → ℕ) (origin : B) where
  -- what a seat says stays true where entries of others are added
  pub still : (log added : List E) (made holder made' holder' : ℕ) (busy busy' : Bool) (seat_of seat_of' : ℕ → ℕ) (j : ℕ) (v : View E B)
      → Truly chair_of origin log made holder busy seat_of j v
      → ((k : ℕ) → k < made → seat_of k ≡ j → (k < made') × (seat_of' k ≡ j) × (entries_of chair_of k added ≡ []))
      → (v.acting ≡ true → (busy' ≡ true) × (j ≡ holder') × (added ≡ []))
      → (v.number ≡ 0 → made' ≡ made)
      → Truly chair_of origin (log ++ added) made' holder' busy' seat_of' j v
  still log added made holder made' holder' busy busy' seat_of seat_of' j v t mine turn same =
      let me = mine v.number t.number.0 t.number.1 in
      record {
        number = (me.0, me.1);
        seen = begins_more v.seen log added t.seen;
        before = t.before;
        told = t.told;
        own = entries_same chair_of v.number log added me.2 ∙ t.own;
        base = t.base;
        acting = λ a. let u = turn a in (u.0, u.1, (t.acting a).2 ∙ (sym (append-nil log) ∙ ap (λ l. log ++ l) (sym u.2)));
        joined = λ k own at. let u = t.joined k own at in let w = mine k u.0 u.1 in (w.0, w.1, u.2, entries_same chair_of k log added w.2 ∙ u.3, u.4);
        alone = t.alone;
        made = λ z. t.made z ∙ sym (same z);
      }

  -- the seats' views, after the view of one of them has changed
  pub seats_still : (K : ℕ → View E B → Type 0) (vs : List (View E B)) (me : ℕ) (w : View E B) → (w.seated ≡ true → K me w) → ((j : ℕ) (v : View E B) → j ≢ me → get_elem? vs j ≡ some v → v.seated ≡ true → K j v)
      → (j : ℕ) (v : View E B) → get_elem? (set vs me w) j ≡ some v → v.seated ≡ true → K j v
  seats_still K vs me w mine others j v e = ⊎_elim (λ (t : (j ≡ me) × (w ≡ v)). subst (λ (x : ℕ × View E B). x.1.seated ≡ true → K x.0 x.1) (λ i. (sym t.0 i, t.1 i)) mine)
      (λ (t : (j ≢ me) × (get_elem? vs j ≡ some v)). others j v t.0 t.1) (at_set vs me j w v e)

at_rest : (b : Bool) (n w : ℕ) → w ≡ 2 * n + odd b → w % 2 ≡ 0 → b ≡ false
at_rest true n w is even = absurd (omega arith)
at_rest false n w is even = refl

at_work : (b : Bool) (n w : ℕ) → w ≡ 2 * n + odd b → w % 2 ≡ 1 → b ≡ true
at_work true n w is uneven = refl
at_work false n w is uneven = absurd (omega arith)

even_word : (b : Bool) (n w : ℕ) → w ≡ 2 * n + odd b → b ≡ false → w ≡ 2 * n
even_word b n w is rest = let e : odd b ≡ 0 = ap odd rest in omega arith

odd_word : (b : Bool) (n w : ℕ) → w ≡ 2 * n + odd b → b ≡ true → w ≡ 2 * n + 1
odd_word b n w is work = let e : odd b ≡ 1 = ap odd work in omega arith

-- the seat of each chair, where the chair k has moved to the seat j
abbrev reseat : (ℕ → ℕ) → ℕ → ℕ → ℕ → ℕ
reseat f k j n = cond (eqb n k) j (f n)

reseat_here : (f : ℕ → ℕ) (k j n : ℕ) → n ≡ k → reseat f k j n ≡ j
reseat_here f k j n is = ap (λ b. cond b j (f n)) (eq-eqb n k is)

reseat_else : (f : ℕ → ℕ) (k j n : ℕ) → n ≢ k → reseat f k j n ≡ f n
reseat_else f k j n not = ap (λ b. cond b j (f n)) (ne_eqb n k not)

joined_none : {E : Type 0} (k : ℕ) (own : List E) → Joined [] k own → ⊥
joined_none k own h = some-ne-none (k, own) (sym h.1)

joined_snoc : {E : Type 0} (js : List (ℕ × List E)) (x : ℕ × List E) (k : ℕ) (own : List E) → Joined (js ++ x ∷ []) k own → Joined js k own ⊎ (x ≡ (k, own))
joined_snoc js x k own h = ⊎_elim (λ t. inl (h.0, t)) inr (at_snoc js x (k, own) h.0 h.1)

at_new : {A : Type 0} (l : List A) (a b : A) (j : ℕ) → get_elem? (l ++ a ∷ []) j ≡ some b → (get_elem? l j ≡ some b) ⊎ ((j ≡ length l) × (a ≡ b))
at_new [] a b zero e = inr (refl, some-injective a b e)
at_new [] a b (suc j) e = absurd (some-ne-none b (sym e))
at_new (x ∷ xs) a b zero e = inl e
at_new (x ∷ xs) a b (suc j) e = ⊎_elim inl (λ t. inr (ap suc t.0, t.1)) (at_new xs a b j e)

longer_is : {E : Type 0} (xs ys : List E) → ((length xs < length ys) × (longer xs ys ≡ ys) × (shorter xs ys ≡ xs)) ⊎ ((length ys ≤ length xs) × (longer xs ys ≡ xs) × (shorter xs ys ≡ ys))
longer_is xs ys = dite (dec_le (length ys) (length xs))
    (λ le. inr (le, ap (λ b. cond b ys xs) (le-ltb (length xs) (length ys) le), ap (λ b. cond b xs ys) (le-ltb (length xs) (length ys) le)))
    (λ gt. let lt : length xs < length ys = omega arith in inl (lt, ap (λ b. cond b ys xs) (lt-ltb (length xs) (length ys) lt), ap (λ b. cond b xs ys) (lt-ltb (length xs) (length ys) lt)))

abbrev some_or : {A : Type 0} → A → Option A → A
some_or d (Some a) = a
some_or d None = d

abbrev held_or : {V : Type 0} → V → List (ℕ × Option V) → V
held_or d [] = d
held_or d (x ∷ xs) = elim x.1 [ Some v ↦ v | None ↦ d ]

empty_after : {V : Type 0} (c : List (ℕ × Option V)) (y : V) → c ≡ (0, Some y) ∷ [] → rest c ≡ []
empty_after c y is = ap rest is

module _ {V E B : Type 0} (log_of : V → List E) (chair_of : E → ℕ) (base_of : V → B) (origin : B) where
  abbrev Rule : State (Option V) (View E B) → Type 0
  Rule = Orderly log_of chair_of base_of origin

  abbrev Sat : Type 0
  Sat = Me (Option V) (View E B)

  abbrev Goes : State (Option V) (View E B) → ℕ → Sat → (ℕ → Sat → Type 0) → ℕ → Type 0
  Goes s id m then k = (w : View E B) × (a : Act (Option V)) × Valid s.homes m.1 a × Rule (stepped s 0 k id m.1 w a) × then (get_or s.words 0 0) (w, carried_after m.1 a)

  -- a load that changes nothing
  unmoved : (s : State (Option V) (View E B)) (o : Rule s) (id : ℕ) (m : Sat) → get_elem? s.views id ≡ some m.0 → Rule (stepped s 0 (get_or s.words 0 0) id m.1 m.0 keeps)
  unmoved s o id m at = subst (λ (x : List ℕ × List (View E B)). Rule record { words = x.0; homes = s.homes; views = x.1 }) (λ i. (sym (set-get_or s.words 0 0) i, sym (set_again s.views id m.0 at) i)) o

  pub takes : (slots id : ℕ) (m : Sat) (old : ℕ) → m.0.seated ≡ true → m.1 ≡ [] → old % 2 ≡ 0 → old + 2 < 2 ^ 64
      → Allows Rule slots id m 0 (λ n. either (eqb n old) (old + 1) n) (took log_of chair_of base_of (step slots 0 old (old + 1) none) m)
  takes slots id m old seated empty even small s o sized at fits =
      exchanged (get_or s.words 0 0) old (old + 1) (Goes s id m (took log_of chair_of base_of (step slots 0 old (old + 1) none) m))
      (λ is.
      let v : View E B = m.0 in
      let rest : o.busy ≡ false = at_rest o.busy (length o.turns) (get_or s.words 0 0) o.word (ap (λ (n : ℕ). n % 2) is ∙ even) in
      let home = o.home rest in
      let value : V = home.0 in
      let log : List E = log_of_turns o.turns in
      let w : View E B = at_turn v (log_of value) in
      let mine = o.each_seat id v at seated in
      let before = even_word o.busy (length o.turns) (get_or s.words 0 0) o.word rest in
      let now : get_or (set s.words 0 (old + 1)) 0 0 ≡ old + 1 = get_or-set_same s.words 0 (old + 1) 0 (omega (arith, o.wide)) in (
        w,
        takes_slot 0 (Some value),
        home.1,
        record {
          turns = o.turns;
          busy = true;
          holder = id;
          made = o.made;
          seat_of = o.seat_of;
          wide = length-set s.words 0 (old + 1) ∙ o.wide;
          word = omega (arith, now, before, is);
          home = λ b. absurd (true≢false b);
          turn = λ _. (omega (arith, now, small), (w, set_here s.views id w (at_inside s.views id v at), seated, refl));
          each_seat = seats_still chair_of origin (Truly chair_of origin log o.made id true o.seat_of) s.views id w
              (λ _. record {
                number = mine.number;
                seen = subst (λ l. IsPrefix l log) (sym home.2) (begins_all log);
                before = (begins_all (log_of value), refl);
                told = begins_none (log_of value);
                own = ap (entries_of chair_of v.number) (sym home.2);
                base = mine.base;
                acting = λ _. (refl, refl, home.2);
                joined = λ k own there. let u = mine.joined k own there in (u.0, u.1, u.2, u.3, ap (entries_of chair_of k) home.2 ∙ u.3);
                alone = mine.alone;
                made = mine.made;
              })
              (λ j u apart there sits. let t = o.each_seat j u there sits in
              subst (λ l. Truly chair_of origin l o.made id true o.seat_of j u) (append-nil log)
              (still chair_of origin log [] o.made o.holder o.made id o.busy true o.seat_of o.seat_of j u t
              (λ k below is_mine. (below, is_mine, refl))
              (λ a. absurd (true≢false (sym (t.acting a).0 ∙ rest)))
              (λ _. refl)));
          unmade = o.unmade;
        },
        (
          (λ _. (
            value,
            (λ i. (w, (0, Some value) ∷ empty i)),
            (subst (IsPrefix v.seen) (sym home.2) mine.seen, ap (entries_of chair_of v.number) home.2 ∙ mine.own),
            mine.base ∙ ap Some (sym home.3),
          )),
          λ not. absurd (not is),
        ),
      ))
      (λ not. (m.0, keeps, tt, unmoved s o id m at, ((λ is. absurd (not is)), λ _. refl)))

  still_home : (s : State (Option V) (View E B)) (c : List (ℕ × Option V)) (y : V) → 0 < length s.homes → c ≡ (0, Some y) ∷ [] → get_elem? (put_back s.homes c) 0 ≡ some (some (Some y))
  still_home s c y inside is = subst (λ l. get_elem? (put_back s.homes l) 0 ≡ some (some (Some y))) (sym is) (set_here s.homes 0 (some (Some y)) inside)

  pub gives : (slots id : ℕ) (m : Sat) (y : V) → 0 < slots → m.0.seated ≡ true → m.0.acting ≡ true → m.1 ≡ (0, Some y) ∷ [] → Grows chair_of m.0.number m.0.seen (log_of y) → m.0.base ≡ Some (base_of y)
      → Allows Rule slots id m 0 (λ n. (n + 1) % 2 ^ 64) (gave log_of chair_of base_of (step slots 0 1 0 none) m)
  gives slots id m y inside seated acting carries grows same s o sized at fits =
      let v : View E B = m.0 in
      let mine = o.each_seat id v at seated in
      let turn = mine.acting acting in
      let small = (o.turn turn.0).0 in
      let before = odd_word o.busy (length o.turns) (get_or s.words 0 0) o.word turn.0 in
      let log : List E = log_of_turns o.turns in
      let g = grows_by chair_of v.number v.seen (log_of y) grows in
      let added : List E = cons_option g.0 [] in
      let turns : List (Turn E) = o.turns ++ (v.number, g.0) ∷ [] in
      let longer : log_of_turns turns ≡ log ++ added = filter_map-append (λ (t : Turn E). t.1) o.turns ((v.number, g.0) ∷ []) in
      let now : log_of y ≡ log ++ added = g.1 ∙ ap (λ l. l ++ added) turn.2 in
      let new : ℕ = (get_or s.words 0 0 + 1) % 2 ^ 64 in
      let there : get_or (set s.words 0 new) 0 0 ≡ new = get_or-set_same s.words 0 new 0 (omega (arith, o.wide)) in
      let w : View E B = after_turn v (log_of y) in
      let other : (k : ℕ) → k ≢ v.number → entries_of chair_of k (log ++ added) ≡ entries_of chair_of k log = λ k apart. entries_same chair_of k log added (g.2 k apart) in
      let full : (k : ℕ) (own : List E) → Joined v.joined k own → entries_of chair_of k (log_of y) ≡ own = λ k own in_it. let u = mine.joined k own in_it in ap (entries_of chair_of k) now ∙ (other k u.2 ∙ u.3) in (
        w,
        gives_slot,
        tt,
        record {
          turns = turns;
          busy = false;
          holder = id;
          made = o.made;
          seat_of = o.seat_of;
          wide = length-set s.words 0 new ∙ o.wide;
          word = omega (arith, there, before, small, length-append o.turns ((v.number, g.0) ∷ []));
          home = λ _. (y, still_home s m.1 y (omega (arith, sized, inside)) carries, now ∙ sym longer, ap (some_or (base_of y)) (sym same ∙ mine.base));
          turn = λ b. absurd (true≢false (sym b));
          each_seat = subst (λ l. (j : ℕ) (u : View E B) → get_elem? (set s.views id w) j ≡ some u → u.seated ≡ true → Truly chair_of origin l o.made id false o.seat_of j u) (sym longer)
              (seats_still chair_of origin (Truly chair_of origin (log ++ added) o.made id false o.seat_of) s.views id w
              (λ _. record {
                number = mine.number;
                seen = subst (λ l. IsPrefix l (log ++ added)) (sym now) (begins_all (log ++ added));
                before = (begins_all (log_of y), refl);
                told = begins_none (log_of y);
                own = ap (entries_of chair_of v.number) (sym now);
                base = mine.base;
                acting = λ b. absurd (true≢false (sym b));
                joined = λ k own in_it. let u = mine.joined k own in_it in (u.0, u.1, u.2, other k u.2 ∙ u.3, full k own in_it);
                alone = mine.alone;
                made = mine.made;
              })
              (λ j u apart in_it sits. let t = o.each_seat j u in_it sits in
              still chair_of origin log added o.made o.holder o.made id o.busy false o.seat_of o.seat_of j u t
              (λ k below is_mine. (below, is_mine, g.2 k (λ (e : k ≡ v.number). apart (sym is_mine ∙ (ap o.seat_of e ∙ mine.number.1)))))
              (λ a. absurd (apart ((t.acting a).1 ∙ sym turn.1)))
              (λ _. refl)));
          unmade = λ k above. ap (entries_of chair_of k) longer ∙ (other k (λ e. let n = mine.number.0 in omega arith) ∙ o.unmade k above);
        },
        (λ value is. let e : log_of y ≡ log_of value = ap (λ l. log_of (held_or y l)) (sym carries ∙ is) in (
          (λ i. (after_turn v (e i), empty_after m.1 y carries i)),
          λ k own in_it. ap (entries_of chair_of k) (sym e) ∙ full k own in_it,
        )),
      )

  -- the seat that has the turn is another than one that has not
  holder_apart : (s : State (Option V) (View E B)) (o : Rule s) (id : ℕ) (v : View E B) → get_elem? s.views id ≡ some v → v.acting ≡ false → o.busy ≡ true → o.holder ≢ id
  holder_apart s o id v at idle busy is = let t = (o.turn busy).1 in
      let same : t.0 ≡ v = some-injective t.0 v (sym t.1 ∙ (ap (get_elem? s.views) is ∙ at)) in
      true≢false (sym t.3 ∙ (ap (λ (u : View E B). u.acting) same ∙ idle))

  pub splits : (id : ℕ) (v : View E B) → v.seated ≡ true → v.number ≡ 0 → v.acting ≡ false → Splits Rule id v (maker v) (newcomer v)
  splits id v seated first idle s o at =
      let mine = o.each_seat id v at seated in
      let log : List E = log_of_turns o.turns in
      let w : View E B = maker v in
      let u : View E B = newcomer v in
      let made : v.made ≡ o.made = mine.made first in
      let seats : List (View E B) = set s.views id w in
      let new : ℕ = length seats in
      let f : ℕ → ℕ = reseat o.seat_of o.made new in
      let K : ℕ → View E B → Type 0 = Truly chair_of origin log (o.made + 1) o.holder o.busy f in
      let old : (k : ℕ) → k < o.made → f k ≡ o.seat_of k = λ k below. reseat_else o.seat_of o.made new k (λ e. omega arith) in
      record {
        turns = o.turns;
        busy = o.busy;
        holder = o.holder;
        made = o.made + 1;
        seat_of = f;
        wide = o.wide;
        word = o.word;
        home = o.home;
        turn = λ busy. let t = o.turn busy in (t.0, (t.1.0, at_longer seats (u ∷ []) o.holder t.1.0 (set_else s.views id o.holder w (holder_apart s o id v at idle busy) ∙ t.1.1), t.1.2, t.1.3));
        each_seat = λ j x e. ⊎_elim
            (λ (e : get_elem? seats j ≡ some x). seats_still chair_of origin K s.views id w
            (λ _. record {
              number = (omega (arith, mine.number.0), old v.number mine.number.0 ∙ mine.number.1);
              seen = mine.seen;
              before = mine.before;
              told = mine.told;
              own = mine.own;
              base = mine.base;
              acting = mine.acting;
              joined = λ k own there. let t = mine.joined k own there in (omega (arith, t.0), old k t.0 ∙ t.1, t.2, t.3, t.4);
              alone = mine.alone;
              made = λ _. omega (arith, made);
            })
            (λ j u apart there sits. let t = o.each_seat j u there sits in
            subst (λ l. Truly chair_of origin l (o.made + 1) o.holder o.busy f j u) (append-nil log)
            (still chair_of origin log [] o.made o.holder (o.made + 1) o.holder o.busy o.busy o.seat_of f j u t
            (λ k below is_mine. (omega arith, old k below ∙ is_mine, refl))
            (λ a. let p = t.acting a in (p.0, p.1, refl))
            (λ (z : u.number ≡ 0). absurd (apart (sym t.number.1 ∙ (ap o.seat_of (z ∙ sym first) ∙ mine.number.1))))))
            j x e)
            (λ (t : (j ≡ new) × (u ≡ x)). subst (λ (z : ℕ × View E B). z.1.seated ≡ true → K z.0 z.1) (λ i. (sym t.0 i, t.1 i)) (λ _. record {
              number = (omega (arith, made), reseat_here o.seat_of o.made new v.made made);
              seen = mine.seen;
              before = (begins_all v.seen, refl);
              told = begins_none v.seen;
              own = let none_yet = o.unmade v.made (omega (arith, made)) in none_yet ∙ sym (entries_none chair_of v.made v.seen log mine.seen none_yet);
              base = mine.base;
              acting = λ b. absurd (true≢false (sym b));
              joined = λ k own there. absurd (joined_none k own there);
              alone = λ _. refl;
              made = λ (z : v.made ≡ 0). absurd (omega (arith, made, mine.number.0));
            }))
            (at_new seats u x j e);
        unmade = λ k above. o.unmade k (omega arith);
      }

  pub learns : (slots id : ℕ) (m : Sat) → m.0.seated ≡ true → Allows Rule slots id m 0 (λ n. n) (learned log_of chair_of base_of (step slots 0 0 0 none) m)
  learns slots id m seated s o sized at fits = (
    m.0,
    keeps,
    tt,
    unmoved s o id m at,
    (let t = o.each_seat id m.0 at seated in (
      refl,
      t.before,
      t.told,
      (λ k own there. (t.joined k own there).4),
      λ first k above. entries_none chair_of k m.0.seen (log_of_turns o.turns) t.seen (o.unmade k (let e = t.made first in omega (arith, e))),
    )),
  )

  where_first : (x : View E B) (j : ℕ) (v : View E B) → get_elem? (x ∷ []) j ≡ some v → (j ≡ 0) × (x ≡ v)
  where_first x zero v e = (refl, some-injective x v e)
  where_first x (suc j) v e = absurd (some-ne-none v (sym e))

  only_first : (j : ℕ) (v : View E B) → get_elem? (first_view origin ∷ []) j ≡ some v → v.seated ≡ true → Truly chair_of origin [] 1 0 false (λ _. 0) j v
  only_first j v e = let t = where_first (first_view origin) j v e in
      subst (λ (z : ℕ × View E B). z.1.seated ≡ true → Truly chair_of origin [] 1 0 false (λ _. 0) z.0 z.1) (λ i. (sym t.0 i, t.1 i)) (λ _. record {
        number = (omega arith, refl);
        seen = begins_none [];
        before = (begins_none [], refl);
        told = begins_none [];
        own = refl;
        base = refl;
        acting = λ b. absurd (true≢false (sym b));
        joined = λ k own there. absurd (joined_none k own there);
        alone = λ _. refl;
        made = λ _. refl;
      })

  pub opens : (value : V) → log_of value ≡ [] → base_of value ≡ origin → Rule (opening (0 ∷ []) (Some value ∷ []) (first_view origin))
  opens value empty same = record {
    turns = [];
    busy = false;
    holder = 0;
    made = 1;
    seat_of = λ _. 0;
    wide = refl;
    word = refl;
    home = λ _. (value, refl, empty, same);
    turn = λ b. absurd (true≢false (sym b));
    each_seat = only_first;
    unmade = λ k above. refl;
  }

  pub joins : (id : ℕ) (v : View E B) (other : ℕ) (w : View E B) → v.seated ≡ true → v.number ≡ 0 → v.acting ≡ false → w.seated ≡ true → w.acting ≡ false
      → Joins Rule id v other w (joined_view chair_of v w) spent_view
  joins id v other w seated first idle seated' idle' s o at apart there' =
      let b : View E B = joined_view chair_of v w in
      let there : get_elem? s.views other ≡ some w = sym (set_else s.views id other b apart) ∙ there' in
      let mine = o.each_seat id v at seated in
      let theirs = o.each_seat other w there seated' in
      let log : List E = log_of_turns o.turns in
      let f : ℕ → ℕ = reseat o.seat_of w.number id in
      let K : ℕ → View E B → Type 0 = Truly chair_of origin log o.made o.holder o.busy f in
      let differ : w.number ≢ v.number = λ e. apart (sym theirs.number.1 ∙ (ap o.seat_of e ∙ mine.number.1)) in
      let own : List E = entries_of chair_of w.number w.seen in
      let kept : (k : ℕ) → o.seat_of k ≢ other → f k ≡ o.seat_of k = λ k n. reseat_else o.seat_of w.number id k (λ e. n (ap o.seat_of e ∙ theirs.number.1)) in
      let seats : List (View E B) = set s.views id b in
      let long : IsPrefix (longer v.seen w.seen) log = ⊎_elim (λ t. subst (λ l. IsPrefix l log) (sym t.1) theirs.seen) (λ t. subst (λ l. IsPrefix l log) (sym t.1) mine.seen) (longer_is v.seen w.seen) in
      let short : IsPrefix (shorter v.seen w.seen) (longer v.seen w.seen) = ⊎_elim
      (λ t. subst (λ (z : List E × List E). IsPrefix z.0 z.1) (λ i. (sym t.2 i, sym t.1 i)) (begins_other v.seen w.seen log mine.seen theirs.seen (omega arith)))
      (λ t. subst (λ (z : List E × List E). IsPrefix z.0 z.1) (λ i. (sym t.2 i, sym t.1 i)) (begins_other w.seen v.seen log theirs.seen mine.seen t.0)) (longer_is v.seen w.seen) in
      let later : IsPrefix v.seen (longer v.seen w.seen) = ⊎_elim (λ t. subst (IsPrefix v.seen) (sym t.1) (begins_other v.seen w.seen log mine.seen theirs.seen (omega arith))) (λ t. subst (IsPrefix v.seen) (sym t.1) (begins_all v.seen)) (longer_is v.seen w.seen) in
      let from_mine : (k : ℕ) → entries_of chair_of k log ≡ entries_of chair_of k v.seen → entries_of chair_of k (longer v.seen w.seen) ≡ entries_of chair_of k log = λ k e. ⊎_elim
      (λ t. ap (entries_of chair_of k) t.1 ∙ (entries_between chair_of k v.seen w.seen log (begins_other v.seen w.seen log mine.seen theirs.seen (omega arith)) theirs.seen e ∙ sym e))
      (λ t. ap (entries_of chair_of k) t.1 ∙ sym e) (longer_is v.seen w.seen) in
      let from_theirs : (k : ℕ) → entries_of chair_of k log ≡ entries_of chair_of k w.seen → entries_of chair_of k (longer v.seen w.seen) ≡ entries_of chair_of k log = λ k e. ⊎_elim
      (λ t. ap (entries_of chair_of k) t.1 ∙ sym e)
      (λ t. ap (entries_of chair_of k) t.1 ∙ (entries_between chair_of k w.seen v.seen log (begins_other w.seen v.seen log theirs.seen mine.seen t.0) mine.seen e ∙ sym e)) (longer_is v.seen w.seen) in
      record {
        turns = o.turns;
        busy = o.busy;
        holder = o.holder;
        made = o.made;
        seat_of = f;
        wide = o.wide;
        word = o.word;
        home = o.home;
        turn = λ busy. let t = o.turn busy in
            (t.0, (t.1.0, set_else seats other o.holder spent_view (holder_apart s o other w there idle' busy) ∙ (set_else s.views id o.holder b (holder_apart s o id v at idle busy) ∙ t.1.1), t.1.2, t.1.3));
        each_seat = seats_still chair_of origin K seats other spent_view (λ c. absurd (true≢false (sym c)))
            (λ j u far e sits. seats_still chair_of origin (λ i x. i ≢ other → K i x) s.views id b
            (λ _ _. record {
              number = (mine.number.0, kept v.number (λ c. apart (sym c ∙ mine.number.1)) ∙ mine.number.1);
              seen = long;
              before = (later, from_mine v.number mine.own ∙ mine.own);
              told = short;
              own = sym (from_mine v.number mine.own);
              base = mine.base;
              acting = λ c. absurd (true≢false (sym c ∙ idle));
              joined = λ k those in_it. ⊎_elim
                  (λ c. let t = mine.joined k those c in (t.0, kept k (λ z. apart (sym z ∙ t.1)) ∙ t.1, t.2, t.3, from_mine k (t.3 ∙ sym t.4) ∙ t.3))
                  (λ (c : (w.number, own) ≡ (k, those)). let n : w.number ≡ k = ap (λ (z : ℕ × List E). z.0) c in let l : own ≡ those = ap (λ (z : ℕ × List E). z.1) c in
                  subst (λ (z : ℕ × List E). (z.0 < o.made) × (f z.0 ≡ id) × (z.0 ≢ v.number) × (entries_of chair_of z.0 log ≡ z.1) × (entries_of chair_of z.0 (longer v.seen w.seen) ≡ z.1)) c
                  (theirs.number.0, reseat_here o.seat_of w.number id w.number refl, differ, theirs.own, from_theirs w.number theirs.own ∙ theirs.own))
                  (joined_snoc v.joined (w.number, own) k those in_it);
              alone = λ z. absurd (z first);
              made = mine.made;
            })
            (λ i x off in_it seated_too far. let t = o.each_seat i x in_it seated_too in
            subst (λ l. Truly chair_of origin l o.made o.holder o.busy f i x) (append-nil log)
            (still chair_of origin log [] o.made o.holder o.made o.holder o.busy o.busy o.seat_of f i x t
            (λ k below is_mine. (below, kept k (λ z. far (sym is_mine ∙ z)) ∙ is_mine, refl))
            (λ a. let p = t.acting a in (p.0, p.1, refl))
            (λ _. refl)))
            j u e sits far);
        unmade = o.unmade;
      }

  -- what chair 0 has seen after it took another in: all that both had seen, with all entries of both
  pub met : (v w u : View E B) → u ≡ joined_view chair_of v w → HasSeen chair_of u.number u.before u.seen → IsPrefix u.told u.seen → JoinedStay chair_of u.joined u.seen
      → HasSeen chair_of v.number v.seen u.seen × HasSeen chair_of w.number w.seen u.seen
  met v w u is own told stay =
      let own' : HasSeen chair_of v.number v.seen (longer v.seen w.seen) = subst (λ (x : View E B). HasSeen chair_of x.number x.before x.seen) is own in
      let told' : IsPrefix (shorter v.seen w.seen) (longer v.seen w.seen) = subst (λ (x : View E B). IsPrefix x.told x.seen) is told in
      let stay' = subst (λ (x : View E B). JoinedStay chair_of x.joined x.seen) is stay in
      let theirs : IsPrefix w.seen (longer v.seen w.seen) = ⊎_elim (λ t. subst (IsPrefix w.seen) (sym t.1) (begins_all w.seen)) (λ t. subst (λ l. IsPrefix l (longer v.seen w.seen)) t.2 told') (longer_is v.seen w.seen) in
      let kept : entries_of chair_of w.number (longer v.seen w.seen) ≡ entries_of chair_of w.number w.seen = stay' w.number (entries_of chair_of w.number w.seen) (joined_new v.joined w.number (entries_of chair_of w.number w.seen)) in
      subst (λ (x : View E B). HasSeen chair_of v.number v.seen x.seen × HasSeen chair_of w.number w.seen x.seen) (sym is) (own', (theirs, kept))

  rest_of_none : (k : ℕ) (xs ys : List E) → entries_of chair_of k (xs ++ ys) ≡ [] → entries_of chair_of k ys ≡ []
  rest_of_none k xs ys e = rest_quiet chair_of k xs ys (e ∙ sym (entries_none chair_of k xs (xs ++ ys) (ys, refl) e))

  -- what is known at the end of the value at home: chair 0 has seen its whole log
  pub record Settled (v : View E B) (value : V) : Type 0 where
    pub log : log_of value ≡ v.seen
    pub base : base_of value ≡ origin
    pub joined : JoinedStay chair_of v.joined (log_of value)
    pub unmade : NoneFrom chair_of v.made (log_of value)

  pub settles : (id : ℕ) (v : View E B) (ws : List ℕ) (xs : List (Option V)) → v.seated ≡ true → v.number ≡ 0 → v.acting ≡ false
      → AllJoined v.joined v.made
      → Final (Seen Rule id v) ws xs → (value : V) × (get_elem? xs 0 ≡ some (Some value)) × Settled v value
  settles id v ws xs seated first idle all final =
      let s : State (Option V) (View E B) = final.0 in
      let o : Rule s = final.1.0 in
      let at : get_elem? s.views id ≡ some v = final.1.1 in
      let mine = o.each_seat id v at seated in
      let log : List E = log_of_turns o.turns in
      let made : v.made ≡ o.made = mine.made first in
      let here : (k : ℕ) → k < o.made → (o.seat_of k ≡ id) × (entries_of chair_of k log ≡ entries_of chair_of k v.seen) = λ k below. dite (ℕ_discrete k 0)
      (λ zero_is. let e : k ≡ v.number = zero_is ∙ sym first in (ap o.seat_of e ∙ mine.number.1, ap (λ n. entries_of chair_of n log) e ∙ (mine.own ∙ ap (λ n. entries_of chair_of n v.seen) (sym e))))
      (λ more. let j = all k (omega arith) (omega (arith, made)) in let t = mine.joined k j.0 j.1 in (t.1, t.3 ∙ sym t.4)) in
      let rest : o.busy ≡ false = false_from_ne_true o.busy (λ busy. let t = (o.turn busy).1 in let n = o.each_seat o.holder t.0 t.1 t.2 in
      holder_apart s o id v at idle busy (sym n.number.1 ∙ (here t.0.number n.number.0).0)) in
      let home = o.home rest in
      let more = mine.seen in
      let quiet : (k : ℕ) → entries_of chair_of k more.0 ≡ [] = λ k. dite (dec_le o.made k)
      (λ le. rest_of_none k v.seen more.0 (sym (ap (entries_of chair_of k) more.1) ∙ o.unmade k le))
      (λ lt. rest_quiet chair_of k v.seen more.0 (sym (ap (entries_of chair_of k) more.1) ∙ (here k (omega arith)).1)) in
      let none_more : more.0 ≡ [] = quiet_empty chair_of more.0 quiet in
      let whole : log ≡ v.seen = more.1 ∙ (ap (λ l. v.seen ++ l) none_more ∙ append-nil v.seen) in
      let log_is : log_of home.0 ≡ log = home.2 in (
        home.0,
        final.4 0 (Some home.0) home.1,
        record {
          log = log_is ∙ whole;
          base = home.3;
          joined = λ k own there. ap (entries_of chair_of k) log_is ∙ (mine.joined k own there).3;
          unmade = λ k above. ap (entries_of chair_of k) log_is ∙ o.unmade k (omega (arith, made));
        },
      )

  -- the same of the value that was taken out
  pub settled : (id : ℕ) (v : View E B) (ws : List ℕ) (xs : List (Option V)) (value : V) → v.seated ≡ true → v.number ≡ 0 → v.acting ≡ false
      → AllJoined v.joined v.made
      → Final (Seen Rule id v) ws xs → get_elem? xs 0 ≡ some (Some value) → Settled v value
  settled id v ws xs value seated first idle all final is = let t = settles id v ws xs seated first idle all final in
      let same : Some t.0 ≡ Some value = some-injective (Some t.0) (Some value) (sym t.1 ∙ is) in
      subst (Settled v) (ap (some_or value) same) t.2
