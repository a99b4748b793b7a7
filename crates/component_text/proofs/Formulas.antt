-- Where a formula is refused, or passes a limit, in the text of a component.
use Rattle.std.proofs.Common.{◌≡◌, ◌∙◌, ap, ℕ, zero, suc, ◌+◌, ◌<◌, ◌≤◌, inl, inr, List, [], ◌∷◌, ◌++◌, Bool, true, false, Some, None, cond, length, take, drop, map, refl, sym, subst, arith, append_assoc, append-nil}
use Rattle.std.specs.Prelude.{Option}
use Rattle.std.proofs.lemmas.List.{take-append-drop}
use Rattle.formula_core.specs.Texts.{is_label}
use Rattle.math_grammar.specs.Tokens.{Item}
use Rattle.formula_parse.specs.Faults.{BeginsOne}
use Rattle.formula_parse.specs.Limits.{first_large, IsTooLargeIn}
use Rattle.formula_parse.specs.declared.fault.ParseFault.TheVariants as fault
use Rattle.component_text.specs.Marks.{Mark, word, label, plain, token_run, behind_run, is_at}
use Rattle.component_text.specs.Forms.{Bounds, limits, parts, none, One, FormulaRun, Then}
use Rattle.component_text.specs.Grammar.{label_at}
use Rattle.component_text.specs.Faults.{opens_formula}
use Rattle.component_text.specs.PrivateReading.{end_mark, BeginsIn, NoneHasIn, NoneHas, RefusesAt, IsLargeIn, is_long, is_wide, Passes, from_token, within_bound, FailsBy, is_plain, AreShort, Placed, not_plain, in_formula}
use Rattle.component_text.proofs.Refusing.{one_begins, one_then_nowhere, one_then_wrong}
use Rattle.component_text.proofs.Shorts.{taken_fewer, short_append, formula_short}
use Rattle.component_text.proofs.Parts.{Ended, nothing_there, at_word, at_label, run_ends, run_of, behind_of}

map_append : (f g : List Item) → map plain (f ++ g) ≡ map plain f ++ map plain g
map_append [] g = refl
map_append (x ∷ f) g = ap (λ t. plain x ∷ t) (map_append f g)

whole_run : (s : List Mark) → s ≡ map plain (token_run s) ++ behind_run s
whole_run [] = refl
whole_run (plain x ∷ s) = ap (λ t. plain x ∷ t) (whole_run s)
whole_run (word w p ∷ s) = refl
whole_run (label l p ∷ s) = refl

-- a formula, token by token
pub front_is : (s : List Mark) (i : ℕ) → s ≡ map plain (take i (token_run s)) ++ from_token i s
front_is s i =
    whole_run s ∙ ap (λ f. map plain f ++ behind_run s) (sym (take-append-drop i (token_run s))) ∙ ap (λ t. t ++ behind_run s) (map_append (take i (token_run s)) (drop i (token_run s)))
    ∙ append_assoc (map plain (take i (token_run s))) (map plain (drop i (token_run s))) (behind_run s)

run_more : (f : List Item) (t : List Mark) → token_run (map plain f ++ t) ≡ f ++ token_run t
run_more [] t = refl
run_more (x ∷ f) t = ap (λ g. x ∷ g) (run_more f t)

-- the token at i, and those up to it
next_item : (f : List Item) (i : ℕ) (y : Item) (g : List Item) → drop i f ≡ y ∷ g → (i < length f) × (take (i + 1) f ≡ take i f ++ y ∷ []) × (length (take i f) ≡ i)
next_item [] zero y g e = cc
next_item [] (suc i) y g e = cc
next_item (x ∷ f) zero y g e = (omega arith, (let same : x ≡ y = cc in ap (λ z. z ∷ []) same), refl)
next_item (x ∷ f) (suc i) y g e =
    let later = next_item f i y g e in
    let n : suc i + 1 ≡ suc (i + 1) = omega arith in
    (omega (arith, later.0), ap (λ m. take m (x ∷ f)) n ∙ ap (λ t. x ∷ t) later.1, omega (arith, later.2))

no_item : (f : List Item) (i : ℕ) → drop i f ≡ [] → i ≤ length f → (i ≡ length f) × (take i f ≡ f)
no_item [] zero e h = (refl, refl)
no_item [] (suc i) e h = absurd (omega arith)
no_item (x ∷ f) zero e h = cc
no_item (x ∷ f) (suc i) e h = let later = no_item f i e (omega arith) in (omega (arith, later.0), ap (λ t. x ∷ t) later.1)

module _ {X : Type 0} (F : Bounds → List Item → X → Type 0) where
  pub run_begins : (b : Bounds) (f : List Item) → BeginsOne (F b) f → BeginsIn b (FormulaRun F) (map plain f)
  run_begins b f c =
      let all : (tail : List Mark) → map plain f ++ (map plain c.0 ++ end_mark ∷ tail) ≡ map plain (f ++ c.0) ++ end_mark ∷ tail =
      λ tail. sym (append_assoc (map plain f) (map plain c.0) (end_mark ∷ tail)) ∙ ap (λ t. t ++ end_mark ∷ tail) (sym (map_append f c.0)) in
      record {
        more = map plain c.0;
        value = c.1;
        goes_on = λ tail. record {
          spelled = subst (λ g. F b g c.1) (sym (ap token_run (all tail) ∙ run_of (f ++ c.0) (end_mark ∷ tail) at_word)) c.2;
          behind = sym (ap behind_run (all tail) ∙ behind_of (f ++ c.0) (end_mark ∷ tail) at_word);
        };
      }

  ends_there : (f : List Item) (rest : List Mark) → Ended rest → ((t : X) → F none f t → ⊥) → NoneHas (FormulaRun F) (map plain f) rest
  ends_there f [] e isnt = λ t r k. isnt t (subst (λ g. F none g t) (ap token_run (sym (append-nil (map plain f))) ∙ run_of f [] nothing_there) k.spelled)
  ends_there f (word w p ∷ rest) e isnt = λ more t r k. isnt t (subst (λ g. F none g t) (run_of f (word w p ∷ more) at_word) k.spelled)
  ends_there f (label l p ∷ rest) e isnt = λ more t r k. isnt t (subst (λ g. F none g t) (run_of f (label l p ∷ more) at_label) k.spelled)
  ends_there f (plain x ∷ rest) e isnt = absurd (not_plain_there x rest e)
    where
      not_plain_there : (x : Item) (rest : List Mark) → Ended (plain x ∷ rest) → ⊥
      not_plain_there x rest e = elim e [ ]

  goes_on : (b : Bounds) (f : List Item) (y : Item) (rest : List Mark) → (BeginsOne (F b) (f ++ y ∷ []) → ⊥) → NoneHasIn b (FormulaRun F) (map plain f) (plain y ∷ rest)
  goes_on b f y rest isnt = λ more t r k.
      let g : token_run (map plain f ++ plain y ∷ more) ≡ (f ++ y ∷ []) ++ token_run more = run_more f (plain y ∷ more) ∙ sym (append_assoc f (y ∷ []) (token_run more)) in
      isnt (token_run more, t, subst (λ u. F b u t) g k.spelled)

  -- no formula goes on with what stands at the place
  stops_nowhere : (s rest : List Mark) (i : ℕ) → rest ≡ from_token i s → FailsBy F (token_run s) (fault.Unexpected i) → NoneHas (FormulaRun F) (map plain (take i (token_run s))) rest
  stops_nowhere s rest i e k = subst (NoneHas (FormulaRun F) (map plain (take i (token_run s)))) (sym e) (go (drop i (token_run s)) refl)
    where
      go : (g : List Item) → drop i (token_run s) ≡ g → NoneHas (FormulaRun F) (map plain (take i (token_run s))) (map plain g ++ behind_run s)
      go [] d =
          let last = no_item (token_run s) i d k.first.0 in
          ends_there (take i (token_run s)) (behind_run s) (run_ends s) (λ t p. k.first.2.at_end last.0 t (subst (λ f. F none f t) last.1 p))
      go (y ∷ g) d =
          let next = next_item (token_run s) i y g d in
          goes_on none (take i (token_run s)) y (map plain g ++ behind_run s) (λ c. k.first.2.there next.0 (subst (BeginsOne (F none)) (sym next.1) c))

-- a label with a predicate behind it: how far the predicate is within its limits
pub label_is : (y : Mark) (x : List ℕ × ℕ) → label_at y ≡ Some x → y ≡ label x.0 x.1
label_is (word w p) x e = cc
label_is (plain z) x e = cc
label_is (label l p) x e = go (is_label l) e
  where
    go : (b : Bool) → cond {A = Option (List ℕ × ℕ)} b (Some (l, p)) None ≡ Some x → label l p ≡ label x.0 x.1
    go true e = let same : (l, p) ≡ x = cc in ap (λ (z : List ℕ × ℕ). label z.0 z.1) same
    go false e = cc

pub label_opens : (y : Mark) (x : List ℕ × ℕ) → label_at y ≡ Some x → opens_formula y ≡ true
label_opens y x e = ap opens_formula (label_is y x e)

ended_is : (t : List Mark) → Ended t → is_at is_plain t ≡ false
ended_is [] nothing_there = refl
ended_is (word w p ∷ t) at_word = refl
ended_is (label l p ∷ t) at_label = refl
ended_is (plain y ∷ t) x = elim x [ ]

nothing_dropped : (f : List Item) (i : ℕ) → i < length f → drop i f ≡ [] → ⊥
nothing_dropped [] i l d = omega arith
nothing_dropped (z ∷ f) zero l d = cc
nothing_dropped (z ∷ f) (suc i) l d = nothing_dropped f i (omega arith) d

-- a part with a formula behind the token y, which opens it
module _ {X Z : Type 0} (F : Bounds → List Item → X → Type 0) (R : Bounds → List Mark → Z → List Mark → Type 0)
    (lead : List Mark) (y : Mark) (s m : List Mark) (there : s ≡ lead ++ y ∷ m) (opens : opens_formula y ≡ true) (lead_short : (t : List Mark) → AreShort lead (y ∷ t))
    (begins_as : (b : Bounds) (f : List Item) → BeginsOne (F b) f → BeginsIn b R (lead ++ y ∷ map plain f))
    (nowhere_as : (b : Bounds) (before rest : List Mark) → m ≡ before ++ rest → NoneHasIn b (FormulaRun F) before rest → NoneHasIn b R (lead ++ y ∷ before) rest)
    (wrong_as : ((x : X) → F limits (token_run m) x → ⊥) → (z : Z) (r : List Mark) → R limits s z r → ⊥) where
  divided : (rest : List Mark) (i : ℕ) → rest ≡ from_token i m → m ≡ map plain (take i (token_run m)) ++ rest
  divided rest i e = front_is m i ∙ ap (λ t. map plain (take i (token_run m)) ++ t) (sym e)

  all_is : (rest : List Mark) (i : ℕ) → rest ≡ from_token i m → s ≡ (lead ++ y ∷ map plain (take i (token_run m))) ++ rest
  all_is rest i e = there ∙ ap (λ t. lead ++ y ∷ t) (divided rest i e) ∙ sym (append_assoc lead (y ∷ map plain (take i (token_run m))) rest)

  placed_there : (rest : List Mark) (i : ℕ) → rest ≡ from_token i m → FailsBy F (token_run m) (fault.Unexpected i) → (g : List Item) → drop i (token_run m) ≡ g → Placed (lead ++ y ∷ map plain (take i (token_run m))) rest
  placed_there rest i e k [] d = not_plain (ap (is_at is_plain) (e ∙ ap (λ t. map plain t ++ behind_run m) d) ∙ ended_is (behind_run m) (run_ends m))
  placed_there rest i e k (x ∷ g) d =
      let next = next_item (token_run m) i x g d in
      in_formula lead y (take i (token_run m)) x (map plain g ++ behind_run m) refl opens (e ∙ ap (λ t. map plain t ++ behind_run m) d) (ap first_large (sym next.1) ∙ k.first.3)

  before_short : (i : ℕ) → first_large (take i (token_run m)) ≡ None → AreShort (lead ++ y ∷ map plain (take i (token_run m))) []
  before_short i few = short_append lead (y ∷ map plain (take i (token_run m))) [] (lead_short (map plain (take i (token_run m)) ++ [])) (formula_short y (take i (token_run m)) few)

  pub opened_refused : (rest : List Mark) (i : ℕ) → rest ≡ from_token i m → FailsBy F (token_run m) (fault.Unexpected i) → RefusesAt R s rest
  opened_refused rest i e k = record {
    before = lead ++ y ∷ map plain (take i (token_run m));
    is = all_is rest i e;
    begins = begins_as parts (take i (token_run m)) k.first.1;
    nowhere = nowhere_as none (map plain (take i (token_run m))) rest (divided rest i e) (stops_nowhere F m rest i e k);
    placed = placed_there rest i e k (drop i (token_run m)) refl;
    short = before_short i (taken_fewer i (token_run m) k.first.3);
    wrong = wrong_as k.wrong;
  }

  large_there : (i : ℕ) (x : Item) (later : List Mark) → m ≡ map plain (take i (token_run m)) ++ plain x ∷ later → take (i + 1) (token_run m) ≡ take i (token_run m) ++ x ∷ [] → length (take i (token_run m)) ≡ i →
      IsTooLargeIn (within_bound F) (token_run m) i →
      IsLargeIn R (lead ++ y ∷ map plain (take i (token_run m))) (plain x) later
  large_there i x later is e n (inl a) =
      is_long (record { lead = lead; opening = y; formula = take i (token_run m); item = x; is = refl; opens = opens; token = refl; large = ap first_large (sym e) ∙ a ∙ ap Some (sym n) })
  large_there i x later is e n (inr a) =
      let f = take i (token_run m) in
      is_wide
      (subst (BeginsIn none R) (ap (λ t. lead ++ y ∷ t) (map_append f (x ∷ [])) ∙ sym (append_assoc lead (y ∷ map plain f) (plain x ∷ [])))
      (begins_as none (f ++ x ∷ []) (subst (BeginsOne (F none)) e a.0)))
      (nowhere_as parts (map plain f) (plain x ∷ later) is (goes_on F parts f x later (λ c. a.1 (subst (BeginsOne (F parts)) (sym e) c))))

  passes_at : (rest : List Mark) (i : ℕ) → rest ≡ from_token i m → FailsBy F (token_run m) (fault.TooLarge i) → (g : List Item) → drop i (token_run m) ≡ g → Passes R s rest
  passes_at rest i e k [] d = absurd (nothing_dropped (token_run m) i k.first.0 d)
  passes_at rest i e k (x ∷ g) d =
      let next = next_item (token_run m) i x g d in
      let later : List Mark = map plain g ++ behind_run m in
      let rest_is : rest ≡ plain x ∷ later = e ∙ ap (λ t. map plain t ++ behind_run m) d in
      record {
        before = lead ++ y ∷ map plain (take i (token_run m));
        token = plain x;
        later = later;
        is = all_is rest i e;
        next = rest_is;
        begins = begins_as parts (take i (token_run m)) k.first.1;
        short = before_short i k.first.2;
        large = large_there i x later (divided rest i e ∙ ap (λ t. map plain (take i (token_run m)) ++ t) rest_is) next.1 next.2 k.first.3;
        wrong = wrong_as k.wrong;
      }

  pub opened_passes : (rest : List Mark) (i : ℕ) → rest ≡ from_token i m → FailsBy F (token_run m) (fault.TooLarge i) → Passes R s rest
  opened_passes rest i e k = passes_at rest i e k (drop i (token_run m)) refl

-- a label with a formula behind it
module _ {X : Type 0} (F : Bounds → List Item → X → Type 0) (s m : List Mark) (x : List ℕ × ℕ) (o : One label_at limits s x m) where
  wrong_behind : ((t : X) → F limits (token_run m) t → ⊥) → (z : (List ℕ × ℕ) × X) (r : List Mark) → Then (One label_at) (FormulaRun F) limits s z r → ⊥
  wrong_behind isnt = one_then_wrong label_at (FormulaRun F) s m x o (λ t r k. isnt t k.spelled)

  pub label_refused : (rest : List Mark) (i : ℕ) → rest ≡ from_token i m → FailsBy F (token_run m) (fault.Unexpected i) → RefusesAt (Then (One label_at) (FormulaRun F)) s rest
  label_refused =
      opened_refused F (Then (One label_at) (FormulaRun F)) [] o.mark s m o.there (label_opens o.mark x o.is) (λ t. tt) (λ b f c. one_begins label_at (FormulaRun F) b o.mark x (map plain f) o.is (run_begins F b f c))
      (λ b before rest e. one_then_nowhere label_at (FormulaRun F) b o.mark before rest) wrong_behind

  pub label_passes : (rest : List Mark) (i : ℕ) → rest ≡ from_token i m → FailsBy F (token_run m) (fault.TooLarge i) → Passes (Then (One label_at) (FormulaRun F)) s rest
  label_passes =
      opened_passes F (Then (One label_at) (FormulaRun F)) [] o.mark s m o.there (label_opens o.mark x o.is) (λ t. tt) (λ b f c. one_begins label_at (FormulaRun F) b o.mark x (map plain f) o.is (run_begins F b f c))
      (λ b before rest e. one_then_nowhere label_at (FormulaRun F) b o.mark before rest) wrong_behind
