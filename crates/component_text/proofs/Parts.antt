-- Parts of a grammar that one token decides: where a part ends doesn't depend on what stands behind the next token.
use Rattle.std.proofs.Common.{◌≡◌, ◌∙◌, ap, ℕ, ◌<◌, List, [], ◌∷◌, ◌++◌, Bool, true, false, length, map, refl, sym, subst, arith, append_assoc, length-append}
use Rattle.std.specs.Prelude.{Option}
use Rattle.std.proofs.lemmas.List.{append_cancel_right}
use Rattle.math_grammar.specs.Tokens.{Item}
use Rattle.component_text.specs.Marks.{Mark, word, label, plain, token_run, behind_run, is_at}
use Rattle.component_text.specs.Forms.{Bounds, limits, parts, none, One, FormulaRun, Nothing, Then, Choice, taken, other, Many, no_more, one_more, Of}
use Rattle.component_text.specs.PrivateReading.{end_mark}

-- the same token stands first, or none
pub data SameStart : List Mark → List Mark → Type 0 where
  both_end : SameStart [] []
  same_first : {x : Mark} {xs ys : List Mark} → SameStart (x ∷ xs) (x ∷ ys)

-- what may stand in the place of m: the same token first, or `end`
pub data MayFollow (m n : List Mark) : Type 0 where
  same : SameStart m n → MayFollow m n
  closing : (tail : List Mark) → n ≡ end_mark ∷ tail → MayFollow m n

-- the second bounds no more than the first
abbrev pub IsLooser : Bounds → Bounds → Type 0
IsLooser limits c = Unit {0}
IsLooser parts limits = ⊥
IsLooser parts parts = Unit {0}
IsLooser parts none = Unit {0}
IsLooser none limits = ⊥
IsLooser none parts = ⊥
IsLooser none none = Unit {0}

pub record Good {X : Type 0} (P : Bounds → List Mark → X → List Mark → Type 0) : Type 0 where
  pub split : (b : Bounds) (s : List Mark) (x : X) (m : List Mark) → P b s x m → (front : List Mark) × (s ≡ front ++ m)
  pub agrees : (b c : Bounds) (front m n : List Mark) (x y : X) (r : List Mark) → P b (front ++ m) x m → SameStart m n → P c (front ++ n) y r → r ≡ n
  pub keeps : (b : Bounds) (front m n : List Mark) (x : X) → P b (front ++ m) x m → MayFollow m n → P b (front ++ n) x n
  pub loosens : (b c : Bounds) → IsLooser b c → (s : List Mark) (x : X) (m : List Mark) → P b s x m → P c s x m

-- lists
none_before : (front m : List Mark) → m ≡ front ++ m → front ≡ []
none_before [] m e = refl
none_before (x ∷ front) m e = absurd (omega (arith, ap length e, length-append front m))

one_before : (front m : List Mark) (x : Mark) → front ++ m ≡ x ∷ m → front ≡ x ∷ []
one_before front m x e = append_cancel_right front (x ∷ []) m e

pub same_start_self : (m : List Mark) → SameStart m m
same_start_self [] = both_end
same_start_self (x ∷ m) = same_first

same_behind : (front m n : List Mark) → SameStart m n → SameStart (front ++ m) (front ++ n)
same_behind [] m n h = h
same_behind (x ∷ front) m n h = same_first

same_at : (test : Mark → Bool) (m n : List Mark) → SameStart m n → is_at test m ≡ is_at test n
same_at test m n both_end = refl
same_at test m n same_first = refl

pub same_at_front : (test : Mark → Bool) (front m n : List Mark) → SameStart m n → is_at test (front ++ m) ≡ is_at test (front ++ n)
same_at_front test front m n h = same_at test (front ++ m) (front ++ n) (same_behind front m n h)

follow_behind : (x : Mark) (front m n : List Mark) → SameStart ((x ∷ front) ++ m) ((x ∷ front) ++ n)
follow_behind x front m n = same_first

-- what stands behind some that stand first
may_behind : (front m n : List Mark) → MayFollow m n → MayFollow (front ++ m) (front ++ n)
may_behind [] m n h = h
may_behind (x ∷ front) m n h = same same_first

-- one token
module _ {X : Type 0} (value : Mark → Option X) where
  one_split : (b : Bounds) (s : List Mark) (x : X) (m : List Mark) → One value b s x m → (front : List Mark) × (s ≡ front ++ m)
  one_split b s x m h = (h.mark ∷ [], h.there)

  one_agrees : (b c : Bounds) (front m n : List Mark) (x y : X) (r : List Mark) → One value b (front ++ m) x m → SameStart m n → One value c (front ++ n) y r → r ≡ n
  one_agrees b c front m n x y r h e k =
      let is : front ≡ h.mark ∷ [] = one_before front m h.mark h.there in
      let there : h.mark ∷ n ≡ k.mark ∷ r = ap (λ f. f ++ n) (sym is) ∙ k.there in
      cc

  one_keeps : (b : Bounds) (front m n : List Mark) (x : X) → One value b (front ++ m) x m → MayFollow m n → One value b (front ++ n) x n
  one_keeps b front m n x h e = record { mark = h.mark; there = ap (λ f. f ++ n) (one_before front m h.mark h.there); is = h.is }

  pub good_one : Good (One value)
  good_one = record {
    split = one_split;
    agrees = one_agrees;
    keeps = one_keeps;
    loosens = λ b c l s x m h. record { mark = h.mark; there = h.there; is = h.is };
  }

-- formulas
pub run_split : (s : List Mark) → s ≡ map plain (token_run s) ++ behind_run s
run_split [] = refl
run_split (plain x ∷ s) = ap (λ t. plain x ∷ t) (run_split s)
run_split (word w p ∷ s) = refl
run_split (label l p ∷ s) = refl

-- no token of a formula stands first
pub data Ended : List Mark → Type 0 where
  nothing_there : Ended []
  at_word : {w : List ℕ} {p : ℕ} {s : List Mark} → Ended (word w p ∷ s)
  at_label : {l : List ℕ} {p : ℕ} {s : List Mark} → Ended (label l p ∷ s)

pub run_ends : (s : List Mark) → Ended (behind_run s)
run_ends [] = nothing_there
run_ends (plain x ∷ s) = run_ends s
run_ends (word w p ∷ s) = at_word
run_ends (label l p ∷ s) = at_label

pub run_of : (f : List Item) (n : List Mark) → Ended n → token_run (map plain f ++ n) ≡ f
run_of [] n nothing_there = refl
run_of [] n at_word = refl
run_of [] n at_label = refl
run_of (x ∷ f) n h = ap (λ g. x ∷ g) (run_of f n h)

pub behind_of : (f : List Item) (n : List Mark) → Ended n → behind_run (map plain f ++ n) ≡ n
behind_of [] n nothing_there = refl
behind_of [] n at_word = refl
behind_of [] n at_label = refl
behind_of (x ∷ f) n h = behind_of f n h

ended_start : (m n : List Mark) → SameStart m n → Ended m → Ended n
ended_start m n both_end h = nothing_there
ended_start m n same_first at_word = at_word
ended_start m n same_first at_label = at_label

pub ended_follow : (m n : List Mark) → MayFollow m n → Ended m → Ended n
ended_follow m n (same e) h = ended_start m n e h
ended_follow m n (closing tail e) h = subst Ended (sym e) at_word

module _ {X : Type 0} (F : Bounds → List Item → X → Type 0) where
  run_front : (b : Bounds) (front m : List Mark) (x : X) → FormulaRun F b (front ++ m) x m → front ≡ map plain (token_run (front ++ m))
  run_front b front m x h =
      let whole : front ++ m ≡ map plain (token_run (front ++ m)) ++ m = run_split (front ++ m) ∙ ap (λ t. map plain (token_run (front ++ m)) ++ t) (sym h.behind) in
      append_cancel_right front (map plain (token_run (front ++ m))) m whole

  run_ended : (b : Bounds) (front m : List Mark) (x : X) → FormulaRun F b (front ++ m) x m → Ended m
  run_ended b front m x h = subst Ended (sym h.behind) (run_ends (front ++ m))

  run_agrees : (b c : Bounds) (front m n : List Mark) (x y : X) (r : List Mark) → FormulaRun F b (front ++ m) x m → SameStart m n → FormulaRun F c (front ++ n) y r → r ≡ n
  run_agrees b c front m n x y r h e k =
      let f = token_run (front ++ m) in
      let is : front ≡ map plain f = run_front b front m x h in
      let ended : Ended n = ended_start m n e (run_ended b front m x h) in
      k.behind ∙ ap (λ t. behind_run (t ++ n)) is ∙ behind_of f n ended

  run_keeps : (b : Bounds) (front m n : List Mark) (x : X) → FormulaRun F b (front ++ m) x m → MayFollow m n → FormulaRun F b (front ++ n) x n
  run_keeps b front m n x h e =
      let f = token_run (front ++ m) in
      let is : front ≡ map plain f = run_front b front m x h in
      let ended : Ended n = ended_follow m n e (run_ended b front m x h) in
      let again : token_run (front ++ n) ≡ f = ap (λ t. token_run (t ++ n)) is ∙ run_of f n ended in
      record { spelled = subst (λ g. F b g x) (sym again) h.spelled; behind = sym (ap (λ t. behind_run (t ++ n)) is ∙ behind_of f n ended) }

  pub good_run : ((b c : Bounds) → IsLooser b c → (f : List Item) (x : X) → F b f x → F c f x) → Good (FormulaRun F)
  good_run loose = record {
    split = λ b s x m h. (map plain (token_run s), run_split s ∙ ap (λ t. map plain (token_run s) ++ t) (sym h.behind));
    agrees = run_agrees;
    keeps = run_keeps;
    loosens = λ b c l s x m h. record { spelled = loose b c l (token_run s) x h.spelled; behind = h.behind };
  }

-- nothing
module _ {X : Type 0} (absent : X) where
  pub good_nothing : Good (Nothing absent)
  good_nothing = record {
    split = λ b s x m h. ([], sym h.behind);
    agrees = λ b c front m n x y r h e k. k.behind ∙ ap (λ f. f ++ n) (none_before front m h.behind);
    keeps = λ b front m n x h e. record { is = h.is; behind = sym (ap (λ f. f ++ n) (none_before front m h.behind)) };
    loosens = λ b c l s x m h. record { is = h.is; behind = h.behind };
  }

-- one after another
module _ {X Y : Type 0} (P : Bounds → List Mark → X → List Mark → Type 0) (Q : Bounds → List Mark → Y → List Mark → Type 0) (p : Good P) (q : Good Q) where
  then_split : (b : Bounds) (s : List Mark) (x : X × Y) (m : List Mark) → Then P Q b s x m → (front : List Mark) × (s ≡ front ++ m)
  then_split b s x m h =
      let f = p.split b s x.0 h.middle h.first in
      let g = q.split b h.middle x.1 m h.second in
      (f.0 ++ g.0, f.1 ∙ ap (λ t. f.0 ++ t) g.1 ∙ sym (append_assoc f.0 g.0 m))

  -- where the first part ends, by what stands behind the whole
  record Cuts (b : Bounds) (front m : List Mark) (x : X × Y) : Type 0 where
    f : List Mark
    g : List Mark
    whole : front ≡ f ++ g
    first : P b (f ++ (g ++ m)) x.0 (g ++ m)
    second : Q b (g ++ m) x.1 m

  cuts : (b : Bounds) (front m : List Mark) (x : X × Y) → Then P Q b (front ++ m) x m → Cuts b front m x
  cuts b front m x h =
      let f = p.split b (front ++ m) x.0 h.middle h.first in
      let g = q.split b h.middle x.1 m h.second in
      let all : front ++ m ≡ (f.0 ++ g.0) ++ m = f.1 ∙ ap (λ t. f.0 ++ t) g.1 ∙ sym (append_assoc f.0 g.0 m) in
      let whole : front ++ m ≡ f.0 ++ (g.0 ++ m) = all ∙ append_assoc f.0 g.0 m in
      record {
        f = f.0;
        g = g.0;
        whole = append_cancel_right front (f.0 ++ g.0) m all;
        first = subst (λ t. P b (f.0 ++ (g.0 ++ m)) x.0 t) g.1 (subst (λ t. P b t x.0 h.middle) whole h.first);
        second = subst (λ t. Q b t x.1 m) g.1 h.second;
      }

  regroup : (front f g n : List Mark) → front ≡ f ++ g → front ++ n ≡ f ++ (g ++ n)
  regroup front f g n e = ap (λ t. t ++ n) e ∙ append_assoc f g n

  then_agrees : (b c : Bounds) (front m n : List Mark) (x y : X × Y) (r : List Mark) → Then P Q b (front ++ m) x m → SameStart m n → Then P Q c (front ++ n) y r → r ≡ n
  then_agrees b c front m n x y r h e k =
      let w = cuts b front m x h in
      let there : P c (w.f ++ (w.g ++ n)) y.0 k.middle = subst (λ t. P c t y.0 k.middle) (regroup front w.f w.g n w.whole) k.first in
      let middle : k.middle ≡ w.g ++ n = p.agrees b c w.f (w.g ++ m) (w.g ++ n) x.0 y.0 k.middle w.first (same_behind w.g m n e) there in
      q.agrees b c w.g m n x.1 y.1 r w.second e (subst (λ t. Q c t y.1 r) middle k.second)

  then_keeps : (b : Bounds) (front m n : List Mark) (x : X × Y) → Then P Q b (front ++ m) x m → MayFollow m n → Then P Q b (front ++ n) x n
  then_keeps b front m n x h e =
      let w = cuts b front m x h in
      record {
        middle = w.g ++ n;
        first = subst (λ t. P b t x.0 (w.g ++ n)) (sym (regroup front w.f w.g n w.whole)) (p.keeps b w.f (w.g ++ m) (w.g ++ n) x.0 w.first (may_behind w.g m n e));
        second = q.keeps b w.g m n x.1 w.second e;
      }

  pub good_then : Good (Then P Q)
  good_then = record {
    split = then_split;
    agrees = then_agrees;
    keeps = then_keeps;
    loosens = λ b c l s x m h. record { middle = h.middle; first = p.loosens b c l s x.0 h.middle h.first; second = q.loosens b c l h.middle x.1 m h.second };
  }

-- another value
module _ {X Y : Type 0} (f : X → Y) (P : Bounds → List Mark → X → List Mark → Type 0) (p : Good P) where
  pub good_of : Good (Of f P)
  good_of = record {
    split = λ b s x m h. p.split b s h.from m h.part;
    agrees = λ b c front m n x y r h e k. p.agrees b c front m n h.from k.from r h.part e k.part;
    keeps = λ b front m n x h e. record { from = h.from; is = h.is; part = p.keeps b front m n h.from h.part e };
    loosens = λ b c l s x m h. record { from = h.from; is = h.is; part = p.loosens b c l s h.from m h.part };
  }

-- a choice by the first token
module _ {X : Type 0} (test : Mark → Bool) (P Q : Bounds → List Mark → X → List Mark → Type 0) (p : Good P) (q : Good Q) (not_end : test end_mark ≡ false) where
  choice_split : (b : Bounds) (s : List Mark) (x : X) (m : List Mark) → Choice test P Q b s x m → (front : List Mark) × (s ≡ front ++ m)
  choice_split b s x m (taken y t e is h) = let f = p.split b t x m h in (y ∷ f.0, e ∙ ap (λ u. y ∷ u) f.1)
  choice_split b s x m (other e h) = q.split b s x m h

  -- the token that is taken stands in front
  record Behind (b : Bounds) (front m : List Mark) (x : X) : Type 0 where
    y : Mark
    f : List Mark
    whole : front ≡ y ∷ f
    is : test y ≡ true
    part : P b (f ++ m) x m

  in_front : (b : Bounds) (front m t : List Mark) (x : X) (y : Mark) → front ++ m ≡ y ∷ t → test y ≡ true → P b t x m → Behind b front m x
  in_front b front m t x y e is h =
      let g = p.split b t x m h in
      let all : front ++ m ≡ (y ∷ g.0) ++ m = e ∙ ap (λ u. y ∷ u) g.1 in
      record { y = y; f = g.0; whole = append_cancel_right front (y ∷ g.0) m all; is = is; part = subst (λ u. P b u x m) g.1 h }

  choice_agrees : (b c : Bounds) (front m n : List Mark) (x y : X) (r : List Mark) → Choice test P Q b (front ++ m) x m → SameStart m n → Choice test P Q c (front ++ n) y r → r ≡ n
  choice_agrees b c front m n x y r (taken a t d is h) e (taken a' t' d' is' k) =
      let w = in_front b front m t x a d is h in
      let there : w.y ∷ (w.f ++ n) ≡ a' ∷ t' = ap (λ u. u ++ n) (sym w.whole) ∙ d' in
      let tail : t' ≡ w.f ++ n = cc in
      p.agrees b c w.f m n x y r w.part e (subst (λ u. P c u y r) tail k)
  choice_agrees b c front m n x y r (taken a t d is h) e (other isnt k) =
      let at : is_at test (front ++ m) ≡ true = ap (is_at test) d ∙ is in
      let contra : true ≡ false = sym at ∙ same_at_front test front m n e ∙ isnt in
      cc
  choice_agrees b c front m n x y r (other isnt h) e (taken a' t' d' is' k) =
      let at : is_at test (front ++ n) ≡ true = ap (is_at test) d' ∙ is' in
      let contra : true ≡ false = sym at ∙ sym (same_at_front test front m n e) ∙ isnt in
      cc
  choice_agrees b c front m n x y r (other isnt h) e (other isnt' k) = q.agrees b c front m n x y r h e k

  still_other : (front m n : List Mark) → is_at test (front ++ m) ≡ false → MayFollow m n → is_at test (front ++ n) ≡ false
  still_other front m n isnt (same e) = sym (same_at_front test front m n e) ∙ isnt
  still_other [] m n isnt (closing tail e) = ap (is_at test) e ∙ not_end
  still_other (y ∷ front) m n isnt (closing tail e) = isnt

  choice_keeps : (b : Bounds) (front m n : List Mark) (x : X) → Choice test P Q b (front ++ m) x m → MayFollow m n → Choice test P Q b (front ++ n) x n
  choice_keeps b front m n x (taken a t d is h) e =
      let w = in_front b front m t x a d is h in
      taken w.y (w.f ++ n) (ap (λ u. u ++ n) w.whole) w.is (p.keeps b w.f m n x w.part e)
  choice_keeps b front m n x (other isnt h) e = other (still_other front m n isnt e) (q.keeps b front m n x h e)

  choice_loosens : (b c : Bounds) → IsLooser b c → (s : List Mark) (x : X) (m : List Mark) → Choice test P Q b s x m → Choice test P Q c s x m
  choice_loosens b c l s x m (taken y t e is h) = taken y t e is (p.loosens b c l t x m h)
  choice_loosens b c l s x m (other e h) = other e (q.loosens b c l s x m h)

  pub good_choice : Good (Choice test P Q)
  good_choice = record { split = choice_split; agrees = choice_agrees; keeps = choice_keeps; loosens = choice_loosens }

-- any number of parts, each of which takes a token
module _ {X : Type 0} (test : Mark → Bool) (P : Bounds → List Mark → X → List Mark → Type 0) (p : Good P) (not_end : test end_mark ≡ false)
    (takes : (b : Bounds) (s : List Mark) (x : X) (m : List Mark) → P b s x m → length m < length s) where
  many_split : (b : Bounds) (s : List Mark) (xs : List X) (m : List Mark) → Many test P b s xs m → (front : List Mark) × (s ≡ front ++ m)
  many_split b s xs m (no_more isnt e) = ([], sym e)
  many_split b s xs m (one_more {m = k} {x = x} {xs = ys} does h hs) =
      let f = p.split b s x k h in
      let g = many_split b k ys m hs in
      (f.0 ++ g.0, f.1 ∙ ap (λ t. f.0 ++ t) g.1 ∙ sym (append_assoc f.0 g.0 m))

  many_agrees : (b c : Bounds) (s : List Mark) (xs : List X) (m : List Mark) → Many test P b s xs m → (front n : List Mark) → s ≡ front ++ m → SameStart m n →
      (t : List Mark) → t ≡ front ++ n → (ys : List X) (r : List Mark) → Many test P c t ys r → r ≡ n
  many_agrees b c s xs m (no_more isnt e) front n is h t there ys r (no_more isnt' e') =
      e' ∙ there ∙ ap (λ f. f ++ n) (none_before front m (e ∙ is))
  many_agrees b c s xs m (no_more isnt e) front n is h t there ys r (one_more does k ks) =
      let at : is_at test (front ++ n) ≡ true = ap (is_at test) (sym there) ∙ does in
      let contra : true ≡ false = sym at ∙ sym (same_at_front test front m n h) ∙ ap (is_at test) (sym is) ∙ isnt in
      cc
  many_agrees b c s xs m (one_more does h' hs) front n is h t there ys r (no_more isnt e') =
      let at : is_at test (front ++ m) ≡ true = ap (is_at test) (sym is) ∙ does in
      let contra : true ≡ false = sym at ∙ same_at_front test front m n h ∙ ap (is_at test) (sym there) ∙ isnt in
      cc
  many_agrees b c s xs m (one_more {m = k} {x = x} {xs = xs'} does h' hs) front n is h t there ys r (one_more {m = k'} {x = y} {xs = ys'} does' i is') =
      let f = p.split b s x k h' in
      let g = many_split b k xs' m hs in
      let all : front ++ m ≡ (f.0 ++ g.0) ++ m = sym is ∙ f.1 ∙ ap (λ u. f.0 ++ u) g.1 ∙ sym (append_assoc f.0 g.0 m) in
      let whole : front ≡ f.0 ++ g.0 = append_cancel_right front (f.0 ++ g.0) m all in
      let first : P b (f.0 ++ (g.0 ++ m)) x (g.0 ++ m) = subst (λ u. P b (f.0 ++ u) x u) g.1 (subst (λ u. P b u x k) f.1 h') in
      let second : P c (f.0 ++ (g.0 ++ n)) y k' = subst (λ u. P c u y k') (there ∙ ap (λ u. u ++ n) whole ∙ append_assoc f.0 g.0 n) i in
      let middle : k' ≡ g.0 ++ n = p.agrees b c f.0 (g.0 ++ m) (g.0 ++ n) x y k' first (same_behind g.0 m n h) second in
      many_agrees b c k xs' m hs g.0 n g.1 h k' middle ys' r is'

  many_keeps : (b : Bounds) (s : List Mark) (xs : List X) (m : List Mark) → Many test P b s xs m → (front n : List Mark) → s ≡ front ++ m → MayFollow m n → Many test P b (front ++ n) xs n
  many_keeps b s xs m (no_more isnt e) front n is h =
      let empty : front ≡ [] = none_before front m (e ∙ is) in
      let all : front ++ n ≡ n = ap (λ f. f ++ n) empty in
      no_more (ap (is_at test) all ∙ ends m n h (ap (is_at test) e ∙ isnt)) (sym all)
    where
      ends : (m n : List Mark) → MayFollow m n → is_at test m ≡ false → is_at test n ≡ false
      ends m n (same e) isnt = sym (same_at test m n e) ∙ isnt
      ends m n (closing tail e) isnt = ap (is_at test) e ∙ not_end
  many_keeps b s xs m (one_more {m = k} {x = x} {xs = xs'} does h' hs) front n is h =
      let f = p.split b s x k h' in
      let g = many_split b k xs' m hs in
      let all : front ++ m ≡ (f.0 ++ g.0) ++ m = sym is ∙ f.1 ∙ ap (λ u. f.0 ++ u) g.1 ∙ sym (append_assoc f.0 g.0 m) in
      let whole : front ≡ f.0 ++ g.0 = append_cancel_right front (f.0 ++ g.0) m all in
      let first : P b (f.0 ++ (g.0 ++ m)) x (g.0 ++ m) = subst (λ u. P b (f.0 ++ u) x u) g.1 (subst (λ u. P b u x k) f.1 h') in
      let again : front ++ n ≡ f.0 ++ (g.0 ++ n) = ap (λ u. u ++ n) whole ∙ append_assoc f.0 g.0 n in
      let some : 0 < length f.0 = omega (arith, takes b s x k h', ap length f.1, length-append f.0 k) in
      subst (λ u. Many test P b u xs n) (sym again)
      (one_more (at_front f.0 (g.0 ++ n) k some (ap (is_at test) (sym f.1) ∙ does)) (p.keeps b f.0 (g.0 ++ m) (g.0 ++ n) x first (may_behind g.0 m n h)) (many_keeps b k xs' m hs g.0 n g.1 h))
    where
      at_front : (f n k : List Mark) → 0 < length f → is_at test (f ++ k) ≡ true → is_at test (f ++ n) ≡ true
      at_front [] n k some e = absurd (omega arith)
      at_front (y ∷ f) n k some e = e

  many_loosens : (b c : Bounds) → IsLooser b c → (s : List Mark) (xs : List X) (m : List Mark) → Many test P b s xs m → Many test P c s xs m
  many_loosens b c l s xs m (no_more isnt e) = no_more isnt e
  many_loosens b c l s xs m (one_more {m = k} {x = x} {xs = xs'} does h hs) = one_more does (p.loosens b c l s x k h) (many_loosens b c l k xs' m hs)

  pub good_many : Good (Many test P)
  good_many = record {
    split = many_split;
    agrees = λ b c front m n x y r h e k. many_agrees b c (front ++ m) x m h front n refl e (front ++ n) refl y r k;
    keeps = λ b front m n x h e. many_keeps b (front ++ m) x m h front n refl e;
    loosens = many_loosens;
  }
