-- Where a part made of parts is refused, or passes a limit.
use Rattle.std.proofs.Common.{◌≡◌, ◌∙◌, ap, ◌<◌, List, [], ◌∷◌, ◌++◌, Bool, true, false, Some, None, length, refl, sym, subst, arith, append_assoc, append-nil, length-append}
use Rattle.std.specs.Prelude.{Option}
use Rattle.component_text.specs.Marks.{Mark, is_at}
use Rattle.component_text.specs.Forms.{Bounds, limits, parts, none, One, Then, Choice, taken, other, Many, no_more, one_more, Of}
use Rattle.component_text.specs.Faults.{IsLong}
use Rattle.component_text.specs.PrivateReading.{end_mark, BeginsIn, Begins, NoneHasIn, NoneHas, IsLargeIn, is_long, is_wide, RefusesAt, Passes, Lacks, is_plain, NoFormula, no_formula}
use Rattle.component_text.proofs.Placed.{none_free, placed_behind, Leaves}
use Rattle.component_text.proofs.Shorts.{alone_short, short_behind}
use Rattle.component_text.proofs.Parts.{SameStart, same_first, same, closing, Good, same_start_self}

-- The part may begin with `end`: it is left out before it, or `end` is all of it.
pub record CanSkip {X : Type 0} (P : Bounds → List Mark → X → List Mark → Type 0) : Type 0 where
  pub fill : List Mark
  pub value : X
  pub behind : List Mark → List Mark
  pub starts : (tail : List Mark) → fill ++ end_mark ∷ tail ≡ end_mark ∷ behind tail
  pub skips : (b : Bounds) (tail : List Mark) → P b (fill ++ end_mark ∷ tail) value (end_mark ∷ tail)

pub skip_begins : {X : Type 0} (P : Bounds → List Mark → X → List Mark → Type 0) → CanSkip P → (b : Bounds) → BeginsIn b P []
skip_begins P h b = record { more = h.fill; value = h.value; goes_on = h.skips b }

-- it is left out
pub left_out : {X : Type 0} (P : Bounds → List Mark → X → List Mark → Type 0) (x : X) → ((b : Bounds) (tail : List Mark) → P b (end_mark ∷ tail) x (end_mark ∷ tail)) → CanSkip P
left_out P x h = record { fill = []; value = x; behind = λ tail. tail; starts = λ tail. refl; skips = h }

pub longer : (front before : List Mark) (token : Mark) → IsLong before token → IsLong (front ++ before) token
longer front before token h = record {
  lead = front ++ h.lead;
  opening = h.opening;
  formula = h.formula;
  item = h.item;
  is = ap (λ t. front ++ t) h.is ∙ sym (append_assoc front h.lead _);
  opens = h.opens;
  token = h.token;
  large = h.large;
}

-- the same of another part
pub large_as : {X Y : Type 0} (P : Bounds → List Mark → X → List Mark → Type 0) (Q : Bounds → List Mark → Y → List Mark → Type 0) (front before : List Mark) (token : Mark) (later : List Mark) →
    (BeginsIn none P (before ++ token ∷ []) → BeginsIn none Q (front ++ (before ++ token ∷ []))) →
    (NoneHasIn parts P before (token ∷ later) → NoneHasIn parts Q (front ++ before) (token ∷ later)) →
    IsLargeIn P before token later → IsLargeIn Q (front ++ before) token later
large_as P Q front before token later f g (is_long h) = is_long (longer front before token h)
large_as P Q front before token later f g (is_wide h k) = is_wide (subst (BeginsIn none Q) (sym (append_assoc front before (token ∷ []))) (f h)) (g k)

-- behind some that stand first
behind_is : (front s m before rest : List Mark) → s ≡ front ++ m → m ≡ before ++ rest → s ≡ (front ++ before) ++ rest
behind_is front s m before rest e f = e ∙ ap (λ t. front ++ t) f ∙ sym (append_assoc front before rest)

-- one more stands first
further : (m before rest : List Mark) (x : Mark) (later : List Mark) → m ≡ before ++ rest → rest ≡ x ∷ later → m ≡ (before ++ x ∷ []) ++ later
further m before rest x later e f = e ∙ ap (λ t. before ++ t) f ∙ sym (append_assoc before (x ∷ []) later)

-- a token, and then Q
module _ {X Y : Type 0} (value : Mark → Option X) (Q : Bounds → List Mark → Y → List Mark → Type 0) where
  one_lacks : (y : Mark) (more : List Mark) (x : X) (m : List Mark) → value y ≡ None → One value none (y ∷ more) x m → ⊥
  one_lacks y more x m isnt h = let is : y ≡ h.mark = (let e = h.there in cc) in let v : value y ≡ Some x = ap value is ∙ h.is in cc

  one_wrong : (b : Bounds) (s : List Mark) (x : X) (m : List Mark) → Lacks value s → One value b s x m → ⊥
  one_wrong b [] x m isnt h = let e = h.there in cc
  one_wrong b (y ∷ rest) x m isnt h = let is : y ≡ h.mark = (let e = h.there in cc) in let v : value y ≡ Some x = ap value is ∙ h.is in cc

  one_nowhere : (s : List Mark) → Lacks value s → NoneHas (Then (One value) Q) [] s
  one_nowhere [] isnt = λ x r h. let e = h.first.there in cc
  one_nowhere (y ∷ rest) isnt = λ more x r h. one_lacks y more x.0 h.middle isnt h.first

  -- it isn't there
  pub one_refused : (s : List Mark) (y : Mark) (x : X) → Lacks value s → value y ≡ Some x → Begins Q [] → RefusesAt (Then (One value) Q) s s
  one_refused s y x isnt is q = record {
    before = [];
    is = refl;
    begins = record {
      more = y ∷ q.more;
      value = (x, q.value);
      goes_on = λ tail. record { middle = q.more ++ end_mark ∷ tail; first = record { mark = y; there = refl; is = is }; second = q.goes_on tail };
    };
    nowhere = one_nowhere s isnt;
    placed = no_formula none_free;
    short = tt;
    wrong = λ z r h. one_wrong limits s z.0 h.middle isnt h.first;
  }

  -- what follows it isn't
  pub one_begins : (b : Bounds) (y : Mark) (x : X) (before : List Mark) → value y ≡ Some x → BeginsIn b Q before → BeginsIn b (Then (One value) Q) (y ∷ before)
  one_begins b y x before is q = record {
    more = q.more;
    value = (x, q.value);
    goes_on = λ tail. record { middle = before ++ (q.more ++ end_mark ∷ tail); first = record { mark = y; there = refl; is = is }; second = q.goes_on tail };
  }

  pub one_then_nowhere : (b : Bounds) (y : Mark) (before rest : List Mark) → NoneHasIn b Q before rest → NoneHasIn b (Then (One value) Q) (y ∷ before) rest
  one_then_nowhere b y before [] q = λ x r h. let tail : h.middle ≡ before = (let e = h.first.there in cc) in q x.1 r (subst (λ t. Q b t x.1 r) tail h.second)
  one_then_nowhere b y before (z ∷ rest) q = λ more x r h.
      let tail : h.middle ≡ before ++ z ∷ more = (let e = h.first.there in cc) in q more x.1 r (subst (λ t. Q b t x.1 r) tail h.second)

  pub one_then_wrong : (s m : List Mark) (x : X) → One value limits s x m → ((y : Y) (r : List Mark) → Q limits m y r → ⊥) → (z : X × Y) (r : List Mark) → Then (One value) Q limits s z r → ⊥
  one_then_wrong s m x h q z r k =
      let there : h.mark ∷ m ≡ k.first.mark ∷ k.middle = sym h.there ∙ k.first.there in
      let tail : k.middle ≡ m = cc in
      q z.1 r (subst (λ t. Q limits t z.1 r) tail k.second)

  pub one_then_refused : (s m rest : List Mark) (x : X) (h : One value limits s x m) (q : RefusesAt Q m rest) → NoFormula (h.mark ∷ []) → RefusesAt (Then (One value) Q) s rest
  one_then_refused s m rest x h q alone = record {
    before = h.mark ∷ q.before;
    is = h.there ∙ ap (λ t. h.mark ∷ t) q.is;
    begins = one_begins parts h.mark x q.before h.is q.begins;
    nowhere = one_then_nowhere none h.mark q.before rest q.nowhere;
    placed = placed_behind (h.mark ∷ []) q.before rest (λ _. alone) q.placed;
    short = alone_short h.mark q.before [] alone q.short;
    wrong = one_then_wrong s m x h q.wrong;
  }

  pub one_then_passes : (s m rest : List Mark) (x : X) (h : One value limits s x m) → Passes Q m rest → NoFormula (h.mark ∷ []) → Passes (Then (One value) Q) s rest
  one_then_passes s m rest x h q alone = record {
    before = h.mark ∷ q.before;
    token = q.token;
    later = q.later;
    is = h.there ∙ ap (λ t. h.mark ∷ t) q.is;
    next = q.next;
    begins = one_begins parts h.mark x q.before h.is q.begins;
    short = alone_short h.mark q.before [] alone q.short;
    large = large_as Q (Then (One value) Q) (h.mark ∷ []) q.before q.token q.later (one_begins none h.mark x (q.before ++ q.token ∷ []) h.is)
        (one_then_nowhere parts h.mark q.before (q.token ∷ q.later)) q.large;
    wrong = one_then_wrong s m x h q.wrong;
  }

-- P, and then Q, which may be left out
module _ {X Y : Type 0} (P : Bounds → List Mark → X → List Mark → Type 0) (Q : Bounds → List Mark → Y → List Mark → Type 0) where
  first_begins : (b : Bounds) (before : List Mark) → BeginsIn b P before → CanSkip Q → BeginsIn b (Then P Q) before
  first_begins b before h q = record {
    more = h.more ++ q.fill;
    value = (h.value, q.value);
    goes_on = λ tail.
        let later : end_mark ∷ q.behind tail ≡ q.fill ++ end_mark ∷ tail = sym (q.starts tail) in
        record {
          middle = q.fill ++ end_mark ∷ tail;
          first = subst (λ t. P b (before ++ t) h.value (q.fill ++ end_mark ∷ tail)) (sym (append_assoc h.more q.fill (end_mark ∷ tail)))
              (subst (λ t. P b (before ++ (h.more ++ t)) h.value t) later (h.goes_on (q.behind tail)));
          second = q.skips b tail;
        };
  }

  first_nowhere : (b : Bounds) (before rest : List Mark) → NoneHasIn b P before rest → NoneHasIn b (Then P Q) before rest
  first_nowhere b before [] h = λ x r k. h x.0 k.middle k.first
  first_nowhere b before (y ∷ rest) h = λ more x r k. h more x.0 k.middle k.first

  pub first_refused : (s rest : List Mark) → RefusesAt P s rest → CanSkip Q → RefusesAt (Then P Q) s rest
  first_refused s rest h q = record { before = h.before; is = h.is; begins = first_begins parts h.before h.begins q; nowhere = first_nowhere none h.before rest h.nowhere; placed = h.placed; short = h.short; wrong = λ z r k. h.wrong z.0 k.middle k.first }

  pub first_passes : (s rest : List Mark) → Passes P s rest → CanSkip Q → Passes (Then P Q) s rest
  first_passes s rest h q = record { before = h.before; token = h.token; later = h.later; is = h.is; next = h.next; begins = first_begins parts h.before h.begins q; short = h.short; large = large_as P (Then P Q) [] h.before h.token h.later (λ k. first_begins none (h.before ++ h.token ∷ []) k q) (first_nowhere parts h.before (h.token ∷ h.later)) h.large; wrong = λ z r k. h.wrong z.0 k.middle k.first }

  pub both_skip : CanSkip P → CanSkip Q → CanSkip (Then P Q)
  both_skip p q = record {
    fill = p.fill ++ q.fill;
    value = (p.value, q.value);
    behind = λ tail. p.behind (q.behind tail);
    starts = λ tail. append_assoc p.fill q.fill (end_mark ∷ tail) ∙ ap (λ t. p.fill ++ t) (q.starts tail) ∙ p.starts (q.behind tail);
    skips = λ b tail.
        let later : end_mark ∷ q.behind tail ≡ q.fill ++ end_mark ∷ tail = sym (q.starts tail) in
        record {
          middle = q.fill ++ end_mark ∷ tail;
          first = subst (λ t. P b t p.value (q.fill ++ end_mark ∷ tail)) (sym (append_assoc p.fill q.fill (end_mark ∷ tail)))
              (subst (λ t. P b (p.fill ++ t) p.value t) later (p.skips b (q.behind tail)));
          second = q.skips b tail;
        };
  }

  module _ (p : Good P) where
    second_begins : (b : Bounds) (front m before rest : List Mark) (x : X) → P limits (front ++ m) x m → m ≡ before ++ rest → BeginsIn b Q before → CanSkip Q → BeginsIn b (Then P Q) (front ++ before)
    second_begins b front m [] rest x h e q skip = record {
      more = skip.fill;
      value = (x, skip.value);
      goes_on = λ tail.
          let n : List Mark = skip.fill ++ end_mark ∷ tail in
          record {
            middle = n;
            first = subst (λ t. P b (t ++ n) x n) (sym (append-nil front)) (p.keeps b front m n x (p.loosens limits b tt (front ++ m) x m h) (closing (skip.behind tail) (skip.starts tail)));
            second = skip.skips b tail;
          };
    }
    second_begins b front m (y ∷ before) rest x h e q skip = record {
      more = q.more;
      value = (x, q.value);
      goes_on = λ tail.
          let n : List Mark = (y ∷ before) ++ (q.more ++ end_mark ∷ tail) in
          let follows : SameStart m n = subst (λ t. SameStart t n) (sym e) same_first in
          record {
            middle = n;
            first = subst (λ t. P b t x n) (sym (append_assoc front (y ∷ before) (q.more ++ end_mark ∷ tail))) (p.keeps b front m n x (p.loosens limits b tt (front ++ m) x m h) (same follows));
            second = q.goes_on tail;
          };
    }

    starts_alike : (before : List Mark) (y : Mark) (rest more : List Mark) → SameStart (before ++ y ∷ rest) (before ++ y ∷ more)
    starts_alike [] y rest more = same_first
    starts_alike (x ∷ before) y rest more = same_first

    second_nowhere : (b : Bounds) (front m before rest : List Mark) (x : X) → P limits (front ++ m) x m → m ≡ before ++ rest → NoneHasIn b Q before rest → NoneHasIn b (Then P Q) (front ++ before) rest
    second_nowhere b front m before [] x h e q = λ y r k.
        let all : m ≡ before = e ∙ append-nil before in
        let middle : k.middle ≡ m = p.agrees limits b front m m x y.0 k.middle h (same_start_self m) (subst (λ t. P b (front ++ t) y.0 k.middle) (sym all) k.first) in
        q y.1 r (subst (λ t. Q b t y.1 r) (middle ∙ all) k.second)
    second_nowhere b front m before (z ∷ rest) x h e q = λ more y r k.
        let n : List Mark = before ++ z ∷ more in
        let alike : SameStart m n = subst (λ t. SameStart t n) (sym e) (starts_alike before z rest more) in
        let middle : k.middle ≡ n =
        p.agrees limits b front m n x y.0 k.middle h alike (subst (λ t. P b t y.0 k.middle) (append_assoc front before (z ∷ more)) k.first) in
        q more y.1 r (subst (λ t. Q b t y.1 r) middle k.second)

    second_wrong : (s m front : List Mark) (x : X) → P limits (front ++ m) x m → s ≡ front ++ m → ((y : Y) (r : List Mark) → Q limits m y r → ⊥) → (z : X × Y) (r : List Mark) → Then P Q limits s z r → ⊥
    second_wrong s m front x h e q z r k =
        let middle : k.middle ≡ m = p.agrees limits limits front m m x z.0 k.middle h (same_start_self m) (subst (λ t. P limits t z.0 k.middle) e k.first) in
        q z.1 r (subst (λ t. Q limits t z.1 r) middle k.second)

    pub second_refused : Leaves P → (s m rest : List Mark) (x : X) → P limits s x m → RefusesAt Q m rest → CanSkip Q → RefusesAt (Then P Q) s rest
    second_refused leaves s m rest x h q skip =
        let front = p.split limits s x m h in
        let there : P limits (front.0 ++ m) x m = subst (λ t. P limits t x m) front.1 h in
        record {
          before = front.0 ++ q.before;
          is = behind_is front.0 s m q.before rest front.1 q.is;
          begins = second_begins parts front.0 m q.before rest x there q.is q.begins skip;
          nowhere = second_nowhere none front.0 m q.before rest x there q.is q.nowhere;
          placed = placed_behind front.0 q.before rest (λ e. leaves.free limits front.0 m x there (ap (is_at is_plain) q.is ∙ e)) q.placed;
          short = short_behind front.0 m q.before rest q.is (leaves.short front.0 m x there) q.short;
          wrong = second_wrong s m front.0 x there front.1 q.wrong;
        }

    pub second_passes : Leaves P → (s m rest : List Mark) (x : X) → P limits s x m → Passes Q m rest → CanSkip Q → Passes (Then P Q) s rest
    second_passes leaves s m rest x h q skip =
        let front = p.split limits s x m h in
        let there : P limits (front.0 ++ m) x m = subst (λ t. P limits t x m) front.1 h in
        record {
          before = front.0 ++ q.before;
          token = q.token;
          later = q.later;
          is = behind_is front.0 s m q.before rest front.1 q.is;
          next = q.next;
          begins = second_begins parts front.0 m q.before rest x there q.is q.begins skip;
          short = short_behind front.0 m q.before rest q.is (leaves.short front.0 m x there) q.short;
          large = large_as Q (Then P Q) front.0 q.before q.token q.later (λ k. second_begins none front.0 m (q.before ++ q.token ∷ []) q.later x there (further m q.before rest q.token q.later q.is q.next) k skip)
              (second_nowhere parts front.0 m q.before (q.token ∷ q.later) x there (q.is ∙ ap (λ t. q.before ++ t) q.next)) q.large;
          wrong = second_wrong s m front.0 x there front.1 q.wrong;
        }

-- another value
module _ {X Y : Type 0} (f : X → Y) (P : Bounds → List Mark → X → List Mark → Type 0) where
  pub of_begins : (b : Bounds) (before : List Mark) → BeginsIn b P before → BeginsIn b (Of f P) before
  of_begins b before h = record { more = h.more; value = f h.value; goes_on = λ tail. record { from = h.value; is = refl; part = h.goes_on tail } }

  pub of_nowhere : (b : Bounds) (before rest : List Mark) → NoneHasIn b P before rest → NoneHasIn b (Of f P) before rest
  of_nowhere b before [] h = λ x r k. h k.from r k.part
  of_nowhere b before (y ∷ rest) h = λ more x r k. h more k.from r k.part

  pub of_refused : (s rest : List Mark) → RefusesAt P s rest → RefusesAt (Of f P) s rest
  of_refused s rest h = record { before = h.before; is = h.is; begins = of_begins parts h.before h.begins; nowhere = of_nowhere none h.before rest h.nowhere; placed = h.placed; short = h.short; wrong = λ z r k. h.wrong k.from r k.part }

  pub of_passes : (s rest : List Mark) → Passes P s rest → Passes (Of f P) s rest
  of_passes s rest h = record { before = h.before; token = h.token; later = h.later; is = h.is; next = h.next; begins = of_begins parts h.before h.begins; short = h.short; large = large_as P (Of f P) [] h.before h.token h.later (of_begins none (h.before ++ h.token ∷ [])) (of_nowhere parts h.before (h.token ∷ h.later)) h.large; wrong = λ z r k. h.wrong k.from r k.part }

  pub of_skip : CanSkip P → CanSkip (Of f P)
  of_skip h = record { fill = h.fill; value = f h.value; behind = h.behind; starts = h.starts; skips = λ b tail. record { from = h.value; is = refl; part = h.skips b tail } }

-- a choice by the first token
module _ {X : Type 0} (test : Mark → Bool) (P Q : Bounds → List Mark → X → List Mark → Type 0) where
  contrary : true ≡ false → ⊥
  contrary e = cc

  pub taken_begins : (b : Bounds) (y : Mark) (before : List Mark) → test y ≡ true → BeginsIn b P before → BeginsIn b (Choice test P Q) (y ∷ before)
  taken_begins b y before is h = record { more = h.more; value = h.value; goes_on = λ tail. taken y (before ++ (h.more ++ end_mark ∷ tail)) refl is (h.goes_on tail) }

  taken_none : (b : Bounds) (y : Mark) (t : List Mark) (x : X) (r : List Mark) → test y ≡ true → (P b t x r → ⊥) → Choice test P Q b (y ∷ t) x r → ⊥
  taken_none b y t x r is h (taken z u e is' k) = let tail : u ≡ t = cc in h (subst (λ v. P b v x r) tail k)
  taken_none b y t x r is h (other isnt k) = contrary (sym is ∙ isnt)

  pub taken_nowhere : (b : Bounds) (y : Mark) (before rest : List Mark) → test y ≡ true → NoneHasIn b P before rest → NoneHasIn b (Choice test P Q) (y ∷ before) rest
  taken_nowhere b y before [] is h = λ x r. taken_none b y before x r is (h x r)
  taken_nowhere b y before (z ∷ rest) is h = λ more x r. taken_none b y (before ++ z ∷ more) x r is (h more x r)

  pub taken_wrong : (s m : List Mark) (y : Mark) → s ≡ y ∷ m → test y ≡ true → ((x : X) (r : List Mark) → P limits m x r → ⊥) → (x : X) (r : List Mark) → Choice test P Q limits s x r → ⊥
  taken_wrong s m y e is h x r (taken z u e' is' k) = let there : y ∷ m ≡ z ∷ u = sym e ∙ e' in let tail : u ≡ m = cc in h x r (subst (λ v. P limits v x r) tail k)
  taken_wrong s m y e is h x r (other isnt k) = contrary (sym is ∙ ap (is_at test) (sym e) ∙ isnt)

  pub taken_refused : ((y : Mark) → test y ≡ true → NoFormula (y ∷ [])) → (s m rest : List Mark) (y : Mark) → s ≡ y ∷ m → test y ≡ true → RefusesAt P m rest → RefusesAt (Choice test P Q) s rest
  taken_refused words s m rest y e is h = record {
    before = y ∷ h.before;
    is = e ∙ ap (λ t. y ∷ t) h.is;
    begins = taken_begins parts y h.before is h.begins;
    nowhere = taken_nowhere none y h.before rest is h.nowhere;
    placed = placed_behind (y ∷ []) h.before rest (λ _. words y is) h.placed;
    short = alone_short y h.before [] (words y is) h.short;
    wrong = taken_wrong s m y e is h.wrong;
  }

  pub taken_passes : ((y : Mark) → test y ≡ true → NoFormula (y ∷ [])) → (s m rest : List Mark) (y : Mark) → s ≡ y ∷ m → test y ≡ true → Passes P m rest → Passes (Choice test P Q) s rest
  taken_passes words s m rest y e is h = record {
    before = y ∷ h.before;
    token = h.token;
    later = h.later;
    is = e ∙ ap (λ t. y ∷ t) h.is;
    next = h.next;
    begins = taken_begins parts y h.before is h.begins;
    short = alone_short y h.before [] (words y is) h.short;
    large = large_as P (Choice test P Q) (y ∷ []) h.before h.token h.later (taken_begins none y (h.before ++ h.token ∷ []) is) (taken_nowhere parts y h.before (h.token ∷ h.later) is) h.large;
    wrong = taken_wrong s m y e is h.wrong;
  }

  pub other_some : (b : Bounds) (y : Mark) (before : List Mark) → test y ≡ false → BeginsIn b Q (y ∷ before) → BeginsIn b (Choice test P Q) (y ∷ before)
  other_some b y before isnt h = record { more = h.more; value = h.value; goes_on = λ tail. other isnt (h.goes_on tail) }

  -- the other part is refused; how it may begin is known
  other_begins : (s before rest : List Mark) → s ≡ before ++ rest → is_at test s ≡ false → Begins (Choice test P Q) [] → Begins Q before → Begins (Choice test P Q) before
  other_begins s [] rest e isnt start h = start
  other_begins s (y ∷ before) rest e isnt start h = other_some parts y before (ap (is_at test) (sym e) ∙ isnt) h

  other_wide : (s before rest : List Mark) (x : Mark) (later : List Mark) → s ≡ before ++ rest → rest ≡ x ∷ later → is_at test s ≡ false → BeginsIn none Q (before ++ x ∷ []) → BeginsIn none (Choice test P Q) (before ++ x ∷ [])
  other_wide s [] rest x later e f isnt h = other_some none x [] (ap (is_at test) (sym (e ∙ f)) ∙ isnt) h
  other_wide s (y ∷ before) rest x later e f isnt h = other_some none y (before ++ x ∷ []) (ap (is_at test) (sym e) ∙ isnt) h

  other_none : (b : Bounds) (t : List Mark) (x : X) (r : List Mark) → is_at test t ≡ false → (Q b t x r → ⊥) → Choice test P Q b t x r → ⊥
  other_none b t x r isnt h (taken z u e is k) = contrary (sym is ∙ ap (is_at test) (sym e) ∙ isnt)
  other_none b t x r isnt h (other isnt' k) = h k

  first_alike : (before : List Mark) (z : Mark) (rest more : List Mark) → is_at test (before ++ z ∷ rest) ≡ false → is_at test (before ++ z ∷ more) ≡ false
  first_alike [] z rest more e = e
  first_alike (y ∷ before) z rest more e = e

  pub other_nowhere : (b : Bounds) (s before rest : List Mark) → s ≡ before ++ rest → is_at test s ≡ false → NoneHasIn b Q before rest → NoneHasIn b (Choice test P Q) before rest
  other_nowhere b s before [] e isnt h = λ x r. other_none b before x r (ap (is_at test) (sym (append-nil before) ∙ sym e) ∙ isnt) (h x r)
  other_nowhere b s before (z ∷ rest) e isnt h = λ more x r. other_none b (before ++ z ∷ more) x r (first_alike before z rest more (ap (is_at test) (sym e) ∙ isnt)) (h more x r)

  pub other_wrong : (s : List Mark) → is_at test s ≡ false → ((x : X) (r : List Mark) → Q limits s x r → ⊥) → (x : X) (r : List Mark) → Choice test P Q limits s x r → ⊥
  other_wrong s isnt h x r (taken z u e is k) = contrary (sym is ∙ ap (is_at test) (sym e) ∙ isnt)
  other_wrong s isnt h x r (other isnt' k) = h x r k

  pub other_refused : (s rest : List Mark) → is_at test s ≡ false → Begins (Choice test P Q) [] → RefusesAt Q s rest → RefusesAt (Choice test P Q) s rest
  other_refused s rest isnt start h = record {
    before = h.before;
    is = h.is;
    begins = other_begins s h.before rest h.is isnt start h.begins;
    nowhere = other_nowhere none s h.before rest h.is isnt h.nowhere;
    placed = h.placed;
    short = h.short;
    wrong = other_wrong s isnt h.wrong;
  }

  pub other_passes : (s rest : List Mark) → is_at test s ≡ false → Begins (Choice test P Q) [] → Passes Q s rest → Passes (Choice test P Q) s rest
  other_passes s rest isnt start h = record {
    before = h.before;
    token = h.token;
    later = h.later;
    is = h.is;
    next = h.next;
    begins = other_begins s h.before rest h.is isnt start h.begins;
    short = h.short;
    large = large_as Q (Choice test P Q) [] h.before h.token h.later (other_wide s h.before rest h.token h.later h.is h.next isnt)
        (other_nowhere parts s h.before (h.token ∷ h.later) (h.is ∙ ap (λ t. h.before ++ t) h.next) isnt) h.large;
    wrong = other_wrong s isnt h.wrong;
  }

  pub other_skip : test end_mark ≡ false → CanSkip Q → CanSkip (Choice test P Q)
  other_skip isnt h = record { fill = h.fill; value = h.value; behind = h.behind; starts = h.starts; skips = λ b tail. other (ap (is_at test) (h.starts tail) ∙ isnt) (h.skips b tail) }

-- any number of parts
module _ {X : Type 0} (test : Mark → Bool) (P : Bounds → List Mark → X → List Mark → Type 0) (p : Good P) (not_end : test end_mark ≡ false)
    (takes : (b : Bounds) (s : List Mark) (x : X) (m : List Mark) → P b s x m → length m < length s) where
  pub many_skip : CanSkip (Many test P)
  many_skip = left_out (Many test P) [] (λ b tail. no_more not_end refl)

  contrary' : true ≡ false → ⊥
  contrary' e = cc

  -- a part is refused
  here_begins : (b : Bounds) (s before rest : List Mark) → s ≡ before ++ rest → is_at test s ≡ true → BeginsIn b P before → BeginsIn b (Many test P) before
  here_begins b s [] rest e does h = skip_begins (Many test P) many_skip b
  here_begins b s (y ∷ before) rest e does h = record {
    more = h.more;
    value = h.value ∷ [];
    goes_on = λ tail. one_more (ap (is_at test) (sym e) ∙ does) (h.goes_on tail) (no_more not_end refl);
  }

  here_wrong : (t : List Mark) → is_at test t ≡ true → ((x : X) (m : List Mark) → P limits t x m → ⊥) → (xs : List X) (r : List Mark) → Many test P limits t xs r → ⊥
  here_wrong t does h xs r (no_more isnt e) = contrary' (sym does ∙ isnt)
  here_wrong t does h xs r (one_more {m = m} {x = x} does' k ks) = h x m k

  here_none : (b : Bounds) (t : List Mark) (xs : List X) (r : List Mark) → is_at test t ≡ true → ((x : X) (m : List Mark) → P b t x m → ⊥) → Many test P b t xs r → ⊥
  here_none b t xs r does h (no_more isnt e) = contrary' (sym does ∙ isnt)
  here_none b t xs r does h (one_more {m = m} {x = x} does' k ks) = h x m k

  yes_alike : (before : List Mark) (z : Mark) (rest more : List Mark) → is_at test (before ++ z ∷ rest) ≡ true → is_at test (before ++ z ∷ more) ≡ true
  yes_alike [] z rest more e = e
  yes_alike (y ∷ before) z rest more e = e

  here_nowhere : (b : Bounds) (s before rest : List Mark) → s ≡ before ++ rest → is_at test s ≡ true → NoneHasIn b P before rest → NoneHasIn b (Many test P) before rest
  here_nowhere b s before [] e does h = λ xs r. here_none b before xs r (ap (is_at test) (sym (append-nil before) ∙ sym e) ∙ does) h
  here_nowhere b s before (z ∷ rest) e does h = λ more xs r. here_none b (before ++ z ∷ more) xs r (yes_alike before z rest more (ap (is_at test) (sym e) ∙ does)) (h more)

  pub many_here : (s rest : List Mark) → is_at test s ≡ true → RefusesAt P s rest → RefusesAt (Many test P) s rest
  many_here s rest does h = record {
    before = h.before;
    is = h.is;
    begins = here_begins parts s h.before rest h.is does h.begins;
    nowhere = here_nowhere none s h.before rest h.is does h.nowhere;
    placed = h.placed;
    short = h.short;
    wrong = here_wrong s does h.wrong;
  }

  pub many_here_passes : (s rest : List Mark) → is_at test s ≡ true → Passes P s rest → Passes (Many test P) s rest
  many_here_passes s rest does h = record {
    before = h.before;
    token = h.token;
    later = h.later;
    is = h.is;
    next = h.next;
    begins = here_begins parts s h.before rest h.is does h.begins;
    short = h.short;
    large = large_as P (Many test P) [] h.before h.token h.later (here_begins none s (h.before ++ h.token ∷ []) h.later (further s h.before rest h.token h.later h.is h.next) does)
        (here_nowhere parts s h.before (h.token ∷ h.later) (h.is ∙ ap (λ t. h.before ++ t) h.next) does) h.large;
    wrong = here_wrong s does h.wrong;
  }

  -- one part, and then what is refused of the others
  at_first : (f n k : List Mark) → 0 < length f → is_at test (f ++ k) ≡ true → is_at test (f ++ n) ≡ true
  at_first [] n k some e = absurd (omega arith)
  at_first (y ∷ f) n k some e = e

  from_both : (b : Bounds) (t : List Mark) (xs : X × List X) (r : List Mark) → is_at test t ≡ true → Then P (Many test P) b t xs r → Many test P b t (xs.0 ∷ xs.1) r
  from_both b t xs r does h = one_more does h.first h.second

  to_both : (b : Bounds) (t : List Mark) (xs : List X) (r : List Mark) → is_at test t ≡ true → ((ys : X × List X) → Then P (Many test P) b t ys r → ⊥) → Many test P b t xs r → ⊥
  to_both b t xs r does h (no_more isnt e) = contrary' (sym does ∙ isnt)
  to_both b t xs r does h (one_more {m = m} {x = x} {xs = ys} does' k ks) = h (x, ys) (record { middle = m; first = k; second = ks })

  later_nowhere : (b : Bounds) (s before rest : List Mark) → s ≡ before ++ rest → is_at test s ≡ true → NoneHasIn b (Then P (Many test P)) before rest → NoneHasIn b (Many test P) before rest
  later_nowhere b s before [] e does h = λ xs r. to_both b before xs r (ap (is_at test) (sym (append-nil before) ∙ sym e) ∙ does) (λ ys. h ys r)
  later_nowhere b s before (z ∷ rest) e does h = λ more xs r. to_both b (before ++ z ∷ more) xs r (yes_alike before z rest more (ap (is_at test) (sym e) ∙ does)) (λ ys. h more ys r)

  later_begins : (b : Bounds) (s before rest : List Mark) → 0 < length before → s ≡ before ++ rest → is_at test s ≡ true → BeginsIn b (Then P (Many test P)) before → BeginsIn b (Many test P) before
  later_begins b s before rest some e does h = record {
    more = h.more;
    value = h.value.0 ∷ h.value.1;
    goes_on = λ tail. from_both b _ h.value (end_mark ∷ tail) (at_first before (h.more ++ end_mark ∷ tail) rest some (ap (is_at test) (sym e) ∙ does)) (h.goes_on tail);
  }

  front_some : (s m before rest front : List Mark) (x : X) → P limits s x m → s ≡ front ++ m → 0 < length (front ++ before)
  front_some s m before rest front x h e = omega (arith, takes limits s x m h, ap length e, length-append front m, length-append front before)

  pub many_later : Leaves P → (s m rest : List Mark) (x : X) → is_at test s ≡ true → P limits s x m → RefusesAt (Many test P) m rest → RefusesAt (Many test P) s rest
  unfolding second_refused
  many_later leaves s m rest x does h q =
      let both = second_refused P (Many test P) p leaves s m rest x h q many_skip in
      let front = p.split limits s x m h in
      record {
        before = both.before;
        is = both.is;
        begins = later_begins parts s both.before rest (front_some s m q.before rest front.0 x h front.1) both.is does both.begins;
        nowhere = later_nowhere none s both.before rest both.is does both.nowhere;
        placed = both.placed;
        short = both.short;
        wrong = λ xs r. to_both limits s xs r does (λ ys. both.wrong ys r);
      }

  pub many_later_passes : Leaves P → (s m rest : List Mark) (x : X) → is_at test s ≡ true → P limits s x m → Passes (Many test P) m rest → Passes (Many test P) s rest
  unfolding second_passes
  many_later_passes leaves s m rest x does h q =
      let both = second_passes P (Many test P) p leaves s m rest x h q many_skip in
      let front = p.split limits s x m h in
      record {
        before = both.before;
        token = both.token;
        later = both.later;
        is = both.is;
        next = both.next;
        begins = later_begins parts s both.before rest (front_some s m q.before rest front.0 x h front.1) both.is does both.begins;
        short = both.short;
        large = large_as (Then P (Many test P)) (Many test P) [] both.before both.token both.later
            (later_begins none s (both.before ++ both.token ∷ []) both.later (omega (arith, front_some s m q.before rest front.0 x h front.1, length-append both.before (both.token ∷ [])))
            (further s both.before rest both.token both.later both.is both.next) does)
            (later_nowhere parts s both.before (both.token ∷ both.later) (both.is ∙ ap (λ t. both.before ++ t) both.next) does) both.large;
        wrong = λ xs r. to_both limits s xs r does (λ ys. both.wrong ys r);
      }
