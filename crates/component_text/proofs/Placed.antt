-- Where a token that is refused passes no limit.
use Rattle.std.proofs.Common.{◌≡◌, ◌∙◌, ap, ℕ, List, [], ◌∷◌, ◌++◌, Bool, true, false, Some, None, length, map, refl, sym, subst, append_assoc, append-nil}
use Rattle.std.specs.Prelude.{Option}
use Rattle.std.proofs.lemmas.List.{append_cancel_right}
use Rattle.math_grammar.specs.Tokens.{Item}
use Rattle.formula_parse.specs.Limits.{first_large}
use Rattle.component_text.specs.Marks.{Mark, word, label, plain, token_run, is_at}
use Rattle.component_text.specs.Forms.{Bounds, limits, One, FormulaRun, Nothing, Then, Choice, taken, other, Many, no_more, one_more, Of}
use Rattle.component_text.specs.Faults.{opens_formula, IsLong}
use Rattle.component_text.specs.PrivateReading.{is_plain, NoFormula, behind_word, all_plain, AreShort, Placed, not_plain, no_formula, in_formula}
use Rattle.component_text.proofs.Shorts.{alone_short, short_append, run_short}
use Rattle.component_text.proofs.Parts.{Ended, nothing_there, at_word, at_label, run_ends, run_of, Good}

map_append : (f g : List Item) → map plain (f ++ g) ≡ map plain f ++ map plain g
map_append [] g = refl
map_append (x ∷ f) g = ap (λ t. plain x ∷ t) (map_append f g)

-- the last word or label, and the tokens behind it
abbrev opened_by : Mark → List Mark → Option (Mark × List Item) → Option (Mark × List Item)
opened_by x s (Some r) = Some r
opened_by (plain y) s None = None
opened_by (word w p) s None = Some (word w p, token_run s)
opened_by (label l p) s None = Some (label l p, token_run s)

abbrev opened : List Mark → Option (Mark × List Item)
opened [] = None
opened (x ∷ s) = opened_by x s (opened s)

opened_plain : (f : List Item) → opened (map plain f) ≡ None
opened_plain [] = refl
opened_plain (x ∷ f) = ap (opened_by (plain x) (map plain f)) (opened_plain f)

run_plain : (f : List Item) → token_run (map plain f) ≡ f
run_plain f = ap token_run (sym (append-nil (map plain f))) ∙ run_of f [] nothing_there

opened_further : (x : Mark) (s : List Mark) (r : Mark × List Item) → opened s ≡ Some r → opened (x ∷ s) ≡ Some r
opened_further x s r e = ap (opened_by x s) e

-- what opens it is no token of a formula
opened_at : (lead : List Mark) (y : Mark) (f : List Item) → is_plain y ≡ false → opened (lead ++ (y ∷ map plain f)) ≡ Some (y, f)
opened_at [] (word w p) f e = ap (opened_by (word w p) (map plain f)) (opened_plain f) ∙ ap (λ (g : List Item). Some (word w p, g)) (run_plain f)
opened_at [] (label l p) f e = ap (opened_by (label l p) (map plain f)) (opened_plain f) ∙ ap (λ (g : List Item). Some (label l p, g)) (run_plain f)
opened_at [] (plain x) f e = cc
opened_at (x ∷ lead) y f e = opened_further x (lead ++ (y ∷ map plain f)) (y, f) (opened_at lead y f e)

opens_is : (y : Mark) → opens_formula y ≡ true → is_plain y ≡ false
opens_is (word w p) e = refl
opens_is (label l p) e = refl
opens_is (plain x) e = cc

formula_opens : (before : List Mark) (x : Mark) (h : IsLong before x) → opened before ≡ Some (h.opening, h.formula)
formula_opens before x h = ap opened h.is ∙ opened_at h.lead h.opening h.formula (opens_is h.opening h.opens)

-- whether it opens a formula, and the tokens
abbrev has_formula : Option (Mark × List Item) → Bool
has_formula None = false
has_formula (Some r) = opens_formula r.0

abbrev items_in : Option (Mark × List Item) → List Item
items_in None = []
items_in (Some r) = r.1

no_long : (before : List Mark) (x : Mark) → NoFormula before → IsLong before x → ⊥
no_long before x (behind_word lead w p names e isnt) h =
    let clash : false ≡ true = sym isnt ∙ ap has_formula (sym (opened_at lead (word w p) names refl) ∙ ap opened (sym e) ∙ formula_opens before x h) ∙ h.opens in
    cc
no_long before x (all_plain names e) h =
    let clash : false ≡ true = ap has_formula (sym (opened_plain names) ∙ ap opened (sym e) ∙ formula_opens before x h) ∙ h.opens in
    cc

pub placed_small : (before rest : List Mark) → Placed before rest → (x : Mark) (later : List Mark) → rest ≡ x ∷ later → IsLong before x → ⊥
placed_small before rest (not_plain isnt) x later e h =
    let is : is_at is_plain rest ≡ true = ap (is_at is_plain) e ∙ ap is_plain h.token in
    let clash : true ≡ false = sym is ∙ isnt in
    cc
placed_small before rest (no_formula n) x later e h = no_long before x n h
placed_small before rest (in_formula lead z formula y after is opens next few) x later e h =
    let formulas : formula ≡ h.formula = ap items_in (sym (opened_at lead z formula (opens_is z opens)) ∙ ap opened (sym is) ∙ formula_opens before x h) in
    let first : plain y ∷ after ≡ plain h.item ∷ later = sym next ∙ e ∙ ap (λ m. m ∷ later) h.token in
    let items : y ≡ h.item = cc in
    let clash : None ≡ Some (length h.formula) = sym few ∙ ap (λ (f : List Item). first_large (f ++ y ∷ [])) formulas ∙ ap (λ (i : Item). first_large (h.formula ++ i ∷ [])) items ∙ h.large in
    cc

-- one behind another
pub both_free : (f g : List Mark) → NoFormula f → NoFormula g → NoFormula (f ++ g)
both_free f g n (behind_word lead w p names e o) = behind_word (f ++ lead) w p names (ap (λ t. f ++ t) e ∙ sym (append_assoc f lead (word w p ∷ map plain names))) o
both_free f g (behind_word lead w p names e o) (all_plain more d) =
    behind_word lead w p (names ++ more)
    (ap (λ t. t ++ g) e ∙ ap (λ t. (lead ++ (word w p ∷ map plain names)) ++ t) d ∙ append_assoc lead (word w p ∷ map plain names) (map plain more)
    ∙ ap (λ t. lead ++ (word w p ∷ t)) (sym (map_append names more))) o
both_free f g (all_plain names e) (all_plain more d) = all_plain (names ++ more) (ap (λ t. t ++ g) e ∙ ap (λ t. map plain names ++ t) d ∙ sym (map_append names more))

plain_start : (names : List Item) (m : List Mark) → is_at is_plain m ≡ true → is_at is_plain (map plain names ++ m) ≡ true
plain_start [] m e = e
plain_start (x ∷ names) m e = refl

pub join_free : (f g m : List Mark) → (is_at is_plain (g ++ m) ≡ true → NoFormula f) → NoFormula g → is_at is_plain m ≡ true → NoFormula (f ++ g)
join_free f g m h (behind_word lead w p names e o) is = behind_word (f ++ lead) w p names (ap (λ t. f ++ t) e ∙ sym (append_assoc f lead (word w p ∷ map plain names))) o
join_free f g m h (all_plain names e) is = both_free f g (h (ap (λ t. is_at is_plain (t ++ m)) e ∙ plain_start names m is)) (all_plain names e)

pub word_free : (w : List ℕ) (p : ℕ) → opens_formula (word w p) ≡ false → NoFormula (word w p ∷ [])
word_free w p e = behind_word [] w p [] refl e

pub none_free : NoFormula []
none_free = all_plain [] refl

-- a token that is refused behind what stands first
pub placed_behind : (f b rest : List Mark) → (is_at is_plain (b ++ rest) ≡ true → NoFormula f) → Placed b rest → Placed (f ++ b) rest
placed_behind f b rest h (not_plain e) = not_plain e
placed_behind f b rest h (in_formula lead z formula y later is opens next few) =
    in_formula (f ++ lead) z formula y later (ap (λ t. f ++ t) is ∙ sym (append_assoc f lead (z ∷ map plain formula))) opens next few
placed_behind f b rest h (no_formula n) = go (is_at is_plain rest) refl
  where
    go : (v : Bool) → is_at is_plain rest ≡ v → Placed (f ++ b) rest
    go true e = no_formula (join_free f b rest h n e)
    go false e = not_plain e

pub placed_after : (f rest : List Mark) → (is_at is_plain rest ≡ true → NoFormula f) → Placed f rest
placed_after f rest h = go (is_at is_plain rest) refl
  where
    go : (v : Bool) → is_at is_plain rest ≡ v → Placed f rest
    go true e = no_formula (h e)
    go false e = not_plain e

-- what a part leaves before a token of formulas, and that its formulas are within their limits
pub record Leaves {X : Type 0} (P : Bounds → List Mark → X → List Mark → Type 0) : Type 0 where
  pub free : (b : Bounds) (front m : List Mark) (x : X) → P b (front ++ m) x m → is_at is_plain m ≡ true → NoFormula front
  pub short : (front m : List Mark) (x : X) → P limits (front ++ m) x m → AreShort front m

pub not_ended : (m : List Mark) → Ended m → is_at is_plain m ≡ true → ⊥
not_ended [] nothing_there e = cc
not_ended (word w p ∷ s) at_word e = cc
not_ended (label l p ∷ s) at_label e = cc
not_ended (plain y ∷ s) x e = elim x [ ]

cancel : (f g m : List Mark) → f ++ m ≡ g ++ m → f ≡ g
cancel f g m e = append_cancel_right f g m e

module _ {X : Type 0} (value : Mark → Option X) (plains : (y : Mark) (x : X) → value y ≡ Some x → NoFormula (y ∷ [])) where
  pub leaves_one : Leaves (One value)
  leaves_one = record {
    free = λ b front m x h e. subst NoFormula (sym (cancel front (h.mark ∷ []) m h.there)) (plains h.mark x h.is);
    short = λ front m x h. subst (λ f. AreShort f m) (sym (cancel front (h.mark ∷ []) m h.there)) (alone_short h.mark [] m (plains h.mark x h.is) tt);
  }

module _ {X : Type 0} (absent : X) where
  pub leaves_nothing : Leaves (Nothing absent)
  leaves_nothing = record {
    free = λ b front m x h e. subst NoFormula (cancel [] front m h.behind) none_free;
    short = λ front m x h. subst (λ f. AreShort f m) (cancel [] front m h.behind) tt;
  }

-- a part that ends in a formula
module _ {X Y Z : Type 0} (f : X × Y → Z) (value : Mark → Option X) (F : Bounds → List Item → Y → Type 0) (fits : (s : List Item) (y : Y) → F limits s y → first_large s ≡ None) where
  pub leaves_formula : Leaves (Of f (Then (One value) (FormulaRun F)))
  leaves_formula = record {
    free = λ b front m x h e. absurd (not_ended m (subst Ended (sym h.part.second.behind) (run_ends h.part.middle)) e);
    short = λ front m x h. run_short F fits h.part.first.mark front h.part.middle m h.from.1 h.part.second h.part.first.there;
  }

module _ {X Y : Type 0} (f : X → Y) (P : Bounds → List Mark → X → List Mark → Type 0) (p : Leaves P) where
  pub leaves_of : Leaves (Of f P)
  leaves_of = record { free = λ b front m x h e. p.free b front m h.from h.part e; short = λ front m x h. p.short front m h.from h.part }

module _ {X Y : Type 0} (P : Bounds → List Mark → X → List Mark → Type 0) (Q : Bounds → List Mark → Y → List Mark → Type 0) (good : Good P) (good' : Good Q) (p : Leaves P) (q : Leaves Q) where
  then_leaves : (b : Bounds) (front m : List Mark) (x : X × Y) → Then P Q b (front ++ m) x m → is_at is_plain m ≡ true → NoFormula front
  then_leaves b front m x h e =
      let f = good.split b (front ++ m) x.0 h.middle h.first in
      let g = good'.split b h.middle x.1 m h.second in
      let whole : front ≡ f.0 ++ g.0 = cancel front (f.0 ++ g.0) m (f.1 ∙ ap (λ t. f.0 ++ t) g.1 ∙ sym (append_assoc f.0 g.0 m)) in
      let first : P b (f.0 ++ (g.0 ++ m)) x.0 (g.0 ++ m) = subst (λ t. P b (f.0 ++ t) x.0 t) g.1 (subst (λ t. P b t x.0 h.middle) f.1 h.first) in
      let second : Q b (g.0 ++ m) x.1 m = subst (λ t. Q b t x.1 m) g.1 h.second in
      subst NoFormula (sym whole) (join_free f.0 g.0 m (p.free b f.0 (g.0 ++ m) x.0 first) (q.free b g.0 m x.1 second e) e)

  then_short : (front m : List Mark) (x : X × Y) → Then P Q limits (front ++ m) x m → AreShort front m
  then_short front m x h =
      let f = good.split limits (front ++ m) x.0 h.middle h.first in
      let g = good'.split limits h.middle x.1 m h.second in
      let whole : front ≡ f.0 ++ g.0 = cancel front (f.0 ++ g.0) m (f.1 ∙ ap (λ t. f.0 ++ t) g.1 ∙ sym (append_assoc f.0 g.0 m)) in
      let first : P limits (f.0 ++ (g.0 ++ m)) x.0 (g.0 ++ m) = subst (λ t. P limits (f.0 ++ t) x.0 t) g.1 (subst (λ t. P limits t x.0 h.middle) f.1 h.first) in
      let second : Q limits (g.0 ++ m) x.1 m = subst (λ t. Q limits t x.1 m) g.1 h.second in
      subst (λ u. AreShort u m) (sym whole) (short_append f.0 g.0 m (p.short f.0 (g.0 ++ m) x.0 first) (q.short g.0 m x.1 second))

  pub leaves_then : Leaves (Then P Q)
  leaves_then = record { free = then_leaves; short = then_short }

module _ {X : Type 0} (test : Mark → Bool) (P Q : Bounds → List Mark → X → List Mark → Type 0) (good : Good P) (words : (y : Mark) → test y ≡ true → NoFormula (y ∷ [])) (p : Leaves P) (q : Leaves Q) where
  choice_leaves : (b : Bounds) (front m : List Mark) (x : X) → Choice test P Q b (front ++ m) x m → is_at is_plain m ≡ true → NoFormula front
  choice_leaves b front m x (taken y t d is h) e =
      let f = good.split b t x m h in
      let whole : front ≡ (y ∷ []) ++ f.0 = cancel front (y ∷ f.0) m (d ∙ ap (λ u. y ∷ u) f.1) in
      subst NoFormula (sym whole) (both_free (y ∷ []) f.0 (words y is) (p.free b f.0 m x (subst (λ u. P b u x m) f.1 h) e))
  choice_leaves b front m x (other isnt h) e = q.free b front m x h e

  choice_short : (front m : List Mark) (x : X) → Choice test P Q limits (front ++ m) x m → AreShort front m
  choice_short front m x (taken y t d is h) =
      let f = good.split limits t x m h in
      let whole : front ≡ (y ∷ []) ++ f.0 = cancel front (y ∷ f.0) m (d ∙ ap (λ u. y ∷ u) f.1) in
      subst (λ u. AreShort u m) (sym whole) (alone_short y f.0 m (words y is) (p.short f.0 m x (subst (λ u. P limits u x m) f.1 h)))
  choice_short front m x (other isnt h) = q.short front m x h

  pub leaves_choice : Leaves (Choice test P Q)
  leaves_choice = record { free = choice_leaves; short = choice_short }

module _ {X : Type 0} (test : Mark → Bool) (P : Bounds → List Mark → X → List Mark → Type 0) (good : Good P) (all : (b : Bounds) (s : List Mark) (xs : List X) (m : List Mark) → Many test P b s xs m → (front : List Mark) × (s ≡ front ++ m)) (p : Leaves P) where
  many_leaves : (b : Bounds) (s : List Mark) (xs : List X) (m : List Mark) → Many test P b s xs m → (front : List Mark) → s ≡ front ++ m → is_at is_plain m ≡ true → NoFormula front
  many_leaves b s xs m (no_more isnt d) front is e = subst NoFormula (cancel [] front m (d ∙ is)) none_free
  many_leaves b s xs m (one_more {m = k} {x = x} {xs = ys} does h hs) front is e =
      let f = good.split b s x k h in
      let g = all b k ys m hs in
      let whole : front ≡ f.0 ++ g.0 = cancel front (f.0 ++ g.0) m (sym is ∙ f.1 ∙ ap (λ t. f.0 ++ t) g.1 ∙ sym (append_assoc f.0 g.0 m)) in
      let first : P b (f.0 ++ (g.0 ++ m)) x (g.0 ++ m) = subst (λ t. P b (f.0 ++ t) x t) g.1 (subst (λ t. P b t x k) f.1 h) in
      subst NoFormula (sym whole) (join_free f.0 g.0 m (p.free b f.0 (g.0 ++ m) x first) (many_leaves b k ys m hs g.0 g.1 e) e)

  many_short : (s : List Mark) (xs : List X) (m : List Mark) → Many test P limits s xs m → (front : List Mark) → s ≡ front ++ m → AreShort front m
  many_short s xs m (no_more isnt d) front is = subst (λ u. AreShort u m) (cancel [] front m (d ∙ is)) tt
  many_short s xs m (one_more {m = k} {x = x} {xs = ys} does h hs) front is =
      let f = good.split limits s x k h in
      let g = all limits k ys m hs in
      let whole : front ≡ f.0 ++ g.0 = cancel front (f.0 ++ g.0) m (sym is ∙ f.1 ∙ ap (λ t. f.0 ++ t) g.1 ∙ sym (append_assoc f.0 g.0 m)) in
      let first : P limits (f.0 ++ (g.0 ++ m)) x (g.0 ++ m) = subst (λ t. P limits (f.0 ++ t) x t) g.1 (subst (λ t. P limits t x k) f.1 h) in
      subst (λ u. AreShort u m) (sym whole) (short_append f.0 g.0 m (p.short f.0 (g.0 ++ m) x first) (many_short k ys m hs g.0 g.1))

  pub leaves_many : Leaves (Many test P)
  leaves_many = record { free = λ b front m xs h e. many_leaves b (front ++ m) xs m h front refl e; short = λ front m xs h. many_short (front ++ m) xs m h front refl }
