-- Formulas within their limits of tokens and of open brackets.
use Rattle.std.proofs.Common.{◌≡◌, ◌∙◌, ap, ℕ, zero, suc, ◌+◌, List, [], ◌∷◌, ◌++◌, Bool, true, false, Some, None, cond, length, take, map, refl, sym, subst, arith, append_assoc, append-nil}
use Rattle.std.proofs.lemmas.List.{append_cancel_right}
use Rattle.math_grammar.specs.Tokens.{Item}
use Rattle.formula_parse.specs.Limits.{passes, open_after, first_large_from, first_large}
use Rattle.component_text.specs.Marks.{Mark, word, label, plain, token_run}
use Rattle.component_text.specs.Forms.{Bounds, limits, FormulaRun}
use Rattle.component_text.specs.Grammar.{is_a_label}
use Rattle.component_text.specs.Faults.{opens_formula, NoneIsLong}
use Rattle.component_text.specs.PrivateReading.{NoFormula, behind_word, all_plain, AreShort}
use Rattle.component_text.proofs.Parts.{Ended, nothing_there, run_split, run_ends, run_of}

-- tokens that stand first are within the limits, too
front_few : (i n : ℕ) (f g : List Item) → first_large_from i n (f ++ g) ≡ None → first_large_from i n f ≡ None
front_few i n [] g e = refl
front_few i n (x ∷ f) g e = go (passes i n x.symbol) e (front_few (i + 1) (open_after n x.symbol) f g)
  where
    go : (b : Bool) → cond b (Some i) (first_large_from (i + 1) (open_after n x.symbol) (f ++ g)) ≡ None →
        (first_large_from (i + 1) (open_after n x.symbol) (f ++ g) ≡ None → first_large_from (i + 1) (open_after n x.symbol) f ≡ None) →
        cond b (Some i) (first_large_from (i + 1) (open_after n x.symbol) f) ≡ None
    go true e again = cc
    go false e again = again e

pub fewer : (f g : List Item) → first_large (f ++ g) ≡ None → first_large f ≡ None
fewer f g e = front_few 0 0 f g e

one_fewer : (i n k : ℕ) (f : List Item) → first_large_from i n (take (k + 1) f) ≡ None → first_large_from i n (take k f) ≡ None
one_fewer i n zero f e = refl
one_fewer i n (suc k) [] e = refl
one_fewer i n (suc k) (x ∷ f) e =
    let m : suc k + 1 ≡ suc (k + 1) = omega arith in
    go (passes i n x.symbol) (sym (ap (λ j. first_large_from i n (take j (x ∷ f))) m) ∙ e) (one_fewer (i + 1) (open_after n x.symbol) k f)
  where
    go : (b : Bool) → cond b (Some i) (first_large_from (i + 1) (open_after n x.symbol) (take (k + 1) f)) ≡ None →
        (first_large_from (i + 1) (open_after n x.symbol) (take (k + 1) f) ≡ None → first_large_from (i + 1) (open_after n x.symbol) (take k f) ≡ None) →
        cond b (Some i) (first_large_from (i + 1) (open_after n x.symbol) (take k f)) ≡ None
    go true e again = cc
    go false e again = again e

pub taken_fewer : (k : ℕ) (f : List Item) → first_large (take (k + 1) f) ≡ None → first_large (take k f) ≡ None
taken_fewer k f e = one_fewer 0 0 k f e

-- the tokens of a formula that what stands first has of it
run_front : (s rest : List Mark) → (g : List Item) × (token_run (s ++ rest) ≡ token_run s ++ g)
run_front [] rest = (token_run rest, refl)
run_front (plain x ∷ s) rest = let more = run_front s rest in (more.0, ap (λ f. x ∷ f) more.1)
run_front (word w p ∷ s) rest = ([], refl)
run_front (label l p ∷ s) rest = ([], refl)

run_fewer : (s rest : List Mark) → first_large (token_run (s ++ rest)) ≡ None → first_large (token_run s) ≡ None
run_fewer s rest e = let front = run_front s rest in fewer (token_run s) front.0 (sym (ap first_large front.1) ∙ e)

-- the same with less behind
pub short_less : (f b rest : List Mark) → AreShort f (b ++ rest) → AreShort f b
short_less [] b rest h = tt
short_less (x ∷ f) b rest h = (λ o. run_fewer (f ++ b) rest (ap (λ s. first_large (token_run s)) (append_assoc f b rest) ∙ h.0 o), short_less f b rest h.1)

pub short_append : (f g m : List Mark) → AreShort f (g ++ m) → AreShort g m → AreShort (f ++ g) m
short_append [] g m h k = k
short_append (x ∷ f) g m h k = (λ o. ap (λ s. first_large (token_run s)) (append_assoc f g m) ∙ h.0 o, short_append f g m h.1 k)

-- what stands first, and then what begins a part
pub short_behind : (f m b rest : List Mark) → m ≡ b ++ rest → AreShort f m → AreShort b [] → AreShort (f ++ b) []
short_behind f m b rest e h k =
    short_append f b [] (subst (AreShort f) (sym (append-nil b)) (short_less f b rest (subst (AreShort f) e h))) k

pub short_plain : (f : List Item) (m : List Mark) → AreShort (map plain f) m
short_plain [] m = tt
short_plain (x ∷ f) m = (λ o. cc, short_plain f m)

-- it opens no formula
opens_none : (y : Mark) (s : List Mark) → NoFormula s → s ≡ y ∷ [] → opens_formula y ≡ false
opens_none y s (behind_word [] w p names e o) is = let same : y ≡ word w p = (let both : y ∷ [] ≡ word w p ∷ map plain names = sym is ∙ e in cc) in ap opens_formula same ∙ o
opens_none y s (behind_word (x ∷ lead) w p names e o) is = absurd (two lead (sym is ∙ e))
  where
    two : (lead : List Mark) → y ∷ [] ≡ x ∷ (lead ++ (word w p ∷ map plain names)) → ⊥
    two [] d = cc
    two (z ∷ lead) d = cc
opens_none y s (all_plain [] e) is = let both : y ∷ [] ≡ [] = sym is ∙ e in cc
opens_none y s (all_plain (x ∷ names) e) is = let same : y ≡ plain x = (let both : y ∷ [] ≡ plain x ∷ map plain names = sym is ∙ e in cc) in ap opens_formula same

pub alone_short : (y : Mark) (b m : List Mark) → NoFormula (y ∷ []) → AreShort b m → AreShort (y ∷ b) m
alone_short y b m n h = (λ o. let contra : true ≡ false = sym o ∙ opens_none y (y ∷ []) n refl in cc, h)

pub word_short : (w : List ℕ) (p : ℕ) (b m : List Mark) → opens_formula (word w p) ≡ false → AreShort b m → AreShort (word w p ∷ b) m
word_short w p b m isnt h = (λ o. let contra : true ≡ false = sym o ∙ isnt in cc, h)

-- a formula behind the token that opens it
pub formula_short : (y : Mark) (f : List Item) → first_large f ≡ None → AreShort (y ∷ map plain f) []
formula_short y f few = (λ o. ap first_large (run_of f [] nothing_there) ∙ few, short_plain f [])

pub run_short : {X : Type 0} (F : Bounds → List Item → X → Type 0) → ((f : List Item) (x : X) → F limits f x → first_large f ≡ None) →
    (y : Mark) (front t m : List Mark) (x : X) → FormulaRun F limits t x m → front ++ m ≡ y ∷ t → AreShort front m
run_short F fits y front t m x h e =
    let f = token_run t in
    let there : t ≡ map plain f ++ m = run_split t ∙ ap (λ u. map plain f ++ u) (sym h.behind) in
    let is : front ≡ y ∷ map plain f = append_cancel_right front (y ∷ map plain f) m (e ∙ ap (λ u. y ∷ u) there) in
    let ended : Ended m = subst Ended (sym h.behind) (run_ends t) in
    subst (λ u. AreShort u m) (sym is) (λ o. ap first_large (run_of f m ended) ∙ fits f x h.spelled, short_plain f m)

-- a label ends what stands before it
pub before_label : (y l : Mark) (t : List Mark) → is_a_label l ≡ true → AreShort (y ∷ []) (l ∷ t)
before_label y (label n p) t is = (λ o. refl, tt)
before_label y (word w p) t is = cc
before_label y (plain x) t is = cc

-- no token of theirs passes a limit
pub short_within : (s : List Mark) → AreShort s [] → NoneIsLong s
short_within s h = λ before x later e k.
    let first = k.opening in
    let whole : s ≡ k.lead ++ (first ∷ (map plain k.formula ++ x ∷ later)) = e ∙ ap (λ t. t ++ x ∷ later) k.is ∙ append_assoc k.lead (first ∷ map plain k.formula) (x ∷ later) in
    go k.lead first k.formula k.item x later k.opens k.token k.large (subst (λ t. AreShort t []) whole h)
  where
    at : (f : List Item) (i : Item) (later : List Mark) → token_run ((map plain f ++ plain i ∷ later) ++ []) ≡ (f ++ i ∷ []) ++ token_run (later ++ [])
    at [] i later = refl
    at (z ∷ f) i later = ap (λ g. z ∷ g) (at f i later)

    go : (lead : List Mark) (y : Mark) (f : List Item) (i : Item) (x : Mark) (later : List Mark) → opens_formula y ≡ true → x ≡ plain i → first_large (f ++ i ∷ []) ≡ Some (length f) →
        AreShort (lead ++ (y ∷ (map plain f ++ x ∷ later))) [] → ⊥
    go [] y f i x later o is large h =
        let few : first_large ((f ++ i ∷ []) ++ token_run (later ++ [])) ≡ None =
        sym (ap first_large (at f i later)) ∙ ap (λ z. first_large (token_run ((map plain f ++ z ∷ later) ++ []))) (sym is) ∙ h.0 o in
        let clash : Some (length f) ≡ None = sym large ∙ fewer (f ++ i ∷ []) (token_run (later ++ [])) few in
        cc
    go (z ∷ lead) y f i x later o is large h = go lead y f i x later o is large h.1
