-- What is gathered, obligation by obligation.
use Rattle.std.proofs.Common.{◌≡◌, ◌∙◌, sym, ap, refl, ℕ, ◌+◌, ◌<◌, Bool, true, false, ◌||◌, List, [], ◌∷◌, ◌++◌, drop, get_or, length, nat_lt}
use Rattle.std.specs.Prelude.{if◌then◌else◌}
use Rattle.sequent_core.specs.declared.sequent.Obligation.{Obligation}
use Rattle.model_core.specs.Each.{for_each}
use Rattle.model_core.proofs.Lists.{at_index}
use Rattle.po_rules.specs.Gathering.{Gathered, table_limit, with_one, gathered}

-- what is gathered of two lists, one after the other
pub gathered_append : (g : Gathered) (a b : List Obligation) → gathered g (a ++ b) ≡ gathered (gathered g a) b
gathered_append g [] b = refl
gathered_append g (o ∷ a) b = gathered_append (with_one g o) a b

-- and in code: two calls, one after the other
pub both_gathered : (old mid new : Gathered) (a b : List Obligation) → mid ≡ gathered old a → new ≡ gathered mid b → new ≡ gathered old (a ++ b)
both_gathered old mid new a b e f = f ∙ ap (λ g. gathered g b) e ∙ sym (gathered_append old a b)

when_true : {X : Type 0} (b : Bool) (x y : X) → b ≡ true → (if b then x else y) ≡ x
when_true b x y e = ap (λ c. if c then x else y) e

-- an obligation that is passed over
pub idle : (top : Bool) (g : Gathered) (o : Obligation) → (top || nat_lt table_limit g.nodes) ≡ true → g ≡ gathered g (if top then [] else (o ∷ []))
idle true g o h = refl
idle false g o h = sym (when_true (nat_lt table_limit g.nodes) g _ h)

-- obligations that aren't looked at, as too many nodes were counted before
pub full : (g : Gathered) (obligations : List Obligation) → nat_lt table_limit g.nodes ≡ true → g ≡ gathered g obligations
full g [] h = refl
full g (o ∷ obligations) h = full g obligations h ∙ ap (λ k. gathered k obligations) (sym (when_true (nat_lt table_limit g.nodes) g _ h))

-- one step of a loop over elements that give rows
pub next_gathered : {X : Type 0} (rows : X → List Obligation) (xs : List X) (i : ℕ) (x : X) (now more whole : Gathered) → i < length xs → x ≡ get_or xs i x
    → gathered now (for_each rows (drop i xs)) ≡ whole → more ≡ gathered now (rows x) → gathered more (for_each rows (drop (i + 1) xs)) ≡ whole
next_gathered rows xs i x now more whole lt is e add =
    ap (λ g. gathered g (for_each rows (drop (i + 1) xs))) add ∙ sym (gathered_append now (rows x) (for_each rows (drop (i + 1) xs)))
    ∙ ap (λ ys. gathered now (for_each rows ys)) (sym (at_index xs i x lt is)) ∙ e

-- rows of one element
pub just_one : {X : Type 0} (g : Gathered) (rows : X → List Obligation) (x : X) → gathered g (for_each rows (x ∷ [])) ≡ gathered g (rows x)
just_one g rows x = gathered_append g (rows x) []

pub if_wanted : {X : Type 0} (b wanted : Bool) (row : List X) → b ≡ true → b ≡ wanted → (if wanted then row else []) ≡ row
if_wanted b wanted row holds is = when_true wanted row [] (sym is ∙ holds)
