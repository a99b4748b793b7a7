-- What is gathered of one component more.
use Rattle.std.proofs.Common.{◌≡◌, ◌∙◌, sym, ap, refl, ℕ, ◌<◌, ◌+◌, List, [], ◌∷◌, ◌++◌, Option, map, length, take, get_or, append_assoc}
use Rattle.std.proofs.lemmas.List.{append-nil}
use Rattle.model_core.proofs.Firsts.{taken_more}
use Rattle.model_core.specs.declared.component.RawComponent.{RawComponent}
use Rattle.check_rules.specs.Contexts.{Outcome}
use Rattle.sequent_core.specs.declared.sequent.Obligation.{Obligation}
use Rattle.build_core.specs.Projects.{Project}
use Rattle.build_core.specs.Private.{Outcomes, found, IsOwn, given_at, given_in}
use Rattle.build_core.proofs.EachOwn.{AreOwn}
use Rattle.build_core.proofs.Referred.{for_each_more}

pub own_more : (components : List RawComponent) (outcomes : Outcomes) (done : Project) (e : List ℕ × List ℕ) (table own : List Obligation) → AreOwn components outcomes done table →
    IsOwn components outcomes e.0 own → AreOwn components outcomes (done ++ e ∷ []) (table ++ own)
own_more components outcomes [] e table own are is = (own, [], is, refl, ap (λ t. t ++ own) are ∙ sym (append-nil own))
own_more components outcomes (d ∷ done) e table own are is =
    (are.0, are.1 ++ own, are.2, own_more components outcomes done e are.1 own are.3 is, ap (λ t. t ++ own) are.4 ∙ append_assoc are.0 are.1 own)

pub given_more : {X : Type 0} (each : List ℕ → Outcome → List X) (outcomes : Outcomes) (done : Project) (e : List ℕ × List ℕ) (o : Option Outcome) (all more : List X) → o ≡ found outcomes e.0 →
    all ≡ given_in each outcomes done → more ≡ all ++ given_at (each e.1) o → more ≡ given_in each outcomes (done ++ e ∷ [])
given_more each outcomes done e o all more value is added =
    added ∙ ap (λ x. all ++ given_at (each e.1) x) value ∙ ap (λ xs. xs ++ given_at (each e.1) (found outcomes e.0)) is
    ∙ sym (for_each_more (λ (d : List ℕ × List ℕ). given_at (each d.1) (found outcomes d.0)) done e)

pub mapped_more : {X Y : Type 0} (f : X → Y) (xs : List X) (i : ℕ) (x : X) (old now next : List Y) → i < length xs → x ≡ get_or xs i x → now ≡ old ++ map f (take i xs) → next ≡ now ++ f x ∷ [] →
    next ≡ old ++ map f (take (i + 1) xs)
mapped_more {X} {Y} f xs i x old now next lt is e added =
    added ∙ ap (λ ys. ys ++ f x ∷ []) e ∙ append_assoc old (map f (take i xs)) (f x ∷ []) ∙ ap (λ ys. old ++ ys) (sym (pushed (take i xs)) ∙ ap (map f) (sym (taken_more xs i x lt is)))
  where
    pushed : (ys : List X) → map f (ys ++ x ∷ []) ≡ map f ys ++ f x ∷ []
    pushed [] = refl
    pushed (y ∷ ys) = ap (λ zs. f y ∷ zs) (pushed ys)
