-- The entries of one chair.
use Rattle.std.proofs.Common.{◌≡◌, ◌≢◌, ℕ, eqb, cond, List, [], ◌∷◌, ◌++◌, map, refl, ap, ◌∙◌, ne_eqb, eq-eqb}
use Rattle.std.proofs.lemmas.List.{append-nil, map-append}
use Rattle.std.proofs.lemmas.List.Elements.{filter-append}
use Rattle.std.specs.List.{filter}
use Rattle.core_steps.specs.Run.{Exchange}
use Rattle.store_log.specs.History.{exchanges_of, own}

pub own_both : (k : ℕ) (xs ys : List (ℕ × Exchange)) → own k (xs ++ ys) ≡ own k xs ++ own k ys
own_both k xs ys = ap exchanges_of (filter-append (λ x. eqb x.0 k) xs ys) ∙ map-append (λ x. x.1) (filter (λ x. eqb x.0 k) xs) (filter (λ x. eqb x.0 k) ys)

pub own_mine : (k : ℕ) (x : ℕ × Exchange) (xs : List (ℕ × Exchange)) → x.0 ≡ k → own k (x ∷ xs) ≡ x.1 ∷ own k xs
own_mine k x xs is = ap (λ b. exchanges_of (cond b (x ∷ filter (λ y. eqb y.0 k) xs) (filter (λ y. eqb y.0 k) xs))) (eq-eqb x.0 k is)

pub own_other : (k : ℕ) (x : ℕ × Exchange) (xs : List (ℕ × Exchange)) → x.0 ≢ k → own k (x ∷ xs) ≡ own k xs
own_other k x xs is = ap (λ b. exchanges_of (cond b (x ∷ filter (λ y. eqb y.0 k) xs) (filter (λ y. eqb y.0 k) xs))) (ne_eqb x.0 k is)

pub own_last : (k : ℕ) (xs : List (ℕ × Exchange)) (x : ℕ × Exchange) → x.0 ≡ k → own k (xs ++ x ∷ []) ≡ own k xs ++ x.1 ∷ []
own_last k xs x is = own_both k xs (x ∷ []) ∙ ap (λ l. own k xs ++ l) (own_mine k x [] is)

pub own_quiet : (k : ℕ) (xs ys : List (ℕ × Exchange)) → own k ys ≡ [] → own k (xs ++ ys) ≡ own k xs
own_quiet k xs ys quiet = own_both k xs ys ∙ (ap (λ l. own k xs ++ l) quiet ∙ append-nil (own k xs))

-- a list made by a function, cut in two
pub map_cut : {X Y : Type 0} (f : X → Y) (xs : List X) (ys zs : List Y) → ys ++ zs ≡ map f xs → (us : List X) × (bs : List X) × (xs ≡ us ++ bs) × (ys ≡ map f us) × (zs ≡ map f bs)
map_cut f xs [] zs e = ([], xs, refl, refl, e)
map_cut f [] (y ∷ ys) zs e = cc
map_cut f (x ∷ xs) (y ∷ ys) zs e =
    let head : y ≡ f x = cc in
    let tail : ys ++ zs ≡ map f xs = cc in
    let (us, bs, cut, one, two) = map_cut f xs ys zs tail in
    (x ∷ us, bs, ap (λ l. x ∷ l) cut, (λ i. head i ∷ one i), two)
