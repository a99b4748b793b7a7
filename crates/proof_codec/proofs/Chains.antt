-- Values that were read one after the other.
use Rattle.std.proofs.Common.{◌≡◌, ◌∙◌, refl, sym, ap, subst, ℕ, ◌-◌, List, [], ◌∷◌, ◌++◌, length, length-append, arith, append_assoc}
use Rattle.std.specs.List.{flat_map, AllByRecursion}
use Rattle.std.proofs.lemmas.List.{append-nil}
use Rattle.std.proofs.lemmas.List.Concat.{flat_map-cons}
use Rattle.proof_codec.specs.Forms.{BeginsWith, BeginsNone}
use Rattle.proof_codec.specs.Private.{IsReadAs}
use Rattle.proof_codec.specs.Entries.{AreSpelled, IsStuckAt}

module _ {A : Type 0} (P : A → Type 0) (f : A → List ℕ) where
  -- each was read where the one before ended
  abbrev pub IsChain : List ℕ → List A → List ℕ → Type 0
  IsChain start [] mid = mid ≡ start
  IsChain start (x ∷ xs) mid = (next : List ℕ) × IsReadAs P f start x next × IsChain next xs mid

  pub chain_on : (start : List ℕ) (xs : List A) (mid : List ℕ) (x : A) (next : List ℕ) → IsChain start xs mid → IsReadAs P f mid x next → IsChain start (xs ++ x ∷ []) next
  chain_on start [] mid x next is read = (next, subst (λ b. IsReadAs P f b x next) is read, refl)
  chain_on start (y ∷ ys) mid x next chain read = (chain.0, chain.1, chain_on chain.0 ys mid x next chain.2 read)

  pub chain_good : (start : List ℕ) (xs : List A) (mid : List ℕ) → IsChain start xs mid → AllByRecursion P xs × (start ≡ flat_map f xs ++ mid)
  chain_good start [] mid is = (tt, sym is)
  chain_good start (x ∷ xs) mid chain =
      let rest = chain_good chain.0 xs mid chain.2 in
      ((chain.1.here.good, rest.0), chain.1.here.split ∙ ap (λ b. f x ++ b) rest.1 ∙ sym (append_assoc (f x) (flat_map f xs) mid) ∙ ap (λ b. b ++ mid) (sym (flat_map-cons f x xs)))

  pub chain_whole : (start : List ℕ) (xs : List A) (mid : List ℕ) → IsChain start xs mid → mid ≡ [] → AreSpelled P f xs start
  chain_whole start xs mid chain none = let g = chain_good start xs mid chain in (g.0, g.1 ∙ ap (λ b. flat_map f xs ++ b) none ∙ append-nil (flat_map f xs))

  -- the first of some values that are spelled there, and what stands behind it
  first_of : (start : List ℕ) (y : A) (ys : List A) (others : List ℕ) → P y → start ≡ flat_map f (y ∷ ys) ++ others → BeginsWith P f start y (flat_map f ys ++ others)
  first_of start y ys others good is = record { good = good; split = is ∙ ap (λ b. b ++ others) (flat_map-cons f y ys) ∙ append_assoc (f y) (flat_map f ys) others }

  module _ (some : (x : A) (others : List ℕ) → f x ++ others ≡ [] → ⊥) where
    pub chain_only : (start : List ℕ) (xs : List A) (mid : List ℕ) → IsChain start xs mid → mid ≡ [] → (ys : List A) → AllByRecursion P ys → start ≡ flat_map f ys ++ [] → xs ≡ ys
    chain_only start [] mid chain none [] good is = refl
    chain_only start [] mid chain none (y ∷ ys) good is = absurd (some y (flat_map f ys ++ []) (sym (first_of start y ys [] good.0 is).split ∙ sym chain ∙ none))
    chain_only start (x ∷ xs) mid chain none [] good is = absurd (some x chain.0 (sym chain.1.here.split ∙ is))
    chain_only start (x ∷ xs) mid chain none (y ∷ ys) good is =
        let same = chain.1.only y (flat_map f ys ++ []) (first_of start y ys [] good.0 is) in
        let rest = chain_only chain.0 xs mid chain.2 none ys good.1 (sym same.1) in
        ap (λ z. z ∷ xs) (sym same.0) ∙ ap (λ zs. y ∷ zs) rest

    pub chain_longest : (start : List ℕ) (xs : List A) (mid : List ℕ) → IsChain start xs mid → BeginsNone P f mid → (ys : List A) (others : List ℕ) → AllByRecursion P ys → start ≡ flat_map f ys ++ others
        → (behind : List A) × (xs ≡ ys ++ behind)
    chain_longest start xs mid chain bad [] others good is = (xs, refl)
    chain_longest start [] mid chain bad (y ∷ ys) others good is = absurd (bad.none y (flat_map f ys ++ others) (subst (λ b. BeginsWith P f b y (flat_map f ys ++ others)) (sym chain) (first_of start y ys others good.0 is)))
    chain_longest start (x ∷ xs) mid chain bad (y ∷ ys) others good is =
        let same = chain.1.only y (flat_map f ys ++ others) (first_of start y ys others good.0 is) in
        let rest = chain_longest chain.0 xs mid chain.2 bad ys others good.1 (sym same.1) in
        (rest.0, ap (λ z. z ∷ xs) (sym same.0) ∙ ap (λ zs. y ∷ zs) rest.1)

    pub chain_stuck : (start : List ℕ) (xs : List A) (mid : List ℕ) → IsChain start xs mid → BeginsNone P f mid → (mid ≡ [] → ⊥) → IsStuckAt P f start (length start - length mid)
    chain_stuck start xs mid chain bad more = let g = chain_good start xs mid chain in record {
      before = xs;
      rest = mid;
      good = g.0;
      split = g.1;
      place = omega (arith, ap length g.1, length-append (flat_map f xs) mid);
      some = more;
      none = bad;
      longest = chain_longest start xs mid chain bad;
    }

    -- where reading is stuck, no list of values is spelled
    pub chain_never : (start : List ℕ) (xs : List A) (mid : List ℕ) → IsChain start xs mid → BeginsNone P f mid → (mid ≡ [] → ⊥) → (ys : List A) → AreSpelled P f ys start → ⊥
    chain_never start xs mid chain bad more ys spelled =
        let is = spelled.1 ∙ sym (append-nil (flat_map f ys)) in
        never start xs chain ys spelled.0 is
      where
        never : (start : List ℕ) (xs : List A) → IsChain start xs mid → (ys : List A) → AllByRecursion P ys → start ≡ flat_map f ys ++ [] → ⊥
        never start [] chain [] good is = more (chain ∙ is)
        never start [] chain (y ∷ ys) good is = bad.none y (flat_map f ys ++ []) (subst (λ b. BeginsWith P f b y (flat_map f ys ++ [])) (sym chain) (first_of start y ys [] good.0 is))
        never start (x ∷ xs) chain [] good is = some x chain.0 (sym chain.1.here.split ∙ is)
        never start (x ∷ xs) chain (y ∷ ys) good is =
            let same = chain.1.only y (flat_map f ys ++ []) (first_of start y ys [] good.0 is) in
            never chain.0 xs chain.2 ys good.1 (sym same.1)
