-- What the tests of all values and of some value tell.
use Rattle.std.proofs.Common.{Bool, List, [], ap, append_assoc, false, map, not, refl, reverse, sym, true, ℕ, ◌++◌, ◌∙◌, ◌∷◌, ◌≡◌}
use Rattle.std.proofs.lemmas.List.{reverse-append}
use Rattle.meanings.specs.Denotations.{Assignment}
use Rattle.meanings.specs.Universes.{Universe, cast, every, every_of, some, some_of}
use Rattle.meanings.specs.Values.{Sort, Denotation, Value}
use Rattle.meanings.proofs.Casts.{cast_known}

module _ {carrier : List ℕ → Type 0} (U : Universe carrier) where
  pub every_tells : (s : Sort) (test : Value carrier s → Bool) → every U s test ≡ true → (v : Value carrier s) → test v ≡ true
  every_tells s test h v = go (test v) refl
    where
      go : (b : Bool) → test v ≡ b → test v ≡ true
      go true e = e
      go false e =
          let l : not (test (U.choose s (λ v. not (test v)))) ≡ true = U.chooses s (λ v. not (test v)) v (ap not e) in
          let m : false ≡ true = sym (ap not l) ∙ h in absurd cc

  pub every_holds : (s : Sort) (test : Value carrier s → Bool) → ((v : Value carrier s) → test v ≡ true) → every U s test ≡ true
  every_holds s test h = ap (λ b. not (not b)) (h (U.choose s (λ v. not (test v))))

  pub some_holds : (s : Sort) (test : Value carrier s → Bool) (v : Value carrier s) → test v ≡ true → some U s test ≡ true
  some_holds s test v h = U.chooses s test v h

  abbrev pub sorts_are : Assignment U → List Sort
  sorts_are es = map (λ x. x.0) es

  turned : (e : Denotation carrier) (es σ : Assignment U) → reverse (e ∷ es) ++ σ ≡ reverse es ++ (e ∷ σ)
  turned e es σ = ap (λ l. l ++ σ) (reverse-append (e ∷ []) es) ∙ append_assoc (reverse es) (e ∷ []) σ

  pub every_of_tells : (sorts : List Sort) (σ : Assignment U) (test : Assignment U → Bool) → every_of U sorts σ test ≡ true → (es : Assignment U) → sorts_are es ≡ sorts → test (reverse es ++ σ) ≡ true
  every_of_tells [] σ test h [] e = h
  every_of_tells [] σ test h (x ∷ es) e = absurd cc
  every_of_tells (s ∷ sorts) σ test h [] e = absurd cc
  every_of_tells (s ∷ sorts) σ test h (x ∷ es) e =
      let first : x.0 ≡ s = cc in let rest : sorts_are es ≡ sorts = cc in
      let here : every_of U sorts ((s, cast U s x) ∷ σ) test ≡ true = every_tells s (λ v. every_of U sorts ((s, v) ∷ σ) test) h (cast U s x) in
      let there : every_of U sorts (x ∷ σ) test ≡ true = ap (λ y. every_of U sorts (y ∷ σ) test) (sym (cast_known U x s first)) ∙ here in
      ap test (turned x es σ) ∙ every_of_tells sorts (x ∷ σ) test there es rest

  pub every_of_holds : (sorts : List Sort) (σ : Assignment U) (test : Assignment U → Bool) → ((es : Assignment U) → sorts_are es ≡ sorts → test (reverse es ++ σ) ≡ true) → every_of U sorts σ test ≡ true
  every_of_holds [] σ test h = h [] refl
  every_of_holds (s ∷ sorts) σ test h =
      every_holds s (λ v. every_of U sorts ((s, v) ∷ σ) test) (λ v. every_of_holds sorts ((s, v) ∷ σ) test
      (λ es e. ap test (sym (turned (s, v) es σ)) ∙ h ((s, v) ∷ es) (ap (λ l. s ∷ l) e)))

  pub some_of_holds : (sorts : List Sort) (σ : Assignment U) (test : Assignment U → Bool) (es : Assignment U) → sorts_are es ≡ sorts → test (reverse es ++ σ) ≡ true → some_of U sorts σ test ≡ true
  some_of_holds [] σ test [] e h = h
  some_of_holds [] σ test (x ∷ es) e h = absurd cc
  some_of_holds (s ∷ sorts) σ test [] e h = absurd cc
  some_of_holds (s ∷ sorts) σ test (x ∷ es) e h =
      let first : x.0 ≡ s = cc in let rest : sorts_are es ≡ sorts = cc in
      some_holds s (λ v. some_of U sorts ((s, v) ∷ σ) test) (cast U s x)
      (ap (λ y. some_of U sorts (y ∷ σ) test) (cast_known U x s first) ∙ some_of_holds sorts (x ∷ σ) test es rest (ap test (sym (turned x es σ)) ∙ h))

  -- values of these sorts at which a test holds
  abbrev pub Found : List Sort → Assignment U → (Assignment U → Bool) → Type 0
  Found sorts σ test = (es : Assignment U) × (sorts_are es ≡ sorts) × (test (reverse es ++ σ) ≡ true)

  pub some_of_tells : (sorts : List Sort) (σ : Assignment U) (test : Assignment U → Bool) → some_of U sorts σ test ≡ true → Found sorts σ test
  some_of_tells [] σ test h = ([], refl, h)
  some_of_tells (s ∷ sorts) σ test h =
      let v : Value carrier s = U.choose s (λ v. some_of U sorts ((s, v) ∷ σ) test) in
      let rest = some_of_tells sorts ((s, v) ∷ σ) test h in
      ((s, v) ∷ rest.0, ap (λ l. s ∷ l) rest.1, ap test (turned (s, v) rest.0 σ) ∙ rest.2)
