-- From nothing, the state's entries lead to what lasts.
use Rattle.std.proofs.Common.{◌≡◌, ◌∙◌, inl, inr, ⊎_elim, ◌⊎◌, sym, ap, refl, ℕ, Bool, true, false, cond, Option, Some, None, List, [], ◌∷◌, ◌++◌, map}
use Rattle.std.specs.Prelude.{bytes_eq}
use Rattle.std.specs.List.{flat_map}
use Rattle.std.specs.Ordering.{eq_by_cmp}
use Rattle.std.specs.Cmp.Lexicographic.{same_text}
use Rattle.std.specs.FinMap.{FinMap, entries, get, insert, remove, empty, get-entries, get-remove, same_map, find}
use Rattle.std.proofs.lemmas.Cmp.{nat_list_cmp_total}
use Rattle.std.proofs.lemmas.List.Concat.{flat_map-cons}
use Rattle.proof_entries.specs.declared.Entry.{Entry}
use Rattle.proof_entries.specs.declared.Entry.TheVariants.{Put, SetProof}
use Rattle.proof_entries.specs.declared.Proof.{Proof}
use Rattle.core_steps.specs.Durable.{text_cmp, ProjectMap}
use Rattle.core_steps.specs.declared.durable.Durable.{Durable}
use Rattle.core_steps.specs.State.{entered, after, no_texts}
use Rattle.core_steps.specs.StateEntries.{entries_for_change, build_of, with_names_of, names_of_both, state_entries}
use Rattle.durable_entries.proofs.Maps.{with_all, exact, itself, same_or_not, NotIn, here, there, all_again, none_in}

-- the texts after a name's change
abbrev step : Option (List ℕ) → Option (List ℕ) → List ℕ → ProjectMap → ProjectMap
step None None name m = m
step (Some a) None name m = remove m name
step None (Some t) name m = insert m name t
step (Some a) (Some t) name m = cond (bytes_eq a t) m (insert m name t)

step_here : (a t : Option (List ℕ)) (name : List ℕ) (m : ProjectMap) → (get m name ≡ a) ⊎ (get m name ≡ t) → get (step a t name m) name ≡ t
step_here None None name m is = ⊎_elim (λ e. e) (λ e. e) is
step_here (Some a) None name m is = get-remove nat_list_cmp_total m name name ∙ ap (λ b. cond b None (get m name)) (itself name)
step_here None (Some t) name m is = here m name t
step_here (Some a) (Some t) name m is = split (bytes_eq a t) refl
  where
    split : (b : Bool) → bytes_eq a t ≡ b → get (cond (bytes_eq a t) m (insert m name t)) name ≡ Some t
    split true e = ap (λ b. get (cond b m (insert m name t)) name) e ∙ ⊎_elim (λ w. w ∙ ap Some (same_text a t (sym e))) (λ w. w) is
    split false e = ap (λ b. get (cond b m (insert m name t)) name) e ∙ here m name t

step_there : (a t : Option (List ℕ)) (name : List ℕ) (m : ProjectMap) (q : List ℕ) → eq_by_cmp text_cmp q name ≡ false → get (step a t name m) q ≡ get m q
step_there None None name m q apart = refl
step_there (Some a) None name m q apart = get-remove nat_list_cmp_total m name q ∙ ap (λ b. cond b None (get m q)) apart
step_there None (Some t) name m q apart = there m name t q apart
step_there (Some a) (Some t) name m q apart = elim (bytes_eq a t) as (λ b. get (cond b m (insert m name t)) q ≡ get m q) [ true ↦ refl | false ↦ there m name t q apart ]

-- what entries make of a durable, one after another
abbrev all : Durable → List Entry → Durable
all d [] = d
all d (x ∷ xs) = all (entered d x) xs

as_all : (d : Durable) (xs : List Entry) → after d (map Some xs) ≡ all d xs
as_all d [] = refl
as_all d (x ∷ xs) = as_all (entered d x) xs

in_order : (d : Durable) (xs ys : List Entry) → all d (xs ++ ys) ≡ all (all d xs) ys
in_order d [] ys = refl
in_order d (x ∷ xs) ys = in_order (entered d x) xs ys

puts : (d : Durable) (es : List (List ℕ × List ℕ)) → all d (map (λ e. Put e.0 e.1) es) ≡ record d { texts = with_all d.texts es }
puts d [] = refl
puts d (e ∷ es) = puts (entered d (Put e.0 e.1)) es

sets : (d : Durable) (es : List (List ℕ × Proof)) → all d (map (λ e. SetProof e.0 e.1) es) ≡ record d { proofs = with_all d.proofs es }
sets d [] = refl
sets d (e ∷ es) = sets (entered d (SetProof e.0 e.1)) es

-- a durable without proofs
abbrev bare : ProjectMap → ProjectMap → Durable
bare texts built = record { texts = texts; built = built; proofs = empty }

built_if : (es : List (List ℕ × List ℕ)) (b : ProjectMap) → with_all empty es ≡ b → all (bare b empty) (build_of es) ≡ bare b b
built_if [] b is = ap (bare b) is
built_if (e ∷ es) b is = refl

one : (d : Durable) (a t : Option (List ℕ)) (name : List ℕ) → all d (entries_for_change a t name) ≡ record d { texts = step a t name d.texts }
one d None None name = refl
one d (Some a) None name = refl
one d None (Some t) name = refl
one d (Some a) (Some t) name = elim (bytes_eq a t) as (λ b. all d (cond b [] (Put name t ∷ [])) ≡ record d { texts = cond b d.texts (insert d.texts name t) }) [ true ↦ refl | false ↦ refl ]

-- NAMES

-- the entries with an empty text each
abbrev blanks : List (List ℕ × List ℕ) → List (List ℕ × List ℕ)
blanks es = map (λ e. (e.0, [])) es

names_kept : (m : ProjectMap) (es : List (List ℕ × List ℕ)) (q : List ℕ) → get (with_names_of m es) q ≡ None → (get m q ≡ None) × (find text_cmp q es ≡ None)
names_kept m [] q none = (none, refl)
names_kept m (e ∷ es) q none =
    let before = names_kept (insert m e.0 []) es q none in
    ⊎_elim (λ same. absurd (let some : Some [] ≡ None = sym (ap (get (insert m e.0 [])) same ∙ here m e.0 []) ∙ before.0 in cc))
    (λ apart. (sym (there m e.0 [] q apart) ∙ before.0, ap (λ b. cond b (Some e.1) (find text_cmp q es)) apart ∙ before.1)) (same_or_not q e.0)

module _ (built texts : ProjectMap) where
  abbrev walk : ProjectMap → List (List ℕ) → ProjectMap
  walk m [] = m
  walk m (name ∷ names) = walk (step (get built name) (get texts name) name m) names

  walked : (d : Durable) (names : List (List ℕ)) → all d (flat_map (λ name. entries_for_change (get built name) (get texts name) name) names) ≡ record d { texts = walk d.texts names }
  walked d [] = refl
  walked d (name ∷ names) =
      ap (all d) (flat_map-cons (λ name. entries_for_change (get built name) (get texts name) name) name names)
      ∙ in_order d (entries_for_change (get built name) (get texts name) name) (flat_map (λ name. entries_for_change (get built name) (get texts name) name) names)
      ∙ ap (λ e. all e (flat_map (λ name. entries_for_change (get built name) (get texts name) name) names)) (one d (get built name) (get texts name) name)
      ∙ walked (record d { texts = step (get built name) (get texts name) name d.texts }) names

  -- each name has its built text or its present one
  abbrev Mixed : ProjectMap → Type 0
  Mixed m = (q : List ℕ) → (get m q ≡ get built q) ⊎ (get m q ≡ get texts q)

  mixed_on : (name : List ℕ) (m : ProjectMap) → Mixed m → Mixed (step (get built name) (get texts name) name m)
  mixed_on name m mixed q = ⊎_elim
      (λ same. inr (ap (get (step (get built name) (get texts name) name m)) same ∙ step_here (get built name) (get texts name) name m (mixed name) ∙ ap (get texts) (sym same)))
      (λ apart. ⊎_elim (λ w. inl (step_there (get built name) (get texts name) name m q apart ∙ w)) (λ w. inr (step_there (get built name) (get texts name) name m q apart ∙ w)) (mixed q))
      (same_or_not q name)

  walk_gets : (names : List (List ℕ)) (m : ProjectMap) → Mixed m → (q : List ℕ) → (get (walk m names) q ≡ get texts q) ⊎ ((get (walk m names) q ≡ get m q) × NotIn q names)
  walk_gets [] m mixed q = inr (refl, tt)
  walk_gets (name ∷ names) m mixed q = ⊎_elim
      (λ is. inl is)
      (λ w. ⊎_elim
      (λ same. inl (w.0 ∙ ap (get (step (get built name) (get texts name) name m)) same ∙ step_here (get built name) (get texts name) name m (mixed name) ∙ ap (get texts) (sym same)))
      (λ apart. inr (w.0 ∙ step_there (get built name) (get texts name) name m q apart, (apart, w.1)))
      (same_or_not q name))
      (walk_gets names (step (get built name) (get texts name) name m) (mixed_on name m mixed) q)

  abbrev both : ProjectMap
  both = with_names_of (with_names_of empty (entries built)) (entries texts)

  -- a name of neither project
  of_neither : (q : List ℕ) → get both q ≡ None → get built q ≡ get texts q
  of_neither q none =
      let later = names_kept (with_names_of empty (entries built)) (entries texts) q none in
      let first = names_kept empty (entries built) q later.0 in
      get-entries built q ∙ first.1 ∙ sym (get-entries texts q ∙ later.1)

  walk_ends : walk built (names_of_both built texts) ≡ texts
  walk_ends = same_map nat_list_cmp_total exact (walk built (names_of_both built texts)) texts (λ q. ⊎_elim
      (λ is. is)
      (λ w. w.0 ∙ of_neither q (get-entries both q ∙ none_in q (entries both) w.1))
      (walk_gets (names_of_both built texts) built (λ q. inl refl) q))

pub state_again : (d : Durable) → after no_texts (map Some (state_entries d)) ≡ d
state_again d =
    let A : List Entry = map (λ e. Put e.0 e.1) (entries d.built) in
    let B : List Entry = build_of (entries d.built) in
    let C : List Entry = flat_map (λ name. entries_for_change (get d.built name) (get d.texts name) name) (names_of_both d.built d.texts) in
    let D : List Entry = map (λ e. SetProof e.0 e.1) (entries d.proofs) in
    let a : all no_texts A ≡ bare d.built empty = puts no_texts (entries d.built) ∙ ap (λ (m : ProjectMap). bare m empty) (all_again d.built) in
    let b : all (bare d.built empty) B ≡ bare d.built d.built = built_if (entries d.built) d.built (all_again d.built) in
    let c : all (bare d.built d.built) C ≡ bare d.texts d.built = walked d.built d.texts (bare d.built d.built) (names_of_both d.built d.texts) ∙ ap (λ (m : ProjectMap). bare m d.built) (walk_ends d.built d.texts) in
    let e : all (bare d.texts d.built) D ≡ d = sets (bare d.texts d.built) (entries d.proofs) ∙ ap (λ (m : FinMap text_cmp Proof). let e : Durable = record { texts = d.texts; built = d.built; proofs = m } in e) (all_again d.proofs) in
    as_all no_texts (state_entries d) ∙ in_order no_texts A (B ++ (C ++ D)) ∙ ap (λ s. all s (B ++ (C ++ D))) a
    ∙ in_order (bare d.built empty) B (C ++ D) ∙ ap (λ s. all s (C ++ D)) b
    ∙ in_order (bare d.built d.built) C D ∙ ap (λ s. all s D) c
    ∙ e
