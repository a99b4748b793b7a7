-- The version of a record's body, and its entries.
use Rattle.std.proofs.Common.{◌≡◌, ◌∙◌, inl, inr, sym, ap, subst, ℕ, List, [], ◌∷◌, length, arith}
use Rattle.proof_entries.specs.declared.Entry.{Entry}
use Rattle.proof_codec.specs.Entries.{AreEntries, AreOldEntries}
use Rattle.project_store.specs.Records.{AreIn, IsBody}

abbrev head_or : ℕ → List ℕ → ℕ
head_or d [] = d
head_or d (x ∷ xs) = x

abbrev tail_of : List ℕ → List ℕ
tail_of [] = []
tail_of (x ∷ xs) = xs

module _ (body : List ℕ) (version : ℕ) (bytes : List ℕ) (is : body ≡ version ∷ bytes) (es : List Entry) where
  pub in_second : version ≡ 2 → AreEntries es bytes → AreIn body es
  in_second two are = inl (record { bytes = bytes; split = is ∙ ap (λ v. v ∷ bytes) two; spelled = are })

  pub in_first : version ≡ 1 → AreOldEntries es bytes → AreIn body es
  in_first one are = inr (record { bytes = bytes; split = is ∙ ap (λ v. v ∷ bytes) one; spelled = are })

  pub of_second : version ≡ 2 → AreIn body es → AreEntries es bytes
  of_second two (inl w) = subst (AreEntries es) (ap tail_of (sym w.split ∙ is)) w.spelled
  of_second two (inr w) = absurd (let e : version ≡ 1 = ap (head_or 0) (sym is ∙ w.split) in omega (arith, e, two))

  pub of_first : version ≡ 1 → AreIn body es → AreOldEntries es bytes
  of_first one (inl w) = absurd (let e : version ≡ 2 = ap (head_or 0) (sym is ∙ w.split) in omega (arith, e, one))
  of_first one (inr w) = subst (AreOldEntries es) (ap tail_of (sym w.split ∙ is)) w.spelled

  pub of_none : (version ≡ 2 → ⊥) → (version ≡ 1 → ⊥) → AreIn body es → ⊥
  of_none two one (inl w) = two (ap (head_or 0) (sym is ∙ w.split))
  of_none two one (inr w) = one (ap (head_or 0) (sym is ∙ w.split))

pub of_nothing : (body : List ℕ) (es : List Entry) → body ≡ [] → AreIn body es → ⊥
of_nothing body es is (inl w) = let e = sym is ∙ w.split in cc
of_nothing body es is (inr w) = let e = sym is ∙ w.split in cc

pub whole : (body : List ℕ) (es : List Entry) (n : ℕ) → n ≡ length es → (n ≡ 0 → ⊥) → AreIn body es → IsBody body es
whole body [] n is some are = absurd (some is)
whole body (e ∷ es) n is some are = record { some = not_nil e es; version = are }
  where
    not_nil : (x : Entry) (xs : List Entry) → x ∷ xs ≡ [] → ⊥
    not_nil x xs is = cc

pub none_there : (body : List ℕ) (es read : List Entry) (n : ℕ) → n ≡ length read → n ≡ 0 → ((fs : List Entry) → AreIn body fs → read ≡ fs) → IsBody body es → ⊥
none_there body es [] n is none only whole = whole.some (sym (only es whole.version))
none_there body es (e ∷ read) n is none only whole = absurd (omega (arith, is, none))

pub in_version : (body : List ℕ) (es : List Entry) → IsBody body es → AreIn body es
in_version body es is = is.version
