-- The bodies of records.
use Rattle.std.proofs.Common.{◌≡◌, ◌≢◌, ◌∙◌, inl, sym, ap, refl, ℕ, List, [], ◌∷◌, ◌++◌, length, arith}
use Rattle.std.specs.List.{flat_map, AllByRecursion}
use Rattle.std.proofs.lemmas.List.{append-nil}
use Rattle.std.proofs.lemmas.List.Concat.{flat_map-cons}
use Rattle.proof_entries.specs.declared.Entry.{Entry}
use Rattle.proof_entries.specs.declared.Entry.TheVariants.{Build}
use Rattle.proof_codec.specs.Entries.{entry_bytes, IsEntry}
use Rattle.core_steps.specs.declared.durable.Durable.{Durable}
use Rattle.core_steps.specs.StateEntries.{state_entries}
use Rattle.project_store.specs.Records.{IsBody, record_body, or_build, checkpoint_entries}

pub build_alone : (es : List Entry) (n : ℕ) → n ≡ length es → n ≡ 0 → es ++ Build ∷ [] ≡ or_build es
build_alone [] n is none = refl
build_alone (e ∷ es) n is none = absurd (omega (arith, is, none))

pub as_listed : (es : List Entry) (n : ℕ) → n ≡ length es → (n ≡ 0 → ⊥) → es ≡ or_build es
as_listed [] n is some = absurd (some is)
as_listed (e ∷ es) n is some = refl

good_body : (body : List ℕ) (es : List Entry) → es ≢ [] → body ≡ record_body es → AllByRecursion IsEntry es → IsBody body es
good_body body es some is all = record { some = some; version = inl (record { bytes = flat_map entry_bytes es; split = is; spelled = (all, refl) }) }

-- a record of one entry
pub one_entry : (body : List ℕ) (entry : Entry) → body ≡ (2 ∷ []) ++ entry_bytes entry → body ≡ record_body (entry ∷ [])
one_entry body entry is = is ∙ ap (λ b. 2 ∷ b) (sym (flat_map-cons entry_bytes entry [] ∙ append-nil (entry_bytes entry)))

not_nil : (e : Entry) (es : List Entry) → e ∷ es ≡ [] → ⊥
not_nil e es is = cc

pub one_good : (body : List ℕ) (entry : Entry) → body ≡ (2 ∷ []) ++ entry_bytes entry → IsEntry entry → IsBody body (entry ∷ [])
one_good body entry is good = good_body body (entry ∷ []) (not_nil entry []) (one_entry body entry is) (good, tt)

some_listed : (es : List Entry) → or_build es ≢ []
some_listed [] = not_nil Build []
some_listed (e ∷ es) = not_nil e es

-- a record of a checkpoint
pub all_good : (body : List ℕ) (d : Durable) → body ≡ record_body (checkpoint_entries d) → AllByRecursion IsEntry (checkpoint_entries d) → IsBody body (checkpoint_entries d)
all_good body d is all = good_body body (checkpoint_entries d) (some_listed (state_entries d)) is all
