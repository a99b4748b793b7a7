-- What lasts after an entry, by its parts.
use Rattle.std.proofs.Common.{◌≡◌, ◌∙◌, ap, refl}
use Rattle.std.specs.Prelude.{Option, Some, None}
use Rattle.std.specs.FinMap.{FinMap}
use Rattle.proof_entries.specs.declared.Entry.{Entry}
use Rattle.proof_entries.specs.declared.Entry.TheVariants.{Put, Drop, Build, SetProof, Purge}
use Rattle.proof_entries.specs.declared.Proof.{Proof}
use Rattle.core_steps.specs.Durable.{text_cmp, ProjectMap}
use Rattle.core_steps.specs.declared.durable.Durable.{Durable}
use Rattle.core_steps.specs.State.{entered_if}
use Rattle.prepared_events.specs.Entered.{texts_after, built_after, proofs_after}

-- the parts after the entry are those of what lasts
entered_parts : (d : Durable) (e : Option Entry) →
    record { texts = texts_after d.texts e; built = built_after d.texts d.built e; proofs = proofs_after d.proofs e } ≡ entered_if d e
entered_parts d None = refl
entered_parts d (Some (Put name text)) = refl
entered_parts d (Some (Drop name)) = refl
entered_parts d (Some Build) = refl
entered_parts d (Some (SetProof name proof)) = refl
entered_parts d (Some (Purge names)) = refl

-- what has these parts is what lasts after the entry
pub entered_by : (d : Durable) (e : Option Entry) (texts built : ProjectMap) (proofs : FinMap text_cmp Proof) → texts ≡ texts_after d.texts e →
    built ≡ built_after d.texts d.built e → proofs ≡ proofs_after d.proofs e → record { texts = texts; built = built; proofs = proofs } ≡ entered_if d e
entered_by d e texts built proofs t b p =
    ap (λ (x : ProjectMap). record { texts = x; built = built; proofs = proofs }) t
    ∙ ap (λ (x : ProjectMap). record { texts = texts_after d.texts e; built = x; proofs = proofs }) b
    ∙ ap (λ (x : FinMap text_cmp Proof). record { texts = texts_after d.texts e; built = built_after d.texts d.built e; proofs = x }) p
    ∙ entered_parts d e
