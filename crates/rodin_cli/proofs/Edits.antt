-- The edits of the parts, and the build.
use Rattle.std.proofs.Common.{◌≡◌, ◌≢◌, ◌∙◌, refl, sym, ap, subst, inl, inr, ℕ, List, [], ◌∷◌, ◌++◌, length, map, take, drop}
use Rattle.std.specs.Prelude.{Option, Some, None, MatchOption}
use Rattle.std.proofs.lemmas.List.{append-nil, map-id, take-append-drop}
use Rattle.core_steps.specs.declared.Event.TheVariants.{Edit, Build}
use Rattle.core_steps.specs.declared.Reply.{Reply}
use Rattle.core_steps.specs.declared.Reply.TheVariants.{Built, TableFull}
use Rattle.core_steps.specs.State.{State}
use Rattle.core_steps.specs.Outcomes.{StepOutcome}
use Rattle.core_steps.specs.Editing.{Builds}
use Rattle.core_steps.specs.Run.{Exchange}
use Rattle.rodin_cli.specs.declared.round.Numbers.{Numbers}
use Rattle.rodin_cli.specs.declared.session.Session.{Session}
use Rattle.check_input.specs.Inputs.{Component}
use Rattle.rodin_cli.specs.Script.{AreEdits, AreFirstEdits, IsFullScript}
use Rattle.rodin_cli.specs.PrivateSession.{Extends, IsUnchanged, PerformsInSession}
use Rattle.rodin_cli.proofs.Sessions.{both, unchanged, performed}

first_of : (parts others : List Component) (edits : List Exchange) → AreEdits parts edits → AreFirstEdits (parts ++ others) edits
first_of [] others [] are = tt
first_of [] others (x ∷ edits) are = absurd are
first_of (part ∷ parts) others [] are = absurd are
first_of (part ∷ parts) others (x ∷ edits) are = (are.0, first_of parts others edits are.1)

-- edits of all parts are edits of the first ones
pub all_are_first : (parts : List Component) (edits : List Exchange) → AreEdits parts edits → AreFirstEdits parts edits
all_are_first parts edits are = subst (λ ps. AreFirstEdits ps edits) (append-nil parts) (first_of parts [] edits are)

pub front_is_first : (parts front : List Component) (edits : List Exchange) → map (λ part. part) front ≡ take (length front) parts → AreEdits front edits → AreFirstEdits parts edits
front_is_first parts front edits e are =
    let whole : front ++ drop (length front) parts ≡ parts = ap (λ ps. ps ++ drop (length front) parts) (sym (map-id front) ∙ e) ∙ take-append-drop (length front) parts in
    subst (λ ps. AreFirstEdits ps edits) whole (first_of front (drop (length front) parts) edits are)

one_more_edit : (parts : List Component) (part : Component) (edits : List Exchange) (x : Exchange) → AreEdits parts edits → x.event ≡ Edit part.0 part.1 →
    AreEdits (parts ++ part ∷ []) (edits ++ x ∷ [])
one_more_edit [] part [] x are is = (is, tt)
one_more_edit [] part (y ∷ edits) x are is = absurd are
one_more_edit (p ∷ parts) part [] x are is = absurd are
one_more_edit (p ∷ parts) part (y ∷ edits) x are is = (are.0, one_more_edit parts part edits x are.1 is)

-- one more part is edited
pub next_edit : (a b c : Session) (done : List Component) (part : Component) (reply : Reply) → (edits : List Exchange) × AreEdits done edits × Extends a edits b →
    PerformsInSession b (Edit part.0 part.1) reply c → (edits : List Exchange) × AreEdits (done ++ part ∷ []) edits × Extends a edits c
next_edit a b c done part reply edited performs =
    let x = performed b c (Edit part.0 part.1) reply performs in
    (edited.0 ++ x.0 ∷ [], one_more_edit done part edited.0 x.0 edited.1 x.1, both a b c edited.0 (x.0 ∷ []) edited.2 x.3)

pub then_unchanged : (a b c : Session) (xs : List Exchange) → Extends a xs b → IsUnchanged b c → Extends a xs c
then_unchanged a b c xs p same = subst (λ ys. Extends a ys c) (append-nil xs) (both a b c xs [] p (unchanged b c same))

full_nodes : (s : State) (x : StepOutcome) → Builds s x → ((components faulted obligations : ℕ) → x.reply ≢ Built components faulted obligations) → (n : ℕ) × (x.reply ≡ TableFull n)
full_nodes s x (inl d) never = (d.0, ap (λ z. z.reply) d.2)
full_nodes s x (inr d) never = absurd (never _ _ _ (ap (λ z. z.reply) d.4))

-- edits and a build, which is refused where the table is too large
pub built_or_full : (parts : List Component) (a b c : Session) (reply : Reply) (built : Option Numbers) → (edits : List Exchange) × AreEdits parts edits × Extends a edits b →
    PerformsInSession b Build reply c →
    MatchOption built ((components faulted obligations : ℕ) → reply ≢ Built components faulted obligations) (λ n. reply ≡ Built n.components n.faulted n.obligations) →
    MatchOption built
    ((exchanges : List Exchange) × IsFullScript parts exchanges × Extends a exchanges c)
    (λ n. (edits : List Exchange) × (build : Exchange) × AreEdits parts edits × (build.event ≡ Build)
    × (build.reply ≡ Built n.components n.faulted n.obligations) × Extends a (edits ++ build ∷ []) c)
built_or_full parts a b c reply (Some n) edited done says =
    let x = performed b c Build reply done in
    (edited.0, x.0, edited.1, x.1, x.2 ∙ says, both a b c edited.0 (x.0 ∷ []) edited.2 x.3)
built_or_full parts a b c reply None edited done says =
    let x = performed b c Build reply done in
    let full = full_nodes b.core (record { reply = reply; entry = done.0.0; new = c.core }) done.0.1.2 says in (
      edited.0 ++ x.0 ∷ [],
      record { edits = edited.0; build = x.0; nodes = full.0; in_order = refl; edits_are = edited.1; build_is = (x.1, x.2 ∙ full.1) },
      both a b c edited.0 (x.0 ∷ []) edited.2 x.3,
    )
