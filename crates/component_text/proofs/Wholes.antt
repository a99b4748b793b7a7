-- Machines, and components of both kinds.
use Rattle.std.proofs.Common.{◌≡◌, ◌∙◌, ap, ℕ, List, [], ◌∷◌, ◌++◌, Bool, true, false, inl, inr, Ok, Err, refl, sym, subst, append_assoc, append-nil, bytes_eq}
use Rattle.std.specs.Prelude.{Result, codes, ◌⊎◌}
use Rattle.model_core.specs.declared.component.RawComponent.{RawComponent}
use Rattle.component_text.specs.declared.stop.Stop.{Stop}
use Rattle.component_text.specs.declared.stop.Stop.TheVariants as stop
use Rattle.component_text.specs.Marks.{Mark, word, is_word_mark, is_at}
use Rattle.component_text.specs.Forms.{Bounds, limits, parts, none}
use Rattle.component_text.specs.Grammar.{Headed, IsContext}
use Rattle.component_text.specs.Machines.{IsMachine, MachineBody, IsComponent, a_context, a_machine}
use Rattle.component_text.specs.Faults.{Continues, BeginsWithin, NoneGoesOn, IsLargeAt, long, wide}
use Rattle.component_text.specs.PrivateReading.{Begins, ReadsOrStops, TakesEnd, ReadsWhole}
use Rattle.component_text.proofs.Parts.{Good}
use Rattle.component_text.proofs.Placed.{Leaves}
use Rattle.component_text.proofs.Whole.{whole, body_unexpected, body_too_large, head_unexpected, head_wrong, body_wrong, after_body, after_end, end_wrong}
use Rattle.component_text.proofs.Machines.{good_machine_body, leaves_machine_body, machine_body_begins}

-- a word, a body and `end`
module _ (w : List ℕ) (no_variant : bytes_eq w (codes "variant") ≡ false) (Body : Bounds → List Mark → RawComponent → List Mark → Type 0) (good : Good Body) (leaves : Leaves Body) (start : Begins Body []) where
  abbrev IsWhole : Bounds → List Mark → RawComponent → Type 0
  IsWhole = Headed w Body

  body_stops : (s m rest : List Mark) (p : ℕ) (e : Stop) → s ≡ word w p ∷ m → ReadsOrStops Body m (Err e) rest → ReadsWhole IsWhole s (Err e) rest
  body_stops s m rest p stop.Unexpected e h = (body_unexpected w no_variant Body s m rest p e h, body_wrong w no_variant Body s m p e h.wrong)
  body_stops s m rest p stop.TooLarge e h = (body_too_large w no_variant Body s m rest p e h, body_wrong w no_variant Body s m p e h.wrong)
  body_stops s m rest p stop.OutOfMemory e h = tt

  head_missing : (s m : List Mark) → (m ≡ s) × (is_at (is_word_mark w) s ≡ false) → ReadsWhole IsWhole s (Err stop.Unexpected) m
  head_missing s m h = subst (λ t. ReadsWhole IsWhole s (Err stop.Unexpected) t) (sym h.0) (head_unexpected w no_variant Body s h.1 start, head_wrong w no_variant Body s h.1)

  whole_unended : (s m k rest : List Mark) (p : ℕ) (c : RawComponent) → s ≡ word w p ∷ m → Body limits m c k → TakesEnd k false rest → ReadsWhole IsWhole s (Err stop.Unexpected) rest
  whole_unended s m k rest p c e h (inl f) =
      subst (λ t. ReadsWhole IsWhole s (Err stop.Unexpected) t) (sym f.0) (
        after_body w no_variant Body good leaves s m k p c e h f.1,
        end_wrong w no_variant Body good s m k p c e h
            (λ q is. let does : is_at (is_word_mark (codes "end")) k ≡ true = ap (is_at (is_word_mark (codes "end"))) is in let contra : true ≡ false = sym does ∙ f.1 in cc),
      )
  whole_unended s m k rest p c e h (inr f) =
      let is : k ≡ word (codes "end") f.0 ∷ (f.1 ∷ f.2) = f.3 ∙ ap (λ t. word (codes "end") f.0 ∷ t) f.4 in
      subst (λ t. ReadsWhole IsWhole s (Err stop.Unexpected) t) (sym f.4) (
        after_end w no_variant Body good leaves s m k p f.0 f.1 f.2 c e h is,
        end_wrong w no_variant Body good s m k p c e h (λ q other. let clash : word (codes "end") q ∷ [] ≡ word (codes "end") f.0 ∷ (f.1 ∷ f.2) = sym other ∙ is in cc),
      )

pub machine_stops : (s m rest : List Mark) (p : ℕ) (e : Stop) → s ≡ word (codes "machine") p ∷ m → ReadsOrStops MachineBody m (Err e) rest → ReadsWhole IsMachine s (Err e) rest
machine_stops = body_stops (codes "machine") refl MachineBody good_machine_body leaves_machine_body machine_body_begins

pub no_machine : (s m : List Mark) → (m ≡ s) × (is_at (is_word_mark (codes "machine")) s ≡ false) → ReadsWhole IsMachine s (Err stop.Unexpected) m
no_machine = head_missing (codes "machine") refl MachineBody good_machine_body leaves_machine_body machine_body_begins

pub machine_read : (s m k rest : List Mark) (p : ℕ) (c : RawComponent) → s ≡ word (codes "machine") p ∷ m → MachineBody limits m c k → TakesEnd k true rest → IsMachine limits s c
machine_read s m k rest p c e h f = whole (codes "machine") refl MachineBody s m k p f.0 c e h f.1

pub machine_unended : (s m k rest : List Mark) (p : ℕ) (c : RawComponent) → s ≡ word (codes "machine") p ∷ m → MachineBody limits m c k → TakesEnd k false rest → ReadsWhole IsMachine s (Err stop.Unexpected) rest
machine_unended = whole_unended (codes "machine") refl MachineBody good_machine_body leaves_machine_body machine_body_begins

-- whether `machine` stands first
abbrev begins_machine : List Mark → Bool
begins_machine s = is_at (is_word_mark (codes "machine")) s

same_before : (before : List Mark) (x : Mark) (rest more : List Mark) → begins_machine (before ++ x ∷ rest) ≡ begins_machine (before ++ x ∷ more)
same_before [] x rest more = refl
same_before (y ∷ before) x rest more = refl

machine_first : (b : Bounds) (s : List Mark) (c : RawComponent) → IsMachine b s c → begins_machine s ≡ true
machine_first b s c h = ap begins_machine h.head

context_first : (b : Bounds) (s : List Mark) (c : RawComponent) → IsContext b s c → begins_machine s ≡ false
context_first b s c h = ap begins_machine h.head

-- one kind of components, where none of the other kind begins so
module _ (v : Bool) (This That : Bounds → List Mark → RawComponent → Type 0) (is_one : (b : Bounds) (s : List Mark) (c : RawComponent) → This b s c → IsComponent b s c)
    (cases : (b : Bounds) (s : List Mark) (c : RawComponent) → IsComponent b s c → This b s c ⊎ That b s c)
    (other_first : (b : Bounds) (s : List Mark) (c : RawComponent) → begins_machine s ≡ v → That b s c → ⊥) where
  of_this : (b : Bounds) (s : List Mark) (c : RawComponent) → begins_machine s ≡ v → (This b s c → ⊥) → IsComponent b s c → ⊥
  of_this b s c e isnt h = elim (cases b s c h) [ inl k ↦ isnt k | inr k ↦ other_first b s c e k ]

  none_of_both : (before rest : List Mark) → begins_machine (before ++ rest) ≡ v → NoneGoesOn This before rest → NoneGoesOn IsComponent before rest
  none_of_both before [] e n = λ c. of_this none before c (sym (ap begins_machine (append-nil before)) ∙ e) (n c)
  none_of_both before (x ∷ rest) e n = λ more c. of_this none (before ++ x ∷ more) c (same_before before x more rest ∙ e) (n more c)

  continues_both : (b : Bounds) (before : List Mark) → Continues This b before → Continues IsComponent b before
  continues_both b before h = (h.0, h.1, is_one b (before ++ h.0) h.1 h.2)

  within_both : (before : List Mark) → BeginsWithin This before → BeginsWithin IsComponent before
  within_both before h = record { continues = continues_both parts before h.continues; short = h.short }

  only_wider_both : (before : List Mark) (x : Mark) (rest : List Mark) → begins_machine (before ++ x ∷ rest) ≡ v → (Continues This parts (before ++ x ∷ []) → ⊥) → Continues IsComponent parts (before ++ x ∷ []) → ⊥
  only_wider_both before x rest e isnt h =
      let same : begins_machine ((before ++ x ∷ []) ++ h.0) ≡ v = ap begins_machine (append_assoc before (x ∷ []) h.0) ∙ same_before before x h.0 rest ∙ e in
      of_this parts ((before ++ x ∷ []) ++ h.0) h.1 same (λ k. isnt (h.0, h.1, k)) h.2

  large_both : (before : List Mark) (x : Mark) (rest : List Mark) → begins_machine (before ++ x ∷ rest) ≡ v → IsLargeAt This before x → IsLargeAt IsComponent before x
  large_both before x rest e (long h) = long h
  large_both before x rest e (wide h k) = wide (continues_both none (before ++ x ∷ []) h) (only_wider_both before x rest e k)

  small_both : (before rest : List Mark) → NoneGoesOn IsComponent before rest → ((x : Mark) (later : List Mark) → rest ≡ x ∷ later → IsLargeAt This before x → ⊥) →
      (x : Mark) (later : List Mark) → rest ≡ x ∷ later → IsLargeAt IsComponent before x → ⊥
  small_both before rest n small x later e (long h) = small x later e (long h)
  small_both before rest n small x later e (wide h k) =
      subst (NoneGoesOn IsComponent before) e n h.0 h.1 (subst (λ t. IsComponent none t h.1) (append_assoc before (x ∷ []) h.0) h.2)

  pub either_reads : (s rest : List Mark) (r : Result RawComponent Stop) → begins_machine s ≡ v → ReadsWhole This s r rest → ReadsWhole IsComponent s r rest
  either_reads s rest (Ok c) e h = is_one limits s c h
  either_reads s rest (Err stop.Unexpected) e h =
      let u = h.0 in
      let nowhere : NoneGoesOn IsComponent u.before rest = none_of_both u.before rest (sym (ap begins_machine u.is) ∙ e) u.nowhere in
      (record { before = u.before; is = u.is; begins = within_both u.before u.begins; nowhere = nowhere; small = small_both u.before rest nowhere u.small }, λ c. of_this limits s c e (h.1 c))
  either_reads s rest (Err stop.TooLarge) e h =
      let u = h.0 in (
        record {
          before = u.before;
          token = u.token;
          later = u.later;
          is = u.is;
          next = u.next;
          begins = within_both u.before u.begins;
          large = large_both u.before u.token u.later (sym (ap begins_machine (u.is ∙ ap (λ t. u.before ++ t) u.next)) ∙ e) u.large;
        },
        λ c. of_this limits s c e (h.1 c),
      )
  either_reads s rest (Err stop.OutOfMemory) e h = tt

to_machine : (b : Bounds) (s : List Mark) (c : RawComponent) → IsComponent b s c → IsMachine b s c ⊎ IsContext b s c
to_machine b s c (a_context h) = inr h
to_machine b s c (a_machine h) = inl h

to_context : (b : Bounds) (s : List Mark) (c : RawComponent) → IsComponent b s c → IsContext b s c ⊎ IsMachine b s c
to_context b s c (a_context h) = inl h
to_context b s c (a_machine h) = inr h

pub machine_as_component : (s rest : List Mark) (r : Result RawComponent Stop) → begins_machine s ≡ true → ReadsWhole IsMachine s r rest → ReadsWhole IsComponent s r rest
machine_as_component = either_reads true IsMachine IsContext (λ b s c h. a_machine h) to_machine (λ b s c e h. let clash : true ≡ false = sym e ∙ context_first b s c h in cc)

pub context_as_component : (s rest : List Mark) (r : Result RawComponent Stop) → begins_machine s ≡ false → ReadsWhole IsContext s r rest → ReadsWhole IsComponent s r rest
context_as_component = either_reads false IsContext IsMachine (λ b s c h. a_context h) to_context (λ b s c e h. let clash : true ≡ false = sym (machine_first b s c h) ∙ e in cc)
