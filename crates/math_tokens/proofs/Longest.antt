-- The longest form of a table.
use Rattle.std.proofs.Common.{◌≡◌, ◌≢◌, ℕ, ◌+◌, ◌<◌, ◌≤◌, List, [], ◌∷◌, ◌++◌, length, take, Bool, true, false, ◌&&◌, cond, Option, Some, None, refl, ap, sym, ◌∙◌, arith, nat_lt}
use Rattle.std.specs.Prelude.{bytes_eq}
use Rattle.std.proofs.lemmas.Bool.Decides.{nat_tests}
use Rattle.std.proofs.lemmas.List.{length-take-le, length-take}
use Rattle.std.proofs.lemmas.Slice.Eq.{bytes_eq-Decides}
use Rattle.std.specs.Borrow.{Bor}
use Rattle.std.proofs.Common.{get_or}
use Rattle.std.proofs.lemmas.List.{take_more, map-append}
use Rattle.math_tokens.specs.Lexemes.{Forms, sign_in}
use Rattle.math_tokens.specs.Private.{Best, better, length_of, table}

abbrev pub or_else : Option ℕ → Option ℕ → Option ℕ
or_else None o = o
or_else (Some k) o = Some k

pub or_else-none : (o : Option ℕ) → or_else o None ≡ o
or_else-none None = refl
or_else-none (Some k) = refl

or_else-cond : (b : Bool) (k : ℕ) (x y z : Option ℕ) → x ≡ or_else y z → cond b (Some k) x ≡ or_else (cond b (Some k) y) z
or_else-cond true k x y z h = refl
or_else-cond false k x y z h = h

pub sign_in-append : (forms more : Forms) (bytes : List ℕ) → sign_in (forms ++ more) bytes ≡ or_else (sign_in forms bytes) (sign_in more bytes)
sign_in-append [] more bytes = refl
sign_in-append (f ∷ forms) more bytes =
    or_else-cond (bytes_eq f.0 bytes) f.1 (sign_in (forms ++ more) bytes) (sign_in forms bytes) (sign_in more bytes) (sign_in-append forms more bytes)

pub false_from : (b : Bool) → (b ≡ true → ⊥) → b ≡ false
false_from true h = absurd (h refl)
false_from false h = refl

module _ (text form : List ℕ) where
  -- a form of another length is none of the front's
  other_length : (m : ℕ) → m ≤ length text → length form ≢ m → bytes_eq form (take m text) ≡ false
  other_length m short differs = false_from (bytes_eq form (take m text)) (λ t. differs (ap length ((bytes_eq-Decides form (take m text)).0 t) ∙ length-take-le m text short))

  -- the front of the form's length is the form, where the text starts with it
  front_is : bytes_eq form (take (length form) text) ≡ true → form ≡ take (length form) text
  front_is t = (bytes_eq-Decides form (take (length form) text)).0 t

  no_start : bytes_eq form (take (length form) text) ≡ false → (m : ℕ) → m ≤ length text → bytes_eq form (take m text) ≡ false
  no_start f m short = false_from (bytes_eq form (take m text)) (λ t. (
      let is : form ≡ take m text = (bytes_eq-Decides form (take m text)).0 t in
      let len : length form ≡ m = ap length is ∙ length-take-le m text short in
      let again : form ≡ take (length form) text = is ∙ ap (λ n. take n text) (sym len) in
      let yes' : bytes_eq form (take (length form) text) ≡ true = (bytes_eq-Decides form (take (length form) text)).1 again in
      cc))

  fits_front : bytes_eq form (take (length form) text) ≡ true → length form ≤ length text
  fits_front t = omega (arith, ap length (front_is t), length-take (length form) text)

module _ (forms : Forms) (form text : List ℕ) (k : ℕ) where
  unchanged : (m : ℕ) → bytes_eq form (take m text) ≡ false → sign_in (forms ++ (form, k) ∷ []) (take m text) ≡ sign_in forms (take m text)
  unchanged m f = sign_in-append forms ((form, k) ∷ []) (take m text) ∙ rw f (or_else-none (sign_in forms (take m text)))

  still_there : (m j : ℕ) → sign_in forms (take m text) ≡ Some j → sign_in (forms ++ (form, k) ∷ []) (take m text) ≡ Some j
  still_there m j h = sign_in-append forms ((form, k) ∷ []) (take m text) ∙ rw h

  added : (m : ℕ) → sign_in forms (take m text) ≡ None → bytes_eq form (take m text) ≡ true → sign_in (forms ++ (form, k) ∷ []) (take m text) ≡ Some k
  added m h t = sign_in-append forms ((form, k) ∷ []) (take m text) ∙ rw (h, t)

  -- nothing was found beyond the best
  pub none_beyond : (b : Option (ℕ × ℕ)) → Best forms text b → (m : ℕ) → length_of b < m → m ≤ length text → sign_in forms (take m text) ≡ None
  none_beyond None best m more short = best m more short
  none_beyond (Some found) best m more short = best.longest m more short

  accepted : (b : Option (ℕ × ℕ)) → Best forms text b → length_of b < length form → bytes_eq form (take (length form) text) ≡ true → Best (forms ++ (form, k) ∷ []) text (Some (length form, k))
  accepted b best more t = record {
    some = omega arith;
    within = fits_front text form t;
    is = added (length form) (none_beyond b best (length form) more (fits_front text form t)) t;
    longest = λ m beyond short. unchanged m (other_length text form m short (λ same. absurd (omega (arith, same)))) ∙ none_beyond b best m (omega arith) short;
  }

  kept : (b : Option (ℕ × ℕ)) → Best forms text b → ((m : ℕ) → length_of b < m → m ≤ length text → bytes_eq form (take m text) ≡ false) → Best (forms ++ (form, k) ∷ []) text b
  kept None best no_match = λ m more short. unchanged m (no_match m more short) ∙ best m more short
  kept (Some found) best no_match = record {
    some = best.some;
    within = best.within;
    is = still_there found.0 found.1 best.is;
    longest = λ m more short. unchanged m (no_match m more short) ∙ best.longest m more short;
  }

  pub best-better : (b : Option (ℕ × ℕ)) → Best forms text b → Best (forms ++ (form, k) ∷ []) text (better b form k text)
  best-better b best = go (nat_lt (length_of b) (length form)) refl (bytes_eq form (take (length form) text)) refl
    where
      go : (v : Bool) → nat_lt (length_of b) (length form) ≡ v → (w : Bool) → bytes_eq form (take (length form) text) ≡ w →
          Best (forms ++ (form, k) ∷ []) text (cond (v && w) (Some (length form, k)) b)
      go true e true d = accepted b best (grind (arith, nat_tests)) d
      go true e false d = kept b best (λ m more short. no_start text form d m short)
      go false e w d = kept b best (λ m more short. other_length text form m short (λ same. absurd (grind (arith, nat_tests))))

-- one entry more of the table
pub best-more : (entries : List (Bor (List ℕ) × ℕ)) (i : ℕ) (d : Bor (List ℕ) × ℕ) (text form : List ℕ) (b new : Option (ℕ × ℕ)) → i < length entries →
    form ≡ (get_or entries i d).0.now → new ≡ better b form (get_or entries i d).1 text →
    Best (table (take i entries)) text b → Best (table (take (i + 1) entries)) text new
best-more entries i d text form b new short f n best =
    let entry : Bor (List ℕ) × ℕ = get_or entries i d in
    let more : table (take (i + 1) entries) ≡ table (take i entries) ++ (entry.0.now, entry.1) ∷ [] =
    ap table (take_more entries i d short) ∙ map-append (λ e. (e.0.now, e.1)) (take i entries) (entry ∷ []) in
    rw (more, n, f) (best-better (table (take i entries)) entry.0.now text entry.1 b best)
