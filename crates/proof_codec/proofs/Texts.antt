-- A text is its length and its bytes.
use Rattle.std.proofs.Common.{◌≡◌, ◌∙◌, sym, ap, subst, ℕ, ◌<◌, ◌≤◌, ◌^◌, true, List, ◌++◌, length, arith, append_assoc}
use Rattle.std.specs.Str.{is_utf8}
use Rattle.proof_codec.specs.Forms.{BeginsWith, BeginsNone}
use Rattle.proof_codec.specs.Private.{IsReadAs, IsOfLength, as_it_is}
use Rattle.proof_codec.specs.Numbers.{FitsU32, number_bytes, IsText, text_bytes}

module _ (most : ℕ) (small : most < 2 ^ 32) (old mid new : List ℕ) (count : ℕ) (counted : IsReadAs FitsU32 number_bytes old count mid) where
  -- what stands there as a text has this length, and its bytes stand behind the length
  pub begins_with_count : (text : List ℕ) (others : List ℕ) → BeginsWith (IsText most) text_bytes old text others → (length text ≡ count) × (mid ≡ text ++ others)
  begins_with_count text others begins =
      let same = counted.only (length text) (text ++ others) (record { good = omega (arith, begins.good.1); split = begins.split ∙ append_assoc (number_bytes (length text)) text others }) in
      (same.0, sym same.1)

  pub text_read : (text : List ℕ) → IsReadAs (IsOfLength count) as_it_is mid text new → is_utf8 text ≡ true → count ≤ most → IsReadAs (IsText most) text_bytes old text new
  text_read text parted utf8 few = record {
    here = record {
      good = (utf8, omega (arith, parted.here.good));
      split = counted.here.split ∙ ap (λ bytes. number_bytes count ++ bytes) parted.here.split ∙ sym (append_assoc (number_bytes count) text new) ∙ ap (λ n. (number_bytes n ++ text) ++ new) (sym parted.here.good);
    };
    only = λ other others begins.
        let is = begins_with_count other others begins in
        parted.only other others (record { good = is.0; split = is.1 });
  }

  pub no_text : (bytes : List ℕ) → IsReadAs (IsOfLength count) as_it_is mid bytes new → (is_utf8 bytes ≡ true → ⊥) → BeginsNone (IsText most) text_bytes old
  no_text bytes parted bad = record {
    none = λ other others begins.
        let is = begins_with_count other others begins in
        let same = parted.only other others (record { good = is.0; split = is.1 }) in
        bad (subst (λ text. is_utf8 text ≡ true) same.0 begins.good.0);
  }
