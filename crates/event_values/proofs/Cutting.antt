-- Texts cut at their commas, and values read of the pieces.
use Rattle.std.proofs.Common.{◌≡◌, ◌∙◌, ap, sym, subst, refl, ℕ, ◌+◌, ◌<◌, ◌≤◌, Bool, true, false, List, [], ◌∷◌, ◌++◌, length, take, drop, Option, Some, None, append_assoc}
use Rattle.std.proofs.lemmas.List.{drop_more}
use Rattle.std.proofs.Math.ListN.{drop_of_length-le}
use Rattle.std.specs.Option.{option_map, option_and_then}
use Rattle.event_values.specs.declared.value.Value.{Value}
use Rattle.event_values.specs.Reading.{is_cut_at, depth_after, in_front, comma_pieces, piece_end, text_values}

-- the pieces behind the first one
abbrev pub others : List ℕ → List (List ℕ)
others [] = []
others (c ∷ cs) = comma_pieces 0 cs

-- the first piece, and the others
abbrev pub IsFirst : ℕ → List ℕ → Type 0
IsFirst depth text = comma_pieces depth text ≡ take (piece_end depth text) text ∷ others (drop (piece_end depth text) text)

by_sign : (depth c : ℕ) (cs : List ℕ) (b : Bool) → is_cut_at depth c ≡ b → IsFirst (depth_after depth c) cs → IsFirst depth (c ∷ cs)
by_sign depth c cs true e more = rw e refl
by_sign depth c cs false e more = rw e (ap (in_front c) more)

pub first_piece : (depth : ℕ) (text : List ℕ) → IsFirst depth text
first_piece depth [] = refl
first_piece depth (c ∷ cs) = by_sign depth c cs (is_cut_at depth c) refl (first_piece (depth_after depth c) cs)

module _ (read : List ℕ → Option Value) where
  -- what is read of the whole is what was found, before what is read of the rest
  unfoldable pub IsSoFar : List ℕ → List Value → List ℕ → Type 0
  IsSoFar text found rest = text_values read (comma_pieces 0 text) ≡ option_map (λ vs. found ++ vs) (text_values read (comma_pieces 0 rest))

  nothing_before : (o : Option (List Value)) → o ≡ option_map (λ vs. [] ++ vs) o
  nothing_before None = refl
  nothing_before (Some vs) = refl

  pub read_from_start : (text : List ℕ) (found : List Value) → found ≡ [] → IsSoFar text found text
  read_from_start text found e = subst (λ vs. IsSoFar text vs text) (sym e) (unfold IsSoFar in nothing_before (text_values read (comma_pieces 0 text)))

  one_before : (found : List Value) (v : Value) (o : Option (List Value))
      → option_map (λ vs. found ++ vs) (option_map (λ vs. v ∷ vs) o) ≡ option_map (λ vs. (found ++ v ∷ []) ++ vs) o
  one_before found v None = refl
  one_before found v (Some vs) = ap Some (sym (append_assoc found (v ∷ []) vs))

  -- what the pieces give where the first one gives a value
  first_read : (rest : List ℕ) (end : ℕ) (v : Value) → end ≡ piece_end 0 rest → read (take end rest) ≡ Some v
      → text_values read (comma_pieces 0 rest) ≡ option_map (λ vs. v ∷ vs) (text_values read (others (drop end rest)))
  first_read rest end v is r =
      ap (text_values read) (first_piece 0 rest ∙ ap (λ n. take n rest ∷ others (drop n rest)) (sym is))
      ∙ ap (option_and_then (λ w. option_map (λ vs. w ∷ vs) (text_values read (others (drop end rest))))) r

  others_there : (rest : List ℕ) (end : ℕ) → end < length rest → others (drop end rest) ≡ comma_pieces 0 (drop (end + 1) rest)
  others_there rest end less = ap others (drop_more rest end 0 less)

  no_others : (rest : List ℕ) (end : ℕ) → length rest ≤ end → others (drop end rest) ≡ []
  no_others rest end past = ap others (drop_of_length-le rest past)

  pub read_more : (text rest later : List ℕ) (found new : List Value) (end : ℕ) (v : Value) → IsSoFar text found rest → end ≡ piece_end 0 rest → end < length rest
      → later ≡ drop (end + 1) rest → read (take end rest) ≡ Some v → new ≡ found ++ v ∷ [] → IsSoFar text new later
  read_more text rest later found new end v so_far is less l r e =
      subst (λ vs. IsSoFar text vs later) (sym e) (subst (λ t. IsSoFar text (found ++ v ∷ []) t) (sym l) (unfold IsSoFar in
      (so_far ∙ ap (option_map (λ vs. found ++ vs)) (first_read rest end v is r ∙ ap (λ ps. option_map (λ vs. v ∷ vs) (text_values read ps)) (others_there rest end less))
      ∙ one_before found v (text_values read (comma_pieces 0 (drop (end + 1) rest))))))

  pub read_last : (text rest : List ℕ) (found new : List Value) (end : ℕ) (v : Value) → IsSoFar text found rest → end ≡ piece_end 0 rest → length rest ≤ end
      → read (take end rest) ≡ Some v → new ≡ found ++ v ∷ [] → Some new ≡ text_values read (comma_pieces 0 text)
  read_last text rest found new end v so_far is past r e = unfold IsSoFar in
      sym (so_far ∙ ap (option_map (λ vs. found ++ vs)) (first_read rest end v is r ∙ ap (λ ps. option_map (λ vs. v ∷ vs) (text_values read ps)) (no_others rest end past)) ∙ ap Some (sym e))

  pub read_none : (text rest : List ℕ) (found : List Value) (end : ℕ) → IsSoFar text found rest → end ≡ piece_end 0 rest
      → read (take end rest) ≡ None → None ≡ text_values read (comma_pieces 0 text)
  read_none text rest found end so_far is r = unfold IsSoFar in
      sym (so_far ∙ ap (λ ps. option_map (λ vs. found ++ vs) (text_values read ps)) (first_piece 0 rest ∙ ap (λ n. take n rest ∷ others (drop n rest)) (sym is))
      ∙ ap (λ o. option_map (λ vs. found ++ vs) (option_and_then (λ w. option_map (λ vs. w ∷ vs) (text_values read (others (drop end rest)))) o)) r)

pub ruleset steps = (read_from_start, read_none)
