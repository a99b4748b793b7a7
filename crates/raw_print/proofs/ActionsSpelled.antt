-- The tokens of the printed pieces of an action spell it, without its places.
use Rattle.std.proofs.Common.{◌≡◌, ◌∙◌, sym as back, ap, subst, refl, ℕ, true, List, [], ◌∷◌, ◌++◌, map, append_assoc, append-nil}
use Rattle.std.specs.Prelude.{Option}
use Rattle.std.proofs.lemmas.List.{length-map}
use Rattle.formula_core.specs.declared.raw.Raw.{Raw}
use Rattle.formula_core.specs.declared.raw.Ref.{Ref}
use Rattle.formula_core.specs.declared.raw.RawAction.{RawAction}
use Rattle.formula_core.specs.declared.raw.RawAction.TheVariants.{Assign, Apply, ChooseIn, ChooseSuch}
use Rattle.math_grammar.specs.declared.holes.Grade.{Grade}
use Rattle.math_grammar.specs.declared.holes.Hole.TheVariants as hole
use Rattle.math_grammar.specs.declared.levels.Bracket.TheVariants as bracket
use Rattle.math_grammar.specs.declared.symbols.Symbol.{Symbol}
use Rattle.math_grammar.specs.declared.symbols.Symbol.TheVariants as sym
use Rattle.math_grammar.specs.Levels.{fits}
use Rattle.math_grammar.specs.Tokens.{Item}
use Rattle.math_grammar.specs.Grammar.{item, Reads, Spells}
use Rattle.math_grammar.specs.Actions.{ref, Targets, last_target, next_target, Values, last_value, next_value, SpellsAction, assigns, applies, chooses_in, chooses_such}
use Rattle.math_places.specs.Places.{unplaced, unplaced_ref, unplaced_action}
use Rattle.math_grammar.specs.Characters.{bytes}
use Rattle.token_text.specs.Pieces.{Blank, tokens_of, word_piece, close_round_piece, becomes, becomes_such, in_round, behind_commas, separated_pieces}
use Rattle.raw_print.specs.Printing.{pieces, target, targets, raw_tokens, action_tokens}
use Rattle.raw_print.proofs.Grades.{is_predicate, place_sort, fits_expression, at_end, closing}
use Rattle.raw_print.specs.Back.{AllProper}
use Rattle.token_text.proofs.Pieces.{tokens-append, tokens-behind as behind}
use Rattle.raw_print.proofs.Spelled.{Again, reads_again, spelled_again}

record TargetsAgain (before refs : List Ref) (rest : List Item) : Type 0 where
  first : Ref
  more : List Ref
  is : refs ≡ before ++ first ∷ more
  reads : (others : List Ref) (m : List Item) →
      (rest : List Item) → (x : Symbol) (w : List ℕ) → m ≡ item x 0 w ∷ rest → Targets others (tokens_of (target first ++ behind_commas (map target more)) ++ m) (others ++ map unplaced_ref (first ∷ more)) m
  proper : AllProper rest

targets_again : {before refs : List Ref} {s rest : List Item} → Targets before s refs rest → AllProper s → TargetsAgain before refs rest
targets_again (last_target {n = n} {p = p} is) all = record { first = ref n p; more = []; is = refl; reads = λ others m rest x w e. last_target is; proper = all.1 }
targets_again (next_target {before = before} {n = n} {p = p} is later) all =
    let own = targets_again later all.1.1 in
    record {
      first = ref n p;
      more = own.first ∷ own.more;
      is = own.is ∙ append_assoc before (ref n p ∷ []) (own.first ∷ own.more);
      reads = λ others m rest x w e.
          subst (λ us. Targets others (tokens_of (target (ref n p) ++ behind_commas (map target (own.first ∷ own.more))) ++ m) us m) (append_assoc others (ref n 0 ∷ []) (map unplaced_ref (own.first ∷ own.more)))
          (next_target is (own.reads (others ++ ref n 0 ∷ []) m rest x w e));
      proper = own.proper;
    }

all_targets : (refs : List Ref) (s : List Item) → TargetsAgain [] refs s → (x : Symbol) (w : List ℕ) (rest : List Item) → Targets [] (tokens_of (targets refs) ++ (item x 0 w ∷ rest)) (map unplaced_ref refs) (item x 0 w ∷ rest)
all_targets refs s a x w rest = subst (λ rs. Targets [] (tokens_of (targets rs) ++ (item x 0 w ∷ rest)) (map unplaced_ref rs) (item x 0 w ∷ rest)) (back a.is) (a.reads [] (item x 0 w ∷ rest) rest x w refl)

module _ (limit : Option ℕ) where
  -- an expression that ends the text
  ends_text : (t : Raw) (g : Grade) → fits hole.Expression g ≡ true → Again limit (is_predicate g) t → Spells limit hole.Expression (raw_tokens t) (unplaced t)
  ends_text t g f a =
      let read : Reads limit a.bare_grade (raw_tokens t) a.tree [] = subst (λ u. Reads limit a.bare_grade u a.tree []) (append-nil (raw_tokens t)) (a.bare [] at_end) in
      record { g = a.bare_grade; reads = subst (λ u. Reads limit a.bare_grade (raw_tokens t) u []) (back a.is) read; fit = fits_expression a.bare_grade (a.sort ∙ place_sort hole.Expression g refl f) }

  record ValuesAgain (before values : List Raw) : Type 0 where
    first : Raw
    more : List Raw
    is : values ≡ before ++ first ∷ more
    reads : (others : List Raw) → Values limit others (tokens_of (pieces first ++ behind_commas (map pieces more))) (others ++ map unplaced (first ∷ more))

  values_again : {before values : List Raw} {s : List Item} → Values limit before s values → AllProper s → ValuesAgain before values
  values_again (last_value {s = s} {e = e} spelled) all =
      record {
        first = e;
        more = [];
        is = refl;
        reads = λ others. subst (λ ps. Values limit others (tokens_of ps) (others ++ unplaced e ∷ [])) (back (append-nil (pieces e))) (last_value (spelled_again limit hole.Expression s e refl spelled all));
      }
  values_again (next_value {before = before} {g = g} {e = e} r f later) all =
      let own = reads_again limit r all in
      let a : Again limit (is_predicate g) e = own.0 in
      let others_own = values_again later own.1.1 in
      record {
        first = e;
        more = others_own.first ∷ others_own.more;
        is = others_own.is ∙ append_assoc before (e ∷ []) (others_own.first ∷ others_own.more);
        reads = λ others.
            let m : List Item = tokens_of (pieces others_own.first ++ behind_commas (map pieces others_own.more)) in
            let first : Reads limit a.bare_grade (tokens_of (pieces e) ++ (item sym.Comma 0 (bytes ",") ∷ m)) (unplaced e) (item sym.Comma 0 (bytes ",") ∷ m) =
            subst (λ u. Reads limit a.bare_grade (tokens_of (pieces e) ++ (item sym.Comma 0 (bytes ",") ∷ m)) u (item sym.Comma 0 (bytes ",") ∷ m)) (back a.is) (a.bare _ (closing refl)) in
            let all_of : Values limit others (tokens_of (pieces e) ++ (item sym.Comma 0 (bytes ",") ∷ m)) ((others ++ unplaced e ∷ []) ++ map unplaced (others_own.first ∷ others_own.more)) =
            next_value first (fits_expression a.bare_grade (a.sort ∙ place_sort hole.Expression g refl f)) (others_own.reads (others ++ unplaced e ∷ [])) in
            subst (λ us. Values limit others (tokens_of (pieces e ++ behind_commas (map pieces (others_own.first ∷ others_own.more)))) us) (append_assoc others (unplaced e ∷ []) (map unplaced (others_own.first ∷ others_own.more)))
            (subst (λ s. Values limit others s ((others ++ unplaced e ∷ []) ++ map unplaced (others_own.first ∷ others_own.more))) (back (tokens-append (pieces e) (behind_commas (map pieces (others_own.first ∷ others_own.more))))) all_of);
      }

  all_values : (values : List Raw) → ValuesAgain [] values → Values limit [] (tokens_of (separated_pieces (map pieces values))) (map unplaced values)
  all_values values a = subst (λ vs. Values limit [] (tokens_of (separated_pieces (map pieces vs))) (map unplaced vs)) (back a.is) (a.reads [])

  -- the printed tokens of an action that is spelled spell it, without its places
  pub action_spelled : (s : List Item) (a : RawAction) → SpellsAction limit s a → AllProper s → SpellsAction limit (action_tokens a) (unplaced_action a)
  action_spelled s (Assign refs values) (assigns ts vs e) all =
      let names = targets_again ts all in
      let own = values_again vs names.proper.1 in
      subst (λ u. SpellsAction limit u (Assign (map unplaced_ref refs) (map unplaced values))) (back (tokens-append (targets refs) (Blank ∷ becomes ∷ Blank ∷ separated_pieces (map pieces values))))
      (assigns (all_targets refs _ names sym.Becomes (bytes "≔") (tokens_of (separated_pieces (map pieces values)))) (all_values values own) (length-map refs unplaced_ref ∙ e ∙ back (length-map values unplaced)))
  action_spelled s (Apply f a e) (applies {g = g} {n = n} {o = o} is r fit spelled) all =
      let inside = reads_again limit r all.1.1 in
      let argument : Again limit (is_predicate g) a = inside.0 in
      let value : Spells limit hole.Expression (raw_tokens e) (unplaced e) = spelled_again limit hole.Expression _ e refl spelled inside.1.1.1 in
      let behind_it : List Item = item (sym.Close bracket.Round) 0 (bytes ")") ∷ (item sym.Becomes 0 (bytes "≔") ∷ raw_tokens e) in
      let read : Reads limit argument.bare_grade (tokens_of (pieces a) ++ behind_it) (unplaced a) behind_it = subst (λ u. Reads limit argument.bare_grade (tokens_of (pieces a) ++ behind_it) u behind_it) (back argument.is) (argument.bare behind_it (closing refl)) in
      let text = tokens-append (word_piece n ∷ in_round (pieces a)) (Blank ∷ becomes ∷ Blank ∷ pieces e) ∙ ap (λ u. item sym.Word 0 n ∷ (item (sym.Open bracket.Round) 0 (bytes "(") ∷ u)) (behind (pieces a) (close_round_piece ∷ []) (item sym.Becomes 0 (bytes "≔") ∷ raw_tokens e)) in
      subst (λ u. SpellsAction limit u (Apply (ref n 0) (unplaced a) (unplaced e))) (back text) (applies is read (fits_expression argument.bare_grade (argument.sort ∙ place_sort hole.Expression g refl fit)) value)
  action_spelled s (ChooseIn x e) (chooses_in {n = n} is spelled) all = chooses_in is (spelled_again limit hole.Expression _ e refl spelled all.1.1)
  action_spelled s (ChooseSuch refs t) (chooses_such ts spelled) all =
      let names = targets_again ts all in
      subst (λ u. SpellsAction limit u (ChooseSuch (map unplaced_ref refs) (unplaced t))) (back (tokens-append (targets refs) (Blank ∷ becomes_such ∷ Blank ∷ pieces t)))
      (chooses_such (all_targets refs _ names sym.BecomesSuch (bytes ":∣") (raw_tokens t)) (spelled_again limit hole.Predicate _ t refl spelled names.proper.1))
