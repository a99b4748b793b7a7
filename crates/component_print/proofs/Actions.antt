-- The printed pieces of an action are read as they are printed.
use Rattle.std.proofs.Common.{◌≡◌, ◌∙◌, sym as back, subst, refl, ℕ, true, List, [], ◌∷◌, ◌++◌, map, append_assoc}
use Rattle.std.specs.Prelude.{Option}
use Rattle.std.specs.List.{AllByRecursion}
use Rattle.formula_core.specs.Names.{is_name}
use Rattle.formula_core.specs.declared.raw.Raw.{Raw}
use Rattle.formula_core.specs.declared.raw.Ref.{Ref}
use Rattle.formula_core.specs.declared.raw.RawAction.{RawAction}
use Rattle.math_grammar.specs.declared.symbols.Symbol.TheVariants as sym
use Rattle.math_grammar.specs.Tokens.{Item}
use Rattle.math_grammar.specs.Actions.{Targets, last_target, next_target, Values, last_value, next_value, SpellsAction, assigns, applies, chooses_in, chooses_such}
use Rattle.math_grammar.specs.Characters.{bytes}
use Rattle.token_text.specs.Pieces.{word_piece, in_round, separated_pieces}
use Rattle.raw_print.specs.Printing.{pieces, target, targets, action_pieces}
use Rattle.component_print.proofs.Signs.{ready-becomes, ready-becomes_in, ready-becomes_such}
use Rattle.component_print.proofs.Chains.{Printed, with_sign, AllPrinted, all_separated, printed_name}
use Rattle.raw_print.specs.Back.{AllProper}
use Rattle.component_print.proofs.Derived.{reads, in_brackets, argument, ready_spaced}

-- names between commas, and what stands behind them
record TargetsPrinted (before refs : List Ref) (rest : List Item) : Type 0 where
  first : Ref
  more : List Ref
  is : refs ≡ before ++ first ∷ more
  names : AllByRecursion (λ (r : Ref). is_name r.name ≡ true) (first ∷ more)
  proper : AllProper rest

targets_printed : {before refs : List Ref} {s rest : List Item} → Targets before s refs rest → AllProper s → TargetsPrinted before refs rest
targets_printed (last_target {n = n} {p = p} is) all = record { first = record { name = n; place = p }; more = []; is = refl; names = (is, tt); proper = all.1 }
targets_printed (next_target {before = before} {n = n} {p = p} is later) all =
    let own = targets_printed later all.1.1 in
    record { first = record { name = n; place = p }; more = own.first ∷ own.more; is = own.is ∙ append_assoc before (record { name = n; place = p } ∷ []) (own.first ∷ own.more); names = (is, own.names); proper = own.proper }

all_names : (rs : List Ref) → AllByRecursion (λ (r : Ref). is_name r.name ≡ true) rs → AllPrinted (map target rs)
all_names [] h = tt
all_names (r ∷ rs) h = (printed_name r.name h.0, all_names rs h.1)

named_targets : (refs : List Ref) (rest : List Item) → TargetsPrinted [] refs rest → Printed (targets refs)
named_targets refs rest h = subst (λ rs. Printed (targets rs)) (back h.is) (all_separated (word_piece h.first.name ∷ []) _ (printed_name h.first.name h.names.0) (all_names h.more h.names.1))

record ValuesPrinted (before values : List Raw) : Type 0 where
  first : Raw
  more : List Raw
  is : values ≡ before ++ first ∷ more
  printed : AllByRecursion (λ x. Printed (pieces x)) (first ∷ more)

all_values : (rs : List Raw) → AllByRecursion (λ x. Printed (pieces x)) rs → AllPrinted (map pieces rs)
all_values [] h = tt
all_values (r ∷ rs) h = (h.0, all_values rs h.1)

module _ (limit : Option ℕ) where
  values_printed : {before values : List Raw} {s : List Item} → Values limit before s values → AllProper s → ValuesPrinted before values
  values_printed (last_value {e = e} spelled) all = record { first = e; more = []; is = refl; printed = ((reads limit spelled.reads all).0, tt) }
  values_printed (next_value {before = before} {e = e} r f later) all =
      let own = reads limit r all in
      let others = values_printed later own.1.1 in
      record { first = e; more = others.first ∷ others.more; is = others.is ∙ append_assoc before (e ∷ []) (others.first ∷ others.more); printed = (own.0, others.printed) }

  pub action_printed : {s : List Item} {a : RawAction} → SpellsAction limit s a → AllProper s → Printed (action_pieces a)
  action_printed (assigns {targets = refs} {values = values} ts vs e) all =
      let names = targets_printed ts all in
      let own = values_printed vs names.proper.1 in
      let right : Printed (separated_pieces (map pieces values)) = subst (λ rs. Printed (separated_pieces (map pieces rs))) (back own.is) (all_separated (pieces own.first) _ own.printed.0 (all_values own.more own.printed.1)) in
      with_sign sym.Becomes (bytes "≔") (ready_spaced sym.Becomes (bytes "≔") ready-becomes) (targets refs) (separated_pieces (map pieces values)) (named_targets refs _ names) right
  action_printed (applies {n = n} {a = a} {e = e} is r f spelled) all =
      let inside = reads limit r all.1.1 in
      let value = reads limit spelled.reads inside.1.1.1 in
      with_sign sym.Becomes (bytes "≔") (ready_spaced sym.Becomes (bytes "≔") ready-becomes) (word_piece n ∷ in_round (pieces a)) (pieces e)
      (in_brackets (word_piece n ∷ []) (in_round (pieces a)) (printed_name n is) (argument (pieces a) inside.0)) value.0
  action_printed (chooses_in {n = n} {e = e} is spelled) all =
      with_sign sym.BecomesIn (bytes ":∈") ready-becomes_in (word_piece n ∷ []) (pieces e) (printed_name n is) (reads limit spelled.reads all.1.1).0
  action_printed (chooses_such {targets = refs} {t = t} ts spelled) all =
      let names = targets_printed ts all in
      with_sign sym.BecomesSuch (bytes ":∣") ready-becomes_such (targets refs) (pieces t) (named_targets refs _ names) (reads limit spelled.reads names.proper.1).0
