-- The parts that items have together.
use Rattle.std.proofs.Common.{◌≡◌, ℕ, ◌+◌, zero, suc, ◌<◌, List, [], ◌∷◌, ◌++◌, length, take, get_or, Bool, true, false, not, refl, sym, ap, ◌∙◌, subst, arith}
use Rattle.std.specs.Prelude.{MatchBool, MatchOption, Option, Some, None}
use Rattle.std.specs.List.{AllZip, flat_map}
use Rattle.std.proofs.lemmas.List.{take_more, append-nil}
use Rattle.std.proofs.lemmas.Grind.{flat_map-append}
use Rattle.formula_core.specs.declared.raw.Raw.{Raw}
use Rattle.math_grammar.specs.declared.holes.Hole.{Hole}
use Rattle.math_grammar.specs.declared.holes.Hole.TheVariants as hole
use Rattle.step_items.specs.Terms.{IsTermText}
use Rattle.sequent_core.specs.declared.hint.Hint.{Hint}
use Rattle.step_items.specs.declared.item.Item.{Item}
use Rattle.step_items.specs.declared.item.Item.TheVariants as item
use Rattle.step_items.specs.declared.hints.Parts.{Parts}
use Rattle.step_items.specs.Hints.{hyps_of, multipliers_of, names_in_item, terms_in_item, laws_of, IsHint}
use Rattle.step_items.specs.Private.{AreTermTexts, AddsItem, IsUnreadable, AreParts}

-- what the items give, with one item more
one_more : {B : Type 0} (f : Item → List B) (front : List Item) (one : Item) (old new : List B) →
    new ≡ old ++ f one → old ≡ flat_map f front → new ≡ flat_map f (front ++ one ∷ [])
one_more f front one old new is so_far =
    is ∙ ap (λ l. l ++ f one) so_far ∙ ap (λ l. flat_map f front ++ l) (sym (append-nil (f one))) ∙ sym (flat_map-append f front (one ∷ []))

joined : (ws vs : List (Hole × List ℕ)) (ts us : List Raw) → AreTermTexts ws ts → AreTermTexts vs us → AreTermTexts (ws ++ vs) (ts ++ us)
joined [] vs [] us a b = b
joined [] vs (t ∷ ts) us a b = absurd a
joined (w ∷ ws) vs [] us a b = absurd a
joined (w ∷ ws) vs (t ∷ ts) us a b = (a.0, joined ws vs ts us a.1 b)

added : (front : List Item) (one : Item) (old new : Parts) → AreParts front old → AddsItem one old new → AreParts (front ++ one ∷ []) new
added front one old new so_far adds = record {
  hyps = one_more hyps_of front one old.hyps.items new.hyps.items adds.hyps so_far.hyps;
  multipliers = one_more multipliers_of front one old.multipliers.items new.multipliers.items adds.multipliers so_far.multipliers;
  names = one_more names_in_item front one old.names.items new.names.items adds.names so_far.names;
  laws = one_more laws_of front one old.laws.items new.laws.items adds.laws so_far.laws;
  terms =
      let all = joined (flat_map terms_in_item front) (terms_in_item one) old.terms.items adds.read so_far.terms adds.spelled in
      let e : flat_map terms_in_item front ++ terms_in_item one ≡ flat_map terms_in_item (front ++ one ∷ []) =
      one_more terms_in_item front one (flat_map terms_in_item front) (flat_map terms_in_item front ++ terms_in_item one) refl refl in
      subst (λ ts. AreTermTexts (flat_map terms_in_item (front ++ one ∷ [])) ts) (sym adds.terms)
      (subst (λ ws. AreTermTexts ws (old.terms.items ++ adds.read)) e all);
}

-- one item more
pub gathered : (items : List Item) (i : ℕ) (one : Item) (old new : Parts) → i < length items → one ≡ get_or items i one → AreParts (take i items) old → AddsItem one old new →
    AreParts (take (i + 1) items) new
gathered items i one old new less is so_far adds =
    subst (λ l. AreParts l new) (ap (λ x. take i items ++ x ∷ []) is ∙ sym (take_more items i one less)) (added (take i items) one old new so_far adds)

front_of : (ws vs : List (Hole × List ℕ)) (ts : List Raw) → AreTermTexts (ws ++ vs) ts → (us : List Raw) × AreTermTexts ws us
front_of [] vs ts all = ([], tt)
front_of (w ∷ ws) vs [] all = absurd all
front_of (w ∷ ws) vs (t ∷ ts) all = let rest = front_of ws vs ts all.1 in (t ∷ rest.0, (all.0, rest.1))

behind_of : (ws vs : List (Hole × List ℕ)) (ts : List Raw) → AreTermTexts (ws ++ vs) ts → (us : List Raw) × AreTermTexts vs us
behind_of [] vs ts all = (ts, all)
behind_of (w ∷ ws) vs [] all = absurd all
behind_of (w ∷ ws) vs (t ∷ ts) all = behind_of ws vs ts all.1

terms_at : (items : List Item) (i : ℕ) (d : Item) (ts : List Raw) → i < length items → AreTermTexts (flat_map terms_in_item items) ts → (us : List Raw) × AreTermTexts (terms_in_item (get_or items i d)) us
terms_at [] i d ts less all = absurd (omega (arith, less))
terms_at (one ∷ items) zero d ts less all = front_of (terms_in_item one) (flat_map terms_in_item items) ts all
terms_at (one ∷ items) (suc i) d ts less all =
    let rest = behind_of (terms_in_item one) (flat_map terms_in_item items) ts all in
    terms_at items i d rest.0 (omega (arith, less)) rest.1

never : (one : Item) → IsUnreadable one → (us : List Raw) → AreTermTexts (terms_in_item one) us → ⊥
never (item.Expression bytes) unread [] all = all
never (item.Expression bytes) unread (t ∷ us) all = unread t all.0
never (item.Predicate bytes) unread [] all = all
never (item.Predicate bytes) unread (t ∷ us) all = unread t all.0
never (item.Hyp number) unread us all = unread
never (item.Multiplied number multiplier) unread us all = unread
never (item.Fresh name) unread us all = unread
never (item.Law law place) unread us all = unread

-- with an item that isn't read there is no hint
pub no_hint : (items : List Item) (i : ℕ) (one : Item) → i < length items → one ≡ get_or items i one → IsUnreadable one → (hint : Hint) → IsHint items hint → ⊥
no_hint items i one less is unread hint given =
    let there = terms_at items i one hint.terms less given.terms in
    never one unread there.0 (subst (λ x. AreTermTexts (terms_in_item x) there.0) (sym is) there.1)

pub where_read : (P Q : Type 0) (b : Bool) → b ≡ true → MatchBool b P Q → P
where_read P Q true h m = m
where_read P Q false h m = cc

pub where_not_read : (P Q : Type 0) (b : Bool) → b ≡ false → MatchBool b P Q → Q
where_not_read P Q true h m = cc
where_not_read P Q false h m = m

-- a formula that isn't read
pub unread_expression : (it : Item) (bytes seen : List ℕ) (read : Option Raw) → it ≡ item.Expression bytes → seen ≡ bytes → read ≡ None →
    MatchOption read ((t : Raw) → IsTermText hole.Expression seen t → ⊥) (IsTermText hole.Expression seen) → IsUnreadable it
unread_expression it bytes seen read is same none m =
    subst IsUnreadable (sym is) (subst (λ b. (t : Raw) → IsTermText hole.Expression b t → ⊥) same
    (subst (λ o. MatchOption o ((t : Raw) → IsTermText hole.Expression seen t → ⊥) (IsTermText hole.Expression seen)) none m))

pub unread_predicate : (it : Item) (bytes seen : List ℕ) (read : Option Raw) → it ≡ item.Predicate bytes → seen ≡ bytes → read ≡ None →
    MatchOption read ((t : Raw) → IsTermText hole.Predicate seen t → ⊥) (IsTermText hole.Predicate seen) → IsUnreadable it
unread_predicate it bytes seen read is same none m =
    subst IsUnreadable (sym is) (subst (λ b. (t : Raw) → IsTermText hole.Predicate b t → ⊥) same
    (subst (λ o. MatchOption o ((t : Raw) → IsTermText hole.Predicate seen t → ⊥) (IsTermText hole.Predicate seen)) none m))
