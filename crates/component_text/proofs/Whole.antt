-- Components: a word, a body, `end`, and nothing behind it.
use Rattle.std.proofs.Common.{◌≡◌, ◌∙◌, ap, ℕ, List, [], ◌∷◌, ◌++◌, true, false, refl, sym, subst, append_assoc, append-nil, bytes_eq}
use Rattle.std.specs.Prelude.{codes}
use Rattle.std.proofs.lemmas.Slice.Eq.{bytes_eq-Decides}
use Rattle.model_core.specs.declared.component.RawComponent.{RawComponent}
use Rattle.component_text.specs.Marks.{Mark, word, label, plain, is_word_mark, is_at}
use Rattle.component_text.specs.Forms.{Bounds, limits, parts, none}
use Rattle.component_text.specs.Grammar.{Headed}
use Rattle.component_text.specs.Faults.{NoneIsLong, Continues, BeginsWithin, NoneGoesOn, IsLargeAt, long, wide, IsUnexpectedAt, IsTooLargeAt}
use Rattle.component_text.specs.PrivateReading.{end_mark, BeginsIn, Begins, NoneHasIn, NoneHas, IsLargeIn, is_long, is_wide, AreShort, RefusesAt, Passes, behind_word, Placed, no_formula}
use Rattle.component_text.proofs.Placed.{placed_small, placed_behind, placed_after, word_free, none_free, both_free, Leaves}
use Rattle.component_text.proofs.Shorts.{short_less, short_append, word_short, short_within}
use Rattle.component_text.proofs.Parts.{both_end, same_first, same, closing, Good, same_start_self}
use Rattle.component_text.proofs.Refusing.{longer}

-- a mark that is the word
pub word_is : (w : List ℕ) (x : Mark) → is_word_mark w x ≡ true → (p : ℕ) × (x ≡ word w p)
word_is w (word v p) e = (p, ap (λ u. word u p) ((bytes_eq-Decides v w).0 e))
word_is w (label l p) e = cc
word_is w (plain x) e = cc

pub same_word : (w : List ℕ) → bytes_eq w w ≡ true
same_word w = (bytes_eq-Decides w w).1 refl

-- nothing goes on with it, so it passes no limit
pub not_large : {C : Type 0} (Whole : Bounds → List Mark → C → Type 0) (before rest : List Mark) → Placed before rest → NoneGoesOn Whole before rest →
    (x : Mark) (later : List Mark) → rest ≡ x ∷ later → IsLargeAt Whole before x → ⊥
not_large Whole before rest p n x later e (long h) = placed_small before rest p x later e h
not_large Whole before rest p n x later e (wide h k) =
    subst (NoneGoesOn Whole before) e n h.0 h.1 (subst (λ t. Whole none t h.1) (append_assoc before (x ∷ []) h.0) h.2)

module _ (w : List ℕ) (no_variant : bytes_eq w (codes "variant") ≡ false) (Body : Bounds → List Mark → RawComponent → List Mark → Type 0) where
  abbrev Whole : Bounds → List Mark → RawComponent → Type 0
  Whole = Headed w Body

  pub whole : (s m k : List Mark) (p q : ℕ) (c : RawComponent) → s ≡ word w p ∷ m → Body limits m c k → k ≡ word (codes "end") q ∷ [] → Whole limits s c
  whole s m k p q c e h f = record { place = p; behind = m; rest = k; head = e; body = h; end_place = q; end = f }

  begun : (b : Bounds) (p : ℕ) (before : List Mark) → BeginsIn b Body before → Continues Whole b (word w p ∷ before)
  begun b p before h =
      (h.more ++ end_mark ∷ [], h.value, record { place = p; behind = before ++ (h.more ++ end_mark ∷ []); rest = end_mark ∷ []; head = refl; body = h.goes_on []; end_place = 0; end = refl })

  in_body : (b : Bounds) (p : ℕ) (t : List Mark) (c : RawComponent) → ((r : List Mark) → Body b t c r → ⊥) → Whole b (word w p ∷ t) c → ⊥
  in_body b p t c h k = let tail : k.behind ≡ t = (let e = k.head in cc) in h k.rest (subst (λ u. Body b u c k.rest) tail k.body)

  nowhere_in_body : (p : ℕ) (before rest : List Mark) → NoneHas Body before rest → NoneGoesOn Whole (word w p ∷ before) rest
  nowhere_in_body p before [] h = λ c. in_body none p before c (h c)
  nowhere_in_body p before (y ∷ rest) h = λ more c. in_body none p (before ++ y ∷ more) c (h more c)

  only_wider : (p : ℕ) (before : List Mark) (x : Mark) (later : List Mark) → NoneHasIn parts Body before (x ∷ later) → Continues Whole parts ((word w p ∷ before) ++ x ∷ []) → ⊥
  only_wider p before x later h c = in_body parts p (before ++ x ∷ c.0) c.1 (h c.0 c.1) (subst (λ t. Whole parts t c.1) (append_assoc (word w p ∷ before) (x ∷ []) c.0) c.2)

  large_in_body : (p : ℕ) (before : List Mark) (x : Mark) (later : List Mark) → IsLargeIn Body before x later → IsLargeAt Whole (word w p ∷ before) x
  large_in_body p before x later (is_long h) = long (longer (word w p ∷ []) before x h)
  large_in_body p before x later (is_wide h k) = wide (begun none p (before ++ x ∷ []) h) (only_wider p before x later k)

  body_within : (p : ℕ) (before : List Mark) → Begins Body before → AreShort before [] → BeginsWithin Whole (word w p ∷ before)
  body_within p before h short = record { continues = begun parts p before h; short = short_within (word w p ∷ before) (word_short w p before [] no_variant short) }

  pub body_unexpected : (s m rest : List Mark) (p : ℕ) → s ≡ word w p ∷ m → RefusesAt Body m rest → IsUnexpectedAt Whole s rest
  body_unexpected s m rest p e h = record {
    before = word w p ∷ h.before;
    is = e ∙ ap (λ t. word w p ∷ t) h.is;
    begins = body_within p h.before h.begins h.short;
    nowhere = nowhere_in_body p h.before rest h.nowhere;
    small = not_large Whole (word w p ∷ h.before) rest (placed_behind (word w p ∷ []) h.before rest (λ _. word_free w p no_variant) h.placed) (nowhere_in_body p h.before rest h.nowhere);
  }

  pub body_too_large : (s m rest : List Mark) (p : ℕ) → s ≡ word w p ∷ m → Passes Body m rest → IsTooLargeAt Whole s rest
  body_too_large s m rest p e h = record {
    before = word w p ∷ h.before;
    token = h.token;
    later = h.later;
    is = e ∙ ap (λ t. word w p ∷ t) h.is;
    next = h.next;
    begins = body_within p h.before h.begins h.short;
    large = large_in_body p h.before h.token h.later h.large;
  }

  -- the word doesn't stand first
  no_head : (s : List Mark) → is_at (is_word_mark w) s ≡ false → NoneGoesOn Whole [] s
  no_head [] e = λ c h. let d = h.head in cc
  no_head (y ∷ rest) e = λ more c h.
      let is : y ≡ word w h.place = (let d = h.head in cc) in
      let does : is_word_mark w y ≡ true = ap (is_word_mark w) is ∙ same_word w in
      cc

  pub head_unexpected : (s : List Mark) → is_at (is_word_mark w) s ≡ false → Begins Body [] → IsUnexpectedAt Whole s s
  head_unexpected s e h = record {
    before = [];
    is = refl;
    begins = record {
      continues = (word w 0 ∷ (h.more ++ end_mark ∷ []), h.value, record { place = 0; behind = h.more ++ end_mark ∷ []; rest = end_mark ∷ []; head = refl; body = h.goes_on []; end_place = 0; end = refl });
      short = short_within [] tt;
    };
    nowhere = no_head s e;
    small = not_large Whole [] s (no_formula none_free) (no_head s e);
  }

  -- what is refused is no component
  pub head_wrong : (s : List Mark) → is_at (is_word_mark w) s ≡ false → (c : RawComponent) → Whole limits s c → ⊥
  head_wrong s e c h = let does : is_at (is_word_mark w) s ≡ true = ap (is_at (is_word_mark w)) h.head ∙ same_word w in cc

  pub body_wrong : (s m : List Mark) (p : ℕ) → s ≡ word w p ∷ m → ((c : RawComponent) (r : List Mark) → Body limits m c r → ⊥) → (c : RawComponent) → Whole limits s c → ⊥
  body_wrong s m p e h c k =
      let there : word w p ∷ m ≡ word w k.place ∷ k.behind = sym e ∙ k.head in
      let tail : k.behind ≡ m = cc in
      h c k.rest (subst (λ t. Body limits t c k.rest) tail k.body)

  module _ (good : Good Body) where
    pub end_wrong : (s m k : List Mark) (p : ℕ) (c : RawComponent) → s ≡ word w p ∷ m → Body limits m c k → ((q : ℕ) → k ≡ word (codes "end") q ∷ [] → ⊥) → (d : RawComponent) → Whole limits s d → ⊥
    end_wrong s m k p c e h isnt d g =
        let front = good.split limits m c k h in
        let there : word w p ∷ m ≡ word w g.place ∷ g.behind = sym e ∙ g.head in
        let tail : g.behind ≡ m = cc in
        let r_is : g.rest ≡ k =
        good.agrees limits limits front.0 k k c d g.rest (subst (λ t. Body limits t c k) front.1 h) (same_start_self k) (subst (λ t. Body limits t d g.rest) (tail ∙ front.1) g.body) in
        isnt g.end_place (sym r_is ∙ g.end)

    -- `end` doesn't stand behind the body
    no_end : (front k : List Mark) (p : ℕ) (c : RawComponent) → Body limits (front ++ k) c k → is_at (is_word_mark (codes "end")) k ≡ false → NoneGoesOn Whole (word w p ∷ front) k
    no_end front [] p c h e = λ d g. in_body_end front [] p d g (λ r b f.
        let r_is : r ≡ [] = good.agrees limits none front [] [] c d r h both_end (subst (λ t. Body none t d r) (sym (append-nil front)) b) in cc)
      where
        in_body_end : (front k : List Mark) (p : ℕ) (d : RawComponent) (g : Whole none (word w p ∷ front) d) → ((r : List Mark) → Body none front d r → r ≡ word (codes "end") g.end_place ∷ [] → ⊥) → ⊥
        in_body_end front k p d g h = let tail : g.behind ≡ front = (let e = g.head in cc) in h g.rest (subst (λ t. Body none t d g.rest) tail g.body) g.end
    no_end front (y ∷ k) p c h e = λ more d g.
        let n : List Mark = front ++ y ∷ more in
        let tail : g.behind ≡ n = (let e = g.head in cc) in
        let r_is : g.rest ≡ y ∷ more = good.agrees limits none front (y ∷ k) (y ∷ more) c d g.rest h same_first (subst (λ t. Body none t d g.rest) tail g.body) in
        let y_is : y ≡ word (codes "end") g.end_place = (let f = g.end in cc) in
        let does : is_word_mark (codes "end") y ≡ true = ap (is_word_mark (codes "end")) y_is in
        cc

    pub after_body : Leaves Body → (s m k : List Mark) (p : ℕ) (c : RawComponent) → s ≡ word w p ∷ m → Body limits m c k → is_at (is_word_mark (codes "end")) k ≡ false → IsUnexpectedAt Whole s k
    after_body leaves s m k p c e h isnt =
        let front = good.split limits m c k h in
        let there : Body limits (front.0 ++ k) c k = subst (λ t. Body limits t c k) front.1 h in
        record {
          before = word w p ∷ front.0;
          is = e ∙ ap (λ t. word w p ∷ t) front.1;
          begins = record {
            continues = (
              end_mark ∷ [],
              c,
              record {
                place = p;
                behind = front.0 ++ end_mark ∷ [];
                rest = end_mark ∷ [];
                head = refl;
                body = good.keeps parts front.0 k (end_mark ∷ []) c (good.loosens limits parts tt (front.0 ++ k) c k there) (closing [] refl);
                end_place = 0;
                end = refl;
              },
            );
            short = short_within (word w p ∷ front.0) (word_short w p front.0 [] no_variant (short_less front.0 [] k (leaves.short front.0 k c there)));
          };
          nowhere = no_end front.0 k p c there isnt;
          small = not_large Whole (word w p ∷ front.0) k
              (placed_after (word w p ∷ front.0) k (λ d. both_free (word w p ∷ []) front.0 (word_free w p no_variant) (leaves.free limits front.0 k c there d)))
              (no_end front.0 k p c there isnt);
        }

    -- nothing stands behind `end`
    none_behind : (front : List Mark) (p q : ℕ) (y : Mark) (t : List Mark) (c : RawComponent) → Body limits (front ++ word (codes "end") q ∷ (y ∷ t)) c (word (codes "end") q ∷ (y ∷ t)) →
        NoneGoesOn Whole (word w p ∷ (front ++ word (codes "end") q ∷ [])) (y ∷ t)
    none_behind front p q y t c there = λ more d g.
        let last : Mark = word (codes "end") q in
        let n : List Mark = (front ++ last ∷ []) ++ y ∷ more in
        let tail : g.behind ≡ n = (let f = g.head in cc) in
        let body : Body none (front ++ (last ∷ (y ∷ more))) d g.rest = subst (λ u. Body none u d g.rest) (tail ∙ append_assoc front (last ∷ []) (y ∷ more)) g.body in
        let r_is : g.rest ≡ last ∷ (y ∷ more) = good.agrees limits none front (last ∷ (y ∷ t)) (last ∷ (y ∷ more)) c d g.rest there same_first body in
        let f = g.end in
        cc

    -- with `end` behind the body
    ended_short : (p q : ℕ) (front : List Mark) → AreShort front (word (codes "end") q ∷ []) → AreShort (word w p ∷ (front ++ word (codes "end") q ∷ [])) []
    ended_short p q front h =
        let last : Mark = word (codes "end") q in
        word_short w p (front ++ last ∷ []) [] no_variant (short_append front (last ∷ []) [] h (word_short (codes "end") q [] [] refl tt))

    -- no token of a component within the limits passes one
    pub headed_short : Leaves Body → (s : List Mark) (c : RawComponent) → Whole limits s c → NoneIsLong s
    headed_short leaves s c h =
        let front = good.split limits h.behind c h.rest h.body in
        let short : AreShort front.0 h.rest = leaves.short front.0 h.rest c (subst (λ t. Body limits t c h.rest) front.1 h.body) in
        let is : s ≡ word w h.place ∷ (front.0 ++ word (codes "end") h.end_place ∷ []) = h.head ∙ ap (λ t. word w h.place ∷ t) (front.1 ∙ ap (λ t. front.0 ++ t) h.end) in
        short_within s (subst (λ t. AreShort t []) (sym is) (ended_short h.place h.end_place front.0 (subst (AreShort front.0) h.end short)))

    -- something stands behind `end`
    pub after_end : Leaves Body → (s m k : List Mark) (p q : ℕ) (y : Mark) (t : List Mark) (c : RawComponent) → s ≡ word w p ∷ m → Body limits m c k → k ≡ word (codes "end") q ∷ (y ∷ t) → IsUnexpectedAt Whole s (y ∷ t)
    after_end leaves s m k p q y t c e h is =
        let front = good.split limits m c k h in
        let last : Mark = word (codes "end") q in
        let there : Body limits (front.0 ++ last ∷ (y ∷ t)) c (last ∷ (y ∷ t)) = subst (λ u. Body limits (front.0 ++ u) c u) is (subst (λ u. Body limits u c k) front.1 h) in
        record {
          before = word w p ∷ (front.0 ++ last ∷ []);
          is = e ∙ ap (λ u. word w p ∷ u) (front.1 ∙ ap (λ u. front.0 ++ u) is ∙ sym (append_assoc front.0 (last ∷ []) (y ∷ t)));
          begins = record {
            continues = (
              [],
              c,
              record {
                place = p;
                behind = (front.0 ++ last ∷ []) ++ [];
                rest = last ∷ [];
                head = refl;
                body = subst (λ u. Body parts u c (last ∷ [])) (sym (append-nil (front.0 ++ last ∷ [])))
                    (good.keeps parts front.0 (last ∷ (y ∷ t)) (last ∷ []) c (good.loosens limits parts tt (front.0 ++ last ∷ (y ∷ t)) c (last ∷ (y ∷ t)) there) (same same_first));
                end_place = q;
                end = refl;
              },
            );
            short = short_within (word w p ∷ (front.0 ++ last ∷ [])) (ended_short p q front.0 (short_less front.0 (last ∷ []) (y ∷ t) (leaves.short front.0 (last ∷ (y ∷ t)) c there)));
          };
          small = not_large Whole (word w p ∷ (front.0 ++ last ∷ [])) (y ∷ t) (no_formula (behind_word (word w p ∷ front.0) (codes "end") q [] refl refl)) (none_behind front.0 p q y t c there);
          nowhere = none_behind front.0 p q y t c there;
        }
