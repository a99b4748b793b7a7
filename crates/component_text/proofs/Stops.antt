-- A part that is read, or stops, within a larger one.
use Rattle.std.proofs.Common.{◌≡◌, ◌∙◌, ap, ◌<◌, List, [], ◌∷◌, ◌++◌, Bool, true, false, Some, Ok, Err, length, refl, sym, subst, append_assoc, append-nil}
use Rattle.std.specs.Prelude.{Option, Result}
use Rattle.component_text.specs.declared.stop.Stop.{Stop}
use Rattle.component_text.specs.declared.stop.Stop.TheVariants as stop
use Rattle.component_text.specs.Marks.{Mark, is_at}
use Rattle.component_text.specs.Forms.{Bounds, limits, none, One, Nothing, Then, Choice, taken, other, Many, no_more, one_more, Of}
use Rattle.component_text.specs.PrivateReading.{end_mark, Begins, NoneHas, RefusesAt, Passes, ReadsOrStops, Takes, Lacks, NoFormula, no_formula}
use Rattle.component_text.proofs.Parts.{Good}
use Rattle.component_text.proofs.Placed.{Leaves, none_free}
use Rattle.component_text.proofs.Refusing.{CanSkip, one_refused, one_then_refused, one_then_passes, first_refused, first_passes, second_refused, second_passes, of_refused, of_passes, taken_refused, taken_passes, other_refused, other_passes, many_here, many_here_passes}

module _ {X Y : Type 0} (P : Bounds → List Mark → X → List Mark → Type 0) (Q : Bounds → List Mark → Y → List Mark → Type 0) where
  pub then_first : CanSkip Q → (s rest : List Mark) (e : Stop) → ReadsOrStops P s (Err e) rest → ReadsOrStops (Then P Q) s (Err e) rest
  then_first skip s rest stop.Unexpected h = first_refused P Q s rest h skip
  then_first skip s rest stop.TooLarge h = first_passes P Q s rest h skip
  then_first skip s rest stop.OutOfMemory h = tt

  pub then_later : Good P → Leaves P → CanSkip Q → (s m rest : List Mark) (x : X) (e : Stop) → P limits s x m → ReadsOrStops Q m (Err e) rest → ReadsOrStops (Then P Q) s (Err e) rest
  then_later good leaves skip s m rest x stop.Unexpected h k = second_refused P Q good leaves s m rest x h k skip
  then_later good leaves skip s m rest x stop.TooLarge h k = second_passes P Q good leaves s m rest x h k skip
  then_later good leaves skip s m rest x stop.OutOfMemory h k = tt

pub of_stops : {X Y : Type 0} (f : X → Y) (P : Bounds → List Mark → X → List Mark → Type 0) (s rest : List Mark) (e : Stop) → ReadsOrStops P s (Err e) rest → ReadsOrStops (Of f P) s (Err e) rest
of_stops f P s rest stop.Unexpected h = of_refused f P s rest h
of_stops f P s rest stop.TooLarge h = of_passes f P s rest h
of_stops f P s rest stop.OutOfMemory h = tt

-- one token
module _ {X : Type 0} (value : Mark → Option X) where
  one_wrong : (b : Bounds) (s : List Mark) (x : X) (m : List Mark) → Lacks value s → One value b s x m → ⊥
  one_wrong b [] x m isnt h = let e = h.there in cc
  one_wrong b (y ∷ rest) x m isnt h = let is : y ≡ h.mark = (let e = h.there in cc) in let v : value y ≡ Some x = ap value is ∙ h.is in cc

  one_nowhere : (s : List Mark) → Lacks value s → NoneHas (One value) [] s
  one_nowhere [] isnt = λ x r h. one_wrong none [] x r isnt h
  one_nowhere (y ∷ rest) isnt = λ more x r h. one_wrong none (y ∷ more) x r isnt h

  -- it isn't there
  pub one_missing : (s m : List Mark) (y : Mark) (x : X) → (m ≡ s) × Lacks value s → value y ≡ Some x → RefusesAt (One value) s m
  one_missing s m y x h is = subst (λ t. RefusesAt (One value) s t) (sym h.0) (record {
    before = [];
    is = refl;
    begins = record { more = y ∷ []; value = x; goes_on = λ tail. record { mark = y; there = refl; is = is } };
    nowhere = one_nowhere s h.1;
    placed = no_formula none_free;
    short = tt;
    wrong = λ z r k. one_wrong limits s z r h.1 k;
  })

  -- what follows it stops
  pub one_stops : {Y : Type 0} (Q : Bounds → List Mark → Y → List Mark → Type 0) → ((y : Mark) (x : X) → value y ≡ Some x → NoFormula (y ∷ [])) →
      (s m rest : List Mark) (x : X) (e : Stop) → One value limits s x m → ReadsOrStops Q m (Err e) rest → ReadsOrStops (Then (One value) Q) s (Err e) rest
  one_stops Q alone s m rest x stop.Unexpected h k =
      one_then_refused value Q s m rest x h k (alone h.mark x h.is)
  one_stops Q alone s m rest x stop.TooLarge h k = one_then_passes value Q s m rest x h k (alone h.mark x h.is)
  one_stops Q alone s m rest x stop.OutOfMemory h k = tt

  pub one_missing_first : {Y : Type 0} (Q : Bounds → List Mark → Y → List Mark → Type 0) (s m : List Mark) (y : Mark) (x : X) → (m ≡ s) × Lacks value s → value y ≡ Some x → Begins Q [] → RefusesAt (Then (One value) Q) s m
  one_missing_first Q s m y x h is q = subst (λ t. RefusesAt (Then (One value) Q) s t) (sym h.0) (one_refused value Q s y x h.1 is q)

-- a choice
module _ {X : Type 0} (test : Mark → Bool) (P Q : Bounds → List Mark → X → List Mark → Type 0) where
  pub taken_reads : ((y : Mark) → test y ≡ true → NoFormula (y ∷ [])) → (s m rest : List Mark) (r : Result X Stop) → Takes test s true m → ReadsOrStops P m r rest → ReadsOrStops (Choice test P Q) s r rest
  taken_reads words s m rest (Ok x) k h = taken k.0 m k.1 k.2 h
  taken_reads words s m rest (Err stop.Unexpected) k h = taken_refused test P Q words s m rest k.0 k.1 k.2 h
  taken_reads words s m rest (Err stop.TooLarge) k h = taken_passes test P Q words s m rest k.0 k.1 k.2 h
  taken_reads words s m rest (Err stop.OutOfMemory) k h = tt

  pub other_reads : Begins (Choice test P Q) [] → (s m rest : List Mark) (r : Result X Stop) → Takes test s false m → ReadsOrStops Q m r rest → ReadsOrStops (Choice test P Q) s r rest
  other_reads start s m rest (Ok x) k h = other k.1 (subst (λ t. Q limits t x rest) k.0 h)
  other_reads start s m rest (Err stop.Unexpected) k h = other_refused test P Q s rest k.1 start (subst (λ t. RefusesAt Q t rest) k.0 h)
  other_reads start s m rest (Err stop.TooLarge) k h = other_passes test P Q s rest k.1 start (subst (λ t. Passes Q t rest) k.0 h)
  other_reads start s m rest (Err stop.OutOfMemory) k h = tt

pub absent_read : {X : Type 0} (test : Mark → Bool) (P : Bounds → List Mark → X → List Mark → Type 0) (absent : X) (s m : List Mark) → Takes test s false m → Choice test P (Nothing absent) limits s absent m
absent_read test P absent s m k = other k.1 (record { is = refl; behind = k.0 })

-- any number of parts
module _ {X : Type 0} (test : Mark → Bool) (P : Bounds → List Mark → X → List Mark → Type 0) (p : Good P) (not_end : test end_mark ≡ false)
    (takes : (b : Bounds) (s : List Mark) (x : X) (m : List Mark) → P b s x m → length m < length s) where
  pub many_more : (old : List X) (whole s m : List Mark) (x : X) → is_at test s ≡ true → P limits s x m →
      ((xs : List X) (rest : List Mark) → Many test P limits s xs rest → Many test P limits whole (old ++ xs) rest) →
      (xs : List X) (rest : List Mark) → Many test P limits m xs rest → Many test P limits whole ((old ++ x ∷ []) ++ xs) rest
  many_more old whole s m x does h so_far xs rest k =
      subst (λ ys. Many test P limits whole ys rest) (sym (append_assoc old (x ∷ []) xs)) (so_far (x ∷ xs) rest (one_more does h k))

  pub many_done : (old : List X) (whole s : List Mark) → is_at test s ≡ false →
      ((xs : List X) (rest : List Mark) → Many test P limits s xs rest → Many test P limits whole (old ++ xs) rest) → Many test P limits whole old s
  many_done old whole s isnt so_far = subst (λ ys. Many test P limits whole ys s) (append-nil old) (so_far [] s (no_more isnt refl))

  pub many_stop : (whole s rest : List Mark) (e : Stop) → is_at test s ≡ true → ReadsOrStops P s (Err e) rest →
      ((r : List Mark) → RefusesAt (Many test P) s r → RefusesAt (Many test P) whole r) → ((r : List Mark) → Passes (Many test P) s r → Passes (Many test P) whole r) → ReadsOrStops (Many test P) whole (Err e) rest
  many_stop whole s rest stop.Unexpected does h refused passed = refused rest (many_here test P p not_end takes s rest does h)
  many_stop whole s rest stop.TooLarge does h refused passed = passed rest (many_here_passes test P p not_end takes s rest does h)
  many_stop whole s rest stop.OutOfMemory does h refused passed = tt
