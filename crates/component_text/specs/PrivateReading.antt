-- What the calls that read parts leave. Private contracts alone cite this.
use Rattle.std.specs.Prelude.{◌≡◌, ℕ, Bool, true, false, List, [], ◌∷◌, ◌++◌, drop, map, Option, Some, None, Result, Ok, Err, codes, ◌⊎◌}
use Rattle.formula_core.specs.declared.raw.Ref.{Ref}
use Rattle.math_grammar.specs.Tokens.{Item}
use Rattle.formula_parse.specs.Limits.{first_large, IsFaultOf}
use Rattle.formula_parse.specs.declared.fault.ParseFault.{ParseFault}
use Rattle.formula_parse.specs.declared.fault.ParseFault.TheVariants as fault
use Rattle.component_text.specs.declared.stop.Stop.{Stop}
use Rattle.component_text.specs.declared.stop.Stop.TheVariants as stop
use Rattle.component_text.specs.Marks.{Mark, word, label, plain, token_run, behind_run, is_word_mark, is_at}
use Rattle.component_text.specs.Forms.{Bounds, limits, parts, none, One, FormulaRun}
use Rattle.component_text.specs.Grammar.{Names}
use Rattle.component_text.specs.Faults.{opens_formula, IsLong, IsUnexpectedAt, IsTooLargeAt}

abbrev pub end_mark : Mark
end_mark = word (codes "end") 0

-- some sentence of the part begins so, with formulas within the bounds, and `end` stands behind it
pub record BeginsIn {X : Type 0} (b : Bounds) (P : Bounds → List Mark → X → List Mark → Type 0) (before : List Mark) : Type 0 where
  pub more : List Mark
  pub value : X
  pub goes_on : (tail : List Mark) → P b (before ++ (more ++ end_mark ∷ tail)) value (end_mark ∷ tail)

abbrev pub Begins : {X : Type 0} → (Bounds → List Mark → X → List Mark → Type 0) → List Mark → Type 0
Begins P before = BeginsIn parts P before

-- no text of the part within the bounds goes on with the first of these, or ends there where there is none
abbrev pub NoneHasIn : {X : Type 0} → Bounds → (Bounds → List Mark → X → List Mark → Type 0) → List Mark → List Mark → Type 0
NoneHasIn {X} b P before [] = (x : X) (r : List Mark) → P b before x r → ⊥
NoneHasIn {X} b P before (y ∷ rest) = (more : List Mark) (x : X) (r : List Mark) → P b (before ++ y ∷ more) x r → ⊥

abbrev pub NoneHas : {X : Type 0} → (Bounds → List Mark → X → List Mark → Type 0) → List Mark → List Mark → Type 0
NoneHas P before rest = NoneHasIn none P before rest

abbrev pub is_plain : Mark → Bool
is_plain (plain x) = true
is_plain (word w p) = false
is_plain (label l p) = false

-- no formula stands behind the last structural word or label
pub data NoFormula (s : List Mark) : Type 0 where
  behind_word : (lead : List Mark) (w : List ℕ) (p : ℕ) (names : List Item) → s ≡ lead ++ (word w p ∷ map plain names) → opens_formula (word w p) ≡ false → NoFormula s
  all_plain : (names : List Item) → s ≡ map plain names → NoFormula s

-- why the first of `rest` passes no limit of tokens or open brackets: it is no token of a formula, stands in no formula, or in one within its limits
pub data Placed (before rest : List Mark) : Type 0 where
  not_plain : is_at is_plain rest ≡ false → Placed before rest
  no_formula : NoFormula before → Placed before rest
  in_formula : (lead : List Mark) (y : Mark) (formula : List Item) (x : Item) (later : List Mark) →
      before ≡ lead ++ (y ∷ map plain formula) → opens_formula y ≡ true → rest ≡ plain x ∷ later → first_large (formula ++ x ∷ []) ≡ None → Placed before rest

-- behind each of these that opens a formula its tokens, on into m, are within their limits
abbrev pub AreShort : List Mark → List Mark → Type 0
AreShort [] m = Unit {0}
AreShort (x ∷ s) m = (opens_formula x ≡ true → first_large (token_run (s ++ m)) ≡ None) × AreShort s m

pub record RefusesAt {X : Type 0} (P : Bounds → List Mark → X → List Mark → Type 0) (old rest : List Mark) : Type 0 where
  pub before : List Mark
  pub is : old ≡ before ++ rest
  pub begins : Begins P before
  pub nowhere : NoneHas P before rest
  pub placed : Placed before rest
  pub short : AreShort before []
  pub wrong : (x : X) (r : List Mark) → P limits old x r → ⊥

-- the first of `rest` passes a limit: of tokens or open brackets, or only larger partitions go on with it
pub data IsLargeIn {X : Type 0} (P : Bounds → List Mark → X → List Mark → Type 0) (before : List Mark) (token : Mark) (later : List Mark) : Type 0 where
  is_long : IsLong before token → IsLargeIn P before token later
  is_wide : BeginsIn none P (before ++ token ∷ []) → NoneHasIn parts P before (token ∷ later) → IsLargeIn P before token later

pub record Passes {X : Type 0} (P : Bounds → List Mark → X → List Mark → Type 0) (old rest : List Mark) : Type 0 where
  pub before : List Mark
  pub token : Mark
  pub later : List Mark
  pub is : old ≡ before ++ rest
  pub next : rest ≡ token ∷ later
  pub begins : Begins P before
  pub short : AreShort before []
  pub large : IsLargeIn P before token later
  pub wrong : (x : X) (r : List Mark) → P limits old x r → ⊥

-- the part was read, or what stands next is refused or passes a limit, or memory ran out
abbrev pub ReadsOrStops : {X : Type 0} → (Bounds → List Mark → X → List Mark → Type 0) → List Mark → Result X Stop → List Mark → Type 0
ReadsOrStops P old (Ok x) new = P limits old x new
ReadsOrStops P old (Err stop.Unexpected) new = RefusesAt P old new
ReadsOrStops P old (Err stop.TooLarge) new = Passes P old new
ReadsOrStops P old (Err stop.OutOfMemory) new = Unit {0}

-- a token that passes the test was passed, or none stands there
abbrev pub Takes : (Mark → Bool) → List Mark → Bool → List Mark → Type 0
Takes test old true new = (x : Mark) × (old ≡ x ∷ new) × (test x ≡ true)
Takes test old false new = (new ≡ old) × (is_at test old ≡ false)

abbrev pub Lacks : {X : Type 0} → (Mark → Option X) → List Mark → Type 0
Lacks value [] = Unit {0}
Lacks value (x ∷ rest) = value x ≡ None

-- one token was read, or another one stands there
abbrev pub ReadsOne : {X : Type 0} → (Mark → Option X) → List Mark → Option X → List Mark → Type 0
ReadsOne value old (Some x) new = One value limits old x new
ReadsOne value old None new = (new ≡ old) × Lacks value old

-- what stands from the token at i of the formula on
abbrev pub from_token : ℕ → List Mark → List Mark
from_token i s = map plain (drop i (token_run s)) ++ behind_run s

-- a formula with at most so many parts of a partition as the limit says, if there is one
abbrev pub within_bound : {X : Type 0} → (Bounds → List Item → X → Type 0) → Option ℕ → List Item → X → Type 0
within_bound F None = F none
within_bound F (Some n) = F parts

-- the first fault of tokens that are no formula within the limits
pub record FailsBy {X : Type 0} (F : Bounds → List Item → X → Type 0) (s : List Item) (f : ParseFault) : Type 0 where
  pub first : IsFaultOf (within_bound F) s f
  pub wrong : (x : X) → F limits s x → ⊥

-- a formula was read, or it is refused at a token
abbrev pub ReadsFormula : {X : Type 0} → (Bounds → List Item → X → Type 0) → List Mark → Result X Stop → List Mark → Type 0
ReadsFormula F old (Ok t) new = FormulaRun F limits old t new
ReadsFormula F old (Err stop.Unexpected) new = (i : ℕ) × (new ≡ from_token i old) × FailsBy F (token_run old) (fault.Unexpected i)
ReadsFormula F old (Err stop.TooLarge) new =
    (i : ℕ) × (new ≡ from_token i old) × FailsBy F (token_run old) (fault.TooLarge i)
ReadsFormula F old (Err stop.OutOfMemory) new = Unit {0}

-- all names that stand next were added
abbrev pub AddsNames : List Ref → List Ref → List Mark → List Mark → Type 0
AddsNames old new s rest = (added : List Ref) × (new ≡ old ++ added) × Names limits s added rest

-- `end` stood last, or what stands next is another token, or one more behind `end`
abbrev pub TakesEnd : List Mark → Bool → List Mark → Type 0
TakesEnd old true new = (p : ℕ) × (old ≡ word (codes "end") p ∷ [])
TakesEnd old false new =
    ((new ≡ old) × (is_at (is_word_mark (codes "end")) old ≡ false))
    ⊎ ((p : ℕ) × (x : Mark) × (later : List Mark) × (old ≡ word (codes "end") p ∷ new) × (new ≡ x ∷ later))

-- a component was read, or it stops before what stands next
abbrev pub ReadsWhole : {C : Type 0} → (Bounds → List Mark → C → Type 0) → List Mark → Result C Stop → List Mark → Type 0
ReadsWhole Whole old (Ok c) new = Whole limits old c
ReadsWhole {C} Whole old (Err stop.Unexpected) new = IsUnexpectedAt Whole old new × ((c : C) → Whole limits old c → ⊥)
ReadsWhole {C} Whole old (Err stop.TooLarge) new = IsTooLargeAt Whole old new × ((c : C) → Whole limits old c → ⊥)
ReadsWhole Whole old (Err stop.OutOfMemory) new = Unit {0}
