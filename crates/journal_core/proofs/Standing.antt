-- What the sides stand for while a record is added.
use Rattle.std.proofs.Common.{◌≡◌, ◌≢◌, ◌⊎◌, inl, inr, ℕ, suc, ◌+◌, ◌^◌, ◌<◌, ◌≤◌, List, [], ◌∷◌, ◌++◌, length, take, drop, get_or, refl, sym, ◌∙◌, ap, subst, arith, take-append-drop, length-append, append_assoc}
use Rattle.std.proofs.lemmas.List.{take_at, drop_at, append-nil, get_or-take}
use Rattle.std.proofs.lemmas.Bool.{cases_eq}
use Rattle.std.proofs.lemmas.Nat.{from_le_bytes-to_le_bytes_4, from_le_bytes-to_le_bytes_8}
use Rattle.std.specs.Prelude.{Bool, true, false}
use Rattle.std.specs.Int.{w32, w64, to_le_bytes, from_le_bytes}
use Rattle.outside.specs.Disk.{Sides, overwritten}
use Rattle.outside.specs.declared.side.Side.{Side}
use Rattle.outside.specs.declared.side.Side.TheVariants.{Left, Right}
use Rattle.journal_core.specs.Sides.{header, record_bytes, open_records, HasRecords, HoldsNone, IsOpenSide, IsOlder, Yields, other, IsBeforeOrAfterAppend, StandsAt}
use Rattle.journal_core.specs.Private.{HasFront, IsWritten, HasGate}
use Rattle.journal_core.specs.State.{Only, IsShut, IsAtRest}

-- The sides stand for these records: the empty project, or the records of the side that counts.
pub data Stands (sides : Sides) (bodies : List (List ℕ)) : Type 0 where
  empty : HoldsNone (sides Left) → HoldsNone (sides Right) → bodies ≡ [] → Stands sides bodies
  counting : (side : Side) (generation : ℕ) → bodies ≢ [] → HasRecords (sides side) generation bodies → Yields (sides (other side)) side generation → Stands sides bodies

-- two lists whose fronts have one length
pub same_parts : (a b x y : List ℕ) → length a ≡ length b → a ++ x ≡ b ++ y → (a ≡ b) × (x ≡ y)
same_parts a b x y long same = (
  sym (take_at a x (length a) refl) ∙ ap (λ (l : List ℕ). take (length a) l) same ∙ take_at b y (length a) (sym long),
  sym (drop_at a x (length a) refl) ∙ ap (λ (l : List ℕ). drop (length a) l) same ∙ drop_at b y (length a) (sym long),
)

pub open_more : (body : List ℕ) (bodies : List (List ℕ)) (tail : List ℕ) → open_records (body ∷ bodies) ++ tail ≡ 1 ∷ (to_le_bytes w32 (length body) ++ (body ++ (open_records bodies ++ tail)))
open_more body bodies tail = ap (λ (l : List ℕ). 1 ∷ l) (append_assoc (record_bytes body) (open_records bodies) tail ∙ append_assoc (to_le_bytes w32 (length body)) body (open_records bodies ++ tail))

pub open_last : (bodies : List (List ℕ)) (body tail : List ℕ) → open_records (bodies ++ body ∷ []) ++ tail ≡ open_records bodies ++ (1 ∷ (record_bytes body ++ tail))
open_last [] body tail = ap (λ (l : List ℕ). 1 ∷ (l ++ tail)) (append-nil (record_bytes body))
open_last (first ∷ bodies) body tail = ap (λ (l : List ℕ). 1 ∷ l)
    (append_assoc (record_bytes first) (open_records (bodies ++ body ∷ [])) tail
    ∙ ap (λ (l : List ℕ). record_bytes first ++ l) (open_last bodies body tail)
    ∙ sym (append_assoc (record_bytes first) (open_records bodies) (1 ∷ (record_bytes body ++ tail))))

pub length-record_bytes : (body : List ℕ) → length (record_bytes body) ≡ 4 + length body
length-record_bytes body = length-append (to_le_bytes w32 (length body)) body

pub length-open_last : (bodies : List (List ℕ)) (body : List ℕ) → length (open_records (bodies ++ body ∷ [])) ≡ length (open_records bodies) + 5 + length body
length-open_last [] body = omega (arith, length-append (record_bytes body) [], length-record_bytes body)
length-open_last (first ∷ bodies) body = omega (arith, length-append (record_bytes first) (open_records (bodies ++ body ∷ [])), length-append (record_bytes first) (open_records bodies), length-open_last bodies body)

pub length-open_first : (body : List ℕ) (bodies : List (List ℕ)) → length (open_records (body ∷ bodies)) ≡ 5 + length body + length (open_records bodies)
length-open_first body bodies = omega (arith, length-append (record_bytes body) (open_records bodies), length-record_bytes body)

-- one side has one list of records
pub same_records : (xs ys : List (List ℕ)) (g h : ℕ) (r s : List ℕ) → g ≢ 1 → h ≢ 1 → length (open_records xs) < 2 ^ 32 → length (open_records ys) < 2 ^ 32 → open_records xs ++ g ∷ r ≡ open_records ys ++ h ∷ s → xs ≡ ys
same_records [] [] g h r s shut shut' small small' same = refl
same_records [] (y ∷ ys) g h r s shut shut' small small' same = absurd (shut (ap (λ (l : List ℕ). get_or l 0 0) same))
same_records (x ∷ xs) [] g h r s shut shut' small small' same = absurd (shut' (sym (ap (λ (l : List ℕ). get_or l 0 0) same)))
same_records (x ∷ xs) (y ∷ ys) g h r s shut shut' small small' same =
    let flat = ap (λ (l : List ℕ). drop 1 l) (sym (open_more x xs (g ∷ r)) ∙ same ∙ open_more y ys (h ∷ s)) in
    let size_x : length (open_records (x ∷ xs)) ≡ 5 + length x + length (open_records xs) = omega (arith, length-append (record_bytes x) (open_records xs), length-record_bytes x) in
    let size_y : length (open_records (y ∷ ys)) ≡ 5 + length y + length (open_records ys) = omega (arith, length-append (record_bytes y) (open_records ys), length-record_bytes y) in
    let parts = same_parts (to_le_bytes w32 (length x)) (to_le_bytes w32 (length y)) (x ++ (open_records xs ++ g ∷ r)) (y ++ (open_records ys ++ h ∷ s)) refl flat in
    let long : length x ≡ length y = sym (from_le_bytes-to_le_bytes_4 (length x) (omega (arith, small, size_x))) ∙ ap (from_le_bytes w32) parts.0 ∙ from_le_bytes-to_le_bytes_4 (length y) (omega (arith, small', size_y)) in
    let bodies = same_parts x y (open_records xs ++ g ∷ r) (open_records ys ++ h ∷ s) long parts.1 in
    let rest = same_records xs ys g h r s shut shut' (omega (arith, small, size_x)) (omega (arith, small', size_y)) bodies.1 in
    λ i. bodies.0 i ∷ rest i

pub is_open : (side : List ℕ) (generation : ℕ) (body : List ℕ) (bodies : List (List ℕ)) → HasRecords side generation (body ∷ bodies) → IsOpenSide side generation
is_open side generation body bodies has = (
  omega (arith, ap length has.split),
  ap (λ (l : List ℕ). take 17 l) has.split,
  has.number,
)

pub holds_none : (side : List ℕ) (generation : ℕ) → HasRecords side generation [] → HoldsNone side
holds_none side generation has = inr (ap (λ (l : List ℕ). take 8 l) has.split, λ one. has.closed (sym (ap (λ (l : List ℕ). get_or l 16 0) has.split) ∙ one))

get_take : (l : List ℕ) → get_or (take 17 l) 16 0 ≡ get_or l 16 0
get_take l = get_or-take 17 l 16 0 (omega arith)

pub not_both : (side : List ℕ) (generation : ℕ) → IsOpenSide side generation → HoldsNone side → ⊥
not_both side generation opened (inl short) = omega (arith, opened.0, short)
not_both side generation opened (inr closed) = closed.1 (sym (get_take side) ∙ ap (λ (l : List ℕ). get_or l 16 0) opened.1)

pub same_number : (side : List ℕ) (g h : ℕ) → IsOpenSide side g → IsOpenSide side h → g ≡ h
same_number side g h a b =
    let heads : header g ++ 1 ∷ [] ≡ header h ++ 1 ∷ [] = sym a.1 ∙ b.1 in
    let bytes : to_le_bytes w64 g ≡ to_le_bytes w64 h = ap (λ (l : List ℕ). take 8 (drop 8 l)) heads in
    sym (from_le_bytes-to_le_bytes_8 g a.2) ∙ ap (from_le_bytes w64) bytes ∙ from_le_bytes-to_le_bytes_8 h b.2

pub length-header : (generation : ℕ) → length (header generation) ≡ 16
length-header generation = refl

pub cases_side : (side : Side) → (side ≡ Left) ⊎ (side ≡ Right)
cases_side Left = inl refl
cases_side Right = inr refl

pub left_is_not_right : Left ≡ Right → ⊥
left_is_not_right e = cc

pub other_differs : (side : Side) → other side ≢ side
other_differs Left e = cc
other_differs Right e = cc

pub not_nil : (body : List ℕ) (bodies : List (List ℕ)) → body ∷ bodies ≡ [] → ⊥
not_nil body bodies e = cc

-- the records of one side are those of no other list
pub one_list : (side : List ℕ) (g h : ℕ) (xs ys : List (List ℕ)) → HasRecords side g xs → HasRecords side h ys → ys ≡ xs
one_list side g h xs ys a b = same_records ys xs b.gate a.gate b.behind a.behind b.closed a.closed (omega (arith, b.within)) (omega (arith, a.within)) (ap (λ (l : List ℕ). drop 16 l) (sym b.split ∙ a.split))

-- two open sides do not both count
pub not_two : (sides : Sides) (g h : ℕ) → IsOpenSide (sides Left) g → IsOpenSide (sides Right) h → Yields (sides Right) Left g → Yields (sides Left) Right h → ⊥
not_two sides g h a b (inl none) less = not_both _ h b none
not_two sides g h a b (inr first) (inl none) = not_both _ g a none
not_two sides g h a b (inr first) (inr less) = omega (arith, first.2, less.2, same_number _ h first.0 b first.1, same_number _ g less.0 a less.1)

-- sides stand for one list of records
pub unique : (sides : Sides) (side : Side) (generation : ℕ) (xs ys : List (List ℕ)) → HasRecords (sides side) generation xs → Yields (sides (other side)) side generation → (xs ≡ [] → HoldsNone (sides (other side))) → Stands sides ys → ys ≡ xs
unique sides side generation [] ys has yields first (empty left right none) = none
unique sides side generation [] [] has yields first (counting s g some other_has other_yields) = refl
unique sides Left generation [] (y ∷ ys) has yields first (counting Left g some other_has other_yields) = one_list _ generation g [] (y ∷ ys) has other_has
unique sides Right generation [] (y ∷ ys) has yields first (counting Right g some other_has other_yields) = one_list _ generation g [] (y ∷ ys) has other_has
unique sides Left generation [] (y ∷ ys) has yields first (counting Right g some other_has other_yields) = absurd (not_both _ g (is_open _ g y ys other_has) (first refl))
unique sides Right generation [] (y ∷ ys) has yields first (counting Left g some other_has other_yields) = absurd (not_both _ g (is_open _ g y ys other_has) (first refl))
unique sides Left generation (x ∷ xs) ys has yields first (empty left right none) = absurd (not_both _ generation (is_open _ generation x xs has) left)
unique sides Right generation (x ∷ xs) ys has yields first (empty left right none) = absurd (not_both _ generation (is_open _ generation x xs has) right)
unique sides side generation (x ∷ xs) [] has yields first (counting s g some other_has other_yields) = absurd (some refl)
unique sides Left generation (x ∷ xs) (y ∷ ys) has yields first (counting Left g some other_has other_yields) = one_list _ generation g (x ∷ xs) (y ∷ ys) has other_has
unique sides Right generation (x ∷ xs) (y ∷ ys) has yields first (counting Right g some other_has other_yields) = one_list _ generation g (x ∷ xs) (y ∷ ys) has other_has
unique sides Left generation (x ∷ xs) (y ∷ ys) has yields first (counting Right g some other_has other_yields) =
    absurd (not_two sides generation g (is_open _ generation x xs has) (is_open _ g y ys other_has) yields other_yields)
unique sides Right generation (x ∷ xs) (y ∷ ys) has yields first (counting Left g some other_has other_yields) =
    absurd (not_two sides g generation (is_open _ g y ys other_has) (is_open _ generation x xs has) other_yields yields)

-- a side that counts, or two that hold no project
pub stands_if : (c : Sides) (side : Side) (generation : ℕ) (bodies : List (List ℕ)) → HasRecords (c side) generation bodies → Yields (c (other side)) side generation
    → (bodies ≡ [] → (side ≡ Left) × HoldsNone (c (other side))) → Stands c bodies
stands_if c side generation [] has yields first =
    let none = first refl in
    empty (holds_none _ generation (subst (λ s. HasRecords (c s) generation []) none.0 has)) (subst (λ s. HoldsNone (c (other s))) none.0 none.1) refl
stands_if c side generation (body ∷ bodies) has yields first = counting side generation (λ e. not_nil body bodies e) has yields

-- the same, with the side and its generation
pub stands_at_if : (c : Sides) (side : Side) (generation : ℕ) (bodies : List (List ℕ)) → HasRecords (c side) generation bodies → Yields (c (other side)) side generation
    → (bodies ≡ [] → (side ≡ Left) × HoldsNone (c (other side))) → StandsAt c side generation bodies
stands_at_if c side generation [] has yields first =
    let none = first refl in
    (holds_none _ generation (subst (λ s. HasRecords (c s) generation []) none.0 has), subst (λ s. HoldsNone (c (other s))) none.0 none.1)
stands_at_if c side generation (body ∷ bodies) has yields first = (has, yields)

pub stands_at_some : (c : Sides) (side : Side) (generation : ℕ) (bodies : List (List ℕ)) → bodies ≢ [] → HasRecords (c side) generation bodies → Yields (c (other side)) side generation → StandsAt c side generation bodies
stands_at_some c side generation [] some has yields = absurd (some refl)
stands_at_some c side generation (body ∷ bodies) some has yields = (has, yields)

-- what stands on a side stands
pub stands_of : (c : Sides) (side : Side) (generation : ℕ) (bodies : List (List ℕ)) → StandsAt c side generation bodies → Stands c bodies
stands_of c side generation [] at = empty at.0 at.1 refl
stands_of c side generation (body ∷ bodies) at = counting side generation (λ e. not_nil body bodies e) at.0 at.1

pub none_of : (l : List ℕ) → IsShut l → HoldsNone l
none_of l shut = inr (shut.named, shut.shut)

pub yields_of : (b : Bool) (l : List ℕ) (side : Side) (generation : ℕ) → (b ≡ false → IsShut l) → (b ≡ true → IsOlder l side generation) → Yields l side generation
yields_of false l side generation shut older = inl (none_of l (shut refl))
yields_of true l side generation shut older = inr (older refl)

-- a side with these records, and then a closed gate at this offset
pub record Ends (l : List ℕ) (generation : ℕ) (bodies : List (List ℕ)) (gate : ℕ) : Type 0 where
  pub byte : ℕ
  pub behind : List ℕ
  pub current : l ≡ header generation ++ open_records bodies ++ byte ∷ behind
  pub closed : byte ≢ 1
  pub at : gate ≡ 16 + length (open_records bodies)

module _ (l : List ℕ) (generation : ℕ) (bodies : List (List ℕ)) (gate : ℕ) (ends : Ends l generation bodies gate) where
  abbrev F : List ℕ
  F = header generation ++ open_records bodies

  long : length F ≡ gate
  long = length-append (header generation) (open_records bodies) ∙ ap (λ (n : ℕ). n + length (open_records bodies)) (length-header generation) ∙ sym ends.at

  closed_front : take (gate + 1) l ≡ F ++ ends.byte ∷ []
  closed_front =
      let size : length (F ++ ends.byte ∷ []) ≡ gate + 1 = length-append F (ends.byte ∷ []) ∙ ap (λ (n : ℕ). n + 1) long in
      ap (λ (s : List ℕ). take (gate + 1) s) (ends.current ∙ sym (append_assoc F (ends.byte ∷ []) ends.behind)) ∙ take_at (F ++ ends.byte ∷ []) ends.behind (gate + 1) size

  pub gate_inside : gate + 1 ≤ length l
  gate_inside =
      let size : length l ≡ length F + suc (length ends.behind) = ap length ends.current ∙ length-append F (ends.byte ∷ ends.behind) in
      omega (arith, size, long)

  -- a side with this front has these records
  pub still_has : (c : List ℕ) → gate < 67108864 → generation < 2 ^ 64 → take (gate + 1) c ≡ take (gate + 1) l → HasRecords c generation bodies
  still_has c within number same = record {
    gate = ends.byte;
    behind = drop (gate + 1) c;
    split = sym (take-append-drop (gate + 1) c) ∙ ap (λ (s : List ℕ). s ++ drop (gate + 1) c) (same ∙ closed_front) ∙ append_assoc F (ends.byte ∷ []) (drop (gate + 1) c);
    closed = ends.closed;
    within = omega (arith, ends.at, within);
    number = number;
  }

  module _ (body : List ℕ) (fits : gate + 6 + length body ≤ 67108864) (mid : List ℕ) (staged : IsWritten (gate + 1) (record_bytes body ++ 0 ∷ []) l mid) where
    abbrev tail : List ℕ
    tail = record_bytes body ++ (0 ∷ staged.0)

    mid_is : mid ≡ F ++ (ends.byte ∷ tail)
    mid_is =
        staged.1
        ∙ ap (λ (s : List ℕ). take (gate + 1) l ++ s) (append_assoc (record_bytes body) (0 ∷ []) staged.0)
        ∙ ap (λ (s : List ℕ). s ++ tail) closed_front
        ∙ append_assoc F (ends.byte ∷ []) tail

    pub inside : gate < length mid
    inside =
        let size : length mid ≡ length F + suc (length tail) = ap length mid_is ∙ length-append F (ends.byte ∷ tail) in
        omega (arith, size, long)

    -- the side with this byte at the gate
    gated_is : (x : ℕ) → overwritten gate (x ∷ []) mid ≡ F ++ (x ∷ tail)
    gated_is x =
        let front : take gate mid ≡ F = ap (λ (s : List ℕ). take gate s) mid_is ∙ take_at F (ends.byte ∷ tail) gate long in
        let size : length (F ++ ends.byte ∷ []) ≡ gate + 1 = length-append F (ends.byte ∷ []) ∙ ap (λ (n : ℕ). n + 1) long in
        let back : drop (gate + 1) mid ≡ tail =
        ap (λ (s : List ℕ). drop (gate + 1) s) (mid_is ∙ sym (append_assoc F (ends.byte ∷ []) tail)) ∙ drop_at (F ++ ends.byte ∷ []) tail (gate + 1) size in
        λ i. front i ++ (x ∷ back i)

    opened_is : overwritten gate (1 ∷ []) mid ≡ header generation ++ open_records (bodies ++ body ∷ []) ++ 0 ∷ staged.0
    opened_is =
        gated_is 1
        ∙ append_assoc (header generation) (open_records bodies) (1 ∷ tail)
        ∙ ap (λ (s : List ℕ). header generation ++ s) (sym (open_last bodies body (0 ∷ staged.0)))
        ∙ sym (append_assoc (header generation) (open_records (bodies ++ body ∷ [])) (0 ∷ staged.0))

    -- once the gate is open the side has the new record too
    pub added_has : (c : List ℕ) → generation < 2 ^ 64 → c ≡ overwritten gate (1 ∷ []) mid → HasRecords c generation (bodies ++ body ∷ [])
    added_has c number is = record {
      gate = 0;
      behind = staged.0;
      split = is ∙ opened_is;
      closed = omega arith;
      within = omega (arith, ends.at, fits, length-open_last bodies body);
      number = number;
    }

    -- and before it has the old ones
    pub closed_has : (c : List ℕ) (x : ℕ) → gate < 67108864 → generation < 2 ^ 64 → x ≢ 1 → c ≡ overwritten gate (x ∷ []) mid → HasRecords c generation bodies
    closed_has c x within number shut is = record {
      gate = x;
      behind = tail;
      split = is ∙ gated_is x;
      closed = shut;
      within = omega (arith, ends.at, within);
      number = number;
    }

    pub ends_again : (c : List ℕ) → c ≡ overwritten gate (1 ∷ []) mid → Ends c generation (bodies ++ body ∷ []) (gate + (5 + length body))
    ends_again c is = record {
      byte = 0;
      behind = staged.0;
      current = is ∙ opened_is;
      closed = omega arith;
      at = omega (arith, ends.at, length-open_last bodies body);
    }

pub not_empty : (bodies : List (List ℕ)) (body : List ℕ) → bodies ++ body ∷ [] ≡ [] → ⊥
not_empty bodies body e = let size : length (bodies ++ body ∷ []) ≡ 0 = ap length e in omega (arith, size, length-append bodies (body ∷ []))

module _ (bytes : Sides) (images : Sides → Type 0) (side : Side) (gate generation : ℕ) (rest_open : Bool) (rest : IsAtRest bytes images side gate generation rest_open) (within : gate < 67108864) (number : generation < 2 ^ 64) where
  pub ends : Ends (bytes side) generation rest.bodies gate
  ends = record { byte = rest.byte; behind = rest.behind; current = rest.current; closed = rest.closed; at = rest.at }

  pub rest_yields : Yields (bytes (other side)) side generation
  rest_yields = yields_of rest_open (bytes (other side)) side generation rest.shut rest.older

  pub none_first : rest.bodies ≡ [] → HoldsNone (bytes (other side))
  none_first e = none_of (bytes (other side)) (rest.shut (rest.first e).1)

  -- a disk whose other side is as it was stands for the records of the current side
  stands_as : (c : Sides) (bodies : List (List ℕ)) → HasRecords (c side) generation bodies → ((s : Side) → s ≢ side → c s ≡ bytes s) → (bodies ≡ [] → rest.bodies ≡ []) → StandsAt c side generation bodies
  stands_as c bodies has stays same =
      let unmoved : c (other side) ≡ bytes (other side) = stays (other side) (other_differs side) in
      stands_at_if c side generation bodies has (subst (λ l. Yields l side generation) (sym unmoved) rest_yields)
      (λ e. ((rest.first (same e)).0, subst HoldsNone (sym unmoved) (none_first (same e))))

  pub reaches_gate : gate + 1 ≤ length (bytes side)
  reaches_gate = gate_inside (bytes side) generation rest.bodies gate ends

  -- before the gate is opened they are the old ones
  pub still : (c : Sides) → HasFront side (gate + 1) bytes c → StandsAt c side generation rest.bodies
  still c has = stands_as c rest.bodies (still_has (bytes side) generation rest.bodies gate ends (c side) within number has.front) has.stays (λ e. e)

  module _ (body : List ℕ) (fits : gate + 6 + length body ≤ 67108864) (mid : Sides) (staged : IsWritten (gate + 1) (record_bytes body ++ 0 ∷ []) (bytes side) (mid side)) (kept : (s : Side) → s ≢ side → mid s ≡ bytes s) where
    pub inside_gate : gate < length (mid side)
    inside_gate = inside (bytes side) generation rest.bodies gate ends body fits (mid side) staged

    -- and once it is open the new one is among them
    pub added : (c : Sides) → c side ≡ overwritten gate (1 ∷ []) (mid side) → ((s : Side) → s ≢ side → c s ≡ mid s) → StandsAt c side generation (rest.bodies ++ body ∷ [])
    added c is stays = stands_as c (rest.bodies ++ body ∷ []) (added_has (bytes side) generation rest.bodies gate ends body fits (mid side) staged (c side) number is)
        (λ s no. stays s no ∙ kept s no) (λ e. absurd (not_empty rest.bodies body e))

    pub either : (c : Sides) → HasGate side gate mid c → IsBeforeOrAfterAppend side generation rest.bodies body c
    either c gated = elim (cases_eq gated.byte 1) [
      | inl opened ↦ inr (added c (gated.changed ∙ ap (λ (x : ℕ). overwritten gate (x ∷ []) (mid side)) opened) gated.stays)
      | inr shut ↦ inl (stands_as c rest.bodies (closed_has (bytes side) generation rest.bodies gate ends body fits (mid side) staged (c side) gated.byte within number shut gated.changed)
          (λ s no. gated.stays s no ∙ kept s no) (λ e. e))
    ]

    -- the journal is at rest again
    pub at_rest_again : (now : Sides) (images' : Sides → Type 0) → now side ≡ overwritten gate (1 ∷ []) (mid side) → ((s : Side) → s ≢ side → now s ≡ mid s) → Only now images' → IsAtRest now images' side (gate + (5 + length body)) generation rest_open
    at_rest_again now images' is stays only =
        let again = ends_again (bytes side) generation rest.bodies gate ends body fits (mid side) staged (now side) is in
        let unmoved : now (other side) ≡ bytes (other side) = stays (other side) (other_differs side) ∙ kept (other side) (other_differs side) in
        record {
          bodies = rest.bodies ++ body ∷ [];
          byte = again.byte;
          behind = again.behind;
          closed = again.closed;
          current = again.current;
          at = again.at;
          shut = λ e. subst IsShut (sym unmoved) (rest.shut e);
          older = λ e. subst (λ l. IsOlder l side generation) (sym unmoved) (rest.older e);
          first = λ e. absurd (not_empty rest.bodies body e);
          only = only;
        }

  -- the records are these alone
  pub same_bodies : (bodies : List (List ℕ)) → Stands bytes bodies → bodies ≡ rest.bodies
  same_bodies bodies stands = unique bytes side generation rest.bodies bodies
      (still_has (bytes side) generation rest.bodies gate ends (bytes side) within number refl) rest_yields none_first stands

  -- the records that stand on the current side are these alone
  pub same_at : (bodies : List (List ℕ)) → StandsAt bytes side generation bodies → bodies ≡ rest.bodies
  same_at bodies stands = same_bodies bodies (stands_of bytes side generation bodies stands)

  -- what stands, stands on the current side
  pub here_at : (bodies : List (List ℕ)) → Stands bytes bodies → StandsAt bytes side generation bodies
  here_at bodies stands = subst (λ bs. StandsAt bytes side generation bs) (sym (same_bodies bodies stands))
      (stands_as bytes rest.bodies (still_has (bytes side) generation rest.bodies gate ends (bytes side) within number refl) (λ s no. refl) (λ e. e))

  -- and the current side has them
  pub current_has : (bodies : List (List ℕ)) → Stands bytes bodies → HasRecords (bytes side) generation bodies
  current_has bodies stands = subst (HasRecords (bytes side) generation) (sym (same_bodies bodies stands)) (still_has (bytes side) generation rest.bodies gate ends (bytes side) within number refl)

-- sides with the same bytes stand for the same records
pub stands_same : (a b : Sides) (bodies : List (List ℕ)) → ((s : Side) → a s ≡ b s) → Stands b bodies → Stands a bodies
stands_same a b bodies same stands = subst (λ (c : Sides). Stands c bodies) (λ i s. sym (same s) i) stands

pub stands_at_same : (a b : Sides) (side : Side) (generation : ℕ) (bodies : List (List ℕ)) → ((s : Side) → a s ≡ b s) → StandsAt b side generation bodies → StandsAt a side generation bodies
stands_at_same a b side generation bodies same stands = subst (λ (c : Sides). StandsAt c side generation bodies) (λ i s. sym (same s) i) stands

-- a side that holds no project may hold none in another way
pub quiet : (old new : Sides) (side : Side) (bodies : List (List ℕ)) → HoldsNone (old side) → HoldsNone (new side) → ((s : Side) → s ≢ side → new s ≡ old s) → Stands old bodies → Stands new bodies
quiet old new Left bodies none still_none stays (empty left right is) = empty still_none (subst HoldsNone (sym (stays Right (λ e. left_is_not_right (sym e)))) right) is
quiet old new Right bodies none still_none stays (empty left right is) = empty (subst HoldsNone (sym (stays Left left_is_not_right)) left) still_none is
quiet old new Left bodies none still_none stays (counting Right g some has yields) =
    counting Right g some (subst (λ l. HasRecords l g bodies) (sym (stays Right (λ e. left_is_not_right (sym e)))) has) (inl still_none)
quiet old new Right bodies none still_none stays (counting Left g some has yields) =
    counting Left g some (subst (λ l. HasRecords l g bodies) (sym (stays Left left_is_not_right)) has) (inl still_none)
quiet old new Left [] none still_none stays (counting Left g some has yields) = absurd (some refl)
quiet old new Left (x ∷ xs) none still_none stays (counting Left g some has yields) = absurd (not_both _ g (is_open _ g x xs has) none)
quiet old new Right [] none still_none stays (counting Right g some has yields) = absurd (some refl)
quiet old new Right (x ∷ xs) none still_none stays (counting Right g some has yields) = absurd (not_both _ g (is_open _ g x xs has) none)
